-- The kinds of names in the code of a script, and in code with lanes.
use Rattle.std.proofs.Common.{◌≡◌, ℕ, zero, suc, Bool, true, false, not, ◌&&◌, List, [], ◌∷◌, Option, Some, None, map, refl, ap}
use Rattle.std.specs.Prelude.{slice_get}
use Rattle.std.proofs.lemmas.Option.{none-some}
use Rattle.folding.specs.Folding.{folded_routine}
use Rattle.mid_program.specs.Mid.{Boxed, Declared, Kind, ArrayKind, Routine, Unboxed, parameters_at}
use Rattle.sem_scripts.specs.Names.{Function, Name, Resolved, function_at}
use Rattle.mid_program.specs.Sorted.{has_kind, is_mixed, kinds_of, mixed_of, scalar_kind}
use Rattle.mid_program.specs.Translation.{declared_code, kind_of, routine_code}
use Rattle.value_kinds.specs.Applied.{globals_with, is_unboxed, kind_with, kinds_with, routines_with}
use Rattle.value_kinds.specs.Found.{is_scalar}
use Rattle.value_kinds.specs.Unboxed.{scalar_name}
use Rattle.value_kinds.proofs.Forms.{clash}

some_is : (m n : Name) → Some m ≡ Some n → m ≡ n
some_is m n h = λ i. or_that (h i)
  where
    or_that : Option Name → Name
    or_that (Some k) = k
    or_that None = m

-- names that are no arrays are scalars
pub scalars : (ns : List Name) (i : ℕ) (x : List ℕ) → slice_get ns i ≡ Some (scalar_name x) → is_scalar (map kind_of ns) i ≡ true
scalars [] i x h = absurd (none-some (scalar_name x) h)
scalars (n ∷ ns) zero x h = ap (λ (m : Name). is_scalar (kind_of m ∷ map kind_of ns) zero) (some_is n (scalar_name x) h)
scalars (n ∷ ns) (suc i) x h = after (kind_of n) (scalars ns i x h)
  where
    after : (k : Kind) → is_scalar (map kind_of ns) i ≡ true → is_scalar (k ∷ map kind_of ns) (suc i) ≡ true
    after ArrayKind e = e
    after Boxed e = e
    after Unboxed e = e

pub declared_kinds : (ns : List Name) → kinds_of (map declared_code ns) ≡ map kind_of ns
declared_kinds [] = refl
declared_kinds (n ∷ ns) = ap (λ (ks : List Kind). kind_of n ∷ ks) (declared_kinds ns)

abbrev pub parameters_of : List Routine → List (List Kind)
parameters_of rs = map (λ (r : Routine). r.parameters) rs

pub function_scalars : (texts : List (List ℕ)) (script : Resolved) (fs : List Function) (f i : ℕ) (x : List ℕ) → slice_get (function_at fs f).parameters i ≡ Some (scalar_name x) →
    is_scalar (parameters_at (parameters_of (map folded_routine (map (routine_code texts script) fs))) f) i ≡ true
function_scalars texts script [] f i x h = absurd (none-some (scalar_name x) h)
function_scalars texts script (r ∷ rs) zero i x h = scalars r.parameters i x h
function_scalars texts script (r ∷ rs) (suc f) i x h = function_scalars texts script rs f i x h

-- with lanes

kind_unboxed : (u : Bool) (k : Kind) (ks js : List Kind) → u ≡ true → is_scalar (k ∷ ks) zero ≡ true → has_kind (kind_with u k ∷ js) zero Unboxed ≡ true
kind_unboxed u ArrayKind ks js e s = clash s
kind_unboxed u Boxed ks js e s = ap (λ (b : Bool). has_kind (scalar_kind b ∷ js) zero Unboxed) e
kind_unboxed u Unboxed ks js e s = ap (λ (b : Bool). has_kind (scalar_kind b ∷ js) zero Unboxed) e

later : (k : Kind) (ks : List Kind) (i : ℕ) → is_scalar (k ∷ ks) (suc i) ≡ true → is_scalar ks i ≡ true
later ArrayKind ks i h = h
later Boxed ks i h = h
later Unboxed ks i h = h

pub globals_unboxed : (u n : ℕ → Bool) (ds : List Declared) (i : ℕ) → u i ≡ true → is_scalar (kinds_of ds) i ≡ true → has_kind (kinds_of (globals_with u n ds)) i Unboxed ≡ true
globals_unboxed u n [] i e s = clash s
globals_unboxed u n (d ∷ ds) zero e s = kind_unboxed (u zero) d.kind (kinds_of ds) (kinds_of (globals_with (λ j. u (suc j)) (λ j. n (suc j)) ds)) e s
globals_unboxed u n (d ∷ ds) (suc i) e s = globals_unboxed (λ j. u (suc j)) (λ j. n (suc j)) ds i e (later d.kind (kinds_of ds) i s)

without : (u n : Bool) → n ≡ true → (u && not n) ≡ false
without true true h = refl
without true false h = clash h
without false n h = refl

pub globals_not_mixed : (u n : ℕ → Bool) (ds : List Declared) (i : ℕ) → n i ≡ true → is_mixed (mixed_of (globals_with u n ds)) i ≡ false
globals_not_mixed u n [] i e = refl
globals_not_mixed u n (d ∷ ds) zero e = without (u zero) (n zero) e
globals_not_mixed u n (d ∷ ds) (suc i) e = globals_not_mixed (λ j. u (suc j)) (λ j. n (suc j)) ds i e

kinds_unboxed : (u : ℕ → Bool) (ks : List Kind) (i : ℕ) → u i ≡ true → is_scalar ks i ≡ true → has_kind (kinds_with u ks) i Unboxed ≡ true
kinds_unboxed u [] i e s = clash s
kinds_unboxed u (k ∷ ks) zero e s = kind_unboxed (u zero) k ks (kinds_with (λ j. u (suc j)) ks) e s
kinds_unboxed u (k ∷ ks) (suc i) e s = kinds_unboxed (λ j. u (suc j)) ks i e (later k ks i s)

pub parameters_unboxed : (gs : List Kind) (ps : ℕ → List Kind) (rs : List Routine) (f i : ℕ) → is_unboxed (ps f) i ≡ true → is_scalar (parameters_at (parameters_of rs) f) i ≡ true →
    has_kind (parameters_at (parameters_of (routines_with gs ps rs)) f) i Unboxed ≡ true
parameters_unboxed gs ps [] f i e s = clash s
parameters_unboxed gs ps (r ∷ rs) zero i e s = kinds_unboxed (is_unboxed (ps zero)) r.parameters i e s
parameters_unboxed gs ps (r ∷ rs) (suc f) i e s = parameters_unboxed gs (λ k. ps (suc k)) rs f i e s
