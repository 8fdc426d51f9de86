-- A run of a program's code fits the sizes of its functions, from the beginning on.
use Rattle.std.proofs.Common.{◌≡◌, ℕ, zero, suc, ◌+◌, List, [], ◌∷◌, ◌++◌, length, map, replicate, None, Some, slice_get, refl, ap, subst, arith}
use Rattle.std.specs.List.{All, AllByRecursion as ByRecursion, Contains}
use Rattle.std.proofs.lemmas.List.{length-map}
use Rattle.std.proofs.lemmas.List.Elements.{All-cons, All-nil, All-weaker, Contains-append_left, Contains-push, recursion_from_All}
use Rattle.std.proofs.lemmas.Option.{get_or_from_slice_get, none-some, slice_get_within}
use Rattle.wasm_store.specs.Words.{zero_of}
use Rattle.mid_program.specs.Mid.{Kind, Program}
use Rattle.sem_scripts.specs.ScriptRun.{Setting}
use Rattle.mid_program.specs.Sorted.{kinds_of}
use Rattle.lower_model.specs.Cells.{Bits}
use Rattle.lower_model.specs.Functions.{main_callee, routine_callee}
use Rattle.lower_model.specs.Machine.{Callee, go, zeros}
use Rattle.lower_model.specs.Modules.{all_callees, globals_of, name_globals, word_global}
use Rattle.lower_model.specs.Runs.{begun, code_of, empty_names, first_globals, host_at_start, zero_ranges}
use Rattle.agreement.proofs.RefinedLemmas.ImportAnswers.{some_of}
use Rattle.agreement.specs.Places.Places.{IsWithin, size}
use Rattle.agreement.proofs.PlacesLemmas.Fitting.{Fits, at_fits, go_fits}

names_length : (ks : List Kind) → length (empty_names ks) ≡ length (name_globals ks)
names_length [] = refl
names_length (k ∷ ks) = ap (λ n. suc (suc n)) (names_length ks)

ranges_length : (n : ℕ) (ks : List Kind) → length (zero_ranges n ++ empty_names ks) ≡ length (replicate n (word_global 0) ++ name_globals ks)
ranges_length zero ks = names_length ks
ranges_length (suc n) ks = ap suc (ranges_length n ks)

-- The functions, and `main` after them.

of_each : {A : Type 0} (P : A → Type 0) (xs ys : List A) (k : ℕ) (a : A) → ByRecursion P (xs ++ ys) → slice_get xs k ≡ Some a → P a
of_each P [] ys k a h e = absurd (none-some a e)
of_each P (x ∷ xs) ys zero a h e = subst P (some_of x a e) h.0
of_each P (x ∷ xs) ys (suc k) a h e = of_each P xs ys k a h.1 e

of_last : {A : Type 0} (P : A → Type 0) (xs : List A) (a : A) → ByRecursion P (xs ++ a ∷ []) → P a
of_last P [] a h = h.0
of_last P (x ∷ xs) a h = of_last P xs a h.1

pub contained : {A : Type 0} (xs : List A) (k : ℕ) (a : A) → slice_get xs k ≡ Some a → Contains xs a
contained xs k a e = (k, slice_get_within xs k a e, get_or_from_slice_get xs k a a e)

-- these parameters are a function's
abbrev pub OfFunction : Program → List Kind → Type 0
OfFunction p ks = (f : Callee) × Contains (all_callees p) f × (f.kinds ≡ ks)

module _ (p : Program) (instructions places : ℕ) (small : All (IsWithin places instructions) (all_callees p)) (s : Setting) where
  within : ByRecursion (IsWithin places instructions) (all_callees p)
  within = recursion_from_All (IsWithin places instructions) (all_callees p) small

  begun_fits : Fits (code_of p 9999) instructions places (length (globals_of p)) (OfFunction p) (begun p s)
  begun_fits =
      let m = main_callee p in
      let w = of_last (IsWithin places instructions) (map (routine_callee p) p.routines) m within in
      let l = w.locals in
      let c = w.code in
      let e = length-map m.locals (λ t. Bits (zero_of t)) in
      let g = ranges_length p.ranges (kinds_of p.globals) in
      at_fits (code_of p 9999) instructions places (length (globals_of p)) (OfFunction p) [] [] [] (zeros m.locals) [] m.body (record { globals = first_globals p; host = host_at_start s; assigning = None }) (omega (arith, c))
      (record {
        kinds = (m, Contains-push (map (routine_callee p) p.routines) m, refl);
        labels = tt;
        locals = omega (arith, e, l);
        frames = tt;
        depth = omega arith;
        shared = omega (arith, g);
      })

  called_fits : (k : ℕ) (f : Callee) → slice_get (map (routine_callee p) p.routines) k ≡ Some f → OfFunction p f.kinds × IsWithin places instructions f
  called_fits k f e = (
    (f, Contains-append_left (map (routine_callee p) p.routines) (main_callee p ∷ []) f (contained (map (routine_callee p) p.routines) k f e), refl),
    of_each (IsWithin places instructions) (map (routine_callee p) p.routines) (main_callee p ∷ []) k f within e,
  )

  pub fits_on : (n : ℕ) → Fits (code_of p 9999) instructions places (length (globals_of p)) (OfFunction p) (go (code_of p 9999) n (begun p s))
  fits_on n = go_fits (code_of p 9999) instructions places (length (globals_of p)) (OfFunction p) called_fits n (begun p s) begun_fits

-- there are numbers that bound the sizes of functions
pub some_within : (fs : List Callee) → (places : ℕ) × (instructions : ℕ) × All (IsWithin places instructions) fs
some_within [] = (0, 0, All-nil (IsWithin 0 0))
some_within (f ∷ fs) =
    let r = some_within fs in
    let l = length f.kinds + length f.locals in
    let w = r.0 + l in
    let i = r.1 + size f.body in (
      w,
      i,
      All-cons (IsWithin w i) f fs (record { locals = omega arith; code = omega arith })
          (All-weaker (IsWithin r.0 r.1) (IsWithin w i) (λ g h. let a = h.locals in let b = h.code in record { locals = omega (arith, a); code = omega (arith, b) }) fs r.2),
    )
