-- Single instructions on globals.
use Rattle.std.proofs.Common.{◌≡◌, ℕ, zero, suc, ◌+◌, ◌-◌, Bool, true, false, List, [], ◌∷◌, length, Option, Some, None, refl, ap, ap₂, ◌∙◌, arith}
use Rattle.std.specs.Prelude.{set, get_or, not, ◌&&◌, ◌||◌}
use Rattle.std.proofs.lemmas.Bool.{eq-eqb, or_right}
use Rattle.wasm_types.specs.Syntax.{Instructions}
use Rattle.wasm_types.specs.declared.instr.Simple.TheVariants.{GlobalGet, GlobalSet}
use Rattle.mid_program.specs.Mid.{Kind, Unboxed, Declared}
use Rattle.mid_program.specs.Sorted.{same_kind, is_mixed, kinds_of, mixed_of}
use Rattle.lower_model.specs.Cells.{Cell, Gone, is_owned, is_word, is_gone, bare_names, is_bare_handle, is_handle_of, may_come, read_global, left_in_global, has_room}
use Rattle.lower_model.specs.ImportCalls.{Host}
use Rattle.lower_model.specs.Machine.{Code, Label, Frame, Store, assigning_then, at, guarded}
use Rattle.lower_model.specs.Places.{handle_global}
use Rattle.lower_model.specs.Small.{emit}
use Rattle.lower_model.proofs.Runs.{Goes, goes_to}
use Rattle.lower_model.proofs.Globals.{Globals, Global, global_of, IsGlobal, has_global, with_global_at, has_global_with, placed, placed_at, placed_set, placed_again, global_there}
use Rattle.lower_model.proofs.State.{kind_here}

abbrev pub storing : List Cell → Host → Store
storing globals host = record { globals = globals; host = host; assigning = None }

-- while code makes an assignment of the command line
abbrev pub while_assigning : Option ℕ → Store → Store
while_assigning name G = record G { assigning = name }

global_roomy : (ranges names : ℕ) (g : Globals) (p : Global) → IsGlobal ranges names p → is_owned (has_global ranges names g p) ≡ false → has_room (placed ranges names g) (global_of ranges names p) ≡ true
global_roomy ranges names g p h e = ap₂ (λ x y. x && not y) (global_there ranges names g p h) (ap is_owned (placed_at ranges names g p h) ∙ e)

-- What may come into a global: back to where it was moved from, to the name that is assigned to, and to a name that has no number.

pub comes_back : (ranges names : ℕ) (bs : List Bool) (name : Option ℕ) (g : Globals) (p : Global) (new : Cell) →
    may_come (suc (suc (suc ranges))) bs name (global_of ranges names p) (has_global ranges names (with_global_at ranges names g p Gone) p) new ≡ true
comes_back ranges names bs name g p new =
    ap (λ c. may_come (suc (suc (suc ranges))) bs name (global_of ranges names p) c new) (has_global_with ranges names g p Gone) ∙ or_right (is_word new) true refl

pub assigned_comes : (ranges : ℕ) (bs : List Bool) (i : ℕ) (old new : Cell) → may_come (suc (suc (suc ranges))) bs (Some i) (handle_global ranges i) old new ≡ true
assigned_comes ranges bs i old new =
    let x : handle_global ranges i - suc (suc (suc ranges)) ≡ i + i = omega arith in
    ap (λ z. is_word new || (is_gone old || (not (is_bare_handle bs z) || is_handle_of (Some i) z))) x
    ∙ or_right (is_word new) _ (or_right (is_gone old) _ (or_right (not (is_bare_handle bs (i + i))) _ (eq-eqb (i + i) (i + i) refl)))

pub bare_handle_is : (bs : List Bool) (i : ℕ) → is_bare_handle bs (i + i) ≡ get_or bs i false
bare_handle_is [] i = refl
bare_handle_is (b ∷ bs) zero = refl
bare_handle_is (b ∷ bs) (suc i) = ap (is_bare_handle (b ∷ bs)) (two i) ∙ bare_handle_is bs i
  where
    two : (i : ℕ) → suc i + suc i ≡ suc (suc (i + i))
    two i = omega arith

pub bare_here : (ds : List Declared) (i : ℕ) → get_or (bare_names ds) i false ≡ (same_kind (kind_here (kinds_of ds) i) Unboxed && not (is_mixed (mixed_of ds) i))
bare_here [] i = refl
bare_here (d ∷ ds) zero = refl
bare_here (d ∷ ds) (suc i) = bare_here ds i

pub free_comes : (ranges : ℕ) (bs : List Bool) (name : Option ℕ) (i : ℕ) (old new : Cell) → get_or bs i false ≡ false → may_come (suc (suc (suc ranges))) bs name (handle_global ranges i) old new ≡ true
free_comes ranges bs name i old new e =
    let x : handle_global ranges i - suc (suc (suc ranges)) ≡ i + i = omega arith in
    ap (λ z. is_word new || (is_gone old || (not (is_bare_handle bs z) || is_handle_of name z))) x
    ∙ (ap (λ t. is_word new || (is_gone old || (not t || is_handle_of name (i + i)))) (bare_handle_is bs i ∙ e)
    ∙ or_right (is_word new) _ (or_right (is_gone old) true refl))

pub boxed_comes : (ranges : ℕ) (ds : List Declared) (name : Option ℕ) (i : ℕ) (old new : Cell) → same_kind (kind_here (kinds_of ds) i) Unboxed ≡ false →
    may_come (suc (suc (suc ranges))) (bare_names ds) name (handle_global ranges i) old new ≡ true
boxed_comes ranges ds name i old new e = free_comes ranges (bare_names ds) name i old new (bare_here ds i ∙ ap (λ b. b && not (is_mixed (mixed_of ds) i)) e)

pub mixed_comes : (ranges : ℕ) (ds : List Declared) (name : Option ℕ) (i : ℕ) (old new : Cell) → is_mixed (mixed_of ds) i ≡ true →
    may_come (suc (suc (suc ranges))) (bare_names ds) name (handle_global ranges i) old new ≡ true
mixed_comes ranges ds name i old new e =
    let k = same_kind (kind_here (kinds_of ds) i) Unboxed in
    free_comes ranges (bare_names ds) name i old new (bare_here ds i ∙ (ap (λ b. k && not b) e ∙ and_false k))
  where
    and_false : (b : Bool) → (b && false) ≡ false
    and_false true = refl
    and_false false = refl

module _ {u : Code} {ks : List Kind} {F : List Frame} (ranges names : ℕ) where
  pub global_moved : {vs : List Cell} {K : List Label} {L : List Cell} {c : Instructions} {o : Host} {name : Option ℕ} → (g : Globals) (p : Global) (v : Cell) → IsGlobal ranges names p → has_global ranges names g p ≡ v →
      Goes u 1 (at ks vs K L F (emit (GlobalGet (global_of ranges names p)) c) (while_assigning name (storing (placed ranges names g) o)))
      (at ks (read_global v ∷ vs) K L F c (while_assigning name (storing (placed ranges names (with_global_at ranges names g p (left_in_global v))) o)))
  global_moved {vs = vs} {K = K} {L = L} {c = c} {o = o} {name = name} g p v h e =
      let gs = placed ranges names g in
      let x = global_of ranges names p in
      record {
        it =
            ap (λ w. at ks (read_global w ∷ vs) K L F c (while_assigning name (storing (set gs x (left_in_global w)) o))) (placed_at ranges names g p h ∙ e)
            ∙ ap (λ m. at ks (read_global v ∷ vs) K L F c (while_assigning name (storing m o))) (placed_set ranges names g p (left_in_global v) h);
      }

  -- what is not owned, and an array, stays where it is
  pub global_copied : {vs : List Cell} {K : List Label} {L : List Cell} {c : Instructions} {o : Host} {name : Option ℕ} → (g : Globals) (p : Global) (v : Cell) → IsGlobal ranges names p → has_global ranges names g p ≡ v → left_in_global v ≡ v →
      Goes u 1 (at ks vs K L F (emit (GlobalGet (global_of ranges names p)) c) (while_assigning name (storing (placed ranges names g) o))) (at ks (read_global v ∷ vs) K L F c (while_assigning name (storing (placed ranges names g) o)))
  global_copied {vs = vs} {K = K} {L = L} {c = c} {o = o} {name = name} g p v h e s =
      goes_to (global_moved g p v h e)
      (ap (λ w. at ks (read_global v ∷ vs) K L F c (while_assigning name (storing (placed ranges names (with_global_at ranges names g p w)) o))) s
      ∙ ap (λ m. at ks (read_global v ∷ vs) K L F c (while_assigning name (storing m o))) (placed_again ranges names g p v h e))

  pub global_set_ok : {vs : List Cell} {K : List Label} {L : List Cell} {c : Instructions} {o : Host} {name : Option ℕ} → (g : Globals) (p : Global) (v : Cell) → IsGlobal ranges names p → is_owned (has_global ranges names g p) ≡ false →
      may_come u.before u.bare name (global_of ranges names p) (has_global ranges names g p) v ≡ true →
      Goes u 1 (at ks (v ∷ vs) K L F (emit (GlobalSet (global_of ranges names p)) c) (while_assigning name (storing (placed ranges names g) o))) (at ks vs K L F c (while_assigning (assigning_then v name) (storing (placed ranges names (with_global_at ranges names g p v)) o)))
  global_set_ok {vs = vs} {K = K} {L = L} {c = c} {o = o} {name = name} g p v h e may =
      let x = global_of ranges names p in
      record {
        it =
            ap (λ t. guarded t (at ks vs K L F c (while_assigning (assigning_then v name) (storing (set (placed ranges names g) x v) o))))
            (ap₂ (λ a d. a && may_come u.before u.bare name x d v) (global_roomy ranges names g p h e) (placed_at ranges names g p h) ∙ may)
            ∙ ap (λ m. at ks vs K L F c (while_assigning (assigning_then v name) (storing m o))) (placed_set ranges names g p v h);
      }
