-- Single instructions on locals and globals: what a step leads to.
use Rattle.std.proofs.Common.{◌≡◌, true, false, List, ◌∷◌, refl, ap, ap₂, ◌∙◌}
use Rattle.std.specs.Prelude.{set, not, ◌&&◌}
use Rattle.wasm_types.specs.Syntax.{Instructions}
use Rattle.wasm_types.specs.declared.instr.Simple.TheVariants.{LocalGet, LocalSet, LocalTee}
use Rattle.wasm_store.specs.declared.word.Word.TheVariants.{I32, I64}
use Rattle.mid_program.specs.Mid.{Kind}
use Rattle.lower_model.specs.Cells.{Cell, Bits, Held, IteratorOf, OwnedArray, LentArray, Gone, is_owned, left_by, cell_at, has_room}
use Rattle.lower_model.specs.Places.{Bases}
use Rattle.lower_model.specs.Machine.{Code, Label, Frame, Store, at, guarded, teed}
use Rattle.lower_model.specs.Small.{emit, minus_one, was_left, moved_out, emptied}
use Rattle.lower_model.proofs.Runs.{Goes, then_goes, goes_to}
use Rattle.lower_model.proofs.Locals.{Locals, Place, local_of, IsPlace, has, with_at, has_with, laid, laid_at, laid_set, laid_twice, laid_again, place_there}

-- no handle
abbrev pub empty : Cell
empty = Bits (I32 minus_one)

-- what a function answers that was left
abbrev pub unanswered : Cell
unanswered = Bits (I64 was_left)

pub left_unowned : (c : Cell) → is_owned (left_by c) ≡ false
left_unowned (Bits w) = refl
left_unowned (Held v) = refl
left_unowned (IteratorOf t) = refl
left_unowned (OwnedArray a) = refl
left_unowned (LentArray a) = refl
left_unowned Gone = refl

place_roomy : (b : Bases) (l : Locals) (p : Place) → IsPlace b p → is_owned (has l p) ≡ false → has_room (laid b l) (local_of b p) ≡ true
place_roomy b l p h e = ap₂ (λ x y. x && not y) (place_there b l p h) (ap is_owned (laid_at b l p h) ∙ e)

module _ {u : Code} {ks : List Kind} {F : List Frame} (b : Bases) where
  pub get_moved : {vs : List Cell} {K : List Label} {c : Instructions} {G : Store} → (l : Locals) (p : Place) (v : Cell) → IsPlace b p → has l p ≡ v →
      Goes u 1 (at ks vs K (laid b l) F (emit (LocalGet (local_of b p)) c) G) (at ks (v ∷ vs) K (laid b (with_at l p (left_by v))) F c G)
  get_moved {vs = vs} {K = K} {c = c} {G = G} l p v h e =
      let L = laid b l in
      let x = local_of b p in
      record {
        it =
            ap (λ t. guarded t (at ks (cell_at L x ∷ vs) K (set L x (left_by (cell_at L x))) F c G)) (place_there b l p h)
            ∙ (ap (λ w. at ks (w ∷ vs) K (set L x (left_by w)) F c G) (laid_at b l p h ∙ e)
            ∙ ap (λ M. at ks (v ∷ vs) K M F c G) (laid_set b l p (left_by v) h));
      }

  -- what is not owned stays where it is
  pub get_copied : {vs : List Cell} {K : List Label} {c : Instructions} {G : Store} → (l : Locals) (p : Place) (v : Cell) → IsPlace b p → has l p ≡ v → left_by v ≡ v →
      Goes u 1 (at ks vs K (laid b l) F (emit (LocalGet (local_of b p)) c) G) (at ks (v ∷ vs) K (laid b l) F c G)
  get_copied {vs = vs} {K = K} {c = c} {G = G} l p v h e s =
      goes_to (get_moved l p v h e) (ap (λ w. at ks (v ∷ vs) K (laid b (with_at l p w)) F c G) s ∙ ap (λ M. at ks (v ∷ vs) K M F c G) (laid_again b l p v h e))

  pub set_ok : {vs : List Cell} {K : List Label} {c : Instructions} {G : Store} → (l : Locals) (p : Place) (v : Cell) → IsPlace b p → is_owned (has l p) ≡ false →
      Goes u 1 (at ks (v ∷ vs) K (laid b l) F (emit (LocalSet (local_of b p)) c) G) (at ks vs K (laid b (with_at l p v)) F c G)
  set_ok {vs = vs} {K = K} {c = c} {G = G} l p v h e =
      record {
        it =
            ap (λ t. guarded t (at ks vs K (set (laid b l) (local_of b p) v) F c G)) (place_roomy b l p h e)
            ∙ ap (λ M. at ks vs K M F c G) (laid_set b l p v h);
      }

  pub tee_ok : {vs : List Cell} {K : List Label} {c : Instructions} {G : Store} → (l : Locals) (p : Place) (v : Cell) → IsPlace b p → is_owned (has l p) ≡ false →
      Goes u 1 (at ks (v ∷ vs) K (laid b l) F (emit (LocalTee (local_of b p)) c) G) (teed v (local_of b p) ks vs K (laid b (with_at l p v)) F c G)
  tee_ok {vs = vs} {K = K} {c = c} {G = G} l p v h e =
      record {
        it =
            ap (λ t. guarded t (teed v (local_of b p) ks vs K (set (laid b l) (local_of b p) v) F c G)) (place_roomy b l p h e)
            ∙ ap (λ M. teed v (local_of b p) ks vs K M F c G) (laid_set b l p v h);
      }

  -- -1 to a place
  pub emptied_ok : {vs : List Cell} {K : List Label} {c : Instructions} {G : Store} → (l : Locals) (p : Place) → IsPlace b p → is_owned (has l p) ≡ false →
      Goes u 1 (at ks vs K (laid b l) F (emptied (local_of b p) c) G) (at ks vs K (laid b (with_at l p empty)) F c G)
  emptied_ok l p h e = set_ok l p empty h e

  -- what a place has comes onto the stack, and -1 is left
  pub moved_out_ok : {vs : List Cell} {K : List Label} {c : Instructions} {G : Store} → (l : Locals) (p : Place) (v : Cell) → IsPlace b p → has l p ≡ v →
      Goes u 2 (at ks vs K (laid b l) F (moved_out (local_of b p) c) G) (at ks (v ∷ vs) K (laid b (with_at l p empty)) F c G)
  moved_out_ok {vs = vs} {K = K} {c = c} {G = G} l p v h e =
      goes_to (then_goes (get_moved l p v h e) (set_ok (with_at l p (left_by v)) p empty h (ap is_owned (has_with l p (left_by v)) ∙ left_unowned v)))
      (ap (λ M. at ks (v ∷ vs) K M F c G) (laid_twice b l p (left_by v) empty h))
