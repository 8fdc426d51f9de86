-- A value is copied: a second handle comes to a temporary, and the first goes back to its place.
use Rattle.std.proofs.Common.{◌≡◌, ◌≢◌, ℕ, ◌<◌, true, false, List, [], ◌∷◌, length, Some, None, refl, sym, ap, ◌∙◌}
use Rattle.std.specs.Prelude.{set}
use Rattle.std.proofs.lemmas.List.{get_or-set_other, set_comm, set-set, set-get_or}
use Rattle.awk_values.specs.declared.value.Value.{Value}
use Rattle.sem_primitives.specs.declared.table.Primitive.TheVariants as row
use Rattle.wasm_types.specs.Syntax.{Instructions, Done}
use Rattle.wasm_types.specs.declared.types.ValType.TheVariants as ty
use Rattle.wasm_types.specs.declared.instr.IRelOp.TheVariants.{Ne}
use Rattle.wasm_types.specs.declared.instr.Simple.TheVariants.{LocalGet, LocalSet, GlobalGet, GlobalSet, I32Const, Compare}
use Rattle.wasm_store.specs.Words.{flag}
use Rattle.mid_program.specs.Mid.{Kind, Program}
use Rattle.mid_program.specs.Sorted.{kinds_of}
use Rattle.sem_scripts.specs.ScriptState.{State}
use Rattle.lower_model.specs.Cells.{Cell, Bits, Held, Gone, is_owned, cell_at}
use Rattle.lower_model.specs.Machine.{Look, Label, Frame, Store, at, label, ask_looking, with_operands, push_word, looked_compared}
use Rattle.lower_model.specs.Places.{Bases, handle_local}
use Rattle.lower_model.specs.Small.{emit, ask_row, copied, copied_if_any, when, minus_one}
use Rattle.host_imports.specs.declared.import.Import.TheVariants.{OfPrimitive}
use Rattle.lower_model.proofs.Observer.{Observer}
use Rattle.lower_model.proofs.Runs.{Goes, then_goes, goes_to, by_steps}
use Rattle.lower_model.proofs.Globals.{Global, global_of, IsGlobal, has_global, with_global_at, has_global_with, placed, placed_twice, placed_again}
use Rattle.lower_model.proofs.Locals.{Locals, Place, Hand, local_of, IsPlace, has, with_at, has_with, laid, laid_at, laid_set, laid_twice, laid_again}
use Rattle.lower_model.proofs.Steps.{empty, get_moved, get_copied, set_ok, tee_ok}
use Rattle.lower_model.proofs.GlobalSteps.{storing, comes_back, global_moved, global_copied, global_set_ok}
use Rattle.lower_model.proofs.Pieces.{chooses, closes}
use Rattle.lower_model.proofs.State.{host_of, cells_of}
use Rattle.lower_model.proofs.Conversions.{same_state}
use Rattle.lower_model.proofs.Answers.{machine, beside_state}

-- Two places of locals: one was emptied, another was written, and the first got back what it had.

module _ (b : Bases) (l : Locals) (P Q : Place) (c d : Cell) (pp : IsPlace b P) (qq : IsPlace b Q) (ne : local_of b P ≢ local_of b Q) where
  pub other_still : has (with_at l P c) Q ≡ has l Q
  other_still =
      sym (laid_at b (with_at l P c) Q qq)
      ∙ (ap (λ L. cell_at L (local_of b Q)) (sym (laid_set b l P c pp))
      ∙ (get_or-set_other (laid b l) (local_of b P) (local_of b Q) c Gone (λ e. ne (sym e)) ∙ laid_at b l Q qq))

  pub first_still : has (with_at (with_at l P c) Q d) P ≡ c
  first_still =
      sym (laid_at b (with_at (with_at l P c) Q d) P pp)
      ∙ (ap (λ L. cell_at L (local_of b P)) (sym (laid_set b (with_at l P c) Q d qq))
      ∙ (get_or-set_other (laid b (with_at l P c)) (local_of b Q) (local_of b P) d Gone ne ∙ (laid_at b (with_at l P c) P pp ∙ has_with l P c)))

  pub given_back : (v : Cell) → has l P ≡ v → laid b (with_at (with_at (with_at l P c) Q d) P v) ≡ laid b (with_at l Q d)
  given_back v e =
      let x = local_of b P in
      let y = local_of b Q in
      let L = laid b l in
      sym (laid_set b (with_at (with_at l P c) Q d) P v pp)
      ∙ (ap (λ M. set M x v) (sym (laid_set b (with_at l P c) Q d qq))
      ∙ (ap (λ M. set (set M y d) x v) (sym (laid_set b l P c pp))
      ∙ (set_comm (set L x c) y x d v (λ q. ne (sym q))
      ∙ (ap (λ M. set M y d) (set-set L x c v ∙ (ap (set L x) (sym e ∙ sym (laid_at b l P pp)) ∙ set-get_or L x Gone))
      ∙ laid_set b l Q d qq))))

module _ (p : Program) (deepest : Observer) (ks : List Kind) (F : List Frame) (b : Bases) where
  pub dup_ok : {vs : List Cell} {K : List Label} {c : Instructions} → (x : ℕ) (L gs : List Cell) (v : Value) (σ : State) → cell_at L x ≡ Held v →
      Goes (machine p deepest ks F) 1 (Look x ks vs K L F (ask_row row.Dup c) (storing gs (host_of σ None))) (at ks (Held v ∷ vs) K L F c (storing gs (host_of σ None)))
  dup_ok {vs = vs} {K = K} {c = c} x L gs v σ e = by_steps 1
      (ap (λ w. ask_looking (Some (OfPrimitive row.Dup)) w ks vs K L F c (storing gs (host_of σ None))) e
      ∙ ap (λ τ. at ks (Held v ∷ vs) K L F c (storing gs (host_of τ None))) (same_state σ v))

  pub looked : {vs : List Cell} {K : List Label} {c : Instructions} → (x : ℕ) (L : List Cell) (G : Store) (v : Value) → cell_at L x ≡ Held v →
      Goes (machine p deepest ks F) 1 (Look x ks vs K L F (emit (I32Const minus_one) (emit (Compare ty.I32 Ne) c)) G) (at ks (Bits (flag true) ∷ vs) K L F c G)
  looked {vs = vs} {K = K} {c = c} x L G v e = by_steps 1 (ap (λ w. with_operands (push_word vs (looked_compared Ne w minus_one)) ks K L F c G) e)

  -- from a local
  pub copied_local : {K : List Label} {k : Instructions} → (l : Locals) (P : Place) (t : ℕ) (v : Value) (σ : State) → IsPlace b P → t < b.temporaries → local_of b P ≢ handle_local b t → has l P ≡ Held v → is_owned (l.hand t) ≡ false →
      Goes (machine p deepest ks F) 4 (at ks [] K (laid b l) F (copied (LocalGet (local_of b P)) (LocalSet (local_of b P)) (handle_local b t) k) (beside_state p deepest ks F σ)) (at ks [] K (laid b (with_at l (Hand t) (Held v))) F k (beside_state p deepest ks F σ))
  copied_local {K = K} {k = k} l P t v σ pp lt ne e o =
      let l1 = with_at l P Gone in
      let l2 = with_at l1 (Hand t) (Held v) in
      let gs = (beside_state p deepest ks F σ).globals in
      then_goes (get_moved b l P (Held v) pp e)
      (then_goes (tee_ok b l1 (Hand t) (Held v) lt (ap is_owned (other_still b l P (Hand t) Gone (Held v) pp lt ne) ∙ o))
      (then_goes (dup_ok (handle_local b t) (laid b l2) gs v σ (laid_at b l2 (Hand t) lt ∙ has_with l1 (Hand t) (Held v)))
      (goes_to (set_ok b l2 P (Held v) pp (ap is_owned (first_still b l P (Hand t) Gone (Held v) pp lt ne))) (ap (λ L. at ks [] K L F k (beside_state p deepest ks F σ)) (given_back b l P (Hand t) Gone (Held v) pp lt ne (Held v) e)))))

  -- from a global
  pub copied_global : {K : List Label} {k : Instructions} → (l : Locals) (P : Global) (t : ℕ) (v : Value) (σ : State) → IsGlobal p.ranges (length (kinds_of p.globals)) P → t < b.temporaries → has_global p.ranges (length (kinds_of p.globals)) (cells_of (kinds_of p.globals) 0 σ) P ≡ Held v → is_owned (l.hand t) ≡ false →
      Goes (machine p deepest ks F) 4 (at ks [] K (laid b l) F (copied (GlobalGet (global_of p.ranges (length (kinds_of p.globals)) P)) (GlobalSet (global_of p.ranges (length (kinds_of p.globals)) P)) (handle_local b t) k) (beside_state p deepest ks F σ)) (at ks [] K (laid b (with_at l (Hand t) (Held v))) F k (beside_state p deepest ks F σ))
  copied_global {K = K} {k = k} l P t v σ pp lt e o =
      let nn = length (kinds_of p.globals) in
      let g = cells_of (kinds_of p.globals) 0 σ in
      let g1 = with_global_at p.ranges nn g P Gone in
      let l1 = with_at l (Hand t) (Held v) in
      then_goes (global_moved p.ranges nn g P (Held v) pp e)
      (then_goes (tee_ok b l (Hand t) (Held v) lt o)
      (then_goes (dup_ok (handle_local b t) (laid b l1) (placed p.ranges nn g1) v σ (laid_at b l1 (Hand t) lt ∙ has_with l (Hand t) (Held v)))
      (goes_to (global_set_ok p.ranges nn g1 P (Held v) pp (ap is_owned (has_global_with p.ranges nn g P Gone)) (comes_back p.ranges nn _ None g P (Held v)))
      (ap (λ m. at ks [] K (laid b l1) F k (storing m (host_of σ None))) (placed_twice p.ranges nn g P Gone (Held v) pp ∙ placed_again p.ranges nn g P (Held v) pp e)))))

  -- The same where there may be no handle.

  pub if_any_global : {K : List Label} {k : Instructions} → (l : Locals) (P : Global) (t : ℕ) (v : Value) (σ : State) → IsGlobal p.ranges (length (kinds_of p.globals)) P → t < b.temporaries → has_global p.ranges (length (kinds_of p.globals)) (cells_of (kinds_of p.globals) 0 σ) P ≡ Held v → is_owned (l.hand t) ≡ false →
      Goes (machine p deepest ks F) 9 (at ks [] K (laid b l) F (copied_if_any (GlobalGet (global_of p.ranges (length (kinds_of p.globals)) P)) (GlobalSet (global_of p.ranges (length (kinds_of p.globals)) P)) (handle_local b t) k) (beside_state p deepest ks F σ)) (at ks [] K (laid b (with_at l (Hand t) (Held v))) F k (beside_state p deepest ks F σ))
  if_any_global {K = K} {k = k} l P t v σ pp lt e o =
      let nn = length (kinds_of p.globals) in
      let g = cells_of (kinds_of p.globals) 0 σ in
      let g1 = with_global_at p.ranges nn g P Gone in
      let l1 = with_at l (Hand t) (Held v) in
      let l2 = with_at l1 (Hand t) Gone in
      let x = global_of p.ranges nn P in
      let e1 = laid_at b l1 (Hand t) lt ∙ has_with l (Hand t) (Held v) in
      let k1 = copied (LocalGet (handle_local b t)) (GlobalSet x) (handle_local b t) Done in
      then_goes (global_moved p.ranges nn g P (Held v) pp e)
      (then_goes (tee_ok b l (Hand t) (Held v) lt o)
      (then_goes (looked (handle_local b t) (laid b l1) (storing (placed p.ranges nn g1) (host_of σ None)) v e1)
      (then_goes (chooses k1 Done 1)
      (then_goes (get_moved b l1 (Hand t) (Held v) lt (has_with l (Hand t) (Held v)))
      (then_goes (goes_to (tee_ok b l2 (Hand t) (Held v) lt (ap is_owned (has_with l1 (Hand t) Gone)))
      (ap (λ L. Look (handle_local b t) ks [] (label [] None k ∷ K) L F (ask_row row.Dup (emit (GlobalSet x) Done)) (storing (placed p.ranges nn g1) (host_of σ None))) (laid_twice b l1 (Hand t) Gone (Held v) lt ∙ laid_again b l1 (Hand t) (Held v) lt (has_with l (Hand t) (Held v)))))
      (then_goes (dup_ok (handle_local b t) (laid b l1) (placed p.ranges nn g1) v σ e1)
      (then_goes (goes_to (global_set_ok p.ranges nn g1 P (Held v) pp (ap is_owned (has_global_with p.ranges nn g P Gone)) (comes_back p.ranges nn _ None g P (Held v)))
      (ap (λ m. at ks [] (label [] None k ∷ K) (laid b l1) F Done (storing m (host_of σ None))) (placed_twice p.ranges nn g P Gone (Held v) pp ∙ placed_again p.ranges nn g P (Held v) pp e)))
      closes)))))))

  pub if_none_global : {K : List Label} {k : Instructions} → (l : Locals) (P : Global) (t : ℕ) (σ : State) → IsGlobal p.ranges (length (kinds_of p.globals)) P → t < b.temporaries → has_global p.ranges (length (kinds_of p.globals)) (cells_of (kinds_of p.globals) 0 σ) P ≡ empty → l.hand t ≡ empty →
      Goes (machine p deepest ks F) 5 (at ks [] K (laid b l) F (copied_if_any (GlobalGet (global_of p.ranges (length (kinds_of p.globals)) P)) (GlobalSet (global_of p.ranges (length (kinds_of p.globals)) P)) (handle_local b t) k) (beside_state p deepest ks F σ)) (at ks [] K (laid b l) F k (beside_state p deepest ks F σ))
  if_none_global {K = K} {k = k} l P t σ pp lt e o =
      let nn = length (kinds_of p.globals) in
      let x = global_of p.ranges nn P in
      let k1 = copied (LocalGet (handle_local b t)) (GlobalSet x) (handle_local b t) Done in
      then_goes (global_copied p.ranges nn (cells_of (kinds_of p.globals) 0 σ) P empty pp e refl)
      (then_goes (goes_to (tee_ok b l (Hand t) empty lt (ap is_owned o)) (ap (λ L. at ks (empty ∷ []) K L F (emit (I32Const minus_one) (emit (Compare ty.I32 Ne) (when k1 k))) (beside_state p deepest ks F σ)) (laid_again b l (Hand t) empty lt o)))
      (then_goes (by_steps 1 refl)
      (then_goes (chooses k1 Done 0) closes)))

  pub if_any_local : {K : List Label} {k : Instructions} → (l : Locals) (P : Place) (t : ℕ) (v : Value) (σ : State) → IsPlace b P → t < b.temporaries → local_of b P ≢ handle_local b t → has l P ≡ Held v → is_owned (l.hand t) ≡ false →
      Goes (machine p deepest ks F) 9 (at ks [] K (laid b l) F (copied_if_any (LocalGet (local_of b P)) (LocalSet (local_of b P)) (handle_local b t) k) (beside_state p deepest ks F σ)) (at ks [] K (laid b (with_at l (Hand t) (Held v))) F k (beside_state p deepest ks F σ))
  if_any_local {K = K} {k = k} l P t v σ pp lt ne e o =
      let l0 = with_at l P Gone in
      let l1 = with_at l0 (Hand t) (Held v) in
      let l2 = with_at l1 (Hand t) Gone in
      let x = local_of b P in
      let gs = (beside_state p deepest ks F σ).globals in
      let e1 = laid_at b l1 (Hand t) lt ∙ has_with l0 (Hand t) (Held v) in
      let k1 = copied (LocalGet (handle_local b t)) (LocalSet x) (handle_local b t) Done in
      then_goes (get_moved b l P (Held v) pp e)
      (then_goes (tee_ok b l0 (Hand t) (Held v) lt (ap is_owned (other_still b l P (Hand t) Gone (Held v) pp lt ne) ∙ o))
      (then_goes (looked (handle_local b t) (laid b l1) (storing gs (host_of σ None)) v e1)
      (then_goes (chooses k1 Done 1)
      (then_goes (get_moved b l1 (Hand t) (Held v) lt (has_with l0 (Hand t) (Held v)))
      (then_goes (goes_to (tee_ok b l2 (Hand t) (Held v) lt (ap is_owned (has_with l1 (Hand t) Gone)))
      (ap (λ L. Look (handle_local b t) ks [] (label [] None k ∷ K) L F (ask_row row.Dup (emit (LocalSet x) Done)) (beside_state p deepest ks F σ)) (laid_twice b l1 (Hand t) Gone (Held v) lt ∙ laid_again b l1 (Hand t) (Held v) lt (has_with l0 (Hand t) (Held v)))))
      (then_goes (dup_ok (handle_local b t) (laid b l1) gs v σ e1)
      (then_goes (goes_to (set_ok b l1 P (Held v) pp (ap is_owned (first_still b l P (Hand t) Gone (Held v) pp lt ne))) (ap (λ L. at ks [] (label [] None k ∷ K) L F Done (beside_state p deepest ks F σ)) (given_back b l P (Hand t) Gone (Held v) pp lt ne (Held v) e)))
      closes)))))))

  pub if_none_local : {K : List Label} {k : Instructions} → (l : Locals) (P : Place) (t : ℕ) (σ : State) → IsPlace b P → t < b.temporaries → has l P ≡ empty → l.hand t ≡ empty →
      Goes (machine p deepest ks F) 5 (at ks [] K (laid b l) F (copied_if_any (LocalGet (local_of b P)) (LocalSet (local_of b P)) (handle_local b t) k) (beside_state p deepest ks F σ)) (at ks [] K (laid b l) F k (beside_state p deepest ks F σ))
  if_none_local {K = K} {k = k} l P t σ pp lt e o =
      let x = local_of b P in
      let k1 = copied (LocalGet (handle_local b t)) (LocalSet x) (handle_local b t) Done in
      then_goes (get_copied b l P empty pp e refl)
      (then_goes (goes_to (tee_ok b l (Hand t) empty lt (ap is_owned o)) (ap (λ L. at ks (empty ∷ []) K L F (emit (I32Const minus_one) (emit (Compare ty.I32 Ne) (when k1 k))) (beside_state p deepest ks F σ)) (laid_again b l (Hand t) empty lt o)))
      (then_goes (by_steps 1 refl)
      (then_goes (chooses k1 Done 0) closes)))
