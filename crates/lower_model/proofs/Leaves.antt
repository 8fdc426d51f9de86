-- Expressions without parts.
use Rattle.std.proofs.Common.{ℕ, ◌<◌, Bool, List, [], length, None, refl, sym, ap, arith, w64}
use Rattle.std.specs.Prelude.{ℤ}
use Rattle.std.specs.Int.{cast_unsigned}
use Rattle.std.proofs.lemmas.Bool.{ltb-true}
use Rattle.sem_primitives.specs.ConstantNumbers.{flag_number}
use Rattle.sem_primitives.specs.Numbers.{number_of}
use Rattle.sem_primitives.specs.declared.sorts.Answer.TheVariants as answer
use Rattle.sem_primitives.specs.declared.sorts.Sort.TheVariants as sort
use Rattle.wasm_types.specs.Syntax.{Instructions}
use Rattle.wasm_store.specs.declared.word.Word.TheVariants.{I32, I64}
use Rattle.mid_program.specs.Mid.{Kind, Program, Form, PrimitiveAnswer, OptionalNumber, Number, Unset, Array, IsOpen}
use Rattle.mid_program.specs.MidMeaning.{Env, evaluated, all_evaluated, or_zero}
use Rattle.sem_scripts.specs.Names.{ArrayName, Numbered, Given}
use Rattle.sem_scripts.specs.ScriptState.{State, local_array}
use Rattle.mid_program.specs.Sorted.{Held as Standing, sorted, all_sorted, kinds_of}
use Rattle.lower_model.specs.Cells.{Bits}
use Rattle.lower_model.specs.Emission.{emitted, all_emitted}
use Rattle.lower_model.specs.Machine.{Frame, Label, at}
use Rattle.lower_model.specs.Places.{Bases}
use Rattle.lower_model.specs.Small.{least}
use Rattle.lower_model.proofs.Observer.{Observer}
use Rattle.lower_model.proofs.Runs.{then_goes, stays, by_steps, there}
use Rattle.lower_model.proofs.Locals.{Locals, Number as NumberAt, laid}
use Rattle.lower_model.proofs.Globals.{Range}
use Rattle.lower_model.proofs.Steps.{set_ok}
use Rattle.lower_model.proofs.GlobalSteps.{global_copied}
use Rattle.lower_model.proofs.State.{cells_of}
use Rattle.lower_model.proofs.Relation.{Below, Fit, Kept, same_self, fit_more, Away}
use Rattle.lower_model.proofs.Answers.{Reached, beside_state, machine, put_word}
use Rattle.lower_model.proofs.Simulation.{Done, ExprOk, layout, meant, work_of}
use Rattle.lower_model.proofs.Expressions.{constant_word, put_done}

module _ (p : Program) (deepest : Observer) (ks : List Kind) (F : List Frame) (b : Bases) (M n : ℕ) where
  pub number_expr : (z : ℤ) → ExprOk p deepest ks F b M n (Number z)
  unfolding emitted all_emitted evaluated all_evaluated sorted all_sorted
  number_expr z v fs env ts st t u w d k K l σ so us rm ar rd =
      let e = constant_word z so in
      there (machine p deepest ks F) M 1 1 _ _ (or_zero (number_of z)) σ (Done p deepest ks F b M n v (Number z) fs env ts st t u w k K l σ) (Away p deepest ks F b d K)
      (set_ok b l (NumberAt t) (Bits (I64 (cast_unsigned w64 z))) (omega (arith, rm)) (rd.fit.numbers t)) (omega arith)
      (put_done p deepest ks F b M n (Number z) v fs env ts st t u w k K l l σ σ (or_zero (number_of z)) _ rd.below (same_self ts t w l) (λ i h. refl) rd.kept refl tt
      (put_word p deepest ks F b M t u w (cast_unsigned w64 z) (PrimitiveAnswer (answer.Of sort.Number)) k K l (or_zero (number_of z)) σ (refl, ap (λ m. Bits (I64 m)) (sym e)) rd.fit))

  -- whatever arrays were made for calls
  pub unset_there : (v : Bool) (fs : List Form) (env : Env fs) (ts : List ℕ) (st : ℕ → Standing) (t u w d : ℕ) (k : Instructions) (K : List Label) (l : Locals) (σ : State) → t < b.temporaries → Below t ts → Kept fs ts st l env → Fit p deepest ks F t u w l σ →
      Reached p deepest ks F b M (work_of Unset) σ.turns (at ks [] K (laid b l) F (emitted (layout p deepest ks F b M n) v fs ts Unset t w d k) (beside_state p deepest ks F σ)) (Done p deepest ks F b M n v Unset fs env ts st t u w k K l σ) (Away p deepest ks F b d K) (meant p deepest ks F b M n fs env Unset σ)
  unfolding emitted all_emitted evaluated all_evaluated
  unset_there v fs env ts st t u w d k K l σ lt below held fit =
      there (machine p deepest ks F) M 1 1 _ _ None σ (Done p deepest ks F b M n v Unset fs env ts st t u w k K l σ) (Away p deepest ks F b d K)
      (set_ok b l (NumberAt t) (Bits (I64 least)) lt (fit.numbers t)) (omega arith)
      (put_done p deepest ks F b M n Unset v fs env ts st t u w k K l l σ σ None _ below (same_self ts t w l) (λ i h. refl) held refl tt
      (put_word p deepest ks F b M t u w least OptionalNumber k K l None σ (refl, refl) fit))

  pub unset_expr : ExprOk p deepest ks F b M n Unset
  unset_expr v fs env ts st t u w d k K l σ so us rm ar rd = unset_there v fs env ts st t u w d k K l σ (omega (arith, rm)) rd.below rd.kept rd.fit

  pub open_expr : (i : ℕ) → ExprOk p deepest ks F b M n (IsOpen i)
  unfolding emitted all_emitted evaluated all_evaluated sorted all_sorted
  open_expr i v fs env ts st t u w d k K l σ so us rm ar rd =
      let kinds = kinds_of p.globals in
      there (machine p deepest ks F) M 3 3 _ _ (σ.ranges i) σ (Done p deepest ks F b M n v (IsOpen i) fs env ts st t u w k K l σ) (Away p deepest ks F b d K)
      (then_goes (global_copied p.ranges (length kinds) (cells_of kinds 0 σ) (Range i) (Bits (I32 (flag_number (σ.ranges i)))) (ltb-true i p.ranges so) refl refl)
      (then_goes (by_steps 1 refl) (set_ok b l (NumberAt t) (Bits (I64 (flag_number (σ.ranges i)))) (omega (arith, rm)) (rd.fit.numbers t)))) (omega arith)
      (put_done p deepest ks F b M n (IsOpen i) v fs env ts st t u w k K l l σ σ (σ.ranges i) _ rd.below (same_self ts t w l) (λ i h. refl) rd.kept refl tt
      (put_word p deepest ks F b M t u w (flag_number (σ.ranges i)) (PrimitiveAnswer answer.Truth) k K l (σ.ranges i) σ (refl, refl) rd.fit))

  pub array_expr : (a : ArrayName) → ExprOk p deepest ks F b M n (Array a)
  unfolding emitted all_emitted evaluated all_evaluated sorted all_sorted
  array_expr (Numbered i) v fs env ts st t u w d k K l σ so us rm ar rd =
      there (machine p deepest ks F) M 0 0 _ _ i σ (Done p deepest ks F b M n v (Array (Numbered i)) fs env ts st t u w k K l σ) (Away p deepest ks F b d K) stays (omega arith)
      (record { next = l; comes = refl; fit = fit_more p deepest ks F t u w l σ rd.fit; same = same_self ts t w l; own = λ i h. refl; kept = rd.kept; stands = (rd.fit.free t (omega arith), tt); meant = (refl, so) })
  array_expr (Given i) v fs env ts st t u w d k K l σ so us rm ar rd =
      there (machine p deepest ks F) M 0 0 _ _ (local_array i σ) σ (Done p deepest ks F b M n v (Array (Given i)) fs env ts st t u w k K l σ) (Away p deepest ks F b d K) stays (omega arith)
      (record { next = l; comes = refl; fit = fit_more p deepest ks F t u w l σ rd.fit; same = same_self ts t w l; own = λ i h. refl; kept = rd.kept; stands = (rd.fit.free t (omega arith), tt); meant = (refl, so) })
