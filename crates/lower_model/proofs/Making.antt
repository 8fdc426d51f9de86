-- Arrays that are made for calls; texts of the script; operands made numbers.
use Rattle.std.proofs.Common.{◌≡◌, inr, ℕ, suc, ◌+◌, ◌≤◌, true, false, List, [], length, refl, ap, ◌∙◌, arith}
use Rattle.std.proofs.lemmas.Bool.{and_parts}
use Rattle.sem_primitives.specs.declared.table.Primitive.TheVariants as row
use Rattle.wasm_types.specs.Syntax.{Instructions}
use Rattle.mid_program.specs.Mid.{Kind, Program, Unset, Codes, End, At, Fixed, Fresh, Form, OptionalNumber}
use Rattle.mid_program.specs.MidMeaning.{Env, evaluated, all_evaluated}
use Rattle.sem_scripts.specs.ScriptState.{State, ◌>>=◌, give}
use Rattle.mid_program.specs.Sorted.{Held as Standing, are_missing, sorted, all_sorted}
use Rattle.lower_model.specs.Cells.{OwnedArray, is_owned}
use Rattle.lower_model.specs.Emission.{emitted, all_emitted}
use Rattle.lower_model.specs.Machine.{Frame, Label, at}
use Rattle.lower_model.specs.Places.{Bases, arrays_among, rooms}
use Rattle.lower_model.proofs.Observer.{Observer}
use Rattle.lower_model.proofs.Runs.{then_goes, stays, there, first, then_on}
use Rattle.lower_model.proofs.Regions.{upd_same, upd_other}
use Rattle.lower_model.proofs.Locals.{Locals, Array, laid, with_at}
use Rattle.lower_model.proofs.Steps.{set_ok}
use Rattle.lower_model.proofs.Relation.{Below, Kept, below_more, kept_same, outside_below, same_self, same_then, Fit, fit_array, fit_shared, Away, holds_same}
use Rattle.lower_model.proofs.Answers.{Reached, beside_state, machine, done_by, row_called}
use Rattle.lower_model.proofs.HostCalls.{calm_after}
use Rattle.lower_model.proofs.Leaves.{unset_there}
use Rattle.lower_model.proofs.Simulation.{work_of, works_of, meant, all_meant, context, layout, AllDone, CodesOk, Done}

module _ (p : Program) (deepest : Observer) (ks : List Kind) (F : List Frame) (b : Bases) (M n : ℕ) where
  -- one more array is in use
  fit_made : (t u w : ℕ) (l : Locals) (σ : State) → Fit p deepest ks F t u w l σ → Fit p deepest ks F t u (suc w) l σ
  fit_made t u w l σ f = record { params = f.params; size = f.size; answer = f.answer; hands = f.hands; numbers = f.numbers; free = f.free; walks = f.walks; still = f.still; yards = f.yards; spare = λ x h. f.spare x (omega (arith, h)); sound = f.sound }

  -- What stands for arguments that are missing calls nothing: so it does not matter how many arrays were made before it.
  missing_ok : (es : Codes) → are_missing es ≡ true → (fs : List Form) (env : Env fs) (ts : List ℕ) (st : ℕ → Standing) (t u w d : ℕ) (k : Instructions) (K : List Label) (l : Locals) (σ : State) →
      t + rooms es ≤ b.temporaries → w + arrays_among es ≤ b.arrays → Below t ts → Kept fs ts st l env → Fit p deepest ks F t u w l σ →
      Reached p deepest ks F b M (works_of es) σ.turns (at ks [] K (laid b l) F (all_emitted (layout p deepest ks F b M n) fs ts es t w d k) (beside_state p deepest ks F σ)) (AllDone p deepest ks F b M n es fs env ts st t u w k K l σ) (Away p deepest ks F b d K) (all_meant p deepest ks F b M n fs env es σ)
  unfolding emitted all_emitted evaluated all_evaluated
  missing_ok End m fs env ts st t u w d k K l σ rm ar below held fit =
      there (machine p deepest ks F) M 0 0 _ _ tt σ (AllDone p deepest ks F b M n End fs env ts st t u w k K l σ) (Away p deepest ks F b d K) stays (omega arith)
      (record { next = l; comes = refl; fit = fit; same = same_self ts t w l; own = λ i h. refl; kept = held; held = tt })
  missing_ok (At Unset es) m fs env ts st t u w d k K l σ rm ar below held fit =
      let mach = machine p deepest ks F in
      let k1 = all_emitted (layout p deepest ks F b M n) fs ts es (suc t) w d k in
      let Q = Away p deepest ks F b d K in
      let P = AllDone p deepest ks F b M n (At Unset es) fs env ts st t u w k K l σ in
      let P1 = Done p deepest ks F b M n false Unset fs env ts st t u w k1 K l σ in
      then_on mach M (work_of Unset) (works_of es) (works_of (At Unset es)) σ.turns _ P1 P Q (meant p deepest ks F b M n fs env Unset σ) (λ v. all_meant p deepest ks F b M n fs env es >>= λ vs. give (v, vs)) (omega arith)
      (unset_there p deepest ks F b M n false fs env ts st t u w d k1 K l σ (omega (arith, rm)) below held fit)
      (λ v τ c1 le a.
      let P2 = AllDone p deepest ks F b M n es fs env ts st (suc t) u w k K a.next τ in
      first mach M 0 (works_of es) (works_of es) τ.turns c1 _ P Q _ (record { it = a.comes }) (omega arith)
      (then_on mach M (works_of es) 0 (works_of es) τ.turns _ P2 P Q (all_meant p deepest ks F b M n fs env es τ) (λ vs. give (v, vs)) (omega arith)
      (missing_ok es m fs env ts st (suc t) u w d k K a.next τ (omega (arith, rm)) (omega (arith, ar)) (below_more t (suc t) ts (omega arith) below) a.kept a.fit)
      (λ vs τ1 c2 le2 a2. there mach M 0 0 _ _ (v, vs) τ1 P Q stays (omega arith)
      (record {
        next = a2.next;
        comes = a2.comes;
        fit = a2.fit;
        same = same_then ts t (suc t) w w l a.next a2.next (omega arith) (omega arith) a.same a2.same;
        own = λ i h. a2.own i h ∙ a.own i h;
        kept = a2.kept;
        held = (
          holds_same OptionalNumber t a.next a2.next v (a2.same.hands t (omega arith) (outside_below t t ts below (omega arith))) (a2.same.numbers t (omega arith)) a.stands,
          tt,
          a2.held,
        );
      }))))
  missing_ok (At e es) m fs env ts st t u w d k K l σ rm ar below held fit = cc
  missing_ok (Fixed i es) m fs env ts st t u w d k K l σ rm ar below held fit = cc
  missing_ok (Fresh es) m fs env ts st t u w d k K l σ rm ar below held fit =
      let mach = machine p deepest ks F in
      let Q = Away p deepest ks F b d K in
      let P = AllDone p deepest ks F b M n (Fresh es) fs env ts st t u w k K l σ in
      let i = length σ.shared.inner.arrays in
      let τ = done_by p deepest ks F row.NewArray tt σ in
      let l1 = with_at l (Array w) (OwnedArray i) in
      let f0 = fit_shared p deepest ks F t u w l σ τ.shared (calm_after p row.NewArray tt σ.shared refl fit.sound.calm) fit in
      let f1 = fit_array p deepest ks F w t u (suc w) l τ (OwnedArray i) (inr (i, refl)) (omega arith) (fit_made t u w l τ f0) in
      first mach M 2 (works_of es) (works_of (Fresh es)) σ.turns _ _ P Q _
      (then_goes (row_called p deepest ks F row.NewArray tt [] [] σ refl refl refl refl refl) (set_ok b l (Array w) (OwnedArray i) (omega (arith, ar)) (ap is_owned (fit.spare w (omega arith))))) (omega arith)
      (then_on mach M (works_of es) 0 (works_of es) τ.turns _ (AllDone p deepest ks F b M n es fs env ts st t u (suc w) k K l1 τ) P Q (all_meant p deepest ks F b M n fs env es τ) _ (omega arith)
      (missing_ok es m fs env ts st t u (suc w) d k K l1 τ rm (omega (arith, ar)) below (kept_same fs ts st l l1 env t below (λ x h. refl) (λ x h. refl) held) f1)
      (λ vs τ1 c2 le a. there mach M 0 0 _ _ (i, vs) τ1 P Q stays (omega arith)
      (record {
        next = a.next;
        comes = a.comes;
        fit = a.fit;
        same = record { hands = a.same.hands; numbers = a.same.numbers; iterators = a.same.iterators; arrays = λ x lt. a.same.arrays x (omega (arith, lt)) ∙ upd_other l.array w x (OwnedArray i) (λ e. omega (arith, e, lt)) };
        own = a.own;
        kept = a.kept;
        held = (a.same.arrays w (omega arith) ∙ upd_same l.array w (OwnedArray i), a.held);
      })))

  pub codes_fresh : (es : Codes) → CodesOk p deepest ks F b M n (Fresh es)
  unfolding sorted all_sorted
  codes_fresh es fs env ts st t u w d k K l σ so us rm ar rd =
      missing_ok (Fresh es) (and_parts (are_missing es) (all_sorted (context p deepest ks F b M n) fs es) so).0 fs env ts st t u w d k K l σ rm ar rd.below rd.kept rd.fit
