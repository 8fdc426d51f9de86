-- A choice of two steps, where a comparison of two sources goes both ways quickly.
use Rattle.std.proofs.Common.{◌≡◌, ℕ, zero, suc, ◌+◌, ◌≤◌, Bool, true, false, List, [], ◌∷◌, None, refl, ◌∙◌, arith, if◌then◌else◌}
use Rattle.std.specs.Prelude.{◌&&◌, is_some}
use Rattle.std.proofs.lemmas.Bool.{and_parts}
use Rattle.sem_primitives.specs.ConstantNumbers.{flag_number}
use Rattle.wasm_types.specs.Syntax.{Instructions, Done as NoMore}
use Rattle.wasm_types.specs.declared.instr.Simple.TheVariants.{Br}
use Rattle.mid_program.specs.Mid.{Kind, Program, Code, Step, If}
use Rattle.sem_scripts.specs.ScriptState.{State, Stop, Execution, ◌>>=◌}
use Rattle.mid_program.specs.Sorted.{test_sorted, step_sorted, steps_sorted}
use Rattle.sem_scripts.specs.Statements.{Flow, Normal, Broke, Continued}
use Rattle.lower_model.specs.Emission.{tested}
use Rattle.lower_model.specs.Machine.{Conf, Label, Frame, at, label}
use Rattle.lower_model.specs.Noted.{step_noted, steps_noted}
use Rattle.lower_model.specs.Places.{Bases, step_room, step_iterators, step_arrays}
use Rattle.lower_model.specs.Quick.{pair_in}
use Rattle.lower_model.specs.Small.{emit, emit_if}
use Rattle.lower_model.specs.Statements.{block, left_unless_pair, step_emitted, steps_emitted}
use Rattle.lower_model.proofs.Observer.{Observer}
use Rattle.lower_model.proofs.Runs.{goes_from, by_steps, stays, first, then_on, then_step, weaker, Onward}
use Rattle.lower_model.proofs.Locals.{Locals, laid}
use Rattle.lower_model.proofs.Relation.{Away, away_out}
use Rattle.lower_model.proofs.Pieces.{chooses}
use Rattle.lower_model.proofs.Answers.{machine, beside_state, Reached}
use Rattle.lower_model.proofs.Simulation.{work_of, context, layout, ExprOk}
use Rattle.lower_model.proofs.StatementForms.{step_work, step_meant, Starts, starts_among, StepDone, StepOk}
use Rattle.lower_model.proofs.Tidy.{begun_step}
use Rattle.lower_model.proofs.Branches.{TestDone, test_meant, test_ok, one_way, inner_step}
use Rattle.lower_model.proofs.QuickSteps.{Left, left_unless_pair_ok}

module _ (p : Program) (deepest : Observer) (ks : List Kind) (F : List Frame) (b : Bases) (M n : ℕ) where
  abbrev back_code : Instructions
  back_code = emit (Br 1) NoMore

  abbrev plain_code : Code → Step → Step → (u d bk ct : ℕ) → Instructions → Instructions
  plain_code e x y u d bk ct k =
      tested (layout p deepest ks F b M n) [] [] e zero zero d (emit_if (step_emitted (layout p deepest ks F b M n) x u (suc d) (suc bk) (suc ct) NoMore) (step_emitted (layout p deepest ks F b M n) y u (suc d) (suc bk) (suc ct) NoMore) k)

  abbrev quick_code : Code → Step → Step → (u d bk ct : ℕ) → Instructions → Instructions
  quick_code e x y u d bk ct k =
      block (block (left_unless_pair (layout p deepest ks F b M n) (pair_in e) e (suc (suc d)) zero (step_emitted (layout p deepest ks F b M n) x u (suc (suc d)) (suc (suc bk)) (suc (suc ct)) back_code)) (step_emitted (layout p deepest ks F b M n) y u (suc d) (suc bk) (suc ct) NoMore)) k

  -- what is done where the test holds stands in one label more where the test has a quick way
  abbrev yes_meant : Bool → Step → (u d bk ct : ℕ) → Execution Flow
  yes_meant j x u d bk ct =
      if j then step_meant p deepest ks F b M n x u (suc (suc d)) (suc (suc bk)) (suc (suc ct)) back_code else step_meant p deepest ks F b M n x u (suc d) (suc bk) (suc ct) NoMore

  abbrev chosen_meant : Bool → Code → Step → Step → (u d bk ct : ℕ) → Execution Flow
  chosen_meant j e x y u d bk ct = test_meant p deepest ks F b M n e >>= λ t. if t then yes_meant j x u d bk ct else step_meant p deepest ks F b M n y u (suc d) (suc bk) (suc ct) NoMore

  -- what is done once its place is noted
  if_rest : (e : Code) (x y : Step) → ExprOk p deepest ks F b M n e → StepOk p deepest ks F b M n x → StepOk p deepest ks F b M n y → (r lo : Bool) (u d bk ct : ℕ) (k : Instructions) (K : List Label) (l : Locals) (σ : State) →
      step_sorted (context p deepest ks F b M n) r lo (If e x y) ≡ true → step_room (If e x y) ≤ b.temporaries → u + step_iterators (If e x y) ≤ b.iterators → step_arrays (If e x y) ≤ b.arrays → step_work (If e x y) ≤ M → Starts p deepest ks F b M n u K l σ →
      Reached p deepest ks F b M (28 + (work_of e + (step_work x + step_work y))) σ.turns (at ks [] K (laid b l) F (if is_some (pair_in e) then quick_code e x y u d bk ct k else plain_code e x y u d bk ct k) (beside_state p deepest ks F σ)) (StepDone p deepest ks F b M n lo u bk ct k K l) (Away p deepest ks F b d K) (chosen_meant (is_some (pair_in e)) e x y u d bk ct σ)
  unfolding step_sorted steps_sorted
  if_rest e x y oke okx oky r lo u d bk ct k K l σ so rm it ar wk s = by (is_some (pair_in e))
    where
      A : Instructions
      A = step_emitted (layout p deepest ks F b M n) x u (suc d) (suc bk) (suc ct) NoMore

      B : Instructions
      B = step_emitted (layout p deepest ks F b M n) y u (suc d) (suc bk) (suc ct) NoMore

      K1 : List Label
      K1 = label [] None k ∷ K

      K2 : List Label
      K2 = label [] None B ∷ K1

      back : Instructions
      back = emit (Br 1) NoMore

      A2 : Instructions
      A2 = step_emitted (layout p deepest ks F b M n) x u (suc (suc d)) (suc (suc bk)) (suc (suc ct)) back

      quick : Instructions
      quick = block (block (left_unless_pair (layout p deepest ks F b M n) (pair_in e) e (suc (suc d)) zero A2) B) k

      plain : Instructions
      plain = tested (layout p deepest ks F b M n) [] [] e zero zero d (emit_if A B k)

      s1 : (test_sorted (context p deepest ks F b M n) e ≡ true) × (step_sorted (context p deepest ks F b M n) r lo x && step_sorted (context p deepest ks F b M n) r lo y ≡ true)
      s1 = and_parts (test_sorted (context p deepest ks F b M n) e) (step_sorted (context p deepest ks F b M n) r lo x && step_sorted (context p deepest ks F b M n) r lo y) so

      s2 : (step_sorted (context p deepest ks F b M n) r lo x ≡ true) × (step_sorted (context p deepest ks F b M n) r lo y ≡ true)
      s2 = and_parts (step_sorted (context p deepest ks F b M n) r lo x) (step_sorted (context p deepest ks F b M n) r lo y) s1.1

      w2 : ℕ
      w2 = (step_work x + step_work y) + 1

      plain_ok : Reached p deepest ks F b M (28 + (work_of e + (step_work x + step_work y))) σ.turns (at ks [] K (laid b l) F plain (beside_state p deepest ks F σ)) (StepDone p deepest ks F b M n lo u bk ct k K l) (Away p deepest ks F b d K) (chosen_meant false e x y u d bk ct σ)
      plain_ok =
          then_on (machine p deepest ks F) M (work_of e + 14) (1 + w2) (28 + (work_of e + (step_work x + step_work y))) σ.turns _ (TestDone p deepest ks F b M n (emit_if A B k) K u l) (StepDone p deepest ks F b M n lo u bk ct k K l) (Away p deepest ks F b d K) (test_meant p deepest ks F b M n e σ) _ (omega arith)
          (test_ok p deepest ks F b M n e oke u d (emit_if A B k) K l σ s1.0 (omega (arith, rm)) (omega (arith, ar)) s)
          (λ t τ c1 le h.
          first (machine p deepest ks F) M 1 w2 (1 + w2) τ.turns c1 _ (StepDone p deepest ks F b M n lo u bk ct k K l) (Away p deepest ks F b d K) _ (goes_from h.comes (chooses A B (flag_number t))) (omega arith)
          (one_way p deepest ks F b M n t w2 τ.turns K1 (laid b h.next) A B τ (StepDone p deepest ks F b M n lo u bk ct k K l) (Away p deepest ks F b d K) (yes_meant false x u d bk ct) (step_meant p deepest ks F b M n y u (suc d) (suc bk) (suc ct) NoMore)
          (inner_step p deepest ks F b M n x okx r lo u d bk ct w2 k K l h.next τ s2.0 (omega (arith, rm)) (omega (arith, it)) (omega (arith, ar)) (omega (arith, wk)) (omega arith) h.iterators h.starts)
          (inner_step p deepest ks F b M n y oky r lo u d bk ct w2 k K l h.next τ s2.1 (omega (arith, rm)) (omega (arith, it)) (omega (arith, ar)) (omega (arith, wk)) (omega arith) h.iterators h.starts)))

      away_two : (why : Stop) (τ : State) (c : Conf) → Away p deepest ks F b (suc (suc d)) K2 why τ c → Away p deepest ks F b d K why τ c
      away_two why τ c a = away_out p deepest ks F b d (label [] None k) K why τ c (away_out p deepest ks F b (suc d) (label [] None B) K1 why τ c a)

      ends : (f : Flow) (τ : State) (c : Conf) (l1 : Locals) → ((z : ℕ) → l1.iterator z ≡ l.iterator z) → StepDone p deepest ks F b M n lo u (suc (suc bk)) (suc (suc ct)) back K2 l1 f τ c → Onward (machine p deepest ks F) M 1 (StepDone p deepest ks F b M n lo u bk ct k K l f τ) c
      ends Normal τ c l1 same h = record { conf = at ks [] K (laid b h.next) F k (beside_state p deepest ks F τ); steps = 1; few = omega arith; goes = goes_from h.comes (by_steps 1 refl); holds = record { next = h.next; comes = refl; starts = starts_among p deepest ks F b M n u K2 K h.next τ refl h.starts; iterators = λ z. h.iterators z ∙ same z; flows = h.flows } }
      ends Broke τ c l1 same h = record { conf = c; steps = 0; few = omega arith; goes = stays; holds = record { next = h.next; comes = h.comes; starts = starts_among p deepest ks F b M n u K2 K h.next τ refl h.starts; iterators = λ z. h.iterators z ∙ same z; flows = h.flows } }
      ends Continued τ c l1 same h = record { conf = c; steps = 0; few = omega arith; goes = stays; holds = record { next = h.next; comes = h.comes; starts = starts_among p deepest ks F b M n u K2 K h.next τ refl h.starts; iterators = λ z. h.iterators z ∙ same z; flows = h.flows } }

      after_left : (t : Bool) (τ : State) (c : Conf) → Left p deepest ks F b M n zero A2 K2 u l t τ c → Reached p deepest ks F b M w2 τ.turns c (StepDone p deepest ks F b M n lo u bk ct k K l) (Away p deepest ks F b d K) ((if t then yes_meant true x u d bk ct else step_meant p deepest ks F b M n y u (suc d) (suc bk) (suc ct) NoMore) τ)
      after_left true τ c h =
          let D = StepDone p deepest ks F b M n lo u (suc (suc bk)) (suc (suc ct)) back K2 h.next in
          first (machine p deepest ks F) M 0 (step_work x + 1) w2 τ.turns c _ (StepDone p deepest ks F b M n lo u bk ct k K l) (Away p deepest ks F b d K) (yes_meant true x u d bk ct τ) (record { it = h.comes }) (omega arith)
          (then_step (machine p deepest ks F) M 1 (step_work x) (step_work x + 1) τ.turns _ D (StepDone p deepest ks F b M n lo u bk ct k K l) (Away p deepest ks F b d K) (yes_meant true x u d bk ct τ) (omega arith)
          (λ f τ1 c1 q. ends f τ1 c1 h.next h.iterators q)
          (weaker (machine p deepest ks F) M (step_work x) τ.turns _ D D (Away p deepest ks F b (suc (suc d)) K2) (Away p deepest ks F b d K) (yes_meant true x u d bk ct τ) (λ f τ1 c1 q. q) away_two
          (okx r lo u (suc (suc d)) (suc (suc bk)) (suc (suc ct)) back K2 h.next τ s2.0 (omega (arith, rm)) (omega (arith, it)) (omega (arith, ar)) (omega (arith, wk)) h.starts)))
      after_left false τ c h =
          first (machine p deepest ks F) M 0 w2 w2 τ.turns c _ (StepDone p deepest ks F b M n lo u bk ct k K l) (Away p deepest ks F b d K) (step_meant p deepest ks F b M n y u (suc d) (suc bk) (suc ct) NoMore τ) (record { it = h.comes }) (omega arith)
          (inner_step p deepest ks F b M n y oky r lo u d bk ct w2 k K l h.next τ s2.1 (omega (arith, rm)) (omega (arith, it)) (omega (arith, ar)) (omega (arith, wk)) (omega arith) h.iterators (starts_among p deepest ks F b M n u K2 K h.next τ refl h.starts))

      quick_ok : Reached p deepest ks F b M (28 + (work_of e + (step_work x + step_work y))) σ.turns (at ks [] K (laid b l) F quick (beside_state p deepest ks F σ)) (StepDone p deepest ks F b M n lo u bk ct k K l) (Away p deepest ks F b d K) (chosen_meant true e x y u d bk ct σ)
      quick_ok =
          first (machine p deepest ks F) M 2 (25 + (work_of e + (step_work x + step_work y))) (28 + (work_of e + (step_work x + step_work y))) σ.turns _ (at ks [] K2 (laid b l) F (left_unless_pair (layout p deepest ks F b M n) (pair_in e) e (suc (suc d)) zero A2) (beside_state p deepest ks F σ)) (StepDone p deepest ks F b M n lo u bk ct k K l) (Away p deepest ks F b d K) _ (by_steps 2 refl) (omega arith)
          (then_on (machine p deepest ks F) M (work_of e + 24) w2 (25 + (work_of e + (step_work x + step_work y))) σ.turns _ (Left p deepest ks F b M n zero A2 K2 u l) (StepDone p deepest ks F b M n lo u bk ct k K l) (Away p deepest ks F b d K) (test_meant p deepest ks F b M n e σ) _ (omega arith)
          (weaker (machine p deepest ks F) M (work_of e + 24) σ.turns _ (Left p deepest ks F b M n zero A2 K2 u l) (Left p deepest ks F b M n zero A2 K2 u l) (Away p deepest ks F b (suc (suc d)) K2) (Away p deepest ks F b d K) (test_meant p deepest ks F b M n e σ) (λ t τ c q. q) away_two
          (left_unless_pair_ok p deepest ks F b M n e oke u (suc (suc d)) zero A2 K2 l σ s1.0 (omega (arith, rm)) (omega (arith, ar)) (starts_among p deepest ks F b M n u K K2 l σ refl s)))
          (λ t τ c le h. after_left t τ c h))

      by : (j : Bool) → Reached p deepest ks F b M (28 + (work_of e + (step_work x + step_work y))) σ.turns (at ks [] K (laid b l) F (if j then quick else plain) (beside_state p deepest ks F σ)) (StepDone p deepest ks F b M n lo u bk ct k K l) (Away p deepest ks F b d K) (chosen_meant j e x y u d bk ct σ)
      by true = quick_ok
      by false = plain_ok

  pub if_step : (e : Code) (x y : Step) → ExprOk p deepest ks F b M n e → StepOk p deepest ks F b M n x → StepOk p deepest ks F b M n y → StepOk p deepest ks F b M n (If e x y)
  unfolding step_emitted steps_emitted step_noted steps_noted
  if_step e x y oke okx oky r lo u d bk ct k K l σ so rm it ar wk s =
      begun_step p deepest ks F b M n _ (28 + (work_of e + (step_work x + step_work y))) (30 + (work_of e + (step_work x + step_work y))) u K l σ (StepDone p deepest ks F b M n lo u bk ct k K l) (Away p deepest ks F b d K)
      (chosen_meant (is_some (pair_in e)) e x y u d bk ct) (omega arith) s (λ τ s1. if_rest e x y oke okx oky r lo u d bk ct k K l τ so rm it ar wk s1)
