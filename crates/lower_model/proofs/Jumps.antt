-- Steps that go elsewhere: out of a loop or to its next round, and out of the function; and marks of ranges.
use Rattle.std.proofs.Common.{◌≡◌, ℕ, zero, suc, ◌+◌, ◌<◌, Bool, true, false, List, [], ◌∷◌, ◌++◌, length, None, refl, ap, arith}
use Rattle.std.specs.Prelude.{◌&&◌}
use Rattle.std.proofs.lemmas.Bool.{and_parts, ltb-true}
use Rattle.sem_primitives.specs.ConstantNumbers.{flag_number}
use Rattle.sem_primitives.specs.Numbers.{Number, number_word}
use Rattle.sem_primitives.specs.declared.sorts.Answer.TheVariants as answer
use Rattle.sem_primitives.specs.declared.sorts.Sort.TheVariants as sort
use Rattle.wasm_types.specs.Syntax.{Instructions}
use Rattle.wasm_types.specs.declared.instr.Simple.TheVariants.{LocalGet, GlobalSet}
use Rattle.wasm_store.specs.declared.word.Word.TheVariants.{I32, I64}
use Rattle.mid_program.specs.Mid.{Kind, Program, PrimitiveAnswer, Code, Break, Continue, Next, Exit, ExitWith, Return, Mark, form_of}
use Rattle.mid_program.specs.MidMeaning.{stepped, numbered}
use Rattle.sem_scripts.specs.ScriptState.{State, Nexted, Exited, changed, with_range}
use Rattle.mid_program.specs.Sorted.{There, sorted, fits, kinds_of, step_sorted, steps_sorted}
use Rattle.sem_scripts.specs.Statements.{Normal, Broke, Continued, with_status}
use Rattle.lower_model.specs.Cells.{Cell, Bits}
use Rattle.lower_model.specs.Machine.{Label, Frame, at, br}
use Rattle.lower_model.specs.Noted.{step_noted, steps_noted}
use Rattle.lower_model.specs.Places.{Bases, status_global, number_local}
use Rattle.lower_model.specs.Small.{emit, to_number}
use Rattle.lower_model.specs.Statements.{way_next, way_exit, left_by, step_emitted, steps_emitted}
use Rattle.lower_model.proofs.Observer.{Observer}
use Rattle.lower_model.proofs.Runs.{Goes, goes_to, goes_from, then_goes, by_steps, first, then_on, then_settled, there}
use Rattle.lower_model.proofs.Regions.{upd, cells_same}
use Rattle.lower_model.proofs.Globals.{Way, Status, Range, placed, names_on, with_global_at}
use Rattle.lower_model.proofs.GlobalSteps.{global_set_ok, storing}
use Rattle.lower_model.proofs.Locals.{Locals, Number as NumberAt, laid}
use Rattle.lower_model.proofs.Steps.{get_copied}
use Rattle.lower_model.proofs.State.{cells_of, host_of, gone}
use Rattle.lower_model.proofs.Relation.{Fit, fit_less, fit_loose, fit_holds_none, Away}
use Rattle.lower_model.proofs.Answers.{machine, beside_state}
use Rattle.lower_model.proofs.Converting.{Converted, converted_ok}
use Rattle.lower_model.proofs.Giving.{left_in, returned_ok}
use Rattle.lower_model.proofs.Simulation.{work_of, context, meant, Done, ExprOk, room_one, still_stands}
use Rattle.lower_model.proofs.StatementForms.{FlowFits, flows_on, ready, plain_meant, StepDone, StepOk}
use Rattle.lower_model.proofs.Tidy.{begun_step}

broke_fits : (lo : Bool) → lo ≡ true → FlowFits lo Broke
broke_fits true e = tt
broke_fits false e = cc

continued_fits : (lo : Bool) → lo ≡ true → FlowFits lo Continued
continued_fits true e = tt
continued_fits false e = cc

-- a range's global, and what is told of ranges
marked : (f : ℕ → Bool) (i : ℕ) (c : Bool) (j : ℕ) → upd (λ x. Bits (I32 (flag_number (f x)))) i (Bits (I32 (flag_number c))) j ≡ Bits (I32 (flag_number (changed f i c j)))
marked f zero c zero = refl
marked f zero c (suc j) = refl
marked f (suc i) c zero = refl
marked f (suc i) c (suc j) = marked (λ x. f (suc x)) i c j

module _ (p : Program) (deepest : Observer) (ks : List Kind) (F : List Frame) (b : Bases) (M n : ℕ) where
  pub break_step : StepOk p deepest ks F b M n Break
  unfolding step_emitted steps_emitted step_noted steps_noted stepped step_sorted steps_sorted
  break_step r lo u d bk ct k K l σ so rm it ar wk s =
      let P = StepDone p deepest ks F b M n lo u bk ct k K l in
      let Q = Away p deepest ks F b d K in
      begun_step p deepest ks F b M n _ 1 2 u K l σ P Q (plain_meant p deepest ks F b M n Break) (omega arith) s
      (λ τ s1. there (machine p deepest ks F) M 1 1 _ _ Broke τ P Q (by_steps 1 refl) (omega arith) (record { next = l; comes = refl; starts = s1; iterators = λ x. refl; flows = broke_fits lo so }))

  pub continue_step : StepOk p deepest ks F b M n Continue
  unfolding step_emitted steps_emitted step_noted steps_noted stepped step_sorted steps_sorted
  continue_step r lo u d bk ct k K l σ so rm it ar wk s =
      let P = StepDone p deepest ks F b M n lo u bk ct k K l in
      let Q = Away p deepest ks F b d K in
      begun_step p deepest ks F b M n _ 1 2 u K l σ P Q (plain_meant p deepest ks F b M n Continue) (omega arith) s
      (λ τ s1. there (machine p deepest ks F) M 1 1 _ _ Continued τ P Q (by_steps 1 refl) (omega arith) (record { next = l; comes = refl; starts = s1; iterators = λ x. refl; flows = continued_fits lo so }))

  -- the way is told, and the function is left
  leaves_by : {k : Instructions} {K : List Label} {L : List Cell} → (way d : ℕ) (σ : State) →
      Goes (machine p deepest ks F) 2 (at ks [] K L F (left_by way d k) (beside_state p deepest ks F σ)) (br d ks K L F (storing (placed p.ranges (length (kinds_of p.globals)) (cells_of (kinds_of p.globals) way σ)) (host_of σ None)))
  leaves_by way d σ = then_goes (global_set_ok p.ranges (length (kinds_of p.globals)) (cells_of (kinds_of p.globals) 0 σ) Way (Bits (I32 way)) tt refl refl) (by_steps 1 refl)

  pub next_step : StepOk p deepest ks F b M n Next
  unfolding step_emitted steps_emitted step_noted steps_noted stepped step_sorted steps_sorted
  next_step r lo u d bk ct k K l σ so rm it ar wk s =
      let Q = Away p deepest ks F b d K in
      begun_step p deepest ks F b M n _ 3 4 u K l σ (StepDone p deepest ks F b M n lo u bk ct k K l) Q (plain_meant p deepest ks F b M n Next) (omega arith) s
      (λ τ s1. left_in p deepest ks F b M n 3 2 τ.turns _ _ (Q Nexted τ) (leaves_by way_next d τ) (omega arith) (record { next = l; store = _; left = refl; comes = refl; loose = fit_loose p deepest ks F 0 u 0 l τ s1.fit; answer = s1.fit.answer; after = (s1.fit.sound, fit_holds_none p deepest ks F u l τ s1.fit) }))

  pub exit_step : StepOk p deepest ks F b M n Exit
  unfolding step_emitted steps_emitted step_noted steps_noted stepped step_sorted steps_sorted
  exit_step r lo u d bk ct k K l σ so rm it ar wk s =
      let Q = Away p deepest ks F b d K in
      begun_step p deepest ks F b M n _ 3 4 u K l σ (StepDone p deepest ks F b M n lo u bk ct k K l) Q (plain_meant p deepest ks F b M n Exit) (omega arith) s
      (λ τ s1. left_in p deepest ks F b M n 3 2 τ.turns _ _ (Q Exited τ) (leaves_by way_exit d τ) (omega arith) (record { next = l; store = _; left = refl; comes = refl; loose = fit_loose p deepest ks F 0 u 0 l τ s1.fit; answer = s1.fit.answer; after = (s1.fit.sound, fit_holds_none p deepest ks F u l τ s1.fit) }))

  -- the status is told too
  exits_with : {k : Instructions} {K : List Label} → (d : ℕ) (l : Locals) (m : Number) (σ : State) → zero < b.temporaries → l.number zero ≡ Bits (I64 (number_word m)) →
      Goes (machine p deepest ks F) 4 (at ks [] K (laid b l) F (emit (LocalGet (number_local b zero)) (emit (GlobalSet status_global) (left_by way_exit d k))) (beside_state p deepest ks F σ))
      (br d ks K (laid b l) F (gone p.ranges (kinds_of p.globals) Exited (with_status m σ)))
  exits_with d l m σ lt e =
      then_goes (get_copied b l (NumberAt zero) (Bits (I64 (number_word m))) lt e refl)
      (then_goes (global_set_ok p.ranges (length (kinds_of p.globals)) (cells_of (kinds_of p.globals) 0 σ) Status (Bits (I64 (number_word m))) tt refl refl) (leaves_by way_exit d (with_status m σ)))

  pub exit_with_step : (e : Code) → ExprOk p deepest ks F b M n e → StepOk p deepest ks F b M n (ExitWith e)
  unfolding step_emitted steps_emitted step_noted steps_noted stepped step_sorted steps_sorted
  exit_with_step e ok r lo u d bk ct k K l σ0 so rm it ar wk s0 =
      let mach = machine p deepest ks F in
      let ctx = context p deepest ks F b M n in
      let Q = Away p deepest ks F b d K in
      let P = StepDone p deepest ks F b M n lo u bk ct k K l in
      let f = form_of [] e in
      let k2 = emit (LocalGet (number_local b zero)) (emit (GlobalSet status_global) (left_by way_exit d k)) in
      let k1 = to_number b f zero d k2 in
      let s1 = and_parts (fits f sort.Number) (sorted ctx [] e) so in
      let r1 = room_one e in
      begun_step p deepest ks F b M n _ (work_of e + 20) (30 + work_of e) u K l σ0 P Q (plain_meant p deepest ks F b M n (ExitWith e)) (omega arith) s0
      (λ σ s. then_on mach M (work_of e) 20 (work_of e + 20) σ.turns _ (Done p deepest ks F b M n false e [] tt [] (λ i. There) zero u zero k1 K l σ) P Q (meant p deepest ks F b M n [] tt e σ) _ (omega arith)
      (ok false [] tt [] (λ i. There) zero u zero d k1 K l σ s1.1 (λ i lt. absurd (omega (arith, lt))) (omega (arith, rm)) (omega (arith, ar)) (ready p deepest ks F b M n u K l σ s))
      (λ x τ c1 le h.
      let C = Converted p deepest ks F b M 1 u zero zero (PrimitiveAnswer (answer.Of sort.Number)) k2 K h.next in
      first mach M 0 20 20 τ.turns c1 _ P Q _ (record { it = h.comes }) (omega arith)
      (then_settled mach M 16 4 20 _ τ C P Q (numbered f x) _ (omega arith)
      (converted_ok p deepest ks F b M f sort.Number x 1 u zero zero d k2 K h.next τ s1.0 (omega arith) (omega (arith, rm, r1)) h.fit (still_stands e f zero h.next x h.stands))
      (λ m c2 er a.
      left_in p deepest ks F b M n 4 4 τ.turns c2 _ (Away p deepest ks F b d K Exited (with_status m τ)) (goes_from a.comes (exits_with d a.next m τ (omega (arith, rm, r1)) a.holds.1)) (omega arith)
      (record {
        next = a.next;
        store = _;
        left = refl;
        comes = refl;
        loose = fit_loose p deepest ks F 1 u zero a.next τ a.fit;
        answer = a.fit.answer;
        after = (record { room = a.fit.sound.room; names = a.fit.sound.names; calm = a.fit.sound.calm; lend = a.fit.sound.lend }, fit_holds_none p deepest ks F u a.next τ (fit_less p deepest ks F zero u zero a.next τ a.holds.0 a.fit));
      })))))

  pub return_step : ((e : Code) → ExprOk p deepest ks F b M n e) → (e : Code) → StepOk p deepest ks F b M n (Return e)
  unfolding step_emitted steps_emitted step_noted steps_noted stepped step_sorted steps_sorted
  return_step oks e r lo u d bk ct k K l σ0 so rm it ar wk st =
      let f = form_of [] e in
      let P = StepDone p deepest ks F b M n lo u bk ct k K l in
      let s0 = and_parts r (fits f sort.Value && sorted (context p deepest ks F b M n) [] e) so in
      let s1 = and_parts (fits f sort.Value) (sorted (context p deepest ks F b M n) [] e) s0.1 in
      begun_step p deepest ks F b M n _ (work_of e + 20) (30 + work_of e) u K l σ0 P (Away p deepest ks F b d K) (plain_meant p deepest ks F b M n (Return e)) (omega arith) st
      (λ σ s. returned_ok p deepest ks F b M n oks e u d k K l σ P s1.0 s1.1 (omega (arith, rm)) (omega (arith, ar)) s)

  fit_range : (i : ℕ) (c : Bool) (t u w : ℕ) (l : Locals) (σ : State) → Fit p deepest ks F t u w l σ → Fit p deepest ks F t u w l (with_range i c σ)
  fit_range i c t u w l σ f = record { params = f.params; size = f.size; answer = f.answer; hands = f.hands; numbers = f.numbers; free = f.free; walks = f.walks; still = f.still; yards = f.yards; spare = f.spare; sound = record { room = f.sound.room; names = f.sound.names; calm = f.sound.calm; lend = f.sound.lend } }

  range_written : (i : ℕ) (c : Bool) (σ : State) → placed p.ranges (length (kinds_of p.globals)) (with_global_at p.ranges (length (kinds_of p.globals)) (cells_of (kinds_of p.globals) 0 σ) (Range i) (Bits (I32 (flag_number c)))) ≡ placed p.ranges (length (kinds_of p.globals)) (cells_of (kinds_of p.globals) 0 (with_range i c σ))
  range_written i c σ =
      let g = cells_of (kinds_of p.globals) 0 σ in
      ap (λ r. g.way ∷ (g.status ∷ (g.text ∷ (r ++ names_on p.ranges (length (kinds_of p.globals)) g))))
      (cells_same (upd g.range i (Bits (I32 (flag_number c)))) (λ j. Bits (I32 (flag_number (changed σ.ranges i c j)))) p.ranges (λ j lt. marked σ.ranges i c j))

  pub mark_step : (i : ℕ) (c : Bool) → StepOk p deepest ks F b M n (Mark i c)
  unfolding step_emitted steps_emitted step_noted steps_noted stepped step_sorted steps_sorted
  mark_step i c r lo u d bk ct k K l σ0 so rm it ar wk s0 =
      let P = StepDone p deepest ks F b M n lo u bk ct k K l in
      let Q = Away p deepest ks F b d K in
      begun_step p deepest ks F b M n _ 1 2 u K l σ0 P Q (plain_meant p deepest ks F b M n (Mark i c)) (omega arith) s0
      (λ σ s. there (machine p deepest ks F) M 1 1 _ _ Normal (with_range i c σ) P Q
      (goes_to (global_set_ok p.ranges (length (kinds_of p.globals)) (cells_of (kinds_of p.globals) 0 σ) (Range i) (Bits (I32 (flag_number c))) (ltb-true i p.ranges so) refl refl)
      (ap (λ m. at ks [] K (laid b l) F k (storing m (host_of σ None))) (range_written i c σ))) (omega arith)
      (record {
        next = l;
        comes = refl;
        starts = record { fit = fit_range i c 0 u 0 l σ s.fit; walked = s.walked; walks = s.walks; loops = s.loops; turns = s.turns; parameters = s.parameters };
        iterators = λ x. refl;
        flows = flows_on lo;
      }))
