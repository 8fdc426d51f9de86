-- Counters in arrays: the key and what is added are evaluated, a second handle of the key asks for the element, and the first one goes with the sum.
use Rattle.std.proofs.Common.{◌≡◌, inl, ℕ, zero, suc, ◌+◌, ◌<◌, ◌≤◌, Bool, true, false, List, [], ◌∷◌, length, Some, Ok, refl, sym, ap, ◌∙◌, subst, arith}
use Rattle.std.specs.Prelude.{◌&&◌}
use Rattle.awk_values.specs.declared.value.Value.{Value}
use Rattle.awk_values.specs.declared.value.Value.TheVariants as value
use Rattle.sem_primitives.specs.Numbers.{Number as AnyNumber, number_word, outcome_of}
use Rattle.sem_primitives.specs.Sorts.{Row}
use Rattle.sem_primitives.specs.Table.{arguments_of, meaning}
use Rattle.sem_primitives.specs.ValueMeaning.{number_of_row}
use Rattle.sem_primitives.specs.declared.sorts.Answer.TheVariants as answer
use Rattle.sem_primitives.specs.declared.sorts.Argument.TheVariants as argument
use Rattle.sem_primitives.specs.declared.sorts.Sort.TheVariants as sort
use Rattle.sem_primitives.specs.declared.table.Primitive.TheVariants as row
use Rattle.wasm_types.specs.Syntax.{Instructions}
use Rattle.wasm_types.specs.declared.instr.Simple.TheVariants.{LocalGet, LocalTee}
use Rattle.wasm_store.specs.declared.word.Word.TheVariants.{I64}
use Rattle.mid_program.specs.declared.mid.Arithmetic.{Arithmetic}
use Rattle.mid_program.specs.Mid.{Kind, Program, Form, Code, Eval, a_value, a_number, form_of, form_at}
use Rattle.mid_program.specs.MidMeaning.{Holds, boxed, converted, arithmetic_of}
use Rattle.sem_scripts.specs.Names.{ArrayName}
use Rattle.sem_scripts.specs.ScriptState.{State, go_on, settled, call}
use Rattle.mid_program.specs.Sorted.{There, context_of, sorted, held_after, is_well_used, is_kept, is_array_place, fits as fits_sort}
use Rattle.sem_scripts.specs.Statements.{Normal}
use Rattle.lower_model.specs.Cells.{Bits, Held, Gone, is_owned}
use Rattle.lower_model.specs.Emission.{emitted}
use Rattle.lower_model.specs.ImportCalls.{with_some, and_rest, row_in}
use Rattle.lower_model.specs.Machine.{Conf, Look, Label, Frame, at, loops_walked}
use Rattle.lower_model.specs.Places.{Bases, room, arrays_in, handle_local, number_local}
use Rattle.lower_model.specs.Quick.{Tally, is_sum, sum_op}
use Rattle.lower_model.specs.Small.{emit as instruction, ask_row, moved_out}
use Rattle.lower_model.specs.Small
use Rattle.lower_model.specs.Statements.{sum_kept, element_numbered, element_given, tallied}
use Rattle.lower_model.proofs.Observer.{Observer}
use Rattle.lower_model.proofs.Runs.{then_goes, goes_to, same_goes, stays, first, there, weaker, then_on, then_settled}
use Rattle.lower_model.proofs.Regions.{upd_same, upd_other}
use Rattle.lower_model.proofs.Locals.{Locals, Hand, Number as NumberAt, with_at, has_with, laid, laid_at, laid_twice, laid_again}
use Rattle.lower_model.proofs.Steps.{empty, get_moved, get_copied, tee_ok, moved_out_ok}
use Rattle.lower_model.proofs.Pieces.{done_dropped}
use Rattle.lower_model.proofs.Relation.{array_at, HoldsAt, KeptAs, Fit, fit_less, fit_hand, fit_shared, Away, holds_same}
use Rattle.lower_model.proofs.Answers.{machine, beside_state, done_by, row_called, Put, kept_ok, Reached}
use Rattle.lower_model.proofs.Arrays.{array_pushed_ok, array_live, array_in_sort}
use Rattle.lower_model.proofs.Conversions.{ask_to_num}
use Rattle.lower_model.proofs.Converting.{Converted, converted_ok}
use Rattle.lower_model.proofs.Copies.{dup_ok}
use Rattle.lower_model.proofs.HostCalls.{calm_after}
use Rattle.lower_model.proofs.Keeping.{kept_plain}
use Rattle.lower_model.proofs.Simulation.{work_of, context, layout, meant, Done, ExprOk, NoArray, WellUsed, still_stands, walking_same}
use Rattle.lower_model.proofs.StatementForms.{flows_on, plain_meant, Starts, ready, starts_after, StepDone}
use Rattle.lower_model.proofs.Storing.{num_ok}
use Rattle.lower_model.proofs.Summing.{Summed, any_sum, sum_kept_ok, summed_since}
use Rattle.lower_model.proofs.Tallies.{Shape, tally_code, IsAdded, tally_sorted, tally_room, kept_value, given_to, tally_meant, body_meant, tally_means}

module _ (p : Program) (deepest : Observer) (ks : List Kind) (F : List Frame) (b : Bases) (M n : ℕ) where
  -- the element's number comes to temporary 2
  element_numbered_ok : (a : ArrayName) (v : Value) (u d : ℕ) (k : Instructions) (K : List Label) (l : Locals) (σ : State) → is_array_place (context_of p ks) a ≡ true → length ks ≡ b.parameters → 2 < b.temporaries → Fit p deepest ks F 2 u 0 l σ → l.hand 0 ≡ Held v →
      Reached p deepest ks F b M 16 σ.turns (at ks [] K (laid b l) F (element_numbered (layout p deepest ks F b M n) a d k) (beside_state p deepest ks F σ)) (Put p deepest ks F b 2 u 0 a_number k K l) (Away p deepest ks F b d K)
      (go_on (call row.Elem (array_at a σ, (v, tt)) σ) (λ x. settled (number_of_row x)))
  element_numbered_ok a v u d k K l σ pl pk lt ft e =
      let mach = machine p deepest ks F in
      let S = beside_state p deepest ks F σ in
      let i = array_at a σ in
      let r : Row (arguments_of row.Elem) = (i, (v, tt)) in
      let σ1 = done_by p deepest ks F row.Elem r σ in
      let x : Value = (meaning row.Elem r σ.shared).answer in
      let lh : 0 < b.temporaries = omega (arith, lt) in
      let k1 = ask_row row.Elem (ask_row row.ToNum (Small.kept_number b true 2 d k)) in
      let y = array_pushed_ok p deepest ks F b a 2 u 0 [] (instruction (LocalGet (handle_local b zero)) (instruction (LocalTee (handle_local b zero)) (ask_row row.Dup k1))) K l σ pl pk ft in
      let f1 = fit_shared p deepest ks F 2 u 0 l σ σ1.shared (calm_after p row.Elem r σ.shared refl ft.sound.calm) ft in
      let decoded : row_in mach.memory (arguments_of row.Elem) (y.cell ∷ (Held v ∷ [])) ≡ Some r =
      ap (λ o. with_some (and_rest o (Held v ∷ [])) (λ z. with_some (row_in mach.memory (argument.Of sort.Value ∷ []) z.1) (λ rest. Some (z.0, rest)))) (array_in_sort p deepest ks F i y.cell y.array) in
      first mach M (y.steps + 5) 4 16 σ.turns _ _ (Put p deepest ks F b 2 u 0 a_number k K l) (Away p deepest ks F b d K) (settled (number_of_row x) σ1)
      (then_goes y.goes
      (then_goes (get_moved b l (Hand 0) (Held v) lh e)
      (then_goes (goes_to (tee_ok b (with_at l (Hand 0) Gone) (Hand 0) (Held v) lh (ap is_owned (has_with l (Hand 0) Gone)))
      (ap (λ L. Look (handle_local b 0) ks (y.cell ∷ []) K L F (ask_row row.Dup k1) S) (laid_twice b l (Hand 0) Gone (Held v) lh ∙ laid_again b l (Hand 0) (Held v) lh e)))
      (then_goes (dup_ok p deepest ks F b (handle_local b 0) (laid b l) S.globals v σ (laid_at b l (Hand 0) lh ∙ e))
      (then_goes (row_called p deepest ks F row.Elem r (y.cell ∷ (Held v ∷ [])) [] σ refl refl (ap (λ t. t && true) (array_live p deepest ks F i y.cell (laid b l) σ y.array)) decoded refl)
      (ask_to_num p deepest ks F [] σ1 x)))))) (omega (arith, y.few))
      (kept_ok p deepest ks F b M true (answer.Of sort.Number) (number_of_row x) 2 u 0 d k K l σ1 tt lt f1)

  -- an element takes the number of temporary 2, and the key goes with it
  element_given_ok : (a : ArrayName) (v : Value) (m : AnyNumber) (u : ℕ) (k : Instructions) (K : List Label) (l : Locals) (σ : State) (Q : _ → State → Conf → Type 0) → is_array_place (context_of p ks) a ≡ true → length ks ≡ b.parameters → 2 < b.temporaries → Fit p deepest ks F 3 u 0 l σ →
      l.hand 0 ≡ Held v → l.hand 1 ≡ empty → l.hand 2 ≡ empty → l.number 2 ≡ Bits (I64 (number_word m)) →
      Reached p deepest ks F b M 8 σ.turns (at ks [] K (laid b l) F (element_given (layout p deepest ks F b M n) a k) (beside_state p deepest ks F σ)) (λ x. Summed p deepest ks F b M n u k K l) Q (given_to a v m σ)
  element_given_ok a v m u k K l σ Q pl pk lt ft e e1 e2 en =
      let mach = machine p deepest ks F in
      let S = beside_state p deepest ks F σ in
      let i = array_at a σ in
      let c : Value = value.Num m.number in
      let r : Row (arguments_of row.SetElem) = (i, (v, (c, tt))) in
      let σ1 = done_by p deepest ks F row.SetElem r σ in
      let lh : 0 < b.temporaries = omega (arith, lt) in
      let l1 = with_at l (Hand 0) empty in
      let k1 = ask_row row.SetElem (Small.kept_done b false zero k) in
      let y = array_pushed_ok p deepest ks F b a 3 u 0 [] (moved_out (handle_local b zero) (instruction (LocalGet (number_local b 2)) (ask_row row.Num k1))) K l σ pl pk ft in
      let f3 = fit_hand p deepest ks F 0 3 u 0 l σ empty (inl refl) (omega arith) ft in
      let f0 = fit_less p deepest ks F 0 u 0 l1 σ (upd_same l.hand 0 empty) (fit_less p deepest ks F 1 u 0 l1 σ (upd_other l.hand 0 1 empty (λ q. omega (arith, q)) ∙ e1) (fit_less p deepest ks F 2 u 0 l1 σ (upd_other l.hand 0 2 empty (λ q. omega (arith, q)) ∙ e2) f3)) in
      let decoded : row_in mach.memory (arguments_of row.SetElem) (y.cell ∷ (Held v ∷ (Held c ∷ []))) ≡ Some r =
      ap (λ o. with_some (and_rest o (Held v ∷ (Held c ∷ []))) (λ z. with_some (row_in mach.memory (argument.Of sort.Value ∷ (argument.Of sort.Value ∷ [])) z.1) (λ rest. Some (z.0, rest)))) (array_in_sort p deepest ks F i y.cell y.array) in
      there mach M 8 (y.steps + 6) _ _ (tt {0}) σ1 (λ x. Summed p deepest ks F b M n u k K l) Q
      (then_goes y.goes
      (then_goes (moved_out_ok b l (Hand 0) (Held v) lh e)
      (then_goes (get_copied b l1 (NumberAt 2) (Bits (I64 (number_word m))) lt en refl)
      (then_goes (num_ok p deepest ks F b M n (Held v ∷ (y.cell ∷ [])) S.globals σ m)
      (then_goes (row_called p deepest ks F row.SetElem r (y.cell ∷ (Held v ∷ (Held c ∷ []))) [] σ refl refl (ap (λ t. t && true) (array_live p deepest ks F i y.cell (laid b l1) σ y.array)) decoded refl)
      (done_dropped b zero)))))) (omega (arith, y.few))
      (record { next = l1; comes = refl; fit = fit_shared p deepest ks F 0 u 0 l1 σ σ1.shared (calm_after p row.SetElem r σ.shared refl ft.sound.calm) f0; iterators = λ z. refl })

  -- the sum of temporaries 2 and 1 goes to an element
  added_ok : (w : ArrayName) (o : Arithmetic) (v : Value) (x y : AnyNumber) (u d : ℕ) (k : Instructions) (K : List Label) (l : Locals) (σ : State) → is_sum o ≡ true → is_array_place (context_of p ks) w ≡ true → length ks ≡ b.parameters → 2 < b.temporaries → Fit p deepest ks F 3 u 0 l σ →
      l.hand 0 ≡ Held v → HoldsAt a_number 1 l y → HoldsAt a_number 2 l x →
      Reached p deepest ks F b M 20 σ.turns (at ks [] K (laid b l) F (instruction (LocalGet (number_local b 2)) (instruction (LocalGet (number_local b 1)) (sum_kept (layout p deepest ks F b M n) (sum_op o) 2 d (element_given (layout p deepest ks F b M n) w k)))) (beside_state p deepest ks F σ))
      (λ x. Summed p deepest ks F b M n u k K l) (Away p deepest ks F b d K) (go_on (settled (outcome_of (arithmetic_of o x.number y.number)) σ) (λ s. given_to w v s))
  added_ok w o v x y u d k K l σ so pl pk lt ft e h1 h2 =
      let mach = machine p deepest ks F in
      let S = beside_state p deepest ks F σ in
      let Q = Away p deepest ks F b d K in
      let P : Unit {0} → State → Conf → Type 0 = λ z. Summed p deepest ks F b M n u k K l in
      let k1 = element_given (layout p deepest ks F b M n) w k in
      let s = any_sum p deepest ks F b M n o x y so in
      let start = at ks [] K (laid b l) F (instruction (LocalGet (number_local b 2)) (instruction (LocalGet (number_local b 1)) (sum_kept (layout p deepest ks F b M n) (sum_op o) 2 d k1))) S in
      subst (λ r. Reached p deepest ks F b M 20 σ.turns start P Q (go_on (settled (outcome_of r) σ) (λ s. given_to w v s))) (sym s.means)
      (first mach M 2 18 20 σ.turns _ _ P Q _
      (then_goes (get_copied b l (NumberAt 2) (Bits (I64 (number_word x))) lt h2.1 refl) (get_copied b l (NumberAt 1) (Bits (I64 (number_word y))) (omega (arith, lt)) h1.1 refl)) (omega arith)
      (then_settled mach M 8 8 18 _ σ (Put p deepest ks F b 2 u 0 a_number k1 K l) P Q _ (λ s. given_to w v s) (omega arith)
      (sum_kept_ok p deepest ks F b M n (sum_op o) x y s.sum 2 u d k1 K l σ s.few s.words lt ft h2.0)
      (λ m c1 e1 a.
      let l1 = a.next in
      weaker mach M 8 σ.turns c1 (λ z. Summed p deepest ks F b M n u k K l1) P Q Q (given_to w v m σ) (λ z τ c q. summed_since p deepest ks F b M n u k K l l1 τ c (λ i. a.same.iterators i) q) (λ why τ c q. q)
      (first mach M 0 8 8 σ.turns c1 _ (λ z. Summed p deepest ks F b M n u k K l1) Q (given_to w v m σ) (same_goes a.comes) (omega arith)
      (element_given_ok w v m u k K l1 σ Q pl pk lt a.fit (a.same.hands 0 (omega arith) tt ∙ e) (a.same.hands 1 (omega arith) tt ∙ h1.0) a.holds.0 a.holds.1)))))

  -- once the key and what is added are there
  element_counts : (a w : ArrayName) (o : Arithmetic) (g f : Form) (x : Holds g) (y : Holds f) (u d : ℕ) (k : Instructions) (K : List Label) (l : Locals) (σ : State) → is_sum o ≡ true → fits_sort g sort.Value ≡ true → fits_sort f sort.Number ≡ true →
      is_array_place (context_of p ks) a ≡ true → is_array_place (context_of p ks) w ≡ true → length ks ≡ b.parameters → 2 < b.temporaries → Fit p deepest ks F 2 u 0 l σ → HoldsAt g 0 l x → HoldsAt f 1 l y →
      Reached p deepest ks F b M 80 σ.turns (at ks [] K (laid b l) F (Small.to_value b g zero (element_numbered (layout p deepest ks F b M n) a d (Small.to_number b f 1 d
      (instruction (LocalGet (number_local b 2)) (instruction (LocalGet (number_local b 1)) (sum_kept (layout p deepest ks F b M n) (sum_op o) 2 d (element_given (layout p deepest ks F b M n) w k))))))) (beside_state p deepest ks F σ))
      (λ z. Summed p deepest ks F b M n u k K l) (Away p deepest ks F b d K) (tally_meant a w o (boxed g x) (converted f sort.Number y) σ)
  element_counts a w o g f x y u d k K l σ so fg ff pa pw pk lt ft hg hf =
      let mach = machine p deepest ks F in
      let ly = layout p deepest ks F b M n in
      let Q = Away p deepest ks F b d K in
      let P : Unit {0} → State → Conf → Type 0 = λ z. Summed p deepest ks F b M n u k K l in
      let k3 = instruction (LocalGet (number_local b 2)) (instruction (LocalGet (number_local b 1)) (sum_kept ly (sum_op o) 2 d (element_given ly w k))) in
      let k2 = Small.to_number b f 1 d k3 in
      let k1 = element_numbered ly a d k2 in
      then_settled mach M 16 64 80 _ σ (Converted p deepest ks F b M 2 u 0 0 a_value k1 K l) P Q (Ok (boxed g x)) (λ v τ. tally_meant a w o v (converted f sort.Number y) τ) (omega arith)
      (converted_ok p deepest ks F b M g sort.Value x 2 u 0 0 d k1 K l σ fg (omega arith) (omega (arith, lt)) ft hg)
      (λ v c1 e1 a1.
      let l1 = a1.next in
      let σ1 = done_by p deepest ks F row.Elem (array_at a σ, (v, tt)) σ in
      let own = number_of_row (meaning row.Elem (array_at a σ, (v, tt)) σ.shared).answer in
      let h1 = holds_same f 1 l l1 y (a1.keeps.hands 1 (λ q. omega (arith, q))) (a1.keeps.numbers 1 (λ q. omega (arith, q))) hf in
      first mach M 0 64 64 σ.turns c1 _ P Q _ (same_goes a1.comes) (omega arith)
      (then_settled mach M 16 48 64 _ σ1 (Put p deepest ks F b 2 u 0 a_number k2 K l1) P Q own (λ m τ1. go_on (settled (converted f sort.Number y) τ1) (λ z τ2. go_on (settled (outcome_of (arithmetic_of o m.number z.number)) τ2) (λ s. given_to w v s))) (omega arith)
      (element_numbered_ok a v u d k2 K l1 σ pa pk lt a1.fit a1.holds.0)
      (λ m c2 e2 a2.
      let l2 = a2.next in
      first mach M 0 48 48 σ.turns c2 _ P Q _ (same_goes a2.comes) (omega arith)
      (then_settled mach M 16 20 48 _ σ1 (Converted p deepest ks F b M 3 u 0 1 a_number k3 K l2) P Q (converted f sort.Number y) (λ z τ2. go_on (settled (outcome_of (arithmetic_of o m.number z.number)) τ2) (λ s. given_to w v s)) (omega arith)
      (converted_ok p deepest ks F b M f sort.Number y 3 u 0 1 d k3 K l2 σ1 ff (omega arith) (omega (arith, lt)) a2.fit (holds_same f 1 l1 l2 y (a2.same.hands 1 (omega arith) tt) (a2.same.numbers 1 (omega arith)) h1))
      (λ z c3 e3 a3.
      let l3 = a3.next in
      let sum = go_on (settled (outcome_of (arithmetic_of o m.number z.number)) σ1) (λ s. given_to w v s) in
      weaker mach M 20 σ.turns c3 (λ q. Summed p deepest ks F b M n u k K l3) P Q Q sum (λ q τ c s. summed_since p deepest ks F b M n u k K l l3 τ c (λ i. a3.keeps.iterators i ∙ (a2.same.iterators i ∙ a1.keeps.iterators i)) s) (λ why τ c s. s)
      (first mach M 0 20 20 σ.turns c3 _ (λ q. Summed p deepest ks F b M n u k K l3) Q sum (same_goes a3.comes) (omega arith)
      (added_ok w o v m z u d k K l3 σ1 so pw pk lt a3.fit (a3.keeps.hands 0 (λ q. omega (arith, q)) ∙ (a2.same.hands 0 (omega arith) tt ∙ a1.holds.0)) a3.holds
      (a3.keeps.hands 2 (λ q. omega (arith, q)) ∙ a2.holds.0, a3.keeps.numbers 2 (λ q. omega (arith, q)) ∙ a2.holds.1))))))))

  only_used : (g : Form) (e : Code) → held_after zero e There ≡ There → WellUsed p deepest ks F b M n (g ∷ []) (λ i. held_after i e There)
  only_used g e h zero lt = ap is_well_used h
  only_used g e h (suc i) lt = absurd (omega (arith, lt))

  key_plain : (g : Form) → is_kept g ≡ true → (i : ℕ) → NoArray (form_at (g ∷ []) i)
  key_plain g e zero = kept_plain g e
  key_plain g e (suc i) = tt

  pub tallied_ok : (q : Tally) (s : Shape) → IsAdded s q.added → ExprOk p deepest ks F b M n q.key → ExprOk p deepest ks F b M n q.added → is_sum q.op ≡ true → (lo : Bool) (u d bk ct : ℕ) (k : Instructions) (K : List Label) (l : Locals) (σ : State) →
      sorted (context p deepest ks F b M n) [] (tally_code s q) ≡ true → room (tally_code s q) ≤ b.temporaries → arrays_in (tally_code s q) ≤ b.arrays → Starts p deepest ks F b M n u K l σ →
      Reached p deepest ks F b M (work_of (tally_code s q) + 80) σ.turns (at ks [] K (laid b l) F (tallied (layout p deepest ks F b M n) q d k) (beside_state p deepest ks F σ)) (StepDone p deepest ks F b M n lo u bk ct k K l) (Away p deepest ks F b d K) (plain_meant p deepest ks F b M n (Eval (tally_code s q)) σ)
  tallied_ok q s i okk oka sm lo u d bk ct k K l σ so rm ar st =
      let mach = machine p deepest ks F in
      let ly = layout p deepest ks F b M n in
      let g = form_of [] q.key in
      let f = form_of (g ∷ []) q.added in
      let parts = tally_sorted p ks s q i so in
      let enough = tally_room s q in
      let Q = Away p deepest ks F b d K in
      let P0 : Unit {0} → State → Conf → Type 0 = λ z. Summed p deepest ks F b M n u k K l in
      let P = StepDone p deepest ks F b M n lo u bk ct k K l in
      let W = work_of (tally_code s q) in
      let lt : 2 < b.temporaries = omega (arith, rm, enough.three) in
      let k2 = Small.to_value b g zero (element_numbered ly q.read d (Small.to_number b f 1 d (instruction (LocalGet (number_local b 2)) (instruction (LocalGet (number_local b 1)) (sum_kept ly (sum_op q.op) 2 d (element_given ly q.written k)))))) in
      let k1 = emitted ly false (g ∷ []) (zero ∷ []) q.added 1 zero d k2 in
      let rd = ready p deepest ks F b M n u K l σ st in
      subst (λ o. Reached p deepest ks F b M (W + 80) σ.turns (at ks [] K (laid b l) F (tallied ly q d k) (beside_state p deepest ks F σ)) P Q o) (sym (tally_means p deepest ks F b M n s q i σ))
      (then_on mach M (W + 80) 0 (W + 80) σ.turns _ P0 P Q (go_on (meant p deepest ks F b M n [] tt q.key σ) (λ x τ. body_meant p deepest ks F b M n q.op g x q.read q.written q.added τ)) _ (omega arith)
      (then_on mach M (work_of q.key) (work_of q.added + 80) (W + 80) σ.turns _ (Done p deepest ks F b M n false q.key [] tt [] (λ z. There) zero u zero k1 K l σ) P0 Q (meant p deepest ks F b M n [] tt q.key σ) _ (omega (arith, enough.work))
      (okk false [] tt [] (λ z. There) zero u zero d k1 K l σ parts.key (λ z le. absurd (omega (arith, le))) (omega (arith, rm, enough.key)) (omega (arith, ar, enough.key_arrays)) rd)
      (λ x τ c1 le h1.
      let l1 = h1.next in
      first mach M 0 (work_of q.added + 80) (work_of q.added + 80) τ.turns c1 _ P0 Q _ (same_goes h1.comes) (omega arith)
      (then_on mach M (work_of q.added) 80 (work_of q.added + 80) τ.turns _ (Done p deepest ks F b M n false q.added (g ∷ []) (x, tt) (zero ∷ []) (λ z. There) 1 u zero k2 K l1 τ) P0 Q (meant p deepest ks F b M n (g ∷ []) (x, tt) q.added τ) _ (omega arith)
      (oka false (g ∷ []) (x, tt) (zero ∷ []) (λ z. There) 1 u zero d k2 K l1 τ parts.added (only_used g q.added parts.still) (omega (arith, rm, enough.added)) (omega (arith, ar, enough.added_arrays))
      (record {
        below = (omega arith, tt);
        kept = (still_stands q.key g zero l1 x h1.stands, tt);
        fit = h1.fit;
        turns = let t = st.turns in omega (arith, le, t);
        parameters = st.parameters;
        plain = key_plain g parts.kept;
        walking = walking_same p deepest ks F b M n (loops_walked K) u l l1 (λ z. h1.same.iterators z) rd.walking;
        none = refl;
      }))
      (λ y τ1 c2 le2 h2.
      let l2 = h2.next in
      let m = tally_meant q.read q.written q.op (boxed g x) (converted f sort.Number y) τ1 in
      first mach M 0 80 80 τ1.turns c2 _ P0 Q m (same_goes h2.comes) (omega arith)
      (weaker mach M 80 τ1.turns _ (λ z. Summed p deepest ks F b M n u k K l2) P0 Q Q m (λ z σ1 c e. summed_since p deepest ks F b M n u k K l l2 σ1 c (λ v. h2.same.iterators v ∙ h1.same.iterators v) e) (λ why σ1 c e. e)
      (element_counts q.read q.written q.op g f x y u d k K l2 τ1 sm (kept_value g parts.kept) parts.numeric parts.reads parts.writes st.parameters lt h2.fit
      (subst (λ t. KeptAs t g zero l2 x) parts.still h2.kept.0) (still_stands q.added f 1 l2 y h2.stands)))))))
      (λ z τ c1 le h.
      there mach M 0 0 c1 c1 Normal τ P Q stays (omega arith)
      (record { next = h.next; comes = h.comes; starts = starts_after p deepest ks F b M n u K K l h.next σ τ st refl le h.iterators h.fit; iterators = h.iterators; flows = flows_on lo })))
