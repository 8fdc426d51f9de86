-- `n += e`: what is added is evaluated first, the name's number is asked then, and the sum goes to the name.
use Rattle.std.proofs.Common.{◌≡◌, ℕ, zero, suc, ◌+◌, ◌-◌, ◌%◌, ◌^◌, ◌<◌, ◌≤◌, Bool, true, false, List, [], ◌∷◌, Some, None, Option, Ok, Err, Result, ℤ, pos, negsuc, unsigned_abs, w64, refl, sym, ap, ◌∙◌, subst, arith, if◌then◌else◌, length}
use Rattle.std.specs.Prelude.{◌&&◌}
use Rattle.std.proofs.lemmas.Bool.{and_parts, lt-ltb}
use Rattle.awk_values.specs.Faults.{fault_number}
use Rattle.awk_values.specs.declared.fault.Fault.{Fault}
use Rattle.awk_values.specs.declared.fault.Fault.TheVariants.{Range}
use Rattle.awk_values.specs.declared.value.Value.{Value}
use Rattle.awk_values.specs.declared.value.Value.TheVariants as value
use Rattle.sem_primitives.specs.Numbers.{Number as AnyNumber, faulted_word, number_word, outcome_of}
use Rattle.sem_primitives.specs.ValueMeaning.{number_of_row}
use Rattle.sem_primitives.specs.declared.sorts.Answer.TheVariants as answer
use Rattle.sem_primitives.specs.declared.sorts.Sort.TheVariants as sort
use Rattle.sem_primitives.specs.declared.table.Primitive.TheVariants as row
use Rattle.sem_primitives.proofs.Words.{small}
use Rattle.sem_scripts.specs.Steps.{is_field_number}
use Rattle.wasm_types.specs.Syntax.{Instructions, Done as NoMore}
use Rattle.wasm_types.specs.declared.types.ValType.TheVariants as ty
use Rattle.wasm_types.specs.declared.instr.IBinOp.TheVariants as bin
use Rattle.wasm_types.specs.declared.instr.IRelOp.TheVariants.{GtU}
use Rattle.wasm_types.specs.declared.instr.Simple.TheVariants.{Br, LocalGet, LocalTee, I32Const, I64Const, Binary, Compare as Comparing}
use Rattle.wasm_store.specs.Integers.{binary_at}
use Rattle.wasm_store.specs.Words.{flag, given_by}
use Rattle.wasm_store.specs.declared.word.Word.TheVariants.{I32, I64}
use Rattle.mid_program.specs.declared.mid.Arithmetic.{Arithmetic}
use Rattle.mid_program.specs.declared.mid.Arithmetic.TheVariants as inline
use Rattle.mid_program.specs.declared.mid.Operation.TheVariants.{Inline}
use Rattle.mid_program.specs.Mid.{Kind, Program, Code, Do, Get, Set, Let, Bound, Codes, End, At, Eval, a_number, a_value, form_of, Slot, Form}
use Rattle.mid_program.specs.MidMeaning.{Holds, converted, evaluated, all_evaluated, stepped, then_row, arithmetic_of, store_slot}
use Rattle.sem_scripts.specs.ScriptState.{State, Faulted, Outcome, ◌>>◌, give, go_on, settled, global_value, local_value}
use Rattle.mid_program.specs.Sorted.{There, kinds_of, sorted, all_sorted, is_kept, keeps_well, fits as fits_sort}
use Rattle.sem_scripts.specs.Statements.{Normal}
use Rattle.lower_model.specs.Cells.{Bits}
use Rattle.lower_model.specs.Emission.{field_at}
use Rattle.lower_model.specs.Machine.{Conf, Label, Frame, at, with_operands, push_result}
use Rattle.lower_model.specs.Places.{Bases, room, arrays_in, number_local}
use Rattle.lower_model.specs.Quick.{Update, is_sum, sum_op, name_in, update_of, kept_update, set_update, let_update, update_in, Holder, holder_of, update_after, OfName, OfParameter}
use Rattle.lower_model.specs.Small.{emit, ask_row, fail_if}
use Rattle.lower_model.specs.Small
use Rattle.lower_model.specs.Statements.{holder_cleared, name_put, name_numbered, field_numbered, sum_taken, both_asked, updated}
use Rattle.lower_model.proofs.Observer.{Observer}
use Rattle.lower_model.proofs.Runs.{then_goes, goes_to, goes_from, same_goes, by_steps, first, weaker, then_on, then_settled, there, faulted, stays}
use Rattle.lower_model.proofs.Locals.{Locals, Number as NumberAt, with_at, laid}
use Rattle.lower_model.proofs.Steps.{empty, get_copied, tee_ok}
use Rattle.lower_model.proofs.Calls.{called}
use Rattle.lower_model.proofs.Pieces.{chooses}
use Rattle.lower_model.proofs.Relation.{HoldsAt, Fit, fit_less, fit_more, Away, holds_same}
use Rattle.lower_model.proofs.Answers.{machine, beside_state, left_beside, reply, after_reply, away_with, Reached}
use Rattle.lower_model.proofs.Conversions.{ask_to_num}
use Rattle.lower_model.proofs.Converting.{Converted, converted_ok}
use Rattle.lower_model.proofs.Fields.{field_code, field_at_is, field_found}
use Rattle.lower_model.proofs.Products.{word, is_out, mod_small, mod_once}
use Rattle.host_imports.specs.declared.import.Import.TheVariants.{OfPrimitive}
use Rattle.lower_model.proofs.Quick.{holder_is, name_is}
use Rattle.lower_model.proofs.QuickParts.{HolderFits, slot_fits, set_sorted, HolderTakes}
use Rattle.lower_model.proofs.State.{holder_slot, holder_value}
use Rattle.lower_model.proofs.QuickNames.{some_is}
use Rattle.lower_model.proofs.Simulation.{work_of, context, layout, meant, Done, ExprOk, room_one, still_stands}
use Rattle.lower_model.proofs.StatementForms.{flows_on, plain_meant, Starts, ready, starts_after, StepDone}
use Rattle.lower_model.proofs.Summing.{Summed, name_numbered_ok, sum_given, summed_in_turn, added_ok, summed_since}

-- which code such a step is

abbrev pub added_code : Update → Code
added_code q = Let q.added (Set (holder_slot q.target) (Do (Inline q.op) (At (Get (holder_slot q.name)) (At (Bound true zero) End))))

pub added_is : (e : Code) (q : Update) → update_in e ≡ Some q → (e ≡ added_code q) × (is_sum q.op ≡ true)
added_is (Let a c) q e = let_is a c q e
  where
    kept_is : (i : Holder) (o : Arithmetic) (a : Code) (es : Codes) (q : Update) → kept_update i o a es ≡ Some q → (Let a (Set (holder_slot i) (Do (Inline o) es)) ≡ added_code q) × (is_sum q.op ≡ true)
    kept_is i o a (At x (At (Bound true zero) End)) q e = by (name_in x) refl e
      where
        sums : (j : Holder) (t : Bool) → is_sum o ≡ t → x ≡ Get (holder_slot j) → (if t then Some (record { target = i; op = o; name = j; added = a }) else None) ≡ Some q → (Let a (Set (holder_slot i) (Do (Inline o) (At x (At (Bound true zero) End)))) ≡ added_code q) × (is_sum q.op ≡ true)
        sums j true et ex e1 =
            let r = some_is (record { target = i; op = o; name = j; added = a }) q e1 in
            (ap (λ (z : Code). Let a (Set (holder_slot i) (Do (Inline o) (At z (At (Bound true zero) End))))) ex ∙ ap added_code r, ap (λ (z : Update). is_sum z.op) (sym r) ∙ et)
        sums j false et ex e1 = cc

        by : (j : Option Holder) → name_in x ≡ j → update_of i o j a ≡ Some q → (Let a (Set (holder_slot i) (Do (Inline o) (At x (At (Bound true zero) End)))) ≡ added_code q) × (is_sum q.op ≡ true)
        by (Some j) ej e1 = sums j (is_sum o) refl (name_is x j ej) e1
        by None ej e1 = cc
    kept_is i o a es q e = cc

    set_is : (i : Holder) (a c : Code) (q : Update) → set_update i a c ≡ Some q → (Let a (Set (holder_slot i) c) ≡ added_code q) × (is_sum q.op ≡ true)
    set_is i a (Do (Inline o) es) q e = kept_is i o a es q e
    set_is i a c q e = cc

    let_is : (a c : Code) (q : Update) → let_update a c ≡ Some q → (Let a c ≡ added_code q) × (is_sum q.op ≡ true)
    let_is a (Set x c) q e = by (holder_of x) refl e
      where
        by : (h : Option Holder) → holder_of x ≡ h → update_after h a c ≡ Some q → (Let a (Set x c) ≡ added_code q) × (is_sum q.op ≡ true)
        by (Some i) eh e1 = let y = set_is i a c q e1 in (ap (λ (z : Slot). Let a (Set z c)) (holder_is x i eh) ∙ y.0, y.1)
        by None eh e1 = cc
    let_is a c q e = cc
added_is e q eq = cc

-- a number with what stands for a fault has no sum in range

fault_far : (z : ℤ) → unsigned_abs z ≤ 2 ^ 53 → is_out ((word z + 2 ^ 63) % 2 ^ 64) ≡ true
fault_far (pos j) h =
    let e = mod_small (j + 2 ^ 63) (omega (arith, h)) in
    let s = mod_small (j + 2 ^ 63 + 2 ^ 53) (omega (arith, h)) in
    ap is_out e ∙ lt-ltb (2 ^ 54) ((j + 2 ^ 63 + 2 ^ 53) % 2 ^ 64) (omega (arith, s))
fault_far (negsuc j) h =
    let e = mod_once (2 ^ 64 - suc j + 2 ^ 63) (2 ^ 63 - suc j) (omega (arith, h)) (omega arith) in
    let s = mod_small (2 ^ 63 - suc j + 2 ^ 53) (omega (arith, h)) in
    ap is_out e ∙ lt-ltb (2 ^ 54) ((2 ^ 63 - suc j + 2 ^ 53) % 2 ^ 64) (omega (arith, s, h))

left_out : (m : AnyNumber) → is_out ((number_word m + 2 ^ 63) % 2 ^ 64) ≡ true
left_out m = fault_far m.number (small m)

fault_summed : (o : Arithmetic) (m : AnyNumber) → is_sum o ≡ true → binary_at w64 (sum_op o) (number_word m) faulted_word ≡ Ok ((number_word m + 2 ^ 63) % 2 ^ 64)
fault_summed inline.Plus m e = refl
fault_summed inline.Minus m e = refl
fault_summed o m e = cc

module _ (p : Program) (deepest : Observer) (ks : List Kind) (F : List Frame) (b : Bases) (M n : ℕ) where
  abbrev kinds : List Kind
  kinds = kinds_of p.globals

  pub record UpdateParts (q : Update) : Type 0 where
    pub added : sorted (context p deepest ks F b M n) [] q.added ≡ true
    pub kind : HolderTakes p deepest ks F b M n q.target
    pub name : HolderFits p deepest ks F b M n q.name
    pub numeric : fits_sort (form_of [] q.added) sort.Number ≡ true

  pub added_sorted : (q : Update) → sorted (context p deepest ks F b M n) [] (added_code q) ≡ true → UpdateParts q
  unfolding sorted all_sorted
  added_sorted q so =
      let ctx = context p deepest ks F b M n in
      let g = form_of [] q.added in
      let fg = fits_sort g sort.Number in
      let c = Set (holder_slot q.target) (Do (Inline q.op) (At (Get (holder_slot q.name)) (At (Bound true zero) End))) in
      let s = and_parts (is_kept g) (keeps_well c && (sorted ctx [] q.added && sorted ctx (g ∷ []) c)) so in
      let s1 = and_parts (keeps_well c) (sorted ctx [] q.added && sorted ctx (g ∷ []) c) s.1 in
      let s2 = and_parts (sorted ctx [] q.added) (sorted ctx (g ∷ []) c) s1.1 in
      let h = set_sorted p deepest ks F b M n (g ∷ []) q.target q.op (Get (holder_slot q.name)) (Bound true zero) s2.1 in
      record { added = s2.0; kind = h.kind; name = slot_fits p deepest ks F b M n q.name h.first_one; numeric = h.fits_second }

  -- what the name and what was added give

  abbrev Two : Type 0
  Two = AnyNumber × (AnyNumber × Unit {0})

  abbrev row_summed : Holder → Arithmetic → Result AnyNumber Fault → Result AnyNumber Fault → State → Outcome AnyNumber
  row_summed i o r1 r2 σ =
      go_on (go_on {A = Two} {B = AnyNumber} (settled (then_row {A = AnyNumber} {B = Two} r1 (λ x. then_row {A = AnyNumber × Unit {0}} {B = Two} (then_row {A = AnyNumber} {B = AnyNumber × Unit {0}} r2 (λ z. Ok (z, tt))) (λ zs. Ok (x, zs)))) σ)
      (λ given. settled (outcome_of (arithmetic_of o given.0.number given.1.0.number)))) (λ y. store_slot (holder_slot i) (value.Num y.number) >> give y)

  row_in_turn : (i : Holder) (o : Arithmetic) (r1 r2 : Result AnyNumber Fault) (σ : State) → row_summed i o r1 r2 σ ≡ summed_in_turn p deepest ks F b M n i o r1 r2 σ
  row_in_turn i o (Ok x) (Ok z) σ = refl
  row_in_turn i o (Ok x) (Err f) σ = refl
  row_in_turn i o (Err f) r2 σ = refl

  abbrev added_meant : (q : Update) → Holds (form_of [] q.added) → State → Outcome AnyNumber
  added_meant q x τ = summed_in_turn p deepest ks F b M n q.target q.op (number_of_row (holder_value q.name τ)) (converted (form_of [] q.added) sort.Number x) τ

  added_means : (i h : Holder) (o : Arithmetic) (g : Form) (x : Holds g) (τ : State) → meant p deepest ks F b M n (g ∷ []) (x, tt) (Set (holder_slot i) (Do (Inline o) (At (Get (holder_slot h)) (At (Bound true zero) End)))) τ ≡ summed_in_turn p deepest ks F b M n i o (number_of_row (holder_value h τ)) (converted g sort.Number x) τ
  unfolding evaluated all_evaluated
  added_means i (OfName j) o g x τ = row_in_turn i o (number_of_row (global_value j τ)) (converted g sort.Number x) τ
  added_means i (OfParameter j) o g x τ = row_in_turn i o (number_of_row (local_value j τ)) (converted g sort.Number x) τ

  stored_means : (q : Update) (x : Holds (form_of [] q.added)) (τ : State) → meant p deepest ks F b M n (form_of [] q.added ∷ []) (x, tt) (Set (holder_slot q.target) (Do (Inline q.op) (At (Get (holder_slot q.name)) (At (Bound true zero) End)))) τ ≡ added_meant q x τ
  stored_means q x τ = added_means q.target q.name q.op (form_of [] q.added) x τ

  -- the name takes the sum, once what is added is there
  name_takes : (q : Update) (u d : ℕ) (k : Instructions) (K : List Label) (l : Locals) (x : Holds (form_of [] q.added)) (τ : State) → UpdateParts q → length ks ≡ b.parameters → is_sum q.op ≡ true → 1 < b.temporaries → Fit p deepest ks F 1 u 0 l τ → HoldsAt (form_of [] q.added) 0 l x →
      Reached p deepest ks F b M 75 τ.turns (at ks [] K (laid b l) F (name_numbered (layout p deepest ks F b M n) q.name 1 d (Small.to_number b (form_of [] q.added) zero d (emit (LocalGet (number_local b 1)) (emit (LocalGet (number_local b zero)) (sum_taken (layout p deepest ks F b M n) (sum_op q.op) q.target zero d k))))) (beside_state p deepest ks F τ))
      (λ a. Summed p deepest ks F b M n u k K l) (Away p deepest ks F b d K) (added_meant q x τ)
  name_takes q u d k K l x τ parts pk so lt ft hd =
      let mach = machine p deepest ks F in
      let y = layout p deepest ks F b M n in
      let g = form_of [] q.added in
      let Q = Away p deepest ks F b d K in
      let P : AnyNumber → State → Conf → Type 0 = λ a. Summed p deepest ks F b M n u k K l in
      let k3 = sum_taken y (sum_op q.op) q.target zero d k in
      let k2 = emit (LocalGet (number_local b 1)) (emit (LocalGet (number_local b zero)) k3) in
      let k1 = Small.to_number b g zero d k2 in
      let own = number_of_row (holder_value q.name τ) in
      let f2 = fit_more p deepest ks F 1 u 0 l τ ft in
      then_settled mach M 27 48 75 _ τ (Converted p deepest ks F b M 2 u 0 1 a_number k1 K l) P Q own (λ m σ1. go_on (settled (converted g sort.Number x) σ1) (λ z σ2. sum_given p deepest ks F b M n q.target σ2 (outcome_of (arithmetic_of q.op m.number z.number)))) (omega arith)
      (name_numbered_ok p deepest ks F b M n q.name 2 u 0 1 d k1 K l τ parts.name pk (omega arith) lt f2 (ft.free 1 (omega arith)))
      (λ m c1 e1 a1.
      first mach M 0 48 48 τ.turns c1 _ P Q _ (same_goes a1.comes) (omega arith)
      (then_settled mach M 16 32 48 _ τ (Converted p deepest ks F b M 2 u 0 0 a_number k2 K a1.next) P Q (converted g sort.Number x) (λ z σ2. sum_given p deepest ks F b M n q.target σ2 (outcome_of (arithmetic_of q.op m.number z.number))) (omega arith)
      (converted_ok p deepest ks F b M g sort.Number x 2 u 0 0 d k2 K a1.next τ parts.numeric (omega arith) (omega (arith, lt)) a1.fit (holds_same g 0 l a1.next x (a1.keeps.hands 0 (λ e. omega (arith, e))) (a1.keeps.numbers 0 (λ e. omega (arith, e))) hd))
      (λ z c2 e2 a2.
      let l2 = a2.next in
      let sum = sum_given p deepest ks F b M n q.target τ (outcome_of (arithmetic_of q.op m.number z.number)) in
      weaker mach M 32 τ.turns c2 (λ a. Summed p deepest ks F b M n u k K l2) P Q Q sum (λ w σ1 c e. summed_since p deepest ks F b M n u k K l l2 σ1 c (λ v. a2.keeps.iterators v ∙ a1.keeps.iterators v) e) (λ why σ1 c e. e)
      (first mach M 2 30 32 τ.turns c2 _ (λ a. Summed p deepest ks F b M n u k K l2) Q sum
      (goes_from a2.comes (then_goes (get_copied b l2 (NumberAt 1) (Bits (I64 (number_word m))) lt (a2.keeps.numbers 1 (λ e. omega (arith, e)) ∙ a1.holds.1) refl) (get_copied b l2 (NumberAt 0) (Bits (I64 (number_word z))) (omega (arith, lt)) a2.holds.1 refl))) (omega arith)
      (added_ok p deepest ks F b M n q.op q.target m z u d k K l2 τ so parts.kind pk (omega (arith, lt)) (fit_less p deepest ks F 1 u 0 l2 τ (a2.keeps.hands 1 (λ e. omega (arith, e)) ∙ a1.holds.0) a2.fit) a2.holds.0)))))

  plainly_updated_ok : (q : Update) → ExprOk p deepest ks F b M n q.added → (lo : Bool) (u d bk ct : ℕ) (k : Instructions) (K : List Label) (l : Locals) (σ : State) → sorted (context p deepest ks F b M n) [] (added_code q) ≡ true → is_sum q.op ≡ true → room (added_code q) ≤ b.temporaries → arrays_in (added_code q) ≤ b.arrays → Starts p deepest ks F b M n u K l σ →
      Reached p deepest ks F b M (work_of q.added + 75) σ.turns (at ks [] K (laid b l) F (both_asked (layout p deepest ks F b M n) None q d (sum_taken (layout p deepest ks F b M n) (sum_op q.op) q.target zero d k)) (beside_state p deepest ks F σ)) (StepDone p deepest ks F b M n lo u bk ct k K l) (Away p deepest ks F b d K) (plain_meant p deepest ks F b M n (Eval (added_code q)) σ)
  unfolding stepped evaluated all_evaluated
  plainly_updated_ok q ok lo u d bk ct k K l σ so sm rm ar s =
      let mach = machine p deepest ks F in
      let y = layout p deepest ks F b M n in
      let g = form_of [] q.added in
      let parts = added_sorted q so in
      let Q = Away p deepest ks F b d K in
      let P0 : AnyNumber → State → Conf → Type 0 = λ a. Summed p deepest ks F b M n u k K l in
      let P = StepDone p deepest ks F b M n lo u bk ct k K l in
      let k2 = emit (LocalGet (number_local b 1)) (emit (LocalGet (number_local b zero)) (sum_taken y (sum_op q.op) q.target zero d k)) in
      let k1 = name_numbered y q.name 1 d (Small.to_number b g zero d k2) in
      let r1 = room_one q.added in
      then_on mach M (work_of q.added + 75) 0 (work_of q.added + 75) σ.turns _ P0 P Q (meant p deepest ks F b M n [] tt (added_code q) σ) _ (omega arith)
      (then_on mach M (work_of q.added) 75 (work_of q.added + 75) σ.turns _ (Done p deepest ks F b M n false q.added [] tt [] (λ i. There) zero u zero k1 K l σ) P0 Q (meant p deepest ks F b M n [] tt q.added σ) _ (omega arith)
      (ok false [] tt [] (λ i. There) zero u zero d k1 K l σ parts.added (λ i lt. absurd (omega (arith, lt))) (omega (arith, rm)) (omega (arith, ar)) (ready p deepest ks F b M n u K l σ s))
      (λ x τ c1 le h.
      let l1 = h.next in
      first mach M 0 75 75 τ.turns c1 _ P0 Q _ (same_goes h.comes) (omega arith)
      (weaker mach M 75 τ.turns _ (λ a. Summed p deepest ks F b M n u k K l1) P0 Q Q _ (λ w σ1 c e. summed_since p deepest ks F b M n u k K l l1 σ1 c h.same.iterators e) (λ why σ1 c e. e)
      (subst (λ r. Reached p deepest ks F b M 75 τ.turns (at ks [] K (laid b l1) F k1 (beside_state p deepest ks F τ)) (λ a. Summed p deepest ks F b M n u k K l1) Q r) (sym (stored_means q x τ))
      (name_takes q u d k K l1 x τ parts s.parameters sm (omega (arith, rm, r1)) h.fit (still_stands q.added g zero l1 x h.stands))))))
      (λ w τ c1 le h.
      there mach M 0 0 c1 c1 Normal τ P Q stays (omega arith)
      (record { next = h.next; comes = h.comes; starts = starts_after p deepest ks F b M n u K K l h.next σ τ s refl le h.iterators h.fit; iterators = h.iterators; flows = flows_on lo }))

  -- `n += $2`: the field's number comes onto the stack, or what stands for a fault.

  -- the sum with what stands for a fault is out of range, so the function is left; the fault is kept already
  fault_found : (f : Fault) (o : Arithmetic) (m : AnyNumber) (i : Holder) (u d : ℕ) (k : Instructions) (K : List Label) (l : Locals) (σ : State) → is_sum o ≡ true → 0 < b.temporaries → Fit p deepest ks F 1 u 0 l σ → l.hand 0 ≡ empty → Reached p deepest ks F b M 30 σ.turns (at ks (Bits (I64 faulted_word) ∷ (Bits (I64 (number_word m)) ∷ [])) K (laid b l) F (sum_taken (layout p deepest ks F b M n) (sum_op o) i zero d k) (left_beside p deepest ks F (Faulted f) σ)) (λ a. Summed p deepest ks F b M n u k K l) (Away p deepest ks F b d K) (sum_given p deepest ks F b M n i σ (Err f))
  fault_found f o m i u d k K l σ so lt ft he =
      let mach = machine p deepest ks F in
      let G = left_beside p deepest ks F (Faulted f) σ in
      let w = (number_word m + 2 ^ 63) % 2 ^ 64 in
      let c = Bits (I64 w) in
      let l1 = with_at l (NumberAt 0) c in
      let k2 = holder_cleared (layout p deepest ks F b M n) i (emit (LocalGet (number_local b zero)) (emit (name_put (layout p deepest ks F b M n) i) k)) in
      let k1 = emit (I64Const (2 ^ 53)) (emit (Binary ty.I64 bin.Add) (emit (I64Const (2 ^ 54)) (emit (Comparing ty.I64 GtU) (fail_if Range d k2)))) in
      let P : AnyNumber → State → Conf → Type 0 = λ a. Summed p deepest ks F b M n u k K l in
      faulted mach M 30 7 _ _ f σ P (Away p deepest ks F b d K)
      (then_goes (by_steps 1 (ap (λ r. with_operands (push_result [] (Some (given_by I64 r))) ks K (laid b l) F (emit (LocalTee (number_local b zero)) k1) G) (fault_summed o m so)))
      (then_goes (tee_ok b l (NumberAt 0) c lt (ft.numbers 0))
      (then_goes (goes_to (by_steps 2 refl) (ap (λ t. at ks (Bits (flag t) ∷ []) K (laid b l1) F (fail_if Range d k2) G) (left_out m)))
      (then_goes (chooses (emit (I32Const (fault_number Range)) (ask_row row.Fail (emit (Br (suc d)) NoMore))) NoMore 1)
      (then_goes (called (OfPrimitive row.Fail) (Bits (I32 (fault_number Range)) ∷ []) [] G None G.host refl refl refl)
      (by_steps 1 refl)))))) (omega arith)
      (away_with p deepest ks F b M 0 u 0 d w K l σ f (fit_less p deepest ks F 0 u 0 l σ he ft))

  -- the name takes the sum with the field's number, if there is one
  field_adds : (r : Result AnyNumber Fault) (o : Arithmetic) (m : AnyNumber) (i : Holder) (u d : ℕ) (k : Instructions) (K : List Label) (l : Locals) (σ : State) → is_sum o ≡ true → HolderTakes p deepest ks F b M n i → length ks ≡ b.parameters → 0 < b.temporaries → Fit p deepest ks F 1 u 0 l σ → l.hand 0 ≡ empty →
      Reached p deepest ks F b M 30 σ.turns (at ks (reply (answer.Of sort.Number) r (Bits (I64 (number_word m)) ∷ [])) K (laid b l) F (sum_taken (layout p deepest ks F b M n) (sum_op o) i zero d k) (after_reply p deepest ks F r σ)) (λ a. Summed p deepest ks F b M n u k K l) (Away p deepest ks F b d K) (go_on (settled r σ) (λ z σ1. sum_given p deepest ks F b M n i σ1 (outcome_of (arithmetic_of o m.number z.number))))
  field_adds (Ok z) o m i u d k K l σ so hk pk lt ft he = added_ok p deepest ks F b M n o i m z u d k K l σ so hk pk lt ft he
  field_adds (Err f) o m i u d k K l σ so hk pk lt ft he = fault_found f o m i u d k K l σ so lt ft he

  abbrev with_added : Update → Code → Update
  with_added q a = record { target = q.target; op = q.op; name = q.name; added = a }

  abbrev with_field : Update → ℤ → Update
  with_field q z = with_added q (field_code z)

  field_updated_ok : (q : Update) (z : ℤ) → is_field_number z ≡ true → (lo : Bool) (u d bk ct : ℕ) (k : Instructions) (K : List Label) (l : Locals) (σ : State) → sorted (context p deepest ks F b M n) [] (added_code (with_field q z)) ≡ true → is_sum q.op ≡ true → room (added_code (with_field q z)) ≤ b.temporaries → Starts p deepest ks F b M n u K l σ →
      Reached p deepest ks F b M (work_of (field_code z) + 75) σ.turns (at ks [] K (laid b l) F (both_asked (layout p deepest ks F b M n) (Some z) (with_field q z) d (sum_taken (layout p deepest ks F b M n) (sum_op q.op) q.target zero d k)) (beside_state p deepest ks F σ)) (StepDone p deepest ks F b M n lo u bk ct k K l) (Away p deepest ks F b d K) (plain_meant p deepest ks F b M n (Eval (added_code (with_field q z))) σ)
  unfolding stepped evaluated all_evaluated
  field_updated_ok q z is lo u d bk ct k K l σ so sm rm s =
      let mach = machine p deepest ks F in
      let y = layout p deepest ks F b M n in
      let q1 = with_field q z in
      let parts = added_sorted q1 so in
      let found = field_found p deepest ks F b M n z σ is in
      let a = found.value in
      let W = work_of (field_code z) + 75 in
      let Q = Away p deepest ks F b d K in
      let P0 : AnyNumber → State → Conf → Type 0 = λ x. Summed p deepest ks F b M n u k K l in
      let P = StepDone p deepest ks F b M n lo u bk ct k K l in
      let k3 = sum_taken y (sum_op q.op) q.target zero d k in
      let k1 = emit (LocalGet (number_local b zero)) (field_numbered y z k3) in
      let own = number_of_row (holder_value q.name σ) in
      let ft = (ready p deepest ks F b M n u K l σ s).fit in
      let lt : 0 < b.temporaries = omega (arith, rm) in
      let start = at ks [] K (laid b l) F (name_numbered y q.name zero d k1) (beside_state p deepest ks F σ) in
      let sum : (m : AnyNumber) → AnyNumber → State → Outcome AnyNumber = λ m x σ1. sum_given p deepest ks F b M n q.target σ1 (outcome_of (arithmetic_of q.op m.number x.number)) in
      then_on mach M W 0 W σ.turns _ P0 P Q (meant p deepest ks F b M n [] tt (added_code q1) σ) _ (omega arith)
      (subst (λ (r : Outcome Value). Reached p deepest ks F b M W σ.turns start P0 Q (go_on r (λ x τ. meant p deepest ks F b M n (a_value ∷ []) (x, tt) (Set (holder_slot q.target) (Do (Inline q.op) (At (Get (holder_slot q.name)) (At (Bound true zero) End)))) τ))) (sym found.means)
      (subst (λ r. Reached p deepest ks F b M W σ.turns start P0 Q r) (sym (stored_means q1 a σ))
      (then_settled mach M 27 34 W _ σ (Converted p deepest ks F b M 1 u 0 0 a_number k1 K l) P0 Q own (λ m σ1. go_on (settled (number_of_row a) σ1) (sum m)) (omega arith)
      (name_numbered_ok p deepest ks F b M n q.name 1 u 0 0 d k1 K l σ parts.name s.parameters (omega arith) lt (fit_more p deepest ks F 0 u 0 l σ ft) (ft.free 0 (omega arith)))
      (λ m c1 e1 a1.
      let l1 = a1.next in
      let r = go_on (settled (number_of_row a) σ) (sum m) in
      weaker mach M 34 σ.turns c1 (λ x. Summed p deepest ks F b M n u k K l1) P0 Q Q r (λ w τ c e. summed_since p deepest ks F b M n u k K l l1 τ c (λ v. a1.keeps.iterators v) e) (λ why τ c e. e)
      (first mach M 3 30 34 σ.turns c1 _ (λ x. Summed p deepest ks F b M n u k K l1) Q r
      (goes_from a1.comes (then_goes (get_copied b l1 (NumberAt 0) (Bits (I64 (number_word m))) lt a1.holds.1 refl)
      (then_goes (found.pushes (Bits (I64 (number_word m)) ∷ []) K (laid b l1) (ask_row row.ToNum k3)) (ask_to_num p deepest ks F (Bits (I64 (number_word m)) ∷ []) σ a)))) (omega arith)
      (field_adds (number_of_row a) q.op m q.target u d k K l1 σ sm parts.kind s.parameters lt a1.fit a1.holds.0))))))
      (λ w τ c1 le h.
      there mach M 0 0 c1 c1 Normal τ P Q stays (omega arith)
      (record { next = h.next; comes = h.comes; starts = starts_after p deepest ks F b M n u K K l h.next σ τ s refl le h.iterators h.fit; iterators = h.iterators; flows = flows_on lo }))

  pub updated_ok : (q : Update) → ExprOk p deepest ks F b M n q.added → (lo : Bool) (u d bk ct : ℕ) (k : Instructions) (K : List Label) (l : Locals) (σ : State) → sorted (context p deepest ks F b M n) [] (added_code q) ≡ true → is_sum q.op ≡ true → room (added_code q) ≤ b.temporaries → arrays_in (added_code q) ≤ b.arrays → Starts p deepest ks F b M n u K l σ →
      Reached p deepest ks F b M (work_of q.added + 75) σ.turns (at ks [] K (laid b l) F (updated (layout p deepest ks F b M n) q d k) (beside_state p deepest ks F σ)) (StepDone p deepest ks F b M n lo u bk ct k K l) (Away p deepest ks F b d K) (plain_meant p deepest ks F b M n (Eval (added_code q)) σ)
  updated_ok q ok lo u d bk ct k K l σ so sm rm ar s = by (field_at q.added) refl
    where
      by : (o : Option ℤ) → field_at q.added ≡ o → Reached p deepest ks F b M (work_of q.added + 75) σ.turns (at ks [] K (laid b l) F (both_asked (layout p deepest ks F b M n) o q d (sum_taken (layout p deepest ks F b M n) (sum_op q.op) q.target zero d k)) (beside_state p deepest ks F σ)) (StepDone p deepest ks F b M n lo u bk ct k K l) (Away p deepest ks F b d K) (plain_meant p deepest ks F b M n (Eval (added_code q)) σ)
      by None e = plainly_updated_ok q ok lo u d bk ct k K l σ so sm rm ar s
      by (Some z) e =
          let r = field_at_is q.added z e in
          subst (λ (a : Code). sorted (context p deepest ks F b M n) [] (added_code (with_added q a)) ≡ true → room (added_code (with_added q a)) ≤ b.temporaries →
          Reached p deepest ks F b M (work_of a + 75) σ.turns (at ks [] K (laid b l) F (both_asked (layout p deepest ks F b M n) (Some z) (with_added q a) d (sum_taken (layout p deepest ks F b M n) (sum_op q.op) q.target zero d k)) (beside_state p deepest ks F σ)) (StepDone p deepest ks F b M n lo u bk ct k K l) (Away p deepest ks F b d K) (plain_meant p deepest ks F b M n (Eval (added_code (with_added q a))) σ)) (sym r.0)
          (λ so1 rm1. field_updated_ok q z r.1 lo u d bk ct k K l σ so1 sm rm1 s) so rm
