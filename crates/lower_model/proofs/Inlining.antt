-- Arithmetic in the module: sums, products and quotients of numbers in temporaries, with their ranges tested.
use Rattle.std.proofs.Common.{◌≡◌, ⊎_elim, ℕ, suc, ◌+◌, ◌*◌, ◌^◌, ◌<◌, ◌≤◌, Bool, true, false, T, not, ◌&&◌, ◌||◌, nat_eq, nat_le, List, [], ◌∷◌, Some, None, Ok, Err, ℤ, ◌+ℤ◌, ◌*ℤ◌, neg_ℤ, unsigned_abs, int_div, int_rem, w64, refl, sym, ap, ap₂, ◌∙◌, subst, true≢false, arith, if◌then◌else◌}
use Rattle.std.specs.Prelude.{FitsSigned, bit_and}
use Rattle.std.proofs.lemmas.Int.{ints, fits_signed_from_abs, to_z-of_z, rem_below}
use Rattle.std.proofs.lemmas.Bool.{and_parts, eq-eqb, cases_lt, le-leb}
use Rattle.std.proofs.Math.Nat.{mul-le-mul_left}
use Rattle.awk_values.specs.Operators.{Outcome as Checked, is_zero, checked}
use Rattle.awk_values.specs.declared.fault.Fault.TheVariants.{Range, DivisionByZero, Inexact}
use Rattle.sem_primitives.specs.Numbers.{Number, number_word, or_range, outcome_of}
use Rattle.sem_primitives.specs.Sorts.{Row}
use Rattle.sem_primitives.specs.declared.sorts.Argument.{Argument}
use Rattle.sem_primitives.specs.declared.sorts.Argument.TheVariants as argument
use Rattle.sem_primitives.specs.declared.sorts.Sort.TheVariants as sort
use Rattle.sem_primitives.proofs.Words.{number_again, small, fits}
use Rattle.wasm_types.specs.Syntax.{Instructions, Done as NoMore}
use Rattle.wasm_types.specs.declared.types.ValType.TheVariants as ty
use Rattle.wasm_types.specs.declared.instr.IBinOp.{IBinOp}
use Rattle.wasm_types.specs.declared.instr.IBinOp.TheVariants as bin
use Rattle.wasm_types.specs.declared.instr.IRelOp.TheVariants.{Ne}
use Rattle.wasm_types.specs.declared.instr.Simple.TheVariants.{Br, BrIf, LocalGet, LocalSet, I64Const, Compare, Binary}
use Rattle.wasm_store.specs.Integers.{binary_at, quotient_signed, is_integer}
use Rattle.wasm_store.specs.IntegerParts.{remainder_signed}
use Rattle.wasm_store.specs.Words.{flag, given_by}
use Rattle.wasm_store.specs.declared.trap.TrapKind.TheVariants.{DivideByZero, IntegerOverflow}
use Rattle.wasm_store.specs.declared.word.Word.TheVariants.{I32, I64}
use Rattle.mid_program.specs.declared.mid.Arithmetic.{Arithmetic}
use Rattle.mid_program.specs.declared.mid.Arithmetic.TheVariants as inline
use Rattle.mid_program.specs.declared.mid.Operation.TheVariants.{Inline}
use Rattle.mid_program.specs.Mid.{Kind, Program, Form, a_number, Do, Codes, End, At, Fixed, Fresh}
use Rattle.mid_program.specs.MidMeaning.{Env, evaluated, all_evaluated, arithmetic_of}
use Rattle.sem_scripts.specs.ScriptState.{State, Stop, Outcome, settled}
use Rattle.mid_program.specs.Sorted.{Held as Standing, sorted, all_sorted, held_after, fit_row}
use Rattle.lower_model.specs.Arithmetic.{out_of_range, two_numbers, ranged, any_product, far_off, times, unless_zero, unless_broken, divided, calculated}
use Rattle.lower_model.specs.Cells.{Cell, Bits}
use Rattle.lower_model.specs.Emission.{all_emitted, all_converted}
use Rattle.lower_model.specs.Machine.{Conf, Label, Frame, Store, at, label, loops_walked, with_operands, push_result}
use Rattle.lower_model.specs.Places.{Bases, calculated_room, room, arrays_in, number_local}
use Rattle.lower_model.specs.Small.{emit, fail_if}
use Rattle.lower_model.proofs.Observer.{Observer}
use Rattle.lower_model.proofs.Runs.{Goes, then_goes, goes_to, by_steps, stays, there, faulted, first, within, weaker_settled}
use Rattle.lower_model.proofs.Regions.{upd_same, upd_other}
use Rattle.lower_model.proofs.Locals.{Locals, Number as NumberAt, with_at, laid}
use Rattle.lower_model.proofs.Steps.{empty, get_copied, set_ok}
use Rattle.lower_model.proofs.Relation.{Same, same_self, same_then, same_number, Fit, fit_less, fit_number, Away}
use Rattle.lower_model.proofs.Answers.{machine, beside_state, away_plain, Put, Reached}
use Rattle.lower_model.proofs.Products.{word, is_out, out_word, is_far, product_near, sum_word, difference_word, triangle, product, told, quotient_bound, is_signed}
use Rattle.lower_model.proofs.Choosing.{zero_word}
use Rattle.lower_model.proofs.Converting.{blocked}
use Rattle.lower_model.proofs.Comparing.{flags_or, put_closes}
use Rattle.lower_model.proofs.HostCalls.{row_then, extra_enough}
use Rattle.lower_model.proofs.Numbers.{fails_ok, passes_ok}
use Rattle.lower_model.proofs.Expressions.{put_done}
use Rattle.lower_model.proofs.Simulation.{works_of, extra_of, past, context, layout, meant, Ready, WellUsed, Done, CodesOk, RowAt}

-- The outcome of an operator.

pub in_range : (z : ℤ) (e : nat_le (unsigned_abs z) (2 ^ 53) ≡ true) → outcome_of (Ok z) ≡ Ok (record { number = z; in_range = subst T (sym e) tt })
in_range z e = ap or_range (number_again (record { number = z; in_range = subst T (sym e) tt }))

pub checked_in : (z : ℤ) (e : nat_le (unsigned_abs z) (2 ^ 53) ≡ true) → outcome_of (checked z) ≡ Ok (record { number = z; in_range = subst T (sym e) tt })
checked_in z e = ap (λ t. outcome_of (if t then Ok z else Err Range)) e ∙ in_range z e

checked_out : (z : ℤ) → nat_le (unsigned_abs z) (2 ^ 53) ≡ false → outcome_of (checked z) ≡ Err Range
checked_out z e = ap (λ t. outcome_of (if t then Ok z else Err Range)) e

flags_and : (s t : Bool) → bit_and (if s then 1 else 0) (if t then 1 else 0) ≡ (if s && t then 1 else 0)
flags_and true true = refl
flags_and true false = refl
flags_and false true = refl
flags_and false false = refl

pub added_abs : (x y : ℤ) → unsigned_abs (x +ℤ y) ≤ unsigned_abs x + unsigned_abs y
added_abs x y = grind (arith, ints)

-- Quotients and remainders by what is not 0.

not_nought : (z : ℤ) → is_zero z ≡ false → 0 < unsigned_abs z
not_nought z e = ⊎_elim (λ (l : 0 < unsigned_abs z). l) (λ (g : unsigned_abs z ≤ 0). absurd (true≢false (sym (eq-eqb (unsigned_abs z) 0 (omega (arith, g))) ∙ e))) (cases_lt 0 (unsigned_abs z))

module _ (m n : Number) (nz : is_zero n.number ≡ false) where
  abbrev below : 0 < unsigned_abs n.number
  below = not_nought n.number nz

  no_zero : nat_eq (number_word n) 0 ≡ false
  no_zero = zero_word n ∙ nz

  pub quotient_small : unsigned_abs (int_div m.number n.number) ≤ 2 ^ 53
  quotient_small =
      let q = quotient_bound m.number n.number in
      let o : unsigned_abs (int_div m.number n.number) * 1 ≤ unsigned_abs (int_div m.number n.number) * unsigned_abs n.number = mul-le-mul_left (unsigned_abs (int_div m.number n.number)) (not_nought n.number nz) in
      let s = small m in
      omega (arith, q, o, s)

  pub remainder_small : unsigned_abs (int_rem m.number n.number) ≤ 2 ^ 53
  remainder_small = let r = rem_below m.number n.number (not_nought n.number nz) in let s = small n in omega (arith, r, s)

  pub quotient_word : quotient_signed w64 (number_word m) (number_word n) ≡ Ok (word (int_div m.number n.number))
  quotient_word =
      let q = quotient_small in
      ap₂ (λ x y. if nat_eq (number_word n) 0 then Err DivideByZero else if is_integer w64 (int_div x y) then Ok (word (int_div x y)) else Err IntegerOverflow) (to_z-of_z w64 m.number (fits m.number (small m))) (to_z-of_z w64 n.number (fits n.number (small n)))
      ∙ (ap (λ t. if t then Err DivideByZero else if is_integer w64 (int_div m.number n.number) then Ok (word (int_div m.number n.number)) else Err IntegerOverflow) no_zero
      ∙ ap (λ t. if t then Ok (word (int_div m.number n.number)) else Err IntegerOverflow) (is_signed (int_div m.number n.number) (omega (arith, q))))

  pub remainder_word : remainder_signed w64 (number_word m) (number_word n) ≡ Ok (word (int_rem m.number n.number))
  remainder_word =
      ap₂ (λ x y. if nat_eq (number_word n) 0 then Err DivideByZero else Ok (word (int_rem x y))) (to_z-of_z w64 m.number (fits m.number (small m))) (to_z-of_z w64 n.number (fits n.number (small n)))
      ∙ ap (λ t. if t then Err DivideByZero else Ok (word (int_rem m.number n.number))) no_zero

abbrev pub two_wanted : List Argument
two_wanted = argument.Of sort.Number ∷ (argument.Of sort.Number ∷ [])

module _ (p : Program) (deepest : Observer) (ks : List Kind) (F : List Frame) (b : Bases) (M n : ℕ) where
  -- two numbers stand in temporaries, and no handle
  record Pair (x y : Number) (t u w : ℕ) (l : Locals) (σ : State) : Type 0 where
    left : l.number t ≡ Bits (I64 (number_word x))
    right : l.number (suc t) ≡ Bits (I64 (number_word y))
    hand : l.hand t ≡ empty
    fit : Fit p deepest ks F (suc t) u w l σ

  two_row : (es : Codes) (t u w : ℕ) (l : Locals) (σ : State) (r : Row two_wanted) → Fit p deepest ks F (past t es) u w l σ → RowAt p deepest ks F b M n two_wanted es t l σ r → Pair r.0 r.1.0 t u w l σ
  two_row (At e (At c End)) t u w l σ r ft q = record { left = q.0.1; right = q.2.0.1; hand = q.0.0; fit = fit_less p deepest ks F (suc t) u w l σ q.2.0.0 ft }
  two_row (At e (At c (At g es))) t u w l σ r ft q = absurd q.2.2
  two_row (At e (At c (Fixed m es))) t u w l σ r ft q = absurd q.2.2
  two_row (At e (At c (Fresh es))) t u w l σ r ft q = absurd q.2.2
  two_row (At e End) t u w l σ r ft q = absurd q.2
  two_row (At e (Fixed m es)) t u w l σ r ft q = absurd q.2
  two_row (At e (Fresh es)) t u w l σ r ft q = absurd q.2
  two_row End t u w l σ r ft q = absurd q
  two_row (Fixed m es) t u w l σ r ft q = absurd q
  two_row (Fresh es) t u w l σ r ft q = absurd q

  -- a number's word comes into temporary t
  put_number : (t u w : ℕ) (k : Instructions) (K : List Label) (l0 l : Locals) (z : Number) (σ : State) → Fit p deepest ks F (suc t) u w l σ → Same [] t w l0 l → l.hand t ≡ empty →
      Put p deepest ks F b t u w a_number k K l0 z σ (at ks [] K (laid b (with_at l (NumberAt t) (Bits (I64 (number_word z))))) F k (beside_state p deepest ks F σ))
  put_number t u w k K l0 l z σ ft sm e = record {
    next = with_at l (NumberAt t) (Bits (I64 (number_word z)));
    comes = refl;
    fit = fit_number p deepest ks F t (suc t) u w l σ (Bits (I64 (number_word z))) refl ft;
    same = same_then [] t t w w l0 l (with_at l (NumberAt t) (Bits (I64 (number_word z)))) (omega arith) (omega arith) sm (same_number [] t w t l (Bits (I64 (number_word z))) (omega arith));
    holds = (e, upd_same l.number t (Bits (I64 (number_word z))));
  }

  -- both come onto the stack, and what an operator gives of them
  computed_ok : {K : List Label} {k : Instructions} → (op : IBinOp) (x y : Number) (m t u w : ℕ) (l : Locals) (σ : State) → suc t < b.temporaries → Pair x y t u w l σ → binary_at w64 op (number_word x) (number_word y) ≡ Ok m →
      Goes (machine p deepest ks F) 3 (at ks [] K (laid b l) F (two_numbers (number_local b t) (number_local b (suc t)) op k) (beside_state p deepest ks F σ)) (at ks (Bits (I64 m) ∷ []) K (laid b l) F k (beside_state p deepest ks F σ))
  computed_ok {K = K} {k = k} op x y m t u w l σ lt a e =
      then_goes (get_copied b l (NumberAt t) (Bits (I64 (number_word x))) (omega (arith, lt)) a.left refl)
      (then_goes (get_copied b l (NumberAt (suc t)) (Bits (I64 (number_word y))) lt a.right refl)
      (by_steps 1 (ap (λ r. with_operands (push_result [] (Some (given_by I64 r))) ks K (laid b l) F k (beside_state p deepest ks F σ)) e)))

  range_told : {vs : List Cell} {K : List Label} {k : Instructions} → (l : Locals) (t m : ℕ) (σ : State) → t < b.temporaries → l.number t ≡ Bits (I64 m) →
      Goes (machine p deepest ks F) 3 (at ks vs K (laid b l) F (out_of_range (number_local b t) k) (beside_state p deepest ks F σ)) (at ks (Bits (flag (is_out m)) ∷ vs) K (laid b l) F k (beside_state p deepest ks F σ))
  range_told l t m σ lt e = then_goes (get_copied b l (NumberAt t) (Bits (I64 m)) lt e refl) (by_steps 2 refl)

  -- the test of the range, once it is made
  pub tested : (z : ℤ) (out : Bool) (t u w d q s : ℕ) (kk k : Instructions) (K : List Label) (l0 l l1 : Locals) (σ : State) → out ≡ not (nat_le (unsigned_abs z) (2 ^ 53)) → Fit p deepest ks F q u w l σ → s ≤ 2 →
      Goes (machine p deepest ks F) s (at ks [] K (laid b l) F kk (beside_state p deepest ks F σ)) (at ks [] K (laid b l1) F k (beside_state p deepest ks F σ)) → Fit p deepest ks F (suc t) u w l1 σ → Same [] t w l0 l1 → l1.hand t ≡ empty → (nat_le (unsigned_abs z) (2 ^ 53) ≡ true → l1.number t ≡ Bits (I64 (word z))) →
      Reached p deepest ks F b M 4 σ.turns (at ks (Bits (flag out) ∷ []) K (laid b l) F (fail_if Range d kk) (beside_state p deepest ks F σ)) (Put p deepest ks F b t u w a_number k K l0) (Away p deepest ks F b d K) (settled (outcome_of (checked z)) σ)
  tested z out t u w d q s kk k K l0 l l1 σ e ft le g f1 sm he hn = by (nat_le (unsigned_abs z) (2 ^ 53)) refl
    where
      c : Bool → Conf
      c o = at ks (Bits (flag o) ∷ []) K (laid b l) F (fail_if Range d kk) (beside_state p deepest ks F σ)

      by : (t1 : Bool) → nat_le (unsigned_abs z) (2 ^ 53) ≡ t1 → Reached p deepest ks F b M 4 σ.turns (c out) (Put p deepest ks F b t u w a_number k K l0) (Away p deepest ks F b d K) (settled (outcome_of (checked z)) σ)
      by true i =
          let x : Number = record { number = z; in_range = subst T (sym i) tt } in
          subst (λ r. Reached p deepest ks F b M 4 σ.turns (c out) (Put p deepest ks F b t u w a_number k K l0) (Away p deepest ks F b d K) (settled r σ)) (sym (checked_in z i))
          (subst (λ o. Reached p deepest ks F b M 4 σ.turns (c o) (Put p deepest ks F b t u w a_number k K l0) (Away p deepest ks F b d K) (settled (Ok x) σ)) (sym (e ∙ ap not i))
          (there (machine p deepest ks F) M 4 (2 + s) _ _ x σ (Put p deepest ks F b t u w a_number k K l0) (Away p deepest ks F b d K) (then_goes (passes_ok p deepest ks F b M n Range d σ) g) (omega (arith, le))
          (record { next = l1; comes = refl; fit = f1; same = sm; holds = (he, hn i) })))
      by false i =
          subst (λ r. Reached p deepest ks F b M 4 σ.turns (c out) (Put p deepest ks F b t u w a_number k K l0) (Away p deepest ks F b d K) (settled r σ)) (sym (checked_out z i))
          (subst (λ o. Reached p deepest ks F b M 4 σ.turns (c o) (Put p deepest ks F b t u w a_number k K l0) (Away p deepest ks F b d K) (settled (Err Range) σ)) (sym (e ∙ ap not i))
          (faulted (machine p deepest ks F) M 4 3 _ _ Range σ (Put p deepest ks F b t u w a_number k K l0) (Away p deepest ks F b d K) (fails_ok p deepest ks F b M n Range d σ) (omega arith) (away_plain p deepest ks F b M q u w d K l σ Range ft)))

  -- a sum or a difference
  ranged_ok : (op : IBinOp) (x y : Number) (z : ℤ) (t u w d : ℕ) (k : Instructions) (K : List Label) (l0 l : Locals) (σ : State) → FitsSigned w64 z → binary_at w64 op (number_word x) (number_word y) ≡ Ok (word z) → suc t < b.temporaries → Same [] t w l0 l → Pair x y t u w l σ →
      Reached p deepest ks F b M 41 σ.turns (at ks [] K (laid b l) F (ranged op (number_local b t) (number_local b (suc t)) d k) (beside_state p deepest ks F σ)) (Put p deepest ks F b t u w a_number k K l0) (Away p deepest ks F b d K) (settled (outcome_of (checked z)) σ)
  ranged_ok op x y z t u w d k K l0 l σ fz e lt sm a =
      let c = Bits (I64 (word z)) in
      let l1 = with_at l (NumberAt t) c in
      let f1 = fit_number p deepest ks F t (suc t) u w l σ c refl a.fit in
      first (machine p deepest ks F) M 7 4 41 σ.turns _ _ (Put p deepest ks F b t u w a_number k K l0) (Away p deepest ks F b d K) (settled (outcome_of (checked z)) σ)
      (then_goes (computed_ok op x y (word z) t u w l σ lt a e) (then_goes (set_ok b l (NumberAt t) c (omega (arith, lt)) (a.fit.numbers t)) (range_told l1 t (word z) σ (omega (arith, lt)) (upd_same l.number t c)))) (omega arith)
      (tested z (is_out (word z)) t u w d (suc t) 0 k k K l0 l1 l1 σ (out_word z fz) f1 (omega arith) stays f1 (same_then [] t t w w l0 l l1 (omega arith) (omega arith) sm (same_number [] t w t l c (omega arith))) a.hand (λ i. upd_same l.number t c))

  -- a product of any two numbers
  any_product_ok : (x y : Number) (t u w d : ℕ) (k : Instructions) (K : List Label) (l0 l : Locals) (σ : State) → suc (suc t) < b.temporaries → Same [] t w l0 l → Pair x y t u w l σ →
      Reached p deepest ks F b M 30 σ.turns (at ks [] K (laid b l) F (any_product (number_local b t) (number_local b (suc t)) (number_local b (suc (suc t))) d k) (beside_state p deepest ks F σ)) (Put p deepest ks F b t u w a_number k K l0) (Away p deepest ks F b d K) (settled (outcome_of (checked (x.number *ℤ y.number))) σ)
  any_product_ok x y t u w d k K l0 l σ lt sm a =
      let mach = machine p deepest ks F in
      let S = beside_state p deepest ks F σ in
      let P = Put p deepest ks F b t u w a_number k K l0 in
      let Q = Away p deepest ks F b d K in
      let r = settled (outcome_of (checked (x.number *ℤ y.number))) σ in
      let facts = told x.number y.number (small x) (small y) in
      let q = product x.number y.number (small x) (small y) in
      let c = Bits (I64 q) in
      let cx = Bits (I64 (number_word x)) in
      let cy = Bits (I64 (number_word y)) in
      let xx = number_local b t in
      let yy = number_local b (suc t) in
      let pp = number_local b (suc (suc t)) in
      let l1 = with_at l (NumberAt (suc (suc t))) c in
      let l2 = with_at l1 (NumberAt t) c in
      let ex = upd_other l.number (suc (suc t)) t c (λ e. omega (arith, e)) ∙ a.left in
      let ey = upd_other l.number (suc (suc t)) (suc t) c (λ e. omega (arith, e)) ∙ a.right in
      let ep = upd_same l.number (suc (suc t)) c in
      let f1 = fit_number p deepest ks F (suc (suc t)) (suc t) u w l σ c refl a.fit in
      let f2 = fit_number p deepest ks F t (suc t) u w l1 σ c refl f1 in
      let s1 = same_then [] t t w w l0 l l1 (omega arith) (omega arith) sm (same_number [] t w (suc (suc t)) l c (omega arith)) in
      let s2 = same_then [] t t w w l0 l1 l2 (omega arith) (omega arith) s1 (same_number [] t w t l1 c (omega arith)) in
      let move = emit (LocalGet pp) (emit (LocalSet xx) k) in
      let k4 = fail_if Range d move in
      let k3 = out_of_range pp (emit (Binary ty.I32 bin.Or) k4) in
      let k2 = emit (LocalGet yy) (emit (Compare ty.I64 Ne) (emit (LocalGet xx) (emit (I64Const 0) (emit (Compare ty.I64 Ne) (emit (Binary ty.I32 bin.And) k3))))) in
      let differ = not (nat_eq facts.quotient (number_word y)) && not (nat_eq (number_word x) 0) in
      first mach M 4 26 30 σ.turns _ _ P Q r
      (then_goes (computed_ok bin.Mul x y q t u w l σ (omega (arith, lt)) a refl) (set_ok b l (NumberAt (suc (suc t))) c lt (a.fit.numbers (suc (suc t))))) (omega arith)
      (first mach M 7 19 26 σ.turns _ _ P Q r
      (then_goes (get_copied b l1 (NumberAt (suc (suc t))) c lt ep refl)
      (then_goes (get_copied b l1 (NumberAt t) cx (omega (arith, lt)) ex refl)
      (then_goes (get_copied b l1 (NumberAt t) cx (omega (arith, lt)) ex refl)
      (then_goes (by_steps 3 refl)
      (by_steps 1 (ap (λ o. with_operands (push_result [] (Some (given_by I64 o))) ks K (laid b l1) F k2 S) facts.divides)))))) (omega arith)
      (first mach M 5 14 19 σ.turns _ _ P Q r
      (then_goes (get_copied b l1 (NumberAt (suc t)) cy (omega (arith, lt)) ey refl)
      (then_goes (by_steps 1 refl)
      (then_goes (get_copied b l1 (NumberAt t) cx (omega (arith, lt)) ex refl)
      (goes_to (by_steps 2 refl) (ap (λ o. at ks (Bits (I32 o) ∷ []) K (laid b l1) F k3 S) (flags_and (not (nat_eq facts.quotient (number_word y))) (not (nat_eq (number_word x) 0)))))))) (omega arith)
      (first mach M 4 4 14 σ.turns _ _ P Q r
      (then_goes (range_told l1 (suc (suc t)) q σ lt ep)
      (goes_to (by_steps 1 refl) (ap (λ o. at ks (Bits (I32 o) ∷ []) K (laid b l1) F k4 S) (flags_or differ (is_out q))))) (omega arith)
      (tested (x.number *ℤ y.number) (differ || is_out q) t u w d (suc t) 2 move k K l0 l1 l2 σ facts.tells f1 (omega arith)
      (then_goes (get_copied b l1 (NumberAt (suc (suc t))) c lt ep refl) (set_ok b l1 (NumberAt t) c (omega (arith, lt)) (f1.numbers t))) f2 s2 a.hand
      (λ i. upd_same l1.number t c ∙ ap (λ m. Bits (I64 m)) (facts.is_product i))))))

  -- whether a number is far from 0
  far_told : {K : List Label} {k : Instructions} → (l : Locals) (t m : ℕ) (σ : State) → t < b.temporaries → l.number t ≡ Bits (I64 m) →
      Goes (machine p deepest ks F) 3 (at ks [] K (laid b l) F (far_off (number_local b t) k) (beside_state p deepest ks F σ)) (at ks (Bits (flag (is_far m)) ∷ []) K (laid b l) F k (beside_state p deepest ks F σ))
  far_told l t m σ lt e = then_goes (get_copied b l (NumberAt t) (Bits (I64 m)) lt e refl) (by_steps 2 refl)

  times_ok : (x y : Number) (t u w d : ℕ) (k : Instructions) (K : List Label) (l0 l : Locals) (σ : State) → suc (suc t) < b.temporaries → Same [] t w l0 l → Pair x y t u w l σ →
      Reached p deepest ks F b M 41 σ.turns (at ks [] K (laid b l) F (times (number_local b t) (number_local b (suc t)) (number_local b (suc (suc t))) d k) (beside_state p deepest ks F σ)) (Put p deepest ks F b t u w a_number k K l0) (Away p deepest ks F b d K) (settled (outcome_of (checked (x.number *ℤ y.number))) σ)
  times_ok x y t u w d k K l0 l σ lt sm a =
      first (machine p deepest ks F) M 5 36 41 σ.turns _ _ P Q r
      (then_goes (by_steps 2 refl) (far_told {K = K2} {k = emit (BrIf 0) (far_off yy (emit (BrIf 0) multiplied))} l t (number_word x) σ (omega (arith, lt)) a.left)) (omega arith)
      (by_left (is_far (number_word x)) refl)
    where
      S : Store
      S = beside_state p deepest ks F σ

      P : Number → State → Conf → Type 0
      P = Put p deepest ks F b t u w a_number k K l0

      Q : Stop → State → Conf → Type 0
      Q = Away p deepest ks F b d K

      z : ℤ
      z = x.number *ℤ y.number

      r : Outcome Number
      r = settled (outcome_of (checked z)) σ

      xx : ℕ
      xx = number_local b t

      yy : ℕ
      yy = number_local b (suc t)

      all_cases : Instructions
      all_cases = any_product xx yy (number_local b (suc (suc t))) (suc d) NoMore

      K1 : List Label
      K1 = label [] None k ∷ K

      K2 : List Label
      K2 = label [] None all_cases ∷ K1

      multiplied : Instructions
      multiplied = two_numbers xx yy bin.Mul (emit (LocalSet xx) (emit (Br 1) NoMore))

      -- the code behind the test of a factor
      behind : Bool → Instructions → Conf
      behind f c = at ks (Bits (flag f) ∷ []) K2 (laid b l) F (emit (BrIf 0) c) S

      anyway : Reached p deepest ks F b M 31 σ.turns (at ks [] K1 (laid b l) F all_cases S) P Q r
      anyway =
          blocked p deepest ks F b M 30 σ.turns d k K _ (Put p deepest ks F b t u w a_number NoMore K1 l0) P r
          (λ v τ c q. put_closes p deepest ks F b M n t u w a_number k K l0 v τ c q)
          (any_product_ok x y t u w (suc d) NoMore K1 l0 l σ lt sm a)

      far : (c : Instructions) → Reached p deepest ks F b M 32 σ.turns (behind true c) P Q r
      far c = first (machine p deepest ks F) M 1 31 32 σ.turns _ (at ks [] K1 (laid b l) F all_cases S) P Q r (by_steps 1 refl) (omega arith) anyway

      near : unsigned_abs z ≤ 2 ^ 53 → Reached p deepest ks F b M 5 σ.turns (at ks [] K2 (laid b l) F multiplied S) P Q r
      near le =
          let i = le-leb (unsigned_abs z) (2 ^ 53) le in
          let v : Number = record { number = z; in_range = subst T (sym i) tt } in
          let facts = told x.number y.number (small x) (small y) in
          subst (λ g. Reached p deepest ks F b M 5 σ.turns (at ks [] K2 (laid b l) F multiplied S) P Q (settled g σ)) (sym (checked_in z i))
          (there (machine p deepest ks F) M 5 5 _ _ v σ P Q
          (then_goes (computed_ok bin.Mul x y (word z) t u w l σ (omega (arith, lt)) a (ap Ok (facts.is_product i)))
          (then_goes (set_ok b l (NumberAt t) (Bits (I64 (word z))) (omega (arith, lt)) (a.fit.numbers t)) (by_steps 1 refl))) (omega arith)
          (put_number t u w k K l0 l v σ a.fit sm a.hand))

      by_right : (g : Bool) → is_far (number_word x) ≡ false → is_far (number_word y) ≡ g → Reached p deepest ks F b M 32 σ.turns (behind g multiplied) P Q r
      by_right true e h = far multiplied
      by_right false e h =
          first (machine p deepest ks F) M 1 5 32 σ.turns _ (at ks [] K2 (laid b l) F multiplied S) P Q r (by_steps 1 refl) (omega arith)
          (near (product_near x.number y.number (small x) (small y) e h))

      by_left : (f : Bool) → is_far (number_word x) ≡ f → Reached p deepest ks F b M 36 σ.turns (behind f (far_off yy (emit (BrIf 0) multiplied))) P Q r
      by_left true e = within (machine p deepest ks F) M 32 36 σ.turns _ P Q r (omega arith) (far (far_off yy (emit (BrIf 0) multiplied)))
      by_left false e =
          first (machine p deepest ks F) M 4 32 36 σ.turns _ _ P Q r
          (then_goes (by_steps 1 refl) (far_told {K = K2} {k = emit (BrIf 0) multiplied} l (suc t) (number_word y) σ (omega (arith, lt)) a.right)) (omega arith)
          (by_right (is_far (number_word y)) e refl)

  -- Quotients.

  -- where the divisor is 0 the function is left
  divisor_ok : (y : Number) (o : Checked) (t u w d j q : ℕ) (k : Instructions) (K : List Label) (l : Locals) (σ : State) → t < b.temporaries → l.number t ≡ Bits (I64 (number_word y)) → Fit p deepest ks F q u w l σ → (P : Number → State → Conf → Type 0) →
      (is_zero y.number ≡ false → Reached p deepest ks F b M j σ.turns (at ks [] K (laid b l) F k (beside_state p deepest ks F σ)) P (Away p deepest ks F b d K) (settled (outcome_of o) σ)) →
      Reached p deepest ks F b M (5 + j) σ.turns (at ks [] K (laid b l) F (unless_zero (number_local b t) d k) (beside_state p deepest ks F σ)) P (Away p deepest ks F b d K) (settled (outcome_of (if is_zero y.number then Err DivisionByZero else o)) σ)
  divisor_ok y o t u w d j q k K l σ lt e ft P go =
      first (machine p deepest ks F) M 2 (3 + j) (5 + j) σ.turns _ _ P (Away p deepest ks F b d K) (settled (outcome_of (if is_zero y.number then Err DivisionByZero else o)) σ)
      (then_goes (get_copied b l (NumberAt t) (Bits (I64 (number_word y))) lt e refl) (goes_to (by_steps 1 refl) (ap (λ f. at ks (Bits (flag f) ∷ []) K (laid b l) F (fail_if DivisionByZero d k) (beside_state p deepest ks F σ)) (zero_word y)))) (omega arith)
      (by (is_zero y.number) refl)
    where
      by : (z : Bool) → is_zero y.number ≡ z → Reached p deepest ks F b M (3 + j) σ.turns (at ks (Bits (flag z) ∷ []) K (laid b l) F (fail_if DivisionByZero d k) (beside_state p deepest ks F σ)) P (Away p deepest ks F b d K) (settled (outcome_of (if z then Err DivisionByZero else o)) σ)
      by true i = faulted (machine p deepest ks F) M (3 + j) 3 _ _ DivisionByZero σ P (Away p deepest ks F b d K) (fails_ok p deepest ks F b M n DivisionByZero d σ) (omega arith) (away_plain p deepest ks F b M q u w d K l σ DivisionByZero ft)
      by false i = first (machine p deepest ks F) M 2 j (3 + j) σ.turns _ _ P (Away p deepest ks F b d K) (settled (outcome_of o) σ) (passes_ok p deepest ks F b M n DivisionByZero d σ) (omega arith) (go i)

  -- what is in range needs no test
  whole_ok : (op : IBinOp) (x y : Number) (z : ℤ) (t u w d : ℕ) (k : Instructions) (K : List Label) (l0 l : Locals) (σ : State) → unsigned_abs z ≤ 2 ^ 53 → binary_at w64 op (number_word x) (number_word y) ≡ Ok (word z) → suc t < b.temporaries → Same [] t w l0 l → Pair x y t u w l σ →
      Reached p deepest ks F b M 4 σ.turns (at ks [] K (laid b l) F (divided op (number_local b t) (number_local b (suc t)) k) (beside_state p deepest ks F σ)) (Put p deepest ks F b t u w a_number k K l0) (Away p deepest ks F b d K) (settled (outcome_of (Ok z)) σ)
  whole_ok op x y z t u w d k K l0 l σ bd e lt sm a =
      let i = le-leb (unsigned_abs z) (2 ^ 53) bd in
      let v : Number = record { number = z; in_range = subst T (sym i) tt } in
      subst (λ r. Reached p deepest ks F b M 4 σ.turns (at ks [] K (laid b l) F (divided op (number_local b t) (number_local b (suc t)) k) (beside_state p deepest ks F σ)) (Put p deepest ks F b t u w a_number k K l0) (Away p deepest ks F b d K) (settled r σ)) (sym (in_range z i))
      (there (machine p deepest ks F) M 4 4 _ _ v σ (Put p deepest ks F b t u w a_number k K l0) (Away p deepest ks F b d K)
      (then_goes (computed_ok op x y (word z) t u w l σ lt a e) (set_ok b l (NumberAt t) (Bits (I64 (word z))) (omega (arith, lt)) (a.fit.numbers t))) (omega arith)
      (put_number t u w k K l0 l v σ a.fit sm a.hand))

  -- a quotient is whole, or the function is left
  broken_ok : (x y : Number) (t u w d : ℕ) (k : Instructions) (K : List Label) (l0 l : Locals) (σ : State) → is_zero y.number ≡ false → suc t < b.temporaries → Same [] t w l0 l → Pair x y t u w l σ →
      Reached p deepest ks F b M 11 σ.turns (at ks [] K (laid b l) F (unless_broken (number_local b t) (number_local b (suc t)) d (divided bin.DivS (number_local b t) (number_local b (suc t)) k)) (beside_state p deepest ks F σ)) (Put p deepest ks F b t u w a_number k K l0) (Away p deepest ks F b d K)
      (settled (outcome_of (if is_zero (int_rem x.number y.number) then Ok (int_div x.number y.number) else Err Inexact)) σ)
  broken_ok x y t u w d k K l0 l σ nz lt sm a =
      let r = int_rem x.number y.number in
      let i = le-leb (unsigned_abs r) (2 ^ 53) (remainder_small x y nz) in
      let v : Number = record { number = r; in_range = subst T (sym i) tt } in
      let k1 = divided bin.DivS (number_local b t) (number_local b (suc t)) k in
      first (machine p deepest ks F) M 4 7 11 σ.turns _ _ (Put p deepest ks F b t u w a_number k K l0) (Away p deepest ks F b d K) (settled (outcome_of (if is_zero r then Ok (int_div x.number y.number) else Err Inexact)) σ)
      (then_goes (computed_ok bin.RemS x y (word r) t u w l σ lt a (remainder_word x y nz)) (goes_to (by_steps 1 refl) (ap (λ f. at ks (Bits (flag (not f)) ∷ []) K (laid b l) F (fail_if Inexact d k1) (beside_state p deepest ks F σ)) (zero_word v)))) (omega arith)
      (by (is_zero r))
    where
      by : (z : Bool) → Reached p deepest ks F b M 7 σ.turns (at ks (Bits (flag (not z)) ∷ []) K (laid b l) F (fail_if Inexact d (divided bin.DivS (number_local b t) (number_local b (suc t)) k)) (beside_state p deepest ks F σ)) (Put p deepest ks F b t u w a_number k K l0) (Away p deepest ks F b d K) (settled (outcome_of (if z then Ok (int_div x.number y.number) else Err Inexact)) σ)
      by true = first (machine p deepest ks F) M 2 4 7 σ.turns _ _ (Put p deepest ks F b t u w a_number k K l0) (Away p deepest ks F b d K) (settled (outcome_of (Ok (int_div x.number y.number))) σ) (passes_ok p deepest ks F b M n Inexact d σ) (omega arith)
          (whole_ok bin.DivS x y (int_div x.number y.number) t u w d k K l0 l σ (quotient_small x y nz) (quotient_word x y nz) lt sm a)
      by false = faulted (machine p deepest ks F) M 7 3 _ _ Inexact σ (Put p deepest ks F b t u w a_number k K l0) (Away p deepest ks F b d K) (fails_ok p deepest ks F b M n Inexact d σ) (omega arith) (away_plain p deepest ks F b M (suc t) u w d K l σ Inexact a.fit)

  pub sum_fits : (x y : Number) → FitsSigned w64 (x.number +ℤ y.number)
  sum_fits x y = fits_signed_from_abs w64 (x.number +ℤ y.number) (let s = added_abs x.number y.number in let i = small x in let j = small y in omega (arith, s, i, j))

  pub difference_fits : (x y : Number) → FitsSigned w64 (x.number +ℤ neg_ℤ y.number)
  difference_fits x y = fits_signed_from_abs w64 (x.number +ℤ neg_ℤ y.number) (let s = triangle x.number y.number in let i = small x in let j = small y in omega (arith, s, i, j))

  calculated_ok : (o : Arithmetic) (x y : Number) (t u w d : ℕ) (k : Instructions) (K : List Label) (l0 l : Locals) (σ : State) → t + calculated_room o ≤ b.temporaries → Same [] t w l0 l → Pair x y t u w l σ →
      Reached p deepest ks F b M 41 σ.turns (at ks [] K (laid b l) F (calculated b o t d k) (beside_state p deepest ks F σ)) (Put p deepest ks F b t u w a_number k K l0) (Away p deepest ks F b d K) (settled (outcome_of (arithmetic_of o x.number y.number)) σ)
  calculated_ok inline.Plus x y t u w d k K l0 l σ lt sm a = ranged_ok bin.Add x y (x.number +ℤ y.number) t u w d k K l0 l σ (sum_fits x y) (ap Ok (sum_word x.number y.number (fits x.number (small x)) (fits y.number (small y)) (sum_fits x y))) (omega (arith, lt)) sm a
  calculated_ok inline.Minus x y t u w d k K l0 l σ lt sm a = ranged_ok bin.Sub x y (x.number +ℤ neg_ℤ y.number) t u w d k K l0 l σ (difference_fits x y) (ap Ok (difference_word x.number y.number (fits x.number (small x)) (fits y.number (small y)) (difference_fits x y))) (omega (arith, lt)) sm a
  calculated_ok inline.Times x y t u w d k K l0 l σ lt sm a = times_ok x y t u w d k K l0 l σ (omega (arith, lt)) sm a
  calculated_ok inline.Over x y t u w d k K l0 l σ lt sm a =
      within (machine p deepest ks F) M 16 41 σ.turns _ (Put p deepest ks F b t u w a_number k K l0) (Away p deepest ks F b d K) (settled (outcome_of (arithmetic_of inline.Over x.number y.number)) σ) (omega arith)
      (divisor_ok y (if is_zero (int_rem x.number y.number) then Ok (int_div x.number y.number) else Err Inexact) (suc t) u w d 11 (suc t) _ K l σ (omega (arith, lt)) a.right a.fit (Put p deepest ks F b t u w a_number k K l0)
      (λ nz. broken_ok x y t u w d k K l0 l σ nz (omega (arith, lt)) sm a))
  calculated_ok inline.Modulo x y t u w d k K l0 l σ lt sm a =
      within (machine p deepest ks F) M 9 41 σ.turns _ (Put p deepest ks F b t u w a_number k K l0) (Away p deepest ks F b d K) (settled (outcome_of (arithmetic_of inline.Modulo x.number y.number)) σ) (omega arith)
      (divisor_ok y (Ok (int_rem x.number y.number)) (suc t) u w d 4 (suc t) _ K l σ (omega (arith, lt)) a.right a.fit (Put p deepest ks F b t u w a_number k K l0)
      (λ nz. whole_ok bin.RemS x y (int_rem x.number y.number) t u w d k K l0 l σ (remainder_small x y nz) (remainder_word x y nz) (omega (arith, lt)) sm a))
  calculated_ok inline.Truncated x y t u w d k K l0 l σ lt sm a =
      within (machine p deepest ks F) M 9 41 σ.turns _ (Put p deepest ks F b t u w a_number k K l0) (Away p deepest ks F b d K) (settled (outcome_of (arithmetic_of inline.Truncated x.number y.number)) σ) (omega arith)
      (divisor_ok y (Ok (int_div x.number y.number)) (suc t) u w d 4 (suc t) _ K l σ (omega (arith, lt)) a.right a.fit (Put p deepest ks F b t u w a_number k K l0)
      (λ nz. whole_ok bin.DivS x y (int_div x.number y.number) t u w d k K l0 l σ (quotient_small x y nz) (quotient_word x y nz) (omega (arith, lt)) sm a))

  -- the code of all cases
  pub plainly_calculated : (o : Arithmetic) (es : Codes) → CodesOk p deepest ks F b M n es → (v : Bool) (fs : List Form) (env : Env fs) (ts : List ℕ) (st : ℕ → Standing) (t u w d : ℕ) (k : Instructions) (K : List Label) (l : Locals) (σ : State) →
      sorted (context p deepest ks F b M n) fs (Do (Inline o) es) ≡ true → WellUsed p deepest ks F b M n fs (λ i. held_after i (Do (Inline o) es) (st i)) → t + room (Do (Inline o) es) ≤ b.temporaries → w + arrays_in (Do (Inline o) es) ≤ b.arrays → Ready p deepest ks F b M n fs env ts st t u w (loops_walked K) l σ →
      Reached p deepest ks F b M (41 + (works_of es + extra_of es)) σ.turns (at ks [] K (laid b l) F (all_emitted (layout p deepest ks F b M n) fs ts es t w d (all_converted (layout p deepest ks F b M n) fs two_wanted es t d (calculated b o t d k))) (beside_state p deepest ks F σ))
      (Done p deepest ks F b M n v (Do (Inline o) es) fs env ts st t u w k K l σ) (Away p deepest ks F b d K) (meant p deepest ks F b M n fs env (Do (Inline o) es) σ)
  unfolding evaluated all_evaluated sorted all_sorted
  plainly_calculated o es ok v fs env ts st t u w d k K l σ so us rm ar rd =
      let s2 = and_parts (fit_row fs two_wanted es) (all_sorted (context p deepest ks F b M n) fs es) so in
      let ee = extra_enough es in
      let P = Done p deepest ks F b M n v (Do (Inline o) es) fs env ts st t u w k K l σ in
      row_then p deepest ks F b M n two_wanted es ok fs env ts st t u w d (calculated b o t d k) K l σ 41 (41 + (works_of es + extra_of es)) P (λ r. settled (outcome_of (arithmetic_of o r.0.number r.1.0.number)))
      s2.0 s2.1 us (omega (arith, rm)) ar rd (omega (arith, ee))
      (λ r τ c le a.
      first (machine p deepest ks F) M 0 41 41 τ.turns c _ P (Away p deepest ks F b d K) _ (record { it = a.comes }) (omega arith)
      (weaker_settled (machine p deepest ks F) M 41 _ τ (Put p deepest ks F b t u w a_number k K a.next) P (Away p deepest ks F b d K) (outcome_of (arithmetic_of o r.0.number r.1.0.number))
      (λ z c2 q. put_done p deepest ks F b M n (Do (Inline o) es) v fs env ts st t u w k K l a.next σ τ z c2 rd.below a.same a.own a.kept refl tt q)
      (calculated_ok o r.0 r.1.0 t u w d k K a.next a.next τ (omega (arith, rm)) (same_self [] t w a.next) (two_row es t u w a.next τ r a.fit a.row))))
