-- Remainders that go to a name: where the name's number is small enough no product leaves the range, and the module takes the remainder itself.
use Rattle.std.proofs.Common.{◌≡◌, ℕ, zero, suc, ◌+◌, ◌*◌, ◌/◌, ◌%◌, ◌^◌, ◌≤◌, Bool, true, false, T, nat_eq, nat_le, List, [], ◌∷◌, Some, None, Option, Ok, Err, Result, ℤ, pos, ◌*ℤ◌, unsigned_abs, int_rem, w64, refl, sym, ap, ap₂, ◌∙◌, subst, arith, if◌then◌else◌}
use Rattle.std.specs.Prelude.{◌&&◌, cond}
use Rattle.std.proofs.lemmas.Int.{ints, unsigned_abs-mul}
use Rattle.std.proofs.lemmas.Bool.{and_parts, le-leb}
use Rattle.std.proofs.Math.Nat.{div-mul-le_self, mul-le-mul_right}
use Rattle.awk_values.specs.Operators.{is_zero}
use Rattle.awk_values.specs.declared.fault.Fault.{Fault}
use Rattle.awk_values.specs.declared.fault.Fault.TheVariants.{DivisionByZero}
use Rattle.awk_values.specs.declared.value.Value.TheVariants as value
use Rattle.sem_primitives.specs.Numbers.{Number as AnyNumber, number_of, number_word, outcome_of}
use Rattle.sem_primitives.specs.ValueMeaning.{number_of_row}
use Rattle.sem_primitives.proofs.Words.{small}
use Rattle.wasm_types.specs.Syntax.{Instructions, Done as NoMore}
use Rattle.wasm_types.specs.declared.instr.Simple.TheVariants.{I64Const, Binary}
use Rattle.wasm_types.specs.declared.instr.IBinOp.TheVariants.{RemS}
use Rattle.wasm_types.specs.declared.types.ValType.TheVariants as ty
use Rattle.wasm_store.specs.IntegerParts.{remainder_signed}
use Rattle.wasm_store.specs.declared.trap.TrapKind.{TrapKind}
use Rattle.wasm_store.specs.Words.{given_by}
use Rattle.wasm_store.specs.declared.word.Word.TheVariants.{I64}
use Rattle.mid_program.specs.declared.mid.Arithmetic.{Arithmetic}
use Rattle.mid_program.specs.declared.mid.Arithmetic.TheVariants as inline
use Rattle.mid_program.specs.declared.mid.Operation.TheVariants.{Inline}
use Rattle.mid_program.specs.Mid.{Slot, Kind, Program, Code, form_of, Do, Number, Get, Set, Codes, End, At, Eval}
use Rattle.sem_primitives.specs.declared.sorts.Sort.TheVariants as sort
use Rattle.mid_program.specs.MidMeaning.{evaluated, all_evaluated, stepped, or_zero, then_row, store_slot, arithmetic_of}
use Rattle.sem_scripts.specs.ScriptState.{State, Stop, Outcome, Gives, go_on, settled, give, ◌>>◌}
use Rattle.mid_program.specs.Sorted.{is_slot, fits as fits_sort, sorted, all_sorted, kinds_of}
use Rattle.sem_scripts.specs.Statements.{Flow, Normal}
use Rattle.lower_model.specs.Cells.{Bits}
use Rattle.lower_model.specs.Machine.{Conf, Label, Frame, Store, at, label, with_operands, push_result}
use Rattle.lower_model.specs.Places.{Bases, room, arrays_in}
use Rattle.lower_model.specs.Quick.{Holder, OfName, OfParameter, holder_of, multiple_of, remainder_alone, Held, Constant, name_in, factor_in, Multiple, Remainder, product_of, two_product, multiple_in, remainder_of, two_remainder, set_remainder, remainder_in, remainder_names, most_multiplied, multiplied}
use Rattle.lower_model.specs.Small.{emit}
use Rattle.lower_model.specs.Emission.{dropped}
use Rattle.lower_model.specs.Statements.{remainder_taken, remainder_dropped}
use Rattle.lower_model.proofs.Observer.{Observer}
use Rattle.lower_model.proofs.Runs.{Goes, goes_to, then_goes, by_steps, stays, first, within, there}
use Rattle.lower_model.proofs.Locals.{Locals, laid}
use Rattle.lower_model.proofs.State.{bare, beside, bare_number, beside_number, holder_slot, holder_value, stored_in}
use Rattle.lower_model.proofs.Relation.{Away}
use Rattle.lower_model.proofs.Pieces.{chooses, closes}
use Rattle.lower_model.proofs.Answers.{machine, beside_state, Reached}
use Rattle.lower_model.proofs.Converting.{blocked, own_number}
use Rattle.lower_model.proofs.Products.{word, product, told}
use Rattle.lower_model.proofs.Inlining.{in_range, checked_in, remainder_small, remainder_word}
use Rattle.lower_model.proofs.Simulation.{work_of, context, layout, ExprOk}
use Rattle.lower_model.proofs.StatementForms.{flows_on, plain_meant, Starts, starts_after, starts_among, StepDone}
use Rattle.lower_model.proofs.Branches.{block_ends}
use Rattle.lower_model.proofs.Sequences.{dropped_ok}
use Rattle.lower_model.proofs.Quick.{holder_is, name_is}
use Rattle.lower_model.proofs.QuickNames.{all_flag, all_steps, all_few, name_longer, AllSure, none_is, some_is, nought_number, all_sure, among_sure, name_among, still_among}
use Rattle.lower_model.proofs.QuickParts.{stored_turns, HolderFits, slot_fits, all_put, taken, stored_normal, Two, sum_stored, two_summed, set_code, AllUnboxed, name_got, all_unsure_ok, name_unboxed, set_means, set_sorted, HolderTakes, takes_fits, words, all_words}

-- Which code is such a step.

abbrev NoZero : Option ℤ → Type 0
NoZero None = Unit {0}
NoZero (Some c) = is_zero c ≡ false

abbrev pub factored_code : Holder → Option ℤ → Code
factored_code i None = Get (holder_slot i)
factored_code i (Some c) = Do (Inline inline.Times) (At (Get (holder_slot i)) (At (Number c) End))

abbrev pub remainder_code : Remainder → Code
remainder_code q = Set (holder_slot q.target) (Do (Inline inline.Modulo) (At (factored_code q.multiple.name q.multiple.factor) (At (Number q.divisor) End)))

record IsMultiple (e : Code) (m : Multiple) : Type 0 where
  code : e ≡ factored_code m.name m.factor
  factor : NoZero m.factor

pub record IsRemainder (e : Code) (q : Remainder) : Type 0 where
  pub code : e ≡ remainder_code q
  pub factor : NoZero q.multiple.factor
  pub divisor : is_zero q.divisor ≡ false

factor_is : (e : Code) (z : ℤ) → factor_in e ≡ Some z → (e ≡ Number z) × (is_zero z ≡ false)
factor_is (Number x) z h = by (is_zero x) refl h
  where
    by : (t : Bool) → is_zero x ≡ t → (if t then None else Some x) ≡ Some z → (Number x ≡ Number z) × (is_zero z ≡ false)
    by true e1 e2 = none_is e2
    by false e1 e2 = let s = some_is x z e2 in (ap (λ y. Number y) s, ap is_zero (sym s) ∙ e1)
factor_is e z h = none_is h

product_is : (a e : Code) (m : Multiple) → product_of (name_in a) (factor_in e) ≡ Some m → IsMultiple (Do (Inline inline.Times) (At a (At e End))) m
product_is a e m h = by (name_in a) refl (factor_in e) refl h
  where
    by : (o : Option Holder) → name_in a ≡ o → (r : Option ℤ) → factor_in e ≡ r → product_of o r ≡ Some m → IsMultiple (Do (Inline inline.Times) (At a (At e End))) m
    by (Some i) e1 (Some c) e2 eq =
        let f = factor_is e c e2 in
        subst (IsMultiple (Do (Inline inline.Times) (At a (At e End)))) (some_is (record { name = i; factor = Some c }) m eq)
        (record { code = ap₂ (λ x y. Do (Inline inline.Times) (At x (At y End))) (name_is a i e1) f.0; factor = f.1 })
    by (Some i) e1 None e2 eq = none_is eq
    by None e1 r e2 eq = none_is eq

two_product_is : (o : Arithmetic) (es : Codes) (m : Multiple) → two_product o es ≡ Some m → IsMultiple (Do (Inline o) es) m
two_product_is inline.Times (At a (At e End)) m h = product_is a e m h
two_product_is o es m h = none_is h

multiple_is : (e : Code) (m : Multiple) → multiple_in e ≡ Some m → IsMultiple e m
multiple_is (Get x) m h = by (holder_of x) refl h
  where
    by : (o : Option Holder) → holder_of x ≡ o → multiple_of o ≡ Some m → IsMultiple (Get x) m
    by (Some i) e eq = subst (IsMultiple (Get x)) (some_is (record { name = i; factor = None }) m eq) (record { code = ap Get (holder_is x i e); factor = tt })
    by None e eq = none_is eq
multiple_is (Do (Inline o) es) m h = two_product_is o es m h
multiple_is e m h = none_is h

both_are : (i : Holder) (a e : Code) (q : Remainder) → remainder_of i (multiple_in a) (factor_in e) ≡ Some q → IsRemainder (set_code i inline.Modulo a e) q
both_are i a e q h = by (multiple_in a) refl (factor_in e) refl h
  where
    by : (o : Option Multiple) → multiple_in a ≡ o → (r : Option ℤ) → factor_in e ≡ r → remainder_of i o r ≡ Some q → IsRemainder (set_code i inline.Modulo a e) q
    by (Some m) e1 (Some z) e2 eq =
        let s = multiple_is a m e1 in
        let f = factor_is e z e2 in
        subst (IsRemainder (set_code i inline.Modulo a e)) (some_is (record { target = i; multiple = m; divisor = z }) q eq)
        (record { code = ap₂ (set_code i inline.Modulo) s.code f.0; factor = s.factor; divisor = f.1 })
    by (Some m) e1 None e2 eq = none_is eq
    by None e1 r e2 eq = none_is eq

two_are : (i : Holder) (o : Arithmetic) (es : Codes) (q : Remainder) → two_remainder i o es ≡ Some q → IsRemainder (Set (holder_slot i) (Do (Inline o) es)) q
two_are i inline.Modulo (At a (At e End)) q h = both_are i a e q h
two_are i o es q h = none_is h

set_is : (i : Holder) (e : Code) (q : Remainder) → set_remainder i e ≡ Some q → IsRemainder (Set (holder_slot i) e) q
set_is i (Do (Inline o) es) q h = two_are i o es q h
set_is i e q h = none_is h

pub remainder_is : (e : Code) (q : Remainder) → remainder_in e ≡ Some q → IsRemainder e q
remainder_is (Set x e) q h = by (holder_of x) refl h
  where
    by : (o : Option Holder) → holder_of x ≡ o → remainder_alone o e ≡ Some q → IsRemainder (Set x e) q
    by (Some i) ex eq = subst (λ (y : Slot). IsRemainder (Set y e) q) (sym (holder_is x i ex)) (set_is i e q eq)
    by None ex eq = none_is eq
remainder_is e q h = none_is h

-- so small a number has its product in range
multiple_small : (m c : ℤ) → unsigned_abs m ≤ 2 ^ 53 / unsigned_abs c → unsigned_abs (m *ℤ c) ≤ 2 ^ 53
multiple_small m c h =
    let e = unsigned_abs-mul m c in
    let a = mul-le-mul_right {m = unsigned_abs m} {n = 2 ^ 53 / unsigned_abs c} (unsigned_abs c) h in
    let d = div-mul-le_self (2 ^ 53) (unsigned_abs c) in
    omega (arith, e, a, d)

pub most_few : (f : Option ℤ) → NoZero f → most_multiplied f ≤ 2 ^ 53
most_few None h = omega arith
most_few (Some c) h = part_few (unsigned_abs c)
  where
    part_few : (k : ℕ) → 2 ^ 53 / k ≤ 2 ^ 53
    part_few k = omega arith

module _ (p : Program) (deepest : Observer) (ks : List Kind) (F : List Frame) (b : Bases) (M n : ℕ) where
  abbrev kinds : List Kind
  kinds = kinds_of p.globals

  abbrev FactorFits : Option ℤ → Type 0
  FactorFits None = Unit {0}
  FactorFits (Some c) = nat_le (unsigned_abs c) (2 ^ 53) ≡ true

  pub record RemainderParts (q : Remainder) : Type 0 where
    pub target : HolderTakes p deepest ks F b M n q.target
    pub name : HolderFits p deepest ks F b M n q.multiple.name
    pub factor : FactorFits q.multiple.factor
    pub divisor : nat_le (unsigned_abs q.divisor) (2 ^ 53) ≡ true

  factored_sorted : (i : Holder) (f : Option ℤ) → sorted (context p deepest ks F b M n) [] (factored_code i f) ≡ true → HolderFits p deepest ks F b M n i × FactorFits f
  unfolding sorted all_sorted
  factored_sorted i None so = (slot_fits p deepest ks F b M n i so, tt)
  factored_sorted i (Some c) so =
      let ctx = context p deepest ks F b M n in
      let fx = fits_sort (form_of [] (Get (holder_slot i))) sort.Number && true in
      let body = is_slot ctx (holder_slot i) && (nat_le (unsigned_abs c) (2 ^ 53) && true) in
      let s = and_parts (is_slot ctx (holder_slot i)) (nat_le (unsigned_abs c) (2 ^ 53) && true) (and_parts fx body so).1 in
      (slot_fits p deepest ks F b M n i s.0, (and_parts (nat_le (unsigned_abs c) (2 ^ 53)) true s.1).0)

  pub remainder_sorted : (q : Remainder) → sorted (context p deepest ks F b M n) [] (remainder_code q) ≡ true → RemainderParts q
  unfolding sorted all_sorted
  remainder_sorted q so =
      let h = set_sorted p deepest ks F b M n [] q.target inline.Modulo (factored_code q.multiple.name q.multiple.factor) (Number q.divisor) so in
      let s = factored_sorted q.multiple.name q.multiple.factor h.first_one in
      record { target = h.kind; name = s.0; factor = s.1; divisor = h.second }

  pub remainder_unboxed : (q : Remainder) → RemainderParts q → AllUnboxed p deepest ks F b M n (remainder_names q)
  remainder_unboxed q t = name_unboxed p deepest ks F b M n q.target (q.multiple.name ∷ []) (takes_fits p deepest ks F b M n q.target t.target) (t.name, tt)

  -- a name's number, or its product: what it is on the stack, and that the statement takes the remainder of it
  record Product (i : Holder) (f : Option ℤ) (m : AnyNumber) (σ : State) : Type 0 where
    number : AnyNumber
    steps : ℕ
    few : steps ≤ 1
    goes : (K : List Label) (k : Instructions) (l : Locals) → Goes (machine p deepest ks F) steps (at ks (Bits (I64 (number_word m)) ∷ []) K (laid b l) F (multiplied f k) (beside_state p deepest ks F σ)) (at ks (Bits (I64 (number_word number)) ∷ []) K (laid b l) F k (beside_state p deepest ks F σ))
    means : (j : Holder) (z : ℤ) → plain_meant p deepest ks F b M n (Eval (set_code j inline.Modulo (factored_code i f) (Number z))) σ ≡ sum_stored j σ (outcome_of (arithmetic_of inline.Modulo number.number (or_zero (number_of z)).number))

  -- what becomes of a product
  abbrev product_given : ℤ → State → Result AnyNumber Fault → Outcome AnyNumber
  product_given c σ r =
      go_on {A = Two} {B = AnyNumber} (settled (then_row {A = AnyNumber} {B = Two} r (λ x. Ok (x, (or_zero (number_of c), tt)))) σ) (λ given. settled (outcome_of (arithmetic_of inline.Times given.0.number given.1.0.number)))

  abbrev remainder_given : Holder → ℤ → Outcome AnyNumber → Outcome Flow
  remainder_given j z o =
      go_on (go_on (go_on {A = Two} {B = AnyNumber} (go_on {A = AnyNumber} {B = Two} o (λ x. give (x, (or_zero (number_of z), tt)))) (λ given. settled (outcome_of (arithmetic_of inline.Modulo given.0.number given.1.0.number)))) (λ y. store_slot (holder_slot j) (value.Num y.number) >> give y)) (λ y. give Normal)

  product_means : (i j : Holder) (c z : ℤ) (σ : State) → plain_meant p deepest ks F b M n (Eval (set_code j inline.Modulo (factored_code i (Some c)) (Number z))) σ ≡ remainder_given j z (product_given c σ (number_of_row (holder_value i σ)))
  unfolding evaluated all_evaluated stepped
  product_means (OfName i) j c z σ = refl
  product_means (OfParameter i) j c z σ = refl

  multiplies : (i : Holder) (f : Option ℤ) (m : AnyNumber) (σ : State) → FactorFits f → unsigned_abs m.number ≤ most_multiplied f → holder_value i σ ≡ value.Num m.number → Product i f m σ
  multiplies i None m σ hf hm ev =
      record {
        number = m;
        steps = 0;
        few = omega arith;
        goes = λ K k l. stays;
        means = λ j z. set_means p deepest ks F b M n j inline.Modulo (Held i) (Constant z) σ ∙ ap (λ r. two_summed j inline.Modulo σ r (Ok (or_zero (number_of z)))) (own_number p deepest ks F b M (holder_value i σ) m ev);
      }
  multiplies i (Some c) m σ hf hm ev =
      let nc = or_zero (number_of c) in
      let ec : nc.number ≡ c = nought_number c hf in
      let z = m.number *ℤ nc.number in
      let is : nat_le (unsigned_abs z) (2 ^ 53) ≡ true = le-leb (unsigned_abs z) (2 ^ 53) (subst (λ x. unsigned_abs (m.number *ℤ x) ≤ 2 ^ 53) (sym ec) (multiple_small m.number c hm)) in
      let y : AnyNumber = record { number = z; in_range = subst T (sym is) tt } in
      let facts = told m.number nc.number (small m) (small nc) in
      let pw : product m.number nc.number (small m) (small nc) ≡ word z = facts.is_product is in
      record {
        number = y;
        steps = 1;
        few = omega arith;
        goes = λ K k l. goes_to (by_steps 1 refl) (ap (λ x. at ks (Bits (I64 x) ∷ []) K (laid b l) F k (beside_state p deepest ks F σ)) (ap (λ x. product_with m x) (sym ec) ∙ pw));
        means = λ j w. product_means i j c w σ
            ∙ (ap (λ r. remainder_given j w (product_given c σ r)) (own_number p deepest ks F b M (holder_value i σ) m ev)
            ∙ ap (λ r. remainder_given j w (settled r σ)) (checked_in z is));
      }
    where
      product_with : AnyNumber → ℤ → ℕ
      product_with m x = (number_word m * word x) % 2 ^ 64

  -- both ways
  pub remainder_ok : (q : Remainder) → ExprOk p deepest ks F b M n (remainder_code q) → IsRemainder (remainder_code q) q → (lo : Bool) (u d bk ct : ℕ) (k : Instructions) (K : List Label) (l : Locals) (σ : State) → sorted (context p deepest ks F b M n) [] (remainder_code q) ≡ true → room (remainder_code q) ≤ b.temporaries → arrays_in (remainder_code q) ≤ b.arrays → Starts p deepest ks F b M n u K l σ →
      Reached p deepest ks F b M (work_of (remainder_code q) + 30) σ.turns (at ks [] K (laid b l) F (remainder_dropped (layout p deepest ks F b M n) (Some q) (remainder_code q) d k) (beside_state p deepest ks F σ)) (StepDone p deepest ks F b M n lo u bk ct k K l) (Away p deepest ks F b d K) (plain_meant p deepest ks F b M n (Eval (remainder_code q)) σ)
  remainder_ok q ok is lo u d bk ct k K l σ so rm ar s =
      first (machine p deepest ks F) M (all_steps (remainder_names q) + 1) (W + 12) (W + 30) σ.turns _ _ P Q meant
      (then_goes (all_unsure_ok p deepest ks F b M n _ _ (remainder_names q) (pos most) (most + most) 0 u 0 l σ (remainder_unboxed q parts) s.parameters s.fit) (chooses slow fast (if all_flag (words l σ) (pos most) (most + most) (remainder_names q) then 1 else 0))) few
      (chosen (all_flag (words l σ) (pos most) (most + most) (remainder_names q)) refl)
    where
      S : Store
      S = beside_state p deepest ks F σ

      K1 : List Label
      K1 = label [] None k ∷ K

      W : ℕ
      W = work_of (remainder_code q)

      most : ℕ
      most = most_multiplied q.multiple.factor

      P : Flow → State → Conf → Type 0
      P = StepDone p deepest ks F b M n lo u bk ct k K l

      Q : Stop → State → Conf → Type 0
      Q = Away p deepest ks F b d K

      meant : Outcome Flow
      meant = plain_meant p deepest ks F b M n (Eval (remainder_code q)) σ

      parts : RemainderParts q
      parts = remainder_sorted q so

      slow : Instructions
      slow = dropped (layout p deepest ks F b M n) [] [] (remainder_code q) zero zero (suc d) NoMore

      fast : Instructions
      fast = remainder_taken (layout p deepest ks F b M n) q NoMore

      few : (all_steps (remainder_names q) + 1) + (W + 12) ≤ W + 30
      few =
          let a = all_few (remainder_names q) in
          let c = name_longer q.target (q.multiple.name ∷ []) in
          omega (arith, a, c)

      most-is : most ≤ 2 ^ 53
      most-is = most_few q.multiple.factor is.factor

      quick : AllSure (words l σ) σ (pos most) (most + most) (remainder_names q) → Reached p deepest ks F b M (W + 12) σ.turns (at ks [] K1 (laid b l) F fast S) P Q meant
      quick a =
          let both = among_sure (words l σ) q.multiple.name (remainder_names q) (pos most) (most + most) σ (still_among q.target q.multiple.name (q.multiple.name ∷ []) (name_among q.multiple.name [])) a in
          let own = both.0 in
          let to = (among_sure (words l σ) q.target (remainder_names q) (pos most) (most + most) σ (name_among q.target (q.multiple.name ∷ [])) a).0 in
          let m = own.number in
          let hm : unsigned_abs m.number ≤ most = let x = own.sum in let y = own.few in grind (arith, ints, x, y) in
          let x = multiplies q.multiple.name q.multiple.factor m σ parts.factor hm own.value in
          let nz = or_zero (number_of q.divisor) in
          let ez : nz.number ≡ q.divisor = nought_number q.divisor parts.divisor in
          let some : is_zero nz.number ≡ false = ap is_zero ez ∙ is.divisor in
          let r = int_rem x.number.number nz.number in
          let rs = le-leb (unsigned_abs r) (2 ^ 53) (remainder_small x.number nz some) in
          let y : AnyNumber = record { number = r; in_range = subst T (sym rs) tt } in
          let σ1 = stored_in (holder_slot q.target) (value.Num y.number) σ in
          let xf = x.few in
          let last = emit (all_put p deepest ks F b M n q.target) NoMore in
          let to_taken = taken p deepest ks F b M n q.target y u K1 NoMore l σ parts.target s.parameters s.fit (ap beside to.value ∙ beside_number to.number) in
          let tk = stored_turns p deepest ks F b M n q.target y σ in
          let means : meant ≡ Gives Normal σ1 =
          x.means q.target q.divisor ∙ (ap (λ t. sum_stored q.target σ (outcome_of (if t then Err DivisionByZero else Ok r))) some ∙ (ap (sum_stored q.target σ) (in_range r rs) ∙ stored_normal p deepest ks F b M n q.target y σ)) in
          subst (λ o. Reached p deepest ks F b M (W + 12) σ.turns (at ks [] K1 (laid b l) F fast S) P Q o) (sym means)
          (subst (λ g. Reached p deepest ks F b M (W + 12) g (at ks [] K1 (laid b l) F fast S) P Q (Gives Normal σ1)) tk
          (there (machine p deepest ks F) M (W + 12) (1 + (x.steps + (1 + (1 + 1)))) _ _ Normal σ1 P Q
          (then_goes (goes_to (name_got p deepest ks F b M n _ _ _ q.multiple.name 0 u 0 l σ parts.name s.parameters s.fit) (ap (λ v. at ks (Bits (I64 v) ∷ []) K1 (laid b l) F (multiplied q.multiple.factor (emit (I64Const (word q.divisor)) (emit (Binary ty.I64 RemS) last))) S) (both.1 ∙ (ap bare own.value ∙ bare_number m))))
          (then_goes (x.goes K1 (emit (I64Const (word q.divisor)) (emit (Binary ty.I64 RemS) last)) l)
          (then_goes (by_steps 1 (ap (λ o. with_operands (push_result [] (Some (given_by I64 o))) ks K1 (laid b l) F last S) (ap (λ v. remainder_by x.number v) (sym ez) ∙ remainder_word x.number nz some)))
          (then_goes to_taken.goes closes)))) (omega (arith, xf))
          (record { next = to_taken.next; comes = refl; starts = starts_after p deepest ks F b M n u K K l to_taken.next σ σ1 s refl (let e = tk in omega (arith, e)) to_taken.iterators to_taken.fit; iterators = to_taken.iterators; flows = flows_on lo })))
        where
          remainder_by : AnyNumber → ℤ → Result ℕ TrapKind
          remainder_by x z = remainder_signed w64 (number_word x) (word z)

      chosen : (f : Bool) → all_flag (words l σ) (pos most) (most + most) (remainder_names q) ≡ f → Reached p deepest ks F b M (W + 12) σ.turns (at ks [] K1 (laid b l) F (cond (nat_eq (if f then 1 else 0) 0) fast slow) S) P Q meant
      chosen true eq =
          within (machine p deepest ks F) M ((W + 8) + 1) (W + 12) σ.turns _ P Q meant (omega arith)
          (blocked p deepest ks F b M (W + 8) σ.turns d k K _ (StepDone p deepest ks F b M n lo u (suc bk) (suc ct) NoMore K1 l) P meant (λ f τ c h. block_ends p deepest ks F b M n lo u bk ct k K l f τ c h)
          (dropped_ok p deepest ks F b M n (remainder_code q) ok lo u (suc d) (suc bk) (suc ct) NoMore K1 l σ so rm ar (starts_among p deepest ks F b M n u K K1 l σ refl s)))
      chosen false eq = quick (all_sure (words l σ) (remainder_names q) (pos most) (most + most) σ (all_words p deepest ks F b M n (remainder_names q) 0 u 0 l σ (remainder_unboxed q parts) s.fit) (let h = most-is in omega (arith, h)) (let h = most-is in omega (arith, h)) eq)
