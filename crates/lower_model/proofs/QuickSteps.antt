-- Steps with a quick way: sums that go to a name, and tests of names and constants.
use Rattle.std.proofs.Common.{◌≡◌, ℕ, zero, suc, ◌+◌, ◌^◌, ◌<◌, ◌≤◌, Bool, true, false, nat_eq, nat_le, List, [], ◌∷◌, length, Some, None, Option, Ok, Err, Result, ℤ, pos, ◌+ℤ◌, unsigned_abs, w64, refl, sym, ap, ap₂, ◌∙◌, subst, arith, if◌then◌else◌, inl, inr}
use Rattle.std.specs.Prelude.{◌&&◌, T, not, cond, nat_lt}
use Rattle.std.proofs.Common.{true≢false}
use Rattle.std.proofs.lemmas.Int.{ints}
use Rattle.std.proofs.lemmas.Bool.{and_parts, eqb-true, le-leb, leb-true, ltb-false}
use Rattle.awk_values.specs.declared.fault.Fault.{Fault}
use Rattle.awk_values.specs.declared.value.Value.{Value}
use Rattle.awk_values.specs.declared.value.Value.TheVariants as value
use Rattle.awk_values.specs.Comparison.{comparison, numeric_side, order_by, held, holds}
use Rattle.awk_values.specs.declared.comparison.CompareOp.{CompareOp}
use Rattle.awk_values.specs.declared.comparison.CompareOp.TheVariants as op
use Rattle.std.specs.Ordering.{int_cmp}
use Rattle.sem_primitives.specs.ConstantNumbers.{special_number}
use Rattle.sem_primitives.specs.declared.constants.Special.TheVariants.{Nf}
use Rattle.sem_primitives.specs.declared.sorts.Answer.TheVariants as answer
use Rattle.sem_primitives.specs.declared.sorts.Sort.TheVariants as sort
use Rattle.sem_primitives.specs.declared.table.Primitive.TheVariants as row
use Rattle.wasm_store.specs.Integers.{compare_at, binary_at}
use Rattle.lower_model.specs.Arithmetic.{relation}
use Rattle.lower_model.proofs.Observer.{Observer}
use Rattle.lower_model.proofs.Orders.{words_compared}
use Rattle.sem_primitives.specs.Numbers.{Number as AnyNumber, number_of, number_word, outcome_of}
use Rattle.sem_primitives.proofs.Words.{small}
use Rattle.wasm_types.specs.Syntax.{Instructions, Done as NoMore}
use Rattle.wasm_types.specs.declared.types.ValType.TheVariants.{I32}
use Rattle.wasm_types.specs.declared.types.ValType.TheVariants as wide
use Rattle.wasm_types.specs.declared.instr.Simple.TheVariants.{I32Const, BrIf, Compare as Comparing, Binary, Test}
use Rattle.wasm_types.specs.declared.instr.IRelOp.TheVariants.{LeS}
use Rattle.wasm_types.specs.declared.instr.ITestOp.TheVariants.{Eqz}
use Rattle.wasm_store.specs.declared.word.Word.TheVariants.{I64}
use Rattle.wasm_store.specs.declared.word.Word.TheVariants as word
use Rattle.wasm_store.specs.Words.{flag, given_by}
use Rattle.mid_program.specs.declared.mid.Arithmetic.{Arithmetic}
use Rattle.mid_program.specs.declared.mid.Operation.TheVariants.{Host, Inline, AsNumber}
use Rattle.mid_program.specs.Mid.{Kind, Program, Code, Do, Compare, Number, Get, Set, Seq, Let, Bound, Codes, End, At, Fixed, Eval, a_number, Form, form_of, Slot}
use Rattle.mid_program.specs.MidMeaning.{evaluated, all_evaluated, stepped, or_zero, then_row, store_slot, arithmetic_of}
use Rattle.sem_scripts.specs.ScriptState.{State, Gives, Outcome, go_on, settled, give, ◌>>◌, global_value, local_value}
use Rattle.mid_program.specs.Sorted.{sorted, all_sorted, kinds_of, fits as fits_sort, is_tested, is_dropped, is_kept, keeps_well, test_sorted, step_sorted, steps_sorted, is_slot, takes}
use Rattle.sem_scripts.specs.Statements.{Flow, Normal}
use Rattle.lower_model.specs.Cells.{Cell, Bits, Held}
use Rattle.lower_model.specs.Emission.{tested, source_pushed}
use Rattle.lower_model.specs.Machine.{Conf, Label, Frame, Store, at, br, label, with_operands, push_result}
use Rattle.lower_model.specs.Noted.{step_noted, steps_noted}
use Rattle.lower_model.specs.Places.{Bases, room, arrays_in, step_room, step_arrays}
use Rattle.lower_model.specs.Quick.{Within, unsure, name_in, constant_in, first_ones, compared_within, both_within, test_within, Holder, OfName, OfParameter, holder_of, set_after, set_alone, Source, Held as Standing, Constant, source_in, and_source, Sum, sum_names, update_in, is_near, is_sum, sum_op, sum_of, two_sum, set_sum, kept_sum, update_sum, old_source, stored_name, new_sum, let_sum, sum_in, Counted, field_count, counted_of, counted_in, Pair, pair_names, pair_of, pair_in, contrary}
use Rattle.lower_model.specs.Small.{emit, ask_row, text_beside}
use Rattle.lower_model.specs.Statements.{counted_left, left_unless_counted, summed, summed_anyway, quickly_dropped, pair_left, left_unless_pair, left_unless, step_emitted, steps_emitted}
use Rattle.lower_model.proofs.Runs.{Goes, goes_from, goes_to, then_goes, by_steps, stays, first, within, there, then_on, then_step, Onward}
use Rattle.lower_model.proofs.Locals.{Locals, laid}
use Rattle.lower_model.proofs.State.{holder_slot, holder_value, stored_in, bare, beside, bare_number, beside_number, BareOf, IsBeside, IsNone, IsNumber}
use Rattle.lower_model.proofs.Relation.{Fit, Away}
use Rattle.lower_model.proofs.Pieces.{chooses, closes}
use Rattle.lower_model.proofs.Answers.{machine, beside_state, reply, after_reply, row_called, Reached}
use Rattle.lower_model.proofs.Conversions.{bare_is, same_state, ask_to_num}
use Rattle.lower_model.proofs.Converting.{blocked, own_number}
use Rattle.lower_model.proofs.Products.{word}
use Rattle.lower_model.proofs.Simulation.{work_of, context, layout, ExprOk}
use Rattle.lower_model.proofs.StatementForms.{flows_on, plain_meant, Starts, starts_after, starts_among, StepDone, StepOk}
use Rattle.lower_model.proofs.Tidy.{begun_step}
use Rattle.lower_model.proofs.Branches.{TestDone, test_meant, test_ok, block_ends}
use Rattle.lower_model.proofs.Quick.{Sure, sure, shown_by, holder_is, name_is, constant_is, shift_pos, shifted_less, shifted_most, less_holds, most_holds}
use Rattle.lower_model.proofs.QuickNames.{num_of, word_of, val_of, source_steps, all_flag, all_steps, AllSure, StandsAmong, source_code, none_is, some_is, nought_number, all_sure, among_sure, name_among, source_among, source_still, source_beside, source_is, contrary_holds, two_few, one_few, near_sum, stored_is, none_new, result_of, sum_few, Words, WordFits, shift_word, one_sure}
use Rattle.lower_model.proofs.Summing.{Summed, summed_in_turn, IsSource, anyway_ok}
use Rattle.lower_model.proofs.QuickParts.{HolderFits, slot_fits, all_read, all_put, Taken, taken, stored_turns, Two, sum_stored, two_summed, set_code, AllUnboxed, name_got, all_unsure_ok, name_unboxed, summed_means, set_means, Parts, set_sorted, HolderTakes, takes_fits, words, words_fit, all_words, slot_takes}
use Rattle.lower_model.proofs.Evaluating.{plainly_ok}

module _ (p : Program) (deepest : Observer) (ks : List Kind) (F : List Frame) (b : Bases) (M n : ℕ) where
  abbrev kinds : List Kind
  kinds = kinds_of p.globals

  -- What the tests mean that are sure.

  pub record TestIs (e : Code) (q : Within) : Type 0 where
    pub kind : HolderFits p deepest ks F b M n q.name
    pub shift : unsigned_abs q.shift ≤ 2 ^ 54
    pub width : q.width ≤ 2 ^ 54
    pub means : (σ : State) → Sure (holder_value q.name σ) q.shift q.width → test_meant p deepest ks F b M n e σ ≡ Gives true σ

  compared_by : (c : CompareOp) (v : Value) (z : ℤ) (m : AnyNumber) (σ : State) → nat_le (unsigned_abs z) (2 ^ 53) ≡ true → v ≡ value.Num m.number → holds c (int_cmp m.number z) ≡ true → go_on (settled (comparison v (value.Num (or_zero (number_of z)).number) c) σ) (λ x. give x) ≡ Gives true σ
  compared_by c v z m σ hz ev h =
      let nz = or_zero (number_of z) in
      let r : comparison v (value.Num nz.number) c ≡ Ok true =
      ap (λ o. held c (order_by v (value.Num nz.number) o (Some (Ok nz.number)))) (ap numeric_side ev)
      ∙ (ap (λ x. Ok (holds c (int_cmp m.number x))) (nought_number z hz) ∙ ap Ok h) in
      ap (λ o. go_on (settled o σ) (λ x. give x)) r

  compare_means : (c : CompareOp) (i : Holder) (z : ℤ) (m : AnyNumber) (σ : State) → nat_le (unsigned_abs z) (2 ^ 53) ≡ true → holder_value i σ ≡ value.Num m.number → holds c (int_cmp m.number z) ≡ true → test_meant p deepest ks F b M n (Compare c (Get (holder_slot i)) (Number z)) σ ≡ Gives true σ
  unfolding evaluated all_evaluated
  compare_means c (OfName j) z m σ hz ev h = compared_by c (global_value j σ) z m σ hz ev h
  compare_means c (OfParameter j) z m σ hz ev h = compared_by c (local_value j σ) z m σ hz ev h

  first_is : (c : CompareOp) (i : Holder) (z : ℤ) (k : ℕ) (q : Within) → first_ones i k ≡ Some q → HolderFits p deepest ks F b M n i → nat_le (unsigned_abs z) (2 ^ 53) ≡ true → k ≤ suc (2 ^ 54) →
      ((m : AnyNumber) (j : ℕ) → m.number +ℤ pos (2 ^ 53) ≡ pos j → j < k → holds c (int_cmp m.number z) ≡ true) → TestIs (Compare c (Get (holder_slot i)) (Number z)) q
  first_is c i z zero q eq hk hz hb f = none_is eq
  first_is c i z (suc k) q eq hk hz hb f = subst (TestIs (Compare c (Get (holder_slot i)) (Number z))) (some_is _ q eq)
      (record {
        kind = hk;
        shift = omega arith;
        width = omega (arith, hb);
        means = λ σ s. compare_means c i z s.number σ hz s.value (f s.number s.above s.sum (let w = s.few in omega (arith, w)));
      })

  pair_sorted : (c : CompareOp) (x y : Code) → sorted (context p deepest ks F b M n) [] (Compare c x y) ≡ true → (sorted (context p deepest ks F b M n) [] x ≡ true) × (sorted (context p deepest ks F b M n) [] y ≡ true)
  unfolding sorted all_sorted
  pair_sorted c x y so =
      let ctx = context p deepest ks F b M n in
      let s1 = and_parts (fits_sort (form_of [] x) sort.Value) (fits_sort (form_of [] y) sort.Value && (sorted ctx [] x && sorted ctx [] y)) so in
      let s2 = and_parts (fits_sort (form_of [] y) sort.Value) (sorted ctx [] x && sorted ctx [] y) s1.1 in
      and_parts (sorted ctx [] x) (sorted ctx [] y) s2.1

  named_is : (c : CompareOp) (i : Holder) (z : ℤ) (q : Within) → compared_within c i z ≡ Some q → sorted (context p deepest ks F b M n) [] (Compare c (Get (holder_slot i)) (Number z)) ≡ true → TestIs (Compare c (Get (holder_slot i)) (Number z)) q
  unfolding sorted all_sorted
  named_is op.Less i z q eq so =
      let s = pair_sorted op.Less (Get (holder_slot i)) (Number z) so in
      let hk = slot_fits p deepest ks F b M n i s.0 in
      let hz = leb-true (unsigned_abs z) (2 ^ 53) s.1 in
      first_is op.Less i z (unsigned_abs (z +ℤ pos (2 ^ 53))) q eq hk s.1 (let x = (shift_pos z hz).1 in omega (arith, x))
      (λ m j e lt. less_holds m.number z (shifted_less m.number z (small m) hz (let x : unsigned_abs (m.number +ℤ pos (2 ^ 53)) ≡ j = ap unsigned_abs e in omega (arith, x, lt))))
  named_is op.LessOrEqual i z q eq so =
      let s = pair_sorted op.LessOrEqual (Get (holder_slot i)) (Number z) so in
      let hk = slot_fits p deepest ks F b M n i s.0 in
      let hz = leb-true (unsigned_abs z) (2 ^ 53) s.1 in
      first_is op.LessOrEqual i z (suc (unsigned_abs (z +ℤ pos (2 ^ 53)))) q eq hk s.1 (let x = (shift_pos z hz).1 in omega (arith, x))
      (λ m j e lt. most_holds m.number z (shifted_most m.number z (small m) hz (let x : unsigned_abs (m.number +ℤ pos (2 ^ 53)) ≡ j = ap unsigned_abs e in omega (arith, x, lt))))
  named_is c i z q eq so = none_is eq

  pub test_is : (e : Code) (q : Within) → test_within e ≡ Some q → sorted (context p deepest ks F b M n) [] e ≡ true → TestIs e q
  test_is (Compare c a e) q eq so = by (name_in a) refl (constant_in e) refl eq
    where
      by : (o : Option Holder) → name_in a ≡ o → (r : Option ℤ) → constant_in e ≡ r → both_within c o r ≡ Some q → TestIs (Compare c a e) q
      by (Some i) e1 (Some z) e2 eq = subst (λ t. sorted (context p deepest ks F b M n) [] t ≡ true → TestIs t q) (sym (ap₂ (λ x y. Compare c x y) (name_is a i e1) (constant_is e z e2))) (named_is c i z q eq) so
      by (Some i) e1 None e2 eq = none_is eq
      by None e1 r e2 eq = none_is eq
  test_is e q eq so = none_is eq

  -- one comparison of a name's number
  pub unsure_ok : (K : List Label) (k : Instructions) (i : Holder) (q : ℤ) (w u : ℕ) (l : Locals) (σ : State) → HolderFits p deepest ks F b M n i → length ks ≡ b.parameters → Fit p deepest ks F 0 u 0 l σ →
      Goes (machine p deepest ks F) 3 (at ks [] K (laid b l) F (unsure (all_read p deepest ks F b M n i) q w k) (beside_state p deepest ks F σ)) (at ks (Bits (flag (nat_lt w (shift_word (words l σ) q i))) ∷ []) K (laid b l) F k (beside_state p deepest ks F σ))
  unsure_ok K k i q w u l σ hk pk ft = then_goes (name_got p deepest ks F b M n _ _ _ i 0 u 0 l σ hk pk ft) (by_steps 2 refl)

  -- the machine goes on where a test holds, and elsewhere some labels further out
  abbrev pub way_of : Bool → Conf → Conf → Conf
  way_of true on out = on
  way_of false on out = out

  pub record Left (out : ℕ) (k : Instructions) (K : List Label) (u : ℕ) (l : Locals) (x : Bool) (σ : State) (c : Conf) : Type 0 where
    pub next : Locals
    pub comes : c ≡ way_of x (at ks [] K (laid b next) F k (beside_state p deepest ks F σ)) (br out ks K (laid b next) F (beside_state p deepest ks F σ))
    pub starts : Starts p deepest ks F b M n u K next σ
    pub iterators : (y : ℕ) → next.iterator y ≡ l.iterator y

  branched : (out u : ℕ) (k : Instructions) (K : List Label) (l : Locals) (t : Bool) (σ : State) (c : Conf) → TestDone p deepest ks F b M n (emit (Test I32 Eqz) (emit (BrIf out) k)) K u l t σ c → Onward (machine p deepest ks F) M 2 (Left out k K u l t σ) c
  branched out u k K l true σ c h = record { conf = at ks [] K (laid b h.next) F k (beside_state p deepest ks F σ); steps = 2; few = omega arith; goes = goes_from h.comes (by_steps 2 refl); holds = record { next = h.next; comes = refl; starts = h.starts; iterators = h.iterators } }
  branched out u k K l false σ c h = record { conf = br out ks K (laid b h.next) F (beside_state p deepest ks F σ); steps = 2; few = omega arith; goes = goes_from h.comes (by_steps 2 refl); holds = record { next = h.next; comes = refl; starts = h.starts; iterators = h.iterators } }

  -- the test as it is
  plain_ok : (e : Code) → ExprOk p deepest ks F b M n e → (u d out : ℕ) (k : Instructions) (K : List Label) (l : Locals) (σ : State) → test_sorted (context p deepest ks F b M n) e ≡ true → room e ≤ b.temporaries → arrays_in e ≤ b.arrays → Starts p deepest ks F b M n u K l σ →
      Reached p deepest ks F b M (work_of e + 16) σ.turns (at ks [] K (laid b l) F (tested (layout p deepest ks F b M n) [] [] e zero zero d (emit (Test I32 Eqz) (emit (BrIf out) k))) (beside_state p deepest ks F σ)) (Left out k K u l) (Away p deepest ks F b d K) (test_meant p deepest ks F b M n e σ)
  plain_ok e ok u d out k K l σ so rm ar s =
      then_step (machine p deepest ks F) M 2 (work_of e + 14) (work_of e + 16) σ.turns _ (TestDone p deepest ks F b M n (emit (Test I32 Eqz) (emit (BrIf out) k)) K u l) (Left out k K u l) (Away p deepest ks F b d K) (test_meant p deepest ks F b M n e σ) (omega arith)
      (λ t τ c h. branched out u k K l t τ c h)
      (test_ok p deepest ks F b M n e ok u d (emit (Test I32 Eqz) (emit (BrIf out) k)) K l σ so rm ar s)

  left_closes : (out u : ℕ) (k : Instructions) (K : List Label) (l : Locals) (t : Bool) (σ : State) (c : Conf) → Left (suc out) NoMore (label [] None k ∷ K) u l t σ c → Onward (machine p deepest ks F) M 1 (Left out k K u l t σ) c
  left_closes out u k K l true σ c h = record { conf = at ks [] K (laid b h.next) F k (beside_state p deepest ks F σ); steps = 1; few = omega arith; goes = goes_from h.comes closes; holds = record { next = h.next; comes = refl; starts = starts_among p deepest ks F b M n u (label [] None k ∷ K) K h.next σ refl h.starts; iterators = h.iterators } }
  left_closes out u k K l false σ c h = record { conf = c; steps = 0; few = omega arith; goes = stays; holds = record { next = h.next; comes = h.comes; starts = starts_among p deepest ks F b M n u (label [] None k ∷ K) K h.next σ refl h.starts; iterators = h.iterators } }

  -- Sources: what they push, and what they are as operands.

  abbrev pub SourceFits : ℕ → Source → Type 0
  SourceFits most (Standing i) = HolderFits p deepest ks F b M n i
  SourceFits most (Constant z) = nat_le (unsigned_abs z) most ≡ true

  source_ok : (vs : List Cell) (K : List Label) (k : Instructions) → (m : ℕ) (s : Source) (t u w : ℕ) (l : Locals) (σ : State) → SourceFits m s → length ks ≡ b.parameters → Fit p deepest ks F t u w l σ →
      Goes (machine p deepest ks F) (source_steps s) (at ks vs K (laid b l) F (source_pushed (layout p deepest ks F b M n) s k) (beside_state p deepest ks F σ)) (at ks (Bits (I64 (word_of (words l σ) s)) ∷ vs) K (laid b l) F k (beside_state p deepest ks F σ))
  source_ok vs K k m (Standing i) t u w l σ h pk ft = name_got p deepest ks F b M n vs K k i t u w l σ h pk ft
  source_ok vs K k m (Constant z) t u w l σ h pk ft = stays

  pub source_unboxed : (m : ℕ) (s : Source) (is : List Holder) → SourceFits m s → AllUnboxed p deepest ks F b M n is → AllUnboxed p deepest ks F b M n (and_source s is)
  source_unboxed m (Standing i) is hs h = name_unboxed p deepest ks F b M n i is hs h
  source_unboxed m (Constant z) is hs h = h

  -- a source as an operand
  pub record Operand (W : Words) (s : Source) (σ : State) (most : ℕ) : Type 0 where
    pub number : AnyNumber
    pub num : num_of s σ ≡ Ok number
    pub few : unsigned_abs number.number ≤ most
    pub words : word_of W s ≡ number_word number
    pub side : numeric_side (val_of s σ) ≡ Some (Ok number.number)

  pub operand : (W : Words) (s : Source) (is : List Holder) (c w : ℕ) (σ : State) → w ≤ c + c → SourceFits c s → c ≤ 2 ^ 53 → StandsAmong s is → AllSure W σ (pos c) w is → Operand W s σ c
  operand W (Standing i) is c w σ hw hf hc h a =
      let both = among_sure W i is (pos c) w σ h a in
      let s = both.0 in
      record {
        number = s.number;
        num = own_number p deepest ks F b M (holder_value i σ) s.number s.value;
        few = let x = s.sum in let y = s.few in grind (arith, ints, x, y, hw);
        words = both.1 ∙ (ap bare s.value ∙ bare_number s.number);
        side = ap numeric_side s.value;
      }
  operand W (Constant z) is c w σ hw hf hc h a =
      let le = leb-true (unsigned_abs z) c hf in
      let nz = or_zero (number_of z) in
      let e : nz.number ≡ z = nought_number z (le-leb (unsigned_abs z) (2 ^ 53) (omega (arith, le, hc))) in
      record { number = nz; num = refl; few = subst (λ x. unsigned_abs x ≤ c) (sym e) le; words = ap word (sym e); side = refl }

  -- Comparisons of two sources.

  pub record PairIs (e : Code) (q : Pair) : Type 0 where
    pub left : SourceFits (2 ^ 53) q.left
    pub right : SourceFits (2 ^ 53) q.right
    pub means : (σ : State) (t : Bool) → comparison (val_of q.left σ) (val_of q.right σ) q.op ≡ Ok t → test_meant p deepest ks F b M n e σ ≡ Gives t σ

  pair_means : (c : CompareOp) (a e : Source) (σ : State) → test_meant p deepest ks F b M n (Compare c (source_code a) (source_code e)) σ ≡ go_on (settled (comparison (val_of a σ) (val_of e σ) c) σ) (λ x. give x)
  unfolding evaluated all_evaluated
  pair_means c (Standing (OfName j)) (Standing (OfName k)) σ = refl
  pair_means c (Standing (OfName j)) (Standing (OfParameter k)) σ = refl
  pair_means c (Standing (OfName j)) (Constant z) σ = refl
  pair_means c (Standing (OfParameter j)) (Standing (OfName k)) σ = refl
  pair_means c (Standing (OfParameter j)) (Standing (OfParameter k)) σ = refl
  pair_means c (Standing (OfParameter j)) (Constant z) σ = refl
  pair_means c (Constant y) (Standing (OfName k)) σ = refl
  pair_means c (Constant y) (Standing (OfParameter k)) σ = refl
  pair_means c (Constant y) (Constant z) σ = refl

  range_fits : (fs : List Form) (s : Source) → sorted (context p deepest ks F b M n) fs (source_code s) ≡ true → SourceFits (2 ^ 53) s
  unfolding sorted all_sorted
  range_fits fs (Standing i) so = slot_fits p deepest ks F b M n i so
  range_fits fs (Constant z) so = so

  pub pair_is : (e : Code) (q : Pair) → pair_in e ≡ Some q → sorted (context p deepest ks F b M n) [] e ≡ true → PairIs e q
  pair_is (Compare c x y) q eq so = by (source_in x) refl (source_in y) refl eq
    where
      by : (o : Option Source) → source_in x ≡ o → (r : Option Source) → source_in y ≡ r → pair_of c o r ≡ Some q → PairIs (Compare c x y) q
      by (Some a) e1 (Some e) e2 eq =
          subst (λ t. sorted (context p deepest ks F b M n) [] t ≡ true → PairIs t q) (sym (ap₂ (λ x y. Compare c x y) (source_is x a e1) (source_is y e e2)))
          (λ so1.
          let s = pair_sorted c (source_code a) (source_code e) so1 in
          subst (PairIs (Compare c (source_code a) (source_code e))) (some_is _ q eq)
          (record { left = range_fits [] a s.0; right = range_fits [] e s.1; means = λ σ t h. pair_means c a e σ ∙ ap (λ r. go_on (settled r σ) (λ x. give x)) h })) so
      by (Some a) e1 None e2 eq = none_is eq
      by None e1 r e2 eq = none_is eq
  pair_is e q eq so = none_is eq

  pub pair_unboxed : (e : Code) (q : Pair) → PairIs e q → AllUnboxed p deepest ks F b M n (pair_names q)
  pair_unboxed e q t = source_unboxed (2 ^ 53) q.left (and_source q.right []) t.left (source_unboxed (2 ^ 53) q.right [] t.right tt)

  -- Comparisons with how many fields there are.

  pub record CountedIs (e : Code) (q : Counted) : Type 0 where
    pub kind : HolderFits p deepest ks F b M n q.name
    pub means : (σ : State) (m : AnyNumber) → holder_value q.name σ ≡ value.Num m.number → test_meant p deepest ks F b M n e σ ≡ Gives (holds q.op (int_cmp m.number (pos (length σ.shared.inner.fields)))) σ

  abbrev count_code : CompareOp → Holder → Code
  count_code c i = Compare c (Get (holder_slot i)) (Do (Host row.GetSpecial) (Fixed (special_number Nf) End))

  count_means : (c : CompareOp) (i : Holder) (m : AnyNumber) (σ : State) → holder_value i σ ≡ value.Num m.number → test_meant p deepest ks F b M n (count_code c i) σ ≡ Gives (holds c (int_cmp m.number (pos (length σ.shared.inner.fields)))) σ
  unfolding evaluated all_evaluated
  count_means c (OfName i) m σ ev =
      let v = value.Num (pos (length σ.shared.inner.fields)) in
      ap (λ τ. go_on (settled (comparison (global_value i σ) v c) τ) (λ x. give x)) (same_state σ v)
      ∙ ap (λ x. go_on (settled (comparison x v c) σ) (λ y. give y)) ev
  count_means c (OfParameter i) m σ ev =
      let v = value.Num (pos (length σ.shared.inner.fields)) in
      ap (λ τ. go_on (settled (comparison (local_value i σ) v c) τ) (λ x. give x)) (same_state σ v)
      ∙ ap (λ x. go_on (settled (comparison x v c) σ) (λ y. give y)) ev

  count_of : (e : Code) → field_count e ≡ true → e ≡ Do (Host row.GetSpecial) (Fixed (special_number Nf) End)
  count_of (Do (Host row.GetSpecial) (Fixed m End)) h = ap (λ (z : ℕ). Do (Host row.GetSpecial) (Fixed z End)) (eqb-true m (special_number Nf) h)
  count_of e h = cc

  pub counted_is : (e : Code) (q : Counted) → counted_in e ≡ Some q → sorted (context p deepest ks F b M n) [] e ≡ true → CountedIs e q
  counted_is (Compare c x y) q eq so = by (name_in x) refl (field_count y) refl eq
    where
      by : (o : Option Holder) → name_in x ≡ o → (t : Bool) → field_count y ≡ t → counted_of c o t ≡ Some q → CountedIs (Compare c x y) q
      by (Some i) e1 true e2 eq =
          subst (λ z. sorted (context p deepest ks F b M n) [] z ≡ true → CountedIs z q) (sym (ap₂ (λ a g. Compare c a g) (name_is x i e1) (count_of y e2)))
          (λ so1.
          let s = pair_sorted c (Get (holder_slot i)) (Do (Host row.GetSpecial) (Fixed (special_number Nf) End)) so1 in
          subst (CountedIs (count_code c i)) (some_is _ q eq)
          (record { kind = range_fits [] (Standing i) s.0; means = λ σ m ev. count_means c i m σ ev })) so
      by (Some i) e1 false e2 eq = none_is eq
      by None e1 t e2 eq = none_is eq
  counted_is e q eq so = none_is eq

  -- both ways of a comparison
  module _ (e : Code) (ok : ExprOk p deepest ks F b M n e) (u d out : ℕ) (k : Instructions) (K : List Label) (l : Locals) (σ : State) (so : test_sorted (context p deepest ks F b M n) e ≡ true) (rm : room e ≤ b.temporaries) (ar : arrays_in e ≤ b.arrays) (s : Starts p deepest ks F b M n u K l σ) where
    abbrev PS : Store
    PS = beside_state p deepest ks F σ

    abbrev PK : List Label
    PK = label [] None k ∷ K

    abbrev pair_slow : Instructions
    pair_slow = tested (layout p deepest ks F b M n) [] [] e zero zero (suc d) (emit (Test I32 Eqz) (emit (BrIf (suc out)) NoMore))

    slow_way : Reached p deepest ks F b M (work_of e + 17) σ.turns (at ks [] PK (laid b l) F pair_slow PS) (Left out k K u l) (Away p deepest ks F b d K) (test_meant p deepest ks F b M n e σ)
    slow_way =
        within (machine p deepest ks F) M ((work_of e + 16) + 1) (work_of e + 17) σ.turns _ (Left out k K u l) (Away p deepest ks F b d K) (test_meant p deepest ks F b M n e σ) (omega arith)
        (blocked p deepest ks F b M (work_of e + 16) σ.turns d k K _ (Left (suc out) NoMore PK u l) (Left out k K u l) (test_meant p deepest ks F b M n e σ) (λ x τ c h. left_closes out u k K l x τ c h)
        (plain_ok e ok u (suc d) (suc out) NoMore PK l σ so rm ar (starts_among p deepest ks F b M n u K PK l σ refl s)))

    -- the last step of a comparison
    leaves_if : (z : Bool) → (j : ℕ) × (j ≤ 2) × Goes (machine p deepest ks F) j (at ks (Bits (flag (not z)) ∷ []) PK (laid b l) F (emit (BrIf (suc out)) NoMore) PS) (way_of z (at ks [] K (laid b l) F k PS) (br out ks K (laid b l) F PS))
    leaves_if true = (2, omega arith, by_steps 2 refl)
    leaves_if false = (1, omega arith, by_steps 1 refl)

    fast_way : (q : Pair) → PairIs e q → AllSure (words l σ) σ (pos (2 ^ 53)) (2 ^ 54) (pair_names q) →
        Reached p deepest ks F b M (work_of e + 17) σ.turns (at ks [] PK (laid b l) F (pair_left (layout p deepest ks F b M n) q (suc out) NoMore) PS) (Left out k K u l) (Away p deepest ks F b d K) (test_meant p deepest ks F b M n e σ)
    fast_way q t a =
        let o1 = operand (words l σ) q.left (pair_names q) (2 ^ 53) (2 ^ 54) σ (omega arith) t.left (omega arith) (source_among q.left (and_source q.right [])) a in
        let o2 = operand (words l σ) q.right (pair_names q) (2 ^ 53) (2 ^ 54) σ (omega arith) t.right (omega arith) (source_beside q.right q.left (and_source q.right []) (source_among q.right [])) a in
        let z = holds q.op (int_cmp o1.number.number o2.number.number) in
        let c : comparison (val_of q.left σ) (val_of q.right σ) q.op ≡ Ok z = ap₂ (λ x y. held q.op (order_by (val_of q.left σ) (val_of q.right σ) x y)) o1.side o2.side in
        let f : compare_at w64 (relation (contrary q.op)) (word_of (words l σ) q.left) (word_of (words l σ) q.right) ≡ not z =
        ap₂ (compare_at w64 (relation (contrary q.op))) o1.words o2.words ∙ (words_compared o1.number o2.number (contrary q.op) ∙ contrary_holds q.op (int_cmp o1.number.number o2.number.number)) in
        let w = leaves_if z in
        let w1 = w.1 in
        let f1 = one_few q.left in
        let f2 = one_few q.right in
        subst (λ o. Reached p deepest ks F b M (work_of e + 17) σ.turns (at ks [] PK (laid b l) F (pair_left (layout p deepest ks F b M n) q (suc out) NoMore) PS) (Left out k K u l) (Away p deepest ks F b d K) o) (sym (t.means σ z c))
        (there (machine p deepest ks F) M (work_of e + 17) (source_steps q.left + (source_steps q.right + (1 + w.0))) _ _ z σ (Left out k K u l) (Away p deepest ks F b d K)
        (then_goes (source_ok _ _ _ (2 ^ 53) q.left 0 u 0 l σ t.left s.parameters s.fit) (then_goes (source_ok _ _ _ (2 ^ 53) q.right 0 u 0 l σ t.right s.parameters s.fit)
        (then_goes (goes_to (by_steps 1 refl) (ap (λ x. at ks (Bits (flag x) ∷ []) PK (laid b l) F (emit (BrIf (suc out)) NoMore) PS) f)) w.2))) (omega (arith, w1, f1, f2))
        (record { next = l; comes = refl; starts = s; iterators = λ y. refl }))

    -- how many fields there are is in range
    fields_number : AnyNumber
    fields_number =
        let few : length σ.shared.inner.fields ≤ 2 ^ 20 = s.fit.sound.calm.few in
        record { number = pos (length σ.shared.inner.fields); in_range = subst T (sym (le-leb (length σ.shared.inner.fields) (2 ^ 53) (omega (arith, few)))) tt }

    -- both numbers are there, and are compared
    count_way : (q : Counted) → CountedIs e q → (m : AnyNumber) → holder_value q.name σ ≡ value.Num m.number → words l σ q.name ≡ bare (holder_value q.name σ) →
        Reached p deepest ks F b M (work_of e + 17) σ.turns (at ks [] PK (laid b l) F (counted_left (layout p deepest ks F b M n) q (suc out) NoMore) PS) (Left out k K u l) (Away p deepest ks F b d K) (test_meant p deepest ks F b M n e σ)
    unfolding fields_number
    count_way q t m ev ew =
        let mach = machine p deepest ks F in
        let f = fields_number in
        let z = holds q.op (int_cmp m.number f.number) in
        let v = value.Num f.number in
        let x = Bits (I64 (number_word m)) in
        let w = leaves_if z in
        let w1 = w.1 in
        let k2 = emit (Comparing wide.I64 (relation (contrary q.op))) (emit (BrIf (suc out)) NoMore) in
        let c : compare_at w64 (relation (contrary q.op)) (number_word m) (number_word f) ≡ not z = words_compared m f (contrary q.op) ∙ contrary_holds q.op (int_cmp m.number f.number) in
        subst (λ o. Reached p deepest ks F b M (work_of e + 17) σ.turns (at ks [] PK (laid b l) F (counted_left (layout p deepest ks F b M n) q (suc out) NoMore) PS) (Left out k K u l) (Away p deepest ks F b d K) o) (sym (t.means σ m ev))
        (there mach M (work_of e + 17) (1 + (1 + (1 + (1 + w.0)))) _ _ z σ (Left out k K u l) (Away p deepest ks F b d K)
        (then_goes (goes_to (name_got p deepest ks F b M n _ _ _ q.name 0 u 0 l σ t.kind s.parameters s.fit) (ap (λ g. at ks (Bits (I64 g) ∷ []) PK (laid b l) F (emit (I32Const (special_number Nf)) (ask_row row.GetSpecial (ask_row row.ToNum k2))) PS) (ew ∙ (ap bare ev ∙ bare_number m))))
        (then_goes (goes_to (row_called p deepest ks F row.GetSpecial (Nf, tt) (Bits (word.I32 (special_number Nf)) ∷ []) (x ∷ []) σ refl refl refl refl refl)
        (ap (λ τ. at ks (Held v ∷ (x ∷ [])) PK (laid b l) F (ask_row row.ToNum k2) (beside_state p deepest ks F τ)) (same_state σ v)))
        (then_goes (goes_to (ask_to_num p deepest ks F (x ∷ []) σ v) (ap (λ (o : Result AnyNumber Fault). at ks (reply (answer.Of sort.Number) o (x ∷ [])) PK (laid b l) F k2 (after_reply p deepest ks F o σ)) (own_number p deepest ks F b M v f refl)))
        (then_goes (goes_to (by_steps 1 refl) (ap (λ g. at ks (Bits (flag g) ∷ []) PK (laid b l) F (emit (BrIf (suc out)) NoMore) PS) c)) w.2)))) (omega (arith, w1))
        (record { next = l; comes = refl; starts = s; iterators = λ y. refl }))

    count_chosen : (q : Counted) → CountedIs e q → (f : Bool) → compare_at w64 LeS (words l σ q.name) text_beside ≡ f → WordFits (words l σ q.name) (holder_value q.name σ) → BareOf (holder_value q.name σ) →
        Reached p deepest ks F b M (work_of e + 17) σ.turns (at ks [] PK (laid b l) F (cond (nat_eq (if f then 1 else 0) 0) (counted_left (layout p deepest ks F b M n) q (suc out) NoMore) pair_slow) PS) (Left out k K u l) (Away p deepest ks F b d K) (test_meant p deepest ks F b M n e σ)
    count_chosen q t true eq wf is = slow_way
    count_chosen q t false eq (inr ew) is = absurd (true≢false (sym (ap (λ y. compare_at w64 LeS y text_beside) ew) ∙ eq))
    count_chosen q t false eq (inl ew) (IsBeside eb eh) = absurd (true≢false (sym (ap (λ y. compare_at w64 LeS y text_beside) (ew ∙ eb)) ∙ eq))
    count_chosen q t false eq (inl ew) (IsNone ev eb eh) = absurd (true≢false (sym (ap (λ y. compare_at w64 LeS y text_beside) (ew ∙ eb)) ∙ eq))
    count_chosen q t false eq (inl ew) (IsNumber m ev eb eh) = count_way q t m ev ew

    counted : (o : Option Counted) → counted_in e ≡ o → Reached p deepest ks F b M (work_of e + 24) σ.turns (at ks [] K (laid b l) F (left_unless_counted (layout p deepest ks F b M n) o e d out k) PS) (Left out k K u l) (Away p deepest ks F b d K) (test_meant p deepest ks F b M n e σ)
    counted None eq = within (machine p deepest ks F) M (work_of e + 16) (work_of e + 24) σ.turns _ (Left out k K u l) (Away p deepest ks F b d K) (test_meant p deepest ks F b M n e σ) (omega arith) (plain_ok e ok u d out k K l σ so rm ar s)
    counted (Some q) eq =
        let t = counted_is e q eq (and_parts (is_tested (form_of [] e)) (sorted (context p deepest ks F b M n) [] e) so).1 in
        let f = compare_at w64 LeS (words l σ q.name) text_beside in
        first (machine p deepest ks F) M 3 (work_of e + 17) (work_of e + 24) σ.turns _ _ (Left out k K u l) (Away p deepest ks F b d K) (test_meant p deepest ks F b M n e σ)
        (then_goes (name_got p deepest ks F b M n _ _ _ q.name 0 u 0 l σ t.kind s.parameters s.fit) (then_goes (by_steps 1 refl) (chooses pair_slow (counted_left (layout p deepest ks F b M n) q (suc out) NoMore) (if f then 1 else 0)))) (omega arith)
        (count_chosen q t f refl (words_fit p deepest ks F b M n q.name 0 u 0 l σ t.kind s.fit) (bare_is (holder_value q.name σ)))

    pub left_unless_pair_ok : Reached p deepest ks F b M (work_of e + 24) σ.turns (at ks [] K (laid b l) F (left_unless_pair (layout p deepest ks F b M n) (pair_in e) e d out k) PS) (Left out k K u l) (Away p deepest ks F b d K) (test_meant p deepest ks F b M n e σ)
    left_unless_pair_ok = by (pair_in e) refl
      where
        chosen : (q : Pair) → PairIs e q → (f : Bool) → all_flag (words l σ) (pos (2 ^ 53)) (2 ^ 54) (pair_names q) ≡ f →
            Reached p deepest ks F b M (work_of e + 17) σ.turns (at ks [] PK (laid b l) F (cond (nat_eq (if f then 1 else 0) 0) (pair_left (layout p deepest ks F b M n) q (suc out) NoMore) pair_slow) PS) (Left out k K u l) (Away p deepest ks F b d K) (test_meant p deepest ks F b M n e σ)
        chosen q t true eq = slow_way
        chosen q t false eq = fast_way q t (all_sure (words l σ) (pair_names q) (pos (2 ^ 53)) (2 ^ 54) σ (all_words p deepest ks F b M n (pair_names q) 0 u 0 l σ (pair_unboxed e q t) s.fit) (omega arith) (omega arith) eq)

        by : (o : Option Pair) → pair_in e ≡ o → Reached p deepest ks F b M (work_of e + 24) σ.turns (at ks [] K (laid b l) F (left_unless_pair (layout p deepest ks F b M n) o e d out k) PS) (Left out k K u l) (Away p deepest ks F b d K) (test_meant p deepest ks F b M n e σ)
        by None eq = counted (counted_in e) refl
        by (Some q) eq =
            let t = pair_is e q eq (and_parts (is_tested (form_of [] e)) (sorted (context p deepest ks F b M n) [] e) so).1 in
            let un = source_unboxed (2 ^ 53) q.left (and_source q.right []) t.left (source_unboxed (2 ^ 53) q.right [] t.right tt) in
            let fw = two_few q.left q.right in
            first (machine p deepest ks F) M (all_steps (pair_names q) + 1) (work_of e + 17) (work_of e + 24) σ.turns _ _ (Left out k K u l) (Away p deepest ks F b d K) (test_meant p deepest ks F b M n e σ)
            (then_goes (all_unsure_ok p deepest ks F b M n _ _ (pair_names q) (pos (2 ^ 53)) (2 ^ 54) 0 u 0 l σ un s.parameters s.fit) (chooses pair_slow (pair_left (layout p deepest ks F b M n) q (suc out) NoMore) (if all_flag (words l σ) (pos (2 ^ 53)) (2 ^ 54) (pair_names q) then 1 else 0))) (omega (arith, fw))
            (chosen q t (all_flag (words l σ) (pos (2 ^ 53)) (2 ^ 54) (pair_names q)) refl)

  -- any test
  pub left_unless_ok : (e : Code) → ExprOk p deepest ks F b M n e → (u d out : ℕ) (k : Instructions) (K : List Label) (l : Locals) (σ : State) → test_sorted (context p deepest ks F b M n) e ≡ true → room e ≤ b.temporaries → arrays_in e ≤ b.arrays → Starts p deepest ks F b M n u K l σ →
      Reached p deepest ks F b M (work_of e + 24) σ.turns (at ks [] K (laid b l) F (left_unless (layout p deepest ks F b M n) (test_within e) e d out k) (beside_state p deepest ks F σ)) (Left out k K u l) (Away p deepest ks F b d K) (test_meant p deepest ks F b M n e σ)
  left_unless_ok e ok u d out k K l σ so rm ar s = by (test_within e) refl
    where
      S : Store
      S = beside_state p deepest ks F σ

      K1 : List Label
      K1 = label [] None k ∷ K

      slow : Instructions
      slow = tested (layout p deepest ks F b M n) [] [] e zero zero (suc d) (emit (Test I32 Eqz) (emit (BrIf (suc out)) NoMore))

      chosen : (q : Within) → TestIs e q → (f : Bool) → nat_lt q.width (shift_word (words l σ) q.shift q.name) ≡ f →
          Reached p deepest ks F b M (work_of e + 17) σ.turns (at ks [] K1 (laid b l) F (cond (nat_eq (if f then 1 else 0) 0) NoMore slow) S) (Left out k K u l) (Away p deepest ks F b d K) (test_meant p deepest ks F b M n e σ)
      chosen q t true eq =
          within (machine p deepest ks F) M ((work_of e + 16) + 1) (work_of e + 17) σ.turns _ (Left out k K u l) (Away p deepest ks F b d K) (test_meant p deepest ks F b M n e σ) (omega arith)
          (blocked p deepest ks F b M (work_of e + 16) σ.turns d k K _ (Left (suc out) NoMore K1 u l) (Left out k K u l) (test_meant p deepest ks F b M n e σ) (λ x τ c h. left_closes out u k K l x τ c h)
          (plain_ok e ok u (suc d) (suc out) NoMore K1 l σ so rm ar (starts_among p deepest ks F b M n u K K1 l σ refl s)))
      chosen q t false eq =
          subst (λ o. Reached p deepest ks F b M (work_of e + 17) σ.turns (at ks [] K1 (laid b l) F NoMore S) (Left out k K u l) (Away p deepest ks F b d K) o) (sym (t.means σ (one_sure (words l σ q.name) (holder_value q.name σ) q.shift q.width (words_fit p deepest ks F b M n q.name 0 u 0 l σ t.kind s.fit) t.shift t.width (ltb-false q.width (shift_word (words l σ) q.shift q.name) eq)).0))
          (there (machine p deepest ks F) M (work_of e + 17) 1 _ _ true σ (Left out k K u l) (Away p deepest ks F b d K) closes (omega arith) (record { next = l; comes = refl; starts = s; iterators = λ y. refl }))

      by : (o : Option Within) → test_within e ≡ o → Reached p deepest ks F b M (work_of e + 24) σ.turns (at ks [] K (laid b l) F (left_unless (layout p deepest ks F b M n) o e d out k) S) (Left out k K u l) (Away p deepest ks F b d K) (test_meant p deepest ks F b M n e σ)
      by None eq = left_unless_pair_ok e ok u d out k K l σ so rm ar s
      by (Some q) eq =
          let t = test_is e q eq (and_parts (is_tested (form_of [] e)) (sorted (context p deepest ks F b M n) [] e) so).1 in
          first (machine p deepest ks F) M 4 (work_of e + 17) (work_of e + 24) σ.turns _ _ (Left out k K u l) (Away p deepest ks F b d K) (test_meant p deepest ks F b M n e σ)
          (then_goes (unsure_ok _ _ q.name q.shift q.width u l σ t.kind s.parameters s.fit) (chooses slow NoMore (if nat_lt q.width (shift_word (words l σ) q.shift q.name) then 1 else 0))) (omega arith)
          (chosen q t (nat_lt q.width (shift_word (words l σ) q.shift q.name)) refl)

  -- Sums.

  pub record SumIs (e : Code) (s : Sum) : Type 0 where
    pub kind : HolderTakes p deepest ks F b M n s.target
    pub left : SourceFits (2 ^ 52) s.left
    pub right : SourceFits (2 ^ 52) s.right
    pub sum : is_sum s.op ≡ true
    pub means : (σ : State) (m1 m2 y : AnyNumber) → num_of s.left σ ≡ Ok m1 → num_of s.right σ ≡ Ok m2 → outcome_of (arithmetic_of s.op m1.number m2.number) ≡ Ok y →
        plain_meant p deepest ks F b M n (Eval e) σ ≡ Gives Normal (stored_in (holder_slot s.target) (value.Num y.number) σ)
    pub room : 2 ≤ room e
    pub whole : (σ : State) → plain_meant p deepest ks F b M n (Eval e) σ ≡ two_summed s.target s.op σ (num_of s.left σ) (num_of s.right σ)

  pub near_fits : (fs : List Form) (s : Source) → sorted (context p deepest ks F b M n) fs (source_code s) ≡ true → is_near s ≡ true → SourceFits (2 ^ 52) s
  unfolding sorted all_sorted
  near_fits fs (Standing i) so h = slot_fits p deepest ks F b M n i so
  near_fits fs (Constant z) so h = h

  -- `n = a + e`

  set_is : (i : Holder) (o : Arithmetic) (x y : Code) (s : Sum) → sum_of i o (source_in x) (source_in y) ≡ Some s → sorted (context p deepest ks F b M n) [] (set_code i o x y) ≡ true → SumIs (set_code i o x y) s
  set_is i o x y s eq so = by (source_in x) refl (source_in y) refl eq
    where
      by : (q : Option Source) → source_in x ≡ q → (r : Option Source) → source_in y ≡ r → sum_of i o q r ≡ Some s → SumIs (set_code i o x y) s
      by (Some a) e1 (Some e) e2 eq =
          subst (λ t. sorted (context p deepest ks F b M n) [] t ≡ true → SumIs t s) (sym (ap₂ (set_code i o) (source_is x a e1) (source_is y e e2)))
          (λ so1.
          let g = near_sum i o a e s eq in
          let h = set_sorted p deepest ks F b M n [] i o (source_code a) (source_code e) so1 in
          subst (SumIs (set_code i o (source_code a) (source_code e))) g.1
          (record { kind = h.kind; left = near_fits [] a h.first_one g.0.1; right = near_fits [] e h.second g.0.2; sum = g.0.0; means = λ σ m1 m2 y z1 z2 z. set_means p deepest ks F b M n i o a e σ ∙ summed_means p deepest ks F b M n i o σ (num_of a σ) (num_of e σ) m1 m2 y z1 z2 z; room = omega arith; whole = λ σ. set_means p deepest ks F b M n i o a e σ })) so
      by (Some a) e1 None e2 eq = none_is eq
      by None e1 r e2 eq = none_is eq

  -- `n += e`

  abbrev update_code : Holder → Arithmetic → Code → Code → Code
  update_code i o a x = Let a (set_code i o x (Bound true zero))

  update_means : (i : Holder) (o : Arithmetic) (a e : Source) (σ : State) → plain_meant p deepest ks F b M n (Eval (update_code i o (source_code e) (source_code a))) σ ≡ two_summed i o σ (num_of a σ) (num_of e σ)
  unfolding evaluated all_evaluated stepped
  update_means i o (Standing (OfName j)) (Standing (OfName k)) σ = refl
  update_means i o (Standing (OfName j)) (Standing (OfParameter k)) σ = refl
  update_means i o (Standing (OfName j)) (Constant z) σ = refl
  update_means i o (Standing (OfParameter j)) (Standing (OfName k)) σ = refl
  update_means i o (Standing (OfParameter j)) (Standing (OfParameter k)) σ = refl
  update_means i o (Standing (OfParameter j)) (Constant z) σ = refl
  update_means i o (Constant y) (Standing (OfName k)) σ = refl
  update_means i o (Constant y) (Standing (OfParameter k)) σ = refl
  update_means i o (Constant y) (Constant z) σ = refl

  update_sorted : (i : Holder) (o : Arithmetic) (a x : Code) → sorted (context p deepest ks F b M n) [] (update_code i o a x) ≡ true → Parts p deepest ks F b M n i (form_of [] a ∷ []) x [] a
  unfolding sorted all_sorted
  update_sorted i o a x so =
      let ctx = context p deepest ks F b M n in
      let f = form_of [] a in
      let c = set_code i o x (Bound true zero) in
      let s = and_parts (is_kept f) (keeps_well c && (sorted ctx [] a && sorted ctx (f ∷ []) c)) so in
      let s1 = and_parts (keeps_well c) (sorted ctx [] a && sorted ctx (f ∷ []) c) s.1 in
      let s2 = and_parts (sorted ctx [] a) (sorted ctx (f ∷ []) c) s1.1 in
      let h = set_sorted p deepest ks F b M n (f ∷ []) i o x (Bound true zero) s2.1 in
      record { kind = h.kind; first_one = h.first_one; second = s2.0; fits_second = h.fits_second }

  update_is : (i : Holder) (o : Arithmetic) (a x : Code) (s : Sum) → sum_of i o (source_in x) (source_in a) ≡ Some s → sorted (context p deepest ks F b M n) [] (update_code i o a x) ≡ true → SumIs (update_code i o a x) s
  update_is i o a x s eq so = by (source_in x) refl (source_in a) refl eq
    where
      by : (q : Option Source) → source_in x ≡ q → (r : Option Source) → source_in a ≡ r → sum_of i o q r ≡ Some s → SumIs (update_code i o a x) s
      by (Some l) e1 (Some e) e2 eq =
          subst (λ t. sorted (context p deepest ks F b M n) [] t ≡ true → SumIs t s) (sym (ap₂ (λ u v. update_code i o v u) (source_is x l e1) (source_is a e e2)))
          (λ so1.
          let g = near_sum i o l e s eq in
          let h = update_sorted i o (source_code e) (source_code l) so1 in
          subst (SumIs (update_code i o (source_code e) (source_code l))) g.1
          (record { kind = h.kind; left = near_fits (form_of [] (source_code e) ∷ []) l h.first_one g.0.1; right = near_fits [] e h.second g.0.2; sum = g.0.0; means = λ σ m1 m2 y z1 z2 z. update_means i o l e σ ∙ summed_means p deepest ks F b M n i o σ (num_of l σ) (num_of e σ) m1 m2 y z1 z2 z; room = omega arith; whole = λ σ. update_means i o l e σ })) so
      by (Some l) e1 None e2 eq = none_is eq
      by None e1 r e2 eq = none_is eq

  -- `n++`

  abbrev old_code : Holder → Arithmetic → Code → Code → Code
  old_code i o a z = Let (Do AsNumber (At a End)) (Let (Do (Inline o) (At (Bound false zero) (At z End))) (Seq (Set (holder_slot i) (Bound true zero)) (Bound true (suc zero))))

  abbrev old_summed : Holder → Arithmetic → State → Result AnyNumber Fault → Result AnyNumber Fault → Outcome Flow
  old_summed i o σ r1 r2 =
      go_on (go_on (go_on {A = AnyNumber × Unit {0}} {B = AnyNumber} (settled (then_row {A = AnyNumber} {B = AnyNumber × Unit {0}} r1 (λ x. Ok (x, tt))) σ) (λ given. give given.0))
      (λ x τ. go_on (go_on {A = Two} {B = AnyNumber} (settled (then_row {A = AnyNumber × Unit {0}} {B = Two} (then_row {A = AnyNumber} {B = AnyNumber × Unit {0}} r2 (λ z. Ok (z, tt))) (λ zs. Ok (x, zs))) τ)
      (λ given. settled (outcome_of (arithmetic_of o given.0.number given.1.0.number)))) (λ y. (store_slot (holder_slot i) (value.Num y.number) >> give y) >> give x))) (λ y. give Normal)

  abbrev old_stored : Holder → AnyNumber → State → Result AnyNumber Fault → Outcome Flow
  old_stored i x σ r = go_on (go_on (settled r σ) (λ y. (store_slot (holder_slot i) (value.Num y.number) >> give y) >> give x)) (λ y. give Normal)

  old_means : (i : Holder) (o : Arithmetic) (a : Source) (z : ℤ) (σ : State) → plain_meant p deepest ks F b M n (Eval (old_code i o (source_code a) (Number z))) σ ≡ old_summed i o σ (num_of a σ) (num_of (Constant z) σ)
  unfolding evaluated all_evaluated stepped
  old_means i o (Standing (OfName j)) z σ = refl
  old_means i o (Standing (OfParameter j)) z σ = refl
  old_means i o (Constant y) z σ = refl

  old_same : (i : Holder) (o : Arithmetic) (σ : State) (r1 r2 : Result AnyNumber Fault) → old_summed i o σ r1 r2 ≡ two_summed i o σ r1 r2
  old_same i o σ (Ok x) (Ok z) = by i (outcome_of (arithmetic_of o x.number z.number))
    where
      by : (i : Holder) (r : Result AnyNumber Fault) → old_stored i x σ r ≡ sum_stored i σ r
      by (OfName j) (Ok y) = refl
      by (OfParameter j) (Ok y) = refl
      by i (Err f) = refl
  old_same i o σ (Ok x) (Err f) = refl
  old_same i o σ (Err f) r2 = refl

  old_normal : (i : Holder) (x y : AnyNumber) (σ : State) → old_stored i x σ (Ok y) ≡ Gives Normal (stored_in (holder_slot i) (value.Num y.number) σ)
  old_normal (OfName j) x y σ = refl
  old_normal (OfParameter j) x y σ = refl

  old_sorted : (i : Holder) (o : Arithmetic) (a z : Code) → sorted (context p deepest ks F b M n) [] (old_code i o a z) ≡ true → Parts p deepest ks F b M n i [] a (a_number ∷ []) z
  unfolding sorted all_sorted
  old_sorted i o a z so =
      let ctx = context p deepest ks F b M n in
      let c = Seq (Set (holder_slot i) (Bound true zero)) (Bound true (suc zero)) in
      let d = Do (Inline o) (At (Bound false zero) (At z End)) in
      let fs = a_number ∷ [] in
      let fa = fits_sort (form_of [] a) sort.Number && true in
      let fz = fits_sort (form_of fs z) sort.Number && true in
      let s = and_parts (keeps_well (Let d c)) ((fa && (sorted ctx [] a && true)) && sorted ctx fs (Let d c)) so in
      let s1 = and_parts (fa && (sorted ctx [] a && true)) (sorted ctx fs (Let d c)) s.1 in
      let s2 = and_parts fa (sorted ctx [] a && true) s1.0 in
      let s3 = and_parts (sorted ctx [] a) true s2.1 in
      let t = and_parts (keeps_well c) (sorted ctx fs d && sorted ctx (a_number ∷ fs) c) s1.1 in
      let t1 = and_parts (sorted ctx fs d) (sorted ctx (a_number ∷ fs) c) t.1 in
      let t2 = and_parts fz (sorted ctx fs z && true) t1.0 in
      let t3 = and_parts (sorted ctx fs z) true t2.1 in
      let gs = a_number ∷ fs in
      let own = is_slot ctx (holder_slot i) in
      let tk = takes ctx (holder_slot i) None (form_of gs (Bound true zero)) && sorted ctx gs (Bound true zero) in
      let w = and_parts (own && tk) (sorted ctx gs (Bound true (suc zero))) t1.1 in
      let ot = and_parts own tk w.0 in
      record { kind = slot_takes p deepest ks F b M n i None (form_of gs (Bound true zero)) ot.0 (and_parts (takes ctx (holder_slot i) None (form_of gs (Bound true zero))) _ ot.1).0; first_one = s3.0; second = t3.0; fits_second = (and_parts (fits_sort (form_of fs z) sort.Number) true t2.0).0 }

  old_is : (i : Holder) (o : Arithmetic) (a : Code) (z : ℤ) (s : Sum) → sum_of i o (source_in a) (Some (Constant z)) ≡ Some s → sorted (context p deepest ks F b M n) [] (old_code i o a (Number z)) ≡ true → SumIs (old_code i o a (Number z)) s
  old_is i o a z s eq so = by (source_in a) refl eq
    where
      by : (q : Option Source) → source_in a ≡ q → sum_of i o q (Some (Constant z)) ≡ Some s → SumIs (old_code i o a (Number z)) s
      by (Some l) e1 eq =
          subst (λ t. sorted (context p deepest ks F b M n) [] t ≡ true → SumIs t s) (sym (ap (λ x. old_code i o x (Number z)) (source_is a l e1)))
          (λ so1.
          let g = near_sum i o l (Constant z) s eq in
          let h = old_sorted i o (source_code l) (Number z) so1 in
          subst (SumIs (old_code i o (source_code l) (Number z))) g.1
          (record { kind = h.kind; left = near_fits [] l h.first_one g.0.1; right = near_fits (a_number ∷ []) (Constant z) h.second g.0.2; sum = g.0.0; means = λ σ m1 m2 y z1 z2 z0. old_means i o l z σ ∙ (ap₂ (old_summed i o σ) z1 z2 ∙ (ap (old_stored i m1 σ) z0 ∙ old_normal i m1 y σ)); room = omega arith; whole = λ σ. old_means i o l z σ ∙ old_same i o σ (num_of l σ) (num_of (Constant z) σ) })) so
      by None e1 eq = none_is eq

  -- Which code is such a step.

  abbrev WellSorted : Code → Type 0
  WellSorted e = sorted (context p deepest ks F b M n) [] e ≡ true

  two_is : (i : Holder) (o : Arithmetic) (es : Codes) (s : Sum) → two_sum i o es ≡ Some s → WellSorted (Set (holder_slot i) (Do (Inline o) es)) → SumIs (Set (holder_slot i) (Do (Inline o) es)) s
  two_is i o (At x (At y End)) s eq so = set_is i o x y s eq so
  two_is i o es s eq so = none_is eq

  do_is : (i : Holder) (e : Code) (s : Sum) → set_sum i e ≡ Some s → WellSorted (Set (holder_slot i) e) → SumIs (Set (holder_slot i) e) s
  do_is i (Do (Inline o) es) s eq so = two_is i o es s eq so
  do_is i e s eq so = none_is eq

  kept_is : (i : Holder) (o : Arithmetic) (a : Code) (es : Codes) (s : Sum) → kept_sum i o a es ≡ Some s → WellSorted (Let a (Set (holder_slot i) (Do (Inline o) es))) → SumIs (Let a (Set (holder_slot i) (Do (Inline o) es))) s
  kept_is i o a (At x (At (Bound true zero) End)) s eq so = update_is i o a x s eq so
  kept_is i o a es s eq so = none_is eq

  set_kept_is : (i : Holder) (a e : Code) (s : Sum) → update_sum i a e ≡ Some s → WellSorted (Let a (Set (holder_slot i) e)) → SumIs (Let a (Set (holder_slot i) e)) s
  set_kept_is i a (Do (Inline o) es) s eq so = kept_is i o a es s eq so
  set_kept_is i a e s eq so = none_is eq

  new_is : (a : Code) (i : Holder) (x : Code) (s : Sum) → new_sum (source_in a) (Some i) x ≡ Some s → WellSorted (Let (Do AsNumber (At a End)) (Let x (Seq (Set (holder_slot i) (Bound true zero)) (Bound true (suc zero))))) →
      SumIs (Let (Do AsNumber (At a End)) (Let x (Seq (Set (holder_slot i) (Bound true zero)) (Bound true (suc zero))))) s
  new_is a i (Do (Inline o) (At (Bound false zero) (At (Number z) End))) s eq so = old_is i o a z s eq so
  new_is a i x s eq so = none_is eq

  step_is : (a x y : Code) (s : Sum) → new_sum (old_source a) (stored_name y) x ≡ Some s → WellSorted (Let a (Let x y)) → SumIs (Let a (Let x y)) s
  step_is (Do AsNumber (At a End)) x y s eq so = by (stored_name y) refl eq
    where
      by : (i : Option Holder) → stored_name y ≡ i → new_sum (source_in a) i x ≡ Some s → SumIs (Let (Do AsNumber (At a End)) (Let x y)) s
      by (Some i) e1 e2 = subst (λ t. WellSorted (Let (Do AsNumber (At a End)) (Let x t)) → SumIs (Let (Do AsNumber (At a End)) (Let x t)) s) (sym (stored_is y i e1)) (new_is a i x s e2) so
      by None e1 e2 = cc
  step_is a x y s eq so = absurd (none_new (stored_name y) x s eq)

  let_is : (a e : Code) (s : Sum) → let_sum a e ≡ Some s → WellSorted (Let a e) → SumIs (Let a e) s
  let_is a (Set x e) s eq so = by (holder_of x) refl eq
    where
      by : (o : Option Holder) → holder_of x ≡ o → set_after o a e ≡ Some s → SumIs (Let a (Set x e)) s
      by (Some i) ex e1 = subst (λ (y : Slot). WellSorted (Let a (Set y e)) → SumIs (Let a (Set y e)) s) (sym (holder_is x i ex)) (set_kept_is i a e s e1) so
      by None ex e1 = none_is e1
  let_is a (Let x y) s eq so = step_is a x y s eq so
  let_is a e s eq so = none_is eq

  pub sum_is : (e : Code) (s : Sum) → sum_in e ≡ Some s → WellSorted e → SumIs e s
  sum_is (Set x e) s eq so = by (holder_of x) refl eq
    where
      by : (o : Option Holder) → holder_of x ≡ o → set_alone o e ≡ Some s → SumIs (Set x e) s
      by (Some i) ex e1 = subst (λ (y : Slot). WellSorted (Set y e) → SumIs (Set y e) s) (sym (holder_is x i ex)) (do_is i e s e1) so
      by None ex e1 = none_is e1
  sum_is (Let a e) s eq so = let_is a e s eq so
  sum_is e s eq so = none_is eq

  -- the machine adds
  pub both_added : (K : List Label) (k : Instructions) (o : Arithmetic) (a e : Source) (y : AnyNumber) (t u w : ℕ) (l : Locals) (σ : State) → SourceFits (2 ^ 52) a → SourceFits (2 ^ 52) e → length ks ≡ b.parameters → Fit p deepest ks F t u w l σ → binary_at w64 (sum_op o) (word_of (words l σ) a) (word_of (words l σ) e) ≡ Ok (number_word y) →
      Goes (machine p deepest ks F) (source_steps a + (source_steps e + 1)) (at ks [] K (laid b l) F (source_pushed (layout p deepest ks F b M n) a (source_pushed (layout p deepest ks F b M n) e (emit (Binary wide.I64 (sum_op o)) k))) (beside_state p deepest ks F σ)) (at ks (Bits (I64 (number_word y)) ∷ []) K (laid b l) F k (beside_state p deepest ks F σ))
  both_added K k o a e y t u w l σ f1 f2 pk ft q =
      then_goes (source_ok _ _ _ (2 ^ 52) a t u w l σ f1 pk ft) (then_goes (source_ok _ _ _ (2 ^ 52) e t u w l σ f2 pk ft)
      (by_steps 1 (ap (λ r. with_operands (push_result [] (Some (given_by I64 r))) ks K (laid b l) F k (beside_state p deepest ks F σ)) q)))

  summed_ok : (s : Sum) (y : AnyNumber) (K : List Label) (k : Instructions) (u : ℕ) (l : Locals) (σ : State) → SourceFits (2 ^ 52) s.left → SourceFits (2 ^ 52) s.right → length ks ≡ b.parameters → Fit p deepest ks F 0 u 0 l σ → (t : Taken p deepest ks F b M n s.target y u K k l σ) →
      binary_at w64 (sum_op s.op) (word_of (words l σ) s.left) (word_of (words l σ) s.right) ≡ Ok (number_word y) →
      Goes (machine p deepest ks F) ((source_steps s.left + (source_steps s.right + 1)) + 1) (at ks [] K (laid b l) F (summed (layout p deepest ks F b M n) s k) (beside_state p deepest ks F σ)) (at ks [] K (laid b t.next) F k (beside_state p deepest ks F (stored_in (holder_slot s.target) (value.Num y.number) σ)))
  summed_ok s y K k u l σ f1 f2 pk ft t e =
      then_goes (both_added K (emit (all_put p deepest ks F b M n s.target) k) s.op s.left s.right y 0 u 0 l σ f1 f2 pk ft e) t.goes

  pub sum_unboxed : (e : Code) (s : Sum) → SumIs e s → AllUnboxed p deepest ks F b M n (sum_names s)
  sum_unboxed e s t = name_unboxed p deepest ks F b M n s.target (and_source s.left (and_source s.right [])) (takes_fits p deepest ks F b M n s.target t.kind) (source_unboxed (2 ^ 52) s.left (and_source s.right []) t.left (source_unboxed (2 ^ 52) s.right [] t.right tt))

  -- the same, one after the other
  summed_again : (i : Holder) (o : Arithmetic) (σ : State) (r1 r2 : Result AnyNumber Fault) → two_summed i o σ r1 r2 ≡ go_on (summed_in_turn p deepest ks F b M n i o r1 r2 σ) (λ y. give Normal)
  summed_again i o σ (Ok x) (Ok z) = refl
  summed_again i o σ (Ok x) (Err f) = refl
  summed_again i o σ (Err f) r2 = refl

  pub near_source : (s : Source) → SourceFits (2 ^ 52) s → IsSource p deepest ks F b M n s
  near_source (Standing i) h = h
  near_source (Constant z) h = let le = leb-true (unsigned_abs z) (2 ^ 52) h in le-leb (unsigned_abs z) (2 ^ 53) (omega (arith, le))

  -- what is done once its place is noted
  eval_rest : (exprs : (x : Code) → ExprOk p deepest ks F b M n x) (e : Code) (r lo : Bool) (u d bk ct : ℕ) (k : Instructions) (K : List Label) (l : Locals) (σ : State) →
      step_sorted (context p deepest ks F b M n) r lo (Eval e) ≡ true → step_room (Eval e) ≤ b.temporaries → step_arrays (Eval e) ≤ b.arrays → Starts p deepest ks F b M n u K l σ →
      Reached p deepest ks F b M (work_of e + 118) σ.turns (at ks [] K (laid b l) F (quickly_dropped (layout p deepest ks F b M n) (sum_in e) e d k) (beside_state p deepest ks F σ)) (StepDone p deepest ks F b M n lo u bk ct k K l) (Away p deepest ks F b d K) (plain_meant p deepest ks F b M n (Eval e) σ)
  unfolding step_sorted steps_sorted
  eval_rest exprs e r lo u d bk ct k K l σ so rm ar s = by (sum_in e) refl
    where
      S : Store
      S = beside_state p deepest ks F σ

      K1 : List Label
      K1 = label [] None k ∷ K

      srt : sorted (context p deepest ks F b M n) [] e ≡ true
      srt = (and_parts (is_dropped (form_of [] e)) (sorted (context p deepest ks F b M n) [] e) so).1

      slow : Sum → Instructions
      slow q = summed_anyway (layout p deepest ks F b M n) q (suc d) NoMore

      fast : Sum → Instructions
      fast q = summed (layout p deepest ks F b M n) q NoMore

      sums : (q : Sum) → SumIs e q → AllSure (words l σ) σ (pos (2 ^ 52)) (2 ^ 53) (sum_names q) →
          Reached p deepest ks F b M (work_of e + 10) σ.turns (at ks [] K1 (laid b l) F (fast q) S) (StepDone p deepest ks F b M n lo u bk ct k K l) (Away p deepest ks F b d K) (plain_meant p deepest ks F b M n (Eval e) σ)
      sums q t w =
          let is2 = and_source q.right [] in
          let is1 = and_source q.left is2 in
          let o1 = operand (words l σ) q.left (sum_names q) (2 ^ 52) (2 ^ 53) σ (omega arith) t.left (omega arith) (source_still q.left q.target is1 (source_among q.left is2)) w in
          let o2 = operand (words l σ) q.right (sum_names q) (2 ^ 52) (2 ^ 53) σ (omega arith) t.right (omega arith) (source_still q.right q.target is1 (source_beside q.right q.left is2 (source_among q.right []))) w in
          let own = (among_sure (words l σ) q.target (sum_names q) (pos (2 ^ 52)) (2 ^ 53) σ (name_among q.target is1) w).0 in
          let r = result_of q.op o1.number o2.number t.sum o1.few o2.few in
          let y = r.number in
          let σ1 = stored_in (holder_slot q.target) (value.Num y.number) σ in
          let tk = stored_turns p deepest ks F b M n q.target y σ in
          let to = taken p deepest ks F b M n q.target y u K1 NoMore l σ t.kind s.parameters s.fit (ap beside own.value ∙ beside_number own.number) in
          let f1 = one_few q.left in
          let f2 = one_few q.right in
          let g = summed_ok q y K1 NoMore u l σ t.left t.right s.parameters s.fit to (ap₂ (binary_at w64 (sum_op q.op)) o1.words o2.words ∙ r.words) in
          subst (λ o. Reached p deepest ks F b M (work_of e + 10) σ.turns (at ks [] K1 (laid b l) F (fast q) S) (StepDone p deepest ks F b M n lo u bk ct k K l) (Away p deepest ks F b d K) o) (sym (t.means σ o1.number o2.number y o1.num o2.num r.outcome))
          (subst (λ c. Reached p deepest ks F b M (work_of e + 10) c (at ks [] K1 (laid b l) F (fast q) S) (StepDone p deepest ks F b M n lo u bk ct k K l) (Away p deepest ks F b d K) (Gives Normal σ1)) tk
          (there (machine p deepest ks F) M (work_of e + 10) (((source_steps q.left + (source_steps q.right + 1)) + 1) + 1) _ _ Normal σ1 (StepDone p deepest ks F b M n lo u bk ct k K l) (Away p deepest ks F b d K) (then_goes g closes) (omega (arith, f1, f2))
          (record { next = to.next; comes = refl; starts = starts_after p deepest ks F b M n u K K l to.next σ σ1 s refl (let e = tk in omega (arith, e)) to.iterators to.fit; iterators = to.iterators; flows = flows_on lo })))

      -- in all cases
      anyway : (a : Sum) → SumIs e a → Reached p deepest ks F b M (work_of e + 98) σ.turns (at ks [] K1 (laid b l) F (slow a) S) (StepDone p deepest ks F b M n lo u bk ct k K l) (Away p deepest ks F b d K) (plain_meant p deepest ks F b M n (Eval e) σ)
      anyway a t =
          let Q1 = Away p deepest ks F b (suc d) K1 in
          let P0 : AnyNumber → State → Conf → Type 0 = λ w. Summed p deepest ks F b M n u NoMore K1 l in
          let P1 = StepDone p deepest ks F b M n lo u (suc bk) (suc ct) NoMore K1 l in
          let whole = t.whole σ ∙ summed_again a.target a.op σ (num_of a.left σ) (num_of a.right σ) in
          let few = t.room in
          within (machine p deepest ks F) M (88 + 1) (work_of e + 98) σ.turns _ (StepDone p deepest ks F b M n lo u bk ct k K l) (Away p deepest ks F b d K) (plain_meant p deepest ks F b M n (Eval e) σ) (omega arith)
          (blocked p deepest ks F b M 88 σ.turns d k K _ P1 (StepDone p deepest ks F b M n lo u bk ct k K l) (plain_meant p deepest ks F b M n (Eval e) σ) (λ f τ c h. block_ends p deepest ks F b M n lo u bk ct k K l f τ c h)
          (subst (λ o. Reached p deepest ks F b M 88 σ.turns (at ks [] K1 (laid b l) F (slow a) S) P1 Q1 o) (sym whole)
          (then_on (machine p deepest ks F) M 88 0 88 σ.turns _ P0 P1 Q1 (summed_in_turn p deepest ks F b M n a.target a.op (num_of a.left σ) (num_of a.right σ) σ) _ (omega arith)
          (anyway_ok p deepest ks F b M n a u (suc d) NoMore K1 l σ t.sum t.kind s.parameters (near_source a.left t.left) (near_source a.right t.right) (omega (arith, rm, few)) s.fit)
          (λ w τ c le h.
          there (machine p deepest ks F) M 0 0 c c Normal τ P1 Q1 stays (omega arith)
          (record { next = h.next; comes = h.comes; starts = starts_after p deepest ks F b M n u K K1 l h.next σ τ s refl le h.iterators h.fit; iterators = h.iterators; flows = flows_on lo })))))

      chosen : (a : Sum) → SumIs e a → (f : Bool) → all_flag (words l σ) (pos (2 ^ 52)) (2 ^ 53) (sum_names a) ≡ f →
          Reached p deepest ks F b M (work_of e + 98) σ.turns (at ks [] K1 (laid b l) F (cond (nat_eq (if f then 1 else 0) 0) (fast a) (slow a)) S) (StepDone p deepest ks F b M n lo u bk ct k K l) (Away p deepest ks F b d K) (plain_meant p deepest ks F b M n (Eval e) σ)
      chosen a t true eq = anyway a t
      chosen a t false eq = within (machine p deepest ks F) M (work_of e + 10) (work_of e + 98) σ.turns _ (StepDone p deepest ks F b M n lo u bk ct k K l) (Away p deepest ks F b d K) (plain_meant p deepest ks F b M n (Eval e) σ) (omega arith) (sums a t (all_sure (words l σ) (sum_names a) (pos (2 ^ 52)) (2 ^ 53) σ (all_words p deepest ks F b M n (sum_names a) 0 u 0 l σ (sum_unboxed e a t) s.fit) (omega arith) (omega arith) eq))

      by : (o : Option Sum) → sum_in e ≡ o → Reached p deepest ks F b M (work_of e + 118) σ.turns (at ks [] K (laid b l) F (quickly_dropped (layout p deepest ks F b M n) o e d k) S) (StepDone p deepest ks F b M n lo u bk ct k K l) (Away p deepest ks F b d K) (plain_meant p deepest ks F b M n (Eval e) σ)
      by None eq =
          within (machine p deepest ks F) M (work_of e + 110) (work_of e + 118) σ.turns _ (StepDone p deepest ks F b M n lo u bk ct k K l) (Away p deepest ks F b d K) (plain_meant p deepest ks F b M n (Eval e) σ) (omega arith)
          (plainly_ok p deepest ks F b M n exprs lo u d bk ct k K l σ s (update_in e) e refl srt rm ar)
      by (Some a) eq =
          let t = sum_is e a eq srt in
          let fw = sum_few a in
          let un = name_unboxed p deepest ks F b M n a.target (and_source a.left (and_source a.right [])) (takes_fits p deepest ks F b M n a.target t.kind) (source_unboxed (2 ^ 52) a.left (and_source a.right []) t.left (source_unboxed (2 ^ 52) a.right [] t.right tt)) in
          first (machine p deepest ks F) M (all_steps (sum_names a) + 1) (work_of e + 98) (work_of e + 118) σ.turns _ _ (StepDone p deepest ks F b M n lo u bk ct k K l) (Away p deepest ks F b d K) (plain_meant p deepest ks F b M n (Eval e) σ)
          (then_goes (all_unsure_ok p deepest ks F b M n _ _ (sum_names a) (pos (2 ^ 52)) (2 ^ 53) 0 u 0 l σ un s.parameters s.fit) (chooses (slow a) (fast a) (if all_flag (words l σ) (pos (2 ^ 52)) (2 ^ 53) (sum_names a) then 1 else 0))) (omega (arith, fw))
          (chosen a t (all_flag (words l σ) (pos (2 ^ 52)) (2 ^ 53) (sum_names a)) refl)

  pub eval_step : (exprs : (x : Code) → ExprOk p deepest ks F b M n x) (e : Code) → StepOk p deepest ks F b M n (Eval e)
  unfolding step_emitted steps_emitted step_noted steps_noted
  eval_step exprs e r lo u d bk ct k K l σ so rm it ar wk s =
      begun_step p deepest ks F b M n _ (work_of e + 118) (120 + work_of e) u K l σ (StepDone p deepest ks F b M n lo u bk ct k K l) (Away p deepest ks F b d K) (plain_meant p deepest ks F b M n (Eval e)) (omega arith) s
      (λ τ s1. eval_rest exprs e r lo u d bk ct k K l τ so rm ar s1)
