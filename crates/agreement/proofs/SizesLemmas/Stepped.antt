-- The constants of the code of steps, of functions and of `main` have their widths.
use Rattle.std.proofs.Common.{◌≡◌, ◌≤◌, ◌<◌, ◌+◌, ◌^◌, ℕ, zero, suc, Bool, true, false, List, [], ◌∷◌, length, Option, Some, None, refl, sym, subst, arith}
use Rattle.std.specs.Int.{w64, cast_unsigned}
use Rattle.std.specs.Prelude.{is_some, ℤ, pos, ◌+ℤ◌, unsigned_abs}
use Rattle.awk_values.specs.declared.comparison.CompareOp.{CompareOp}
use Rattle.awk_values.specs.declared.comparison.CompareOp.TheVariants as compare
use Rattle.sem_primitives.specs.ConstantNumbers.{flag_number, kind_number}
use Rattle.sem_primitives.specs.declared.constants.NameKind.{NameKind}
use Rattle.sem_primitives.specs.declared.constants.NameKind.TheVariants.{Scalar, ArrayOrFunction}
use Rattle.sem_primitives.specs.declared.sorts.Answer.TheVariants as answer
use Rattle.sem_primitives.specs.declared.sorts.Sort.TheVariants as sort
use Rattle.sem_primitives.specs.declared.table.Primitive.TheVariants as row
use Rattle.wasm_types.specs.Syntax.{Instructions}
use Rattle.wasm_types.specs.declared.instr.IBinOp.{IBinOp}
use Rattle.wasm_types.specs.declared.instr.Simple.TheVariants.{Br, I32Const, I64Const}
use Rattle.mid_program.specs.declared.mid.Arithmetic.{Arithmetic}
use Rattle.mid_program.specs.declared.mid.Operation.TheVariants.{Inline}
use Rattle.mid_program.specs.Mid.{Kind, Boxed, Unboxed, ArrayKind, Parameter, Slot, Code, Get, Do, Compare, Number, Set, Let, Bound, Codes, End, At, Choose, Step, Eval, Block as Steps_, If as Either, Loop, Each, Break, Continue, Next, Exit, ExitWith, Return, Mark, Steps, NoStep, Then as AndThen, Program, Form, PrimitiveAnswer, NumberOrText, OptionalNumber, a_value, form_of}
use Rattle.mid_program.specs.Sorted.{lender_at}
use Rattle.sem_scripts.specs.Names.{ArrayName}
use Rattle.lower_model.specs.Appends.{Append, append_in}
use Rattle.lower_model.specs.Emission.{Layout, field_at}
use Rattle.lower_model.specs.Places.{Bases, memory_of}
use Rattle.lower_model.specs.Quick.{Within, test_within, both_within, compared_within, constant_in, first_ones, name_in, Holder, OfName, OfParameter, holder_of, set_after, set_alone, Source, Held, Constant, source_in, Sum, sum_names, sum_op, sum_in, Update, update_in, Tally, tally_in, Remainder, remainder_in, remainder_names, most_multiplied, multiplied, Counted, counted_in, sum_of, two_sum, set_sum, kept_sum, update_sum, old_source, stored_name, new_sum, let_sum, is_near, Pair, pair_names, pair_in, pair_of, step_jumps, is_nothing}
use Rattle.lower_model.specs.Statements.{answer_given, parameter_returned, returned, name_put, summed, parameter_found, name_numbered, source_numbered, source_taken, sum_kept, sum_taken, summed_anyway, both_asked, element_numbered, element_given, text_appended, chain_appended, appended_dropped, remainder_taken, remainder_dropped, barely_dropped, plainly_dropped, quickly_dropped, left_unless_counted, pair_left, left_unless_pair, left_unless, all_emptied, arrays_emptied, arrays_swept, before_parts, declared, goes_on, iterator_left, iterators_emptied, iterators_swept, key_stored, left_by, main_body, names_declared, names_made, parameters_dropped, part_done, record_done, records_read, routine_body, routines_declared, step_emitted, steps_emitted, swept, temporaries_emptied, temporaries_swept, has_functions, left_swept}
use Rattle.std.proofs.lemmas.Bool.{leb-true}
use Rattle.lower_model.specs.Small.{emit}
use Rattle.lower_model.proofs.Chains.{IsChain, one_text, more_texts, append_is, last_appended}
use Rattle.lower_model.proofs.Quick.{constant_is, shift_pos}
use Rattle.lower_model.proofs.QuickNames.{near_sum, some_is}
use Rattle.lower_model.proofs.Tallies.{Shape, Updating, Following, Leading, tally_code, tally_is}
use Rattle.lower_model.proofs.Remainders.{factored_code, most_few, remainder_code, remainder_is}
use Rattle.lower_model.proofs.Updating.{added_is}
use Rattle.agreement.proofs.SizesLemmas.Emitted.{FieldSmall, field_at_small, array_fits, asked_fits, dropped_fits, emitted_fits, flag_fits, kept_code_fits, kept_number_fits, pending_fits, tested_fits, text_fits_there, to_number_fits, to_value_fits, whichever}
use Rattle.agreement.proofs.SizesLemmas.Fits.{Fits, choice, fits_simple, in_block, in_loop, long_fits, none, plain}
use Rattle.agreement.proofs.SizesLemmas.Sources.{SourceSmall, MaybeSmall, number_small, maybe_small, read_fits, source_fits, unsure_fits}
use Rattle.agreement.proofs.SizesLemmas.Small.{Small, SmallStep, SmallSteps}

-- ---- quick ways

abbrev SumSmall : Sum → Type 0
SumSmall s = SourceSmall s.left × SourceSmall s.right

abbrev PairSmall : Pair → Type 0
PairSmall q = SourceSmall q.left × SourceSmall q.right

near_small : (s : Source) → is_near s ≡ true → SourceSmall s
near_small (Held i) e = tt
near_small (Constant z) e = let h = leb-true (unsigned_abs z) (2 ^ 52) e in omega (arith, h)

sum_of_small : (i : Holder) (o : Arithmetic) (a e : Option Source) (s : Sum) → sum_of i o a e ≡ Some s → SumSmall s
sum_of_small i o (Some a) (Some e) s q = let n = near_sum i o a e s q in subst SumSmall n.1 (near_small a n.0.1, near_small e n.0.2)
sum_of_small i o (Some a) None s q = cc
sum_of_small i o None e s q = cc

two_small : (i : Holder) (o : Arithmetic) (es : Codes) (s : Sum) → two_sum i o es ≡ Some s → SumSmall s
two_small i o (At a (At e End)) s q = sum_of_small i o (source_in a) (source_in e) s q
two_small i o es s q = cc

set_small : (i : Holder) (e : Code) (s : Sum) → set_sum i e ≡ Some s → SumSmall s
set_small i (Do (Inline o) es) s q = two_small i o es s q
set_small i e s q = cc

kept_small : (i : Holder) (o : Arithmetic) (a : Code) (es : Codes) (s : Sum) → kept_sum i o a es ≡ Some s → SumSmall s
kept_small i o a (At x (At (Bound true zero) End)) s q = sum_of_small i o (source_in x) (source_in a) s q
kept_small i o a es s q = cc

update_small : (i : Holder) (a e : Code) (s : Sum) → update_sum i a e ≡ Some s → SumSmall s
update_small i a (Do (Inline o) es) s q = kept_small i o a es s q
update_small i a e s q = cc

new_small : (a : Option Source) (i : Option Holder) (e : Code) (s : Sum) → new_sum a i e ≡ Some s → SumSmall s
new_small a (Some i) (Do (Inline o) (At (Bound false zero) (At (Number z) End))) s q = sum_of_small i o a (Some (Constant z)) s q
new_small a i e s q = cc

let_small : (a e : Code) (s : Sum) → let_sum a e ≡ Some s → SumSmall s
let_small a (Set x e) s q = by (holder_of x) q
  where
    by : (o : Option Holder) → set_after o a e ≡ Some s → SumSmall s
    by (Some i) h = update_small i a e s h
    by None h = cc
let_small a (Let x z) s q = new_small (old_source a) (stored_name z) x s q
let_small a e s q = cc

sum_small : (e : Code) (s : Sum) → sum_in e ≡ Some s → SumSmall s
sum_small (Set x e) s q = by (holder_of x) q
  where
    by : (o : Option Holder) → set_alone o e ≡ Some s → SumSmall s
    by (Some i) h = set_small i e s h
    by None h = cc
sum_small (Let a e) s q = let_small a e s q
sum_small e s q = cc

of_pair : (c : CompareOp) (a e : Option Source) (q : Pair) → pair_of c a e ≡ Some q → MaybeSmall a → MaybeSmall e → PairSmall q
of_pair c (Some a) (Some e) q h f g = subst PairSmall (some_is (record { op = c; left = a; right = e }) q h) (f, g)
of_pair c (Some a) None q h f g = cc
of_pair c None e q h f g = cc

pair_small : (e : Code) (q : Pair) → pair_in e ≡ Some q → Small e → PairSmall q
pair_small (Compare c a e) q h s = of_pair c (source_in a) (source_in e) q h (maybe_small a s.0) (maybe_small e s.1)
pair_small e q h s = cc

abbrev WithinSmall : Within → Type 0
WithinSmall q = (cast_unsigned w64 q.shift < 2 ^ 64) × (q.width < 2 ^ 64)

ones_small : (i : Holder) (n : ℕ) (q : Within) → first_ones i n ≡ Some q → n ≤ 2 ^ 55 → WithinSmall q
ones_small i zero q h few = cc
ones_small i (suc k) q h few = subst WithinSmall (some_is (record { name = i; shift = pos (2 ^ 53); width = k }) q h) (omega arith, omega (arith, few))

compared_small : (c : CompareOp) (i : Holder) (z : ℤ) (q : Within) → compared_within c i z ≡ Some q → unsigned_abs z ≤ 2 ^ 53 → WithinSmall q
compared_small compare.Less i z q h s = let x = (shift_pos z s).1 in ones_small i (unsigned_abs (z +ℤ pos (2 ^ 53))) q h (omega (arith, x))
compared_small compare.LessOrEqual i z q h s = let x = (shift_pos z s).1 in ones_small i (suc (unsigned_abs (z +ℤ pos (2 ^ 53)))) q h (omega (arith, x))
compared_small c i z q h s = cc

both_small : (c : CompareOp) (e : Code) (i : Option Holder) (r : Option ℤ) (q : Within) → constant_in e ≡ r → both_within c i r ≡ Some q → Small e → WithinSmall q
both_small c e (Some i) (Some z) q is h s = compared_small c i z q h (subst Small (constant_is e z is) s)
both_small c e (Some i) None q is h s = cc
both_small c e None r q is h s = cc

within_small : (e : Code) (q : Within) → test_within e ≡ Some q → Small e → WithinSmall q
within_small (Compare c a e) q h s = both_small c e (name_in a) (constant_in e) q refl h s.1
within_small e q h s = cc

-- a counter's key, and what is added
tally_small : (i : Shape) (q : Tally) → Small (tally_code i q) → Small q.key × Small q.added
tally_small Updating q s = (s.0, s.1.0)
tally_small Following q s = (s.0, s.1.1.0.1.0)
tally_small Leading q s = (s.0, s.1.0.1.0)

-- ---- steps

module _ (y : Layout) (names : length y.names ≤ 2 ^ 24) (memory : length (memory_of y.texts) ≤ 2 ^ 24) where
  abbrev b : Bases
  b = y.bases

  -- a holder's number is written
  put_fits : {k : Instructions} (h : Holder) → Fits k → Fits (emit (name_put y h) k)
  put_fits (OfName i) r = plain _ refl r
  put_fits (OfParameter i) r = plain _ refl r

  sum_fits : {k : Instructions} (s : Sum) → SumSmall s → Fits k → Fits (summed y s k)
  sum_fits s h r = source_fits y s.left h.0 (source_fits y s.right h.1 (plain _ refl (put_fits s.target r)))

  -- sums in all cases

  found_fits : {k : Instructions} (o : Option ℕ) (t d : ℕ) → Fits k → Fits (parameter_found y o t d k)
  found_fits None t d r = record { has = r.has }
  found_fits (Some g) t d r = record { has = r.has }

  name_fits : {k : Instructions} (i : Holder) (t d : ℕ) → Fits k → Fits (name_numbered y i t d k)
  name_fits (OfName i) t d r = record { has = r.has }
  name_fits (OfParameter i) t d r = plain _ refl (plain _ refl (plain _ refl (plain _ refl (choice (found_fits (lender_at y.lenders i) t d none) none r))))

  numbered_fits : {k : Instructions} (x : Source) (t d : ℕ) → Fits k → Fits (source_numbered y x t d k)
  numbered_fits (Held i) t d r = name_fits i t d r
  numbered_fits (Constant z) t d r = r

  taken_fits : {k : Instructions} (x : Source) (t : ℕ) → SourceSmall x → Fits k → Fits (source_taken y x t k)
  taken_fits (Held i) t s r = plain _ refl r
  taken_fits (Constant z) t s r = plain (I64Const (cast_unsigned w64 z)) (long_fits (cast_unsigned w64 z) (number_small z s)) r

  taking_fits : {k : Instructions} (op : IBinOp) (i : Holder) (t d : ℕ) → Fits k → Fits (sum_taken y op i t d k)
  taking_fits op (OfName i) t d r = record { has = r.has }
  taking_fits op (OfParameter i) t d r = record { has = r.has }

  anyway_fits : {k : Instructions} (x : Sum) (d : ℕ) → SumSmall x → Fits k → Fits (summed_anyway y x d k)
  anyway_fits x d h r = numbered_fits x.left zero d (numbered_fits x.right 1 d (taken_fits x.left zero h.0 (taken_fits x.right 1 h.1 (taking_fits (sum_op x.op) x.target zero d r))))

  -- counters in arrays

  kept_fits : {k : Instructions} (op : IBinOp) (t d : ℕ) → Fits k → Fits (sum_kept y op t d k)
  kept_fits op t d r = record { has = r.has }

  element_fits : {k : Instructions} (a : ArrayName) (d : ℕ) → Fits k → Fits (element_numbered y a d k)
  element_fits a d r = array_fits y names memory a (record { has = r.has })

  given_fits : {k : Instructions} (a : ArrayName) → Fits k → Fits (element_given y a k)
  given_fits a r = array_fits y names memory a (record { has = r.has })

  -- remainders

  multiplied_fits : {k : Instructions} (i : Holder) (f : Option ℤ) → Small (factored_code i f) → Fits k → Fits (multiplied f k)
  multiplied_fits i None h r = r
  multiplied_fits i (Some c) h r = plain (I64Const (cast_unsigned w64 c)) (long_fits (cast_unsigned w64 c) (number_small c h.1.0)) (plain _ refl r)

  taken_remainder_fits : {k : Instructions} (q : Remainder) → Small (remainder_code q) → Fits k → Fits (remainder_taken y q k)
  taken_remainder_fits q h r =
      read_fits y q.multiple.name (multiplied_fits q.multiple.name q.multiple.factor h.0 (plain (I64Const (cast_unsigned w64 q.divisor)) (long_fits (cast_unsigned w64 q.divisor) (number_small q.divisor h.1.0)) (plain _ refl (put_fits q.target r))))

  -- texts behind a name's own

  text_fits : {k : Instructions} (i : ℕ) (e : Code) (d : ℕ) → Small e → Fits k → Fits (text_appended y i e d k)
  text_fits i e d s r = emitted_fits y names memory false [] [] e zero zero d s (to_value_fits b (form_of [] e) zero (record { has = r.has }))

  chain_fits : {x : Slot} {e : Code} {k : Instructions} (i d : ℕ) → IsChain x e → Small e → Fits k → Fits (chain_appended y i e d k)
  chain_fits i d (one_text z a n q) s r = text_fits i a d s.1.0 r
  chain_fits {k = k} i d (more_texts c a n q) s r =
      subst Fits (sym (last_appended y i a d k n)) (chain_fits {k = text_appended y i a d k} i d n s.0 (text_fits i a d s.1.0 r))

  appended_fits : {k : Instructions} (o : Option Append) (e : Code) (d : ℕ) → append_in e ≡ o → Small e → Fits k → Fits (appended_dropped y o e d k)
  appended_fits None e d h s r = dropped_fits y names memory [] [] e zero zero d s r
  appended_fits (Some q) e d h s r = let t = append_is e q h in chain_fits q.target d t.chain (subst Small t.code s) r

  remainder_fits : {k : Instructions} (o : Option Remainder) (e : Code) (d : ℕ) → remainder_in e ≡ o → Small e → Fits k → Fits (remainder_dropped y o e d k)
  remainder_fits None e d h s r = appended_fits (append_in e) e d refl s r
  remainder_fits (Some q) e d h s r =
      let t = remainder_is e q h in
      let few = most_few q.multiple.factor t.factor in
      unsure_fits y (remainder_names q) (pos (most_multiplied q.multiple.factor)) (most_multiplied q.multiple.factor + most_multiplied q.multiple.factor) (omega (arith, few)) (omega (arith, few))
      (choice (dropped_fits y names memory [] [] e zero zero (suc d) s none) (taken_remainder_fits q (subst Small t.code s) none) r)

  module _ {k : Instructions} where
    barely_fits : (o : Option Tally) (e : Code) (d : ℕ) → tally_in e ≡ o → Small e → Fits k → Fits (barely_dropped y o e d k)
    barely_fits None e d h s r = remainder_fits (remainder_in e) e d refl s r
    barely_fits (Some q) e d h s r =
        let t = tally_is e q h in
        let m = tally_small t.shape q (subst Small t.code s) in
        let f = form_of [] q.key in
        emitted_fits y names memory false [] [] q.key zero zero d m.0 (emitted_fits y names memory false (f ∷ []) (zero ∷ []) q.added 1 zero d m.1
        (to_value_fits b f zero (element_fits q.read d (to_number_fits b (form_of (f ∷ []) q.added) 1 d (plain _ refl (plain _ refl (kept_fits (sum_op q.op) 2 d (given_fits q.written r))))))))

  module _ {k : Instructions} where
    plainly_fits : (o : Option Update) (e : Code) (d : ℕ) → update_in e ≡ o → Small e → Fits k → Fits (plainly_dropped y o e d k)
    plainly_fits None e d h s r = barely_fits (tally_in e) e d refl s r
    plainly_fits (Some q) e d h s r = by (field_at q.added) (field_at_small q.added added)
      where
        added : Small q.added
        added = (subst Small (added_is e q h).0 s).0

        by : (o : Option ℤ) → FieldSmall o → Fits (both_asked y o q d (sum_taken y (sum_op q.op) q.target zero d k))
        by (Some z) f =
            name_fits q.name zero d (plain _ refl (plain (I64Const (cast_unsigned w64 z)) (long_fits (cast_unsigned w64 z) (number_small z f)) (plain _ refl (plain _ refl (taking_fits (sum_op q.op) q.target zero d r)))))
        by None f =
            emitted_fits y names memory false [] [] q.added zero zero d added
            (name_fits q.name 1 d (to_number_fits b (form_of [] q.added) zero d (plain _ refl (plain _ refl (taking_fits (sum_op q.op) q.target zero d r)))))

    quick_fits : (o : Option Sum) (e : Code) (d : ℕ) → sum_in e ≡ o → Small e → Fits k → Fits (quickly_dropped y o e d k)
    quick_fits None e d q s r = plainly_fits (update_in e) e d refl s r
    quick_fits (Some x) e d q s r =
        unsure_fits y (sum_names x) (pos (2 ^ 52)) (2 ^ 53) (omega arith) (omega arith)
        (choice (anyway_fits x (suc d) (sum_small e x q) none) (sum_fits x (sum_small e x q) none) r)

    pair_left_fits : (q : Pair) (out : ℕ) → PairSmall q → Fits k → Fits (pair_left y q out k)
    pair_left_fits q out s r = source_fits y q.left s.0 (source_fits y q.right s.1 (plain _ refl (plain _ refl r)))

  module _ {k : Instructions} where
    counted_fits : (o : Option Counted) (e : Code) (d out : ℕ) → Small e → Fits k → Fits (left_unless_counted y o e d out k)
    counted_fits None e d out s r = tested_fits y names memory [] [] e zero zero d s (plain _ refl (plain _ refl r))
    counted_fits (Some q) e d out s r =
        read_fits y q.name (plain _ refl (plain _ refl (choice (tested_fits y names memory [] [] e zero zero (suc d) s (plain _ refl (plain _ refl none))) (read_fits y q.name (plain _ refl (plain _ refl (plain _ refl (plain _ refl (plain _ refl none)))))) r)))

    pair_fits : (o : Option Pair) (e : Code) (d out : ℕ) → pair_in e ≡ o → Small e → Fits k → Fits (left_unless_pair y o e d out k)
    pair_fits None e d out h s r = counted_fits (counted_in e) e d out s r
    pair_fits (Some q) e d out h s r =
        unsure_fits y (pair_names q) (pos (2 ^ 53)) (2 ^ 54) (omega arith) (omega arith)
        (choice (tested_fits y names memory [] [] e zero zero (suc d) s (plain _ refl (plain _ refl none)))
        (pair_left_fits q (suc out) (pair_small e q h s) none) r)

  module _ {k : Instructions} where
    unless_fits : (o : Option Within) (e : Code) (d out : ℕ) → test_within e ≡ o → Small e → Fits k → Fits (left_unless y o e d out k)
    unless_fits None e d out h s r = pair_fits (pair_in e) e d out refl s r
    unless_fits (Some q) e d out h s r =
        let w = within_small e q h s in
        read_fits y q.name (plain (I64Const (cast_unsigned w64 q.shift)) (long_fits (cast_unsigned w64 q.shift) w.0) (plain _ refl
        (plain (I64Const q.width) (long_fits q.width w.1) (plain _ refl
        (choice (tested_fits y names memory [] [] e zero zero (suc d) s (plain _ refl (plain _ refl none))) none r)))))

    key_fits : (u : ℕ) (e : Code) (d : ℕ) → Small e → Fits k → Fits (key_stored y u e d k)
    key_fits u e d s r =
        plain _ refl (plain _ refl (plain _ refl (plain _ refl (plain _ refl (plain _ refl (plain _ refl
        (dropped_fits y names memory (a_value ∷ []) (zero ∷ []) e 1 zero d s (record { has = r.has }))))))))

    iterator_fits : (u : ℕ) → Fits k → Fits (iterator_left y u k)
    iterator_fits u r = record { has = r.has }

    left_fits : (way d : ℕ) → fits_simple (I32Const way) ≡ true → Fits k → Fits (left_by way d k)
    left_fits way d e r = plain (I32Const way) e (plain _ refl (plain _ refl r))

  answer_fits : {k : Instructions} (f : Form) (d : ℕ) → Fits k → Fits (answer_given y f d k)
  answer_fits (PrimitiveAnswer (answer.Of sort.Value)) d r = record { has = r.has }
  answer_fits (PrimitiveAnswer (answer.Of sort.Number)) d r = record { has = r.has }
  answer_fits (PrimitiveAnswer answer.Truth) d r = record { has = r.has }
  answer_fits NumberOrText d r = record { has = r.has }
  answer_fits OptionalNumber d r = record { has = r.has }
  answer_fits f d r = record { has = r.has }

  parameter_fits : {k : Instructions} (o : Option ℕ) (i d : ℕ) → Fits k → Fits (parameter_returned y o i d k)
  parameter_fits None i d r = plain _ refl (plain _ refl (plain _ refl r))
  parameter_fits (Some g) i d r = emitted_fits y names memory false [] [] (Get (Parameter true i)) zero zero d tt (answer_fits NumberOrText d r)

  returned_fits : {k : Instructions} (e : Code) (d : ℕ) → Small e → Fits k → Fits (returned y e d k)
  returned_fits (Choose sort.Value e a c) d s r =
      whichever (is_some (pair_in e))
      (in_block (pair_fits (pair_in e) e (suc d) zero refl s.0 (returned_fits a (suc d) s.1.0 none)) (returned_fits c d s.1.1 r))
      (tested_fits y names memory [] [] e zero zero d s.0 (choice (returned_fits a (suc d) s.1.0 none) (returned_fits c (suc d) s.1.1 none) r))
  returned_fits (Get (Parameter true i)) d s r = parameter_fits (lender_at y.lenders i) i d r
  returned_fits e d s r = emitted_fits y names memory false [] [] e zero zero d s (answer_fits (form_of [] e) d r)

  mutual
    unfolding step_emitted steps_emitted

    step_fits : {k : Instructions} (s : Step) (u d bk ct : ℕ) → SmallStep s → Fits k → Fits (step_emitted y s u d bk ct k)
    step_fits (Eval e) u d bk ct s r = plain _ refl (quick_fits (sum_in e) e d refl s r)
    step_fits (Steps_ ss) u d bk ct s r = plain _ refl (steps_fits ss u d bk ct s r)
    step_fits (Either e a c) u d bk ct s r =
        plain _ refl (whichever (is_some (pair_in e))
        (in_block (in_block (pair_fits (pair_in e) e (suc (suc d)) zero refl s.0
        (step_fits a u (suc (suc d)) (suc (suc bk)) (suc (suc ct)) s.1.0 (plain _ refl none))) (step_fits c u (suc d) (suc bk) (suc ct) s.1.1 none)) r)
        (tested_fits y names memory [] [] e zero zero d s.0
        (choice (step_fits a u (suc d) (suc bk) (suc ct) s.1.0 none) (step_fits c u (suc d) (suc bk) (suc ct) s.1.1 none) r)))
    step_fits (Loop true e a c) u d bk ct s r =
        let rest = whichever (is_nothing c) (plain (Br zero) refl none) (step_fits c u (suc (suc d)) 1 zero s.1.1 (plain (Br zero) refl none)) in
        plain _ refl (in_block (in_loop (unless_fits (test_within e) e (suc (suc d)) 1 refl s.0
        (whichever (step_jumps a) (in_block (step_fits a u (suc (suc (suc d))) 2 zero s.1.0 none) rest)
        (step_fits a u (suc (suc d)) 1 zero s.1.0 rest))) none) r)
    step_fits (Loop false e a c) u d bk ct s r =
        plain _ refl (in_block (in_loop (in_block (step_fits a u (suc (suc (suc d))) 2 zero s.1.0 none)
        (step_fits c u (suc (suc d)) 1 zero s.1.1 (plain _ refl (tested_fits y names memory [] [] e zero zero (suc (suc d)) s.0 (plain _ refl none))))) none) r)
    step_fits (Each a e t) u d bk ct s r =
        plain _ refl (array_fits y names memory a (plain _ refl (plain _ refl
        (in_block (in_loop (key_fits u e (suc (suc d)) s.0
        (in_block (step_fits t (suc u) (suc (suc (suc d))) 2 zero s.1 none) (plain _ refl none))) none) (iterator_fits u r)))))
    step_fits Break u d bk ct s r = plain _ refl (plain _ refl r)
    step_fits Continue u d bk ct s r = plain _ refl (plain _ refl r)
    step_fits Next u d bk ct s r = plain _ refl (left_fits _ d refl r)
    step_fits Exit u d bk ct s r = plain _ refl (left_fits _ d refl r)
    step_fits (ExitWith e) u d bk ct s r =
        plain _ refl (emitted_fits y names memory false [] [] e zero zero d s (to_number_fits b (form_of [] e) zero d
        (plain _ refl (plain _ refl (left_fits _ d refl r)))))
    step_fits (Return e) u d bk ct s r =
        plain _ refl (returned_fits e d s r)
    step_fits (Mark i c) u d bk ct s r = plain _ refl (plain (I32Const (flag_number c)) (flag_fits c) (plain _ refl r))

    steps_fits : {k : Instructions} (ss : Steps) (u d bk ct : ℕ) → SmallSteps ss → Fits k → Fits (steps_emitted y ss u d bk ct k)
    steps_fits NoStep u d bk ct s r = r
    steps_fits (AndThen t ss) u d bk ct s r = step_fits t u d bk ct s.0 (steps_fits ss u d bk ct s.1 r)

  -- ---- what is emptied and let go

  temporaries_fit : {k : Instructions} (t m : ℕ) → Fits k → Fits (temporaries_emptied y t m k)
  temporaries_fit t zero r = r
  temporaries_fit t (suc m) r = plain _ refl (plain _ refl (temporaries_fit (suc t) m r))

  iterators_fit : {k : Instructions} (t m : ℕ) → Fits k → Fits (iterators_emptied y t m k)
  iterators_fit t zero r = r
  iterators_fit t (suc m) r = plain _ refl (plain _ refl (iterators_fit (suc t) m r))

  arrays_fit : {k : Instructions} (t m : ℕ) → Fits k → Fits (arrays_emptied y t m k)
  arrays_fit t zero r = r
  arrays_fit t (suc m) r = plain _ refl (plain _ refl (arrays_fit (suc t) m r))

  emptied_fit : {k : Instructions} → Fits k → Fits (all_emptied y k)
  emptied_fit r =
      plain _ refl (plain _ refl (temporaries_fit zero b.temporaries (iterators_fit zero b.iterators (arrays_fit zero b.arrays r))))

  temporaries_go : {k : Instructions} (t m : ℕ) → Fits k → Fits (temporaries_swept y t m k)
  temporaries_go t zero r = r
  temporaries_go t (suc m) r = record { has = (temporaries_go (suc t) m r).has }

  iterators_go : {k : Instructions} (t m : ℕ) → Fits k → Fits (iterators_swept y t m k)
  iterators_go t zero r = r
  iterators_go t (suc m) r = record { has = (iterators_go (suc t) m r).has }

  arrays_go : {k : Instructions} (t m : ℕ) → Fits k → Fits (arrays_swept y t m k)
  arrays_go t zero r = r
  arrays_go t (suc m) r = record { has = (arrays_go (suc t) m r).has }

  swept_fit : {k : Instructions} → Fits k → Fits (swept y k)
  swept_fit r = temporaries_go zero b.temporaries (iterators_go zero b.iterators (arrays_go zero b.arrays r))

  left_swept_fit : {k : Instructions} (calls : Bool) → Fits k → Fits (left_swept y calls k)
  left_swept_fit true r = swept_fit r
  left_swept_fit false r = iterators_go zero b.iterators r

  parameters_fit : {k : Instructions} (x : ℕ) (ks : List Kind) → Fits k → Fits (parameters_dropped y x ks k)
  parameters_fit x [] r = r
  parameters_fit x (Boxed ∷ ks) r = plain _ refl (plain _ refl (parameters_fit (suc x) ks r))
  parameters_fit x (Unboxed ∷ ks) r = parameters_fit (suc x) ks r
  parameters_fit x (ArrayKind ∷ ks) r = parameters_fit (suc x) ks r

  -- A FUNCTION
  pub routine_fits : (ks : List Kind) (body : Steps) → SmallSteps body → Fits (routine_body y ks body)
  routine_fits ks body s =
      emptied_fit (in_block (in_block (steps_fits body zero zero zero zero s (plain _ refl (plain _ refl (plain _ refl none))))
      (temporaries_go zero b.temporaries (arrays_go zero b.arrays none)))
      (iterators_go zero b.iterators (parameters_fit zero ks (plain _ refl none))))

  -- ---- `main`

  kind_fits : (kind : NameKind) → fits_simple (I32Const (kind_number kind)) ≡ true
  kind_fits Scalar = refl
  kind_fits ArrayOrFunction = refl

  declared_fits : {k : Instructions} (kind : NameKind) (i : ℕ) → Fits k → Fits (declared y kind i k)
  declared_fits kind i r = text_fits_there y names memory i (plain (I32Const (kind_number kind)) (kind_fits kind) (plain _ refl r))

  names_fit : {k : Instructions} (i : ℕ) (ks : List Kind) → Fits k → Fits (names_declared y i ks k)
  names_fit i [] r = r
  names_fit i (kind ∷ ks) r = declared_fits _ i (names_fit (suc i) ks r)

  routines_fit : {k : Instructions} (i m : ℕ) → Fits k → Fits (routines_declared y i m k)
  routines_fit i zero r = r
  routines_fit i (suc m) r = declared_fits ArrayOrFunction i (routines_fit (suc i) m r)

  made_fit : {k : Instructions} (i : ℕ) (ks : List Kind) → Fits k → Fits (names_made y i ks k)
  made_fit i [] r = r
  made_fit i (Boxed ∷ ks) r = plain _ refl (plain _ refl (made_fit (suc i) ks r))
  made_fit i (Unboxed ∷ ks) r = made_fit (suc i) ks r
  made_fit i (ArrayKind ∷ ks) r = plain _ refl (plain _ refl (made_fit (suc i) ks r))

  before_fits : {k : Instructions} (p : Program) → Fits k → Fits (before_parts y p k)
  before_fits p r =
      plain _ refl (plain _ refl (plain _ refl (kept_number_fits b true zero zero
      (names_fit (length p.texts) y.names (routines_fit (length p.texts + length p.globals) (length p.routines)
      (made_fit zero y.names (asked_fits y names memory row.StartAssign zero zero r)))))))

  goes_fit : {k : Instructions} → Fits k → Fits (goes_on y k)
  goes_fit r = plain _ refl (plain _ refl (left_swept_fit (has_functions y.calls) r))

  record_fits : {k : Instructions} (items : Steps) (d : ℕ) → SmallSteps items → Fits k → Fits (record_done y items d k)
  record_fits items d s r =
      in_block (in_block (steps_fits items zero zero zero zero s (plain _ refl none))
      (plain _ refl (plain _ refl (plain _ refl (plain _ refl (goes_fit none)))))) r

  records_fit : {k : Instructions} (items : Steps) (d : ℕ) → SmallSteps items → Fits k → Fits (records_read y items d k)
  records_fit items d s r =
      in_loop (plain _ refl (kept_code_fits b true zero (suc d) (plain _ refl (plain _ refl (plain _ refl
      (choice (record_fits items (suc (suc d)) s (plain _ refl none)) none (plain _ refl (plain _ refl (plain _ refl
      (choice (pending_fits y names memory zero (plain _ refl none)) none none)))))))))) r

  part_fits : {a k : Instructions} (d : ℕ) → Fits a → Fits k → Fits (part_done y a d k)
  part_fits d f r =
      in_block (in_block f (plain _ refl (plain _ refl (plain _ refl (plain _ refl (plain _ refl (plain _ refl
      (choice (plain _ refl (plain _ refl (plain _ refl none))) none (goes_fit none))))))))) r

  -- THE WHOLE
  pub main_fits : (p : Program) → SmallSteps p.begin → SmallSteps p.items → SmallSteps p.end → Fits (main_body y p)
  main_fits p begin items end =
      emptied_fit (in_block (before_fits p (part_fits zero
      (steps_fits p.begin zero zero zero zero begin (whichever p.reads (records_fit p.items zero items (plain _ refl none)) (plain _ refl none)))
      (plain _ refl (part_fits zero (steps_fits p.end zero zero zero zero end (plain _ refl none)) none))))
      (swept_fit (plain _ refl (plain _ refl none))))
