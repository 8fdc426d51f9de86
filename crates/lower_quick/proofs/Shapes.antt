-- The parts of code and of steps as they stand in memory.
use Rattle.std.proofs.Common.{◌≡◌, ℕ, zero, suc, ◌+◌, ◌<◌, ◌≢◌, Bool, true, false, List, [], ◌∷◌, drop, drop-cons, length, get_or, map, Option, Some, None, true≢false, refl, sym, ap, ◌∙◌, arith}
use Rattle.std.specs.Option.{option_map}
use Rattle.std.specs.Prelude.{ℤ, cond, if◌then◌else◌, ◌&&◌}
use Rattle.std.specs.Bool.{◌==◌}
use Rattle.std.proofs.lemmas.Bool.Decides.{nat_tests}
use Rattle.std.specs.declared.boxed.Box.{Box}
use Rattle.std.specs.declared.vec.Vec.{Vec}
use Rattle.std.specs.declared.alloc.Global.{Global}
use Rattle.mid_program.specs.Mid as plain
use Rattle.mid_program.specs.ViewCode.{before, joined, view, view_step, view_steps, views}
use Rattle.mid_program.specs.declared.mid.Arithmetic.{Arithmetic}
use Rattle.mid_program.specs.declared.mid.Arithmetic.TheVariants as inline
use Rattle.sem_primitives.specs.declared.table.Listed.{Listed}
use Rattle.sem_primitives.specs.declared.table.Primitive.{Primitive}
use Rattle.sem_primitives.specs.declared.table.Primitive.TheVariants as row
use Rattle.mid_program.specs.declared.mid.Operation.{Operation}
use Rattle.mid_program.specs.declared.mid.Operation.TheVariants.{AsNumber, Host, Inline}
use Rattle.mid_program.specs.declared.code.Operand.{Operand}
use Rattle.mid_program.specs.declared.code.Operand.TheVariants as operand
use Rattle.mid_program.specs.declared.code.Code.{Code, Do, Joined, Over}
use Rattle.mid_program.specs.declared.step.Step.{Step, Block}
use Rattle.mid_program.proofs.Views.{view_joined}
use Rattle.lower_model.specs.Appends.{is_chain, is_still}
use Rattle.lower_model.specs.Quick.{array_here, array_where, element_at, element_read, element_set, factor_in, field_count, first_sum, is_bound, is_count, is_nothing, kept_sum, kept_update, multiple_in, name_in, number_read, old_source, addition_of, constant_in, is_near, is_sum, new_sum, product_of, remainder_of, set_remainder, set_sum, set_update, sum_of, taker_at, tally_sum, two_product, two_remainder, update_sum, Addition, Constant, Holder, Source, Sum, multiple_of}
use Rattle.lower_model.proofs.QuickNames.{some_is}
use Rattle.lower_model.proofs.Tallies.{bound_is}
use Rattle.lower_quick.specs.Operands.{binary_in, concat_in, is_concat, is_elem, is_modulo, is_set_elem, is_times, number_of, one_code, product_in, reads_special, three_codes, two_codes}
use Rattle.lower_quick.proofs.Views.{view_block, view_do, view_over}

pub do_view : (c : Code) (o : Operation) (v : Vec Operand Global) (es : List Operand) → c ≡ Do o v → es ≡ v.items → plain.Do o (views es) ≡ view c
do_view c o v es is e = ap (λ (xs : List Operand). plain.Do o (views xs)) e ∙ sym (ap view is ∙ view_do o v)

pub over_view : (c : Code) (l : Listed) (v : Vec Operand Global) (es : List Operand) → c ≡ Over l v → es ≡ v.items → plain.Over l (views es) ≡ view c
over_view c l v es is e = ap (λ (xs : List Operand). plain.Over l (views xs)) e ∙ sym (ap view is ∙ view_over l v)

pub block_view : (s : Step) (v : Vec Step Global) (ss : List Step) → s ≡ Block v → ss ≡ v.items → plain.Block (view_steps ss) ≡ view_step s
block_view s v ss is e = ap (λ (xs : List Step). plain.Block (view_steps xs)) e ∙ sym (ap view_step is ∙ view_block v)

-- how many operands there are

pub no_count : (xs : List Operand) → length xs ≢ 1 → false ≡ is_count (views xs)
no_count [] h = refl
no_count (x ∷ []) h = absurd (h refl)
no_count (operand.Code e ∷ y ∷ xs) h = refl
no_count (operand.Constant n ∷ operand.Code e ∷ xs) h = refl
no_count (operand.Constant n ∷ operand.Constant m ∷ xs) h = refl
no_count (operand.Constant n ∷ operand.Fresh ∷ xs) h = refl
no_count (operand.Fresh ∷ y ∷ xs) h = refl

pub not_one : (xs : List Operand) → length xs ≢ 1 → None ≡ one_code (views xs)
not_one [] h = refl
not_one (x ∷ []) h = absurd (h refl)
not_one (operand.Code e ∷ operand.Code f ∷ xs) h = refl
not_one (operand.Code e ∷ operand.Constant n ∷ xs) h = refl
not_one (operand.Code e ∷ operand.Fresh ∷ xs) h = refl
not_one (operand.Constant n ∷ y ∷ xs) h = refl
not_one (operand.Fresh ∷ y ∷ xs) h = refl

third_none : (a b : plain.Code) (x : Operand) (rest : plain.Codes) → two_codes (plain.At a (plain.At b (before x rest))) ≡ None
third_none a b (operand.Code e) rest = refl
third_none a b (operand.Constant n) rest = refl
third_none a b operand.Fresh rest = refl

pub one_of : (xs : List Operand) (a : Operand) → length xs ≡ 1 → a ≡ get_or xs 0 a → one_code (before a plain.End) ≡ one_code (views xs)
one_of [] a n h = absurd cc
one_of (x ∷ []) a n h = ap (λ (y : Operand). one_code (before y plain.End)) h
one_of (x ∷ y ∷ xs) a n h = absurd cc

pub not_two : (xs : List Operand) → length xs ≢ 2 → None ≡ two_codes (views xs)
not_two [] h = refl
not_two (operand.Code e ∷ []) h = refl
not_two (operand.Constant n ∷ []) h = refl
not_two (operand.Fresh ∷ []) h = refl
not_two (x ∷ y ∷ []) h = absurd (h refl)
not_two (operand.Code a ∷ operand.Code b ∷ z ∷ xs) h = sym (third_none (view a) (view b) z (views xs))
not_two (operand.Code a ∷ operand.Constant n ∷ z ∷ xs) h = refl
not_two (operand.Code a ∷ operand.Fresh ∷ z ∷ xs) h = refl
not_two (operand.Constant n ∷ y ∷ z ∷ xs) h = refl
not_two (operand.Fresh ∷ y ∷ z ∷ xs) h = refl

pub two_of : (xs : List Operand) (a b : Operand) → length xs ≡ 2 → a ≡ get_or xs 0 a → b ≡ get_or xs 1 b → two_codes (before a (before b plain.End)) ≡ two_codes (views xs)
two_of [] a b n h k = absurd cc
two_of (x ∷ []) a b n h k = absurd cc
two_of (x ∷ y ∷ []) a b n h k = λ i. two_codes (before (h i) (before (k i) plain.End))
two_of (x ∷ y ∷ z ∷ xs) a b n h k = absurd cc

fourth_none : (a b c : plain.Code) (x : Operand) (rest : plain.Codes) → three_codes (plain.At a (plain.At b (plain.At c (before x rest)))) ≡ None
fourth_none a b c (operand.Code e) rest = refl
fourth_none a b c (operand.Constant n) rest = refl
fourth_none a b c operand.Fresh rest = refl

pub not_three : (xs : List Operand) → length xs ≢ 3 → None ≡ three_codes (views xs)
not_three [] h = refl
not_three (operand.Constant n ∷ xs) h = refl
not_three (operand.Fresh ∷ xs) h = refl
not_three (operand.Code a ∷ []) h = refl
not_three (operand.Code a ∷ operand.Constant n ∷ xs) h = refl
not_three (operand.Code a ∷ operand.Fresh ∷ xs) h = refl
not_three (operand.Code a ∷ operand.Code b ∷ []) h = refl
not_three (operand.Code a ∷ operand.Code b ∷ operand.Constant n ∷ xs) h = refl
not_three (operand.Code a ∷ operand.Code b ∷ operand.Fresh ∷ xs) h = refl
not_three (operand.Code a ∷ operand.Code b ∷ operand.Code c ∷ []) h = absurd (h refl)
not_three (operand.Code a ∷ operand.Code b ∷ operand.Code c ∷ y ∷ xs) h = sym (fourth_none (view a) (view b) (view c) y (views xs))

pub three_of : (xs : List Operand) (a b c : Operand) → length xs ≡ 3 → a ≡ get_or xs 0 a → b ≡ get_or xs 1 b → c ≡ get_or xs 2 c → three_codes (before a (before b (before c plain.End))) ≡ three_codes (views xs)
three_of [] a b c n h k l = absurd cc
three_of (x ∷ []) a b c n h k l = absurd cc
three_of (x ∷ y ∷ []) a b c n h k l = absurd cc
three_of (x ∷ y ∷ z ∷ []) a b c n h k l = λ i. three_codes (before (h i) (before (k i) (before (l i) plain.End)))
three_of (x ∷ y ∷ z ∷ w ∷ xs) a b c n h k l = absurd cc

-- arithmetic with two operands

pub binary_of : (o : Arithmetic) (es : plain.Codes) → option_map (λ both. (o, both.0, both.1)) (two_codes es) ≡ binary_in (plain.Do (Inline o) es)
binary_of o (plain.At x (plain.At y plain.End)) = refl
binary_of o es = refl

pub binary_are : (e : plain.Code) (o : Arithmetic) (x y : plain.Code) → Some (o, x, y) ≡ binary_in e → plain.Do (Inline o) (plain.At x (plain.At y plain.End)) ≡ e
binary_are (plain.Do (Inline p) (plain.At a (plain.At b plain.End))) o x y h =
    λ i. plain.Do (Inline (part p (λ q. q.0) (h i))) (plain.At (part a (λ q. q.1) (h i)) (plain.At (part b (λ q. q.2) (h i)) plain.End))
  where
    part : {A : Type 0} → A → (Arithmetic × plain.Code × plain.Code → A) → Option (Arithmetic × plain.Code × plain.Code) → A
    part d f (Some q) = f q
    part d f None = d
binary_are _ o x y h = absurd cc

-- the same, where the second was kept last
pub moved_are : (e : plain.Code) (o : Arithmetic) (x y : plain.Code) → Some (o, x, y) ≡ binary_in e → is_bound true zero y ≡ true →
    plain.Do (Inline o) (plain.At x (plain.At (plain.Bound true zero) plain.End)) ≡ e
moved_are e o x y h k = ap (λ (z : plain.Code). plain.Do (Inline o) (plain.At x (plain.At z plain.End))) (sym (bound_is true zero y k)) ∙ binary_are e o x y h

pub number_are : (e x : plain.Code) → Some x ≡ number_of e → plain.Do AsNumber (plain.At x plain.End) ≡ e
number_are (plain.Do AsNumber (plain.At a plain.End)) x h = cc
number_are _ x h = absurd cc

-- what is no number of an operand

pub no_old : (e : plain.Code) → None ≡ number_of e → None ≡ old_source e
no_old (plain.Do AsNumber (plain.At x plain.End)) h = absurd cc
no_old e h = refl

pub no_number : (e : plain.Code) → None ≡ number_of e → None ≡ number_read e
no_number (plain.Do AsNumber (plain.At x plain.End)) h = absurd cc
no_number e h = refl

-- what is no arithmetic with two operands

pub no_set : (i : Holder) (e : plain.Code) → None ≡ binary_in e → None ≡ set_sum i e
no_set i (plain.Do (Inline o) (plain.At x (plain.At y plain.End))) h = absurd cc
no_set i e h = refl

pub no_kept : (i : Holder) (a e : plain.Code) → None ≡ binary_in e → None ≡ update_sum i a e
no_kept i a (plain.Do (Inline o) (plain.At x (plain.At (plain.Bound true zero) plain.End))) h = absurd cc
no_kept i a e h = refl

pub no_update : (i : Holder) (a e : plain.Code) → None ≡ binary_in e → None ≡ set_update i a e
no_update i a (plain.Do (Inline o) (plain.At x (plain.At (plain.Bound true zero) plain.End))) h = absurd cc
no_update i a e h = refl

pub no_tally : (k a e last : plain.Code) → None ≡ binary_in e → None ≡ tally_sum k a e last
no_tally k a (plain.Do (Inline o) (plain.At x (plain.At y plain.End))) last h = absurd cc
no_tally k a e last h = refl

pub no_first : (k e last : plain.Code) → None ≡ binary_in e → None ≡ first_sum k e last
no_first k (plain.Do (Inline o) (plain.At x (plain.At y plain.End))) last h = absurd cc
no_first k e last h = refl

pub no_new : (s : Option Source) (i : Option Holder) (e : plain.Code) → None ≡ binary_in e → None ≡ new_sum s i e
no_new s (Some i) (plain.Do (Inline o) (plain.At (plain.Bound false zero) (plain.At (plain.Number n) plain.End))) h = absurd cc
no_new s i e h = refl

-- of what was not kept last

unmoved_sum : (i : Holder) (a : plain.Code) (o : Arithmetic) (x y : plain.Code) → is_bound true zero y ≡ false → None ≡ kept_sum i o a (plain.At x (plain.At y plain.End))
unmoved_sum i a o x (plain.Bound true zero) h = absurd (true≢false h)
unmoved_sum i a o x y h = refl

pub unmoved_sum_is : (i : Holder) (a e : plain.Code) (o : Arithmetic) (x y : plain.Code) → Some (o, x, y) ≡ binary_in e → is_bound true zero y ≡ false → None ≡ update_sum i a e
unmoved_sum_is i a e o x y h k = unmoved_sum i a o x y k ∙ ap (update_sum i a) (binary_are e o x y h)

unmoved_update : (i : Holder) (a : plain.Code) (o : Arithmetic) (x y : plain.Code) → is_bound true zero y ≡ false → None ≡ kept_update i o a (plain.At x (plain.At y plain.End))
unmoved_update i a o x (plain.Bound true zero) h = absurd (true≢false h)
unmoved_update i a o x y h = refl

pub unmoved_update_is : (i : Holder) (a e : plain.Code) (o : Arithmetic) (x y : plain.Code) → Some (o, x, y) ≡ binary_in e → is_bound true zero y ≡ false → None ≡ set_update i a e
unmoved_update_is i a e o x y h k = unmoved_update i a o x y k ∙ ap (set_update i a) (binary_are e o x y h)

-- of what was not kept just before

unkept : (s : Option Source) (i : Option Holder) (o : Arithmetic) (x y : plain.Code) → is_bound false zero x ≡ false → None ≡ new_sum s i (plain.Do (Inline o) (plain.At x (plain.At y plain.End)))
unkept s (Some i) o (plain.Bound false zero) (plain.Number z) h = absurd (true≢false h)
unkept s i o x y h = refl

pub unkept_is : (s : Option Source) (i : Option Holder) (e : plain.Code) (o : Arithmetic) (x y : plain.Code) → Some (o, x, y) ≡ binary_in e → is_bound false zero x ≡ false → None ≡ new_sum s i e
unkept_is s i e o x y h k = unkept s i o x y k ∙ ap (new_sum s i) (binary_are e o x y h)

-- of what is no constant

unfixed : (s : Option Source) (i : Option Holder) (o : Arithmetic) (x y : plain.Code) → None ≡ constant_in y → None ≡ new_sum s i (plain.Do (Inline o) (plain.At x (plain.At y plain.End)))
unfixed s (Some i) o (plain.Bound false zero) (plain.Number n) h = absurd cc
unfixed s i o x y h = refl

pub unfixed_is : (s : Option Source) (i : Option Holder) (e : plain.Code) (o : Arithmetic) (x y : plain.Code) → Some (o, x, y) ≡ binary_in e → None ≡ constant_in y → None ≡ new_sum s i e
unfixed_is s i e o x y h k = unfixed s i o x y k ∙ ap (new_sum s i) (binary_are e o x y h)

fixed : (s : Option Source) (i : Holder) (o : Arithmetic) (y : plain.Code) (n : ℤ) → Some n ≡ constant_in y →
    sum_of i o s (Some (Constant n)) ≡ new_sum s (Some i) (plain.Do (Inline o) (plain.At (plain.Bound false zero) (plain.At y plain.End)))
fixed s i o (plain.Number m) n h = ap (λ (z : Option ℤ). sum_of i o s (option_map Constant z)) h
fixed s i o y n h = absurd cc

pub summed_is : (s : Option Source) (i : Holder) (e : plain.Code) (o : Arithmetic) (x y : plain.Code) (n : ℤ) → Some (o, x, y) ≡ binary_in e →
    is_bound false zero x ≡ true → Some n ≡ constant_in y → sum_of i o s (Some (Constant n)) ≡ new_sum s (Some i) e
summed_is s i e o x y n h b k =
    fixed s i o y n k ∙ ap (λ (z : plain.Code). new_sum s (Some i) (plain.Do (Inline o) (plain.At z (plain.At y plain.End)))) (sym (bound_is false zero x b)) ∙ ap (new_sum s (Some i)) (binary_are e o x y h)

-- a sum is an addition that goes to a name

abbrev pub going : Holder → Addition → Sum
going target a = record { target = target; op = a.op; left = a.left; right = a.right }

going_where : (i : Holder) (o : Arithmetic) (x y : Source) (near : Bool) → option_map (going i) (if near then Some (record { op = o; left = x; right = y }) else None)
    ≡ (if near then Some (record { target = i; op = o; left = x; right = y }) else None)
going_where i o x y true = refl
going_where i o x y false = refl

pub going_is : (i : Holder) (o : Arithmetic) (s t : Option Source) → option_map (going i) (addition_of o s t) ≡ sum_of i o s t
going_is i o (Some x) (Some y) = going_where i o x y (is_sum o && (is_near x && is_near y))
going_is i o None t = refl
going_is i o (Some x) None = refl

three_are : (es : plain.Codes) (x y z : plain.Code) → Some (x, y, z) ≡ three_codes es → es ≡ plain.At x (plain.At y (plain.At z plain.End))
three_are (plain.At a (plain.At b (plain.At c plain.End))) x y z h = λ i. plain.At (part (λ p. p.0) a (sym h i)) (plain.At (part (λ p. p.1) b (sym h i)) (plain.At (part (λ p. p.2) c (sym h i)) plain.End))
  where
    part : (plain.Code × plain.Code × plain.Code → plain.Code) → plain.Code → Option (plain.Code × plain.Code × plain.Code) → plain.Code
    part f e (Some p) = f p
    part f e None = e
three_are _ x y z h = absurd cc

pub taker_is : (m : Bool) (i : ℕ) (es : plain.Codes) (x k v : plain.Code) → Some (x, k, v) ≡ three_codes es → is_bound true i k ≡ true → is_bound m zero v ≡ true → array_here x ≡ taker_at m i es
taker_is m i es x k v h e f = sym (ap (taker_at m i) (three_are es x k v h) ∙ (λ j. array_where (e j && f j) (array_here x)))

-- products and remainders

pub no_product : (e : plain.Code) → None ≡ binary_in e → None ≡ product_in e
no_product (plain.Do (Inline inline.Times) (plain.At x (plain.At y plain.End))) h = absurd cc
no_product e h = refl

product_here : (o : Arithmetic) (x y : plain.Code) → is_times o ≡ true → product_of (name_in x) (factor_in y) ≡ two_product o (plain.At x (plain.At y plain.End))
product_here inline.Times x y h = refl
product_here o x y h = cc

pub product_is : (e : plain.Code) (o : Arithmetic) (x y : plain.Code) → Some (o, x, y) ≡ binary_in e → is_times o ≡ true → product_of (name_in x) (factor_in y) ≡ product_in e
product_is e o x y h k = product_here o x y k ∙ ap product_in (binary_are e o x y h)

not_product : (o : Arithmetic) (es : plain.Codes) → is_times o ≡ false → None ≡ two_product o es
not_product inline.Times es h = cc
not_product o es h = refl

pub not_product_is : (e : plain.Code) (o : Arithmetic) (x y : plain.Code) → Some (o, x, y) ≡ binary_in e → is_times o ≡ false → None ≡ product_in e
not_product_is e o x y h k = not_product o (plain.At x (plain.At y plain.End)) k ∙ ap product_in (binary_are e o x y h)

pub no_remainder : (i : Holder) (e : plain.Code) → None ≡ binary_in e → None ≡ set_remainder i e
no_remainder i (plain.Do (Inline inline.Modulo) (plain.At x (plain.At y plain.End))) h = absurd cc
no_remainder i e h = refl

remainder_here : (i : Holder) (o : Arithmetic) (x y : plain.Code) → is_modulo o ≡ true → remainder_of i (multiple_in x) (factor_in y) ≡ two_remainder i o (plain.At x (plain.At y plain.End))
remainder_here i inline.Modulo x y h = refl
remainder_here i o x y h = cc

pub remainder_is : (i : Holder) (e : plain.Code) (o : Arithmetic) (x y : plain.Code) → Some (o, x, y) ≡ binary_in e → is_modulo o ≡ true → remainder_of i (multiple_in x) (factor_in y) ≡ set_remainder i e
remainder_is i e o x y h k = remainder_here i o x y k ∙ ap (set_remainder i) (binary_are e o x y h)

not_remainder : (i : Holder) (o : Arithmetic) (es : plain.Codes) → is_modulo o ≡ false → None ≡ two_remainder i o es
not_remainder i inline.Modulo es h = cc
not_remainder i o es h = refl

pub not_remainder_is : (i : Holder) (e : plain.Code) (o : Arithmetic) (x y : plain.Code) → Some (o, x, y) ≡ binary_in e → is_modulo o ≡ false → None ≡ set_remainder i e
not_remainder_is i e o x y h k = not_remainder i o (plain.At x (plain.At y plain.End)) k ∙ ap (set_remainder i) (binary_are e o x y h)

pub name_multiple : (e : plain.Code) (i : Holder) → Some i ≡ name_in e → Some (record { name = i; factor = None }) ≡ multiple_in e
name_multiple (plain.Get x) i h = ap multiple_of h
name_multiple e i h = cc

pub product_multiple : (e : plain.Code) → None ≡ name_in e → product_in e ≡ multiple_in e
product_multiple (plain.Get x) h = ap multiple_of h
product_multiple e h = refl

-- texts that are put together

concat_is : (p : Primitive) (es : plain.Codes) → cond (is_concat p) (two_codes es) None ≡ concat_in (plain.Do (Host p) es)
concat_is row.Concat es = refl
concat_is _ es = refl

pub concat_here : (p : Primitive) (es : plain.Codes) → is_concat p ≡ true → two_codes es ≡ concat_in (plain.Do (Host p) es)
concat_here p es h = sym (ap (λ (so : Bool). cond so (two_codes es) None) h) ∙ concat_is p es

pub no_concat : (p : Primitive) (es : plain.Codes) → is_concat p ≡ false → None ≡ concat_in (plain.Do (Host p) es)
no_concat p es h = sym (ap (λ (so : Bool). cond so (two_codes es) None) h) ∙ concat_is p es

pub concat_are : (e x y : plain.Code) → Some (x, y) ≡ concat_in e → plain.Do (Host row.Concat) (plain.At x (plain.At y plain.End)) ≡ e
concat_are (plain.Do (Host row.Concat) (plain.At a (plain.At b plain.End))) x y h = ap (λ (p : plain.Code × plain.Code). plain.Do (Host row.Concat) (plain.At p.0 (plain.At p.1 plain.End))) (some_is (x, y) (a, b) h)
concat_are _ x y h = absurd cc

pub no_chain : (s : plain.Slot) (e : plain.Code) → None ≡ concat_in e → false ≡ is_chain s e
no_chain s (plain.Do (Host row.Concat) (plain.At x (plain.At y plain.End))) h = absurd cc
no_chain s e h = refl

-- the key of subscripts is still where each of them is

and_so : (z : Bool) → (z && true) ≡ z
and_so true = refl
and_so false = refl

key_more : (s : plain.Slot) (e : plain.Code) (es : List plain.Code) (last : plain.Code) → is_still s (joined (e ∷ es) last) ≡ (is_still s e && is_still s (joined es last))
key_more s e es last = ap (λ (z : Bool). is_still s e && z) (and_so (is_still s (joined es last)))

-- the first of those that are left
pub key_next : (s : plain.Slot) (xs : List Code) (i : ℕ) (x : Code) (last : plain.Code) → i < length xs → x ≡ get_or xs i x →
    is_still s (joined (map view (drop i xs)) last) ≡ (is_still s (view x) && is_still s (joined (map view (drop (i + 1) xs)) last))
key_next s xs i x last lt at =
    let next : suc i ≡ i + 1 = omega arith in
    ap (λ (ys : List Code). is_still s (joined (map view ys) last)) (drop-cons xs i x lt)
    ∙ key_more s (view (get_or xs i x)) (map view (drop (suc i) xs)) last
    ∙ (λ j. is_still s (view (sym at j)) && is_still s (joined (map view (drop (next j) xs)) last))

pub key_view : (s : plain.Slot) (c : Code) (a : Box Code Global) (v : Vec Code Global) (z : Box Code Global) (es : List Code) → c ≡ Joined a v z → es ≡ v.items →
    (is_still s (view a.value) && is_still s (joined (map view es) (view z.value))) ≡ is_still s (view c)
key_view s c a v z es is e =
    sym (key_more s (view a.value) (map view es) (view z.value)) ∙ ap (λ (xs : List Code). is_still s (joined (view a.value ∷ map view xs) (view z.value))) e
    ∙ sym (ap (λ (x : Code). is_still s (view x)) is ∙ ap (is_still s) (view_joined a v z))

-- how many texts a chain has at most
abbrev pub links : plain.Code → ℕ
links (plain.Do o (plain.At e es)) = suc (links e)
links e = zero

-- what stands before the last text has fewer
pub links_fewer : (e x y : plain.Code) → Some (x, y) ≡ concat_in e → links x < links e
links_fewer e x y h = let n = ap links (concat_are e x y h) in omega (arith, n)

-- elements of arrays

elem_is : (p : Primitive) (i : ℕ) (es : plain.Codes) → cond (is_elem p) (element_at i es) None ≡ element_read i (plain.Do (Host p) es)
elem_is row.Elem i es = refl
elem_is _ i es = refl

pub elem_here : (p : Primitive) (i : ℕ) (es : plain.Codes) → is_elem p ≡ true → element_at i es ≡ element_read i (plain.Do (Host p) es)
elem_here p i es h = sym (ap (λ (so : Bool). cond so (element_at i es) None) h) ∙ elem_is p i es

pub no_elem : (p : Primitive) (i : ℕ) (es : plain.Codes) → is_elem p ≡ false → None ≡ element_read i (plain.Do (Host p) es)
no_elem p i es h = sym (ap (λ (so : Bool). cond so (element_at i es) None) h) ∙ elem_is p i es

set_elem_is : (p : Primitive) (m : Bool) (i : ℕ) (es : plain.Codes) → cond (is_set_elem p) (taker_at m i es) None ≡ element_set m i (plain.Do (Host p) es)
set_elem_is row.SetElem m i es = refl
set_elem_is _ m i es = refl

pub set_elem_here : (p : Primitive) (m : Bool) (i : ℕ) (es : plain.Codes) → is_set_elem p ≡ true → taker_at m i es ≡ element_set m i (plain.Do (Host p) es)
set_elem_here p m i es h = sym (ap (λ (so : Bool). cond so (taker_at m i es) None) h) ∙ set_elem_is p m i es

pub no_set_elem : (p : Primitive) (m : Bool) (i : ℕ) (es : plain.Codes) → is_set_elem p ≡ false → None ≡ element_set m i (plain.Do (Host p) es)
no_set_elem p m i es h = sym (ap (λ (so : Bool). cond so (taker_at m i es) None) h) ∙ set_elem_is p m i es

-- how many fields there are

count_is : (p : Primitive) (es : plain.Codes) → cond (reads_special p) (is_count es) false ≡ field_count (plain.Do (Host p) es)
count_is row.GetSpecial es = refl
count_is _ es = refl

pub count_here : (p : Primitive) (es : plain.Codes) → reads_special p ≡ true → is_count es ≡ field_count (plain.Do (Host p) es)
count_here p es h = sym (ap (λ (so : Bool). cond so (is_count es) false) h) ∙ count_is p es

pub not_count : (p : Primitive) (es : plain.Codes) → reads_special p ≡ false → false ≡ field_count (plain.Do (Host p) es)
not_count p es h = sym (ap (λ (so : Bool). cond so (is_count es) false) h) ∙ count_is p es

-- steps

pub nothing_in : (ss : List Step) → is_nothing (plain.Block (view_steps ss)) ≡ (length ss == 0)
nothing_in [] = refl
nothing_in (s ∷ ss) = grind (arith, nat_tests)
