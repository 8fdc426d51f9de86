-- Names and sources of quick ways: several names within the same bounds, sources among them, and sums that are in range.
use Rattle.std.proofs.Common.{◌≡◌, ℕ, zero, suc, ◌+◌, ◌%◌, ◌^◌, ◌≤◌, Bool, true, false, T, nat_le, List, [], ◌∷◌, length, Some, None, Option, Ok, Result, ℤ, ◌+ℤ◌, neg_ℤ, unsigned_abs, w64, refl, sym, ap, ◌∙◌, subst, arith, if◌then◌else◌, ◌⊎◌, inl, inr}
use Rattle.std.specs.Prelude.{◌&&◌, ◌||◌, not, nat_lt, bit_or}
use Rattle.std.proofs.lemmas.Nat.{le_or_l, le_or_r}
use Rattle.std.proofs.lemmas.Bool.{and_parts, le-leb, le-ltb, ltb-false, eqb-true, eq-eqb}
use Rattle.awk_values.specs.declared.fault.Fault.{Fault}
use Rattle.awk_values.specs.declared.value.Value.{Value}
use Rattle.awk_values.specs.declared.value.Value.TheVariants as value
use Rattle.awk_values.specs.Comparison.{holds}
use Rattle.awk_values.specs.declared.comparison.CompareOp.{CompareOp}
use Rattle.awk_values.specs.declared.comparison.CompareOp.TheVariants as op
use Rattle.std.specs.declared.cmp.Ordering.{Ordering}
use Rattle.std.specs.declared.cmp.Ordering.TheVariants.{Less, Equal, Greater}
use Rattle.wasm_store.specs.Integers.{binary_at}
use Rattle.sem_primitives.specs.Numbers.{Number as AnyNumber, number_of, number_word, outcome_of}
use Rattle.sem_primitives.specs.ValueMeaning.{number_of_row}
use Rattle.sem_primitives.proofs.Words.{small, fits, number_again}
use Rattle.mid_program.specs.declared.mid.Arithmetic.{Arithmetic}
use Rattle.mid_program.specs.declared.mid.Arithmetic.TheVariants as inline
use Rattle.mid_program.specs.declared.mid.Operation.TheVariants.{Inline}
use Rattle.mid_program.specs.Mid.{Code, Do, Number, Get, Set, Seq, Bound, End, At}
use Rattle.mid_program.specs.MidMeaning.{or_zero, arithmetic_of}
use Rattle.sem_scripts.specs.ScriptState.{State}
use Rattle.lower_model.specs.Quick.{Holder, OfName, OfParameter, holder_of, held, Source, Held, Constant, source_in, same_holder, is_among, and_name, and_source, Sum, sum_names, is_near, is_sum, sum_op, sum_of, stored_name, new_sum, contrary}
use Rattle.lower_model.proofs.State.{bare, holder_slot, holder_value}
use Rattle.lower_model.proofs.Products.{word, sum_word, difference_word, triangle}
use Rattle.lower_model.proofs.Inlining.{checked_in, added_abs}
use Rattle.lower_model.proofs.Quick.{Sure, sure, holder_is}
use Rattle.lower_model.specs.Small.{least}

-- Nothing is not something. `cc` finds it too, but reads all else that stands there.
pub none_is : {A P : Type 0} {x : A} → None ≡ Some x → P
none_is e = cc

pub some_is : {A : Type 0} → (x y : A) → Some x ≡ Some y → x ≡ y
some_is x y e = ap (λ o. elim o [ Some z ↦ z | None ↦ x ]) e

pub nought_number : (z : ℤ) → nat_le (unsigned_abs z) (2 ^ 53) ≡ true → (or_zero (number_of z)).number ≡ z
nought_number z e = ap (λ o. (or_zero o).number) (number_again (record { number = z; in_range = subst T (sym e) tt }))

abbrev pub num_of : Source → State → Result AnyNumber Fault
num_of (Held x) σ = number_of_row (holder_value x σ)
num_of (Constant z) σ = Ok (or_zero (number_of z))

-- the words of holders

abbrev pub Words : Type 0
Words = Holder → ℕ

abbrev pub word_of : Words → Source → ℕ
word_of W (Held x) = W x
word_of W (Constant z) = word z

abbrev pub val_of : Source → State → Value
val_of (Held x) σ = holder_value x σ
val_of (Constant z) σ = value.Num (or_zero (number_of z)).number

abbrev pub source_steps : Source → ℕ
source_steps (Held i) = 1
source_steps (Constant z) = 0

abbrev pub shift_word : Words → ℤ → Holder → ℕ
shift_word W q i = (W i + word q) % 2 ^ 64

abbrev pub joined_word : Words → ℤ → ℕ → List Holder → ℕ
joined_word W q v [] = v
joined_word W q v (i ∷ is) = joined_word W q (bit_or v (shift_word W q i)) is

abbrev pub all_flag : Words → ℤ → ℕ → List Holder → Bool
all_flag W q w [] = false
all_flag W q w (i ∷ is) = nat_lt w (joined_word W q (shift_word W q i) is)

-- a holder's word is what its value tells, or it has nothing
abbrev pub WordFits : ℕ → Value → Type 0
WordFits m v = (m ≡ bare v) ⊎ (m ≡ least)

abbrev pub AllWords : Words → State → List Holder → Type 0
AllWords W σ [] = Unit {0}
AllWords W σ (i ∷ is) = WordFits (W i) (holder_value i σ) × AllWords W σ is

abbrev pub joined_steps : List Holder → ℕ
joined_steps [] = 0
joined_steps (i ∷ is) = 2 + (1 + joined_steps is)

abbrev pub all_steps : List Holder → ℕ
all_steps [] = 0
all_steps (i ∷ is) = 2 + (joined_steps is + 1)

-- a number within the bounds, and its word
abbrev pub WordSure : Words → State → ℤ → ℕ → Holder → Type 0
WordSure W σ q w i = Sure (holder_value i σ) q w × (W i ≡ bare (holder_value i σ))

abbrev pub AllSure : Words → State → ℤ → ℕ → List Holder → Type 0
AllSure W σ q w [] = Unit {0}
AllSure W σ q w (i ∷ is) = WordSure W σ q w i × AllSure W σ q w is

pub joined_above : (W : Words) (is : List Holder) (v : ℕ) (q : ℤ) → v ≤ joined_word W q v is
joined_above W [] v q = omega arith
joined_above W (i ∷ is) v q =
    let x = le_or_l v (shift_word W q i) in
    let y = joined_above W is (bit_or v (shift_word W q i)) q in
    omega (arith, x, y)

-- a word within the bounds is that of a number
pub one_sure : (m : ℕ) (v : Value) (q : ℤ) (w : ℕ) → WordFits m v → unsigned_abs q ≤ 2 ^ 54 → w ≤ 2 ^ 54 → (m + word q) % 2 ^ 64 ≤ w → Sure v q w × (m ≡ bare v)
one_sure m v q w f hq hw le = elim f [
  | inl e ↦ (sure v q w hq hw (le-ltb w ((bare v + word q) % 2 ^ 64) (subst (λ z. (z + word q) % 2 ^ 64 ≤ w) e le)), e)
  | inr e ↦ absurd (none (sure value.Uninit q w hq hw (le-ltb w ((least + word q) % 2 ^ 64) (subst (λ z. (z + word q) % 2 ^ 64 ≤ w) e le))))
]
  where
    none : Sure value.Uninit q w → ⊥
    none s = let e = s.value in cc

pub joined_sure : (W : Words) (is : List Holder) (v : ℕ) (q : ℤ) (w : ℕ) (σ : State) → AllWords W σ is → unsigned_abs q ≤ 2 ^ 54 → w ≤ 2 ^ 54 → joined_word W q v is ≤ w → AllSure W σ q w is
joined_sure W [] v q w σ f hq hw le = tt
joined_sure W (i ∷ is) v q w σ f hq hw le =
    let x = le_or_r v (shift_word W q i) in
    let y = joined_above W is (bit_or v (shift_word W q i)) q in
    (one_sure (W i) (holder_value i σ) q w f.0 hq hw (omega (arith, x, y, le)), joined_sure W is (bit_or v (shift_word W q i)) q w σ f.1 hq hw le)

pub all_sure : (W : Words) (is : List Holder) (q : ℤ) (w : ℕ) (σ : State) → AllWords W σ is → unsigned_abs q ≤ 2 ^ 54 → w ≤ 2 ^ 54 → all_flag W q w is ≡ false → AllSure W σ q w is
all_sure W [] q w σ f hq hw e = tt
all_sure W (i ∷ is) q w σ f hq hw e =
    let le = ltb-false w (joined_word W q (shift_word W q i) is) e in
    let y = joined_above W is (shift_word W q i) q in
    (one_sure (W i) (holder_value i σ) q w f.0 hq hw (omega (arith, le, y)), joined_sure W is (shift_word W q i) q w σ f.1 hq hw le)

pub same_is : (x y : Holder) → same_holder x y ≡ true → x ≡ y
same_is (OfName i) (OfName j) e = ap OfName (eqb-true i j e)
same_is (OfParameter i) (OfParameter j) e = ap OfParameter (eqb-true i j e)
same_is x y e = cc

pub same_self : (x : Holder) → same_holder x x ≡ true
same_self (OfName i) = eq-eqb i i refl
same_self (OfParameter i) = eq-eqb i i refl

pub among_sure : (W : Words) (i : Holder) (is : List Holder) (q : ℤ) (w : ℕ) (σ : State) → is_among i is ≡ true → AllSure W σ q w is → WordSure W σ q w i
among_sure W i [] q w σ e h = cc
among_sure W i (j ∷ js) q w σ e h = by (λ e1. among_sure W i js q w σ e1 h.1) (same_holder i j) refl e
  where
    by : (is_among i js ≡ true → WordSure W σ q w i) → (t : Bool) → same_holder i j ≡ t → t || is_among i js ≡ true → WordSure W σ q w i
    by r true et e1 = subst (WordSure W σ q w) (sym (same_is i j et)) h.0
    by r false et e1 = r e1

pub name_among : (i : Holder) (is : List Holder) → is_among i (and_name i is) ≡ true
name_among i is = by (is_among i is) refl
  where
    by : (t : Bool) → is_among i is ≡ t → is_among i (if t then is else i ∷ is) ≡ true
    by true e = e
    by false e = ap (λ t. t || is_among i is) (same_self i)

pub or_true : (t : Bool) → t || true ≡ true
or_true true = refl
or_true false = refl

pub still_among : (i j : Holder) (is : List Holder) → is_among j is ≡ true → is_among j (and_name i is) ≡ true
still_among i j is e = by (is_among i is)
  where
    by : (t : Bool) → is_among j (if t then is else i ∷ is) ≡ true
    by true = e
    by false = ap (λ t. same_holder j i || t) e ∙ or_true (same_holder j i)

abbrev pub StandsAmong : Source → List Holder → Type 0
StandsAmong (Held i) is = is_among i is ≡ true
StandsAmong (Constant z) is = Unit {0}

pub source_among : (s : Source) (is : List Holder) → StandsAmong s (and_source s is)
source_among (Held i) is = name_among i is
source_among (Constant z) is = tt

pub source_still : (s : Source) (i : Holder) (is : List Holder) → StandsAmong s is → StandsAmong s (and_name i is)
source_still (Held j) i is h = still_among i j is h
source_still (Constant z) i is h = tt

pub source_beside : (s o : Source) (is : List Holder) → StandsAmong s is → StandsAmong s (and_source o is)
source_beside s (Held i) is h = source_still s i is h
source_beside s (Constant z) is h = h

pub joined_few : (is : List Holder) → joined_steps is ≤ length is + (length is + length is)
joined_few [] = omega arith
joined_few (i ∷ is) = let h = joined_few is in omega (arith, h)

pub all_few : (is : List Holder) → all_steps is ≤ length is + (length is + length is)
all_few [] = omega arith
all_few (i ∷ is) = let h = joined_few is in omega (arith, h)

pub name_longer : (i : Holder) (is : List Holder) → length (and_name i is) ≤ suc (length is)
name_longer i is = by (is_among i is)
  where
    by : (t : Bool) → length (if t then is else i ∷ is) ≤ suc (length is)
    by true = omega arith
    by false = omega arith

pub source_longer : (s : Source) (is : List Holder) → length (and_source s is) ≤ suc (length is)
source_longer (Held i) is = name_longer i is
source_longer (Constant z) is = omega arith

abbrev pub source_code : Source → Code
source_code (Held x) = Get (holder_slot x)
source_code (Constant z) = Number z

pub source_is : (e : Code) (s : Source) → source_in e ≡ Some s → e ≡ source_code s
source_is (Get x) s q = by (holder_of x) refl q
  where
    by : (o : Option Holder) → holder_of x ≡ o → held o ≡ Some s → Get x ≡ source_code s
    by (Some y) e h = ap Get (holder_is x y e) ∙ ap source_code (some_is (Held y) s h)
    by None e h = none_is h
source_is (Number z) s q = ap source_code (some_is (Constant z) s q)
source_is e s q = cc

pub contrary_holds : (c : CompareOp) (o : Ordering) → holds (contrary c) o ≡ not (holds c o)
contrary_holds op.Less Less = refl
contrary_holds op.Less Equal = refl
contrary_holds op.Less Greater = refl
contrary_holds op.LessOrEqual Less = refl
contrary_holds op.LessOrEqual Equal = refl
contrary_holds op.LessOrEqual Greater = refl
contrary_holds op.Equal Less = refl
contrary_holds op.Equal Equal = refl
contrary_holds op.Equal Greater = refl
contrary_holds op.NotEqual Less = refl
contrary_holds op.NotEqual Equal = refl
contrary_holds op.NotEqual Greater = refl
contrary_holds op.Greater Less = refl
contrary_holds op.Greater Equal = refl
contrary_holds op.Greater Greater = refl
contrary_holds op.GreaterOrEqual Less = refl
contrary_holds op.GreaterOrEqual Equal = refl
contrary_holds op.GreaterOrEqual Greater = refl

pub two_few : (a e : Source) → all_steps (and_source a (and_source e [])) ≤ 6
two_few a e =
    let x = source_longer e [] in
    let y = source_longer a (and_source e []) in
    let z = all_few (and_source a (and_source e [])) in
    omega (arith, x, y, z)

pub one_few : (s : Source) → source_steps s ≤ 1
one_few (Held i) = omega arith
one_few (Constant z) = omega arith

-- sources, if they are such, and near
pub both_near : {A : Type 0} → (x s : A) (o : Arithmetic) (a e : Source) → (if is_sum o && (is_near a && is_near e) then Some x else None) ≡ Some s → ((is_sum o ≡ true) × (is_near a ≡ true) × (is_near e ≡ true)) × (x ≡ s)
both_near x s o a e eq = by (is_sum o && (is_near a && is_near e)) refl eq
  where
    by : (t : Bool) → is_sum o && (is_near a && is_near e) ≡ t → (if t then Some x else None) ≡ Some s → ((is_sum o ≡ true) × (is_near a ≡ true) × (is_near e ≡ true)) × (x ≡ s)
    by false e1 e2 = none_is e2
    by true e1 e2 =
        let h = and_parts (is_sum o) (is_near a && is_near e) e1 in
        let g = and_parts (is_near a) (is_near e) h.1 in
        ((h.0, g.0, g.1), some_is x s e2)

pub near_sum : (i : Holder) (o : Arithmetic) (a e : Source) (s : Sum) → sum_of i o (Some a) (Some e) ≡ Some s → ((is_sum o ≡ true) × (is_near a ≡ true) × (is_near e ≡ true)) × (record { target = i; op = o; left = a; right = e } ≡ s)
near_sum i o a e s eq = both_near (record { target = i; op = o; left = a; right = e }) s o a e eq

pub stored_is : (y : Code) (i : Holder) → stored_name y ≡ Some i → y ≡ Seq (Set (holder_slot i) (Bound true zero)) (Bound true (suc zero))
stored_is (Seq (Set x (Bound true zero)) (Bound true (suc zero))) i e = ap (λ k. Seq (Set k (Bound true zero)) (Bound true (suc zero))) (holder_is x i e)
stored_is y i e = cc

pub none_new : (i : Option Holder) (x : Code) (s : Sum) → new_sum None i x ≡ Some s → ⊥
none_new (Some i) (Do (Inline o) (At (Bound false zero) (At (Number z) End))) s e = cc
none_new i x s e = cc

-- the result, and its word
pub record SumGives (o : Arithmetic) (m1 m2 : AnyNumber) : Type 0 where
  pub number : AnyNumber
  pub outcome : outcome_of (arithmetic_of o m1.number m2.number) ≡ Ok number
  pub words : binary_at w64 (sum_op o) (number_word m1) (number_word m2) ≡ Ok (number_word number)

pub result_of : (o : Arithmetic) (m1 m2 : AnyNumber) → is_sum o ≡ true → unsigned_abs m1.number ≤ 2 ^ 52 → unsigned_abs m2.number ≤ 2 ^ 52 → SumGives o m1 m2
result_of inline.Plus m1 m2 e h1 h2 =
    let z = m1.number +ℤ m2.number in
    let a = added_abs m1.number m2.number in
    let i = le-leb (unsigned_abs z) (2 ^ 53) (omega (arith, a, h1, h2)) in
    record { number = record { number = z; in_range = subst T (sym i) tt }; outcome = checked_in z i; words = ap Ok (sum_word m1.number m2.number (fits m1.number (small m1)) (fits m2.number (small m2)) (fits z (omega (arith, a, h1, h2)))) }
result_of inline.Minus m1 m2 e h1 h2 =
    let z = m1.number +ℤ neg_ℤ m2.number in
    let a = triangle m1.number m2.number in
    let i = le-leb (unsigned_abs z) (2 ^ 53) (omega (arith, a, h1, h2)) in
    record { number = record { number = z; in_range = subst T (sym i) tt }; outcome = checked_in z i; words = ap Ok (difference_word m1.number m2.number (fits m1.number (small m1)) (fits m2.number (small m2)) (fits z (omega (arith, a, h1, h2)))) }
result_of o m1 m2 e h1 h2 = cc

pub sum_few : (s : Sum) → all_steps (sum_names s) ≤ 9
sum_few s =
    let x = source_longer s.right [] in
    let y = source_longer s.left (and_source s.right []) in
    let t = name_longer s.target (and_source s.left (and_source s.right [])) in
    let z = all_few (sum_names s) in
    omega (arith, x, y, z, t)
