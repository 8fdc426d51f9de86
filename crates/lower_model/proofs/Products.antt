-- Checked arithmetic in 64 bits: words of sums and products, and the tests that say that they are in range.
use Rattle.std.proofs.Common.{◌≡◌, ⊎_elim, ℕ, zero, suc, ◌+◌, ◌-◌, ◌*◌, ◌/◌, ◌%◌, ◌^◌, ◌<◌, ◌≤◌, Bool, true, false, not, ◌&&◌, ◌||◌, nat_eq, nat_lt, nat_le, Ok, Err, ℤ, pos, negsuc, ◌+ℤ◌, ◌-ℤ◌, ◌*ℤ◌, neg_ℤ, unsigned_abs, int_div, int_rem, w64, refl, sym, ap, ap₂, ◌∙◌, subst, arith, true≢false, if◌then◌else◌}
use Rattle.std.specs.Prelude.{FitsSigned}
use Rattle.std.specs.Int.{cast_signed, cast_unsigned, int_wrap}
use Rattle.std.proofs.lemmas.Int.{ints, to_z-of_z, of_z-to_z, int_wrap_fits, int_wrap-add_left, wrapping_add-bits, wrapping_sub-bits, wrapping_mul-bits, SFits-int_wrap, quot-rem, rem_below, unsigned_abs-mul, fits_signed_from_abs}
use Rattle.std.proofs.Math.Nat.{mul-div_cancel, div-mul-le_self, mul-le-mul_left}
use Rattle.std.proofs.Math.IntN.{*ℤ_comm}
use Rattle.std.proofs.lemmas.Bool.{eq-eqb, eqb-true, leb-true, le-leb, lt-ltb, ltb-true, ltb-false, ne_eqb, cases_lt}
use Rattle.sem_primitives.proofs.Words.{fits}
use Rattle.wasm_store.specs.declared.trap.TrapKind.TheVariants.{DivideByZero, IntegerOverflow}
use Rattle.wasm_store.specs.Integers.{quotient_signed, is_integer}
use Rattle.wasm_store.specs.IntegerParts.{difference}
use Rattle.lower_model.specs.Arithmetic.{near}

abbrev pub word : ℤ → ℕ
word z = cast_unsigned w64 z

signed_small : (n : ℕ) → FitsSigned w64 (pos n) → n < 2 ^ 63
signed_small n f = search (arith, ints)

word_below : (z : ℤ) → FitsSigned w64 z → word z < 2 ^ 64
word_below (pos n) f = let h = signed_small n f in omega (arith, h)
word_below (negsuc n) f = omega arith

pub mod_small : (n : ℕ) → n < 2 ^ 64 → n % 2 ^ 64 ≡ n
mod_small n h = omega (arith, h)

pub mod_once : (n r : ℕ) → n ≡ 2 ^ 64 + r → r < 2 ^ 64 → n % 2 ^ 64 ≡ r
mod_once n r e h = omega (arith, e, h)

mod_below : (n : ℕ) → n % 2 ^ 64 < 2 ^ 64
mod_below n = omega arith

-- the bits that stand for a number are its word
same_word : (n : ℕ) (z : ℤ) → n < 2 ^ 64 → cast_signed w64 n ≡ z → n ≡ word z
same_word n z lt e = sym (of_z-to_z w64 n lt) ∙ ap word e

pub sum_word : (a b : ℤ) → FitsSigned w64 a → FitsSigned w64 b → FitsSigned w64 (a +ℤ b) → (word a + word b) % 2 ^ 64 ≡ word (a +ℤ b)
sum_word a b fa fb fs =
    same_word ((word a + word b) % 2 ^ 64) (a +ℤ b) (mod_below (word a + word b))
    (wrapping_add-bits w64 (word a) (word b) (word_below a fa) (word_below b fb)
    ∙ (ap₂ (λ x y. int_wrap w64 (x +ℤ y)) (to_z-of_z w64 a fa) (to_z-of_z w64 b fb) ∙ int_wrap_fits w64 (a +ℤ b) fs))

pub difference_word : (a b : ℤ) → FitsSigned w64 a → FitsSigned w64 b → FitsSigned w64 (a -ℤ b) → difference w64 (word a) (word b) ≡ word (a -ℤ b)
difference_word a b fa fb fs =
    same_word ((word a + (2 ^ 64 - word b)) % 2 ^ 64) (a -ℤ b) (mod_below (word a + (2 ^ 64 - word b)))
    (wrapping_sub-bits w64 (word a) (word b) (word_below a fa) (word_below b fb)
    ∙ (ap₂ (λ x y. int_wrap w64 (x -ℤ y)) (to_z-of_z w64 a fa) (to_z-of_z w64 b fb) ∙ int_wrap_fits w64 (a -ℤ b) fs))

-- Whether a number of 64 bits is out of range is one comparison, once 2^53 is added.

abbrev pub is_out : ℕ → Bool
is_out n = nat_lt (2 ^ 54) ((n + 2 ^ 53) % 2 ^ 64)

less_not : (a b : ℕ) (c : Bool) → (c ≡ true → a < b) → (c ≡ false → b ≤ a) → nat_lt a b ≡ c
less_not a b true f g = lt-ltb a b (f refl)
less_not a b false f g = by (nat_lt a b) refl
  where
    by : (q : Bool) → nat_lt a b ≡ q → q ≡ false
    by false e = refl
    by true e = let lt : a < b = ltb-true a b e in let le = g refl in absurd (omega (arith, lt, le))

within : (a b : ℕ) → nat_le a b ≡ true → a ≤ b
within a b e = leb-true a b e

beyond : (a b : ℕ) → nat_le a b ≡ false → b < a
beyond a b e = ⊎_elim (λ (lt : b < a). lt) (λ (le : a ≤ b). absurd (true≢false (sym (le-leb a b le) ∙ e))) (cases_lt b a)

pub out_word : (z : ℤ) → FitsSigned w64 z → is_out (word z) ≡ not (nat_le (unsigned_abs z) (2 ^ 53))
out_word (pos n) f = by (nat_le n (2 ^ 53)) refl
  where
    small-n : n < 2 ^ 63
    small-n = search (arith, ints)

    same : (n + 2 ^ 53) % 2 ^ 64 ≡ n + 2 ^ 53
    same = mod_small (n + 2 ^ 53) (omega (arith, small-n))

    by : (q : Bool) → nat_le n (2 ^ 53) ≡ q → is_out n ≡ not q
    by true e = ap (nat_lt (2 ^ 54)) same ∙ less_not (2 ^ 54) (n + 2 ^ 53) false (λ x. absurd (true≢false (sym x))) (λ x. let h = within n (2 ^ 53) e in omega (arith, h))
    by false e = ap (nat_lt (2 ^ 54)) same ∙ less_not (2 ^ 54) (n + 2 ^ 53) true (λ x. let h = beyond n (2 ^ 53) e in omega (arith, h)) (λ x. absurd (true≢false x))
out_word (negsuc n) f = by (nat_le (suc n) (2 ^ 53)) refl
  where
    small-n : n < 2 ^ 63
    small-n = search (arith, ints)

    by : (q : Bool) → nat_le (suc n) (2 ^ 53) ≡ q → is_out (word (negsuc n)) ≡ not q
    by true e =
        let h = within (suc n) (2 ^ 53) e in
        let same : (2 ^ 64 - suc n + 2 ^ 53) % 2 ^ 64 ≡ 2 ^ 53 - suc n = mod_once (2 ^ 64 - suc n + 2 ^ 53) (2 ^ 53 - suc n) (omega (arith, h, small-n)) (omega (arith, h)) in
        ap (nat_lt (2 ^ 54)) same ∙ less_not (2 ^ 54) (2 ^ 53 - suc n) false (λ x. absurd (true≢false (sym x))) (λ x. omega arith)
    by false e =
        let h = beyond (suc n) (2 ^ 53) e in
        let same : (2 ^ 64 - suc n + 2 ^ 53) % 2 ^ 64 ≡ 2 ^ 64 - suc n + 2 ^ 53 = mod_small (2 ^ 64 - suc n + 2 ^ 53) (omega (arith, h, small-n)) in
        ap (nat_lt (2 ^ 54)) same ∙ less_not (2 ^ 54) (2 ^ 64 - suc n + 2 ^ 53) true (λ x. omega (arith, h, small-n)) (λ x. absurd (true≢false x))

-- Numbers near 0, and their products.

abbrev pub is_far : ℕ → Bool
is_far n = nat_lt (near + near) ((n + near) % 2 ^ 64)

near_word : (z : ℤ) → unsigned_abs z ≤ 2 ^ 53 → is_far (word z) ≡ false → unsigned_abs z ≤ near
near_word (pos n) h e =
    let same = mod_small (n + near) (omega (arith, h)) in
    let le = ltb-false (near + near) ((n + near) % 2 ^ 64) e in
    omega (arith, same, le)
near_word (negsuc n) h e = by (nat_le (suc n) near) refl
  where
    by : (q : Bool) → nat_le (suc n) near ≡ q → suc n ≤ near
    by true i = within (suc n) near i
    by false i =
        let lt = beyond (suc n) near i in
        let same = mod_small (2 ^ 64 - suc n + near) (omega (arith, lt, h)) in
        let le = ltb-false (near + near) ((2 ^ 64 - suc n + near) % 2 ^ 64) e in
        absurd (omega (arith, same, le, lt, h))

pub product_near : (m n : ℤ) → unsigned_abs m ≤ 2 ^ 53 → unsigned_abs n ≤ 2 ^ 53 → is_far (word m) ≡ false → is_far (word n) ≡ false → unsigned_abs (m *ℤ n) ≤ 2 ^ 53
product_near m n hm hn em en =
    let am = near_word m hm em in
    let s : unsigned_abs m * unsigned_abs n ≤ unsigned_abs m * near = mul-le-mul_left (unsigned_abs m) (near_word n hn en) in
    let e = unsigned_abs-mul m n in
    omega (arith, am, s, e)

-- Products.

pub triangle : (a b : ℤ) → unsigned_abs (a -ℤ b) ≤ unsigned_abs a + unsigned_abs b
triangle a b = grind (arith, ints)

cancel : (a b c : ℤ) → a +ℤ b ≡ c → b ≡ c -ℤ a
cancel a b c e = grind (arith, ints, e)

zero_abs : (z : ℤ) → unsigned_abs z ≡ 0 → z ≡ pos 0
zero_abs z e = grind (arith, ints, e)

abs_neg : (n : ℕ) → unsigned_abs (neg_ℤ (pos n)) ≡ n
abs_neg zero = refl
abs_neg (suc n) = refl

no_part : (k : ℕ) → 0 < k → 0 / k ≡ 0
no_part k h = ap (λ x. x / k) (let e : 0 ≡ 0 * k = omega arith in e) ∙ mul-div_cancel 0 h

quotient_neg : (x b : ℕ) → int_div (neg_ℤ (pos x)) (negsuc b) ≡ pos (x / suc b)
quotient_neg zero b = ap (λ k. neg_ℤ (pos k)) (no_part (suc b) (omega arith)) ∙ ap pos (sym (no_part (suc b) (omega arith)))
quotient_neg (suc k) b = refl

quotient_pos : (x b : ℕ) → 0 < b → int_div (neg_ℤ (pos x)) (pos b) ≡ neg_ℤ (pos (x / b))
quotient_pos zero b h = ap pos (no_part b h) ∙ ap (λ k. neg_ℤ (pos k)) (sym (no_part b h))
quotient_pos (suc k) b h = refl

exact : (n m : ℤ) → 0 < unsigned_abs m → int_div (n *ℤ m) m ≡ n
exact (pos c) (pos b) h = ap pos (mul-div_cancel c h)
exact (pos c) (negsuc b) h = quotient_neg (c * suc b) b ∙ ap pos (mul-div_cancel c (omega arith))
exact (negsuc c) (pos b) h = quotient_pos (suc c * b) b h ∙ ap (λ k. neg_ℤ (pos k)) (mul-div_cancel (suc c) h)
exact (negsuc c) (negsuc b) h = ap (λ k. neg_ℤ (pos k)) (mul-div_cancel (suc c) (omega arith))

abs_quotient : (a d : ℤ) → unsigned_abs (int_div a d) ≡ unsigned_abs a / unsigned_abs d
abs_quotient (pos a) (pos b) = refl
abs_quotient (pos a) (negsuc b) = abs_neg (a / suc b)
abs_quotient (negsuc a) (pos b) = abs_neg (suc a / b)
abs_quotient (negsuc a) (negsuc b) = refl

pub quotient_bound : (a d : ℤ) → unsigned_abs (int_div a d) * unsigned_abs d ≤ unsigned_abs a
quotient_bound a d = subst (λ k. k * unsigned_abs d ≤ unsigned_abs a) (sym (abs_quotient a d)) (div-mul-le_self (unsigned_abs a) (unsigned_abs d))

signed_abs : (z : ℤ) → FitsSigned w64 z → unsigned_abs z ≤ 2 ^ 63
signed_abs (pos n) f = let h = signed_small n f in omega (arith, h)
signed_abs (negsuc n) f = search (arith, ints)

pub is_signed : (z : ℤ) → unsigned_abs z < 2 ^ 63 → is_integer w64 z ≡ true
is_signed (pos n) h = lt-ltb n (2 ^ 63) h
is_signed (negsuc n) h = lt-ltb n (2 ^ 63) (omega (arith, h))

not_zero : (m : ℤ) → FitsSigned w64 m → 0 < unsigned_abs m → nat_eq (word m) 0 ≡ false
not_zero m f h = ne_eqb (word m) 0 (λ e. let z : unsigned_abs m ≡ 0 = ap unsigned_abs (sym (to_z-of_z w64 m f) ∙ ap (cast_signed w64) e) in absurd (omega (arith, z, h)))

module _ (m n : ℤ) (hm : unsigned_abs m ≤ 2 ^ 53) (hn : unsigned_abs n ≤ 2 ^ 53) where
  abbrev wrapped : ℤ
  wrapped = int_wrap w64 (m *ℤ n)

  wrapped_fits : FitsSigned w64 wrapped
  wrapped_fits = SFits-int_wrap w64 (m *ℤ n)

  abbrev pub product : ℕ
  product = (word m * word n) % 2 ^ 64

  product_word : product ≡ word wrapped
  product_word =
      same_word product wrapped (mod_below (word m * word n))
      (wrapping_mul-bits w64 (word m) (word n) (word_below m (fits m hm)) (word_below n (fits n hn))
      ∙ ap₂ (λ x y. int_wrap w64 (x *ℤ y)) (to_z-of_z w64 m (fits m hm)) (to_z-of_z w64 n (fits n hn)))

  -- where the product is small it did not wrap
  not_wrapped : unsigned_abs (m *ℤ n) ≤ 2 ^ 53 → wrapped ≡ m *ℤ n
  not_wrapped h = int_wrap_fits w64 (m *ℤ n) (fits (m *ℤ n) h)

  abbrev part : ℤ
  part = int_div wrapped m

  -- a quotient that is the other factor says that it did not wrap
  told_by_part : 0 < unsigned_abs m → part ≡ n → wrapped ≡ m *ℤ n
  told_by_part h e =
      let r = int_rem wrapped m in
      let whole : n *ℤ m +ℤ r ≡ wrapped = ap (λ q. q *ℤ m +ℤ r) (sym e) ∙ quot-rem wrapped m in
      let rest : r ≡ wrapped -ℤ n *ℤ m = cancel (n *ℤ m) r wrapped whole in
      let below = rem_below wrapped m h in
      let small-r : unsigned_abs r < 2 ^ 63 = omega (arith, below, hm) in
      let none : m *ℤ n +ℤ neg_ℤ (n *ℤ m) ≡ pos 0 = ap (λ x. m *ℤ n +ℤ neg_ℤ x) (*ℤ_comm n m) ∙ grind (arith, ints) in
      let zero-r : r ≡ pos 0 =
      sym (int_wrap_fits w64 r (fits_signed_from_abs w64 r small-r))
      ∙ (ap (int_wrap w64) rest
      ∙ (int_wrap-add_left w64 (m *ℤ n) (neg_ℤ (n *ℤ m))
      ∙ (ap (int_wrap w64) none ∙ int_wrap_fits w64 (pos 0) (fits (pos 0) (omega arith))))) in
      sym whole ∙ (ap (λ x. n *ℤ m +ℤ x) zero-r ∙ (grind (arith, ints) ∙ *ℤ_comm n m))

  part_small : 0 < unsigned_abs m → unsigned_abs part < 2 ^ 63
  part_small h = ⊎_elim (λ (lt : 1 < unsigned_abs m). more lt) (λ (le : unsigned_abs m ≤ 1). at_one le) (cases_lt 1 (unsigned_abs m))
    where
      bound : unsigned_abs part * unsigned_abs m ≤ unsigned_abs wrapped
      bound = quotient_bound wrapped m

      more : 1 < unsigned_abs m → unsigned_abs part < 2 ^ 63
      more lt =
          let twice : unsigned_abs part * 2 ≤ unsigned_abs part * unsigned_abs m = mul-le-mul_left (unsigned_abs part) lt in
          let top = signed_abs wrapped wrapped_fits in
          omega (arith, bound, twice, top)

      at_one : unsigned_abs m ≤ 1 → unsigned_abs part < 2 ^ 63
      at_one le =
          let one : unsigned_abs m ≡ 1 = omega (arith, h, le) in
          let abs : unsigned_abs (m *ℤ n) ≡ unsigned_abs n = unsigned_abs-mul m n ∙ (ap (λ x. x * unsigned_abs n) one ∙ let e : 1 * unsigned_abs n ≡ unsigned_abs n = omega arith in e) in
          let same : unsigned_abs wrapped ≡ unsigned_abs n = ap unsigned_abs (not_wrapped (subst (λ x. x ≤ 2 ^ 53) (sym abs) hn)) ∙ abs in
          let b : unsigned_abs part * 1 ≤ unsigned_abs wrapped = subst (λ x. unsigned_abs part * x ≤ unsigned_abs wrapped) one bound in
          omega (arith, b, same, hn)

  part_word : 0 < unsigned_abs m → quotient_signed w64 product (word m) ≡ Ok (word part)
  part_word h =
      ap (λ p. quotient_signed w64 p (word m)) product_word
      ∙ (ap₂ (λ x y. if nat_eq (word m) 0 then Err DivideByZero else if is_integer w64 (int_div x y) then Ok (word (int_div x y)) else Err IntegerOverflow) (to_z-of_z w64 wrapped wrapped_fits) (to_z-of_z w64 m (fits m hm))
      ∙ (ap (λ b. if b then Err DivideByZero else if is_integer w64 part then Ok (word part) else Err IntegerOverflow) (not_zero m (fits m hm) h)
      ∙ ap (λ b. if b then Ok (word part) else Err IntegerOverflow) (is_signed part (part_small h))))

  same_part : (q : Bool) → nat_eq (word part) (word n) ≡ q → 0 < unsigned_abs m → q ≡ true → part ≡ n
  same_part q e h t =
      let f : FitsSigned w64 part = fits_signed_from_abs w64 part (part_small h) in
      sym (to_z-of_z w64 part f) ∙ (ap (cast_signed w64) (eqb-true (word part) (word n) (e ∙ t)) ∙ to_z-of_z w64 n (fits n hn))

  -- the divisor: the first factor, or 1 where that is 0
  abbrev pub divisor : ℕ
  divisor = (word m + (if nat_eq (word m) 0 then 1 else 0)) % 2 ^ 64

  -- what the division says of the range
  pub record Told : Type 0 where
    pub quotient : ℕ
    pub divides : quotient_signed w64 product divisor ≡ Ok quotient
    pub tells : ((not (nat_eq quotient (word n)) && not (nat_eq (word m) 0)) || is_out product) ≡ not (nat_le (unsigned_abs (m *ℤ n)) (2 ^ 53))
    pub is_product : nat_le (unsigned_abs (m *ℤ n)) (2 ^ 53) ≡ true → product ≡ word (m *ℤ n)

  product_is : nat_le (unsigned_abs (m *ℤ n)) (2 ^ 53) ≡ true → product ≡ word (m *ℤ n)
  product_is e = product_word ∙ ap word (not_wrapped (within (unsigned_abs (m *ℤ n)) (2 ^ 53) e))

  pub told_some : 0 < unsigned_abs m → Told
  told_some h = record { quotient = word part; divides = divides; tells = by (nat_le (unsigned_abs (m *ℤ n)) (2 ^ 53)) refl; is_product = product_is }
    where
      no_zero : nat_eq (word m) 0 ≡ false
      no_zero = not_zero m (fits m hm) h

      divides : quotient_signed w64 product divisor ≡ Ok (word part)
      divides =
          ap (λ b. quotient_signed w64 product ((word m + (if b then 1 else 0)) % 2 ^ 64)) no_zero
          ∙ (ap (quotient_signed w64 product) (let lt = word_below m (fits m hm) in mod_small (word m + 0) (omega (arith, lt)) ∙ (let e : word m + 0 ≡ word m = omega arith in e))
          ∙ part_word h)

      out-is : wrapped ≡ m *ℤ n → is_out product ≡ not (nat_le (unsigned_abs (m *ℤ n)) (2 ^ 53))
      out-is e = ap is_out product_word ∙ (out_word wrapped wrapped_fits ∙ ap (λ z. not (nat_le (unsigned_abs z) (2 ^ 53))) e)

      different : (q r : Bool) → nat_eq (word part) (word n) ≡ q → nat_le (unsigned_abs (m *ℤ n)) (2 ^ 53) ≡ r → r ≡ false → ((not q && true) || is_out product) ≡ true
      different false r e l f = refl
      different true r e l f = out-is (told_by_part h (same_part true e h refl)) ∙ ap not (l ∙ f)

      by : (r : Bool) → nat_le (unsigned_abs (m *ℤ n)) (2 ^ 53) ≡ r → ((not (nat_eq (word part) (word n)) && not (nat_eq (word m) 0)) || is_out product) ≡ not r
      by true l =
          let e = not_wrapped (within (unsigned_abs (m *ℤ n)) (2 ^ 53) l) in
          let q : part ≡ n = ap (λ z. int_div z m) (e ∙ *ℤ_comm m n) ∙ exact n m h in
          ap₂ (λ x y. (not x && not (nat_eq (word m) 0)) || y) (eq-eqb (word part) (word n) (ap word q)) (out-is e ∙ ap not l)
      by false l =
          ap (λ x. (not (nat_eq (word part) (word n)) && not x) || is_out product) no_zero
          ∙ different (nat_eq (word part) (word n)) (nat_le (unsigned_abs (m *ℤ n)) (2 ^ 53)) refl refl l

  pub told_none : unsigned_abs m ≡ 0 → Told
  told_none z = record { quotient = word (int_div (pos 0) (pos 1)); divides = divides; tells = tells; is_product = product_is }
    where
      zero-m : m ≡ pos 0
      zero-m = zero_abs m z

      none : product ≡ 0
      none = ap (λ x. (word x * word n) % 2 ^ 64) zero-m ∙ (let e : 0 * word n ≡ 0 = omega arith in ap (λ x. x % 2 ^ 64) e)

      zero-word : nat_eq (word m) 0 ≡ true
      zero-word = eq-eqb (word m) 0 (ap word zero-m)

      one : divisor ≡ 1
      one = ap₂ (λ x b. (x + (if b then 1 else 0)) % 2 ^ 64) (ap word zero-m) zero-word

      divides : quotient_signed w64 product divisor ≡ Ok (word (int_div (pos 0) (pos 1)))
      divides = ap₂ (quotient_signed w64) none one

      abs : unsigned_abs (m *ℤ n) ≡ 0
      abs = unsigned_abs-mul m n ∙ (ap (λ x. x * unsigned_abs n) z ∙ let e : 0 * unsigned_abs n ≡ 0 = omega arith in e)

      and_none : (b : Bool) → (b && false) ≡ false
      and_none true = refl
      and_none false = refl

      tells : ((not (nat_eq (word (int_div (pos 0) (pos 1))) (word n)) && not (nat_eq (word m) 0)) || is_out product) ≡ not (nat_le (unsigned_abs (m *ℤ n)) (2 ^ 53))
      tells =
          ap (λ b. (not (nat_eq (word (int_div (pos 0) (pos 1))) (word n)) && not b) || is_out product) zero-word
          ∙ (ap (λ b. b || is_out product) (and_none (not (nat_eq (word (int_div (pos 0) (pos 1))) (word n))))
          ∙ (ap is_out none ∙ ap (λ x. not (nat_le x (2 ^ 53))) (sym abs)))

  pub told : Told
  told = ⊎_elim (λ (lt : 0 < unsigned_abs m). told_some lt) (λ (le : unsigned_abs m ≤ 0). told_none (omega (arith, le))) (cases_lt 0 (unsigned_abs m))
