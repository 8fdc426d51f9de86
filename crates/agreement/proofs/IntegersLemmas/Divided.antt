-- Quotients, remainders and shifts to the right.
use Rattle.std.proofs.Common.{◌≡◌, ◌↔◌, ◌⊎◌, inl, inr, ◌<◌, ◌≤◌, ℕ, zero, suc, Bool, true, false, ◌+◌, ◌-◌, ◌*◌, ◌/◌, ◌%◌, ◌^◌, Result, Ok, Err, refl, sym, ap, ap₂, subst, ◌∙◌, arith}
use Rattle.std.specs.Prelude.{ℤ, pos, negsuc, neg_ℤ, unsigned_abs, ◌≤ℤ◌, ◌+ℤ◌, nat_eq, nat_lt, if◌then◌else◌, int_div, int_rem, FitsSigned}
use Rattle.std.specs.Int.{Width, cast_signed, cast_unsigned, int_shr}
use lib.Signed.{mag_rem, mag_shr}
use mir.Val.{bits, hbits, sel}
use Rattle.std.proofs.lemmas.Nat.{pow_pos, mod_below, div_below, div-add-mod', mul-le}
use Rattle.std.proofs.Math.Nat.{div-le_self, suc-mul}
use borrow.Author.Tests.{ltb-false}
use Rattle.std.proofs.lemmas.Bool.Decides.{nat_tests}
use Rattle.std.proofs.lemmas.Int.{ints, to_z-of_z, quot-rem, rem_below}
use Rattle.wasm_store.specs.declared.trap.TrapKind.{TrapKind}
use Rattle.wasm_store.specs.declared.trap.TrapKind.TheVariants.{DivideByZero, IntegerOverflow}
use Rattle.wasm_store.specs.Integers.{is_integer, quotient_signed}
use Rattle.wasm_store.specs.IntegerParts.{quotient_unsigned, remainder_signed, remainder_unsigned, shifted_right_signed}
use Rattle.agreement.specs.Integers.Arithmetic.{IsDivided, IsDividedSigned, IsDividedDown}
use Rattle.agreement.proofs.IntegersLemmas.Wrapped.{signed_fits, twos_complement}

abbrev Answer : Type 0
Answer = Result ℕ TrapKind

abbrev answer : ℕ → Bool → Answer
answer x t = if t then Err DivideByZero else Ok x

abbrev refusal : TrapKind → Answer
refusal kind = Err kind

is_zero : (b : ℕ) → nat_eq b 0 ≡ true → b ≡ 0
is_zero b e = grind (arith, nat_tests)

zero_is : (n : ℕ) → n ≡ 0 → nat_eq n 0 ≡ true
zero_is n e = grind (arith, nat_tests)

not_zero : (b : ℕ) → nat_eq b 0 ≡ false → 0 < b
not_zero b e = grind (arith, nat_tests)

-- what a division by a number that is not 0 gives; by 0 it traps
answered : {x c : ℕ} (t : Bool) → ◌≡◌ {A = Answer} (if t then Err DivideByZero else Ok x) (Ok c) → (t ≡ false) × (x ≡ c)
answered true e = absurd (cc)
answered false e = (refl, cc)

refused : (x b : ℕ) (kind : TrapKind) → (◌≡◌ {A = Answer} (if nat_eq b 0 then Err DivideByZero else Ok x) (Err kind)) ↔ ((b ≡ 0) × (kind ≡ DivideByZero))
refused x b kind = (by (nat_eq b 0) refl, λ h. ap (answer x) (zero_is b h.0) ∙ ap refusal (sym h.1))
  where
    by : (t : Bool) → nat_eq b 0 ≡ t → ◌≡◌ {A = Answer} (if t then Err DivideByZero else Ok x) (Err kind) → (b ≡ 0) × (kind ≡ DivideByZero)
    by true e h = (is_zero b e, cc)
    by false e h = absurd (cc)

pub unsigned_refused : (a b : ℕ) (kind : TrapKind) → (quotient_unsigned a b ≡ Err kind) ↔ ((b ≡ 0) × (kind ≡ DivideByZero))
unsigned_refused a b kind = refused (a / b) b kind

pub unsigned_rest_refused : (a b : ℕ) (kind : TrapKind) → (remainder_unsigned a b ≡ Err kind) ↔ ((b ≡ 0) × (kind ≡ DivideByZero))
unsigned_rest_refused a b kind = refused (a % b) b kind

pub signed_rest_refused : (w : Width) (a b : ℕ) (kind : TrapKind) → (remainder_signed w a b ≡ Err kind) ↔ ((b ≡ 0) × (kind ≡ DivideByZero))
signed_rest_refused w a b kind = refused (cast_unsigned w (int_rem (cast_signed w a) (cast_signed w b))) b kind

pub divided : (a b : ℕ) → 0 < b → IsDivided a b (a / b) (a % b)
divided a b h = record { equation = sym (div-add-mod' a b); below = mod_below a b h }

pub unsigned_quotient : (a b q : ℕ) → quotient_unsigned a b ≡ Ok q → (r : ℕ) × IsDivided a b q r
unsigned_quotient a b q e =
    let h = answered (nat_eq b 0) e in
    (a % b, subst (λ (n : ℕ). IsDivided a b n (a % b)) h.1 (divided a b (not_zero b h.0)))

pub unsigned_rest : (a b r : ℕ) → remainder_unsigned a b ≡ Ok r → (q : ℕ) × IsDivided a b q r
unsigned_rest a b r e =
    let h = answered (nat_eq b 0) e in
    (a / b, subst (λ (n : ℕ). IsDivided a b (a / b) n) h.1 (divided a b (not_zero b h.0)))

-- ---- signed

apart : (z : ℤ) (b m : ℕ) → (pos b ≡ z) ⊎ (pos b ≡ z +ℤ pos m) → b < m → 0 < b → 0 < unsigned_abs z
apart (pos zero) b m (inl e) l h = let f : b ≡ 0 = cc in omega arith
apart (pos zero) b m (inr e) l h = let f : pos b ≡ pos (0 + m) = e in let g : b ≡ 0 + m = cc in omega arith
apart (pos (suc k)) b m e l h = omega arith
apart (negsuc k) b m e l h = omega arith

nonzero : (w : Width) (b : ℕ) → b < 2 ^ bits w → 0 < b → 0 < unsigned_abs (cast_signed w b)
nonzero w b l h = apart (cast_signed w b) b (2 ^ bits w) (twos_complement w b l).same l h

above : (x y : ℤ) → pos 0 ≤ℤ x → pos 0 ≤ℤ int_rem x y
above (pos a) y h = omega (arith, ints)
above (negsuc a) y h = absurd (omega (arith, ints))

below : (x y : ℤ) → x ≤ℤ pos 0 → int_rem x y ≤ℤ pos 0
below (pos zero) y h = omega (arith, ints)
below (pos (suc a)) y h = absurd (omega (arith, ints))
below (negsuc a) y h = negative (suc a % unsigned_abs y)
  where
    negative : (n : ℕ) → neg_ℤ (pos n) ≤ℤ pos 0
    negative zero = omega (arith, ints)
    negative (suc n) = omega (arith, ints)

divided_signed : (x y : ℤ) → 0 < unsigned_abs y → IsDividedSigned x y (int_div x y) (int_rem x y)
divided_signed x y h = record { equation = sym (quot-rem x y); below = rem_below x y h; above_zero = above x y; below_zero = below x y }

-- an integer of the width is read from its pattern
fits : (w : Width) (z : ℤ) → is_integer w z ≡ true → FitsSigned w z
fits w (pos n) e = record { sfits = grind (arith, nat_tests) }
fits w (negsuc n) e = record { sfits = grind (arith, nat_tests) }

abbrev signed_answer : Width → ℕ → ℕ → Bool → Bool → Answer
signed_answer w a b t i =
    if t then Err DivideByZero else if i then Ok (cast_unsigned w (int_div (cast_signed w a) (cast_signed w b))) else Err IntegerOverflow

pub signed_quotient : (w : Width) (a b q : ℕ) → a < 2 ^ bits w → b < 2 ^ bits w → quotient_signed w a b ≡ Ok q
    → (r : ℤ) × IsDividedSigned (cast_signed w a) (cast_signed w b) (cast_signed w q) r
signed_quotient w a b q la lb = by (nat_eq b 0) refl (is_integer w (int_div (cast_signed w a) (cast_signed w b))) refl
  where
    by : (t : Bool) → nat_eq b 0 ≡ t → (i : Bool) → is_integer w (int_div (cast_signed w a) (cast_signed w b)) ≡ i
        → signed_answer w a b t i ≡ Ok q
        → (r : ℤ) × IsDividedSigned (cast_signed w a) (cast_signed w b) (cast_signed w q) r
    by true e i f h = absurd (cc)
    by false e false f h = absurd (cc)
    by false e true f h =
        let same : cast_unsigned w (int_div (cast_signed w a) (cast_signed w b)) ≡ q = cc in
        let read : int_div (cast_signed w a) (cast_signed w b) ≡ cast_signed w q
        = sym (to_z-of_z w (int_div (cast_signed w a) (cast_signed w b)) (fits w (int_div (cast_signed w a) (cast_signed w b)) f))
        ∙ ap (cast_signed w) same in (
          int_rem (cast_signed w a) (cast_signed w b),
          subst (λ (z : ℤ). IsDividedSigned (cast_signed w a) (cast_signed w b) z (int_rem (cast_signed w a) (cast_signed w b)))
              read (divided_signed (cast_signed w a) (cast_signed w b) (nonzero w b lb (not_zero b e))),
        )

rest_fits : (w : Width) (x y : ℤ) → FitsSigned w x → FitsSigned w (int_rem x y)
rest_fits w x y f = record { sfits = let m = mag_rem x y in let s = f.sfits in omega arith }

pub signed_rest : (w : Width) (a b r : ℕ) → a < 2 ^ bits w → b < 2 ^ bits w → remainder_signed w a b ≡ Ok r
    → (q : ℤ) × IsDividedSigned (cast_signed w a) (cast_signed w b) q (cast_signed w r)
signed_rest w a b r la lb e =
    let h = answered (nat_eq b 0) e in
    let read : int_rem (cast_signed w a) (cast_signed w b) ≡ cast_signed w r
    = sym (to_z-of_z w (int_rem (cast_signed w a) (cast_signed w b)) (rest_fits w (cast_signed w a) (cast_signed w b) (signed_fits w a la)))
    ∙ ap (cast_signed w) h.1 in (
      int_div (cast_signed w a) (cast_signed w b),
      subst (λ (z : ℤ). IsDividedSigned (cast_signed w a) (cast_signed w b) (int_div (cast_signed w a) (cast_signed w b)) z)
          read (divided_signed (cast_signed w a) (cast_signed w b) (nonzero w b lb (not_zero b h.0))),
    )

-- ---- the quotient that is no integer

negative_fits : (w : Width) (n : ℕ) → n ≤ 2 ^ hbits w → is_integer w (neg_ℤ (pos n)) ≡ true
negative_fits w zero l = let p = pow_pos (hbits w) in grind (arith, nat_tests)
negative_fits w (suc n) l = grind (arith, nat_tests)

overflows : (w : Width) (x y : ℤ) → FitsSigned w x → 0 < unsigned_abs y → is_integer w (int_div x y) ≡ false
    → (x ≡ neg_ℤ (pos (2 ^ hbits w))) × (y ≡ negsuc 0)
overflows w (pos a) (pos b) f h e =
    let l = f.sfits in
    let d = div-le_self a b in
    let g = ltb-false (a / b) (2 ^ hbits w) e in
    absurd (omega arith)
overflows w (pos a) (negsuc b) f h e =
    let l = f.sfits in
    let d = div-le_self a (suc b) in
    let g : is_integer w (neg_ℤ (pos (a / suc b))) ≡ true = negative_fits w (a / suc b) (omega arith) in
    absurd (cc)
overflows w (negsuc a) (pos b) f h e =
    let l = f.sfits in
    let d = div-le_self (suc a) b in
    let g : is_integer w (neg_ℤ (pos (suc a / b))) ≡ true = negative_fits w (suc a / b) (omega arith) in
    absurd (cc)
overflows w (negsuc a) (negsuc zero) f h e =
    let l = f.sfits in
    let d = div-le_self (suc a) 1 in
    let g = ltb-false (suc a / 1) (2 ^ hbits w) e in
    (ap (λ n. neg_ℤ (pos n)) {x = suc a} {y = 2 ^ hbits w} (omega arith), refl)
overflows w (negsuc a) (negsuc (suc b)) f h e =
    let l = f.sfits in
    let p = pow_pos (hbits w) in
    let more = mul-le (2 ^ hbits w) 2 (2 ^ hbits w) (suc (suc b)) (omega arith) (omega arith) in
    let d = div_below (suc a) (suc (suc b)) (2 ^ hbits w) (omega arith) (omega arith) in
    let g = ltb-false (suc a / suc (suc b)) (2 ^ hbits w) e in
    absurd (omega arith)

pub signed_refused : (w : Width) (a b : ℕ) (kind : TrapKind) → a < 2 ^ bits w → b < 2 ^ bits w → quotient_signed w a b ≡ Err kind
    → ((b ≡ 0) × (kind ≡ DivideByZero)) ⊎ ((cast_signed w a ≡ neg_ℤ (pos (2 ^ hbits w))) × (cast_signed w b ≡ negsuc 0) × (kind ≡ IntegerOverflow))
signed_refused w a b kind la lb = by (nat_eq b 0) refl (is_integer w (int_div (cast_signed w a) (cast_signed w b))) refl
  where
    by : (t : Bool) → nat_eq b 0 ≡ t → (i : Bool) → is_integer w (int_div (cast_signed w a) (cast_signed w b)) ≡ i
        → signed_answer w a b t i ≡ Err kind
        → ((b ≡ 0) × (kind ≡ DivideByZero)) ⊎ ((cast_signed w a ≡ neg_ℤ (pos (2 ^ hbits w))) × (cast_signed w b ≡ negsuc 0) × (kind ≡ IntegerOverflow))
    by true e i f h = inl (is_zero b e, cc)
    by false e true f h = absurd (cc)
    by false e false f h =
        let o = overflows w (cast_signed w a) (cast_signed w b) (signed_fits w a la) (nonzero w b lb (not_zero b e)) f in
        inr (o.0, o.1, cc)

least_overflows : (w : Width) (half : ℕ) → 2 ^ hbits w ≡ half → is_integer w (int_div (neg_ℤ (pos half)) (negsuc 0)) ≡ false
least_overflows w zero e = let p = pow_pos (hbits w) in absurd (omega arith)
least_overflows w (suc half) e = let q : suc half / 1 ≡ suc half = omega arith in grind (arith, nat_tests)

minus_one : (w : Width) (b : ℕ) → cast_signed w b ≡ negsuc 0 → nat_eq b 0 ≡ false
minus_one w zero e =
    let p = pow_pos (hbits w) in
    let low : nat_lt 0 (2 ^ hbits w) ≡ true = grind (arith, nat_tests) in
    let z : cast_signed w 0 ≡ pos 0 = ap (λ t. sel t (pos 0) (negsuc (2 ^ bits w - 1))) low in
    absurd (cc)
minus_one w (suc b) e = grind (arith, nat_tests)

pub signed_refuses : (w : Width) (a b : ℕ) (kind : TrapKind)
    → ((b ≡ 0) × (kind ≡ DivideByZero)) ⊎ ((cast_signed w a ≡ neg_ℤ (pos (2 ^ hbits w))) × (cast_signed w b ≡ negsuc 0) × (kind ≡ IntegerOverflow))
    → quotient_signed w a b ≡ Err kind
signed_refuses w a b kind (inl h) =
    ap (λ t. signed_answer w a b t (is_integer w (int_div (cast_signed w a) (cast_signed w b)))) (zero_is b h.0) ∙ ap refusal (sym h.1)
signed_refuses w a b kind (inr h) =
    let none : is_integer w (int_div (cast_signed w a) (cast_signed w b)) ≡ false
    = ap₂ (λ x y. is_integer w (int_div x y)) h.0 h.1 ∙ least_overflows w (2 ^ hbits w) refl in
    ap₂ (signed_answer w a b) (minus_one w b h.1) none ∙ ap refusal (sym h.2)

-- ---- shifts

sum_below : (m k s : ℕ) → m ≡ k + suc s → negsuc s ≡ neg_ℤ (pos m) +ℤ pos k
sum_below zero k s e = absurd (omega arith)
sum_below (suc m) k s e = omega (arith, ints)

divided_down : (x : ℤ) (k : ℕ) → IsDividedDown x (2 ^ k) (int_shr x k)
divided_down (pos a) k = record { remainder = a % 2 ^ k; equation = ap pos (sym (div-add-mod' a (2 ^ k))); below = mod_below a (2 ^ k) (pow_pos k) }
divided_down (negsuc a) k =
    let p = pow_pos k in
    let l = mod_below a (2 ^ k) p in
    let e = div-add-mod' a (2 ^ k) in
    record {
      remainder = 2 ^ k - suc (a % 2 ^ k);
      equation = sum_below (suc (a / 2 ^ k) * 2 ^ k) (2 ^ k - suc (a % 2 ^ k)) a (rows (a / 2 ^ k) (2 ^ k) (a % 2 ^ k) e l);
      below = omega arith;
    }
  where
    rows : (q n r : ℕ) → q * n + r ≡ a → r < n → suc q * n ≡ (n - suc r) + suc a
    rows q n r f l = let more = suc-mul q n in omega arith

pub shifted : (w : Width) (a b q : ℕ) → a < 2 ^ bits w → shifted_right_signed w a b ≡ q
    → IsDividedDown (cast_signed w a) (2 ^ (b % bits w)) (cast_signed w q)
shifted w a b q la e =
    let f : FitsSigned w (int_shr (cast_signed w a) (b % bits w))
    = record { sfits = let m = mag_shr (cast_signed w a) (2 ^ (b % bits w)) in let s = (signed_fits w a la).sfits in omega arith } in
    let read : int_shr (cast_signed w a) (b % bits w) ≡ cast_signed w q = sym (to_z-of_z w (int_shr (cast_signed w a) (b % bits w)) f) ∙ ap (cast_signed w) e in
    subst (λ (z : ℤ). IsDividedDown (cast_signed w a) (2 ^ (b % bits w)) z) read (divided_down (cast_signed w a) (b % bits w))
