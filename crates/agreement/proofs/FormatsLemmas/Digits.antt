-- The digits of a number, and zeros before them.
use Rattle.std.proofs.Common.{◌≡◌, ◌≢◌, ◌⊎◌, inl, inr, ◌<◌, ◌≤◌, ℕ, zero, suc, ◌+◌, ◌-◌, ◌*◌, ◌/◌, ◌%◌, ◌^◌, max, Bool, true, false, List, [], ◌∷◌, ◌++◌, length, refl, ap, ◌∙◌, arith, eq-eqb}
use Rattle.std.specs.Prelude.{◌==◌, if◌then◌else◌}
use Rattle.std.specs.Fmt.{digit_glyph, digits, digits_onto}
use Rattle.std.specs.Str.Parse.{AllDigits, digits_value, digits_value_after}
use Rattle.std.proofs.lemmas.Bool.{cases_eq, cases_lt}
use Rattle.std.proofs.lemmas.Bool.Decides.{nat_tests}
use Rattle.std.proofs.lemmas.Fmt.{digits_is_IsNumeral}
use Rattle.std.proofs.lemmas.List.{length-append, length-replicate}
use Rattle.std.proofs.lemmas.Nat.{mod_below, div_below, div-add-mod'}
use Rattle.std.proofs.Math.Nat.{pow-suc, pow-zero}
use Rattle.sem_primitives.specs.Formats.{zeros, filled}
use Rattle.agreement.specs.Formats.Written.{AreDigits, AreInCase, AreMarked, BeginsWith}

not_zero : (n : ℕ) → (n ≡ 0 → ⊥) → (n == 0) ≡ false
not_zero n h = grind (arith, nat_tests)

glyph : (upper : Bool) (d : ℕ) → d < 16 → d ≢ 0 → digit_glyph upper d ≢ 48
glyph true d l h e = h (grind (arith, nat_tests))
glyph false d l h e = h (grind (arith, nat_tests))

-- the first digit of a number that is not 0 is not 0
first : (k base : ℕ) (upper : Bool) (n : ℕ) (acc : List ℕ)
    → 2 ≤ base → base ≤ 16 → n ≢ 0 → n < base ^ k → BeginsWith 48 (digits_onto k base upper n acc) → ⊥
first zero base upper n acc low high h l = let p = pow-zero base in absurd (h (omega arith))
first (suc k) base upper n acc low high h l =
    by (first k base upper (n / base) (digit_glyph upper (n % base) ∷ acc) low high) (n / base == 0) refl
  where
    by : (n / base ≢ 0 → n / base < base ^ k → BeginsWith 48 (digits_onto k base upper (n / base) (digit_glyph upper (n % base) ∷ acc)) → ⊥)
        → (t : Bool) → (n / base == 0) ≡ t
        → BeginsWith 48 (if t then digit_glyph upper (n % base) ∷ acc else digits_onto k base upper (n / base) (digit_glyph upper (n % base) ∷ acc)) → ⊥
    by more true e b =
        let none : n / base ≡ 0 = grind (arith, nat_tests) in
        let rest = div-add-mod' n base in
        let product : n / base * base ≡ 0 * base = ap (λ k. k * base) none in
        let whole : n % base ≡ n = omega arith in
        let small = mod_below n base (omega arith) in
        glyph upper (n % base) (omega arith) (λ z. h (omega arith)) b
    by more false e b =
        let some : n / base ≢ 0 = grind (arith, nat_tests) in
        let p = pow-suc base k in
        more some (div_below n base (base ^ k) (omega arith) (omega arith)) b

glyph_cased : (upper : Bool) (d : ℕ) (acc : List ℕ) → d < 16 → AreInCase upper acc → AreInCase upper (digit_glyph upper d ∷ acc)
glyph_cased true d acc l h = (grind (arith, nat_tests), h)
glyph_cased false d acc l h =
    (elim (cases_lt d 10) [ inl few ↦ inl (grind (arith, nat_tests)) | inr many ↦ inr (grind (arith, nat_tests)) ], h)

cased : (k base : ℕ) (upper : Bool) (n : ℕ) (acc : List ℕ)
    → 2 ≤ base → base ≤ 16 → AreInCase upper acc → AreInCase upper (digits_onto k base upper n acc)
cased zero base upper n acc low high h = h
cased (suc k) base upper n acc low high h =
    by (cased k base upper (n / base) (digit_glyph upper (n % base) ∷ acc) low high) (n / base == 0)
  where
    small : n % base < 16
    small = let b = mod_below n base (omega arith) in omega arith

    by : (AreInCase upper (digit_glyph upper (n % base) ∷ acc) → AreInCase upper (digits_onto k base upper (n / base) (digit_glyph upper (n % base) ∷ acc)))
        → (t : Bool)
        → AreInCase upper (if t then digit_glyph upper (n % base) ∷ acc else digits_onto k base upper (n / base) (digit_glyph upper (n % base) ∷ acc))
    by more true = glyph_cased upper (n % base) acc small h
    by more false = more (glyph_cased upper (n % base) acc small h)

none_cased : (upper : Bool) → AreInCase upper []
none_cased upper = tt

single : (base : ℕ) (upper : Bool) (n : ℕ) → n / base ≡ 0 → length (digits base upper n) ≡ 1
unfolding digits
single base upper n e =
    ap (λ b. length (if b then digit_glyph upper (n % base) ∷ [] else digits_onto 63 base upper (n / base) (digit_glyph upper (n % base) ∷ [])))
    (eq-eqb (n / base) 0 e)

pub first_of : (base : ℕ) (upper : Bool) (n : ℕ) → 2 ≤ base → base ≤ 16 → n < base ^ 64 → n ≢ 0 → BeginsWith 48 (digits base upper n) → ⊥
unfolding digits
first_of base upper n low high l h b = first 64 base upper n [] low high h l b

cased_of : (base : ℕ) (upper : Bool) (n : ℕ) → 2 ≤ base → base ≤ 16 → AreInCase upper (digits base upper n)
unfolding digits
cased_of base upper n low high = cased 64 base upper n [] low high (none_cased upper)

nought : (base : ℕ) → 2 ≤ base → 0 / base ≡ 0
nought base low = let b = div_below 0 base 1 (omega arith) (omega arith) in omega arith

-- one digit at least, and no 0 that the value does not need
pub plain : (base : ℕ) (upper : Bool) (n : ℕ) → 2 ≤ base → base ≤ 16 → n < base ^ 64 → AreDigits base upper 1 n (digits base upper n)
plain base upper n low high l =
    let h = digits_is_IsNumeral base upper low high n l in
    record { digits = h.0.1; case = cased_of base upper n low high; value = h.1; many = h.0.0; no_more = by (cases_eq n 0) }
  where
    by : (n ≡ 0) ⊎ (n ≡ 0 → ⊥) → BeginsWith 48 (digits base upper n) → length (digits base upper n) ≤ 1
    by (inl z) b = let e = single base upper n (ap (λ k. k / base) z ∙ nought base low) in omega arith
    by (inr h) b = absurd (first_of base upper n low high l h b)

-- of a number that is not 0 no digit is asked for
pub plain_some : (base : ℕ) (upper : Bool) (n : ℕ)
    → 2 ≤ base → base ≤ 16 → n < base ^ 64 → n ≢ 0 → AreDigits base upper 0 n (digits base upper n)
plain_some base upper n low high l h =
    let p = plain base upper n low high l in
    record { digits = p.digits; case = p.case; value = p.value; many = omega arith; no_more = λ b. absurd (first_of base upper n low high l h b) }

pub no_digits : (base : ℕ) (upper : Bool) → AreDigits base upper 0 0 []
no_digits base upper = record { digits = tt; case = none_cased upper; value = refl; many = omega arith; no_more = λ b. absurd b }

-- ---- zeros before digits

zeros_digits : (base : ℕ) → 2 ≤ base → (k : ℕ) (ds : List ℕ) → AllDigits base ds → AllDigits base (zeros k ++ ds)
zeros_digits base low zero ds h = h
zeros_digits base low (suc k) ds h = (omega arith, zeros_digits base low k ds h)

zeros_value : (base k : ℕ) (ds : List ℕ) → digits_value base (zeros k ++ ds) ≡ digits_value base ds
zeros_value base zero ds = refl
zeros_value base (suc k) ds = ap (λ a. digits_value_after base a (zeros k ++ ds)) {x = 0 * base + 0} {y = 0} (omega arith) ∙ zeros_value base k ds

zeros_cased : (upper : Bool) (k : ℕ) (ds : List ℕ) → AreInCase upper ds → AreInCase upper (zeros k ++ ds)
zeros_cased upper zero ds h = h
zeros_cased true (suc k) ds h = (omega arith, zeros_cased true k ds h)
zeros_cased false (suc k) ds h = (inl (omega arith), zeros_cased false k ds h)

pub length_zeros : (k : ℕ) (ds : List ℕ) → length (zeros k ++ ds) ≡ k + length ds
length_zeros k ds = length-append (zeros k) ds ∙ ap (λ n. n + length ds) (length-replicate k 48)

pub fill : (base : ℕ) (upper : Bool) (least n w : ℕ) (ds : List ℕ)
    → 2 ≤ base → AreDigits base upper least n ds → AreDigits base upper (max least w) n (filled w ds)
fill base upper least n w ds low h = by (w - length ds) refl
  where
    by : (k : ℕ) → w - length ds ≡ k → AreDigits base upper (max least w) n (zeros k ++ ds)
    by k e =
        let size = length_zeros k ds in
        let many = h.many in
        record {
          digits = zeros_digits base low k ds h.digits;
          case = zeros_cased upper k ds h.case;
          value = zeros_value base k ds ∙ h.value;
          many = omega arith;
          no_more = no_more k e;
        }
      where
        no_more : (j : ℕ) → w - length ds ≡ j → BeginsWith 48 (zeros j ++ ds) → length (zeros j ++ ds) ≤ max least w
        no_more zero f b = let m = h.no_more b in omega arith
        no_more (suc j) f b = let size = length_zeros (suc j) ds in omega arith

-- ---- octal digits with a 0 at the front

pub marked_fill : (least n w : ℕ) (ds : List ℕ) → AreMarked least n ds → AreMarked (max least w) n (filled w ds)
marked_fill least n w ds h = by (w - length ds) refl
  where
    by : (k : ℕ) → w - length ds ≡ k → AreMarked (max least w) n (zeros k ++ ds)
    by zero e = let many = h.many in record {
      digits = h.digits;
      value = h.value;
      many = omega arith;
      begins = h.begins;
      no_more = λ rest f b. let m : length ds ≤ least = h.no_more rest f b in omega arith;
    }
    by (suc k) e =
        let size = length_zeros (suc k) ds in
        let many = h.many in
        record {
          digits = zeros_digits 8 (omega arith) (suc k) ds h.digits;
          value = zeros_value 8 (suc k) ds ∙ h.value;
          many = omega arith;
          begins = refl;
          no_more = λ rest f b. omega arith;
        }
