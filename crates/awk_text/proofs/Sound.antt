-- What the reading functions take off a text is what number text is made of.
use Rattle.std.proofs.Common.{◌≡◌, ℕ, ◌≤◌, Bool, true, false, Option, Some, None, List, [], ◌∷◌, ◌++◌, length, append_assoc, refl, sym, ◌∙◌, ap, subst, arith, inl, inr}
use Rattle.std.specs.Prelude.{◌==◌, ◌&&◌, ◌||◌}
use Rattle.std.proofs.lemmas.Bool.{cond_both, eqb-true, or_cases}
use Rattle.awk_text.specs.Reading.{Numeral, is_digit, is_space, digits_at, sign_at, fraction_at, exponent_at, numeral_at}
use Rattle.awk_text.specs.NumberText.{IsSign, IsFraction, IsExponent, IsFront}
use Rattle.awk_text.proofs.Splits.{split_while, split-passes, split-whole}

-- a part is taken off the front, and the rest is left
record IsTaken (P : List ℕ → Type 0) (bytes rest : List ℕ) : Type 0 where
  part : List ℕ
  is : P part
  parted : bytes ≡ part ++ rest

sign_taken : (bytes : List ℕ) → IsTaken (λ part. IsSign part (sign_at bytes).0) bytes (sign_at bytes).1
unfolding sign_at
sign_taken [] = record { part = []; is = inl (refl, refl); parted = refl }
sign_taken (c ∷ cs) = cond_both (c == 45) (true, cs) _ (λ (r : Bool × List ℕ). IsTaken (λ part. IsSign part r.0) (c ∷ cs) r.1)
    (λ e. record { part = 45 ∷ []; is = inr (inr (refl, refl)); parted = ap (λ (b : ℕ). b ∷ cs) (eqb-true c 45 e) })
    (λ _. cond_both (c == 43) (false, cs) (false, c ∷ cs) (λ (r : Bool × List ℕ). IsTaken (λ part. IsSign part r.0) (c ∷ cs) r.1)
    (λ e. record { part = 43 ∷ []; is = inr (inl (refl, refl)); parted = ap (λ (b : ℕ). b ∷ cs) (eqb-true c 43 e) })
    (λ _. record { part = []; is = inl (refl, refl); parted = refl }))

fraction_taken : (bytes : List ℕ) → IsTaken (λ part. IsFraction part (fraction_at bytes).0) bytes (fraction_at bytes).1
unfolding fraction_at
fraction_taken [] = record { part = []; is = inl (refl, refl); parted = refl }
fraction_taken (c ∷ cs) = cond_both (c == 46) (digits_at cs) ([], c ∷ cs) (λ (r : List ℕ × List ℕ). IsTaken (λ part. IsFraction part r.0) (c ∷ cs) r.1)
    (λ e. record {
      part = 46 ∷ (digits_at cs).0;
      is = inr (refl, split-passes is_digit cs);
      parted = ap (λ (b : ℕ). b ∷ cs) (eqb-true c 46 e) ∙ ap (λ (t : List ℕ). 46 ∷ t) (split-whole is_digit cs);
    })
    (λ _. record { part = []; is = inl (refl, refl); parted = refl })

some_digit : (digits : List ℕ) → (length digits == 0) ≡ false → 1 ≤ length digits
some_digit [] e = absurd (cc)
some_digit (d ∷ ds) e = omega arith

exponent_taken : (bytes : List ℕ) → IsTaken (λ part. IsExponent part (exponent_at bytes).0.0 (exponent_at bytes).0.1) bytes (exponent_at bytes).1
unfolding exponent_at
exponent_taken [] = record { part = []; is = inl (refl, refl, refl); parted = refl }
exponent_taken (c ∷ cs) =
    let sign = sign_taken cs in
    let digits = digits_at (sign_at cs).1 in
    let P : (Bool × List ℕ) × List ℕ → Type 0 = λ r. IsTaken (λ part. IsExponent part r.0.0 r.0.1) (c ∷ cs) r.1 in
    let none : P ((false, []), c ∷ cs) = record { part = []; is = inl (refl, refl, refl); parted = refl } in
    cond_both ((c == 101) || (c == 69)) _ ((false, []), c ∷ cs) P
    (λ m. cond_both (length digits.0 == 0) ((false, []), c ∷ cs) (((sign_at cs).0, digits.0), digits.1) P (λ _. none)
    (λ some. record {
      part = c ∷ (sign.part ++ digits.0);
      is = inr record {
        mark = c;
        sign = sign.part;
        parted = refl;
        marked = elim (or_cases (c == 101) (c == 69) m) [ inl e ↦ inl (eqb-true c 101 e) | inr e ↦ inr (eqb-true c 69 e) ];
        signed = sign.is;
        all_digits = split-passes is_digit (sign_at cs).1;
        some = some_digit digits.0 some;
      };
      parted = ap (λ (t : List ℕ). c ∷ t) (sign.parted ∙ ap (λ (t : List ℕ). sign.part ++ t) (split-whole is_digit (sign_at cs).1) ∙ sym (append_assoc sign.part digits.0 digits.1));
    }))
    (λ _. none)

some_of : (whole fraction : List ℕ) → ((length whole == 0) && (length fraction == 0)) ≡ false → 1 ≤ length (whole ++ fraction)
some_of [] [] e = absurd (cc)
some_of [] (c ∷ cs) e = omega arith
some_of (c ∷ cs) fraction e = omega arith

regroup : (a b c d e r : List ℕ) → a ++ (b ++ (c ++ (d ++ (e ++ r)))) ≡ (a ++ (b ++ (c ++ (d ++ e)))) ++ r
regroup a b c d e r = sym (simp append_assoc)

-- what is read is a prefix that is number text, and what follows it
abbrev IsRead : List ℕ → Option (Numeral × List ℕ) → Type 0
IsRead bytes None = Unit {0}
IsRead bytes (Some read) = IsFront bytes read.0 read.1

numeral_taken : (bytes : List ℕ) → IsRead bytes (numeral_at bytes)
unfolding numeral_at
numeral_taken bytes =
    let spaces = split_while is_space bytes in
    let sign = sign_taken spaces.1 in
    let whole = digits_at (sign_at spaces.1).1 in
    let fraction = fraction_taken whole.1 in
    let exponent = exponent_taken (fraction_at whole.1).1 in
    cond_both ((length whole.0 == 0) && (length (fraction_at whole.1).0 == 0)) None (Some _) (IsRead bytes) (λ _. tt)
    (λ some. record {
      front = spaces.0 ++ (sign.part ++ (whole.0 ++ (fraction.part ++ exponent.part)));
      parted =
          split-whole is_space bytes
          ∙ ap (λ (t : List ℕ). spaces.0 ++ t) (sign.parted
          ∙ ap (λ (t : List ℕ). sign.part ++ t) (split-whole is_digit (sign_at spaces.1).1
          ∙ ap (λ (t : List ℕ). whole.0 ++ t) (fraction.parted ∙ ap (λ (t : List ℕ). fraction.part ++ t) exponent.parted)))
          ∙ regroup spaces.0 sign.part whole.0 fraction.part exponent.part _;
      is = record {
        spaces = spaces.0;
        sign = sign.part;
        point = fraction.part;
        exponent = exponent.part;
        parted = refl;
        blank = split-passes is_space bytes;
        signed = sign.is;
        whole = split-passes is_digit (sign_at spaces.1).1;
        fraction = fraction.is;
        some = some_of whole.0 (fraction_at whole.1).0 some;
        exponent_is = exponent.is;
      };
    })

pub numeral_sound : (bytes : List ℕ) (n : Numeral) (rest : List ℕ) → numeral_at bytes ≡ Some (n, rest) → IsFront bytes n rest
numeral_sound bytes n rest e = subst (IsRead bytes) e (numeral_taken bytes)
