-- The longest number at the front.
use Rattle.std.proofs.Common.{◌≡◌, ℕ, zero, suc, ◌+◌, ◌<◌, ◌≤◌, Bool, true, false, cond, Option, Some, None, List, [], ◌∷◌, length, take, drop, refl, sym, ap, subst, ◌∙◌, arith, zero-add}
use Rattle.std.specs.Prelude.{option_map, take_while, ◌==◌, ◌&&◌, if◌then◌else◌}
use Rattle.std.proofs.lemmas.List.Sums.{take_while-cons}
use Rattle.awk_tokens.specs.Numbers.{is_digit, every, after_digits, are_digits, is_sign, is_scale, is_exponent_mark, is_exponent, is_fraction, begins_digit, is_number}
use Rattle.awk_tokens.specs.Reading.{digit_count, some_count, scale_at, marked_length, exponent_length, digits_length, fraction_length, number_at}
use Rattle.awk_tokens.proofs.Maximal.{counted, Closed, one_more, never, some_more, same_test}

count_more : (c : ℕ) (cs : List ℕ) → is_digit c ≡ true → digit_count (c ∷ cs) ≡ suc (digit_count cs)
count_more c cs e = ap length (take_while-cons is_digit c cs ∙ ap (λ b. cond b (c ∷ take_while is_digit cs) []) e)

count_none : (c : ℕ) (cs : List ℕ) → is_digit c ≡ false → digit_count (c ∷ cs) ≡ 0
count_none c cs e = ap length (take_while-cons is_digit c cs ∙ ap (λ b. cond b (c ∷ take_while is_digit cs) []) e)

some_digits : (cs : List ℕ) → Closed are_digits cs (some_count (digit_count cs))
some_digits [] = λ m le. by m
  where
    by : (m : ℕ) → are_digits (take m []) ≡ false
    by zero = refl
    by (suc m) = refl
some_digits (c ∷ cs) = by (is_digit c) refl
  where
    by : (b : Bool) → is_digit c ≡ b → Closed are_digits (c ∷ cs) (some_count (digit_count (c ∷ cs)))
    by true e = let h = counted is_digit cs in
        subst (λ (n : ℕ). Closed are_digits (c ∷ cs) (some_count n)) (sym (count_more c cs e))
        (some_more are_digits (every is_digit) c cs (digit_count cs) (λ t. ap (λ b. b && every is_digit t) e) h)
    by false e = subst (λ (n : ℕ). Closed are_digits (c ∷ cs) (some_count n)) (sym (count_none c cs e))
        (never are_digits c cs refl (λ t. ap (λ b. b && every is_digit t) e))

scales : (cs : List ℕ) → Closed is_scale cs (scale_at cs)
unfolding scale_at
scales [] = λ m le. by m
  where
    by : (m : ℕ) → is_scale (take m []) ≡ false
    by zero = refl
    by (suc m) = refl
scales (c ∷ cs) = by (is_sign c) refl
  where
    by : (b : Bool) → is_sign c ≡ b → Closed is_scale (c ∷ cs) (if b then option_map suc (some_count (digit_count cs)) else some_count (digit_count (c ∷ cs)))
    by true e = one_more is_scale are_digits c cs (some_count (digit_count cs)) refl (λ t. ap (λ b. cond b (are_digits t) (are_digits (c ∷ t))) e) (some_digits cs)
    by false e = same_test is_scale are_digits (c ∷ cs) (some_count (digit_count (c ∷ cs))) same (some_digits (c ∷ cs))
      where
        same : (m : ℕ) → is_scale (take m (c ∷ cs)) ≡ are_digits (take m (c ∷ cs))
        same zero = refl
        same (suc m) = ap (λ b. cond b (are_digits (take m cs)) (are_digits (c ∷ take m cs))) e

exponents : (cs : List ℕ) → Closed is_exponent cs (Some (exponent_length cs))
unfolding exponent_length
exponents [] = (omega arith, refl, λ m lt le. absurd (omega arith))
exponents (c ∷ cs) = by (is_exponent_mark c) refl (scale_at cs) (scales cs)
  where
    by : (b : Bool) → is_exponent_mark c ≡ b → (o : Option ℕ) → Closed is_scale cs o → Closed is_exponent (c ∷ cs) (Some (if b then marked_length o else 0))
    by true e (Some n) h = some_more is_exponent is_scale c cs n (λ t. ap (λ b. b && is_scale t) e) h
    by true e None h = (omega arith, refl, past)
      where
        past : (m : ℕ) → 0 < m → m ≤ length (c ∷ cs) → is_exponent (take m (c ∷ cs)) ≡ false
        past zero lt le = absurd (omega arith)
        past (suc m) lt le = ap (λ b. b && is_scale (take m cs)) e ∙ h m (omega arith)
    by false e o h = (omega arith, refl, past)
      where
        past : (m : ℕ) → 0 < m → m ≤ length (c ∷ cs) → is_exponent (take m (c ∷ cs)) ≡ false
        past zero lt le = absurd (omega arith)
        past (suc m) lt le = ap (λ b. b && is_scale (take m cs)) e

after_none : (m : ℕ) → after_digits (take m []) ≡ take m []
after_none zero = refl
after_none (suc m) = refl

-- digits in front of what passes a test that passes nothing at all, too
past_digits : (g : List ℕ → Bool) (cs : List ℕ) (n : ℕ) → Closed g (drop (digit_count cs) cs) (Some n) → Closed (λ t. g (after_digits t)) cs (Some (digit_count cs + n))
past_digits g [] n h = subst (λ (k : ℕ). Closed (λ t. g (after_digits t)) [] (Some k)) (sym (zero-add n)) (same_test (λ t. g (after_digits t)) g [] (Some n) (λ m. ap g (after_none m)) h)
past_digits g (c ∷ cs) n h = by (is_digit c) refl (λ k. past_digits g cs n k)
  where
    by : (b : Bool) → is_digit c ≡ b → (Closed g (drop (digit_count cs) cs) (Some n) → Closed (λ t. g (after_digits t)) cs (Some (digit_count cs + n))) → Closed (λ t. g (after_digits t)) (c ∷ cs) (Some (digit_count (c ∷ cs) + n))
    by true e go =
        let h' : Closed g (drop (digit_count cs) cs) (Some n) = subst (λ (k : ℕ). Closed g (drop k (c ∷ cs)) (Some n)) (count_more c cs e) h in
        subst (λ (k : ℕ). Closed (λ t. g (after_digits t)) (c ∷ cs) (Some k)) (omega (arith, count_more c cs e))
        (some_more (λ t. g (after_digits t)) (λ t. g (after_digits t)) c cs (digit_count cs + n) (λ t. ap (λ b. g (cond b (after_digits t) (c ∷ t))) e) (go h'))
    by false e go =
        let h' : Closed g (c ∷ cs) (Some n) = subst (λ (k : ℕ). Closed g (drop k (c ∷ cs)) (Some n)) (count_none c cs e) h in
        subst (λ (k : ℕ). Closed (λ t. g (after_digits t)) (c ∷ cs) (Some k)) (omega (arith, count_none c cs e))
        (same_test (λ t. g (after_digits t)) g (c ∷ cs) (Some n) same h')
      where
        same : (m : ℕ) → g (after_digits (take m (c ∷ cs))) ≡ g (take m (c ∷ cs))
        same zero = refl
        same (suc m) = ap (λ b. g (cond b (after_digits (take m cs)) (c ∷ take m cs))) e

digits_exponents : (cs : List ℕ) → Closed (λ t. is_exponent (after_digits t)) cs (Some (digits_length cs))
digits_exponents cs = past_digits is_exponent cs (exponent_length (drop (digit_count cs) cs)) (exponents (drop (digit_count cs) cs))

fractions : (cs : List ℕ) → Closed is_fraction cs (Some (fraction_length cs))
unfolding fraction_length
fractions [] = (omega arith, refl, λ m lt le. absurd (omega arith))
fractions (c ∷ cs) = by (c == 46) refl
  where
    by : (b : Bool) → (c == 46) ≡ b → Closed is_fraction (c ∷ cs) (Some (if b then suc (digits_length cs) else exponent_length (c ∷ cs)))
    by true e = some_more is_fraction (λ t. is_exponent (after_digits t)) c cs (digits_length cs) (λ t. ap (λ b. cond b (is_exponent (after_digits t)) (is_exponent (c ∷ t))) e) (digits_exponents cs)
    by false e = same_test is_fraction is_exponent (c ∷ cs) (Some (exponent_length (c ∷ cs))) same (exponents (c ∷ cs))
      where
        same : (m : ℕ) → is_fraction (take m (c ∷ cs)) ≡ is_exponent (take m (c ∷ cs))
        same zero = refl
        same (suc m) = ap (λ b. cond b (is_exponent (after_digits (take m cs))) (is_exponent (c ∷ take m cs))) e

-- after a point
pointed : (cs : List ℕ) → Closed (λ t. begins_digit t && is_exponent (after_digits t)) cs (if begins_digit cs then Some (digits_length cs) else None)
pointed [] = λ m le. by m
  where
    by : (m : ℕ) → (begins_digit (take m []) && is_exponent (after_digits (take m []))) ≡ false
    by zero = refl
    by (suc m) = refl
pointed (c ∷ cs) = by (is_digit c) refl (digits_exponents (c ∷ cs))
  where
    by : (b : Bool) → is_digit c ≡ b → Closed (λ t. is_exponent (after_digits t)) (c ∷ cs) (Some (digits_length (c ∷ cs))) → Closed (λ t. begins_digit t && is_exponent (after_digits t)) (c ∷ cs) (if b then Some (digits_length (c ∷ cs)) else None)
    by false e h = never (λ t. begins_digit t && is_exponent (after_digits t)) c cs refl (λ t. ap (λ b. b && is_exponent (after_digits (c ∷ t))) e)
    by true e h = (h.0, here (digits_length (c ∷ cs)) (omega (arith, count_more c cs e)) ∙ h.1, past)
      where
        here : (m : ℕ) → 0 < m → (begins_digit (take m (c ∷ cs)) && is_exponent (after_digits (take m (c ∷ cs)))) ≡ is_exponent (after_digits (take m (c ∷ cs)))
        here zero lt = absurd (omega arith)
        here (suc m) lt = ap (λ b. b && is_exponent (after_digits (c ∷ take m cs))) e

        past : (m : ℕ) → digits_length (c ∷ cs) < m → m ≤ length (c ∷ cs) → (begins_digit (take m (c ∷ cs)) && is_exponent (after_digits (take m (c ∷ cs)))) ≡ false
        past m lt le = here m (omega arith) ∙ h.2 m lt le

pub numbers : (c : ℕ) (cs : List ℕ) → Closed (λ t. is_number (c ∷ t)) cs (number_at c cs)
unfolding number_at
numbers c cs = by (is_digit c) refl (c == 46) refl
  where
    by : (b : Bool) → is_digit c ≡ b → (b' : Bool) → (c == 46) ≡ b' → Closed (λ t. is_number (c ∷ t)) cs (if b then Some (digit_count cs + fraction_length (drop (digit_count cs) cs)) else if b' then (if begins_digit cs then Some (digits_length cs) else None) else None)
    by true e b' e' = same_test (λ t. is_number (c ∷ t)) (λ t. is_fraction (after_digits t)) cs (Some (digit_count cs + fraction_length (drop (digit_count cs) cs)))
        (λ m. ap (λ b. cond b (is_fraction (after_digits (take m cs))) (cond (c == 46) (begins_digit (take m cs) && is_exponent (after_digits (take m cs))) false)) e)
        (past_digits is_fraction cs (fraction_length (drop (digit_count cs) cs)) (fractions (drop (digit_count cs) cs)))
    by false e true e' = same_test (λ t. is_number (c ∷ t)) (λ t. begins_digit t && is_exponent (after_digits t)) cs (if begins_digit cs then Some (digits_length cs) else None)
        (λ m. ap (λ b. cond b (is_fraction (after_digits (take m cs))) (cond (c == 46) (begins_digit (take m cs) && is_exponent (after_digits (take m cs))) false)) e
        ∙ ap (λ b. cond b (begins_digit (take m cs) && is_exponent (after_digits (take m cs))) false) e')
        (pointed cs)
    by false e false e' = λ m le. ap (λ b. cond b (is_fraction (after_digits (take m cs))) (cond (c == 46) (begins_digit (take m cs) && is_exponent (after_digits (take m cs))) false)) e
        ∙ ap (λ b. cond b (begins_digit (take m cs) && is_exponent (after_digits (take m cs))) false) e'
