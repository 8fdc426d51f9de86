-- The texts of number tokens are number text without space bytes and without a sign.
use Rattle.std.proofs.Common.{◌≡◌, ◌⊎◌, ℕ, zero, suc, ◌+◌, ◌≤◌, Bool, true, false, List, [], ◌∷◌, ◌++◌, length, length-append, append-nil, refl, sym, ap, arith, subst, ◌∙◌, inl, inr, true≢false}
use Rattle.std.specs.Prelude.{◌==◌, ◌&&◌, ◌||◌, cond}
use Rattle.std.proofs.lemmas.Bool.{cond-true, cond-false, eqb-true, eq-eqb, ne_eqb, and_parts}
use Rattle.awk_text.specs.Reading.{AreDigits, Numeral}
use Rattle.awk_text.specs.NumberText.{IsSign, IsFraction, IsMarked, IsExponent, IsNumberText}
use Rattle.awk_tokens.specs.Numbers.{is_digit, every, after_digits, are_digits, is_sign, is_scale, is_exponent_mark, is_exponent, is_fraction, begins_digit, is_number}
use Rattle.awk_parse.specs.Numbers.{IsUnsigned}

-- ---- the text of a number token is number text

record Digits (text rest : List ℕ) : Type 0 where
  digits : List ℕ
  parted : text ≡ digits ++ rest
  all : AreDigits digits

all_digits : (cs : List ℕ) → every is_digit cs ≡ true → AreDigits cs
all_digits [] h = tt
all_digits (c ∷ cs) h = by (is_digit c) refl (λ k. all_digits cs k) h
  where
    by : (b : Bool) → is_digit c ≡ b → (every is_digit cs ≡ true → AreDigits cs) → cond b (every is_digit cs) false ≡ true → AreDigits (c ∷ cs)
    by true e rest k = (e, rest k)
    by false e rest k = absurd (true≢false (sym k))

digits_by : (c : ℕ) (cs : List ℕ) (b : Bool) → is_digit c ≡ b → Digits cs (after_digits cs) → Digits (c ∷ cs) (cond b (after_digits cs) (c ∷ cs))
digits_by c cs true e d = record { digits = c ∷ d.digits; parted = ap (λ (t : List ℕ). c ∷ t) d.parted; all = (e, d.all) }
digits_by c cs false e d = record { digits = []; parted = refl; all = tt }

digits_of : (cs : List ℕ) → Digits cs (after_digits cs)
digits_of [] = record { digits = []; parted = refl; all = tt }
digits_of (c ∷ cs) = digits_by c cs (is_digit c) refl (digits_of cs)

record Exponent (text : List ℕ) : Type 0 where
  negative : Bool
  digits : List ℕ
  is : IsExponent text negative digits

marked : (mark : ℕ) (sign digits : List ℕ) (negative : Bool) → is_exponent_mark mark ≡ true → IsSign sign negative → are_digits digits ≡ true → IsMarked (mark ∷ (sign ++ digits)) negative digits
marked mark sign [] negative m s h = absurd (true≢false (sym h))
marked mark sign (d ∷ ds) negative m s h =
    let both = and_parts (is_digit d) (every is_digit ds) h in
    record { mark = mark; sign = sign; parted = refl; marked = which (mark == 101) refl m; signed = s; all_digits = (both.0, all_digits ds both.1); some = omega arith }
  where
    which : (b : Bool) → (mark == 101) ≡ b → (b || (mark == 69)) ≡ true → (mark ≡ 101) ⊎ (mark ≡ 69)
    which true e k = inl (eqb-true mark 101 e)
    which false e k = inr (eqb-true mark 69 k)

exponent_of : (text : List ℕ) → is_exponent text ≡ true → Exponent text
exponent_of [] h = record { negative = false; digits = []; is = inl (refl, refl, refl) }
exponent_of (c ∷ []) h = absurd (true≢false (sym (and_parts (is_exponent_mark c) false h).1))
exponent_of (c ∷ d ∷ ds) h = let both = and_parts (is_exponent_mark c) (is_scale (d ∷ ds)) h in by (d == 43) refl (d == 45) refl both.0 both.1
  where
    by : (a : Bool) → (d == 43) ≡ a → (b : Bool) → (d == 45) ≡ b → is_exponent_mark c ≡ true → cond (a || b) (are_digits ds) (are_digits (d ∷ ds)) ≡ true → Exponent (c ∷ d ∷ ds)
    by true e b f m k = record { negative = false; digits = ds; is = inr (subst (λ (s : ℕ). IsMarked (c ∷ s ∷ ds) false ds) (sym (eqb-true d 43 e)) (marked c (43 ∷ []) ds false m (inr (inl (refl, refl))) k)) }
    by false e true f m k = record { negative = true; digits = ds; is = inr (subst (λ (s : ℕ). IsMarked (c ∷ s ∷ ds) true ds) (sym (eqb-true d 45 f)) (marked c (45 ∷ []) ds true m (inr (inr (refl, refl))) k)) }
    by false e false f m k = record { negative = false; digits = d ∷ ds; is = inr (marked c [] (d ∷ ds) false m (inl (refl, refl)) k) }

record Behind (text : List ℕ) : Type 0 where
  point : List ℕ
  fraction : List ℕ
  rest : List ℕ
  parted : text ≡ point ++ rest
  is : IsFraction point fraction
  exponent : Exponent rest

pointed : (cs : List ℕ) → is_exponent (after_digits cs) ≡ true → Behind (46 ∷ cs)
pointed cs h =
    let d = digits_of cs in
    record { point = 46 ∷ d.digits; fraction = d.digits; rest = after_digits cs; parted = ap (λ (t : List ℕ). 46 ∷ t) d.parted; is = inr (refl, d.all); exponent = exponent_of (after_digits cs) h }

behind : (text : List ℕ) → is_fraction text ≡ true → Behind text
behind [] h = record { point = []; fraction = []; rest = []; parted = refl; is = inl (refl, refl); exponent = exponent_of [] refl }
behind (c ∷ cs) h = by (c == 46) refl h
  where
    by : (b : Bool) → (c == 46) ≡ b → cond b (is_exponent (after_digits cs)) (is_exponent (c ∷ cs)) ≡ true → Behind (c ∷ cs)
    by true e k = subst (λ (p : ℕ). Behind (p ∷ cs)) (sym (eqb-true c 46 e)) (pointed cs k)
    by false e k = record { point = []; fraction = []; rest = c ∷ cs; parted = refl; is = inl (refl, refl); exponent = exponent_of (c ∷ cs) k }

number : (whole text : List ℕ) → AreDigits whole → (b : Behind text) → 1 ≤ length (whole ++ b.fraction) → IsUnsigned (whole ++ text)
number whole text w b some = record {
  numeral = record { negative = false; whole = whole; fraction = b.fraction; exponent_negative = b.exponent.negative; exponent = b.exponent.digits };
  number = record {
    spaces = [];
    sign = [];
    point = b.point;
    exponent = b.rest;
    parted = ap (λ (t : List ℕ). whole ++ t) b.parted;
    blank = tt;
    signed = inl (refl, refl);
    whole = w;
    fraction = b.is;
    some = some;
    exponent_is = b.exponent.is;
  };
  no_spaces = refl;
  no_sign = refl;
}

some_more : (c : ℕ) (cs : List ℕ) → 1 ≤ length (c ∷ cs)
some_more c cs = omega arith

first_by : (c : ℕ) (cs : List ℕ) (b : Bool) (e : is_digit c ≡ b) (d : Digits cs (after_digits cs)) → b ≡ true → 1 ≤ length (digits_by c cs b e d).digits
unfolding digits_by
first_by c cs true e d h = some_more c d.digits
first_by c cs false e d h = absurd (true≢false (sym h))

first_digit : (cs : List ℕ) → begins_digit cs ≡ true → 1 ≤ length (digits_of cs).digits
unfolding digits_of
first_digit [] h = absurd (true≢false (sym h))
first_digit (c ∷ cs) h = first_by c cs (is_digit c) refl (digits_of cs) h

pointed_some : (cs : List ℕ) (h : is_exponent (after_digits cs) ≡ true) → begins_digit cs ≡ true → 1 ≤ length (pointed cs h).fraction
unfolding pointed
pointed_some cs h b = first_digit cs b

pub token_number : (text : List ℕ) → is_number text ≡ true → IsUnsigned text
token_number [] h = absurd (true≢false (sym h))
token_number (c ∷ cs) h = by (is_digit c) refl (c == 46) refl h
  where
    by : (a : Bool) → is_digit c ≡ a → (b : Bool) → (c == 46) ≡ b → cond a (is_fraction (after_digits cs)) (cond b (begins_digit cs && is_exponent (after_digits cs)) false) ≡ true → IsUnsigned (c ∷ cs)
    by true e b f k =
        let d = digits_of cs in
        subst IsUnsigned (ap (λ (t : List ℕ). c ∷ t) (sym d.parted)) (number (c ∷ d.digits) (after_digits cs) (e, d.all) (behind (after_digits cs) k) (omega arith))
    by false e true f k =
        let both = and_parts (begins_digit cs) (is_exponent (after_digits cs)) k in
        subst (λ (p : ℕ). IsUnsigned (p ∷ cs)) (sym (eqb-true c 46 f)) (number [] (46 ∷ cs) tt (pointed cs both.1) (pointed_some cs both.1 both.0))
    by false e false f k = absurd (true≢false (sym k))

-- ---- number text is the text of a number token

both : (a b : Bool) → a ≡ true → b ≡ true → (a && b) ≡ true
both true b e f = f
both false b e f = absurd (true≢false (sym e))

each_digit : (cs : List ℕ) → AreDigits cs → every is_digit cs ≡ true
each_digit [] h = refl
each_digit (c ∷ cs) h = cond-true (is_digit c) (every is_digit cs) false h.0 ∙ each_digit cs h.1

some_digits : (cs : List ℕ) → AreDigits cs → 1 ≤ length cs → are_digits cs ≡ true
some_digits [] h n = absurd (omega arith)
some_digits (c ∷ cs) h n = both (is_digit c) (every is_digit cs) h.0 (each_digit cs h.1)

no_sign : (d : ℕ) → is_digit d ≡ true → is_sign d ≡ false
no_sign d h = ap (λ (b : Bool). b || (d == 45)) (ne_eqb d 43 (λ e. true≢false (sym h ∙ ap is_digit e))) ∙ ne_eqb d 45 (λ e. true≢false (sym h ∙ ap is_digit e))

plain_scale : (ds : List ℕ) → AreDigits ds → 1 ≤ length ds → is_scale ds ≡ true
plain_scale [] h n = absurd (omega arith)
plain_scale (d ∷ ds) h n = cond-false (is_sign d) (are_digits ds) (are_digits (d ∷ ds)) (no_sign d h.0) ∙ some_digits (d ∷ ds) h n

scale_read : (sign ds : List ℕ) (negative : Bool) → IsSign sign negative → AreDigits ds → 1 ≤ length ds → is_scale (sign ++ ds) ≡ true
scale_read sign ds negative (inl s) h n = ap (λ (t : List ℕ). is_scale (t ++ ds)) s.0 ∙ plain_scale ds h n
scale_read sign ds negative (inr (inl s)) h n = ap (λ (t : List ℕ). is_scale (t ++ ds)) s.0 ∙ some_digits ds h n
scale_read sign ds negative (inr (inr s)) h n = ap (λ (t : List ℕ). is_scale (t ++ ds)) s.0 ∙ some_digits ds h n

-- what stands after the mantissa: an exponent that is read, and that no digit and no point begins
record Tail (text : List ℕ) : Type 0 where
  exponent : is_exponent text ≡ true
  fraction : is_fraction text ≡ true
  no_digit : begins_digit text ≡ false

tail_of : (text : List ℕ) (negative : Bool) (ds : List ℕ) → IsExponent text negative ds → Tail text
tail_of text negative ds (inl none) = subst Tail (sym none.0) (record { exponent = refl; fraction = refl; no_digit = refl })
tail_of text negative ds (inr m) = subst Tail (sym m.parted) (by m.mark m.marked)
  where
    scale : is_scale (m.sign ++ ds) ≡ true
    scale = scale_read m.sign ds negative m.signed m.all_digits m.some

    by : (mark : ℕ) → (mark ≡ 101) ⊎ (mark ≡ 69) → Tail (mark ∷ (m.sign ++ ds))
    by mark (inl e) = subst (λ (c : ℕ). Tail (c ∷ (m.sign ++ ds))) (sym e) (record { exponent = scale; fraction = scale; no_digit = refl })
    by mark (inr e) = subst (λ (c : ℕ). Tail (c ∷ (m.sign ++ ds))) (sym e) (record { exponent = scale; fraction = scale; no_digit = refl })

skipped : (ds rest : List ℕ) → AreDigits ds → begins_digit rest ≡ false → after_digits (ds ++ rest) ≡ rest
skipped [] [] h e = refl
skipped [] (c ∷ cs) h e = cond-false (is_digit c) (after_digits cs) (c ∷ cs) e
skipped (d ∷ ds) rest h e = cond-true (is_digit d) (after_digits (ds ++ rest)) (d ∷ (ds ++ rest)) h.0 ∙ skipped ds rest h.1 e

fraction_read : (point fraction rest : List ℕ) → IsFraction point fraction → Tail rest → is_fraction (point ++ rest) ≡ true
fraction_read point fraction rest (inl none) t = ap (λ (p : List ℕ). is_fraction (p ++ rest)) none.0 ∙ t.fraction
fraction_read point fraction rest (inr some) t =
    ap (λ (p : List ℕ). is_fraction (p ++ rest)) some.0 ∙ (ap is_exponent (skipped fraction rest some.1 t.no_digit) ∙ t.exponent)

no_digit_first : (point fraction rest : List ℕ) → IsFraction point fraction → Tail rest → begins_digit (point ++ rest) ≡ false
no_digit_first point fraction rest (inl none) t = ap (λ (p : List ℕ). begins_digit (p ++ rest)) none.0 ∙ t.no_digit
no_digit_first point fraction rest (inr some) t = ap (λ (p : List ℕ). begins_digit (p ++ rest)) some.0

begins : (ds rest : List ℕ) → AreDigits ds → 1 ≤ length ds → begins_digit (ds ++ rest) ≡ true
begins [] rest h n = absurd (omega arith)
begins (d ∷ ds) rest h n = h.0

read : (whole point fraction rest : List ℕ) → AreDigits whole → IsFraction point fraction → 1 ≤ length (whole ++ fraction) → Tail rest → is_number (whole ++ (point ++ rest)) ≡ true
read [] point fraction rest w (inl none) n t = absurd (let less = ap length none.1 in omega (arith, less))
read [] point fraction rest w (inr some) n t =
    ap (λ (p : List ℕ). is_number (p ++ rest)) some.0
    ∙ both (begins_digit (fraction ++ rest)) (is_exponent (after_digits (fraction ++ rest))) (begins fraction rest some.1 n) (ap is_exponent (skipped fraction rest some.1 t.no_digit) ∙ t.exponent)
read (c ∷ cs) point fraction rest w f n t =
    cond-true (is_digit c) (is_fraction (after_digits (cs ++ (point ++ rest)))) _ w.0
    ∙ (ap is_fraction (skipped cs (point ++ rest) w.1 (no_digit_first point fraction rest f t)) ∙ fraction_read point fraction rest f t)

pub number_token : (text : List ℕ) → IsUnsigned text → is_number text ≡ true
number_token text u =
    let n = u.number in
    let m = u.numeral in
    let parted : text ≡ m.whole ++ (n.point ++ n.exponent) = n.parted ∙ (ap (λ (t : List ℕ). t ++ (n.sign ++ (m.whole ++ (n.point ++ n.exponent)))) u.no_spaces ∙ ap (λ (t : List ℕ). t ++ (m.whole ++ (n.point ++ n.exponent))) u.no_sign) in
    ap is_number parted ∙ read m.whole n.point m.fraction n.exponent n.whole n.fraction n.some (tail_of n.exponent m.exponent_negative m.exponent n.exponent_is)
