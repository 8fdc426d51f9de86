-- The reading functions take the longest prefix that is number text.
use Rattle.std.proofs.Common.{◌≡◌, ◌≢◌, ℕ, ◌+◌, ◌<◌, ◌≤◌, Bool, true, false, Option, Some, None, List, [], ◌∷◌, ◌++◌, length, append_assoc, append-nil, length-append, refl, sym, ◌∙◌, ap, subst, arith, inl, inr}
use Rattle.std.specs.Prelude.{◌==◌, ◌&&◌, ◌||◌, nat_le, if◌then◌else◌}
use Rattle.std.proofs.lemmas.Bool.{cond-false, cond_both, ne_eqb, eqb-true, leb-true, and_parts, or_cases, false_from_ne_true}
use Rattle.awk_text.specs.Reading.{AllPass, AreDigits, Numeral, is_digit, is_space, digits_at, sign_at, fraction_at, exponent_at, numeral_at}
use Rattle.awk_text.specs.NumberText.{IsSign, IsFraction, IsMarked, IsExponent, IsNumberText}
use Rattle.awk_text.proofs.Splits.{split_while, split-stop, split-over, split-rest}

-- Which bytes digits, spaces and marks are.

digit_high : (c : ℕ) → is_digit c ≡ true → 48 ≤ c
digit_high c h = leb-true 48 c (and_parts (nat_le 48 c) (nat_le c 57) h).0

digit_low : (c : ℕ) → is_digit c ≡ true → c ≤ 57
digit_low c h = leb-true c 57 (and_parts (nat_le 48 c) (nat_le c 57) h).1

space_low : (c : ℕ) → is_space c ≡ true → c ≤ 32
space_low c h = elim (or_cases (c == 32) (nat_le 9 c && nat_le c 13) h) [
  | inl e ↦ (let same : c ≡ 32 = eqb-true c 32 e in omega arith)
  | inr e ↦ (let low : c ≤ 13 = leb-true c 13 (and_parts (nat_le 9 c) (nat_le c 13) e).1 in omega arith)
]

no_digit_below : (c : ℕ) → c < 48 → is_digit c ≡ false
no_digit_below c h = false_from_ne_true (is_digit c) (λ e. let high : 48 ≤ c = digit_high c e in absurd (omega arith))

no_digit_above : (c : ℕ) → 57 < c → is_digit c ≡ false
no_digit_above c h = false_from_ne_true (is_digit c) (λ e. let low : c ≤ 57 = digit_low c e in absurd (omega arith))

no_space : (c : ℕ) → 32 < c → is_space c ≡ false
no_space c h = false_from_ne_true (is_space c) (λ e. let low : c ≤ 32 = space_low c e in absurd (omega arith))

no_mark : (c : ℕ) → c ≢ 101 → c ≢ 69 → ((c == 101) || (c == 69)) ≡ false
no_mark c e f = false_from_ne_true ((c == 101) || (c == 69)) (λ h. elim (or_cases (c == 101) (c == 69) h) [ inl m ↦ e (eqb-true c 101 m) | inr m ↦ f (eqb-true c 69 m) ])

-- Reading over a part that is there.

-- the digits and the point of a number text begin by a digit or a point
record IsStart (text : List ℕ) : Type 0 where
  first : ℕ
  later : List ℕ
  parted : text ≡ first ∷ later
  high : 46 ≤ first

start_of : (whole point fraction t : List ℕ) → AreDigits whole → IsFraction point fraction → 1 ≤ length (whole ++ fraction) → IsStart (whole ++ (point ++ t))
start_of (c ∷ cs) point fraction t digits p some =
    let high : 48 ≤ c = digit_high c digits.0 in
    record { first = c; later = cs ++ (point ++ t); parted = refl; high = omega arith }
start_of [] point fraction t digits (inl none) some = let empty : length fraction ≡ 0 = ap length none.1 in absurd (omega arith)
start_of [] point fraction t digits (inr there) some = record { first = 46; later = fraction ++ t; parted = ap (λ (p : List ℕ). p ++ t) there.0; high = omega arith }

sign_over : (sign : List ℕ) (negative : Bool) (t : List ℕ) → IsSign sign negative → IsStart t → sign_at (sign ++ t) ≡ (negative, t)
unfolding sign_at
sign_over sign negative t (inl none) s =
    let plain : sign_at (s.first ∷ s.later) ≡ (false, s.first ∷ s.later) =
    cond-false (s.first == 45) _ _ (ne_eqb s.first 45 (λ e. absurd (let h = s.high in omega arith)))
    ∙ cond-false (s.first == 43) _ _ (ne_eqb s.first 43 (λ e. absurd (let h = s.high in omega arith))) in
    ap (λ (p : List ℕ). sign_at (p ++ t)) none.0 ∙ ap sign_at s.parted ∙ plain ∙ ap (λ (b : Bool). (b, s.first ∷ s.later)) (sym none.1) ∙ ap (λ (u : List ℕ). (negative, u)) (sym s.parted)
sign_over sign negative t (inr (inl plus)) s = ap (λ (p : List ℕ). sign_at (p ++ t)) plus.0 ∙ ap (λ (b : Bool). (b, t)) (sym plus.1)
sign_over sign negative t (inr (inr minus)) s = ap (λ (p : List ℕ). sign_at (p ++ t)) minus.0 ∙ ap (λ (b : Bool). (b, t)) (sym minus.1)

-- a sign, or what stands behind none, is no space byte
signed_start : (sign : List ℕ) (negative : Bool) (t : List ℕ) → IsSign sign negative → IsStart t → split_while is_space (sign ++ t) ≡ ([], sign ++ t)
signed_start sign negative t (inl none) s =
    ap (λ (p : List ℕ). split_while is_space (p ++ t)) none.0 ∙ ap (split_while is_space) s.parted
    ∙ split-stop is_space s.first s.later (no_space s.first (let h = s.high in omega arith))
    ∙ ap (λ (u : List ℕ). ([], u)) (sym s.parted ∙ ap (λ (p : List ℕ). p ++ t) (sym none.0))
signed_start sign negative t (inr (inl plus)) s =
    ap (λ (p : List ℕ). split_while is_space (p ++ t)) plus.0 ∙ split-stop is_space 43 t refl ∙ ap (λ (p : List ℕ). ([], p ++ t)) (sym plus.0)
signed_start sign negative t (inr (inr minus)) s =
    ap (λ (p : List ℕ). split_while is_space (p ++ t)) minus.0 ∙ split-stop is_space 45 t refl ∙ ap (λ (p : List ℕ). ([], p ++ t)) (sym minus.0)

digits_start : (digits rest : List ℕ) → AreDigits digits → 1 ≤ length digits → IsStart (digits ++ rest)
digits_start [] rest h some = absurd (omega arith)
digits_start (c ∷ cs) rest h some = let high : 48 ≤ c = digit_high c h.0 in record { first = c; later = cs ++ rest; parted = refl; high = omega arith }

-- what an exponent is once its sign is read
abbrev raised : List ℕ → Bool → List ℕ × List ℕ → (Bool × List ℕ) × List ℕ
raised bytes negative digits = if length digits.0 == 0 then ((false, []), bytes) else ((negative, digits.0), digits.1)

exponent_over : (part : List ℕ) (negative : Bool) (digits rest : List ℕ) → IsMarked part negative digits →
    exponent_at (part ++ rest) ≡ ((negative, digits ++ (digits_at rest).0), (digits_at rest).1)
unfolding exponent_at
exponent_over part negative digits rest m =
    let after : List ℕ = m.sign ++ (digits ++ rest) in
    let parted : part ++ rest ≡ m.mark ∷ after = ap (λ (p : List ℕ). p ++ rest) m.parted ∙ ap (λ (t : List ℕ). m.mark ∷ t) (append_assoc m.sign digits rest) in
    let marked : exponent_at (m.mark ∷ after) ≡ raised (m.mark ∷ after) (sign_at after).0 (digits_at (sign_at after).1) =
    elim m.marked [
      | inl e ↦ subst (λ c. exponent_at (c ∷ after) ≡ raised (c ∷ after) (sign_at after).0 (digits_at (sign_at after).1)) (sym e) refl
      | inr e ↦ subst (λ c. exponent_at (c ∷ after) ≡ raised (c ∷ after) (sign_at after).0 (digits_at (sign_at after).1)) (sym e) refl
    ] in
    let start : IsStart (digits ++ rest) = digits_start digits rest m.all_digits m.some in
    let signed = sign_over m.sign negative (digits ++ rest) m.signed start in
    let some : (length (digits ++ (digits_at rest).0) == 0) ≡ false = ne_eqb _ 0 (λ e. absurd (let more = m.some in omega (arith, length-append digits (digits_at rest).0))) in
    ap exponent_at parted ∙ marked
    ∙ ap (λ (r : Bool × List ℕ). raised (m.mark ∷ after) r.0 (digits_at r.1)) signed
    ∙ ap (raised (m.mark ∷ after) negative) (split-over is_digit digits rest m.all_digits)
    ∙ cond-false _ ((false, []), m.mark ∷ after) ((negative, digits ++ (digits_at rest).0), (digits_at rest).1) some

-- Nothing that is read makes the rest longer.

sign_rest : (bytes : List ℕ) → length (sign_at bytes).1 ≤ length bytes
unfolding sign_at
sign_rest [] = omega arith
sign_rest (c ∷ cs) = cond_both (c == 45) (true, cs) _ (λ (r : Bool × List ℕ). length r.1 ≤ length (c ∷ cs)) (λ _. omega arith)
    (λ _. cond_both (c == 43) (false, cs) (false, c ∷ cs) (λ (r : Bool × List ℕ). length r.1 ≤ length (c ∷ cs)) (λ _. omega arith) (λ _. omega arith))

fraction_rest : (bytes : List ℕ) → length (fraction_at bytes).1 ≤ length bytes
unfolding fraction_at
fraction_rest [] = omega arith
fraction_rest (c ∷ cs) = cond_both (c == 46) (digits_at cs) ([], c ∷ cs) (λ (r : List ℕ × List ℕ). length r.1 ≤ length (c ∷ cs))
    (λ _. let less : length (digits_at cs).1 ≤ length cs = split-rest is_digit cs in omega arith) (λ _. omega arith)

exponent_rest : (bytes : List ℕ) → length (exponent_at bytes).1 ≤ length bytes
unfolding exponent_at
exponent_rest [] = omega arith
exponent_rest (c ∷ cs) =
    let P : (Bool × List ℕ) × List ℕ → Type 0 = λ r. length r.1 ≤ length (c ∷ cs) in
    let digits = digits_at (sign_at cs).1 in
    let none : P ((false, []), c ∷ cs) = omega arith in
    cond_both ((c == 101) || (c == 69)) (raised (c ∷ cs) (sign_at cs).0 digits) ((false, []), c ∷ cs) P
    (λ _. cond_both (length digits.0 == 0) ((false, []), c ∷ cs) (((sign_at cs).0, digits.0), digits.1) P (λ _. none)
    (λ _. let less : length digits.1 ≤ length (sign_at cs).1 = split-rest is_digit (sign_at cs).1 in
    let least : length (sign_at cs).1 ≤ length cs = sign_rest cs in omega arith))
    (λ _. none)

-- What stands behind a number text and goes on with none of its parts.
pub record IsStop (rest : List ℕ) : Type 0 where
  pub digits : digits_at rest ≡ ([], rest)
  pub fraction : fraction_at rest ≡ ([], rest)
  pub exponent : exponent_at rest ≡ ((false, []), rest)

pub end_stops : IsStop []
unfolding fraction_at exponent_at
end_stops = record { digits = refl; fraction = refl; exponent = refl }

pub spaces_stop : (rest : List ℕ) → AllPass is_space rest → IsStop rest
unfolding fraction_at exponent_at
spaces_stop [] h = end_stops
spaces_stop (c ∷ cs) h =
    let low : c ≤ 32 = space_low c h.0 in
    record {
      digits = split-stop is_digit c cs (no_digit_below c (omega arith));
      fraction = cond-false (c == 46) (digits_at cs) ([], c ∷ cs) (ne_eqb c 46 (λ e. absurd (omega arith)));
      exponent = cond-false ((c == 101) || (c == 69)) (raised (c ∷ cs) (sign_at cs).0 (digits_at (sign_at cs).1)) ((false, []), c ∷ cs) (no_mark c (λ e. absurd (omega arith)) (λ e. absurd (omega arith)));
    }

-- What is read behind the digits before the point: more of these digits, the fraction, the exponent and the rest.

abbrev Tail : Type 0
Tail = (List ℕ × List ℕ) × ((Bool × List ℕ) × List ℕ)

abbrev tail_by : List ℕ → List ℕ × List ℕ → Tail
tail_by more fraction = ((more, fraction.0), exponent_at fraction.1)

abbrev tail_at : List ℕ × List ℕ → Tail
tail_at digits = tail_by digits.0 (fraction_at digits.1)

record IsTail (n : Numeral) (rest : List ℕ) (tail : Tail) : Type 0 where
  shorter : length tail.1.1 ≤ length rest
  some : 1 ≤ length (n.whole ++ tail.0.0) + length tail.0.1
  exact : IsStop rest → tail ≡ (([], n.fraction), ((n.exponent_negative, n.exponent), rest))

marked_no_digit : (part : List ℕ) (negative : Bool) (digits rest : List ℕ) → IsMarked part negative digits → digits_at (part ++ rest) ≡ ([], part ++ rest)
marked_no_digit part negative digits rest m =
    let parted : part ++ rest ≡ m.mark ∷ ((m.sign ++ digits) ++ rest) = ap (λ (p : List ℕ). p ++ rest) m.parted in
    let high : 57 < m.mark = elim m.marked [ inl e ↦ omega arith | inr e ↦ omega arith ] in
    ap digits_at parted ∙ split-stop is_digit m.mark _ (no_digit_above m.mark high) ∙ ap (λ (t : List ℕ). ([], t)) (sym parted)

marked_no_point : (part : List ℕ) (negative : Bool) (digits rest : List ℕ) → IsMarked part negative digits → fraction_at (part ++ rest) ≡ ([], part ++ rest)
unfolding fraction_at
marked_no_point part negative digits rest m =
    let parted : part ++ rest ≡ m.mark ∷ ((m.sign ++ digits) ++ rest) = ap (λ (p : List ℕ). p ++ rest) m.parted in
    let high : 57 < m.mark = elim m.marked [ inl e ↦ omega arith | inr e ↦ omega arith ] in
    ap fraction_at parted ∙ cond-false (m.mark == 46) _ _ (ne_eqb m.mark 46 (λ e. absurd (omega arith))) ∙ ap (λ (t : List ℕ). ([], t)) (sym parted)

point_over : (fraction rest : List ℕ) → AreDigits fraction → fraction_at (digits_at (46 ∷ (fraction ++ rest))).1 ≡ (fraction ++ (digits_at rest).0, (digits_at rest).1)
unfolding fraction_at
point_over fraction rest h = ap (λ (d : List ℕ × List ℕ). fraction_at d.1) (split-stop is_digit 46 (fraction ++ rest) refl) ∙ split-over is_digit fraction rest h

-- digits behind an exponent
longer_exponent : (n : Numeral) (rest more fraction : List ℕ) → 1 ≤ length (n.whole ++ more) + length fraction →
    more ≡ [] → fraction ≡ n.fraction → IsTail n rest ((more, fraction), ((n.exponent_negative, n.exponent ++ (digits_at rest).0), (digits_at rest).1))
longer_exponent n rest more fraction some none same = record {
  shorter = split-rest is_digit rest;
  some = some;
  exact = λ stop.
      ap (λ (d : List ℕ × List ℕ). ((more, fraction), ((n.exponent_negative, n.exponent ++ d.0), d.1))) stop.digits
      ∙ ap (λ (x : List ℕ). ((more, fraction), ((n.exponent_negative, x), rest))) (append-nil n.exponent)
      ∙ ap (λ (m : List ℕ). ((m, fraction), ((n.exponent_negative, n.exponent), rest))) none
      ∙ ap (λ (f : List ℕ). (([], f), ((n.exponent_negative, n.exponent), rest))) same;
}

some_whole : (n : Numeral) → 1 ≤ length (n.whole ++ n.fraction) → n.fraction ≡ [] → (more : List ℕ) (fraction : List ℕ) → 1 ≤ length (n.whole ++ more) + length fraction
some_whole n some none more fraction = let empty : length n.fraction ≡ 0 = ap length none in omega (arith, length-append n.whole n.fraction, length-append n.whole more)

tail_over : (n : Numeral) (point exponent rest : List ℕ) → IsFraction point n.fraction → IsExponent exponent n.exponent_negative n.exponent → 1 ≤ length (n.whole ++ n.fraction) →
    IsTail n rest (tail_at (digits_at (point ++ (exponent ++ rest))))
tail_over n point exponent rest (inl f) (inl e) some =
    let plain : point ++ (exponent ++ rest) ≡ rest = ap (λ (p : List ℕ). p ++ (exponent ++ rest)) f.0 ∙ ap (λ (x : List ℕ). x ++ rest) e.0 in
    subst (λ (t : List ℕ). IsTail n rest (tail_at (digits_at t))) (sym plain) record {
      shorter =
          let a : length (digits_at rest).1 ≤ length rest = split-rest is_digit rest in
          let b = fraction_rest (digits_at rest).1 in
          let c = exponent_rest (fraction_at (digits_at rest).1).1 in
          omega arith;
      some = some_whole n some f.1 _ _;
      exact = λ stop.
          ap tail_at stop.digits ∙ ap (tail_by []) stop.fraction ∙ ap (λ (x : (Bool × List ℕ) × List ℕ). (([], []), x)) stop.exponent
          ∙ ap (λ (g : List ℕ). (([], g), ((false, []), rest))) (sym f.1)
          ∙ ap (λ (b : Bool). (([], n.fraction), ((b, []), rest))) (sym e.1)
          ∙ ap (λ (x : List ℕ). (([], n.fraction), ((n.exponent_negative, x), rest))) (sym e.2);
    }
tail_over n point exponent rest (inl f) (inr m) some =
    let plain : point ++ (exponent ++ rest) ≡ exponent ++ rest = ap (λ (p : List ℕ). p ++ (exponent ++ rest)) f.0 in
    let made : tail_at (digits_at (point ++ (exponent ++ rest))) ≡ (([], []), ((n.exponent_negative, n.exponent ++ (digits_at rest).0), (digits_at rest).1)) =
    ap (λ (t : List ℕ). tail_at (digits_at t)) plain
    ∙ ap tail_at (marked_no_digit exponent _ _ rest m) ∙ ap (tail_by []) (marked_no_point exponent _ _ rest m)
    ∙ ap (λ (x : (Bool × List ℕ) × List ℕ). (([], []), x)) (exponent_over exponent _ _ rest m) in
    subst (IsTail n rest) (sym made) (longer_exponent n rest [] [] (some_whole n some f.1 [] []) refl (sym f.1))
tail_over n point exponent rest (inr f) (inl e) some =
    let plain : point ++ (exponent ++ rest) ≡ 46 ∷ (n.fraction ++ rest) = ap (λ (p : List ℕ). p ++ (exponent ++ rest)) f.0 ∙ ap (λ (x : List ℕ). 46 ∷ (n.fraction ++ (x ++ rest))) e.0 in
    let made : tail_at (digits_at (point ++ (exponent ++ rest))) ≡ (([], n.fraction ++ (digits_at rest).0), exponent_at (digits_at rest).1) =
    ap (λ (t : List ℕ). tail_at (digits_at t)) plain
    ∙ ap (λ (d : List ℕ × List ℕ). tail_by d.0 (fraction_at (digits_at (46 ∷ (n.fraction ++ rest))).1)) (split-stop is_digit 46 (n.fraction ++ rest) refl)
    ∙ ap (tail_by []) (point_over n.fraction rest f.1) in
    subst (IsTail n rest) (sym made) record {
      shorter =
          let a : length (digits_at rest).1 ≤ length rest = split-rest is_digit rest in
          let b = exponent_rest (digits_at rest).1 in
          omega arith;
      some = omega (arith, length-append n.whole n.fraction, length-append n.whole [], length-append n.fraction (digits_at rest).0);
      exact = λ stop.
          ap (λ (d : List ℕ × List ℕ). (([], n.fraction ++ d.0), exponent_at d.1)) stop.digits
          ∙ ap (λ (g : List ℕ). (([], g), exponent_at rest)) (append-nil n.fraction)
          ∙ ap (λ (x : (Bool × List ℕ) × List ℕ). (([], n.fraction), x)) stop.exponent
          ∙ ap (λ (b : Bool). (([], n.fraction), ((b, []), rest))) (sym e.1)
          ∙ ap (λ (x : List ℕ). (([], n.fraction), ((n.exponent_negative, x), rest))) (sym e.2);
    }
tail_over n point exponent rest (inr f) (inr m) some =
    let plain : point ++ (exponent ++ rest) ≡ 46 ∷ (n.fraction ++ (exponent ++ rest)) = ap (λ (p : List ℕ). p ++ (exponent ++ rest)) f.0 in
    let made : tail_at (digits_at (point ++ (exponent ++ rest))) ≡ (([], n.fraction), ((n.exponent_negative, n.exponent ++ (digits_at rest).0), (digits_at rest).1)) =
    ap (λ (t : List ℕ). tail_at (digits_at t)) plain
    ∙ ap (λ (d : List ℕ × List ℕ). tail_by d.0 (fraction_at (digits_at (46 ∷ (n.fraction ++ (exponent ++ rest)))).1)) (split-stop is_digit 46 (n.fraction ++ (exponent ++ rest)) refl)
    ∙ ap (tail_by []) (point_over n.fraction (exponent ++ rest) f.1)
    ∙ ap (λ (d : List ℕ × List ℕ). (([], n.fraction ++ d.0), exponent_at d.1)) (marked_no_digit exponent _ _ rest m)
    ∙ ap (λ (g : List ℕ). (([], g), exponent_at (exponent ++ rest))) (append-nil n.fraction)
    ∙ ap (λ (x : (Bool × List ℕ) × List ℕ). (([], n.fraction), x)) (exponent_over exponent _ _ rest m) in
    subst (IsTail n rest) (sym made) (longer_exponent n rest [] n.fraction (omega (arith, length-append n.whole n.fraction, length-append n.whole [])) refl refl)

-- The whole.

-- the numeral from its sign and what is split at the end of the digits before the point
abbrev read_by_digits : Bool → List ℕ × List ℕ → Option (Numeral × List ℕ)
read_by_digits negative digits =
    let fraction = fraction_at digits.1 in
    let exponent = exponent_at fraction.1 in
    if (length digits.0 == 0) && (length fraction.0 == 0) then None
    else Some (record { negative = negative; whole = digits.0; fraction = fraction.0; exponent_negative = exponent.0.0; exponent = exponent.0.1 }, exponent.1)

is_some : (a b : ℕ) → 1 ≤ a + b → ((a == 0) && (b == 0)) ≡ false
is_some a b h = false_from_ne_true ((a == 0) && (b == 0)) (λ e. let both = and_parts (a == 0) (b == 0) e in
    let first : a ≡ 0 = eqb-true a 0 both.0 in let second : b ≡ 0 = eqb-true b 0 both.1 in absurd (omega arith))

record IsReadOver (n : Numeral) (rest : List ℕ) (read : Option (Numeral × List ℕ)) : Type 0 where
  tail : Tail
  is : IsTail n rest tail
  made : read ≡ Some (record { negative = n.negative; whole = n.whole ++ tail.0.0; fraction = tail.0.1; exponent_negative = tail.1.0.0; exponent = tail.1.0.1 }, tail.1.1)

numeral_over : (front : List ℕ) (n : Numeral) (rest : List ℕ) → IsNumberText front n → IsReadOver n rest (numeral_at (front ++ rest))
unfolding numeral_at
numeral_over front n rest is =
    let tail : Tail = tail_at (digits_at (is.point ++ (is.exponent ++ rest))) in
    let from : List ℕ = n.whole ++ (is.point ++ (is.exponent ++ rest)) in
    let parted : front ++ rest ≡ is.spaces ++ (is.sign ++ from) = ap (λ (t : List ℕ). t ++ rest) is.parted ∙ simp append_assoc in
    let start : IsStart from = start_of n.whole is.point n.fraction (is.exponent ++ rest) is.whole is.fraction is.some in
    let tail_is : IsTail n rest tail = tail_over n is.point is.exponent rest is.fraction is.exponent_is is.some in
    let whole_at : Bool × List ℕ → Option (Numeral × List ℕ) = λ sign. (let digits = digits_at sign.1 in read_by_digits sign.0 digits) in
    record {
      tail = tail;
      is = tail_is;
      made =
          ap numeral_at parted
          ∙ ap (λ (s : List ℕ × List ℕ). whole_at (sign_at s.1)) (split-over is_space is.spaces (is.sign ++ from) is.blank)
          ∙ ap (λ (s : List ℕ × List ℕ). whole_at (sign_at s.1)) (signed_start is.sign n.negative from is.signed start)
          ∙ ap whole_at (sign_over is.sign n.negative from is.signed start)
          ∙ ap (read_by_digits n.negative) (split-over is_digit n.whole (is.point ++ (is.exponent ++ rest)) is.whole)
          ∙ cond-false _ None (Some _) (is_some _ _ tail_is.some);
    }

pub numeral_longest : (front : List ℕ) (n : Numeral) (rest : List ℕ) → IsNumberText front n → (read : Numeral × List ℕ) → numeral_at (front ++ rest) ≡ Some read → length read.1 ≤ length rest
numeral_longest front n rest is read e =
    let over = numeral_over front n rest is in
    let same : Some read ≡ Some (_, over.tail.1.1) = sym e ∙ over.made in
    let last : read.1 ≡ over.tail.1.1 = cc in
    let shorter = over.is.shorter in omega (arith, ap length last)

pub numeral_some : (front : List ℕ) (n : Numeral) (rest : List ℕ) → IsNumberText front n → numeral_at (front ++ rest) ≡ None → ⊥
numeral_some front n rest is e = let over = numeral_over front n rest is in let clash : None ≡ Some _ = sym e ∙ over.made in cc

pub numeral_exact : (front : List ℕ) (n : Numeral) (rest : List ℕ) → IsNumberText front n → IsStop rest → numeral_at (front ++ rest) ≡ Some (n, rest)
numeral_exact front n rest is stop =
    let over = numeral_over front n rest is in
    over.made ∙ ap (λ (t : Tail). Some (record { negative = n.negative; whole = n.whole ++ t.0.0; fraction = t.0.1; exponent_negative = t.1.0.0; exponent = t.1.0.1 }, t.1.1)) (over.is.exact stop)
    ∙ ap (λ (w : List ℕ). Some (record { negative = n.negative; whole = w; fraction = n.fraction; exponent_negative = n.exponent_negative; exponent = n.exponent }, rest)) (append-nil n.whole)
