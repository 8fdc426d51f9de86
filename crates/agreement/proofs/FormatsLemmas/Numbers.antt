-- A number in its width.
use Rattle.std.proofs.Common.{◌≡◌, ◌≢◌, ◌<◌, ◌≤◌, ℕ, zero, suc, ◌+◌, ◌-◌, ◌^◌, max, Bool, true, false, List, [], ◌∷◌, ◌++◌, length, Option, Some, None, refl, sym, ap, subst, ◌∙◌, append_assoc, append-nil, arith}
use Rattle.std.specs.Prelude.{◌==◌, ◌&&◌, not, if◌then◌else◌}
use Rattle.std.specs.Fmt.{digits}
use Rattle.std.proofs.lemmas.Bool.Decides.{nat_tests}
use Rattle.std.proofs.lemmas.List.{length-append, length-replicate}
use Rattle.awk_text.specs.Bytes.{hash, minus}
use Rattle.sem_primitives.specs.Formats.{Conversion, blanks, filled, fraction_text, has_flag, integer_text, is_zero_filled, number_text, octal_mark, padded, with_precision, zero_filled, zeros}
use Rattle.agreement.specs.Formats.Written.{AreDigits, AreMarked, BeginsWith, IsInWidth, IsNumber, fraction, least_by, zeros_fill}
use Rattle.agreement.proofs.FormatsLemmas.Digits.{fill, marked_fill, no_digits, plain, plain_some}

pub in_width : (d : Conversion) (inside : List ℕ) → IsInWidth d inside (padded d inside)
in_width d inside = by (has_flag minus d) refl
  where
    by : (t : Bool) → has_flag minus d ≡ t
        → IsInWidth d inside (if t then inside ++ blanks (d.width - length inside) else blanks (d.width - length inside) ++ inside)
    by true e =
        let size : length (inside ++ blanks (d.width - length inside)) ≡ length inside + length (blanks (d.width - length inside))
        = length-append inside (blanks (d.width - length inside)) in
        let blank : length (blanks (d.width - length inside)) ≡ d.width - length inside = length-replicate (d.width - length inside) 32 in
        let all : length (inside ++ blanks (d.width - length inside)) ≡ max d.width (length inside) = omega arith in
        record { before = 0; after = d.width - length inside; parts = refl; fills = all; right = λ f. absurd (cc); left = λ f. refl }
    by false e =
        let size : length (blanks (d.width - length inside) ++ inside) ≡ length (blanks (d.width - length inside)) + length inside
        = length-append (blanks (d.width - length inside)) inside in
        let blank : length (blanks (d.width - length inside)) ≡ d.width - length inside = length-replicate (d.width - length inside) 32 in
        let all : length (blanks (d.width - length inside) ++ inside) ≡ max d.width (length inside) = omega arith in
        record {
          before = d.width - length inside;
          after = 0;
          parts = ap (λ xs. blanks (d.width - length inside) ++ xs) (sym (append-nil inside));
          fills = all;
          right = λ f. refl;
          left = λ f. absurd (cc);
        }

-- the least count of digits without a precision
least : (d : Conversion) (others : ℕ) (t : Bool) → zeros_fill d ≡ t → least_by d others None ≡ (if t then max 1 (d.width - others) else 1)
least d others t e = ap (λ b. if b then max 1 (d.width - others) else 1) e

-- digits that zeros may fill, behind what comes first
record Filled (d : Conversion) (base : ℕ) (upper : Bool) (first : List ℕ) (n : ℕ) (precision : Option ℕ) (text : List ℕ) : Type 0 where
  digits : List ℕ
  are : AreDigits base upper (least_by d (length first) precision) n digits
  parts : text ≡ first ++ digits

filled_digits : (d : Conversion) (base : ℕ) (upper : Bool) (first : List ℕ) (n : ℕ) → 2 ≤ base → base ≤ 16 → n < base ^ 64 → (o : Option ℕ)
    → Filled d base upper first n o (zero_filled (is_zero_filled d o) d first (with_precision o n (digits base upper n)))
filled_digits d base upper first n low high l None = by (zeros_fill d) refl
  where
    by : (t : Bool) → zeros_fill d ≡ t → Filled d base upper first n None (zero_filled t d first (digits base upper n))
    by true e = record {
      digits = filled (d.width - length first) (digits base upper n);
      are = subst (λ (m : ℕ). AreDigits base upper m n (filled (d.width - length first) (digits base upper n)))
          (sym (least d (length first) true e)) (fill base upper 1 n (d.width - length first) (digits base upper n) low (plain base upper n low high l));
      parts = refl;
    }
    by false e = record {
      digits = digits base upper n;
      are = subst (λ (m : ℕ). AreDigits base upper m n (digits base upper n)) (sym (least d (length first) false e)) (plain base upper n low high l);
      parts = refl;
    }
filled_digits d base upper first n low high l (Some zero) = by (n == 0) refl
  where
    by : (t : Bool) → (n == 0) ≡ t → Filled d base upper first n (Some 0) (first ++ (if t then [] else filled 0 (digits base upper n)))
    by true e =
        let z : 0 ≡ n = grind (arith, nat_tests) in
        record { digits = []; are = subst (λ (m : ℕ). AreDigits base upper 0 m []) z (no_digits base upper); parts = refl }
    by false e =
        let some : n ≢ 0 = grind (arith, nat_tests) in
        let none : 0 - length (digits base upper n) ≡ 0 = omega arith in
        record { digits = digits base upper n; are = plain_some base upper n low high l some; parts = ap (λ k. first ++ (zeros k ++ digits base upper n)) none }
filled_digits d base upper first n low high l (Some (suc p)) = record {
  digits = filled (suc p) (digits base upper n);
  are = subst (λ (m : ℕ). AreDigits base upper m n (filled (suc p) (digits base upper n))) {x = max 1 (suc p)} {y = suc p} (omega arith)
      (fill base upper 1 n (suc p) (digits base upper n) low (plain base upper n low high l));
  parts = ap (λ t. first ++ (if t && (n == 0) then [] else filled (suc p) (digits base upper n))) some;
}
  where
    some : (suc p == 0) ≡ false
    some = grind (arith, nat_tests)

-- a number and what comes before it
pub number : (d : Conversion) (base : ℕ) (upper : Bool) (first : List ℕ) (n : ℕ) → 2 ≤ base → base ≤ 16 → n < base ^ 64
    → IsNumber d base upper first n (integer_text d n first (digits base upper n))
number d base upper first n low high l =
    let f = filled_digits d base upper first n low high l d.precision in
    record {
      digits = f.digits;
      are = f.are;
      placed = subst (λ (inside : List ℕ). IsInWidth d inside (integer_text d n first (digits base upper n))) f.parts
          (in_width d (zero_filled (is_zero_filled d d.precision) d first (with_precision d.precision n (digits base upper n))));
    }

-- ---- octal digits

unmarked : (d : Conversion) → has_flag hash d ≡ false → (xs : List ℕ) → octal_mark d xs ≡ xs
unmarked d e [] = ap (λ t. if t then 48 ∷ [] else []) e
unmarked d e (c ∷ cs) = ap (λ t. if t && not (c == 48) then 48 ∷ (c ∷ cs) else c ∷ cs) e

pub octal : (d : Conversion) (n : ℕ) → has_flag hash d ≡ false → n < 8 ^ 64
    → IsNumber d 8 false [] n (number_text d d.precision [] (octal_mark d (with_precision d.precision n (digits 8 false n))))
octal d n e l = subst (λ (xs : List ℕ). IsNumber d 8 false [] n (number_text d d.precision [] xs))
    (sym (unmarked d e (with_precision d.precision n (digits 8 false n)))) (number d 8 false [] n (omega arith) (omega arith) l)

mark_of : (d : Conversion) (least n : ℕ) → has_flag hash d ≡ true → (xs : List ℕ) → AreDigits 8 false least n xs → AreMarked least n (octal_mark d xs)
mark_of d least n e [] h = subst (AreMarked least n) (sym (ap (λ t. if t then 48 ∷ [] else []) e)) record {
  digits = (omega arith, tt);
  value = h.value;
  many = let m = h.many in omega arith;
  begins = refl;
  no_more = λ rest f b. absurd (empty rest f b);
}
  where
    empty : (rest : List ℕ) → 48 ∷ [] ≡ 48 ∷ rest → BeginsWith 48 rest → ⊥
    empty [] f b = b
    empty (c ∷ cs) f b = absurd (cc)
mark_of d least n e (c ∷ cs) h = by (c == 48) refl
  where
    turn : octal_mark d (c ∷ cs) ≡ (if not (c == 48) then 48 ∷ (c ∷ cs) else c ∷ cs)
    turn = ap (λ t. if t && not (c == 48) then 48 ∷ (c ∷ cs) else c ∷ cs) e

    by : (t : Bool) → (c == 48) ≡ t → AreMarked least n (octal_mark d (c ∷ cs))
    by true f =
        let is : c ≡ 48 = grind (arith, nat_tests) in
        subst (AreMarked least n) (sym (turn ∙ ap (λ t. if not t then 48 ∷ (c ∷ cs) else c ∷ cs) f)) record {
          digits = h.digits;
          value = h.value;
          many = h.many;
          begins = is;
          no_more = λ rest g b. h.no_more is;
        }
    by false f =
        let is : c ≢ 48 = grind (arith, nat_tests) in
        let many = h.many in
        subst (AreMarked least n) (sym (turn ∙ ap (λ t. if not t then 48 ∷ (c ∷ cs) else c ∷ cs) f)) record {
          digits = (omega arith, h.digits);
          value = h.value;
          many = omega arith;
          begins = refl;
          no_more = λ rest g b. absurd (is (other rest g b));
        }
      where
        other : (rest : List ℕ) → 48 ∷ (c ∷ cs) ≡ 48 ∷ rest → BeginsWith 48 rest → c ≡ 48
        other [] g b = absurd b
        other (x ∷ xs) g b = cc

-- octal digits with the flag `#`
pub record Marked (d : Conversion) (n : ℕ) (text : List ℕ) : Type 0 where
  pub digits : List ℕ
  pub are : AreMarked (least_by d 0 d.precision) n digits
  pub placed : IsInWidth d digits text

marked_by : (d : Conversion) (n : ℕ) → has_flag hash d ≡ true → n < 8 ^ 64 → (o : Option ℕ)
    → AreMarked (least_by d 0 o) n (zero_filled (is_zero_filled d o) d [] (octal_mark d (with_precision o n (digits 8 false n))))
marked_by d n e l None = by (zeros_fill d) refl
  where
    one : AreMarked 1 n (octal_mark d (digits 8 false n))
    one = mark_of d 1 n e (digits 8 false n) (plain 8 false n (omega arith) (omega arith) l)

    by : (t : Bool) → zeros_fill d ≡ t → AreMarked (least_by d 0 None) n (zero_filled t d [] (octal_mark d (digits 8 false n)))
    by true f = subst (λ (m : ℕ). AreMarked m n (filled (d.width - 0) (octal_mark d (digits 8 false n))))
        (sym (least d 0 true f)) (marked_fill 1 n (d.width - 0) (octal_mark d (digits 8 false n)) one)
    by false f = subst (λ (m : ℕ). AreMarked m n (octal_mark d (digits 8 false n))) (sym (least d 0 false f)) one
marked_by d n e l (Some p) =
    let f = filled_digits d 8 false [] n (omega arith) (omega arith) l (Some p) in
    subst (λ (xs : List ℕ). AreMarked p n (octal_mark d xs)) (sym f.parts) (mark_of d p n e f.digits f.are)

pub marked_octal : (d : Conversion) (n : ℕ) → has_flag hash d ≡ true → n < 8 ^ 64
    → Marked d n (number_text d d.precision [] (octal_mark d (with_precision d.precision n (digits 8 false n))))
marked_octal d n e l = record {
  digits = zero_filled (is_zero_filled d d.precision) d [] (octal_mark d (with_precision d.precision n (digits 8 false n)));
  are = marked_by d n e l d.precision;
  placed = in_width d (zero_filled (is_zero_filled d d.precision) d [] (octal_mark d (with_precision d.precision n (digits 8 false n))));
}

-- ---- a number with a point

pub same_fraction : (d : Conversion) (o : Option ℕ) → fraction_text d o ≡ fraction d o
same_fraction d None = refl
same_fraction d (Some zero) = refl
same_fraction d (Some (suc p)) = refl

pub record Pointed (d : Conversion) (first last : List ℕ) (n : ℕ) (text : List ℕ) : Type 0 where
  pub digits : List ℕ
  pub are : AreDigits 10 false (least_by d (length first + length last) None) n digits
  pub placed : IsInWidth d (first ++ (digits ++ last)) text

pub pointed : (d : Conversion) (first last : List ℕ) (n : ℕ) → n < 10 ^ 64 → Pointed d first last n (number_text d None first (digits 10 false n ++ last))
pointed d first last n l = by (zeros_fill d) refl
  where
    one : AreDigits 10 false 1 n (digits 10 false n)
    one = plain 10 false n (omega arith) (omega arith) l

    by : (t : Bool) → zeros_fill d ≡ t → Pointed d first last n (padded d (zero_filled t d first (digits 10 false n ++ last)))
    by true e =
        let size = length-append (digits 10 false n) last in
        let gap : d.width - length first - length (digits 10 false n ++ last)
        ≡ d.width - (length first + length last) - length (digits 10 false n) = omega arith in
        let parts : first ++ (filled (d.width - length first) (digits 10 false n ++ last))
        ≡ first ++ (filled (d.width - (length first + length last)) (digits 10 false n) ++ last)
        = ap (λ k. first ++ (zeros k ++ (digits 10 false n ++ last))) gap
        ∙ ap (λ xs. first ++ xs) (sym (append_assoc (zeros (d.width - (length first + length last) - length (digits 10 false n))) (digits 10 false n) last)) in
        record {
          digits = filled (d.width - (length first + length last)) (digits 10 false n);
          are = subst (λ (m : ℕ). AreDigits 10 false m n (filled (d.width - (length first + length last)) (digits 10 false n)))
              (sym (least d (length first + length last) true e))
              (fill 10 false 1 n (d.width - (length first + length last)) (digits 10 false n) (omega arith) one);
          placed = subst (λ (inside : List ℕ). IsInWidth d inside (padded d (first ++ filled (d.width - length first) (digits 10 false n ++ last)))) parts
              (in_width d (first ++ filled (d.width - length first) (digits 10 false n ++ last)));
        }
    by false e = record {
      digits = digits 10 false n;
      are = subst (λ (m : ℕ). AreDigits 10 false m n (digits 10 false n)) (sym (least d (length first + length last) false e)) one;
      placed = in_width d (first ++ (digits 10 false n ++ last));
    }
