-- What a conversion writes.
use Rattle.std.proofs.Common.{◌≡◌, ◌⊎◌, inl, inr, ◌<◌, ◌≤◌, ℕ, zero, suc, ◌/◌, ◌%◌, Bool, true, false, List, [], ◌∷◌, ◌++◌, length, take, drop, Option, Some, None, Result, Ok, Err, refl, sym, subst, ◌∙◌, arith}
use Rattle.std.specs.Prelude.{ℤ, pos, negsuc, unsigned_abs, ◌==◌, ◌&&◌, not, nat_le, if◌then◌else◌, codes}
use Rattle.std.specs.Fmt.{digits}
use Rattle.std.proofs.lemmas.Bool.{cases_lt}
use Rattle.std.proofs.lemmas.Bool.Decides.{nat_tests}
use Rattle.std.proofs.lemmas.Int.{ints}
use Rattle.std.proofs.lemmas.List.{length-take-le, take_all, take-append-drop}
use Rattle.awk_text.specs.Bytes.{space, hash, plus}
use Rattle.awk_text.specs.Number.{denominator, largest, looks_numeric_text, number_of_text, numerator, of_front, ranged, signed, truncated_of_text, truncated_value, whole_value}
use Rattle.awk_text.specs.Reading.{Numeral, numeral_at}
use Rattle.awk_text.specs.declared.number.NumberFault.TheVariants as number
use Rattle.awk_values.specs.Values.{as_fault, number_of_value, text_of_value, truncated_of_value}
use Rattle.awk_values.specs.declared.fault.Fault.{Fault}
use Rattle.awk_values.specs.declared.value.Value.{Value}
use Rattle.awk_values.specs.declared.value.Value.TheVariants.{Uninit, Num, Text, StrNum}
use Rattle.sem_primitives.specs.SharedState.{◌>>=◌}
use Rattle.sem_primitives.specs.Formats.{Conversion, Specifier, Signed, Octal, Unsigned, LowerHex, UpperHex, Fixed, String, Char, byte_of_number, char_of, converted, first_bytes, fraction_text, has_flag, hex_mark, integer_text, number_text, octal_mark, padded, sign_of, with_precision}
use Rattle.sem_primitives.specs.Formats as formats
use Rattle.agreement.specs.Formats.Written.{IsByte, nothing, of_number, of_text, of_other, IsCut, whole, short, first, IsInRange, IsMark, marked, of_zero, without, IsSign, negative, positive, blank, none, IsUnsigned, IsWritten, first_byte, fraction}
use Rattle.agreement.specs.Formats.Written as written
use Rattle.agreement.proofs.FormatsLemmas.Numbers.{Pointed, in_width, marked_octal, number, octal, pointed, same_fraction}

-- ---- numbers are in range

magnitude : (sign : Bool) (n : ℕ) → unsigned_abs (signed sign n) ≤ n
magnitude true zero = omega arith
magnitude true (suc n) = omega arith
magnitude false n = omega arith

in_range : (sign : Bool) (n : ℕ) (z : ℤ) → as_fault (ranged sign n) ≡ Ok z → unsigned_abs z ≤ largest
in_range sign n z = by (nat_le n largest) refl
  where
    by : (t : Bool) → nat_le n largest ≡ t → as_fault (if t then Ok (signed sign n) else Err number.Range) ≡ Ok z → unsigned_abs z ≤ largest
    by true e h =
        let same : signed sign n ≡ z = cc in
        let low : n ≤ largest = grind (arith, nat_tests) in
        let m : unsigned_abs z ≤ n = subst (λ (y : ℤ). unsigned_abs y ≤ n) same (magnitude sign n) in
        omega arith
    by false e h = absurd (cc)

truncated_in_range : (text : List ℕ) (z : ℤ) → as_fault (truncated_of_text text) ≡ Ok z → unsigned_abs z ≤ largest
truncated_in_range text z = by (numeral_at text)
  where
    by : (o : Option (Numeral × List ℕ)) → as_fault (of_front truncated_value o) ≡ Ok z → unsigned_abs z ≤ largest
    by None h = let same : pos 0 ≡ z = cc in subst (λ (y : ℤ). unsigned_abs y ≤ largest) same (omega arith)
    by (Some f) h = in_range f.0.negative (numerator f.0 / denominator f.0) z h

whole_in_range : (text : List ℕ) (z : ℤ) → as_fault (number_of_text text) ≡ Ok z → unsigned_abs z ≤ largest
whole_in_range text z = by (numeral_at text)
  where
    by : (o : Option (Numeral × List ℕ)) → as_fault (of_front whole_value o) ≡ Ok z → unsigned_abs z ≤ largest
    by None h = let same : pos 0 ≡ z = cc in subst (λ (y : ℤ). unsigned_abs y ≤ largest) same (omega arith)
    by (Some f) h = test ((numerator f.0 % denominator f.0) == 0) h
      where
        test : (t : Bool) → as_fault (if t then truncated_value f.0 else Err number.Fraction) ≡ Ok z → unsigned_abs z ≤ largest
        test true g = in_range f.0.negative (numerator f.0 / denominator f.0) z g
        test false g = absurd (cc)

pub truncated_range : (v : Value) (z : ℤ) → IsInRange v → truncated_of_value v ≡ Ok z → unsigned_abs z ≤ largest
truncated_range Uninit z r h = let same : pos 0 ≡ z = cc in subst (λ (y : ℤ). unsigned_abs y ≤ largest) same (omega arith)
truncated_range (Num n) z r h = let same : n ≡ z = cc in subst (λ (y : ℤ). unsigned_abs y ≤ largest) same r
truncated_range (Text text) z r h = truncated_in_range text z h
truncated_range (StrNum text) z r h = truncated_in_range text z h

number_range : (v : Value) (z : ℤ) → IsInRange v → number_of_value v ≡ Ok z → unsigned_abs z ≤ largest
number_range Uninit z r h = let same : pos 0 ≡ z = cc in subst (λ (y : ℤ). unsigned_abs y ≤ largest) same (omega arith)
number_range (Num n) z r h = let same : n ≡ z = cc in subst (λ (y : ℤ). unsigned_abs y ≤ largest) same r
number_range (Text text) z r h = whole_in_range text z h
number_range (StrNum text) z r h = whole_in_range text z h

-- ---- parts

sign : (d : Conversion) (z : ℤ) → IsSign d z (sign_of d z)
sign d (negsuc n) = negative
sign d (pos n) = by (has_flag plus d) refl (has_flag space d) refl
  where
    by : (p : Bool) → has_flag plus d ≡ p → (s : Bool) → has_flag space d ≡ s
        → IsSign d (pos n) (if p then plus ∷ [] else if s then space ∷ [] else [])
    by true e s f = positive e
    by false e true f = blank e f
    by false e false f = none e f

modulo : (z : ℤ) → unsigned_abs z ≤ largest → IsUnsigned z (formats.unsigned z)
modulo (pos n) h = (omega arith, inl refl)
modulo (negsuc n) h = (omega (arith, ints), inr (omega (arith, ints)))

mark : (d : Conversion) (text : List ℕ) (n : ℕ) → IsMark d text n (hex_mark d n text)
mark d text n = by (has_flag hash d) refl (n == 0) refl
  where
    by : (t : Bool) → has_flag hash d ≡ t → (z : Bool) → (n == 0) ≡ z → IsMark d text n (if t && not z then text else [])
    by true e true f = let is : 0 ≡ n = grind (arith, nat_tests) in subst (λ (m : ℕ). IsMark d text m []) is of_zero
    by true e false f = marked e (grind (arith, nat_tests))
    by false e z f = without e

cut : (o : Option ℕ) (text : List ℕ) → IsCut o text (first_bytes o text)
cut None text = whole
cut (Some p) text = by (cases_lt p (length text))
  where
    by : (p < length text) ⊎ (length text ≤ p) → IsCut (Some p) text (take p text)
    by (inl l) =
        subst (λ (n : ℕ). IsCut (Some n) text (take p text)) (length-take-le p text (omega arith))
        (subst (λ (xs : List ℕ). IsCut (Some (length (take p text))) xs (take p text)) (take-append-drop p text) (first (drop p text)))
    by (inr l) = subst (λ (xs : List ℕ). IsCut (Some p) text xs) (sym (take_all p text l)) (short l)

first_is : (text : List ℕ) → take 1 text ≡ first_byte text
first_is [] = refl
first_is (c ∷ cs) = refl

number_byte : (v : Value) (one : List ℕ) → IsInRange v → byte_of_number v ≡ Ok one → IsByte v one
number_byte v one r = by (truncated_of_value v) refl
  where
    by : (o : Result ℤ Fault) → truncated_of_value v ≡ o → (o >>= λ z. Ok ((formats.unsigned z % 256) ∷ [])) ≡ Ok one → IsByte v one
    by (Err fault) e h = absurd (cc)
    by (Ok z) e h =
        let same : (formats.unsigned z % 256) ∷ [] ≡ one = cc in
        subst (IsByte v) same (of_number e (modulo z (truncated_range v z r e)))

byte : (v : Value) (one : List ℕ) → IsInRange v → char_of v ≡ Ok one → IsByte v one
byte Uninit one r h = let same : [] ≡ one = cc in subst (IsByte Uninit) same nothing
byte (Num n) one r h = number_byte (Num n) one r h
byte (Text text) one r h = let same : take 1 text ≡ one = cc in subst (IsByte (Text text)) (sym (first_is text) ∙ same) of_text
byte (StrNum text) one r h = by (looks_numeric_text text) refl h
  where
    by : (t : Bool) → looks_numeric_text text ≡ t
        → ◌≡◌ {A = Result (List ℕ) Fault} (elim t [ true ↦ byte_of_number (StrNum text) | false ↦ Ok (take 1 text) ]) (Ok one) → IsByte (StrNum text) one
    by true e h = number_byte (StrNum text) one r h
    by false e h = let same : take 1 text ≡ one = cc in subst (IsByte (StrNum text)) (sym (first_is text) ∙ same) (of_other e)

-- ---- each specifier

abbrev in_base : Conversion → ℕ → Bool → ℕ → List ℕ
in_base d base upper n = integer_text d n [] (digits base upper n)

abbrev signed_text : Conversion → ℤ → List ℕ
signed_text d z = integer_text d (unsigned_abs z) (sign_of d z) (digits 10 false (unsigned_abs z))

abbrev octal_text : Conversion → ℕ → List ℕ
octal_text d n = number_text d d.precision [] (octal_mark d (with_precision d.precision n (digits 8 false n)))

abbrev hex_text : Conversion → List ℕ → Bool → ℕ → List ℕ
hex_text d text upper n = integer_text d n (hex_mark d n text) (digits 16 upper n)

abbrev fixed_text : Conversion → ℤ → List ℕ → List ℕ
fixed_text d z last = number_text d None (sign_of d z) (digits 10 false (unsigned_abs z) ++ last)

-- what a converted number gives
after : {A B : Type 0} (o : Result A Fault) (f : A → Result B Fault) {b : B} → (o >>= f) ≡ Ok b → (a : A) × (o ≡ Ok a) × (f a ≡ Ok b)
after (Ok a) f h = (a, refl, h)
after (Err fault) f h = absurd (cc)

wrote : (d : Conversion) (s : Specifier) (v : Value) (text one : List ℕ)
    → ◌≡◌ {A = Result (List ℕ) Fault} (Ok text) (Ok one) → IsWritten d s v text → IsWritten d s v one
wrote d s v text one e h = let same : text ≡ one = cc in subst (IsWritten d s v) same h

octal_written : (d : Conversion) (v : Value) (z : ℤ) → truncated_of_value v ≡ Ok z → unsigned_abs z ≤ largest → (t : Bool) → has_flag hash d ≡ t
    → IsWritten d Octal v (octal_text d (formats.unsigned z))
octal_written d v z e r true f =
    let u = modulo z r in
    let l = u.0 in
    let m = marked_octal d (formats.unsigned z) f (omega arith) in
    written.marked_octal m.digits e u f m.are m.placed
octal_written d v z e r false f =
    let u = modulo z r in
    let l = u.0 in
    written.octal e u f (octal d (formats.unsigned z) f (omega arith))

pub writes : (d : Conversion) (s : Specifier) (v : Value) (one : List ℕ) → IsInRange v → converted d s v ≡ Ok one → IsWritten d s v one
writes d Signed v one r h =
    let a = after (truncated_of_value v) (λ z. Ok (signed_text d z)) h in
    let l = truncated_range v a.0 r a.1 in
    wrote d Signed v (signed_text d a.0) one a.2
    (written.signed a.1 (sign d a.0) (number d 10 false (sign_of d a.0) (unsigned_abs a.0) (omega arith) (omega arith) (omega arith)))
writes d Octal v one r h =
    let a = after (truncated_of_value v) (λ z. Ok (octal_text d (formats.unsigned z))) h in
    wrote d Octal v (octal_text d (formats.unsigned a.0)) one a.2 (octal_written d v a.0 a.1 (truncated_range v a.0 r a.1) (has_flag hash d) refl)
writes d Unsigned v one r h =
    let a = after (truncated_of_value v) (λ z. Ok (in_base d 10 false (formats.unsigned z))) h in
    let u = modulo a.0 (truncated_range v a.0 r a.1) in
    let l = u.0 in
    wrote d Unsigned v (in_base d 10 false (formats.unsigned a.0)) one a.2
    (written.unsigned a.1 u (number d 10 false [] (formats.unsigned a.0) (omega arith) (omega arith) (omega arith)))
writes d LowerHex v one r h =
    let a = after (truncated_of_value v) (λ z. Ok (hex_text d (codes "0x") false (formats.unsigned z))) h in
    let u = modulo a.0 (truncated_range v a.0 r a.1) in
    let l = u.0 in
    let m = hex_mark d (formats.unsigned a.0) (codes "0x") in
    wrote d LowerHex v (hex_text d (codes "0x") false (formats.unsigned a.0)) one a.2
    (written.lower_hex a.1 u (mark d (codes "0x") (formats.unsigned a.0))
    (number d 16 false m (formats.unsigned a.0) (omega arith) (omega arith) (omega arith)))
writes d UpperHex v one r h =
    let a = after (truncated_of_value v) (λ z. Ok (hex_text d (codes "0X") true (formats.unsigned z))) h in
    let u = modulo a.0 (truncated_range v a.0 r a.1) in
    let l = u.0 in
    let m = hex_mark d (formats.unsigned a.0) (codes "0X") in
    wrote d UpperHex v (hex_text d (codes "0X") true (formats.unsigned a.0)) one a.2
    (written.upper_hex a.1 u (mark d (codes "0X") (formats.unsigned a.0))
    (number d 16 true m (formats.unsigned a.0) (omega arith) (omega arith) (omega arith)))
writes d Fixed v one r h =
    let a = after (number_of_value v) (λ z. Ok (fixed_text d z (fraction_text d d.precision))) h in
    let l = number_range v a.0 r a.1 in
    let p : Pointed d (sign_of d a.0) (fraction d d.precision) (unsigned_abs a.0) (fixed_text d a.0 (fraction_text d d.precision))
    = subst (λ (xs : List ℕ). Pointed d (sign_of d a.0) (fraction d d.precision) (unsigned_abs a.0) (fixed_text d a.0 xs))
    (sym (same_fraction d d.precision)) (pointed d (sign_of d a.0) (fraction d d.precision) (unsigned_abs a.0) (omega arith)) in
    wrote d Fixed v (fixed_text d a.0 (fraction_text d d.precision)) one a.2 (written.fixed p.digits a.1 (sign d a.0) p.are p.placed)
writes d String v one r h =
    wrote d String v (padded d (first_bytes d.precision (text_of_value v))) one h
    (written.text (cut d.precision (text_of_value v)) (in_width d (first_bytes d.precision (text_of_value v))))
writes d Char v one r h =
    let a = after (char_of v) (λ text. Ok (padded d text)) h in
    wrote d Char v (padded d a.0) one a.2 (written.byte (byte v a.0 r a.1) (in_width d a.0))
