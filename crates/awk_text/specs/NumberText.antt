-- What number text is, and which number a text stands for.
use Rattle.std.specs.Prelude.{◌≡◌, ◌⊎◌, ℕ, ◌+◌, ◌*◌, ◌<◌, ◌≤◌, Bool, true, false, ◌==◌, Result, Ok, Err, List, [], ◌∷◌, ◌++◌, length, ℤ, pos, neg_ℤ, ◌≤ℤ◌}
use Rattle.awk_text.specs.Bytes.{plus, minus, point, digit_zero, upper_e, lower_e}
use Rattle.awk_text.specs.Reading.{AllPass, AreDigits, Numeral, is_space}
use Rattle.awk_text.specs.Number.{largest, numerator, denominator, signed}
use Rattle.awk_text.specs.declared.number.NumberFault.{NumberFault}
use Rattle.awk_text.specs.declared.number.NumberFault.TheVariants.{Range, Fraction}

-- The numbers of this awk are the whole ones from -2^53 to 2^53, both included.
abbrev pub InRange : ℤ → Type 0
InRange z = (neg_ℤ (pos largest) ≤ℤ z) × (z ≤ℤ pos largest)

-- nothing, a plus or a minus
abbrev pub IsSign : List ℕ → Bool → Type 0
IsSign text negative = ((text ≡ []) × (negative ≡ false)) ⊎ (((text ≡ plus ∷ []) × (negative ≡ false)) ⊎ ((text ≡ minus ∷ []) × (negative ≡ true)))

-- nothing, or a point and digits
abbrev pub IsFraction : List ℕ → List ℕ → Type 0
IsFraction text digits = ((text ≡ []) × (digits ≡ [])) ⊎ ((text ≡ point ∷ digits) × AreDigits digits)

-- a mark, a sign and digits
pub record IsMarked (text : List ℕ) (negative : Bool) (digits : List ℕ) : Type 0 where
  pub mark : ℕ
  pub sign : List ℕ
  pub parted : text ≡ mark ∷ (sign ++ digits)
  pub marked : (mark ≡ lower_e) ⊎ (mark ≡ upper_e)
  pub signed : IsSign sign negative
  pub all_digits : AreDigits digits
  pub some : 1 ≤ length digits

-- nothing, or a mark, a sign and digits
abbrev pub IsExponent : List ℕ → Bool → List ℕ → Type 0
IsExponent text negative digits = ((text ≡ []) × (negative ≡ false) × (digits ≡ [])) ⊎ IsMarked text negative digits

-- Optional space bytes, an optional sign, digits with an optional point, at least one digit in all, and an optional exponent.
pub record IsNumberText (text : List ℕ) (n : Numeral) : Type 0 where
  pub spaces : List ℕ
  pub sign : List ℕ
  pub point : List ℕ
  pub exponent : List ℕ
  pub parted : text ≡ spaces ++ (sign ++ (n.whole ++ (point ++ exponent)))
  pub blank : AllPass is_space spaces
  pub signed : IsSign sign n.negative
  pub whole : AreDigits n.whole
  pub fraction : IsFraction point n.fraction
  pub some : 1 ≤ length (n.whole ++ n.fraction)
  pub exponent_is : IsExponent exponent n.exponent_negative n.exponent

-- The value of a numeral, where it is whole and in range: v with v * denominator = numerator, of the numeral's sign.
abbrev pub IsWholeValue : Numeral → Result ℤ NumberFault → Type 0
IsWholeValue n (Ok v) = (k : ℕ) × ((k * denominator n ≡ numerator n) × ((v ≡ signed n.negative k) × InRange v))
IsWholeValue n (Err Fraction) = (k : ℕ) → k * denominator n ≡ numerator n → ⊥
IsWholeValue n (Err Range) = (k : ℕ) × ((k * denominator n ≡ numerator n) × (InRange (signed n.negative k) → ⊥))

-- the whole number nearest to the numeral's value between it and 0
abbrev pub IsTruncated : Numeral → ℕ → Type 0
IsTruncated n k = (k * denominator n ≤ numerator n) × (numerator n < (k + 1) * denominator n)

abbrev pub IsTruncatedValue : Numeral → Result ℤ NumberFault → Type 0
IsTruncatedValue n (Ok v) = (k : ℕ) × (IsTruncated n k × ((v ≡ signed n.negative k) × InRange v))
IsTruncatedValue n (Err Fraction) = ⊥
IsTruncatedValue n (Err Range) = (k : ℕ) × (IsTruncated n k × (InRange (signed n.negative k) → ⊥))

-- a prefix of a text that is number text, and what follows it
pub record IsFront (text : List ℕ) (n : Numeral) (rest : List ℕ) : Type 0 where
  pub front : List ℕ
  pub parted : text ≡ front ++ rest
  pub is : IsNumberText front n

-- the longest such prefix: no other leaves less behind it
pub record IsLongestFront (text : List ℕ) (n : Numeral) (rest : List ℕ) : Type 0 where
  pub front : IsFront text n rest
  pub longest : (m : Numeral) (behind : List ℕ) → IsFront text m behind → length rest ≤ length behind

-- The number of a text, for a value of numerals: that of its longest prefix that is number text, or 0 where no prefix is.
pub record IsOfLongest (IsValue : Numeral → Result ℤ NumberFault → Type 0) (text : List ℕ) (number : Result ℤ NumberFault) : Type 0 where
  pub numeral : Numeral
  pub rest : List ℕ
  pub longest : IsLongestFront text numeral rest
  pub value : IsValue numeral number

pub record IsOfNone (text : List ℕ) (number : Result ℤ NumberFault) : Type 0 where
  pub none : (n : Numeral) (rest : List ℕ) → IsFront text n rest → ⊥
  pub zero : number ≡ Ok (pos 0)

abbrev pub IsNumberOf : (Numeral → Result ℤ NumberFault → Type 0) → List ℕ → Result ℤ NumberFault → Type 0
IsNumberOf IsValue text number = IsOfLongest IsValue text number ⊎ IsOfNone text number

-- number text with nothing but space bytes behind it
pub record IsNumericLooking (text : List ℕ) : Type 0 where
  pub numeral : Numeral
  pub rest : List ℕ
  pub front : IsFront text numeral rest
  pub blank : AllPass is_space rest

abbrev pub is_zero : ℕ → Bool
is_zero c = c == digit_zero

-- a mantissa digit other than 0 in the longest prefix that is number text
pub record IsNonzero (text : List ℕ) : Type 0 where
  pub numeral : Numeral
  pub rest : List ℕ
  pub longest : IsLongestFront text numeral rest
  pub other : AllPass is_zero (numeral.whole ++ numeral.fraction) → ⊥
