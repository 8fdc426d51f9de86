-- How a format is read, and its text made.
use Rattle.std.proofs.Common.{◌≡◌, ◌≢◌, ◌⊎◌, inl, inr, ◌<◌, ◌≤◌, ℕ, zero, suc, ◌+◌, ◌-◌, ◌*◌, ◌^◌, Bool, true, false, cond, List, [], ◌∷◌, ◌++◌, length, take, drop, Option, Some, None, Result, Ok, Err, refl, sym, ap, subst, ◌∙◌, append_assoc, arith}
use Rattle.std.specs.Prelude.{◌==◌, ◌||◌, ◌&&◌, nat_le, nat_lt, take_while, if◌then◌else◌, codes}
use Rattle.std.specs.Char.{digit_value}
use Rattle.std.specs.Str.Parse.{AllDigits, digits_value_after}
use borrow.Author.Tests.{eqb-true}
use Rattle.std.proofs.lemmas.Bool.Decides.{nat_tests}
use Rattle.std.proofs.lemmas.List.{length-append}
use Rattle.std.proofs.lemmas.List.Sums.{take_while-cons}
use Rattle.awk_text.specs.Bytes.{percent, point, digit_zero, upper_x, lower_c, lower_d, lower_f, lower_i, lower_o, lower_s, lower_u, lower_x}
use Rattle.awk_text.specs.Reading.{digits_at, is_digit}
use Rattle.awk_text.specs.Number.{value_after}
use Rattle.awk_values.specs.declared.fault.Fault.{Fault}
use Rattle.awk_values.specs.declared.fault.Fault.TheVariants as fault
use Rattle.awk_values.specs.declared.value.Value.{Value}
use Rattle.sem_primitives.specs.Limits.{most_text}
use Rattle.sem_primitives.specs.SharedState.{◌>>=◌}
use Rattle.sem_primitives.specs.Formats.{Conversion, Specifier, Signed, Octal, Unsigned, LowerHex, UpperHex, Fixed, String, Char, Piece, Ordinary, Converts, Malformed, conversion_at, converted, formatted, formatted_from, is_flag, is_narrow, piece_at, pieces_from, precision_at, specified, specifier_of, then_text, wide}
use Rattle.sem_primitives.specs.Formats as formats
use Rattle.agreement.specs.Formats.Read.{AreFlags, IsConversion, IsFormatted, ends, byte, percent_sign, conversion, IsPrecision, no_precision, precision, IsWidth, OneOf, letters}

-- ---- the bytes at the front that pass

split : (p : ℕ → Bool) (xs : List ℕ) → take_while p xs ++ drop (length (take_while p xs)) xs ≡ xs
split p [] = refl
split p (c ∷ cs) = subst (λ ys. ys ++ drop (length ys) (c ∷ cs) ≡ c ∷ cs) (sym (take_while-cons p c cs)) (by (p c) (split p cs))
  where
    by : (t : Bool) → take_while p cs ++ drop (length (take_while p cs)) cs ≡ cs
        → cond t (c ∷ take_while p cs) [] ++ drop (length (cond t (c ∷ take_while p cs) [])) (c ∷ cs) ≡ c ∷ cs
    by true more = ap (c ∷◌) more
    by false more = refl

pub taken : (p : ℕ → Bool) (xs : List ℕ) → take (length (take_while p xs)) xs ≡ take_while p xs
taken p [] = refl
taken p (c ∷ cs) = subst (λ ys. take (length ys) (c ∷ cs) ≡ ys) (sym (take_while-cons p c cs)) (by (p c) (taken p cs))
  where
    by : (t : Bool) → take (length (take_while p cs)) cs ≡ take_while p cs
        → take (length (cond t (c ∷ take_while p cs) [])) (c ∷ cs) ≡ cond t (c ∷ take_while p cs) []
    by true more = ap (c ∷◌) more
    by false more = refl

-- the next byte does not pass
stops : (p : ℕ → Bool) (xs : List ℕ) (d : ℕ) (rest : List ℕ) → drop (length (take_while p xs)) xs ≡ d ∷ rest → p d ≡ false
stops p [] d rest e = absurd (cc)
stops p (c ∷ cs) d rest e =
    by (p c) refl (stops p cs d rest) (subst (λ ys. drop (length ys) (c ∷ cs) ≡ d ∷ rest) (take_while-cons p c cs) e)
  where
    by : (t : Bool) → p c ≡ t → (drop (length (take_while p cs)) cs ≡ d ∷ rest → p d ≡ false)
        → drop (length (cond t (c ∷ take_while p cs) [])) (c ∷ cs) ≡ d ∷ rest → p d ≡ false
    by true f more g = more g
    by false f more g = let same : c ≡ d = cc in subst (λ x. p x ≡ false) same f

-- ---- flags

test : (c d : ℕ) (more : Bool) (P : Type 0) → (more ≡ true → P) → ((c == d) || more) ≡ true → (c ≡ d) ⊎ P
test c d more P later = by (c == d) refl
  where
    by : (t : Bool) → (c == d) ≡ t → (t || more) ≡ true → (c ≡ d) ⊎ P
    by true f e = inl (eqb-true c d f)
    by false f e = inr (later e)

flag : (c : ℕ) → is_flag c ≡ true → OneOf c (codes "-+ #0")
flag c =
    test c 45 ((c == 43) || ((c == 32) || ((c == 35) || (c == 48)))) (OneOf c (codes "+ #0"))
    (test c 43 ((c == 32) || ((c == 35) || (c == 48))) (OneOf c (codes " #0"))
    (test c 32 ((c == 35) || (c == 48)) (OneOf c (codes "#0"))
    (test c 35 (c == 48) (OneOf c (codes "0")) (λ e. inl (eqb-true c 48 e)))))

flags : (cs : List ℕ) → AreFlags (take_while is_flag cs)
flags [] = tt
flags (c ∷ cs) = subst AreFlags (sym (take_while-cons is_flag c cs)) (by (is_flag c) refl (flags cs))
  where
    by : (t : Bool) → is_flag c ≡ t → AreFlags (take_while is_flag cs) → AreFlags (cond t (c ∷ take_while is_flag cs) [])
    by true e more = (flag c e, more)
    by false e more = tt

-- ---- digits

digit : (c : ℕ) → is_digit c ≡ true → digit_value c < 10
digit c e = grind (arith, nat_tests)

same_digit : (c : ℕ) → digit_value c < 10 → c - 48 ≡ digit_value c
same_digit c h = grind (arith, nat_tests)

all_digits : (xs : List ℕ) → AllDigits 10 (take_while is_digit xs)
all_digits [] = tt
all_digits (c ∷ cs) = subst (AllDigits 10) (sym (take_while-cons is_digit c cs)) (by (is_digit c) refl (all_digits cs))
  where
    by : (t : Bool) → is_digit c ≡ t → AllDigits 10 (take_while is_digit cs) → AllDigits 10 (cond t (c ∷ take_while is_digit cs) [])
    by true e more = (digit c e, more)
    by false e more = tt

digits_are : (xs : List ℕ) → AllDigits 10 (digits_at xs).0
digits_are xs = subst (AllDigits 10) (sym (taken is_digit xs)) (all_digits xs)

digits_end : (xs : List ℕ) → (digits_at xs).0 ++ (digits_at xs).1 ≡ xs
digits_end xs = subst (λ ys. ys ++ (digits_at xs).1 ≡ xs) (sym (taken is_digit xs)) (split is_digit xs)

pub same_value : (ds : List ℕ) (a : ℕ) → AllDigits 10 ds → value_after a ds ≡ digits_value_after 10 a ds
same_value [] a h = refl
same_value (c ∷ cs) a h = ap (λ n. value_after (a * 10 + n) cs) (same_digit c h.0) ∙ same_value cs (a * 10 + digit_value c) h.1

-- ---- the letter

abbrev from_c : ℕ → Option Specifier
from_c c = if c == lower_c then Some Char else None

abbrev from_s : ℕ → Option Specifier
from_s c = if c == lower_s then Some String else from_c c

abbrev from_f : ℕ → Option Specifier
from_f c = if c == lower_f then Some Fixed else from_s c

abbrev from_upper_x : ℕ → Option Specifier
from_upper_x c = if c == upper_x then Some UpperHex else from_f c

abbrev from_x : ℕ → Option Specifier
from_x c = if c == lower_x then Some LowerHex else from_upper_x c

abbrev from_u : ℕ → Option Specifier
from_u c = if c == lower_u then Some Unsigned else from_x c

abbrev from_o : ℕ → Option Specifier
from_o c = if c == lower_o then Some Octal else from_u c

abbrev IsLetter : ℕ → Specifier → Type 0
IsLetter c s = OneOf c (letters s)

chosen : (c : ℕ) (t : Bool) (x s : Specifier) (more : Option Specifier) → (t ≡ true → IsLetter c x) → (more ≡ Some s → IsLetter c s)
    → (if t then Some x else more) ≡ Some s → IsLetter c s
chosen c true x s more here later e = let same : x ≡ s = cc in subst (IsLetter c) same (here refl)
chosen c false x s more here later e = later e

letter : (c : ℕ) (s : Specifier) → specifier_of c ≡ Some s → IsLetter c s
letter c s =
    chosen c ((c == lower_d) || (c == lower_i)) Signed s (from_o c) (test c lower_d (c == lower_i) (OneOf c (codes "i")) (λ e. inl (eqb-true c lower_i e)))
    (chosen c (c == lower_o) Octal s (from_u c) (λ e. inl (eqb-true c lower_o e))
    (chosen c (c == lower_u) Unsigned s (from_x c) (λ e. inl (eqb-true c lower_u e))
    (chosen c (c == lower_x) LowerHex s (from_upper_x c) (λ e. inl (eqb-true c lower_x e))
    (chosen c (c == upper_x) UpperHex s (from_f c) (λ e. inl (eqb-true c upper_x e))
    (chosen c (c == lower_f) Fixed s (from_s c) (λ e. inl (eqb-true c lower_f e))
    (chosen c (c == lower_s) String s (from_c c) (λ e. inl (eqb-true c lower_s e))
    (chosen c (c == lower_c) Char s None (λ e. inl (eqb-true c lower_c e)) (λ e. absurd (cc)))))))))

-- ---- a conversion

-- behind the flags, the width, and what follows it
abbrev pub after_flags : List ℕ → List ℕ
after_flags cs = drop (length (take_while is_flag cs)) cs

abbrev width_of : List ℕ → List ℕ
width_of cs = (digits_at (after_flags cs)).0

abbrev after_width : List ℕ → List ℕ
after_width cs = (digits_at (after_flags cs)).1

abbrev pub conversion_of : List ℕ → ℕ → Option ℕ → Specifier → Conversion
conversion_of fs w o s = record { flags = fs; width = w; precision = o; specifier = s }

record Specified (fs : List ℕ) (w : ℕ) (o : Option ℕ) (after : List ℕ) (d : Conversion) (rest : List ℕ) : Type 0 where
  at : ℕ
  specifier : Specifier
  parts : after ≡ at ∷ rest
  is : conversion_of fs w o specifier ≡ d
  said : IsLetter at specifier
  most : w < 2 ^ 16
  narrow : is_narrow o ≡ true

both : (a b : Bool) → (a && b) ≡ true → (a ≡ true) × (b ≡ true)
both true b e = (refl, e)
both false b e = absurd (cc)

specifies : (fs : List ℕ) (w : ℕ) (o : Option ℕ) (after : List ℕ) (d : Conversion) (rest : List ℕ) → specified fs w o after ≡ (Converts d, rest)
    → Specified fs w o after d rest
specifies fs w o [] d rest e = let f = ap (λ (x : Piece × List ℕ). x.0) e in absurd (cc)
specifies fs w o (c ∷ cs) d rest e = by (specifier_of c) refl (ap (λ (x : Piece × List ℕ). x.0) e)
  where
    end : c ∷ cs ≡ c ∷ rest
    end = ap (λ (x : Piece × List ℕ). c ∷ x.1) e

    by : (s : Option Specifier) → specifier_of c ≡ s → formats.conversion fs w o s ≡ Converts d → Specified fs w o (c ∷ cs) d rest
    by None f g = absurd (cc)
    by (Some s) f g = narrow (is_narrow (Some w) && is_narrow o) refl g
      where
        narrow : (t : Bool) → (is_narrow (Some w) && is_narrow o) ≡ t → (if t then Converts (conversion_of fs w o s) else Malformed) ≡ Converts d
            → Specified fs w o (c ∷ cs) d rest
        narrow true h g =
            let b = both (is_narrow (Some w)) (is_narrow o) h in
            let small : nat_lt w (2 ^ 16) ≡ true = b.0 in
            record { at = c; specifier = s; parts = end; is = cc; said = letter c s f; most = grind (arith, nat_tests); narrow = b.1 }
        narrow false h g = absurd (cc)

record Pointed (after : List ℕ) (x : Option ℕ × List ℕ) : Type 0 where
  text : List ℕ
  is : IsPrecision text x.0
  parts : after ≡ text ++ x.1

abbrev pointed_by : ℕ → List ℕ → Bool → Option ℕ × List ℕ
pointed_by c cs t = if t then (Some (value_after 0 (digits_at cs).0), (digits_at cs).1) else (None, c ∷ cs)

pointed : (after : List ℕ) → is_narrow (precision_at after).0 ≡ true → Pointed after (precision_at after)
pointed [] h = record { text = []; is = no_precision; parts = refl }
pointed (c ∷ cs) h = by (c == point) refl h
  where
    by : (t : Bool) → (c == point) ≡ t → is_narrow (pointed_by c cs t).0 ≡ true → Pointed (c ∷ cs) (pointed_by c cs t)
    by true e h =
        let same = same_value (digits_at cs).0 0 (digits_are cs) in
        let small : nat_lt (value_after 0 (digits_at cs).0) (2 ^ 16) ≡ true = h in
        record {
          text = point ∷ (digits_at cs).0;
          is = subst (λ (n : ℕ). IsPrecision (point ∷ (digits_at cs).0) (Some n)) (sym same) (precision (digits_are cs) (grind (arith, nat_tests)));
          parts = ap (λ b. b ∷ cs) (eqb-true c point e) ∙ ap (point ∷◌) (sym (digits_end cs));
        }
    by false e h = record { text = []; is = no_precision; parts = refl }

width : (cs : List ℕ) → value_after 0 (width_of cs) < 2 ^ 16
    → IsWidth (width_of cs) (value_after 0 (width_of cs))
width cs h = record {
  digits = digits_are (after_flags cs);
  value = same_value (width_of cs) 0 (digits_are (after_flags cs));
  no_flag = λ rest e. absurd (no_zero rest e);
  most = h;
}
  where
    no_zero : (rest : List ℕ) → width_of cs ≡ digit_zero ∷ rest → ⊥
    no_zero rest e =
        let begins : after_flags cs ≡ digit_zero ∷ (rest ++ after_width cs)
        = sym (digits_end (after_flags cs)) ∙ ap (λ ys. ys ++ after_width cs) e in
        let no : is_flag digit_zero ≡ false = stops is_flag cs digit_zero (rest ++ after_width cs) begins in
        absurd (cc)

pub joined : (fs ws ps : List ℕ) (c : ℕ) (rest : List ℕ) → fs ++ (ws ++ (ps ++ (c ∷ rest))) ≡ (fs ++ (ws ++ (ps ++ (c ∷ [])))) ++ rest
joined fs ws ps c rest =
    ap (λ xs. fs ++ (ws ++ xs)) (sym (append_assoc ps (c ∷ []) rest))
    ∙ (ap (λ xs. fs ++ xs) (sym (append_assoc ws (ps ++ (c ∷ [])) rest)) ∙ sym (append_assoc fs (ws ++ (ps ++ (c ∷ []))) rest))

-- the text of a conversion, and what follows it
record Cut (cs : List ℕ) (d : Conversion) (rest : List ℕ) : Type 0 where
  spec : List ℕ
  is : IsConversion spec d
  parts : cs ≡ spec ++ rest

cut : (cs : List ℕ) (d : Conversion) (rest : List ℕ)
    → wide (take_while is_flag cs) (digits_at (after_flags cs)) ≡ (Converts d, rest) → Cut cs d rest
cut cs d rest e =
    let s = specifies (take_while is_flag cs) (value_after 0 (width_of cs))
    (precision_at (after_width cs)).0 (precision_at (after_width cs)).1 d rest e in
    let p = pointed (after_width cs) s.narrow in
    made s p
  where
    made : Specified (take_while is_flag cs) (value_after 0 (width_of cs))
        (precision_at (after_width cs)).0 (precision_at (after_width cs)).1 d rest
        → Pointed (after_width cs) (precision_at (after_width cs)) → Cut cs d rest
    made s p = record {
      spec = take_while is_flag cs ++ (width_of cs ++ (p.text ++ (s.at ∷ [])));
      is = subst (IsConversion (take_while is_flag cs ++ (width_of cs ++ (p.text ++ (s.at ∷ []))))) s.is record {
        width_text = width_of cs;
        precision_text = p.text;
        letter = s.at;
        parts = refl;
        flags = flags cs;
        width = width cs s.most;
        precision = p.is;
        specifier = s.said;
      };
      parts = sym (split is_flag cs)
          ∙ (ap (λ xs. take_while is_flag cs ++ xs) (sym (digits_end (after_flags cs))
          ∙ ap (λ xs. width_of cs ++ xs) (p.parts ∙ ap (λ xs. p.text ++ xs) s.parts))
          ∙ joined (take_while is_flag cs) (width_of cs) p.text s.at rest);
    }

-- ---- a piece

abbrev AtPiece : ℕ → List ℕ → Piece → List ℕ → Type 0
AtPiece c cs (Ordinary b) rest = ((c ≢ percent) × (b ≡ c) × (rest ≡ cs)) ⊎ ((c ≡ percent) × (b ≡ percent) × (cs ≡ percent ∷ rest))
AtPiece c cs (Converts d) rest = (c ≡ percent) × Cut cs d rest
AtPiece c cs Malformed rest = Unit {0}

no_ordinary : (fs : List ℕ) (w : ℕ) (o : Option ℕ) (after : List ℕ) (b : ℕ) (rest : List ℕ) → specified fs w o after ≡ (Ordinary b, rest) → ⊥
no_ordinary fs w o [] b rest e = let f = ap (λ (x : Piece × List ℕ). x.0) e in absurd (cc)
no_ordinary fs w o (c ∷ cs) b rest e = by (specifier_of c) (ap (λ (x : Piece × List ℕ). x.0) e)
  where
    by : (s : Option Specifier) → formats.conversion fs w o s ≡ Ordinary b → ⊥
    by None g = absurd (cc)
    by (Some s) g = narrow (is_narrow (Some w) && is_narrow o) g
      where
        narrow : (t : Bool) → (if t then Converts (conversion_of fs w o s) else Malformed) ≡ Ordinary b → ⊥
        narrow true h = absurd (cc)
        narrow false h = absurd (cc)

abbrev read_by : ℕ → List ℕ → Bool → Piece × List ℕ
read_by x xs t =
    if t then (Ordinary percent, xs) else wide (take_while is_flag (x ∷ xs)) (digits_at (after_flags (x ∷ xs)))

piece : (c : ℕ) (cs : List ℕ) (p : Piece) (rest : List ℕ) → piece_at c cs ≡ (p, rest) → AtPiece c cs p rest
piece c cs p rest = by (c == percent) refl
  where
    plain : (q : Piece) → ◌≡◌ {A = Piece × List ℕ} (Ordinary c, cs) (q, rest) → (c == percent) ≡ false → AtPiece c cs q rest
    plain (Ordinary b) e f =
        let first = ap (λ (x : Piece × List ℕ). x.0) e in
        let last : cs ≡ rest = ap (λ (x : Piece × List ℕ). x.1) e in
        inl (grind (arith, nat_tests), cc, sym last)
    plain (Converts d) e f = let first = ap (λ (x : Piece × List ℕ). x.0) e in absurd (cc)
    plain Malformed e f = tt

    after : (xs : List ℕ) (q : Piece) → conversion_at xs ≡ (q, rest) → c ≡ percent → AtPiece c xs q rest
    after [] (Ordinary b) e f = let first = ap (λ (x : Piece × List ℕ). x.0) e in absurd (cc)
    after [] (Converts d) e f = let first = ap (λ (x : Piece × List ℕ). x.0) e in absurd (cc)
    after xs Malformed e f = tt
    after (x ∷ xs) (Ordinary b) e f = twice (x == percent) refl e
      where
        twice : (t : Bool) → (x == percent) ≡ t
            → read_by x xs t ≡ (Ordinary b, rest)
            → AtPiece c (x ∷ xs) (Ordinary b) rest
        twice true g h =
            let first = ap (λ (y : Piece × List ℕ). y.0) h in
            let last : xs ≡ rest = ap (λ (y : Piece × List ℕ). y.1) h in
            let is : x ≡ percent = eqb-true x percent g in
            inr (f, cc, cc)
        twice false g h = absurd (no_ordinary (take_while is_flag (x ∷ xs)) (value_after 0 (width_of (x ∷ xs)))
            (precision_at (after_width (x ∷ xs))).0 (precision_at (after_width (x ∷ xs))).1 b rest h)
    after (x ∷ xs) (Converts d) e f = twice (x == percent) refl e
      where
        twice : (t : Bool) → (x == percent) ≡ t
            → read_by x xs t ≡ (Converts d, rest)
            → AtPiece c (x ∷ xs) (Converts d) rest
        twice true g h = let first = ap (λ (y : Piece × List ℕ). y.0) h in absurd (cc)
        twice false g h = (f, cut (x ∷ xs) d rest h)

    by : (t : Bool) → (c == percent) ≡ t → ◌≡◌ {A = Piece × List ℕ} (if t then conversion_at cs else (Ordinary c, cs)) (p, rest) → AtPiece c cs p rest
    by true e h = after cs p h (eqb-true c percent e)
    by false e h = plain p h e

-- ---- the text

record Then (before : ℕ) (one : List ℕ) (go : ℕ → Result (List ℕ) Fault) (text : List ℕ) : Type 0 where
  rest : List ℕ
  fits : before + length one ≤ most_text
  went : go (before + length one) ≡ Ok rest
  parts : one ++ rest ≡ text

then_is : (before : ℕ) (one : List ℕ) (go : ℕ → Result (List ℕ) Fault) (text : List ℕ) → then_text before one go ≡ Ok text → Then before one go text
then_is before one go text = by (nat_le (before + length one) most_text) refl
  where
    by : (t : Bool) → nat_le (before + length one) most_text ≡ t
        → ((if t then Ok (before + length one) else Err fault.TextLimit) >>= λ n. go n >>= λ rest. Ok (one ++ rest)) ≡ Ok text → Then before one go text
    by true e h = gone (go (before + length one)) refl h
      where
        gone : (r : Result (List ℕ) Fault) → go (before + length one) ≡ r → (r >>= λ rest. Ok (one ++ rest)) ≡ Ok text → Then before one go text
        gone (Ok rest) f g = record { rest = rest; fits = grind (arith, nat_tests); went = f; parts = cc }
        gone (Err x) f g = absurd (cc)
    by false e h = absurd (cc)

abbrev IsText : ℕ → List ℕ → List Value → List ℕ → Type 0
IsText before format values text = IsFormatted format values text × (before + length text ≤ most_text)

abbrev Reads : ℕ → Type 0
Reads n = (before : ℕ) (format : List ℕ) (values : List Value) (text : List ℕ) → length format ≤ n → before ≤ most_text
    → formatted_from before (pieces_from n format) values ≡ Ok text → IsText before format values text

ordinary : (n before c : ℕ) (cs : List ℕ) (values : List Value) (text : List ℕ) (b : ℕ) (rest : List ℕ) → Reads n → length cs ≤ n
    → AtPiece c cs (Ordinary b) rest → formatted_from before (Ordinary b ∷ pieces_from n rest) values ≡ Ok text → IsText before (c ∷ cs) values text
ordinary n before c cs values text b rest more l (inl a) e =
    let t = then_is before (b ∷ []) (λ m. formatted_from m (pieces_from n rest) values) text e in
    let r = more (before + length (b ∷ [])) rest values t.rest (subst (λ (xs : List ℕ). length xs ≤ n) (sym a.2) l) t.fits t.went in
    let last : before + 1 + length t.rest ≤ most_text = r.1 in
    let size : suc (length t.rest) ≡ length text = ap length t.parts in (
      subst (IsFormatted (c ∷ cs) values) (ap (λ x. x ∷ t.rest) (sym a.1) ∙ t.parts)
          (byte a.0 (subst (λ (xs : List ℕ). IsFormatted xs values t.rest) a.2 r.0)),
      omega arith,
    )
ordinary n before c cs values text b rest more l (inr a) e =
    let t = then_is before (b ∷ []) (λ m. formatted_from m (pieces_from n rest) values) text e in
    let step : suc (length rest) ≡ length cs = ap length (sym a.2) in
    let r = more (before + length (b ∷ [])) rest values t.rest (omega arith) t.fits t.went in
    let last : before + 1 + length t.rest ≤ most_text = r.1 in
    let size : suc (length t.rest) ≡ length text = ap length t.parts in (
      subst (IsFormatted (c ∷ cs) values) (ap (λ x. x ∷ t.rest) (sym a.1) ∙ t.parts)
          (subst (λ (xs : List ℕ). IsFormatted xs values (percent ∷ t.rest)) (ap (percent ∷◌) (sym a.2) ∙ ap (λ x. x ∷ cs) (sym a.0)) (percent_sign r.0)),
      omega arith,
    )

converts : (n before c : ℕ) (cs : List ℕ) (v : Value) (values : List Value) (text : List ℕ) (d : Conversion) (rest : List ℕ) → Reads n → length cs ≤ n
    → AtPiece c cs (Converts d) rest → formatted_from before (Converts d ∷ pieces_from n rest) (v ∷ values) ≡ Ok text → IsText before (c ∷ cs) (v ∷ values) text
converts n before c cs v values text d rest more l a = by (converted d d.specifier v) refl
  where
    by : (o : Result (List ℕ) Fault) → converted d d.specifier v ≡ o
        → (o >>= λ one. then_text before one (λ m. formatted_from m (pieces_from n rest) values)) ≡ Ok text → IsText before (c ∷ cs) (v ∷ values) text
    by (Err x) f e = absurd (cc)
    by (Ok one) f e =
        let t = then_is before one (λ m. formatted_from m (pieces_from n rest) values) text e in
        let step : length cs ≡ length a.1.spec + length rest = ap length a.1.parts ∙ length-append a.1.spec rest in
        let r = more (before + length one) rest values t.rest (omega arith) t.fits t.went in
        let last = r.1 in
        let size : length one + length t.rest ≡ length text = sym (length-append one t.rest) ∙ ap length t.parts in (
          subst (IsFormatted (c ∷ cs) (v ∷ values)) t.parts
              (subst (λ (xs : List ℕ). IsFormatted xs (v ∷ values) (one ++ t.rest)) (ap (percent ∷◌) (sym a.1.parts) ∙ ap (λ x. x ∷ cs) (sym a.0))
              (conversion a.1.spec a.1.is f r.0)),
          omega arith,
        )

step : (n before c : ℕ) (cs : List ℕ) (values : List Value) (text : List ℕ) → Reads n → length cs ≤ n → (p : Piece) (rest : List ℕ)
    → AtPiece c cs p rest → formatted_from before (p ∷ pieces_from n rest) values ≡ Ok text → IsText before (c ∷ cs) values text
step n before c cs values text more l (Ordinary b) rest a e = ordinary n before c cs values text b rest more l a e
step n before c cs [] text more l (Converts d) rest a e = absurd (cc)
step n before c cs (v ∷ values) text more l (Converts d) rest a e = converts n before c cs v values text d rest more l a e
step n before c cs values text more l Malformed rest a e = absurd (cc)

none_left : (before : ℕ) (values : List Value) (text : List ℕ) → before ≤ most_text → ◌≡◌ {A = Result (List ℕ) Fault} (Ok []) (Ok text)
    → IsText before [] values text
none_left before values text m e =
    let same : [] ≡ text = cc in
    subst (IsText before [] values) same (ends, omega arith)

reads : (n : ℕ) → Reads n
reads zero before [] values text l m e = none_left before values text m e
reads zero before (c ∷ cs) values text l m e = absurd (omega arith)
reads (suc n) before [] values text l m e = none_left before values text m e
reads (suc n) before (c ∷ cs) values text l m e =
    step n before c cs values text (reads n) (omega arith) (piece_at c cs).0 (piece_at c cs).1 (piece c cs (piece_at c cs).0 (piece_at c cs).1 refl) e

pub all_read : (format : List ℕ) (values : List Value) (text : List ℕ) → formatted format values ≡ Ok text
    → IsFormatted format values text × (length text ≤ most_text)
all_read format values text e =
    let r = reads (length format) 0 format values text (omega arith) (omega arith) e in
    let last = r.1 in
    (r.0, omega arith)
