-- A format that reads so has its text.
use Rattle.std.proofs.Common.{◌≡◌, ◌≢◌, inl, inr, ◌<◌, ◌≤◌, ℕ, zero, suc, ◌+◌, ◌^◌, Bool, true, false, cond, List, [], ◌∷◌, ◌++◌, length, drop, Option, Some, None, Result, Ok, Err, refl, sym, ap, subst, ◌∙◌, arith}
use Rattle.std.specs.Prelude.{◌==◌, ◌&&◌, nat_le, take_while, if◌then◌else◌, codes}
use Rattle.std.specs.Char.{digit_value}
use Rattle.std.specs.Str.Parse.{AllDigits}
use Rattle.std.proofs.Math.Seq.{drop-append_seam}
use Rattle.std.proofs.lemmas.Bool.Decides.{nat_tests}
use Rattle.std.proofs.lemmas.List.{length-append}
use Rattle.std.proofs.lemmas.List.Sums.{take_while-cons}
use Rattle.awk_text.specs.Bytes.{percent}
use Rattle.awk_text.specs.Reading.{AllPass, digits_at, is_digit}
use Rattle.awk_text.specs.Number.{value_after}
use Rattle.awk_values.specs.declared.fault.Fault.{Fault}
use Rattle.awk_values.specs.declared.fault.Fault.TheVariants as fault
use Rattle.awk_values.specs.declared.value.Value.{Value}
use Rattle.sem_primitives.specs.Limits.{most_text}
use Rattle.sem_primitives.specs.SharedState.{◌>>=◌}
use Rattle.sem_primitives.specs.Formats.{Conversion, Specifier, Signed, Octal, Unsigned, LowerHex, UpperHex, Fixed, String, Char, Piece, Ordinary, Converts, Malformed, conversion_at, formatted, formatted_from, is_flag, is_narrow, pieces_from, precise, precision_at, specified, specifier_of, then_text, wide}
use Rattle.sem_primitives.specs.Formats as formats
use Rattle.agreement.specs.Formats.Read.{AreFlags, IsConversion, IsFormatted, ends, byte, percent_sign, conversion, IsPrecision, no_precision, precision, IsWidth, OneOf, letters}
use Rattle.agreement.proofs.FormatsLemmas.Reading.{after_flags, conversion_of, joined, same_value, taken}

-- ---- the bytes at the front that pass

-- the first byte, if there is one, does not pass
abbrev Stops : (ℕ → Bool) → List ℕ → Type 0
Stops p [] = Unit {0}
Stops p (c ∷ cs) = p c ≡ false

front : (p : ℕ → Bool) (xs rest : List ℕ) → AllPass p xs → Stops p rest → take_while p (xs ++ rest) ≡ xs
front p [] [] h s = refl
front p [] (c ∷ cs) h s = take_while-cons p c cs ∙ ap (λ t. cond t (c ∷ take_while p cs) []) s
front p (x ∷ xs) rest h s =
    take_while-cons p x (xs ++ rest) ∙ (ap (λ t. cond t (x ∷ take_while p (xs ++ rest)) []) h.0 ∙ ap (x ∷◌) (front p xs rest h.1 s))

behind : (p : ℕ → Bool) (xs rest : List ℕ) → AllPass p xs → Stops p rest → drop (length (take_while p (xs ++ rest))) (xs ++ rest) ≡ rest
behind p xs rest h s = ap (λ ys. drop (length ys) (xs ++ rest)) (front p xs rest h s) ∙ drop-append_seam xs rest

-- ---- flags, digits, letters

flag_passes : (c : ℕ) → OneOf c (codes "-+ #0") → is_flag c ≡ true
flag_passes c (inl e) = ap is_flag e
flag_passes c (inr (inl e)) = ap is_flag e
flag_passes c (inr (inr (inl e))) = ap is_flag e
flag_passes c (inr (inr (inr (inl e)))) = ap is_flag e
flag_passes c (inr (inr (inr (inr (inl e))))) = ap is_flag e
flag_passes c (inr (inr (inr (inr (inr e))))) = absurd e

flags_pass : (fs : List ℕ) → AreFlags fs → AllPass is_flag fs
flags_pass [] h = tt
flags_pass (c ∷ cs) h = (flag_passes c h.0, flags_pass cs h.1)

digit_passes : (c : ℕ) → digit_value c < 10 → is_digit c ≡ true
digit_passes c h = grind (arith, nat_tests)

digits_pass : (ds : List ℕ) → AllDigits 10 ds → AllPass is_digit ds
digits_pass [] h = tt
digits_pass (c ∷ cs) h = (digit_passes c h.0, digits_pass cs h.1)

-- another digit than 0 is no flag
no_flag : (c : ℕ) → digit_value c < 10 → c ≢ 48 → is_flag c ≡ false
no_flag c h n = grind (arith, nat_tests)

-- a letter is no flag, no digit, no point and no percent sign, and says its specifier
record Says (c : ℕ) (s : Specifier) : Type 0 where
  flag : is_flag c ≡ false
  digit : is_digit c ≡ false
  point : (c == 46) ≡ false
  percent : (c == 37) ≡ false
  specifier : specifier_of c ≡ Some s

at_letter : (b c : ℕ) (s : Specifier) → c ≡ b → Says b s → Says c s
at_letter b c s e h = subst (λ (x : ℕ). Says x s) (sym e) h

says : (c : ℕ) (s : Specifier) → OneOf c (letters s) → Says c s
says c Signed (inl e) = at_letter 100 c Signed e record { flag = refl; digit = refl; point = refl; percent = refl; specifier = refl }
says c Signed (inr (inl e)) = at_letter 105 c Signed e record { flag = refl; digit = refl; point = refl; percent = refl; specifier = refl }
says c Signed (inr (inr e)) = absurd e
says c Octal (inl e) = at_letter 111 c Octal e record { flag = refl; digit = refl; point = refl; percent = refl; specifier = refl }
says c Octal (inr e) = absurd e
says c Unsigned (inl e) = at_letter 117 c Unsigned e record { flag = refl; digit = refl; point = refl; percent = refl; specifier = refl }
says c Unsigned (inr e) = absurd e
says c LowerHex (inl e) = at_letter 120 c LowerHex e record { flag = refl; digit = refl; point = refl; percent = refl; specifier = refl }
says c LowerHex (inr e) = absurd e
says c UpperHex (inl e) = at_letter 88 c UpperHex e record { flag = refl; digit = refl; point = refl; percent = refl; specifier = refl }
says c UpperHex (inr e) = absurd e
says c Fixed (inl e) = at_letter 102 c Fixed e record { flag = refl; digit = refl; point = refl; percent = refl; specifier = refl }
says c Fixed (inr e) = absurd e
says c String (inl e) = at_letter 115 c String e record { flag = refl; digit = refl; point = refl; percent = refl; specifier = refl }
says c String (inr e) = absurd e
says c Char (inl e) = at_letter 99 c Char e record { flag = refl; digit = refl; point = refl; percent = refl; specifier = refl }
says c Char (inr e) = absurd e

-- ---- width and precision

digits_read : (ds rest : List ℕ) → AllDigits 10 ds → Stops is_digit rest → digits_at (ds ++ rest) ≡ (ds, rest)
digits_read ds rest h s =
    let first : (digits_at (ds ++ rest)).0 ≡ ds = taken is_digit (ds ++ rest) ∙ front is_digit ds rest (digits_pass ds h) s in
    let last : (digits_at (ds ++ rest)).1 ≡ rest = behind is_digit ds rest (digits_pass ds h) s in
    ap (λ xs. (xs, (digits_at (ds ++ rest)).1)) first ∙ ap (λ ys. (ds, ys)) last

-- what is read from the precision on
record Read (ps : List ℕ) (o : Option ℕ) (c : ℕ) (rest : List ℕ) : Type 0 where
  reads : precision_at (ps ++ (c ∷ rest)) ≡ (o, c ∷ rest)
  narrow : is_narrow o ≡ true
  no_digit : Stops is_digit (ps ++ (c ∷ rest))
  no_flag : Stops is_flag (ps ++ (c ∷ rest))
  no_percent : Stops (λ x. x == 37) (ps ++ (c ∷ rest))

precision_read : {ps : List ℕ} {o : Option ℕ} (c : ℕ) (rest : List ℕ) (s : Specifier) → IsPrecision ps o → Says c s → Read ps o c rest
precision_read c rest s no_precision h = record {
  reads = ap (λ t. if t then (Some (value_after 0 (digits_at rest).0), (digits_at rest).1) else (None, c ∷ rest)) h.point;
  narrow = refl;
  no_digit = h.digit;
  no_flag = h.flag;
  no_percent = h.percent;
}
precision_read c rest s (precision {digits = ds} all small) h = record {
  reads =
      ap (λ (x : List ℕ × List ℕ). (Some (value_after 0 x.0), x.1)) (digits_read ds (c ∷ rest) all h.digit)
      ∙ ap (λ n. (Some n, c ∷ rest)) (same_value ds 0 all);
  narrow = grind (arith, nat_tests);
  no_digit = refl;
  no_flag = refl;
  no_percent = refl;
}

-- what a width begins with
width_stops : (ws rest : List ℕ) (w : ℕ) → IsWidth ws w → Stops is_flag rest → Stops is_flag (ws ++ rest)
width_stops [] rest w h s = s
width_stops (c ∷ cs) rest w h s = no_flag c h.digits.0 (λ e. h.no_flag cs (ap (λ x. x ∷ cs) e))

width_percent : (ws rest : List ℕ) (w : ℕ) → IsWidth ws w → Stops (λ x. x == 37) rest → Stops (λ x. x == 37) (ws ++ rest)
width_percent [] rest w h s = s
width_percent (c ∷ cs) rest w h s = let d : digit_value c < 10 = h.digits.0 in grind (arith, nat_tests)

flags_percent : (fs rest : List ℕ) → AreFlags fs → Stops (λ x. x == 37) rest → Stops (λ x. x == 37) (fs ++ rest)
flags_percent [] rest h s = s
flags_percent (c ∷ cs) rest h s = let p : is_flag c ≡ true = flag_passes c h.0 in grind (arith, nat_tests)

-- ---- a conversion

not_percent : (t : List ℕ) → 0 < length t → Stops (λ x. x == 37) t → conversion_at t ≡ wide (take_while is_flag t) (digits_at (after_flags t))
not_percent [] l s = absurd (omega arith)
not_percent (x ∷ xs) l s = ap (λ t. if t then (Ordinary percent, xs) else wide (take_while is_flag (x ∷ xs)) (digits_at (after_flags (x ∷ xs)))) s

specified_is : (fs : List ℕ) (w : ℕ) (o : Option ℕ) (c : ℕ) (rest : List ℕ) (s : Specifier) → Says c s → w < 2 ^ 16 → is_narrow o ≡ true
    → specified fs w o (c ∷ rest) ≡ (Converts (conversion_of fs w o s), rest)
specified_is fs w o c rest s h small narrow =
    let wide_enough : is_narrow (Some w) ≡ true = grind (arith, nat_tests) in
    ap (λ x. (formats.conversion fs w o x, rest)) h.specifier
    ∙ (ap (λ t. (if t && is_narrow o then Converts (conversion_of fs w o s) else Malformed, rest)) wide_enough
    ∙ ap (λ t. (if t then Converts (conversion_of fs w o s) else Malformed, rest)) narrow)

some : (fs ws ps : List ℕ) (c : ℕ) (rest : List ℕ) → 0 < length (fs ++ (ws ++ (ps ++ (c ∷ rest))))
some [] [] [] c rest = omega arith
some [] [] (x ∷ xs) c rest = omega arith
some [] (x ∷ xs) ps c rest = omega arith
some (x ∷ xs) ws ps c rest = omega arith

conversion_reads : (spec : List ℕ) (d : Conversion) (rest : List ℕ) → IsConversion spec d → conversion_at (spec ++ rest) ≡ (Converts d, rest)
conversion_reads spec d rest h =
    ap conversion_at (ap (λ xs. xs ++ rest) h.parts ∙ sym (joined d.flags h.width_text h.precision_text h.letter rest))
    ∙ made (says h.letter d.specifier h.specifier) (precision_read h.letter rest d.specifier h.precision (says h.letter d.specifier h.specifier))
  where
    made : Says h.letter d.specifier → Read h.precision_text d.precision h.letter rest
        → conversion_at (d.flags ++ (h.width_text ++ (h.precision_text ++ (h.letter ∷ rest)))) ≡ (Converts d, rest)
    made s p =
        let stop : Stops is_flag (h.width_text ++ (h.precision_text ++ (h.letter ∷ rest)))
        = width_stops h.width_text (h.precision_text ++ (h.letter ∷ rest)) d.width h.width p.no_flag in
        let value : value_after 0 h.width_text ≡ d.width = same_value h.width_text 0 h.width.digits ∙ sym h.width.value in
        not_percent (d.flags ++ (h.width_text ++ (h.precision_text ++ (h.letter ∷ rest)))) (some d.flags h.width_text h.precision_text h.letter rest)
        (flags_percent d.flags (h.width_text ++ (h.precision_text ++ (h.letter ∷ rest))) h.flags
        (width_percent h.width_text (h.precision_text ++ (h.letter ∷ rest)) d.width h.width p.no_percent))
        ∙ (ap (λ fs. wide fs (digits_at (after_flags (d.flags ++ (h.width_text ++ (h.precision_text ++ (h.letter ∷ rest)))))))
        (front is_flag d.flags (h.width_text ++ (h.precision_text ++ (h.letter ∷ rest))) (flags_pass d.flags h.flags) stop)
        ∙ (ap (λ xs. wide d.flags (digits_at xs))
        (behind is_flag d.flags (h.width_text ++ (h.precision_text ++ (h.letter ∷ rest))) (flags_pass d.flags h.flags) stop)
        ∙ (ap (wide d.flags) (digits_read h.width_text (h.precision_text ++ (h.letter ∷ rest)) h.width.digits p.no_digit)
        ∙ (ap (precise d.flags (value_after 0 h.width_text)) p.reads
        ∙ (ap (λ w. specified d.flags w d.precision (h.letter ∷ rest)) value
        ∙ specified_is d.flags d.width d.precision h.letter rest d.specifier s h.width.most p.narrow)))))

-- ---- the text

then_gives : (before : ℕ) (one : List ℕ) (go : ℕ → Result (List ℕ) Fault) (rest : List ℕ) → before + length one ≤ most_text
    → go (before + length one) ≡ Ok rest → then_text before one go ≡ Ok (one ++ rest)
then_gives before one go rest l e =
    let t : nat_le (before + length one) most_text ≡ true = grind (arith, nat_tests) in
    ap (λ b. (if b then Ok (before + length one) else Err fault.TextLimit) >>= λ n. go n >>= λ ys. Ok (one ++ ys)) t
    ∙ ap (λ r. r >>= λ ys. Ok (one ++ ys)) e

gives : {format : List ℕ} {values : List Value} {text : List ℕ} → IsFormatted format values text → (n before : ℕ) → length format ≤ n
    → before + length text ≤ most_text → formatted_from before (pieces_from n format) values ≡ Ok text
gives ends zero before l m = refl
gives ends (suc n) before l m = refl
gives (byte not h) zero before l m = absurd (omega arith)
gives (byte {c = c} {format = format} {text = text} {values = values} not h) (suc n) before l m =
    let plain : (c == percent) ≡ false = grind (arith, nat_tests) in
    ap (λ (x : Piece × List ℕ). formatted_from before (x.0 ∷ pieces_from n x.1) values)
    (ap (λ t. if t then conversion_at format else (Ordinary c, format)) plain)
    ∙ then_gives before (c ∷ []) (λ k. formatted_from k (pieces_from n format) values) text (omega arith) (gives h n (before + 1) (omega arith) (omega arith))
gives (percent_sign h) zero before l m = absurd (omega arith)
gives (percent_sign {format = format} {text = text} {values = values} h) (suc n) before l m =
    then_gives before (percent ∷ []) (λ k. formatted_from k (pieces_from n format) values) text (omega arith)
    (gives h n (before + 1) (omega arith) (omega arith))
gives (conversion spec is e h) zero before l m = absurd (omega arith)
gives (conversion {format = format} {text = text} {one = one} {v = v} {values = values} {d = d} spec is e h) (suc n) before l m =
    let size = length-append spec format in
    let all = length-append one text in
    ap (λ (x : Piece × List ℕ). formatted_from before (x.0 ∷ pieces_from n x.1) (v ∷ values)) (conversion_reads spec d format is)
    ∙ (ap (λ r. r >>= λ ys. then_text before ys (λ k. formatted_from k (pieces_from n format) values)) e
    ∙ then_gives before one (λ k. formatted_from k (pieces_from n format) values) text (omega arith)
    (gives h n (before + length one) (omega arith) (omega arith)))

pub has_text : (format : List ℕ) (values : List Value) (text : List ℕ)
    → IsFormatted format values text → length text ≤ most_text → formatted format values ≡ Ok text
has_text format values text h l = gives h (length format) 0 (omega arith) (omega arith)
