-- What an error was about, as a line: a file's name, an expression or a value stands in quotes, as in a script, and is cut where it is long.
use Rattle.std.specs.Prelude.{ℕ, zero, suc, ◌-◌, ◌==◌, ◌&&◌, ◌||◌, Bool, false, List, [], ◌∷◌, ◌++◌, Option, Some, None, codes, decimal, length, nat_le, nat_lt, slice_get, take, if◌then◌else◌}
use Rattle.run_report.specs.Escapes.{shown_byte}
use Rattle.run_report.specs.declared.subject.Subject.{Subject}
use Rattle.run_report.specs.declared.subject.Subject.TheVariants.{Expression, File, StandardInput, StandardOutput, Value}

-- a byte between quotes: a quote and a `\` have a `\` before them, `\n` is the end of a line, and each other control character is an escape
abbrev pub quoted_byte : ℕ → ℕ → List ℕ
quoted_byte before byte =
    if byte == 34 || byte == 92 then 92 ∷ (byte ∷ []) else
    if byte == 10 then 92 ∷ (110 ∷ []) else shown_byte before byte

-- the text after a byte
unfoldable pub quoted_after : ℕ → List ℕ → List ℕ
quoted_after before [] = []
quoted_after before (byte ∷ rest) = quoted_byte before byte ++ quoted_after byte rest

-- a byte of UTF-8 that goes on with a character
abbrev pub continues : Option ℕ → Bool
continues None = false
continues (Some byte) = nat_le 128 byte && nat_lt byte 192

abbrev pub continues_at : List ℕ → ℕ → Bool
continues_at text at = continues (slice_get text at)

-- Of a long text 60 bytes are shown, or up to three less, so that no character of UTF-8 is cut.
abbrev pub cut_length : List ℕ → ℕ
cut_length text =
    if nat_le (length text) 60 then length text else
    if continues_at text 60 then (if continues_at text 59 then (if continues_at text 58 then 57 else 58) else 59) else 60

abbrev pub rest_text : ℕ → List ℕ
rest_text zero = []
rest_text (suc n) = codes " and " ++ (decimal (suc n) ++ codes " more bytes")

abbrev pub cut_text : List ℕ → List ℕ
cut_text text =
    codes "\"" ++ (quoted_after 0 (take (cut_length text) text) ++ (codes "\"" ++ rest_text (length text - cut_length text)))

abbrev pub subject_text : Subject → List ℕ
subject_text (File name) = codes "file " ++ cut_text name
subject_text StandardInput = codes "standard input"
subject_text StandardOutput = codes "standard output"
subject_text (Expression text) = codes "expression " ++ cut_text text
subject_text (Value text) = codes "value " ++ cut_text text

abbrev pub about_text : Option Subject → List ℕ
about_text None = []
about_text (Some subject) = codes "  " ++ (subject_text subject ++ codes "\n")
