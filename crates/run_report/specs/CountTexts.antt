-- The listing of a script with counts, and what is told of a run's counts.
use Rattle.std.specs.Prelude.{ℕ, zero, suc, Bool, true, false, List, [], ◌∷◌, ◌++◌, Option, Some, None, codes, decimal, drop, length, nat_eq, slice_get, unwrap_or, if◌then◌else◌}
use Rattle.run_report.specs.WhereTexts.{plain, plain_byte}
use Rattle.run_report.specs.declared.counts.PlaceCount.{PlaceCount}
use Rattle.run_report.specs.declared.counts.RunCounts.{RunCounts}

-- the first place that begins on a line
abbrev pub at_line : List (Option PlaceCount) → ℕ → Option PlaceCount
at_line lines number = unwrap_or (slice_get lines number) None

-- a word at the right of these blanks
abbrev pub aligned : List ℕ → List ℕ → List ℕ
aligned blanks word = drop (length word) blanks ++ word

-- how often it was executed
abbrev pub times_word : ℕ → List ℕ
times_word zero = codes "#####"
times_word (suc n) = decimal (suc n)

abbrev pub count_word : Option PlaceCount → List ℕ
count_word None = codes "-"
count_word (Some place) = times_word place.count

-- what stands before the text of a line
abbrev pub head : RunCounts → ℕ → List ℕ
head counts number =
    aligned (codes "         ") (count_word (at_line counts.lines.items number)) ++ (codes ":" ++ (aligned (codes "     ") (decimal number) ++ codes ":"))

-- a byte of a script: `?` for one that would steer a terminal
abbrev pub listed_byte : ℕ → ℕ
listed_byte b = if nat_eq b 9 then b else plain_byte b

abbrev pub head_if : Bool → RunCounts → ℕ → List ℕ
head_if true counts number = head counts number
head_if false counts number = []

-- the end of the last line, if it has begun
abbrev pub last_newline : Bool → List ℕ
last_newline true = []
last_newline false = codes "\n"

-- The rest of a listing, from a byte of the script on: whether a line begins there, and the line's number. Each line comes after its head.
unfoldable pub listing : RunCounts → Bool → ℕ → List ℕ → List ℕ
listing counts begins number [] = last_newline begins
listing counts begins number (b ∷ bs) =
    head_if begins counts number ++ (if nat_eq b 10 then 10 ∷ listing counts true (suc number) bs else listed_byte b ∷ listing counts false number bs)

-- THE LISTING: each line of a script, with its number and how often the first statement was executed that begins on it
abbrev pub count_text : List ℕ → RunCounts → List ℕ
count_text script counts = listing counts true 1 script

-- what a run took
abbrev pub stats_text : RunCounts → List ℕ
stats_text counts =
    codes "  steps " ++ (decimal counts.steps ++ (codes "\n  records " ++ (plain counts.records ++ (codes "\n  values " ++ (decimal counts.values ++ codes "\n")))))
