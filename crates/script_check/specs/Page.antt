-- Findings as text.
use Rattle.std.specs.Prelude.{ℕ, ◌+◌, ◌-◌, ◌/◌, ◌%◌, ◌==◌, nat_lt, nat_le, Bool, not, ◌&&◌, ◌||◌, if◌then◌else◌, List, [], ◌∷◌, ◌++◌, take, drop, length, count_by, Option, Some, None, codes, decimal}
use Rattle.awk_text.specs.Bytes.{newline, tab, backslash, lower_x, digit_zero, lower_a}
use Rattle.script_check.specs.declared.finding.Severity.{Severity}
use Rattle.script_check.specs.declared.finding.Severity.TheVariants.{Error, Warning, Note}
use Rattle.script_check.specs.Remarks.{Found, Remark}

-- ---- bytes of a script

-- a byte that controls a terminal; a tab does not
abbrev pub is_control : ℕ → Bool
is_control b = not (b == tab) && (nat_lt b 32 || b == 127)

abbrev pub hex_digit : ℕ → ℕ
hex_digit n = if nat_lt n 10 then digit_zero + n else lower_a + (n - 10)

-- a byte as it is shown
abbrev pub shown_byte : ℕ → List ℕ
shown_byte b = if is_control b then backslash ∷ lower_x ∷ hex_digit (b / 16) ∷ hex_digit (b % 16) ∷ [] else b ∷ []

abbrev pub shown : List ℕ → List ℕ
shown [] = []
shown (b ∷ bs) = shown_byte b ++ shown bs

-- a byte of a character in UTF-8 that is not its first
abbrev pub is_inner : ℕ → Bool
is_inner b = nat_le 128 b && nat_lt b 192

-- what is as wide as a byte that is shown
abbrev pub blank_of : ℕ → List ℕ
blank_of b = if b == tab then codes "\t" else if is_control b then codes "    " else if is_inner b then [] else codes " "

abbrev pub blanks : List ℕ → List ℕ
blanks [] = []
blanks (b ∷ bs) = blank_of b ++ blanks bs

-- ---- lines

abbrev pub is_newline : ℕ → Bool
is_newline b = b == newline

-- the number of the line that ends these bytes; lines count from 1
abbrev pub line_number : List ℕ → ℕ
line_number before = count_by is_newline before + 1

-- what stands on the last line, after this much of it
abbrev pub last_line_from : (line : List ℕ) → List ℕ → List ℕ
last_line_from line [] = line
last_line_from line (b ∷ bs) = last_line_from (if is_newline b then [] else line ++ b ∷ []) bs

abbrev pub last_line : List ℕ → List ℕ
last_line before = last_line_from [] before

-- what stands before the first newline
abbrev pub first_line : List ℕ → List ℕ
first_line [] = []
first_line (b ∷ bs) = if is_newline b then [] else b ∷ first_line bs

-- ---- a finding

-- `prog.awk:61:9: `: the file, the line and the column, which counts bytes from 1
abbrev pub place_text : (file before : List ℕ) → List ℕ
place_text file before = shown file ++ (codes ":" ++ (decimal (line_number before) ++ (codes ":" ++ (decimal (length (last_line before) + 1) ++ codes ": "))))

abbrev pub severity_text : Severity → List ℕ
severity_text Error = codes "error: "
severity_text Warning = codes "warning: "
severity_text Note = codes "note: "

-- `totl `, or nothing
abbrev pub name_alone : List ℕ → List ℕ
name_alone name = if length name == 0 then [] else shown name ++ codes " "

-- ` coma: `, or `: `
abbrev pub name_after : List ℕ → List ℕ
name_after name = if length name == 0 then codes ": " else codes " " ++ (shown name ++ codes ": ")

-- what stands before the explanation
abbrev pub head : (word name : List ℕ) → List ℕ
head word name = if length word == 0 then name_alone name else word ++ name_after name

abbrev pub line_text : Option ℕ → List ℕ
line_text None = []
line_text (Some n) = codes " " ++ decimal n

abbrev pub said_text : Remark → List ℕ
said_text r = severity_text r.severity ++ (head r.word r.name ++ (r.text ++ line_text r.line))

-- a line, by what stands on it before and after a place, and a caret under the place; nothing of a line of more than 1,000 bytes
abbrev pub excerpt : (before after : List ℕ) → List ℕ
excerpt before after =
    if nat_le (length before + length after) 1000 then shown before ++ (shown after ++ (codes "\n" ++ (blanks before ++ codes "^\n"))) else []

abbrev pub finding_text : (file script : List ℕ) → Found → List ℕ
finding_text file script f =
    place_text file (take f.start script) ++ (said_text f.said ++ (codes "\n" ++ excerpt (last_line (take f.start script)) (first_line (drop f.start script))))

-- the findings, one after the other
abbrev pub page_text : (file script : List ℕ) → List Found → List ℕ
page_text file script [] = []
page_text file script (f ∷ fs) = finding_text file script f ++ page_text file script fs
