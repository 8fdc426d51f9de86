-- Findings as text, computed from the definitions.
use Rattle.std.specs.Prelude.{◌≡◌, [], ◌∷◌, ◌++◌, Some, codes, refl}
use Rattle.std.specs.Fmt.{digits}
use Rattle.script_check.specs.declared.finding.Severity.TheVariants.{Error}
use Rattle.script_check.specs.Page.{finding_text, page_text}
use Rattle.script_check.specs.Remarks.{bounded, error, note, warning}

-- the caret is under the first byte, behind the same tab
pub unknown_function : finding_text (codes "p.awk") (codes "BEGIN {\n\tcoma(1)\n}\n") (bounded 19 9 4 (error (codes "UnknownFunction") (codes "coma") (codes "the script has no function of this name"))) ≡ codes "p.awk:2:2: error: UnknownFunction coma: the script has no function of this name\n\tcoma(1)\n\t^\n"
unfolding digits
unknown_function = refl

pub no_word : finding_text (codes "p.awk") (codes "totl") (bounded 4 0 4 (warning (codes "totl") (codes "is never assigned"))) ≡ codes "p.awk:1:1: warning: totl is never assigned\ntotl\n^\n"
unfolding digits
no_word = refl

pub neither : finding_text (codes "p.awk") (codes "a\nbc") (bounded 4 3 1 (note (codes "an array here"))) ≡ codes "p.awk:2:2: note: an array here\nbc\n ^\n"
unfolding digits
neither = refl

pub with_line : finding_text (codes "p") (codes "{\n{}") (bounded 4 3 1 (record { severity = Error; word = codes "Syntax"; name = []; text = codes "} is missing, opened in line"; line = Some 1 })) ≡ codes "p:2:2: error: Syntax: } is missing, opened in line 1\n{}\n ^\n"
unfolding digits
with_line = refl

-- an escape sequence is shown as four characters, and blanks are as wide; a character of two bytes is one character wide, and two columns
pub control_bytes : finding_text (codes "p") (27 ∷ 195 ∷ 164 ∷ 120 ∷ []) (bounded 4 3 1 (error (codes "BadByte") [] (codes "on this line"))) ≡ codes "p:1:4: error: BadByte: on this line\n\\x1b" ++ (195 ∷ 164 ∷ (codes "x\n     ^\n"))
unfolding digits
control_bytes = refl

pub two_in_order : page_text (codes "p") (codes "a") (bounded 1 0 1 (note (codes "one")) ∷ bounded 1 1 1 (note (codes "two")) ∷ []) ≡ codes "p:1:1: note: one\na\n^\np:1:2: note: two\na\n ^\n"
unfolding digits
two_in_order = refl

pub nothing_found : page_text (codes "p") (codes "a") [] ≡ []
nothing_found = refl
