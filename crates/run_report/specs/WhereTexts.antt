-- What is told of where a script was: lines that begin with two spaces.
use Rattle.std.specs.Prelude.{ℕ, zero, suc, Bool, true, false, List, [], ◌∷◌, ◌++◌, Option, Some, None, codes, decimal, map, nat_eq, nat_lt, ◌||◌, if◌then◌else◌}
use Rattle.run_report.specs.declared.end.RunEnd.{RunEnd}
use Rattle.run_report.specs.declared.end.RunEnd.TheVariants.{Ended, Refused}
use Rattle.run_report.specs.SubjectTexts.{about_text}
use Rattle.run_report.specs.declared.whereabouts.CallSite.{CallSite}
use Rattle.run_report.specs.declared.whereabouts.Whereabouts.{Whereabouts}

-- a byte of a text that a script or its input made: `?` for one that would end the line or steer a terminal
abbrev pub plain_byte : ℕ → ℕ
plain_byte b = if nat_lt b 32 || nat_eq b 127 then 63 else b

abbrev pub plain : List ℕ → List ℕ
plain bytes = map plain_byte bytes

abbrev pub line_text : Option ℕ → List ℕ
line_text (Some n) = codes "line " ++ decimal n
line_text None = codes "no statement"

abbrev pub name_text : List ℕ → List ℕ
name_text name = codes " in function " ++ name

abbrev pub function_text : Option (List ℕ) → List ℕ
function_text (Some name) = name_text name
function_text None = []

abbrev pub site_text : CallSite → List ℕ
site_text s = line_text s.line ++ function_text s.function

-- what the script had read
abbrev pub read_text : Whereabouts → List ℕ
read_text w = codes ", NR=" ++ (plain w.nr ++ (codes " FNR=" ++ (plain w.fnr ++ (codes " FILENAME=" ++ (plain w.filename ++ codes "\n")))))

abbrev pub call_text : CallSite → List ℕ
call_text s = codes "  called at " ++ (site_text s ++ codes "\n")

abbrev pub calls_text : List CallSite → List ℕ
calls_text [] = []
calls_text (s ∷ ss) = call_text s ++ calls_text ss

abbrev pub more_text : ℕ → List ℕ
more_text zero = []
more_text (suc n) = codes "  and " ++ (decimal (suc n) ++ codes " more calls\n")

-- the first site is what was at work; the others are calls that waited; then what the error was about
abbrev pub sites_text : Whereabouts → List CallSite → List ℕ
sites_text w [] = []
sites_text w (s ∷ ss) = codes "  at " ++ (site_text s ++ (read_text w ++ (calls_text ss ++ (more_text w.more ++ about_text w.about))))

abbrev pub told_text : Whereabouts → List ℕ
told_text w = sites_text w w.sites.items

-- of a script that ended by itself, or did not begin, nothing is told
abbrev pub is_told : RunEnd → Bool
is_told (Ended status) = false
is_told (Refused refusal) = false
is_told _ = true

abbrev pub where_text : RunEnd → Whereabouts → List ℕ
where_text end w = if is_told end then told_text w else []
