-- The fields of a text (POSIX.1-2017 awk, "Regular Expressions", the use of FS; "Variables and Special Variables", RS).
use Rattle.std.specs.Prelude.{ℕ, zero, suc, ◌+◌, ◌-◌, ◌==◌, ◌||◌, ◌&&◌, not, nat_lt, Bool, true, false, if◌then◌else◌, List, [], ◌∷◌, map, length, drop, get_or, slice_range, filter, Option, Some, None, Result, Ok}
use Rattle.awk_text.specs.Bytes.{tab, newline, space}
use Rattle.awk_values.specs.declared.fault.Fault.{Fault}
use Rattle.ere_syntax.specs.Tree.{Tree}
use Rattle.sem_primitives.specs.SharedState.{◌>>=◌}
use Rattle.sem_primitives.specs.Texts.{is_empty}
use Rattle.sem_primitives.specs.FirstMatch.{longest, first_by}
use Rattle.sem_primitives.specs.Eres.{expression_of}

-- what stands between fields: runs of space, tab and newline; nothing, so that each byte is a field; a byte; the matches of an expression
pub data Separator : Type 0 where
  Blanks Nothing : Separator
  Byte : ℕ → Separator
  Expression : Tree → Separator

-- the separator that a text means; a bad expression is one even if there is nothing to part
abbrev pub separator_of : List ℕ → Result Separator Fault
separator_of [] = Ok Nothing
separator_of (c ∷ []) = Ok (if c == space then Blanks else Byte c)
separator_of (c ∷ d ∷ rest) = expression_of (c ∷ d ∷ rest) >>= λ t. Ok (Expression t)

abbrev pub is_blank : ℕ → Bool
is_blank c = (c == space) || ((c == tab) || (c == newline))

abbrev pub behind : Bool → ℕ → List (List ℕ) → List (List ℕ)
behind true c pieces = [] ∷ pieces
behind false c [] = (c ∷ []) ∷ []
behind false c (piece ∷ pieces) = (c ∷ piece) ∷ pieces

-- the pieces between the bytes that pass
abbrev pub parted : (ℕ → Bool) → List ℕ → List (List ℕ)
parted test [] = [] ∷ []
parted test (c ∷ cs) = behind (test c) c (parted test cs)

-- where a separator that begins here ends: a match that is not empty, or a newline where these separate too; a match is never the shorter
abbrev pub newline_end : Bool → List ℕ → ℕ → Option ℕ
newline_end newlines text at = if newlines && (get_or text at 0 == newline) then Some (at + 1) else None

abbrev pub end_or_newline : Bool → List ℕ → ℕ → Option ℕ → Option ℕ
end_or_newline newlines text at None = newline_end newlines text at
end_or_newline newlines text at (Some end) = if nat_lt at end then Some end else newline_end newlines text at

-- the n first separators from a place on
abbrev pub separators : (ℕ → Option ℕ) → ℕ → ℕ → ℕ → List (ℕ × ℕ)
separators end size zero at = []
separators end size (suc n) at = elim (first_by end (size - at) at) [ None ↦ [] | Some p ↦ p ∷ separators end size n p.1 ]

-- the pieces between places, from one on
abbrev pub between : List ℕ → ℕ → List (ℕ × ℕ) → List (List ℕ)
between text from [] = drop from text ∷ []
between text from (p ∷ ps) = slice_range text from p.0 ∷ between text p.1 ps

-- the pieces of a text that is not empty, where newlines may separate as well
abbrev pub pieces : Separator → Bool → List ℕ → List (List ℕ)
pieces Blanks newlines text = filter (λ piece. not (is_empty piece)) (parted is_blank text)
pieces Nothing newlines text = map (λ c. c ∷ []) text
pieces (Byte b) newlines text = parted (λ c. (c == b) || (newlines && (c == newline))) text
pieces (Expression t) newlines text = between text 0 (separators (λ at. end_or_newline newlines text at (longest t text at)) (length text) (length text) 0)

-- an empty text has none
abbrev pub pieces_of : Separator → Bool → List ℕ → List (List ℕ)
pieces_of separator newlines [] = []
pieces_of separator newlines (c ∷ cs) = pieces separator newlines (c ∷ cs)

-- newlines separate the fields of a record that empty lines end, unless each byte is a field
abbrev pub fields_of : (fs rs text : List ℕ) → Result (List (List ℕ)) Fault
fields_of fs rs text = separator_of fs >>= λ separator. Ok (pieces_of separator (is_empty rs && not (is_empty fs)) text)
