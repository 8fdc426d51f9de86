-- The fields of a text as parts of it, and the separator that is kept.
use Rattle.std.specs.Prelude.{◌≡◌, ℕ, Bool, List, Option, Some, None, Ok}
use Rattle.sem_primitives.specs.Fields.{Separator, pieces_of, separator_of}
use Rattle.host_format.specs.Separators.{Separates}
use Rattle.host_format.specs.Spans.{AreSpans}
use Rattle.host_format.specs.declared.span.Span.{Span}
use Rattle.host_fields.specs.declared.splitter.LastSep.{LastSep}

-- these parts of the text are its fields
abbrev pub AreFields : (fs : List ℕ) → Bool → (text : List ℕ) → List Span → Type 0
AreFields fs newlines text spans = (s : Separator) × (separator_of fs ≡ Ok s) × AreSpans text spans (pieces_of s newlines text)

-- what is kept is the separator of the text beside it
abbrev pub IsKept : Option LastSep → Type 0
IsKept None = Unit {0}
IsKept (Some last) = Separates last.fs.items last.sep
