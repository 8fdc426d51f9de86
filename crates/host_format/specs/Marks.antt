-- Bytes that stand between fields, and the pieces between them.
use Rattle.std.specs.Prelude.{ℕ, ◌==◌, ◌||◌, not, Bool, true, false, List, filter}
use Rattle.sem_primitives.specs.Fields.{is_blank, parted}
use Rattle.sem_primitives.specs.Texts.{is_empty}
use Rattle.host_format.specs.declared.marks.Marks.{Marks}
use Rattle.host_format.specs.declared.marks.Marks.TheVariants.{Byte, ByteOrNewline, Blanks}

abbrev pub is_mark : Marks → ℕ → Bool
is_mark (Byte b) c = c == b
is_mark (ByteOrNewline b) c = (c == b) || (c == 10)
is_mark Blanks c = is_blank c

abbrev pub skips_empty : Marks → Bool
skips_empty (Byte b) = false
skips_empty (ByteOrNewline b) = false
skips_empty Blanks = true

abbrev pub kept : Bool → List (List ℕ) → List (List ℕ)
kept true pieces = filter (λ piece. not (is_empty piece)) pieces
kept false pieces = pieces

abbrev pub pieces_by : Marks → List ℕ → List (List ℕ)
pieces_by marks text = kept (skips_empty marks) (parted (is_mark marks) text)
