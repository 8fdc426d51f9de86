-- What the pieces are for each separator.
use Rattle.std.proofs.Common.{◌≡◌, ℕ, Bool, true, false, List, [], ◌∷◌, length, map, refl, sym, ap, subst, ◌∙◌, if◌then◌else◌}
use Rattle.std.specs.Prelude.{◌==◌, ◌||◌, ◌&&◌, not, filter}
use Rattle.std.proofs.lemmas.Bool.{false≢true}
use Rattle.ere_match.specs.declared.automaton.Auto.{Auto}
use Rattle.ere_syntax.specs.Tree.{Tree}
use Rattle.ere_match.specs.Autos.{IsAutoOf}
use Rattle.sem_primitives.specs.Fields.{Separator, Blanks, Nothing, Byte, Expression, is_blank, parted, pieces, pieces_of}
use Rattle.sem_primitives.specs.Texts.{is_empty}
use Rattle.host_format.specs.Marks.{is_mark, pieces_by}
use Rattle.host_format.specs.Separators.{IsSep}
use Rattle.host_format.specs.Spans.{AreSpans}
use Rattle.host_format.specs.declared.marks.Marks.TheVariants as marks
use Rattle.host_format.specs.declared.sep.Sep.TheVariants as seps
use Rattle.host_format.specs.declared.span.Span.{Span}
use Rattle.host_format.proofs.Pieces.{parted_same, or_false}

some_pieces : (s : Separator) (newlines : Bool) (text : List ℕ) → (b : Bool) → b ≡ (length text == 0) → b ≡ false → pieces s newlines text ≡ pieces_of s newlines text
some_pieces s newlines [] b e f = absurd (false≢true (sym f ∙ e))
some_pieces s newlines (c ∷ cs) b e f = refl

by_blanks : (text : List ℕ) → pieces_by marks.Blanks text ≡ filter (λ piece. not (is_empty piece)) (parted is_blank text)
by_blanks text = ap (λ ps. filter (λ piece. not (is_empty piece)) ps) (parted_same (λ c. is_mark marks.Blanks c) is_blank (λ c. refl) text)

pub blanks_pieces : (s : Separator) (newlines : Bool) (text : List ℕ) → IsSep seps.Blanks s → pieces_by marks.Blanks text ≡ pieces s newlines text
blanks_pieces Blanks newlines text x = by_blanks text
blanks_pieces Nothing newlines text x = absurd x
blanks_pieces (Byte b) newlines text x = absurd x
blanks_pieces (Expression t) newlines text x = absurd x

pub each_pieces : (s : Separator) (newlines : Bool) (text : List ℕ) → IsSep seps.EachByte s → map (λ c. c ∷ []) text ≡ pieces s newlines text
each_pieces Blanks newlines text x = absurd x
each_pieces Nothing newlines text x = refl
each_pieces (Byte b) newlines text x = absurd x
each_pieces (Expression t) newlines text x = absurd x

by_byte : (newlines : Bool) (b : ℕ) (text : List ℕ) → pieces_by (if newlines then marks.ByteOrNewline b else marks.Byte b) text ≡ parted (λ c. (c == b) || (newlines && (c == 10))) text
by_byte true b text = parted_same (λ c. is_mark (marks.ByteOrNewline b) c) (λ c. (c == b) || (true && (c == 10))) (λ c. refl) text
by_byte false b text = parted_same (λ c. is_mark (marks.Byte b) c) (λ c. (c == b) || (false && (c == 10))) (λ c. sym (or_false (c == b))) text

pub byte_pieces : (b : ℕ) (s : Separator) (newlines : Bool) (text : List ℕ) → IsSep (seps.Byte b) s → pieces_by (if newlines then marks.ByteOrNewline b else marks.Byte b) text ≡ pieces s newlines text
byte_pieces b Blanks newlines text x = absurd x
byte_pieces b Nothing newlines text x = absurd x
byte_pieces b (Byte d) newlines text x = by_byte newlines b text ∙ ap (λ n. pieces (Byte n) newlines text) x
byte_pieces b (Expression t) newlines text x = absurd x

-- the same for parts, of a text that is not empty
pub parts_of : (s : Separator) (newlines : Bool) (text : List ℕ) (spans : List Span) (ps : List (List ℕ)) (b : Bool) → b ≡ (length text == 0) → b ≡ false → ps ≡ pieces s newlines text → AreSpans text spans ps → AreSpans text spans (pieces_of s newlines text)
parts_of s newlines text spans ps b e f same a = subst (λ x. AreSpans text spans x) (same ∙ some_pieces s newlines text b e f) a

pub ere_parts : (auto : Auto) (s : Separator) (newlines : Bool) (text : List ℕ) (spans : List Span) (b : Bool) → b ≡ (length text == 0) → b ≡ false → IsSep (seps.Ere auto) s → ((t : Tree) → IsAutoOf auto t → AreSpans text spans (pieces (Expression t) newlines text)) → AreSpans text spans (pieces_of s newlines text)
ere_parts auto Blanks newlines text spans b e f x parts = absurd x
ere_parts auto Nothing newlines text spans b e f x parts = absurd x
ere_parts auto (Byte c) newlines text spans b e f x parts = absurd x
ere_parts auto (Expression t) newlines text spans b e f x parts = parts_of (Expression t) newlines text spans (pieces (Expression t) newlines text) b e f refl (parts t x)
