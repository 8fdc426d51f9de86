-- Parts of a text.
use Rattle.std.specs.Prelude.{◌≡◌, ℕ, ◌≤◌, List, ◌++◌, map, length, slice_range}
use Rattle.std.specs.List.{All}
use Rattle.host_format.specs.declared.span.Span.{Span}

abbrev pub span_text : List ℕ → Span → List ℕ
span_text text s = slice_range text s.start s.end

abbrev pub IsInside : List ℕ → Span → Type 0
IsInside text s = (s.start ≤ s.end) × (s.end ≤ length text)

-- these parts of the text are these pieces
pub record AreSpans (text : List ℕ) (spans : List Span) (pieces : List (List ℕ)) : Type 0 where
  pub texts : map (span_text text) spans ≡ pieces
  pub inside : All (IsInside text) spans

-- the parts so far, and the pieces that are left, are the pieces
pub record IsSoFar (text : List ℕ) (spans : List Span) (rest pieces : List (List ℕ)) : Type 0 where
  pub texts : map (span_text text) spans ++ rest ≡ pieces
  pub inside : All (IsInside text) spans
