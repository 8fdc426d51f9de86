-- The pieces between matches and newlines, on the way.
use Rattle.std.specs.Prelude.{ℕ, ◌+◌, ◌≤◌, Bool, List, length, Option}
use Rattle.ere_syntax.specs.Tree.{Tree}
use Rattle.sem_primitives.specs.FirstMatch.{longest}
use Rattle.sem_primitives.specs.Fields.{between, end_or_newline, separators}
use Rattle.host_format.specs.Spans.{IsSoFar}
use Rattle.host_format.specs.declared.span.Span.{Span}

-- where a separator that begins at a place ends
abbrev pub separator_end : Tree → Bool → List ℕ → ℕ → Option ℕ
separator_end t newlines text at = end_or_newline newlines text at (longest t text at)

-- so many separators are enough for what is left from a place on
pub record IsOpen (end : ℕ → Option ℕ) (text : List ℕ) (spans : List Span) (from : ℕ) (total : List (List ℕ)) : Type 0 where
  pub count : ℕ
  pub enough : length text ≤ count + from
  pub pieces : IsSoFar text spans (between text from (separators end (length text) count from)) total
