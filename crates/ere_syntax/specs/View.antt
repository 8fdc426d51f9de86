-- The tree that a value of the code stands for.
use Rattle.std.specs.Prelude.{true, ◌==◌, List, [], ◌∷◌}
use Rattle.ere_syntax.specs.declared.tree.Ere.{Ere, Row_of-Ere, end_of-Ere, more_of-Ere}
use Rattle.ere_syntax.specs.declared.tree.Ere.TheVariants as eres
use Rattle.ere_syntax.specs.Tree.{Tree, Empty, Set, Start, End, Group, Repeat, Concat, Or}
use Rattle.ere_syntax.specs.Scan.{table}

-- pieces one after another; none are the empty text
abbrev pub concat_from : Tree → List Tree → Tree
concat_from t [] = t
concat_from t (u ∷ us) = concat_from (Concat t u) us

abbrev pub concat_all : List Tree → Tree
concat_all [] = Empty
concat_all (t ∷ ts) = concat_from t ts

-- alternatives
abbrev pub or_from : Tree → List Tree → Tree
or_from t [] = t
or_from t (u ∷ us) = or_from (Or t u) us

abbrev pub or_all : List Tree → Tree
or_all [] = Empty
or_all (t ∷ ts) = or_from t ts

abbrev mutual
  pub view : Ere → Tree
  view eres.Empty = Empty
  view (eres.Byte b) = Set (table (λ c. c == b))
  view eres.Any = Set (table (λ c. true))
  view (eres.Bracket s) = Set s.value.has
  view eres.Start = Start
  view eres.End = End
  view (eres.Group' p e) = Group (view e)
  view (eres.Repeat' p e times) = Repeat (view e) times.low times.high
  view (eres.Concat' shape all) = concat_all (view_row all)
  view (eres.Or' shape all) = or_all (view_row all)

  pub view_row : {m : _} → Row_of-Ere m → List Tree
  view_row end_of-Ere = []
  view_row (more_of-Ere e rest) = view e ∷ view_row rest

abbrev pub views : List Ere → List Tree
views [] = []
views (e ∷ es) = view e ∷ views es
