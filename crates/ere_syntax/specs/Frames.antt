-- What the code's frames stand for.
use Rattle.std.specs.Prelude.{Option, Some, None, List, [], ◌∷◌}
use Rattle.ere_syntax.specs.Tree.{Tree, Set}
use Rattle.ere_syntax.specs.Reading.{Frame, Frames}
use Rattle.ere_syntax.specs.Lexing.{atom_set}
use Rattle.ere_syntax.specs.View.{view, views, concat_from, or_from}
use Rattle.ere_syntax.specs.Sizes.{IsSize, AreSize}
use Rattle.ere_syntax.specs.declared.token.Atom.{Atom}
use Rattle.ere_syntax.specs.declared.frame.Part.{Part}
use Rattle.ere_syntax.specs.declared.frame.Frame.{Frame as CodeFrame}

abbrev pub atom_view : Atom → Tree
atom_view a = Set (atom_set a)

abbrev pub some_concat : List Tree → Option Tree
some_concat [] = None
some_concat (t ∷ ts) = Some (concat_from t ts)

abbrev pub some_or : List Tree → Option Tree
some_or [] = None
some_or (t ∷ ts) = Some (or_from t ts)

abbrev pub last_view : Option Part → Option Tree
last_view None = None
last_view (Some p) = Some (view p.ere)

abbrev pub frame_view : CodeFrame → Frame
frame_view f = Frames (some_or (views f.branches.items)) (some_concat (views f.pieces.items)) (last_view f.last)

abbrev pub LastSize : Option Part → Type 0
LastSize None = Unit {0}
LastSize (Some p) = IsSize p.size (view p.ere)

-- the sizes that the frame keeps are those of what was read
pub record IsSized (f : CodeFrame) : Type 0 where
  pub before : AreSize f.size (some_or (views f.branches.items)) (some_concat (views f.pieces.items))
  pub last : LastSize f.last
