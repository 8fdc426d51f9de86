-- The sizes that the code keeps.
use Rattle.std.specs.Prelude.{◌≡◌, ℕ, ◌+◌, max, min, Option, Some, None, List, [], ◌∷◌, length}
use Rattle.ere_syntax.specs.Tree.{Tree, positions, nesting, most_positions}
use Rattle.ere_syntax.specs.Reading.{Frame, Frames}
use Rattle.ere_syntax.specs.declared.size.Size.{Size}

abbrev pub count : Option Tree → ℕ
count None = 0
count (Some t) = positions t

abbrev pub deep : Option Tree → ℕ
deep None = 0
deep (Some t) = nesting t

-- the size of a tree
pub record IsSize (s : Size) (t : Tree) : Type 0 where
  pub positions : s.positions ≡ min (positions t) (most_positions + 1)
  pub nesting : s.nesting ≡ nesting t

-- the size of two parts, each of which may be missing
pub record AreSize (s : Size) (a b : Option Tree) : Type 0 where
  pub positions : s.positions ≡ min (count a + count b) (most_positions + 1)
  pub nesting : s.nesting ≡ max (deep a) (deep b)

abbrev pub frame_deep : Frame → ℕ
frame_deep (Frames a p l) = max (deep a) (max (deep p) (deep l))

-- the nesting that the tree will have at least
abbrev pub reached : List Frame → Frame → ℕ
reached [] f = frame_deep f
reached (g ∷ stack) f = max (reached stack g) (length stack + 1 + frame_deep f)

pub record IsOne (t : Tree) : Type 0 where
  pub positions : positions t ≡ 1
  pub nesting : nesting t ≡ 0
