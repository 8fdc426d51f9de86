-- The levels of well-formed trees, and of their right edges.
use Rattle.std.proofs.Common.{◌≡◌, ◌≤◌, Bool, true, refl, arith}
use Rattle.std.specs.Prelude.{min}
use Rattle.std.proofs.lemmas.Bool.{leb-true, le-leb}
use Rattle.awk_grammar.specs.Token.{Assign, Or, And, Match, Compare, Mul, Pow}
use Rattle.awk_grammar.specs.Tree.{op_level, op_edge, op_right, level, edge, is_field, fits, IsWellFormed}
use Rattle.awk_grammar.specs.Trees.{Op, Join, Add, Other, Tree, Leaf, Length, Var, Index, Field, Group, Call, Apply, Unary, Pre, Post, Bin, Has, HasList, Cond, Get, GetInto, GetFrom, GetIntoFrom}

pub op_low : (op : Op) → op_level op ≤ 10
op_low Join = omega arith
op_low (Add s) = omega arith
op_low (Other (Assign a)) = omega arith
op_low (Other Or) = omega arith
op_low (Other And) = omega arith
op_low (Other (Match m)) = omega arith
op_low (Other (Compare c)) = omega arith
op_low (Other (Mul p)) = omega arith
op_low (Other Pow) = omega arith

pub edge_below : (t : Tree) → edge t ≤ level t
edge_below (Leaf x) = omega arith
edge_below Length = omega arith
edge_below (Var x) = omega arith
edge_below (Index x ts) = omega arith
edge_below (Field t) = omega arith
edge_below (Group t) = omega arith
edge_below (Call f ts) = omega arith
edge_below (Apply f ts) = omega arith
edge_below (Unary p t) = omega arith
edge_below (Pre s t) = omega arith
edge_below (Post s t) = omega arith
edge_below (Bin op a b) = by op
  where
    by : (op : Op) → min (op_edge op) (edge b) ≤ op_level op
    by Join = omega arith
    by (Add s) = omega arith
    by (Other (Assign a)) = omega arith
    by (Other Or) = omega arith
    by (Other And) = omega arith
    by (Other (Match m)) = omega arith
    by (Other (Compare c)) = omega arith
    by (Other (Mul p)) = omega arith
    by (Other Pow) = omega arith
edge_below (Has a x) = omega arith
edge_below (HasList t ts x) = omega arith
edge_below (Cond a b c) = omega arith
edge_below Get = omega arith
edge_below (GetInto v) = omega arith
edge_below (GetFrom s) = omega arith
edge_below (GetIntoFrom v s) = omega arith

-- the right edge of a tree without operators and signs is the tree's own level
pub own_edge : (t : Tree) → 11 ≤ level t → level t ≤ edge t
own_edge (Unary p t) h = absurd (omega arith)
own_edge (Bin op a b) h = absurd (omega (arith, op_low op))
own_edge t h = omega arith

-- The right edge of a tree is as tight as the tree, below signs, or an assignment or a choice ends it.
pub data Edged (t : Tree) : Type 0 where
  Tight : min 9 (level t) ≤ edge t → Edged t
  Open : edge t ≡ 0 → level t ≤ 3 → Edged t

pub edged : (g : Bool) (t : Tree) → IsWellFormed g t → Edged t
edged g (Leaf x) h = Tight (omega arith)
edged g Length h = Tight (omega arith)
edged g (Var x) h = Tight (omega arith)
edged g (Index x ts) h = Tight (omega arith)
edged g (Field t) h = Tight (omega arith)
edged g (Group t) h = Tight (omega arith)
edged g (Call f ts) h = Tight (omega arith)
edged g (Apply f ts) h = Tight (omega arith)
edged g (Unary p t) h = by (edged g t h.0)
  where
    by : Edged t → Edged (Unary p t)
    by (Tight e) = Tight (omega (arith, leb-true 9 (level t) h.1))
    by (Open e l) = absurd (omega (arith, leb-true 9 (level t) h.1))
edged g (Pre s t) h = Tight (omega arith)
edged g (Post s t) h = Tight (omega arith)
edged g (Bin op a b) h = by op h.3 (edged g b h.1)
  where
    by : (op : Op) → fits (op_right op) b ≡ true → Edged b → Edged (Bin op a b)
    by Join f (Tight e) = Tight (omega (arith, leb-true 7 (level b) f))
    by Join f (Open e l) = absurd (omega (arith, leb-true 7 (level b) f))
    by (Add s) f (Tight e) = Tight (omega (arith, leb-true 8 (level b) f))
    by (Add s) f (Open e l) = absurd (omega (arith, leb-true 8 (level b) f))
    by (Other (Assign how)) f e = Open (omega arith) (omega arith)
    by (Other Or) f (Tight e) = Tight (omega (arith, leb-true 2 (level b) f))
    by (Other Or) f (Open e l) = Open (omega (arith, e)) (omega arith)
    by (Other And) f (Tight e) = Tight (omega (arith, leb-true 3 (level b) f))
    by (Other And) f (Open e l) = Open (omega (arith, e)) (omega arith)
    by (Other (Match m)) f (Tight e) = Tight (omega (arith, leb-true 5 (level b) f))
    by (Other (Match m)) f (Open e l) = absurd (omega (arith, leb-true 5 (level b) f))
    by (Other (Compare c)) f (Tight e) = Tight (omega (arith, leb-true 6 (level b) f))
    by (Other (Compare c)) f (Open e l) = absurd (omega (arith, leb-true 6 (level b) f))
    by (Other (Mul p)) f (Tight e) = Tight (omega (arith, leb-true 9 (level b) f))
    by (Other (Mul p)) f (Open e l) = absurd (omega (arith, leb-true 9 (level b) f))
    by (Other Pow) f (Tight e) = Tight (omega (arith, leb-true 9 (level b) f))
    by (Other Pow) f (Open e l) = absurd (omega (arith, leb-true 9 (level b) f))
edged g (Has a x) h = Tight (omega arith)
edged g (HasList t ts x) h = Tight (omega arith)
edged g (Cond a b c) h = Tight (omega arith)
edged g Get h = Tight (omega arith)
edged g (GetInto v) h = Tight (omega arith)
edged g (GetFrom s) h = Tight (omega arith)
edged g (GetIntoFrom v s) h = Tight (omega arith)

-- ---- what may stand after a dollar sign

pub simple_is_field : (t : Tree) → 12 ≤ level t → is_field t ≡ true
simple_is_field (Unary p t) h = absurd (omega arith)
simple_is_field (Pre s t) h = refl
simple_is_field t h = le-leb 12 (level t) h

pub field_level : (t : Tree) → is_field t ≡ true → 9 ≤ level t
field_level (Unary p t) h = omega arith
field_level (Pre s t) h = omega arith
field_level t h = omega (arith, leb-true 12 (level t) h)
