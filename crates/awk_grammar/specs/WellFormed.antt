-- Which trees are well formed, as tests.
use Rattle.std.specs.Prelude.{Bool, true, false, ◌&&◌, not, nat_le, List, [], ◌∷◌, Option, Some, None}
use Rattle.awk_grammar.specs.Tree.{op_left, op_right, op_allowed, level, edge, is_field, fits, takes, suits}
use Rattle.awk_grammar.specs.Trees.{Op, Tree, Leaf, Length, Var, Index, Field, Group, Call, Apply, Unary, Pre, Post, Bin, Has, HasList, Cond, Get, GetInto, GetFrom, GetIntoFrom, Trees, NoTree, Then, Printing, Print, Printf, Args, NoArgs, Listed, Enclosed, Target, NoTarget, Written, Appended, Plain, Eval, Put, Delete, Clear, Stmt, Block, Empty, Simple, If, IfElse, While, Do, For, ForIn, Jumping, Leave, Stmts, NoStmt, And, Pattern, One, Between, Item, Function, Begin, End, Always, When, Lone, Nothing}
use Rattle.awk_grammar.specs.Shape.{view_next, head_of, behind, may_join}
use Rattle.awk_grammar.specs.Stmt.{dangles}

-- whether the operator may stand between the operands
abbrev pub joins : Bool → Op → Tree → Tree → Bool
joins g op a b =
    nat_le (op_left op) (edge a)
    && (fits (op_right op) b
    && (may_join op (head_of b)
    && (not (takes true a (view_next (behind op (head_of b))))
    && op_allowed g op)))

abbrev pub is_some_tree : Trees → Bool
is_some_tree NoTree = false
is_some_tree (Then t ts) = true

abbrev mutual
  pub well_formed : Bool → Tree → Bool
  well_formed g (Leaf c) = true
  well_formed g Length = true
  well_formed g (Var n) = true
  well_formed g (Index n ts) = is_some_tree ts && all_well_formed true ts
  well_formed g (Field t) = is_field t && well_formed g t
  well_formed g (Group t) = well_formed true t
  well_formed g (Call f ts) = all_well_formed true ts
  well_formed g (Apply f ts) = suits f ts && all_well_formed true ts
  well_formed g (Unary p t) = nat_le 9 (level t) && well_formed g t
  well_formed g (Pre s t) = nat_le 13 (level t) && well_formed g t
  well_formed g (Post s t) = nat_le 13 (level t) && well_formed g t
  well_formed g (Bin op a b) = joins g op a b && (well_formed g a && well_formed g b)
  well_formed g (Has a n) = nat_le 3 (edge a) && well_formed g a
  well_formed g (HasList t ts n) = well_formed true t && (is_some_tree ts && all_well_formed true ts)
  well_formed g (Cond a b c) = nat_le 1 (edge a) && (well_formed g a && (well_formed g b && well_formed g c))
  well_formed g Get = true
  well_formed g (GetInto v) = nat_le 13 (level v) && well_formed g v
  well_formed g (GetFrom s) = nat_le 12 (level s) && well_formed g s
  well_formed g (GetIntoFrom v s) = nat_le 13 (level v) && (nat_le 12 (level s) && (well_formed g v && well_formed g s))

  pub all_well_formed : Bool → Trees → Bool
  all_well_formed g NoTree = true
  all_well_formed g (Then t ts) = well_formed g t && all_well_formed g ts

-- ---- statements

abbrev pub may_be_bare : Printing → Bool
may_be_bare Print = true
may_be_bare Printf = false

abbrev pub are_args : Printing → Args → Bool
are_args p NoArgs = may_be_bare p
are_args p (Listed ts) = is_some_tree ts && all_well_formed false ts
are_args p (Enclosed t ts) = well_formed true t && (is_some_tree ts && all_well_formed true ts)

abbrev pub is_target : Target → Bool
is_target NoTarget = true
is_target (Written t) = nat_le 6 (level t) && well_formed true t
is_target (Appended t) = nat_le 6 (level t) && well_formed true t

abbrev pub is_plain : Plain → Bool
is_plain (Eval t) = well_formed true t
is_plain (Put p a t) = are_args p a && is_target t
is_plain (Delete n ts) = is_some_tree ts && all_well_formed true ts
is_plain (Clear n) = true

abbrev pub is_maybe : Option Tree → Bool
is_maybe None = true
is_maybe (Some t) = well_formed true t

abbrev pub is_maybe_plain : Option Plain → Bool
is_maybe_plain None = true
is_maybe_plain (Some p) = is_plain p

abbrev mutual
  pub is_stmt : Stmt → Bool
  is_stmt (Block ss) = are_stmts ss
  is_stmt Empty = true
  is_stmt (Simple p) = is_plain p
  is_stmt (If c s) = well_formed true c && is_stmt s
  is_stmt (IfElse c s t) = not (dangles s) && (well_formed true c && (is_stmt s && is_stmt t))
  is_stmt (While c s) = well_formed true c && is_stmt s
  is_stmt (Do s c) = is_stmt s && well_formed true c
  is_stmt (For i c p s) = is_maybe_plain i && (is_maybe c && (is_maybe_plain p && is_stmt s))
  is_stmt (ForIn k a s) = is_stmt s
  is_stmt (Jumping j) = true
  is_stmt (Leave l e) = is_maybe e

  pub are_stmts : Stmts → Bool
  are_stmts NoStmt = true
  are_stmts (And s ss) = is_stmt s && are_stmts ss

-- ---- items

abbrev pub is_pattern : Pattern → Bool
is_pattern (One t) = well_formed true t
is_pattern (Between t u) = well_formed true t && well_formed true u

abbrev pub is_item : Item → Bool
is_item (Function n ps ss) = are_stmts ss
is_item (Begin ss) = are_stmts ss
is_item (End ss) = are_stmts ss
is_item (Always ss) = are_stmts ss
is_item (When p ss) = is_pattern p && are_stmts ss
is_item (Lone p) = is_pattern p
is_item Nothing = true

abbrev pub is_script : List Item → Bool
is_script [] = true
is_script (i ∷ is) = is_item i && is_script is
