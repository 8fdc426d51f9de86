-- Expressions of a script: how many there are in each function, each part of an expression counted too, and in all that stands in no function.
use Rattle.std.specs.Prelude.{ℕ, suc, ◌+◌, List, [], ◌∷◌, ◌++◌, map, Option, Some, None}
use Rattle.awk_grammar.specs.Trees.{Tree, Leaf, Length, Var, Index, Field, Group, Call, Apply, Unary, Pre, Post, Bin, Has, HasList, Cond, Get, GetInto, GetFrom, GetIntoFrom, Trees, NoTree, Then, Args, NoArgs, Listed, Enclosed, Target, NoTarget, Written, Appended, Plain, Eval, Put, Delete, Clear, Stmt, Stmts, NoStmt, And, Pattern, One, Between, Item}
use Rattle.awk_grammar.specs.Trees as stmt
use Rattle.sem_scripts.specs.Names.{Function, Resolved}

abbrev mutual
  pub nodes : Tree → ℕ
  nodes (Leaf c) = 1
  nodes Length = 1
  nodes (Var x) = 1
  nodes (Index x ts) = suc (all_nodes ts)
  nodes (Field t) = suc (nodes t)
  nodes (Group t) = suc (nodes t)
  nodes (Call f ts) = suc (all_nodes ts)
  nodes (Apply f ts) = suc (all_nodes ts)
  nodes (Unary p t) = suc (nodes t)
  nodes (Pre s t) = suc (nodes t)
  nodes (Post s t) = suc (nodes t)
  nodes (Bin op a b) = suc (nodes a + nodes b)
  nodes (Has t x) = suc (nodes t)
  nodes (HasList t ts x) = suc (nodes t + all_nodes ts)
  nodes (Cond c a b) = suc (nodes c + (nodes a + nodes b))
  nodes Get = 1
  nodes (GetInto v) = suc (nodes v)
  nodes (GetFrom s) = suc (nodes s)
  nodes (GetIntoFrom v s) = suc (nodes v + nodes s)

  pub all_nodes : Trees → ℕ
  all_nodes NoTree = 0
  all_nodes (Then t ts) = nodes t + all_nodes ts

abbrev pub args_nodes : Args → ℕ
args_nodes NoArgs = 0
args_nodes (Listed ts) = all_nodes ts
args_nodes (Enclosed t ts) = nodes t + all_nodes ts

abbrev pub target_nodes : Target → ℕ
target_nodes NoTarget = 0
target_nodes (Written t) = nodes t
target_nodes (Appended t) = nodes t

abbrev pub plain_nodes : Plain → ℕ
plain_nodes (Eval t) = nodes t
plain_nodes (Put p args target) = args_nodes args + target_nodes target
plain_nodes (Delete a ts) = all_nodes ts
plain_nodes (Clear a) = 0

abbrev pub maybe_nodes : Option Tree → ℕ
maybe_nodes None = 0
maybe_nodes (Some t) = nodes t

abbrev pub maybe_plain_nodes : Option Plain → ℕ
maybe_plain_nodes None = 0
maybe_plain_nodes (Some p) = plain_nodes p

abbrev mutual
  pub stmt_nodes : Stmt → ℕ
  stmt_nodes (stmt.Block ss) = stmts_nodes ss
  stmt_nodes stmt.Empty = 0
  stmt_nodes (stmt.Simple p) = plain_nodes p
  stmt_nodes (stmt.If c s) = nodes c + stmt_nodes s
  stmt_nodes (stmt.IfElse c s t) = nodes c + (stmt_nodes s + stmt_nodes t)
  stmt_nodes (stmt.While c s) = nodes c + stmt_nodes s
  stmt_nodes (stmt.Do s c) = stmt_nodes s + nodes c
  stmt_nodes (stmt.For i c p s) = maybe_plain_nodes i + (maybe_nodes c + (maybe_plain_nodes p + stmt_nodes s))
  stmt_nodes (stmt.ForIn k a s) = stmt_nodes s
  stmt_nodes (stmt.Jumping j) = 0
  stmt_nodes (stmt.Leave l e) = maybe_nodes e

  pub stmts_nodes : Stmts → ℕ
  stmts_nodes NoStmt = 0
  stmts_nodes (And s ss) = stmt_nodes s + stmts_nodes ss

abbrev pub pattern_nodes : Pattern → ℕ
pattern_nodes (One t) = nodes t
pattern_nodes (Between t u) = nodes t + nodes u

-- of what stands in no function
abbrev pub item_nodes : Item → ℕ
item_nodes (stmt.Function f ps ss) = 0
item_nodes (stmt.Begin ss) = stmts_nodes ss
item_nodes (stmt.End ss) = stmts_nodes ss
item_nodes (stmt.Always ss) = stmts_nodes ss
item_nodes (stmt.When p ss) = pattern_nodes p + stmts_nodes ss
item_nodes (stmt.Lone p) = pattern_nodes p
item_nodes stmt.Nothing = 0

abbrev pub items_nodes : List Item → ℕ
items_nodes [] = 0
items_nodes (i ∷ is) = item_nodes i + items_nodes is

-- of each function, in their order, and, last, of the rest
abbrev pub nodes_of : Resolved → List ℕ
nodes_of script = map (λ (f : Function). stmts_nodes f.body) script.functions ++ (items_nodes script.items ∷ [])
