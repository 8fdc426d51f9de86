-- The texts of a script's constants, each once, in the order of their first places.
use Rattle.std.specs.Prelude.{ℕ, suc, Bool, true, false, if◌then◌else◌, List, [], ◌∷◌, ◌++◌, Option, Some, None}
use Rattle.awk_text.specs.Escapes.{string_text}
use Rattle.awk_grammar.specs.Token.{Literal, Number, Quoted, Ere}
use Rattle.awk_grammar.specs.Trees.{Tree, Leaf, Length, Var, Index, Field, Group, Call, Apply, Unary, Pre, Post, Bin, Has, HasList, Cond, Get, GetInto, GetFrom, GetIntoFrom, Trees, NoTree, Then, Args, NoArgs, Listed, Enclosed, Target, NoTarget, Written, Appended, Plain, Eval, Put, Delete, Clear, Stmt, Block, Empty, Simple, If, IfElse, While, Do, For, ForIn, Jumping, Leave, Stmts, NoStmt, And, Pattern, One, Between, Item, Function, Begin, End, Always, When, Lone, Nothing}
use Rattle.sem_scripts.specs.Names.{Function as Defined, Resolved, same_name}
use Rattle.sem_scripts.specs.Steps.{ere_text}

abbrev pub literal_texts : Literal → List (List ℕ)
literal_texts (Number text) = []
literal_texts (Quoted text) = string_text text ∷ []
literal_texts (Ere text) = ere_text text ∷ []

unfoldable mutual
  pub texts_in : Tree → List (List ℕ)
  texts_in (Leaf c) = literal_texts c
  texts_in Length = []
  texts_in (Var x) = []
  texts_in (Index x ts) = all_texts ts
  texts_in (Field t) = texts_in t
  texts_in (Group t) = texts_in t
  texts_in (Call f ts) = all_texts ts
  texts_in (Apply f ts) = all_texts ts
  texts_in (Unary p t) = texts_in t
  texts_in (Pre s t) = texts_in t
  texts_in (Post s t) = texts_in t
  texts_in (Bin op a b) = texts_in a ++ texts_in b
  texts_in (Has t x) = texts_in t
  texts_in (HasList t ts x) = texts_in t ++ all_texts ts
  texts_in (Cond c a b) = texts_in c ++ (texts_in a ++ texts_in b)
  texts_in Get = []
  texts_in (GetInto v) = texts_in v
  texts_in (GetFrom s) = texts_in s
  texts_in (GetIntoFrom v s) = texts_in v ++ texts_in s

  pub all_texts : Trees → List (List ℕ)
  all_texts NoTree = []
  all_texts (Then t ts) = texts_in t ++ all_texts ts

abbrev pub target_texts : Target → List (List ℕ)
target_texts NoTarget = []
target_texts (Written t) = texts_in t
target_texts (Appended t) = texts_in t

abbrev pub args_texts : Args → List (List ℕ)
args_texts NoArgs = []
args_texts (Listed ts) = all_texts ts
args_texts (Enclosed t ts) = texts_in t ++ all_texts ts

abbrev pub plain_texts : Plain → List (List ℕ)
plain_texts (Eval t) = texts_in t
plain_texts (Put p args target) = args_texts args ++ target_texts target
plain_texts (Delete a ts) = all_texts ts
plain_texts (Clear a) = []

abbrev pub maybe_texts : Option Tree → List (List ℕ)
maybe_texts None = []
maybe_texts (Some t) = texts_in t

abbrev pub maybe_plain_texts : Option Plain → List (List ℕ)
maybe_plain_texts None = []
maybe_plain_texts (Some p) = plain_texts p

unfoldable mutual
  pub stmt_texts : Stmt → List (List ℕ)
  stmt_texts (Block ss) = stmts_texts ss
  stmt_texts Empty = []
  stmt_texts (Simple p) = plain_texts p
  stmt_texts (If c s) = texts_in c ++ stmt_texts s
  stmt_texts (IfElse c s t) = texts_in c ++ (stmt_texts s ++ stmt_texts t)
  stmt_texts (While c s) = texts_in c ++ stmt_texts s
  stmt_texts (Do s c) = stmt_texts s ++ texts_in c
  stmt_texts (For i c p s) = maybe_plain_texts i ++ (maybe_texts c ++ (maybe_plain_texts p ++ stmt_texts s))
  stmt_texts (ForIn k a s) = stmt_texts s
  stmt_texts (Jumping j) = []
  stmt_texts (Leave l t) = maybe_texts t

  pub stmts_texts : Stmts → List (List ℕ)
  stmts_texts NoStmt = []
  stmts_texts (And s ss) = stmt_texts s ++ stmts_texts ss

abbrev pub pattern_texts : Pattern → List (List ℕ)
pattern_texts (One t) = texts_in t
pattern_texts (Between t u) = texts_in t ++ texts_in u

abbrev pub item_texts : Item → List (List ℕ)
item_texts (Function f ps ss) = []
item_texts (Begin ss) = stmts_texts ss
item_texts (End ss) = stmts_texts ss
item_texts (Always ss) = stmts_texts ss
item_texts (When p ss) = pattern_texts p ++ stmts_texts ss
item_texts (Lone p) = pattern_texts p
item_texts Nothing = []

abbrev pub items_texts : List Item → List (List ℕ)
items_texts [] = []
items_texts (item ∷ items) = item_texts item ++ items_texts items

abbrev pub functions_texts : List Defined → List (List ℕ)
functions_texts [] = []
functions_texts (f ∷ fs) = stmts_texts f.body ++ functions_texts fs

abbrev pub has_text : List (List ℕ) → List ℕ → Bool
has_text [] t = false
has_text (s ∷ ss) t = if same_name s t then true else has_text ss t

-- each once
abbrev pub once : List (List ℕ) → List (List ℕ) → List (List ℕ)
once known [] = known
once known (t ∷ ts) = if has_text known t then once known ts else once (known ++ (t ∷ [])) ts

abbrev pub texts_of_script : Resolved → List (List ℕ)
texts_of_script script = once [] (items_texts script.items ++ functions_texts script.functions)

-- where a text stands
abbrev pub text_place : List (List ℕ) → List ℕ → ℕ
text_place [] t = 0
text_place (s ∷ ss) t = if same_name s t then 0 else suc (text_place ss t)
