-- The trees of scripts: expressions, statements and items; and how deep they are.
use Rattle.std.specs.Prelude.{ℕ, ◌+◌, max, List, [], ◌∷◌, Option, Some, None}
use Rattle.awk_grammar.specs.Token.{Sign, Prefix, Not, Signed, Step, Symbol, Literal, Token, SignMark, NotMark, BreakWord, ContinueWord, NextWord, NextFileWord, ExitWord, ReturnWord, Key}
use Rattle.awk_tokens.specs.declared.reserved_words.Builtin.{Builtin}

-- what joins two expressions
pub data Op : Type 0 where
  Join : Op
  Add : Sign → Op
  Other : Symbol → Op

mutual
  pub data Tree : Type 0 where
    Leaf : Literal → Tree
    Length : Tree
    Var : List ℕ → Tree
    Index : List ℕ → Trees → Tree
    Field Group : Tree → Tree
    Call : List ℕ → Trees → Tree
    Apply : Builtin → Trees → Tree
    Unary : Prefix → Tree → Tree
    Pre Post : Step → Tree → Tree
    Bin : Op → Tree → Tree → Tree
    Has : Tree → List ℕ → Tree
    HasList : Tree → Trees → List ℕ → Tree
    Cond : Tree → Tree → Tree → Tree
    Get : Tree
    GetInto GetFrom : Tree → Tree
    GetIntoFrom : Tree → Tree → Tree

  pub data Trees : Type 0 where
    NoTree : Trees
    Then : Tree → Trees → Trees

-- how many there are
abbrev pub count : Trees → ℕ
count NoTree = 0
count (Then t ts) = count ts + 1

abbrev pub prefix_token : Prefix → Token
prefix_token Not = NotMark
prefix_token (Signed s) = SignMark s

pub data Printing : Type 0 where
  Print Printf : Printing

pub data Args : Type 0 where
  NoArgs : Args
  Listed : Trees → Args
  Enclosed : Tree → Trees → Args

pub data Target : Type 0 where
  NoTarget : Target
  Written Appended : Tree → Target

-- what may also stand in the head of a `for`
pub data Plain : Type 0 where
  Eval : Tree → Plain
  Put : Printing → Args → Target → Plain
  Delete : List ℕ → Trees → Plain
  Clear : List ℕ → Plain

pub data Jump : Type 0 where
  Break Continue Next NextFile : Jump

pub data Leaving : Type 0 where
  Exit Return : Leaving

mutual
  pub data Stmt : Type 0 where
    Block : Stmts → Stmt
    Empty : Stmt
    Simple : Plain → Stmt
    If : Tree → Stmt → Stmt
    IfElse : Tree → Stmt → Stmt → Stmt
    While : Tree → Stmt → Stmt
    Do : Stmt → Tree → Stmt
    For : Option Plain → Option Tree → Option Plain → Stmt → Stmt
    ForIn : List ℕ → List ℕ → Stmt → Stmt
    Jumping : Jump → Stmt
    Leave : Leaving → Option Tree → Stmt

  pub data Stmts : Type 0 where
    NoStmt : Stmts
    And : Stmt → Stmts → Stmts

abbrev pub jump_token : Jump → Token
jump_token Break = Key BreakWord
jump_token Continue = Key ContinueWord
jump_token Next = Key NextWord
jump_token NextFile = Key NextFileWord

abbrev pub leaving_token : Leaving → Token
leaving_token Exit = Key ExitWord
leaving_token Return = Key ReturnWord

pub data Pattern : Type 0 where
  One : Tree → Pattern
  Between : Tree → Tree → Pattern

pub data Item : Type 0 where
  Function : List ℕ → List (List ℕ) → Stmts → Item
  Begin End Always : Stmts → Item
  When : Pattern → Stmts → Item
  Lone : Pattern → Item
  Nothing : Item

-- ---- depth

abbrev mutual
  pub depth : Tree → ℕ
  depth (Index n ts) = depths ts + 1
  depth (Field t) = depth t + 1
  depth (Group t) = depth t + 1
  depth (Call f ts) = depths ts + 1
  depth (Apply f ts) = depths ts + 1
  depth (Unary p t) = depth t + 1
  depth (Pre s t) = depth t + 1
  depth (Post s t) = depth t + 1
  depth (Bin op a b) = max (depth a) (depth b) + 1
  depth (Has a n) = depth a + 1
  depth (HasList t ts n) = max (depth t) (depths ts) + 1
  depth (Cond a b c) = max (depth a) (max (depth b) (depth c)) + 1
  depth (GetInto v) = depth v + 1
  depth (GetFrom s) = depth s + 1
  depth (GetIntoFrom v s) = max (depth v) (depth s) + 1
  depth _ = 1

  pub depths : Trees → ℕ
  depths NoTree = 0
  depths (Then t ts) = max (depth t) (depths ts)

abbrev pub args_depth : Args → ℕ
args_depth NoArgs = 0
args_depth (Listed ts) = depths ts
args_depth (Enclosed t ts) = max (depth t) (depths ts)

abbrev pub target_depth : Target → ℕ
target_depth NoTarget = 0
target_depth (Written t) = depth t
target_depth (Appended t) = depth t

abbrev pub plain_depth : Plain → ℕ
plain_depth (Eval t) = depth t
plain_depth (Put p a t) = max (args_depth a) (target_depth t)
plain_depth (Delete n ts) = depths ts
plain_depth (Clear n) = 0

abbrev pub maybe_depth : Option Tree → ℕ
maybe_depth None = 0
maybe_depth (Some t) = depth t

abbrev pub maybe_plain_depth : Option Plain → ℕ
maybe_plain_depth None = 0
maybe_plain_depth (Some p) = plain_depth p

abbrev mutual
  pub stmt_depth : Stmt → ℕ
  stmt_depth (Block ss) = stmts_depth ss + 1
  stmt_depth (Simple p) = plain_depth p + 1
  stmt_depth (If c s) = max (depth c) (stmt_depth s) + 1
  stmt_depth (IfElse c s t) = max (depth c) (max (stmt_depth s) (stmt_depth t)) + 1
  stmt_depth (While c s) = max (depth c) (stmt_depth s) + 1
  stmt_depth (Do s c) = max (stmt_depth s) (depth c) + 1
  stmt_depth (For i c p s) = max (max (maybe_plain_depth i) (maybe_depth c)) (max (maybe_plain_depth p) (stmt_depth s)) + 1
  stmt_depth (ForIn k a s) = stmt_depth s + 1
  stmt_depth (Leave l e) = maybe_depth e + 1
  stmt_depth _ = 1

  pub stmts_depth : Stmts → ℕ
  stmts_depth NoStmt = 0
  stmts_depth (And s ss) = max (stmt_depth s) (stmts_depth ss)

abbrev pub pattern_depth : Pattern → ℕ
pattern_depth (One t) = depth t
pattern_depth (Between t u) = max (depth t) (depth u)

abbrev pub item_depth : Item → ℕ
item_depth (Function n ps ss) = stmts_depth ss
item_depth (Begin ss) = stmts_depth ss
item_depth (End ss) = stmts_depth ss
item_depth (Always ss) = stmts_depth ss
item_depth (When p ss) = max (pattern_depth p) (stmts_depth ss)
item_depth (Lone p) = pattern_depth p
item_depth Nothing = 0

-- a script that is read has at most this depth
abbrev pub most_depth : ℕ
most_depth = 1000

abbrev pub script_depth : List Item → ℕ
script_depth [] = 0
script_depth (i ∷ is) = max (item_depth i) (script_depth is)
