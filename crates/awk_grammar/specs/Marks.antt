-- What a script says of names, from left to right.
use Rattle.std.specs.Prelude.{ℕ, ◌+◌, ◌==◌, Bool, false, if◌then◌else◌, List, [], ◌∷◌, ◌++◌, Option, Some, None}
use Rattle.awk_tokens.specs.declared.reserved_words.Builtin.{Builtin}
use Rattle.awk_tokens.specs.declared.reserved_words.Builtin.TheVariants.{Split}
use Rattle.awk_grammar.specs.Trees.{count, Tree, Var, Index, Field, Group, Call, Apply, Unary, Pre, Post, Bin, Has, HasList, Cond, GetInto, GetFrom, GetIntoFrom, Trees, NoTree, Then, Args, NoArgs, Listed, Enclosed, Target, NoTarget, Written, Appended, Plain, Eval, Put, Delete, Clear, Stmt, Block, Simple, If, IfElse, While, Do, For, ForIn, Leave, Stmts, NoStmt, And, Pattern, One, Between, Item, Function, Begin, End, Always, When, Lone, Nothing}

pub data Kind : Type 0 where
  Array Scalar : Kind

-- `place` is the function in whose body the name stands
pub data Mark : Type 0 where
  -- a function's own name, where it is defined
  Defined : (function : List ℕ) → Mark
  Parameter : (function : List ℕ) → (name : List ℕ) → Mark
  -- a name used as an array (`a[..]`, `in a`, `delete`, the second argument of `split`) or as a scalar
  Used : Kind → (place : Option (List ℕ)) → (name : List ℕ) → Mark
  -- a call with so many arguments
  Called : (function : List ℕ) → (arguments : ℕ) → Mark
  -- an argument that is no bare name; it is found at the call's name
  Computed : (function : List ℕ) → (argument : ℕ) → Mark
  -- a bare name as an argument
  Given : (function : List ℕ) → (argument : ℕ) → (place : Option (List ℕ)) → (name : List ℕ) → Mark

-- the name that an argument is, if it is a bare name
abbrev pub bare_name : Tree → Option (List ℕ)
bare_name (Var x) = Some x
bare_name _ = None

-- `split` fills its second argument
abbrev pub fills : Builtin → ℕ → Bool
fills Split i = i == 1
fills f i = false

abbrev pub array_name : Builtin → ℕ → Tree → Option (List ℕ)
array_name f i t = if fills f i then bare_name t else None

-- the mark of a name, or other marks where there is none
abbrev pub named_or : (List ℕ → Mark) → Option (List ℕ) → List Mark → List Mark
named_or mark (Some x) ms = mark x ∷ []
named_or mark None ms = ms

abbrev pub unless_named : Mark → Option (List ℕ) → List Mark
unless_named mark (Some x) = []
unless_named mark None = mark ∷ []

-- the arguments from a number on that are no bare names
abbrev pub computed_marks : List ℕ → ℕ → Trees → List Mark
computed_marks f i NoTree = []
computed_marks f i (Then t ts) = unless_named (Computed f i) (bare_name t) ++ computed_marks f (i + 1) ts

module _ (place : Option (List ℕ)) where
  abbrev mutual
    pub marks : Tree → List Mark
    marks (Var x) = Used Scalar place x ∷ []
    marks (Index x ts) = Used Array place x ∷ all_marks ts
    marks (Field t) = marks t
    marks (Group t) = marks t
    marks (Call f ts) = Called f (count ts) ∷ (computed_marks f 0 ts ++ argument_marks f 0 ts)
    marks (Apply f ts) = operand_marks f 0 ts
    marks (Unary p t) = marks t
    marks (Pre s t) = marks t
    marks (Post s t) = marks t
    marks (Bin op a b) = marks a ++ marks b
    marks (Has t x) = marks t ++ Used Array place x ∷ []
    marks (HasList t ts x) = marks t ++ (all_marks ts ++ Used Array place x ∷ [])
    marks (Cond c a b) = marks c ++ (marks a ++ marks b)
    marks (GetInto v) = marks v
    marks (GetFrom s) = marks s
    marks (GetIntoFrom v s) = marks v ++ marks s
    marks _ = []

    pub all_marks : Trees → List Mark
    all_marks NoTree = []
    all_marks (Then t ts) = marks t ++ all_marks ts

    -- the arguments of a call from a number on
    pub argument_marks : List ℕ → ℕ → Trees → List Mark
    argument_marks f i NoTree = []
    argument_marks f i (Then t ts) = named_or (Given f i place) (bare_name t) (marks t) ++ argument_marks f (i + 1) ts

    -- the arguments of a built-in function from a number on
    pub operand_marks : Builtin → ℕ → Trees → List Mark
    operand_marks f i NoTree = []
    operand_marks f i (Then t ts) = named_or (Used Array place) (array_name f i t) (marks t) ++ operand_marks f (i + 1) ts

  abbrev pub args_marks : Args → List Mark
  args_marks NoArgs = []
  args_marks (Listed ts) = all_marks ts
  args_marks (Enclosed t ts) = marks t ++ all_marks ts

  abbrev pub target_marks : Target → List Mark
  target_marks NoTarget = []
  target_marks (Written t) = marks t
  target_marks (Appended t) = marks t

  abbrev pub plain_marks : Plain → List Mark
  plain_marks (Eval t) = marks t
  plain_marks (Put p args target) = args_marks args ++ target_marks target
  plain_marks (Delete x ts) = Used Array place x ∷ all_marks ts
  plain_marks (Clear x) = Used Array place x ∷ []

  abbrev pub maybe_marks : Option Tree → List Mark
  maybe_marks None = []
  maybe_marks (Some t) = marks t

  abbrev pub maybe_plain_marks : Option Plain → List Mark
  maybe_plain_marks None = []
  maybe_plain_marks (Some p) = plain_marks p

  abbrev mutual
    pub stmt_marks : Stmt → List Mark
    stmt_marks (Block ss) = stmts_marks ss
    stmt_marks (Simple p) = plain_marks p
    stmt_marks (If c s) = marks c ++ stmt_marks s
    stmt_marks (IfElse c s t) = marks c ++ (stmt_marks s ++ stmt_marks t)
    stmt_marks (While c s) = marks c ++ stmt_marks s
    stmt_marks (Do s c) = stmt_marks s ++ marks c
    stmt_marks (For i c p s) = maybe_plain_marks i ++ (maybe_marks c ++ (maybe_plain_marks p ++ stmt_marks s))
    stmt_marks (ForIn k x s) = Used Scalar place k ∷ (Used Array place x ∷ stmt_marks s)
    stmt_marks (Leave l t) = maybe_marks t
    stmt_marks _ = []

    pub stmts_marks : Stmts → List Mark
    stmts_marks NoStmt = []
    stmts_marks (And s ss) = stmt_marks s ++ stmts_marks ss

  abbrev pub pattern_marks : Pattern → List Mark
  pattern_marks (One t) = marks t
  pattern_marks (Between t u) = marks t ++ marks u

abbrev pub parameter_marks : List ℕ → List (List ℕ) → List Mark
parameter_marks f [] = []
parameter_marks f (x ∷ xs) = Parameter f x ∷ parameter_marks f xs

abbrev pub item_marks : Item → List Mark
item_marks (Function f xs ss) = Defined f ∷ (parameter_marks f xs ++ stmts_marks (Some f) ss)
item_marks (Begin ss) = stmts_marks None ss
item_marks (End ss) = stmts_marks None ss
item_marks (Always ss) = stmts_marks None ss
item_marks (When p ss) = pattern_marks None p ++ stmts_marks None ss
item_marks (Lone p) = pattern_marks None p
item_marks Nothing = []

abbrev pub script_marks : List Item → List Mark
script_marks [] = []
script_marks (i ∷ is) = item_marks i ++ script_marks is
