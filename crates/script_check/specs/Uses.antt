-- What a script does at each of its names, each `=` and each `/`, in the order of its tokens.
use Rattle.std.specs.Prelude.{ℕ, ◌+◌, ◌==◌, Bool, true, false, not, ◌&&◌, List, [], ◌∷◌, ◌++◌, Option, Some, None, Result, Ok, Err, ℤ, pos, int_rem, int_lt, unsigned_abs, if◌then◌else◌}
use Rattle.awk_text.specs.Number.{number_of_text}
use Rattle.awk_text.specs.declared.number.NumberFault.{NumberFault}
use Rattle.awk_tokens.specs.declared.reserved_words.Builtin.{Builtin}
use Rattle.awk_tokens.specs.declared.reserved_words.Builtin.TheVariants.{Split, Sub, Gsub}
use Rattle.awk_grammar.specs.Token.{Product, Over, Assigning, Set, Symbol, Assign, Mul, Number, Literal}
use Rattle.awk_grammar.specs.Trees.{count, Op, Join, Add, Other, Tree, Leaf, Length, Var, Index, Field, Group, Call, Apply, Unary, Pre, Post, Bin, Has, HasList, Cond, Get, GetInto, GetFrom, GetIntoFrom, Trees, NoTree, Then, Args, NoArgs, Listed, Enclosed, Target, NoTarget, Written, Appended, Plain, Eval, Put, Delete, Clear, Stmt, Block, Empty, Simple, If, IfElse, While, Do, For, ForIn, Jumping, Leave, Stmts, NoStmt, And, Pattern, One, Between, Item, Function, Begin, End, Always, When, Lone, Nothing}
use Rattle.script_check.specs.declared.uses.Way.{Way}
use Rattle.script_check.specs.declared.uses.Way.TheVariants.{Asked, Assigned, Changed, Filled, Given, Joined, Condition}
use Rattle.script_check.specs.declared.uses.Deed.{Deed}
use Rattle.script_check.specs.declared.uses.Deed.TheVariants.{Defines, Takes, Calls, Reads, Sets, Changes, Joins, Gives, ReadsArray, SetsArray, ChangesArray, Clears, Assigns, Divides}

-- what is done at a token; `place` is the function in whose body it stands, or whose parameter it names; `=` and `/` have no name
pub record Told : Type 0 where
  pub deed : Deed
  pub place : Option (List ℕ)
  pub name : List ℕ

-- ---- how the value of an expression is used

abbrev pub is_condition : Way → Bool
is_condition Condition = true
is_condition _ = false

abbrev pub scalar_deed : Way → Deed
scalar_deed Asked = Reads
scalar_deed Assigned = Sets
scalar_deed Changed = Changes
scalar_deed Filled = ChangesArray
scalar_deed Given = Gives
scalar_deed Joined = Joins
scalar_deed Condition = Reads

abbrev pub element_deed : Way → Deed
element_deed Assigned = SetsArray
element_deed Changed = ChangesArray
element_deed _ = ReadsArray

-- at the left of a concatenation
abbrev pub joined_way : Way → Way
joined_way Joined = Joined
joined_way _ = Asked

abbrev pub assigned_way : Assigning → Way
assigned_way Set = Assigned
assigned_way _ = Changed

abbrev pub symbol_way : Symbol → Way
symbol_way (Assign a) = assigned_way a
symbol_way _ = Asked

-- at the left of an operator
abbrev pub left_way : Way → Op → Way
left_way w Join = joined_way w
left_way w (Add s) = Asked
left_way w (Other s) = symbol_way s

-- `split` fills its second argument, `sub` and `gsub` change their third
abbrev pub operand_way : Builtin → ℕ → Way
operand_way Split i = if i == 1 then Filled else Asked
operand_way Sub i = if i == 2 then Changed else Asked
operand_way Gsub i = if i == 2 then Changed else Asked
operand_way _ i = Asked

-- the left end of a statement that only joins texts
abbrev pub op_joins : Op → Way
op_joins Join = Joined
op_joins _ = Asked

abbrev pub statement_way : Tree → Way
statement_way (Bin op a b) = op_joins op
statement_way _ = Asked

-- ---- constants that do not divide

abbrev pub number_in : Tree → Option (List ℕ)
number_in (Leaf (Number text)) = Some text
number_in _ = None

-- a number that is above 0 does not divide the other
abbrev pub leaves_rest : ℤ → ℤ → Bool
leaves_rest m n = int_lt (pos 0) n && not (unsigned_abs (int_rem m n) == 0)

abbrev pub numbers_leave_rest : Result ℤ NumberFault → Result ℤ NumberFault → Bool
numbers_leave_rest (Ok m) (Ok n) = leaves_rest m n
numbers_leave_rest _ _ = false

abbrev pub texts_leave_rest : Option (List ℕ) → Option (List ℕ) → Bool
texts_leave_rest (Some m) (Some n) = numbers_leave_rest (number_of_text m) (number_of_text n)
texts_leave_rest _ _ = false

-- both are constants, and the second does not divide the first
abbrev pub is_uneven : Tree → Tree → Bool
is_uneven a b = texts_leave_rest (number_in a) (number_in b)

-- ---- uses

-- What `getline`, `split` and the head of a loop over keys assign to counts as asked for too: often only their answers are wanted.

module _ (place : Option (List ℕ)) where
  abbrev pub does : Deed → List ℕ → Told
  does deed name = record { deed = deed; place = place; name = name }

  abbrev pub at_assigning : Way → Assigning → List Told
  at_assigning w Set = does (Assigns (is_condition w)) [] ∷ []
  at_assigning w _ = []

  abbrev pub at_product : Product → Tree → Tree → List Told
  at_product Over a b = does (Divides (is_uneven a b)) [] ∷ []
  at_product _ a b = []

  abbrev pub at_symbol : Way → Symbol → Tree → Tree → List Told
  at_symbol w (Assign s) a b = at_assigning w s
  at_symbol w (Mul p) a b = at_product p a b
  at_symbol w _ a b = []

  -- at an operator
  abbrev pub at_op : Way → Op → Tree → Tree → List Told
  at_op w (Other s) a b = at_symbol w s a b
  at_op w _ a b = []

  abbrev mutual
    pub uses : Way → Tree → List Told
    uses w (Leaf c) = []
    uses w Length = []
    uses w (Var x) = does (scalar_deed w) x ∷ []
    uses w (Index x ts) = does (element_deed w) x ∷ all_uses Asked ts
    uses w (Field t) = uses Asked t
    uses w (Group t) = uses Asked t
    uses w (Call f ts) = does (Calls (count ts)) f ∷ all_uses Given ts
    uses w (Apply f ts) = operand_uses f 0 ts
    uses w (Unary p t) = uses Asked t
    uses w (Pre s t) = uses Changed t
    uses w (Post s t) = uses Changed t
    uses w (Bin op a b) = uses (left_way w op) a ++ (at_op w op a b ++ uses Asked b)
    uses w (Has t x) = uses Asked t ++ does ReadsArray x ∷ []
    uses w (HasList t ts x) = uses Asked t ++ (all_uses Asked ts ++ does ReadsArray x ∷ [])
    uses w (Cond c a b) = uses Asked c ++ (uses Asked a ++ uses Asked b)
    uses w Get = []
    uses w (GetInto v) = uses Changed v
    uses w (GetFrom s) = uses Asked s
    uses w (GetIntoFrom v s) = uses Changed v ++ uses Asked s

    pub all_uses : Way → Trees → List Told
    all_uses w NoTree = []
    all_uses w (Then t ts) = uses w t ++ all_uses w ts

    -- the arguments of a built-in function from a number on
    pub operand_uses : Builtin → ℕ → Trees → List Told
    operand_uses f i NoTree = []
    operand_uses f i (Then t ts) = uses (operand_way f i) t ++ operand_uses f (i + 1) ts

  abbrev pub args_uses : Args → List Told
  args_uses NoArgs = []
  args_uses (Listed ts) = all_uses Asked ts
  args_uses (Enclosed t ts) = uses Asked t ++ all_uses Asked ts

  abbrev pub target_uses : Target → List Told
  target_uses NoTarget = []
  target_uses (Written t) = uses Asked t
  target_uses (Appended t) = uses Asked t

  abbrev pub plain_uses : Plain → List Told
  plain_uses (Eval t) = uses (statement_way t) t
  plain_uses (Put p args target) = args_uses args ++ target_uses target
  plain_uses (Delete x ts) = does Clears x ∷ all_uses Asked ts
  plain_uses (Clear x) = does Clears x ∷ []

  abbrev pub maybe_uses : Way → Option Tree → List Told
  maybe_uses w None = []
  maybe_uses w (Some t) = uses w t

  abbrev pub maybe_plain_uses : Option Plain → List Told
  maybe_plain_uses None = []
  maybe_plain_uses (Some p) = plain_uses p

  abbrev mutual
    pub stmt_uses : Stmt → List Told
    stmt_uses (Block ss) = stmts_uses ss
    stmt_uses Empty = []
    stmt_uses (Simple p) = plain_uses p
    stmt_uses (If c s) = uses Condition c ++ stmt_uses s
    stmt_uses (IfElse c s t) = uses Condition c ++ (stmt_uses s ++ stmt_uses t)
    stmt_uses (While c s) = uses Condition c ++ stmt_uses s
    stmt_uses (Do s c) = stmt_uses s ++ uses Condition c
    stmt_uses (For i c p s) = maybe_plain_uses i ++ (maybe_uses Condition c ++ (maybe_plain_uses p ++ stmt_uses s))
    stmt_uses (ForIn k x s) = does Changes k ∷ (does ReadsArray x ∷ stmt_uses s)
    stmt_uses (Jumping j) = []
    stmt_uses (Leave l t) = maybe_uses Asked t

    pub stmts_uses : Stmts → List Told
    stmts_uses NoStmt = []
    stmts_uses (And s ss) = stmt_uses s ++ stmts_uses ss

  abbrev pub pattern_uses : Pattern → List Told
  pattern_uses (One t) = uses Asked t
  pattern_uses (Between t u) = uses Asked t ++ uses Asked u

abbrev pub parameter_uses : List ℕ → List (List ℕ) → List Told
parameter_uses f [] = []
parameter_uses f (x ∷ xs) = does (Some f) Takes x ∷ parameter_uses f xs

abbrev pub item_uses : Item → List Told
item_uses (Function f xs ss) = does None Defines f ∷ (parameter_uses f xs ++ stmts_uses (Some f) ss)
item_uses (Begin ss) = stmts_uses None ss
item_uses (End ss) = stmts_uses None ss
item_uses (Always ss) = stmts_uses None ss
item_uses (When p ss) = pattern_uses None p ++ stmts_uses None ss
item_uses (Lone p) = pattern_uses None p
item_uses Nothing = []

abbrev pub script_uses : List Item → List Told
script_uses [] = []
script_uses (i ∷ is) = item_uses i ++ script_uses is
