-- What a script stores into its scalars: each place where it does, and what is stored there (POSIX.1-2017 awk, "Expressions in awk", "User-Defined Functions").
use Rattle.std.specs.Prelude.{ℕ, suc, Bool, true, false, ◌&&◌, List, [], ◌∷◌, ◌++◌, Option, Some, None}
use Rattle.awk_tokens.specs.declared.reserved_words.Builtin.{Builtin}
use Rattle.awk_tokens.specs.declared.reserved_words.Builtin.TheVariants as builtin
use Rattle.awk_grammar.specs.Token.{Assign, Assigning, Ere, Number, Quoted, Set}
use Rattle.awk_grammar.specs.Tree.{suits}
use Rattle.awk_grammar.specs.Trees.{Bin, Call, Cond, Field, Get, GetFrom, GetInto, GetIntoFrom, Group, Has, HasList, Index, Join, Leaf, Length, NoTree, Other, Post, Pre, Then, Tree, Trees, Unary, Var, And, Clear, Delete, Eval, NoStmt, Plain, Put, Stmt, Stmts, Item, Pattern}
use Rattle.awk_grammar.specs.Trees as tree
use Rattle.sem_scripts.specs.Items.{top}
use Rattle.sem_scripts.specs.Names.{Function, Resolved, Scope, Variable, function_number, functions_length, variable_of}
use Rattle.sem_scripts.specs.Names as names
use Rattle.sem_scripts.specs.Statements.{operands_of, scope_in, with_target}

-- a scalar of a script: a global by its number, a parameter by its function's number and its place; or a special variable
pub data Scalar : Type 0 where
  Global : ℕ → Scalar
  Parameter : (function : ℕ) → (place : ℕ) → Scalar
  Special : Scalar

pub data Stored : Type 0 where
  -- the value of an expression that is no name, by `=` or as an argument
  Value : Tree → Stored
  -- that of a name
  Copy : Scalar → Stored
  -- the result of `+=` and its like, of `++` and `--`
  Result : Stored
  -- a text: what `getline` reads, what `sub` and `gsub` make, a key of `for (k in a)`
  Text : Stored

pub record Store : Type 0 where
  pub scalar : Scalar
  pub stored : Stored

-- What is a number, whatever the names and fields in it hold.

-- functions that count, measure or tell how it went
abbrev pub answers_number : Builtin → Bool
answers_number builtin.Length = true
answers_number builtin.Index = true
answers_number builtin.Split = true
answers_number builtin.Sub = true
answers_number builtin.Gsub = true
answers_number builtin.Match = true
answers_number builtin.Int = true
answers_number builtin.Close = true
answers_number builtin.Fflush = true
answers_number builtin.Substr = false
answers_number builtin.Sprintf = false
answers_number builtin.ToLower = false
answers_number builtin.ToUpper = false

-- Number constants, results of arithmetic, of comparisons, of matches and of `! && || in`, and of `getline`. What a name, an element or a field holds
-- may be a text, and so may what a function of the script returns, and what is chosen by `? :`.
abbrev pub gives_number : Tree → Bool
gives_number (Leaf (Number text)) = true
gives_number (Leaf (Quoted text)) = false
gives_number (Leaf (Ere text)) = true
gives_number Length = true
gives_number (Var x) = false
gives_number (Index x ts) = false
gives_number (Field t) = false
gives_number (Group t) = gives_number t
gives_number (Call f ts) = false
gives_number (tree.Apply f ts) = answers_number f && suits f ts
gives_number (Unary p t) = true
gives_number (Pre s t) = true
gives_number (Post s t) = true
gives_number (Bin Join a b) = false
gives_number (Bin (tree.Add s) a b) = true
gives_number (Bin (Other (Assign Set)) a b) = gives_number b
gives_number (Bin (Other s) a b) = true
gives_number (Has t x) = true
gives_number (HasList t ts x) = true
gives_number (Cond c a b) = false
gives_number Get = true
gives_number (GetInto v) = true
gives_number (GetFrom s) = true
gives_number (GetIntoFrom v s) = true

abbrev pub is_number : Stored → Bool
is_number (Value t) = gives_number t
is_number (Copy x) = false
is_number Result = true
is_number Text = false

-- What is stored where, in the order of the script's text.

-- what a name stands for that is used in the function of this number
abbrev pub scalar_in : ℕ → Variable → Scalar
scalar_in g (names.Global i) = Global i
scalar_in g (names.Parameter i) = Parameter g i
scalar_in g (names.Reserved s) = Special

-- in the g-th function, or in none
module _ (g : ℕ) (scope : Scope) where
  abbrev pub value_of : Tree → Stored
  value_of (Var x) = Copy (scalar_in g (variable_of scope x))
  value_of (Group t) = value_of t
  value_of t = Value t

  abbrev pub assigned : Assigning → Tree → Stored
  assigned Set t = value_of t
  assigned a t = Result

  -- what is given for the parameters of a function from the i-th on
  abbrev pub given : (function : ℕ) → (i : ℕ) → Trees → List Store
  given f i NoTree = []
  given f i (Then t ts) = record { scalar = Parameter f i; stored = value_of t } ∷ given f (suc i) ts

  -- into what stands there, if it is a name: an element and a field are no scalars
  abbrev pub into : Tree → Stored → List Store
  into (Var x) w = record { scalar = scalar_in g (variable_of scope x); stored = w } ∷ []
  into t w = []

  -- `sub` and `gsub` store into their third operand
  abbrev pub replaced : Trees → List Store
  replaced (Then e (Then r (Then t ts))) = into t Text
  replaced ts = []

  abbrev pub applied : Builtin → Trees → List Store
  applied builtin.Sub ts = replaced ts
  applied builtin.Gsub ts = replaced ts
  applied f ts = []

  abbrev pub operated : tree.Op → Tree → Tree → List Store
  operated (Other (Assign a)) t u = into t (assigned a u)
  operated op t u = []

  abbrev mutual
    pub stores : Tree → List Store
    stores (Leaf c) = []
    stores Length = []
    stores (Var x) = []
    stores (Index x ts) = all_stores ts
    stores (Field t) = stores t
    stores (Group t) = stores t
    stores (Call f ts) = all_stores ts ++ given (function_number scope.script f) 0 ts
    stores (tree.Apply f ts) = all_stores ts ++ applied f ts
    stores (Unary p t) = stores t
    stores (Pre s t) = stores t ++ into t Result
    stores (Post s t) = stores t ++ into t Result
    stores (Bin op a b) = stores a ++ (stores b ++ operated op a b)
    stores (Has t x) = stores t
    stores (HasList t ts x) = stores t ++ all_stores ts
    stores (Cond c a b) = stores c ++ (stores a ++ stores b)
    stores Get = []
    stores (GetInto v) = stores v ++ into v Text
    stores (GetFrom s) = stores s
    stores (GetIntoFrom v s) = stores v ++ (stores s ++ into v Text)

    pub all_stores : Trees → List Store
    all_stores NoTree = []
    all_stores (Then t ts) = stores t ++ all_stores ts

  abbrev pub plain_stores : Plain → List Store
  plain_stores (Eval t) = stores t
  plain_stores (Put p args target) = all_stores (with_target (operands_of args) target)
  plain_stores (Delete a ts) = all_stores ts
  plain_stores (Clear a) = []

  abbrev pub maybe_stores : Option Tree → List Store
  maybe_stores None = []
  maybe_stores (Some t) = stores t

  abbrev pub maybe_plain_stores : Option Plain → List Store
  maybe_plain_stores None = []
  maybe_plain_stores (Some p) = plain_stores p

  abbrev mutual
    pub stmt_stores : Stmt → List Store
    stmt_stores (tree.Block ss) = stmts_stores ss
    stmt_stores tree.Empty = []
    stmt_stores (tree.Simple p) = plain_stores p
    stmt_stores (tree.If c s) = stores c ++ stmt_stores s
    stmt_stores (tree.IfElse c s t) = stores c ++ (stmt_stores s ++ stmt_stores t)
    stmt_stores (tree.While c s) = stores c ++ stmt_stores s
    stmt_stores (tree.Do s c) = stmt_stores s ++ stores c
    stmt_stores (tree.For i c p s) = maybe_plain_stores i ++ (maybe_stores c ++ (maybe_plain_stores p ++ stmt_stores s))
    stmt_stores (tree.ForIn k a s) = into (Var k) Text ++ stmt_stores s
    stmt_stores (tree.Jumping j) = []
    stmt_stores (tree.Leave l t) = maybe_stores t

    pub stmts_stores : Stmts → List Store
    stmts_stores NoStmt = []
    stmts_stores (And s ss) = stmt_stores s ++ stmts_stores ss

  abbrev pub pattern_stores : Pattern → List Store
  pattern_stores (tree.One t) = stores t
  pattern_stores (tree.Between t u) = stores t ++ stores u

  abbrev pub item_stores : Item → List Store
  item_stores (tree.Function f ps ss) = []
  item_stores (tree.Begin ss) = stmts_stores ss
  item_stores (tree.End ss) = stmts_stores ss
  item_stores (tree.Always ss) = stmts_stores ss
  item_stores (tree.When p ss) = pattern_stores p ++ stmts_stores ss
  item_stores (tree.Lone p) = pattern_stores p
  item_stores tree.Nothing = []

  abbrev pub items_stores : List Item → List Store
  items_stores [] = []
  items_stores (i ∷ is) = item_stores i ++ items_stores is

-- the functions from the g-th on
abbrev pub functions_stores : Resolved → ℕ → List Function → List Store
functions_stores script g [] = []
functions_stores script g (f ∷ fs) = stmts_stores g (scope_in script f) f.body ++ functions_stores script (suc g) fs

-- all of them
abbrev pub script_stores : Resolved → List Store
script_stores script = functions_stores script 0 script.functions ++ items_stores (functions_length script.functions) (top script) script.items
