-- Reading statements from the front of the tokens.
use Rattle.std.specs.Prelude.{ℕ, zero, suc, List, ◌∷◌, length, Option, Some, None, Result, Ok, Err, Bool, true, false, if◌then◌else◌}
use Rattle.awk_grammar.specs.Token.{Greater, Compare, IfWord, ElseWord, WhileWord, ForWord, DoWord, BreakWord, ContinueWord, NextWord, NextFileWord, ExitWord, ReturnWord, DeleteWord, PrintWord, PrintfWord, Token, Lit, Name, FuncName, Word, GetlineWord, InWord, Dollar, Open, Close, OpenBracket, OpenBrace, CloseBrace, Comma, Semicolon, SignMark, NotMark, StepMark, Infix, Append, Key}
use Rattle.awk_grammar.specs.Reading.{Fault, Syntax, TooDeep, ◌>>=◌, Reader, close_at, bracket_at, name_at, list_at, expr_at}
use Rattle.awk_grammar.specs.Tree.{Whole, AfterCompare}
use Rattle.awk_grammar.specs.Trees.{Tree, Trees, Printing, Print, Printf, Args, NoArgs, Listed, Enclosed, Target, NoTarget, Written, Appended, Plain, Eval, Put, Delete, Clear, Jump, Break, Continue, Next, NextFile, Leaving, Exit, Return, Stmt, Block, Empty, Simple, If, IfElse, While, Do, For, ForIn, Jumping, Leave, Stmts, NoStmt, And}

abbrev pub Read : Type 0 → Type 0
Read A = Result (A × List Token) Fault

-- ---- single tokens

abbrev pub open_here : List Token → Result (List Token) Fault
open_here (Open ∷ ts) = Ok ts
open_here _ = Err Syntax

abbrev pub comma_here : List Token → Result (List Token) Fault
comma_here (Comma ∷ ts) = Ok ts
comma_here _ = Err Syntax

abbrev pub semicolon_at : List Token → Result (List Token) Fault
semicolon_at (Semicolon ∷ ts) = Ok ts
semicolon_at _ = Err Syntax

abbrev pub while_at : List Token → Result (List Token) Fault
while_at (Key WhileWord ∷ ts) = Ok ts
while_at _ = Err Syntax

abbrev pub else_at : List Token → Option (List Token)
else_at (Key ElseWord ∷ ts) = Some ts
else_at _ = None

abbrev pub brace_at : List Token → Option (List Token)
brace_at (CloseBrace ∷ ts) = Some ts
brace_at _ = None

abbrev pub is_in : List Token → Bool
is_in (InWord ∷ ts) = true
is_in _ = false

-- whether an expression may begin here
abbrev pub starts_expr : List Token → Bool
starts_expr (Lit c ∷ ts) = true
starts_expr (Name n ∷ ts) = true
starts_expr (FuncName n ∷ ts) = true
starts_expr (Word f ∷ ts) = true
starts_expr (GetlineWord ∷ ts) = true
starts_expr (Dollar ∷ ts) = true
starts_expr (Open ∷ ts) = true
starts_expr (SignMark s ∷ ts) = true
starts_expr (NotMark ∷ ts) = true
starts_expr (StepMark s ∷ ts) = true
starts_expr _ = false

abbrev pub starts_plain : List Token → Bool
starts_plain (Key PrintWord ∷ ts) = true
starts_plain (Key PrintfWord ∷ ts) = true
starts_plain (Key DeleteWord ∷ ts) = true
starts_plain ts = starts_expr ts

-- ---- print

-- two or more expressions in parentheses, not followed by `in`; the form without parentheses where there are none
abbrev pub enclosed_at : Reader → List Token → Read (Tree × Trees)
enclosed_at expr ts = open_here ts >>= λ us. expr true Whole us >>= λ x. comma_here x.1 >>= λ vs. list_at expr true vs >>= λ y. close_at y.1
    >>= λ ws. if is_in ws then Err Syntax else Ok ((x.0, y.0), ws)

abbrev pub listed_at : Reader → List Token → Read Args
listed_at expr ts = list_at expr false ts >>= λ x. Ok (Listed x.0, x.1)

abbrev pub args_by : Reader → List Token → Read (Tree × Trees) → Read Args
args_by expr ts (Ok x) = Ok (Enclosed x.0.0 x.0.1, x.1)
args_by expr ts (Err Syntax) = listed_at expr ts
args_by expr ts (Err TooDeep) = Err TooDeep

abbrev pub no_args : Printing → List Token → Read Args
no_args Print ts = Ok (NoArgs, ts)
no_args Printf ts = Err Syntax

abbrev pub args_at : Reader → Printing → List Token → Read Args
args_at expr p ts = if starts_expr ts then args_by expr ts (enclosed_at expr ts) else no_args p ts

abbrev pub target_at : Reader → List Token → Read Target
target_at expr (Infix (Compare Greater) ∷ ts) = expr true AfterCompare ts >>= λ x. Ok (Written x.0, x.1)
target_at expr (Append ∷ ts) = expr true AfterCompare ts >>= λ x. Ok (Appended x.0, x.1)
target_at expr ts = Ok (NoTarget, ts)

abbrev pub put_at : Reader → Printing → List Token → Read Plain
put_at expr p ts = args_at expr p ts >>= λ x. target_at expr x.1 >>= λ y. Ok (Put p x.0 y.0, y.1)

-- without subscripts all elements are deleted
abbrev pub delete_by : Reader → List ℕ → List Token → Read Plain
delete_by expr n (OpenBracket ∷ ts) = list_at expr true ts >>= λ x. bracket_at x.1 >>= λ us. Ok (Delete n x.0, us)
delete_by expr n ts = Ok (Clear n, ts)

abbrev pub delete_at : Reader → List Token → Read Plain
delete_at expr ts = name_at ts >>= λ n. delete_by expr n.0 n.1

abbrev pub eval_at : Reader → List Token → Read Plain
eval_at expr ts = expr true Whole ts >>= λ x. Ok (Eval x.0, x.1)

abbrev pub plain_at : Reader → List Token → Read Plain
plain_at expr (Key PrintWord ∷ ts) = put_at expr Print ts
plain_at expr (Key PrintfWord ∷ ts) = put_at expr Printf ts
plain_at expr (Key DeleteWord ∷ ts) = delete_at expr ts
plain_at expr ts = eval_at expr ts

abbrev pub maybe_at : Reader → List Token → Read (Option Tree)
maybe_at expr ts = if starts_expr ts then (expr true Whole ts >>= λ x. Ok (Some x.0, x.1)) else Ok (None, ts)

abbrev pub maybe_plain_at : Reader → List Token → Read (Option Plain)
maybe_plain_at expr ts = if starts_plain ts then (plain_at expr ts >>= λ x. Ok (Some x.0, x.1)) else Ok (None, ts)

-- ---- statements

abbrev pub StmtReader : Type 0
StmtReader = List Token → Read Stmt

-- statements up to a closing brace, at most w
abbrev pub stmts_by : StmtReader → (List Token → Read Stmts) → List Token → Option (List Token) → Read Stmts
stmts_by stmt go ts (Some us) = Ok (NoStmt, us)
stmts_by stmt go ts None = stmt ts >>= λ x. go x.1 >>= λ y. Ok (And x.0 y.0, y.1)

abbrev pub stmts_at : StmtReader → ℕ → List Token → Read Stmts
stmts_at stmt zero ts = Err Syntax
stmts_at stmt (suc w) ts = stmts_by stmt (stmts_at stmt w) ts (brace_at ts)

-- a condition in parentheses
abbrev pub condition_at : Reader → List Token → Read Tree
condition_at expr ts = open_here ts >>= λ us. expr true Whole us >>= λ x. close_at x.1 >>= λ vs. Ok (x.0, vs)

abbrev pub else_by : StmtReader → Tree → Stmt → List Token → Option (List Token) → Read Stmt
else_by stmt c s ts None = Ok (If c s, ts)
else_by stmt c s ts (Some us) = stmt us >>= λ y. Ok (IfElse c s y.0, y.1)

abbrev pub if_at : Reader → StmtReader → List Token → Read Stmt
if_at expr stmt ts = condition_at expr ts >>= λ c. stmt c.1 >>= λ x. else_by stmt c.0 x.0 x.1 (else_at x.1)

abbrev pub loop_at : Reader → StmtReader → List Token → Read Stmt
loop_at expr stmt ts = condition_at expr ts >>= λ c. stmt c.1 >>= λ x. Ok (While c.0 x.0, x.1)

abbrev pub do_at : Reader → StmtReader → List Token → Read Stmt
do_at expr stmt ts = stmt ts >>= λ x. while_at x.1 >>= λ us. condition_at expr us >>= λ c. Ok (Do x.0 c.0, c.1)

-- `name in name )`
abbrev pub keys_at : List Token → Option (List ℕ × List ℕ × List Token)
keys_at (Name k ∷ (InWord ∷ (Name a ∷ (Close ∷ ts)))) = Some (k, a, ts)
keys_at _ = None

abbrev pub for_by : Reader → StmtReader → List Token → Option (List ℕ × List ℕ × List Token) → Read Stmt
for_by expr stmt ts (Some o) = stmt o.2 >>= λ x. Ok (ForIn o.0 o.1 x.0, x.1)
for_by expr stmt ts None = maybe_plain_at expr ts >>= λ i. semicolon_at i.1 >>= λ us. maybe_at expr us >>= λ c. semicolon_at c.1
    >>= λ vs. maybe_plain_at expr vs >>= λ p. close_at p.1 >>= λ ws. stmt ws >>= λ x. Ok (For i.0 c.0 p.0 x.0, x.1)

abbrev pub for_at : Reader → StmtReader → List Token → Read Stmt
for_at expr stmt ts = open_here ts >>= λ us. for_by expr stmt us (keys_at us)

abbrev pub leave_at : Reader → Leaving → List Token → Read Stmt
leave_at expr l ts = maybe_at expr ts >>= λ x. semicolon_at x.1 >>= λ us. Ok (Leave l x.0, us)

abbrev pub jump_at : Jump → List Token → Read Stmt
jump_at j ts = semicolon_at ts >>= λ us. Ok (Jumping j, us)

abbrev pub simple_at : Reader → List Token → Read Stmt
simple_at expr ts = plain_at expr ts >>= λ x. semicolon_at x.1 >>= λ us. Ok (Simple x.0, us)

abbrev pub block_at : StmtReader → List Token → Read Stmt
block_at stmt ts = stmts_at stmt (length ts) ts >>= λ x. Ok (Block x.0, x.1)

abbrev pub one_at : Reader → StmtReader → List Token → Read Stmt
one_at expr stmt (OpenBrace ∷ ts) = block_at stmt ts
one_at expr stmt (Semicolon ∷ ts) = Ok (Empty, ts)
one_at expr stmt (Key IfWord ∷ ts) = if_at expr stmt ts
one_at expr stmt (Key WhileWord ∷ ts) = loop_at expr stmt ts
one_at expr stmt (Key DoWord ∷ ts) = do_at expr stmt ts
one_at expr stmt (Key ForWord ∷ ts) = for_at expr stmt ts
one_at expr stmt (Key BreakWord ∷ ts) = jump_at Break ts
one_at expr stmt (Key ContinueWord ∷ ts) = jump_at Continue ts
one_at expr stmt (Key NextWord ∷ ts) = jump_at Next ts
one_at expr stmt (Key NextFileWord ∷ ts) = jump_at NextFile ts
one_at expr stmt (Key ExitWord ∷ ts) = leave_at expr Exit ts
one_at expr stmt (Key ReturnWord ∷ ts) = leave_at expr Return ts
one_at expr stmt ts = simple_at expr ts

unfoldable pub stmt_at : ℕ → List Token → Read Stmt
stmt_at zero ts = Err TooDeep
stmt_at (suc d) ts = one_at (expr_at d) (stmt_at d) ts
