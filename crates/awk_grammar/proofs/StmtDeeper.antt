-- With more depth allowed, only what was too deep is read otherwise: statements and scripts.
use Rattle.std.proofs.Common.{◌≡◌, ℕ, zero, suc, ◌+◌, ◌≤◌, max, Bool, true, false, List, [], ◌∷◌, length, Option, Some, None, Result, Ok, Err, inl, inr, refl, arith}
use Rattle.std.specs.Prelude.{if◌then◌else◌}
use Rattle.awk_grammar.specs.Token.{Greater, Compare, BeginWord, EndWord, FunctionWord, IfWord, WhileWord, ForWord, DoWord, BreakWord, ContinueWord, NextWord, NextFileWord, ExitWord, ReturnWord, DeleteWord, PrintWord, PrintfWord, Token, Name, OpenBracket, OpenBrace, Semicolon, Infix, Append, Key}
use Rattle.awk_grammar.specs.Reading.{Fault, Syntax, TooDeep, ◌>>=◌, Reader, close_at, bracket_at, name_at, comma_at, list_at, expr_at}
use Rattle.awk_grammar.specs.Tree.{Whole, AfterCompare}
use Rattle.awk_grammar.specs.Trees.{Tree, Trees, Printing, Print, Printf, Listed, Written, Appended, Eval, Put, Delete, Leaving, Exit, Return, Stmt, Block, Simple, IfElse, While, Do, For, ForIn, Leave, And, Pattern, Between, Item, Function, Begin, End, Always, When, script_depth}
use Rattle.awk_grammar.specs.ReadStmt.{Read, open_here, comma_here, semicolon_at, while_at, else_at, brace_at, is_in, starts_expr, starts_plain, enclosed_at, listed_at, args_by, no_args, args_at, target_at, put_at, delete_by, delete_at, eval_at, plain_at, maybe_at, maybe_plain_at, StmtReader, stmts_by, stmts_at, condition_at, else_by, if_at, loop_at, do_at, keys_at, for_by, for_at, leave_at, simple_at, one_at, stmt_at}
use Rattle.awk_grammar.specs.Item.{IsScript, print_script}
use Rattle.awk_grammar.specs.ReadItem.{body_at, params_at, function_by, function_at, pattern_by, pattern_at, action_at, rule_at, item_at, items_at, script_at}
use Rattle.awk_grammar.proofs.Deeper.{Below, AreBelow, bind_below, then_below, list_below, expr_below}
use Rattle.awk_grammar.proofs.ItemComplete.{script_again}

chosen_below : {A : Type 0} (b : Bool) (x y z : Result A Fault) → Below x y → Below (if b then x else z) (if b then y else z)
chosen_below true x y z h = h
chosen_below false x y z h = inr refl

abbrev StmtsBelow : StmtReader → StmtReader → Type 0
StmtsBelow s t = (ts : List Token) → Below (s ts) (t ts)

enclosed_below : (e f : Reader) → AreBelow e f → (ts : List Token) → Below (enclosed_at e ts) (enclosed_at f ts)
enclosed_below e f h ts = bind_below (open_here ts) (open_here ts) (λ us. e true Whole us >>= λ x. comma_here x.1 >>= λ vs. list_at e true vs >>= λ y. close_at y.1 >>= λ ws. if is_in ws then Err Syntax else Ok ((x.0, y.0), ws)) (λ us. f true Whole us >>= λ x. comma_here x.1 >>= λ vs. list_at f true vs >>= λ y. close_at y.1 >>= λ ws. if is_in ws then Err Syntax else Ok ((x.0, y.0), ws)) (inr refl) (λ us. bind_below (e true Whole us) (f true Whole us) (λ x. comma_here x.1 >>= λ vs. list_at e true vs >>= λ y. close_at y.1 >>= λ ws. if is_in ws then Err Syntax else Ok ((x.0, y.0), ws)) (λ x. comma_here x.1 >>= λ vs. list_at f true vs >>= λ y. close_at y.1 >>= λ ws. if is_in ws then Err Syntax else Ok ((x.0, y.0), ws)) (h true Whole us) (λ x. bind_below (comma_here x.1) (comma_here x.1) (λ vs. list_at e true vs >>= λ y. close_at y.1 >>= λ ws. if is_in ws then Err Syntax else Ok ((x.0, y.0), ws)) (λ vs. list_at f true vs >>= λ y. close_at y.1 >>= λ ws. if is_in ws then Err Syntax else Ok ((x.0, y.0), ws)) (inr refl) (λ vs. then_below (list_at e true vs) (list_at f true vs) (λ y. close_at y.1 >>= λ ws. if is_in ws then Err Syntax else Ok ((x.0, y.0), ws)) (list_below e f h true vs))))

listed_below : (e f : Reader) → AreBelow e f → (ts : List Token) → Below (listed_at e ts) (listed_at f ts)
listed_below e f h ts = then_below (list_at e false ts) (list_at f false ts) (λ x. Ok (Listed x.0, x.1)) (list_below e f h false ts)

args_by_below : (e f : Reader) → AreBelow e f → (ts : List Token) (r s : Read (Tree × Trees)) → Below r s → Below (args_by e ts r) (args_by f ts s)
args_by_below e f h ts r s (inl p) = rw p (inl refl)
args_by_below e f h ts (Ok x) s (inr p) = rw (← p) (inr refl)
args_by_below e f h ts (Err Syntax) s (inr p) = rw (← p) (listed_below e f h ts)
args_by_below e f h ts (Err TooDeep) s (inr p) = rw (← p) (inr refl)

args_below : (e f : Reader) → AreBelow e f → (p : Printing) (ts : List Token) → Below (args_at e p ts) (args_at f p ts)
args_below e f h p ts = chosen_below (starts_expr ts) (args_by e ts (enclosed_at e ts)) (args_by f ts (enclosed_at f ts)) (no_args p ts) (args_by_below e f h ts (enclosed_at e ts) (enclosed_at f ts) (enclosed_below e f h ts))

target_below : (e f : Reader) → AreBelow e f → (ts : List Token) → Below (target_at e ts) (target_at f ts)
target_below e f h (Infix (Compare Greater) ∷ ts) = then_below (e true AfterCompare ts) (f true AfterCompare ts) (λ x. Ok (Written x.0, x.1)) (h true AfterCompare ts)
target_below e f h (Append ∷ ts) = then_below (e true AfterCompare ts) (f true AfterCompare ts) (λ x. Ok (Appended x.0, x.1)) (h true AfterCompare ts)
target_below e f h ts = inr refl

put_below : (e f : Reader) → AreBelow e f → (p : Printing) (ts : List Token) → Below (put_at e p ts) (put_at f p ts)
put_below e f h p ts = bind_below (args_at e p ts) (args_at f p ts) (λ x. target_at e x.1 >>= λ y. Ok (Put p x.0 y.0, y.1)) (λ x. target_at f x.1 >>= λ y. Ok (Put p x.0 y.0, y.1)) (args_below e f h p ts) (λ x. then_below (target_at e x.1) (target_at f x.1) (λ y. Ok (Put p x.0 y.0, y.1)) (target_below e f h x.1))

delete_by_below : (e f : Reader) → AreBelow e f → (n : List ℕ) (ts : List Token) → Below (delete_by e n ts) (delete_by f n ts)
delete_by_below e f h n (OpenBracket ∷ ts) = then_below (list_at e true ts) (list_at f true ts) (λ x. bracket_at x.1 >>= λ us. Ok (Delete n x.0, us)) (list_below e f h true ts)
delete_by_below e f h n ts = inr refl

delete_below : (e f : Reader) → AreBelow e f → (ts : List Token) → Below (delete_at e ts) (delete_at f ts)
delete_below e f h ts = bind_below (name_at ts) (name_at ts) (λ n. delete_by e n.0 n.1) (λ n. delete_by f n.0 n.1) (inr refl) (λ n. delete_by_below e f h n.0 n.1)

eval_below : (e f : Reader) → AreBelow e f → (ts : List Token) → Below (eval_at e ts) (eval_at f ts)
eval_below e f h ts = then_below (e true Whole ts) (f true Whole ts) (λ x. Ok (Eval x.0, x.1)) (h true Whole ts)

plain_below : (e f : Reader) → AreBelow e f → (ts : List Token) → Below (plain_at e ts) (plain_at f ts)
plain_below e f h (Key PrintWord ∷ ts) = put_below e f h Print ts
plain_below e f h (Key PrintfWord ∷ ts) = put_below e f h Printf ts
plain_below e f h (Key DeleteWord ∷ ts) = delete_below e f h ts
plain_below e f h ts = eval_below e f h ts

maybe_below : (e f : Reader) → AreBelow e f → (ts : List Token) → Below (maybe_at e ts) (maybe_at f ts)
maybe_below e f h ts = chosen_below (starts_expr ts) (e true Whole ts >>= λ x. Ok (Some x.0, x.1)) (f true Whole ts >>= λ x. Ok (Some x.0, x.1)) (Ok (None, ts)) (then_below (e true Whole ts) (f true Whole ts) (λ x. Ok (Some x.0, x.1)) (h true Whole ts))

maybe_plain_below : (e f : Reader) → AreBelow e f → (ts : List Token) → Below (maybe_plain_at e ts) (maybe_plain_at f ts)
maybe_plain_below e f h ts = chosen_below (starts_plain ts) (plain_at e ts >>= λ x. Ok (Some x.0, x.1)) (plain_at f ts >>= λ x. Ok (Some x.0, x.1)) (Ok (None, ts)) (then_below (plain_at e ts) (plain_at f ts) (λ x. Ok (Some x.0, x.1)) (plain_below e f h ts))

stmts_below : (s t : StmtReader) → StmtsBelow s t → (w : ℕ) (ts : List Token) → Below (stmts_at s w ts) (stmts_at t w ts)
stmts_below s t k zero ts = inr refl
stmts_below s t k (suc w) ts = by (brace_at ts) (stmts_below s t k w)
  where
    by : (o : Option (List Token)) → ((us : List Token) → Below (stmts_at s w us) (stmts_at t w us)) → Below (stmts_by s (stmts_at s w) ts o) (stmts_by t (stmts_at t w) ts o)
    by (Some us) go = inr refl
    by None go = bind_below (s ts) (t ts) (λ x. stmts_at s w x.1 >>= λ y. Ok (And x.0 y.0, y.1)) (λ x. stmts_at t w x.1 >>= λ y. Ok (And x.0 y.0, y.1)) (k ts) (λ x. then_below (stmts_at s w x.1) (stmts_at t w x.1) (λ y. Ok (And x.0 y.0, y.1)) (go x.1))

condition_below : (e f : Reader) → AreBelow e f → (ts : List Token) → Below (condition_at e ts) (condition_at f ts)
condition_below e f h ts = bind_below (open_here ts) (open_here ts) (λ us. e true Whole us >>= λ x. close_at x.1 >>= λ vs. Ok (x.0, vs)) (λ us. f true Whole us >>= λ x. close_at x.1 >>= λ vs. Ok (x.0, vs)) (inr refl) (λ us. then_below (e true Whole us) (f true Whole us) (λ x. close_at x.1 >>= λ vs. Ok (x.0, vs)) (h true Whole us))

else_below : (s t : StmtReader) → StmtsBelow s t → (c : Tree) (x : Stmt) (ts : List Token) (o : Option (List Token)) → Below (else_by s c x ts o) (else_by t c x ts o)
else_below s t k c x ts None = inr refl
else_below s t k c x ts (Some us) = then_below (s us) (t us) (λ y. Ok (IfElse c x y.0, y.1)) (k us)

if_below : (e f : Reader) → AreBelow e f → (s t : StmtReader) → StmtsBelow s t → (ts : List Token) → Below (if_at e s ts) (if_at f t ts)
if_below e f h s t k ts = bind_below (condition_at e ts) (condition_at f ts) (λ c. s c.1 >>= λ x. else_by s c.0 x.0 x.1 (else_at x.1)) (λ c. t c.1 >>= λ x. else_by t c.0 x.0 x.1 (else_at x.1)) (condition_below e f h ts) (λ c. bind_below (s c.1) (t c.1) (λ x. else_by s c.0 x.0 x.1 (else_at x.1)) (λ x. else_by t c.0 x.0 x.1 (else_at x.1)) (k c.1) (λ x. else_below s t k c.0 x.0 x.1 (else_at x.1)))

loop_below : (e f : Reader) → AreBelow e f → (s t : StmtReader) → StmtsBelow s t → (ts : List Token) → Below (loop_at e s ts) (loop_at f t ts)
loop_below e f h s t k ts = bind_below (condition_at e ts) (condition_at f ts) (λ c. s c.1 >>= λ x. Ok (While c.0 x.0, x.1)) (λ c. t c.1 >>= λ x. Ok (While c.0 x.0, x.1)) (condition_below e f h ts) (λ c. then_below (s c.1) (t c.1) (λ x. Ok (While c.0 x.0, x.1)) (k c.1))

do_below : (e f : Reader) → AreBelow e f → (s t : StmtReader) → StmtsBelow s t → (ts : List Token) → Below (do_at e s ts) (do_at f t ts)
do_below e f h s t k ts = bind_below (s ts) (t ts) (λ x. while_at x.1 >>= λ us. condition_at e us >>= λ c. Ok (Do x.0 c.0, c.1)) (λ x. while_at x.1 >>= λ us. condition_at f us >>= λ c. Ok (Do x.0 c.0, c.1)) (k ts) (λ x. bind_below (while_at x.1) (while_at x.1) (λ us. condition_at e us >>= λ c. Ok (Do x.0 c.0, c.1)) (λ us. condition_at f us >>= λ c. Ok (Do x.0 c.0, c.1)) (inr refl) (λ us. then_below (condition_at e us) (condition_at f us) (λ c. Ok (Do x.0 c.0, c.1)) (condition_below e f h us)))

for_by_below : (e f : Reader) → AreBelow e f → (s t : StmtReader) → StmtsBelow s t → (ts : List Token) (o : Option (List ℕ × List ℕ × List Token)) → Below (for_by e s ts o) (for_by f t ts o)
for_by_below e f h s t k ts (Some o) = then_below (s o.2) (t o.2) (λ x. Ok (ForIn o.0 o.1 x.0, x.1)) (k o.2)
for_by_below e f h s t k ts None = bind_below (maybe_plain_at e ts) (maybe_plain_at f ts) (λ i. semicolon_at i.1 >>= λ us. maybe_at e us >>= λ c. semicolon_at c.1 >>= λ vs. maybe_plain_at e vs >>= λ p. close_at p.1 >>= λ ws. s ws >>= λ x. Ok (For i.0 c.0 p.0 x.0, x.1)) (λ i. semicolon_at i.1 >>= λ us. maybe_at f us >>= λ c. semicolon_at c.1 >>= λ vs. maybe_plain_at f vs >>= λ p. close_at p.1 >>= λ ws. t ws >>= λ x. Ok (For i.0 c.0 p.0 x.0, x.1)) (maybe_plain_below e f h ts) (λ i. bind_below (semicolon_at i.1) (semicolon_at i.1) (λ us. maybe_at e us >>= λ c. semicolon_at c.1 >>= λ vs. maybe_plain_at e vs >>= λ p. close_at p.1 >>= λ ws. s ws >>= λ x. Ok (For i.0 c.0 p.0 x.0, x.1)) (λ us. maybe_at f us >>= λ c. semicolon_at c.1 >>= λ vs. maybe_plain_at f vs >>= λ p. close_at p.1 >>= λ ws. t ws >>= λ x. Ok (For i.0 c.0 p.0 x.0, x.1)) (inr refl) (λ us. bind_below (maybe_at e us) (maybe_at f us) (λ c. semicolon_at c.1 >>= λ vs. maybe_plain_at e vs >>= λ p. close_at p.1 >>= λ ws. s ws >>= λ x. Ok (For i.0 c.0 p.0 x.0, x.1)) (λ c. semicolon_at c.1 >>= λ vs. maybe_plain_at f vs >>= λ p. close_at p.1 >>= λ ws. t ws >>= λ x. Ok (For i.0 c.0 p.0 x.0, x.1)) (maybe_below e f h us) (λ c. bind_below (semicolon_at c.1) (semicolon_at c.1) (λ vs. maybe_plain_at e vs >>= λ p. close_at p.1 >>= λ ws. s ws >>= λ x. Ok (For i.0 c.0 p.0 x.0, x.1)) (λ vs. maybe_plain_at f vs >>= λ p. close_at p.1 >>= λ ws. t ws >>= λ x. Ok (For i.0 c.0 p.0 x.0, x.1)) (inr refl) (λ vs. bind_below (maybe_plain_at e vs) (maybe_plain_at f vs) (λ p. close_at p.1 >>= λ ws. s ws >>= λ x. Ok (For i.0 c.0 p.0 x.0, x.1)) (λ p. close_at p.1 >>= λ ws. t ws >>= λ x. Ok (For i.0 c.0 p.0 x.0, x.1)) (maybe_plain_below e f h vs) (λ p. bind_below (close_at p.1) (close_at p.1) (λ ws. s ws >>= λ x. Ok (For i.0 c.0 p.0 x.0, x.1)) (λ ws. t ws >>= λ x. Ok (For i.0 c.0 p.0 x.0, x.1)) (inr refl) (λ ws. then_below (s ws) (t ws) (λ x. Ok (For i.0 c.0 p.0 x.0, x.1)) (k ws)))))))

for_below : (e f : Reader) → AreBelow e f → (s t : StmtReader) → StmtsBelow s t → (ts : List Token) → Below (for_at e s ts) (for_at f t ts)
for_below e f h s t k ts = bind_below (open_here ts) (open_here ts) (λ us. for_by e s us (keys_at us)) (λ us. for_by f t us (keys_at us)) (inr refl) (λ us. for_by_below e f h s t k us (keys_at us))

leave_below : (e f : Reader) → AreBelow e f → (l : Leaving) (ts : List Token) → Below (leave_at e l ts) (leave_at f l ts)
leave_below e f h l ts = then_below (maybe_at e ts) (maybe_at f ts) (λ x. semicolon_at x.1 >>= λ us. Ok (Leave l x.0, us)) (maybe_below e f h ts)

simple_below : (e f : Reader) → AreBelow e f → (ts : List Token) → Below (simple_at e ts) (simple_at f ts)
simple_below e f h ts = then_below (plain_at e ts) (plain_at f ts) (λ x. semicolon_at x.1 >>= λ us. Ok (Simple x.0, us)) (plain_below e f h ts)

one_below : (e f : Reader) → AreBelow e f → (s t : StmtReader) → StmtsBelow s t → (ts : List Token) → Below (one_at e s ts) (one_at f t ts)
one_below e f h s t k (OpenBrace ∷ ts) = then_below (stmts_at s (length ts) ts) (stmts_at t (length ts) ts) (λ x. Ok (Block x.0, x.1)) (stmts_below s t k (length ts) ts)
one_below e f h s t k (Semicolon ∷ ts) = inr refl
one_below e f h s t k (Key IfWord ∷ ts) = if_below e f h s t k ts
one_below e f h s t k (Key WhileWord ∷ ts) = loop_below e f h s t k ts
one_below e f h s t k (Key DoWord ∷ ts) = do_below e f h s t k ts
one_below e f h s t k (Key ForWord ∷ ts) = for_below e f h s t k ts
one_below e f h s t k (Key BreakWord ∷ ts) = inr refl
one_below e f h s t k (Key ContinueWord ∷ ts) = inr refl
one_below e f h s t k (Key NextWord ∷ ts) = inr refl
one_below e f h s t k (Key NextFileWord ∷ ts) = inr refl
one_below e f h s t k (Key ExitWord ∷ ts) = leave_below e f h Exit ts
one_below e f h s t k (Key ReturnWord ∷ ts) = leave_below e f h Return ts
one_below e f h s t k ts = simple_below e f h ts

stmt_below : (c d : ℕ) → c ≤ d → StmtsBelow (stmt_at c) (stmt_at d)
unfolding stmt_at
stmt_below zero d le ts = inl refl
stmt_below (suc c) zero le ts = absurd (omega arith)
stmt_below (suc c) (suc d) le ts = one_below (expr_at c) (expr_at d) (expr_below c d (omega arith)) (stmt_at c) (stmt_at d) (stmt_below c d (omega arith)) ts

-- ---- items

body_below : (c d : ℕ) → c ≤ d → (ts : List Token) → Below (body_at c ts) (body_at d ts)
body_below c d le (OpenBrace ∷ ts) = stmts_below (stmt_at c) (stmt_at d) (stmt_below c d le) (length ts) ts
body_below c d le _ = inr refl

function_below : (c d : ℕ) → c ≤ d → (n : List ℕ) (ts : List Token) → Below (function_by c n ts) (function_by d n ts)
function_below c d le n ts = bind_below (open_here ts) (open_here ts) (λ us. params_at us >>= λ ps. close_at ps.1 >>= λ vs. body_at c vs >>= λ x. Ok (Function n ps.0 x.0, x.1)) (λ us. params_at us >>= λ ps. close_at ps.1 >>= λ vs. body_at d vs >>= λ x. Ok (Function n ps.0 x.0, x.1)) (inr refl) (λ us. bind_below (params_at us) (params_at us) (λ ps. close_at ps.1 >>= λ vs. body_at c vs >>= λ x. Ok (Function n ps.0 x.0, x.1)) (λ ps. close_at ps.1 >>= λ vs. body_at d vs >>= λ x. Ok (Function n ps.0 x.0, x.1)) (inr refl) (λ ps. bind_below (close_at ps.1) (close_at ps.1) (λ vs. body_at c vs >>= λ x. Ok (Function n ps.0 x.0, x.1)) (λ vs. body_at d vs >>= λ x. Ok (Function n ps.0 x.0, x.1)) (inr refl) (λ vs. then_below (body_at c vs) (body_at d vs) (λ x. Ok (Function n ps.0 x.0, x.1)) (body_below c d le vs))))

function_at_below : (c d : ℕ) → c ≤ d → (ts : List Token) → Below (function_at c ts) (function_at d ts)
function_at_below c d le (Name n ∷ ts) = function_below c d le n ts
function_at_below c d le _ = inr refl

pattern_by_below : (c d : ℕ) → c ≤ d → (t : Tree) (ts : List Token) (o : Option (List Token)) → Below (pattern_by c t ts o) (pattern_by d t ts o)
pattern_by_below c d le t ts None = inr refl
pattern_by_below c d le t ts (Some us) = then_below (expr_at c true Whole us) (expr_at d true Whole us) (λ x. Ok (Between t x.0, x.1)) (expr_below c d le true Whole us)

action_below : (c d : ℕ) → c ≤ d → (p : Pattern) (ts : List Token) → Below (action_at c p ts) (action_at d p ts)
action_below c d le p (Semicolon ∷ ts) = inr refl
action_below c d le p ts = then_below (body_at c ts) (body_at d ts) (λ x. Ok (When p x.0, x.1)) (body_below c d le ts)

pattern_below : (c d : ℕ) → c ≤ d → (ts : List Token) → Below (pattern_at c ts) (pattern_at d ts)
pattern_below c d le ts = bind_below (expr_at c true Whole ts) (expr_at d true Whole ts) (λ x. pattern_by c x.0 x.1 (comma_at x.1)) (λ x. pattern_by d x.0 x.1 (comma_at x.1)) (expr_below c d le true Whole ts) (λ x. pattern_by_below c d le x.0 x.1 (comma_at x.1))

rule_below : (c d : ℕ) → c ≤ d → (ts : List Token) → Below (rule_at c ts) (rule_at d ts)
rule_below c d le ts = bind_below (pattern_at c ts) (pattern_at d ts) (λ p. action_at c p.0 p.1) (λ p. action_at d p.0 p.1) (pattern_below c d le ts) (λ p. action_below c d le p.0 p.1)

item_below : (c d : ℕ) → c ≤ d → (ts : List Token) → Below (item_at c ts) (item_at d ts)
item_below c d le (Key FunctionWord ∷ ts) = function_at_below c d le ts
item_below c d le (Key BeginWord ∷ ts) = then_below (body_at c ts) (body_at d ts) (λ x. Ok (Begin x.0, x.1)) (body_below c d le ts)
item_below c d le (Key EndWord ∷ ts) = then_below (body_at c ts) (body_at d ts) (λ x. Ok (End x.0, x.1)) (body_below c d le ts)
item_below c d le (OpenBrace ∷ ts) = then_below (body_at c (OpenBrace ∷ ts)) (body_at d (OpenBrace ∷ ts)) (λ x. Ok (Always x.0, x.1)) (body_below c d le (OpenBrace ∷ ts))
item_below c d le (Semicolon ∷ ts) = inr refl
item_below c d le ts = rule_below c d le ts

items_below : (c d : ℕ) → c ≤ d → (w : ℕ) (ts : List Token) → Below (items_at c w ts) (items_at d w ts)
items_below c d le zero ts = inr refl
items_below c d le (suc w) [] = inr refl
items_below c d le (suc w) (k ∷ ts) = bind_below (item_at c (k ∷ ts)) (item_at d (k ∷ ts)) (λ x. items_at c w x.1 >>= λ is. Ok (x.0 ∷ is)) (λ x. items_at d w x.1 >>= λ is. Ok (x.0 ∷ is)) (item_below c d le (k ∷ ts)) (λ x. then_below (items_at c w x.1) (items_at d w x.1) (λ is. Ok (x.0 ∷ is)) (items_below c d le w x.1))

pub script_below : (c d : ℕ) → c ≤ d → (ts : List Token) → Below (script_at c ts) (script_at d ts)
unfolding script_at
script_below c d le ts = items_below c d le (length ts + 1) ts

-- where reading refuses by Syntax, no script of any depth has these tokens
pub script_syntax_only : (limit : ℕ) (ts : List Token) (is : List Item) → script_at limit ts ≡ Err Syntax → IsScript is → print_script is ≡ ts → ⊥
script_syntax_only limit ts is e f p =
    let d = max limit (script_depth is) in
    let deep : script_at d ts ≡ Ok is = rw (← p) (script_again is d f (omega arith)) in
    by (script_at limit ts) (script_at d ts) e deep (script_below limit d (omega arith) ts)
  where
    by : (r s : Result (List Item) Fault) → r ≡ Err Syntax → s ≡ Ok is → Below r s → ⊥
    by (Ok x) s e f b = cc
    by (Err TooDeep) s e f b = cc
    by (Err Syntax) (Err y) e f b = cc
    by (Err Syntax) (Ok x) e f (inl b) = cc
    by (Err Syntax) (Ok x) e f (inr b) = cc
