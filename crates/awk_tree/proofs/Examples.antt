-- Three scripts, derived from their tokens.
use Rattle.std.specs.Prelude.{ℕ, Bool, Some, List, [], ◌∷◌}
use Rattle.awk_grammar.specs.Token.{Minus, Signed, Less, NotEqual, Greater, Increment, Set, Assign, Or, Compare, Pow, Literal, Number, Quoted, BeginWord, FunctionWord, IfWord, ElseWord, ReturnWord, PrintWord, Token, Lit, Name, GetlineWord, InWord, Dollar, Open, Close, OpenBrace, CloseBrace, Comma, Semicolon, Question, Colon, SignMark, StepMark, Infix, Key}
use Rattle.awk_grammar.specs.Trees.{Join, Other, Tree, Leaf, Var, Field, Unary, Post, Bin, Has, Cond, GetFrom, NoTree, Then, Print, Listed, Written, Eval, Put, Return, Simple, IfElse, Leave, NoStmt, And, One, Function, Begin, Lone}
use Rattle.awk_tree.specs.Ends.{EndsIn, whole, in_field, IsBareGetline, MayJoin}
use Rattle.awk_tree.specs.Expressions.{Expr, OrExpr, InExpr, ConcatExpr, AddExpr, PowerExpr, SimpleExpr, Derives, expr_cond, or_tail, tail_assign, assign, cond_or, choice, or_and, and_in, in_match, has, match_compare, compare_concat, compare, concat_add, concat, add_mul, mul_unary, unary, unary_power, power_postfix, power, exponent, step_after, postfix_primary, primary_simple, getline_source, literal, variable, name, field, field_simple, last, more}
use Rattle.awk_tree.specs.Statements.{listed, written, eval, print, some_expr, plain, leave, simple, if_else, braces, no_more, one_more}
use Rattle.awk_tree.specs.Scripts.{one, last_name, names, function, begin, lone, ScriptOf, no_item, item}

-- ---- by productions that give a nonterminal another one alone

add_of : {g : Bool} {t : Tree} {ts : List Token} → Derives g PowerExpr t ts → Derives g AddExpr t ts
add_of d = add_mul (mul_unary (unary_power d))

power_of : {g : Bool} {t : Tree} {ts : List Token} → Derives g SimpleExpr t ts → Derives g PowerExpr t ts
power_of d = power_postfix (postfix_primary (primary_simple d))

concat_of : {g : Bool} {t : Tree} {ts : List Token} → Derives g SimpleExpr t ts → Derives g ConcatExpr t ts
concat_of d = concat_add (add_of (power_of d))

or_of : {g : Bool} {t : Tree} {ts : List Token} → Derives g InExpr t ts → Derives g OrExpr t ts
or_of d = or_and (and_in d)

in_of : {g : Bool} {t : Tree} {ts : List Token} → Derives g ConcatExpr t ts → Derives g InExpr t ts
in_of d = in_match (match_compare (compare_concat d))

expr_of : {g : Bool} {t : Tree} {ts : List Token} → Derives g ConcatExpr t ts → Derives g Expr t ts
expr_of d = expr_cond (cond_or (or_of (in_of d)))

-- ---- a || b = 1

assigned : ScriptOf
    (Lone (One (Bin (Other Or) (Var (97 ∷ [])) (Bin (Other (Assign Set)) (Var (98 ∷ [])) (Leaf (Number (49 ∷ [])))))) ∷ [])
    (Name (97 ∷ []) ∷ Infix Or ∷ Name (98 ∷ []) ∷ Infix (Assign Set) ∷ Lit (Number (49 ∷ [])) ∷ Semicolon ∷ [])
assigned = item (lone (one (or_tail (or_of (in_of (concat_of (variable name)))) (tail_assign (assign name (expr_of (concat_of literal))))))) no_item

-- ---- BEGIN { if (getline < "f") print $1 a, b > "o"; else n++ }

no_getline : {c : Literal} → EndsIn IsBareGetline (Field (Leaf c)) → ⊥
no_getline (whole i) = i
no_getline (in_field (whole i)) = i

joins : {c : Literal} {n : List ℕ} → MayJoin (Field (Leaf c)) (Name n ∷ [])
joins = record { no_sign = λ b. b; no_step = λ b e. b; no_call = λ b e. b; no_variable = λ b. no_getline }

reads : ScriptOf
    (Begin (And (IfElse (GetFrom (Leaf (Quoted (34 ∷ 102 ∷ 34 ∷ []))))
    (Simple (Put Print (Listed (Then (Bin Join (Field (Leaf (Number (49 ∷ [])))) (Var (97 ∷ []))) (Then (Var (98 ∷ [])) NoTree))) (Written (Leaf (Quoted (34 ∷ 111 ∷ 34 ∷ []))))))
    (Simple (Eval (Post Increment (Var (110 ∷ [])))))) NoStmt) ∷ [])
    (Key BeginWord ∷ OpenBrace ∷ Key IfWord ∷ Open ∷ GetlineWord ∷ Infix (Compare Less) ∷ Lit (Quoted (34 ∷ 102 ∷ 34 ∷ [])) ∷ Close
    ∷ Key PrintWord ∷ Dollar ∷ Lit (Number (49 ∷ [])) ∷ Name (97 ∷ []) ∷ Comma ∷ Name (98 ∷ []) ∷ Infix (Compare Greater) ∷ Lit (Quoted (34 ∷ 111 ∷ 34 ∷ [])) ∷ Semicolon
    ∷ Key ElseWord ∷ Name (110 ∷ []) ∷ StepMark Increment ∷ Semicolon ∷ CloseBrace ∷ [])
reads = item (begin (braces (one_more (if_else
    (expr_of (concat_add (add_of (power_postfix (postfix_primary (getline_source literal))))))
    (simple (plain (print (listed (more (expr_of (concat (concat_of (variable (field (field_simple literal)))) (add_of (power_of (variable name))) joins)) (last (expr_of (concat_of (variable name)))))) (written (concat_of literal)))))
    (λ e. elim e [ ])
    (simple (plain (eval (expr_of (concat_add (add_of (power_postfix (step_after name)))))))))
    no_more))) no_item

-- ---- function f(n) { return -n ^ 2 } x != y ? 1 : z in a

chosen : ScriptOf
    (Function (102 ∷ []) ((110 ∷ []) ∷ []) (And (Leave Return (Some (Unary (Signed Minus) (Bin (Other Pow) (Var (110 ∷ [])) (Leaf (Number (50 ∷ []))))))) NoStmt)
    ∷ Lone (One (Cond (Bin (Other (Compare NotEqual)) (Var (120 ∷ [])) (Var (121 ∷ []))) (Leaf (Number (49 ∷ []))) (Has (Var (122 ∷ [])) (97 ∷ [])))) ∷ [])
    (Key FunctionWord ∷ Name (102 ∷ []) ∷ Open ∷ Name (110 ∷ []) ∷ Close ∷ OpenBrace ∷ Key ReturnWord ∷ SignMark Minus ∷ Name (110 ∷ []) ∷ Infix Pow ∷ Lit (Number (50 ∷ [])) ∷ Semicolon ∷ CloseBrace
    ∷ Name (120 ∷ []) ∷ Infix (Compare NotEqual) ∷ Name (121 ∷ []) ∷ Question ∷ Lit (Number (49 ∷ [])) ∷ Colon ∷ Name (122 ∷ []) ∷ InWord ∷ Name (97 ∷ []) ∷ Semicolon ∷ [])
chosen = item (function (names last_name) (braces (one_more
    (simple (leave (some_expr (expr_of (concat_add (add_mul (mul_unary (unary (unary_power (power (postfix_primary (primary_simple (variable name))) (exponent (power_of literal))))))))))))
    no_more)))
    (item (lone (one (expr_cond (choice
    (or_of (in_match (match_compare (compare (concat_of (variable name)) (concat_of (variable name)) tt))))
    (expr_of (concat_of literal))
    (expr_cond (cond_or (or_of (has (in_of (concat_of (variable name)))))))))))
    no_item)
