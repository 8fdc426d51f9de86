-- Scripts that are well formed and not too deep are read.
use Rattle.std.proofs.Common.{◌≡◌, ℕ, zero, suc, ◌+◌, ◌<◌, ◌≤◌, max, true, List, [], ◌∷◌, ◌++◌, length, None, Result, Ok, refl, sym, ap, ◌∙◌, append_assoc, arith, length-append}
use Rattle.awk_grammar.specs.Token.{BeginWord, EndWord, FunctionWord, Token, Name, Open, Close, OpenBrace, CloseBrace, Comma, Semicolon, Key}
use Rattle.awk_grammar.specs.Reading.{Fault, ◌>>=◌, close_at, comma_at, expr_at}
use Rattle.awk_grammar.specs.Tree.{print, Whole}
use Rattle.awk_grammar.specs.Stmt.{print_stmts, AreStmts}
use Rattle.awk_grammar.specs.Trees.{Stmts, stmts_depth, Pattern, One, Between, Item, Function, Begin, End, Always, When, Lone, Nothing, pattern_depth, item_depth, script_depth}
use Rattle.awk_grammar.specs.ReadStmt.{Read, stmts_at, stmt_at, starts_expr}
use Rattle.awk_grammar.specs.Item.{print_body, print_names, print_params, print_pattern, print_item, print_script, IsPattern, IsItem, IsScript}
use Rattle.awk_grammar.specs.ReadItem.{body_at, names_at, params_at, function_by, pattern_at, action_at, rule_at, item_at, items_by, items_at, script_at}
use Rattle.awk_grammar.proofs.Complete.{Closing, reads_whole, again}
use Rattle.awk_grammar.proofs.StmtComplete.{starts_print, stmts_again}

body_again : (ss : Stmts) (d : ℕ) (rest : List Token) → AreStmts ss → stmts_depth ss ≤ d → body_at d (print_body ss ++ rest) ≡ Ok (ss, rest)
body_again ss d rest f s =
    let v = print_stmts ss ++ (CloseBrace ∷ rest) in
    ap (λ (u : List Token). stmts_at (stmt_at d) (length u) u) (append_assoc (print_stmts ss) (CloseBrace ∷ []) rest) ∙ stmts_again ss d (length v) rest f s (omega arith)

names_again : (ns : List (List ℕ)) (w : ℕ) (rest : List Token) → length (print_names ns ++ (Close ∷ rest)) ≤ w → names_at w (print_names ns ++ (Close ∷ rest)) ≡ Ok (ns, Close ∷ rest)
names_again [] zero rest h = refl
names_again [] (suc w) rest h = refl
names_again (n ∷ ns) zero rest h = absurd (omega (arith, h))
names_again (n ∷ ns) (suc w) rest h = ap (λ (q : Read (List (List ℕ))). q >>= λ x. Ok (n ∷ x.0, x.1)) (names_again ns w rest (omega (arith, h)))

params_again : (ns : List (List ℕ)) (rest : List Token) → params_at (print_params ns ++ (Close ∷ rest)) ≡ Ok (ns, Close ∷ rest)
params_again [] rest = refl
params_again (n ∷ ns) rest = ap (λ (q : Read (List (List ℕ))). q >>= λ x. Ok (n ∷ x.0, x.1)) (names_again ns (length (print_names ns ++ (Close ∷ rest))) rest (omega arith))

function_again : (n : List ℕ) (ps : List (List ℕ)) (ss : Stmts) (d : ℕ) (rest : List Token) → AreStmts ss → stmts_depth ss ≤ d → function_by d n (Open ∷ ((print_params ps ++ (Close ∷ print_body ss)) ++ rest)) ≡ Ok (Function n ps ss, rest)
function_again n ps ss d rest f s =
    ap (λ (v : List Token). function_by d n (Open ∷ v)) (append_assoc (print_params ps) (Close ∷ print_body ss) rest)
    ∙ ap (λ (q : Read (List (List ℕ))). q >>= λ ps. close_at ps.1 >>= λ vs. body_at d vs >>= λ x. Ok (Function n ps.0 x.0, x.1)) (params_again ps (print_body ss ++ rest))
    ∙ ap (λ (q : Read Stmts). q >>= λ x. Ok (Function n ps x.0, x.1)) (body_again ss d rest f s)

pattern_again : (p : Pattern) (d : ℕ) (rest : List Token) → IsPattern p → pattern_depth p ≤ d → Closing true rest → comma_at rest ≡ None → pattern_at d (print_pattern p ++ rest) ≡ Ok (p, rest)
pattern_again (One t) d rest f s c n =
    let one : expr_at d true Whole (print t ++ rest) ≡ Ok (t, rest) = reads_whole d true t rest (again t) f s c in
    rw (one, n) refl
pattern_again (Between t u) d rest f s c n =
    let one : expr_at d true Whole (print t ++ (Comma ∷ (print u ++ rest))) ≡ Ok (t, Comma ∷ (print u ++ rest)) = reads_whole d true t (Comma ∷ (print u ++ rest)) (again t) f.0 (omega arith) (record { none = refl; free = refl }) in
    let two : expr_at d true Whole (print u ++ rest) ≡ Ok (u, rest) = reads_whole d true u rest (again u) f.1 (omega arith) c in
    let all : expr_at d true Whole ((print t ++ (Comma ∷ print u)) ++ rest) ≡ Ok (t, Comma ∷ (print u ++ rest)) = rw append_assoc one in
    rw (all, two) refl

is_rule : (d : ℕ) (ts : List Token) → starts_expr ts ≡ true → item_at d ts ≡ rule_at d ts
is_rule d (Key k ∷ ts) h = absurd cc
is_rule d (OpenBrace ∷ ts) h = absurd cc
is_rule d (Semicolon ∷ ts) h = absurd cc
is_rule d _ h = refl

starts_pattern : (p : Pattern) (r : List Token) → starts_expr (print_pattern p ++ r) ≡ true
starts_pattern (One t) r = starts_print t r
starts_pattern (Between t u) r = rw append_assoc (starts_print t ((Comma ∷ print u) ++ r))

item_again : (i : Item) (d : ℕ) (rest : List Token) → IsItem i → item_depth i ≤ d → item_at d (print_item i ++ rest) ≡ Ok (i, rest)
item_again (Function n ps ss) d rest f s = function_again n ps ss d rest f s
item_again (Begin ss) d rest f s = ap (λ (q : Read Stmts). q >>= λ x. Ok (Begin x.0, x.1)) (body_again ss d rest f s)
item_again (End ss) d rest f s = ap (λ (q : Read Stmts). q >>= λ x. Ok (End x.0, x.1)) (body_again ss d rest f s)
item_again (Always ss) d rest f s = ap (λ (q : Read Stmts). q >>= λ x. Ok (Always x.0, x.1)) (body_again ss d rest f s)
item_again (When p ss) d rest f s =
    ap (item_at d) (append_assoc (print_pattern p) (print_body ss) rest)
    ∙ is_rule d (print_pattern p ++ (print_body ss ++ rest)) (starts_pattern p (print_body ss ++ rest))
    ∙ ap (λ (q : Read Pattern). q >>= λ p. action_at d p.0 p.1) (pattern_again p d (print_body ss ++ rest) f.0 (omega arith) (record { none = refl; free = refl }) refl)
    ∙ ap (λ (q : Read Stmts). q >>= λ x. Ok (When p x.0, x.1)) (body_again ss d rest f.1 (omega arith))
item_again (Lone p) d rest f s =
    ap (item_at d) (append_assoc (print_pattern p) (Semicolon ∷ []) rest)
    ∙ is_rule d (print_pattern p ++ (Semicolon ∷ rest)) (starts_pattern p (Semicolon ∷ rest))
    ∙ ap (λ (q : Read Pattern). q >>= λ p. action_at d p.0 p.1) (pattern_again p d (Semicolon ∷ rest) f s (record { none = refl; free = refl }) refl)
item_again Nothing d rest f s = refl

-- an item has a first token
item_some : (i : Item) → (k : Token) × (u : List Token) × (print_item i ≡ k ∷ u)
item_some (Function n ps ss) = (Key FunctionWord, Name n ∷ (Open ∷ (print_params ps ++ (Close ∷ print_body ss))), refl)
item_some (Begin ss) = (Key BeginWord, print_body ss, refl)
item_some (End ss) = (Key EndWord, print_body ss, refl)
item_some (Always ss) = (OpenBrace, print_stmts ss ++ (CloseBrace ∷ []), refl)
item_some (When p ss) = by (print_pattern p)
  where
    by : (ts : List Token) → (k : Token) × (u : List Token) × (ts ++ print_body ss ≡ k ∷ u)
    by [] = (OpenBrace, print_stmts ss ++ (CloseBrace ∷ []), refl)
    by (k ∷ ts) = (k, ts ++ print_body ss, refl)
item_some (Lone p) = by (print_pattern p)
  where
    by : (ts : List Token) → (k : Token) × (u : List Token) × (ts ++ (Semicolon ∷ []) ≡ k ∷ u)
    by [] = (Semicolon, [], refl)
    by (k ∷ ts) = (k, ts ++ (Semicolon ∷ []), refl)
item_some Nothing = (Semicolon, [], refl)

items_step : (d : ℕ) (go : List Token → Result (List Item) Fault) (k : Token) (u ts : List Token) → ts ≡ k ∷ u → items_by d go ts ≡ (item_at d ts >>= λ x. go x.1 >>= λ is. Ok (x.0 ∷ is))
items_step d go k u ts e = rw e refl

items_again : (is : List Item) (d w : ℕ) → IsScript is → script_depth is ≤ d → length (print_script is) < w → items_at d w (print_script is) ≡ Ok is
items_again is d zero f s h = absurd (omega (arith, h))
items_again [] d (suc w) f s h = refl
items_again (i ∷ is) d (suc w) f s h =
    let p = item_some i in
    let q : print_item i ++ print_script is ≡ p.0 ∷ (p.1 ++ print_script is) = ap (λ (u : List Token). u ++ print_script is) p.2 in
    let longer : 0 < length (print_item i) = rw p.2 (omega arith) in
    items_step d (items_at d w) p.0 (p.1 ++ print_script is) (print_item i ++ print_script is) q
    ∙ ap (λ (r : Read Item). r >>= λ x. items_at d w x.1 >>= λ is. Ok (x.0 ∷ is)) (item_again i d (print_script is) f.0 (omega arith))
    ∙ ap (λ (r : Result (List Item) Fault). r >>= λ is. Ok (i ∷ is)) (items_again is d w f.1 (omega arith) (omega (arith, h, longer, length-append (print_item i) (print_script is))))

pub script_again : (is : List Item) (d : ℕ) → IsScript is → script_depth is ≤ d → script_at d (print_script is) ≡ Ok is
unfolding script_at
script_again is d f s = items_again is d (length (print_script is) + 1) f s (omega arith)

abbrev done : List Item → Result (List Item) Fault
done t = Ok t

ok_is : (t u : List Item) → done t ≡ done u → t ≡ u
ok_is t u e = cc

-- tokens have at most one script
pub one_script : (s t : List Item) → IsScript s → IsScript t → print_script s ≡ print_script t → s ≡ t
one_script s t f g e =
    let d = max (script_depth s) (script_depth t) in
    ok_is s t (sym (script_again s d f (omega arith)) ∙ ap (script_at d) e ∙ script_again t d g (omega arith))
