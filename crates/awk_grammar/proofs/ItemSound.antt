-- What is read is a well formed script, and printed so.
use Rattle.std.proofs.Common.{◌≡◌, ℕ, zero, suc, ◌+◌, ◌≤◌, true, List, [], ◌∷◌, ◌++◌, length, Option, Some, None, Ok, refl, sym, ap, subst, ◌∙◌, arith}
use Rattle.awk_grammar.specs.Token.{BeginWord, EndWord, FunctionWord, Token, Name, Open, Close, OpenBrace, Comma, Semicolon, Key}
use Rattle.awk_grammar.specs.Tree.{print, IsWellFormed, Whole}
use Rattle.awk_grammar.specs.Trees.{Tree, depth, Stmts, stmts_depth, Pattern, One, Between, Item, Function, Begin, End, Always, When, Lone, Nothing, pattern_depth, item_depth}
use Rattle.awk_grammar.specs.Reading.{◌>>=◌, close_at, name_at, comma_at, expr_at}
use Rattle.awk_grammar.specs.Stmt.{AreStmts}
use Rattle.awk_grammar.specs.ReadStmt.{open_here, stmt_at}
use Rattle.awk_grammar.specs.Item.{print_body, print_names, print_params, print_pattern, print_item, IsPattern, IsItem}
use Rattle.awk_grammar.specs.ReadItem.{body_at, names_by, names_at, params_at, function_by, function_at, pattern_by, pattern_at, action_at, rule_at, item_at, items_at, script_at}
use Rattle.awk_grammar.specs.TreeOf.{IsReadAs}
use Rattle.awk_grammar.proofs.Sound.{bind_ok, IsOk, ok_is, cons, close_ok, name_ok, comma_ok, expr_sound, regroup2}
use Rattle.awk_grammar.proofs.StmtSound.{Told, open_here_ok, stmts_sound, stmt_sound}

body_sound : (d : ℕ) (ts : List Token) (x : Stmts × List Token) → body_at d ts ≡ Ok x → Told stmts_depth d print_body AreStmts ts x
body_sound d (OpenBrace ∷ ts) x e = let s = stmts_sound d (stmt_at d) (stmt_sound d) (length ts) ts x e in record { parts = ap (cons OpenBrace) s.parts; fine = s.fine; small = s.small }
body_sound d _ x e = absurd cc

abbrev Any : List (List ℕ) → Type 0
Any ns = Unit {0}

names_sound : (w : ℕ) (ts : List Token) (x : List (List ℕ) × List Token) → names_at w ts ≡ Ok x → ts ≡ print_names x.0 ++ x.1
names_sound zero ts x e = ap (λ (y : List (List ℕ) × List Token). print_names y.0 ++ y.1) (ok_is ([], ts) x e)
names_sound (suc w) ts x e = by (names_sound w) (comma_at ts) refl e
  where
    by : ((us : List Token) (y : List (List ℕ) × List Token) → names_at w us ≡ Ok y → us ≡ print_names y.0 ++ y.1) → (o : Option (List Token)) → comma_at ts ≡ o → names_by (names_at w) ts o ≡ Ok x → ts ≡ print_names x.0 ++ x.1
    by k None at e = ap (λ (y : List (List ℕ) × List Token). print_names y.0 ++ y.1) (ok_is ([], ts) x e)
    by k (Some us) at e =
        let n = bind_ok (name_at us) (λ n. names_at w n.1 >>= λ x. Ok (n.0 ∷ x.0, x.1)) x e in
        let a = bind_ok (names_at w n.0.1) (λ x. Ok (n.0.0 ∷ x.0, x.1)) x n.2 in
        comma_ok ts us at ∙ ap (cons Comma) (name_ok us n.0 n.1 ∙ ap (cons (Name n.0.0)) (k n.0.1 a.0 a.1)) ∙ ap (λ (y : List (List ℕ) × List Token). print_names y.0 ++ y.1) (ok_is (n.0.0 ∷ a.0.0, a.0.1) x a.2)

params_none : (ts : List Token) (x : List (List ℕ) × List Token) → IsOk ([], ts) ≡ Ok x → ts ≡ print_params x.0 ++ x.1
params_none ts x e = ap (λ (y : List (List ℕ) × List Token). print_params y.0 ++ y.1) (ok_is ([], ts) x e)

params_sound : (ts : List Token) (x : List (List ℕ) × List Token) → params_at ts ≡ Ok x → ts ≡ print_params x.0 ++ x.1
params_sound (Name n ∷ ts) x e =
    let a = bind_ok (names_at (length ts) ts) (λ x. Ok (n ∷ x.0, x.1)) x e in
    ap (cons (Name n)) (names_sound (length ts) ts a.0 a.1) ∙ ap (λ (y : List (List ℕ) × List Token). print_params y.0 ++ y.1) (ok_is (n ∷ a.0.0, a.0.1) x a.2)
params_sound ts x e = params_none ts x e

function_sound : (d : ℕ) (n : List ℕ) (ts : List Token) (x : Item × List Token) → function_by d n ts ≡ Ok x → Told item_depth d print_item IsItem (Key FunctionWord ∷ (Name n ∷ ts)) x
function_sound d n ts x e =
    let o = bind_ok (open_here ts) (λ us. params_at us >>= λ ps. close_at ps.1 >>= λ vs. body_at d vs >>= λ x. Ok (Function n ps.0 x.0, x.1)) x e in
    let p = bind_ok (params_at o.0) (λ ps. close_at ps.1 >>= λ vs. body_at d vs >>= λ x. Ok (Function n ps.0 x.0, x.1)) x o.2 in
    let c = bind_ok (close_at p.0.1) (λ vs. body_at d vs >>= λ x. Ok (Function n p.0.0 x.0, x.1)) x p.2 in
    let a = bind_ok (body_at d c.0) (λ x. Ok (Function n p.0.0 x.0, x.1)) x c.2 in
    let s = body_sound d c.0 a.0 a.1 in
    let q : ts ≡ Open ∷ ((print_params p.0.0 ++ (Close ∷ print_body a.0.0)) ++ a.0.1) = open_here_ok ts o.0 o.1 ∙ ap (cons Open) (params_sound o.0 p.0 p.1 ∙ ap (λ (u : List Token). print_params p.0.0 ++ u) (close_ok p.0.1 c.0 c.1 ∙ ap (cons Close) s.parts) ∙ regroup2 (print_params p.0.0) (Close ∷ print_body a.0.0) a.0.1) in
    subst (Told item_depth d print_item IsItem (Key FunctionWord ∷ (Name n ∷ ts))) (ok_is (Function n p.0.0 a.0.0, a.0.1) x a.2) (record { parts = ap (λ (u : List Token). Key FunctionWord ∷ (Name n ∷ u)) q; fine = s.fine; small = omega arith })

pattern_sound : (d : ℕ) (ts : List Token) (x : Pattern × List Token) → pattern_at d ts ≡ Ok x → Told pattern_depth d print_pattern IsPattern ts x
pattern_sound d ts x e =
    let a = bind_ok (expr_at d true Whole ts) (λ x. pattern_by d x.0 x.1 (comma_at x.1)) x e in
    let s = expr_sound d true Whole ts a.0 a.1 in
    by a.0.0 a.0.1 s.parts s.fine s.small (comma_at a.0.1) refl a.2
  where
    by : (t : Tree) (us : List Token) → ts ≡ print t ++ us → IsWellFormed true t → depth t ≤ d → (o : Option (List Token)) → comma_at us ≡ o → pattern_by d t us o ≡ Ok x → Told pattern_depth d print_pattern IsPattern ts x
    by t us p f le None at e = subst (Told pattern_depth d print_pattern IsPattern ts) (ok_is (One t, us) x e) (record { parts = p; fine = f; small = omega arith })
    by t us p f le (Some vs) at e =
        let b = bind_ok (expr_at d true Whole vs) (λ x. Ok (Between t x.0, x.1)) x e in
        let s = expr_sound d true Whole vs b.0 b.1 in
        let q : ts ≡ (print t ++ (Comma ∷ print b.0.0)) ++ b.0.1 = p ∙ ap (λ (u : List Token). print t ++ u) (comma_ok us vs at ∙ ap (cons Comma) s.parts) ∙ regroup2 (print t) (Comma ∷ print b.0.0) b.0.1 in
        subst (Told pattern_depth d print_pattern IsPattern ts) (ok_is (Between t b.0.0, b.0.1) x b.2) (record { parts = q; fine = (f, s.fine); small = omega arith })

when_sound : (d : ℕ) (p : Pattern) (ts : List Token) (x : Item × List Token) → IsPattern p → pattern_depth p ≤ d → (body_at d ts >>= λ x. Ok (When p x.0, x.1)) ≡ Ok x → Told item_depth d print_item IsItem (print_pattern p ++ ts) x
when_sound d p ts x f le e =
    let a = bind_ok (body_at d ts) (λ x. Ok (When p x.0, x.1)) x e in
    let s = body_sound d ts a.0 a.1 in
    subst (Told item_depth d print_item IsItem (print_pattern p ++ ts)) (ok_is (When p a.0.0, a.0.1) x a.2) (record { parts = ap (λ (u : List Token). print_pattern p ++ u) s.parts ∙ regroup2 (print_pattern p) (print_body a.0.0) a.0.1; fine = (f, s.fine); small = omega arith })

action_sound : (d : ℕ) (p : Pattern) (ts : List Token) (x : Item × List Token) → IsPattern p → pattern_depth p ≤ d → action_at d p ts ≡ Ok x → Told item_depth d print_item IsItem (print_pattern p ++ ts) x
action_sound d p (Semicolon ∷ ts) x f le e = subst (Told item_depth d print_item IsItem (print_pattern p ++ (Semicolon ∷ ts))) (ok_is (Lone p, ts) x e) (record { parts = regroup2 (print_pattern p) (Semicolon ∷ []) ts; fine = f; small = omega arith })
action_sound d p ts x f le e = when_sound d p ts x f le e

rule_sound : (d : ℕ) (ts : List Token) (x : Item × List Token) → rule_at d ts ≡ Ok x → Told item_depth d print_item IsItem ts x
rule_sound d ts x e =
    let a = bind_ok (pattern_at d ts) (λ p. action_at d p.0 p.1) x e in
    let s = pattern_sound d ts a.0 a.1 in
    subst (λ (u : List Token). Told item_depth d print_item IsItem u x) (sym s.parts) (action_sound d a.0.0 a.0.1 x s.fine s.small a.2)

function_at_sound : (d : ℕ) (ts : List Token) (x : Item × List Token) → function_at d ts ≡ Ok x → Told item_depth d print_item IsItem (Key FunctionWord ∷ ts) x
function_at_sound d (Name n ∷ ts) x e = function_sound d n ts x e
function_at_sound d _ x e = absurd cc

item_sound : (d : ℕ) (ts : List Token) (x : Item × List Token) → item_at d ts ≡ Ok x → Told item_depth d print_item IsItem ts x
item_sound d (Key FunctionWord ∷ ts) x e = function_at_sound d ts x e
item_sound d (Key BeginWord ∷ ts) x e =
    let a = bind_ok (body_at d ts) (λ x. Ok (Begin x.0, x.1)) x e in
    let s = body_sound d ts a.0 a.1 in
    subst (Told item_depth d print_item IsItem (Key BeginWord ∷ ts)) (ok_is (Begin a.0.0, a.0.1) x a.2) (record { parts = ap (cons (Key BeginWord)) s.parts; fine = s.fine; small = omega arith })
item_sound d (Key EndWord ∷ ts) x e =
    let a = bind_ok (body_at d ts) (λ x. Ok (End x.0, x.1)) x e in
    let s = body_sound d ts a.0 a.1 in
    subst (Told item_depth d print_item IsItem (Key EndWord ∷ ts)) (ok_is (End a.0.0, a.0.1) x a.2) (record { parts = ap (cons (Key EndWord)) s.parts; fine = s.fine; small = omega arith })
item_sound d (OpenBrace ∷ ts) x e =
    let a = bind_ok (body_at d (OpenBrace ∷ ts)) (λ x. Ok (Always x.0, x.1)) x e in
    let s = body_sound d (OpenBrace ∷ ts) a.0 a.1 in
    subst (Told item_depth d print_item IsItem (OpenBrace ∷ ts)) (ok_is (Always a.0.0, a.0.1) x a.2) (record { parts = s.parts; fine = s.fine; small = omega arith })
item_sound d (Semicolon ∷ ts) x e = subst (Told item_depth d print_item IsItem (Semicolon ∷ ts)) (ok_is (Nothing, ts) x e) (record { parts = refl; fine = tt; small = omega arith })
item_sound d ts x e = rule_sound d ts x e

list_is : (x y : List Item) → IsOk x ≡ IsOk y → x ≡ y
list_is x y e = cc

items_sound : (d w : ℕ) (ts : List Token) (is : List Item) → items_at d w ts ≡ Ok is → IsReadAs d ts is
items_sound d zero ts is e = absurd cc
items_sound d (suc w) [] is e = subst (IsReadAs d []) (list_is [] is e) (record { parts = refl; fine = tt; small = omega arith })
items_sound d (suc w) (t ∷ ts) is e =
    let a = bind_ok (item_at d (t ∷ ts)) (λ x. items_at d w x.1 >>= λ is. Ok (x.0 ∷ is)) is e in
    let b = bind_ok (items_at d w a.0.1) (λ is. Ok (a.0.0 ∷ is)) is a.2 in
    let s = item_sound d (t ∷ ts) a.0 a.1 in
    let m = items_sound d w a.0.1 b.0 b.1 in
    subst (IsReadAs d (t ∷ ts)) (list_is (a.0.0 ∷ b.0) is b.2) (record { parts = ap (λ (u : List Token). print_item a.0.0 ++ u) m.parts ∙ sym s.parts; fine = (s.fine, m.fine); small = omega arith })

pub script_sound : (d : ℕ) (ts : List Token) (is : List Item) → script_at d ts ≡ Ok is → IsReadAs d ts is
unfolding script_at
script_sound d ts is e = items_sound d (length ts + 1) ts is e
