-- What is read is a well formed statement, and printed so.
use Rattle.std.proofs.Common.{◌≡◌, ℕ, zero, suc, ◌+◌, ◌≤◌, max, Bool, true, false, cond, List, [], ◌∷◌, ◌++◌, length, Option, Some, None, Ok, Err, refl, sym, ap, subst, ◌∙◌, append_assoc, arith}
use Rattle.awk_grammar.specs.Token.{Greater, Compare, IfWord, ElseWord, WhileWord, ForWord, DoWord, BreakWord, ContinueWord, NextWord, NextFileWord, ExitWord, ReturnWord, DeleteWord, PrintWord, PrintfWord, Token, Name, InWord, Open, Close, OpenBracket, CloseBracket, OpenBrace, CloseBrace, Comma, Semicolon, Infix, Append, Key}
use Rattle.awk_grammar.specs.Reading.{Syntax, TooDeep, ◌>>=◌, Reader, close_at, bracket_at, name_at, list_at, expr_at}
use Rattle.awk_grammar.specs.Tree.{print, print_list, Whole, AfterCompare, IsSome, IsWellFormed, AreWellFormed}
use Rattle.awk_grammar.specs.Trees.{Tree, Trees, depth, depths, Printing, Print, Printf, Args, NoArgs, Listed, Enclosed, Target, NoTarget, Written, Appended, Plain, Eval, Put, Delete, Clear, Jump, Break, Continue, Next, NextFile, Leaving, Exit, Return, Stmt, Block, Empty, Simple, If, IfElse, While, Do, For, ForIn, Jumping, Leave, Stmts, NoStmt, And, jump_token, leaving_token, args_depth, target_depth, plain_depth, maybe_depth, maybe_plain_depth, stmt_depth, stmts_depth}
use Rattle.awk_grammar.specs.Stmt.{printing_token, print_args, print_target, print_plain, print_maybe, print_maybe_plain, print_stmt, print_stmts, IsArgs, IsTarget, IsPlain, IsMaybe, IsMaybePlain, dangles, IsStmt, AreStmts}
use Rattle.awk_grammar.specs.ReadStmt.{Read, open_here, comma_here, semicolon_at, while_at, else_at, brace_at, is_in, starts_expr, starts_plain, enclosed_at, listed_at, args_by, no_args, args_at, target_at, put_at, delete_by, delete_at, eval_at, plain_at, maybe_at, maybe_plain_at, StmtReader, stmts_by, stmts_at, condition_at, else_by, if_at, loop_at, do_at, keys_at, for_by, for_at, leave_at, jump_at, simple_at, block_at, one_at, stmt_at}
use Rattle.awk_grammar.proofs.Sound.{bind_ok, guard_ok, IsSound, IsOk, ok_is, that_is, cons, close_ok, bracket_ok, name_ok, list_sound, expr_sound, regroup2}
use Rattle.awk_grammar.proofs.StmtComplete.{keys_ok}

-- a well formed thing of at most this depth that the tokens spell, up to a rest
pub record Told {A : Type 0} (size : A → ℕ) (d : ℕ) (printed : A → List Token) (Fine : A → Type 0) (ts : List Token) (x : A × List Token) : Type 0 where
  pub parts : ts ≡ printed x.0 ++ x.1
  pub fine : Fine x.0
  pub small : size x.0 ≤ d

pub open_here_ok : (ts us : List Token) → open_here ts ≡ Ok us → ts ≡ Open ∷ us
open_here_ok (Open ∷ ts) us e = ap (cons Open) (ok_is ts us e)
open_here_ok _ us e = absurd cc

comma_here_ok : (ts us : List Token) → comma_here ts ≡ Ok us → ts ≡ Comma ∷ us
comma_here_ok (Comma ∷ ts) us e = ap (cons Comma) (ok_is ts us e)
comma_here_ok _ us e = absurd cc

semicolon_ok : (ts us : List Token) → semicolon_at ts ≡ Ok us → ts ≡ Semicolon ∷ us
semicolon_ok (Semicolon ∷ ts) us e = ap (cons Semicolon) (ok_is ts us e)
semicolon_ok _ us e = absurd cc

while_ok : (ts us : List Token) → while_at ts ≡ Ok us → ts ≡ Key WhileWord ∷ us
while_ok (Key WhileWord ∷ ts) us e = ap (cons (Key WhileWord)) (ok_is ts us e)
while_ok _ us e = absurd cc

else_ok : (ts us : List Token) → else_at ts ≡ Some us → ts ≡ Key ElseWord ∷ us
else_ok (Key ElseWord ∷ ts) us e = ap (cons (Key ElseWord)) (that_is ts us e)
else_ok _ us e = absurd cc

brace_ok : (ts us : List Token) → brace_at ts ≡ Some us → ts ≡ CloseBrace ∷ us
brace_ok (CloseBrace ∷ ts) us e = ap (cons CloseBrace) (that_is ts us e)
brace_ok _ us e = absurd cc

-- ---- print

abbrev print_two : Tree × Trees → List Token
print_two x = print_args (Enclosed x.0 x.1)

abbrev two_depth : Tree × Trees → ℕ
two_depth x = max (depth x.0) (depths x.1)

abbrev AreTwo : Tree × Trees → Type 0
AreTwo x = IsWellFormed true x.0 × AreWellFormed true x.1 × IsSome x.1

enclosed_sound : (d : ℕ) (expr : Reader) → IsSound d expr → (ts : List Token) (x : (Tree × Trees) × List Token) → enclosed_at expr ts ≡ Ok x → Told two_depth d print_two AreTwo ts x
enclosed_sound d expr h ts x e =
    let a = bind_ok (open_here ts) (λ us. expr true Whole us >>= λ x. comma_here x.1 >>= λ vs. list_at expr true vs >>= λ y. close_at y.1 >>= λ ws. cond (is_in ws) (Err Syntax) (Ok ((x.0, y.0), ws))) x e in
    let b = bind_ok (expr true Whole a.0) (λ x. comma_here x.1 >>= λ vs. list_at expr true vs >>= λ y. close_at y.1 >>= λ ws. cond (is_in ws) (Err Syntax) (Ok ((x.0, y.0), ws))) x a.2 in
    let c = bind_ok (comma_here b.0.1) (λ vs. list_at expr true vs >>= λ y. close_at y.1 >>= λ ws. cond (is_in ws) (Err Syntax) (Ok ((b.0.0, y.0), ws))) x b.2 in
    let l = bind_ok (list_at expr true c.0) (λ y. close_at y.1 >>= λ ws. cond (is_in ws) (Err Syntax) (Ok ((b.0.0, y.0), ws))) x c.2 in
    let k = bind_ok (close_at l.0.1) (λ ws. cond (is_in ws) (Err Syntax) (Ok ((b.0.0, l.0.0), ws))) x l.2 in
    let g = guard_ok (is_in k.0) Syntax (Ok ((b.0.0, l.0.0), k.0)) x k.2 in
    let s = h true Whole a.0 b.0 b.1 in
    let m = list_sound d expr h true c.0 l.0 l.1 in
    let p : ts ≡ print_two (b.0.0, l.0.0) ++ k.0 = open_here_ok ts a.0 a.1 ∙ ap (cons Open) (s.parts ∙ ap (λ (u : List Token). print b.0.0 ++ u) (comma_here_ok b.0.1 c.0 c.1 ∙ ap (cons Comma) (m.parts ∙ ap (λ (u : List Token). print_list l.0.0 ++ u) (close_ok l.0.1 k.0 k.1))) ∙ group (print b.0.0) (print_list l.0.0) k.0) in
    subst (Told two_depth d print_two AreTwo ts) (ok_is ((b.0.0, l.0.0), k.0) x g.1) (record { parts = p; fine = (s.fine, m.fine, m.some); small = omega arith })
  where
    group : (a b r : List Token) → a ++ (Comma ∷ (b ++ (Close ∷ r))) ≡ (a ++ (Comma ∷ (b ++ (Close ∷ [])))) ++ r
    group a b r = simp append_assoc

listed_sound : (d : ℕ) (expr : Reader) → IsSound d expr → (p : Printing) (ts : List Token) (x : Args × List Token) → listed_at expr ts ≡ Ok x → Told args_depth d print_args (IsArgs p) ts x
listed_sound d expr h p ts x e =
    let a = bind_ok (list_at expr false ts) (λ x. Ok (Listed x.0, x.1)) x e in
    let m = list_sound d expr h false ts a.0 a.1 in
    subst (Told args_depth d print_args (IsArgs p) ts) (ok_is (Listed a.0.0, a.0.1) x a.2) (record { parts = m.parts; fine = (m.fine, m.some); small = omega arith })

args_by_sound : (d : ℕ) (expr : Reader) → IsSound d expr → (p : Printing) (ts : List Token) (x : Args × List Token) (r : Read (Tree × Trees)) → enclosed_at expr ts ≡ r → args_by expr ts r ≡ Ok x → Told args_depth d print_args (IsArgs p) ts x
args_by_sound d expr h p ts x (Ok y) at e =
    let s = enclosed_sound d expr h ts y at in
    subst (Told args_depth d print_args (IsArgs p) ts) (ok_is (Enclosed y.0.0 y.0.1, y.1) x e) (record { parts = s.parts; fine = s.fine; small = omega arith })
args_by_sound d expr h p ts x (Err Syntax) at e = listed_sound d expr h p ts x e
args_by_sound d expr h p ts x (Err TooDeep) at e = absurd cc

no_args_sound : (d : ℕ) (p : Printing) (ts : List Token) (x : Args × List Token) → no_args p ts ≡ Ok x → Told args_depth d print_args (IsArgs p) ts x
no_args_sound d Print ts x e = subst (Told args_depth d print_args (IsArgs Print) ts) (ok_is (NoArgs, ts) x e) (record { parts = refl; fine = tt; small = omega arith })
no_args_sound d Printf ts x e = absurd cc

args_sound : (d : ℕ) (expr : Reader) → IsSound d expr → (p : Printing) (ts : List Token) (x : Args × List Token) → args_at expr p ts ≡ Ok x → Told args_depth d print_args (IsArgs p) ts x
args_sound d expr h p ts x e = by (starts_expr ts) e
  where
    by : (b : Bool) → cond b (args_by expr ts (enclosed_at expr ts)) (no_args p ts) ≡ Ok x → Told args_depth d print_args (IsArgs p) ts x
    by true e = args_by_sound d expr h p ts x (enclosed_at expr ts) refl e
    by false e = no_args_sound d p ts x e

target_none : (d : ℕ) (ts : List Token) (x : Target × List Token) → IsOk (NoTarget, ts) ≡ Ok x → Told target_depth d print_target IsTarget ts x
target_none d ts x e = subst (Told target_depth d print_target IsTarget ts) (ok_is (NoTarget, ts) x e) (record { parts = refl; fine = tt; small = omega arith })

target_sound : (d : ℕ) (expr : Reader) → IsSound d expr → (ts : List Token) (x : Target × List Token) → target_at expr ts ≡ Ok x → Told target_depth d print_target IsTarget ts x
target_sound d expr h (Infix (Compare Greater) ∷ ts) x e =
    let a = bind_ok (expr true AfterCompare ts) (λ x. Ok (Written x.0, x.1)) x e in
    let s = h true AfterCompare ts a.0 a.1 in
    subst (Told target_depth d print_target IsTarget (Infix (Compare Greater) ∷ ts)) (ok_is (Written a.0.0, a.0.1) x a.2) (record { parts = ap (cons (Infix (Compare Greater))) s.parts; fine = (s.fine, s.tight); small = omega arith })
target_sound d expr h (Append ∷ ts) x e =
    let a = bind_ok (expr true AfterCompare ts) (λ x. Ok (Appended x.0, x.1)) x e in
    let s = h true AfterCompare ts a.0 a.1 in
    subst (Told target_depth d print_target IsTarget (Append ∷ ts)) (ok_is (Appended a.0.0, a.0.1) x a.2) (record { parts = ap (cons Append) s.parts; fine = (s.fine, s.tight); small = omega arith })
target_sound d expr h ts x e = target_none d ts x e

put_sound : (d : ℕ) (expr : Reader) → IsSound d expr → (p : Printing) (ts : List Token) (x : Plain × List Token) → put_at expr p ts ≡ Ok x → Told plain_depth d print_plain IsPlain (printing_token p ∷ ts) x
put_sound d expr h p ts x e =
    let a = bind_ok (args_at expr p ts) (λ x. target_at expr x.1 >>= λ y. Ok (Put p x.0 y.0, y.1)) x e in
    let b = bind_ok (target_at expr a.0.1) (λ y. Ok (Put p a.0.0 y.0, y.1)) x a.2 in
    let s = args_sound d expr h p ts a.0 a.1 in
    let t = target_sound d expr h a.0.1 b.0 b.1 in
    let q : printing_token p ∷ ts ≡ print_plain (Put p a.0.0 b.0.0) ++ b.0.1 = ap (cons (printing_token p)) (s.parts ∙ ap (λ (u : List Token). print_args a.0.0 ++ u) t.parts ∙ regroup2 (print_args a.0.0) (print_target b.0.0) b.0.1) in
    subst (Told plain_depth d print_plain IsPlain (printing_token p ∷ ts)) (ok_is (Put p a.0.0 b.0.0, b.0.1) x b.2) (record { parts = q; fine = (s.fine, t.fine); small = omega arith })

clear_told : (d : ℕ) (n : List ℕ) (ts : List Token) (x : Plain × List Token) → IsOk (Clear n, ts) ≡ Ok x → Told plain_depth d print_plain IsPlain (Key DeleteWord ∷ (Name n ∷ ts)) x
clear_told d n ts x e = subst (Told plain_depth d print_plain IsPlain (Key DeleteWord ∷ (Name n ∷ ts))) (ok_is (Clear n, ts) x e) (record { parts = refl; fine = tt; small = omega arith })

delete_by_sound : (d : ℕ) (expr : Reader) → IsSound d expr → (n : List ℕ) (ts : List Token) (x : Plain × List Token) → delete_by expr n ts ≡ Ok x → Told plain_depth d print_plain IsPlain (Key DeleteWord ∷ (Name n ∷ ts)) x
delete_by_sound d expr h n (OpenBracket ∷ ts) x e =
    let l = bind_ok (list_at expr true ts) (λ x. bracket_at x.1 >>= λ us. Ok (Delete n x.0, us)) x e in
    let b = bind_ok (bracket_at l.0.1) (λ us. Ok (Delete n l.0.0, us)) x l.2 in
    let m = list_sound d expr h true ts l.0 l.1 in
    let q : Key DeleteWord ∷ (Name n ∷ (OpenBracket ∷ ts)) ≡ print_plain (Delete n l.0.0) ++ b.0 = ap (λ (u : List Token). Key DeleteWord ∷ (Name n ∷ (OpenBracket ∷ u))) (m.parts ∙ ap (λ (u : List Token). print_list l.0.0 ++ u) (bracket_ok l.0.1 b.0 b.1) ∙ regroup2 (print_list l.0.0) (CloseBracket ∷ []) b.0) in
    subst (Told plain_depth d print_plain IsPlain (Key DeleteWord ∷ (Name n ∷ (OpenBracket ∷ ts)))) (ok_is (Delete n l.0.0, b.0) x b.2) (record { parts = q; fine = (m.fine, m.some); small = omega arith })
delete_by_sound d expr h n ts x e = clear_told d n ts x e

delete_sound : (d : ℕ) (expr : Reader) → IsSound d expr → (ts : List Token) (x : Plain × List Token) → delete_at expr ts ≡ Ok x → Told plain_depth d print_plain IsPlain (Key DeleteWord ∷ ts) x
delete_sound d expr h ts x e =
    let n = bind_ok (name_at ts) (λ n. delete_by expr n.0 n.1) x e in
    subst (λ (u : List Token). Told plain_depth d print_plain IsPlain (Key DeleteWord ∷ u) x) (sym (name_ok ts n.0 n.1)) (delete_by_sound d expr h n.0.0 n.0.1 x n.2)

eval_sound : (d : ℕ) (expr : Reader) → IsSound d expr → (ts : List Token) (x : Plain × List Token) → eval_at expr ts ≡ Ok x → Told plain_depth d print_plain IsPlain ts x
eval_sound d expr h ts x e =
    let a = bind_ok (expr true Whole ts) (λ x. Ok (Eval x.0, x.1)) x e in
    let s = h true Whole ts a.0 a.1 in
    subst (Told plain_depth d print_plain IsPlain ts) (ok_is (Eval a.0.0, a.0.1) x a.2) (record { parts = s.parts; fine = s.fine; small = omega arith })

plain_sound : (d : ℕ) (expr : Reader) → IsSound d expr → (ts : List Token) (x : Plain × List Token) → plain_at expr ts ≡ Ok x → Told plain_depth d print_plain IsPlain ts x
plain_sound d expr h (Key PrintWord ∷ ts) x e = put_sound d expr h Print ts x e
plain_sound d expr h (Key PrintfWord ∷ ts) x e = put_sound d expr h Printf ts x e
plain_sound d expr h (Key DeleteWord ∷ ts) x e = delete_sound d expr h ts x e
plain_sound d expr h ts x e = eval_sound d expr h ts x e

maybe_sound : (d : ℕ) (expr : Reader) → IsSound d expr → (ts : List Token) (x : Option Tree × List Token) → maybe_at expr ts ≡ Ok x → Told maybe_depth d print_maybe IsMaybe ts x
maybe_sound d expr h ts x e = by (starts_expr ts) e
  where
    by : (b : Bool) → cond b (expr true Whole ts >>= λ x. Ok (Some x.0, x.1)) (Ok (None, ts)) ≡ Ok x → Told maybe_depth d print_maybe IsMaybe ts x
    by true e =
        let a = bind_ok (expr true Whole ts) (λ x. Ok (Some x.0, x.1)) x e in
        let s = h true Whole ts a.0 a.1 in
        subst (Told maybe_depth d print_maybe IsMaybe ts) (ok_is (Some a.0.0, a.0.1) x a.2) (record { parts = s.parts; fine = s.fine; small = omega arith })
    by false e = subst (Told maybe_depth d print_maybe IsMaybe ts) (ok_is (None, ts) x e) (record { parts = refl; fine = tt; small = omega arith })

maybe_plain_sound : (d : ℕ) (expr : Reader) → IsSound d expr → (ts : List Token) (x : Option Plain × List Token) → maybe_plain_at expr ts ≡ Ok x → Told maybe_plain_depth d print_maybe_plain IsMaybePlain ts x
maybe_plain_sound d expr h ts x e = by (starts_plain ts) e
  where
    by : (b : Bool) → cond b (plain_at expr ts >>= λ x. Ok (Some x.0, x.1)) (Ok (None, ts)) ≡ Ok x → Told maybe_plain_depth d print_maybe_plain IsMaybePlain ts x
    by true e =
        let a = bind_ok (plain_at expr ts) (λ x. Ok (Some x.0, x.1)) x e in
        let s = plain_sound d expr h ts a.0 a.1 in
        subst (Told maybe_plain_depth d print_maybe_plain IsMaybePlain ts) (ok_is (Some a.0.0, a.0.1) x a.2) (record { parts = s.parts; fine = s.fine; small = omega arith })
    by false e = subst (Told maybe_plain_depth d print_maybe_plain IsMaybePlain ts) (ok_is (None, ts) x e) (record { parts = refl; fine = tt; small = omega arith })

-- ---- statements

pub record ToldStmt (d : ℕ) (ts : List Token) (x : Stmt × List Token) : Type 0 where
  pub parts : ts ≡ print_stmt x.0 ++ x.1
  pub fine : IsStmt x.0
  pub closed : dangles x.0 ≡ true → else_at x.1 ≡ None
  pub small : stmt_depth x.0 ≤ d

abbrev pub IsSoundStmt : ℕ → StmtReader → Type 0
IsSoundStmt d stmt = (ts : List Token) (x : Stmt × List Token) → stmt ts ≡ Ok x → ToldStmt d ts x

false_true : false ≡ true → ⊥
false_true e = cc

pub stmts_sound : (d : ℕ) (stmt : StmtReader) → IsSoundStmt d stmt → (w : ℕ) (ts : List Token) (x : Stmts × List Token) → stmts_at stmt w ts ≡ Ok x → Told stmts_depth d (λ ss. print_stmts ss ++ (CloseBrace ∷ [])) AreStmts ts x
stmts_sound d stmt h zero ts x e = absurd cc
stmts_sound d stmt h (suc w) ts x e = by (stmts_sound d stmt h w) (brace_at ts) refl e
  where
    group : (a b r : List Token) → a ++ ((b ++ (CloseBrace ∷ [])) ++ r) ≡ ((a ++ b) ++ (CloseBrace ∷ [])) ++ r
    group a b r = simp append_assoc

    by : ((us : List Token) (y : Stmts × List Token) → stmts_at stmt w us ≡ Ok y → Told stmts_depth d (λ ss. print_stmts ss ++ (CloseBrace ∷ [])) AreStmts us y) → (o : Option (List Token)) → brace_at ts ≡ o → stmts_by stmt (stmts_at stmt w) ts o ≡ Ok x → Told stmts_depth d (λ ss. print_stmts ss ++ (CloseBrace ∷ [])) AreStmts ts x
    by k (Some us) at e = subst (Told stmts_depth d (λ ss. print_stmts ss ++ (CloseBrace ∷ [])) AreStmts ts) (ok_is (NoStmt, us) x e) (record { parts = brace_ok ts us at; fine = tt; small = omega arith })
    by k None at e =
        let a = bind_ok (stmt ts) (λ x. stmts_at stmt w x.1 >>= λ y. Ok (And x.0 y.0, y.1)) x e in
        let b = bind_ok (stmts_at stmt w a.0.1) (λ y. Ok (And a.0.0 y.0, y.1)) x a.2 in
        let s = h ts a.0 a.1 in
        let m = k a.0.1 b.0 b.1 in
        let p : ts ≡ ((print_stmt a.0.0 ++ print_stmts b.0.0) ++ (CloseBrace ∷ [])) ++ b.0.1 = s.parts ∙ ap (λ (u : List Token). print_stmt a.0.0 ++ u) m.parts ∙ group (print_stmt a.0.0) (print_stmts b.0.0) b.0.1 in
        subst (Told stmts_depth d (λ ss. print_stmts ss ++ (CloseBrace ∷ [])) AreStmts ts) (ok_is (And a.0.0 b.0.0, b.0.1) x b.2) (record { parts = p; fine = (s.fine, m.fine); small = omega arith })

abbrev print_condition : Tree → List Token
print_condition c = Open ∷ (print c ++ (Close ∷ []))

condition_sound : (d : ℕ) (expr : Reader) → IsSound d expr → (ts : List Token) (x : Tree × List Token) → condition_at expr ts ≡ Ok x → Told depth d print_condition (IsWellFormed true) ts x
condition_sound d expr h ts x e =
    let o = bind_ok (open_here ts) (λ us. expr true Whole us >>= λ x. close_at x.1 >>= λ vs. Ok (x.0, vs)) x e in
    let a = bind_ok (expr true Whole o.0) (λ x. close_at x.1 >>= λ vs. Ok (x.0, vs)) x o.2 in
    let c = bind_ok (close_at a.0.1) (λ vs. Ok (a.0.0, vs)) x a.2 in
    let s = h true Whole o.0 a.0 a.1 in
    let p : ts ≡ print_condition a.0.0 ++ c.0 = open_here_ok ts o.0 o.1 ∙ ap (cons Open) (s.parts ∙ ap (λ (u : List Token). print a.0.0 ++ u) (close_ok a.0.1 c.0 c.1) ∙ regroup2 (print a.0.0) (Close ∷ []) c.0) in
    subst (Told depth d print_condition (IsWellFormed true) ts) (ok_is (a.0.0, c.0) x c.2) (record { parts = p; fine = s.fine; small = omega arith })

some_none : (us : List Token) → Some us ≡ None → ⊥
some_none us e = cc

not_dangling : (b : Bool) (ts us : List Token) → (b ≡ true → else_at ts ≡ None) → else_at ts ≡ Some us → b ≡ false
not_dangling false ts us h e = refl
not_dangling true ts us h e = absurd (some_none us (sym e ∙ h refl))

if_sound : (d : ℕ) (expr : Reader) (stmt : StmtReader) → IsSound d expr → IsSoundStmt d stmt → (ts : List Token) (x : Stmt × List Token) → if_at expr stmt ts ≡ Ok x → ToldStmt (suc d) (Key IfWord ∷ ts) x
if_sound d expr stmt h k ts x e =
    let c = bind_ok (condition_at expr ts) (λ c. stmt c.1 >>= λ x. else_by stmt c.0 x.0 x.1 (else_at x.1)) x e in
    let a = bind_ok (stmt c.0.1) (λ x. else_by stmt c.0.0 x.0 x.1 (else_at x.1)) x c.2 in
    let t = condition_sound d expr h ts c.0 c.1 in
    let s = k c.0.1 a.0 a.1 in
    by c.0.0 c.0.1 a.0 t.parts t.fine t.small s (else_at a.0.1) refl a.2
  where
    group1 : (c s r : List Token) → Open ∷ ((c ++ (Close ∷ [])) ++ (s ++ r)) ≡ Open ∷ ((c ++ (Close ∷ s)) ++ r)
    group1 c s r = simp append_assoc

    group2 : (c s t r : List Token) → Open ∷ ((c ++ (Close ∷ [])) ++ (s ++ (Key ElseWord ∷ (t ++ r)))) ≡ Open ∷ ((c ++ (Close ∷ (s ++ (Key ElseWord ∷ t)))) ++ r)
    group2 c s t r = simp append_assoc

    by : (c : Tree) (us : List Token) (y : Stmt × List Token) → ts ≡ print_condition c ++ us → IsWellFormed true c → depth c ≤ d → ToldStmt d us y → (o : Option (List Token)) → else_at y.1 ≡ o → else_by stmt c y.0 y.1 o ≡ Ok x → ToldStmt (suc d) (Key IfWord ∷ ts) x
    by c us y p f le s None at e =
        let q : Key IfWord ∷ ts ≡ print_stmt (If c y.0) ++ y.1 = ap (cons (Key IfWord)) (p ∙ ap (λ (u : List Token). print_condition c ++ u) s.parts ∙ group1 (print c) (print_stmt y.0) y.1) in
        subst (ToldStmt (suc d) (Key IfWord ∷ ts)) (ok_is (If c y.0, y.1) x e) (record { parts = q; fine = (f, s.fine); closed = λ i. at; small = omega arith })
    by c us y p f le s (Some vs) at e =
        let b = bind_ok (stmt vs) (λ z. Ok (IfElse c y.0 z.0, z.1)) x e in
        let t = k vs b.0 b.1 in
        let q : Key IfWord ∷ ts ≡ print_stmt (IfElse c y.0 b.0.0) ++ b.0.1 = ap (cons (Key IfWord)) (p ∙ ap (λ (u : List Token). print_condition c ++ u) (s.parts ∙ ap (λ (u : List Token). print_stmt y.0 ++ u) (else_ok y.1 vs at ∙ ap (cons (Key ElseWord)) t.parts)) ∙ group2 (print c) (print_stmt y.0) (print_stmt b.0.0) b.0.1) in
        subst (ToldStmt (suc d) (Key IfWord ∷ ts)) (ok_is (IfElse c y.0 b.0.0, b.0.1) x b.2) (record { parts = q; fine = (f, s.fine, t.fine, not_dangling (dangles y.0) y.1 vs s.closed at); closed = t.closed; small = omega arith })

loop_sound : (d : ℕ) (expr : Reader) (stmt : StmtReader) → IsSound d expr → IsSoundStmt d stmt → (ts : List Token) (x : Stmt × List Token) → loop_at expr stmt ts ≡ Ok x → ToldStmt (suc d) (Key WhileWord ∷ ts) x
loop_sound d expr stmt h k ts x e =
    let c = bind_ok (condition_at expr ts) (λ c. stmt c.1 >>= λ x. Ok (While c.0 x.0, x.1)) x e in
    let a = bind_ok (stmt c.0.1) (λ x. Ok (While c.0.0 x.0, x.1)) x c.2 in
    let t = condition_sound d expr h ts c.0 c.1 in
    let s = k c.0.1 a.0 a.1 in
    let q : Key WhileWord ∷ ts ≡ print_stmt (While c.0.0 a.0.0) ++ a.0.1 = ap (cons (Key WhileWord)) (t.parts ∙ ap (λ (u : List Token). print_condition c.0.0 ++ u) s.parts ∙ group (print c.0.0) (print_stmt a.0.0) a.0.1) in
    subst (ToldStmt (suc d) (Key WhileWord ∷ ts)) (ok_is (While c.0.0 a.0.0, a.0.1) x a.2) (record { parts = q; fine = (t.fine, s.fine); closed = s.closed; small = omega arith })
  where
    group : (c s r : List Token) → Open ∷ ((c ++ (Close ∷ [])) ++ (s ++ r)) ≡ Open ∷ ((c ++ (Close ∷ s)) ++ r)
    group c s r = simp append_assoc

do_sound : (d : ℕ) (expr : Reader) (stmt : StmtReader) → IsSound d expr → IsSoundStmt d stmt → (ts : List Token) (x : Stmt × List Token) → do_at expr stmt ts ≡ Ok x → ToldStmt (suc d) (Key DoWord ∷ ts) x
do_sound d expr stmt h k ts x e =
    let a = bind_ok (stmt ts) (λ x. while_at x.1 >>= λ us. condition_at expr us >>= λ c. Ok (Do x.0 c.0, c.1)) x e in
    let w = bind_ok (while_at a.0.1) (λ us. condition_at expr us >>= λ c. Ok (Do a.0.0 c.0, c.1)) x a.2 in
    let c = bind_ok (condition_at expr w.0) (λ c. Ok (Do a.0.0 c.0, c.1)) x w.2 in
    let s = k ts a.0 a.1 in
    let t = condition_sound d expr h w.0 c.0 c.1 in
    let q : Key DoWord ∷ ts ≡ print_stmt (Do a.0.0 c.0.0) ++ c.0.1 = ap (cons (Key DoWord)) (s.parts ∙ ap (λ (u : List Token). print_stmt a.0.0 ++ u) (while_ok a.0.1 w.0 w.1 ∙ ap (cons (Key WhileWord)) t.parts) ∙ regroup2 (print_stmt a.0.0) (Key WhileWord ∷ print_condition c.0.0) c.0.1) in
    subst (ToldStmt (suc d) (Key DoWord ∷ ts)) (ok_is (Do a.0.0 c.0.0, c.0.1) x c.2) (record { parts = q; fine = (s.fine, t.fine); closed = λ i. absurd (false_true i); small = omega arith })

leave_sound : (d : ℕ) (expr : Reader) → IsSound d expr → (l : Leaving) (ts : List Token) (x : Stmt × List Token) → leave_at expr l ts ≡ Ok x → ToldStmt (suc d) (leaving_token l ∷ ts) x
leave_sound d expr h l ts x e =
    let a = bind_ok (maybe_at expr ts) (λ x. semicolon_at x.1 >>= λ us. Ok (Leave l x.0, us)) x e in
    let b = bind_ok (semicolon_at a.0.1) (λ us. Ok (Leave l a.0.0, us)) x a.2 in
    let s = maybe_sound d expr h ts a.0 a.1 in
    let q : leaving_token l ∷ ts ≡ print_stmt (Leave l a.0.0) ++ b.0 = ap (cons (leaving_token l)) (s.parts ∙ ap (λ (u : List Token). print_maybe a.0.0 ++ u) (semicolon_ok a.0.1 b.0 b.1) ∙ regroup2 (print_maybe a.0.0) (Semicolon ∷ []) b.0) in
    subst (ToldStmt (suc d) (leaving_token l ∷ ts)) (ok_is (Leave l a.0.0, b.0) x b.2) (record { parts = q; fine = s.fine; closed = λ i. absurd (false_true i); small = omega arith })

jump_sound : (d : ℕ) (j : Jump) (ts : List Token) (x : Stmt × List Token) → jump_at j ts ≡ Ok x → ToldStmt (suc d) (jump_token j ∷ ts) x
jump_sound d j ts x e =
    let b = bind_ok (semicolon_at ts) (λ us. Ok (Jumping j, us)) x e in
    subst (ToldStmt (suc d) (jump_token j ∷ ts)) (ok_is (Jumping j, b.0) x b.2) (record { parts = ap (cons (jump_token j)) (semicolon_ok ts b.0 b.1); fine = tt; closed = λ i. absurd (false_true i); small = omega arith })

simple_sound : (d : ℕ) (expr : Reader) → IsSound d expr → (ts : List Token) (x : Stmt × List Token) → simple_at expr ts ≡ Ok x → ToldStmt (suc d) ts x
simple_sound d expr h ts x e =
    let a = bind_ok (plain_at expr ts) (λ x. semicolon_at x.1 >>= λ us. Ok (Simple x.0, us)) x e in
    let b = bind_ok (semicolon_at a.0.1) (λ us. Ok (Simple a.0.0, us)) x a.2 in
    let s = plain_sound d expr h ts a.0 a.1 in
    let q : ts ≡ print_stmt (Simple a.0.0) ++ b.0 = s.parts ∙ ap (λ (u : List Token). print_plain a.0.0 ++ u) (semicolon_ok a.0.1 b.0 b.1) ∙ regroup2 (print_plain a.0.0) (Semicolon ∷ []) b.0 in
    subst (ToldStmt (suc d) ts) (ok_is (Simple a.0.0, b.0) x b.2) (record { parts = q; fine = s.fine; closed = λ i. absurd (false_true i); small = omega arith })

block_sound : (d : ℕ) (stmt : StmtReader) → IsSoundStmt d stmt → (ts : List Token) (x : Stmt × List Token) → block_at stmt ts ≡ Ok x → ToldStmt (suc d) (OpenBrace ∷ ts) x
block_sound d stmt k ts x e =
    let a = bind_ok (stmts_at stmt (length ts) ts) (λ x. Ok (Block x.0, x.1)) x e in
    let s = stmts_sound d stmt k (length ts) ts a.0 a.1 in
    subst (ToldStmt (suc d) (OpenBrace ∷ ts)) (ok_is (Block a.0.0, a.0.1) x a.2) (record { parts = ap (cons OpenBrace) s.parts; fine = s.fine; closed = λ i. absurd (false_true i); small = omega arith })

for_small : (a b c e d : ℕ) → a ≤ d → b ≤ d → c ≤ d → e ≤ d → max (max a b) (max c e) + 1 ≤ suc d
for_small a b c e d ha hb hc he = omega arith

-- what follows the second `;` of a `for`
abbrev for_step : Reader → StmtReader → Option Plain → Option Tree → List Token → Read Stmt
for_step expr stmt i c ts = maybe_plain_at expr ts >>= λ p. close_at p.1 >>= λ ws. stmt ws >>= λ x. Ok (For i c p.0 x.0, x.1)

-- what follows the first `;` of a `for`
abbrev for_test : Reader → StmtReader → Option Plain → List Token → Read Stmt
for_test expr stmt i ts = maybe_at expr ts >>= λ c. semicolon_at c.1 >>= λ us. for_step expr stmt i c.0 us

record ToldStep (d : ℕ) (i : Option Plain) (c : Option Tree) (ts : List Token) (x : Stmt × List Token) : Type 0 where
  pub p : Option Plain
  pub s : Stmt
  pub whole : (For i c p s, x.1) ≡ x
  pub parts : ts ≡ print_maybe_plain p ++ (Close ∷ (print_stmt s ++ x.1))
  pub fine : IsMaybePlain p × IsStmt s
  pub closed : dangles s ≡ true → else_at x.1 ≡ None
  pub small : (maybe_plain_depth p ≤ d) × (stmt_depth s ≤ d)

record ToldTest (d : ℕ) (i : Option Plain) (ts : List Token) (x : Stmt × List Token) : Type 0 where
  pub c : Option Tree
  pub us : List Token
  pub parts : ts ≡ print_maybe c ++ (Semicolon ∷ us)
  pub fine : IsMaybe c
  pub small : maybe_depth c ≤ d
  pub step : ToldStep d i c us x

for_step_sound : (d : ℕ) (expr : Reader) (stmt : StmtReader) → IsSound d expr → IsSoundStmt d stmt → (i : Option Plain) (c : Option Tree) (ts : List Token) (x : Stmt × List Token) → for_step expr stmt i c ts ≡ Ok x → ToldStep d i c ts x
for_step_sound d expr stmt h k i c ts x e =
    let v = bind_ok (maybe_plain_at expr ts) (λ p. close_at p.1 >>= λ ws. stmt ws >>= λ x. Ok (For i c p.0 x.0, x.1)) x e in
    let w = bind_ok (close_at v.0.1) (λ ws. stmt ws >>= λ x. Ok (For i c v.0.0 x.0, x.1)) x v.2 in
    let a = bind_ok (stmt w.0) (λ x. Ok (For i c v.0.0 x.0, x.1)) x w.2 in
    let sv = maybe_plain_sound d expr h ts v.0 v.1 in
    let s = k w.0 a.0 a.1 in
    let q : ts ≡ print_maybe_plain v.0.0 ++ (Close ∷ (print_stmt a.0.0 ++ a.0.1)) = sv.parts ∙ ap (λ (u : List Token). print_maybe_plain v.0.0 ++ u) (close_ok v.0.1 w.0 w.1 ∙ ap (cons Close) s.parts) in
    subst (ToldStep d i c ts) (ok_is (For i c v.0.0 a.0.0, a.0.1) x a.2) (record { p = v.0.0; s = a.0.0; whole = refl; parts = q; fine = (sv.fine, s.fine); closed = s.closed; small = (sv.small, s.small) })

for_test_sound : (d : ℕ) (expr : Reader) (stmt : StmtReader) → IsSound d expr → IsSoundStmt d stmt → (i : Option Plain) (ts : List Token) (x : Stmt × List Token) → for_test expr stmt i ts ≡ Ok x → ToldTest d i ts x
for_test_sound d expr stmt h k i ts x e =
    let c = bind_ok (maybe_at expr ts) (λ c. semicolon_at c.1 >>= λ us. for_step expr stmt i c.0 us) x e in
    let n = bind_ok (semicolon_at c.0.1) (λ us. for_step expr stmt i c.0.0 us) x c.2 in
    let sc = maybe_sound d expr h ts c.0 c.1 in
    record { c = c.0.0; us = n.0; parts = sc.parts ∙ ap (λ (u : List Token). print_maybe c.0.0 ++ u) (semicolon_ok c.0.1 n.0 n.1); fine = sc.fine; small = sc.small; step = for_step_sound d expr stmt h k i c.0.0 n.0 x n.2 }

-- the parts of a `for` put together
for_told : (i : Option Plain) (c : Option Tree) (p : Option Plain) (s : Stmt) (us vs ws rest : List Token) → us ≡ print_maybe_plain i ++ (Semicolon ∷ vs) → vs ≡ print_maybe c ++ (Semicolon ∷ ws) → ws ≡ print_maybe_plain p ++ (Close ∷ (print_stmt s ++ rest)) → Key ForWord ∷ (Open ∷ us) ≡ print_stmt (For i c p s) ++ rest
for_told i c p s us vs ws rest e f g =
    ap (λ (u : List Token). Key ForWord ∷ (Open ∷ u)) (e ∙ ap (λ (u : List Token). print_maybe_plain i ++ (Semicolon ∷ u)) (f ∙ ap (λ (u : List Token). print_maybe c ++ (Semicolon ∷ u)) g) ∙ group (print_maybe_plain i) (print_maybe c) (print_maybe_plain p) (print_stmt s) rest)
  where
    group : (a b c s r : List Token) → a ++ (Semicolon ∷ (b ++ (Semicolon ∷ (c ++ (Close ∷ (s ++ r)))))) ≡ (a ++ (Semicolon ∷ (b ++ (Semicolon ∷ (c ++ (Close ∷ s)))))) ++ r
    group a b c s r = simp append_assoc

for_sound : (d : ℕ) (expr : Reader) (stmt : StmtReader) → IsSound d expr → IsSoundStmt d stmt → (ts : List Token) (x : Stmt × List Token) → for_at expr stmt ts ≡ Ok x → ToldStmt (suc d) (Key ForWord ∷ ts) x
for_sound d expr stmt h k ts x e =
    let o = bind_ok (open_here ts) (λ us. for_by expr stmt us (keys_at us)) x e in
    by o.0 (open_here_ok ts o.0 o.1) (keys_at o.0) refl o.2
  where
    by : (us : List Token) → ts ≡ Open ∷ us → (q : Option (List ℕ × List ℕ × List Token)) → keys_at us ≡ q → for_by expr stmt us q ≡ Ok x → ToldStmt (suc d) (Key ForWord ∷ ts) x
    by us p (Some q) at e =
        let a = bind_ok (stmt q.2) (λ x. Ok (ForIn q.0 q.1 x.0, x.1)) x e in
        let s = k q.2 a.0 a.1 in
        let r : Key ForWord ∷ ts ≡ print_stmt (ForIn q.0 q.1 a.0.0) ++ a.0.1 = ap (cons (Key ForWord)) (p ∙ ap (cons Open) (keys_ok us q at ∙ ap (λ (u : List Token). Name q.0 ∷ (InWord ∷ (Name q.1 ∷ (Close ∷ u)))) s.parts)) in
        subst (ToldStmt (suc d) (Key ForWord ∷ ts)) (ok_is (ForIn q.0 q.1 a.0.0, a.0.1) x a.2) (record { parts = r; fine = s.fine; closed = s.closed; small = omega arith })
    by us p None at e =
        let i = bind_ok (maybe_plain_at expr us) (λ i. semicolon_at i.1 >>= λ vs. for_test expr stmt i.0 vs) x e in
        let m = bind_ok (semicolon_at i.0.1) (λ vs. for_test expr stmt i.0.0 vs) x i.2 in
        let si = maybe_plain_sound d expr h us i.0 i.1 in
        put i.0.0 us m.0 p (si.parts ∙ ap (λ (u : List Token). print_maybe_plain i.0.0 ++ u) (semicolon_ok i.0.1 m.0 m.1)) si.fine si.small (for_test_sound d expr stmt h k i.0.0 m.0 x m.2)
      where
        put : (i : Option Plain) (us vs : List Token) → ts ≡ Open ∷ us → us ≡ print_maybe_plain i ++ (Semicolon ∷ vs) → IsMaybePlain i → maybe_plain_depth i ≤ d → ToldTest d i vs x → ToldStmt (suc d) (Key ForWord ∷ ts) x
        put i us vs p q f le t =
            let s = t.step in
            let r : Key ForWord ∷ ts ≡ print_stmt (For i t.c s.p s.s) ++ x.1 = ap (cons (Key ForWord)) p ∙ for_told i t.c s.p s.s us vs t.us x.1 q t.parts s.parts in
            subst (ToldStmt (suc d) (Key ForWord ∷ ts)) s.whole (record { parts = r; fine = (f, t.fine, s.fine.0, s.fine.1); closed = s.closed; small = for_small (maybe_plain_depth i) (maybe_depth t.c) (maybe_plain_depth s.p) (stmt_depth s.s) d le t.small s.small.0 s.small.1 })

one_sound : (d : ℕ) (expr : Reader) (stmt : StmtReader) → IsSound d expr → IsSoundStmt d stmt → (ts : List Token) (x : Stmt × List Token) → one_at expr stmt ts ≡ Ok x → ToldStmt (suc d) ts x
one_sound d expr stmt h k (OpenBrace ∷ ts) x e = block_sound d stmt k ts x e
one_sound d expr stmt h k (Semicolon ∷ ts) x e = subst (ToldStmt (suc d) (Semicolon ∷ ts)) (ok_is (Empty, ts) x e) (record { parts = refl; fine = tt; closed = λ i. absurd (false_true i); small = omega arith })
one_sound d expr stmt h k (Key IfWord ∷ ts) x e = if_sound d expr stmt h k ts x e
one_sound d expr stmt h k (Key WhileWord ∷ ts) x e = loop_sound d expr stmt h k ts x e
one_sound d expr stmt h k (Key DoWord ∷ ts) x e = do_sound d expr stmt h k ts x e
one_sound d expr stmt h k (Key ForWord ∷ ts) x e = for_sound d expr stmt h k ts x e
one_sound d expr stmt h k (Key BreakWord ∷ ts) x e = jump_sound d Break ts x e
one_sound d expr stmt h k (Key ContinueWord ∷ ts) x e = jump_sound d Continue ts x e
one_sound d expr stmt h k (Key NextWord ∷ ts) x e = jump_sound d Next ts x e
one_sound d expr stmt h k (Key NextFileWord ∷ ts) x e = jump_sound d NextFile ts x e
one_sound d expr stmt h k (Key ExitWord ∷ ts) x e = leave_sound d expr h Exit ts x e
one_sound d expr stmt h k (Key ReturnWord ∷ ts) x e = leave_sound d expr h Return ts x e
one_sound d expr stmt h k ts x e = simple_sound d expr h ts x e

pub stmt_sound : (d : ℕ) → IsSoundStmt d (stmt_at d)
unfolding stmt_at
stmt_sound zero ts x e = absurd cc
stmt_sound (suc d) ts x e = one_sound d (expr_at d) (stmt_at d) (expr_sound d) (stmt_sound d) ts x e
