-- Statements that are well formed and not too deep are read.
use Rattle.std.proofs.Common.{◌≡◌, ℕ, zero, suc, ◌<◌, ◌≤◌, max, Bool, true, false, cond, List, [], ◌∷◌, ◌++◌, length, Option, Some, None, Result, Ok, Err, refl, sym, ap, ◌∙◌, append_assoc, arith, length-append}
use Rattle.awk_grammar.specs.Token.{Not, Signed, IfWord, ElseWord, WhileWord, ForWord, DoWord, BreakWord, ContinueWord, NextWord, NextFileWord, ExitWord, ReturnWord, Token, Name, InWord, Open, Close, CloseBracket, OpenBrace, CloseBrace, Comma, Semicolon, Question, Colon, StepMark, Key}
use Rattle.awk_grammar.specs.Reading.{Fault, Syntax, ◌>>=◌, Reader, close_at, bracket_at, comma_at, list_at, expr_at}
use Rattle.awk_grammar.specs.Tree.{op_tokens, print, print_list, print_more, Whole, AfterCompare, fits, takes, IsWellFormed}
use Rattle.awk_grammar.specs.Trees.{Tree, Var, Group, Unary, Post, Bin, Has, HasList, Cond, Trees, NoTree, Then, depth, Printing, Print, Printf, Args, NoArgs, Listed, Enclosed, Target, NoTarget, Written, Appended, Plain, Eval, Put, Delete, Clear, Jump, Break, Continue, Next, NextFile, Leaving, Exit, Return, Stmt, Block, Empty, Simple, If, IfElse, While, Do, For, ForIn, Jumping, Leave, Stmts, NoStmt, And, args_depth, target_depth, plain_depth, maybe_depth, maybe_plain_depth, stmt_depth, stmts_depth}
use Rattle.awk_grammar.specs.Stmt.{print_args, print_target, print_plain, print_maybe, print_maybe_plain, print_stmt, print_stmts, IsArgs, IsTarget, IsPlain, IsMaybe, IsMaybePlain, dangles, IsStmt, AreStmts}
use Rattle.awk_grammar.specs.ReadStmt.{Read, semicolon_at, while_at, else_at, brace_at, is_in, starts_expr, starts_plain, enclosed_at, listed_at, args_by, no_args, args_at, target_at, put_at, delete_by, eval_at, plain_at, maybe_at, maybe_plain_at, StmtReader, stmts_by, stmts_at, condition_at, else_by, if_at, loop_at, do_at, keys_at, for_by, leave_at, simple_at, block_at, one_at, stmt_at}
use Rattle.awk_grammar.proofs.Complete.{Closing, reads, reads_whole, again, again_list, some_not_none, takes_free}

-- ---- beginnings

pub starts_print : (t : Tree) (r : List Token) → starts_expr (print t ++ r) ≡ true
starts_print (Post s t) r = rw append_assoc (starts_print t ((StepMark s ∷ []) ++ r))
starts_print (Bin op a b) r = rw append_assoc (starts_print a ((op_tokens op ++ print b) ++ r))
starts_print (Has a n) r = rw append_assoc (starts_print a ((InWord ∷ (Name n ∷ [])) ++ r))
starts_print (Cond a b c) r = rw append_assoc (starts_print a ((Question ∷ (print b ++ (Colon ∷ print c))) ++ r))
starts_print (Unary Not t) r = refl
starts_print (Unary (Signed s) t) r = refl
starts_print _ r = refl

expr_plain : (ts : List Token) → starts_expr ts ≡ true → starts_plain ts ≡ true
expr_plain (Key k ∷ ts) h = absurd cc
expr_plain [] h = h
expr_plain _ h = h

is_eval : (expr : Reader) (ts : List Token) → starts_expr ts ≡ true → plain_at expr ts ≡ eval_at expr ts
is_eval expr (Key k ∷ ts) h = absurd cc
is_eval expr _ h = refl

is_simple : (expr : Reader) (stmt : StmtReader) (ts : List Token) → starts_plain ts ≡ true → one_at expr stmt ts ≡ simple_at expr ts
is_simple expr stmt (OpenBrace ∷ ts) h = absurd cc
is_simple expr stmt (Semicolon ∷ ts) h = absurd cc
is_simple expr stmt (Key IfWord ∷ ts) h = absurd cc
is_simple expr stmt (Key WhileWord ∷ ts) h = absurd cc
is_simple expr stmt (Key DoWord ∷ ts) h = absurd cc
is_simple expr stmt (Key ForWord ∷ ts) h = absurd cc
is_simple expr stmt (Key BreakWord ∷ ts) h = absurd cc
is_simple expr stmt (Key ContinueWord ∷ ts) h = absurd cc
is_simple expr stmt (Key NextWord ∷ ts) h = absurd cc
is_simple expr stmt (Key NextFileWord ∷ ts) h = absurd cc
is_simple expr stmt (Key ExitWord ∷ ts) h = absurd cc
is_simple expr stmt (Key ReturnWord ∷ ts) h = absurd cc
is_simple expr stmt _ h = refl

plain_no_brace : (ts : List Token) → starts_plain ts ≡ true → brace_at ts ≡ None
plain_no_brace (CloseBrace ∷ ts) h = absurd cc
plain_no_brace _ h = refl

-- what may follow a plain statement
pub record PlainEnd (rest : List Token) : Type 0 where
  pub wide : Closing true rest
  pub narrow : Closing false rest
  pub comma : comma_at rest ≡ None
  pub starts : starts_expr rest ≡ false
  pub plain : starts_plain rest ≡ false
  pub not_in : is_in rest ≡ false
  pub target : (expr : Reader) → target_at expr rest ≡ Ok (NoTarget, rest)
  pub whole : (expr : Reader) (n : List ℕ) → delete_by expr n rest ≡ Ok (Clear n, rest)

pub semicolon_end : (r : List Token) → PlainEnd (Semicolon ∷ r)
semicolon_end r = record { wide = record { none = refl; free = refl }; narrow = record { none = refl; free = refl }; comma = refl; starts = refl; plain = refl; not_in = refl; target = λ e. refl; whole = λ e n. refl }

close_end : (r : List Token) → PlainEnd (Close ∷ r)
close_end r = record { wide = record { none = refl; free = refl }; narrow = record { none = refl; free = refl }; comma = refl; starts = refl; plain = refl; not_in = refl; target = λ e. refl; whole = λ e n. refl }

-- ---- print

reads_concat : (d : ℕ) (t : Tree) (rest : List Token) → IsWellFormed true t → fits AfterCompare t ≡ true → depth t ≤ d → Closing true rest → expr_at d true AfterCompare (print t ++ rest) ≡ Ok (t, rest)
reads_concat d t rest f w s c = reads d true AfterCompare t rest (again t) f w s (λ n o q. absurd (some_not_none o (sym q ∙ c.none))) (ap (takes true t) c.free ∙ takes_free true t) (λ o q. absurd (some_not_none o (sym q ∙ c.none)))

target_again : (t : Target) (d : ℕ) (rest : List Token) → IsTarget t → target_depth t ≤ d → PlainEnd rest → target_at (expr_at d) (print_target t ++ rest) ≡ Ok (t, rest)
target_again NoTarget d rest f s p = p.target (expr_at d)
target_again (Written t) d rest f s p = rw (reads_concat d t rest f.0 f.1 s p.wide) refl
target_again (Appended t) d rest f s p = rw (reads_concat d t rest f.0 f.1 s p.wide) refl

-- what may follow the operands of `print`
record ArgsEnd (rest : List Token) : Type 0 where
  narrow : Closing false rest
  comma : comma_at rest ≡ None
  starts : starts_expr rest ≡ false
  not_in : is_in rest ≡ false

target_end : (t : Target) (rest : List Token) → PlainEnd rest → ArgsEnd (print_target t ++ rest)
target_end NoTarget rest p = record { narrow = p.narrow; comma = p.comma; starts = p.starts; not_in = p.not_in }
target_end (Written t) rest p = record { narrow = record { none = refl; free = refl }; comma = refl; starts = refl; not_in = refl }
target_end (Appended t) rest p = record { narrow = record { none = refl; free = refl }; comma = refl; starts = refl; not_in = refl }

abbrev Both : Type 0
Both = Read (Tree × Trees)

not_enclosed : (t : Tree) (d : ℕ) (g : Bool) (r : List Token) → IsWellFormed g t → depth t ≤ d → enclosed_at (expr_at d) (print t ++ r) ≡ Err Syntax
not_enclosed (Post s t) d g r f h = rw append_assoc (not_enclosed t d g ((StepMark s ∷ []) ++ r) f.0 (omega arith))
not_enclosed (Bin op a b) d g r f h = rw append_assoc (not_enclosed a d g ((op_tokens op ++ print b) ++ r) f.0 (omega arith))
not_enclosed (Has a n) d g r f h = rw append_assoc (not_enclosed a d g ((InWord ∷ (Name n ∷ [])) ++ r) f.0 (omega arith))
not_enclosed (Cond a b c) d g r f h = rw append_assoc (not_enclosed a d g ((Question ∷ (print b ++ (Colon ∷ print c))) ++ r) f.0 (omega arith))
not_enclosed (Unary Not t) d g r f h = refl
not_enclosed (Unary (Signed s) t) d g r f h = refl
not_enclosed (Group t) d g r f h =
    let one : expr_at d true Whole (print t ++ (Close ∷ r)) ≡ Ok (t, Close ∷ r) = reads_whole d true t (Close ∷ r) (again t) f (omega arith) (record { none = refl; free = refl }) in
    let all : expr_at d true Whole ((print t ++ (Close ∷ [])) ++ r) ≡ Ok (t, Close ∷ r) = rw append_assoc one in
    rw all refl
not_enclosed (HasList t ts n) d g r f h =
    let last = Close ∷ (InWord ∷ (Name n ∷ r)) in
    let one : expr_at d true Whole (print t ++ (Comma ∷ (print_list ts ++ (Close ∷ (InWord ∷ (Name n ∷ r)))))) ≡ Ok (t, Comma ∷ (print_list ts ++ (Close ∷ (InWord ∷ (Name n ∷ r))))) = reads_whole d true t (Comma ∷ (print_list ts ++ (Close ∷ (InWord ∷ (Name n ∷ r))))) (again t) f.0 (omega arith) (record { none = refl; free = refl }) in
    let others : list_at (expr_at d) true (print_list ts ++ (Close ∷ (InWord ∷ (Name n ∷ r)))) ≡ Ok (ts, Close ∷ (InWord ∷ (Name n ∷ r))) = again_list ts f.2 d true (Close ∷ (InWord ∷ (Name n ∷ r))) f.1 (omega arith) (record { none = refl; free = refl }) refl in
    let all : expr_at d true Whole ((print t ++ (Comma ∷ (print_list ts ++ (Close ∷ (InWord ∷ (Name n ∷ [])))))) ++ r) ≡ Ok (t, Comma ∷ (print_list ts ++ (Close ∷ (InWord ∷ (Name n ∷ r))))) = ap (expr_at d true Whole) (regroup (print t) (print_list ts)) ∙ one in
    let tail : (list_at (expr_at d) true (print_list ts ++ (Close ∷ (InWord ∷ (Name n ∷ r)))) >>= λ y. close_at y.1 >>= λ ws. cond (is_in ws) (Err Syntax) (Ok ((t, y.0), ws))) ≡ Err Syntax = ap (λ (q : Result (Trees × List Token) Fault). q >>= λ y. close_at y.1 >>= λ ws. cond (is_in ws) (Err Syntax) (Ok ((t, y.0), ws))) others in
    rw all tail
  where
    regroup : (a b : List Token) → (a ++ (Comma ∷ (b ++ (Close ∷ (InWord ∷ (Name n ∷ [])))))) ++ r ≡ a ++ (Comma ∷ (b ++ (Close ∷ (InWord ∷ (Name n ∷ r)))))
    regroup a b = simp append_assoc
not_enclosed _ d g r f h = refl

args_again : (p : Printing) (a : Args) (d : ℕ) (rest : List Token) → IsArgs p a → args_depth a ≤ d → ArgsEnd rest → args_at (expr_at d) p (print_args a ++ rest) ≡ Ok (a, rest)
args_again Print NoArgs d rest f s e = rw e.starts refl
args_again Printf NoArgs d rest f s e = absurd f
args_again p (Listed NoTree) d rest f s e = absurd f.1
args_again p (Listed (Then t ts)) d rest f s e =
    let no : enclosed_at (expr_at d) (print t ++ (print_more ts ++ rest)) ≡ Err Syntax = not_enclosed t d false (print_more ts ++ rest) f.0.0 (omega arith) in
    let not_now : enclosed_at (expr_at d) ((print t ++ print_more ts) ++ rest) ≡ Err Syntax = rw append_assoc no in
    let start : starts_expr ((print t ++ print_more ts) ++ rest) ≡ true = rw append_assoc (starts_print t (print_more ts ++ rest)) in
    let all : list_at (expr_at d) false ((print t ++ print_more ts) ++ rest) ≡ Ok (Then t ts, rest) = again_list (Then t ts) tt d false rest f.0 s e.narrow e.comma in
    let listed : listed_at (expr_at d) ((print t ++ print_more ts) ++ rest) ≡ Ok (Listed (Then t ts), rest) = ap (λ (q : Result (Trees × List Token) Fault). q >>= λ x. Ok (Listed x.0, x.1)) all in
    ap (λ b. cond b (args_by (expr_at d) ((print t ++ print_more ts) ++ rest) (enclosed_at (expr_at d) ((print t ++ print_more ts) ++ rest))) (no_args p ((print t ++ print_more ts) ++ rest))) start
    ∙ ap (args_by (expr_at d) ((print t ++ print_more ts) ++ rest)) not_now ∙ listed
args_again p (Enclosed t ts) d rest f s e =
    let one : expr_at d true Whole (print t ++ (Comma ∷ (print_list ts ++ (Close ∷ rest)))) ≡ Ok (t, Comma ∷ (print_list ts ++ (Close ∷ rest))) = reads_whole d true t (Comma ∷ (print_list ts ++ (Close ∷ rest))) (again t) f.0 (omega arith) (record { none = refl; free = refl }) in
    let others : list_at (expr_at d) true (print_list ts ++ (Close ∷ rest)) ≡ Ok (ts, Close ∷ rest) = again_list ts f.2 d true (Close ∷ rest) f.1 (omega arith) (record { none = refl; free = refl }) refl in
    let all : expr_at d true Whole ((print t ++ (Comma ∷ (print_list ts ++ (Close ∷ [])))) ++ rest) ≡ Ok (t, Comma ∷ (print_list ts ++ (Close ∷ rest))) = ap (expr_at d true Whole) (regroup (print t) (print_list ts)) ∙ one in
    let last : cond (is_in rest) (Err Syntax) (Ok ((t, ts), rest)) ≡ Ok ((t, ts), rest) = rw e.not_in refl in
    let tail : (list_at (expr_at d) true (print_list ts ++ (Close ∷ rest)) >>= λ y. close_at y.1 >>= λ ws. cond (is_in ws) (Err Syntax) (Ok ((t, y.0), ws))) ≡ Ok ((t, ts), rest) = ap (λ (q : Result (Trees × List Token) Fault). q >>= λ y. close_at y.1 >>= λ ws. cond (is_in ws) (Err Syntax) (Ok ((t, y.0), ws))) others ∙ last in
    let enclosed : enclosed_at (expr_at d) (Open ∷ ((print t ++ (Comma ∷ (print_list ts ++ (Close ∷ [])))) ++ rest)) ≡ Ok ((t, ts), rest) = rw all tail in
    ap (args_by (expr_at d) (Open ∷ ((print t ++ (Comma ∷ (print_list ts ++ (Close ∷ [])))) ++ rest))) enclosed
  where
    regroup : (a b : List Token) → (a ++ (Comma ∷ (b ++ (Close ∷ [])))) ++ rest ≡ a ++ (Comma ∷ (b ++ (Close ∷ rest)))
    regroup a b = simp append_assoc

put_again : (p : Printing) (a : Args) (t : Target) (d : ℕ) (rest : List Token) → IsArgs p a → IsTarget t → args_depth a ≤ d → target_depth t ≤ d → PlainEnd rest → put_at (expr_at d) p ((print_args a ++ print_target t) ++ rest) ≡ Ok (Put p a t, rest)
put_again p a t d rest f g s u e =
    let one : args_at (expr_at d) p (print_args a ++ (print_target t ++ rest)) ≡ Ok (a, print_target t ++ rest) = args_again p a d (print_target t ++ rest) f s (target_end t rest e) in
    let two : target_at (expr_at d) (print_target t ++ rest) ≡ Ok (t, rest) = target_again t d rest g u e in
    let next : (target_at (expr_at d) (print_target t ++ rest) >>= λ y. Ok (Put p a y.0, y.1)) ≡ Ok (Put p a t, rest) = ap (λ (q : Read Target). q >>= λ y. Ok (Put p a y.0, y.1)) two in
    ap (put_at (expr_at d) p) (append_assoc (print_args a) (print_target t) rest) ∙ ap (λ (q : Read Args). q >>= λ x. target_at (expr_at d) x.1 >>= λ y. Ok (Put p x.0 y.0, y.1)) one ∙ next

pub plain_again : (p : Plain) (d : ℕ) (rest : List Token) → IsPlain p → plain_depth p ≤ d → PlainEnd rest → plain_at (expr_at d) (print_plain p ++ rest) ≡ Ok (p, rest)
plain_again (Eval t) d rest f s e =
    let one : expr_at d true Whole (print t ++ rest) ≡ Ok (t, rest) = reads_whole d true t rest (again t) f s e.wide in
    is_eval (expr_at d) (print t ++ rest) (starts_print t rest) ∙ ap (λ (q : Read Tree). q >>= λ x. Ok (Eval x.0, x.1)) one
plain_again (Put Print a t) d rest f s e = put_again Print a t d rest f.0 f.1 (omega arith) (omega arith) e
plain_again (Put Printf a t) d rest f s e = put_again Printf a t d rest f.0 f.1 (omega arith) (omega arith) e
plain_again (Delete n ts) d rest f s e =
    let one : list_at (expr_at d) true (print_list ts ++ (CloseBracket ∷ rest)) ≡ Ok (ts, CloseBracket ∷ rest) = again_list ts f.1 d true (CloseBracket ∷ rest) f.0 (omega arith) (record { none = refl; free = refl }) refl in
    let all : list_at (expr_at d) true ((print_list ts ++ (CloseBracket ∷ [])) ++ rest) ≡ Ok (ts, CloseBracket ∷ rest) = rw append_assoc one in
    ap (λ (q : Read Trees). q >>= λ x. bracket_at x.1 >>= λ us. Ok (Delete n x.0, us)) all
plain_again (Clear n) d rest f s e = e.whole (expr_at d) n

starts_plain_print : (p : Plain) (r : List Token) → starts_plain (print_plain p ++ r) ≡ true
starts_plain_print (Eval t) r = expr_plain (print t ++ r) (starts_print t r)
starts_plain_print (Put Print a t) r = refl
starts_plain_print (Put Printf a t) r = refl
starts_plain_print (Delete n ts) r = refl
starts_plain_print (Clear n) r = refl

maybe_again : (e : Option Tree) (d : ℕ) (rest : List Token) → IsMaybe e → maybe_depth e ≤ d → PlainEnd rest → maybe_at (expr_at d) (print_maybe e ++ rest) ≡ Ok (e, rest)
maybe_again None d rest f s e = rw e.starts refl
maybe_again (Some t) d rest f s e =
    let one : expr_at d true Whole (print t ++ rest) ≡ Ok (t, rest) = reads_whole d true t rest (again t) f s e.wide in
    rw (starts_print t rest, one) refl

maybe_plain_again : (e : Option Plain) (d : ℕ) (rest : List Token) → IsMaybePlain e → maybe_plain_depth e ≤ d → PlainEnd rest → maybe_plain_at (expr_at d) (print_maybe_plain e ++ rest) ≡ Ok (e, rest)
maybe_plain_again None d rest f s e = rw e.plain refl
maybe_plain_again (Some p) d rest f s e =
    let one : plain_at (expr_at d) (print_plain p ++ rest) ≡ Ok (p, rest) = plain_again p d rest f s e in
    ap (λ b. cond b (plain_at (expr_at d) (print_plain p ++ rest) >>= λ x. Ok (Some x.0, x.1)) (Ok (None, print_plain p ++ rest))) (starts_plain_print p rest) ∙ ap (λ (q : Read Plain). q >>= λ x. Ok (Some x.0, x.1)) one

-- ---- `for`

pub keys_ok : (ts : List Token) (o : List ℕ × List ℕ × List Token) → keys_at ts ≡ Some o → ts ≡ Name o.0 ∷ (InWord ∷ (Name o.1 ∷ (Close ∷ o.2)))
keys_ok (Name k ∷ (InWord ∷ (Name a ∷ (Close ∷ ts)))) o e = ap (λ p. elim p as (λ _. List Token) [ None ↦ Name k ∷ (InWord ∷ (Name a ∷ (Close ∷ ts))) | Some q ↦ Name q.0 ∷ (InWord ∷ (Name q.1 ∷ (Close ∷ q.2))) ]) e
keys_ok _ o e = absurd cc

abbrev IsOk : {A : Type 0} → A → Result A Fault
IsOk x = Ok x

ok_second : (x y : Tree × List Token) → IsOk x ≡ IsOk y → x.1 ≡ y.1
ok_second x y e = let f : x ≡ y = cc in ap (λ (z : Tree × List Token). z.1) f

semicolon_close : (r s : List Token) → Semicolon ∷ r ≡ Close ∷ s → ⊥
semicolon_close r s e = cc

-- two readings of one list would go on with different tokens
keys_eval : (t : Tree) (r : List Token) → IsWellFormed true t → keys_at (print t ++ (Semicolon ∷ r)) ≡ None
keys_eval t r f = by (keys_at (print t ++ (Semicolon ∷ r))) refl
  where
    by : (o : Option (List ℕ × List ℕ × List Token)) → keys_at (print t ++ (Semicolon ∷ r)) ≡ o → o ≡ None
    by None e = refl
    by (Some o) e =
        let d = max (depth t) 2 in
        let u = Has (Var o.0) o.1 in
        let same : print t ++ (Semicolon ∷ r) ≡ print u ++ (Close ∷ o.2) = keys_ok (print t ++ (Semicolon ∷ r)) o e in
        let one : expr_at d true Whole (print t ++ (Semicolon ∷ r)) ≡ Ok (t, Semicolon ∷ r) = reads_whole d true t (Semicolon ∷ r) (again t) f (omega arith) (record { none = refl; free = refl }) in
        let two : expr_at d true Whole (print u ++ (Close ∷ o.2)) ≡ Ok (u, Close ∷ o.2) = reads_whole d true u (Close ∷ o.2) (again u) (tt, omega arith) (omega arith) (record { none = refl; free = refl }) in
        absurd (semicolon_close r o.2 (ok_second (t, Semicolon ∷ r) (u, Close ∷ o.2) (sym one ∙ ap (expr_at d true Whole) same ∙ two)))

keys_none : (p : Option Plain) (r : List Token) → IsMaybePlain p → keys_at (print_maybe_plain p ++ (Semicolon ∷ r)) ≡ None
keys_none None r f = refl
keys_none (Some (Eval t)) r f = keys_eval t r f
keys_none (Some (Put Print a t)) r f = refl
keys_none (Some (Put Printf a t)) r f = refl
keys_none (Some (Delete n ts)) r f = refl
keys_none (Some (Clear n)) r f = refl

-- ---- statements

abbrev pub StmtAgain : Stmt → Type 0
StmtAgain s = (d : ℕ) (rest : List Token) → IsStmt s → stmt_depth s ≤ d → (dangles s ≡ true → else_at rest ≡ None) → stmt_at d (print_stmt s ++ rest) ≡ Ok (s, rest)

abbrev pub StmtsAgain : Stmts → Type 0
StmtsAgain ss = (d w : ℕ) (rest : List Token) → AreStmts ss → stmts_depth ss ≤ d → length (print_stmts ss ++ (CloseBrace ∷ rest)) ≤ w → stmts_at (stmt_at d) w (print_stmts ss ++ (CloseBrace ∷ rest)) ≡ Ok (ss, rest)

stmt_deep : (s : Stmt) → 0 < stmt_depth s
stmt_deep (Block ss) = omega arith
stmt_deep Empty = omega arith
stmt_deep (Simple p) = omega arith
stmt_deep (If c s) = omega arith
stmt_deep (IfElse c s t) = omega arith
stmt_deep (While c s) = omega arith
stmt_deep (Do s c) = omega arith
stmt_deep (For i c p s) = omega arith
stmt_deep (ForIn k a s) = omega arith
stmt_deep (Jumping j) = omega arith
stmt_deep (Leave l e) = omega arith

-- with some depth to spend
abbrev AgainBelow : Stmt → Type 0
AgainBelow s = (d : ℕ) (rest : List Token) → IsStmt s → stmt_depth s ≤ suc d → (dangles s ≡ true → else_at rest ≡ None) → one_at (expr_at d) (stmt_at d) (print_stmt s ++ rest) ≡ Ok (s, rest)

by_depth : (s : Stmt) → AgainBelow s → StmtAgain s
unfolding stmt_at
by_depth s h zero rest f m e = let p = stmt_deep s in absurd (omega arith)
by_depth s h (suc d) rest f m e = h d rest f m e

condition_again : (c : Tree) (d : ℕ) (r : List Token) → IsWellFormed true c → depth c ≤ d → condition_at (expr_at d) (Open ∷ (print c ++ (Close ∷ r))) ≡ Ok (c, r)
condition_again c d r f s =
    let one : expr_at d true Whole (print c ++ (Close ∷ r)) ≡ Ok (c, Close ∷ r) = reads_whole d true c (Close ∷ r) (again c) f s (record { none = refl; free = refl }) in
    rw one refl

stmt_empty : AgainBelow Empty
stmt_empty d rest f m e = refl

stmt_jump : (j : Jump) → AgainBelow (Jumping j)
stmt_jump Break d rest f m e = refl
stmt_jump Continue d rest f m e = refl
stmt_jump Next d rest f m e = refl
stmt_jump NextFile d rest f m e = refl

leave_again : (l : Leaving) (x : Option Tree) (d : ℕ) (rest : List Token) → IsMaybe x → maybe_depth x ≤ d → leave_at (expr_at d) l ((print_maybe x ++ (Semicolon ∷ [])) ++ rest) ≡ Ok (Leave l x, rest)
leave_again l x d rest f m =
    let one : maybe_at (expr_at d) (print_maybe x ++ (Semicolon ∷ rest)) ≡ Ok (x, Semicolon ∷ rest) = maybe_again x d (Semicolon ∷ rest) f m (semicolon_end rest) in
    ap (leave_at (expr_at d) l) (append_assoc (print_maybe x) (Semicolon ∷ []) rest) ∙ ap (λ (q : Read (Option Tree)). q >>= λ x. semicolon_at x.1 >>= λ us. Ok (Leave l x.0, us)) one

stmt_leave : (l : Leaving) (x : Option Tree) → AgainBelow (Leave l x)
stmt_leave Exit x d rest f m e = leave_again Exit x d rest f (omega arith)
stmt_leave Return x d rest f m e = leave_again Return x d rest f (omega arith)

stmt_simple : (p : Plain) → AgainBelow (Simple p)
stmt_simple p d rest f m e =
    let one : plain_at (expr_at d) (print_plain p ++ (Semicolon ∷ rest)) ≡ Ok (p, Semicolon ∷ rest) = plain_again p d (Semicolon ∷ rest) f (omega arith) (semicolon_end rest) in
    ap (one_at (expr_at d) (stmt_at d)) (append_assoc (print_plain p) (Semicolon ∷ []) rest)
    ∙ is_simple (expr_at d) (stmt_at d) (print_plain p ++ (Semicolon ∷ rest)) (starts_plain_print p (Semicolon ∷ rest))
    ∙ ap (λ (q : Read Plain). q >>= λ x. semicolon_at x.1 >>= λ us. Ok (Simple x.0, us)) one

regroup : (a b r : List Token) (k : Token) → (a ++ (k ∷ b)) ++ r ≡ a ++ (k ∷ (b ++ r))
regroup a b r k = append_assoc a (k ∷ b) r

stmt_if : (c : Tree) (s : Stmt) → StmtAgain s → AgainBelow (If c s)
stmt_if c s h d rest f m e =
    let cond_ok : condition_at (expr_at d) (Open ∷ (print c ++ (Close ∷ (print_stmt s ++ rest)))) ≡ Ok (c, print_stmt s ++ rest) = condition_again c d (print_stmt s ++ rest) f.0 (omega arith) in
    let body : stmt_at d (print_stmt s ++ rest) ≡ Ok (s, rest) = h d rest f.1 (omega arith) (λ i. e refl) in
    let last : else_by (stmt_at d) c s rest (else_at rest) ≡ Ok (If c s, rest) = rw (e refl) refl in
    let two : (stmt_at d (print_stmt s ++ rest) >>= λ x. else_by (stmt_at d) c x.0 x.1 (else_at x.1)) ≡ Ok (If c s, rest) = ap (λ (q : Read Stmt). q >>= λ x. else_by (stmt_at d) c x.0 x.1 (else_at x.1)) body ∙ last in
    ap (λ (v : List Token). if_at (expr_at d) (stmt_at d) (Open ∷ v)) (regroup (print c) (print_stmt s) rest Close)
    ∙ ap (λ (q : Read Tree). q >>= λ c. stmt_at d c.1 >>= λ x. else_by (stmt_at d) c.0 x.0 x.1 (else_at x.1)) cond_ok ∙ two

true_false : (b : Bool) → b ≡ false → b ≡ true → ⊥
true_false b h e = cc

stmt_if_else : (c : Tree) (s t : Stmt) → StmtAgain s → StmtAgain t → AgainBelow (IfElse c s t)
stmt_if_else c s t h k d rest f m e =
    let next = Key ElseWord ∷ (print_stmt t ++ rest) in
    let cond_ok : condition_at (expr_at d) (Open ∷ (print c ++ (Close ∷ (print_stmt s ++ next)))) ≡ Ok (c, print_stmt s ++ next) = condition_again c d (print_stmt s ++ next) f.0 (omega arith) in
    let body : stmt_at d (print_stmt s ++ next) ≡ Ok (s, next) = h d next f.1 (omega arith) (λ i. absurd (true_false (dangles s) f.3 i)) in
    let other : stmt_at d (print_stmt t ++ rest) ≡ Ok (t, rest) = k d rest f.2 (omega arith) e in
    let last : else_by (stmt_at d) c s next (Some (print_stmt t ++ rest)) ≡ Ok (IfElse c s t, rest) = ap (λ (q : Read Stmt). q >>= λ y. Ok (IfElse c s y.0, y.1)) other in
    let two : (stmt_at d (print_stmt s ++ next) >>= λ x. else_by (stmt_at d) c x.0 x.1 (else_at x.1)) ≡ Ok (IfElse c s t, rest) = ap (λ (q : Read Stmt). q >>= λ x. else_by (stmt_at d) c x.0 x.1 (else_at x.1)) body ∙ last in
    ap (λ (v : List Token). if_at (expr_at d) (stmt_at d) (Open ∷ v)) (group (print c) (print_stmt s) (print_stmt t))
    ∙ ap (λ (q : Read Tree). q >>= λ c. stmt_at d c.1 >>= λ x. else_by (stmt_at d) c.0 x.0 x.1 (else_at x.1)) cond_ok ∙ two
  where
    group : (a b c : List Token) → (a ++ (Close ∷ (b ++ (Key ElseWord ∷ c)))) ++ rest ≡ a ++ (Close ∷ (b ++ (Key ElseWord ∷ (c ++ rest))))
    group a b c = simp append_assoc

stmt_while : (c : Tree) (s : Stmt) → StmtAgain s → AgainBelow (While c s)
stmt_while c s h d rest f m e =
    let cond_ok : condition_at (expr_at d) (Open ∷ (print c ++ (Close ∷ (print_stmt s ++ rest)))) ≡ Ok (c, print_stmt s ++ rest) = condition_again c d (print_stmt s ++ rest) f.0 (omega arith) in
    let body : stmt_at d (print_stmt s ++ rest) ≡ Ok (s, rest) = h d rest f.1 (omega arith) e in
    ap (λ (v : List Token). loop_at (expr_at d) (stmt_at d) (Open ∷ v)) (regroup (print c) (print_stmt s) rest Close)
    ∙ ap (λ (q : Read Tree). q >>= λ c. stmt_at d c.1 >>= λ x. Ok (While c.0 x.0, x.1)) cond_ok ∙ ap (λ (q : Read Stmt). q >>= λ x. Ok (While c x.0, x.1)) body

stmt_do : (s : Stmt) (c : Tree) → StmtAgain s → AgainBelow (Do s c)
stmt_do s c h d rest f m e =
    let next = Key WhileWord ∷ (Open ∷ (print c ++ (Close ∷ rest))) in
    let body : stmt_at d (print_stmt s ++ next) ≡ Ok (s, next) = h d next f.0 (omega arith) (λ i. refl) in
    let cond_ok : condition_at (expr_at d) (Open ∷ (print c ++ (Close ∷ rest))) ≡ Ok (c, rest) = condition_again c d rest f.1 (omega arith) in
    ap (do_at (expr_at d) (stmt_at d)) (group (print_stmt s) (print c))
    ∙ ap (λ (q : Read Stmt). q >>= λ x. while_at x.1 >>= λ us. condition_at (expr_at d) us >>= λ c. Ok (Do x.0 c.0, c.1)) body ∙ ap (λ (q : Read Tree). q >>= λ c. Ok (Do s c.0, c.1)) cond_ok
  where
    group : (a b : List Token) → (a ++ (Key WhileWord ∷ (Open ∷ (b ++ (Close ∷ []))))) ++ rest ≡ a ++ (Key WhileWord ∷ (Open ∷ (b ++ (Close ∷ rest))))
    group a b = simp append_assoc

stmt_for_in : (k a : List ℕ) (s : Stmt) → StmtAgain s → AgainBelow (ForIn k a s)
stmt_for_in k a s h d rest f m e =
    let body : stmt_at d (print_stmt s ++ rest) ≡ Ok (s, rest) = h d rest f (omega arith) e in
    ap (λ (q : Read Stmt). q >>= λ x. Ok (ForIn k a x.0, x.1)) body

stmt_for : (i : Option Plain) (c : Option Tree) (p : Option Plain) (s : Stmt) → StmtAgain s → AgainBelow (For i c p s)
stmt_for i c p s h d rest f m e =
    let r3 = print_stmt s ++ rest in
    let r2 = print_maybe_plain p ++ (Close ∷ (print_stmt s ++ rest)) in
    let r1 = print_maybe c ++ (Semicolon ∷ (print_maybe_plain p ++ (Close ∷ (print_stmt s ++ rest)))) in
    let one : maybe_plain_at (expr_at d) (print_maybe_plain i ++ (Semicolon ∷ r1)) ≡ Ok (i, Semicolon ∷ r1) = maybe_plain_again i d (Semicolon ∷ r1) f.0 (omega arith) (semicolon_end r1) in
    let two : maybe_at (expr_at d) (print_maybe c ++ (Semicolon ∷ r2)) ≡ Ok (c, Semicolon ∷ r2) = maybe_again c d (Semicolon ∷ r2) f.1 (omega arith) (semicolon_end r2) in
    let three : maybe_plain_at (expr_at d) (print_maybe_plain p ++ (Close ∷ r3)) ≡ Ok (p, Close ∷ r3) = maybe_plain_again p d (Close ∷ r3) f.2 (omega arith) (close_end r3) in
    let body : stmt_at d (print_stmt s ++ rest) ≡ Ok (s, rest) = h d rest f.3 (omega arith) e in
    ap (λ (v : List Token). for_by (expr_at d) (stmt_at d) v (keys_at v)) (group (print_maybe_plain i) (print_maybe c) (print_maybe_plain p) (print_stmt s))
    ∙ ap (for_by (expr_at d) (stmt_at d) (print_maybe_plain i ++ (Semicolon ∷ r1))) (keys_none i r1 f.0)
    ∙ ap (λ (q : Read (Option Plain)). q >>= λ i. semicolon_at i.1 >>= λ us. maybe_at (expr_at d) us >>= λ c. semicolon_at c.1 >>= λ vs. maybe_plain_at (expr_at d) vs >>= λ p. close_at p.1 >>= λ ws. stmt_at d ws >>= λ x. Ok (For i.0 c.0 p.0 x.0, x.1)) one
    ∙ ap (λ (q : Read (Option Tree)). q >>= λ c. semicolon_at c.1 >>= λ vs. maybe_plain_at (expr_at d) vs >>= λ p. close_at p.1 >>= λ ws. stmt_at d ws >>= λ x. Ok (For i c.0 p.0 x.0, x.1)) two
    ∙ ap (λ (q : Read (Option Plain)). q >>= λ p. close_at p.1 >>= λ ws. stmt_at d ws >>= λ x. Ok (For i c p.0 x.0, x.1)) three
    ∙ ap (λ (q : Read Stmt). q >>= λ x. Ok (For i c p x.0, x.1)) body
  where
    group : (a b c s : List Token) → (a ++ (Semicolon ∷ (b ++ (Semicolon ∷ (c ++ (Close ∷ s)))))) ++ rest ≡ a ++ (Semicolon ∷ (b ++ (Semicolon ∷ (c ++ (Close ∷ (s ++ rest))))))
    group a b c s = simp append_assoc

-- ---- lists of statements

stmt_no_brace : (s : Stmt) (r : List Token) → brace_at (print_stmt s ++ r) ≡ None
stmt_no_brace (Simple p) r = ap brace_at (append_assoc (print_plain p) (Semicolon ∷ []) r) ∙ plain_no_brace (print_plain p ++ (Semicolon ∷ r)) (starts_plain_print p (Semicolon ∷ r))
stmt_no_brace (Jumping Break) r = refl
stmt_no_brace (Jumping Continue) r = refl
stmt_no_brace (Jumping Next) r = refl
stmt_no_brace (Jumping NextFile) r = refl
stmt_no_brace (Leave Exit e) r = refl
stmt_no_brace (Leave Return e) r = refl
stmt_no_brace _ r = refl

plain_no_else : (ts : List Token) → starts_plain ts ≡ true → else_at ts ≡ None
plain_no_else (Key ElseWord ∷ ts) h = absurd cc
plain_no_else _ h = refl

stmt_no_else : (s : Stmt) (r : List Token) → else_at (print_stmt s ++ r) ≡ None
stmt_no_else (Simple p) r = ap else_at (append_assoc (print_plain p) (Semicolon ∷ []) r) ∙ plain_no_else (print_plain p ++ (Semicolon ∷ r)) (starts_plain_print p (Semicolon ∷ r))
stmt_no_else (Jumping Break) r = refl
stmt_no_else (Jumping Continue) r = refl
stmt_no_else (Jumping Next) r = refl
stmt_no_else (Jumping NextFile) r = refl
stmt_no_else (Leave Exit e) r = refl
stmt_no_else (Leave Return e) r = refl
stmt_no_else _ r = refl

stmts_no_else : (ss : Stmts) (r : List Token) → else_at (print_stmts ss ++ (CloseBrace ∷ r)) ≡ None
stmts_no_else NoStmt r = refl
stmts_no_else (And s ss) r = ap else_at (append_assoc (print_stmt s) (print_stmts ss) (CloseBrace ∷ r)) ∙ stmt_no_else s (print_stmts ss ++ (CloseBrace ∷ r))

stmts_none : StmtsAgain NoStmt
stmts_none d zero rest f m room = absurd (omega arith)
stmts_none d (suc w) rest f m room = refl

no_room : (ts rest : List Token) → length (ts ++ (CloseBrace ∷ rest)) ≤ 0 → ⊥
no_room ts rest h = omega (arith, h, length-append ts (CloseBrace ∷ rest))

stmts_more : (s : Stmt) (ss : Stmts) → StmtAgain s → (0 < length (print_stmt s)) → StmtsAgain ss → StmtsAgain (And s ss)
stmts_more s ss h some k d zero rest f m room = absurd (no_room (print_stmt s ++ print_stmts ss) rest room)
stmts_more s ss h some k d (suc w) rest f m room =
    let next = print_stmts ss ++ (CloseBrace ∷ rest) in
    let one : stmt_at d (print_stmt s ++ next) ≡ Ok (s, next) = h d next f.0 (omega arith) (λ i. stmts_no_else ss rest) in
    let two : stmts_at (stmt_at d) w next ≡ Ok (ss, rest) = k d w rest f.1 (omega arith) (omega (arith, room, some, length-append (print_stmt s ++ print_stmts ss) (CloseBrace ∷ rest), length-append (print_stmt s) (print_stmts ss), length-append (print_stmts ss) (CloseBrace ∷ rest))) in
    ap (stmts_at (stmt_at d) (suc w)) (append_assoc (print_stmt s) (print_stmts ss) (CloseBrace ∷ rest))
    ∙ ap (stmts_by (stmt_at d) (stmts_at (stmt_at d) w) (print_stmt s ++ next)) (stmt_no_brace s next)
    ∙ ap (λ (q : Read Stmt). q >>= λ x. stmts_at (stmt_at d) w x.1 >>= λ y. Ok (And x.0 y.0, y.1)) one
    ∙ ap (λ (q : Read Stmts). q >>= λ y. Ok (And s y.0, y.1)) two

stmt_some : (s : Stmt) → 0 < length (print_stmt s)
stmt_some (Simple p) = omega (arith, length-append (print_plain p) (Semicolon ∷ []))
stmt_some (Block ss) = omega arith
stmt_some Empty = omega arith
stmt_some (If c s) = omega arith
stmt_some (IfElse c s t) = omega arith
stmt_some (While c s) = omega arith
stmt_some (Do s c) = omega arith
stmt_some (For i c p s) = omega arith
stmt_some (ForIn k a s) = omega arith
stmt_some (Jumping j) = omega arith
stmt_some (Leave l e) = omega arith

stmt_block : (ss : Stmts) → StmtsAgain ss → AgainBelow (Block ss)
stmt_block ss h d rest f m e =
    let v = print_stmts ss ++ (CloseBrace ∷ rest) in
    let one : stmts_at (stmt_at d) (length v) v ≡ Ok (ss, rest) = h d (length v) rest f (omega arith) (omega arith) in
    ap (block_at (stmt_at d)) (append_assoc (print_stmts ss) (CloseBrace ∷ []) rest) ∙ ap (λ (q : Read Stmts). q >>= λ x. Ok (Block x.0, x.1)) one

mutual
  pub stmt_again : (s : Stmt) → StmtAgain s
  stmt_again (Block ss) = by_depth (Block ss) (stmt_block ss (stmts_again ss))
  stmt_again Empty = by_depth Empty stmt_empty
  stmt_again (Simple p) = by_depth (Simple p) (stmt_simple p)
  stmt_again (If c s) = by_depth (If c s) (stmt_if c s (stmt_again s))
  stmt_again (IfElse c s t) = by_depth (IfElse c s t) (stmt_if_else c s t (stmt_again s) (stmt_again t))
  stmt_again (While c s) = by_depth (While c s) (stmt_while c s (stmt_again s))
  stmt_again (Do s c) = by_depth (Do s c) (stmt_do s c (stmt_again s))
  stmt_again (For i c p s) = by_depth (For i c p s) (stmt_for i c p s (stmt_again s))
  stmt_again (ForIn k a s) = by_depth (ForIn k a s) (stmt_for_in k a s (stmt_again s))
  stmt_again (Jumping j) = by_depth (Jumping j) (stmt_jump j)
  stmt_again (Leave l e) = by_depth (Leave l e) (stmt_leave l e)

  pub stmts_again : (ss : Stmts) → StmtsAgain ss
  stmts_again NoStmt = stmts_none
  stmts_again (And s ss) = stmts_more s ss (stmt_again s) (stmt_some s) (stmts_again ss)

done_second : (x y : Stmt × List Token) → IsOk x ≡ IsOk y → x.0 ≡ y.0
done_second x y e = let f : x ≡ y = cc in ap (λ (z : Stmt × List Token). z.0) f

-- tokens have at most one statement
pub one_stmt : (s t : Stmt) → IsStmt s → IsStmt t → print_stmt s ≡ print_stmt t → s ≡ t
one_stmt s t f g e =
    let d = max (stmt_depth s) (stmt_depth t) in
    let first : stmt_at d (print_stmt s ++ []) ≡ Ok (s, []) = stmt_again s d [] f (omega arith) (λ i. refl) in
    let second : stmt_at d (print_stmt t ++ []) ≡ Ok (t, []) = stmt_again t d [] g (omega arith) (λ i. refl) in
    done_second (s, []) (t, []) (sym first ∙ ap (λ (v : List Token). stmt_at d (v ++ [])) e ∙ second)
