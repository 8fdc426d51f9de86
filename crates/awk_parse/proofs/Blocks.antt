-- Reading statements in a loop.
use Rattle.std.proofs.Common.{◌≡◌, ℕ, suc, ◌+◌, ◌-◌, ◌<◌, Option, Some, None, List, [], ◌∷◌, ◌++◌, length, Ok, Err, refl, sym, ap, subst, ◌∙◌, arith}
use Rattle.std.specs.declared.boxed.Box.{Box}
use Rattle.std.specs.declared.alloc.Global.{Global}
use Rattle.awk_grammar.specs.Token.{Token}
use Rattle.awk_grammar.specs.Reading.{◌>>=◌}
use Rattle.awk_grammar.specs.Trees.{Stmts, NoStmt, And, Stmt as PlainStmt}
use Rattle.awk_grammar.specs.ReadStmt.{Read, StmtReader, brace_at, stmts_at}
use Rattle.awk_grammar.specs.ViewStmt.{view_stmt, view_stmts}
use Rattle.awk_grammar.specs.declared.tree.Stmt.{Stmt}
use Rattle.awk_parse.specs.declared.refusal.Refusal.{Refusal}
use Rattle.awk_parse.specs.declared.refusal.Refusal.TheVariants.{Syntax as SyntaxRefusal}
use Rattle.awk_parse.specs.Bodies.{stmts_then, with_one}
use Rattle.awk_parse.specs.Parsed.{At, stands, ended, Parsed, is_read}
use Rattle.awk_parse.specs.Bodies.{Held}
use Rattle.awk_parse.proofs.ParsedLemmas.{then, stays, came, fails_here, goes_as}
use Rattle.awk_parse.proofs.HeldLemmas.{none_went}

pub stmts_push : (ss : List Stmt) (s : Stmt) → view_stmts (ss ++ (s ∷ [])) ≡ stmts_then (view_stmts ss) (And (view_stmt s) NoStmt)
stmts_push [] s = refl
stmts_push (x ∷ ss) s = ap (And (view_stmt x)) (stmts_push ss s)

then-assoc : (a b c : Stmts) → stmts_then (stmts_then a b) c ≡ stmts_then a (stmts_then b c)
then-assoc NoStmt b c = refl
then-assoc (And s a) b c = ap (And s) (then-assoc a b c)

-- what was read before, and what is still read
abbrev pub with_stmts : Stmts → Read Stmts → Read Stmts
with_stmts front read = read >>= λ y. Ok (stmts_then front y.0, y.1)

pub stmts_start : (read : Read Stmts) → with_stmts NoStmt read ≡ read
stmts_start (Ok y) = refl
stmts_start (Err f) = refl

stmts_step : (front : Stmts) (s : PlainStmt) (read : Read Stmts) → with_stmts front (read >>= λ y. Ok (And s y.0, y.1)) ≡ with_stmts (stmts_then front (And s NoStmt)) read
stmts_step front s (Ok y) = ap (λ (u : Stmts). Ok (u, y.1)) (sym (then-assoc front (And s NoStmt) y.0))
stmts_step front s (Err f) = refl

pub stmts_none : (ss : Stmts) → stmts_then ss NoStmt ≡ ss
stmts_none NoStmt = refl
stmts_none (And s ss) = ap (And s) (stmts_none ss)

pub stmts_end : (stmt : StmtReader) (i n : ℕ) (ts rest : List Token) → i < n → brace_at ts ≡ Some rest → stmts_at stmt (n - i) ts ≡ Ok (NoStmt, rest)
stmts_end stmt i n ts rest lt e =
    let m : n - i ≡ suc (n - (i + 1)) = omega arith in
    rw (m, e) refl

-- one statement more
pub stmts_more : (stmt : StmtReader) (i n : ℕ) (front : Stmts) (ts : List Token) → i < n → brace_at ts ≡ None → with_stmts front (stmts_at stmt (n - i) ts) ≡ (with_one stmt front ts >>= λ y. with_stmts y.0 (stmts_at stmt (n - (i + 1)) y.1))
stmts_more stmt i n front ts lt e =
    let m : n - i ≡ suc (n - (i + 1)) = omega arith in
    rw (m, e) (by (stmt ts))
  where
    ahead : PlainStmt × List Token → Read Stmts
    ahead x = Ok (stmts_then front (And x.0 NoStmt), x.1)

    by : (r : Read PlainStmt) → with_stmts front (r >>= λ x. stmts_at stmt (n - (i + 1)) x.1 >>= λ y. Ok (And x.0 y.0, y.1)) ≡ (r >>= ahead >>= λ y. with_stmts y.0 (stmts_at stmt (n - (i + 1)) y.1))
    by (Ok x) = stmts_step front x.0 (stmts_at stmt (n - (i + 1)) x.1)
    by (Err f) = refl

-- ---- what is still read, from what was read before

abbrev pub left_stmts : StmtReader → Stmts → ℕ → List Token → Read Stmts
left_stmts stmt front w ts = with_stmts front (stmts_at stmt w ts)

pub stmts_begin : (stmt : StmtReader) (front v : Stmts) (n : ℕ) (ts : List Token) (o : Option Refusal) (s : At) → front ≡ NoStmt → n ≡ length ts → Parsed v (stands ts o) s (left_stmts stmt front n) → Parsed v (stands ts o) s (λ us. stmts_at stmt (length us) us)
stmts_begin stmt front v n ts o s e q w = goes_as ts o (λ us. stmts_at stmt (length us) us) (left_stmts stmt front n) (rw (e, q) (sym (stmts_start (stmts_at stmt (length ts) ts)))) w

pub stmts_next : (stmt : StmtReader) (front next v : Stmts) (x : PlainStmt) (i n : ℕ) (ts : List Token) (o : Option Refusal) (s1 s2 s3 : At) → i < n → brace_at ts ≡ None → Parsed x (stands ts o) s1 stmt → Parsed next s1 s2 (is_read (stmts_then front (And x NoStmt)))
    → Parsed v s2 s3 (left_stmts stmt next (n - (i + 1))) → Parsed v (stands ts o) s3 (left_stmts stmt front (n - i))
stmts_next stmt front next v x i n ts o s1 s2 s3 lt e w p h =
    goes_as ts o (left_stmts stmt front (n - i)) (λ us. with_one stmt front us >>= λ y. left_stmts stmt y.0 (n - (i + 1)) y.1) (stmts_more stmt i n front ts lt e)
    (then (λ y. left_stmts stmt y.0 (n - (i + 1)) y.1) (then (λ y. Ok (stmts_then front (And y.0 NoStmt), y.1)) w p) h)

pub stmts_added : (new old : List Stmt) (x : Stmt) (s0 s1 : At) → Parsed new s0 s1 (is_read (old ++ (x ∷ []))) → Parsed (view_stmts new) s0 s1 (is_read (stmts_then (view_stmts old) (And (view_stmt x) NoStmt)))
stmts_added new old x s0 s1 w = subst (λ (u : Stmts). Parsed (view_stmts new) s0 s1 (is_read u)) (stmts_push old x) (then (λ y. is_read (view_stmts y.0) y.1) w (stays (view_stmts new) s1))

pub stmts_closed : (stmt : StmtReader) (front : Stmts) (i n : ℕ) (ts us : List Token) (o : Option Refusal) (s : At) → i < n → brace_at ts ≡ Some us → s ≡ stands us o → Parsed front (stands ts o) s (left_stmts stmt front (n - i))
stmts_closed stmt front i n ts us o s lt e q = came front ts us o s (left_stmts stmt front (n - i)) q (ap (with_stmts front) (stmts_end stmt i n ts us lt e) ∙ ap (λ (u : Stmts). Ok (u, us)) (stmts_none front))

pub stmts_over : (stmt : StmtReader) (front : Stmts) (w : ℕ) (ts : List Token) (o : Option Refusal) (line : Option ℕ) (e : Refusal) (s : At) → w ≡ 0 → e ≡ SyntaxRefusal line → s ≡ ended (stands ts o) e → Parsed front (stands ts o) s (left_stmts stmt front w)
stmts_over stmt front w ts o line e s z r q = fails_here front ts o e s (left_stmts stmt front w) q (rw (r, z) refl)

pub stmts_stopped : (stmt : StmtReader) (front : Stmts) (x : PlainStmt) (i n : ℕ) (ts : List Token) (o : Option Refusal) (s : At) → i < n → brace_at ts ≡ None → Parsed x (stands ts o) s stmt → Held {A = Box Stmt Global} None s → Parsed front (stands ts o) s (left_stmts stmt front (n - i))
stmts_stopped stmt front x i n ts o s lt e w h =
    stmts_next stmt front front front x i n ts o s s s lt e w (none_went {X = Box Stmt Global} front None s (is_read (stmts_then front (And x NoStmt))) refl h) (none_went {X = Box Stmt Global} front None s (left_stmts stmt front (n - (i + 1))) refl h)
