-- Items, simple statements and statements by what they begin with.
use Rattle.std.proofs.Common.{◌≡◌, ℕ, zero, suc, ◌-◌, ◌<◌, Option, Some, None, Err, List, ◌∷◌, refl, ap, ◌∙◌, arith}
use Rattle.awk_grammar.specs.Token.{Token, Infix, Compare, Greater, Append, OpenBrace, OpenBracket, Semicolon, Key, FunctionWord, BeginWord, EndWord, PrintWord, PrintfWord, DeleteWord, IfWord, WhileWord, DoWord, ForWord, BreakWord, ContinueWord, NextWord, NextFileWord, ExitWord, ReturnWord}
use Rattle.awk_grammar.specs.Reading.{TooDeep, ◌>>=◌, Reader, index_at, close_at, expr_at}
use Rattle.awk_grammar.specs.Trees.{Stmt}
use Rattle.awk_grammar.specs.ReadStmt.{Read, StmtReader, target_at, delete_by, plain_at, one_at, stmt_at, for_by, keys_at, open_here, semicolon_at, condition_at, maybe_at, maybe_plain_at}
use Rattle.awk_grammar.specs.ReadItem.{item_at}
use Rattle.awk_parse.specs.declared.statement_start.LoopWord.{LoopWord}
use Rattle.awk_parse.specs.declared.statement_start.LoopWord.TheVariants as loops
use Rattle.awk_parse.specs.declared.statement_start.Short.{Short}
use Rattle.awk_parse.specs.declared.statement_start.Short.TheVariants as shorts
use Rattle.awk_parse.specs.Bodies.{Opened, keyed_by, closed_at, looped_at, loop_by, short_at}
use Rattle.awk_parse.proofs.ParsedLemmas.{binds}
use Rattle.awk_parse.specs.StatementStarts.{redirected_at, target_by, deleted_by, deed_at, plain_by, Start, lead_at, one_by, view_short, opening_at, item_by}

pub target_is : (expr : Reader) (ts : List Token) → target_at expr ts ≡ target_by expr ts (redirected_at ts)
target_is expr (Infix (Compare Greater) ∷ ts) = refl
target_is expr (Append ∷ ts) = refl
target_is expr _ = refl

pub delete_is : (expr : Reader) (n : List ℕ) (ts : List Token) → delete_by expr n ts ≡ deleted_by expr n ts (index_at ts)
delete_is expr n (OpenBracket ∷ ts) = refl
delete_is expr n _ = refl

pub plain_is : (expr : Reader) (ts : List Token) → plain_at expr ts ≡ plain_by expr ts (deed_at ts)
plain_is expr (Key PrintWord ∷ ts) = refl
plain_is expr (Key PrintfWord ∷ ts) = refl
plain_is expr (Key DeleteWord ∷ ts) = refl
plain_is expr _ = refl

one_is : (expr : Reader) (stmt : StmtReader) (ts : List Token) → one_at expr stmt ts ≡ one_by expr stmt ts (lead_at ts)
one_is expr stmt (OpenBrace ∷ ts) = refl
one_is expr stmt (Semicolon ∷ ts) = refl
one_is expr stmt (Key IfWord ∷ ts) = refl
one_is expr stmt (Key WhileWord ∷ ts) = refl
one_is expr stmt (Key DoWord ∷ ts) = refl
one_is expr stmt (Key ForWord ∷ ts) = refl
one_is expr stmt (Key BreakWord ∷ ts) = refl
one_is expr stmt (Key ContinueWord ∷ ts) = refl
one_is expr stmt (Key NextWord ∷ ts) = refl
one_is expr stmt (Key NextFileWord ∷ ts) = refl
one_is expr stmt (Key ExitWord ∷ ts) = refl
one_is expr stmt (Key ReturnWord ∷ ts) = refl
one_is expr stmt _ = refl

stmt_some : (limit : ℕ) (ts : List Token) → 0 < limit → stmt_at limit ts ≡ one_at (expr_at (limit - 1)) (stmt_at (limit - 1)) ts
unfolding stmt_at
stmt_some zero ts h = absurd (omega arith)
stmt_some (suc d) ts h = let e : suc d - 1 ≡ d = omega arith in rw e refl

pub stmt_is : (limit : ℕ) (ts : List Token) (l : Start) → 0 < limit → lead_at ts ≡ l → stmt_at limit ts ≡ one_by (expr_at (limit - 1)) (stmt_at (limit - 1)) ts l
stmt_is limit ts l h e = stmt_some limit ts h ∙ one_is (expr_at (limit - 1)) (stmt_at (limit - 1)) ts ∙ ap (one_by (expr_at (limit - 1)) (stmt_at (limit - 1)) ts) e

pub stmt_none : (limit : ℕ) (ts : List Token) → limit ≡ 0 → stmt_at limit ts ≡ Err TooDeep
unfolding stmt_at
stmt_none limit ts e = rw e refl

pub short_is : (expr : Reader) (stmt : StmtReader) (ts us : List Token) (s : Short) → one_by expr stmt ts (view_short s us) ≡ short_at expr s us
short_is expr stmt ts us shorts.Empty = refl
short_is expr stmt ts us (shorts.Jump j) = refl
short_is expr stmt ts us (shorts.Leave l) = refl

-- ---- loops

abbrev body : Reader → StmtReader → Opened × List Token → Read Stmt
body expr stmt l = stmt l.1 >>= λ x. closed_at expr l.0 x.0 x.1

for_is : (expr : Reader) (stmt : StmtReader) (ts : List Token) (o : Option (List ℕ × List ℕ × List Token)) → for_by expr stmt ts o ≡ (keyed_by expr ts o >>= body expr stmt)
for_is expr stmt ts (Some o) = refl
for_is expr stmt ts None =
    binds (maybe_plain_at expr ts) _ _ (body expr stmt) (λ i.
    binds (semicolon_at i.1) _ _ (body expr stmt) (λ us.
    binds (maybe_at expr us) _ _ (body expr stmt) (λ c.
    binds (semicolon_at c.1) _ _ (body expr stmt) (λ vs.
    binds (maybe_plain_at expr vs) _ _ (body expr stmt) (λ p.
    binds (close_at p.1) _ _ (body expr stmt) (λ ws. refl))))))

pub looped_is : (expr : Reader) (stmt : StmtReader) (w : LoopWord) (ts : List Token) → loop_by expr stmt w ts ≡ looped_at expr stmt w ts
looped_is expr stmt loops.While ts = binds (condition_at expr ts) _ _ (body expr stmt) (λ c. refl)
looped_is expr stmt loops.Do ts = refl
looped_is expr stmt loops.For ts = binds (open_here ts) _ _ (body expr stmt) (λ us. for_is expr stmt us (keys_at us))

-- ---- items

pub item_is : (d : ℕ) (ts : List Token) → item_at d ts ≡ item_by d ts (opening_at ts)
item_is d (Key FunctionWord ∷ ts) = refl
item_is d (Key BeginWord ∷ ts) = refl
item_is d (Key EndWord ∷ ts) = refl
item_is d (OpenBrace ∷ ts) = refl
item_is d (Semicolon ∷ ts) = refl
item_is d _ = refl
