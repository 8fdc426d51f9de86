-- The productions of statements derive the well-formed ones, and nothing else.
use Rattle.std.proofs.Common.{◌≡◌, true, false, Option, Some, None, List, [], ◌∷◌, ◌++◌, refl, ap}
use Rattle.awk_grammar.specs.Token.{Token, Semicolon}
use Rattle.awk_grammar.specs.Trees.{Tree, Printing, Print, Printf, Args, NoArgs, Listed, Enclosed, Target, NoTarget, Written, Appended, Plain, Eval, Put, Delete, Clear, Stmt, Block, Empty, Simple, If, IfElse, While, Do, For, ForIn, Jumping, Leave, Stmts, NoStmt, And}
use Rattle.awk_grammar.specs.Stmt.{print_args, print_target, print_plain, print_maybe, print_maybe_plain, print_stmt, print_stmts, IsArgs, IsTarget, IsPlain, IsMaybe, IsMaybePlain, dangles, IsStmt, AreStmts}
use Rattle.awk_grammar.specs.Item.{print_body}
use Rattle.awk_tree.specs.Statements.{PrintListOf, listed as listed_args, enclosed, OutputOf, no_output, written, appended, PlainOf, eval, bare_print, print, printf, delete, delete_all, MaybeExprOf, no_expr, some_expr, MaybePlainOf, no_plain, some_plain, SimpleOf, plain, jumping, leave, EndsInIf, bare, in_else, in_while, in_for, in_for_in, StmtOf, block, empty, simple, if_then, if_else, while, do_while, for_loop, for_in, BlockOf, braces, StmtsOf, no_more, one_more}
use Rattle.awk_tree.proofs.Ends.{not_both}
use Rattle.awk_tree.proofs.Derived.{derived, listed, high}
use Rattle.awk_tree.proofs.Deriving.{deriving_of, found_list, concat_of}

-- the tokens are those of what is well formed
pub record Is {A : Type 0} (print_of : A → List Token) (Fine : A → Type 0) (x : A) (ts : List Token) : Type 0 where
  pub parts : print_of x ≡ ts
  pub fine : Fine x

-- ---- what is derived is well formed

record IsPrintList (p : Printing) (a : Args) (ts : List Token) : Type 0 where
  parts : print_args a ≡ ts
  fine : IsArgs p a

args : {a : Args} {ts : List Token} (p : Printing) → PrintListOf a ts → IsPrintList p a ts
args p (listed_args l) = let x = listed l in record { parts = x.parts; fine = (x.fine, x.some) }
args p (enclosed d l) =
    let x = derived d in
    let y = listed l in
    record { parts = rw (x.parts, y.parts) refl; fine = (x.fine, y.fine, y.some) }

output : {o : Target} {ts : List Token} → OutputOf o ts → Is print_target IsTarget o ts
output no_output = record { parts = refl; fine = tt }
output (written {t} d) = let x = derived d in record { parts = rw x.parts refl; fine = (x.fine, high 6 t x.stands) }
output (appended {t} d) = let x = derived d in record { parts = rw x.parts refl; fine = (x.fine, high 6 t x.stands) }

plainly : {p : Plain} {ts : List Token} → PlainOf p ts → Is print_plain IsPlain p ts
plainly (eval d) = let x = derived d in record { parts = x.parts; fine = x.fine }
plainly (bare_print o) = let y = output o in record { parts = rw y.parts refl; fine = (tt, y.fine) }
plainly (print a o) =
    let x = args Print a in
    let y = output o in
    record { parts = rw (x.parts, y.parts) refl; fine = (x.fine, y.fine) }
plainly (printf a o) =
    let x = args Printf a in
    let y = output o in
    record { parts = rw (x.parts, y.parts) refl; fine = (x.fine, y.fine) }
plainly (delete l) = let x = listed l in record { parts = rw x.parts refl; fine = (x.fine, x.some) }
plainly delete_all = record { parts = refl; fine = tt }

maybe : {e : Option Tree} {ts : List Token} → MaybeExprOf e ts → Is print_maybe IsMaybe e ts
maybe no_expr = record { parts = refl; fine = tt }
maybe (some_expr d) = let x = derived d in record { parts = x.parts; fine = x.fine }

maybe_plain : {p : Option Plain} {ts : List Token} → MaybePlainOf p ts → Is print_maybe_plain IsMaybePlain p ts
maybe_plain no_plain = record { parts = refl; fine = tt }
maybe_plain (some_plain d) = let x = plainly d in record { parts = x.parts; fine = x.fine }

simply : {s : Stmt} {ts : List Token} → SimpleOf s ts → Is print_stmt IsStmt s (ts ++ (Semicolon ∷ []))
simply (plain d) = let x = plainly d in record { parts = ap (◌++ (Semicolon ∷ [])) x.parts; fine = x.fine }
simply jumping = record { parts = refl; fine = tt }
simply (leave e) = let x = maybe e in record { parts = rw x.parts refl; fine = x.fine }

no_dangling : (s : Stmt) → (EndsInIf s → ⊥) → dangles s ≡ false
no_dangling (If c s) h = absurd (h bare)
no_dangling (IfElse c s t) h = no_dangling t λ e. h (in_else e)
no_dangling (While c s) h = no_dangling s λ e. h (in_while e)
no_dangling (For i c k s) h = no_dangling s λ e. h (in_for e)
no_dangling (ForIn k a s) h = no_dangling s λ e. h (in_for_in e)
no_dangling s h = refl

dangling : {s : Stmt} → EndsInIf s → dangles s ≡ true
dangling bare = refl
dangling (in_else e) = dangling e
dangling (in_while e) = dangling e
dangling (in_for e) = dangling e
dangling (in_for_in e) = dangling e

mutual
  pub stated : {s : Stmt} {ts : List Token} → StmtOf s ts → Is print_stmt IsStmt s ts
  stated (block b) = let x = blocked b in record { parts = x.parts; fine = x.fine }
  stated empty = record { parts = refl; fine = tt }
  stated (simple d) = simply d
  stated (if_then d e) =
      let x = derived d in
      let y = stated e in
      record { parts = rw (x.parts, y.parts) refl; fine = (x.fine, y.fine) }
  stated (if_else {s} d e n f) =
      let x = derived d in
      let y = stated e in
      let z = stated f in
      record { parts = rw (x.parts, y.parts, z.parts) refl; fine = (x.fine, y.fine, z.fine, no_dangling s n) }
  stated (while d e) =
      let x = derived d in
      let y = stated e in
      record { parts = rw (x.parts, y.parts) refl; fine = (x.fine, y.fine) }
  stated (do_while e d) =
      let x = derived d in
      let y = stated e in
      record { parts = rw (y.parts, x.parts) refl; fine = (y.fine, x.fine) }
  stated (for_loop i c k e) =
      let u = maybe_plain i in
      let v = maybe c in
      let w = maybe_plain k in
      let y = stated e in
      record { parts = rw (u.parts, v.parts, w.parts, y.parts) refl; fine = (u.fine, v.fine, w.fine, y.fine) }
  stated (for_in e) = let y = stated e in record { parts = rw y.parts refl; fine = y.fine }

  pub blocked : {ss : Stmts} {ts : List Token} → BlockOf ss ts → Is print_body AreStmts ss ts
  blocked (braces l) = let x = all_stated l in record { parts = rw x.parts refl; fine = x.fine }

  all_stated : {ss : Stmts} {ts : List Token} → StmtsOf ss ts → Is print_stmts AreStmts ss ts
  all_stated no_more = record { parts = refl; fine = tt }
  all_stated (one_more d l) =
      let x = stated d in
      let y = all_stated l in
      record { parts = rw (x.parts, y.parts) refl; fine = (x.fine, y.fine) }

-- ---- what is well formed is derived

output_of : (o : Target) → IsTarget o → OutputOf o (print_target o)
output_of NoTarget h = no_output
output_of (Written t) h = written (concat_of t h.0 h.1)
output_of (Appended t) h = appended (concat_of t h.0 h.1)

print_of : (p : Printing) (a : Args) (o : Target) → IsArgs p a → OutputOf o (print_target o) → PlainOf (Put p a o) (print_plain (Put p a o))
print_of Print NoArgs o h d = bare_print d
print_of Printf NoArgs o h d = absurd h
print_of Print (Listed xs) o h d = print (listed_args (found_list false xs h.0 h.1)) d
print_of Printf (Listed xs) o h d = printf (listed_args (found_list false xs h.0 h.1)) d
print_of Print (Enclosed t xs) o h d = print (enclosed (deriving_of true t h.0) (found_list true xs h.1 h.2)) d
print_of Printf (Enclosed t xs) o h d = printf (enclosed (deriving_of true t h.0) (found_list true xs h.1 h.2)) d

plain_of : (p : Plain) → IsPlain p → PlainOf p (print_plain p)
plain_of (Eval t) h = eval (deriving_of true t h)
plain_of (Put p a o) h = print_of p a o h.0 (output_of o h.1)
plain_of (Delete n xs) h = delete (found_list true xs h.0 h.1)
plain_of (Clear n) h = delete_all

maybe_of : (e : Option Tree) → IsMaybe e → MaybeExprOf e (print_maybe e)
maybe_of None h = no_expr
maybe_of (Some t) h = some_expr (deriving_of true t h)

maybe_plain_of : (p : Option Plain) → IsMaybePlain p → MaybePlainOf p (print_maybe_plain p)
maybe_plain_of None h = no_plain
maybe_plain_of (Some p) h = some_plain (plain_of p h)

mutual
  stmt_of : (s : Stmt) → IsStmt s → StmtOf s (print_stmt s)
  stmt_of (Block ss) h = block (braces (stmts_of ss h))
  stmt_of Empty h = empty
  stmt_of (Simple p) h = simple (plain (plain_of p h))
  stmt_of (If c s) h = if_then (deriving_of true c h.0) (stmt_of s h.1)
  stmt_of (IfElse c s t) h = if_else (deriving_of true c h.0) (stmt_of s h.1) (λ e. not_both (dangling e) h.3) (stmt_of t h.2)
  stmt_of (While c s) h = while (deriving_of true c h.0) (stmt_of s h.1)
  stmt_of (Do s c) h = do_while (stmt_of s h.0) (deriving_of true c h.1)
  stmt_of (For i c k s) h = for_loop (maybe_plain_of i h.0) (maybe_of c h.1) (maybe_plain_of k h.2) (stmt_of s h.3)
  stmt_of (ForIn k a s) h = for_in (stmt_of s h)
  stmt_of (Jumping j) h = simple jumping
  stmt_of (Leave l e) h = simple (leave (maybe_of e h))

  stmts_of : (ss : Stmts) → AreStmts ss → StmtsOf ss (print_stmts ss)
  stmts_of NoStmt h = no_more
  stmts_of (And s ss) h = one_more (stmt_of s h.0) (stmts_of ss h.1)

pub block_of : (ss : Stmts) → AreStmts ss → BlockOf ss (print_body ss)
block_of ss h = braces (stmts_of ss h)
