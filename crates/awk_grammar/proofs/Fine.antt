-- The tests say which trees are well formed.
use Rattle.std.proofs.Common.{◌≡◌, ◌≤◌, Bool, true, false, List, [], ◌∷◌, ◌++◌, Option, Some, None, refl, sym, ap, subst, ◌∙◌, append_assoc}
use Rattle.std.specs.Prelude.{◌&&◌, not, nat_le, ◌↔◌, IsTrue}
use Rattle.std.proofs.lemmas.Bool.{leb-true, le-leb}
use Rattle.std.proofs.lemmas.List.{append-nil}
use Rattle.awk_grammar.specs.Token.{Not, Signed, Less as LessMark, LessEqual, Equal, NotEqual, Greater, GreaterEqual, Assign, Or, And as AndMark, Match, Compare, Mul, Pow, Token}
use Rattle.awk_grammar.specs.Tree.{op_tokens, print, op_left, op_right, op_allowed, level, edge, is_field, fits, class_at, takes, suits, StartsOperand, MayJoin, IsSome, IsWellFormed, AreWellFormed}
use Rattle.awk_grammar.specs.Trees.{Op, Join, Add, Other as Infixed, Tree, Leaf, Length, Var, Index, Field, Group, Call, Apply, Unary, Pre, Post, Bin, Has, HasList, Cond, Get, GetInto, GetFrom, GetIntoFrom, Trees, NoTree, Then, Printing, Print, Printf, Args, NoArgs, Listed, Enclosed, Target, NoTarget, Written, Appended, Plain, Eval, Put, Delete, Clear, Stmt, Block, Empty, Simple, If, IfElse, While, Do, For, ForIn, Jumping, Leave, Stmts, NoStmt, And, Pattern, One, Between, Item, Function, Begin, End, Always, When, Lone, Nothing}
use Rattle.awk_grammar.specs.Shape.{view_next, head_of, behind, is_sign, may_join}
use Rattle.awk_grammar.specs.WellFormed.{joins, is_some_tree, well_formed, all_well_formed, are_args, is_target, is_plain, is_maybe, is_maybe_plain, is_stmt, are_stmts, is_pattern, is_item, is_script}
use Rattle.awk_grammar.specs.Stmt.{IsArgs, IsTarget, IsPlain, IsMaybe, IsMaybePlain, dangles, IsStmt, AreStmts}
use Rattle.awk_grammar.specs.Item.{IsPattern, IsItem, IsScript}
use Rattle.awk_grammar.specs.declared.shape.Next.{Next}

both : (a b : Bool) → (a && b) ≡ true → (a ≡ true) × (b ≡ true)
both true b e = (refl, e)
both false b e = absurd cc

and_yes : (a b : Bool) → a ≡ true → b ≡ true → (a && b) ≡ true
and_yes a b e f = rw (e, f) refl

not_true : (b : Bool) → not b ≡ true → b ≡ false
not_true true e = absurd cc
not_true false e = refl

not_false : (b : Bool) → b ≡ false → not b ≡ true
not_false b e = ap not e

-- the first token is as the test says
record IsHeaded (h : Next) (ts : List Token) : Type 0 where
  class : class_at ts ≡ view_next h
  starts : is_sign h ≡ false → StartsOperand ts
  sign : is_sign h ≡ true → StartsOperand ts → ⊥

headed_more : (h : Next) (a b rest : List Token) → IsHeaded h (a ++ (b ++ rest)) → IsHeaded h ((a ++ b) ++ rest)
headed_more h a b rest k = subst (IsHeaded h) (sym (append_assoc a b rest)) k

headed : (t : Tree) (rest : List Token) → IsHeaded (head_of t) (print t ++ rest)
headed (Leaf c) rest = record { class = refl; starts = λ e. tt; sign = λ e. absurd cc }
headed Length rest = record { class = refl; starts = λ e. tt; sign = λ e. absurd cc }
headed (Var n) rest = record { class = refl; starts = λ e. tt; sign = λ e. absurd cc }
headed (Index n ts) rest = record { class = refl; starts = λ e. tt; sign = λ e. absurd cc }
headed (Field t) rest = record { class = refl; starts = λ e. tt; sign = λ e. absurd cc }
headed (Group t) rest = record { class = refl; starts = λ e. tt; sign = λ e. absurd cc }
headed (Call f ts) rest = record { class = refl; starts = λ e. tt; sign = λ e. absurd cc }
headed (Apply f ts) rest = record { class = refl; starts = λ e. tt; sign = λ e. absurd cc }
headed (Unary Not t) rest = record { class = refl; starts = λ e. tt; sign = λ e. absurd cc }
headed (Unary (Signed s) t) rest = record { class = refl; starts = λ e. absurd cc; sign = λ e k. k }
headed (Pre s t) rest = record { class = refl; starts = λ e. tt; sign = λ e. absurd cc }
headed (Post s t) rest = headed_more (head_of t) (print t) _ rest (headed t _)
headed (Bin op a b) rest = headed_more (head_of a) (print a) (op_tokens op ++ print b) rest (headed a ((op_tokens op ++ print b) ++ rest))
headed (Has a n) rest = headed_more (head_of a) (print a) _ rest (headed a _)
headed (HasList t ts n) rest = record { class = refl; starts = λ e. tt; sign = λ e. absurd cc }
headed (Cond a b c) rest = headed_more (head_of a) (print a) _ rest (headed a _)
headed Get rest = record { class = refl; starts = λ e. tt; sign = λ e. absurd cc }
headed (GetInto v) rest = record { class = refl; starts = λ e. tt; sign = λ e. absurd cc }
headed (GetFrom s) rest = record { class = refl; starts = λ e. tt; sign = λ e. absurd cc }
headed (GetIntoFrom v s) rest = record { class = refl; starts = λ e. tt; sign = λ e. absurd cc }

first_is : (t : Tree) → IsHeaded (head_of t) (print t)
first_is t = subst (IsHeaded (head_of t)) (append-nil (print t)) (headed t [])

joined_class : (op : Op) (b : Tree) → class_at (op_tokens op ++ print b) ≡ view_next (behind op (head_of b))
joined_class Join b = (first_is b).class
joined_class (Add s) b = refl
joined_class (Infixed (Assign a)) b = refl
joined_class (Infixed Or) b = refl
joined_class (Infixed AndMark) b = refl
joined_class (Infixed (Match m)) b = refl
joined_class (Infixed (Compare LessMark)) b = refl
joined_class (Infixed (Compare LessEqual)) b = refl
joined_class (Infixed (Compare Equal)) b = refl
joined_class (Infixed (Compare NotEqual)) b = refl
joined_class (Infixed (Compare Greater)) b = refl
joined_class (Infixed (Compare GreaterEqual)) b = refl
joined_class (Infixed (Mul p)) b = refl
joined_class (Infixed Pow) b = refl

may_join_fine : (op : Op) (b : Tree) → may_join op (head_of b) ≡ true → MayJoin op (print b)
may_join_fine Join b e = (first_is b).starts (not_true (is_sign (head_of b)) e)
may_join_fine (Add s) b e = tt
may_join_fine (Infixed s) b e = tt

may_join_test : (op : Op) (b : Tree) → MayJoin op (print b) → may_join op (head_of b) ≡ true
may_join_test Join b k = by (is_sign (head_of b)) refl
  where
    by : (x : Bool) → is_sign (head_of b) ≡ x → not x ≡ true
    by false e = refl
    by true e = absurd ((first_is b).sign e k)
may_join_test (Add s) b k = refl
may_join_test (Infixed s) b k = refl

abbrev Joins : Bool → Op → Tree → Tree → Type 0
Joins g op a b = (op_left op ≤ edge a) × (fits (op_right op) b ≡ true) × MayJoin op (print b) × (takes true a (class_at (op_tokens op ++ print b)) ≡ false) × (op_allowed g op ≡ true)

joins_fine : (g : Bool) (op : Op) (a b : Tree) → joins g op a b ≡ true → Joins g op a b
joins_fine g op a b e =
    let h = both (nat_le (op_left op) (edge a)) _ e in
    let i = both (fits (op_right op) b) _ h.1 in
    let j = both (may_join op (head_of b)) _ i.1 in
    let k = both (not (takes true a (view_next (behind op (head_of b))))) (op_allowed g op) j.1 in
    (leb-true (op_left op) (edge a) h.0, i.0, may_join_fine op b j.0, ap (takes true a) (joined_class op b) ∙ not_true (takes true a (view_next (behind op (head_of b)))) k.0, k.1)

joins_test : (g : Bool) (op : Op) (a b : Tree) → Joins g op a b → joins g op a b ≡ true
joins_test g op a b h =
    and_yes (nat_le (op_left op) (edge a)) _ (le-leb (op_left op) (edge a) h.0)
    (and_yes (fits (op_right op) b) _ h.1
    (and_yes (may_join op (head_of b)) _ (may_join_test op b h.2)
    (and_yes (not (takes true a (view_next (behind op (head_of b))))) (op_allowed g op) (not_false (takes true a (view_next (behind op (head_of b)))) (sym (ap (takes true a) (joined_class op b)) ∙ h.3)) h.4)))

some_fine : (ts : Trees) → is_some_tree ts ≡ true → IsSome ts
some_fine NoTree e = absurd cc
some_fine (Then t ts) e = tt

some_test : (ts : Trees) → IsSome ts → is_some_tree ts ≡ true
some_test NoTree h = absurd h
some_test (Then t ts) h = refl

mutual
  fine : (g : Bool) (t : Tree) → well_formed g t ≡ true → IsWellFormed g t
  fine g (Leaf c) e = tt
  fine g Length e = tt
  fine g (Var n) e = tt
  fine g (Index n ts) e = let h = both (is_some_tree ts) (all_well_formed true ts) e in (all_fine true ts h.1, some_fine ts h.0)
  fine g (Field t) e = let h = both (is_field t) (well_formed g t) e in (fine g t h.1, h.0)
  fine g (Group t) e = fine true t e
  fine g (Call f ts) e = all_fine true ts e
  fine g (Apply f ts) e = let h = both (suits f ts) (all_well_formed true ts) e in (all_fine true ts h.1, h.0)
  fine g (Unary p t) e = let h = both (nat_le 9 (level t)) (well_formed g t) e in (fine g t h.1, h.0)
  fine g (Pre s t) e = let h = both (nat_le 13 (level t)) (well_formed g t) e in (fine g t h.1, h.0)
  fine g (Post s t) e = let h = both (nat_le 13 (level t)) (well_formed g t) e in (fine g t h.1, h.0)
  fine g (Bin op a b) e =
      let h = both (joins g op a b) (well_formed g a && well_formed g b) e in
      let i = both (well_formed g a) (well_formed g b) h.1 in
      let j = joins_fine g op a b h.0 in
      (fine g a i.0, fine g b i.1, j.0, j.1, j.2, j.3, j.4)
  fine g (Has a n) e = let h = both (nat_le 3 (edge a)) (well_formed g a) e in (fine g a h.1, leb-true 3 (edge a) h.0)
  fine g (HasList t ts n) e =
      let h = both (well_formed true t) (is_some_tree ts && all_well_formed true ts) e in
      let i = both (is_some_tree ts) (all_well_formed true ts) h.1 in
      (fine true t h.0, all_fine true ts i.1, some_fine ts i.0)
  fine g (Cond a b c) e =
      let h = both (nat_le 1 (edge a)) (well_formed g a && (well_formed g b && well_formed g c)) e in
      let i = both (well_formed g a) (well_formed g b && well_formed g c) h.1 in
      let j = both (well_formed g b) (well_formed g c) i.1 in
      (fine g a i.0, fine g b j.0, fine g c j.1, leb-true 1 (edge a) h.0)
  fine g Get e = tt
  fine g (GetInto v) e = let h = both (nat_le 13 (level v)) (well_formed g v) e in (fine g v h.1, h.0)
  fine g (GetFrom s) e = let h = both (nat_le 12 (level s)) (well_formed g s) e in (fine g s h.1, h.0)
  fine g (GetIntoFrom v s) e =
      let h = both (nat_le 13 (level v)) (nat_le 12 (level s) && (well_formed g v && well_formed g s)) e in
      let i = both (nat_le 12 (level s)) (well_formed g v && well_formed g s) h.1 in
      let j = both (well_formed g v) (well_formed g s) i.1 in
      (fine g v j.0, h.0, fine g s j.1, i.0)

  all_fine : (g : Bool) (ts : Trees) → all_well_formed g ts ≡ true → AreWellFormed g ts
  all_fine g NoTree e = tt
  all_fine g (Then t ts) e = let h = both (well_formed g t) (all_well_formed g ts) e in (fine g t h.0, all_fine g ts h.1)

mutual
  test : (g : Bool) (t : Tree) → IsWellFormed g t → well_formed g t ≡ true
  test g (Leaf c) h = refl
  test g Length h = refl
  test g (Var n) h = refl
  test g (Index n ts) h = and_yes (is_some_tree ts) (all_well_formed true ts) (some_test ts h.1) (all_test true ts h.0)
  test g (Field t) h = and_yes (is_field t) (well_formed g t) h.1 (test g t h.0)
  test g (Group t) h = test true t h
  test g (Call f ts) h = all_test true ts h
  test g (Apply f ts) h = and_yes (suits f ts) (all_well_formed true ts) h.1 (all_test true ts h.0)
  test g (Unary p t) h = and_yes (nat_le 9 (level t)) (well_formed g t) h.1 (test g t h.0)
  test g (Pre s t) h = and_yes (nat_le 13 (level t)) (well_formed g t) h.1 (test g t h.0)
  test g (Post s t) h = and_yes (nat_le 13 (level t)) (well_formed g t) h.1 (test g t h.0)
  test g (Bin op a b) h = and_yes (joins g op a b) (well_formed g a && well_formed g b) (joins_test g op a b (h.2, h.3, h.4, h.5, h.6)) (and_yes (well_formed g a) (well_formed g b) (test g a h.0) (test g b h.1))
  test g (Has a n) h = and_yes (nat_le 3 (edge a)) (well_formed g a) (le-leb 3 (edge a) h.1) (test g a h.0)
  test g (HasList t ts n) h = and_yes (well_formed true t) (is_some_tree ts && all_well_formed true ts) (test true t h.0) (and_yes (is_some_tree ts) (all_well_formed true ts) (some_test ts h.2) (all_test true ts h.1))
  test g (Cond a b c) h = and_yes (nat_le 1 (edge a)) (well_formed g a && (well_formed g b && well_formed g c)) (le-leb 1 (edge a) h.3) (and_yes (well_formed g a) (well_formed g b && well_formed g c) (test g a h.0) (and_yes (well_formed g b) (well_formed g c) (test g b h.1) (test g c h.2)))
  test g Get h = refl
  test g (GetInto v) h = and_yes (nat_le 13 (level v)) (well_formed g v) h.1 (test g v h.0)
  test g (GetFrom s) h = and_yes (nat_le 12 (level s)) (well_formed g s) h.1 (test g s h.0)
  test g (GetIntoFrom v s) h = and_yes (nat_le 13 (level v)) (nat_le 12 (level s) && (well_formed g v && well_formed g s)) h.1 (and_yes (nat_le 12 (level s)) (well_formed g v && well_formed g s) h.3 (and_yes (well_formed g v) (well_formed g s) (test g v h.0) (test g s h.2)))

  all_test : (g : Bool) (ts : Trees) → AreWellFormed g ts → all_well_formed g ts ≡ true
  all_test g NoTree h = refl
  all_test g (Then t ts) h = and_yes (well_formed g t) (all_well_formed g ts) (test g t h.0) (all_test g ts h.1)

-- ---- statements

args_fine : (p : Printing) (a : Args) → are_args p a ≡ true → IsArgs p a
args_fine Print NoArgs e = tt
args_fine Printf NoArgs e = absurd cc
args_fine p (Listed ts) e = let h = both (is_some_tree ts) (all_well_formed false ts) e in (all_fine false ts h.1, some_fine ts h.0)
args_fine p (Enclosed t ts) e =
    let h = both (well_formed true t) (is_some_tree ts && all_well_formed true ts) e in
    let i = both (is_some_tree ts) (all_well_formed true ts) h.1 in
    (fine true t h.0, all_fine true ts i.1, some_fine ts i.0)

args_test : (p : Printing) (a : Args) → IsArgs p a → are_args p a ≡ true
args_test Print NoArgs h = refl
args_test Printf NoArgs h = absurd h
args_test p (Listed ts) h = and_yes (is_some_tree ts) (all_well_formed false ts) (some_test ts h.1) (all_test false ts h.0)
args_test p (Enclosed t ts) h = and_yes (well_formed true t) (is_some_tree ts && all_well_formed true ts) (test true t h.0) (and_yes (is_some_tree ts) (all_well_formed true ts) (some_test ts h.2) (all_test true ts h.1))

target_fine : (t : Target) → is_target t ≡ true → IsTarget t
target_fine NoTarget e = tt
target_fine (Written t) e = let h = both (nat_le 6 (level t)) (well_formed true t) e in (fine true t h.1, h.0)
target_fine (Appended t) e = let h = both (nat_le 6 (level t)) (well_formed true t) e in (fine true t h.1, h.0)

target_test : (t : Target) → IsTarget t → is_target t ≡ true
target_test NoTarget h = refl
target_test (Written t) h = and_yes (nat_le 6 (level t)) (well_formed true t) h.1 (test true t h.0)
target_test (Appended t) h = and_yes (nat_le 6 (level t)) (well_formed true t) h.1 (test true t h.0)

plain_fine : (p : Plain) → is_plain p ≡ true → IsPlain p
plain_fine (Eval t) e = fine true t e
plain_fine (Put p a t) e = let h = both (are_args p a) (is_target t) e in (args_fine p a h.0, target_fine t h.1)
plain_fine (Delete n ts) e = let h = both (is_some_tree ts) (all_well_formed true ts) e in (all_fine true ts h.1, some_fine ts h.0)
plain_fine (Clear n) e = tt

plain_test : (p : Plain) → IsPlain p → is_plain p ≡ true
plain_test (Eval t) h = test true t h
plain_test (Put p a t) h = and_yes (are_args p a) (is_target t) (args_test p a h.0) (target_test t h.1)
plain_test (Delete n ts) h = and_yes (is_some_tree ts) (all_well_formed true ts) (some_test ts h.1) (all_test true ts h.0)
plain_test (Clear n) h = refl

maybe_fine : (o : Option Tree) → is_maybe o ≡ true → IsMaybe o
maybe_fine None e = tt
maybe_fine (Some t) e = fine true t e

maybe_test : (o : Option Tree) → IsMaybe o → is_maybe o ≡ true
maybe_test None h = refl
maybe_test (Some t) h = test true t h

maybe_plain_fine : (o : Option Plain) → is_maybe_plain o ≡ true → IsMaybePlain o
maybe_plain_fine None e = tt
maybe_plain_fine (Some p) e = plain_fine p e

maybe_plain_test : (o : Option Plain) → IsMaybePlain o → is_maybe_plain o ≡ true
maybe_plain_test None h = refl
maybe_plain_test (Some p) h = plain_test p h

mutual
  stmt_fine : (s : Stmt) → is_stmt s ≡ true → IsStmt s
  stmt_fine (Block ss) e = stmts_fine ss e
  stmt_fine Empty e = tt
  stmt_fine (Simple p) e = plain_fine p e
  stmt_fine (If c s) e = let h = both (well_formed true c) (is_stmt s) e in (fine true c h.0, stmt_fine s h.1)
  stmt_fine (IfElse c s t) e =
      let h = both (not (dangles s)) (well_formed true c && (is_stmt s && is_stmt t)) e in
      let i = both (well_formed true c) (is_stmt s && is_stmt t) h.1 in
      let j = both (is_stmt s) (is_stmt t) i.1 in
      (fine true c i.0, stmt_fine s j.0, stmt_fine t j.1, not_true (dangles s) h.0)
  stmt_fine (While c s) e = let h = both (well_formed true c) (is_stmt s) e in (fine true c h.0, stmt_fine s h.1)
  stmt_fine (Do s c) e = let h = both (is_stmt s) (well_formed true c) e in (stmt_fine s h.0, fine true c h.1)
  stmt_fine (For i c p s) e =
      let h = both (is_maybe_plain i) (is_maybe c && (is_maybe_plain p && is_stmt s)) e in
      let k = both (is_maybe c) (is_maybe_plain p && is_stmt s) h.1 in
      let j = both (is_maybe_plain p) (is_stmt s) k.1 in
      (maybe_plain_fine i h.0, maybe_fine c k.0, maybe_plain_fine p j.0, stmt_fine s j.1)
  stmt_fine (ForIn k a s) e = stmt_fine s e
  stmt_fine (Jumping j) e = tt
  stmt_fine (Leave l o) e = maybe_fine o e

  stmts_fine : (ss : Stmts) → are_stmts ss ≡ true → AreStmts ss
  stmts_fine NoStmt e = tt
  stmts_fine (And s ss) e = let h = both (is_stmt s) (are_stmts ss) e in (stmt_fine s h.0, stmts_fine ss h.1)

mutual
  stmt_test : (s : Stmt) → IsStmt s → is_stmt s ≡ true
  stmt_test (Block ss) h = stmts_test ss h
  stmt_test Empty h = refl
  stmt_test (Simple p) h = plain_test p h
  stmt_test (If c s) h = and_yes (well_formed true c) (is_stmt s) (test true c h.0) (stmt_test s h.1)
  stmt_test (IfElse c s t) h = and_yes (not (dangles s)) (well_formed true c && (is_stmt s && is_stmt t)) (not_false (dangles s) h.3) (and_yes (well_formed true c) (is_stmt s && is_stmt t) (test true c h.0) (and_yes (is_stmt s) (is_stmt t) (stmt_test s h.1) (stmt_test t h.2)))
  stmt_test (While c s) h = and_yes (well_formed true c) (is_stmt s) (test true c h.0) (stmt_test s h.1)
  stmt_test (Do s c) h = and_yes (is_stmt s) (well_formed true c) (stmt_test s h.0) (test true c h.1)
  stmt_test (For i c p s) h = and_yes (is_maybe_plain i) (is_maybe c && (is_maybe_plain p && is_stmt s)) (maybe_plain_test i h.0) (and_yes (is_maybe c) (is_maybe_plain p && is_stmt s) (maybe_test c h.1) (and_yes (is_maybe_plain p) (is_stmt s) (maybe_plain_test p h.2) (stmt_test s h.3)))
  stmt_test (ForIn k a s) h = stmt_test s h
  stmt_test (Jumping j) h = refl
  stmt_test (Leave l o) h = maybe_test o h

  stmts_test : (ss : Stmts) → AreStmts ss → are_stmts ss ≡ true
  stmts_test NoStmt h = refl
  stmts_test (And s ss) h = and_yes (is_stmt s) (are_stmts ss) (stmt_test s h.0) (stmts_test ss h.1)

-- ---- items

pattern_fine : (p : Pattern) → is_pattern p ≡ true → IsPattern p
pattern_fine (One t) e = fine true t e
pattern_fine (Between t u) e = let h = both (well_formed true t) (well_formed true u) e in (fine true t h.0, fine true u h.1)

pattern_test : (p : Pattern) → IsPattern p → is_pattern p ≡ true
pattern_test (One t) h = test true t h
pattern_test (Between t u) h = and_yes (well_formed true t) (well_formed true u) (test true t h.0) (test true u h.1)

item_fine : (i : Item) → is_item i ≡ true → IsItem i
item_fine (Function n ps ss) e = stmts_fine ss e
item_fine (Begin ss) e = stmts_fine ss e
item_fine (End ss) e = stmts_fine ss e
item_fine (Always ss) e = stmts_fine ss e
item_fine (When p ss) e = let h = both (is_pattern p) (are_stmts ss) e in (pattern_fine p h.0, stmts_fine ss h.1)
item_fine (Lone p) e = pattern_fine p e
item_fine Nothing e = tt

item_test : (i : Item) → IsItem i → is_item i ≡ true
item_test (Function n ps ss) h = stmts_test ss h
item_test (Begin ss) h = stmts_test ss h
item_test (End ss) h = stmts_test ss h
item_test (Always ss) h = stmts_test ss h
item_test (When p ss) h = and_yes (is_pattern p) (are_stmts ss) (pattern_test p h.0) (stmts_test ss h.1)
item_test (Lone p) h = pattern_test p h
item_test Nothing h = refl

script_fine : (is : List Item) → is_script is ≡ true → IsScript is
script_fine [] e = tt
script_fine (i ∷ is) e = let h = both (is_item i) (is_script is) e in (item_fine i h.0, script_fine is h.1)

script_test : (is : List Item) → IsScript is → is_script is ≡ true
script_test [] h = refl
script_test (i ∷ is) h = and_yes (is_item i) (is_script is) (item_test i h.0) (script_test is h.1)

pub script_is : (b : Bool) (is : List Item) → b ≡ is_script is → IsTrue b ↔ IsScript is
script_is b is e = (λ h. script_fine is (sym e ∙ h), λ h. e ∙ script_test is h)
