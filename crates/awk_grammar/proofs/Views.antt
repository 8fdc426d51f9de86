-- Lists of trees of the code, as the definitions see them.
use Rattle.std.specs.Prelude.{nat_le, min, ◌&&◌}
use Rattle.std.proofs.Common.{rules, ◌≡◌, ℕ, ◌<◌, ◌≤◌, true, false, List, [], ◌∷◌, length, refl, ap, ◌∙◌, sym, arith}
use Rattle.awk_grammar.specs.Tree.{second_is_var, third_is_lvalue}
use Rattle.awk_grammar.specs.Trees.{count, Trees, Then, Index, Call as Called, Apply as Applied, HasList, And, Block as Blocked}
use Rattle.awk_grammar.specs.WellFormed.{is_some_tree}
use Rattle.awk_grammar.specs.View.{view, view_row, views}
use Rattle.awk_grammar.specs.ViewStmt.{view_stmt, view_stmt_row, view_stmts}
use Rattle.awk_grammar.specs.declared.tree.Stmt.{Stmt, Block, Row_of-Stmt, end_of-Stmt, more_of-Stmt, items-the_row-Stmt, items_hidden-the_row-Stmt-0}
use Rattle.awk_grammar.specs.declared.tree.Stmt.TheBlock.{hidden-the_row-Stmt-0}
use Rattle.std.specs.declared.vec.Vec.{Vec}
use Rattle.std.specs.declared.boxed.Box.{Box}
use Rattle.std.specs.declared.alloc.Global.{Global}
use Rattle.awk_tokens.specs.declared.reserved_words.Builtin.{Builtin}
use Rattle.awk_grammar.specs.declared.tree.Expr.TheBlock.{hidden-the_row-Expr-0}
use Rattle.awk_grammar.specs.declared.tree.Expr.{Expr, Element, Call, Apply, InList, Row_of-Expr, end_of-Expr, more_of-Expr, items-the_row-Expr, items_hidden-the_row-Expr-0}

-- the lesser of two is at least what both are at least
pub floor_of_min : (f a b : ℕ) → nat_le f (min a b) ≡ (nat_le f a && nat_le f b)
floor_of_min f a b = search rules

pub count_views : (es : List Expr) → count (views es) ≡ length es
count_views [] = refl
count_views (e ∷ es) = omega (arith, count_views es)

pub some_views : (es : List Expr) → 1 ≤ length es → is_some_tree (views es) ≡ true
some_views [] le = absurd (omega arith)
some_views (e ∷ es) le = refl

pub second_short : (es : List Expr) → length es < 2 → second_is_var (views es) ≡ false
second_short [] lt = refl
second_short (a ∷ []) lt = refl
second_short (a ∷ b ∷ es) lt = absurd (omega arith)

pub third_short : (es : List Expr) → length es < 3 → third_is_lvalue (views es) ≡ true
third_short [] lt = refl
third_short (a ∷ []) lt = refl
third_short (a ∷ b ∷ []) lt = refl
third_short (a ∷ b ∷ c ∷ es) lt = absurd (omega arith)

-- a list within a tree of the code
row_views : {n : _} (k : Row_of-Expr n) → view_row k ≡ views (items-the_row-Expr n k)
row_views end_of-Expr = refl
row_views (more_of-Expr e rest) = ap (Then (view e)) (row_views rest)

pub view_element : (n : Vec ℕ Global) (v : Vec Expr Global) → view (Element n v) ≡ Index n.items (views v.items)
view_element n v = ap (Index n.items) (row_views (hidden-the_row-Expr-0 v) ∙ ap views (items_hidden-the_row-Expr-0 v))

pub view_call : (n : Vec ℕ Global) (v : Vec Expr Global) → view (Call n v) ≡ Called n.items (views v.items)
view_call n v = ap (Called n.items) (row_views (hidden-the_row-Expr-0 v) ∙ ap views (items_hidden-the_row-Expr-0 v))

pub view_apply : (f : Builtin) (v : Vec Expr Global) → view (Apply f v) ≡ Applied f (views v.items)
view_apply f v = ap (Applied f) (row_views (hidden-the_row-Expr-0 v) ∙ ap views (items_hidden-the_row-Expr-0 v))

pub view_in_list : (b : Box Expr Global) (v : Vec Expr Global) (n : Vec ℕ Global) → view (InList b v n) ≡ HasList (view b.value) (views v.items) n.items
view_in_list b v n = ap (λ (ts : Trees). HasList (view b.value) ts n.items) (row_views (hidden-the_row-Expr-0 v) ∙ ap views (items_hidden-the_row-Expr-0 v))

row_stmts : {n : _} (k : Row_of-Stmt n) → view_stmt_row k ≡ view_stmts (items-the_row-Stmt n k)
row_stmts end_of-Stmt = refl
row_stmts (more_of-Stmt s rest) = ap (And (view_stmt s)) (row_stmts rest)

pub view_block : (v : Vec Stmt Global) → view_stmt (Block v) ≡ Blocked (view_stmts v.items)
view_block v = ap Blocked (row_stmts (hidden-the_row-Stmt-0 v) ∙ ap view_stmts (items_hidden-the_row-Stmt-0 v))

pub element_is : (e : Expr) (n : Vec ℕ Global) (v : Vec Expr Global) (name : List ℕ) (es : List Expr) → e ≡ Element n v → name ≡ n.items → es ≡ v.items → Index name (views es) ≡ view e
element_is e n v name es is f g = ap (λ (x : List ℕ). Index x (views es)) f ∙ ap (λ (x : List Expr). Index n.items (views x)) g ∙ sym (ap view is ∙ view_element n v)

pub call_is : (e : Expr) (n : Vec ℕ Global) (v : Vec Expr Global) (name : List ℕ) (es : List Expr) → e ≡ Call n v → name ≡ n.items → es ≡ v.items → Called name (views es) ≡ view e
call_is e n v name es is f g = ap (λ (x : List ℕ). Called x (views es)) f ∙ ap (λ (x : List Expr). Called n.items (views x)) g ∙ sym (ap view is ∙ view_call n v)

pub apply_is : (e : Expr) (f : Builtin) (v : Vec Expr Global) (es : List Expr) → e ≡ Apply f v → es ≡ v.items → Applied f (views es) ≡ view e
apply_is e f v es is g = ap (λ (x : List Expr). Applied f (views x)) g ∙ sym (ap view is ∙ view_apply f v)

pub in_list_is : (e : Expr) (b : Box Expr Global) (v : Vec Expr Global) (n : Vec ℕ Global) (first : Expr) (es : List Expr) (name : List ℕ) → e ≡ InList b v n → first ≡ b.value → es ≡ v.items → name ≡ n.items → HasList (view first) (views es) name ≡ view e
in_list_is e b v n first es name is f g h = ap (λ (x : Expr). HasList (view x) (views es) name) f ∙ ap (λ (x : List Expr). HasList (view b.value) (views x) name) g ∙ ap (λ (x : List ℕ). HasList (view b.value) (views v.items) x) h ∙ sym (ap view is ∙ view_in_list b v n)

pub block_is : (s : Stmt) (v : Vec Stmt Global) (body : List Stmt) → s ≡ Block v → body ≡ v.items → Blocked (view_stmts body) ≡ view_stmt s
block_is s v body is e = ap (λ (x : List Stmt). Blocked (view_stmts x)) e ∙ sym (ap view_stmt is ∙ view_block v)
