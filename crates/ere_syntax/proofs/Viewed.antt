-- Lists of trees, and what they stand for.
use Rattle.std.proofs.Common.{◌≡◌, List, [], ◌∷◌, ◌++◌, Some, refl, ap, ◌∙◌}
use Rattle.std.specs.declared.vec.Vec.{Vec}
use Rattle.std.specs.declared.alloc.Global.{Global}
use Rattle.ere_syntax.specs.Tree.{Tree, Concat, Or}
use Rattle.ere_syntax.specs.Reading.{joined, either}
use Rattle.ere_syntax.specs.View.{view, view_row, views, concat_from, concat_all, or_from, or_all}
use Rattle.ere_syntax.specs.Frames.{some_concat, some_or}
use Rattle.ere_syntax.specs.declared.tree.Ere.{Ere, Row_of-Ere, end_of-Ere, more_of-Ere, items-the_row-Ere, items_hidden-the_row-Ere-0}
use Rattle.ere_syntax.specs.declared.tree.Ere.TheBlock.{hidden-the_row-Ere-0}
use Rattle.ere_syntax.specs.declared.tree.Ere.TheViews as eres

row_views : {n : _} (k : Row_of-Ere n) → view_row k ≡ views (items-the_row-Ere n k)
row_views end_of-Ere = refl
row_views (more_of-Ere e rest) = ap (λ (u : List Tree). view e ∷ u) (row_views rest)

pub view_concat : (v : Vec Ere Global) → view (eres.Concat v) ≡ concat_all (views v.items)
view_concat v = ap concat_all (row_views (hidden-the_row-Ere-0 v) ∙ ap views (items_hidden-the_row-Ere-0 v))

pub view_or : (v : Vec Ere Global) → view (eres.Or v) ≡ or_all (views v.items)
view_or v = ap or_all (row_views (hidden-the_row-Ere-0 v) ∙ ap views (items_hidden-the_row-Ere-0 v))

pub views_push : (es : List Ere) (e : Ere) → views (es ++ (e ∷ [])) ≡ views es ++ (view e ∷ [])
views_push [] e = refl
views_push (x ∷ es) e = ap (λ (u : List Tree). view x ∷ u) (views_push es e)

concat_from_push : (a : Tree) (ts : List Tree) (t : Tree) → concat_from a (ts ++ (t ∷ [])) ≡ Concat (concat_from a ts) t
concat_from_push a [] t = refl
concat_from_push a (u ∷ ts) t = concat_from_push (Concat a u) ts t

or_from_push : (a : Tree) (ts : List Tree) (t : Tree) → or_from a (ts ++ (t ∷ [])) ≡ Or (or_from a ts) t
or_from_push a [] t = refl
or_from_push a (u ∷ ts) t = or_from_push (Or a u) ts t

concat_push : (ts : List Tree) (t : Tree) → some_concat (ts ++ (t ∷ [])) ≡ joined (some_concat ts) (Some t)
concat_push [] t = refl
concat_push (a ∷ ts) t = ap (λ (u : Tree). Some u) (concat_from_push a ts t)

or_push : (ts : List Tree) (t : Tree) → some_or (ts ++ (t ∷ [])) ≡ Some (either (some_or ts) t)
or_push [] t = refl
or_push (a ∷ ts) t = ap (λ (u : Tree). Some u) (or_from_push a ts t)

all_concat : (ts : List Tree) (t : Tree) → Some (concat_all (ts ++ (t ∷ []))) ≡ some_concat (ts ++ (t ∷ []))
all_concat [] t = refl
all_concat (a ∷ ts) t = refl

all_or : (ts : List Tree) (t : Tree) → Some (or_all (ts ++ (t ∷ []))) ≡ some_or (ts ++ (t ∷ []))
all_or [] t = refl
all_or (a ∷ ts) t = refl

-- the same for lists of the code
pub pushed_concat : (es new : List Ere) (e : Ere) → new ≡ es ++ (e ∷ []) → some_concat (views new) ≡ joined (some_concat (views es)) (Some (view e))
pushed_concat es new e h = ap (λ (u : List Ere). some_concat (views u)) h ∙ ap some_concat (views_push es e) ∙ concat_push (views es) (view e)

pub pushed_or : (es new : List Ere) (e : Ere) → new ≡ es ++ (e ∷ []) → some_or (views new) ≡ Some (either (some_or (views es)) (view e))
pushed_or es new e h = ap (λ (u : List Ere). some_or (views u)) h ∙ ap some_or (views_push es e) ∙ or_push (views es) (view e)

pub made_concat : (v : Vec Ere Global) (es : List Ere) (e : Ere) → v.items ≡ es ++ (e ∷ []) → Some (view (eres.Concat v)) ≡ joined (some_concat (views es)) (Some (view e))
made_concat v es e h =
    ap (λ (u : Tree). Some u) (view_concat v) ∙ ap (λ (u : List Ere). Some (concat_all (views u))) h ∙ ap (λ (u : List Tree). Some (concat_all u)) (views_push es e) ∙ all_concat (views es) (view e) ∙ concat_push (views es) (view e)

that_tree : (x y : Tree) → Some x ≡ Some y → x ≡ y
that_tree x y e = cc

pub made_or : (v : Vec Ere Global) (es : List Ere) (e : Ere) → v.items ≡ es ++ (e ∷ []) → view (eres.Or v) ≡ either (some_or (views es)) (view e)
made_or v es e h =
    view_or v ∙ ap (λ (u : List Ere). or_all (views u)) h ∙ ap or_all (views_push es e) ∙ that_tree (or_all (views es ++ (view e ∷ []))) (either (some_or (views es)) (view e)) (all_or (views es) (view e) ∙ or_push (views es) (view e))
