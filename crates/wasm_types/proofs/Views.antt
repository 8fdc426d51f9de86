-- The plain data of instructions with bodies, from those of the bodies.
use Rattle.std.proofs.Common.{◌≡◌, List, [], ◌∷◌, ◌++◌, Option, refl, ap, ◌∙◌}
use Rattle.std.specs.declared.vec.Vec.{Vec}
use Rattle.std.specs.declared.rc.Rc.{Rc}
use Rattle.std.specs.declared.alloc.Global.{Global}
use Rattle.wasm_types.specs.declared.types.ValType.{ValType}
use Rattle.wasm_types.specs.declared.instr.Instr.{Instr, Block, Loop, If, Row_of-Instr, end_of-Instr, more_of-Instr, items-the_row-Instr, items_hidden-the_row-Instr-0}
use Rattle.wasm_types.specs.declared.instr.Instr.TheBlock.{hidden-the_row-Instr-0}
use Rattle.wasm_types.specs.Syntax as tree
use Rattle.wasm_types.specs.Syntax.{Instructions, Done, Then}
use Rattle.wasm_types.specs.View.{view, view_row, views}

abbrev pub followed_by : Instructions → Instructions → Instructions
followed_by Done us = us
followed_by (Then t ts) us = Then t (followed_by ts us)

pub views_push : (es : List Instr) (e : Instr) → views (es ++ e ∷ []) ≡ followed_by (views es) (Then (view e) Done)
views_push [] e = refl
views_push (x ∷ es) e = ap (Then (view x)) (views_push es e)

row_views : {n : _} (k : Row_of-Instr n) → view_row k ≡ views (items-the_row-Instr n k)
row_views end_of-Instr = refl
row_views (more_of-Instr e rest) = ap (Then (view e)) (row_views rest)

views_row : (v : Vec Instr Global) → view_row (hidden-the_row-Instr-0 v) ≡ views v.items
views_row v = row_views (hidden-the_row-Instr-0 v) ∙ ap views (items_hidden-the_row-Instr-0 v)

pub view_block : (k : Option ValType) (v : Rc (Vec Instr Global) Global) → view (Block k v) ≡ tree.Block k (views v.value.items)
view_block k v = ap (tree.Block k) (views_row v.value)

pub view_loop : (k : Option ValType) (v : Rc (Vec Instr Global) Global) → view (Loop k v) ≡ tree.Loop k (views v.value.items)
view_loop k v = ap (tree.Loop k) (views_row v.value)

pub view_if : (k : Option ValType) (v w : Rc (Vec Instr Global) Global) → view (If k v w) ≡ tree.If k (views v.value.items) (views w.value.items)
view_if k v w = ap (λ (u : Instructions). tree.If k u (view_row (hidden-the_row-Instr-0 w.value))) (views_row v.value) ∙ ap (tree.If k (views v.value.items)) (views_row w.value)
