-- The plain code of code with lists, from those of the lists.
use Rattle.std.proofs.Common.{◌≡◌, List, ◌∷◌, map, refl, ap, ◌∙◌}
use Rattle.std.specs.declared.vec.Vec.{Vec}
use Rattle.std.specs.declared.boxed.Box.{Box}
use Rattle.std.specs.declared.alloc.Global.{Global}
use Rattle.mid_program.specs.Mid as plain
use Rattle.mid_program.specs.ViewCode.{joined, view, view_code_row}
use Rattle.mid_program.specs.declared.code.Code.{Code, Joined, Row_of-Code, end_of-Code, more_of-Code, items-the_row-Code, items_hidden-the_row-Code-1}
use Rattle.mid_program.specs.declared.code.Code.TheBlock.{hidden-the_row-Code-1}

code_rows : {n : _} (k : Row_of-Code n) → view_code_row k ≡ map view (items-the_row-Code n k)
code_rows end_of-Code = refl
code_rows (more_of-Code e rest) = ap (λ (es : List plain.Code). view e ∷ es) (code_rows rest)

pub view_codes : (v : Vec Code Global) → view_code_row (hidden-the_row-Code-1 v) ≡ map view v.items
view_codes v = code_rows (hidden-the_row-Code-1 v) ∙ ap (map view) (items_hidden-the_row-Code-1 v)

pub view_joined : (a : Box Code Global) (v : Vec Code Global) (z : Box Code Global) → view (Joined a v z) ≡ joined (view a.value ∷ map view v.items) (view z.value)
view_joined a v z = ap (λ (es : List plain.Code). joined (view a.value ∷ es) (view z.value)) (view_codes v)
