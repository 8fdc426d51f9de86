-- The plain code of code with lists, from those of the lists.
use Rattle.std.proofs.Common.{◌≡◌, ℕ, ◌≤◌, Bool, List, [], ◌∷◌, length, map, None, refl, sym, ap, ◌∙◌, arith}
use Rattle.std.specs.declared.vec.Vec.{Vec}
use Rattle.std.specs.declared.boxed.Box.{Box}
use Rattle.std.specs.declared.alloc.Global.{Global}
use Rattle.sem_primitives.specs.declared.table.Listed.{Listed}
use Rattle.mid_program.specs.Mid as plain
use Rattle.mid_program.specs.ViewCode.{before, joined, view, view_row, views}
use Rattle.mid_program.proofs.Views.{view_joined}
use Rattle.mid_program.specs.declared.mid.Operation.{Operation}
use Rattle.mid_program.specs.declared.code.Operand.{Operand}
use Rattle.mid_program.specs.declared.code.Operand.TheVariants as operand
use Rattle.mid_program.specs.declared.code.Code.{Code, Do, Joined, Over, Call, Replace, Row_of-Operand, end_of-Operand, more_of-Operand, items-the_row-Operand, items_hidden-the_row-Operand-0}
use Rattle.mid_program.specs.declared.code.Code.TheBlock.{hidden-the_row-Operand-0}
use Rattle.lower_model.specs.Emission.{one_field}

row_views : {n : _} (k : Row_of-Operand n) → view_row k ≡ views (items-the_row-Operand n k)
row_views end_of-Operand = refl
row_views (more_of-Operand e rest) = ap (before e) (row_views rest)

operands_of : (v : Vec Operand Global) (es : List Operand) → es ≡ v.items → views es ≡ view_row (hidden-the_row-Operand-0 v)
operands_of v es e = ap views e ∙ sym (row_views (hidden-the_row-Operand-0 v) ∙ ap views (items_hidden-the_row-Operand-0 v))

pub do_view : (c : Code) (o : Operation) (v : Vec Operand Global) (es : List Operand) → c ≡ Do o v → es ≡ v.items → plain.Do o (views es) ≡ view c
do_view c o v es is e = ap (plain.Do o) (operands_of v es e) ∙ sym (ap view is)

pub over_view : (c : Code) (l : Listed) (v : Vec Operand Global) (es : List Operand) → c ≡ Over l v → es ≡ v.items → plain.Over l (views es) ≡ view c
over_view c l v es is e = ap (plain.Over l) (operands_of v es e) ∙ sym (ap view is)

pub call_view : (c : Code) (f : ℕ) (v : Vec Operand Global) (es : List Operand) → c ≡ Call f v → es ≡ v.items → plain.Call f (views es) ≡ view c
call_view c f v es is e = ap (plain.Call f) (operands_of v es e) ∙ sym (ap view is)

pub replace_view : (c : Code) (all : Bool) (v : Vec Operand Global) (es : List Operand) (b : Box Code Global) (s : Code) → c ≡ Replace all v b → es ≡ v.items → s ≡ b.value → plain.Replace all (views es) (view s) ≡ view c
replace_view c all v es b s is e f =
    ap (λ (x : plain.Codes). plain.Replace all x (view s)) (operands_of v es e)
    ∙ ap (λ (x : Code). plain.Replace all (view_row (hidden-the_row-Operand-0 v)) (view x)) f ∙ sym (ap view is)

pub key_view : (c : Code) (a : Box Code Global) (v : Vec Code Global) (z : Box Code Global) (first : Code) (others : List Code) (last : Code) → c ≡ Joined a v z → first ≡ a.value → others ≡ v.items → last ≡ z.value
    → joined (view first ∷ map view others) (view last) ≡ view c
key_view c a v z first others last is e f g = (λ i. joined (view (e i) ∷ map view (f i)) (view (g i))) ∙ sym (ap view is ∙ view_joined a v z)

-- two operands are not the number of a field
pub no_field : (es : List Operand) → 2 ≤ length es → None ≡ one_field (views es)
no_field [] h = absurd (omega arith)
no_field (x ∷ []) h = absurd (omega arith)
no_field (operand.Code e ∷ operand.Code f ∷ es) h = refl
no_field (operand.Code e ∷ operand.Constant n ∷ es) h = refl
no_field (operand.Code e ∷ operand.Fresh ∷ es) h = refl
no_field (operand.Constant n ∷ x ∷ es) h = refl
no_field (operand.Fresh ∷ x ∷ es) h = refl
