-- Lists within code, as the definitions see them.
use Rattle.std.proofs.Common.{◌≡◌, ℕ, Bool, List, [], ◌∷◌, ◌++◌, refl, ap, sym, ◌∙◌}
use Rattle.std.specs.declared.vec.Vec.{Vec}
use Rattle.std.specs.declared.boxed.Box.{Box}
use Rattle.std.specs.declared.alloc.Global.{Global}
use Rattle.sem_primitives.specs.declared.table.Listed.{Listed}
use Rattle.mid_program.specs.Mid as plain
use Rattle.mid_program.specs.ViewCode.{before, followed, view, view_row, view_step, view_step_row, view_steps, views}
use Rattle.mid_code.specs.ViewSteps.{chain}
use Rattle.mid_program.specs.declared.mid.Operation.{Operation}
use Rattle.mid_program.specs.declared.code.Operand.{Operand}
use Rattle.mid_program.specs.declared.code.Operand.TheVariants as operand
use Rattle.mid_program.specs.declared.code.Code.{Code, Do, Over, Call, Replace, Row_of-Operand, end_of-Operand, more_of-Operand, items-the_row-Operand, items_hidden-the_row-Operand-0}
use Rattle.mid_program.specs.declared.code.Code.TheBlock.{hidden-the_row-Operand-0}
use Rattle.mid_program.specs.declared.step.Step.{Step, Block, Row_of-Step, end_of-Step, more_of-Step, items-the_row-Step, items_hidden-the_row-Step-0}
use Rattle.mid_program.specs.declared.step.Step.TheBlock.{hidden-the_row-Step-0}

row_views : {n : _} (k : Row_of-Operand n) → view_row k ≡ views (items-the_row-Operand n k)
row_views end_of-Operand = refl
row_views (more_of-Operand e rest) = ap (before e) (row_views rest)

operands_of : (v : Vec Operand Global) → view_row (hidden-the_row-Operand-0 v) ≡ views v.items
operands_of v = row_views (hidden-the_row-Operand-0 v) ∙ ap views (items_hidden-the_row-Operand-0 v)

pub view_do : (o : Operation) (v : Vec Operand Global) → view (Do o v) ≡ plain.Do o (views v.items)
view_do o v = ap (plain.Do o) (operands_of v)

pub view_over : (l : Listed) (v : Vec Operand Global) → view (Over l v) ≡ plain.Over l (views v.items)
view_over l v = ap (plain.Over l) (operands_of v)

pub view_call : (f : ℕ) (v : Vec Operand Global) → view (Call f v) ≡ plain.Call f (views v.items)
view_call f v = ap (plain.Call f) (operands_of v)

pub view_replace : (all : Bool) (v : Vec Operand Global) (s : Box Code Global) → view (Replace all v s) ≡ plain.Replace all (views v.items) (view s.value)
view_replace all v s = ap (λ (es : plain.Codes). plain.Replace all es (view s.value)) (operands_of v)

-- operands before others
abbrev pub glue : List Operand → plain.Codes → plain.Codes
glue [] rest = rest
glue (e ∷ es) rest = before e (glue es rest)

pub glue_push : (es : List Operand) (e : Operand) (rest : plain.Codes) → glue (es ++ e ∷ []) rest ≡ glue es (before e rest)
glue_push [] e rest = refl
glue_push (x ∷ es) e rest = ap (before x) (glue_push es e rest)

pub glue_end : (es : List Operand) → glue es plain.End ≡ views es
glue_end [] = refl
glue_end (e ∷ es) = ap (before e) (glue_end es)

pub followed_push : (es : List Operand) (e : Operand) (rest : plain.Codes) → followed (views (es ++ e ∷ [])) rest ≡ followed (views es) (before e rest)
followed_push [] (operand.Code e) rest = refl
followed_push [] (operand.Constant n) rest = refl
followed_push [] operand.Fresh rest = refl
followed_push (operand.Code x ∷ es) e rest = ap (plain.At (view x)) (followed_push es e rest)
followed_push (operand.Constant n ∷ es) e rest = ap (plain.Fixed n) (followed_push es e rest)
followed_push (operand.Fresh ∷ es) e rest = ap plain.Fresh (followed_push es e rest)

pub followed_end : (es : plain.Codes) → followed es plain.End ≡ es
followed_end plain.End = refl
followed_end (plain.At e es) = ap (plain.At e) (followed_end es)
followed_end (plain.Fixed n es) = ap (plain.Fixed n) (followed_end es)
followed_end (plain.Fresh es) = ap plain.Fresh (followed_end es)

pub views_push : (es : List Operand) (e : Operand) (all : plain.Codes) → views es ≡ all → views (es ++ e ∷ []) ≡ followed all (before e plain.End)
views_push es e all is =
    sym (followed_end (views (es ++ e ∷ []))) ∙ followed_push es e plain.End ∙ ap (λ (c : plain.Codes). followed c (before e plain.End)) is

step_rows : {n : _} (k : Row_of-Step n) → view_step_row k ≡ view_steps (items-the_row-Step n k)
step_rows end_of-Step = refl
step_rows (more_of-Step s rest) = ap (plain.Then (view_step s)) (step_rows rest)

pub view_block : (v : Vec Step Global) → view_step (Block v) ≡ plain.Block (view_steps v.items)
view_block v = ap plain.Block (step_rows (hidden-the_row-Step-0 v) ∙ ap view_steps (items_hidden-the_row-Step-0 v))

-- steps before others

pub chain_push : (ss : List Step) (s : Step) (rest : plain.Steps) → chain (ss ++ s ∷ []) rest ≡ chain ss (plain.Then (view_step s) rest)
chain_push [] s rest = refl
chain_push (x ∷ ss) s rest = ap (plain.Then (view_step x)) (chain_push ss s rest)

pub chain_end : (ss : List Step) → chain ss plain.NoStep ≡ view_steps ss
chain_end [] = refl
chain_end (s ∷ ss) = ap (plain.Then (view_step s)) (chain_end ss)
