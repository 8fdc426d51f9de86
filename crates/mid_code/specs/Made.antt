-- What is made of parts, unless memory runs out.
use Rattle.std.specs.Prelude.{◌≡◌, List, Option, IfOk, Result, map}
use Rattle.std.specs.declared.alloc.Global.{Global}
use Rattle.std.specs.declared.boxed.Box.{Box}
use Rattle.std.specs.Global.{Vec}
use Rattle.mid_program.specs.Mid as plain
use Rattle.mid_program.specs.ViewCode.{view, view_step, view_steps, views}
use Rattle.mid_program.specs.declared.code.Code.{Code}
use Rattle.mid_program.specs.declared.code.Operand.{Operand}
use Rattle.mid_program.specs.declared.step.Step.{Step}
use Rattle.mid_code.specs.ViewTarget.{view_kept}

-- this code
abbrev pub Makes : {E : Type 0} → Result Code E → plain.Code → Type 0
Makes made e = IfOk made (λ c. view c ≡ e)

-- the same, in a box
abbrev pub MakesBoxed : {E : Type 0} → Result (Box Code Global) E → plain.Code → Type 0
MakesBoxed made e = IfOk made (λ c. view c.value ≡ e)

-- the code of each of these
abbrev pub MakesEach : {E : Type 0} → Result (Vec Code) E → List plain.Code → Type 0
MakesEach made es = IfOk made (λ cs. map view cs.items ≡ es)

-- what is kept for a place, if anything is
abbrev pub MakesKept : {E : Type 0} → Result (Option (Box Code Global)) E → Option plain.Code → Type 0
MakesKept made k = IfOk made (λ kept. view_kept kept ≡ k)

-- these operands
abbrev pub MakesOperands : {E : Type 0} → Result (Vec Operand) E → plain.Codes → Type 0
MakesOperands made es = IfOk made (λ found. views found.items ≡ es)

-- this step
abbrev pub MakesStep : {E : Type 0} → Result Step E → plain.Step → Type 0
MakesStep made s = IfOk made (λ step. view_step step ≡ s)

-- these steps
abbrev pub MakesSteps : {E : Type 0} → Result (Vec Step) E → plain.Steps → Type 0
MakesSteps made ss = IfOk made (λ found. view_steps found.items ≡ ss)
