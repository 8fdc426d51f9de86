-- What is made in a box.
use Rattle.std.proofs.Common.{◌≡◌, Result, Ok, Err}
use Rattle.std.proofs.lemmas.Result.{IfOk-at_ok}
use Rattle.std.specs.Prelude.{IfOk}
use Rattle.std.specs.declared.alloc.Global.{Global}
use Rattle.std.specs.declared.boxed.Box.{Box}
use Rattle.mid_program.specs.Mid as plain
use Rattle.mid_program.specs.ViewCode.{view}
use Rattle.mid_program.specs.declared.code.Code.{Code}
use Rattle.mid_code.specs.Made.{Makes, MakesBoxed}

pub boxed_makes : {E : Type 0} (made : Result Code E) (boxed : Result (Box Code Global) E) (e : plain.Code) → IfOk boxed (λ b. made ≡ Ok b.value) → Makes made e → MakesBoxed boxed e
boxed_makes made (Ok b) e is makes = IfOk-at_ok (λ code. view code ≡ e) is makes
boxed_makes made (Err x) e is makes = tt
