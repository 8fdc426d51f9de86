use Rattle.std.proofs.Common.{ap, ◌∙◌}
use Rattle.mid_program.specs.declared.mid.Operation.{Operation}
use Rattle.mid_program.specs.declared.mid.Operation.TheVariants.{AsNumber}
use Rattle.mid_program.specs.declared.code.Code.{Do}
use Rattle.lower_quick.specs.Operands.{number_of}
use Rattle.lower_quick.proofs.Shapes.{do_view}
use Rattle.lower_quick.proofs.operands.number_of.Goals as goal

pub returns-in-AsNumber : goal.returns-in-AsNumber
returns-in-AsNumber c =
    c.one_code.ensures
    ∙ ap number_of (do_view c.args.code.now AsNumber c.in-Do.operands c.deref.result.now (c.in-Do.is ∙ ap (λ (o : Operation). Do o c.in-Do.operands) c.in-AsNumber.is) c.deref.ensures.value)
