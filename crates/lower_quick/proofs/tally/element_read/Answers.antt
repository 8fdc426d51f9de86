use Rattle.std.proofs.Common.{ap, refl, sym, ◌∙◌}
use Rattle.mid_program.specs.ViewCode.{views}
use Rattle.mid_program.specs.declared.mid.Operation.{Operation}
use Rattle.mid_program.specs.declared.mid.Operation.TheVariants.{Host}
use Rattle.mid_program.specs.declared.code.Code.{Do}
use Rattle.lower_model.specs.Quick.{element_read}
use Rattle.lower_quick.proofs.Shapes.{do_view, elem_here, no_elem}
use Rattle.lower_quick.proofs.tally.element_read.Goals as goal

pub returns-then-is_elem : goal.returns-then-is_elem
returns-then-is_elem c =
    c.element_at.ensures
    ∙ elem_here c.in-Host.primitive c.args.after (views c.deref.result.now) (sym c.if-is_elem.ensures)
    ∙ ap (element_read c.args.after) (do_view c.args.code.now (Host c.in-Host.primitive) c.in-Do.operands c.deref.result.now (c.in-Do.is ∙ ap (λ (o : Operation). Do o c.in-Do.operands) c.in-Host.is) c.deref.ensures.value)

pub returns-else-is_elem : goal.returns-else-is_elem
returns-else-is_elem c =
    no_elem c.in-Host.primitive c.args.after (views c.in-Do.operands.items) (sym c.if-is_elem.ensures)
    ∙ ap (element_read c.args.after) (do_view c.args.code.now (Host c.in-Host.primitive) c.in-Do.operands c.in-Do.operands.items (c.in-Do.is ∙ ap (λ (o : Operation). Do o c.in-Do.operands) c.in-Host.is) refl)
