use Rattle.std.proofs.Common.{ap, refl, sym, ◌∙◌}
use Rattle.mid_program.specs.ViewCode.{views}
use Rattle.mid_program.specs.declared.mid.Operation.{Operation}
use Rattle.mid_program.specs.declared.mid.Operation.TheVariants.{Host}
use Rattle.mid_program.specs.declared.code.Code.{Do}
use Rattle.lower_quick.specs.Operands.{concat_in}
use Rattle.lower_quick.proofs.Shapes.{concat_here, do_view, no_concat}
use Rattle.lower_quick.proofs.append.concat_in.Goals as goal

pub returns-then-is_concat : goal.returns-then-is_concat
returns-then-is_concat c =
    c.two_codes.ensures
    ∙ concat_here c.in-Host.primitive (views c.deref.result.now) (sym c.if-is_concat.ensures)
    ∙ ap concat_in (do_view c.args.code.now (Host c.in-Host.primitive) c.in-Do.operands c.deref.result.now (c.in-Do.is ∙ ap (λ (o : Operation). Do o c.in-Do.operands) c.in-Host.is) c.deref.ensures.value)

pub returns-else-is_concat : goal.returns-else-is_concat
returns-else-is_concat c =
    no_concat c.in-Host.primitive (views c.in-Do.operands.items) (sym c.if-is_concat.ensures)
    ∙ ap concat_in (do_view c.args.code.now (Host c.in-Host.primitive) c.in-Do.operands c.in-Do.operands.items (c.in-Do.is ∙ ap (λ (o : Operation). Do o c.in-Do.operands) c.in-Host.is) refl)
