use Rattle.std.proofs.Common.{ap, refl, sym, ◌∙◌}
use Rattle.mid_program.specs.ViewCode.{views}
use Rattle.mid_program.specs.declared.mid.Operation.{Operation}
use Rattle.mid_program.specs.declared.mid.Operation.TheVariants.{Host}
use Rattle.mid_program.specs.declared.code.Code.{Do}
use Rattle.lower_model.specs.Quick.{field_count}
use Rattle.lower_quick.proofs.Shapes.{count_here, do_view, not_count}
use Rattle.lower_quick.proofs.counted.field_count.Goals as goal

pub returns-then-reads_special : goal.returns-then-reads_special
returns-then-reads_special c =
    c.is_count.ensures
    ∙ count_here c.in-Host.primitive (views c.deref.result.now) (sym c.if-reads_special.ensures)
    ∙ ap field_count (do_view c.args.code.now (Host c.in-Host.primitive) c.in-Do.operands c.deref.result.now (c.in-Do.is ∙ ap (λ (o : Operation). Do o c.in-Do.operands) c.in-Host.is) c.deref.ensures.value)

pub returns-else-reads_special : goal.returns-else-reads_special
returns-else-reads_special c =
    not_count c.in-Host.primitive (views c.in-Do.operands.items) (sym c.if-reads_special.ensures)
    ∙ ap field_count (do_view c.args.code.now (Host c.in-Host.primitive) c.in-Do.operands c.in-Do.operands.items (c.in-Do.is ∙ ap (λ (o : Operation). Do o c.in-Do.operands) c.in-Host.is) refl)
