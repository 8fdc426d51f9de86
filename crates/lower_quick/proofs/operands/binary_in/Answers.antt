use Rattle.std.proofs.Common.{ap, ◌∙◌}
use Rattle.std.specs.Option.{option_map}
use Rattle.mid_program.specs.Mid.{Code}
use Rattle.mid_program.specs.ViewCode.{views}
use Rattle.mid_program.specs.declared.mid.Operation.{Operation}
use Rattle.mid_program.specs.declared.mid.Operation.TheVariants.{Inline}
use Rattle.mid_program.specs.declared.code.Code.{Do}
use Rattle.lower_quick.specs.Operands.{binary_in}
use Rattle.lower_quick.proofs.Shapes.{binary_of, do_view}
use Rattle.lower_quick.proofs.operands.binary_in.Goals as goal

pub returns-in_err-left-in-Inline : goal.returns-in_err-left-in-Inline
returns-in_err-left-in-Inline c =
    rw c.from_residual.ensures (ap (option_map (λ (both : Code × Code). (c.in-Inline.op, both.0, both.1))) c.in_err-left-in-Inline.ensures
    ∙ binary_of c.in-Inline.op (views c.deref.result.now)
    ∙ ap binary_in (do_view c.args.code.now (Inline c.in-Inline.op) c.in-Do.operands c.deref.result.now (c.in-Do.is ∙ ap (λ (o : Operation). Do o c.in-Do.operands) c.in-Inline.is) c.deref.ensures.value))

pub returns-in_ok-left-in-Inline : goal.returns-in_ok-left-in-Inline
returns-in_ok-left-in-Inline c =
    ap (option_map (λ (both : Code × Code). (c.in-Inline.op, both.0, both.1))) c.in_ok-left-in-Inline.ensures
    ∙ binary_of c.in-Inline.op (views c.deref.result.now)
    ∙ ap binary_in (do_view c.args.code.now (Inline c.in-Inline.op) c.in-Do.operands c.deref.result.now (c.in-Do.is ∙ ap (λ (o : Operation). Do o c.in-Do.operands) c.in-Inline.is) c.deref.ensures.value)
