use Rattle.std.proofs.Common.{◌≤◌, Ok, length, ap, subst, sym, ◌∙◌}
use Rattle.std.proofs.lemmas.Result.{err_from_is_err_and}
use Rattle.sem_primitives.specs.OutputMeaning.{formatted_values}
use Rattle.host_bytes.specs.Outcomes.{IsStopOf}
use Rattle.host_worlds.proofs.Faults.{stop_counts}
use Rattle.host_worlds.proofs.Lasts.{some_operand}
use Rattle.host_worlds.proofs.Texts.{refused_given, text_given}
use Rattle.host_worlds.proofs.printing.printf_values.Goals as goal

pub fill_formatted-requires : goal.fill_formatted-requires
fill_formatted-requires g c = subst (λ xs. 1 ≤ length xs) (sym c.operands.ensures) (some_operand c.args.to c.args.values.now c.requires.named)

pub returns-in_err-fill_formatted-clause-count : goal.returns-in_err-fill_formatted-clause-count
returns-in_err-fill_formatted-clause-count g c =
    let p = err_from_is_err_and c.from_residual.result c.from_residual.ensures.1 in
    rw (p.1, p.2) (stop_counts c.operands.result.now c.in_err-fill_formatted.field-0.0 (g.W.World.count c.args.world.now) c.in_err-fill_formatted.ensures.err)

pub returns-in_err-fill_formatted-clause-given : goal.returns-in_err-fill_formatted-clause-given
returns-in_err-fill_formatted-clause-given g c =
    let p = err_from_is_err_and c.from_residual.result c.from_residual.ensures.1 in
    rw (p.1, p.2) (refused_given g.W.World.is_modelled g.W.World.did c.args.world.now c.args.to c.args.values.now c.args.streams.now (g.W.World.state c.args.world.now) c.in_err-fill_formatted.field-0.0
    (subst (λ xs. IsStopOf (formatted_values xs) c.in_err-fill_formatted.field-0.0) c.operands.ensures c.in_err-fill_formatted.ensures.err))

pub returns-clause-given : goal.returns-clause-given
returns-clause-given g c =
    text_given c.args.to c.args.values.now c.as_slice.result.now (ap formatted_values (sym c.operands.ensures) ∙ c.in_ok-fill_formatted.ensures.ok ∙ ap Ok (sym c.as_slice.ensures.value))
    g.W.World.is_modelled g.W.World.did _ _ c.args.streams.now c.put_out.new.streams _ _ c.put_out.result c.put_out.ensures.given
