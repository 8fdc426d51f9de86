use Rattle.std.proofs.Common.{◌≡◌, Ok, rules, ap, sym, ◌∙◌}
use Rattle.awk_values.specs.Operators.{power}
use Rattle.host_values.specs.ValueEvaluations.{number_reply, outcome_reply}
use Rattle.host_values.specs.declared.reply.Reply.TheVariants as reply
use Rattle.host_values.proofs.Powers.{power_fits}
use Rattle.host_values.proofs.evaluate.power_reply.Goals as goal

pub returns-in-Ok : goal.returns-in-Ok
returns-in-Ok c =
    let is : power c.args.base c.args.exponent ≡ Ok c.in-Ok.number = search rules in
    let fits : Ok (reply.Number c.in-Ok.number) ≡ number_reply (power c.args.base c.args.exponent) = sym (power_fits c.args.base c.args.exponent ∙ ap outcome_reply is) in
    search rules
