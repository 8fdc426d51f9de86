use Rattle.command_line.proofs.RequestLemmas.{read_number, no_number}
use Rattle.command_line.proofs.number.Goals as goal

pub returns-in-Some : goal.returns-in-Some
returns-in-Some c = read_number c.args.matches.now c.args.id.now c.in-Some.number c.in-Some.ensures.none (λ t is. (c.in-Some.ensures.value t is).0)

pub returns-in-None : goal.returns-in-None
returns-in-None c = no_number c.args.matches.now c.args.id.now (λ t is. (c.in-None.ensures.value t is).1.0)
