use Rattle.std.proofs.Common.{Some, None}
use Rattle.command_line.proofs.RequestLemmas.{first_word}
use Rattle.command_line.proofs.text.Goals as goal

pub returns-in-Some : goal.returns-in-Some
returns-in-Some c = first_word c.args.matches.now c.args.id.now (Some c.in-Some.word.now) c.in-Some.ensures

pub returns-in-None : goal.returns-in-None
returns-in-None c = first_word c.args.matches.now c.args.id.now None c.in-None.ensures
