use Rattle.command_line.proofs.RequestLemmas.{read_flag}
use Rattle.command_line.proofs.flag.Goals as goal

pub returns : goal.returns
returns c = read_flag c.args.matches.now c.args.id.now c.get_flag.result c.get_flag.ensures.none c.get_flag.ensures.value c.get_flag.ensures.other
