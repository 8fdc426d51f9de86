use Rattle.script_check.proofs.Whole.{by_stop}
use Rattle.script_check.proofs.findings.of_uncut.Goals as goal

pub returns : goal.returns
returns c = by_stop c.args.script.now c.args.fault c.in_ok-found.found c.new-out.result.items c.push.new.self.items c.new-out.ensures.items c.in_ok-push.ensures.items c.in_ok-found.ensures
