use Rattle.std.proofs.Common.{rules, arith, refl}
use Rattle.ere_match.proofs.Scans.{best_start, threads_start}
use Rattle.ere_match.proofs.scan.scan.Goals as goal

pub returns : goal.returns
returns c = c.scan_on.ensures c.args.from (omega arith) (threads_start c.args.nodes.now c.args.text.now c.args.entry c.args.from c.args.from c.clear.new.set (search rules) c.clear.ensures refl) (best_start c.args.nodes.now c.args.text.now c.args.entry c.args.from c.args.from refl)
