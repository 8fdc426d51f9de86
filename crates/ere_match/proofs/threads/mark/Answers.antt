use Rattle.std.proofs.Common.{rules, arith}
use Rattle.ere_match.proofs.Marks.{marked_new}
use Rattle.ere_match.proofs.threads.mark.Goals as goal

pub returns : goal.returns
returns c = λ bound small. marked_new bound c.args.id c.args.start c.args.set.now (omega arith) (c.improves.ensures.yes (search rules) bound small)
