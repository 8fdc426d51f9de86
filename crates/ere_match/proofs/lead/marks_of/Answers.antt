use Rattle.ere_match.proofs.Begins.{marked_three}
use Rattle.ere_match.proofs.lead.marks_of.Goals as goal

pub returns : goal.returns
returns c = λ byte held. marked_three c.args.a c.args.b c.args.c byte c.marked-one.result c.marked-two.result c.marked.result c.marked-one.ensures.here c.marked-two.ensures.kept c.marked-two.ensures.here c.marked.ensures.kept c.marked.ensures.here held
