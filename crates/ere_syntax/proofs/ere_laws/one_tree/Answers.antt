use Rattle.ere_syntax.proofs.Scans.{one_ere}
use Rattle.ere_syntax.proofs.ere_laws.one_tree.Goals as goal

pub returns : goal.returns
returns c = one_ere
