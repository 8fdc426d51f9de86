use Rattle.std.proofs.Props.{props}
use Rattle.std.proofs.Math.Logic.{∥∥₁_elim}
use Rattle.ere_match.proofs.Hastes.{starts_there}
use Rattle.ere_match.proofs.haste.hasten.Goals as goal

pub is_idle-requires-clause-starts : goal.is_idle-requires-clause-starts
is_idle-requires-clause-starts c = ∥∥₁_elim c.requires.table (search props) (λ t. starts_there c.args.nodes.now c.args.entry c.args.state c.args.classes.now c.args.table.now t c.requires.state)
