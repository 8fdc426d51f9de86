use Rattle.ere_syntax.proofs.Meaning.{matches_inside}
use Rattle.ere_syntax.proofs.ere_laws.matches_inside.Goals as goal

pub returns : goal.returns
returns c = matches_inside
