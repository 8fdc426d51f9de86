use Rattle.sem_primitives.proofs.Words.{constant_again}
use Rattle.sem_primitives.proofs.primitive_laws.constant_words.Goals as goal

pub returns : goal.returns
returns c = constant_again
