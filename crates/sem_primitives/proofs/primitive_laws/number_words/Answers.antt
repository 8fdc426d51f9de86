use Rattle.sem_primitives.proofs.Words.{word_again, word_no_fault}
use Rattle.sem_primitives.proofs.primitive_laws.number_words.Goals as goal

pub returns-clause-again : goal.returns-clause-again
returns-clause-again c = word_again

pub returns-clause-no_fault : goal.returns-clause-no_fault
returns-clause-no_fault c = word_no_fault
