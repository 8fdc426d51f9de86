use Rattle.awk_grammar.proofs.ItemSound.{script_sound}
use Rattle.awk_grammar.proofs.grammar_laws.read_scripts_are_well_formed.Goals as goal

pub returns : goal.returns
returns c = script_sound
