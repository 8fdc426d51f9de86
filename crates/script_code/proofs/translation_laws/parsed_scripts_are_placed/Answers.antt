use Rattle.sem_scripts.specs.Kinds.{resolved}
use Rattle.script_code.proofs.Parsed.{parsed_placed}
use Rattle.script_code.proofs.Resolves.{script_fits}
use Rattle.script_code.proofs.SortedScripts.{script_sorted}
use Rattle.script_code.proofs.translation_laws.parsed_scripts_are_placed.Goals as goal

pub returns-clause-placed : goal.returns-clause-placed
returns-clause-placed c = parsed_placed

pub returns-clause-code : goal.returns-clause-code
returns-clause-code c = λ tokens items q e. script_sorted (resolved items) (script_fits items q.read.tree.fine (parsed_placed tokens items q) e)
