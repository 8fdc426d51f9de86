use Rattle.sem_scripts.specs.Kinds.{resolved}
use Rattle.script_code.proofs.Resolves.{script_fits}
use Rattle.script_code.proofs.SortedScripts.{script_sorted}
use Rattle.script_code.proofs.translation_laws.resolved_scripts_fit.Goals as goal

pub returns-clause-fits : goal.returns-clause-fits
returns-clause-fits c = script_fits

pub returns-clause-code : goal.returns-clause-code
returns-clause-code c = λ items w p e. script_sorted (resolved items) (script_fits items w p e)
