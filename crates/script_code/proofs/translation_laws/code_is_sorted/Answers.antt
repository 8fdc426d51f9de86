use Rattle.script_code.proofs.SortedScripts.{script_sorted}
use Rattle.script_code.proofs.translation_laws.code_is_sorted.Goals as goal

pub returns : goal.returns
returns c = script_sorted
