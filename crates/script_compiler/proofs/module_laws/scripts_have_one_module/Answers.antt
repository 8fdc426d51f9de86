use Rattle.script_compiler.proofs.OneModule.{one_module}
use Rattle.script_compiler.proofs.module_laws.scripts_have_one_module.Goals as goal

pub returns : goal.returns
returns c = one_module
