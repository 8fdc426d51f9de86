use Rattle.std.proofs.Common.{◌∙◌}
use Rattle.mid_program.specs.MidMeaning.{mid_run_in}
use Rattle.sem_scripts.specs.ScriptRun.{resolved_run}
use Rattle.lower_model.specs.Modules.{module_of}
use Rattle.agreement.proofs.ModulesLemmas.Exchanged.{agreement_as}
use Rattle.script_compiler.proofs.script_laws.rewritten_scripts_agree.Goals as goal

pub returns : goal.returns
returns c = λ script p same sorted.
    agreement_as (mid_run_in p) (resolved_run script) (module_of p) (λ s turns. same s turns ∙ c.same_meaning.ensures script s turns) (c.modules_agree.ensures p sorted)
