use Rattle.sem_scripts.specs.Kinds.{resolved}
use Rattle.mid_program.specs.MidMeaning.{mid_run_in}
use Rattle.sem_scripts.specs.ScriptRun.{resolved_run}
use Rattle.mid_program.specs.Translation.{program_of}
use Rattle.lower_model.specs.Modules.{module_of}
use Rattle.agreement.proofs.ModulesLemmas.Exchanged.{agreement_as}
use Rattle.script_compiler.proofs.script_laws.scripts_agree.Goals as goal

pub returns : goal.returns
returns c = λ tokens items parsed named.
    let script = resolved items in
    let p = program_of script in
    agreement_as (mid_run_in p) (resolved_run script) (module_of p) (c.same_meaning.ensures script) (c.modules_agree.ensures p (c.parsed_scripts_are_placed.ensures.code tokens items parsed named))
