use Rattle.sem_scripts.specs.Kinds.{resolved}
use Rattle.mid_program.specs.Translation.{program_of}
use Rattle.script_compiler.proofs.script_laws.modules_are_typed.Goals as goal

pub returns : goal.returns
returns c = λ tokens items parsed named small. (c.typed.ensures (program_of (resolved items)) (c.parsed_scripts_are_placed.ensures.code tokens items parsed named)).0 small
