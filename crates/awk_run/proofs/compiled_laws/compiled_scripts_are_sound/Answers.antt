use Rattle.awk_run.proofs.Sound.{sound_only}
use Rattle.awk_run.proofs.compiled_laws.compiled_scripts_are_sound.Goals as goal

pub returns : goal.returns
returns c = λ bytes v fault compiled refused. sound_only bytes v compiled fault refused
