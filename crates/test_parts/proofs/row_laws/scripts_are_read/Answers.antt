use Rattle.std.proofs.Common.{Ok, Err}
use Rattle.test_parts.proofs.ReadScripts.{reads, says}
use Rattle.test_parts.proofs.row_laws.scripts_are_read.Goals as goal

pub returns-clause-script : goal.returns-clause-script
returns-clause-script c = λ bytes script. (says bytes (Ok script), reads bytes script)

pub returns-clause-refused : goal.returns-clause-refused
returns-clause-refused c = λ bytes why e. says bytes (Err why) e
