use Rattle.module_decoder.proofs.SoundModule.{found}
use Rattle.module_decoder.proofs.CompleteModule.{only}
use Rattle.module_decoder.proofs.Nested.{nested}
use Rattle.module_decoder.proofs.sections.decode.Goals as goal

pub returns-clause-found : goal.returns-clause-found
returns-clause-found c = found c.args.bytes.now c.read_module.result c.read_module.ensures

pub returns-clause-nested : goal.returns-clause-nested
returns-clause-nested c = nested c.args.bytes.now c.read_module.result (found c.args.bytes.now c.read_module.result c.read_module.ensures)

pub returns-clause-only : goal.returns-clause-only
returns-clause-only c = only c.args.bytes.now c.read_module.result c.read_module.ensures
