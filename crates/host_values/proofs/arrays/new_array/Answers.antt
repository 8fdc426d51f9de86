use Rattle.std.proofs.Common.{sym}
use Rattle.host_values.specs.ElementCalls.{with_arrays}
use Rattle.host_values.proofs.ArrayCalls.{new_call}
use Rattle.host_values.proofs.ArraySteps.{new_traps}
use Rattle.host_values.proofs.arrays.new_array.Goals as goal

pub returns-in-Ok-clause-step : goal.returns-in-Ok-clause-step
returns-in-Ok-clause-step c f memory none = new_call (with_arrays f.values c.args.arrays.now f) _ c.args.words.now memory c.add_array.result none (sym c.in-Ok.ensures) c.requires c.add_array.ensures.number

pub returns-in-Err-clause-step : goal.returns-in-Err-clause-step
returns-in-Err-clause-step c f memory none = new_traps (with_arrays f.values c.args.arrays.now f) c.args.words.now memory c.in-Err.kind none (sym c.in-Err.ensures)
