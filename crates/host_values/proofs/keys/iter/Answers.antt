use Rattle.std.proofs.Common.{rules, sym}
use Rattle.host_values.specs.ElementCalls.{with_both}
use Rattle.host_values.proofs.KeyCalls.{iter_call, iter_memory}
use Rattle.host_values.proofs.KeySteps.{iter_traps}
use Rattle.host_values.proofs.keys.iter.Goals as goal

pub returns-in-Err-clause-step : goal.returns-in-Err-clause-step
returns-in-Err-clause-step c f memory none = iter_traps (with_both c.args.arrays.now c.args.iterators.now f) c.args.words.now memory c.in-Err.kind none (sym c.in-Err.ensures.number)

pub returns-in_default-clause-step : goal.returns-in_default-clause-step
returns-in_default-clause-step c f memory none = iter_memory (with_both c.args.arrays.now c.args.iterators.now f) c.args.words.now memory none _ (sym c.in-Ok.ensures.number) c.in-Ok.ensures.there c.requires f

pub returns-clause-step : goal.returns-clause-step
returns-clause-step c f memory none = iter_call (with_both c.args.arrays.now c.args.iterators.now f) c.args.words.now memory none _ (sym c.in-Ok.ensures.number) c.in-Ok.ensures.there c.requires _ _ c.add_keys.result (search rules) c.add_keys.ensures.number
