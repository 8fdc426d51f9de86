use Rattle.std.proofs.Common.{rules, ◌≡◌, sym, ap, ◌∙◌}
use Rattle.std.specs.FinMap as map
use Rattle.host_values.specs.Calls.{reserved_handle}
use Rattle.host_values.proofs.ReservedHandle.{reserved_removed}
use Rattle.host_values.specs.ElementCalls.{with_arrays}
use Rattle.host_values.proofs.ArrayCalls.{has_call}
use Rattle.host_values.proofs.ArraySteps.{has_traps}
use Rattle.host_values.proofs.arrays.has.Goals as goal

pub returns-in-Err-clause-step : goal.returns-in-Err-clause-step
returns-in-Err-clause-step c f memory none = has_traps (with_arrays c.args.handles.now c.args.arrays.now f) c.args.words.now memory c.in-Err.kind none (sym c.in-Err.ensures.value)

pub returns-clause-step : goal.returns-clause-step
returns-clause-step c f memory none =
    let gone : c.spend.new.self ≡ map.remove c.args.handles.now c.in-Ok.read.1 = search rules in
    has_call (with_arrays c.args.handles.now c.args.arrays.now f) c.args.words.now memory none _ _ _ (sym c.in-Ok.ensures.value) c.in-Ok.ensures.there _ _ _ gone (c.as_slice.ensures ∙ c.key_text-key.ensures) (search rules)

pub returns-clause-reserved : goal.returns-clause-reserved
returns-clause-reserved c free = ap (λ m. map.get m reserved_handle) c.spend.ensures ∙ reserved_removed c.args.handles.now _ free
