use Rattle.std.proofs.Common.{rules, ◌≡◌, sym, ap, ◌∙◌}
use Rattle.std.specs.FinMap as map
use Rattle.host_values.specs.Calls.{reserved_handle}
use Rattle.host_values.proofs.ReservedHandle.{reserved_removed}
use Rattle.host_values.specs.ElementCalls.{with_iterators}
use Rattle.host_values.proofs.KeyCalls.{iter_free_call}
use Rattle.host_values.proofs.KeySteps.{iter_free_traps}
use Rattle.host_values.proofs.keys.iter_free.Goals as goal

pub returns-in-Err-clause-step : goal.returns-in-Err-clause-step
returns-in-Err-clause-step c f memory = iter_free_traps (with_iterators f.values c.args.iterators.now f) c.args.words.now memory c.in-Err.kind (sym c.in-Err.ensures.number)

pub returns-clause-step : goal.returns-clause-step
returns-clause-step c f memory =
    let freed : c.free.new.self ≡ map.remove c.args.iterators.now c.in-Ok.number = search rules in
    iter_free_call (with_iterators f.values c.args.iterators.now f) c.free.new.self c.args.words.now memory _ (sym c.in-Ok.ensures.number) freed

pub returns-clause-reserved : goal.returns-clause-reserved
returns-clause-reserved c free = ap (λ m. map.get m reserved_handle) c.free.ensures ∙ reserved_removed c.args.iterators.now _ free
