use Rattle.std.proofs.Common.{rules, ◌≡◌, sym, ap, ◌∙◌, []}
use Rattle.std.specs.FinMap as map
use Rattle.host_values.specs.Calls.{reserved_handle}
use Rattle.host_values.specs.ElementCalls.{with_arrays}
use Rattle.host_values.proofs.ArrayCalls.{clear_call}
use Rattle.host_values.proofs.ArraySteps.{clear_traps}
use Rattle.host_values.proofs.Places.{free_still}
use Rattle.host_values.proofs.arrays.clear.Goals as goal

pub returns-in-Err-clause-step : goal.returns-in-Err-clause-step
returns-in-Err-clause-step c f memory none = clear_traps (with_arrays f.values c.args.arrays.now f) c.args.words.now memory c.in-Err.kind none (sym c.in-Err.ensures.number)

pub returns-clause-step : goal.returns-clause-step
returns-clause-step c f memory none =
    let cleared : c.clear.new.self ≡ map.insert c.args.arrays.now c.in-Ok.number [] = search rules in
    clear_call (with_arrays f.values c.args.arrays.now f) c.clear.new.self c.args.words.now memory _ none (sym c.in-Ok.ensures.number) c.in-Ok.ensures.there cleared

pub returns-clause-reserved : goal.returns-clause-reserved
returns-clause-reserved c free =
    let cleared : c.clear.new.self ≡ map.insert c.args.arrays.now c.in-Ok.number [] = search rules in
    ap (λ m. map.get m reserved_handle) cleared ∙ free_still c.args.arrays.now c.in-Ok.number _ reserved_handle c.in-Ok.ensures.there free
