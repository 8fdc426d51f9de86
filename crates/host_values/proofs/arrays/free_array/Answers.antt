use Rattle.std.proofs.Common.{rules, ◌≡◌, sym, ap, ◌∙◌}
use Rattle.std.specs.FinMap as map
use Rattle.host_values.specs.Calls.{reserved_handle}
use Rattle.host_values.proofs.ReservedHandle.{reserved_removed}
use Rattle.host_values.specs.ElementCalls.{with_arrays}
use Rattle.host_values.proofs.KeyCalls.{argv_traps, environ_traps, free_call}
use Rattle.host_values.proofs.KeySteps.{free_traps}
use Rattle.host_values.proofs.arrays.free_array.Goals as goal
use Rattle.host_values.proofs.arrays.free_array.Goals.{then-number-eq-ARGV-via-then-number-eq-ARGV, then-number-eq-ARGV-via-else-number-eq-ARGV+then-number-eq-ENVIRON}

pub returns-in-Err-clause-step : goal.returns-in-Err-clause-step
returns-in-Err-clause-step c f memory = free_traps (with_arrays f.values c.args.arrays.now f) c.args.words.now memory c.in-Err.kind (sym c.in-Err.ensures.number)

pub returns-then-number-eq-ARGV-clause-step : goal.returns-then-number-eq-ARGV-clause-step
returns-then-number-eq-ARGV-clause-step c f memory = elim c.then-number-eq-ARGV.branch [
  | then-number-eq-ARGV-via-then-number-eq-ARGV w ↦ argv_traps (with_arrays f.values c.args.arrays.now f) c.args.words.now memory c.in-Ok.number (sym c.in-Ok.ensures.number) (search rules)
  | then-number-eq-ARGV-via-else-number-eq-ARGV+then-number-eq-ENVIRON w ↦ environ_traps (with_arrays f.values c.args.arrays.now f) c.args.words.now memory c.in-Ok.number (sym c.in-Ok.ensures.number) (search rules)
]

pub returns-clause-step : goal.returns-clause-step
returns-clause-step c f memory =
    let freed : c.free.new.self ≡ map.remove c.args.arrays.now c.in-Ok.number = search rules in
    free_call (with_arrays f.values c.args.arrays.now f) c.free.new.self c.args.words.now memory _ (sym c.in-Ok.ensures.number) c.in-Ok.ensures.there (search rules) (search rules) freed

pub returns-clause-reserved : goal.returns-clause-reserved
returns-clause-reserved c free = ap (λ m. map.get m reserved_handle) c.free.ensures ∙ reserved_removed c.args.arrays.now _ free
