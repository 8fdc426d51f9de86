use Rattle.std.proofs.Common.{rules, ◌≡◌, sym, ap, ◌∙◌}
use Rattle.host_arrays.specs.Pairs.{delete_pair, pairs_at}
use Rattle.std.specs.FinMap as map
use Rattle.host_values.specs.Calls.{reserved_handle}
use Rattle.host_values.proofs.ReservedHandle.{reserved_removed}
use Rattle.host_values.specs.ElementCalls.{with_arrays}
use Rattle.host_values.proofs.Places.{free_still}
use Rattle.host_values.proofs.ArrayCalls.{delete_call}
use Rattle.host_values.proofs.ArraySteps.{delete_traps}
use Rattle.host_values.proofs.arrays.delete.Goals as goal

pub returns-in-Err-clause-step : goal.returns-in-Err-clause-step
returns-in-Err-clause-step c f memory none = delete_traps (with_arrays c.args.handles.now c.args.arrays.now f) c.args.words.now memory c.in-Err.kind none (sym c.in-Err.ensures.value)

pub returns-clause-step : goal.returns-clause-step
returns-clause-step c f memory none =
    let gone : c.spend.new.self ≡ map.remove c.args.handles.now c.in-Ok.read.1 = search rules in
    let deleted : c.delete.new.self ≡ map.insert c.args.arrays.now c.in-Ok.read.0 (delete_pair c.as_slice.result.now (pairs_at c.args.arrays.now c.in-Ok.read.0)) = search rules in
    delete_call (with_arrays c.args.handles.now c.args.arrays.now f) c.args.words.now memory none _ _ _ (sym c.in-Ok.ensures.value) c.in-Ok.ensures.there _ _ _ gone (c.as_slice.ensures ∙ c.key_text-key.ensures) deleted

pub returns-clause-reserved : goal.returns-clause-reserved
returns-clause-reserved c free = ap (λ m. map.get m reserved_handle) c.spend.ensures ∙ reserved_removed c.args.handles.now _ free

pub returns-clause-reserved_array : goal.returns-clause-reserved_array
returns-clause-reserved_array c free =
    let deleted : c.delete.new.self ≡ map.insert c.args.arrays.now c.in-Ok.read.0 (delete_pair c.as_slice.result.now (pairs_at c.args.arrays.now c.in-Ok.read.0)) = search rules in
    ap (λ m. map.get m reserved_handle) deleted ∙ free_still c.args.arrays.now c.in-Ok.read.0 _ reserved_handle c.in-Ok.ensures.there free
