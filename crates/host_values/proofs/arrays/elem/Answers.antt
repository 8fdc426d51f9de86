use Rattle.std.proofs.Common.{rules, ◌≡◌, true, is_some, refl, sym, ap, ◌∙◌}
use Rattle.host_arrays.specs.Pairs.{created, get_pair, pairs_at, value_or_uninit}
use Rattle.std.specs.FinMap as map
use Rattle.host_values.specs.Calls.{Gives, reserved_handle}
use Rattle.host_values.specs.declared.reply.Reply.TheVariants as reply
use Rattle.host_values.proofs.SpentLemmas.{one_held}
use Rattle.host_values.specs.ElementCalls.{with_arrays}
use Rattle.host_values.proofs.Places.{free_still}
use Rattle.host_values.proofs.ArrayCalls.{elem_call, elem_memory}
use Rattle.host_values.proofs.ArraySteps.{elem_traps}
use Rattle.host_values.proofs.arrays.elem.Goals as goal

pub returns-in-Err-clause-step : goal.returns-in-Err-clause-step
returns-in-Err-clause-step c f memory none = elem_traps (with_arrays c.args.handles.now c.args.arrays.now f) c.args.words.now memory c.in-Err.kind none (sym c.in-Err.ensures.value)

pub give_back-requires-clause-there : goal.give_back-requires-clause-there
give_back-requires-clause-there c =
    let read = c.in-Ok.read in
    let there : map.contains_key c.args.handles.now read.1 ≡ true
    = ap is_some (one_held c.args.arrays.now c.args.handles.now c.args.words.now (read.0, read.1, read.2.now) (sym c.in-Ok.ensures.value)) in
    search (rules, there)

pub returns-clause-step : goal.returns-clause-step
returns-clause-step c f memory none =
    let made : c.get_or_create.new.self ≡ map.insert c.args.arrays.now c.in-Ok.read.0 (created c.as_slice.result.now (pairs_at c.args.arrays.now c.in-Ok.read.0)) = search rules in
    let found : c.in-Ok-get_or_create.found ≡ value_or_uninit (get_pair c.as_slice.result.now (pairs_at c.args.arrays.now c.in-Ok.read.0)) = search rules in
    let gives : Gives (reply.Value c.in-Ok-get_or_create.found) (map.remove c.args.handles.now c.in-Ok.read.1) c.give_back.result c.give_back.new.handles = search rules in
    elem_call (with_arrays c.args.handles.now c.args.arrays.now f) c.args.words.now memory none _ _ _ (sym c.in-Ok.ensures.value) c.in-Ok.ensures.there _ _ _ _ _ c.give_back.result c.requires refl (c.as_slice.ensures ∙ c.key_text-key.ensures)
    made found gives

pub returns-in_default-clause-step : goal.returns-in_default-clause-step
returns-in_default-clause-step c f memory none = elem_memory (with_arrays c.args.handles.now c.args.arrays.now f) c.args.words.now memory none _ _ _ (sym c.in-Ok.ensures.value) c.in-Ok.ensures.there c.requires f

pub returns-clause-reserved_array : goal.returns-clause-reserved_array
returns-clause-reserved_array c free =
    let made : c.get_or_create.new.self ≡ map.insert c.args.arrays.now c.in-Ok.read.0 (created c.as_slice.result.now (pairs_at c.args.arrays.now c.in-Ok.read.0)) = search rules in
    ap (λ m. map.get m reserved_handle) made ∙ free_still c.args.arrays.now c.in-Ok.read.0 _ reserved_handle c.in-Ok.ensures.there free
