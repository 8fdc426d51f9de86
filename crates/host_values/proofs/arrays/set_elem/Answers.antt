use Rattle.std.proofs.Common.{rules, ◌≡◌, Some, None, sym, ap, ◌∙◌}
use Rattle.std.specs.FinMap as map
use Rattle.awk_values.specs.Values.{text_of_value}
use Rattle.host_values.specs.Calls.{reserved_handle}
use Rattle.host_values.proofs.ReservedHandle.{reserved_removed}
use Rattle.host_arrays.specs.Pairs.{pairs_at, set_pair}
use Rattle.host_values.specs.ElementCalls.{IsPut, with_arrays}
use Rattle.host_values.specs.Reads.{array_and_two}
use Rattle.host_values.proofs.ArrayCalls.{set_call}
use Rattle.host_values.proofs.ArraySteps.{set_traps}
use Rattle.host_values.proofs.SpentLemmas.{apart_some, key_held, same_some, unread, value_held, with_value}
use Rattle.host_values.proofs.arrays.set_elem.Goals as goal

pub returns-in-Err-clause-step : goal.returns-in-Err-clause-step
returns-in-Err-clause-step c f memory none = set_traps (with_arrays c.args.handles.now c.args.arrays.now f) c.args.words.now memory c.in-Err.kind none (unread _ _ c.in-Err.ensures.value)

pub unreachable-requires : goal.unreachable-requires
unreachable-requires c =
    let read = c.in-Ok.read in
    let w = with_value (array_and_two c.args.arrays.now c.args.handles.now c.args.words.now) (read.0, read.1, read.2.now, read.3) c.in-Ok.ensures.value in
    let none : map.get c.args.handles.now c.in-Ok.read.1 ≡ None = search rules in
    apart_some _ (sym none ∙ key_held c.args.arrays.now c.args.handles.now c.args.words.now _ w.1)

pub unreachable-requires-in_default-take : goal.unreachable-requires-in_default-take
unreachable-requires-in_default-take c =
    let read = c.in-Ok.read in
    let w = with_value (array_and_two c.args.arrays.now c.args.handles.now c.args.words.now) (read.0, read.1, read.2.now, read.3) c.in-Ok.ensures.value in
    let gone : c.take.new.self ≡ map.remove c.args.handles.now c.in-Ok.read.1 = search rules in
    let none : map.get c.take.new.self c.in-Ok.read.3 ≡ None = search rules in
    apart_some _ (sym none ∙ ap (λ m. map.get m c.in-Ok.read.3) gone ∙ value_held c.args.arrays.now c.args.handles.now c.args.words.now _ w.1)

pub returns-clause-step : goal.returns-clause-step
returns-clause-step c f memory none =
    let read = c.in-Ok.read in
    let w = with_value (array_and_two c.args.arrays.now c.args.handles.now c.args.words.now) (read.0, read.1, read.2.now, read.3) c.in-Ok.ensures.value in
    let gone : c.take.new.self ≡ map.remove c.args.handles.now c.in-Ok.read.1 = search rules in
    let left : c.take-2.new.self ≡ map.remove c.take.new.self c.in-Ok.read.3 = search rules in
    let first : map.get c.args.handles.now c.in-Ok.read.1 ≡ Some c.in-Some.key = search rules in
    let held : map.get c.take.new.self c.in-Ok.read.3 ≡ Some c.in-Some-take.value = search rules in
    let key = same_some _ _ (sym first ∙ key_held c.args.arrays.now c.args.handles.now c.args.words.now _ w.1) in
    let put : IsPut c.put-outcome.result (map.insert c.args.arrays.now c.in-Ok.read.0 (set_pair c.as_slice.result.now c.in-Some-take.value (pairs_at c.args.arrays.now c.in-Ok.read.0))) c.put-outcome.new.arrays = search rules in
    set_call (with_arrays c.args.handles.now c.args.arrays.now f) c.args.words.now memory none _ _ _ _ w.0 w.1 c.in-Ok.ensures.there _ _ _ _ c.put-outcome.result (c.let_go.ensures ∙ left ∙ ap (λ m. map.remove m c.in-Ok.read.3) gone) (c.as_slice.ensures ∙ c.key_text-text.ensures ∙ ap text_of_value key)
    (same_some _ _ (sym held ∙ ap (λ m. map.get m c.in-Ok.read.3) gone ∙ value_held c.args.arrays.now c.args.handles.now c.args.words.now _ w.1)) put

pub returns-clause-reserved : goal.returns-clause-reserved
returns-clause-reserved c free = ap (λ m. map.get m reserved_handle) (c.let_go.ensures ∙ c.take-2.ensures.rest) ∙ reserved_removed c.take.new.self _ (ap (λ m. map.get m reserved_handle) c.take.ensures.rest ∙ reserved_removed c.args.handles.now _ free)
