use Rattle.std.proofs.Common.{rules, ◌≡◌, length, map as map_list, sym, ap, subst, ◌∙◌}
use Rattle.std.specs.FinMap as map
use Rattle.awk_values.specs.Values.{text_of_value}
use Rattle.sem_primitives.specs.ArrayMeaning.{numbered}
use Rattle.sem_primitives.specs.TextMeaning.{splits_at}
use Rattle.host_format.specs.Spans.{span_text}
use Rattle.host_values.specs.Calls.{reserved_handle}
use Rattle.host_values.proofs.ReservedHandle.{reserved_removed}
use Rattle.host_values.specs.ElementCalls.{with_arrays}
use Rattle.host_tables.specs.Splits.{IsFilled, IsFound}
use Rattle.host_tables.proofs.Splitting.{split_call, split_fault, split_memory, split_traps}
use Rattle.host_tables.proofs.splits.split.Goals as goal

pub returns-in-Err-clause-step : goal.returns-in-Err-clause-step
returns-in-Err-clause-step c f memory none = split_traps (with_arrays c.args.handles.now c.args.arrays.now f) c.args.words.now memory c.in-Err.kind none (sym c.in-Err.ensures.value)

pub returns-in_default-clause-step : goal.returns-in_default-clause-step
returns-in_default-clause-step c f memory none = split_memory (with_arrays c.args.handles.now c.args.arrays.now f) c.args.words.now memory none _ (sym c.in-Ok.ensures.value) c.in-Ok.ensures.there f

pub returns-in-Ok-found-clause-step : goal.returns-in-Ok-found-clause-step
returns-in-Ok-found-clause-step c f memory none =
    let said = c.in-Ok.said in
    let gone : c.take.new.self ≡ map.remove c.args.handles.now said.0 = search rules in
    let left : c.take-2.new.self ≡ map.remove c.take.new.self said.3 = search rules in
    let outcome = splits_at said.5 (text_of_value said.4.now) in
    let are = subst (IsFound (text_of_value said.1.now) outcome) c.in-Ok-found.is c.in-Ok-split_outcome.ensures in
    let filled : IsFilled c.take_pieces.result (length c.in-Ok-found.spans.items) (map.insert c.args.arrays.now said.2 (numbered 1 (map_list (span_text c.in-Ok-found.text) c.in-Ok-found.spans.items))) c.take_pieces.new.arrays = search rules in
    split_call (with_arrays c.args.handles.now c.args.arrays.now f) c.args.words.now memory none _ (sym c.in-Ok.ensures.value) c.in-Ok.ensures.there _ _ c.in-Ok-found.text c.in-Ok-found.spans.items c.take_pieces.result
    (left ∙ ap (λ m. map.remove m said.3) gone) are filled

pub returns-in-Ok-found-clause-reserved : goal.returns-in-Ok-found-clause-reserved
returns-in-Ok-found-clause-reserved c free = ap (λ m. map.get m reserved_handle) c.take-2.ensures.rest ∙ reserved_removed c.take.new.self _ (ap (λ m. map.get m reserved_handle) c.take.ensures.rest ∙ reserved_removed c.args.handles.now _ free)

pub returns-in-Err-found-clause-step : goal.returns-in-Err-found-clause-step
returns-in-Err-found-clause-step c f memory none =
    let said = c.in-Ok.said in
    let gone : c.take.new.self ≡ map.remove c.args.handles.now said.0 = search rules in
    let left : c.take-2.new.self ≡ map.remove c.take.new.self said.3 = search rules in
    let outcome = splits_at said.5 (text_of_value said.4.now) in
    let fault = subst (IsFound (text_of_value said.1.now) outcome) c.in-Err-found.is c.in-Ok-split_outcome.ensures in
    split_fault (with_arrays c.args.handles.now c.args.arrays.now f) c.args.words.now memory none _ (sym c.in-Ok.ensures.value) c.in-Ok.ensures.there _ c.in-Err-found.fault fault (left ∙ ap (λ m. map.remove m said.3) gone)

pub returns-in-Err-found-clause-reserved : goal.returns-in-Err-found-clause-reserved
returns-in-Err-found-clause-reserved c free = ap (λ m. map.get m reserved_handle) c.take-2.ensures.rest ∙ reserved_removed c.take.new.self _ (ap (λ m. map.get m reserved_handle) c.take.ensures.rest ∙ reserved_removed c.args.handles.now _ free)
