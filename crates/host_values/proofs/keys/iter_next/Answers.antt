use Rattle.std.proofs.Common.{rules, ◌≡◌, Some, None, sym, ap, ◌∙◌}
use Rattle.std.specs.FinMap as map
use Rattle.host_values.specs.ElementCalls.{with_iterators}
use Rattle.host_values.specs.Turns.{first_key, keys_at, other_keys}
use Rattle.host_values.specs.Calls.{reserved_handle}
use Rattle.host_values.proofs.Places.{free_still}
use Rattle.host_values.proofs.KeyCalls.{end_call, next_call, next_memory}
use Rattle.host_values.proofs.KeySteps.{next_traps}
use Rattle.host_values.proofs.keys.iter_next.Goals as goal

pub returns-in-Err-clause-step : goal.returns-in-Err-clause-step
returns-in-Err-clause-step c f memory none = next_traps (with_iterators c.args.handles.now c.args.iterators.now f) c.args.words.now memory c.in-Err.kind none (sym c.in-Err.ensures.number)

pub returns-in-Ok-Some-clause-step : goal.returns-in-Ok-Some-clause-step
returns-in-Ok-Some-clause-step c f memory none =
    let first : Some c.in-Ok-Some.key ≡ first_key (keys_at c.args.iterators.now c.in-Ok.number) = search rules in
    let left : c.next.new.self ≡ map.insert c.args.iterators.now c.in-Ok.number (other_keys (keys_at c.args.iterators.now c.in-Ok.number)) = search rules in
    next_call (with_iterators c.args.handles.now c.args.iterators.now f) c.args.words.now memory none _ (sym c.in-Ok.ensures.number) c.in-Ok.ensures.there c.requires _ _ c.in-Ok-Some.key c.give_value.result first left c.give_value.ensures.answer

pub returns-in-Ok-None-clause-step : goal.returns-in-Ok-None-clause-step
returns-in-Ok-None-clause-step c f memory none =
    let first : None ≡ first_key (keys_at c.args.iterators.now c.in-Ok.number) = search rules in
    let left : c.next.new.self ≡ map.insert c.args.iterators.now c.in-Ok.number (other_keys (keys_at c.args.iterators.now c.in-Ok.number)) = search rules in
    end_call (with_iterators c.args.handles.now c.args.iterators.now f) c.args.words.now memory none _ (sym c.in-Ok.ensures.number) c.in-Ok.ensures.there c.requires _ first left

pub returns-in-Err-next-clause-step : goal.returns-in-Err-next-clause-step
returns-in-Err-next-clause-step c f memory none = next_memory (with_iterators c.args.handles.now c.args.iterators.now f) c.args.words.now memory none _ (sym c.in-Ok.ensures.number) c.in-Ok.ensures.there c.requires f

pub returns-in-Ok-Some-clause-reserved_iterator : goal.returns-in-Ok-Some-clause-reserved_iterator
returns-in-Ok-Some-clause-reserved_iterator c free =
    let left : c.next.new.self ≡ map.insert c.args.iterators.now c.in-Ok.number (other_keys (keys_at c.args.iterators.now c.in-Ok.number)) = search rules in
    ap (λ m. map.get m reserved_handle) left ∙ free_still c.args.iterators.now c.in-Ok.number _ reserved_handle c.in-Ok.ensures.there free

pub returns-in-Ok-None-clause-reserved_iterator : goal.returns-in-Ok-None-clause-reserved_iterator
returns-in-Ok-None-clause-reserved_iterator c free =
    let left : c.next.new.self ≡ map.insert c.args.iterators.now c.in-Ok.number (other_keys (keys_at c.args.iterators.now c.in-Ok.number)) = search rules in
    ap (λ m. map.get m reserved_handle) left ∙ free_still c.args.iterators.now c.in-Ok.number _ reserved_handle c.in-Ok.ensures.there free
