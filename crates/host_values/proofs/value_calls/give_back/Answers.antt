use Rattle.std.proofs.Common.{◌≡◌, ◌≤ℤ◌, ◌<ℤ◌, pos, arith, rules, ap, ◌∙◌}
use Rattle.std.proofs.lemmas.Int.{ints}
use Rattle.std.specs.FinMap as map
use Rattle.host_values.specs.Calls.{reserved_handle}
use Rattle.host_values.proofs.TwoHandles.{given_back, reserved_kept}
use Rattle.host_values.proofs.value_calls.give_back.Goals as goal

pub returns-clause-answer : goal.returns-clause-answer
returns-clause-answer c =
    let zero : pos 0 ≤ℤ c.args.handle = search rules in
    let below : c.args.handle <ℤ pos 2147483648 = omega (arith, ints, c.ranges.handle) in
    let put : c.let_go.new.self ≡ map.insert c.args.handles.now c.args.handle c.args.value = search rules in
    given_back c.args.handles.now _ c.args.handle c.args.value _ zero below (search rules) put

pub returns-clause-reserved : goal.returns-clause-reserved
returns-clause-reserved c =
    let put : c.let_go.new.self ≡ map.insert c.args.handles.now c.args.handle c.args.value = search rules in
    ap (λ m. map.get m reserved_handle) put ∙ reserved_kept c.args.handles.now c.args.handle c.args.value c.requires.there c.requires.reserved
