use Rattle.std.proofs.Common.{rules, ◌≡◌, ◌++◌, ◌∷◌, [], ℕ, ap, get_or, refl}
use Rattle.script_places.specs.Tallies.{rows_of}
use Rattle.run_report.specs.declared.counts.PlaceCount.{PlaceCount}
use Rattle.script_places.proofs.Listed.{one_place}
use Rattle.script_places.proofs.line_counts.add_function.Goals as goal

pub loop-number-preserved : goal.loop-number-preserved
loop-number-preserved c = λ moments tallied.
    let all = c.deref-before-items.result.now in
    let k = c.loop-number.number in
    let x : ℕ = get_or all k 0 in
    let p : PlaceCount = record { before = x; count = c.in_ok-count.count } in
    let pushed : c.push.new.self.items ≡ c.loop-number.places.items ++ p ∷ [] = search rules in
    one_place (rows_of c.args.tally.now.nops.items) moments c.args.function k x all c.loop-number.places.items c.push.new.self.items p _ c.loop-number-test.true refl
    (ap (λ (n : ℕ). record { before = x; count = n }) (c.in_ok-count.ensures moments tallied)) pushed (c.loop-number.invariant moments tallied)
