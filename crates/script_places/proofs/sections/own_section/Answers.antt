use Rattle.std.proofs.Common.{◌≡◌, ◌-◌, ◌+◌, ◌∙◌, None, Option, List, ℕ, ap, ap₂, arith, length, sym}
use Rattle.script_places.specs.Reading.{held, own_in}
use Rattle.script_places.proofs.Turns.{next_section, no_section, no_turn}
use Rattle.script_places.proofs.sections.own_section.Goals as goal

pub loop-init : goal.loop-init
loop-init c =
    let turns : length c.args.bytes.now - 0 ≡ length c.args.bytes.now = omega arith in
    ap₂ (λ (n : ℕ) (rest : List ℕ). own_in n None rest) turns c.after_header-rest.ensures

pub loop-preserved : goal.loop-preserved
loop-preserved c =
    let turns = length c.args.bytes.now in
    let next = next_section (held c.loop.found) c.loop.counter turns c.loop.rest.now c.in-Some.id c.in-Some.contents.now c.in-Some.after.now c.loop-test.true c.in-Some.ensures in
    ap (λ (found : Option (List ℕ)). own_in (turns - (c.loop.counter + 1)) found c.in-Some.after.now) c.newer-found.ensures ∙ (next ∙ c.loop.invariant)

pub returns-in_default : goal.returns-in_default
returns-in_default c =
    sym (no_section (held c.loop.found) c.loop.counter (length c.args.bytes.now) c.loop.rest.now c.loop-test.true c.in_default.ensures) ∙ c.loop.invariant

pub returns : goal.returns
returns c = sym (no_turn (held c.loop.found) c.loop.counter (length c.args.bytes.now) c.loop.rest.now c.loop-test.false) ∙ c.loop.invariant
