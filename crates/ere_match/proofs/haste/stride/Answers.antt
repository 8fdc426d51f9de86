use Rattle.std.proofs.Common.{arith, refl, ap, sym, None, false}
use Rattle.std.proofs.Props.{props}
use Rattle.std.proofs.Math.Logic.{∥∥₁_elim, ∥∥₁_prop}
use Rattle.std.proofs.lemmas.Option.{get_or_from_slice_get}
use Rattle.ere_match.specs.Threads.{better_of}
use Rattle.ere_match.specs.Rows.{started}
use Rattle.ere_match.proofs.Places.{search_moves}
use Rattle.ere_match.proofs.haste.stride.Goals as goal

pub loop_of-requires-clause-wide : goal.loop_of-requires-clause-wide
loop_of-requires-clause-wide c = ∥∥₁_elim c.requires.table (search props) (λ t. omega (arith, t.wide, c.requires.state))

pub returns-in-Some-clause-after : goal.returns-in-Some-clause-after
returns-in-Some-clause-after c = c.pass_over-place.ensures.further c.requires.inside refl

pub returns-clause-search : goal.returns-clause-search
returns-clause-search c = λ from above s. ∥∥₁_elim s ∥∥₁_prop (λ x.
    search_moves c.args.nodes.now c.args.text.now c.args.entry from c.args.at c.args.state None c.args.table.now x.row (sym (get_or_from_slice_get c.args.table.now.rows.items c.args.state x.row x.row x.is)) c.in_ok-step.step.0 false None c.args.classes.now c.advance.new.table above c.requires.inside
    (sym (ap (λ o. better_of (started c.args.table.now.starts.items o) c.args.at None) (c.requires.none x.row x.is))) refl c.advance.ensures.table c.in_ok-step.ensures.moved s)
