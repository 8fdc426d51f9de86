use Rattle.std.proofs.Common.{rules, arith, ap, sym, ◌≡◌, subst, get_or, Option, ℕ, Some, Vec, Global}
use Rattle.std.proofs.Props.{props}
use Rattle.std.proofs.Math.Logic.{∥∥₁_elim, ∥∥₁_map}
use Rattle.std.proofs.lemmas.Option.{slice_get_within}
use Rattle.std.specs.Prelude.{slice_get}
use Rattle.ere_match.specs.Threads.{Holds}
use Rattle.ere_match.specs.Rows.{SpecRow, SpecTable}
use Rattle.ere_match.proofs.Tables.{led_few, step_made, step_of, step_of_as}
use Rattle.ere_match.proofs.advance.compute.Goals as goal

pub lead-count-requires-clause-set_len : goal.lead-count-requires-clause-set_len
lead-count-requires-clause-set_len c = ∥∥₁_elim c.requires.table (search props) (λ t. t.set_len)

pub lead-count-requires-clause-next_len : goal.lead-count-requires-clause-next_len
lead-count-requires-clause-next_len c = ∥∥₁_elim c.requires.table (search props) (λ t. t.next_len)

pub lead-count-requires-clause-ranks : goal.lead-count-requires-clause-ranks
lead-count-requires-clause-ranks c = λ row is. ∥∥₁_elim c.requires.table (search props) (λ t. (t.rows c.args.state row is).is.len)

pub make-requires-clause-numbers : goal.make-requires-clause-numbers
make-requires-clause-numbers c = λ id s h. ∥∥₁_elim c.requires.table (search props) (λ t.
    (let few = led_few c.args.nodes.now c.args.byte c.args.state c.lead-count.result id s c.args.found c.args.table.now.rows.items c.lead-count.new.table.next.items (λ row is. (t.rows c.args.state row is).is) c.lead-count.ensures.led
    (subst (λ (v : Vec (Option ℕ) Global). Holds v.items id s) c.make_room-kept.ensures.next h) in
    omega (arith, few)))

pub returns-in_err-to-clause-table : goal.returns-in_err-to-clause-table
returns-in_err-to-clause-table c = ∥∥₁_map c.requires.table (λ t.
    (c.make.ensures.table c.args.classes.now (c.make_room-kept.ensures.table c.args.nodes.now c.args.entry c.args.classes.now (c.lead-count.ensures.table c.args.entry c.args.classes.now t).table)).table)

pub keep-requires : goal.keep-requires
keep-requires c = record {
  state = ∥∥₁_elim c.requires.table (search props) (λ t.
      (let k = c.make.ensures.table c.args.classes.now (c.make_room-kept.ensures.table c.args.nodes.now c.args.entry c.args.classes.now (c.lead-count.ensures.table c.args.entry c.args.classes.now t).table) in
      let l = c.lead-count.ensures.led in
      let is = k.rows c.args.state l.row (subst (λ (u : SpecTable). slice_get u.rows.items c.args.state ≡ Some l.row) (sym (c.make_room-kept.ensures.kept c.if-kept.true)) (subst (λ (v : Vec SpecRow Global). slice_get v.items c.args.state ≡ Some l.row) (sym c.lead-count.ensures.rows) l.is)) in
      let w = slice_get_within c.make.new.table.rows.items c.args.state l.row is in omega (arith, w, k.table.wide)));
}

pub returns-then-kept-clause-step : goal.returns-then-kept-clause-step
returns-then-kept-clause-step c = ∣ step_of_as c.args.nodes.now c.args.entry c.args.byte c.args.state c.args.found c.args.table.now c.make.new.table c.keep.new.table c.in_ok-to.to c.keep.ensures.rows c.keep.ensures.sources
    (step_of c.args.nodes.now c.args.entry c.args.byte c.lead-count.result c.args.state c.args.found c.args.table.now c.make.new.table c.lead-count.new.table.next.items c.make_room-kept.new.table.next.items c.in_ok-to.to (ap (λ (v : Vec (Option ℕ) Global). v.items) (sym c.make_room-kept.ensures.next)) c.lead-count.ensures.led c.in_ok-to.ensures.made) ∣₁

pub returns-then-kept-clause-table : goal.returns-then-kept-clause-table
returns-then-kept-clause-table c = ∥∥₁_map c.requires.table (λ t.
    (let k = c.make.ensures.table c.args.classes.now (c.make_room-kept.ensures.table c.args.nodes.now c.args.entry c.args.classes.now (c.lead-count.ensures.table c.args.entry c.args.classes.now t).table) in
    let l = c.lead-count.ensures.led in
    let is = k.rows c.args.state l.row (subst (λ (u : SpecTable). slice_get u.rows.items c.args.state ≡ Some l.row) (sym (c.make_room-kept.ensures.kept c.if-kept.true)) (subst (λ (v : Vec SpecRow Global). slice_get v.items c.args.state ≡ Some l.row) (sym c.lead-count.ensures.rows) l.is)) in
    let st = step_made c.args.nodes.now c.args.entry c.args.byte c.lead-count.result c.args.state c.args.found c.args.table.now.rows.items c.make.new.table c.lead-count.new.table.next.items c.make_room-kept.new.table.next.items c.in_ok-to.to (ap (λ (v : Vec (Option ℕ) Global). v.items) (sym c.make_room-kept.ensures.next)) l c.in_ok-to.ensures.made in
    c.keep.ensures.table c.args.nodes.now c.args.entry c.args.byte c.args.classes.now l.row c.requires.classes (search rules) (ap (λ i. get_or c.args.classes.now i 0) c.from.ensures) k.table is st))

pub returns-else-kept-clause-step : goal.returns-else-kept-clause-step
returns-else-kept-clause-step c = ∣ step_of c.args.nodes.now c.args.entry c.args.byte c.lead-count.result c.args.state c.args.found c.args.table.now c.make.new.table c.lead-count.new.table.next.items c.make_room-kept.new.table.next.items c.in_ok-to.to (ap (λ (v : Vec (Option ℕ) Global). v.items) (sym c.make_room-kept.ensures.next)) c.lead-count.ensures.led c.in_ok-to.ensures.made ∣₁

pub returns-else-kept-clause-table : goal.returns-else-kept-clause-table
returns-else-kept-clause-table c = ∥∥₁_map c.requires.table (λ t.
    (c.make.ensures.table c.args.classes.now (c.make_room-kept.ensures.table c.args.nodes.now c.args.entry c.args.classes.now (c.lead-count.ensures.table c.args.entry c.args.classes.now t).table)).table)
