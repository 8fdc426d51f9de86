use Rattle.std.proofs.Common.{rules, arith, ap, ◌≡◌, ◌<◌, get_or, length, length-set, ℕ, Some}
use Rattle.std.specs.Prelude.{slice_get}
use Rattle.ere_match.specs.Rows.{SpecRow}
use Rattle.ere_match.proofs.Crowds.{leap_made, leaps_on, leaps_put, led_one}
use Rattle.ere_match.proofs.Tables.{item_is}
use Rattle.ere_match.proofs.crowd.compute.Goals as goal

pub lead-requires-clause-ranks : goal.lead-requires-clause-ranks
lead-requires-clause-ranks c = λ row is. (c.requires.crowd.table.rows c.args.state row is).is.len

pub make-requires-clause-numbers : goal.make-requires-clause-numbers
make-requires-clause-numbers c = λ id s holds.
    led_one c.args.nodes.now c.args.byte c.args.state c.lead.result id s c.args.crowd.now.table.rows.items c.lead.new.table.next.items (λ row is. (c.requires.crowd.table.rows c.args.state row is).is) c.requires.single c.lead.ensures.led holds

pub returns-clause-crowd : goal.returns-clause-crowd
returns-clause-crowd c =
    let led = c.lead.ensures.table c.args.entry c.args.classes.now c.requires.crowd.table in
    let made = c.make.ensures.table c.args.classes.now led.table in
    let l = c.lead.ensures.led in
    let kept : (r : ℕ) (row : SpecRow) → slice_get c.args.crowd.now.table.rows.items r ≡ Some row → slice_get c.make.new.table.rows.items r ≡ Some row = λ r row is. made.rows r row (led.rows r row is) in
    let wide : c.args.state < length c.widen_moves.new.moves.items = omega (arith, c.requires.state, c.requires.crowd.wide, c.in_ok-widen_moves.ensures.none.longer) in
    record {
      table = made.table;
      wide = omega (arith, c.in_ok-widen_moves.ensures.ok, c.len.ensures, length-set c.widen_moves.new.moves.items c.args.state c.put.new.self);
      leaps = leaps_put c.args.nodes.now c.args.entry c.args.byte c.args.state (get_or c.args.classes.now c.from.result 0) c.args.classes.now l.row c.make.new.table.rows.items c.widen_moves.new.moves.items c.index_mut.result.now c.put.new.self c.in_ok-to.to
          c.requires.classes (search rules) (ap (λ i. get_or c.args.classes.now i 0) c.from.ensures) (kept c.args.state l.row l.is)
          (leap_made c.args.nodes.now c.args.entry c.args.byte c.lead.result c.args.state c.args.crowd.now.table.rows.items c.make.new.table c.lead.new.table.next.items c.in_ok-to.to l c.in_ok-to.ensures.made)
          (item_is c.widen_moves.new.moves.items c.args.state c.index_mut.result.now wide c.index_mut.ensures.value) c.put.ensures.here c.put.ensures.other
          (leaps_on c.args.nodes.now c.args.entry c.args.classes.now c.args.crowd.now.table.rows.items c.make.new.table.rows.items c.args.crowd.now.leaps.items c.widen_moves.new.moves.items kept c.in_ok-widen_moves.ensures.none c.requires.crowd.leaps);
    }
