use Rattle.std.proofs.Common.{arith, ap, ◌∙◌, ◌≡◌, ℕ, Some, Vec, Global}
use Rattle.std.specs.Prelude.{slice_get}
use Rattle.ere_match.specs.Rows.{SpecRow, source}
use Rattle.ere_match.proofs.Crowds.{leaps_on}
use Rattle.ere_match.proofs.crowd.gather.Goals as goal

pub returns-clause-gathered : goal.returns-clause-gathered
returns-clause-gathered c =
    let m = c.in_ok-to.ensures.made in
    record {
      row = m.row;
      is = m.is.is;
      stepped = c.no_threads.new.table.next.items;
      len = c.no_threads.ensures.len ∙ c.requires.crowd.table.next_len;
      f = source c.make.new.table.sources.items c.in_ok-to.to;
      made = m.made;
    }

pub returns-clause-crowd : goal.returns-clause-crowd
returns-clause-crowd c =
    let made = c.make.ensures.table c.args.classes.now (c.no_threads.ensures.table c.args.nodes.now c.args.entry c.args.classes.now c.requires.crowd.table) in
    let kept : (r : ℕ) (row : SpecRow) → slice_get c.args.crowd.now.table.rows.items r ≡ Some row → slice_get c.make.new.table.rows.items r ≡ Some row = λ r row is. made.rows r row (ap (λ (v : Vec SpecRow Global). slice_get v.items r) c.no_threads.ensures.rows ∙ is) in
    record {
      table = made.table;
      wide = omega (arith, c.in_ok-widen_moves.ensures.ok, c.len.ensures);
      leaps = leaps_on c.args.nodes.now c.args.entry c.args.classes.now c.args.crowd.now.table.rows.items c.make.new.table.rows.items c.args.crowd.now.leaps.items c.widen_moves.new.moves.items kept c.in_ok-widen_moves.ensures.none c.requires.crowd.leaps;
    }
