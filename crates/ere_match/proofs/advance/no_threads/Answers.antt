use Rattle.std.proofs.Common.{arith, refl}
use Rattle.std.specs.Vec.{with_items}
use Rattle.ere_match.proofs.Tables.{begins_same, items_same, known_table, moves_same, rows_same, written_len}
use Rattle.ere_match.proofs.advance.no_threads.Goals as goal

pub returns-clause-table : goal.returns-clause-table
returns-clause-table c = λ all entry classes t.
    (known_table all entry classes c.args.table.now (record c.args.table.now { next = with_items c.args.table.now.next c.clear.new.set }) t.set_len (written_len c.args.table.now.next c.clear.new.set all t.next_len (omega (arith, c.clear.auto.set, c.deref_mut.ensures.len, t.next_len))) t.wide (rows_same all _ _) (moves_same _) (items_same _) (omega arith) (begins_same c.args.table.now _ refl refl) t).table
