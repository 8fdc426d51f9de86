use Rattle.std.proofs.Common.{refl}
use Rattle.ere_match.proofs.Tables.{begins_same, item_is, table_put}
use Rattle.ere_match.proofs.advance.keep.Goals as goal

pub returns-clause-table : goal.returns-clause-table
returns-clause-table c = λ all entry byte classes row apart small is_class t is step.
    table_put all entry byte c.args.state c.args.class classes c.args.found row c.args.to c.index_mut.result.now c.put.new.self c.args.table.now _ t.set_len t.next_len refl refl refl (begins_same c.args.table.now _ refl refl) refl apart small is_class t is step
    (item_is c.args.table.now.moves.items c.args.state c.index_mut.result.now c.requires.state c.index_mut.ensures.value) c.put.ensures.here c.put.ensures.other
