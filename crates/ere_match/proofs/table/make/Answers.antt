use Rattle.std.proofs.Common.{arith, refl}
use Rattle.std.proofs.lemmas.Result.{IfOk-weaker}
use Rattle.std.specs.Vec.{with_items}
use Rattle.ere_match.proofs.Tables.{begins_same, items_same, known_table, known_then, made_all, moves_same, rows_same, written, written_len}
use Rattle.ere_match.proofs.table.make.Goals as goal

pub returns-clause-made : goal.returns-clause-made
returns-clause-made c =
    IfOk-weaker c.place.result _ _ (λ to placed. made_all c.args.nodes.now c.args.entry c.args.count c.args.found c.args.first c.args.table.now.next.items c.deref_mut.result.now c.settle.new.set _ c.place.new.table to c.deref_mut.ensures.value (written c.args.table.now.next c.settle.new.set (omega (arith, c.settle.auto.set, c.deref_mut.ensures.len))) c.settle.ensures.settled placed) c.place.ensures.placed

pub returns-clause-table : goal.returns-clause-table
returns-clause-table c = λ classes t.
    (let k = known_table c.args.nodes.now c.args.entry classes c.args.table.now (record c.args.table.now { next = with_items c.args.table.now.next c.settle.new.set }) t.set_len (written_len c.args.table.now.next c.settle.new.set c.args.nodes.now t.next_len (omega (arith, c.settle.auto.set, c.deref_mut.ensures.len, t.next_len))) t.wide (rows_same c.args.nodes.now _ _) (moves_same _) (items_same _) (omega arith) (begins_same c.args.table.now _ refl refl) t in
    known_then c.args.nodes.now c.args.entry classes c.args.table.now _ c.place.new.table k (c.place.ensures.table c.args.entry classes k.table))
