use Rattle.std.proofs.Common.{arith, ap, refl, ◌∙◌, length}
use Rattle.ere_match.specs.Rows.{cut, limit_of, numbers}
use Rattle.ere_match.proofs.Tables.{begins_same, item_is, items_same, known_table, moves_same, rows_same, stepped_as, written, written_len}
use Rattle.ere_match.proofs.advance.lead.Goals as goal

pub load-requires : goal.load-requires
load-requires c =
    let r = c.requires.ranks c.index-row.result.now (item_is c.args.table.now.rows.items c.args.state c.index-row.result.now c.requires.state c.index-row.ensures) in
    omega (arith, c.deref_mut.ensures.len, ap length c.deref.ensures.value, c.requires.set_len, r)

pub returns-clause-led : goal.returns-clause-led
returns-clause-led c =
    let is = item_is c.args.table.now.rows.items c.args.state c.index-row.result.now c.requires.state c.index-row.ensures in
    let r = c.requires.ranks c.index-row.result.now is in
    record {
      row = c.index-row.result.now;
      is = is;
      counts = refl;
      steps = stepped_as c.args.nodes.now c.args.byte (length c.args.nodes.now) (cut (limit_of c.args.found c.index-row.result.now) (numbers c.index-row.result.now.ranks.items)) c.step.new.next c.deref-2.result.now _
          (c.deref-2.ensures.value ∙ written c.args.table.now.set c.load.new.set (omega (arith, c.load.auto.set, c.deref_mut.ensures.len)) ∙ c.load.ensures ∙ ap (λ l. cut l (numbers c.deref.result.now)) c.limit.ensures ∙ ap (λ xs. cut (limit_of c.args.found c.index-row.result.now) (numbers xs)) c.deref.ensures.value)
          (written c.args.table.now.next c.step.new.next (omega (arith, c.step.auto.next, c.deref_mut-2.ensures.len))) c.step.ensures;
    }

pub returns-clause-table : goal.returns-clause-table
returns-clause-table c = λ entry classes t.
    known_table c.args.nodes.now entry classes c.args.table.now _ (written_len c.args.table.now.set c.load.new.set c.args.nodes.now t.set_len (omega (arith, c.load.auto.set, c.deref_mut.ensures.len, t.set_len))) (written_len c.args.table.now.next c.step.new.next c.args.nodes.now t.next_len (omega (arith, c.step.auto.next, c.deref_mut-2.ensures.len, t.next_len))) t.wide (rows_same c.args.nodes.now _ _) (moves_same _) (items_same _) (omega arith) (begins_same c.args.table.now _ refl refl) t

pub returns-clause-set_len : goal.returns-clause-set_len
returns-clause-set_len c = written_len c.args.table.now.set c.load.new.set c.args.nodes.now c.requires.set_len (omega (arith, c.load.auto.set, c.deref_mut.ensures.len, c.requires.set_len))

pub returns-clause-next_len : goal.returns-clause-next_len
returns-clause-next_len c = written_len c.args.table.now.next c.step.new.next c.args.nodes.now c.requires.next_len (omega (arith, c.step.auto.next, c.deref_mut-2.ensures.len, c.requires.next_len))
