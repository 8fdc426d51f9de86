use Rattle.std.proofs.Common.{arith, refl, subst, List, ◌+◌, length}
use Rattle.std.proofs.Math.Logic.{∥∥₁_map}
use Rattle.std.specs.Vec.{with_items}
use Rattle.ere_match.specs.Threads.{IsBest, SpecNode}
use Rattle.ere_match.proofs.Firsts.{auto_first}
use Rattle.ere_match.proofs.Tables.{begins_same, items_same, known_table, moves_same, rows_same, written_len}
use Rattle.ere_match.proofs.matching.first_match_by_threads.Goals as goal

pub invariant_of-auto : goal.invariant_of-auto
invariant_of-auto c = record {
  are_classes = c.args.auto.now.are_classes;
  is_lead = c.args.auto.now.is_lead;
  is_table = ∥∥₁_map c.args.auto.now.is_table (λ t.
      (known_table c.args.auto.now.nodes.items c.args.auto.now.entry c.args.auto.now.classes c.args.auto.now.table (record c.args.auto.now.table { set = with_items c.args.auto.now.table.set c.scan.new.set; next = with_items c.args.auto.now.table.next c.scan.new.next })
      (written_len c.args.auto.now.table.set c.scan.new.set c.args.auto.now.nodes.items t.set_len (omega (arith, c.scan.auto.set, c.deref_mut.ensures.len, t.set_len)))
      (written_len c.args.auto.now.table.next c.scan.new.next c.args.auto.now.nodes.items t.next_len (omega (arith, c.scan.auto.next, c.deref_mut-2.ensures.len, t.next_len)))
      t.wide (rows_same _ _ _) (moves_same _) (items_same _) (omega arith) (begins_same c.args.auto.now.table _ refl refl) t).table);
}

pub returns-clause-found : goal.returns-clause-found
returns-clause-found c = λ t a.
    auto_first c.args.auto.now c.args.text.now t c.args.from c.scan.result a
    (subst (λ (x : List SpecNode). IsBest x c.args.text.now c.args.auto.now.entry c.args.from (length c.args.text.now + 1) c.scan.result) c.deref.ensures.value c.scan.ensures)
