use Rattle.std.proofs.Common.{arith, subst, List}
use Rattle.std.specs.Vec.{with_items}
use Rattle.ere_match.specs.Threads.{SpecNode}
use Rattle.ere_match.specs.Leads.{IsLead}
use Rattle.ere_match.specs.Rows.{AreClasses}
use Rattle.ere_match.proofs.Tables.{table_empty, written_len}
use Rattle.ere_match.proofs.matching.build.Goals as goal

pub invariant_of-result : goal.invariant_of-result
invariant_of-result c = record {
  are_classes = subst (λ (x : List SpecNode). AreClasses x c.classes_of-classes.result) c.deref.ensures.value c.classes_of-classes.ensures;
  is_lead = subst (λ (x : List SpecNode). IsLead x c.in_ok-entry.entry c.lead_of-lead.result) c.deref-2.ensures.value c.lead_of-lead.ensures.lead;
  is_table = ∣ table_empty c.build.new.nodes.items c.in_ok-entry.entry c.classes_of-classes.result (record c.in_ok-table.table { set = with_items c.in_ok-table.table.set c.lead_of-lead.new.set }) (written_len c.in_ok-table.table.set c.lead_of-lead.new.set c.build.new.nodes.items (omega (arith, c.in_ok-table.ensures.set, c.len.ensures)) (omega (arith, c.lead_of-lead.ensures.len, c.deref_mut.ensures.len, c.in_ok-table.ensures.set, c.len.ensures))) (omega (arith, c.in_ok-table.ensures.next, c.len.ensures)) c.in_ok-table.ensures.rows c.in_ok-table.ensures.moves c.in_ok-table.ensures.at_first c.in_ok-table.ensures.elsewhere ∣₁;
}
