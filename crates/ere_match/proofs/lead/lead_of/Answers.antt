use Rattle.std.proofs.Common.{arith, sym, ◌∙◌, inl, inr, ◌+◌, ◌<◌, ◌≡◌, ℕ, subst, None, Some, get_or}
use Rattle.std.specs.Prelude.{slice_get}
use Rattle.ere_match.specs.declared.lead.Lead.{Lead}
use Rattle.ere_match.specs.Leads.{IsLedNode}
use Rattle.ere_match.specs.Threads.{Holds}
use Rattle.ere_match.proofs.Begins.{begins, led_on, wider_self}
use Rattle.ere_match.proofs.Hastes.{not_some}
use Rattle.ere_match.proofs.Marks.{read_holds, within_by}
use Rattle.ere_match.proofs.Steps.{node_is, runs_within}
use Rattle.std.proofs.lemmas.Option.{slice_get_within}
use Rattle.ere_match.proofs.lead.lead_of.Goals as goal
use Rattle.ere_match.proofs.lead.lead_of.Goals.{then-is_some, else-is_some}

pub close-requires-clause-starts : goal.close-requires-clause-starts
close-requires-clause-starts c = λ k s h. elim ((c.mark.ensures 1 (omega arith)).only k s h) [ inl older ↦ absurd (c.clear.ensures k s older) | inr is ↦ omega (arith, is.1) ]

pub loop-id-preserved : goal.loop-id-preserved
loop-id-preserved c = elim c.if-is_some.branch [
  | then-is_some w ↦ subst (λ (l : Lead). (k s : ℕ) → k < c.loop-id.id + 1 → Holds c.close.new.set k s → IsLedNode l (slice_get c.args.nodes.now k)) (sym w.lead-is)
      (led_on c.loop-id.lead w.with_node-lead.result c.args.nodes.now c.close.new.set c.loop-id.id w.with_node-lead.ensures.wider c.loop-id.invariant
      (λ s h. subst (IsLedNode w.with_node-lead.result) (sym (node_is c.args.nodes.now c.loop-id.id w.index-nodes-id.result c.loop-id-test.true w.index-nodes-id.is)) w.with_node-lead.ensures.node))
  | else-is_some w ↦ subst (λ (l : Lead). (k s : ℕ) → k < c.loop-id.id + 1 → Holds c.close.new.set k s → IsLedNode l (slice_get c.args.nodes.now k)) (sym w.lead-is)
      (led_on c.loop-id.lead c.loop-id.lead c.args.nodes.now c.close.new.set c.loop-id.id (wider_self c.loop-id.lead) c.loop-id.invariant
      (λ s h. absurd (let bad : None ≡ Some s = sym (not_some (get_or c.close.new.set c.loop-id.id None) (sym c.is_some.ensures ∙ w.if-is_some.false)) ∙ read_holds c.close.new.set c.loop-id.id s h in cc)))
]

pub returns-clause-lead : goal.returns-clause-lead
returns-clause-lead c = λ text i j m byte run here small.
    (let mark = c.mark.ensures 1 (omega arith) in
    let inside = runs_within c.args.nodes.now text j m c.args.entry i run in
    let held = within_by c.mark.new.set c.close.new.set c.args.entry 0 c.close.ensures.within (mark.here (omega (arith, inside, c.requires, c.clear.auto.set))) in
    begins c.args.nodes.now c.close.new.set c.loop-id.lead (omega (arith, c.close.ensures.len, mark.len, c.clear.auto.set, c.requires)) c.close.ensures.closed (λ k s h. c.loop-id.invariant k s (let w = slice_get_within c.close.new.set k (Some s) h.is in omega (arith, w, c.loop-id-test.false, c.close.ensures.len, mark.len, c.clear.auto.set, c.requires)) h) text j m c.args.entry held.first i byte held.holds run here small)
