use Rattle.std.proofs.Math.Logic.{∥∥₁_map₂}
use Rattle.ere_match.proofs.Hastes.{leapt}
use Rattle.ere_match.proofs.search.search.Goals as goal

pub seek-requires-clause-search : goal.seek-requires-clause-search
seek-requires-clause-search c = ∥∥₁_map₂ c.begin.ensures.table c.in_ok-state.ensures.begun (λ t b.
    leapt c.args.nodes.now c.args.text.now c.args.entry c.args.from c.args.lead.now c.find-at.result c.in_ok-state.state c.args.classes.now c.begin.new.table c.find-at.ensures.after c.find-at.ensures.inside c.requires.lead (λ k less. (c.type_inv.text k).fits) c.find-at.ensures.none t b)
