use Rattle.std.proofs.Math.Logic.{∥∥₁_elim, ∥∥₁_map₂, ∥∥₁_prop}
use Rattle.ere_match.proofs.Hastes.{jumped}
use Rattle.ere_match.proofs.haste.jump.Goals as goal

pub returns-clause-search : goal.returns-clause-search
returns-clause-search c = λ from above s. ∥∥₁_elim s ∥∥₁_prop (λ h. ∥∥₁_map₂ c.begin.ensures.table c.in_ok-state.ensures.begun (λ t b.
    jumped c.args.nodes.now c.args.text.now c.args.entry from c.args.lead.now c.args.at c.find-to.result c.args.state c.in_ok-state.state c.args.classes.now c.args.table.now c.begin.new.table above c.find-to.ensures.after c.find-to.ensures.inside c.requires.lead (λ k less. (c.type_inv.text k).fits) c.find-to.ensures.none c.requires.idle h t b))
