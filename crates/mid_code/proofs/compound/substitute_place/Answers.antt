use Rattle.std.proofs.Common.{ap, ◌∙◌}
use Rattle.std.proofs.lemmas.Result.{IfOk-weaker}
use Rattle.mid_program.specs.Mid as plain
use Rattle.mid_program.specs.Translation.{Target, keeping, substituted_at}
use Rattle.mid_code.proofs.compound.substitute_place.Goals as goal

pub returns : goal.returns
returns c k a b kept ere replacement =
    IfOk-weaker c.replacing.result _ _ (λ r h. h ∙ ap (λ (t : Target). plain.Let a (plain.Let b (keeping k (substituted_at c.args.all t)))) c.target_in.ensures)
    (c.replacing.ensures a b _ ere replacement (c.keeping-body.ensures k _ kept c.substituted-body.ensures))
