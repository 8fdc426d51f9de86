use Rattle.std.proofs.Common.{ap, ◌∙◌}
use Rattle.std.proofs.lemmas.Result.{IfOk-weaker}
use Rattle.mid_program.specs.Mid as plain
use Rattle.mid_program.specs.Translation.{Target, keeping, received_at}
use Rattle.mid_code.proofs.compound.line_into.Goals as goal

pub returns : goal.returns
returns c k kept =
    IfOk-weaker c.keeping.result _ _ (λ r h. h ∙ ap (λ (t : Target). keeping k (plain.AskLine (received_at t))) c.target_in.ensures)
    (c.keeping.ensures k _ kept (c.asked.ensures _ c.received-store.ensures))
