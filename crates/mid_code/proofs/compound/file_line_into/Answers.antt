use Rattle.std.proofs.Common.{ap, ◌∙◌}
use Rattle.std.proofs.lemmas.Result.{IfOk-weaker}
use Rattle.mid_program.specs.Mid as plain
use Rattle.mid_program.specs.Translation.{Target, keeping, received_at}
use Rattle.mid_code.proofs.Boxes.{boxed_makes}
use Rattle.mid_code.proofs.compound.file_line_into.Goals as goal

pub returns : goal.returns
returns c k e kept file =
    IfOk-weaker c.keeping.result _ _ (λ r h. h ∙ ap (λ (t : Target). keeping k (plain.FileLine e (received_at t))) c.target_in.ensures)
    (c.keeping.ensures k _ kept (c.file_asked.ensures e _ (boxed_makes c.args.file c.in_box.result e c.in_box.ensures file) c.received-store.ensures))
