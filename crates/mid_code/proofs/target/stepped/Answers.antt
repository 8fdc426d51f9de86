use Rattle.std.proofs.Common.{refl, ap, ◌∙◌}
use Rattle.std.proofs.lemmas.Result.{IfOk-weaker}
use Rattle.mid_program.specs.Mid as plain
use Rattle.mid_program.specs.Translation.{one_code, read_at, stored_at, two}
use Rattle.mid_program.specs.declared.mid.Operation.{Operation}
use Rattle.mid_code.specs.ViewTarget.{view_target}
use Rattle.mid_code.proofs.target.stepped.Goals as goal

pub returns : goal.returns
returns c =
    let target = view_target c.args.target in
    IfOk-weaker c.stored.result _ _ (λ r h. h ∙ ap (λ (o : Operation). stored_at target 0 (plain.Do o (two (read_at target 0) one_code))) c.step_operation.ensures)
    (c.stored.ensures _ (c.binary_on-new.ensures _ one_code c.read-old.ensures refl))
