use Rattle.std.proofs.Common.{ap, ◌∙◌}
use Rattle.std.proofs.lemmas.Result.{IfOk-weaker}
use Rattle.mid_program.specs.Mid as plain
use Rattle.mid_program.specs.Translation.{copied, moved, one_code, store_at, two}
use Rattle.mid_program.specs.declared.mid.Operation.{Operation}
use Rattle.mid_code.specs.ViewTarget.{view_target}
use Rattle.mid_code.proofs.target.step_from.Goals as goal

pub returns : goal.returns
returns c =
    IfOk-weaker c.kept_and_stored.result _ _ (λ r h. h ∙ ap (λ (o : Operation). plain.Let (plain.Do o (two (copied 0) one_code)) (plain.Seq (store_at (view_target c.args.target) 2 (moved 0)) (moved 1)))
    c.step_operation.ensures) (c.kept_and_stored.ensures _ _ c.binary-new.ensures c.store-store.ensures)
