use Rattle.std.proofs.Common.{ℕ, ap, ◌∙◌}
use Rattle.std.proofs.lemmas.Result.{IfOk-weaker}
use Rattle.sem_primitives.specs.declared.table.Primitive.TheVariants as row
use Rattle.mid_program.specs.Mid.{Fixed}
use Rattle.mid_program.specs.Translation.{host, one}
use Rattle.mid_program.specs.ViewCode.{view, views}
use Rattle.mid_code.proofs.build.set_reserved.Goals as goal

pub returns : goal.returns
returns c =
    IfOk-weaker c.done.result _ _ (λ r h. h ∙ ap (λ (n : ℕ). host row.SetSpecial (Fixed n (one (view c.args.code)))) (c.from.ensures ∙ c.number.ensures))
    (c.done.ensures _ (IfOk-weaker c.pair-operands.result _ _ (λ os h. ap views h) c.pair-operands.ensures))
