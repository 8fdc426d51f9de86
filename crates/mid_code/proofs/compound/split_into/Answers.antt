use Rattle.std.proofs.Common.{◌≡◌, ℕ, ap, ◌∙◌}
use Rattle.std.proofs.lemmas.Result.{IfOk-at_ok}
use Rattle.mid_program.specs.Mid as plain
use Rattle.mid_program.specs.ViewCode.{view, view_array, views}
use Rattle.mid_program.specs.declared.mid.Operation.TheVariants.{Host}
use Rattle.sem_primitives.specs.declared.table.Primitive.TheVariants as row
use Rattle.mid_code.proofs.CodeParts.{flag_is}
use Rattle.mid_code.proofs.Views.{views_push}
use Rattle.mid_code.proofs.compound.split_into.Goals as goal

pub returns : goal.returns
returns c a b text separator =
    c.applied.ensures ∙ ap (plain.Do (Host row.Split))
    (ap views c.in_ok-push.ensures.items ∙ views_push c.in_ok-operands.operands.items _ _ c.in_ok-operands.ensures
    ∙ rw (IfOk-at_ok (λ code. view code ≡ a) c.in_ok-text.ensures.0 text, IfOk-at_ok (λ code. view code ≡ b) c.in_ok-text.ensures.1 separator)
    (ap (λ (n : ℕ). plain.At a (plain.At (plain.Array (view_array c.args.array)) (plain.At b (plain.Fixed n plain.End)))) (c.from.ensures ∙ flag_is c.args.is_ere)))
