use Rattle.std.proofs.Common.{◌≡◌, List, ap, ◌∙◌}
use Rattle.std.proofs.lemmas.Result.{IfOk-at_ok, on_ok_weaker}
use Rattle.mid_program.specs.Mid as plain
use Rattle.mid_program.specs.ViewCode.{followed, view, views}
use Rattle.mid_program.specs.declared.code.Operand.{Operand}
use Rattle.mid_program.specs.declared.code.Operand.TheVariants as operand
use Rattle.mid_code.proofs.Views.{followed_push}
use Rattle.mid_code.proofs.compound.push_code.Goals as goal

pub returns : goal.returns
returns c e es made =
    on_ok_weaker c.push.result (λ h. ap (λ (os : List Operand). followed (views os) es) h
    ∙ followed_push c.args.operands.now.items (operand.Code c.in_ok-code.field-0) es
    ∙ ap (λ (x : plain.Code). followed (views c.args.operands.now.items) (plain.At x es)) (IfOk-at_ok (λ code. view code ≡ e) c.in_ok-code.was made))
    c.push.ensures.items
