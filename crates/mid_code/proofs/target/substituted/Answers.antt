use Rattle.std.proofs.Common.{◌≡◌, ℕ, suc, ap, ◌∙◌}
use Rattle.std.proofs.lemmas.Result.{IfOk-at_ok}
use Rattle.mid_program.specs.Mid as plain
use Rattle.mid_program.specs.Translation.{moved, read_at, received_at, two}
use Rattle.mid_program.specs.ViewCode.{view, views}
use Rattle.mid_code.specs.ViewTarget.{view_target}
use Rattle.mid_code.proofs.target.substituted.Goals as goal

pub returns : goal.returns
returns c =
    let target = view_target c.args.target in
    let after = c.kept_count.result in
    let operands = IfOk-at_ok (λ found. views found.items ≡ plain.At (moved (suc after)) (two (moved after) (read_at target 0))) c.in_ok-operands.ensures.0 (c.substituting-operands.ensures _ c.read.ensures) in
    let store = IfOk-at_ok (λ code. view code.value ≡ received_at target) c.in_ok-operands.ensures.1 c.received.ensures in
    c.replaced.ensures ∙ (λ i. plain.Replace c.args.all (operands i) (store i))
    ∙ ap (λ (n : ℕ). plain.Replace c.args.all (plain.At (moved (suc n)) (two (moved n) (read_at target 0))) (received_at target)) c.kept_count.ensures
