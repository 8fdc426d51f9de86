use Rattle.std.proofs.Common.{ap, ◌∙◌}
use Rattle.mid_program.specs.View.{view_mid}
use Rattle.value_kinds.specs.View.{view_lanes}
use Rattle.script_code.proofs.Codes.{unboxed_is}
use Rattle.script_code.proofs.code.unboxed.Goals as goal

pub returns-in-Ok-apply-clause-ok : goal.returns-in-Ok-apply-clause-ok
returns-in-Ok-apply-clause-ok c =
    let folded = view_mid c.in-Ok.mid in
    unboxed_is (view_mid c.args.mid) folded (view_lanes c.in-Ok-infer.lanes) (view_mid c.in-Ok-apply.mid) c.in-Ok.ensures.code c.in-Ok-infer.ensures c.in-Ok-apply.ensures.code
    (λ s turns. c.in-Ok-apply.ensures.same_meaning s turns ∙ c.in-Ok.ensures.same_meaning s turns)
    (λ sorted. c.found_lanes_leave_sorted.ensures folded (c.in-Ok.ensures.sorted sorted))
