use Rattle.std.proofs.Common.{ap, ◌∙◌, arith}
use Rattle.std.specs.declared.vec.Vec.{Vec}
use Rattle.std.specs.declared.alloc.Global.{Global}
use Rattle.mid_program.specs.declared.program.Kind.{Kind}
use Rattle.value_kinds.specs.Lanes.{close_at}
use Rattle.value_kinds.specs.View.{view_kinds}
use Rattle.value_kinds.proofs.Closed.{close_in_past, close_in_set}
use Rattle.value_kinds.proofs.walk.close_in.Goals as goal

pub returns-then-function-len : goal.returns-then-function-len
returns-then-function-len c =
    close_in_set c.args.functions.now.items c.args.function c.args.place c.close_at.new.kinds c.index_mut.result.now (omega arith)
    (c.close_at.ensures ∙ ap (λ (v : Vec Kind Global). close_at (view_kinds v) c.args.place) c.index_mut.ensures.value)

pub returns-else-function-len : goal.returns-else-function-len
returns-else-function-len c = close_in_past c.args.functions.now.items c.args.function c.args.place (omega arith)
