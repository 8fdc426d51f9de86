use Rattle.std.proofs.Common.{ap, ◌∙◌, arith}
use Rattle.mid_program.specs.View.{view_kind}
use Rattle.mid_program.specs.declared.program.Kind.{Kind}
use Rattle.value_kinds.specs.Lanes.{closed}
use Rattle.value_kinds.proofs.Closed.{close_past, close_set}
use Rattle.value_kinds.proofs.walk.close_at.Goals as goal

pub returns-then-place-len : goal.returns-then-place-len
returns-then-place-len c =
    close_set c.args.kinds.now.items c.args.place c.closed.result c.index.result.now (omega arith) (c.closed.ensures ∙ ap (λ (k : Kind). closed (view_kind k)) c.index.ensures)

pub returns-else-place-len : goal.returns-else-place-len
returns-else-place-len c = close_past c.args.kinds.now.items c.args.place (omega arith)
