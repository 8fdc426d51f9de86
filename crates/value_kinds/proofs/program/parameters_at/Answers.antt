use Rattle.std.proofs.Common.{map, ap, ◌∙◌, arith}
use Rattle.mid_program.specs.View.{view_kind}
use Rattle.value_kinds.proofs.Views.{parameters_found, parameters_past}
use Rattle.value_kinds.proofs.program.parameters_at.Goals as goal

pub returns-then-place-len : goal.returns-then-place-len
returns-then-place-len c = parameters_past c.args.lanes.now.parameters.items c.args.place (omega arith)

pub returns : goal.returns
returns c = ap (map view_kind) c.deref.ensures.value ∙ parameters_found c.args.lanes.now.parameters.items c.args.place c.index.result.now (omega arith) c.index.ensures
