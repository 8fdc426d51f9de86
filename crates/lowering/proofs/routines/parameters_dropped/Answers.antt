use Rattle.std.proofs.Common.{arith}
use Rattle.lower_expressions.specs.View.{view_layout}
use Rattle.lower_pieces.proofs.Appended.{◌⨟◌, same}
use Rattle.lowering.proofs.Announced.{parameters_step}
use Rattle.lowering.proofs.routines.parameters_dropped.Goals as goal

pub loop-kind-preserved : goal.loop-kind-preserved
loop-kind-preserved c = record {
  place = omega arith;
  emits = λ k. (rw c.loop-kind.invariant.place at c.parameter_dropped.ensures) _
      ⨟ same (parameters_step (view_layout c.args.layout.now) c.args.kinds.now c.loop-kind.kind-index k (omega arith)) ⨟ c.loop-kind.invariant.emits k;
}
