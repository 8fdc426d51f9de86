use Rattle.value_kinds.specs.View.{slots}
use Rattle.value_kinds.proofs.Views.{CodeDone, Done, OperandDone}
use Rattle.value_kinds.proofs.code.+lanes.Given as goal

abbrev pub invariant-lane_operands-loop-operand : goal.invariant-lane_operands-loop-operand
invariant-lane_operands-loop-operand l = record {
  rest : goal.unvisited-lane_operands-loop-operand l;
  done : Done (OperandDone (slots l.names)) l.operand-index l.operand-items l.fn.operands.items;
}

abbrev pub invariant-lane_codes-loop-code : goal.invariant-lane_codes-loop-code
invariant-lane_codes-loop-code l = record {
  rest : goal.unvisited-lane_codes-loop-code l;
  done : Done (CodeDone (slots l.names)) l.code-index l.code-items l.fn.codes.items;
}
