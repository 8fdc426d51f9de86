use Rattle.folding.proofs.Views.{CodeDone, Done, OperandDone}
use Rattle.folding.proofs.code.+folding.Given as goal

abbrev pub invariant-fold_operands-loop-operand : goal.invariant-fold_operands-loop-operand
invariant-fold_operands-loop-operand l = record {
  rest : goal.unvisited-fold_operands-loop-operand l;
  done : Done OperandDone l.operand-index l.operand-items l.fn.operands.items;
}

abbrev pub invariant-fold_codes-loop-code : goal.invariant-fold_codes-loop-code
invariant-fold_codes-loop-code l = record {
  rest : goal.unvisited-fold_codes-loop-code l;
  done : Done CodeDone l.code-index l.code-items l.fn.codes.items;
}
