use Rattle.std.proofs.Common.{◌+◌, ◌*◌}
use Rattle.wasm_types.specs.Instructions.{depth, depths}
use Rattle.wasm_types.specs.View.{view, views}
use Rattle.module_validator.specs.Checks.{context_of}
use Rattle.module_validator.specs.Faults.{faulty}
use Rattle.module_validator.proofs.Sought.{Passed}
use Rattle.module_validator.proofs.checker.Scope.+search.Given as goal

abbrev pub decreases-is_at_fault : goal.decreases-is_at_fault
decreases-is_at_fault l = 2 * depth (view l.i.now) + 1

abbrev pub decreases-has : goal.decreases-has
decreases-has l = 2 * depths (views l.code.now) + 2

abbrev pub invariant-has-loop-i : goal.invariant-has-loop-i
invariant-has-loop-i l = Passed (faulty (context_of l.self) l.sought) l.labels l.code l.i-index
