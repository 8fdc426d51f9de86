use Rattle.std.proofs.Common.{◌≡◌, ◌≤◌, take}
use Rattle.std.specs.List.{count_by}
use Rattle.wasm_loader.specs.Laid.{laid}
use Rattle.wasm_machine.specs.StatementAt.{is_nop}
use Rattle.wasm_machine.proofs.statements.nops_before.Given as goal

abbrev pub invariant-loop-at : goal.invariant-loop-at
invariant-loop-at l = record { count : l.count ≡ count_by is_nop (take l.at (laid l.layout).forms); within : l.count ≤ l.at }
