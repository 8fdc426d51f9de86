use Rattle.std.proofs.Common.{ℕ, ◌<◌, ◌≤◌}
use Rattle.wasm_loader.specs.Laid.{laid}
use Rattle.wasm_machine.specs.StatementAt.{CalledAt}
use Rattle.wasm_machine.proofs.statements.is_called_between.Given as goal

abbrev pub invariant-loop-at : goal.invariant-loop-at
invariant-loop-at l = (k : ℕ) → l.from ≤ k → k < l.at → CalledAt (laid l.layout).forms l.numbers l.import k → ⊥
