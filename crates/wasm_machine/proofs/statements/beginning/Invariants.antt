use Rattle.std.proofs.Common.{◌≤◌, ◌-◌}
use Rattle.wasm_loader.specs.Laid.{laid}
use Rattle.wasm_machine.proofs.Searching.{Searched}
use Rattle.wasm_machine.proofs.statements.beginning.Given as goal

abbrev pub invariant-loop-back : goal.invariant-loop-back
invariant-loop-back l = record { few : l.ended ≤ l.back; searched : Searched (laid l.layout).forms l.numbers l.import l.place (l.place - l.back) l.ended }
