use Rattle.std.proofs.Common.{◌≡◌, ◌++◌, ◌+◌, drop, length}
use Rattle.wasm_types.specs.View.{views}
use Rattle.wasm_loader.specs.Flat.{flat}
use Rattle.script_places.specs.Passes.{nops_from}
use Rattle.script_places.proofs.tally.Nops.+walk.Given as goal

abbrev pub invariant-body-loop-instruction : goal.invariant-body-loop-instruction
invariant-body-loop-instruction l =
    let rest = flat l.self.at (views (drop l.instruction-index l.body)) in
    let whole = flat l.fn.self.at (views l.body) in
    (l.self.places.items ++ nops_from l.self.at rest ≡ l.fn.self.places.items ++ nops_from l.fn.self.at whole) × (l.self.at + length rest ≡ l.fn.self.at + length whole)
