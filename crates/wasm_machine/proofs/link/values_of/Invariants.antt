use Rattle.std.proofs.Common.{◌≡◌, map, take}
use Rattle.wasm_types.specs.View.{views}
use Rattle.wasm_model.specs.Links.{value_of}
use Rattle.wasm_machine.proofs.link.values_of.Given as goal

abbrev pub invariant-loop-global : goal.invariant-loop-global
invariant-loop-global l = l.values.items ≡ map (λ g. value_of (views g.init.items)) (take l.global-index l.globals)
