use Rattle.std.proofs.Common.{◌≡◌, map, take, Some}
use Rattle.wasm_types.specs.View.{view_import, view_module}
use Rattle.wasm_model.specs.Links.{number_for}
use Rattle.wasm_machine.proofs.link.numbers_among.Given as goal

abbrev pub invariant-loop-index : goal.invariant-loop-index
invariant-loop-index g l = map (λ x. number_for g.H.HostCalls.finds (view_module l.whole) (view_import x)) (take l.index l.imports) ≡ map Some l.numbers.items
