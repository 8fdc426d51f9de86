use Rattle.std.proofs.Common.{◌≡◌, map, take, length}
use Rattle.wasm_types.specs.View.{view_elem}
use Rattle.wasm_model.specs.Links.{filled}
use Rattle.wasm_machine.proofs.link.fill.Given as goal

abbrev pub invariant-loop-elem : goal.invariant-loop-elem
invariant-loop-elem l = record { same : length l.table ≡ length l.fn.table; filled : l.table ≡ filled l.fn.table (map view_elem (take l.elem-index l.elems)) }
