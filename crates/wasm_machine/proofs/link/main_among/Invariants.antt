use Rattle.std.proofs.Common.{◌≡◌, drop}
use Rattle.wasm_types.specs.View.{view_export, view_module}
use Rattle.wasm_model.specs.Links.{first_some, main_at}
use Rattle.wasm_machine.proofs.link.main_among.Given as goal

abbrev pub invariant-loop-export : goal.invariant-loop-export
invariant-loop-export l = first_some (λ e. main_at (view_module l.whole) (view_export e)) l.exports ≡ first_some (λ e. main_at (view_module l.whole) (view_export e)) (drop l.export-index l.exports)
