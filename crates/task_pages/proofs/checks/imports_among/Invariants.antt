use Rattle.std.proofs.Common.{map, take}
use Rattle.wasm_types.specs.View.{view_import, view_module}
use Rattle.wasm_model.specs.Links.{number_for}
use Rattle.host_imports.specs.Imports.{host_finds}
use Rattle.task_pages.specs.Calls.{AreImportsOf}
use Rattle.task_pages.proofs.checks.imports_among.Given as goal

abbrev pub invariant-loop-index : goal.invariant-loop-index
invariant-loop-index l = AreImportsOf l.found.items (map (λ x. number_for host_finds (view_module l.whole) (view_import x)) (take l.index l.wanted))
