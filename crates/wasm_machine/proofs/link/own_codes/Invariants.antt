use Rattle.std.proofs.Common.{◌≡◌, length}
use Rattle.std.specs.List.{All}
use Rattle.wasm_types.specs.View.{view_module}
use Rattle.wasm_machine.specs.ViewConf.{Begins, module_with}
use Rattle.wasm_machine.proofs.link.own_codes.Given as goal

abbrev pub invariant-loop-number : goal.invariant-loop-number
invariant-loop-number l = All Begins l.codes.items × (length l.codes.items ≡ l.number) × (length l.whole.funcs.items ≡ length l.fn.whole.funcs.items)
    × (module_with l.whole l.codes.items ≡ view_module l.fn.whole)
