use Rattle.std.proofs.Common.{◌≡◌, ◌++◌, length, map}
use Rattle.std.specs.Vec.Iter.{into_iter_items, into_iter_len}
use Rattle.wasm_types.specs.View.{view_func}
use Rattle.wasm_types.specs.ModuleGrammar.{joined}
use Rattle.module_decoder.specs.View.{view_code}
use Rattle.module_decoder.proofs.sections.joined.Given as goal

abbrev pub invariant-loop-code : goal.invariant-loop-code
invariant-loop-code l =
    (map view_func l.funcs.items ++ joined l.rest (map view_code (into_iter_items l.code-iterator)) ≡ joined l.fn.type_indices.items (map view_code l.fn.codes.items))
    × (into_iter_len l.code-iterator ≡ length (into_iter_items l.code-iterator))
