use Rattle.std.proofs.Common.{map}
use Rattle.std.specs.Vec.Iter.{into_iter_items, into_iter_len}
use Rattle.wasm_types.specs.View.{view_func}
use Rattle.module_decoder.proofs.Loops.{joined_done}
use Rattle.module_decoder.proofs.sections.joined.Goals as goal

pub returns : goal.returns
returns c = joined_done (map view_func c.loop-code.funcs.items) _ c.loop-code.rest.now (into_iter_items c.loop-code.code-iterator) (into_iter_len c.loop-code.code-iterator) c.in-None.ensures.steps.0 c.loop-code.invariant.1 c.loop-code.invariant.0
