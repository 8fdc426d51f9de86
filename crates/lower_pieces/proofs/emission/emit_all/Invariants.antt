use Rattle.std.proofs.Common.{drop}
use Rattle.wasm_types.specs.Syntax.{Instructions}
use Rattle.lower_pieces.specs.Emits.{emit_all, Reads}
use Rattle.lower_pieces.proofs.emission.emit_all.Given as goal

abbrev pub invariant-loop-simple : goal.invariant-loop-simple
invariant-loop-simple l = (k whole : Instructions) → Reads l.fn.out (emit_all l.all k) whole → Reads l.out (emit_all (drop l.simple-index l.all) k) whole
