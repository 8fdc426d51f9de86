use Rattle.wasm_types.specs.Syntax.{Done}
use Rattle.lower_pieces.proofs.Appended.{◌⨟◌}
use Rattle.lowering.proofs.summing.global_found.Goals as goal

pub returns : goal.returns
returns c = λ k.
    c.emit_if.ensures _ _ (c.number_there.ensures Done _ (c.new-some.ensures _)) ((rw c.number-local.ensures at c.code_of-none.ensures) Done) k
    ⨟ (rw c.number-local.ensures at c.number_is.ensures) _
