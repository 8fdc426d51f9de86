use Rattle.lower_pieces.proofs.Appended.{◌⨟◌}
use Rattle.wasm_types.specs.Syntax.{Done}
use Rattle.lowering.proofs.main_parts.main_added.Goals as goal

pub returns : goal.returns
returns c = λ k.
    c.emit_all.ensures k ⨟ c.swept.ensures _ ⨟ c.block.ensures _ (c.parts_added.ensures Done _ (c.new-inside.ensures _)) _ ⨟ c.all_emptied.ensures _
