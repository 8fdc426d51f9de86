use Rattle.lower_pieces.proofs.Appended.{◌⨟◌}
use Rattle.wasm_types.specs.Syntax.{Done}
use Rattle.lowering.proofs.routines.routine_added.Goals as goal

pub returns : goal.returns
returns c = λ k. c.answer_given.ensures k ⨟ c.block.ensures _ (c.left_added.ensures Done _ (c.new-inside.ensures _)) _ ⨟ c.all_emptied.ensures _
