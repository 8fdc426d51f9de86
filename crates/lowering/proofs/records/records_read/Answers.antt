use Rattle.wasm_types.specs.Syntax.{Done}
use Rattle.lowering.proofs.records.records_read.Goals as goal

pub returns : goal.returns
returns c = c.again.ensures _ (c.record_turn.ensures Done _ (c.new-turn.ensures _))
