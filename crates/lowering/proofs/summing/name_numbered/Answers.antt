use Rattle.wasm_types.specs.Syntax.{Done}
use Rattle.lowering.proofs.summing.name_numbered.Goals as goal

pub returns : goal.returns
returns c = (rw c.name_read.ensures at c.numbered_or.ensures) _ (c.number_found.ensures Done _ (c.new-found.ensures _))
