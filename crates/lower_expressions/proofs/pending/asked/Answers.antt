use Rattle.wasm_types.specs.Syntax.{Done}
use Rattle.lower_expressions.proofs.pending.asked.Goals as goal

pub returns : goal.returns
returns c = c.again.ensures _ (c.one_asked.ensures Done)
