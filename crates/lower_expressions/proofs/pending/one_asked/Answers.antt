use Rattle.wasm_types.specs.Syntax.{Done}
use Rattle.lower_expressions.proofs.pending.one_asked.Goals as goal

pub returns : goal.returns
returns c = λ k. c.when.ensures _ (c.pending_code.ensures Done) k _ (c.asked_once.ensures _ _ (c.new-code.ensures _))
