use Rattle.wasm_types.specs.View.{views}
use Rattle.module_decoder.proofs.Steps.{code_is}
use Rattle.module_decoder.proofs.entry_kinds.CodesKind.read.Goals as goal

pub returns : goal.returns
returns c =
    code_is c.locals-locals.result (views c.expr-body.result.items) c.sound.result c.counted-content.ensures (rw c.saturating_sub.ensures at c.new-inner.ensures.span) c.new-inner.ensures.rest c.new-inner.ensures.sound c.locals-locals.ensures c.expr-body.ensures c.ended.ensures c.sound.ensures c.check.ensures.span c.check.ensures.rest c.check.ensures.fault
