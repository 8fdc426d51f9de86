use Rattle.wasm_types.specs.View.{views}
use Rattle.module_decoder.specs.Reading.{body_at, by_end, same}
use Rattle.module_decoder.proofs.Steps.{next_part}
use Rattle.module_decoder.proofs.body.expr.Goals as goal

pub returns : goal.returns
returns c =
    next_part (body_at c.args.reader.now.span 4001 c.args.reader.now.rest.now) (λ p. by_end p same) c.body_of-body.ensures (c.end.ensures (views c.body_of-body.result.instrs.items))
