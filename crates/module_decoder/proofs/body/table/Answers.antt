use Rattle.std.proofs.Common.{Ok}
use Rattle.std.proofs.lemmas.List.{map-id}
use Rattle.wasm_types.specs.Syntax.{BrTable}
use Rattle.wasm_types.specs.View.{view}
use Rattle.module_decoder.specs.Readers.{◌>>=◌, index_at, vec_at}
use Rattle.module_decoder.proofs.Steps.{made_is, next_part}
use Rattle.module_decoder.proofs.body.table.Goals as goal

pub returns : goal.returns
returns c =
    let span = c.args.reader.now.span in
    next_part (vec_at span (index_at span) c.args.reader.now.rest.now) (λ p ns. index_at p ns.1 >>= λ n. Ok (BrTable ns.0 n.0, n.1)) (rw map-id at c.entries-labels.ensures)
    (next_part (index_at c.entries-labels.new.reader.span c.entries-labels.new.reader.rest.now) (λ p n. Ok (BrTable c.entries-labels.result.items n.0, n.1)) c.index-other.ensures
    (made_is view c.branches.result c.made.ensures.span c.made.ensures.rest c.made.ensures.made c.branches.ensures))
