use Rattle.lower_expressions.specs.View.{view_layout}
use Rattle.lower_quick.specs.View.{view_sum}
use Rattle.lower_expressions.proofs.SourceLemmas.{two_read}
use Rattle.std.proofs.Common.{subst}
use Rattle.wasm_types.specs.Syntax.{Instructions}
use Rattle.lower_pieces.specs.Emits.{Reads}
use Rattle.lowering.proofs.quick.sum_code.Goals as goal

pub returns : goal.returns
returns c = λ k.
    let s = view_sum c.args.sum in
    let all = rw (c.source_read.ensures, c.source_read-2.ensures, c.sum_op.ensures, c.name_put.ensures) at c.code_of.ensures in
    subst (λ (w : Instructions). Reads c.code_of.result k w) (two_read (view_layout c.args.layout.now) s.left s.right _) (all k)
