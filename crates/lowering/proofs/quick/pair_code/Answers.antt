use Rattle.std.proofs.Common.{◌≡◌, ◌+◌, suc, arith}
use Rattle.lower_expressions.specs.View.{view_layout}
use Rattle.lower_quick.specs.View.{view_pair}
use Rattle.lower_expressions.proofs.SourceLemmas.{two_read}
use Rattle.std.proofs.Common.{subst}
use Rattle.wasm_types.specs.Syntax.{Instructions}
use Rattle.lower_pieces.specs.Emits.{Reads}
use Rattle.lowering.proofs.quick.pair_code.Goals as goal

pub returns : goal.returns
returns c = λ k.
    let p = view_pair c.args.pair in
    let inner : c.args.label + 1 ≡ suc c.args.label = omega arith in
    let all = rw (c.source_read.ensures, c.source_read-2.ensures, c.relation.ensures, c.contrary.ensures, inner) at c.code_of.ensures in
    subst (λ (w : Instructions). Reads c.code_of.result k w) (two_read (view_layout c.args.layout.now) p.left p.right _) (all k)
