use Rattle.std.proofs.Common.{arith, sym}
use Rattle.mid_program.specs.ViewCode.{view}
use Rattle.lower_expressions.specs.View.{view_layout}
use Rattle.lower_pieces.proofs.Appended.{◌⨟◌, same}
use Rattle.lower_quick.proofs.Shapes.{links_fewer}
use Rattle.lowering.proofs.Chains.{chained_fits, first_appended, later_appended, no_chain_fits, read_fits}
use Rattle.lowering.proofs.appending.+chain_appended.Goals as goal

pub text_appended-requires-clause-fit : goal.text_appended-requires-clause-fit
text_appended-requires-clause-fit t c =
    read_fits (view_layout c.args.layout.now) (view c.args.chain.now) (view c.in-Some.before.now) (view c.in-Some.code.now) c.args.exit c.in-Some.ensures (sym c.if-is_read.ensures) c.requires.chain

pub chain_appended-requires : goal.chain_appended-requires
chain_appended-requires t c =
    let n = links_fewer (view c.args.chain.now) (view c.in-Some.before.now) (view c.in-Some.code.now) c.in-Some.ensures in
    let h = chained_fits (view_layout c.args.layout.now) (view c.args.chain.now) (view c.in-Some.before.now) (view c.in-Some.code.now) c.args.exit c.in-Some.ensures (sym c.if-is_read.ensures) c.requires.chain in
    let d = c.decreases in
    (omega (arith, n, d), (c.requires.name, h.0))

pub text_appended-requires-else-is_read-clause-fit : goal.text_appended-requires-else-is_read-clause-fit
text_appended-requires-else-is_read-clause-fit t c =
    (chained_fits (view_layout c.args.layout.now) (view c.args.chain.now) (view c.in-Some.before.now) (view c.in-Some.code.now) c.args.exit c.in-Some.ensures (sym c.if-is_read.ensures) c.requires.chain).1

pub returns-then-is_read : goal.returns-then-is_read
returns-then-is_read t c = λ k.
    c.text_appended.ensures k
    ⨟ same (first_appended (view_layout c.args.layout.now) c.args.name (view c.args.chain.now) (view c.in-Some.before.now) (view c.in-Some.code.now) c.args.exit k c.in-Some.ensures (sym c.if-is_read.ensures))

pub returns-else-is_read : goal.returns-else-is_read
returns-else-is_read t c = λ k.
    c.text_appended-else-is_read.ensures k ⨟ c.chain_appended.ensures _
    ⨟ same (later_appended (view_layout c.args.layout.now) c.args.name (view c.args.chain.now) (view c.in-Some.before.now) (view c.in-Some.code.now) c.args.exit k c.in-Some.ensures (sym c.if-is_read.ensures))

pub returns-in-None : goal.returns-in-None
returns-in-None t c = absurd (no_chain_fits (view_layout c.args.layout.now) (view c.args.chain.now) c.args.exit c.in-None.ensures c.requires.chain)
