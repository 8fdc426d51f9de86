use Rattle.std.proofs.Common.{Option, sym, subst}
use Rattle.mid_program.specs.ViewCode.{view}
use Rattle.lower_model.specs.Appends.{Append}
use Rattle.lower_model.specs.Statements.{appended_dropped}
use Rattle.lower_expressions.specs.View.{view_layout}
use Rattle.lower_pieces.specs.Emits.{Emits}
use Rattle.lower_quick.specs.View.{view_append}
use Rattle.lowering.proofs.Chains.{append_fits}
use Rattle.lowering.proofs.evaluating.appended_done.Goals as goal

pub chain_appended-requires-clause-name : goal.chain_appended-requires-clause-name
chain_appended-requires-clause-name c = (append_fits (view_layout c.args.layout.now) (view c.args.code.now) (view_append c.in-Some.append) c.args.exit (sym c.in-Some.ensures) c.requires.fit).0

pub chain_appended-requires-clause-chain : goal.chain_appended-requires-clause-chain
chain_appended-requires-clause-chain c = (append_fits (view_layout c.args.layout.now) (view c.args.code.now) (view_append c.in-Some.append) c.args.exit (sym c.in-Some.ensures) c.requires.fit).1

pub returns-in-Some : goal.returns-in-Some
returns-in-Some c =
    subst (λ (o : Option Append). Emits c.args.out.now c.chain_appended.new.out (appended_dropped (view_layout c.args.layout.now) o (view c.args.code.now) c.args.exit)) c.in-Some.ensures c.chain_appended.ensures

pub returns-in-None : goal.returns-in-None
returns-in-None c =
    subst (λ (o : Option Append). Emits c.args.out.now c.done_alone.new.out (appended_dropped (view_layout c.args.layout.now) o (view c.args.code.now) c.args.exit)) c.in-None.ensures c.done_alone.ensures
