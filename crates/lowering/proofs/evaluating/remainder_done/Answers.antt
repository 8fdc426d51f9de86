use Rattle.std.proofs.Common.{◌≡◌, ◌+◌, suc, arith, sym, subst}
use Rattle.wasm_types.specs.Syntax.{Done}
use Rattle.lower_quick.specs.View.{view_remainder}
use Rattle.lower_expressions.specs.Sources.{NamesFit}
use Rattle.lower_pieces.proofs.Appended.{◌⨟◌}
use Rattle.lowering.proofs.QuickNames.{remainder_list}
use Rattle.std.proofs.lemmas.Result.{IfOk-weaker}
use Rattle.lowering.proofs.evaluating.remainder_done.Goals as goal

pub names_unsure-requires : goal.names_unsure-requires
names_unsure-requires c = IfOk-weaker c.remainder_names.result _ _ (λ names e. subst NamesFit (sym e) (remainder_list (view_remainder c.args.remainder) c.requires.remainder)) c.remainder_names.ensures

pub returns : goal.returns
returns c = λ k.
    let inner : c.args.exit + 1 ≡ suc c.args.exit = omega arith in
    c.emit_if.ensures _ _ ((rw inner at c.done_alone.ensures) Done _ (c.new-all_cases.ensures _)) (c.remainder_code-quick.ensures Done) k
    ⨟ (rw c.most_multiplied-most.ensures.value at c.names_unsure.ensures) _ c.remainder_names.ensures _
