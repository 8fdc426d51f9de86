use Rattle.std.proofs.Common.{◌≡◌, ◌+◌, suc, arith, sym, subst}
use Rattle.wasm_types.specs.Syntax.{Done}
use Rattle.lower_quick.specs.View.{view_sum}
use Rattle.lower_expressions.specs.Sources.{NamesFit}
use Rattle.lower_pieces.proofs.Appended.{◌⨟◌}
use Rattle.lowering.proofs.QuickNames.{sum_list}
use Rattle.std.proofs.lemmas.Result.{IfOk-weaker}
use Rattle.lowering.proofs.evaluating.sum_done.Goals as goal

pub names_unsure-requires : goal.names_unsure-requires
names_unsure-requires c = IfOk-weaker c.sum_names.result _ _ (λ names e. subst NamesFit (sym e) (sum_list (view_sum c.args.sum) c.requires.sum)) c.sum_names.ensures

pub returns : goal.returns
returns c = λ k.
    let inner : c.args.exit + 1 ≡ suc c.args.exit = omega arith in
    c.emit_if.ensures _ _ ((rw inner at c.summed_anyway.ensures) Done _ (c.new-all_cases.ensures _)) (c.sum_code-quick.ensures Done) k
    ⨟ c.names_unsure.ensures _ c.sum_names.ensures _
