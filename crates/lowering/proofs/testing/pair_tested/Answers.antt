use Rattle.std.proofs.Common.{sym, subst}
use Rattle.wasm_types.specs.Syntax.{Done}
use Rattle.lower_quick.specs.View.{view_pair}
use Rattle.lower_expressions.specs.Sources.{NamesFit}
use Rattle.lower_pieces.proofs.Appended.{◌⨟◌}
use Rattle.lowering.proofs.QuickNames.{pair_list}
use Rattle.std.proofs.lemmas.Result.{IfOk-weaker}
use Rattle.lowering.proofs.testing.pair_tested.Goals as goal

pub names_unsure-requires : goal.names_unsure-requires
names_unsure-requires c = IfOk-weaker c.pair_names.result _ _ (λ names e. subst NamesFit (sym e) (pair_list (view_pair c.args.pair) c.requires.pair)) c.pair_names.ensures

pub returns : goal.returns
returns c = λ k.
    c.emit_if.ensures _ _ (c.test_code-all_cases.ensures Done) (c.pair_code-quick.ensures Done) k ⨟ c.names_unsure.ensures _ c.pair_names.ensures _
