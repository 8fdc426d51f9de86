use Rattle.std.proofs.Common.{sym, ◌∙◌}
use Rattle.wasm_types.specs.Syntax.{Done}
use Rattle.lower_pieces.proofs.Appended.{followed_end}
use Rattle.std.proofs.lemmas.Result.{IfOk-weaker}
use Rattle.lowering.proofs.main_parts.main_code.Goals as goal

pub returns : goal.returns
returns c = IfOk-weaker c.all.result _ _ (λ code h. sym (followed_end code.items) ∙ h Done _ (c.main_added.ensures Done _ (c.new-code.ensures _))) c.all.ensures
