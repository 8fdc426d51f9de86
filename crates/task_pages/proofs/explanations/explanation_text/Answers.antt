use Rattle.std.proofs.Common.{◌∙◌, ap₂}
use Rattle.std.proofs.lemmas.Result.{IfOk-weaker}
use Rattle.task_pages.specs.Explained.{explanation_text}
use Rattle.task_pages.proofs.explanations.explanation_text.Goals as goal

pub returns : goal.returns
returns c = IfOk-weaker c.told.result _ _ (λ text same. same ∙ ap₂ explanation_text c.name.ensures c.explain.ensures.said) c.told.ensures
