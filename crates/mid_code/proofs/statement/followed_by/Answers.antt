use Rattle.std.proofs.Common.{◌≡◌, ap, ◌∙◌}
use Rattle.std.proofs.lemmas.Result.{IfOk-at_ok}
use Rattle.awk_grammar.specs.View.{views as trees}
use Rattle.mid_program.specs.Mid.{Codes}
use Rattle.mid_program.specs.Translation.{codes_of}
use Rattle.mid_program.specs.ViewCode.{followed, views}
use Rattle.mid_code.specs.ViewScope.{scope_of, texts_of}
use Rattle.mid_code.proofs.statement.followed_by.Goals as goal

pub returns : goal.returns
returns c es first =
    c.in_ok-push_operands.ensures
    ∙ ap (λ (cs : Codes). followed cs (codes_of (texts_of c.args.scope.now) (scope_of c.args.scope.now) (trees c.args.others.now))) (IfOk-at_ok (λ found. views found.items ≡ es) c.in_ok-codes.was first)
