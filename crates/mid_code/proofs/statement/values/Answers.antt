use Rattle.std.proofs.Common.{List, ap, sym, ◌∙◌}
use Rattle.std.proofs.lemmas.Result.{IfOk-weaker}
use Rattle.awk_grammar.specs.View.{view as tree, views as trees}
use Rattle.awk_grammar.specs.ViewStmt.{view_args}
use Rattle.awk_grammar.specs.declared.tree.Expr.{Expr}
use Rattle.awk_grammar.specs.declared.tree.PrintArgs.{PrintArgs}
use Rattle.mid_program.specs.Mid.{At}
use Rattle.sem_scripts.specs.Statements.{operands_of}
use Rattle.mid_program.specs.Translation.{code_of, codes_of}
use Rattle.mid_program.specs.ViewCode.{views}
use Rattle.mid_code.specs.ViewScope.{scope_of, texts_of}
use Rattle.mid_code.proofs.StepParts.{whole_record_is}
use Rattle.mid_code.proofs.statement.values.Goals as goal

pub returns-in-Bare : goal.returns-in-Bare
returns-in-Bare c =
    IfOk-weaker c.one_operand.result _ _ (λ r h. h ∙ sym (whole_record_is (texts_of c.args.scope.now) (scope_of c.args.scope.now))
    ∙ sym (ap (λ (a : PrintArgs). codes_of (texts_of c.args.scope.now) (scope_of c.args.scope.now) (operands_of (view_args a))) c.in-Bare.is)) (c.one_operand.ensures _ c.record.ensures)

pub returns-in-Listed : goal.returns-in-Listed
returns-in-Listed c =
    IfOk-weaker c.followed_by.result _ _ (λ r h. h ∙ ap (λ (xs : List Expr). codes_of (texts_of c.args.scope.now) (scope_of c.args.scope.now) (trees xs)) c.deref.ensures.value
    ∙ sym (ap (λ (a : PrintArgs). codes_of (texts_of c.args.scope.now) (scope_of c.args.scope.now) (operands_of (view_args a))) c.in-Listed.is)) (c.followed_by.ensures _ (ap views c.new.ensures.items))

pub returns-in-Enclosed : goal.returns-in-Enclosed
unfolding codes_of
returns-in-Enclosed c =
    IfOk-weaker c.followed_by-in-Enclosed.result _ _ (λ r h. h ∙ ap (λ (xs : List Expr). At (code_of (texts_of c.args.scope.now) (scope_of c.args.scope.now) (tree c.in-Enclosed.first)) (codes_of (texts_of c.args.scope.now) (scope_of c.args.scope.now) (trees xs))) c.deref-in-Enclosed.ensures.value
    ∙ sym (ap (λ (a : PrintArgs). codes_of (texts_of c.args.scope.now) (scope_of c.args.scope.now) (operands_of (view_args a))) c.in-Enclosed.is)) (c.followed_by-in-Enclosed.ensures _ (c.one_operand-first.ensures _ c.code.ensures))
