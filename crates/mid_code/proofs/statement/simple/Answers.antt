use Rattle.std.proofs.Common.{ℕ, List, ap, sym, ◌∙◌}
use Rattle.std.proofs.lemmas.Result.{IfOk-weaker}
use Rattle.awk_grammar.specs.View.{views as trees}
use Rattle.awk_grammar.specs.ViewStmt.{view_args, view_simple, view_target, view_word}
use Rattle.awk_grammar.specs.declared.tree.Expr.{Expr}
use Rattle.awk_grammar.specs.declared.tree.SimpleStmt.{SimpleStmt}
use Rattle.sem_primitives.specs.declared.constants.Destination.{Destination}
use Rattle.sem_primitives.specs.declared.table.Listed.{Listed}
use Rattle.sem_primitives.specs.declared.table.Primitive.TheVariants as row
use Rattle.mid_program.specs.Mid.{Array, Eval, Over}
use Rattle.sem_scripts.specs.Names.{array_of}
use Rattle.sem_scripts.specs.Statements.{listed_of, operands_of, with_target}
use Rattle.mid_program.specs.Translation.{codes_of, host, key_code, one, plain_step, two}
use Rattle.mid_code.specs.ViewScope.{scope_of, texts_of}
use Rattle.mid_code.proofs.statement.simple.Goals as goal

pub returns-in-Eval : goal.returns-in-Eval
returns-in-Eval c =
    IfOk-weaker c.evaluated.result _ _ (λ r h. h ∙ sym (ap (λ (p : SimpleStmt). plain_step (texts_of c.args.scope.now) (scope_of c.args.scope.now) (view_simple p)) c.in-Eval.is)) (c.evaluated.ensures _ c.code.ensures)

pub returns-in-Print : goal.returns-in-Print
returns-in-Print c =
    IfOk-weaker c.evaluated-in-Print.result _ _ (λ r h. h ∙ ap (λ (l : Listed). Eval (Over l (codes_of (texts_of c.args.scope.now) (scope_of c.args.scope.now) (with_target (operands_of (view_args c.in-Print.args)) (view_target c.in-Print.target)))))
    (c.listed_of-word.ensures ∙ ap (λ (d : Destination). listed_of (view_word c.in-Print.word) d) c.destination_of.ensures) ∙ sym (ap (λ (p : SimpleStmt). plain_step (texts_of c.args.scope.now) (scope_of c.args.scope.now) (view_simple p)) c.in-Print.is)) (c.evaluated-in-Print.ensures _ (c.listed.ensures _ c.printed.ensures))

pub returns-in-Delete : goal.returns-in-Delete
returns-in-Delete c =
    IfOk-weaker c.evaluated-in-Delete.result _ _ (λ r h. h ∙ ap (λ (x : List ℕ). Eval (host row.Delete (two (Array (array_of (scope_of c.args.scope.now) x)) (key_code (texts_of c.args.scope.now) (scope_of c.args.scope.now) (trees c.deref.result.now))))) c.deref-in-Delete.ensures.value
    ∙ ap (λ (xs : List Expr). Eval (host row.Delete (two (Array (array_of (scope_of c.args.scope.now) c.in-Delete.name.items)) (key_code (texts_of c.args.scope.now) (scope_of c.args.scope.now) (trees xs))))) c.deref.ensures.value ∙ sym (ap (λ (p : SimpleStmt). plain_step (texts_of c.args.scope.now) (scope_of c.args.scope.now) (view_simple p)) c.in-Delete.is)) (c.evaluated-in-Delete.ensures _ (c.host_array.ensures _ c.key-key.ensures))

pub returns-in-Clear : goal.returns-in-Clear
returns-in-Clear c =
    IfOk-weaker c.evaluated-in-Clear.result _ _ (λ r h. h ∙ ap (λ (x : List ℕ). Eval (host row.Clear (one (Array (array_of (scope_of c.args.scope.now) x))))) c.deref-in-Clear.ensures.value ∙ sym (ap (λ (p : SimpleStmt). plain_step (texts_of c.args.scope.now) (scope_of c.args.scope.now) (view_simple p)) c.in-Clear.is)) (c.evaluated-in-Clear.ensures _ c.host_whole.ensures)
