use Rattle.std.proofs.Common.{sym, ap, ◌∙◌}
use Rattle.awk_grammar.specs.Reading.{expr_at}
use Rattle.awk_grammar.specs.ReadStmt.{plain_at, put_at, delete_at, eval_at}
use Rattle.awk_grammar.specs.ViewStmt.{view_word}
use Rattle.awk_parse.specs.Seen.{seen}
use Rattle.awk_parse.specs.StatementStarts.{plain_by, view_plain_start}
use Rattle.awk_parse.proofs.StatementStarts.{plain_is}
use Rattle.awk_parse.proofs.ParsedLemmas.{stays, then, goes_on, goes_as}
use Rattle.awk_parse.proofs.stmt.simple.Goals as goal

pub returns-in-Print : goal.returns-in-Print
returns-in-Print c =
    let expr = expr_at c.args.limit in
    let ts = seen c.args.source.now.rest.now in
    goes_on ts (seen c.in-Print.rest.now) _ (plain_at expr) (put_at expr (view_word c.in-Print.word)) c.go_on.ensures
    (plain_is expr ts ∙ ap (plain_by expr ts) (sym c.plain_start.ensures ∙ ap view_plain_start c.in-Print.is)) (then _ c.print_args-args.ensures (then _ c.print_target-target.ensures (stays _ _)))

pub returns-in-Delete : goal.returns-in-Delete
returns-in-Delete c =
    let expr = expr_at c.args.limit in
    let ts = seen c.args.source.now.rest.now in
    goes_on ts (seen c.in-Delete.rest.now) _ (plain_at expr) (delete_at expr) c.go_on-in-Delete.ensures
    (plain_is expr ts ∙ ap (plain_by expr ts) (sym c.plain_start.ensures ∙ ap view_plain_start c.in-Delete.is)) c.deletion.ensures

pub returns-in-Value : goal.returns-in-Value
returns-in-Value c =
    let expr = expr_at c.args.limit in
    let ts = seen c.args.source.now.rest.now in
    goes_as ts _ (plain_at expr) (eval_at expr)
    (plain_is expr ts ∙ ap (plain_by expr ts) (sym c.plain_start.ensures ∙ ap view_plain_start c.in-Value.is)) (then _ c.expression.ensures (stays _ _))
