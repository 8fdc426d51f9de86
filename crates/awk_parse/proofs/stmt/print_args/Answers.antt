use Rattle.std.proofs.Common.{Ok, sym, ◌∙◌}
use Rattle.awk_grammar.specs.Reading.{expr_at}
use Rattle.awk_grammar.specs.Trees.{Listed}
use Rattle.awk_grammar.specs.ViewStmt.{view_word}
use Rattle.awk_parse.proofs.Printed.{args_enclosed, args_listed}
use Rattle.awk_parse.proofs.ParsedLemmas.{stays, then}
use Rattle.awk_parse.proofs.stmt.print_args.Goals as goal

pub returns-in-Some : goal.returns-in-Some
returns-in-Some c =
    let began = sym c.begins_expr.ensures ∙ c.if-not-begins_expr.false in
    let kept = c.in-Some.ensures in
    rw (kept.0, kept.1.1) (args_enclosed (expr_at c.args.limit) (view_word c.args.word) _ _ _ _ _ began kept.1.0 c.enclosed-args.ensures)

pub returns-in-None : goal.returns-in-None
returns-in-None c =
    let began = sym c.begins_expr.ensures ∙ c.if-not-begins_expr.false in
    args_listed (expr_at c.args.limit) (view_word c.args.word) _ _ _ _ _ _ _ _ began c.in-None.ensures.0 c.enclosed-args.ensures c.in-None.ensures.1 (then (λ x. Ok (Listed x.0, x.1)) c.list.ensures (stays _ _))
