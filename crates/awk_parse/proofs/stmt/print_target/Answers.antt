use Rattle.std.proofs.Common.{true, Ok, refl, ap, ◌∙◌}
use Rattle.awk_grammar.specs.Reading.{◌>>=◌, expr_at}
use Rattle.awk_grammar.specs.ReadStmt.{target_at}
use Rattle.awk_grammar.specs.Tree.{AfterCompare}
use Rattle.awk_parse.specs.Seen.{seen}
use Rattle.awk_parse.specs.StatementStarts.{target_by, target_of}
use Rattle.awk_parse.proofs.StatementStarts.{target_is}
use Rattle.awk_parse.proofs.ParsedLemmas.{stays, then, came, goes_on}
use Rattle.awk_parse.proofs.stmt.print_target.Goals as goal

pub returns-in_default : goal.returns-in_default
returns-in_default c =
    let expr = expr_at c.args.limit in
    let ts = seen c.args.source.now.rest.now in
    came _ ts ts _ _ (target_at expr) refl (target_is expr ts ∙ ap (target_by expr ts) c.in_default.ensures)

pub returns : goal.returns
returns c =
    let expr = expr_at c.args.limit in
    let ts = seen c.args.source.now.rest.now in
    goes_on ts (seen c.in-Some.rest.now) _ (target_at expr) (λ us. expr true AfterCompare us >>= λ x. Ok (target_of c.in-Some.way x.0, x.1)) c.go_on.ensures
    (target_is expr ts ∙ ap (target_by expr ts) c.in-Some.ensures) (then _ c.expression.ensures (rw c.target_of.ensures (stays _ _)))
