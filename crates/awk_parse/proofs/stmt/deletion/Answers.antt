use Rattle.std.proofs.Common.{true, Ok, refl, ap, ◌∙◌}
use Rattle.awk_grammar.specs.Reading.{◌>>=◌, expr_at, list_at, bracket_at}
use Rattle.awk_grammar.specs.ReadStmt.{delete_by}
use Rattle.awk_grammar.specs.Trees.{Delete}
use Rattle.awk_parse.specs.Seen.{seen}
use Rattle.awk_parse.specs.StatementStarts.{deleted_by}
use Rattle.awk_parse.proofs.StatementStarts.{delete_is}
use Rattle.awk_parse.proofs.ParsedLemmas.{stays, then, past, came, goes_on}
use Rattle.awk_parse.proofs.stmt.deletion.Goals as goal

pub returns-in_default : goal.returns-in_default
returns-in_default c =
    let expr = expr_at c.args.limit in
    let n = c.name-array.result.items in
    let ts = seen c.name-array.new.self.rest.now in
    then _ c.name-array.ensures (came _ ts ts _ _ (delete_by expr n) refl (delete_is expr n ts ∙ ap (deleted_by expr n ts) c.in_default.ensures.may))

pub returns : goal.returns
returns c =
    let expr = expr_at c.args.limit in
    let n = c.name-array.result.items in
    let ts = seen c.name-array.new.self.rest.now in
    then _ c.name-array.ensures (goes_on ts (seen c.in-Some.rest.now) _ (delete_by expr n) (λ us. list_at expr true us >>= λ x. bracket_at x.1 >>= λ vs. Ok (Delete n x.0, vs)) c.go_on.ensures
    (delete_is expr n ts ∙ ap (deleted_by expr n ts) c.in-Some.ensures.may) (then _ c.list-subscripts.ensures (past _ c.expect.ensures (stays _ _))))
