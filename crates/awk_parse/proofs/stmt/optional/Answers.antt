use Rattle.std.proofs.Common.{◌≡◌, true, Some, Ok, refl, sym, ◌∙◌}
use Rattle.awk_grammar.specs.Reading.{◌>>=◌, expr_at}
use Rattle.awk_grammar.specs.ReadStmt.{starts_expr, maybe_at}
use Rattle.awk_grammar.specs.Tree.{Whole}
use Rattle.awk_parse.specs.Seen.{seen}
use Rattle.awk_parse.proofs.ParsedLemmas.{stays, then, goes_as}
use Rattle.awk_parse.proofs.stmt.optional.Goals as goal

pub returns : goal.returns
returns c =
    let ts = seen c.args.source.now.rest.now in
    let begins : starts_expr ts ≡ true = sym c.begins_expr.ensures ∙ c.if-not-begins_expr.false in
    goes_as ts _ (maybe_at (expr_at c.args.limit)) (λ us. expr_at c.args.limit true Whole us >>= λ x. Ok (Some x.0, x.1)) (rw begins refl) (then _ c.expression.ensures (stays _ _))
