use Rattle.std.proofs.Common.{◌≡◌, true, Some, Ok, refl, sym, ◌∙◌}
use Rattle.awk_grammar.specs.Reading.{◌>>=◌, expr_at}
use Rattle.awk_grammar.specs.ReadStmt.{starts_plain, plain_at, maybe_plain_at}
use Rattle.awk_parse.specs.Seen.{seen}
use Rattle.awk_parse.proofs.ParsedLemmas.{stays, then, goes_as}
use Rattle.awk_parse.proofs.stmt.optional_simple.Goals as goal

pub returns : goal.returns
returns c =
    let ts = seen c.args.source.now.rest.now in
    let begins : starts_plain ts ≡ true = sym c.begins_simple.ensures ∙ c.if-not-begins_simple.false in
    goes_as ts _ (maybe_plain_at (expr_at c.args.limit)) (λ us. plain_at (expr_at c.args.limit) us >>= λ x. Ok (Some x.0, x.1)) (rw begins refl) (then _ c.simple.ensures (stays _ _))
