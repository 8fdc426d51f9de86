use Rattle.std.proofs.Common.{length}
use Rattle.awk_grammar.specs.ReadStmt.{stmt_at, stmts_at}
use Rattle.awk_grammar.specs.ReadItem.{body_at}
use Rattle.awk_parse.specs.Seen.{seen}
use Rattle.awk_parse.proofs.Scripts.{body_some, body_none}
use Rattle.awk_parse.proofs.ParsedLemmas.{fails_here, goes_on}
use Rattle.awk_parse.proofs.item.body.Goals as goal

pub returns-in_default : goal.returns-in_default
returns-in_default c = fails_here _ _ _ _ _ (body_at 1000) c.refuse.ensures (rw c.stopped.ensures (body_none 1000 _ c.in_default.ensures.may))

pub returns : goal.returns
returns c =
    let ts = seen c.args.source.now.rest.now in
    let us = seen c.in-Some.rest.now in
    goes_on ts us _ (body_at 1000) (λ vs. stmts_at (stmt_at 1000) (length vs) vs) c.go_on.ensures (body_some 1000 ts us c.in-Some.ensures.may) c.statements.ensures
