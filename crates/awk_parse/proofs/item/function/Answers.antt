use Rattle.std.proofs.Common.{true, map, ◌∙◌}
use Rattle.awk_tokens.specs.Views.{spelled}
use Rattle.awk_grammar.specs.Trees.{Function}
use Rattle.awk_grammar.specs.Lexeme.{spoken_after}
use Rattle.awk_grammar.specs.ReadItem.{function_at, function_by}
use Rattle.awk_grammar.specs.ViewStmt.{view_names, view_stmts}
use Rattle.awk_parse.specs.Seen.{seen}
use Rattle.awk_parse.specs.Parsed.{is_read}
use Rattle.awk_parse.proofs.Scripts.{function_named, function_none}
use Rattle.awk_parse.proofs.ParsedLemmas.{stays, then, past, ended_same, fails_here, goes_on}
use Rattle.awk_parse.proofs.item.function.Goals as goal

pub returns-in_default : goal.returns-in_default
returns-in_default c =
    let ts = spoken_after true (map spelled c.args.tokens.now) in
    fails_here _ ts _ _ _ (function_at 1000) (c.refuse.ensures ∙ ended_same (seen c.args.source.now.rest.now) ts _ _) (rw c.stopped.ensures (function_none 1000 ts c.in_default.ensures))

pub returns : goal.returns
returns c =
    let ts = spoken_after true (map spelled c.args.tokens.now) in
    let us = seen c.in-Some.rest.now in
    let name = c.in-Some.name.now in
    let named = then (λ x. is_read (Function x.0 (view_names c.params-parameters.result.items) (view_stmts c.body-action.result.items)) x.1) c.copied-name.ensures (stays _ _) in
    goes_on ts us _ (function_at 1000) (function_by 1000 name) c.go_on.ensures (function_named 1000 ts (name, us) c.in-Some.ensures)
    (past _ c.expect.ensures (then _ c.params-parameters.ensures (past _ c.expect-2.ensures (then _ c.body-action.ensures named))))
