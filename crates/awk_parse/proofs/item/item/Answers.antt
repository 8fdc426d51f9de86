use Rattle.std.proofs.Common.{true, Ok, map, refl, sym, ap, ◌∙◌}
use Rattle.awk_tokens.specs.Views.{spelled}
use Rattle.awk_grammar.specs.Lexeme.{spoken_after}
use Rattle.awk_grammar.specs.Reading.{◌>>=◌}
use Rattle.awk_grammar.specs.ReadItem.{body_at, function_at, rule_at, item_at}
use Rattle.awk_parse.specs.Seen.{seen}
use Rattle.awk_parse.specs.StatementStarts.{acting, item_by, view_item_start}
use Rattle.awk_parse.proofs.StatementStarts.{item_is}
use Rattle.awk_parse.proofs.ParsedLemmas.{stays, then, came, goes_on, goes_as}
use Rattle.awk_parse.proofs.item.item.Goals as goal

pub returns-in-Function : goal.returns-in-Function
returns-in-Function c =
    let ts = seen c.args.source.now.rest.now in
    goes_on ts (spoken_after true (map spelled c.in-Function.rest.now)) _ (item_at 1000) (function_at 1000) refl (item_is 1000 ts ∙ ap (item_by 1000 ts) (sym c.item_start.ensures ∙ ap view_item_start c.in-Function.is)) c.function.ensures

pub returns-in-Action : goal.returns-in-Action
returns-in-Action c =
    let ts = seen c.args.source.now.rest.now in
    goes_on ts (seen c.in-Action.rest.now) _ (item_at 1000) (λ us. body_at 1000 us >>= λ x. Ok (acting c.in-Action.when x.0, x.1)) c.go_on.ensures (item_is 1000 ts ∙ ap (item_by 1000 ts) (sym c.item_start.ensures ∙ ap view_item_start c.in-Action.is)) (then _ c.body.ensures (rw c.taken.ensures (stays _ _)))

pub returns-in-Nothing : goal.returns-in-Nothing
returns-in-Nothing c =
    let ts = seen c.args.source.now.rest.now in
    came _ ts (seen c.in-Nothing.rest.now) _ _ (item_at 1000) c.go_on-in-Nothing.ensures (item_is 1000 ts ∙ ap (item_by 1000 ts) (sym c.item_start.ensures ∙ ap view_item_start c.in-Nothing.is))

pub returns-in-Rule : goal.returns-in-Rule
returns-in-Rule c =
    let ts = seen c.args.source.now.rest.now in
    goes_as ts _ (item_at 1000) (rule_at 1000) (item_is 1000 ts ∙ ap (item_by 1000 ts) (sym c.item_start.ensures ∙ ap view_item_start c.in-Rule.is)) c.rule.ensures
