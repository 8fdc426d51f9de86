use Rattle.std.proofs.Common.{Ok}
use Rattle.awk_grammar.specs.Trees.{When}
use Rattle.awk_grammar.specs.Reading.{◌>>=◌}
use Rattle.awk_grammar.specs.ReadItem.{body_at, action_at}
use Rattle.awk_grammar.specs.ViewStmt.{view_pattern}
use Rattle.awk_parse.specs.Seen.{seen}
use Rattle.awk_parse.proofs.Scripts.{action_lone, action_when}
use Rattle.awk_parse.proofs.ParsedLemmas.{stays, then, came, goes_as}
use Rattle.awk_parse.proofs.item.rule.Goals as goal

pub returns-in_default : goal.returns-in_default
returns-in_default c =
    let condition = view_pattern c.pattern-condition.result in
    let ts = seen c.pattern-condition.new.source.rest.now in
    then _ c.pattern-condition.ensures (goes_as ts _ (action_at 1000 condition) (λ us. body_at 1000 us >>= λ x. Ok (When condition x.0, x.1)) (action_when 1000 condition ts c.in_default.ensures.must) (then _ c.body-action.ensures (stays _ _)))

pub returns : goal.returns
returns c =
    let condition = view_pattern c.pattern-condition.result in
    let ts = seen c.pattern-condition.new.source.rest.now in
    let us = seen c.in-Some.rest.now in
    then _ c.pattern-condition.ensures (came _ ts us _ _ (action_at 1000 condition) c.go_on.ensures (action_lone 1000 condition ts us c.in-Some.ensures.must))
