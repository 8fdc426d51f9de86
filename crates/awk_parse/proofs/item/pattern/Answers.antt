use Rattle.std.proofs.Common.{true, Ok, refl, ap}
use Rattle.awk_grammar.specs.Trees.{Between}
use Rattle.awk_grammar.specs.Tree.{Whole}
use Rattle.awk_grammar.specs.View.{view}
use Rattle.awk_grammar.specs.Reading.{◌>>=◌, comma_at, expr_at}
use Rattle.awk_grammar.specs.ReadItem.{pattern_by}
use Rattle.awk_parse.specs.Seen.{seen}
use Rattle.awk_parse.proofs.ParsedLemmas.{stays, then, came, goes_on}
use Rattle.awk_parse.proofs.item.pattern.Goals as goal

pub returns-in_default : goal.returns-in_default
returns-in_default c =
    let first = view c.expression-first.result in
    let us = seen c.expression-first.new.source.rest.now in
    then _ c.expression-first.ensures (came _ us us _ _ (λ vs. pattern_by 1000 first vs (comma_at vs)) refl (ap (pattern_by 1000 first us) c.in_default.ensures.may))

pub returns : goal.returns
returns c =
    let first = view c.expression-first.result in
    let us = seen c.expression-first.new.source.rest.now in
    then _ c.expression-first.ensures (goes_on us (seen c.in-Some.rest.now) _ (λ vs. pattern_by 1000 first vs (comma_at vs)) (λ vs. expr_at 1000 true Whole vs >>= λ x. Ok (Between first x.0, x.1)) c.go_on.ensures (ap (pattern_by 1000 first us) c.in-Some.ensures.may)
    (then _ c.expression-last.ensures (stays _ _)))
