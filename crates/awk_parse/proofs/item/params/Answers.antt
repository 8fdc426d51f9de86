use Rattle.std.proofs.Common.{[], ◌∷◌, length, ap, refl}
use Rattle.awk_grammar.specs.ReadItem.{params_at}
use Rattle.awk_grammar.specs.ViewStmt.{view_names}
use Rattle.awk_parse.specs.Seen.{seen}
use Rattle.awk_parse.proofs.Names.{left_names, params_named, params_none, first_added}
use Rattle.awk_parse.proofs.ParsedLemmas.{then, came, goes_on}
use Rattle.awk_parse.proofs.item.params.Goals as goal

pub returns-in_default : goal.returns-in_default
returns-in_default c =
    let ts = seen c.args.source.now.rest.now in
    rw (ap view_names c.new-names.ensures.items) (came [] ts ts _ _ params_at refl (params_none ts c.in_default.ensures))

pub returns : goal.returns
returns c =
    let ts = seen c.args.source.now.rest.now in
    let us = seen c.in-Some.rest.now in
    let first = c.in-Some.first.now in
    goes_on ts us _ params_at (λ vs. left_names (first ∷ []) (length vs) vs) c.go_on.ensures (params_named ts (first, us) c.in-Some.ensures)
    (then (λ x. left_names (x.0 ∷ []) (length x.1) x.1) c.copied-first.ensures (then (λ x. left_names x.0 (length x.1) x.1) (first_added _ _ _ _ _ c.new-names.ensures.items c.push.ensures) c.others.ensures))
