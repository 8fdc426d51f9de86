use Rattle.std.proofs.Common.{◌-◌, length, arith}
use Rattle.awk_grammar.specs.ViewStmt.{view_names}
use Rattle.awk_parse.specs.Seen.{seen}
use Rattle.awk_parse.proofs.ParsedLemmas.{seen_length}
use Rattle.awk_parse.proofs.Names.{names_begin, names_next, names_added, names_end, names_over}
use Rattle.awk_parse.proofs.item.others.Goals as goal

pub loop-init : goal.loop-init
loop-init c = λ v s w. names_begin (view_names c.args.front.items) v _ (seen c.args.source.now.rest.now) _ s (omega (arith, seen_length c.args.source.now.rest.now)) w

pub loop-preserved : goal.loop-preserved
loop-preserved c =
    let added = names_added c.push.new.items.items c.loop.names.items c.name-next.result _ _ c.push.ensures in
    λ v s w. c.loop.invariant v s (names_next _ _ v _ c.loop.counter (length c.args.source.now.rest.now) (seen c.loop.source.rest.now) (seen c.in-Some.rest.now) _ _ _ _ s c.loop-test.true c.in-Some.ensures.may c.go_on.ensures c.name-next.ensures added w)

pub returns-in_default : goal.returns-in_default
returns-in_default c = c.loop.invariant _ _ (names_end (view_names c.loop.names.items) (length c.args.source.now.rest.now - c.loop.counter) (seen c.loop.source.rest.now) _ c.in_default.ensures.may)

pub returns : goal.returns
returns c = c.loop.invariant _ _ (names_over (view_names c.loop.names.items) (length c.args.source.now.rest.now - c.loop.counter) (seen c.loop.source.rest.now) _ (omega (arith, c.loop-test.false)))
