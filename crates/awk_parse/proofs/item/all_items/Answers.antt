use Rattle.std.proofs.Common.{◌+◌, ◌-◌, ◌≡◌, ◌<◌, length, sym, ap, ◌∙◌, arith}
use Rattle.std.proofs.lemmas.Bool.{eqb-true, eqb-false}
use Rattle.awk_grammar.specs.ViewStmt.{view_items}
use Rattle.awk_parse.specs.Seen.{seen}
use Rattle.awk_parse.proofs.ParsedLemmas.{seen_length}
use Rattle.awk_parse.proofs.Scripts.{items_begin, items_next, items_added, items_done, items_over}
use Rattle.awk_parse.proofs.item.all_items.Goals as goal

pub loop-init : goal.loop-init
loop-init c = λ v s w. items_begin _ v _ (seen c.args.source.now.rest.now) _ s (ap view_items c.new-read.ensures.items) (omega (arith, seen_length c.args.source.now.rest.now)) w

pub loop-preserved : goal.loop-preserved
loop-preserved c =
    let rest = c.loop.source.rest.now in
    let n = eqb-false (length rest) 0 (sym c.is_empty.ensures ∙ c.if-is_empty.false) in
    let some : 0 < length (seen rest) = omega (arith, seen_length rest, n) in
    let added = items_added c.push.new.items.items c.loop.read.items c.item-next.result _ _ c.push.ensures in
    λ v s w. c.loop.invariant v s (items_next _ _ v _ c.loop.counter (length c.args.source.now.rest.now + 1) (seen rest) _ _ _ s c.loop-test.true some c.item-next.ensures added w)

pub returns-then-is_empty : goal.returns-then-is_empty
returns-then-is_empty c =
    let rest = c.loop.source.rest.now in
    let n = eqb-true (length rest) 0 (sym c.is_empty.ensures ∙ c.if-is_empty.true) in
    let none : length (seen rest) ≡ 0 = omega (arith, seen_length rest, n) in
    c.loop.invariant _ _ (items_done (view_items c.loop.read.items) c.loop.counter (length c.args.source.now.rest.now + 1) (seen rest) _ c.loop-test.true none)

pub returns : goal.returns
returns c =
    c.loop.invariant _ _ (items_over (view_items c.loop.read.items) (length c.args.source.now.rest.now + 1 - c.loop.counter) (seen c.loop.source.rest.now) _ _ _ _ (omega (arith, c.loop-test.false)) c.stopped.ensures c.refuse.ensures)
