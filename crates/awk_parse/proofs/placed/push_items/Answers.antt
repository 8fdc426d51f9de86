use Rattle.std.proofs.Common.{◌+◌, List, ◌++◌, drop, ap, sym, ◌∙◌}
use Rattle.awk_grammar.specs.declared.tree.Item.{Item}
use Rattle.awk_grammar.specs.ViewStmt.{view_items}
use Rattle.awk_parse.specs.Jumps.{script_jumps}
use Rattle.awk_parse.proofs.Places.{drop_at, more_jumps}
use Rattle.awk_parse.proofs.placed.push_items.Goals as goal

pub loop-item-preserved : goal.loop-item-preserved
loop-item-preserved c =
    let is = c.args.items.now in
    let i = c.loop-item.item-index in
    let old = c.loop-item.out.items in
    more_jumps old _ _ (script_jumps (view_items (drop (i + 1) is))) c.in_ok-push_item.ensures
    ∙ sym (ap (λ (us : List Item). old ++ script_jumps (view_items us)) (drop_at is i c.item-item.result c.loop-item-test.true c.item-item.is))
    ∙ c.loop-item.invariant
