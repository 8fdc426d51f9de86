use Rattle.std.proofs.Common.{List, ap, arith}
use Rattle.std.proofs.lemmas.List.{drop_all}
use Rattle.awk_grammar.specs.ViewStmt.{view_items}
use Rattle.awk_grammar.specs.declared.tree.Item.{Item}
use Rattle.awk_resolve.proofs.Names.{drop_at}
use Rattle.mid_program.specs.Texts.{items_texts}
use Rattle.mid_code.proofs.TextTables.{leads_all, leads_first, leads_next}
use Rattle.mid_code.proofs.texts.put_items.Goals as goal

pub loop-item-init : goal.loop-item-init
loop-item-init c = leads_first c.args.texts.now _

pub loop-item-preserved : goal.loop-item-preserved
loop-item-preserved c =
    leads_next _ (ap (λ (us : List Item). items_texts (view_items us)) (drop_at c.args.items.now c.loop-item.item-index c.item-item.result c.loop-item-test.true c.item-item.is)) c.loop-item.invariant c.put_item.ensures

pub returns : goal.returns
returns c = leads_all _ (ap (λ (us : List Item). items_texts (view_items us)) (drop_all c.loop-item.item-index c.args.items.now (omega arith))) c.loop-item.invariant
