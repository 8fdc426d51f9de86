use Rattle.std.proofs.Common.{drop}
use Rattle.awk_grammar.specs.ViewStmt.{view_items}
use Rattle.mid_program.specs.Texts.{items_texts}
use Rattle.mid_code.proofs.TextTables.{Leads}
use Rattle.mid_code.proofs.texts.put_items.Given as goal

abbrev pub invariant-loop-item : goal.invariant-loop-item
invariant-loop-item l = Leads l.fn.texts l.texts (items_texts (view_items (drop l.item-index l.items))) (items_texts (view_items l.items))
