use Rattle.std.proofs.Common.{◌≡◌, drop}
use Rattle.awk_grammar.specs.ViewStmt.{view_items}
use Rattle.sem_scripts.specs.Items.{reads_records}
use Rattle.mid_code.proofs.item.reads_records.Given as goal

abbrev pub invariant-loop-item : goal.invariant-loop-item
invariant-loop-item l = reads_records (view_items (drop l.item-index l.items)) ≡ reads_records (view_items l.items)
