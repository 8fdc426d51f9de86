use Rattle.std.proofs.Common.{◌≡◌, ◌++◌, drop}
use Rattle.awk_grammar.specs.Item.{print_script}
use Rattle.awk_tree.specs.Lexemes.{lexemes}
use Rattle.awk_grammar.specs.ViewStmt.{view_items}
use Rattle.awk_tree.proofs.printer.push_items.Given as goal

abbrev pub invariant-loop-item : goal.invariant-loop-item
invariant-loop-item l = lexemes l.out.items ++ print_script (view_items (drop l.item-index l.items)) ≡ lexemes l.fn.out.items ++ print_script (view_items l.items)
