use Rattle.std.proofs.Common.{◌≡◌, ◌++◌, drop}
use Rattle.awk_grammar.specs.Item.{print_names}
use Rattle.awk_tree.specs.Lexemes.{lexemes}
use Rattle.awk_grammar.specs.ViewStmt.{view_names}
use Rattle.awk_tree.proofs.printer.push_names.Given as goal

abbrev pub invariant-loop-name : goal.invariant-loop-name
invariant-loop-name l = lexemes l.out.items ++ print_names (view_names (drop l.name-index l.names)) ≡ lexemes l.fn.out.items ++ print_names (view_names l.names)
