use Rattle.std.proofs.Common.{◌≡◌, ◌++◌, [], drop}
use Rattle.awk_tree.specs.Lexemes.{lexemes}
use Rattle.awk_grammar.specs.ViewStmt.{view_items}
use Rattle.awk_tree.specs.Lines.{places_where}
use Rattle.awk_tree.specs.Parts.{is_in}
use Rattle.awk_tree.proofs.lines.items.add_part.Given as goal

abbrev pub invariant-loop-item : goal.invariant-loop-item
invariant-loop-item l =
    l.places.items ++ places_where (is_in l.part) (lexemes l.tokens.items) (view_items (drop l.item-index l.items)) ≡ l.fn.places.items ++ places_where (is_in l.part) [] (view_items l.items)
