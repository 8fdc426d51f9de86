-- The parts of `main` that the code knows.
use Rattle.std.specs.Prelude.{Bool}
use Rattle.awk_grammar.specs.Trees.{Item}
use Rattle.awk_tree.specs.declared.lines.items.Part.{Part}
use Rattle.awk_tree.specs.declared.lines.items.Part.TheVariants as parts
use Rattle.awk_tree.specs.Lines.{is_begin, is_end, is_for_records}

abbrev pub is_in : Part → Item → Bool
is_in parts.Begin item = is_begin item
is_in parts.Records item = is_for_records item
is_in parts.End item = is_end item
