use Rattle.std.proofs.Common.{map, take}
use Rattle.awk_grammar.specs.Kinds.{Whole}
use Rattle.awk_resolve.specs.View.{view_kind}
use Rattle.awk_resolve.specs.ViewNames.{names}
use Rattle.awk_resolve.specs.ViewUses.{NotesUses}
use Rattle.awk_resolve.proofs.uses.note_specials.Given as goal

abbrev pub invariant-loop-name : goal.invariant-loop-name
invariant-loop-name l = NotesUses l.fn.uses l.uses (view_kind l.kind) (map Whole (names (take l.name-index l.specials)))
