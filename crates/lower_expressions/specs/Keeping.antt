-- What is kept where code is emitted, the last one first.
use Rattle.std.specs.Prelude.{ℕ, List, [], ◌∷◌}
use Rattle.mid_program.specs.Mid as plain
use Rattle.lower_pieces.specs.Forms.{view_form}
use Rattle.lower_expressions.specs.declared.entry.Entry.{Entry}

-- the forms of what is kept, and the temporaries that it stands in
pub record Keeping : Type 0 where
  pub forms : List plain.Form
  pub temporaries : List ℕ

abbrev pub kept_none : Keeping
kept_none = record { forms = []; temporaries = [] }

abbrev pub kept_more : plain.Form → ℕ → Keeping → Keeping
kept_more form temporary keeping = record { forms = form ∷ keeping.forms; temporaries = temporary ∷ keeping.temporaries }

abbrev pub keeping_of : List Entry → Keeping
keeping_of [] = kept_none
keeping_of (entry ∷ entries) = kept_more (view_form entry.form) entry.temporary (keeping_of entries)
