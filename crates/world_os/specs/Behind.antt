-- The outside as it is seen from behind a fence.
use Rattle.std.specs.Prelude.{ℕ, List, Bool, ◌&&◌}
use Rattle.world_core.specs.WorldState.{Entry, Named, Outside, Standard, State}

-- a name that is kept out does not open; what it holds stays
abbrev pub seen : Bool → Entry → Entry
seen let_through e = record { bytes = e.bytes; ending = e.ending; room = e.room; opens = let_through && e.opens }

-- the standard output is seen as it is
abbrev pub outside_behind : (List ℕ → Bool) → Outside → Outside
outside_behind lets outside Standard = outside Standard
outside_behind lets outside (Named name) = seen (lets name) (outside (Named name))

-- streams that are open are seen as they are
abbrev pub behind : (List ℕ → Bool) → State → State
behind lets s = record { outside = outside_behind lets s.outside; readers = s.readers; writers = s.writers }
