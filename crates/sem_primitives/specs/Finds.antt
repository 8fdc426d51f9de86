-- What names hold where others change them too. While nobody else does, a name holds what it held before the script ran and what the output made of it.
-- Else nothing is known of it: each time that something is opened, read or written, what is found there is the next of a list.
use Rattle.std.specs.Prelude.{List, [], ◌∷◌, Option, Some, None, Result, Ok, Err, false}
use Rattle.awk_values.specs.declared.fault.Fault.{Fault}
use Rattle.world_core.specs.declared.world.Ending.TheVariants.{Fails}
use Rattle.world_core.specs.WorldState.{Entry, Outside}
use Rattle.sem_primitives.specs.SharedState.{Inner}

-- behind the list nothing opens, reading fails, and there is no room
abbrev pub shut : Entry
shut = record { bytes = None; ending = Fails; room = Some 0; opens = false }

abbrev pub first_found : List Entry → Entry
first_found [] = shut
first_found (entry ∷ rest) = entry

abbrev pub found_after : List Entry → List Entry
found_after [] = []
found_after (entry ∷ rest) = rest

-- what a name holds, or what is found in its place
abbrev pub found_or : Option (List Entry) → Entry → Entry
found_or None entry = entry
found_or (Some finds) entry = first_found finds

abbrev pub finds_after : Option (List Entry) → Option (List Entry)
finds_after None = None
finds_after (Some finds) = Some (found_after finds)

-- the names as they are found now
abbrev pub seen : Inner → Outside → Outside
seen inner outside = λ target. found_or inner.finds (outside target)

-- after it
abbrev pub observed : Inner → Inner
observed inner = record inner { finds = finds_after inner.finds }

-- the same where nothing faults
abbrev pub finds_by : {A : Type 0} → Result A Fault → Option (List Entry) → Option (List Entry)
finds_by (Ok x) finds = finds_after finds
finds_by (Err fault) finds = finds

abbrev pub observed_by : {A : Type 0} → Result A Fault → Inner → Inner
observed_by r inner = record inner { finds = finds_by r inner.finds }
