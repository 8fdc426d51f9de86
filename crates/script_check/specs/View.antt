-- What the uses of the code stand for.
use Rattle.std.specs.Prelude.{ℕ, List, map, Option}
use Rattle.std.specs.Borrow.{Bor}
use Rattle.std.specs.Option.{option_map}
use Rattle.latched.specs.Latched.{Adds}
use Rattle.latched.specs.declared.latched_vec.LatchedVec.{LatchedVec}
use Rattle.script_check.specs.declared.uses.Use.{Use}
use Rattle.script_check.specs.Uses.{Told}

-- a name within the script, if there is one
abbrev pub view_place : Option (Bor (List ℕ)) → Option (List ℕ)
view_place place = option_map (λ f. f.now) place

abbrev pub view_use : Use → Told
view_use u = record { deed = u.deed; place = view_place u.place; name = u.name.now }

abbrev pub view_uses : List Use → List Told
view_uses us = map view_use us

-- these uses more are found, unless memory ran out
abbrev pub AddsUses : LatchedVec Use → LatchedVec Use → List Told → Type 0
AddsUses old new us = Adds view_use old new us
