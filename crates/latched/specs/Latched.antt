-- Lists that remember a failed allocation, by the plain items that theirs stand for.
use Rattle.std.specs.Prelude.{◌≡◌, ◌++◌, false, List, map}
use Rattle.latched.specs.declared.latched_vec.LatchedVec.{LatchedVec}

-- what is in it, with the rest after it, is the whole, unless memory ran out
pub record Leads {T F : Type 0} (view : T → F) (out : LatchedVec T) (rest whole : List F) : Type 0 where
  pub leads : out.out_of_memory ≡ false → map view out.items.items ++ rest ≡ whole

-- between the two these were added, unless memory ran out
pub record Adds {T F : Type 0} (view : T → F) (old new : LatchedVec T) (more : List F) : Type 0 where
  pub adds : new.out_of_memory ≡ false → (old.out_of_memory ≡ false) × (map view new.items.items ≡ map view old.items.items ++ more)
