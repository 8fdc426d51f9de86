-- In which states a watched run pauses.
use Rattle.std.specs.Prelude.{Bool, false, is_some}
use Rattle.host_values.specs.FormMeaning.{FormState, Told, Untold}
use Rattle.host_calls.specs.Runs.{Sight}

-- a fault is kept
abbrev pub keeps_fault : FormState → Bool
keeps_fault (Told form) = is_some form.fault
keeps_fault Untold = false

abbrev pub pauses : {W : Type 0} → Sight W → Bool
pauses h = keeps_fault h.tables
