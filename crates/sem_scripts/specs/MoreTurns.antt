-- What more turns keep, how output grows, and where no call is too deep.
use Rattle.std.specs.Prelude.{◌≡◌, ℕ, ◌≤◌, List, ◌++◌}
use Rattle.world_core.specs.WorldState.{Action}
use Rattle.sem_scripts.specs.ScriptRun.{Ending, Ended, FaultedBy, GoesOn, Exhausted, Setting}

-- more output after some output
abbrev pub Grows : List Action → List Action → Type 0
Grows before after = (added : List Action) × (after ≡ before ++ added)

abbrev pub output_of : Ending → List Action
output_of (Ended status output) = output
output_of (FaultedBy fault output) = output
output_of (GoesOn output) = output
output_of (Exhausted output) = output

-- An ending is the same with more turns; a run that goes on may have more output, or come to an ending.
abbrev pub IsKept : Ending → Ending → Type 0
IsKept (Ended status output) later = later ≡ Ended status output
IsKept (FaultedBy fault output) later = later ≡ FaultedBy fault output
IsKept (GoesOn output) later = Grows output (output_of later)
IsKept (Exhausted output) later = later ≡ Exhausted output

-- of a run by its setting and its turns
abbrev pub MoreTurnsKeep : (Setting → ℕ → Ending) → Type 0
MoreTurnsKeep run = (setting : Setting) (few many : ℕ) → few ≤ many → IsKept (run setting few) (run setting many)

abbrev pub IsNoExhaustion : Ending → Type 0
IsNoExhaustion (Exhausted output) = ⊥
IsNoExhaustion e = Unit {0}

-- each nested call costs a turn, so a run with at most as many turns as calls may be nested never nests too deeply
abbrev pub NeverTooDeep : (Setting → ℕ → Ending) → Type 0
NeverTooDeep run = (setting : Setting) (turns : ℕ) → turns ≤ setting.deepest → IsNoExhaustion (run setting turns)
