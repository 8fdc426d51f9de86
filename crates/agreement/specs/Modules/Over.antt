-- When a script's run is over.
use Rattle.sem_scripts.specs.ScriptRun.{Ending, GoesOn}

-- it ended, faulted, or nested its calls too deeply: more turns change nothing
abbrev pub IsOver : Ending → Type 0
IsOver (GoesOn output) = ⊥
IsOver _ = Unit {0}
