-- Whether the machine over values shows what a program does with so many turns, computed.
use Rattle.std.specs.Prelude.{◌≡◌, ℕ, zero, suc, ◌-◌, nat_le, ◌&&◌, if◌then◌else◌, List, [], length, Option, Some, None}
use Rattle.world_core.specs.WorldState.{Action}
use Rattle.mid_program.specs.Mid.{Program}
use Rattle.mid_program.specs.MidMeaning.{mid_run_in}
use Rattle.sem_scripts.specs.MoreTurns.{output_of}
use Rattle.sem_scripts.specs.ScriptRun.{Setting, Ending, Ended, FaultedBy, GoesOn, Exhausted}
use Rattle.lower_model.specs.Machine.{Code, Conf, step, ending_at, carried_at}
use Rattle.lower_model.specs.Runs.{code_of, begun, value_run}

abbrev output_shown : Option Ending → List Action
output_shown None = []
output_shown (Some e) = output_of e

-- how the run shows as soon as its steps stand for so many turns and so much was put out; most steps are tried
abbrev pub shown_then : Code → (most : ℕ) → (turns : ℕ) → (size : ℕ) → Conf → Option Ending
shown_then u zero turns size c = None
shown_then u (suc most) turns size c =
    if nat_le turns 0 && nat_le size (length (output_shown (ending_at c)))
    then ending_at c
    else shown_then u most (turns - suc (carried_at c)) size (step u c)

-- it is still at work with this output, or it is over in the same way
abbrev pub AgreesOn : Program → Setting → ℕ → ℕ → Ending → Type 0
AgreesOn p s most turns (GoesOn o) = shown_then (code_of p s.deepest) most turns (length o) (begun p s) ≡ Some (GoesOn o)
AgreesOn p s most turns (Ended n o) = value_run p s most ≡ Some (Ended n o)
AgreesOn p s most turns (FaultedBy f o) = value_run p s most ≡ Some (FaultedBy f o)
AgreesOn p s most turns (Exhausted o) = value_run p s most ≡ Some (Exhausted o)

abbrev pub AgreesWith : Program → Setting → ℕ → ℕ → Type 0
AgreesWith p s most turns = AgreesOn p s most turns (mid_run_in p s turns)

-- with no turn, with one and with two
abbrev pub AgreesEarly : Program → Setting → Type 0
AgreesEarly p s = AgreesWith p s 1500 0 × (AgreesWith p s 1500 1 × AgreesWith p s 1500 2)
