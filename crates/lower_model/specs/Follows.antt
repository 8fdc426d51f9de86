-- What emitted code gives: the machine over values shows what a program does, for every setting and number of turns, and with bounded work for each turn.
use Rattle.std.specs.Prelude.{◌≡◌, ℕ, ◌+◌, ◌*◌, ◌≤◌, Some}
use Rattle.mid_program.specs.Mid.{Program}
use Rattle.mid_program.specs.MidMeaning.{mid_run_in}
use Rattle.sem_scripts.specs.ScriptRun.{Setting, Ending, Ended, FaultedBy, GoesOn, Exhausted}
use Rattle.mid_program.specs.Sorted.{IsSorted}
use Rattle.lower_model.specs.Machine.{Notes, no_notes, turns_within}
use Rattle.lower_model.specs.Noted.{noted_run_in}
use Rattle.lower_model.specs.Runs.{noting_code, noting_run, begun}

-- An ending is shown after some steps. Where a program goes on after all its turns, the machine is at work with the same output, and its steps till
-- then stand for no fewer turns: so it is still at work after as many steps as one likes, if the turns are enough.
abbrev pub ShownWith : Notes → Program → Setting → (turns : ℕ) → (most : ℕ) → Ending → Type 0
ShownWith notes program setting turns most (GoesOn output) =
    (steps : ℕ) × (steps ≤ most) × (turns ≤ turns_within (noting_code notes program setting.deepest) steps (begun program setting))
    × (noting_run notes program setting steps ≡ Some (GoesOn output))
ShownWith notes program setting turns most (Ended status output) =
    (steps : ℕ) × (steps ≤ most) × (noting_run notes program setting steps ≡ Some (Ended status output))
ShownWith notes program setting turns most (FaultedBy fault output) =
    (steps : ℕ) × (steps ≤ most) × (noting_run notes program setting steps ≡ Some (FaultedBy fault output))
ShownWith notes program setting turns most (Exhausted output) =
    (steps : ℕ) × (steps ≤ most) × (noting_run notes program setting steps ≡ Some (Exhausted output))

abbrev pub Shown : Program → Setting → (turns : ℕ) → (most : ℕ) → Ending → Type 0
Shown program setting turns most ending = ShownWith no_notes program setting turns most ending

-- one bound for all settings and turns
pub record Follows (program : Program) : Type 0 where
  pub bound : ℕ
  pub shown : (setting : Setting) (turns : ℕ) → Shown program setting turns (bound * (turns + 1)) (mid_run_in program setting turns)

-- The same with notes, whatever is noted: the machine passes the places of statements as often as the mid code executes statements, and in the same
-- order, also among what is put out.
pub record FollowsNoted (program : Program) : Type 0 where
  pub bound : ℕ
  pub shown : (notes : Notes) (setting : Setting) (turns : ℕ)
      → ShownWith notes program setting turns (bound * (turns + 1)) (noted_run_in notes program setting turns)

abbrev pub EmissionFollows : Type 0
EmissionFollows = (program : Program) → IsSorted program → Follows program

abbrev pub EmissionNotes : Type 0
EmissionNotes = (program : Program) → IsSorted program → FollowsNoted program
