-- A program and the machine over values agree.
use Rattle.std.specs.Prelude.{◌≡◌, ℕ, ◌+◌, ◌*◌, ◌≤◌, Some}
use Rattle.sem_scripts.specs.MoreTurns.{Grows, output_of}
use Rattle.mid_program.specs.Mid.{Program}
use Rattle.mid_program.specs.MidMeaning.{mid_run_in}
use Rattle.sem_scripts.specs.ScriptRun.{Setting, Ending}
use Rattle.lower_model.specs.Follows.{ShownWith}
use Rattle.lower_model.specs.Machine.{Notes, no_notes}
use Rattle.lower_model.specs.Runs.{noting_run}
use Rattle.agreement.specs.Modules.Over.{IsOver}

-- the machine with these notes shows what is done
pub record Shows (notes : Notes) (p : Program) (done : Setting → ℕ → Ending) : Type 0 where
  pub bound : ℕ
  pub shown : (s : Setting) (turns : ℕ) → ShownWith notes p s turns (bound * (turns + 1)) (done s turns)

-- In every setting the machine is nowhere stuck, and what one does the other does: the ends are the same, and what one has put out by any time the
-- other has put out by some time. The work for each turn is bounded by one number for all settings.
pub record AgreesWith (notes : Notes) (p : Program) (done : Setting → ℕ → Ending) : Type 0 where
  pub bound : ℕ
  pub never_stuck : (s : Setting) (steps : ℕ) → (e : Ending) × (noting_run notes p s steps ≡ Some e)
  pub forward : (s : Setting) (turns : ℕ) (e : Ending) → IsOver e → done s turns ≡ e →
      (enough : ℕ) × (enough ≤ bound * (turns + 1)) × ((steps : ℕ) → enough ≤ steps → noting_run notes p s steps ≡ Some e)
  pub backward : (s : Setting) (steps : ℕ) (e : Ending) → IsOver e → noting_run notes p s steps ≡ Some e → (turns : ℕ) × (done s turns ≡ e)
  pub output_machine : (s : Setting) (steps : ℕ) (e : Ending) → noting_run notes p s steps ≡ Some e → (turns : ℕ)
      × Grows (output_of e) (output_of (done s turns))
  pub output_program : (s : Setting) (turns : ℕ) →
      (enough : ℕ) × (enough ≤ bound * (turns + 1)) × ((steps : ℕ) (e : Ending) → enough ≤ steps → noting_run notes p s steps ≡ Some e
      → Grows (output_of (done s turns)) (output_of e))

abbrev pub ValueAgreement : Program → Type 0
ValueAgreement p = AgreesWith no_notes p (mid_run_in p)
