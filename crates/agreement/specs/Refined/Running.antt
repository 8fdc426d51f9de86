-- How a run of the real machine stands to the machine over values.
use Rattle.std.specs.Prelude.{ℕ, ◌≡◌, ◌<◌, Bool, List, [], Some}
use Rattle.world_core.specs.WorldState.{Action}
use Rattle.wasm_store.specs.declared.word.Word.{Word}
use Rattle.wasm_model.specs.Machines as real
use Rattle.wasm_model.specs.Runs.{IsWithin, told_end}
use Rattle.wasm_model.specs.declared.ends.End.{End}
use Rattle.wasm_model.specs.declared.ends.End.TheVariants as ends
use Rattle.wasm_model.specs.declared.ends.RunEnd.{RunEnd}
use Rattle.wasm_model.specs.declared.ends.RunEnd.TheVariants.{Ended, OutOfSteps, NoMemory}
use Rattle.wasm_model.specs.declared.ends.MachineEnd.{MachineEnd}
use Rattle.wasm_model.specs.declared.ends.MachineEnd.TheVariants as told
use Rattle.host_step.specs.HostState.{HostState}
use Rattle.lower_model.specs.Machine.{Code, Conf, Deep, Look, Over, Run, Store, Stuck, go, step}
use Rattle.agreement.specs.Refined.Refined.{As, EndAs}
use Rattle.agreement.specs.Refined.Words.{WordAs, arrays_made, state_with}

module _ (used : ℕ → Bool) (bs : List Bool) (u : Code) where
  -- How the real machine may end where the machine over values is at p: with the word that `main` gave, or in the step that p is to make.
  abbrev pub EndedAs : Conf → End → HostState → HostState → List Action → Type 0
  EndedAs (Over v G) e before after output = (word : Word) × WordAs (arrays_made G.host) before.names v word × (e ≡ ends.Returned (Some word))
      × (after ≡ before) × (output ≡ [])
  EndedAs p e before after output = EndAs used bs u (step u p) e before after output

  -- a run of at most n steps from p, as it ended: n steps are n steps; an end comes after as many steps of both; and so does a want of memory
  abbrev pub RanAs : ℕ → Conf → RunEnd → real.Conf → HostState → Type 0
  RanAs n p OutOfSteps c s = As used bs u (go u n p) c s
  RanAs n p (Ended e) c s = (k : ℕ) × IsWithin k n e × (c1 : real.Conf) × (s1 : HostState) × (output : List Action) × As used bs u (go u k p) c1 s1
      × EndedAs (go u k p) e s1 s output
  RanAs n p NoMemory c s = (k : ℕ) × (k < n) × (c1 : real.Conf) × (s1 : HostState) × As used bs u (go u k p) c1 s1

-- the host is as the machine over values has it, its tables aside
abbrev pub SharesAs : Store → HostState → Type 0
SharesAs G s = s ≡ state_with s.names G.host

-- What is told of a run of n steps, and how the host is then, where the machine over values is at p after n steps: that there are more steps, the
-- word that `main` gave, or that a call was too deep. Where it is stuck nothing is promised.
abbrev pub TellsAs : Conf → MachineEnd → HostState → Type 0
TellsAs (Run ks vs K L F code G) e s = (e ≡ told.OutOfSteps) × SharesAs G s
TellsAs (Look x ks vs K L F code G) e s = (e ≡ told.OutOfSteps) × SharesAs G s
TellsAs (Over v G) e s = (word : Word) × WordAs (arrays_made G.host) s.names v word × (told_end (ends.Returned (Some word)) ≡ Some e) × SharesAs G s
TellsAs (Deep G) e s = (e ≡ told.Exhausted) × SharesAs G s
TellsAs Stuck e s = Unit {0}
