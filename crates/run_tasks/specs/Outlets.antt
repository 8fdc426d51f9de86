-- What a run gave to files and to the program's own streams, by what these tell that they hold.
use Rattle.std.specs.Prelude.{◌≡◌, ℕ, Bool, List, [], Option}
use Rattle.world_core.specs.Traces.{Call}
use Rattle.world_core.specs.TraceParts.{IsHandedOn}
use Rattle.world_core.specs.WorldState.{Action}
use Rattle.world_os.specs.OsStreams.{Gives}
use Rattle.world_os.specs.declared.world.OsStream.{OsStream}
use Rattle.run_modules.specs.ModuleRun.{IsGiven}

-- the streams that were opened, whether names of streams mean the streams, and what the standard output and the standard error hold
pub record Outlets (F : Type 0) : Type 0 where
  pub streams : List (OsStream F)
  pub named : Bool
  pub output : Option (List ℕ)
  pub errors : Option (List ℕ)

-- each outlet has got the bytes of a call, and no others
abbrev pub Gets : {F : Type 0} → (F → Option (List ℕ)) → Outlets F → Call → Outlets F → Type 0
Gets contents old call new = Gives contents old.named call old.streams new.streams old.output new.output old.errors new.errors

-- This output was given by such calls, or by some that were kept back and gave nothing. At first nothing is open but the standard streams, which hold this.
pub record IsGivenOut {F : Type 0} (contents : F → Option (List ℕ)) (named : Bool) (output errors : Option (List ℕ)) (given : List Action) : Type 0 where
  pub first : Outlets F
  pub last : Outlets F
  pub none_open : first.streams ≡ []
  pub names : first.named ≡ named
  pub on_output : first.output ≡ output
  pub on_errors : first.errors ≡ errors
  pub gave : IsGiven (IsHandedOn (Gets contents)) first last given
