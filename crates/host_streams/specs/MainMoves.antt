-- What the private calls of the main input have in common.
use Rattle.std.specs.Prelude.{◌≡◌, ◌≢◌, ℕ, ℤ, List, false, Option, Result}
use Rattle.awk_values.specs.declared.fault.Fault.{Fault}
use Rattle.awk_values.specs.declared.fault.Stop.{Stop}
use Rattle.world_core.specs.Calls.{Kind}
use Rattle.world_core.specs.WorldState.{State}
use Rattle.host_streams.specs.declared.main_input.Found.TheVariants.{NoneLeft}
use Rattle.host_streams.specs.declared.main_input.MainInput.{MainInput as Mains}
use Rattle.host_streams.specs.declared.main_input.MainNext.{MainNext}
use Rattle.host_streams.specs.declared.reader.Phase.{Phase}
use Rattle.host_streams.specs.MainFinds.{FindsOperand}
use Rattle.host_streams.specs.Mains.{GoesOn, HoldsMain, MainCounts, MainPhase, OpensNoOther, SparesOthers, SparesPlaces, StepEnds, main_phase}
use Rattle.host_streams.specs.Passing.{IdleAfter, IsOfOperands, IsOne, StepNoneMore, StepPasses, StepRests}

-- the file that is read is open; every other stream stays as it was, and where it was, and nothing changes what names hold
pub record MovesMain (tells : Type 0) (old new : Mains) (kinds kinds' : ℕ → Kind) (state state' : State) : Type 0 where
  pub held : HoldsMain new kinds'
  pub spares : SparesOthers old new kinds kinds'
  pub no_others : OpensNoOther old new kinds kinds'
  pub places : tells → SparesPlaces old.reading kinds state state'
  pub outside : tells → state'.outside ≡ state.outside

-- a step answers, or leaves less to do; this is what it says of failures, of the end, and of what rests after an assignment
pub record StepsMain (p : Phase) (old : Mains) (answer : Result (Option MainNext) Stop) (new : Mains) (n m : ℕ) : Type 0 where
  pub goes_on : GoesOn answer old new
  pub count : MainCounts p answer n m
  pub phase : MainPhase p answer (main_phase new)
  pub ends : StepEnds old.ended answer new.ended
  pub rests : StepRests answer new.reading new.found

-- the operand at hand, which has this text, is the only one that is passed; the standard input stays as it was, and operands may follow
pub record TakesOperand (text : List ℕ) (old : Mains) (answer : Result (Option MainNext) Stop) (new : Mains) : Type 0 where
  pub passes : (texts : ℕ → List ℕ) → texts old.next ≡ text → StepPasses texts old.next old.found answer new.next new.found
  pub standard : new.standard ≡ old.standard
  pub one : IsOne old.next new.next
  pub answers : IsOfOperands answer
  pub idle : IdleAfter answer new.reading
  pub named : new.found ≢ NoneLeft
  pub more : (count : Result ℤ Fault) → StepNoneMore count false old.found answer new.next new.found
  pub finds : FindsOperand text old answer new
