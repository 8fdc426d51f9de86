-- Turns of the main input, one after the other, where others change what names hold too.
use Rattle.std.proofs.Common.{◌≡◌, ℕ, List, ◌++◌, append_assoc, Option, Some, None, Result, Ok, Err, sym, ap, subst, ◌∙◌}
use Rattle.awk_values.specs.declared.fault.Fault.{Fault}
use Rattle.awk_values.specs.declared.fault.Stop.{Stop}
use Rattle.world_core.specs.WorldState.{Entry, Outside}
use Rattle.sem_primitives.specs.MainInput.{main_input}
use Rattle.sem_primitives.specs.InputParts.{Main}
use Rattle.sem_primitives.specs.SharedState.{Inner}
use Rattle.host_texts.specs.declared.texts.Texts.{Texts}
use Rattle.host_worlds.specs.Finds.{FindsGiven, FindsTurn}
use Rattle.host_worlds.specs.Givens.{GivesMain, OffersTexts}
use Rattle.host_worlds.specs.States.{Finding, with_tables}
use Rattle.host_worlds.specs.declared.input.Given.{Given}
use Rattle.host_worlds.specs.declared.input.Input.{Input}
use Rattle.host_worlds.proofs.Turns.{turn_none, turn_some}

-- some turns that gave nothing
abbrev pub FoundSoFar : (ℕ → List ℕ) → Texts → Input → Texts → Input → Type 0
FoundSoFar offered texts first texts' old = (found : List Entry) × ((later : List Entry) (outside : Outside) (inner : Inner) → OffersTexts offered inner
    → main_input outside (with_tables texts first (Finding (found ++ later)) inner) ≡ main_input outside (with_tables texts' old (Finding later) inner))

module _ (offered : ℕ → List ℕ) (texts texts' texts'' : Texts) (first old new : Input) where
  before_is : (before : FoundSoFar offered texts first texts' old) (found later : List Entry) (outside : Outside) (inner : Inner) → OffersTexts offered inner
      → main_input outside (with_tables texts first (Finding ((before.0 ++ found) ++ later)) inner) ≡ main_input outside (with_tables texts' old (Finding (found ++ later)) inner)
  before_is before found later outside inner same =
      ap (λ finds. main_input outside (with_tables texts first (Finding finds) inner)) (append_assoc before.0 found later) ∙ before.1 (found ++ later) outside inner same

  pub found_on : {o : Option Given} → o ≡ None → FoundSoFar offered texts first texts' old → FindsTurn offered texts' old (Ok o) texts'' new → FoundSoFar offered texts first texts'' new
  found_on e before turn = (
    before.0 ++ turn.0,
    λ later outside inner same.
        before_is before turn.0 later outside inner same ∙ turn_none _ outside _ e (turn.1 later outside inner same),
  )

  pub found_given : {o : Option Given} (given : Given) → o ≡ Some given → FoundSoFar offered texts first texts' old → FindsTurn offered texts' old (Ok o) texts'' new
      → FindsGiven offered texts first (Ok given) texts'' new
  found_given given e before turn = (
    before.0 ++ turn.0,
    λ later outside inner same.
        before_is before turn.0 later outside inner same ∙ turn_some given _ outside _ e (turn.1 later outside inner same),
  )

  pub found_stop : (stop : Stop) → FoundSoFar offered texts first texts' old → FindsTurn offered texts' old (Err stop) texts'' new → FindsGiven offered texts first (Err stop) texts'' new
  found_stop stop before turn = (
    before.0 ++ turn.0,
    λ later outside inner same.
        subst (λ (x : Result (Inner × Main) Fault). GivesMain x (Err stop) (with_tables texts'' new (Finding later) inner)) (sym (before_is before turn.0 later outside inner same))
        (turn.1 later outside inner same),
  )
