-- What reading comes to where others change what names hold too, in every world: something is found, whatever is found later.
use Rattle.std.specs.Prelude.{◌≡◌, ℕ, List, ◌++◌, Option, Result}
use Rattle.awk_values.specs.Values.{text_of_value}
use Rattle.awk_values.specs.declared.fault.Fault.{Fault}
use Rattle.awk_values.specs.declared.fault.Stop.{Stop}
use Rattle.awk_values.specs.declared.value.Value.{Value}
use Rattle.world_core.specs.WorldState.{Entry, Outside}
use Rattle.sem_primitives.specs.InputMeaning.{getline_file_by}
use Rattle.sem_primitives.specs.MainInput.{main_input}
use Rattle.sem_primitives.specs.SharedState.{Inner}
use Rattle.sem_primitives.specs.declared.answers.InputAnswer.{InputAnswer}
use Rattle.host_streams.specs.MainFinds.{StepFound, as_step}
use Rattle.host_streams.specs.declared.main_input.MainNext.{MainNext}
use Rattle.host_streams.specs.declared.reader.FileNext.{FileNext}
use Rattle.host_texts.specs.declared.texts.Texts.{Texts}
use Rattle.host_worlds.specs.Givens.{FileGives, GivesMain, OffersTexts, RowGives, TurnGives, file_row, main_row}
use Rattle.host_worlds.specs.States.{Finding, with_tables}
use Rattle.host_worlds.specs.declared.input.Given.{Given}
use Rattle.host_worlds.specs.declared.input.Input.{Input}
use Rattle.host_worlds.specs.declared.input.ReadInto.{ReadInto}
use Rattle.host_worlds.specs.declared.input.MainRead.{MainRead}

-- the main input is asked once
abbrev pub FindsNext : (ℕ → List ℕ) → Texts → Input → Result MainNext Stop → Input → Type 0
FindsNext offered texts old answer new = (found : List Entry) × ((later : List Entry) (outside : Outside) (inner : Inner) → OffersTexts offered inner
    → StepFound (main_input outside (with_tables texts old (Finding (found ++ later)) inner)) (as_step answer) outside
    (with_tables texts new (Finding later) inner))

-- in one turn
abbrev pub FindsTurn : (ℕ → List ℕ) → Texts → Input → Result (Option Given) Stop → Texts → Input → Type 0
FindsTurn offered texts old answer texts' new = (found : List Entry) × ((later : List Entry) (outside : Outside) (inner : Inner) → OffersTexts offered inner
    → TurnGives (main_input outside (with_tables texts old (Finding (found ++ later)) inner)) answer outside (with_tables texts' new (Finding later) inner))

-- until it gives something
abbrev pub FindsGiven : (ℕ → List ℕ) → Texts → Input → Result Given Stop → Texts → Input → Type 0
FindsGiven offered texts old answer texts' new = (found : List Entry) × ((later : List Entry) (outside : Outside) (inner : Inner) → OffersTexts offered inner
    → GivesMain (main_input outside (with_tables texts old (Finding (found ++ later)) inner)) answer (with_tables texts' new (Finding later) inner))

-- by an import
abbrev pub FindsRow : MainRead → (ℕ → List ℕ) → Texts → Input → Result InputAnswer Stop → Texts → Input → Type 0
FindsRow how offered texts old answer texts' new = (found : List Entry) × ((later : List Entry) (outside : Outside) (inner : Inner) → OffersTexts offered inner
    → RowGives (main_row how outside (with_tables texts old (Finding (found ++ later)) inner)) answer (with_tables texts' new (Finding later) inner))

-- a file is read
abbrev pub FindsFile : List ℕ → Texts → Input → Result FileNext Stop → Input → Type 0
FindsFile name texts old answer new = (found : List Entry) × ((later : List Entry) (outside : Outside) (inner : Inner)
    (keep : List ℕ → Inner → Result (Inner × InputAnswer) Fault) (value : Value) → text_of_value value ≡ name
    → FileGives (getline_file_by keep value outside (with_tables texts old (Finding (found ++ later)) inner)) keep answer (with_tables texts new (Finding later) inner))

abbrev pub FindsFileRow : ReadInto → List ℕ → Texts → Input → Result InputAnswer Stop → Texts → Input → Type 0
FindsFileRow to name texts old answer texts' new = (found : List Entry) × ((later : List Entry) (outside : Outside) (inner : Inner)
    (value : Value) → text_of_value value ≡ name
    → RowGives (file_row to value outside (with_tables texts old (Finding (found ++ later)) inner)) answer (with_tables texts' new (Finding later) inner))
