-- From what became of a text, to what became of the row that has it.
use Rattle.std.proofs.Common.{◌≡◌, ℕ, List, [], ◌++◌, Result, Ok, Err, refl, sym, ap, subst, ◌∙◌}
use Rattle.awk_values.specs.declared.fault.Fault.{Fault}
use Rattle.awk_values.specs.declared.fault.Stop.{Stop}
use Rattle.awk_values.specs.declared.fault.Stop.TheVariants as stop
use Rattle.awk_values.specs.declared.value.Value.{Value}
use Rattle.sem_primitives.specs.OutputMeaning.{file_name, formatted_values, operands_of, printed, printf_by, put_text}
use Rattle.sem_primitives.specs.Rows.{print_row, printf_row}
use Rattle.sem_primitives.specs.SharedState.{Inner, Shared}
use Rattle.sem_primitives.specs.declared.constants.Destination.{Destination}
use Rattle.world_core.specs.Traces.{Call}
use Rattle.world_core.specs.WorldState.{Action, State}
use Rattle.host_bytes.specs.Outcomes.{IsStopOf}
use Rattle.host_texts.specs.declared.specials.Specials.{Specials}
use Rattle.host_streams.specs.Given.{IsOutput}
use Rattle.host_streams.specs.declared.streams.Streams.{Streams}
use Rattle.host_worlds.specs.OutputCalls.{OutputGiven, PossibleOutcome, PutsFound, SomeFound, finding, left_by}
use Rattle.host_worlds.specs.Forms.{inner_with, shared_with}
use Rattle.host_streams.proofs.Given.{none_still}
use Rattle.host_streams.proofs.GivenTexts.{gives_still}
use Rattle.host_worlds.proofs.Steps.{Puts}

-- A line of print.
module _ (to : Destination) (values : List Value) (specials : Specials) (line : List ℕ) (is-line : (inner : Inner) → line ≡ printed (inner_with specials inner) (operands_of to values)) where
  abbrev of_line : Shared → Puts
  of_line shared = put_text to (file_name to values) line shared

  abbrev pub of_values : Shared → Puts
  of_values shared = print_row to values (shared_with specials shared)

  same_row : (shared shared' : Shared) → put_text to (file_name to values) line shared' ≡ put_text to (file_name to values) (printed (inner_with specials shared.inner) (operands_of to values)) shared'
  same_row shared shared' = ap (λ text. put_text to (file_name to values) text shared') (is-line shared.inner)

  some_line : (streams streams' : Streams) (answer : Result (Unit {0}) Fault) (added : List Action) → SomeFound of_line streams streams' answer added → SomeFound of_values streams streams' answer added
  some_line streams streams' answer added some = (
    some.0,
    λ later shared is. subst (λ (d : Puts). PutsFound d streams' answer added (left_by answer some.0 later))
        (same_row (finding (some.0 ++ later) shared) (finding (some.0 ++ later) (shared_with specials shared)))
        (some.1 later (shared_with specials shared) (record { readers = is.readers; writers = is.writers })),
  )

  could_line : (streams streams' : Streams) (r : Result (Unit {0}) Stop) (added : List Action) → PossibleOutcome of_line streams streams' r added → PossibleOutcome of_values streams streams' r added
  could_line streams streams' (Ok u) added some = some_line streams streams' (Ok tt) added some
  could_line streams streams' (Err (stop.Fault fault)) added some = some_line streams streams' (Err fault) added some
  could_line streams streams' (Err stop.NoMemory) added some = tt

  pub line_given : {W : Type 0} (tells : Type 0) (did : W → Call → W → Type 0) (old new : W) (streams streams' : Streams) (s t : State) (r : Result (Unit {0}) Stop)
      → OutputGiven tells did old new streams streams' s t r of_line → OutputGiven tells did old new streams streams' s t r of_values
  line_given tells did old new streams streams' s t r p = record {
    actions = p.actions;
    given = p.given;
    could = could_line streams streams' r p.actions p.could;
    told = λ w shared is. subst (λ (d : Puts). IsOutput p.actions d r) (same_row shared (shared_with specials shared))
        (p.told w (shared_with specials shared) (record { kept = is.kept; readers = is.readers; writers = is.writers; outside = is.outside }));
    outside = p.outside;
  }

-- A text of printf.

module _ (to : Destination) (values : List Value) (text : List ℕ) (is : formatted_values (operands_of to values) ≡ Ok text) where
  same_text_row : (shared : Shared) → put_text to (file_name to values) text shared ≡ printf_row to values shared
  same_text_row shared = ap (λ r. printf_by r to (file_name to values) shared) (sym is)

  pub text_given : {W : Type 0} (tells : Type 0) (did : W → Call → W → Type 0) (old new : W) (streams streams' : Streams) (s t : State) (r : Result (Unit {0}) Stop)
      → OutputGiven tells did old new streams streams' s t r (put_text to (file_name to values) text) → OutputGiven tells did old new streams streams' s t r (printf_row to values)
  text_given tells did old new streams streams' s t r p = subst (λ (f : Shared → Puts). OutputGiven tells did old new streams streams' s t r f) (λ i shared. same_text_row shared i) p

-- a fault of the format
could_refused : (to : Destination) (values : List Value) (streams : Streams) (why : Stop) → IsStopOf (formatted_values (operands_of to values)) why → PossibleOutcome (printf_row to values) streams streams (Err why) []
could_refused to values streams (stop.Fault fault) is = (
  [],
  λ later shared has. let there = finding later shared in record {
    answer_is = ap (λ r. (printf_by r to (file_name to values) there).answer) is;
    writers = ap (λ r. (printf_by r to (file_name to values) there).inner.writers) is ∙ has.writers;
    added_is = ap (λ r. (printf_by r to (file_name to values) there).added) is;
    finds = ap (λ r. (printf_by r to (file_name to values) there).inner.finds) is;
  },
)
could_refused to values streams stop.NoMemory is = tt

told_refused : (to : Destination) (values : List Value) (shared : Shared) (why : Stop) → IsStopOf (formatted_values (operands_of to values)) why → IsOutput {A = Unit {0}} [] (printf_row to values shared) (Err why)
told_refused to values shared (stop.Fault fault) is = sym (ap (λ r. (printf_by r to (file_name to values) shared).added) is)
told_refused to values shared stop.NoMemory is = (0, refl)

pub refused_given : {W : Type 0} (tells : Type 0) (did : W → Call → W → Type 0) (w : W) (to : Destination) (values : List Value) (streams : Streams) (state : State) (why : Stop) → IsStopOf (formatted_values (operands_of to values)) why
    → OutputGiven tells did w w streams streams state state (Err why) (printf_row to values)
refused_given tells did w to values streams state why is = record {
  actions = [];
  given = gives_still did w w streams.writers.items (none_still did w);
  could = could_refused to values streams why is;
  told = λ t shared has. told_refused to values shared why is;
  outside = λ t. refl;
}
