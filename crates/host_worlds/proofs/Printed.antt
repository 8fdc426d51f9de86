-- Calls of print and printf on the host's tables.
use Rattle.std.proofs.Common.{◌≡◌, ℕ, List, [], Some, None, Result, Ok, Err, refl, sym, ap, subst}
use Rattle.awk_values.specs.declared.fault.Stop.{Stop}
use Rattle.awk_values.specs.declared.value.Value.{Value}
use Rattle.sem_primitives.specs.OutputMeaning.{file_name, formatted_values, operands_of, printed}
use Rattle.sem_primitives.specs.Rows.{print_row, printf_row}
use Rattle.sem_primitives.specs.SharedState.{Shared}
use Rattle.sem_primitives.specs.declared.constants.Destination.{Destination}
use Rattle.wasm_model.specs.declared.host.HostAnswer.TheVariants as told
use Rattle.wasm_store.specs.declared.trap.TrapKind.{TrapKind}
use Rattle.wasm_store.specs.declared.word.Word.{Word}
use Rattle.world_core.specs.WorldState.{Action, State, after}
use Rattle.host_step.specs.HostState.{HostState}
use Rattle.host_step.specs.HostStep.{StepOf, before_last_of, last_of}
use Rattle.host_step.specs.Worlds.{Called, with_output}
use Rattle.host_imports.specs.declared.import.Import.TheVariants.{Variadic}
use Rattle.host_imports.specs.declared.import.VariadicImport.TheVariants.{Print, Printf}
use Rattle.host_texts.specs.declared.specials.Specials.{Specials}
use Rattle.host_step.specs.declared.refusal.Refusal.TheVariants as why
use Rattle.host_values.specs.Forms.{HostForm, state_of}
use Rattle.host_streams.specs.OpenFiles.{names_of, readers_in}
use Rattle.host_streams.specs.Outputs.{IsOf, PutsIs}
use Rattle.host_streams.specs.Given.{IsOutput}
use Rattle.host_streams.specs.declared.streams.Streams.{Streams}
use Rattle.host_values.specs.Findings.{form_finding}
use Rattle.host_values.specs.WorldCalls.{IsCalled}
use Rattle.host_values.proofs.Found.{led_nothing}
use Rattle.host_worlds.specs.OutputCalls.{PossibleOutcome, answer_of, finding}
use Rattle.host_worlds.specs.Forms.{printing, shared_with, writing}
use Rattle.host_worlds.specs.Lists.{listed}
use Rattle.host_worlds.proofs.Puts.{printf_only, printf_same}
use Rattle.host_worlds.proofs.Steps.{print_step, print_trap, printf_step, printf_trap}
use Rattle.host_worlds.proofs.Tables.{could_at, puts_so}
use Rattle.host_worlds.proofs.Worlds.{sharing, trap_called}

module _ (tells : Type 0) (f : HostForm) (words : List Word) (memory : List ℕ) (none : f.fault ≡ None) (arguments : List Value) (streams : Streams) (state : State) where
  pub print_traps : (specials : Specials) (k : TrapKind) → listed 0 arguments words ≡ Err k
      → IsCalled tells (Variadic Print) (printing arguments specials streams state f) words memory (Err (why.Trap k)) (printing arguments specials streams state f) []
  print_traps specials k is = (
    λ s st. (
      s,
      st,
      subst (λ (t : HostState). Called tells (Some (Variadic Print)) t words memory (told.Trap k) t []) (sym st.state)
          (trap_called tells (Variadic Print) (state_of (printing arguments specials streams state f) st.past) words memory k
          (λ so_far. print_trap (with_output so_far (state_of (printing arguments specials streams state f) st.past)) words memory k none is)),
    ),
    led_nothing (Variadic Print) (printing arguments specials streams state f) (printing arguments specials streams state f) words memory (told.Trap k) (λ finds outside so_far s st. (
      s,
      st,
      subst (λ (t : HostState). StepOf (Variadic Print) t words memory (told.Trap k) t []) (sym st.state)
          (print_trap (state_of (form_finding finds outside so_far (printing arguments specials streams state f)) st.past) words memory k none is),
    )),
  )

  pub printf_traps : (k : TrapKind) → listed 1 arguments words ≡ Err k
      → IsCalled tells (Variadic Printf) (writing arguments streams state f) words memory (Err (why.Trap k)) (writing arguments streams state f) []
  printf_traps k is = (
    λ s st. (
      s,
      st,
      subst (λ (t : HostState). Called tells (Some (Variadic Printf)) t words memory (told.Trap k) t []) (sym st.state)
          (trap_called tells (Variadic Printf) (state_of (writing arguments streams state f) st.past) words memory k
          (λ so_far. printf_trap (with_output so_far (state_of (writing arguments streams state f) st.past)) words memory k none is)),
    ),
    led_nothing (Variadic Printf) (writing arguments streams state f) (writing arguments streams state f) words memory (told.Trap k) (λ finds outside so_far s st. (
      s,
      st,
      subst (λ (t : HostState). StepOf (Variadic Printf) t words memory (told.Trap k) t []) (sym st.state)
          (printf_trap (state_of (form_finding finds outside so_far (writing arguments streams state f)) st.past) words memory k none is),
    )),
  )

  module _ (n : ℕ × Destination) (streams' : Streams) (state' : State) (put : Result (Unit {0}) Stop) (actions : List Action)
      (kept : streams'.readers ≡ streams.readers) (readers : tells → readers_in streams'.readers.items state' ≡ readers_in streams.readers.items state)
      (outside : tells → state'.outside ≡ after actions state.outside) where
    abbrev values : List Value
    values = last_of n.0 arguments

    pub prints_so : (specials : Specials) → listed 0 arguments words ≡ Ok n
        → (tells → (shared : Shared) → IsOf streams state shared → PutsIs (print_row n.1 values (shared_with specials shared)) put state state' (names_of streams.writers.items) (names_of streams'.writers.items))
        → (tells → (shared : Shared) → IsOf streams state shared → IsOutput actions (print_row n.1 values (shared_with specials shared)) put)
        → PossibleOutcome (λ shared. print_row n.1 values (shared_with specials shared)) streams streams' put actions
        → IsCalled tells (Variadic Print) (printing arguments specials streams state f) words memory (answer_of put) (printing (before_last_of n.0 arguments) specials streams' state' f) actions
    prints_so specials is told_so out could =
        let before : HostForm = printing arguments specials streams state f in
        puts_so tells (Variadic Print) words memory refl (record f { shared = shared_with specials f.shared }) arguments (before_last_of n.0 arguments) streams streams' state state' (print_row n.1 values) actions
        (λ p shared. print_step (sharing (state_of before p) shared) words memory n none is)
        (λ shared output. printf_same (Ok (printed shared.inner (operands_of n.1 values))) n.1 (file_name n.1 values) shared output)
        (λ shared. printf_only (Ok (printed shared.inner (operands_of n.1 values))) n.1 (file_name n.1 values) shared)
        (λ shared. shared_with specials shared ≡ shared) (λ p. refl) (λ p finds there so_far. refl)
        kept readers put (λ t p. told_so t (state_of before p).shared (record { kept = refl; readers = refl; writers = refl; outside = refl }))
        (λ t p. out t (state_of before p).shared (record { kept = refl; readers = refl; writers = refl; outside = refl })) outside
        (could_at (λ shared. print_row n.1 values (shared_with specials shared)) (print_row n.1 values) (λ shared. shared_with specials shared ≡ shared) streams streams' actions
        (λ shared fit finds. ap (λ (x : Shared). print_row n.1 values (finding finds x)) fit) put could)

    pub formats_so : listed 1 arguments words ≡ Ok n
        → (tells → (shared : Shared) → IsOf streams state shared → PutsIs (printf_row n.1 values shared) put state state' (names_of streams.writers.items) (names_of streams'.writers.items))
        → (tells → (shared : Shared) → IsOf streams state shared → IsOutput actions (printf_row n.1 values shared) put)
        → PossibleOutcome (printf_row n.1 values) streams streams' put actions
        → IsCalled tells (Variadic Printf) (writing arguments streams state f) words memory (answer_of put) (writing (before_last_of n.0 arguments) streams' state' f) actions
    formats_so is told_so out could =
        let before : HostForm = writing arguments streams state f in
        puts_so tells (Variadic Printf) words memory refl f arguments (before_last_of n.0 arguments) streams streams' state state' (printf_row n.1 values) actions
        (λ p shared. printf_step (sharing (state_of before p) shared) words memory n none is)
        (λ shared output. printf_same (formatted_values (operands_of n.1 values)) n.1 (file_name n.1 values) shared output)
        (λ shared. printf_only (formatted_values (operands_of n.1 values)) n.1 (file_name n.1 values) shared)
        (λ shared. Unit {0}) (λ p. tt) (λ p finds there so_far. tt)
        kept readers put (λ t p. told_so t (state_of before p).shared (record { kept = refl; readers = refl; writers = refl; outside = refl }))
        (λ t p. out t (state_of before p).shared (record { kept = refl; readers = refl; writers = refl; outside = refl })) outside
        (could_at (printf_row n.1 values) (printf_row n.1 values) (λ shared. Unit {0}) streams streams' actions (λ shared fit finds. refl) put could)
