-- What formatting the last values of the argument list comes to.
use Rattle.std.specs.Prelude.{◌≡◌, ◌&&◌, ℕ, nat_le, List, length, Result, Ok, Err}
use Rattle.awk_values.specs.declared.fault.Fault.{Fault}
use Rattle.sem_primitives.specs.InTurn.{listed_in_turn}
use Rattle.sem_primitives.specs.Rows.{sprintf_row}
use Rattle.sem_primitives.specs.declared.sorts.Constant.TheVariants as constant
use Rattle.sem_primitives.specs.declared.table.Listed.TheVariants.{Sprintf}
use Rattle.wasm_store.specs.declared.word.Word.{Word}
use Rattle.host_step.specs.Arguments.{no_more}
use Rattle.host_step.specs.HostState.{HostState}
use Rattle.host_step.specs.HostStep.{before_last_of, last_of, where_fit}
use Rattle.host_values.specs.Evaluations.{Evaluation, NoTrap, Values, constant_then, ends_then}
use Rattle.host_values.specs.Singles.{with_arguments}
use Rattle.host_step.specs.declared.refusal.Refusal.{Refusal}
use Rattle.host_step.specs.declared.refusal.Refusal.TheVariants as refusal
use Rattle.host_texts.specs.Evaluations.{replied}
use Rattle.host_values.specs.declared.reply.Reply.{Reply}
use Rattle.host_values.specs.declared.reply.Reply.TheVariants as reply

abbrev pub formatting : Values → HostState → List Word → Evaluation
formatting m s words =
    constant_then constant.Count words (λ n rest.
    ends_then (no_more rest) (where_fit (nat_le n (length s.arguments) && listed_in_turn Sprintf (last_of n s.arguments))
    (m, (with_arguments (before_last_of n s.arguments) s, replied reply.Value (sprintf_row (last_of n s.arguments))))))

-- so many values were taken, and this is what they come to
abbrev pub Formats : Values → HostState → Result (ℕ × Result Reply Fault) Refusal → Evaluation → Type 0
Formats m s (Ok x) wanted = wanted ≡ Ok (m, (with_arguments (before_last_of x.0 s.arguments) s, x.1))
Formats m s (Err (refusal.Trap k)) wanted = wanted ≡ Err k
Formats m s (Err (refusal.Fault f)) wanted = ⊥
Formats m s (Err refusal.NoMemory) wanted = NoTrap wanted
