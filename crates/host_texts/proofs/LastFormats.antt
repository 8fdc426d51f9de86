-- Formatting the last values is a step.
use Rattle.std.proofs.Common.{◌≡◌, ◌-◌, ℕ, nat_le, Bool, true, false, List, [], length, take, None, Result, Ok, Err, refl, sym, ap, subst, ◌∙◌}
use Rattle.std.specs.Prelude.{◌&&◌}
use Rattle.std.specs.FinMap as map
use Rattle.awk_values.specs.declared.fault.Fault.{Fault}
use Rattle.awk_values.specs.declared.value.Value.{Value}
use Rattle.sem_primitives.specs.InTurn.{listed_in_turn}
use Rattle.sem_primitives.specs.Rows.{sprintf_row}
use Rattle.sem_primitives.specs.Table.{listed_meaning}
use Rattle.sem_primitives.specs.declared.sorts.Answer.{Answer}
use Rattle.sem_primitives.specs.declared.sorts.Answer.TheVariants as answer
use Rattle.sem_primitives.specs.declared.sorts.Constant.TheVariants as constant
use Rattle.sem_primitives.specs.declared.sorts.Sort.TheVariants as sort
use Rattle.sem_primitives.specs.declared.table.Listed.TheVariants as listed
use Rattle.wasm_store.specs.declared.word.Word.{Word}
use Rattle.host_step.specs.Arguments.{and_then, constant_front, decode, no_more}
use Rattle.host_step.specs.HostState.{HostState}
use Rattle.host_step.specs.HostStep.{before_last_of, carried, last_of, where_fit}
use Rattle.host_imports.specs.Imports.{spends}
use Rattle.host_imports.specs.declared.import.Import.TheVariants.{Variadic}
use Rattle.host_imports.specs.declared.import.VariadicImport.TheVariants.{Sprintf}
use Rattle.host_values.specs.Calls.{names_with, reserved_handle, with_values}
use Rattle.host_values.specs.Evaluations.{Evaluates, Evaluation, Values}
use Rattle.host_values.specs.Singles.{with_arguments}
use Rattle.host_step.specs.declared.refusal.Refusal.{Refusal}
use Rattle.host_step.specs.declared.refusal.Refusal.TheVariants as why
use Rattle.host_texts.specs.Evaluations.{replied}
use Rattle.host_texts.specs.LastFormatted.{Formats, formatting}
use Rattle.host_values.specs.declared.reply.Reply.{Reply}
use Rattle.host_values.specs.declared.reply.Reply.TheVariants as reply
use Rattle.host_values.proofs.Matching.{IsDone, Matches, other, stop_at}
use Rattle.host_texts.proofs.Rows.{fits_replied}
use Rattle.host_values.proofs.ReservedHandle.{KeepsFree, end_fitting, front}

abbrev text : Answer
text = answer.Of sort.Value

listed_by : (s : HostState) (m : Values) (n : ℕ) (b : Bool)
    → Matches text s (IsDone text s)
    (and_then (where_fit b (record { does = listed_meaning listed.Sprintf (last_of n s.arguments) s.shared; arguments = before_last_of n s.arguments })) (λ d. Ok (names_with m s, d)))
    (where_fit b (m, (with_arguments (before_last_of n s.arguments) s, replied reply.Value (sprintf_row (last_of n s.arguments)))))
listed_by s m n true = (refl, record { added = refl; state = refl; fits = fits_replied text reply.Value (sprintf_row (last_of n s.arguments)) (λ v. refl) })
listed_by s m n false = refl

pub matching_last : (s : HostState) (m : Values) (words : List Word) (memory : List ℕ)
    → Matches text s (IsDone text s) (carried (Variadic Sprintf) words memory (with_values m s)) (formatting m s words)
matching_last s m words memory =
    other text s (IsDone text s) (constant_front constant.Count words) (λ rest. decode (spends (Variadic Sprintf)) memory (names_with m s) [] rest) _ _ (λ n rest.
    stop_at text s (IsDone text s) rest (names_with m s) _ _ (listed_by s m n (nat_le n (length s.arguments) && listed_in_turn listed.Sprintf (last_of n s.arguments))))

pub matched_last : (s : HostState) (m : Values) (words : List Word) (memory : List ℕ) (e : Evaluation) → formatting m s words ≡ e
    → Matches text s (IsDone text s) (carried (Variadic Sprintf) words memory (with_values m s)) e
matched_last s m words memory e is =
    subst (Matches text s (IsDone text s) (carried (Variadic Sprintf) words memory (with_values m s))) is (matching_last s m words memory)

pub reserved_last : (m : Values) (s : HostState) (words : List Word) → map.get m reserved_handle ≡ None → KeepsFree (formatting m s words)
reserved_last m s words free =
    front (constant_front constant.Count words) _ (λ n rest.
    end_fitting (no_more rest) (nat_le n (length s.arguments) && listed_in_turn listed.Sprintf (last_of n s.arguments)) m _ free)

pub refused_last : (m : Values) (s : HostState) (r : Refusal) (e : Evaluation) → Formats m s (Err r) e → Evaluates m s (Err r) s e
refused_last m s (why.Trap k) e is = (is, refl)
refused_last m s (why.Fault f) e is = is
refused_last m s why.NoMemory e is = is

-- what the list is after so many of its values are taken
pub taken_last : (m : Values) (s : HostState) (slice old new : List Value) (size : ℕ) (x : ℕ × Result Reply Fault) (o : Result Reply Fault) (words : List Word)
    → slice ≡ old → size ≡ length old → new ≡ take (size - x.0) old → x.1 ≡ o → Formats m (with_arguments slice s) (Ok x) (formatting m (with_arguments slice s) words)
    → formatting m (with_arguments old s) words ≡ Ok (m, (with_arguments new s, o))
taken_last m s slice old new size x o words same all left is f =
    subst (λ xs. Formats m (with_arguments xs s) (Ok x) (formatting m (with_arguments xs s) words)) same f
    ∙ ap (λ xs. Ok (m, (with_arguments xs s, x.1))) (ap (λ k. take (k - x.0) old) (sym all) ∙ sym left) ∙ ap (λ p. Ok (m, (with_arguments new s, p))) is
