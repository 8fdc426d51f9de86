-- What these imports come to, over the host's map of values and its state.
use Rattle.std.specs.Prelude.{ℕ, List, Some, None, Result, Ok, Err, is_some}
use Rattle.awk_values.specs.declared.fault.Fault.{Fault}
use Rattle.awk_values.specs.Values.{text_of_value}
use Rattle.awk_values.specs.declared.value.Value.TheVariants as value
use Rattle.sem_primitives.specs.Rows.{join_row, set_special_row, index_row, length_row, lower_row, matches_row, substituted_row, upper_row}
use Rattle.sem_primitives.specs.FieldMeaning.{done}
use Rattle.sem_primitives.specs.Numbers.{Number}
use Rattle.sem_primitives.specs.SharedState.{Inner, special_of}
use Rattle.sem_primitives.specs.TextMeaning.{match_row, substitute_row}
use Rattle.sem_primitives.specs.declared.sorts.Constant.TheVariants as constant
use Rattle.wasm_store.specs.declared.word.Word.{Word}
use Rattle.host_step.specs.Arguments.{no_more}
use Rattle.host_step.specs.HostState.{HostState}
use Rattle.host_step.specs.HostStep.{where_fit}
use Rattle.host_bytes.specs.Parts.{part}
use Rattle.host_fields.specs.Calls.{field_read, field_set}
use Rattle.host_values.specs.Evaluations.{Evaluation, Outcome, Values, constant_then, ends_then, number_then, value_then}
use Rattle.host_values.specs.States.{with_inner}
use Rattle.host_values.specs.declared.reply.Reply.{Reply}
use Rattle.host_values.specs.declared.reply.Reply.TheVariants as reply

abbrev pub replied : {A : Type 0} → (A → Reply) → Result A Fault → Result Reply Fault
replied f (Ok x) = Ok (f x)
replied f (Err fault) = Err fault

-- a primitive that answers with a state, or faults and changes nothing
abbrev pub settled : {A : Type 0} → HostState → (A → Reply) → Result (Inner × A) Fault → Outcome
settled s f (Ok x) = (with_inner x.0 s, Ok (f x.1))
settled s f (Err fault) = (s, Err fault)

abbrev pub number_reply : Number → Reply
number_reply n = reply.Number n.number

abbrev pub done_reply : Unit {0} → Reply
done_reply u = reply.Done

abbrev pub text_reply : List ℕ → Result Reply Fault
text_reply text = Ok (reply.Value (value.Text text))

abbrev pub get_special_evaluation : Values → HostState → List Word → Evaluation
get_special_evaluation m s words = constant_then constant.Special words (λ t rest. ends_then (no_more rest) (Ok (
  m,
  (s, Ok (reply.Value (special_of s.shared.inner t))),
)))

abbrev pub set_special_evaluation : Values → HostState → List Word → Evaluation
set_special_evaluation m s words =
    constant_then constant.Special words (λ t behind. value_then m behind (λ v left rest. ends_then (no_more rest) (Ok (
      left,
      settled s done_reply (set_special_row t v s.shared.inner),
    ))))

abbrev pub field_evaluation : Values → HostState → List Word → Evaluation
field_evaluation m s words = number_then words (λ n rest. ends_then (no_more rest) (Ok (m, (s, replied reply.Value (field_read n s.shared.inner)))))

abbrev pub set_field_evaluation : Values → HostState → List Word → Evaluation
set_field_evaluation m s words =
    number_then words (λ n behind. value_then m behind (λ v left rest. ends_then (no_more rest) (Ok (
      left,
      settled s done_reply (done (field_set n v s.shared.inner)),
    ))))

abbrev pub length_evaluation : Values → HostState → List Word → Evaluation
length_evaluation m s words = value_then m words (λ v left rest. ends_then (no_more rest) (Ok (left, (s, Ok (number_reply (length_row v))))))

abbrev pub matches_evaluation : Values → HostState → List Word → Evaluation
matches_evaluation m s words =
    value_then m words (λ v without_v behind. value_then without_v behind (λ ere left rest. ends_then (no_more rest) (Ok (
      left,
      (s, replied reply.Truth (matches_row v ere)),
    ))))

abbrev pub match_evaluation : Values → HostState → List Word → Evaluation
match_evaluation m s words =
    value_then m words (λ v without_v behind. value_then without_v behind (λ ere left rest. ends_then (no_more rest) (Ok (
      left,
      settled s number_reply (match_row v ere s.shared.inner),
    ))))

abbrev pub sub_evaluation : Values → HostState → List Word → Evaluation
sub_evaluation m s words =
    value_then m words (λ ere without_ere behind_ere.
    value_then without_ere behind_ere (λ by without_by behind_by.
    value_then without_by behind_by (λ target left behind.
    constant_then constant.Flag behind (λ all rest.
    ends_then (no_more rest) (Ok (left, settled s number_reply (substitute_row ere by target all s.shared.inner)))))))

abbrev pub sub_result_evaluation : Values → HostState → List Word → Evaluation
sub_result_evaluation m s words =
    ends_then (no_more words) (where_fit (is_some s.shared.inner.substituted) (
      m,
      (with_inner (substituted_row s.shared.inner).0 s, Ok (reply.Value (substituted_row s.shared.inner).1)),
    ))

abbrev pub substr_evaluation : Values → HostState → List Word → Evaluation
substr_evaluation m s words =
    value_then m words (λ v left behind. number_then behind
    (λ from behind_from. number_then behind_from (λ count rest. ends_then (no_more rest) (Ok (
      left,
      (s, text_reply (part (text_of_value v) from (Some count))),
    )))))

abbrev pub substr_from_evaluation : Values → HostState → List Word → Evaluation
substr_from_evaluation m s words =
    value_then m words (λ v left behind. number_then behind (λ from rest. ends_then (no_more rest) (Ok (
      left,
      (s, text_reply (part (text_of_value v) from None)),
    ))))

abbrev pub index_evaluation : Values → HostState → List Word → Evaluation
index_evaluation m s words =
    value_then m words (λ v without_v behind. value_then without_v behind (λ wanted left rest. ends_then (no_more rest) (Ok (
      left,
      (s, Ok (number_reply (index_row v wanted))),
    ))))

abbrev pub lower_evaluation : Values → HostState → List Word → Evaluation
lower_evaluation m s words = value_then m words (λ v left rest. ends_then (no_more rest) (Ok (left, (s, Ok (reply.Value (lower_row v))))))

abbrev pub upper_evaluation : Values → HostState → List Word → Evaluation
upper_evaluation m s words = value_then m words (λ v left rest. ends_then (no_more rest) (Ok (left, (s, Ok (reply.Value (upper_row v))))))

abbrev pub join_evaluation : Values → HostState → List Word → Evaluation
join_evaluation m s words =
    value_then m words (λ v without_v behind. value_then without_v behind (λ w left rest. ends_then (no_more rest) (Ok (
      left,
      (s, replied reply.Value (join_row v w s.shared.inner)),
    ))))
