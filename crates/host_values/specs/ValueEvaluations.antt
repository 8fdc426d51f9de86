-- What the imports on values come to. They look at nothing else, and change no state.
use Rattle.std.specs.Prelude.{Bool, ℕ, List, ◌++◌, Result, Ok, Err}
use Rattle.awk_values.specs.Comparison.{comparison}
use Rattle.awk_values.specs.Operators.{Outcome, checked, power}
use Rattle.awk_values.specs.Values.{number_of_value, text_of_value, truth_of_value, truncated_of_value}
use Rattle.awk_values.specs.declared.fault.Fault.{Fault}
use Rattle.awk_values.specs.declared.value.Value.{Value as AnyValue}
use Rattle.awk_values.specs.declared.value.Value.TheVariants as value
use Rattle.sem_primitives.specs.ValueMeaning.{within_limit}
use Rattle.sem_primitives.specs.declared.sorts.Constant.TheVariants as constant
use Rattle.wasm_store.specs.declared.trap.TrapKind.{TrapKind}
use Rattle.wasm_store.specs.declared.word.Word.{Word}
use Rattle.host_step.specs.Arguments.{no_more, place_front}
use Rattle.host_step.specs.HostState.{HostState}
use Rattle.host_values.specs.Evaluations.{Evaluation, Values, constant_then, ends_then, front_then, handle_then, number_then, value_then}
use Rattle.host_values.specs.Fronts.{handle_front}
use Rattle.host_values.specs.declared.reply.Reply.{Reply}
use Rattle.host_values.specs.declared.reply.Reply.TheVariants as reply

abbrev pub outcome_reply : Outcome → Result Reply Fault
outcome_reply (Ok n) = Ok (reply.Number n)
outcome_reply (Err f) = Err f

-- a number, where it is in range
abbrev pub number_reply : Outcome → Result Reply Fault
number_reply (Ok z) = outcome_reply (checked z)
number_reply (Err f) = Err f

abbrev pub truth_reply : Result Bool Fault → Result Reply Fault
truth_reply (Ok b) = Ok (reply.Truth b)
truth_reply (Err f) = Err f

abbrev pub value_reply : Result AnyValue Fault → Result Reply Fault
value_reply (Ok v) = Ok (reply.Value v)
value_reply (Err f) = Err f

-- with these values left, an answer or a fault
abbrev pub replies : Result (Unit {0}) TrapKind → Values → HostState → Result Reply Fault → Evaluation
replies end left s r = ends_then end (Ok (left, (s, r)))

abbrev pub num_evaluation : Values → HostState → List Word → Evaluation
num_evaluation m s words = number_then words (λ n rest. replies (no_more rest) m s (Ok (reply.Value (value.Num n))))

abbrev pub lit_evaluation : List ℕ → Values → HostState → List Word → Evaluation
lit_evaluation memory m s words =
    front_then (place_front memory words) (λ text rest. replies (no_more rest) m s (Ok (reply.Value (value.Text text))))

abbrev pub uninit_evaluation : Values → HostState → List Word → Evaluation
uninit_evaluation m s words = replies (no_more words) m s (Ok (reply.Value value.Uninit))

abbrev pub dup_evaluation : Values → HostState → List Word → Evaluation
dup_evaluation m s words = handle_then (handle_front m words) (λ h v rest. replies (no_more rest) m s (Ok (reply.Value v)))

abbrev pub to_num_evaluation : Values → HostState → List Word → Evaluation
to_num_evaluation m s words = value_then m words (λ v left rest. replies (no_more rest) left s (number_reply (number_of_value v)))

abbrev pub int_of_evaluation : Values → HostState → List Word → Evaluation
int_of_evaluation m s words = value_then m words (λ v left rest. replies (no_more rest) left s (number_reply (truncated_of_value v)))

abbrev pub truth_evaluation : Values → HostState → List Word → Evaluation
truth_evaluation m s words = value_then m words (λ v left rest. replies (no_more rest) left s (Ok (reply.Truth (truth_of_value v))))

abbrev pub compare_evaluation : Values → HostState → List Word → Evaluation
compare_evaluation m s words =
    constant_then constant.Comparison words (λ op behind_op. value_then m behind_op
    (λ a without_a behind_a. value_then without_a behind_a (λ b left rest. replies (no_more rest) left s (truth_reply (comparison a b op)))))

abbrev pub concat_evaluation : Values → HostState → List Word → Evaluation
concat_evaluation m s words =
    value_then m words (λ a without_a behind_a. value_then without_a behind_a
    (λ b left rest. replies (no_more rest) left s (value_reply (within_limit (text_of_value a ++ text_of_value b)))))

abbrev pub pow_evaluation : Values → HostState → List Word → Evaluation
pow_evaluation m s words =
    number_then words (λ base behind_base. number_then behind_base
    (λ exponent rest. replies (no_more rest) m s (number_reply (power base exponent))))

abbrev pub fail_evaluation : Values → HostState → List Word → Evaluation
fail_evaluation m s words = constant_then constant.Fault words (λ fault rest. replies (no_more rest) m s (Err fault))
