-- Each import on values comes to what its evaluation says.
use Rattle.std.proofs.Common.{ℕ, List, [], ◌∷◌, ◌++◌, Ok, Err, refl}
use Rattle.std.specs.FinMap as map
use Rattle.awk_values.specs.Comparison.{comparison}
use Rattle.awk_values.specs.Operators.{power}
use Rattle.awk_values.specs.Values.{number_of_value, text_of_value, truth_of_value, truncated_of_value}
use Rattle.awk_values.specs.declared.value.Value.TheVariants as value
use Rattle.sem_primitives.specs.Table.{answer_of}
use Rattle.sem_primitives.specs.ValueMeaning.{within_limit}
use Rattle.sem_primitives.specs.declared.sorts.Argument.TheVariants as argument
use Rattle.sem_primitives.specs.declared.sorts.Constant.TheVariants as constant
use Rattle.sem_primitives.specs.declared.sorts.Sort.TheVariants as sort
use Rattle.sem_primitives.specs.declared.table.Primitive.TheVariants as row
use Rattle.wasm_store.specs.declared.word.Word.{Word}
use Rattle.host_step.specs.Arguments.{constant_front, no_more, number_front, place_front}
use Rattle.host_step.specs.HostState.{HostState}
use Rattle.host_imports.specs.Imports.{spends}
use Rattle.host_imports.specs.declared.import.Import.TheVariants.{OfPrimitive}
use Rattle.host_values.specs.Calls.{names_with}
use Rattle.host_values.specs.Evaluations.{Values, number_then}
use Rattle.host_values.specs.Fronts.{handle_front, plain_number}
use Rattle.host_values.specs.ValueEvaluations.{compare_evaluation, concat_evaluation, dup_evaluation, fail_evaluation, int_of_evaluation, lit_evaluation, num_evaluation, number_reply, pow_evaluation, replies, to_num_evaluation, truth_evaluation, truth_reply, uninit_evaluation, value_reply}
use Rattle.host_values.specs.declared.reply.Reply.TheVariants as reply
use Rattle.host_values.proofs.Matching.{Good, fits_number, fits_truth, fits_value, looked, number, other, rest_of, stop, taken}
use Rattle.host_values.proofs.ReservedHandle.{end, front, handle, reserved_removed}
use Rattle.host_values.proofs.Steps.{ComesTo}

pub num_comes : (s : HostState) (m : Values) (words : List Word) (memory : List ℕ) → ComesTo (OfPrimitive row.Num) m s words memory (num_evaluation m s words)
num_comes s m words memory = record {
  matches =
      number (answer_of row.Num) s (Good row.Num s) (number_front words) (rest_of row.Num memory s m []) _ _ (λ n rest.
      stop (answer_of row.Num) s (Good row.Num s) rest (names_with m s) _ m (s, Ok (reply.Value (value.Num n.number))) (refl, record { added = refl; state = refl; fits = refl }));
  keeps = λ free. front (plain_number (number_front words)) _ (λ n rest. end (no_more rest) m _ free);
}

pub lit_comes : (s : HostState) (m : Values) (words : List Word) (memory : List ℕ) → ComesTo (OfPrimitive row.Lit) m s words memory (lit_evaluation memory m s words)
lit_comes s m words memory = record {
  matches =
      other (answer_of row.Lit) s (Good row.Lit s) (place_front memory words) (rest_of row.Lit memory s m []) _ _ (λ text rest.
      stop (answer_of row.Lit) s (Good row.Lit s) rest (names_with m s) _ m (s, Ok (reply.Value (value.Text text))) (refl, record { added = refl; state = refl; fits = refl }));
  keeps = λ free. front (place_front memory words) _ (λ text rest. end (no_more rest) m _ free);
}

pub uninit_comes : (s : HostState) (m : Values) (words : List Word) (memory : List ℕ) → ComesTo (OfPrimitive row.Uninit) m s words memory (uninit_evaluation m s words)
uninit_comes s m words memory = record {
  matches =
      stop (answer_of row.Uninit) s (Good row.Uninit s) words (names_with m s) _ m (s, Ok (reply.Value value.Uninit)) (refl, record { added = refl; state = refl; fits = refl });
  keeps = λ free. end (no_more words) m _ free;
}

pub dup_comes : (s : HostState) (m : Values) (words : List Word) (memory : List ℕ) → ComesTo (OfPrimitive row.Dup) m s words memory (dup_evaluation m s words)
dup_comes s m words memory = record {
  matches =
      looked (answer_of row.Dup) s (Good row.Dup s) [] (spends (OfPrimitive row.Dup)) memory refl m words _ _ (λ h v rest.
      stop (answer_of row.Dup) s (Good row.Dup s) rest (names_with m s) _ m (s, Ok (reply.Value v)) (refl, record { added = refl; state = refl; fits = refl }));
  keeps = λ free. handle (handle_front m words) _ (λ h v rest. end (no_more rest) m _ free);
}

pub to_num_comes : (s : HostState) (m : Values) (words : List Word) (memory : List ℕ) → ComesTo (OfPrimitive row.ToNum) m s words memory (to_num_evaluation m s words)
to_num_comes s m words memory = record {
  matches =
      taken (answer_of row.ToNum) s (Good row.ToNum s) [] (spends (OfPrimitive row.ToNum)) memory refl m words _ _ (λ v left rest.
      stop (answer_of row.ToNum) s (Good row.ToNum s) rest (names_with left s) _ left (s, number_reply (number_of_value v)) (refl, record { added = refl; state = refl; fits = fits_number (number_of_value v) }));
  keeps = λ free. handle (handle_front m words) _ (λ h v rest. end (no_more rest) (map.remove m h) _ (reserved_removed m h free));
}

pub int_of_comes : (s : HostState) (m : Values) (words : List Word) (memory : List ℕ) → ComesTo (OfPrimitive row.IntOf) m s words memory (int_of_evaluation m s words)
int_of_comes s m words memory = record {
  matches =
      taken (answer_of row.IntOf) s (Good row.IntOf s) [] (spends (OfPrimitive row.IntOf)) memory refl m words _ _ (λ v left rest.
      stop (answer_of row.IntOf) s (Good row.IntOf s) rest (names_with left s) _ left (s, number_reply (truncated_of_value v)) (refl, record { added = refl; state = refl; fits = fits_number (truncated_of_value v) }));
  keeps = λ free. handle (handle_front m words) _ (λ h v rest. end (no_more rest) (map.remove m h) _ (reserved_removed m h free));
}

pub truth_comes : (s : HostState) (m : Values) (words : List Word) (memory : List ℕ) → ComesTo (OfPrimitive row.Truth) m s words memory (truth_evaluation m s words)
truth_comes s m words memory = record {
  matches =
      taken (answer_of row.Truth) s (Good row.Truth s) [] (spends (OfPrimitive row.Truth)) memory refl m words _ _ (λ v left rest.
      stop (answer_of row.Truth) s (Good row.Truth s) rest (names_with left s) _ left (s, Ok (reply.Truth (truth_of_value v))) (refl, record { added = refl; state = refl; fits = refl }));
  keeps = λ free. handle (handle_front m words) _ (λ h v rest. end (no_more rest) (map.remove m h) _ (reserved_removed m h free));
}

pub compare_comes : (s : HostState) (m : Values) (words : List Word) (memory : List ℕ) → ComesTo (OfPrimitive row.Compare) m s words memory (compare_evaluation m s words)
compare_comes s m words memory = record {
  matches =
      other (answer_of row.Compare) s (Good row.Compare s) (constant_front constant.Comparison words) (rest_of row.Compare memory s m (argument.Of sort.Value ∷ argument.Of sort.Value ∷ [])) _ _ (λ op behind_op.
      taken (answer_of row.Compare) s (Good row.Compare s) (argument.Of sort.Value ∷ []) (spends (OfPrimitive row.Compare)) memory refl m behind_op _ _ (λ v without_v behind_v.
      taken (answer_of row.Compare) s (Good row.Compare s) [] (spends (OfPrimitive row.Compare)) memory refl without_v behind_v _ _ (λ w left rest.
      stop (answer_of row.Compare) s (Good row.Compare s) rest (names_with left s) _ left (s, truth_reply (comparison v w op)) (refl, record { added = refl; state = refl; fits = fits_truth (comparison v w op) }))));
  keeps = λ free. front (constant_front constant.Comparison words) _ (λ op behind_op.
      handle (handle_front m behind_op) _ (λ h v behind. handle (handle_front (map.remove m h) behind) _ (λ k w rest.
      end (no_more rest) (map.remove (map.remove m h) k) _ (reserved_removed (map.remove m h) k (reserved_removed m h free)))));
}

pub concat_comes : (s : HostState) (m : Values) (words : List Word) (memory : List ℕ) → ComesTo (OfPrimitive row.Concat) m s words memory (concat_evaluation m s words)
concat_comes s m words memory = record {
  matches =
      taken (answer_of row.Concat) s (Good row.Concat s) (argument.Of sort.Value ∷ []) (spends (OfPrimitive row.Concat)) memory refl m words _ _ (λ v without_v behind_v.
      taken (answer_of row.Concat) s (Good row.Concat s) [] (spends (OfPrimitive row.Concat)) memory refl without_v behind_v _ _ (λ w left rest.
      stop (answer_of row.Concat) s (Good row.Concat s) rest (names_with left s) _ left (s, value_reply (within_limit (text_of_value v ++ text_of_value w))) (refl, record { added = refl; state = refl; fits = fits_value (within_limit (text_of_value v ++ text_of_value w)) })));
  keeps = λ free. handle (handle_front m words) _ (λ h v behind. handle (handle_front (map.remove m h) behind) _ (λ k w rest.
      end (no_more rest) (map.remove (map.remove m h) k) _ (reserved_removed (map.remove m h) k (reserved_removed m h free))));
}

pub pow_comes : (s : HostState) (m : Values) (words : List Word) (memory : List ℕ) → ComesTo (OfPrimitive row.Pow) m s words memory (pow_evaluation m s words)
pow_comes s m words memory = record {
  matches =
      number (answer_of row.Pow) s (Good row.Pow s) (number_front words) (rest_of row.Pow memory s m (argument.Of sort.Number ∷ [])) _
      (λ base behind. number_then behind (λ exponent rest. replies (no_more rest) m s (number_reply (power base exponent)))) (λ b behind_b.
      number (answer_of row.Pow) s (Good row.Pow s) (number_front behind_b) (rest_of row.Pow memory s m []) _ _ (λ e rest.
      stop (answer_of row.Pow) s (Good row.Pow s) rest (names_with m s) _ m (s, number_reply (power b.number e.number)) (refl, record { added = refl; state = refl; fits = fits_number (power b.number e.number) })));
  keeps = λ free. front (plain_number (number_front words)) _ (λ b behind_b. front (plain_number (number_front behind_b)) _ (λ e rest. end (no_more rest) m _ free));
}

pub fail_comes : (s : HostState) (m : Values) (words : List Word) (memory : List ℕ) → ComesTo (OfPrimitive row.Fail) m s words memory (fail_evaluation m s words)
fail_comes s m words memory = record {
  matches =
      other (answer_of row.Fail) s (Good row.Fail s) (constant_front constant.Fault words) (rest_of row.Fail memory s m []) _ _ (λ f rest.
      stop (answer_of row.Fail) s (Good row.Fail s) rest (names_with m s) _ m (s, Err f) (refl, record { added = refl; state = refl; fits = refl }));
  keeps = λ free. front (constant_front constant.Fault words) _ (λ f rest. end (no_more rest) m _ free);
}
