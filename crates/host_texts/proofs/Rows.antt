-- Each import on texts comes to what its evaluation says.
use Rattle.std.proofs.Common.{◌≡◌, ℕ, Bool, true, false, List, [], ◌∷◌, Some, None, Result, Ok, Err, refl, subst}
use Rattle.std.specs.Prelude.{is_some}
use Rattle.awk_values.specs.declared.fault.Fault.{Fault}
use Rattle.awk_values.specs.Values.{text_of_value}
use Rattle.awk_values.specs.declared.value.Value.{Value as AnyValue}
use Rattle.sem_primitives.specs.Rows.{join_row, field_row, set_field_row, set_special_row, index_row, length_row, lower_row, matches_row, substituted_row, upper_row}
use Rattle.sem_primitives.specs.FieldMeaning.{done, field_number, with_field}
use Rattle.sem_primitives.specs.Numbers.{Number}
use Rattle.sem_primitives.specs.SharedState.{Inner, ◌>>=◌, settles, special_of}
use Rattle.sem_primitives.specs.Sorts.{InAnswer}
use Rattle.sem_primitives.specs.Table.{answer_of}
use Rattle.sem_primitives.specs.TextMeaning.{match_row, substitute_row}
use Rattle.sem_primitives.specs.declared.sorts.Answer.{Answer}
use Rattle.sem_primitives.specs.declared.sorts.Answer.TheVariants as answer
use Rattle.sem_primitives.specs.declared.sorts.Argument.TheVariants as argument
use Rattle.sem_primitives.specs.declared.sorts.Constant.TheVariants as constant
use Rattle.sem_primitives.specs.declared.sorts.Sort.TheVariants as sort
use Rattle.sem_primitives.specs.declared.table.Primitive.TheVariants as row
use Rattle.wasm_store.specs.declared.word.Word.{Word}
use Rattle.host_step.specs.Arguments.{and_then, constant_front, no_more, number_front}
use Rattle.host_step.specs.HostState.{HostState}
use Rattle.host_step.specs.HostStep.{primitive_acts, where_fit}
use Rattle.host_imports.specs.Imports.{spends}
use Rattle.host_imports.specs.declared.import.Import.TheVariants.{OfPrimitive}
use Rattle.host_bytes.specs.Parts.{part}
use Rattle.host_fields.specs.Calls.{field_set}
use Rattle.host_values.specs.Calls.{names_with}
use Rattle.host_values.specs.Evaluations.{Values, ends_then, number_then}
use Rattle.host_texts.specs.Evaluations.{done_reply, field_evaluation, get_special_evaluation, index_evaluation, join_evaluation, length_evaluation, lower_evaluation, match_evaluation, matches_evaluation, number_reply, replied, set_field_evaluation, set_special_evaluation, settled, sub_evaluation, sub_result_evaluation, substr_evaluation, substr_from_evaluation, text_reply, upper_evaluation}
use Rattle.host_values.specs.States.{with_inner}
use Rattle.host_values.specs.declared.reply.Reply.{Reply}
use Rattle.host_values.specs.declared.reply.Reply.TheVariants as reply
use Rattle.host_values.proofs.Matching.{Fits, Good, IsDone, Matches, SameAnswer, number, other, rest_of, stop, stop_at, taken}
use Rattle.host_values.proofs.ReservedHandle.{end, end_fitting, front, handle, reserved_removed}
use Rattle.host_values.proofs.Steps.{ComesTo}
use Rattle.host_values.specs.Fronts.{handle_front, plain_number}
use Rattle.std.specs.FinMap as map

pub fits_replied : (a : Answer) (f : InAnswer a → Reply) (r : Result (InAnswer a) Fault) → ((x : InAnswer a) → SameAnswer a x (f x)) → Fits a r (replied f r)
fits_replied a f (Ok x) same = same x
fits_replied a f (Err fault) same = refl

-- a primitive that answers with a state, or faults
settled_done : (a : Answer) (s : HostState) (f : InAnswer a → Reply) (r : Result (Inner × InAnswer a) Fault) → ((x : InAnswer a) → SameAnswer a x (f x))
    → IsDone a s (primitive_acts s.arguments true (settles s.shared r)) (settled s f r)
settled_done a s f (Ok x) same = record { added = refl; state = refl; fits = same x.1 }
settled_done a s f (Err fault) same = record { added = refl; state = refl; fits = refl }

done_after : (r : Result ℕ Fault) (f : ℕ → Result Inner Fault) → (r >>= λ k. done (f k)) ≡ done (r >>= f)
done_after (Ok k) f = refl
done_after (Err fault) f = refl

field_done : (s : HostState) (n : Number) (v : AnyValue)
    → IsDone answer.Done s (primitive_acts s.arguments true (settles s.shared (set_field_row n v s.shared.inner))) (settled s done_reply (done (field_set n.number v s.shared.inner)))
field_done s n v =
    subst (λ r. IsDone answer.Done s (primitive_acts s.arguments true (settles s.shared (set_field_row n v s.shared.inner))) (settled s done_reply r)) (done_after (field_number n.number) (λ k. with_field k v s.shared.inner))
    (settled_done answer.Done s done_reply (set_field_row n v s.shared.inner) (λ u. tt))

given_by : (s : HostState) (m : Values) (b : Bool)
    → Matches (answer.Of sort.Value) s (Good row.SubResult s)
    (and_then (where_fit b (primitive_acts {A = AnyValue} s.arguments false (record { added = []; inner = (substituted_row s.shared.inner).0; answer = (substituted_row s.shared.inner).1 }))) (λ d. Ok (names_with m s, d)))
    (where_fit b (m, (with_inner (substituted_row s.shared.inner).0 s, Ok (reply.Value (substituted_row s.shared.inner).1))))
given_by s m true = (refl, record { added = refl; state = refl; fits = refl })
given_by s m false = refl

pub get_special_comes : (s : HostState) (m : Values) (words : List Word) (memory : List ℕ) → ComesTo (OfPrimitive row.GetSpecial) m s words memory (get_special_evaluation m s words)
get_special_comes s m words memory = record {
  matches =
      other (answer_of row.GetSpecial) s (Good row.GetSpecial s) (constant_front constant.Special words) (rest_of row.GetSpecial memory s m []) _ _ (λ t rest.
      stop (answer_of row.GetSpecial) s (Good row.GetSpecial s) rest (names_with m s) _ m (s, Ok (reply.Value (special_of s.shared.inner t))) (refl, record { added = refl; state = refl; fits = refl }));
  keeps = λ free.
      front (constant_front constant.Special words) _ (λ t rest. end (no_more rest) m _ free);
}

pub set_special_comes : (s : HostState) (m : Values) (words : List Word) (memory : List ℕ) → ComesTo (OfPrimitive row.SetSpecial) m s words memory (set_special_evaluation m s words)
set_special_comes s m words memory = record {
  matches =
      other (answer_of row.SetSpecial) s (Good row.SetSpecial s) (constant_front constant.Special words) (rest_of row.SetSpecial memory s m (argument.Of sort.Value ∷ [])) _ _ (λ t behind.
      taken (answer_of row.SetSpecial) s (Good row.SetSpecial s) [] (spends (OfPrimitive row.SetSpecial)) memory refl m behind _ _ (λ v left rest.
      stop (answer_of row.SetSpecial) s (Good row.SetSpecial s) rest (names_with left s) _ left (settled s done_reply (set_special_row t v s.shared.inner)) (refl, settled_done answer.Done s done_reply (set_special_row t v s.shared.inner) (λ u. tt))));
  keeps = λ free.
      front (constant_front constant.Special words) _ (λ t behind. handle (handle_front m behind) _ (λ h v rest. end (no_more rest) (map.remove m h) _ (reserved_removed m h free)));
}

pub field_comes : (s : HostState) (m : Values) (words : List Word) (memory : List ℕ) → ComesTo (OfPrimitive row.Field) m s words memory (field_evaluation m s words)
field_comes s m words memory = record {
  matches =
      number (answer_of row.Field) s (Good row.Field s) (number_front words) (rest_of row.Field memory s m []) _ _ (λ n rest.
      stop (answer_of row.Field) s (Good row.Field s) rest (names_with m s) _ m (s, replied reply.Value (field_row n s.shared.inner)) (refl, record { added = refl; state = refl; fits = fits_replied (answer.Of sort.Value) reply.Value (field_row n s.shared.inner) (λ v. refl) }));
  keeps = λ free.
      front (plain_number (number_front words)) _ (λ n rest. end (no_more rest) m _ free);
}

pub set_field_comes : (s : HostState) (m : Values) (words : List Word) (memory : List ℕ) → ComesTo (OfPrimitive row.SetField) m s words memory (set_field_evaluation m s words)
set_field_comes s m words memory = record {
  matches =
      number (answer_of row.SetField) s (Good row.SetField s) (number_front words) (rest_of row.SetField memory s m (argument.Of sort.Value ∷ [])) _ _ (λ n behind.
      taken (answer_of row.SetField) s (Good row.SetField s) [] (spends (OfPrimitive row.SetField)) memory refl m behind _ _ (λ v left rest.
      stop (answer_of row.SetField) s (Good row.SetField s) rest (names_with left s) _ left (settled s done_reply (done (field_set n.number v s.shared.inner))) (refl, field_done s n v)));
  keeps = λ free.
      front (plain_number (number_front words)) _ (λ n behind. handle (handle_front m behind) _ (λ h v rest. end (no_more rest) (map.remove m h) _ (reserved_removed m h free)));
}

pub length_comes : (s : HostState) (m : Values) (words : List Word) (memory : List ℕ) → ComesTo (OfPrimitive row.Length) m s words memory (length_evaluation m s words)
length_comes s m words memory = record {
  matches =
      taken (answer_of row.Length) s (Good row.Length s) [] (spends (OfPrimitive row.Length)) memory refl m words _ _ (λ v left rest.
      stop (answer_of row.Length) s (Good row.Length s) rest (names_with left s) _ left (s, Ok (number_reply (length_row v))) (refl, record { added = refl; state = refl; fits = refl }));
  keeps = λ free.
      handle (handle_front m words) _ (λ h v rest. end (no_more rest) (map.remove m h) _ (reserved_removed m h free));
}

pub matches_comes : (s : HostState) (m : Values) (words : List Word) (memory : List ℕ) → ComesTo (OfPrimitive row.Matches) m s words memory (matches_evaluation m s words)
matches_comes s m words memory = record {
  matches =
      taken (answer_of row.Matches) s (Good row.Matches s) (argument.Of sort.Value ∷ []) (spends (OfPrimitive row.Matches)) memory refl m words _ _ (λ v without_v behind.
      taken (answer_of row.Matches) s (Good row.Matches s) [] (spends (OfPrimitive row.Matches)) memory refl without_v behind _ _ (λ ere left rest.
      stop (answer_of row.Matches) s (Good row.Matches s) rest (names_with left s) _ left (s, replied reply.Truth (matches_row v ere)) (refl, record { added = refl; state = refl; fits = fits_replied answer.Truth reply.Truth (matches_row v ere) (λ b. refl) })));
  keeps = λ free.
      handle (handle_front m words) _ (λ h v behind. handle (handle_front (map.remove m h) behind) _ (λ k w rest. end (no_more rest) (map.remove (map.remove m h) k) _ (reserved_removed (map.remove m h) k (reserved_removed m h free))));
}

pub match_comes : (s : HostState) (m : Values) (words : List Word) (memory : List ℕ) → ComesTo (OfPrimitive row.Match) m s words memory (match_evaluation m s words)
match_comes s m words memory = record {
  matches =
      taken (answer_of row.Match) s (Good row.Match s) (argument.Of sort.Value ∷ []) (spends (OfPrimitive row.Match)) memory refl m words _ _ (λ v without_v behind.
      taken (answer_of row.Match) s (Good row.Match s) [] (spends (OfPrimitive row.Match)) memory refl without_v behind _ _ (λ ere left rest.
      stop (answer_of row.Match) s (Good row.Match s) rest (names_with left s) _ left (settled s number_reply (match_row v ere s.shared.inner)) (refl, settled_done (answer.Of sort.Number) s number_reply (match_row v ere s.shared.inner) (λ n. refl))));
  keeps = λ free.
      handle (handle_front m words) _ (λ h v behind. handle (handle_front (map.remove m h) behind) _ (λ k w rest. end (no_more rest) (map.remove (map.remove m h) k) _ (reserved_removed (map.remove m h) k (reserved_removed m h free))));
}

pub sub_comes : (s : HostState) (m : Values) (words : List Word) (memory : List ℕ) → ComesTo (OfPrimitive row.Sub) m s words memory (sub_evaluation m s words)
sub_comes s m words memory = record {
  matches =
      taken (answer_of row.Sub) s (Good row.Sub s) (argument.Of sort.Value ∷ argument.Of sort.Value ∷ argument.Constant constant.Flag ∷ []) (spends (OfPrimitive row.Sub)) memory refl m words _ _ (λ ere without_ere behind_ere.
      taken (answer_of row.Sub) s (Good row.Sub s) (argument.Of sort.Value ∷ argument.Constant constant.Flag ∷ []) (spends (OfPrimitive row.Sub)) memory refl without_ere behind_ere _ _ (λ by without_by behind_by.
      taken (answer_of row.Sub) s (Good row.Sub s) (argument.Constant constant.Flag ∷ []) (spends (OfPrimitive row.Sub)) memory refl without_by behind_by _ _ (λ target left behind.
      other (answer_of row.Sub) s (Good row.Sub s) (constant_front constant.Flag behind) (rest_of row.Sub memory s left []) _ _ (λ all rest.
      stop (answer_of row.Sub) s (Good row.Sub s) rest (names_with left s) _ left (settled s number_reply (substitute_row ere by target all s.shared.inner)) (refl, settled_done (answer.Of sort.Number) s number_reply (substitute_row ere by target all s.shared.inner) (λ n. refl))))));
  keeps = λ free.
      handle (handle_front m words) _ (λ h v behind_h.
      handle (handle_front (map.remove m h) behind_h) _ (λ k w behind_k.
      handle (handle_front (map.remove (map.remove m h) k) behind_k) _ (λ l x behind.
      front (constant_front constant.Flag behind) _ (λ all rest.
      end (no_more rest) (map.remove (map.remove (map.remove m h) k) l) _ (reserved_removed (map.remove (map.remove m h) k) l (reserved_removed (map.remove m h) k (reserved_removed m h free)))))));
}

pub sub_result_comes : (s : HostState) (m : Values) (words : List Word) (memory : List ℕ) → ComesTo (OfPrimitive row.SubResult) m s words memory (sub_result_evaluation m s words)
sub_result_comes s m words memory = record {
  matches =
      stop_at (answer_of row.SubResult) s (Good row.SubResult s) words (names_with m s) _ _ (given_by s m (is_some s.shared.inner.substituted));
  keeps = λ free.
      end_fitting (no_more words) (is_some s.shared.inner.substituted) m _ free;
}

pub substr_comes : (s : HostState) (m : Values) (words : List Word) (memory : List ℕ) → ComesTo (OfPrimitive row.Substr) m s words memory (substr_evaluation m s words)
substr_comes s m words memory = record {
  matches =
      taken (answer_of row.Substr) s (Good row.Substr s) (argument.Of sort.Number ∷ argument.Of sort.Number ∷ []) (spends (OfPrimitive row.Substr)) memory refl m words _ _ (λ v left behind.
      number (answer_of row.Substr) s (Good row.Substr s) (number_front behind) (rest_of row.Substr memory s left (argument.Of sort.Number ∷ [])) _
      (λ from behind_from. number_then behind_from (λ count rest. ends_then (no_more rest) (Ok (left, (s, text_reply (part (text_of_value v) from (Some count)))))))
      (λ from behind_from.
      number (answer_of row.Substr) s (Good row.Substr s) (number_front behind_from) (rest_of row.Substr memory s left []) _ _ (λ count rest.
      stop (answer_of row.Substr) s (Good row.Substr s) rest (names_with left s) _ left (s, text_reply (part (text_of_value v) from.number (Some count.number))) (refl, record { added = refl; state = refl; fits = refl }))));
  keeps = λ free.
      handle (handle_front m words) _ (λ h v behind.
      front (plain_number (number_front behind)) _ (λ from behind_from. front (plain_number (number_front behind_from)) _ (λ count rest.
      end (no_more rest) (map.remove m h) _ (reserved_removed m h free))));
}

pub substr_from_comes : (s : HostState) (m : Values) (words : List Word) (memory : List ℕ) → ComesTo (OfPrimitive row.SubstrFrom) m s words memory (substr_from_evaluation m s words)
substr_from_comes s m words memory = record {
  matches =
      taken (answer_of row.SubstrFrom) s (Good row.SubstrFrom s) (argument.Of sort.Number ∷ []) (spends (OfPrimitive row.SubstrFrom)) memory refl m words _ _ (λ v left behind.
      number (answer_of row.SubstrFrom) s (Good row.SubstrFrom s) (number_front behind) (rest_of row.SubstrFrom memory s left []) _ _ (λ from rest.
      stop (answer_of row.SubstrFrom) s (Good row.SubstrFrom s) rest (names_with left s) _ left (s, text_reply (part (text_of_value v) from.number None)) (refl, record { added = refl; state = refl; fits = refl })));
  keeps = λ free.
      handle (handle_front m words) _ (λ h v behind. front (plain_number (number_front behind)) _ (λ from rest. end (no_more rest) (map.remove m h) _ (reserved_removed m h free)));
}

pub index_comes : (s : HostState) (m : Values) (words : List Word) (memory : List ℕ) → ComesTo (OfPrimitive row.Index) m s words memory (index_evaluation m s words)
index_comes s m words memory = record {
  matches =
      taken (answer_of row.Index) s (Good row.Index s) (argument.Of sort.Value ∷ []) (spends (OfPrimitive row.Index)) memory refl m words _ _ (λ v without_v behind.
      taken (answer_of row.Index) s (Good row.Index s) [] (spends (OfPrimitive row.Index)) memory refl without_v behind _ _ (λ wanted left rest.
      stop (answer_of row.Index) s (Good row.Index s) rest (names_with left s) _ left (s, Ok (number_reply (index_row v wanted))) (refl, record { added = refl; state = refl; fits = refl })));
  keeps = λ free.
      handle (handle_front m words) _ (λ h v behind. handle (handle_front (map.remove m h) behind) _ (λ k w rest. end (no_more rest) (map.remove (map.remove m h) k) _ (reserved_removed (map.remove m h) k (reserved_removed m h free))));
}

pub lower_comes : (s : HostState) (m : Values) (words : List Word) (memory : List ℕ) → ComesTo (OfPrimitive row.Lower) m s words memory (lower_evaluation m s words)
lower_comes s m words memory = record {
  matches =
      taken (answer_of row.Lower) s (Good row.Lower s) [] (spends (OfPrimitive row.Lower)) memory refl m words _ _ (λ v left rest.
      stop (answer_of row.Lower) s (Good row.Lower s) rest (names_with left s) _ left (s, Ok (reply.Value (lower_row v))) (refl, record { added = refl; state = refl; fits = refl }));
  keeps = λ free.
      handle (handle_front m words) _ (λ h v rest. end (no_more rest) (map.remove m h) _ (reserved_removed m h free));
}

pub upper_comes : (s : HostState) (m : Values) (words : List Word) (memory : List ℕ) → ComesTo (OfPrimitive row.Upper) m s words memory (upper_evaluation m s words)
upper_comes s m words memory = record {
  matches =
      taken (answer_of row.Upper) s (Good row.Upper s) [] (spends (OfPrimitive row.Upper)) memory refl m words _ _ (λ v left rest.
      stop (answer_of row.Upper) s (Good row.Upper s) rest (names_with left s) _ left (s, Ok (reply.Value (upper_row v))) (refl, record { added = refl; state = refl; fits = refl }));
  keeps = λ free.
      handle (handle_front m words) _ (λ h v rest. end (no_more rest) (map.remove m h) _ (reserved_removed m h free));
}

pub join_comes : (s : HostState) (m : Values) (words : List Word) (memory : List ℕ) → ComesTo (OfPrimitive row.Join) m s words memory (join_evaluation m s words)
join_comes s m words memory = record {
  matches =
      taken (answer_of row.Join) s (Good row.Join s) (argument.Of sort.Value ∷ []) (spends (OfPrimitive row.Join)) memory refl m words _ _ (λ v without_v behind.
      taken (answer_of row.Join) s (Good row.Join s) [] (spends (OfPrimitive row.Join)) memory refl without_v behind _ _ (λ w left rest.
      stop (answer_of row.Join) s (Good row.Join s) rest (names_with left s) _ left (s, replied reply.Value (join_row v w s.shared.inner)) (refl, record { added = refl; state = refl; fits = fits_replied (answer.Of sort.Value) reply.Value (join_row v w s.shared.inner) (λ x. refl) })));
  keeps = λ free.
      handle (handle_front m words) _ (λ h v behind. handle (handle_front (map.remove m h) behind) _ (λ k w rest. end (no_more rest) (map.remove (map.remove m h) k) _ (reserved_removed (map.remove m h) k (reserved_removed m h free))));
}
