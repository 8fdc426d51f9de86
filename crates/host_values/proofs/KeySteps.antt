-- Calls on iterators, and those that let go, are steps.
use Rattle.std.proofs.Common.{◌≡◌, ◌≢◌, ◌<◌, ◌^◌, ℕ, zero, suc, ℤ, pos, get_or, Bool, true, false, cond, List, [], ◌∷◌, ◌++◌, length, Option, Some, None, is_some, Ok, Err, refl, sym, ap, ◌∙◌, arith, nat_le}
use Rattle.std.specs.Prelude.{slice_set, ◌&&◌}
use Rattle.std.specs.Ordering.{int_eq}
use Rattle.std.specs.Cmp.{signed_Decides}
use Rattle.std.specs.FinMap as map
use Rattle.std.specs.Map.{keys_of}
use Rattle.std.proofs.lemmas.Bool.{le-leb}
use Rattle.std.proofs.lemmas.Option.{get_or_from_slice_get}
use Rattle.awk_values.specs.declared.fault.Fault.{Fault}
use Rattle.awk_values.specs.declared.value.Value.{Value}
use Rattle.awk_values.specs.declared.value.Value.TheVariants.{Text}
use Rattle.sem_primitives.specs.ArrayMeaning.{keys, visited}
use Rattle.sem_primitives.specs.SharedState.{Inner}
use Rattle.sem_primitives.specs.declared.table.Primitive.TheVariants as row
use Rattle.wasm_model.specs.declared.host.HostAnswer.TheVariants as told
use Rattle.wasm_store.specs.declared.trap.TrapKind.{TrapKind}
use Rattle.wasm_store.specs.declared.trap.TrapKind.TheVariants.{BadArgument}
use Rattle.wasm_store.specs.declared.word.Word.{Word}
use Rattle.wasm_store.specs.declared.word.Word.TheVariants.{I32}
use Rattle.host_imports.specs.Codes.{end_word}
use Rattle.host_step.specs.Arguments.{and_then}
use Rattle.host_step.specs.HostStep.{only_answers, where_fit}
use Rattle.host_imports.specs.Imports.{spends}
use Rattle.host_step.specs.Tables.{Table}
use Rattle.host_imports.specs.declared.import.Import.TheVariants.{OfPrimitive, IterFree, FreeArray}
use Rattle.host_values.specs.Evaluations.{Values}
use Rattle.host_step.specs.declared.refusal.Refusal.TheVariants as why
use Rattle.host_values.proofs.Entries.{entries_insert, look_entries}
use Rattle.host_arrays.specs.Pairs.{pairs_at}
use Rattle.host_values.specs.ElementCalls.{IsTableCall, with_arrays, with_both, with_iterators}
use Rattle.host_values.specs.Forms.{HostForm, Keys, Past, inner_of, state_of}
use Rattle.host_values.specs.Reads.{only_number}
use Rattle.host_values.specs.Turns.{keys_at, keys_or_none}
use Rattle.host_values.proofs.ArraySteps.{array_is, carry, inner_at}
use Rattle.host_values.proofs.Elements.{at_place}
use Rattle.host_values.proofs.Places.{HasPlace, a_place, added, changed, no_place, removed, removed_at}
use Rattle.host_values.proofs.Reading.{array_alone, freed_alone, freed_row, iterator_alone, number_row, place_at}
use Rattle.host_values.proofs.ElementSteps.{GoesOn, IsPast, acts_of, goes, state_with, trapped, unrefused}

pub iter_goes : (f : HostForm) (p : Past) (words : List Word) (memory : List ℕ) (a : ℤ) (q : ℕ) → f.fault ≡ None → only_number f.arrays words ≡ Ok a
    → map.contains_key f.arrays a ≡ true → q < 2 ^ 31 → map.get f.iterators (pos q) ≡ None → IsPast f p
    → GoesOn (OfPrimitive row.Iter) f p words memory (told.Done (Some (I32 q))) (with_both f.arrays (map.insert f.iterators (pos q) (keys_of (pairs_at f.arrays a))) f)
iter_goes f p words memory a q none reads there below free past =
    let place = no_place f.iterators p.iterator_places p.iterators (pos q) past.iterators free in
    let ks = keys_of (pairs_at f.arrays a) in
    let now : Past = record p { iterator_places = map.insert p.iterator_places (pos q) (length p.iterators); iterators = p.iterators ++ ks ∷ [] } in
    let same = ap keys (array_is f p a (a_place f.arrays p.array_places p.arrays a past.arrays there)) in
    record {
      now = now;
      is = record { arrays = past.arrays; iterators = added f.iterators p.iterator_places p.iterators past.iterators (pos q) ks; first = past.first };
      step = goes (OfPrimitive row.Iter) f p (state_of (with_both f.arrays (map.insert f.iterators (pos q) ks) f) now) words memory (state_of f p).names (inner_of f.shared.inner p.arrays now.iterators) (length p.iterators) q (Some (I32 q)) (unrefused (OfPrimitive row.Iter) f.fault none)
          (ap (carry (OfPrimitive row.Iter) (state_of f p)) (array_alone f p (spends (OfPrimitive row.Iter)) refl memory words past.arrays ∙ ap (λ r. number_row p.array_places r (state_of f p).names) reads)
          ∙ ap (λ (k : Keys). Ok ((state_of f p).names, acts_of f (inner_of f.shared.inner p.arrays (p.iterators ++ k ∷ [])) (length p.iterators))) same)
          (record { below = below; free = look_entries p.iterator_places (pos q) ∙ place }) refl
          (ap (λ (t : Table ℕ). state_with (record (state_of f p).names { iterators = t }) (inner_of f.shared.inner p.arrays now.iterators) f) (entries_insert p.iterator_places (pos q) (length p.iterators)));
    }

pub iter_traps : (f : HostForm) (words : List Word) (memory : List ℕ) (k : TrapKind) → f.fault ≡ None → only_number f.arrays words ≡ Err k
    → IsTableCall (OfPrimitive row.Iter) f words memory (Err (why.Trap k)) f
iter_traps f words memory k none reads =
    trapped (OfPrimitive row.Iter) f words memory k (unrefused (OfPrimitive row.Iter) f.fault none)
    (λ p past. ap (carry (OfPrimitive row.Iter) (state_of f p)) (array_alone f p (spends (OfPrimitive row.Iter)) refl memory words past.arrays ∙ ap (λ r. number_row p.array_places r (state_of f p).names) reads))

-- the next key

-- an iterator goes on with these keys
next_past : (f : HostForm) (p : Past) (values : Values) (t : ℤ) (ks : Keys) → IsPast f p → map.contains_key f.iterators t ≡ true
    → IsPast (with_iterators values (map.insert f.iterators t ks) f) (record p { iterators = slice_set p.iterators (place_at p.iterator_places t) ks })
next_past f p values t ks past there =
    let h = a_place f.iterators p.iterator_places p.iterators t past.iterators there in
    record {
      arrays = past.arrays;
      iterators = changed f.iterators p.iterator_places p.iterators past.iterators t (place_at p.iterator_places t) ks (h.placed ∙ ap Some (sym (at_place p.iterator_places t h.place h.placed)));
      first = past.first;
    }

-- the keys of an iterator, here and there
keys_are : (f : HostForm) (p : Past) (t : ℤ) → HasPlace f.iterators p.iterator_places p.iterators t → get_or p.iterators (place_at p.iterator_places t) [] ≡ keys_at f.iterators t
keys_are f p t h =
    ap (λ n. get_or p.iterators n []) (at_place p.iterator_places t h.place h.placed)
    ∙ get_or_from_slice_get p.iterators h.place h.item [] h.stands
    ∙ sym (ap keys_or_none h.holds)

pub next_goes : (f : HostForm) (p : Past) (words : List Word) (memory : List ℕ) (t : ℤ) (key : List ℕ) (rest : Keys) (q : ℕ) → f.fault ≡ None → only_number f.iterators words ≡ Ok t
    → map.contains_key f.iterators t ≡ true → keys_at f.iterators t ≡ key ∷ rest → q < 2 ^ 31 → map.get f.values (pos q) ≡ None → IsPast f p
    → GoesOn (OfPrimitive row.IterNext) f p words memory (told.Done (Some (I32 q))) (with_iterators (map.insert f.values (pos q) (Text key)) (map.insert f.iterators t rest) f)
next_goes f p words memory t key rest q none reads there left below free past =
    let now : Past = record p { iterators = slice_set p.iterators (place_at p.iterator_places t) rest } in
    let same = keys_are f p t (a_place f.iterators p.iterator_places p.iterators t past.iterators there) ∙ left in
    let values = map.insert f.values (pos q) (Text key) in
    record {
      now = now;
      is = next_past f p values t rest past there;
      step = goes (OfPrimitive row.IterNext) f p (state_of (with_iterators values (map.insert f.iterators t rest) f) now) words memory (state_of f p).names (inner_of f.shared.inner p.arrays now.iterators) (Some (Text key)) q (Some (I32 q)) (unrefused (OfPrimitive row.IterNext) f.fault none)
          (ap (carry (OfPrimitive row.IterNext) (state_of f p)) (iterator_alone f p (spends (OfPrimitive row.IterNext)) refl memory words past.iterators ∙ ap (λ r. number_row p.iterator_places r (state_of f p).names) reads)
          ∙ ap (λ (y : Inner × Option Value). Ok ((state_of f p).names, acts_of f y.0 y.1)) (ap (visited (place_at p.iterator_places t) (inner_at f p)) same))
          (record { below = below; free = look_entries f.values (pos q) ∙ free }) refl
          (ap (λ (m : Table Value). state_with (record (state_of f p).names { values = m }) (inner_of f.shared.inner p.arrays now.iterators) f) (entries_insert f.values (pos q) (Text key)));
    }

-- none is left
pub end_goes : (f : HostForm) (p : Past) (words : List Word) (memory : List ℕ) (t : ℤ) → f.fault ≡ None → only_number f.iterators words ≡ Ok t
    → map.contains_key f.iterators t ≡ true → keys_at f.iterators t ≡ [] → IsPast f p
    → GoesOn (OfPrimitive row.IterNext) f p words memory (told.Done (Some end_word)) (with_iterators f.values f.iterators f)
end_goes f p words memory t none reads there left past =
    let same = keys_are f p t (a_place f.iterators p.iterator_places p.iterators t past.iterators there) ∙ left in
    record {
      now = p;
      is = record { arrays = past.arrays; iterators = past.iterators; first = past.first };
      step = goes (OfPrimitive row.IterNext) f p (state_of f p) words memory (state_of f p).names (inner_at f p) None 0 (Some end_word) (unrefused (OfPrimitive row.IterNext) f.fault none)
          (ap (carry (OfPrimitive row.IterNext) (state_of f p)) (iterator_alone f p (spends (OfPrimitive row.IterNext)) refl memory words past.iterators ∙ ap (λ r. number_row p.iterator_places r (state_of f p).names) reads)
          ∙ ap (λ (y : Inner × Option Value). Ok ((state_of f p).names, acts_of f y.0 y.1)) (ap (visited (place_at p.iterator_places t) (inner_at f p)) same))
          tt refl refl;
    }

pub next_traps : (f : HostForm) (words : List Word) (memory : List ℕ) (k : TrapKind) → f.fault ≡ None → only_number f.iterators words ≡ Err k
    → IsTableCall (OfPrimitive row.IterNext) f words memory (Err (why.Trap k)) f
next_traps f words memory k none reads =
    trapped (OfPrimitive row.IterNext) f words memory k (unrefused (OfPrimitive row.IterNext) f.fault none)
    (λ p past. ap (carry (OfPrimitive row.IterNext) (state_of f p)) (iterator_alone f p (spends (OfPrimitive row.IterNext)) refl memory words past.iterators ∙ ap (λ r. number_row p.iterator_places r (state_of f p).names) reads))

-- Letting go, which is never refused.

never : (o : Option Fault) → is_some o && false ≡ false
never None = refl
never (Some f) = refl

pub iter_free_goes : (f : HostForm) (p : Past) (words : List Word) (memory : List ℕ) (t : ℤ) → only_number f.iterators words ≡ Ok t → IsPast f p
    → GoesOn IterFree f p words memory (told.Done None) (with_iterators f.values (map.remove f.iterators t) f)
iter_free_goes f p words memory t reads past =
    let now : Past = record p { iterator_places = map.remove p.iterator_places t } in
    record {
      now = now;
      is = record { arrays = past.arrays; iterators = removed f.iterators p.iterator_places p.iterators past.iterators t; first = past.first };
      step = goes IterFree f p (state_of (with_iterators f.values (map.remove f.iterators t) f) now) words memory (state_of f now).names (inner_at f p) tt 0 None (never f.fault)
          (ap (carry IterFree (state_of f p)) (freed_alone f.iterators p.iterator_places p.iterators (λ t. record (state_of f p).names { iterators = t }) words past.iterators ∙ ap (freed_row p.iterator_places (λ t. record (state_of f p).names { iterators = t })) reads))
          tt refl refl;
    }

pub iter_free_traps : (f : HostForm) (words : List Word) (memory : List ℕ) (k : TrapKind) → only_number f.iterators words ≡ Err k
    → IsTableCall IterFree f words memory (Err (why.Trap k)) f
iter_free_traps f words memory k reads =
    trapped IterFree f words memory k (never f.fault)
    (λ p past. ap (carry IterFree (state_of f p)) (freed_alone f.iterators p.iterator_places p.iterators (λ t. record (state_of f p).names { iterators = t }) words past.iterators ∙ ap (freed_row p.iterator_places (λ t. record (state_of f p).names { iterators = t })) reads))

-- the place of an array that is neither ARGV nor ENVIRON
later : (f : HostForm) (p : Past) (a : ℤ) (n : ℕ) → IsPast f p → map.get p.array_places a ≡ Some n → a ≢ pos 0 → a ≢ pos 1 → nat_le 2 n ≡ true
later f p a zero past at not_argv not_environ = absurd (not_argv (past.arrays.apart a (pos 0) 0 at past.first.argv))
later f p a (suc zero) past at not_argv not_environ = absurd (not_environ (past.arrays.apart a (pos 1) 1 at past.first.environ))
later f p a (suc (suc n)) past at not_argv not_environ = le-leb 2 (suc (suc n)) (omega arith)

other_stays : (f : HostForm) (p : Past) (a r : ℤ) (n : ℕ) → a ≢ r → map.get p.array_places r ≡ Some n → map.get (map.remove p.array_places a) r ≡ Some n
other_stays f p a r n other at = removed_at p.array_places a r ∙ by (int_eq r a) refl
  where
    by : (b : Bool) → int_eq r a ≡ b → cond b None (map.get p.array_places r) ≡ Some n
    by true e = absurd (other (sym ((signed_Decides r a).0 e)))
    by false e = at

pub free_goes : (f : HostForm) (p : Past) (words : List Word) (memory : List ℕ) (a : ℤ) → only_number f.arrays words ≡ Ok a → map.contains_key f.arrays a ≡ true
    → a ≢ pos 0 → a ≢ pos 1 → IsPast f p → GoesOn FreeArray f p words memory (told.Done None) (with_arrays f.values (map.remove f.arrays a) f)
free_goes f p words memory a reads there not_argv not_environ past =
    let now : Past = record p { array_places = map.remove p.array_places a } in
    let h = a_place f.arrays p.array_places p.arrays a past.arrays there in
    let freed = ap (nat_le 2) (at_place p.array_places a h.place h.placed) ∙ later f p a h.place past h.placed not_argv not_environ in
    record {
      now = now;
      is = record {
        arrays = removed f.arrays p.array_places p.arrays past.arrays a;
        iterators = past.iterators;
        first = record { argv = other_stays f p a (pos 0) 0 not_argv past.first.argv; environ = other_stays f p a (pos 1) 1 not_environ past.first.environ };
      };
      step = goes FreeArray f p (state_of (with_arrays f.values (map.remove f.arrays a) f) now) words memory (state_of f now).names (inner_at f p) tt 0 None (never f.fault)
          (ap (carry FreeArray (state_of f p)) (freed_alone f.arrays p.array_places p.arrays (λ t. record (state_of f p).names { arrays = t }) words past.arrays ∙ ap (freed_row p.array_places (λ t. record (state_of f p).names { arrays = t })) reads)
          ∙ ap (λ b. and_then (where_fit b (only_answers (state_of f p) f.arguments)) (λ d. Ok ((state_of f now).names, d))) freed)
          tt refl refl;
    }

pub free_traps : (f : HostForm) (words : List Word) (memory : List ℕ) (k : TrapKind) → only_number f.arrays words ≡ Err k
    → IsTableCall FreeArray f words memory (Err (why.Trap k)) f
free_traps f words memory k reads =
    trapped FreeArray f words memory k (never f.fault)
    (λ p past. ap (carry FreeArray (state_of f p)) (freed_alone f.arrays p.array_places p.arrays (λ t. record (state_of f p).names { arrays = t }) words past.arrays ∙ ap (freed_row p.array_places (λ t. record (state_of f p).names { arrays = t })) reads))

-- ARGV and ENVIRON stay
pub first_traps : (f : HostForm) (words : List Word) (memory : List ℕ) (a : ℤ) → only_number f.arrays words ≡ Ok a → ((p : Past) → IsPast f p → nat_le 2 (place_at p.array_places a) ≡ false)
    → IsTableCall FreeArray f words memory (Err (why.Trap BadArgument)) f
first_traps f words memory a reads first =
    trapped FreeArray f words memory BadArgument (never f.fault)
    (λ p past. ap (carry FreeArray (state_of f p)) (freed_alone f.arrays p.array_places p.arrays (λ t. record (state_of f p).names { arrays = t }) words past.arrays ∙ ap (freed_row p.array_places (λ t. record (state_of f p).names { arrays = t })) reads)
    ∙ ap (λ b. and_then (where_fit b (only_answers (state_of f p) f.arguments)) (λ d. Ok (record (state_of f p).names { arrays = map.entries (map.remove p.array_places a) }, d))) (first p past))
