-- Calls on arrays are steps.
use Rattle.std.proofs.Common.{◌≡◌, ◌<◌, ◌^◌, ℕ, ℤ, pos, Bool, true, false, cond, List, [], ◌∷◌, ◌++◌, length, Option, Some, None, is_some, Result, Ok, Err, refl, sym, ap, subst, ◌∙◌}
use Rattle.std.specs.Prelude.{slice_set}
use Rattle.std.specs.Ordering.{int_cmp, int_eq}
use Rattle.std.specs.Cmp.{signed_Decides}
use Rattle.std.specs.FinMap as map
use Rattle.std.specs.FinMap.{FinMap}
use Rattle.std.proofs.lemmas.Option.{get_or_from_slice_get}
use Rattle.awk_values.specs.Values.{text_of_value}
use Rattle.awk_values.specs.declared.value.Value.{Value}
use Rattle.awk_values.specs.declared.value.Value.TheVariants.{Uninit}
use Rattle.sem_primitives.specs.ArrayMeaning.{array, found, stored}
use Rattle.sem_primitives.specs.ConstantNumbers.{flag_number}
use Rattle.sem_primitives.specs.SharedState.{Inner, Pairs}
use Rattle.sem_primitives.specs.Sorts.{InAnswer, Row}
use Rattle.sem_primitives.specs.declared.table.Primitive.TheVariants as row
use Rattle.wasm_model.specs.declared.host.HostAnswer.TheVariants as told
use Rattle.wasm_store.specs.declared.trap.TrapKind.{TrapKind}
use Rattle.wasm_store.specs.declared.word.Word.{Word}
use Rattle.wasm_store.specs.declared.word.Word.TheVariants.{I32}
use Rattle.host_step.specs.Arguments.{and_then, no_more}
use Rattle.host_step.specs.HostState.{HostState, Names}
use Rattle.host_step.specs.HostStep.{Acts, acts, carried}
use Rattle.host_imports.specs.Imports.{import_answer, import_arguments, spends}
use Rattle.host_step.specs.Tables.{Table}
use Rattle.host_imports.specs.declared.import.Import.{Import}
use Rattle.host_imports.specs.declared.import.Import.TheVariants.{OfPrimitive}
use Rattle.host_values.specs.Calls.{names_with}
use Rattle.host_values.specs.Evaluations.{Values}
use Rattle.host_step.specs.declared.refusal.Refusal.TheVariants as why
use Rattle.host_values.proofs.Entries.{entries_insert, look_entries}
use Rattle.host_arrays.specs.Pairs.{created, delete_pair, get_pair, pairs_at, pairs_or_none, set_pair, value_or_uninit}
use Rattle.host_values.specs.ElementCalls.{IsTableCall, with_arrays}
use Rattle.host_values.specs.Forms.{Arrays, HostForm, IsHeld, Past, inner_of, state_of}
use Rattle.host_values.specs.Reads.{array_and_two, array_and_value, only_number}
use Rattle.host_values.proofs.Elements.{at_place, created_new, created_old, element-get_pair, stored-set_pair}
use Rattle.host_handles.proofs.NumberLemmas.{insert_same}
use Rattle.host_values.proofs.Places.{HasPlace, a_place, added, changed, inserted, no_place}
use Rattle.host_values.proofs.Reading.{array_alone, both_decoded, both_row, key_decoded, key_row, number_row, place_at}
use Rattle.host_values.proofs.ElementSteps.{GoesOn, IsPast, acts_of, goes, state_with, trapped, unrefused}

-- what an import comes to with the arguments that were decoded
abbrev pub carry : (i : Import) → HostState → Result (Row (import_arguments i) × Names) TrapKind → Result (Names × Acts (InAnswer (import_answer i))) TrapKind
carry i s d = and_then d (λ x. and_then (acts i x.0 s) (λ a. Ok (x.1, a)))

-- the shared state, as a state has it
abbrev pub inner_at : HostForm → Past → Inner
inner_at f p = inner_of f.shared.inner p.arrays p.iterators

-- the array under a number, here and there
pub array_is : (f : HostForm) (p : Past) (a : ℤ) → HasPlace f.arrays p.array_places p.arrays a → array (place_at p.array_places a) (inner_at f p) ≡ pairs_at f.arrays a
array_is f p a h =
    ap (λ n. array n (inner_at f p)) (at_place p.array_places a h.place h.placed)
    ∙ get_or_from_slice_get p.arrays h.place h.item [] h.stands
    ∙ sym (ap pairs_or_none h.holds)

-- a new array

kept : (places : FinMap int_cmp ℕ) (q r : ℤ) (n m : ℕ) → map.get places q ≡ None → map.get places r ≡ Some m → map.get (map.insert places q n) r ≡ Some m
kept places q r n m none there = inserted places q n r ∙ by (int_eq r q) refl
  where
    by : (b : Bool) → int_eq r q ≡ b → cond b (Some n) (map.get places r) ≡ Some m
    by true e = absurd (differ (sym (ap (map.get places) ((signed_Decides r q).0 e) ∙ none) ∙ there))
      where
        differ : ◌≡◌ {A = Option ℕ} None (Some m) → ⊥
        differ s = cc
    by false e = there

pub no_word : (words : List Word) → no_more words ≡ Ok tt → words ≡ []
no_word [] e = refl
no_word (w ∷ rest) e = cc

pub new_goes : (f : HostForm) (p : Past) (words : List Word) (memory : List ℕ) (q : ℕ) → f.fault ≡ None → no_more words ≡ Ok tt → q < 2 ^ 31 → map.get f.arrays (pos q) ≡ None
    → IsPast f p → GoesOn (OfPrimitive row.NewArray) f p words memory (told.Done (Some (I32 q))) (with_arrays f.values (map.insert f.arrays (pos q) []) f)
new_goes f p words memory q none ends below free past =
    let place = no_place f.arrays p.array_places p.arrays (pos q) past.arrays free in
    let now : Past = record p { array_places = map.insert p.array_places (pos q) (length p.arrays); arrays = p.arrays ++ [] ∷ [] } in
    record {
      now = now;
      is = record {
        arrays = added f.arrays p.array_places p.arrays past.arrays (pos q) [];
        iterators = past.iterators;
        first = record {
          argv = kept p.array_places (pos q) (pos 0) (length p.arrays) 0 place past.first.argv;
          environ = kept p.array_places (pos q) (pos 1) (length p.arrays) 1 place past.first.environ;
        };
      };
      step = goes (OfPrimitive row.NewArray) f p (state_of (with_arrays f.values (map.insert f.arrays (pos q) []) f) now) words memory (state_of f p).names (inner_of f.shared.inner now.arrays p.iterators) (length p.arrays) q (Some (I32 q)) (unrefused (OfPrimitive row.NewArray) f.fault none)
          (ap (λ ws. carried (OfPrimitive row.NewArray) ws memory (state_of f p)) (no_word words ends))
          (record { below = below; free = look_entries p.array_places (pos q) ∙ place }) refl
          (ap (λ (t : Table ℕ). state_with (record (state_of f p).names { arrays = t }) (inner_of f.shared.inner now.arrays p.iterators) f) (entries_insert p.array_places (pos q) (length p.arrays)));
    }

-- an array takes other pairs
pub changed_past : (f : HostForm) (p : Past) (values : Values) (a : ℤ) (ps : Pairs) → IsPast f p → map.contains_key f.arrays a ≡ true
    → IsPast (with_arrays values (map.insert f.arrays a ps) f) (record p { arrays = slice_set p.arrays (place_at p.array_places a) ps })
changed_past f p values a ps past there =
    let h = a_place f.arrays p.array_places p.arrays a past.arrays there in
    record {
      arrays = changed f.arrays p.array_places p.arrays past.arrays a (place_at p.array_places a) ps (h.placed ∙ ap Some (sym (at_place p.array_places a h.place h.placed)));
      iterators = past.iterators;
      first = past.first;
    }

pub set_goes : (f : HostForm) (p : Past) (words : List Word) (memory : List ℕ) (a h k : ℤ) (v w : Value) → f.fault ≡ None → array_and_two f.arrays f.values words
    ≡ Ok (a, h, v, k, w) → map.contains_key f.arrays a ≡ true → IsPast f p → GoesOn (OfPrimitive row.SetElem) f p words memory (told.Done (Some (I32 0)))
    (with_arrays (map.remove (map.remove f.values h) k) (map.insert f.arrays a (set_pair (text_of_value v) w (pairs_at f.arrays a))) f)
set_goes f p words memory a h k v w none reads there past =
    let ps = set_pair (text_of_value v) w (pairs_at f.arrays a) in
    let left = map.remove (map.remove f.values h) k in
    let now : Past = record p { arrays = slice_set p.arrays (place_at p.array_places a) ps } in
    let same = ap (λ qs. set_pair (text_of_value v) w qs) (array_is f p a (a_place f.arrays p.array_places p.arrays a past.arrays there)) in
    record {
      now = now;
      is = changed_past f p left a ps past there;
      step = goes (OfPrimitive row.SetElem) f p (state_of (with_arrays left (map.insert f.arrays a ps) f) now) words memory (names_with left (state_of f p)) (inner_of f.shared.inner (slice_set p.arrays (place_at p.array_places a) ps) p.iterators) tt 0 (Some (I32 0)) (unrefused (OfPrimitive row.SetElem) f.fault none)
          (ap (carry (OfPrimitive row.SetElem) (state_of f p)) (both_decoded f p (spends (OfPrimitive row.SetElem)) refl refl memory past.arrays words ∙ ap (both_row f p (spends (OfPrimitive row.SetElem)) refl refl memory past.arrays) reads)
          ∙ ap (λ (qs : Pairs). Ok (names_with left (state_of f p), acts_of f (inner_of f.shared.inner (slice_set p.arrays (place_at p.array_places a) qs) p.iterators) tt)) (stored-set_pair (text_of_value v) w _ ∙ same))
          tt refl refl;
    }

pub delete_goes : (f : HostForm) (p : Past) (words : List Word) (memory : List ℕ) (a h : ℤ) (v : Value) → f.fault ≡ None → array_and_value f.arrays f.values words
    ≡ Ok (a, h, v) → map.contains_key f.arrays a ≡ true → IsPast f p → GoesOn (OfPrimitive row.Delete) f p words memory (told.Done (Some (I32 0)))
    (with_arrays (map.remove f.values h) (map.insert f.arrays a (delete_pair (text_of_value v) (pairs_at f.arrays a))) f)
delete_goes f p words memory a h v none reads there past =
    let ps = delete_pair (text_of_value v) (pairs_at f.arrays a) in
    let left = map.remove f.values h in
    let now : Past = record p { arrays = slice_set p.arrays (place_at p.array_places a) ps } in
    let same = ap (delete_pair (text_of_value v)) (array_is f p a (a_place f.arrays p.array_places p.arrays a past.arrays there)) in
    record {
      now = now;
      is = changed_past f p left a ps past there;
      step = goes (OfPrimitive row.Delete) f p (state_of (with_arrays left (map.insert f.arrays a ps) f) now) words memory (names_with left (state_of f p)) (inner_of f.shared.inner (slice_set p.arrays (place_at p.array_places a) ps) p.iterators) tt 0 (Some (I32 0)) (unrefused (OfPrimitive row.Delete) f.fault none)
          (ap (carry (OfPrimitive row.Delete) (state_of f p)) (key_decoded f p (spends (OfPrimitive row.Delete)) refl refl memory past.arrays words ∙ ap (key_row f p (spends (OfPrimitive row.Delete)) refl refl memory past.arrays) reads)
          ∙ ap (λ (qs : Pairs). Ok (names_with left (state_of f p), acts_of f (inner_of f.shared.inner (slice_set p.arrays (place_at p.array_places a) qs) p.iterators) tt)) same)
          tt refl refl;
    }

pub clear_goes : (f : HostForm) (p : Past) (words : List Word) (memory : List ℕ) (a : ℤ) → f.fault ≡ None → only_number f.arrays words ≡ Ok a
    → map.contains_key f.arrays a ≡ true → IsPast f p → GoesOn (OfPrimitive row.Clear) f p words memory (told.Done (Some (I32 0))) (with_arrays f.values (map.insert f.arrays a []) f)
clear_goes f p words memory a none reads there past =
    let now : Past = record p { arrays = slice_set p.arrays (place_at p.array_places a) [] } in
    record {
      now = now;
      is = changed_past f p f.values a [] past there;
      step = goes (OfPrimitive row.Clear) f p (state_of (with_arrays f.values (map.insert f.arrays a []) f) now) words memory (state_of f p).names (inner_of f.shared.inner (slice_set p.arrays (place_at p.array_places a) []) p.iterators) tt 0 (Some (I32 0)) (unrefused (OfPrimitive row.Clear) f.fault none)
          (ap (carry (OfPrimitive row.Clear) (state_of f p)) (array_alone f p (spends (OfPrimitive row.Clear)) refl memory words past.arrays ∙ ap (λ r. number_row p.array_places r (state_of f p).names) reads))
          tt refl refl;
    }

pub has_goes : (f : HostForm) (p : Past) (words : List Word) (memory : List ℕ) (a h : ℤ) (v : Value) → f.fault ≡ None → array_and_value f.arrays f.values words
    ≡ Ok (a, h, v) → map.contains_key f.arrays a ≡ true → IsPast f p → GoesOn (OfPrimitive row.Has) f p words memory
    (told.Done (Some (I32 (flag_number (is_some (get_pair (text_of_value v) (pairs_at f.arrays a))))))) (with_arrays (map.remove f.values h) f.arrays f)
has_goes f p words memory a h v none reads there past =
    let b = is_some (get_pair (text_of_value v) (pairs_at f.arrays a)) in
    let left = map.remove f.values h in
    let same = ap (λ qs. is_some (get_pair (text_of_value v) qs)) (array_is f p a (a_place f.arrays p.array_places p.arrays a past.arrays there)) in
    record {
      now = p;
      is = record { arrays = past.arrays; iterators = past.iterators; first = past.first };
      step = goes (OfPrimitive row.Has) f p (state_of (with_arrays left f.arrays f) p) words memory (names_with left (state_of f p)) (inner_at f p) b 0 (Some (I32 (flag_number b))) (unrefused (OfPrimitive row.Has) f.fault none)
          (ap (carry (OfPrimitive row.Has) (state_of f p)) (key_decoded f p (spends (OfPrimitive row.Has)) refl refl memory past.arrays words ∙ ap (key_row f p (spends (OfPrimitive row.Has)) refl refl memory past.arrays) reads)
          ∙ ap (λ (c : Bool). Ok (names_with left (state_of f p), acts_of f (inner_at f p) c)) (ap is_some (element-get_pair (text_of_value v) _) ∙ same))
          tt refl refl;
    }

-- An element is read, and made where there is none.

-- what is there now, by what was there
pub read_past : (f : HostForm) (p : Past) (a : ℤ) (k : List ℕ) (left : Values) (o : Option Value) → get_pair k (pairs_at f.arrays a) ≡ o → IsPast f p
    → map.contains_key f.arrays a ≡ true → (arrays : List Pairs) × (IsPast (with_arrays left (map.insert f.arrays a (created k (pairs_at f.arrays a))) f) (record p { arrays = arrays }))
    × (found (place_at p.array_places a) k (inner_at f p) o ≡ (inner_of f.shared.inner arrays p.iterators, value_or_uninit o))
read_past f p a k left None e past there = (
  slice_set p.arrays (place_at p.array_places a) (created k (pairs_at f.arrays a)),
  changed_past f p left a (created k (pairs_at f.arrays a)) past there,
  ap (λ (ps : Pairs). (inner_of f.shared.inner (slice_set p.arrays (place_at p.array_places a) ps) p.iterators, Uninit))
      (ap (stored k Uninit) (array_is f p a (a_place f.arrays p.array_places p.arrays a past.arrays there)) ∙ sym (created_new k (pairs_at f.arrays a) e)),
)
read_past f p a k left (Some v) e past there =
    let h = a_place f.arrays p.array_places p.arrays a past.arrays there in
    let same : map.insert f.arrays a (created k (pairs_at f.arrays a)) ≡ f.arrays
    = ap (map.insert f.arrays a) (created_old k (pairs_at f.arrays a) v e ∙ ap pairs_or_none h.holds) ∙ insert_same f.arrays a h.item h.holds in (
      p.arrays,
      record {
        arrays = subst (λ (m : Arrays). IsHeld m p.array_places p.arrays) (sym same) past.arrays;
        iterators = past.iterators;
        first = past.first;
      },
      refl,
    )

pub elem_goes : (f : HostForm) (p : Past) (words : List Word) (memory : List ℕ) (a h : ℤ) (v : Value) (q : ℕ) → f.fault ≡ None → array_and_value f.arrays f.values words
    ≡ Ok (a, h, v) → map.contains_key f.arrays a ≡ true → q < 2 ^ 31 → map.get (map.remove f.values h) (pos q) ≡ None → IsPast f p → GoesOn (OfPrimitive row.Elem) f p words memory (told.Done (Some (I32 q)))
    (with_arrays (map.insert (map.remove f.values h) (pos q) (value_or_uninit (get_pair (text_of_value v) (pairs_at f.arrays a)))) (map.insert f.arrays a (created (text_of_value v) (pairs_at f.arrays a))) f)
elem_goes f p words memory a h v q none reads there below free past =
    let k = text_of_value v in
    let ps = pairs_at f.arrays a in
    let left = map.remove f.values h in
    let x = value_or_uninit (get_pair k ps) in
    let arrays = map.insert f.arrays a (created k ps) in
    let values = map.insert left (pos q) x in
    let after = read_past f p a k values (get_pair k ps) refl past there in
    let now : Past = record p { arrays = after.0 } in
    let same = element-get_pair k _ ∙ ap (get_pair k) (array_is f p a (a_place f.arrays p.array_places p.arrays a past.arrays there)) in
    record {
      now = now;
      is = after.1;
      step = goes (OfPrimitive row.Elem) f p (state_of (with_arrays values arrays f) now) words memory (names_with left (state_of f p)) (inner_of f.shared.inner after.0 p.iterators) x q (Some (I32 q)) (unrefused (OfPrimitive row.Elem) f.fault none)
          (ap (carry (OfPrimitive row.Elem) (state_of f p)) (key_decoded f p (spends (OfPrimitive row.Elem)) refl refl memory past.arrays words ∙ ap (key_row f p (spends (OfPrimitive row.Elem)) refl refl memory past.arrays) reads)
          ∙ ap (λ (y : Inner × Value). Ok (names_with left (state_of f p), acts_of f y.0 y.1)) (ap (found (place_at p.array_places a) k (inner_at f p)) same ∙ after.2))
          (record { below = below; free = look_entries left (pos q) ∙ free }) refl
          (ap (λ (t : Table Value). state_with (record (state_of f p).names { values = t }) (inner_of f.shared.inner after.0 p.iterators) f) (entries_insert left (pos q) x));
    }

-- A call with an unfit word.

pub elem_traps : (f : HostForm) (words : List Word) (memory : List ℕ) (k : TrapKind) → f.fault ≡ None → array_and_value f.arrays f.values words ≡ Err k
    → IsTableCall (OfPrimitive row.Elem) f words memory (Err (why.Trap k)) f
elem_traps f words memory k none reads =
    trapped (OfPrimitive row.Elem) f words memory k (unrefused (OfPrimitive row.Elem) f.fault none)
    (λ p past. ap (carry (OfPrimitive row.Elem) (state_of f p)) (key_decoded f p (spends (OfPrimitive row.Elem)) refl refl memory past.arrays words ∙ ap (key_row f p (spends (OfPrimitive row.Elem)) refl refl memory past.arrays) reads))

pub has_traps : (f : HostForm) (words : List Word) (memory : List ℕ) (k : TrapKind) → f.fault ≡ None → array_and_value f.arrays f.values words ≡ Err k
    → IsTableCall (OfPrimitive row.Has) f words memory (Err (why.Trap k)) f
has_traps f words memory k none reads =
    trapped (OfPrimitive row.Has) f words memory k (unrefused (OfPrimitive row.Has) f.fault none)
    (λ p past. ap (carry (OfPrimitive row.Has) (state_of f p)) (key_decoded f p (spends (OfPrimitive row.Has)) refl refl memory past.arrays words ∙ ap (key_row f p (spends (OfPrimitive row.Has)) refl refl memory past.arrays) reads))

pub delete_traps : (f : HostForm) (words : List Word) (memory : List ℕ) (k : TrapKind) → f.fault ≡ None → array_and_value f.arrays f.values words ≡ Err k
    → IsTableCall (OfPrimitive row.Delete) f words memory (Err (why.Trap k)) f
delete_traps f words memory k none reads =
    trapped (OfPrimitive row.Delete) f words memory k (unrefused (OfPrimitive row.Delete) f.fault none)
    (λ p past. ap (carry (OfPrimitive row.Delete) (state_of f p)) (key_decoded f p (spends (OfPrimitive row.Delete)) refl refl memory past.arrays words ∙ ap (key_row f p (spends (OfPrimitive row.Delete)) refl refl memory past.arrays) reads))

pub clear_traps : (f : HostForm) (words : List Word) (memory : List ℕ) (k : TrapKind) → f.fault ≡ None → only_number f.arrays words ≡ Err k
    → IsTableCall (OfPrimitive row.Clear) f words memory (Err (why.Trap k)) f
clear_traps f words memory k none reads =
    trapped (OfPrimitive row.Clear) f words memory k (unrefused (OfPrimitive row.Clear) f.fault none)
    (λ p past. ap (carry (OfPrimitive row.Clear) (state_of f p)) (array_alone f p (spends (OfPrimitive row.Clear)) refl memory words past.arrays ∙ ap (λ r. number_row p.array_places r (state_of f p).names) reads))

pub set_traps : (f : HostForm) (words : List Word) (memory : List ℕ) (k : TrapKind) → f.fault ≡ None → array_and_two f.arrays f.values words ≡ Err k
    → IsTableCall (OfPrimitive row.SetElem) f words memory (Err (why.Trap k)) f
set_traps f words memory k none reads =
    trapped (OfPrimitive row.SetElem) f words memory k (unrefused (OfPrimitive row.SetElem) f.fault none)
    (λ p past. ap (carry (OfPrimitive row.SetElem) (state_of f p)) (both_decoded f p (spends (OfPrimitive row.SetElem)) refl refl memory past.arrays words ∙ ap (both_row f p (spends (OfPrimitive row.SetElem)) refl refl memory past.arrays) reads))

pub new_traps : (f : HostForm) (words : List Word) (memory : List ℕ) (k : TrapKind) → f.fault ≡ None → no_more words ≡ Err k
    → IsTableCall (OfPrimitive row.NewArray) f words memory (Err (why.Trap k)) f
new_traps f words memory k none ends =
    trapped (OfPrimitive row.NewArray) f words memory k (unrefused (OfPrimitive row.NewArray) f.fault none)
    (λ p past. ap (λ (r : Result (Unit {0}) TrapKind). carry (OfPrimitive row.NewArray) (state_of f p) (and_then r (λ end. Ok (end, (state_of f p).names)))) ends)
