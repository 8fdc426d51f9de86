-- What the functions did to iterators, as calls.
use Rattle.std.proofs.Common.{◌≡◌, ◌≢◌, ℕ, ℤ, pos, List, [], ◌∷◌, Option, Some, None, Result, Ok, Err, refl, sym, ap, subst, ◌∙◌, true, nat_le}
use Rattle.std.specs.FinMap as map
use Rattle.std.specs.Map.{keys_of}
use Rattle.awk_values.specs.declared.value.Value.TheVariants.{Text}
use Rattle.sem_primitives.specs.declared.table.Primitive.TheVariants as row
use Rattle.wasm_model.specs.declared.host.HostAnswer.TheVariants as told
use Rattle.wasm_store.specs.declared.trap.TrapKind.TheVariants.{BadArgument}
use Rattle.wasm_store.specs.declared.word.Word.{Word}
use Rattle.wasm_store.specs.declared.word.Word.TheVariants.{I32}
use Rattle.host_imports.specs.Codes.{end_word}
use Rattle.host_imports.specs.declared.import.Import.TheVariants.{FreeArray, IterFree, OfPrimitive}
use Rattle.host_values.specs.Calls.{Gives, reserved_handle}
use Rattle.host_values.specs.Evaluations.{Values}
use Rattle.host_step.specs.declared.refusal.Refusal.{Refusal}
use Rattle.host_step.specs.declared.refusal.Refusal.TheVariants as why
use Rattle.host_values.specs.declared.reply.Reply.TheVariants as reply
use Rattle.host_arrays.specs.Pairs.{pairs_at}
use Rattle.host_values.specs.ElementCalls.{IsNumbered, IsTableCall, Leads, with_arrays, with_both, with_iterators}
use Rattle.host_values.specs.Forms.{Arrays, HostForm, Iterators, Keys}
use Rattle.host_values.specs.Reads.{only_number}
use Rattle.host_values.specs.Turns.{first_key, keys_at, other_keys}
use Rattle.host_values.proofs.ArrayCalls.{below_limit}
use Rattle.host_values.proofs.Elements.{at_place}
use Rattle.host_values.proofs.KeySteps.{end_goes, first_traps, free_goes, iter_free_goes, iter_goes, next_goes}
use Rattle.host_values.proofs.Places.{insert_keys}
use Rattle.host_values.proofs.ElementSteps.{leads, wanted}

module _ (f : HostForm) (words : List Word) (memory : List ℕ) (none : f.fault ≡ None) (a : ℤ) (reads : only_number f.arrays words ≡ Ok a) (there : map.contains_key f.arrays a ≡ true) (free : map.get f.iterators reserved_handle ≡ None) where
  pub iter_memory : (g : HostForm) → IsTableCall (OfPrimitive row.Iter) f words memory (Err why.NoMemory) g
  iter_memory g =
      wanted (OfPrimitive row.Iter) f (with_both f.arrays (map.insert f.iterators reserved_handle (keys_of (pairs_at f.arrays a))) f) g words memory (Some (I32 2147483647))
      (λ p past. iter_goes f p words memory a 2147483647 none reads there below_limit free past)

  pub iter_call : (iterators : Iterators) (ks : Keys) (r : Result (Option Word) Refusal) → ks ≡ keys_of (pairs_at f.arrays a) → IsNumbered f.iterators ks r iterators
      → IsTableCall (OfPrimitive row.Iter) f words memory r (with_both f.arrays iterators f)
  iter_call iterators ks (Ok w) same (q, below, vacant, word, added) =
      subst (λ (x : Option Word). IsTableCall (OfPrimitive row.Iter) f words memory (Ok x) (with_both f.arrays iterators f)) (sym word)
      (subst (λ (m : Iterators). IsTableCall (OfPrimitive row.Iter) f words memory (Ok (Some (I32 q))) (with_both f.arrays m f)) (sym (added ∙ ap (map.insert f.iterators (pos q)) same))
      (leads (OfPrimitive row.Iter) f words memory (told.Done (Some (I32 q))) _ (λ p past. iter_goes f p words memory a q none reads there below vacant past)))
  iter_call iterators ks (Err why.NoMemory) same left = iter_memory f
  iter_call iterators ks (Err (why.Trap k)) same left = absurd left
  iter_call iterators ks (Err (why.Fault fault)) same left = absurd left

module _ (f : HostForm) (words : List Word) (memory : List ℕ) (none : f.fault ≡ None) (t : ℤ) (reads : only_number f.iterators words ≡ Ok t) (there : map.contains_key f.iterators t ≡ true) (free : map.get f.values reserved_handle ≡ None) where
  memory_by : (ks : Keys) → keys_at f.iterators t ≡ ks → (g : HostForm) → IsTableCall (OfPrimitive row.IterNext) f words memory (Err why.NoMemory) g
  memory_by [] left g = wanted (OfPrimitive row.IterNext) f (with_iterators f.values f.iterators f) g words memory (Some end_word) (λ p past. end_goes f p words memory t none reads there left past)
  memory_by (key ∷ rest) left g =
      wanted (OfPrimitive row.IterNext) f (with_iterators (map.insert f.values reserved_handle (Text key)) (map.insert f.iterators t rest) f) g words memory (Some (I32 2147483647))
      (λ p past. next_goes f p words memory t key rest 2147483647 none reads there left below_limit free past)

  pub next_memory : (g : HostForm) → IsTableCall (OfPrimitive row.IterNext) f words memory (Err why.NoMemory) g
  next_memory g = memory_by (keys_at f.iterators t) refl g

  key_by : (values : Values) (iterators : Iterators) (k : List ℕ) (r : Result (Option Word) Refusal) (ks : Keys) → keys_at f.iterators t ≡ ks → Some k ≡ first_key ks
      → iterators ≡ map.insert f.iterators t (other_keys ks) → Gives (reply.Value (Text k)) f.values r values → IsTableCall (OfPrimitive row.IterNext) f words memory r (with_iterators values iterators f)
  key_by values iterators k r [] left some same gives = cc
  key_by values iterators k (Ok w) (key ∷ rest) left some same (q, below, vacant, word, stored) =
      subst (λ (x : Option Word). IsTableCall (OfPrimitive row.IterNext) f words memory (Ok x) (with_iterators values iterators f)) (sym word)
      (subst (λ (m : Values). IsTableCall (OfPrimitive row.IterNext) f words memory (Ok (Some (I32 q))) (with_iterators m iterators f)) (sym (stored ∙ ap (λ x. map.insert f.values (pos q) (Text x)) (same_key some)))
      (subst (λ (m : Iterators). IsTableCall (OfPrimitive row.IterNext) f words memory (Ok (Some (I32 q))) (with_iterators (map.insert f.values (pos q) (Text key)) m f)) (sym same)
      (leads (OfPrimitive row.IterNext) f words memory (told.Done (Some (I32 q))) _ (λ p past. next_goes f p words memory t key rest q none reads there left below vacant past))))
    where
      same_key : ◌≡◌ {A = Option (List ℕ)} (Some k) (Some key) → k ≡ key
      same_key e = cc
  key_by values iterators k (Err why.NoMemory) (key ∷ rest) left some same gives = next_memory f
  key_by values iterators k (Err (why.Trap x)) (key ∷ rest) left some same gives = absurd gives
  key_by values iterators k (Err (why.Fault x)) (key ∷ rest) left some same gives = absurd gives

  pub next_call : (values : Values) (iterators : Iterators) (k : List ℕ) (r : Result (Option Word) Refusal) → Some k ≡ first_key (keys_at f.iterators t)
      → iterators ≡ map.insert f.iterators t (other_keys (keys_at f.iterators t)) → Gives (reply.Value (Text k)) f.values r values → IsTableCall (OfPrimitive row.IterNext) f words memory r (with_iterators values iterators f)
  next_call values iterators k r some same gives = key_by values iterators k r (keys_at f.iterators t) refl some same gives

  none_is : (ks : Keys) → None ≡ first_key ks → ks ≡ []
  none_is [] e = refl
  none_is (key ∷ rest) e = cc

  pub end_call : (iterators : Iterators) → None ≡ first_key (keys_at f.iterators t) → iterators ≡ map.insert f.iterators t (other_keys (keys_at f.iterators t))
      → Leads (OfPrimitive row.IterNext) f words memory (told.Done (Some end_word)) (with_iterators f.values iterators f)
  end_call iterators none_left left =
      let empty = none_is (keys_at f.iterators t) none_left in
      let same : iterators ≡ f.iterators = left ∙ ap (map.insert f.iterators t) (ap other_keys empty ∙ sym empty) ∙ insert_keys f.iterators t there in
      subst (λ (m : Iterators). Leads (OfPrimitive row.IterNext) f words memory (told.Done (Some end_word)) (with_iterators f.values m f)) (sym same)
      (leads (OfPrimitive row.IterNext) f words memory (told.Done (Some end_word)) _ (λ p past. end_goes f p words memory t none reads there empty past))

pub iter_free_call : (f : HostForm) (iterators : Iterators) (words : List Word) (memory : List ℕ) (t : ℤ) → only_number f.iterators words ≡ Ok t → iterators ≡ map.remove f.iterators t
    → IsTableCall IterFree f words memory (Ok None) (with_iterators f.values iterators f)
iter_free_call f iterators words memory t reads freed =
    subst (λ (m : Iterators). IsTableCall IterFree f words memory (Ok None) (with_iterators f.values m f)) (sym freed)
    (leads IterFree f words memory (told.Done None) _ (λ p past. iter_free_goes f p words memory t reads past))

pub free_call : (f : HostForm) (arrays : Arrays) (words : List Word) (memory : List ℕ) (a : ℤ) → only_number f.arrays words ≡ Ok a → map.contains_key f.arrays a ≡ true
    → a ≢ pos 0 → a ≢ pos 1 → arrays ≡ map.remove f.arrays a → IsTableCall FreeArray f words memory (Ok None) (with_arrays f.values arrays f)
free_call f arrays words memory a reads there not_argv not_environ freed =
    subst (λ (m : Arrays). IsTableCall FreeArray f words memory (Ok None) (with_arrays f.values m f)) (sym freed)
    (leads FreeArray f words memory (told.Done None) _ (λ p past. free_goes f p words memory a reads there not_argv not_environ past))

pub argv_traps : (f : HostForm) (words : List Word) (memory : List ℕ) (a : ℤ) → only_number f.arrays words ≡ Ok a → a ≡ pos 0
    → IsTableCall FreeArray f words memory (Err (why.Trap BadArgument)) f
argv_traps f words memory a reads same =
    first_traps f words memory a reads (λ p past. ap (nat_le 2) (at_place p.array_places a 0 (ap (map.get p.array_places) same ∙ past.first.argv)))

pub environ_traps : (f : HostForm) (words : List Word) (memory : List ℕ) (a : ℤ) → only_number f.arrays words ≡ Ok a → a ≡ pos 1
    → IsTableCall FreeArray f words memory (Err (why.Trap BadArgument)) f
environ_traps f words memory a reads same =
    first_traps f words memory a reads (λ p past. ap (nat_le 2) (at_place p.array_places a 1 (ap (map.get p.array_places) same ∙ past.first.environ)))
