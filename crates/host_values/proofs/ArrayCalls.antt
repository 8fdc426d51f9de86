-- What the functions did to arrays, as calls.
use Rattle.std.proofs.Common.{◌≡◌, ◌<◌, ◌^◌, ℕ, ℤ, pos, List, [], Option, Some, None, is_some, Result, Ok, Err, sym, ap, subst, ◌∙◌, true, arith}
use Rattle.std.specs.FinMap as map
use Rattle.awk_values.specs.Values.{text_of_value}
use Rattle.awk_values.specs.declared.value.Value.{Value}
use Rattle.sem_primitives.specs.ConstantNumbers.{flag_number}
use Rattle.sem_primitives.specs.declared.table.Primitive.TheVariants as row
use Rattle.wasm_model.specs.declared.host.HostAnswer.TheVariants as told
use Rattle.wasm_store.specs.declared.word.Word.{Word}
use Rattle.wasm_store.specs.declared.word.Word.TheVariants.{I32}
use Rattle.host_step.specs.Arguments.{no_more}
use Rattle.host_imports.specs.declared.import.Import.TheVariants.{OfPrimitive}
use Rattle.host_values.specs.Calls.{Gives, reserved_handle}
use Rattle.host_values.specs.Evaluations.{Values}
use Rattle.host_step.specs.declared.refusal.Refusal.{Refusal}
use Rattle.host_step.specs.declared.refusal.Refusal.TheVariants as why
use Rattle.host_values.specs.declared.reply.Reply.TheVariants as reply
use Rattle.host_values.proofs.ReservedHandle.{reserved_removed}
use Rattle.host_arrays.specs.Pairs.{created, delete_pair, get_pair, pairs_at, set_pair, value_or_uninit}
use Rattle.host_values.specs.ElementCalls.{IsNumbered, IsPut, IsTableCall, with_arrays}
use Rattle.host_values.specs.Forms.{Arrays, HostForm}
use Rattle.host_values.specs.Reads.{array_and_two, array_and_value, only_number}
use Rattle.host_values.proofs.ArraySteps.{clear_goes, delete_goes, elem_goes, has_goes, new_goes, set_goes}
use Rattle.host_values.proofs.ElementSteps.{leads, wanted}

pub below_limit : 2147483647 < 2 ^ 31
below_limit = omega arith

pub new_call : (f : HostForm) (arrays : Arrays) (words : List Word) (memory : List ℕ) (r : Result (Option Word) Refusal) → f.fault ≡ None → no_more words ≡ Ok tt
    → map.get f.arrays reserved_handle ≡ None → IsNumbered f.arrays [] r arrays → IsTableCall (OfPrimitive row.NewArray) f words memory r (with_arrays f.values arrays f)
new_call f arrays words memory (Ok w) none ends free (q, below, vacant, word, added) =
    subst (λ (x : Option Word). IsTableCall (OfPrimitive row.NewArray) f words memory (Ok x) (with_arrays f.values arrays f)) (sym word)
    (subst (λ (m : Arrays). IsTableCall (OfPrimitive row.NewArray) f words memory (Ok (Some (I32 q))) (with_arrays f.values m f)) (sym added)
    (leads (OfPrimitive row.NewArray) f words memory (told.Done (Some (I32 q))) (with_arrays f.values (map.insert f.arrays (pos q) []) f) (λ p past. new_goes f p words memory q none ends below vacant past)))
new_call f arrays words memory (Err why.NoMemory) none ends free same =
    wanted (OfPrimitive row.NewArray) f (with_arrays f.values (map.insert f.arrays reserved_handle []) f) (with_arrays f.values arrays f) words memory (Some (I32 2147483647))
    (λ p past. new_goes f p words memory 2147483647 none ends below_limit free past)
new_call f arrays words memory (Err (why.Trap k)) none ends free g = absurd g
new_call f arrays words memory (Err (why.Fault fault)) none ends free g = absurd g

-- an array alone
pub clear_call : (f : HostForm) (arrays : Arrays) (words : List Word) (memory : List ℕ) (a : ℤ) → f.fault ≡ None → only_number f.arrays words ≡ Ok a
    → map.contains_key f.arrays a ≡ true → arrays ≡ map.insert f.arrays a [] → IsTableCall (OfPrimitive row.Clear) f words memory (Ok (Some (I32 0))) (with_arrays f.values arrays f)
clear_call f arrays words memory a none reads there cleared =
    subst (λ (m : Arrays). IsTableCall (OfPrimitive row.Clear) f words memory (Ok (Some (I32 0))) (with_arrays f.values m f)) (sym cleared)
    (leads (OfPrimitive row.Clear) f words memory (told.Done (Some (I32 0))) _ (λ p past. clear_goes f p words memory a none reads there past))

-- an array, and the value of a key with its handle
module _ (f : HostForm) (words : List Word) (memory : List ℕ) (none : f.fault ≡ None) (a h : ℤ) (v : Value) (reads : array_and_value f.arrays f.values words ≡ Ok (a, h, v)) (there : map.contains_key f.arrays a ≡ true) where
  pub delete_call : (values : Values) (arrays : Arrays) (key : List ℕ) → values ≡ map.remove f.values h → key ≡ text_of_value v
      → arrays ≡ map.insert f.arrays a (delete_pair key (pairs_at f.arrays a)) → IsTableCall (OfPrimitive row.Delete) f words memory (Ok (Some (I32 0))) (with_arrays values arrays f)
  delete_call values arrays key left text deleted =
      subst (λ (m : Values). IsTableCall (OfPrimitive row.Delete) f words memory (Ok (Some (I32 0))) (with_arrays m arrays f)) (sym left)
      (subst (λ (m : Arrays). IsTableCall (OfPrimitive row.Delete) f words memory (Ok (Some (I32 0))) (with_arrays (map.remove f.values h) m f)) (sym (deleted ∙ ap (λ k. map.insert f.arrays a (delete_pair k (pairs_at f.arrays a))) text))
      (leads (OfPrimitive row.Delete) f words memory (told.Done (Some (I32 0))) _ (λ p past. delete_goes f p words memory a h v none reads there past)))

  pub has_call : (values : Values) (key : List ℕ) (n : ℕ) → values ≡ map.remove f.values h → key ≡ text_of_value v
      → n ≡ flag_number (is_some (get_pair key (pairs_at f.arrays a))) → IsTableCall (OfPrimitive row.Has) f words memory (Ok (Some (I32 n))) (with_arrays values f.arrays f)
  has_call values key n left text found =
      subst (λ (m : Values). IsTableCall (OfPrimitive row.Has) f words memory (Ok (Some (I32 n))) (with_arrays m f.arrays f)) (sym left)
      (subst (λ (b : ℕ). IsTableCall (OfPrimitive row.Has) f words memory (Ok (Some (I32 b))) (with_arrays (map.remove f.values h) f.arrays f)) (sym (found ∙ ap (λ k. flag_number (is_some (get_pair k (pairs_at f.arrays a)))) text))
      (leads (OfPrimitive row.Has) f words memory (told.Done _) _ (λ p past. has_goes f p words memory a h v none reads there past)))

  pub elem_memory : map.get f.values reserved_handle ≡ None → (g : HostForm) → IsTableCall (OfPrimitive row.Elem) f words memory (Err why.NoMemory) g
  elem_memory free g =
      wanted (OfPrimitive row.Elem) f (with_arrays (map.insert (map.remove f.values h) reserved_handle (value_or_uninit (get_pair (text_of_value v) (pairs_at f.arrays a)))) (map.insert f.arrays a (created (text_of_value v) (pairs_at f.arrays a))) f) g words memory (Some (I32 2147483647))
      (λ p past. elem_goes f p words memory a h v 2147483647 none reads there below_limit (reserved_removed f.values h free) past)

  given : (values : Values) (r : Result (Option Word) Refusal) → map.get f.values reserved_handle ≡ None
      → Gives (reply.Value (value_or_uninit (get_pair (text_of_value v) (pairs_at f.arrays a)))) (map.remove f.values h) r values
      → IsTableCall (OfPrimitive row.Elem) f words memory r (with_arrays values (map.insert f.arrays a (created (text_of_value v) (pairs_at f.arrays a))) f)
  given values (Ok w) free (q, below, vacant, word, stored) =
      let arrays = map.insert f.arrays a (created (text_of_value v) (pairs_at f.arrays a)) in
      subst (λ (x : Option Word). IsTableCall (OfPrimitive row.Elem) f words memory (Ok x) (with_arrays values arrays f)) (sym word)
      (subst (λ (m : Values). IsTableCall (OfPrimitive row.Elem) f words memory (Ok (Some (I32 q))) (with_arrays m arrays f)) (sym stored)
      (leads (OfPrimitive row.Elem) f words memory (told.Done (Some (I32 q))) _ (λ p past. elem_goes f p words memory a h v q none reads there below vacant past)))
  given values (Err why.NoMemory) free same = elem_memory free f
  given values (Err (why.Trap k)) free g = absurd g
  given values (Err (why.Fault fault)) free g = absurd g

  pub elem_call : (left values : Values) (arrays : Arrays) (key : List ℕ) (x : Value) (r : Result (Option Word) Refusal) → map.get f.values reserved_handle ≡ None
      → left ≡ map.remove f.values h → key ≡ text_of_value v → arrays ≡ map.insert f.arrays a (created key (pairs_at f.arrays a))
      → x ≡ value_or_uninit (get_pair key (pairs_at f.arrays a)) → Gives (reply.Value x) left r values → IsTableCall (OfPrimitive row.Elem) f words memory r (with_arrays values arrays f)
  elem_call left values arrays key x r free gone text made found gives =
      subst (λ (m : Arrays). IsTableCall (OfPrimitive row.Elem) f words memory r (with_arrays values m f)) (sym (made ∙ ap (λ k. map.insert f.arrays a (created k (pairs_at f.arrays a))) text))
      (given values r free
      (subst (λ (y : Value). Gives (reply.Value y) (map.remove f.values h) r values) (found ∙ ap (λ k. value_or_uninit (get_pair k (pairs_at f.arrays a))) text)
      (subst (λ (m : Values). Gives (reply.Value x) m r values) gone gives)))

-- an array, a key and a value
module _ (f : HostForm) (words : List Word) (memory : List ℕ) (none : f.fault ≡ None) (a h k : ℤ) (v w : Value) (reads : array_and_two f.arrays f.values words ≡ Ok (a, h, v, k, w)) (there : map.contains_key f.arrays a ≡ true) where
  set_memory : (g : HostForm) → IsTableCall (OfPrimitive row.SetElem) f words memory (Err why.NoMemory) g
  set_memory g =
      wanted (OfPrimitive row.SetElem) f (with_arrays (map.remove (map.remove f.values h) k) (map.insert f.arrays a (set_pair (text_of_value v) w (pairs_at f.arrays a))) f) g words memory (Some (I32 0))
      (λ p past. set_goes f p words memory a h k v w none reads there past)

  pub set_call : (values : Values) (arrays : Arrays) (key : List ℕ) (x : Value) (r : Result (Option Word) Refusal) → values ≡ map.remove (map.remove f.values h) k → key ≡ text_of_value v
      → x ≡ w → IsPut r (map.insert f.arrays a (set_pair key x (pairs_at f.arrays a))) arrays → IsTableCall (OfPrimitive row.SetElem) f words memory r (with_arrays values arrays f)
  set_call values arrays key x (Ok word) left text same (zero, put) =
      subst (λ (o : Option Word). IsTableCall (OfPrimitive row.SetElem) f words memory (Ok o) (with_arrays values arrays f)) (sym zero)
      (subst (λ (m : Values). IsTableCall (OfPrimitive row.SetElem) f words memory (Ok (Some (I32 0))) (with_arrays m arrays f)) (sym left)
      (subst (λ (m : Arrays). IsTableCall (OfPrimitive row.SetElem) f words memory (Ok (Some (I32 0))) (with_arrays (map.remove (map.remove f.values h) k) m f))
      (sym (put ∙ ap (λ y. map.insert f.arrays a (set_pair y x (pairs_at f.arrays a))) text ∙ ap (λ y. map.insert f.arrays a (set_pair (text_of_value v) y (pairs_at f.arrays a))) same))
      (leads (OfPrimitive row.SetElem) f words memory (told.Done (Some (I32 0))) _ (λ p past. set_goes f p words memory a h k v w none reads there past))))
  set_call values arrays key x (Err why.NoMemory) left text same put = set_memory f
  set_call values arrays key x (Err (why.Trap t)) left text same put = absurd put
  set_call values arrays key x (Err (why.Fault fault)) left text same put = absurd put
