-- One stream of a world in memory changes, or is added.
use Rattle.std.proofs.Common.{◌≡◌, ◌≢◌, ℕ, zero, suc, ◌-◌, ◌<◌, List, [], ◌∷◌, ◌++◌, length, set, get_or, Some, Result, Ok, Err, IfOk, IfErr, OnErr, cond, Bool, true, refl, sym, ap, subst, ◌∙◌, arith, ◌⊎◌, inl, inr, get_or-set_other, get_or-set_same, length-append, eq-eqb}
use Rattle.std.proofs.lemmas.List.{get_or_append_left, get_or_past, get_or_push, get_or_default}
use Rattle.std.proofs.lemmas.Bool.{cases_eq, cases_lt, ne_eqb}
use Rattle.std.proofs.Math.Path.{fun_ext}
use Rattle.world_core.specs.declared.world.WorldFault.{WorldFault}
use Rattle.world_core.specs.declared.world.WorldFault.TheVariants.{Failed, NoMemory}
use Rattle.world_core.specs.WorldState.{Named, Outside, replaced, opened, Source}
use Rattle.world_core.specs.Calls.{Kind, Closed as NotOpen, Reading, set_kind, Opens, KeepsOthers, Reads, OpensToRead, OpensWriter}
use Rattle.world_core.specs.Memory.{kind_of, reader_of, writer_of, kinds_of, readers_of, writers_of, memory_state, source_of, Gives, AddsStream, IsReaderOf}
use Rattle.world_core.specs.declared.file.MemSource.{MemSource}
use Rattle.world_core.specs.declared.streams.MemStream.{MemStream}
use Rattle.world_core.specs.declared.streams.MemStream.TheVariants.{Closed, Reader, Writer}

-- a stream that is open stands in the list
below : (streams : List MemStream) (k : ℕ) (kind : Kind) → (NotOpen ≡ kind → ⊥) → kind_of (get_or streams k Closed) ≡ kind → k < length streams
below [] k kind apart e = absurd (apart e)
below (s ∷ rest) zero kind apart e = omega arith
below (s ∷ rest) (suc k) kind apart e = omega (arith, below rest k kind apart e)

-- its place
pub record Stands (kind : Kind) (id : ℕ) (streams : List MemStream) : Type 0 where
  pub within : id - 2 < length streams
  pub number : id ≡ suc (suc (id - 2))
  pub is : kind_of (get_or streams (id - 2) Closed) ≡ kind

stands : (streams : List MemStream) (k : ℕ) (kind : Kind) → (NotOpen ≡ kind → ⊥) → kinds_of streams (suc (suc k)) ≡ kind → Stands kind (suc (suc k)) streams
stands streams k kind apart e =
    let place : suc (suc k) - 2 ≡ k = omega arith in
    record {
      within = omega (arith, below streams k kind apart e);
      number = omega arith;
      is = ap (λ n. kind_of (get_or streams n Closed)) place ∙ e;
    }

pub reader-stands : (streams : List MemStream) (id : ℕ) → id ≢ 0 → kinds_of streams id ≡ Reading → Stands Reading id streams
reader-stands streams zero other e = absurd (other refl)
reader-stands streams (suc zero) other e = cc
reader-stands streams (suc (suc k)) other e = stands streams k Reading (λ same. cc) e

-- a stream that is written in the list
kinds-other : (streams : List MemStream) (i : ℕ) (s : MemStream) (k : ℕ) → k ≢ suc (suc i) → kinds_of (set streams i s) k ≡ kinds_of streams k
kinds-other streams i s zero other = refl
kinds-other streams i s (suc zero) other = refl
kinds-other streams i s (suc (suc j)) other = ap kind_of (get_or-set_other streams i j s Closed (λ same. other (ap (λ n. suc (suc n)) same)))

readers-other : (input : Source) (streams : List MemStream) (i : ℕ) (s : MemStream) (k : ℕ) → k ≢ suc (suc i) → readers_of input (set streams i s) k ≡ readers_of input streams k
readers-other input streams i s zero other = refl
readers-other input streams i s (suc zero) other = refl
readers-other input streams i s (suc (suc j)) other = ap reader_of (get_or-set_other streams i j s Closed (λ same. other (ap (λ n. suc (suc n)) same)))

writers-other : (streams : List MemStream) (i : ℕ) (s : MemStream) (k : ℕ) → k ≢ suc (suc i) → writers_of (set streams i s) k ≡ writers_of streams k
writers-other streams i s zero other = refl
writers-other streams i s (suc zero) other = refl
writers-other streams i s (suc (suc j)) other = ap writer_of (get_or-set_other streams i j s Closed (λ same. other (ap (λ n. suc (suc n)) same)))

-- a function that differs at one argument at most
one-differs : {A : Type 0} (i : ℕ) (f g : ℕ → A) → ((k : ℕ) → k ≢ i → f k ≡ g k) → f i ≡ g i → f ≡ g
one-differs i f g others here = fun_ext (λ k. by k (cases_eq k i))
  where
    by : (k : ℕ) → (k ≡ i) ⊎ (k ≢ i) → f k ≡ g k
    by k (inl same) = ap f same ∙ here ∙ ap g (sym same)
    by k (inr other) = others k other

-- a reader moves on in its place
pub kinds-kept : (streams : List MemStream) (id : ℕ) (s : MemStream) → Stands Reading id streams → kind_of s ≡ Reading → kinds_of (set streams (id - 2) s) ≡ kinds_of streams
kinds-kept streams id s here kind = one-differs (suc (suc (id - 2))) (kinds_of (set streams (id - 2) s)) (kinds_of streams) (kinds-other streams (id - 2) s)
    (ap kind_of (get_or-set_same streams (id - 2) s Closed here.within) ∙ kind ∙ sym here.is)

writers-kept : (streams : List MemStream) (i : ℕ) (s : MemStream) → i < length streams → writer_of s ≡ writer_of (get_or streams i Closed) → writers_of (set streams i s) ≡ writers_of streams
writers-kept streams i s h e = one-differs (suc (suc i)) (writers_of (set streams i s)) (writers_of streams) (writers-other streams i s) (ap writer_of (get_or-set_same streams i s Closed h) ∙ e)

readers-kept : (input : Source) (streams : List MemStream) (i : ℕ) (s : MemStream) → i < length streams → reader_of s ≡ reader_of (get_or streams i Closed) → readers_of input (set streams i s) ≡ readers_of input streams
readers-kept input streams i s h e = one-differs (suc (suc i)) (readers_of input (set streams i s)) (readers_of input streams) (readers-other input streams i s) (ap reader_of (get_or-set_same streams i s Closed h) ∙ e)

reads-at : (input : Source) (outside : Outside) (streams : List MemStream) (i : ℕ) (s : MemStream) (result : Result ℕ WorldFault) (before now : List ℕ) → i < length streams →
    writer_of s ≡ writer_of (get_or streams i Closed) → Gives result (reader_of (get_or streams i Closed)) (reader_of s) before now →
    Reads (suc (suc i)) (memory_state input outside streams) before result now (memory_state input outside (set streams i s))
reads-at input outside streams i s (Ok n) before now h writer gives = record {
  within = gives.within;
  bytes = gives.bytes;
  ends = gives.ends;
  moves = record {
    outside = refl;
    writers = writers-kept streams i s h writer;
    rest = ap (λ (x : MemStream). (reader_of x).rest) (get_or-set_same streams i s Closed h) ∙ gives.rest;
    ending = ap (λ (x : MemStream). (reader_of x).ending) (get_or-set_same streams i s Closed h) ∙ gives.ending;
    others = readers-other input streams i s;
  };
}
reads-at input outside streams i s (Err Failed) before now h writer gives =
    let r : readers_of input (set streams i s) ≡ readers_of input streams = readers-kept input streams i s h gives.unchanged in
    let w : writers_of (set streams i s) ≡ writers_of streams = writers-kept streams i s h writer in
    record { asked = gives.asked; rest = gives.rest; ending = gives.ending; unchanged = λ j. record { outside = outside; readers = r j; writers = w j } }
reads-at input outside streams i s (Err NoMemory) before now h writer gives = absurd gives

-- `was` is the stream as the list has it
pub reads : (input : Source) (outside : Outside) (streams : List MemStream) (id : ℕ) (was s : MemStream) (result : Result ℕ WorldFault) (before now : List ℕ) → Stands Reading id streams →
    was ≡ get_or streams (id - 2) was → writer_of s ≡ writer_of was → Gives result (reader_of was) (reader_of s) before now →
    Reads id (memory_state input outside streams) before result now (memory_state input outside (set streams (id - 2) s))
reads input outside streams id was s result before now here is writer gives =
    let there : was ≡ get_or streams (id - 2) Closed = is ∙ get_or_default streams (id - 2) was Closed here.within in
    subst (λ (k : ℕ). Reads k (memory_state input outside streams) before result now (memory_state input outside (set streams (id - 2) s))) (sym here.number)
    (reads-at input outside streams (id - 2) s result before now here.within (writer ∙ ap writer_of there)
    (subst (λ (x : MemStream). Gives result (reader_of x) (reader_of s) before now) there gives))

-- a stream that is added
slot-other : (streams : List MemStream) (s : MemStream) (k : ℕ) → k ≢ length streams → get_or (streams ++ s ∷ []) k Closed ≡ get_or streams k Closed
slot-other streams s k other = elim (cases_lt k (length streams)) [
  | inl low ↦ get_or_append_left streams (s ∷ []) Closed k low
  | inr high ↦ get_or_past (streams ++ s ∷ []) k Closed (omega (arith, length-append streams (s ∷ []), high, λ (same : k ≡ length streams). other same)) ∙ sym (get_or_past streams k Closed high)
]

slot-last : (streams : List MemStream) (s : MemStream) → get_or (streams ++ s ∷ []) (length streams) Closed ≡ s
slot-last streams s = get_or_push streams s Closed (length streams) refl

-- at each number but one a function of the streams keeps its value
added-others : (input : Source) (outside new_outside : Outside) (streams : List MemStream) (s : MemStream) → KeepsOthers (suc (suc (length streams))) (memory_state input outside streams) (memory_state input new_outside (streams ++ s ∷ []))
added-others input outside new_outside streams s = record { readers = readers; writers = writers }
  where
    readers : (k : ℕ) → k ≢ suc (suc (length streams)) → readers_of input (streams ++ s ∷ []) k ≡ readers_of input streams k
    readers zero other = refl
    readers (suc zero) other = refl
    readers (suc (suc k)) other = ap reader_of (slot-other streams s k (λ same. other (ap (λ n. suc (suc n)) same)))

    writers : (k : ℕ) → k ≢ suc (suc (length streams)) → writers_of (streams ++ s ∷ []) k ≡ writers_of streams k
    writers zero other = refl
    writers (suc zero) other = refl
    writers (suc (suc k)) other = ap writer_of (slot-other streams s k (λ same. other (ap (λ n. suc (suc n)) same)))

added-kinds : (streams : List MemStream) (s : MemStream) → Opens (kind_of s) (suc (suc (length streams))) (kinds_of streams) (kinds_of (streams ++ s ∷ []))
added-kinds streams s = record {
  was_closed = ap kind_of (get_or_past streams (length streams) Closed (omega arith));
  opened = one-differs (suc (suc (length streams))) (kinds_of (streams ++ s ∷ [])) (set_kind (suc (suc (length streams))) (kind_of s) (kinds_of streams)) others
      (ap kind_of (slot-last streams s) ∙ sym (ap (λ b. cond b (kind_of s) (kinds_of streams (suc (suc (length streams))))) (eq-eqb (suc (suc (length streams))) (suc (suc (length streams))) refl)));
}
  where
    kinds : (k : ℕ) → k ≢ suc (suc (length streams)) → kinds_of (streams ++ s ∷ []) k ≡ kinds_of streams k
    kinds zero other = refl
    kinds (suc zero) other = refl
    kinds (suc (suc k)) other = ap kind_of (slot-other streams s k (λ same. other (ap (λ n. suc (suc n)) same)))

    others : (k : ℕ) → k ≢ suc (suc (length streams)) → kinds_of (streams ++ s ∷ []) k ≡ set_kind (suc (suc (length streams))) (kind_of s) (kinds_of streams) k
    others k other = kinds k other ∙ sym (ap (λ b. cond b (kind_of s) (kinds_of streams k)) (ne_eqb k (suc (suc (length streams))) other))

pub adds-kinds : {s : MemStream} {id : ℕ} {old new : List MemStream} → AddsStream s id old new → Opens (kind_of s) id (kinds_of old) (kinds_of new)
adds-kinds {s} {id} {old} {new} adds =
    subst (λ (k : ℕ). Opens (kind_of s) k (kinds_of old) (kinds_of new)) (sym adds.number)
    (subst (λ (streams : List MemStream). Opens (kind_of s) (suc (suc (length old))) (kinds_of old) (kinds_of streams)) (sym adds.streams) (added-kinds old s))

adds-others : {input : Source} {outside new_outside : Outside} {s : MemStream} {id : ℕ} {old new : List MemStream} → AddsStream s id old new → KeepsOthers id (memory_state input outside old) (memory_state input new_outside new)
adds-others {input} {outside} {new_outside} {s} {id} {old} {new} adds =
    subst (λ (k : ℕ). KeepsOthers k (memory_state input outside old) (memory_state input new_outside new)) (sym adds.number)
    (subst (λ (streams : List MemStream). KeepsOthers (suc (suc (length old))) (memory_state input outside old) (memory_state input new_outside streams)) (sym adds.streams) (added-others input outside new_outside old s))

adds-reader : (input : Source) {s : MemStream} {id : ℕ} {old new : List MemStream} → AddsStream s id old new → readers_of input new id ≡ reader_of s
adds-reader input {s} {id} {old} {new} adds =
    ap (readers_of input new) adds.number ∙ ap (λ (streams : List MemStream). reader_of (get_or streams (length old) Closed)) adds.streams ∙ ap reader_of (slot-last old s)

adds-writer : {s : MemStream} {id : ℕ} {old new : List MemStream} → AddsStream s id old new → writers_of new id ≡ writer_of s
adds-writer {s} {id} {old} {new} adds =
    ap (writers_of new) adds.number ∙ ap (λ (streams : List MemStream). writer_of (get_or streams (length old) Closed)) adds.streams ∙ ap writer_of (slot-last old s)

-- a reader is added, or there is no memory
pub opens-to-read : (name : List ℕ) (input : Source) (outside : Outside) (source : MemSource) (result : Result ℕ WorldFault) (old new : List MemStream) →
    IsReaderOf (outside (Named name)) (source_of source) → IfOk result (λ id. AddsStream (Reader source) id old new) → OnErr result (new ≡ old) → IfErr result (λ fault. fault ≡ NoMemory) →
    OpensToRead name (memory_state input outside old) result (memory_state input outside new)
opens-to-read name input outside source (Ok id) old new is ok err fault = record {
  opens = is.opens;
  bytes = is.bytes ∙ ap (λ (s : Source). Some s.rest) (sym (adds-reader input ok));
  ending = ap (λ (s : Source). s.ending) (adds-reader input ok) ∙ is.ending;
  outside = refl;
  others = adds-others ok;
}
opens-to-read name input outside source (Err Failed) old new is ok err fault = cc
opens-to-read name input outside source (Err NoMemory) old new is ok err fault = ap (memory_state input outside) err

-- a writer is added, and its name opened
pub opens-writer : (name held : List ℕ) (append : Bool) (id : ℕ) (input : Source) (outside new_outside : Outside) (old new : List MemStream) → held ≡ name → (outside (Named name)).opens ≡ true →
    new_outside ≡ replaced (Named name) (opened append (outside (Named name))) outside → AddsStream (Writer held) id old new →
    OpensWriter name append id (memory_state input outside old) (memory_state input new_outside new)
opens-writer name held append id input outside new_outside old new same opens changed adds = record {
  opens = opens;
  outside = changed;
  writer = adds-writer adds ∙ ap (λ (text : List ℕ). Named text) same;
  others = adds-others adds;
}
