-- A call of an import over operands: arrays that are lent to the host are there, and after its answer all that was there stands for the same.
use Rattle.std.proofs.Common.{◌≡◌, ℕ, zero, suc, ◌+◌, ◌<◌, ◌≤◌, Bool, true, false, ◌&&◌, ◌||◌, nat_lt, pos, List, [], ◌∷◌, Option, Some, refl, sym, ap, ◌∙◌, arith, true≢false}
use Rattle.std.proofs.lemmas.Bool.{ltb-true}
use Rattle.sem_primitives.specs.declared.sorts.Sort.{Sort}
use Rattle.wasm_store.specs.Memories.{MemoryForm}
use Rattle.wasm_store.specs.declared.word.Word.{Word}
use Rattle.wasm_model.specs.Frames.{with_values}
use Rattle.wasm_model.specs.Machines.{CallerForm}
use Rattle.wasm_model.specs.Machines as real
use Rattle.host_step.specs.HostState.{HostState, Names}
use Rattle.host_step.specs.Tables.{look}
use Rattle.lower_model.specs.Cells.{Cell, Bits, Held, IteratorOf, OwnedArray, LentArray, Gone, has_owner}
use Rattle.lower_model.specs.ImportCalls.{Host}
use Rattle.lower_model.specs.Machine.{Code, Frame, Label, Store, all_live, is_live, live_if_lent, owner_waits}
use Rattle.agreement.specs.Refined.Owners.{owners, waiting}
use Rattle.agreement.specs.Refined.Refined.{FramesAs, RestAs}
use Rattle.agreement.specs.Refined.Words.{arrays_made}
use Rattle.agreement.proofs.RefinedLemmas.ImportCalls.{AnsweredAs}
use Rattle.agreement.proofs.RefinedLemmas.Carrying.{frames_carried, labels_carried, words_carried}
use Rattle.agreement.proofs.RefinedLemmas.Decoding.{AllLive, LiveIn}
use Rattle.agreement.proofs.RefinedLemmas.MovedOperands.{owner_found}

pub both : (a b : Bool) → a && b ≡ true → (a ≡ true) × (b ≡ true)
both true b e = (refl, e)
both false b e = absurd (true≢false (sym e))

module _ (used : ℕ → Bool) (bs : List Bool) where
  waits_found : (made : ℕ) (N : Names) (a : ℕ) (F : List Frame) (rs : List CallerForm) → FramesAs used bs made N F rs → owner_waits a F ≡ true → (m : ℕ) × (look N.arrays (pos m) ≡ Some a)
  waits_found made N a [] rs f e = absurd (true≢false (sym e))
  waits_found made N a (x ∷ F) [] f e = absurd f
  waits_found made N a (x ∷ F) (r ∷ rs) f e = by (has_owner a x.locals) refl e (λ h. waits_found made N a F rs f.1 h)
    where
      by : (b : Bool) → has_owner a x.locals ≡ b → b || owner_waits a F ≡ true → (owner_waits a F ≡ true → (m : ℕ) × (look N.arrays (pos m) ≡ Some a)) → (m : ℕ) × (look N.arrays (pos m) ≡ Some a)
      by true h g more = owner_found made N a x.locals r.frame.locals f.0.locals h
      by false h g more = more g

module _ (used : ℕ → Bool) (bs : List Bool) (u : Code) (K : List Label) (L : List Cell) (F : List Frame) (G : Store) (c : real.Conf) (s : HostState) (rest : RestAs used bs u K L F G c s) where
  -- what may be given to the host is there
  live_as : (a : ℕ) → is_live L F G.globals a ≡ true → (m : ℕ) × (look s.names.arrays (pos m) ≡ Some a)
  live_as a e = first (nat_lt a 2) refl e
    where
      frames : owner_waits a F ≡ true → (m : ℕ) × (look s.names.arrays (pos m) ≡ Some a)
      frames h = waits_found used bs (arrays_made G.host) s.names a F c.callers rest.callers h

      locals : (b : Bool) → has_owner a L ≡ b → b || owner_waits a F ≡ true → (m : ℕ) × (look s.names.arrays (pos m) ≡ Some a)
      locals true h g = owner_found (arrays_made G.host) s.names a L c.frame.locals rest.locals h
      locals false h g = frames g

      globals : (b : Bool) → has_owner a G.globals ≡ b → b || (has_owner a L || owner_waits a F) ≡ true → (m : ℕ) × (look s.names.arrays (pos m) ≡ Some a)
      globals true h g = owner_found (arrays_made G.host) s.names a G.globals c.globals rest.globals h
      globals false h g = locals (has_owner a L) refl g

      small : (k : ℕ) → k < 2 → (m : ℕ) × (look s.names.arrays (pos m) ≡ Some k)
      small zero l = (0, rest.arrays.argv)
      small (suc zero) l = (1, rest.arrays.environ)
      small (suc (suc k)) l = absurd (omega arith)

      first : (b : Bool) → nat_lt a 2 ≡ b → b || (has_owner a G.globals || (has_owner a L || owner_waits a F)) ≡ true → (m : ℕ) × (look s.names.arrays (pos m) ≡ Some a)
      first true h g = small a (ltb-true a 2 h)
      first false h g = globals (has_owner a G.globals) refl g

  one_live : (d : Cell) → live_if_lent L F G.globals d ≡ true → LiveIn s.names.arrays d
  one_live (LentArray a) e = live_as a e
  one_live (Bits x) e = tt
  one_live (Held x) e = tt
  one_live (IteratorOf x) e = tt
  one_live (OwnedArray x) e = tt
  one_live Gone e = tt

  pub all_live_as : (cs : List Cell) → all_live L F G.globals cs ≡ true → AllLive s.names.arrays cs
  all_live_as [] e = tt
  all_live_as (d ∷ cs) e = let h = both (live_if_lent L F G.globals d) (all_live L F G.globals cs) e in (one_live d h.0, all_live_as cs h.1)

  -- after an answer: everything that was there stands for the same
  module _ (others : Sort → ℕ → ℕ) (inside : (t : Sort) (q : ℕ) → owners t q L c.frame.locals + (owners t q G.globals c.globals + waiting t q F c.callers) ≤ others t q) where
    pub rest_after : (r : Option Cell × Host) (w : Option Word) (s1 : HostState) (vals : List Word) (m1 : MemoryForm) → m1 ≡ c.memory → AnsweredAs s.names G.host others r w s1 →
        RestAs used bs u K L F (record G { host = r.1 }) (record c { frame = with_values c.frame vals; memory = m1 }) s1
    rest_after r w s1 vals m1 me x =
        let made = arrays_made G.host in
        let made1 = arrays_made r.1 in
        let k = x.told.carried in
        record {
          labels = labels_carried made made1 s.names s1.names others k used bs K c.frame.labels rest.labels;
          locals = words_carried made made1 s.names s1.names others k L c.frame.locals (λ t q. (let h = inside t q in omega arith)) rest.locals;
          globals = words_carried made made1 s.names s1.names others k G.globals c.globals (λ t q. (let h = inside t q in omega arith)) rest.globals;
          callers = frames_carried made made1 s.names s1.names others k used bs F c.callers (λ t q. (let h = inside t q in omega arith)) rest.callers;
          result = rest.result;
          host = x.host;
          arrays = x.told.arrays;
          behind = rest.behind;
          memory = ap (λ (y : MemoryForm). y.bytes) me ∙ rest.memory;
        }
