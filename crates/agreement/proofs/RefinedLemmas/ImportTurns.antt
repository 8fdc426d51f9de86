-- What follows the host's answer: the operands that stay, and the cell that the answer stands for.
use Rattle.std.proofs.Common.{◌≡◌, inl, inr, ℕ, ◌+◌, Bool, List, ◌∷◌, Option, Some, None, refl, sym, subst, arith}
use Rattle.sem_primitives.specs.declared.sorts.Sort.{Sort}
use Rattle.world_core.specs.WorldState.{Action}
use Rattle.wasm_types.specs.Syntax.{Instructions}
use Rattle.wasm_store.specs.Memories.{MemoryForm}
use Rattle.wasm_store.specs.declared.trap.TrapKind.{TrapKind}
use Rattle.wasm_store.specs.declared.word.Word.{Word}
use Rattle.wasm_model.specs.Machines.{Asks, answered, with_operands}
use Rattle.wasm_model.specs.Machines as real
use Rattle.wasm_model.specs.declared.host.HostAnswer.{HostAnswer}
use Rattle.wasm_model.specs.declared.host.HostAnswer.TheVariants as told
use Rattle.mid_program.specs.Mid.{Kind}
use Rattle.host_step.specs.HostState.{HostState}
use Rattle.host_step.specs.HostStep.{HostStep}
use Rattle.lower_model.specs.Cells.{Cell}
use Rattle.lower_model.specs.ImportCalls.{Host}
use Rattle.lower_model.specs.Machine.{Code, Frame, Label, Store, Stuck, with_answer}
use Rattle.agreement.specs.Refined.Owners.{owners, waiting}
use Rattle.agreement.specs.Refined.Refined.{As, CodeAs, NextAs, RestAs}
use Rattle.agreement.specs.Refined.Words.{WordsAs, arrays_made}
use Rattle.agreement.proofs.RefinedLemmas.LentArrays.{rest_after}
use Rattle.agreement.proofs.RefinedLemmas.ImportCalls.{Outcome}
use Rattle.agreement.proofs.RefinedLemmas.Carrying.{words_carried}
use Rattle.agreement.proofs.RefinedLemmas.Settling.{at_as}

module _ {used : ℕ → Bool} {bs : List Bool} {u : Code} {K : List Label} {L : List Cell} {F : List Frame} {k : Instructions} {G : Store} {c : real.Conf} {s : HostState} (ks : List Kind) (rest : RestAs used bs u K L F G c s) (code-is : CodeAs used bs k c.frame.code)
    (vs : List Cell) (ws : List Word) (a : WordsAs (arrays_made G.host) s.names vs ws) where
  -- who owns what the call does not take
  abbrev pub others : Sort → ℕ → ℕ
  others t q = owners t q vs ws + (owners t q L c.frame.locals + (owners t q G.globals c.globals + waiting t q F c.callers))

  abbrev after : real.Conf
  after = with_operands c ws

  answer_as : (o : Option (Option Cell × Host)) (x : Option Word) (s1 : HostState) (m1 : MemoryForm) → m1 ≡ c.memory → Outcome s.names G.host others o (told.Done x) s1 → As used bs u (with_answer o ks vs K L F k G) (answered (record after { memory = m1 }) x) s1
  answer_as None x s1 m1 me h = tt
  answer_as (Some (None, h1)) None s1 m1 me h =
      at_as used bs u ks K L F (record G { host = h1 }) (record after { memory = m1 }) s1 (rest_after used bs u K L F G c s rest others (λ t q. omega arith) (None, h1) None s1 ws m1 me h) k vs
      (words_carried (arrays_made G.host) (arrays_made h1) s.names s1.names others h.told.carried vs ws (λ t q. omega arith) a) code-is (λ t q. (let z = h.told.once t q in omega arith))
  answer_as (Some (Some y, h1)) (Some x) s1 m1 me h =
      at_as used bs u ks K L F (record G { host = h1 }) (answered (record after { memory = m1 }) (Some x)) s1 (rest_after used bs u K L F G c s rest others (λ t q. omega arith) (Some y, h1) (Some x) s1 (x ∷ ws) m1 me h) k (y ∷ vs)
      (h.told.word, words_carried (arrays_made G.host) (arrays_made h1) s.names s1.names others h.told.carried vs ws (λ t q. omega arith) a) code-is (λ t q. (let z = h.told.once t q in omega arith))
  answer_as (Some (None, h1)) (Some x) s1 m1 me h = absurd h.told.word
  answer_as (Some (Some y, h1)) None s1 m1 me h = absurd h.told.word

  trap_as : (o : Option (Option Cell × Host)) (kind : TrapKind) (s1 : HostState) → Outcome s.names G.host others o (told.Trap kind) s1 → with_answer o ks vs K L F k G ≡ Stuck
  trap_as None kind s1 h = refl
  trap_as (Some r) kind s1 h = absurd h

  -- a turn that asks the host, where a call over words comes to what it comes to over cells
  pub comes_as : (n : ℕ) (args : List Word) (o : Option (Option Cell × Host)) → ((v : HostAnswer) (s1 : HostState) (out : List Action) → HostStep n s args c.memory.bytes v s1 out → Outcome s.names G.host others o v s1) →
      NextAs used bs u (with_answer o ks vs K L F k G) c s (Asks n args after)
  comes_as n args o call-is = record {
    taken = λ c1 s1 out t.
        subst (λ (z : real.Conf). As used bs u (with_answer o ks vs K L F k G) z s1) (sym t.2)
        (answer_as o t.0 s1 c1.memory t.1.0 (call-is (told.Done t.0) s1 out t.1.1));
    over = λ e s1 out t. inr (inl (trap_as o t.0 s1 (call-is (told.Trap t.0) s1 out t.3.1)));
  }
