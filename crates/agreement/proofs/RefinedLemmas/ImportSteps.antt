-- The step that asks the host, whichever import it is.
use Rattle.std.proofs.Common.{◌≡◌, ℕ, ◌+◌, Bool, true, false, nat_lt, List, length, take, drop, reverse, Some, refl, subst, arith, if◌then◌else◌}
use Rattle.sem_primitives.specs.declared.sorts.Sort.{Sort}
use Rattle.world_core.specs.WorldState.{Action}
use Rattle.wasm_types.specs.Syntax.{Instructions}
use Rattle.wasm_store.specs.declared.word.Word.{Word}
use Rattle.wasm_model.specs.Machines.{Asks, Ends, asked, with_operands}
use Rattle.wasm_model.specs.Machines as real
use Rattle.wasm_model.specs.declared.host.HostAnswer.{HostAnswer}
use Rattle.wasm_model.specs.declared.ends.End.TheVariants as ends
use Rattle.mid_program.specs.Mid.{Kind}
use Rattle.host_step.specs.HostState.{HostState}
use Rattle.host_step.specs.HostStep.{HostStep}
use Rattle.lower_model.specs.Cells.{Cell}
use Rattle.lower_model.specs.ImportCalls.{call}
use Rattle.host_imports.specs.Imports.{import_at, import_type}
use Rattle.lower_model.specs.Machine.{Code, Frame, Label, Store, all_live, ask, assigning_after, guarded, width, with_answer}
use Rattle.host_imports.specs.declared.import.Import.{Import}
use Rattle.agreement.specs.Refined.Growing.{ArraysGrow}
use Rattle.agreement.specs.Refined.Owners.{owners, waiting, wanted}
use Rattle.agreement.specs.Refined.Refined.{NextAs, RunAs}
use Rattle.agreement.specs.Refined.Words.{arrays_made, state_with}
use Rattle.agreement.proofs.RefinedLemmas.ImportTurns.{comes_as}
use Rattle.agreement.proofs.RefinedLemmas.LentArrays.{all_live_as}
use Rattle.agreement.proofs.RefinedLemmas.ImportCalls.{Outcome}
use Rattle.agreement.proofs.RefinedLemmas.FrameSteps.{assigning_as, stuck_as, untyped_as}
use Rattle.agreement.proofs.RefinedLemmas.MovedOperands.{owners_reverse, owners_split, words_drop, words_reverse, words_take}
use Rattle.agreement.proofs.RefinedLemmas.NumberedCalls.{called_as}

module _ (used : ℕ → Bool) (bs : List Bool) (u : Code) (grow : ArraysGrow) (ks : List Kind) (vs : List Cell) (K : List Label) (L : List Cell) (F : List Frame) (k : Instructions) (G : Store) (c : real.Conf) (s : HostState)
    (run : RunAs used bs u vs K L F k G c.frame.values c.frame.code c s) (n : ℕ) (i : Import) (at-n : import_at n ≡ Some i) where
  abbrev w : ℕ
  w = width i

  abbrev beside : Sort → ℕ → ℕ
  beside t q = owners t q L c.frame.locals + (owners t q G.globals c.globals + waiting t q F c.callers)

  abbrev others : Sort → ℕ → ℕ
  others t q = owners t q (drop w vs) (drop w c.frame.values) + beside t q

  abbrev cells : List Cell
  cells = reverse (take w vs)

  abbrev args : List Word
  args = reverse (take w c.frame.values)

  once_of : (t : Sort) (q : ℕ) → owners t q cells args + others t q ≡ wanted s.names t q
  once_of t q =
      let a = owners_reverse (arrays_made G.host) s.names t q (take w vs) (take w c.frame.values) (words_take (arrays_made G.host) s.names w vs c.frame.values run.operands) in
      let b = owners_split t q w vs c.frame.values in
      let o = run.once t q in
      omega arith

  -- what the call comes to
  comes_to : all_live L F G.globals cells ≡ true → (v : HostAnswer) (s1 : HostState) (out : List Action) → HostStep n s args c.memory.bytes v s1 out → Outcome s.names G.host others (call u.memory i cells G.host) v s1
  comes_to l v s1 out h =
      called_as u.memory run.rest.behind grow s.names G.host others run.rest.arrays n i at-n cells args
      (words_reverse (arrays_made G.host) s.names (take w vs) (take w c.frame.values) (words_take (arrays_made G.host) s.names w vs c.frame.values run.operands))
      (all_live_as used bs u K L F G c s run.rest cells l) once_of v s1 out
      (subst (λ (b : List ℕ). HostStep n (state_with s.names G.host) args b v s1 out) run.rest.memory (subst (λ (z : HostState). HostStep n z args c.memory.bytes v s1 out) run.rest.host h))

  -- THE STEP: whatever the host answers, and whatever number it gives out, the two machines are at the same place
  pub asked_as : NextAs used bs u (ask u.memory (Some i) ks vs K L F k G) c s (asked n (import_type i) c)
  asked_as = within (nat_lt (length c.frame.values) (length (import_type i).params))
    where
      asks : (b : Bool) → all_live L F G.globals cells ≡ b → NextAs used bs u (guarded b (with_answer (call u.memory i cells G.host) ks (drop w vs) K L F k (record G { assigning = assigning_after i G }))) c s (Asks n args (with_operands c (drop w c.frame.values)))
      asks false l = stuck_as c s (Asks n args (with_operands c (drop w c.frame.values)))
      asks true l = comes_as ks (assigning_as run.rest (assigning_after i G)) run.code-is (drop w vs) (drop w c.frame.values) (words_drop (arrays_made G.host) s.names w vs c.frame.values run.operands) n args (call u.memory i cells G.host) (comes_to l)

      within : (b : Bool) → NextAs used bs u (ask u.memory (Some i) ks vs K L F k G) c s (if b then Ends ends.Stuck else Asks n args (with_operands c (drop w c.frame.values)))
      within true = untyped_as c s (ask u.memory (Some i) ks vs K L F k G)
      within false = asks (all_live L F G.globals cells) refl
