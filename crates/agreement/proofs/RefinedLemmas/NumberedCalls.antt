-- A call by its number in the table.
use Rattle.std.proofs.Common.{◌≡◌, ℕ, ◌+◌, List, [], ◌∷◌, ◌++◌, Some, subst}
use Rattle.sem_primitives.specs.declared.sorts.Sort.{Sort}
use Rattle.wasm_store.specs.declared.word.Word.{Word}
use Rattle.wasm_model.specs.declared.host.HostAnswer.{HostAnswer}
use Rattle.world_core.specs.WorldState.{Action}
use Rattle.host_step.specs.HostState.{HostState, Names}
use Rattle.host_step.specs.HostStep.{HostStep, StepIf, StepOf}
use Rattle.lower_model.specs.Cells.{Cell}
use Rattle.lower_model.specs.ImportCalls.{Host, call, look}
use Rattle.host_imports.specs.Imports.{import_at}
use Rattle.host_imports.specs.declared.import.Import.{Import}
use Rattle.agreement.specs.Refined.Growing.{ArraysGrow}
use Rattle.agreement.specs.Refined.Words.{ArraysFit, WordAs, WordsAs, arrays_made, state_with}
use Rattle.agreement.specs.Refined.Owners.{owners, wanted}
use Rattle.agreement.proofs.RefinedLemmas.Decoding.{AllLive}
use Rattle.agreement.proofs.RefinedLemmas.ImportCalls.{Outcome, call_as}
use Rattle.agreement.proofs.RefinedLemmas.FreedArrays.{freed_as}
use Rattle.agreement.proofs.RefinedLemmas.LookingCalls.{look_as}

module _ (mem behind : List ℕ) (grow : ArraysGrow) (N : Names) (h : Host) (others : Sort → ℕ → ℕ) (fit : ArraysFit (arrays_made h) N.arrays) (n : ℕ) (i : Import) (at-n : import_at n ≡ Some i) where
  step_of : (ws : List Word) (v : HostAnswer) (s1 : HostState) (out : List Action) → HostStep n (state_with N h) ws (mem ++ behind) v s1 out → StepOf i (state_with N h) ws (mem ++ behind) v s1 out
  step_of ws v s1 out s = subst (λ o. StepIf o (state_with N h) ws (mem ++ behind) v s1 out) at-n s

  -- a call by number, over words that stand for the cells that it takes
  pub called_as : (cs : List Cell) (ws : List Word) → WordsAs (arrays_made h) N cs ws → AllLive N.arrays cs → ((s : Sort) (q : ℕ) → owners s q cs ws + others s q ≡ wanted N s q) →
      (v : HostAnswer) (s1 : HostState) (out : List Action) → HostStep n (state_with N h) ws (mem ++ behind) v s1 out → Outcome N h others (call mem i cs h) v s1
  called_as cs ws a live once v s1 out s =
      call_as mem behind grow N h others cs ws a live fit once (freed_as mem (mem ++ behind) grow N h others fit cs ws a once) i v s1 out (step_of ws v s1 out s)

  -- a look by number
  pub looked_as : ((s : Sort) (q : ℕ) → others s q ≡ wanted N s q) → (c : Cell) (w : Word) → WordAs (arrays_made h) N c w → (v : HostAnswer) (s1 : HostState) (out : List Action) →
      HostStep n (state_with N h) (w ∷ []) (mem ++ behind) v s1 out → Outcome N h others (look i c h) v s1
  looked_as once c w a v s1 out s = look_as (mem ++ behind) grow N h others fit once i c w a v s1 out (step_of (w ∷ []) v s1 out s)
