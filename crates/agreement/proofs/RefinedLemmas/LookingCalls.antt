-- An import that only looks at its argument: `dup`, and `iter_next`. What is looked at stays.
use Rattle.std.proofs.Common.{◌≡◌, ◌⊎◌, inl, inr, ℕ, cond, List, [], ◌∷◌, Option, Some, None, Result, Ok, refl, sym, subst}
use Rattle.awk_values.specs.declared.fault.Fault.{Fault}
use Rattle.sem_primitives.specs.Table.{arguments_of, answer_of, can_fault, meaning}
use Rattle.sem_primitives.specs.InTurn.{in_turn}
use Rattle.sem_primitives.specs.declared.sorts.Sort.{Sort}
use Rattle.sem_primitives.specs.declared.table.Primitive.{Primitive}
use Rattle.sem_primitives.specs.declared.table.Primitive.TheVariants as row
use Rattle.wasm_store.specs.declared.trap.TrapKind.{TrapKind}
use Rattle.wasm_store.specs.declared.trap.TrapKind.TheVariants.{BadHandle}
use Rattle.wasm_store.specs.declared.word.Word.{Word}
use Rattle.wasm_store.specs.declared.word.Word.TheVariants.{I32, I64}
use Rattle.wasm_model.specs.declared.host.HostAnswer.{HostAnswer}
use Rattle.world_core.specs.WorldState.{Action}
use Rattle.host_step.specs.HostState.{HostState, Names}
use Rattle.host_step.specs.Tables.{look}
use Rattle.host_step.specs.Arguments.{and_then, decode, said}
use Rattle.host_step.specs.HostStep.{StepBy, StepOf, Refuses, come, carried, refuses}
use Rattle.host_step.specs.HostStep as host
use Rattle.host_imports.specs.Imports.{import_answer, spends}
use Rattle.lower_model.specs.Cells.{Cell, Bits, Held, IteratorOf, OwnedArray, LentArray, Gone}
use Rattle.lower_model.specs.ImportCalls.{Host, acted, acts, looked_at}
use Rattle.lower_model.specs.ImportCalls as value
use Rattle.host_imports.specs.declared.import.Import.{Import}
use Rattle.host_imports.specs.declared.import.Import.TheVariants.{OfPrimitive, Variadic, Arg, Drop, IterFree, FreeArray}
use Rattle.agreement.specs.Refined.Growing.{ArraysGrow}
use Rattle.agreement.specs.Refined.Words.{ArraysFit, WordAs, arrays_made, state_with}
use Rattle.agreement.specs.Refined.Owners.{wanted}
use Rattle.agreement.proofs.RefinedLemmas.Carrying.{carried_same}
use Rattle.agreement.proofs.RefinedLemmas.Decoding.{small_signed}
use Rattle.agreement.proofs.RefinedLemmas.ImportCalls.{Outcome, RowOk, Spent, acted_as, fit_same, primitive_same}

pub looking : (p : Primitive) → ((p ≡ row.Dup) ⊎ (p ≡ row.IterNext)) ⊎ ((c : Cell) → looked_at (OfPrimitive p) c ≡ None)
looking row.Num = inr (λ c. refl)
looking row.Lit = inr (λ c. refl)
looking row.Uninit = inr (λ c. refl)
looking row.Dup = inl (inl refl)
looking row.ToNum = inr (λ c. refl)
looking row.IntOf = inr (λ c. refl)
looking row.Truth = inr (λ c. refl)
looking row.Compare = inr (λ c. refl)
looking row.Concat = inr (λ c. refl)
looking row.Pow = inr (λ c. refl)
looking row.Fail = inr (λ c. refl)
looking row.GetSpecial = inr (λ c. refl)
looking row.SetSpecial = inr (λ c. refl)
looking row.Field = inr (λ c. refl)
looking row.SetField = inr (λ c. refl)
looking row.NewArray = inr (λ c. refl)
looking row.Elem = inr (λ c. refl)
looking row.SetElem = inr (λ c. refl)
looking row.Has = inr (λ c. refl)
looking row.Delete = inr (λ c. refl)
looking row.Join = inr (λ c. refl)
looking row.Iter = inr (λ c. refl)
looking row.IterNext = inl (inr refl)
looking row.Length = inr (λ c. refl)
looking row.Matches = inr (λ c. refl)
looking row.Match = inr (λ c. refl)
looking row.Sub = inr (λ c. refl)
looking row.SubResult = inr (λ c. refl)
looking row.Split = inr (λ c. refl)
looking row.Substr = inr (λ c. refl)
looking row.SubstrFrom = inr (λ c. refl)
looking row.Index = inr (λ c. refl)
looking row.Lower = inr (λ c. refl)
looking row.Upper = inr (λ c. refl)
looking row.NextMain = inr (λ c. refl)
looking row.Getline = inr (λ c. refl)
looking row.GetlineVar = inr (λ c. refl)
looking row.GetlineFile = inr (λ c. refl)
looking row.GetlineVarFile = inr (λ c. refl)
looking row.Line = inr (λ c. refl)
looking row.Declare = inr (λ c. refl)
looking row.StartAssign = inr (λ c. refl)
looking row.PendingName = inr (λ c. refl)
looking row.PendingValue = inr (λ c. refl)
looking row.BeginEnd = inr (λ c. refl)
looking row.Close = inr (λ c. refl)
looking row.NextFile = inr (λ c. refl)
looking row.Clear = inr (λ c. refl)
looking row.Flush = inr (λ c. refl)

module _ (bytes : List ℕ) (grow : ArraysGrow) (N : Names) (h : Host) (others : Sort → ℕ → ℕ) (fit : ArraysFit (arrays_made h) N.arrays) (once : (s : Sort) (q : ℕ) → others s q ≡ wanted N s q) where
  unspent : Spent (arrays_made h) N N others
  unspent = record { carried = carried_same (arrays_made h) N others; once = once; arrays = fit }

  abbrev decoded : {A : Type 0} → Option A → Result ((A × Unit {0}) × Names) TrapKind
  decoded o = and_then (said BadHandle o []) (λ x. and_then (decode (spends (OfPrimitive row.Dup)) bytes N [] x.1) (λ rest. Ok ((x.0, rest.0), rest.1)))

  dup_as : (c : Cell) (w : Word) → WordAs (arrays_made h) N c w → (v : HostAnswer) (s1 : HostState) (out : List Action) → StepBy (answer_of row.Dup) (state_with N h) (come (carried (OfPrimitive row.Dup) (w ∷ []) bytes (state_with N h))) v s1 out →
      Outcome N h others (acted (OfPrimitive row.Dup) h (looked_at (OfPrimitive row.Dup) c)) v s1
  dup_as (Bits x) w a v s1 out s = tt
  dup_as (IteratorOf x) w a v s1 out s = tt
  dup_as (OwnedArray x) w a v s1 out s = tt
  dup_as (LentArray x) w a v s1 out s = tt
  dup_as Gone w a v s1 out s = tt
  dup_as (Held x) (I64 n) a v s1 out s = absurd a
  dup_as (Held x) (I32 n) a v s1 out s =
      acted_as N h others (arguments_of row.Dup) (answer_of row.Dup) (Some (x, tt)) (decode (spends (OfPrimitive row.Dup)) bytes N (arguments_of row.Dup) (I32 n ∷ []))
      (λ r. acts (OfPrimitive row.Dup) r h) (λ r. host.acts (OfPrimitive row.Dup) r (state_with N h)) ok
      (λ r e. fit_same (in_turn row.Dup r h.shared) _ _ (primitive_same h.arguments (can_fault row.Dup) (meaning row.Dup r h.shared))) (λ r d q. grow (OfPrimitive row.Dup) r h d q) v s1 out s
    where
      ok : RowOk (arrays_made h) N others (Some (x, tt)) (decode (spends (OfPrimitive row.Dup)) bytes N (arguments_of row.Dup) (I32 n ∷ []))
      ok =
          subst (λ k. RowOk (arrays_made h) N others (Some (x, tt)) (decoded (look N.values k))) (sym (small_signed n a.0))
          (subst (λ o. RowOk (arrays_made h) N others (Some (x, tt)) (decoded o)) (sym a.1) (refl, unspent))

  next_as : (c : Cell) (w : Word) → WordAs (arrays_made h) N c w → (v : HostAnswer) (s1 : HostState) (out : List Action) → StepBy (answer_of row.IterNext) (state_with N h) (come (carried (OfPrimitive row.IterNext) (w ∷ []) bytes (state_with N h))) v s1 out →
      Outcome N h others (acted (OfPrimitive row.IterNext) h (looked_at (OfPrimitive row.IterNext) c)) v s1
  next_as (Bits x) w a v s1 out s = tt
  next_as (Held x) w a v s1 out s = tt
  next_as (OwnedArray x) w a v s1 out s = tt
  next_as (LentArray x) w a v s1 out s = tt
  next_as Gone w a v s1 out s = tt
  next_as (IteratorOf x) (I64 n) a v s1 out s = absurd a
  next_as (IteratorOf x) (I32 n) a v s1 out s =
      acted_as N h others (arguments_of row.IterNext) (answer_of row.IterNext) (Some (x, tt)) (decode (spends (OfPrimitive row.IterNext)) bytes N (arguments_of row.IterNext) (I32 n ∷ []))
      (λ r. acts (OfPrimitive row.IterNext) r h) (λ r. host.acts (OfPrimitive row.IterNext) r (state_with N h)) ok
      (λ r e. fit_same (in_turn row.IterNext r h.shared) _ _ (primitive_same h.arguments (can_fault row.IterNext) (meaning row.IterNext r h.shared))) (λ r d q. grow (OfPrimitive row.IterNext) r h d q) v s1 out s
    where
      ok : RowOk (arrays_made h) N others (Some (x, tt)) (decode (spends (OfPrimitive row.IterNext)) bytes N (arguments_of row.IterNext) (I32 n ∷ []))
      ok =
          subst (λ k. RowOk (arrays_made h) N others (Some (x, tt)) (decoded (look N.iterators k))) (sym (small_signed n a.0))
          (subst (λ o. RowOk (arrays_made h) N others (Some (x, tt)) (decoded o)) (sym a.1) (refl, unspent))

  acted_looking : (i : Import) (c : Cell) (w : Word) → WordAs (arrays_made h) N c w → (v : HostAnswer) (s1 : HostState) (out : List Action) → StepBy (import_answer i) (state_with N h) (come (carried i (w ∷ []) bytes (state_with N h))) v s1 out →
      Outcome N h others (acted i h (looked_at i c)) v s1
  acted_looking (OfPrimitive p) c w a v s1 out s = by (looking p)
    where
      by : ((p ≡ row.Dup) ⊎ (p ≡ row.IterNext)) ⊎ ((d : Cell) → looked_at (OfPrimitive p) d ≡ None) → Outcome N h others (acted (OfPrimitive p) h (looked_at (OfPrimitive p) c)) v s1
      by (inl (inl e)) =
          subst (λ r. Outcome N h others (acted (OfPrimitive r) h (looked_at (OfPrimitive r) c)) v s1) (sym e)
          (dup_as c w a v s1 out (subst (λ r. StepBy (import_answer (OfPrimitive r)) (state_with N h) (come (carried (OfPrimitive r) (w ∷ []) bytes (state_with N h))) v s1 out) e s))
      by (inl (inr e)) =
          subst (λ r. Outcome N h others (acted (OfPrimitive r) h (looked_at (OfPrimitive r) c)) v s1) (sym e)
          (next_as c w a v s1 out (subst (λ r. StepBy (import_answer (OfPrimitive r)) (state_with N h) (come (carried (OfPrimitive r) (w ∷ []) bytes (state_with N h))) v s1 out) e s))
      by (inr e) = subst (λ o. Outcome N h others (acted (OfPrimitive p) h o) v s1) (sym (e c)) tt
  acted_looking (Variadic l) c w a v s1 out s = tt
  acted_looking Arg c w a v s1 out s = tt
  acted_looking Drop c w a v s1 out s = tt
  acted_looking IterFree c w a v s1 out s = tt
  acted_looking FreeArray c w a v s1 out s = tt

  -- one look: whatever the host answers, and whatever number it gives out, it is the look over cells
  pub look_as : (i : Import) (c : Cell) (w : Word) → WordAs (arrays_made h) N c w → (v : HostAnswer) (s1 : HostState) (out : List Action) → StepOf i (state_with N h) (w ∷ []) bytes v s1 out → Outcome N h others (value.look i c h) v s1
  look_as i c w a v s1 out s = by h.fault s
    where
      by : (f : Option Fault) → StepBy (import_answer i) (state_with N h) (cond (refuses i f) Refuses (come (carried i (w ∷ []) bytes (state_with N h)))) v s1 out →
          Outcome N h others (elim f [ None ↦ acted i h (looked_at i c) | Some k ↦ None ]) v s1
      by None t = acted_looking i c w a v s1 out t
      by (Some f) t = tt
