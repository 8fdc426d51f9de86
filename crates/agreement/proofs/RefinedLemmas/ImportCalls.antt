-- One call of an import, whichever it is: over words it comes to what it comes to over cells.
use Rattle.std.proofs.Common.{◌≡◌, ◌⊎◌, inl, inr, ℕ, ◌+◌, ◌≤◌, Bool, true, false, not, cond, ◌&&◌, nat_le, List, ◌++◌, length, Option, Some, None, Result, Ok, Err, refl, sym, subst, arith, if◌then◌else◌}
use Rattle.awk_values.specs.declared.fault.Fault.{Fault}
use Rattle.awk_values.specs.declared.value.Value.{Value as AnyValue}
use Rattle.sem_primitives.specs.InTurn.{in_turn, values_taken, listed_in_turn}
use Rattle.sem_primitives.specs.SharedState.{HostResult}
use Rattle.sem_primitives.specs.Sorts.{InAnswer, OrFault, Row}
use Rattle.sem_primitives.specs.Table.{arguments_of, answer_of, can_fault, meaning}
use Rattle.sem_primitives.specs.declared.sorts.Sort.{Sort}
use Rattle.sem_primitives.specs.declared.sorts.Answer.{Answer}
use Rattle.sem_primitives.specs.declared.sorts.Answer.TheVariants as answer
use Rattle.sem_primitives.specs.declared.sorts.Argument.{Argument}
use Rattle.sem_primitives.specs.declared.table.Listed.{Listed}
use Rattle.sem_primitives.specs.declared.table.Listed.TheVariants as listed
use Rattle.sem_primitives.specs.declared.table.Primitive.{Primitive}
use Rattle.sem_primitives.specs.declared.table.Primitive.TheVariants as row
use Rattle.wasm_store.specs.declared.trap.TrapKind.{TrapKind}
use Rattle.wasm_store.specs.declared.word.Word.{Word}
use Rattle.wasm_model.specs.declared.host.HostAnswer.{HostAnswer}
use Rattle.wasm_model.specs.declared.host.HostAnswer.TheVariants as told
use Rattle.world_core.specs.WorldState.{Action}
use Rattle.host_step.specs.HostState.{HostState, Names}
use Rattle.host_step.specs.Arguments.{and_then, decode}
use Rattle.host_step.specs.Answers.{encode}
use Rattle.host_step.specs.HostStep.{Comes, Refuses, Given, IsGiven, Settles, StepBy, StepOf, answered, come, carried, faulted, refused, refuses}
use Rattle.host_step.specs.HostStep as host
use Rattle.lower_model.specs.Cells.{Cell, none_owned}
use Rattle.lower_model.specs.ImportCalls.{Acts, Host, acted, acts, after_fault, call, fault_cell, listed_acts, primitive_acts, replied, row_in, taken, where_so, with_some}
use Rattle.host_imports.specs.Imports.{import_answer, import_arguments, lets_go, spends}
use Rattle.host_imports.specs.declared.import.VariadicImport.TheVariants.{Sprintf, Print, Printf}
use Rattle.host_imports.specs.declared.import.Import.{Import}
use Rattle.host_imports.specs.declared.import.Import.TheVariants.{OfPrimitive, Variadic, Arg, Drop, IterFree, FreeArray}
use Rattle.agreement.specs.Refined.Growing.{ArraysGrow, GrowsBy, NewIn}
use Rattle.agreement.specs.Refined.Words.{ArraysFit, WordsAs, arrays_made, state_with}
use Rattle.agreement.specs.Refined.Owners.{owners, wanted}
use Rattle.agreement.proofs.RefinedLemmas.Carrying.{Carried, carried_then, unowned_all}
use Rattle.agreement.proofs.RefinedLemmas.Decoding.{AllLive, AllSpentRight, RowAs, decode_as}
use Rattle.agreement.proofs.RefinedLemmas.ImportAnswers.{Told, encode_as, refusal_as}

-- what a row takes it spends: `dup` and `iter_next` take nothing
taking : (p : Primitive) → ((mem : List ℕ) (cs : List Cell) → taken mem (OfPrimitive p) cs ≡ None) ⊎ (AllSpentRight (spends (OfPrimitive p)) (arguments_of p) × ((mem : List ℕ) (cs : List Cell) → taken mem (OfPrimitive p) cs ≡ row_in mem (arguments_of p) cs))
taking row.Num = inr ((refl, tt), λ mem cs. refl)
taking row.Lit = inr ((tt, tt), λ mem cs. refl)
taking row.Uninit = inr (tt, λ mem cs. refl)
taking row.Dup = inl (λ mem cs. refl)
taking row.ToNum = inr ((refl, tt), λ mem cs. refl)
taking row.IntOf = inr ((refl, tt), λ mem cs. refl)
taking row.Truth = inr ((refl, tt), λ mem cs. refl)
taking row.Compare = inr ((tt, (refl, (refl, tt))), λ mem cs. refl)
taking row.Concat = inr ((refl, (refl, tt)), λ mem cs. refl)
taking row.Pow = inr ((refl, (refl, tt)), λ mem cs. refl)
taking row.Fail = inr ((tt, tt), λ mem cs. refl)
taking row.GetSpecial = inr ((tt, tt), λ mem cs. refl)
taking row.SetSpecial = inr ((tt, (refl, tt)), λ mem cs. refl)
taking row.Field = inr ((refl, tt), λ mem cs. refl)
taking row.SetField = inr ((refl, (refl, tt)), λ mem cs. refl)
taking row.NewArray = inr (tt, λ mem cs. refl)
taking row.Elem = inr ((refl, (refl, tt)), λ mem cs. refl)
taking row.SetElem = inr ((refl, (refl, (refl, tt))), λ mem cs. refl)
taking row.Has = inr ((refl, (refl, tt)), λ mem cs. refl)
taking row.Delete = inr ((refl, (refl, tt)), λ mem cs. refl)
taking row.Join = inr ((refl, (refl, tt)), λ mem cs. refl)
taking row.Iter = inr ((refl, tt), λ mem cs. refl)
taking row.IterNext = inl (λ mem cs. refl)
taking row.Length = inr ((refl, tt), λ mem cs. refl)
taking row.Matches = inr ((refl, (refl, tt)), λ mem cs. refl)
taking row.Match = inr ((refl, (refl, tt)), λ mem cs. refl)
taking row.Sub = inr ((refl, (refl, (refl, (tt, tt)))), λ mem cs. refl)
taking row.SubResult = inr (tt, λ mem cs. refl)
taking row.Split = inr ((refl, (refl, (refl, (tt, tt)))), λ mem cs. refl)
taking row.Substr = inr ((refl, (refl, (refl, tt))), λ mem cs. refl)
taking row.SubstrFrom = inr ((refl, (refl, tt)), λ mem cs. refl)
taking row.Index = inr ((refl, (refl, tt)), λ mem cs. refl)
taking row.Lower = inr ((refl, tt), λ mem cs. refl)
taking row.Upper = inr ((refl, tt), λ mem cs. refl)
taking row.NextMain = inr (tt, λ mem cs. refl)
taking row.Getline = inr (tt, λ mem cs. refl)
taking row.GetlineVar = inr (tt, λ mem cs. refl)
taking row.GetlineFile = inr ((refl, tt), λ mem cs. refl)
taking row.GetlineVarFile = inr ((refl, tt), λ mem cs. refl)
taking row.Line = inr (tt, λ mem cs. refl)
taking row.Declare = inr ((tt, (tt, tt)), λ mem cs. refl)
taking row.StartAssign = inr (tt, λ mem cs. refl)
taking row.PendingName = inr (tt, λ mem cs. refl)
taking row.PendingValue = inr (tt, λ mem cs. refl)
taking row.BeginEnd = inr (tt, λ mem cs. refl)
taking row.Close = inr ((refl, tt), λ mem cs. refl)
taking row.NextFile = inr (tt, λ mem cs. refl)
taking row.Clear = inr ((refl, tt), λ mem cs. refl)
taking row.Flush = inr ((refl, tt), λ mem cs. refl)

-- The same acts.

abbrev pub host_acts : {A : Type 0} → Acts A → host.Acts A
host_acts d = record { does = d.does; arguments = d.arguments }

abbrev pub ActsAs : {A : Type 0} → Option (Acts A) → Result (host.Acts A) TrapKind → Type 0
ActsAs None r = Unit {0}
ActsAs (Some d) (Ok e) = e ≡ host_acts d
ActsAs (Some d) (Err k) = ⊥

pub primitive_same : {A : Type 0} → (arguments : List AnyValue) (faults : Bool) (d : HostResult (OrFault faults A)) → host.primitive_acts arguments faults d ≡ host_acts (primitive_acts arguments faults d)
primitive_same arguments true d = refl
primitive_same arguments false d = refl

pub fit_same : {A : Type 0} → (b : Bool) (d : Acts A) (e : host.Acts A) → e ≡ host_acts d → ActsAs (where_so b (Some d)) (host.where_fit b e)
fit_same true d e h = h
fit_same false d e h = tt

listed_same : (l : Listed) (n : ℕ) (N : Names) (h : Host) → ActsAs (listed_acts l n h) (host.listed_acts l n (state_with N h))
listed_same l n N h = fit_same (nat_le n (length h.arguments) && listed_in_turn l (host.last_of n h.arguments)) _ _ refl

-- What a call comes to.

pub record AnsweredAs (N : Names) (h : Host) (others : Sort → ℕ → ℕ) (r : Option Cell × Host) (w : Option Word) (s1 : HostState) : Type 0 where
  pub host : s1 ≡ state_with s1.names r.1
  pub told : Told (arrays_made h) (arrays_made r.1) N s1.names others r.0 w

-- where the machine over values is not stuck the host does not trap
abbrev pub Outcome : Names → Host → (Sort → ℕ → ℕ) → Option (Option Cell × Host) → HostAnswer → HostState → Type 0
Outcome N h others None a s1 = Unit {0}
Outcome N h others (Some r) (told.Done w) s1 = AnsweredAs N h others r w s1
Outcome N h others (Some r) _ s1 = ⊥

-- the tables once all arguments are taken
pub record Spent (made : ℕ) (N left : Names) (others : Sort → ℕ → ℕ) : Type 0 where
  pub carried : Carried made made N left others
  pub once : (s : Sort) (q : ℕ) → others s q ≡ wanted left s q
  pub arrays : ArraysFit made left.arrays

abbrev pub RowOk : {A : Type 0} → ℕ → Names → (Sort → ℕ → ℕ) → Option A → Result (A × Names) TrapKind → Type 0
RowOk made N others None r = Unit {0}
RowOk made N others (Some x) (Ok y) = (y.0 ≡ x) × Spent made N y.1 others
RowOk made N others (Some x) (Err k) = ⊥

module _ (N : Names) (h : Host) (others : Sort → ℕ → ℕ) where
  pub given_as : (r : Option Cell × Host) (g : Given) (a : HostAnswer) (s1 : HostState) (out : List Action) → IsGiven g a s1 out → AnsweredAs N h others r g.word g.after → Outcome N h others (Some r) a s1
  given_as r g a s1 out is x = subst (λ z. Outcome N h others (Some r) z s1) (sym is.word) (subst (λ z. AnsweredAs N h others r g.word z) (sym is.state) x)

  told_after : (made1 : ℕ) (left N1 : Names) (c : Option Cell) (w : Option Word) → Carried (arrays_made h) (arrays_made h) N left others → Told (arrays_made h) made1 left N1 others c w → Told (arrays_made h) made1 N N1 others c w
  told_after made1 left N1 c w k t = record { carried = carried_then (arrays_made h) (arrays_made h) made1 N left N1 others others (λ s q. omega arith) k t.carried; word = t.word; once = t.once; arrays = t.arrays }

  settles_as : (a : Answer) (d : Acts (InAnswer a)) (r : Result (InAnswer a) Fault) (left : Names) (v : HostAnswer) (s1 : HostState) (out : List Action) → Spent (arrays_made h) N left others → arrays_made h ≤ length d.does.inner.arrays → NewIn (arrays_made h) (length d.does.inner.arrays) a r →
      Settles a (state_with N h) left (host_acts d) r v s1 out → Outcome N h others (Some (replied a h d r)) v s1
  settles_as a d (Ok x) left v s1 out k l n s =
      let made1 = length d.does.inner.arrays in
      let t = encode_as (arrays_made h) made1 others left k.once k.arrays l s.0 a x s.1 n in
      given_as (replied a h d (Ok x)) (answered s.0 a (state_with N h) left (host_acts d) x) v s1 out s.2
      (record { host = refl; told = told_after made1 left (encode s.0 left a x).1 _ _ k.carried t })
  settles_as a d (Err f) left v s1 out k l n s =
      let made1 = length d.does.inner.arrays in
      let t = refusal_as (arrays_made h) made1 others left k.once k.arrays l a in
      given_as (replied a h d (Err f)) (faulted a (state_with N h) left (host_acts d) f) v s1 out s
      (record { host = refl; told = told_after made1 left left _ _ k.carried t })

  -- arguments are taken, and the import acts
  pub acted_as : (wanted-row : List Argument) (a : Answer) (o : Option (Row wanted-row)) (r : Result (Row wanted-row × Names) TrapKind) (f : Row wanted-row → Option (Acts (InAnswer a))) (g : Row wanted-row → Result (host.Acts (InAnswer a)) TrapKind) → RowOk (arrays_made h) N others o r →
      ((x : Row wanted-row) → o ≡ Some x → ActsAs (f x) (g x)) → ((x : Row wanted-row) (d : Acts (InAnswer a)) → f x ≡ Some d → GrowsBy (arrays_made h) a d.does) → (v : HostAnswer) (s1 : HostState) (out : List Action) →
      StepBy a (state_with N h) (come (and_then r (λ x. and_then (g x.0) (λ d. Ok (x.1, d))))) v s1 out → Outcome N h others (with_some o (λ x. with_some (f x) (λ d. Some (replied a h d d.does.answer)))) v s1
  acted_as w a None r f g ok same grows v s1 out s = tt
  acted_as w a (Some x) (Err k) f g ok same grows v s1 out s = absurd ok
  acted_as w a (Some x) (Ok y) f g ok same grows v s1 out s =
      by (f x) (g x) (same x refl) (grows x) (subst (λ z. StepBy a (state_with N h) (come (and_then (g z) (λ d. Ok (y.1, d)))) v s1 out) ok.0 s)
    where
      by : (p : Option (Acts (InAnswer a))) (q : Result (host.Acts (InAnswer a)) TrapKind) → ActsAs p q → ((d : Acts (InAnswer a)) → p ≡ Some d → GrowsBy (arrays_made h) a d.does) →
          StepBy a (state_with N h) (come (and_then q (λ d. Ok (y.1, d)))) v s1 out → Outcome N h others (with_some p (λ d. Some (replied a h d d.does.answer))) v s1
      by None q e grow st = tt
      by (Some d) (Err k) e grow st = absurd e
      by (Some d) (Ok d1) e grow st =
          settles_as a d d.does.answer y.1 v s1 out ok.1 (grow d refl).longer (grow d refl).fresh
          (subst (λ (z : host.Acts (InAnswer a)). Settles a (state_with N h) y.1 z z.does.answer v s1 out) e st)

module _ (mem behind : List ℕ) (grow : ArraysGrow) (N : Names) (h : Host) (others : Sort → ℕ → ℕ) (cs : List Cell) (ws : List Word) (words : WordsAs (arrays_made h) N cs ws) (live : AllLive N.arrays cs) (fit : ArraysFit (arrays_made h) N.arrays)
    (once : (s : Sort) (q : ℕ) → owners s q cs ws + others s q ≡ wanted N s q)
    (freed : (v : HostAnswer) (s1 : HostState) (out : List Action) → StepBy answer.Nothing (state_with N h) (come (carried FreeArray ws (mem ++ behind) (state_with N h))) v s1 out → Outcome N h others (acted FreeArray h (taken mem FreeArray cs)) v s1) where
  abbrev bytes : List ℕ
  bytes = mem ++ behind

  row_ok : {A : Type 0} → (o : Option A) (r : Result (A × Names) TrapKind) → RowAs mem behind (arrays_made h) others N o r → RowOk (arrays_made h) N others o r
  row_ok None r x = tt
  row_ok (Some x) (Ok y) k = (k.0, record { carried = k.1.carried; once = k.1.once; arrays = subst (ArraysFit (arrays_made h)) (sym k.1.arrays) fit })
  row_ok (Some x) (Err e) k = absurd k

  plain : (w : List Argument) (x : Answer) (spent : Sort → Bool) → AllSpentRight spent w → (f : Row w → Option (Acts (InAnswer x))) (g : Row w → Result (host.Acts (InAnswer x)) TrapKind) → ((r : Row w) → ActsAs (f r) (g r)) →
      ((r : Row w) (d : Acts (InAnswer x)) → f r ≡ Some d → GrowsBy (arrays_made h) x d.does) → (v : HostAnswer) (s1 : HostState) (out : List Action) →
      StepBy x (state_with N h) (come (and_then (decode spent bytes N w ws) (λ y. and_then (g y.0) (λ d. Ok (y.1, d))))) v s1 out →
      Outcome N h others (with_some (row_in mem w cs) (λ r. with_some (f r) (λ d. Some (replied x h d d.does.answer)))) v s1
  plain w x spent right f g same grows v s1 out s =
      acted_as N h others w x (row_in mem w cs) (decode spent bytes N w ws) f g
      (row_ok (row_in mem w cs) (decode spent bytes N w ws) (decode_as mem behind (arrays_made h) others spent w N cs ws right fit words live once))
      (λ r e. same r) grows v s1 out s

  acted_by : (i : Import) (v : HostAnswer) (s1 : HostState) (out : List Action) → StepBy (import_answer i) (state_with N h) (come (carried i ws bytes (state_with N h))) v s1 out → Outcome N h others (acted i h (taken mem i cs)) v s1
  acted_by (OfPrimitive p) v s1 out s = by (taking p)
    where
      by : ((m : List ℕ) (c : List Cell) → taken m (OfPrimitive p) c ≡ None) ⊎ (AllSpentRight (spends (OfPrimitive p)) (arguments_of p) × ((m : List ℕ) (c : List Cell) → taken m (OfPrimitive p) c ≡ row_in m (arguments_of p) c)) → Outcome N h others (acted (OfPrimitive p) h (taken mem (OfPrimitive p) cs)) v s1
      by (inl e) = subst (λ o. Outcome N h others (acted (OfPrimitive p) h o) v s1) (sym (e mem cs)) tt
      by (inr e) =
          subst (λ o. Outcome N h others (acted (OfPrimitive p) h o) v s1) (sym (e.1 mem cs))
          (plain (arguments_of p) (answer_of p) (spends (OfPrimitive p)) e.0 (λ r. acts (OfPrimitive p) r h) (λ r. host.acts (OfPrimitive p) r (state_with N h))
          (λ r. fit_same (in_turn p r h.shared) _ _ (primitive_same h.arguments (can_fault p) (meaning p r h.shared))) (λ r d q. grow (OfPrimitive p) r h d q) v s1 out s)
  acted_by (Variadic Sprintf) v s1 out s = plain (import_arguments (Variadic Sprintf)) (import_answer (Variadic Sprintf)) (spends (Variadic Sprintf)) (tt, tt) (λ r. acts (Variadic Sprintf) r h) (λ r. host.acts (Variadic Sprintf) r (state_with N h))
      (λ r. listed_same listed.Sprintf (values_taken listed.Sprintf r.0) N h) (λ r d q. grow (Variadic Sprintf) r h d q) v s1 out s
  acted_by (Variadic Print) v s1 out s = plain (import_arguments (Variadic Print)) (import_answer (Variadic Print)) (spends (Variadic Print)) (tt, (tt, tt)) (λ r. acts (Variadic Print) r h) (λ r. host.acts (Variadic Print) r (state_with N h))
      (λ r. listed_same (listed.Print r.1.0) (values_taken (listed.Print r.1.0) r.0) N h) (λ r d q. grow (Variadic Print) r h d q) v s1 out s
  acted_by (Variadic Printf) v s1 out s = plain (import_arguments (Variadic Printf)) (import_answer (Variadic Printf)) (spends (Variadic Printf)) (tt, (tt, tt)) (λ r. acts (Variadic Printf) r h) (λ r. host.acts (Variadic Printf) r (state_with N h))
      (λ r. listed_same (listed.Printf r.1.0) (values_taken (listed.Printf r.1.0) r.0) N h) (λ r d q. grow (Variadic Printf) r h d q) v s1 out s
  acted_by Arg v s1 out s = plain (import_arguments Arg) (import_answer Arg) (spends Arg) (refl, tt) (λ r. acts Arg r h) (λ r. host.acts Arg r (state_with N h)) (λ r. refl) (λ r d q. grow Arg r h d q) v s1 out s
  acted_by Drop v s1 out s = plain (import_arguments Drop) (import_answer Drop) (spends Drop) (refl, tt) (λ r. acts Drop r h) (λ r. host.acts Drop r (state_with N h)) (λ r. refl) (λ r d q. grow Drop r h d q) v s1 out s
  acted_by IterFree v s1 out s = plain (import_arguments IterFree) (import_answer IterFree) (spends IterFree) (refl, tt) (λ r. acts IterFree r h) (λ r. host.acts IterFree r (state_with N h)) (λ r. refl) (λ r d q. grow IterFree r h d q) v s1 out s
  acted_by FreeArray v s1 out s = freed v s1 out s

  abbrev Comes-so : (i : Import) → HostAnswer → HostState → List Action → Comes (InAnswer (import_answer i)) → Type 0
  Comes-so i v s1 out c = StepBy (import_answer i) (state_with N h) c v s1 out

  -- ONE CALL: whatever the host answers, and whatever number it gives out, it is the call over cells
  pub call_as : (i : Import) (v : HostAnswer) (s1 : HostState) (out : List Action) → StepOf i (state_with N h) ws bytes v s1 out → Outcome N h others (call mem i cs h) v s1
  call_as i v s1 out s = by h.fault s
    where
      unowned : (e : none_owned cs ≡ true) (s : Sort) (q : ℕ) → others s q ≡ wanted N s q
      unowned e s q = let a = unowned_all s q cs ws e in let b = once s q in omega arith

      refused_by : (b : Bool) → none_owned cs ≡ b → Comes-so i v s1 out Refuses → Outcome N h others (where_so b (Some (fault_cell (import_answer i), h))) v s1
      refused_by false e t = tt
      refused_by true e t =
          given_as N h others (fault_cell (import_answer i), h) (refused (import_answer i) (state_with N h)) v s1 out t
          (record { host = refl; told = refusal_as (arrays_made h) (arrays_made h) others N (unowned e) fit (omega arith) (import_answer i) })

      let_go : (b : Bool) → Comes-so i v s1 out (cond (not b) Refuses (come (carried i ws bytes (state_with N h)))) → Outcome N h others (if b then acted i h (taken mem i cs) else where_so (none_owned cs) (Some (fault_cell (import_answer i), h))) v s1
      let_go true t = acted_by i v s1 out t
      let_go false t = refused_by (none_owned cs) refl t

      by : (f : Option Fault) → Comes-so i v s1 out (cond (refuses i f) Refuses (come (carried i ws bytes (state_with N h)))) → Outcome N h others (elim f [ None ↦ acted i h (taken mem i cs) | Some k ↦ after_fault mem i cs h ]) v s1
      by None t = acted_by i v s1 out t
      by (Some f) t = let_go (lets_go i) t
