-- From what an import comes to, where tables show the state, to its step.
use Rattle.std.proofs.Common.{◌≡◌, ◌≢◌, ℕ, Bool, false, cond, List, [], Option, Some, None, Result, Ok, Err, refl, sym, ap, subst, ◌∙◌}
use Rattle.awk_values.specs.declared.fault.Fault.{Fault}
use Rattle.sem_primitives.specs.SharedState.{Inner}
use Rattle.sem_primitives.specs.Sorts.{InAnswer}
use Rattle.wasm_model.specs.declared.host.HostAnswer.{HostAnswer}
use Rattle.wasm_model.specs.declared.host.HostAnswer.TheVariants as told
use Rattle.wasm_store.specs.declared.trap.TrapKind.{TrapKind}
use Rattle.wasm_store.specs.declared.word.Word.{Word}
use Rattle.host_step.specs.Answers.{FreeFor, encode, refusal}
use Rattle.host_step.specs.HostState.{HostState, Names}
use Rattle.host_step.specs.HostStep.{Acts, Refuses, StepBy, StepOf, carried, come, refuses}
use Rattle.host_imports.specs.Imports.{import_answer}
use Rattle.host_imports.specs.declared.import.Import.{Import}
use Rattle.host_step.specs.declared.refusal.Refusal.TheVariants as why
use Rattle.host_values.proofs.Steps.{unshared}
use Rattle.host_values.specs.ElementCalls.{IsTableCall, Leads}
use Rattle.host_values.specs.Forms.{AreFirst, HostForm, IsHeld, Past, state_of}

-- the state, with these tables of numbers and this shared state
abbrev pub state_with : Names → Inner → HostForm → HostState
state_with names inner f = record { names = names; shared = record f.shared { inner = inner }; arguments = f.arguments; fault = f.fault }

-- it answers, and leaves this shared state
abbrev pub acts_of : {A : Type 0} → HostForm → Inner → A → Acts A
acts_of f inner x = record { does = record { added = []; inner = inner; answer = Ok x }; arguments = f.arguments }

-- it faults, and changes nothing
abbrev pub faults_of : {A : Type 0} → HostForm → Inner → Fault → Acts A
faults_of f inner fault = record { does = record { added = []; inner = inner; answer = Err fault }; arguments = f.arguments }

-- a primitive is not refused where no fault is kept
pub unrefused : (i : Import) (o : Option Fault) → o ≡ None → refuses i o ≡ false
unrefused i o none = ap (refuses i) none

pub goes : (i : Import) (f : HostForm) (p : Past) (after : HostState) (words : List Word) (memory : List ℕ) (left : Names) (inner : Inner) (x : InAnswer (import_answer i)) (q : ℕ) (w : Option Word) → refuses i f.fault ≡ false → carried i words memory (state_of f p)
    ≡ Ok (left, acts_of f inner x) → FreeFor left (import_answer i) x q → (encode q left (import_answer i) x).0
    ≡ w → state_with (encode q left (import_answer i) x).1 inner f ≡ after → StepOf i (state_of f p) words memory (told.Done w) after []
goes i f p after words memory left inner x q w fit is free word state =
    subst (λ (b : Bool). StepBy (import_answer i) (state_of f p) (cond b Refuses (come (carried i words memory (state_of f p)))) (told.Done w) after []) (sym fit)
    (subst (λ (c : Result (Names × Acts (InAnswer (import_answer i))) TrapKind). StepBy (import_answer i) (state_of f p) (come c) (told.Done w) after []) (sym is) (
      q,
      free,
      record {
        word = ap told.Done (sym word);
        state = sym state ∙ sym (unshared (encode q left (import_answer i) x).1 (state_with left inner f) f.fault);
        added = refl;
      },
    ))

pub keeps_fault : (i : Import) (f : HostForm) (p : Past) (after : HostState) (words : List Word) (memory : List ℕ) (left : Names) (inner : Inner) (fault : Fault) → refuses i f.fault ≡ false → carried i words memory (state_of f p)
    ≡ Ok (left, faults_of f inner fault) → state_with left inner (record f { fault = Some fault }) ≡ after
    → StepOf i (state_of f p) words memory (told.Done (refusal (import_answer i))) after []
keeps_fault i f p after words memory left inner fault fit is state =
    subst (λ (b : Bool). StepBy (import_answer i) (state_of f p) (cond b Refuses (come (carried i words memory (state_of f p)))) (told.Done (refusal (import_answer i))) after []) (sym fit)
    (subst (λ (c : Result (Names × Acts (InAnswer (import_answer i))) TrapKind). StepBy (import_answer i) (state_of f p) (come c) (told.Done (refusal (import_answer i))) after []) (sym is)
    (record {
      word = refl;
      state = sym state ∙ sym (unshared left (state_with left inner f) (Some fault));
      added = refl;
    }))

pub traps : (i : Import) (f : HostForm) (p : Past) (words : List Word) (memory : List ℕ) (k : TrapKind) → refuses i f.fault ≡ false
    → carried i words memory (state_of f p) ≡ Err k → StepOf i (state_of f p) words memory (told.Trap k) (state_of f p) []
traps i f p words memory k fit is =
    subst (λ (b : Bool). StepBy (import_answer i) (state_of f p) (cond b Refuses (come (carried i words memory (state_of f p)))) (told.Trap k) (state_of f p) []) (sym fit)
    (subst (λ (c : Result (Names × Acts (InAnswer (import_answer i))) TrapKind). StepBy (import_answer i) (state_of f p) (come c) (told.Trap k) (state_of f p) []) (sym is)
    (record { trap = refl; state = refl; added = refl }))

-- what the tables do not show, as a state has it
pub record IsPast (f : HostForm) (p : Past) : Type 0 where
  pub arrays : IsHeld f.arrays p.array_places p.arrays
  pub iterators : IsHeld f.iterators p.iterator_places p.iterators
  pub first : AreFirst p.array_places

-- the tables go on so
pub record GoesOn (i : Import) (f : HostForm) (p : Past) (words : List Word) (memory : List ℕ) (a : HostAnswer) (g : HostForm) : Type 0 where
  pub now : Past
  pub is : IsPast g now
  pub step : StepOf i (state_of f p) words memory a (state_of g now) []

pub leads : (i : Import) (f : HostForm) (words : List Word) (memory : List ℕ) (a : HostAnswer) (g : HostForm)
    → ((p : Past) → IsPast f p → GoesOn i f p words memory a g) → Leads i f words memory a g
leads i f words memory a g go s st =
    let x = go st.past (record { arrays = st.arrays; iterators = st.iterators; first = st.first }) in (
      state_of g x.now,
      record { past = x.now; state = refl; arrays = x.is.arrays; iterators = x.is.iterators; first = x.is.first },
      subst (λ (t : HostState). StepOf i t words memory a (state_of g x.now) []) (sym st.state) x.step,
    )

pub done_is_some : (w : Option Word) → told.Done w ≢ told.NoMemory
done_is_some w e = cc

-- a trap
pub trapped : (i : Import) (f : HostForm) (words : List Word) (memory : List ℕ) (k : TrapKind) → refuses i f.fault ≡ false
    → ((p : Past) → IsPast f p → carried i words memory (state_of f p) ≡ Err k) → IsTableCall i f words memory (Err (why.Trap k)) f
trapped i f words memory k fit is = leads i f words memory (told.Trap k) f (λ p past. record { now = p; is = past; step = traps i f p words memory k fit (is p past) })

-- memory was wanting in a call that could have gone on so
pub wanted : (i : Import) (f g h : HostForm) (words : List Word) (memory : List ℕ) (w : Option Word)
    → ((p : Past) → IsPast f p → GoesOn i f p words memory (told.Done w) g) → IsTableCall i f words memory (Err why.NoMemory) h
wanted i f g h words memory w go s st =
    let x = leads i f words memory (told.Done w) g go s st in (told.Done w, done_is_some w, x.0, x.2)
