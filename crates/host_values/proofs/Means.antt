-- From calls on tables to what they mean to a machine.
use Rattle.std.proofs.Common.{◌≡◌, ◌≢◌, ℕ, Bool, true, false, cond, not, ◌&&◌, List, [], ◌++◌, Option, Some, None, Result, Ok, Err, is_some, true≢false, refl, sym, ap, subst, ◌∙◌, append-nil}
use Rattle.awk_values.specs.declared.fault.Fault.{Fault}
use Rattle.sem_primitives.specs.Sorts.{InAnswer}
use Rattle.sem_primitives.specs.declared.sorts.Answer.{Answer}
use Rattle.wasm_model.specs.Hosts.{Typed}
use Rattle.wasm_model.specs.declared.host.HostAnswer.{HostAnswer}
use Rattle.wasm_model.specs.declared.host.HostAnswer.TheVariants as told
use Rattle.wasm_store.specs.declared.trap.TrapKind.TheVariants.{BadArgument}
use Rattle.wasm_store.specs.declared.word.Word.{Word}
use Rattle.world_core.specs.WorldState.{Action, Entry, Outside}
use Rattle.host_step.specs.Answers.{refusal}
use Rattle.host_step.specs.HostLaws.{refusal_typed, step_typed}
use Rattle.host_step.specs.HostState.{HostState, Names}
use Rattle.host_step.specs.HostStep.{Acts, Comes, Goes, Refuses, Settles, StepBy, StepIf, Traps, carried, come, comes, refuses}
use Rattle.host_imports.specs.Imports.{import_answer, import_type, lets_go}
use Rattle.host_imports.specs.declared.import.Import.{Import}
use Rattle.host_step.specs.declared.refusal.Refusal.{Refusal}
use Rattle.host_step.specs.declared.refusal.Refusal.TheVariants as why
use Rattle.host_values.specs.ElementCalls.{IsTableCall, Leads}
use Rattle.host_values.specs.Forms.{HostForm}
use Rattle.host_values.specs.FormLaws.{trap_typed}
use Rattle.host_values.specs.Findings.{After, Finding, IsFound, View, form_finding, viewed}
use Rattle.host_values.specs.FormMeaning.{Begins, FindsSo, FormCalled, FormMeans, StepFinds, StepShown}
use Rattle.host_values.specs.Shown.{SharesBy, SharesTables, Shown, form_with_output}
use Rattle.host_values.specs.TableCalls.{Fits, TableCalls, answer_of_call, left_by_call}
use Rattle.host_values.proofs.Showing.{shares_self, shares_tables, shown_fault, shown_outside}

-- steps that put nothing out, from every state that is shown, whatever is shown of what is not the host's own
abbrev Moves : Option Import → HostForm → List Word → List ℕ → HostAnswer → HostForm → Type 0
Moves import before words memory a after-call = (v : View) (s : HostState) → Shown (viewed v before) s → StepShown import s words memory a (viewed v after-call) []

-- a fault that is kept stays
settled_stays : (a : Answer) (s : HostState) (left : Names) (d : Acts (InAnswer a)) (r : Result (InAnswer a) Fault) (v : HostAnswer) (s1 : HostState) (output : List Action)
    → Settles a s left d r v s1 output → is_some s.fault ≡ true → is_some s1.fault ≡ true
settled_stays a s left d (Ok x) v s1 output h e = ap (λ (z : HostState). is_some z.fault) h.2.state ∙ e
settled_stays a s left d (Err f) v s1 output h e = ap (λ (z : HostState). is_some z.fault) h.state

come_stays : (a : Answer) (s : HostState) (c : Comes (InAnswer a)) (v : HostAnswer) (s1 : HostState) (output : List Action) → StepBy a s c v s1 output
    → is_some s.fault ≡ true → is_some s1.fault ≡ true
come_stays a s (Traps k) v s1 output h e = ap (λ (z : HostState). is_some z.fault) h.state ∙ e
come_stays a s Refuses v s1 output h e = ap (λ (z : HostState). is_some z.fault) h.state ∙ e
come_stays a s (Goes left d) v s1 output h e = settled_stays a s left d d.does.answer v s1 output h e

fault_stays : (o : Option Import) (s : HostState) (words : List Word) (memory : List ℕ) (v : HostAnswer) (s1 : HostState) (output : List Action)
    → StepIf o s words memory v s1 output → is_some s.fault ≡ true → is_some s1.fault ≡ true
fault_stays None s words memory v s1 output h e = ap (λ (z : HostState). is_some z.fault) h.state ∙ e
fault_stays (Some i) s words memory v s1 output h e = come_stays (import_answer i) s (comes i words memory s) v s1 output h e

-- nothing was found
none_found : (o o1 : Option Fault) (later finds : List Entry) → (is_some o ≡ true → is_some o1 ≡ true) → IsFound o [] later finds → IsFound o1 [] later finds
none_found None None later finds stays h = h
none_found o (Some f) later finds stays h = tt
none_found (Some f) None later finds stays h = absurd (true≢false (sym (stays refl)))

module _ (import : Option Import) (before : HostForm) (words : List Word) (memory : List ℕ) (a : HostAnswer) (after-call : HostForm)
    (moves : Moves import before words memory a after-call) where
  finds_nothing : FindsSo import before words memory a after-call []
  finds_nothing = record { found = []; leads = λ finds later is outside so_far s h. by finds later is outside so_far s h (moves (Finding finds outside so_far) s h) } where
    by : (finds later : List Entry) → IsFound before.fault [] later finds → (outside : Outside) (so_far : List Action) (s : HostState)
        → Shown (form_finding finds outside so_far before) s → StepShown import s words memory a (form_finding finds outside so_far after-call) []
        → StepFinds import s words memory a after-call [] later outside so_far
    by finds later is outside so_far s h x = record {
      rest = finds;
      left = none_found before.fault after-call.fault later finds
          (λ e. ap is_some (sym (shown_fault (form_finding finds outside so_far after-call) x.state x.shown))
          ∙ fault_stays import s words memory a x.state [] x.step (ap is_some (shown_fault (form_finding finds outside so_far before) s h) ∙ e)) is;
      to = subst (λ (o : List Action). StepShown import s words memory a (form_finding finds outside o after-call) []) (sym (append-nil so_far)) x;
    }

module _ (import : Option Import) (before : HostForm) (words : List Word) (memory : List ℕ) (a : HostAnswer) (after-call : HostForm) where
  step_of : Moves import before words memory a after-call → (so_far : List Action) (s : HostState) → Shown (form_with_output so_far before) s
      → StepShown import s words memory a (form_with_output (so_far ++ []) after-call) []
  step_of moves so_far s h = subst (λ (o : List Action). StepShown import s words memory a (form_with_output o after-call) []) (sym (append-nil so_far)) (moves (After so_far) s h)

module _ (tells : Type 0) (i : Import) (words : List Word) (memory : List ℕ) where
  called : (before : HostForm) (a : HostAnswer) (after-call : HostForm) → Typed (Some (import_type i)) a → Moves (Some i) before words memory a after-call
      → FormCalled tells (Some i) before words memory a after-call []
  called before a after-call typed moves = record {
    typed = typed;
    step = λ t so_far s h. step_of (Some i) before words memory a after-call moves so_far s h;
    finds = finds_nothing (Some i) before words memory a after-call moves;
  }

  module _ (before after-call : HostForm) where
    kept_so : (o : Option Fault) (f : Fault) (form g : HostForm) → SharesBy o form g → SharesTables (record form { fault = Some f }) (record g { fault = Some f })
    kept_so o f form g e =
        let t = shares_tables o form g e in
        record { values = t.values; arrays = t.arrays; iterators = t.iterators; fault = refl; outside = t.outside; output = t.output }

    faulted_moves : (f : Fault) → ((v : View) (form : HostForm) → SharesBy before.fault form (viewed v before)
        → (form' : HostForm) × SharesBy after-call.fault form' (viewed v after-call) × IsTableCall i form words memory (Err (why.Fault f)) form')
        → Moves (Some i) before words memory (told.Done (refusal (import_answer i))) (record after-call { fault = Some f })
    faulted_moves f calls (After o) s h =
        let x = calls (After o) h.form h.same in
        let y = x.2 s h.stands in
        record { state = y.0; shown = record { form = record x.0 { fault = Some f }; same = kept_so after-call.fault f x.0 (form_with_output o after-call) x.1; stands = y.1 }; step = y.2 }
    faulted_moves f calls (Finding finds outside o) s h =
        let x = calls (Finding finds outside o) h.form h.same in
        let y = x.2 s h.stands in
        record { state = y.0; shown = record { form = record x.0 { fault = Some f }; same = kept_so after-call.fault f x.0 (form_finding finds outside o after-call) x.1; stands = y.1 }; step = y.2 }

    moves_by : (a : HostAnswer) → ((v : View) (form : HostForm) → SharesBy before.fault form (viewed v before)
        → (form' : HostForm) × SharesBy after-call.fault form' (viewed v after-call) × Leads i form words memory a form') → Moves (Some i) before words memory a after-call
    moves_by a calls (After o) s h =
        let x = calls (After o) h.form h.same in
        let y = x.2 s h.stands in
        record { state = y.0; shown = record { form = x.0; same = x.1; stands = y.1 }; step = y.2 }
    moves_by a calls (Finding finds outside o) s h =
        let x = calls (Finding finds outside o) h.form h.same in
        let y = x.2 s h.stands in
        record { state = y.0; shown = record { form = x.0; same = x.1; stands = y.1 }; step = y.2 }

    moved : (r : Result (Option Word) Refusal) → (r ≢ Err why.NoMemory) → TableCalls i before words memory r after-call
        → Moves (Some i) before words memory (answer_of_call i r) (left_by_call r after-call)
    moved (Ok w) ne calls = moves_by (told.Done w) calls
    moved (Err (why.Fault f)) ne calls = faulted_moves f calls
    moved (Err (why.Trap k)) ne calls = moves_by (told.Trap k) calls
    moved (Err why.NoMemory) ne calls = absurd (ne refl)

    begins : TableCalls i before words memory (Err why.NoMemory) after-call → Begins (Some i) before words memory []
    begins calls so_far s h =
        let x = (calls (After so_far) h.form h.same).2 s h.stands in
        record { answer = x.0; answered = x.1; state = x.2; rest = []; step = x.3 }

    -- A CALL on tables, however it ends
    pub table_means : (r : Result (Option Word) Refusal) → Fits i r → after-call.shared.outside ≡ before.shared.outside
        → TableCalls i before words memory r after-call
        → FormMeans tells (Some i) before words memory (answer_of_call i r) (left_by_call r after-call) []
    table_means (Ok w) fits outside calls = called before (told.Done w) after-call fits (moved (Ok w) (λ q. cc) calls)
    table_means (Err (why.Fault f)) fits outside calls =
        called before (told.Done (refusal (import_answer i))) (record after-call { fault = Some f }) (refusal_typed (import_answer i))
        (moved (Err (why.Fault f)) (λ q. cc) calls)
    table_means (Err (why.Trap k)) fits outside calls = called before (told.Trap k) after-call (trap_typed (Some (import_type i)) k) (moved (Err (why.Trap k)) (λ q. cc) calls)
    table_means (Err why.NoMemory) fits outside calls = record {
      outside = λ t so_far s h. outside ∙ sym (shown_outside (form_with_output so_far before) s h);
      begins = λ t. begins calls;
    }

    -- an answer of another type is given from no state that is shown
    pub unfit_means : (w : Option Word) → (Fits i (Ok w) → ⊥) → TableCalls i before words memory (Ok w) after-call
        → FormMeans tells (Some i) before words memory (told.Trap BadArgument) after-call []
    unfit_means w unfit calls = called before (told.Trap BadArgument) after-call (trap_typed (Some (import_type i)) BadArgument) (λ v s h. absurd (none v s h)) where
      none : (v : View) (s : HostState) → Shown (viewed v before) s → ⊥
      none v s h =
          let x = moved (Ok w) (λ q. cc) calls v s h in
          unfit (step_typed (Some i) s words memory (told.Done w) x.state [] x.step)

-- Where no fault is kept the tables are told whole.

pub plain_calls : (i : Import) (before after-call : HostForm) (words : List Word) (memory : List ℕ) (r : Result (Option Word) Refusal) → before.fault ≡ None
    → ((v : View) → IsTableCall i (viewed v before) words memory r (viewed v after-call))
    → TableCalls i before words memory r after-call
plain_calls i before after-call words memory r none calls v form same = (
  viewed v after-call,
  shares_self after-call.fault (viewed v after-call),
  subst (λ (z : HostForm). IsTableCall i z words memory r (viewed v after-call))
      (sym (subst (λ (o : Option Fault). SharesBy o form (viewed v before)) none same)) (calls v),
)

-- Once a fault is kept, what lets nothing go is refused.

refuses_so : (i : Import) (o : Option Fault) (fault : Fault) → o ≡ Some fault → lets_go i ≡ false → refuses i o ≡ true
refuses_so i o fault e keeps = ap (λ (x : Option Fault). is_some x && not (lets_go i)) e ∙ ap not keeps

comes_refused : (i : Import) (words : List Word) (memory : List ℕ) (s : HostState) → refuses i s.fault ≡ true → comes i words memory s ≡ Refuses
comes_refused i words memory s e = ap (λ (b : Bool). cond b Refuses (come (carried i words memory s))) e

module _ (tells : Type 0) (i : Import) (f : HostForm) (words : List Word) (memory : List ℕ) (fault : Fault) (kept : f.fault ≡ Some fault) (keeps : lets_go i ≡ false) where
  abbrev answer : HostAnswer
  answer = told.Done (refusal (import_answer i))

  module _ (s : HostState) (kept_there : s.fault ≡ f.fault) where
    come_so : comes i words memory s ≡ Refuses
    come_so = comes_refused i words memory s (refuses_so i s.fault fault (kept_there ∙ kept) keeps)

    stays : StepBy (import_answer i) s (comes i words memory s) answer s []
    stays = subst (λ (c : Comes (InAnswer (import_answer i))). StepBy (import_answer i) s c answer s []) (sym come_so) (record { word = refl; state = refl; added = refl })

  move : Moves (Some i) f words memory answer f
  move (After o) s h = record { state = s; shown = h; step = stays s (shown_fault (form_with_output o f) s h) }
  move (Finding finds outside o) s h = record { state = s; shown = h; step = stays s (shown_fault (form_finding finds outside o f) s h) }

  pub refused_called : FormCalled tells (Some i) f words memory answer f []
  refused_called = record {
    typed = refusal_typed (import_answer i);
    step = λ t so_far s h. step_of (Some i) f words memory answer f move so_far s h;
    finds = finds_nothing (Some i) f words memory answer f move;
  }

-- a number of no import traps
pub unknown_called : (tells : Type 0) (f : HostForm) (words : List Word) (memory : List ℕ) → FormCalled tells None f words memory (told.Trap BadArgument) f []
unknown_called tells f words memory = record {
  typed = tt;
  step = λ t so_far s h. step_of None f words memory (told.Trap BadArgument) f move so_far s h;
  finds = finds_nothing None f words memory (told.Trap BadArgument) f move;
} where
  move : Moves None f words memory (told.Trap BadArgument) f
  move v s h = record { state = s; shown = h; step = record { trap = refl; state = refl; added = refl } }
