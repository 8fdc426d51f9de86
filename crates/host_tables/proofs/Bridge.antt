-- A step from every state that the tables show is a call on the tables.
use Rattle.std.proofs.Common.{◌≡◌, ℕ, List, [], Option, None, Result, Ok, Err, refl, sym, subst}
use Rattle.wasm_model.specs.declared.host.HostAnswer.TheVariants as told
use Rattle.wasm_store.specs.declared.word.Word.{Word}
use Rattle.host_step.specs.Answers.{refusal}
use Rattle.host_step.specs.HostState.{HostState}
use Rattle.host_step.specs.HostStep.{StepOf}
use Rattle.host_step.specs.Outcomes.{IsCall}
use Rattle.host_step.specs.declared.refusal.Refusal.{Refusal}
use Rattle.host_step.specs.declared.refusal.Refusal.TheVariants as why
use Rattle.host_imports.specs.Imports.{import_answer}
use Rattle.host_imports.specs.declared.import.Import.{Import}
use Rattle.host_values.specs.Calls.{CarriesOut}
use Rattle.host_values.specs.ElementCalls.{IsTableCall, keeping}
use Rattle.host_values.specs.Evaluations.{Evaluates, Evaluation, Values}
use Rattle.host_values.specs.Findings.{After, Finding, View, form_finding, viewed}
use Rattle.host_values.specs.Forms.{HostForm, Past, state_of}
use Rattle.host_values.specs.Shown.{form_with_output}
use Rattle.host_values.specs.TableCalls.{TableCalls}
use Rattle.host_values.specs.declared.reply.Evaluated.{Evaluated}
use Rattle.host_values.proofs.ElementSteps.{IsPast, leads}
use Rattle.host_values.proofs.Means.{plain_calls}
use Rattle.host_values.proofs.Steps.{ComesTo, carried_call}
use Rattle.host_texts.specs.States.{holding}
use Rattle.host_texts.specs.declared.texts.Texts.{Texts}
use Rattle.host_tables.specs.Families.{of_texts}
use Rattle.host_tables.specs.Forms.{of_tables}
use Rattle.host_tables.specs.declared.tables.Tables.{Tables}

-- one form's arrays and iterators are the other's
pub record SamePlaces (f g : HostForm) : Type 0 where
  pub arrays : g.arrays ≡ f.arrays
  pub iterators : g.iterators ≡ f.iterators

past_of : (f g : HostForm) (p : Past) → SamePlaces f g → IsPast f p → IsPast g p
past_of f g p same past = record {
  arrays = rw same.arrays past.arrays;
  iterators = rw same.iterators past.iterators;
  first = past.first;
}

module _ (i : Import) (f g : HostForm) (words : List Word) (memory : List ℕ) (same : SamePlaces f g) where
  pub table_call : (r : Result (Option Word) Refusal) → ((p : Past) → IsCall i (state_of f p) words memory r (state_of g p)) → IsTableCall i f words memory r g
  table_call (Ok w) h = leads i f words memory (told.Done w) g (λ p past. record { now = p; is = past_of f g p same past; step = h p })
  table_call (Err (why.Fault x)) h = leads i f words memory (told.Done (refusal (import_answer i))) (keeping x g) (λ p past. record {
    now = p;
    is = past_of f (keeping x g) p (record { arrays = same.arrays; iterators = same.iterators }) past;
    step = h p;
  })
  table_call (Err (why.Trap k)) h = leads i f words memory (told.Trap k) g (λ p past. record { now = p; is = past_of f g p same past; step = h p })
  table_call (Err why.NoMemory) h = λ s st.
      let x = h st.past in
      (x.0, x.1, x.2, subst (λ (t : HostState). StepOf i t words memory x.0 x.2 []) (sym st.state) x.3)

-- A call that came to what its evaluation says, once it is carried out over the tables: with these texts, and other values.
module _ (i : Import) (words : List Word) (memory : List ℕ) (t : Tables) (now : Texts) (values : Values) (evaluated : Result Evaluated Refusal)
    (r : Result (Option Word) Refusal) (e : Values → HostState → List Word → Evaluation) (none : t.fault ≡ None)
    (comes : (s : HostState) → ComesTo i t.handles s words memory (e t.handles s words))
    (evaluates : (s : HostState) → Evaluates t.handles (holding t.texts s) evaluated (holding now s) (e t.handles (holding t.texts s) words))
    (carries : CarriesOut evaluated t.handles r values) where
  carried : (f : HostForm) → IsTableCall i (of_tables t f) words memory r (of_texts now values (of_tables t f))
  carried f =
      let before = of_tables t f in
      table_call i before (of_texts now values before) words memory (record { arrays = refl; iterators = refl }) r (λ p.
      let s = state_of before p in
      carried_call i t.handles values (holding t.texts s) (holding now s) words memory (e t.handles (holding t.texts s) words) evaluated r none t.free_handle
      (comes (holding t.texts s)) (evaluates s) carries)

  pub carried_tables : (f : HostForm) → TableCalls i (of_tables t f) words memory r (of_texts now values (of_tables t f))
  carried_tables f = plain_calls i (of_tables t f) (of_texts now values (of_tables t f)) words memory r none by
    where
      by : (v : View) → IsTableCall i (viewed v (of_tables t f)) words memory r (viewed v (of_texts now values (of_tables t f)))
      by (After o) = carried (form_with_output o f)
      by (Finding finds outside o) = carried (form_finding finds outside o f)

-- a call on all tables, where no fault is kept, whatever the files and the main input are
pub plain_tables : (i : Import) (words : List Word) (memory : List ℕ) (r : Result (Option Word) Refusal) (t u : Tables) (f : HostForm) → t.fault ≡ None
    → ((g : HostForm) → IsTableCall i (of_tables t g) words memory r (of_tables u g)) → TableCalls i (of_tables t f) words memory r (of_tables u f)
plain_tables i words memory r t u f none calls = plain_calls i (of_tables t f) (of_tables u f) words memory r none by
  where
    by : (v : View) → IsTableCall i (viewed v (of_tables t f)) words memory r (viewed v (of_tables u f))
    by (After o) = calls (form_with_output o f)
    by (Finding finds outside o) = calls (form_finding finds outside o f)
