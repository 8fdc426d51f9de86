-- From what the code put out, to what its call is on the host's tables.
use Rattle.std.proofs.Common.{◌≡◌, ℕ, List, [], ◌∷◌, ◌++◌, map, Option, Some, None, Result, Ok, Err, refl, sym, ap, subst, ◌∙◌}
use Rattle.std.proofs.lemmas.List.{length-map}
use Rattle.awk_values.specs.declared.fault.Fault.{Fault}
use Rattle.awk_values.specs.declared.fault.Stop.{Stop}
use Rattle.awk_values.specs.declared.fault.Stop.TheVariants as stop
use Rattle.awk_values.specs.declared.value.Value.{Value}
use Rattle.sem_primitives.specs.Finds.{finds_by}
use Rattle.sem_primitives.specs.SharedState.{Inner, Shared}
use Rattle.sem_primitives.specs.declared.sorts.Answer.TheVariants as answer
use Rattle.wasm_model.specs.declared.host.HostAnswer.{HostAnswer}
use Rattle.wasm_model.specs.declared.host.HostAnswer.TheVariants as told
use Rattle.wasm_store.specs.declared.word.Word.{Word}
use Rattle.wasm_store.specs.declared.word.Word.TheVariants.{I32}
use Rattle.world_core.specs.Calls.{Kind, Reading}
use Rattle.world_core.specs.WorldState.{Action, Entry, Outside, Source, State, after}
use Rattle.host_step.specs.Answers.{refusal}
use Rattle.host_step.specs.HostState.{HostState}
use Rattle.host_step.specs.HostStep.{StepIf, StepOf}
use Rattle.host_imports.specs.Imports.{import_answer}
use Rattle.host_step.specs.Worlds.{Called, Wanted, with_output}
use Rattle.host_imports.specs.declared.import.Import.{Import}
use Rattle.host_step.specs.declared.refusal.Refusal.TheVariants as why
use Rattle.host_values.specs.Forms.{HostForm, Past, Stands, state_of}
use Rattle.host_streams.specs.OpenFiles.{AreOpen, names_of, reader_handle, readers_in}
use Rattle.host_streams.specs.Outputs.{PutsIs}
use Rattle.host_streams.specs.Given.{IsOutput}
use Rattle.host_streams.specs.Puts.{HasDone, Spares}
use Rattle.host_streams.specs.Readers.{coming, left}
use Rattle.host_streams.specs.declared.streams.NamedReader.{NamedReader}
use Rattle.host_streams.specs.declared.streams.Streams.{Streams}
use Rattle.host_values.specs.Findings.{IsFound, form_finding}
use Rattle.host_values.specs.WorldCalls.{IsCalled, LeadsFinding, LeadsIn, LedFinding}
use Rattle.host_worlds.specs.OutputCalls.{PossibleOutcome, HasFiles, PutsFound, SomeFound, answer_of, finding, left_by}
use Rattle.host_worlds.specs.Forms.{writing}
use Rattle.host_worlds.proofs.Puts.{OnlyWriters, none_by, so_far_in, with_writers}
use Rattle.host_worlds.proofs.Steps.{Puts, after_put, done_by, fault_by}
use Rattle.host_worlds.proofs.Worlds.{called_found, sharing, wanted_part}

-- what readers have left, where every stream stays where it is
pub readers_stay : (kinds : ℕ → Kind) (rs : List NamedReader) (s t : State) → AreOpen Reading (map reader_handle rs) kinds → Spares kinds s t → readers_in rs t ≡ readers_in rs s
readers_stay kinds [] s t h spares = refl
readers_stay kinds (r ∷ rs) s t h spares =
    ap (λ (x : Source). (r.name, left r.reader x) ∷ readers_in rs t) (spares.readers r.reader.id (λ closed. cc (sym h.1 ∙ closed)))
    ∙ ap (λ xs. (r.name, left r.reader (s.readers r.reader.id)) ∷ xs) (readers_stay kinds rs s t h.3 spares)

-- A text is put out over these tables.
module _ (g : HostForm) (arguments now : List Value) (streams streams' : Streams) (state state' : State) where
  abbrev before : HostForm
  before = writing arguments streams state g

  abbrev later : Option Fault → HostForm
  later fault = record (writing now streams' state' g) { fault = fault }

  module _ (p : Past) (d : Puts) (fs : Option (List Entry)) (only : d.inner ≡ with_writers (state_of before p).shared.inner d.inner.writers fs) where
    abbrev shape : Inner → Outside → Option Fault → HostState
    shape inner outside fault = record { names = (state_of before p).names; shared = record { inner = inner; outside = outside; output = [] }; arguments = now; fault = fault }

    abbrev inner_at : List (List ℕ × Source) → List (List ℕ) → Inner
    inner_at rs ws = record (state_of before p).shared.inner { readers = rs; writers = ws }

    state_after : (r : Result (Unit {0}) Fault) → fs ≡ None → readers_in streams'.readers.items state' ≡ readers_in streams.readers.items state → HasDone d r state state' → names_of streams'.writers.items ≡ d.inner.writers
        → with_output [] (state_of (later (fault_by g.fault r)) p) ≡ with_output [] (after_put (state_of before p) d now)
    state_after r none readers done names =
        ap (λ rs. shape (inner_at rs (names_of streams'.writers.items)) state'.outside (fault_by g.fault r)) readers
        ∙ ap (λ ws. shape (inner_at (readers_in streams.readers.items state) ws) state'.outside (fault_by g.fault r)) names
        ∙ ap (λ finds. shape (record (inner_at (readers_in streams.readers.items state) d.inner.writers) { finds = finds }) state'.outside (fault_by g.fault r)) (sym none)
        ∙ ap (λ (inner : Inner). shape inner state'.outside (fault_by g.fault r)) (sym only)
        ∙ ap (λ (o : Outside). shape d.inner o (fault_by g.fault r)) done.outside
        ∙ ap (λ (x : Result (Unit {0}) Fault). shape d.inner (after d.added state.outside) (fault_by g.fault x)) (sym done.answer_is)

  -- where these are found
  module _ (p : Past) (finds rest : List Entry) (outside : Outside) (so_far added : List Action) where
    abbrev there : HostState
    there = state_of (form_finding finds outside so_far before) p

    abbrev there_after : Inner → List Action → Option Fault → HostState
    there_after inner out fault = record {
      names = there.names;
      shared = record { inner = inner; outside = after out outside; output = so_far ++ out };
      arguments = now;
      fault = fault;
    }

    found_after : (d : Puts) (r : Result (Unit {0}) Fault) (fs : Option (List Entry)) → d.inner ≡ with_writers there.shared.inner d.inner.writers fs
        → streams'.readers ≡ streams.readers → PutsFound d streams' r added rest
        → after_put there d now ≡ state_of (form_finding rest (after added outside) (so_far ++ added) (later (fault_by g.fault r))) p
    found_after d r fs only kept x =
        ap (λ (inner : Inner). there_after inner d.added (fault_by g.fault d.answer)) only
        ∙ ap (λ ws. there_after (with_writers there.shared.inner ws fs) d.added (fault_by g.fault d.answer)) x.writers
        ∙ ap (λ f. there_after (with_writers there.shared.inner (names_of streams'.writers.items) f) d.added (fault_by g.fault d.answer))
        (sym (ap (λ (inner : Inner). inner.finds) only) ∙ x.finds)
        ∙ ap (λ out. there_after (with_writers there.shared.inner (names_of streams'.writers.items) (Some rest)) out (fault_by g.fault d.answer)) x.added_is
        ∙ ap (λ (q : Result (Unit {0}) Fault). there_after (with_writers there.shared.inner (names_of streams'.writers.items) (Some rest)) added (fault_by g.fault q)) x.answer_is
        ∙ ap (λ v. there_after (record (with_writers there.shared.inner (names_of streams'.writers.items) (Some rest)) { readers = readers_in v.items coming })
        added (fault_by g.fault r)) (sym kept)

-- Something is found where it answers so and puts this out, over shared states that have these files open and fit.
abbrev SomeAt : (Shared → Puts) → (Shared → Type 0) → Streams → Streams → Result (Unit {0}) Fault → List Action → Type 0
SomeAt does fits streams streams' answer added = (found : List Entry) × ((later : List Entry) (shared : Shared) → HasFiles streams shared → fits shared
    → PutsFound (does (finding (found ++ later) shared)) streams' answer added (left_by answer found later))

abbrev pub CouldAt : (Shared → Puts) → (Shared → Type 0) → Streams → Streams → Result (Unit {0}) Stop → List Action → Type 0
CouldAt does fits streams streams' (Ok u) added = SomeAt does fits streams streams' (Ok tt) added
CouldAt does fits streams streams' (Err (stop.Fault fault)) added = SomeAt does fits streams streams' (Err fault) added
CouldAt does fits streams streams' (Err stop.NoMemory) added = Unit {0}

module _ (does does' : Shared → Puts) (fits : Shared → Type 0) (streams streams' : Streams) (added : List Action)
    (same : (shared : Shared) → fits shared → (finds : List Entry) → does (finding finds shared) ≡ does' (finding finds shared)) where
  some_at : (answer : Result (Unit {0}) Fault) → SomeFound does streams streams' answer added → SomeAt does' fits streams streams' answer added
  some_at answer some = (
    some.0,
    λ later shared is fit. subst (λ (d : Puts). PutsFound d streams' answer added (left_by answer some.0 later)) (same shared fit (some.0 ++ later)) (some.1 later shared is),
  )

  pub could_at : (put : Result (Unit {0}) Stop) → PossibleOutcome does streams streams' put added → CouldAt does' fits streams streams' put added
  could_at (Ok u) some = some_at (Ok tt) some
  could_at (Err (stop.Fault fault)) some = some_at (Err fault) some
  could_at (Err stop.NoMemory) some = tt

-- nothing is left but what is found later
left_found : (kept : Option Fault) (r : Result (Unit {0}) Fault) (found later : List Entry) → IsFound (fault_by kept r) [] later (left_by r found later)
left_found None (Ok u) found later = refl
left_found (Some fault) (Ok u) found later = tt
left_found kept (Err fault) found later = tt

-- the same output, where the world is modelled
called_as : (tells : Type 0) (import : Option Import) (s : HostState) (words : List Word) (memory : List ℕ) (a : HostAnswer) (s' : HostState) (xs ys : List Action) → (tells → xs ≡ ys)
    → Called tells import s words memory a s' xs → Called tells import s words memory a s' ys
called_as tells import s words memory a s' xs ys same c = record {
  typed = c.typed;
  step = λ t so_far. subst (λ (out : List Action). StepIf import (with_output so_far s) words memory a (with_output (so_far ++ out) s') out) (same t) (c.step t so_far);
}

-- an import that puts a text out
module _ (tells : Type 0) (i : Import) (words : List Word) (memory : List ℕ) (refusing : refusal (import_answer i) ≡ refusal answer.Done)
    (g : HostForm) (arguments now : List Value) (streams streams' : Streams) (state state' : State) (does : Shared → Puts) (actions : List Action)
    (steps : (p : Past) (shared : Shared) → StepOf i (sharing (state_of (writing arguments streams state g) p) shared) words memory (done_by (does shared).answer)
    (after_put (sharing (state_of (writing arguments streams state g) p) shared) (does shared) now) (does shared).added)
    (same : (shared : Shared) (output : List Action) → does (so_far_in output shared) ≡ does shared)
    (only : (shared : Shared) → OnlyWriters shared.inner (does shared))
    (fits : Shared → Type 0) (fit : (p : Past) → fits (state_of (writing arguments streams state g) p).shared)
    (fit_there : (p : Past) (finds : List Entry) (outside : Outside) (so_far : List Action) → fits (state_of (form_finding finds outside so_far (writing arguments streams state g)) p).shared)
    (kept : streams'.readers ≡ streams.readers)
    (readers : tells → readers_in streams'.readers.items state' ≡ readers_in streams.readers.items state) where
  abbrev shared_at : Past → Shared
  shared_at p = (state_of (writing arguments streams state g) p).shared

  abbrev form_after : Option Fault → HostForm
  form_after fault = record (writing now streams' state' g) { fault = fault }

  leads_so : (r : Result (Unit {0}) Fault) (a : HostAnswer) → a ≡ done_by r
      → (tells → (p : Past) → HasDone (does (shared_at p)) r state state' × (names_of streams'.writers.items ≡ (does (shared_at p)).inner.writers))
      → (tells → (p : Past) → actions ≡ (does (shared_at p)).added)
      → SomeAt does fits streams streams' r actions
      → LeadsIn tells i (writing arguments streams state g) words memory a (form_after (fault_by g.fault r)) actions
  leads_so r a answered done out some s st =
      let p = st.past in
      let could = some.1 [] (shared_at p) (record { readers = length-map streams.readers.items _; writers = refl }) (fit p) in (
        state_of (form_after (fault_by g.fault r)) p,
        record { past = p; state = refl; arrays = st.arrays; iterators = st.iterators; first = st.first },
        subst (λ (t : HostState). Called tells (Some i) t words memory a (state_of (form_after (fault_by g.fault r)) p) actions) (sym st.state)
            (called_as tells (Some i) (state_of (writing arguments streams state g) p) words memory a (state_of (form_after (fault_by g.fault r)) p) (does (shared_at p)).added actions (λ t. sym (out t p))
            (called_found i (state_of (writing arguments streams state g) p) words memory now does (steps p) same tells a (state_of (form_after (fault_by g.fault r)) p) (some.0 ++ [])
            (λ t. (
              answered ∙ ap done_by (sym (done t p).0.answer_is),
              state_after g arguments now streams streams' state state' p (does (shared_at p)) (finds_by (does (shared_at p)).answer None) (only (shared_at p)) r
                  (none_by (does (shared_at p)).answer) (readers t) (done t p).0 (done t p).1,
            ))
            (answered ∙ ap done_by (sym could.answer_is)))),
      )

  finds_so : (r : Result (Unit {0}) Fault) (a : HostAnswer) → a ≡ done_by r → SomeAt does fits streams streams' r actions
      → LeadsFinding i (writing arguments streams state g) words memory a (form_after (fault_by g.fault r)) actions
  finds_so r a answered some = record { found = some.0; leads = by } where
    by : (more : List Entry) (outside : Outside) (so_far : List Action) (s : HostState) → Stands (form_finding (some.0 ++ more) outside so_far (writing arguments streams state g)) s
        → LedFinding i s words memory a (form_after (fault_by g.fault r)) actions more outside so_far
    by more outside so_far s st =
        let p = st.past in
        let there = state_of (form_finding (some.0 ++ more) outside so_far (writing arguments streams state g)) p in
        let rest = left_by r some.0 more in
        let last = state_of (form_finding rest (after actions outside) (so_far ++ actions) (form_after (fault_by g.fault r))) p in
        let d = does there.shared in
        let x = some.1 more there.shared (record { readers = length-map streams.readers.items _; writers = refl })
        (fit_there p (some.0 ++ more) outside so_far) in
        let state_is = found_after g arguments now streams streams' state state' p (some.0 ++ more) rest outside so_far actions d r (finds_by d.answer (Some (some.0 ++ more)))
        (only there.shared) kept x in
        record {
          rest = rest;
          left = left_found g.fault r some.0 more;
          state = last;
          stands = record { past = p; state = refl; arrays = st.arrays; iterators = st.iterators; first = st.first };
          step = subst (λ (t : HostState). StepOf i t words memory a last actions) (sym st.state)
              (subst (λ (out : List Action). StepOf i there words memory a last out) x.added_is
              (subst (λ (z : HostState). StepOf i there words memory a z d.added) state_is
              (subst (λ (b : HostAnswer). StepOf i there words memory b (after_put there d now) d.added) (sym (answered ∙ ap done_by (sym x.answer_is))) (steps p there.shared))));
        }

  wants_so : (tells → (p : Past) → IsOutput {A = Unit {0}} actions (does (shared_at p)) (Err stop.NoMemory)) → (tells → state'.outside ≡ after actions state.outside)
      → IsCalled tells i (writing arguments streams state g) words memory (Err why.NoMemory) (writing now streams' state' g) actions
  wants_so begun outside t s st =
      let p = st.past in
      let b = begun t p in
      let last = state_of (writing now streams' state' g) p in (
        last,
        refl,
        subst (λ (x : HostState). Wanted (Some i) x words memory last actions) (sym st.state)
            (subst (λ (out : List Action). Wanted (Some i) (state_of (writing arguments streams state g) p) words memory last out) (sym b.1)
            (wanted_part i (state_of (writing arguments streams state g) p) words memory now does (steps p) same last b.0
            (outside t ∙ ap (λ (out : List Action). after out state.outside) b.1))),
      )

  pub puts_so : (put : Result (Unit {0}) Stop)
      → (tells → (p : Past) → PutsIs (does (shared_at p)) put state state' (names_of streams.writers.items) (names_of streams'.writers.items))
      → (tells → (p : Past) → IsOutput actions (does (shared_at p)) put) → (tells → state'.outside ≡ after actions state.outside)
      → CouldAt does fits streams streams' put actions
      → IsCalled tells i (writing arguments streams state g) words memory (answer_of put) (writing now streams' state' g) actions
  puts_so (Ok u) h out outside some = (leads_so (Ok tt) (told.Done (Some (I32 0))) refl h out some, finds_so (Ok tt) (told.Done (Some (I32 0))) refl some)
  puts_so (Err (stop.Fault fault)) h out outside some = (
    leads_so (Err fault) (told.Done (refusal (import_answer i))) (ap told.Done refusing) h out some,
    finds_so (Err fault) (told.Done (refusal (import_answer i))) (ap told.Done refusing) some,
  )
  puts_so (Err stop.NoMemory) h out outside some = wants_so out outside
