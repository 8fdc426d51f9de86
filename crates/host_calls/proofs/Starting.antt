-- The host at the start of a job.
use Rattle.std.proofs.Common.{◌≡◌, List, [], None, Some, ap, sym, subst}
use Rattle.sem_primitives.specs.InputParts.{to_come}
use Rattle.sem_primitives.specs.Jobs.{JobForm, Opened}
use Rattle.sem_primitives.specs.ClosedJobs.{shared_at_start}
use Rattle.sem_primitives.specs.SharedState.{Inner, Pairs}
use Rattle.world_core.specs.WorldState.{Entry, Outside, Source, State}
use Rattle.host_step.specs.HostState.{HostState}
use Rattle.host_step.specs.Starts.{state_at_start, state_in}
use Rattle.host_values.specs.Findings.{ShownFirst, form_finding, nowhere}
use Rattle.host_values.specs.Forms.{Coming, HostForm, Keys, Stands, inner_of}
use Rattle.host_streams.specs.Readers.{coming}
use Rattle.host_worlds.specs.States.{Over, coming_of, input_at_start, with_input}
use Rattle.host_worlds.specs.declared.input.Input.{Input}
use Rattle.host_texts.specs.declared.names.Names.{Names}
use Rattle.host_tables.specs.Starts.{form_of}
use Rattle.host_tables.specs.declared.start.FirstTables.{FirstTables}
use Rattle.host_values.proofs.Showing.{shown_of}
use Rattle.host_tables.specs.Forms.{of_tables_and_names}
use Rattle.host_tables.specs.declared.tables.Tables.{Tables}
use Rattle.host_calls.specs.Forms.{form_in, form_over, nothing}

-- the lists of arrays and iterators that the form itself has are not looked at
stands_beside : (f : HostForm) (s : HostState) (arrays : List Pairs) (iterators : List Keys) → Stands f s
    → Stands (record f { shared = record f.shared { inner = inner_of f.shared.inner arrays iterators } }) s
stands_beside f s arrays iterators h = record { past = h.past; state = h.state; arrays = h.arrays; iterators = h.iterators; first = h.first }

module _ (t : Tables) (names : Names) (job : JobForm) (source : Source) (outside : Outside) (coming : Coming) where
  abbrev first_form : HostForm
  first_form = record {
    values = t.handles;
    arrays = t.arrays;
    iterators = t.iterators;
    shared = shared_at_start job source outside;
    coming = coming;
    arguments = [];
    fault = None;
  }

module _ (t : Tables) (i : Input) (names : Names) (first : FirstTables) (job : JobForm)
    (same : (f : HostForm) → of_tables_and_names t names f ≡ form_of first f.shared f.coming)
    (begins : (s : State) (inner : Inner) → with_input i (Over s) inner ≡ input_at_start names s inner)
    (stands : (source : Source) (outside : Outside) (coming : Coming) → Stands (form_of first (shared_at_start job source outside) coming) (state_at_start job source outside)) where
  stands_in : (state : State) → Stands (form_in t i state) (state_at_start job (state.readers 0) state.outside)
  stands_in state =
      let source = state.readers 0 in
      let s = state_at_start job source state.outside in
      let f = first_form t names job source state.outside (coming_of i) in
      subst (λ (inner : Inner). Stands (form_over t inner (coming_of i) state.outside) s) (sym (begins state (nothing source)))
      (stands_beside (of_tables_and_names t names f) s [] []
      (subst (λ (z : HostForm). Stands z s) (sym (same f)) (stands source state.outside (coming_of i))))

  -- where others change what names hold too, it is as over a world of which nothing is known but that something is to come
  stands_found : (state : State) (finds : List Entry) → Stands (form_finding finds nowhere [] (form_in t i state)) (state_in job to_come (Opened finds))
  stands_found state finds =
      let h = stands_in coming in
      record {
        past = h.past;
        state = ap (λ (s : HostState). record s { shared = record s.shared { inner = record s.shared.inner { finds = Some finds } } }) h.state;
        arrays = h.arrays;
        iterators = h.iterators;
        first = h.first;
      }

  pub starts : (state : State) → ShownFirst (form_in t i state) job (state.readers 0) state.outside
  starts state = record {
    kept = shown_of (form_in t i state) (state_at_start job (state.readers 0) state.outside) (stands_in state);
    found = λ finds. shown_of (form_finding finds nowhere [] (form_in t i state)) (state_in job to_come (Opened finds)) (stands_found state finds);
  }
