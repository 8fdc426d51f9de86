-- Reads of files are calls.
use Rattle.std.proofs.Common.{◌≡◌, ℕ, ℤ, true, List, [], ◌∷◌, ◌++◌, Some, None, Result, Ok, Err, refl, sym, ap, subst, ◌∙◌}
use Rattle.awk_values.specs.Values.{text_of_value}
use Rattle.std.specs.FinMap as map
use Rattle.awk_values.specs.declared.fault.Stop.{Stop}
use Rattle.awk_values.specs.declared.fault.Stop.TheVariants.{Fault as IsFault, NoMemory}
use Rattle.awk_values.specs.declared.value.Value.{Value}
use Rattle.sem_primitives.specs.SharedState.{Inner}
use Rattle.sem_primitives.specs.Sorts.{Row}
use Rattle.sem_primitives.specs.declared.answers.InputAnswer.{InputAnswer}
use Rattle.sem_primitives.specs.declared.sorts.Argument.TheVariants as argument
use Rattle.sem_primitives.specs.declared.sorts.Sort.TheVariants as sort
use Rattle.wasm_model.specs.declared.host.HostAnswer.TheVariants as told
use Rattle.wasm_store.specs.declared.trap.TrapKind.{TrapKind}
use Rattle.wasm_store.specs.declared.word.Word.{Word}
use Rattle.wasm_store.specs.declared.word.Word.TheVariants.{I32}
use Rattle.world_core.specs.WorldState.{Action, Entry, Outside, State}
use Rattle.host_imports.specs.Codes.{input_code}
use Rattle.host_step.specs.Answers.{refusal}
use Rattle.host_step.specs.Arguments.{and_then}
use Rattle.host_step.specs.HostState.{HostState, Names}
use Rattle.host_step.specs.HostStep.{Acts, acts, carried}
use Rattle.host_imports.specs.Imports.{import_answer, spends}
use Rattle.host_step.specs.Worlds.{Wanted}
use Rattle.host_imports.specs.declared.import.Import.TheVariants.{OfPrimitive}
use Rattle.host_texts.specs.declared.texts.Texts.{Texts}
use Rattle.host_values.specs.Calls.{names_with}
use Rattle.host_values.specs.Evaluations.{Values}
use Rattle.host_values.specs.Singles.{only_handle}
use Rattle.host_step.specs.declared.refusal.Refusal.TheVariants as why
use Rattle.host_values.proofs.OneHandle.{as_row, decoded}
use Rattle.host_values.specs.Forms.{HostForm, Past, inner_of, state_of}
use Rattle.host_values.proofs.ElementSteps.{state_with}
use Rattle.host_values.specs.Findings.{form_finding}
use Rattle.host_values.specs.WorldCalls.{IsCalled}
use Rattle.host_worlds.specs.Calls.{answered_by, shown_after, with_values}
use Rattle.host_worlds.specs.Finds.{FindsFileRow}
use Rattle.host_worlds.specs.Givens.{RowGives, file_primitive, file_row}
use Rattle.host_worlds.specs.States.{Finding, Over, over_world, with_tables}
use Rattle.host_worlds.specs.declared.input.Input.{Input}
use Rattle.host_worlds.specs.declared.input.ReadInto.{ReadInto}
use Rattle.host_worlds.specs.declared.input.ReadInto.TheVariants.{Variable, Record}
use Rattle.host_worlds.proofs.MainCalls.{acts_given}
use Rattle.host_worlds.proofs.ReadFound.{answers_found, faults_found, traps_found}
use Rattle.host_worlds.proofs.ReadSteps.{Carries, IsReading, answer_called, fault_called, form_output, leads_in, memory_wanted, trap_called}

-- The two imports.

pub file_reading : (to : ReadInto) → IsReading (OfPrimitive (file_primitive to))
file_reading Record = record { coerce = λ x. x; word = λ names x. refl; free = λ names x. tt; refused = refl; typed = λ n. refl }
file_reading Variable = record { coerce = λ x. x; word = λ names x. refl; free = λ names x. tt; refused = refl; typed = λ n. refl }

module _ (f : HostForm) (p : Past) (words : List Word) (memory : List ℕ) (none : f.fault ≡ None) where
  abbrev start : HostState
  start = state_of f p

  abbrev at : List Action → HostState
  at o = state_of (form_output o f) p

  abbrev Decoded : Type 0
  Decoded = Result (Row (argument.Of sort.Value ∷ []) × Names) TrapKind

  abbrev then_records : HostState → Decoded → Result (Names × Acts InputAnswer) TrapKind
  then_records s r = and_then r (λ x. and_then (acts (OfPrimitive (file_primitive Record)) x.0 s) (λ d. Ok (x.1, d)))

  abbrev then_lines : HostState → Decoded → Result (Names × Acts InputAnswer) TrapKind
  then_lines s r = and_then r (λ x. and_then (acts (OfPrimitive (file_primitive Variable)) x.0 s) (λ d. Ok (x.1, d)))

  module _ (h : ℤ) (v : Value) (reads : only_handle f.values words ≡ Ok (h, v)) where
    abbrev left : Names
    left = names_with (map.remove f.values h) start

    file_carries : (to : ReadInto) → Carries (OfPrimitive (file_primitive to)) (file_reading to) f p words memory none left (file_row to v start.shared.outside start.shared.inner)
    unfolding file_reading
    file_carries Record = record {
      answers = λ o inner x is.
          ap (then_records (at o)) (decoded (spends (OfPrimitive (file_primitive Record))) refl (at o) f.values memory words ∙ ap (as_row (at o) f.values) reads)
          ∙ acts_given true left (at o) (file_row Record v start.shared.outside start.shared.inner) (Ok (inner, x)) refl is;
      faults = λ o fault is.
          ap (then_records (at o)) (decoded (spends (OfPrimitive (file_primitive Record))) refl (at o) f.values memory words ∙ ap (as_row (at o) f.values) reads)
          ∙ acts_given true left (at o) (file_row Record v start.shared.outside start.shared.inner) (Err fault) refl is;
    }
    file_carries Variable = record {
      answers = λ o inner x is.
          ap (then_lines (at o)) (decoded (spends (OfPrimitive (file_primitive Variable))) refl (at o) f.values memory words ∙ ap (as_row (at o) f.values) reads)
          ∙ acts_given true left (at o) (file_row Variable v start.shared.outside start.shared.inner) (Ok (inner, x)) refl is;
      faults = λ o fault is.
          ap (then_lines (at o)) (decoded (spends (OfPrimitive (file_primitive Variable))) refl (at o) f.values memory words ∙ ap (as_row (at o) f.values) reads)
          ∙ acts_given true left (at o) (file_row Variable v start.shared.outside start.shared.inner) (Err fault) refl is;
    }

  file_traps : (to : ReadInto) (k : TrapKind) → only_handle f.values words ≡ Err k → (o : List Action) → carried (OfPrimitive (file_primitive to)) words memory (at o) ≡ Err k
  file_traps Record k e o = ap (then_records (at o)) (decoded (spends (OfPrimitive (file_primitive Record))) refl (at o) f.values memory words ∙ ap (as_row (at o) f.values) e)
  file_traps Variable k e o = ap (then_lines (at o)) (decoded (spends (OfPrimitive (file_primitive Variable))) refl (at o) f.values memory words ∙ ap (as_row (at o) f.values) e)

-- The calls.

module _ (tells : Type 0) (to : ReadInto) (f : HostForm) (words : List Word) (memory : List ℕ) (none : f.fault ≡ None) (m : Values) (t : Texts) (i : Input) (s : State) where
  abbrev old : HostForm
  old = with_values m (over_world t i s f)

  pub file_trapped : (k : TrapKind) → only_handle m words ≡ Err k → IsCalled tells (OfPrimitive (file_primitive to)) old words memory (Err (why.Trap k)) old []
  file_trapped k e = (
    leads_in tells (OfPrimitive (file_primitive to)) old old words memory (told.Trap k) refl refl (λ p past.
        trap_called (OfPrimitive (file_primitive to)) (file_reading to) old p words memory none tells k (file_traps old p words memory none to k e)),
    traps_found (OfPrimitive (file_primitive to)) (file_reading to) old words memory none k (λ finds o so_far p. file_traps (form_finding finds o so_far old) p words memory none to k e so_far),
  )

  module _ (h : ℤ) (v : Value) (reads : only_handle m words ≡ Ok (h, v)) (m' : Values) (taken : m' ≡ map.remove m h) (t' : Texts) (i' : Input) (s' : State) (r : Result InputAnswer Stop)
      (told_row : tells → (inner : Inner) → RowGives (file_row to v s.outside (with_tables t i (Over s) inner)) r (with_tables t' i' (Over s') inner)) (outside : tells → s'.outside ≡ s.outside)
      (name : List ℕ) (same : text_of_value v ≡ name) (finds : FindsFileRow to name t i r t' i') where
    abbrev new : HostForm
    new = with_values m' (over_world t' i' s' f)

    abbrev inner_at : Past → Inner
    inner_at p = inner_of f.shared.inner p.arrays p.iterators

    abbrev spent : Past → Names
    spent p = names_with (map.remove m h) (state_of old p)

    abbrev mid : Past → Values → Outside → HostState
    mid p x o = record (state_of (with_values x new) p) { shared = record (state_of new p).shared { outside = o } }

    state_is : (p : Past) → s'.outside ≡ s.outside → state_with (spent p) (with_tables t' i' (Over s') (inner_at p)) old ≡ state_of new p
    state_is p e = ap (λ (x : Values). mid p x s.outside) (sym taken) ∙ ap (mid p m') (sym e)

    abbrev old_left : Values → HostForm
    old_left x = record old { values = x }

    -- where others change what names hold too
    state_found : (later : List Entry) (o : Outside) (so_far : List Action) (p : Past)
        → state_with (spent p) (with_tables t' i' (Finding later) (inner_at p)) (form_finding (finds.0 ++ later) o so_far old) ≡ state_of (form_finding later o so_far new) p
    state_found later o so_far p = ap (λ (x : Values). state_of (form_finding later o so_far (with_values x new)) p) (sym taken)

    file_called : (x : Result InputAnswer Stop) → r ≡ x → IsCalled tells (OfPrimitive (file_primitive to)) old words memory (answered_by x) (shown_after (answered_by x) old new) []
    file_called (Ok x) e = (
      leads_in tells (OfPrimitive (file_primitive to)) old new words memory (told.Done (Some (I32 (input_code x)))) refl refl (λ p past.
          answer_called (OfPrimitive (file_primitive to)) (file_reading to) old p words memory none (spent p) (file_row to v s.outside (with_tables t i (Over s) (inner_at p))) (file_carries old p words memory none h v reads to) tells x (state_of new p)
          (λ y. (with_tables t' i' (Over s') (inner_at p), subst (λ a. RowGives (file_row to v s.outside (with_tables t i (Over s) (inner_at p))) a (with_tables t' i' (Over s') (inner_at p))) e (told_row y (inner_at p)), state_is p (outside y)))),
      answers_found (OfPrimitive (file_primitive to)) (file_reading to) old words memory none new refl refl finds.0 none x (λ later o so_far p past. (
        spent p,
        file_row to v o (state_of (form_finding (finds.0 ++ later) o so_far old) p).shared.inner,
        file_carries (form_finding (finds.0 ++ later) o so_far old) p words memory none h v reads to,
        with_tables t' i' (Finding later) (inner_at p),
        subst (λ a. RowGives (file_row to v o (with_tables t i (Finding (finds.0 ++ later)) (inner_at p))) a (with_tables t' i' (Finding later) (inner_at p)))
            e (finds.1 later o (inner_at p) v same),
        state_found later o so_far p,
      )),
    )
    file_called (Err (IsFault fault)) e = (
      leads_in tells (OfPrimitive (file_primitive to)) old (record (old_left m') { fault = Some fault }) words memory (told.Done (refusal (import_answer (OfPrimitive (file_primitive to))))) refl refl (λ p past.
          fault_called (OfPrimitive (file_primitive to)) (file_reading to) old p words memory none (spent p) (file_row to v s.outside (with_tables t i (Over s) (inner_at p))) (file_carries old p words memory none h v reads to) tells fault (state_of (record (old_left m') { fault = Some fault }) p)
          (λ y. subst (λ a. RowGives (file_row to v s.outside (with_tables t i (Over s) (inner_at p))) a (with_tables t' i' (Over s') (inner_at p))) e (told_row y (inner_at p)))
          (ap (λ (x : Values). state_of (record (old_left x) { fault = Some fault }) p) (sym taken))),
      faults_found (OfPrimitive (file_primitive to)) (file_reading to) old words memory none (record (old_left m') { fault = Some fault }) refl refl finds.0 fault refl (λ later o so_far p past. (
        spent p,
        file_row to v o (state_of (form_finding (finds.0 ++ later) o so_far old) p).shared.inner,
        file_carries (form_finding (finds.0 ++ later) o so_far old) p words memory none h v reads to,
        subst (λ a. RowGives (file_row to v o (with_tables t i (Finding (finds.0 ++ later)) (inner_at p))) a (with_tables t' i' (Finding later) (inner_at p)))
            e (finds.1 later o (inner_at p) v same),
        ap (λ (x : Values). state_of (form_finding (finds.0 ++ later) o so_far (record (old_left x) { fault = Some fault })) p) (sym taken),
      )),
    )
    file_called (Err NoMemory) e = λ y s0 st. (
      state_of new st.past,
      refl,
      subst (λ z. Wanted (Some (OfPrimitive (file_primitive to))) z words memory (state_of new st.past) []) (sym st.state)
          (memory_wanted (OfPrimitive (file_primitive to)) (file_reading to) old st.past words memory none (spent st.past) (file_row to v s.outside (with_tables t i (Over s) (inner_at st.past))) (file_carries old st.past words memory none h v reads to) (state_of new st.past) (outside y)),
    )

    pub file_answers : IsCalled tells (OfPrimitive (file_primitive to)) old words memory (answered_by r) (shown_after (answered_by r) old new) []
    file_answers = file_called r refl

  -- memory was wanting before the file was read
  pub file_wanted : (h : ℤ) (v : Value) → only_handle m words ≡ Ok (h, v) → IsCalled tells (OfPrimitive (file_primitive to)) old words memory (Err why.NoMemory) old []
  file_wanted h v reads = λ y s0 st. (
    state_of old st.past,
    refl,
    subst (λ z. Wanted (Some (OfPrimitive (file_primitive to))) z words memory (state_of old st.past) []) (sym st.state)
        (memory_wanted (OfPrimitive (file_primitive to)) (file_reading to) old st.past words memory none (names_with (map.remove m h) (state_of old st.past)) (file_row to v s.outside (with_tables t i (Over s) (inner_of f.shared.inner st.past.arrays st.past.iterators))) (file_carries old st.past words memory none h v reads to) (state_of old st.past) refl),
  )
