-- Closing a file is a step.
use Rattle.std.proofs.Common.{◌≡◌, ℕ, ℤ, Bool, true, false, cond, List, [], ◌∷◌, not, Option, Some, None, Ok, Err, refl, sym, ap, subst, ◌∙◌, if◌then◌else◌}
use Rattle.std.specs.Prelude.{◌||◌}
use Rattle.std.specs.FinMap as table
use Rattle.awk_values.specs.Values.{text_of_value}
use Rattle.awk_values.specs.declared.value.Value.{Value}
use Rattle.awk_values.specs.declared.value.Value.TheVariants.{Text}
use Rattle.sem_primitives.specs.InputMeaning.{close_row, is_open, is_reading, reader_named, without_reader, without_writer}
use Rattle.sem_primitives.specs.OutputMeaning.{is_writing}
use Rattle.sem_primitives.specs.SharedState.{Inner, Shared}
use Rattle.sem_primitives.specs.Texts.{same_text}
use Rattle.sem_primitives.specs.declared.answers.StreamAnswer.{StreamAnswer}
use Rattle.sem_primitives.specs.declared.answers.StreamAnswer.TheVariants as stream
use Rattle.sem_primitives.specs.declared.table.Primitive.TheVariants as row
use Rattle.wasm_model.specs.declared.host.HostAnswer.TheVariants as told
use Rattle.wasm_store.specs.declared.trap.TrapKind.{TrapKind}
use Rattle.wasm_store.specs.declared.word.Word.{Word}
use Rattle.wasm_store.specs.declared.word.Word.TheVariants.{I32}
use Rattle.world_core.specs.WorldState.{Action, Entry, Named, Outside, Source, State}
use Rattle.world_core.specs.Traces.{Targets}
use Rattle.host_imports.specs.Codes.{stream_code}
use Rattle.host_step.specs.HostState.{HostState}
use Rattle.host_step.specs.HostStep.{StepOf, acts, carried}
use Rattle.host_step.specs.Arguments.{and_then}
use Rattle.host_imports.specs.Imports.{spends}
use Rattle.host_step.specs.Worlds.{Called, Wanted, with_output}
use Rattle.host_imports.specs.declared.import.Import.TheVariants.{OfPrimitive}
use Rattle.host_values.specs.Calls.{names_with}
use Rattle.host_values.specs.Evaluations.{Values}
use Rattle.host_values.specs.Singles.{only_handle}
use Rattle.host_step.specs.declared.refusal.Refusal.TheVariants as why
use Rattle.host_values.proofs.OneHandle.{as_row, decoded}
use Rattle.host_values.specs.ElementCalls.{Leads}
use Rattle.host_values.specs.Forms.{HostForm, Past, state_of}
use Rattle.host_values.proofs.ElementSteps.{acts_of, goes, state_with, traps, unrefused}
use Rattle.host_streams.specs.Closing.{ClosesBy}
use Rattle.host_streams.specs.Given.{AreNamed, AreTargets}
use Rattle.host_streams.specs.OpenFiles.{is_writer, names_of, reader_names, readers_beside, readers_in, writers_beside}
use Rattle.host_streams.specs.Outputs.{IsOf}
use Rattle.host_streams.specs.Readers.{coming, left}
use Rattle.host_streams.specs.declared.streams.NamedReader.{NamedReader}
use Rattle.host_streams.specs.declared.streams.NamedWriter.{NamedWriter}
use Rattle.host_streams.specs.declared.streams.Streams.{Streams}
use Rattle.host_values.specs.Findings.{form_finding}
use Rattle.host_values.specs.WorldCalls.{IsCalled, LeadsIn}
use Rattle.host_values.proofs.Found.{led_nothing}
use Rattle.host_worlds.specs.Forms.{closed_code, closing}
use Rattle.host_worlds.proofs.Worlds.{silent_called, trap_called}

-- Names.

-- the readers of other names
beside_readers : (name : List ℕ) (rs : List NamedReader) (state : State) → without_reader name (readers_in rs state) ≡ readers_in (readers_beside name rs) state
beside_readers name [] state = refl
beside_readers name (r ∷ rs) state = by (same_text name r.name) (beside_readers name rs state)
  where
    by : (b : Bool) → without_reader name (readers_in rs state) ≡ readers_in (readers_beside name rs) state
        → cond (not b) ((r.name, left r.reader (state.readers r.reader.id)) ∷ without_reader name (readers_in rs state))
        (without_reader name (readers_in rs state))
        ≡ readers_in (cond (not b) (r ∷ readers_beside name rs) (readers_beside name rs)) state
    by true e = e
    by false e = ap (λ xs. (r.name, left r.reader (state.readers r.reader.id)) ∷ xs) e

-- whether a name is open for reading
reading_first : (name : List ℕ) (b : Bool) (source : Source) (o : Option Source) (c : Bool) → is_reading o ≡ c → is_reading (cond b (Some source) o) ≡ cond b true c
reading_first name true source o c e = refl
reading_first name false source o c e = e

reading_named : (name : List ℕ) (rs : List NamedReader) (state : State) → is_reading (reader_named name (readers_in rs state)) ≡ is_writing name (reader_names rs)
reading_named name [] state = refl
reading_named name (r ∷ rs) state = reading_first name (same_text name r.name) _ (reader_named name (readers_in rs state)) _ (reading_named name rs state)

pub code_by : (b : Bool) → I32 (stream_code (if b then stream.Done else stream.NotOpen)) ≡ closed_code b
code_by true = refl
code_by false = refl

-- The step.

module _ (f : HostForm) (p : Past) (words : List Word) (memory : List ℕ) where
  abbrev closes : Value → Inner × StreamAnswer
  closes v = close_row v (state_of f p).shared.inner

  close_carried : (h : ℤ) (v : Value) → only_handle f.values words ≡ Ok (h, v)
      → carried (OfPrimitive row.Close) words memory (state_of f p) ≡ Ok (names_with (table.remove f.values h) (state_of f p), acts_of f (closes v).0 (closes v).1)
  close_carried h v is =
      ap (λ r. and_then r (λ x. and_then (acts (OfPrimitive row.Close) x.0 (state_of f p)) (λ d. Ok (x.1, d))))
      (decoded (spends (OfPrimitive row.Close)) refl (state_of f p) f.values memory words ∙ ap (as_row (state_of f p) f.values) is)

  close_trap : (k : TrapKind) → only_handle f.values words ≡ Err k → carried (OfPrimitive row.Close) words memory (state_of f p) ≡ Err k
  close_trap k is =
      ap (λ r. and_then r (λ x. and_then (acts (OfPrimitive row.Close) x.0 (state_of f p)) (λ d. Ok (x.1, d))))
      (decoded (spends (OfPrimitive row.Close)) refl (state_of f p) f.values memory words ∙ ap (as_row (state_of f p) f.values) is)

  close_step : (h : ℤ) (v : Value) → f.fault ≡ None → only_handle f.values words ≡ Ok (h, v)
      → StepOf (OfPrimitive row.Close) (state_of f p) words memory (told.Done (Some (I32 (stream_code (closes v).1)))) (state_with (names_with (table.remove f.values h) (state_of f p)) (closes v).0 f) []
  close_step h v none is =
      goes (OfPrimitive row.Close) f p _ words memory (names_with (table.remove f.values h) (state_of f p)) (closes v).0 (closes v).1 0 _ (unrefused (OfPrimitive row.Close) f.fault none) (close_carried h v is) tt refl refl

-- On the tables.

-- a form over which so much was put out
abbrev so_far_form : List Action → HostForm → HostForm
so_far_form output f = record f { shared = record f.shared { output = output } }

module _ (tells : Type 0) (f : HostForm) (words : List Word) (memory : List ℕ) (none : f.fault ≡ None) (values : Values) (streams : Streams) (state : State) where
  abbrev at_first : HostForm
  at_first = closing values streams state f

  pub close_traps : (k : TrapKind) → only_handle values words ≡ Err k → IsCalled tells (OfPrimitive row.Close) at_first words memory (Err (why.Trap k)) at_first []
  close_traps k is = (
    λ s st. (
      s,
      st,
      subst (λ (t : HostState). Called tells (Some (OfPrimitive row.Close)) t words memory (told.Trap k) t []) (sym st.state)
          (trap_called tells (OfPrimitive row.Close) (state_of at_first st.past) words memory k
          (λ so_far. traps (OfPrimitive row.Close) (so_far_form so_far at_first) st.past words memory k (unrefused (OfPrimitive row.Close) f.fault none) (close_trap (so_far_form so_far at_first) st.past words memory k is))),
    ),
    led_nothing (OfPrimitive row.Close) at_first at_first words memory (told.Trap k) (λ finds outside so_far s st. let g = form_finding finds outside so_far at_first in (
      s,
      st,
      subst (λ (t : HostState). StepOf (OfPrimitive row.Close) t words memory (told.Trap k) t []) (sym st.state)
          (traps (OfPrimitive row.Close) g st.past words memory k (unrefused (OfPrimitive row.Close) f.fault none) (close_trap g st.past words memory k is)),
    )),
  )

  pub close_wants : (h : ℤ) (v : Value) → only_handle values words ≡ Ok (h, v) → IsCalled tells (OfPrimitive row.Close) at_first words memory (Err why.NoMemory) at_first []
  close_wants h v is t s st = (
    s,
    ap (λ (x : HostState). x.shared.outside) st.state,
    subst (λ (x : HostState). Wanted (Some (OfPrimitive row.Close)) x words memory x []) (sym st.state) (record {
      outside = refl;
      answer = told.Done (Some (I32 (stream_code (closes at_first st.past words memory v).1)));
      answered = λ e. cc;
      state = state_with (names_with (table.remove values h) (state_of at_first st.past)) (closes at_first st.past words memory v).0 at_first;
      rest = [];
      step = close_step at_first st.past words memory h v none is;
    }),
  )

  module _ (h : ℤ) (v : Value) (name : List ℕ) (is : only_handle values words ≡ Ok (h, v)) (text : name ≡ text_of_value v) (values' : Values) (left : values' ≡ table.remove values h) (streams' : Streams) (state' : State) (closed : Bool)
      (answer : closed ≡ (is_writing name (reader_names streams.readers.items) || is_writing name (names_of streams.writers.items)))
      (readers' : streams'.readers.items ≡ readers_beside name streams.readers.items)
      (writer_names' : names_of streams'.writers.items ≡ without_writer name (names_of streams.writers.items))
      (told_so : tells → (shared : Shared) → IsOf streams state shared → ClosesBy (close_row (Text name) shared.inner) closed streams' state')
      (outside : tells → state'.outside ≡ state.outside) where
    abbrev at_last : HostForm
    at_last = closing values' streams' state' f

    code_is : (p : Past) → I32 (stream_code (closes at_first p words memory v).1) ≡ closed_code closed
    code_is p =
        code_by (is_open (text_of_value v) (state_of at_first p).shared.inner)
        ∙ ap (λ n. closed_code (is_open n (state_of at_first p).shared.inner)) (sym text)
        ∙ ap (λ b. closed_code (b || is_writing name (names_of streams.writers.items))) (reading_named name streams.readers.items state)
        ∙ ap closed_code (sym answer)

    abbrev step_after : Past → HostState
    step_after p = state_with (names_with (table.remove values h) (state_of at_first p)) (closes at_first p words memory v).0 at_first

    step_told : (p : Past) (so_far : List Action) → StepOf (OfPrimitive row.Close) (with_output so_far (state_of at_first p)) words memory (told.Done (Some (closed_code closed))) (with_output so_far (step_after p)) []
    step_told p so_far =
        subst (λ (w : Word). StepOf (OfPrimitive row.Close) (with_output so_far (state_of at_first p)) words memory (told.Done (Some w)) (with_output so_far (step_after p)) []) (code_is p)
        (close_step (so_far_form so_far at_first) p words memory h v none is)

    -- what is left by the definition, with these files and this outside
    abbrev shape : Past → Values → List (List ℕ × Source) → List (List ℕ) → Outside → HostState
    shape p m rs ws o = record (state_of at_first p) {
      names = names_with m (state_of at_first p);
      shared = record (state_of at_first p).shared { inner = record (state_of at_first p).shared.inner { readers = rs; writers = ws }; outside = o };
    }

    same_told : tells → (p : Past) → step_after p ≡ state_of at_last p
    same_told t p =
        let c = told_so t (state_of at_first p).shared (record { kept = refl; readers = refl; writers = refl; outside = refl }) in
        ap (λ n. shape p (table.remove values h) (without_reader n (readers_in streams.readers.items state)) (without_writer n (names_of streams.writers.items)) state.outside) (sym text)
        ∙ ap (λ (m : Values). shape p m (without_reader name (readers_in streams.readers.items state)) (without_writer name (names_of streams.writers.items)) state.outside) (sym left)
        ∙ ap (λ rs. shape p values' rs (without_writer name (names_of streams.writers.items)) state.outside) (sym c.readers)
        ∙ ap (λ ws. shape p values' (readers_in streams'.readers.items state') ws state.outside) (sym c.writers)
        ∙ ap (λ (o : Outside). shape p values' (readers_in streams'.readers.items state') (names_of streams'.writers.items) o) (sym (outside t))

    -- where others change what names hold too

    abbrev there : List Entry → Outside → List Action → HostForm
    there finds o so_far = form_finding finds o so_far at_first

    abbrev readers_there : List (List ℕ × Source)
    readers_there = readers_in streams.readers.items coming

    code_there : (finds : List Entry) (o : Outside) (so_far : List Action) (p : Past) → I32 (stream_code (closes (there finds o so_far) p words memory v).1) ≡ closed_code closed
    code_there finds o so_far p =
        code_by (is_open (text_of_value v) (state_of (there finds o so_far) p).shared.inner)
        ∙ ap (λ n. closed_code (is_open n (state_of (there finds o so_far) p).shared.inner)) (sym text)
        ∙ ap (λ b. closed_code (b || is_writing name (names_of streams.writers.items))) (reading_named name streams.readers.items coming)
        ∙ ap closed_code (sym answer)

    abbrev shape_there : List Entry → Outside → List Action → Past → Values → List (List ℕ × Source) → List (List ℕ) → HostState
    shape_there finds o so_far p m rs ws = record (state_of (there finds o so_far) p) {
      names = names_with m (state_of (there finds o so_far) p);
      shared = record (state_of (there finds o so_far) p).shared { inner = record (state_of (there finds o so_far) p).shared.inner { readers = rs; writers = ws } };
    }

    same_there : (finds : List Entry) (o : Outside) (so_far : List Action) (p : Past)
        → state_with (names_with (table.remove values h) (state_of (there finds o so_far) p)) (closes (there finds o so_far) p words memory v).0 (there finds o so_far)
        ≡ state_of (form_finding finds o so_far at_last) p
    same_there finds o so_far p =
        ap (λ n. shape_there finds o so_far p (table.remove values h) (without_reader n readers_there) (without_writer n (names_of streams.writers.items)))
        (sym text)
        ∙ ap (λ (m : Values). shape_there finds o so_far p m (without_reader name readers_there) (without_writer name (names_of streams.writers.items)))
        (sym left)
        ∙ ap (λ ws. shape_there finds o so_far p values' (without_reader name readers_there) ws) (sym writer_names')
        ∙ ap (λ rs. shape_there finds o so_far p values' rs (names_of streams'.writers.items))
        (beside_readers name streams.readers.items coming ∙ ap (λ rs. readers_in rs coming) (sym readers'))

    closes_there : (finds : List Entry) (o : Outside) (so_far : List Action)
        → Leads (OfPrimitive row.Close) (there finds o so_far) words memory (told.Done (Some (closed_code closed))) (form_finding finds o so_far at_last)
    closes_there finds o so_far s st =
        let p = st.past in
        let g = there finds o so_far in
        let last = state_of (form_finding finds o so_far at_last) p in (
          last,
          record { past = p; state = refl; arrays = st.arrays; iterators = st.iterators; first = st.first },
          subst (λ (t : HostState). StepOf (OfPrimitive row.Close) t words memory (told.Done (Some (closed_code closed))) last []) (sym st.state)
              (subst (λ (w : Word). StepOf (OfPrimitive row.Close) (state_of g p) words memory (told.Done (Some w)) last []) (code_there finds o so_far p)
              (subst (λ (x : HostState). StepOf (OfPrimitive row.Close) (state_of g p) words memory (told.Done (Some (I32 (stream_code (closes g p words memory v).1)))) x [])
              (same_there finds o so_far p) (close_step g p words memory h v none is))),
        )

    closes_world : LeadsIn tells (OfPrimitive row.Close) at_first words memory (told.Done (Some (closed_code closed))) at_last []
    closes_world s st =
        let p = st.past in (
          state_of at_last p,
          record { past = p; state = refl; arrays = st.arrays; iterators = st.iterators; first = st.first },
          subst (λ (t : HostState). Called tells (Some (OfPrimitive row.Close)) t words memory (told.Done (Some (closed_code closed))) (state_of at_last p) []) (sym st.state)
              (silent_called tells (OfPrimitive row.Close) (state_of at_first p) (state_of at_last p) (with_output [] (state_of at_first p)) (with_output [] (step_after p)) words memory
              (told.Done (Some (closed_code closed))) (step_told p [])
              (λ t so_far. subst (λ (x : HostState). StepOf (OfPrimitive row.Close) (with_output so_far (state_of at_first p)) words memory (told.Done (Some (closed_code closed))) (with_output so_far x) []) (same_told t p) (step_told p so_far))),
        )

    pub close_closes : IsCalled tells (OfPrimitive row.Close) at_first words memory (Ok (Some (closed_code closed))) at_last []
    close_closes = (closes_world, led_nothing (OfPrimitive row.Close) at_first at_last words memory (told.Done (Some (closed_code closed))) closes_there)

-- The streams that stay open go where they went.

named_one : (b : Bool) (w : NamedWriter) (ws : List NamedWriter) (targets : Targets) → targets w.id ≡ Named w.name → AreNamed ws targets → AreNamed (cond b (w ∷ ws) ws) targets
named_one true w ws targets is are = (is, are)
named_one false w ws targets is are = are

named_beside : (name : List ℕ) (ws : List NamedWriter) (targets : Targets) → AreNamed ws targets → AreNamed (writers_beside name ws) targets
named_beside name [] targets are = tt
named_beside name (w ∷ ws) targets are = named_one (not (is_writer name w)) w (writers_beside name ws) targets are.0 (named_beside name ws targets are.1)

pub targets_beside : (name : List ℕ) (ws ws' : List NamedWriter) (targets : Targets) → ws' ≡ writers_beside name ws → AreTargets ws targets → AreTargets ws' targets
targets_beside name ws ws' targets is are = record {
  standard = are.standard;
  named = subst (λ (left : List NamedWriter). AreNamed left targets) (sym is) (named_beside name ws targets are.named);
}
