-- Reading a file, as the definition has it.
use Rattle.std.proofs.Common.{◌≡◌, ℕ, ◌+◌, nat_le, List, [], ◌∷◌, length, Bool, true, false, if◌then◌else◌, Option, Some, None, Result, Ok, Err, inl, inr, refl, sym, ap, subst, ◌∙◌, arith}
use Rattle.std.specs.Prelude.{nat_lt}
use Rattle.std.proofs.lemmas.Bool.Decides.{nat_tests}
use Rattle.std.proofs.lemmas.List.{length-map}
use Rattle.awk_values.specs.Values.{text_of_value}
use Rattle.awk_values.specs.declared.value.Value.{Value}
use Rattle.awk_values.specs.declared.fault.Fault.{Fault}
use Rattle.awk_values.specs.declared.fault.Fault.TheVariants.{TooManyStreams}
use Rattle.awk_values.specs.declared.fault.Stop.{Stop}
use Rattle.awk_values.specs.declared.fault.Stop.TheVariants.{Fault as IsFault, NoMemory}
use Rattle.world_core.specs.WorldState.{Entry, Outside, Named, Source, State}
use Rattle.sem_primitives.specs.FieldMeaning.{special_text}
use Rattle.sem_primitives.specs.InputMeaning.{getline_file_by, got_file, open_or_read, opened_file, read_file, reader_named, with_reader}
use Rattle.sem_primitives.specs.InputParts.{source_of, to_come}
use Rattle.sem_primitives.specs.OutputMeaning.{has_room}
use Rattle.sem_primitives.specs.Records.{Got, first_record, record_separator}
use Rattle.sem_primitives.specs.SharedState.{Inner, ◌>>=◌}
use Rattle.sem_primitives.specs.Texts.{same_text}
use Rattle.sem_primitives.specs.declared.answers.InputAnswer.{InputAnswer}
use Rattle.sem_primitives.specs.declared.answers.InputAnswer.TheVariants as input
use Rattle.sem_primitives.specs.declared.constants.Special.TheVariants.{Rs}
use Rattle.host_streams.specs.Mains.{kept_in}
use Rattle.host_streams.specs.OpenFiles.{FileNextBy, FileNextIs, ReadsFile, StartsFile, has_room as open_room, names_of, readers_in}
use Rattle.host_streams.specs.Readers.{Answers, left}
use Rattle.host_streams.specs.declared.streams.NamedReader.{NamedReader}
use Rattle.host_streams.specs.declared.streams.NamedWriter.{NamedWriter}
use Rattle.host_streams.specs.declared.reader.FileNext.{FileNext}
use Rattle.host_streams.specs.declared.reader.FileNext.TheVariants as file
use Rattle.host_streams.proofs.Held.{name_itself}
use Rattle.host_streams.specs.declared.streams.Streams.{Streams}
use Rattle.host_texts.specs.declared.texts.Texts.{Texts}
use Rattle.host_worlds.specs.Givens.{FileGives, file_row, kept_by}
use Rattle.host_worlds.specs.States.{Finding, Over, readers_by, with_tables}
use Rattle.host_worlds.specs.declared.input.Input.{Input}
use Rattle.host_worlds.specs.declared.input.ReadInto.{ReadInto}
use Rattle.host_worlds.specs.declared.input.ReadInto.TheVariants.{Variable, Record}

abbrev Readers : Type 0
Readers = List (List ℕ × Source)

-- A name that is put has what was put, and is put once.

named_by : (name : List ℕ) (s : Source) (r : List ℕ × Source) (rs : Readers) (b : Bool) → same_text name r.0 ≡ b → reader_named name (with_reader name s rs) ≡ Some s
    → reader_named name (if b then (name, s) ∷ rs else r ∷ with_reader name s rs) ≡ Some s
named_by name s r rs true e h = ap (λ b. if b then Some s else reader_named name rs) (name_itself name)
named_by name s r rs false e h = ap (λ b. if b then Some r.1 else reader_named name (with_reader name s rs)) e ∙ h

pub named_put : (name : List ℕ) (s : Source) (rs : Readers) → reader_named name (with_reader name s rs) ≡ Some s
named_put name s [] = ap (λ b. if b then Some s else None) (name_itself name)
named_put name s (r ∷ rs) = named_by name s r rs (same_text name r.0) refl (named_put name s rs)

twice_by : (name : List ℕ) (s t : Source) (r : List ℕ × Source) (rs : Readers) (b : Bool) → same_text name r.0 ≡ b → with_reader name t (with_reader name s rs) ≡ with_reader name t rs
    → with_reader name t (if b then (name, s) ∷ rs else r ∷ with_reader name s rs) ≡ (if b then (name, t) ∷ rs else r ∷ with_reader name t rs)
twice_by name s t r rs true e h = ap (λ b. if b then (name, t) ∷ rs else (name, s) ∷ with_reader name t rs) (name_itself name)
twice_by name s t r rs false e h = ap (λ b. if b then (name, t) ∷ with_reader name s rs else r ∷ with_reader name t (with_reader name s rs)) e ∙ ap (λ xs. r ∷ xs) h

pub put_twice : (name : List ℕ) (s t : Source) (rs : Readers) → with_reader name t (with_reader name s rs) ≡ with_reader name t rs
put_twice name s t [] = ap (λ b. if b then (name, t) ∷ [] else (name, s) ∷ (name, t) ∷ []) (name_itself name)
put_twice name s t (r ∷ rs) = twice_by name s t r rs (same_text name r.0) refl (put_twice name s t rs)

same_source : (s t : Source) → ◌≡◌ {A = Option Source} (Some s) (Some t) → s ≡ t
same_source s t e = cc

-- where nobody else changes what names hold
module _ (keep : List ℕ → Inner → Result (Inner × InputAnswer) Fault) (name : List ℕ) (rs : Option ℕ) (base : Inner) (asked : record_separator (special_text Rs base) ≡ rs) where
  abbrev kept : Inner
  kept = kept_in base

  abbrev with_readers : Readers → Inner
  with_readers readers = record kept { readers = readers }

  read_is : (s : Source) → read_file keep name s kept ≡ (first_record rs s >>= λ got. got_file keep (with_readers (with_reader name got.1 kept.readers)) got.0)
  read_is s = ap (λ q. first_record q s >>= λ got. got_file keep (with_readers (with_reader name got.1 kept.readers)) got.0) asked

  then_kept : (s : Source) (r : Result (Got × Source) Fault) → first_record rs s ≡ r → read_file keep name s kept ≡ (r >>= λ got. got_file keep (with_readers (with_reader name got.1 kept.readers)) got.0)
  then_kept s r e = read_is s ∙ ap (λ x. x >>= λ got. got_file keep (with_readers (with_reader name got.1 kept.readers)) got.0) e

  pub reads : (s later : Source) (answer : Result FileNext Stop) → Answers rs s answer later → FileGives (read_file keep name s kept) keep answer (with_readers (with_reader name later kept.readers))
  reads s later (Ok (file.Record text)) h = then_kept s _ h
  reads s later (Ok file.End) h = then_kept s _ h
  reads s later (Ok file.Failed) h = then_kept s _ h
  reads s later (Err (IsFault fault)) h = then_kept s _ h.0
  reads s later (Err NoMemory) h = tt

  moved : (wanted : Result (Inner × InputAnswer) Fault) (answer : Result FileNext Stop) (a b : Readers) → b ≡ a → FileGives wanted keep answer (with_readers a) → FileGives wanted keep answer (with_readers b)
  moved wanted answer a b e h = subst (λ r. FileGives wanted keep answer (with_readers r)) (sym e) h

  read_open : (s : Source) (answer : Result FileNext Stop) (new : Readers) → reader_named name kept.readers ≡ Some s → ReadsFile name rs kept.readers answer new
      → FileGives (read_file keep name s kept) keep answer (with_readers new)
  read_open s answer new named h =
      moved _ answer (with_reader name h.later kept.readers) new h.readers
      (reads s h.later answer (subst (λ x. Answers rs x answer h.later) (same_source h.before s (sym h.named ∙ named)) h.answers))

  read_new : (s : Source) (answer : Result FileNext Stop) (new : Readers) → ReadsFile name rs (with_reader name s kept.readers) answer new → FileGives (read_file keep name s kept) keep answer (with_readers new)
  read_new s answer new h =
      moved _ answer (with_reader name h.later kept.readers) new (h.readers ∙ put_twice name s h.later kept.readers)
      (reads s h.later answer (subst (λ x. Answers rs x answer h.later) (same_source h.before s (sym h.named ∙ named_put name s kept.readers)) h.answers))

  short : (wanted : Result (Inner × InputAnswer) Fault) (answer : Result FileNext Stop) (new : Inner) → answer ≡ Err NoMemory → FileGives wanted keep answer new
  short wanted answer new e = subst (λ a. FileGives wanted keep a new) (sym e) tt

  shut : (answer : Result FileNext Stop) (new : Readers) → answer ≡ Ok file.Failed → new ≡ kept.readers → FileGives (Ok (kept, input.Failed)) keep answer (with_readers new)
  shut answer new e same = subst (λ a. FileGives (Ok (kept, input.Failed)) keep a (with_readers new)) (sym e) (ap (λ r. Ok (with_readers r, input.Failed)) (sym same))

  abbrev opening : Bool → Option Source → Result (Inner × InputAnswer) Fault
  opening room source = elim room [ true ↦ opened_file keep name source kept | false ↦ Err TooManyStreams ]

  starts : (room : Bool) (source : Option Source) (answer : Result FileNext Stop) (new : Readers) → StartsFile room source name rs kept.readers answer new → FileGives (opening room source) keep answer (with_readers new)
  starts false source answer new h = subst (λ a. FileGives (Err TooManyStreams) keep a (with_readers new)) (sym h.0) refl
  starts true None answer new (inl e, same) = shut answer new e same
  starts true None answer new (inr e, same) = short _ answer (with_readers new) e
  starts true (Some s) answer new (inl h) = read_new s answer new h
  starts true (Some s) answer new (inr h) = short _ answer (with_readers new) h.0

  by_named : (outside : Outside) (o : Option Source) (room : Bool) (answer : Result FileNext Stop) (new : Readers) → reader_named name kept.readers ≡ o → room ≡ has_room kept
      → FileNextBy o name rs room (outside (Named name)) kept.readers answer new → FileGives (open_or_read keep name outside o kept) keep answer (with_readers new)
  by_named outside (Some s) room answer new named same h = read_open s answer new named h
  by_named outside None room answer new named same h =
      starts (has_room kept) (source_of (outside (Named name))) answer new (subst (λ b. StartsFile b (source_of (outside (Named name))) name rs kept.readers answer new) same h)

  pub file_gives : (outside : Outside) (room : Bool) (answer : Result FileNext Stop) (new : Readers) → room ≡ has_room kept → FileNextIs name rs room (outside (Named name)) kept.readers answer new
      → FileGives (open_or_read keep name outside (reader_named name kept.readers) kept) keep answer (with_readers new)
  file_gives outside room answer new same h = by_named outside (reader_named name kept.readers) room answer new refl same h

pub file_gives_named : (keep : List ℕ → Inner → Result (Inner × InputAnswer) Fault) (name : List ℕ) (value : Value) (rs : Option ℕ) (base : Inner) → record_separator (special_text Rs base) ≡ rs → text_of_value value ≡ name
    → (outside : Outside) (room : Bool) (answer : Result FileNext Stop) (new : Readers) → room ≡ has_room base → FileNextIs name rs room (outside (Named name)) base.readers answer new
    → FileGives (getline_file_by keep value outside (kept_in base)) keep answer (record (kept_in base) { readers = new })
file_gives_named keep name value rs base asked same outside room answer new e h =
    subst (λ (n : List ℕ). FileGives (open_or_read keep n outside (reader_named n base.readers) (kept_in base)) keep answer (record (kept_in base) { readers = new })) (sym same)
    (file_gives keep name rs base asked outside room answer new e h)

-- one more may be opened, here and there
less_is : (n : ℕ) → nat_lt n 256 ≡ nat_le (n + 1) 256
less_is n = grind (arith, nat_tests)

pub room_is : (s : Streams) (texts : Texts) (i : Input) (state : State) (inner : Inner) → i.files ≡ s → open_room s ≡ has_room (with_tables texts i (Over state) inner)
room_is s texts i state inner same =
    less_is (length s.readers.items + length s.writers.items)
    ∙ ap (λ n. nat_le (n + length s.writers.items + 1) 256) (sym (length-map s.readers.items (λ (r : NamedReader). (r.name, left r.reader (state.readers r.reader.id))))) ∙ ap (λ n. nat_le (length (readers_in s.readers.items state) + n + 1) 256) (sym (length-map s.writers.items (λ (w : NamedWriter). w.name)))
    ∙ ap (λ (f : Streams). nat_le (length (readers_in f.readers.items state) + length (names_of f.writers.items) + 1) 256) (sym same)

-- the imports

pub file_row_is : (to : ReadInto) (value : Value) (outside : Outside) (inner : Inner) → file_row to value outside inner ≡ getline_file_by (kept_by to) value outside inner
file_row_is Record value outside inner = refl
file_row_is Variable value outside inner = refl

pub file_got : {a : FileNext} (b : FileNext) (to : ReadInto) (wanted : Result (Inner × InputAnswer) Fault) (new : Inner) → a ≡ b → FileGives wanted (kept_by to) (Ok a) new → FileGives wanted (kept_by to) (Ok b) new
file_got b to wanted new e h = subst (λ (x : FileNext). FileGives wanted (kept_by to) (Ok x) new) e h

pub room_found : (texts : Texts) (i : Input) (finds : List Entry) (inner : Inner) → has_room (with_tables texts i (Finding finds) inner) ≡ open_room i.files
room_found texts i finds inner =
    sym (less_is (length i.files.readers.items + length i.files.writers.items)
    ∙ ap (λ n. nat_le (n + length i.files.writers.items + 1) 256)
    (sym (length-map i.files.readers.items (λ (r : NamedReader). (r.name, left r.reader to_come))))
    ∙ ap (λ n. nat_le (length (readers_by i.files.readers.items (Finding finds)) + n + 1) 256) (sym (length-map i.files.writers.items (λ (w : NamedWriter). w.name))))
