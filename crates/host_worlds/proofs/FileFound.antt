-- Reading a file where others change what names hold too: the answer is that of what is found.
use Rattle.std.proofs.Common.{◌≡◌, ℕ, List, [], ◌∷◌, ◌++◌, map, not, cond, Bool, true, false, if◌then◌else◌, Option, Some, None, Result, Ok, Err, inl, inr, refl, sym, ap, subst, ◌∙◌}
use Rattle.awk_values.specs.declared.fault.Fault.{Fault}
use Rattle.awk_values.specs.declared.fault.Fault.TheVariants.{TooManyStreams}
use Rattle.awk_values.specs.declared.fault.Stop.{Stop}
use Rattle.awk_values.specs.declared.fault.Stop.TheVariants.{Fault as IsFault, NoMemory}
use Rattle.world_core.specs.WorldState.{Entry, Named, Outside, Source}
use Rattle.world_core.specs.Calls.{Kind, Reading}
use Rattle.sem_primitives.specs.FieldMeaning.{special_text}
use Rattle.sem_primitives.specs.Finds.{observed, seen, shut}
use Rattle.sem_primitives.specs.InputMeaning.{got_file, open_or_read, opened_file, read_file, reader_named, with_reader}
use Rattle.sem_primitives.specs.InputParts.{record_by, source_of, to_come}
use Rattle.sem_primitives.specs.OutputMeaning.{has_room}
use Rattle.sem_primitives.specs.Records.{Got, first_record, record_separator}
use Rattle.sem_primitives.specs.SharedState.{Inner, ◌>>=◌}
use Rattle.sem_primitives.specs.Texts.{same_text}
use Rattle.sem_primitives.specs.declared.answers.InputAnswer.{InputAnswer}
use Rattle.sem_primitives.specs.declared.answers.InputAnswer.TheVariants as input
use Rattle.sem_primitives.specs.declared.constants.Special.TheVariants.{Rs}
use Rattle.host_streams.specs.OpenFiles.{AreOpen, HandsFile, IsAdded, IsApart, ReadersAfter, StartsReader, has_reader, kept_named, phase_named, reader_handle, readers_beside, readers_in}
use Rattle.host_streams.specs.MainFinds.{entry_of}
use Rattle.host_streams.specs.Readers.{Answers, coming, handed, left, left_in, unread}
use Rattle.host_streams.specs.declared.reader.FileNext.{FileNext}
use Rattle.host_streams.specs.declared.reader.FileNext.TheVariants as file
use Rattle.host_streams.specs.declared.streams.NamedReader.{NamedReader}
use Rattle.host_streams.proofs.Held.{name_itself, same_name}
use Rattle.host_streams.proofs.MainFound.{record_found}
use Rattle.host_worlds.specs.Givens.{FileGives}

abbrev Readers : Type 0
Readers = List (List ℕ × Source)

-- What the readers have left, by their names, where nothing is known of what is to come.

abbrev pub readers_found : List NamedReader → Readers
readers_found readers = readers_in readers coming

abbrev left_named : List ℕ → List NamedReader → Source
left_named name xs = left_in (phase_named name xs) (kept_named name xs) to_come

abbrev source_named : Bool → List ℕ → List NamedReader → Option Source
source_named b name xs = if b then Some (left_named name xs) else None

named_found : (name : List ℕ) (xs : List NamedReader) → reader_named name (readers_found xs) ≡ source_named (has_reader name xs) name xs
named_found name [] = refl
named_found name (x ∷ xs) = by (same_text name x.name) (named_found name xs)
  where
    by : (b : Bool) → reader_named name (readers_found xs) ≡ source_named (has_reader name xs) name xs
        → (if b then Some (left x.reader to_come) else reader_named name (readers_found xs))
        ≡ (if (if b then true else has_reader name xs)
        then Some (left_in (if b then x.reader.phase else phase_named name xs) (if b then unread x.reader else kept_named name xs) to_come) else None)
    by true rest = refl
    by false rest = rest

-- a name without a reader has what a file has that is opened
missing_left : (name : List ℕ) (xs : List NamedReader) → has_reader name xs ≡ false → left_named name xs ≡ to_come
missing_left name [] e = refl
missing_left name (x ∷ xs) e = by (same_text name x.name) e (missing_left name xs)
  where
    by : (b : Bool) → (if b then true else has_reader name xs) ≡ false → (has_reader name xs ≡ false → left_named name xs ≡ to_come)
        → left_in (if b then x.reader.phase else phase_named name xs) (if b then unread x.reader else kept_named name xs) to_come ≡ to_come
    by true e rest = cc
    by false e rest = rest e

-- Whether a name has a reader, by the handles.

abbrev names_have : List ℕ → List (List ℕ × ℕ) → Bool
names_have name [] = false
names_have name (h ∷ hs) = if same_text name h.0 then true else names_have name hs

by_handles : (name : List ℕ) (xs : List NamedReader) → has_reader name xs ≡ names_have name (map reader_handle xs)
by_handles name [] = refl
by_handles name (x ∷ xs) = ap (λ b. if same_text name x.name then true else b) (by_handles name xs)

has_as : (name : List ℕ) (old new : List NamedReader) → map reader_handle new ≡ map reader_handle old → has_reader name new ≡ has_reader name old
has_as name old new same = by_handles name new ∙ ap (names_have name) same ∙ sym (by_handles name old)

has_last : (name : List ℕ) (id : ℕ) (hs : List (List ℕ × ℕ)) → names_have name (hs ++ (name, id) ∷ []) ≡ true
has_last name id [] = ap (λ b. if b then true else false) (name_itself name)
has_last name id (h ∷ hs) = by (same_text name h.0) (has_last name id hs)
  where
    by : (b : Bool) → names_have name (hs ++ (name, id) ∷ []) ≡ true → (if b then true else names_have name (hs ++ (name, id) ∷ [])) ≡ true
    by true rest = refl
    by false rest = rest

has_added : (name : List ℕ) (old new : List NamedReader) → IsAdded name old new → has_reader name new ≡ true
has_added name old new h = by_handles name new ∙ ap (names_have name) h.1 ∙ has_last name h.0 (map reader_handle old)

apart_missing : (h : List ℕ × ℕ) (name : List ℕ) (xs : List NamedReader) → h.0 ≡ name → IsApart h (map reader_handle xs) → has_reader name xs ≡ false
apart_missing h name [] e apart = refl
apart_missing h name (x ∷ xs) e apart = by (same_text name x.name) refl (apart_missing h name xs e apart.2)
  where
    by : (b : Bool) → same_text name x.name ≡ b → has_reader name xs ≡ false → (if b then true else has_reader name xs) ≡ false
    by true is rest = absurd (apart.0 (e ∙ same_name name x.name is))
    by false is rest = rest

-- The readers after a read: that of the name has left what it has now, and the others stay.

abbrev beside_if : Bool → NamedReader → List NamedReader → List NamedReader
beside_if b x xs = cond (not b) (x ∷ xs) xs

beside_all : (name : List ℕ) (xs : List NamedReader) → has_reader name xs ≡ false → readers_beside name xs ≡ xs
beside_all name [] e = refl
beside_all name (x ∷ xs) e = by (same_text name x.name) e (beside_all name xs)
  where
    by : (b : Bool) → (if b then true else has_reader name xs) ≡ false → (has_reader name xs ≡ false → readers_beside name xs ≡ xs)
        → beside_if b x (readers_beside name xs) ≡ x ∷ xs
    by true e rest = cc
    by false e rest = ap (λ (ys : List NamedReader). x ∷ ys) (rest e)

-- with the reader of the name first, or another one, by whether it has the name
abbrev put_if : Bool → List ℕ → NamedReader → Source → Readers → Readers
put_if b name x source xs = if b then (name, source) ∷ xs else (x.name, left x.reader to_come) ∷ with_reader name source xs

abbrev left_if : Bool → List ℕ → NamedReader → List NamedReader → Source
left_if b name y ys = left_in (if b then y.reader.phase else phase_named name ys) (if b then unread y.reader else kept_named name ys) to_come

module _ (name : List ℕ) (x y : NamedReader) (xs ys : List NamedReader) (same : y.name ≡ x.name) where
  -- another one is first
  passed_by : (b c : Bool) → b ≡ false → c ≡ false → beside_if c y (readers_beside name ys) ≡ beside_if b x (readers_beside name xs)
      → (readers_beside name ys ≡ readers_beside name xs → with_reader name (left_named name ys) (readers_found xs) ≡ readers_found ys)
      → put_if b name x (left_if c name y ys) (readers_found xs) ≡ (y.name, left y.reader to_come) ∷ readers_found ys
  passed_by true c e f kept rest = cc
  passed_by false true e f kept rest = cc
  passed_by false false e f kept rest =
      let first : y ≡ x = cc kept in
      let others : readers_beside name ys ≡ readers_beside name xs = cc kept in
      ap (λ (z : NamedReader). (z.name, left z.reader to_come) ∷ with_reader name (left_named name ys) (readers_found xs)) (sym first)
      ∙ ap (λ (zs : Readers). (y.name, left y.reader to_come) ∷ zs) (rest others)

  -- it is the first one
  put_first : (b c : Bool) → b ≡ true → c ≡ true → name ≡ x.name → has_reader name xs ≡ false → has_reader name ys ≡ false
      → beside_if c y (readers_beside name ys) ≡ beside_if b x (readers_beside name xs)
      → put_if b name x (left_if c name y ys) (readers_found xs) ≡ (y.name, left y.reader to_come) ∷ readers_found ys
  put_first false c e f is none none' kept = cc
  put_first true false e f is none none' kept = cc
  put_first true true e f is none none' kept =
      let others : ys ≡ xs = sym (beside_all name ys none') ∙ kept ∙ beside_all name xs none in
      ap (λ (n : List ℕ). (n, left y.reader to_come) ∷ readers_found xs) (is ∙ sym same)
      ∙ ap (λ (zs : List NamedReader). (y.name, left y.reader to_come) ∷ readers_found zs) (sym others)

-- where the handles are the same, so are the names
first_same : (y : NamedReader) (ys : List NamedReader) (h : List ℕ × ℕ) (hs : List (List ℕ × ℕ)) → map reader_handle (y ∷ ys) ≡ h ∷ hs
    → (y.name ≡ h.0) × (map reader_handle ys ≡ hs)
first_same y ys h hs e =
    let first : reader_handle y ≡ h = cc e in
    (ap (λ (g : List ℕ × ℕ). g.0) first, cc e)

-- one that is there stays where it is
put_there : (name : List ℕ) (kinds : ℕ → Kind) (old new : List NamedReader) → AreOpen Reading (map reader_handle old) kinds → has_reader name old ≡ true
    → map reader_handle new ≡ map reader_handle old → readers_beside name new ≡ readers_beside name old
    → with_reader name (left_named name new) (readers_found old) ≡ readers_found new
put_there name kinds [] new held there same kept = cc
put_there name kinds (x ∷ xs) [] held there same kept = cc
put_there name kinds (x ∷ xs) (y ∷ ys) held there same kept =
    by (same_text name x.name) refl there (λ e others. put_there name kinds xs ys held.3 e rest others)
  where
    names : y.name ≡ x.name
    names = (first_same y ys (reader_handle x) (map reader_handle xs) same).0

    rest : map reader_handle ys ≡ map reader_handle xs
    rest = (first_same y ys (reader_handle x) (map reader_handle xs) same).1

    by : (b : Bool) → same_text name x.name ≡ b → (if b then true else has_reader name xs) ≡ true
        → (has_reader name xs ≡ true → readers_beside name ys ≡ readers_beside name xs
        → with_reader name (left_named name ys) (readers_found xs) ≡ readers_found ys)
        → with_reader name (left_named name (y ∷ ys)) (readers_found (x ∷ xs)) ≡ readers_found (y ∷ ys)
    by true is e go =
        let none : has_reader name xs ≡ false = apart_missing (reader_handle x) name xs (sym (same_name name x.name is)) held.2 in
        put_first name x y xs ys names (same_text name x.name) (same_text name y.name) is (ap (same_text name) names ∙ is) (same_name name x.name is) none
        (has_as name xs ys rest ∙ none) kept
    by false is e go = passed_by name x y xs ys names (same_text name x.name) (same_text name y.name) is (ap (same_text name) names ∙ is) kept (go e)

-- and one that is not comes last
put_last : (name : List ℕ) (id : ℕ) (old new : List NamedReader) → has_reader name old ≡ false
    → map reader_handle new ≡ map reader_handle old ++ ((name, id) ∷ [])
    → readers_beside name new ≡ readers_beside name old → with_reader name (left_named name new) (readers_found old) ≡ readers_found new
put_last name id [] [] missing same kept = cc
put_last name id [] (y ∷ z ∷ zs) missing same kept = cc
put_last name id [] (y ∷ []) missing same kept =
    let is : name ≡ y.name = sym (first_same y [] (name, id) [] same).0 in
    ap (λ b. (name, left_if b name y []) ∷ []) (ap (same_text name) (sym is) ∙ name_itself name) ∙ ap (λ (n : List ℕ). (n, left y.reader to_come) ∷ []) is
put_last name id (x ∷ xs) [] missing same kept = cc
put_last name id (x ∷ xs) (y ∷ ys) missing same kept = by (same_text name x.name) refl missing (λ e others. put_last name id xs ys e rest others)
  where
    names : y.name ≡ x.name
    names = (first_same y ys (reader_handle x) (map reader_handle xs ++ ((name, id) ∷ [])) same).0

    rest : map reader_handle ys ≡ map reader_handle xs ++ ((name, id) ∷ [])
    rest = (first_same y ys (reader_handle x) (map reader_handle xs ++ ((name, id) ∷ [])) same).1

    by : (b : Bool) → same_text name x.name ≡ b → (if b then true else has_reader name xs) ≡ false
        → (has_reader name xs ≡ false → readers_beside name ys ≡ readers_beside name xs
        → with_reader name (left_named name ys) (readers_found xs) ≡ readers_found ys)
        → with_reader name (left_named name (y ∷ ys)) (readers_found (x ∷ xs)) ≡ readers_found (y ∷ ys)
    by true is e go = cc
    by false is e go = passed_by name x y xs ys names (same_text name x.name) (same_text name y.name) is (ap (same_text name) names ∙ is) kept (go e)

-- the state, where these files are open and these are found
abbrev pub at : Inner → Readers → List Entry → Inner
at base readers finds = record base { readers = readers; finds = Some finds }

module _ (name : List ℕ) (rs : Option ℕ) (base : Inner) (asked : record_separator (special_text Rs base) ≡ rs) (keep : List ℕ → Inner → Result (Inner × InputAnswer) Fault) where
  abbrev keeps_got : List Entry → Readers → Result (Got × Source) Fault → Result (Inner × InputAnswer) Fault
  keeps_got later readers r = r >>= λ got. got_file keep (at base (with_reader name got.1 readers) later) got.0

  module _ (had source left : Source) (later : List Entry) (readers readers' : Readers)
      (is : record_by (Some (entry_of source ∷ later)) rs had ≡ first_record rs source) (put : with_reader name left readers ≡ readers') where
    gets : (r : Result (Got × Source) Fault) → first_record rs source ≡ r
        → read_file keep name had (at base readers (entry_of source ∷ later)) ≡ keeps_got later readers r
    gets r e =
        ap (λ (q : Option ℕ). keeps_got later readers (record_by (Some (entry_of source ∷ later)) q had)) asked
        ∙ ap (keeps_got later readers) (is ∙ e)

    -- what is read is what is found
    reads_found : (answer : Result FileNext Stop) → Answers rs source answer left
        → FileGives (read_file keep name had (at base readers (entry_of source ∷ later))) keep answer (at base readers' later)
    reads_found (Ok (file.Record text)) h = gets _ h ∙ ap (λ (x : Readers). keep text (at base x later)) put
    reads_found (Ok file.End) h = gets _ h ∙ ap (λ (x : Readers). Ok (at base x later, input.End)) put
    reads_found (Ok file.Failed) h = gets _ h ∙ ap (λ (x : Readers). Ok (at base x later, input.Failed)) put
    reads_found (Err (IsFault fault)) h = gets _ h.0
    reads_found (Err NoMemory) h = tt

  opens : (b : Bool) (outside : Outside) (readers : Readers) (finds : List Entry) → has_room (at base readers finds) ≡ b
      → open_or_read keep name outside None (at base readers finds)
      ≡ elim b [ true ↦ opened_file keep name (source_of (seen (at base readers finds) outside (Named name))) (observed (at base readers finds)) | false ↦ Err TooManyStreams ]
  opens b outside readers finds e =
      ap (λ x. elim x [ true ↦ opened_file keep name (source_of (seen (at base readers finds) outside (Named name))) (observed (at base readers finds)) | false ↦ Err TooManyStreams ]) e

-- Something is found, whatever is found later, where reading a file gives what the definition does.
abbrev pub FindsNamed : List ℕ → Option ℕ → Bool → Option Source → List NamedReader → Result FileNext Stop → List NamedReader → Type 0
FindsNamed name rs room source old answer new = (found : List Entry) × ((later : List Entry) (outside : Outside) (base : Inner) → record_separator (special_text Rs base) ≡ rs
    → has_room (record base { readers = readers_found old }) ≡ room → (keep : List ℕ → Inner → Result (Inner × InputAnswer) Fault)
    → FileGives (open_or_read keep name outside source (at base (readers_found old) (found ++ later))) keep answer (at base (readers_found new) later))

module _ (name : List ℕ) (rs : Option ℕ) (kinds : ℕ → Kind) (old new : List NamedReader) (held : AreOpen Reading (map reader_handle old) kinds)
    (kept : readers_beside name new ≡ readers_beside name old) where
  -- what was kept, and what was handed over
  abbrev handed_to : (answer : Result FileNext Stop) → HandsFile name rs old answer new → Source
  handed_to answer h = left_in (phase_named name old) (kept_named name old) (handed h.bytes (phase_named name new) to_come)

  -- that is found, where the name's reader had this left
  finds_handed : (answer : Result FileNext Stop) (h : HandsFile name rs old answer new) (later : List Entry)
      → record_by (Some (entry_of (handed_to answer h) ∷ later)) rs (left_named name old) ≡ first_record rs (handed_to answer h)
  finds_handed answer h later = record_found rs (phase_named name old) (kept_named name old) (handed h.bytes (phase_named name new) to_come) later

  -- the file is open
  open_finds : (room : Bool) (answer : Result FileNext Stop) → has_reader name old ≡ true → map reader_handle new ≡ map reader_handle old → (has_reader name new ≡ true → HandsFile name rs old answer new)
      → FindsNamed name rs room (Some (left_named name old)) old answer new
  open_finds room answer there same hands =
      let h : HandsFile name rs old answer new = hands (has_as name old new same ∙ there) in (
        entry_of (handed_to answer h) ∷ [],
        λ later outside base asked has keep.
            reads_found name rs base asked keep (left_named name old) (handed_to answer h) (left_named name new) later (readers_found old)
            (readers_found new) (finds_handed answer h later)
            (put_there name kinds old new held there same kept) answer (h.answers to_come),
      )

  -- it is opened, and read
  added_finds : (answer : Result FileNext Stop) → has_reader name old ≡ false → IsAdded name old new → (has_reader name new ≡ true → HandsFile name rs old answer new)
      → FindsNamed name rs true None old answer new
  added_finds answer missing added hands =
      let h : HandsFile name rs old answer new = hands (has_added name old new added) in (
        entry_of to_come ∷ (entry_of (handed_to answer h) ∷ []),
        λ later outside base asked has keep.
            gives_later keep _ _ answer (at base (readers_found new) later)
            (opens name rs base asked keep true outside (readers_found old) (entry_of to_come ∷ (entry_of (handed_to answer h) ∷ later)) has)
            (reads_found name rs base asked keep to_come (handed_to answer h) (left_named name new) later (readers_found old) (readers_found new)
            (ap (record_by (Some (entry_of (handed_to answer h) ∷ later)) rs) (sym (missing_left name old missing)) ∙ finds_handed answer h later)
            (put_last name added.0 old new missing added.1 kept) answer (h.answers to_come)),
      )
    where
      gives_later : (keep : List ℕ → Inner → Result (Inner × InputAnswer) Fault) (a b : Result (Inner × InputAnswer) Fault) (r : Result FileNext Stop) (i : Inner) → a ≡ b → FileGives b keep r i → FileGives a keep r i
      gives_later keep a b r i e g = subst (λ (x : Result (Inner × InputAnswer) Fault). FileGives x keep r i) (sym e) g

  -- it does not open
  shut_finds : new ≡ old → FindsNamed name rs true None old (Ok file.Failed) new
  shut_finds same = (
    shut ∷ [],
    λ later outside base asked has keep.
        opens name rs base asked keep true outside (readers_found old) (shut ∷ later) has
        ∙ ap (λ (xs : List NamedReader). Ok (at base (readers_found xs) later, input.Failed)) (sym same),
  )

  starts_finds : (answer : Result FileNext Stop) → has_reader name old ≡ false → StartsReader name old answer new → (has_reader name new ≡ true → HandsFile name rs old answer new)
      → FindsNamed name rs true None old answer new
  starts_finds (Ok (file.Record text)) missing h hands = added_finds (Ok (file.Record text)) missing h hands
  starts_finds (Ok file.End) missing h hands = added_finds (Ok file.End) missing h hands
  starts_finds (Ok file.Failed) missing (inl same) hands = shut_finds same
  starts_finds (Ok file.Failed) missing (inr h) hands = added_finds (Ok file.Failed) missing h.0 hands
  starts_finds (Err (IsFault fault)) missing h hands = added_finds (Err (IsFault fault)) missing h.1 hands
  starts_finds (Err NoMemory) missing h hands = ([], λ later outside base asked has keep. tt)

  -- there is no room for it
  full_finds : (answer : Result FileNext Stop) → answer ≡ Err (IsFault TooManyStreams) → FindsNamed name rs false None old answer new
  full_finds answer e = subst (λ a. FindsNamed name rs false None old a new) (sym e)
      ([], λ later outside base asked has keep. opens name rs base asked keep false outside (readers_found old) later has)

  by_readers : (b room : Bool) (answer : Result FileNext Stop) → has_reader name old ≡ b → ReadersAfter b room name old answer new → (has_reader name new ≡ true → HandsFile name rs old answer new)
      → FindsNamed name rs room (source_named b name old) old answer new
  by_readers true room answer is h hands = open_finds room answer is h.1 hands
  by_readers false false answer is h hands = full_finds answer h.0
  by_readers false true answer is h hands = starts_finds answer is h hands

  pub file_finds : (room : Bool) (answer : Result FileNext Stop) → ReadersAfter (has_reader name old) room name old answer new → (has_reader name new ≡ true → HandsFile name rs old answer new)
      → FindsNamed name rs room (reader_named name (readers_found old)) old answer new
  file_finds room answer h hands =
      subst (λ o. FindsNamed name rs room o old answer new) (sym (named_found name old)) (by_readers (has_reader name old) room answer refl h hands)
