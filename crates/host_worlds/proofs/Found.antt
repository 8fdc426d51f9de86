-- However putting a text ends, something may be found where the definition says so.
use Rattle.std.proofs.Common.{◌≡◌, ℕ, ◌<◌, ◌+◌, ◌-◌, nat_le, if◌then◌else◌, nat_lt, Bool, true, false, cond, List, [], ◌∷◌, ◌++◌, length, Some, Result, Ok, Err, OnErr, OnOk, take, refl, sym, ap, ◌∙◌, subst, arith}
use Rattle.std.proofs.lemmas.Bool.Decides.{nat_tests}
use Rattle.std.proofs.lemmas.List.{length-map}
use Rattle.awk_values.specs.declared.fault.Fault.{Fault}
use Rattle.awk_values.specs.declared.fault.Fault.TheVariants.{OpenOutput, TooManyStreams, WriteFailed}
use Rattle.awk_values.specs.declared.fault.Stop.{Stop}
use Rattle.awk_values.specs.declared.fault.Stop.TheVariants as stop
use Rattle.sem_primitives.specs.Finds.{finds_by, observed_by, seen}
use Rattle.sem_primitives.specs.OutputMeaning.{all_fits, has_room, is_writing, kept_open, opened_if, write_answer, written, written_by}
use Rattle.sem_primitives.specs.SharedState.{Inner, Shared}
use Rattle.world_core.specs.WorldState.{Action, Entry, Named, Open, Standard, State, Target, absent, puts}
use Rattle.world_core.specs.Traces.{Call}
use Rattle.host_streams.specs.OpenFiles as files
use Rattle.host_streams.specs.OpenFiles.{names_of}
use Rattle.host_streams.specs.Given.{GivesText, PutsGiven, opening_of}
use Rattle.host_streams.specs.Outputs.{IsOf, with_writer}
use Rattle.host_streams.specs.Puts.{EndsPut}
use Rattle.host_streams.specs.declared.streams.Streams.{Streams}
use Rattle.host_streams.proofs.Given.{none_still}
use Rattle.host_streams.proofs.GivenTexts.{gives_still}
use Rattle.host_streams.proofs.Outputs.{with_missing, with_named}
use Rattle.host_worlds.specs.OutputCalls.{OutputGiven, PossibleOutcome, HasFiles, PutsFound, SomeFound, finding, left_by}
use Rattle.host_worlds.proofs.Steps.{Puts}

-- Three things that are found: all opens, and everything fits; so many bytes fit; nothing opens.

abbrev wide : Entry
wide = absent

abbrev narrow : ℕ → Entry
narrow n = record absent { room = Some n }

abbrev shut : Entry
shut = record absent { opens = false }

-- nothing is there yet
all_room : (n : ℕ) → n - 0 ≡ n
all_room n = omega arith

not_all_fits : (n : ℕ) (text : List ℕ) → n < length text → all_fits (Some (n - 0)) text ≡ false
not_all_fits n text low = ap (λ k. all_fits (Some k) text) (all_room n) ∙ (let h : nat_le (length text) n ≡ false = grind (arith, nat_tests, low) in h)

narrow_answer : (n : ℕ) (text : List ℕ) → n < length text → write_answer (Some (n - 0)) text ≡ Err WriteFailed
narrow_answer n text low = ap (λ b. cond b (Ok tt) (Err WriteFailed)) (not_all_fits n text low)

-- To a stream that is open.
module _ (target : Target) (text : List ℕ) (streams streams' : Streams) (names : names_of streams'.writers.items ≡ names_of streams.writers.items) where
  written_could : (r : Result (Unit {0}) Stop) (actions : List Action) → EndsPut true true text r → GivesText [] target text r actions → PossibleOutcome (written target text) streams streams' r actions
  written_could (Ok u) actions h e = (
    wide ∷ [],
    λ later shared is. record { answer_is = refl; writers = is.writers ∙ sym names; added_is = sym e; finds = refl },
  )
  written_could (Err (stop.Fault WriteFailed)) actions h e = (
    narrow e.0 ∷ [],
    λ later shared is. record {
      answer_is = narrow_answer e.0 text e.1;
      writers = is.writers ∙ sym names;
      added_is = ap (λ k. puts target (take k text)) (all_room e.0) ∙ sym e.2;
      finds = ap (λ (r : Result (Unit {0}) Fault). finds_by r (Some (narrow e.0 ∷ later))) (narrow_answer e.0 text e.1);
    },
  )
  written_could (Err (stop.Fault fault)) actions h e = absurd h
  written_could (Err stop.NoMemory) actions h e = tt

-- a row that is the same whatever is found does the same
abbrev SameOver : (Shared → Puts) → (Shared → Puts) → Streams → Type 0
SameOver does does' streams = (shared : Shared) → HasFiles streams shared → (finds : List Entry) → does (finding finds shared) ≡ does' (finding finds shared)

some_as : (does does' : Shared → Puts) (streams streams' : Streams) (answer : Result (Unit {0}) Fault) (added : List Action) → SameOver does does' streams → SomeFound does streams streams' answer added → SomeFound does' streams streams' answer added
some_as does does' streams streams' answer added same some = (
  some.0,
  λ later shared is. subst (λ (d : Puts). PutsFound d streams' answer added (left_by answer some.0 later)) (same shared is (some.0 ++ later)) (some.1 later shared is),
)

could_as : (does does' : Shared → Puts) (streams streams' : Streams) (r : Result (Unit {0}) Stop) (added : List Action) → SameOver does does' streams → PossibleOutcome does streams streams' r added → PossibleOutcome does' streams streams' r added
could_as does does' streams streams' (Ok u) added same some = some_as does does' streams streams' (Ok tt) added same some
could_as does does' streams streams' (Err (stop.Fault fault)) added same some = some_as does does' streams streams' (Err fault) added same some
could_as does does' streams streams' (Err stop.NoMemory) added same some = tt

-- To a file that is opened.
module _ (name text : List ℕ) (append : Bool) (streams streams' : Streams) where
  abbrev opens : Bool → Shared → Puts
  opens room shared = opened_if room (seen shared.inner shared.outside (Named name)).opens name append text shared

  abbrev kept_by : Inner → Result (Unit {0}) Fault → Inner
  kept_by inner r = kept_open name (observed_by r inner) r

  opened_could : (room : Bool) (r : Result (Unit {0}) Stop) (actions : List Action) → EndsPut false room text r
      → OnOk r (names_of streams'.writers.items ≡ names_of streams.writers.items ++ (name ∷ [])) → OnErr r (names_of streams'.writers.items ≡ names_of streams.writers.items)
      → GivesText (Open name append ∷ []) (Named name) text r actions → PossibleOutcome (opens room) streams streams' r actions
  opened_could true (Ok u) actions h ok err e = (
    wide ∷ [],
    λ later shared is. record { answer_is = refl; writers = ap (λ ns. ns ++ (name ∷ [])) is.writers ∙ sym ok; added_is = sym e; finds = refl },
  )
  opened_could false (Ok u) actions h ok err e = absurd h
  opened_could true (Err (stop.Fault WriteFailed)) actions h ok err e = (
    narrow e.0 ∷ [],
    λ later shared is. let there = (finding (narrow e.0 ∷ later) shared).inner in record {
      answer_is = narrow_answer e.0 text e.1;
      writers = ap (λ r. (kept_by there r).writers) (narrow_answer e.0 text e.1) ∙ is.writers ∙ sym err;
      added_is = ap (λ k. Open name append ∷ puts (Named name) (take k text)) (all_room e.0) ∙ sym e.2;
      finds = ap (λ r. (kept_by there r).finds) (narrow_answer e.0 text e.1);
    },
  )
  opened_could true (Err (stop.Fault OpenOutput)) actions h ok err e =
      (shut ∷ [], λ later shared is. record { answer_is = refl; writers = is.writers ∙ sym err; added_is = sym e; finds = refl })
  opened_could true (Err (stop.Fault fault)) actions h ok err e = absurd h
  opened_could false (Err (stop.Fault TooManyStreams)) actions h ok err e =
      ([], λ later shared is. record { answer_is = refl; writers = is.writers ∙ sym err; added_is = sym e; finds = refl })
  opened_could false (Err (stop.Fault fault)) actions h ok err e = absurd h
  opened_could room (Err stop.NoMemory) actions h ok err e = tt

-- whether one more may be opened
room_same : (n : ℕ) → nat_lt n 256 ≡ nat_le (n + 1) 256
room_same n = grind (arith, nat_tests)

has_room_same : (streams : Streams) (shared : Shared) → HasFiles streams shared → has_room shared.inner ≡ files.has_room streams
has_room_same streams shared is =
    let readers = is.readers in
    let writers = ap length is.writers ∙ length-map streams.writers.items _ in
    ap (λ n. nat_le (n + 1) 256) (ap (λ n. n + length shared.inner.writers) readers ∙ ap (λ n. length streams.readers.items + n) writers)
    ∙ sym (room_same (length streams.readers.items + length streams.writers.items))

ends_any_room : {A : Type 0} (room : Bool) (text : List ℕ) (r : Result A Stop) → EndsPut true room text r → EndsPut true true text r
ends_any_room true text r h = h
ends_any_room false text (Ok x) h = tt
ends_any_room false text (Err (stop.Fault WriteFailed)) h = h
ends_any_room false text (Err (stop.Fault fault)) h = absurd h
ends_any_room false text (Err stop.NoMemory) h = tt

-- Which files are open for writing then.

ok_as : {A E : Type 0} (r : Result A E) (P Q : Type 0) → (P → Q) → OnOk r P → OnOk r Q
ok_as (Ok x) P Q f p = f p
ok_as (Err e) P Q f p = tt

err_as : {A E : Type 0} (r : Result A E) (P Q : Type 0) → (P → Q) → OnErr r P → OnErr r Q
err_as (Ok x) P Q f p = tt
err_as (Err e) P Q f p = f p

either : {A E : Type 0} (r : Result A E) (P : Type 0) → OnOk r P → OnErr r P → P
either (Ok x) P p q = p
either (Err e) P p q = q

-- To a file.
module _ (name text : List ℕ) (append : Bool) (streams streams' : Streams) (r : Result (Unit {0}) Stop)
    (ok : OnOk r (names_of streams'.writers.items ≡ with_writer name (names_of streams.writers.items))) (err : OnErr r (streams'.writers.items ≡ streams.writers.items)) where
  abbrev puts_named : Bool → Shared → Puts
  puts_named b shared = written_by b name append text shared

  abbrev now : List (List ℕ)
  now = names_of streams'.writers.items

  abbrev before : List (List ℕ)
  before = names_of streams.writers.items

  same_err : OnErr r (now ≡ before)
  same_err = err_as r (streams'.writers.items ≡ streams.writers.items) (now ≡ before) (λ e. ap names_of e) err

  named_could : (b : Bool) (actions : List Action) → is_writing name before ≡ b → EndsPut b (files.has_room streams) text r → GivesText (if b then [] else (Open name append ∷ [])) (Named name) text r actions → PossibleOutcome (puts_named b) streams streams' r actions
  named_could true actions is h e =
      written_could (Named name) text streams streams'
      (either r (now ≡ before) (ok_as r (now ≡ with_writer name before) (now ≡ before) (λ e. e ∙ sym (with_named name before is)) ok) same_err)
      r actions (ends_any_room (files.has_room streams) text r h) e
  named_could false actions is h e =
      could_as (opens name text append streams streams' (files.has_room streams)) (puts_named false) streams streams' r actions
      (λ shared has finds. ap (λ b. opens name text append streams streams' b (finding finds shared)) (sym (has_room_same streams shared has)))
      (opened_could name text append streams streams' (files.has_room streams) r actions h
      (ok_as r (now ≡ with_writer name before) (now ≡ before ++ (name ∷ [])) (λ e. e ∙ sym (with_missing name before is)) ok) same_err e)

  file_could : (actions : List Action) → EndsPut (is_writing name before) (files.has_room streams) text r → GivesText (opening_of name append before) (Named name) text r actions
      → PossibleOutcome (λ shared. written_by (is_writing name shared.inner.writers) name append text shared) streams streams' r actions
  file_could actions h e =
      could_as (puts_named (is_writing name before)) (λ shared. written_by (is_writing name shared.inner.writers) name append text shared) streams streams' r actions
      (λ shared has finds. ap (λ names. written_by (is_writing name names) name append text (finding finds shared)) (sym has.writers))
      (named_could (is_writing name before) actions refl h e)

  -- what was given then
  pub file_given : {W : Type 0} (tells : Type 0) (did : W → Call → W → Type 0) (old new : W) (first last : State) → EndsPut (is_writing name before) (files.has_room streams) text r
      → PutsGiven tells did old new streams.writers.items streams'.writers.items (GivesText (opening_of name append before) (Named name) text r) first last r (IsOf streams first)
      (λ shared. written_by (is_writing name shared.inner.writers) name append text shared)
      → OutputGiven tells did old new streams streams' first last r (λ shared. written_by (is_writing name shared.inner.writers) name append text shared)
  file_given tells did old new first last h p = record { actions = p.actions; given = p.given; could = file_could p.actions h p.is; told = p.told; outside = p.outside }

-- To the standard output.
pub standard_given : {W : Type 0} (tells : Type 0) (did : W → Call → W → Type 0) (old new : W) (text : List ℕ) (streams streams' : Streams) (first last : State) (r : Result (Unit {0}) Stop) → EndsPut true (files.has_room streams) text r
    → OnOk r (names_of streams'.writers.items ≡ names_of streams.writers.items) → OnErr r (streams'.writers.items ≡ streams.writers.items)
    → PutsGiven tells did old new streams.writers.items streams'.writers.items (GivesText [] Standard text r) first last r (IsOf streams first) (written Standard text)
    → OutputGiven tells did old new streams streams' first last r (written Standard text)
standard_given tells did old new text streams streams' first last r h ok err p = record {
  actions = p.actions;
  given = p.given;
  could = written_could Standard text streams streams'
      (either r (names_of streams'.writers.items ≡ names_of streams.writers.items) ok (err_as r (streams'.writers.items ≡ streams.writers.items) (names_of streams'.writers.items ≡ names_of streams.writers.items) (λ e. ap names_of e) err))
      r p.actions (ends_any_room (files.has_room streams) text r h) p.is;
  told = p.told;
  outside = p.outside;
}

-- Nothing was put out.
pub none_out : {W : Type 0} (tells : Type 0) (did : W → Call → W → Type 0) (w : W) (streams : Streams) (state : State) (does : Shared → Puts) → OutputGiven tells did w w streams streams state state (Err stop.NoMemory) does
none_out tells did w streams state does = record {
  actions = [];
  given = gives_still did w w streams.writers.items (none_still did w);
  could = tt;
  told = λ t shared is. (0, refl);
  outside = λ t. refl;
}
