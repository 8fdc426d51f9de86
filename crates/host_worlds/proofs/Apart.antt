-- Main input and files have each their own streams, so reading one leaves the other.
use Rattle.std.proofs.Common.{◌≡◌, ◌≢◌, ℕ, List, [], ◌∷◌, map, Some, None, false, refl, subst, sym, ap, ◌∙◌, arith}
use Rattle.world_core.specs.WorldState.{State}
use Rattle.world_core.specs.Calls.{Kind, Closed, Reading as IsReading, Writing}
use Rattle.sem_primitives.specs.SharedState.{Inner, File}
use Rattle.host_streams.specs.Mains.{FileIsOpen, HoldsMain, IsApartFrom, SparesKinds, SparesPlaces, main_at_start, main_of, reading_of, with_main}
use Rattle.host_streams.specs.OpenFiles.{AreOpen, HoldsOpen, IsMissing, IsNone, IsNoneOf, OthersKeep, OthersStay, WritersGo, names_of, reader_handle, readers_in, writer_handle}
use Rattle.host_streams.specs.Readers.{left}
use Rattle.host_streams.specs.declared.main_input.MainInput.{MainInput as Mains}
use Rattle.host_streams.specs.declared.main_input.Reading.{Reading}
use Rattle.host_streams.specs.declared.main_input.Reading.TheVariants as reading
use Rattle.host_streams.specs.declared.streams.NamedReader.{NamedReader}
use Rattle.host_streams.specs.declared.streams.NamedWriter.{NamedWriter}
use Rattle.host_streams.specs.declared.streams.Streams.{Streams}
use Rattle.host_texts.specs.declared.texts.Texts.{Texts}
use Rattle.host_worlds.specs.Keeps.{with_files, with_main_input}
use Rattle.host_worlds.specs.States.{AreApart, FilesApart, HoldsInput, Over, input_at_start, with_input, with_tables}
use Rattle.host_worlds.specs.declared.input.Input.{Input}

-- The main input is read.

module _ (was is : Reading) (old new : ℕ → Kind) (spares : SparesKinds was is old new) (kind : Kind) (not_closed : kind ≢ Closed) where
  pub still_open : (hs : List (List ℕ × ℕ)) → AreOpen kind hs old → AreApart was hs → AreOpen kind hs new
  still_open [] held apart = tt
  still_open (h ∷ hs) held apart =
      let k = spares h.1 apart.0 (λ e. not_closed (sym held.1 ∙ e)) in
      (held.0, k.0 ∙ held.1, held.2, still_open hs held.3 apart.1)

  pub still_apart : (hs : List (List ℕ × ℕ)) → AreOpen kind hs old → AreApart was hs → AreApart is hs
  still_apart [] held apart = tt
  still_apart (h ∷ hs) held apart =
      let k = spares h.1 apart.0 (λ e. not_closed (sym held.1 ∙ e)) in
      (k.1, still_apart hs held.3 apart.1)

reading_open : IsReading ≢ Closed
reading_open e = cc

writing_open : Writing ≢ Closed
writing_open e = cc

pub holds_next : (i : Input) (m : Mains) (old new : ℕ → Kind) → HoldsInput i old → HoldsMain m new → SparesKinds i.main.reading m.reading old new → HoldsInput (with_main_input m i) new
holds_next i m old new h main spares = record {
  main = main;
  files = (still_open i.main.reading m.reading old new spares IsReading reading_open (map reader_handle i.files.readers.items) h.files.0 h.apart.0, still_open i.main.reading m.reading old new spares Writing writing_open (map writer_handle i.files.writers.items) h.files.1 h.apart.1);
  apart = (still_apart i.main.reading m.reading old new spares IsReading reading_open (map reader_handle i.files.readers.items) h.files.0 h.apart.0, still_apart i.main.reading m.reading old new spares Writing writing_open (map writer_handle i.files.writers.items) h.files.1 h.apart.1);
}

module _ (was : Reading) (kinds : ℕ → Kind) (old new : State) (places : SparesPlaces was kinds old new) where
  pub readers_stay : (rs : List NamedReader) → AreOpen IsReading (map reader_handle rs) kinds → AreApart was (map reader_handle rs) → readers_in rs old ≡ readers_in rs new
  readers_stay [] held apart = refl
  readers_stay (r ∷ rs) held apart =
      let p = places r.reader.id (λ e. let low = held.0 in omega (arith, low, e)) apart.0 (λ e. reading_open (sym held.1 ∙ e)) in
      ap (λ s. (r.name, left r.reader s) ∷ readers_in rs old) (sym p.0) ∙ ap (λ xs. (r.name, left r.reader (new.readers r.reader.id)) ∷ xs) (readers_stay rs held.3 apart.1)

  pub writers_stay : (ws : List NamedWriter) → AreOpen Writing (map writer_handle ws) kinds → AreApart was (map writer_handle ws) → WritersGo ws old → WritersGo ws new
  writers_stay [] held apart go = tt
  writers_stay (w ∷ ws) held apart go =
      let p = places w.id (λ e. let low = held.0 in omega (arith, low, e)) apart.0 (λ e. writing_open (sym held.1 ∙ e)) in
      (p.1 ∙ go.0, writers_stay ws held.3 apart.1 go.1)

pub tables_next : (texts : Texts) (i : Input) (m : Mains) (kinds : ℕ → Kind) (old new : State) (inner : Inner) → HoldsInput i kinds → SparesPlaces i.main.reading kinds old new
    → with_main (main_of m new) (with_tables texts i (Over old) inner) ≡ with_tables texts (with_main_input m i) (Over new) inner
tables_next texts i m kinds old new inner h places =
    ap (λ rs. record (with_tables texts (with_main_input m i) (Over new) inner) { readers = rs }) (readers_stay i.main.reading kinds old new places i.files.readers.items h.files.0 h.apart.0)

-- A file is read.

pub apart_none : (id : ℕ) (r : Reading) (hs : List (List ℕ × ℕ)) → ((k : ℕ) → IsApartFrom k r → id ≢ k) → AreApart r hs → IsNone id hs
apart_none id r [] is apart = tt
apart_none id r (h ∷ hs) is apart = (is h.1 apart.0, apart_none id r hs is apart.1)

pub none_apart : (id : ℕ) (r : Reading) (hs : List (List ℕ × ℕ)) → ((k : ℕ) → id ≢ k → IsApartFrom k r) → IsNone id hs → AreApart r hs
none_apart id r [] is none = tt
none_apart id r (h ∷ hs) is none = (is h.1 none.0, none_apart id r hs is none.1)

all_apart : (r : Reading) (hs : List (List ℕ × ℕ)) → ((k : ℕ) → IsApartFrom k r) → AreApart r hs
all_apart r [] is = tt
all_apart r (h ∷ hs) is = (is h.1, all_apart r hs is)

module _ (old_files new_files : Streams) (old new : ℕ → Kind) (others : OthersStay old_files new_files old new) where
  file_open : (r : Reading) → FileIsOpen r old → FilesApart r old_files → FileIsOpen r new
  file_open reading.Nothing is apart = tt
  file_open reading.Standard is apart = tt
  file_open (reading.File r) is apart =
      let none : IsNoneOf r.id old_files = (apart_none r.id (reading.File r) (map reader_handle old_files.readers.items) (λ k ne e. ne (sym e)) apart.0, apart_none r.id (reading.File r) (map writer_handle old_files.writers.items) (λ k ne e. ne (sym e)) apart.1) in
      let k = others r.id none (λ e. reading_open (sym is.1 ∙ e)) in
      (is.0, k.0 ∙ is.1)

  files_apart : (r : Reading) → FileIsOpen r old → FilesApart r old_files → FilesApart r new_files
  files_apart reading.Nothing is apart = (all_apart reading.Nothing (map reader_handle new_files.readers.items) (λ k. tt), all_apart reading.Nothing (map writer_handle new_files.writers.items) (λ k. tt))
  files_apart reading.Standard is apart = (all_apart reading.Standard (map reader_handle new_files.readers.items) (λ k. tt), all_apart reading.Standard (map writer_handle new_files.writers.items) (λ k. tt))
  files_apart (reading.File r) is apart =
      let none : IsNoneOf r.id old_files = (apart_none r.id (reading.File r) (map reader_handle old_files.readers.items) (λ k ne e. ne (sym e)) apart.0, apart_none r.id (reading.File r) (map writer_handle old_files.writers.items) (λ k ne e. ne (sym e)) apart.1) in
      let k = others r.id none (λ e. reading_open (sym is.1 ∙ e)) in
      (none_apart r.id (reading.File r) (map reader_handle new_files.readers.items) (λ k ne e. ne (sym e)) k.1.0, none_apart r.id (reading.File r) (map writer_handle new_files.writers.items) (λ k ne e. ne (sym e)) k.1.1)

pub holds_file : (i : Input) (s : Streams) (old new : ℕ → Kind) → HoldsInput i old → HoldsOpen s new → OthersStay i.files s old new → HoldsInput (with_files s i) new
holds_file i s old new h held others = record {
  main = (h.main.0, file_open i.files s old new others i.main.reading h.main.1 h.apart, h.main.2);
  files = held;
  apart = files_apart i.files s old new others i.main.reading h.main.1 h.apart;
}

-- the standard input is no file
none_standard : (kind : Kind) (kinds : ℕ → Kind) (hs : List (List ℕ × ℕ)) → AreOpen kind hs kinds → IsNone 0 hs
none_standard kind kinds [] held = tt
none_standard kind kinds (h ∷ hs) held = ((λ e. let low = held.0 in omega (arith, low, e)), none_standard kind kinds hs held.3)

module _ (i : Input) (kinds : ℕ → Kind) (h : HoldsInput i kinds) (input : kinds 0 ≡ IsReading) (old new : State) (keeps : OthersKeep i.files kinds old new) where
  standard_stays : old.readers i.main.standard.id ≡ new.readers i.main.standard.id
  standard_stays =
      let k = keeps 0 (none_standard IsReading kinds (map reader_handle i.files.readers.items) h.files.0, none_standard Writing kinds (map writer_handle i.files.writers.items) h.files.1) (λ e. reading_open (sym input ∙ e)) in
      ap old.readers h.main.0 ∙ sym k.0 ∙ sym (ap new.readers h.main.0)

  reading_stays : (r : Reading) → FileIsOpen r kinds → FilesApart r i.files → reading_of r old ≡ reading_of r new
  reading_stays reading.Nothing is apart = refl
  reading_stays reading.Standard is apart = refl
  reading_stays (reading.File r) is apart =
      let none : IsNoneOf r.id i.files = (apart_none r.id (reading.File r) (map reader_handle i.files.readers.items) (λ k ne e. ne (sym e)) apart.0, apart_none r.id (reading.File r) (map writer_handle i.files.writers.items) (λ k ne e. ne (sym e)) apart.1) in
      let k = keeps r.id none (λ e. reading_open (sym is.1 ∙ e)) in
      ap (λ s. Some (File (left r s))) (sym k.0)

  pub main_stays : main_of i.main old ≡ main_of i.main new
  main_stays =
      ap (λ s. record (main_of i.main old) { standard = left i.main.standard s }) standard_stays
      ∙ ap (λ r. record (main_of i.main new) { reading = r }) (reading_stays i.main.reading h.main.1 h.apart)

  pub tables_file : (texts : Texts) (s : Streams) (inner : Inner) → names_of s.writers.items ≡ names_of i.files.writers.items
      → record (with_tables texts i (Over old) inner) { readers = readers_in s.readers.items new } ≡ with_tables texts (with_files s i) (Over new) inner
  tables_file texts s inner names =
      ap (λ m. record (with_tables texts (with_files s i) (Over new) inner) { main = m; writers = names_of i.files.writers.items }) main_stays
      ∙ ap (λ ws. record (with_tables texts (with_files s i) (Over new) inner) { writers = ws }) (sym names)

-- Before anything is read.

pub holds_new : (i : Input) (kinds : ℕ → Kind) → HoldsMain i.main kinds → HoldsOpen i.files kinds → IsMissing i.files → HoldsInput i kinds
holds_new i kinds main files missing = record {
  main = main;
  files = files;
  apart = (subst (λ xs. AreApart i.main.reading (map reader_handle xs)) (sym missing.0) tt, subst (λ xs. AreApart i.main.reading (map writer_handle xs)) (sym missing.1) tt);
}

pub begins_new : (i : Input) (state : State) (inner : Inner) → main_of i.main state ≡ main_at_start (state.readers 0) → IsMissing i.files → i.in_end ≡ false → i.line ≡ None
    → with_input i (Over state) inner ≡ input_at_start i.names state inner
begins_new i state inner main missing running line =
    ap (λ m. record (with_input i (Over state) inner) { main = m }) main
    ∙ ap (λ rs. record (with_input i (Over state) inner) { main = main_at_start (state.readers 0); readers = readers_in rs state }) missing.0
    ∙ ap (λ ws. record (with_input i (Over state) inner) { main = main_at_start (state.readers 0); readers = []; writers = names_of ws }) missing.1
    ∙ ap (λ b. record (with_input i (Over state) inner) { main = main_at_start (state.readers 0); readers = []; writers = []; in_end = b }) running
    ∙ ap (λ l. record (input_at_start i.names state inner) { line = l }) line
