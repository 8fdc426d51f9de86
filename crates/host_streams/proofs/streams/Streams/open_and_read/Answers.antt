use Rattle.std.proofs.Common.{◌≡◌, ◌∙◌, ℕ, List, [], Bool, true, false, Option, None, Some, Result, Ok, Err, IfSome, ap, inl, inr, map, refl, subst, sym}
use Rattle.awk_values.specs.declared.fault.Stop.{Stop}
use Rattle.awk_values.specs.declared.fault.Stop.TheVariants.{Fault as IsFault, NoMemory}
use Rattle.world_core.specs.WorldState.{Named, Source, State}
use Rattle.sem_primitives.specs.InputParts.{source_of}
use Rattle.host_streams.specs.OpenFiles.{IsAdded, OpenCounts, OpensFile, OpensReader, ReadersAfter, ReadsFile, StartsFile, StartsReader, has_room, kept_named, phase_named, reader_handle, readers_in}
use Rattle.host_streams.specs.Readers.{HandsOver, NextCounts, NextPhase, OnlyLimit}
use Rattle.host_streams.specs.declared.reader.FileNext.{FileNext}
use Rattle.host_streams.specs.declared.reader.FileNext.TheVariants.{End, Failed, Record}
use Rattle.host_streams.specs.declared.reader.Phase.{Phase}
use Rattle.host_streams.specs.declared.reader.Phase.TheVariants.{Open}
use Rattle.host_streams.specs.declared.streams.NamedReader.{NamedReader}
use Rattle.host_streams.proofs.Opened.{not_added, not_opened}
use Rattle.host_streams.proofs.Given.{none_then}
use Rattle.host_streams.proofs.streams.Streams.open_and_read.Goals as goal

-- it does not open
none_after : (room : Bool) (name : List ℕ) (old new : List NamedReader) {found : Option ℕ} → found ≡ None → OpensReader room name old (Ok found) new → ReadersAfter false room name old (Ok Failed) new
none_after room name old new is opens =
    let h : OpensReader room name old (Ok None) new = subst (λ (x : Option ℕ). OpensReader room name old (Ok x) new) is opens in
    subst (λ b. ReadersAfter false b name old (Ok Failed) new) (sym h.0) (inl h.1)

none_starts : (room : Bool) (name : List ℕ) (rs : Option ℕ) (state : State) (old new : List (List ℕ × Source)) {found : Option ℕ} → found ≡ None → OpensFile name room state old (Ok found) new →
    StartsFile room (source_of (state.outside (Named name))) name rs old (Ok Failed) new
none_starts room name rs state old new is opens =
    let h : OpensFile name room state old (Ok None) new = subst (λ (x : Option ℕ). OpensFile name room state old (Ok x) new) is opens in
    subst (λ b. StartsFile b (source_of (state.outside (Named name))) name rs old (Ok Failed) new) (sym h.0) (subst (λ source. StartsFile true source name rs old (Ok Failed) new) (sym h.1) (inl refl, h.2))

-- it is refused
stop_after : (room : Bool) (name : List ℕ) (old new : List NamedReader) (stop : Stop) → OpensReader room name old (Err stop) new → ReadersAfter false room name old (Err stop) new
stop_after room name old new (IsFault fault) h = subst (λ b. ReadersAfter false b name old (Err (IsFault fault)) new) (sym h.0) (ap (λ x. Err (IsFault x)) h.1, h.2)
stop_after room name old new NoMemory h = subst (λ b. ReadersAfter false b name old (Err NoMemory) new) (sym h.0) (inl h.1)

stop_starts : (room : Bool) (name : List ℕ) (rs : Option ℕ) (state : State) (old new : List (List ℕ × Source)) (source : Option Source) (stop : Stop) → OpensFile name room state old (Err stop) new → StartsFile room source name rs old (Err stop) new
stop_starts room name rs state old new source (IsFault fault) h = subst (λ b. StartsFile b source name rs old (Err (IsFault fault)) new) (sym h.0) (ap (λ x. Err (IsFault x)) h.1, h.2)
stop_starts room name rs state old new source NoMemory h = subst (λ b. StartsFile b source name rs old (Err NoMemory) new) (sym h.0) (by source)
  where
    by : (s : Option Source) → StartsFile true s name rs old (Err NoMemory) new
    by None = (inr refl, h.1)
    by (Some s) = inr (refl, h.1)

-- it is opened and read
read_after : (name : List ℕ) (old mid new : List NamedReader) (answer : Result FileNext Stop) → IsAdded name old mid → map reader_handle new ≡ map reader_handle mid → OnlyLimit answer → NextPhase Open answer (phase_named name new) →
    StartsReader name old answer new
read_after name old mid new (Ok (Record text)) added same limit phase = (added.0, same ∙ added.1)
read_after name old mid new (Ok End) added same limit phase = (added.0, same ∙ added.1)
read_after name old mid new (Ok Failed) added same limit phase = inr ((added.0, same ∙ added.1), phase)
read_after name old mid new (Err (IsFault fault)) added same limit phase = (limit, (added.0, same ∙ added.1))
read_after name old mid new (Err NoMemory) added same limit phase = inr (added.0, same ∙ added.1)

read_readers : (room : Bool) (name : List ℕ) (old mid new : List NamedReader) (answer : Result FileNext Stop) (at : ℕ) {found : Option ℕ} → found ≡ Some at → OpensReader room name old (Ok found) mid → map reader_handle new ≡ map reader_handle mid → OnlyLimit answer
    → NextPhase Open answer (phase_named name new) → ReadersAfter false room name old answer new
read_readers room name old mid new answer at is opens same limit phase =
    let h : OpensReader room name old (Ok (Some at)) mid = subst (λ (x : Option ℕ). OpensReader room name old (Ok x) mid) is opens in
    subst (λ b. ReadersAfter false b name old answer new) (sym h.0) (read_after name old mid new answer h.1 same limit phase)

read_starts : (room : Bool) (name : List ℕ) (rs : Option ℕ) (state : State) (old mid new : List (List ℕ × Source)) (answer : Result FileNext Stop) (at : ℕ) {found : Option ℕ} → found ≡ Some at → OpensFile name room state old (Ok found) mid
    → ReadsFile name rs mid answer new → StartsFile room (source_of (state.outside (Named name))) name rs old answer new
read_starts room name rs state old mid new answer at is opens reads =
    let h : OpensFile name room state old (Ok (Some at)) mid = subst (λ (x : Option ℕ). OpensFile name room state old (Ok x) mid) is opens in
    subst (λ b. StartsFile b (source_of (state.outside (Named name))) name rs old answer new) (sym h.0)
    (subst (λ source. StartsFile true source name rs old answer new) (sym h.2) (inl (subst (λ r. ReadsFile name rs r answer new) h.3 reads)))

pub returns-in-Ok-None : goal.returns-in-Ok-None
returns-in-Ok-None g c =
    let w = g.W.World in
    let opened = c.in-Ok-None.ensures in
    let is = c.in-Ok-None.field-0-is in
    let old = c.args.self.now.readers.items in
    let new = c.open_reader.new.self.readers.items in record {
      gives = c.in-Ok-None.ensures.gives;
      held = opened.held;
      writers = opened.writers;
      count = subst (λ (x : Option ℕ). OpenCounts (Ok x) (w.count c.args.world.now) (w.count c.open_reader.new.world)) is opened.count;
      readers = none_after _ c.args.name.now old new is opened.readers;
      kept = opened.kept;
      breaks = λ there. absurd (not_added _ c.args.name.now old new is c.requires.missing opened.readers there);
      handed = λ there. absurd (not_added _ c.args.name.now old new is c.requires.missing opened.readers there);
      goes = opened.goes;
      told = λ tells. none_starts _ c.args.name.now c.args.rs (w.state c.args.world.now) _ _ is (opened.told tells);
      outside = opened.outside;
      others = opened.others;
      no_others = opened.no_others;
      places = opened.places;
    }

pub returns-in-Err : goal.returns-in-Err
returns-in-Err g c =
    let w = g.W.World in
    let opened = c.in-Err.ensures in
    let old = c.args.self.now.readers.items in
    let new = c.open_reader.new.self.readers.items in record {
      gives = c.in-Err.ensures.gives;
      held = opened.held;
      writers = opened.writers;
      count = opened.count;
      readers = stop_after _ c.args.name.now old new c.in-Err.stop opened.readers;
      kept = opened.kept;
      breaks = λ there. absurd (not_opened _ c.args.name.now old c.in-Err.stop new c.requires.missing opened.readers there);
      handed = λ there. absurd (not_opened _ c.args.name.now old c.in-Err.stop new c.requires.missing opened.readers there);
      goes = opened.goes;
      told = λ tells. stop_starts _ c.args.name.now c.args.rs (w.state c.args.world.now) _ _ (source_of ((w.state c.args.world.now).outside (Named c.args.name.now))) c.in-Err.stop (opened.told tells);
      outside = opened.outside;
      others = opened.others;
      no_others = opened.no_others;
      places = opened.places;
    }

pub returns-in-Ok-Some : goal.returns-in-Ok-Some
returns-in-Ok-Some g c =
    let w = g.W.World in
    let name = c.args.name.now in
    let rs = c.args.rs in
    let opened = c.in-Ok-Some.ensures in
    let read = c.next_at.ensures in
    let is = c.in-Ok-Some.field-0-is in
    let old = c.args.self.now.readers.items in
    let mid = c.open_reader.new.self.readers.items in
    let new = c.next_at.new.self.readers.items in
    let answer = c.next_at.result in
    let phase = subst (λ (x : Option ℕ). IfSome x (λ at. phase_named name mid ≡ Open)) is opened.phase in
    let nothing = subst (λ (x : Option ℕ). IfSome x (λ at. kept_named name mid ≡ [])) is opened.nothing in
    let last = w.count c.next_at.new.world in
    let same = subst (λ (x : Option ℕ). OpenCounts (Ok x) (w.count c.args.world.now) (w.count c.open_reader.new.world)) is opened.count in
    let next = subst (λ (p : Phase). NextPhase p answer (phase_named name new)) phase read.phase in record {
      gives = none_then g.W.World.did _ _ _ c.in-Ok-Some.ensures.gives c.next_at.ensures.gives;
      held = read.held;
      writers = read.writers ∙ opened.writers;
      count = subst (λ (n : ℕ). NextCounts Open answer n last) same (subst (λ (p : Phase). NextCounts p answer (w.count c.open_reader.new.world) last) phase read.count);
      readers = read_readers (has_room c.args.self.now) name old mid new answer c.in-Ok-Some.at is opened.readers read.handles read.limit next;
      kept = read.kept ∙ opened.kept;
      breaks = λ there. next;
      handed = λ there. subst (λ (xs : List ℕ). HandsOver rs Open xs answer (phase_named name new) (kept_named name new)) nothing
          (subst (λ (p : Phase). HandsOver rs p (kept_named name mid) answer (phase_named name new) (kept_named name new)) phase read.handed);
      goes = read.goes;
      told = λ tells.
          read_starts (has_room c.args.self.now) name rs (w.state c.args.world.now) (readers_in old (w.state c.args.world.now)) (readers_in mid (w.state c.open_reader.new.world)) (readers_in new (w.state c.next_at.new.world)) answer c.in-Ok-Some.at is
          (opened.told tells) (read.told tells);
      outside = λ tells. read.outside tells ∙ opened.outside tells;
      others = λ k none was. let s = opened.others k none was in let t = read.others k s.1 (λ e. was (sym s.0 ∙ e)) in (t.0 ∙ s.0, t.1);
      no_others = λ k none open_now. let t = read.no_others k none open_now in let s = opened.no_others k t.1 (λ e. open_now (sym t.0 ∙ e)) in (s.0 ∙ t.0, s.1);
      places = λ tells k none was.
          let s = opened.others k none was in
          let now = read.places tells k s.1 (λ e. was (sym s.0 ∙ e)) in
          let first = opened.places tells k none was in (now.0 ∙ first.0, now.1 ∙ first.1);
    }
