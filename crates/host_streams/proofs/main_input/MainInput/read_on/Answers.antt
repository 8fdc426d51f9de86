use Rattle.std.proofs.Common.{◌≡◌, ◌≢◌, ◌∙◌, ◌<◌, ◌≤◌, ℕ, List, Bool, false, Option, Ok, Err, ap, arith, inl, inr, refl, subst, sym}
use Rattle.host_streams.specs.Mains.{idle}
use Rattle.host_streams.specs.Passing.{HandsAt}
use Rattle.host_streams.specs.declared.reader.FileNext.{FileNext}
use Rattle.host_streams.proofs.MainFound.{end_finds, failure_finds, found_idle, record_finds, refusal_finds}
use Rattle.host_streams.specs.Mains.{ReadsMain, main_of}
use Rattle.host_streams.proofs.MainSteps.{reads_end, reads_failure, reads_record, reads_refused}
use Rattle.host_streams.proofs.Moves.{moves_on}
use Rattle.host_streams.proofs.Passed.{refused_hands}
use Rattle.awk_values.specs.declared.fault.Stop.{Stop}
use Rattle.awk_values.specs.declared.fault.Stop.TheVariants.{Fault as IsFault, NoMemory}
use Rattle.host_streams.specs.Mains.{MainCounts, MainPhase, PhaseBy, busy, main_phase, phase_at, phase_by, work}
use Rattle.host_streams.specs.Passing.{IsOfReader, StandardStays}
use Rattle.host_streams.specs.Readers.{NextCounts, NextPhase, OnlyLimit}
use Rattle.host_streams.specs.declared.main_input.MainInput.{MainInput as Mains}
use Rattle.host_streams.specs.declared.main_input.MainNext.{MainNext}
use Rattle.host_streams.specs.declared.main_input.Reading.{Reading}
use Rattle.host_streams.specs.declared.main_input.Reading.TheVariants as reading
use Rattle.host_streams.specs.declared.reader.FileNext.TheVariants.{End, Failed, Record}
use Rattle.host_streams.specs.declared.reader.Phase.{Phase}
use Rattle.host_streams.specs.declared.reader.Phase.TheVariants.{Open, Ended, Broken}
use Rattle.host_streams.specs.declared.reader.Reader.{Reader}
use Rattle.host_streams.proofs.Given.{none_then}
use Rattle.host_streams.proofs.main_input.MainInput.read_on.Goals as goal

-- the phase of the reader at hand is that of the main input
same_phase : (m : Mains) → m.ended ≡ false → phase_at m.reading m.standard ≡ main_phase m
same_phase m live = sym (ap (λ b. phase_by b m.reading m.standard) live)

on_phase : (old new : Mains) → old.ended ≡ false → new.ended ≡ old.ended → (b : Bool) → PhaseBy b (phase_at old.reading old.standard) (phase_at new.reading new.standard) → PhaseBy b (main_phase old) (main_phase new)
on_phase old new live stays b h =
    subst (λ p. PhaseBy b (main_phase old) p) (same_phase new (stays ∙ live)) (subst (λ p. PhaseBy b p (phase_at new.reading new.standard)) (same_phase old live) h)

on_broken : (new : Mains) → new.ended ≡ false → phase_at new.reading new.standard ≡ Broken → main_phase new ≡ Broken
on_broken new live h = sym (same_phase new live) ∙ h

is_idle : (m : Mains) → m.ended ≡ false → m.reading ≡ reading.Nothing → main_phase m ≢ Broken
is_idle m live nothing =
    let open_now : main_phase m ≡ Open = sym (same_phase m live) ∙ ap (λ r. phase_at r m.standard) nothing in
    λ is. cc (sym open_now ∙ is)

counted : (p : Phase) (text : List ℕ) (n m : ℕ) → NextCounts p (Ok (Record text)) n m → m ≡ n
counted Open text n m h = h
counted Ended text n m h = h
counted Broken text n m h = h

counted_end : (p : Phase) (n m : ℕ) → NextCounts p (Ok End) n m → m ≡ n
counted_end Open n m h = h
counted_end Ended n m h = h
counted_end Broken n m h = h

none_counted : (p : Phase) (stop : Stop) (n m : ℕ) → NextCounts p (Err stop) n m → m ≡ n
none_counted Open stop n m h = h
none_counted Ended stop n m h = h
none_counted Broken stop n m h = h

counted_refused : (p q : Phase) (stop : Stop) (n m : ℕ) → OnlyLimit {A = FileNext} (Err stop) → NextCounts p (Err stop) n m → MainCounts {A = Option MainNext} q (Err stop) n m
counted_refused p q (IsFault fault) n m limit h = subst (λ x. MainCounts {A = Option MainNext} q (Err (IsFault x)) n m) (sym limit) (inl refl, none_counted p (IsFault fault) n m h)
counted_refused p q NoMemory n m limit h = none_counted p NoMemory n m h

phase_refused : (stop : Stop) (p q : Phase) → OnlyLimit {A = FileNext} (Err stop) → PhaseBy false p q → MainPhase {A = Option MainNext} p (Err stop) q
phase_refused (IsFault fault) p q limit h = subst (λ x. MainPhase {A = Option MainNext} p (Err (IsFault x)) q) (sym limit) h
phase_refused NoMemory p q limit h = h

of_reader : (stop : Stop) → OnlyLimit {A = FileNext} (Err stop) → IsOfReader (Err stop)
of_reader (IsFault fault) limit = inr limit
of_reader NoMemory limit = tt

some_busy : (r : Reading) → r ≢ reading.Nothing → 1 ≤ busy r
some_busy reading.Nothing some = absurd (some refl)
some_busy reading.Standard some = omega arith
some_busy (reading.File r) some = omega arith

less_work : (old new : Mains) → new.next ≡ old.next → new.reading ≡ reading.Nothing → old.reading ≢ reading.Nothing → work new < work old
less_work old new next nothing some = omega (arith, ap busy nothing, some_busy old.reading some, next)

pub returns-in-Ok-Record : goal.returns-in-Ok-Record
returns-in-Ok-Record g c =
    let old = c.args.self.now in
    let new = c.read.new.self in
    let read = c.read.ensures in
    let answer = c.in-Ok-Record.ensures in
    let is = c.in-Ok-Record.field-0-is in
    let p = phase_at old.reading old.standard in
    let n = g.W.World.count c.args.world.now in
    let m = g.W.World.count c.read.new.world in
    let handed = subst (λ (o : FileNext). HandsAt c.args.rs old.reading old.standard (Ok o) new.reading new.standard) is answer.handed in
    record {
      gives = c.in-Ok-Record.ensures.gives;
      moves = read.moves;
      told = λ tells inner asked.
          let before = main_of old (g.W.World.state c.args.world.now) in
          let after = main_of new (g.W.World.state c.read.new.world) in
          reads_record (g.W.World.state c.args.world.now).outside before inner c.args.rs c.requires.live asked.separator c.in-Ok-Record.text after
          (subst (λ (o : FileNext). ReadsMain c.args.rs before (Ok o) after) is (answer.told tells));
      steps = record {
        goes_on = tt;
        count = counted p c.in-Ok-Record.text n m (subst (λ (o : FileNext). NextCounts p (Ok o) n m) is answer.count);
        phase = on_phase old new c.requires.live read.ended false
            (subst (λ (o : FileNext). NextPhase p (Ok o) (phase_at new.reading new.standard)) is answer.phase);
        ends = (c.requires.live, read.ended ∙ c.requires.live);
        rests = tt;
      };
      next = read.next;
      found = read.found;
      standard = read.standard;
      handed = record { live = c.requires.live; busy = c.requires.busy; handed = handed };
      answers = tt;
      finds = record_finds c.args.rs old new c.requires.live c.requires.busy new.reading new.standard c.in-Ok-Record.text handed read.leaves;
    }

pub returns-in-Ok-Failed : goal.returns-in-Ok-Failed
returns-in-Ok-Failed g c =
    let old = c.args.self.now in
    let new = c.read.new.self in
    let read = c.read.ensures in
    let answer = c.in-Ok-Failed.ensures in
    let is = c.in-Ok-Failed.field-0-is in
    let p = phase_at old.reading old.standard in
    let n = g.W.World.count c.args.world.now in
    let m = g.W.World.count c.read.new.world in
    let handed = subst (λ (o : FileNext). HandsAt c.args.rs old.reading old.standard (Ok o) new.reading new.standard) is answer.handed in
    record {
      gives = c.in-Ok-Failed.ensures.gives;
      moves = read.moves;
      told = λ tells inner asked.
          let before = main_of old (g.W.World.state c.args.world.now) in
          let after = main_of new (g.W.World.state c.read.new.world) in
          reads_failure (g.W.World.state c.args.world.now).outside before inner c.args.rs c.requires.live asked.separator after
          (subst (λ (o : FileNext). ReadsMain c.args.rs before (Ok o) after) is (answer.told tells));
      steps = record {
        goes_on = tt;
        count = subst (λ q. NextCounts q (Ok Failed) n m) (same_phase old c.requires.live) (subst (λ (o : FileNext). NextCounts p (Ok o) n m) is answer.count);
        phase = on_broken new (read.ended ∙ c.requires.live) (subst (λ (o : FileNext). NextPhase p (Ok o) (phase_at new.reading new.standard)) is answer.phase);
        ends = (c.requires.live, read.ended ∙ c.requires.live);
        rests = tt;
      };
      next = read.next;
      found = read.found;
      standard = read.standard;
      handed = record { live = c.requires.live; busy = c.requires.busy; handed = handed };
      answers = inl refl;
      finds = failure_finds c.args.rs old new c.requires.live c.requires.busy new.reading new.standard handed read.leaves;
    }

pub returns-in-Err : goal.returns-in-Err
returns-in-Err g c =
    let old = c.args.self.now in
    let new = c.read.new.self in
    let read = c.read.ensures in
    let answer = c.in-Err.ensures in
    let p = phase_at old.reading old.standard in
    let n = g.W.World.count c.args.world.now in
    let m = g.W.World.count c.read.new.world in
    record {
      gives = c.in-Err.ensures.gives;
      moves = read.moves;
      told = λ tells inner asked.
          let before = g.W.World.state c.args.world.now in
          reads_refused before.outside (main_of old before) inner c.args.rs c.requires.live asked.separator c.in-Err.stop
          (main_of new (g.W.World.state c.read.new.world)) answer.limit (answer.told tells);
      steps = record {
        goes_on = tt;
        count = counted_refused p (main_phase old) c.in-Err.stop n m answer.limit answer.count;
        phase = phase_refused c.in-Err.stop (main_phase old) (main_phase new) answer.limit (on_phase old new c.requires.live read.ended false answer.phase);
        ends = (c.requires.live, read.ended ∙ c.requires.live);
        rests = tt;
      };
      next = read.next;
      found = read.found;
      standard = read.standard;
      handed = refused_hands c.args.rs old new c.in-Err.stop answer.limit (record { live = c.requires.live; busy = c.requires.busy; handed = answer.handed });
      answers = of_reader c.in-Err.stop answer.limit;
      finds = refusal_finds c.args.rs old new c.requires.live c.requires.busy new.reading new.standard c.in-Err.stop answer.limit answer.handed;
    }

pub returns-in-Ok-End-clause-finds : goal.returns-in-Ok-End-clause-finds
returns-in-Ok-End-clause-finds g c =
    let stops = c.stop_reading.ensures in
    end_finds c.args.rs c.args.self.now c.stop_reading.new.self c.requires.live c.requires.busy c.read.new.self.reading c.read.new.self.standard
    (subst (λ (o : FileNext). HandsAt c.args.rs c.args.self.now.reading c.args.self.now.standard (Ok o) c.read.new.self.reading c.read.new.self.standard)
    c.in-Ok-End.field-0-is c.in-Ok-End.ensures.handed)
    (found_idle c.read.new.self c.stop_reading.new.self stops.nothing stops.ended stops.next stops.found stops.standard ∙ ap idle c.read.ensures.leaves)

pub returns-in-Ok-End-clause-told : goal.returns-in-Ok-End-clause-told
returns-in-Ok-End-clause-told g c = λ tells inner asked.
    let old = main_of c.args.self.now (g.W.World.state c.args.world.now) in
    let new = main_of c.read.new.self (g.W.World.state c.read.new.world) in
    reads_end (g.W.World.state c.args.world.now).outside old inner c.args.rs c.requires.live asked.separator new
    (main_of c.stop_reading.new.self (g.W.World.state c.stop_reading.new.world))
    (subst (λ (o : FileNext). ReadsMain c.args.rs old (Ok o) new) c.in-Ok-End.field-0-is (c.in-Ok-End.ensures.told tells)) (c.stop_reading.ensures.told tells)

pub returns-in-Ok-End-clause-next : goal.returns-in-Ok-End-clause-next
returns-in-Ok-End-clause-next g c = c.stop_reading.ensures.next ∙ c.read.ensures.next

pub returns-in-Ok-End-clause-found : goal.returns-in-Ok-End-clause-found
returns-in-Ok-End-clause-found g c = c.stop_reading.ensures.found ∙ c.read.ensures.found

pub returns-in-Ok-End-clause-standard : goal.returns-in-Ok-End-clause-standard
returns-in-Ok-End-clause-standard g c =
    subst (λ (x : Reader). StandardStays c.args.self.now.reading c.args.self.now.standard x) (sym c.stop_reading.ensures.standard) c.read.ensures.standard

pub returns-in-Ok-End-clause-answers : goal.returns-in-Ok-End-clause-answers
returns-in-Ok-End-clause-answers g c = tt

pub returns-in-Ok-End-clause-moves : goal.returns-in-Ok-End-clause-moves
returns-in-Ok-End-clause-moves g c = moves_on c.read.ensures.moves c.stop_reading.ensures.moves

pub returns-in-Ok-End-clause-steps : goal.returns-in-Ok-End-clause-steps
returns-in-Ok-End-clause-steps g c =
    let old = c.args.self.now in
    let read = c.read.ensures in
    let stops = c.stop_reading.ensures in
    let answer = c.in-Ok-End.ensures in
    let is = c.in-Ok-End.field-0-is in
    let p = phase_at old.reading old.standard in
    let n = g.W.World.count c.args.world.now in
    let m = g.W.World.count c.read.new.world in
    let phase = subst (λ (o : FileNext). NextPhase p (Ok o) (phase_at c.read.new.self.reading c.read.new.self.standard)) is answer.phase in
    record {
      goes_on = less_work old c.stop_reading.new.self (stops.next ∙ read.next) stops.nothing c.requires.busy;
      count = stops.count ∙ counted_end p n m (subst (λ (o : FileNext). NextCounts p (Ok o) n m) is answer.count);
      phase = (λ is. phase.0 (same_phase old c.requires.live ∙ is), is_idle c.stop_reading.new.self (stops.ended ∙ read.ended ∙ c.requires.live) stops.nothing);
      ends = (c.requires.live, stops.ended ∙ read.ended ∙ c.requires.live);
      rests = tt;
    }

pub returns-in-Ok-End-clause-gives : goal.returns-in-Ok-End-clause-gives
returns-in-Ok-End-clause-gives g c = none_then g.W.World.did _ _ _ c.in-Ok-End.ensures.gives c.stop_reading.ensures.gives
