use Rattle.std.proofs.Common.{◌≡◌, ◌≢◌, ◌∙◌, ℕ, Ok, Err, refl, subst}
use Rattle.awk_values.specs.declared.fault.Stop.{Stop}
use Rattle.awk_values.specs.declared.fault.Stop.TheVariants.{Fault as IsFault, NoMemory}
use Rattle.world_core.specs.WorldState.{Source}
use Rattle.host_streams.specs.declared.reader.FileNext.{FileNext}
use Rattle.host_streams.specs.declared.reader.FileNext.TheVariants.{End, Failed, Record}
use Rattle.host_streams.specs.declared.reader.Phase.{Phase}
use Rattle.host_streams.specs.declared.reader.Phase.TheVariants.{Open, Ended, Broken}
use Rattle.host_streams.specs.declared.reader.Turn.TheVariants.{Answer}
use Rattle.host_streams.specs.declared.reader.Turn.{Turn}
use Rattle.host_streams.specs.Readers.{left, unread, Answers, NextCounts, NextPhase, OnlyLimit, ScannedAgain, TurnCounts, TurnPhase, Turns}
use Rattle.host_streams.proofs.Turns.{only_again, so_far_again, so_far_answered, so_far_refused}
use Rattle.host_streams.proofs.Given.{none_then}
use Rattle.host_streams.proofs.reader.Reader.next.Goals as goal

counts_on : (p : Phase) (answer : FileNext) (n m : ℕ) → p ≢ Broken → TurnCounts (Ok (Answer answer)) n m → NextCounts p (Ok answer) n m
counts_on Broken answer n m live h = absurd (live refl)
counts_on Open (Record text) n m live h = h
counts_on Open End n m live h = h
counts_on Open Failed n m live h = h
counts_on Ended (Record text) n m live h = h
counts_on Ended End n m live h = h
counts_on Ended Failed n m live h = h

counts_refused : (p : Phase) (stop : Stop) (n m : ℕ) → m ≡ n → NextCounts p (Err stop) n m
counts_refused Open stop n m h = h
counts_refused Ended stop n m h = h
counts_refused Broken stop n m h = h

phase_on : (p : Phase) (answer : FileNext) (q : Phase) → p ≢ Broken → TurnPhase (Ok (Answer answer)) q → NextPhase p (Ok answer) q
phase_on p (Record text) q live h = (live, h)
phase_on p End q live h = (live, h)
phase_on p Failed q live h = h

same_limit : (stop : Stop) → OnlyLimit {A = Turn} (Err stop) → OnlyLimit {A = FileNext} (Err stop)
same_limit (IsFault fault) h = h
same_limit NoMemory h = h

pub returns-in-Ok-Answer : goal.returns-in-Ok-Answer
returns-in-Ok-Answer g c =
    let w = g.W.World in
    let was = c.turns.invariant in
    let turn = c.in-Ok-Answer.ensures in
    let is = c.in-Ok-Answer.field-0-is in
    let id = c.args.self.now.id in
    let first = w.count c.args.world.now in
    let last = w.count c.turn.new.world in record {
      gives = none_then g.W.World.did _ _ _ c.turns.invariant.gives c.in-Ok-Answer.ensures.gives;
      id = turn.id ∙ was.id;
      kinds = turn.kinds ∙ was.kinds;
      count = counts_on c.args.self.now.phase c.in-Ok-Answer.answer first last was.started
          (subst (λ (n : ℕ). TurnCounts (Ok (Answer c.in-Ok-Answer.answer)) n last) was.count (subst (λ (t : Turn). TurnCounts (Ok t) (w.count c.turns.world) last) is turn.count));
      phase = phase_on c.args.self.now.phase c.in-Ok-Answer.answer c.turn.new.self.phase was.started (subst (λ (t : Turn). TurnPhase (Ok t) c.turn.new.self.phase) is turn.phase);
      limit = tt;
      stays = λ e. turn.stays (was.stays e);
      handed = so_far_answered c.args.rs c.args.self.now.phase c.turns.self.phase c.turn.new.self.phase (unread c.args.self.now) (unread c.turns.self) (unread c.turn.new.self) _ is was.live turn.stays was.handed turn.handed;
      told = λ tells. (
          let now = left c.turn.new.self ((w.state c.turn.new.world).readers id) in
          let same = subst (λ (k : ℕ). Turns c.args.rs (left c.turns.self ((w.state c.turns.world).readers k)) (Ok c.in-Ok-Answer.field-0) (left c.turn.new.self ((w.state c.turn.new.world).readers k))) was.id (turn.told tells) in
          let told = subst (λ (t : Turn). Turns c.args.rs (left c.turns.self ((w.state c.turns.world).readers id)) (Ok t) now) is same in
          subst (λ (source : Source). Answers c.args.rs source (Ok c.in-Ok-Answer.answer) now) (was.told tells) told
          );
      only = λ tells. only_again id c.turns.self.id (w.state c.args.world.now) (w.state c.turns.world) (w.state c.turn.new.world) was.id (was.only tells) (turn.only tells);
    }

pub returns-in-Err : goal.returns-in-Err
returns-in-Err g c =
    let w = g.W.World in
    let was = c.turns.invariant in
    let turn = c.in-Err.ensures in
    let id = c.args.self.now.id in record {
      gives = none_then g.W.World.did _ _ _ c.turns.invariant.gives c.in-Err.ensures.gives;
      id = turn.id ∙ was.id;
      kinds = turn.kinds ∙ was.kinds;
      count = counts_refused c.args.self.now.phase c.in-Err.stop (w.count c.args.world.now) (w.count c.turn.new.world) (turn.count ∙ was.count);
      phase = (was.started, turn.phase);
      limit = same_limit c.in-Err.stop turn.limit;
      stays = λ e. turn.stays (was.stays e);
      handed = so_far_refused c.args.rs c.args.self.now.phase c.turns.self.phase c.turn.new.self.phase (unread c.args.self.now) (unread c.turns.self) (unread c.turn.new.self) _ was.live turn.stays was.handed turn.handed;
      told = λ tells. (
          let now = left c.turn.new.self ((w.state c.turn.new.world).readers id) in
          let same = subst (λ (k : ℕ). Turns c.args.rs (left c.turns.self ((w.state c.turns.world).readers k)) (Err c.in-Err.stop) (left c.turn.new.self ((w.state c.turn.new.world).readers k))) was.id (turn.told tells) in
          subst (λ (source : Source). Answers c.args.rs source (Err c.in-Err.stop) now) (was.told tells) same
          );
      only = λ tells. only_again id c.turns.self.id (w.state c.args.world.now) (w.state c.turns.world) (w.state c.turn.new.world) was.id (was.only tells) (turn.only tells);
    }

pub turns-preserved : goal.turns-preserved
turns-preserved g c =
    let w = g.W.World in
    let was = c.turns.invariant in
    let turn = c.in-Ok-Again.ensures in
    let again = c.in-Ok-Again.field-0-is in
    let id = c.args.self.now.id in record {
      gives = none_then g.W.World.did _ _ _ c.turns.invariant.gives c.in-Ok-Again.ensures.gives;
      id = turn.id ∙ was.id;
      live = subst (λ (t : Turn). TurnPhase (Ok t) c.turn.new.self.phase) again turn.phase;
      stays = λ e. turn.stays (was.stays e);
      handed = so_far_again c.args.rs c.args.self.now.phase c.turns.self.phase c.turn.new.self.phase (unread c.args.self.now) (unread c.turns.self) (unread c.turn.new.self) _ again was.live turn.stays was.handed turn.handed;
      known = subst (λ (t : Turn). ScannedAgain c.args.rs (Ok t) c.turn.new.self) again turn.again;
      kinds = turn.kinds ∙ was.kinds;
      count = subst (λ (t : Turn). TurnCounts (Ok t) (w.count c.turns.world) (w.count c.turn.new.world)) again turn.count ∙ was.count;
      started = was.started;
      told = λ tells. (
          let same = subst (λ (k : ℕ). Turns c.args.rs (left c.turns.self ((w.state c.turns.world).readers k)) (Ok c.in-Ok-Again.field-0) (left c.turn.new.self ((w.state c.turn.new.world).readers k))) was.id (turn.told tells) in
          subst (λ (t : Turn). Turns c.args.rs (left c.turns.self ((w.state c.turns.world).readers id)) (Ok t) (left c.turn.new.self ((w.state c.turn.new.world).readers id))) again same ∙ was.told tells
          );
      only = λ tells. only_again id c.turns.self.id (w.state c.args.world.now) (w.state c.turns.world) (w.state c.turn.new.world) was.id (was.only tells) (turn.only tells);
    }
