use Rattle.std.proofs.Common.{◌≡◌, ◌≢◌, ◌∙◌, ◌+◌, ◌≤◌, Option, ap, drop, length, refl, sym, subst, List, [], ℕ, Bool, true, false, Ok, Err, slice_range}
use Rattle.std.proofs.lemmas.List.{drop-drop}
use Rattle.world_core.specs.WorldState.{Source}
use Rattle.host_streams.specs.Looks.{IsLong, IsOpen}
use Rattle.host_streams.specs.Readers.{handed, unread, Answers, MoreCounts, MoreIs, MoreKeeps, OnlyLimit}
use Rattle.host_streams.specs.declared.reader.Phase.{Phase}
use Rattle.host_streams.specs.declared.reader.Phase.TheVariants.{Open, Ended, Broken}
use Rattle.host_streams.specs.declared.reader.Turn.{Turn}
use Rattle.sem_primitives.specs.Limits.{most_text}
use Rattle.awk_values.specs.declared.fault.Stop.{Stop}
use Rattle.awk_values.specs.declared.fault.Stop.TheVariants.{NoMemory}
use Rattle.world_core.specs.declared.world.Ending.TheVariants.{End as IsEnd, Fails as IsFailure}
use Rattle.host_streams.proofs.Cuts.{scanned_kept}
use Rattle.host_streams.proofs.Turns.{again_handed, first_left, last_answers, last_counts, last_phase, last_rest, left_long, long_handed, lost, lost_handed, none_handed, record_handed, refused_handed}
use Rattle.host_streams.proofs.Refused.{is_stop}
use Rattle.host_streams.proofs.Given.{none_still}
use Rattle.host_streams.proofs.reader.Reader.turn.Goals as goal

told_refused : (rs : Option ℕ) {old new : Source} {stop : Stop} → stop ≡ NoMemory → new ≡ old → Answers rs old (Err stop) new
told_refused rs {old} {new} e h = subst (λ (x : Stop). Answers rs old (Err x) new) (sym e) h

lost_told : (kept : List ℕ) {old new : Source} {b : Bool} → b ≡ false → MoreIs kept old (Ok b) new → MoreIs kept old (Ok false) new
lost_told kept {old} {new} e h = subst (λ (c : Bool). MoreIs kept old (Ok c) new) e h

goes_on_told : (kept : List ℕ) {old new : Source} {b : Bool} → b ≡ true → MoreIs kept old (Ok b) new → new ≡ old
goes_on_told kept {old} {new} {b} e h = subst (λ (c : Bool). MoreIs kept old (Ok c) new) e h

counts_true : {b : Bool} {n m : ℕ} → b ≡ true → MoreCounts (Ok b) n m → m ≡ n
counts_true {b} {n} {m} e h = subst (λ (c : Bool). MoreCounts (Ok c) n m) e h

pub returns-in_ok-text-in-Record : goal.returns-in_ok-text-in-Record
returns-in_ok-text-in-Record g c =
    let found = first_left c.args.self.now.phase c.args.rs (unread c.args.self.now) _ _ c.in_ok-text-in-Record.text _ c.in-Record.from c.in-Record.to c.in-Record.next c.requires.live c.unread.ensures c.in-Record.ensures c.in_ok-text-in-Record.ensures (c.unread_of.ensures ∙ ap (drop c.args.self.now.start) c.as_slice.ensures.value)
    (sym (drop-drop c.in-Record.next c.args.self.now.start c.args.self.now.kept.items)) in record {
      gives = none_still g.W.World.did c.args.world.now;
      id = refl;
      kinds = refl;
      count = refl;
      phase = c.requires.live;
      limit = tt;
      again = tt;
      goes_on = tt;
      stays = λ e. e;
      handed = record_handed c.args.self.now.phase c.args.rs (unread c.args.self.now) _ c.in_ok-text-in-Record.text found;
      told = λ tells. found _;
      only = λ tells. record { outside = refl; writers = refl; others = λ k apart. refl };
    }

pub returns-in-Long : goal.returns-in-Long
returns-in-Long g c =
    let long = subst (λ (xs : List ℕ). IsLong c.args.rs xs) c.unread.ensures c.in-Long.ensures in record {
      gives = none_still g.W.World.did c.args.world.now;
      id = refl;
      kinds = refl;
      count = refl;
      phase = c.requires.live;
      limit = refl;
      again = tt;
      goes_on = tt;
      stays = λ e. e;
      handed = long_handed c.args.self.now.phase c.args.rs (unread c.args.self.now) c.requires.live long;
      told = λ tells. (left_long c.args.self.now.phase c.args.rs (unread c.args.self.now) _ c.requires.live long, refl);
      only = λ tells. record { outside = refl; writers = refl; others = λ k apart. refl };
    }

pub returns-in-Ended : goal.returns-in-Ended
returns-in-Ended g c =
    let open_now = subst (λ (xs : List ℕ). IsOpen c.args.rs xs c.in-More.from c.in-More.to (record { skipped = c.in-More.from; searched = c.in-More.searched })) c.unread.ensures c.in-More.ensures in
    let text = slice_range (unread c.args.self.now) c.in-More.from c.in-More.to in
    let last = c.last.ensures in
    let rest = last_rest c.args.rs text c.args.self.now c.last.result c.last.new.self last.answer in
    let answers = last_answers c.args.rs text c.args.self.now c.last.result c.last.new.self c.in-Ended.is (open_now.rest IsEnd) last.phase last.answer in record {
      gives = none_still g.W.World.did c.args.world.now;
      id = last.id;
      kinds = refl;
      count = last_counts c.args.rs text c.args.self.now c.last.result c.last.new.self (g.W.World.count c.args.world.now) last.answer;
      phase = last_phase c.args.rs text c.args.self.now c.last.result c.last.new.self (λ is. c.requires.live (sym last.phase ∙ is)) last.answer;
      limit = rest.0;
      again = rest.1;
      goes_on = rest.2;
      stays = λ e. last.phase ∙ e;
      handed = record { bytes = []; answers = λ later. answers (handed [] c.last.new.self.phase later) later };
      told = λ tells. answers ((g.W.World.state c.args.world.now).readers c.args.self.now.id) ((g.W.World.state c.args.world.now).readers c.args.self.now.id);
      only = λ tells. record { outside = refl; writers = refl; others = λ k apart. refl };
    }

pub returns-in-Ok-false : goal.returns-in-Ok-false
returns-in-Ok-false g c =
    let open_now = subst (λ (xs : List ℕ). IsOpen c.args.rs xs c.in-More.from c.in-More.to (record { skipped = c.in-More.from; searched = c.in-More.searched })) c.unread.ensures c.in-More.ensures in
    let more = c.in-Ok-false.ensures in
    let test = c.in-Ok-false.field-0-test in
    let w = g.W.World in record {
      gives = c.in-Ok-false.ensures.gives;
      id = more.id;
      kinds = more.kinds;
      count = subst (λ (b : Bool). MoreCounts (Ok b) (w.count c.args.world.now) (w.count c.more.new.world)) test more.count;
      phase = subst (λ (b : Bool). MoreKeeps c.args.self.now (Ok b) c.more.new.self) test more.keeps;
      limit = tt;
      again = tt;
      goes_on = tt;
      stays = more.stays;
      handed = lost_handed c.args.rs c.args.self.now.phase c.more.new.self.phase (unread c.args.self.now) (unread c.more.new.self) (slice_range (unread c.args.self.now) c.in-More.from c.in-More.to) test (open_now.rest IsFailure) more.handed;
      told = λ tells. lost c.args.rs (unread c.args.self.now) (slice_range (unread c.args.self.now) c.in-More.from c.in-More.to) _ _ (open_now.rest IsFailure) (lost_told (unread c.args.self.now) test (more.told tells));
      only = more.only;
    }

pub returns-in-Err : goal.returns-in-Err
returns-in-Err g c =
    let more = c.in-Err.ensures in
    let none = more.keeps.0 in record {
      gives = c.in-Err.ensures.gives;
      id = more.id;
      kinds = more.kinds;
      count = more.count;
      phase = λ is. cc (sym is ∙ more.keeps.1);
      limit = subst (λ (stop : Stop). OnlyLimit {A = Turn} (Err stop)) (sym none) tt;
      again = tt;
      goes_on = tt;
      stays = more.stays;
      handed = refused_handed c.args.rs c.args.self.now.phase c.more.new.self.phase (unread c.args.self.now) (unread c.more.new.self) c.in-Err.stop none more.handed;
      told = λ tells. told_refused c.args.rs none (more.told tells);
      only = more.only;
    }

pub returns-in-Ok-true : goal.returns-in-Ok-true
returns-in-Ok-true g c =
    let open_now = subst (λ (xs : List ℕ). IsOpen c.args.rs xs c.in-More.from c.in-More.to (record { skipped = c.in-More.from; searched = c.in-More.searched })) c.unread.ensures c.in-More.ensures in
    let keeps : MoreKeeps c.args.self.now (Ok true) c.more.new.self = subst (λ (b : Bool). MoreKeeps c.args.self.now (Ok b) c.more.new.self) c.in-Ok-true.field-0-test c.in-Ok-true.ensures.keeps in record {
      gives = c.in-Ok-true.ensures.gives;
      id = c.in-Ok-true.ensures.id;
      kinds = c.in-Ok-true.ensures.kinds;
      count = counts_true c.in-Ok-true.field-0-test c.in-Ok-true.ensures.count;
      phase = keeps.1;
      limit = tt;
      again = scanned_kept c.args.rs (unread c.args.self.now) (unread c.more.new.self) _ keeps.0 open_now.known;
      goes_on = keeps.2;
      stays = c.in-Ok-true.ensures.stays;
      handed = again_handed c.args.rs c.args.self.now.phase c.more.new.self.phase (unread c.args.self.now) (unread c.more.new.self) _ c.in-Ok-true.field-0-test c.in-Ok-true.ensures.handed;
      told = λ tells. goes_on_told (unread c.args.self.now) c.in-Ok-true.field-0-test (c.in-Ok-true.ensures.told tells);
      only = c.in-Ok-true.ensures.only;
    }

pub returns-in_err-text-in-Record : goal.returns-in_err-text-in-Record
returns-in_err-text-in-Record g c = rw (is_stop c.from_residual.result c.from_residual.ensures.1) (record {
  gives = none_still g.W.World.did c.args.world.now;
  id = refl;
  kinds = refl;
  count = refl;
  phase = c.requires.live;
  limit = tt;
  again = tt;
  goes_on = tt;
  stays = λ e. e;
  handed = record { bytes = []; answers = λ later. sym (none_handed c.args.self.now.phase (unread c.args.self.now) later) };
  told = λ tells. refl;
  only = λ tells. record { outside = refl; writers = refl; others = λ k apart. refl };
})

pub last-requires : goal.last-requires
last-requires g c = record {
  order = c.in-More.ensures.order;
  within = subst (λ (xs : List ℕ). c.in-More.to ≤ length xs) c.unread.ensures c.in-More.ensures.within;
}

is_open : (p : Phase) → p ≢ Broken → p ≢ Ended → p ≡ Open
is_open Open live more = refl
is_open Ended live more = absurd (more refl)
is_open Broken live more = absurd (live refl)

pub more-requires : goal.more-requires
more-requires g c = record {
  reading = c.requires.reading;
  short = subst (λ (xs : List ℕ). length xs ≤ most_text + 1) c.unread.ensures c.in-More.ensures.short;
  live = is_open c.args.self.now.phase c.requires.live c.in_default.not-Ended;
}
