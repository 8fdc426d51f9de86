use Rattle.std.proofs.Common.{◌≡◌, ◌∙◌, ◌<◌, ℕ, List, [], Bool, true, false, Ok, Err, ap, append-nil, arith, drop, length, refl, subst, sym, take}
use Rattle.world_core.specs.Calls.{next_count}
use Rattle.world_core.specs.WorldState.{State}
use Rattle.world_core.specs.declared.world.WorldFault.{WorldFault}
use Rattle.world_core.specs.declared.world.WorldFault.TheVariants as world_fault
use Rattle.world_core.specs.declared.world.Ending.TheVariants.{Fails}
use Rattle.host_streams.specs.declared.reader.Phase.TheVariants.{Ended, Broken}
use Rattle.host_streams.specs.Readers.{Fills, OnlyReads, handed, left_in, unread}
use Rattle.host_streams.proofs.Refused.{is_stop}
use Rattle.host_streams.proofs.Turns.{end_handed, left_end, left_lost, left_more, less_work, more_handed, none_since, some_work}
use Rattle.host_streams.proofs.Given.{none_still}
use Rattle.host_streams.proofs.reader.Reader.more.Goals as goal

same_only : (id : ℕ) (old new : State) → new ≡ old → OnlyReads id old new
same_only id old new e = record { outside = ap (λ (s : State). s.outside) e; writers = ap (λ (s : State). s.writers) e; others = λ k apart. ap (λ (s : State). s.readers k) e }

filled : {was is : ℕ} {read : Bool} (answer : Bool) (old new : State) (kept now : List ℕ) → was ≡ is → read ≡ answer → Fills was old kept (Ok read) now new → Fills is old kept (Ok answer) now new
filled {was} {is} {read} answer old new kept now e f h = subst (λ (b : Bool). Fills is old kept (Ok b) now new) f (subst (λ (k : ℕ). Fills k old kept (Ok read) now new) e h)

not_filled : {was is : ℕ} {read : WorldFault} (fault : WorldFault) (old new : State) (kept now : List ℕ) → was ≡ is → read ≡ fault → Fills was old kept (Err read) now new → Fills is old kept (Err fault) now new
not_filled {was} {is} {read} fault old new kept now e f h = subst (λ (x : WorldFault). Fills is old kept (Err x) now new) f (subst (λ (k : ℕ). Fills k old kept (Err read) now new) e h)

pub returns-in-Ok-true : goal.returns-in-Ok-true
returns-in-Ok-true g c =
    let w = g.W.World in
    let id = c.args.self.now.id in
    let phase = c.args.self.now.phase in
    let kept = unread c.args.self.now in
    let was = c.in_ok-compact.ensures in
    let fill = c.in-Ok-true.ensures in
    let now = c.fill.new.kept.items in
    let all : drop c.compact.new.self.start now ≡ now = ap (λ n. drop n now) was.start in
    let does = λ (tells : w.is_modelled). filled {is = id} true (w.state c.args.world.now) (w.state c.fill.new.world) c.compact.new.self.kept.items now was.id c.in-Ok-true.field-0-test (fill.told tells) in
    let grows : length kept < length (drop c.compact.new.self.start now) = omega (arith, fill.grows c.in-Ok-true.field-0-test, ap length was.whole, ap length all, c.fill.new.kept.ok.0, c.compact.new.self.kept.ok.0) in record {
      gives = c.in-Ok-true.ensures.gives;
      id = was.id;
      kinds = fill.kinds;
      count = fill.count;
      keeps = (
        ap (take (length kept)) all ∙ subst (λ (xs : List ℕ). take (length xs) now ≡ xs) was.whole fill.front,
        λ is. cc (sym c.requires.live ∙ (sym was.phase ∙ is)),
        less_work phase c.compact.new.self.phase (length kept) (length (drop c.compact.new.self.start now)) c.requires.live was.phase grows c.requires.short,
      );
      stays = λ e. was.phase ∙ e;
      handed = more_handed phase c.compact.new.self.phase kept _ _ _ c.requires.live was.phase was.whole was.start fill.front;
      told = λ tells. left_more phase c.compact.new.self.phase kept c.compact.new.self.kept.items now (drop c.compact.new.self.start now) ((w.state c.args.world.now).readers id) ((w.state c.fill.new.world).readers id) c.requires.live was.phase all was.whole (does tells).0 (does tells).1;
      only = λ tells. (does tells).2;
    }

pub returns-in-Ok-false : goal.returns-in-Ok-false
returns-in-Ok-false g c =
    let w = g.W.World in
    let id = c.args.self.now.id in
    let phase = c.args.self.now.phase in
    let kept = unread c.args.self.now in
    let was = c.in_ok-compact.ensures in
    let fill = c.in-Ok-false.ensures in
    let now = c.fill.new.kept.items in
    let all : drop c.compact.new.self.start now ≡ now = ap (λ n. drop n now) was.start in
    let same = all ∙ (fill.ended c.in-Ok-false.field-0-test ∙ was.whole) in
    let does = λ (tells : w.is_modelled). filled {is = id} false (w.state c.args.world.now) (w.state c.fill.new.world) c.compact.new.self.kept.items now was.id c.in-Ok-false.field-0-test (fill.told tells) in record {
      gives = c.in-Ok-false.ensures.gives;
      id = was.id;
      kinds = fill.kinds;
      count = fill.count;
      keeps = (
        ap (take (length kept)) all ∙ subst (λ (xs : List ℕ). take (length xs) now ≡ xs) was.whole fill.front,
        λ is. cc is,
        some_work phase (length kept) c.requires.live c.requires.short,
      );
      stays = λ e. refl;
      handed = record { bytes = []; is = λ later. end_handed kept (drop c.compact.new.self.start now) later same ∙ sym (ap (λ x. left_in x kept (handed [] Ended later)) c.requires.live) };
      told = λ tells. left_end phase kept (drop c.compact.new.self.start now) ((w.state c.args.world.now).readers id) c.requires.live same (does tells).0 (does tells).1;
      only = λ tells. (does tells).2;
    }

pub returns-in-Err-Failed : goal.returns-in-Err-Failed
returns-in-Err-Failed g c =
    let w = g.W.World in
    let id = c.args.self.now.id in
    let phase = c.args.self.now.phase in
    let kept = unread c.args.self.now in
    let was = c.in_ok-compact.ensures in
    let fill = c.in-Err-Failed.ensures in
    let does = λ (tells : w.is_modelled). not_filled {is = id} world_fault.Failed (w.state c.args.world.now) (w.state c.fill.new.world) c.compact.new.self.kept.items c.fill.new.kept.items was.id c.in-Err-Failed.field-0-is (fill.told tells) in record {
      gives = c.in-Err-Failed.ensures.gives;
      id = was.id;
      kinds = fill.kinds;
      count = fill.count ∙ ap (λ (x : WorldFault). next_count {T = Bool} (Err x) (w.count c.args.world.now)) c.in-Err-Failed.field-0-is;
      keeps = refl;
      stays = λ e. absurd (cc (sym c.requires.live ∙ e));
      handed = record { bytes = []; is = λ later. (ap (λ x. left_in x kept (handed [] Broken later)) c.requires.live ∙ ap (λ xs. record { rest = xs; ending = Fails }) (append-nil kept), refl) };
      told = λ tells. (left_lost phase kept ((w.state c.args.world.now).readers id) c.requires.live (does tells).1 (does tells).2, refl);
      only = λ tells. same_only id (w.state c.args.world.now) (w.state c.fill.new.world) (does tells).0;
    }

pub returns-in-Err-NoMemory : goal.returns-in-Err-NoMemory
returns-in-Err-NoMemory g c =
    let w = g.W.World in
    let id = c.args.self.now.id in
    let kept = unread c.args.self.now in
    let was = c.in_ok-compact.ensures in
    let fill = c.in-Err-NoMemory.ensures in
    let rest = drop c.compact.new.self.start c.fill.new.kept.items in
    let same : rest ≡ kept = ap (λ n. drop n c.fill.new.kept.items) was.start ∙ (fill.failed ∙ was.whole) in
    let does = λ (tells : w.is_modelled). not_filled {is = id} world_fault.NoMemory (w.state c.args.world.now) (w.state c.fill.new.world) c.compact.new.self.kept.items c.fill.new.kept.items was.id c.in-Err-NoMemory.field-0-is (fill.told tells) in record {
      gives = c.in-Err-NoMemory.ensures.gives;
      id = was.id;
      kinds = fill.kinds;
      count = fill.count ∙ ap (λ (x : WorldFault). next_count {T = Bool} (Err x) (w.count c.args.world.now)) c.in-Err-NoMemory.field-0-is;
      keeps = (refl, was.phase ∙ c.requires.live);
      stays = λ e. was.phase ∙ e;
      handed = record { bytes = []; is = λ later. none_since c.args.self.now.phase c.compact.new.self.phase kept rest later was.phase same };
      told = λ tells.
          ap (λ (s : State). left_in c.compact.new.self.phase rest (s.readers id)) (does tells) ∙ ap (λ p. left_in p rest ((w.state c.args.world.now).readers id)) was.phase
          ∙ ap (λ xs. left_in c.args.self.now.phase xs ((w.state c.args.world.now).readers id)) same;
      only = λ tells. same_only id (w.state c.args.world.now) (w.state c.fill.new.world) (does tells);
    }

pub returns-in_err-compact : goal.returns-in_err-compact
returns-in_err-compact g c =
    let was = c.in_err-compact.ensures in
    rw (is_stop c.from_residual.result c.from_residual.ensures.1) (record {
      gives = none_still g.W.World.did c.args.world.now;
      id = was.id;
      kinds = refl;
      count = refl;
      keeps = (refl, was.phase ∙ c.requires.live);
      stays = λ e. was.phase ∙ e;
      handed = record { bytes = []; is = λ later. none_since c.args.self.now.phase c.compact.new.self.phase (unread c.args.self.now) (unread c.compact.new.self) later was.phase was.unread };
      told = λ tells. ap (λ p. left_in p (unread c.compact.new.self) ((g.W.World.state c.args.world.now).readers c.args.self.now.id)) was.phase ∙ ap (λ xs. left_in c.args.self.now.phase xs ((g.W.World.state c.args.world.now).readers c.args.self.now.id)) was.unread;
      only = λ tells. record { outside = refl; writers = refl; others = λ k apart. refl };
    })
