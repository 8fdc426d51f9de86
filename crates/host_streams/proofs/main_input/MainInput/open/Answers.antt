use Rattle.std.proofs.Common.{◌≡◌, ◌≢◌, ◌∙◌, ◌+◌, ℕ, List, false, Ok, ap, arith, inl, refl, subst, sym}
use Rattle.sem_primitives.specs.MainInput.{main_input}
use Rattle.sem_primitives.specs.InputParts.{reader_of}
use Rattle.host_streams.specs.MainFinds.{entry_of_reading, reading_found}
use Rattle.host_streams.specs.Mains.{FileIsOpen, HoldsMain, IsFresh, OperandCounts, SparesKinds, SparesPlaces, StandardIs, main_in, main_phase, phase_at, phase_by, reading_of}
use Rattle.host_streams.specs.MainMoves.{MovesMain}
use Rattle.host_streams.specs.declared.main_input.MainInput.{MainInput as Mains}
use Rattle.host_streams.specs.declared.main_input.Reading.{Reading}
use Rattle.host_streams.specs.declared.main_input.Reading.TheVariants as reading
use Rattle.host_streams.specs.declared.reader.Phase.{Phase}
use Rattle.host_streams.specs.declared.reader.Phase.TheVariants.{Broken}
use Rattle.host_streams.specs.declared.reader.Reader.{Reader}
use Rattle.host_streams.specs.declared.main_input.Found.TheVariants.{SomeFile}
use Rattle.std.proofs.lemmas.Result.{err_from_is_err_and}
use Rattle.world_core.specs.Calls.{Kind}
use Rattle.world_core.specs.WorldState.{State}
use Rattle.host_streams.proofs.MainFound.{no_file_finds, open_finds}
use Rattle.host_streams.proofs.MainSteps.{open_given, unopened_given}
use Rattle.host_streams.proofs.Moves.{short_operand, short_step, still}
use Rattle.host_streams.proofs.Passed.{one_taken}
use Rattle.host_streams.proofs.main_input.MainInput.open.Goals as goal

-- the operand is passed, and this is read
abbrev passed_to : Mains → Reading → Mains
passed_to m r = record m { next = m.next + 1; found = SomeFile; reading = r }

whole_by : (r : Reading) (p : Phase) → p ≢ Broken → StandardIs r p
whole_by reading.Nothing p live = live
whole_by reading.Standard p live = tt
whole_by (reading.File f) p live = live

whole_standard : (m : Mains) (kinds : ℕ → Kind) → m.reading ≡ reading.Nothing → HoldsMain m kinds → m.standard.phase ≢ Broken
whole_standard m kinds idle held = subst (λ (r : Reading). StandardIs r m.standard.phase) idle held.2

opens : {tells : Type 0} (m : Mains) (r : Reading) (kinds kinds' : ℕ → Kind) (state state' : State)
    → m.reading ≡ reading.Nothing → HoldsMain m kinds → FileIsOpen r kinds'
    → SparesKinds reading.Nothing r kinds kinds' → SparesKinds r reading.Nothing kinds' kinds
    → (tells → SparesPlaces reading.Nothing kinds state state') → (tells → state'.outside ≡ state.outside)
    → MovesMain tells m (passed_to m r) kinds kinds' state state'
opens m r kinds kinds' state state' idle held is spares no_others places outside = record {
  held = (held.0, is, whole_by r m.standard.phase (whole_standard m kinds idle held));
  spares = subst (λ (was : Reading). SparesKinds was r kinds kinds') (sym idle) spares;
  no_others = subst (λ (was : Reading). SparesKinds r was kinds' kinds) (sym idle) no_others;
  places = λ tells. subst (λ (was : Reading). SparesPlaces was kinds state state') (sym idle) (places tells);
  outside = outside;
}

fresh_at : (r : Reading) (standard : Reader) → IsFresh r → standard.phase ≢ Broken → phase_at r standard ≢ Broken
fresh_at reading.Nothing standard fresh live = λ is. cc is
fresh_at reading.Standard standard fresh live = live
fresh_at (reading.File f) standard fresh live = λ is. cc (sym fresh ∙ is)

fresh_phase : (m : Mains) (r : Reading) (kinds : ℕ → Kind) → m.reading ≡ reading.Nothing → HoldsMain m kinds → m.ended ≡ false → IsFresh r
    → main_phase (passed_to m r) ≢ Broken
fresh_phase m r kinds idle held live fresh = λ is.
    fresh_at r m.standard fresh (whole_standard m kinds idle held) (sym (ap (λ b. phase_by b r m.standard) live) ∙ is)

opened_counts : (r : Reading) (n m : ℕ) → r ≢ reading.Nothing → OperandCounts (Ok r) n m → m ≡ n
opened_counts reading.Nothing n m some h = absurd (some refl)
opened_counts reading.Standard n m some h = h
opened_counts (reading.File f) n m some h = h

pub returns : goal.returns
returns g c =
    let w = g.W.World in
    let old = c.args.self.now in
    let r = c.in_ok-opened.opened in
    let is = c.in_ok-opened.ensures in
    let kinds = w.kinds c.args.world.now in
    let before = w.state c.args.world.now in
    let after = w.state c.open_operand.new.world in
    let whole = fresh_phase old r kinds c.requires.idle c.requires.held c.requires.live is.fresh in
    let count = opened_counts r (w.count c.args.world.now) (w.count c.open_operand.new.world) c.in_default.not-Nothing is.count in
    record {
      gives = c.in_ok-opened.ensures.gives;
      moves = opens old r kinds (w.kinds c.open_operand.new.world) before after c.requires.idle c.requires.held is.held is.opened is.no_others
          is.places is.outside;
      told = λ tells inner.
          open_given old r before after c.args.name inner c.requires.live c.requires.plain c.requires.file
          (subst (λ (n : List ℕ). reader_of before.outside n ≡ reading_of r after) c.as_slice.ensures.value (is.told tells))
          (subst (λ (k : ℕ). after.readers k ≡ before.readers k) (sym c.requires.held.0) (c.open_operand.ensures.standard tells)) c.in_default.not-Nothing;
      steps = record { goes_on = tt; count = count; phase = (λ is. cc is, whole); ends = (c.requires.live, c.requires.live); rests = tt };
      operand = record {
        passes = λ texts e.
            inl (record { takes = one_taken texts old.next old.found c.args.name e c.requires.left; named = c.requires.plain; file = c.requires.file }, refl);
        standard = refl;
        one = (omega arith, omega arith);
        answers = tt;
        idle = tt;
        named = λ is. cc is;
        more = λ count is. absurd (cc is);
        finds = open_finds old (passed_to old r) c.args.name c.requires.live c.requires.plain c.requires.file
            (subst (λ (n : List ℕ). reader_of (λ target. entry_of_reading r) n ≡ reading_found r) c.as_slice.ensures.value is.finds)
            refl refl refl refl c.in_default.not-Nothing;
      };
    }

pub returns-in-Nothing : goal.returns-in-Nothing
returns-in-Nothing g c =
    let w = g.W.World in
    let old = c.args.self.now in
    let r = c.in_ok-opened.opened in
    let is = c.in_ok-opened.ensures in
    let kinds = w.kinds c.args.world.now in
    let before = w.state c.args.world.now in
    let after = w.state c.open_operand.new.world in
    let whole = fresh_phase old r kinds c.requires.idle c.requires.held c.requires.live is.fresh in
    let count = subst (λ (r : Reading). OperandCounts (Ok r) (w.count c.args.world.now) (w.count c.open_operand.new.world)) c.in-Nothing.is is.count in
    record {
      gives = c.in_ok-opened.ensures.gives;
      moves = opens old r kinds (w.kinds c.open_operand.new.world) before after c.requires.idle c.requires.held is.held is.opened is.no_others
          is.places is.outside;
      told = λ tells inner.
          unopened_given old r before after c.args.name inner c.requires.live c.requires.plain c.requires.file
          (subst (λ (n : List ℕ). reader_of before.outside n ≡ reading_of r after) c.as_slice.ensures.value (is.told tells))
          (subst (λ (k : ℕ). after.readers k ≡ before.readers k) (sym c.requires.held.0) (c.open_operand.ensures.standard tells))
          c.requires.idle c.in-Nothing.is;
      steps = record { goes_on = tt; count = count; phase = (λ is. cc is, whole); ends = (c.requires.live, c.requires.live); rests = tt };
      operand = record {
        passes = λ texts e. (
          c.args.name,
          record { takes = one_taken texts old.next old.found c.args.name e c.requires.left; named = c.requires.plain; file = c.requires.file },
          refl,
        );
        standard = refl;
        one = (omega arith, omega arith);
        answers = tt;
        idle = tt;
        named = λ is. cc is;
        more = λ count. tt;
        finds = no_file_finds old (passed_to old r) c.args.name c.requires.live c.requires.plain c.requires.file
            (subst (λ (n : List ℕ). reader_of (λ target. entry_of_reading r) n ≡ reading_found r) c.as_slice.ensures.value is.finds)
            refl refl refl refl c.requires.idle c.in-Nothing.is;
      };
    }

pub returns-in_err-opened : goal.returns-in_err-opened
returns-in_err-opened g c =
    let w = g.W.World in
    let call = c.in_err-opened.ensures in
    let p = err_from_is_err_and c.from_residual.result c.from_residual.ensures.1 in
    rw (p.1, p.2, call.memory, call.not_opened, call.count) (record {
      gives = c.in_err-opened.ensures.gives;
      moves = still c.requires.held (λ k h. h) (λ k h. h) call.refused;
      told = λ tells inner. ap (λ (t : State). main_input (w.state c.args.world.now).outside (main_in c.args.self.now t inner)) (sym (call.refused tells));
      steps = short_step c.args.self.now c.requires.live c.requires.idle (w.count c.args.world.now);
      operand = short_operand c.args.self.now c.requires.left c.args.name;
    })
