use Rattle.std.proofs.Common.{◌∙◌, ◌++◌, sym, ap, refl, subst, arith, Err, Ok, Option}
use Rattle.awk_values.specs.Values.{number_of_value}
use Rattle.host_streams.specs.declared.main_input.MainNext.{MainNext}
use Rattle.host_streams.specs.Mains.{IsApartFrom, kept_in, main_of, main_phase}
use Rattle.awk_values.specs.declared.fault.Stop.TheVariants.{Fault as IsFault}
use Rattle.host_streams.specs.MainFinds.{found_by_operand, found_in, main_found}
use Rattle.host_streams.proofs.MainFound.{follow_finds, found_later, number_found, rests_found}
use Rattle.host_streams.proofs.MainSteps.{given_later, number_counts, number_given, number_phase, has_fault, has_none, has_one, none_left, rests}
use Rattle.host_streams.proofs.Moves.{still}
use Rattle.host_streams.proofs.Passed.{follow_answers, follow_idle, follow_more, follow_passes, none_there, number_answers, number_more, number_passes, one_there}
use Rattle.host_streams.proofs.Given.{none_still}
use Rattle.host_streams.proofs.main_input.MainInput.reach.Goals as goal

pub returns-in-NoneLeft-clause-told : goal.returns-in-NoneLeft-clause-told
returns-in-NoneLeft-clause-told g c = λ tells inner offered.
    given_later _ _ c.follow.result _ _ _ (none_left (g.W.World.state c.args.world.now).outside (kept_in inner) (main_of c.args.self.now (g.W.World.state c.args.world.now)) _ _ c.args.self.now.found (rests c.args.self.now (g.W.World.state c.args.world.now) c.requires.idle c.requires.live) c.in-NoneLeft.is)
    (c.follow.ensures.told (g.W.World.state c.args.world.now) inner)

pub returns-in-Ok-true : goal.returns-in-Ok-true
returns-in-Ok-true g c = record {
  gives = c.take.ensures.gives;
  moves = c.take.ensures.moves;
  told = λ tells inner offered.
      given_later _ _ c.take.result _ _ _ (has_one (g.W.World.state c.args.world.now).outside (kept_in inner) (main_of c.args.self.now (g.W.World.state c.args.world.now)) _ c.args.self.now.next c.args.self.now.found (rests c.args.self.now (g.W.World.state c.args.world.now) c.requires.idle c.requires.live) c.in_default.not-NoneLeft (number_of_value c.args.argc.now) _
      (ap number_of_value offered.count) (sym c.in-Ok-true.ensures.value ∙ ap (λ b. Ok b) c.in-Ok-true.field-0-test) (offered.operands c.args.self.now.next))
      (c.take.ensures.told tells inner);
  steps = c.take.ensures.steps;
  passes = c.take.ensures.operand.passes (g.O.Operands.text c.args.operands.now) refl;
  there = one_there (number_of_value c.args.argc.now) c.args.self.now.next c.take.new.self.next
      (sym c.in-Ok-true.ensures.value ∙ ap (λ b. Ok b) c.in-Ok-true.field-0-test) c.take.ensures.operand.one.1;
  more = c.take.ensures.operand.more (number_of_value c.args.argc.now);
  standard = c.take.ensures.operand.standard;
  answers = c.take.ensures.operand.answers;
  idle = c.take.ensures.operand.idle;
  finds = λ later outside inner offered.
      found_later _ _ c.take.result _ _ (has_one outside (found_in (found_by_operand c.take.result c.take.new.self.reading ++ later) inner) (main_found c.args.self.now) _ c.args.self.now.next c.args.self.now.found (rests_found c.args.self.now c.requires.idle c.requires.live) c.in_default.not-NoneLeft (number_of_value c.args.argc.now) _
      (ap number_of_value offered.count) (sym c.in-Ok-true.ensures.value ∙ ap (λ b. Ok b) c.in-Ok-true.field-0-test) (offered.operands c.args.self.now.next))
      (c.take.ensures.operand.finds later outside inner);
}

pub returns-in-Ok-false : goal.returns-in-Ok-false
returns-in-Ok-false g c = record {
  gives = none_still g.W.World.did c.args.world.now;
  moves = let follow = c.follow-in-Ok-false.ensures in
      still (ap (λ r. r.id) follow.standard ∙ c.requires.held.0, follow.held (g.W.World.kinds c.args.world.now), follow.whole)
      (λ k apart. follow.apart k) (λ k apart. subst (IsApartFrom k) (sym c.requires.idle) tt) (λ tells. refl);
  told = λ tells inner offered.
      given_later _ _ c.follow-in-Ok-false.result _ _ _ (has_none (g.W.World.state c.args.world.now).outside (kept_in inner) (main_of c.args.self.now (g.W.World.state c.args.world.now)) _ c.args.self.now.next c.args.self.now.found (rests c.args.self.now (g.W.World.state c.args.world.now) c.requires.idle c.requires.live) c.in_default.not-NoneLeft (number_of_value c.args.argc.now)
      (ap number_of_value offered.count) (sym c.in-Ok-false.ensures.value ∙ ap (λ b. Ok b) c.in-Ok-false.field-0-test))
      (c.follow-in-Ok-false.ensures.told (g.W.World.state c.args.world.now) inner);
  steps = c.follow-in-Ok-false.ensures.steps (g.W.World.count c.args.world.now);
  passes = follow_passes (g.O.Operands.text c.args.operands.now) c.args.self.now.found c.follow-in-Ok-false.new.self.found c.args.self.now.next c.follow-in-Ok-false.new.self.next c.follow-in-Ok-false.result c.follow-in-Ok-false.ensures.next c.follow-in-Ok-false.ensures.follows;
  there = none_there (number_of_value c.args.argc.now) c.args.self.now.next c.follow-in-Ok-false.new.self.next (let same = c.follow-in-Ok-false.ensures.next in omega arith);
  more = follow_more (number_of_value c.args.argc.now) c.args.self.now.found c.follow-in-Ok-false.new.self.found c.follow-in-Ok-false.new.self.next c.follow-in-Ok-false.result
      (λ left. rw c.follow-in-Ok-false.ensures.next (sym c.in-Ok-false.ensures.value ∙ ap (λ b. Ok b) c.in-Ok-false.field-0-test)) c.follow-in-Ok-false.ensures.follows;
  standard = c.follow-in-Ok-false.ensures.standard;
  answers = follow_answers c.args.self.now.found c.follow-in-Ok-false.new.self.found c.follow-in-Ok-false.result c.follow-in-Ok-false.ensures.follows;
  idle = follow_idle c.args.self.now.found c.follow-in-Ok-false.new.self.found c.follow-in-Ok-false.new.self.reading c.follow-in-Ok-false.result c.follow-in-Ok-false.ensures.follows;
  finds = λ later outside inner offered.
      follow_finds outside (main_found c.args.self.now) c.follow-in-Ok-false.result c.follow-in-Ok-false.new.self inner later c.args.self.now.found c.follow-in-Ok-false.new.self.found c.follow-in-Ok-false.ensures.follows
      (λ finds. has_none outside (found_in finds inner) (main_found c.args.self.now) _ c.args.self.now.next c.args.self.now.found (rests_found c.args.self.now c.requires.idle c.requires.live) c.in_default.not-NoneLeft (number_of_value c.args.argc.now)
      (ap number_of_value offered.count) (sym c.in-Ok-false.ensures.value ∙ ap (λ b. Ok b) c.in-Ok-false.field-0-test))
      (c.follow-in-Ok-false.ensures.finds later outside inner);
}

pub returns-in-Err : goal.returns-in-Err
returns-in-Err g c = record {
  gives = none_still g.W.World.did c.args.world.now;
  moves = still c.requires.held (λ k h. h) (λ k h. h) (λ tells. refl);
  told = λ tells inner offered.
      let e = has_fault (g.W.World.state c.args.world.now).outside (kept_in inner) (main_of c.args.self.now (g.W.World.state c.args.world.now)) _ c.args.self.now.next c.args.self.now.found (rests c.args.self.now (g.W.World.state c.args.world.now) c.requires.idle c.requires.live) c.in_default.not-NoneLeft (number_of_value c.args.argc.now) c.in-Err.fault (ap number_of_value offered.count) (sym c.in-Err.ensures.value) in
      number_given _ c.in-Err.fault _ _ c.in-Err.ensures.own e e;
  steps = record {
    goes_on = tt;
    count = number_counts (Option MainNext) c.in-Err.fault (g.W.World.count c.args.world.now) c.in-Err.ensures.own;
    phase = number_phase (Option MainNext) c.in-Err.fault (main_phase c.args.self.now) c.in-Err.ensures.own
        (rw (c.requires.live, c.requires.idle) (λ is. cc is));
    ends = (c.requires.live, c.requires.live);
    rests = tt;
  };
  passes = number_passes (g.O.Operands.text c.args.operands.now) c.args.self.now.next c.args.self.now.found c.in-Err.fault c.in-Err.ensures.own;
  there = none_there (number_of_value c.args.argc.now) c.args.self.now.next c.args.self.now.next (omega arith);
  more = number_more (number_of_value c.args.argc.now) c.args.self.now.next c.args.self.now.found c.in-Err.fault c.in-Err.ensures.own (sym c.in-Err.ensures.value);
  standard = refl;
  answers = number_answers c.in-Err.fault c.in-Err.ensures.own;
  idle = tt;
  finds = λ later outside inner offered.
      number_found _ c.in-Err.fault _ c.in-Err.ensures.own
      (has_fault outside (found_in (found_by_operand (Err (IsFault c.in-Err.fault)) c.args.self.now.reading ++ later) inner) (main_found c.args.self.now) _ c.args.self.now.next c.args.self.now.found (rests_found c.args.self.now c.requires.idle c.requires.live) c.in_default.not-NoneLeft (number_of_value c.args.argc.now) c.in-Err.fault (ap number_of_value offered.count) (sym c.in-Err.ensures.value));
}

pub returns-in-NoneLeft-clause-finds : goal.returns-in-NoneLeft-clause-finds
returns-in-NoneLeft-clause-finds g c = λ later outside inner offered.
    follow_finds outside (main_found c.args.self.now) c.follow.result c.follow.new.self inner later c.args.self.now.found c.follow.new.self.found c.follow.ensures.follows
    (λ finds. none_left outside (found_in finds inner) (main_found c.args.self.now) _ c.args.self.now.next c.args.self.now.found (rests_found c.args.self.now c.requires.idle c.requires.live) c.in-NoneLeft.is)
    (c.follow.ensures.finds later outside inner)

pub returns-in-NoneLeft-clause-moves : goal.returns-in-NoneLeft-clause-moves
returns-in-NoneLeft-clause-moves g c =
    still (ap (λ r. r.id) c.follow.ensures.standard ∙ c.requires.held.0, c.follow.ensures.held (g.W.World.kinds c.args.world.now), c.follow.ensures.whole)
    (λ k apart. c.follow.ensures.apart k) (λ k apart. subst (IsApartFrom k) (sym c.requires.idle) tt) (λ tells. refl)

pub returns-in-NoneLeft-clause-steps : goal.returns-in-NoneLeft-clause-steps
returns-in-NoneLeft-clause-steps g c = c.follow.ensures.steps (g.W.World.count c.args.world.now)

pub returns-in-NoneLeft-clause-passes : goal.returns-in-NoneLeft-clause-passes
returns-in-NoneLeft-clause-passes g c =
    follow_passes (g.O.Operands.text c.args.operands.now) c.args.self.now.found c.follow.new.self.found c.args.self.now.next c.follow.new.self.next c.follow.result c.follow.ensures.next c.follow.ensures.follows

pub returns-in-NoneLeft-clause-there : goal.returns-in-NoneLeft-clause-there
returns-in-NoneLeft-clause-there g c = none_there (number_of_value c.args.argc.now) c.args.self.now.next c.follow.new.self.next (let same = c.follow.ensures.next in omega arith)

pub returns-in-NoneLeft-clause-more : goal.returns-in-NoneLeft-clause-more
returns-in-NoneLeft-clause-more g c =
    follow_more (number_of_value c.args.argc.now) c.args.self.now.found c.follow.new.self.found c.follow.new.self.next c.follow.result (λ left. absurd (left c.in-NoneLeft.is)) c.follow.ensures.follows

pub returns-in-NoneLeft-clause-answers : goal.returns-in-NoneLeft-clause-answers
returns-in-NoneLeft-clause-answers g c = follow_answers c.args.self.now.found c.follow.new.self.found c.follow.result c.follow.ensures.follows

pub returns-in-NoneLeft-clause-idle : goal.returns-in-NoneLeft-clause-idle
returns-in-NoneLeft-clause-idle g c = follow_idle c.args.self.now.found c.follow.new.self.found c.follow.new.self.reading c.follow.result c.follow.ensures.follows

pub returns-in-NoneLeft-clause-gives : goal.returns-in-NoneLeft-clause-gives
returns-in-NoneLeft-clause-gives g c = none_still g.W.World.did c.args.world.now
