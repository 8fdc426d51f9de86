use Rattle.std.proofs.Common.{◌∙◌, ◌+◌, List, ℕ, arith, refl, subst, sym}
use Rattle.host_streams.specs.Mains.{GivesOperand, IsApartFrom}
use Rattle.host_streams.specs.MainMoves.{TakesOperand}
use Rattle.host_streams.proofs.MainFound.{skip_finds}
use Rattle.host_streams.proofs.MainSteps.{no_bytes, skip_given}
use Rattle.host_streams.proofs.Moves.{short_operand, short_step, still}
use Rattle.host_streams.proofs.Passed.{one_skipped}
use Rattle.host_streams.proofs.Refused.{is_stop}
use Rattle.host_streams.proofs.Given.{none_still}
use Rattle.host_streams.proofs.main_input.MainInput.take.Goals as goal

pub returns-then-is_empty : goal.returns-then-is_empty
returns-then-is_empty g c =
    let old = c.args.self.now in
    let text = g.O.Operands.text c.args.operands.now old.next in
    let no = c.if-is_empty.true in
    let empty = no_bytes c.as_slice.result.now c.in_ok-text.text text c.is_empty.result c.as_slice.ensures.value c.in_ok-text.ensures c.is_empty.ensures no in
    record {
      gives = none_still g.W.World.did c.args.world.now;
      moves = still c.requires.held (λ k h. h) (λ k h. h) (λ tells. refl);
      told = λ tells inner. skip_given old (g.W.World.state c.args.world.now) text inner c.requires.idle c.requires.live c.requires.left empty;
      steps = record {
        goes_on = omega arith;
        count = refl;
        phase = (λ is. cc is, rw (c.requires.live, c.requires.idle) (λ is. cc is));
        ends = (c.requires.live, c.requires.live);
        rests = tt;
      };
      operand = record {
        passes = λ texts e. (one_skipped texts old.next (e ∙ empty), refl);
        standard = refl;
        one = (omega arith, omega arith);
        answers = tt;
        idle = c.requires.idle;
        named = c.requires.left;
        more = λ count. tt;
        finds = skip_finds old (record old { next = old.next + 1 }) text c.requires.idle c.requires.live c.requires.left empty refl;
      };
    }

pub returns-in-None : goal.returns-in-None
returns-in-None g c =
    let w = g.W.World in
    let opened = c.open.ensures in
    let same = c.in_ok-text.ensures in
    record {
      gives = c.open.ensures.gives;
      moves = opened.moves;
      told = λ tells inner.
          subst (λ (text : List ℕ). GivesOperand text inner c.args.self.now (w.state c.args.world.now) c.open.result c.open.new.self (w.state c.open.new.world))
          same (opened.told tells inner);
      steps = opened.steps;
      operand = subst (λ (text : List ℕ). TakesOperand text c.args.self.now c.open.result c.open.new.self) same opened.operand;
    }

pub returns-in-Some : goal.returns-in-Some
returns-in-Some g c =
    let w = g.W.World in
    let assigned = c.assign.ensures in
    let same = c.as_slice-in-Some.ensures.value ∙ c.in_ok-text.ensures in
    record {
      gives = none_still g.W.World.did c.args.world.now;
      moves = still (rw (assigned.operand.standard, assigned.reading) c.requires.held) (λ k apart. subst (IsApartFrom k) (sym assigned.reading) apart)
          (λ k apart. subst (IsApartFrom k) assigned.reading apart) (λ tells. refl);
      told = λ tells inner.
          let before = w.state c.args.world.now in
          subst (λ (text : List ℕ). GivesOperand text inner c.args.self.now before c.assign.result c.assign.new.self before)
          same (assigned.told before inner);
      steps = assigned.steps (w.count c.args.world.now);
      operand = subst (λ (text : List ℕ). TakesOperand text c.args.self.now c.assign.result c.assign.new.self) same assigned.operand;
    }

pub returns-in_err-text : goal.returns-in_err-text
returns-in_err-text g c = rw (is_stop c.from_residual.result c.from_residual.ensures.1) (record {
  gives = none_still g.W.World.did c.args.world.now;
  moves = still c.requires.held (λ k h. h) (λ k h. h) (λ tells. refl);
  told = λ tells inner. refl;
  steps = short_step c.args.self.now c.requires.live c.requires.idle (g.W.World.count c.args.world.now);
  operand = short_operand c.args.self.now c.requires.left (g.O.Operands.text c.args.operands.now c.args.self.now.next);
})
