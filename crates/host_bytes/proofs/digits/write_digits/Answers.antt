use Rattle.std.proofs.Common.{◌∷◌, ◌-◌, ◌/◌, ap, sym, ◌∙◌, arith, drop}
use Rattle.std.proofs.Math.ListN.{drop_of_length-le, length-set}
use Rattle.host_bytes.proofs.Numerals.{left_all, left_digits, left_last, left_none, left_step, written}
use Rattle.host_bytes.proofs.digits.write_digits.Goals as goal

pub loop-at-init : goal.loop-at-init
loop-at-init c = record {
  within = omega arith;
  room = c.told-room;
  left = left_all c.args.base c.args.upper c.args.number (drop 64 c.args.room.now) (drop_of_length-le c.args.room.now {i = 64} (omega (arith, c.told-room)));
}

pub loop-at-preserved : goal.loop-at-preserved
loop-at-preserved c =
    let l = c.loop-at in
    let a = c.args in
    record {
      within = (let h = l.invariant.within in omega (arith, h));
      room = length-set l.room (l.at - 1) c.digit.result ∙ l.invariant.room;
      left = ap (left_digits (l.at - 1) a.base a.upper (l.rest / a.base)) (written l.room l.at c.digit.result c.loop-at-test.true (omega (arith, l.invariant.within, l.invariant.room)) ∙ ap (λ d. d ∷ drop l.at l.room) c.digit.ensures)
          ∙ (sym (left_step l.at a.base a.upper l.rest (drop l.at l.room) c.loop-at-test.true c.if-rest-eq0.false) ∙ l.invariant.left);
    }

pub returns-then-rest-eq0 : goal.returns-then-rest-eq0
returns-then-rest-eq0 c =
    let l = c.loop-at in
    let a = c.args in
    record {
      within = (let h = l.invariant.within in omega (arith, h));
      written = written l.room l.at c.digit.result c.loop-at-test.true (omega (arith, l.invariant.within, l.invariant.room))
          ∙ (ap (λ d. d ∷ drop l.at l.room) c.digit.ensures
          ∙ (sym (left_last l.at a.base a.upper l.rest (drop l.at l.room) c.loop-at-test.true c.if-rest-eq0.true) ∙ l.invariant.left));
    }

pub returns-after-loop-at-clause-written : goal.returns-after-loop-at-clause-written
returns-after-loop-at-clause-written c =
    let l = c.loop-at in
    let a = c.args in
    sym (left_none l.at a.base a.upper l.rest (drop l.at l.room) (omega (arith, c.loop-at-test.false))) ∙ l.invariant.left
