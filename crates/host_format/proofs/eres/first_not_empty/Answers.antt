use Rattle.std.proofs.Common.{arith, length}
use Rattle.host_format.proofs.Firsts.{full_in, next_in, none_at, none_behind, none_yet, skipped_at, taken_at}
use Rattle.host_format.proofs.eres.first_not_empty.Goals as goal

pub returns-then-start-end : goal.returns-then-start-end
returns-then-start-end c =
    let i = c.loop-start.invariant in
    let found = c.in_ok-start.field-0 in
    record {
      found = λ t a. taken_at t c.args.text.now c.args.from c.loop-start.at found i.high (c.in_ok-start.ensures.found t (i.kept t a)) (i.none t a) c.in-Some.start c.in-Some.end c.in-Some.is c.in_ok-start.ensures.inside i.low c.if-start-end.true;
      inside = full_in c.args.from c.loop-start.at (length c.args.text.now) c.in-Some.start c.in-Some.end found c.in-Some.is c.in_ok-start.ensures.inside i.low c.if-start-end.true;
      kept = λ t a. c.first.ensures.kept t (i.kept t a);
      auto = c.first.ensures.auto;
      ends = c.in_ok-start.ensures.ends;
    }

pub returns-then-start-text : goal.returns-then-start-text
returns-then-start-text c =
    let i = c.loop-start.invariant in
    record {
      found = λ t a. none_behind t c.args.text.now c.args.from c.loop-start.at c.in_ok-start.field-0 i.high (c.in_ok-start.ensures.found t (i.kept t a)) (i.none t a) c.in-Some.start c.in-Some.end c.in-Some.is c.if-start-end.false c.if-start-text.true;
      inside = tt;
      kept = λ t a. c.first.ensures.kept t (i.kept t a);
      auto = c.first.ensures.auto;
      ends = c.in_ok-start.ensures.ends;
    }

pub loop-start-preserved : goal.loop-start-preserved
loop-start-preserved c =
    let i = c.loop-start.invariant in
    let found = c.in_ok-start.field-0 in
    let next = next_in c.args.from c.loop-start.at (length c.args.text.now) c.in-Some.start c.in-Some.end found c.in-Some.is c.in_ok-start.ensures.inside i.low c.if-start-text.false in
    record {
      low = next.0;
      high = next.1;
      auto = c.first.ensures.auto;
      ends = c.in_ok-start.ensures.ends;
      kept = λ t a. c.first.ensures.kept t (i.kept t a);
      none = λ t a. skipped_at t c.args.text.now c.args.from c.loop-start.at found i.high (c.in_ok-start.ensures.found t (i.kept t a)) (i.none t a) c.in-Some.start c.in-Some.end c.in-Some.is c.if-start-end.false;
    }

pub returns : goal.returns
returns c =
    let i = c.loop-start.invariant in
    record {
      found = λ t a. none_at t c.args.text.now c.args.from c.loop-start.at c.in_ok-start.field-0 i.high (c.in_ok-start.ensures.found t (i.kept t a)) (i.none t a) c.in_default.is;
      inside = tt;
      kept = λ t a. c.first.ensures.kept t (i.kept t a);
      auto = c.first.ensures.auto;
      ends = c.in_ok-start.ensures.ends;
    }

pub loop-start-init : goal.loop-start-init
loop-start-init c = record {
  low = omega arith;
  high = c.requires.within;
  auto = c.requires.auto;
  ends = c.requires.ends;
  kept = λ t a. a;
  none = λ t a. none_yet t c.args.text.now c.args.from;
}
