use Rattle.std.proofs.Common.{◌+◌, ◌≤◌, ℕ, Option, Some, None, arith, length, rules, subst, sym}
use Rattle.host_format.specs.Substitutions.{IsNextPlace}
use Rattle.host_format.proofs.Left.{IsLeft, left_end, left_start, left_step}
use Rattle.host_format.proofs.Places.{behind_end, behind_high, behind_more}
use Rattle.host_format.proofs.substitution.put_all.Goals as goal

pub loop-found-init : goal.loop-found-init
loop-found-init c = record {
  inside = omega arith;
  order = omega arith;
  few = omega arith;
  high = omega arith;
  auto = c.requires.auto;
  ends = c.requires.ends;
  kept = λ t a. a;
  place = (omega arith, c.requires.order, c.requires.inside);
  left = λ t a f. (None, f, left_start t c.args.by.now c.args.text.now c.args.out.now);
}

pub loop-found-preserved : goal.loop-found-preserved
loop-found-preserved c =
    let i = c.loop-found.invariant in
    let place = c.in-Some.place in
    let start : c.loop-found.at ≤ place.0 = search rules in
    let order : place.0 ≤ place.1 = search rules in
    let inside : place.1 ≤ length c.args.text.now = search rules in
    let more = behind_more place order in
    let end = behind_end place in
    let at = c.behind-at.ensures in
    record {
      inside = inside;
      order = omega (arith, at, end);
      few = (let few = i.few in omega (arith, few, start, more, at));
      high = (let high = behind_high place in omega (arith, at, high, inside));
      auto = c.next_place.ensures.auto;
      ends = c.in_ok-found.ensures.ends;
      kept = λ t a. c.next_place.ensures.kept t (i.kept t a);
      place = c.in_ok-found.ensures.inside;
      left = λ t a f.
          let old = i.left t a f in
          let next = subst (λ (x : Option (ℕ × ℕ)). IsNextPlace t c.args.text.now c.loop-found.at old.0 x) c.in-Some.is old.1 in (
            Some place.1,
            c.in_ok-found.ensures.found t (i.kept t a),
            subst (λ (n : ℕ). IsLeft t c.args.by.now c.args.text.now c.args.out.now c.put_place.new.out place.1 n (Some place.1) (c.loop-found.count + 1)) (sym at)
                (left_step t c.args.by.now c.args.text.now c.args.out.now c.loop-found.out c.put_place.new.out c.loop-found.from c.loop-found.at old.0 c.loop-found.count place old.2 next c.put_place.ensures),
          );
    }

pub returns-in_err-found-clause-kept : goal.returns-in_err-found-clause-kept
returns-in_err-found-clause-kept c = λ t a. c.next_place.ensures.kept t (c.loop-found.invariant.kept t a)

pub returns-clause-ok : goal.returns-clause-ok
returns-clause-ok c = λ t a f.
    let i = c.loop-found.invariant.left t a f in
    let next = subst (λ (x : Option (ℕ × ℕ)). IsNextPlace t c.args.text.now c.loop-found.at i.0 x) c.in_default.is i.1 in
    left_end t c.args.by.now c.args.text.now c.args.out.now c.loop-found.out c.put.new.self c.loop-found.from c.loop-found.at i.0 c.loop-found.count i.2 next c.put.ensures

pub returns-clause-kept : goal.returns-clause-kept
returns-clause-kept c = c.loop-found.invariant.kept
