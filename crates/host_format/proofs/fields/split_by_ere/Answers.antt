use Rattle.std.proofs.Common.{arith, length}
use Rattle.host_format.proofs.Opens.{all_cut, cut_behind, match_inside, none_cut}
use Rattle.host_format.proofs.fields.split_by_ere.Goals as goal

pub loop-ends-init : goal.loop-ends-init
loop-ends-init c = record {
  inside = omega arith;
  auto = c.requires.auto;
  ends = c.new-ends.ensures c.args.text.now;
  kept = λ t a. a;
  cut = λ t a. none_cut t c.args.newlines c.args.text.now c.args.spans.now.items c.requires.none;
}

pub loop-ends-preserved : goal.loop-ends-preserved
loop-ends-preserved c =
    let i = c.loop-ends.invariant in
    let text = c.args.text.now in
    record {
      inside = (match_inside c.loop-ends.from (length text) c.in-Some.start c.in-Some.end c.in_ok-start.field-0 c.in-Some.is c.in_ok-start.ensures.inside).2;
      auto = c.first_not_empty.ensures.auto;
      ends = c.in_ok-start.ensures.ends;
      kept = λ t a. c.first_not_empty.ensures.kept t (i.kept t a);
      cut = λ t a. cut_behind t c.args.newlines text c.loop-ends.from c.in_ok-line.line c.in-Some.start c.in-Some.end c.loop-ends.spans.items c.push_lines.new.spans.items c.push.new.spans.items c.in_ok-start.field-0 c.in-Some.is c.in_ok-start.ensures.inside
          (c.in_ok-start.ensures.found t (i.kept t a)) (record { within = c.in_ok-line.ensures.from; rest = c.in_ok-line.ensures.rest; lines = c.in_ok-line.ensures.lines }) (c.in_ok-push.ensures text) (i.cut t a);
    }

pub returns-clause-ok : goal.returns-clause-ok
returns-clause-ok c = λ t a.
    let i = c.loop-ends.invariant in
    let text = c.args.text.now in
    all_cut t c.args.newlines text c.loop-ends.from c.in_ok-line-2.line c.loop-ends.spans.items c.push_lines-2.new.spans.items c.push-2.new.spans.items c.in_ok-start.field-0 c.in_default.is
    (c.in_ok-start.ensures.found t (i.kept t a)) (record { within = c.in_ok-line-2.ensures.from; rest = c.in_ok-line-2.ensures.rest; lines = c.in_ok-line-2.ensures.lines }) (c.in_ok-push-2.ensures text) (i.cut t a)

pub returns-in_err-start-clause-kept : goal.returns-in_err-start-clause-kept
returns-in_err-start-clause-kept c = λ t a. c.first_not_empty.ensures.kept t (c.loop-ends.invariant.kept t a)

pub returns-in_err-line-clause-kept : goal.returns-in_err-line-clause-kept
returns-in_err-line-clause-kept c = λ t a. c.first_not_empty.ensures.kept t (c.loop-ends.invariant.kept t a)

pub returns-in_err-push-clause-kept : goal.returns-in_err-push-clause-kept
returns-in_err-push-clause-kept c = λ t a. c.first_not_empty.ensures.kept t (c.loop-ends.invariant.kept t a)

pub returns-in_err-line-2-clause-kept : goal.returns-in_err-line-2-clause-kept
returns-in_err-line-2-clause-kept c = λ t a. c.first_not_empty.ensures.kept t (c.loop-ends.invariant.kept t a)

pub returns-in_err-push-2-clause-kept : goal.returns-in_err-push-2-clause-kept
returns-in_err-push-2-clause-kept c = λ t a. c.first_not_empty.ensures.kept t (c.loop-ends.invariant.kept t a)

pub returns-clause-kept : goal.returns-clause-kept
returns-clause-kept c = λ t a. c.first_not_empty.ensures.kept t (c.loop-ends.invariant.kept t a)
