use Rattle.std.proofs.Common.{◌≡◌, ◌≤◌, ◌+◌, None, length, arith, rules, sym, true, false, ◌∙◌}
use Rattle.sem_primitives.specs.TextMeaning.{is_empty_at}
use Rattle.host_format.proofs.Places.{next_after, next_past, next_skipped, next_some}
use Rattle.host_format.proofs.substitution.next_place.Goals as goal

pub returns-then-not-is_repeated-clause-found : goal.returns-then-not-is_repeated-clause-found
returns-then-not-is_repeated-clause-found c = λ t a.
    let place = c.in-Some.place in
    let f : is_empty_at c.args.last place ≡ false = search rules in
    let start : c.args.at ≤ place.0 = search rules in
    let order : place.0 ≤ place.1 = search rules in
    next_some t c.args.text.now c.args.at c.args.last place c.if-at-text.false start order (sym (c.in_ok-place.ensures.found t a) ∙ c.in-Some.is) f

pub returns-then-place-text-clause-found : goal.returns-then-place-text-clause-found
returns-then-place-text-clause-found c = λ t a.
    let place = c.in-Some.place in
    let f : is_empty_at c.args.last place ≡ true = search rules in
    let start : c.args.at ≤ place.0 = search rules in
    next_skipped t c.args.text.now c.args.at c.args.last place None start (omega (arith, c.if-place-text.true)) (sym (c.in_ok-place.ensures.found t a) ∙ c.in-Some.is) f
    (next_past t c.args.text.now (place.0 + 1) c.args.last (omega (arith, c.if-place-text.true)))

pub returns-clause-found : goal.returns-clause-found
returns-clause-found c = λ t a.
    let place = c.in-Some.place in
    let f : is_empty_at c.args.last place ≡ true = search rules in
    let start : c.args.at ≤ place.0 = search rules in
    let more : place.0 + 1 ≤ length c.args.text.now = search rules in
    next_skipped t c.args.text.now c.args.at c.args.last place c.in_ok-found.found start (omega (arith, more)) (sym (c.in_ok-place.ensures.found t a) ∙ c.in-Some.is) f
    (next_after t c.args.text.now place c.args.last c.in_ok-found.found more f (c.in_ok-found.ensures.found t (c.first.ensures.kept t a)) c.in_ok-found.ensures.inside)

pub returns-clause-kept : goal.returns-clause-kept
returns-clause-kept c = λ t a. c.in_ok-found.ensures.kept t (c.first.ensures.kept t a)

pub returns-clause-auto : goal.returns-clause-auto
returns-clause-auto c = c.in_ok-found.ensures.auto

pub returns-in_err-place-clause-kept : goal.returns-in_err-place-clause-kept
returns-in_err-place-clause-kept c = λ t a. c.first.ensures.kept t a

pub returns-in_default-clause-kept : goal.returns-in_default-clause-kept
returns-in_default-clause-kept c = λ t a. c.first.ensures.kept t a

pub returns-then-not-is_repeated-clause-kept : goal.returns-then-not-is_repeated-clause-kept
returns-then-not-is_repeated-clause-kept c = λ t a. c.first.ensures.kept t a

pub returns-then-place-text-clause-kept : goal.returns-then-place-text-clause-kept
returns-then-place-text-clause-kept c = λ t a. c.first.ensures.kept t a

pub returns-in_err-found-clause-kept : goal.returns-in_err-found-clause-kept
returns-in_err-found-clause-kept c = λ t a. c.first-2.ensures.kept t (c.first.ensures.kept t a)
