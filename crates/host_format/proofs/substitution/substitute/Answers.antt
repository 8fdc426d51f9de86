use Rattle.std.proofs.Common.{ℕ, List, Ok, Option, None, ap, refl, subst, sym, ◌∙◌}
use Rattle.std.proofs.lemmas.Result.{err_from_is_err_and}
use Rattle.ere_match.specs.Ends.{AreDeadEnds}
use Rattle.host_format.specs.Substitutions.{IsNextPlace, IsReplaced}
use Rattle.host_bytes.specs.declared.growing.Growing.{Growing}
use Rattle.host_format.proofs.Left.{outcome_made, outcome_stopped}
use Rattle.host_format.proofs.substitution.substitute.Goals as goal

pub next_place-requires-clause-ends : goal.next_place-requires-clause-ends
next_place-requires-clause-ends c = c.new-ends.ensures c.as_slice.result.now

pub put_replaced-requires-clause-ends : goal.put_replaced-requires-clause-ends
put_replaced-requires-clause-ends c = subst (λ (xs : List ℕ). AreDeadEnds c.next_place.new.auto xs c.next_place.new.ends) (c.as_slice.ensures.value ∙ sym c.as_slice-2.ensures.value) c.in_ok-first.ensures.ends

pub returns-in_default-clause-ok : goal.returns-in_default-clause-ok
returns-in_default-clause-ok c = λ t a.
    let there = subst (λ (xs : List ℕ). IsNextPlace t xs 0 None c.in_ok-first.field-0) c.as_slice.ensures.value (c.in_ok-first.ensures.found t a) in
    c.unchanged.ensures.ok t c.args.by.now c.args.all (subst (λ (x : Option (ℕ × ℕ)). IsNextPlace t c.args.text.now 0 None x) c.in_default.is there)

pub returns-in_default-clause-err : goal.returns-in_default-clause-err
returns-in_default-clause-err c = λ t a.
    let there = subst (λ (xs : List ℕ). IsNextPlace t xs 0 None c.in_ok-first.field-0) c.as_slice.ensures.value (c.in_ok-first.ensures.found t a) in
    c.unchanged.ensures.err t c.args.by.now c.args.all (subst (λ (x : Option (ℕ × ℕ)). IsNextPlace t c.args.text.now 0 None x) c.in_default.is there)

pub returns-in_err-all-clause-err : goal.returns-in_err-all-clause-err
returns-in_err-all-clause-err c = λ t a.
    let p = err_from_is_err_and c.from_residual-in_err-all.result c.from_residual-in_err-all.ensures.1 in
    let same = c.as_slice.ensures.value ∙ sym c.as_slice-2.ensures.value in
    let there = subst (λ (xs : List ℕ). IsNextPlace t xs 0 None c.in_ok-first.field-0) same (c.in_ok-first.ensures.found t a) in
    let next = subst (λ (x : Option (ℕ × ℕ)). IsNextPlace t c.as_slice-2.result.now 0 None x) c.in-Some.is there in
    let start : Growing = record { bytes = c.in_ok-bytes.bytes; stop = None } in
    let new = c.put_replaced.new.out in
    let made = subst (λ (xs : List ℕ). IsReplaced t c.args.by.now xs c.args.all c.in_ok-count.count start new) c.as_slice-2.ensures.value (c.in_ok-count.ensures.ok t (c.next_place.ensures.kept t a) next) in
    rw (p.1, p.2) (outcome_stopped t c.args.by.now c.args.text.now c.args.all c.in_ok-count.count start new _ made refl c.in_ok-bytes.ensures.items c.in_err-all.ensures)

pub returns-clause-ok : goal.returns-clause-ok
returns-clause-ok c = λ t a.
    let same = c.as_slice.ensures.value ∙ sym c.as_slice-2.ensures.value in
    let there = subst (λ (xs : List ℕ). IsNextPlace t xs 0 None c.in_ok-first.field-0) same (c.in_ok-first.ensures.found t a) in
    let next = subst (λ (x : Option (ℕ × ℕ)). IsNextPlace t c.as_slice-2.result.now 0 None x) c.in-Some.is there in
    let start : Growing = record { bytes = c.in_ok-bytes.bytes; stop = None } in
    let new = c.put_replaced.new.out in
    let made = subst (λ (xs : List ℕ). IsReplaced t c.args.by.now xs c.args.all c.in_ok-count.count start new) c.as_slice-2.ensures.value (c.in_ok-count.ensures.ok t (c.next_place.ensures.kept t a) next) in
    outcome_made t c.args.by.now c.args.text.now c.args.all c.in_ok-count.count start new made refl c.in_ok-bytes.ensures.items c.in_ok-all.ensures.0
    ∙ ap (λ (xs : List ℕ). Ok (c.in_ok-count.count, xs)) (sym (c.in_ok-text.ensures ∙ c.in_ok-all.ensures.1))

pub returns-in_default-clause-kept : goal.returns-in_default-clause-kept
returns-in_default-clause-kept c = λ t a. c.next_place.ensures.kept t a

pub returns-in_err-bytes-clause-kept : goal.returns-in_err-bytes-clause-kept
returns-in_err-bytes-clause-kept c = λ t a. c.next_place.ensures.kept t a

pub returns-in_err-count-clause-kept : goal.returns-in_err-count-clause-kept
returns-in_err-count-clause-kept c = λ t a. c.put_replaced.ensures.kept t (c.next_place.ensures.kept t a)

pub returns-in_err-all-clause-kept : goal.returns-in_err-all-clause-kept
returns-in_err-all-clause-kept c = λ t a. c.put_replaced.ensures.kept t (c.next_place.ensures.kept t a)

pub returns-in_err-text-clause-kept : goal.returns-in_err-text-clause-kept
returns-in_err-text-clause-kept c = λ t a. c.put_replaced.ensures.kept t (c.next_place.ensures.kept t a)

pub returns-clause-kept : goal.returns-clause-kept
returns-clause-kept c = λ t a. c.put_replaced.ensures.kept t (c.next_place.ensures.kept t a)
