use Rattle.std.proofs.Common.{ℕ, List, Option, true, false, ◌∙◌, sym, ap, subst}
use Rattle.std.proofs.lemmas.Result.{err_from_is_err_and}
use Rattle.sem_primitives.specs.SharedState.{Inner}
use Rattle.host_bytes.specs.Outcomes.{IsStopOf}
use Rattle.host_texts.specs.NameForms.{Takes, left_of}
use Rattle.host_texts.proofs.Assigned.{made_by, made_here, made_there, not_made, stop_read, taken}
use Rattle.host_texts.proofs.making.make_left.Goals as goal

pub returns-then-branch-clause-ok : goal.returns-then-branch-clause-ok
returns-then-branch-clause-ok c inner =
    let new = c.take_next.new.self in
    let takes = subst (λ (next : Option (List ℕ × List ℕ)). Takes c.loop-name.names next new) c.in-Some.is c.in_ok-name.ensures in
    let made = made_by c.loop-name.texts c.assign.new.texts new c.assign.new.names c.in-Some.name c.in-Some.text _ _ _ true inner c.as_slice.ensures.value c.as_slice-in-Some.ensures.value c.if-branch.true (c.in_ok-assign.ensures.ok inner) in
    c.loop-name.invariant inner ∙ taken c.loop-name.texts c.loop-name.names new (c.in-Some.name, c.in-Some.text) inner takes ∙ made_there c.loop-name.texts c.assign.new.texts new c.assign.new.names (c.in-Some.name, c.in-Some.text) inner made

pub loop-name-preserved : goal.loop-name-preserved
loop-name-preserved c inner =
    let new = c.take_next.new.self in
    let takes = subst (λ (next : Option (List ℕ × List ℕ)). Takes c.loop-name.names next new) c.in-Some.is c.in_ok-name.ensures in
    let made = made_by c.loop-name.texts c.assign.new.texts new c.assign.new.names c.in-Some.name c.in-Some.text _ _ _ false inner c.as_slice.ensures.value c.as_slice-in-Some.ensures.value c.if-branch.false (c.in_ok-assign.ensures.ok inner) in
    c.loop-name.invariant inner ∙ taken c.loop-name.texts c.loop-name.names new (c.in-Some.name, c.in-Some.text) inner takes
    ∙ made_here c.loop-name.texts c.assign.new.texts new c.assign.new.names (c.in-Some.name, c.in-Some.text) inner made (ap left_of c.assign.ensures.rest)

pub returns-in_err-assign-clause-err : goal.returns-in_err-assign-clause-err
returns-in_err-assign-clause-err c =
    let new = c.take_next.new.self in
    let takes = subst (λ (next : Option (List ℕ × List ℕ)). Takes c.loop-name.names next new) c.in-Some.is c.in_ok-name.ensures in
    let p = err_from_is_err_and c.from_residual-in_err-assign.result c.from_residual-in_err-assign.ensures.1 in
    rw (p.1, p.2)
    (λ (inner : Inner). subst (λ r. IsStopOf r c.in_err-assign.field-0.0) (sym (c.loop-name.invariant inner ∙ taken c.loop-name.texts c.loop-name.names new (c.in-Some.name, c.in-Some.text) inner takes))
    (not_made c.loop-name.texts new (c.in-Some.name, c.in-Some.text) inner c.in_err-assign.field-0.0
    (stop_read c.in-Some.name c.in-Some.text _ _ _ c.in_err-assign.field-0.0 c.as_slice.ensures.value c.as_slice-in-Some.ensures.value (c.in_err-assign.ensures.err inner))))
