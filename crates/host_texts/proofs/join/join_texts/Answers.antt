use Rattle.std.proofs.Common.{◌≡◌, ◌∙◌, of_z, to_z, Ok, Err, Result, SFits, ap, refl, rules, subst, sym}
use Rattle.std.specs.Int.{w32}
use Rattle.host_texts.proofs.Taken.{two_taken}
use Rattle.std.proofs.lemmas.Result.{err_from_is_err_and}
use Rattle.std.specs.FinMap as map
use Rattle.awk_values.specs.declared.fault.Fault.{Fault}
use Rattle.awk_values.specs.declared.value.Value.{Value as AnyValue}
use Rattle.host_step.specs.HostState.{HostState}
use Rattle.host_values.specs.Evaluations.{Evaluation, NoTrap, Values}
use Rattle.host_texts.specs.Evaluations.{join_evaluation, replied}
use Rattle.host_texts.specs.States.{holding}
use Rattle.host_values.specs.declared.reply.Reply.{Reply}
use Rattle.host_values.specs.declared.reply.Reply.TheVariants as reply
use Rattle.sem_primitives.specs.Rows.{join_row}
use Rattle.host_texts.proofs.join.join_texts.Goals as goal

abbrev comes : HostState → AnyValue → AnyValue → Values → Evaluation
comes s v w left = Ok (left, (s, replied reply.Value (join_row v w s.shared.inner)))

pub returns-in_err-first-clause-came : goal.returns-in_err-first-clause-came
returns-in_err-first-clause-came c =
    let p = err_from_is_err_and c.from_residual.result c.from_residual.ensures.1 in
    rw (p.1, p.2) (λ s. (
      subst (λ (m : Values). join_evaluation m (holding c.args.texts.now s) c.args.words.now ≡ Err c.in_err-first.field-0.0) c.spare_room-spare.ensures
          (c.in_err-first.ensures (comes (holding c.args.texts.now s))),
      refl,
    ))

pub returns-in_err-join_outcome-clause-came : goal.returns-in_err-join_outcome-clause-came
returns-in_err-join_outcome-clause-came c =
    let p = err_from_is_err_and c.from_residual-in_err-join_outcome.result c.from_residual-in_err-join_outcome.ensures.1 in
    rw (p.1, p.2) (λ s. subst (λ (m : Values). NoTrap (join_evaluation m (holding c.args.texts.now s) c.args.words.now)) c.spare_room-spare.ensures
    (subst NoTrap (sym (c.in_ok-first.ensures (comes (holding c.args.texts.now s)))) tt))

pub returns-clause-came : goal.returns-clause-came
returns-clause-came c = λ s.
    let f : SFits w32 c.in_ok-first.first = search rules in
    let g : SFits w32 c.in_ok-first.second = search rules in
    let m = c.spare_room-spare.new.self in
    subst (λ (x : Values). join_evaluation x (holding c.args.texts.now s) c.args.words.now
    ≡ Ok (map.remove (map.remove x (to_z w32 (of_z w32 c.in_ok-first.first))) (to_z w32 (of_z w32 c.in_ok-first.second)), (holding c.args.texts.now s, c.in_ok-join_outcome.field-0))) c.spare_room-spare.ensures
    (c.in_ok-first.ensures (comes (holding c.args.texts.now s))
    ∙ ap (λ (o : Result Reply Fault). Ok (map.remove (map.remove m c.in_ok-first.first) c.in_ok-first.second, ((holding c.args.texts.now s), o))) c.in_ok-join_outcome.ensures
    ∙ two_taken m c.in_ok-first.first c.in_ok-first.second (holding c.args.texts.now s, c.in_ok-join_outcome.field-0) f g)
