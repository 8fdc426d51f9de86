use Rattle.std.proofs.Common.{◌≡◌, ◌++◌, true, is_some, Some, None, Result, Ok, Err, refl, sym, ap, subst, ◌∙◌, rules}
use Rattle.std.specs.FinMap as map
use Rattle.awk_values.specs.Values.{text_of_value}
use Rattle.awk_values.specs.declared.fault.Fault.{Fault}
use Rattle.awk_values.specs.declared.fault.Fault.TheVariants.{TextLimit}
use Rattle.awk_values.specs.declared.value.Value.{Value as AnyValue}
use Rattle.awk_values.specs.declared.value.Value.TheVariants as value
use Rattle.sem_primitives.specs.ValueMeaning.{within_limit}
use Rattle.host_step.specs.declared.refusal.Refusal.TheVariants as why
use Rattle.host_values.specs.Calls.{Gives, reserved_handle}
use Rattle.host_values.specs.Evaluations.{left_by}
use Rattle.host_values.specs.ValueEvaluations.{value_reply}
use Rattle.host_values.specs.declared.reply.Reply.{Reply}
use Rattle.host_values.specs.declared.reply.Reply.TheVariants as reply
use Rattle.host_values.specs.declared.spent.Spent.TheVariants.{Two}
use Rattle.host_values.proofs.ReservedHandle.{reserved_removed}
use Rattle.host_values.proofs.SpentLemmas.{apart_some, same_some, two_held}
use Rattle.host_values.proofs.TwoHandles.{both_there, of_two, reserved_kept, spent_two, there_once_put, two_read}
use Rattle.host_values.proofs.evaluate.concat.Goals as goal

-- what is made of two values
abbrev both : AnyValue → AnyValue → Result Reply Fault
both v w = value_reply (within_limit (text_of_value v ++ text_of_value w))

pub returns-in-Err-clause-step : goal.returns-in-Err-clause-step
returns-in-Err-clause-step c = record {
  evaluated = Err (why.Trap c.in-Err.kind);
  evaluates = λ s. (two_read both c.args.handles.now s c.args.words.now ∙ ap (of_two both c.args.handles.now s) (sym c.in-Err.ensures), refl);
  carried = (refl, refl);
}

pub returns-then-not-fit_together-clause-step : goal.returns-then-not-fit_together-clause-step
returns-then-not-fit_together-clause-step c =
    let m = c.args.handles.now in
    let read = c.in-Ok.read in
    let gone : c.spend-then-not-fit_together.new.self ≡ map.remove (map.remove m read.0) read.2 = search rules in
    let long : within_limit (text_of_value read.1.now ++ text_of_value read.3.now) ≡ Err TextLimit = search rules in
    record {
      evaluated = Ok (record { spent = Two read.0 read.2; outcome = Err TextLimit });
      evaluates = λ s. two_read both m s c.args.words.now ∙ ap (of_two both m s) (sym c.in-Ok.ensures)
          ∙ ap (λ r. Ok (left_by (Two read.0 read.2) m, (s, value_reply r))) long;
      carried = (refl, gone);
    }

pub returns-then-not-fit_together-clause-reserved : goal.returns-then-not-fit_together-clause-reserved
returns-then-not-fit_together-clause-reserved c =
    let m = c.args.handles.now in
    let read = c.in-Ok.read in
    let gone : c.spend-then-not-fit_together.new.self ≡ map.remove (map.remove m read.0) read.2 = search rules in
    ap (λ x. map.get x reserved_handle) gone ∙ reserved_removed (map.remove m read.0) read.2 (reserved_removed m read.0 c.requires)

pub unreachable-requires : goal.unreachable-requires
unreachable-requires c =
    let m = c.args.handles.now in
    let read = c.in-Ok.read in
    let held = two_held m c.args.words.now (read.0, read.1.now, read.2, read.3.now) (sym c.in-Ok.ensures) in
    let none : map.get m read.2 ≡ None = search rules in
    apart_some _ (sym none ∙ (both_there m read.0 read.2 read.1.now read.3.now held.0 held.1).0)

pub replace-left-requires : goal.replace-left-requires
replace-left-requires c =
    let m = c.args.handles.now in
    let read = c.in-Ok.read in
    let held = two_held m c.args.words.now (read.0, read.1.now, read.2, read.3.now) (sym c.in-Ok.ensures) in
    let left : c.take.new.self ≡ map.remove m read.2 = search rules in
    let there : map.contains_key c.take.new.self read.0 ≡ true
    = ap (λ x. map.contains_key x read.0) left ∙ ap is_some (both_there m read.0 read.2 read.1.now read.3.now held.0 held.1).1 in
    search (rules, there)

pub returns-in_default-joined-clause-step : goal.returns-in_default-joined-clause-step
returns-in_default-joined-clause-step c =
    let m = c.args.handles.now in
    let read = c.in-Ok.read in
    let gone : c.spend-in_default-joined.new.self ≡ map.remove (map.insert (map.remove m read.2) read.0 value.Uninit) read.0 = search rules in
    let fits : within_limit (text_of_value read.1.now ++ text_of_value read.3.now) ≡ Ok (value.Text (text_of_value read.1.now ++ text_of_value read.3.now)) = search rules in
    record {
      evaluated = Ok (record { spent = Two read.0 read.2; outcome = Ok (reply.Value (value.Text (text_of_value read.1.now ++ text_of_value read.3.now))) });
      evaluates = λ s. two_read both m s c.args.words.now ∙ ap (of_two both m s) (sym c.in-Ok.ensures)
          ∙ ap (λ r. Ok (left_by (Two read.0 read.2) m, (s, value_reply r))) fits;
      carried = gone ∙ spent_two m read.0 read.2 value.Uninit;
    }

pub returns-in_default-joined-clause-reserved : goal.returns-in_default-joined-clause-reserved
returns-in_default-joined-clause-reserved c =
    let m = c.args.handles.now in
    let read = c.in-Ok.read in
    let gone : c.spend-in_default-joined.new.self ≡ map.remove (map.insert (map.remove m read.2) read.0 value.Uninit) read.0 = search rules in
    ap (λ x. map.get x reserved_handle) (gone ∙ spent_two m read.0 read.2 value.Uninit)
    ∙ reserved_removed (map.remove m read.0) read.2 (reserved_removed m read.0 c.requires)

pub give_back-requires-clause-there : goal.give_back-requires-clause-there
give_back-requires-clause-there c =
    let m = c.args.handles.now in
    let read = c.in-Ok.read in
    let kept : c.joined.new.handles ≡ map.insert (map.remove m read.2) read.0 value.Uninit = search rules in
    let there : map.contains_key c.joined.new.handles read.0 ≡ true
    = ap (λ x. map.contains_key x read.0) kept ∙ there_once_put (map.remove m read.2) read.0 value.Uninit in
    search (rules, there)

pub give_back-requires-clause-reserved : goal.give_back-requires-clause-reserved
give_back-requires-clause-reserved c =
    let m = c.args.handles.now in
    let read = c.in-Ok.read in
    let held = two_held m c.args.words.now (read.0, read.1.now, read.2, read.3.now) (sym c.in-Ok.ensures) in
    let kept : c.joined.new.handles ≡ map.insert (map.remove m read.2) read.0 value.Uninit = search rules in
    ap (λ x. map.get x reserved_handle) kept
    ∙ reserved_kept (map.remove m read.2) read.0 value.Uninit (ap is_some (both_there m read.0 read.2 read.1.now read.3.now held.0 held.1).1) (reserved_removed m read.2 c.requires)

pub returns-clause-step : goal.returns-clause-step
returns-clause-step c =
    let m = c.args.handles.now in
    let read = c.in-Ok.read in
    let held = two_held m c.args.words.now (read.0, read.1.now, read.2, read.3.now) (sym c.in-Ok.ensures) in
    let there = both_there m read.0 read.2 read.1.now read.3.now held.0 held.1 in
    let fits : within_limit (text_of_value read.1.now ++ text_of_value read.3.now) ≡ Ok (value.Text (text_of_value read.1.now ++ text_of_value read.3.now)) = search rules in
    let left : c.take.new.self ≡ map.remove m read.2 = search rules in
    let second : map.get m read.2 ≡ Some c.in-Some.right = search rules in
    let first : map.get c.take.new.self read.0 ≡ Some c.replace-left.result = search rules in
    let right = same_some _ _ (sym second ∙ there.0) in
    let front = same_some _ _ (sym first ∙ ap (λ x. map.get x read.0) left ∙ there.1) in
    let kept : c.joined.new.handles ≡ map.insert (map.remove m read.2) read.0 value.Uninit = search rules in
    let made : c.in-Ok-joined.text ≡ text_of_value c.replace-left.result ++ text_of_value c.in-Some.right = search rules in
    let gives : Gives (reply.Value (value.Text c.in-Ok-joined.text)) (map.remove c.joined.new.handles read.0) c.give_back.result c.give_back.new.handles = search rules in
    record {
      evaluated = Ok (record { spent = Two read.0 read.2; outcome = Ok (reply.Value (value.Text c.in-Ok-joined.text)) });
      evaluates = λ s. two_read both m s c.args.words.now ∙ ap (of_two both m s) (sym c.in-Ok.ensures)
          ∙ ap (λ r. Ok (left_by (Two read.0 read.2) m, (s, value_reply r))) fits
          ∙ ap (λ t. Ok (left_by (Two read.0 read.2) m, (s, Ok (reply.Value (value.Text t)))))
          (sym (made ∙ ap (λ v. text_of_value v ++ text_of_value c.in-Some.right) front ∙ ap (λ v. text_of_value read.1.now ++ text_of_value v) right));
      carried = subst (λ x. Gives (reply.Value (value.Text c.in-Ok-joined.text)) x c.give_back.result c.give_back.new.handles)
          (ap (λ x. map.remove x read.0) kept ∙ spent_two m read.0 read.2 value.Uninit) gives;
    }
