use Rattle.std.proofs.Common.{◌∙◌, Ok, SFits, ap, refl, rules, subst, sym}
use Rattle.std.specs.Int.{w32}
use Rattle.host_texts.proofs.Taken.{one_taken}
use Rattle.std.proofs.lemmas.Result.{err_from_is_err_and}
use Rattle.std.specs.FinMap as map
use Rattle.awk_values.specs.declared.value.Value.{Value as AnyValue}
use Rattle.host_step.specs.HostState.{HostState}
use Rattle.host_values.specs.Evaluations.{Evaluation, NoTrap, Values}
use Rattle.host_values.specs.declared.reply.Reply.TheVariants as reply
use Rattle.std.proofs.Common.{map as mapped}
use Rattle.awk_values.specs.declared.value.Value.TheVariants as value
use Rattle.sem_primitives.specs.TextMeaning.{lower}
use Rattle.sem_primitives.specs.Rows.{lower_row}
use Rattle.host_texts.proofs.evaluate.lower_case.Goals as goal

abbrev comes : HostState → AnyValue → Values → Evaluation
comes s v left = Ok (left, (s, Ok (reply.Value (lower_row v))))

pub returns-in_err-handle : goal.returns-in_err-handle
returns-in_err-handle c =
    let p = err_from_is_err_and c.from_residual.result c.from_residual.ensures.1 in
    rw (p.1, p.2) (λ s. (c.in_err-handle.ensures (comes s), refl))

pub returns-in_err-text : goal.returns-in_err-text
returns-in_err-text c =
    let p = err_from_is_err_and c.from_residual-in_err-text.result c.from_residual-in_err-text.ensures.1 in
    rw (p.1, p.2) (λ s. subst NoTrap (sym (c.in_ok-handle.ensures (comes s))) tt)

pub returns-in-Ok : goal.returns-in-Ok
returns-in-Ok c = λ s.
    let f : SFits w32 c.in_ok-handle.handle = search rules in
    c.in_ok-handle.ensures (comes s)
    ∙ ap (λ text. Ok (map.remove c.args.handles.now c.in_ok-handle.handle, (s, Ok (reply.Value (value.Text text))))) (sym (c.in-Ok.ensures.ok ∙ ap (mapped lower) (c.as_slice.ensures ∙ c.in_ok-text.ensures)))
    ∙ one_taken c.args.handles.now c.in_ok-handle.handle (s, Ok (reply.Value (value.Text c.in-Ok.text))) f

pub returns : goal.returns
returns c = λ s. subst NoTrap (sym (c.in_ok-handle.ensures (comes s))) tt
