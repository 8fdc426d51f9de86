use Rattle.std.proofs.Common.{◌∙◌, ℤ, Ok, SFits, ap, of_z, refl, rules, sym, to_z}
use Rattle.std.specs.Int.{w32, w64}
use Rattle.std.proofs.lemmas.Int.{to_z-of_z}
use Rattle.host_texts.proofs.Taken.{one_taken}
use Rattle.std.proofs.lemmas.Result.{err_from_is_err_and}
use Rattle.std.specs.FinMap as map
use Rattle.awk_values.specs.declared.value.Value.{Value as AnyValue}
use Rattle.host_step.specs.HostState.{HostState}
use Rattle.host_values.specs.Evaluations.{Evaluation, Values}
use Rattle.host_texts.specs.Evaluations.{number_reply}
use Rattle.host_values.specs.declared.reply.Reply.TheVariants as reply
use Rattle.sem_primitives.specs.Texts.{counted}
use Rattle.sem_primitives.specs.Rows.{length_row}
use Rattle.host_texts.proofs.evaluate.length.Goals as goal

abbrev comes : HostState → AnyValue → Values → Evaluation
comes s v left = Ok (left, (s, Ok (number_reply (length_row v))))

pub returns-in_err-handle : goal.returns-in_err-handle
returns-in_err-handle c =
    let p = err_from_is_err_and c.from_residual.result c.from_residual.ensures.1 in
    rw (p.1, p.2) (λ s. (c.in_err-handle.ensures (comes s), refl))

pub returns : goal.returns
returns c = λ s.
    let f : SFits w32 c.in_ok-handle.handle = search rules in
    let n : SFits w64 c.counted.result = search rules in
    c.in_ok-handle.ensures (comes s)
    ∙ ap (λ n. Ok (map.remove c.args.handles.now c.in_ok-handle.handle, (s, Ok (reply.Number n)))) (ap (λ k. (counted k).number) (sym c.text_len.ensures) ∙ sym c.counted.ensures)
    ∙ one_taken c.args.handles.now c.in_ok-handle.handle (s, Ok (reply.Number c.counted.result)) f
    ∙ ap (λ (x : ℤ). Ok (map.remove c.args.handles.now (to_z w32 (of_z w32 c.in_ok-handle.handle)), (s, Ok (reply.Number x)))) (sym (to_z-of_z w64 c.counted.result n))
