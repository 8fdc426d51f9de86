use Rattle.std.proofs.Common.{◌∙◌, ℤ, Ok, SFits, ap, of_z, refl, rules, subst, sym, to_z}
use Rattle.std.specs.Int.{w32, w64}
use Rattle.std.proofs.lemmas.Int.{to_z-of_z}
use Rattle.host_texts.proofs.Taken.{two_taken}
use Rattle.std.proofs.lemmas.Result.{err_from_is_err_and}
use Rattle.std.specs.FinMap as map
use Rattle.awk_values.specs.declared.value.Value.{Value as AnyValue}
use Rattle.host_step.specs.HostState.{HostState}
use Rattle.host_values.specs.Evaluations.{Evaluation, NoTrap, Values}
use Rattle.host_texts.specs.Evaluations.{number_reply}
use Rattle.host_values.specs.declared.reply.Reply.TheVariants as reply
use Rattle.sem_primitives.specs.Texts.{counted}
use Rattle.sem_primitives.specs.TextMeaning.{place_of}
use Rattle.sem_primitives.specs.Rows.{index_row}
use Rattle.host_texts.proofs.evaluate.index.Goals as goal

abbrev comes : HostState → AnyValue → AnyValue → Values → Evaluation
comes s v w left = Ok (left, (s, Ok (number_reply (index_row v w))))

pub returns-in_err-first : goal.returns-in_err-first
returns-in_err-first c =
    let p = err_from_is_err_and c.from_residual.result c.from_residual.ensures.1 in
    rw (p.1, p.2) (λ s. (c.in_err-first.ensures (comes s), refl))

pub returns-in_err-text : goal.returns-in_err-text
returns-in_err-text c =
    let p = err_from_is_err_and c.from_residual-in_err-text.result c.from_residual-in_err-text.ensures.1 in
    rw (p.1, p.2) (λ s. subst NoTrap (sym (c.in_ok-first.ensures (comes s))) tt)

pub returns-in_err-wanted : goal.returns-in_err-wanted
returns-in_err-wanted c =
    let p = err_from_is_err_and c.from_residual-in_err-wanted.result c.from_residual-in_err-wanted.ensures.1 in
    rw (p.1, p.2) (λ s. subst NoTrap (sym (c.in_ok-first.ensures (comes s))) tt)

pub returns : goal.returns
returns c = λ s.
    let f : SFits w32 c.in_ok-first.first = search rules in
    let g : SFits w32 c.in_ok-first.second = search rules in
    let n : SFits w64 c.counted.result = search rules in
    let place = c.index_of.ensures ∙ ap (λ t. place_of t c.as_slice-2.result.now) (c.as_slice.ensures ∙ c.in_ok-text.ensures) ∙ ap (place_of _) (c.as_slice-2.ensures ∙ c.in_ok-wanted.ensures) in
    c.in_ok-first.ensures (comes s)
    ∙ ap (λ n. Ok (map.remove (map.remove c.args.handles.now c.in_ok-first.first) c.in_ok-first.second, (s, Ok (reply.Number n)))) (ap (λ k. (counted k).number) (sym place) ∙ sym c.counted.ensures)
    ∙ two_taken c.args.handles.now c.in_ok-first.first c.in_ok-first.second (s, Ok (reply.Number c.counted.result)) f g
    ∙ ap (λ (x : ℤ). Ok (map.remove (map.remove c.args.handles.now (to_z w32 (of_z w32 c.in_ok-first.first))) (to_z w32 (of_z w32 c.in_ok-first.second)), (s, Ok (reply.Number x)))) (sym (to_z-of_z w64 c.counted.result n))
