use Rattle.std.proofs.Common.{Ok, pos, sym, ap, ◌∙◌}
use Rattle.awk_values.specs.declared.value.Value.TheVariants.{Num}
use Rattle.sem_primitives.specs.SharedState.{with_special}
use Rattle.sem_primitives.specs.TextMeaning.{match_start}
use Rattle.sem_primitives.specs.Texts.{counted}
use Rattle.sem_primitives.specs.declared.constants.Special.TheVariants.{Rlength, Rstart}
use Rattle.host_texts.specs.States.{with_texts}
use Rattle.host_texts.proofs.change.matched.Goals as goal

pub returns-clause-ok : goal.returns-clause-ok
returns-clause-ok c = λ inner.
    let old = with_texts c.args.texts.now inner in
    c.in_ok-found.ensures.ok old
    ∙ ap (λ v. Ok (with_special Rlength v (with_special Rstart (Num (pos (match_start c.in_ok-found.found))) old), counted (match_start c.in_ok-found.found))) (sym c.in_ok-start.ensures.1)
    ∙ ap (λ v. Ok (with_special Rlength c.in_ok-start.length (with_special Rstart v old), counted (match_start c.in_ok-found.found))) (sym c.in_ok-start.ensures.0)
    ∙ ap (λ i. Ok (i, counted (match_start c.in_ok-found.found))) (sym (c.keep_match.ensures inner))
    ∙ ap (λ n. Ok (with_texts c.keep_match.new.texts inner, counted n)) (sym c.start_of.ensures)
