use Rattle.std.proofs.Common.{◌≡◌, ◌∙◌, Ok, ap, sym}
use Rattle.std.proofs.lemmas.Result.{IfOk-weaker}
use Rattle.ere_syntax.specs.Tree.{Tree}
use Rattle.sem_primitives.specs.FirstMatch.{first_match}
use Rattle.sem_primitives.specs.Eres.{expression_of}
use Rattle.sem_primitives.specs.SharedState.{Inner}
use Rattle.sem_primitives.specs.TextMeaning.{match_row, match_start, with_match}
use Rattle.sem_primitives.specs.Texts.{counted}
use Rattle.host_texts.proofs.Outcomes.{match_row_is}
use Rattle.host_texts.proofs.change.first_of.Goals as goal

pub returns-clause-ok : goal.returns-clause-ok
returns-clause-ok c =
    IfOk-weaker c.first.result (λ found. (t : Tree) × (expression_of c.in_ok-matcher.matcher.now ≡ Ok t) × (found ≡ first_match t c.as_slice.result.now 0))
    (λ found. (inner : Inner) → match_row c.args.value.now c.args.ere.now inner ≡ Ok (with_match found inner, counted (match_start found)))
    (λ found f inner. match_row_is c.args.value.now c.args.ere.now inner f.0 c.as_slice.result.now found (ap expression_of (sym c.in_ok-matcher.ensures.ok) ∙ f.1) (c.as_slice.ensures ∙ c.in_ok-text.ensures) f.2)
    c.first.ensures.found
