use Rattle.std.specs.Prelude.{◌≡◌, IfSome, ◌≤◌, length}
use Rattle.std.proofs.lemmas.Result.{IfOk-weaker}
use Rattle.ere_syntax.specs.FirstMatch.{IsFirstMatch}
use Rattle.sem_primitives.specs.FirstMatch.{first_match}
use Rattle.host_format.proofs.Firsts.{computed_first, first_inside}
use Rattle.host_format.proofs.eres.first.Goals as goal

pub returns-clause-found : goal.returns-clause-found
returns-clause-found c = λ t a.
    IfOk-weaker c.next_match.result (IsFirstMatch t c.args.text.now c.args.from) (λ found. found ≡ first_match t c.args.text.now c.args.from)
    (λ found f. computed_first t c.args.text.now c.args.from found f) (c.next_match.ensures.found t a)

pub returns-clause-inside : goal.returns-clause-inside
returns-clause-inside c =
    let t = c.requires.auto.0 in
    IfOk-weaker c.next_match.result (IsFirstMatch t c.args.text.now c.args.from) (λ found. IfSome found (λ m. (c.args.from ≤ m.0) × (m.0 ≤ m.1) × (m.1 ≤ length c.args.text.now)))
    (λ found f. first_inside t c.args.text.now c.args.from found f) (c.next_match.ensures.found t c.requires.auto.1)
