use Rattle.std.proofs.Common.{rules, ◌≡◌, ◌∙◌, ap, IfOk, Some, None}
use Rattle.std.proofs.lemmas.Result.{IfOk-weaker}
use Rattle.command_line.specs.Request.{texts}
use Rattle.command_line.proofs.RequestLemmas.{listed}
use Rattle.command_line.proofs.texts.Goals as goal

-- src/lib.rt:175:1
pub returns-in-Some : goal.returns-in-Some
returns-in-Some c =
    let same : IfOk c.to_vec.result (λ found. found.items ≡ c.in-Some.values.now) = search rules in
    IfOk-weaker c.to_vec.result _ _ (λ found h. ap texts h ∙ listed c.args.matches.now c.args.id.now (Some (texts c.in-Some.values.now)) c.in-Some.ensures) same

-- src/lib.rt:175:1
pub returns-in-None : goal.returns-in-None
returns-in-None c = ap texts c.new.ensures.items ∙ listed c.args.matches.now c.args.id.now None c.in-None.ensures
