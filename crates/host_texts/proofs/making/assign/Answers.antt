use Rattle.std.proofs.Common.{rules, ◌≡◌, sym, subst}
use Rattle.std.proofs.lemmas.Result.{IfErr-weaker}
use Rattle.awk_text.specs.Escapes.{unescaped}
use Rattle.host_bytes.specs.Outcomes.{IsStopOf}
use Rattle.host_texts.specs.NameForms.{with_all}
use Rattle.host_texts.proofs.Assigned.{assigned_is}
use Rattle.host_texts.proofs.making.assign.Goals as goal

pub returns-clause-err : goal.returns-clause-err
returns-clause-err c =
    let same : c.in_ok-value.value ≡ unescaped c.args.text.now = search rules in
    let none = c.takes_none.ensures in
    IfErr-weaker c.assign_by.result _ _
    (λ stop h inner. subst (λ r. IsStopOf r stop) (sym (assigned_is c.args.name.now c.args.text.now c.in_ok-value.value c.of_name.result (search rules) c.of_name.ensures same (with_all c.args.texts.now c.args.names.now inner))) (h inner))
    c.assign_by.ensures.err
