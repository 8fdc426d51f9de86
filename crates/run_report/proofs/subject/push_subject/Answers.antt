use Rattle.std.proofs.Common.{◌≡◌, ◌++◌, OnOk, ℕ, List, codes, sym, subst}
use Rattle.run_report.specs.SubjectTexts.{cut_text, subject_text}
use Rattle.run_report.specs.declared.subject.Subject.{Subject}
use Rattle.run_report.proofs.subject.push_subject.Goals as goal

pub returns-in-Expression : goal.returns-in-Expression
returns-in-Expression c =
    let p = c.push_worded-in-Expression in
    let old = c.args.text.now.items in
    subst (λ (s : Subject). OnOk p.result (p.new.text.items ≡ old ++ subject_text s)) (sym c.in-Expression.is)
    (subst (λ (bytes : List ℕ). OnOk p.result (p.new.text.items ≡ old ++ (codes "expression " ++ cut_text bytes))) c.as_slice-in-Expression.ensures.value p.ensures)
