use Rattle.std.proofs.Common.{◌≡◌, Ok, Option, IfErr, IfOk, List, ℕ, sym, ap, subst, ◌∙◌}
use Rattle.std.proofs.lemmas.Result.{IfErr-weaker, IfOk-weaker}
use Rattle.awk_values.specs.declared.value.Value.TheVariants.{StrNum}
use Rattle.sem_primitives.specs.Assignments.{assigned_by, assigned_global, declared, made_here}
use Rattle.sem_primitives.specs.FieldMeaning.{set_special}
use Rattle.sem_primitives.specs.SharedState.{Inner}
use Rattle.sem_primitives.specs.declared.constants.Special.{Special}
use Rattle.host_bytes.specs.Outcomes.{IsStopOf}
use Rattle.host_texts.specs.States.{with_texts}
use Rattle.host_texts.specs.NameForms.{announced, with_all, with_names}
use Rattle.host_texts.proofs.Assigned.{stop_made}
use Rattle.host_texts.proofs.SubstitutionStays.{substituted_stays}
use Rattle.host_texts.proofs.making.assign_by.Goals as goal

pub returns-in_default-clause-ok : goal.returns-in_default-clause-ok
returns-in_default-clause-ok c =
    let texts = c.args.texts.now in
    let names = c.args.names.now in
    subst (λ (s : Option Special). IfOk c.keep.result (λ pending. (inner : Inner) → assigned_by s c.args.name.now c.args.text (with_all texts names inner) ≡ Ok (with_all texts c.keep.new.self inner, pending))) (sym c.in_default.is)
    (IfOk-weaker c.keep.result _ _ (λ kept h inner. h (with_texts texts inner))
    (subst (λ (name : List ℕ). IfOk c.keep.result (λ kept. (inner : Inner) → assigned_global (declared 0 name (announced names)) c.args.text (with_names names inner) ≡ Ok (with_names c.keep.new.self inner, kept))) c.in_ok-name.ensures c.keep.ensures.ok))

pub returns-in_default-clause-err : goal.returns-in_default-clause-err
returns-in_default-clause-err c =
    let texts = c.args.texts.now in
    let names = c.args.names.now in
    subst (λ (s : Option Special). IfErr c.keep.result (λ stop. (inner : Inner) → IsStopOf (assigned_by s c.args.name.now c.args.text (with_all texts names inner)) stop)) (sym c.in_default.is)
    (IfErr-weaker c.keep.result _ _ (λ stop h inner. h (with_texts texts inner))
    (subst (λ (name : List ℕ). IfErr c.keep.result (λ stop. (inner : Inner) → IsStopOf (assigned_global (declared 0 name (announced names)) c.args.text (with_names names inner)) stop)) c.in_ok-name.ensures c.keep.ensures.err))

pub returns-in-Ok-clause-ok : goal.returns-in-Ok-clause-ok
returns-in-Ok-clause-ok c inner =
    let all = with_all c.args.texts.now c.args.names.now inner in
    ap (λ (s : Option Special). assigned_by s c.args.name.now c.args.text all) c.in-Some.is ∙ ap made_here (c.in-Ok.ensures.ok (with_names c.args.names.now inner))

pub returns-in-Ok-clause-substituted : goal.returns-in-Ok-clause-substituted
returns-in-Ok-clause-substituted c = substituted_stays c.args.texts.now c.put_special.new.texts c.in-Some.special (StrNum c.args.text) c.in-Ok.ensures.ok

pub returns-clause-err : goal.returns-clause-err
returns-clause-err c inner =
    let all = with_all c.args.texts.now c.args.names.now inner in
    subst (λ (s : Option Special). IsStopOf (assigned_by s c.args.name.now c.args.text all) c.in-Err.stop) (sym c.in-Some.is)
    (stop_made (set_special c.in-Some.special (StrNum c.args.text) all) c.in-Err.stop (c.in-Err.ensures.err (with_names c.args.names.now inner)))
