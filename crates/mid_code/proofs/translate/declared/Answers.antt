use Rattle.std.proofs.Common.{◌+◌, List, ◌∷◌, drop, map, ap, sym, ◌∙◌, arith}
use Rattle.std.proofs.lemmas.List.{drop_all}
use Rattle.awk_resolve.specs.ViewKinds.{view_name_kinds}
use Rattle.awk_resolve.specs.declared.function_names.NameKind.{NameKind}
use Rattle.mid_program.specs.Mid.{Declared}
use Rattle.mid_program.specs.Translation.{declared_code}
use Rattle.mid_program.specs.View.{view_declared}
use Rattle.mid_code.proofs.BodyParts.{all_pushed, pushed}
use Rattle.mid_code.proofs.CodeParts.{made_then}
use Rattle.mid_code.proofs.NameTables.{drop_any}
use Rattle.mid_code.proofs.translate.declared.Goals as goal

pub loop-name-preserved : goal.loop-name-preserved
loop-name-preserved c =
    let names = c.args.names.now in
    let i = c.loop-name.name-index in
    let rest = map declared_code (view_name_kinds (drop (i + 1) names)) in
    made_then c.announced.result c.in_ok-push_made.ensures.items c.announced.ensures
    (λ d more is. pushed view_declared _ _ d rest _ _ more (ap (λ (k : Declared). k ∷ rest) is
    ∙ sym (ap (λ (ns : List NameKind). map declared_code (view_name_kinds ns)) (drop_any names i _ c.loop-name-test.true))) c.loop-name.invariant)

pub returns : goal.returns
returns c =
    all_pushed _ _ _ (ap (λ (ns : List NameKind). map declared_code (view_name_kinds ns)) (drop_all c.loop-name.name-index c.args.names.now (omega arith))) c.loop-name.invariant
