use Rattle.std.proofs.Common.{◌+◌, List, ◌∷◌, drop, map, ap, sym, ◌∙◌, arith}
use Rattle.std.proofs.lemmas.List.{drop_all}
use Rattle.awk_resolve.specs.ViewKinds.{view_name_kinds}
use Rattle.awk_resolve.specs.declared.function_names.NameKind.{NameKind}
use Rattle.mid_program.specs.Mid.{Kind}
use Rattle.mid_program.specs.Translation.{kind_of}
use Rattle.mid_program.specs.View.{view_kind}
use Rattle.mid_code.proofs.BodyParts.{all_pushed, pushed}
use Rattle.mid_code.proofs.NameTables.{drop_any}
use Rattle.mid_code.proofs.translate.kinds_of.Goals as goal

pub loop-name-preserved : goal.loop-name-preserved
loop-name-preserved c =
    let names = c.args.names.now in
    let i = c.loop-name.name-index in
    let rest = map kind_of (view_name_kinds (drop (i + 1) names)) in
    pushed view_kind _ _ _ rest _ _ c.in_ok-push.ensures.items (ap (λ (k : Kind). k ∷ rest) c.kind_of.ensures
    ∙ sym (ap (λ (ns : List NameKind). map kind_of (view_name_kinds ns)) (drop_any names i _ c.loop-name-test.true))) c.loop-name.invariant

pub returns : goal.returns
returns c =
    all_pushed _ _ _ (ap (λ (ns : List NameKind). map kind_of (view_name_kinds ns)) (drop_all c.loop-name.name-index c.args.names.now (omega arith))) c.loop-name.invariant
