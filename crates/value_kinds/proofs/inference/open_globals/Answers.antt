use Rattle.std.proofs.Common.{List, map, ◌++◌, append-nil, refl, sym, ap, ◌∙◌, arith}
use Rattle.std.proofs.lemmas.List.{drop_all}
use Rattle.mid_program.specs.Sorted.{kinds_of}
use Rattle.mid_program.specs.View.{view_declared, view_kind}
use Rattle.mid_program.specs.declared.program.Declared.{Declared}
use Rattle.value_kinds.specs.Lanes.{opened}
use Rattle.value_kinds.proofs.Views.{pushed_next}
use Rattle.value_kinds.proofs.inference.open_globals.Goals as goal

pub loop-global-preserved : goal.loop-global-preserved
loop-global-preserved c =
    pushed_next view_kind (λ (d : Declared). opened (view_kind d.kind)) (λ xs. map opened (kinds_of (map view_declared xs))) (λ x xs. refl) c.args.globals.now c.loop-global.global-index c.global-item.result c.loop-global.kinds.items c.push.new.self.items c.opened.result
    (omega arith) c.in_ok-push.ensures.items (c.opened.ensures ∙ ap (λ (d : Declared). opened (view_kind d.kind)) c.global-item.is) ∙ c.loop-global.invariant

pub returns : goal.returns
returns c =
    let made = map view_kind c.loop-global.kinds.items in
    sym (append-nil made) ∙ ap (λ (xs : List Declared). made ++ map opened (kinds_of (map view_declared xs))) (sym (drop_all c.loop-global.global-index c.args.globals.now (omega arith))) ∙ c.loop-global.invariant
