use Rattle.std.proofs.Common.{List, map, ◌++◌, append-nil, refl, sym, ap, ◌∙◌, arith}
use Rattle.std.proofs.lemmas.List.{drop_all}
use Rattle.mid_program.specs.View.{view_kind}
use Rattle.mid_program.specs.declared.program.Kind.{Kind}
use Rattle.value_kinds.specs.Lanes.{opened}
use Rattle.value_kinds.proofs.Views.{pushed_next}
use Rattle.value_kinds.proofs.inference.open_parameters.Goals as goal

pub loop-kind-preserved : goal.loop-kind-preserved
loop-kind-preserved c =
    pushed_next view_kind (λ (k : Kind). opened (view_kind k)) (λ xs. map opened (map view_kind xs)) (λ x xs. refl) c.args.parameters.now c.loop-kind.kind-index _ c.loop-kind.kinds.items c.push.new.self.items c.opened.result
    (omega arith) c.in_ok-push.ensures.items c.opened.ensures ∙ c.loop-kind.invariant

pub returns : goal.returns
returns c =
    let made = map view_kind c.loop-kind.kinds.items in
    sym (append-nil made) ∙ ap (λ (xs : List Kind). made ++ map opened (map view_kind xs)) (sym (drop_all c.loop-kind.kind-index c.args.parameters.now (omega arith))) ∙ c.loop-kind.invariant
