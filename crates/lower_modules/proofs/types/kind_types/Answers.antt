use Rattle.std.proofs.Common.{◌+◌, ◌∷◌, [], ◌++◌, List, map, drop, sym, ap, ◌∙◌, append_assoc}
use Rattle.std.proofs.lemmas.List.{append-nil, at_drop_all, drop_more}
use Rattle.wasm_types.specs.declared.types.ValType.{ValType}
use Rattle.mid_program.specs.View.{view_kind}
use Rattle.mid_program.specs.declared.program.Kind.{Kind}
use Rattle.lower_model.specs.Places.{kind_type}
use Rattle.lower_modules.proofs.types.kind_types.Goals as goal

pub loop-kind-preserved : goal.loop-kind-preserved
loop-kind-preserved c =
    let kinds = c.args.kinds.now in
    let i = c.loop-kind.kind-index in
    let old = c.loop-kind.types.items in
    let rest = map kind_type (map view_kind (drop (i + 1) kinds)) in
    ap (λ (types : List ValType). types ++ rest) (c.in_ok-push.ensures.items ∙ ap (λ (t : ValType). old ++ (t ∷ [])) c.kind_type.ensures)
    ∙ append_assoc old _ rest
    ∙ sym (ap (λ (ks : List Kind). old ++ map kind_type (map view_kind ks)) (drop_more kinds i _ c.loop-kind-test.true))
    ∙ c.loop-kind.invariant

pub returns : goal.returns
returns c =
    let types = c.loop-kind.types.items in
    sym (append-nil types)
    ∙ sym (at_drop_all (λ (ks : List Kind). types ++ map kind_type (map view_kind ks)) c.args.kinds.now c.loop-kind.kind-index c.loop-kind-test.false)
    ∙ c.loop-kind.invariant
