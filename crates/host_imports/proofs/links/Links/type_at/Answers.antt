use Rattle.std.proofs.Common.{◌∙◌, ap, List}
use Rattle.std.specs.Prelude.{slice_get}
use Rattle.wasm_types.specs.declared.types.FuncType.{FuncType}
use Rattle.host_imports.specs.Links.{signature_if}
use Rattle.host_imports.proofs.Numbers.{type_of_number}
use Rattle.host_imports.proofs.links.Links.type_at.Goals as goal

pub returns : goal.returns
returns c =
    ap signature_if (c.type_in.ensures ∙ ap (λ (types : List FuncType). slice_get types c.args.number) c.deref.ensures.value)
    ∙ type_of_number c.self.inside.types.items c.args.number c.self.invariant
