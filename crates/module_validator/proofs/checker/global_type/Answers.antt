use Rattle.std.proofs.Common.{List, ap, ◌∙◌, map}
use Rattle.std.specs.Prelude.{slice_get}
use Rattle.wasm_types.specs.declared.module.Global.{Global}
use Rattle.wasm_types.specs.declared.types.GlobalType.{GlobalType}
use Rattle.module_validator.proofs.Fields.{global_types_are}
use Rattle.module_validator.proofs.checker.global_type.Goals as goal

pub returns : goal.returns
returns c =
    c.global_type_in.ensures
    ∙ ap (λ (gs : List Global). slice_get (map (λ g. g.ty) gs) c.args.n) c.deref.ensures.value
    ∙ ap (λ (types : List GlobalType). slice_get types c.args.n) (global_types_are c.args.whole.now)
