use Rattle.std.proofs.Common.{List, ap, ◌∙◌}
use Rattle.wasm_types.specs.declared.module.Export.{Export}
use Rattle.wasm_types.specs.View.{view_export, view_module}
use Rattle.wasm_model.specs.Links.{first_some, main_at}
use Rattle.wasm_model.proofs.Linking.{first_some_map}
use Rattle.wasm_machine.proofs.link.main_of.Goals as goal

pub returns : goal.returns
returns c =
    let m = view_module c.args.whole.now in
    c.main_among.ensures ∙ (ap (λ (es : List Export). first_some (λ e. main_at m (view_export e)) es) c.deref.ensures.value ∙ first_some_map (main_at m) view_export c.args.whole.now.exports.items)
