use Rattle.std.proofs.Common.{◌∷◌, [], refl, ap}
use Rattle.std.specs.Prelude.{codes, map}
use Rattle.wasm_types.specs.Syntax.{ExportForm}
use Rattle.wasm_types.specs.View.{view_export}
use Rattle.wasm_types.specs.declared.module.ExportDesc.TheVariants.{Func, Memory}
use Rattle.lower_model.specs.Modules.{exports_of}
use Rattle.latched.proofs.LatchedLemmas.{adds_one, leads_all, leads_first, leads_next}
use Rattle.lower_modules.proofs.sections.exports.Goals as goal

pub returns : goal.returns
returns c =
    let whole = exports_of c.args.main in
    let main : ExportForm = record { name = codes "main"; desc = Func c.args.main } in
    let memory : ExportForm = record { name = codes "memory"; desc = Memory 0 } in
    leads_all view_export {b = c.push_made-2.new.self} {all = whole} [] c.into_vec.result refl
    (leads_next view_export {b = c.push_made.new.self} (memory ∷ []) refl
    (leads_next view_export {b = c.new-all.result} whole refl
    (leads_first view_export c.new-all.result whole (ap (map view_export) c.new-all.ensures.items))
    (adds_one view_export c.export.result main c.push_made.ensures.added c.export.ensures))
    (adds_one view_export c.export-2.result memory c.push_made-2.ensures.added c.export-2.ensures))
    c.into_vec.ensures.all
