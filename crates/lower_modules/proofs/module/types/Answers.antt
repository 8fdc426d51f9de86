use Rattle.std.proofs.Common.{◌++◌, [], map, refl, ap, sym}
use Rattle.std.proofs.lemmas.List.{append-nil}
use Rattle.wasm_types.specs.View.{signature_of}
use Rattle.host_imports.specs.Imports.{import_type}
use Rattle.lower_model.specs.Modules.{callee_type}
use Rattle.latched.proofs.LatchedLemmas.{leads_all, leads_first, leads_next}
use Rattle.lower_modules.specs.View.{view_functions}
use Rattle.lower_modules.proofs.module.types.Goals as goal

pub returns : goal.returns
returns c =
    let used = map import_type c.args.used.now in
    let own = map callee_type (view_functions c.args.functions.now) in
    leads_all signature_of {b = c.put_function_types.new.all} [] c.into_vec.result refl
    (leads_next signature_of own (sym (append-nil own))
    (leads_next signature_of (used ++ own) refl (leads_first signature_of c.new-all.result (used ++ own) (ap (map signature_of) c.new-all.ensures.items)) c.put_import_types.ensures)
    c.put_function_types.ensures)
    c.into_vec.ensures.all
