use Rattle.std.proofs.Common.{◌≡◌, drop}
use Rattle.wasm_types.specs.View.{view_import}
use Rattle.lower_model.specs.Modules.{imported_from}
use Rattle.latched.specs.Latched.{Leads}
use Rattle.lower_modules.proofs.sections.import_forms.Given as goal

abbrev pub invariant-loop-import : goal.invariant-loop-import
invariant-loop-import l = record {
  forms : Leads view_import l.all (imported_from l.ty (drop l.import-index l.used)) (imported_from 0 l.used);
  ty : l.ty ≡ l.import-index;
}
