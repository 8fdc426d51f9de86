use Rattle.std.proofs.Common.{◌≡◌, ℕ, suc, ◌+◌, ◌<◌, ◌∷◌, List, length, map, drop, get_or, refl, ap, ◌∙◌, arith}
use Rattle.std.proofs.lemmas.List.{drop_all, drop_more}
use Rattle.wasm_types.specs.Syntax.{ImportForm}
use Rattle.wasm_types.specs.View.{view_import}
use Rattle.host_imports.specs.Imports.{module_name}
use Rattle.host_imports.specs.Names.{import_name}
use Rattle.host_imports.specs.declared.import.Import.{Import}
use Rattle.lower_model.specs.Modules.{imported_from}
use Rattle.latched.proofs.LatchedLemmas.{adds_one, leads_all, leads_first, leads_next}
use Rattle.lower_modules.proofs.sections.import_forms.Goals as goal

next : (used : List Import) (i ty : ℕ) (d : Import) → i < length used
    → imported_from ty (drop i used) ≡ (record { from = module_name; name = import_name (get_or used i d); ty = ty }) ∷ imported_from (ty + 1) (drop (i + 1) used)
next used i ty d lt =
    let one_more : suc ty ≡ ty + 1 = omega arith in
    let form : ImportForm = record { from = module_name; name = import_name (get_or used i d); ty = ty } in
    ap (imported_from ty) (drop_more used i d lt) ∙ ap (λ (n : ℕ). form ∷ imported_from n (drop (i + 1) used)) one_more

pub loop-import-init : goal.loop-import-init
loop-import-init c = record { forms = leads_first view_import c.new-all.result (imported_from 0 c.args.used.now) (ap (map view_import) c.new-all.ensures.items); ty = refl }

pub loop-import-preserved : goal.loop-import-preserved
loop-import-preserved c =
    let used = c.args.used.now in
    let i = c.loop-import.import-index in
    let ty = c.loop-import.ty in
    record {
      forms = leads_next view_import (imported_from ty (drop i used)) (next used i ty _ c.loop-import-test.true) c.loop-import.invariant.forms
          (adds_one view_import c.import_form.result _ c.push_made.ensures.added c.import_form.ensures);
      ty = ap (λ (n : ℕ). n + 1) c.loop-import.invariant.ty;
    }

pub returns : goal.returns
returns c =
    let used = c.args.used.now in
    let i = c.loop-import.import-index in
    let forms : List Import → List ImportForm = imported_from c.loop-import.ty in
    leads_all view_import {b = c.loop-import.all} (forms (drop i used)) c.into_vec.result (ap forms (drop_all i used c.loop-import-test.false)) c.loop-import.invariant.forms c.into_vec.ensures.all
