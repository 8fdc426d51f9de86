use Rattle.std.proofs.Common.{map, drop, ap}
use Rattle.std.proofs.lemmas.List.{drop_all, drop_more}
use Rattle.wasm_types.specs.View.{signature_of}
use Rattle.host_imports.specs.Imports.{import_type}
use Rattle.latched.proofs.LatchedLemmas.{adding_all, adding_first, adding_next, adds_one}
use Rattle.lower_modules.proofs.types.put_import_types.Goals as goal

pub loop-import-init : goal.loop-import-init
loop-import-init c = adding_first signature_of c.args.all.now (map import_type c.args.used.now)

pub loop-import-preserved : goal.loop-import-preserved
loop-import-preserved c =
    let used = c.args.used.now in
    let i = c.loop-import.import-index in
    adding_next signature_of (map import_type (drop i used)) (ap (map import_type) (drop_more used i _ c.loop-import-test.true)) c.loop-import.invariant
    (adds_one signature_of c.type_of.result _ c.push_made.ensures.added c.type_of.ensures)

pub returns : goal.returns
returns c =
    let used = c.args.used.now in
    let i = c.loop-import.import-index in
    adding_all signature_of (map import_type (drop i used)) (ap (map import_type) (drop_all i used c.loop-import-test.false)) c.loop-import.invariant
