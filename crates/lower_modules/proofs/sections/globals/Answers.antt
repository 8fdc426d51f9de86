use Rattle.std.proofs.Common.{◌+◌, ◌∷◌, List, map, drop, refl, ap}
use Rattle.std.proofs.lemmas.List.{drop_all}
use Rattle.awk_resolve.proofs.Names.{drop_at}
use Rattle.wasm_types.specs.Syntax.{GlobalForm}
use Rattle.wasm_types.specs.View.{view_global}
use Rattle.mid_program.specs.View.{view_declared, view_mid}
use Rattle.mid_program.specs.Sorted.{kinds_of}
use Rattle.mid_program.specs.declared.program.Declared.{Declared}
use Rattle.lower_model.specs.Modules.{globals_of, long_global, name_globals, word_global}
use Rattle.lower_model.specs.Small.{least, minus_one}
use Rattle.latched.proofs.LatchedLemmas.{adds_one, leads_all, leads_first, leads_next}
use Rattle.lower_modules.proofs.sections.globals.Goals as goal

abbrev globals_from : List Declared → List GlobalForm
globals_from ds = name_globals (kinds_of (map view_declared ds))

pub loop-name-init : goal.loop-name-init
loop-name-init c =
    let whole = globals_of (view_mid c.args.mid.now) in
    leads_next view_global whole refl (leads_first view_global c.new-all.result whole (ap (map view_global) c.new-all.ensures.items)) c.put_first_globals.ensures

pub loop-name-preserved : goal.loop-name-preserved
loop-name-preserved c =
    let ds = c.args.mid.now.globals.items in
    let i = c.loop-name._name-index in
    let rest = globals_from (drop (i + 1) ds) in
    let same = c.deref-name-items.ensures.value in
    leads_next view_global {b = c.push_made.new.self} (long_global least ∷ rest) refl
    (leads_next view_global {b = c.loop-name.all} (globals_from (drop i ds))
    (ap globals_from (drop_at ds i c._name-item.result (rw same at c.loop-name-test.true) (rw same at c._name-item.is)))
    c.loop-name.invariant (adds_one view_global c.word.result (word_global minus_one) c.push_made.ensures.added c.word.ensures))
    (adds_one view_global c.long.result (long_global least) c.push_made-in-loop-name.ensures.added c.long.ensures)

pub returns : goal.returns
returns c =
    let ds = c.args.mid.now.globals.items in
    let i = c.loop-name._name-index in
    leads_all view_global {b = c.loop-name.all} (globals_from (drop i ds)) c.into_vec.result
    (ap globals_from (drop_all i ds (rw c.deref-name-items.ensures.value at c.loop-name-test.false))) c.loop-name.invariant c.into_vec.ensures.all
