use Rattle.std.proofs.Common.{◌≡◌, ℕ, List, map, ap, ◌∙◌}
use Rattle.std.proofs.lemmas.Result.{IfOk-at_ok}
use Rattle.std.specs.declared.alloc.Global.{Global}
use Rattle.std.specs.declared.vec.Vec.{Vec}
use Rattle.awk_grammar.specs.ViewStmt.{view_items}
use Rattle.awk_grammar.specs.declared.tree.Item.{Item}
use Rattle.awk_resolve.specs.ViewKinds.{view_name_kinds}
use Rattle.awk_resolve.specs.declared.function_names.NameKind.{NameKind}
use Rattle.awk_resolve.specs.declared.resolved.Resolved.{Resolved}
use Rattle.sem_scripts.specs.Items.{reads_records, top}
use Rattle.sem_scripts.specs.Ranges.{range_count}
use Rattle.mid_program.specs.Translation.{begin_code, declared_code, end_code, items_code, most_parameters, none_lend, program_with, routine_code}
use Rattle.mid_program.specs.declared.program.Declared.{Declared}
use Rattle.mid_program.specs.declared.program.Routine.{Routine}
use Rattle.mid_program.specs.View.{view_declared, view_routine, view_steps, view_texts}
use Rattle.mid_code.specs.ViewNames.{script_of}
use Rattle.mid_code.specs.ViewScope.{scope_of, texts_of}
use Rattle.mid_code.specs.ViewScript.{view_script_code}
use Rattle.mid_code.specs.declared.item.Actions.{Actions}
use Rattle.mid_code.specs.declared.translate.ScriptCode.{ScriptCode}
use Rattle.mid_code.proofs.translate.code_by_names.Goals as goal

-- a script's code by its parts
code_of_parts : (c : ScriptCode) (r : Resolved) (items : List Item) (texts : List (List ℕ)) → items ≡ r.script.now.items.items →
    map view_declared c.globals.items ≡ map declared_code (view_name_kinds r.globals.items) →
    map view_routine c.routines.items ≡ map (routine_code texts (script_of r)) (script_of r).functions →
    c.actions.ranges ≡ range_count (view_items items) →
    view_steps c.actions.begin.items ≡ begin_code texts (top (script_of r)) (view_items items) →
    c.reads ≡ reads_records (view_items items) →
    view_steps c.actions.each.items ≡ items_code texts (top (script_of r)) 0 (view_items items) →
    view_steps c.actions.end.items ≡ end_code texts (top (script_of r)) (view_items items) →
    view_script_code texts c ≡ program_with texts (script_of r)
code_of_parts c r items texts all globals routines ranges begin reads each end =
    let scope = top (script_of r) in
    λ i. record {
      texts = texts;
      lenders = none_lend (most_parameters (routines i));
      globals = globals i;
      routines = routines i;
      ranges = (ranges ∙ ap (λ (xs : List Item). range_count (view_items xs)) all) i;
      begin = (begin ∙ ap (λ (xs : List Item). begin_code texts scope (view_items xs)) all) i;
      reads = (reads ∙ ap (λ (xs : List Item). reads_records (view_items xs)) all) i;
      items = (each ∙ ap (λ (xs : List Item). items_code texts scope 0 (view_items xs)) all) i;
      end = (end ∙ ap (λ (xs : List Item). end_code texts scope (view_items xs)) all) i;
    }

pub returns : goal.returns
unfolding scope_of texts_of
returns c =
    let texts = view_texts c.args.texts.now.keys in
    let r = c.args.names.now.resolved.now in
    let items = c.as_slice-items.result.now in
    let scope = top (script_of r) in
    let made = c.in_ok-globals.ensures in
    code_of_parts (record { globals = c.in_ok-globals.globals; routines = c.in_ok-globals.routines; reads = c.reads_records.result; actions = c.in_ok-globals.actions })
    r items texts c.as_slice-items.ensures.value
    (IfOk-at_ok (λ (ds : Vec Declared Global). map view_declared ds.items ≡ map declared_code (view_name_kinds c.deref.result.now)) made.0 c.declared-globals.ensures
    ∙ ap (λ (ns : List NameKind). map declared_code (view_name_kinds ns)) c.deref.ensures.value)
    (IfOk-at_ok (λ (rs : Vec Routine Global). map view_routine rs.items ≡ map (routine_code texts (script_of r)) (script_of r).functions) made.1 c.routines-routines.ensures)
    (IfOk-at_ok (λ (a : Actions). a.ranges ≡ range_count (view_items items)) made.2 c.code_of_items-actions.ensures.ranges)
    (IfOk-at_ok (λ (a : Actions). view_steps a.begin.items ≡ begin_code texts scope (view_items items)) made.2 c.code_of_items-actions.ensures.begin)
    c.reads_records.ensures
    (IfOk-at_ok (λ (a : Actions). view_steps a.each.items ≡ items_code texts scope 0 (view_items items)) made.2 c.code_of_items-actions.ensures.each)
    (IfOk-at_ok (λ (a : Actions). view_steps a.end.items ≡ end_code texts scope (view_items items)) made.2 c.code_of_items-actions.ensures.end)
