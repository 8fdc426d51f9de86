use Rattle.std.proofs.Common.{◌≡◌, ◌∙◌, Some, ap, length, map, subst, sym}
use Rattle.script_places.specs.Lines.{form_of}
use Rattle.script_compiler.specs.Compiled.{IsCompiled}
use Rattle.script_lines.specs.Lined.{lined, table_of}
use Rattle.script_lines.proofs.SectionsLemmas.{no_room, of_both, of_err, of_ok, same_compiled}
use Rattle.script_lines.proofs.compiling.compile_with_lines.Goals as goal

pub returns-clause-same : goal.returns-clause-same
returns-clause-same c =
    let script = c.args.script.now in
    let bytes = c.deref.result.now in
    let h = subst (IsCompiled script) (sym c.deref.ensures.value) c.in_ok-compiled.ensures.compiled in
    of_ok c.told.result (λ all same. same_compiled script bytes all.items same h) c.told.ensures.same

pub returns-clause-lines : goal.returns-clause-lines
returns-clause-lines c =
    let script = c.args.script.now in
    let bytes = c.deref.result.now in
    let h = subst (IsCompiled script) (sym c.deref.ensures.value) c.in_ok-compiled.ensures.compiled in
    let t = c.in-Ok.ensures in
    let rows : map form_of c.deref-2.result.now ≡ table_of t.0 t.1 = ap (map form_of) c.deref-2.ensures.value ∙ t.4 in
    of_both c.told.result (λ all text found. record {
      compiled = bytes;
      is_compiled = h;
      whole = text.0;
      read = text.1;
      tokens = t.0;
      cut = t.2;
      script = t.1;
      parsed = t.3;
      all_is = text.2 ∙ ap (lined bytes (length text.0.imports)) rows;
      found = found text.0 text.1 ∙ ap Some rows;
    }) c.told.ensures.text c.told.ensures.found

pub returns-clause-refused : goal.returns-clause-refused
returns-clause-refused c =
    let script = c.args.script.now in
    let bytes = c.deref.result.now in
    let h = subst (IsCompiled script) (sym c.deref.ensures.value) c.in_ok-compiled.ensures.compiled in
    let t = c.in-Ok.ensures in
    let rows : map form_of c.deref-2.result.now ≡ table_of t.0 t.1 = ap (map form_of) c.deref-2.ensures.value ∙ t.4 in
    of_err c.told.result (λ fault u. no_room script bytes (map form_of c.deref-2.result.now) t.0 t.1 fault h t.2 t.3 rows u) c.told.ensures.err
