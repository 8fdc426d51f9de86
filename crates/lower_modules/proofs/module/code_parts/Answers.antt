use Rattle.std.proofs.Common.{◌≡◌, ◌++◌, ℕ, List, Bool, map, length, ap, ◌∙◌, rules}
use Rattle.std.specs.Vec.{vec_len}
use Rattle.host_imports.specs.Imports.{imports, import_type}
use Rattle.host_imports.specs.declared.import.Import.{Import}
use Rattle.lower_model.specs.Modules.{called_from, callee_type, chosen, functions_from, imported_from}
use Rattle.lower_modules.specs.View.{view_functions}
use Rattle.lower_modules.proofs.module.code_parts.Goals as goal

pub returns-clause-parts : goal.returns-clause-parts
returns-clause-parts c =
    let fs = view_functions c.args.functions.now in
    let called = c.called_imports-called.ensures in
    let used : c.in_ok-used.used.items ≡ chosen (called_from 0 imports fs) imports = c.in_ok-used.ensures.chosen ∙ ap (λ (bs : List Bool). chosen bs imports) called in
    let own_first : vec_len c.in_ok-used.used ≡ length c.in_ok-used.used.items = search rules in
    let first : c.len-first.result ≡ length (chosen (called_from 0 imports fs) imports) = c.len-first.ensures ∙ own_first ∙ ap length used in
    record {
      first = first;
      types = c.in_ok-types.ensures ∙ ap (λ (us : List Import). map import_type us ++ map callee_type fs) (c.deref.ensures.value ∙ used);
      imports = c.in_ok-import_forms.ensures ∙ ap (imported_from 0) (c.deref-2.ensures.value ∙ used);
      funcs = c.in_ok-function_forms.ensures ∙ ap (λ (bs : List Bool). functions_from bs c.len-first.result fs) (c.of-numbers.ensures ∙ called)
          ∙ ap (λ (n : ℕ). functions_from (called_from 0 imports fs) n fs) first;
    }
