use Rattle.std.proofs.Common.{◌≡◌, ◌+◌, ◌++◌, ◌∷◌, [], ℕ, List, None, map, length, length-append, sym, ap, ◌∙◌, rules, ◌≤◌, inr, subst, arith}
use Rattle.std.proofs.lemmas.List.{length-map}
use Rattle.std.specs.Vec.{vec_len}
use Rattle.mid_program.specs.View.{view_mid, view_routine}
use Rattle.wasm_types.specs.View.{view_elem}
use Rattle.host_imports.specs.Imports.{imports, import_type}
use Rattle.lower_model.specs.Functions.{main_callee, routine_callee}
use Rattle.lower_model.specs.Machine.{Callee}
use Rattle.lower_model.specs.Modules.{called_from, callee_type, chosen, exports_of, functions_from, imported_from, memory_for}
use Rattle.lower_modules.specs.Lengths.{least_among}
use Rattle.lower_modules.specs.Limits.{most_bytes}
use Rattle.lower_modules.specs.View.{view_function}
use Rattle.lower_modules.specs.Parts.{text_form}
use Rattle.lower_modules.proofs.Spelled.{spelled_short}
use Rattle.lower_modules.proofs.module.module_for.Goals as goal

pub returns-clause-module : goal.returns-clause-module
returns-clause-module c =
    let p = view_mid c.args.mid.now in
    let code = c.in_ok-code.ensures.parts in
    let others = c.in_ok-others.ensures in
    let bytes = c.in_ok-bytes.ensures.bytes in
    let own_count : vec_len c.args.mid.now.routines ≡ length c.args.mid.now.routines.items = search rules in
    let count : c.len.result ≡ length p.routines = c.len.ensures ∙ own_count ∙ sym (length-map c.args.mid.now.routines.items view_routine) in
    let first = code.first ∙ ap (λ (fs : List Callee). length (chosen (called_from 0 imports fs) imports)) c.requires in
    let types = code.types ∙ ap (λ (fs : List Callee). map import_type (chosen (called_from 0 imports fs) imports) ++ map callee_type fs) c.requires in
    let forms = code.imports ∙ ap (λ (fs : List Callee). imported_from 0 (chosen (called_from 0 imports fs) imports)) c.requires in
    let funcs = code.funcs ∙ ap (λ (fs : List Callee). functions_from (called_from 0 imports fs) (length (chosen (called_from 0 imports fs) imports)) fs) c.requires in
    let memories = others.memories ∙ ap (λ (bs : List ℕ). memory_for (length bs) ∷ []) bytes in
    let exports = others.exports ∙ (λ i. exports_of (first i + count i)) in
    let segments = others.segments ∙ ap (λ (bs : List ℕ). text_form bs ∷ []) bytes in
    let elems = ap (map view_elem) c.new-2.ensures.items in
    λ i. record {
      types = types i;
      imports = forms i;
      funcs = funcs i;
      tables = c.new.ensures.items i;
      memories = memories i;
      globals = others.globals i;
      exports = exports i;
      start = None;
      elems = elems i;
      data_segments = segments i;
    }

pub returns-then-least_among-clause-too_large : goal.returns-then-least_among-clause-too_large
returns-then-least_among-clause-too_large c = λ e. inr (inr (λ bytes m.
    let short = spelled_short (view_mid c.args.mid.now) bytes m in
    let functions = ap least_among c.requires in
    let least = c.least_among.ensures in
    let past = c.if-least_among.true in
    omega (arith, short, functions, least, past)))

pub returns-clause-small : goal.returns-clause-small
returns-clause-small c = (subst (λ (b : List ℕ). length b ≤ most_bytes) c.in_ok-bytes.ensures.bytes c.in_ok-bytes.ensures.few, c.in_ok-bytes.ensures.functions)

pub code_parts-requires : goal.code_parts-requires
code_parts-requires c =
    let p = view_mid c.args.mid.now in
    let few = c.in_ok-bytes.ensures.functions in
    let plain = ap length c.requires in
    let seen = length-map c.args.functions.now view_function in
    let routines = length-map p.routines (routine_callee p) in
    let with_main = length-append (map (routine_callee p) p.routines) (main_callee p ∷ []) in
    omega (arith, few, plain, seen, routines, with_main)

pub data_parts-requires : goal.data_parts-requires
data_parts-requires c = c.in_ok-bytes.ensures.few
