use Rattle.std.proofs.Common.{◌≤◌, ◌^◌, List, length, map, subst}
use Rattle.std.specs.Prelude.{◌↔◌, IsTrue, string_bytes}
use Rattle.std.specs.List.{All}
use Rattle.wasm_types.specs.declared.module.Data.{Data}
use Rattle.wasm_types.specs.declared.module.Elem.{Elem}
use Rattle.wasm_types.specs.declared.module.Export.{Export}
use Rattle.wasm_types.specs.declared.module.Global.{Global}
use Rattle.wasm_types.specs.declared.types.Limits.{Limits}
use Rattle.wasm_types.specs.Typing.{AreDistinct, DataOk, DescOk, ElemOk, IsConstant, LimitsOk}
use Rattle.wasm_types.specs.View.{view_data, view_elem, view_module, views}
use Rattle.module_validator.proofs.LevelParts.{level_decided}
use Rattle.module_validator.proofs.level.level_ok.Goals as goal

pub returns : goal.returns
returns c =
    let m = c.args.m.now in
    let form = view_module m in
    level_decided m c.imports_within-imports.result c.one_ok-tables.result c.one_ok-memories.result c.globals_ok-globals.result c.exports_ok-exports.result c.in_ok-names.names c.start_ok-start.result c.elems_ok-elems.result c.data_all_ok-data.result
    (rw (c.deref.ensures.value, c.deref-2.ensures.value) at c.imports_within-imports.ensures)
    (subst (λ (ls : List Limits). IsTrue c.one_ok-tables.result ↔ (All (LimitsOk (2 ^ 32)) ls × (length ls ≤ 1))) c.deref-3.ensures.value c.one_ok-tables.ensures)
    (subst (λ (ls : List Limits). IsTrue c.one_ok-memories.result ↔ (All (LimitsOk 65536) ls × (length ls ≤ 1))) c.deref-4.ensures.value c.one_ok-memories.ensures)
    (subst (λ (gs : List Global). IsTrue c.globals_ok-globals.result ↔ All (λ g. IsConstant (views g.init.items) g.ty.value) gs) c.deref-5.ensures.value c.globals_ok-globals.ensures)
    (subst (λ (es : List Export). IsTrue c.exports_ok-exports.result ↔ All (λ e. DescOk form e.desc) es) c.deref-6.ensures.value c.exports_ok-exports.ensures)
    (subst (λ (es : List Export). IsTrue c.in_ok-names.names ↔ AreDistinct (map (λ e. string_bytes e.name) es)) c.deref-7.ensures.value c.in_ok-names.ensures)
    c.start_ok-start.ensures
    (subst (λ (es : List Elem). IsTrue c.elems_ok-elems.result ↔ All (λ e. ElemOk form (view_elem e)) es) c.deref-8.ensures.value c.elems_ok-elems.ensures)
    (subst (λ (ds : List Data). IsTrue c.data_all_ok-data.result ↔ All (λ d. DataOk form (view_data d)) ds) c.deref-9.ensures.value c.data_all_ok-data.ensures)
