use Rattle.std.proofs.lemmas.List.{map-id}
use Rattle.wasm_types.specs.declared.module.SectionId.TheVariants as section
use Rattle.wasm_types.specs.Profile.{most_pages}
use Rattle.wasm_types.specs.View.{view_module}
use Rattle.module_writer.specs.Writing.{func_type_to, import_to, limits_to, table_type_to, global_to, export_to, elem_to, code_to, type_index_to, vec_section_to, start_to, from_data_to, from_codes_to, from_elems_to, from_start_to, from_exports_to, from_globals_to, from_memory_to, from_table_to, from_functions_to, from_imports_to}
use Rattle.module_writer.proofs.Loops.{both}
use Rattle.module_writer.proofs.sections.sections.Goals as goal

pub returns : goal.returns
returns c =
    let m = view_module c.args.m.now in
    both (vec_section_to section.Type func_type_to m.types c.args.out.now.bytes.items) (from_imports_to m) (rw c.deref.ensures.value at c.entry_section.ensures)
    (both (vec_section_to section.Import import_to m.imports c.entry_section.new.out.bytes.items) (from_functions_to m) (rw c.deref-2.ensures.value at c.entry_section-2.ensures)
    (both (vec_section_to section.Function type_index_to m.funcs c.entry_section-2.new.out.bytes.items) (from_table_to m) (rw c.deref-3.ensures.value at c.entry_section-3.ensures)
    (both (vec_section_to section.Table table_type_to m.tables c.entry_section-3.new.out.bytes.items) (from_memory_to m) (rw (c.deref-4.ensures.value, map-id) at c.entry_section-4.ensures)
    (both (vec_section_to section.Memory (limits_to most_pages) m.memories c.entry_section-4.new.out.bytes.items) (from_globals_to m) (rw (c.deref-5.ensures.value, map-id) at c.entry_section-5.ensures)
    (both (vec_section_to section.Global global_to m.globals c.entry_section-5.new.out.bytes.items) (from_exports_to m) (rw c.deref-6.ensures.value at c.entry_section-6.ensures)
    (both (vec_section_to section.Export export_to m.exports c.entry_section-6.new.out.bytes.items) (from_start_to m) (rw c.deref-7.ensures.value at c.entry_section-7.ensures)
    (both (start_to m.start c.entry_section-7.new.out.bytes.items) (from_elems_to m) c.start_section.ensures
    (both (vec_section_to section.Element elem_to m.elems c.start_section.new.out.bytes.items) (from_codes_to m) (rw c.deref-8.ensures.value at c.entry_section-8.ensures)
    (both (vec_section_to section.Code code_to m.funcs c.entry_section-8.new.out.bytes.items) (from_data_to m) (rw c.deref-9.ensures.value at c.entry_section-9.ensures)
    (rw c.deref-10.ensures.value at c.entry_section-10.ensures))))))))))
