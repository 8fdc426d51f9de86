-- The plain data of what has been read.
use Rattle.std.specs.Prelude.{map}
use Rattle.wasm_types.specs.View.{views, signature_of, view_import, view_global, view_export, view_elem, view_data}
use Rattle.wasm_types.specs.ModuleGrammar as grammar
use Rattle.module_decoder.specs.declared.entry_kinds.Code.{Code}
use Rattle.module_decoder.specs.declared.sections.Parts.{Parts}
use Rattle.module_decoder.specs.declared.sections.Progress.{Progress}
use Rattle.module_decoder.specs.Reading as reading

abbrev pub view_code : Code → grammar.CodeForm
view_code c = record { locals = c.locals; body = views c.body.items }

abbrev pub view_parts : Parts → grammar.Parts
view_parts p = record {
  types = map signature_of p.types.items;
  imports = map view_import p.imports.items;
  type_indices = p.type_indices.items;
  tables = p.tables.items;
  memories = p.memories.items;
  globals = map view_global p.globals.items;
  exports = map view_export p.exports.items;
  start = p.start;
  elems = map view_elem p.elems.items;
  codes = map view_code p.codes.items;
  data_segments = map view_data p.data.items;
}

abbrev pub view_progress : Progress → reading.Progress
view_progress s = record { last = s.last; functions = s.functions; parts = view_parts s.parts }
