-- The plain data that a value of the code stands for.
use Rattle.std.specs.Prelude.{List, [], ◌∷◌, map, string_bytes}
use Rattle.wasm_types.specs.declared.types.FuncType.{FuncType}
use Rattle.wasm_types.specs.declared.instr.Instr.{Instr, Row_of-Instr, end_of-Instr, more_of-Instr}
use Rattle.wasm_types.specs.declared.instr.Instr.TheVariants as v
use Rattle.wasm_types.specs.declared.module.Import.{Import}
use Rattle.wasm_types.specs.declared.module.Func.{Func}
use Rattle.wasm_types.specs.declared.module.Global.{Global}
use Rattle.wasm_types.specs.declared.module.Export.{Export}
use Rattle.wasm_types.specs.declared.module.Elem.{Elem}
use Rattle.wasm_types.specs.declared.module.Data.{Data}
use Rattle.wasm_types.specs.declared.module.Module.{Module}
use Rattle.wasm_types.specs.Syntax.{Instruction, Plain, BrTable, Block, Loop, If, Instructions, Done, Then, Signature, ImportForm, FuncForm, GlobalForm, ExportForm, ElemForm, DataForm, ModuleForm}

abbrev mutual
  pub view : Instr → Instruction
  view (v.Plain p) = Plain p
  view (v.BrTable ns n) = BrTable ns.value.items n
  view (v.Block' k shape p all) = Block k (view_row all)
  view (v.Loop' k shape p all) = Loop k (view_row all)
  view (v.If' k s1 p a s2 q b) = If k (view_row a) (view_row b)

  pub view_row : {m : _} → Row_of-Instr m → Instructions
  view_row end_of-Instr = Done
  view_row (more_of-Instr e rest) = Then (view e) (view_row rest)

abbrev pub views : List Instr → Instructions
views [] = Done
views (e ∷ es) = Then (view e) (views es)

abbrev pub signature_of : FuncType → Signature
signature_of t = record { params = t.params.items; result = t.result }

abbrev pub view_import : Import → ImportForm
view_import i = record { from = string_bytes i.module; name = string_bytes i.name; ty = i.ty }

abbrev pub view_func : Func → FuncForm
view_func f = record { ty = f.ty; locals = f.locals; body = views f.body.value.items }

abbrev pub view_global : Global → GlobalForm
view_global g = record { ty = g.ty; init = views g.init.items }

abbrev pub view_export : Export → ExportForm
view_export e = record { name = string_bytes e.name; desc = e.desc }

abbrev pub view_elem : Elem → ElemForm
view_elem e = record { table = e.table; offset = views e.offset.items; init = e.init.items }

abbrev pub view_data : Data → DataForm
view_data d = record { memory = d.memory; offset = views d.offset.items; init = d.init.items }

abbrev pub view_module : Module → ModuleForm
view_module m = record {
  types = map signature_of m.types.items;
  imports = map view_import m.imports.items;
  funcs = map view_func m.funcs.items;
  tables = m.tables.items;
  memories = m.memories.items;
  globals = map view_global m.globals.items;
  exports = map view_export m.exports.items;
  start = m.start;
  elems = map view_elem m.elems.items;
  data_segments = map view_data m.data.items;
}
