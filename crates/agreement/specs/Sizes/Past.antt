-- Which code is too large for a module.
use Rattle.std.specs.Prelude.{◌<◌, Contains, length}
use Rattle.wasm_types.specs.Instructions.{depths}
use Rattle.wasm_types.specs.Profile.{most_locals, most_module_bytes, most_nesting}
use Rattle.wasm_types.specs.Syntax.{FuncForm, ModuleForm}
use Rattle.module_writer.specs.Size.{module_size}

-- too many bytes, a function with too many locals, or one with too many blocks in one another
pub data IsPast (m : ModuleForm) : Type 0 where
  bytes : most_module_bytes < module_size m → IsPast m
  locals : (f : FuncForm) → Contains m.funcs f → most_locals < length f.locals → IsPast m
  blocks : (f : FuncForm) → Contains m.funcs f → most_nesting < depths f.body → IsPast m
