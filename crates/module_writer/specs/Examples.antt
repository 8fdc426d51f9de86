-- Sizes of small modules, computed.
use Rattle.std.specs.Prelude.{◌≡◌, [], ◌∷◌, None, refl}
use Rattle.wasm_types.specs.declared.instr.Simple.TheVariants.{I32Const, LocalGet}
use Rattle.wasm_types.specs.Leb128Texts.{s32_text, u32_text}
use Rattle.wasm_types.specs.Syntax.{Done, FuncForm, If, ModuleForm, Plain, Signature, Then}
use Rattle.module_writer.specs.Size.{index_size, instrs_size, module_size}

-- a number below 128 takes a byte
pub one_byte : index_size 127 ≡ 1
unfolding u32_text
one_byte = refl

pub two_bytes : index_size 128 ≡ 2
unfolding u32_text
two_bytes = refl

-- signed numbers have a bit less
pub a_constant : instrs_size (Then (Plain (I32Const 64)) Done) ≡ 3
unfolding s32_text
a_constant = refl

-- `local.get 0`, `if`, and in it nothing
pub a_choice : instrs_size (Then (Plain (LocalGet 0)) (Then (If None Done Done) Done)) ≡ 5
unfolding u32_text
a_choice = refl

abbrev nothing : Signature
nothing = record { params = []; result = None }

abbrev idle : FuncForm
idle = record { ty = 0; locals = []; body = Done }

abbrev of_functions : ModuleForm
of_functions = record {
  types = nothing ∷ [];
  imports = [];
  funcs = idle ∷ [];
  tables = [];
  memories = [];
  globals = [];
  exports = [];
  start = None;
  elems = [];
  data_segments = [];
}

-- eight bytes; a type, in six; the number of the function's type, in four; its code, in six
pub one_function : module_size of_functions ≡ 24
unfolding u32_text
one_function = refl
