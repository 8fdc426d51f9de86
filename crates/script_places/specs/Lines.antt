-- The custom section `awk.lines`: of each function of a module its name, and the lines of its places in the script, in order. A place is a `nop` of the
-- function's code. The last function is `main`, which the script does not name.
use Rattle.std.specs.Prelude.{ℕ, zero, suc, List, [], ◌∷◌, ◌++◌, length, Option, Some, None, option_and_then, option_map, nat_lt, slice_get, if◌then◌else◌}
use Rattle.std.specs.List.{flat_map}
use Rattle.wasm_types.specs.Leb128Texts.{u32_text}
use Rattle.module_writer.specs.Names.{counted}
use Rattle.script_places.specs.declared.module_table.FunctionLines.{FunctionLines}

-- A function of a module: its name, and the line of each of its places. 0 is the line of a place that has none.
pub record FunctionForm : Type 0 where
  pub name : List ℕ
  pub lines : List ℕ

abbrev pub form_of : FunctionLines → FunctionForm
form_of f = record { name = f.name.items; lines = f.lines.items }

-- WHAT IS TOLD of a function of the module, by its number among the module's own: the name of one of the script's, and the line of a place of its code

abbrev pub line_told : Option ℕ → Option ℕ
line_told None = None
line_told (Some zero) = None
line_told (Some (suc n)) = Some (suc n)

abbrev pub line_in : List FunctionForm → (function place : ℕ) → Option ℕ
line_in table function place = option_and_then (λ f. line_told (slice_get f.lines place)) (slice_get table function)

abbrev pub name_in : List FunctionForm → ℕ → Option (List ℕ)
name_in table function = if nat_lt (suc function) (length table) then option_map (λ f. f.name) (slice_get table function) else None

-- THE BYTES of the section

-- a name with its length, the number of lines, the lines
abbrev pub function_text : FunctionForm → List ℕ
function_text f = counted f.name ++ (u32_text (length f.lines) ++ flat_map u32_text f.lines)

-- how many functions there are, and these
abbrev pub table_text : List FunctionForm → List ℕ
table_text table = u32_text (length table) ++ flat_map function_text table

-- `awk.lines`, with its length
abbrev pub own_name : List ℕ
own_name = 9 ∷ 97 ∷ 119 ∷ 107 ∷ 46 ∷ 108 ∷ 105 ∷ 110 ∷ 101 ∷ 115 ∷ []

abbrev pub lines_contents : List FunctionForm → List ℕ
lines_contents table = own_name ++ table_text table

-- section 0, its size, its contents
abbrev pub lines_text : List FunctionForm → List ℕ
lines_text table = 0 ∷ counted (lines_contents table)
