-- The lines of a script's module, and the bytes that tell them.
use Rattle.std.specs.Prelude.{◌≡◌, ◌⊎◌, ◌^◌, ◌<◌, ◌≤◌, ℕ, zero, suc, List, [], ◌∷◌, ◌++◌, length, map, Option, Some, None, Ok, codes, nat_lt, slice_get, unwrap_or, if◌then◌else◌}
use Rattle.awk_grammar.specs.Trees.{Item}
use Rattle.awk_parse.specs.Parsing.{IsParsed}
use Rattle.awk_tokens.specs.Cutting.{IsTokens, Spelled}
use Rattle.awk_tree.specs.Lines.{function_names, line_at, places_in}
use Rattle.script_places.specs.Lines.{FunctionForm, line_told, lines_text}
use Rattle.script_places.specs.Reading.{table_in}
use Rattle.module_writer.specs.Names.{names_text}
use Rattle.run_report.specs.declared.compile_fault.CompileFault.{CompileFault}
use Rattle.run_report.specs.declared.compile_fault.CompileFault.TheVariants.{NoMemory, TooLarge}
use Rattle.script_compiler.specs.Compiled.{IsCompiled}
use Rattle.script_compiler.specs.Refusals.{IsNotCompiled}
use Rattle.module_writer.specs.declared.fault.WriteFault.{WriteFault}
use Rattle.module_writer.specs.declared.fault.WriteFault.TheVariants as writing
use Rattle.wasm_types.specs.ModuleGrammar.{IsModule}
use Rattle.wasm_types.specs.Profile.{most_module_bytes}
use Rattle.wasm_types.specs.Syntax.{ModuleForm}

-- what is written for a line: 0 where there is none, or where it is no number of 32 bits
abbrev pub line_number : Option ℕ → ℕ
line_number None = 0
line_number (Some n) = if nat_lt n (2 ^ 32) then n else 0

-- the line that is read back
abbrev pub told_line : Option ℕ → Option ℕ
told_line line = line_told (Some (line_number line))

-- the name of a function of the module, by its number: those of the script in their order, then `main`
abbrev pub name_of : List Item → ℕ → List ℕ
name_of script function = unwrap_or (slice_get (function_names script) function) (codes "main")

-- the lines of its places, in their order
abbrev pub lines_of : List Spelled → List Item → ℕ → List ℕ
lines_of tokens script function = map (λ before. line_number (line_at tokens (Some before))) (places_in script function)

abbrev pub row_of : List Spelled → List Item → ℕ → FunctionForm
row_of tokens script function = record { name = name_of script function; lines = lines_of tokens script function }

-- so many functions, from this number on
abbrev pub rows_from : List Spelled → List Item → (count from : ℕ) → List FunctionForm
rows_from tokens script zero from = []
rows_from tokens script (suc count) from = row_of tokens script from ∷ rows_from tokens script count (suc from)

-- THE TABLE of a script's module: its functions, and `main`
abbrev pub table_of : List Spelled → List Item → List FunctionForm
table_of tokens script = rows_from tokens script (suc (length (function_names script))) 0

-- the names of functions behind the bytes of a module whose own functions come after so many imports, and then their lines
abbrev pub lined : List ℕ → ℕ → List FunctionForm → List ℕ
lined compiled imports table = (compiled ++ names_text imports (map (λ f. f.name) table)) ++ lines_text table

-- What a script is compiled to, with the names and the lines of its functions behind it; and its lines are found in these bytes.
pub record IsLined (bytes all : List ℕ) : Type 0 where
  pub compiled : List ℕ
  pub is_compiled : IsCompiled bytes compiled
  pub whole : ModuleForm
  pub read : IsModule compiled whole
  pub tokens : List Spelled
  pub cut : IsTokens bytes (Ok tokens)
  pub script : List Item
  pub parsed : IsParsed tokens script
  pub all_is : all ≡ lined compiled (length whole.imports) (table_of tokens script)
  pub found : table_in all ≡ Some (table_of tokens script)

-- the bytes with the sections are too many for a module; or there are more functions than have numbers, which no module of so many bytes has
abbrev pub IsPastRoom : List ℕ → ℕ → List FunctionForm → Type 0
IsPastRoom compiled imports table = (2 ^ 31 ≤ imports) ⊎ ((2 ^ 31 ≤ length table) ⊎ (most_module_bytes < length (lined compiled imports table)))

-- a script can be compiled, and its bytes have no room for the sections
pub record HasNoRoom (bytes : List ℕ) : Type 0 where
  pub compiled : List ℕ
  pub is_compiled : IsCompiled bytes compiled
  pub whole : ModuleForm
  pub read : IsModule compiled whole
  pub tokens : List Spelled
  pub cut : IsTokens bytes (Ok tokens)
  pub script : List Item
  pub parsed : IsParsed tokens script
  pub past : IsPastRoom compiled (length whole.imports) (table_of tokens script)

-- why there are no such bytes: why the script is not compiled, or that there is no room
abbrev pub IsNotLined : List ℕ → CompileFault → Type 0
IsNotLined bytes TooLarge = IsNotCompiled bytes TooLarge ⊎ HasNoRoom bytes
IsNotLined bytes fault = IsNotCompiled bytes fault

-- The rest serves contracts inside the crate.

abbrev pub refused : WriteFault → CompileFault
refused writing.TooLarge = TooLarge
refused writing.NoMemory = NoMemory

-- why the bytes of a module have no sections of a table
abbrev pub IsUnlined : List ℕ → List FunctionForm → CompileFault → Type 0
IsUnlined compiled table fault = (fault ≡ NoMemory) ⊎ ((fault ≡ TooLarge) × (m : ModuleForm) × IsModule compiled m × IsPastRoom compiled (length m.imports) table)
