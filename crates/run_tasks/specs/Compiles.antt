-- What commands answer that compile a script.
use Rattle.std.specs.Prelude.{◌≡◌, ◌⊎◌, ℕ, Bool, true, false, List}
use Rattle.script_compiler.specs.Compiled.{IsCompiled}
use Rattle.script_lines.specs.Lined.{IsLined}
use Rattle.run_report.specs.declared.end.RunEnd.{RunEnd}
use Rattle.run_report.specs.declared.end.RunEnd.TheVariants.{Ended}
use Rattle.run_tasks.specs.Uncompiled.{IsUncompiled, IsUnlined}

-- The bytes are what a script is compiled to: with lines, they have these sections behind those of the module.
abbrev pub CompilesTo : (has_lines : Bool) → List ℕ → List ℕ → Type 0
CompilesTo false bytes compiled = IsCompiled bytes compiled
CompilesTo true bytes compiled = IsCompiled bytes compiled × IsLined bytes compiled

-- why it is not compiled
abbrev pub IsUncompiledSo : (has_lines : Bool) → List ℕ → RunEnd → Type 0
IsUncompiledSo false bytes e = IsUncompiled bytes e
IsUncompiledSo true bytes e = IsUnlined bytes e

-- The script of these bytes can be compiled, and the answer is status 0; else it is why it is not compiled.
abbrev pub CompilesSo : (has_lines : Bool) → List ℕ → RunEnd → Type 0
CompilesSo has_lines bytes e = ((e ≡ Ended 0) × ((compiled : List ℕ) × CompilesTo has_lines bytes compiled)) ⊎ IsUncompiledSo has_lines bytes e

abbrev pub Compiles : List ℕ → RunEnd → Type 0
Compiles bytes e = CompilesSo false bytes e
