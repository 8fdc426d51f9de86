-- What is told of a script that is not compiled.
use Rattle.std.specs.Prelude.{ℕ, List}
use Rattle.run_report.specs.declared.end.Refusal.TheVariants.{Compile}
use Rattle.run_report.specs.declared.end.RunEnd.{RunEnd}
use Rattle.run_report.specs.declared.end.RunEnd.TheVariants.{Refused}
use Rattle.run_report.specs.declared.end.RunEnd.TheVariants as end
use Rattle.script_compiler.specs.Refusals.{IsNotCompiled}
use Rattle.script_lines.specs.Lined.{IsNotLined}

-- the refusal of the compiler, or want of memory
abbrev pub IsUncompiled : List ℕ → RunEnd → Type 0
IsUncompiled bytes (Refused (Compile fault)) = IsNotCompiled bytes fault
IsUncompiled bytes end.NoMemory = Unit {0}
IsUncompiled bytes _ = ⊥

-- the same of a script that is compiled with its lines; the module may have no room for them
abbrev pub IsUnlined : List ℕ → RunEnd → Type 0
IsUnlined bytes (Refused (Compile fault)) = IsNotLined bytes fault
IsUnlined bytes end.NoMemory = Unit {0}
IsUnlined bytes _ = ⊥
