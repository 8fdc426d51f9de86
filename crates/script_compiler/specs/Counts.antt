-- Why the compiler refuses the code of a script, by its own counts. Contracts inside the crate say so; it need not be believed.
use Rattle.std.specs.Prelude.{◌⊎◌}
use Rattle.mid_program.specs.Mid.{Program}
use Rattle.lower_layout.specs.Spans.{IsSmall}
use Rattle.lower_modules.specs.Limits.{IsTooLarge}
use Rattle.lowering.specs.Limits.{AreSmallEnough}
use Rattle.run_report.specs.declared.compile_fault.CompileFault.{CompileFault}
use Rattle.run_report.specs.declared.compile_fault.CompileFault.TheVariants.{TooLarge, NoMemory}
use Rattle.script_compiler.specs.Refusals.{IsPastLimits}

-- too many or too long names and texts, or a function past the limits, as the compiler counts them; or no bytes are its module
abbrev pub IsPastCounts : Program → Type 0
IsPastCounts p = IsSmall p → AreSmallEnough p → IsTooLarge p

-- why code has no bytes
abbrev pub HasNoBytes : Program → CompileFault → Type 0
HasNoBytes p TooLarge = IsPastCounts p ⊎ IsPastLimits p
HasNoBytes p NoMemory = Unit {0}
HasNoBytes p _ = ⊥
