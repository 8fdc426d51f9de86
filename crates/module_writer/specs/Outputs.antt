-- Writing to an output.
use Rattle.std.specs.Prelude.{◌≡◌, ℕ, List, Option, Some, None}
use Rattle.module_writer.specs.declared.fault.WriteFault.{WriteFault}
use Rattle.module_writer.specs.declared.output.Output.{Output}
use Rattle.module_writer.specs.Writers.{Written, Fails}

-- the bytes, if none were refused, are what the writer leaves; a refusal is the writer's, or for want of memory
abbrev pub Stands : Option WriteFault → List ℕ → Written → Type 0
Stands None bytes all = all ≡ Some bytes
Stands (Some e) bytes all = Fails e all

-- the same, where nothing was refused before; what was refused before stays
abbrev pub StandsAfter : Option WriteFault → Option WriteFault → List ℕ → Written → Type 0
StandsAfter None now bytes all = Stands now bytes all
StandsAfter (Some e) now bytes all = now ≡ Some e

-- between the two the code did what the writer does
pub record Adds (before after : Output) (all : Written) : Type 0 where
  pub stands : StandsAfter before.refused after.refused after.bytes.items all
