use Rattle.std.proofs.Common.{◌≡◌, take}
use Rattle.host_imports.specs.Imports.{params_of}
use Rattle.host_imports.proofs.types.params_of.Given as goal

abbrev pub invariant-loop-argument : goal.invariant-loop-argument
invariant-loop-argument l = l.params.items ≡ params_of (take l.argument-index l.arguments)
