use Rattle.std.proofs.Common.{◌≡◌, ◌++◌, drop}
use Rattle.std.specs.Prelude.{map, string_bytes}
use Rattle.command_line.specs.Request.{texts}
use Rattle.awkwasm.proofs.words_of.Given as goal

abbrev pub invariant-loop-argument : goal.invariant-loop-argument
invariant-loop-argument l = texts l.words.items ++ map string_bytes (drop l.argument-index l.arguments) ≡ map string_bytes l.arguments
