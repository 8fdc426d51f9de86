use Rattle.std.proofs.Common.{◌≡◌, ◌++◌, length}
use Rattle.awk_text.specs.Escapes.{unescaped}
use Rattle.awk_text.proofs.escapes.unescape.Given as goal

abbrev pub invariant-loop-rest : goal.invariant-loop-rest
invariant-loop-rest l = l.out.items ++ unescaped l.rest ≡ unescaped l.text

abbrev pub decreases-loop-rest : goal.decreases-loop-rest
decreases-loop-rest l = length l.rest
