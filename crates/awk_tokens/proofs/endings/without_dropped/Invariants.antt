use Rattle.std.proofs.Common.{◌≡◌, ◌++◌, map, false, length}
use Rattle.awk_tokens.specs.Rules.{rule_two}
use Rattle.awk_tokens.specs.Views.{spelled}
use Rattle.awk_tokens.proofs.endings.without_dropped.Given as goal

abbrev pub invariant-loop-rest : goal.invariant-loop-rest
invariant-loop-rest l = map spelled l.kept.items ++ rule_two l.brace (map spelled l.rest) ≡ rule_two false (map spelled l.fn.tokens)

abbrev pub decreases-loop-rest : goal.decreases-loop-rest
decreases-loop-rest l = length l.rest
