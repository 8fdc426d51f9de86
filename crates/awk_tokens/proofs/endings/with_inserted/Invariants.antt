use Rattle.std.proofs.Common.{◌≡◌, ◌++◌, map, None, length}
use Rattle.std.specs.Prelude.{option_map}
use Rattle.awk_tokens.specs.Rules.{rule_three}
use Rattle.awk_tokens.specs.Views.{spelled}
use Rattle.awk_tokens.proofs.endings.with_inserted.Given as goal

abbrev pub invariant-loop-rest : goal.invariant-loop-rest
invariant-loop-rest l = map spelled l.ended.items ++ rule_three (option_map spelled l.former) (map spelled l.rest) ≡ rule_three None (map spelled l.fn.tokens)

abbrev pub decreases-loop-rest : goal.decreases-loop-rest
decreases-loop-rest l = length l.rest
