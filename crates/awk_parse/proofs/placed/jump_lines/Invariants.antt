use Rattle.std.proofs.Common.{◌≡◌, ◌++◌, drop, map}
use Rattle.awk_tokens.specs.Views.{spelled}
use Rattle.awk_parse.specs.Jumps.{jump_lines}
use Rattle.awk_parse.proofs.placed.jump_lines.Given as goal

abbrev pub invariant-loop-token : goal.invariant-loop-token
invariant-loop-token l = l.lines.items ++ jump_lines (map spelled (drop l.token-index l.tokens)) ≡ jump_lines (map spelled l.tokens)
