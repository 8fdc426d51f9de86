use Rattle.std.proofs.Common.{take, map}
use Rattle.awk_tokens.specs.Views.{spelled}
use Rattle.script_code.specs.Expressions.{AreFine}
use Rattle.script_code.proofs.expressions.check_expressions.Given as goal

-- no token so far is bad
abbrev pub invariant-loop-token : goal.invariant-loop-token
invariant-loop-token l = AreFine (map spelled (take l.token-index l.tokens))
