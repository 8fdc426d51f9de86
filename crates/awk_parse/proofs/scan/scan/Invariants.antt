use Rattle.std.proofs.Common.{◌≡◌, drop, map}
use Rattle.awk_tokens.specs.Views.{spelled}
use Rattle.awk_parse.specs.Scan.{scan}
use Rattle.awk_parse.proofs.scan.scan.Given as goal

abbrev pub invariant-loop-token : goal.invariant-loop-token
invariant-loop-token l = scan (map spelled (drop l.token-index l.tokens)) ≡ scan (map spelled l.tokens)
