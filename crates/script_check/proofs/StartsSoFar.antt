-- How far starts were found.
use Rattle.std.proofs.Common.{◌≡◌, ◌≤◌, ℕ, List, length}
use Rattle.awk_tokens.specs.declared.token.Token.{Token}
use Rattle.script_check.specs.Places.{ends, starts}

pub record IsSoFar (script : List ℕ) (tokens : List Token) (i end : ℕ) (found : List ℕ) : Type 0 where
  pub within : end ≤ length script
  pub end_is : end ≡ ends script tokens i
  pub found_are : found ≡ starts script tokens i
