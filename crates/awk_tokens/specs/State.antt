-- What is kept while a script is cut.
use Rattle.std.specs.Prelude.{◌≡◌, ℕ, List, ◌++◌, reverse, map, length, ◌≤◌, ◌+◌, Result, Ok, Err}
use Rattle.awk_tokens.specs.declared.before.Before.{Before}
use Rattle.awk_tokens.specs.declared.token.Token.{Token}
use Rattle.awk_tokens.specs.declared.token.TokenFault.{TokenFault}
use Rattle.awk_tokens.specs.Cutting.{Spelled, Context}
use Rattle.awk_tokens.specs.Reading.{cut_at, raw_of}
use Rattle.awk_tokens.specs.Views.{spelled}

-- the vector has the newest role last
abbrev pub context_of : Before → Context
context_of b = record { last = b.last; former = b.former; closed = b.closed; open_roles = reverse b.open.items }

-- tokens in front of those that are read
abbrev pub with_front : List Spelled → Result (List Spelled) TokenFault → Result (List Spelled) TokenFault
with_front ts (Ok us) = Ok (ts ++ us)
with_front ts (Err e) = Err e

-- how far the script has been cut
pub record IsCutSoFar (tokens : List Token) (context : Context) (line : ℕ) (rest script : List ℕ) : Type 0 where
  pub turns : ℕ
  pub enough : length rest ≤ turns
  pub told : with_front (map spelled tokens) (cut_at turns line context rest) ≡ raw_of script
  pub room : line + length rest ≤ 1 + length script
