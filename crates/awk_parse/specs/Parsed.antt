-- What reading gave, by what was left before and after.
use Rattle.std.specs.Prelude.{◌≡◌, List, Option, Some, None, Result, Ok, Err}
use Rattle.awk_grammar.specs.Token.{Token}
use Rattle.awk_grammar.specs.Reading.{Fault}
use Rattle.awk_grammar.specs.ReadStmt.{Read}
use Rattle.awk_parse.specs.declared.refusal.Refusal.{Refusal}
use Rattle.awk_parse.specs.declared.refusal.Refusal.TheVariants as refusals
use Rattle.awk_parse.specs.Seen.{seen, Fails}
use Rattle.awk_parse.specs.declared.source.Source.{Source}

-- the tokens that are left, or why reading stopped
abbrev pub At : Type 0
At = Result (List Token) Refusal

abbrev pub stands : List Token → Option Refusal → At
stands ts None = Ok ts
stands ts (Some e) = Err e

abbrev pub at : Source → At
at s = stands (seen s.rest.now) s.refused

-- reading stops for this reason, if it did not stop before
abbrev pub ended : At → Refusal → At
ended (Ok ts) e = Err e
ended (Err d) e = Err d

abbrev pub Comes : {A : Type 0} → At → A → (List Token → Result A Fault) → Type 0
Comes (Ok ts) x read = read ts ≡ Ok x
Comes (Err d) x read = ⊥

abbrev pub Stops : {A : Type 0} → At → Refusal → (List Token → Result A Fault) → Type 0
Stops (Ok ts) e read = Fails e (read ts)
Stops (Err d) e read = d ≡ e

abbrev pub Reaches : {A : Type 0} → (List Token → A) → At → At → (List Token → Result A Fault) → Type 0
Reaches f before (Ok us) read = Comes before (f us) read
Reaches f before (Err e) read = Stops before e read

-- this was read, unless reading stopped
pub record Parsed {A : Type 0} (a : A) (before after : At) (read : List Token → Read A) : Type 0 where
  pub went : Reaches {A = A × List Token} (λ us. (a, us)) before after read

-- a token was passed, unless reading stopped
pub record Passed (before after : At) (read : List Token → Result (List Token) Fault) : Type 0 where
  pub passed : Reaches (λ us. us) before after read

-- all tokens were read, unless reading stopped
pub record Ends {A : Type 0} (a : A) (before after : At) (read : List Token → Result A Fault) : Type 0 where
  pub ends : Reaches (λ us. a) before after read

-- whether reading stopped for the syntax
abbrev pub IsSyntax : Option Refusal → Type 0
IsSyntax (Some (refusals.Syntax line)) = Unit {0}
IsSyntax _ = ⊥

abbrev pub IsNoSyntax : Option Refusal → Type 0
IsNoSyntax (Some (refusals.Syntax line)) = ⊥
IsNoSyntax _ = Unit {0}

-- nothing more is read for it
abbrev pub is_read : {A : Type 0} → A → List Token → Read A
is_read a ts = Ok (a, ts)
