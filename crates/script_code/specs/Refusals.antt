-- Why a script has no code.
use Rattle.std.specs.Prelude.{◌≡◌, ◌≢◌, ◌<◌, ◌≤◌, ℕ, List, Err, length}
use Rattle.awk_tokens.specs.Cutting.{IsTokens, Spelled}
use Rattle.awk_tokens.specs.declared.token.TokenFault.{TokenFault}
use Rattle.awk_tokens.specs.declared.token.TokenFault.TheVariants as cutting
use Rattle.awk_parse.specs.Parsing.{IsParsed, IsRefused}
use Rattle.awk_parse.specs.declared.fault.ParseFault.{ParseFault}
use Rattle.awk_parse.specs.declared.fault.ParseFault.TheVariants as parsing
use Rattle.awk_grammar.specs.Trees.{Item}
use Rattle.awk_grammar.specs.Kinds.{refusal}
use Rattle.awk_resolve.specs.ViewResolved.{IsCause}
use Rattle.awk_resolve.specs.declared.fault.ResolveFault.{ResolveFault}
use Rattle.awk_resolve.specs.declared.fault.ResolveFault.TheVariants as resolving
use Rattle.ere_syntax.specs.declared.fault.EreFault.{EreFault}
use Rattle.script_code.specs.Coded.{HasTokens, most_script_bytes}
use Rattle.script_code.specs.Expressions.{AreFine, IsFirstBad}
use Rattle.run_report.specs.declared.compile_fault.CompileFault.{CompileFault}
use Rattle.run_report.specs.declared.compile_fault.CompileFault.TheVariants.{TooLarge, Token, Parse, Ere, Resolve, NoMemory}

-- Causes, in their order: each excludes those before it.

-- the bytes are not cut into tokens
pub record HasNoTokens (bytes : List ℕ) (fault : TokenFault) : Type 0 where
  pub short : length bytes ≤ most_script_bytes
  pub named : fault ≢ cutting.NoMemory
  pub cause : IsTokens bytes (Err fault)

-- the tokens have no script, or one in which something is left out or misplaced
pub record HasNoScript (tokens : List Spelled) (fault : ParseFault) : Type 0 where
  pub named : fault ≢ parsing.NoMemory
  pub cause : IsRefused tokens fault

-- a constant expression of the script has no tree, or one past the limits; the first stands on this line
pub record HasBadExpression (tokens : List Spelled) (line : ℕ) (fault : EreFault) : Type 0 where
  pub script : List Item
  pub parsed : IsParsed tokens script
  pub first : IsFirstBad tokens line fault

-- the script is refused for a name
pub record HasBadName (tokens : List Spelled) (fault : ResolveFault) : Type 0 where
  pub script : List Item
  pub parsed : IsParsed tokens script
  pub expressions : AreFine tokens
  pub named : fault ≢ resolving.NoMemory
  pub cause : IsCause fault (refusal script)

-- why a script has no code
abbrev pub IsNotCoded : List ℕ → CompileFault → Type 0
IsNotCoded bytes TooLarge = most_script_bytes < length bytes
IsNotCoded bytes (Token fault) = HasNoTokens bytes fault
IsNotCoded bytes (Parse fault) = HasTokens bytes (λ tokens. HasNoScript tokens fault)
IsNotCoded bytes (Ere line fault) = HasTokens bytes (λ tokens. HasBadExpression tokens line fault)
IsNotCoded bytes (Resolve fault) = HasTokens bytes (λ tokens. HasBadName tokens fault)
IsNotCoded bytes NoMemory = Unit {0}

-- The rest serves contracts inside the crate.

-- why tokens have no code
abbrev pub HasNoCode : List Spelled → CompileFault → Type 0
HasNoCode tokens TooLarge = ⊥
HasNoCode tokens (Token fault) = ⊥
HasNoCode tokens (Parse fault) = HasNoScript tokens fault
HasNoCode tokens (Ere line fault) = HasBadExpression tokens line fault
HasNoCode tokens (Resolve fault) = HasBadName tokens fault
HasNoCode tokens NoMemory = Unit {0}
