-- What a script read from bytes, its run and its refusal mean, in the words of the compiler's theorem.
use Rattle.std.specs.Prelude.{◌≡◌, ℕ, List, Some, None, Ok, Err}
use Rattle.awk_tokens.specs.Cutting.{Spelled, IsTokens}
use Rattle.awk_grammar.specs.Trees.{Item}
use Rattle.awk_parse.specs.Scan.{scan}
use Rattle.awk_parse.specs.Parsing.{IsParsed, HasNoTree, HasNoSmallTree, IsMisplaced}
use Rattle.awk_grammar.specs.Kinds.{Refusal, refusal}
use Rattle.sem_scripts.specs.Kinds.{resolved}
use Rattle.sem_scripts.specs.ScriptRun.{Ending, Setting, resolved_run}
use Rattle.test_parts.specs.Sources.{Refused, NoTokens, NotTaken, NoTree, TooDeep, OutOfPlace, BadName}

-- the bytes have tokens, of which this is said
pub record HasTokens (bytes : List ℕ) (Says : List Spelled → Type 0) : Type 0 where
  pub tokens : List Spelled
  pub cut : IsTokens bytes (Ok tokens)
  pub said : Says tokens

-- the tokens are those of this script, and its names have kinds
pub record HasNames (script : List Item) (tokens : List Spelled) : Type 0 where
  pub parsed : IsParsed tokens script
  pub names : refusal script ≡ None

abbrev pub IsScriptOf : List ℕ → List Item → Type 0
IsScriptOf bytes script = HasTokens bytes (HasNames script)

pub record IsRunOf (bytes : List ℕ) (setting : Setting) (turns : ℕ) (ending : Ending) : Type 0 where
  pub script : List Item
  pub spelled : IsScriptOf bytes script
  pub run : resolved_run (resolved script) setting turns ≡ ending

-- the tokens are those of a script with a name that is refused
pub record HasBadName (cause : Refusal) (tokens : List Spelled) : Type 0 where
  pub script : List Item
  pub parsed : IsParsed tokens script
  pub name : refusal script ≡ Some cause

abbrev pub IsRefusedFor : List ℕ → Refused → Type 0
IsRefusedFor bytes (NoTokens fault) = IsTokens bytes (Err fault)
IsRefusedFor bytes (NotTaken fault) = HasTokens bytes (λ tokens. scan tokens ≡ Some fault)
IsRefusedFor bytes NoTree = HasTokens bytes HasNoTree
IsRefusedFor bytes TooDeep = HasTokens bytes HasNoSmallTree
IsRefusedFor bytes (OutOfPlace line) = HasTokens bytes (λ tokens. IsMisplaced tokens line)
IsRefusedFor bytes (BadName cause) = HasTokens bytes (HasBadName cause)
