-- All that is found in a script.
use Rattle.std.specs.Prelude.{◌≡◌, ◌≢◌, ℕ, ◌+◌, Bool, true, false, not, ◌&&◌, ◌||◌, if◌then◌else◌, List, [], ◌∷◌, ◌++◌, length, map, Option, Some, None, Ok, Err, codes, slice_get}
use Rattle.awk_grammar.specs.Trees.{Item}
use Rattle.awk_grammar.specs.Kinds.{Name, Refusal, refusal, resolved, same_name}
use Rattle.awk_parse.specs.Parsing.{IsParsed, IsRefused}
use Rattle.awk_parse.specs.declared.fault.ParseFault.{ParseFault}
use Rattle.awk_parse.specs.declared.fault.ParseFault.TheVariants.{NoMemory}
use Rattle.awk_tokens.specs.Cutting.{IsTokens}
use Rattle.awk_tokens.specs.Views.{spelled}
use Rattle.awk_tokens.specs.declared.token.Punctuator.TheVariants.{Greater}
use Rattle.awk_tokens.specs.declared.token.Token.{Token}
use Rattle.awk_tokens.specs.declared.token.TokenFault.{TokenFault}
use Rattle.awk_tokens.specs.declared.token.TokenKind.{TokenKind}
use Rattle.awk_tokens.specs.declared.token.TokenKind.TheVariants.{Punctuator as Sign, Str}
use Rattle.script_check.specs.declared.matter.Matter.{Matter}
use Rattle.script_check.specs.declared.matter.Matter.TheVariants.{UnknownFunction, ArgCount}
use Rattle.script_check.specs.declared.uses.Use.{Use}
use Rattle.script_check.specs.Layout.{Layout, collected, found_at, kind_at, layout, numbered, text_at, use_found}
use Rattle.script_check.specs.Matters.{matters}
use Rattle.script_check.specs.Refused.{AreEres, refused_found}
use Rattle.script_check.specs.Remarks.{Found, Remark, matter_remark, warning}
use Rattle.script_check.specs.Troubles.{refusal_found}
use Rattle.script_check.specs.Uncut.{IsUncut}
use Rattle.script_check.specs.Uses.{script_uses}
use Rattle.script_check.specs.View.{view_uses}

-- ---- what is said of each use

abbrev pub is_refusal : Matter → Bool
is_refusal UnknownFunction = true
is_refusal ArgCount = true
is_refusal _ = false

-- a refusal, if those are wanted, or else a slip
abbrev pub is_wanted : (refusals : Bool) → Matter → Bool
is_wanted refusals m = if refusals then is_refusal m else not (is_refusal m)

abbrev pub matter_found : Layout → (refusals : Bool) → ℕ → Option Matter → Option Found
matter_found lay refusals i None = None
matter_found lay refusals i (Some m) = if is_wanted refusals m then use_found lay i (matter_remark m) else None

abbrev pub matter_in : Option (Option Matter) → Option Matter
matter_in None = None
matter_in (Some m) = m

abbrev pub matters_found : Layout → (refusals : Bool) → List (Option Matter) → List Found
matters_found lay refusals ms = collected (λ i. matter_found lay refusals i (matter_in (slice_get ms i))) (length ms)

-- first the refusals
abbrev pub all_found : Layout → List (Option Matter) → List Found
all_found lay ms = matters_found lay true ms ++ matters_found lay false ms

-- ---- names

-- the variables of the whole script, if it is not refused for its names
abbrev pub globals_of : List Item → Option Refusal → List Name
globals_of items None = (resolved items).globals
globals_of items (Some r) = []

abbrev pub uses_found : Layout → List Item → List Use → List Name → List Found
uses_found lay items us globals = all_found lay (matters items globals us (length us))

-- what the refusal for a name means, and what is said of each use
abbrev pub names_found : Layout → List Item → List Use → List Found
names_found lay items us = refusal_found lay items (view_uses us) (refusal items) ++ uses_found lay items us (globals_of items (refusal items))

-- ---- names of streams

abbrev pub is_write : Option TokenKind → Bool
is_write (Some (Sign Greater)) = true
is_write _ = false

abbrev pub is_text : Option TokenKind → Bool
is_text (Some Str) = true
is_text _ = false

abbrev pub is_stream_text : List ℕ → Bool
is_stream_text text = same_name text (codes "\"/dev/stderr\"") || same_name text (codes "\"/dev/stdout\"")

-- the name of a stream behind a `>`
abbrev pub is_stream : List Token → ℕ → Bool
is_stream tokens i = is_write (kind_at tokens i) && (is_text (kind_at tokens (i + 1)) && is_stream_text (text_at tokens (i + 1)))

abbrev pub stream_remark : List ℕ → Remark
stream_remark name = warning name (codes "names a file without --streams, and > empties it")

abbrev pub stream_found : Layout → ℕ → Option Found
stream_found lay i = if is_stream lay.tokens i then Some (found_at lay (i + 1) (stream_remark (text_at lay.tokens (i + 1)))) else None

abbrev pub streams_found : Layout → List Found
streams_found lay = collected (stream_found lay) (length lay.tokens)

-- ---- a whole script

-- of a script that has this tree: its regular expressions, its names, and names of streams
pub record AreOfTree (lay : Layout) (items : List Item) (found : List Found) : Type 0 where
  pub eres : List Found
  pub are_eres : AreEres lay (length lay.tokens) eres
  pub uses : List Use
  pub are_uses : view_uses uses ≡ script_uses items
  pub whole : found ≡ eres ++ (names_found lay items uses ++ streams_found lay)

pub data AreFound (script : List ℕ) : List Found → Type 0 where
  -- it is not cut into tokens
  uncut : (fault : TokenFault) (found : Found) → IsTokens script (Err fault) → IsUncut script fault found → AreFound script (found ∷ [])
  -- its tokens have no tree
  refused : (tokens : List Token) (fault : ParseFault) → IsTokens script (Ok (map spelled tokens)) → fault ≢ NoMemory → IsRefused (numbered tokens) fault → AreFound script (refused_found (layout script tokens) fault)
  -- its tokens have this tree
  of_tree : (tokens : List Token) (items : List Item) (found : List Found) → IsTokens script (Ok (map spelled tokens)) → IsParsed (numbered tokens) items → AreOfTree (layout script tokens) items found → AreFound script found
