-- A script from its bytes, by functions: the readers of tokens and of the grammar give its tree, and the meaning of the tree its run.
use Rattle.std.specs.Prelude.{◌≡◌, ℕ, List, Option, Some, None, Result, Ok, Err}
use Rattle.std.specs.Fmt.{digits}
use Rattle.awk_text.specs.Reading.{numeral_at, sign_at, fraction_at, exponent_at}
use Rattle.awk_text.specs.Number.{numerator, denominator}
use Rattle.awk_text.specs.Escapes.{unescaped, escaped, octal}
use Rattle.awk_tokens.specs.declared.token.TokenFault.{TokenFault}
use Rattle.awk_tokens.specs.Words.{keywords, builtins, left_out_words}
use Rattle.awk_tokens.specs.Pieces.{punctuators}
use Rattle.awk_tokens.specs.Cutting.{Spelled}
use Rattle.awk_tokens.specs.Reading.{scale_at, exponent_length, fraction_length, number_at, close_at, mark_at, joined_at, name_at, front_at}
use Rattle.test_parts.specs.TokensByKinds.{cut_by, tokens_by}
use Rattle.awk_grammar.specs.Reading.{Fault, Syntax as SyntaxFault, TooDeep as DepthFault, expr_at}
use Rattle.awk_grammar.specs.Trees.{Item}
use Rattle.awk_grammar.specs.Lexeme.{spoken}
use Rattle.awk_grammar.specs.ReadStmt.{stmt_at}
use Rattle.awk_grammar.specs.ReadItem.{script_at}
use Rattle.awk_parse.specs.declared.fault.ParseFault.{ParseFault}
use Rattle.awk_parse.specs.Scan.{scan}
use Rattle.awk_parse.specs.Parsing.{misplaced}
use Rattle.awk_grammar.specs.Kinds.{Refusal, refusal, special_arrays, special_scalars}
use Rattle.ere_syntax.specs.Scan.{table}
use Rattle.ere_syntax.specs.Readers.{sign_of}
use Rattle.world_core.specs.WorldState.{Outside, Source}
use Rattle.sem_primitives.specs.Jobs.{JobForm, Closed}
use Rattle.sem_scripts.specs.ScriptState.{spend_all}
use Rattle.sem_scripts.specs.Kinds.{resolved}
use Rattle.sem_scripts.specs.Meaning.{asked, value_of, values_of, key_of, place_of, passed, truncated_of, applied}
use Rattle.sem_scripts.specs.Statements.{loop, over_keys, plain_done, done_by, all_done, called}
use Rattle.sem_scripts.specs.Items.{items_done, begun, ended}
use Rattle.sem_scripts.specs.ScriptRun.{first_assigned, records_done, Ending, Setting, setting_of, resolved_run}

-- why bytes spell no script
pub data Refused : Type 0 where
  -- they have no tokens
  NoTokens : TokenFault → Refused
  -- a token begins something that the language leaves out, or is a number that it does not have
  NotTaken : ParseFault → Refused
  -- the tokens have no tree, or none of depth 1,000 or less
  NoTree : Refused
  TooDeep : Refused
  -- the jump on this line stands where it has no meaning
  OutOfPlace : (line : ℕ) → Refused
  -- a name is refused
  BadName : Refusal → Refused

abbrev pub by_names : List Item → Option Refusal → Result (List Item) Refused
by_names script None = Ok script
by_names script (Some cause) = Err (BadName cause)

abbrev pub by_places : List Item → Option ℕ → Result (List Item) Refused
by_places script None = by_names script (refusal script)
by_places script (Some line) = Err (OutOfPlace line)

abbrev pub by_tree : List Spelled → Result (List Item) Fault → Result (List Item) Refused
by_tree tokens (Ok script) = by_places script (misplaced script tokens)
by_tree tokens (Err SyntaxFault) = Err NoTree
by_tree tokens (Err DepthFault) = Err TooDeep

abbrev pub by_scan : List Spelled → Option ParseFault → Result (List Item) Refused
by_scan tokens None = by_tree tokens (script_at 1000 (spoken tokens))
by_scan tokens (Some fault) = Err (NotTaken fault)

abbrev pub by_tokens : Result (List Spelled) TokenFault → Result (List Item) Refused
by_tokens (Ok tokens) = by_scan tokens (scan tokens)
by_tokens (Err fault) = Err (NoTokens fault)

-- the script that bytes spell, or why they spell none
abbrev pub script_of : List ℕ → Result (List Item) Refused
script_of bytes = by_tokens (tokens_by bytes)

abbrev pub run_from : Setting → ℕ → Result (List Item) Refused → Result Ending Refused
run_from setting turns (Ok script) = Ok (resolved_run (resolved script) setting turns)
run_from setting turns (Err why) = Err why

-- the run of the script that bytes spell
abbrev pub run_in : List ℕ → Setting → ℕ → Result Ending Refused
run_in bytes setting turns = run_from setting turns (script_of bytes)

-- Forms of rows.

-- the bytes spell a script, and it runs so
abbrev pub Runs : List ℕ → JobForm → Source → Outside → ℕ → Ending → Type 0
Runs bytes job input outside turns ending = run_in bytes (setting_of job input outside) turns ≡ Ok ending

-- the same, and this is its tree
abbrev pub RunsAs : List Item → List ℕ → JobForm → Source → Outside → ℕ → Ending → Type 0
RunsAs script bytes job input outside turns ending = (script_of bytes ≡ Ok script) × Runs bytes job input outside turns ending

-- the same, where so many calls may be nested
abbrev pub RunsWithin : ℕ → List Item → List ℕ → JobForm → Source → Outside → ℕ → Ending → Type 0
RunsWithin deepest script bytes job input outside turns ending =
    (script_of bytes ≡ Ok script) × (run_in bytes (record { job = job; input = input; outside = Closed outside; deepest = deepest }) turns ≡ Ok ending)

-- the bytes spell no script, for this cause
abbrev pub IsRefused : List ℕ → Refused → Type 0
IsRefused bytes why = script_of bytes ≡ Err why

-- what computes in the rows: a row names it in place of all that stands in its line
unfoldable pub computed : {A : Type 0} → A → A
unfolding digits numeral_at sign_at fraction_at exponent_at numerator denominator unescaped escaped octal keywords builtins left_out_words punctuators
    scale_at exponent_length fraction_length number_at close_at mark_at joined_at name_at front_at cut_by expr_at stmt_at script_at
    special_arrays special_scalars table sign_of spend_all asked value_of values_of key_of place_of passed truncated_of applied loop over_keys
    plain_done done_by all_done called items_done begun ended first_assigned records_done
computed x = x
