-- What is read from bytes means what the definitions say.
use Rattle.std.proofs.Common.{◌≡◌, ℕ, List, Option, Some, None, Result, Ok, Err, refl, sym, ap, subst, ◌∙◌}
use Rattle.awk_tokens.specs.declared.token.TokenFault.{TokenFault}
use Rattle.awk_tokens.specs.Cutting.{Spelled, IsTokens}
use Rattle.awk_tokens.proofs.Whole.{one_outcome, read_is_tokens}
use Rattle.awk_grammar.specs.Reading.{Fault, Syntax, TooDeep as DepthFault}
use Rattle.awk_grammar.specs.Trees.{Item}
use Rattle.awk_grammar.specs.Lexeme.{spoken}
use Rattle.awk_grammar.specs.ReadItem.{script_at}
use Rattle.awk_grammar.proofs.ItemComplete.{script_again}
use Rattle.awk_parse.specs.declared.fault.ParseFault.{ParseFault}
use Rattle.awk_parse.specs.Scan.{scan}
use Rattle.awk_parse.specs.Parsing.{IsParsed, misplaced}
use Rattle.awk_parse.proofs.Parsing.{parsed_of, no_tree, no_small_tree, is_misplaced}
use Rattle.awk_grammar.specs.Kinds.{Refusal, refusal}
use Rattle.sem_scripts.specs.Kinds.{resolved}
use Rattle.sem_scripts.specs.ScriptRun.{Ending, Setting, resolved_run}
use Rattle.test_parts.specs.Sources.{Refused, by_names, by_places, by_tree, by_scan, by_tokens, script_of, run_from, run_in}
use Rattle.test_parts.specs.TokensByKinds.{tokens_by}
use Rattle.test_parts.proofs.CutByKinds.{tokens_same}
use Rattle.test_parts.specs.Meant.{IsScriptOf, IsRefusedFor, IsRunOf}

abbrev pub Says : List ℕ → Result (List Item) Refused → Type 0
Says bytes (Ok script) = IsScriptOf bytes script
Says bytes (Err why) = IsRefusedFor bytes why

names_say : (bytes : List ℕ) (ts : List Spelled) (s : List Item) → IsTokens bytes (Ok ts) → IsParsed ts s → (o : Option Refusal) → refusal s ≡ o →
    Says bytes (by_names s o)
names_say bytes ts s cut p None e = record { tokens = ts; cut = cut; said = record { parsed = p; names = e } }
names_say bytes ts s cut p (Some cause) e = record { tokens = ts; cut = cut; said = record { script = s; parsed = p; name = e } }

places_say : (bytes : List ℕ) (ts : List Spelled) (s : List Item) → IsTokens bytes (Ok ts) → scan ts ≡ None → script_at 1000 (spoken ts) ≡ Ok s →
    (o : Option ℕ) → misplaced s ts ≡ o → Says bytes (by_places s o)
places_say bytes ts s cut whole read None e = names_say bytes ts s cut (parsed_of ts s whole read e) (refusal s) refl
places_say bytes ts s cut whole read (Some line) e = record { tokens = ts; cut = cut; said = is_misplaced ts s line whole read e }

tree_says : (bytes : List ℕ) (ts : List Spelled) → IsTokens bytes (Ok ts) → scan ts ≡ None → (r : Result (List Item) Fault) →
    script_at 1000 (spoken ts) ≡ r → Says bytes (by_tree ts r)
tree_says bytes ts cut whole (Ok s) e = places_say bytes ts s cut whole e (misplaced s ts) refl
tree_says bytes ts cut whole (Err Syntax) e = record { tokens = ts; cut = cut; said = no_tree ts whole e }
tree_says bytes ts cut whole (Err DepthFault) e = record { tokens = ts; cut = cut; said = no_small_tree ts whole e }

scan_says : (bytes : List ℕ) (ts : List Spelled) → IsTokens bytes (Ok ts) → (o : Option ParseFault) → scan ts ≡ o → Says bytes (by_scan ts o)
scan_says bytes ts cut None e = tree_says bytes ts cut e (script_at 1000 (spoken ts)) refl
scan_says bytes ts cut (Some fault) e = record { tokens = ts; cut = cut; said = e }

tokens_say : (bytes : List ℕ) (r : Result (List Spelled) TokenFault) → IsTokens bytes r → Says bytes (by_tokens r)
tokens_say bytes (Ok ts) cut = scan_says bytes ts cut (scan ts) refl
tokens_say bytes (Err fault) cut = cut

read_by_kinds : (bytes : List ℕ) → IsTokens bytes (tokens_by bytes)
read_by_kinds bytes = subst (IsTokens bytes) (sym (tokens_same bytes)) (read_is_tokens bytes)

read_says : (bytes : List ℕ) → Says bytes (script_of bytes)
read_says bytes = tokens_say bytes (tokens_by bytes) (read_by_kinds bytes)

pub says : (bytes : List ℕ) (r : Result (List Item) Refused) → script_of bytes ≡ r → Says bytes r
says bytes r e = subst (Says bytes) e (read_says bytes)

-- the script that bytes spell is read

again : (ts : List Spelled) (s : List Item) → IsParsed ts s → script_at 1000 (spoken ts) ≡ Ok s
again ts s p = ap (script_at 1000) (sym p.read.tree.parts) ∙ script_again s 1000 p.read.tree.fine p.read.small

pub reads : (bytes : List ℕ) (s : List Item) → IsScriptOf bytes s → script_of bytes ≡ Ok s
reads bytes s h =
    ap by_tokens (one_outcome bytes (tokens_by bytes) (Ok h.tokens) (read_by_kinds bytes) h.cut) ∙
    (ap (by_scan h.tokens) h.said.parsed.whole ∙
    (ap (by_tree h.tokens) (again h.tokens s h.said.parsed) ∙
    (ap (by_places s) h.said.parsed.placed ∙ ap (by_names s) h.said.names)))

-- runs

abbrev ended : Ending → Result Ending Refused
ended e = Ok e

same_ending : (a b : Ending) → ended a ≡ ended b → a ≡ b
same_ending a b e = cc

run_of_read : (bytes : List ℕ) (setting : Setting) (turns : ℕ) (ending : Ending) (r : Result (List Item) Refused) → script_of bytes ≡ r →
    run_from setting turns r ≡ Ok ending → IsRunOf bytes setting turns ending
run_of_read bytes setting turns ending (Ok s) e h =
    record { script = s; spelled = says bytes (Ok s) e; run = same_ending (resolved_run (resolved s) setting turns) ending h }
run_of_read bytes setting turns ending (Err why) e h = absurd cc

pub run_means : (bytes : List ℕ) (setting : Setting) (turns : ℕ) (ending : Ending) → run_in bytes setting turns ≡ Ok ending → IsRunOf bytes setting turns ending
run_means bytes setting turns ending h = run_of_read bytes setting turns ending (script_of bytes) refl h

pub run_is : (bytes : List ℕ) (setting : Setting) (turns : ℕ) (ending : Ending) → IsRunOf bytes setting turns ending → run_in bytes setting turns ≡ Ok ending
run_is bytes setting turns ending h = ap (run_from setting turns) (reads bytes h.script h.spelled) ∙ ap ended h.run
