-- Where nothing is marked, the meaning with marks is the meaning of scripts.
use Rattle.std.proofs.Common.{◌≡◌, ℕ, zero, suc, ◌+◌, List, [], ◌∷◌, Option, Some, None, map, refl, ap, ◌∙◌}
use Rattle.std.specs.Prelude.{if◌then◌else◌}
use Rattle.sem_primitives.specs.declared.table.Primitive.TheVariants as row
use Rattle.awk_grammar.specs.Trees as item
use Rattle.awk_grammar.specs.Trees.{Item, Pattern, Stmt, Stmts, NoStmt, And}
use Rattle.sem_scripts.specs.Items.{print_record, pattern_ranges, reads_records, top, where_met, items_done, begun, ended}
use Rattle.sem_scripts.specs.Meaning.{Calls}
use Rattle.sem_scripts.specs.Names.{Resolved, Scope, array_of, function_at, variable_of}
use Rattle.sem_scripts.specs.ScriptRun.{Setting, as_name, parts_of, resolved_run, run_with}
use Rattle.sem_scripts.specs.ScriptState.{Execution, ◌>>=◌, ◌>>◌, give, nothing, call}
use Rattle.sem_scripts.specs.Statements.{Flow, Normal, after, after_round, loop, over_keys, test_of, maybe_test, maybe_done, done_by, all_done, called, entered, scope_in}
use Rattle.sem_scripts.specs.Steps.{array_number, store_variable}
use Rattle.agreement.specs.Spots.Marked.{no_marks, between_marked, done_marked, all_marked, marked_called, where_marked, items_marked, begun_marked, ended_marked, marked_parts, marked_run}
use Rattle.agreement.specs.Spots.Spots.{Frame, Before, Within, AfterElse, Home, OfBegin, OfEnd, OfRecord, OfFunction}

module _ (home : Home) (scope : Scope) (n : ℕ) (calls : Calls) where
  silent_between : (s : Stmt) (p : Option item.Plain) (w : List Frame) → between_marked (no_marks home) scope n calls s p w ≡ maybe_done scope n calls p
  silent_between s None w = refl
  silent_between s (Some p) w = refl

  mutual
    unfolding done_marked all_marked done_by all_done

    silent_statement : (s : Stmt) (w : List Frame) → done_marked (no_marks home) scope n calls s w ≡ done_by scope n calls s
    silent_statement (item.Block ss) w = silent_statements ss w
    silent_statement item.Empty w = refl
    silent_statement (item.Simple p) w = refl
    silent_statement (item.If c s) w = λ i. test_of scope n calls c >>= λ b. if b then silent_statement s (Within (item.If c s) ∷ w) i else give Normal
    silent_statement (item.IfElse c s t) w =
        λ i. test_of scope n calls c >>= λ b. if b then silent_statement s (Within (item.IfElse c s t) ∷ w) i else silent_statement t (AfterElse (item.IfElse c s t) ∷ w) i
    silent_statement (item.While c s) w = λ i. loop n (test_of scope n calls c) (silent_statement s (Within (item.While c s) ∷ w) i) nothing
    silent_statement (item.Do s c) w =
        let body = silent_statement s (Within (item.Do s c) ∷ w) in
        λ i. body i >>= λ flow. after_round flow (loop n (test_of scope n calls c) (body i) nothing)
    silent_statement (item.For i c p s) w =
        λ j. maybe_done scope n calls i >> loop n (maybe_test scope n calls c) (silent_statement s (Within (item.For i c p s) ∷ w) j) (silent_between (item.For i c p s) p w j)
    silent_statement (item.ForIn k a s) w =
        λ j. array_number (array_of scope a) >>= λ i. call row.Iter (i, tt) >>= λ keys. over_keys n keys (store_variable (variable_of scope k)) (silent_statement s (Within (item.ForIn k a s) ∷ w) j)
    silent_statement (item.Jumping item.Break) w = refl
    silent_statement (item.Jumping item.Continue) w = refl
    silent_statement (item.Jumping item.Next) w = refl
    silent_statement (item.Jumping item.NextFile) w = refl
    silent_statement (item.Leave l t) w = refl

    silent_statements : (ss : Stmts) (w : List Frame) → all_marked (no_marks home) scope n calls ss w ≡ all_done scope n calls ss
    silent_statements NoStmt w = refl
    silent_statements (And s ss) w = λ i. silent_statement s (Before ss ∷ w) i >>= λ flow. after flow (silent_statements ss w i)

silent_called : (script : Resolved) (n : ℕ) → marked_called no_marks script n ≡ called script n
unfolding marked_called called
silent_called script zero = refl
silent_called script (suc n) = λ i f locals.
    let g = function_at script.functions f in
    entered locals ((silent_statements (OfFunction f) (scope_in script g) n (marked_called no_marks script n) g.body [] ∙ ap (λ (calls : Calls). all_done (scope_in script g) n calls g.body) (silent_called script n)) i)

module _ (scope : Scope) (n : ℕ) (calls : Calls) where
  silent_action : (home : Home) (ss : Stmts) → done_marked (no_marks home) scope n calls (item.Block ss) [] ≡ all_done scope n calls ss
  unfolding done_by
  silent_action home ss = silent_statement home scope n calls (item.Block ss) []

  silent_where : (home : Home) (i : ℕ) (p : Pattern) (action : Execution Flow) → where_marked no_marks scope n calls home i p action ≡ where_met scope n calls i p action
  silent_where home i (item.One t) action = refl
  silent_where home i (item.Between t u) action = refl

  silent_pattern : (home : Home) (i : ℕ) (p : Pattern) (ss : Stmts) → where_marked no_marks scope n calls home i p (done_marked (no_marks home) scope n calls (item.Block ss) []) ≡ where_met scope n calls i p (all_done scope n calls ss)
  silent_pattern home i p ss = silent_where home i p (done_marked (no_marks home) scope n calls (item.Block ss) []) ∙ ap (where_met scope n calls i p) (silent_action home ss)

  silent_items : (i : ℕ) (is : List Item) → items_marked no_marks scope n calls i is ≡ items_done scope n calls i is
  unfolding items_marked items_done
  silent_items i [] = refl
  silent_items i (item.Always ss ∷ is) = λ j. silent_action (OfRecord i None ss is) ss j >>= λ flow. after flow (silent_items i is j)
  silent_items i (item.When p ss ∷ is) = λ j. silent_pattern (OfRecord i (Some p) ss is) i p ss j >>= λ flow. after flow (silent_items (pattern_ranges p + i) is j)
  silent_items i (item.Lone p ∷ is) = λ j. silent_pattern (OfRecord i (Some p) print_record is) i p print_record j >>= λ flow. after flow (silent_items (pattern_ranges p + i) is j)
  silent_items i (item.Function f ps ss ∷ is) = silent_items i is
  silent_items i (item.Begin ss ∷ is) = silent_items i is
  silent_items i (item.End ss ∷ is) = silent_items i is
  silent_items i (item.Nothing ∷ is) = silent_items i is

  silent_begun : (is : List Item) → begun_marked no_marks scope n calls is ≡ begun scope n calls is
  unfolding begun_marked begun
  silent_begun [] = refl
  silent_begun (item.Begin ss ∷ is) = λ j. silent_action (OfBegin is) ss j >>= λ flow. after flow (silent_begun is j)
  silent_begun (item.Function f ps ss ∷ is) = silent_begun is
  silent_begun (item.End ss ∷ is) = silent_begun is
  silent_begun (item.Always ss ∷ is) = silent_begun is
  silent_begun (item.When p ss ∷ is) = silent_begun is
  silent_begun (item.Lone p ∷ is) = silent_begun is
  silent_begun (item.Nothing ∷ is) = silent_begun is

  silent_ended : (is : List Item) → ended_marked no_marks scope n calls is ≡ ended scope n calls is
  unfolding ended_marked ended
  silent_ended [] = refl
  silent_ended (item.End ss ∷ is) = λ j. silent_action (OfEnd is) ss j >>= λ flow. after flow (silent_ended is j)
  silent_ended (item.Function f ps ss ∷ is) = silent_ended is
  silent_ended (item.Begin ss ∷ is) = silent_ended is
  silent_ended (item.Always ss ∷ is) = silent_ended is
  silent_ended (item.When p ss ∷ is) = silent_ended is
  silent_ended (item.Lone p ∷ is) = silent_ended is
  silent_ended (item.Nothing ∷ is) = silent_ended is

silent_parts : (script : Resolved) (n : ℕ) → marked_parts no_marks n script ≡ parts_of n script
silent_parts script n = λ i. record {
  globals = script.globals;
  functions = map as_name script.functions;
  begin = (silent_begun (top script) n (marked_called no_marks script n) script.items ∙ ap (λ (calls : Calls). begun (top script) n calls script.items) (silent_called script n)) i >> nothing;
  reads = reads_records script.items;
  items = (silent_items (top script) n (marked_called no_marks script n) zero script.items ∙ ap (λ (calls : Calls). items_done (top script) n calls zero script.items) (silent_called script n)) i >> nothing;
  end = (silent_ended (top script) n (marked_called no_marks script n) script.items ∙ ap (λ (calls : Calls). ended (top script) n calls script.items) (silent_called script n)) i >> nothing;
}

pub silent_run : (script : Resolved) (s : Setting) (turns : ℕ) → marked_run no_marks script s turns ≡ resolved_run script s turns
silent_run script s turns = ap (run_with s turns) (silent_parts script turns)
