-- The meaning of a script with marks: the meaning of statements, items and calls, by cases on the script's tree, where each execution of a statement
-- marks the spot of the statement once, as it is begun. What a statement does in several steps marks a spot for each of them. A mark is a change to
-- the output. Where nothing is marked this is the meaning of scripts, to the letter.
use Rattle.std.specs.Prelude.{ℕ, zero, suc, ◌+◌, true, false, if◌then◌else◌, List, [], ◌∷◌, map, Option, Some, None}
use Rattle.world_core.specs.WorldState.{Action}
use Rattle.sem_primitives.specs.declared.table.Primitive.TheVariants as row
use Rattle.awk_grammar.specs.Trees.{One, Between as Range, Item, Begin, End, Always, When, Lone, Pattern, Plain, NextFile, Stmt, Block, Empty, Simple, If, IfElse, While, Do, For, ForIn, Jumping, Leave, Stmts, NoStmt, And, Tree}
use Rattle.sem_scripts.specs.Items.{top, print_record, pattern_ranges, range_open, tested, reads_records}
use Rattle.sem_scripts.specs.Meaning.{Calls}
use Rattle.sem_scripts.specs.Names.{Resolved, Scope, function_at, variable_of, array_of}
use Rattle.sem_scripts.specs.ScriptRun.{Ending, Parts, Setting, as_name, run_with}
use Rattle.sem_scripts.specs.ScriptState.{State, Execution, ◌>>=◌, ◌>>◌, give, nothing, stop, look, change, Nexted, OutOfTurns, call, with_range}
use Rattle.sem_scripts.specs.Statements.{Flow, Normal, after, after_round, loop, over_keys, test_of, maybe_test, plain_done, maybe_done, done_by, entered, scope_in}
use Rattle.sem_scripts.specs.Steps.{array_number, store_variable}
use Rattle.agreement.specs.Spots.Spots.{Frame, Before, Within, AfterElse, Home, OfBegin, OfEnd, OfRecord, OfFunction, Part, Whole, First, Looping, Between, Testing, Unless, GivesUp, Leaves, PatternPart, Asked, Unmet, Opening, Already, FirstTest, Opens, StaysClosed, Inside, Entered, LastTest, Closes, StaysOpen, StatementPath, Of, OfPattern}

-- what is done to the output at each spot of an action or a function
abbrev pub Marks : Type 0
Marks = Home → StatementPath → List Action → List Action

abbrev pub no_marks : Marks
no_marks home spot output = output

abbrev pub with_mark : (List Action → List Action) → State → State
with_mark m state = record state { shared = record state.shared { output = m state.shared.output } }

abbrev pub mark : (List Action → List Action) → Execution (Unit {0})
mark m = change (with_mark m)

-- Statements.

module _ (marks : StatementPath → List Action → List Action) (scope : Scope) (n : ℕ) (calls : Calls) where
  abbrev pub passing : Stmt → Part → List Frame → Execution (Unit {0})
  passing s part w = mark (marks (Of s part w))

  -- a statement with no other one in it
  abbrev pub alone : Stmt → List Frame → Execution Flow
  alone s w = passing s Whole w >> done_by scope n calls s

  -- what a `for` does between its rounds
  abbrev pub between_marked : Stmt → Option Plain → List Frame → Execution (Unit {0})
  between_marked s None w = nothing
  between_marked s (Some p) w = passing s Between w >> plain_done scope n calls p

  unfoldable mutual
    -- a statement that stands there
    pub done_marked : Stmt → List Frame → Execution Flow
    done_marked (Block ss) w = passing (Block ss) Whole w >> all_marked ss w
    done_marked Empty w = alone Empty w
    done_marked (Simple p) w = alone (Simple p) w
    done_marked (If c s) w =
        passing (If c s) Whole w >> test_of scope n calls c >>= λ b.
        if b then done_marked s (Within (If c s) ∷ w) else (passing (If c s) Unless w >> give Normal)
    done_marked (IfElse c s t) w =
        passing (IfElse c s t) Whole w >> test_of scope n calls c >>= λ b.
        if b then done_marked s (Within (IfElse c s t) ∷ w) else done_marked t (AfterElse (IfElse c s t) ∷ w)
    done_marked (While c s) w = passing (While c s) Whole w >> loop n (test_of scope n calls c) (done_marked s (Within (While c s) ∷ w)) nothing
    done_marked (Do s c) w =
        let body = done_marked s (Within (Do s c) ∷ w) in
        let test = passing (Do s c) Testing w >> test_of scope n calls c in
        let between = passing (Do s c) Between w in
        passing (Do s c) Whole w >> body >>= λ flow. after_round flow (between >> loop n test body between)
    done_marked (For i c p s) w =
        let body = done_marked s (Within (For i c p s) ∷ w) in
        passing (For i c p s) Whole w >> passing (For i c p s) First w >> maybe_done scope n calls i >>
        passing (For i c p s) Looping w >> loop n (maybe_test scope n calls c) body (between_marked (For i c p s) p w)
    done_marked (ForIn k a s) w =
        passing (ForIn k a s) Whole w >> array_number (array_of scope a) >>= λ i. call row.Iter (i, tt) >>= λ keys.
        over_keys n keys (store_variable (variable_of scope k)) (done_marked s (Within (ForIn k a s) ∷ w))
    done_marked (Jumping NextFile) w =
        let s = Jumping NextFile in
        passing s Whole w >> passing s GivesUp w >> call row.NextFile tt >> passing s Leaves w >> stop Nexted
    done_marked (Jumping j) w = alone (Jumping j) w
    done_marked (Leave l t) w = alone (Leave l t) w

    pub all_marked : Stmts → List Frame → Execution Flow
    all_marked NoStmt w = give Normal
    all_marked (And s ss) w = done_marked s (Before ss ∷ w) >>= λ flow. after flow (all_marked ss w)

-- Calls, at most n of which are nested; each has cost a turn.

unfoldable pub marked_called : Marks → Resolved → ℕ → Calls
marked_called marks script zero f locals = stop OutOfTurns
marked_called marks script (suc n) f locals =
    let g = function_at script.functions f in
    entered locals (all_marked (marks (OfFunction f)) (scope_in script g) n (marked_called marks script n) g.body [])

-- Items. An action is a block of statements.

module _ (marks : Marks) (scope : Scope) (n : ℕ) (calls : Calls) where
  abbrev pub action_marked : Home → Stmts → Execution Flow
  action_marked home ss = done_marked (marks home) scope n calls (Block ss) []

  abbrev pub asking : Home → PatternPart → Execution (Unit {0})
  asking home part = mark (marks home (OfPattern part))

  -- a range that is not open opens where its first pattern is true
  abbrev pub opens_marked : Home → ℕ → Tree → Execution (Unit {0})
  opens_marked home i t =
      asking home Opening >> look (range_open i) >>= λ already. if already then asking home Already else
      (asking home FirstTest >> tested scope n calls t >>= λ b. if b then (asking home Opens >> change (with_range i true)) else asking home StaysClosed)

  -- and where it is open, it closes if the second is
  abbrev pub closes_marked : Home → ℕ → Tree → Execution (Unit {0})
  closes_marked home i u = asking home LastTest >> tested scope n calls u >>= λ b. if b then (asking home Closes >> change (with_range i false)) else
      asking home StaysOpen

  -- an action where its pattern is met, which is the i-th range if it is one
  abbrev pub where_marked : Home → ℕ → Pattern → Execution Flow → Execution Flow
  where_marked home i (One t) action = asking home Asked >> tested scope n calls t >>= λ b. if b then action else (asking home Unmet >> give Normal)
  where_marked home i (Range t u) action =
      asking home Asked >> opens_marked home i t >> asking home Inside >> look (range_open i) >>= λ now.
      if now then (asking home Entered >> closes_marked home i u >> action) else (asking home Unmet >> give Normal)

  -- items for a record, where the first range among them is the i-th
  unfoldable pub items_marked : ℕ → List Item → Execution Flow
  items_marked i [] = give Normal
  items_marked i (Always ss ∷ items) = action_marked (OfRecord i None ss items) ss >>= λ flow. after flow (items_marked i items)
  items_marked i (When p ss ∷ items) =
      let home = OfRecord i (Some p) ss items in
      where_marked home i p (action_marked home ss) >>= λ flow. after flow (items_marked (pattern_ranges p + i) items)
  items_marked i (Lone p ∷ items) =
      let home = OfRecord i (Some p) print_record items in
      where_marked home i p (action_marked home print_record) >>= λ flow. after flow (items_marked (pattern_ranges p + i) items)
  items_marked i (_ ∷ items) = items_marked i items

  -- the actions of BEGIN, and those of END
  unfoldable pub begun_marked : List Item → Execution Flow
  begun_marked [] = give Normal
  begun_marked (Begin ss ∷ items) = action_marked (OfBegin items) ss >>= λ flow. after flow (begun_marked items)
  begun_marked (_ ∷ items) = begun_marked items

  unfoldable pub ended_marked : List Item → Execution Flow
  ended_marked [] = give Normal
  ended_marked (End ss ∷ items) = action_marked (OfEnd items) ss >>= λ flow. after flow (ended_marked items)
  ended_marked (_ ∷ items) = ended_marked items

-- Whole scripts.

abbrev pub marked_parts : Marks → ℕ → Resolved → Parts
marked_parts marks n script =
    let calls = marked_called marks script n in
    record {
      globals = script.globals;
      functions = map as_name script.functions;
      begin = begun_marked marks (top script) n calls script.items >> nothing;
      reads = reads_records script.items;
      items = items_marked marks (top script) n calls 0 script.items >> nothing;
      end = ended_marked marks (top script) n calls script.items >> nothing;
    }

abbrev pub marked_run : Marks → Resolved → Setting → ℕ → Ending
marked_run marks script setting turns = run_with setting turns (marked_parts marks turns script)
