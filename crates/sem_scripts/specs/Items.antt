-- The meaning of items (POSIX.1-2017 awk, "Overall Program Structure", "Patterns").
use Rattle.std.specs.Prelude.{ℕ, ◌+◌, Bool, true, false, if◌then◌else◌, List, [], ◌∷◌}
use Rattle.awk_grammar.specs.Trees.{Tree, Print, NoArgs, NoTarget, Put, Simple, Stmts, NoStmt, And, Pattern, One, Between, Item, Function, Begin, End, Always, When, Lone, Nothing}
use Rattle.sem_scripts.specs.Names.{Resolved, Scope}
use Rattle.sem_scripts.specs.ScriptState.{State, Execution, ◌>>=◌, ◌>>◌, give, nothing, look, change, with_range}
use Rattle.sem_scripts.specs.Meaning.{Calls}
use Rattle.sem_scripts.specs.Statements.{Flow, Normal, after, test_of, all_done}

-- without an action: `print $0`
abbrev pub print_record : Stmts
print_record = And (Simple (Put Print NoArgs NoTarget)) NoStmt

-- in no function
abbrev pub top : Resolved → Scope
top script = record { script = script; parameters = [] }

-- The ranges of a script are numbered in their order: a pattern of two is one.
abbrev pub pattern_ranges : Pattern → ℕ
pattern_ranges (One t) = 0
pattern_ranges (Between t u) = 1

abbrev pub range_open : ℕ → State → Bool
range_open i state = state.ranges i

module _ (scope : Scope) (n : ℕ) (calls : Calls) where
  abbrev pub tested : Tree → Execution Bool
  tested t = test_of scope n calls t

  -- a range that is not open opens where its first pattern is true
  abbrev pub range_opens : ℕ → Tree → Execution (Unit {0})
  range_opens i t = look (range_open i) >>= λ already. if already then nothing else (tested t >>= λ b. if b then change (with_range i true) else nothing)

  -- and where it is open, it closes if the second is
  abbrev pub range_closes : ℕ → Tree → Execution (Unit {0})
  range_closes i u = tested u >>= λ b. if b then change (with_range i false) else nothing

  -- an action where its pattern is met, which is the i-th range if it is one
  abbrev pub where_met : ℕ → Pattern → Execution Flow → Execution Flow
  where_met i (One t) action = tested t >>= λ b. if b then action else give Normal
  where_met i (Between t u) action = range_opens i t >> look (range_open i) >>= λ now. if now then (range_closes i u >> action) else give Normal

  -- items for a record, where the first range among them is the i-th
  unfoldable pub items_done : ℕ → List Item → Execution Flow
  items_done i [] = give Normal
  items_done i (Always ss ∷ items) = all_done scope n calls ss >>= λ flow. after flow (items_done i items)
  items_done i (When p ss ∷ items) = where_met i p (all_done scope n calls ss) >>= λ flow. after flow (items_done (pattern_ranges p + i) items)
  items_done i (Lone p ∷ items) = where_met i p (all_done scope n calls print_record) >>= λ flow. after flow (items_done (pattern_ranges p + i) items)
  items_done i (_ ∷ items) = items_done i items

  -- the actions of BEGIN, and those of END
  unfoldable pub begun : List Item → Execution Flow
  begun [] = give Normal
  begun (Begin ss ∷ items) = all_done scope n calls ss >>= λ flow. after flow (begun items)
  begun (_ ∷ items) = begun items

  unfoldable pub ended : List Item → Execution Flow
  ended [] = give Normal
  ended (End ss ∷ items) = all_done scope n calls ss >>= λ flow. after flow (ended items)
  ended (_ ∷ items) = ended items

-- whether there are items for which records are read
abbrev pub reads_records : List Item → Bool
reads_records [] = false
reads_records (Function f ps ss ∷ items) = reads_records items
reads_records (Begin ss ∷ items) = reads_records items
reads_records (Nothing ∷ items) = reads_records items
reads_records (_ ∷ items) = true
