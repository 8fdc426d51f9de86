-- What the items of a script do, as rules (POSIX.1-2017 awk, "Overall Program Structure", "Patterns").
use Rattle.std.specs.Prelude.{◌≡◌, ℕ, ◌+◌, true, false, List, [], ◌∷◌, Some}
use Rattle.awk_grammar.specs.Trees.{Tree, Stmts, NoStmt, Pattern, One, Between, Item, Function, Begin, End, Always, When, Lone, Nothing}
use Rattle.sem_scripts.specs.Names.{Scope}
use Rattle.sem_scripts.specs.ScriptState.{State, Stop, Outcome, Gives, Stops, with_range}
use Rattle.sem_scripts.specs.Statements.{Flow, Normal}
use Rattle.sem_scripts.specs.Items.{print_record, pattern_ranges}
use Rattle.agreement.specs.BigStep.Rules.{Leaves, Tests, DoesAll}

-- A range that is open stays so, without a test. One that is not open evaluates its first pattern, and opens if that is true.
pub data Opens (scope : Scope) (i : ℕ) (t : Tree) : State → Outcome (Unit {0}) → Type 0 where
  already_open : {s : State} → s.ranges i ≡ true → Opens scope i t s (Gives tt s)
  now_opens : {s s1 : State} → s.ranges i ≡ false → Tests scope (Some t) s (Gives true s1) → Opens scope i t s (Gives tt (with_range i true s1))
  stays_shut : {s s1 : State} → s.ranges i ≡ false → Tests scope (Some t) s (Gives false s1) → Opens scope i t s (Gives tt s1)
  opening_stops : {s s1 : State} {why : Stop} → s.ranges i ≡ false → Tests scope (Some t) s (Stops why s1) → Opens scope i t s (Stops why s1)

-- An open range evaluates its second pattern, for the record that opens it too, and closes if that is true.
pub data Closes (scope : Scope) (i : ℕ) (t : Tree) : State → Outcome (Unit {0}) → Type 0 where
  now_closes : {s s1 : State} → Tests scope (Some t) s (Gives true s1) → Closes scope i t s (Gives tt (with_range i false s1))
  stays_open : {s s1 : State} → Tests scope (Some t) s (Gives false s1) → Closes scope i t s (Gives tt s1)
  closing_stops : {s s1 : State} {why : Stop} → Tests scope (Some t) s (Stops why s1) → Closes scope i t s (Stops why s1)

-- an action with its pattern, which is the i-th range if it is one
pub data Acts (scope : Scope) (i : ℕ) (action : Stmts) : Pattern → State → Outcome Flow → Type 0 where
  met : {t : Tree} {s s1 : State} {o : Outcome Flow} → Tests scope (Some t) s (Gives true s1) → DoesAll scope action s1 o
      → Acts scope i action (One t) s o
  not_met : {t : Tree} {s s1 : State} → Tests scope (Some t) s (Gives false s1) → Acts scope i action (One t) s (Gives Normal s1)
  meeting_stops : {t : Tree} {s s1 : State} {why : Stop} → Tests scope (Some t) s (Stops why s1) → Acts scope i action (One t) s (Stops why s1)
  -- the action runs for the record that opens the range, for the one that closes it, and for those between them
  in_range : {t u : Tree} {s s1 s2 : State} {o : Outcome Flow} → Opens scope i t s (Gives tt s1) → s1.ranges i ≡ true
      → Closes scope i u s1 (Gives tt s2) → DoesAll scope action s2 o → Acts scope i action (Between t u) s o
  not_in_range : {t u : Tree} {s s1 : State} → Opens scope i t s (Gives tt s1) → s1.ranges i ≡ false
      → Acts scope i action (Between t u) s (Gives Normal s1)
  range_first_stops : {t u : Tree} {s s1 : State} {why : Stop} → Opens scope i t s (Stops why s1) → Acts scope i action (Between t u) s (Stops why s1)
  range_second_stops : {t u : Tree} {s s1 s2 : State} {why : Stop} → Opens scope i t s (Gives tt s1) → s1.ranges i ≡ true
      → Closes scope i u s1 (Stops why s2) → Acts scope i action (Between t u) s (Stops why s2)

-- What an item does for a record. One without a pattern always acts, one without an action prints the record, and the others do nothing.
pub data DoesItem (scope : Scope) (i : ℕ) : Item → State → Outcome Flow → Type 0 where
  always : {ss : Stmts} {s : State} {o : Outcome Flow} → DoesAll scope ss s o → DoesItem scope i (Always ss) s o
  when : {p : Pattern} {ss : Stmts} {s : State} {o : Outcome Flow} → Acts scope i ss p s o → DoesItem scope i (When p ss) s o
  lone : {p : Pattern} {s : State} {o : Outcome Flow} → Acts scope i print_record p s o → DoesItem scope i (Lone p) s o
  function_item : {f : List ℕ} {ps : List (List ℕ)} {ss : Stmts} {s : State} → DoesItem scope i (Function f ps ss) s (Gives Normal s)
  begin_item : {ss : Stmts} {s : State} → DoesItem scope i (Begin ss) s (Gives Normal s)
  end_item : {ss : Stmts} {s : State} → DoesItem scope i (End ss) s (Gives Normal s)
  no_item : {s : State} → DoesItem scope i Nothing s (Gives Normal s)

-- the number of the first range after an item: a pattern of two is a range
abbrev pub next_range : Item → ℕ → ℕ
next_range (When p ss) i = pattern_ranges p + i
next_range (Lone p) i = pattern_ranges p + i
next_range item i = i

-- The items for a record, in their order, where the first range among them is the i-th.
pub data DoesItems (scope : Scope) : ℕ → List Item → State → Outcome Flow → Type 0 where
  no_items : {i : ℕ} {s : State} → DoesItems scope i [] s (Gives Normal s)
  next_item : {i : ℕ} {item : Item} {items : List Item} {s s1 : State} {o : Outcome Flow} → DoesItem scope i item s (Gives Normal s1)
      → DoesItems scope (next_range item i) items s1 o → DoesItems scope i (item ∷ items) s o
  item_leaves : {i : ℕ} {item : Item} {items : List Item} {s s1 : State} {flow : Flow} → DoesItem scope i item s (Gives flow s1) → Leaves flow
      → DoesItems scope i (item ∷ items) s (Gives flow s1)
  item_stops : {i : ℕ} {item : Item} {items : List Item} {s s1 : State} {why : Stop} → DoesItem scope i item s (Stops why s1)
      → DoesItems scope i (item ∷ items) s (Stops why s1)

-- The actions of BEGIN, and those of END.
pub data Edge : Type 0 where
  AtBegin AtEnd : Edge

-- what an item does there: an item of the other kinds does nothing
abbrev pub action_at : Edge → Item → Stmts
action_at AtBegin (Begin ss) = ss
action_at AtEnd (End ss) = ss
action_at edge item = NoStmt

-- all of them, in their order
pub data DoesEdge (scope : Scope) (edge : Edge) : List Item → State → Outcome Flow → Type 0 where
  no_actions : {s : State} → DoesEdge scope edge [] s (Gives Normal s)
  next_action : {item : Item} {items : List Item} {s s1 : State} {o : Outcome Flow} → DoesAll scope (action_at edge item) s (Gives Normal s1)
      → DoesEdge scope edge items s1 o → DoesEdge scope edge (item ∷ items) s o
  action_leaves : {item : Item} {items : List Item} {s s1 : State} {flow : Flow} → DoesAll scope (action_at edge item) s (Gives flow s1) → Leaves flow
      → DoesEdge scope edge (item ∷ items) s (Gives flow s1)
  action_stops : {item : Item} {items : List Item} {s s1 : State} {why : Stop} → DoesAll scope (action_at edge item) s (Stops why s1)
      → DoesEdge scope edge (item ∷ items) s (Stops why s1)
