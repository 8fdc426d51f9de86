-- What the rules say of items is what the functions compute.
use Rattle.std.proofs.Common.{◌≡◌, ℕ, ◌≤◌, ◌↔◌, Bool, true, false, List, [], ◌∷◌, Some, refl, sym, subst}
use Rattle.std.specs.Prelude.{if◌then◌else◌}
use Rattle.awk_grammar.specs.Trees.{Tree, Stmts, Pattern, One, Between, Item, Function, Begin, End, Always, When, Lone, Nothing}
use Rattle.sem_scripts.specs.Names.{Scope}
use Rattle.sem_scripts.specs.ScriptState.{State, Outcome, Gives, Stops, Execution, go_on, ◌>>=◌, ◌>>◌, give, nothing, look, change, with_range}
use Rattle.sem_scripts.specs.Meaning.{Calls}
use Rattle.sem_scripts.specs.Statements.{Flow, Normal, Broke, Continued, after, maybe_test, done_by, all_done, called}
use Rattle.sem_scripts.specs.Items.{print_record, range_open, range_opens, range_closes, where_met, items_done, begun, ended}
use Rattle.agreement.specs.BigStep.Rules.{by_break, by_continue, Tests, DoesAll}
use Rattle.agreement.specs.BigStep.Items.{Opens, already_open, now_opens, stays_shut, opening_stops, Closes, now_closes, stays_open, closing_stops, Acts, met, not_met, meeting_stops, in_range, not_in_range, range_first_stops, range_second_stops, DoesItem, always, when, lone, function_item, begin_item, end_item, no_item, next_range, DoesItems, no_items, next_item, item_leaves, item_stops, Edge, AtBegin, AtEnd, action_at, DoesEdge, no_actions, next_action, action_leaves, action_stops}
use Rattle.agreement.proofs.BigStepLemmas.Turns.{state_of, below, same}
use Rattle.agreement.proofs.BigStepLemmas.Falls.{test_falls, all_done_fall}
use Rattle.agreement.proofs.BigStepLemmas.Sound.{gives_then, stops_then, through, chosen_true, chosen_false, leaves_block, test_sound, all_done_sound}
use Rattle.agreement.proofs.BigStepLemmas.Complete.{CallsComplete}
use Rattle.agreement.proofs.BigStepLemmas.Statements.{test_complete, all_done_complete, calls_complete}

-- ---- turns

opens_falls : {scope : Scope} {i : ℕ} {t : Tree} {s : State} {o : Outcome (Unit {0})} → Opens scope i t s o → (state_of o).turns ≤ s.turns
opens_falls (already_open {s} e) = same s.turns
opens_falls (now_opens e d) = test_falls d
opens_falls (stays_shut e d) = test_falls d
opens_falls (opening_stops e d) = test_falls d

closes_falls : {scope : Scope} {i : ℕ} {t : Tree} {s : State} {o : Outcome (Unit {0})} → Closes scope i t s o → (state_of o).turns ≤ s.turns
closes_falls (now_closes d) = test_falls d
closes_falls (stays_open d) = test_falls d
closes_falls (closing_stops d) = test_falls d

acts_falls : {scope : Scope} {i : ℕ} {action : Stmts} {p : Pattern} {s : State} {o : Outcome Flow} → Acts scope i action p s o
    → (state_of o).turns ≤ s.turns
acts_falls (met d e) = below (test_falls d) (all_done_fall e)
acts_falls (not_met d) = test_falls d
acts_falls (meeting_stops d) = test_falls d
acts_falls (in_range d e f g) = below (below (opens_falls d) (closes_falls f)) (all_done_fall g)
acts_falls (not_in_range d e) = opens_falls d
acts_falls (range_first_stops d) = opens_falls d
acts_falls (range_second_stops d e f) = below (opens_falls d) (closes_falls f)

item_falls : {scope : Scope} {i : ℕ} {item : Item} {s : State} {o : Outcome Flow} → DoesItem scope i item s o → (state_of o).turns ≤ s.turns
item_falls (always d) = all_done_fall d
item_falls (when d) = acts_falls d
item_falls (lone d) = acts_falls d
item_falls (function_item {s}) = same s.turns
item_falls (begin_item {s}) = same s.turns
item_falls (end_item {s}) = same s.turns
item_falls (no_item {s}) = same s.turns

pub items_fall : {scope : Scope} {i : ℕ} {items : List Item} {s : State} {o : Outcome Flow} → DoesItems scope i items s o → (state_of o).turns ≤ s.turns
items_fall (no_items {s}) = same s.turns
items_fall (next_item d e) = below (item_falls d) (items_fall e)
items_fall (item_leaves d l) = item_falls d
items_fall (item_stops d) = item_falls d

pub edge_falls : {scope : Scope} {edge : Edge} {items : List Item} {s : State} {o : Outcome Flow} → DoesEdge scope edge items s o
    → (state_of o).turns ≤ s.turns
edge_falls (no_actions {s}) = same s.turns
edge_falls (next_action d e) = below (all_done_fall d) (edge_falls e)
edge_falls (action_leaves d l) = all_done_fall d
edge_falls (action_stops d) = all_done_fall d

-- ---- what an item does

module _ (scope : Scope) (n : ℕ) (calls : Calls) where
  abbrev pub item_done : ℕ → Item → Execution Flow
  item_done i (Always ss) = all_done scope n calls ss
  item_done i (When p ss) = where_met scope n calls i p (all_done scope n calls ss)
  item_done i (Lone p) = where_met scope n calls i p (all_done scope n calls print_record)
  item_done i item = give Normal

  item_is : (i : ℕ) (item : Item) (items : List Item) →
      items_done scope n calls i (item ∷ items) ≡ (item_done i item >>= λ flow. after flow (items_done scope n calls (next_range item i) items))
  unfolding items_done
  item_is i (Always ss) items = refl
  item_is i (When p ss) items = refl
  item_is i (Lone p) items = refl
  item_is i (Function f ps ss) items = refl
  item_is i (Begin ss) items = refl
  item_is i (End ss) items = refl
  item_is i Nothing items = refl

  abbrev pub edge_done : Edge → List Item → Execution Flow
  edge_done AtBegin items = begun scope n calls items
  edge_done AtEnd items = ended scope n calls items

  edge_is : (edge : Edge) (item : Item) (items : List Item) →
      edge_done edge (item ∷ items) ≡ (all_done scope n calls (action_at edge item) >>= λ flow. after flow (edge_done edge items))
  unfolding begun ended done_by
  edge_is AtBegin (Begin ss) items = refl
  edge_is AtBegin (End ss) items = refl
  edge_is AtBegin (Always ss) items = refl
  edge_is AtBegin (When p ss) items = refl
  edge_is AtBegin (Lone p) items = refl
  edge_is AtBegin (Function f ps ss) items = refl
  edge_is AtBegin Nothing items = refl
  edge_is AtEnd (Begin ss) items = refl
  edge_is AtEnd (End ss) items = refl
  edge_is AtEnd (Always ss) items = refl
  edge_is AtEnd (When p ss) items = refl
  edge_is AtEnd (Lone p) items = refl
  edge_is AtEnd (Function f ps ss) items = refl
  edge_is AtEnd Nothing items = refl

-- ---- from the rules

abbrev C : Scope → ℕ → Calls
C scope n = called scope.script n

opens_sound : {scope : Scope} {i : ℕ} {t : Tree} {s : State} {o : Outcome (Unit {0})} → Opens scope i t s o → (n : ℕ) → s.turns ≤ n
    → range_opens scope n (C scope n) i t s ≡ o
opens_sound (already_open {s} e) n h = chosen_true _ _ s e refl
opens_sound (now_opens {s} e d) n h = chosen_false _ _ s e (gives_then _ (test_sound d n h) refl)
opens_sound (stays_shut {s} e d) n h = chosen_false _ _ s e (gives_then _ (test_sound d n h) refl)
opens_sound (opening_stops {s} e d) n h = chosen_false _ _ s e (stops_then _ (test_sound d n h))

closes_sound : {scope : Scope} {i : ℕ} {t : Tree} {s : State} {o : Outcome (Unit {0})} → Closes scope i t s o → (n : ℕ) → s.turns ≤ n
    → range_closes scope n (C scope n) i t s ≡ o
closes_sound (now_closes d) n h = gives_then _ (test_sound d n h) refl
closes_sound (stays_open d) n h = gives_then _ (test_sound d n h) refl
closes_sound (closing_stops d) n h = stops_then _ (test_sound d n h)

acts_sound : {scope : Scope} {i : ℕ} {action : Stmts} {p : Pattern} {s : State} {o : Outcome Flow} → Acts scope i action p s o → (n : ℕ) → s.turns ≤ n
    → where_met scope n (C scope n) i p (all_done scope n (C scope n) action) s ≡ o
acts_sound (met d e) n h = gives_then _ (test_sound d n h) (all_done_sound e n (below h (test_falls d)))
acts_sound (not_met d) n h = gives_then _ (test_sound d n h) refl
acts_sound (meeting_stops d) n h = stops_then _ (test_sound d n h)
acts_sound (in_range {s1} d e f g) n h =
    gives_then _ (opens_sound d n h)
    (chosen_true _ _ s1 e
    (gives_then _ (closes_sound f n (below h (opens_falls d))) (all_done_sound g n (below (below h (opens_falls d)) (closes_falls f)))))
acts_sound (not_in_range {s1} d e) n h = gives_then _ (opens_sound d n h) (chosen_false _ _ s1 e refl)
acts_sound (range_first_stops d) n h = stops_then _ (opens_sound d n h)
acts_sound (range_second_stops {s1} d e f) n h =
    gives_then _ (opens_sound d n h) (chosen_true _ _ s1 e (stops_then _ (closes_sound f n (below h (opens_falls d)))))

item_sound : {scope : Scope} {i : ℕ} {item : Item} {s : State} {o : Outcome Flow} → DoesItem scope i item s o → (n : ℕ) → s.turns ≤ n
    → item_done scope n (C scope n) i item s ≡ o
item_sound (always d) n h = all_done_sound d n h
item_sound (when d) n h = acts_sound d n h
item_sound (lone d) n h = acts_sound d n h
item_sound function_item n h = refl
item_sound begin_item n h = refl
item_sound end_item n h = refl
item_sound no_item n h = refl

pub items_sound : {scope : Scope} {i : ℕ} {items : List Item} {s : State} {o : Outcome Flow} → DoesItems scope i items s o → (n : ℕ) → s.turns ≤ n
    → items_done scope n (called scope.script n) i items s ≡ o
unfolding items_done
items_sound no_items n h = refl
items_sound {scope} (next_item {i} {item} {items} {s} d e) n h =
    through (item_is scope n (C scope n) i item items) s (gives_then _ (item_sound d n h) (items_sound e n (below h (item_falls d))))
items_sound {scope} (item_leaves {i} {item} {items} {s} {s1} d l) n h =
    through (item_is scope n (C scope n) i item items) s (gives_then _ (item_sound d n h) (leaves_block _ s1 l))
items_sound {scope} (item_stops {i} {item} {items} {s} d) n h =
    through (item_is scope n (C scope n) i item items) s (stops_then _ (item_sound d n h))

nothing_done : (scope : Scope) (n : ℕ) (edge : Edge) (s : State) → edge_done scope n (C scope n) edge [] s ≡ Gives Normal s
unfolding begun ended
nothing_done scope n AtBegin s = refl
nothing_done scope n AtEnd s = refl

pub edge_sound : {scope : Scope} {edge : Edge} {items : List Item} {s : State} {o : Outcome Flow} → DoesEdge scope edge items s o → (n : ℕ)
    → s.turns ≤ n → edge_done scope n (called scope.script n) edge items s ≡ o
edge_sound {scope} {edge} (no_actions {s}) n h = nothing_done scope n edge s
edge_sound {scope} {edge} (next_action {item} {items} {s} d e) n h =
    through (edge_is scope n (C scope n) edge item items) s (gives_then _ (all_done_sound d n h) (edge_sound e n (below h (all_done_fall d))))
edge_sound {scope} {edge} (action_leaves {item} {items} {s} {s1} d l) n h =
    through (edge_is scope n (C scope n) edge item items) s (gives_then _ (all_done_sound d n h) (leaves_block _ s1 l))
edge_sound {scope} {edge} (action_stops {item} {items} {s} d) n h =
    through (edge_is scope n (C scope n) edge item items) s (stops_then _ (all_done_sound d n h))

-- ---- to the rules

module _ (scope : Scope) (n : ℕ) where
  -- what calls do
  known : CallsComplete scope.script n
  known = calls_complete scope.script n

  opening : {i : ℕ} {t : Tree} {s : State} → s.ranges i ≡ false → (o : Outcome Bool) → Tests scope (Some t) s o
      → Opens scope i t s (go_on o (λ b. if b then change (with_range i true) else nothing))
  opening e (Gives true s1) d = now_opens e d
  opening e (Gives false s1) d = stays_shut e d
  opening e (Stops why s1) d = opening_stops e d

  opens_by : (i : ℕ) (t : Tree) (s : State) → s.turns ≤ n → (v : Bool) → s.ranges i ≡ v
      → Opens scope i t s
      ((if v then nothing else (maybe_test scope n (called scope.script n) (Some t) >>= λ b. if b then change (with_range i true) else nothing)) s)
  opens_by i t s h true e = already_open e
  opens_by i t s h false e = opening e (maybe_test scope n (called scope.script n) (Some t) s) (test_complete scope n known (Some t) s h)

  opens_complete : (i : ℕ) (t : Tree) (s : State) → s.turns ≤ n → Opens scope i t s (range_opens scope n (called scope.script n) i t s)
  opens_complete i t s h = opens_by i t s h (s.ranges i) refl

  closing : {i : ℕ} {t : Tree} {s : State} (o : Outcome Bool) → Tests scope (Some t) s o
      → Closes scope i t s (go_on o (λ b. if b then change (with_range i false) else nothing))
  closing (Gives true s1) d = now_closes d
  closing (Gives false s1) d = stays_open d
  closing (Stops why s1) d = closing_stops d

  closes_complete : (i : ℕ) (t : Tree) (s : State) → s.turns ≤ n → Closes scope i t s (range_closes scope n (called scope.script n) i t s)
  closes_complete i t s h = closing (maybe_test scope n (called scope.script n) (Some t) s) (test_complete scope n known (Some t) s h)

  acted : (action : Stmts) (s : State) → s.turns ≤ n → DoesAll scope action s (all_done scope n (called scope.script n) action s)
  acted action s h = all_done_complete scope n known action s h

  meeting : {i : ℕ} {action : Stmts} {t : Tree} {s : State} → s.turns ≤ n → (o : Outcome Bool) → Tests scope (Some t) s o
      → Acts scope i action (One t) s (go_on o (λ b. if b then all_done scope n (called scope.script n) action else give Normal))
  meeting {action} h (Gives true s1) d = met d (acted action s1 (below h (test_falls d)))
  meeting h (Gives false s1) d = not_met d
  meeting h (Stops why s1) d = meeting_stops d

  closed_range : {i : ℕ} {action : Stmts} {t u : Tree} {s s1 : State} → s1.turns ≤ n → Opens scope i t s (Gives tt s1) → s1.ranges i ≡ true
      → (o : Outcome (Unit {0})) → Closes scope i u s1 o
      → Acts scope i action (Between t u) s (go_on o (λ v. all_done scope n (called scope.script n) action))
  closed_range {action} h d e (Gives v s2) f = in_range d e f (acted action s2 (below h (closes_falls f)))
  closed_range h d e (Stops why s2) f = range_second_stops d e f

  ranged : {i : ℕ} {action : Stmts} {t u : Tree} {s s1 : State} → s1.turns ≤ n → Opens scope i t s (Gives tt s1) → (v : Bool) → s1.ranges i ≡ v
      → Acts scope i action (Between t u) s
      ((if v then (range_closes scope n (called scope.script n) i u >> all_done scope n (called scope.script n) action) else give Normal) s1)
  ranged {i} {u} {s1} h d true e = closed_range h d e (range_closes scope n (called scope.script n) i u s1) (closes_complete i u s1 h)
  ranged h d false e = not_in_range d e

  opened : {i : ℕ} {action : Stmts} {t u : Tree} {s : State} → s.turns ≤ n → (o : Outcome (Unit {0})) → Opens scope i t s o
      → Acts scope i action (Between t u) s
      (go_on o (λ w. look (range_open i)
      >>= λ now. if now then (range_closes scope n (called scope.script n) i u >> all_done scope n (called scope.script n) action) else give Normal))
  opened {i} h (Gives w s1) d = ranged (below h (opens_falls d)) d (s1.ranges i) refl
  opened h (Stops why s1) d = range_first_stops d

  acts_complete : (i : ℕ) (action : Stmts) (p : Pattern) (s : State) → s.turns ≤ n
      → Acts scope i action p s (where_met scope n (called scope.script n) i p (all_done scope n (called scope.script n) action) s)
  acts_complete i action (One t) s h =
      meeting h (maybe_test scope n (called scope.script n) (Some t) s) (test_complete scope n known (Some t) s h)
  acts_complete i action (Between t u) s h = opened h (range_opens scope n (called scope.script n) i t s) (opens_complete i t s h)

  item_complete : (i : ℕ) (item : Item) (s : State) → s.turns ≤ n → DoesItem scope i item s (item_done scope n (called scope.script n) i item s)
  item_complete i (Always ss) s h = always (acted ss s h)
  item_complete i (When p ss) s h = when (acts_complete i ss p s h)
  item_complete i (Lone p) s h = lone (acts_complete i print_record p s h)
  item_complete i (Function f ps ss) s h = function_item
  item_complete i (Begin ss) s h = begin_item
  item_complete i (End ss) s h = end_item
  item_complete i Nothing s h = no_item

  item_then : {i : ℕ} {item : Item} {items : List Item} {s : State} → s.turns ≤ n
      → ((s1 : State) → s1.turns ≤ n
      → DoesItems scope (next_range item i) items s1 (items_done scope n (called scope.script n) (next_range item i) items s1))
      → (o : Outcome Flow) → DoesItem scope i item s o
      → DoesItems scope i (item ∷ items) s (go_on o (λ flow. after flow (items_done scope n (called scope.script n) (next_range item i) items)))
  item_then h r (Gives Normal s1) d = next_item d (r s1 (below h (item_falls d)))
  item_then h r (Gives Broke s1) d = item_leaves d by_break
  item_then h r (Gives Continued s1) d = item_leaves d by_continue
  item_then h r (Stops why s1) d = item_stops d

  pub items_complete : (items : List Item) (i : ℕ) (s : State) → s.turns ≤ n
      → DoesItems scope i items s (items_done scope n (called scope.script n) i items s)
  unfolding items_done
  items_complete [] i s h = no_items
  items_complete (item ∷ items) i s h =
      subst (λ (m : Execution Flow). DoesItems scope i (item ∷ items) s (m s)) (sym (item_is scope n (called scope.script n) i item items))
      (item_then h (λ s1 l. items_complete items (next_range item i) s1 l) (item_done scope n (called scope.script n) i item s) (item_complete i item s h))

  edge_then : {edge : Edge} {item : Item} {items : List Item} {s : State} → s.turns ≤ n
      → ((s1 : State) → s1.turns ≤ n → DoesEdge scope edge items s1 (edge_done scope n (called scope.script n) edge items s1))
      → (o : Outcome Flow) → DoesAll scope (action_at edge item) s o
      → DoesEdge scope edge (item ∷ items) s (go_on o (λ flow. after flow (edge_done scope n (called scope.script n) edge items)))
  edge_then h r (Gives Normal s1) d = next_action d (r s1 (below h (all_done_fall d)))
  edge_then h r (Gives Broke s1) d = action_leaves d by_break
  edge_then h r (Gives Continued s1) d = action_leaves d by_continue
  edge_then h r (Stops why s1) d = action_stops d

  pub edge_complete : (edge : Edge) (items : List Item) (s : State) → s.turns ≤ n
      → DoesEdge scope edge items s (edge_done scope n (called scope.script n) edge items s)
  edge_complete edge [] s h = subst (λ (o : Outcome Flow). DoesEdge scope edge [] s o) (sym (nothing_done scope n edge s)) no_actions
  edge_complete edge (item ∷ items) s h =
      subst (λ (m : Execution Flow). DoesEdge scope edge (item ∷ items) s (m s)) (sym (edge_is scope n (called scope.script n) edge item items))
      (edge_then h (λ s1 l. edge_complete edge items s1 l) (all_done scope n (called scope.script n) (action_at edge item) s) (acted (action_at edge item) s h))

-- ---- both ways

pub items_law : (scope : Scope) (n i : ℕ) (items : List Item) (s : State) (o : Outcome Flow) → s.turns ≤ n
    → DoesItems scope i items s o ↔ (items_done scope n (called scope.script n) i items s ≡ o)
items_law scope n i items s o h = (λ d. items_sound d n h, λ e. subst (DoesItems scope i items s) e (items_complete scope n items i s h))

pub begin_law : (scope : Scope) (n : ℕ) (items : List Item) (s : State) (o : Outcome Flow) → s.turns ≤ n
    → DoesEdge scope AtBegin items s o ↔ (begun scope n (called scope.script n) items s ≡ o)
begin_law scope n items s o h = (λ d. edge_sound d n h, λ e. subst (DoesEdge scope AtBegin items s) e (edge_complete scope n AtBegin items s h))

pub end_law : (scope : Scope) (n : ℕ) (items : List Item) (s : State) (o : Outcome Flow) → s.turns ≤ n
    → DoesEdge scope AtEnd items s o ↔ (ended scope n (called scope.script n) items s ≡ o)
end_law scope n items s o h = (λ d. edge_sound d n h, λ e. subst (DoesEdge scope AtEnd items s) e (edge_complete scope n AtEnd items s h))
