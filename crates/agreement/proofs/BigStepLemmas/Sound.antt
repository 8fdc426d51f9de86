-- What the rules say is what the functions compute, with fuel for all turns.
use Rattle.std.proofs.Common.{◌≡◌, ℕ, zero, suc, ◌≤◌, Bool, true, false, List, Option, refl, ap, ◌∙◌, arith}
use Rattle.std.specs.Prelude.{if◌then◌else◌}
use Rattle.awk_values.specs.declared.value.Value.{Value}
use Rattle.sem_primitives.specs.declared.answers.InputAnswer.{InputAnswer}
use Rattle.sem_primitives.specs.declared.answers.InputAnswer.TheVariants as input
use Rattle.sem_primitives.specs.declared.table.Primitive.TheVariants as row
use Rattle.awk_grammar.specs.Trees.{Tree, Trees, Plain, Stmt, Stmts}
use Rattle.sem_scripts.specs.Names.{Name, Resolved, Scope, variable_of, array_of}
use Rattle.sem_scripts.specs.ScriptState.{Local, CallFrame, State, Stop, Faulted, OutOfTurns, TooDeep, Nexted, Exited, Returned, Outcome, Gives, Stops, Execution, go_on, ◌>>=◌, ◌>>◌, give, stop, call, spent, spend}
use Rattle.sem_scripts.specs.Steps.{Place, ere_or, store_variable}
use Rattle.sem_scripts.specs.Meaning.{Calls, assign_pending, unless_pending, asked, value_of, values_of, key_of, place_of, passed}
use Rattle.sem_scripts.specs.Statements.{Flow, after, after_round, loop, at_key, over_keys, maybe_test, plain_done, maybe_done, done_by, all_done, returned, entered_with, called}
use Rattle.agreement.specs.BigStep.Operations.{array_at}
use Rattle.agreement.specs.BigStep.Rules.{with_turns, with_own, IsNoReturn, IsNoAssignment, scope_of, body_of, GoesOn, round_ends, round_is_left, Leaves, by_break, by_continue, Reads, reads, reads_stops, assigns_without_turn, assigns_stops, assigns, Evaluates, group, no_operand, one_operand, one_operand_stops, two_operands, two_left_stops, two_right_stops, three_operands, three_first_stops, three_second_stops, three_third_stops, with_pattern, pattern_left_stops, pattern_right_stops, split, split_left_stops, split_right_stops, replacing, replacing_ere_stops, replacing_text_stops, replacing_target_stops, and_true, and_false, and_left_stops, and_right_stops, or_true, or_false, or_left_stops, or_right_stops, choice_true, choice_false, choice_stops, at_place, at_place_stops, place_and_value, place_first_stops, value_then_stops, element, element_stops, has, has_stops, has_list, has_list_first_stops, has_list_rest_stops, sprintf, sprintf_stops, calls, calls_stops, getline, getline_stops, getline_into, getline_place_stops, getline_into_stops, EvaluatesAll, no_value, next_value, first_value_stops, other_values_stops, GivesKey, no_key, one_key, more_keys, first_key_stops, other_keys_stops, Finds, name_place, element_place, element_place_stops, field_number, field_number_stops, no_place, FindsTarget, the_record, the_place, GivesPattern, ere_token, computed_ere, PassesOne, passes_name, passes_value, passes_stops, Passes, missing, too_many, next_argument, first_argument_stops, other_arguments_stops, IsCalled, call_without_turn, call_too_deep, body_ends, body_returns, body_stops, Tests, no_test, test, test_stops, DoesPlain, expression, expression_stops, puts, puts_stops, deletes, deletes_stops, clears, DoesMaybe, left_out, done, Does, block, empty, simple, simple_stops, if_true, if_false, if_stops, else_true, else_false, else_stops, while_loop, do_loop, do_breaks, do_stops, for_loop, for_stops, for_in, for_in_stops, breaks, continues, nexts, next_files, next_files_stops, exits, exits_with, exits_no_number, exits_stops, returns, returns_with, returns_stops, DoesAll, no_statement, next_statement, statement_leaves, statement_stops, Rounds, round_without_turn, round_test_stops, loop_ends, round_breaks, round_stops, round_step_stops, round, Walks, walk_fails, walk_ends, key_without_turn, key_not_stored, walk_breaks, walk_stops, walk}
use Rattle.agreement.proofs.BigStepLemmas.Turns.{state_of, Spends, below, call_spends, asks_spends, assign_pending_spends, store_variable_spends}
use Rattle.agreement.proofs.BigStepLemmas.Falls.{gave, fewer, falls, place_falls, pattern_falls, argument_falls, passes_falls, test_falls, maybe_falls, done_falls}
use Rattle.agreement.proofs.BigStepLemmas.Equations.{array_is, ere_of, targeted, argument, none_is, one_is, two_is, three_is, pattern_is, place_is, assigned_is, replacing_is, no_place_is, value_argument_is, argument_is}

-- One thing after another.

pub gives_then : {A B : Type 0} {r : Outcome A} {a : A} {s : State} {o : Outcome B} (f : A → Execution B) → r ≡ Gives a s → f a s ≡ o → go_on r f ≡ o
gives_then {A} f e q = ap (λ (x : Outcome A). go_on x f) e ∙ q

pub stops_then : {A B : Type 0} {r : Outcome A} {why : Stop} {s : State} (f : A → Execution B) → r ≡ Stops why s → go_on r f ≡ Stops why s
stops_then {A} f e = ap (λ (x : Outcome A). go_on x f) e

pub through : {A : Type 0} {m k : Execution A} {o : Outcome A} → m ≡ k → (s : State) → k s ≡ o → m s ≡ o
through {A} p s q = ap (λ (m : Execution A). m s) p ∙ q

pub chosen_true : {A : Type 0} {b : Bool} {o : Outcome A} (m k : Execution A) (s : State) → b ≡ true → m s ≡ o → (if b then m else k) s ≡ o
chosen_true m k s e q = ap (λ (b : Bool). (if b then m else k) s) e ∙ q

pub chosen_false : {A : Type 0} {b : Bool} {o : Outcome A} (m k : Execution A) (s : State) → b ≡ false → k s ≡ o → (if b then m else k) s ≡ o
chosen_false m k s e q = ap (λ (b : Bool). (if b then m else k) s) e ∙ q

-- Turns.

pub no_turn : {B : Type 0} (s : State) (f : Unit {0} → Execution B) → s.turns ≡ zero → go_on (spend s) f ≡ Stops OutOfTurns s
no_turn s f e = ap (λ (t : ℕ). go_on (spent t s) f) e

pub a_turn : {B : Type 0} {o : Outcome B} (s : State) (k : ℕ) (f : Unit {0} → Execution B) → s.turns ≡ suc k → f tt (with_turns k s) ≡ o
    → go_on (spend s) f ≡ o
a_turn s k f e q = ap (λ (t : ℕ). go_on (spent t s) f) e ∙ q

pub none_left : {A : Type 0} {n k : ℕ} → n ≡ suc k → n ≤ 0 → A
none_left e l = absurd (omega (arith, e, l))

pub one_less : {n k m : ℕ} → n ≡ suc k → n ≤ suc m → k ≤ m
one_less e l = omega (arith, e, l)

-- Flows and stops.

round_goes_on : {flow : Flow} {o : Outcome Flow} (rest : Execution Flow) (s : State) → GoesOn flow → rest s ≡ o → after_round flow rest s ≡ o
round_goes_on rest s round_ends q = q
round_goes_on rest s round_is_left q = q

pub leaves_block : {flow : Flow} (rest : Execution Flow) (s : State) → Leaves flow → after flow rest s ≡ Gives flow s
leaves_block rest s by_break = refl
leaves_block rest s by_continue = refl

kept_stop : (own : CallFrame) (why : Stop) (s : State) → IsNoReturn why → returned own (Stops why s) ≡ Stops why (with_own own s)
kept_stop own (Faulted fault) s h = refl
kept_stop own OutOfTurns s h = refl
kept_stop own TooDeep s h = refl
kept_stop own Nexted s h = refl
kept_stop own Exited s h = refl
kept_stop own (Returned x) s h = absurd h

-- Reading the main input.

not_pending : (m : Execution InputAnswer) (answer : InputAnswer) (s : State) → IsNoAssignment answer → unless_pending m give answer s ≡ Gives answer s
not_pending m input.Pending s h = absurd h
not_pending m input.End s h = refl
not_pending m input.Read s h = refl
not_pending m input.Failed s h = refl

pub reads_sound : {ask : Execution InputAnswer} {s : State} {o : Outcome InputAnswer} → Spends ask → Reads ask s o → (j : ℕ) → s.turns ≤ j → asked j ask s ≡ o
unfolding asked
reads_sound p (reads {s1} {answer} e h) zero l = gives_then _ e (not_pending _ answer s1 h)
reads_sound p (reads {s1} {answer} e h) (suc j) l = gives_then _ e (not_pending _ answer s1 h)
reads_sound p (reads_stops e) zero l = stops_then _ e
reads_sound p (reads_stops e) (suc j) l = stops_then _ e
reads_sound p (assigns_without_turn e t) zero l = gives_then _ e refl
reads_sound p (assigns_without_turn {s1} e t) (suc j) l = gives_then _ e (no_turn s1 _ t)
reads_sound p (assigns_stops {s} e t a) zero l = none_left t (below l (gave s p e))
reads_sound {ask} p (assigns_stops {s1} {k} e t a) (suc j) l =
    gives_then _ e (a_turn s1 k (λ u. assign_pending >> asked j ask) t (stops_then (λ u. asked j ask) a))
reads_sound p (assigns {s} e t a d) zero l = none_left t (below l (gave s p e))
reads_sound {ask} p (assigns {s} {s1} {k} e t a d) (suc j) l =
    gives_then _ e
    (a_turn s1 k (λ u. assign_pending >> asked j ask) t
    (gives_then (λ u. asked j ask) a
    (reads_sound p d j (below (one_less t (below l (gave s p e))) (gave (with_turns k s1) assign_pending_spends a)))))

-- a call that has taken its turn, with so much room
abbrev entering : Resolved → ℕ → ℕ → List Local → ℕ → Execution Value
entering script n i locals room = entered_with room locals (all_done (scope_of script i) n (called script n) (body_of script i))

-- a turn less is left
less : {n k : ℕ} → n ≡ suc k → k ≤ n
less e = omega (arith, e)

next_key : (keys : ℕ) (s : State) {o : Outcome (Option Value)} → call row.IterNext (keys, tt) s ≡ o → (state_of o).turns ≤ s.turns
next_key keys s e = gave s (call_spends row.IterNext (keys, tt)) e

key_stored : (scope : Scope) (x : List ℕ) (key : Value) (s : State) {o : Outcome (Unit {0})} → store_variable (variable_of scope x) key s ≡ o
    → (state_of o).turns ≤ s.turns
key_stored scope x key s e = gave s (store_variable_spends (variable_of scope x) key) e

-- what is done for each key, where so many more are left to do
abbrev body_of_walk : Scope → ℕ → Stmt → Execution Flow
body_of_walk scope n b = done_by scope n (called scope.script n) b

abbrev key_done : Scope → ℕ → ℕ → ℕ → List ℕ → Stmt → Flow → Execution Flow
key_done scope n j keys x b flow = after_round flow (over_keys j keys (store_variable (variable_of scope x)) (body_of_walk scope n b))

abbrev for_key : Scope → ℕ → ℕ → ℕ → List ℕ → Stmt → Value → Execution Flow
for_key scope n j keys x b key = store_variable (variable_of scope x) key >> body_of_walk scope n b >>= key_done scope n j keys x b

abbrev over_all : Scope → ℕ → List ℕ → Stmt → ℕ → Execution Flow
over_all scope n x b keys = over_keys n keys (store_variable (variable_of scope x)) (body_of_walk scope n b)

abbrev Calls_in : Scope → ℕ → Calls
Calls_in scope n = called scope.script n

mutual
  unfolding value_of plain_done done_by called loop over_keys

  pub sound : {scope : Scope} {t : Tree} {s : State} {o : Outcome Value} → Evaluates scope t s o → (n : ℕ) → s.turns ≤ n
      → value_of scope n (called scope.script n) t s ≡ o
  sound (group d) n h = sound d n h
  sound (no_operand {scope} {s} p) n h = through (none_is scope n (Calls_in scope n) p) s refl
  sound (one_operand {scope} {s} p d) n h = through (one_is scope n (Calls_in scope n) p) s (gives_then _ (sound d n h) refl)
  sound (one_operand_stops {scope} {s} p d) n h = through (one_is scope n (Calls_in scope n) p) s (stops_then _ (sound d n h))
  sound (two_operands {scope} {s} p d e) n h =
      through (two_is scope n (Calls_in scope n) p) s (gives_then _ (sound d n h) (gives_then _ (sound e n (below h (falls d))) refl))
  sound (two_left_stops {scope} {s} p d) n h = through (two_is scope n (Calls_in scope n) p) s (stops_then _ (sound d n h))
  sound (two_right_stops {scope} {s} p d e) n h =
      through (two_is scope n (Calls_in scope n) p) s (gives_then _ (sound d n h) (stops_then _ (sound e n (below h (falls d)))))
  sound (three_operands {scope} {s} p d e f) n h =
      through (three_is scope n (Calls_in scope n) p) s
      (gives_then _ (sound d n h)
      (gives_then _ (sound e n (below h (falls d))) (gives_then _ (sound f n (below (below h (falls d)) (falls e))) refl)))
  sound (three_first_stops {scope} {s} p d) n h = through (three_is scope n (Calls_in scope n) p) s (stops_then _ (sound d n h))
  sound (three_second_stops {scope} {s} p d e) n h =
      through (three_is scope n (Calls_in scope n) p) s (gives_then _ (sound d n h) (stops_then _ (sound e n (below h (falls d)))))
  sound (three_third_stops {scope} {s} p d e f) n h =
      through (three_is scope n (Calls_in scope n) p) s
      (gives_then _ (sound d n h)
      (gives_then _ (sound e n (below h (falls d))) (stops_then _ (sound f n (below (below h (falls d)) (falls e))))))
  sound (with_pattern {scope} {s} p d e) n h =
      through (pattern_is scope n (Calls_in scope n) p) s (gives_then _ (sound d n h) (gives_then _ (pattern_sound e n (below h (falls d))) refl))
  sound (pattern_left_stops {scope} {s} p d) n h = through (pattern_is scope n (Calls_in scope n) p) s (stops_then _ (sound d n h))
  sound (pattern_right_stops {scope} {s} p d e) n h =
      through (pattern_is scope n (Calls_in scope n) p) s (gives_then _ (sound d n h) (stops_then _ (pattern_sound e n (below h (falls d)))))
  sound (split {scope} {x} {s1} d e) n h =
      gives_then _ (sound d n h) (gives_then _ (array_is (array_of scope x) s1) (gives_then _ (pattern_sound e n (below h (falls d))) refl))
  sound (split_left_stops d) n h = stops_then _ (sound d n h)
  sound (split_right_stops {scope} {x} {s1} d e) n h =
      gives_then _ (sound d n h) (gives_then _ (array_is (array_of scope x) s1) (stops_then _ (pattern_sound e n (below h (falls d)))))
  sound (replacing {scope} {s} p d e f) n h =
      through (replacing_is scope n (Calls_in scope n) p) s
      (gives_then _ (pattern_sound d n h)
      (gives_then _ (sound e n (below h (pattern_falls d))) (gives_then _ (target_sound f n (below (below h (pattern_falls d)) (falls e))) refl)))
  sound (replacing_ere_stops {scope} {s} p d) n h = through (replacing_is scope n (Calls_in scope n) p) s (stops_then _ (pattern_sound d n h))
  sound (replacing_text_stops {scope} {s} p d e) n h =
      through (replacing_is scope n (Calls_in scope n) p) s (gives_then _ (pattern_sound d n h) (stops_then _ (sound e n (below h (pattern_falls d)))))
  sound (replacing_target_stops {scope} {s} p d e f) n h =
      through (replacing_is scope n (Calls_in scope n) p) s
      (gives_then _ (pattern_sound d n h)
      (gives_then _ (sound e n (below h (pattern_falls d))) (stops_then _ (target_sound f n (below (below h (pattern_falls d)) (falls e))))))
  sound (and_true {s1} d t e) n h =
      gives_then _ (sound d n h) (chosen_true _ _ s1 t (gives_then _ (sound e n (below h (falls d))) refl))
  sound (and_false {s1} d t) n h = gives_then _ (sound d n h) (chosen_false _ _ s1 t refl)
  sound (and_left_stops d) n h = stops_then _ (sound d n h)
  sound (and_right_stops {s1} d t e) n h = gives_then _ (sound d n h) (chosen_true _ _ s1 t (stops_then _ (sound e n (below h (falls d)))))
  sound (or_true {s1} d t) n h = gives_then _ (sound d n h) (chosen_true _ _ s1 t refl)
  sound (or_false {s1} d t e) n h =
      gives_then _ (sound d n h) (chosen_false _ _ s1 t (gives_then _ (sound e n (below h (falls d))) refl))
  sound (or_left_stops d) n h = stops_then _ (sound d n h)
  sound (or_right_stops {s1} d t e) n h = gives_then _ (sound d n h) (chosen_false _ _ s1 t (stops_then _ (sound e n (below h (falls d)))))
  sound (choice_true {s1} d t e) n h = gives_then _ (sound d n h) (chosen_true _ _ s1 t (sound e n (below h (falls d))))
  sound (choice_false {s1} d t e) n h = gives_then _ (sound d n h) (chosen_false _ _ s1 t (sound e n (below h (falls d))))
  sound (choice_stops d) n h = stops_then _ (sound d n h)
  sound (at_place {scope} {s} p d) n h = through (place_is scope n (Calls_in scope n) p) s (gives_then _ (place_sound d n h) refl)
  sound (at_place_stops {scope} {s} p d) n h = through (place_is scope n (Calls_in scope n) p) s (stops_then _ (place_sound d n h))
  sound (place_and_value {scope} {s} p d e) n h =
      through (assigned_is scope n (Calls_in scope n) p) s (gives_then _ (place_sound d n h) (gives_then _ (sound e n (below h (place_falls d))) refl))
  sound (place_first_stops {scope} {s} p d) n h = through (assigned_is scope n (Calls_in scope n) p) s (stops_then _ (place_sound d n h))
  sound (value_then_stops {scope} {s} p d e) n h =
      through (assigned_is scope n (Calls_in scope n) p) s (gives_then _ (place_sound d n h) (stops_then _ (sound e n (below h (place_falls d)))))
  sound (element {scope} {x} {s} d) n h = gives_then _ (array_is (array_of scope x) s) (gives_then _ (key_sound d n h) refl)
  sound (element_stops {scope} {x} {s} d) n h = gives_then _ (array_is (array_of scope x) s) (stops_then _ (key_sound d n h))
  sound (has {scope} {x} {s} d) n h = gives_then _ (array_is (array_of scope x) s) (gives_then _ (sound d n h) refl)
  sound (has_stops {scope} {x} {s} d) n h = gives_then _ (array_is (array_of scope x) s) (stops_then _ (sound d n h))
  sound (has_list {scope} {x} {s} d e) n h =
      gives_then _ (array_is (array_of scope x) s) (gives_then _ (sound d n h) (gives_then _ (key_sound e n (below h (falls d))) refl))
  sound (has_list_first_stops {scope} {x} {s} d) n h = gives_then _ (array_is (array_of scope x) s) (stops_then _ (sound d n h))
  sound (has_list_rest_stops {scope} {x} {s} d e) n h =
      gives_then _ (array_is (array_of scope x) s) (gives_then _ (sound d n h) (stops_then _ (key_sound e n (below h (falls d)))))
  sound (sprintf d) n h = gives_then _ (all_sound d n h) refl
  sound (sprintf_stops d) n h = stops_then _ (all_sound d n h)
  sound (calls d e) n h = gives_then _ (passes_sound d n h) (call_sound e n (below h (passes_falls d)))
  sound (calls_stops d) n h = stops_then _ (passes_sound d n h)
  sound (getline d) n h = gives_then _ (reads_sound (asks_spends row.Getline tt) d n h) refl
  sound (getline_stops d) n h = stops_then _ (reads_sound (asks_spends row.Getline tt) d n h)
  sound (getline_into d e) n h =
      gives_then _ (place_sound d n h) (gives_then _ (reads_sound (asks_spends row.GetlineVar tt) e n (below h (place_falls d))) refl)
  sound (getline_place_stops d) n h = stops_then _ (place_sound d n h)
  sound (getline_into_stops d e) n h =
      gives_then _ (place_sound d n h) (stops_then _ (reads_sound (asks_spends row.GetlineVar tt) e n (below h (place_falls d))))

  pub all_sound : {scope : Scope} {ts : Trees} {s : State} {o : Outcome (List Value)} → EvaluatesAll scope ts s o → (n : ℕ) → s.turns ≤ n
      → values_of scope n (called scope.script n) ts s ≡ o
  all_sound no_value n h = refl
  all_sound (next_value d e) n h = gives_then _ (sound d n h) (gives_then _ (all_sound e n (below h (falls d))) refl)
  all_sound (first_value_stops d) n h = stops_then _ (sound d n h)
  all_sound (other_values_stops d e) n h = gives_then _ (sound d n h) (stops_then _ (all_sound e n (below h (falls d))))

  pub key_sound : {scope : Scope} {ts : Trees} {s : State} {o : Outcome Value} → GivesKey scope ts s o → (n : ℕ) → s.turns ≤ n
      → key_of scope n (called scope.script n) ts s ≡ o
  key_sound no_key n h = refl
  key_sound (one_key d) n h = sound d n h
  key_sound (more_keys d e) n h = gives_then _ (sound d n h) (gives_then _ (key_sound e n (below h (falls d))) refl)
  key_sound (first_key_stops d) n h = stops_then _ (sound d n h)
  key_sound (other_keys_stops d e) n h = gives_then _ (sound d n h) (stops_then _ (key_sound e n (below h (falls d))))

  pub place_sound : {scope : Scope} {t : Tree} {s : State} {o : Outcome Place} → Finds scope t s o → (n : ℕ) → s.turns ≤ n
      → place_of scope n (called scope.script n) t s ≡ o
  place_sound name_place n h = refl
  place_sound (element_place d) n h = gives_then _ (key_sound d n h) refl
  place_sound (element_place_stops d) n h = stops_then _ (key_sound d n h)
  place_sound (field_number d) n h = gives_then _ (sound d n h) refl
  place_sound (field_number_stops d) n h = stops_then _ (sound d n h)
  place_sound (no_place {scope} {t} {s} q) n h = through (no_place_is scope n (Calls_in scope n) t q) s refl

  pub target_sound : {scope : Scope} {t : Option Tree} {s : State} {o : Outcome Place} → FindsTarget scope t s o → (n : ℕ) → s.turns ≤ n
      → targeted scope n (called scope.script n) t s ≡ o
  target_sound the_record n h = refl
  target_sound (the_place d) n h = place_sound d n h

  pub pattern_sound : {scope : Scope} {t : Tree} {s : State} {o : Outcome Value} → GivesPattern scope t s o → (n : ℕ) → s.turns ≤ n
      → ere_of scope n (called scope.script n) t s ≡ o
  pattern_sound (ere_token {scope} {t} {s} e) n h = ap (λ (l : List (List ℕ)). ere_or l (value_of scope n (called scope.script n) t) s) e
  pattern_sound (computed_ere {scope} {t} {s} e d) n h = ap (λ (l : List (List ℕ)). ere_or l (value_of scope n (called scope.script n) t) s) e ∙ sound d n h

  pub argument_sound : {scope : Scope} {p : Name} {t : Tree} {s : State} {o : Outcome Local} → PassesOne scope p t s o → (n : ℕ) → s.turns ≤ n
      → argument scope n (called scope.script n) p t s ≡ o
  argument_sound passes_name n h = refl
  argument_sound (passes_value {scope} {p} {t} {s} q d) n h =
      through (value_argument_is scope n (Calls_in scope n) p t q) s (gives_then _ (sound d n h) refl)
  argument_sound (passes_stops {scope} {p} {t} {s} q d) n h =
      through (value_argument_is scope n (Calls_in scope n) p t q) s (stops_then _ (sound d n h))

  pub passes_sound : {scope : Scope} {ps : List Name} {ts : Trees} {s : State} {o : Outcome (List Local)} → Passes scope ps ts s o → (n : ℕ)
      → s.turns ≤ n → passed scope n (called scope.script n) ps ts s ≡ o
  passes_sound missing n h = refl
  passes_sound too_many n h = refl
  passes_sound (next_argument {scope} {p} {ps} {t} {ts} {s} d e) n h =
      through (argument_is scope n (Calls_in scope n) p ps t ts) s
      (gives_then _ (argument_sound d n h) (gives_then _ (passes_sound e n (below h (argument_falls d))) refl))
  passes_sound (first_argument_stops {scope} {p} {ps} {t} {ts} {s} d) n h =
      through (argument_is scope n (Calls_in scope n) p ps t ts) s (stops_then _ (argument_sound d n h))
  passes_sound (other_arguments_stops {scope} {p} {ps} {t} {ts} {s} d e) n h =
      through (argument_is scope n (Calls_in scope n) p ps t ts) s
      (gives_then _ (argument_sound d n h) (stops_then _ (passes_sound e n (below h (argument_falls d)))))

  -- a call with its turn
  pub call_sound : {script : Resolved} {i : ℕ} {locals : List Local} {s : State} {o : Outcome Value} → IsCalled script i locals s o → (n : ℕ)
      → s.turns ≤ n → go_on (spend s) (λ u. called script n i locals) ≡ o
  call_sound (call_without_turn {s} e) n h = no_turn s _ e
  call_sound (call_too_deep e r) zero h = none_left e h
  call_sound (call_too_deep {script} {i} {locals} {s} {k} e r) (suc n) h =
      a_turn s k _ e (ap (λ (room : ℕ). entering script n i locals room (with_turns k s)) r)
  call_sound (body_ends e r d) zero h = none_left e h
  call_sound (body_ends {script} {i} {locals} {s} {k} e r d) (suc n) h =
      a_turn s k _ e (ap (λ (room : ℕ). entering script n i locals room (with_turns k s)) r ∙ ap (returned s.own) (all_done_sound d n (one_less e h)))
  call_sound (body_returns e r d) zero h = none_left e h
  call_sound (body_returns {script} {i} {locals} {s} {k} e r d) (suc n) h =
      a_turn s k _ e (ap (λ (room : ℕ). entering script n i locals room (with_turns k s)) r ∙ ap (returned s.own) (all_done_sound d n (one_less e h)))
  call_sound (body_stops e r q d) zero h = none_left e h
  call_sound (body_stops {script} {i} {locals} {s} {s1} {k} {why} e r q d) (suc n) h =
      a_turn s k _ e
      (ap (λ (room : ℕ). entering script n i locals room (with_turns k s)) r ∙ ap (returned s.own) (all_done_sound d n (one_less e h))
      ∙ kept_stop s.own why s1 q)

  pub test_sound : {scope : Scope} {c : Option Tree} {s : State} {o : Outcome Bool} → Tests scope c s o → (n : ℕ) → s.turns ≤ n
      → maybe_test scope n (called scope.script n) c s ≡ o
  test_sound no_test n h = refl
  test_sound (test d) n h = gives_then _ (sound d n h) refl
  test_sound (test_stops d) n h = stops_then _ (sound d n h)

  pub plain_sound : {scope : Scope} {p : Plain} {s : State} {o : Outcome (Unit {0})} → DoesPlain scope p s o → (n : ℕ) → s.turns ≤ n
      → plain_done scope n (called scope.script n) p s ≡ o
  plain_sound (expression d) n h = gives_then _ (sound d n h) refl
  plain_sound (expression_stops d) n h = stops_then _ (sound d n h)
  plain_sound (puts d) n h = gives_then _ (all_sound d n h) refl
  plain_sound (puts_stops d) n h = stops_then _ (all_sound d n h)
  plain_sound (deletes {scope} {a} {s} d) n h = gives_then _ (array_is (array_of scope a) s) (gives_then _ (key_sound d n h) refl)
  plain_sound (deletes_stops {scope} {a} {s} d) n h = gives_then _ (array_is (array_of scope a) s) (stops_then _ (key_sound d n h))
  plain_sound (clears {scope} {a} {s}) n h = gives_then _ (array_is (array_of scope a) s) refl

  pub maybe_sound : {scope : Scope} {p : Option Plain} {s : State} {o : Outcome (Unit {0})} → DoesMaybe scope p s o → (n : ℕ) → s.turns ≤ n
      → maybe_done scope n (called scope.script n) p s ≡ o
  maybe_sound left_out n h = refl
  maybe_sound (done d) n h = plain_sound d n h

  pub does_sound : {scope : Scope} {b : Stmt} {s : State} {o : Outcome Flow} → Does scope b s o → (n : ℕ) → s.turns ≤ n
      → done_by scope n (called scope.script n) b s ≡ o
  does_sound (block d) n h = all_done_sound d n h
  does_sound empty n h = refl
  does_sound (simple d) n h = gives_then _ (plain_sound d n h) refl
  does_sound (simple_stops d) n h = stops_then _ (plain_sound d n h)
  does_sound (if_true d e) n h = gives_then _ (test_sound d n h) (does_sound e n (below h (test_falls d)))
  does_sound (if_false d) n h = gives_then _ (test_sound d n h) refl
  does_sound (if_stops d) n h = stops_then _ (test_sound d n h)
  does_sound (else_true d e) n h = gives_then _ (test_sound d n h) (does_sound e n (below h (test_falls d)))
  does_sound (else_false d e) n h = gives_then _ (test_sound d n h) (does_sound e n (below h (test_falls d)))
  does_sound (else_stops d) n h = stops_then _ (test_sound d n h)
  does_sound (while_loop d) n h = rounds_sound d n h n h
  does_sound (do_loop {s1} d g e) n h =
      gives_then _ (does_sound d n h) (round_goes_on _ s1 g (rounds_sound e n (below h (done_falls d)) n (below h (done_falls d))))
  does_sound (do_breaks d) n h = gives_then _ (does_sound d n h) refl
  does_sound (do_stops d) n h = stops_then _ (does_sound d n h)
  does_sound (for_loop d e) n h = gives_then _ (maybe_sound d n h) (rounds_sound e n (below h (maybe_falls d)) n (below h (maybe_falls d)))
  does_sound (for_stops d) n h = stops_then _ (maybe_sound d n h)
  does_sound (for_in {scope} {k} {a} {b} {s} e d) n h =
      gives_then (λ i. call row.Iter (i, tt) >>= over_all scope n k b) (array_is (array_of scope a) s)
      (gives_then (over_all scope n k b) e
      (walk_sound d n (below h (gave s (call_spends row.Iter (array_at scope a s, tt)) e)) n
      (below h (gave s (call_spends row.Iter (array_at scope a s, tt)) e))))
  does_sound (for_in_stops {scope} {k} {a} {b} {s} e) n h =
      gives_then (λ i. call row.Iter (i, tt) >>= over_all scope n k b) (array_is (array_of scope a) s) (stops_then (over_all scope n k b) e)
  does_sound breaks n h = refl
  does_sound continues n h = refl
  does_sound nexts n h = refl
  does_sound (next_files e) n h = gives_then (λ u. stop Nexted) e refl
  does_sound (next_files_stops e) n h = stops_then (λ u. stop Nexted) e
  does_sound exits n h = refl
  does_sound (exits_with d e) n h = gives_then _ (sound d n h) (gives_then _ e refl)
  does_sound (exits_no_number d e) n h = gives_then _ (sound d n h) (stops_then _ e)
  does_sound (exits_stops d) n h = stops_then _ (sound d n h)
  does_sound returns n h = refl
  does_sound (returns_with d) n h = gives_then _ (sound d n h) refl
  does_sound (returns_stops d) n h = stops_then _ (sound d n h)

  pub all_done_sound : {scope : Scope} {bs : Stmts} {s : State} {o : Outcome Flow} → DoesAll scope bs s o → (n : ℕ) → s.turns ≤ n
      → all_done scope n (called scope.script n) bs s ≡ o
  all_done_sound no_statement n h = refl
  all_done_sound (next_statement d e) n h = gives_then _ (does_sound d n h) (all_done_sound e n (below h (done_falls d)))
  all_done_sound (statement_leaves {s1} d l) n h = gives_then _ (does_sound d n h) (leaves_block _ s1 l)
  all_done_sound (statement_stops d) n h = stops_then _ (does_sound d n h)

  pub rounds_sound : {scope : Scope} {c : Option Tree} {b : Stmt} {p : Option Plain} {s : State} {o : Outcome Flow} → Rounds scope c b p s o
      → (n : ℕ) → s.turns ≤ n → (j : ℕ) → s.turns ≤ j
      → loop j (maybe_test scope n (called scope.script n) c) (done_by scope n (called scope.script n) b) (maybe_done scope n (called scope.script n) p) s
      ≡ o
  rounds_sound (round_without_turn e) n h zero l = refl
  rounds_sound (round_without_turn {s} e) n h (suc j) l = no_turn s _ e
  rounds_sound (round_test_stops e d) n h zero l = none_left e l
  rounds_sound (round_test_stops {s} {k} e d) n h (suc j) l = a_turn s k _ e (stops_then _ (test_sound d n (below h (less e))))
  rounds_sound (loop_ends e d) n h zero l = none_left e l
  rounds_sound (loop_ends {s} {k} e d) n h (suc j) l = a_turn s k _ e (gives_then _ (test_sound d n (below h (less e))) refl)
  rounds_sound (round_breaks e d f) n h zero l = none_left e l
  rounds_sound (round_breaks {s} {k} e d f) n h (suc j) l =
      a_turn s k _ e (gives_then _ (test_sound d n (below h (less e))) (gives_then _ (does_sound f n (below h (fewer e (test_falls d)))) refl))
  rounds_sound (round_stops e d f) n h zero l = none_left e l
  rounds_sound (round_stops {s} {k} e d f) n h (suc j) l =
      a_turn s k _ e (gives_then _ (test_sound d n (below h (less e))) (stops_then _ (does_sound f n (below h (fewer e (test_falls d))))))
  rounds_sound (round_step_stops e d f g i) n h zero l = none_left e l
  rounds_sound (round_step_stops {s} {s2} {k} e d f g i) n h (suc j) l =
      a_turn s k _ e
      (gives_then _ (test_sound d n (below h (less e)))
      (gives_then _ (does_sound f n (below h (fewer e (test_falls d))))
      (round_goes_on _ s2 g (stops_then _ (maybe_sound i n (below h (fewer e (below (test_falls d) (done_falls f)))))))))
  rounds_sound (round e d f g i r) n h zero l = none_left e l
  rounds_sound (round {s} {s2} {k} e d f g i r) n h (suc j) l =
      a_turn s k _ e
      (gives_then _ (test_sound d n (below h (less e)))
      (gives_then _ (does_sound f n (below h (fewer e (test_falls d))))
      (round_goes_on _ s2 g
      (gives_then _ (maybe_sound i n (below h (fewer e (below (test_falls d) (done_falls f)))))
      (rounds_sound r n (below h (fewer e (below (below (test_falls d) (done_falls f)) (maybe_falls i)))) j
      (below (one_less e l) (below (below (test_falls d) (done_falls f)) (maybe_falls i))))))))

  pub walk_sound : {scope : Scope} {keys : ℕ} {x : List ℕ} {b : Stmt} {s : State} {o : Outcome Flow} → Walks scope keys x b s o → (n : ℕ)
      → s.turns ≤ n → (j : ℕ) → s.turns ≤ j
      → over_keys j keys (store_variable (variable_of scope x)) (done_by scope n (called scope.script n) b) s ≡ o
  walk_sound (walk_fails e) n h zero l = stops_then (at_key (λ key. stop OutOfTurns)) e
  walk_sound (walk_fails {scope} {keys} {x} {b} e) n h (suc j) l = stops_then (at_key (for_key scope n j keys x b)) e
  walk_sound (walk_ends e) n h zero l = gives_then (at_key (λ key. stop OutOfTurns)) e refl
  walk_sound (walk_ends {scope} {keys} {x} {b} e) n h (suc j) l = gives_then (at_key (for_key scope n j keys x b)) e refl
  walk_sound (key_without_turn {s1} e t) n h zero l = gives_then (at_key (λ key. stop OutOfTurns)) e (no_turn s1 (λ u. stop OutOfTurns) t)
  walk_sound (key_without_turn {scope} {keys} {x} {b} {s1} {key} e t) n h (suc j) l =
      gives_then (at_key (for_key scope n j keys x b)) e (no_turn s1 (λ u. for_key scope n j keys x b key) t)
  walk_sound (key_not_stored {keys} {s} e t a) n h zero l = none_left t (below l (next_key keys s e))
  walk_sound (key_not_stored {scope} {keys} {x} {b} {s1} {key} {k} e t a) n h (suc j) l =
      gives_then (at_key (for_key scope n j keys x b)) e
      (a_turn s1 k (λ u. for_key scope n j keys x b key) t (stops_then (λ u. body_of_walk scope n b >>= key_done scope n j keys x b) a))
  walk_sound (walk_breaks {keys} {s} e t a d) n h zero l = none_left t (below l (next_key keys s e))
  walk_sound (walk_breaks {scope} {keys} {x} {b} {s} {s1} {key} {k} e t a d) n h (suc j) l =
      gives_then (at_key (for_key scope n j keys x b)) e
      (a_turn s1 k (λ u. for_key scope n j keys x b key) t
      (gives_then (λ u. body_of_walk scope n b >>= key_done scope n j keys x b) a
      (gives_then (key_done scope n j keys x b)
      (does_sound d n (below h (below (next_key keys s e) (fewer t (key_stored scope x key (with_turns k s1) a))))) refl)))
  walk_sound (walk_stops {keys} {s} e t a d) n h zero l = none_left t (below l (next_key keys s e))
  walk_sound (walk_stops {scope} {keys} {x} {b} {s} {s1} {key} {k} e t a d) n h (suc j) l =
      gives_then (at_key (for_key scope n j keys x b)) e
      (a_turn s1 k (λ u. for_key scope n j keys x b key) t
      (gives_then (λ u. body_of_walk scope n b >>= key_done scope n j keys x b) a
      (stops_then (key_done scope n j keys x b)
      (does_sound d n (below h (below (next_key keys s e) (fewer t (key_stored scope x key (with_turns k s1) a))))))))
  walk_sound (walk {keys} {s} e t a d g r) n h zero l = none_left t (below l (next_key keys s e))
  walk_sound (walk {scope} {keys} {x} {b} {s} {s1} {s3} {key} {k} e t a d g r) n h (suc j) l =
      gives_then (at_key (for_key scope n j keys x b)) e
      (a_turn s1 k (λ u. for_key scope n j keys x b key) t
      (gives_then (λ u. body_of_walk scope n b >>= key_done scope n j keys x b) a
      (gives_then (key_done scope n j keys x b)
      (does_sound d n (below h (below (next_key keys s e) (fewer t (key_stored scope x key (with_turns k s1) a)))))
      (round_goes_on (over_keys j keys (store_variable (variable_of scope x)) (body_of_walk scope n b)) s3 g
      (walk_sound r n (below h (below (below (next_key keys s e) (fewer t (key_stored scope x key (with_turns k s1) a))) (done_falls d))) j
      (below (one_less t (below l (next_key keys s e))) (below (key_stored scope x key (with_turns k s1) a) (done_falls d))))))))
