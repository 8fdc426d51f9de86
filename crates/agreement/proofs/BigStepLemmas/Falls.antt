-- What a rule says of an outcome leaves at most the turns that there were.
use Rattle.std.proofs.Common.{◌≡◌, ℕ, suc, ◌≤◌, Bool, List, Option, subst, arith}
use Rattle.awk_values.specs.declared.value.Value.{Value}
use Rattle.sem_primitives.specs.declared.answers.InputAnswer.{InputAnswer}
use Rattle.sem_primitives.specs.declared.table.Listed.TheVariants as listed
use Rattle.sem_primitives.specs.declared.table.Primitive.TheVariants as row
use Rattle.awk_grammar.specs.Trees.{Tree, Trees, Plain, Stmt, Stmts}
use Rattle.sem_scripts.specs.Names.{Name, Resolved, Scope, variable_of}
use Rattle.sem_scripts.specs.ScriptState.{Local, State, Outcome, Execution}
use Rattle.sem_scripts.specs.Steps.{Place, ere_in, is_ere}
use Rattle.sem_scripts.specs.Statements.{Flow, destination_of, listed_of}
use Rattle.agreement.specs.BigStep.Operations.{array_at}
use Rattle.agreement.specs.BigStep.Rules.{with_turns, Reads, reads, reads_stops, assigns_without_turn, assigns_stops, assigns, Evaluates, group, no_operand, one_operand, one_operand_stops, two_operands, two_left_stops, two_right_stops, three_operands, three_first_stops, three_second_stops, three_third_stops, with_pattern, pattern_left_stops, pattern_right_stops, split, split_left_stops, split_right_stops, replacing, replacing_ere_stops, replacing_text_stops, replacing_target_stops, and_true, and_false, and_left_stops, and_right_stops, or_true, or_false, or_left_stops, or_right_stops, choice_true, choice_false, choice_stops, at_place, at_place_stops, place_and_value, place_first_stops, value_then_stops, element, element_stops, has, has_stops, has_list, has_list_first_stops, has_list_rest_stops, sprintf, sprintf_stops, calls, calls_stops, getline, getline_stops, getline_into, getline_place_stops, getline_into_stops, EvaluatesAll, no_value, next_value, first_value_stops, other_values_stops, GivesKey, no_key, one_key, more_keys, first_key_stops, other_keys_stops, Finds, name_place, element_place, element_place_stops, field_number, field_number_stops, no_place, FindsTarget, the_record, the_place, GivesPattern, ere_token, computed_ere, PassesOne, passes_name, passes_value, passes_stops, Passes, missing, too_many, next_argument, first_argument_stops, other_arguments_stops, IsCalled, call_without_turn, call_too_deep, body_ends, body_returns, body_stops, Tests, no_test, test, test_stops, DoesPlain, expression, expression_stops, puts, puts_stops, deletes, deletes_stops, clears, DoesMaybe, left_out, done, Does, block, empty, simple, simple_stops, if_true, if_false, if_stops, else_true, else_false, else_stops, while_loop, do_loop, do_breaks, do_stops, for_loop, for_stops, for_in, for_in_stops, breaks, continues, nexts, next_files, next_files_stops, exits, exits_with, exits_no_number, exits_stops, returns, returns_with, returns_stops, DoesAll, no_statement, next_statement, statement_leaves, statement_stops, Rounds, round_without_turn, round_test_stops, loop_ends, round_breaks, round_stops, round_step_stops, round, Walks, walk_fails, walk_ends, key_without_turn, key_not_stored, walk_breaks, walk_stops, walk}
use Rattle.agreement.proofs.BigStepLemmas.Turns.{state_of, Spends, below, same, call_spends, listed_spends, asks_spends, number_spends, store_variable_spends, received_spends, replaced_spends, fresh_all_spends, name_passed_spends, assign_pending_spends, put_spends, split_spends, has_spends, has_joined_spends, field_place_spends, none_spends, one_spends, two_spends, three_spends, pattern_spends, place_spends, assigned_spends}

-- an outcome that something has
pub gave : {A : Type 0} {m : Execution A} {o : Outcome A} (s : State) → Spends m → m s ≡ o → (state_of o).turns ≤ s.turns
gave {A} s p e = subst (λ (x : Outcome A). (state_of x).turns ≤ s.turns) e (p.falls s)

-- a turn less
pub fewer : {k n m : ℕ} → n ≡ suc k → m ≤ k → m ≤ n
fewer e l = omega (arith, e, l)

pub reads_falls : {ask : Execution InputAnswer} {s : State} {o : Outcome InputAnswer} → Spends ask → Reads ask s o → (state_of o).turns ≤ s.turns
reads_falls p (reads {s} e q) = gave s p e
reads_falls p (reads_stops {s} e) = gave s p e
reads_falls p (assigns_without_turn {s} e t) = gave s p e
reads_falls p (assigns_stops {s} {s1} {k} e t a) = below (gave s p e) (fewer t (gave (with_turns k s1) assign_pending_spends a))
reads_falls p (assigns {s} {s1} {k} e t a d) =
    below (below (gave s p e) (fewer t (gave (with_turns k s1) assign_pending_spends a))) (reads_falls p d)

mutual
  pub falls : {scope : Scope} {t : Tree} {s : State} {o : Outcome Value} → Evaluates scope t s o → (state_of o).turns ≤ s.turns
  falls (group d) = falls d
  falls (no_operand {s} p) = (none_spends p).falls s
  falls (one_operand {s1} {x} p d) = below (falls d) ((one_spends p x).falls s1)
  falls (one_operand_stops p d) = falls d
  falls (two_operands {s2} {x} {y} p d e) = below (below (falls d) (falls e)) ((two_spends p x y).falls s2)
  falls (two_left_stops p d) = falls d
  falls (two_right_stops p d e) = below (falls d) (falls e)
  falls (three_operands {s3} {x} {y} {z} p d e f) = below (below (below (falls d) (falls e)) (falls f)) ((three_spends p x y z).falls s3)
  falls (three_first_stops p d) = falls d
  falls (three_second_stops p d e) = below (falls d) (falls e)
  falls (three_third_stops p d e f) = below (below (falls d) (falls e)) (falls f)
  falls (with_pattern {s2} {x} {y} p d e) = below (below (falls d) (pattern_falls e)) ((pattern_spends p x y).falls s2)
  falls (pattern_left_stops p d) = falls d
  falls (pattern_right_stops p d e) = below (falls d) (pattern_falls e)
  falls (split {scope} {b} {x} {s1} {s2} {y} {z} d e) =
      below (below (falls d) (pattern_falls e)) ((split_spends (array_at scope x s1) (is_ere (ere_in b)) y z).falls s2)
  falls (split_left_stops d) = falls d
  falls (split_right_stops d e) = below (falls d) (pattern_falls e)
  falls (replacing {all} {s3} {x} {y} {place} p d e f) =
      below (below (below (pattern_falls d) (falls e)) (target_falls f)) ((replaced_spends all x y place).falls s3)
  falls (replacing_ere_stops p d) = pattern_falls d
  falls (replacing_text_stops p d e) = below (pattern_falls d) (falls e)
  falls (replacing_target_stops p d e f) = below (below (pattern_falls d) (falls e)) (target_falls f)
  falls (and_true d h e) = below (falls d) (falls e)
  falls (and_false d h) = falls d
  falls (and_left_stops d) = falls d
  falls (and_right_stops d h e) = below (falls d) (falls e)
  falls (or_true d h) = falls d
  falls (or_false d h e) = below (falls d) (falls e)
  falls (or_left_stops d) = falls d
  falls (or_right_stops d h e) = below (falls d) (falls e)
  falls (choice_true d h e) = below (falls d) (falls e)
  falls (choice_false d h e) = below (falls d) (falls e)
  falls (choice_stops d) = falls d
  falls (at_place {s1} {place} p d) = below (place_falls d) ((place_spends p place).falls s1)
  falls (at_place_stops p d) = place_falls d
  falls (place_and_value {s2} {place} {x} p d e) = below (below (place_falls d) (falls e)) ((assigned_spends p place x).falls s2)
  falls (place_first_stops p d) = place_falls d
  falls (value_then_stops p d e) = below (place_falls d) (falls e)
  falls (element {scope} {x} {s} {s1} {key} d) = below (key_falls d) ((call_spends row.Elem (array_at scope x s, (key, tt))).falls s1)
  falls (element_stops d) = key_falls d
  falls (has {scope} {x} {s} {s1} {key} d) = below (falls d) ((has_spends (array_at scope x s) key).falls s1)
  falls (has_stops d) = falls d
  falls (has_list {scope} {x} {s} {s2} {first} {rest} d e) =
      below (below (falls d) (key_falls e)) ((has_joined_spends (array_at scope x s) first rest).falls s2)
  falls (has_list_first_stops d) = falls d
  falls (has_list_rest_stops d e) = below (falls d) (key_falls e)
  falls (sprintf {s1} {xs} d) = below (all_fall d) ((listed_spends listed.Sprintf xs).falls s1)
  falls (sprintf_stops d) = all_fall d
  falls (calls d e) = below (passes_falls d) (called_falls e)
  falls (calls_stops d) = passes_falls d
  falls (getline d) = reads_falls (asks_spends row.Getline tt) d
  falls (getline_stops d) = reads_falls (asks_spends row.Getline tt) d
  falls (getline_into {s2} {place} {answer} d e) =
      below (below (place_falls d) (reads_falls (asks_spends row.GetlineVar tt) e)) ((received_spends place answer).falls s2)
  falls (getline_place_stops d) = place_falls d
  falls (getline_into_stops d e) = below (place_falls d) (reads_falls (asks_spends row.GetlineVar tt) e)

  pub all_fall : {scope : Scope} {ts : Trees} {s : State} {o : Outcome (List Value)} → EvaluatesAll scope ts s o → (state_of o).turns ≤ s.turns
  all_fall (no_value {s}) = same s.turns
  all_fall (next_value d e) = below (falls d) (all_fall e)
  all_fall (first_value_stops d) = falls d
  all_fall (other_values_stops d e) = below (falls d) (all_fall e)

  pub key_falls : {scope : Scope} {ts : Trees} {s : State} {o : Outcome Value} → GivesKey scope ts s o → (state_of o).turns ≤ s.turns
  key_falls (no_key {s}) = same s.turns
  key_falls (one_key d) = falls d
  key_falls (more_keys {s2} {first} {rest} d e) = below (below (falls d) (key_falls e)) ((call_spends row.Join (first, (rest, tt))).falls s2)
  key_falls (first_key_stops d) = falls d
  key_falls (other_keys_stops d e) = below (falls d) (key_falls e)

  pub place_falls : {scope : Scope} {t : Tree} {s : State} {o : Outcome Place} → Finds scope t s o → (state_of o).turns ≤ s.turns
  place_falls (name_place {s}) = same s.turns
  place_falls (element_place d) = key_falls d
  place_falls (element_place_stops d) = key_falls d
  place_falls (field_number {s1} {x} d) = below (falls d) ((field_place_spends x).falls s1)
  place_falls (field_number_stops d) = falls d
  place_falls (no_place {s} h) = same s.turns

  pub target_falls : {scope : Scope} {t : Option Tree} {s : State} {o : Outcome Place} → FindsTarget scope t s o → (state_of o).turns ≤ s.turns
  target_falls (the_record {s}) = same s.turns
  target_falls (the_place d) = place_falls d

  pub pattern_falls : {scope : Scope} {t : Tree} {s : State} {o : Outcome Value} → GivesPattern scope t s o → (state_of o).turns ≤ s.turns
  pattern_falls (ere_token {s} e) = same s.turns
  pattern_falls (computed_ere e d) = falls d

  pub argument_falls : {scope : Scope} {p : Name} {t : Tree} {s : State} {o : Outcome Local} → PassesOne scope p t s o → (state_of o).turns ≤ s.turns
  argument_falls (passes_name {scope} {p} {x} {s}) = (name_passed_spends scope p x).falls s
  argument_falls (passes_value h d) = falls d
  argument_falls (passes_stops h d) = falls d

  pub passes_falls : {scope : Scope} {ps : List Name} {ts : Trees} {s : State} {o : Outcome (List Local)} → Passes scope ps ts s o
      → (state_of o).turns ≤ s.turns
  passes_falls (missing {ps} {s}) = (fresh_all_spends ps).falls s
  passes_falls (too_many {s}) = same s.turns
  passes_falls (next_argument d e) = below (argument_falls d) (passes_falls e)
  passes_falls (first_argument_stops d) = argument_falls d
  passes_falls (other_arguments_stops d e) = below (argument_falls d) (passes_falls e)

  pub called_falls : {script : Resolved} {i : ℕ} {locals : List Local} {s : State} {o : Outcome Value} → IsCalled script i locals s o
      → (state_of o).turns ≤ s.turns
  called_falls (call_without_turn {s} e) = same s.turns
  called_falls (call_too_deep {k} e r) = fewer e (same k)
  called_falls (body_ends e r d) = fewer e (all_done_fall d)
  called_falls (body_returns e r d) = fewer e (all_done_fall d)
  called_falls (body_stops e r h d) = fewer e (all_done_fall d)

  pub test_falls : {scope : Scope} {c : Option Tree} {s : State} {o : Outcome Bool} → Tests scope c s o → (state_of o).turns ≤ s.turns
  test_falls (no_test {s}) = same s.turns
  test_falls (test d) = falls d
  test_falls (test_stops d) = falls d

  pub plain_falls : {scope : Scope} {p : Plain} {s : State} {o : Outcome (Unit {0})} → DoesPlain scope p s o → (state_of o).turns ≤ s.turns
  plain_falls (expression d) = falls d
  plain_falls (expression_stops d) = falls d
  plain_falls (puts {p} {target} {s1} {xs} d) = below (all_fall d) ((put_spends (listed_of p (destination_of target)) xs).falls s1)
  plain_falls (puts_stops d) = all_fall d
  plain_falls (deletes {scope} {a} {s} {s1} {key} d) = below (key_falls d) ((call_spends row.Delete (array_at scope a s, (key, tt))).falls s1)
  plain_falls (deletes_stops d) = key_falls d
  plain_falls (clears {scope} {a} {s}) = (call_spends row.Clear (array_at scope a s, tt)).falls s

  pub maybe_falls : {scope : Scope} {p : Option Plain} {s : State} {o : Outcome (Unit {0})} → DoesMaybe scope p s o → (state_of o).turns ≤ s.turns
  maybe_falls (left_out {s}) = same s.turns
  maybe_falls (done d) = plain_falls d

  pub done_falls : {scope : Scope} {b : Stmt} {s : State} {o : Outcome Flow} → Does scope b s o → (state_of o).turns ≤ s.turns
  done_falls (block d) = all_done_fall d
  done_falls (empty {s}) = same s.turns
  done_falls (simple d) = plain_falls d
  done_falls (simple_stops d) = plain_falls d
  done_falls (if_true d e) = below (test_falls d) (done_falls e)
  done_falls (if_false d) = test_falls d
  done_falls (if_stops d) = test_falls d
  done_falls (else_true d e) = below (test_falls d) (done_falls e)
  done_falls (else_false d e) = below (test_falls d) (done_falls e)
  done_falls (else_stops d) = test_falls d
  done_falls (while_loop d) = rounds_fall d
  done_falls (do_loop d g e) = below (done_falls d) (rounds_fall e)
  done_falls (do_breaks d) = done_falls d
  done_falls (do_stops d) = done_falls d
  done_falls (for_loop d e) = below (maybe_falls d) (rounds_fall e)
  done_falls (for_stops d) = maybe_falls d
  done_falls (for_in {scope} {a} {s} e d) = below (gave s (call_spends row.Iter (array_at scope a s, tt)) e) (walk_falls d)
  done_falls (for_in_stops {scope} {a} {s} e) = gave s (call_spends row.Iter (array_at scope a s, tt)) e
  done_falls (breaks {s}) = same s.turns
  done_falls (continues {s}) = same s.turns
  done_falls (nexts {s}) = same s.turns
  done_falls (next_files {s} e) = gave s (call_spends row.NextFile tt) e
  done_falls (next_files_stops {s} e) = gave s (call_spends row.NextFile tt) e
  done_falls (exits {s}) = same s.turns
  done_falls (exits_with {s1} {x} d e) = below (falls d) (gave s1 (number_spends x) e)
  done_falls (exits_no_number {s1} {x} d e) = below (falls d) (gave s1 (number_spends x) e)
  done_falls (exits_stops d) = falls d
  done_falls (returns {s}) = same s.turns
  done_falls (returns_with d) = falls d
  done_falls (returns_stops d) = falls d

  pub all_done_fall : {scope : Scope} {bs : Stmts} {s : State} {o : Outcome Flow} → DoesAll scope bs s o → (state_of o).turns ≤ s.turns
  all_done_fall (no_statement {s}) = same s.turns
  all_done_fall (next_statement d e) = below (done_falls d) (all_done_fall e)
  all_done_fall (statement_leaves d l) = done_falls d
  all_done_fall (statement_stops d) = done_falls d

  pub rounds_fall : {scope : Scope} {c : Option Tree} {b : Stmt} {p : Option Plain} {s : State} {o : Outcome Flow} → Rounds scope c b p s o
      → (state_of o).turns ≤ s.turns
  rounds_fall (round_without_turn {s} e) = same s.turns
  rounds_fall (round_test_stops e d) = fewer e (test_falls d)
  rounds_fall (loop_ends e d) = fewer e (test_falls d)
  rounds_fall (round_breaks e d f) = fewer e (below (test_falls d) (done_falls f))
  rounds_fall (round_stops e d f) = fewer e (below (test_falls d) (done_falls f))
  rounds_fall (round_step_stops e d f g h) = fewer e (below (below (test_falls d) (done_falls f)) (maybe_falls h))
  rounds_fall (round e d f g h r) = fewer e (below (below (below (test_falls d) (done_falls f)) (maybe_falls h)) (rounds_fall r))

  pub walk_falls : {scope : Scope} {keys : ℕ} {x : List ℕ} {b : Stmt} {s : State} {o : Outcome Flow} → Walks scope keys x b s o
      → (state_of o).turns ≤ s.turns
  walk_falls (walk_fails {keys} {s} e) = gave s (call_spends row.IterNext (keys, tt)) e
  walk_falls (walk_ends {keys} {s} e) = gave s (call_spends row.IterNext (keys, tt)) e
  walk_falls (key_without_turn {keys} {s} e t) = gave s (call_spends row.IterNext (keys, tt)) e
  walk_falls (key_not_stored {scope} {keys} {x} {s} {s1} {key} {k} e t a) =
      below (gave s (call_spends row.IterNext (keys, tt)) e) (fewer t (gave (with_turns k s1) (store_variable_spends (variable_of scope x) key) a))
  walk_falls (walk_breaks {scope} {keys} {x} {s} {s1} {key} {k} e t a d) =
      below (below (gave s (call_spends row.IterNext (keys, tt)) e) (fewer t (gave (with_turns k s1) (store_variable_spends (variable_of scope x) key) a)))
      (done_falls d)
  walk_falls (walk_stops {scope} {keys} {x} {s} {s1} {key} {k} e t a d) =
      below (below (gave s (call_spends row.IterNext (keys, tt)) e) (fewer t (gave (with_turns k s1) (store_variable_spends (variable_of scope x) key) a)))
      (done_falls d)
  walk_falls (walk {scope} {keys} {x} {s} {s1} {key} {k} e t a d g r) =
      below (below (below (gave s (call_spends row.IterNext (keys, tt)) e) (fewer t (gave (with_turns k s1) (store_variable_spends (variable_of scope x) key) a)))
      (done_falls d))
      (walk_falls r)
