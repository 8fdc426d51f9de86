-- What the functions compute for statements and calls, with fuel for all turns, is what the rules say.
use Rattle.std.proofs.Common.{◌≡◌, ℕ, zero, suc, ◌≤◌, ◌↔◌, Bool, true, false, List, Option, Some, None, refl, sym, subst, arith}
use Rattle.std.specs.Prelude.{if◌then◌else◌}
use Rattle.awk_values.specs.Values.{truth_of_value}
use Rattle.awk_values.specs.declared.value.Value.{Value}
use Rattle.sem_primitives.specs.Numbers.{Number as AnyNumber}
use Rattle.sem_primitives.specs.declared.table.Primitive.TheVariants as row
use Rattle.awk_grammar.specs.Trees.{Tree, Trees, Printing, Args, Target, Plain, Eval, Put, Delete, Clear, Break, Continue, Next, NextFile, Exit, Return, Stmt, Block, Empty, Simple, If, IfElse, While, Do, For, ForIn, Jumping, Leave, Stmts, NoStmt, And}
use Rattle.sem_scripts.specs.Names.{Name, Resolved, Scope, variable_of, array_of}
use Rattle.sem_scripts.specs.ScriptState.{Local, State, Faulted, OutOfTurns, TooDeep, Nexted, Exited, Returned, Outcome, Gives, Stops, Execution, go_on, ◌>>=◌, ◌>>◌, give, nothing, stop, change, call, spent, spend}
use Rattle.sem_scripts.specs.Steps.{number_in, array_number, store_variable, Place}
use Rattle.sem_scripts.specs.Meaning.{value_of, values_of, key_of, place_of, passed}
use Rattle.sem_scripts.specs.Statements.{Flow, Normal, Broke, Continued, after, after_round, loop, at_key, over_keys, operands_of, with_target, destination_of, listed_of, put, with_status, maybe_test, plain_done, maybe_done, done_by, all_done, returned, entered_with, called}
use Rattle.agreement.specs.BigStep.Operations.{array_at}
use Rattle.agreement.specs.BigStep.Rules.{with_turns, in_call, scope_of, body_of, GoesOn, round_ends, round_is_left, by_break, by_continue, Evaluates, EvaluatesAll, GivesKey, Finds, Passes, IsCalled, call_without_turn, call_too_deep, body_ends, body_returns, body_stops, Tests, no_test, test, test_stops, DoesPlain, expression, expression_stops, puts, puts_stops, deletes, deletes_stops, clears, DoesMaybe, left_out, done, Does, block, empty, simple, simple_stops, if_true, if_false, if_stops, else_true, else_false, else_stops, while_loop, do_loop, do_breaks, do_stops, for_loop, for_stops, for_in, for_in_stops, breaks, continues, nexts, next_files, next_files_stops, exits, exits_with, exits_no_number, exits_stops, returns, returns_with, returns_stops, DoesAll, no_statement, next_statement, statement_leaves, statement_stops, Rounds, round_without_turn, round_test_stops, loop_ends, round_breaks, round_stops, round_step_stops, round, Walks, walk_fails, walk_ends, key_without_turn, key_not_stored, walk_breaks, walk_stops, walk}
use Rattle.agreement.proofs.BigStepLemmas.Turns.{below, call_spends, store_variable_spends}
use Rattle.agreement.proofs.BigStepLemmas.Falls.{gave, test_falls, maybe_falls, done_falls}
use Rattle.agreement.proofs.BigStepLemmas.Equations.{array_is}
use Rattle.agreement.proofs.BigStepLemmas.Sound.{no_turn, sound, all_sound, key_sound, place_sound, passes_sound, call_sound, plain_sound, does_sound, all_done_sound}
use Rattle.agreement.proofs.BigStepLemmas.Complete.{CallsComplete, complete, all_complete, key_complete, place_complete, passes_complete}

none_are_left : {n : ℕ} → n ≤ 0 → n ≡ zero
none_are_left l = omega (arith, l)

-- a turn less is left, of so many
one_less : {n k m : ℕ} → n ≡ suc k → n ≤ suc m → k ≤ m
one_less e l = omega (arith, e, l)

less : {n k m : ℕ} → n ≡ suc k → n ≤ m → k ≤ m
less e l = omega (arith, e, l)

module _ (scope : Scope) (n : ℕ) (called_complete : CallsComplete scope.script n) where
  abbrev V : Tree → Execution Value
  V t = value_of scope n (called scope.script n) t

  abbrev K : Trees → Execution Value
  K ts = key_of scope n (called scope.script n) ts

  abbrev T : Option Tree → Execution Bool
  T c = maybe_test scope n (called scope.script n) c

  abbrev P : Option Plain → Execution (Unit {0})
  P p = maybe_done scope n (called scope.script n) p

  abbrev D : Stmt → Execution Flow
  D b = done_by scope n (called scope.script n) b

  abbrev A : Stmts → Execution Flow
  A bs = all_done scope n (called scope.script n) bs

  abbrev DoesComplete : Stmt → Type 0
  DoesComplete b = (s : State) → s.turns ≤ n → Does scope b s (D b s)

  abbrev AllDoneComplete : Stmts → Type 0
  AllDoneComplete bs = (s : State) → s.turns ≤ n → DoesAll scope bs s (A bs s)

  evaluated : (t : Tree) (s : State) → s.turns ≤ n → Evaluates scope t s (V t s)
  evaluated t s h = complete scope n called_complete t s h

  test_from : {t : Tree} {s : State} (o : Outcome Value) → Evaluates scope t s o → Tests scope (Some t) s (go_on o (λ x. give (truth_of_value x)))
  test_from (Gives x s1) d = test d
  test_from (Stops why s1) d = test_stops d

  pub test_complete : (c : Option Tree) (s : State) → s.turns ≤ n → Tests scope c s (T c s)
  test_complete None s h = no_test
  test_complete (Some t) s h = test_from (V t s) (evaluated t s h)

  expression_from : {t : Tree} {s : State} (o : Outcome Value) → Evaluates scope t s o → DoesPlain scope (Eval t) s (go_on o (λ x. nothing))
  expression_from (Gives x s1) d = expression d
  expression_from (Stops why s1) d = expression_stops d

  puts_from : {p : Printing} {args : Args} {target : Target} {s : State} (o : Outcome (List Value))
      → EvaluatesAll scope (with_target (operands_of args) target) s o
      → DoesPlain scope (Put p args target) s (go_on o (put (listed_of p (destination_of target))))
  puts_from (Gives xs s1) d = puts d
  puts_from (Stops why s1) d = puts_stops d

  -- with the array's number
  numbered : {p : Plain} {s : State} (x : List ℕ) (f : ℕ → Execution (Unit {0})) → DoesPlain scope p s (f (array_at scope x s) s)
      → DoesPlain scope p s (go_on (array_number (array_of scope x) s) f)
  numbered {p} {s} x f d = subst (λ (r : Outcome ℕ). DoesPlain scope p s (go_on r f)) (sym (array_is (array_of scope x) s)) d

  deletes_from : {a : List ℕ} {ts : Trees} {s : State} (o : Outcome Value) → GivesKey scope ts s o
      → DoesPlain scope (Delete a ts) s (go_on o (λ key. call row.Delete (array_at scope a s, (key, tt))))
  deletes_from (Gives key s1) d = deletes d
  deletes_from (Stops why s1) d = deletes_stops d

  pub plain_complete : (p : Plain) (s : State) → s.turns ≤ n → DoesPlain scope p s (plain_done scope n (called scope.script n) p s)
  unfolding plain_done
  plain_complete (Eval t) s h = expression_from (V t s) (evaluated t s h)
  plain_complete (Put p args target) s h =
      puts_from (values_of scope n (called scope.script n) (with_target (operands_of args) target) s)
      (all_complete scope n called_complete (with_target (operands_of args) target) s h)
  plain_complete (Delete a ts) s h =
      numbered a (λ i. K ts >>= λ key. call row.Delete (i, (key, tt))) (deletes_from (K ts s) (key_complete scope n called_complete ts s h))
  plain_complete (Clear a) s h = numbered a (λ i. call row.Clear (i, tt)) clears

  pub maybe_complete : (p : Option Plain) (s : State) → s.turns ≤ n → DoesMaybe scope p s (P p s)
  maybe_complete None s h = left_out
  maybe_complete (Some p) s h = done (plain_complete p s h)

  -- ---- loops

  stepped : {c : Option Tree} {b : Stmt} {p : Option Plain} {s s1 s2 : State} {k : ℕ} {flow : Flow} → s.turns ≡ suc k
      → Tests scope c (with_turns k s) (Gives true s1) → Does scope b s1 (Gives flow s2) → GoesOn flow → (rest : Execution Flow)
      → ((s3 : State) → s3.turns ≤ s2.turns → Rounds scope c b p s3 (rest s3)) → (o : Outcome (Unit {0})) → DoesMaybe scope p s2 o
      → Rounds scope c b p s (go_on o (λ u. rest))
  stepped e d f g rest r (Gives u s3) m = round e d f g m (r s3 (maybe_falls m))
  stepped e d f g rest r (Stops why s3) m = round_step_stops e d f g m

  bodied : {c : Option Tree} {b : Stmt} {p : Option Plain} {s s1 : State} {k : ℕ} → s.turns ≡ suc k → s1.turns ≤ n
      → Tests scope c (with_turns k s) (Gives true s1) → (rest : Execution Flow)
      → ((s3 : State) → s3.turns ≤ s1.turns → Rounds scope c b p s3 (rest s3)) → (o : Outcome Flow) → Does scope b s1 o
      → Rounds scope c b p s (go_on o (λ flow. after_round flow (P p >> rest)))
  bodied {p} e h d rest r (Gives Normal s2) f =
      stepped e d f round_ends rest (λ s3 l. r s3 (below (done_falls f) l)) (P p s2) (maybe_complete p s2 (below h (done_falls f)))
  bodied {p} e h d rest r (Gives Continued s2) f =
      stepped e d f round_is_left rest (λ s3 l. r s3 (below (done_falls f) l)) (P p s2) (maybe_complete p s2 (below h (done_falls f)))
  bodied e h d rest r (Gives Broke s2) f = round_breaks e d f
  bodied e h d rest r (Stops why s2) f = round_stops e d f

  tested : {c : Option Tree} {b : Stmt} {p : Option Plain} {s : State} {k : ℕ} → s.turns ≡ suc k → k ≤ n → DoesComplete b → (rest : Execution Flow)
      → ((s3 : State) → s3.turns ≤ k → Rounds scope c b p s3 (rest s3)) → (o : Outcome Bool) → Tests scope c (with_turns k s) o
      → Rounds scope c b p s (go_on o (λ holds. if holds then (D b >>= λ flow. after_round flow (P p >> rest)) else give Normal))
  tested {b} e h i rest r (Gives true s1) d =
      bodied e (below h (test_falls d)) d rest (λ s3 l. r s3 (below (test_falls d) l)) (D b s1) (i s1 (below h (test_falls d)))
  tested e h i rest r (Gives false s1) d = loop_ends e d
  tested e h i rest r (Stops why s1) d = round_test_stops e d

  turned : {c : Option Tree} {b : Stmt} {p : Option Plain} {s : State} → s.turns ≤ n → DoesComplete b → (rest : Execution Flow)
      → ((s3 : State) → suc s3.turns ≤ s.turns → Rounds scope c b p s3 (rest s3)) → (k : ℕ) → s.turns ≡ k
      → Rounds scope c b p s
      (go_on (spent k s) (λ u. T c >>= λ holds. if holds then (D b >>= λ flow. after_round flow (P p >> rest)) else give Normal))
  turned h i rest r zero e = round_without_turn e
  turned {c} {s} h i rest r (suc k) e =
      tested e (less e h) i rest (λ s3 l. r s3 (omega (arith, e, l))) (T c (with_turns k s)) (test_complete c (with_turns k s) (less e h))

  pub rounds_complete : (c : Option Tree) (b : Stmt) (p : Option Plain) → DoesComplete b → (j : ℕ) (s : State) → s.turns ≤ n → s.turns ≤ j
      → Rounds scope c b p s (loop j (T c) (D b) (P p) s)
  unfolding loop
  rounds_complete c b p i zero s h l = round_without_turn (none_are_left l)
  rounds_complete c b p i (suc j) s h l =
      turned h i (loop j (T c) (D b) (P p)) (λ s3 m. rounds_complete c b p i j s3 (omega (arith, h, m)) (omega (arith, l, m))) s.turns refl

  -- ---- walks

  walked : {keys : ℕ} {x : List ℕ} {b : Stmt} {s s1 s2 : State} {key : Value} {k : ℕ} {u : Unit {0}}
      → call row.IterNext (keys, tt) s ≡ Gives (Some key) s1 → s1.turns ≡ suc k → store_variable (variable_of scope x) key (with_turns k s1) ≡ Gives u s2
      → (rest : Execution Flow) → ((s3 : State) → s3.turns ≤ s2.turns → Walks scope keys x b s3 (rest s3)) → (o : Outcome Flow) → Does scope b s2 o
      → Walks scope keys x b s (go_on o (λ flow. after_round flow rest))
  walked e t a rest r (Gives Normal s3) d = walk e t a d round_ends (r s3 (done_falls d))
  walked e t a rest r (Gives Continued s3) d = walk e t a d round_is_left (r s3 (done_falls d))
  walked e t a rest r (Gives Broke s3) d = walk_breaks e t a d
  walked e t a rest r (Stops why s3) d = walk_stops e t a d

  key_taken : {keys : ℕ} {x : List ℕ} {b : Stmt} {s s1 : State} {key : Value} {k : ℕ} → call row.IterNext (keys, tt) s ≡ Gives (Some key) s1
      → s1.turns ≡ suc k → k ≤ n → DoesComplete b → (rest : Execution Flow)
      → ((s3 : State) → s3.turns ≤ k → Walks scope keys x b s3 (rest s3)) → (o : Outcome (Unit {0}))
      → store_variable (variable_of scope x) key (with_turns k s1) ≡ o
      → Walks scope keys x b s (go_on o (λ u. D b >>= λ flow. after_round flow rest))
  key_taken {x} {b} {s1} {key} {k} e t h i rest r (Gives u s2) a =
      let l : s2.turns ≤ k = gave (with_turns k s1) (store_variable_spends (variable_of scope x) key) a in
      walked e t a rest (λ s3 m. r s3 (below l m)) (D b s2) (i s2 (below h l))
  key_taken e t h i rest r (Stops why s2) a = key_not_stored e t a

  key_turned : {keys : ℕ} {x : List ℕ} {b : Stmt} {s s1 : State} {key : Value} → call row.IterNext (keys, tt) s ≡ Gives (Some key) s1 → s1.turns ≤ n
      → DoesComplete b → (rest : Execution Flow) → ((s3 : State) → suc s3.turns ≤ s1.turns → Walks scope keys x b s3 (rest s3)) → (k : ℕ)
      → s1.turns ≡ k
      → Walks scope keys x b s
      (go_on (spent k s1) (λ u. store_variable (variable_of scope x) key >> D b >>= λ flow. after_round flow rest))
  key_turned e h i rest r zero t = key_without_turn e t
  key_turned {x} {s1} {key} e h i rest r (suc k) t =
      key_taken e t (less t h) i rest (λ s3 l. r s3 (omega (arith, t, l))) (store_variable (variable_of scope x) key (with_turns k s1)) refl

  key_given : {keys : ℕ} {x : List ℕ} {b : Stmt} (s : State) → s.turns ≤ n → DoesComplete b → (rest : Execution Flow)
      → ((s3 : State) → suc s3.turns ≤ s.turns → Walks scope keys x b s3 (rest s3)) → (o : Outcome (Option Value)) → call row.IterNext (keys, tt) s ≡ o
      → Walks scope keys x b s
      (go_on o (at_key (λ key. store_variable (variable_of scope x) key >> D b >>= λ flow. after_round flow rest)))
  key_given s h i rest r (Gives None s1) e = walk_ends e
  key_given {keys} s h i rest r (Gives (Some key) s1) e =
      let l : s1.turns ≤ s.turns = gave s (call_spends row.IterNext (keys, tt)) e in
      key_turned e (below h l) i rest (λ s3 m. r s3 (omega (arith, l, m))) s1.turns refl
  key_given s h i rest r (Stops why s1) e = walk_fails e

  last_key : {keys : ℕ} {x : List ℕ} {b : Stmt} (s : State) → s.turns ≤ 0 → (o : Outcome (Option Value)) → call row.IterNext (keys, tt) s ≡ o
      → Walks scope keys x b s (go_on o (at_key (λ key. stop OutOfTurns)))
  last_key s l (Gives None s1) e = walk_ends e
  last_key {keys} {x} {b} s l (Gives (Some key) s1) e =
      let t : s1.turns ≡ zero = none_are_left (below l (gave s (call_spends row.IterNext (keys, tt)) e)) in
      subst (λ (o : Outcome Flow). Walks scope keys x b s o) (sym (no_turn s1 (λ u. stop OutOfTurns) t)) (key_without_turn e t)
  last_key s l (Stops why s1) e = walk_fails e

  pub walk_complete : (keys : ℕ) (x : List ℕ) (b : Stmt) → DoesComplete b → (j : ℕ) (s : State) → s.turns ≤ n → s.turns ≤ j
      → Walks scope keys x b s (over_keys j keys (store_variable (variable_of scope x)) (D b) s)
  unfolding over_keys
  walk_complete keys x b i zero s h l = last_key s l (call row.IterNext (keys, tt) s) refl
  walk_complete keys x b i (suc j) s h l =
      key_given s h i (over_keys j keys (store_variable (variable_of scope x)) (D b))
      (λ s3 m. walk_complete keys x b i j s3 (omega (arith, h, m)) (omega (arith, l, m))) (call row.IterNext (keys, tt) s) refl

  -- ---- statements

  simple_from : {p : Plain} {s : State} (o : Outcome (Unit {0})) → DoesPlain scope p s o → Does scope (Simple p) s (go_on o (λ u. give Normal))
  simple_from (Gives u s1) d = simple d
  simple_from (Stops why s1) d = simple_stops d

  if_from : {c : Tree} {b : Stmt} {s : State} → DoesComplete b → s.turns ≤ n → (o : Outcome Bool) → Tests scope (Some c) s o
      → Does scope (If c b) s (go_on o (λ holds. if holds then D b else give Normal))
  if_from i h (Gives true s1) d = if_true d (i s1 (below h (test_falls d)))
  if_from i h (Gives false s1) d = if_false d
  if_from i h (Stops why s1) d = if_stops d

  else_from : {c : Tree} {a b : Stmt} {s : State} → DoesComplete a → DoesComplete b → s.turns ≤ n → (o : Outcome Bool) → Tests scope (Some c) s o
      → Does scope (IfElse c a b) s (go_on o (λ holds. if holds then D a else D b))
  else_from i j h (Gives true s1) d = else_true d (i s1 (below h (test_falls d)))
  else_from i j h (Gives false s1) d = else_false d (j s1 (below h (test_falls d)))
  else_from i j h (Stops why s1) d = else_stops d

  do_from : {c : Tree} {b : Stmt} {s : State} → DoesComplete b → s.turns ≤ n → (o : Outcome Flow) → Does scope b s o
      → Does scope (Do b c) s (go_on o (λ flow. after_round flow (loop n (T (Some c)) (D b) (P None))))
  do_from {c} {b} i h (Gives Normal s1) d =
      do_loop d round_ends (rounds_complete (Some c) b None i n s1 (below h (done_falls d)) (below h (done_falls d)))
  do_from {c} {b} i h (Gives Continued s1) d =
      do_loop d round_is_left (rounds_complete (Some c) b None i n s1 (below h (done_falls d)) (below h (done_falls d)))
  do_from i h (Gives Broke s1) d = do_breaks d
  do_from i h (Stops why s1) d = do_stops d

  for_from : {i p : Option Plain} {c : Option Tree} {b : Stmt} {s : State} → DoesComplete b → s.turns ≤ n → (o : Outcome (Unit {0}))
      → DoesMaybe scope i s o → Does scope (For i c p b) s (go_on o (λ u. loop n (T c) (D b) (P p)))
  for_from {p} {c} {b} j h (Gives u s1) d = for_loop d (rounds_complete c b p j n s1 (below h (maybe_falls d)) (below h (maybe_falls d)))
  for_from j h (Stops why s1) d = for_stops d

  for_in_from : {k a : List ℕ} {b : Stmt} (s : State) → DoesComplete b → s.turns ≤ n → (o : Outcome ℕ)
      → call row.Iter (array_at scope a s, tt) s ≡ o
      → Does scope (ForIn k a b) s (go_on o (λ keys. over_keys n keys (store_variable (variable_of scope k)) (D b)))
  for_in_from {k} {a} {b} s i h (Gives keys s1) e =
      let l : s1.turns ≤ s.turns = gave s (call_spends row.Iter (array_at scope a s, tt)) e in
      for_in e (walk_complete keys k b i n s1 (below h l) (below h l))
  for_in_from s i h (Stops why s1) e = for_in_stops e

  for_in_numbered : (k a : List ℕ) (b : Stmt) (s : State) → DoesComplete b → s.turns ≤ n
      → Does scope (ForIn k a b) s
      (go_on (array_number (array_of scope a) s)
      (λ i. call row.Iter (i, tt) >>= λ keys. over_keys n keys (store_variable (variable_of scope k)) (D b)))
  for_in_numbered k a b s i h =
      subst (λ (r : Outcome ℕ). Does scope (ForIn k a b) s
      (go_on r (λ i. call row.Iter (i, tt) >>= λ keys. over_keys n keys (store_variable (variable_of scope k)) (D b))))
      (sym (array_is (array_of scope a) s)) (for_in_from s i h (call row.Iter (array_at scope a s, tt) s) refl)

  next_file_from : {s : State} (o : Outcome (Unit {0})) → call row.NextFile tt s ≡ o → Does scope (Jumping NextFile) s (go_on o (λ u. stop Nexted))
  next_file_from (Gives u s1) e = next_files e
  next_file_from (Stops why s1) e = next_files_stops e

  exit_number : {t : Tree} {s s1 : State} {x : Value} → Evaluates scope t s (Gives x s1) → (o : Outcome AnyNumber) → number_in x s1 ≡ o
      → Does scope (Leave Exit (Some t)) s (go_on o (λ m. change (with_status m) >>= λ u. stop Exited))
  exit_number d (Gives m s2) e = exits_with d e
  exit_number d (Stops why s2) e = exits_no_number d e

  exit_from : {t : Tree} {s : State} (o : Outcome Value) → Evaluates scope t s o
      → Does scope (Leave Exit (Some t)) s (go_on o (λ x. number_in x >>= λ m. change (with_status m) >>= λ u. stop Exited))
  exit_from (Gives x s1) d = exit_number d (number_in x s1) refl
  exit_from (Stops why s1) d = exits_stops d

  return_from : {t : Tree} {s : State} (o : Outcome Value) → Evaluates scope t s o
      → Does scope (Leave Return (Some t)) s (go_on o (λ x. stop (Returned x)))
  return_from (Gives x s1) d = returns_with d
  return_from (Stops why s1) d = returns_stops d

  next_from : {b : Stmt} {bs : Stmts} {s : State} → AllDoneComplete bs → s.turns ≤ n → (o : Outcome Flow) → Does scope b s o
      → DoesAll scope (And b bs) s (go_on o (λ flow. after flow (A bs)))
  next_from i h (Gives Normal s1) d = next_statement d (i s1 (below h (done_falls d)))
  next_from i h (Gives Broke s1) d = statement_leaves d by_break
  next_from i h (Gives Continued s1) d = statement_leaves d by_continue
  next_from i h (Stops why s1) d = statement_stops d

  mutual
    unfolding done_by

    pub does_complete : (b : Stmt) → DoesComplete b
    does_complete (Block bs) = λ s h. block (all_done_complete bs s h)
    does_complete Empty = λ s h. empty
    does_complete (Simple p) = λ s h. simple_from (plain_done scope n (called scope.script n) p s) (plain_complete p s h)
    does_complete (If c b) = λ s h. if_from (does_complete b) h (T (Some c) s) (test_complete (Some c) s h)
    does_complete (IfElse c a b) = λ s h. else_from (does_complete a) (does_complete b) h (T (Some c) s) (test_complete (Some c) s h)
    does_complete (While c b) = λ s h. while_loop (rounds_complete (Some c) b None (does_complete b) n s h h)
    does_complete (Do b c) = λ s h. do_from (does_complete b) h (D b s) (does_complete b s h)
    does_complete (For i c p b) = λ s h. for_from (does_complete b) h (P i s) (maybe_complete i s h)
    does_complete (ForIn k a b) = λ s h. for_in_numbered k a b s (does_complete b) h
    does_complete (Jumping Break) = λ s h. breaks
    does_complete (Jumping Continue) = λ s h. continues
    does_complete (Jumping Next) = λ s h. nexts
    does_complete (Jumping NextFile) = λ s h. next_file_from (call row.NextFile tt s) refl
    does_complete (Leave Exit None) = λ s h. exits
    does_complete (Leave Exit (Some t)) = λ s h. exit_from (V t s) (evaluated t s h)
    does_complete (Leave Return None) = λ s h. returns
    does_complete (Leave Return (Some t)) = λ s h. return_from (V t s) (evaluated t s h)

    pub all_done_complete : (bs : Stmts) → AllDoneComplete bs
    all_done_complete NoStmt = λ s h. no_statement
    all_done_complete (And b bs) = λ s h. next_from (all_done_complete bs) h (D b s) (does_complete b s h)

-- ---- calls

call_body : {script : Resolved} {i : ℕ} {locals : List Local} {s : State} {k room : ℕ} → s.turns ≡ suc k → s.own.calls_left ≡ suc room
    → (o : Outcome Flow) → DoesAll (scope_of script i) (body_of script i) (in_call locals room (with_turns k s)) o
    → IsCalled script i locals s (returned s.own o)
call_body e r (Gives flow s1) d = body_ends e r d
call_body e r (Stops (Returned x) s1) d = body_returns e r d
call_body e r (Stops (Faulted fault) s1) d = body_stops e r tt d
call_body e r (Stops OutOfTurns s1) d = body_stops e r tt d
call_body e r (Stops TooDeep s1) d = body_stops e r tt d
call_body e r (Stops Nexted s1) d = body_stops e r tt d
call_body e r (Stops Exited s1) d = body_stops e r tt d

call_room : (script : Resolved) (n i : ℕ) (locals : List Local) (s : State) (k : ℕ) → CallsComplete script n → s.turns ≡ suc k → k ≤ n → (room : ℕ)
    → s.own.calls_left ≡ room
    → IsCalled script i locals s (entered_with room locals (all_done (scope_of script i) n (called script n) (body_of script i)) (with_turns k s))
call_room script n i locals s k c e l zero r = call_too_deep e r
call_room script n i locals s k c e l (suc room) r =
    call_body e r (all_done (scope_of script i) n (called script n) (body_of script i) (in_call locals room (with_turns k s)))
    (all_done_complete (scope_of script i) n c (body_of script i) (in_call locals room (with_turns k s)) l)

call_turn : (script : Resolved) (n i : ℕ) (locals : List Local) (s : State) → CallsComplete script n → s.turns ≤ suc n → (k : ℕ) → s.turns ≡ k
    → IsCalled script i locals s (go_on (spent k s) (λ u. called script (suc n) i locals))
unfolding called
call_turn script n i locals s c l zero e = call_without_turn e
call_turn script n i locals s c l (suc k) e = call_room script n i locals s k c e (one_less e l) s.own.calls_left refl

pub calls_complete : (script : Resolved) (n : ℕ) → CallsComplete script n
calls_complete script zero i locals s h =
    subst (λ (t : ℕ). IsCalled script i locals s (go_on (spent t s) (λ u. called script zero i locals))) (sym (none_are_left h))
    (call_without_turn (none_are_left h))
calls_complete script (suc n) i locals s h = call_turn script n i locals s (calls_complete script n) h s.turns refl

-- ---- both ways

pub value_law : (scope : Scope) (n : ℕ) (t : Tree) (s : State) (o : Outcome Value) → s.turns ≤ n
    → Evaluates scope t s o ↔ (value_of scope n (called scope.script n) t s ≡ o)
value_law scope n t s o h =
    (λ d. sound d n h, λ e. subst (Evaluates scope t s) e (complete scope n (calls_complete scope.script n) t s h))

pub values_law : (scope : Scope) (n : ℕ) (ts : Trees) (s : State) (o : Outcome (List Value)) → s.turns ≤ n
    → EvaluatesAll scope ts s o ↔ (values_of scope n (called scope.script n) ts s ≡ o)
values_law scope n ts s o h =
    (λ d. all_sound d n h, λ e. subst (EvaluatesAll scope ts s) e (all_complete scope n (calls_complete scope.script n) ts s h))

pub key_law : (scope : Scope) (n : ℕ) (ts : Trees) (s : State) (o : Outcome Value) → s.turns ≤ n
    → GivesKey scope ts s o ↔ (key_of scope n (called scope.script n) ts s ≡ o)
key_law scope n ts s o h =
    (λ d. key_sound d n h, λ e. subst (GivesKey scope ts s) e (key_complete scope n (calls_complete scope.script n) ts s h))

pub place_law : (scope : Scope) (n : ℕ) (t : Tree) (s : State) (o : Outcome Place) → s.turns ≤ n
    → Finds scope t s o ↔ (place_of scope n (called scope.script n) t s ≡ o)
place_law scope n t s o h =
    (λ d. place_sound d n h, λ e. subst (Finds scope t s) e (place_complete scope n (calls_complete scope.script n) t s h))

pub passes_law : (scope : Scope) (n : ℕ) (ps : List Name) (ts : Trees) (s : State) (o : Outcome (List Local)) → s.turns ≤ n
    → Passes scope ps ts s o ↔ (passed scope n (called scope.script n) ps ts s ≡ o)
passes_law scope n ps ts s o h =
    (λ d. passes_sound d n h, λ e. subst (Passes scope ps ts s) e (passes_complete scope n (calls_complete scope.script n) ps ts s h))

pub plain_law : (scope : Scope) (n : ℕ) (p : Plain) (s : State) (o : Outcome (Unit {0})) → s.turns ≤ n
    → DoesPlain scope p s o ↔ (plain_done scope n (called scope.script n) p s ≡ o)
plain_law scope n p s o h =
    (λ d. plain_sound d n h, λ e. subst (DoesPlain scope p s) e (plain_complete scope n (calls_complete scope.script n) p s h))

pub statement_law : (scope : Scope) (n : ℕ) (b : Stmt) (s : State) (o : Outcome Flow) → s.turns ≤ n
    → Does scope b s o ↔ (done_by scope n (called scope.script n) b s ≡ o)
statement_law scope n b s o h =
    (λ d. does_sound d n h, λ e. subst (Does scope b s) e (does_complete scope n (calls_complete scope.script n) b s h))

pub statements_law : (scope : Scope) (n : ℕ) (bs : Stmts) (s : State) (o : Outcome Flow) → s.turns ≤ n
    → DoesAll scope bs s o ↔ (all_done scope n (called scope.script n) bs s ≡ o)
statements_law scope n bs s o h =
    (λ d. all_done_sound d n h, λ e. subst (DoesAll scope bs s) e (all_done_complete scope n (calls_complete scope.script n) bs s h))

pub call_law : (script : Resolved) (n i : ℕ) (locals : List Local) (s : State) (o : Outcome Value) → s.turns ≤ n
    → IsCalled script i locals s o ↔ (go_on (spend s) (λ u. called script n i locals) ≡ o)
call_law script n i locals s o h =
    (λ d. call_sound d n h, λ e. subst (IsCalled script i locals s) e (calls_complete script n i locals s h))
