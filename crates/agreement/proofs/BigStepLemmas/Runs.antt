-- What the rules say of a run is what the functions compute.
use Rattle.std.proofs.Common.{◌≡◌, ℕ, zero, suc, ◌≤◌, ◌↔◌, Bool, true, false, List, [], ◌∷◌, Option, Some, None, map, refl, sym, ap, subst, ◌∙◌, arith}
use Rattle.std.specs.Prelude.{if◌then◌else◌}
use Rattle.awk_values.specs.declared.fault.Fault.{Fault}
use Rattle.sem_primitives.specs.Jobs.{fault_of_job}
use Rattle.sem_primitives.specs.declared.answers.AssignAnswer.{AssignAnswer}
use Rattle.sem_primitives.specs.declared.answers.AssignAnswer.TheVariants as assign
use Rattle.sem_primitives.specs.declared.answers.InputAnswer.{InputAnswer}
use Rattle.sem_primitives.specs.declared.answers.InputAnswer.TheVariants as input
use Rattle.sem_primitives.specs.declared.table.Primitive.TheVariants as row
use Rattle.sem_scripts.specs.Names.{Name, Resolved, names_length}
use Rattle.sem_scripts.specs.ScriptState.{State, Stop, Faulted, OutOfTurns, TooDeep, Nexted, Exited, Returned, Outcome, Gives, Stops, Execution, go_on, ◌>>=◌, ◌>>◌, nothing, stop, call, asks, spent}
use Rattle.sem_scripts.specs.Meaning.{assign_pending}
use Rattle.sem_scripts.specs.Statements.{Flow, called}
use Rattle.sem_scripts.specs.Items.{top, items_done, begun, ended, reads_records}
use Rattle.sem_scripts.specs.ScriptRun.{kind_of, announced, as_name, arrays_made, on_assignment, first_assigned, next_over, for_record, on_input, records_done, part_over, part, all_parts, parts_of, Ending, ending, unless, Setting, start, resolved_run}
use Rattle.agreement.specs.BigStep.Rules.{with_turns}
use Rattle.agreement.specs.BigStep.Items.{DoesItems, AtBegin, AtEnd, DoesEdge}
use Rattle.agreement.specs.BigStep.Runs.{at_end, failed, AssignsFirst, none_left as no_assignment, start_fails, start_without_turn, start_assigns, start_assigns_stops, RecordEnds, by_its_end, by_next, IsNoNext, DoesRecords, no_record, record_fails, record_without_turn, record_done, record_stops, assignment_without_turn, assignment_made, assignment_stops, DoesBeginning, without_records, with_records, begin_stops, PartEnds, by_its_last, by_exit, next_outside, by_fault, by_turns, by_depth, by_return, DoesEnd, end_done, end_stops, DoesParts, setup_stops, first_stops, main_stops, end_begins_stops, parts_done, Ends, refused_job, runs}
use Rattle.agreement.proofs.BigStepLemmas.Turns.{state_of, Spends, below, same, then_spends, give_spends, choose_spends, call_spends, asks_spends, assign_pending_spends}
use Rattle.agreement.proofs.BigStepLemmas.Falls.{gave, fewer}
use Rattle.agreement.proofs.BigStepLemmas.Sound.{gives_then, stops_then, chosen_true, chosen_false, no_turn, a_turn, none_left, one_less}
use Rattle.agreement.proofs.BigStepLemmas.Items.{items_fall, edge_falls, items_sound, edge_sound, items_complete, edge_complete}

none_are_left : {n : ℕ} → n ≤ 0 → n ≡ zero
none_are_left l = omega (arith, l)

-- a turn is taken, and then something that leaves no more
less_then : {n k m j : ℕ} → n ≡ suc k → n ≤ j → m ≤ k → suc m ≤ j
less_then e h l = omega (arith, e, h, l)

smaller : {m n : ℕ} → suc m ≤ suc n → m ≤ n
smaller h = omega (arith, h)

weaker : {m n : ℕ} → suc m ≤ n → m ≤ n
weaker h = omega (arith, h)

-- ---- assignments before BEGIN

first_falls : {s : State} {o : Outcome (Unit {0})} → AssignsFirst s o → (state_of o).turns ≤ s.turns
first_falls (no_assignment {s} e) = gave s (asks_spends row.StartAssign tt) e
first_falls (start_fails {s} e) = gave s (asks_spends row.StartAssign tt) e
first_falls (start_without_turn {s} e t) = gave s (asks_spends row.StartAssign tt) e
first_falls (start_assigns {s} {s1} {k} e t a d) =
    below (below (gave s (asks_spends row.StartAssign tt) e) (fewer t (gave (with_turns k s1) assign_pending_spends a))) (first_falls d)
first_falls (start_assigns_stops {s} {s1} {k} e t a) =
    below (gave s (asks_spends row.StartAssign tt) e) (fewer t (gave (with_turns k s1) assign_pending_spends a))

first_sound : {s : State} {o : Outcome (Unit {0})} → AssignsFirst s o → (j : ℕ) → s.turns ≤ j → first_assigned j s ≡ o
unfolding first_assigned
first_sound (no_assignment e) zero l = gives_then _ e refl
first_sound (no_assignment e) (suc j) l = gives_then _ e refl
first_sound (start_fails e) zero l = stops_then _ e
first_sound (start_fails e) (suc j) l = stops_then _ e
first_sound (start_without_turn {s1} e t) zero l = gives_then _ e (no_turn s1 _ t)
first_sound (start_without_turn {s1} e t) (suc j) l = gives_then _ e (no_turn s1 _ t)
first_sound (start_assigns {s} e t a d) zero l = none_left t (below l (gave s (asks_spends row.StartAssign tt) e))
first_sound (start_assigns {s} {s1} {k} e t a d) (suc j) l =
    gives_then _ e
    (a_turn s1 k (λ u. assign_pending >> first_assigned j) t
    (gives_then (λ u. first_assigned j) a
    (first_sound d j
    (below (one_less t (below l (gave s (asks_spends row.StartAssign tt) e))) (gave (with_turns k s1) assign_pending_spends a)))))
first_sound (start_assigns_stops {s} e t a) zero l = none_left t (below l (gave s (asks_spends row.StartAssign tt) e))
first_sound (start_assigns_stops {s1} {k} e t a) (suc j) l =
    gives_then _ e (a_turn s1 k (λ u. assign_pending >> first_assigned j) t (stops_then (λ u. first_assigned j) a))

first_made : {s s1 : State} {k : ℕ} → asks row.StartAssign tt s ≡ Gives assign.Pending s1 → s1.turns ≡ suc k → (rest : Execution (Unit {0}))
    → ((s2 : State) → s2.turns ≤ k → AssignsFirst s2 (rest s2)) → (o : Outcome (Unit {0})) → assign_pending (with_turns k s1) ≡ o
    → AssignsFirst s (go_on o (λ u. rest))
first_made {s1} {k} e t rest r (Gives u s2) a = start_assigns e t a (r s2 (gave (with_turns k s1) assign_pending_spends a))
first_made e t rest r (Stops why s2) a = start_assigns_stops e t a

first_turned : {s s1 : State} → asks row.StartAssign tt s ≡ Gives assign.Pending s1 → (rest : Execution (Unit {0}))
    → ((s2 : State) → suc s2.turns ≤ s1.turns → AssignsFirst s2 (rest s2)) → (k : ℕ) → s1.turns ≡ k
    → AssignsFirst s (go_on (spent k s1) (λ u. assign_pending >> rest))
first_turned e rest r zero t = start_without_turn e t
first_turned {s1} e rest r (suc k) t = first_made e t rest (λ s2 l. r s2 (less_then t (same s1.turns) l)) (assign_pending (with_turns k s1)) refl

first_asked : (s : State) (rest : Execution (Unit {0})) → ((s2 : State) → suc s2.turns ≤ s.turns → AssignsFirst s2 (rest s2)) → (o : Outcome AssignAnswer)
    → asks row.StartAssign tt s ≡ o → AssignsFirst s (go_on o (on_assignment (assign_pending >> rest)))
first_asked s rest r (Gives assign.NoneLeft s1) e = no_assignment e
first_asked s rest r (Gives assign.Pending s1) e =
    first_turned e rest (λ s2 l. r s2 (below (gave s (asks_spends row.StartAssign tt) e) l)) s1.turns refl
first_asked s rest r (Stops why s1) e = start_fails e

first_last : (s : State) → s.turns ≤ 0 → (o : Outcome AssignAnswer) → asks row.StartAssign tt s ≡ o
    → AssignsFirst s (go_on o (on_assignment (stop OutOfTurns)))
first_last s l (Gives assign.NoneLeft s1) e = no_assignment e
first_last s l (Gives assign.Pending s1) e =
    let t : s1.turns ≡ zero = none_are_left (below l (gave s (asks_spends row.StartAssign tt) e)) in
    subst (λ (o : Outcome (Unit {0})). AssignsFirst s o) (sym (no_turn s1 (λ u. stop OutOfTurns) t)) (start_without_turn e t)
first_last s l (Stops why s1) e = start_fails e

first_complete : (j : ℕ) (s : State) → s.turns ≤ j → AssignsFirst s (first_assigned j s)
unfolding first_assigned
first_complete zero s l = first_last s l (asks row.StartAssign tt s) refl
first_complete (suc j) s l =
    first_asked s (first_assigned j) (λ s2 m. first_complete j s2 (smaller (below l m))) (asks row.StartAssign tt s) refl

-- ---- records

record_is : (r : Outcome Flow) (s : State) → RecordEnds r s → next_over (go_on r (λ flow. nothing)) ≡ Gives tt s
record_is r s by_its_end = refl
record_is r s by_next = refl

no_next : (why : Stop) (s : State) → IsNoNext why → next_over (Stops why s) ≡ Stops why s
no_next (Faulted fault) s h = refl
no_next OutOfTurns s h = refl
no_next TooDeep s h = refl
no_next Nexted s h = absurd h
no_next Exited s h = refl
no_next (Returned x) s h = refl

record_end_falls : {r : Outcome Flow} {s : State} → RecordEnds r s → s.turns ≤ (state_of r).turns
record_end_falls (by_its_end {s}) = same s.turns
record_end_falls (by_next {s}) = same s.turns

next_record : (s : State) {o : Outcome InputAnswer} → asks row.NextMain tt s ≡ o → (state_of o).turns ≤ s.turns
next_record s e = gave s (asks_spends row.NextMain tt) e

records_fall : {script : Resolved} {s : State} {o : Outcome (Unit {0})} → DoesRecords script s o → (state_of o).turns ≤ s.turns
records_fall (no_record {s} e q) = next_record s e
records_fall (record_fails {s} e) = next_record s e
records_fall (record_without_turn {s} e t) = next_record s e
records_fall (record_done {s} e t d q r) = below (below (next_record s e) (fewer t (below (items_fall d) (record_end_falls q)))) (records_fall r)
records_fall (record_stops {s} e t d q) = below (next_record s e) (fewer t (items_fall d))
records_fall (assignment_without_turn {s} e t) = next_record s e
records_fall (assignment_made {s} {s1} {k} e t a d) =
    below (below (next_record s e) (fewer t (gave (with_turns k s1) assign_pending_spends a))) (records_fall d)
records_fall (assignment_stops {s} {s1} {k} e t a) = below (next_record s e) (fewer t (gave (with_turns k s1) assign_pending_spends a))

module _ (script : Resolved) (n : ℕ) where
  -- what is done for a record
  abbrev pub for_each : Execution (Unit {0})
  for_each = items_done (top script) n (called script n) 0 script.items >> nothing

  records_sound : {s : State} {o : Outcome (Unit {0})} → DoesRecords script s o → s.turns ≤ n → (j : ℕ) → s.turns ≤ j → records_done j for_each s ≡ o
  unfolding records_done
  records_sound (no_record e at_end) h zero l = gives_then _ e refl
  records_sound (no_record e at_end) h (suc j) l = gives_then _ e refl
  records_sound (no_record e failed) h zero l = gives_then _ e refl
  records_sound (no_record e failed) h (suc j) l = gives_then _ e refl
  records_sound (record_fails e) h zero l = stops_then _ e
  records_sound (record_fails e) h (suc j) l = stops_then _ e
  records_sound (record_without_turn {s1} e t) h zero l = gives_then _ e (no_turn s1 _ t)
  records_sound (record_without_turn {s1} e t) h (suc j) l = gives_then _ e (no_turn s1 _ t)
  records_sound (record_done {s} e t d q r) h zero l = none_left t (below l (next_record s e))
  records_sound (record_done {s} {s1} {s2} {k} {r} e t d q m) h (suc j) l =
      gives_then _ e
      (a_turn s1 k _ t
      (gives_then _
      (ap (λ (x : Outcome Flow). next_over (go_on x (λ flow. nothing))) (items_sound d n (weaker (less_then t (below h (next_record s e)) (same k))))
      ∙ record_is r s2 q)
      (records_sound m (below h (below (next_record s e) (fewer t (below (items_fall d) (record_end_falls q))))) j
      (below (one_less t (below l (next_record s e))) (below (items_fall d) (record_end_falls q))))))
  records_sound (record_stops {s} e t d q) h zero l = none_left t (below l (next_record s e))
  records_sound (record_stops {s} {s1} {s2} {k} {why} e t d q) h (suc j) l =
      gives_then _ e
      (a_turn s1 k _ t
      (stops_then _
      (ap (λ (x : Outcome Flow). next_over (go_on x (λ flow. nothing))) (items_sound d n (weaker (less_then t (below h (next_record s e)) (same k))))
      ∙ no_next why s2 q)))
  records_sound (assignment_without_turn {s1} e t) h zero l = gives_then _ e (no_turn s1 _ t)
  records_sound (assignment_without_turn {s1} e t) h (suc j) l = gives_then _ e (no_turn s1 _ t)
  records_sound (assignment_made {s} e t a d) h zero l = none_left t (below l (next_record s e))
  records_sound (assignment_made {s} {s1} {k} e t a d) h (suc j) l =
      gives_then _ e
      (a_turn s1 k (λ u. assign_pending >> records_done j for_each) t
      (gives_then (λ u. records_done j for_each) a
      (records_sound d (below h (below (next_record s e) (fewer t (gave (with_turns k s1) assign_pending_spends a)))) j
      (below (one_less t (below l (next_record s e))) (gave (with_turns k s1) assign_pending_spends a)))))
  records_sound (assignment_stops {s} e t a) h zero l = none_left t (below l (next_record s e))
  records_sound (assignment_stops {s1} {k} e t a) h (suc j) l =
      gives_then _ e (a_turn s1 k (λ u. assign_pending >> records_done j for_each) t (stops_then (λ u. records_done j for_each) a))

  record_over : {s s1 : State} {k : ℕ} → asks row.NextMain tt s ≡ Gives input.Read s1 → s1.turns ≡ suc k → (rest : Execution (Unit {0}))
      → ((s2 : State) → s2.turns ≤ k → DoesRecords script s2 (rest s2)) → (r : Outcome Flow)
      → DoesItems (top script) 0 script.items (with_turns k s1) r
      → DoesRecords script s (go_on (next_over (go_on r (λ flow. nothing))) (λ u. rest))
  record_over e t rest m (Gives flow s2) d = record_done e t d by_its_end (m s2 (items_fall d))
  record_over e t rest m (Stops Nexted s2) d = record_done e t d by_next (m s2 (items_fall d))
  record_over e t rest m (Stops (Faulted fault) s2) d = record_stops e t d tt
  record_over e t rest m (Stops OutOfTurns s2) d = record_stops e t d tt
  record_over e t rest m (Stops TooDeep s2) d = record_stops e t d tt
  record_over e t rest m (Stops Exited s2) d = record_stops e t d tt
  record_over e t rest m (Stops (Returned x) s2) d = record_stops e t d tt

  record_turned : {s s1 : State} → asks row.NextMain tt s ≡ Gives input.Read s1 → s1.turns ≤ n → (rest : Execution (Unit {0}))
      → ((s2 : State) → suc s2.turns ≤ s1.turns → DoesRecords script s2 (rest s2)) → (k : ℕ) → s1.turns ≡ k
      → DoesRecords script s (go_on (spent k s1) (λ u. for_record for_each >> rest))
  record_turned e h rest m zero t = record_without_turn e t
  record_turned {s1} e h rest m (suc k) t =
      record_over e t rest (λ s2 l. m s2 (less_then t (same s1.turns) l)) (items_done (top script) n (called script n) 0 script.items (with_turns k s1))
      (items_complete (top script) n script.items 0 (with_turns k s1) (weaker (less_then t h (same k))))

  assignment_over : {s s1 : State} {k : ℕ} → asks row.NextMain tt s ≡ Gives input.Pending s1 → s1.turns ≡ suc k → (rest : Execution (Unit {0}))
      → ((s2 : State) → s2.turns ≤ k → DoesRecords script s2 (rest s2)) → (o : Outcome (Unit {0})) → assign_pending (with_turns k s1) ≡ o
      → DoesRecords script s (go_on o (λ u. rest))
  assignment_over {s1} {k} e t rest m (Gives u s2) a = assignment_made e t a (m s2 (gave (with_turns k s1) assign_pending_spends a))
  assignment_over e t rest m (Stops why s2) a = assignment_stops e t a

  assignment_turned : {s s1 : State} → asks row.NextMain tt s ≡ Gives input.Pending s1 → (rest : Execution (Unit {0}))
      → ((s2 : State) → suc s2.turns ≤ s1.turns → DoesRecords script s2 (rest s2)) → (k : ℕ) → s1.turns ≡ k
      → DoesRecords script s (go_on (spent k s1) (λ u. assign_pending >> rest))
  assignment_turned e rest m zero t = assignment_without_turn e t
  assignment_turned {s1} e rest m (suc k) t =
      assignment_over e t rest (λ s2 l. m s2 (less_then t (same s1.turns) l)) (assign_pending (with_turns k s1)) refl

  record_asked : (s : State) → s.turns ≤ n → (rest : Execution (Unit {0})) → ((s2 : State) → suc s2.turns ≤ s.turns → DoesRecords script s2 (rest s2))
      → (o : Outcome InputAnswer) → asks row.NextMain tt s ≡ o
      → DoesRecords script s (go_on o (on_input (for_record for_each >> rest) (assign_pending >> rest)))
  record_asked s h rest m (Gives input.End s1) e = no_record e at_end
  record_asked s h rest m (Gives input.Failed s1) e = no_record e failed
  record_asked s h rest m (Gives input.Read s1) e =
      record_turned e (below h (next_record s e)) rest (λ s2 l. m s2 (below (next_record s e) l)) s1.turns refl
  record_asked s h rest m (Gives input.Pending s1) e = assignment_turned e rest (λ s2 l. m s2 (below (next_record s e) l)) s1.turns refl
  record_asked s h rest m (Stops why s1) e = record_fails e

  last_record : (s : State) → s.turns ≤ 0 → (o : Outcome InputAnswer) → asks row.NextMain tt s ≡ o
      → DoesRecords script s (go_on o (on_input (stop OutOfTurns) (stop OutOfTurns)))
  last_record s l (Gives input.End s1) e = no_record e at_end
  last_record s l (Gives input.Failed s1) e = no_record e failed
  last_record s l (Gives input.Read s1) e =
      let t : s1.turns ≡ zero = none_are_left (below l (next_record s e)) in
      subst (λ (o : Outcome (Unit {0})). DoesRecords script s o) (sym (no_turn s1 (λ u. stop OutOfTurns) t)) (record_without_turn e t)
  last_record s l (Gives input.Pending s1) e =
      let t : s1.turns ≡ zero = none_are_left (below l (next_record s e)) in
      subst (λ (o : Outcome (Unit {0})). DoesRecords script s o) (sym (no_turn s1 (λ u. stop OutOfTurns) t)) (assignment_without_turn e t)
  last_record s l (Stops why s1) e = record_fails e

  records_complete : (j : ℕ) (s : State) → s.turns ≤ n → s.turns ≤ j → DoesRecords script s (records_done j for_each s)
  unfolding records_done
  records_complete zero s h l = last_record s l (asks row.NextMain tt s) refl
  records_complete (suc j) s h l =
      record_asked s h (records_done j for_each)
      (λ s2 m. records_complete j s2 (below h (weaker m)) (smaller (below l m))) (asks row.NextMain tt s) refl

  -- ---- parts

  abbrev pub beginning : Execution (Unit {0})
  beginning = (begun (top script) n (called script n) script.items >> nothing) >> (if reads_records script.items then records_done n for_each else nothing)

  abbrev pub at_the_end : Execution (Unit {0})
  at_the_end = ended (top script) n (called script n) script.items >> nothing

  beginning_sound : {s : State} {o : Outcome (Unit {0})} → DoesBeginning script s o → s.turns ≤ n → beginning s ≡ o
  beginning_sound (without_records {s1} d e) h = gives_then _ (gives_then _ (edge_sound d n h) refl) (chosen_false _ _ s1 e refl)
  beginning_sound (with_records {s1} d e r) h =
      gives_then _ (gives_then _ (edge_sound d n h) refl)
      (chosen_true _ _ s1 e (records_sound r (below h (edge_falls d)) n (below h (edge_falls d))))
  beginning_sound (begin_stops d) h = stops_then _ (stops_then _ (edge_sound d n h))

  begun_by : {s s1 : State} {flow : Flow} → s1.turns ≤ n → DoesEdge (top script) AtBegin script.items s (Gives flow s1) → (v : Bool)
      → reads_records script.items ≡ v → DoesBeginning script s ((if v then records_done n for_each else nothing) s1)
  begun_by {s1} h d true e = with_records d e (records_complete n s1 h h)
  begun_by h d false e = without_records d e

  begun_from : {s : State} → s.turns ≤ n → (o : Outcome Flow) → DoesEdge (top script) AtBegin script.items s o
      → DoesBeginning script s (go_on (go_on o (λ flow. nothing)) (λ u. if reads_records script.items then records_done n for_each else nothing))
  begun_from h (Gives flow s1) d = begun_by (below h (edge_falls d)) d (reads_records script.items) refl
  begun_from h (Stops why s1) d = begin_stops d

  beginning_complete : (s : State) → s.turns ≤ n → DoesBeginning script s (beginning s)
  beginning_complete s h =
      begun_from h (begun (top script) n (called script n) script.items s) (edge_complete (top script) n AtBegin script.items s h)

  end_sound : {s : State} {o : Outcome (Unit {0})} → DoesEnd script s o → s.turns ≤ n → at_the_end s ≡ o
  end_sound (end_done d) h = gives_then _ (edge_sound d n h) refl
  end_sound (end_stops d) h = stops_then _ (edge_sound d n h)

  ended_from : {s : State} (o : Outcome Flow) → DoesEdge (top script) AtEnd script.items s o → DoesEnd script s (go_on o (λ flow. nothing))
  ended_from (Gives flow s1) d = end_done d
  ended_from (Stops why s1) d = end_stops d

  end_complete : (s : State) → s.turns ≤ n → DoesEnd script s (at_the_end s)
  end_complete s h = ended_from (ended (top script) n (called script n) script.items s) (edge_complete (top script) n AtEnd script.items s h)

beginning_falls : {script : Resolved} {s : State} {o : Outcome (Unit {0})} → DoesBeginning script s o → (state_of o).turns ≤ s.turns
beginning_falls (without_records d e) = edge_falls d
beginning_falls (with_records d e r) = below (edge_falls d) (records_fall r)
beginning_falls (begin_stops d) = edge_falls d

part_is : {r o : Outcome (Unit {0})} → PartEnds r o → part_over r ≡ o
part_is by_its_last = refl
part_is by_exit = refl
part_is next_outside = refl
part_is by_fault = refl
part_is by_turns = refl
part_is by_depth = refl
part_is by_return = refl

part_ends : (r : Outcome (Unit {0})) → PartEnds r (part_over r)
part_ends (Gives u s) = by_its_last
part_ends (Stops Exited s) = by_exit
part_ends (Stops Nexted s) = next_outside
part_ends (Stops (Faulted fault) s) = by_fault
part_ends (Stops OutOfTurns s) = by_turns
part_ends (Stops TooDeep s) = by_depth
part_ends (Stops (Returned x) s) = by_return

part_falls : {r o : Outcome (Unit {0})} → PartEnds r o → (state_of o).turns ≤ (state_of r).turns
part_falls (by_its_last {s}) = same s.turns
part_falls (by_exit {s}) = same s.turns
part_falls (next_outside {s}) = same s.turns
part_falls (by_fault {s}) = same s.turns
part_falls (by_turns {s}) = same s.turns
part_falls (by_depth {s}) = same s.turns
part_falls (by_return {s}) = same s.turns

-- ---- names and arrays

announced_spends : (ns : List Name) → Spends (announced ns)
announced_spends [] = give_spends tt
announced_spends (m ∷ ns) = then_spends (call_spends row.Declare (m.name, (kind_of m.is_array, tt))) (λ u. announced_spends ns)

arrays_spend : (ns : List Name) → Spends (arrays_made ns)
arrays_spend [] = give_spends tt
arrays_spend (m ∷ ns) =
    then_spends (choose_spends m.is_array (then_spends (call_spends row.NewArray tt) (λ i. give_spends tt)) (give_spends tt)) (λ u. arrays_spend ns)

abbrev setup : Resolved → Execution (Unit {0})
setup script = announced script.globals >> announced (map as_name script.functions) >> arrays_made script.globals

setup_spends : (script : Resolved) → Spends (setup script)
setup_spends script =
    then_spends (announced_spends script.globals)
    (λ u. then_spends (announced_spends (map as_name script.functions)) (λ v. arrays_spend script.globals))

inner_by : (o : Outcome (Unit {0})) (c r : Execution (Unit {0})) → go_on o (λ v. c >>= λ w. r) ≡ go_on (go_on o (λ v. c)) (λ w. r)
inner_by (Gives v s) c r = refl
inner_by (Stops why s) c r = refl

outer_by : (o : Outcome (Unit {0})) (b c r : Execution (Unit {0}))
    → go_on o (λ u. b >>= λ v. c >>= λ w. r) ≡ go_on (go_on o (λ u. b >> c)) (λ w. r)
outer_by (Gives u s) b c r = inner_by (b s) c r
outer_by (Stops why s) b c r = refl

-- what follows names and arrays
abbrev after_setup : Resolved → ℕ → Execution (Unit {0})
after_setup script n = first_assigned n >>= λ d. part (beginning script n) >>= λ e. call row.BeginEnd tt >>= λ f. part (at_the_end script n)

all_parts_is : (script : Resolved) (n : ℕ) (s : State) → all_parts n (parts_of n script) s ≡ go_on (setup script s) (λ w. after_setup script n)
all_parts_is script n s =
    outer_by (announced script.globals s) (announced (map as_name script.functions)) (arrays_made script.globals) (after_setup script n)

-- ---- runs

parts_sound : {script : Resolved} {s : State} {o : Outcome (Unit {0})} → DoesParts script s o → (n : ℕ) → s.turns ≤ n
    → go_on (setup script s) (λ w. after_setup script n) ≡ o
parts_sound (setup_stops e) n h = stops_then _ e
parts_sound {script} (first_stops {s} e d) n h = gives_then _ e (stops_then _ (first_sound d n (below h (gave s (setup_spends script) e))))
parts_sound {script} (main_stops {s} e d b p) n h =
    let l = below h (gave s (setup_spends script) e) in
    gives_then _ e
    (gives_then _ (first_sound d n l) (stops_then _ (ap part_over (beginning_sound script n b (below l (first_falls d))) ∙ part_is p)))
parts_sound {script} (end_begins_stops {s} e d b p x) n h =
    let l = below h (gave s (setup_spends script) e) in
    gives_then _ e
    (gives_then _ (first_sound d n l)
    (gives_then _ (ap part_over (beginning_sound script n b (below l (first_falls d))) ∙ part_is p)
    (stops_then (λ f. part (at_the_end script n)) x)))
parts_sound {script} (parts_done {s} {s3} e d b p x q r) n h =
    let l = below h (gave s (setup_spends script) e) in
    gives_then _ e
    (gives_then _ (first_sound d n l)
    (gives_then _ (ap part_over (beginning_sound script n b (below l (first_falls d))) ∙ part_is p)
    (gives_then (λ f. part (at_the_end script n)) x
    (ap part_over
    (end_sound script n q
    (below (below (below (below l (first_falls d)) (beginning_falls b)) (part_falls p)) (gave s3 (call_spends row.BeginEnd tt) x)))
    ∙ part_is r))))

module _ (script : Resolved) (n : ℕ) where
  ends_from : {s s1 s2 s3 : State} {u v w : Unit {0}} {r : Outcome (Unit {0})} → s3.turns ≤ n → setup script s ≡ Gives u s1 → AssignsFirst s1 (Gives v s2)
      → DoesBeginning script s2 r → PartEnds r (Gives w s3) → (o : Outcome (Unit {0})) → call row.BeginEnd tt s3 ≡ o
      → DoesParts script s (go_on o (λ f. part (at_the_end script n)))
  ends_from {s3} h e d b p (Gives x s4) c =
      parts_done e d b p c (end_complete script n s4 (below h (gave s3 (call_spends row.BeginEnd tt) c))) (part_ends (at_the_end script n s4))
  ends_from h e d b p (Stops why s4) c = end_begins_stops e d b p c

  main_from : {s s1 s2 : State} {u v : Unit {0}} {r : Outcome (Unit {0})} → s2.turns ≤ n → setup script s ≡ Gives u s1 → AssignsFirst s1 (Gives v s2)
      → DoesBeginning script s2 r → (o : Outcome (Unit {0})) → PartEnds r o
      → DoesParts script s (go_on o (λ e. call row.BeginEnd tt >>= λ f. part (at_the_end script n)))
  main_from h e d b (Gives w s3) p = ends_from (below (below h (beginning_falls b)) (part_falls p)) e d b p (call row.BeginEnd tt s3) refl
  main_from h e d b (Stops why s3) p = main_stops e d b p

  first_from : {s s1 : State} {u : Unit {0}} → s1.turns ≤ n → setup script s ≡ Gives u s1 → (o : Outcome (Unit {0})) → AssignsFirst s1 o
      → DoesParts script s (go_on o (λ d. part (beginning script n) >>= λ e. call row.BeginEnd tt >>= λ f. part (at_the_end script n)))
  first_from h e (Gives v s2) d =
      main_from (below h (first_falls d)) e d (beginning_complete script n s2 (below h (first_falls d))) (part_over (beginning script n s2))
      (part_ends (beginning script n s2))
  first_from h e (Stops why s2) d = first_stops e d

  setup_from : (s : State) → s.turns ≤ n → (o : Outcome (Unit {0})) → setup script s ≡ o → DoesParts script s (go_on o (λ w. after_setup script n))
  setup_from s h (Gives u s1) e =
      let l = below h (gave s (setup_spends script) e) in
      first_from l e (first_assigned n s1) (first_complete n s1 l)
  setup_from s h (Stops why s1) e = setup_stops e

  parts_complete : (s : State) → s.turns ≤ n → DoesParts script s (all_parts n (parts_of n script) s)
  parts_complete s h =
      subst (λ (o : Outcome (Unit {0})). DoesParts script s o) (sym (all_parts_is script n s)) (setup_from s h (setup script s) refl)

abbrev begins : Resolved → Setting → ℕ → State
begins script setting turns = start setting (names_length script.globals) turns

run_sound : {script : Resolved} {setting : Setting} {turns : ℕ} {e : Ending} → Ends script setting turns e → resolved_run script setting turns ≡ e
run_sound {script} {setting} {turns} (refused_job p) =
    ap (λ (f : Option Fault). ending (unless f (all_parts turns (parts_of turns script)) (begins script setting turns))) p
run_sound {script} {setting} {turns} (runs p d) =
    ap (λ (f : Option Fault). ending (unless f (all_parts turns (parts_of turns script)) (begins script setting turns))) p
    ∙ ap ending (all_parts_is script turns (begins script setting turns) ∙ parts_sound d turns (same turns))

run_by : (script : Resolved) (setting : Setting) (turns : ℕ) (f : Option Fault) → fault_of_job setting.job ≡ f
    → Ends script setting turns (ending (unless f (all_parts turns (parts_of turns script)) (begins script setting turns)))
run_by script setting turns (Some fault) p = refused_job p
run_by script setting turns None p = runs p (parts_complete script turns (begins script setting turns) (same turns))

pub run_law : (script : Resolved) (setting : Setting) (turns : ℕ) (e : Ending) → Ends script setting turns e ↔ (resolved_run script setting turns ≡ e)
run_law script setting turns e =
    (λ d. run_sound d, λ p. subst (λ (x : Ending). Ends script setting turns x) p (run_by script setting turns (fault_of_job setting.job) refl))
