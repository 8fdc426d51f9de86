-- How a script runs and ends, as rules (POSIX.1-2017 awk, "Overall Program Structure", "Input Files", "Consequences of Errors").
use Rattle.std.specs.Prelude.{◌≡◌, ℕ, zero, suc, true, false, map, Some, None}
use Rattle.awk_values.specs.declared.fault.Fault.{Fault}
use Rattle.awk_values.specs.declared.fault.Fault.TheVariants.{NextOutside}
use Rattle.awk_values.specs.declared.value.Value.{Value}
use Rattle.sem_primitives.specs.Jobs.{fault_of_job}
use Rattle.sem_primitives.specs.declared.answers.AssignAnswer.TheVariants as assign
use Rattle.sem_primitives.specs.declared.answers.InputAnswer.{InputAnswer}
use Rattle.sem_primitives.specs.declared.answers.InputAnswer.TheVariants as input
use Rattle.sem_primitives.specs.declared.table.Primitive.TheVariants as row
use Rattle.sem_scripts.specs.Names.{Resolved, names_length}
use Rattle.sem_scripts.specs.ScriptState.{State, Stop, Faulted, OutOfTurns, TooDeep, Nexted, Exited, Returned, Outcome, Gives, Stops, ◌>>◌, call, asks}
use Rattle.sem_scripts.specs.Meaning.{assign_pending}
use Rattle.sem_scripts.specs.Statements.{Flow}
use Rattle.sem_scripts.specs.Items.{top, reads_records}
use Rattle.sem_scripts.specs.ScriptRun.{announced, as_name, arrays_made, Ending, FaultedBy, Setting, start, ending}
use Rattle.agreement.specs.BigStep.Rules.{with_turns}
use Rattle.agreement.specs.BigStep.Items.{DoesItems, AtBegin, AtEnd, DoesEdge}

-- no record, and no assignment that comes before one
pub data IsOver : InputAnswer → Type 0 where
  at_end : IsOver input.End
  failed : IsOver input.Failed

-- The assignments before BEGIN: each takes a turn.
pub data AssignsFirst : State → Outcome (Unit {0}) → Type 0 where
  none_left : {s s1 : State} → asks row.StartAssign tt s ≡ Gives assign.NoneLeft s1 → AssignsFirst s (Gives tt s1)
  start_fails : {s s1 : State} {why : Stop} → asks row.StartAssign tt s ≡ Stops why s1 → AssignsFirst s (Stops why s1)
  start_without_turn : {s s1 : State} → asks row.StartAssign tt s ≡ Gives assign.Pending s1 → s1.turns ≡ zero → AssignsFirst s (Stops OutOfTurns s1)
  start_assigns : {s s1 s2 : State} {k : ℕ} {o : Outcome (Unit {0})} → asks row.StartAssign tt s ≡ Gives assign.Pending s1
      → s1.turns ≡ suc k → assign_pending (with_turns k s1) ≡ Gives tt s2 → AssignsFirst s2 o → AssignsFirst s o
  start_assigns_stops : {s s1 s2 : State} {k : ℕ} {why : Stop} → asks row.StartAssign tt s ≡ Gives assign.Pending s1
      → s1.turns ≡ suc k → assign_pending (with_turns k s1) ≡ Stops why s2 → AssignsFirst s (Stops why s2)

-- what the items do for a record ends so: normally, or by `next`
pub data RecordEnds : Outcome Flow → State → Type 0 where
  by_its_end : {flow : Flow} {s : State} → RecordEnds (Gives flow s) s
  by_next : {s : State} → RecordEnds (Stops Nexted s) s

-- what ends the main loop too
abbrev pub IsNoNext : Stop → Type 0
IsNoNext Nexted = ⊥
IsNoNext why = Unit {0}

-- The records of the main input: each takes a turn, and so does an assignment of the command line that comes before one.
pub data DoesRecords (script : Resolved) : State → Outcome (Unit {0}) → Type 0 where
  no_record : {s s1 : State} {answer : InputAnswer} → asks row.NextMain tt s ≡ Gives answer s1 → IsOver answer → DoesRecords script s (Gives tt s1)
  record_fails : {s s1 : State} {why : Stop} → asks row.NextMain tt s ≡ Stops why s1 → DoesRecords script s (Stops why s1)
  record_without_turn : {s s1 : State} → asks row.NextMain tt s ≡ Gives input.Read s1 → s1.turns ≡ zero → DoesRecords script s (Stops OutOfTurns s1)
  record_done : {s s1 s2 : State} {k : ℕ} {r : Outcome Flow} {o : Outcome (Unit {0})} → asks row.NextMain tt s ≡ Gives input.Read s1
      → s1.turns ≡ suc k → DoesItems (top script) 0 script.items (with_turns k s1) r → RecordEnds r s2 → DoesRecords script s2 o
      → DoesRecords script s o
  record_stops : {s s1 s2 : State} {k : ℕ} {why : Stop} → asks row.NextMain tt s ≡ Gives input.Read s1 → s1.turns ≡ suc k
      → DoesItems (top script) 0 script.items (with_turns k s1) (Stops why s2) → IsNoNext why → DoesRecords script s (Stops why s2)
  assignment_without_turn : {s s1 : State} → asks row.NextMain tt s ≡ Gives input.Pending s1 → s1.turns ≡ zero
      → DoesRecords script s (Stops OutOfTurns s1)
  assignment_made : {s s1 s2 : State} {k : ℕ} {o : Outcome (Unit {0})} → asks row.NextMain tt s ≡ Gives input.Pending s1
      → s1.turns ≡ suc k → assign_pending (with_turns k s1) ≡ Gives tt s2 → DoesRecords script s2 o → DoesRecords script s o
  assignment_stops : {s s1 s2 : State} {k : ℕ} {why : Stop} → asks row.NextMain tt s ≡ Gives input.Pending s1 → s1.turns ≡ suc k
      → assign_pending (with_turns k s1) ≡ Stops why s2 → DoesRecords script s (Stops why s2)

-- BEGIN, and then the records if there are items for them
pub data DoesBeginning (script : Resolved) : State → Outcome (Unit {0}) → Type 0 where
  without_records : {s s1 : State} {flow : Flow} → DoesEdge (top script) AtBegin script.items s (Gives flow s1) → reads_records script.items ≡ false
      → DoesBeginning script s (Gives tt s1)
  with_records : {s s1 : State} {flow : Flow} {o : Outcome (Unit {0})} → DoesEdge (top script) AtBegin script.items s (Gives flow s1)
      → reads_records script.items ≡ true → DoesRecords script s1 o → DoesBeginning script s o
  begin_stops : {s s1 : State} {why : Stop} → DoesEdge (top script) AtBegin script.items s (Stops why s1) → DoesBeginning script s (Stops why s1)

-- How BEGIN with the records, or END, is over. `exit` ends it and no more; `next` where no record is being processed is a runtime error.
pub data PartEnds : Outcome (Unit {0}) → Outcome (Unit {0}) → Type 0 where
  by_its_last : {s : State} → PartEnds (Gives tt s) (Gives tt s)
  by_exit : {s : State} → PartEnds (Stops Exited s) (Gives tt s)
  next_outside : {s : State} → PartEnds (Stops Nexted s) (Stops (Faulted NextOutside) s)
  by_fault : {fault : Fault} {s : State} → PartEnds (Stops (Faulted fault) s) (Stops (Faulted fault) s)
  by_turns : {s : State} → PartEnds (Stops OutOfTurns s) (Stops OutOfTurns s)
  by_depth : {s : State} → PartEnds (Stops TooDeep s) (Stops TooDeep s)
  -- `return` is in functions alone
  by_return : {x : Value} {s : State} → PartEnds (Stops (Returned x) s) (Gives tt s)

-- END
pub data DoesEnd (script : Resolved) : State → Outcome (Unit {0}) → Type 0 where
  end_done : {s s1 : State} {flow : Flow} → DoesEdge (top script) AtEnd script.items s (Gives flow s1) → DoesEnd script s (Gives tt s1)
  end_stops : {s s1 : State} {why : Stop} → DoesEdge (top script) AtEnd script.items s (Stops why s1) → DoesEnd script s (Stops why s1)

-- All parts: names are announced and arrays made; then assignments, then BEGIN and the records, and then END, which `exit` before it does not skip.
-- What stops one of them otherwise stops the run.
pub data DoesParts (script : Resolved) : State → Outcome (Unit {0}) → Type 0 where
  setup_stops : {s s1 : State} {why : Stop}
      → (announced script.globals >> announced (map as_name script.functions) >> arrays_made script.globals) s ≡ Stops why s1
      → DoesParts script s (Stops why s1)
  first_stops : {s s1 s2 : State} {why : Stop}
      → (announced script.globals >> announced (map as_name script.functions) >> arrays_made script.globals) s ≡ Gives tt s1
      → AssignsFirst s1 (Stops why s2) → DoesParts script s (Stops why s2)
  main_stops : {s s1 s2 s3 : State} {r : Outcome (Unit {0})} {why : Stop}
      → (announced script.globals >> announced (map as_name script.functions) >> arrays_made script.globals) s ≡ Gives tt s1
      → AssignsFirst s1 (Gives tt s2) → DoesBeginning script s2 r → PartEnds r (Stops why s3) → DoesParts script s (Stops why s3)
  end_begins_stops : {s s1 s2 s3 s4 : State} {r : Outcome (Unit {0})} {why : Stop}
      → (announced script.globals >> announced (map as_name script.functions) >> arrays_made script.globals) s ≡ Gives tt s1
      → AssignsFirst s1 (Gives tt s2) → DoesBeginning script s2 r → PartEnds r (Gives tt s3) → call row.BeginEnd tt s3 ≡ Stops why s4
      → DoesParts script s (Stops why s4)
  parts_done : {s s1 s2 s3 s4 : State} {r q o : Outcome (Unit {0})}
      → (announced script.globals >> announced (map as_name script.functions) >> arrays_made script.globals) s ≡ Gives tt s1
      → AssignsFirst s1 (Gives tt s2) → DoesBeginning script s2 r → PartEnds r (Gives tt s3) → call row.BeginEnd tt s3 ≡ Gives tt s4
      → DoesEnd script s4 q → PartEnds q o → DoesParts script s o

-- A run with so many turns. A fault of the invocation comes before all else.
pub data Ends (script : Resolved) (setting : Setting) (turns : ℕ) : Ending → Type 0 where
  refused_job : {fault : Fault} → fault_of_job setting.job ≡ Some fault
      → Ends script setting turns (FaultedBy fault (start setting (names_length script.globals) turns).shared.output)
  runs : {o : Outcome (Unit {0})} → fault_of_job setting.job ≡ None → DoesParts script (start setting (names_length script.globals) turns) o
      → Ends script setting turns (ending o)
