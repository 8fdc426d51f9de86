-- No import looks at what was put out before.
use Rattle.std.proofs.Common.{◌≡◌, ℕ, Bool, true, false, ◌&&◌, nat_le, cond, List, [], ◌++◌, length, Option, Some, None, Result, Ok, Err, refl, sym, ap, ap₂, ◌∙◌, subst, append-nil}
use Rattle.awk_values.specs.declared.fault.Fault.{Fault}
use Rattle.awk_values.specs.declared.value.Value.{Value}
use Rattle.sem_primitives.specs.InTurn.{in_turn, listed_in_turn, values_taken}
use Rattle.sem_primitives.specs.Rows.{set_field_row, set_special_row, getline_file_row, getline_line_file_row, getline_line_row, getline_row, next_main_row}
use Rattle.sem_primitives.specs.Finds.{seen}
use Rattle.sem_primitives.specs.MainInput.{start_assign_row}
use Rattle.sem_primitives.specs.OutputMeaning.{file_name, formatted_values, has_room, is_writing, opened_if, operands_of, printed, printf_by, put_text, written_by}
use Rattle.sem_primitives.specs.TextMeaning.{match_row, split_row, substitute_row}
use Rattle.sem_primitives.specs.SharedState.{HostResult, Inner, Shared, settles}
use Rattle.sem_primitives.specs.Sorts.{InAnswer, OrFault, Row}
use Rattle.sem_primitives.specs.Table.{answer_of, arguments_of, can_fault, listed_answer, listed_meaning, meaning}
use Rattle.sem_primitives.specs.declared.constants.Destination.{Destination}
use Rattle.sem_primitives.specs.declared.constants.Destination.TheVariants.{Standard, Emptied, Appended}
use Rattle.sem_primitives.specs.declared.sorts.Answer.{Answer}
use Rattle.sem_primitives.specs.declared.table.Listed.{Listed}
use Rattle.sem_primitives.specs.declared.table.Listed.TheVariants as listed
use Rattle.sem_primitives.specs.declared.table.Primitive.{Primitive}
use Rattle.sem_primitives.specs.declared.table.Primitive.TheVariants.{Num, Lit, Uninit, Dup, ToNum, IntOf, Truth, Compare, Concat, Pow, Fail, GetSpecial, SetSpecial, Field, SetField, NewArray, Elem, SetElem, Has, Delete, Join, Iter, IterNext, Length, Matches, Match, Sub, SubResult, Split, Substr, SubstrFrom, Index, Lower, Upper, NextMain, Getline, GetlineVar, GetlineFile, GetlineVarFile, Line, Declare, StartAssign, PendingName, PendingValue, BeginEnd, Close, NextFile, Clear, Flush}
use Rattle.wasm_model.specs.declared.host.HostAnswer.{HostAnswer}
use Rattle.wasm_store.specs.declared.trap.TrapKind.{TrapKind}
use Rattle.wasm_store.specs.declared.word.Word.{Word}
use Rattle.world_core.specs.WorldState.{Action, Named}
use Rattle.host_step.specs.Arguments.{and_then, decode}
use Rattle.host_step.specs.HostState.{HostState, Names}
use Rattle.host_step.specs.HostStep.{Acts, Comes, Goes, Refuses, Settles, StepBy, StepIf, Traps, acts, answered, before_last_of, come, comes, faulted, last_of, listed_acts, primitive_acts, refuses, where_fit}
use Rattle.host_imports.specs.Imports.{import_answer, import_arguments, spends}
use Rattle.host_step.specs.Worlds.{with_output}
use Rattle.host_imports.specs.declared.import.Import.{Import}
use Rattle.host_imports.specs.declared.import.Import.TheVariants.{OfPrimitive, Variadic, Arg, Drop, IterFree, FreeArray}
use Rattle.host_imports.specs.declared.import.VariadicImport.TheVariants.{Sprintf, Print, Printf}

abbrev shared_with : List Action → Shared → Shared
shared_with o state = record state { output = o }

-- what settles without a look at it
settles_same : {A : Type 0} (o : List Action) (state : Shared) (r : Result (Inner × A) Fault) → settles (shared_with o state) r ≡ settles state r
settles_same o state (Ok x) = refl
settles_same o state (Err f) = refl

-- a primitive
meaning_same : (o : List Action) (p : Primitive) (row : Row (arguments_of p)) (state : Shared) → meaning p row (shared_with o state) ≡ meaning p row state
meaning_same o Num row state = refl
meaning_same o Lit row state = refl
meaning_same o Uninit row state = refl
meaning_same o Dup row state = refl
meaning_same o ToNum row state = refl
meaning_same o IntOf row state = refl
meaning_same o Truth row state = refl
meaning_same o Compare row state = refl
meaning_same o Concat row state = refl
meaning_same o Pow row state = refl
meaning_same o Fail row state = refl
meaning_same o GetSpecial row state = refl
meaning_same o SetSpecial row state = settles_same o state (set_special_row row.0 row.1.0 state.inner)
meaning_same o Field row state = refl
meaning_same o SetField row state = settles_same o state (set_field_row row.0 row.1.0 state.inner)
meaning_same o NewArray row state = refl
meaning_same o Elem row state = refl
meaning_same o SetElem row state = refl
meaning_same o Has row state = refl
meaning_same o Delete row state = refl
meaning_same o Join row state = refl
meaning_same o Iter row state = refl
meaning_same o IterNext row state = refl
meaning_same o Length row state = refl
meaning_same o Matches row state = refl
meaning_same o Match row state = settles_same o state (match_row row.0 row.1.0 state.inner)
meaning_same o Sub row state = settles_same o state (substitute_row row.0 row.1.0 row.1.1.0 row.1.1.1.0 state.inner)
meaning_same o SubResult row state = refl
meaning_same o Split row state = settles_same o state (split_row row.0 row.1.0 row.1.1.0 row.1.1.1.0 state.inner)
meaning_same o Substr row state = refl
meaning_same o SubstrFrom row state = refl
meaning_same o Index row state = refl
meaning_same o Lower row state = refl
meaning_same o Upper row state = refl
meaning_same o NextMain row state = settles_same o state (next_main_row state.outside state.inner)
meaning_same o Getline row state = settles_same o state (getline_row state.outside state.inner)
meaning_same o GetlineVar row state = settles_same o state (getline_line_row state.outside state.inner)
meaning_same o GetlineFile row state = settles_same o state (getline_file_row row.0 state.outside state.inner)
meaning_same o GetlineVarFile row state = settles_same o state (getline_line_file_row row.0 state.outside state.inner)
meaning_same o Line row state = refl
meaning_same o Declare row state = refl
meaning_same o StartAssign row state = settles_same o state (start_assign_row state.inner)
meaning_same o PendingName row state = refl
meaning_same o PendingValue row state = refl
meaning_same o BeginEnd row state = refl
meaning_same o Close row state = refl
meaning_same o NextFile row state = refl
meaning_same o Clear row state = refl
meaning_same o Flush row state = refl

-- when one is in turn
turn_same : (o : List Action) (p : Primitive) (row : Row (arguments_of p)) (state : Shared) → in_turn p row (shared_with o state) ≡ in_turn p row state
turn_same o Num row state = refl
turn_same o Lit row state = refl
turn_same o Uninit row state = refl
turn_same o Dup row state = refl
turn_same o ToNum row state = refl
turn_same o IntOf row state = refl
turn_same o Truth row state = refl
turn_same o Compare row state = refl
turn_same o Concat row state = refl
turn_same o Pow row state = refl
turn_same o Fail row state = refl
turn_same o GetSpecial row state = refl
turn_same o SetSpecial row state = refl
turn_same o Field row state = refl
turn_same o SetField row state = refl
turn_same o NewArray row state = refl
turn_same o Elem row state = refl
turn_same o SetElem row state = refl
turn_same o Has row state = refl
turn_same o Delete row state = refl
turn_same o Join row state = refl
turn_same o Iter row state = refl
turn_same o IterNext row state = refl
turn_same o Length row state = refl
turn_same o Matches row state = refl
turn_same o Match row state = refl
turn_same o Sub row state = refl
turn_same o SubResult row state = refl
turn_same o Split row state = refl
turn_same o Substr row state = refl
turn_same o SubstrFrom row state = refl
turn_same o Index row state = refl
turn_same o Lower row state = refl
turn_same o Upper row state = refl
turn_same o NextMain row state = refl
turn_same o Getline row state = refl
turn_same o GetlineVar row state = refl
turn_same o GetlineFile row state = refl
turn_same o GetlineVarFile row state = refl
turn_same o Line row state = refl
turn_same o Declare row state = refl
turn_same o StartAssign row state = refl
turn_same o PendingName row state = refl
turn_same o PendingValue row state = refl
turn_same o BeginEnd row state = refl
turn_same o Close row state = refl
turn_same o NextFile row state = refl
turn_same o Clear row state = refl
turn_same o Flush row state = refl

-- What is put out.

opened_same : (o : List Action) (room opens : Bool) (name : List ℕ) (append : Bool) (text : List ℕ) (state : Shared)
    → opened_if room opens name append text (shared_with o state) ≡ opened_if room opens name append text state
opened_same o false opens name append text state = refl
opened_same o true false name append text state = refl
opened_same o true true name append text state = refl

written_same : (o : List Action) (is-open : Bool) (name : List ℕ) (append : Bool) (text : List ℕ) (state : Shared)
    → written_by is-open name append text (shared_with o state) ≡ written_by is-open name append text state
written_same o true name append text state = refl
written_same o false name append text state = opened_same o (has_room state.inner) (seen state.inner state.outside (Named name)).opens name append text state

put_same : (o : List Action) (to : Destination) (name text : List ℕ) (state : Shared) → put_text to name text (shared_with o state) ≡ put_text to name text state
put_same o Standard name text state = refl
put_same o Emptied name text state = written_same o (is_writing name state.inner.writers) name false text state
put_same o Appended name text state = written_same o (is_writing name state.inner.writers) name true text state

printf_same : (o : List Action) (r : Result (List ℕ) Fault) (to : Destination) (name : List ℕ) (state : Shared)
    → printf_by r to name (shared_with o state) ≡ printf_by r to name state
printf_same o (Ok text) to name state = put_same o to name text state
printf_same o (Err fault) to name state = refl

listed_same : (o : List Action) (l : Listed) (values : List Value) (state : Shared) → listed_meaning l values (shared_with o state) ≡ listed_meaning l values state
listed_same o listed.Sprintf values state = refl
listed_same o (listed.Print to) values state = put_same o to (file_name to values) (printed state.inner (operands_of to values)) state
listed_same o (listed.Printf to) values state = printf_same o (formatted_values (operands_of to values)) to (file_name to values) state

listing_same : (o : List Action) (l : Listed) (n : ℕ) (s : HostState) → listed_acts l n (with_output o s) ≡ listed_acts l n s
listing_same o l n s =
    ap (λ (d : HostResult (Result (InAnswer (listed_answer l)) Fault)). where_fit (nat_le n (length s.arguments) && listed_in_turn l (last_of n s.arguments))
    (record { does = d; arguments = before_last_of n s.arguments })) (listed_same o l (last_of n s.arguments) s.shared)

-- what an import does
acts_same : (o : List Action) (i : Import) (row : Row (import_arguments i)) (s : HostState) → acts i row (with_output o s) ≡ acts i row s
acts_same o (OfPrimitive p) row s = ap₂ (λ (b : Bool) (d : HostResult (OrFault (can_fault p) (InAnswer (answer_of p)))). where_fit b (primitive_acts s.arguments (can_fault p) d))
    (turn_same o p row s.shared) (meaning_same o p row s.shared)
acts_same o (Variadic Sprintf) row s = listing_same o listed.Sprintf (values_taken listed.Sprintf row.0) s
acts_same o (Variadic Print) row s = listing_same o (listed.Print row.1.0) (values_taken (listed.Print row.1.0) row.0) s
acts_same o (Variadic Printf) row s = listing_same o (listed.Printf row.1.0) (values_taken (listed.Printf row.1.0) row.0) s
acts_same o Arg row s = refl
acts_same o Drop row s = refl
acts_same o IterFree row s = refl
acts_same o FreeArray row s = refl

module _ (o : List Action) (i : Import) (words : List Word) (memory : List ℕ) (s : HostState) where
  abbrev Done : Type 0
  Done = Result (Names × Acts (InAnswer (import_answer i))) TrapKind

  by_row : (r : Result (Row (import_arguments i) × Names) TrapKind) →
      ◌≡◌ {A = Done} (and_then r (λ x. and_then (acts i x.0 (with_output o s)) (λ d. Ok (x.1, d)))) (and_then r (λ x. and_then (acts i x.0 s) (λ d. Ok (x.1, d))))
  by_row (Ok x) = ap (λ (a : Result (Acts (InAnswer (import_answer i))) TrapKind). and_then a (λ d. Ok (x.1, d))) (acts_same o i x.0 s)
  by_row (Err k) = refl

  comes_same : comes i words memory (with_output o s) ≡ comes i words memory s
  comes_same = ap (λ (r : Done). cond (refuses i s.fault) Refuses (come r)) (by_row (decode (spends i) memory s.names (import_arguments i) words))

-- The step from a state with another output.

after_none : (b output : List Action) (s s' : HostState) → s' ≡ s → output ≡ [] → with_output (b ++ output) s' ≡ with_output b s
after_none b output s s' e n = ap (λ (o : List Action). with_output (b ++ o) s') n ∙ (ap (λ (o : List Action). with_output o s') (append-nil b) ∙ ap (with_output b) e)

after_added : (b output added : List Action) (g s' : HostState) → s' ≡ g → output ≡ added → with_output (b ++ output) s' ≡ with_output (b ++ added) g
after_added b output added g s' e n = ap (λ (o : List Action). with_output (b ++ o) s') n ∙ ap (with_output (b ++ added)) e

module _ (b : List Action) (a : Answer) (s : HostState) (v : HostAnswer) (s' : HostState) (output : List Action) where
  settled_free : (left : Names) (d : Acts (InAnswer a)) (r : Result (InAnswer a) Fault) → Settles a s left d r v s' output
      → Settles a (with_output b s) left d r v (with_output (b ++ output) s') output
  settled_free left d (Ok x) h =
      (h.0, h.1, record { word = h.2.word; state = after_added b output d.does.added (answered h.0 a s left d x).after s' h.2.state h.2.added; added = h.2.added })
  settled_free left d (Err f) h = record { word = h.word; state = after_added b output d.does.added (faulted a s left d f).after s' h.state h.added; added = h.added }

  come_free : (c : Comes (InAnswer a)) → StepBy a s c v s' output → StepBy a (with_output b s) c v (with_output (b ++ output) s') output
  come_free (Traps k) h = record { trap = h.trap; state = after_none b output s s' h.state h.added; added = h.added }
  come_free Refuses h = record { word = h.word; state = after_none b output s s' h.state h.added; added = h.added }
  come_free (Goes left d) h = settled_free left d d.does.answer h

-- A STEP, whatever was put out before
pub step_free : (b : List Action) (import : Option Import) (s : HostState) (words : List Word) (memory : List ℕ) (v : HostAnswer) (s' : HostState) (output : List Action)
    → StepIf import s words memory v s' output → StepIf import (with_output b s) words memory v (with_output (b ++ output) s') output
step_free b None s words memory v s' output h = record { trap = h.trap; state = after_none b output s s' h.state h.added; added = h.added }
step_free b (Some i) s words memory v s' output h =
    subst (λ (c : Comes (InAnswer (import_answer i))). StepBy (import_answer i) (with_output b s) c v (with_output (b ++ output) s') output) (sym (comes_same b i words memory s))
    (come_free b (import_answer i) s v s' output (comes i words memory s) h)
