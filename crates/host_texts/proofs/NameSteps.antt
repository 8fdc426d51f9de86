-- Calls on names and on assignments are steps.
use Rattle.std.proofs.Common.{◌≡◌, ◌≢◌, ◌<◌, ◌^◌, ℕ, pos, Bool, true, false, not, List, [], ◌∷◌, ◌++◌, Option, Some, None, is_some, Result, Ok, Err, refl, sym, ap, subst, ◌∙◌}
use Rattle.std.specs.FinMap as map
use Rattle.awk_values.specs.declared.fault.Fault.{Fault}
use Rattle.awk_values.specs.declared.value.Value.{Value}
use Rattle.sem_primitives.specs.Assignments.{declared}
use Rattle.sem_primitives.specs.InputMeaning.{name_of as number_of, value_of}
use Rattle.sem_primitives.specs.MainInput.{start_assign_row}
use Rattle.sem_primitives.specs.SharedState.{Inner, settles}
use Rattle.sem_primitives.specs.TextMeaning.{given}
use Rattle.sem_primitives.specs.declared.answers.AssignAnswer.{AssignAnswer}
use Rattle.sem_primitives.specs.declared.constants.NameKind.{NameKind}
use Rattle.sem_primitives.specs.declared.table.Primitive.TheVariants as row
use Rattle.wasm_model.specs.declared.host.HostAnswer.{HostAnswer}
use Rattle.wasm_model.specs.declared.host.HostAnswer.TheVariants as told
use Rattle.wasm_store.specs.declared.trap.TrapKind.{TrapKind}
use Rattle.wasm_store.specs.declared.trap.TrapKind.TheVariants.{BadArgument}
use Rattle.wasm_store.specs.declared.word.Word.{Word}
use Rattle.wasm_store.specs.declared.word.Word.TheVariants.{I32}
use Rattle.host_imports.specs.Codes.{assign_code}
use Rattle.host_step.specs.Answers.{refusal}
use Rattle.host_step.specs.Arguments.{and_then, no_more}
use Rattle.host_step.specs.HostState.{HostState}
use Rattle.host_step.specs.HostStep.{StepOf, carried, primitive_acts, where_fit}
use Rattle.host_imports.specs.Imports.{import_answer, spends}
use Rattle.host_step.specs.Tables.{Table}
use Rattle.host_imports.specs.declared.import.Import.TheVariants.{OfPrimitive}
use Rattle.host_values.specs.Calls.{Gives, reserved_handle}
use Rattle.host_values.specs.Evaluations.{Values}
use Rattle.host_step.specs.declared.refusal.Refusal.{Refusal}
use Rattle.host_step.specs.declared.refusal.Refusal.TheVariants as why
use Rattle.host_values.specs.declared.reply.Reply.TheVariants as reply
use Rattle.host_values.proofs.Entries.{entries_insert, look_entries}
use Rattle.host_values.specs.ElementCalls.{IsTableCall}
use Rattle.host_values.specs.Forms.{HostForm, Past, inner_of, state_of}
use Rattle.host_values.proofs.ArrayCalls.{below_limit}
use Rattle.host_values.proofs.ArraySteps.{carry, inner_at, no_word}
use Rattle.host_values.proofs.ElementSteps.{GoesOn, IsPast, done_is_some, goes, keeps_fault, leads, state_with, trapped, unrefused, wanted}
use Rattle.host_texts.specs.NameWords.{declare_front}
use Rattle.host_texts.proofs.NameReading.{declare_decoded, declare_row}

-- A name is announced.

pub declare_traps : (f : HostForm) (words : List Word) (memory : List ℕ) (k : TrapKind) → f.fault ≡ None → declare_front memory words ≡ Err k
    → IsTableCall (OfPrimitive row.Declare) f words memory (Err (why.Trap k)) f
declare_traps f words memory k none reads =
    trapped (OfPrimitive row.Declare) f words memory k (unrefused (OfPrimitive row.Declare) f.fault none)
    (λ p past. ap (carry (OfPrimitive row.Declare) (state_of f p)) (declare_decoded (state_of f p).names (spends (OfPrimitive row.Declare)) memory words ∙ ap (declare_row (state_of f p).names) reads))

trap_is_some : (k : TrapKind) → told.Trap k ≢ told.NoMemory
trap_is_some k e = cc

module _ (f : HostForm) (words : List Word) (memory : List ℕ) (none : f.fault ≡ None) (text : List ℕ) (kind : NameKind) (reads : declare_front memory words ≡ Ok (text, kind)) where
  abbrev named : Inner → Inner
  named inner = record inner { names = inner.names ++ (text, kind) ∷ [] }

  declare_carried : (p : Past) (b : Bool) → is_some (declared 0 text f.shared.inner.names) ≡ b → carried (OfPrimitive row.Declare) words memory (state_of f p)
      ≡ and_then (where_fit (not b) (primitive_acts {A = Unit {0}} f.arguments false (record { added = []; inner = named (inner_at f p); answer = tt }))) (λ d. Ok ((state_of f p).names, d))
  declare_carried p b is =
      ap (carry (OfPrimitive row.Declare) (state_of f p)) (declare_decoded (state_of f p).names (spends (OfPrimitive row.Declare)) memory words ∙ ap (declare_row (state_of f p).names) reads)
      ∙ ap (λ (b : Bool). and_then (where_fit (not b) (primitive_acts {A = Unit {0}} f.arguments false (record { added = []; inner = named (inner_at f p); answer = tt }))) (λ d. Ok ((state_of f p).names, d))) is

  -- it was announced before
  pub declare_twice : is_some (declared 0 text f.shared.inner.names) ≡ true → IsTableCall (OfPrimitive row.Declare) f words memory (Err (why.Trap BadArgument)) f
  declare_twice there = trapped (OfPrimitive row.Declare) f words memory BadArgument (unrefused (OfPrimitive row.Declare) f.fault none) (λ p past. declare_carried p true there)

  declare_goes : is_some (declared 0 text f.shared.inner.names) ≡ false → (p : Past) → IsPast f p
      → GoesOn (OfPrimitive row.Declare) f p words memory (told.Done None) (record f { shared = record f.shared { inner = named f.shared.inner } })
  declare_goes absent p past = record {
    now = p;
    is = record { arrays = past.arrays; iterators = past.iterators; first = past.first };
    step = goes (OfPrimitive row.Declare) f p (state_of (record f { shared = record f.shared { inner = named f.shared.inner } }) p) words memory (state_of f p).names (named (inner_at f p)) tt 0 None (unrefused (OfPrimitive row.Declare) f.fault none)
        (declare_carried p false absent) tt refl refl;
  }

  declare_wanted : (b : Bool) → is_some (declared 0 text f.shared.inner.names) ≡ b → (g : HostForm) → IsTableCall (OfPrimitive row.Declare) f words memory (Err why.NoMemory) g
  declare_wanted true there g = λ s st. let x = declare_twice there s st in (told.Trap BadArgument, trap_is_some BadArgument, x.0, x.2)
  declare_wanted false absent g = wanted (OfPrimitive row.Declare) f _ g words memory None (declare_goes absent)

  -- memory was wanting, for the name or for its place
  pub declare_memory : (g : HostForm) → IsTableCall (OfPrimitive row.Declare) f words memory (Err why.NoMemory) g
  declare_memory = declare_wanted (is_some (declared 0 text f.shared.inner.names)) refl

  pub declare_call : is_some (declared 0 text f.shared.inner.names) ≡ false → (inner : Inner) → inner ≡ named f.shared.inner
      → IsTableCall (OfPrimitive row.Declare) f words memory (Ok None) (record f { shared = record f.shared { inner = inner } })
  declare_call absent inner same =
      subst (λ (x : Inner). IsTableCall (OfPrimitive row.Declare) f words memory (Ok None) (record f { shared = record f.shared { inner = x } })) (sym same)
      (leads (OfPrimitive row.Declare) f words memory (told.Done None) _ (declare_goes absent))

-- Calls without an argument.

pub name_traps : (f : HostForm) (words : List Word) (memory : List ℕ) (k : TrapKind) → f.fault ≡ None → no_more words ≡ Err k → IsTableCall (OfPrimitive row.PendingName) f words memory (Err (why.Trap k)) f
name_traps f words memory k none ends =
    trapped (OfPrimitive row.PendingName) f words memory k (unrefused (OfPrimitive row.PendingName) f.fault none)
    (λ p past. ap (λ (r : Result (Unit {0}) TrapKind). carry (OfPrimitive row.PendingName) (state_of f p) (and_then r (λ end. Ok (end, (state_of f p).names)))) ends)

pub value_traps : (f : HostForm) (words : List Word) (memory : List ℕ) (k : TrapKind) → f.fault ≡ None → no_more words ≡ Err k → IsTableCall (OfPrimitive row.PendingValue) f words memory (Err (why.Trap k)) f
value_traps f words memory k none ends =
    trapped (OfPrimitive row.PendingValue) f words memory k (unrefused (OfPrimitive row.PendingValue) f.fault none)
    (λ p past. ap (λ (r : Result (Unit {0}) TrapKind). carry (OfPrimitive row.PendingValue) (state_of f p) (and_then r (λ end. Ok (end, (state_of f p).names)))) ends)

pub start_traps : (f : HostForm) (words : List Word) (memory : List ℕ) (k : TrapKind) → f.fault ≡ None → no_more words ≡ Err k → IsTableCall (OfPrimitive row.StartAssign) f words memory (Err (why.Trap k)) f
start_traps f words memory k none ends =
    trapped (OfPrimitive row.StartAssign) f words memory k (unrefused (OfPrimitive row.StartAssign) f.fault none)
    (λ p past. ap (λ (r : Result (Unit {0}) TrapKind). carry (OfPrimitive row.StartAssign) (state_of f p) (and_then r (λ end. Ok (end, (state_of f p).names)))) ends)

module _ (f : HostForm) (words : List Word) (memory : List ℕ) (none : f.fault ≡ None) (ends : no_more words ≡ Ok tt) where
  abbrev Kept : Type 0
  Kept = Option (ℕ × Value)

  -- the number of the name that is pending

  name_carried : (p : Past) (o : Kept) → f.shared.inner.pending ≡ o → carried (OfPrimitive row.PendingName) words memory (state_of f p)
      ≡ and_then (where_fit (is_some o) (primitive_acts {A = ℕ} f.arguments false (record { added = []; inner = inner_at f p; answer = number_of o }))) (λ d. Ok ((state_of f p).names, d))
  name_carried p o is =
      ap (λ ws. carried (OfPrimitive row.PendingName) ws memory (state_of f p)) (no_word words ends)
      ∙ ap (λ (o : Kept). and_then (where_fit (is_some o) (primitive_acts {A = ℕ} f.arguments false (record { added = []; inner = inner_at f p; answer = number_of o }))) (λ d. Ok ((state_of f p).names, d))) is

  pub no_name : f.shared.inner.pending ≡ None → IsTableCall (OfPrimitive row.PendingName) f words memory (Err (why.Trap BadArgument)) f
  no_name is = trapped (OfPrimitive row.PendingName) f words memory BadArgument (unrefused (OfPrimitive row.PendingName) f.fault none) (λ p past. name_carried p None is)

  pub name_call : (x : ℕ × Value) → f.shared.inner.pending ≡ Some x → IsTableCall (OfPrimitive row.PendingName) f words memory (Ok (Some (I32 x.0))) f
  name_call x is = leads (OfPrimitive row.PendingName) f words memory (told.Done (Some (I32 x.0))) f (λ p past. record {
    now = p;
    is = past;
    step = goes (OfPrimitive row.PendingName) f p (state_of f p) words memory (state_of f p).names (inner_at f p) x.0 0 (Some (I32 x.0)) (unrefused (OfPrimitive row.PendingName) f.fault none) (name_carried p (Some x) is) tt refl refl;
  })

  -- its value

  abbrev unkept : Inner → Inner
  unkept inner = record inner { pending = None }

  value_carried : (p : Past) (o : Kept) → f.shared.inner.pending ≡ o → carried (OfPrimitive row.PendingValue) words memory (state_of f p)
      ≡ and_then (where_fit (is_some o) (primitive_acts {A = Value} f.arguments false (record { added = []; inner = unkept (inner_at f p); answer = given (value_of o) }))) (λ d. Ok ((state_of f p).names, d))
  value_carried p o is =
      ap (λ ws. carried (OfPrimitive row.PendingValue) ws memory (state_of f p)) (no_word words ends)
      ∙ ap (λ (o : Kept). and_then (where_fit (is_some o) (primitive_acts {A = Value} f.arguments false (record { added = []; inner = unkept (inner_at f p); answer = given (value_of o) }))) (λ d. Ok ((state_of f p).names, d))) is

  pub no_value : f.shared.inner.pending ≡ None → IsTableCall (OfPrimitive row.PendingValue) f words memory (Err (why.Trap BadArgument)) f
  no_value is = trapped (OfPrimitive row.PendingValue) f words memory BadArgument (unrefused (OfPrimitive row.PendingValue) f.fault none) (λ p past. value_carried p None is)

  abbrev after_value : Values → HostForm
  after_value values = record f { values = values; shared = record f.shared { inner = unkept f.shared.inner } }

  value_goes : (x : ℕ × Value) (q : ℕ) → f.shared.inner.pending ≡ Some x → q < 2 ^ 31 → map.get f.values (pos q) ≡ None → (p : Past) → IsPast f p
      → GoesOn (OfPrimitive row.PendingValue) f p words memory (told.Done (Some (I32 q))) (after_value (map.insert f.values (pos q) x.1))
  value_goes x q is below free p past = record {
    now = p;
    is = record { arrays = past.arrays; iterators = past.iterators; first = past.first };
    step = goes (OfPrimitive row.PendingValue) f p (state_of (after_value (map.insert f.values (pos q) x.1)) p) words memory (state_of f p).names (unkept (inner_at f p)) x.1 q (Some (I32 q)) (unrefused (OfPrimitive row.PendingValue) f.fault none)
        (value_carried p (Some x) is) (record { below = below; free = look_entries f.values (pos q) ∙ free }) refl
        (ap (λ (t : Table Value). state_with (record (state_of f p).names { values = t }) (unkept (inner_at f p)) f) (entries_insert f.values (pos q) x.1));
  }

  value_memory : (x : ℕ × Value) → f.shared.inner.pending ≡ Some x → map.get f.values reserved_handle ≡ None → (g : HostForm) → IsTableCall (OfPrimitive row.PendingValue) f words memory (Err why.NoMemory) g
  value_memory x is free g = wanted (OfPrimitive row.PendingValue) f _ g words memory (Some (I32 2147483647)) (value_goes x 2147483647 is below_limit free)

  pub value_call : (x : ℕ × Value) (values : Values) (r : Result (Option Word) Refusal) → f.shared.inner.pending ≡ Some x → map.get f.values reserved_handle ≡ None → Gives (reply.Value x.1) f.values r values
      → IsTableCall (OfPrimitive row.PendingValue) f words memory r (after_value values)
  value_call x values (Ok w) is free (q, below, vacant, word, stored) =
      subst (λ (o : Option Word). IsTableCall (OfPrimitive row.PendingValue) f words memory (Ok o) (after_value values)) (sym word)
      (subst (λ (m : Values). IsTableCall (OfPrimitive row.PendingValue) f words memory (Ok (Some (I32 q))) (after_value m)) (sym stored)
      (leads (OfPrimitive row.PendingValue) f words memory (told.Done (Some (I32 q))) _ (value_goes x q is below vacant)))
  value_call x values (Err why.NoMemory) is free same = value_memory x is free (after_value values)
  value_call x values (Err (why.Trap k)) is free g = absurd g
  value_call x values (Err (why.Fault fault)) is free g = absurd g

  -- the assignments of the command line

  start_carried : (p : Past) (b : Bool) → is_some f.shared.inner.pending ≡ b → carried (OfPrimitive row.StartAssign) words memory (state_of f p)
      ≡ and_then (where_fit (not b) (primitive_acts {A = AssignAnswer} f.arguments true (settles (state_of f p).shared (start_assign_row (inner_at f p))))) (λ d. Ok ((state_of f p).names, d))
  start_carried p b is =
      ap (λ ws. carried (OfPrimitive row.StartAssign) ws memory (state_of f p)) (no_word words ends)
      ∙ ap (λ (b : Bool). and_then (where_fit (not b) (primitive_acts {A = AssignAnswer} f.arguments true (settles (state_of f p).shared (start_assign_row (inner_at f p))))) (λ d. Ok ((state_of f p).names, d))) is

  -- the script is to make one still
  pub start_early : is_some f.shared.inner.pending ≡ true → IsTableCall (OfPrimitive row.StartAssign) f words memory (Err (why.Trap BadArgument)) f
  start_early is = trapped (OfPrimitive row.StartAssign) f words memory BadArgument (unrefused (OfPrimitive row.StartAssign) f.fault none) (λ p past. start_carried p true is)

  started : (p : Past) (r : Result (Inner × AssignAnswer) Fault) → is_some f.shared.inner.pending ≡ false → start_assign_row (inner_at f p) ≡ r
      → carried (OfPrimitive row.StartAssign) words memory (state_of f p) ≡ Ok ((state_of f p).names, primitive_acts {A = AssignAnswer} f.arguments true (settles (state_of f p).shared r))
  started p r is row_is =
      start_carried p false is
      ∙ ap (λ (r : Result (Inner × AssignAnswer) Fault). Ok ((state_of f p).names, primitive_acts {A = AssignAnswer} f.arguments true (settles (state_of f p).shared r))) row_is

  start_goes : (g : Inner) (a : AssignAnswer) → is_some f.shared.inner.pending ≡ false → (p : Past) → start_assign_row (inner_at f p) ≡ Ok (inner_of g p.arrays p.iterators, a) → IsPast f p
      → GoesOn (OfPrimitive row.StartAssign) f p words memory (told.Done (Some (I32 (assign_code a)))) (record f { shared = record f.shared { inner = g } })
  start_goes g a is p row_is past = record {
    now = p;
    is = record { arrays = past.arrays; iterators = past.iterators; first = past.first };
    step = goes (OfPrimitive row.StartAssign) f p (state_of (record f { shared = record f.shared { inner = g } }) p) words memory (state_of f p).names (inner_of g p.arrays p.iterators) a 0 (Some (I32 (assign_code a)))
        (unrefused (OfPrimitive row.StartAssign) f.fault none) (started p _ is row_is) tt refl refl;
  }

  start_faults : (fault : Fault) → is_some f.shared.inner.pending ≡ false → (p : Past) → start_assign_row (inner_at f p) ≡ Err fault → IsPast f p
      → GoesOn (OfPrimitive row.StartAssign) f p words memory (told.Done (refusal (import_answer (OfPrimitive row.StartAssign)))) (record f { fault = Some fault })
  start_faults fault is p row_is past = record {
    now = p;
    is = record { arrays = past.arrays; iterators = past.iterators; first = past.first };
    step = keeps_fault (OfPrimitive row.StartAssign) f p (state_of (record f { fault = Some fault }) p) words memory (state_of f p).names (inner_at f p) fault (unrefused (OfPrimitive row.StartAssign) f.fault none) (started p _ is row_is) refl;
  }

  pub start_call : (g : Inner) (a : AssignAnswer) → is_some f.shared.inner.pending ≡ false → ((p : Past) → start_assign_row (inner_at f p) ≡ Ok (inner_of g p.arrays p.iterators, a))
      → IsTableCall (OfPrimitive row.StartAssign) f words memory (Ok (Some (I32 (assign_code a)))) (record f { shared = record f.shared { inner = g } })
  start_call g a is row_is = leads (OfPrimitive row.StartAssign) f words memory (told.Done _) _ (λ p past. start_goes g a is p (row_is p) past)

  pub start_fault : (fault : Fault) → is_some f.shared.inner.pending ≡ false → ((p : Past) → start_assign_row (inner_at f p) ≡ Err fault)
      → IsTableCall (OfPrimitive row.StartAssign) f words memory (Err (why.Fault fault)) f
  start_fault fault is row_is = leads (OfPrimitive row.StartAssign) f words memory (told.Done _) _ (λ p past. start_faults fault is p (row_is p) past)

  -- memory was wanting
  memory_by : (p : Past) (r : Result (Inner × AssignAnswer) Fault) → is_some f.shared.inner.pending ≡ false → start_assign_row (inner_at f p) ≡ r
      → (a : HostAnswer) × (a ≢ told.NoMemory) × (left : HostState) × (StepOf (OfPrimitive row.StartAssign) (state_of f p) words memory a left [])
  memory_by p (Ok (g, a)) is row_is = (
    told.Done (Some (I32 (assign_code a))),
    done_is_some (Some (I32 (assign_code a))),
    state_with (state_of f p).names g f,
    goes (OfPrimitive row.StartAssign) f p (state_with (state_of f p).names g f) words memory (state_of f p).names g a 0 (Some (I32 (assign_code a))) (unrefused (OfPrimitive row.StartAssign) f.fault none) (started p (Ok (g, a)) is row_is) tt refl refl,
  )
  memory_by p (Err fault) is row_is = (
    told.Done (refusal (import_answer (OfPrimitive row.StartAssign))),
    done_is_some (refusal (import_answer (OfPrimitive row.StartAssign))),
    state_with (state_of f p).names (inner_at f p) (record f { fault = Some fault }),
    keeps_fault (OfPrimitive row.StartAssign) f p (state_with (state_of f p).names (inner_at f p) (record f { fault = Some fault })) words memory (state_of f p).names (inner_at f p) fault (unrefused (OfPrimitive row.StartAssign) f.fault none) (started p (Err fault) is row_is) refl,
  )

  pub start_memory : is_some f.shared.inner.pending ≡ false → (g : HostForm) → IsTableCall (OfPrimitive row.StartAssign) f words memory (Err why.NoMemory) g
  start_memory is g = λ s st.
      let x = memory_by st.past (start_assign_row (inner_at f st.past)) is refl in
      (x.0, x.1, x.2, subst (λ (t : HostState). StepOf (OfPrimitive row.StartAssign) t words memory x.0 x.2 []) (sym st.state) x.3)
