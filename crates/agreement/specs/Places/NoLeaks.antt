-- Nothing is kept: what is alive in the host where a statement begins, and where `main` has returned. Each number that stands for a value, an array
-- or an iterator stands for that alone, and is in exactly one place: a global, a local of the function at work, or a local of a caller that waits.
use Rattle.std.specs.Prelude.{ℕ, zero, suc, ◌+◌, ◌^◌, ◌≡◌, ◌≢◌, ◌⊎◌, ◌<◌, ◌≤◌, nat_eq, pos, Bool, true, false, ◌&&◌, cond, List, [], ◌∷◌, drop, length, map, slice_get, Option, Some, None}
use Rattle.std.specs.List.{Contains}
use Rattle.sem_primitives.specs.Jobs.{JobForm, Environment}
use Rattle.sem_primitives.specs.declared.sorts.Sort.{Sort}
use Rattle.sem_primitives.specs.declared.sorts.Sort.TheVariants as sort
use Rattle.world_core.specs.WorldState.{Action, Source}
use Rattle.wasm_types.specs.declared.types.ValType.TheVariants as ty
use Rattle.wasm_types.specs.Syntax.{Done, Instructions, ModuleForm, Plain, Then}
use Rattle.wasm_types.specs.declared.instr.Simple.TheVariants.{Call, LocalGet, LocalTee, Nop}
use Rattle.wasm_store.specs.declared.word.Word.{Word}
use Rattle.wasm_store.specs.declared.word.Word.TheVariants.{I32, I64}
use Rattle.wasm_model.specs.Frames.{LabelForm}
use Rattle.wasm_model.specs.Links.{IsNew}
use Rattle.wasm_model.specs.Machines.{CallerForm, Conf}
use Rattle.wasm_model.specs.Runs.{MachineForm, Steps}
use Rattle.host_step.specs.HostState.{HostState, Names}
use Rattle.host_imports.specs.Imports.{host_finds}
use Rattle.host_step.specs.Starts.{state_in}
use Rattle.host_step.specs.Tables.{Table, look}
use Rattle.mid_program.specs.Mid.{Kind, Boxed, Unboxed, ArrayKind, Codes, Program, parameters_at}
use Rattle.mid_program.specs.Sorted.{calls_of, kinds_of}
use Rattle.sem_primitives.specs.declared.table.Primitive.TheVariants as row
use Rattle.lower_model.specs.Emission.{function_number}
use Rattle.host_imports.specs.Names.{import_number}
use Rattle.lower_model.specs.Functions.{main_callee}
use Rattle.lower_model.specs.Machine.{Callee, answers_to, freed_next}
use Rattle.lower_model.specs.Modules.{all_callees, called_imports, imports_of, renumbered}
use Rattle.lower_model.specs.Small.{minus_one, text_beside}
use Rattle.host_imports.specs.declared.import.Import.TheVariants.{OfPrimitive}
use Rattle.agreement.specs.Places.Calls.{HasCall, missing_arrays}
use Rattle.agreement.specs.Places.Places.{IsPart}
use Rattle.agreement.specs.Places.Statements.{starts_in}
use Rattle.agreement.specs.Refined.Owners.{wanted}
use Rattle.agreement.specs.Modules.TableMeaning.{table_meaning}

-- The host's numbers: each is below a limit, and stands for one thing.

abbrev pub StandOnce : {A : Type 0} → (limit : ℕ) → Table A → Type 0
StandOnce limit [] = Unit {0}
StandOnce limit (e ∷ table) = (q : ℕ) × (e.0 ≡ pos q) × (q < limit) × (look table e.0 ≡ None) × StandOnce limit table

-- 0 stands for ARGV, and 1 for ENVIRON, all the time
pub record NumbersStand (N : Names) : Type 0 where
  pub values : StandOnce (2 ^ 31) N.values
  pub arrays : StandOnce (2 ^ 31) N.arrays
  pub iterators : StandOnce (2 ^ 31) N.iterators
  pub argv : look N.arrays (pos 0) ≡ Some 0
  pub environ : look N.arrays (pos 1) ≡ Some 1

-- Places and what they hold: the number of a value, of an array with the right to free it, of an iterator, or none of these.

abbrev pub holds : Sort → Option Sort → Bool
holds sort.Value (Some sort.Value) = true
holds sort.Array (Some sort.Array) = true
holds sort.Iterator (Some sort.Iterator) = true
holds _ _ = false

-- each place has a word, and what holds something is a handle
abbrev pub EachPlace : List (Option Sort) → List Word → Type 0
EachPlace [] [] = Unit {0}
EachPlace (o ∷ os) (I32 n ∷ ws) = EachPlace os ws
EachPlace (o ∷ os) (I64 n ∷ ws) = (o ≡ None) × EachPlace os ws
EachPlace _ _ = ⊥

-- how many of these places hold number q of this sort
abbrev pub holders : Sort → ℕ → List (Option Sort) → List Word → ℕ
holders s q (o ∷ os) (I32 n ∷ ws) = cond (holds s o && nat_eq q n) 1 0 + holders s q os ws
holders s q (o ∷ os) (I64 n ∷ ws) = holders s q os ws
holders s q _ _ = 0

-- among the locals of callers that wait
abbrev pub holders_waiting : Sort → ℕ → List (List (Option Sort)) → List CallerForm → ℕ
holders_waiting s q (os ∷ rest) (r ∷ rs) = holders s q os r.frame.locals + holders_waiting s q rest rs
holders_waiting s q _ _ = 0

-- What globals hold: those of the module and of ranges nothing; then each name has one for a handle, or an array, and one for a number.

-- the first global of a name, behind three of the module's own and those of the ranges
abbrev pub first_name : Program → ℕ
first_name p = suc (suc (suc p.ranges))

abbrev pub NamesHold : (Kind → Option Sort → Type 0) → List Kind → List (Option Sort) → Type 0
NamesHold P [] [] = Unit {0}
NamesHold P (k ∷ ks) (o ∷ (n ∷ os)) = P k o × (n ≡ None) × NamesHold P ks os
NamesHold P _ _ = ⊥

abbrev pub GlobalsHold : (Kind → Option Sort → Type 0) → ℕ → List Kind → List (Option Sort) → Type 0
GlobalsHold P zero ks os = NamesHold P ks os
GlobalsHold P (suc n) ks (o ∷ os) = (o ≡ None) × GlobalsHold P n ks os
GlobalsHold P (suc n) ks [] = NamesHold P ks []

-- a boxed name its value; one that is unboxed may have the text of its number beside it; an array's name the array
abbrev pub NameHolds : Kind → Option Sort → Type 0
NameHolds Boxed o = o ≡ Some sort.Value
NameHolds Unboxed o = (o ≡ None) ⊎ (o ≡ Some sort.Value)
NameHolds ArrayKind o = o ≡ Some sort.Array

-- where `main` has returned these are bounds from above
abbrev pub NameMayHold : Kind → Option Sort → Type 0
NameMayHold Boxed o = (o ≡ None) ⊎ (o ≡ Some sort.Value)
NameMayHold Unboxed o = (o ≡ None) ⊎ (o ≡ Some sort.Value)
NameMayHold ArrayKind o = (o ≡ None) ⊎ (o ≡ Some sort.Array)

-- What the locals of the function at work hold: a boxed parameter its value, all others nothing, iterators of loops over keys aside.

abbrev pub OnlyIterators : List (Option Sort) → Type 0
OnlyIterators [] = Unit {0}
OnlyIterators (o ∷ os) = ((o ≡ None) ⊎ (o ≡ Some sort.Iterator)) × OnlyIterators os

abbrev pub LocalsHold : List Kind → List (Option Sort) → Type 0
LocalsHold [] os = OnlyIterators os
LocalsHold (Boxed ∷ ks) (o ∷ os) = (o ≡ Some sort.Value) × LocalsHold ks os
LocalsHold (Unboxed ∷ ks) (o ∷ os) = (o ≡ None) × LocalsHold ks os
LocalsHold (ArrayKind ∷ ks) (o ∷ os) = (o ≡ None) × LocalsHold ks os
LocalsHold (k ∷ ks) [] = ⊥

-- Counts.

abbrev pub scalars : List Kind → ℕ
scalars [] = 0
scalars (ArrayKind ∷ ks) = scalars ks
scalars (k ∷ ks) = suc (scalars ks)

abbrev pub boxed : List Kind → ℕ
boxed [] = 0
boxed (Boxed ∷ ks) = suc (boxed ks)
boxed (k ∷ ks) = boxed ks

abbrev pub one : Sort → Option Sort → ℕ
one t o = cond (holds t o) 1 0

abbrev pub count : Sort → List (Option Sort) → ℕ
count t [] = 0
count t (o ∷ os) = one t o + count t os

-- Loops over keys that are walked: such a loop begins with the call for its next key. `numbers` are those of the module's imports in the table.

abbrev pub numbers_of : Program → List ℕ
numbers_of p = map import_number (imports_of p)

abbrev pub is_next : Option ℕ → Bool
is_next (Some n) = nat_eq n (import_number (OfPrimitive row.IterNext))
is_next None = false

abbrev pub is_keys : List ℕ → Option Instructions → Bool
is_keys numbers (Some (Then (Plain (LocalGet x)) (Then (Plain (LocalTee y)) (Then (Plain (Call n)) code)))) = is_next (slice_get numbers n)
is_keys numbers _ = false

abbrev pub walks : List ℕ → List LabelForm → ℕ
walks numbers [] = 0
walks numbers (l ∷ ls) = cond (is_keys numbers l.again) (suc (walks numbers ls)) (walks numbers ls)

-- What the locals of a caller that waits hold: a boxed parameter its value; so many operands that are pending a value each, or nothing; after them
-- iterators, and arrays that were made for this call.

abbrev pub NoValues : List (Option Sort) → Type 0
NoValues [] = Unit {0}
NoValues (o ∷ os) = ((o ≡ None) ⊎ ((o ≡ Some sort.Iterator) ⊎ (o ≡ Some sort.Array))) × NoValues os

-- each operand has a local for a handle and one for a number
abbrev pub OperandsHold : ℕ → List (Option Sort) → Type 0
OperandsHold zero os = NoValues os
OperandsHold (suc m) (h ∷ (n ∷ os)) = ((h ≡ None) ⊎ (h ≡ Some sort.Value)) × (n ≡ None) × OperandsHold m os
OperandsHold (suc m) _ = ⊥

abbrev pub LocalsWait : ℕ → List Kind → List (Option Sort) → Type 0
LocalsWait m ks [] = ⊥
LocalsWait m [] (answer ∷ os) = (answer ≡ None) × OperandsHold m os
LocalsWait m (Boxed ∷ ks) (o ∷ os) = (o ≡ Some sort.Value) × LocalsWait m ks os
LocalsWait m (Unboxed ∷ ks) (o ∷ os) = (o ≡ None) × LocalsWait m ks os
LocalsWait m (ArrayKind ∷ ks) (o ∷ os) = (o ≡ None) × LocalsWait m ks os

-- A caller that waits for a call of a function in one of its expressions: what is left comes after that call, and the answer goes to the local of the
-- operand after those that are pending. Arrays that it holds were made for that call, at most one for each array parameter that has no argument there, and
-- for each of those an array is let go right after it.
pub record CallerWaits (p : Program) (os : List (Option Sort)) (r : CallerForm) : Type 0 where
  pub function : Callee
  pub is_function : Contains (all_callees p) function
  pub called : ℕ
  pub place : Instructions
  pub is_place : IsPart function.body (Then (Plain (Call (function_number called))) place)
  pub at_place : r.frame.code ≡ renumbered (called_imports p) place
  pub operands : ℕ
  pub answer_to : answers_to r.frame.code ≡ suc (length function.kinds) + (operands + operands)
  pub each : EachPlace os r.frame.locals
  pub locals_hold : LocalsWait operands function.kinds os
  pub walked : count sort.Iterator os ≡ walks (numbers_of p) r.frame.labels
  pub given : Codes
  pub is_call : HasCall p function called given
  pub fresh : count sort.Array os ≤ missing_arrays (parameters_at (calls_of p) called) given
  pub freed : freed_next place ≡ missing_arrays (parameters_at (calls_of p) called) given

-- outside of all callers stands the frame in which `main` is called, which holds nothing
abbrev pub first_caller : CallerForm
first_caller = record { frame = record { values = []; labels = []; locals = []; code = Done }; result = Some ty.I32 }

abbrev pub CallersWait : Program → List (List (Option Sort)) → List CallerForm → Type 0
CallersWait p [] (r ∷ []) = r ≡ first_caller
CallersWait p (os ∷ rest) (r ∷ rs) = CallerWaits p os r × CallersWait p rest rs
CallersWait p _ _ = ⊥

-- The caller that waits has called this function, and each other caller the one before it; the last one is `main`.
abbrev pub IsCalled : (p : Program) → Callee → (rest : List (List (Option Sort))) (rs : List CallerForm) → CallersWait p rest rs → Type 0
IsCalled p f [] rs h = f ≡ main_callee p
IsCalled p f (os ∷ rest) [] h = ⊥
IsCalled p f (os ∷ rest) (r ∷ rs) h = (slice_get (all_callees p) h.0.called ≡ Some f) × IsCalled p h.0.function rest rs h.1

-- Texts beside numbers: an unboxed parameter has none, and a name's number says whether there is one, by a number of its own.

abbrev pub BareParameters : List Kind → List Word → Type 0
BareParameters [] ws = Unit {0}
BareParameters (k ∷ ks) [] = ⊥
BareParameters (Boxed ∷ ks) (w ∷ ws) = BareParameters ks ws
BareParameters (Unboxed ∷ ks) (w ∷ ws) = (w ≢ I64 text_beside) × BareParameters ks ws
BareParameters (ArrayKind ∷ ks) (w ∷ ws) = BareParameters ks ws

abbrev pub IsMarked : Kind → (handle number : Word) → Type 0
IsMarked Unboxed h n = ((h ≡ I32 minus_one) × (n ≢ I64 text_beside)) ⊎ ((h ≢ I32 minus_one) × (n ≡ I64 text_beside))
IsMarked Boxed h n = Unit {0}
IsMarked ArrayKind h n = Unit {0}

abbrev pub NamesMarked : List Kind → List Word → Type 0
NamesMarked [] ws = Unit {0}
NamesMarked (k ∷ ks) (h ∷ (n ∷ ws)) = IsMarked k h n × NamesMarked ks ws
NamesMarked (k ∷ ks) _ = ⊥

-- WHERE A STATEMENT BEGINS, in four records. The code at work is that of a statement of a function, with what comes after it; nothing is on the operands
-- or the argument list.
pub record AtWork (p : Program) (c : Conf) (s : HostState) : Type 0 where
  pub function : Callee
  pub statement : Instructions
  pub is_statement : Contains (starts_in function.body) statement
  pub at_work : c.frame.code ≡ renumbered (called_imports p) statement
  pub operands : c.frame.values ≡ []
  pub arguments : s.arguments ≡ []

-- What places hold: each number that stands for something is in one of them, and what is in none stands for nothing.
pub record Held (c : Conf) (s : HostState) : Type 0 where
  pub globals : List (Option Sort)
  pub own : List (Option Sort)
  pub waiting : List (List (Option Sort))
  pub each_global : EachPlace globals c.globals
  pub each_local : EachPlace own c.frame.locals
  pub numbers : NumbersStand s.names
  pub once : (t : Sort) (q : ℕ) → holders t q own c.frame.locals + (holders t q globals c.globals + holders_waiting t q waiting c.callers) ≡ wanted s.names t q

-- Names hold what their kinds say, and so do the parameters of the function at work, whose other locals hold nothing but an iterator for each loop over
-- keys that is walked.
pub record ByKinds (p : Program) (f : Callee) (globals own : List (Option Sort)) (c : Conf) : Type 0 where
  pub names_hold : GlobalsHold NameHolds (first_name p) (kinds_of p.globals) globals
  pub marked : NamesMarked (kinds_of p.globals) (drop (first_name p) c.globals)
  pub locals_hold : LocalsHold f.kinds own
  pub bare : BareParameters f.kinds c.frame.locals
  pub walked : count sort.Iterator own ≡ walks (numbers_of p) c.frame.labels

-- Callers that wait hold their parameters, operands that are pending, and an iterator for each such loop; the function at work is the one that the caller
-- that waits has called.
pub record CalledBy (p : Program) (f : Callee) (waiting : List (List (Option Sort))) (rs : List CallerForm) : Type 0 where
  pub waits : CallersWait p waiting rs
  pub is_called : IsCalled p f waiting rs waits

-- All of it. So little is alive: the theorem `little_is_alive` says how much.
pub record AtStatement (p : Program) (c : Conf) (s : HostState) : Type 0 where
  pub at : AtWork p c s
  pub held : Held c s
  pub by_kinds : ByKinds p at.function held.globals held.own c
  pub called_by : CalledBy p at.function held.waiting c.callers

-- WHERE `main` HAS RETURNED: names alone hold something. So at most so much is alive: the theorem `names_alone_are_alive`.
pub record AtReturn (p : Program) (c : Conf) (s : HostState) : Type 0 where
  pub globals : List (Option Sort)
  pub numbers : NumbersStand s.names
  pub once : (t : Sort) (q : ℕ) → holders t q globals c.globals ≡ wanted s.names t q
  pub each_global : EachPlace globals c.globals
  pub names_hold : GlobalsHold NameMayHold (first_name p) (kinds_of p.globals) globals
  pub exact : s.fault ≡ None → GlobalsHold NameHolds (first_name p) (kinds_of p.globals) globals

-- each statement begins with a `nop`, and so does the test of a `do` loop
abbrev pub begins_statement : Instructions → Bool
begins_statement (Then (Plain Nop) code) = true
begins_statement _ = false

-- where a run of a module may come to, linked with a host of the table, whatever free numbers the host gives out
pub record Reached (m : ModuleForm) (job : JobForm) (input : Source) (outside : Environment) (a : MachineForm) (c : Conf) (s : HostState) : Type 0 where
  pub is_new : IsNew host_finds m a
  pub steps : ℕ
  pub output : List Action
  pub taken : Steps table_meaning a.program steps a.conf (state_in job input outside) output c s
