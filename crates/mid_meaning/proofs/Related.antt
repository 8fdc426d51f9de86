-- A relation between what is done with some fuel and what is done with other fuel, which the ways of putting doings together keep, holds of all
-- mid code and of whole runs.
use Rattle.std.proofs.Common.{◌≡◌, ℕ, zero, suc, Bool, true, false, List, [], ◌∷◌, Option, Some, None, Result, get_or, refl}
use Rattle.std.specs.Prelude.{if◌then◌else◌, map}
use Rattle.awk_values.specs.Comparison.{comparison}
use Rattle.awk_values.specs.Operators.{is_zero}
use Rattle.awk_values.specs.declared.fault.Fault.{Fault}
use Rattle.awk_values.specs.declared.value.Value.{Value}
use Rattle.awk_values.specs.declared.value.Value.TheVariants as value
use Rattle.sem_primitives.specs.Carried.{carried_out}
use Rattle.sem_primitives.specs.Numbers.{Number as AnyNumber, number_of, outcome_of}
use Rattle.sem_primitives.specs.SharedState.{Shared, HostResult}
use Rattle.sem_primitives.specs.Sorts.{Row, InAnswer, OrFault}
use Rattle.sem_primitives.specs.Table.{arguments_of, answer_of, can_fault, meaning, listed_meaning}
use Rattle.sem_primitives.specs.declared.answers.InputAnswer.{InputAnswer}
use Rattle.sem_primitives.specs.declared.answers.InputAnswer.TheVariants as input
use Rattle.sem_primitives.specs.declared.table.Primitive.{Primitive}
use Rattle.sem_primitives.specs.declared.table.Primitive.TheVariants as row
use Rattle.mid_program.specs.declared.mid.Operation.{Operation}
use Rattle.mid_program.specs.declared.mid.Operation.TheVariants.{Host, Inline, AsNumber, FieldNumber}
use Rattle.sem_primitives.specs.declared.answers.AssignAnswer.{AssignAnswer}
use Rattle.sem_primitives.specs.declared.answers.AssignAnswer.TheVariants as assign
use Rattle.sem_scripts.specs.Names.{Name, ArrayName, Numbered, Given}
use Rattle.sem_scripts.specs.ScriptState.{Local, State, Stop, OutOfTurns, TooDeep, Nexted, Exited, Returned, Execution, ◌>>=◌, ◌>>◌, give, nothing, stop, look, change, settled, perform, call, call_listed, asks, spend, spend_all, global_value, local_value, local_array, with_global, with_local, with_range}
use Rattle.sem_scripts.specs.Steps.{one_number, input_number, array_number, field_checked}
use Rattle.sem_scripts.specs.Meaning.{Calls, unless_pending, asked, assign_pending}
use Rattle.sem_scripts.specs.Statements.{Flow, Normal, Broke, Continued, after, after_round, loop, at_key, over_keys, with_status, entered}
use Rattle.sem_scripts.specs.Items.{range_open}
use Rattle.sem_scripts.specs.ScriptRun.{kind_of, announced, arrays_made, on_assignment, first_assigned, for_record, on_input, records_done, part, Parts, all_parts}
use Rattle.mid_program.specs.Mid.{Kind, Slot, Global, Parameter, Code, Do, Over, Compare, Call, Ask, AskLine, FileLine, Replace, Number, Text, Unset, Get, Set, Array, IsOpen, Choose, Seq, Let, Bound, Codes, End, At, Fixed, Fresh, Step, Eval, Block, If, Loop, Each, Break, Continue, Next, Exit, ExitWith, Return, Mark, Steps, NoStep, Then, Program, Form, a_value, answer_by, slot_form, form_of, arguments, parameters_at}
use Rattle.mid_program.specs.Sorted.{calls_of}
use Rattle.mid_program.specs.MidMeaning.{global_name, routine_name, routine_at, mid_called, mid_done, mid_parts, Env, Holds, Values, all_evaluated, all_stepped, arithmetic_of, boxed, converted, evaluated, held, holds, keyed, listing, locals_of, numbered, operated, or_zero, read_as, read_slot, replacing, row_of, store_slot, stepped, three_values, truth_in, when_read, when_replaced}

abbrev pub Relation : Type 1
Relation = (A : Type 0) → Execution A → Execution A → Type 0

-- a state with other turns
abbrev pub at_turns : ℕ → State → State
at_turns t state = record state { turns = t }

-- a change that has nothing to do with turns, output and the room for calls
pub record Still (f : State → State) : Type 0 where
  pub apart : (state : State) (t : ℕ) → f (at_turns t state) ≡ at_turns t (f state)
  pub turns : (state : State) → (f state).turns ≡ state.turns
  pub output : (state : State) → (f state).shared.output ≡ state.shared.output
  pub room : (state : State) → (f state).own.calls_left ≡ state.own.calls_left

-- reasons that fuel and depth do not make
abbrev pub IsPlainStop : Stop → Type 0
IsPlainStop OutOfTurns = ⊥
IsPlainStop TooDeep = ⊥
IsPlainStop why = Unit {0}

pub record Closed (R : Relation) : Type 1 where
  pub gives : (A : Type 0) (a : A) → R A (give a) (give a)
  pub settles : (A : Type 0) (r : Result A Fault) → R A (settled r) (settled r)
  pub performs : (A : Type 0) (b : Bool) (f : Shared → HostResult (OrFault b A)) → R A (perform b f) (perform b f)
  pub looks : (A : Type 0) (f : State → A) → ((state : State) (t : ℕ) → f (at_turns t state) ≡ f state) → R A (look f) (look f)
  pub changes : (f : State → State) → Still f → R (Unit {0}) (change f) (change f)
  pub stops : (A : Type 0) (why : Stop) → IsPlainStop why → R A (stop why) (stop why)
  pub spends : R (Unit {0}) spend spend
  pub binds : (A B : Type 0) (m m' : Execution A) (f f' : A → Execution B) → R A m m' → ((a : A) → R B (f a) (f' a)) → R B (m >>= f) (m' >>= f')

-- with some fuel and with other, where calls do this and that
pub record Fuelled (R : Relation) (n n' : ℕ) (calls calls' : Calls) : Type 1 where
  pub closed : Closed R
  pub asking : (ask ask' : Execution InputAnswer) → R InputAnswer ask ask' → R InputAnswer (asked n ask) (asked n' ask')
  pub looping : (test test' : Execution Bool) (body body' : Execution Flow) (step step' : Execution (Unit {0})) → R Bool test test' → R Flow body body' → R (Unit {0}) step step' → R Flow (loop n test body step) (loop n' test' body' step')
  pub walking : (keys : ℕ) (store store' : Value → Execution (Unit {0})) (body body' : Execution Flow) → ((key : Value) → R (Unit {0}) (store key) (store' key)) → R Flow body body' → R Flow (over_keys n keys store body) (over_keys n' keys store' body')
  pub calling : (f : ℕ) (locals : List Local) → R Value (spend >> calls f locals) (spend >> calls' f locals)

still_record : (f : State → State) → ((state : State) (t : ℕ) → f (at_turns t state) ≡ at_turns t (f state)) → ((state : State) → (f state).turns ≡ state.turns) → ((state : State) → (f state).shared.output ≡ state.shared.output) → ((state : State) → (f state).own.calls_left ≡ state.own.calls_left) → Still f
still_record f a b c d = record { apart = a; turns = b; output = c; room = d }

module _ (R : Relation) (c : Closed R) where
  pub does_related : (p : Primitive) (given : Row (arguments_of p)) → R (InAnswer (answer_of p)) (call p given) (call p given)
  does_related p given = c.performs (InAnswer (answer_of p)) (can_fault p) (meaning p given)

  pub spend_all_related : (k : ℕ) → R (Unit {0}) (spend_all k) (spend_all k)
  unfolding spend_all
  spend_all_related zero = c.gives _ tt
  spend_all_related (suc k) = c.binds _ _ spend spend (λ u. spend_all k) (λ u. spend_all k) c.spends (λ u. spend_all_related k)

  pub asks_related : (p : Primitive) (given : Row (arguments_of p)) → R (InAnswer (answer_of p)) (asks p given) (asks p given)
  asks_related p given = c.binds _ _ (look (λ state. carried_out p state.shared)) (look (λ state. carried_out p state.shared)) (λ k. spend_all k >> call p given) (λ k. spend_all k >> call p given) (c.looks _ (λ state. carried_out p state.shared) (λ state t. refl))
      (λ k. c.binds _ _ (spend_all k) (spend_all k) (λ u. call p given) (λ u. call p given) (spend_all_related k) (λ u. does_related p given))

  pub chosen_related : {A : Type 0} (b : Bool) (t t' e e' : Execution A) → R A t t' → R A e e' → R A (if b then t else e) (if b then t' else e')
  chosen_related true t t' e e' p q = p
  chosen_related false t t' e e' p q = q

  pub after_related : (flow : Flow) (m m' : Execution Flow) → R Flow m m' → R Flow (after flow m) (after flow m')
  after_related Normal m m' p = p
  after_related Broke m m' p = c.gives _ Broke
  after_related Continued m m' p = c.gives _ Continued

  pub round_related : (flow : Flow) (m m' : Execution Flow) → R Flow m m' → R Flow (after_round flow m) (after_round flow m')
  round_related Normal m m' p = p
  round_related Broke m m' p = c.gives _ Normal
  round_related Continued m m' p = p

  pub read_related : (S S' : Value → Execution (Unit {0})) → ((text : Value) → R (Unit {0}) (S text) (S' text)) → (a : InputAnswer) → R AnyNumber (when_read S a) (when_read S' a)
  read_related S S' h input.Read = c.binds _ _ (call row.Line tt) (call row.Line tt) (λ text. S text >> give one_number) (λ text. S' text >> give one_number) (does_related row.Line tt) (λ text. c.binds _ _ (S text) (S' text) (λ u. give one_number) (λ u. give one_number) (h text) (λ u. c.gives _ one_number))
  read_related S S' h input.End = c.gives _ (input_number input.End)
  read_related S S' h input.Pending = c.gives _ (input_number input.Pending)
  read_related S S' h input.Failed = c.gives _ (input_number input.Failed)

  pub replaced_related : (S S' : Value → Execution (Unit {0})) → ((text : Value) → R (Unit {0}) (S text) (S' text)) → (count : AnyNumber) → R AnyNumber (when_replaced S count) (when_replaced S' count)
  replaced_related S S' h count =
      c.binds _ _ (if is_zero count.number then nothing else (call row.SubResult tt >>= S)) (if is_zero count.number then nothing else (call row.SubResult tt >>= S')) (λ u. give count) (λ u. give count)
      (chosen_related (is_zero count.number) nothing nothing (call row.SubResult tt >>= S) (call row.SubResult tt >>= S') (c.gives _ tt) (c.binds _ _ (call row.SubResult tt) (call row.SubResult tt) S S' (does_related row.SubResult tt) h)) (λ u. c.gives _ count)

  pub array_related : (a : ArrayName) → R ℕ (array_number a) (array_number a)
  array_related (Numbered i) = c.gives _ i
  array_related (Given i) = c.looks _ (local_array i) (λ state t. refl)

  pub slot_related : (x : Slot) → R (Holds (slot_form x)) (read_slot x) (read_slot x)
  slot_related (Global u i) = c.looks _ (λ state. read_as u (global_value i state)) (λ state t. refl)
  slot_related (Parameter u i) = c.looks _ (λ state. read_as u (local_value i state)) (λ state t. refl)

  pub global_related : (i : ℕ) (v : Value) → R (Unit {0}) (change (with_global i v)) (change (with_global i v))
  global_related i v = c.changes (with_global i v) (still_record (with_global i v) (λ state t. refl) (λ state. refl) (λ state. refl) (λ state. refl))

  pub store_related : (x : Slot) (v : Value) → R (Unit {0}) (store_slot x v) (store_slot x v)
  store_related (Global u i) v = global_related i v
  store_related (Parameter u i) v = c.changes (with_local i v) (still_record (with_local i v) (λ state t. refl) (λ state. refl) (λ state. refl) (λ state. refl))

  pub operated_related : (o : Operation) (given : Row (arguments o)) → R (InAnswer (answer_by o)) (operated o given) (operated o given)
  operated_related (Host p) given = does_related p given
  operated_related (Inline a) given = c.settles _ (outcome_of (arithmetic_of a given.0.number given.1.0.number))
  operated_related AsNumber given = c.gives _ given.0
  operated_related FieldNumber given = c.settles _ (field_checked given.0)

module _ (R : Relation) (texts : List (List ℕ)) (parameters : List (List Kind)) (n n' : ℕ) (calls calls' : Calls) (k : Fuelled R n n' calls calls') where
  abbrev E : (fs : List Form) → Env fs → (e : Code) → Execution (Holds (form_of fs e))
  E fs env e = evaluated texts parameters n calls fs env e

  abbrev E' : (fs : List Form) → Env fs → (e : Code) → Execution (Holds (form_of fs e))
  E' fs env e = evaluated texts parameters n' calls' fs env e

  abbrev All : (fs : List Form) → Env fs → (es : Codes) → Execution (Values fs es)
  All fs env es = all_evaluated texts parameters n calls fs env es

  abbrev All' : (fs : List Form) → Env fs → (es : Codes) → Execution (Values fs es)
  All' fs env es = all_evaluated texts parameters n' calls' fs env es

  abbrev H : Code → Execution Bool
  H e = holds texts parameters n calls e

  abbrev H' : Code → Execution Bool
  H' e = holds texts parameters n' calls' e

  abbrev St : Step → Execution Flow
  St s = stepped texts parameters n calls s

  abbrev St' : Step → Execution Flow
  St' s = stepped texts parameters n' calls' s

  abbrev Sts : Steps → Execution Flow
  Sts ss = all_stepped texts parameters n calls ss

  abbrev Sts' : Steps → Execution Flow
  Sts' ss = all_stepped texts parameters n' calls' ss

  abbrev Ky : Code → Value → Execution (Unit {0})
  Ky e key = keyed texts parameters n calls e key

  abbrev Ky' : Code → Value → Execution (Unit {0})
  Ky' e key = keyed texts parameters n' calls' e key

  mutual
    unfolding evaluated all_evaluated

    pub code_related : (fs : List Form) (env : Env fs) (e : Code) → R (Holds (form_of fs e)) (evaluated texts parameters n calls fs env e) (evaluated texts parameters n' calls' fs env e)
    code_related fs env (Do o es) = k.closed.binds _ _ (All fs env es) (All' fs env es) (λ vs. (settled (row_of fs (arguments o) es vs)) >>= λ g. operated o g) (λ vs. (settled (row_of fs (arguments o) es vs)) >>= λ g. operated o g) (all_related fs env es) (λ vs. k.closed.binds _ _ (settled (row_of fs (arguments o) es vs)) (settled (row_of fs (arguments o) es vs)) (λ g. operated o g) (λ g. operated o g) (k.closed.settles _ (row_of fs (arguments o) es vs)) (λ g. operated_related R k.closed o g))
    code_related fs env (Over l es) = k.closed.binds _ _ (All fs env es) (All' fs env es) (λ vs. call_listed l (listing fs es vs)) (λ vs. call_listed l (listing fs es vs)) (all_related fs env es) (λ vs. k.closed.performs _ true (listed_meaning l (listing fs es vs)))
    code_related fs env (Compare op a b) = k.closed.binds _ _ (E (fs) env a) (E' (fs) env a) (λ x. (E (fs) env b) >>= λ y. settled (comparison (boxed (form_of fs a) x) (boxed (form_of fs b) y) op)) (λ x. (E' (fs) env b) >>= λ y. settled (comparison (boxed (form_of fs a) x) (boxed (form_of fs b) y) op)) (code_related (fs) env a) (λ x. k.closed.binds _ _ (E (fs) env b) (E' (fs) env b) (λ y. settled (comparison (boxed (form_of fs a) x) (boxed (form_of fs b) y) op)) (λ y. settled (comparison (boxed (form_of fs a) x) (boxed (form_of fs b) y) op)) (code_related (fs) env b) (λ y. k.closed.settles _ (comparison (boxed (form_of fs a) x) (boxed (form_of fs b) y) op)))
    code_related fs env (Call f es) = k.closed.binds _ _ (All fs env es) (All' fs env es) (λ vs. spend >> calls f (locals_of fs (parameters_at parameters f) es vs)) (λ vs. spend >> calls' f (locals_of fs (parameters_at parameters f) es vs)) (all_related fs env es) (λ vs. k.calling f (locals_of fs (parameters_at parameters f) es vs))
    code_related fs env (Ask) = k.closed.binds _ _ (asked n (asks row.Getline tt)) (asked n' (asks row.Getline tt)) (λ answer. give (input_number answer)) (λ answer. give (input_number answer)) (k.asking (asks row.Getline tt) (asks row.Getline tt) (asks_related R k.closed row.Getline tt)) (λ answer. k.closed.gives _ (input_number answer))
    code_related fs env (AskLine s) = k.closed.binds _ _ (asked n (asks row.GetlineVar tt)) (asked n' (asks row.GetlineVar tt)) (λ answer. when_read (λ text. E (a_value ∷ fs) (text, env) s >> nothing) answer) (λ answer. when_read (λ text. E' (a_value ∷ fs) (text, env) s >> nothing) answer) (k.asking (asks row.GetlineVar tt) (asks row.GetlineVar tt) (asks_related R k.closed row.GetlineVar tt)) (λ answer. read_related R k.closed (λ text. E (a_value ∷ fs) (text, env) s >> nothing) (λ text. E' (a_value ∷ fs) (text, env) s >> nothing) (λ text. k.closed.binds _ _ (E (a_value ∷ fs) (text, env) s) (E' (a_value ∷ fs) (text, env) s) (λ u. nothing) (λ u. nothing) (code_related (a_value ∷ fs) (text, env) s) (λ u. k.closed.gives _ tt)) answer)
    code_related fs env (FileLine e s) = k.closed.binds _ _ (E (fs) env e) (E' (fs) env e) (λ file. (call row.GetlineVarFile (boxed (form_of fs e) file, tt)) >>= λ answer. when_read (λ text. E (a_value ∷ fs) (text, env) s >> nothing) answer) (λ file. (call row.GetlineVarFile (boxed (form_of fs e) file, tt)) >>= λ answer. when_read (λ text. E' (a_value ∷ fs) (text, env) s >> nothing) answer) (code_related (fs) env e) (λ file. k.closed.binds _ _ (call row.GetlineVarFile (boxed (form_of fs e) file, tt)) (call row.GetlineVarFile (boxed (form_of fs e) file, tt)) (λ answer. when_read (λ text. E (a_value ∷ fs) (text, env) s >> nothing) answer) (λ answer. when_read (λ text. E' (a_value ∷ fs) (text, env) s >> nothing) answer) (does_related R k.closed row.GetlineVarFile (boxed (form_of fs e) file, tt)) (λ answer. read_related R k.closed (λ text. E (a_value ∷ fs) (text, env) s >> nothing) (λ text. E' (a_value ∷ fs) (text, env) s >> nothing) (λ text. k.closed.binds _ _ (E (a_value ∷ fs) (text, env) s) (E' (a_value ∷ fs) (text, env) s) (λ u. nothing) (λ u. nothing) (code_related (a_value ∷ fs) (text, env) s) (λ u. k.closed.gives _ tt)) answer))
    code_related fs env (Replace all es s) = k.closed.binds _ _ (All fs env es) (All' fs env es) (λ vs. (settled (row_of fs three_values es vs)) >>= λ g. (replacing all g) >>= λ count. when_replaced (λ text. E (a_value ∷ fs) (text, env) s >> nothing) count) (λ vs. (settled (row_of fs three_values es vs)) >>= λ g. (replacing all g) >>= λ count. when_replaced (λ text. E' (a_value ∷ fs) (text, env) s >> nothing) count) (all_related fs env es) (λ vs. k.closed.binds _ _ (settled (row_of fs three_values es vs)) (settled (row_of fs three_values es vs)) (λ g. (replacing all g) >>= λ count. when_replaced (λ text. E (a_value ∷ fs) (text, env) s >> nothing) count) (λ g. (replacing all g) >>= λ count. when_replaced (λ text. E' (a_value ∷ fs) (text, env) s >> nothing) count) (k.closed.settles _ (row_of fs three_values es vs)) (λ g. k.closed.binds _ _ (replacing all g) (replacing all g) (λ count. when_replaced (λ text. E (a_value ∷ fs) (text, env) s >> nothing) count) (λ count. when_replaced (λ text. E' (a_value ∷ fs) (text, env) s >> nothing) count) (does_related R k.closed row.Sub (g.0, (g.1.0, (g.1.1.0, (all, tt))))) (λ count. replaced_related R k.closed (λ text. E (a_value ∷ fs) (text, env) s >> nothing) (λ text. E' (a_value ∷ fs) (text, env) s >> nothing) (λ text. k.closed.binds _ _ (E (a_value ∷ fs) (text, env) s) (E' (a_value ∷ fs) (text, env) s) (λ u. nothing) (λ u. nothing) (code_related (a_value ∷ fs) (text, env) s) (λ u. k.closed.gives _ tt)) count)))
    code_related fs env (Number z) = k.closed.gives _ (or_zero (number_of z))
    code_related fs env (Text i) = k.closed.gives _ (value.Text (get_or texts i []))
    code_related fs env (Unset) = k.closed.gives _ (None)
    code_related fs env (Get x) = slot_related R k.closed x
    code_related fs env (Set x e) = k.closed.binds _ _ (E (fs) env e) (E' (fs) env e) (λ v. (store_slot x (boxed (form_of fs e) v)) >> give (v)) (λ v. (store_slot x (boxed (form_of fs e) v)) >> give (v)) (code_related (fs) env e) (λ v. k.closed.binds _ _ (store_slot x (boxed (form_of fs e) v)) (store_slot x (boxed (form_of fs e) v)) (λ u. give (v)) (λ u. give (v)) (store_related R k.closed x (boxed (form_of fs e) v)) (λ u. k.closed.gives _ (v)))
    code_related fs env (Array a) = array_related R k.closed a
    code_related fs env (IsOpen i) = k.closed.looks _ (range_open i) (λ state t. refl)
    code_related fs env (Choose s e a b) = k.closed.binds _ _ (E (fs) env e) (E' (fs) env e) (λ v. if truth_in (form_of fs e) v then ((E (fs) env a) >>= λ x. settled (converted (form_of fs a) s x)) else ((E (fs) env b) >>= λ x. settled (converted (form_of fs b) s x))) (λ v. if truth_in (form_of fs e) v then ((E' (fs) env a) >>= λ x. settled (converted (form_of fs a) s x)) else ((E' (fs) env b) >>= λ x. settled (converted (form_of fs b) s x))) (code_related (fs) env e) (λ v. chosen_related R k.closed (truth_in (form_of fs e) v) ((E (fs) env a) >>= λ x. settled (converted (form_of fs a) s x)) ((E' (fs) env a) >>= λ x. settled (converted (form_of fs a) s x)) ((E (fs) env b) >>= λ x. settled (converted (form_of fs b) s x)) ((E' (fs) env b) >>= λ x. settled (converted (form_of fs b) s x)) (k.closed.binds _ _ (E (fs) env a) (E' (fs) env a) (λ x. settled (converted (form_of fs a) s x)) (λ x. settled (converted (form_of fs a) s x)) (code_related (fs) env a) (λ x. k.closed.settles _ (converted (form_of fs a) s x))) (k.closed.binds _ _ (E (fs) env b) (E' (fs) env b) (λ x. settled (converted (form_of fs b) s x)) (λ x. settled (converted (form_of fs b) s x)) (code_related (fs) env b) (λ x. k.closed.settles _ (converted (form_of fs b) s x))))
    code_related fs env (Seq a b) = k.closed.binds _ _ (E (fs) env a) (E' (fs) env a) (λ u. E (fs) env b) (λ u. E' (fs) env b) (code_related (fs) env a) (λ u. code_related (fs) env b)
    code_related fs env (Let a b) = k.closed.binds _ _ (E (fs) env a) (E' (fs) env a) (λ x. E (form_of fs a ∷ fs) (x, env) b) (λ x. E' (form_of fs a ∷ fs) (x, env) b) (code_related (fs) env a) (λ x. code_related (form_of fs a ∷ fs) (x, env) b)
    code_related fs env (Bound m i) = k.closed.gives _ (held fs env i)

    pub all_related : (fs : List Form) (env : Env fs) (es : Codes) → R (Values fs es) (all_evaluated texts parameters n calls fs env es) (all_evaluated texts parameters n' calls' fs env es)
    all_related fs env End = k.closed.gives _ (tt)
    all_related fs env (At e es) = k.closed.binds _ _ (E (fs) env e) (E' (fs) env e) (λ v. (All fs env es) >>= λ vs. give ((v, vs))) (λ v. (All' fs env es) >>= λ vs. give ((v, vs))) (code_related (fs) env e) (λ v. k.closed.binds _ _ (All fs env es) (All' fs env es) (λ vs. give ((v, vs))) (λ vs. give ((v, vs))) (all_related fs env es) (λ vs. k.closed.gives _ ((v, vs))))
    all_related fs env (Fixed m es) = all_related fs env es
    all_related fs env (Fresh es) = k.closed.binds _ _ (call row.NewArray tt) (call row.NewArray tt) (λ i. (All fs env es) >>= λ vs. give ((i, vs))) (λ i. (All' fs env es) >>= λ vs. give ((i, vs))) (does_related R k.closed row.NewArray tt) (λ i. k.closed.binds _ _ (All fs env es) (All' fs env es) (λ vs. give ((i, vs))) (λ vs. give ((i, vs))) (all_related fs env es) (λ vs. k.closed.gives _ ((i, vs))))

  holds_related : (e : Code) → R Bool (H e) (H' e)
  holds_related e = k.closed.binds _ _ (E ([]) tt e) (E' ([]) tt e) (λ v. give (truth_in (form_of [] e) v)) (λ v. give (truth_in (form_of [] e) v)) (code_related ([]) tt e) (λ v. k.closed.gives _ (truth_in (form_of [] e) v))

  keyed_related : (e : Code) (key : Value) → R (Unit {0}) (Ky e key) (Ky' e key)
  keyed_related e key = k.closed.binds _ _ (E (a_value ∷ []) (key, tt) e) (E' (a_value ∷ []) (key, tt) e) (λ u. nothing) (λ u. nothing) (code_related (a_value ∷ []) (key, tt) e) (λ u. k.closed.gives _ tt)

  mutual
    unfolding stepped all_stepped

    pub step_related : (s : Step) → R Flow (stepped texts parameters n calls s) (stepped texts parameters n' calls' s)
    step_related (Eval e) = k.closed.binds _ _ (E ([]) tt e) (E' ([]) tt e) (λ u. give (Normal)) (λ u. give (Normal)) (code_related ([]) tt e) (λ u. k.closed.gives _ (Normal))
    step_related (Block ss) = steps_related ss
    step_related (If e a b) = k.closed.binds _ _ (H e) (H' e) (λ truth. if truth then St a else St b) (λ truth. if truth then St' a else St' b) (holds_related e) (λ truth. chosen_related R k.closed truth (St a) (St' a) (St b) (St' b) (step_related a) (step_related b))
    step_related (Loop true e a b) = k.looping (H e) (H' e) (St a) (St' a) (St b >> nothing) (St' b >> nothing) (holds_related e) (step_related a) (k.closed.binds _ _ (St b) (St' b) (λ u. nothing) (λ u. nothing) (step_related b) (λ u. k.closed.gives _ tt))
    step_related (Loop false e a b) = k.closed.binds _ _ (St a) (St' a) (λ flow. after_round flow ((St b >> nothing) >> loop n (H e) (St a) (St b >> nothing))) (λ flow. after_round flow ((St' b >> nothing) >> loop n' (H' e) (St' a) (St' b >> nothing))) (step_related a) (λ flow. round_related R k.closed flow ((St b >> nothing) >> loop n (H e) (St a) (St b >> nothing)) ((St' b >> nothing) >> loop n' (H' e) (St' a) (St' b >> nothing)) (k.closed.binds _ _ (St b >> nothing) (St' b >> nothing) (λ u. loop n (H e) (St a) (St b >> nothing)) (λ u. loop n' (H' e) (St' a) (St' b >> nothing)) (k.closed.binds _ _ (St b) (St' b) (λ u. nothing) (λ u. nothing) (step_related b) (λ u. k.closed.gives _ tt)) (λ u. k.looping (H e) (H' e) (St a) (St' a) (St b >> nothing) (St' b >> nothing) (holds_related e) (step_related a) (k.closed.binds _ _ (St b) (St' b) (λ u. nothing) (λ u. nothing) (step_related b) (λ u. k.closed.gives _ tt)))))
    step_related (Each a e s) = k.closed.binds _ _ (array_number a) (array_number a) (λ i. (call row.Iter (i, tt)) >>= λ keys. over_keys n keys (Ky e) (St s)) (λ i. (call row.Iter (i, tt)) >>= λ keys. over_keys n' keys (Ky' e) (St' s)) (array_related R k.closed a) (λ i. k.closed.binds _ _ (call row.Iter (i, tt)) (call row.Iter (i, tt)) (λ keys. over_keys n keys (Ky e) (St s)) (λ keys. over_keys n' keys (Ky' e) (St' s)) (does_related R k.closed row.Iter (i, tt)) (λ keys. k.walking keys (Ky e) (Ky' e) (St s) (St' s) (λ key. keyed_related e key) (step_related s)))
    step_related Break = k.closed.gives _ (Broke)
    step_related Continue = k.closed.gives _ (Continued)
    step_related Next = k.closed.stops _ Nexted tt
    step_related Exit = k.closed.stops _ Exited tt
    step_related (ExitWith e) = k.closed.binds _ _ (E ([]) tt e) (E' ([]) tt e) (λ v. (settled (numbered (form_of [] e) v)) >>= λ m. (change (with_status m)) >>= λ u. stop Exited) (λ v. (settled (numbered (form_of [] e) v)) >>= λ m. (change (with_status m)) >>= λ u. stop Exited) (code_related ([]) tt e) (λ v. k.closed.binds _ _ (settled (numbered (form_of [] e) v)) (settled (numbered (form_of [] e) v)) (λ m. (change (with_status m)) >>= λ u. stop Exited) (λ m. (change (with_status m)) >>= λ u. stop Exited) (k.closed.settles _ (numbered (form_of [] e) v)) (λ m. k.closed.binds _ _ (change (with_status m)) (change (with_status m)) (λ u. stop Exited) (λ u. stop Exited) (k.closed.changes (with_status m) (still_record (with_status m) (λ state t. refl) (λ state. refl) (λ state. refl) (λ state. refl))) (λ u. k.closed.stops _ Exited tt)))
    step_related (Return e) = k.closed.binds _ _ (E ([]) tt e) (E' ([]) tt e) (λ v. stop (Returned (boxed (form_of [] e) v))) (λ v. stop (Returned (boxed (form_of [] e) v))) (code_related ([]) tt e) (λ v. k.closed.stops _ (Returned (boxed (form_of [] e) v)) tt)
    step_related (Mark i b) = k.closed.binds _ _ (change (with_range i b)) (change (with_range i b)) (λ u. give (Normal)) (λ u. give (Normal)) (k.closed.changes (with_range i b) (still_record (with_range i b) (λ state t. refl) (λ state. refl) (λ state. refl) (λ state. refl))) (λ u. k.closed.gives _ (Normal))

    pub steps_related : (ss : Steps) → R Flow (all_stepped texts parameters n calls ss) (all_stepped texts parameters n' calls' ss)
    steps_related NoStep = k.closed.gives _ Normal
    steps_related (Then s ss) = k.closed.binds _ _ (St s) (St' s) (λ flow. after flow (Sts ss)) (λ flow. after flow (Sts' ss)) (step_related s) (λ flow. after_related R k.closed flow (Sts ss) (Sts' ss) (steps_related ss))

-- Assignments of the command line, and the parts of a run.

pub record ClosedRun (R : Relation) : Type 1 where
  pub closed : Closed R
  pub records : (m m' : Execution (Unit {0})) → R (Unit {0}) m m' → R (Unit {0}) (for_record m) (for_record m')
  pub parts : (m m' : Execution (Unit {0})) → R (Unit {0}) m m' → R (Unit {0}) (part m) (part m')

-- calls, of which each has cost a turn: what holds of a call that has
pub record ClosedCalls (R Q : Relation) : Type 1 where
  pub entries : (locals : List Local) (body body' : Execution Flow) → R Flow body body' → Q Value (entered locals body) (entered locals body')
  pub costs : (m m' : Execution Value) → Q Value m m' → R Value (spend >> m) (spend >> m')
  pub none_left : Q Value (stop OutOfTurns) (stop OutOfTurns)

-- with this fuel and that
pub record FuelledRun (R : Relation) (n n' : ℕ) : Type 1 where
  pub run : ClosedRun R
  pub first : R (Unit {0}) (first_assigned n) (first_assigned n')
  pub reading : (items items' : Execution (Unit {0})) → R (Unit {0}) items items' → R (Unit {0}) (records_done n items) (records_done n' items')

module _ (R : Relation) (c : Closed R) where
  pub pending_related : R (Unit {0}) assign_pending assign_pending
  pending_related =
      c.binds _ _ (call row.PendingName tt) (call row.PendingName tt) (λ i. call row.PendingValue tt >>= λ v. change (with_global i v)) (λ i. call row.PendingValue tt >>= λ v. change (with_global i v)) (does_related R c row.PendingName tt)
      (λ i. c.binds _ _ (call row.PendingValue tt) (call row.PendingValue tt) (λ v. change (with_global i v)) (λ v. change (with_global i v)) (does_related R c row.PendingValue tt) (λ v. global_related R c i v))

  pub announced_related : (ns : List Name) → R (Unit {0}) (announced ns) (announced ns)
  announced_related [] = c.gives _ tt
  announced_related (x ∷ ns) = c.binds _ _ (call row.Declare (x.name, (kind_of x.is_array, tt))) (call row.Declare (x.name, (kind_of x.is_array, tt))) (λ u. announced ns) (λ u. announced ns) (does_related R c row.Declare (x.name, (kind_of x.is_array, tt))) (λ u. announced_related ns)

  pub arrays_related : (ns : List Name) → R (Unit {0}) (arrays_made ns) (arrays_made ns)
  arrays_related [] = c.gives _ tt
  arrays_related (x ∷ ns) = c.binds _ _ (if x.is_array then (call row.NewArray tt >> nothing) else nothing) (if x.is_array then (call row.NewArray tt >> nothing) else nothing) (λ u. arrays_made ns) (λ u. arrays_made ns)
      (chosen_related R c x.is_array (call row.NewArray tt >> nothing) (call row.NewArray tt >> nothing) nothing nothing (c.binds _ _ (call row.NewArray tt) (call row.NewArray tt) (λ u. nothing) (λ u. nothing) (does_related R c row.NewArray tt) (λ u. c.gives _ tt)) (c.gives _ tt)) (λ u. arrays_related ns)

-- a whole run of a program
module _ (R : Relation) (n n' : ℕ) (k : FuelledRun R n n') (globals functions : List Name) (reads : Bool) (begin begin' items items' end end' : Execution (Unit {0}))
    (b : R (Unit {0}) begin begin') (i : R (Unit {0}) items items') (e : R (Unit {0}) end end') where
  abbrev ps : Parts
  ps = record { globals = globals; functions = functions; begin = begin; reads = reads; items = items; end = end }

  abbrev ps' : Parts
  ps' = record { globals = globals; functions = functions; begin = begin'; reads = reads; items = items'; end = end' }

  abbrev middle : Execution (Unit {0})
  middle = part (begin >> if reads then records_done n items else nothing)

  abbrev middle' : Execution (Unit {0})
  middle' = part (begin' >> if reads then records_done n' items' else nothing)

  middle_related : R (Unit {0}) middle middle'
  middle_related = k.run.parts (begin >> if reads then records_done n items else nothing) (begin' >> if reads then records_done n' items' else nothing)
      (k.run.closed.binds _ _ begin begin' (λ u. if reads then records_done n items else nothing) (λ u. if reads then records_done n' items' else nothing) b
      (λ u. chosen_related R k.run.closed reads (records_done n items) (records_done n' items') nothing nothing (k.reading items items' i) (k.run.closed.gives _ tt)))

  abbrev last : Execution (Unit {0})
  last = call row.BeginEnd tt >> part end

  abbrev last' : Execution (Unit {0})
  last' = call row.BeginEnd tt >> part end'

  last_related : R (Unit {0}) last last'
  last_related = k.run.closed.binds _ _ (call row.BeginEnd tt) (call row.BeginEnd tt) (λ u. part end) (λ u. part end') (does_related R k.run.closed row.BeginEnd tt) (λ u. k.run.parts end end' e)

  pub parts_related : R (Unit {0}) (all_parts n ps) (all_parts n' ps')
  parts_related =
      let c = k.run.closed in
      c.binds _ _ (announced globals) (announced globals) (λ u. announced functions >> arrays_made globals >> first_assigned n >> middle >> last) (λ u. announced functions >> arrays_made globals >> first_assigned n' >> middle' >> last') (announced_related R c globals)
      (λ u. c.binds _ _ (announced functions) (announced functions) (λ v. arrays_made globals >> first_assigned n >> middle >> last) (λ v. arrays_made globals >> first_assigned n' >> middle' >> last') (announced_related R c functions)
      (λ v. c.binds _ _ (arrays_made globals) (arrays_made globals) (λ w. first_assigned n >> middle >> last) (λ w. first_assigned n' >> middle' >> last') (arrays_related R c globals)
      (λ w. c.binds _ _ (first_assigned n) (first_assigned n') (λ x. middle >> last) (λ x. middle' >> last') k.first
      (λ x. c.binds _ _ middle middle' (λ y. last) (λ y. last') middle_related (λ y. last_related)))))

-- The same fuel on both sides: what keeps running out of turns keeps loops.

module _ (R : Relation) (c : Closed R) (outs : (A : Type 0) → R A (stop OutOfTurns) (stop OutOfTurns)) where
  pub pending_or : {A : Type 0} (m m' : Execution A) (go : InputAnswer → Execution A) → R A m m' → ((a : InputAnswer) → R A (go a) (go a)) → (a : InputAnswer) → R A (unless_pending m go a) (unless_pending m' go a)
  pending_or m m' go p h input.Pending = p
  pending_or m m' go p h input.End = h input.End
  pending_or m m' go p h input.Read = h input.Read
  pending_or m m' go p h input.Failed = h input.Failed

  pub asked_same : (n : ℕ) (ask ask' : Execution InputAnswer) → R InputAnswer ask ask' → R InputAnswer (asked n ask) (asked n ask')
  unfolding asked
  asked_same zero ask ask' p = c.binds _ _ ask ask' (unless_pending (stop OutOfTurns) give) (unless_pending (stop OutOfTurns) give) p (pending_or (stop OutOfTurns) (stop OutOfTurns) give (outs _) (λ a. c.gives _ a))
  asked_same (suc n) ask ask' p =
      c.binds _ _ ask ask' (unless_pending (spend >> assign_pending >> asked n ask) give) (unless_pending (spend >> assign_pending >> asked n ask') give) p
      (pending_or (spend >> assign_pending >> asked n ask) (spend >> assign_pending >> asked n ask') give
      (c.binds _ _ spend spend (λ u. assign_pending >> asked n ask) (λ u. assign_pending >> asked n ask') c.spends (λ u. c.binds _ _ assign_pending assign_pending (λ v. asked n ask) (λ v. asked n ask') (pending_related R c) (λ v. asked_same n ask ask' p)))
      (λ a. c.gives _ a))

  pub loop_same : (n : ℕ) (test test' : Execution Bool) (body body' : Execution Flow) (step step' : Execution (Unit {0})) → R Bool test test' → R Flow body body' → R (Unit {0}) step step' → R Flow (loop n test body step) (loop n test' body' step')
  unfolding loop
  loop_same zero test test' body body' step step' p q r = outs _
  loop_same (suc n) test test' body body' step step' p q r =
      c.binds _ _ spend spend (λ u. test >>= λ b. if b then (body >>= λ flow. after_round flow (step >> loop n test body step)) else give Normal) (λ u. test' >>= λ b. if b then (body' >>= λ flow. after_round flow (step' >> loop n test' body' step')) else give Normal) c.spends
      (λ u. c.binds _ _ test test' (λ b. if b then (body >>= λ flow. after_round flow (step >> loop n test body step)) else give Normal) (λ b. if b then (body' >>= λ flow. after_round flow (step' >> loop n test' body' step')) else give Normal) p
      (λ b. chosen_related R c b (body >>= λ flow. after_round flow (step >> loop n test body step)) (body' >>= λ flow. after_round flow (step' >> loop n test' body' step')) (give Normal) (give Normal)
      (c.binds _ _ body body' (λ flow. after_round flow (step >> loop n test body step)) (λ flow. after_round flow (step' >> loop n test' body' step')) q
      (λ flow. round_related R c flow (step >> loop n test body step) (step' >> loop n test' body' step') (c.binds _ _ step step' (λ v. loop n test body step) (λ v. loop n test' body' step') r (λ v. loop_same n test test' body body' step step' p q r))))
      (c.gives _ Normal)))

  pub key_or : (go go' : Value → Execution Flow) → ((key : Value) → R Flow (go key) (go' key)) → (o : Option Value) → R Flow (at_key go o) (at_key go' o)
  key_or go go' h None = c.gives _ Normal
  key_or go go' h (Some key) = c.binds _ _ spend spend (λ u. go key) (λ u. go' key) c.spends (λ u. h key)

  pub keys_same : (n : ℕ) (keys : ℕ) (store store' : Value → Execution (Unit {0})) (body body' : Execution Flow) → ((key : Value) → R (Unit {0}) (store key) (store' key)) → R Flow body body' → R Flow (over_keys n keys store body) (over_keys n keys store' body')
  unfolding over_keys
  keys_same zero keys store store' body body' p q = c.binds _ _ (call row.IterNext (keys, tt)) (call row.IterNext (keys, tt)) (at_key (λ key. stop OutOfTurns)) (at_key (λ key. stop OutOfTurns)) (does_related R c row.IterNext (keys, tt)) (key_or (λ key. stop OutOfTurns) (λ key. stop OutOfTurns) (λ key. outs _))
  keys_same (suc n) keys store store' body body' p q =
      c.binds _ _ (call row.IterNext (keys, tt)) (call row.IterNext (keys, tt)) (at_key (λ key. store key >> body >>= λ flow. after_round flow (over_keys n keys store body))) (at_key (λ key. store' key >> body' >>= λ flow. after_round flow (over_keys n keys store' body'))) (does_related R c row.IterNext (keys, tt))
      (key_or (λ key. store key >> body >>= λ flow. after_round flow (over_keys n keys store body)) (λ key. store' key >> body' >>= λ flow. after_round flow (over_keys n keys store' body'))
      (λ key. c.binds _ _ (store key) (store' key) (λ u. body >>= λ flow. after_round flow (over_keys n keys store body)) (λ u. body' >>= λ flow. after_round flow (over_keys n keys store' body')) (p key)
      (λ u. c.binds _ _ body body' (λ flow. after_round flow (over_keys n keys store body)) (λ flow. after_round flow (over_keys n keys store' body')) q
      (λ flow. round_related R c flow (over_keys n keys store body) (over_keys n keys store' body') (keys_same n keys store store' body body' p q)))))

  pub assignment_or : (go go' : Execution (Unit {0})) → R (Unit {0}) go go' → (a : AssignAnswer) → R (Unit {0}) (on_assignment go a) (on_assignment go' a)
  assignment_or go go' p assign.Pending = c.binds _ _ spend spend (λ u. go) (λ u. go') c.spends (λ u. p)
  assignment_or go go' p assign.NoneLeft = c.gives _ tt

  pub first_same : (n : ℕ) → R (Unit {0}) (first_assigned n) (first_assigned n)
  unfolding first_assigned
  first_same zero = c.binds _ _ (asks row.StartAssign tt) (asks row.StartAssign tt) (on_assignment (stop OutOfTurns)) (on_assignment (stop OutOfTurns)) (asks_related R c row.StartAssign tt) (assignment_or (stop OutOfTurns) (stop OutOfTurns) (outs _))
  first_same (suc n) = c.binds _ _ (asks row.StartAssign tt) (asks row.StartAssign tt) (on_assignment (assign_pending >> first_assigned n)) (on_assignment (assign_pending >> first_assigned n)) (asks_related R c row.StartAssign tt)
      (assignment_or (assign_pending >> first_assigned n) (assign_pending >> first_assigned n) (c.binds _ _ assign_pending assign_pending (λ u. first_assigned n) (λ u. first_assigned n) (pending_related R c) (λ u. first_same n)))

  pub input_or : (read read' pend pend' : Execution (Unit {0})) → R (Unit {0}) read read' → R (Unit {0}) pend pend' → (a : InputAnswer) → R (Unit {0}) (on_input read pend a) (on_input read' pend' a)
  input_or read read' pend pend' p q input.Read = c.binds _ _ spend spend (λ u. read) (λ u. read') c.spends (λ u. p)
  input_or read read' pend pend' p q input.Pending = c.binds _ _ spend spend (λ u. pend) (λ u. pend') c.spends (λ u. q)
  input_or read read' pend pend' p q input.End = c.gives _ tt
  input_or read read' pend pend' p q input.Failed = c.gives _ tt

  pub records_same : ((m m' : Execution (Unit {0})) → R (Unit {0}) m m' → R (Unit {0}) (for_record m) (for_record m')) → (n : ℕ) (items items' : Execution (Unit {0})) → R (Unit {0}) items items' → R (Unit {0}) (records_done n items) (records_done n items')
  unfolding records_done
  records_same h zero items items' p = c.binds _ _ (asks row.NextMain tt) (asks row.NextMain tt) (on_input (stop OutOfTurns) (stop OutOfTurns)) (on_input (stop OutOfTurns) (stop OutOfTurns)) (asks_related R c row.NextMain tt) (input_or (stop OutOfTurns) (stop OutOfTurns) (stop OutOfTurns) (stop OutOfTurns) (outs _) (outs _))
  records_same h (suc n) items items' p =
      c.binds _ _ (asks row.NextMain tt) (asks row.NextMain tt) (on_input (for_record items >> records_done n items) (assign_pending >> records_done n items)) (on_input (for_record items' >> records_done n items') (assign_pending >> records_done n items')) (asks_related R c row.NextMain tt)
      (input_or (for_record items >> records_done n items) (for_record items' >> records_done n items') (assign_pending >> records_done n items) (assign_pending >> records_done n items')
      (c.binds _ _ (for_record items) (for_record items') (λ u. records_done n items) (λ u. records_done n items') (h items items' p) (λ u. records_same h n items items' p))
      (c.binds _ _ assign_pending assign_pending (λ u. records_done n items) (λ u. records_done n items') (pending_related R c) (λ u. records_same h n items items' p)))

-- so they hold of each program with the same fuel
module _ (R Q : Relation) (k : ClosedRun R) (q : ClosedCalls R Q) (outs : (A : Type 0) → R A (stop OutOfTurns) (stop OutOfTurns)) where
  pub fuelled_same : (n : ℕ) (calls : Calls) → ((f : ℕ) (locals : List Local) → Q Value (calls f locals) (calls f locals)) → Fuelled R n n calls calls
  fuelled_same n calls h = record {
    closed = k.closed;
    asking = asked_same R k.closed outs n;
    looping = loop_same R k.closed outs n;
    walking = keys_same R k.closed outs n;
    calling = λ f locals. q.costs (calls f locals) (calls f locals) (h f locals);
  }

  pub called_same_fuel : (p : Program) (n : ℕ) (f : ℕ) (locals : List Local) → Q Value (mid_called p n f locals) (mid_called p n f locals)
  unfolding mid_called
  called_same_fuel p zero f locals = q.none_left
  called_same_fuel p (suc n) f locals =
      q.entries locals (all_stepped p.texts (calls_of p) n (mid_called p n) (routine_at p.routines f).body) (all_stepped p.texts (calls_of p) n (mid_called p n) (routine_at p.routines f).body)
      (steps_related R p.texts (calls_of p) n n (mid_called p n) (mid_called p n) (fuelled_same n (mid_called p n) (called_same_fuel p n)) (routine_at p.routines f).body)

  pub done_same_fuel : (p : Program) (n : ℕ) (ss : Steps) → R (Unit {0}) (mid_done p n ss) (mid_done p n ss)
  done_same_fuel p n ss = k.closed.binds _ _ (all_stepped p.texts (calls_of p) n (mid_called p n) ss) (all_stepped p.texts (calls_of p) n (mid_called p n) ss) (λ u. nothing) (λ u. nothing)
      (steps_related R p.texts (calls_of p) n n (mid_called p n) (mid_called p n) (fuelled_same n (mid_called p n) (called_same_fuel p n)) ss) (λ u. k.closed.gives _ tt)

  pub run_same_fuel : (p : Program) (n : ℕ) → R (Unit {0}) (all_parts n (mid_parts n p)) (all_parts n (mid_parts n p))
  run_same_fuel p n = parts_related R n n (record { run = k; first = first_same R k.closed outs n; reading = records_same R k.closed outs k.records n }) (map global_name p.globals) (map routine_name p.routines) p.reads
      (mid_done p n p.begin) (mid_done p n p.begin) (mid_done p n p.items) (mid_done p n p.items) (mid_done p n p.end) (mid_done p n p.end) (done_same_fuel p n p.begin) (done_same_fuel p n p.items) (done_same_fuel p n p.end)
