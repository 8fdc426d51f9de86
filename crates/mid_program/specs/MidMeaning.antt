-- The meaning of mid code, by its syntax. It does not ask which names are unboxed, nor whether what was kept is moved or copied.
use Rattle.std.specs.Prelude.{◌≡◌, ℕ, zero, suc, Bool, true, false, not, if◌then◌else◌, List, [], ◌∷◌, map, Option, Some, None, Result, Ok, Err, ℤ, get_or}
use Rattle.awk_values.specs.Operators.{Outcome as Checked, is_zero, sum, difference, product, quotient, remainder, truncated_quotient}
use Rattle.awk_values.specs.Values.{truth_of_value}
use Rattle.awk_values.specs.declared.fault.Fault.{Fault}
use Rattle.awk_values.specs.declared.value.Value.{Value}
use Rattle.awk_values.specs.declared.value.Value.TheVariants as value
use Rattle.world_core.specs.WorldState.{Outside, Source}
use Rattle.sem_primitives.specs.Constants.{InConstant, constant_at}
use Rattle.sem_primitives.specs.Jobs.{JobForm}
use Rattle.sem_primitives.specs.Numbers.{Number as AnyNumber, number_of, outcome_of}
use Rattle.sem_primitives.specs.Sorts.{In, InArgument, Row, InAnswer}
use Rattle.sem_primitives.specs.ValueMeaning.{number_of_row}
use Rattle.sem_primitives.specs.declared.answers.InputAnswer.{InputAnswer}
use Rattle.sem_primitives.specs.declared.answers.InputAnswer.TheVariants as input
use Rattle.sem_primitives.specs.declared.constants.Destination.TheVariants.{Standard}
use Rattle.sem_primitives.specs.declared.constants.NameKind.TheVariants as kind
use Rattle.sem_primitives.specs.declared.constants.Special.TheVariants.{Nf}
use Rattle.sem_primitives.specs.declared.sorts.Constant.{Constant}
use Rattle.sem_primitives.specs.declared.sorts.Constant.TheVariants as constant
use Rattle.sem_primitives.specs.declared.sorts.Sort.{Sort}
use Rattle.sem_primitives.specs.declared.sorts.Sort.TheVariants as sort
use Rattle.sem_primitives.specs.declared.sorts.Argument.{Argument}
use Rattle.sem_primitives.specs.declared.sorts.Argument.TheVariants as argument
use Rattle.sem_primitives.specs.declared.sorts.Answer.{Answer}
use Rattle.sem_primitives.specs.declared.sorts.Answer.TheVariants as answer
use Rattle.sem_primitives.specs.declared.table.Primitive.TheVariants as row
use Rattle.awk_values.specs.declared.comparison.CompareOp.TheVariants.{Equal}
use Rattle.awk_values.specs.declared.fault.Fault.TheVariants.{Range}
use Rattle.mid_program.specs.declared.mid.Arithmetic.{Arithmetic}
use Rattle.mid_program.specs.declared.mid.Arithmetic.TheVariants as inline
use Rattle.mid_program.specs.declared.mid.Operation.{Operation}
use Rattle.mid_program.specs.declared.mid.Operation.TheVariants.{Host, Inline, AsNumber, FieldNumber}
use Rattle.sem_scripts.specs.ScriptState.{Local, Scalar, Array as ArrayOf, Nexted, Exited, Returned, OutOfTurns, Execution, ◌>>=◌, ◌>>◌, give, nothing, stop, look, change, settled, call, call_listed, asks, spend, global_value, local_value, with_global, with_local, with_range}
use Rattle.sem_scripts.specs.Steps.{numeric, zero_number, one_number, truth_number, truth_value, input_number, stream_number, field_checked, array_number, compared}
use Rattle.sem_scripts.specs.Meaning.{Calls, asked}
use Rattle.sem_scripts.specs.Statements.{Flow, Normal, Broke, Continued, after, after_round, loop, over_keys, with_status, entered}
use Rattle.sem_scripts.specs.Items.{range_open}
use Rattle.sem_scripts.specs.ScriptRun.{Ending, Parts, Setting, setting_of, run_with, resolved_run}
use Rattle.sem_scripts.specs.Names.{Name, Resolved}
use Rattle.mid_program.specs.Mid.{Kind, Boxed, Unboxed, ArrayKind, Slot, Global, Parameter, Code, Do, Over, Compare, Call, Ask, AskLine, FileLine, Replace, Number, Text, Unset, Get, Set, Array, IsOpen, Choose, Seq, Let, Bound, Codes, End, At, Fixed, Fresh, Step, Eval, Block, If, Loop, Each, Break, Continue, Next, Exit, ExitWith, Return, Mark, Steps, NoStep, Then, Declared, Routine, Program, Form, PrimitiveAnswer, NumberOrText, OptionalNumber, a_value, answer_by, read_form, slot_form, form_at, form_of, arguments, parameters_at}
use Rattle.mid_program.specs.Sorted.{calls_of, is_many}

abbrev pub arithmetic_of : Arithmetic → ℤ → ℤ → Checked
arithmetic_of inline.Plus = sum
arithmetic_of inline.Minus = difference
arithmetic_of inline.Times = product
arithmetic_of inline.Over = quotient
arithmetic_of inline.Modulo = remainder
arithmetic_of inline.Truncated = truncated_quotient

-- what is there, by its form: an unboxed name has lost nothing of its value
abbrev pub Holds : Form → Type 0
Holds (PrimitiveAnswer a) = InAnswer a
Holds NumberOrText = Value
Holds OptionalNumber = Option AnyNumber

-- Where code is not well sorted there is a blank in the place of what is wanted.

abbrev pub blank_constant : (c : Constant) → InConstant c
blank_constant constant.Comparison = Equal
blank_constant constant.Special = Nf
blank_constant constant.Flag = false
blank_constant constant.Fault = Range
blank_constant constant.Destination = Standard
blank_constant constant.NameKind = kind.Scalar
blank_constant constant.Count = 0

abbrev pub blank_in : (s : Sort) → In s
blank_in sort.Value = value.Uninit
blank_in sort.Number = zero_number
blank_in sort.Array = 0
blank_in sort.Iterator = 0

abbrev pub blank : (a : Argument) → InArgument a
blank (argument.Of s) = blank_in s
blank (argument.Constant c) = blank_constant c
blank argument.Place = []

abbrev pub blanks : (wanted : List Argument) → Row wanted
blanks [] = tt
blanks (a ∷ rest) = (blank a, blanks rest)

abbrev pub or_constant : (c : Constant) → Option (InConstant c) → InConstant c
or_constant c (Some x) = x
or_constant c None = blank_constant c

abbrev pub or_zero : Option AnyNumber → AnyNumber
or_zero (Some n) = n
or_zero None = zero_number

-- Conversions: by the form that there is and the sort that is wanted.

abbrev pub or_unset : Option AnyNumber → Value
or_unset (Some n) = numeric n
or_unset None = value.Uninit

-- the value that an answer is, or that is made of it
abbrev pub boxed_answer : (have : Answer) → InAnswer have → Value
boxed_answer (answer.Of sort.Value) x = x
boxed_answer (answer.Of sort.Number) x = numeric x
boxed_answer answer.Truth x = truth_value x
boxed_answer _ x = value.Uninit

abbrev pub boxed : (have : Form) → Holds have → Value
boxed (PrimitiveAnswer a) x = boxed_answer a x
boxed NumberOrText x = x
boxed OptionalNumber x = or_unset x

abbrev pub numbered_answer : (have : Answer) → InAnswer have → Result AnyNumber Fault
numbered_answer (answer.Of sort.Value) x = number_of_row x
numbered_answer (answer.Of sort.Number) x = Ok x
numbered_answer answer.Truth x = Ok (truth_number x)
numbered_answer answer.Input x = Ok (input_number x)
numbered_answer answer.Stream x = Ok (stream_number x)
numbered_answer _ x = Ok zero_number

abbrev pub numbered : (have : Form) → Holds have → Result AnyNumber Fault
numbered (PrimitiveAnswer a) x = numbered_answer a x
numbered NumberOrText x = number_of_row x
numbered OptionalNumber x = Ok (or_zero x)

abbrev pub array_in : (have : Form) → Holds have → ℕ
array_in (PrimitiveAnswer (answer.Of sort.Array)) x = x
array_in _ x = 0

abbrev pub converted : (have : Form) (want : Sort) → Holds have → Result (In want) Fault
converted have sort.Value x = Ok (boxed have x)
converted have sort.Number x = numbered have x
converted have sort.Array x = Ok (array_in have x)
converted have sort.Iterator x = Ok 0

-- the truth of an answer
abbrev pub truth_in : (have : Form) → Holds have → Bool
truth_in (PrimitiveAnswer (answer.Of sort.Value)) x = truth_of_value x
truth_in (PrimitiveAnswer (answer.Of sort.Number)) x = not (is_zero x.number)
truth_in (PrimitiveAnswer answer.Truth) x = x
truth_in NumberOrText x = truth_of_value x
truth_in OptionalNumber x = truth_of_value (or_unset x)
truth_in _ x = false

-- What is kept.

abbrev pub Env : List Form → Type 0
Env [] = Unit {0}
Env (f ∷ fs) = Holds f × Env fs

abbrev pub held : (fs : List Form) → Env fs → (i : ℕ) → Holds (form_at fs i)
held [] env i = tt
held (f ∷ fs) env zero = env.0
held (f ∷ fs) env (suc i) = held fs env.1 i

-- Operands.

abbrev pub Values : List Form → Codes → Type 0
Values fs End = Unit {0}
Values fs (At e es) = Holds (form_of fs e) × Values fs es
Values fs (Fixed n es) = Values fs es
Values fs (Fresh es) = ℕ × Values fs es

abbrev pub then_row : {A B : Type 0} → Result A Fault → (A → Result B Fault) → Result B Fault
then_row (Ok a) f = f a
then_row (Err fault) f = Err fault

-- once all operands are evaluated, they are converted from left to right
abbrev pub row_of : (fs : List Form) (wanted : List Argument) (es : Codes) → Values fs es → Result (Row wanted) Fault
row_of fs [] es vs = Ok tt
row_of fs (argument.Of s ∷ rest) (At e es) vs = then_row (converted (form_of fs e) s vs.0) (λ x. then_row (row_of fs rest es vs.1) (λ xs. Ok (x, xs)))
row_of fs (argument.Constant c ∷ rest) (Fixed n es) vs = then_row (row_of fs rest es vs) (λ xs. Ok (or_constant c (constant_at c n), xs))
row_of fs wanted es vs = Ok (blanks wanted)

abbrev pub listing : (fs : List Form) (es : Codes) → Values fs es → List Value
listing fs End vs = []
listing fs (At e es) vs = boxed (form_of fs e) vs.0 ∷ listing fs es vs.1
listing fs (Fixed n es) vs = listing fs es vs
listing fs (Fresh es) vs = listing fs es vs.1

-- what a call is given
abbrev pub local_of : Kind → (have : Form) → Holds have → Local
local_of Boxed have x = Scalar (boxed have x)
local_of Unboxed have x = Scalar (boxed have x)
local_of ArrayKind have x = ArrayOf (array_in have x)

abbrev pub fresh_of : Kind → ℕ → Local
fresh_of Boxed i = Scalar value.Uninit
fresh_of Unboxed i = Scalar value.Uninit
fresh_of ArrayKind i = ArrayOf i

abbrev pub locals_of : (fs : List Form) → List Kind → (es : Codes) → Values fs es → List Local
locals_of fs [] es vs = []
locals_of fs (k ∷ ks) End vs = []
locals_of fs (k ∷ ks) (At e es) vs = local_of k (form_of fs e) vs.0 ∷ locals_of fs ks es vs.1
locals_of fs (k ∷ ks) (Fixed n es) vs = locals_of fs (k ∷ ks) es vs
locals_of fs (k ∷ ks) (Fresh es) vs = fresh_of k vs.0 ∷ locals_of fs ks es vs.1

-- Scalars: a number in an unboxed name is that number's value.

abbrev pub read_as : (u : Bool) → Value → Holds (read_form u)
read_as true v = v
read_as false v = v

abbrev pub read_slot : (x : Slot) → Execution (Holds (slot_form x))
read_slot (Global u i) = look (λ state. read_as u (global_value i state))
read_slot (Parameter u i) = look (λ state. read_as u (local_value i state))

abbrev pub store_slot : Slot → Value → Execution (Unit {0})
store_slot (Global u i) v = change (with_global i v)
store_slot (Parameter u i) v = change (with_local i v)

-- what an operation does with a row of its arguments
abbrev pub operated : (o : Operation) → Row (arguments o) → Execution (InAnswer (answer_by o))
operated (Host p) given = call p given
operated (Inline a) given = settled (outcome_of (arithmetic_of a given.0.number given.1.0.number))
operated AsNumber given = give given.0
operated FieldNumber given = settled (field_checked given.0)

-- where a text was read it is stored; the answer is a number
abbrev pub when_read : (Value → Execution (Unit {0})) → InputAnswer → Execution AnyNumber
when_read store input.Read = call row.Line tt >>= λ text. store text >> give one_number
when_read store answer = give (input_number answer)

-- the new text is stored where there is one
abbrev pub when_replaced : (Value → Execution (Unit {0})) → AnyNumber → Execution AnyNumber
when_replaced store count = (if is_zero count.number then nothing else (call row.SubResult tt >>= store)) >> give count

abbrev pub three_values : List Argument
three_values = argument.Of sort.Value ∷ argument.Of sort.Value ∷ argument.Of sort.Value ∷ []

abbrev pub replacing : Bool → Row three_values → Execution AnyNumber
replacing all given = call row.Sub (given.0, (given.1.0, (given.1.1.0, (all, tt))))

module _ (texts : List (List ℕ)) (parameters : List (List Kind)) (n : ℕ) (calls : Calls) where
  unfoldable mutual
    pub evaluated : (fs : List Form) → Env fs → (e : Code) → Execution (Holds (form_of fs e))
    evaluated fs env (Do o es) = all_evaluated fs env es >>= λ vs. settled (row_of fs (arguments o) es vs) >>= λ given. operated o given
    evaluated fs env (Over l es) = all_evaluated fs env es >>= λ vs. call_listed l (listing fs es vs)
    evaluated fs env (Compare c a b) = evaluated fs env a >>= λ x. evaluated fs env b >>= λ y. compared c (boxed (form_of fs a) x) (boxed (form_of fs b) y)
    evaluated fs env (Call f es) = all_evaluated fs env es >>= λ vs. spend >> calls f (locals_of fs (parameters_at parameters f) es vs)
    evaluated fs env Ask = asked n (asks row.Getline tt) >>= λ answer. give (input_number answer)
    evaluated fs env (AskLine s) = asked n (asks row.GetlineVar tt) >>= when_read (λ text. evaluated (a_value ∷ fs) (text, env) s >> nothing)
    evaluated fs env (FileLine e s) = evaluated fs env e >>= λ file. call row.GetlineVarFile (boxed (form_of fs e) file, tt)
        >>= when_read (λ text. evaluated (a_value ∷ fs) (text, env) s >> nothing)
    evaluated fs env (Replace all es s) = all_evaluated fs env es >>= λ vs. settled (row_of fs three_values es vs) >>= λ given. replacing all given
        >>= when_replaced (λ text. evaluated (a_value ∷ fs) (text, env) s >> nothing)
    evaluated fs env (Number z) = give (or_zero (number_of z))
    evaluated fs env (Text i) = give (value.Text (get_or texts i []))
    evaluated fs env Unset = give None
    evaluated fs env (Get x) = read_slot x
    evaluated fs env (Set x e) = evaluated fs env e >>= λ v. store_slot x (boxed (form_of fs e) v) >> give v
    evaluated fs env (Array a) = array_number a
    evaluated fs env (IsOpen i) = look (range_open i)
    evaluated fs env (Choose s c a b) = evaluated fs env c
        >>= λ v. if truth_in (form_of fs c) v then (evaluated fs env a >>= λ x. settled (converted (form_of fs a) s x)) else
        (evaluated fs env b >>= λ x. settled (converted (form_of fs b) s x))
    evaluated fs env (Seq a b) = evaluated fs env a >> evaluated fs env b
    evaluated fs env (Let a b) = evaluated fs env a >>= λ x. evaluated (form_of fs a ∷ fs) (x, env) b
    evaluated fs env (Bound m i) = give (held fs env i)

    pub all_evaluated : (fs : List Form) → Env fs → (es : Codes) → Execution (Values fs es)
    all_evaluated fs env End = give tt
    all_evaluated fs env (At e es) = evaluated fs env e >>= λ v. all_evaluated fs env es >>= λ vs. give (v, vs)
    all_evaluated fs env (Fixed m es) = all_evaluated fs env es
    all_evaluated fs env (Fresh es) = call row.NewArray tt >>= λ i. all_evaluated fs env es >>= λ vs. give (i, vs)

  abbrev pub holds : Code → Execution Bool
  holds e = evaluated [] tt e >>= λ v. give (truth_in (form_of [] e) v)

  abbrev pub keyed : Code → Value → Execution (Unit {0})
  keyed e key = evaluated (a_value ∷ []) (key, tt) e >> nothing

  -- a loop goes on from its test, or its first round goes without
  abbrev pub looped : Bool → Execution Bool → Execution Flow → Execution (Unit {0}) → Execution Flow
  looped true test body between = loop n test body between
  looped false test body between = body >>= λ flow. after_round flow (between >> loop n test body between)

  unfoldable mutual
    pub stepped : Step → Execution Flow
    stepped (Eval e) = evaluated [] tt e >> give Normal
    stepped (Block ss) = all_stepped ss
    stepped (If e a b) = holds e >>= λ truth. if truth then stepped a else stepped b
    stepped (Loop first e a b) = looped first (holds e) (stepped a) (stepped b >> nothing)
    stepped (Each a e s) = do
      i ← array_number a
      keys ← call row.Iter (i, tt)
      over_keys n keys (keyed e) (stepped s)
    stepped Break = give Broke
    stepped Continue = give Continued
    stepped Next = stop Nexted
    stepped Exit = stop Exited
    stepped (ExitWith e) = do
      v ← evaluated [] tt e
      m ← settled (numbered (form_of [] e) v)
      u ← change (with_status m)
      stop Exited
    stepped (Return e) = evaluated [] tt e >>= λ v. stop (Returned (boxed (form_of [] e) v))
    stepped (Mark i b) = change (with_range i b) >> give Normal

    pub all_stepped : Steps → Execution Flow
    all_stepped NoStep = give Normal
    all_stepped (Then s ss) = stepped s >>= λ flow. after flow (all_stepped ss)

-- Functions and whole programs.

abbrev pub no_routine : Routine
no_routine = record { name = []; parameters = []; body = NoStep }

abbrev pub routine_at : List Routine → ℕ → Routine
routine_at [] i = no_routine
routine_at (r ∷ rs) zero = r
routine_at (r ∷ rs) (suc i) = routine_at rs i

-- calls, at most n of which are nested; each has cost a turn
unfoldable pub mid_called : Program → ℕ → Calls
mid_called p zero f locals = stop OutOfTurns
mid_called p (suc n) f locals = entered locals (all_stepped p.texts (calls_of p) n (mid_called p n) (routine_at p.routines f).body)

abbrev pub mid_done : Program → ℕ → Steps → Execution (Unit {0})
mid_done p n ss = all_stepped p.texts (calls_of p) n (mid_called p n) ss >> nothing

abbrev pub global_name : Declared → Name
global_name d = record { name = d.name; is_array = is_many d.kind }

abbrev pub routine_name : Routine → Name
routine_name r = record { name = r.name; is_array = true }

abbrev pub mid_parts : ℕ → Program → Parts
mid_parts n p = record {
  globals = map global_name p.globals;
  functions = map routine_name p.routines;
  begin = mid_done p n p.begin;
  reads = p.reads;
  items = mid_done p n p.items;
  end = mid_done p n p.end;
}

abbrev pub mid_run_in : Program → Setting → ℕ → Ending
mid_run_in p setting turns = run_with setting turns (mid_parts turns p)

abbrev pub mid_run : Program → JobForm → Source → Outside → ℕ → Ending
mid_run p job input outside turns = mid_run_in p (setting_of job input outside) turns

-- mid code ends as a script does, with the same output, at every job, input, outside and number of turns
abbrev pub EndsAs : Program → Resolved → Type 0
EndsAs p script = (setting : Setting) (turns : ℕ) → mid_run_in p setting turns ≡ resolved_run script setting turns
