-- Nothing but a function's own steps stops by `return`: no expression does, no call, and no step that stands in no function. And whatever is done leaves as many parameters as there were.
use Rattle.std.proofs.Common.{◌≡◌, ℕ, zero, suc, Bool, true, false, List, [], ◌∷◌, length, Some, None, Option, Result, Ok, Err, refl, ap, ◌∙◌}
use Rattle.std.specs.Prelude.{if◌then◌else◌, ◌&&◌, get_or, is_some}
use Rattle.std.proofs.lemmas.Bool.{and_parts}
use Rattle.std.proofs.lemmas.List.{length-set}
use Rattle.awk_values.specs.Comparison.{comparison}
use Rattle.awk_values.specs.Operators.{is_zero}
use Rattle.awk_values.specs.declared.fault.Fault.{Fault}
use Rattle.awk_values.specs.declared.value.Value.{Value}
use Rattle.awk_values.specs.declared.value.Value.TheVariants as value
use Rattle.sem_primitives.specs.Carried.{carried_out}
use Rattle.sem_primitives.specs.Numbers.{Number as AnyNumber, number_of, outcome_of}
use Rattle.sem_primitives.specs.SharedState.{Shared, HostResult, shared_after}
use Rattle.sem_primitives.specs.Sorts.{Row, OrFault}
use Rattle.sem_primitives.specs.Table.{arguments_of, can_fault, meaning, listed_meaning}
use Rattle.sem_primitives.specs.declared.answers.InputAnswer.{InputAnswer}
use Rattle.sem_primitives.specs.declared.answers.InputAnswer.TheVariants as input
use Rattle.sem_primitives.specs.declared.table.Primitive.{Primitive}
use Rattle.sem_primitives.specs.declared.table.Primitive.TheVariants as row
use Rattle.mid_program.specs.declared.mid.Operation.{Operation}
use Rattle.mid_program.specs.declared.mid.Operation.TheVariants.{Host, Inline, AsNumber, FieldNumber}
use Rattle.mid_program.specs.Mid.{Kind, Program, Routine, Slot, Global, Parameter, Code, Do, Over, Compare, Call, Ask, AskLine, FileLine, Replace, Number, Text, Unset, Get, Set, Array, IsOpen, Choose, Seq, Let, Bound, Codes, End, At, Fixed, Fresh, Step, Eval, Block, If, Loop, Each, Break, Continue, Next, Exit, ExitWith, Return, Mark, Steps, NoStep, Then, Form, a_value, form_of, arguments, parameters_at}
use Rattle.mid_program.specs.MidMeaning.{Env, evaluated, all_evaluated, stepped, routine_at, holds, keyed, operated, locals_of, or_zero, held, read_as, read_slot, store_slot, listing, row_of, numbered, converted, truth_in, boxed, arithmetic_of, three_values, when_read, when_replaced}
use Rattle.sem_scripts.specs.Names.{ArrayName, Numbered, Given}
use Rattle.sem_scripts.specs.ScriptState.{State, CallFrame, Local, Scalar, Stop, Faulted, OutOfTurns, TooDeep, Nexted, Exited, Returned, Outcome, Gives, Stops, Execution, ◌>>=◌, ◌>>◌, go_on, give, nothing, stop, settled, or_fault, perform, call, asks, look, change, local_array, global_value, local_value, with_global, with_local, with_range, spent, spend, spend_all}
use Rattle.mid_program.specs.Sorted.{Context, calls_of, step_sorted, steps_sorted, test_sorted, is_array_place, stores_well, sorted}
use Rattle.sem_scripts.specs.Statements.{Flow, Normal, Broke, Continued, after, after_round, loop, at_key, over_keys, with_status, returned, entered_with}
use Rattle.sem_scripts.specs.Steps.{array_number, one_number, input_number, field_checked}
use Rattle.sem_scripts.specs.Items.{range_open}
use Rattle.sem_scripts.specs.ScriptRun.{next_over, for_record, on_input, records_done}
use Rattle.sem_scripts.specs.Meaning.{Calls, unless_pending, asked, assign_pending}
use Rattle.wasm_types.specs.Syntax.{Instructions, Done}
use Rattle.wasm_types.specs.declared.instr.Simple.TheVariants.{Br}
use Rattle.lower_model.specs.Emission.{Layout}
use Rattle.lower_model.specs.Functions.{layout_of, routine_bases}
use Rattle.lower_model.specs.Machine.{Notes}
use Rattle.lower_model.specs.Noted.{noting, noted, test_place, step_noted, steps_noted, noted_called, routine_rest}
use Rattle.lower_model.specs.Quick.{pair_in, step_jumps, is_nothing}
use Rattle.lower_model.specs.Small.{emit as instruction}
use Rattle.lower_model.specs.Statements.{step_emitted, steps_emitted}

abbrev pub NoReturn : {A : Type 0} → Outcome A → Type 0
NoReturn (Gives a σ) = Unit {0}
NoReturn (Stops (Returned v) σ) = ⊥
NoReturn (Stops (Faulted f) σ) = Unit {0}
NoReturn (Stops OutOfTurns σ) = Unit {0}
NoReturn (Stops TooDeep σ) = Unit {0}
NoReturn (Stops Nexted σ) = Unit {0}
NoReturn (Stops Exited σ) = Unit {0}

abbrev pub own_at : {A : Type 0} → Outcome A → CallFrame
own_at (Gives a σ) = σ.own
own_at (Stops why σ) = σ.own

-- something that is done, which never stops by `return`, and leaves as many parameters
pub record Plainly {A : Type 0} (m : Execution A) : Type 0 where
  pub at : (σ : State) → NoReturn (m σ)
  pub sized : (σ : State) → length (own_at (m σ)).locals ≡ length σ.own.locals

stops_alike : (A B : Type 0) (why : Stop) (σ : State) → NoReturn {A = A} (Stops why σ) → NoReturn {A = B} (Stops why σ)
stops_alike A B (Returned v) σ h = h
stops_alike A B (Faulted f) σ h = tt
stops_alike A B OutOfTurns σ h = tt
stops_alike A B TooDeep σ h = tt
stops_alike A B Nexted σ h = tt
stops_alike A B Exited σ h = tt

on_plainly : {A B : Type 0} → (r : Outcome A) (f : A → Execution B) → NoReturn r → ((a : A) → Plainly (f a)) → NoReturn (go_on r f)
on_plainly (Gives a σ) f h k = (k a).at σ
on_plainly {A = A} {B = B} (Stops why σ) f h k = stops_alike A B why σ h

on_sized : {A B : Type 0} → (r : Outcome A) (f : A → Execution B) (m : ℕ) → length (own_at r).locals ≡ m → ((a : A) → Plainly (f a)) → length (own_at (go_on r f)).locals ≡ m
on_sized (Gives a σ) f m e k = (k a).sized σ ∙ e
on_sized (Stops why σ) f m e k = e

pub then_plainly : {A B : Type 0} {m : Execution A} {f : A → Execution B} → Plainly m → ((a : A) → Plainly (f a)) → Plainly (m >>= f)
then_plainly {m = m} {f = f} h k = record { at = λ σ. on_plainly (m σ) f (h.at σ) k; sized = λ σ. on_sized (m σ) f (length σ.own.locals) (h.sized σ) k }

gives_plainly : {A : Type 0} → (a : A) → Plainly (give a)
gives_plainly a = record { at = λ σ. tt; sized = λ σ. refl }

pub nothing_plainly : Plainly nothing
nothing_plainly = record { at = λ σ. tt; sized = λ σ. refl }

looks_plainly : {A : Type 0} → (f : State → A) → Plainly (look f)
looks_plainly f = record { at = λ σ. tt; sized = λ σ. refl }

changes_plainly : (f : State → State) → ((σ : State) → length (f σ).own.locals ≡ length σ.own.locals) → Plainly (change f)
changes_plainly f h = record { at = λ σ. tt; sized = h }

stops_plainly : {A : Type 0} → (why : Stop) → ((σ : State) → NoReturn {A = A} (Stops why σ)) → Plainly (stop {A = A} why)
stops_plainly why h = record { at = λ σ. h σ; sized = λ σ. refl }

settled_plainly : {A : Type 0} → (r : Result A Fault) → Plainly (settled r)
settled_plainly (Ok a) = record { at = λ σ. tt; sized = λ σ. refl }
settled_plainly (Err f) = record { at = λ σ. tt; sized = λ σ. refl }

performed_plainly : {A : Type 0} → (b : Bool) (f : Shared → HostResult (OrFault b A)) → Plainly (perform b f)
performed_plainly b f = record { at = λ σ. (settled_plainly _).at _; sized = λ σ. (settled_plainly (or_fault b (f σ.shared).answer)).sized (record σ { shared = shared_after σ.shared (f σ.shared) }) }

does_plainly : (q : Primitive) (r : Row (arguments_of q)) → Plainly (call q r)
does_plainly q r = performed_plainly (can_fault q) (meaning q r)

spent_plainly : (t : ℕ) (σ : State) → NoReturn (spent t σ)
spent_plainly zero σ = tt
spent_plainly (suc t) σ = tt

spent_sized : (t : ℕ) (σ : State) → length (own_at (spent t σ)).locals ≡ length σ.own.locals
spent_sized zero σ = refl
spent_sized (suc t) σ = refl

spend_plainly : Plainly spend
spend_plainly = record { at = λ σ. spent_plainly σ.turns σ; sized = λ σ. spent_sized σ.turns σ }

all_spent_plainly : (k : ℕ) → Plainly (spend_all k)
unfolding spend_all
all_spent_plainly zero = nothing_plainly
all_spent_plainly (suc k) = then_plainly spend_plainly (λ u. all_spent_plainly k)

asks_plainly : (q : Primitive) (r : Row (arguments_of q)) → Plainly (asks q r)
asks_plainly q r = then_plainly (looks_plainly (λ state. carried_out q state.shared)) (λ k. then_plainly (all_spent_plainly k) (λ u. does_plainly q r))

pub pending_plainly : Plainly assign_pending
pending_plainly = then_plainly (does_plainly row.PendingName tt) (λ i. then_plainly (does_plainly row.PendingValue tt) (λ v. changes_plainly (with_global i v) (λ σ. refl)))

asked_plainly : (k : ℕ) (ask : Execution InputAnswer) → Plainly ask → Plainly (asked k ask)
unfolding asked
asked_plainly zero ask h = then_plainly h (λ a. by a)
  where
    by : (a : InputAnswer) → Plainly (unless_pending (stop OutOfTurns) give a)
    by input.Pending = stops_plainly OutOfTurns (λ σ. tt)
    by input.End = gives_plainly input.End
    by input.Read = gives_plainly input.Read
    by input.Failed = gives_plainly input.Failed
asked_plainly (suc k) ask h = then_plainly h (λ a. by a (asked_plainly k ask h))
  where
    by : (a : InputAnswer) → Plainly (asked k ask) → Plainly (unless_pending (spend >> assign_pending >> asked k ask) give a)
    by input.Pending r = then_plainly spend_plainly (λ u. then_plainly pending_plainly (λ v. r))
    by input.End r = gives_plainly input.End
    by input.Read r = gives_plainly input.Read
    by input.Failed r = gives_plainly input.Failed

either_plainly : {A : Type 0} → (t : Bool) (m k : Execution A) → Plainly m → Plainly k → Plainly (if t then m else k)
either_plainly true m k h g = h
either_plainly false m k h g = g

read_plainly : (s : Value → Execution (Unit {0})) → ((v : Value) → Plainly (s v)) → (a : InputAnswer) → Plainly (when_read s a)
read_plainly s h input.Read = then_plainly (does_plainly row.Line tt) (λ v. then_plainly (h v) (λ u. gives_plainly one_number))
read_plainly s h input.End = gives_plainly (input_number input.End)
read_plainly s h input.Pending = gives_plainly (input_number input.Pending)
read_plainly s h input.Failed = gives_plainly (input_number input.Failed)

replaced_plainly : (s : Value → Execution (Unit {0})) → ((v : Value) → Plainly (s v)) → (count : AnyNumber) → Plainly (when_replaced s count)
replaced_plainly s h count = then_plainly (either_plainly (is_zero count.number) nothing (call row.SubResult tt >>= s) nothing_plainly (then_plainly (does_plainly row.SubResult tt) h)) (λ u. gives_plainly count)

array_plainly : (a : ArrayName) → Plainly (array_number a)
array_plainly (Numbered i) = gives_plainly i
array_plainly (Given i) = looks_plainly (local_array i)

slot_plainly : (x : Slot) → Plainly (read_slot x)
slot_plainly (Global u i) = looks_plainly (λ σ. read_as u (global_value i σ))
slot_plainly (Parameter u i) = looks_plainly (λ σ. read_as u (local_value i σ))

stored_plainly : (x : Slot) (v : Value) → Plainly (store_slot x v)
stored_plainly (Global u i) v = changes_plainly (with_global i v) (λ σ. refl)
stored_plainly (Parameter u i) v = changes_plainly (with_local i v) (λ σ. length-set σ.own.locals i (Scalar v))

operated_plainly : (o : Operation) (r : Row (arguments o)) → Plainly (operated o r)
operated_plainly (Host q) r = does_plainly q r
operated_plainly (Inline a) r = settled_plainly (outcome_of (arithmetic_of a r.0.number r.1.0.number))
operated_plainly AsNumber r = gives_plainly r.0
operated_plainly FieldNumber r = settled_plainly (field_checked r.0)

round_plainly : (f : Flow) (m : Execution Flow) → Plainly m → Plainly (after_round f m)
round_plainly Normal m h = h
round_plainly Broke m h = gives_plainly Normal
round_plainly Continued m h = h

after_plainly : (f : Flow) (m : Execution Flow) → Plainly m → Plainly (after f m)
after_plainly Normal m h = h
after_plainly Broke m h = gives_plainly Broke
after_plainly Continued m h = gives_plainly Continued

loop_plainly : (k : ℕ) (test : Execution Bool) (body : Execution Flow) (between : Execution (Unit {0})) → Plainly test → Plainly body → Plainly between → Plainly (loop k test body between)
unfolding loop
loop_plainly zero test body between t y z = stops_plainly OutOfTurns (λ σ. tt)
loop_plainly (suc k) test body between t y z =
    then_plainly spend_plainly (λ u. then_plainly t (λ x. either_plainly x (body >>= λ flow. after_round flow (between >> loop k test body between)) (give Normal)
    (then_plainly y (λ f. round_plainly f (between >> loop k test body between) (then_plainly z (λ u. loop_plainly k test body between t y z)))) (gives_plainly Normal)))

keys_plainly : (k keys : ℕ) (store : Value → Execution (Unit {0})) (body : Execution Flow) → ((v : Value) → Plainly (store v)) → Plainly body → Plainly (over_keys k keys store body)
unfolding over_keys
keys_plainly zero keys store body s y = then_plainly (does_plainly row.IterNext (keys, tt)) (λ o. by o)
  where
    by : (o : Option Value) → Plainly (at_key (λ key. stop OutOfTurns) o)
    by None = gives_plainly Normal
    by (Some key) = then_plainly spend_plainly (λ u. stops_plainly OutOfTurns (λ σ. tt))
keys_plainly (suc k) keys store body s y = then_plainly (does_plainly row.IterNext (keys, tt)) (λ o. by o (keys_plainly k keys store body s y))
  where
    by : (o : Option Value) → Plainly (over_keys k keys store body) → Plainly (at_key (λ key. store key >> body >>= λ flow. after_round flow (over_keys k keys store body)) o)
    by None r = gives_plainly Normal
    by (Some key) r = then_plainly spend_plainly (λ u. then_plainly (s key) (λ v. then_plainly y (λ f. round_plainly f (over_keys k keys store body) r)))

module _ (texts : List (List ℕ)) (parameters : List (List Kind)) (n : ℕ) (calls : Calls) (called : (f : ℕ) (os : List Local) → Plainly (calls f os)) where
  mutual
    unfolding evaluated all_evaluated

    code_plainly : (fs : List Form) (env : Env fs) (e : Code) → Plainly (evaluated texts parameters n calls fs env e)
    code_plainly fs env (Do o es) = then_plainly (codes_plainly fs env es) (λ vs. then_plainly (settled_plainly (row_of fs (arguments o) es vs)) (λ r. operated_plainly o r))
    code_plainly fs env (Over l es) = then_plainly (codes_plainly fs env es) (λ vs. performed_plainly true (listed_meaning l (listing fs es vs)))
    code_plainly fs env (Compare c a b) = then_plainly (code_plainly fs env a) (λ x. then_plainly (code_plainly fs env b) (λ y. settled_plainly (comparison (boxed (form_of fs a) x) (boxed (form_of fs b) y) c)))
    code_plainly fs env (Call f es) = then_plainly (codes_plainly fs env es) (λ vs. then_plainly spend_plainly (λ u. called f (locals_of fs (parameters_at parameters f) es vs)))
    code_plainly fs env Ask = then_plainly (asked_plainly n (asks row.Getline tt) (asks_plainly row.Getline tt)) (λ a. gives_plainly (input_number a))
    code_plainly fs env (AskLine s) = then_plainly (asked_plainly n (asks row.GetlineVar tt) (asks_plainly row.GetlineVar tt)) (λ a. read_plainly (λ v. evaluated texts parameters n calls (a_value ∷ fs) (v, env) s >> nothing) (λ v. then_plainly (code_plainly (a_value ∷ fs) (v, env) s) (λ u. nothing_plainly)) a)
    code_plainly fs env (FileLine e s) = then_plainly (code_plainly fs env e) (λ file. then_plainly (does_plainly row.GetlineVarFile (boxed (form_of fs e) file, tt)) (λ a. read_plainly (λ v. evaluated texts parameters n calls (a_value ∷ fs) (v, env) s >> nothing) (λ v. then_plainly (code_plainly (a_value ∷ fs) (v, env) s) (λ u. nothing_plainly)) a))
    code_plainly fs env (Replace all es s) =
        then_plainly (codes_plainly fs env es) (λ vs. then_plainly (settled_plainly (row_of fs three_values es vs)) (λ r. then_plainly (does_plainly row.Sub (r.0, (r.1.0, (r.1.1.0, (all, tt))))) (λ count. replaced_plainly (λ v. evaluated texts parameters n calls (a_value ∷ fs) (v, env) s >> nothing) (λ v. then_plainly (code_plainly (a_value ∷ fs) (v, env) s) (λ u. nothing_plainly)) count)))
    code_plainly fs env (Number z) = gives_plainly (or_zero (number_of z))
    code_plainly fs env (Text i) = gives_plainly (value.Text (get_or texts i []))
    code_plainly fs env Unset = gives_plainly None
    code_plainly fs env (Get x) = slot_plainly x
    code_plainly fs env (Set x e) = then_plainly (code_plainly fs env e) (λ v. then_plainly (stored_plainly x (boxed (form_of fs e) v)) (λ u. gives_plainly v))
    code_plainly fs env (Array a) = array_plainly a
    code_plainly fs env (IsOpen i) = looks_plainly (range_open i)
    code_plainly fs env (Choose s c a b) = then_plainly (code_plainly fs env c) (λ v.
        either_plainly (truth_in (form_of fs c) v) (evaluated texts parameters n calls fs env a >>= λ x. settled (converted (form_of fs a) s x)) (evaluated texts parameters n calls fs env b >>= λ x. settled (converted (form_of fs b) s x))
        (then_plainly (code_plainly fs env a) (λ x. settled_plainly (converted (form_of fs a) s x))) (then_plainly (code_plainly fs env b) (λ x. settled_plainly (converted (form_of fs b) s x))))
    code_plainly fs env (Seq a b) = then_plainly (code_plainly fs env a) (λ u. code_plainly fs env b)
    code_plainly fs env (Let a b) = then_plainly (code_plainly fs env a) (λ x. code_plainly (form_of fs a ∷ fs) (x, env) b)
    code_plainly fs env (Bound m i) = gives_plainly (held fs env i)

    codes_plainly : (fs : List Form) (env : Env fs) (es : Codes) → Plainly (all_evaluated texts parameters n calls fs env es)
    codes_plainly fs env End = gives_plainly tt
    codes_plainly fs env (At e es) = then_plainly (code_plainly fs env e) (λ v. then_plainly (codes_plainly fs env es) (λ vs. gives_plainly (v, vs)))
    codes_plainly fs env (Fixed m es) = codes_plainly fs env es
    codes_plainly fs env (Fresh es) = then_plainly (does_plainly row.NewArray tt) (λ i. then_plainly (codes_plainly fs env es) (λ vs. gives_plainly (i, vs)))

  test_plainly : (e : Code) → Plainly (holds texts parameters n calls e)
  test_plainly e = then_plainly (code_plainly [] tt e) (λ v. gives_plainly (truth_in (form_of [] e) v))

  -- steps that stand in no function; the place of each is noted first
  module _ (notes : Notes) (y : Layout) where
    begun_plainly : {A : Type 0} {m : Execution A} → (place : Instructions) → Plainly m → Plainly (noted notes place >> m)
    begun_plainly place h = then_plainly (changes_plainly (noting notes place) (λ σ. refl)) (λ u. h)

    abbrev St : Step → (u d bk ct : ℕ) → Instructions → Execution Flow
    St s u d bk ct k = step_noted notes y texts parameters n calls s u d bk ct k

    mutual
      unfolding step_noted steps_noted stepped step_sorted steps_sorted

      step_plainly : (c : Context) (lo : Bool) (s : Step) (u d bk ct : ℕ) (k : Instructions) → step_sorted c false lo s ≡ true → Plainly (step_noted notes y texts parameters n calls s u d bk ct k)
      step_plainly c lo (Eval e) u d bk ct k so = begun_plainly _ (then_plainly (code_plainly [] tt e) (λ x. gives_plainly Normal))
      step_plainly c lo (Block ss) u d bk ct k so = begun_plainly _ (noted_plainly c lo ss u d bk ct k so)
      step_plainly c lo (If e a b) u d bk ct k so =
          let s1 = and_parts (test_sorted c e) (step_sorted c false lo a && step_sorted c false lo b) so in
          let s2 = and_parts (step_sorted c false lo a) (step_sorted c false lo b) s1.1 in
          let back = instruction (Br 1) Done in
          let far = St a u (suc (suc d)) (suc (suc bk)) (suc (suc ct)) back in
          let near = St a u (suc d) (suc bk) (suc ct) Done in
          let other = St b u (suc d) (suc bk) (suc ct) Done in
          begun_plainly _ (then_plainly (test_plainly e) (λ t. either_plainly t (if is_some (pair_in e) then far else near) other
          (either_plainly (is_some (pair_in e)) far near (step_plainly c lo a u (suc (suc d)) (suc (suc bk)) (suc (suc ct)) back s2.0) (step_plainly c lo a u (suc d) (suc bk) (suc ct) Done s2.0))
          (step_plainly c lo b u (suc d) (suc bk) (suc ct) Done s2.1)))
      step_plainly c lo (Loop true e a b) u d bk ct k so =
          let s1 = and_parts (test_sorted c e) (step_sorted c false true a && step_sorted c false false b) so in
          let s2 = and_parts (step_sorted c false true a) (step_sorted c false false b) s1.1 in
          let back = instruction (Br zero) Done in
          let rest = if is_nothing b then back else step_emitted y b u (suc (suc d)) 1 zero back in
          let far = St a u (suc (suc (suc d))) 2 zero Done in
          let near = St a u (suc (suc d)) 1 zero rest in
          let last = St b u (suc (suc d)) 1 zero back >> nothing in
          begun_plainly _ (loop_plainly n (holds texts parameters n calls e) (if step_jumps a then far else near) (if is_nothing b then nothing else last) (test_plainly e)
          (either_plainly (step_jumps a) far near (step_plainly c true a u (suc (suc (suc d))) 2 zero Done s2.0) (step_plainly c true a u (suc (suc d)) 1 zero rest s2.0))
          (either_plainly (is_nothing b) nothing last nothing_plainly (then_plainly (step_plainly c false b u (suc (suc d)) 1 zero back s2.1) (λ x. nothing_plainly))))
      step_plainly c lo (Loop false e a b) u d bk ct k so =
          let s1 = and_parts (test_sorted c e) (step_sorted c false true a && step_sorted c false false b) so in
          let s2 = and_parts (step_sorted c false true a) (step_sorted c false false b) s1.1 in
          let place = test_place y e (suc (suc d)) in
          let test = noted notes place >> holds texts parameters n calls e in
          let body = St a u (suc (suc (suc d))) 2 zero Done in
          let last = St b u (suc (suc d)) 1 zero place >> nothing in
          let x = step_plainly c true a u (suc (suc (suc d))) 2 zero Done s2.0 in
          let z : Plainly last = then_plainly (step_plainly c false b u (suc (suc d)) 1 zero place s2.1) (λ v. nothing_plainly) in
          let t : Plainly test = begun_plainly place (test_plainly e) in
          begun_plainly _ (then_plainly x (λ f. round_plainly f (last >> loop n test body last) (then_plainly z (λ v. loop_plainly n test body last t x z))))
      step_plainly c lo (Each a e s) u d bk ct k so =
          let s1 = and_parts (is_array_place c a) (stores_well [] e && (sorted c (a_value ∷ []) e && step_sorted c false true s)) so in
          let s2 = and_parts (stores_well [] e) (sorted c (a_value ∷ []) e && step_sorted c false true s) s1.1 in
          let s3 = and_parts (sorted c (a_value ∷ []) e) (step_sorted c false true s) s2.1 in
          begun_plainly _ (then_plainly (array_plainly a) (λ i. then_plainly (does_plainly row.Iter (i, tt)) (λ keys. keys_plainly n keys (keyed texts parameters n calls e) (St s (suc u) (suc (suc (suc d))) 2 zero Done)
          (λ v. then_plainly (code_plainly (a_value ∷ []) (v, tt) e) (λ x. nothing_plainly)) (step_plainly c true s (suc u) (suc (suc (suc d))) 2 zero Done s3.1))))
      step_plainly c lo Break u d bk ct k so = begun_plainly _ (gives_plainly Broke)
      step_plainly c lo Continue u d bk ct k so = begun_plainly _ (gives_plainly Continued)
      step_plainly c lo Next u d bk ct k so = begun_plainly _ (stops_plainly Nexted (λ σ. tt))
      step_plainly c lo Exit u d bk ct k so = begun_plainly _ (stops_plainly Exited (λ σ. tt))
      step_plainly c lo (ExitWith e) u d bk ct k so =
          begun_plainly _ (then_plainly (code_plainly [] tt e) (λ v. then_plainly (settled_plainly (numbered (form_of [] e) v)) (λ m. then_plainly (changes_plainly (with_status m) (λ σ. refl)) (λ x. stops_plainly Exited (λ σ. tt)))))
      step_plainly c lo (Return e) u d bk ct k so = cc
      step_plainly c lo (Mark i b) u d bk ct k so = begun_plainly _ (then_plainly (changes_plainly (with_range i b) (λ σ. refl)) (λ x. gives_plainly Normal))

      pub noted_plainly : (c : Context) (lo : Bool) (ss : Steps) (u d bk ct : ℕ) (k : Instructions) → steps_sorted c false lo ss ≡ true → Plainly (steps_noted notes y texts parameters n calls ss u d bk ct k)
      noted_plainly c lo NoStep u d bk ct k so = gives_plainly Normal
      noted_plainly c lo (Then s ss) u d bk ct k so =
          let s1 = and_parts (step_sorted c false lo s) (steps_sorted c false lo ss) so in
          then_plainly (step_plainly c lo s u d bk ct (steps_emitted y ss u d bk ct k) s1.0) (λ f. after_plainly f (steps_noted notes y texts parameters n calls ss u d bk ct k) (noted_plainly c lo ss u d bk ct k s1.1))

returned_plainly : (own : CallFrame) (r : Outcome Flow) → NoReturn (returned own r)
returned_plainly own (Gives f σ) = tt
returned_plainly own (Stops (Returned v) σ) = tt
returned_plainly own (Stops (Faulted f) σ) = tt
returned_plainly own (Stops OutOfTurns σ) = tt
returned_plainly own (Stops TooDeep σ) = tt
returned_plainly own (Stops Nexted σ) = tt
returned_plainly own (Stops Exited σ) = tt

returned_own : (own : CallFrame) (r : Outcome Flow) → own_at (returned own r) ≡ own
returned_own own (Gives f σ) = refl
returned_own own (Stops (Returned v) σ) = refl
returned_own own (Stops (Faulted f) σ) = refl
returned_own own (Stops OutOfTurns σ) = refl
returned_own own (Stops TooDeep σ) = refl
returned_own own (Stops Nexted σ) = refl
returned_own own (Stops Exited σ) = refl

entered_plainly : (room : ℕ) (os : List Local) (body : Execution Flow) (σ : State) → NoReturn (entered_with room os body σ)
entered_plainly zero os body σ = tt
entered_plainly (suc room) os body σ = returned_plainly σ.own (body (record σ { own = record { locals = os; calls_left = room } }))

entered_own : (room : ℕ) (os : List Local) (body : Execution Flow) (σ : State) → own_at (entered_with room os body σ) ≡ σ.own
entered_own zero os body σ = refl
entered_own (suc room) os body σ = returned_own σ.own (body (record σ { own = record { locals = os; calls_left = room } }))

pub called_plainly : (notes : Notes) (p : Program) (n f : ℕ) (os : List Local) → Plainly (noted_called notes p n f os)
unfolding noted_called
called_plainly notes p zero f os = stops_plainly OutOfTurns (λ σ. tt)
called_plainly notes p (suc n) f os = record { at = λ σ. entered_plainly σ.own.calls_left os body σ; sized = λ σ. ap (λ (o : CallFrame). length o.locals) (entered_own σ.own.calls_left os body σ) }
  where
    r : Routine
    r = routine_at p.routines f

    body : Execution Flow
    body = steps_noted notes (layout_of p (routine_bases r)) p.texts (calls_of p) n (noted_called notes p n) r.body zero zero zero zero (routine_rest (routine_bases r))

-- The records of the main input.

next_plainly : (r : Outcome (Unit {0})) → NoReturn r → NoReturn (next_over r)
next_plainly (Gives u σ) h = tt
next_plainly (Stops (Returned v) σ) h = h
next_plainly (Stops (Faulted f) σ) h = tt
next_plainly (Stops OutOfTurns σ) h = tt
next_plainly (Stops TooDeep σ) h = tt
next_plainly (Stops Nexted σ) h = tt
next_plainly (Stops Exited σ) h = tt

next_own : (r : Outcome (Unit {0})) → own_at (next_over r) ≡ own_at r
next_own (Gives u σ) = refl
next_own (Stops (Returned v) σ) = refl
next_own (Stops (Faulted f) σ) = refl
next_own (Stops OutOfTurns σ) = refl
next_own (Stops TooDeep σ) = refl
next_own (Stops Nexted σ) = refl
next_own (Stops Exited σ) = refl

record_plainly : (m : Execution (Unit {0})) → Plainly m → Plainly (for_record m)
record_plainly m h = record { at = λ σ. next_plainly (m σ) (h.at σ); sized = λ σ. ap (λ (o : CallFrame). length o.locals) (next_own (m σ)) ∙ h.sized σ }

on_input_plainly : (read pending : Execution (Unit {0})) → Plainly read → Plainly pending → (a : InputAnswer) → Plainly (on_input read pending a)
on_input_plainly read pending h k input.Read = then_plainly spend_plainly (λ u. h)
on_input_plainly read pending h k input.Pending = then_plainly spend_plainly (λ u. k)
on_input_plainly read pending h k input.End = nothing_plainly
on_input_plainly read pending h k input.Failed = nothing_plainly

pub records_plainly : (m : ℕ) (items : Execution (Unit {0})) → Plainly items → Plainly (records_done m items)
unfolding records_done
records_plainly zero items h = then_plainly (asks_plainly row.NextMain tt) (λ a. on_input_plainly (stop OutOfTurns) (stop OutOfTurns) (stops_plainly OutOfTurns (λ σ. tt)) (stops_plainly OutOfTurns (λ σ. tt)) a)
records_plainly (suc m) items h =
    then_plainly (asks_plainly row.NextMain tt) (λ a. on_input_plainly (for_record items >> records_done m items) (assign_pending >> records_done m items)
    (then_plainly (record_plainly items h) (λ u. records_plainly m items h)) (then_plainly pending_plainly (λ u. records_plainly m items h)) a)
