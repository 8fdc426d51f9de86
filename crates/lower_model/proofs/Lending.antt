-- What lends its value keeps it while code is evaluated, while steps are taken, and through calls: nothing is stored there, and where anything lends no code
-- reads the main input.
use Rattle.std.proofs.Common.{◌≡◌, ◌≢◌, ℕ, zero, suc, Bool, true, false, List, [], ◌∷◌, Some, None, Option, Result, Ok, Err, refl, sym, ap, ◌∙◌}
use Rattle.std.specs.Prelude.{if◌then◌else◌, ◌&&◌, not, get_or, is_some, nat_lt, length, nat_le}
use Rattle.std.proofs.lemmas.Bool.{and_parts, not-true}
use Rattle.std.proofs.lemmas.List.{get_or-set_other}
use Rattle.awk_values.specs.Comparison.{comparison}
use Rattle.awk_values.specs.Operators.{is_zero}
use Rattle.awk_values.specs.declared.fault.Fault.{Fault}
use Rattle.awk_values.specs.declared.value.Value.{Value}
use Rattle.awk_values.specs.declared.value.Value.TheVariants as value
use Rattle.sem_primitives.specs.InTurn.{values_wanted}
use Rattle.sem_primitives.specs.Numbers.{Number as AnyNumber, number_of, outcome_of}
use Rattle.sem_primitives.specs.SharedState.{Shared, HostResult, shared_after}
use Rattle.sem_primitives.specs.Sorts.{Row, OrFault}
use Rattle.sem_primitives.specs.Table.{arguments_of, can_fault, meaning, listed_meaning}
use Rattle.sem_primitives.specs.declared.answers.InputAnswer.{InputAnswer}
use Rattle.sem_primitives.specs.declared.answers.InputAnswer.TheVariants as input
use Rattle.sem_primitives.specs.declared.sorts.Sort.TheVariants as sort
use Rattle.sem_primitives.specs.declared.table.Primitive.{Primitive}
use Rattle.sem_primitives.specs.declared.table.Primitive.TheVariants as row
use Rattle.mid_program.specs.declared.mid.Operation.{Operation}
use Rattle.mid_program.specs.declared.mid.Operation.TheVariants.{Host, Inline, AsNumber, FieldNumber}
use Rattle.mid_program.specs.Mid.{Kind, Boxed, Unboxed, Program, Routine, Slot, Global, Parameter, Code, Do, Over, Compare, Call, Ask, AskLine, FileLine, Replace, Number, Text, Unset, Get, Set, Array, IsOpen, Choose, Seq, Let, Bound, Codes, End, At, Fixed, Fresh, Step, Eval, Block, If, Loop, Each, Break, Continue, Next, Exit, ExitWith, Return, Mark, Steps, NoStep, Then, Form, a_value, form_of, source_of, arguments, parameters_at}
use Rattle.mid_program.specs.MidMeaning.{Env, Values, evaluated, all_evaluated, stepped, routine_at, holds, keyed, operated, locals_of, or_zero, held, read_as, read_slot, store_slot, listing, row_of, numbered, converted, truth_in, boxed, arithmetic_of, three_values, when_read, when_replaced}
use Rattle.mid_program.specs.Sorted.{Context, context_of, calls_of, kinds_of, has_kind, lender_at, lends, has_lender, are_lenders, is_slot, takes, sorted, all_sorted, test_sorted, step_sorted, steps_sorted, routines_sorted, is_chosen, is_tested, fits}
use Rattle.mid_program.proofs.Lenders.{no_lender_at, not_lender, boxed_lends}
use Rattle.sem_scripts.specs.Names.{ArrayName, Numbered, Given}
use Rattle.sem_scripts.specs.ScriptState.{State, CallFrame, Local, Stop, Faulted, OutOfTurns, TooDeep, Nexted, Exited, Returned, Outcome, Gives, Stops, Execution, ◌>>=◌, ◌>>◌, go_on, give, nothing, stop, settled, or_fault, perform, call, look, change, local_array, global_value, local_value, with_global, with_local, with_range, spent, spend}
use Rattle.sem_scripts.specs.Statements.{Flow, Normal, Broke, Continued, after, after_round, loop, at_key, over_keys, with_status, returned, entered_with}
use Rattle.sem_scripts.specs.Steps.{array_number, one_number, input_number, field_checked}
use Rattle.sem_scripts.specs.Items.{range_open}
use Rattle.sem_scripts.specs.Meaning.{Calls}
use Rattle.wasm_types.specs.Syntax.{Instructions, Done}
use Rattle.wasm_types.specs.declared.instr.Simple.TheVariants.{Br}
use Rattle.lower_model.specs.Emission.{Layout}
use Rattle.lower_model.specs.Functions.{layout_of, routine_bases}
use Rattle.lower_model.specs.Machine.{Notes}
use Rattle.lower_model.specs.Noted.{noting, noted, test_place, step_noted, steps_noted, noted_called, routine_rest}
use Rattle.lower_model.specs.Quick.{pair_in, step_jumps, is_nothing}
use Rattle.lower_model.specs.Small.{emit as instruction}
use Rattle.lower_model.specs.Statements.{step_emitted, steps_emitted}
use Rattle.lower_model.proofs.State.{LentStays}

abbrev pub state_at : {A : Type 0} → Outcome A → State
state_at (Gives a σ) = σ
state_at (Stops why σ) = σ

module _ (p : Program) where
  -- what lends has what it had
  abbrev pub Stays : State → State → Type 0
  Stays σ τ = (i : ℕ) → LentStays (lender_at p.lenders i) σ τ

  pub record Lends {A : Type 0} (m : Execution A) : Type 0 where
    pub at : (σ : State) → Stays σ (state_at (m σ))

  pub stays_then : (σ τ υ : State) → Stays σ τ → Stays τ υ → Stays σ υ
  stays_then σ τ υ h k = λ i g e. k i g e ∙ h i g e

  -- where nothing lends
  nothing_lends : {A : Type 0} → (m : Execution A) → not (has_lender p.lenders) ≡ true → Lends m
  nothing_lends m h = record { at = λ σ i g e. let q = sym (no_lender_at p.lenders (not-true (has_lender p.lenders) h) i) ∙ e in absurd (none q) }
    where
      none : {g : ℕ} → ◌≡◌ {A = Option ℕ} None (Some g) → ⊥
      none q = cc

  on_lends : {A B : Type 0} → (σ : State) (r : Outcome A) (f : A → Execution B) → Stays σ (state_at r) → ((a : A) → Lends (f a)) → Stays σ (state_at (go_on r f))
  on_lends σ (Gives a τ) f h k = stays_then σ τ (state_at (f a τ)) h ((k a).at τ)
  on_lends σ (Stops why τ) f h k = h

  pub then_lends : {A B : Type 0} {m : Execution A} {f : A → Execution B} → Lends m → ((a : A) → Lends (f a)) → Lends (m >>= f)
  then_lends {m = m} {f = f} h k = record { at = λ σ. on_lends σ (m σ) f (h.at σ) k }

  gives_lends : {A : Type 0} → (a : A) → Lends (give a)
  gives_lends a = record { at = λ σ i g e. refl }

  nothing_done_lends : Lends nothing
  nothing_done_lends = record { at = λ σ i g e. refl }

  looks_lends : {A : Type 0} → (f : State → A) → Lends (look f)
  looks_lends f = record { at = λ σ i g e. refl }

  stops_lends : (A : Type 0) (why : Stop) → Lends (stop {A = A} why)
  stops_lends A why = record { at = λ σ i g e. refl }

  settled_lends : {A : Type 0} → (r : Result A Fault) → Lends (settled r)
  settled_lends (Ok a) = record { at = λ σ i g e. refl }
  settled_lends (Err f) = record { at = λ σ i g e. refl }

  performed_lends : {A : Type 0} → (b : Bool) (f : Shared → HostResult (OrFault b A)) → Lends (perform b f)
  performed_lends b f = record { at = λ σ. (settled_lends (or_fault b (f σ.shared).answer)).at (record σ { shared = shared_after σ.shared (f σ.shared) }) }

  does_lends : (q : Primitive) (r : Row (arguments_of q)) → Lends (call q r)
  does_lends q r = performed_lends (can_fault q) (meaning q r)

  spent_lends : (t : ℕ) (σ : State) → Stays σ (state_at (spent t σ))
  spent_lends zero σ = λ i g e. refl
  spent_lends (suc t) σ = λ i g e. refl

  pub spend_lends : Lends spend
  spend_lends = record { at = λ σ. spent_lends σ.turns σ }

  either_lends : {A : Type 0} → (t : Bool) (m k : Execution A) → Lends m → Lends k → Lends (if t then m else k)
  either_lends true m k h g = h
  either_lends false m k h g = g

  read_lends : (s : Value → Execution (Unit {0})) → ((v : Value) → Lends (s v)) → (a : InputAnswer) → Lends (when_read s a)
  read_lends s h input.Read = then_lends (does_lends row.Line tt) (λ v. then_lends (h v) (λ u. gives_lends one_number))
  read_lends s h input.End = gives_lends (input_number input.End)
  read_lends s h input.Pending = gives_lends (input_number input.Pending)
  read_lends s h input.Failed = gives_lends (input_number input.Failed)

  replaced_lends : (s : Value → Execution (Unit {0})) → ((v : Value) → Lends (s v)) → (count : AnyNumber) → Lends (when_replaced s count)
  replaced_lends s h count =
      then_lends (either_lends (is_zero count.number) nothing (call row.SubResult tt >>= s) nothing_done_lends (then_lends (does_lends row.SubResult tt) h)) (λ u. gives_lends count)

  array_lends : (a : ArrayName) → Lends (array_number a)
  array_lends (Numbered i) = gives_lends i
  array_lends (Given i) = looks_lends (local_array i)

  slot_lends : (x : Slot) → Lends (read_slot x)
  slot_lends (Global u i) = looks_lends (λ σ. read_as u (global_value i σ))
  slot_lends (Parameter u i) = looks_lends (λ σ. read_as u (local_value i σ))

  operated_lends : (o : Operation) (r : Row (arguments o)) → Lends (operated o r)
  operated_lends (Host q) r = does_lends q r
  operated_lends (Inline a) r = settled_lends (outcome_of (arithmetic_of a r.0.number r.1.0.number))
  operated_lends AsNumber r = gives_lends r.0
  operated_lends FieldNumber r = settled_lends (field_checked r.0)

  -- a global that does not lend has another value
  pub others_stay : (i : ℕ) (v : Value) (σ : State) → ((j g : ℕ) → lender_at p.lenders j ≡ Some g → g ≢ i) → Stays σ (with_global i v σ)
  others_stay i v σ ne = λ j g h. get_or-set_other σ.globals i g v value.Uninit (ne j g h)

  module _ (lend : are_lenders (kinds_of p.globals) p.lenders ≡ true) (ks : List Kind) where
    abbrev c : Context
    c = context_of p ks

    stored_lends : (x : Slot) (o : Option Slot) (f : Form) (v : Value) → is_slot c x ≡ true → takes c x o f ≡ true → Lends (store_slot x v)
    stored_lends (Global true i) o f v s h = record { at = λ σ. others_stay i v σ (λ j g e q. not_lender p.lenders j i (not-true (lends p.lenders i) (and_parts (not (lends p.lenders i)) _ h).0) (e ∙ ap Some q)) }
    stored_lends (Global false i) o f v s h = record { at = λ σ. others_stay i v σ (λ j g e q. not_lender p.lenders j i (boxed_lends (kinds_of p.globals) p.lenders i lend s) (e ∙ ap Some q)) }
    stored_lends (Parameter u i) o f v s h = record { at = λ σ j g e. refl }

    module _ (n : ℕ) (calls : Calls) (called : (f : ℕ) (os : List Local) → Lends (calls f os)) where
      mutual
        unfolding evaluated all_evaluated sorted all_sorted

        pub code_lends : (fs : List Form) (env : Env fs) (e : Code) → sorted c fs e ≡ true → Lends (evaluated p.texts (calls_of p) n calls fs env e)
        code_lends fs env (Do o es) h =
            let a = and_parts _ _ h in let b = and_parts _ _ a.1 in
            then_lends (codes_lends fs env es b.1) (λ vs. then_lends (settled_lends (row_of fs (arguments o) es vs)) (λ r. operated_lends o r))
        code_lends fs env (Over l es) h =
            let a = and_parts _ _ h in let b = and_parts _ _ a.1 in
            then_lends (codes_lends fs env es b.1) (λ vs. performed_lends true (listed_meaning l (listing fs es vs)))
        code_lends fs env (Compare op a b) h =
            let x = and_parts _ _ h in let y = and_parts _ _ x.1 in let z = and_parts _ _ y.1 in
            then_lends (code_lends fs env a z.0) (λ v. then_lends (code_lends fs env b z.1) (λ w. settled_lends (comparison (boxed (form_of fs a) v) (boxed (form_of fs b) w) op)))
        code_lends fs env (Call f es) h =
            let a = and_parts _ _ h in let b = and_parts _ _ a.1 in
            then_lends (codes_lends fs env es b.1) (λ vs. then_lends spend_lends (λ u. called f (locals_of fs (parameters_at (calls_of p) f) es vs)))
        code_lends fs env Ask h = nothing_lends (evaluated p.texts (calls_of p) n calls fs env Ask) h
        code_lends fs env (AskLine s) h = nothing_lends (evaluated p.texts (calls_of p) n calls fs env (AskLine s)) (and_parts (not (has_lender p.lenders)) _ h).0
        code_lends fs env (FileLine e s) h =
            let a = and_parts _ _ h in let b = and_parts _ _ a.1 in let d = and_parts _ _ b.1 in
            then_lends (code_lends fs env e b.0) (λ file. then_lends (does_lends row.GetlineVarFile (boxed (form_of fs e) file, tt))
            (λ a. read_lends (λ v. evaluated p.texts (calls_of p) n calls (a_value ∷ fs) (v, env) s >> nothing) (λ v. then_lends (code_lends (a_value ∷ fs) (v, env) s d.1) (λ u. nothing_done_lends)) a))
        code_lends fs env (Replace all es s) h =
            let a = and_parts _ _ h in let b = and_parts _ _ a.1 in let d = and_parts _ _ b.1 in
            then_lends (codes_lends fs env es b.0) (λ vs. then_lends (settled_lends (row_of fs three_values es vs)) (λ r. then_lends (does_lends row.Sub (r.0, (r.1.0, (r.1.1.0, (all, tt)))))
            (λ count. replaced_lends (λ v. evaluated p.texts (calls_of p) n calls (a_value ∷ fs) (v, env) s >> nothing) (λ v. then_lends (code_lends (a_value ∷ fs) (v, env) s d.1) (λ u. nothing_done_lends)) count)))
        code_lends fs env (Number z) h = gives_lends (or_zero (number_of z))
        code_lends fs env (Text i) h = gives_lends (value.Text (get_or p.texts i []))
        code_lends fs env Unset h = gives_lends None
        code_lends fs env (Get x) h = slot_lends x
        code_lends fs env (Set x e) h =
            let a = and_parts _ _ h in let b = and_parts _ _ a.1 in
            then_lends (code_lends fs env e b.1) (λ v. then_lends (stored_lends x (source_of e) (form_of fs e) (boxed (form_of fs e) v) a.0 b.0) (λ u. gives_lends v))
        code_lends fs env (Array a) h = array_lends a
        code_lends fs env (IsOpen i) h = looks_lends (range_open i)
        code_lends fs env (Choose s e a b) h =
            let x = and_parts (is_chosen s) (is_tested (form_of fs e) && (fits (form_of fs a) s && (fits (form_of fs b) s && (sorted c fs e && (sorted c fs a && sorted c fs b))))) h in
            let y = and_parts (is_tested (form_of fs e)) (fits (form_of fs a) s && (fits (form_of fs b) s && (sorted c fs e && (sorted c fs a && sorted c fs b)))) x.1 in
            let z = and_parts (fits (form_of fs a) s) (fits (form_of fs b) s && (sorted c fs e && (sorted c fs a && sorted c fs b))) y.1 in
            let t = and_parts (fits (form_of fs b) s) (sorted c fs e && (sorted c fs a && sorted c fs b)) z.1 in
            let u = and_parts _ _ t.1 in
            let w = and_parts _ _ u.1 in
            then_lends (code_lends fs env e u.0) (λ v. either_lends (truth_in (form_of fs e) v)
            (evaluated p.texts (calls_of p) n calls fs env a >>= λ x. settled (converted (form_of fs a) s x)) (evaluated p.texts (calls_of p) n calls fs env b >>= λ x. settled (converted (form_of fs b) s x))
            (then_lends (code_lends fs env a w.0) (λ x. settled_lends (converted (form_of fs a) s x))) (then_lends (code_lends fs env b w.1) (λ x. settled_lends (converted (form_of fs b) s x))))
        code_lends fs env (Seq a b) h = let x = and_parts _ _ h in let y = and_parts _ _ x.1 in then_lends (code_lends fs env a y.0) (λ u. code_lends fs env b y.1)
        code_lends fs env (Let a b) h =
            let x = and_parts _ _ h in let y = and_parts _ _ x.1 in let z = and_parts _ _ y.1 in
            then_lends (code_lends fs env a z.0) (λ v. code_lends (form_of fs a ∷ fs) (v, env) b z.1)
        code_lends fs env (Bound m i) h = gives_lends (held fs env i)

        pub codes_lends : (fs : List Form) (env : Env fs) (es : Codes) → all_sorted c fs es ≡ true → Lends (all_evaluated p.texts (calls_of p) n calls fs env es)
        codes_lends fs env End h = gives_lends tt
        codes_lends fs env (At e es) h = let x = and_parts _ _ h in then_lends (code_lends fs env e x.0) (λ v. then_lends (codes_lends fs env es x.1) (λ vs. gives_lends (v, vs)))
        codes_lends fs env (Fixed m es) h = codes_lends fs env es h
        codes_lends fs env (Fresh es) h = let x = and_parts _ _ h in then_lends (does_lends row.NewArray tt) (λ i. then_lends (codes_lends fs env es x.1) (λ vs. gives_lends (i, vs)))

      -- Steps.

      test_lends : (e : Code) → test_sorted c e ≡ true → Lends (holds p.texts (calls_of p) n calls e)
      test_lends e h = then_lends (code_lends [] tt e (and_parts _ (sorted c [] e) h).1) (λ v. gives_lends (truth_in (form_of [] e) v))

      round_lends : (f : Flow) (m : Execution Flow) → Lends m → Lends (after_round f m)
      round_lends Normal m h = h
      round_lends Broke m h = gives_lends Normal
      round_lends Continued m h = h

      after_lends : (f : Flow) (m : Execution Flow) → Lends m → Lends (after f m)
      after_lends Normal m h = h
      after_lends Broke m h = gives_lends Broke
      after_lends Continued m h = gives_lends Continued

      loop_lends : (k : ℕ) (test : Execution Bool) (body : Execution Flow) (between : Execution (Unit {0})) → Lends test → Lends body → Lends between → Lends (loop k test body between)
      unfolding loop
      loop_lends zero test body between t y z = stops_lends _ OutOfTurns
      loop_lends (suc k) test body between t y z =
          then_lends spend_lends (λ u. then_lends t (λ x. either_lends x (body >>= λ flow. after_round flow (between >> loop k test body between)) (give Normal)
          (then_lends y (λ f. round_lends f (between >> loop k test body between) (then_lends z (λ u. loop_lends k test body between t y z)))) (gives_lends Normal)))

      keys_lends : (k keys : ℕ) (store : Value → Execution (Unit {0})) (body : Execution Flow) → ((v : Value) → Lends (store v)) → Lends body → Lends (over_keys k keys store body)
      unfolding over_keys
      keys_lends zero keys store body s y = then_lends (does_lends row.IterNext (keys, tt)) (λ o. by o)
        where
          by : (o : Option Value) → Lends (at_key (λ key. stop OutOfTurns) o)
          by None = gives_lends Normal
          by (Some key) = then_lends spend_lends (λ u. stops_lends _ OutOfTurns)
      keys_lends (suc k) keys store body s y = then_lends (does_lends row.IterNext (keys, tt)) (λ o. by o (keys_lends k keys store body s y))
        where
          by : (o : Option Value) → Lends (over_keys k keys store body) → Lends (at_key (λ key. store key >> body >>= λ flow. after_round flow (over_keys k keys store body)) o)
          by None r = gives_lends Normal
          by (Some key) r = then_lends spend_lends (λ u. then_lends (s key) (λ v. then_lends y (λ f. round_lends f (over_keys k keys store body) r)))

      -- the place of each is noted first
      module _ (notes : Notes) (y : Layout) where
        begun_lends : {A : Type 0} {m : Execution A} → (place : Instructions) → Lends m → Lends (noted notes place >> m)
        begun_lends place h = then_lends noted_lend (λ u. h)
          where
            noted_lend : Lends (noted notes place)
            noted_lend = record { at = λ σ i g e. refl }

        abbrev St : Step → (u d bk ct : ℕ) → Instructions → Execution Flow
        St s u d bk ct k = step_noted notes y p.texts (calls_of p) n calls s u d bk ct k

        mutual
          unfolding step_noted steps_noted stepped step_sorted steps_sorted

          step_lends : (r lo : Bool) (s : Step) (u d bk ct : ℕ) (k : Instructions) → step_sorted c r lo s ≡ true → Lends (step_noted notes y p.texts (calls_of p) n calls s u d bk ct k)
          step_lends r lo (Eval e) u d bk ct k so = begun_lends _ (then_lends (code_lends [] tt e (and_parts _ (sorted c [] e) so).1) (λ x. gives_lends Normal))
          step_lends r lo (Block ss) u d bk ct k so = begun_lends _ (noted_lends r lo ss u d bk ct k so)
          step_lends r lo (If e a b) u d bk ct k so =
              let s1 = and_parts (test_sorted c e) (step_sorted c r lo a && step_sorted c r lo b) so in
              let s2 = and_parts (step_sorted c r lo a) (step_sorted c r lo b) s1.1 in
              let back = instruction (Br 1) Done in
              let far = St a u (suc (suc d)) (suc (suc bk)) (suc (suc ct)) back in
              let near = St a u (suc d) (suc bk) (suc ct) Done in
              let other = St b u (suc d) (suc bk) (suc ct) Done in
              begun_lends _ (then_lends (test_lends e s1.0) (λ t. either_lends t (if is_some (pair_in e) then far else near) other
              (either_lends (is_some (pair_in e)) far near (step_lends r lo a u (suc (suc d)) (suc (suc bk)) (suc (suc ct)) back s2.0) (step_lends r lo a u (suc d) (suc bk) (suc ct) Done s2.0))
              (step_lends r lo b u (suc d) (suc bk) (suc ct) Done s2.1)))
          step_lends r lo (Loop true e a b) u d bk ct k so =
              let s1 = and_parts (test_sorted c e) (step_sorted c r true a && step_sorted c r false b) so in
              let s2 = and_parts (step_sorted c r true a) (step_sorted c r false b) s1.1 in
              let back = instruction (Br zero) Done in
              let rest = if is_nothing b then back else step_emitted y b u (suc (suc d)) 1 zero back in
              let far = St a u (suc (suc (suc d))) 2 zero Done in
              let near = St a u (suc (suc d)) 1 zero rest in
              let last = St b u (suc (suc d)) 1 zero back >> nothing in
              begun_lends _ (loop_lends n (holds p.texts (calls_of p) n calls e) (if step_jumps a then far else near) (if is_nothing b then nothing else last) (test_lends e s1.0)
              (either_lends (step_jumps a) far near (step_lends r true a u (suc (suc (suc d))) 2 zero Done s2.0) (step_lends r true a u (suc (suc d)) 1 zero rest s2.0))
              (either_lends (is_nothing b) nothing last nothing_done_lends (then_lends (step_lends r false b u (suc (suc d)) 1 zero back s2.1) (λ x. nothing_done_lends))))
          step_lends r lo (Loop false e a b) u d bk ct k so =
              let s1 = and_parts (test_sorted c e) (step_sorted c r true a && step_sorted c r false b) so in
              let s2 = and_parts (step_sorted c r true a) (step_sorted c r false b) s1.1 in
              let place = test_place y e (suc (suc d)) in
              let test = noted notes place >> holds p.texts (calls_of p) n calls e in
              let body = St a u (suc (suc (suc d))) 2 zero Done in
              let last = St b u (suc (suc d)) 1 zero place >> nothing in
              let x = step_lends r true a u (suc (suc (suc d))) 2 zero Done s2.0 in
              let z : Lends last = then_lends (step_lends r false b u (suc (suc d)) 1 zero place s2.1) (λ v. nothing_done_lends) in
              let t : Lends test = begun_lends place (test_lends e s1.0) in
              begun_lends _ (then_lends x (λ f. round_lends f (last >> loop n test body last) (then_lends z (λ v. loop_lends n test body last t x z))))
          step_lends r lo (Each a e s) u d bk ct k so =
              let s1 = and_parts _ _ so in let s2 = and_parts _ _ s1.1 in let s3 = and_parts (sorted c (a_value ∷ []) e) (step_sorted c r true s) s2.1 in
              begun_lends _ (then_lends (array_lends a) (λ i. then_lends (does_lends row.Iter (i, tt)) (λ keys. keys_lends n keys (keyed p.texts (calls_of p) n calls e) (St s (suc u) (suc (suc (suc d))) 2 zero Done)
              (λ v. then_lends (code_lends (a_value ∷ []) (v, tt) e s3.0) (λ x. nothing_done_lends)) (step_lends r true s (suc u) (suc (suc (suc d))) 2 zero Done s3.1))))
          step_lends r lo Break u d bk ct k so = begun_lends _ (gives_lends Broke)
          step_lends r lo Continue u d bk ct k so = begun_lends _ (gives_lends Continued)
          step_lends r lo Next u d bk ct k so = begun_lends _ (stops_lends _ Nexted)
          step_lends r lo Exit u d bk ct k so = begun_lends _ (stops_lends _ Exited)
          step_lends r lo (ExitWith e) u d bk ct k so =
              begun_lends _ (then_lends (code_lends [] tt e (and_parts _ (sorted c [] e) so).1) (λ v. then_lends (settled_lends (numbered (form_of [] e) v)) (λ m. then_lends {m = change (with_status m)} (record { at = λ σ i g e. refl }) (λ x. stops_lends _ Exited))))
          step_lends r lo (Return e) u d bk ct k so =
              let s1 = and_parts _ _ so in
              begun_lends _ (then_lends (code_lends [] tt e (and_parts _ (sorted c [] e) s1.1).1) (λ v. stops_lends _ (Returned (boxed (form_of [] e) v))))
          step_lends r lo (Mark i b) u d bk ct k so = begun_lends _ (then_lends {m = change (with_range i b)} (record { at = λ σ j g e. refl }) (λ x. gives_lends Normal))

          pub noted_lends : (r lo : Bool) (ss : Steps) (u d bk ct : ℕ) (k : Instructions) → steps_sorted c r lo ss ≡ true → Lends (steps_noted notes y p.texts (calls_of p) n calls ss u d bk ct k)
          noted_lends r lo NoStep u d bk ct k so = gives_lends Normal
          noted_lends r lo (Then s ss) u d bk ct k so =
              let s1 = and_parts (step_sorted c r lo s) (steps_sorted c r lo ss) so in
              then_lends (step_lends r lo s u d bk ct (steps_emitted y ss u d bk ct k) s1.0) (λ f. after_lends f (steps_noted notes y p.texts (calls_of p) n calls ss u d bk ct k) (noted_lends r lo ss u d bk ct k s1.1))

  -- Calls.

  returned_lends : (own : CallFrame) (σ : State) (r : Outcome Flow) → Stays σ (state_at r) → Stays σ (state_at (returned own r))
  returned_lends own σ (Gives f τ) h = h
  returned_lends own σ (Stops (Returned v) τ) h = h
  returned_lends own σ (Stops (Faulted f) τ) h = h
  returned_lends own σ (Stops OutOfTurns τ) h = h
  returned_lends own σ (Stops TooDeep τ) h = h
  returned_lends own σ (Stops Nexted τ) h = h
  returned_lends own σ (Stops Exited τ) h = h

  entered_lends : (room : ℕ) (os : List Local) (body : Execution Flow) → Lends body → Lends (entered_with room os body)
  entered_lends zero os body h = record { at = λ σ i g e. refl }
  entered_lends (suc room) os body h = record { at = λ σ. returned_lends σ.own σ (body (record σ { own = record { locals = os; calls_left = room } })) (h.at (record σ { own = record { locals = os; calls_left = room } })) }

  body_sorted : (rs : List Routine) (f : ℕ) → routines_sorted p rs ≡ true → steps_sorted (context_of p (routine_at rs f).parameters) true false (routine_at rs f).body ≡ true
  unfolding steps_sorted
  body_sorted [] f e = refl
  body_sorted (r ∷ rs) zero e = (and_parts (steps_sorted (context_of p r.parameters) true false r.body) (routines_sorted p rs) e).0
  body_sorted (r ∷ rs) (suc f) e = body_sorted rs f (and_parts (steps_sorted (context_of p r.parameters) true false r.body) (routines_sorted p rs) e).1

  pub called_lends : are_lenders (kinds_of p.globals) p.lenders ≡ true → routines_sorted p p.routines ≡ true → (notes : Notes) (n f : ℕ) (os : List Local) → Lends (noted_called notes p n f os)
  unfolding noted_called
  called_lends lend so notes zero f os = stops_lends _ OutOfTurns
  called_lends lend so notes (suc n) f os =
      let r = routine_at p.routines f in
      let body = steps_noted notes (layout_of p (routine_bases r)) p.texts (calls_of p) n (noted_called notes p n) r.body zero zero zero zero (routine_rest (routine_bases r)) in
      let lends = noted_lends lend r.parameters n (noted_called notes p n) (called_lends lend so notes n) notes (layout_of p (routine_bases r)) true false r.body zero zero zero zero (routine_rest (routine_bases r)) (body_sorted p.routines f so) in
      record { at = λ σ. (entered_lends σ.own.calls_left os body lends).at σ }
