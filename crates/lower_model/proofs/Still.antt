-- Code that is still for a name does the same whatever the name has. It changes nothing but what the host has, so that the name keeps its value, and it
-- stops by faults alone.
use Rattle.std.proofs.Common.{◌≡◌, ℕ, Bool, true, false, List, [], Result, Ok, Err, refl, sym, ap, subst, ◌∙◌}
use Rattle.std.specs.Prelude.{if◌then◌else◌, not, ◌&&◌, get_or, nat_eq}
use Rattle.std.proofs.lemmas.Bool.{and_parts, eqb-true, eqb-false, not-true}
use Rattle.std.proofs.lemmas.List.{set-set, get_or-set_other}
use Rattle.awk_values.specs.Comparison.{comparison}
use Rattle.awk_values.specs.declared.fault.Fault.{Fault}
use Rattle.awk_values.specs.declared.value.Value.{Value}
use Rattle.awk_values.specs.declared.value.Value.TheVariants as value
use Rattle.sem_primitives.specs.Numbers.{number_of, outcome_of}
use Rattle.sem_primitives.specs.SharedState.{Shared, HostResult, shared_after}
use Rattle.sem_primitives.specs.Sorts.{Row, OrFault}
use Rattle.sem_primitives.specs.Table.{can_fault, meaning, listed_meaning}
use Rattle.mid_program.specs.declared.mid.Operation.{Operation}
use Rattle.mid_program.specs.declared.mid.Operation.TheVariants.{Host, Inline, AsNumber, FieldNumber}
use Rattle.mid_program.specs.Mid.{Kind, Slot, Global, Parameter, Code, Do, Over, Compare, Call, Ask, AskLine, FileLine, Replace, Number, Text, Unset, Get, Set, Array, IsOpen, Choose, Seq, Let, Bound, Codes, End, At, Fixed, Fresh, Form, form_of, arguments}
use Rattle.mid_program.specs.MidMeaning.{Env, evaluated, all_evaluated, operated, or_zero, read_as, read_slot, listing, row_of, converted, truth_in, boxed, arithmetic_of}
use Rattle.sem_scripts.specs.Names.{ArrayName, Numbered, Given}
use Rattle.sem_scripts.specs.ScriptState.{State, Scalar, Stop, Faulted, Outcome, Gives, Stops, Execution, ◌>>=◌, go_on, give, settled, or_fault, perform, look, array_in_local, value_in_local, local_array, global_value, local_value}
use Rattle.sem_scripts.specs.Steps.{array_number, field_checked}
use Rattle.sem_scripts.specs.Items.{range_open}
use Rattle.sem_scripts.specs.Meaning.{Calls}
use Rattle.lower_model.specs.Appends.{same_slot, is_array_of, is_still, are_still}
use Rattle.lower_model.proofs.State.{stored_in}

-- Names.

-- a name that has had a value has another
pub stored_again : (x : Slot) (v w : Value) (σ : State) → stored_in x v (stored_in x w σ) ≡ stored_in x v σ
stored_again (Global u i) v w σ = ap (λ gs. record σ { globals = gs }) (set-set σ.globals i w v)
stored_again (Parameter u i) v w σ = ap (λ ls. record σ { own = record σ.own { locals = ls } }) (set-set σ.own.locals i (Scalar w) (Scalar v))

-- slots of one name: whether it is unboxed is said twice
pub data SameName : Slot → Slot → Type 0 where
  SameGlobal : (u w : Bool) (i : ℕ) → SameName (Global u i) (Global w i)
  SameParameter : (u w : Bool) (i : ℕ) → SameName (Parameter u i) (Parameter w i)

pub same_name : (x y : Slot) → same_slot x y ≡ true → SameName x y
same_name (Global u i) (Global w j) h = subst (λ (k : ℕ). SameName (Global u i) (Global w k)) (eqb-true i j h) (SameGlobal u w i)
same_name (Parameter u i) (Parameter w j) h = subst (λ (k : ℕ). SameName (Parameter u i) (Parameter w k)) (eqb-true i j h) (SameParameter u w i)
same_name (Global u i) (Parameter w j) h = cc
same_name (Parameter u i) (Global w j) h = cc

-- What is done.

abbrev pub with_state : {A : Type 0} → (State → State) → Outcome A → Outcome A
with_state g (Gives a σ) = Gives a (g σ)
with_state g (Stops why σ) = Stops why (g σ)

-- nothing is another but what the host has
abbrev pub HostAlone : State → State → Type 0
HostAlone σ τ = τ ≡ record σ { shared = τ.shared }

abbrev pub FaultAlone : Stop → Type 0
FaultAlone why = (f : Fault) × (why ≡ Faulted f)

abbrev pub EndsStill : {A : Type 0} → State → Outcome A → Type 0
EndsStill σ (Gives a τ) = HostAlone σ τ
EndsStill σ (Stops why τ) = FaultAlone why × HostAlone σ τ

-- something that is done whatever the name has
pub record Stilly (x : Slot) {A : Type 0} (m : Execution A) : Type 0 where
  pub apart : (v : Value) (σ : State) → m (stored_in x v σ) ≡ with_state (stored_in x v) (m σ)
  pub ends : (σ : State) → EndsStill σ (m σ)

-- the state that it leaves, where it gives something and where it stops
pub given_still : {A : Type 0} {x : Slot} {m : Execution A} (h : Stilly x m) (σ τ : State) (a : A) → m σ ≡ Gives a τ → HostAlone σ τ
given_still h σ τ a e = subst (EndsStill σ) e (h.ends σ)

pub stopped_still : {A : Type 0} {x : Slot} {m : Execution A} (h : Stilly x m) (σ τ : State) (why : Stop) → m σ ≡ Stops why τ → FaultAlone why × HostAlone σ τ
stopped_still h σ τ why e = subst (EndsStill σ) e (h.ends σ)

alone_follows : (σ τ υ : State) → HostAlone σ τ → HostAlone τ υ → HostAlone σ υ
alone_follows σ τ υ h k = k ∙ ap (λ (t : State). record t { shared = υ.shared }) h

ends_follows : {A : Type 0} (σ τ : State) (r : Outcome A) → HostAlone σ τ → EndsStill τ r → EndsStill σ r
ends_follows σ τ (Gives a υ) h k = alone_follows σ τ υ h k
ends_follows σ τ (Stops why υ) h k = (k.0, alone_follows σ τ υ h k.1)

on_apart : {A B : Type 0} (x : Slot) (v : Value) (r : Outcome A) (f : A → Execution B) → ((a : A) → Stilly x (f a)) →
    go_on (with_state (stored_in x v) r) f ≡ with_state (stored_in x v) (go_on r f)
on_apart x v (Gives a σ) f k = (k a).apart v σ
on_apart x v (Stops why σ) f k = refl

on_ends : {A B : Type 0} (x : Slot) (σ : State) (r : Outcome A) (f : A → Execution B) → EndsStill σ r → ((a : A) → Stilly x (f a)) → EndsStill σ (go_on r f)
on_ends x σ (Gives a τ) f h k = ends_follows σ τ (f a τ) h ((k a).ends τ)
on_ends x σ (Stops why τ) f h k = h

module _ (x : Slot) where
  then_still : {A B : Type 0} {m : Execution A} {f : A → Execution B} → Stilly x m → ((a : A) → Stilly x (f a)) → Stilly x (m >>= f)
  then_still {m = m} {f = f} h k = record {
    apart = λ v σ. ap (λ r. go_on r f) (h.apart v σ) ∙ on_apart x v (m σ) f k;
    ends = λ σ. on_ends x σ (m σ) f (h.ends σ) k;
  }

  gives_still : {A : Type 0} (a : A) → Stilly x (give a)
  gives_still a = record { apart = λ v σ. refl; ends = λ σ. refl }

  looks_still : {A : Type 0} (f : State → A) → ((v : Value) (σ : State) → f (stored_in x v σ) ≡ f σ) → Stilly x (look f)
  looks_still f h = record { apart = λ v σ. ap (λ a. Gives a (stored_in x v σ)) (h v σ); ends = λ σ. refl }

  settled_still : {A : Type 0} (r : Result A Fault) → Stilly x (settled r)
  settled_still (Ok a) = record { apart = λ v σ. refl; ends = λ σ. refl }
  settled_still (Err f) = record { apart = λ v σ. refl; ends = λ σ. ((f, refl), refl) }

  either_still : {A : Type 0} (t : Bool) (m k : Execution A) → Stilly x m → Stilly x k → Stilly x (if t then m else k)
  either_still true m k h g = h
  either_still false m k h g = g

-- what the host is asked for: it does not see the names
module _ (A : Type 0) (b : Bool) (f : Shared → HostResult (OrFault b A)) where
  abbrev told : State → Result A Fault
  told σ = or_fault b (f σ.shared).answer

  abbrev left : State → State
  left σ = record σ { shared = shared_after σ.shared (f σ.shared) }

  performed_apart : (x : Slot) (v : Value) (σ : State) → perform b f (stored_in x v σ) ≡ with_state (stored_in x v) (perform b f σ)
  performed_apart (Global u i) v σ = (settled_still (Global u i) (told σ)).apart v (left σ)
  performed_apart (Parameter u i) v σ = (settled_still (Parameter u i) (told σ)).apart v (left σ)

  performed_still : (x : Slot) → Stilly x (perform b f)
  performed_still x = record {
    apart = performed_apart x;
    ends = λ σ. ends_follows σ (left σ) (settled (told σ) (left σ)) refl ((settled_still x (told σ)).ends (left σ));
  }

operated_still : (x : Slot) (o : Operation) (r : Row (arguments o)) → Stilly x (operated o r)
operated_still x (Host q) r = performed_still _ (can_fault q) (meaning q r) x
operated_still x (Inline a) r = settled_still x (outcome_of (arithmetic_of a r.0.number r.1.0.number))
operated_still x AsNumber r = gives_still x r.0
operated_still x FieldNumber r = settled_still x (field_checked r.0)

-- another name, and an array
apart_from : (i j : ℕ) → not (nat_eq i j) ≡ true → j ≡ i → ⊥
apart_from i j h e = eqb-false i j (not-true (nat_eq i j) h) (sym e)

read_still : (x y : Slot) → not (same_slot x y) ≡ true → Stilly x (read_slot y)
read_still (Global u i) (Global w j) h = looks_still (Global u i) (λ σ. read_as w (global_value j σ))
    (λ v σ. ap (read_as w) (get_or-set_other σ.globals i j v value.Uninit (apart_from i j h)))
read_still (Global u i) (Parameter w j) h = looks_still (Global u i) (λ σ. read_as w (local_value j σ)) (λ v σ. refl)
read_still (Parameter u i) (Global w j) h = looks_still (Parameter u i) (λ σ. read_as w (global_value j σ)) (λ v σ. refl)
read_still (Parameter u i) (Parameter w j) h = looks_still (Parameter u i) (λ σ. read_as w (local_value j σ))
    (λ v σ. ap (λ l. read_as w (value_in_local l)) (get_or-set_other σ.own.locals i j (Scalar v) (Scalar value.Uninit) (apart_from i j h)))

array_still : (x : Slot) (a : ArrayName) → not (is_array_of x a) ≡ true → Stilly x (array_number a)
array_still x (Numbered j) h = gives_still x j
array_still (Global u i) (Given j) h = looks_still (Global u i) (local_array j) (λ v σ. refl)
array_still (Parameter u i) (Given j) h = looks_still (Parameter u i) (local_array j)
    (λ v σ. ap array_in_local (get_or-set_other σ.own.locals i j (Scalar v) (Scalar value.Uninit) (apart_from i j h)))

range_still : (x : Slot) (i : ℕ) → Stilly x (look (range_open i))
range_still (Global u j) i = looks_still (Global u j) (range_open i) (λ v σ. refl)
range_still (Parameter u j) i = looks_still (Parameter u j) (range_open i) (λ v σ. refl)

module _ (x : Slot) (texts : List (List ℕ)) (parameters : List (List Kind)) (n : ℕ) (calls : Calls) where
  mutual
    unfolding evaluated all_evaluated

    pub code_still : (fs : List Form) (env : Env fs) (e : Code) → is_still x e ≡ true → Stilly x (evaluated texts parameters n calls fs env e)
    code_still fs env (Do o es) h =
        then_still x (codes_still fs env es h) (λ vs. then_still x (settled_still x (row_of fs (arguments o) es vs)) (λ r. operated_still x o r))
    code_still fs env (Over l es) h = then_still x (codes_still fs env es h) (λ vs. performed_still _ true (listed_meaning l (listing fs es vs)) x)
    code_still fs env (Compare c a b) h =
        let s = and_parts (is_still x a) (is_still x b) h in
        then_still x (code_still fs env a s.0) (λ v. then_still x (code_still fs env b s.1)
        (λ w. settled_still x (comparison (boxed (form_of fs a) v) (boxed (form_of fs b) w) c)))
    code_still fs env (Call f es) h = cc
    code_still fs env Ask h = cc
    code_still fs env (AskLine e) h = cc
    code_still fs env (FileLine e d) h = cc
    code_still fs env (Replace all es d) h = cc
    code_still fs env (Number z) h = gives_still x (or_zero (number_of z))
    code_still fs env (Text i) h = gives_still x (value.Text (get_or texts i []))
    code_still fs env Unset h = cc
    code_still fs env (Get y) h = read_still x y h
    code_still fs env (Set y e) h = cc
    code_still fs env (Array a) h = array_still x a h
    code_still fs env (IsOpen i) h = range_still x i
    code_still fs env (Choose s c a b) h =
        let t = and_parts (is_still x c) (is_still x a && is_still x b) h in
        let u = and_parts (is_still x a) (is_still x b) t.1 in
        then_still x (code_still fs env c t.0) (λ v.
        either_still x (truth_in (form_of fs c) v) (evaluated texts parameters n calls fs env a >>= λ w. settled (converted (form_of fs a) s w))
        (evaluated texts parameters n calls fs env b >>= λ w. settled (converted (form_of fs b) s w))
        (then_still x (code_still fs env a u.0) (λ w. settled_still x (converted (form_of fs a) s w)))
        (then_still x (code_still fs env b u.1) (λ w. settled_still x (converted (form_of fs b) s w))))
    code_still fs env (Seq a b) h =
        let s = and_parts (is_still x a) (is_still x b) h in
        then_still x (code_still fs env a s.0) (λ v. code_still fs env b s.1)
    code_still fs env (Let a b) h = cc
    code_still fs env (Bound m i) h = cc

    pub codes_still : (fs : List Form) (env : Env fs) (es : Codes) → are_still x es ≡ true → Stilly x (all_evaluated texts parameters n calls fs env es)
    codes_still fs env End h = gives_still x tt
    codes_still fs env (At e es) h =
        let s = and_parts (is_still x e) (are_still x es) h in
        then_still x (code_still fs env e s.0) (λ v. then_still x (codes_still fs env es s.1) (λ vs. gives_still x (v, vs)))
    codes_still fs env (Fixed m es) h = codes_still fs env es h
    codes_still fs env (Fresh es) h = cc
