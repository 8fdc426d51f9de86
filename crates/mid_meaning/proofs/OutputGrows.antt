-- What is done adds output and takes no turn back; and where there is room for as many calls as there are turns, no call is too deep.
use Rattle.std.proofs.Common.{◌≡◌, ℕ, zero, suc, ◌≤◌, Bool, List, [], ◌++◌, Result, Ok, Err, append_assoc, append-nil, refl, sym, ap, subst, ◌∙◌, arith}
use Rattle.awk_values.specs.declared.fault.Fault.{Fault}
use Rattle.world_core.specs.WorldState.{Action}
use Rattle.sem_primitives.specs.SharedState.{Shared, HostResult, shared_after}
use Rattle.sem_primitives.specs.Sorts.{OrFault}
use Rattle.sem_scripts.specs.ScriptState.{Local, CallFrame, State, Stop, Faulted, OutOfTurns, TooDeep, Nexted, Exited, Returned, Outcome, Gives, Stops, Execution, go_on, ◌>>=◌, give, stop, change, settled, or_fault, perform, spent, spend}
use Rattle.sem_scripts.specs.Statements.{Flow, returned, entered_with, entered}
use Rattle.sem_scripts.specs.ScriptRun.{next_over, for_record, part_over, part, all_parts}
use Rattle.sem_scripts.specs.MoreTurns.{Grows}
use Rattle.mid_program.specs.Mid.{Program}
use Rattle.mid_program.specs.MidMeaning.{mid_parts, mid_called}
use Rattle.mid_meaning.proofs.Related.{Relation, Closed, ClosedRun, ClosedCalls, IsPlainStop, Still, run_same_fuel, called_same_fuel}
use Rattle.awk_values.specs.declared.value.Value.{Value}

abbrev pub state_at : {A : Type 0} → Outcome A → State
state_at (Gives a state) = state
state_at (Stops why state) = state

abbrev pub output_at : {A : Type 0} → Outcome A → List Action
output_at o = (state_at o).shared.output

pub same : (output : List Action) → Grows output output
same output = ([], sym (append-nil output))

pub grows_on : (a b c : List Action) → Grows a b → Grows b c → Grows a c
grows_on a b c (x, p) (y, q) = (x ++ y, q ∙ ap (λ (output : List Action). output ++ y) p ∙ append_assoc a x y)

pub record OutputGrows {A : Type 0} (m : Execution A) : Type 0 where
  pub grows : (state : State) → Grows state.shared.output (output_at (m state))
  pub spends : (state : State) → (state_at (m state)).turns ≤ state.turns

abbrev pub GrowsOutput : Relation
GrowsOutput A m m' = OutputGrows m

then_grows : {A B : Type 0} (o : Outcome A) (f : A → Execution B) → ((a : A) → OutputGrows (f a)) → Grows (output_at o) (output_at (go_on o f))
then_grows (Gives a state) f h = (h a).grows state
then_grows (Stops why state) f h = same state.shared.output

then_spends : {A B : Type 0} (o : Outcome A) (f : A → Execution B) → ((a : A) → OutputGrows (f a)) → (state_at (go_on o f)).turns ≤ (state_at o).turns
then_spends (Gives a state) f h = (h a).spends state
then_spends (Stops why state) f h = omega arith

pub then_tame : {A B : Type 0} (m : Execution A) (f : A → Execution B) → OutputGrows m → ((a : A) → OutputGrows (f a)) → OutputGrows (m >>= f)
then_tame m f p h = record {
  grows = λ state. grows_on state.shared.output (output_at (m state)) (output_at (go_on (m state) f)) (p.grows state) (then_grows (m state) f h);
  spends = λ state. (let a = p.spends state in let b = then_spends (m state) f h in omega (arith, a, b));
}

settled_output : {A : Type 0} (r : Result A Fault) (state : State) → output_at (settled r state) ≡ state.shared.output
settled_output (Ok a) state = refl
settled_output (Err fault) state = refl

settled_turns : {A : Type 0} (r : Result A Fault) (state : State) → (state_at (settled r state)).turns ≡ state.turns
settled_turns (Ok a) state = refl
settled_turns (Err fault) state = refl

pub settled_tame : {A : Type 0} (r : Result A Fault) → OutputGrows (settled r)
settled_tame r = record {
  grows = λ state. ([], settled_output r state ∙ sym (append-nil state.shared.output));
  spends = λ state. (let e = settled_turns r state in omega (arith, e));
}

perform_turns : (A : Type 0) (b : Bool) (f : Shared → HostResult (OrFault b A)) (state : State) → (state_at (perform b f state)).turns ≤ state.turns
perform_turns A b f state =
    let after : State = record state { shared = shared_after state.shared (f state.shared) } in
    let e = settled_turns (or_fault b (f state.shared).answer) after in omega (arith, e)

pub perform_tame : {A : Type 0} (b : Bool) (f : Shared → HostResult (OrFault b A)) → OutputGrows (perform b f)
perform_tame {A} b f = record {
  grows = λ state. ((f state.shared).added, settled_output (or_fault b (f state.shared).answer) _);
  spends = λ state. perform_turns A b f state;
}

pub give_tame : {A : Type 0} (a : A) → OutputGrows (give a)
give_tame a = record { grows = λ state. same state.shared.output; spends = λ state. omega arith }

pub stop_tame : {A : Type 0} (why : Stop) → OutputGrows {A = A} (stop why)
stop_tame why = record { grows = λ state. same state.shared.output; spends = λ state. omega arith }

pub change_tame : (f : State → State) → Still f → OutputGrows (change f)
change_tame f s = record {
  grows = λ state. ([], s.output state ∙ sym (append-nil state.shared.output));
  spends = λ state. (let e = s.turns state in omega (arith, e));
}

pub spent_grows : (n : ℕ) (state : State) → Grows state.shared.output (output_at (spent n state))
spent_grows zero state = same state.shared.output
spent_grows (suc n) state = same state.shared.output

spent_spends : (n : ℕ) (state : State) → n ≡ state.turns → (state_at (spent n state)).turns ≤ state.turns
spent_spends zero state e = omega arith
spent_spends (suc n) state e = omega (arith, e)

pub spend_tame : OutputGrows spend
spend_tame = record { grows = λ state. spent_grows state.turns state; spends = λ state. spent_spends state.turns state refl }

pub tame_closed : Closed GrowsOutput
tame_closed = record {
  gives = λ A a. give_tame a;
  settles = λ A r. settled_tame r;
  performs = λ A b f. perform_tame b f;
  looks = λ A f h. record { grows = λ state. same state.shared.output; spends = λ state. omega arith };
  changes = λ f s. change_tame f s;
  stops = λ A why p. stop_tame why;
  spends = spend_tame;
  binds = λ A B m m' f f' p h. then_tame m f p h;
}

pub next_state : (o : Outcome (Unit {0})) → state_at (next_over o) ≡ state_at o
next_state (Gives u state) = refl
next_state (Stops Nexted state) = refl
next_state (Stops (Faulted fault) state) = refl
next_state (Stops OutOfTurns state) = refl
next_state (Stops TooDeep state) = refl
next_state (Stops Exited state) = refl
next_state (Stops (Returned x) state) = refl

pub part_state : (o : Outcome (Unit {0})) → state_at (part_over o) ≡ state_at o
part_state (Gives u state) = refl
part_state (Stops Nexted state) = refl
part_state (Stops (Faulted fault) state) = refl
part_state (Stops OutOfTurns state) = refl
part_state (Stops TooDeep state) = refl
part_state (Stops Exited state) = refl
part_state (Stops (Returned x) state) = refl

pub record_tame : (m : Execution (Unit {0})) → OutputGrows m → OutputGrows (for_record m)
record_tame m p = record {
  grows = λ state. subst (λ (s : State). Grows state.shared.output s.shared.output) (sym (next_state (m state))) (p.grows state);
  spends = λ state. subst (λ (s : State). s.turns ≤ state.turns) (sym (next_state (m state))) (p.spends state);
}

pub part_tame : (m : Execution (Unit {0})) → OutputGrows m → OutputGrows (part m)
part_tame m p = record {
  grows = λ state. subst (λ (s : State). Grows state.shared.output s.shared.output) (sym (part_state (m state))) (p.grows state);
  spends = λ state. subst (λ (s : State). s.turns ≤ state.turns) (sym (part_state (m state))) (p.spends state);
}

pub returned_state : (own : CallFrame) (o : Outcome Flow) → state_at (returned own o) ≡ record (state_at o) { own = own }
returned_state own (Gives flow state) = refl
returned_state own (Stops (Returned x) state) = refl
returned_state own (Stops (Faulted fault) state) = refl
returned_state own (Stops OutOfTurns state) = refl
returned_state own (Stops TooDeep state) = refl
returned_state own (Stops Nexted state) = refl
returned_state own (Stops Exited state) = refl

entered_grows : (room : ℕ) (locals : List Local) (body : Execution Flow) → OutputGrows body → (state : State) → Grows state.shared.output (output_at (entered_with room locals body state))
entered_grows zero locals body p state = same state.shared.output
entered_grows (suc room) locals body p state =
    subst (λ (s : State). Grows state.shared.output s.shared.output) (sym (returned_state state.own (body (record state { own = record { locals = locals; calls_left = room } })))) (p.grows (record state { own = record { locals = locals; calls_left = room } }))

entered_spends : (room : ℕ) (locals : List Local) (body : Execution Flow) → OutputGrows body → (state : State) → (state_at (entered_with room locals body state)).turns ≤ state.turns
entered_spends zero locals body p state = omega arith
entered_spends (suc room) locals body p state =
    subst (λ (s : State). s.turns ≤ state.turns) (sym (returned_state state.own (body (record state { own = record { locals = locals; calls_left = room } })))) (p.spends (record state { own = record { locals = locals; calls_left = room } }))

pub entered_tame : (locals : List Local) (body : Execution Flow) → OutputGrows body → OutputGrows (entered locals body)
entered_tame locals body p = record { grows = λ state. entered_grows state.own.calls_left locals body p state; spends = λ state. entered_spends state.own.calls_left locals body p state }

pub tame_run : ClosedRun GrowsOutput
tame_run = record { closed = tame_closed; records = λ m m' p. record_tame m p; parts = λ m m' p. part_tame m p }

tame_calls : ClosedCalls GrowsOutput GrowsOutput
tame_calls = record { entries = λ locals body body' p. entered_tame locals body p; costs = λ m m' p. then_tame spend (λ u. m) spend_tame (λ u. p); none_left = stop_tame OutOfTurns }

pub program_tame : (p : Program) (n : ℕ) → OutputGrows (all_parts n (mid_parts n p))
program_tame p n = run_same_fuel GrowsOutput GrowsOutput tame_run tame_calls (λ A. stop_tame OutOfTurns) p n

pub called_tame : (p : Program) (n f : ℕ) (locals : List Local) → OutputGrows (mid_called p n f locals)
called_tame p n f locals = called_same_fuel GrowsOutput GrowsOutput tame_run tame_calls (λ A. stop_tame OutOfTurns) p n f locals

-- Room for calls.

abbrev pub Fits : {A : Type 0} → State → Outcome A → Type 0
Fits before (Gives a state) = (state.turns ≤ before.turns) × (state.own.calls_left ≡ before.own.calls_left)
Fits before (Stops TooDeep state) = ⊥
Fits before (Stops why state) = (state.turns ≤ before.turns) × (state.own.calls_left ≡ before.own.calls_left)

-- where there is room for a call with each turn
abbrev pub IsShallow : Relation
IsShallow A m m' = (state : State) → state.turns ≤ state.own.calls_left → Fits state (m state)

fits_from : {A : Type 0} (s t : State) (o : Outcome A) → s.turns ≤ t.turns → s.own.calls_left ≡ t.own.calls_left → Fits s o → Fits t o
fits_from s t (Gives a state) l e f = ((let x = f.0 in omega (arith, l, x)), f.1 ∙ e)
fits_from s t (Stops TooDeep state) l e f = absurd f
fits_from s t (Stops (Faulted fault) state) l e f = ((let x = f.0 in omega (arith, l, x)), f.1 ∙ e)
fits_from s t (Stops OutOfTurns state) l e f = ((let x = f.0 in omega (arith, l, x)), f.1 ∙ e)
fits_from s t (Stops Nexted state) l e f = ((let x = f.0 in omega (arith, l, x)), f.1 ∙ e)
fits_from s t (Stops Exited state) l e f = ((let x = f.0 in omega (arith, l, x)), f.1 ∙ e)
fits_from s t (Stops (Returned v) state) l e f = ((let x = f.0 in omega (arith, l, x)), f.1 ∙ e)

then_fits : {A B : Type 0} (before : State) (o : Outcome A) (f : A → Execution B) → before.turns ≤ before.own.calls_left → Fits before o → ((a : A) (state : State) → state.turns ≤ state.own.calls_left → Fits state (f a state)) → Fits before (go_on o f)
then_fits before (Gives a state) f l p h = fits_from state before (f a state) p.0 p.1 (h a state (let x = p.0 in let y = p.1 in omega (arith, l, x, y)))
then_fits before (Stops TooDeep state) f l p h = p
then_fits before (Stops (Faulted fault) state) f l p h = p
then_fits before (Stops OutOfTurns state) f l p h = p
then_fits before (Stops Nexted state) f l p h = p
then_fits before (Stops Exited state) f l p h = p
then_fits before (Stops (Returned v) state) f l p h = p

stop_fits : (A : Type 0) (why : Stop) → IsPlainStop why → (state : State) → state.turns ≤ state.own.calls_left → Fits {A = A} state (stop why state)
stop_fits A (Faulted fault) p state l = (omega arith, refl)
stop_fits A OutOfTurns p state l = absurd p
stop_fits A TooDeep p state l = absurd p
stop_fits A Nexted p state l = (omega arith, refl)
stop_fits A Exited p state l = (omega arith, refl)
stop_fits A (Returned v) p state l = (omega arith, refl)

settled_fits : {A : Type 0} (r : Result A Fault) (before state : State) → state.turns ≡ before.turns → state.own.calls_left ≡ before.own.calls_left → Fits before (settled r state)
settled_fits (Ok a) before state e q = (omega (arith, e), q)
settled_fits (Err fault) before state e q = (omega (arith, e), q)

spent_fits : (n : ℕ) (state : State) → n ≡ state.turns → Fits state (spent n state)
spent_fits zero state e = (omega arith, refl)
spent_fits (suc n) state e = (omega (arith, e), refl)

pub shallow_closed : Closed IsShallow
shallow_closed = record {
  gives = λ A a state l. (omega arith, refl);
  settles = λ A r state l. settled_fits r state state refl refl;
  performs = λ A b f state l. settled_fits (or_fault b (f state.shared).answer) state _ refl refl;
  looks = λ A f h state l. (omega arith, refl);
  changes = λ f s state l. ((let e = s.turns state in omega (arith, e)), s.room state);
  stops = stop_fits;
  spends = λ state l. spent_fits state.turns state refl;
  binds = λ A B m m' f f' p h state l. then_fits state (m state) f l (p state l) h;
}

next_fits : (before : State) (o : Outcome (Unit {0})) → Fits before o → Fits before (next_over o)
next_fits before (Gives u state) f = f
next_fits before (Stops Nexted state) f = f
next_fits before (Stops (Faulted fault) state) f = f
next_fits before (Stops OutOfTurns state) f = f
next_fits before (Stops TooDeep state) f = absurd f
next_fits before (Stops Exited state) f = f
next_fits before (Stops (Returned x) state) f = f

part_fits : (before : State) (o : Outcome (Unit {0})) → Fits before o → Fits before (part_over o)
part_fits before (Gives u state) f = f
part_fits before (Stops Nexted state) f = f
part_fits before (Stops (Faulted fault) state) f = f
part_fits before (Stops OutOfTurns state) f = f
part_fits before (Stops TooDeep state) f = absurd f
part_fits before (Stops Exited state) f = f
part_fits before (Stops (Returned x) state) f = f

shallow_run : ClosedRun IsShallow
shallow_run = record { closed = shallow_closed; records = λ m m' p state l. next_fits state (m state) (p state l); parts = λ m m' p state l. part_fits state (m state) (p state l) }

-- a call that has cost its turn
abbrev pub IsShallowCall : Relation
IsShallowCall A m m' = (state : State) → suc state.turns ≤ state.own.calls_left → Fits state (m state)

returned_fits : (before inner : State) (o : Outcome Flow) → inner.turns ≡ before.turns → Fits inner o → Fits before (returned before.own o)
returned_fits before inner (Gives flow state) e f = ((let x = f.0 in omega (arith, e, x)), refl)
returned_fits before inner (Stops (Returned x) state) e f = ((let y = f.0 in omega (arith, e, y)), refl)
returned_fits before inner (Stops (Faulted fault) state) e f = ((let x = f.0 in omega (arith, e, x)), refl)
returned_fits before inner (Stops OutOfTurns state) e f = ((let x = f.0 in omega (arith, e, x)), refl)
returned_fits before inner (Stops TooDeep state) e f = absurd f
returned_fits before inner (Stops Nexted state) e f = ((let x = f.0 in omega (arith, e, x)), refl)
returned_fits before inner (Stops Exited state) e f = ((let x = f.0 in omega (arith, e, x)), refl)

entered_fits : (room : ℕ) (locals : List Local) (body : Execution Flow) → IsShallow Flow body body → (state : State) → suc state.turns ≤ room → Fits state (entered_with room locals body state)
entered_fits zero locals body p state l = absurd (omega (arith, l))
entered_fits (suc room) locals body p state l =
    returned_fits state (record state { own = record { locals = locals; calls_left = room } }) (body (record state { own = record { locals = locals; calls_left = room } })) refl (p (record state { own = record { locals = locals; calls_left = room } }) (omega (arith, l)))

cost_fits : (n : ℕ) (m : Execution Value) → IsShallowCall Value m m → (state : State) → n ≡ state.turns → state.turns ≤ state.own.calls_left → Fits state (go_on (spent n state) (λ u. m))
cost_fits zero m p state e l = (omega arith, refl)
cost_fits (suc n) m p state e l =
    fits_from (record state { turns = n }) state (m (record state { turns = n })) (omega (arith, e)) refl (p (record state { turns = n }) (omega (arith, e, l)))

shallow_calls : ClosedCalls IsShallow IsShallowCall
shallow_calls = record {
  entries = λ locals body body' p state l. entered_fits state.own.calls_left locals body p state l;
  costs = λ m m' p state l. cost_fits state.turns m p state refl l;
  none_left = λ state l. (omega arith, refl);
}

pub program_shallow : (p : Program) (n : ℕ) → IsShallow (Unit {0}) (all_parts n (mid_parts n p)) (all_parts n (mid_parts n p))
program_shallow p n = run_same_fuel IsShallow IsShallowCall shallow_run shallow_calls (λ A state l. (omega arith, refl)) p n
