-- With more turns, and so more fuel, the same is done, up to the turns that are left.
use Rattle.std.proofs.Common.{◌≡◌, ℕ, zero, suc, ◌≤◌, ◌+◌, ◌-◌, Bool, List, Option, Some, None, Result, Ok, Err, refl, sym, ap, subst, ◌∙◌, arith}
use Rattle.std.specs.Prelude.{if◌then◌else◌, map}
use Rattle.awk_values.specs.declared.fault.Fault.{Fault}
use Rattle.awk_values.specs.declared.value.Value.{Value}
use Rattle.sem_primitives.specs.Jobs.{fault_of_job}
use Rattle.sem_primitives.specs.declared.answers.AssignAnswer.{AssignAnswer}
use Rattle.sem_primitives.specs.declared.answers.AssignAnswer.TheVariants as assign
use Rattle.sem_primitives.specs.declared.answers.InputAnswer.{InputAnswer}
use Rattle.sem_primitives.specs.declared.answers.InputAnswer.TheVariants as input
use Rattle.sem_scripts.specs.Names.{names_length}
use Rattle.sem_primitives.specs.declared.table.Primitive.TheVariants as row
use Rattle.sem_scripts.specs.ScriptState.{Local, CallFrame, State, Stop, Faulted, OutOfTurns, TooDeep, Nexted, Exited, Returned, Outcome, Gives, Stops, Execution, go_on, ◌>>=◌, ◌>>◌, give, nothing, stop, change, settled, or_fault, call, asks, spent, spend}
use Rattle.sem_scripts.specs.Meaning.{Calls, unless_pending, asked, assign_pending}
use Rattle.sem_scripts.specs.Statements.{Flow, Normal, after_round, loop, at_key, over_keys, returned, entered_with, entered}
use Rattle.sem_scripts.specs.ScriptRun.{on_assignment, first_assigned, next_over, for_record, on_input, records_done, part_over, part, all_parts, ending, unless, start, Setting}
use Rattle.sem_scripts.specs.MoreTurns.{Grows, IsKept, output_of}
use Rattle.mid_program.specs.Mid.{Steps, Program}
use Rattle.mid_program.specs.Sorted.{calls_of}
use Rattle.mid_program.specs.MidMeaning.{all_stepped, global_name, routine_name, routine_at, mid_called, mid_done, mid_parts, mid_run_in}
use Rattle.mid_meaning.proofs.Related.{Relation, Closed, ClosedRun, Fuelled, IsPlainStop, Still, at_turns, does_related, asks_related, chosen_related, round_related, pending_related, pending_or, asked_same, loop_same, keys_same, first_same, records_same, steps_related, parts_related}
use Rattle.mid_meaning.proofs.OutputGrows.{OutputGrows, GrowsOutput, state_at, output_at, same, grows_on, then_tame, settled_tame, perform_tame, give_tame, stop_tame, spent_grows, spend_tame, tame_closed, record_tame, part_tame, returned_state, next_state, part_state, entered_tame, called_tame}

-- a sum by clauses
abbrev pub plus : ℕ → ℕ → ℕ
plus zero d = d
plus (suc n) d = suc (plus n d)

plus_is : (n d : ℕ) → plus n d ≡ n + d
plus_is zero d = omega arith
plus_is (suc n) d = (let e = plus_is n d in omega (arith, e))

-- with so many turns more
abbrev pub more : ℕ → State → State
more d state = at_turns (plus state.turns d) state

abbrev pub Keeps : {A : Type 0} → ℕ → Outcome A → Outcome A → Type 0
Keeps d (Gives a state) later = later ≡ Gives a (more d state)
Keeps d (Stops OutOfTurns state) later = Grows state.shared.output (output_at later)
Keeps d (Stops why state) later = later ≡ Stops why (more d state)

-- what is done with at most n turns, and with d more
pub record FuelMonotone {A : Type 0} (n d : ℕ) (m m' : Execution A) : Type 0 where
  pub before : OutputGrows m
  pub after : OutputGrows m'
  pub keeps : (state : State) → state.turns ≤ n → Keeps d (m state) (m' (more d state))

abbrev pub IsFuelMonotone : (n d : ℕ) → Relation
IsFuelMonotone n d A m m' = FuelMonotone n d m m'

keeps_settled : {A : Type 0} (d : ℕ) (r : Result A Fault) (state : State) → Keeps d (settled r state) (settled r (more d state))
keeps_settled d (Ok a) state = refl
keeps_settled d (Err fault) state = refl

then_grows : {A B : Type 0} (o : Outcome A) (f : A → Execution B) → ((a : A) → OutputGrows (f a)) → Grows (output_at o) (output_at (go_on o f))
then_grows (Gives a state) f h = (h a).grows state
then_grows (Stops why state) f h = same state.shared.output

keeps_then : {A B : Type 0} (n d : ℕ) (o o' : Outcome A) (f f' : A → Execution B) → (state_at o).turns ≤ n → Keeps d o o' → ((a : A) → FuelMonotone n d (f a) (f' a)) → Keeps d (go_on o f) (go_on o' f')
keeps_then n d (Gives a state) o' f f' l kept s = subst (λ x. Keeps d (f a state) (go_on x f')) (sym kept) ((s a).keeps state l)
keeps_then n d (Stops OutOfTurns state) o' f f' l kept s = grows_on state.shared.output (output_at o') (output_at (go_on o' f')) kept (then_grows o' f' (λ a. (s a).after))
keeps_then n d (Stops (Faulted fault) state) o' f f' l kept s = ap (λ x. go_on x f') kept
keeps_then n d (Stops TooDeep state) o' f f' l kept s = ap (λ x. go_on x f') kept
keeps_then n d (Stops Nexted state) o' f f' l kept s = ap (λ x. go_on x f') kept
keeps_then n d (Stops Exited state) o' f f' l kept s = ap (λ x. go_on x f') kept
keeps_then n d (Stops (Returned v) state) o' f f' l kept s = ap (λ x. go_on x f') kept

then_steady : {A B : Type 0} (n d : ℕ) (m m' : Execution A) (f f' : A → Execution B) → FuelMonotone n d m m' → ((a : A) → FuelMonotone n d (f a) (f' a)) → FuelMonotone n d (m >>= f) (m' >>= f')
then_steady n d m m' f f' p h = record {
  before = then_tame m f p.before (λ a. (h a).before);
  after = then_tame m' f' p.after (λ a. (h a).after);
  keeps = λ state l. keeps_then n d (m state) (m' (more d state)) f f' (let x = p.before.spends state in omega (arith, l, x)) (p.keeps state l) h;
}

stop_keeps : (A : Type 0) (d : ℕ) (why : Stop) → IsPlainStop why → (state : State) → Keeps {A = A} d (stop why state) (stop why (more d state))
stop_keeps A d (Faulted fault) p state = refl
stop_keeps A d OutOfTurns p state = absurd p
stop_keeps A d TooDeep p state = absurd p
stop_keeps A d Nexted p state = refl
stop_keeps A d Exited p state = refl
stop_keeps A d (Returned v) p state = refl

spent_grows_then : {A : Type 0} (t : ℕ) (state : State) (m : Execution A) → OutputGrows m → Grows state.shared.output (output_at (go_on (spent t state) (λ u. m)))
spent_grows_then zero state m p = same state.shared.output
spent_grows_then (suc t) state m p = p.grows (at_turns t state)

spent_keeps : (d t : ℕ) (state : State) → Keeps d (spent t state) (spent (plus t d) (at_turns (plus t d) state))
spent_keeps d zero state = spent_grows d (at_turns d state)
spent_keeps d (suc t) state = refl

abbrev given_state : State → Outcome (Unit {0})
given_state state = Gives tt state

change_keeps : (d : ℕ) (f : State → State) → Still f → (state : State) → Keeps {A = Unit {0}} d (change f state) (change f (more d state))
change_keeps d f s state = ap given_state (s.apart state (plus state.turns d) ∙ ap (λ (t : ℕ). at_turns (plus t d) (f state)) (sym (s.turns state)))

give_steady : {A : Type 0} (n d : ℕ) (a : A) → FuelMonotone n d (give a) (give a)
give_steady n d a = record { before = give_tame a; after = give_tame a; keeps = λ state l. refl }

spend_steady : (n d : ℕ) → FuelMonotone n d spend spend
spend_steady n d = record { before = spend_tame; after = spend_tame; keeps = λ state l. spent_keeps d state.turns state }

pub steady_closed : (n d : ℕ) → Closed (IsFuelMonotone n d)
steady_closed n d = record {
  gives = λ A a. give_steady n d a;
  settles = λ A r. record { before = settled_tame r; after = settled_tame r; keeps = λ state l. keeps_settled d r state };
  performs = λ A b f. record { before = perform_tame b f; after = perform_tame b f; keeps = λ state l. keeps_settled d (or_fault b (f state.shared).answer) _ };
  looks = λ A f h. record { before = tame_closed.looks A f h; after = tame_closed.looks A f h; keeps = λ state l i. Gives (h state (plus state.turns d) i) (more d state) };
  changes = λ f s. record { before = tame_closed.changes f s; after = tame_closed.changes f s; keeps = λ state l. change_keeps d f s state };
  stops = λ A why p. record { before = stop_tame why; after = stop_tame why; keeps = λ state l. stop_keeps A d why p state };
  spends = spend_steady n d;
  binds = λ A B m m' f f' p h. then_steady n d m m' f f' p h;
}

-- with fewer turns
fewer : {A : Type 0} (k n d : ℕ) (m m' : Execution A) → k ≤ n → FuelMonotone n d m m' → FuelMonotone k d m m'
fewer k n d m m' le p = record { before = p.before; after = p.after; keeps = λ state l. p.keeps state (omega (arith, le, l)) }

-- no turn left, and whatever more turns do
out_steady : {A : Type 0} (n d : ℕ) (m' : Execution A) → OutputGrows m' → FuelMonotone n d (stop OutOfTurns) m'
out_steady n d m' p = record { before = stop_tame OutOfTurns; after = p; keeps = λ state l. p.grows (more d state) }

-- a turn less for what follows
spend_keeps : {A : Type 0} (k d t : ℕ) (m m' : Execution A) → FuelMonotone k d m m' → (state : State) → t ≤ suc k → Keeps d (go_on (spent t state) (λ u. m)) (go_on (spent (plus t d) (at_turns (plus t d) state)) (λ u. m'))
spend_keeps k d zero m m' p state l = spent_grows_then d (at_turns d state) m' p.after
spend_keeps k d (suc t) m m' p state l = p.keeps (at_turns t state) (omega (arith, l))

spend_then : {A : Type 0} (k d : ℕ) (m m' : Execution A) → FuelMonotone k d m m' → FuelMonotone (suc k) d (spend >> m) (spend >> m')
spend_then k d m m' p = record {
  before = then_tame spend (λ u. m) spend_tame (λ u. p.before);
  after = then_tame spend (λ u. m') spend_tame (λ u. p.after);
  keeps = λ state l. spend_keeps k d state.turns m m' p state l;
}

none_keeps : {A : Type 0} (d t : ℕ) (m m' : Execution A) → OutputGrows m' → (state : State) → t ≤ 0 → Keeps d (go_on (spent t state) (λ u. m)) (go_on (spent (plus t d) (at_turns (plus t d) state)) (λ u. m'))
none_keeps d zero m m' p state l = spent_grows_then d (at_turns d state) m' p
none_keeps d (suc t) m m' p state l = absurd (omega (arith, l))

none_then : {A : Type 0} (d : ℕ) (m m' : Execution A) → OutputGrows m → OutputGrows m' → FuelMonotone 0 d (spend >> m) (spend >> m')
none_then d m m' p q = record {
  before = then_tame spend (λ u. m) spend_tame (λ u. p);
  after = then_tame spend (λ u. m') spend_tame (λ u. q);
  keeps = λ state l. none_keeps d state.turns m m' q state l;
}

outs : (A : Type 0) → OutputGrows {A = A} (stop OutOfTurns)
outs A = stop_tame OutOfTurns

-- Reads, loops and walks: fuel ends no sooner than turns.

asked_zero : (d : ℕ) (ask ask' : Execution InputAnswer) → FuelMonotone 0 d ask ask' → FuelMonotone 0 d (asked zero ask) (asked d ask')
unfolding asked
asked_zero zero ask ask' p = then_steady 0 zero ask ask' (unless_pending (stop OutOfTurns) give) (unless_pending (stop OutOfTurns) give) p (pending_or (IsFuelMonotone 0 zero) (steady_closed 0 zero) (λ A. out_steady 0 zero (stop OutOfTurns) (outs A)) (stop OutOfTurns) (stop OutOfTurns) give (out_steady 0 zero (stop OutOfTurns) (outs _)) (λ a. give_steady 0 zero a))
asked_zero (suc e) ask ask' p =
    then_steady 0 (suc e) ask ask' (unless_pending (stop OutOfTurns) give) (unless_pending (spend >> assign_pending >> asked e ask') give) p
    (pending_or (IsFuelMonotone 0 (suc e)) (steady_closed 0 (suc e)) (λ A. out_steady 0 (suc e) (stop OutOfTurns) (outs A)) (stop OutOfTurns) (spend >> assign_pending >> asked e ask') give
    (out_steady 0 (suc e) (spend >> assign_pending >> asked e ask') (then_tame spend (λ u. assign_pending >> asked e ask') spend_tame (λ u. then_tame assign_pending (λ v. asked e ask') (pending_related GrowsOutput tame_closed) (λ v. asked_same GrowsOutput tame_closed outs e ask' ask' p.after))))
    (λ a. give_steady 0 (suc e) a))

asked_steady : (k n d : ℕ) (ask ask' : Execution InputAnswer) → k ≤ n → FuelMonotone n d ask ask' → FuelMonotone k d (asked k ask) (asked (plus k d) ask')
unfolding asked
asked_steady zero n d ask ask' le p = asked_zero d ask ask' (fewer 0 n d ask ask' le p)
asked_steady (suc k) n d ask ask' le p =
    then_steady (suc k) d ask ask' (unless_pending (spend >> assign_pending >> asked k ask) give) (unless_pending (spend >> assign_pending >> asked (plus k d) ask') give) (fewer (suc k) n d ask ask' le p)
    (pending_or (IsFuelMonotone (suc k) d) (steady_closed (suc k) d) (λ A. out_steady (suc k) d (stop OutOfTurns) (outs A)) (spend >> assign_pending >> asked k ask) (spend >> assign_pending >> asked (plus k d) ask') give
    (spend_then k d (assign_pending >> asked k ask) (assign_pending >> asked (plus k d) ask')
    (then_steady k d assign_pending assign_pending (λ v. asked k ask) (λ v. asked (plus k d) ask') (pending_related (IsFuelMonotone k d) (steady_closed k d)) (λ v. asked_steady k n d ask ask' (omega (arith, le)) p)))
    (λ a. give_steady (suc k) d a))

loop_steady : (k n d : ℕ) (test test' : Execution Bool) (body body' : Execution Flow) (step step' : Execution (Unit {0})) → k ≤ n → FuelMonotone n d test test' → FuelMonotone n d body body' → FuelMonotone n d step step' → FuelMonotone k d (loop k test body step) (loop (plus k d) test' body' step')
unfolding loop
loop_steady zero n d test test' body body' step step' le p q r = out_steady 0 d (loop d test' body' step') (loop_same GrowsOutput tame_closed outs d test' test' body' body' step' step' p.after q.after r.after)
loop_steady (suc k) n d test test' body body' step step' le p q r =
    let c = steady_closed k d in
    let lk : k ≤ n = omega (arith, le) in
    spend_then k d (test >>= λ b. if b then (body >>= λ flow. after_round flow (step >> loop k test body step)) else give Normal) (test' >>= λ b. if b then (body' >>= λ flow. after_round flow (step' >> loop (plus k d) test' body' step')) else give Normal)
    (then_steady k d test test' (λ b. if b then (body >>= λ flow. after_round flow (step >> loop k test body step)) else give Normal) (λ b. if b then (body' >>= λ flow. after_round flow (step' >> loop (plus k d) test' body' step')) else give Normal) (fewer k n d test test' lk p)
    (λ b. chosen_related (IsFuelMonotone k d) c b (body >>= λ flow. after_round flow (step >> loop k test body step)) (body' >>= λ flow. after_round flow (step' >> loop (plus k d) test' body' step')) (give Normal) (give Normal)
    (then_steady k d body body' (λ flow. after_round flow (step >> loop k test body step)) (λ flow. after_round flow (step' >> loop (plus k d) test' body' step')) (fewer k n d body body' lk q)
    (λ flow. round_related (IsFuelMonotone k d) c flow (step >> loop k test body step) (step' >> loop (plus k d) test' body' step')
    (then_steady k d step step' (λ v. loop k test body step) (λ v. loop (plus k d) test' body' step') (fewer k n d step step' lk r) (λ v. loop_steady k n d test test' body body' step step' lk p q r))))
    (give_steady k d Normal)))

key_none : (d : ℕ) (go go' : Value → Execution Flow) → ((key : Value) → OutputGrows (go key)) → ((key : Value) → OutputGrows (go' key)) → (o : Option Value) → FuelMonotone 0 d (at_key go o) (at_key go' o)
key_none d go go' p q None = give_steady 0 d Normal
key_none d go go' p q (Some key) = none_then d (go key) (go' key) (p key) (q key)

key_some : (k d : ℕ) (go go' : Value → Execution Flow) → ((key : Value) → FuelMonotone k d (go key) (go' key)) → (o : Option Value) → FuelMonotone (suc k) d (at_key go o) (at_key go' o)
key_some k d go go' h None = give_steady (suc k) d Normal
key_some k d go go' h (Some key) = spend_then k d (go key) (go' key) (h key)

walk_tame : (e keys : ℕ) (store : Value → Execution (Unit {0})) (body : Execution Flow) → ((key : Value) → OutputGrows (store key)) → OutputGrows body → (key : Value) → OutputGrows (store key >> body >>= λ flow. after_round flow (over_keys e keys store body))
walk_tame e keys store body p q key = then_tame (store key) (λ u. body >>= λ flow. after_round flow (over_keys e keys store body)) (p key)
    (λ u. then_tame body (λ flow. after_round flow (over_keys e keys store body)) q (λ flow. round_related GrowsOutput tame_closed flow (over_keys e keys store body) (over_keys e keys store body) (keys_same GrowsOutput tame_closed outs e keys store store body body p q)))

keys_zero : (d keys : ℕ) (store' : Value → Execution (Unit {0})) (body' : Execution Flow) → ((key : Value) → OutputGrows (store' key)) → OutputGrows body' → (store : Value → Execution (Unit {0})) (body : Execution Flow) → FuelMonotone 0 d (over_keys zero keys store body) (over_keys d keys store' body')
unfolding over_keys
keys_zero zero keys store' body' p q store body = then_steady 0 zero (call row.IterNext (keys, tt)) (call row.IterNext (keys, tt)) (at_key (λ key. stop OutOfTurns)) (at_key (λ key. stop OutOfTurns)) (does_related (IsFuelMonotone 0 zero) (steady_closed 0 zero) row.IterNext (keys, tt)) (key_none zero (λ key. stop OutOfTurns) (λ key. stop OutOfTurns) (λ key. outs _) (λ key. outs _))
keys_zero (suc e) keys store' body' p q store body = then_steady 0 (suc e) (call row.IterNext (keys, tt)) (call row.IterNext (keys, tt)) (at_key (λ key. stop OutOfTurns)) (at_key (λ key. store' key >> body' >>= λ flow. after_round flow (over_keys e keys store' body'))) (does_related (IsFuelMonotone 0 (suc e)) (steady_closed 0 (suc e)) row.IterNext (keys, tt))
    (key_none (suc e) (λ key. stop OutOfTurns) (λ key. store' key >> body' >>= λ flow. after_round flow (over_keys e keys store' body')) (λ key. outs _) (walk_tame e keys store' body' p q))

keys_steady : (k n d keys : ℕ) (store store' : Value → Execution (Unit {0})) (body body' : Execution Flow) → k ≤ n → ((key : Value) → FuelMonotone n d (store key) (store' key)) → FuelMonotone n d body body' → FuelMonotone k d (over_keys k keys store body) (over_keys (plus k d) keys store' body')
unfolding over_keys
keys_steady zero n d keys store store' body body' le p q = keys_zero d keys store' body' (λ key. (p key).after) q.after store body
keys_steady (suc k) n d keys store store' body body' le p q =
    let lk : k ≤ n = omega (arith, le) in
    then_steady (suc k) d (call row.IterNext (keys, tt)) (call row.IterNext (keys, tt)) (at_key (λ key. store key >> body >>= λ flow. after_round flow (over_keys k keys store body))) (at_key (λ key. store' key >> body' >>= λ flow. after_round flow (over_keys (plus k d) keys store' body'))) (does_related (IsFuelMonotone (suc k) d) (steady_closed (suc k) d) row.IterNext (keys, tt))
    (key_some k d (λ key. store key >> body >>= λ flow. after_round flow (over_keys k keys store body)) (λ key. store' key >> body' >>= λ flow. after_round flow (over_keys (plus k d) keys store' body'))
    (λ key. then_steady k d (store key) (store' key) (λ u. body >>= λ flow. after_round flow (over_keys k keys store body)) (λ u. body' >>= λ flow. after_round flow (over_keys (plus k d) keys store' body')) (fewer k n d (store key) (store' key) lk (p key))
    (λ u. then_steady k d body body' (λ flow. after_round flow (over_keys k keys store body)) (λ flow. after_round flow (over_keys (plus k d) keys store' body')) (fewer k n d body body' lk q)
    (λ flow. round_related (IsFuelMonotone k d) (steady_closed k d) flow (over_keys k keys store body) (over_keys (plus k d) keys store' body') (keys_steady k n d keys store store' body body' lk p q)))))

-- Calls.

returned_keeps : (d : ℕ) (own : CallFrame) (o o' : Outcome Flow) → Keeps d o o' → Keeps d (returned own o) (returned own o')
returned_keeps d own (Gives flow state) o' h = ap (returned own) h
returned_keeps d own (Stops (Returned x) state) o' h = ap (returned own) h
returned_keeps d own (Stops (Faulted fault) state) o' h = ap (returned own) h
returned_keeps d own (Stops OutOfTurns state) o' h = subst (λ (s : State). Grows state.shared.output s.shared.output) (sym (returned_state own o')) h
returned_keeps d own (Stops TooDeep state) o' h = ap (returned own) h
returned_keeps d own (Stops Nexted state) o' h = ap (returned own) h
returned_keeps d own (Stops Exited state) o' h = ap (returned own) h

entered_keeps : (k d room : ℕ) (locals : List Local) (body body' : Execution Flow) → FuelMonotone k d body body' → (state : State) → state.turns ≤ k → Keeps d (entered_with room locals body state) (entered_with room locals body' (more d state))
entered_keeps k d zero locals body body' p state l = refl
entered_keeps k d (suc room) locals body body' p state l =
    returned_keeps d state.own (body (record state { own = record { locals = locals; calls_left = room } })) (body' (more d (record state { own = record { locals = locals; calls_left = room } }))) (p.keeps (record state { own = record { locals = locals; calls_left = room } }) l)

entered_steady : (k d : ℕ) (locals : List Local) (body body' : Execution Flow) → FuelMonotone k d body body' → FuelMonotone k d (entered locals body) (entered locals body')
entered_steady k d locals body body' p = record { before = entered_tame locals body p.before; after = entered_tame locals body' p.after; keeps = λ state l. entered_keeps k d state.own.calls_left locals body body' p state l }

-- a call has cost a turn already
abbrev SteadyCall : (n d : ℕ) → Execution Value → Execution Value → Type 0
SteadyCall zero d m m' = OutputGrows m × OutputGrows m'
SteadyCall (suc k) d m m' = FuelMonotone k d m m'

call_steady : (n d : ℕ) (m m' : Execution Value) → SteadyCall n d m m' → FuelMonotone n d (spend >> m) (spend >> m')
call_steady zero d m m' p = none_then d m m' p.0 p.1
call_steady (suc k) d m m' p = spend_then k d m m' p

fuelled_steady : (n d : ℕ) (calls calls' : Calls) → ((f : ℕ) (locals : List Local) → SteadyCall n d (calls f locals) (calls' f locals)) → Fuelled (IsFuelMonotone n d) n (plus n d) calls calls'
fuelled_steady n d calls calls' h = record {
  closed = steady_closed n d;
  asking = λ ask ask' p. asked_steady n n d ask ask' (omega arith) p;
  looping = λ test test' body body' step step' p q r. loop_steady n n d test test' body body' step step' (omega arith) p q r;
  walking = λ keys store store' body body' p q. keys_steady n n d keys store store' body body' (omega arith) p q;
  calling = λ f locals. call_steady n d (calls f locals) (calls' f locals) (h f locals);
}

called_steady : (p : Program) (n d f : ℕ) (locals : List Local) → SteadyCall n d (mid_called p n f locals) (mid_called p (plus n d) f locals)
unfolding mid_called
called_steady p zero d f locals = (called_tame p zero f locals, called_tame p d f locals)
called_steady p (suc k) d f locals =
    entered_steady k d locals (all_stepped p.texts (calls_of p) k (mid_called p k) (routine_at p.routines f).body) (all_stepped p.texts (calls_of p) (plus k d) (mid_called p (plus k d)) (routine_at p.routines f).body)
    (steps_related (IsFuelMonotone k d) p.texts (calls_of p) k (plus k d) (mid_called p k) (mid_called p (plus k d)) (fuelled_steady k d (mid_called p k) (mid_called p (plus k d)) (called_steady p k d)) (routine_at p.routines f).body)

-- Runs.

next_keeps : (d : ℕ) (o o' : Outcome (Unit {0})) → Keeps d o o' → Keeps d (next_over o) (next_over o')
next_keeps d (Gives u state) o' h = ap next_over h
next_keeps d (Stops Nexted state) o' h = ap next_over h
next_keeps d (Stops (Faulted fault) state) o' h = ap next_over h
next_keeps d (Stops OutOfTurns state) o' h = subst (λ (s : State). Grows state.shared.output s.shared.output) (sym (next_state o')) h
next_keeps d (Stops TooDeep state) o' h = ap next_over h
next_keeps d (Stops Exited state) o' h = ap next_over h
next_keeps d (Stops (Returned x) state) o' h = ap next_over h

part_keeps : (d : ℕ) (o o' : Outcome (Unit {0})) → Keeps d o o' → Keeps d (part_over o) (part_over o')
part_keeps d (Gives u state) o' h = ap part_over h
part_keeps d (Stops Nexted state) o' h = ap part_over h
part_keeps d (Stops (Faulted fault) state) o' h = ap part_over h
part_keeps d (Stops OutOfTurns state) o' h = subst (λ (s : State). Grows state.shared.output s.shared.output) (sym (part_state o')) h
part_keeps d (Stops TooDeep state) o' h = ap part_over h
part_keeps d (Stops Exited state) o' h = ap part_over h
part_keeps d (Stops (Returned x) state) o' h = ap part_over h

record_steady : (n d : ℕ) (m m' : Execution (Unit {0})) → FuelMonotone n d m m' → FuelMonotone n d (for_record m) (for_record m')
record_steady n d m m' p = record { before = record_tame m p.before; after = record_tame m' p.after; keeps = λ state l. next_keeps d (m state) (m' (more d state)) (p.keeps state l) }

part_steady : (n d : ℕ) (m m' : Execution (Unit {0})) → FuelMonotone n d m m' → FuelMonotone n d (part m) (part m')
part_steady n d m m' p = record { before = part_tame m p.before; after = part_tame m' p.after; keeps = λ state l. part_keeps d (m state) (m' (more d state)) (p.keeps state l) }

run_steady : (n d : ℕ) → ClosedRun (IsFuelMonotone n d)
run_steady n d = record { closed = steady_closed n d; records = record_steady n d; parts = part_steady n d }

assignment_none : (d : ℕ) (go go' : Execution (Unit {0})) → OutputGrows go → OutputGrows go' → (a : AssignAnswer) → FuelMonotone 0 d (on_assignment go a) (on_assignment go' a)
assignment_none d go go' p q assign.Pending = none_then d go go' p q
assignment_none d go go' p q assign.NoneLeft = give_steady 0 d tt

assignment_some : (k d : ℕ) (go go' : Execution (Unit {0})) → FuelMonotone k d go go' → (a : AssignAnswer) → FuelMonotone (suc k) d (on_assignment go a) (on_assignment go' a)
assignment_some k d go go' p assign.Pending = spend_then k d go go' p
assignment_some k d go go' p assign.NoneLeft = give_steady (suc k) d tt

pending_tame : OutputGrows assign_pending
pending_tame = pending_related GrowsOutput tame_closed

first_zero : (d : ℕ) → FuelMonotone 0 d (first_assigned zero) (first_assigned d)
unfolding first_assigned
first_zero zero = then_steady 0 zero (asks row.StartAssign tt) (asks row.StartAssign tt) (on_assignment (stop OutOfTurns)) (on_assignment (stop OutOfTurns)) (asks_related (IsFuelMonotone 0 zero) (steady_closed 0 zero) row.StartAssign tt) (assignment_none zero (stop OutOfTurns) (stop OutOfTurns) (outs _) (outs _))
first_zero (suc e) = then_steady 0 (suc e) (asks row.StartAssign tt) (asks row.StartAssign tt) (on_assignment (stop OutOfTurns)) (on_assignment (assign_pending >> first_assigned e)) (asks_related (IsFuelMonotone 0 (suc e)) (steady_closed 0 (suc e)) row.StartAssign tt)
    (assignment_none (suc e) (stop OutOfTurns) (assign_pending >> first_assigned e) (outs _) (then_tame assign_pending (λ u. first_assigned e) pending_tame (λ u. first_same GrowsOutput tame_closed outs e)))

first_steady : (k d : ℕ) → FuelMonotone k d (first_assigned k) (first_assigned (plus k d))
unfolding first_assigned
first_steady zero d = first_zero d
first_steady (suc k) d = then_steady (suc k) d (asks row.StartAssign tt) (asks row.StartAssign tt) (on_assignment (assign_pending >> first_assigned k)) (on_assignment (assign_pending >> first_assigned (plus k d))) (asks_related (IsFuelMonotone (suc k) d) (steady_closed (suc k) d) row.StartAssign tt)
    (assignment_some k d (assign_pending >> first_assigned k) (assign_pending >> first_assigned (plus k d))
    (then_steady k d assign_pending assign_pending (λ u. first_assigned k) (λ u. first_assigned (plus k d)) (pending_related (IsFuelMonotone k d) (steady_closed k d)) (λ u. first_steady k d)))

input_none : (d : ℕ) (read read' pend pend' : Execution (Unit {0})) → OutputGrows read → OutputGrows read' → OutputGrows pend → OutputGrows pend' → (a : InputAnswer) → FuelMonotone 0 d (on_input read pend a) (on_input read' pend' a)
input_none d read read' pend pend' p q r s input.Read = none_then d read read' p q
input_none d read read' pend pend' p q r s input.Pending = none_then d pend pend' r s
input_none d read read' pend pend' p q r s input.End = give_steady 0 d tt
input_none d read read' pend pend' p q r s input.Failed = give_steady 0 d tt

input_some : (k d : ℕ) (read read' pend pend' : Execution (Unit {0})) → FuelMonotone k d read read' → FuelMonotone k d pend pend' → (a : InputAnswer) → FuelMonotone (suc k) d (on_input read pend a) (on_input read' pend' a)
input_some k d read read' pend pend' p q input.Read = spend_then k d read read' p
input_some k d read read' pend pend' p q input.Pending = spend_then k d pend pend' q
input_some k d read read' pend pend' p q input.End = give_steady (suc k) d tt
input_some k d read read' pend pend' p q input.Failed = give_steady (suc k) d tt

records_tame : (e : ℕ) (items : Execution (Unit {0})) → OutputGrows items → OutputGrows (records_done e items)
records_tame e items p = records_same GrowsOutput tame_closed outs (λ m m' q. record_tame m q) e items items p

records_zero : (d : ℕ) (items items' : Execution (Unit {0})) → OutputGrows items' → FuelMonotone 0 d (records_done zero items) (records_done d items')
unfolding records_done
records_zero zero items items' p = then_steady 0 zero (asks row.NextMain tt) (asks row.NextMain tt) (on_input (stop OutOfTurns) (stop OutOfTurns)) (on_input (stop OutOfTurns) (stop OutOfTurns)) (asks_related (IsFuelMonotone 0 zero) (steady_closed 0 zero) row.NextMain tt)
    (input_none zero (stop OutOfTurns) (stop OutOfTurns) (stop OutOfTurns) (stop OutOfTurns) (outs _) (outs _) (outs _) (outs _))
records_zero (suc e) items items' p = then_steady 0 (suc e) (asks row.NextMain tt) (asks row.NextMain tt) (on_input (stop OutOfTurns) (stop OutOfTurns)) (on_input (for_record items' >> records_done e items') (assign_pending >> records_done e items')) (asks_related (IsFuelMonotone 0 (suc e)) (steady_closed 0 (suc e)) row.NextMain tt)
    (input_none (suc e) (stop OutOfTurns) (for_record items' >> records_done e items') (stop OutOfTurns) (assign_pending >> records_done e items') (outs _) (then_tame (for_record items') (λ u. records_done e items') (record_tame items' p) (λ u. records_tame e items' p)) (outs _)
    (then_tame assign_pending (λ u. records_done e items') pending_tame (λ u. records_tame e items' p)))

records_steady : (k n d : ℕ) (items items' : Execution (Unit {0})) → k ≤ n → FuelMonotone n d items items' → FuelMonotone k d (records_done k items) (records_done (plus k d) items')
unfolding records_done
records_steady zero n d items items' le p = records_zero d items items' p.after
records_steady (suc k) n d items items' le p =
    let lk : k ≤ n = omega (arith, le) in
    then_steady (suc k) d (asks row.NextMain tt) (asks row.NextMain tt) (on_input (for_record items >> records_done k items) (assign_pending >> records_done k items)) (on_input (for_record items' >> records_done (plus k d) items') (assign_pending >> records_done (plus k d) items')) (asks_related (IsFuelMonotone (suc k) d) (steady_closed (suc k) d) row.NextMain tt)
    (input_some k d (for_record items >> records_done k items) (for_record items' >> records_done (plus k d) items') (assign_pending >> records_done k items) (assign_pending >> records_done (plus k d) items')
    (then_steady k d (for_record items) (for_record items') (λ u. records_done k items) (λ u. records_done (plus k d) items') (record_steady k d items items' (fewer k n d items items' lk p)) (λ u. records_steady k n d items items' lk p))
    (then_steady k d assign_pending assign_pending (λ u. records_done k items) (λ u. records_done (plus k d) items') (pending_related (IsFuelMonotone k d) (steady_closed k d)) (λ u. records_steady k n d items items' lk p)))

done_steady : (p : Program) (n d : ℕ) (ss : Steps) → FuelMonotone n d (mid_done p n ss) (mid_done p (plus n d) ss)
done_steady p n d ss = then_steady n d (all_stepped p.texts (calls_of p) n (mid_called p n) ss) (all_stepped p.texts (calls_of p) (plus n d) (mid_called p (plus n d)) ss) (λ u. nothing) (λ u. nothing)
    (steps_related (IsFuelMonotone n d) p.texts (calls_of p) n (plus n d) (mid_called p n) (mid_called p (plus n d)) (fuelled_steady n d (mid_called p n) (mid_called p (plus n d)) (called_steady p n d)) ss) (λ u. give_steady n d tt)

program_steady : (p : Program) (n d : ℕ) → FuelMonotone n d (all_parts n (mid_parts n p)) (all_parts (plus n d) (mid_parts (plus n d) p))
program_steady p n d = parts_related (IsFuelMonotone n d) n (plus n d) (record { run = run_steady n d; first = first_steady n d; reading = λ items items' q. records_steady n n d items items' (omega arith) q }) (map global_name p.globals) (map routine_name p.routines) p.reads
    (mid_done p n p.begin) (mid_done p (plus n d) p.begin) (mid_done p n p.items) (mid_done p (plus n d) p.items) (mid_done p n p.end) (mid_done p (plus n d) p.end) (done_steady p n d p.begin) (done_steady p n d p.items) (done_steady p n d p.end)

-- Endings.

output_ending : (o : Outcome (Unit {0})) → output_of (ending o) ≡ output_at o
output_ending (Gives u state) = refl
output_ending (Stops (Faulted fault) state) = refl
output_ending (Stops OutOfTurns state) = refl
output_ending (Stops TooDeep state) = refl
output_ending (Stops Nexted state) = refl
output_ending (Stops Exited state) = refl
output_ending (Stops (Returned x) state) = refl

kept_ending : (d : ℕ) (o o' : Outcome (Unit {0})) → Keeps d o o' → IsKept (ending o) (ending o')
kept_ending d (Gives u state) o' h = ap ending h
kept_ending d (Stops (Faulted fault) state) o' h = ap ending h
kept_ending d (Stops OutOfTurns state) o' h = (h.0, output_ending o' ∙ h.1)
kept_ending d (Stops TooDeep state) o' h = ap ending h
kept_ending d (Stops Nexted state) o' h = ap ending h
kept_ending d (Stops Exited state) o' h = ap ending h
kept_ending d (Stops (Returned x) state) o' h = ap ending h

unless_keeps : (n d : ℕ) (fault : Option Fault) (m m' : Execution (Unit {0})) → FuelMonotone n d m m' → (state : State) → state.turns ≤ n → Keeps d (unless fault m state) (unless fault m' (more d state))
unless_keeps n d (Some fault) m m' p state l = refl
unless_keeps n d None m m' p state l = p.keeps state l

kept_by : (p : Program) (setting : Setting) (few d : ℕ) → IsKept (mid_run_in p setting few) (mid_run_in p setting (plus few d))
kept_by p setting few d =
    let globals = names_length (map global_name p.globals) in
    kept_ending d (unless (fault_of_job setting.job) (all_parts few (mid_parts few p)) (start setting globals few)) (unless (fault_of_job setting.job) (all_parts (plus few d) (mid_parts (plus few d) p)) (start setting globals (plus few d)))
    (unless_keeps few d (fault_of_job setting.job) (all_parts few (mid_parts few p)) (all_parts (plus few d) (mid_parts (plus few d) p)) (program_steady p few d) (start setting globals few) (omega arith))

-- a run with more turns
pub more_turns_keep : (p : Program) (setting : Setting) (few many : ℕ) → few ≤ many → IsKept (mid_run_in p setting few) (mid_run_in p setting many)
more_turns_keep p setting few many l =
    let e : plus few (many - few) ≡ many = (let q = plus_is few (many - few) in omega (arith, l, q)) in
    subst (λ (n : ℕ). IsKept (mid_run_in p setting few) (mid_run_in p setting n)) e (kept_by p setting few (many - few))
