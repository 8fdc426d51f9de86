-- Where each table has a free number, a host of the table answers every call, or traps. So a step of the machine is never without an outcome.
use Rattle.std.proofs.Common.{◌≡◌, ◌⊎◌, inl, inr, ℕ, ◌+◌, ◌≤◌, ◌^◌, arith, length, ℤ, pos, Bool, true, false, cond, not, List, [], ◌∷◌, Option, Some, None}
use Rattle.std.proofs.Common.{Result, Ok, Err, refl, sym, ap, ◌∙◌}
use Rattle.std.specs.Cmp.{signed_Decides}
use Rattle.std.specs.Ordering.{eq_by_cmp, int_cmp, is_eq}
use Rattle.std.specs.FinMap.Entries.{find-where_key}
use Rattle.std.specs.Int.{w32, cast_signed}
use Rattle.awk_values.specs.declared.fault.Fault.{Fault}
use Rattle.sem_primitives.specs.Sorts.{InAnswer, InArgument, Row}
use Rattle.sem_primitives.specs.declared.sorts.Answer.{Answer}
use Rattle.sem_primitives.specs.declared.sorts.Answer.TheVariants as answer
use Rattle.sem_primitives.specs.declared.sorts.Argument.{Argument}
use Rattle.sem_primitives.specs.declared.sorts.Argument.TheVariants as argument
use Rattle.sem_primitives.specs.declared.sorts.Sort.{Sort}
use Rattle.sem_primitives.specs.declared.sorts.Sort.TheVariants as sort
use Rattle.world_core.specs.WorldState.{Action}
use Rattle.wasm_store.specs.Memories.{MemoryForm}
use Rattle.wasm_store.specs.declared.trap.TrapKind.{TrapKind}
use Rattle.wasm_store.specs.declared.trap.TrapKind.TheVariants.{BadArgument}
use Rattle.wasm_store.specs.declared.word.Word.{Word}
use Rattle.wasm_store.specs.declared.word.Word.TheVariants.{I32, I64}
use Rattle.wasm_types.specs.Syntax.{Instructions, Done, Then}
use Rattle.wasm_model.specs.Frames.{constant_of, settled_values}
use Rattle.wasm_model.specs.Machines.{Asks, Conf, Ends, Goes as Goes_on, Turn, answered}
use Rattle.wasm_model.specs.Runs.{OverBy, TakenAs}
use Rattle.wasm_model.specs.declared.host.HostAnswer.{HostAnswer}
use Rattle.wasm_model.specs.declared.host.HostAnswer.TheVariants as told
use Rattle.wasm_model.specs.declared.ends.End.{End}
use Rattle.wasm_model.specs.declared.ends.End.TheVariants as ends
use Rattle.host_step.specs.Answers.{FreeFor, IsFree}
use Rattle.host_step.specs.Arguments.{and_then, decode, front, removed_front, spent_if, taken_front, without_front}
use Rattle.host_step.specs.HostState.{HostState, Names}
use Rattle.host_step.specs.HostStep.{Acts, Comes, Goes, HostStep, Refuses, Settles, StepBy, StepIf, Traps, acts, answered as given_answer, carried, come, comes}
use Rattle.host_step.specs.HostStep.{faulted, refused, refuses}
use Rattle.host_imports.specs.Imports.{import_answer, import_arguments, import_at, spends}
use Rattle.host_step.specs.Tables.{Table, look, without}
use Rattle.host_imports.specs.declared.import.Import.{Import}
use Rattle.lower_model.specs.Machine as Machine
use Rattle.agreement.specs.Refined.Refined.{As}
use Rattle.agreement.specs.Modules.TableMeaning.{table_meaning}
use Rattle.agreement.specs.Refined.Owners.{places_in}
use Rattle.agreement.proofs.RefinedLemmas.Room.{HasFree, has_free}

-- What is taken away leaves free what was free.

abbrev KeepsFree : {A : Type 0} → Table A → Table A → Type 0
KeepsFree t t1 = (q : ℕ) → look t (pos q) ≡ None → look t1 (pos q) ≡ None

without_free : {A : Type 0} → (t : Table A) (k : ℤ) → KeepsFree t (without k t)
without_free t k q e =
    find-where_key int_cmp (λ n. not (eq_by_cmp int_cmp k n)) (pos q)
    (λ x h. ap (λ y. not (eq_by_cmp int_cmp k y)) (sym ((signed_Decides (pos q) x).0 (ap is_eq h)))) t
    ∙ (ap (λ o. cond (not (eq_by_cmp int_cmp k (pos q))) o None) e ∙ either_none (not (eq_by_cmp int_cmp k (pos q))))
  where
    either_none : {B : Type 0} → (b : Bool) → cond {A = Option B} b None None ≡ None
    either_none true = refl
    either_none false = refl

removed_free : {A : Type 0} → (t : Table A) (ws : List Word) → KeepsFree t (removed_front t ws)
removed_free t [] q e = e
removed_free t (I64 n ∷ rest) q e = e
removed_free t (I32 n ∷ rest) q e = without_free t (cast_signed w32 n) q e

still_free : {A : Type 0} → (t : Table A) (ws : List Word) → (q : ℕ) × IsFree t q → (q : ℕ) × IsFree (removed_front t ws) q
still_free t ws x = (x.0, record { below = x.1.below; free = removed_free t ws x.0 x.1.free })

front_free : (s : Sort) (ws : List Word) (N : Names) → HasFree N → HasFree (without_front s ws N)
front_free sort.Value ws N f = record { values = still_free N.values ws f.values; arrays = f.arrays; iterators = f.iterators }
front_free sort.Number ws N f = f
front_free sort.Array ws N f = record { values = f.values; arrays = still_free N.arrays ws f.arrays; iterators = f.iterators }
front_free sort.Iterator ws N f = record { values = f.values; arrays = f.arrays; iterators = still_free N.iterators ws f.iterators }

-- What stays true of the tables where a number is taken away is true of them once a call has taken its arguments.
module _ (P : Names → Type 0) where
  abbrev KeptOk : {A : Type 0} → Result (A × Names) TrapKind → Type 0
  KeptOk (Ok y) = P y.1
  KeptOk (Err k) = Unit {0}

  -- of those that an act finds
  abbrev pub KeptBy : {A : Type 0} → Comes A → Type 0
  KeptBy (Goes left d) = P left
  KeptBy _ = Unit {0}

  module _ (kept : (s : Sort) (ws : List Word) (N : Names) → P N → P (without_front s ws N)) where
    spent_keeps : (b : Bool) (s : Sort) (ws : List Word) (N : Names) → P N → P (spent_if b s ws N)
    spent_keeps false s ws N h = h
    spent_keeps true s ws N h = kept s ws N h

    taken_keeps : (spent : Sort → Bool) (a : Argument) (ws : List Word) (N : Names) → P N → P (taken_front spent a ws N)
    taken_keeps spent (argument.Of s) ws N h = spent_keeps (spent s) s ws N h
    taken_keeps spent (argument.Constant c) ws N h = h
    taken_keeps spent argument.Place ws N h = h

    decode_keeps : (spent : Sort → Bool) (mem : List ℕ) (N : Names) (w : List Argument) (ws : List Word) → P N → KeptOk (decode spent mem N w ws)
    decode_keeps spent mem N [] [] h = h
    decode_keeps spent mem N [] (x ∷ ws) h = tt
    decode_keeps spent mem N (a ∷ w) ws h = by (front N mem a ws) (λ rest. decode_keeps spent mem (taken_front spent a ws N) w rest (taken_keeps spent a ws N h))
      where
        on : (x : InArgument a) (r : Result (Row w × Names) TrapKind) → KeptOk r → KeptOk {A = Row (a ∷ w)} (and_then r (λ rest. Ok ((x, rest.0), rest.1)))
        on x (Ok y) l = l
        on x (Err k) l = tt

        by : (r : Result (InArgument a × List Word) TrapKind) → ((rest : List Word) → KeptOk (decode spent mem (taken_front spent a ws N) w rest)) →
            KeptOk {A = Row (a ∷ w)} (and_then r (λ x. and_then (decode spent mem (taken_front spent a ws N) w x.1) (λ rest. Ok ((x.0, rest.0), rest.1))))
        by (Ok x) f = on x.0 (decode spent mem (taken_front spent a ws N) w x.1) (f x.1)
        by (Err k) f = tt

    pub comes_keeps : (i : Import) (s : HostState) (ws : List Word) (mem : List ℕ) → P s.names → KeptBy (comes i ws mem s)
    comes_keeps i s ws mem h = unless (refuses i s.fault)
      where
        acting : (left : Names) (d : Result (Acts (InAnswer (import_answer i))) TrapKind) → P left → KeptBy (come (and_then d (λ z. Ok (left, z))))
        acting left (Ok d) l = l
        acting left (Err k) l = tt

        decoded : (r : Result (Row (import_arguments i) × Names) TrapKind) → KeptOk r →
            KeptBy (come (and_then r (λ x. and_then (acts i x.0 s) (λ d. Ok (x.1, d)))))
        decoded (Ok x) l = acting x.1 (acts i x.0 s) l
        decoded (Err k) l = tt

        unless : (b : Bool) → KeptBy (cond b Refuses (come (carried i ws mem s)))
        unless true = tt
        unless false = decoded (decode (spends i) mem s.names (import_arguments i) ws) (decode_keeps (spends i) mem s.names (import_arguments i) ws h)

-- What is new gets a number.

free_for_option : (N : Names) → HasFree N → (x : InAnswer answer.ValueOrEnd) → (q : ℕ) × FreeFor N answer.ValueOrEnd x q
free_for_option N f None = (0, tt)
free_for_option N f (Some v) = f.values

free_for : (N : Names) → HasFree N → (a : Answer) (x : InAnswer a) → (q : ℕ) × FreeFor N a x q
free_for N f (answer.Of sort.Value) x = f.values
free_for N f (answer.Of sort.Number) x = (0, tt)
free_for N f (answer.Of sort.Array) x = f.arrays
free_for N f (answer.Of sort.Iterator) x = f.iterators
free_for N f answer.ValueOrEnd x = free_for_option N f x
free_for N f _ x = (0, tt)

-- it answers, or traps
abbrev pub Replies : (HostAnswer → HostState → List Action → Type 0) → Type 0
Replies R = ((w : Option Word) × (s1 : HostState) × (out : List Action) × R (told.Done w) s1 out) ⊎
    ((kind : TrapKind) × (s1 : HostState) × (out : List Action) × R (told.Trap kind) s1 out)

settles_there : (a : Answer) (s : HostState) (left : Names) (d : Acts (InAnswer a)) (r : Result (InAnswer a) Fault) → HasFree left →
    Replies (Settles a s left d r)
settles_there a s left d (Ok x) f =
    let q = free_for left f a x in
    let g = given_answer q.0 a s left d x in
    inl (g.word, g.after, g.added, (q.0, q.1, record { word = refl; state = refl; added = refl }))
settles_there a s left d (Err k) f =
    let g = faulted a s left d k in
    inl (g.word, g.after, g.added, record { word = refl; state = refl; added = refl })

comes_there : (a : Answer) (s : HostState) (x : Comes (InAnswer a)) → KeptBy HasFree x → Replies (StepBy a s x)
comes_there a s (Traps k) f = inr (k, s, [], record { trap = refl; state = refl; added = refl })
comes_there a s Refuses f = let g = refused a s in inl (g.word, g.after, g.added, record { word = refl; state = refl; added = refl })
comes_there a s (Goes left d) f = settles_there a s left d d.does.answer f

-- EVERY CALL is answered, or traps
pub replies : (n : ℕ) (s : HostState) (ws : List Word) (mem : List ℕ) → HasFree s.names → Replies (HostStep n s ws mem)
replies n s ws mem f = by (import_at n)
  where
    by : (o : Option Import) → Replies (StepIf o s ws mem)
    by None = inr (BadArgument, s, [], record { trap = refl; state = refl; added = refl })
    by (Some i) = comes_there (import_answer i) s (comes i ws mem s) (comes_keeps HasFree front_free i s ws mem f)

-- EVERY TURN is taken, or is the last one
pub turns : (t : Turn) (s : HostState) (mem : MemoryForm) → HasFree s.names →
    ((out : List Action) × (c1 : Conf) × (s1 : HostState) × TakenAs table_meaning t s mem out c1 s1) ⊎
    ((out : List Action) × (e : End) × (s1 : HostState) × OverBy table_meaning t s mem out e s1)
turns (Goes_on c) s mem f = inl ([], c, s, (refl, refl, refl))
turns (Ends e) s mem f = inr ([], e, s, (refl, refl, refl))
turns (Asks n ws c) s mem f = by (replies n s ws mem.bytes f)
  where
    by : Replies (HostStep n s ws mem.bytes) →
        ((out : List Action) × (c1 : Conf) × (s1 : HostState) × TakenAs table_meaning (Asks n ws c) s mem out c1 s1) ⊎
        ((out : List Action) × (e : End) × (s1 : HostState) × OverBy table_meaning (Asks n ws c) s mem out e s1)
    by (inl (None, s1, out, h)) = inl (out, answered (record c { memory = mem }) None, s1, (None, (refl, h), refl))
    by (inl (Some w, s1, out, h)) = inl (out, answered (record c { memory = mem }) (Some w), s1, (Some w, (refl, h), refl))
    by (inr r) = inr (r.2, ends.Trapped r.0, r.1, (r.0, mem, refl, (refl, r.3)))

-- Where the machines are at the same place.

-- operands, locals, globals, and the locals of callers that wait
abbrev pub places_of : Conf → ℕ
places_of c = length (settled_values c.frame.values c.frame.code) + (length c.frame.locals + (length c.globals + places_in c.callers))

settled_more : (ws : List Word) (code : Instructions) → length ws ≤ length (settled_values ws code)
settled_more ws Done = omega arith
settled_more ws (Then i k) = by (constant_of i) (λ w. settled_more (w ∷ ws) k)
  where
    by : (o : Option Word) → ((w : Word) → length (w ∷ ws) ≤ length (settled_values (w ∷ ws) k)) →
        length ws ≤ length {A = Word} (elim o [ Some w ↦ settled_values (w ∷ ws) k | None ↦ ws ])
    by None f = omega arith
    by (Some w) f = let x = f w in omega (arith, x)

abbrev pub FreeAt : Machine.Conf → HostState → Type 0
FreeAt Machine.Stuck s = Unit {0}
FreeAt _ s = HasFree s.names

-- there is a free number, where there are few places
pub free_as : (used : ℕ → Bool) (bs : List Bool) (u : Machine.Code) (P : Machine.Conf) (c : Conf) (s : HostState) → As used bs u P c s →
    places_of c + 3 ≤ 2 ^ 31 → FreeAt P s
free_as used bs u (Machine.Run ks vs K L F code G) c s a few = has_free s.names vs L G.globals
    (settled_values c.frame.values c.frame.code) c.frame.locals c.globals F c.callers a.once few
free_as used bs u (Machine.Look x ks vs K L F code G) c s a few =
    let l = settled_more c.frame.values c.frame.code in
    let e = ap (λ (z : List Word). length z) a.values in
    has_free s.names vs L G.globals a.words c.frame.locals c.globals F c.callers a.run.once (omega (arith, few, l, e))
free_as used bs u (Machine.Over v G) c s a few = has_free s.names [] [] G.globals [] [] c.globals [] [] a.once (omega (arith, few))
free_as used bs u (Machine.Deep G) c s a few = absurd a
free_as used bs u Machine.Stuck c s a few = tt
