-- How putting a text ends in every world, and how much was put out where memory was wanting.
use Rattle.std.proofs.Common.{◌≡◌, ℕ, suc, ◌<◌, ◌≤◌, ◌+◌, Bool, true, false, List, [], ◌∷◌, length, take, drop, Result, Ok, Err, OnErr, refl, sym, ap, ◌∙◌, subst, arith}
use Rattle.std.proofs.lemmas.List.{length-map}
use Rattle.std.proofs.lemmas.Bool.Decides.{nat_tests}
use Rattle.awk_values.specs.declared.fault.Fault.{Fault}
use Rattle.awk_values.specs.declared.fault.Fault.TheVariants.{TooManyStreams, WriteFailed}
use Rattle.awk_values.specs.declared.fault.Stop.{Stop}
use Rattle.awk_values.specs.declared.fault.Stop.TheVariants.{Fault as IsFault, NoMemory as OutOfMemory}
use Rattle.world_core.specs.declared.world.WorldFault.{WorldFault}
use Rattle.world_core.specs.declared.world.WorldFault.TheVariants.{Failed, NoMemory}
use Rattle.world_core.specs.WorldState.{Named, Open, Outside, State, Target, after, free, puts}
use Rattle.world_core.specs.Calls.{Does, Fits, OpensWriter, Writes}
use Rattle.sem_primitives.specs.Finds.{seen}
use Rattle.sem_primitives.specs.SharedState.{HostResult, Shared}
use Rattle.sem_primitives.specs.OutputMeaning.{has_room, opened_if, what_fits, written, written_by}
use Rattle.host_streams.specs.OpenFiles.{has_room as may_open}
use Rattle.host_streams.specs.Outputs.{IsOf}
use Rattle.host_streams.specs.Puts.{OutputPrefix, TextPrefix, EndsPut, IsOver, PutFault, PutsBy, PutsPart}
use Rattle.host_streams.specs.declared.streams.Streams.{Streams}
use Rattle.host_streams.proofs.Outputs.{opened_in, over_opened}
use Rattle.host_streams.proofs.Writing.{part_is, seen_over}

-- How it ends.

pub on_err : {A E : Type 0} (r : Result A E) (P : Type 0) → P → OnErr r P
on_err (Ok x) P p = tt
on_err (Err e) P p = p

-- a fault of writing comes to a stream that was just opened, too
fault_new : (text : List ℕ) (fault : Fault) → PutFault true true text fault → PutFault false true text fault
fault_new text WriteFailed h = h
fault_new text fault h = absurd h

pub ends_new : (A B : Type 0) (text : List ℕ) (stop : Stop) → EndsPut {A = A} true true text (Err stop) → EndsPut {A = B} false true text (Err stop)
ends_new A B text (IsFault fault) h = fault_new text fault h
ends_new A B text OutOfMemory h = tt

fault_open : (room : Bool) (text : List ℕ) (fault : Fault) → PutFault true true text fault → PutFault true room text fault
fault_open true text fault h = h
fault_open false text WriteFailed h = h
fault_open false text fault h = absurd h

-- to a stream that is open, whether there is room or not
pub ends_open : {A : Type 0} (room : Bool) (text : List ℕ) (r : Result A Stop) → EndsPut true true text r → EndsPut true room text r
ends_open true text r h = h
ends_open false text (Ok x) h = tt
ends_open false text (Err (IsFault fault)) h = fault_open false text fault h
ends_open false text (Err OutOfMemory) h = tt

-- How much was put out.

pub put_begins : (tells : Type 0) (at id : ℕ) (text : List ℕ) (s t u : State) (e : WorldFault) → (tells → Fits at (s.outside (s.writers id))) → (tells → PutsPart at id text s t) → (tells → Writes id (drop at text) t (Err e) u)
    → TextPrefix tells id text s (Err e) u
put_begins tells at id text s t u Failed fits part w = tt
put_begins tells at id text s t u NoMemory fits part w = (
  at,
  λ is.
      subst (λ (x : State). PutsPart at id (what_fits (free (s.outside (s.writers id))) text) s x) (sym (w is))
      (subst (λ (xs : List ℕ). Does (puts (s.writers id) xs) s t) (part_is (free (s.outside (s.writers id))) at text (fits is)) (part is)),
)

-- over what another says too, where the actions are the same

pub begins_first : (A B : Type 0) (tells : Type 0) (is is' : Shared → Type 0) (does does' : Shared → HostResult (Result (Unit {0}) Fault)) (stop : Stop) (s t : State)
    → (tells → (shared : Shared) → is' shared → is shared × ((does shared).added ≡ (does' shared).added)) → OutputPrefix {A = A} tells is does (Err stop) s t → OutputPrefix {A = B} tells is' does' (Err stop) s t
begins_first A B tells is is' does does' (IsFault fault) s t same h = tt
begins_first A B tells is is' does does' OutOfMemory s t same h = (h.0, λ w shared i. h.1 w shared (same w shared i).0 ∙ ap (λ acts. after (take h.0 acts) s.outside) (same w shared i).1)

pub begins_as : {A : Type 0} (tells : Type 0) (is is' : Shared → Type 0) (does does' : Shared → HostResult (Result (Unit {0}) Fault)) (r : Result A Stop) (s t : State)
    → (tells → (shared : Shared) → is' shared → is shared × ((does shared).added ≡ (does' shared).added)) → OutputPrefix tells is does r s t → OutputPrefix tells is' does' r s t
begins_as tells is is' does does' (Ok x) s t same h = tt
begins_as {A} tells is is' does does' (Err stop) s t same h = begins_first A A tells is is' does does' stop s t same h

-- a name was opened, and closed after that
pub begins_opened : (tells : Type 0) (name text : List ℕ) (append : Bool) (id : ℕ) (stop : Stop) (s t u v : State)
    → (tells → OpensWriter name append id s t) → (tells → v.outside ≡ u.outside) → OutputPrefix {A = Unit {0}} tells (IsOver t) (written (t.writers id) text) (Err stop) t u
    → OutputPrefix {A = ℕ} tells (IsOver s) (λ shared. opened_if true (seen shared.inner shared.outside (Named name)).opens name append text shared) (Err stop) s v
begins_opened tells name text append id (IsFault fault) s t u v o shut h = tt
begins_opened tells name text append id OutOfMemory s t u v o shut h = (
  suc h.0,
  λ w shared e.
      shut w
      ∙ subst (λ (b : Bool). u.outside ≡ after (take (suc h.0) (opened_if true b name append text shared).added) s.outside)
      (sym (ap (λ (f : Outside). (f (Named name)).opens) (seen_over s shared e) ∙ (o w).opens))
      (subst (λ (x : Target). u.outside ≡ after (take h.0 (written x text (opened_in name append shared)).added) (after (Open name append ∷ []) s.outside)) (o w).writer
      (h.1 w (opened_in name append shared) (over_opened name append id shared s t e (o w))
      ∙ ap (after (take h.0 (written (t.writers id) text (opened_in name append shared)).added)) (o w).outside)),
)

-- one more may be opened
pub room_is : (s : Streams) (state : State) (shared : Shared) → IsOf s state shared → length s.readers.items + length s.writers.items < 256 → has_room shared.inner ≡ true
room_is s state shared is few =
    let readers : length shared.inner.readers ≡ length s.readers.items = ap length is.readers ∙ length-map s.readers.items _ in
    let writers : length shared.inner.writers ≡ length s.writers.items = ap length is.writers ∙ length-map s.writers.items _ in
    let least : length shared.inner.readers + length shared.inner.writers + 1 ≤ 256 = omega (arith, readers, writers, few) in
    grind (arith, nat_tests, least)

pub few_streams : (s : Streams) (n m : ℕ) → n ≡ length s.readers.items → m ≡ length s.writers.items → n + m < 256 → length s.readers.items + length s.writers.items < 256
few_streams s n m e f few = omega (arith, e, f, few)

pub may_by : (s : Streams) → length s.readers.items + length s.writers.items < 256 → may_open s ≡ true
may_by s few = grind (arith, nat_tests, few)

-- no more may be opened
pub no_room : (s : Streams) (state : State) (shared : Shared) → IsOf s state shared → 256 ≤ length s.readers.items + length s.writers.items → has_room shared.inner ≡ false
no_room s state shared is many =
    let readers : length shared.inner.readers ≡ length s.readers.items = ap length is.readers ∙ length-map s.readers.items _ in
    let writers : length shared.inner.writers ≡ length s.writers.items = ap length is.writers ∙ length-map s.writers.items _ in
    let more : 256 < length shared.inner.readers + length shared.inner.writers + 1 = omega (arith, readers, writers, many) in
    grind (arith, nat_tests, more)

pub many_streams : (s : Streams) (n m : ℕ) → n ≡ length s.readers.items → m ≡ length s.writers.items → 256 ≤ n + m → 256 ≤ length s.readers.items + length s.writers.items
many_streams s n m e f many = omega (arith, e, f, many)

pub may_not : (s : Streams) → 256 ≤ length s.readers.items + length s.writers.items → may_open s ≡ false
may_not s many = grind (arith, nat_tests, many)

-- a text is put to a file that is opened, where there is room
pub put_room : {A : Type 0} (name text : List ℕ) (append : Bool) (s : Streams) (state later : State) (shared : Shared) (r : Result A Stop) → IsOf s state shared → length s.readers.items + length s.writers.items < 256
    → PutsBy (opened_if true (seen shared.inner shared.outside (Named name)).opens name append text shared) r state later → PutsBy (written_by false name append text shared) r state later
put_room name text append s state later shared r is few h =
    subst (λ (b : Bool). PutsBy (opened_if b (seen shared.inner shared.outside (Named name)).opens name append text shared) r state later) (sym (room_is s state shared is few)) h

-- and where there is none
pub put_refused : (name text : List ℕ) (append : Bool) (s : Streams) (state : State) (shared : Shared) → IsOf s state shared → 256 ≤ length s.readers.items + length s.writers.items
    → PutsBy {A = Unit {0}} (written_by false name append text shared) (Err (IsFault TooManyStreams)) state state
put_refused name text append s state shared is many =
    subst (λ (b : Bool). PutsBy {A = Unit {0}} (opened_if b (seen shared.inner shared.outside (Named name)).opens name append text shared) (Err (IsFault TooManyStreams)) state state)
    (sym (no_room s state shared is many)) (record { answer_is = refl; outside = refl })

-- without memory nothing was done
pub nothing_ends : (A : Type 0) (room : Bool) (text : List ℕ) → EndsPut {A = A} false room text (Err OutOfMemory)
nothing_ends A true text = tt
nothing_ends A false text = tt
