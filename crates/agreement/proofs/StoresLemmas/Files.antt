-- What is printed to a target is what it holds afterwards.
use Rattle.std.proofs.Common.{◌≡◌, ℕ, Bool, true, false, cond, List, [], ◌∷◌, ◌++◌, length, take, Option, Some, None, Result, Ok, Err, refl, sym, ap, subst, ◌∙◌, append-nil, append_assoc, take_all}
use Rattle.std.specs.Prelude.{if◌then◌else◌, nat_le}
use Rattle.std.proofs.lemmas.Bool.{leb-true}
use Rattle.std.proofs.lemmas.Slice.Eq.{bytes_eq-Decides}
use Rattle.awk_values.specs.declared.fault.Fault.{Fault}
use Rattle.awk_values.specs.declared.fault.Fault.TheVariants.{WriteFailed}
use Rattle.world_core.specs.WorldState.{Entry, Open, Outside, Target, Standard, Named, after, bytes_of, free, opened as entry_opened, puts, same_target}
use Rattle.sem_primitives.specs.SharedState.{Inner, Shared, shared_after}
use Rattle.sem_primitives.specs.Finds.{finds_by, observed_by, seen}
use Rattle.sem_primitives.specs.Texts.{same_text}
use Rattle.sem_primitives.specs.OutputMeaning.{has_room, is_writing, kept_open, opened, opened_if, put_text, what_fits, write_answer, written, written_by}
use Rattle.sem_primitives.specs.declared.constants.Destination.{Destination}
use Rattle.sem_primitives.specs.declared.constants.Destination.TheVariants as destination
use Rattle.agreement.specs.Stores.Files.{Print, Succeed, no_more, one_more, base, held, is_open, opened_as, target, target_by, texts_to}

-- ---- targets

same_is : (a b : Target) → same_target a b ≡ true → a ≡ b
same_is Standard Standard e = refl
same_is (Named a) (Named b) e = ap (λ n. Named n) ((bytes_eq-Decides a b).0 e)
same_is Standard (Named b) e = absurd cc
same_is (Named a) Standard e = absurd cc

itself : (a : Target) → same_target a a ≡ true
itself Standard = refl
itself (Named a) = (bytes_eq-Decides a a).1 refl

-- ---- bytes that are put out

abbrev with_text : Bool → List ℕ → List ℕ → List ℕ
with_text t old text = if t then old ++ text else old

nothing_put : (t : Bool) (old : List ℕ) → old ≡ with_text t old []
nothing_put true old = sym (append-nil old)
nothing_put false old = refl

-- after one byte
put_one : (a : Target) (b : ℕ) (outside : Outside) (t : Target) (s : Bool) → same_target a t ≡ s
    → bytes_of (cond s (record (outside a) { bytes = Some (bytes_of (outside a).bytes ++ b ∷ []) }) (outside t)).bytes ≡ with_text s (held outside t) (b ∷ [])
put_one a b outside t true e = ap (λ x. bytes_of (outside x).bytes ++ b ∷ []) (same_is a t e)
put_one a b outside t false e = refl

put_more : (s : Bool) (old : List ℕ) (b : ℕ) (bs : List ℕ) → with_text s (with_text s old (b ∷ [])) bs ≡ with_text s old (b ∷ bs)
put_more true old b bs = append_assoc old (b ∷ []) bs
put_more false old b bs = refl

held_after : (a : Target) (text : List ℕ) (outside : Outside) (t : Target) → held (after (puts a text) outside) t ≡ with_text (same_target a t) (held outside t) text
held_after a [] outside t = nothing_put (same_target a t) (held outside t)
held_after a (b ∷ bs) outside t =
    held_after a bs (λ x. cond (same_target a x) (record (outside a) { bytes = Some (bytes_of (outside a).bytes ++ b ∷ []) }) (outside x)) t
    ∙ ap (λ old. with_text (same_target a t) old bs) (put_one a b outside t (same_target a t) refl)
    ∙ put_more (same_target a t) (held outside t) b bs

-- ---- one text

finds_none : {A : Type 0} (r : Result A Fault) (f : Option (List Entry)) → f ≡ None → finds_by r f ≡ f
finds_none (Ok x) None e = refl
finds_none (Err fault) f e = refl
finds_none (Ok x) (Some finds) e = absurd (cc e)

finds_stay : {A : Type 0} (r : Result A Fault) (inner : Inner) → inner.finds ≡ None → observed_by r inner ≡ inner
finds_stay r inner e = ap (λ f. record inner { finds = f }) (finds_none r inner.finds e)

abbrev Written : Type 0
Written = Result (Unit {0}) Fault

abbrev is_fine : Written → Bool
is_fine (Ok x) = true
is_fine (Err fault) = false

fits : (room : Option ℕ) (text : List ℕ) → write_answer room text ≡ Ok tt → what_fits room text ≡ text
fits None text e = refl
fits (Some room) text e = by (nat_le (length text) room) refl e
  where
    by : (b : Bool) → nat_le (length text) room ≡ b → cond {A = Written} b (Ok tt) (Err WriteFailed) ≡ Ok tt → take room text ≡ text
    by true le e = take_all room text (leb-true (length text) room le)
    by false le e = absurd (cc (ap is_fine e))

record IsWritten (a : Target) (text : List ℕ) (before after' : Shared) : Type 0 where
  same_inner : after'.inner ≡ before.inner
  holds : (t : Target) → held after'.outside t ≡ with_text (same_target a t) (held before.outside t) text

writes : (a : Target) (text : List ℕ) (state : Shared) → state.inner.finds ≡ None → (written a text state).answer ≡ Ok tt
    → IsWritten a text state (shared_after state (written a text state))
writes a text state none e = record {
  same_inner = finds_stay (written a text state).answer state.inner none;
  holds = λ t. ap (λ x. held (after (puts a x) state.outside) t) (fits (free (seen state.inner state.outside a)) text e) ∙ held_after a text state.outside t;
}

-- ---- names that are open

now_writing : (name : List ℕ) (ws : List (List ℕ)) → is_writing name (ws ++ (name ∷ [])) ≡ true
now_writing name [] = ap (λ b. cond b true false) ((bytes_eq-Decides name name).1 refl)
now_writing name (w ∷ ws) = by (same_text name w) (now_writing name ws)
  where
    by : (b : Bool) → is_writing name (ws ++ (name ∷ [])) ≡ true → cond b true (is_writing name (ws ++ (name ∷ []))) ≡ true
    by true e = refl
    by false e = e

as_before : (name other : List ℕ) (ws : List (List ℕ)) → same_text other name ≡ false → is_writing other (ws ++ (name ∷ [])) ≡ is_writing other ws
as_before name other [] e = ap (λ b. cond b true false) e
as_before name other (w ∷ ws) e = ap (λ r. cond (same_text other w) true r) (as_before name other ws e)

turned : (a b : List ℕ) → same_text a b ≡ false → same_text b a ≡ false
turned a b e = by (same_text b a) refl
  where
    by : (c : Bool) → same_text b a ≡ c → c ≡ false
    by true f = absurd (cc (sym ((bytes_eq-Decides a b).1 (sym ((bytes_eq-Decides b a).0 f))) ∙ e))
    by false f = refl

-- ---- one print

abbrev writing_too : List ℕ → Inner → Inner
writing_too name inner = record inner { writers = inner.writers ++ (name ∷ []) }

-- at another target nothing changes; at its own it is added to what is open, or to what opening makes of it
record IsPrinted (to : Destination) (a : Target) (text : List ℕ) (before after' : Shared) (t : Target) : Type 0 where
  open_there : same_target a t ≡ true → is_open after'.inner t ≡ true
  held_there : same_target a t ≡ true
      → held after'.outside t ≡ (cond (is_open before.inner t) (held before.outside t) (opened_as to (held before.outside t))) ++ text
  open_elsewhere : same_target a t ≡ false → is_open after'.inner t ≡ is_open before.inner t
  held_elsewhere : same_target a t ≡ false → held after'.outside t ≡ held before.outside t

-- what is open already
prints_open : (to : Destination) (a : Target) (text : List ℕ) (before after' : Shared) → is_open before.inner a ≡ true → IsWritten a text before after'
    → (t : Target) → IsPrinted to a text before after' t
prints_open to a text before after' o w t = record {
  open_there = λ e. ap (λ z. is_open z t) w.same_inner ∙ here e;
  held_there = λ e. w.holds t ∙ ap (λ s. with_text s (held before.outside t) text) e
      ∙ ap (λ b. (cond b (held before.outside t) (opened_as to (held before.outside t))) ++ text) (sym (here e));
  open_elsewhere = λ e. ap (λ z. is_open z t) w.same_inner;
  held_elsewhere = λ e. w.holds t ∙ ap (λ s. with_text s (held before.outside t) text) e;
}
  where
    here : same_target a t ≡ true → is_open before.inner t ≡ true
    here e = subst (λ x. is_open before.inner x ≡ true) (same_is a t e) o

-- what a name holds once it is opened
held_opened : (to : Destination) (name : List ℕ) (append : Bool) → ((old : List ℕ) → (if append then old else []) ≡ opened_as to old) → (outside : Outside) (t : Target)
    → held (after (Open name append ∷ []) outside) t ≡ (if same_target (Named name) t then opened_as to (held outside t) else held outside t)
held_opened to name append makes outside t = by (same_target (Named name) t) refl append (makes (held outside (Named name)))
  where
    by : (s : Bool) → same_target (Named name) t ≡ s → (append : Bool) → (if append then held outside (Named name) else []) ≡ opened_as to (held outside (Named name))
        → bytes_of (cond s (entry_opened append (outside (Named name))) (outside t)).bytes ≡ (if s then opened_as to (held outside t) else held outside t)
    by true e true q = q ∙ ap (λ x. opened_as to (held outside x)) (same_is (Named name) t e)
    by true e false q = q ∙ ap (λ x. opened_as to (held outside x)) (same_is (Named name) t e)
    by false e append q = refl

-- what it opens
prints_opened : (to : Destination) (name text : List ℕ) (append : Bool) → ((old : List ℕ) → (if append then old else []) ≡ opened_as to old) → (state : Shared)
    → state.inner.finds ≡ None → is_writing name state.inner.writers ≡ false → (opened name append text state).answer ≡ Ok tt
    → (t : Target) → IsPrinted to (Named name) text state (shared_after state (opened name append text state)) t
prints_opened to name text append makes state none shut e t = record {
  open_there = λ s. there t s;
  held_there = λ s. w.holds t ∙ ap (λ z. with_text z (held mid.outside t) text) s
      ∙ ap (λ old. old ++ text) (held_opened to name append makes state.outside t ∙ ap (λ z. if z then opened_as to (held state.outside t) else held state.outside t) s
      ∙ ap (λ b. cond b (held state.outside t) (opened_as to (held state.outside t))) (sym (closed t s)));
  open_elsewhere = λ s. elsewhere t s;
  held_elsewhere = λ s. w.holds t ∙ ap (λ z. with_text z (held mid.outside t) text) s
      ∙ held_opened to name append makes state.outside t ∙ ap (λ z. if z then opened_as to (held state.outside t) else held state.outside t) s;
}
  where
    mid : Shared
    mid = record state { outside = after (Open name append ∷ []) state.outside }

    w : IsWritten (Named name) text mid (shared_after mid (written (Named name) text mid))
    w = writes (Named name) text mid none e

    inner_is : (shared_after state (opened name append text state)).inner ≡ record state.inner { writers = state.inner.writers ++ (name ∷ []) }
    inner_is = ap (kept_open name (written (Named name) text mid).inner) e ∙ ap (writing_too name) w.same_inner

    closed : (t : Target) → same_target (Named name) t ≡ true → is_open state.inner t ≡ false
    closed t s = subst (λ x. is_open state.inner x ≡ false) (same_is (Named name) t s) shut

    there : (t : Target) → same_target (Named name) t ≡ true → is_open (shared_after state (opened name append text state)).inner t ≡ true
    there t s = ap (λ z. is_open z t) inner_is
        ∙ subst (λ x. is_open (record state.inner { writers = state.inner.writers ++ (name ∷ []) }) x ≡ true) (same_is (Named name) t s) (now_writing name state.inner.writers)

    still : (t : Target) → same_target (Named name) t ≡ false → is_open (record state.inner { writers = state.inner.writers ++ (name ∷ []) }) t ≡ is_open state.inner t
    still Standard s = refl
    still (Named other) s = as_before name other state.inner.writers (turned name other s)

    elsewhere : (t : Target) → same_target (Named name) t ≡ false → is_open (shared_after state (opened name append text state)).inner t ≡ is_open state.inner t
    elsewhere t s = ap (λ z. is_open z t) inner_is ∙ still t s

-- a print to a name
named_print : (to : Destination) (name text : List ℕ) (append : Bool) → ((old : List ℕ) → (if append then old else []) ≡ opened_as to old) → (state : Shared)
    → state.inner.finds ≡ None → (b : Bool) → is_writing name state.inner.writers ≡ b → (written_by b name append text state).answer ≡ Ok tt
    → (t : Target) → IsPrinted to (Named name) text state (shared_after state (written_by b name append text state)) t
named_print to name text append makes state none true o e t =
    prints_open to (Named name) text state (shared_after state (written (Named name) text state)) o (writes (Named name) text state none e) t
named_print to name text append makes state none false o e t =
    by (has_room state.inner) (seen state.inner state.outside (Named name)).opens e
  where
    by : (r opens : Bool) → (opened_if r opens name append text state).answer ≡ Ok tt
        → IsPrinted to (Named name) text state (shared_after state (opened_if r opens name append text state)) t
    by true true e = prints_opened to name text append makes state none o e t
    by true false e = absurd (cc (ap is_fine e))
    by false opens e = absurd (cc (ap is_fine e))

-- any print that does not fault
one_print : (to : Destination) (name text : List ℕ) (state : Shared) → state.inner.finds ≡ None → (put_text to name text state).answer ≡ Ok tt
    → (t : Target) → IsPrinted to (target_by to name) text state (shared_after state (put_text to name text state)) t
one_print destination.Standard name text state none e t =
    prints_open destination.Standard Standard text state (shared_after state (written Standard text state)) refl (writes Standard text state none e) t
one_print destination.Emptied name text state none e t =
    named_print destination.Emptied name text false (λ old. refl) state none (is_writing name state.inner.writers) refl e t
one_print destination.Appended name text state none e t =
    named_print destination.Appended name text true (λ old. refl) state none (is_writing name state.inner.writers) refl e t

-- others change nothing, as before
written_finds : (a : Target) (text : List ℕ) (state : Shared) → state.inner.finds ≡ None → (written a text state).inner.finds ≡ None
written_finds a text state none = finds_none (written a text state).answer state.inner.finds none ∙ none

kept_finds : (name : List ℕ) (inner : Inner) (r : Written) → inner.finds ≡ None → (kept_open name inner r).finds ≡ None
kept_finds name inner (Ok x) e = e
kept_finds name inner (Err fault) e = e

still_none : (to : Destination) (name text : List ℕ) (state : Shared) → state.inner.finds ≡ None → (put_text to name text state).inner.finds ≡ None
still_none to name text state none = by to
  where
    opened_none : (append r opens : Bool) → (opened_if r opens name append text state).inner.finds ≡ None
    opened_none append true true =
        let mid : Shared = record state { outside = after (Open name append ∷ []) state.outside } in
        kept_finds name (written (Named name) text mid).inner (written (Named name) text mid).answer (written_finds (Named name) text mid none)
    opened_none append true false = none
    opened_none append false opens = none

    named_none : (append b : Bool) → (written_by b name append text state).inner.finds ≡ None
    named_none append true = written_finds (Named name) text state none
    named_none append false = opened_none append (has_room state.inner) (seen state.inner state.outside (Named name)).opens

    by : (to : Destination) → (put_text to name text state).inner.finds ≡ None
    by destination.Standard = written_finds Standard text state none
    by destination.Emptied = named_none false (is_writing name state.inner.writers)
    by destination.Appended = named_none true (is_writing name state.inner.writers)

-- ---- prints one after another

abbrev IsHeld : Target → List Print → Shared → Shared → Type 0
IsHeld t prints state end = held end.outside t ≡ base (is_open state.inner t) t prints (held state.outside t) ++ texts_to t prints

opened_base : (b : Bool) (p : Print) (t : Target) (rest : List Print) (old : List ℕ) → same_target (target p) t ≡ true
    → base b t (p ∷ rest) old ≡ cond b old (opened_as p.to old)
opened_base true p t rest old s = refl
opened_base false p t rest old s = ap (λ z. if z then opened_as p.to old else base false t rest old) s

other_base : (b : Bool) (p : Print) (t : Target) (rest : List Print) (old : List ℕ) → same_target (target p) t ≡ false
    → base b t (p ∷ rest) old ≡ base b t rest old
other_base true p t rest old s = refl
other_base false p t rest old s = ap (λ z. if z then opened_as p.to old else base false t rest old) s

pub all_held : {prints : List Print} {state end : Shared} → Succeed prints state end → state.inner.finds ≡ None → (t : Target) → IsHeld t prints state end
all_held (no_more {state}) none t = by (is_open state.inner t)
  where
    by : (b : Bool) → held state.outside t ≡ base b t [] (held state.outside t) ++ []
    by true = sym (append-nil (held state.outside t))
    by false = sym (append-nil (held state.outside t))
all_held (one_more {rest} {state} {end} p e more) none t =
    by (same_target (target p) t) refl (one_print p.to p.name p.text state none e t) (all_held more (still_none p.to p.name p.text state none) t)
  where
    mid : Shared
    mid = shared_after state (put_text p.to p.name p.text state)

    by : (s : Bool) → same_target (target p) t ≡ s → IsPrinted p.to (target p) p.text state mid t → IsHeld t rest mid end → IsHeld t (p ∷ rest) state end
    by true s o later =
        later
        ∙ ap (λ b. base b t rest (held mid.outside t) ++ texts_to t rest) (o.open_there s)
        ∙ ap (λ x. x ++ texts_to t rest) (o.held_there s)
        ∙ append_assoc (cond (is_open state.inner t) (held state.outside t) (opened_as p.to (held state.outside t))) p.text (texts_to t rest)
        ∙ ap (λ x. x ++ (p.text ++ texts_to t rest)) (sym (opened_base (is_open state.inner t) p t rest (held state.outside t) s))
        ∙ ap (λ z. base (is_open state.inner t) t (p ∷ rest) (held state.outside t) ++ ((if z then p.text else []) ++ texts_to t rest)) (sym s)
    by false s o later =
        later
        ∙ ap (λ b. base b t rest (held mid.outside t) ++ texts_to t rest) (o.open_elsewhere s)
        ∙ ap (λ x. base (is_open state.inner t) t rest x ++ texts_to t rest) (o.held_elsewhere s)
        ∙ ap (λ x. x ++ texts_to t rest) (sym (other_base (is_open state.inner t) p t rest (held state.outside t) s))
        ∙ ap (λ z. base (is_open state.inner t) t (p ∷ rest) (held state.outside t) ++ ((if z then p.text else []) ++ texts_to t rest)) (sym s)
