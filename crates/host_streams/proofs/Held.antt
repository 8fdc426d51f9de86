-- Files that are open, when one of them is read and when one more is opened.
use Rattle.std.proofs.Common.{◌≡◌, ◌≢◌, ℕ, zero, suc, ◌<◌, ◌==◌, List, [], ◌∷◌, ◌++◌, map, get_or, set, length, Some, None, cond, Bool, true, false, refl, sym, ap, ◌∙◌, arith, subst}
use Rattle.std.proofs.lemmas.Bool.{eq-eqb, false≢true, ne_eqb}
use Rattle.std.proofs.lemmas.Slice.Eq.{bytes_eq-Decides}
use Rattle.std.proofs.lemmas.Cmp.{nat_list_eq_equiv}
use Rattle.world_core.specs.WorldState.{State, Source, Entry}
use Rattle.world_core.specs.Calls.{Kind, Closed, Reading, Writing, Opens, set_kind, KeepsOthers}
use Rattle.sem_primitives.specs.Texts.{same_text}
use Rattle.sem_primitives.specs.InputMeaning.{reader_named, with_reader}
use Rattle.sem_primitives.specs.InputParts.{source_of, source_if}
use Rattle.host_streams.specs.declared.reader.Phase.TheVariants.{Open, Ended, Broken}
use Rattle.host_streams.specs.declared.reader.Phase.{Phase}
use Rattle.host_streams.specs.declared.reader.Reader.{Reader}
use Rattle.host_streams.specs.declared.streams.NamedReader.{NamedReader}
use Rattle.host_streams.specs.declared.streams.NamedWriter.{NamedWriter}
use Rattle.host_streams.specs.Readers.{left, left_in, unread, fresh, OnlyReads}
use Rattle.host_streams.specs.OpenFiles.{reader_handle, writer_handle, IsApart, IsNone, AreOpen, WritersGo, readers_in, is_reader, phase_named, reader_place, shown}
use Rattle.host_streams.specs.declared.reader.Reader.{Reader}
use Rattle.host_streams.proofs.Places.{AllFail, First, first, all_fail, last_place, first_item, first_set}

pub same_name : (a b : List ℕ) → same_text a b ≡ true → a ≡ b
same_name a b e = (bytes_eq-Decides a b).0 e

pub name_itself : (a : List ℕ) → same_text a a ≡ true
name_itself a = nat_list_eq_equiv.refl a

pub other_name : (a b : List ℕ) → same_text a b ≡ false → b ≢ a
other_name a b e = λ is. cc (sym (name_itself a) ∙ ap (same_text a) (sym is) ∙ e)

-- one of them
pub open_at : (kind : Kind) (kinds : ℕ → Kind) (front : List NamedReader) (item : NamedReader) (back : List NamedReader) → AreOpen kind (map reader_handle (front ++ item ∷ back)) kinds → kinds item.reader.id ≡ kind
open_at kind kinds [] item back h = h.1
open_at kind kinds (x ∷ xs) item back h = open_at kind kinds xs item back h.3

pub same_handles : (front : List NamedReader) (item other : NamedReader) (back : List NamedReader) → reader_handle other ≡ reader_handle item → map reader_handle (front ++ other ∷ back) ≡ map reader_handle (front ++ item ∷ back)
same_handles [] item other back e = ap (λ h. h ∷ map reader_handle back) e
same_handles (x ∷ xs) item other back e = ap (λ hs. reader_handle x ∷ hs) (same_handles xs item other back e)

pub shown_at : {A : Type 0} (show : Reader → A) (other : A) (name : List ℕ) (front : List NamedReader) (item : NamedReader) (back : List NamedReader) → AllFail (is_reader name) front → is_reader name item ≡ true →
    shown show other name (front ++ item ∷ back) ≡ show item.reader
shown_at show other name [] item back none is = ap (λ b. cond b (show item.reader) (shown show other name back)) is
shown_at show other name (x ∷ xs) item back none is = ap (λ b. cond b (show x.reader) (shown show other name (xs ++ item ∷ back))) none.0 ∙ shown_at show other name xs item back none.1 is

pub named_at : (name : List ℕ) (state : State) (front : List NamedReader) (item : NamedReader) (back : List NamedReader) → AllFail (is_reader name) front → is_reader name item ≡ true →
    reader_named name (readers_in (front ++ item ∷ back) state) ≡ Some (left item.reader (state.readers item.reader.id))
named_at name state [] item back none is = ap (λ b. cond b (Some (left item.reader (state.readers item.reader.id))) (reader_named name (readers_in back state))) is
named_at name state (x ∷ xs) item back none is =
    ap (λ b. cond b (Some (left x.reader (state.readers x.reader.id))) (reader_named name (readers_in (xs ++ item ∷ back) state))) none.0 ∙ named_at name state xs item back none.1 is

not_named : (name : List ℕ) (state : State) (xs : List NamedReader) → AllFail (is_reader name) xs → reader_named name (readers_in xs state) ≡ None
not_named name state [] none = refl
not_named name state (x ∷ xs) none = ap (λ b. cond b (Some (left x.reader (state.readers x.reader.id))) (reader_named name (readers_in xs state))) none.0 ∙ not_named name state xs none.1

apart_middle : (h : List ℕ × ℕ) (front : List NamedReader) (item : NamedReader) (back : List NamedReader) → IsApart h (map reader_handle (front ++ item ∷ back)) → h.1 ≢ item.reader.id
apart_middle h [] item back a = a.1
apart_middle h (x ∷ xs) item back a = apart_middle h xs item back a.2

apart_same : (h : List ℕ × ℕ) (old new : State) (xs : List NamedReader) → IsApart h (map reader_handle xs) → ((k : ℕ) → k ≢ h.1 → new.readers k ≡ old.readers k) → readers_in xs new ≡ readers_in xs old
apart_same h old new [] a same = refl
apart_same h old new (x ∷ xs) a same =
    ap (λ s. (x.name, left x.reader s) ∷ readers_in xs new) (same x.reader.id (λ e. a.1 (sym e))) ∙ ap (λ rs. (x.name, left x.reader (old.readers x.reader.id)) ∷ rs) (apart_same h old new xs a.2 same)

-- one of them is read
pub after_at : (name : List ℕ) (kinds : ℕ → Kind) (old new : State) (front : List NamedReader) (item other : NamedReader) (back : List NamedReader) →
    AreOpen Reading (map reader_handle (front ++ item ∷ back)) kinds → AllFail (is_reader name) front → is_reader name item ≡ true → other.name ≡ item.name → other.reader.id ≡ item.reader.id → OnlyReads item.reader.id old new →
    readers_in (front ++ other ∷ back) new ≡ with_reader name (left other.reader (new.readers item.reader.id)) (readers_in (front ++ item ∷ back) old)
after_at name kinds old new [] item other back h none is e f only =
    ap (λ n. (n, left other.reader (new.readers other.reader.id)) ∷ readers_in back new) (e ∙ sym (same_name name item.name is))
    ∙ ap (λ k. (name, left other.reader (new.readers k)) ∷ readers_in back new) f
    ∙ ap (λ rs. (name, left other.reader (new.readers item.reader.id)) ∷ rs) (apart_same (reader_handle item) old new back h.2 only.others)
    ∙ sym (ap (λ b. cond b ((name, left other.reader (new.readers item.reader.id)) ∷ readers_in back old) ((item.name, left item.reader (old.readers item.reader.id)) ∷ with_reader name (left other.reader (new.readers item.reader.id)) (readers_in back old))) is)
after_at name kinds old new (x ∷ xs) item other back h none is e f only =
    let later : readers_in (xs ++ other ∷ back) new ≡ with_reader name (left other.reader (new.readers item.reader.id)) (readers_in (xs ++ item ∷ back) old) = after_at name kinds old new xs item other back h.3 none.1 is e f only in
    ap (λ s. (x.name, left x.reader s) ∷ readers_in (xs ++ other ∷ back) new) (only.others x.reader.id (apart_middle (reader_handle x) xs item back h.2))
    ∙ ap (λ rs. (x.name, left x.reader (old.readers x.reader.id)) ∷ rs) later
    ∙ sym (ap (λ b. cond b ((name, left other.reader (new.readers item.reader.id)) ∷ readers_in (xs ++ item ∷ back) old) ((x.name, left x.reader (old.readers x.reader.id)) ∷ with_reader name (left other.reader (new.readers item.reader.id)) (readers_in (xs ++ item ∷ back) old))) none.0)

pub go_same : (ws : List NamedWriter) (old new : State) → new.writers ≡ old.writers → WritersGo ws old → WritersGo ws new
go_same [] old new e h = tt
go_same (w ∷ ws) old new e h = (ap (λ f. f w.id) e ∙ h.0, go_same ws old new e h.1)

none_at : (k : ℕ) (front : List NamedReader) (item : NamedReader) (back : List NamedReader) → IsNone k (map reader_handle (front ++ item ∷ back)) → k ≢ item.reader.id
none_at k [] item back h = h.0
none_at k (x ∷ xs) item back h = none_at k xs item back h.1

-- The reader at the place of a name: d stands there.
module _ (name : List ℕ) (xs : List NamedReader) (at : ℕ) (found : reader_place name xs ≡ Some at) (d : NamedReader) (here : d ≡ get_or xs at d) where
  spot : First (is_reader name) at xs
  spot = first (is_reader name) xs at found

  item_is : d ≡ spot.item
  item_is = here ∙ first_item (is_reader name) xs at spot d

  pub open_next : (kinds : ℕ → Kind) → AreOpen Reading (map reader_handle xs) kinds → kinds d.reader.id ≡ Reading
  open_next kinds h =
      ap (λ (r : NamedReader). kinds r.reader.id) item_is
      ∙ open_at Reading kinds spot.front spot.item spot.back (subst (λ (ys : List NamedReader). AreOpen Reading (map reader_handle ys) kinds) spot.is h)

  pub shown_next : {A : Type 0} (show : Reader → A) (other : A) → shown show other name xs ≡ show d.reader
  shown_next show other = ap (shown show other name) spot.is ∙ shown_at show other name spot.front spot.item spot.back spot.none spot.passes ∙ ap (λ (r : NamedReader). show r.reader) (sym item_is)

  pub named_next : (state : State) → reader_named name (readers_in xs state) ≡ Some (left d.reader (state.readers d.reader.id))
  named_next state =
      ap (λ ys. reader_named name (readers_in ys state)) spot.is ∙ named_at name state spot.front spot.item spot.back spot.none spot.passes
      ∙ ap (λ (r : NamedReader). Some (left r.reader (state.readers r.reader.id))) (sym item_is)

  pub shown_after : (other : NamedReader) → other.name ≡ d.name → {A : Type 0} (show : Reader → A) (none : A) → shown show none name (set xs at other) ≡ show other.reader
  shown_after other e show none =
      ap (shown show none name) (first_set (is_reader name) xs at spot other)
      ∙ shown_at show none name spot.front other spot.back spot.none (ap (same_text name) (e ∙ ap (λ (r : NamedReader). r.name) item_is) ∙ spot.passes)

  pub handles_next : (other : NamedReader) → other.name ≡ d.name → other.reader.id ≡ d.reader.id → map reader_handle (set xs at other) ≡ map reader_handle xs
  handles_next other e f =
      let handle : reader_handle other ≡ reader_handle spot.item = ap (λ n. (n, other.reader.id)) e ∙ ap (λ k. (d.name, k)) f ∙ ap reader_handle item_is in
      ap (map reader_handle) (first_set (is_reader name) xs at spot other) ∙ same_handles spot.front spot.item other spot.back handle ∙ sym (ap (map reader_handle) spot.is)

  pub held_next : (other : NamedReader) (kinds : ℕ → Kind) → other.name ≡ d.name → other.reader.id ≡ d.reader.id → AreOpen Reading (map reader_handle xs) kinds → AreOpen Reading (map reader_handle (set xs at other)) kinds
  held_next other kinds e f h = subst (λ (hs : List (List ℕ × ℕ)). AreOpen Reading hs kinds) (sym (handles_next other e f)) h

  pub apart_next : (k : ℕ) → IsNone k (map reader_handle xs) → k ≢ d.reader.id
  apart_next k h = λ e. none_at k spot.front spot.item spot.back (subst (λ (ys : List NamedReader). IsNone k (map reader_handle ys)) spot.is h) (e ∙ ap (λ (r : NamedReader). r.reader.id) item_is)

  pub none_next : (other : NamedReader) → other.name ≡ d.name → other.reader.id ≡ d.reader.id → (k : ℕ) → IsNone k (map reader_handle xs) → IsNone k (map reader_handle (set xs at other))
  none_next other e f k h = subst (IsNone k) (sym (handles_next other e f)) h

  pub told_next : (other : NamedReader) (kinds : ℕ → Kind) (old new : State) → other.name ≡ d.name → other.reader.id ≡ d.reader.id → AreOpen Reading (map reader_handle xs) kinds → OnlyReads d.reader.id old new →
      readers_in (set xs at other) new ≡ with_reader name (left other.reader (new.readers d.reader.id)) (readers_in xs old)
  told_next other kinds old new e f h only =
      ap (λ ys. readers_in ys new) (first_set (is_reader name) xs at spot other)
      ∙ after_at name kinds old new spot.front spot.item other spot.back (subst (λ (ys : List NamedReader). AreOpen Reading (map reader_handle ys) kinds) spot.is h) spot.none spot.passes
      (e ∙ ap (λ (r : NamedReader). r.name) item_is) (f ∙ ap (λ (r : NamedReader). r.reader.id) item_is) (subst (λ (r : NamedReader). OnlyReads r.reader.id old new) item_is only)
      ∙ ap (λ (r : NamedReader). with_reader name (left other.reader (new.readers r.reader.id)) (readers_in (spot.front ++ spot.item ∷ spot.back) old)) (sym item_is)
      ∙ ap (λ ys. with_reader name (left other.reader (new.readers d.reader.id)) (readers_in ys old)) (sym spot.is)

-- One more is opened.

other_number : (kind : Kind) (kinds : ℕ → Kind) (k id : ℕ) → kinds k ≡ kind → kinds id ≡ Closed → kind ≢ Closed → k ≢ id
other_number kind kinds k id h c not_closed = λ e. not_closed (sym h ∙ ap kinds e ∙ c)

pub not_standard : (kinds : ℕ → Kind) (id : ℕ) → kinds 0 ≡ Reading → kinds 1 ≡ Writing → kinds id ≡ Closed → 1 < id
not_standard kinds zero a b c = cc
not_standard kinds (suc zero) a b c = cc
not_standard kinds (suc (suc id)) a b c = omega arith

pub still_open : (kind other : Kind) (kinds : ℕ → Kind) (id : ℕ) (hs : List (List ℕ × ℕ)) → kinds id ≡ Closed → kind ≢ Closed → AreOpen kind hs kinds → AreOpen kind hs (set_kind id other kinds)
still_open kind other kinds id [] c not_closed h = tt
still_open kind other kinds id (x ∷ xs) c not_closed h = (
  h.0,
  ap (λ b. cond b other (kinds x.1)) (ne_eqb x.1 id (other_number kind kinds x.1 id h.1 c not_closed)) ∙ h.1,
  h.2,
  still_open kind other kinds id xs c not_closed h.3,
)

apart_last : (h g : List ℕ × ℕ) (hs : List (List ℕ × ℕ)) → h.0 ≢ g.0 → h.1 ≢ g.1 → IsApart h hs → IsApart h (hs ++ g ∷ [])
apart_last h g [] a b rest = (a, b, tt)
apart_last h g (x ∷ xs) a b rest = (rest.0, rest.1, apart_last h g xs a b rest.2)

pub one_more : (kinds : ℕ → Kind) (name : List ℕ) (r : NamedReader) (xs : List NamedReader) → 1 < r.reader.id → kinds r.reader.id ≡ Closed → r.name ≡ name → AllFail (is_reader name) xs → AreOpen Reading (map reader_handle xs) kinds →
    AreOpen Reading (map reader_handle (xs ++ r ∷ [])) (set_kind r.reader.id Reading kinds)
one_more kinds name r [] own c e none h = (own, ap (λ b. cond b Reading (kinds r.reader.id)) (same_number r.reader.id), tt, tt)
  where
    same_number : (n : ℕ) → (n == n) ≡ true
    same_number n = eq-eqb n n refl
one_more kinds name r (x ∷ xs) own c e none h = (
  h.0,
  ap (λ b. cond b Reading (kinds x.reader.id)) (ne_eqb x.reader.id r.reader.id (other_number Reading kinds x.reader.id r.reader.id h.1 c (λ is. cc is))) ∙ h.1,
  subst (λ (hs : List (List ℕ × ℕ)). IsApart (reader_handle x) hs) (sym (map_last xs r))
      (apart_last (reader_handle x) (reader_handle r) (map reader_handle xs) (λ is. other_name name x.name none.0 (is ∙ e)) (other_number Reading kinds x.reader.id r.reader.id h.1 c (λ is. cc is)) h.2),
  one_more kinds name r xs own c e none.1 h.3,
)
  where
    map_last : (ys : List NamedReader) (z : NamedReader) → map reader_handle (ys ++ z ∷ []) ≡ map reader_handle ys ++ reader_handle z ∷ []
    map_last [] z = refl
    map_last (y ∷ ys) z = ap (λ hs. reader_handle y ∷ hs) (map_last ys z)

pub none_last : (k : ℕ) (r : NamedReader) (xs : List NamedReader) → k ≢ r.reader.id → IsNone k (map reader_handle xs) → IsNone k (map reader_handle (xs ++ r ∷ []))
none_last k r [] apart h = (apart, tt)
none_last k r (x ∷ xs) apart h = (h.0, none_last k r xs apart h.1)

pub go_on : (kinds : ℕ → Kind) (id : ℕ) (ws : List NamedWriter) (old new : State) → kinds id ≡ Closed → AreOpen Writing (map writer_handle ws) kinds → KeepsOthers id old new → WritersGo ws old → WritersGo ws new
go_on kinds id [] old new c h keeps go = tt
go_on kinds id (w ∷ ws) old new c h keeps go = (keeps.writers w.id (other_number Writing kinds w.id id h.1 c (λ is. cc is)) ∙ go.0, go_on kinds id ws old new c h.3 keeps go.1)

left_fresh : (r : Reader) (source : Source) → fresh r → left r source ≡ source
left_fresh r source f = ap (λ p. left_in p (unread r) source) f.0 ∙ ap (λ xs. left_in Open xs source) f.1

-- the new one has what the name holds
pub opened_last : (kinds : ℕ → Kind) (name : List ℕ) (r : NamedReader) (xs : List NamedReader) (old new : State) → kinds r.reader.id ≡ Closed → r.name ≡ name → fresh r.reader → AllFail (is_reader name) xs → AreOpen Reading (map reader_handle xs) kinds → KeepsOthers r.reader.id old new →
    readers_in (xs ++ r ∷ []) new ≡ with_reader name (new.readers r.reader.id) (readers_in xs old)
opened_last kinds name r [] old new c e f none h keeps =
    ap (λ n. (n, left r.reader (new.readers r.reader.id)) ∷ []) e ∙ ap (λ s. (name, s) ∷ []) (left_fresh r.reader (new.readers r.reader.id) f)
opened_last kinds name r (x ∷ xs) old new c e f none h keeps =
    ap (λ s. (x.name, left x.reader s) ∷ readers_in (xs ++ r ∷ []) new) (keeps.readers x.reader.id (other_number Reading kinds x.reader.id r.reader.id h.1 c (λ is. cc is)))
    ∙ ap (λ rs. (x.name, left x.reader (old.readers x.reader.id)) ∷ rs) (opened_last kinds name r xs old new c e f none.1 h.3 keeps)
    ∙ sym (ap (λ b. cond b ((name, new.readers r.reader.id) ∷ readers_in xs old) ((x.name, left x.reader (old.readers x.reader.id)) ∷ with_reader name (new.readers r.reader.id) (readers_in xs old))) none.0)

pub source_opened : (e : Entry) (source : Source) → e.opens ≡ true → e.bytes ≡ Some source.rest → source.ending ≡ e.ending → source_of e ≡ Some source
source_opened e source opens bytes ending =
    ap (λ b. source_if b e.bytes e) opens ∙ ap (λ b. source_if true b e) bytes ∙ ap (λ x. Some (record { rest = source.rest; ending = x })) (sym ending)

pub held_open : (kinds after : ℕ → Kind) (name : List ℕ) (r : NamedReader) (xs : List NamedReader) (hs : List (List ℕ × ℕ)) → kinds 0 ≡ Reading → kinds 1 ≡ Writing → Opens Reading r.reader.id kinds after → r.name ≡ name → reader_place name xs ≡ None →
    AreOpen Reading (map reader_handle xs) kinds × AreOpen Writing hs kinds → AreOpen Reading (map reader_handle (xs ++ r ∷ [])) after × AreOpen Writing hs after
held_open kinds after name r xs hs input output opens e missing h = (
  subst (AreOpen Reading (map reader_handle (xs ++ r ∷ []))) (sym opens.opened)
      (one_more kinds name r xs (not_standard kinds r.reader.id input output opens.was_closed) opens.was_closed e (all_fail (is_reader name) xs missing) h.0),
  subst (AreOpen Writing hs) (sym opens.opened) (still_open Writing Reading kinds r.reader.id hs opens.was_closed (λ is. cc is) h.1),
)

pub named_last : (name : List ℕ) (xs : List NamedReader) (r : NamedReader) → reader_place name xs ≡ None → r.name ≡ name → reader_place name (xs ++ r ∷ []) ≡ Some (length xs)
named_last name xs r missing e = last_place (is_reader name) xs r (all_fail (is_reader name) xs missing) (ap (same_text name) e ∙ name_itself name)

pub shown_last : {A : Type 0} (show : Reader → A) (other : A) (name : List ℕ) (xs : List NamedReader) (r : NamedReader) → reader_place name xs ≡ None → r.name ≡ name → shown show other name (xs ++ r ∷ []) ≡ show r.reader
shown_last show other name xs r missing e = shown_at show other name xs r [] (all_fail (is_reader name) xs missing) (ap (same_text name) e ∙ name_itself name)

pub shown_missing : {A : Type 0} (show : Reader → A) (other : A) (name : List ℕ) (xs : List NamedReader) → reader_place name xs ≡ None → shown show other name xs ≡ other
shown_missing show other name xs missing = by xs (all_fail (is_reader name) xs missing)
  where
    by : (ys : List NamedReader) → AllFail (is_reader name) ys → shown show other name ys ≡ other
    by [] none = refl
    by (y ∷ ys) none = ap (λ b. cond b (show y.reader) (shown show other name ys)) none.0 ∙ by ys none.1

pub missing_named : (name : List ℕ) (state : State) (xs : List NamedReader) → reader_place name xs ≡ None → reader_named name (readers_in xs state) ≡ None
missing_named name state xs missing = not_named name state xs (all_fail (is_reader name) xs missing)

abbrev pub is_broken : Phase → Bool
is_broken Open = false
is_broken Ended = false
is_broken Broken = true

-- a name without a reader has none that failed
pub none_failed : (name : List ℕ) (xs : List NamedReader) → reader_place name xs ≡ None → phase_named name xs ≡ Broken → ⊥
none_failed name xs missing e = false≢true (ap is_broken (sym (shown_missing (λ r. r.phase) Open name xs missing) ∙ e))
