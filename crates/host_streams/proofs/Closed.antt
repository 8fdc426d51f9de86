-- A file is closed: what stays open.
use Rattle.std.proofs.Common.{◌≡◌, ◌≢◌, ℕ, ◌<◌, List, [], ◌∷◌, ◌++◌, map, filter, not, get_or, length, Option, Some, cond, if◌then◌else◌, Bool, true, false, ◌||◌, refl, sym, ap, ◌∙◌, subst}
use Rattle.std.proofs.lemmas.Bool.{eq-eqb, ne_eqb}
use Rattle.std.proofs.lemmas.List.{map-append}
use Rattle.std.specs.List.{remove}
use Rattle.awk_values.specs.declared.value.Value.TheVariants.{Text}
use Rattle.world_core.specs.WorldState.{State, Source}
use Rattle.world_core.specs.Calls.{Kind, Closed, Closes, Reading, Writing, set_kind}
use Rattle.sem_primitives.specs.Texts.{same_text}
use Rattle.sem_primitives.specs.InputMeaning.{close_row, is_reading, reader_named, without_reader, without_writer}
use Rattle.sem_primitives.specs.OutputMeaning.{is_writing}
use Rattle.sem_primitives.specs.SharedState.{Shared}
use Rattle.sem_primitives.specs.declared.answers.StreamAnswer.TheVariants as stream
use Rattle.host_streams.specs.declared.streams.NamedReader.{NamedReader}
use Rattle.host_streams.specs.declared.streams.NamedWriter.{NamedWriter}
use Rattle.host_streams.specs.declared.streams.Streams.{Streams}
use Rattle.host_streams.specs.Readers.{left}
use Rattle.host_streams.specs.OpenFiles.{reader_handle, writer_handle, IsApart, IsNone, AreOpen, WritersGo, names_of, reader_names, readers_beside, readers_in, is_reader, is_writer, reader_place, writer_place, writers_beside}
use Rattle.host_streams.specs.Outputs.{IsOf}
use Rattle.host_streams.specs.Closing.{ClosesBy}
use Rattle.host_streams.proofs.Places.{AllFail, First, first, first_item}
use Rattle.host_streams.proofs.Held.{same_name}

abbrev pub Handle : Type 0
Handle = List ℕ × ℕ

-- Streams that are open, of which one is closed.

module _ (kind : Kind) (kinds : ℕ → Kind) where
  at_handle : (front : List Handle) (h : Handle) (back : List Handle) → AreOpen kind (front ++ h ∷ back) kinds → (1 < h.1) × (kinds h.1 ≡ kind)
  at_handle [] h back o = (o.0, o.1)
  at_handle (x ∷ xs) h back o = at_handle xs h back o.3

  apart_number : (g : Handle) (front : List Handle) (h : Handle) (back : List Handle) → IsApart g (front ++ h ∷ back) → g.1 ≢ h.1
  apart_number g [] h back a = a.1
  apart_number g (x ∷ xs) h back a = apart_number g xs h back a.2

  apart_rest : (g : Handle) (front : List Handle) (h : Handle) (back : List Handle) → IsApart g (front ++ h ∷ back) → IsApart g (front ++ back)
  apart_rest g [] h back a = a.2
  apart_rest g (x ∷ xs) h back a = (a.0, a.1, apart_rest g xs h back a.2)

  kept : (id k : ℕ) → k ≢ id → kinds k ≡ kind → set_kind id Closed kinds k ≡ kind
  kept id k apart is = ap (λ b. cond b Closed (kinds k)) (ne_eqb k id apart) ∙ is

  back_open : (h : Handle) (hs : List Handle) → IsApart h hs → AreOpen kind hs kinds → AreOpen kind hs (set_kind h.1 Closed kinds)
  back_open h [] a o = tt
  back_open h (x ∷ xs) a o = (o.0, kept h.1 x.1 (λ e. a.1 (sym e)) o.1, o.2, back_open h xs a.2 o.3)

  dropped : (front : List Handle) (h : Handle) (back : List Handle) → AreOpen kind (front ++ h ∷ back) kinds → AreOpen kind (front ++ back) (set_kind h.1 Closed kinds)
  dropped [] h back o = back_open h back o.2 o.3
  dropped (x ∷ xs) h back o = (o.0, kept h.1 x.1 (apart_number x xs h back o.2) o.1, apart_rest x xs h back o.2, dropped xs h back o.3)

  -- streams of the other kind
  pub others_open : (id : ℕ) (hs : List Handle) → kinds id ≢ kind → AreOpen kind hs kinds → AreOpen kind hs (set_kind id Closed kinds)
  others_open id [] other o = tt
  others_open id (x ∷ xs) other o = (o.0, kept id x.1 (λ e. other (sym (ap kinds e) ∙ o.1)) o.1, o.2, others_open id xs other o.3)

none_at : (k : ℕ) (front : List Handle) (h : Handle) (back : List Handle) → IsNone k (front ++ h ∷ back) → k ≢ h.1
none_at k [] h back a = a.0
none_at k (x ∷ xs) h back a = none_at k xs h back a.1

none_rest : (k : ℕ) (front : List Handle) (h : Handle) (back : List Handle) → IsNone k (front ++ h ∷ back) → IsNone k (front ++ back)
none_rest k [] h back a = a.1
none_rest k (x ∷ xs) h back a = (a.0, none_rest k xs h back a.1)

none_back : (k : ℕ) (front : List Handle) (h : Handle) (back : List Handle) → k ≢ h.1 → IsNone k (front ++ back) → IsNone k (front ++ h ∷ back)
none_back k [] h back apart a = (apart, a)
none_back k (x ∷ xs) h back apart a = (a.0, none_back k xs h back apart a.1)

pub shut_apart : (k id : ℕ) (kinds : ℕ → Kind) → set_kind id Closed kinds k ≢ Closed → k ≢ id
shut_apart k id kinds was = λ e. was (ap (λ b. cond b Closed (kinds k)) (eq-eqb k id e))

pub shut_stays : (k id : ℕ) (kinds : ℕ → Kind) → k ≢ id → set_kind id Closed kinds k ≡ kinds k
shut_stays k id kinds apart = ap (λ b. cond b Closed (kinds k)) (ne_eqb k id apart)

fails_by : (name a b : List ℕ) → name ≡ a → a ≢ b → (c : Bool) → same_text name b ≡ c → same_text name b ≡ false
fails_by name a b e apart true is = absurd (apart (sym e ∙ same_name name b is))
fails_by name a b e apart false is = is

-- what is no longer open, among streams with names
module _ {A : Type 0} (handle : A → Handle) (name : List ℕ) where
  abbrev pub is_it : A → Bool
  is_it x = same_text name (handle x).0

  abbrev pub names : List A → List (List ℕ)
  names xs = map (λ x. (handle x).0) xs

  pub others_fail : (item : A) (back : List A) → is_it item ≡ true → IsApart (handle item) (map handle back) → AllFail is_it back
  others_fail item [] is a = tt
  others_fail item (x ∷ xs) is a = (fails_by name (handle item).0 (handle x).0 (same_name name (handle item).0 is) a.0 (is_it x) refl, others_fail item xs is a.2)

  pub apart_back : (kind : Kind) (kinds : ℕ → Kind) (front : List A) (item : A) (back : List A) → AreOpen kind (map handle (front ++ item ∷ back)) kinds → IsApart (handle item) (map handle back)
  apart_back kind kinds [] item back o = o.2
  apart_back kind kinds (x ∷ xs) item back o = apart_back kind kinds xs item back o.3

  -- the others
  abbrev pub beside : List A → List A
  beside xs = filter (λ x. not (is_it x)) xs

  pub beside_same : (xs : List A) → AllFail is_it xs → xs ≡ beside xs
  beside_same [] none = refl
  beside_same (x ∷ xs) none = ap (λ ys. x ∷ ys) (beside_same xs none.1) ∙ sym (ap (λ b. cond (not b) (x ∷ beside xs) (beside xs)) none.0)

  beside_rest : (front : List A) (item : A) (back : List A) → AllFail is_it front → is_it item ≡ true → AllFail is_it back → front ++ back ≡ beside (front ++ item ∷ back)
  beside_rest [] item back none is rest = beside_same back rest ∙ sym (ap (λ b. cond (not b) (item ∷ beside back) (beside back)) is)
  beside_rest (x ∷ xs) item back none is rest =
      ap (λ ys. x ∷ ys) (beside_rest xs item back none.1 is rest) ∙ sym (ap (λ b. cond (not b) (x ∷ beside (xs ++ item ∷ back)) (beside (xs ++ item ∷ back))) none.0)

  names_by : (b : Bool) (x : A) (xs : List A) (ns : List (List ℕ)) → names xs ≡ ns → names (cond (not b) (x ∷ xs) xs) ≡ cond (not b) ((handle x).0 ∷ ns) ns
  names_by true x xs ns e = e
  names_by false x xs ns e = ap (λ ys. (handle x).0 ∷ ys) e

  names_beside : (xs : List A) → names (beside xs) ≡ without_writer name (names xs)
  names_beside [] = refl
  names_beside (x ∷ xs) = names_by (is_it x) x (beside xs) (without_writer name (names xs)) (names_beside xs)

  pub names_same : (xs : List A) → AllFail is_it xs → names xs ≡ without_writer name (names xs)
  names_same xs none = ap names (beside_same xs none) ∙ names_beside xs

  names_pass : (front : List A) (item : A) (back : List A) → AllFail is_it front → is_it item ≡ true → is_writing name (names (front ++ item ∷ back)) ≡ true
  names_pass [] item back none is = ap (λ b. cond b true (is_writing name (names back))) is
  names_pass (x ∷ xs) item back none is = ap (λ b. cond b true (is_writing name (names (xs ++ item ∷ back)))) none.0 ∙ names_pass xs item back none.1 is

  pub names_fail : (xs : List A) → AllFail is_it xs → is_writing name (names xs) ≡ false
  names_fail [] none = refl
  names_fail (x ∷ xs) none = ap (λ b. cond b true (is_writing name (names xs))) none.0 ∙ names_fail xs none.1

  removed_middle : (front : List A) (x : A) (back : List A) → remove (front ++ x ∷ back) (length front) ≡ front ++ back
  removed_middle [] x back = refl
  removed_middle (z ∷ zs) x back = ap (λ ys. z ∷ ys) (removed_middle zs x back)

  -- the stream at a place is closed
  module _ (kind : Kind) (kinds : ℕ → Kind) (xs : List A) (at : ℕ) (s : First is_it at xs) (o : AreOpen kind (map handle xs) kinds) where
    in_parts : AreOpen kind (map handle (s.front ++ s.item ∷ s.back)) kinds
    in_parts = subst (λ (ys : List A). AreOpen kind (map handle ys) kinds) s.is o

    in_handles : AreOpen kind (map handle s.front ++ handle s.item ∷ map handle s.back) kinds
    in_handles = subst (λ (hs : List Handle). AreOpen kind hs kinds) (map-append handle s.front (s.item ∷ s.back)) in_parts

    pub was_open : (1 < (handle s.item).1) × (kinds (handle s.item).1 ≡ kind)
    was_open = at_handle kind kinds (map handle s.front) (handle s.item) (map handle s.back) in_handles

    pub rest_fails : AllFail is_it s.back
    rest_fails = others_fail s.item s.back s.passes (apart_back kind kinds s.front s.item s.back in_parts)

    pub is_removed : remove xs at ≡ s.front ++ s.back
    is_removed = ap (λ ys. remove ys at) s.is ∙ ap (remove (s.front ++ s.item ∷ s.back)) (sym s.place) ∙ removed_middle s.front s.item s.back

    pub open_removed : AreOpen kind (map handle (remove xs at)) (set_kind (handle s.item).1 Closed kinds)
    open_removed =
        subst (λ (ys : List A). AreOpen kind (map handle ys) (set_kind (handle s.item).1 Closed kinds)) (sym is_removed)
        (subst (λ (hs : List Handle). AreOpen kind hs (set_kind (handle s.item).1 Closed kinds)) (sym (map-append handle s.front s.back))
        (dropped kind kinds (map handle s.front) (handle s.item) (map handle s.back) in_handles))

    pub beside_removed : remove xs at ≡ beside xs
    beside_removed = is_removed ∙ beside_rest s.front s.item s.back s.none s.passes rest_fails ∙ ap beside (sym s.is)

    pub names_removed : names (remove xs at) ≡ without_writer name (names xs)
    names_removed = ap names beside_removed ∙ names_beside xs

    pub name_there : is_writing name (names xs) ≡ true
    name_there = ap (λ ys. is_writing name (names ys)) s.is ∙ names_pass s.front s.item s.back s.none s.passes

    none_in : (k : ℕ) → IsNone k (map handle xs) → IsNone k (map handle s.front ++ handle s.item ∷ map handle s.back)
    none_in k h = subst (IsNone k) (ap (map handle) s.is ∙ map-append handle s.front (s.item ∷ s.back)) h

    pub apart_item : (k : ℕ) → IsNone k (map handle xs) → k ≢ (handle s.item).1
    apart_item k h = none_at k (map handle s.front) (handle s.item) (map handle s.back) (none_in k h)

    pub none_removed : (k : ℕ) → IsNone k (map handle xs) → IsNone k (map handle (remove xs at))
    none_removed k h = subst (IsNone k) (sym (ap (map handle) is_removed ∙ map-append handle s.front s.back)) (none_rest k (map handle s.front) (handle s.item) (map handle s.back) (none_in k h))

    pub none_was : (k : ℕ) → k ≢ (handle s.item).1 → IsNone k (map handle (remove xs at)) → IsNone k (map handle xs)
    none_was k apart h =
        subst (IsNone k) (sym (ap (map handle) s.is ∙ map-append handle s.front (s.item ∷ s.back)))
        (none_back k (map handle s.front) (handle s.item) (map handle s.back) apart (subst (IsNone k) (ap (map handle) is_removed ∙ map-append handle s.front s.back) h))

-- What the readers have left then.

module _ (name : List ℕ) (s t : State) where
  same_in : (id : ℕ) (rs : List NamedReader) → ((k : ℕ) → k ≢ id → t.readers k ≡ s.readers k) → (kinds : ℕ → Kind) → AreOpen Reading (map reader_handle rs) (set_kind id Closed kinds) → readers_in rs t ≡ readers_in rs s
  same_in id [] same kinds o = refl
  same_in id (r ∷ rs) same kinds o =
      ap (λ x. (r.name, left r.reader x) ∷ readers_in rs t) (same r.reader.id (λ e. cc (sym (ap (λ b. cond b Closed (kinds r.reader.id)) (eq-eqb r.reader.id id e)) ∙ o.1)))
      ∙ ap (λ ys. (r.name, left r.reader (s.readers r.reader.id)) ∷ ys) (same_in id rs same kinds o.3)

  pub in_same : (rs : List NamedReader) → AllFail (is_reader name) rs → readers_in rs s ≡ without_reader name (readers_in rs s)
  in_same [] none = refl
  in_same (r ∷ rs) none =
      ap (λ ys. (r.name, left r.reader (s.readers r.reader.id)) ∷ ys) (in_same rs none.1)
      ∙ sym (ap (λ b. cond (not b) ((r.name, left r.reader (s.readers r.reader.id)) ∷ without_reader name (readers_in rs s)) (without_reader name (readers_in rs s))) none.0)

  in_rest : (front : List NamedReader) (item : NamedReader) (back : List NamedReader) → AllFail (is_reader name) front → is_reader name item ≡ true → AllFail (is_reader name) back →
      readers_in (front ++ back) s ≡ without_reader name (readers_in (front ++ item ∷ back) s)
  in_rest [] item back none is rest =
      in_same back rest ∙ sym (ap (λ b. cond (not b) ((item.name, left item.reader (s.readers item.reader.id)) ∷ without_reader name (readers_in back s)) (without_reader name (readers_in back s))) is)
  in_rest (r ∷ rs) item back none is rest =
      ap (λ ys. (r.name, left r.reader (s.readers r.reader.id)) ∷ ys) (in_rest rs item back none.1 is rest)
      ∙ sym (ap (λ b. cond (not b) ((r.name, left r.reader (s.readers r.reader.id)) ∷ without_reader name (readers_in (rs ++ item ∷ back) s)) (without_reader name (readers_in (rs ++ item ∷ back) s))) none.0)

  pub in_removed : (kinds : ℕ → Kind) (rs : List NamedReader) (at : ℕ) (f : First (is_reader name) at rs) → AreOpen Reading (map reader_handle rs) kinds → Closes f.item.reader.id s t →
      readers_in (remove rs at) t ≡ without_reader name (readers_in rs s)
  in_removed kinds rs at f o closes =
      same_in f.item.reader.id (remove rs at) closes.others.readers kinds (open_removed reader_handle name Reading kinds rs at f o)
      ∙ ap (λ ys. readers_in ys s) (is_removed reader_handle name Reading kinds rs at f o)
      ∙ in_rest f.front f.item f.back f.none f.passes (rest_fails reader_handle name Reading kinds rs at f o)
      ∙ ap (λ ys. without_reader name (readers_in ys s)) (sym f.is)

  -- where the writers write to
  go_apart : (kinds : ℕ → Kind) (id : ℕ) (ws : List NamedWriter) → AreOpen Writing (map writer_handle ws) (set_kind id Closed kinds) → Closes id s t → WritersGo ws s → WritersGo ws t
  go_apart kinds id [] o closes go = tt
  go_apart kinds id (w ∷ ws) o closes go =
      (closes.others.writers w.id (λ e. cc (sym (ap (λ b. cond b Closed (kinds w.id)) (eq-eqb w.id id e)) ∙ o.1)) ∙ go.0, go_apart kinds id ws o.3 closes go.1)

  go_parts : (front : List NamedWriter) (item : NamedWriter) (back : List NamedWriter) → WritersGo (front ++ item ∷ back) s → WritersGo (front ++ back) s
  go_parts [] item back go = go.1
  go_parts (x ∷ xs) item back go = (go.0, go_parts xs item back go.1)

  pub go_removed : (kinds : ℕ → Kind) (ws : List NamedWriter) (at : ℕ) (f : First (is_writer name) at ws) → AreOpen Writing (map writer_handle ws) kinds → Closes f.item.id s t → WritersGo ws s → WritersGo (remove ws at) t
  go_removed kinds ws at f o closes go =
      go_apart kinds f.item.id (remove ws at) (open_removed writer_handle name Writing kinds ws at f o) closes
      (subst (λ (ys : List NamedWriter). WritersGo ys s) (sym (is_removed writer_handle name Writing kinds ws at f o)) (go_parts f.front f.item f.back (subst (λ (ys : List NamedWriter). WritersGo ys s) f.is go)))

-- The reader at the place of a name is closed: d stands there.
module _ (name : List ℕ) (rs : List NamedReader) (ws : List NamedWriter) (at : ℕ) (found : reader_place name rs ≡ Some at) (d : NamedReader) (here : d ≡ get_or rs at d)
    (kinds : ℕ → Kind) (held : AreOpen Reading (map reader_handle rs) kinds × AreOpen Writing (map writer_handle ws) kinds) where
  r_spot : First (is_reader name) at rs
  r_spot = first (is_reader name) rs at found

  r_item : d ≡ r_spot.item
  r_item = here ∙ first_item (is_reader name) rs at r_spot d

  pub reader_open : kinds d.reader.id ≡ Reading
  reader_open = ap (λ (r : NamedReader). kinds r.reader.id) r_item ∙ (was_open reader_handle name Reading kinds rs at r_spot held.0).1

  pub reader_own : 1 < d.reader.id
  reader_own = subst (λ (r : NamedReader). 1 < r.reader.id) (sym r_item) (was_open reader_handle name Reading kinds rs at r_spot held.0).0

  pub reader_held : AreOpen Reading (map reader_handle (remove rs at)) (set_kind d.reader.id Closed kinds) × AreOpen Writing (map writer_handle ws) (set_kind d.reader.id Closed kinds)
  reader_held = (
    subst (λ (r : NamedReader). AreOpen Reading (map reader_handle (remove rs at)) (set_kind r.reader.id Closed kinds)) (sym r_item) (open_removed reader_handle name Reading kinds rs at r_spot held.0),
    others_open Writing kinds d.reader.id (map writer_handle ws) (λ e. cc (sym reader_open ∙ e)) held.1,
  )

  pub reader_apart : (k : ℕ) → IsNone k (map reader_handle rs) → k ≢ d.reader.id
  reader_apart k h = λ e. apart_item reader_handle name Reading kinds rs at r_spot held.0 k h (e ∙ ap (λ (r : NamedReader). r.reader.id) r_item)

  pub reader_none : (k : ℕ) → IsNone k (map reader_handle rs) → IsNone k (map reader_handle (remove rs at))
  reader_none k h = none_removed reader_handle name Reading kinds rs at r_spot held.0 k h

  pub reader_was : (k : ℕ) → k ≢ d.reader.id → IsNone k (map reader_handle (remove rs at)) → IsNone k (map reader_handle rs)
  reader_was k apart h = none_was reader_handle name Reading kinds rs at r_spot held.0 k (λ e. apart (e ∙ sym (ap (λ (r : NamedReader). r.reader.id) r_item))) h

  pub reader_kept : remove rs at ≡ readers_beside name rs
  reader_kept = beside_removed reader_handle name Reading kinds rs at r_spot held.0

  pub reader_go : (s t : State) → Closes d.reader.id s t → WritersGo ws s → WritersGo ws t
  reader_go s t closes go = go_apart name s t kinds d.reader.id ws reader_held.1 closes go

  pub reader_there : is_writing name (reader_names rs) ≡ true
  reader_there = name_there reader_handle name Reading kinds rs at r_spot held.0

  pub reader_names_left : reader_names (remove rs at) ≡ without_writer name (reader_names rs)
  reader_names_left = names_removed reader_handle name Reading kinds rs at r_spot held.0

  pub reader_told : (s t : State) → Closes d.reader.id s t → readers_in (remove rs at) t ≡ without_reader name (readers_in rs s)
  reader_told s t closes = in_removed name s t kinds rs at r_spot held.0 (subst (λ (r : NamedReader). Closes r.reader.id s t) r_item closes)

-- The writer at the place of a name is closed: d stands there.
module _ (name : List ℕ) (rs : List NamedReader) (ws : List NamedWriter) (at : ℕ) (found : writer_place name ws ≡ Some at) (d : NamedWriter) (here : d ≡ get_or ws at d)
    (kinds : ℕ → Kind) (held : AreOpen Reading (map reader_handle rs) kinds × AreOpen Writing (map writer_handle ws) kinds) where
  w_spot : First (is_writer name) at ws
  w_spot = first (is_writer name) ws at found

  w_item : d ≡ w_spot.item
  w_item = here ∙ first_item (is_writer name) ws at w_spot d

  pub writer_opened : kinds d.id ≡ Writing
  writer_opened = ap (λ (w : NamedWriter). kinds w.id) w_item ∙ (was_open writer_handle name Writing kinds ws at w_spot held.1).1

  pub writer_own : 1 < d.id
  writer_own = subst (λ (w : NamedWriter). 1 < w.id) (sym w_item) (was_open writer_handle name Writing kinds ws at w_spot held.1).0

  pub writer_held : AreOpen Reading (map reader_handle rs) (set_kind d.id Closed kinds) × AreOpen Writing (map writer_handle (remove ws at)) (set_kind d.id Closed kinds)
  writer_held = (
    others_open Reading kinds d.id (map reader_handle rs) (λ e. cc (sym writer_opened ∙ e)) held.0,
    subst (λ (w : NamedWriter). AreOpen Writing (map writer_handle (remove ws at)) (set_kind w.id Closed kinds)) (sym w_item) (open_removed writer_handle name Writing kinds ws at w_spot held.1),
  )

  pub writer_apart : (k : ℕ) → IsNone k (map writer_handle ws) → k ≢ d.id
  writer_apart k h = λ e. apart_item writer_handle name Writing kinds ws at w_spot held.1 k h (e ∙ ap (λ (w : NamedWriter). w.id) w_item)

  pub writer_none : (k : ℕ) → IsNone k (map writer_handle ws) → IsNone k (map writer_handle (remove ws at))
  writer_none k h = none_removed writer_handle name Writing kinds ws at w_spot held.1 k h

  pub writer_was : (k : ℕ) → k ≢ d.id → IsNone k (map writer_handle (remove ws at)) → IsNone k (map writer_handle ws)
  writer_was k apart h = none_was writer_handle name Writing kinds ws at w_spot held.1 k (λ e. apart (e ∙ sym (ap (λ (w : NamedWriter). w.id) w_item))) h

  pub writer_kept : remove ws at ≡ writers_beside name ws
  writer_kept = beside_removed writer_handle name Writing kinds ws at w_spot held.1

  pub writer_go : (s t : State) → Closes d.id s t → WritersGo ws s → WritersGo (remove ws at) t
  writer_go s t closes go = go_removed name s t kinds ws at w_spot held.1 (subst (λ (w : NamedWriter). Closes w.id s t) w_item closes) go

  pub writer_there : is_writing name (names_of ws) ≡ true
  writer_there = name_there writer_handle name Writing kinds ws at w_spot held.1

  pub writer_names_left : names_of (remove ws at) ≡ without_writer name (names_of ws)
  writer_names_left = names_removed writer_handle name Writing kinds ws at w_spot held.1

  pub readers_stay : (s t : State) → Closes d.id s t → readers_in rs t ≡ readers_in rs s
  readers_stay s t closes = same_in name s t d.id rs closes.others.readers kinds writer_held.0

-- Both are closed.

reading_by : (b : Bool) (x : Source) (o : Option Source) (c : Bool) → is_reading o ≡ c → is_reading (if b then Some x else o) ≡ cond b true c
reading_by true x o c e = refl
reading_by false x o c e = e

named_reading : (name : List ℕ) (rs : List NamedReader) (s : State) → is_reading (reader_named name (readers_in rs s)) ≡ is_writing name (reader_names rs)
named_reading name [] s = refl
named_reading name (r ∷ rs) s = reading_by (is_reader name r) (left r.reader (s.readers r.reader.id)) (reader_named name (readers_in rs s)) (is_writing name (reader_names rs)) (named_reading name rs s)

pub closes_both : (name : List ℕ) (old new : Streams) (s t : State) (shared : Shared) (reading writing : Bool) → IsOf old s shared → reading ≡ is_writing name (reader_names old.readers.items) → writing ≡ is_writing name (names_of old.writers.items) →
    readers_in new.readers.items t ≡ without_reader name (readers_in old.readers.items s) → names_of new.writers.items ≡ without_writer name (names_of old.writers.items) → ClosesBy (close_row (Text name) shared.inner) (reading || writing) new t
closes_both name old new s t shared reading writing is r w in_new out_new = record {
  readers = in_new ∙ ap (without_reader name) (sym is.readers);
  writers = out_new ∙ ap (without_writer name) (sym is.writers);
  answer = ap (λ b. if b then stream.Done else stream.NotOpen) (
      ap (λ b. b || writing) (r ∙ sym (named_reading name old.readers.items s) ∙ ap (λ rs. is_reading (reader_named name rs)) (sym is.readers))
      ∙ ap (λ b. is_reading (reader_named name shared.inner.readers) || b) (w ∙ ap (is_writing name) (sym is.writers)));
}
