-- Files that are written to, and the definition of printing.
use Rattle.std.proofs.Common.{◌≡◌, ◌≢◌, ℕ, suc, ◌<◌, List, [], ◌∷◌, ◌++◌, map, get_or, take, Option, Some, None, is_some, Result, Ok, Err, OnErr, OnOk, cond, if◌then◌else◌, Bool, true, false, refl, sym, ap, ◌∙◌, subst}
use Rattle.std.proofs.lemmas.Bool.{eq-eqb, ne_eqb}
use Rattle.awk_values.specs.declared.fault.Fault.{Fault}
use Rattle.awk_values.specs.declared.fault.Stop.{Stop}
use Rattle.awk_values.specs.declared.fault.Stop.TheVariants.{Fault as IsFault, NoMemory}
use Rattle.world_core.specs.WorldState.{State, Named, Standard, Open, Outside, Target, after}
use Rattle.world_core.specs.Calls.{Kind, Closed, Reading, Writing, Opens, OpensWriter, set_kind}
use Rattle.sem_primitives.specs.Finds.{observed_by, seen}
use Rattle.sem_primitives.specs.SharedState.{Shared, HostResult}
use Rattle.sem_primitives.specs.OutputMeaning.{all_out, has_room, is_writing, kept_open, opened_if, then_written, written, written_by}
use Rattle.host_streams.specs.declared.streams.NamedWriter.{NamedWriter}
use Rattle.host_streams.specs.OpenFiles.{writer_handle, IsApart, IsNone, AreOpen, WritersGo, names_of, is_writer, writer_place}
use Rattle.host_streams.specs.Puts.{IsOver, PutsBy, Spares}
use Rattle.host_streams.specs.Outputs.{PutsIs, with_writer}
use Rattle.host_streams.proofs.Places.{AllFail, First, first, all_fail, first_item}
use Rattle.host_streams.proofs.Writing.{seen_over}
use Rattle.host_streams.proofs.Held.{other_name, same_name, not_standard, still_open}

-- The file of a name is open for writing.

open_writer : (kinds : ℕ → Kind) (front : List NamedWriter) (item : NamedWriter) (back : List NamedWriter) → AreOpen Writing (map writer_handle (front ++ item ∷ back)) kinds → kinds item.id ≡ Writing
open_writer kinds [] item back h = h.1
open_writer kinds (x ∷ xs) item back h = open_writer kinds xs item back h.3

goes_at : (state : State) (front : List NamedWriter) (item : NamedWriter) (back : List NamedWriter) → WritersGo (front ++ item ∷ back) state → state.writers item.id ≡ Named item.name
goes_at state [] item back h = h.0
goes_at state (x ∷ xs) item back h = goes_at state xs item back h.1

writing_at : (name : List ℕ) (front : List NamedWriter) (item : NamedWriter) (back : List NamedWriter) → AllFail (is_writer name) front → is_writer name item ≡ true → is_writing name (names_of (front ++ item ∷ back)) ≡ true
writing_at name [] item back none is = ap (λ b. cond b true (is_writing name (names_of back))) is
writing_at name (x ∷ xs) item back none is = ap (λ b. cond b true (is_writing name (names_of (xs ++ item ∷ back)))) none.0 ∙ writing_at name xs item back none.1 is

not_writing : (name : List ℕ) (xs : List NamedWriter) → AllFail (is_writer name) xs → is_writing name (names_of xs) ≡ false
not_writing name [] none = refl
not_writing name (x ∷ xs) none = ap (λ b. cond b true (is_writing name (names_of xs))) none.0 ∙ not_writing name xs none.1

pub writer_missing : (name : List ℕ) (ws : List NamedWriter) → writer_place name ws ≡ None → is_writing name (names_of ws) ≡ false
writer_missing name ws missing = not_writing name ws (all_fail (is_writer name) ws missing)

module _ (name : List ℕ) (ws : List NamedWriter) (at : ℕ) (found : writer_place name ws ≡ Some at) (d : NamedWriter) (here : d ≡ get_or ws at d) where
  spot : First (is_writer name) at ws
  spot = first (is_writer name) ws at found

  item_is : d ≡ spot.item
  item_is = here ∙ first_item (is_writer name) ws at spot d

  pub writer_open : (kinds : ℕ → Kind) → AreOpen Writing (map writer_handle ws) kinds → kinds d.id ≡ Writing
  writer_open kinds h =
      ap (λ (w : NamedWriter). kinds w.id) item_is
      ∙ open_writer kinds spot.front spot.item spot.back (subst (λ (ys : List NamedWriter). AreOpen Writing (map writer_handle ys) kinds) spot.is h)

  pub writer_goes : (state : State) → WritersGo ws state → state.writers d.id ≡ Named name
  writer_goes state h =
      ap (λ (w : NamedWriter). state.writers w.id) item_is ∙ goes_at state spot.front spot.item spot.back (subst (λ (ys : List NamedWriter). WritersGo ys state) spot.is h)
      ∙ ap Named (sym (same_name name spot.item.name spot.passes))

pub writer_named : (name : List ℕ) (ws : List NamedWriter) (at : ℕ) → writer_place name ws ≡ Some at → is_writing name (names_of ws) ≡ true
writer_named name ws at found =
    let spot : First (is_writer name) at ws = first (is_writer name) ws at found in
    ap (λ ys. is_writing name (names_of ys)) spot.is ∙ writing_at name spot.front spot.item spot.back spot.none spot.passes

-- whether all that was put to a name is out
pub out_empty : (name : List ℕ) (ws : List NamedWriter) → name ≡ [] → all_out name (names_of ws) ≡ true
out_empty name ws e = ap (λ n. all_out n (names_of ws)) e

out_named : (name : List ℕ) (ws : List NamedWriter) → name ≢ [] → all_out name (names_of ws) ≡ is_writing name (names_of ws)
out_named [] ws other = absurd (other refl)
out_named (c ∷ cs) ws other = refl

place_out : (name : List ℕ) (ws : List NamedWriter) (o : Option ℕ) → writer_place name ws ≡ o → is_some o ≡ is_writing name (names_of ws)
place_out name ws None e = sym (writer_missing name ws e)
place_out name ws (Some at) e = sym (writer_named name ws at e)

pub out_there : (name : List ℕ) (ws : List NamedWriter) → name ≢ [] → is_some (writer_place name ws) ≡ all_out name (names_of ws)
out_there name ws other = place_out name ws (writer_place name ws) refl ∙ sym (out_named name ws other)

pub with_named : (name : List ℕ) (names : List (List ℕ)) → is_writing name names ≡ true → names ≡ with_writer name names
with_named name names is = sym (ap (λ b. if b then names else names ++ (name ∷ [])) is)

pub with_missing : (name : List ℕ) (names : List (List ℕ)) → is_writing name names ≡ false → names ++ (name ∷ []) ≡ with_writer name names
with_missing name names is = sym (ap (λ b. if b then names else names ++ (name ∷ [])) is)

pub on_ok : {A E : Type 0} (r : Result A E) (P : Type 0) → P → OnOk r P
on_ok (Ok x) P p = p
on_ok (Err e) P p = tt

-- to an open file
pub put_to : {A : Type 0} (name text : List ℕ) (append : Bool) (target : Target) (shared : Shared) (r : Result A Stop) (s t : State) → is_writing name shared.inner.writers ≡ true → target ≡ Named name → PutsBy (written target text shared) r s t →
    PutsBy (written_by (is_writing name shared.inner.writers) name append text shared) r s t
put_to name text append target shared r s t is to h =
    subst (λ (b : Bool). PutsBy (written_by b name append text shared) r s t) (sym is) (subst (λ (x : Target). PutsBy (written x text shared) r s t) to h)

-- Streams that stay where they are.

pub other_number : (kinds : ℕ → Kind) (k id : ℕ) → kinds id ≡ Closed → kinds k ≢ Closed → k ≢ id
other_number kinds k id closed was = λ e. was (ap kinds e ∙ closed)

pub go_spared : (kinds : ℕ → Kind) (ws : List NamedWriter) (s t : State) → AreOpen Writing (map writer_handle ws) kinds → Spares kinds s t → WritersGo ws s → WritersGo ws t
go_spared kinds [] s t h spares go = tt
go_spared kinds (w ∷ ws) s t h spares go = (spares.writers w.id (λ closed. cc (sym h.1 ∙ closed)) ∙ go.0, go_spared kinds ws s t h.3 spares go.1)

-- One more is open for writing.

pub go_last : (w : NamedWriter) (ws : List NamedWriter) (state : State) → WritersGo ws state → state.writers w.id ≡ Named w.name → WritersGo (ws ++ w ∷ []) state
go_last w [] state go is = (is, tt)
go_last w (x ∷ xs) state go is = (go.0, go_last w xs state go.1 is)

pub names_last : (ws : List NamedWriter) (w : NamedWriter) → names_of (ws ++ w ∷ []) ≡ names_of ws ++ (w.name ∷ [])
names_last [] w = refl
names_last (x ∷ xs) w = ap (λ names. x.name ∷ names) (names_last xs w)

apart_last : (h g : List ℕ × ℕ) (hs : List (List ℕ × ℕ)) → h.0 ≢ g.0 → h.1 ≢ g.1 → IsApart h hs → IsApart h (hs ++ g ∷ [])
apart_last h g [] a b rest = (a, b, tt)
apart_last h g (x ∷ xs) a b rest = (rest.0, rest.1, apart_last h g xs a b rest.2)

handles_last : (ws : List NamedWriter) (w : NamedWriter) → map writer_handle (ws ++ w ∷ []) ≡ map writer_handle ws ++ (writer_handle w ∷ [])
handles_last [] w = refl
handles_last (x ∷ xs) w = ap (λ hs. writer_handle x ∷ hs) (handles_last xs w)

one_more : (kinds : ℕ → Kind) (w : NamedWriter) (ws : List NamedWriter) → 1 < w.id → kinds w.id ≡ Closed → AllFail (is_writer w.name) ws → AreOpen Writing (map writer_handle ws) kinds →
    AreOpen Writing (map writer_handle ws ++ (writer_handle w ∷ [])) (set_kind w.id Writing kinds)
one_more kinds w [] own closed none h = (own, ap (λ b. cond b Writing (kinds w.id)) (eq-eqb w.id w.id refl), tt, tt)
one_more kinds w (x ∷ xs) own closed none h =
    let apart : x.id ≢ w.id = other_number kinds x.id w.id closed (λ c. cc (sym h.1 ∙ c)) in (
      h.0,
      ap (λ b. cond b Writing (kinds x.id)) (ne_eqb x.id w.id apart) ∙ h.1,
      apart_last (writer_handle x) (writer_handle w) (map writer_handle xs) (other_name w.name x.name none.0) apart h.2,
      one_more kinds w xs own closed none.1 h.3,
    )

pub held_written : (kinds after : ℕ → Kind) (w : NamedWriter) (ws : List NamedWriter) (hs : List (List ℕ × ℕ)) → kinds 0 ≡ Reading → kinds 1 ≡ Writing → Opens Writing w.id kinds after → writer_place w.name ws ≡ None →
    AreOpen Reading hs kinds × AreOpen Writing (map writer_handle ws) kinds → AreOpen Reading hs after × AreOpen Writing (map writer_handle (ws ++ w ∷ [])) after
held_written kinds after w ws hs input output opens missing h = (
  subst (AreOpen Reading hs) (sym opens.opened) (still_open Reading Writing kinds w.id hs opens.was_closed (λ is. cc is) h.0),
  subst (AreOpen Writing (map writer_handle (ws ++ w ∷ []))) (sym opens.opened)
      (subst (λ (gs : List (List ℕ × ℕ)). AreOpen Writing gs (set_kind w.id Writing kinds)) (sym (handles_last ws w))
      (one_more kinds w ws (not_standard kinds w.id input output opens.was_closed) opens.was_closed (all_fail (is_writer w.name) ws missing) h.1)),
)

pub none_more : (k : ℕ) (w : NamedWriter) (ws : List NamedWriter) → k ≢ w.id → IsNone k (map writer_handle ws) → IsNone k (map writer_handle (ws ++ w ∷ []))
none_more k w [] apart h = (apart, tt)
none_more k w (x ∷ xs) apart h = (h.0, none_more k w xs apart h.1)

pub none_but_last : (k : ℕ) (w : NamedWriter) (ws : List NamedWriter) → IsNone k (map writer_handle (ws ++ w ∷ [])) → (k ≢ w.id) × IsNone k (map writer_handle ws)
none_but_last k w [] h = (h.0, tt)
none_but_last k w (x ∷ xs) h = let rest = none_but_last k w xs h.1 in (rest.0, (h.0, rest.1))

pub kind_stays : (kind : Kind) (id k : ℕ) (kinds after : ℕ → Kind) → Opens kind id kinds after → kinds k ≢ Closed → after k ≡ kinds k
kind_stays kind id k kinds after o was = ap (λ (f : ℕ → Kind). f k) o.opened ∙ ap (λ b. cond b kind (kinds k)) (ne_eqb k id (other_number kinds k id o.was_closed was))

pub was_kind : (kind : Kind) (id k : ℕ) (kinds after : ℕ → Kind) → Opens kind id kinds after → k ≢ id → kinds k ≡ after k
was_kind kind id k kinds after o apart = sym (ap (λ (f : ℕ → Kind). f k) o.opened ∙ ap (λ b. cond b kind (kinds k)) (ne_eqb k id apart))

-- What the definition says of a file that is opened.

-- a fault is answered as another kind of answer, and what was opened is closed again
pub put_shut : (d : HostResult (Result (Unit {0}) Fault)) (stop : Stop) (s t u : State) → u.outside ≡ t.outside → PutsBy {A = Unit {0}} d (Err stop) s t → PutsBy {A = ℕ} d (Err stop) s u
put_shut d (IsFault fault) s t u e h = record { answer_is = h.answer_is; outside = e ∙ h.outside }
put_shut d NoMemory s t u e h = (h.0, e ∙ h.1)

after_opening : {A : Type 0} (name : List ℕ) (append : Bool) (d : HostResult (Result (Unit {0}) Fault)) (r : Result A Stop) (s t u : State) → t.outside ≡ after (Open name append ∷ []) s.outside → PutsBy d r t u →
    PutsBy (then_written (Open name append) name d) r s u
after_opening name append d (Ok x) s t u e h = record { answer_is = h.answer_is; outside = h.outside ∙ ap (after d.added) e }
after_opening name append d (Err (IsFault fault)) s t u e h = record { answer_is = h.answer_is; outside = h.outside ∙ ap (after d.added) e }
after_opening name append d (Err NoMemory) s t u e h = (suc h.0, h.1 ∙ ap (after (take h.0 d.added)) e)

-- what the definition speaks of once a file is opened
abbrev pub opened_in : List ℕ → Bool → Shared → Shared
opened_in name append shared = record shared { outside = after (Open name append ∷ []) shared.outside }

pub over_opened : (name : List ℕ) (append : Bool) (id : ℕ) (shared : Shared) (s t : State) → IsOver s shared → OpensWriter name append id s t → IsOver t (opened_in name append shared)
over_opened name append id shared s t e o = record { kept = e.kept; outside = ap (after (Open name append ∷ [])) e.outside ∙ sym o.outside }

pub put_opened : {A : Type 0} (name text : List ℕ) (append : Bool) (id : ℕ) (shared : Shared) (r : Result A Stop) (s t u : State) → IsOver s shared → OpensWriter name append id s t →
    PutsBy (written (t.writers id) text (opened_in name append shared)) r t u → PutsBy (opened_if true (seen shared.inner shared.outside (Named name)).opens name append text shared) r s u
put_opened name text append id shared r s t u e o h =
    subst (λ (b : Bool). PutsBy (opened_if true b name append text shared) r s u) (sym (ap (λ (f : Outside). (f (Named name)).opens) (seen_over s shared e) ∙ o.opens))
    (after_opening name append (written (Named name) text (opened_in name append shared)) r s t u o.outside
    (subst (λ (x : Target). PutsBy (written x text (opened_in name append shared)) r t u) o.writer h))

pub put_missing : {A : Type 0} (name text : List ℕ) (append : Bool) (shared : Shared) (r : Result A Stop) (s t : State) → is_writing name shared.inner.writers ≡ false → PutsBy (written_by false name append text shared) r s t →
    PutsBy (written_by (is_writing name shared.inner.writers) name append text shared) r s t
put_missing name text append shared r s t is h = subst (λ (b : Bool). PutsBy (written_by b name append text shared) r s t) (sym is) h

-- Which names are open for writing then.

inner_false : (room opens : Bool) (name text : List ℕ) (append : Bool) (shared : Shared) → (opened_if room opens name append text shared).inner.writers ≡ (kept_open name shared.inner (opened_if room opens name append text shared).answer).writers
inner_false false opens name text append shared = refl
inner_false true false name text append shared = refl
inner_false true true name text append shared =
    by (written (Named name) text (opened_in name append shared)).answer
  where
    by : (r : Result (Unit {0}) Fault) → (kept_open name (observed_by r shared.inner) r).writers ≡ (kept_open name shared.inner r).writers
    by (Ok x) = refl
    by (Err fault) = refl

writers_ok : (name text : List ℕ) (append : Bool) (shared : Shared) (b : Bool) → is_writing name shared.inner.writers ≡ b → (written_by b name append text shared).answer ≡ Ok tt →
    (written_by b name append text shared).inner.writers ≡ with_writer name shared.inner.writers
writers_ok name text append shared true is a = with_named name shared.inner.writers is
writers_ok name text append shared false is a =
    inner_false (has_room shared.inner) (seen shared.inner shared.outside (Named name)).opens name text append shared
    ∙ ap (λ r. (kept_open name shared.inner r).writers) a ∙ with_missing name shared.inner.writers is

writers_err : (name text : List ℕ) (append : Bool) (shared : Shared) (fault : Fault) (b : Bool) → (written_by b name append text shared).answer ≡ Err fault → (written_by b name append text shared).inner.writers ≡ shared.inner.writers
writers_err name text append shared fault true a = refl
writers_err name text append shared fault false a =
    inner_false (has_room shared.inner) (seen shared.inner shared.outside (Named name)).opens name text append shared
    ∙ ap (λ r. (kept_open name shared.inner r).writers) a

pub puts_file : (name text : List ℕ) (append : Bool) (shared : Shared) (r : Result (Unit {0}) Stop) (s t : State) (ws vs : List NamedWriter) → shared.inner.writers ≡ names_of ws → OnOk r (names_of vs ≡ with_writer name (names_of ws)) → OnErr r (vs ≡ ws) →
    PutsBy (written_by (is_writing name shared.inner.writers) name append text shared) r s t → PutsIs (written_by (is_writing name shared.inner.writers) name append text shared) r s t (names_of ws) (names_of vs)
puts_file name text append shared (Ok x) s t ws vs e ok err h =
    (h, ok ∙ ap (with_writer name) (sym e) ∙ sym (writers_ok name text append shared (is_writing name shared.inner.writers) refl h.answer_is))
puts_file name text append shared (Err (IsFault fault)) s t ws vs e ok err h =
    (h, ap names_of err ∙ sym e ∙ sym (writers_err name text append shared fault (is_writing name shared.inner.writers) h.answer_is))
puts_file name text append shared (Err NoMemory) s t ws vs e ok err h = (h, ap names_of err)

pub puts_standard : (text : List ℕ) (target : Target) (shared : Shared) (r : Result (Unit {0}) Stop) (s t : State) (names : List (List ℕ)) → target ≡ Standard → shared.inner.writers ≡ names → PutsBy (written target text shared) r s t →
    PutsIs (written Standard text shared) r s t names names
puts_standard text target shared r s t names to e h = by r (subst (λ (x : Target). PutsBy (written x text shared) r s t) to h)
  where
    by : (q : Result (Unit {0}) Stop) → PutsBy (written Standard text shared) q s t → PutsIs (written Standard text shared) q s t names names
    by (Ok x) p = (p, sym e)
    by (Err (IsFault fault)) p = (p, sym e)
    by (Err NoMemory) p = (p, refl)
