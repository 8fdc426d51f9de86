-- Which files are open for reading after a call that reads one.
use Rattle.std.proofs.Common.{◌≡◌, ◌≢◌, ℕ, List, [], ◌∷◌, ◌++◌, map, not, set, get_or, Option, Some, None, Ok, Err, cond, subst, Bool, true, false, refl, sym, ap, ◌∙◌}
use Rattle.std.proofs.lemmas.Bool.{false≢true}
use Rattle.std.proofs.lemmas.List.{map-append}
use Rattle.awk_values.specs.declared.fault.Fault.TheVariants.{TooManyStreams}
use Rattle.awk_values.specs.declared.fault.Stop.{Stop}
use Rattle.awk_values.specs.declared.fault.Stop.TheVariants.{Fault as IsFault, NoMemory}
use Rattle.world_core.specs.WorldState.{Source, State}
use Rattle.sem_primitives.specs.Texts.{same_text}
use Rattle.sem_primitives.specs.OutputMeaning.{is_writing}
use Rattle.host_streams.specs.declared.streams.NamedReader.{NamedReader}
use Rattle.host_streams.specs.OpenFiles.{IsAdded, IsNone, OpensFile, OpensReader, is_reader, reader_handle, reader_names, reader_place, readers_beside}
use Rattle.host_streams.proofs.Places.{AllFail, First, all_fail, first, first_item, first_set}
use Rattle.host_streams.proofs.Held.{name_itself}

names_pass : (name : List ℕ) (front : List NamedReader) (item : NamedReader) (back : List NamedReader) → AllFail (is_reader name) front → is_reader name item ≡ true → is_writing name (reader_names (front ++ item ∷ back)) ≡ true
names_pass name [] item back none is = ap (λ b. cond b true (is_writing name (reader_names back))) is
names_pass name (x ∷ xs) item back none is = ap (λ b. cond b true (is_writing name (reader_names (xs ++ item ∷ back)))) none.0 ∙ names_pass name xs item back none.1 is

pub name_there : (name : List ℕ) (xs : List NamedReader) (at : ℕ) → reader_place name xs ≡ Some at → is_writing name (reader_names xs) ≡ true
name_there name xs at found =
    let spot : First (is_reader name) at xs = first (is_reader name) xs at found in
    ap (λ ys. is_writing name (reader_names ys)) spot.is ∙ names_pass name spot.front spot.item spot.back spot.none spot.passes

-- none of these has the name
none_named : (name : List ℕ) (xs : List NamedReader) → AllFail (is_reader name) xs → is_writing name (reader_names xs) ≡ false
none_named name [] none = refl
none_named name (x ∷ xs) none = ap (λ b. cond b true (is_writing name (reader_names xs))) none.0 ∙ none_named name xs none.1

pub is_missing : (name : List ℕ) (xs : List NamedReader) → reader_place name xs ≡ None → is_writing name (reader_names xs) ≡ false
is_missing name xs missing = none_named name xs (all_fail (is_reader name) xs missing)

none_there : (name : List ℕ) (xs : List NamedReader) → reader_place name xs ≡ None → is_writing name (reader_names xs) ≡ true → ⊥
none_there name xs missing there = false≢true (sym (is_missing name xs missing) ∙ there)

-- nothing was opened, so the name has no reader
pub not_added : (room : Bool) (name : List ℕ) (old new : List NamedReader) {found : Option ℕ} → found ≡ None → reader_place name old ≡ None → OpensReader room name old (Ok found) new → is_writing name (reader_names new) ≡ true → ⊥
not_added room name old new e missing h there =
    none_there name old missing (sym (ap (λ xs. is_writing name (reader_names xs)) (subst (λ (o : Option ℕ). OpensReader room name old (Ok o) new) e h).1) ∙ there)

pub not_opened : (room : Bool) (name : List ℕ) (old : List NamedReader) (stop : Stop) (new : List NamedReader) → reader_place name old ≡ None → OpensReader room name old (Err stop) new → is_writing name (reader_names new) ≡ true → ⊥
not_opened room name old stop new missing h there = none_there name old missing (sym (ap (λ xs. is_writing name (reader_names xs)) (same stop h)) ∙ there)
  where
    same : (s : Stop) → OpensReader room name old (Err s) new → new ≡ old
    same (IsFault fault) h = h.2
    same NoMemory h = h.1

-- The readers of other names.

beside_middle : (name : List ℕ) (front : List NamedReader) (item other : NamedReader) (back : List NamedReader) → is_reader name item ≡ true → is_reader name other ≡ true →
    readers_beside name (front ++ other ∷ back) ≡ readers_beside name (front ++ item ∷ back)
beside_middle name [] item other back was is =
    ap (λ b. cond (not b) (other ∷ readers_beside name back) (readers_beside name back)) is ∙ sym (ap (λ b. cond (not b) (item ∷ readers_beside name back) (readers_beside name back)) was)
beside_middle name (x ∷ xs) item other back was is = ap (λ ys. cond (not (is_reader name x)) (x ∷ ys) ys) (beside_middle name xs item other back was is)

pub beside_next : (name : List ℕ) (xs : List NamedReader) (at : ℕ) (found : reader_place name xs ≡ Some at) (d other : NamedReader) → d ≡ get_or xs at d → other.name ≡ d.name → readers_beside name (set xs at other) ≡ readers_beside name xs
beside_next name xs at found d other here e =
    let spot : First (is_reader name) at xs = first (is_reader name) xs at found in
    let same : d ≡ spot.item = here ∙ first_item (is_reader name) xs at spot d in
    ap (readers_beside name) (first_set (is_reader name) xs at spot other)
    ∙ beside_middle name spot.front spot.item other spot.back spot.passes (ap (same_text name) (e ∙ ap (λ (r : NamedReader). r.name) same) ∙ spot.passes)
    ∙ ap (readers_beside name) (sym spot.is)

pub beside_last : (name : List ℕ) (xs : List NamedReader) (r : NamedReader) → r.name ≡ name → readers_beside name (xs ++ r ∷ []) ≡ readers_beside name xs
beside_last name [] r e = ap (λ b. cond (not b) (r ∷ []) []) (ap (same_text name) e ∙ name_itself name)
beside_last name (x ∷ xs) r e = ap (λ ys. cond (not (is_reader name x)) (x ∷ ys) ys) (beside_last name xs r e)

-- One more is open.

pub added_last : (name : List ℕ) (xs : List NamedReader) (r : NamedReader) → r.name ≡ name → IsAdded name xs (xs ++ r ∷ [])
added_last name xs r e = (r.reader.id, map-append reader_handle xs (r ∷ []) ∙ ap (λ n. map reader_handle xs ++ ((n, r.reader.id) ∷ [])) e)

pub none_but_last : (k : ℕ) (r : NamedReader) (xs : List NamedReader) → IsNone k (map reader_handle (xs ++ r ∷ [])) → (k ≢ r.reader.id) × IsNone k (map reader_handle xs)
none_but_last k r [] h = (h.0, tt)
none_but_last k r (x ∷ xs) h = let rest = none_but_last k r xs h.1 in (rest.0, (h.0, rest.1))

-- Nothing is opened: there is no room, or no memory.

pub none_opened : (name : List ℕ) (room : Bool) (old : List NamedReader) → room ≡ false → OpensReader room name old (Err (IsFault TooManyStreams)) old
none_opened name room old e = (e, refl, refl)

pub none_told : (name : List ℕ) (room : Bool) (state : State) (old : List (List ℕ × Source)) → room ≡ false → OpensFile name room state old (Err (IsFault TooManyStreams)) old
none_told name room state old e = (e, refl, refl)
