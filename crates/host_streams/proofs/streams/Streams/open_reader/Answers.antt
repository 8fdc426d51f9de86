use Rattle.std.proofs.Common.{◌≡◌, ◌∙◌, ◌++◌, ◌∷◌, [], ◌<◌, ◌+◌, refl, sym, ap, subst, ℕ, Bool, List, Option, None, Some, Err, true, false, length, arith}
use Rattle.std.proofs.lemmas.Bool.{lt-ltb}
use Rattle.sem_primitives.specs.InputMeaning.{with_reader}
use Rattle.host_streams.specs.declared.streams.NamedReader.{NamedReader}
use Rattle.host_streams.specs.OpenFiles.{IsAdded, has_room, is_reader, kept_named, phase_named, reader_place, readers_beside, readers_in}
use Rattle.host_streams.specs.declared.reader.Phase.TheVariants.{Open}
use Rattle.host_streams.specs.Readers.{unread}
use Rattle.host_streams.proofs.Places.{all_fail}
use Rattle.host_streams.proofs.Held.{held_open, go_on, opened_last, source_opened, named_last, none_last, shown_last}
use Rattle.host_streams.proofs.Begun.{few_streams, many_streams, may_by, may_not}
use Rattle.host_streams.proofs.Opened.{added_last, beside_last, none_but_last, none_opened, none_told}
use Rattle.host_streams.proofs.Outputs.{kind_stays, other_number, was_kind}
use Rattle.world_core.specs.Calls.{IsShut, OpensToRead, next_count}
use Rattle.world_core.specs.WorldState.{Entry, Named, State}
use Rattle.world_core.specs.declared.world.WorldFault.{WorldFault}
use Rattle.sem_primitives.specs.InputParts.{source_if, source_of}
use Rattle.host_streams.specs.OpenFiles.{WritersGo}
use Rattle.host_streams.proofs.Refused.{is_stop}
use Rattle.host_streams.proofs.Given.{none_one, none_still}
use Rattle.host_streams.proofs.streams.Streams.open_reader.Goals as goal

shut_named : (name : List ℕ) (state : State) → IsShut (state.outside (Named name)) → source_of (state.outside (Named name)) ≡ None
shut_named name state h =
    let entry = state.outside (Named name) in
    by entry.opens entry.bytes entry h
  where
    by : (opens : Bool) (bytes : Option (List ℕ)) (entry : Entry) → (opens ≡ true → bytes ≡ None) → source_if opens bytes entry ≡ None
    by true None entry h = refl
    by true (Some bytes) entry h = absurd (cc (h refl))
    by false bytes entry h = refl

pub returns-in-Ok-clause-held : goal.returns-in-Ok-clause-held
returns-in-Ok-clause-held g c =
    let r : NamedReader = record { name = c.in_ok-own.own; reader = c.new-reader.result } in
    let items = c.push_reserved.ensures.items ∙ ap (λ xs. xs ++ r ∷ []) c.reserve.ensures.items in
    rw items (held_open (g.W.World.kinds c.args.world.now) (g.W.World.kinds c.open_read.new.self) c.args.name.now r c.args.self.now.readers.items _
    (g.met.W.World.input c.args.world.now) (g.met.W.World.output c.args.world.now) (rw c.new-reader.ensures.id c.in-Ok.ensures.opened) c.in_ok-own.ensures c.requires.missing c.requires.held)

pub returns-in-Ok-clause-place : goal.returns-in-Ok-clause-place
returns-in-Ok-clause-place g c =
    let r : NamedReader = record { name = c.in_ok-own.own; reader = c.new-reader.result } in
    let items = c.push_reserved.ensures.items ∙ ap (λ xs. xs ++ r ∷ []) c.reserve.ensures.items in
    ap (reader_place c.args.name.now) items ∙ named_last c.args.name.now c.args.self.now.readers.items r c.requires.missing c.in_ok-own.ensures ∙ ap (λ xs. Some (length xs)) (sym c.as_slice-at.ensures.value)

pub returns-in-Ok-clause-goes : goal.returns-in-Ok-clause-goes
returns-in-Ok-clause-goes g c = λ tells. go_on _ c.in-Ok.id c.args.self.now.writers.items _ _ c.in-Ok.ensures.opened.was_closed c.requires.held.1 (c.in-Ok.ensures.told tells).others (c.requires.goes tells)

pub returns-in-Ok-clause-told : goal.returns-in-Ok-clause-told
returns-in-Ok-clause-told g c = λ tells.
    let r : NamedReader = record { name = c.in_ok-own.own; reader = c.new-reader.result } in
    let items = c.push_reserved.ensures.items ∙ ap (λ xs. xs ++ r ∷ []) c.reserve.ensures.items in
    let told = c.in-Ok.ensures.told tells in
    let id = c.new-reader.ensures.id in
    let readers : length c.as_slice.result.now ≡ length c.args.self.now.readers.items = ap length c.as_slice.ensures.value in
    let writers : length c.as_slice-2.result.now ≡ length c.args.self.now.writers.items = ap length c.as_slice-2.ensures.value in
    let few : length c.args.self.now.readers.items + length c.args.self.now.writers.items < 256 = (let below = c.if-as_slice-ge-MAX_STREAMS.false in omega arith) in (
      lt-ltb (length c.args.self.now.readers.items + length c.args.self.now.writers.items) 256 few,
      (g.W.World.state c.open_read.new.self).readers c.in-Ok.id,
      source_opened _ _ told.opens told.bytes told.ending,
      ap (λ xs. readers_in xs (g.W.World.state c.open_read.new.self)) items
          ∙ opened_last (g.W.World.kinds c.args.world.now) c.args.name.now r c.args.self.now.readers.items (g.W.World.state c.args.world.now) (g.W.World.state c.open_read.new.self)
          (rw id c.in-Ok.ensures.opened.was_closed) c.in_ok-own.ensures c.new-reader.ensures.fresh (all_fail (is_reader c.args.name.now) c.args.self.now.readers.items c.requires.missing) c.requires.held.0 (rw id told.others)
          ∙ ap (λ k. with_reader c.args.name.now ((g.W.World.state c.open_read.new.self).readers k) (readers_in c.args.self.now.readers.items (g.W.World.state c.args.world.now))) id,
    )

pub returns-in-Ok-clause-phase : goal.returns-in-Ok-clause-phase
returns-in-Ok-clause-phase g c =
    let r : NamedReader = record { name = c.in_ok-own.own; reader = c.new-reader.result } in
    let items = c.push_reserved.ensures.items ∙ ap (λ xs. xs ++ r ∷ []) c.reserve.ensures.items in
    ap (phase_named c.args.name.now) items ∙ shown_last (λ r. r.phase) Open c.args.name.now c.args.self.now.readers.items r c.requires.missing c.in_ok-own.ensures ∙ c.new-reader.ensures.fresh.0

pub returns-in-Ok-clause-nothing : goal.returns-in-Ok-clause-nothing
returns-in-Ok-clause-nothing g c =
    let r : NamedReader = record { name = c.in_ok-own.own; reader = c.new-reader.result } in
    let items = c.push_reserved.ensures.items ∙ ap (λ xs. xs ++ r ∷ []) c.reserve.ensures.items in
    ap (kept_named c.args.name.now) items ∙ shown_last unread [] c.args.name.now c.args.self.now.readers.items r c.requires.missing c.in_ok-own.ensures ∙ c.new-reader.ensures.fresh.1

pub returns-in-Ok-clause-others : goal.returns-in-Ok-clause-others
returns-in-Ok-clause-others g c = λ k none was.
    let r : NamedReader = record { name = c.in_ok-own.own; reader = c.new-reader.result } in
    let items = c.push_reserved.ensures.items ∙ ap (λ xs. xs ++ r ∷ []) c.reserve.ensures.items in
    let apart = other_number (g.W.World.kinds c.args.world.now) k c.in-Ok.id c.in-Ok.ensures.opened.was_closed was in (
      kind_stays _ c.in-Ok.id k (g.W.World.kinds c.args.world.now) _ c.in-Ok.ensures.opened was,
      (rw items (none_last k r c.args.self.now.readers.items (rw c.new-reader.ensures.id apart) none.0), none.1),
    )

pub returns-in-Ok-clause-readers : goal.returns-in-Ok-clause-readers
returns-in-Ok-clause-readers g c =
    let r : NamedReader = record { name = c.in_ok-own.own; reader = c.new-reader.result } in
    let items = c.push_reserved.ensures.items ∙ ap (λ xs. xs ++ r ∷ []) c.reserve.ensures.items in
    let readers : length c.as_slice.result.now ≡ length c.args.self.now.readers.items = ap length c.as_slice.ensures.value in
    let writers : length c.as_slice-2.result.now ≡ length c.args.self.now.writers.items = ap length c.as_slice-2.ensures.value in
    let few : length c.args.self.now.readers.items + length c.args.self.now.writers.items < 256 = (let below = c.if-as_slice-ge-MAX_STREAMS.false in omega arith) in (
      lt-ltb (length c.args.self.now.readers.items + length c.args.self.now.writers.items) 256 few,
      subst (λ (xs : List NamedReader). IsAdded c.args.name.now c.args.self.now.readers.items xs) (sym items) (added_last c.args.name.now c.args.self.now.readers.items r c.in_ok-own.ensures),
    )

pub returns-in-Ok-clause-kept : goal.returns-in-Ok-clause-kept
returns-in-Ok-clause-kept g c =
    let r : NamedReader = record { name = c.in_ok-own.own; reader = c.new-reader.result } in
    let items = c.push_reserved.ensures.items ∙ ap (λ xs. xs ++ r ∷ []) c.reserve.ensures.items in
    ap (readers_beside c.args.name.now) items ∙ beside_last c.args.name.now c.args.self.now.readers.items r c.in_ok-own.ensures

pub returns-in-Ok-clause-no_others : goal.returns-in-Ok-clause-no_others
returns-in-Ok-clause-no_others g c = λ k none was.
    let r : NamedReader = record { name = c.in_ok-own.own; reader = c.new-reader.result } in
    let items = c.push_reserved.ensures.items ∙ ap (λ xs. xs ++ r ∷ []) c.reserve.ensures.items in
    let rest = none_but_last k r c.args.self.now.readers.items (rw items at none.0) in (
      was_kind _ c.in-Ok.id k (g.W.World.kinds c.args.world.now) _ c.in-Ok.ensures.opened (rw c.new-reader.ensures.id at rest.0),
      (rest.1, none.1),
    )

pub returns-then-as_slice-ge-MAX_STREAMS-clause-readers : goal.returns-then-as_slice-ge-MAX_STREAMS-clause-readers
returns-then-as_slice-ge-MAX_STREAMS-clause-readers g c = none_opened c.args.name.now (has_room c.args.self.now) c.args.self.now.readers.items (may_not c.args.self.now (many_streams c.args.self.now (length c.as_slice.result.now) (length c.as_slice-2.result.now) (ap length c.as_slice.ensures.value) (ap length c.as_slice-2.ensures.value) c.if-as_slice-ge-MAX_STREAMS.true))

pub returns-then-as_slice-ge-MAX_STREAMS-clause-told : goal.returns-then-as_slice-ge-MAX_STREAMS-clause-told
returns-then-as_slice-ge-MAX_STREAMS-clause-told g c = λ tells. none_told c.args.name.now (has_room c.args.self.now) (g.W.World.state c.args.world.now) (readers_in c.args.self.now.readers.items (g.W.World.state c.args.world.now)) (may_not c.args.self.now (many_streams c.args.self.now (length c.as_slice.result.now) (length c.as_slice-2.result.now) (ap length c.as_slice.ensures.value) (ap length c.as_slice-2.ensures.value) c.if-as_slice-ge-MAX_STREAMS.true))

pub returns-then-as_slice-ge-MAX_STREAMS-clause-writers : goal.returns-then-as_slice-ge-MAX_STREAMS-clause-writers
returns-then-as_slice-ge-MAX_STREAMS-clause-writers g c = refl

pub returns-then-as_slice-ge-MAX_STREAMS-clause-kept : goal.returns-then-as_slice-ge-MAX_STREAMS-clause-kept
returns-then-as_slice-ge-MAX_STREAMS-clause-kept g c = refl

pub returns-then-as_slice-ge-MAX_STREAMS-clause-held : goal.returns-then-as_slice-ge-MAX_STREAMS-clause-held
returns-then-as_slice-ge-MAX_STREAMS-clause-held g c = c.requires.held

pub returns-then-as_slice-ge-MAX_STREAMS-clause-goes : goal.returns-then-as_slice-ge-MAX_STREAMS-clause-goes
returns-then-as_slice-ge-MAX_STREAMS-clause-goes g c = c.requires.goes

pub returns-then-as_slice-ge-MAX_STREAMS-clause-outside : goal.returns-then-as_slice-ge-MAX_STREAMS-clause-outside
returns-then-as_slice-ge-MAX_STREAMS-clause-outside g c = λ tells. refl

pub returns-then-as_slice-ge-MAX_STREAMS-clause-others : goal.returns-then-as_slice-ge-MAX_STREAMS-clause-others
returns-then-as_slice-ge-MAX_STREAMS-clause-others g c = λ k none was. (refl, none)

pub returns-then-as_slice-ge-MAX_STREAMS-clause-no_others : goal.returns-then-as_slice-ge-MAX_STREAMS-clause-no_others
returns-then-as_slice-ge-MAX_STREAMS-clause-no_others g c = λ k none was. (refl, none)

pub returns-then-as_slice-ge-MAX_STREAMS-clause-places : goal.returns-then-as_slice-ge-MAX_STREAMS-clause-places
returns-then-as_slice-ge-MAX_STREAMS-clause-places g c = λ tells k none was. (refl, refl)

pub returns-in-Ok-clause-writers : goal.returns-in-Ok-clause-writers
returns-in-Ok-clause-writers g c = refl

pub returns-in_err-own : goal.returns-in_err-own
returns-in_err-own g c =
    let room = may_by c.args.self.now (few_streams c.args.self.now (length c.as_slice.result.now) (length c.as_slice-2.result.now) (ap length c.as_slice.ensures.value) (ap length c.as_slice-2.ensures.value) c.if-as_slice-ge-MAX_STREAMS.false) in
    rw (is_stop c.from_residual.result c.from_residual.ensures.1) (record {
      gives = none_still g.W.World.did c.args.world.now;
      held = c.requires.held;
      writers = refl;
      count = refl;
      readers = (room, refl);
      kept = refl;
      place = tt;
      phase = tt;
      nothing = tt;
      goes = c.requires.goes;
      told = λ tells. (room, refl);
      outside = λ tells. refl;
      others = λ k none was. (refl, none);
      no_others = λ k none was. (refl, none);
      places = λ tells k none was. (refl, refl);
    })

pub returns-in_err-reserve : goal.returns-in_err-reserve
returns-in_err-reserve g c =
    let room = may_by c.args.self.now (few_streams c.args.self.now (length c.as_slice.result.now) (length c.as_slice-2.result.now) (ap length c.as_slice.ensures.value) (ap length c.as_slice-2.ensures.value) c.if-as_slice-ge-MAX_STREAMS.false) in
    rw (is_stop c.from_residual-in_err-reserve.result c.from_residual-in_err-reserve.ensures.1, c.reserve.ensures.items) (record {
      gives = none_still g.W.World.did c.args.world.now;
      held = c.requires.held;
      writers = refl;
      count = refl;
      readers = (room, refl);
      kept = refl;
      place = tt;
      phase = tt;
      nothing = tt;
      goes = c.requires.goes;
      told = λ tells. (room, refl);
      outside = λ tells. refl;
      others = λ k none was. (refl, none);
      no_others = λ k none was. (refl, none);
      places = λ tells k none was. (refl, refl);
    })

pub returns-in-Err-Failed : goal.returns-in-Err-Failed
returns-in-Err-Failed g c =
    let w = g.W.World in
    let before = w.state c.args.world.now in
    let room = may_by c.args.self.now (few_streams c.args.self.now (length c.as_slice.result.now) (length c.as_slice-2.result.now) (ap length c.as_slice.ensures.value) (ap length c.as_slice-2.ensures.value) c.if-as_slice-ge-MAX_STREAMS.false) in
    let call = c.in-Err-Failed.ensures in
    let shut = λ (tells : w.is_modelled). subst (λ (x : WorldFault). OpensToRead c.args.name.now before (Err x) (w.state c.open_read.new.self)) c.in-Err-Failed.field-0-is (call.told tells) in
    rw (c.reserve.ensures.items, call.not_opened) (record {
      gives = none_one g.W.World.did _ _ c.in-Err-Failed.ensures.did;
      held = c.requires.held;
      writers = refl;
      count = call.count ∙ ap (λ (x : WorldFault). next_count {T = ℕ} (Err x) (w.count c.args.world.now)) c.in-Err-Failed.field-0-is;
      readers = (room, refl);
      kept = refl;
      place = tt;
      phase = tt;
      nothing = tt;
      goes = λ tells. subst (λ (t : State). WritersGo c.args.self.now.writers.items t) (sym ((shut tells).0)) (c.requires.goes tells);
      told = λ tells. (room, shut_named c.args.name.now before (shut tells).1, ap (readers_in c.args.self.now.readers.items) (shut tells).0);
      outside = λ tells. ap (λ (t : State). t.outside) ((shut tells).0);
      others = λ k none was. (refl, none);
      no_others = λ k none was. (refl, none);
      places = λ tells k none was. (ap (λ (t : State). t.readers k) ((shut tells).0), ap (λ (t : State). t.writers k) ((shut tells).0));
    })

pub returns : goal.returns
returns g c =
    let w = g.W.World in
    let before = w.state c.args.world.now in
    let room = may_by c.args.self.now (few_streams c.args.self.now (length c.as_slice.result.now) (length c.as_slice-2.result.now) (ap length c.as_slice.ensures.value) (ap length c.as_slice-2.ensures.value) c.if-as_slice-ge-MAX_STREAMS.false) in
    let call = c.in-Err-NoMemory.ensures in
    let shut = λ (tells : w.is_modelled). subst (λ (x : WorldFault). OpensToRead c.args.name.now before (Err x) (w.state c.open_read.new.self)) c.in-Err-NoMemory.field-0-is (call.told tells) in
    rw (c.reserve.ensures.items, call.not_opened) (record {
      gives = none_one g.W.World.did _ _ c.in-Err-NoMemory.ensures.did;
      held = c.requires.held;
      writers = refl;
      count = call.count ∙ ap (λ (x : WorldFault). next_count {T = ℕ} (Err x) (w.count c.args.world.now)) c.in-Err-NoMemory.field-0-is;
      readers = (room, refl);
      kept = refl;
      place = tt;
      phase = tt;
      nothing = tt;
      goes = λ tells. subst (λ (t : State). WritersGo c.args.self.now.writers.items t) (sym (shut tells)) (c.requires.goes tells);
      told = λ tells. (room, ap (readers_in c.args.self.now.readers.items) (shut tells));
      outside = λ tells. ap (λ (t : State). t.outside) (shut tells);
      others = λ k none was. (refl, none);
      no_others = λ k none was. (refl, none);
      places = λ tells k none was. (ap (λ (t : State). t.readers k) (shut tells), ap (λ (t : State). t.writers k) (shut tells));
    })

pub returns-in-Ok-clause-gives : goal.returns-in-Ok-clause-gives
returns-in-Ok-clause-gives g c = none_one g.W.World.did _ _ c.in-Ok.ensures.did

pub returns-then-as_slice-ge-MAX_STREAMS-clause-gives : goal.returns-then-as_slice-ge-MAX_STREAMS-clause-gives
returns-then-as_slice-ge-MAX_STREAMS-clause-gives g c = none_still g.W.World.did c.args.world.now
