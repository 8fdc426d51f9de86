use Rattle.std.proofs.Common.{inl, ◌≡◌, ◌∙◌, ◌++◌, ◌∷◌, ◌+◌, ◌<◌, [], ℕ, List, Bool, Result, Err, take, Ok, true, false, length, refl, sym, subst, ap, arith}
use Rattle.std.proofs.lemmas.Result.{err_from_is_err_and}
use Rattle.sem_primitives.specs.Finds.{seen}
use Rattle.sem_primitives.specs.OutputMeaning.{opened_if, written_by}
use Rattle.world_core.specs.WorldState.{Named, Open}
use Rattle.host_streams.specs.declared.streams.NamedWriter.{NamedWriter}
use Rattle.host_streams.specs.OpenFiles.{has_room, names_of, writer_place}
use Rattle.host_streams.specs.Outputs.{IsOf}
use Rattle.awk_values.specs.declared.fault.Fault.TheVariants.{TooManyStreams}
use Rattle.awk_values.specs.declared.fault.Stop.TheVariants.{Fault as IsFault, NoMemory}
use Rattle.host_streams.specs.Puts.{EndsPut, IsOver}
use Rattle.host_streams.proofs.Begun.{begins_first, few_streams, many_streams, may_by, may_not, no_room, nothing_ends, put_refused, put_room, room_is}
use Rattle.host_streams.proofs.Outputs.{go_last, go_spared, none_but_last, was_kind, held_written, kind_stays, names_last, none_more, other_number, with_missing, writer_missing}
use Rattle.std.proofs.lemmas.List.{take_all}
use Rattle.host_streams.proofs.Refused.{is_stop}
use Rattle.std.proofs.Math.Seq.{take-append_seam}
use Rattle.awk_values.specs.declared.fault.Fault.{Fault as AnyFault}
use Rattle.awk_values.specs.declared.fault.Stop.{Stop}
use Rattle.world_core.specs.WorldState.{State}
use Rattle.sem_primitives.specs.SharedState.{HostResult}
use Rattle.host_streams.specs.Puts.{PutCounts, PutsBy}
use Rattle.host_streams.proofs.GivenTexts.{first_failed, first_given, none_given}
use Rattle.host_streams.proofs.streams.Streams.put_first.Goals as goal

-- a refusal is the same whatever would be answered else
counts_as : (stop : Stop) (n m : ℕ) → PutCounts {A = ℕ} (Err stop) n m → PutCounts {A = Unit {0}} (Err stop) n m
counts_as (IsFault fault) n m h = h
counts_as NoMemory n m h = h

ends_as : (text : List ℕ) (stop : Stop) → EndsPut {A = ℕ} false true text (Err stop) → EndsPut {A = Unit {0}} false true text (Err stop)
ends_as text (IsFault fault) h = h
ends_as text NoMemory h = h

puts_as : (does : HostResult (Result (Unit {0}) AnyFault)) (stop : Stop) (old new : State) → PutsBy {A = ℕ} does (Err stop) old new → PutsBy {A = Unit {0}} does (Err stop) old new
puts_as does (IsFault fault) old new h = record { answer_is = h.answer_is; outside = h.outside }
puts_as does NoMemory old new h = h

pub returns-in_err-id-clause-goes : goal.returns-in_err-id-clause-goes
returns-in_err-id-clause-goes g c = λ tells.
    rw c.reserve.ensures.items (go_spared (g.W.World.kinds c.args.world.now) c.args.self.now.writers.items _ _ c.requires.held.1 (c.put_new.ensures.spares tells) (c.requires.goes tells))

pub returns-clause-held : goal.returns-clause-held
returns-clause-held g c =
    let w : NamedWriter = record { name = c.in_ok-own.own; id = c.in_ok-id.id } in
    let items = c.push_reserved.ensures.items ∙ ap (λ xs. xs ++ w ∷ []) c.reserve.ensures.items in
    rw items (held_written (g.W.World.kinds c.args.world.now) (g.W.World.kinds c.put_new.new.world) w c.args.self.now.writers.items _
    (g.met.W.World.input c.args.world.now) (g.met.W.World.output c.args.world.now) c.in_ok-id.ensures.opened (ap (λ n. writer_place n c.args.self.now.writers.items) c.in_ok-own.ensures ∙ c.requires.missing) c.requires.held)

pub returns-clause-goes : goal.returns-clause-goes
returns-clause-goes g c = λ tells.
    let w : NamedWriter = record { name = c.in_ok-own.own; id = c.in_ok-id.id } in
    let items = c.push_reserved.ensures.items ∙ ap (λ xs. xs ++ w ∷ []) c.reserve.ensures.items in
    rw items (go_last w c.args.self.now.writers.items (g.W.World.state c.put_new.new.world)
    (go_spared (g.W.World.kinds c.args.world.now) c.args.self.now.writers.items _ _ c.requires.held.1 (c.put_new.ensures.spares tells) (c.requires.goes tells))
    (c.in_ok-id.ensures.goes tells ∙ ap Named (sym c.in_ok-own.ensures)))

pub returns-clause-opened : goal.returns-clause-opened
returns-clause-opened g c =
    let w : NamedWriter = record { name = c.in_ok-own.own; id = c.in_ok-id.id } in
    let items = c.push_reserved.ensures.items ∙ ap (λ xs. xs ++ w ∷ []) c.reserve.ensures.items in
    ap names_of items ∙ names_last c.args.self.now.writers.items w ∙ ap (λ n. names_of c.args.self.now.writers.items ++ (n ∷ [])) c.in_ok-own.ensures
    ∙ with_missing c.args.name.now (names_of c.args.self.now.writers.items) (writer_missing c.args.name.now c.args.self.now.writers.items c.requires.missing)

pub returns-clause-others : goal.returns-clause-others
returns-clause-others g c = λ k none was.
    let w : NamedWriter = record { name = c.in_ok-own.own; id = c.in_ok-id.id } in
    let items = c.push_reserved.ensures.items ∙ ap (λ xs. xs ++ w ∷ []) c.reserve.ensures.items in (
      kind_stays _ c.in_ok-id.id k (g.W.World.kinds c.args.world.now) _ c.in_ok-id.ensures.opened was,
      (none.0, rw items (none_more k w c.args.self.now.writers.items (other_number (g.W.World.kinds c.args.world.now) k c.in_ok-id.id c.in_ok-id.ensures.opened.was_closed was) none.1)),
    )

pub returns-clause-no_others : goal.returns-clause-no_others
returns-clause-no_others g c = λ k none was.
    let w : NamedWriter = record { name = c.in_ok-own.own; id = c.in_ok-id.id } in
    let items = c.push_reserved.ensures.items ∙ ap (λ xs. xs ++ w ∷ []) c.reserve.ensures.items in
    let rest = none_but_last k w c.args.self.now.writers.items (rw items at none.1) in (
      was_kind _ c.in_ok-id.id k (g.W.World.kinds c.args.world.now) _ c.in_ok-id.ensures.opened rest.0,
      (none.0, rest.1),
    )

pub returns-in_err-id-clause-begun : goal.returns-in_err-id-clause-begun
returns-in_err-id-clause-begun g c =
    let p = err_from_is_err_and c.from_residual-in_err-id.result c.from_residual-in_err-id.ensures.1 in
    let readers : length c.as_slice.result.now ≡ length c.args.self.now.readers.items = ap length c.as_slice.ensures.value in
    let writers : length c.as_slice-2.result.now ≡ length c.args.self.now.writers.items = ap length c.as_slice-2.ensures.value in
    let few : length c.args.self.now.readers.items + length c.args.self.now.writers.items < 256 = (let below = c.if-as_slice-ge-MAX_STREAMS.false in omega arith) in
    let state = g.W.World.state c.args.world.now in
    rw (p.1, p.2) (begins_first ℕ (Unit {0}) g.W.World.is_modelled (IsOver state) (IsOf c.args.self.now state) (λ shared. opened_if true (seen shared.inner shared.outside (Named c.args.name.now)).opens c.args.name.now c.args.append c.args.text.now shared) (written_by false c.args.name.now c.args.append c.args.text.now) c.in_err-id.field-0.0 _ _
    (λ tells shared is. (record { kept = is.kept; outside = is.outside }, sym (ap (λ b. (opened_if b (seen shared.inner shared.outside (Named c.args.name.now)).opens c.args.name.now c.args.append c.args.text.now shared).added) (room_is c.args.self.now state shared is few)))) c.in_err-id.ensures.begun)

pub returns-then-as_slice-ge-MAX_STREAMS-clause-told : goal.returns-then-as_slice-ge-MAX_STREAMS-clause-told
returns-then-as_slice-ge-MAX_STREAMS-clause-told g c = λ tells shared is.
    put_refused c.args.name.now c.args.text.now c.args.append c.args.self.now (g.W.World.state c.args.world.now) shared is
    (many_streams c.args.self.now (length c.as_slice.result.now) (length c.as_slice-2.result.now) (ap length c.as_slice.ensures.value) (ap length c.as_slice-2.ensures.value) c.if-as_slice-ge-MAX_STREAMS.true)

pub returns-then-as_slice-ge-MAX_STREAMS-clause-ends : goal.returns-then-as_slice-ge-MAX_STREAMS-clause-ends
returns-then-as_slice-ge-MAX_STREAMS-clause-ends g c =
    subst (λ (b : Bool). EndsPut {A = Unit {0}} false b c.args.text.now (Err (IsFault TooManyStreams)))
    (sym (may_not c.args.self.now (many_streams c.args.self.now (length c.as_slice.result.now) (length c.as_slice-2.result.now) (ap length c.as_slice.ensures.value) (ap length c.as_slice-2.ensures.value) c.if-as_slice-ge-MAX_STREAMS.true))) tt

pub returns-clause-told : goal.returns-clause-told
returns-clause-told g c = λ tells shared is.
    put_room c.args.name.now c.args.text.now c.args.append c.args.self.now (g.W.World.state c.args.world.now) (g.W.World.state c.put_new.new.world) shared (Ok c.in_ok-id.id) is
    (few_streams c.args.self.now (length c.as_slice.result.now) (length c.as_slice-2.result.now) (ap length c.as_slice.ensures.value) (ap length c.as_slice-2.ensures.value) c.if-as_slice-ge-MAX_STREAMS.false)
    (c.in_ok-id.ensures.told tells shared (record { kept = is.kept; outside = is.outside }))

pub returns-clause-ends : goal.returns-clause-ends
returns-clause-ends g c =
    subst (λ (b : Bool). EndsPut false b c.args.text.now (Ok tt)) (sym (may_by c.args.self.now (few_streams c.args.self.now (length c.as_slice.result.now) (length c.as_slice-2.result.now) (ap length c.as_slice.ensures.value) (ap length c.as_slice-2.ensures.value) c.if-as_slice-ge-MAX_STREAMS.false))) tt

pub returns-in_err-own : goal.returns-in_err-own
returns-in_err-own g c = rw (is_stop c.from_residual.result c.from_residual.ensures.1) (record {
  held = c.requires.held;
  goes = c.requires.goes;
  readers = refl;
  stay = take_all c.args.self.now.writers.len c.args.self.now.writers.items (omega (arith, c.args.self.now.writers.ok.0));
  opened = tt;
  refused = refl;
  count = refl;
  others = λ k none was. (refl, none);
  no_others = λ k none was. (refl, none);
  spares = λ tells. record { readers = λ k was. refl; writers = λ k was. refl };
  ends = nothing_ends (Unit {0}) (has_room c.args.self.now) c.args.text.now;
  begun = (0, λ tells shared is. refl);
  given = none_given g.W.World.is_modelled g.W.World.did c.args.world.now c.args.self.now.writers.items _ (g.W.World.state c.args.world.now) (Err NoMemory) _ _ (inl refl) (λ tells shared is. (0, refl));
  told = λ tells shared is. (0, refl);
})

pub returns-in_err-reserve : goal.returns-in_err-reserve
returns-in_err-reserve g c = rw (is_stop c.from_residual-in_err-reserve.result c.from_residual-in_err-reserve.ensures.1, c.reserve.ensures.items) (record {
  held = c.requires.held;
  goes = c.requires.goes;
  readers = refl;
  stay = take_all c.args.self.now.writers.len c.args.self.now.writers.items (omega (arith, c.args.self.now.writers.ok.0));
  opened = tt;
  refused = refl;
  count = refl;
  others = λ k none was. (refl, none);
  no_others = λ k none was. (refl, none);
  spares = λ tells. record { readers = λ k was. refl; writers = λ k was. refl };
  ends = nothing_ends (Unit {0}) (has_room c.args.self.now) c.args.text.now;
  begun = (0, λ tells shared is. refl);
  given = none_given g.W.World.is_modelled g.W.World.did c.args.world.now c.args.self.now.writers.items _ (g.W.World.state c.args.world.now) (Err NoMemory) _ _ (inl refl) (λ tells shared is. (0, refl));
  told = λ tells shared is. (0, refl);
})

pub returns-in_err-id-clause-held : goal.returns-in_err-id-clause-held
returns-in_err-id-clause-held g c = rw (c.reserve.ensures.items, c.in_err-id.ensures.closed) c.requires.held

pub returns-in_err-id-clause-stay : goal.returns-in_err-id-clause-stay
returns-in_err-id-clause-stay g c = rw c.reserve.ensures.items (take_all c.args.self.now.writers.len c.args.self.now.writers.items (omega (arith, c.args.self.now.writers.ok.0)))

pub returns-in_err-id-clause-others : goal.returns-in_err-id-clause-others
returns-in_err-id-clause-others g c = rw (c.reserve.ensures.items, c.in_err-id.ensures.closed) (λ k none was. (refl, none))

pub returns-in_err-id-clause-no_others : goal.returns-in_err-id-clause-no_others
returns-in_err-id-clause-no_others g c = rw (c.reserve.ensures.items, c.in_err-id.ensures.closed) (λ k none was. (refl, none))

pub returns-in_err-id-clause-count : goal.returns-in_err-id-clause-count
returns-in_err-id-clause-count g c =
    let p = err_from_is_err_and c.from_residual-in_err-id.result c.from_residual-in_err-id.ensures.1 in
    rw (p.1, p.2) (counts_as c.in_err-id.field-0.0 _ _ c.in_err-id.ensures.count)

pub returns-in_err-id-clause-ends : goal.returns-in_err-id-clause-ends
returns-in_err-id-clause-ends g c =
    let p = err_from_is_err_and c.from_residual-in_err-id.result c.from_residual-in_err-id.ensures.1 in
    rw (p.1, p.2) (subst (λ (b : Bool). EndsPut {A = Unit {0}} false b c.args.text.now (Err c.in_err-id.field-0.0)) (sym (may_by c.args.self.now (few_streams c.args.self.now (length c.as_slice.result.now) (length c.as_slice-2.result.now) (ap length c.as_slice.ensures.value) (ap length c.as_slice-2.ensures.value) c.if-as_slice-ge-MAX_STREAMS.false))) (ends_as c.args.text.now c.in_err-id.field-0.0 c.in_err-id.ensures.ends))

pub returns-in_err-id-clause-told : goal.returns-in_err-id-clause-told
returns-in_err-id-clause-told g c = λ tells shared is.
    let p = err_from_is_err_and c.from_residual-in_err-id.result c.from_residual-in_err-id.ensures.1 in
    rw (p.1, p.2) (put_room {A = Unit {0}} c.args.name.now c.args.text.now c.args.append c.args.self.now (g.W.World.state c.args.world.now) (g.W.World.state c.put_new.new.world) shared (Err c.in_err-id.field-0.0) is
    (few_streams c.args.self.now (length c.as_slice.result.now) (length c.as_slice-2.result.now) (ap length c.as_slice.ensures.value) (ap length c.as_slice-2.ensures.value) c.if-as_slice-ge-MAX_STREAMS.false)
    (puts_as _ c.in_err-id.field-0.0 _ _ (c.in_err-id.ensures.told tells shared (record { kept = is.kept; outside = is.outside }))))

pub returns-in_err-id-clause-spares : goal.returns-in_err-id-clause-spares
returns-in_err-id-clause-spares g c = c.put_new.ensures.spares

pub returns-in_err-id-clause-readers : goal.returns-in_err-id-clause-readers
returns-in_err-id-clause-readers g c = refl

pub returns-clause-readers : goal.returns-clause-readers
returns-clause-readers g c = refl

pub returns-clause-stay : goal.returns-clause-stay
returns-clause-stay g c =
    let w : NamedWriter = record { name = c.in_ok-own.own; id = c.in_ok-id.id } in
    let were = c.args.self.now.writers in
    ap (take were.len) (c.push_reserved.ensures.items ∙ ap (λ xs. xs ++ w ∷ []) c.reserve.ensures.items) ∙ ap (λ n. take n (were.items ++ w ∷ [])) were.ok.0 ∙ take-append_seam were.items (w ∷ [])

pub returns-clause-refused : goal.returns-clause-refused
returns-clause-refused g c = tt

pub returns-clause-count : goal.returns-clause-count
returns-clause-count g c = c.in_ok-id.ensures.count

pub returns-clause-spares : goal.returns-clause-spares
returns-clause-spares g c = c.put_new.ensures.spares

pub returns-clause-begun : goal.returns-clause-begun
returns-clause-begun g c = tt

pub returns-then-as_slice-ge-MAX_STREAMS-clause-held : goal.returns-then-as_slice-ge-MAX_STREAMS-clause-held
returns-then-as_slice-ge-MAX_STREAMS-clause-held g c = c.requires.held

pub returns-then-as_slice-ge-MAX_STREAMS-clause-goes : goal.returns-then-as_slice-ge-MAX_STREAMS-clause-goes
returns-then-as_slice-ge-MAX_STREAMS-clause-goes g c = c.requires.goes

pub returns-then-as_slice-ge-MAX_STREAMS-clause-readers : goal.returns-then-as_slice-ge-MAX_STREAMS-clause-readers
returns-then-as_slice-ge-MAX_STREAMS-clause-readers g c = refl

pub returns-then-as_slice-ge-MAX_STREAMS-clause-stay : goal.returns-then-as_slice-ge-MAX_STREAMS-clause-stay
returns-then-as_slice-ge-MAX_STREAMS-clause-stay g c = take_all c.args.self.now.writers.len c.args.self.now.writers.items (omega (arith, c.args.self.now.writers.ok.0))

pub returns-then-as_slice-ge-MAX_STREAMS-clause-opened : goal.returns-then-as_slice-ge-MAX_STREAMS-clause-opened
returns-then-as_slice-ge-MAX_STREAMS-clause-opened g c = tt

pub returns-then-as_slice-ge-MAX_STREAMS-clause-refused : goal.returns-then-as_slice-ge-MAX_STREAMS-clause-refused
returns-then-as_slice-ge-MAX_STREAMS-clause-refused g c = refl

pub returns-then-as_slice-ge-MAX_STREAMS-clause-count : goal.returns-then-as_slice-ge-MAX_STREAMS-clause-count
returns-then-as_slice-ge-MAX_STREAMS-clause-count g c = (refl, refl)

pub returns-then-as_slice-ge-MAX_STREAMS-clause-others : goal.returns-then-as_slice-ge-MAX_STREAMS-clause-others
returns-then-as_slice-ge-MAX_STREAMS-clause-others g c = λ k none was. (refl, none)

pub returns-then-as_slice-ge-MAX_STREAMS-clause-no_others : goal.returns-then-as_slice-ge-MAX_STREAMS-clause-no_others
returns-then-as_slice-ge-MAX_STREAMS-clause-no_others g c = λ k none was. (refl, none)

pub returns-then-as_slice-ge-MAX_STREAMS-clause-spares : goal.returns-then-as_slice-ge-MAX_STREAMS-clause-spares
returns-then-as_slice-ge-MAX_STREAMS-clause-spares g c = λ tells. record { readers = λ k was. refl; writers = λ k was. refl }

pub returns-then-as_slice-ge-MAX_STREAMS-clause-begun : goal.returns-then-as_slice-ge-MAX_STREAMS-clause-begun
returns-then-as_slice-ge-MAX_STREAMS-clause-begun g c = tt

pub returns-then-as_slice-ge-MAX_STREAMS-clause-given : goal.returns-then-as_slice-ge-MAX_STREAMS-clause-given
returns-then-as_slice-ge-MAX_STREAMS-clause-given g c =
    let many = many_streams c.args.self.now (length c.as_slice.result.now) (length c.as_slice-2.result.now) (ap length c.as_slice.ensures.value) (ap length c.as_slice-2.ensures.value) c.if-as_slice-ge-MAX_STREAMS.true in
    none_given g.W.World.is_modelled g.W.World.did c.args.world.now c.args.self.now.writers.items _ (g.W.World.state c.args.world.now) (Err (IsFault TooManyStreams)) _ _ refl
    (λ tells shared is. ap (λ (b : Bool). (opened_if b (seen shared.inner shared.outside (Named c.args.name.now)).opens c.args.name.now c.args.append c.args.text.now shared).added) (sym (no_room c.args.self.now (g.W.World.state c.args.world.now) shared is many)))

pub returns-in_err-id-clause-given : goal.returns-in_err-id-clause-given
returns-in_err-id-clause-given g c =
    let p = err_from_is_err_and c.from_residual-in_err-id.result c.from_residual-in_err-id.ensures.1 in
    let few = few_streams c.args.self.now (length c.as_slice.result.now) (length c.as_slice-2.result.now) (ap length c.as_slice.ensures.value) (ap length c.as_slice-2.ensures.value) c.if-as_slice-ge-MAX_STREAMS.false in
    let state = g.W.World.state c.args.world.now in
    rw (p.1, p.2, c.reserve.ensures.items) (first_failed g.W.World.is_modelled g.W.World.did _ _ (g.W.World.kinds c.args.world.now) c.args.self.now.writers.items c.args.name.now (Open c.args.name.now c.args.append ∷ []) c.args.text.now c.in_err-id.field-0.0 state _
    (IsOf c.args.self.now state) _ (written_by false c.args.name.now c.args.append c.args.text.now) (g.met.W.World.output c.args.world.now) c.requires.held.1
    (λ tells shared is. (record { kept = is.kept; outside = is.outside }, sym (ap (λ b. (opened_if b (seen shared.inner shared.outside (Named c.args.name.now)).opens c.args.name.now c.args.append c.args.text.now shared).added) (room_is c.args.self.now state shared is few))))
    c.in_err-id.ensures.given)

pub returns-clause-given : goal.returns-clause-given
returns-clause-given g c =
    let w : NamedWriter = record { name = c.in_ok-own.own; id = c.in_ok-id.id } in
    let items = c.push_reserved.ensures.items ∙ ap (λ xs. xs ++ w ∷ []) c.reserve.ensures.items in
    let few = few_streams c.args.self.now (length c.as_slice.result.now) (length c.as_slice-2.result.now) (ap length c.as_slice.ensures.value) (ap length c.as_slice-2.ensures.value) c.if-as_slice-ge-MAX_STREAMS.false in
    let state = g.W.World.state c.args.world.now in
    rw items (first_given g.W.World.is_modelled g.W.World.did _ _ (g.W.World.kinds c.args.world.now) c.args.self.now.writers.items w c.args.name.now (Open c.args.name.now c.args.append ∷ []) c.args.text.now c.in_ok-id.id state _
    (IsOf c.args.self.now state) _ (written_by false c.args.name.now c.args.append c.args.text.now) (g.met.W.World.output c.args.world.now) c.requires.held.1 c.in_ok-own.ensures refl
    (λ tells shared is. (record { kept = is.kept; outside = is.outside }, sym (ap (λ b. (opened_if b (seen shared.inner shared.outside (Named c.args.name.now)).opens c.args.name.now c.args.append c.args.text.now shared).added) (room_is c.args.self.now state shared is few))))
    c.in_ok-id.ensures.given)
