use Rattle.std.proofs.Common.{◌∙◌, false, sym, ap, subst, refl, [], ◌∷◌, if◌then◌else◌}
use Rattle.sem_primitives.specs.OutputMeaning.{is_writing, written, written_by}
use Rattle.world_core.specs.WorldState.{Named, Open}
use Rattle.host_streams.specs.Given.{opening_of}
use Rattle.host_streams.specs.Readers.{coming}
use Rattle.host_streams.specs.OpenFiles.{has_room, names_of, writer_place}
use Rattle.host_streams.specs.Outputs.{IsOf}
use Rattle.host_streams.specs.Puts.{EndsPut, IsOver}
use Rattle.host_streams.proofs.Held.{go_same}
use Rattle.host_streams.proofs.Outputs.{on_ok, put_missing, put_to, with_named, writer_goes, writer_missing, writer_named, writer_open}
use Rattle.host_streams.proofs.Begun.{begins_as, ends_open}
use Rattle.host_streams.proofs.GivenTexts.{given_as, named_go, open_given}
use Rattle.host_streams.proofs.streams.Streams.put_file.Goals as goal

pub put_open-requires : goal.put_open-requires
put_open-requires g c =
    let found = ap (writer_place c.args.name.now) (sym c.as_slice.ensures.value) ∙ sym c.in-Some.ensures in
    writer_open c.args.name.now c.args.self.now.writers.items c.in-Some.at found c.index.result.now c.index.ensures (g.W.World.kinds c.args.world.now) c.requires.held.1

pub returns-in-Some-clause-goes : goal.returns-in-Some-clause-goes
returns-in-Some-clause-goes g c = λ tells. go_same c.args.self.now.writers.items _ _ (c.put_open.ensures.writers tells) (c.requires.goes tells)

pub returns-in-Some-clause-opened : goal.returns-in-Some-clause-opened
returns-in-Some-clause-opened g c =
    let found = ap (writer_place c.args.name.now) (sym c.as_slice.ensures.value) ∙ sym c.in-Some.ensures in
    on_ok c.put_open.result _ (with_named c.args.name.now _ (writer_named c.args.name.now c.args.self.now.writers.items c.in-Some.at found))

pub returns-in-Some-clause-told : goal.returns-in-Some-clause-told
returns-in-Some-clause-told g c = λ tells shared is.
    let found = ap (writer_place c.args.name.now) (sym c.as_slice.ensures.value) ∙ sym c.in-Some.ensures in
    put_to c.args.name.now c.args.text.now c.args.append _ shared c.put_open.result _ _
    (ap (λ names. is_writing c.args.name.now names) is.writers ∙ writer_named c.args.name.now c.args.self.now.writers.items c.in-Some.at found)
    (writer_goes c.args.name.now c.args.self.now.writers.items c.in-Some.at found c.index.result.now c.index.ensures (g.W.World.state c.args.world.now) (c.requires.goes tells))
    (c.put_open.ensures.told tells shared (record { kept = is.kept; outside = is.outside }))

pub returns-in-None-clause-told : goal.returns-in-None-clause-told
returns-in-None-clause-told g c = λ tells shared is.
    let missing = ap (writer_place c.args.name.now) (sym c.as_slice.ensures.value) ∙ sym c.in-None.ensures in
    put_missing c.args.name.now c.args.text.now c.args.append shared c.put_first.result _ _
    (ap (λ names. is_writing c.args.name.now names) is.writers ∙ writer_missing c.args.name.now c.args.self.now.writers.items missing)
    (c.put_first.ensures.told tells shared is)

pub returns-in-Some-clause-ends : goal.returns-in-Some-clause-ends
returns-in-Some-clause-ends g c =
    let found = ap (writer_place c.args.name.now) (sym c.as_slice.ensures.value) ∙ sym c.in-Some.ensures in
    subst (λ b. EndsPut b (has_room c.args.self.now) c.args.text.now c.put_open.result) (sym (writer_named c.args.name.now c.args.self.now.writers.items c.in-Some.at found))
    (ends_open (has_room c.args.self.now) c.args.text.now c.put_open.result c.put_open.ensures.ends)

pub returns-in-Some-clause-begun : goal.returns-in-Some-clause-begun
returns-in-Some-clause-begun g c =
    let found = ap (writer_place c.args.name.now) (sym c.as_slice.ensures.value) ∙ sym c.in-Some.ensures in
    let state = g.W.World.state c.args.world.now in
    begins_as g.W.World.is_modelled (IsOver state) (IsOf c.args.self.now state) (written (state.writers c.index.result.now.id) c.args.text.now) (λ shared. written_by (is_writing c.args.name.now shared.inner.writers) c.args.name.now c.args.append c.args.text.now shared) c.put_open.result _ _
    (λ tells shared is. (
      record { kept = is.kept; outside = is.outside },
      ap (λ x. (written x c.args.text.now shared).added) (writer_goes c.args.name.now c.args.self.now.writers.items c.in-Some.at found c.index.result.now c.index.ensures state (c.requires.goes tells))
          ∙ sym (ap (λ b. (written_by b c.args.name.now c.args.append c.args.text.now shared).added) (ap (λ names. is_writing c.args.name.now names) is.writers ∙ writer_named c.args.name.now c.args.self.now.writers.items c.in-Some.at found)),
    ))
    c.put_open.ensures.begun

pub returns-in-None-clause-ends : goal.returns-in-None-clause-ends
returns-in-None-clause-ends g c =
    let missing = ap (writer_place c.args.name.now) (sym c.as_slice.ensures.value) ∙ sym c.in-None.ensures in
    subst (λ b. EndsPut b (has_room c.args.self.now) c.args.text.now c.put_first.result) (sym (writer_missing c.args.name.now c.args.self.now.writers.items missing)) c.put_first.ensures.ends

pub returns-in-None-clause-begun : goal.returns-in-None-clause-begun
returns-in-None-clause-begun g c =
    let missing = ap (writer_place c.args.name.now) (sym c.as_slice.ensures.value) ∙ sym c.in-None.ensures in
    let state = g.W.World.state c.args.world.now in
    begins_as g.W.World.is_modelled (IsOf c.args.self.now state) (IsOf c.args.self.now state) (written_by false c.args.name.now c.args.append c.args.text.now) (λ shared. written_by (is_writing c.args.name.now shared.inner.writers) c.args.name.now c.args.append c.args.text.now shared) c.put_first.result _ _
    (λ tells shared is. (
      is,
      sym (ap (λ b. (written_by b c.args.name.now c.args.append c.args.text.now shared).added) (ap (λ names. is_writing c.args.name.now names) is.writers ∙ writer_missing c.args.name.now c.args.self.now.writers.items missing)),
    ))
    c.put_first.ensures.begun

pub returns-in-Some-clause-given : goal.returns-in-Some-clause-given
returns-in-Some-clause-given g c =
    let found = ap (writer_place c.args.name.now) (sym c.as_slice.ensures.value) ∙ sym c.in-Some.ensures in
    let ws = c.args.self.now.writers.items in
    let there = writer_named c.args.name.now ws c.in-Some.at found in
    let state = g.W.World.state c.args.world.now in
    given_as g.W.World.is_modelled g.W.World.did _ _ ws ws [] (opening_of c.args.name.now c.args.append (names_of ws)) (Named c.args.name.now) c.args.text.now state _ c.put_open.result (IsOf c.args.self.now state) _ _
    (sym (ap (λ b. if b then [] else (Open c.args.name.now c.args.append ∷ [])) there))
    (λ tells shared is. refl)
    (open_given g.W.World.is_modelled g.W.World.did _ _ ws c.index.result.now.id (Named c.args.name.now) c.args.text.now state _ c.put_open.result (IsOf c.args.self.now state)
    (λ shared. written_by (is_writing c.args.name.now shared.inner.writers) c.args.name.now c.args.append c.args.text.now shared) c.put_open.ensures.given c.put_open.ensures.ends
    (λ targets are. writer_goes c.args.name.now ws c.in-Some.at found c.index.result.now c.index.ensures (record coming { writers = targets }) (named_go ws targets are.named))
    (λ tells. writer_goes c.args.name.now ws c.in-Some.at found c.index.result.now c.index.ensures state (c.requires.goes tells))
    (λ tells shared is. (record { kept = is.kept; outside = is.outside }, sym (ap (λ b. (written_by b c.args.name.now c.args.append c.args.text.now shared).added) (ap (λ names. is_writing c.args.name.now names) is.writers ∙ there)))))

pub returns-in-None-clause-given : goal.returns-in-None-clause-given
returns-in-None-clause-given g c =
    let missing = ap (writer_place c.args.name.now) (sym c.as_slice.ensures.value) ∙ sym c.in-None.ensures in
    let ws = c.args.self.now.writers.items in
    let state = g.W.World.state c.args.world.now in
    given_as g.W.World.is_modelled g.W.World.did _ _ ws _ (Open c.args.name.now c.args.append ∷ []) (opening_of c.args.name.now c.args.append (names_of ws)) (Named c.args.name.now) c.args.text.now state _ c.put_first.result (IsOf c.args.self.now state) _ _
    (sym (ap (λ b. if b then [] else (Open c.args.name.now c.args.append ∷ [])) (writer_missing c.args.name.now ws missing)))
    (λ tells shared is. sym (ap (λ b. (written_by b c.args.name.now c.args.append c.args.text.now shared).added) (ap (λ names. is_writing c.args.name.now names) is.writers ∙ writer_missing c.args.name.now ws missing)))
    c.put_first.ensures.given
