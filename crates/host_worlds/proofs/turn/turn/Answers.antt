use Rattle.std.proofs.Common.{◌++◌, refl, ap, subst, sym, ◌∙◌, true, false}
use Rattle.sem_primitives.specs.MainInput.{main_input}
use Rattle.host_streams.specs.declared.main_input.MainNext.TheVariants as main
use Rattle.host_worlds.specs.Givens.{TurnGives}
use Rattle.host_worlds.specs.States.{Finding, Over, with_input, with_tables}
use Rattle.host_worlds.proofs.Turns.{moved_main, moved_names, assign_made, assign_pends, assign_stops, goes_on, next_found, next_told, renamed, renamed_stop, stop_found, stopped_gives, told_live, told_rests}
use Rattle.host_worlds.proofs.turn.turn.Goals as goal

pub returns-in-Ok-Record-clause-told : goal.returns-in-Ok-Record-clause-told
returns-in-Ok-Record-clause-told g c = λ tells inner offered. next_told (main.Record c.in-Ok-Record.text) _ _ _ _ c.in-Ok-Record.field-0-is (c.in-Ok-Record.ensures.told tells inner offered)

pub returns-in-Ok-End-clause-told : goal.returns-in-Ok-End-clause-told
returns-in-Ok-End-clause-told g c = λ tells inner offered. next_told main.End _ _ _ _ c.in-Ok-End.field-0-is (c.in-Ok-End.ensures.told tells inner offered)

pub returns-in-Ok-Opened-clause-told : goal.returns-in-Ok-Opened-clause-told
returns-in-Ok-Opened-clause-told g c = λ tells inner offered.
    next_told (main.Opened c.in-Ok-Opened.name) _ _ _ _ c.in-Ok-Opened.field-0-is (c.in-Ok-Opened.ensures.told tells inner offered)
    ∙ ap (main_input (g.W.World.state c.args.world.now).outside) (sym (c.begin.ensures (with_input c.next.new.input (Over (g.W.World.state c.next.new.world)) inner)))

pub returns-in-Ok-true-clause-told : goal.returns-in-Ok-true-clause-told
returns-in-Ok-true-clause-told g c = λ tells inner offered.
    let now = g.W.World.state c.next.new.world in
    assign_pends _ _ c.in-Ok-Assign.name c.in-Ok-Assign.text (with_tables c.args.texts.now c.next.new.input (Over now) inner) (with_tables c.assign.new.texts (record c.next.new.input { names = c.assign.new.names }) (Over now) inner)
    (next_told (main.Assign c.in-Ok-Assign.name c.in-Ok-Assign.text) _ _ _ _ c.in-Ok-Assign.field-0-is (c.in-Ok-Assign.ensures.told tells inner offered))
    (renamed c.as_slice.result.now c.as_slice-in-Ok-Assign.result.now c.in-Ok-Assign.name c.in-Ok-Assign.text c.in-Ok-true.field-0 true _ _ c.as_slice.ensures.value c.as_slice-in-Ok-Assign.ensures.value c.in-Ok-true.field-0-test (c.in-Ok-true.ensures.ok (with_input c.next.new.input (Over now) inner)))

pub returns-in-Ok-false-clause-told : goal.returns-in-Ok-false-clause-told
returns-in-Ok-false-clause-told g c = λ tells inner offered.
    let now = g.W.World.state c.next.new.world in
    let rests = told_rests c.in-Ok-Assign.name c.in-Ok-Assign.text c.next.new.input.main c.in-Ok-Assign.field-0-is c.in-Ok-Assign.ensures.rests in
    assign_made _ _ c.in-Ok-Assign.name c.in-Ok-Assign.text (with_tables c.args.texts.now c.next.new.input (Over now) inner) (with_tables c.assign.new.texts (record c.next.new.input { names = c.assign.new.names }) (Over now) inner)
    (next_told (main.Assign c.in-Ok-Assign.name c.in-Ok-Assign.text) _ _ _ _ c.in-Ok-Assign.field-0-is (c.in-Ok-Assign.ensures.told tells inner offered))
    (renamed c.as_slice.result.now c.as_slice-in-Ok-Assign.result.now c.in-Ok-Assign.name c.in-Ok-Assign.text c.in-Ok-false.field-0 false _ _ c.as_slice.ensures.value c.as_slice-in-Ok-Assign.ensures.value c.in-Ok-false.field-0-test (c.in-Ok-false.ensures.ok (with_input c.next.new.input (Over now) inner)))
    ∙ goes_on (g.W.World.state c.args.world.now).outside c.next.new.input.main (Over now) (with_tables c.assign.new.texts (record c.next.new.input { names = c.assign.new.names }) (Over now) inner) refl
    (told_live c.in-Ok-Assign.name c.in-Ok-Assign.text c.next.new.input.main c.in-Ok-Assign.field-0-is c.in-Ok-Assign.ensures.live) rests.0 rests.1

pub returns-in-Ok-Assign-clause-told : goal.returns-in-Ok-Assign-clause-told
returns-in-Ok-Assign-clause-told g c = λ tells inner offered.
    let now = g.W.World.state c.next.new.world in
    assign_stops _ _ c.in-Ok-Assign.name c.in-Ok-Assign.text (with_tables c.args.texts.now c.next.new.input (Over now) inner) (with_tables c.assign.new.texts (record c.next.new.input { names = c.assign.new.names }) (Over now) inner)
    (next_told (main.Assign c.in-Ok-Assign.name c.in-Ok-Assign.text) _ _ _ _ c.in-Ok-Assign.field-0-is (c.in-Ok-Assign.ensures.told tells inner offered)) c.in-Err-assign.stop
    (renamed_stop c.as_slice.result.now c.as_slice-in-Ok-Assign.result.now c.in-Ok-Assign.name c.in-Ok-Assign.text _ c.in-Err-assign.stop c.as_slice.ensures.value c.as_slice-in-Ok-Assign.ensures.value (c.in-Err-assign.ensures.err (with_input c.next.new.input (Over now) inner)))

pub returns-clause-told : goal.returns-clause-told
returns-clause-told g c = λ tells inner offered.
    let old = g.W.World.state c.args.world.now in
    let new = with_tables c.args.texts.now c.next.new.input (Over (g.W.World.state c.next.new.world)) inner in
    subst (λ r. TurnGives (main_input old.outside (with_tables c.args.texts.now c.args.input.now (Over old) inner)) r old.outside new) (sym c.stopped.ensures)
    (stopped_gives c.in-Err.stop _ old.outside (with_tables c.args.texts.now c.args.input.now (Over old) inner) new (c.in-Err.ensures.told tells inner offered))

pub returns-in-Ok-Record-clause-finds : goal.returns-in-Ok-Record-clause-finds
returns-in-Ok-Record-clause-finds g c =
    let finds = c.in-Ok-Record.ensures.finds in
    (finds.0, λ later outside inner offered. next_found (main.Record c.in-Ok-Record.text) _ outside _ c.in-Ok-Record.field-0-is (finds.1 later outside inner offered))

pub returns-in-Ok-End-clause-finds : goal.returns-in-Ok-End-clause-finds
returns-in-Ok-End-clause-finds g c =
    let finds = c.in-Ok-End.ensures.finds in
    (finds.0, λ later outside inner offered. next_found main.End _ outside _ c.in-Ok-End.field-0-is (finds.1 later outside inner offered))

pub returns-in-Ok-Opened-clause-finds : goal.returns-in-Ok-Opened-clause-finds
returns-in-Ok-Opened-clause-finds g c =
    let finds = c.in-Ok-Opened.ensures.finds in (
      finds.0,
      λ later outside inner offered. next_found (main.Opened c.in-Ok-Opened.name) _ outside _ c.in-Ok-Opened.field-0-is (finds.1 later outside inner offered)
          ∙ ap (main_input outside) (sym (c.begin.ensures (with_input c.next.new.input (Finding later) inner))),
    )

pub returns-in-Ok-true-clause-finds : goal.returns-in-Ok-true-clause-finds
returns-in-Ok-true-clause-finds g c =
    let finds = c.in-Ok-Assign.ensures.finds in (
      finds.0,
      λ later outside inner offered.
          assign_pends _ _ c.in-Ok-Assign.name c.in-Ok-Assign.text (with_tables c.args.texts.now c.next.new.input (Finding later) inner) (with_tables c.assign.new.texts (record c.next.new.input { names = c.assign.new.names }) (Finding later) inner)
          (next_found (main.Assign c.in-Ok-Assign.name c.in-Ok-Assign.text) _ outside _ c.in-Ok-Assign.field-0-is (finds.1 later outside inner offered))
          (renamed c.as_slice.result.now c.as_slice-in-Ok-Assign.result.now c.in-Ok-Assign.name c.in-Ok-Assign.text c.in-Ok-true.field-0 true _ _ c.as_slice.ensures.value c.as_slice-in-Ok-Assign.ensures.value c.in-Ok-true.field-0-test (c.in-Ok-true.ensures.ok (with_input c.next.new.input (Finding later) inner))),
    )

pub returns-in-Ok-false-clause-finds : goal.returns-in-Ok-false-clause-finds
returns-in-Ok-false-clause-finds g c =
    let finds = c.in-Ok-Assign.ensures.finds in
    let rests = told_rests c.in-Ok-Assign.name c.in-Ok-Assign.text c.next.new.input.main c.in-Ok-Assign.field-0-is c.in-Ok-Assign.ensures.rests in (
      finds.0,
      λ later outside inner offered.
          assign_made _ _ c.in-Ok-Assign.name c.in-Ok-Assign.text (with_tables c.args.texts.now c.next.new.input (Finding later) inner) (with_tables c.assign.new.texts (record c.next.new.input { names = c.assign.new.names }) (Finding later) inner)
          (next_found (main.Assign c.in-Ok-Assign.name c.in-Ok-Assign.text) _ outside _ c.in-Ok-Assign.field-0-is (finds.1 later outside inner offered))
          (renamed c.as_slice.result.now c.as_slice-in-Ok-Assign.result.now c.in-Ok-Assign.name c.in-Ok-Assign.text c.in-Ok-false.field-0 false _ _ c.as_slice.ensures.value c.as_slice-in-Ok-Assign.ensures.value c.in-Ok-false.field-0-test (c.in-Ok-false.ensures.ok (with_input c.next.new.input (Finding later) inner)))
          ∙ goes_on outside c.next.new.input.main (Finding later) (with_tables c.assign.new.texts (record c.next.new.input { names = c.assign.new.names }) (Finding later) inner) refl
          (told_live c.in-Ok-Assign.name c.in-Ok-Assign.text c.next.new.input.main c.in-Ok-Assign.field-0-is c.in-Ok-Assign.ensures.live) rests.0 rests.1,
    )

pub returns-in-Ok-Assign-clause-finds : goal.returns-in-Ok-Assign-clause-finds
returns-in-Ok-Assign-clause-finds g c =
    let finds = c.in-Ok-Assign.ensures.finds in (
      finds.0,
      λ later outside inner offered.
          assign_stops _ _ c.in-Ok-Assign.name c.in-Ok-Assign.text (with_tables c.args.texts.now c.next.new.input (Finding later) inner) (with_tables c.assign.new.texts (record c.next.new.input { names = c.assign.new.names }) (Finding later) inner)
          (next_found (main.Assign c.in-Ok-Assign.name c.in-Ok-Assign.text) _ outside _ c.in-Ok-Assign.field-0-is (finds.1 later outside inner offered)) c.in-Err-assign.stop
          (renamed_stop c.as_slice.result.now c.as_slice-in-Ok-Assign.result.now c.in-Ok-Assign.name c.in-Ok-Assign.text _ c.in-Err-assign.stop c.as_slice.ensures.value c.as_slice-in-Ok-Assign.ensures.value (c.in-Err-assign.ensures.err (with_input c.next.new.input (Finding later) inner))),
    )

pub returns-clause-finds : goal.returns-clause-finds
returns-clause-finds g c =
    let finds = c.in-Err.ensures.finds in (
      finds.0,
      λ later outside inner offered.
          let given = main_input outside (with_tables c.args.texts.now c.args.input.now (Finding (finds.0 ++ later)) inner) in
          let new = with_tables c.args.texts.now c.next.new.input (Finding later) inner in
          subst (λ r. TurnGives given r outside new) (sym c.stopped.ensures) (stop_found c.in-Err.stop given outside new (finds.1 later outside inner offered)),
    )

pub returns-in-Ok-Record-clause-held : goal.returns-in-Ok-Record-clause-held
returns-in-Ok-Record-clause-held g c = c.next.ensures.held

pub returns-in-Ok-Record-clause-goes : goal.returns-in-Ok-Record-clause-goes
returns-in-Ok-Record-clause-goes g c = c.next.ensures.goes

pub returns-in-Ok-Record-clause-outside : goal.returns-in-Ok-Record-clause-outside
returns-in-Ok-Record-clause-outside g c = c.next.ensures.outside

pub returns-in-Ok-Record-clause-gives : goal.returns-in-Ok-Record-clause-gives
returns-in-Ok-Record-clause-gives g c = c.next.ensures.gives

pub returns-in-Ok-End-clause-held : goal.returns-in-Ok-End-clause-held
returns-in-Ok-End-clause-held g c = c.next.ensures.held

pub returns-in-Ok-End-clause-goes : goal.returns-in-Ok-End-clause-goes
returns-in-Ok-End-clause-goes g c = c.next.ensures.goes

pub returns-in-Ok-End-clause-outside : goal.returns-in-Ok-End-clause-outside
returns-in-Ok-End-clause-outside g c = c.next.ensures.outside

pub returns-in-Ok-End-clause-gives : goal.returns-in-Ok-End-clause-gives
returns-in-Ok-End-clause-gives g c = c.next.ensures.gives

pub returns-in-Ok-Opened-clause-held : goal.returns-in-Ok-Opened-clause-held
returns-in-Ok-Opened-clause-held g c = c.next.ensures.held

pub returns-in-Ok-Opened-clause-goes : goal.returns-in-Ok-Opened-clause-goes
returns-in-Ok-Opened-clause-goes g c = c.next.ensures.goes

pub returns-in-Ok-Opened-clause-outside : goal.returns-in-Ok-Opened-clause-outside
returns-in-Ok-Opened-clause-outside g c = c.next.ensures.outside

pub returns-in-Ok-Opened-clause-gives : goal.returns-in-Ok-Opened-clause-gives
returns-in-Ok-Opened-clause-gives g c = c.next.ensures.gives

pub returns-in-Ok-true-clause-held : goal.returns-in-Ok-true-clause-held
returns-in-Ok-true-clause-held g c = record { main = c.next.ensures.held.main; files = c.next.ensures.held.files; apart = c.next.ensures.held.apart }

pub returns-in-Ok-true-clause-goes : goal.returns-in-Ok-true-clause-goes
returns-in-Ok-true-clause-goes g c = c.next.ensures.goes

pub returns-in-Ok-true-clause-outside : goal.returns-in-Ok-true-clause-outside
returns-in-Ok-true-clause-outside g c = c.next.ensures.outside

pub returns-in-Ok-true-clause-gives : goal.returns-in-Ok-true-clause-gives
returns-in-Ok-true-clause-gives g c = c.next.ensures.gives

pub returns-in-Ok-false-clause-held : goal.returns-in-Ok-false-clause-held
returns-in-Ok-false-clause-held g c = record { main = c.next.ensures.held.main; files = c.next.ensures.held.files; apart = c.next.ensures.held.apart }

pub returns-in-Ok-false-clause-goes : goal.returns-in-Ok-false-clause-goes
returns-in-Ok-false-clause-goes g c = c.next.ensures.goes

pub returns-in-Ok-false-clause-outside : goal.returns-in-Ok-false-clause-outside
returns-in-Ok-false-clause-outside g c = c.next.ensures.outside

pub returns-in-Ok-false-clause-gives : goal.returns-in-Ok-false-clause-gives
returns-in-Ok-false-clause-gives g c = c.next.ensures.gives

pub returns-in-Ok-Assign-clause-held : goal.returns-in-Ok-Assign-clause-held
returns-in-Ok-Assign-clause-held g c = record { main = c.next.ensures.held.main; files = c.next.ensures.held.files; apart = c.next.ensures.held.apart }

pub returns-in-Ok-Assign-clause-goes : goal.returns-in-Ok-Assign-clause-goes
returns-in-Ok-Assign-clause-goes g c = c.next.ensures.goes

pub returns-in-Ok-Assign-clause-outside : goal.returns-in-Ok-Assign-clause-outside
returns-in-Ok-Assign-clause-outside g c = c.next.ensures.outside

pub returns-in-Ok-Assign-clause-gives : goal.returns-in-Ok-Assign-clause-gives
returns-in-Ok-Assign-clause-gives g c = c.next.ensures.gives

pub returns-clause-held : goal.returns-clause-held
returns-clause-held g c = c.next.ensures.held

pub returns-clause-goes : goal.returns-clause-goes
returns-clause-goes g c = c.next.ensures.goes

pub returns-clause-outside : goal.returns-clause-outside
returns-clause-outside g c = c.next.ensures.outside

pub returns-clause-gives : goal.returns-clause-gives
returns-clause-gives g c = c.next.ensures.gives

pub returns-in-Ok-Record-clause-rest : goal.returns-in-Ok-Record-clause-rest
returns-in-Ok-Record-clause-rest g c = moved_main c.args.input.now c.next.new.input c.next.ensures.rest

pub returns-in-Ok-End-clause-rest : goal.returns-in-Ok-End-clause-rest
returns-in-Ok-End-clause-rest g c = moved_main c.args.input.now c.next.new.input c.next.ensures.rest

pub returns-in-Ok-Opened-clause-rest : goal.returns-in-Ok-Opened-clause-rest
returns-in-Ok-Opened-clause-rest g c = moved_main c.args.input.now c.next.new.input c.next.ensures.rest

pub returns-clause-rest : goal.returns-clause-rest
returns-clause-rest g c = moved_main c.args.input.now c.next.new.input c.next.ensures.rest

pub returns-in-Ok-true-clause-rest : goal.returns-in-Ok-true-clause-rest
returns-in-Ok-true-clause-rest g c = moved_names c.args.input.now c.next.new.input c.assign.new.names c.next.ensures.rest c.assign.ensures.rest

pub returns-in-Ok-false-clause-rest : goal.returns-in-Ok-false-clause-rest
returns-in-Ok-false-clause-rest g c = moved_names c.args.input.now c.next.new.input c.assign.new.names c.next.ensures.rest c.assign.ensures.rest

pub returns-in-Ok-Assign-clause-rest : goal.returns-in-Ok-Assign-clause-rest
returns-in-Ok-Assign-clause-rest g c = moved_names c.args.input.now c.next.new.input c.assign.new.names c.next.ensures.rest c.assign.ensures.rest
