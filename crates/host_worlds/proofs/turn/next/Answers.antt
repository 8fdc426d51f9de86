use Rattle.std.proofs.Common.{sym, ap, subst, ◌∙◌}
use Rattle.awk_values.specs.Values.{number_of_value, text_of_value}
use Rattle.sem_primitives.specs.MainInput.{main_input}
use Rattle.sem_primitives.specs.Records.{record_separator}
use Rattle.host_streams.specs.Mains.{AnswerIs}
use Rattle.host_worlds.specs.States.{Finding, Over, with_tables}
use Rattle.host_worlds.proofs.Apart.{holds_next, tables_next, writers_stay}
use Rattle.host_worlds.proofs.Turns.{assign_live, next_passes}
use Rattle.host_worlds.proofs.turn.next.Goals as goal

pub returns-clause-held : goal.returns-clause-held
returns-clause-held g c =
    holds_next c.args.input.now c.next.new.self (g.W.World.kinds c.args.world.now) (g.W.World.kinds c.next.new.world) c.requires.held c.next.ensures.held c.next.ensures.spares

pub returns-clause-goes : goal.returns-clause-goes
returns-clause-goes g c = λ tells.
    writers_stay c.args.input.now.main.reading (g.W.World.kinds c.args.world.now) (g.W.World.state c.args.world.now) (g.W.World.state c.next.new.world) (c.next.ensures.places tells) c.args.input.now.files.writers.items
    c.requires.held.files.1 c.requires.held.apart.1 (c.requires.goes tells)

pub returns-clause-told : goal.returns-clause-told
returns-clause-told g c = λ tells inner offered.
    let old = g.W.World.state c.args.world.now in
    let now = with_tables c.args.texts.now c.args.input.now (Over old) inner in
    subst (λ x. AnswerIs (main_input old.outside now) c.next.result old.outside now x)
    (tables_next c.args.texts.now c.args.input.now c.next.new.self (g.W.World.kinds c.args.world.now) old (g.W.World.state c.next.new.world) inner c.requires.held (c.next.ensures.places tells))
    (c.next.ensures.told tells now (record { separator = ap record_separator (sym (c.as_slice.ensures ∙ c.shown_text-rs.ensures ∙ ap text_of_value c.get.ensures)) }) (record { count = sym c.get-argc.ensures; operands = offered }))

pub returns-clause-finds : goal.returns-clause-finds
returns-clause-finds g c =
    let finds = c.next.ensures.finds in (
      finds.0,
      λ later outside inner offered. finds.1 later outside (with_tables c.args.texts.now c.args.input.now (Finding later) inner)
          (record { separator = ap record_separator (sym (c.as_slice.ensures ∙ c.shown_text-rs.ensures ∙ ap text_of_value c.get.ensures)) }) (record { count = sym c.get-argc.ensures; operands = offered }),
    )

pub returns-clause-passes : goal.returns-clause-passes
returns-clause-passes g c =
    next_passes (g.O.Operands.text c.args.operands.now) (number_of_value c.get-argc.result.now) c.args.input.now.main c.next.new.self c.next.result c.next.ensures.passes c.next.ensures.there

pub returns-clause-live : goal.returns-clause-live
returns-clause-live g c = assign_live c.args.input.now.main.ended c.next.result c.next.new.self c.next.ensures.ends
