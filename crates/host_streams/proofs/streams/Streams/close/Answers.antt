use Rattle.std.proofs.Common.{◌∙◌, ◌||◌, sym, ap, subst}
use Rattle.awk_values.specs.declared.value.Value.TheVariants.{Text}
use Rattle.sem_primitives.specs.InputMeaning.{close_row, without_writer}
use Rattle.sem_primitives.specs.OutputMeaning.{is_writing}
use Rattle.host_streams.specs.Closing.{ClosesBy}
use Rattle.host_streams.specs.OpenFiles.{names_of}
use Rattle.host_streams.proofs.Closed.{closes_both}
use Rattle.host_streams.proofs.Given.{none_then}
use Rattle.host_streams.proofs.streams.Streams.close.Goals as goal

pub returns-then-reading-clause-told : goal.returns-then-reading-clause-told
returns-then-reading-clause-told g c = λ tells shared is.
    subst (λ b. ClosesBy (close_row (Text c.args.name.now) shared.inner) b c.close_writer-writing.new.self (g.W.World.state c.close_writer-writing.new.world))
    (ap (λ b. b || c.close_writer-writing.result) c.if-reading.true ∙ sym c.if-reading.true)
    (closes_both c.args.name.now c.args.self.now c.close_writer-writing.new.self _ _ shared c.close_reader-reading.result c.close_writer-writing.result is c.close_reader-reading.ensures.answer
    (c.close_writer-writing.ensures.answer ∙ ap (λ ws. is_writing c.args.name.now (names_of ws.items)) c.close_reader-reading.ensures.writers)
    (c.close_writer-writing.ensures.told tells ∙ c.close_reader-reading.ensures.told tells)
    (c.close_writer-writing.ensures.names ∙ ap (λ ws. without_writer c.args.name.now (names_of ws.items)) c.close_reader-reading.ensures.writers))

pub returns-else-reading-clause-told : goal.returns-else-reading-clause-told
returns-else-reading-clause-told g c = λ tells shared is.
    subst (λ b. ClosesBy (close_row (Text c.args.name.now) shared.inner) b c.close_writer-writing.new.self (g.W.World.state c.close_writer-writing.new.world))
    (ap (λ b. b || c.close_writer-writing.result) c.if-reading.false)
    (closes_both c.args.name.now c.args.self.now c.close_writer-writing.new.self _ _ shared c.close_reader-reading.result c.close_writer-writing.result is c.close_reader-reading.ensures.answer
    (c.close_writer-writing.ensures.answer ∙ ap (λ ws. is_writing c.args.name.now (names_of ws.items)) c.close_reader-reading.ensures.writers)
    (c.close_writer-writing.ensures.told tells ∙ c.close_reader-reading.ensures.told tells)
    (c.close_writer-writing.ensures.names ∙ ap (λ ws. without_writer c.args.name.now (names_of ws.items)) c.close_reader-reading.ensures.writers))

pub returns-then-reading-clause-gives : goal.returns-then-reading-clause-gives
returns-then-reading-clause-gives g c = none_then g.W.World.did _ _ _ c.close_reader-reading.ensures.gives c.close_writer-writing.ensures.gives

pub returns-else-reading-clause-gives : goal.returns-else-reading-clause-gives
returns-else-reading-clause-gives g c = none_then g.W.World.did _ _ _ c.close_reader-reading.ensures.gives c.close_writer-writing.ensures.gives
