use Rattle.std.proofs.Common.{ap, subst, ◌∙◌}
use Rattle.sem_primitives.specs.OutputMeaning.{file_name, printed, put_text}
use Rattle.host_streams.specs.OpenFiles.{names_of}
use Rattle.host_streams.specs.Outputs.{PutsIs}
use Rattle.host_worlds.specs.Forms.{inner_with, shared_with}
use Rattle.host_streams.proofs.Refused.{is_stop}
use Rattle.host_worlds.proofs.Found.{none_out}
use Rattle.host_worlds.proofs.Texts.{line_given}
use Rattle.host_worlds.proofs.printing.print_values.Goals as goal

pub returns-clause-told : goal.returns-clause-told
returns-clause-told g c = λ tells shared is.
    let text = c.as_slice.ensures.value ∙ c.in_ok-fill.ensures shared.inner ∙ ap (printed (inner_with c.args.specials.now shared.inner)) c.operands.ensures in
    subst (λ xs. PutsIs (put_text c.args.to (file_name c.args.to c.args.values.now) xs (shared_with c.args.specials.now shared)) c.put_out.result (g.W.World.state c.args.world.now) (g.W.World.state c.put_out.new.world) (names_of c.args.streams.now.writers.items) (names_of c.put_out.new.streams.writers.items)) text
    (c.put_out.ensures.told tells (shared_with c.args.specials.now shared) (record { kept = is.kept; readers = is.readers; writers = is.writers; outside = is.outside }))

pub returns-clause-given : goal.returns-clause-given
returns-clause-given g c =
    line_given c.args.to c.args.values.now c.args.specials.now c.as_slice.result.now (λ inner. c.as_slice.ensures.value ∙ c.in_ok-fill.ensures inner ∙ ap (printed (inner_with c.args.specials.now inner)) c.operands.ensures)
    g.W.World.is_modelled g.W.World.did _ _ c.args.streams.now c.put_out.new.streams _ _ c.put_out.result c.put_out.ensures.given

pub returns-in_err-fill-clause-given : goal.returns-in_err-fill-clause-given
returns-in_err-fill-clause-given g c =
    rw (is_stop c.from_residual.result c.from_residual.ensures.1) (none_out g.W.World.is_modelled g.W.World.did c.args.world.now c.args.streams.now (g.W.World.state c.args.world.now) _)
