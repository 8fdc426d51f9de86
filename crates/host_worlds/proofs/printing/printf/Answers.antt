use Rattle.std.proofs.Common.{◌≡◌, ◌-◌, [], take, Ok, Err, ap, subst, sym, ◌∙◌}
use Rattle.sem_primitives.specs.Rows.{printf_row}
use Rattle.host_imports.specs.declared.import.Import.TheVariants.{Variadic}
use Rattle.host_imports.specs.declared.import.VariadicImport.TheVariants.{Printf}
use Rattle.host_streams.specs.OpenFiles.{names_of, readers_in}
use Rattle.host_streams.specs.Given.{IsOutput}
use Rattle.host_streams.specs.Outputs.{PutsIs}
use Rattle.host_streams.proofs.Given.{none_still}
use Rattle.host_streams.proofs.GivenTexts.{gives_still}
use Rattle.host_values.specs.WorldCalls.{IsCalled}
use Rattle.host_worlds.specs.OutputCalls.{PossibleOutcome, answer_of}
use Rattle.host_worlds.specs.Forms.{writing}
use Rattle.host_worlds.specs.Lists.{listed}
use Rattle.host_worlds.proofs.Lasts.{last_taken}
use Rattle.host_worlds.proofs.Printed.{formats_so, printf_traps}
use Rattle.host_worlds.proofs.Tables.{readers_stay}
use Rattle.host_worlds.proofs.printing.printf.Goals as goal

pub returns-in-Err-clause-step : goal.returns-in-Err-clause-step
returns-in-Err-clause-step g c = (
  [],
  gives_still g.W.World.did c.args.world.now c.args.world.now c.args.streams.now.writers.items (none_still g.W.World.did c.args.world.now),
  λ f memory none. printf_traps g.W.World.is_modelled f c.args.words.now memory none c.args.arguments.now.items c.args.streams.now (g.W.World.state c.args.world.now) c.in-Err.kind
      (subst (λ xs. listed 1 xs c.args.words.now ≡ Err c.in-Err.kind) c.as_slice.ensures (sym c.in-Err.ensures.is)),
)

pub returns-clause-step : goal.returns-clause-step
returns-clause-step g c =
    let n = c.in-Ok.taken in
    let args = c.args.arguments.now.items in
    let before = g.W.World.state c.args.world.now in
    let after = g.W.World.state c.printf_values-put.new.world in
    let files = c.printf_values-put.new.streams in
    let keeps = c.printf_values-put.ensures.keeps in
    let out = c.printf_values-put.ensures.given in
    let same = last_taken c.as_slice-2.result.now args c.len.result n.0 c.len.ensures.value c.as_slice-2.ensures in (
      out.actions,
      out.given,
      λ f memory none.
          subst (λ r. IsCalled g.W.World.is_modelled (Variadic Printf) (writing args c.args.streams.now before f) c.args.words.now memory r (writing c.truncate.new.self.items files after f) out.actions) (sym c.answer.ensures)
          (subst (λ xs. IsCalled g.W.World.is_modelled (Variadic Printf) (writing args c.args.streams.now before f) c.args.words.now memory (answer_of c.printf_values-put.result) (writing xs files after f) out.actions) (sym (c.truncate.ensures.items ∙ ap (λ k. take (k - n.0) args) c.len.ensures.value))
          (formats_so g.W.World.is_modelled f c.args.words.now memory none args c.args.streams.now before n files after c.printf_values-put.result out.actions
          keeps.readers (λ tells. ap (λ v. readers_in v.items after) keeps.readers ∙ readers_stay (g.W.World.kinds c.args.world.now) c.args.streams.now.readers.items before after c.requires.held.0 (keeps.spares tells))
          out.outside (subst (λ xs. listed 1 xs c.args.words.now ≡ Ok n) c.as_slice.ensures (sym c.in-Ok.ensures.is))
          (λ tells shared is. subst (λ xs. PutsIs (printf_row n.1 xs shared) c.printf_values-put.result before after (names_of c.args.streams.now.writers.items) (names_of files.writers.items)) same (c.printf_values-put.ensures.told tells shared is))
          (λ tells shared is. subst (λ xs. IsOutput out.actions (printf_row n.1 xs shared) c.printf_values-put.result) same (out.told tells shared is))
          (subst (λ xs. PossibleOutcome (printf_row n.1 xs) c.args.streams.now files c.printf_values-put.result out.actions) same out.could))),
    )
