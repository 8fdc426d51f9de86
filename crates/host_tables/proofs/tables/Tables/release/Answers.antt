use Rattle.std.proofs.Common.{refl}
use Rattle.host_imports.specs.declared.import.Import.TheVariants.{Drop}
use Rattle.host_values.specs.Forms.{state_of}
use Rattle.host_tables.specs.Families.{of_values}
use Rattle.host_tables.specs.Forms.{of_tables}
use Rattle.host_tables.proofs.Bridge.{table_call}
use Rattle.host_tables.proofs.LetGo.{value_goes}
use Rattle.host_tables.proofs.tables.Tables.release.Goals as goal

pub returns : goal.returns
returns c f memory =
    let before = of_tables c.args.self.now f in
    let old = c.args.self.now.handles in
    let new = c.release.new.handles in
    value_goes before c.args.words.now memory c.release.result new (λ g.
    table_call Drop (of_values old g) (of_values new g) c.args.words.now memory (record { arrays = refl; iterators = refl }) c.release.result
    (λ p. c.release.ensures.step (state_of g p) memory))
