use Rattle.std.proofs.Common.{refl}
use Rattle.host_imports.specs.declared.import.Import.TheVariants.{Variadic}
use Rattle.host_imports.specs.declared.import.VariadicImport.TheVariants.{Sprintf}
use Rattle.host_values.specs.Forms.{state_of}
use Rattle.host_tables.specs.Families.{of_listed}
use Rattle.host_tables.specs.Forms.{of_tables}
use Rattle.host_tables.proofs.Bridge.{table_call}
use Rattle.host_tables.proofs.tables.Tables.sprintf.Goals as goal

pub returns : goal.returns
returns c f memory =
    let before = of_tables c.args.self.now f in
    let after = of_listed c.sprintf.new.arguments.items c.sprintf.new.handles before in
    table_call (Variadic Sprintf) before after c.args.words.now memory (record { arrays = refl; iterators = refl }) c.sprintf.result
    (λ p. c.sprintf.ensures.step (state_of before p) memory c.requires)
