use Rattle.std.proofs.Common.{refl}
use Rattle.host_imports.specs.declared.import.Import.TheVariants.{Arg}
use Rattle.host_values.specs.Forms.{state_of}
use Rattle.host_tables.specs.Families.{of_listed}
use Rattle.host_tables.specs.Forms.{of_tables}
use Rattle.host_tables.proofs.Bridge.{table_call}
use Rattle.host_tables.proofs.tables.Tables.arg.Goals as goal

pub returns : goal.returns
returns c f memory =
    let before = of_tables c.args.self.now f in
    let after = of_listed c.append.new.arguments.items c.append.new.handles before in
    table_call Arg before after c.args.words.now memory (record { arrays = refl; iterators = refl }) c.append.result
    (λ p. c.append.ensures.step (state_of before p) memory c.requires)
