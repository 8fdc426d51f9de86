use Rattle.host_tables.specs.Forms.{of_tables}
use Rattle.host_tables.proofs.LetGo.{array_goes}
use Rattle.host_tables.proofs.tables.Tables.free_array.Goals as goal

pub returns : goal.returns
returns c f memory =
    let before = of_tables c.args.self.now f in
    array_goes before c.args.words.now memory c.free_array.result c.free_array.new.arrays (λ g. c.free_array.ensures.step g memory)
