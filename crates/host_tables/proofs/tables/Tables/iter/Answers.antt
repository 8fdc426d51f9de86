use Rattle.host_tables.specs.Forms.{of_tables}
use Rattle.host_tables.proofs.tables.Tables.iter.Goals as goal

pub returns : goal.returns
returns c f memory = c.iter.ensures.step (of_tables c.args.self.now f) memory c.requires
