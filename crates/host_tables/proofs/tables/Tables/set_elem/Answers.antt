use Rattle.host_tables.specs.Forms.{of_tables}
use Rattle.host_tables.proofs.tables.Tables.set_elem.Goals as goal

pub returns : goal.returns
returns c f memory = c.set_elem.ensures.step (of_tables c.args.self.now f) memory c.requires
