use Rattle.host_tables.specs.Forms.{of_tables}
use Rattle.host_tables.proofs.LetGo.{iterator_goes}
use Rattle.host_tables.proofs.tables.Tables.iter_free.Goals as goal

pub returns : goal.returns
returns c f memory =
    let before = of_tables c.args.self.now f in
    iterator_goes before c.args.words.now memory c.iter_free.result c.iter_free.new.iterators (λ g. c.iter_free.ensures.step g memory)
