use Rattle.host_imports.specs.declared.import.Import.TheVariants.{Variadic}
use Rattle.host_imports.specs.declared.import.VariadicImport.TheVariants.{Print}
use Rattle.host_worlds.proofs.Apart.{holds_file}
use Rattle.host_worlds.specs.Forms.{printing}
use Rattle.host_calls.specs.Forms.{host_form}
use Rattle.host_calls.proofs.Written.{files_come, others_keep}
use Rattle.host_calls.proofs.host.Host.print.Goals as goal

pub invariant_of-self-2-clause-held : goal.invariant_of-self-2-clause-held
invariant_of-self-2-clause-held g c =
    holds_file c.args.self.now.input c.print.new.streams (g.W.World.kinds c.args.self.now.world) (g.W.World.kinds c.print.new.world)
    c.args.self.now.held c.print.ensures.keeps.held c.print.ensures.keeps.others

pub invariant_of-self-2-clause-goes : goal.invariant_of-self-2-clause-goes
invariant_of-self-2-clause-goes g c = c.print.ensures.keeps.goes

pub returns : goal.returns
returns g c = λ memory.
    let was = c.args.self.now in
    let old = g.W.World.state was.world in
    let new = g.W.World.state c.print.new.world in
    let before = host_form g.W.World.state was in
    files_come g.W.World.is_modelled _ (Variadic Print) c.args.words.now memory
    was.input (g.W.World.kinds was.world) was.held (g.met.W.World.input was.world) old new
    (λ t. others_keep was.input (g.W.World.kinds was.world) old new (c.print.ensures.keeps.spares t)) before
    (printing c.print.new.arguments.items was.tables.texts.specials c.print.new.streams new before) c.print.result c.requires
    (c.print.ensures.step.0, c.print.ensures.step.1, c.print.ensures.step.2 before memory c.requires)
