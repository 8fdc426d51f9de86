use Rattle.host_imports.specs.declared.import.Import.TheVariants.{Variadic}
use Rattle.host_imports.specs.declared.import.VariadicImport.TheVariants.{Printf}
use Rattle.host_worlds.proofs.Apart.{holds_file}
use Rattle.host_worlds.specs.Forms.{writing}
use Rattle.host_calls.specs.Forms.{host_form}
use Rattle.host_calls.proofs.Written.{files_come, others_keep}
use Rattle.host_calls.proofs.host.Host.printf.Goals as goal

pub invariant_of-self-2-clause-held : goal.invariant_of-self-2-clause-held
invariant_of-self-2-clause-held g c =
    let was = c.args.self.now in
    holds_file was.input c.printf.new.streams (g.W.World.kinds was.world) (g.W.World.kinds c.printf.new.world)
    was.held c.printf.ensures.keeps.held c.printf.ensures.keeps.others

pub invariant_of-self-2-clause-goes : goal.invariant_of-self-2-clause-goes
invariant_of-self-2-clause-goes g c = c.printf.ensures.keeps.goes

pub returns : goal.returns
returns g c = λ memory.
    let was = c.args.self.now in
    let old = g.W.World.state was.world in
    let new = g.W.World.state c.printf.new.world in
    let before = host_form g.W.World.state was in
    files_come g.W.World.is_modelled _ (Variadic Printf) c.args.words.now memory
    was.input (g.W.World.kinds was.world) was.held (g.met.W.World.input was.world) old new
    (λ t. others_keep was.input (g.W.World.kinds was.world) old new (c.printf.ensures.keeps.spares t)) before
    (writing c.printf.new.arguments.items c.printf.new.streams new before) c.printf.result c.requires
    (c.printf.ensures.step.0, c.printf.ensures.step.1, c.printf.ensures.step.2 before memory c.requires)
