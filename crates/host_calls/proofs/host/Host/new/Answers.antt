use Rattle.host_tables.specs.Starts.{job_of}
use Rattle.host_calls.proofs.Starting.{starts}
use Rattle.host_calls.proofs.host.Host.new.Goals as goal

pub invariant_of-result : goal.invariant_of-result
invariant_of-result g c = record {
  held = c.new-2.ensures.held (g.W.World.kinds c.args.world);
  goes = λ tells. c.new-2.ensures.goes (g.W.World.state c.args.world);
}

pub returns-clause-started : goal.returns-clause-started
returns-clause-started g c =
    starts c.new-tables.result.0 c.new-2.result c.new-tables.result.1 c.in-Ok-at_start.first (job_of c.args.job.now)
    c.new-tables.ensures.form c.new-2.ensures.begins c.in-Ok-at_start.ensures.stands (g.W.World.state c.args.world)
