use Rattle.host_tables.specs.Starts.{job_of}
use Rattle.awk_run.proofs.Told.{counted_in}
use Rattle.awk_run.proofs.counting.count_script.Goals as goal

pub returns-in-Ok-clause-counted : goal.returns-in-Ok-clause-counted
returns-in-Ok-clause-counted g c =
    counted_in g.W.World.is_modelled c.args.script.now c.in-Ok.module.items c.deref.result.now (job_of c.args.job.now) c.args.steps (g.W.World.state c.args.world)
    c.count_compiled.result.1 c.deref.ensures.value c.in-Ok.ensures.compiled c.count_compiled.ensures.counted
