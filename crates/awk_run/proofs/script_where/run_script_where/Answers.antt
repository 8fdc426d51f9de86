use Rattle.host_tables.specs.Starts.{job_of}
use Rattle.awk_run.proofs.Told.{seen_in}
use Rattle.awk_run.proofs.script_where.run_script_where.Goals as goal

pub returns-in-Ok-clause-seen : goal.returns-in-Ok-clause-seen
returns-in-Ok-clause-seen g c =
    seen_in g.W.World.is_modelled c.args.script.now c.in-Ok.module.items c.deref.result.now (job_of c.args.job.now) c.args.steps (g.W.World.state c.args.world)
    c.run_compiled_where.result.1 c.deref.ensures.value c.in-Ok.ensures.compiled c.run_compiled_where.ensures.seen
