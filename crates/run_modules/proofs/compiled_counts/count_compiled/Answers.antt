use Rattle.host_tables.specs.Starts.{job_of}
use Rattle.run_modules.proofs.Runs.{answers_inside}
use Rattle.run_modules.proofs.compiled_counts.count_compiled.Goals as goal

pub returns-clause-answers : goal.returns-clause-answers
returns-clause-answers g c =
    answers_inside g.W.World.is_modelled g.W.World.state g.W.World.did c.new-noted.result c.run_module_counted-end.result.2 (λ w. w.inner) c.args.world c.into_inner.result
    c.new-noted.ensures c.into_inner.ensures c.args.bytes.now (job_of c.args.job.now) c.args.steps c.run_module_counted-end.result.0 c.run_module_counted-end.ensures.answers
