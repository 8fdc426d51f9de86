use Rattle.host_step.specs.HostLaws.{host_found, step_typed}
use Rattle.host_imports.specs.Imports.{import_at}
use Rattle.host_step.proofs.step_laws.types.Goals as goal

pub returns-clause-found : goal.returns-clause-found
returns-clause-found c = host_found

pub returns-clause-answered : goal.returns-clause-answered
returns-clause-answered c = λ n. step_typed (import_at n)
