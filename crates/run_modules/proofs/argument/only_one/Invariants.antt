use Rattle.std.proofs.Common.{◌≡◌}
use Rattle.std.specs.Prelude.{IfSome}
use Rattle.host_calls.specs.Runs.{sight}
use Rattle.run_modules.specs.Seen.{IsAbout}
use Rattle.run_modules.proofs.argument.only_one.Given as goal

abbrev pub invariant-loop : goal.invariant-loop
invariant-loop g l = (sight g.W.World.state l.host ≡ sight g.W.World.state l.fn.host) × IfSome l.found (IsAbout l.fault)
