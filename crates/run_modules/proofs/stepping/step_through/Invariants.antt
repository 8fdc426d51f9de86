use Rattle.std.proofs.Common.{◌≡◌}
use Rattle.host_calls.specs.Forms.{host_form}
use Rattle.host_calls.specs.Runs.{given_meaning, sight}
use Rattle.wasm_model.specs.MachineRuns.{Did, lasting}
use Rattle.run_modules.specs.Tallied.{IsTallied}
use Rattle.script_places.specs.Tallies.{rows_of}
use Rattle.run_modules.proofs.stepping.step_through.Given as goal

abbrev pub invariant-loop-taken : goal.invariant-loop-taken
invariant-loop-taken g l = record {
  program : l.machine.program ≡ l.fn.machine.program;
  did : Did (given_meaning g.W.World.is_modelled g.W.World.did) l.fn.machine.program l.taken l.fn.machine.conf (sight g.W.World.state l.fn.host) l.end l.machine.conf
      (sight g.W.World.state l.host);
  ended : l.machine.ended ≡ lasting l.end;
  nops : l.tally.nops ≡ l.fn.tally.nops;
  tallied : IsTallied g.W.World.is_modelled l.fn.machine.program l.taken l.taken l.fn.machine.conf (host_form g.W.World.state l.fn.host) l.end l.machine.conf (host_form g.W.World.state l.host)
      (rows_of l.tally.rows.items) l.tally.values;
}
