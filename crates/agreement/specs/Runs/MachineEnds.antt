-- What a machine's end tells of how a script ends.
use Rattle.std.specs.Prelude.{Option}
use Rattle.awk_values.specs.declared.fault.Fault.{Fault}
use Rattle.wasm_model.specs.declared.ends.MachineEnd.{MachineEnd}
use Rattle.wasm_model.specs.declared.ends.MachineEnd.TheVariants as machine
use Rattle.sem_scripts.specs.ScriptRun.{Exhausted}
use Rattle.agreement.specs.Modules.Agreement.{ended_with}
use Rattle.agreement.specs.Runs.ToldRuns.{Told, Ends, PutsOut, Never}

-- what a machine's end tells, with this fault kept; a script never traps
abbrev pub told_by : Option Fault → MachineEnd → Told
told_by kept (machine.Returned n) = Ends (ended_with kept n)
told_by kept machine.Exhausted = Ends Exhausted
told_by kept machine.OutOfSteps = PutsOut
told_by kept machine.NoMemory = PutsOut
told_by kept (machine.Trapped kind) = Never
