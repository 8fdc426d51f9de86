use Rattle.std.proofs.Common.{sym}
use Rattle.host_worlds.specs.States.{form_ending}
use Rattle.host_worlds.proofs.EndCalls.{end_begins, end_traps}
use Rattle.host_worlds.proofs.input_calls.begin_end.Goals as goal

pub returns-in-Err-clause-step : goal.returns-in-Err-clause-step
returns-in-Err-clause-step c = λ f memory none. end_traps (form_ending c.args.input.now.in_end f) c.args.words.now memory c.in-Err.kind none (sym c.in-Err.ensures)

pub returns-clause-step : goal.returns-clause-step
returns-clause-step c = λ f memory none. end_begins (form_ending c.args.input.now.in_end f) c.args.words.now memory none (sym c.in_default.ensures)
