use Rattle.std.proofs.Common.{sym}
use Rattle.host_texts.specs.NameForms.{of_names}
use Rattle.host_texts.proofs.NameSteps.{name_call, name_traps, no_name}
use Rattle.host_texts.proofs.name_calls.pending_name.Goals as goal

pub returns-in-Err : goal.returns-in-Err
returns-in-Err c = record { step = λ f memory none. name_traps (of_names c.args.names.now f.values f) c.args.words.now memory c.in-Err.kind none (sym c.in-Err.ensures) }

pub returns-in-Some : goal.returns-in-Some
returns-in-Some c = record { step = λ f memory none. name_call (of_names c.args.names.now f.values f) c.args.words.now memory none (sym c.in-Ok.ensures) (c.in-Some.number, c.in-Some.field-0-1) c.in-Some.is }

pub returns-in-None : goal.returns-in-None
returns-in-None c = record { step = λ f memory none. no_name (of_names c.args.names.now f.values f) c.args.words.now memory none (sym c.in-Ok.ensures) c.in-None.is }
