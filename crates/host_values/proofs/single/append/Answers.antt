use Rattle.host_values.proofs.OneHandle.{append_badly, append_well, reserved_one}
use Rattle.host_values.proofs.single.append.Goals as goal

pub returns-in-Ok-clause-step : goal.returns-in-Ok-clause-step
returns-in-Ok-clause-step c s memory none = append_well s c.args.arguments.now.items _ c.args.handles.now _ c.args.words.now memory c.in-Ok.value c.push_value.result none c.in-Ok.ensures.value c.in-Ok.ensures.rest c.push_value.ensures

pub returns-in-Ok-clause-reserved : goal.returns-in-Ok-clause-reserved
returns-in-Ok-clause-reserved c free = reserved_one c.args.handles.now _ c.args.words.now c.in-Ok.ensures.rest free

pub returns-in-Err-clause-step : goal.returns-in-Err-clause-step
returns-in-Err-clause-step c s memory none = append_badly s c.args.arguments.now.items c.args.handles.now _ c.args.words.now memory c.in-Err.kind none c.in-Err.ensures.value c.in-Err.ensures.rest
