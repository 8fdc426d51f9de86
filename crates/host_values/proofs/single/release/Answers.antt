use Rattle.std.proofs.Common.{◌∙◌}
use Rattle.host_values.proofs.OneHandle.{release_badly, release_well, reserved_one}
use Rattle.host_values.proofs.single.release.Goals as goal

pub returns-in-Ok-clause-step : goal.returns-in-Ok-clause-step
returns-in-Ok-clause-step c s memory = release_well s c.args.handles.now _ c.args.words.now memory c.in-Ok.value c.in-Ok.ensures.value (c.let_go.ensures ∙ c.in-Ok.ensures.rest)

pub returns-in-Ok-clause-reserved : goal.returns-in-Ok-clause-reserved
returns-in-Ok-clause-reserved c free = reserved_one c.args.handles.now _ c.args.words.now (c.let_go.ensures ∙ c.in-Ok.ensures.rest) free

pub returns-in-Err-clause-step : goal.returns-in-Err-clause-step
returns-in-Err-clause-step c s memory = release_badly s c.args.handles.now _ c.args.words.now memory c.in-Err.kind c.in-Err.ensures.value c.in-Err.ensures.rest
