use Rattle.host_streams.proofs.Given.{none_one}
use Rattle.host_streams.proofs.main_input.open_operand.Goals as goal

pub returns-in-Ok-clause-gives : goal.returns-in-Ok-clause-gives
returns-in-Ok-clause-gives g c = none_one g.W.World.did _ _ c.in-Ok.ensures.did

pub returns-in-Err-Failed-clause-gives : goal.returns-in-Err-Failed-clause-gives
returns-in-Err-Failed-clause-gives g c = none_one g.W.World.did _ _ c.in-Err-Failed.ensures.did

pub returns-in-Err-NoMemory-clause-gives : goal.returns-in-Err-NoMemory-clause-gives
returns-in-Err-NoMemory-clause-gives g c = none_one g.W.World.did _ _ c.in-Err-NoMemory.ensures.did
