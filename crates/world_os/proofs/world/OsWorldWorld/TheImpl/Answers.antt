use Rattle.world_os.proofs.world.OsWorldWorld.TheImpl.Goals as goal

-- what is told of the state rests on nothing: this world tells none
pub open_read-tells : goal.open_read-tells
open_read-tells g c = record { opened = c.ensures.opened; not_opened = c.ensures.not_opened; count = c.ensures.count; did = c.ensures.did; told = λ none. absurd none }

pub open_write-tells : goal.open_write-tells
open_write-tells g c = record { opened = c.ensures.opened; not_opened = c.ensures.not_opened; count = c.ensures.count; did = c.ensures.did; told = λ none. absurd none }

pub close-tells : goal.close-tells
close-tells g c = record { kinds = c.ensures.kinds; count = c.ensures.count; did = c.ensures.did; told = λ none. absurd none }

pub read-tells : goal.read-tells
read-tells g c = record { within = c.ensures.within; kinds = c.ensures.kinds; count = c.ensures.count; did = c.ensures.did; told = λ none. absurd none }

pub write-tells : goal.write-tells
write-tells g c = record { within = c.ensures.within; some = c.ensures.some; kinds = c.ensures.kinds; count = c.ensures.count; did = c.ensures.did; told = λ none. absurd none }
