use Rattle.host_streams.proofs.Finding.{rest_is, found_byte, no_byte}
use Rattle.host_streams.proofs.look.find_byte.Goals as goal

pub returns-in-Some : goal.returns-in-Some
returns-in-Some c = found_byte c.args.byte c.args.at c.in-Some.k c.args.bytes.now c.requires.within c.requires.none (rw (rest_is c.args.at c.args.bytes.now) at c.in-Some.ensures)

pub returns-in-None : goal.returns-in-None
returns-in-None c = no_byte c.args.byte c.args.at c.args.bytes.now c.requires.within c.requires.none (rw (rest_is c.args.at c.args.bytes.now) at c.in-None.ensures)
