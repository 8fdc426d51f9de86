use Rattle.host_bytes.proofs.Finds.{place_found, place_missing, some}
use Rattle.host_bytes.proofs.text.index_of.Goals as goal

pub returns-in-Some : goal.returns-in-Some
returns-in-Some c = place_found c.args.text.now c.args.wanted.now c.in-Some.at (some c.args.wanted.now c.is_empty.result c.is_empty.ensures c.if-is_empty.false) c.in-Some.ensures

pub returns-in-None : goal.returns-in-None
returns-in-None c = place_missing c.args.text.now c.args.wanted.now (some c.args.wanted.now c.is_empty.result c.is_empty.ensures c.if-is_empty.false) c.in-None.ensures
