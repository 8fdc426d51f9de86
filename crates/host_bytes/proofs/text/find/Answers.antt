use Rattle.host_bytes.proofs.Finds.{byte_found}
use Rattle.host_bytes.proofs.text.find.Goals as goal

pub returns-then-wanted-eq1 : goal.returns-then-wanted-eq1
returns-then-wanted-eq1 c = byte_found c.args.text.now c.args.wanted.now c.memchr.result c.if-wanted-eq1.true c.memchr.ensures
