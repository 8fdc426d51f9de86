use Rattle.host_format.proofs.Left.{one_replaced}
use Rattle.host_format.proofs.substitution.put_replaced.Goals as goal

pub returns-clause-ok : goal.returns-clause-ok
returns-clause-ok c = λ t a next.
    rw c.if-all.false (one_replaced t c.args.by.now c.args.text.now c.args.out.now c.put_place.new.out c.put.new.self c.args.first next c.put_place.ensures c.put.ensures)
