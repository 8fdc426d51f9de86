use Rattle.std.proofs.Common.{ap, ◌∙◌, ℕ, arith}
use Rattle.std.specs.declared.vec.Vec.{Vec}
use Rattle.std.specs.declared.alloc.Global.{Global}
use Rattle.script_places.specs.Tallies.{more_at}
use Rattle.script_places.proofs.Tallying.{count_in_past, count_in_set}
use Rattle.script_places.proofs.tally.count_in.Goals as goal

pub returns-then-function-len : goal.returns-then-function-len
returns-then-function-len c =
    count_in_set c.args.rows.now.items c.args.function c.args.at c.count_at.new.row c.index_mut.result.now (omega arith)
    (c.count_at.ensures ∙ ap (λ (v : Vec ℕ Global). more_at v.items c.args.at) c.index_mut.ensures.value)

pub returns-else-function-len : goal.returns-else-function-len
returns-else-function-len c = count_in_past c.args.rows.now.items c.args.function c.args.at (omega arith)
