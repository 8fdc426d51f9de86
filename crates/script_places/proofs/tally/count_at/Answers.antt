use Rattle.std.proofs.Common.{ap, ◌∙◌, arith}
use Rattle.script_places.specs.Tallies.{one_more}
use Rattle.script_places.proofs.Tallying.{count_past, count_set}
use Rattle.script_places.proofs.tally.count_at.Goals as goal

pub returns-then-at-len : goal.returns-then-at-len
returns-then-at-len c = count_set c.args.row.now.items c.args.at c.saturating_add.result c.index.result.now (omega arith) (c.saturating_add.ensures ∙ ap one_more c.index.ensures)

pub returns-else-at-len : goal.returns-else-at-len
returns-else-at-len c = count_past c.args.row.now.items c.args.at (omega arith)
