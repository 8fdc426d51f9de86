use Rattle.std.proofs.Common.{sym, ◌∙◌}
use Rattle.ere_match.proofs.Tables.{item_is, same_list, same_bool}
use Rattle.ere_match.proofs.table.find.Goals as goal

pub returns-then-eq : goal.returns-then-eq
returns-then-eq c = record {
  row = c.index-rows-place.result;
  is = item_is c.args.rows.now c.loop-place.place c.index-rows-place.result c.loop-place-test.true c.index-rows-place.is;
  same_ranks = sym c.as_slice.ensures.value ∙ same_list c.as_slice.result.now c.args.ranks.now (sym c.if-eq.ensures);
  same_count = c.if-row-count.true;
  same_first = same_bool c.index-rows-place.result.first c.args.first c.if-row-first.true;
}
