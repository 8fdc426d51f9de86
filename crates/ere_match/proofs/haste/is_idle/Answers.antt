use Rattle.std.proofs.Common.{◌∙◌}
use Rattle.std.proofs.lemmas.Bool.{eqb-true}
use Rattle.std.proofs.lemmas.Option.{get_or_from_slice_get}
use Rattle.ere_match.proofs.Tables.{item_is}
use Rattle.ere_match.proofs.haste.is_idle.Goals as goal

pub returns-then-index-eq1 : goal.returns-then-index-eq1
returns-then-index-eq1 c = λ e. record {
  row = c.index.result.now;
  is = item_is c.args.table.now.rows.items c.args.state c.index.result.now c.requires.state c.index.ensures;
  one = c.if-index-eq1.true;
  here = get_or_from_slice_get c.args.table.now.starts.items 0 c.index-then-index-eq1.result.now 0 (item_is c.args.table.now.starts.items 0 c.index-then-index-eq1.result.now c.requires.starts c.index-then-index-eq1.ensures) ∙ eqb-true c.index-then-index-eq1.result.now c.args.at e;
}
