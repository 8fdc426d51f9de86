use Rattle.std.proofs.Common.{sym, ap, ◌∙◌, false, get_or, None}
use Rattle.ere_match.proofs.Hastes.{filled_at, not_some}
use Rattle.ere_match.proofs.Tables.{item_is}
use Rattle.ere_match.proofs.haste.loop_of.Goals as goal

pub returns-in-Some : goal.returns-in-Some
returns-in-Some c = record {
  row = c.index.result.now;
  is = item_is c.args.table.now.rows.items c.args.state c.index.result.now c.requires.state c.index.ensures;
  none = not_some c.index.result.now.inside (sym c.is_some.ensures ∙ c.if-is_some.false);
  goes = c.if-to-state.true;
  filled = filled_at false c.args.table.now.moves.items c.args.state (get_or c.args.classes.now c.args.byte 0) c.index-2.result.now c.in-Some.to (item_is c.args.table.now.moves.items c.args.state c.index-2.result.now c.requires.wide c.index-2.ensures)
      (sym (c.at.ensures ∙ ap (λ i. get_or c.index-2.result.now.seeking (get_or c.args.classes.now i 0) None) c.from.ensures) ∙ c.in-Some.is);
}
