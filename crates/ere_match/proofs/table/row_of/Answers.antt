use Rattle.std.proofs.Common.{arith, ap, subst, sym, refl, ◌≤◌, List, length}
use Rattle.ere_match.specs.Rows.{AddsRows, SpecRow}
use Rattle.ere_match.proofs.Tables.{begins_same, written_len, items_same, known_table, rows_more, rows_same, slice_end}
use Rattle.ere_match.proofs.table.row_of.Goals as goal

pub returns-in_err-widen_moves-clause-table : goal.returns-in_err-widen_moves-clause-table
returns-in_err-widen_moves-clause-table c = λ entry classes t.
    known_table c.args.nodes.now entry classes c.args.table.now _ (written_len c.args.table.now.set c.new_row-row.new.set c.args.nodes.now t.set_len c.new_row-row.ensures.len) t.next_len (omega (arith, t.wide, c.widen_moves.ensures.none.longer))
    (rows_same c.args.nodes.now _ _) c.widen_moves.ensures.none (items_same _) (omega arith) (begins_same c.args.table.now _ refl refl) t

pub returns-in_err-push-clause-table : goal.returns-in_err-push-clause-table
returns-in_err-push-clause-table c = λ entry classes t.
    (let same = c.in_err-push.ensures.items in
    let wide : length c.push.new.self.items ≤ length c.widen_moves.new.moves.items = omega (arith, t.wide, ap length same, c.widen_moves.ensures.none.longer) in
    known_table c.args.nodes.now entry classes c.args.table.now _ (written_len c.args.table.now.set c.new_row-row.new.set c.args.nodes.now t.set_len c.new_row-row.ensures.len) t.next_len wide
    (subst (λ (xs : List SpecRow). AddsRows c.args.nodes.now c.args.table.now.starts.items c.args.table.now.rows.items xs) (sym same) (rows_same c.args.nodes.now _ _)) c.widen_moves.ensures.none (items_same _) (omega arith) (begins_same c.args.table.now _ refl refl) t)

pub returns-clause-row : goal.returns-clause-row
returns-clause-row c = record {
  row = c.new_row-row.result;
  is = slice_end c.args.table.now.rows.items c.push.new.self.items c.new_row-row.result c.len-place.result (omega (arith, c.len-place.ensures)) c.in_ok-push.ensures.items;
  same_ranks = c.new_row-row.ensures.ranks;
  same_count = c.new_row-row.ensures.count;
  same_first = c.new_row-row.ensures.first;
}

pub returns-clause-table : goal.returns-clause-table
returns-clause-table c = λ entry classes t.
    (let wide : length c.push.new.self.items ≤ length c.widen_moves.new.moves.items = omega (arith, c.in_ok-push.ensures.len, c.in_ok-widen_moves.ensures.ok, c.len-place.ensures) in
    known_table c.args.nodes.now entry classes c.args.table.now _ (written_len c.args.table.now.set c.new_row-row.new.set c.args.nodes.now t.set_len c.new_row-row.ensures.len) t.next_len wide
    (rows_more c.args.nodes.now c.args.table.now.starts.items c.args.table.now.rows.items c.push.new.self.items c.new_row-row.result c.in_ok-push.ensures.items (record { is = c.new_row-row.ensures.row; room = omega (arith, c.requires.starts, c.new_row-row.ensures.count) }))
    c.widen_moves.ensures.none (items_same _) (omega arith) (begins_same c.args.table.now _ refl refl) t)
