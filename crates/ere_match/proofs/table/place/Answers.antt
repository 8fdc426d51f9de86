use Rattle.std.proofs.Common.{arith, ap, refl, sym, ◌∙◌, ◌+◌, length, get_or, Vec, ℕ, Global}
use Rattle.ere_match.proofs.Tables.{begins_same, closed_numbers, known_table, known_then, moves_same, placed_all, rows_same}
use Rattle.ere_match.proofs.table.place.Goals as goal

pub returns-in_err-ranks-clause-table : goal.returns-in_err-ranks-clause-table
returns-in_err-ranks-clause-table c = λ entry classes t. known_table c.args.nodes.now entry classes c.args.table.now _ t.set_len t.next_len t.wide (rows_same c.args.nodes.now _ _) (moves_same _) c.rank_threads.ensures.same (omega arith) (begins_same c.args.table.now _ refl refl) t

pub returns-in_err-widen-clause-table : goal.returns-in_err-widen-clause-table
returns-in_err-widen-clause-table c = λ entry classes t. known_table c.args.nodes.now entry classes c.args.table.now _ t.set_len t.next_len t.wide (rows_same c.args.nodes.now _ _) (moves_same _) c.rank_threads.ensures.same c.widen.ensures.same.longer (begins_same c.args.table.now _ refl refl) t

pub row_of-requires-clause-closed : goal.row_of-requires-clause-closed
row_of-requires-clause-closed c = closed_numbers c.args.nodes.now (length c.args.table.now.sources.items) (length c.deref_mut.result.now) c.in_ok-ranks.count c.args.first c.deref.result.now c.args.table.now.next.items c.rank_threads.new.sources.items c.in_ok-ranks.ranks.items c.deref.ensures.value c.in_ok-ranks.ensures.numbered c.requires.closed

pub returns-in_err-to-clause-table : goal.returns-in_err-to-clause-table
returns-in_err-to-clause-table c = λ entry classes t.
    (let k = known_table c.args.nodes.now entry classes c.args.table.now (record c.args.table.now { sources = c.rank_threads.new.sources; starts = c.widen.new.starts }) t.set_len t.next_len t.wide (rows_same c.args.nodes.now _ _) (moves_same _) c.rank_threads.ensures.same c.widen.ensures.same.longer (begins_same c.args.table.now _ refl refl) t in
    known_then c.args.nodes.now entry classes c.args.table.now _ c.row_of.new.table k (c.row_of.ensures.table entry classes k.table))

pub returns-clause-placed : goal.returns-clause-placed
returns-clause-placed c =
    placed_all (length c.args.table.now.sources.items) c.args.bound (length c.deref_mut.result.now) c.in_ok-ranks.count c.args.first c.deref.result.now c.args.table.now.next.items c.rank_threads.new.sources.items c.in_ok-ranks.ranks.items _ _
    (omega (arith, c.in_ok-used.ensures.len, c.deref_mut.ensures.len)) (omega (arith, c.len-start.ensures)) (ap (λ (v : Vec ℕ Global). v.items) c.row_of.ensures.sources) c.deref.ensures.value c.in_ok-ranks.ensures.numbered c.in_ok-to.ensures.row c.kept.ensures.most
    (λ k less. ap (λ xs. get_or xs (c.len-start.result + k) 0) (sym c.deref-2.ensures.value) ∙ c.kept.ensures.same k less)

pub returns-clause-table : goal.returns-clause-table
returns-clause-table c = λ entry classes t.
    (let k = known_table c.args.nodes.now entry classes c.args.table.now (record c.args.table.now { sources = c.rank_threads.new.sources; starts = c.widen.new.starts }) t.set_len t.next_len t.wide (rows_same c.args.nodes.now _ _) (moves_same _) c.rank_threads.ensures.same c.widen.ensures.same.longer (begins_same c.args.table.now _ refl refl) t in
    known_then c.args.nodes.now entry classes c.args.table.now _ c.row_of.new.table k (c.row_of.ensures.table entry classes k.table))
