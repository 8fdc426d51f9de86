use Rattle.std.proofs.Common.{arith, ap, refl, sym, ◌∙◌, ◌≡◌, subst, length, ◌<◌, ◌≤◌}
use Rattle.std.specs.Vec.{with_items}
use Rattle.std.proofs.Props.{props}
use Rattle.std.proofs.Math.Logic.{∥∥₁_elim}
use Rattle.std.proofs.lemmas.Option.{get_or_from_slice_get, slice_get_within}
use Rattle.ere_match.specs.Rows.{source}
use Rattle.ere_match.proofs.Tables.{begins_same, can_at, items_same, known_table, moves_same, rows_same, shifted_as, written}
use Rattle.ere_match.proofs.advance.enter.Goals as goal

pub index-requires : goal.index-requires
index-requires c = ∥∥₁_elim c.requires (search props) (λ e. (let w = slice_get_within c.args.table.now.rows.items c.args.to.to e.row e.is.is in omega (arith, w)))

pub shift-requires-clause-count : goal.shift-requires-clause-count
shift-requires-clause-count c = ∥∥₁_elim c.requires (search props) (λ e. omega (arith, e.small, c.deref_mut.ensures.len))

pub shift-requires-clause-fewer : goal.shift-requires-clause-fewer
shift-requires-clause-fewer c = ∥∥₁_elim c.requires (search props) (λ e. (let a = can_at c.args.table.now c.args.count c.args.to c.index.result.now c.index.ensures e in omega (arith, a.room, c.deref_mut.ensures.len)))

pub shift-requires-clause-room : goal.shift-requires-clause-room
shift-requires-clause-room c = ∥∥₁_elim c.requires (search props) (λ e. (let a = can_at c.args.table.now c.args.count c.args.to c.index.result.now c.index.ensures e in omega (arith, a.is.room, ap length c.deref.ensures.value)))

pub shift-requires-clause-increasing : goal.shift-requires-clause-increasing
shift-requires-clause-increasing c = record { up = λ i j less below. ∥∥₁_elim c.requires (search props) (λ e. (let a = can_at c.args.table.now c.args.count c.args.to c.index.result.now c.index.ensures e in subst (λ xs. source xs c.args.to i < source xs c.args.to j) (sym c.deref.ensures.value) (a.increasing.up i j less below))) }

pub shift-requires-clause-known : goal.shift-requires-clause-known
shift-requires-clause-known c = λ k less. ∥∥₁_elim c.requires (search props) (λ e. (let a = can_at c.args.table.now c.args.count c.args.to c.index.result.now c.index.ensures e in subst (λ xs. source xs c.args.to k ≤ c.args.count) (sym c.deref.ensures.value) (a.known k less)))

pub shift-requires-clause-same : goal.shift-requires-clause-same
shift-requires-clause-same c = λ k less. ∥∥₁_elim c.requires (search props) (λ e. (let a = can_at c.args.table.now c.args.count c.args.to c.index.result.now c.index.ensures e in subst (λ xs. source xs c.args.to k ≡ k) (sym c.deref.ensures.value) (a.is.same k less)))

pub returns-clause-entered : goal.returns-clause-entered
returns-clause-entered c = record {
  goes = refl;
  rows = refl;
  shifted = λ row is. shifted_as c.deref_mut.result.now c.args.table.now.starts.items c.shift.new.starts _ c.deref.result.now c.args.table.now.sources.items c.args.count c.args.at c.args.to c.index.result.now row c.deref_mut.ensures.value (written c.args.table.now.starts c.shift.new.starts (omega (arith, c.shift.ensures.len, c.deref_mut.ensures.len))) c.deref.ensures.value
      (c.index.ensures ∙ get_or_from_slice_get c.args.table.now.rows.items c.args.to.to row c.index.result.now is) c.shift.ensures.shifted;
}

pub returns-clause-table : goal.returns-clause-table
returns-clause-table c = λ all entry classes t.
    (let same = written c.args.table.now.starts c.shift.new.starts (omega (arith, c.shift.ensures.len, c.deref_mut.ensures.len)) in
    (known_table all entry classes c.args.table.now (record c.args.table.now { starts = with_items c.args.table.now.starts c.shift.new.starts }) t.set_len t.next_len t.wide (rows_same all _ _) (moves_same _) (items_same _) (omega (arith, ap length same, c.shift.ensures.len, c.deref_mut.ensures.len)) (begins_same c.args.table.now _ refl refl) t).table)
