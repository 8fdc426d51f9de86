use Rattle.std.proofs.Common.{arith, refl, ap, sym, ◌∙◌, subst, length, get_or, ℕ, List, Option}
use Rattle.std.proofs.Props.{props}
use Rattle.std.proofs.Math.Logic.{∥∥₁_elim, ∥∥₁_map}
use Rattle.std.proofs.lemmas.Option.{slice_get_within}
use Rattle.std.specs.Vec.{with_items}
use Rattle.ere_match.specs.Threads.{AreThreads, Holds}
use Rattle.ere_match.specs.Rows.{numbers, spread}
use Rattle.ere_match.proofs.Places.{read_best, read_few, read_len, read_near, read_threads}
use Rattle.ere_match.proofs.Tables.{begins_same, items_same, known_table, moves_same, rows_same, written, written_len}
use Rattle.ere_match.proofs.search.go_on.Goals as goal

pub index-row-requires : goal.index-row-requires
index-row-requires c = ∥∥₁_elim c.requires.search (search props) (λ s. (let w = slice_get_within c.args.table.now.rows.items c.args.state s.row s.is in omega (arith, w)))

pub unload-requires-clause-len : goal.unload-requires-clause-len
unload-requires-clause-len c = ∥∥₁_elim c.requires.search (search props) (λ s. ∥∥₁_elim c.requires.table (search props) (λ t.
    (let x = read_len c.args.nodes.now c.args.text.now c.args.entry c.args.from c.args.at c.args.state c.args.best c.args.table.now c.index-row.result.now c.index-row.ensures s in omega (arith, x, t.set_len, c.deref_mut.ensures.len, ap length c.deref.ensures.value))))

pub unload-requires-clause-few : goal.unload-requires-clause-few
unload-requires-clause-few c = λ id n h. ∥∥₁_elim c.requires.search (search props) (λ s.
    (let x = read_few c.args.nodes.now c.args.text.now c.args.entry c.args.from c.args.at c.args.state c.args.best c.args.table.now c.index-row.result.now c.index-row.ensures s id n (subst (λ (xs : List ℕ). Holds (numbers xs) id n) c.deref.ensures.value h) in omega (arith, x, ap length c.deref-2.ensures.value)))

pub scan_on-requires-clause-set_len : goal.scan_on-requires-clause-set_len
scan_on-requires-clause-set_len c = ∥∥₁_elim c.requires.table (search props) (λ t.
    omega (arith, t.set_len, c.deref_mut.ensures.len, c.unload.auto.set, c.deref_mut-2.ensures.len, ap length (written c.args.table.now.set c.unload.new.set (omega (arith, c.unload.auto.set, c.deref_mut.ensures.len)))))

pub scan_on-requires-clause-next_len : goal.scan_on-requires-clause-next_len
scan_on-requires-clause-next_len c = ∥∥₁_elim c.requires.table (search props) (λ t. omega (arith, t.next_len, c.deref_mut-3.ensures.len))

pub scan_on-requires-clause-starts : goal.scan_on-requires-clause-starts
scan_on-requires-clause-starts c = λ k n h. ∥∥₁_elim c.requires.search (search props) (λ s.
    read_near c.args.nodes.now c.args.text.now c.args.entry c.args.from c.args.at c.args.state c.args.best c.args.table.now c.index-row.result.now c.index-row.ensures s k n (subst (λ (u : List (Option ℕ)). Holds u k n)
    (c.deref_mut-2.ensures.value ∙ written c.args.table.now.set c.unload.new.set (omega (arith, c.unload.auto.set, c.deref_mut.ensures.len)) ∙ c.unload.ensures ∙ ap (λ (xs : List ℕ). spread (λ i. get_or xs i 0) (numbers c.deref.result.now)) c.deref-2.ensures.value ∙ ap (λ (xs : List ℕ). spread (λ i. get_or c.args.table.now.starts.items i 0) (numbers xs)) c.deref.ensures.value) h))

pub returns-clause-best : goal.returns-clause-best
returns-clause-best c = ∥∥₁_map c.requires.search (λ s.
    (let is = c.deref_mut-2.ensures.value ∙ written c.args.table.now.set c.unload.new.set (omega (arith, c.unload.auto.set, c.deref_mut.ensures.len)) ∙ c.unload.ensures ∙ ap (λ (xs : List ℕ). spread (λ i. get_or xs i 0) (numbers c.deref.result.now)) c.deref-2.ensures.value ∙ ap (λ (xs : List ℕ). spread (λ i. get_or c.args.table.now.starts.items i 0) (numbers xs)) c.deref.ensures.value in
    c.scan_on.ensures c.args.from c.requires.begun
    (subst (λ (u : List (Option ℕ)). AreThreads c.args.nodes.now c.args.text.now c.args.entry c.args.from c.args.at c.args.at u c.args.best) (sym is) (read_threads c.args.nodes.now c.args.text.now c.args.entry c.args.from c.args.at c.args.state c.args.best c.args.table.now c.index-row.result.now c.index-row.ensures s))
    (read_best c.args.nodes.now c.args.text.now c.args.entry c.args.from c.args.at c.args.state c.args.best c.args.table.now c.index-row.result.now c.index-row.ensures s)))

pub returns-clause-table : goal.returns-clause-table
returns-clause-table c = ∥∥₁_map c.requires.table (λ t.
    (let set_len = written_len c.args.table.now.set c.unload.new.set c.args.nodes.now t.set_len (omega (arith, c.unload.auto.set, c.deref_mut.ensures.len, t.set_len)) in
    (known_table c.args.nodes.now c.args.entry c.args.classes.now c.args.table.now (record c.args.table.now { set = with_items (with_items c.args.table.now.set c.unload.new.set) c.scan_on.new.set; next = with_items c.args.table.now.next c.scan_on.new.next })
    (written_len (with_items c.args.table.now.set c.unload.new.set) c.scan_on.new.set c.args.nodes.now set_len (omega (arith, c.scan_on.auto.set, c.deref_mut-2.ensures.len, set_len)))
    (written_len c.args.table.now.next c.scan_on.new.next c.args.nodes.now t.next_len (omega (arith, c.scan_on.auto.next, c.deref_mut-3.ensures.len, t.next_len)))
    t.wide (rows_same _ _ _) (moves_same _) (items_same _) (omega arith) (begins_same c.args.table.now _ refl refl) t).table))
