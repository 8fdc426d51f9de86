use Rattle.std.proofs.Common.{arith, refl, ap, sym, ◌∙◌, Some, None, subst, true}
use Rattle.std.proofs.Props.{props}
use Rattle.std.proofs.Math.Logic.{∥∥₁_elim, ∥∥₁_prop}
use Rattle.std.proofs.lemmas.Option.{get_or_from_slice_get, slice_get_within}
use Rattle.ere_match.specs.Threads.{better_of}
use Rattle.ere_match.specs.Rows.{IsLatest, started}
use Rattle.ere_match.proofs.Places.{early_moves, inside_room, search_moves}
use Rattle.ere_match.proofs.Tables.{item_is}
use Rattle.ere_match.proofs.search.go_behind.Goals as goal

pub index-start-requires : goal.index-start-requires
index-start-requires c = ∥∥₁_elim c.requires.search (search props) (λ s.
    (let x = inside_room c.args.nodes.now c.args.text.now c.args.entry c.args.from c.args.at c.args.state None c.args.table.now s.row (sym (get_or_from_slice_get c.args.table.now.rows.items c.args.state s.row s.row s.is)) s c.args.number (c.requires.accepts s.row s.is) in omega (arith, x)))

pub advance-requires-clause-state : goal.advance-requires-clause-state
advance-requires-clause-state c = ∥∥₁_elim c.requires.search (search props) (λ s. slice_get_within c.args.table.now.rows.items c.args.state s.row s.is)

pub follow-requires-clause-search : goal.follow-requires-clause-search
follow-requires-clause-search c = ∥∥₁_elim c.requires.search ∥∥₁_prop (λ s.
    (let read = sym (get_or_from_slice_get c.args.table.now.rows.items c.args.state s.row s.row s.is) in
    let room = inside_room c.args.nodes.now c.args.text.now c.args.entry c.args.from c.args.at c.args.state None c.args.table.now s.row read s c.args.number (c.requires.accepts s.row s.is) in
    let start = get_or_from_slice_get c.args.table.now.starts.items c.args.number c.index-start.result.now 0 (item_is c.args.table.now.starts.items c.args.number c.index-start.result.now room c.index-start.ensures) in
    search_moves c.args.nodes.now c.args.text.now c.args.entry c.args.from c.args.at c.args.state None c.args.table.now s.row read c.in_ok-to.to.0 true (Some (c.index-start.result.now, c.args.at)) c.args.classes.now c.advance.new.table c.requires.begun c.requires.inside
    (ap (λ n. Some (n, c.args.at)) (sym start) ∙ sym (ap (λ o. better_of (started c.args.table.now.starts.items o) c.args.at None) (c.requires.accepts s.row s.is))) refl c.advance.ensures.table c.in_ok-to.ensures.moved c.requires.search))

pub follow-requires-clause-early : goal.follow-requires-clause-early
follow-requires-clause-early c = λ row is id k holds. ∥∥₁_elim c.requires.search (search props) (λ s.
    (let read = sym (get_or_from_slice_get c.args.table.now.rows.items c.args.state s.row s.row s.is) in
    let accepts = c.requires.accepts s.row s.is in
    let room = inside_room c.args.nodes.now c.args.text.now c.args.entry c.args.from c.args.at c.args.state None c.args.table.now s.row read s c.args.number accepts in
    let start = get_or_from_slice_get c.args.table.now.starts.items c.args.number c.index-start.result.now 0 (item_is c.args.table.now.starts.items c.args.number c.index-start.result.now room c.index-start.ensures) in
    early_moves c.args.nodes.now c.args.text.now c.args.entry c.args.from c.args.at c.args.state None c.args.table.now s.row read c.in_ok-to.to.0 c.index-start.result.now c.args.classes.now c.advance.new.table
    (subst (λ o. IsLatest s.row c.args.table.now.starts.items o c.index-start.result.now) (sym accepts) (sym start)) c.advance.ensures.table c.in_ok-to.ensures.moved c.requires.search row is id k holds))
