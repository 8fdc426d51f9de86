use Rattle.std.proofs.Common.{◌≡◌, ◌<◌, ◌^◌, get_or, None, Some, w32, arith, ap, subst, ◌∙◌}
use Rattle.std.proofs.lemmas.Int.{to_z_pos}
use Rattle.slab.specs.Slab.{Updates}
use Rattle.host_handles.proofs.TableLemmas.{get-table, table-insert, writes_slot}
use Rattle.host_handles.proofs.handles.Handles.put.Goals as goal

pub returns-clause-free : goal.returns-clause-free
returns-clause-free c =
    let key = c.insert_reserved-key.result in
    let same = c.make_room.ensures.same in
    let first : key ≡ c.make_room.new.slab.vacant_key = c.insert_reserved-key.ensures.key in
    let fits : key < 2 ^ 31 = omega (arith, first, ap (λ s. s.vacant_key) same, c.vacant_key.ensures.value, c.if-vacant_key-ge-MAX_SLOTS.false) in
    let vacant = subst (λ s. get_or s.slots key None ≡ None) same c.insert_reserved-key.ensures.was_vacant in
    rw (to_z_pos w32 key fits, ← c.self.view_is) (get-table c.self.inside.slab.slots key ∙ vacant)

pub returns-clause-stored : goal.returns-clause-stored
returns-clause-stored c =
    let key = c.insert_reserved-key.result in
    let same = c.make_room.ensures.same in
    let first : key ≡ c.make_room.new.slab.vacant_key = c.insert_reserved-key.ensures.key in
    let fits : key < 2 ^ 31 = omega (arith, first, ap (λ s. s.vacant_key) same, c.vacant_key.ensures.value, c.if-vacant_key-ge-MAX_SLOTS.false) in
    let after = c.insert_reserved-key.new.self in
    let updates = subst (λ s. Updates s after key (Some c.args.value)) same c.insert_reserved-key.ensures.updates in
    rw (to_z_pos w32 key fits, ← c.self.view_is) (table-insert key _ c.self.inside.slab.slots after.slots (writes_slot _ after key _ updates))
