use Rattle.std.proofs.Common.{◌<◌, ◌^◌, w32, arith, ◌∙◌}
use Rattle.std.proofs.lemmas.Int.{to_z_pos}
use Rattle.host_handles.proofs.TableLemmas.{get-table, table-insert, writes_slot}
use Rattle.host_handles.proofs.numbered.Numbered.add.Goals as goal

pub returns-clause-free : goal.returns-clause-free
returns-clause-free g c =
    let fits : c.in-Ok.key < 2 ^ 31 = omega (arith, c.in-Ok.ensures.key, c.vacant_key.ensures.value, c.if-vacant_key-ge-MAX_SLOTS.false) in
    rw (to_z_pos w32 c.in-Ok.key fits, ← c.self.view_is) (get-table c.self.inside.slab.slots c.in-Ok.key ∙ c.in-Ok.ensures.was_vacant)

pub returns-clause-added : goal.returns-clause-added
returns-clause-added g c =
    let fits : c.in-Ok.key < 2 ^ 31 = omega (arith, c.in-Ok.ensures.key, c.vacant_key.ensures.value, c.if-vacant_key-ge-MAX_SLOTS.false) in
    rw (to_z_pos w32 c.in-Ok.key fits, ← c.self.view_is)
    (table-insert c.in-Ok.key _ c.self.inside.slab.slots c.insert.new.self.slots (writes_slot c.self.inside.slab c.insert.new.self c.in-Ok.key _ c.in-Ok.ensures.updates))
