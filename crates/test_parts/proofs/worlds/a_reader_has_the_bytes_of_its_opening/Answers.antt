use Rattle.std.proofs.Common.{ap, ◌∙◌, ℕ, cond, refl, eq-eqb}
use Rattle.world_core.specs.Calls.{Kind, Reading}
use Rattle.world_core.specs.Memory.{open_for}
use Rattle.test_parts.proofs.worlds.a_reader_has_the_bytes_of_its_opening.Goals as goal

pub replaces-requires : goal.replaces-requires
replaces-requires c =
    ap (λ (f : ℕ → Kind). f c.in_ok-reader.reader) c.in_ok-reader.ensures.opened.opened
    ∙ ap (λ b. cond b Reading (open_for c.add-2.new.self c.in_ok-reader.reader)) (eq-eqb c.in_ok-reader.reader c.in_ok-reader.reader refl)
