use Rattle.std.proofs.Common.{◌≡◌, ℤ, Ok, subst}
use Rattle.std.specs.Int.{w64}
use Rattle.std.proofs.lemmas.Int.{to_z-of_z}
use Rattle.sem_primitives.specs.FieldMeaning.{field_number}
use Rattle.host_fields.proofs.Viewing.{field_read_of, field_there}
use Rattle.host_fields.proofs.record.Record.field.Goals as goal

pub returns-clause-ok : goal.returns-clause-ok
returns-clause-ok c =
    let number = c.in_ok-number.number in
    let is = subst (λ (z : ℤ). Ok number ≡ field_number z) (to_z-of_z w64 c.args.n c.ranges.n) c.in_ok-number.ensures in
    field_read_of c.args.self.now c.args.n number c.own_or_part.result is c.if-number-eq0.false c.own_or_part.ensures

pub returns-clause-missing : goal.returns-clause-missing
returns-clause-missing c =
    let number = c.in_ok-number.number in
    let is = subst (λ (z : ℤ). Ok number ≡ field_number z) (to_z-of_z w64 c.args.n c.ranges.n) c.in_ok-number.ensures in
    field_there c.args.self.now c.args.n number c.own_or_part.result is c.if-number-eq0.false c.own_or_part.ensures
