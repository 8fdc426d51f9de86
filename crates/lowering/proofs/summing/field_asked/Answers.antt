use Rattle.std.proofs.Common.{rules}
use Rattle.std.proofs.lemmas.Int.{to_z-of_z}
use Rattle.std.specs.Int.{w64}
use Rattle.std.specs.Prelude.{FitsSigned}
use Rattle.lower_pieces.proofs.Appended.{◌⨟◌}
use Rattle.lowering.proofs.summing.field_asked.Goals as goal

pub returns : goal.returns
returns c =
    let fits : FitsSigned w64 c.args.number = search rules in
    λ k. (rw (c.number.ensures, c.cast_unsigned.ensures, to_z-of_z w64 c.args.number fits, c.row_call.ensures, c.row_call-2.ensures) at c.emit_all.ensures) k ⨟ c.name_numbered.ensures _
