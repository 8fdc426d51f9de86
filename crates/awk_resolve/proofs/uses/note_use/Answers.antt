use Rattle.std.proofs.Common.{refl}
use Rattle.awk_resolve.specs.ViewNames.{view_variable}
use Rattle.awk_resolve.proofs.Noted.{used_array, used_scalar}
use Rattle.awk_resolve.proofs.uses.note_use.Goals as goal

pub returns-in-Array : goal.returns-in-Array
returns-in-Array c =
    let number = c.number_of-number.ensures in
    rw c.in-Array.is (used_array (view_variable c.args.variable) c.number_of-number.result number.added number.number c.push.ensures.added refl refl)

pub returns-in-Scalar : goal.returns-in-Scalar
returns-in-Scalar c =
    let number = c.number_of-number.ensures in
    rw c.in-Scalar.is (used_scalar (view_variable c.args.variable) c.number_of-number.result number.added number.number refl c.push-in-Scalar.ensures.added refl)
