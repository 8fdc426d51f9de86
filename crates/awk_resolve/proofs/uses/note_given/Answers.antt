use Rattle.std.proofs.Common.{refl}
use Rattle.awk_resolve.specs.ViewNames.{view_variable}
use Rattle.awk_resolve.proofs.Noted.{given_none, given_some}
use Rattle.awk_resolve.proofs.uses.note_given.Goals as goal

pub returns-in-Some : goal.returns-in-Some
returns-in-Some c =
    let first = c.number_of-given.ensures in
    let second = c.number_of-parameter.ensures in
    rw c.in-Some.is (given_some (view_variable c.args.given) (view_variable c.in-Some.parameter) c.number_of-given.result c.number_of-parameter.result first.added first.number second.added second.number refl refl c.push.ensures.added)

pub returns-in-None : goal.returns-in-None
returns-in-None c = rw c.in-None.is (given_none (view_variable c.args.given) c.number_of-given.ensures.added refl refl refl)
