use Rattle.std.proofs.Common.{◌+◌, ◌*◌}
use Rattle.mid_program.specs.ViewCode.{view}
use Rattle.lower_expressions.proofs.Weights.{weight}
use Rattle.lowering.proofs.returning.+returned.Given as goal

abbrev pub decreases-returned : goal.decreases-returned
decreases-returned l = 3 * weight (view l.code.now)

abbrev pub decreases-quickly_returned : goal.decreases-quickly_returned
decreases-quickly_returned l = 3 * (weight (view l.test.now) + (weight (view l.yes.now) + weight (view l.no.now))) + 1

abbrev pub decreases-either_returned : goal.decreases-either_returned
decreases-either_returned l = 3 * (weight (view l.test.now) + (weight (view l.yes.now) + weight (view l.no.now))) + 1

abbrev pub decreases-chosen_returned : goal.decreases-chosen_returned
decreases-chosen_returned l = 3 * (weight (view l.test.now) + (weight (view l.yes.now) + weight (view l.no.now))) + 2
