use Rattle.std.specs.List.{Contains}
use Rattle.agreement.proofs.QuietLemmas.Written.{assigned}
use Rattle.agreement.proofs.quiet.assignments_are_sums.Goals as goal

pub returns : goal.returns
returns c = λ names texts scope gs ps x t. assigned (Contains names) gs ps texts scope x t
