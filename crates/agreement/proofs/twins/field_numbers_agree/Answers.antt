use Rattle.agreement.proofs.TwinsLemmas.Arrays.{refused_by, taken_by}
use Rattle.agreement.proofs.twins.field_numbers_agree.Goals as goal

pub returns-clause-taken : goal.returns-clause-taken
returns-clause-taken c = λ n k e. taken_by n n.number k e

pub returns-clause-refused : goal.returns-clause-refused
returns-clause-refused c = λ n fault e. refused_by n n.number fault e
