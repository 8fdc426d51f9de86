use Rattle.std.proofs.Common.{subst}
use Rattle.sem_primitives.specs.Carrying.{carried_from}
use Rattle.agreement.specs.Input.Assignments.{Makes}
use Rattle.agreement.proofs.InputLemmas.Made.{made, makes}
use Rattle.agreement.proofs.input.assignments_are_made.Goals as goal

pub returns : goal.returns
returns c = λ inner answer count. (
  λ h. subst (Makes inner.assigns inner answer) h.1 (subst (λ a. Makes inner.assigns inner a (carried_from inner.assigns inner))
      h.0 (makes inner.assigns inner)),
  λ d. made d,
)
