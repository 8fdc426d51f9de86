use Rattle.std.proofs.Common.{◌≡◌, ℕ, subst}
use Rattle.world_core.specs.WorldState.{Outside}
use Rattle.sem_primitives.specs.SharedState.{Inner}
use Rattle.sem_primitives.specs.MainInput.{main_input}
use Rattle.sem_primitives.specs.Carrying.{carried_main}
use Rattle.agreement.specs.Input.MainInput.{Given, GivesNext}
use Rattle.agreement.proofs.InputLemmas.Given.{main_gives}
use Rattle.agreement.proofs.InputLemmas.Walked.{main_says}
use Rattle.agreement.proofs.input.main_input_is_walked.Goals as goal

given_of : (outside : Outside) (inner : Inner) (given : Given) (made : ℕ) → main_input outside inner ≡ given → carried_main outside inner ≡ made →
    GivesNext outside inner given made
given_of outside inner given made e f = subst (GivesNext outside inner given) f (subst (λ g. GivesNext outside inner g (carried_main outside inner))
    e (main_gives outside inner))

pub returns : goal.returns
returns c = λ outside inner given made. (λ h. given_of outside inner given made h.0 h.1, λ d. main_says outside d)
