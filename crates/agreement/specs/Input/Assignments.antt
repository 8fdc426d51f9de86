-- The assignments of the command line before BEGIN (POSIX.1-2017 awk, "OPTIONS", -v), as one walk over those that are left.
use Rattle.std.specs.Prelude.{◌≡◌, ℕ, suc, true, false, List, [], ◌∷◌, Result, Ok, Err}
use Rattle.awk_values.specs.declared.fault.Fault.{Fault}
use Rattle.sem_primitives.specs.SharedState.{Inner}
use Rattle.sem_primitives.specs.Assignments.{assigned}
use Rattle.sem_primitives.specs.declared.answers.AssignAnswer.{AssignAnswer}
use Rattle.sem_primitives.specs.declared.answers.AssignAnswer.TheVariants.{Pending, NoneLeft}

abbrev pub Answer : Type 0
Answer = Result (Inner × AssignAnswer) Fault

-- what is answered where these are left, and how many are carried out here
pub data Makes : List (List ℕ × List ℕ) → Inner → Answer → (made : ℕ) → Type 0 where
  no_more : {inner : Inner} → Makes [] inner (Ok (record inner { assigns = [] }, NoneLeft)) 0
  -- one that is not allowed is counted too
  not_allowed : {rest : List (List ℕ × List ℕ)} {inner : Inner} {fault : Fault} (pair : List ℕ × List ℕ) →
      assigned pair.0 pair.1 (record inner { assigns = rest }) ≡ Err fault → Makes (pair ∷ rest) inner (Err fault) 1
  -- one to a variable of the script is left to the script
  left_to_script : {rest : List (List ℕ × List ℕ)} {inner : Inner} (pair : List ℕ × List ℕ) (after : Inner) →
      assigned pair.0 pair.1 (record inner { assigns = rest }) ≡ Ok (after, true) → Makes (pair ∷ rest) inner (Ok (after, Pending)) 0
  -- any other is carried out here
  carried_out : {rest : List (List ℕ × List ℕ)} {inner : Inner} {answer : Answer} {made : ℕ} (pair : List ℕ × List ℕ) (after : Inner) →
      assigned pair.0 pair.1 (record inner { assigns = rest }) ≡ Ok (after, false) → Makes rest after answer made →
      Makes (pair ∷ rest) inner answer (suc made)
