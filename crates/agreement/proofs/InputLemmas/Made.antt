-- The assignments before BEGIN: what is computed is made, and what is made is computed.
use Rattle.std.proofs.Common.{◌≡◌, ℕ, suc, Bool, true, false, List, [], ◌∷◌, Result, Ok, Err, refl, ap, ◌∙◌}
use Rattle.awk_values.specs.declared.fault.Fault.{Fault}
use Rattle.sem_primitives.specs.SharedState.{Inner, ◌>>=◌}
use Rattle.sem_primitives.specs.Assignments.{assigned}
use Rattle.sem_primitives.specs.MainInput.{start_by, start_from}
use Rattle.sem_primitives.specs.Carrying.{carried_from, counted_by}
use Rattle.agreement.specs.Input.Assignments.{Answer, Makes, no_more, not_allowed, left_to_script, carried_out}

pub makes : (pairs : List (List ℕ × List ℕ)) (inner : Inner) → Makes pairs inner (start_from pairs inner) (carried_from pairs inner)
makes [] inner = no_more
makes (pair ∷ rest) inner = by (λ after. makes rest after) (assigned pair.0 pair.1 (record inner { assigns = rest })) refl
  where
    by : ((after : Inner) → Makes rest after (start_from rest after) (carried_from rest after)) → (r : Result (Inner × Bool) Fault) →
        assigned pair.0 pair.1 (record inner { assigns = rest }) ≡ r →
        Makes (pair ∷ rest) inner (r >>= λ x. start_by (start_from rest) x) (counted_by (carried_from rest) r)
    by go (Ok (after, true)) e = left_to_script pair after e
    by go (Ok (after, false)) e = carried_out pair after e (go after)
    by go (Err fault) e = not_allowed pair e

one_made : (pair : List ℕ × List ℕ) (rest : List (List ℕ × List ℕ)) (inner : Inner) (r : Result (Inner × Bool) Fault) →
    assigned pair.0 pair.1 (record inner { assigns = rest }) ≡ r →
    (start_from (pair ∷ rest) inner ≡ (r >>= λ x. start_by (start_from rest) x)) × (carried_from (pair ∷ rest) inner ≡ counted_by (carried_from rest) r)
one_made pair rest inner r e = (ap (λ z. z >>= λ x. start_by (start_from rest) x) e, ap (counted_by (carried_from rest)) e)

pub made : {pairs : List (List ℕ × List ℕ)} {inner : Inner} {answer : Answer} {count : ℕ} → Makes pairs inner answer count →
    (start_from pairs inner ≡ answer) × (carried_from pairs inner ≡ count)
made no_more = (refl, refl)
made (not_allowed {rest} {inner} {fault} pair e) = one_made pair rest inner (Err fault) e
made (left_to_script {rest} {inner} pair after e) = one_made pair rest inner (Ok (after, true)) e
made (carried_out {rest} {inner} pair after e d) =
    let x = one_made pair rest inner (Ok (after, false)) e in
    let y = made d in
    (x.0 ∙ y.0, x.1 ∙ ap suc y.1)
