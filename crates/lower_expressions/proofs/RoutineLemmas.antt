-- The parameters of a function, by its number.
use Rattle.std.proofs.Common.{◌≡◌, ℕ, zero, suc, ◌<◌, ◌≤◌, List, [], ◌∷◌, get_or, length, map, refl, ap, ◌∙◌, arith}
use Rattle.mid_program.specs.Mid as plain
use Rattle.mid_program.specs.Mid.{Kind, parameters_at}
use Rattle.mid_program.specs.View.{view_kind, view_routine}
use Rattle.mid_program.specs.declared.program.Routine.{Routine}

there : (rs : List Routine) (f : ℕ) (d : Routine) → f < length rs → map view_kind (get_or rs f d).parameters.items ≡ parameters_at (map (λ (r : plain.Routine). r.parameters) (map view_routine rs)) f
there [] f d lt = absurd (omega arith)
there (r ∷ rs) zero d lt = refl
there (r ∷ rs) (suc f) d lt = there rs f d (omega arith)

pub parameters_are : (rs : List Routine) (f : ℕ) (r : Routine) → f < length rs → r ≡ get_or rs f r → map view_kind r.parameters.items ≡ parameters_at (map (λ (r : plain.Routine). r.parameters) (map view_routine rs)) f
parameters_are rs f r lt e = ap (λ (x : Routine). map view_kind x.parameters.items) e ∙ there rs f r lt

pub no_parameters : (rs : List Routine) (f : ℕ) → length rs ≤ f → ◌≡◌ {A = List Kind} [] (parameters_at (map (λ (r : plain.Routine). r.parameters) (map view_routine rs)) f)
no_parameters [] f le = refl
no_parameters (r ∷ rs) zero le = absurd (omega arith)
no_parameters (r ∷ rs) (suc f) le = no_parameters rs f (omega arith)
