-- Where the code finds a variable.
use Rattle.std.proofs.Common.{◌≡◌, ℕ, suc, ◌+◌, Bool, true, false, not, List, [], ◌∷◌, length, Some, None, refl, ap, ◌∙◌, cond, if◌then◌else◌, arith}
use Rattle.std.specs.List.{position_or_len}
use Rattle.awk_resolve.specs.Marked.{place}
use Rattle.awk_resolve.specs.ViewNames.{view_variable, view_variables}
use Rattle.awk_resolve.specs.declared.scopes.Variable.{Variable}
use Rattle.awk_resolve.specs.contracts.scopes.VariablePartialEq.TheImpl.{eq-value}
use Rattle.awk_resolve.proofs.Names.{same_is}

step : (b : Bool) (n m : ℕ) → n ≡ m → cond (not b) (1 + n) 0 ≡ (if b then 0 else suc m)
step true n m e = refl
step false n m e = omega (arith, e)

pub place_is : (v : Variable) (vs : List Variable) → position_or_len (eq-value.it v) vs ≡ place (view_variables vs) (view_variable v)
place_is v [] = refl
place_is v (w ∷ vs) = step (eq-value.it v w) (position_or_len (eq-value.it v) vs) (place (view_variables vs) (view_variable v)) (place_is v vs) ∙ ap (λ (b : Bool). if b then 0 else suc (place (view_variables vs) (view_variable v))) (same_is v w)

pub some_place : (b : Bool) (p n : ℕ) → cond b (Some p) None ≡ Some n → p ≡ n
some_place true p n h = cc
some_place false p n h = absurd (cc)

pub none_place : (b : Bool) (p : ℕ) → cond b (Some p) None ≡ None → b ≡ false
none_place true p h = absurd (cc)
none_place false p h = refl

pub views_length : (vs : List Variable) → length (view_variables vs) ≡ length vs
views_length [] = refl
views_length (v ∷ vs) = ap suc (views_length vs)
