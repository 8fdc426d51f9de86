-- What a map of values holds once a handle is spent.
use Rattle.std.proofs.Common.{◌≡◌, ◌≢◌, ℕ, suc, zero, ◌-◌, ℤ, Bool, true, false, cond, None, refl, ap, ◌∙◌, arith}
use Rattle.std.specs.Prelude.{slice_get}
use Rattle.std.specs.Ordering.{int_cmp, int_eq}
use Rattle.std.specs.Cmp.{int_cmp_total, signed_Decides}
use Rattle.std.specs.FinMap as map
use Rattle.std.specs.FinMap.{FinMap}
use Rattle.sem_primitives.specs.Constants.{fault_at, faults}

-- the numbers of faults count from 1
pub fault_from_one : (n : ℕ) → n ≢ 0 → slice_get faults (n - 1) ≡ fault_at n
fault_from_one zero some = absurd (some refl)
fault_from_one (suc n) some = let less : suc n - 1 ≡ n = omega arith in ap (slice_get faults) less

removed_by : {V : Type 0} (m : FinMap int_cmp V) (k q : ℤ) (b : Bool) → int_eq q k ≡ b → map.get (map.remove m k) q ≡ cond b None (map.get m q)
removed_by m k q b e = map.get-remove int_cmp_total m k q ∙ ap (λ c. cond c None (map.get m q)) e

-- the handle that is spent
pub get_removed : {V : Type 0} (m : FinMap int_cmp V) (k q : ℤ) → q ≡ k → map.get (map.remove m k) q ≡ None
get_removed m k q same = removed_by m k q true ((signed_Decides q k).1 same)

-- the others
pub get_others : {V : Type 0} (m : FinMap int_cmp V) (k q : ℤ) → q ≢ k → map.get (map.remove m k) q ≡ map.get m q
get_others m k q other = by (int_eq q k) refl
  where
    by : (b : Bool) → int_eq q k ≡ b → map.get (map.remove m k) q ≡ map.get m q
    by true e = absurd (other ((signed_Decides q k).0 e))
    by false e = removed_by m k q false e
