-- The numbers that have something: from 0 on, and none changed where what they have stays the same.
use Rattle.std.proofs.Common.{◌≡◌, ℕ, ℤ, pos, negsuc, ◌≤ℤ◌, ◌<ℤ◌, List, Option, Some, None, is_some, Bool, true, false, cond, get_or, option_copied, Bor, refl, sym, ap, ◌∙◌, arith, true≢false}
use Rattle.std.specs.FinMap as map
use Rattle.std.specs.FinMap.{int_cmp-IsAntisymmetric}
use Rattle.std.specs.Ordering.{int_cmp, int_eq}
use Rattle.std.specs.Cmp.{int_cmp_total, signed_Decides}
use Rattle.host_handles.specs.Tables.{table}
use Rattle.host_handles.proofs.TableLemmas.{get-table, get-table-below_zero}

-- a number that has something is at least 0
pub taken_from_zero : {V : Type 0} (slots : List (Option V)) (h : ℤ) → map.contains_key (table slots) h ≡ true → pos 0 ≤ℤ h
taken_from_zero slots (pos k) taken = grind (arith)
taken_from_zero slots (negsuc n) taken =
    let below : negsuc n <ℤ pos 0 = grind (arith) in
    absurd (true≢false (sym taken ∙ ap is_some (get-table-below_zero slots (negsuc n) below)))

-- and its slot has it
pub taken_slot : {V : Type 0} (slots : List (Option V)) (h : ℤ) (k : ℕ) → h ≡ pos k → map.contains_key (table slots) h ≡ true → is_some (get_or slots k None) ≡ true
taken_slot slots h k key taken = sym (ap (λ q. map.contains_key (table slots) q) key ∙ ap is_some (get-table slots k)) ∙ taken

pub shown_some : {V : Type 0} (found : Option (Bor V)) → is_some found ≡ is_some (option_copied found)
shown_some None = refl
shown_some (Some v) = refl

-- what is put back under its number changes nothing
pub insert_same : {V : Type 0} (m : map.FinMap int_cmp V) (h : ℤ) (v : V) → map.get m h ≡ Some v → map.insert m h v ≡ m
insert_same m h v there =
    map.same_map int_cmp_total int_cmp-IsAntisymmetric _ _ (λ q. map.get-insert int_cmp_total m h v q ∙ by q (int_eq q h) refl)
  where
    by : (q : ℤ) (b : Bool) → int_eq q h ≡ b → cond b (Some v) (map.get m q) ≡ map.get m q
    by q true e = sym there ∙ ap (map.get m) (sym ((signed_Decides q h).0 e))
    by q false e = refl
