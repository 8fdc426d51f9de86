-- What numbers stand for, once one was entered or taken away.
use Rattle.std.proofs.Common.{◌≡◌, ℕ, ℤ, pos, Bool, true, false, cond, not, Some, None, refl, sym, ap, ◌∙◌}
use Rattle.std.specs.Cmp.{int_cmp_total, signed_Decides}
use Rattle.std.specs.Ordering.{int_cmp, int_eq, eq_by_cmp, is_eq}
use Rattle.std.specs.FinMap.Entries.{find-put, find-where_key}
use Rattle.host_step.specs.Tables.{Table, look, entered, without}

abbrev number_of : ℤ → ℕ
number_of (pos n) = n
number_of _ = 0

apart_numbers : (k q : ℕ) → (k ≡ q → ⊥) → int_eq (pos k) (pos q) ≡ false
apart_numbers k q ne = by (int_eq (pos k) (pos q)) refl
  where
    by : (b : Bool) → int_eq (pos k) (pos q) ≡ b → b ≡ false
    by false e = refl
    by true e = absurd (ne (ap number_of ((signed_Decides (pos k) (pos q)).0 e)))

same_number : (q : ℕ) → int_eq (pos q) (pos q) ≡ true
same_number q = (signed_Decides (pos q) (pos q)).1 refl

module _ {A : Type 0} (t : Table A) (q : ℕ) where
  pub entered_there : (v : A) → look (entered (pos q) v t) (pos q) ≡ Some v
  entered_there v = find-put int_cmp int_cmp_total (pos q) (pos q) v t ∙ ap (λ b. cond b (Some v) (look t (pos q))) (same_number q)

  pub entered_other : (v : A) (k : ℕ) → (k ≡ q → ⊥) → look (entered (pos q) v t) (pos k) ≡ look t (pos k)
  entered_other v k ne = find-put int_cmp int_cmp_total (pos k) (pos q) v t ∙ ap (λ b. cond b (Some v) (look t (pos k))) (apart_numbers k q ne)

  stays : (k : ℕ) → look (without (pos q) t) (pos k) ≡ cond (not (int_eq (pos q) (pos k))) (look t (pos k)) None
  stays k = find-where_key int_cmp (λ n. not (eq_by_cmp int_cmp (pos q) n)) (pos k) (λ x e. ap (λ y. not (eq_by_cmp int_cmp (pos q) y)) (sym ((signed_Decides (pos k) x).0 (ap is_eq e)))) t

  pub without_there : look (without (pos q) t) (pos q) ≡ None
  without_there = stays q ∙ ap (λ b. cond (not b) (look t (pos q)) None) (same_number q)

  pub without_other : (k : ℕ) → (k ≡ q → ⊥) → look (without (pos q) t) (pos k) ≡ look t (pos k)
  without_other k ne = stays k ∙ ap (λ b. cond (not b) (look t (pos k)) None) (apart_numbers q k (λ e. ne (sym e)))
