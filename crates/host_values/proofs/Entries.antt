-- Tables of the definition are what finite maps list.
use Rattle.std.proofs.Common.{◌≡◌, ℤ, Bool, true, false, cond, not, Option, None, refl, sym, ap, ◌∙◌}
use Rattle.std.specs.Ordering.{eq_by_cmp, int_cmp, is_eq}
use Rattle.std.specs.Cmp.{alike_right, eq_by_cmp_equiv, int_cmp_total}
use Rattle.std.specs.FinMap as map
use Rattle.std.specs.FinMap.{FinMap, int_cmp-IsAntisymmetric}
use Rattle.std.specs.FinMap.Entries.{find-where_key, is_sorted-where_key, same_entries}
use Rattle.host_step.specs.Tables.{look, entered, without}

turned : {V : Type 0} (b : Bool) (x y : Option V) → cond (not b) x y ≡ cond b y x
turned true x y = refl
turned false x y = refl

find_without : {V : Type 0} (m : FinMap int_cmp V) (k q : ℤ) → look (without k (map.entries m)) q
    ≡ cond (eq_by_cmp int_cmp k q) None (look (map.entries m) q)
find_without m k q =
    find-where_key int_cmp (λ n. not (eq_by_cmp int_cmp k n)) q (λ x t. ap (λ r. not (is_eq r)) (sym (alike_right int_cmp_total q x k t))) (map.entries m)
    ∙ turned (eq_by_cmp int_cmp k q) _ _

-- what a number stands for
pub look_entries : {V : Type 0} (m : FinMap int_cmp V) (q : ℤ) → look (map.entries m) q ≡ map.get m q
look_entries m q = sym (map.get-entries m q)

pub entries_insert : {V : Type 0} (m : FinMap int_cmp V) (q : ℤ) (v : V) → entered q v (map.entries m) ≡ map.entries (map.insert m q v)
entries_insert m q v = sym (map.entries-insert int_cmp_total m q v)

pub entries_remove : {V : Type 0} (m : FinMap int_cmp V) (k : ℤ) → without k (map.entries m) ≡ map.entries (map.remove m k)
entries_remove m k =
    same_entries int_cmp int_cmp_total int_cmp-IsAntisymmetric _ _
    (is_sorted-where_key int_cmp (λ n. not (eq_by_cmp int_cmp k n)) (map.entries m) (map.entries_sorted m)) (map.entries_sorted (map.remove m k))
    (λ q. find_without m k q
    ∙ ap (λ b. cond b None (look (map.entries m) q)) ((eq_by_cmp_equiv int_cmp_total).symm k q)
    ∙ ap (cond (eq_by_cmp int_cmp q k) None) (look_entries m q)
    ∙ sym (map.get-remove int_cmp_total m k q) ∙ sym (look_entries (map.remove m k) q))
