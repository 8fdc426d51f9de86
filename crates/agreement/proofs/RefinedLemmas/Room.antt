-- There is a free number while there are fewer places than numbers: each number that stands for something has an owner. And where there is one, the host
-- answers.
use Rattle.std.proofs.Common.{◌≡◌, ℕ, zero, suc, ◌+◌, ◌<◌, ◌≤◌, ◌^◌, Bool, true, false, ◌&&◌, cond, nat_eq, nat_lt, pos, List, [], ◌∷◌, length, Option, Some}
use Rattle.std.proofs.Common.{None, refl, sym, ap, ◌∙◌, arith}
use Rattle.std.proofs.lemmas.Bool.{eqb-false, eqb-true, le-ltb, ne_eqb}
use Rattle.sem_primitives.specs.declared.sorts.Sort.{Sort}
use Rattle.sem_primitives.specs.declared.sorts.Sort.TheVariants as sort
use Rattle.wasm_store.specs.declared.word.Word.{Word}
use Rattle.wasm_store.specs.declared.word.Word.TheVariants.{I32, I64}
use Rattle.wasm_model.specs.Machines.{CallerForm}
use Rattle.host_step.specs.Answers.{IsFree}
use Rattle.host_step.specs.HostState.{Names}
use Rattle.host_step.specs.Tables.{look}
use Rattle.lower_model.specs.Cells.{Cell}
use Rattle.lower_model.specs.Machine.{Frame}
use Rattle.agreement.specs.Refined.Owners.{OwnedOnce, owner, owners, owns_sort, places_in, there, waiting, wanted}

-- Sums over n numbers, from a on.

pub total : (ℕ → ℕ) → ℕ → ℕ → ℕ
total f a zero = 0
total f a (suc n) = f a + total f (suc a) n

pub total_none : (f : ℕ → ℕ) (a n : ℕ) → ((q : ℕ) → a ≤ q → f q ≡ 0) → total f a n ≡ 0
unfolding total
total_none f a zero h = refl
total_none f a (suc n) h = let x = h a (omega arith) in let y = total_none f (suc a) n (λ q l. h q (omega (arith, l))) in omega (arith, x, y)

pub total_sum : (f g : ℕ → ℕ) (a n : ℕ) → total (λ q. f q + g q) a n ≡ total f a n + total g a n
unfolding total
total_sum f g a zero = refl
total_sum f g a (suc n) = let x = total_sum f g (suc a) n in omega (arith, x)

pub total_less : (f g : ℕ → ℕ) (a n : ℕ) → ((q : ℕ) → f q ≤ g q) → total f a n ≤ total g a n
unfolding total
total_less f g a zero h = omega arith
total_less f g a (suc n) h = let x = h a in let y = total_less f g (suc a) n h in omega (arith, x, y)

-- where the sum is less than the numbers, one of them has nothing
nothing_at : (f : ℕ → ℕ) (n a : ℕ) → total f a n < n → (q : ℕ) × (a ≤ q) × (q < a + n) × (f q ≡ 0)
unfolding total
nothing_at f zero a l = absurd (omega (arith, l))
nothing_at f (suc n) a l = by (f a) refl (nothing_at f n (suc a))
  where
    by : (m : ℕ) → f a ≡ m → (total f (suc a) n < n → (q : ℕ) × (suc a ≤ q) × (q < suc a + n) × (f q ≡ 0)) → (q : ℕ) × (a ≤ q) × (q < a + suc n) × (f q ≡ 0)
    by zero e more = (a, omega arith, omega arith, e)
    by (suc m) e more =
        let r = more (omega (arith, l, e)) in
        let x = r.1 in
        let y = r.2 in
        (r.0, omega (arith, x), omega (arith, y), r.3)

-- Each place owns one number at most.

abbrev pub owns_one : Bool → ℕ → ℕ → ℕ
owns_one b m q = cond (b && nat_eq q m) 1 0

other_number : (b : Bool) (m q : ℕ) → nat_eq q m ≡ false → owns_one b m q ≡ 0
other_number true m q e = ap (λ z. cond {A = ℕ} z 1 0) e
other_number false m q e = refl

pub one_most : (b : Bool) (m a n : ℕ) → total (owns_one b m) a n ≤ 1
unfolding total
one_most b m a zero = omega arith
one_most b m a (suc n) = by (nat_eq a m) refl (one_most b m (suc a) n)
  where
    at_most : (z : Bool) → cond {A = ℕ} z 1 0 ≤ 1
    at_most true = omega arith
    at_most false = omega arith

    by : (z : Bool) → nat_eq a m ≡ z → total (owns_one b m) (suc a) n ≤ 1 → owns_one b m a + total (owns_one b m) (suc a) n ≤ 1
    by true e h =
        let q = eqb-true a m e in
        let x = total_none (owns_one b m) (suc a) n (λ k l. other_number b m k (ne_eqb k m (λ z. omega (arith, l, q, z)))) in
        let y = at_most (b && nat_eq a m) in
        omega (arith, x, y)
    by false e h = let x = other_number b m a e in omega (arith, x, h)

-- one of the numbers is m
pub counted_once : (m a n : ℕ) → a ≤ m → m < a + n → 1 ≤ total (owns_one true m) a n
unfolding total
counted_once m a zero l h = absurd (omega (arith, l, h))
counted_once m a (suc n) l h = by (nat_eq a m) refl (λ k. counted_once m (suc a) n k (omega (arith, h)))
  where
    by : (b : Bool) → nat_eq a m ≡ b → (suc a ≤ m → 1 ≤ total (owns_one true m) (suc a) n) → 1 ≤ cond {A = ℕ} b 1 0 + total (owns_one true m) (suc a) n
    by true e later = omega arith
    by false e later = let ne = eqb-false a m e in let x = later (omega (arith, l, ne)) in omega (arith, x)

owner_most : (s : Sort) (c : Cell) (w : Word) (a n : ℕ) → total (λ q. owner s q c w) a n ≤ 1
owner_most s c (I32 m) a n = one_most (owns_sort s c) m a n
owner_most s c (I64 m) a n = let x = total_none (λ q. owner s q c (I64 m)) a n (λ q l. refl) in omega (arith, x)

owners_most : (s : Sort) (cs : List Cell) (ws : List Word) (a n : ℕ) → total (λ q. owners s q cs ws) a n ≤ length ws
owners_most s [] ws a n = let x = total_none (λ q. owners s q [] ws) a n (λ q l. refl) in omega (arith, x)
owners_most s (c ∷ cs) [] a n = let x = total_none (λ q. owners s q (c ∷ cs) []) a n (λ q l. refl) in omega (arith, x)
owners_most s (c ∷ cs) (w ∷ ws) a n =
    let x = owner_most s c w a n in
    let y = owners_most s cs ws a n in
    let z = total_sum (λ q. owner s q c w) (λ q. owners s q cs ws) a n in
    omega (arith, x, y, z)

pub waiting_most : (s : Sort) (F : List Frame) (rs : List CallerForm) (a n : ℕ) → total (λ q. waiting s q F rs) a n ≤ places_in rs
waiting_most s [] rs a n = let x = total_none (λ q. waiting s q [] rs) a n (λ q l. refl) in omega (arith, x)
waiting_most s (f ∷ F) [] a n = let x = total_none (λ q. waiting s q (f ∷ F) []) a n (λ q l. refl) in omega (arith, x)
waiting_most s (f ∷ F) (r ∷ rs) a n =
    let x = owners_most s f.locals r.frame.locals a n in
    let y = waiting_most s F rs a n in
    let z = total_sum (λ q. owners s q f.locals r.frame.locals) (λ q. waiting s q F rs) a n in
    omega (arith, x, y, z)

-- A number that is free.

none_there : {A : Type 0} → (o : Option A) → there o ≡ 0 → o ≡ None
none_there None e = refl
none_there (Some x) e = absurd (omega (arith, e))

-- each table has a number that is free
pub record HasFree (N : Names) : Type 0 where
  pub values : (q : ℕ) × IsFree N.values q
  pub arrays : (q : ℕ) × IsFree N.arrays q
  pub iterators : (q : ℕ) × IsFree N.iterators q

module _ (N : Names) (vs L G : List Cell) (ws ls gs : List Word) (F : List Frame) (rs : List CallerForm) (once : OwnedOnce N vs ws L ls G gs F rs) where
  abbrev pub places : ℕ
  places = length ws + (length ls + (length gs + places_in rs))

  abbrev owned : Sort → ℕ → ℕ
  owned s q = owners s q vs ws + (owners s q L ls + (owners s q G gs + waiting s q F rs))

  one_free : (s : Sort) → (q : ℕ) × (2 ≤ q) × (q < 2 + (places + 1)) × (wanted N s q ≡ 0)
  one_free s =
      let a = owners_most s vs ws 2 (places + 1) in
      let b = owners_most s L ls 2 (places + 1) in
      let c = owners_most s G gs 2 (places + 1) in
      let d = waiting_most s F rs 2 (places + 1) in
      let x = total_sum (λ q. owners s q G gs) (λ q. waiting s q F rs) 2 (places + 1) in
      let y = total_sum (λ q. owners s q L ls) (λ q. owners s q G gs + waiting s q F rs) 2 (places + 1) in
      let z = total_sum (λ q. owners s q vs ws) (λ q. owners s q L ls + (owners s q G gs + waiting s q F rs)) 2 (places + 1) in
      back (nothing_at (owned s) (places + 1) 2 (omega (arith, a, b, c, d, x, y, z)))
    where
      back : (q : ℕ) × (2 ≤ q) × (q < 2 + (places + 1)) × (owned s q ≡ 0) → (q : ℕ) × (2 ≤ q) × (q < 2 + (places + 1)) × (wanted N s q ≡ 0)
      back r = (r.0, r.1, r.2, sym (once s r.0) ∙ r.3)

  past_two : (q : ℕ) → 2 ≤ q → (o : Option ℕ) → cond (nat_lt q 2) 0 (there o) ≡ 0 → there o ≡ 0
  past_two q l o e = ap (λ b. cond {A = ℕ} b 0 (there o)) (sym (le-ltb q 2 l)) ∙ e

  pub has_free : places + 3 ≤ 2 ^ 31 → HasFree N
  has_free few =
      let v = one_free sort.Value in
      let a = one_free sort.Array in
      let i = one_free sort.Iterator in
      let v2 = v.2 in
      let a2 = a.2 in
      let i2 = i.2 in
      record {
        values = (v.0, record { below = omega (arith, v2, few); free = none_there (look N.values (pos v.0)) v.3 });
        arrays = (a.0, record { below = omega (arith, a2, few); free = none_there (look N.arrays (pos a.0)) (past_two a.0 a.1 (look N.arrays (pos a.0)) a.3) });
        iterators = (i.0, record { below = omega (arith, i2, few); free = none_there (look N.iterators (pos i.0)) i.3 });
      }
