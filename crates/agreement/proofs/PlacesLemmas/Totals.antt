-- How much is alive, exactly: a place that holds something has a number below 2^31 that no other place has, and each number that stands for something is in
-- such a place.
use Rattle.std.proofs.Common.{◌≡◌, ℕ, zero, suc, ◌+◌, ◌^◌, ◌<◌, ◌≤◌, Bool, true, false, ◌&&◌, cond, nat_lt, pos, List, [], ◌∷◌, Option, Some, None, refl, sym, ap, ap₂, ◌∙◌, arith}
use Rattle.std.proofs.lemmas.Bool.{eq-eqb, ltb-true, ne_eqb}
use Rattle.sem_primitives.specs.declared.sorts.Sort.{Sort}
use Rattle.sem_primitives.specs.declared.sorts.Sort.TheVariants as sort
use Rattle.wasm_store.specs.declared.word.Word.{Word}
use Rattle.wasm_store.specs.declared.word.Word.TheVariants.{I32, I64}
use Rattle.wasm_model.specs.Machines.{CallerForm}
use Rattle.host_step.specs.HostState.{Names}
use Rattle.host_step.specs.Tables.{look}
use Rattle.mid_program.specs.Mid.{Program}
use Rattle.lower_model.specs.Cells.{Cell, Bits, Held, IteratorOf, OwnedArray, LentArray, Gone}
use Rattle.agreement.specs.Refined.Owners.{there, wanted}
use Rattle.agreement.specs.Refined.Words.{WordAs, WordsAs}
use Rattle.agreement.proofs.RefinedLemmas.Room.{counted_once, one_most, owns_one, total, total_less, total_none, total_sum}
use Rattle.agreement.specs.Places.Alive.{count_waiting}
use Rattle.agreement.specs.Places.NoLeaks.{CallersWait, EachPlace, count, holders, holders_waiting, holds, one}
use Rattle.agreement.proofs.PlacesLemmas.Counting.{held, held_in, none_counted}

pub total_same : (f g : ℕ → ℕ) (a n : ℕ) → ((q : ℕ) → f q ≡ g q) → total f a n ≡ total g a n
total_same f g a n h =
    let x = total_less f g a n (λ q. let e = h q in omega (arith, e)) in
    let y = total_less g f a n (λ q. let e = h q in omega (arith, e)) in
    omega (arith, x, y)

pub one_exactly : (m n : ℕ) → m < n → total (owns_one true m) 0 n ≡ 1
one_exactly m n l = let x = one_most true m 0 n in let y = counted_once m 0 n (omega arith) (omega (arith, l)) in omega (arith, x, y)

-- Where the number of each place that holds something is below 2^31, the numbers together have as many holders as there are such places.

module _ (t : Sort) where
  place_exact : (o : Option Sort) (n : ℕ) → (holds t o ≡ true → n < 2 ^ 31) → total (owns_one (holds t o) n) 0 (2 ^ 31) ≡ one t o
  place_exact o n h = by (holds t o) h
    where
      by : (b : Bool) → (b ≡ true → n < 2 ^ 31) → total (owns_one b n) 0 (2 ^ 31) ≡ cond {A = ℕ} b 1 0
      by true l = one_exactly n (2 ^ 31) (l refl)
      by false l = total_none (owns_one false n) 0 (2 ^ 31) (λ q k. refl)

  -- a place that holds something is a holder of its number
  holds_itself : (o : Option Sort) (n : ℕ) (os : List (Option Sort)) (ws : List Word) → holds t o ≡ true → 1 ≤ holders t n (o ∷ os) (I32 n ∷ ws)
  holds_itself o n os ws e = let x = ap (λ b. cond {A = ℕ} b 1 0) (ap₂ (λ a b. a && b) e (eq-eqb n n refl)) in omega (arith, x)

  holders_exact : (os : List (Option Sort)) (ws : List Word) → EachPlace os ws → ((q : ℕ) → 1 ≤ holders t q os ws → q < 2 ^ 31) →
      total (λ q. holders t q os ws) 0 (2 ^ 31) ≡ count t os
  holders_exact [] [] h below = total_none (λ q. holders t q [] []) 0 (2 ^ 31) (λ q l. refl)
  holders_exact [] (w ∷ ws) h below = absurd h
  holders_exact (o ∷ os) [] h below = absurd h
  holders_exact (o ∷ os) (I32 n ∷ ws) h below =
      total_sum (owns_one (holds t o) n) (λ q. holders t q os ws) 0 (2 ^ 31)
      ∙ ap₂ (λ x y. x + y) (place_exact o n (λ e. below n (holds_itself o n os ws e))) (holders_exact os ws h (λ q l. below q (omega (arith, l))))
  holders_exact (o ∷ os) (I64 n ∷ ws) h below = holders_exact os ws h.1 below ∙ (let e = ap (one t) h.0 in let z = none_counted t in omega (arith, e, z))

  waiting_exact : (p : Program) (rest : List (List (Option Sort))) (rs : List CallerForm) → CallersWait p rest rs →
      ((q : ℕ) → 1 ≤ holders_waiting t q rest rs → q < 2 ^ 31) → total (λ q. holders_waiting t q rest rs) 0 (2 ^ 31) ≡ count_waiting t rest
  waiting_exact p [] rs h below = total_none (λ q. holders_waiting t q [] rs) 0 (2 ^ 31) (λ q l. refl)
  waiting_exact p (os ∷ rest) [] h below = absurd h
  waiting_exact p (os ∷ rest) (r ∷ rs) h below =
      total_sum (λ q. holders t q os r.frame.locals) (λ q. holders_waiting t q rest rs) 0 (2 ^ 31)
      ∙ ap₂ (λ x y. x + y) (holders_exact os r.frame.locals h.0.each (λ q l. below q (omega (arith, l))))
      (waiting_exact p rest rs h.1 (λ q l. below q (omega (arith, l))))

module _ (N : Names) (t : Sort) (below : (q : ℕ) → 1 ≤ wanted N t q → q < 2 ^ 31) where
  -- SO MUCH IS WANTED where a statement begins
  pub wanted_exact : (p : Program) (own globals : List (Option Sort)) (waiting : List (List (Option Sort))) (ls gs : List Word) (rs : List CallerForm) →
      EachPlace own ls → EachPlace globals gs → CallersWait p waiting rs →
      ((q : ℕ) → holders t q own ls + (holders t q globals gs + holders_waiting t q waiting rs) ≡ wanted N t q) →
      total (λ q. wanted N t q) 0 (2 ^ 31) ≡ count t own + (count t globals + count_waiting t waiting)
  wanted_exact p own globals waiting ls gs rs a b c once =
      let least : (q m : ℕ) → 1 ≤ m → m ≤ holders t q own ls + (holders t q globals gs + holders_waiting t q waiting rs) → q < 2 ^ 31 =
      (λ q m l k. below q (let e = once q in omega (arith, e, l, k))) in
      let x = holders_exact t own ls a (λ q l. least q (holders t q own ls) l (omega arith)) in
      let y = holders_exact t globals gs b (λ q l. least q (holders t q globals gs) l (omega arith)) in
      let z = waiting_exact t p waiting rs c (λ q l. least q (holders_waiting t q waiting rs) l (omega arith)) in
      total_same (λ q. wanted N t q) (λ q. holders t q own ls + (holders t q globals gs + holders_waiting t q waiting rs)) 0 (2 ^ 31) (λ q. sym (once q))
      ∙ (total_sum (λ q. holders t q own ls) (λ q. holders t q globals gs + holders_waiting t q waiting rs) 0 (2 ^ 31)
      ∙ ap₂ (λ m n. m + n) x (total_sum (λ q. holders t q globals gs) (λ q. holders_waiting t q waiting rs) 0 (2 ^ 31) ∙ ap₂ (λ m n. m + n) y z))

  -- where `main` has returned
  pub names_exact : (globals : List (Option Sort)) (gs : List Word) → EachPlace globals gs → ((q : ℕ) → holders t q globals gs ≡ wanted N t q) →
      total (λ q. wanted N t q) 0 (2 ^ 31) ≡ count t globals
  names_exact globals gs a once =
      total_same (λ q. wanted N t q) (λ q. holders t q globals gs) 0 (2 ^ 31) (λ q. sym (once q))
      ∙ holders_exact t globals gs a (λ q l. below q (let e = once q in omega (arith, e, l)))

-- ARGV and ENVIRON have no owner among these
module _ (N : Names) (argv : look N.arrays (pos 0) ≡ Some 0) (environ : look N.arrays (pos 1) ≡ Some 1) where
  array_wanted : (q : ℕ) → there (look N.arrays (pos q)) ≡ wanted N sort.Array q + (owns_one true 0 q + owns_one true 1 q)
  array_wanted zero = ap there argv
  array_wanted (suc zero) = ap there environ
  array_wanted (suc (suc q)) = by (nat_lt (suc (suc q)) 2) refl
    where
      here : ℕ
      here = there (look N.arrays (pos (suc (suc q))))

      by : (b : Bool) → nat_lt (suc (suc q)) 2 ≡ b → here ≡ cond b 0 here + (owns_one true 0 (suc (suc q)) + owns_one true 1 (suc (suc q)))
      by true e = let l = ltb-true (suc (suc q)) 2 e in absurd (omega (arith, l))
      by false e =
          let x = ap (λ b. cond {A = ℕ} b 1 0) (ne_eqb (suc (suc q)) 0 (λ z. omega (arith, z))) in
          let y = ap (λ b. cond {A = ℕ} b 1 0) (ne_eqb (suc (suc q)) 1 (λ z. omega (arith, z))) in
          omega (arith, x, y)

  pub arrays_exact : total (λ q. there (look N.arrays (pos q))) 0 (2 ^ 31) ≡ 2 + total (λ q. wanted N sort.Array q) 0 (2 ^ 31)
  arrays_exact =
      let a = total_same (λ q. there (look N.arrays (pos q))) (λ q. wanted N sort.Array q + (owns_one true 0 q + owns_one true 1 q)) 0 (2 ^ 31) array_wanted in
      let b = total_sum (λ q. wanted N sort.Array q) (λ q. owns_one true 0 q + owns_one true 1 q) 0 (2 ^ 31) in
      let c = total_sum (owns_one true 0) (owns_one true 1) 0 (2 ^ 31) in
      let d = one_exactly 0 (2 ^ 31) (omega arith) in
      let e = one_exactly 1 (2 ^ 31) (omega arith) in
      omega (arith, a, b, c, d, e)

-- what stands for a cell that owns something is a handle
long_holds_none : (made : ℕ) (N : Names) (c : Cell) (n : ℕ) → WordAs made N c (I64 n) → held_in c ≡ None
long_holds_none made N (Held v) n a = absurd a
long_holds_none made N (IteratorOf i) n a = absurd a
long_holds_none made N (OwnedArray b) n a = absurd a.1
long_holds_none made N (Bits w) n a = refl
long_holds_none made N (LentArray b) n a = refl
long_holds_none made N Gone n a = refl

pub held_each : (made : ℕ) (N : Names) (cs : List Cell) (ws : List Word) → WordsAs made N cs ws → EachPlace (held cs) ws
held_each made N [] [] a = tt
held_each made N [] (w ∷ ws) a = absurd a
held_each made N (c ∷ cs) [] a = absurd a
held_each made N (c ∷ cs) (I32 n ∷ ws) a = held_each made N cs ws a.1
held_each made N (c ∷ cs) (I64 n ∷ ws) a = (long_holds_none made N c n a.0, held_each made N cs ws a.1)
