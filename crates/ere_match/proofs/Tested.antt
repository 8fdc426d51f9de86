-- Runs can be tested, so from the mere fact that there is one, one is found.
use Rattle.std.proofs.Common.{◌≡◌, ℕ, zero, suc, ◌+◌, ◌<◌, ◌⊎◌, inl, inr, Bool, true, false, List, length, Option, Some, None, refl, sym, ap, ◌∙◌, arith, get_or, nat_eq}
use Rattle.std.specs.Prelude.{slice_get, ◌||◌, ◌&&◌}
use Rattle.std.proofs.Props.{props}
use Rattle.std.proofs.Math.Logic.{∥∥₁_elim, ∥∥₁_map}
use mathlib.Core.HLevel.{Σ_prop_path}
use Rattle.std.proofs.lemmas.Bool.{cases_lt, eq-eqb, eqb-true}
use Rattle.std.proofs.lemmas.Option.{get_or_from_slice_get}
use Rattle.ere_match.specs.declared.node.Node.{Node}
use Rattle.ere_match.specs.declared.node.Node.TheVariants as nodes
use Rattle.ere_match.specs.Runs.{IsTaken, Runs, Step, filter_set}
use Rattle.ere_match.specs.Threads.{IsBest}
use Rattle.ere_match.proofs.Steps.{true_within}

abbrev taken_test : List Bool → Option ℕ → Bool
taken_test s None = false
taken_test s (Some c) = get_or s c false

abbrev step_test : (ℕ → ℕ → Bool) → List ℕ → ℕ → ℕ → Option Node → Bool
step_test next text i j None = false
step_test next text i j (Some nodes.Accept) = nat_eq i j
step_test next text i j (Some nodes.Never) = false
step_test next text i j (Some (nodes.Take f to)) = taken_test (filter_set f) (slice_get text i) && next to (i + 1)
step_test next text i j (Some (nodes.Split to other)) = next to i || next other i
step_test next text i j (Some (nodes.Start to)) = nat_eq i 0 && next to i
step_test next text i j (Some (nodes.End to)) = nat_eq i (length text) && next to i

abbrev runs_test : List Node → List ℕ → ℕ → ℕ → ℕ → ℕ → Bool
runs_test all text j zero id i = false
runs_test all text j (suc n) id i = step_test (λ to k. runs_test all text j n to k) text i j (slice_get all id)

both : (a b : Bool) → a ≡ true → b ≡ true → (a && b) ≡ true
both true b e f = f
both false b e f = absurd cc

halves : (a b : Bool) → (a && b) ≡ true → (a ≡ true) × (b ≡ true)
halves true b e = (refl, e)
halves false b e = absurd cc

one : (a b : Bool) → (a ≡ true) ⊎ (b ≡ true) → (a || b) ≡ true
one true b e = refl
one false b (inl e) = absurd cc
one false b (inr e) = e

which : (a b : Bool) → (a || b) ≡ true → (a ≡ true) ⊎ (b ≡ true)
which true b e = inl refl
which false b e = inr e

taken_true : (s : List Bool) (text : List ℕ) (i : ℕ) → IsTaken s text i → taken_test s (slice_get text i) ≡ true
taken_true s text i t = ap (taken_test s) t.1 ∙ get_or_from_slice_get s t.0 true false t.2

true_taken : (s : List Bool) (text : List ℕ) (i : ℕ) (o : Option ℕ) → slice_get text i ≡ o → taken_test s o ≡ true → IsTaken s text i
true_taken s text i None e h = absurd cc
true_taken s text i (Some c) e h = (c, e, true_within s c h)

step_true : (R : ℕ → ℕ → Type 0) (next : ℕ → ℕ → Bool) (text : List ℕ) (i j : ℕ) → ((to k : ℕ) → R to k → next to k ≡ true) → (o : Option Node) → Step R text i j o → step_test next text i j o ≡ true
step_true R next text i j h None s = absurd s
step_true R next text i j h (Some nodes.Accept) s = eq-eqb i j s
step_true R next text i j h (Some nodes.Never) s = absurd s
step_true R next text i j h (Some (nodes.Take f to)) s = both _ _ (taken_true (filter_set f) text i s.0) (h to (i + 1) s.1)
step_true R next text i j h (Some (nodes.Split to other)) s = one _ _ (elim s [ inl l ↦ inl (h to i l) | inr l ↦ inr (h other i l) ])
step_true R next text i j h (Some (nodes.Start to)) s = both _ _ (eq-eqb i 0 s.0) (h to i s.1)
step_true R next text i j h (Some (nodes.End to)) s = both _ _ (eq-eqb i (length text) s.0) (h to i s.1)

true_step : (R : ℕ → ℕ → Type 0) (next : ℕ → ℕ → Bool) (text : List ℕ) (i j : ℕ) → ((to k : ℕ) → next to k ≡ true → R to k) → (o : Option Node) → step_test next text i j o ≡ true → Step R text i j o
true_step R next text i j h None s = absurd cc
true_step R next text i j h (Some nodes.Accept) s = eqb-true i j s
true_step R next text i j h (Some nodes.Never) s = absurd cc
true_step R next text i j h (Some (nodes.Take f to)) s = (let x = halves _ _ s in (true_taken (filter_set f) text i (slice_get text i) refl x.0, h to (i + 1) x.1))
true_step R next text i j h (Some (nodes.Split to other)) s = elim (which _ _ s) [ inl l ↦ inl (h to i l) | inr l ↦ inr (h other i l) ]
true_step R next text i j h (Some (nodes.Start to)) s = (let x = halves _ _ s in (eqb-true i 0 x.0, h to i x.1))
true_step R next text i j h (Some (nodes.End to)) s = (let x = halves _ _ s in (eqb-true i (length text) x.0, h to i x.1))

runs_true : (all : List Node) (text : List ℕ) (j n id i : ℕ) → Runs all text j n id i → runs_test all text j n id i ≡ true
runs_true all text j zero id i r = absurd r
runs_true all text j (suc n) id i r = step_true (λ to k. Runs all text j n to k) (λ to k. runs_test all text j n to k) text i j (runs_true all text j n) (slice_get all id) r

true_runs : (all : List Node) (text : List ℕ) (j n id i : ℕ) → runs_test all text j n id i ≡ true → Runs all text j n id i
true_runs all text j zero id i e = absurd cc
true_runs all text j (suc n) id i e = true_step (λ to k. Runs all text j n to k) (λ to k. runs_test all text j n to k) text i j (true_runs all text j n) (slice_get all id) e

-- ---- the least number that passes a test

abbrev IsLeast : (ℕ → Bool) → ℕ → Type 0
IsLeast p n = (p n ≡ true) × ((k : ℕ) → k < n → p k ≡ false)

abbrev Least : (ℕ → Bool) → Type 0
Least p = (n : ℕ) × IsLeast p n

is_least_prop : (p : ℕ → Bool) (n : ℕ) → IsProp (IsLeast p n)
is_least_prop p n = hlevel props

least_one : (p : ℕ → Bool) (a b : Least p) → a.0 ≡ b.0
least_one p a b = elim (cases_lt a.0 b.0) [
  | inl less ↦ absurd (let bad : true ≡ false = sym a.1.0 ∙ b.1.1 a.0 less in cc)
  | inr not ↦ elim (cases_lt b.0 a.0) [
    | inl less ↦ absurd (let bad : true ≡ false = sym b.1.0 ∙ a.1.1 b.0 less in cc)
    | inr not' ↦ omega arith
  ]
]

least_prop : (p : ℕ → Bool) → IsProp (Least p)
least_prop p = λ a b. Σ_prop_path (is_least_prop p) (least_one p a b)

-- none below n passes, or there is a least one
least_below : (p : ℕ → Bool) (n : ℕ) → ((k : ℕ) → k < n → p k ≡ false) ⊎ Least p
least_below p zero = inl (λ k less. absurd (omega arith))
least_below p (suc n) = elim (least_below p n) [
  | inr found ↦ inr found
  | inl none ↦ by none (p n) refl
]
  where
    by : ((k : ℕ) → k < n → p k ≡ false) → (b : Bool) → p n ≡ b → ((k : ℕ) → k < suc n → p k ≡ false) ⊎ Least p
    by none true e = inr (n, (e, none))
    by none false e = inl (λ k less. elim (cases_lt k n) [ inl low ↦ none k low | inr here ↦ (let same : k ≡ n = omega arith in ap p same ∙ e) ])

least_from : (p : ℕ → Bool) (n : ℕ) → p n ≡ true → Least p
least_from p n e = elim (least_below p (suc n)) [
  | inr found ↦ found
  | inl none ↦ absurd (let bad : true ≡ false = sym e ∙ none n (omega arith) in cc)
]

run_out : (all : List Node) (text : List ℕ) (j id i : ℕ) → ∥ ((m : ℕ) × Runs all text j m id i) ∥₁ → (m : ℕ) × Runs all text j m id i
run_out all text j id i r =
    let l = ∥∥₁_elim r (least_prop (λ n. runs_test all text j n id i)) (λ x. least_from (λ n. runs_test all text j n id i) x.0 (runs_true all text j x.0 id i x.1)) in
    (l.0, true_runs all text j l.0 id i l.1.0)

pub best_out : (all : List Node) (text : List ℕ) (entry from n : ℕ) (found : Option (ℕ × ℕ)) → ∥ IsBest all text entry from n found ∥₁ → IsBest all text entry from n found
best_out all text entry from n None b = λ s j m above below run. ∥∥₁_elim b (hlevel props) (λ x. x s j m above below run)
best_out all text entry from n (Some p) b = (
  ∥∥₁_elim b (search props) (λ x. x.0),
  ∥∥₁_elim b (search props) (λ x. x.1),
  ∥∥₁_elim b (search props) (λ x. x.2),
  ∥∥₁_elim b (search props) (λ x. x.3),
  run_out all text p.1 entry p.0 (∥∥₁_map b (λ x. x.4)),
  λ s j m above below run. (∥∥₁_elim b (search props) (λ x. (x.5 s j m above below run).0), λ e. ∥∥₁_elim b (search props) (λ x. (x.5 s j m above below run).1 e)),
)
