-- The longest front that passes a test.
use Rattle.std.proofs.Common.{◌≡◌, ℕ, zero, suc, ◌<◌, ◌≤◌, Bool, true, false, cond, Option, Some, None, List, [], ◌∷◌, length, take, refl, ap, subst, sym, ◌∙◌, arith}
use Rattle.std.specs.Prelude.{option_map, take_while, ◌==◌}
use Rattle.std.proofs.lemmas.Bool.{ne_eqb}
use Rattle.std.proofs.lemmas.List.Sums.{take_while-cons}
use Rattle.awk_tokens.specs.Numbers.{every}
use Rattle.awk_tokens.specs.Reading.{count_while}

abbrev is_yes : Bool → Type 0
is_yes true = Unit {0}
is_yes false = ⊥

pub false-true : false ≡ true → ⊥
false-true e = subst is_yes (sym e) tt

-- as many as pass
pub counted : (p : ℕ → Bool) (cs : List ℕ) → (count_while p cs ≤ length cs) × (every p (take (count_while p cs) cs) ≡ true) × ((m : ℕ) → count_while p cs < m → m ≤ length cs → every p (take m cs) ≡ false)
counted p [] = (omega arith, refl, λ m lt le. absurd (omega arith))
counted p (c ∷ cs) = by (p c) refl (counted p cs)
  where
    by : (b : Bool) → p c ≡ b → ((count_while p cs ≤ length cs) × (every p (take (count_while p cs) cs) ≡ true) × ((m : ℕ) → count_while p cs < m → m ≤ length cs → every p (take m cs) ≡ false)) → (count_while p (c ∷ cs) ≤ length (c ∷ cs)) × (every p (take (count_while p (c ∷ cs)) (c ∷ cs)) ≡ true) × ((m : ℕ) → count_while p (c ∷ cs) < m → m ≤ length (c ∷ cs) → every p (take m (c ∷ cs)) ≡ false)
    by true e h =
        let n : count_while p (c ∷ cs) ≡ suc (count_while p cs) = ap length (take_while-cons p c cs ∙ ap (λ b. cond b (c ∷ take_while p cs) []) e) in
        rw n (omega (arith, h.0), ap (λ b. cond b (every p (take (count_while p cs) cs)) false) e ∙ h.1, past)
      where
        past : (m : ℕ) → suc (count_while p cs) < m → m ≤ length (c ∷ cs) → every p (take m (c ∷ cs)) ≡ false
        past zero lt le = absurd (omega arith)
        past (suc m) lt le = ap (λ b. cond b (every p (take m cs)) false) e ∙ h.2 m (omega arith) (omega arith)
    by false e h =
        let n : count_while p (c ∷ cs) ≡ 0 = ap length (take_while-cons p c cs ∙ ap (λ b. cond b (c ∷ take_while p cs) []) e) in
        rw n (omega arith, refl, past)
      where
        past : (m : ℕ) → 0 < m → m ≤ length (c ∷ cs) → every p (take m (c ∷ cs)) ≡ false
        past zero lt le = absurd (omega arith)
        past (suc m) lt le = ap (λ b. cond b (every p (take m cs)) false) e

-- the closing byte
abbrev pub Closed : (List ℕ → Bool) → List ℕ → Option ℕ → Type 0
Closed f cs None = (m : ℕ) → m ≤ length cs → f (take m cs) ≡ false
Closed f cs (Some n) = (n ≤ length cs) × (f (take n cs) ≡ true) × ((m : ℕ) → n < m → m ≤ length cs → f (take m cs) ≡ false)

-- a byte more in front
pub one_more : (f g : List ℕ → Bool) (c : ℕ) (cs : List ℕ) (o : Option ℕ) → f [] ≡ false → ((t : List ℕ) → f (c ∷ t) ≡ g t) → Closed g cs o → Closed f (c ∷ cs) (option_map suc o)
one_more f g c cs None none e h = λ m le. by m le
  where
    by : (m : ℕ) → m ≤ length (c ∷ cs) → f (take m (c ∷ cs)) ≡ false
    by zero le = none
    by (suc m) le = e (take m cs) ∙ h m (omega arith)
one_more f g c cs (Some n) none e h = (omega (arith, h.0), e (take n cs) ∙ h.1, by)
  where
    by : (m : ℕ) → suc n < m → m ≤ length (c ∷ cs) → f (take m (c ∷ cs)) ≡ false
    by zero lt le = none
    by (suc m) lt le = e (take m cs) ∙ h.2 m (omega arith) (omega arith)

pub never : (f : List ℕ → Bool) (c : ℕ) (cs : List ℕ) → f [] ≡ false → ((t : List ℕ) → f (c ∷ t) ≡ false) → Closed f (c ∷ cs) None
never f c cs none e zero le = none
never f c cs none e (suc m) le = e (take m cs)

pub at_once : (f : List ℕ → Bool) (c : ℕ) (cs : List ℕ) → ((t : List ℕ) → f (c ∷ t) ≡ (length t == 0)) → Closed f (c ∷ cs) (Some 1)
at_once f c cs e = (omega arith, e [], λ m lt le. by cs m lt le)
  where
    by : (cs : List ℕ) (m : ℕ) → 1 < m → m ≤ length (c ∷ cs) → f (take m (c ∷ cs)) ≡ false
    by [] m lt le = absurd (omega arith)
    by (d ∷ ds) zero lt le = absurd (omega arith)
    by (d ∷ ds) (suc zero) lt le = absurd (omega arith)
    by (d ∷ ds) (suc (suc m)) lt le = e (d ∷ take m ds) ∙ ne_eqb (suc (length (take m ds))) 0 (λ h. absurd (omega arith))

-- a byte more in front of what always has such a front
pub some_more : (f g : List ℕ → Bool) (c : ℕ) (cs : List ℕ) (n : ℕ) → ((t : List ℕ) → f (c ∷ t) ≡ g t) → Closed g cs (Some n) → Closed f (c ∷ cs) (Some (suc n))
some_more f g c cs n e h = (omega (arith, h.0), e (take n cs) ∙ h.1, by)
  where
    by : (m : ℕ) → suc n < m → m ≤ length (c ∷ cs) → f (take m (c ∷ cs)) ≡ false
    by zero lt le = absurd (omega arith)
    by (suc m) lt le = e (take m cs) ∙ h.2 m (omega arith) (omega arith)

-- tests that agree on the fronts of these bytes
pub same_test : (f g : List ℕ → Bool) (cs : List ℕ) (o : Option ℕ) → ((m : ℕ) → f (take m cs) ≡ g (take m cs)) → Closed g cs o → Closed f cs o
same_test f g cs None e h = λ m le. e m ∙ h m le
same_test f g cs (Some n) e h = (h.0, e n ∙ h.1, λ m lt le. e m ∙ h.2 m lt le)
