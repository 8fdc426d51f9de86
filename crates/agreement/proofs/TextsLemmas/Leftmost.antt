-- One is leftmost and longest at most, and small words on places.
use Rattle.std.proofs.Common.{◌≡◌, ℕ, ◌+◌, ◌-◌, ◌≤◌, List, length, drop, slice_range, Option, Some, None, ap, subst, sym, arith}
use Rattle.std.proofs.lemmas.List.{length-take, length-drop}
use Rattle.agreement.specs.Texts.Leftmost.{IsLeftmost}

pub same_leftmost : {Is : ℕ → ℕ → Type 0} {at start end start' end' : ℕ} → IsLeftmost Is at start end → IsLeftmost Is at start' end' → (start ≡ start') × (end ≡ end')
same_leftmost {Is} {start} {end} {start'} {end'} f g =
    let a = f.least start' end' g.above g.is in
    let b = g.least start end f.above f.is in
    let same : start ≡ start' = omega (arith, a, b) in
    let c = f.greatest end' (subst (λ x. Is x end') (sym same) g.is) in
    let d = g.greatest end (subst (λ x. Is x end) same f.is) in
    (same, omega (arith, c, d))

pub length_range : (text : List ℕ) (i j : ℕ) → i ≤ j → j ≤ length text → j ≡ i + length (slice_range text i j)
length_range text i j low high = omega (arith, low, high, length-take (j - i) (drop i text), length-drop i text)

or_nought : Option ℕ → ℕ
or_nought None = 0
or_nought (Some n) = n

pub some_inj : (a b : ℕ) → Some a ≡ Some b → a ≡ b
unfolding or_nought
some_inj a b e = ap or_nought e
