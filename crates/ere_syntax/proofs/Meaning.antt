-- A match begins and ends within the text.
use Rattle.std.proofs.Common.{ℕ, zero, suc, ◌≤◌, inl, inr, List, length, arith}
use Rattle.std.proofs.lemmas.Option.{slice_get_within}
use Rattle.ere_syntax.specs.Tree.{Tree, Empty, Set, Start, End, Group, Repeat, Concat, Or}
use Rattle.ere_syntax.specs.Matches.{Iterated, Matches}

abbrev pub IsInside : List ℕ → ℕ → ℕ → Type 0
IsInside text i j = (i ≤ j) × (j ≤ length text)

iterated_inside : (text : List ℕ) (R : ℕ → ℕ → Type 0) → ((i j : ℕ) → R i j → IsInside text i j) → (n i j : ℕ) → i ≤ length text → Iterated R n i j → IsInside text i j
iterated_inside text R h zero i j k m = (omega (arith, m), omega (arith, m))
iterated_inside text R h (suc n) i j k m =
    let a = h i m.0 m.1 in
    let b = iterated_inside text R h n m.0 j a.1 m.2 in
    (omega (arith, a.0, b.0), b.1)

pub matches_inside : (t : Tree) (text : List ℕ) (i j : ℕ) → Matches t text i j → IsInside text i j
matches_inside Empty text i j m = (omega (arith, m.0), omega (arith, m.0, m.1))
matches_inside (Set s) text i j m = let h = slice_get_within text i m.0 m.1 in (omega (arith, m.3), omega (arith, m.3, h))
matches_inside Start text i j m = (omega (arith, m.1), omega (arith, m.0, m.1))
matches_inside End text i j m = (omega (arith, m.1), omega (arith, m.0, m.1))
matches_inside (Group t) text i j m = matches_inside t text i j m
matches_inside (Repeat t low high) text i j m = iterated_inside text (Matches t text) (λ a b h. matches_inside t text a b h) m.0 i j m.3 m.2
matches_inside (Concat a b) text i j m =
    let x = matches_inside a text i m.0 m.1 in
    let y = matches_inside b text m.0 j m.2 in
    (omega (arith, x.0, y.0), y.1)
matches_inside (Or a b) text i j m = elim m [ inl x ↦ matches_inside a text i j x | inr y ↦ matches_inside b text i j y ]
