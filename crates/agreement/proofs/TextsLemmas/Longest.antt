-- Where a separator that begins at a place ends.
use Rattle.std.proofs.Common.{◌≡◌, inl, inr, ℕ, zero, suc, ◌+◌, ◌-◌, ◌<◌, ◌≤◌, Bool, true, false, List, length, get_or, Option, Some, None, refl, ap, subst, ◌∙◌, arith, eqb-true, eq-eqb}
use Rattle.std.specs.Prelude.{◌==◌, ◌&&◌, nat_lt, if◌then◌else◌, slice_get}
use Rattle.std.proofs.lemmas.Bool.Decides.{nat_tests}
use Rattle.std.proofs.lemmas.Option.{slice_get_within, slice_get-get_or, get_or_from_slice_get}
use Rattle.ere_syntax.specs.Tree.{Tree}
use Rattle.ere_syntax.specs.Matches.{Matches}
use Rattle.ere_syntax.proofs.Meaning.{matches_inside}
use Rattle.ere_syntax.specs.FirstMatch.{IsFirstMatch}
use Rattle.sem_primitives.specs.FirstMatch.{longest, or_next, first_by, first_match}
use Rattle.sem_primitives.specs.Fields.{newline_end, end_or_newline}
use Rattle.sem_primitives.proofs.Firsts.{first_match_is}
use Rattle.agreement.specs.Texts.Fields.{IsFullMatch, Separates}

-- ---- the longest match from a place

abbrev IsLongest : Tree → List ℕ → ℕ → Option ℕ → Type 0
IsLongest t text at None = (j : ℕ) → Matches t text at j → ⊥
IsLongest t text at (Some end) = Matches t text at end × ((j : ℕ) → Matches t text at j → j ≤ end)

abbrev start_of : Option (ℕ × ℕ) → ℕ
start_of None = 0
start_of (Some p) = p.0

later : (end : ℕ → Option ℕ) (n at : ℕ) (p : ℕ × ℕ) → first_by end n at ≡ Some p → at ≤ p.0
later end zero at p e = absurd cc
later end (suc n) at p e = by (end at) e (later end n (at + 1) p)
  where
    by : (o : Option ℕ) → or_next o at (first_by end n) ≡ Some p → (first_by end n (at + 1) ≡ Some p → at + 1 ≤ p.0) → at ≤ p.0
    by (Some to) e more = let same : at ≡ p.0 = ap start_of e in omega (arith, same)
    by None e more = let above = more e in omega (arith, above)

longest_is : (t : Tree) (text : List ℕ) (at : ℕ) → at ≤ length text → IsLongest t text at (longest t text at)
longest_is t text at inside = by (longest t text at) refl
  where
    tries : ℕ
    tries = length text - at

    first : first_match t text at ≡ or_next (longest t text at) at (first_by (longest t text) tries)
    first = let sum : length text + 1 - at ≡ suc tries = omega (arith, inside) in ap (λ n. first_by (longest t text) n at) sum

    none : (r : Option (ℕ × ℕ)) → first_by (longest t text) tries (at + 1) ≡ r → IsFirstMatch t text at r → (j : ℕ) → Matches t text at j → ⊥
    none None e f j m = f at j (omega arith) m
    none (Some p) e f j m = let least = f.least at j (omega arith) m in let above = later (longest t text) tries (at + 1) p e in omega (arith, least, above)

    by : (o : Option ℕ) → longest t text at ≡ o → IsLongest t text at o
    by (Some end) e =
        let same : first_match t text at ≡ Some (at, end) = first ∙ ap (λ o. or_next o at (first_by (longest t text) tries)) e in
        let f : IsFirstMatch t text at (Some (at, end)) = subst (IsFirstMatch t text at) same (first_match_is t text at) in
        (f.matches, f.greatest)
    by None e =
        let same : first_match t text at ≡ first_by (longest t text) tries (at + 1) = first ∙ ap (λ o. or_next o at (first_by (longest t text) tries)) e in
        none (first_by (longest t text) tries (at + 1)) refl (subst (IsFirstMatch t text at) same (first_match_is t text at))

-- ---- the separator at a place

abbrev pub IsEnd : (ℕ → ℕ → Type 0) → ℕ → Option ℕ → Type 0
IsEnd Is at None = (j : ℕ) → Is at j → ⊥
IsEnd Is at (Some end) = Is at end × ((j : ℕ) → Is at j → j ≤ end)

newline_at : (newlines : Bool) (text : List ℕ) (at : ℕ) → at < length text → (newlines && (get_or text at 0 == 10)) ≡ true → (newlines ≡ true) × (slice_get text at ≡ Some 10)
newline_at true text at inside e = (refl, slice_get-get_or text at 0 inside ∙ ap (λ c. Some c) (eqb-true (get_or text at 0) 10 e))
newline_at false text at inside e = absurd cc

newline_test : (newlines : Bool) (text : List ℕ) (at : ℕ) → newlines ≡ true → slice_get text at ≡ Some 10 → (newlines && (get_or text at 0 == 10)) ≡ true
newline_test true text at e s = eq-eqb (get_or text at 0) 10 (get_or_from_slice_get text at 10 0 s)
newline_test false text at e s = absurd cc

-- where no match is left, a newline may separate
newline_is : (t : Tree) (newlines : Bool) (text : List ℕ) (at : ℕ) → at < length text → ((j : ℕ) → Matches t text at j → at < j → ⊥)
    → IsEnd (Separates (IsFullMatch t text) newlines text) at (newline_end newlines text at)
newline_is t newlines text at inside none = by (newlines && (get_or text at 0 == 10)) refl
  where
    most : (j : ℕ) → Separates (IsFullMatch t text) newlines text at j → j ≤ at + 1
    most j (inl m) = absurd (none j m.0 m.1)
    most j (inr n) = omega (arith, n.1.1)

    by : (b : Bool) → (newlines && (get_or text at 0 == 10)) ≡ b → IsEnd (Separates (IsFullMatch t text) newlines text) at (if b then Some (at + 1) else None)
    by true e = let h = newline_at newlines text at inside e in (inr (h.0, (h.1, refl)), most)
    by false e = λ j s. elim s [ inl m ↦ none j m.0 m.1 | inr n ↦ (let h = newline_test newlines text at n.0 n.1.0 in absurd cc) ]

less_false : (a b : ℕ) → nat_lt a b ≡ false → b ≤ a
less_false a b e = grind (arith, nat_tests)

less_true : (a b : ℕ) → nat_lt a b ≡ true → a < b
less_true a b e = grind (arith, nat_tests)

pub end_is : (t : Tree) (newlines : Bool) (text : List ℕ) (at : ℕ) → at < length text
    → IsEnd (Separates (IsFullMatch t text) newlines text) at (end_or_newline newlines text at (longest t text at))
end_is t newlines text at inside = by (longest t text at) (longest_is t text at (omega (arith, inside)))
  where
    longer : (end : ℕ) → IsLongest t text at (Some end) → (b : Bool) → nat_lt at end ≡ b
        → IsEnd (Separates (IsFullMatch t text) newlines text) at (if b then Some end else newline_end newlines text at)
    longer end h true e =
        let less = less_true at end e in
        (inl (h.0, less), λ j s. elim s [ inl m ↦ h.1 j m.0 | inr n ↦ omega (arith, n.1.1, less) ])
    longer end h false e = newline_is t newlines text at inside λ j m low. (let most = h.1 j m in let short = less_false at end e in omega (arith, most, short, low))

    by : (o : Option ℕ) → IsLongest t text at o → IsEnd (Separates (IsFullMatch t text) newlines text) at (end_or_newline newlines text at o)
    by None h = newline_is t newlines text at inside λ j m low. h j m
    by (Some end) h = longer end h (nat_lt at end) refl

-- a separator is not empty, and lies in the text
pub separator_inside : (t : Tree) (newlines : Bool) (text : List ℕ) (i j : ℕ) → Separates (IsFullMatch t text) newlines text i j → (i < j) × (j ≤ length text)
separator_inside t newlines text i j (inl m) = (m.1, (matches_inside t text i j m.0).1)
separator_inside t newlines text i j (inr n) = let low = slice_get_within text i 10 n.1.0 in (omega (arith, n.1.1), omega (arith, low, n.1.1))
