-- Locals as runs: how many there are, which one a number is of, and one run more.
use Rattle.std.proofs.Common.{◌≡◌, ℕ, zero, suc, ◌+◌, ◌-◌, ◌<◌, ◌≤◌, List, [], ◌∷◌, ◌++◌, length, replicate, get_or, Some, None, refl, sym, ap, subst, ◌∙◌, append_assoc, length-append, arith}
use Rattle.std.specs.Prelude.{slice_get}
use Rattle.std.proofs.lemmas.List.{append-nil, length-replicate}
use Rattle.std.proofs.lemmas.Option.{slice_get_past}
use Rattle.wasm_types.specs.declared.types.ValType.{ValType}
use Rattle.wasm_types.specs.declared.locals.Run.{Run}
use Rattle.wasm_types.specs.Runs.{Rises, expanded_from, past_all, start_of}

-- ---- how many

pub no_fewer : (first : ℕ) (rs : List Run) → Rises first rs → first ≤ past_all first rs
no_fewer first [] h = omega arith
no_fewer first (r ∷ rs) h = let next = no_fewer r.end rs h.1 in let one = h.0 in omega (arith, next, one)

pub how_many : (first : ℕ) (rs : List Run) → Rises first rs → first + length (expanded_from first rs) ≡ past_all first rs
how_many first [] h = omega arith
how_many first (r ∷ rs) h =
    let one = h.0 in
    let next = how_many r.end rs h.1 in
    let both = length-append (replicate (r.end - first) r.ty) (expanded_from r.end rs) in
    let here = length-replicate (r.end - first) r.ty in
    omega (arith, one, next, both, here)

pub last_end : (first : ℕ) (rs : List Run) (k : ℕ) (d : Run) → length rs ≡ suc k → (get_or rs k d).end ≡ past_all first rs
last_end first [] k d h = absurd (omega (arith, h))
last_end first (r ∷ []) zero d h = refl
last_end first (r ∷ []) (suc k) d h = absurd (omega (arith, h))
last_end first (r ∷ (s ∷ rs)) zero d h = absurd (omega (arith, h))
last_end first (r ∷ (s ∷ rs)) (suc k) d h = last_end r.end (s ∷ rs) k d (omega (arith, h))

-- ---- one more

pub rises_more : (first : ℕ) (rs : List Run) (r : Run) → Rises first rs → past_all first rs < r.end → Rises first (rs ++ r ∷ [])
rises_more first [] r h less = (less, tt)
rises_more first (s ∷ rs) r h less = (h.0, rises_more s.end rs r h.1 less)

pub expanded_more : (first : ℕ) (rs : List Run) (r : Run) → expanded_from first (rs ++ r ∷ []) ≡ expanded_from first rs ++ replicate (r.end - past_all first rs) r.ty
expanded_more first [] r = append-nil (replicate (r.end - first) r.ty)
expanded_more first (s ∷ rs) r =
    ap (λ (ts : List ValType). replicate (s.end - first) s.ty ++ ts) (expanded_more s.end rs r)
    ∙ sym (append_assoc (replicate (s.end - first) s.ty) (expanded_from s.end rs) (replicate (r.end - past_all s.end rs) r.ty))

-- ---- the run of a number

pub start_next : (first : ℕ) (rs : List Run) (k : ℕ) (d : Run) → k < length rs → start_of first rs (k + 1) ≡ (get_or rs k d).end
start_next first rs k d h = let next : k + 1 ≡ suc k = omega arith in ap (start_of first rs) next ∙ by first rs k h
  where
    by : (first : ℕ) (rs : List Run) (k : ℕ) → k < length rs → start_of first rs (suc k) ≡ (get_or rs k d).end
    by first [] k h = absurd (omega (arith, h))
    by first (r ∷ rs) zero h = refl
    by first (r ∷ rs) (suc k) h = by r.end rs k (omega (arith, h))

start_least : (first : ℕ) (rs : List Run) (k : ℕ) → Rises first rs → first ≤ start_of first rs k
start_least first rs zero h = omega arith
start_least first [] (suc k) h = omega arith
start_least first (r ∷ rs) (suc k) h = let next = start_least r.end rs k h.1 in let one = h.0 in omega (arith, next, one)

start_past : (first : ℕ) (rs : List Run) → start_of first rs (length rs) ≡ past_all first rs
start_past first [] = refl
start_past first (r ∷ rs) = start_past r.end rs

in_front : (n i : ℕ) (t : ValType) (ts : List ValType) → i < n → slice_get (replicate n t ++ ts) i ≡ Some t
in_front zero i t ts h = absurd (omega (arith, h))
in_front (suc n) zero t ts h = refl
in_front (suc n) (suc i) t ts h = in_front n i t ts (omega (arith, h))

behind : (n i : ℕ) (t : ValType) (ts : List ValType) → slice_get (replicate n t ++ ts) (n + i) ≡ slice_get ts i
behind zero i t ts = let none : 0 + i ≡ i = omega arith in ap (slice_get ts) none
behind (suc n) i t ts = let next : suc n + i ≡ suc (n + i) = omega arith in ap (slice_get (replicate (suc n) t ++ ts)) next ∙ behind n i t ts

found_from : (first : ℕ) (rs : List Run) (k i : ℕ) (d : Run) → Rises first rs → k < length rs → start_of first rs k ≤ first + i → first + i < (get_or rs k d).end → slice_get (expanded_from first rs) i ≡ Some (get_or rs k d).ty
found_from first [] k i d h l from to = absurd (omega (arith, l))
found_from first (r ∷ rs) zero i d h l from to = in_front (r.end - first) i r.ty (expanded_from r.end rs) (omega (arith, to))
found_from first (r ∷ rs) (suc k) i d h l from to =
    let one = h.0 in
    let least = start_least r.end rs k h.1 in
    let n = r.end - first in
    let parts : i ≡ n + (i - n) = omega (arith, one, least, from) in
    let same : first + i ≡ r.end + (i - n) = omega (arith, one, least, from) in
    ap (slice_get (replicate n r.ty ++ expanded_from r.end rs)) parts
    ∙ (behind n (i - n) r.ty (expanded_from r.end rs)
    ∙ found_from r.end rs k (i - n) d h.1 (omega (arith, l)) (subst (λ (x : ℕ). start_of r.end rs k ≤ x) same from) (subst (λ (x : ℕ). x < (get_or rs k d).end) same to))

pub found : (rs : List Run) (k n : ℕ) (d : Run) → Rises 0 rs → k < length rs → start_of 0 rs k ≤ n → n < (get_or rs k d).end → slice_get (expanded_from 0 rs) n ≡ Some (get_or rs k d).ty
found rs k n d h l from to =
    let none : n ≡ 0 + n = omega arith in
    found_from 0 rs k n d h l (subst (λ (x : ℕ). start_of 0 rs k ≤ x) none from) (subst (λ (x : ℕ). x < (get_or rs k d).end) none to)

pub not_found : (rs : List Run) (k n : ℕ) → Rises 0 rs → length rs ≤ k → k ≤ length rs → start_of 0 rs k ≤ n → slice_get (expanded_from 0 rs) n ≡ None
not_found rs k n h over l from =
    let all : k ≡ length rs = omega (arith, over, l) in
    let past = ap (start_of 0 rs) all ∙ start_past 0 rs in
    let many = how_many 0 rs h in
    slice_get_past (expanded_from 0 rs) n (omega (arith, past, many, from))
