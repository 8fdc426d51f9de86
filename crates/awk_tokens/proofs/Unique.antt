-- A script has one longest cutting.
use Rattle.std.proofs.Common.{◌≡◌, ℕ, ◌<◌, ◌≤◌, Bool, true, false, None, List, [], ◌∷◌, ◌++◌, length, take, drop, refl, sym, ap, subst, ◌∙◌, inl, inr, arith, length-append, append_assoc}
use Rattle.std.specs.Prelude.{is_some}
use Rattle.std.proofs.Math.Seq.{take-append_seam, drop-append_seam}
use Rattle.std.proofs.lemmas.Bool.{cases_lt}
use Rattle.awk_tokens.specs.Pieces.{piece_of}
use Rattle.awk_tokens.proofs.Maximal.{false-true}
use Rattle.awk_tokens.specs.Cutting.{Context, divides, after_text, IsLongest, IsStop, joined, IsCutting}

-- a piece that is longer than one that can be no longer
longer : (d : Bool) (t u r s : List ℕ) → t ++ r ≡ u ++ s → length t < length u → IsLongest d t r → is_some (piece_of d u) ≡ true → ⊥
longer d t u r s e lt a p =
    let fits : length u ≤ length (t ++ r) = subst (λ (x : List ℕ). length u ≤ length x) (sym e) (omega (arith, length-append u s)) in
    let front : take (length u) (t ++ r) ≡ u = ap (take (length u)) e ∙ take-append_seam u s in
    let none : piece_of d u ≡ None = ap (piece_of d) (sym front) ∙ a.longest (length u) lt fits in
    let clash : false ≡ true = ap is_some (sym none) ∙ p in
    false-true clash

pub one_front : (d : Bool) (t u r s : List ℕ) → t ++ r ≡ u ++ s → IsLongest d t r → IsLongest d u s → (t ≡ u) × (r ≡ s)
one_front d t u r s e a b = elim (cases_lt (length t) (length u)) [
  | inl lt ↦ absurd (longer d t u r s e lt a b.piece)
  | inr ge ↦ elim (cases_lt (length u) (length t)) [
    | inl gt ↦ absurd (longer d u t s r (sym e) gt b a.piece)
    | inr le ↦ (let same : length t ≡ length u = omega arith in (
      sym (take-append_seam t r) ∙ ap (λ (n : ℕ). take n (t ++ r)) same ∙ ap (take (length u)) e ∙ take-append_seam u s,
      sym (drop-append_seam t r) ∙ ap (λ (n : ℕ). drop n (t ++ r)) same ∙ ap (drop (length u)) e ∙ drop-append_seam u s,
    ))
  ]
]

-- where nothing is a piece, no piece stands
no_piece : (d : Bool) (t r rest : List ℕ) → rest ≡ t ++ r → IsStop d rest → is_some (piece_of d t) ≡ true → ⊥
no_piece d t r rest e stop p =
    let fits : length t ≤ length rest = subst (λ (x : List ℕ). length t ≤ length x) (sym e) (omega (arith, length-append t r)) in
    let none : piece_of d t ≡ None = ap (piece_of d) (sym (ap (take (length t)) e ∙ take-append_seam t r)) ∙ stop (length t) fits in
    let clash : false ≡ true = ap is_some (sym none) ∙ p in
    false-true clash

-- two cuttings of the same bytes in the same context are one
pub one_cutting : (before : Context) (ts us : List (List ℕ)) (r s : List ℕ) → joined ts ++ r ≡ joined us ++ s → IsCutting before ts r → IsCutting before us s → (ts ≡ us) × (r ≡ s)
one_cutting before [] [] r s e a b = (refl, e)
one_cutting before [] (u ∷ us) r s e a b = absurd (no_piece (divides before) u (joined us ++ s) r (e ∙ append_assoc u (joined us) s) a b.0.piece)
one_cutting before (t ∷ ts) [] r s e a b = absurd (no_piece (divides before) t (joined ts ++ r) s (sym e ∙ append_assoc t (joined ts) r) b a.0.piece)
one_cutting before (t ∷ ts) (u ∷ us) r s e a b =
    let whole : t ++ (joined ts ++ r) ≡ u ++ (joined us ++ s) = sym (append_assoc t (joined ts) r) ∙ e ∙ append_assoc u (joined us) s in
    let one = one_front (divides before) t u (joined ts ++ r) (joined us ++ s) whole a.0 b.0 in
    let here : after_text before u (joined us ++ s) ≡ after_text before t (joined ts ++ r) = ap (λ (p : List ℕ × List ℕ). after_text before p.0 p.1) (ap (λ (x : List ℕ). (x, joined us ++ s)) (sym one.0) ∙ ap (λ (x : List ℕ). (t, x)) (sym one.1)) in
    let rest = one_cutting (after_text before t (joined ts ++ r)) ts us r s one.1 a.1 (subst (λ (x : Context). IsCutting x us s) here b.1) in
    (ap (λ (x : List ℕ). x ∷ ts) one.0 ∙ ap (λ (xs : List (List ℕ)). u ∷ xs) rest.0, rest.1)
