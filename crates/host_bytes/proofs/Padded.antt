-- Zeros that fill a width.
use Rattle.std.proofs.Common.{◌≡◌, ℕ, ◌+◌, ◌-◌, max, List, ◌++◌, length, sym, ap, ◌∙◌, append_assoc, arith}
use Rattle.std.proofs.lemmas.List.{length-append, length-replicate, replicate-append-replicate}
use Rattle.sem_primitives.specs.Formats.{filled, zeros}

gap_is : (width z low front rest : ℕ) → low ≡ width - (front + (0 + rest)) → max z low ≡ (width - front - (z + rest)) + z
gap_is width z low front rest e = omega arith

length_zeros : (n : ℕ) (rest : List ℕ) → length (zeros n ++ rest) ≡ n + length rest
length_zeros n rest = length-append (zeros n) rest ∙ ap (λ k. k + length rest) (length-replicate n 48)

-- zeros that fill a width, in front of others
pub filled_more : (width z low : ℕ) (front rest : List ℕ) → low ≡ width - length (front ++ (zeros 0 ++ rest)) → zeros (max z low) ++ rest ≡ filled (width - length front) (zeros z ++ rest)
filled_more width z low front rest e =
    ap (λ n. zeros n ++ rest) (gap_is width z low (length front) (length rest) (e ∙ ap (λ n. width - n) (length-append front (zeros 0 ++ rest) ∙ ap (λ n. length front + n) (length_zeros 0 rest))))
    ∙ (ap (λ xs. xs ++ rest) (sym (replicate-append-replicate (width - length front - (z + length rest)) z 48))
    ∙ (append_assoc (zeros (width - length front - (z + length rest))) (zeros z) rest
    ∙ ap (λ n. zeros (width - length front - n) ++ (zeros z ++ rest)) (sym (length_zeros z rest))))
