-- A part of a part, and texts that are compared byte by byte.
use Rattle.std.proofs.Common.{◌≡◌, ◌↔◌, IsTrue, ℕ, ◌+◌, ◌-◌, ◌≤◌, Bool, List, drop, take, length, slice_range, sym, ap, ◌∙◌, arith, rules, bytes_eq}
use Rattle.std.proofs.lemmas.Slice.Eq.{bytes_eq-Decides}
use Rattle.std.proofs.lemmas.List.{drop-drop, drop-take, take-take, length-take}

pub part_of_part : (xs : List ℕ) (start end from to : ℕ) → from ≤ to → to ≤ length (slice_range xs start end) → slice_range xs (start + from) (start + to) ≡ slice_range (slice_range xs start end) from to
part_of_part xs start end from to order within =
    let inside : to ≤ end - start = omega (arith, within, length-take (end - start) (drop start xs)) in
    let rest : from + (end - start - from) ≡ end - start = omega arith in
    let count : start + to - (start + from) ≡ to - from = omega arith in
    let fits : to - from ≤ end - start - from = omega arith in
    sym (ap (take (to - from)) (ap (λ n. drop from (take n (drop start xs))) (sym rest) ∙ drop-take from (end - start - from) (drop start xs))
    ∙ take-take (to - from) (end - start - from) (drop from (drop start xs)) fits
    ∙ ap (take (to - from)) (drop-drop from start xs)
    ∙ ap (λ n. take n (drop (start + from) xs)) (sym count))

pub tested : (xs ys : List ℕ) (r : Bool) → IsTrue r ↔ (xs ≡ ys) → r ≡ bytes_eq xs ys
tested xs ys r h = search (rules, bytes_eq-Decides)
