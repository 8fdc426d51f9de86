-- The keys of an order one after the other: what a place adds, and which part of them its key is.
use Rattle.std.proofs.Common.{◌≡◌, ℕ, zero, suc, ◌+◌, ◌-◌, ◌<◌, ◌≤◌, List, [], ◌∷◌, ◌++◌, length, take, drop, slice_range, Some, None, get_or, refl, sym, ap, ◌∙◌, arith, append-nil, append_assoc, length-append}
use Rattle.std.proofs.lemmas.Option.{none-some, same_Some}
use Rattle.std.proofs.lemmas.List.{drop_at, drop-take, take_at, take_more, take-append-drop, take-take}
use Rattle.std.proofs.lemmas.List.Elements.{filter_map-append}
use Rattle.std.specs.List.{filter_map}
use Rattle.host_arrays.specs.Keys.{joined}
use Rattle.host_arrays.specs.Order.{Order}

pub joined-append : (front rest : Order) → joined (front ++ rest) ≡ joined front ++ joined rest
joined-append [] rest = refl
joined-append (None ∷ front) rest = joined-append front rest
joined-append (Some k ∷ front) rest = ap (λ bytes. k ++ bytes) (joined-append front rest) ∙ sym (append_assoc k (joined front) (joined rest))

pub joined_push_key : (front : Order) (k : List ℕ) → joined (front ++ Some k ∷ []) ≡ joined front ++ k
joined_push_key front k = joined-append front (Some k ∷ []) ∙ ap (λ bytes. joined front ++ bytes) (append-nil k)

pub joined_push_hole : (front : Order) → joined (front ++ None ∷ []) ≡ joined front
joined_push_hole front = joined-append front (None ∷ []) ∙ append-nil (joined front)

next : (i : ℕ) → suc i ≡ i + 1
next i = omega arith

-- past a hole the same bytes are left
pub left_past_hole : (order : Order) (i : ℕ) → get_or order i None ≡ None → joined (drop i order) ≡ joined (drop (suc i) order)
left_past_hole [] zero hole = refl
left_past_hole [] (suc i) hole = refl
left_past_hole (None ∷ rest) zero hole = refl
left_past_hole (None ∷ rest) (suc i) hole = left_past_hole rest i hole
left_past_hole (Some q ∷ rest) zero hole = absurd (none-some q (sym hole))
left_past_hole (Some q ∷ rest) (suc i) hole = left_past_hole rest i hole

pub left_after_hole : (order : Order) (i left : ℕ) → left ≡ length (joined (drop i order)) → get_or order i None ≡ None → left ≡ length (joined (drop (i + 1) order))
left_after_hole order i left rest hole = rest ∙ ap length (left_past_hole order i hole) ∙ ap (λ n. length (joined (drop n order))) (next i)

-- from a key on: the key, and what is left past it
pub left_from_key : (order : Order) (i : ℕ) (k : List ℕ) → get_or order i None ≡ Some k → joined (drop i order) ≡ k ++ joined (drop (suc i) order)
left_from_key [] i k at = absurd (none-some k at)
left_from_key (None ∷ rest) zero k at = absurd (none-some k at)
left_from_key (None ∷ rest) (suc i) k at = left_from_key rest i k at
left_from_key (Some q ∷ rest) zero k at = ap (λ bytes. bytes ++ joined rest) (same_Some q k at)
left_from_key (Some q ∷ rest) (suc i) k at = left_from_key rest i k at

-- a key of `many` bytes at a place of an order, where `left` of the `end` bytes are left
module _ (order : Order) (i : ℕ) (k text : List ℕ) (end left many : ℕ) (at : get_or order i None ≡ Some k) (is : text ≡ joined order) (all : end ≡ length text) (rest : left ≡ length (joined (drop i order))) (size : many ≡ length k) where
  pub left_there : left ≡ length k + length (joined (drop (suc i) order))
  left_there = rest ∙ ap length (left_from_key order i k at) ∙ length-append k (joined (drop (suc i) order))

  pub key_fits : many ≤ left
  key_fits = omega (arith, left_there, size)

  pub left_after : left - many ≡ length (joined (drop (i + 1) order))
  left_after =
      let after : left - many ≡ length (joined (drop (suc i) order)) = omega (arith, left_there, size) in
      after ∙ ap (λ n. length (joined (drop n order))) (next i)

  split : text ≡ joined (take i order) ++ (k ++ joined (drop (suc i) order))
  split =
      is ∙ ap joined (sym (take-append-drop i order)) ∙ joined-append (take i order) (drop i order)
      ∙ ap (λ bytes. joined (take i order) ++ bytes) (left_from_key order i k at)

  sizes : end ≡ length (joined (take i order)) + (length k + length (joined (drop (suc i) order)))
  sizes =
      all ∙ ap length split ∙ length-append (joined (take i order)) (k ++ joined (drop (suc i) order))
      ∙ ap (λ n. length (joined (take i order)) + n) (length-append k (joined (drop (suc i) order)))

  pub left_within : left ≤ end
  left_within = omega (arith, sizes, left_there)

  pub key_part : slice_range text (end - left) (end - (left - many)) ≡ k
  key_part =
      let before = joined (take i order) in
      let after = joined (drop (suc i) order) in
      let from : end - left ≡ length before = omega (arith, sizes, left_there) in
      let count : end - (left - many) - (end - left) ≡ length k = omega (arith, sizes, left_there, size) in
      ap (take (end - (left - many) - (end - left))) (ap (λ n. drop n text) from ∙ ap (drop (length before)) split ∙ drop_at before (k ++ after) (length before) refl)
      ∙ ap (λ n. take n (k ++ after)) count ∙ take_at k after (length k) refl

-- one place on, the bytes so far
module _ (order : Order) (i : ℕ) (bytes : List ℕ) (held : bytes ≡ joined (take i order)) (within : i < length order) where
  pub joined_more_key : (new k : List ℕ) → get_or order i None ≡ Some k → new ≡ bytes ++ k → new ≡ joined (take (i + 1) order)
  joined_more_key new k at pushed =
      pushed ∙ ap (λ front. front ++ k) held
      ∙ sym (ap joined (take_more order i None within ∙ ap (λ slot. take i order ++ slot ∷ []) at) ∙ joined_push_key (take i order) k)

  pub joined_more_hole : get_or order i None ≡ None → bytes ≡ joined (take (i + 1) order)
  joined_more_hole hole =
      held ∙ sym (ap joined (take_more order i None within ∙ ap (λ slot. take i order ++ slot ∷ []) hole) ∙ joined_push_hole (take i order))

-- one place on, the keys so far
module _ (order : Order) (i : ℕ) (old keys : List (List ℕ)) (held : keys ≡ old ++ filter_map (λ slot. slot) (take i order)) (within : i < length order) where
  pub listed_more_key : (new : List (List ℕ)) (k : List ℕ) → get_or order i None ≡ Some k → new ≡ keys ++ k ∷ [] → new ≡ old ++ filter_map (λ slot. slot) (take (i + 1) order)
  listed_more_key new k at pushed =
      pushed ∙ ap (λ front. front ++ k ∷ []) held ∙ append_assoc old (filter_map (λ slot. slot) (take i order)) (k ∷ [])
      ∙ ap (λ more. old ++ more) (sym (ap (filter_map (λ slot. slot)) (take_more order i None within ∙ ap (λ slot. take i order ++ slot ∷ []) at) ∙ filter_map-append (λ slot. slot) (take i order) (Some k ∷ [])))

  pub listed_more_hole : get_or order i None ≡ None → keys ≡ old ++ filter_map (λ slot. slot) (take (i + 1) order)
  listed_more_hole hole =
      held
      ∙ ap (λ more. old ++ more) (sym (ap (filter_map (λ slot. slot)) (take_more order i None within ∙ ap (λ slot. take i order ++ slot ∷ []) hole) ∙ filter_map-append (λ slot. slot) (take i order) (None ∷ []) ∙ append-nil (filter_map (λ slot. slot) (take i order))))

-- the keys of the first places of the rest go after those before it
pub listed_on : (order : Order) (from many : ℕ) (keys new : List (List ℕ)) → keys ≡ filter_map (λ slot. slot) (take from order) → new ≡ keys ++ filter_map (λ slot. slot) (take many (drop from order)) → new ≡ filter_map (λ slot. slot) (take (from + many) order)
listed_on order from many keys new held added =
    let before : from ≤ from + many = omega arith in
    let split : take from order ++ take many (drop from order) ≡ take (from + many) order =
    ap (λ front. front ++ take many (drop from order)) (sym (take-take from (from + many) order before)) ∙ ap (λ rest. take from (take (from + many) order) ++ rest) (sym (drop-take from many order)) ∙ take-append-drop from (take (from + many) order) in
    added ∙ ap (λ front. front ++ filter_map (λ slot. slot) (take many (drop from order))) held
    ∙ sym (filter_map-append (λ slot. slot) (take from order) (take many (drop from order))) ∙ ap (filter_map (λ slot. slot)) split
