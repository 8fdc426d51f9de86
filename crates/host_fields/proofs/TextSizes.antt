-- How many bytes the texts of fields have, and `$0` that is made of them.
use Rattle.std.proofs.Common.{◌≡◌, ℕ, zero, suc, ◌+◌, ◌-◌, ◌*◌, ◌≤◌, List, [], ◌∷◌, ◌++◌, length, take, drop, drop_of_length-le, get_or, replicate, slice_set, refl, sym, ap, ◌∙◌, arith}
use Rattle.std.specs.List.{sum_by}
use Rattle.std.proofs.lemmas.List.{length-append, length-replicate}
use Rattle.std.proofs.lemmas.List.Folds.{sum_by-replicate}
use Rattle.std.proofs.lemmas.List.Sums.{sum_by-append, sum_by-cons, sum_by-set, sum_by-take-drop}
use Rattle.awk_values.specs.Values.{text_of_value}
use Rattle.awk_values.specs.declared.value.Value.{Value}
use Rattle.awk_values.specs.declared.value.Value.TheVariants.{Uninit}
use Rattle.sem_primitives.specs.FieldMeaning.{at_least, joined, resized}
use Rattle.host_fields.specs.Held.{text_size}

joined_gaps : (between : List ℕ) (v : Value) (vs : List Value) → length (joined between (v ∷ vs)) ≡ sum_by text_size (v ∷ vs) + length vs * length between
joined_gaps between v [] = let one = sum_by-cons text_size v [] in omega (arith, one)
joined_gaps between v (w ∷ rest) =
    let outer = length-append (text_of_value v) (between ++ joined between (w ∷ rest)) in
    let inner = length-append between (joined between (w ∷ rest)) in
    let more = joined_gaps between w rest in
    let first = sum_by-cons text_size v (w ∷ rest) in
    omega (arith, outer, inner, more, first)

-- `$0` has the bytes of its fields, and those between them
pub joined_size : (between : List ℕ) (vs : List Value) → length (joined between vs) ≡ sum_by text_size vs + (length vs - 1) * length between
joined_size between [] = omega arith
joined_size between (v ∷ vs) =
    let less : length (v ∷ vs) - 1 ≡ length vs = omega arith in
    joined_gaps between v vs ∙ ap (λ n. sum_by text_size (v ∷ vs) + n * length between) (sym less)

none_size : (n : ℕ) → sum_by text_size (replicate n Uninit) ≡ 0
none_size n = let none = sum_by-replicate text_size n Uninit in omega (arith, none)

-- fields without a value have no bytes
least_size : (n : ℕ) (own : List Value) → sum_by text_size (at_least n own) ≡ sum_by text_size own
least_size n own =
    let added = sum_by-append text_size own (replicate (n - length own) Uninit) in
    omega (arith, added, none_size (n - length own))

none_there : (n at : ℕ) → get_or (replicate n Uninit) at Uninit ≡ Uninit
none_there zero at = refl
none_there (suc n) zero = refl
none_there (suc n) (suc at) = none_there n at

there_still : (own : List Value) (n at : ℕ) → get_or (own ++ replicate n Uninit) at Uninit ≡ get_or own at Uninit
there_still [] n at = none_there n at
there_still (v ∷ vs) n zero = refl
there_still (v ∷ vs) n (suc at) = there_still vs n at

-- a field is another
pub set_size : (own : List Value) (at : ℕ) (v : Value) → sum_by text_size (slice_set (at_least (at + 1) own) at v) + text_size (get_or own at Uninit) ≡ sum_by text_size own + text_size v
set_size own at v =
    let long = length-append own (replicate (at + 1 - length own) Uninit) in
    let added = length-replicate (at + 1 - length own) Uninit in
    let put = sum_by-set text_size (at_least (at + 1) own) at v Uninit (omega (arith, long, added)) in
    let former = ap text_size (there_still own (at + 1 - length own) at) in
    omega (arith, put, former, least_size (at + 1) own)

-- fields are cut off
pub cut_size : (own : List Value) (count : ℕ) → sum_by text_size (resized count own) + sum_by text_size (drop count own) ≡ sum_by text_size own
cut_size own count =
    let parts = sum_by-append text_size (take count own) (replicate (count - length own) Uninit) in
    omega (arith, parts, none_size (count - length own), sum_by-take-drop text_size own count)

-- or none is
pub all_size : (own : List Value) (count : ℕ) → length own ≤ count → sum_by text_size (resized count own) ≡ sum_by text_size own
all_size own count past =
    let none = ap (sum_by text_size) (drop_of_length-le own past) in
    omega (arith, none, cut_size own count)

pub former_le : (own : List Value) (at : ℕ) → text_size (get_or own at Uninit) ≤ sum_by text_size own
former_le own at = let none = set_size own at Uninit in omega (arith, none)
