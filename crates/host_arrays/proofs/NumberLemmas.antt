-- An array that stays the same leaves the others and itself.
use Rattle.std.proofs.Common.{◌≡◌, ℤ, Option, Some, None, is_some, true, refl, sym, true≢false}
use Rattle.std.specs.FinMap as map
use Rattle.std.specs.Ordering.{int_cmp}
use Rattle.host_handles.proofs.NumberLemmas.{insert_same}
use Rattle.host_arrays.specs.Pairs.{Pairs, pairs_at, pairs_or_none}

pub insert-same : (arrays : map.FinMap int_cmp Pairs) (h : ℤ) → map.contains_key arrays h ≡ true → map.insert arrays h (pairs_at arrays h) ≡ arrays
insert-same arrays h taken = insert_same arrays h (pairs_at arrays h) (there (map.get arrays h) taken)
  where
    there : (o : Option Pairs) → is_some o ≡ true → o ≡ Some (pairs_or_none o)
    there None some = absurd (true≢false (sym some))
    there (Some pairs) some = refl
