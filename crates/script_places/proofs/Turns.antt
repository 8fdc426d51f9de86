-- The sections of a module, in a loop.
use Rattle.std.proofs.Common.{◌≡◌, ℕ, suc, ◌+◌, ◌-◌, ◌<◌, ◌≤◌, Option, Some, None, List, refl, arith}
use Rattle.script_places.specs.Reading.{own_in, own_of, section_at}

module _ (found : Option (List ℕ)) (i n : ℕ) (bytes : List ℕ) where
  pub next_section : (id : ℕ) (contents rest : List ℕ) → i < n → section_at bytes ≡ Some (id, contents, rest)
      → own_in (n - (i + 1)) (own_of found id contents) rest ≡ own_in (n - i) found bytes
  next_section id contents rest lt e =
      let m : n - i ≡ suc (n - (i + 1)) = omega (arith, lt) in
      rw (m, e) refl

  pub no_section : i < n → section_at bytes ≡ None → own_in (n - i) found bytes ≡ found
  no_section lt e =
      let m : n - i ≡ suc (n - (i + 1)) = omega (arith, lt) in
      rw (m, e) refl

  pub no_turn : n ≤ i → own_in (n - i) found bytes ≡ found
  no_turn le =
      let m : n - i ≡ 0 = omega (arith, le) in
      rw m refl
