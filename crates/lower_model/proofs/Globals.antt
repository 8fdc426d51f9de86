-- The globals of a module: how a function is being left, the status, a text that is returned, ranges, and for each name a cell for a handle and one for a number.
use Rattle.std.proofs.Common.{◌≡◌, ℕ, suc, ◌+◌, ◌<◌, true, List, [], ◌∷◌, ◌++◌, length, refl, sym, ap, ◌∙◌, arith}
use Rattle.std.specs.Prelude.{get_or, set, nat_lt}
use Rattle.std.proofs.lemmas.List.{length-append, set-set, set-get_or}
use Rattle.std.proofs.lemmas.Bool.{lt-ltb}
use Rattle.lower_model.specs.Cells.{Cell, Gone, cell_at}
use Rattle.lower_model.specs.Places.{way_global, status_global, text_global, range_global, handle_global, number_global}
use Rattle.lower_model.proofs.Regions.{upd, upd_same, cells, pairs, cells_length, pairs_length, cells_at, cells_set, left_at, right_at, left_set, right_set, behind_at, behind_set}

pub record Globals : Type 0 where
  pub way : Cell
  pub status : Cell
  pub text : Cell
  pub range : ℕ → Cell
  pub hand : ℕ → Cell
  pub number : ℕ → Cell

pub data Global : Type 0 where
  Way : Global
  Status : Global
  Text : Global
  Range : ℕ → Global
  Hand : ℕ → Global
  Number : ℕ → Global

module _ (ranges names : ℕ) where
  -- the list of them
  abbrev pub names_on : Globals → List Cell
  names_on g = pairs g.hand g.number names ++ []

  abbrev pub placed : Globals → List Cell
  placed g = g.way ∷ (g.status ∷ (g.text ∷ (cells g.range ranges ++ names_on g)))

  -- the global's number
  abbrev pub global_of : Global → ℕ
  global_of Way = way_global
  global_of Status = status_global
  global_of Text = text_global
  global_of (Range i) = range_global i
  global_of (Hand i) = handle_global ranges i
  global_of (Number i) = number_global ranges i

  abbrev pub IsGlobal : Global → Type 0
  IsGlobal Way = Unit {0}
  IsGlobal Status = Unit {0}
  IsGlobal Text = Unit {0}
  IsGlobal (Range i) = i < ranges
  IsGlobal (Hand i) = i < names
  IsGlobal (Number i) = i < names

  abbrev pub has_global : Globals → Global → Cell
  has_global g Way = g.way
  has_global g Status = g.status
  has_global g Text = g.text
  has_global g (Range i) = g.range i
  has_global g (Hand i) = g.hand i
  has_global g (Number i) = g.number i

  abbrev pub with_global_at : Globals → Global → Cell → Globals
  with_global_at g Way c = record g { way = c }
  with_global_at g Status c = record g { status = c }
  with_global_at g Text c = record g { text = c }
  with_global_at g (Range i) c = record g { range = upd g.range i c }
  with_global_at g (Hand i) c = record g { hand = upd g.hand i c }
  with_global_at g (Number i) c = record g { number = upd g.number i c }

  pub has_global_with : (g : Globals) (p : Global) (c : Cell) → has_global (with_global_at g p c) p ≡ c
  has_global_with g Way c = refl
  has_global_with g Status c = refl
  has_global_with g Text c = refl
  has_global_with g (Range i) c = upd_same g.range i c
  has_global_with g (Hand i) c = upd_same g.hand i c
  has_global_with g (Number i) c = upd_same g.number i c

  placed_length : (g : Globals) → length (placed g) ≡ suc (suc (suc (ranges + (names + names))))
  placed_length g =
      let x = length-append (cells g.range ranges) (names_on g) in
      let y = length-append (pairs g.hand g.number names) [] in
      let p = cells_length g.range ranges in
      let q = pairs_length g.hand g.number names in
      omega (arith, x, y, p, q)

  global_below : (g : Globals) (p : Global) → IsGlobal p → global_of p < length (placed g)
  global_below g Way h = let e = placed_length g in omega (arith, e)
  global_below g Status h = let e = placed_length g in omega (arith, e)
  global_below g Text h = let e = placed_length g in omega (arith, e)
  global_below g (Range i) h = let e = placed_length g in omega (arith, e, h)
  global_below g (Hand i) h = let e = placed_length g in omega (arith, e, h)
  global_below g (Number i) h = let e = placed_length g in omega (arith, e, h)

  pub global_there : (g : Globals) (p : Global) → IsGlobal p → nat_lt (global_of p) (length (placed g)) ≡ true
  global_there g p h = lt-ltb (global_of p) (length (placed g)) (global_below g p h)

  -- behind the ranges
  at_names : (g : Globals) (x k : ℕ) → x ≡ suc (suc (suc (ranges + k))) → cell_at (placed g) x ≡ get_or (names_on g) k Gone
  at_names g x k e = ap (λ n. cell_at (placed g) n) e ∙ behind_at (cells g.range ranges) (names_on g) ranges k Gone (cells_length g.range ranges)

  set_names : (g : Globals) (x k : ℕ) (c : Cell) → x ≡ suc (suc (suc (ranges + k))) → set (placed g) x c ≡ g.way ∷ (g.status ∷ (g.text ∷ (cells g.range ranges ++ set (names_on g) k c)))
  set_names g x k c e = ap (λ n. set (placed g) n c) e ∙ ap (λ r. g.way ∷ (g.status ∷ (g.text ∷ r))) (behind_set (cells g.range ranges) (names_on g) ranges k c (cells_length g.range ranges))

  pub placed_at : (g : Globals) (p : Global) → IsGlobal p → cell_at (placed g) (global_of p) ≡ has_global g p
  placed_at g Way h = refl
  placed_at g Status h = refl
  placed_at g Text h = refl
  placed_at g (Range i) h = cells_at g.range ranges i (names_on g) Gone h
  placed_at g (Hand i) h = at_names g (global_of (Hand i)) (i + i) (omega arith) ∙ left_at g.hand g.number names i [] Gone h
  placed_at g (Number i) h = at_names g (global_of (Number i)) (suc (i + i)) (omega arith) ∙ right_at g.hand g.number names i [] Gone h

  pub placed_set : (g : Globals) (p : Global) (c : Cell) → IsGlobal p → set (placed g) (global_of p) c ≡ placed (with_global_at g p c)
  placed_set g Way c h = refl
  placed_set g Status c h = refl
  placed_set g Text c h = refl
  placed_set g (Range i) c h = ap (λ r. g.way ∷ (g.status ∷ (g.text ∷ r))) (cells_set g.range ranges i (names_on g) c h)
  placed_set g (Hand i) c h = set_names g (global_of (Hand i)) (i + i) c (omega arith) ∙ ap (λ r. g.way ∷ (g.status ∷ (g.text ∷ (cells g.range ranges ++ r)))) (left_set g.hand g.number names i [] c h)
  placed_set g (Number i) c h = set_names g (global_of (Number i)) (suc (i + i)) c (omega arith) ∙ ap (λ r. g.way ∷ (g.status ∷ (g.text ∷ (cells g.range ranges ++ r)))) (right_set g.hand g.number names i [] c h)

  pub placed_twice : (g : Globals) (p : Global) (c d : Cell) → IsGlobal p → placed (with_global_at (with_global_at g p c) p d) ≡ placed (with_global_at g p d)
  placed_twice g p c d h =
      sym (placed_set (with_global_at g p c) p d h)
      ∙ (ap (λ L. set L (global_of p) d) (sym (placed_set g p c h)) ∙ (set-set (placed g) (global_of p) c d ∙ placed_set g p d h))

  pub placed_again : (g : Globals) (p : Global) (c : Cell) → IsGlobal p → has_global g p ≡ c → placed (with_global_at g p c) ≡ placed g
  placed_again g p c h e =
      sym (placed_set g p c h)
      ∙ (ap (λ x. set (placed g) (global_of p) x) (sym e ∙ sym (placed_at g p h))
      ∙ set-get_or (placed g) (global_of p) Gone)
