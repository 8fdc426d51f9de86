-- What holds of each store of a program.
use Rattle.std.proofs.Common.{ℕ, suc, List, [], ◌∷◌}
use Rattle.mid_program.specs.Mid.{Program, Routine}
use Rattle.mid_program.specs.Stores.{Every, Store}
use Rattle.value_kinds.specs.Found.{InRoutines, Throughout}
use Rattle.value_kinds.specs.Lanes.{function_count}

-- two words for each store give a third
module _ (P Q R : ℕ → Store → Type 0) (give : (g : ℕ) (s : Store) → P g s → Q g s → R g s) where
  every_gives : (g : ℕ) (ss : List Store) → Every (P g) ss → Every (Q g) ss → Every (R g) ss
  every_gives g [] h k = tt
  every_gives g (s ∷ ss) h k = (give g s h.0 k.0, every_gives g ss h.1 k.1)

  routines_give : (g : ℕ) (rs : List Routine) → InRoutines P g rs → InRoutines Q g rs → InRoutines R g rs
  routines_give g [] h k = tt
  routines_give g (r ∷ rs) h k = (every_gives g _ h.0 k.0, routines_give (suc g) rs h.1 k.1)

  pub throughout_gives : (p : Program) → Throughout P p → Throughout Q p → Throughout R p
  throughout_gives p h k =
      let none = function_count p.routines in
      (routines_give 0 p.routines h.0 k.0, (every_gives none _ h.1.0 k.1.0, (every_gives none _ h.1.1.0 k.1.1.0, every_gives none _ h.1.1.1 k.1.1.1)))

-- another word for each
pub throughout_says : (P R : ℕ → Store → Type 0) → ((g : ℕ) (s : Store) → P g s → R g s) → (p : Program) → Throughout P p → Throughout R p
throughout_says P R says p h = throughout_gives P P R (λ g s a b. says g s a) p h h
