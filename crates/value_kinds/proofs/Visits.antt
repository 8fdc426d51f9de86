-- A visit of each store of a program.
use Rattle.std.proofs.Common.{◌≡◌, ℕ, suc, List, [], ◌∷◌, ◌++◌, refl}
use Rattle.mid_program.specs.Mid.{Program, Routine}
use Rattle.mid_program.specs.Stores.{Every, Store, steps_stores}
use Rattle.value_kinds.specs.Found.{InRoutines, Throughout}
use Rattle.value_kinds.specs.Lanes.{all_visited, function_count, routines_visited, visited}

module _ {A : Type 0} (visit : ℕ → A → Store → A) where
  pub visited_twice : (g : ℕ) (a : A) (xs ys : List Store) → all_visited visit g (all_visited visit g a xs) ys ≡ all_visited visit g a (xs ++ ys)
  visited_twice g a [] ys = refl
  visited_twice g a (x ∷ xs) ys = visited_twice g (visit g a x) xs ys

  -- what is kept by each visit
  module _ (P : ℕ → Store → Type 0) (H : A → Type 0) (keeps : (g : ℕ) (a : A) (s : Store) → P g s → H a → H (visit g a s)) where
    all_keep : (g : ℕ) (a : A) (ss : List Store) → Every (P g) ss → H a → H (all_visited visit g a ss)
    all_keep g a [] e h = h
    all_keep g a (s ∷ ss) e h = all_keep g (visit g a s) ss e.1 (keeps g a s e.0 h)

    routines_keep : (g : ℕ) (a : A) (rs : List Routine) → InRoutines P g rs → H a → H (routines_visited visit g a rs)
    routines_keep g a [] e h = h
    routines_keep g a (r ∷ rs) e h = routines_keep (suc g) (all_visited visit g a (steps_stores r.body)) rs e.1 (all_keep g a (steps_stores r.body) e.0 h)

    pub visits_keep : (a : A) (p : Program) → Throughout P p → H a → H (visited visit a p)
    visits_keep a p t h = all_keep _ _ _ t.1.1.1 (all_keep _ _ _ t.1.1.0 (all_keep _ _ _ t.1.0 (routines_keep 0 a p.routines t.0 h)))

  -- what each visit goes on to
  module _ (Below : A → A → Type 0) (self : (a : A) → Below a a) (then : (a b c : A) → Below a b → Below b c → Below a c) (below : (g : ℕ) (a : A) (s : Store) → Below a (visit g a s)) where
    all_below : (g : ℕ) (a : A) (ss : List Store) → Below a (all_visited visit g a ss)
    all_below g a [] = self a
    all_below g a (s ∷ ss) = then a (visit g a s) (all_visited visit g (visit g a s) ss) (below g a s) (all_below g (visit g a s) ss)

    routines_below : (g : ℕ) (a : A) (rs : List Routine) → Below a (routines_visited visit g a rs)
    routines_below g a [] = self a
    routines_below g a (r ∷ rs) =
        let b = all_visited visit g a (steps_stores r.body) in
        then a b (routines_visited visit (suc g) b rs) (all_below g a (steps_stores r.body)) (routines_below (suc g) b rs)

    -- the whole program
    module _ (a : A) (p : Program) where
      abbrev outside : ℕ
      outside = function_count p.routines

      abbrev after_functions : A
      after_functions = routines_visited visit 0 a p.routines

      abbrev after_begin : A
      after_begin = all_visited visit outside after_functions (steps_stores p.begin)

      abbrev after_items : A
      after_items = all_visited visit outside after_begin (steps_stores p.items)

      from_items : Below after_items (visited visit a p)
      from_items = all_below outside after_items (steps_stores p.end)

      from_begin : Below after_begin (visited visit a p)
      from_begin = then after_begin after_items (visited visit a p) (all_below outside after_begin (steps_stores p.items)) from_items

      from_functions : Below after_functions (visited visit a p)
      from_functions = then after_functions after_begin (visited visit a p) (all_below outside after_functions (steps_stores p.begin)) from_begin

      pub visits_below : Below a (visited visit a p)
      visits_below = then a after_functions (visited visit a p) (routines_below 0 a p.routines) from_functions

    -- what is known of a store once it was visited
    module _ (Kept : A → ℕ → Store → Type 0) (kept_below : (a b : A) (g : ℕ) (s : Store) → Below a b → Kept a g s → Kept b g s) (kept : (g : ℕ) (a : A) (s : Store) → Kept (visit g a s) g s) where
      all_kept : (g : ℕ) (a b : A) (ss : List Store) → Below (all_visited visit g a ss) b → Every (Kept b g) ss
      all_kept g a b [] h = tt
      all_kept g a b (s ∷ ss) h =
          let next = visit g a s in
          (kept_below next b g s (then next (all_visited visit g next ss) b (all_below g next ss) h) (kept g a s), all_kept g next b ss h)

      routines_kept : (g : ℕ) (a b : A) (rs : List Routine) → Below (routines_visited visit g a rs) b → InRoutines (Kept b) g rs
      routines_kept g a b [] h = tt
      routines_kept g a b (r ∷ rs) h =
          let next = all_visited visit g a (steps_stores r.body) in
          (all_kept g a b (steps_stores r.body) (then next (routines_visited visit (suc g) next rs) b (routines_below (suc g) next rs) h), routines_kept (suc g) next b rs h)

      pub visits_kept : (a : A) (p : Program) → Throughout (Kept (visited visit a p)) p
      visits_kept a p =
          let end = visited visit a p in
          let none = function_count p.routines in (
            routines_kept 0 a end p.routines (from_functions a p),
            (
              all_kept none (after_functions a p) end (steps_stores p.begin) (from_begin a p),
              (all_kept none (after_begin a p) end (steps_stores p.items) (from_items a p), all_kept none (after_items a p) end (steps_stores p.end) (self end)),
            ),
          )
