-- A row of a walk.
use Rattle.std.proofs.Common.{[], ◌∷◌, refl}
use Rattle.std.specs.Prelude.{codes}
use Rattle.sem_primitives.specs.SharedState.{Inner}
use Rattle.sem_primitives.specs.ExampleStates.{at_start}
use Rattle.agreement.specs.Stores.Walks.{AreDistinct, Gives, ends, next}

-- a walk over two keys has begun
abbrev begun : Inner
begun = record at_start.inner { iterators = (codes "a" ∷ codes "b" ∷ []) ∷ [] }

abbrev at_last : Inner
at_last = record at_start.inner { iterators = (codes "b" ∷ []) ∷ [] }

abbrev over : Inner
over = record at_start.inner { iterators = [] ∷ [] }

gives_both : Gives 0 begun (codes "a" ∷ codes "b" ∷ [])
gives_both = next {later = at_last} refl refl (next {later = over} refl refl (ends refl))

distinct : AreDistinct (codes "a" ∷ [] ∷ [])
distinct = ((λ e. absurd (cc), tt), (tt, tt))

twice : AreDistinct (codes "a" ∷ codes "a" ∷ []) → ⊥
twice d = d.0.0 refl
