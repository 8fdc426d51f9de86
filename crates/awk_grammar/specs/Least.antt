-- The least set that has given members and follows given pairs.
use Rattle.std.specs.Prelude.{Bool, IsTrue, List, All}

module _ {A : Type 0} where
  -- the set has the members, and of each pair the first, where it has the second
  pub record IsClosed (set : A → Bool) (members : List A) (pairs : List (A × A)) : Type 0 where
    pub has : All (λ x. IsTrue (set x)) members
    pub follows : All (λ p. IsTrue (set p.1) → IsTrue (set p.0)) pairs

  -- closed, and within every closed set
  pub record IsLeast (set : A → Bool) (members : List A) (pairs : List (A × A)) : Type 0 where
    pub closed : IsClosed set members pairs
    pub within : (other : A → Bool) → IsClosed other members pairs → (x : A) → IsTrue (set x) → IsTrue (other x)
