-- Counting positions with a cap.
use Rattle.std.proofs.Common.{◌≡◌, ℕ, zero, suc, ◌+◌, ◌*◌, min, refl, arith}
use Rattle.ere_syntax.specs.Tree.{Tree, Empty, Set, Start, End, Group, Repeat, Concat, Or, times, positions}

pub cap_add : (c a b : ℕ) → min (min a c + min b c) c ≡ min (a + b) c
cap_add c a b = omega arith

pub cap_times : (c a k : ℕ) → min (min a c * k) c ≡ min (a * k) c
cap_times c a zero = omega arith
cap_times c a (suc k) =
    let h = cap_times c a k in
    let p : min a c * suc k ≡ min a c * k + min a c = grind arith in
    let q : a * suc k ≡ a * k + a = grind arith in
    omega (arith, h, p, q)

-- the count that the code keeps
abbrev pub capped : ℕ → Tree → ℕ
capped c Empty = 0
capped c (Set s) = min 1 c
capped c Start = min 1 c
capped c End = min 1 c
capped c (Group t) = capped c t
capped c (Repeat t low high) = min (capped c t * times low high) c
capped c (Concat a b) = min (capped c a + capped c b) c
capped c (Or a b) = min (capped c a + capped c b) c

pub capped_is : (c : ℕ) (t : Tree) → capped c t ≡ min (positions t) c
capped_is c Empty = omega arith
capped_is c (Set s) = refl
capped_is c Start = refl
capped_is c End = refl
capped_is c (Group t) = capped_is c t
capped_is c (Repeat t low high) = rw (capped_is c t) (cap_times c (positions t) (times low high))
capped_is c (Concat a b) = rw (capped_is c a, capped_is c b) (cap_add c (positions a) (positions b))
capped_is c (Or a b) = rw (capped_is c a, capped_is c b) (cap_add c (positions a) (positions b))
