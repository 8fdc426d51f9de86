-- What stands on the stack is in the tree: a limit passed on the way is passed at the end.
use Rattle.std.proofs.Common.{◌≡◌, ℕ, ◌+◌, ◌≤◌, max, List, [], ◌∷◌, length, Option, Some, None, ap, subst, arith}
use Rattle.ere_syntax.specs.Tree.{Token, Atom, Begin, Stop, Open, Close, Bar, Times, Tree, Set, Start, End, Group, Repeat, Concat, nesting}
use Rattle.ere_syntax.specs.Reading.{Frame, Frames, fresh, joined, either, put, bar, finish, repeated, closed, ended, read, IsNeat, AreNeat}
use Rattle.ere_syntax.specs.Sizes.{deep, frame_deep, reached}
use Rattle.ere_syntax.proofs.Sound.{bind_some, allow_some, that_is}
use Rattle.ere_syntax.proofs.Checks.{put_neat}

joined_deep : (p l : Option Tree) (b : Tree) → joined p l ≡ Some b → max (deep p) (deep l) ≤ nesting b
joined_deep None None b e = absurd cc
joined_deep None (Some l) b e = let q = ap nesting (that_is l b e) in omega (arith, q)
joined_deep (Some p) None b e = absurd cc
joined_deep (Some p) (Some l) b e = let q = ap nesting (that_is (Concat p l) b e) in omega (arith, q)

either_deep : (a : Option Tree) (b : Tree) → max (deep a) (nesting b) ≤ nesting (either a b)
either_deep None b = omega arith
either_deep (Some a) b = omega arith

finish_deep : (f : Frame) (t : Tree) → finish f ≡ Some t → frame_deep f ≤ nesting t
finish_deep (Frames a p l) t e =
    let b = bind_some (joined p l) (λ b. Some (either a b)) t e in
    let j = joined_deep p l b.0 b.1 in
    let k = either_deep a b.0 in
    let q = ap nesting (that_is (either a b.0) t b.2) in
    omega (arith, j, k, q)

put_deep : (f : Frame) (t : Tree) → IsNeat f → max (frame_deep f) (nesting t) ≤ frame_deep (put f t)
put_deep (Frames a None None) t h = omega arith
put_deep (Frames a None (Some l)) t h = omega arith
put_deep (Frames a (Some p) None) t h = absurd h
put_deep (Frames a (Some p) (Some l)) t h = omega arith

bar_deep : (f g : Frame) → bar f ≡ Some g → frame_deep f ≤ frame_deep g
bar_deep (Frames a p l) g e =
    let b = bind_some (joined p l) (λ b. Some (Frames (Some (either a b)) None None)) g e in
    let j = joined_deep p l b.0 b.1 in
    let k = either_deep a b.0 in
    let q = ap frame_deep (that_is (Frames (Some (either a b.0)) None None) g b.2) in
    omega (arith, j, k, q)

more_reached : (stack : List Frame) (f g : Frame) → frame_deep f ≤ frame_deep g → reached stack f ≤ reached stack g
more_reached [] f g h = h
more_reached (x ∷ stack) f g h = omega (arith, h)

pub base_reached : (stack : List Frame) (f : Frame) → length stack + frame_deep f ≤ reached stack f
base_reached [] f = omega arith
base_reached (g ∷ stack) f = omega arith

pub repeated_deep : (f g : Frame) (low : ℕ) (high : Option ℕ) → repeated f low high ≡ Some g → (frame_deep f ≤ frame_deep g) × (IsNeat f → IsNeat g)
repeated_deep (Frames a p None) g low high e = absurd cc
repeated_deep (Frames a None (Some t)) g low high e =
    let x = allow_some _ (Some (Frames a None (Some (Repeat t low high)))) g e in
    subst (λ (g : Frame). (frame_deep (Frames a None (Some t)) ≤ frame_deep g) × (Unit {0} → IsNeat g)) (that_is (Frames a None (Some (Repeat t low high))) g x.1) (omega arith, λ h. tt)
repeated_deep (Frames a (Some p) (Some t)) g low high e =
    let x = allow_some _ (Some (Frames a (Some p) (Some (Repeat t low high)))) g e in
    subst (λ (g : Frame). (frame_deep (Frames a (Some p) (Some t)) ≤ frame_deep g) × (Unit {0} → IsNeat g)) (that_is (Frames a (Some p) (Some (Repeat t low high))) g x.1) (omega arith, λ h. tt)

pub bar_neat : (f g : Frame) → bar f ≡ Some g → IsNeat g
bar_neat (Frames a p l) g e =
    let b = bind_some (joined p l) (λ b. Some (Frames (Some (either a b)) None None)) g e in
    subst IsNeat (that_is (Frames (Some (either a b.0)) None None) g b.2) tt

abbrev IsReached : List Token → Type 0
IsReached ts = (stack : List Frame) (f : Frame) (t : Tree) → AreNeat stack → IsNeat f → read ts stack f ≡ Some t → reached stack f ≤ nesting t

grown : (ts : List Token) → IsReached ts → (stack : List Frame) (f g : Frame) (t : Tree) → AreNeat stack → IsNeat g → frame_deep f ≤ frame_deep g → read ts stack g ≡ Some t → reached stack f ≤ nesting t
grown ts go stack f g t hs hg h e = let p = go stack g t hs hg e in let q = more_reached stack f g h in omega (arith, p, q)

put_reached : (ts : List Token) → IsReached ts → (x : Tree) (stack : List Frame) (f : Frame) (t : Tree) → AreNeat stack → IsNeat f → read ts stack (put f x) ≡ Some t → reached stack f ≤ nesting t
put_reached ts go x stack f t hs hf e = let p = put_deep f x hf in grown ts go stack f (put f x) t hs (put_neat f x hf) (omega (arith, p)) e

close_reached : (ts : List Token) → IsReached ts → (stack : List Frame) (f : Frame) (t : Tree) → AreNeat stack → IsNeat f → closed stack f (read ts) ≡ Some t → reached stack f ≤ nesting t
close_reached ts go [] f t hs hf e = absurd cc
close_reached ts go (g ∷ stack) f t hs hf e =
    let x = bind_some (finish f) (λ x. read ts stack (put g (Group x))) t e in
    let k = finish_deep f x.0 x.1 in
    let m = put_deep g (Group x.0) hs.0 in
    let p = go stack (put g (Group x.0)) t hs.1 (put_neat g (Group x.0) hs.0) x.2 in
    let q = more_reached stack g (put g (Group x.0)) (omega (arith, m)) in
    let b = base_reached stack (put g (Group x.0)) in
    omega (arith, k, m, p, q, b)

open_reached : (ts : List Token) → IsReached ts → (stack : List Frame) (f : Frame) (t : Tree) → AreNeat stack → IsNeat f → read ts (f ∷ stack) fresh ≡ Some t → reached stack f ≤ nesting t
open_reached ts go stack f t hs hf e = let p = go (f ∷ stack) fresh t (hf, hs) tt e in omega (arith, p)

end_reached : (stack : List Frame) (f : Frame) (t : Tree) → ended stack f ≡ Some t → reached stack f ≤ nesting t
end_reached [] f t e = finish_deep f t e
end_reached (g ∷ stack) f t e = absurd cc

-- so a reading whose stack or pieces pass the limit can only end in a tree that passes it
pub is_reached : (ts : List Token) → IsReached ts
is_reached [] stack f t hs hf e = end_reached stack f t e
is_reached (Atom s ∷ ts) stack f t hs hf e = put_reached ts (is_reached ts) (Set s) stack f t hs hf e
is_reached (Begin ∷ ts) stack f t hs hf e = put_reached ts (is_reached ts) Start stack f t hs hf e
is_reached (Stop ∷ ts) stack f t hs hf e = put_reached ts (is_reached ts) End stack f t hs hf e
is_reached (Open ∷ ts) stack f t hs hf e = open_reached ts (is_reached ts) stack f t hs hf e
is_reached (Close ∷ ts) stack f t hs hf e = close_reached ts (is_reached ts) stack f t hs hf e
is_reached (Bar ∷ ts) stack f t hs hf e = let g = bind_some (bar f) (λ g. read ts stack g) t e in grown ts (is_reached ts) stack f g.0 t hs (bar_neat f g.0 g.1) (bar_deep f g.0 g.1) g.2
is_reached (Times low high ∷ ts) stack f t hs hf e =
    let g = bind_some (repeated f low high) (λ g. read ts stack g) t e in
    let r = repeated_deep f g.0 low high g.1 in
    grown ts (is_reached ts) stack f g.0 t hs (r.1 hf) r.0 g.2
