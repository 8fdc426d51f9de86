-- Each tree is read from its tokens, so at most one tree has them.
use Rattle.std.proofs.Common.{◌≡◌, ℕ, ◌≤◌, List, [], ◌∷◌, ◌++◌, Option, Some, None, refl, sym, ap, ◌∙◌, append_assoc, arith}
use Rattle.std.proofs.lemmas.Bool.{le-leb}
use Rattle.std.proofs.lemmas.List.{append-nil}
use Rattle.ere_syntax.specs.Tree.{Token, Close, Bar, Times, Tree, Empty, Set, Start, End, Group, Repeat, Concat, Or, print, level, IsPart, IsEre}
use Rattle.ere_syntax.specs.Reading.{◌>>=◌, Frame, Frames, fresh, joined, either, put, finish, repeated, read, tree_of}

-- a piece is put
abbrev IsPut : Tree → Type 0
IsPut t = (rest : List Token) (stack : List Frame) (f : Frame) → read (print t ++ rest) stack f ≡ read rest stack (put f t)

-- a branch: what stands before its last piece, and that piece
abbrev before : Tree → Option Tree
before (Concat a b) = Some a
before _ = None

abbrev last : Tree → Tree
last (Concat a b) = b
last t = t

abbrev IsBranch : Tree → Type 0
IsBranch t = (rest : List Token) (stack : List Frame) (a : Option Tree) → read (print t ++ rest) stack (Frames a None None) ≡ read rest stack (Frames a (before t) (Some (last t)))

-- alternatives: those before the last one, and that one
abbrev others : Tree → Option Tree
others (Or a b) = Some a
others _ = None

abbrev final : Tree → Tree
final (Or a b) = b
final t = t

abbrev IsWhole : Tree → Type 0
IsWhole t = (rest : List Token) (stack : List Frame) → read (print t ++ rest) stack fresh ≡ read rest stack (Frames (others t) (before (final t)) (Some (last (final t))))

branch_joined : (t : Tree) → joined (before t) (Some (last t)) ≡ Some t
branch_joined (Concat a b) = refl
branch_joined _ = refl

whole_either : (t : Tree) → either (others t) (final t) ≡ t
whole_either (Or a b) = refl
whole_either _ = refl

whole_finish : (t : Tree) → finish (Frames (others t) (before (final t)) (Some (last (final t)))) ≡ Some t
whole_finish t = rw (branch_joined (final t)) (ap (λ (u : Tree). Some u) (whole_either t))

-- from a piece to a branch, from a branch to the whole
piece_branch : (t : Tree) → 3 ≤ level t → IsPut t → IsBranch t
piece_branch (Concat a b) h k = absurd (omega arith)
piece_branch t h k = λ rest stack a. k rest stack (Frames a None None)

branch_whole : (t : Tree) → 2 ≤ level t → IsBranch t → IsWhole t
branch_whole (Or a b) h k = absurd (omega arith)
branch_whole t h k = λ rest stack. k rest stack None

pub record Again (t : Tree) : Type 0 where
  pub piece : 3 ≤ level t → IsPut t
  pub branch : 2 ≤ level t → IsBranch t
  pub whole : IsWhole t

of_piece : (t : Tree) → 3 ≤ level t → IsPut t → Again t
of_piece t h k = record { piece = λ x. k; branch = λ x. piece_branch t h k; whole = branch_whole t (omega arith) (piece_branch t h k) }

group_put : (t : Tree) → IsWhole t → IsPut (Group t)
group_put t h rest stack f =
    let p : read ((print t ++ (Close ∷ [])) ++ rest) (f ∷ stack) fresh ≡ read (print t ++ (Close ∷ rest)) (f ∷ stack) fresh = ap (λ (u : List Token). read u (f ∷ stack) fresh) (append_assoc (print t) (Close ∷ []) rest) in
    p ∙ h (Close ∷ rest) (f ∷ stack) ∙ ap (λ (o : Option Tree). o >>= λ u. read rest stack (put f (Group u))) (whole_finish t)

repeat_put : (t : Tree) (low : ℕ) (high : Option ℕ) → 4 ≤ level t → IsPut t → IsPut (Repeat t low high)
repeat_put t low high k h rest stack (Frames a p l) =
    let q : read ((print t ++ (Times low high ∷ [])) ++ rest) stack (Frames a p l) ≡ read (print t ++ (Times low high ∷ rest)) stack (Frames a p l) = ap (λ (u : List Token). read u stack (Frames a p l)) (append_assoc (print t) (Times low high ∷ []) rest) in
    let r : (repeated (Frames a (joined p l) (Some t)) low high >>= λ g. read rest stack g) ≡ read rest stack (Frames a (joined p l) (Some (Repeat t low high))) = rw (le-leb 4 (level t) k) refl in
    q ∙ h (Times low high ∷ rest) stack (Frames a p l) ∙ r

concat_branch : (a b : Tree) → IsBranch a → IsPut b → IsBranch (Concat a b)
concat_branch a b h k rest stack o =
    ap (λ (u : List Token). read u stack (Frames o None None)) (append_assoc (print a) (print b) rest)
    ∙ h (print b ++ rest) stack o
    ∙ k rest stack (Frames o (before a) (Some (last a)))
    ∙ ap (λ (u : Option Tree). read rest stack (Frames o u (Some b))) (branch_joined a)

or_whole : (a b : Tree) → 2 ≤ level b → IsWhole a → IsBranch b → IsWhole (Or a b)
or_whole a b l h k rest stack =
    let p : read ((print a ++ (Bar ∷ print b)) ++ rest) stack fresh ≡ read (print a ++ (Bar ∷ (print b ++ rest))) stack fresh = ap (λ (u : List Token). read u stack fresh) (append_assoc (print a) (Bar ∷ print b) rest) in
    let q : (joined (before (final a)) (Some (last (final a))) >>= λ c. Some (Frames (Some (either (others a) c)) None None)) ≡ Some (Frames (Some a) None None) = rw (branch_joined (final a)) (ap (λ (u : Tree). Some (Frames (Some u) None None)) (whole_either a)) in
    p ∙ h (Bar ∷ (print b ++ rest)) stack ∙ ap (λ (o : Option Frame). o >>= λ g. read (print b ++ rest) stack g) q ∙ k rest stack (Some a)

pub again : (t : Tree) → IsPart t → Again t
again Empty h = absurd h
again (Set s) h = of_piece (Set s) (omega arith) (λ rest stack f. refl)
again Start h = of_piece Start (omega arith) (λ rest stack f. refl)
again End h = of_piece End (omega arith) (λ rest stack f. refl)
again (Group t) h = of_piece (Group t) (omega arith) (group_put t (again t h).whole)
again (Repeat t low high) h = let l : 3 ≤ level t = omega (arith, h.1) in of_piece (Repeat t low high) (omega arith) (repeat_put t low high h.1 ((again t h.0).piece l))
again (Concat a b) h =
    let k = concat_branch a b ((again a h.0).branch h.2) ((again b h.1).piece h.3) in
    record { piece = λ x. absurd (omega arith); branch = λ x. k; whole = branch_whole (Concat a b) (omega arith) k }
again (Or a b) h = record { piece = λ x. absurd (omega arith); branch = λ x. absurd (omega arith); whole = or_whole a b h.2 (again a h.0).whole ((again b h.1).branch h.2) }

-- a part has a token
some_token : (t : Tree) → IsPart t → print t ≡ [] → ⊥
some_token t h e = none (sym ((again t h).whole [] [] ∙ whole_finish t) ∙ ap (λ (u : List Token). read u [] fresh) (append-nil (print t) ∙ e))
  where
    none : Some t ≡ None → ⊥
    none e = cc

of_tokens : (ts : List Token) → (ts ≡ [] → ⊥) → tree_of ts ≡ read ts [] fresh
of_tokens [] h = absurd (h refl)
of_tokens (k ∷ ts) h = refl

part_again : (t : Tree) → IsPart t → tree_of (print t) ≡ Some t
part_again t h = of_tokens (print t) (some_token t h) ∙ ap (λ (u : List Token). read u [] fresh) (sym (append-nil (print t))) ∙ (again t h).whole [] [] ∙ whole_finish t

pub ere_again : (t : Tree) → IsEre t → tree_of (print t) ≡ Some t
ere_again Empty h = refl
ere_again t h = part_again t h

that_is : (x y : Tree) → Some x ≡ Some y → x ≡ y
that_is x y e = cc

-- at most one tree
pub one_tree : (t u : Tree) → IsEre t → IsEre u → print t ≡ print u → t ≡ u
one_tree t u h k e = that_is t u (sym (ere_again t h) ∙ ap tree_of e ∙ ere_again u k)

-- where nothing is read there is no tree
pub no_tree : (ts : List Token) → tree_of ts ≡ None → (t : Tree) → IsEre t → print t ≡ ts → ⊥
no_tree ts e t h p = none (sym (ere_again t h) ∙ ap tree_of p ∙ e)
  where
    none : Some t ≡ None → ⊥
    none e = cc
