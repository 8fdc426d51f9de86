-- The tree that is read has these tokens.
use Rattle.std.proofs.Common.{◌≡◌, ℕ, ◌≤◌, Bool, true, false, cond, List, [], ◌∷◌, ◌++◌, Option, Some, None, refl, sym, ap, subst, ◌∙◌, append_assoc, arith}
use Rattle.std.proofs.lemmas.Bool.{leb-true}
use Rattle.std.proofs.lemmas.List.{append-nil}
use Rattle.ere_syntax.specs.Tree.{Token, Atom, Begin, Stop, Open, Close, Bar, Times, Tree, Empty, Set, Start, End, Group, Repeat, Concat, print, level, IsPart, IsEre}
use Rattle.ere_syntax.specs.Reading.{◌>>=◌, Frame, Frames, fresh, joined, either, put, bar, finish, repeated, closed, ended, read, tree_of}

pub bind_some : {A B : Type 0} (r : Option A) (f : A → Option B) (y : B) → (r >>= f) ≡ Some y → (x : A) × (r ≡ Some x) × (f x ≡ Some y)
bind_some (Some x) f y e = (x, refl, e)
bind_some None f y e = absurd cc

abbrev pub IsThat : {A : Type 0} → A → Option A
IsThat x = Some x

pub that_is : {A : Type 0} (x y : A) → IsThat x ≡ IsThat y → x ≡ y
that_is x y e = cc

pub allow_some : {A : Type 0} (b : Bool) (r : Option A) (y : A) → cond b r None ≡ Some y → (b ≡ true) × (r ≡ Some y)
allow_some false r y e = absurd cc
allow_some true r y e = (refl, e)

-- tokens of what was read
abbrev alternatives_tokens : Option Tree → List Token
alternatives_tokens None = []
alternatives_tokens (Some a) = print a ++ (Bar ∷ [])

abbrev option_tokens : Option Tree → List Token
option_tokens None = []
option_tokens (Some a) = print a

abbrev pub frame_tokens : Frame → List Token
frame_tokens (Frames a p l) = alternatives_tokens a ++ (option_tokens p ++ option_tokens l)

abbrev pub stack_tokens : List Frame → List Token
stack_tokens [] = []
stack_tokens (g ∷ stack) = stack_tokens stack ++ (frame_tokens g ++ (Open ∷ []))

abbrev pub AreAlternatives : Option Tree → Type 0
AreAlternatives None = Unit {0}
AreAlternatives (Some a) = IsPart a

abbrev pub ArePieces : Option Tree → Option Tree → Type 0
ArePieces None None = Unit {0}
ArePieces None (Some l) = IsPart l × (3 ≤ level l)
ArePieces (Some p) None = ⊥
ArePieces (Some p) (Some l) = IsPart p × (2 ≤ level p) × IsPart l × (3 ≤ level l)

abbrev pub IsFrame : Frame → Type 0
IsFrame (Frames a p l) = AreAlternatives a × ArePieces p l

abbrev pub AreFrames : List Frame → Type 0
AreFrames [] = Unit {0}
AreFrames (g ∷ stack) = IsFrame g × AreFrames stack

-- ---- one token

put_tokens : (f : Frame) (t : Tree) → IsFrame f → frame_tokens (put f t) ≡ frame_tokens f ++ print t
put_tokens (Frames a None None) t h = simp (append_assoc, append-nil)
put_tokens (Frames a None (Some l)) t h = simp (append_assoc, append-nil)
put_tokens (Frames a (Some p) None) t h = absurd h.1
put_tokens (Frames a (Some p) (Some l)) t h = simp (append_assoc, append-nil)

put_fine : (f : Frame) (t : Tree) → IsFrame f → IsPart t → 3 ≤ level t → IsFrame (put f t)
put_fine (Frames a None None) t h p l = (h.0, (p, l))
put_fine (Frames a None (Some x)) t h p l = (h.0, (h.1.0, omega (arith, h.1.1), p, l))
put_fine (Frames a (Some p) None) t h _ l = absurd h.1
put_fine (Frames a (Some p) (Some x)) t h q l = (h.0, ((h.1.0, h.1.2, h.1.1, h.1.3), omega arith, q, l))

-- the pieces of a branch, as one
record Joins (p l : Option Tree) (b : Tree) : Type 0 where
  parts : option_tokens p ++ option_tokens l ≡ print b
  fine : IsPart b
  tight : 2 ≤ level b

joined_is : (p l : Option Tree) (b : Tree) → ArePieces p l → joined p l ≡ Some b → Joins p l b
joined_is None None b h e = absurd cc
joined_is None (Some l) b h e = subst (Joins None (Some l)) (that_is l b e) (record { parts = refl; fine = h.0; tight = omega (arith, h.1) })
joined_is (Some p) None b h e = absurd h
joined_is (Some p) (Some l) b h e = subst (Joins (Some p) (Some l)) (that_is (Concat p l) b e) (record { parts = refl; fine = (h.0, h.2, h.1, h.3); tight = omega arith })

-- the alternatives, as one
record Ends (a : Option Tree) (b : Tree) : Type 0 where
  parts : alternatives_tokens a ++ print b ≡ print (either a b)
  fine : IsPart (either a b)

either_is : (a : Option Tree) (b : Tree) → AreAlternatives a → IsPart b → 2 ≤ level b → Ends a b
either_is None b h k l = record { parts = refl; fine = k }
either_is (Some a) b h k l = record { parts = append_assoc (print a) (Bar ∷ []) (print b); fine = (h, k, l) }

record Finishes (f : Frame) (t : Tree) : Type 0 where
  parts : frame_tokens f ≡ print t
  fine : IsPart t

finish_is : (f : Frame) (t : Tree) → IsFrame f → finish f ≡ Some t → Finishes f t
finish_is (Frames a p l) t h e =
    let b = bind_some (joined p l) (λ b. Some (either a b)) t e in
    let j = joined_is p l b.0 h.1 b.1 in
    let k = either_is a b.0 h.0 j.fine j.tight in
    subst (Finishes (Frames a p l)) (that_is (either a b.0) t b.2) (record { parts = ap (λ (u : List Token). alternatives_tokens a ++ u) j.parts ∙ k.parts; fine = k.fine })

record Goes (f : Frame) (k : Token) (g : Frame) : Type 0 where
  parts : frame_tokens g ≡ frame_tokens f ++ (k ∷ [])
  fine : IsFrame g

bar_is : (f g : Frame) → IsFrame f → bar f ≡ Some g → Goes f Bar g
bar_is (Frames a p l) g h e =
    let b = bind_some (joined p l) (λ b. Some (Frames (Some (either a b)) None None)) g e in
    let j = joined_is p l b.0 h.1 b.1 in
    let k = either_is a b.0 h.0 j.fine j.tight in
    let q : alternatives_tokens a ++ (option_tokens p ++ option_tokens l) ≡ print (either a b.0) = ap (λ (u : List Token). alternatives_tokens a ++ u) j.parts ∙ k.parts in
    let r : (print (either a b.0) ++ (Bar ∷ [])) ++ [] ≡ (alternatives_tokens a ++ (option_tokens p ++ option_tokens l)) ++ (Bar ∷ []) = append-nil (print (either a b.0) ++ (Bar ∷ [])) ∙ ap (λ (u : List Token). u ++ (Bar ∷ [])) (sym q) in
    subst (Goes (Frames a p l) Bar) (that_is (Frames (Some (either a b.0)) None None) g b.2) (record { parts = r; fine = (k.fine, tt) })

repeated_is : (f g : Frame) (low : ℕ) (high : Option ℕ) → IsFrame f → repeated f low high ≡ Some g → Goes f (Times low high) g
repeated_is (Frames a p None) g low high h e = absurd cc
repeated_is (Frames a (Some p) (Some t)) g low high h e =
    let x = allow_some _ (Some (Frames a (Some p) (Some (Repeat t low high)))) g e in
    subst (Goes (Frames a (Some p) (Some t)) (Times low high)) (that_is (Frames a (Some p) (Some (Repeat t low high))) g x.1)
    (record { parts = simp append_assoc; fine = (h.0, (h.1.0, h.1.1, (h.1.2, leb-true 4 (level t) x.0), omega arith)) })
repeated_is (Frames a None (Some t)) g low high h e =
    let x = allow_some _ (Some (Frames a None (Some (Repeat t low high)))) g e in
    subst (Goes (Frames a None (Some t)) (Times low high)) (that_is (Frames a None (Some (Repeat t low high))) g x.1)
    (record { parts = simp append_assoc; fine = (h.0, ((h.1.0, leb-true 4 (level t) x.0), omega arith)) })

-- ---- all tokens

abbrev all_tokens : List Frame → Frame → List Token → List Token
all_tokens stack f ts = stack_tokens stack ++ (frame_tokens f ++ ts)

pub record Spells (stack : List Frame) (f : Frame) (ts : List Token) (t : Tree) : Type 0 where
  pub parts : all_tokens stack f ts ≡ print t
  pub fine : IsPart t

abbrev IsSound : List Token → Type 0
IsSound ts = (stack : List Frame) (f : Frame) (t : Tree) → AreFrames stack → IsFrame f → read ts stack f ≡ Some t → Spells stack f ts t

after_put : (ts : List Token) → IsSound ts → (k : Token) (x : Tree) → print x ≡ k ∷ [] → IsPart x → 3 ≤ level x → (stack : List Frame) (f : Frame) (t : Tree) → AreFrames stack → IsFrame f → read ts stack (put f x) ≡ Some t → Spells stack f (k ∷ ts) t
after_put ts go k x p q l stack f t hs hf e =
    let s = go stack (put f x) t hs (put_fine f x hf q l) e in
    let r : frame_tokens f ++ (k ∷ ts) ≡ frame_tokens (put f x) ++ ts = sym (append_assoc (frame_tokens f) (k ∷ []) ts) ∙ ap (λ (u : List Token). u ++ ts) (ap (λ (u : List Token). frame_tokens f ++ u) (sym p) ∙ sym (put_tokens f x hf)) in
    record { parts = ap (λ (u : List Token). stack_tokens stack ++ u) r ∙ s.parts; fine = s.fine }

after_go : (ts : List Token) → IsSound ts → (k : Token) (stack : List Frame) (f g : Frame) (t : Tree) → AreFrames stack → Goes f k g → read ts stack g ≡ Some t → Spells stack f (k ∷ ts) t
after_go ts go k stack f g t hs hg e =
    let s = go stack g t hs hg.fine e in
    let r : frame_tokens f ++ (k ∷ ts) ≡ frame_tokens g ++ ts = sym (append_assoc (frame_tokens f) (k ∷ []) ts) ∙ ap (λ (u : List Token). u ++ ts) (sym hg.parts) in
    record { parts = ap (λ (u : List Token). stack_tokens stack ++ u) r ∙ s.parts; fine = s.fine }

after_close : (ts : List Token) → IsSound ts → (stack : List Frame) (f : Frame) (t : Tree) → AreFrames stack → IsFrame f → closed stack f (read ts) ≡ Some t → Spells stack f (Close ∷ ts) t
after_close ts go [] f t hs hf e = absurd cc
after_close ts go (g ∷ stack) f t hs hf e =
    let x = bind_some (finish f) (λ x. read ts stack (put g (Group x))) t e in
    let k = finish_is f x.0 hf x.1 in
    let s = go stack (put g (Group x.0)) t hs.1 (put_fine g (Group x.0) hs.0 k.fine (omega arith)) x.2 in
    let r : (frame_tokens g ++ (Open ∷ [])) ++ (frame_tokens f ++ (Close ∷ ts)) ≡ frame_tokens (put g (Group x.0)) ++ ts = rw (put_tokens g (Group x.0) hs.0, k.parts) (simp append_assoc) in
    let q : (stack_tokens stack ++ (frame_tokens g ++ (Open ∷ []))) ++ (frame_tokens f ++ (Close ∷ ts)) ≡ stack_tokens stack ++ (frame_tokens (put g (Group x.0)) ++ ts) = append_assoc (stack_tokens stack) (frame_tokens g ++ (Open ∷ [])) (frame_tokens f ++ (Close ∷ ts)) ∙ ap (λ (u : List Token). stack_tokens stack ++ u) r in
    record { parts = q ∙ s.parts; fine = s.fine }

after_open : (ts : List Token) → IsSound ts → (stack : List Frame) (f : Frame) (t : Tree) → AreFrames stack → IsFrame f → read ts (f ∷ stack) fresh ≡ Some t → Spells stack f (Open ∷ ts) t
after_open ts go stack f t hs hf e =
    let s = go (f ∷ stack) fresh t (hf, hs) (tt, tt) e in
    let q : stack_tokens stack ++ (frame_tokens f ++ (Open ∷ ts)) ≡ (stack_tokens stack ++ (frame_tokens f ++ (Open ∷ []))) ++ ts = simp append_assoc in
    record { parts = q ∙ s.parts; fine = s.fine }

after_end : (stack : List Frame) (f : Frame) (t : Tree) → IsFrame f → ended stack f ≡ Some t → Spells stack f [] t
after_end [] f t hf e = let k = finish_is f t hf e in record { parts = append-nil (frame_tokens f) ∙ k.parts; fine = k.fine }
after_end (g ∷ stack) f t hf e = absurd cc

pub read_sound : (ts : List Token) → IsSound ts
read_sound [] stack f t hs hf e = after_end stack f t hf e
read_sound (Atom s ∷ ts) stack f t hs hf e = after_put ts (read_sound ts) (Atom s) (Set s) refl tt (omega arith) stack f t hs hf e
read_sound (Begin ∷ ts) stack f t hs hf e = after_put ts (read_sound ts) Begin Start refl tt (omega arith) stack f t hs hf e
read_sound (Stop ∷ ts) stack f t hs hf e = after_put ts (read_sound ts) Stop End refl tt (omega arith) stack f t hs hf e
read_sound (Open ∷ ts) stack f t hs hf e = after_open ts (read_sound ts) stack f t hs hf e
read_sound (Close ∷ ts) stack f t hs hf e = after_close ts (read_sound ts) stack f t hs hf e
read_sound (Bar ∷ ts) stack f t hs hf e = let g = bind_some (bar f) (λ g. read ts stack g) t e in after_go ts (read_sound ts) Bar stack f g.0 t hs (bar_is f g.0 hf g.1) g.2
read_sound (Times low high ∷ ts) stack f t hs hf e = let g = bind_some (repeated f low high) (λ g. read ts stack g) t e in after_go ts (read_sound ts) (Times low high) stack f g.0 t hs (repeated_is f g.0 low high hf g.1) g.2

part_ere : (t : Tree) → IsPart t → IsEre t
part_ere Empty h = absurd h
part_ere t h = h

pub tree_sound : (ts : List Token) (t : Tree) → tree_of ts ≡ Some t → (print t ≡ ts) × IsEre t
tree_sound [] t e = let p = that_is Empty t e in subst (λ (u : Tree). (print u ≡ []) × IsEre u) p (refl, tt)
tree_sound (k ∷ ts) t e = let s = read_sound (k ∷ ts) [] fresh t tt (tt, tt) e in (sym s.parts, part_ere t s.fine)
