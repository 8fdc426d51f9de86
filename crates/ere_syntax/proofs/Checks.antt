-- A count and the last piece's kind decide whether there is a tree.
use Rattle.std.proofs.Common.{◌≡◌, ℕ, Bool, true, false, cond, ◌&&◌, List, [], ◌∷◌, length, Option, Some, None, refl, sym, ap, ◌∙◌, nat_le}
use Rattle.ere_syntax.specs.Tree.{Token, Atom, Begin, Stop, Open, Close, Bar, Times, Tree, Set, Start, End, Group, Repeat, Concat, level}
use Rattle.ere_syntax.specs.Reading.{◌>>=◌, Frame, Frames, fresh, joined, either, put, bar, finish, repeated, closed, ended, read, has_some, takes_times, closes, check, is_some, IsNeat, AreNeat}
use Rattle.ere_syntax.specs.declared.check.Last.{Last}
use Rattle.ere_syntax.specs.declared.check.Last.TheVariants.{Nothing, Anchor, Piece}

abbrev pub kind : Bool → Last
kind true = Piece
kind false = Anchor

abbrev pub last_of : Frame → Last
last_of (Frames a p None) = Nothing
last_of (Frames a p (Some t)) = kind (nat_le 4 (level t))

pub put_neat : (f : Frame) (t : Tree) → IsNeat f → IsNeat (put f t)
put_neat (Frames a None None) t h = tt
put_neat (Frames a None (Some l)) t h = tt
put_neat (Frames a (Some p) (Some l)) t h = tt
put_neat (Frames a (Some p) None) t h = absurd h

put_last : (f : Frame) (t : Tree) → last_of (put f t) ≡ kind (nat_le 4 (level t))
put_last (Frames a p l) t = refl

kind_some : (b : Bool) → has_some (kind b) ≡ true
kind_some true = refl
kind_some false = refl

kind_times : (b : Bool) → takes_times (kind b) ≡ b
kind_times true = refl
kind_times false = refl

joined_some : (a p l : Option Tree) → IsNeat (Frames a p l) → is_some (joined p l) ≡ has_some (last_of (Frames a p l))
joined_some a None None h = refl
joined_some a None (Some l) h = sym (kind_some (nat_le 4 (level l)))
joined_some a (Some p) (Some l) h = sym (kind_some (nat_le 4 (level l)))
joined_some a (Some p) None h = absurd h

bound_some : {A B : Type 0} (r : Option A) (f : A → Option B) (b : Bool) → ((x : A) → r ≡ Some x → is_some (f x) ≡ b) → is_some (r >>= f) ≡ (is_some r && b)
bound_some (Some x) f b h = h x refl
bound_some None f b h = refl

abbrev Decides : List Token → Type 0
Decides ts = (stack : List Frame) (f : Frame) → AreNeat stack → IsNeat f → is_some (read ts stack f) ≡ check ts (length stack) (last_of f)

put_decides : (ts : List Token) → Decides ts → (t : Tree) (l : Last) → kind (nat_le 4 (level t)) ≡ l → (stack : List Frame) (f : Frame) → AreNeat stack → IsNeat f → is_some (read ts stack (put f t)) ≡ check ts (length stack) l
put_decides ts go t l k stack f hs hf = go stack (put f t) hs (put_neat f t hf) ∙ ap (check ts (length stack)) (put_last f t ∙ k)

bar_decides : (ts : List Token) → Decides ts → (stack : List Frame) (a p l : Option Tree) → AreNeat stack → IsNeat (Frames a p l) → is_some (bar (Frames a p l) >>= λ g. read ts stack g) ≡ (has_some (last_of (Frames a p l)) && check ts (length stack) Nothing)
bar_decides ts go stack a None None hs hf = refl
bar_decides ts go stack a None (Some l) hs hf = go stack (Frames (Some (either a l)) None None) hs tt ∙ ap (λ (b : Bool). b && check ts (length stack) Nothing) (sym (kind_some (nat_le 4 (level l))))
bar_decides ts go stack a (Some p) (Some l) hs hf = go stack (Frames (Some (either a (Concat p l))) None None) hs tt ∙ ap (λ (b : Bool). b && check ts (length stack) Nothing) (sym (kind_some (nat_le 4 (level l))))
bar_decides ts go stack a (Some p) None hs hf = absurd hf

finish_some : (f : Frame) → IsNeat f → is_some (finish f) ≡ has_some (last_of f)
finish_some (Frames a None None) h = refl
finish_some (Frames a None (Some l)) h = sym (kind_some (nat_le 4 (level l)))
finish_some (Frames a (Some p) (Some l)) h = sym (kind_some (nat_le 4 (level l)))
finish_some (Frames a (Some p) None) h = absurd h

close_decides : (ts : List Token) → Decides ts → (stack : List Frame) (f : Frame) → AreNeat stack → IsNeat f → is_some (closed stack f (read ts)) ≡ closes (length stack) (last_of f) (check ts)
close_decides ts go [] f hs hf = refl
close_decides ts go (g ∷ stack) f hs hf =
    bound_some (finish f) (λ t. read ts stack (put g (Group t))) (check ts (length stack) Piece) (λ t e. put_decides ts go (Group t) Piece refl stack g hs.1 hs.0)
    ∙ ap (λ (b : Bool). b && check ts (length stack) Piece) (finish_some f hf)

times_decides : (ts : List Token) → Decides ts → (low : ℕ) (high : Option ℕ) (stack : List Frame) (f : Frame) → AreNeat stack → IsNeat f → is_some (repeated f low high >>= λ g. read ts stack g) ≡ (takes_times (last_of f) && check ts (length stack) Piece)
times_decides ts go low high stack (Frames a p None) hs hf = refl
times_decides ts go low high stack (Frames a p (Some t)) hs hf = by (nat_le 4 (level t))
  where
    neat : (p : Option Tree) → IsNeat (Frames a p (Some t)) → IsNeat (Frames a p (Some (Repeat t low high)))
    neat None h = tt
    neat (Some p) h = tt

    by : (b : Bool) → is_some (cond b (Some (Frames a p (Some (Repeat t low high)))) None >>= λ g. read ts stack g) ≡ (takes_times (kind b) && check ts (length stack) Piece)
    by true = go stack (Frames a p (Some (Repeat t low high))) hs (neat p hf)
    by false = refl

end_decides : (stack : List Frame) (f : Frame) → IsNeat f → is_some (ended stack f) ≡ check [] (length stack) (last_of f)
end_decides [] f hf = finish_some f hf
end_decides (g ∷ stack) f hf = refl

pub decides : (ts : List Token) → Decides ts
decides [] stack f hs hf = end_decides stack f hf
decides (Atom s ∷ ts) stack f hs hf = put_decides ts (decides ts) (Set s) Piece refl stack f hs hf
decides (Begin ∷ ts) stack f hs hf = put_decides ts (decides ts) Start Anchor refl stack f hs hf
decides (Stop ∷ ts) stack f hs hf = put_decides ts (decides ts) End Piece refl stack f hs hf
decides (Open ∷ ts) stack f hs hf = decides ts (f ∷ stack) fresh (hf, hs) tt
decides (Close ∷ ts) stack f hs hf = close_decides ts (decides ts) stack f hs hf
decides (Bar ∷ ts) stack (Frames a p l) hs hf = bar_decides ts (decides ts) stack a p l hs hf
decides (Times low high ∷ ts) stack f hs hf = times_decides ts (decides ts) low high stack f hs hf
