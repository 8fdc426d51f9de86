-- Reading a tree from tokens, with the open groups on a stack.
use Rattle.std.specs.Prelude.{ℕ, zero, suc, nat_le, Bool, true, false, ◌&&◌, if◌then◌else◌, List, [], ◌∷◌, Option, Some, None}
use Rattle.ere_syntax.specs.Tree.{Token, Atom, Begin, Stop, Open, Close, Bar, Times, Tree, Empty, Set, Start, End, Group, Repeat, Concat, Or, level}
use Rattle.ere_syntax.specs.declared.check.Last.{Last}
use Rattle.ere_syntax.specs.declared.check.Last.TheVariants.{Nothing, Anchor, Piece}

infixl 10 ◌>>=◌
abbrev pub ◌>>=◌ : {A B : Type 0} → Option A → (A → Option B) → Option B
(Some x) >>= f = f x
None >>= f = None

-- what was read of a group: the alternatives before, the pieces of the branch before, its last piece
pub data Frame : Type 0 where
  Frames : Option Tree → Option Tree → Option Tree → Frame

abbrev pub fresh : Frame
fresh = Frames None None None

abbrev pub joined : Option Tree → Option Tree → Option Tree
joined None o = o
joined (Some a) None = None
joined (Some a) (Some b) = Some (Concat a b)

abbrev pub either : Option Tree → Tree → Tree
either None b = b
either (Some a) b = Or a b

-- one further piece
abbrev pub put : Frame → Tree → Frame
put (Frames a p l) t = Frames a (joined p l) (Some t)

-- the branch ends
abbrev pub bar : Frame → Option Frame
bar (Frames a p l) = joined p l >>= λ b. Some (Frames (Some (either a b)) None None)

-- the group ends
abbrev pub finish : Frame → Option Tree
finish (Frames a p l) = joined p l >>= λ b. Some (either a b)

abbrev pub repeated : Frame → ℕ → Option ℕ → Option Frame
repeated (Frames a p None) low high = None
repeated (Frames a p (Some t)) low high = if nat_le 4 (level t) then Some (Frames a p (Some (Repeat t low high))) else None

abbrev pub closed : List Frame → Frame → (List Frame → Frame → Option Tree) → Option Tree
closed [] f go = None
closed (g ∷ stack) f go = finish f >>= λ t. go stack (put g (Group t))

abbrev pub ended : List Frame → Frame → Option Tree
ended [] f = finish f
ended (g ∷ stack) f = None

abbrev pub read : List Token → List Frame → Frame → Option Tree
read [] stack f = ended stack f
read (Atom s ∷ ts) stack f = read ts stack (put f (Set s))
read (Begin ∷ ts) stack f = read ts stack (put f Start)
read (Stop ∷ ts) stack f = read ts stack (put f End)
read (Open ∷ ts) stack f = read ts (f ∷ stack) fresh
read (Close ∷ ts) stack f = closed stack f (read ts)
read (Bar ∷ ts) stack f = bar f >>= λ g. read ts stack g
read (Times low high ∷ ts) stack f = repeated f low high >>= λ g. read ts stack g

-- all of the tokens
abbrev pub tree_of : List Token → Option Tree
tree_of [] = Some Empty
tree_of ts = read ts [] fresh

-- pieces stand before a last one only
abbrev pub IsNeat : Frame → Type 0
IsNeat (Frames a None l) = Unit {0}
IsNeat (Frames a (Some p) (Some l)) = Unit {0}
IsNeat (Frames a (Some p) None) = ⊥

abbrev pub AreNeat : List Frame → Type 0
AreNeat [] = Unit {0}
AreNeat (g ∷ stack) = IsNeat g × AreNeat stack

abbrev pub is_some : {A : Type 0} → Option A → Bool
is_some None = false
is_some (Some x) = true

-- ---- whether there is a tree, with nothing kept but a count

-- of a branch: nothing yet, its last piece takes no repetition, its last piece takes one
abbrev pub has_some : Last → Bool
has_some Nothing = false
has_some _ = true

abbrev pub takes_times : Last → Bool
takes_times Piece = true
takes_times _ = false

abbrev pub closes : ℕ → Last → (ℕ → Last → Bool) → Bool
closes zero l go = false
closes (suc n) l go = has_some l && go n Piece

abbrev pub check : List Token → ℕ → Last → Bool
check [] zero l = has_some l
check [] (suc n) l = false
check (Atom s ∷ ts) n l = check ts n Piece
check (Begin ∷ ts) n l = check ts n Anchor
check (Stop ∷ ts) n l = check ts n Piece
check (Open ∷ ts) n l = check ts (suc n) Nothing
check (Close ∷ ts) n l = closes n l (check ts)
check (Bar ∷ ts) n l = has_some l && check ts n Nothing
check (Times low high ∷ ts) n l = takes_times l && check ts n Piece
