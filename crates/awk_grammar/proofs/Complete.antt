-- What is well formed and not too deep is read, whatever follows it that it cannot take.
use Rattle.std.proofs.Common.{◌≡◌, ℕ, zero, suc, ◌<◌, ◌≤◌, Bool, true, false, ltb, leb, ◌||◌, ◌&&◌, List, [], ◌∷◌, ◌++◌, length, Option, Some, None, Ok, refl, sym, ap, subst, ◌∙◌, append_assoc, arith, length-append}
use Rattle.std.proofs.lemmas.Bool.{lt-ltb, le-ltb, leb-true, le-leb, or_from, or_left, or_parts, and_right, and_from}
use Rattle.awk_grammar.specs.Token.{Prefix, Not, Signed, Step, Less, Symbol, Assign, Or, And, Match, Compare, Mul, Pow, Literal, Token, Lit, Name, FuncName, Word, GetlineWord, InWord, Dollar, Open, Close, OpenBracket, CloseBracket, Comma, Question, Colon, NotMark, StepMark, Infix}
use Rattle.awk_tokens.specs.declared.reserved_words.Builtin.{Builtin}
use Rattle.awk_grammar.specs.Tree.{op_tokens, print, print_list, print_more, op_level, op_left, op_right, op_edge, symbol_level, Mode, Whole, Factor, Plain, LValue, InField, floor, normal, level, is_field, fits, edge, Class, IsLess, Steps, Free, class_at, is_opens, is_index, is_start, is_less, is_steps, takes, StartsOperand, MayJoin, op_allowed, IsSome, IsWellFormed, AreWellFormed}
use Rattle.awk_grammar.specs.Trees.{Op, Join, Add, Other, Tree, Leaf, Length, Var, Index, Field, Group, Call, Apply, Unary, Pre, Post, Bin, Has, HasList, Cond, Get, GetInto, GetFrom, GetIntoFrom, Trees, NoTree, Then, prefix_token, depth, depths}
use Rattle.awk_grammar.specs.Reading.{◌>>=◌, Read, ReadMany, Reader, close_at, bracket_at, in_at, name_at, comma_at, open_at, index_at, less_at, Link, Joined, Within, Chosen, link_level, link_left, link_at, more_at, list_at, arguments_at, suited, paren_by, under, first_at, posted_by, posted, after, goes_on, climb, expr_at}
use Rattle.awk_grammar.proofs.Sound.{heads, class_op, closing, loose}

-- each operator that follows may have the tree as its left side
abbrev pub Follows : Bool → Mode → Tree → List Token → Type 0
Follows g m t rest = normal m ≡ true → (o : Link × List Token) → link_at g rest ≡ Some o → link_left o.0 ≤ edge t

-- at this level, each operator that follows ends the tree
abbrev pub Ends : Bool → ℕ → List Token → Type 0
Ends g l rest = (o : Link × List Token) → link_at g rest ≡ Some o → link_level o.0 < l

-- reading comes to the end of the tree
abbrev pub Reaches : ℕ → Bool → Mode → Tree → List Token → Type 0
Reaches d g m t rest = (k : ℕ) × (length rest ≤ k) × (expr_at (suc d) g m (print t ++ rest) ≡ climb (expr_at d) g (suc d) k (floor m) t rest)

abbrev pub Again : Tree → Type 0
Again t = (d : ℕ) (g : Bool) (m : Mode) (rest : List Token) → IsWellFormed g t → fits m t ≡ true → depth t ≤ suc d → Follows g m t rest → takes (normal m) t (class_at rest) ≡ false → Reaches d g m t rest

-- the same of operands that may be LValues
abbrev pub First : Tree → Type 0
First t = 12 ≤ level t → (d : ℕ) (g : Bool) (m : Mode) (rest : List Token) → IsWellFormed g t → depth t ≤ suc d → takes false t (class_at rest) ≡ false → first_at (expr_at d) g m (print t ++ rest) ≡ Ok (t, rest)

deep : (t : Tree) → 0 < depth t
deep (Leaf c) = omega arith
deep Length = omega arith
deep (Var n) = omega arith
deep Get = omega arith
deep (Index n ts) = omega arith
deep (Field t) = omega arith
deep (Group t) = omega arith
deep (Call n ts) = omega arith
deep (Apply n ts) = omega arith
deep (Unary p t) = omega arith
deep (Pre p t) = omega arith
deep (Post p t) = omega arith
deep (Bin op a b) = omega arith
deep (Has a n) = omega arith
deep (HasList t ts n) = omega arith
deep (Cond a b c) = omega arith
deep (GetInto v) = omega arith
deep (GetFrom v) = omega arith
deep (GetIntoFrom v s) = omega arith

-- ---- what ends take

takes_less : (n : Bool) (t : Tree) (c : Class) → takes n t c ≡ false → takes false t c ≡ false
takes_less n (Leaf x) c h = refl
takes_less n Length c h = h
takes_less n (Var x) c h = or_from (is_index c) (is_steps c && false) (or_parts (is_index c) (is_steps c && n) h).0 (and_right (is_steps c) false refl)
takes_less n (Index x ts) c h = and_right (is_steps c) false refl
takes_less n (Field t) c h = or_from (takes false t c) (is_steps c && false) (or_parts (takes false t c) (is_steps c && n) h).0 (and_right (is_steps c) false refl)
takes_less n (Group t) c h = refl
takes_less n (Call f ts) c h = refl
takes_less n (Apply f ts) c h = refl
takes_less n (Unary p t) c h = takes_less n t c h
takes_less n (Pre s t) c h = takes_less n t c h
takes_less n (Post s t) c h = refl
takes_less n (Bin op a b) c h = takes_less n b c h
takes_less n (Has a x) c h = refl
takes_less n (HasList t ts x) c h = refl
takes_less n (Cond a b d) c h = takes_less n d c h
takes_less n Get c h = h
takes_less n (GetInto v) c h = let p = or_parts (takes n v c) (is_less c) h in or_from (takes false v c) (is_less c) (takes_less n v c p.0) p.1
takes_less n (GetFrom s) c h = takes_less n s c h
takes_less n (GetIntoFrom v s) c h = takes_less n s c h

takes_any : (n : Bool) (t : Tree) (c : Class) → takes true t c ≡ false → takes n t c ≡ false
takes_any true t c h = h
takes_any false t c h = takes_less true t c h

pub takes_free : (n : Bool) (t : Tree) → takes n t Free ≡ false
takes_free n (Leaf x) = refl
takes_free n Length = refl
takes_free n (Var x) = refl
takes_free n (Index x ts) = refl
takes_free n (Field t) = or_from (takes false t Free) false (takes_free false t) refl
takes_free n (Group t) = refl
takes_free n (Call f ts) = refl
takes_free n (Apply f ts) = refl
takes_free n (Unary p t) = takes_free n t
takes_free n (Pre s t) = takes_free n t
takes_free n (Post s t) = refl
takes_free n (Bin op a b) = takes_free n b
takes_free n (Has a x) = refl
takes_free n (HasList t ts x) = refl
takes_free n (Cond a b d) = takes_free n d
takes_free n Get = refl
takes_free n (GetInto v) = or_from (takes n v Free) false (takes_free n v) refl
takes_free n (GetFrom s) = takes_free n s
takes_free n (GetIntoFrom v s) = takes_free n s

no_steps : (t : Tree) → takes false t Steps ≡ false
no_steps (Leaf x) = refl
no_steps Length = refl
no_steps (Var x) = refl
no_steps (Index x ts) = refl
no_steps (Field t) = or_from (takes false t Steps) false (no_steps t) refl
no_steps (Group t) = refl
no_steps (Call f ts) = refl
no_steps (Apply f ts) = refl
no_steps (Unary p t) = no_steps t
no_steps (Pre s t) = no_steps t
no_steps (Post s t) = refl
no_steps (Bin op a b) = no_steps b
no_steps (Has a x) = refl
no_steps (HasList t ts x) = refl
no_steps (Cond a b d) = no_steps d
no_steps Get = refl
no_steps (GetInto v) = or_from (takes false v Steps) false (no_steps v) refl
no_steps (GetFrom s) = no_steps s
no_steps (GetIntoFrom v s) = no_steps s

no_index : (ts : List Token) → is_index (class_at ts) ≡ false → index_at ts ≡ None
no_index (OpenBracket ∷ ts) h = absurd cc
no_index _ h = refl

no_open : (ts : List Token) → is_opens (class_at ts) ≡ false → open_at ts ≡ None
no_open (Open ∷ ts) h = absurd cc
no_open _ h = refl

no_less : (ts : List Token) → is_less (class_at ts) ≡ false → less_at ts ≡ None
no_less (Infix (Compare Less) ∷ ts) h = absurd cc
no_less _ h = refl

-- ---- the table

symbol_tight : (s : Symbol) → symbol_level s ≤ op_left (Other s)
symbol_tight (Assign a) = omega arith
symbol_tight Or = omega arith
symbol_tight And = omega arith
symbol_tight (Match c) = omega arith
symbol_tight (Compare c) = omega arith
symbol_tight (Mul c) = omega arith
symbol_tight Pow = omega arith

symbol_some : (s : Symbol) → 1 ≤ op_left (Other s)
symbol_some (Assign a) = omega arith
symbol_some Or = omega arith
symbol_some And = omega arith
symbol_some (Match c) = omega arith
symbol_some (Compare c) = omega arith
symbol_some (Mul c) = omega arith
symbol_some Pow = omega arith

symbol_ten : (s : Symbol) → op_left (Other s) ≤ 10 → symbol_level s < 9
symbol_ten (Assign a) h = omega arith
symbol_ten Or h = omega arith
symbol_ten And h = omega arith
symbol_ten (Match c) h = omega arith
symbol_ten (Compare c) h = omega arith
symbol_ten (Mul c) h = omega arith
symbol_ten Pow h = absurd (omega (arith, h))

op_tight : (op : Op) → op_level op ≤ op_left op
op_tight Join = omega arith
op_tight (Add s) = omega arith
op_tight (Other s) = symbol_tight s

link_tight : (o : Link) → link_level o ≤ link_left o
link_tight (Joined op) = op_tight op
link_tight Within = omega arith
link_tight Chosen = omega arith

link_some : (o : Link) → 1 ≤ link_left o
link_some (Joined Join) = omega arith
link_some (Joined (Add s)) = omega arith
link_some (Joined (Other s)) = symbol_some s
link_some Within = omega arith
link_some Chosen = omega arith

link_ten : (o : Link) → link_left o ≤ 10 → link_level o < 9
link_ten (Joined Join) h = omega arith
link_ten (Joined (Add s)) h = omega arith
link_ten (Joined (Other s)) h = symbol_ten s h
link_ten Within h = omega arith
link_ten Chosen h = omega arith

link_loose : (o : Link) → link_level o < 11
link_loose (Joined op) = loose op
link_loose Within = omega arith
link_loose Chosen = omega arith

-- what may have the operator's tree as its left side ends its right side
right_ends : (op : Op) (o : Link) → link_left o ≤ op_edge op → link_level o < floor (op_right op)
right_ends Join o h = omega (arith, h, link_tight o)
right_ends (Add s) o h = omega (arith, h, link_tight o)
right_ends (Other (Assign a)) o h = absurd (omega (arith, h, link_some o))
right_ends (Other Or) o h = omega (arith, h, link_tight o)
right_ends (Other And) o h = omega (arith, h, link_tight o)
right_ends (Other (Match c)) o h = omega (arith, h, link_tight o)
right_ends (Other (Compare c)) o h = omega (arith, h, link_tight o)
right_ends (Other (Mul c)) o h = omega (arith, h, link_tight o)
right_ends (Other Pow) o h = link_ten o h

right_normal : (op : Op) → normal (op_right op) ≡ true
right_normal Join = refl
right_normal (Add s) = refl
right_normal (Other (Assign a)) = refl
right_normal (Other Or) = refl
right_normal (Other And) = refl
right_normal (Other (Match c)) = refl
right_normal (Other (Compare c)) = refl
right_normal (Other (Mul c)) = refl
right_normal (Other Pow) = refl

edge_level : (t : Tree) → edge t ≤ level t
edge_level (Unary p t) = omega arith
edge_level (Bin op a b) = omega (arith, by op)
  where
    by : (op : Op) → op_edge op ≤ op_level op
    by Join = omega arith
    by (Add s) = omega arith
    by (Other (Assign s)) = omega arith
    by (Other Or) = omega arith
    by (Other And) = omega arith
    by (Other (Match s)) = omega arith
    by (Other (Compare s)) = omega arith
    by (Other (Mul s)) = omega arith
    by (Other Pow) = omega arith
edge_level _ = omega arith

-- ---- modes

fits_normal : (m : Mode) (t : Tree) → normal m ≡ true → fits m t ≡ leb (floor m) (level t)
fits_normal Plain t h = absurd cc
fits_normal LValue t h = absurd cc
fits_normal InField t h = absurd cc
fits_normal _ t h = refl

-- from a tree to one at its left edge
fits_edge : (m : Mode) (t u : Tree) → normal m ≡ true → fits m t ≡ true → level t ≤ edge u → fits m u ≡ true
fits_edge m t u n h le = fits_normal m u n ∙ le-leb (floor m) (level u) (omega (arith, leb-true (floor m) (level t) (sym (fits_normal m t n) ∙ h), le, edge_level u))

fits_floor : (m : Mode) (t : Tree) → normal m ≡ true → fits m t ≡ true → floor m ≤ level t
fits_floor m t n h = leb-true (floor m) (level t) (sym (fits_normal m t n) ∙ h)

normal_bin : (m : Mode) (op : Op) (a b : Tree) → fits m (Bin op a b) ≡ true → normal m ≡ true
normal_bin Plain op a b h = absurd (omega (arith, leb-true 12 (op_level op) h, loose op))
normal_bin LValue op a b h = absurd (omega (arith, leb-true 13 (op_level op) h, loose op))
normal_bin InField op a b h = absurd (omega (arith, leb-true 12 (op_level op) h, loose op))
normal_bin _ op a b h = refl

normal_has : (m : Mode) (a : Tree) (n : List ℕ) → fits m (Has a n) ≡ true → normal m ≡ true
normal_has Plain a n h = absurd cc
normal_has LValue a n h = absurd cc
normal_has InField a n h = absurd cc
normal_has _ a n h = refl

normal_cond : (m : Mode) (a b c : Tree) → fits m (Cond a b c) ≡ true → normal m ≡ true
normal_cond Plain a b c h = absurd cc
normal_cond LValue a b c h = absurd cc
normal_cond InField a b c h = absurd cc
normal_cond _ a b c h = refl

normal_post : (m : Mode) (s : Step) (t : Tree) → fits m (Post s t) ≡ true → normal m ≡ true
normal_post Plain s t h = absurd cc
normal_post LValue s t h = absurd cc
normal_post InField s t h = absurd cc
normal_post _ s t h = refl

under_fits : (m : Mode) (p : Prefix) (t : Tree) → fits m (Unary p t) ≡ true → fits Factor t ≡ true → fits (under m) t ≡ true
under_fits InField p t h f = h
under_fits _ p t h f = f

under_normal : (m : Mode) (p : Prefix) (t : Tree) → fits m (Unary p t) ≡ true → normal m ≡ normal (under m)
under_normal Plain p t h = absurd cc
under_normal LValue p t h = absurd cc
under_normal InField p t h = refl
under_normal _ p t h = refl

under_ends : (m : Mode) (p : Prefix) (t : Tree) (o : Link) → fits m (Unary p t) ≡ true → (normal m ≡ true → link_left o ≤ 9) → link_level o < floor (under m)
under_ends Plain p t o h f = absurd cc
under_ends LValue p t o h f = absurd cc
under_ends InField p t o h f = omega (arith, link_loose o)
under_ends _ p t o h f = link_ten o (omega (arith, f refl))

-- ---- reading to the end

goes_on_ends : (expr : Reader) (g : Bool) (limit l : ℕ) (t : Tree) (ts : List Token) (go : Tree → List Token → Read) → Ends g l ts → (o : Option (Link × List Token)) → link_at g ts ≡ o → goes_on expr g limit l t ts go o ≡ Ok (t, ts)
goes_on_ends expr g limit l t ts go h None e = refl
goes_on_ends expr g limit l t ts go h (Some o) e = rw (or_left (ltb (link_level o.0) l) (ltb (edge t) (link_left o.0) || takes true t (class_at ts)) (lt-ltb (link_level o.0) l (h o e))) refl

climb_ends : (expr : Reader) (g : Bool) (limit w l : ℕ) (t : Tree) (ts : List Token) → Ends g l ts → climb expr g limit w l t ts ≡ Ok (t, ts)
climb_ends expr g limit zero l t ts h = refl
climb_ends expr g limit (suc w) l t ts h = goes_on_ends expr g limit l t ts (climb expr g limit w l) h (link_at g ts) refl

-- a reading that comes to the end, and ends there
pub reads : (d : ℕ) (g : Bool) (m : Mode) (t : Tree) (rest : List Token) → Again t → IsWellFormed g t → fits m t ≡ true → depth t ≤ d → Follows g m t rest → takes (normal m) t (class_at rest) ≡ false → Ends g (floor m) rest → expr_at d g m (print t ++ rest) ≡ Ok (t, rest)
reads zero g m t rest h f w s v k e = let p = deep t in absurd (omega arith)
reads (suc d) g m t rest h f w s v k e = let r = h d g m rest f w s v k in r.2 ∙ climb_ends (expr_at d) g (suc d) r.0 (floor m) t rest e

-- what no expression goes on with
pub record Closing (g : Bool) (rest : List Token) : Type 0 where
  pub none : link_at g rest ≡ None
  pub free : class_at rest ≡ Free

pub some_not_none : (o : Link × List Token) → Some o ≡ None → ⊥
some_not_none o e = cc

pub reads_whole : (d : ℕ) (g : Bool) (t : Tree) (rest : List Token) → Again t → IsWellFormed g t → depth t ≤ d → Closing g rest → expr_at d g Whole (print t ++ rest) ≡ Ok (t, rest)
reads_whole d g t rest h f s c = reads d g Whole t rest h f (le-leb 0 (level t) (omega arith)) s (λ n o q. absurd (some_not_none o (sym q ∙ c.none))) (ap (takes true t) c.free ∙ takes_free true t) (λ o q. absurd (some_not_none o (sym q ∙ c.none)))

-- in a mode without operators
reads_tight : (d : ℕ) (g : Bool) (m : Mode) (t : Tree) (rest : List Token) → normal m ≡ false → 11 ≤ floor m → Again t → IsWellFormed g t → fits m t ≡ true → depth t ≤ d → takes false t (class_at rest) ≡ false → expr_at d g m (print t ++ rest) ≡ Ok (t, rest)
reads_tight d g m t rest n l h f w s k = reads d g m t rest h f w s (λ y o q. absurd (bad y n)) (ap (λ b. takes b t (class_at rest)) n ∙ k) (λ o q. omega (arith, l, link_loose o.0))
  where
    bad : normal m ≡ true → normal m ≡ false → ⊥
    bad y n = cc

not_lvalue_bin : (op : Op) → leb 13 (op_level op) ≡ false
not_lvalue_bin Join = refl
not_lvalue_bin (Add s) = refl
not_lvalue_bin (Other (Assign s)) = refl
not_lvalue_bin (Other Or) = refl
not_lvalue_bin (Other And) = refl
not_lvalue_bin (Other (Match s)) = refl
not_lvalue_bin (Other (Compare s)) = refl
not_lvalue_bin (Other (Mul s)) = refl
not_lvalue_bin (Other Pow) = refl

-- nothing but an LValue takes a step
lvalue_steps : (n : Bool) (t : Tree) → takes n t Steps ≡ false → (n && fits LValue t) ≡ false
lvalue_steps false t h = refl
lvalue_steps true (Var x) h = absurd cc
lvalue_steps true (Index x ts) h = absurd cc
lvalue_steps true (Field t) h = let p = (or_parts (takes false t Steps) true h).1 in absurd cc
lvalue_steps true (Bin op a b) h = not_lvalue_bin op
lvalue_steps true _ h = refl

posted_none : (b : Bool) (t : Tree) (ts : List Token) → posted_by b t ts None ≡ (t, ts)
posted_none true t ts = refl
posted_none false t ts = refl

posted_same : (m : Mode) (t : Tree) (rest : List Token) → takes (normal m) t (class_at rest) ≡ false → posted m (t, rest) ≡ (t, rest)
posted_same m t (StepMark s ∷ rest) h = rw (lvalue_steps (normal m) t h) refl
posted_same m t [] h = posted_none (normal m && fits LValue t) t []
posted_same m t (k ∷ rest) h = posted_none (normal m && fits LValue t) t (k ∷ rest)

reach_operand : (d : ℕ) (g : Bool) (m : Mode) (t : Tree) (rest : List Token) → first_at (expr_at d) g m (print t ++ rest) ≡ Ok (t, rest) → fits m t ≡ true → depth t ≤ suc d → takes (normal m) t (class_at rest) ≡ false → Reaches d g m t rest
unfolding expr_at
reach_operand d g m t rest e w s k = (length rest, omega arith, rw (e, posted_same m t rest k, w, le-ltb (suc d) (depth t) s) refl)

from_first : (t : Tree) → 12 ≤ level t → First t → Again t
from_first t l h d g m rest f w s v k = reach_operand d g m t rest (h l d g m rest f s (takes_less (normal m) t (class_at rest) k)) w s k

-- ---- operators

starts_link : (g : Bool) (b r : List Token) → StartsOperand b → link_at g (b ++ r) ≡ Some (Joined Join, b ++ r)
starts_link g [] r h = absurd h
starts_link g (Lit c ∷ b) r h = refl
starts_link g (Name c ∷ b) r h = refl
starts_link g (FuncName c ∷ b) r h = refl
starts_link g (Word c ∷ b) r h = refl
starts_link g (GetlineWord ∷ b) r h = refl
starts_link g (Dollar ∷ b) r h = refl
starts_link g (Open ∷ b) r h = refl
starts_link g (NotMark ∷ b) r h = refl
starts_link g (StepMark s ∷ b) r h = refl
starts_link g _ r h = absurd h

link_printed : (g : Bool) (op : Op) (b r : List Token) → MayJoin op b → op_allowed g op ≡ true → link_at g (op_tokens op ++ (b ++ r)) ≡ Some (Joined op, b ++ r)
link_printed g Join b r h a = starts_link g b r h
link_printed g (Add s) b r h a = refl
link_printed g (Other s) b r h a = rw a refl

printed_room : (t : Tree) (r : List Token) → length r < length (print t ++ r)
printed_room t r = let h = heads t in rw h.2 (omega (arith, length-append h.1 r))

takes_room : (op : Op) (t : Tree) (r : List Token) → length r < length (op_tokens op ++ (print t ++ r))
takes_room Join t r = printed_room t r
takes_room (Add s) t r = omega (arith, printed_room t r)
takes_room (Other s) t r = omega (arith, printed_room t r)

some_first : (o p : Link × List Token) → Some o ≡ Some p → o.0 ≡ p.0
some_first o p e = let f : o ≡ p = cc in ap (λ (y : Link × List Token). y.0) f

-- one more operator
step : (d : ℕ) (g : Bool) (m : Mode) (k : ℕ) (t u : Tree) (ts us rest : List Token) (o : Link) → link_at g ts ≡ Some (o, us) → floor m ≤ link_level o → link_left o ≤ edge t → takes true t (class_at ts) ≡ false → after (expr_at d) g t o us ≡ Ok (u, rest) → depth u ≤ suc d → climb (expr_at d) g (suc d) (suc k) (floor m) t ts ≡ climb (expr_at d) g (suc d) k (floor m) u rest
step d g m k t u ts us rest o at le left free e small =
    rw (at, or_from (ltb (link_level o) (floor m)) (ltb (edge t) (link_left o) || takes true t (class_at ts)) (le-ltb (link_level o) (floor m) le) (or_from (ltb (edge t) (link_left o)) (takes true t (class_at ts)) (le-ltb (edge t) (link_left o) left) free), e, le-ltb (suc d) (depth u) small) refl

chain : (d : ℕ) (g : Bool) (m : Mode) (t u : Tree) (ts us rest : List Token) (o : Link) → link_at g ts ≡ Some (o, us) → floor m ≤ link_level o → link_left o ≤ edge t → takes true t (class_at ts) ≡ false → after (expr_at d) g t o us ≡ Ok (u, rest) → depth u ≤ suc d → length rest < length ts → print u ++ rest ≡ print t ++ ts → Reaches d g m t ts → Reaches d g m u rest
chain d g m t u ts us rest o at le left free e small shorter same (zero, room, r) = absurd (omega (arith, room, shorter))
chain d g m t u ts us rest o at le left free e small shorter same (suc k, room, r) = (k, omega (arith, room, shorter), ap (λ (v : List Token). expr_at (suc d) g m v) same ∙ r ∙ step d g m k t u ts us rest o at le left free e small)

reach_bin : (op : Op) (a b : Tree) → Again a → Again b → Again (Bin op a b)
reach_bin op a b ha hb d g m rest f w s v k =
    let n = normal_bin m op a b w in
    let kb : takes true b (class_at rest) ≡ false = subst (λ c. takes c b (class_at rest) ≡ false) n k in
    let right : expr_at d g (op_right op) (print b ++ rest) ≡ Ok (b, rest) =
    reads d g (op_right op) b rest hb f.1 f.3 (omega arith) (λ y o q. omega (arith, v n o q)) (ap (λ c. takes c b (class_at rest)) (right_normal op) ∙ kb) (λ o q. right_ends op o.0 (omega (arith, v n o q))) in
    let ts = op_tokens op ++ (print b ++ rest) in
    let at : link_at g ts ≡ Some (Joined op, print b ++ rest) = link_printed g op (print b) rest f.4 f.6 in
    let free : takes true a (class_at ts) ≡ false = ap (takes true a) (class_op op b rest) ∙ f.5 in
    let follows : Follows g m a ts = λ y o q. subst (λ (i : Link). link_left i ≤ edge a) (some_first (Joined op, print b ++ rest) o (sym at ∙ q)) f.2 in
    let aft : after (expr_at d) g a (Joined op) (print b ++ rest) ≡ Ok (Bin op a b, rest) = rw right refl in
    let fl = fits_floor m (Bin op a b) n w in
    let wa = fits_edge m (Bin op a b) a n w (omega (arith, op_tight op, f.2)) in
    chain d g m a (Bin op a b) ts (print b ++ rest) rest (Joined op) at fl f.2 free aft s (takes_room op b rest) (regroup (print a) (op_tokens op) (print b) rest) (ha d g m ts f.0 wa (omega arith) follows (takes_any (normal m) a (class_at ts) free))
  where
    regroup : (a c b r : List Token) → (a ++ (c ++ b)) ++ r ≡ a ++ (c ++ (b ++ r))
    regroup a c b r = simp append_assoc

reach_has : (a : Tree) (n : List ℕ) → Again a → Again (Has a n)
reach_has a n ha d g m rest f w s v k =
    let y = normal_has m a n w in
    let ts = InWord ∷ (Name n ∷ rest) in
    let follows : Follows g m a ts = λ y o q. subst (λ (i : Link). link_left i ≤ edge a) (some_first (Within, Name n ∷ rest) o q) f.1 in
    let fl = fits_floor m (Has a n) y w in
    let wa = fits_edge m (Has a n) a y w f.1 in
    chain d g m a (Has a n) ts (Name n ∷ rest) rest Within refl fl f.1 (takes_free true a) refl s (omega arith) (append_assoc (print a) (InWord ∷ (Name n ∷ [])) rest) (ha d g m ts f.0 wa (omega arith) follows (takes_free (normal m) a))

reach_cond : (a b c : Tree) → Again a → Again b → Again c → Again (Cond a b c)
reach_cond a b c ha hb hc d g m rest f w s v k =
    let y = normal_cond m a b c w in
    let ts = Question ∷ (print b ++ (Colon ∷ (print c ++ rest))) in
    let kc : takes true c (class_at rest) ≡ false = subst (λ i. takes i c (class_at rest) ≡ false) y k in
    let one : expr_at d g Whole (print b ++ (Colon ∷ (print c ++ rest))) ≡ Ok (b, Colon ∷ (print c ++ rest)) = reads_whole d g b (Colon ∷ (print c ++ rest)) hb f.1 (omega arith) (record { none = refl; free = refl }) in
    let two : expr_at d g Whole (print c ++ rest) ≡ Ok (c, rest) = reads d g Whole c rest hc f.2 (le-leb 0 (level c) (omega arith)) (omega arith) (λ i o q. absurd (omega (arith, v y o q, link_some o.0))) kc (λ o q. absurd (omega (arith, v y o q, link_some o.0))) in
    let follows : Follows g m a ts = λ y o q. subst (λ (i : Link). link_left i ≤ edge a) (some_first (Chosen, print b ++ (Colon ∷ (print c ++ rest))) o q) f.3 in
    let fl = fits_floor m (Cond a b c) y w in
    let wa = fits_edge m (Cond a b c) a y w (omega arith) in
    let aft : after (expr_at d) g a Chosen (print b ++ (Colon ∷ (print c ++ rest))) ≡ Ok (Cond a b c, rest) = rw (one, two) refl in
    chain d g m a (Cond a b c) ts (print b ++ (Colon ∷ (print c ++ rest))) rest Chosen refl fl f.3 (takes_free true a) aft s (room (print b) (print c)) (regroup (print a) (print b) (print c) rest) (ha d g m ts f.0 wa (omega arith) follows (takes_free (normal m) a))
  where
    room : (b c : List Token) → length rest < length (Question ∷ (b ++ (Colon ∷ (c ++ rest))))
    room b c = omega (arith, length-append b (Colon ∷ (c ++ rest)), length-append c rest)

    regroup : (a b c r : List Token) → (a ++ (Question ∷ (b ++ (Colon ∷ c)))) ++ r ≡ a ++ (Question ∷ (b ++ (Colon ∷ (c ++ r))))
    regroup a b c r = simp append_assoc

-- ---- lists

abbrev pub MoreAgain : Trees → Type 0
MoreAgain ts = (d : ℕ) (g : Bool) (w : ℕ) (rest : List Token) → AreWellFormed g ts → depths ts ≤ d → length (print_more ts ++ rest) ≤ w → Closing g rest → comma_at rest ≡ None → more_at (expr_at d) g w (print_more ts ++ rest) ≡ Ok (ts, rest)

abbrev pub ListAgain : Trees → Type 0
ListAgain ts = IsSome ts → (d : ℕ) (g : Bool) (rest : List Token) → AreWellFormed g ts → depths ts ≤ d → Closing g rest → comma_at rest ≡ None → list_at (expr_at d) g (print_list ts ++ rest) ≡ Ok (ts, rest)

more_none : MoreAgain NoTree
more_none d g zero rest f s room c n = refl
more_none d g (suc w) rest f s room c n = rw n refl

more_closing : (g : Bool) (ts : Trees) (rest : List Token) → Closing g rest → Closing g (print_more ts ++ rest)
more_closing g NoTree rest c = record { none = c.none; free = c.free }
more_closing g (Then t ts) rest c = record { none = refl; free = refl }

more_then : (t : Tree) (ts : Trees) → Again t → MoreAgain ts → MoreAgain (Then t ts)
more_then t ts h k d g zero rest f s room c n = absurd (omega arith)
more_then t ts h k d g (suc w) rest f s room c n =
    let one : expr_at d g Whole (print t ++ (print_more ts ++ rest)) ≡ Ok (t, print_more ts ++ rest) = reads_whole d g t (print_more ts ++ rest) h f.0 (omega arith) (more_closing g ts rest c) in
    let all : expr_at d g Whole ((print t ++ print_more ts) ++ rest) ≡ Ok (t, print_more ts ++ rest) = rw append_assoc one in
    let others : more_at (expr_at d) g w (print_more ts ++ rest) ≡ Ok (ts, rest) = k d g w rest f.1 (omega arith) (omega (arith, room, length-append (print t ++ print_more ts) rest, length-append (print t) (print_more ts), length-append (print_more ts) rest)) c n in
    rw (all, others) refl

list_then : (t : Tree) (ts : Trees) → Again t → MoreAgain ts → ListAgain (Then t ts)
list_then t ts h k i d g rest f s c n =
    let one : expr_at d g Whole (print t ++ (print_more ts ++ rest)) ≡ Ok (t, print_more ts ++ rest) = reads_whole d g t (print_more ts ++ rest) h f.0 (omega arith) (more_closing g ts rest c) in
    let all : expr_at d g Whole ((print t ++ print_more ts) ++ rest) ≡ Ok (t, print_more ts ++ rest) = rw append_assoc one in
    let others : more_at (expr_at d) g (length (print_more ts ++ rest)) (print_more ts ++ rest) ≡ Ok (ts, rest) = k d g (length (print_more ts ++ rest)) rest f.1 (omega arith) (omega arith) c n in
    rw (all, others) refl

not_closed : (expr : Reader) (t : Tree) (r : List Token) → arguments_at expr (print t ++ r) ≡ closing expr (print t ++ r)
not_closed expr (Post s t) r = rw append_assoc (not_closed expr t ((StepMark s ∷ []) ++ r))
not_closed expr (Bin op a b) r = rw append_assoc (not_closed expr a ((op_tokens op ++ print b) ++ r))
not_closed expr (Has a n) r = rw append_assoc (not_closed expr a ((InWord ∷ (Name n ∷ [])) ++ r))
not_closed expr (Cond a b c) r = rw append_assoc (not_closed expr a ((Question ∷ (print b ++ (Colon ∷ print c))) ++ r))
not_closed expr (Unary Not t) r = refl
not_closed expr (Unary (Signed s) t) r = refl
not_closed expr _ r = refl

arguments_again : (ts : Trees) (d : ℕ) (rest : List Token) → ListAgain ts → AreWellFormed true ts → depths ts ≤ d → arguments_at (expr_at d) (print_list ts ++ (Close ∷ rest)) ≡ Ok (ts, rest)
arguments_again NoTree d rest h f s = refl
arguments_again (Then t ts) d rest h f s =
    let one : list_at (expr_at d) true ((print t ++ print_more ts) ++ (Close ∷ rest)) ≡ Ok (Then t ts, Close ∷ rest) = h tt d true (Close ∷ rest) f s (record { none = refl; free = refl }) refl in
    let two : closing (expr_at d) ((print t ++ print_more ts) ++ (Close ∷ rest)) ≡ Ok (Then t ts, rest) = ap (λ (r : ReadMany). r >>= λ x. close_at x.1 >>= λ us. Ok (x.0, us)) one in
    ap (arguments_at (expr_at d)) (append_assoc (print t) (print_more ts) (Close ∷ rest)) ∙ not_closed (expr_at d) t (print_more ts ++ (Close ∷ rest)) ∙ ap (closing (expr_at d)) (sym (append_assoc (print t) (print_more ts) (Close ∷ rest))) ∙ two

-- ---- operands

first_leaf : (c : Literal) → First (Leaf c)
first_leaf c l d g m rest f s k = refl

first_length : First Length
first_length l d g m rest f s k = rw (no_open rest k) refl

first_var : (n : List ℕ) → First (Var n)
first_var n l d g m rest f s k = rw (no_index rest (or_parts (is_index (class_at rest)) (is_steps (class_at rest) && false) k).0) refl

first_index : (n : List ℕ) (ts : Trees) → ListAgain ts → First (Index n ts)
first_index n ts h l d g m rest f s k =
    let one : list_at (expr_at d) true (print_list ts ++ (CloseBracket ∷ rest)) ≡ Ok (ts, CloseBracket ∷ rest) = h f.1 d true (CloseBracket ∷ rest) f.0 (omega arith) (record { none = refl; free = refl }) refl in
    let all : list_at (expr_at d) true ((print_list ts ++ (CloseBracket ∷ [])) ++ rest) ≡ Ok (ts, CloseBracket ∷ rest) = rw append_assoc one in
    ap (λ (r : ReadMany). r >>= λ x. bracket_at x.1 >>= λ vs. Ok (Index n x.0, vs)) all

first_field : (t : Tree) → Again t → First (Field t)
first_field t h l d g m rest f s k =
    let one : expr_at d g InField (print t ++ rest) ≡ Ok (t, rest) = reads_tight d g InField t rest refl (omega arith) h f.0 f.1 (omega arith) (or_parts (takes false t (class_at rest)) (is_steps (class_at rest) && false) k).0 in
    rw one refl

first_group : (t : Tree) → Again t → First (Group t)
first_group t h l d g m rest f s k =
    let one : expr_at d true Whole (print t ++ (Close ∷ rest)) ≡ Ok (t, Close ∷ rest) = reads_whole d true t (Close ∷ rest) h f (omega arith) (record { none = refl; free = refl }) in
    let all : expr_at d true Whole ((print t ++ (Close ∷ [])) ++ rest) ≡ Ok (t, Close ∷ rest) = rw append_assoc one in
    rw all refl

first_call : (n : List ℕ) (ts : Trees) → ListAgain ts → First (Call n ts)
first_call n ts h l d g m rest f s k =
    let all : arguments_at (expr_at d) ((print_list ts ++ (Close ∷ [])) ++ rest) ≡ Ok (ts, rest) = rw append_assoc (arguments_again ts d rest h f (omega arith)) in
    ap (λ (r : ReadMany). r >>= λ x. Ok (Call n x.0, x.1)) all

first_apply : (n : Builtin) (ts : Trees) → ListAgain ts → First (Apply n ts)
first_apply n ts h l d g m rest f s k =
    let all : arguments_at (expr_at d) ((print_list ts ++ (Close ∷ [])) ++ rest) ≡ Ok (ts, rest) = rw append_assoc (arguments_again ts d rest h f.0 (omega arith)) in
    let fit : suited n (ts, rest) ≡ Ok (Apply n ts, rest) = rw f.1 refl in
    ap (λ (r : ReadMany). r >>= suited n) all ∙ fit

unary_first : (d : ℕ) (g : Bool) (m : Mode) (p : Prefix) (t : Tree) (rest : List Token) → expr_at d g (under m) (print t ++ rest) ≡ Ok (t, rest) → first_at (expr_at d) g m (prefix_token p ∷ (print t ++ rest)) ≡ Ok (Unary p t, rest)
unary_first d g m Not t rest e = rw e refl
unary_first d g m (Signed s) t rest e = rw e refl

reach_unary : (p : Prefix) (t : Tree) → Again t → Again (Unary p t)
reach_unary p t h d g m rest f w s v k =
    let n = under_normal m p t w in
    let one : expr_at d g (under m) (print t ++ rest) ≡ Ok (t, rest) = reads d g (under m) t rest h f.0 (under_fits m p t w f.1) (omega arith) (λ y o q. omega (arith, v (n ∙ y) o q)) (subst (λ b. takes b t (class_at rest) ≡ false) n k) (λ o q. under_ends m p t o.0 w (λ y. omega (arith, v y o q))) in
    reach_operand d g m (Unary p t) rest (unary_first d g m p t rest one) w s k

reach_pre : (p : Step) (t : Tree) → Again t → Again (Pre p t)
reach_pre p t h d g m rest f w s v k =
    let one : expr_at d g LValue (print t ++ rest) ≡ Ok (t, rest) = reads_tight d g LValue t rest refl (omega arith) h f.0 f.1 (omega arith) (takes_less (normal m) t (class_at rest) k) in
    let all : first_at (expr_at d) g m (StepMark p ∷ (print t ++ rest)) ≡ Ok (Pre p t, rest) = rw one refl in
    reach_operand d g m (Pre p t) rest all w s k

reach_post : (p : Step) (t : Tree) → First t → Again (Post p t)
unfolding expr_at
reach_post p t h d g m rest f w s v k =
    let le = leb-true 13 (level t) f.1 in
    let n = normal_post m p t w in
    let one : first_at (expr_at d) g m (print t ++ (StepMark p ∷ rest)) ≡ Ok (t, StepMark p ∷ rest) = h (omega (arith, le)) d g m (StepMark p ∷ rest) f.0 (omega arith) (no_steps t) in
    let all : first_at (expr_at d) g m ((print t ++ (StepMark p ∷ [])) ++ rest) ≡ Ok (t, StepMark p ∷ rest) = rw append_assoc one in
    let both : (normal m && fits LValue t) ≡ true = and_from (normal m) (fits LValue t) n f.1 in
    let same : posted m (t, StepMark p ∷ rest) ≡ (Post p t, rest) = rw both refl in
    (length rest, omega arith, rw (all, same, w, le-ltb (suc d) (depth (Post p t)) s) refl)

reach_list : (t : Tree) (ts : Trees) (n : List ℕ) → Again t → ListAgain ts → Again (HasList t ts n)
reach_list t ts n h hs d g m rest f w s v k =
    let tail = Close ∷ (InWord ∷ (Name n ∷ [])) in
    let one : expr_at d true Whole (print t ++ (Comma ∷ (print_list ts ++ (Close ∷ (InWord ∷ (Name n ∷ rest)))))) ≡ Ok (t, Comma ∷ (print_list ts ++ (Close ∷ (InWord ∷ (Name n ∷ rest))))) = reads_whole d true t (Comma ∷ (print_list ts ++ (Close ∷ (InWord ∷ (Name n ∷ rest))))) h f.0 (omega arith) (record { none = refl; free = refl }) in
    let others : list_at (expr_at d) true (print_list ts ++ (Close ∷ (InWord ∷ (Name n ∷ rest)))) ≡ Ok (ts, Close ∷ (InWord ∷ (Name n ∷ rest))) = hs f.2 d true (Close ∷ (InWord ∷ (Name n ∷ rest))) f.1 (omega arith) (record { none = refl; free = refl }) refl in
    let all : expr_at d true Whole ((print t ++ (Comma ∷ (print_list ts ++ tail))) ++ rest) ≡ Ok (t, Comma ∷ (print_list ts ++ (Close ∷ (InWord ∷ (Name n ∷ rest))))) = ap (expr_at d true Whole) (regroup (print t) (print_list ts)) ∙ one in
    let paren : paren_by (expr_at d) t (Comma ∷ (print_list ts ++ (Close ∷ (InWord ∷ (Name n ∷ rest))))) (Some (print_list ts ++ (Close ∷ (InWord ∷ (Name n ∷ rest))))) ≡ Ok (HasList t ts n, rest) = ap (λ (r : ReadMany). r >>= λ x. close_at x.1 >>= λ vs. in_at vs >>= λ ws. name_at ws >>= λ n. Ok (HasList t x.0 n.0, n.1)) others in
    let first : first_at (expr_at d) g m (Open ∷ ((print t ++ (Comma ∷ (print_list ts ++ tail))) ++ rest)) ≡ Ok (HasList t ts n, rest) = ap (λ (r : Read). r >>= λ x. paren_by (expr_at d) x.0 x.1 (comma_at x.1)) all ∙ paren in
    reach_operand d g m (HasList t ts n) rest first w s k
  where
    regroup : (a b : List Token) → (a ++ (Comma ∷ (b ++ (Close ∷ (InWord ∷ (Name n ∷ [])))))) ++ rest ≡ a ++ (Comma ∷ (b ++ (Close ∷ (InWord ∷ (Name n ∷ rest)))))
    regroup a b = simp append_assoc

reach_get : Again Get
reach_get d g m rest f w s v k =
    let p = or_parts (is_start (class_at rest)) (is_less (class_at rest)) k in
    let first : first_at (expr_at d) g m (GetlineWord ∷ rest) ≡ Ok (Get, rest) = rw (p.0, no_less rest p.1) refl in
    reach_operand d g m Get rest first w s k

-- an LValue begins as one
starts_lvalue : (t : Tree) (r : List Token) → fits LValue t ≡ true → is_start (class_at (print t ++ r)) ≡ true
starts_lvalue (Var n) r h = refl
starts_lvalue (Index n ts) r h = refl
starts_lvalue (Field t) r h = refl
starts_lvalue (Bin op a b) r h = absurd (omega (arith, leb-true 13 (op_level op) h, loose op))
starts_lvalue _ r h = absurd cc

reach_into : (t : Tree) → Again t → Again (GetInto t)
reach_into t h d g m rest f w s v k =
    let p = or_parts (takes (normal m) t (class_at rest)) (is_less (class_at rest)) k in
    let one : expr_at d g LValue (print t ++ rest) ≡ Ok (t, rest) = reads_tight d g LValue t rest refl (omega arith) h f.0 f.1 (omega arith) (takes_less (normal m) t (class_at rest) p.0) in
    let first : first_at (expr_at d) g m (GetlineWord ∷ (print t ++ rest)) ≡ Ok (GetInto t, rest) = rw (starts_lvalue t rest f.1, one, no_less rest p.1) refl in
    reach_operand d g m (GetInto t) rest first w s k

reach_from : (t : Tree) → Again t → Again (GetFrom t)
reach_from t h d g m rest f w s v k =
    let one : expr_at d g Plain (print t ++ rest) ≡ Ok (t, rest) = reads_tight d g Plain t rest refl (omega arith) h f.0 f.1 (omega arith) (takes_less (normal m) t (class_at rest) k) in
    let first : first_at (expr_at d) g m (GetlineWord ∷ (Infix (Compare Less) ∷ (print t ++ rest))) ≡ Ok (GetFrom t, rest) = rw one refl in
    reach_operand d g m (GetFrom t) rest first w s k

lvalue_field : (t : Tree) → fits LValue t ≡ true → is_field t ≡ true
lvalue_field (Var n) h = refl
lvalue_field (Index n ts) h = refl
lvalue_field (Field t) h = refl
lvalue_field (Bin op a b) h = absurd (omega (arith, leb-true 13 (op_level op) h, loose op))
lvalue_field _ h = absurd cc

-- nothing that stands after a dollar sign ends in a getline
field_less : (g : Bool) (t : Tree) → IsWellFormed g t → is_field t ≡ true → takes false t IsLess ≡ false
field_less g (Leaf c) f h = refl
field_less g Length f h = refl
field_less g (Var n) f h = refl
field_less g (Index n ts) f h = refl
field_less g (Field t) f h = or_from (takes false t IsLess) false (field_less g t f.0 f.1) refl
field_less g (Group t) f h = refl
field_less g (Call n ts) f h = refl
field_less g (Apply n ts) f h = refl
field_less g (Unary p t) f h = field_less g t f.0 h
field_less g (Pre s t) f h = field_less g t f.0 (lvalue_field t f.1)
field_less g (Bin op a b) f h = absurd (omega (arith, leb-true 12 (op_level op) h, loose op))
field_less g _ f h = absurd cc

reach_both : (u t : Tree) → Again u → Again t → Again (GetIntoFrom u t)
reach_both u t hu h d g m rest f w s v k =
    let next = Infix (Compare Less) ∷ (print t ++ rest) in
    let one : expr_at d g LValue (print u ++ next) ≡ Ok (u, next) = reads_tight d g LValue u next refl (omega arith) hu f.0 f.1 (omega arith) (field_less g u f.0 (lvalue_field u f.1)) in
    let two : expr_at d g Plain (print t ++ rest) ≡ Ok (t, rest) = reads_tight d g Plain t rest refl (omega arith) h f.2 f.3 (omega arith) (takes_less (normal m) t (class_at rest) k) in
    let all : expr_at d g LValue ((print u ++ (Infix (Compare Less) ∷ print t)) ++ rest) ≡ Ok (u, next) = rw append_assoc one in
    let start : is_start (class_at ((print u ++ (Infix (Compare Less) ∷ print t)) ++ rest)) ≡ true = rw append_assoc (starts_lvalue u ((Infix (Compare Less) ∷ print t) ++ rest) f.1) in
    let first : first_at (expr_at d) g m (GetlineWord ∷ ((print u ++ (Infix (Compare Less) ∷ print t)) ++ rest)) ≡ Ok (GetIntoFrom u t, rest) = rw (start, all, two) refl in
    reach_operand d g m (GetIntoFrom u t) rest first w s k

-- ---- trees

mutual
  pub again : (t : Tree) → Again t
  again (Leaf c) = from_first (Leaf c) (omega arith) (first_leaf c)
  again Length = from_first Length (omega arith) first_length
  again (Var n) = from_first (Var n) (omega arith) (first_var n)
  again (Index n ts) = from_first (Index n ts) (omega arith) (first_index n ts (again_list ts))
  again (Field t) = from_first (Field t) (omega arith) (first_field t (again t))
  again (Group t) = from_first (Group t) (omega arith) (first_group t (again t))
  again (Call n ts) = from_first (Call n ts) (omega arith) (first_call n ts (again_list ts))
  again (Apply n ts) = from_first (Apply n ts) (omega arith) (first_apply n ts (again_list ts))
  again (Unary p t) = reach_unary p t (again t)
  again (Pre s t) = reach_pre s t (again t)
  again (Post s t) = reach_post s t (again_first t)
  again (Bin op a b) = reach_bin op a b (again a) (again b)
  again (Has a n) = reach_has a n (again a)
  again (HasList t ts n) = reach_list t ts n (again t) (again_list ts)
  again (Cond a b c) = reach_cond a b c (again a) (again b) (again c)
  again Get = reach_get
  again (GetInto t) = reach_into t (again t)
  again (GetFrom t) = reach_from t (again t)
  again (GetIntoFrom u t) = reach_both u t (again u) (again t)

  again_first : (t : Tree) → First t
  again_first (Leaf c) = first_leaf c
  again_first Length = first_length
  again_first (Var n) = first_var n
  again_first (Index n ts) = first_index n ts (again_list ts)
  again_first (Field t) = first_field t (again t)
  again_first (Group t) = first_group t (again t)
  again_first (Call n ts) = first_call n ts (again_list ts)
  again_first (Apply n ts) = first_apply n ts (again_list ts)
  again_first (Bin op a b) = λ l. absurd (omega (arith, l, loose op))
  again_first _ = λ l. absurd (omega (arith, l))

  pub again_list : (ts : Trees) → ListAgain ts
  again_list NoTree = λ h. absurd h
  again_list (Then t ts) = list_then t ts (again t) (again_more ts)

  again_more : (ts : Trees) → MoreAgain ts
  again_more NoTree = more_none
  again_more (Then t ts) = more_then t ts (again t) (again_more ts)
