-- Reading an expression from the front of the tokens.
use Rattle.std.specs.Prelude.{ℕ, zero, suc, List, ◌∷◌, length, Option, Some, None, Result, Ok, Err, nat_lt, Bool, true, false, ◌||◌, ◌&&◌, if◌then◌else◌}
use Rattle.awk_grammar.specs.Token.{Not, Signed, Step, Less, Compare, Token, Lit, Name, FuncName, Word, GetlineWord, InWord, Dollar, Open, Close, OpenBracket, CloseBracket, Comma, Question, Colon, SignMark, NotMark, StepMark, Infix}
use Rattle.awk_tokens.specs.declared.reserved_words.Builtin.{Builtin}
use Rattle.awk_tokens.specs.declared.reserved_words.Builtin.TheVariants.{Length as LengthOf}
use Rattle.awk_grammar.specs.Tree.{op_level, op_left, op_right, Mode, Whole, Factor, Plain, LValue, InField, floor, normal, fits, edge, class_at, is_start, takes, allowed, suits}
use Rattle.awk_grammar.specs.Trees.{Op, Join, Add, Other, Tree, Leaf, Length, Var, Index, Field, Group, Call, Apply, Unary, Pre, Post, Bin, Has, HasList, Cond, Get, GetInto, GetFrom, GetIntoFrom, Trees, NoTree, Then, depth}

-- why no tree is read
pub data Fault : Type 0 where
  Syntax : Fault
  TooDeep : Fault

infixl 10 ◌>>=◌
abbrev pub ◌>>=◌ : {A B : Type 0} → Result A Fault → (A → Result B Fault) → Result B Fault
(Ok x) >>= f = f x
(Err e) >>= f = Err e

-- a tree and the tokens after it
abbrev pub Read : Type 0
Read = Result (Tree × List Token) Fault

abbrev pub ReadMany : Type 0
ReadMany = Result (Trees × List Token) Fault

abbrev pub Reader : Type 0
Reader = Bool → Mode → List Token → Read

-- ---- single tokens

abbrev pub close_at : List Token → Result (List Token) Fault
close_at (Close ∷ ts) = Ok ts
close_at _ = Err Syntax

abbrev pub bracket_at : List Token → Result (List Token) Fault
bracket_at (CloseBracket ∷ ts) = Ok ts
bracket_at _ = Err Syntax

abbrev pub colon_at : List Token → Result (List Token) Fault
colon_at (Colon ∷ ts) = Ok ts
colon_at _ = Err Syntax

abbrev pub in_at : List Token → Result (List Token) Fault
in_at (InWord ∷ ts) = Ok ts
in_at _ = Err Syntax

abbrev pub name_at : List Token → Result (List ℕ × List Token) Fault
name_at (Name n ∷ ts) = Ok (n, ts)
name_at _ = Err Syntax

abbrev pub comma_at : List Token → Option (List Token)
comma_at (Comma ∷ ts) = Some ts
comma_at _ = None

abbrev pub open_at : List Token → Option (List Token)
open_at (Open ∷ ts) = Some ts
open_at _ = None

abbrev pub index_at : List Token → Option (List Token)
index_at (OpenBracket ∷ ts) = Some ts
index_at _ = None

abbrev pub less_at : List Token → Option (List Token)
less_at (Infix (Compare Less) ∷ ts) = Some ts
less_at _ = None

abbrev pub step_at : List Token → Option (Step × List Token)
step_at (StepMark s ∷ ts) = Some (s, ts)
step_at _ = None

-- what joins a tree to what follows it
pub data Link : Type 0 where
  Joined : Op → Link
  Within : Link
  Chosen : Link

abbrev pub link_level : Link → ℕ
link_level (Joined op) = op_level op
link_level Within = 3
link_level Chosen = 0

abbrev pub link_left : Link → ℕ
link_left (Joined op) = op_left op
link_left Within = 3
link_left Chosen = 1

-- the operator at the front, and the tokens after it
abbrev pub link_at : Bool → List Token → Option (Link × List Token)
link_at g (Lit c ∷ ts) = Some (Joined Join, Lit c ∷ ts)
link_at g (Name n ∷ ts) = Some (Joined Join, Name n ∷ ts)
link_at g (FuncName f ∷ ts) = Some (Joined Join, FuncName f ∷ ts)
link_at g (Word f ∷ ts) = Some (Joined Join, Word f ∷ ts)
link_at g (GetlineWord ∷ ts) = Some (Joined Join, GetlineWord ∷ ts)
link_at g (Dollar ∷ ts) = Some (Joined Join, Dollar ∷ ts)
link_at g (Open ∷ ts) = Some (Joined Join, Open ∷ ts)
link_at g (NotMark ∷ ts) = Some (Joined Join, NotMark ∷ ts)
link_at g (StepMark s ∷ ts) = Some (Joined Join, StepMark s ∷ ts)
link_at g (SignMark s ∷ ts) = Some (Joined (Add s), ts)
link_at g (Infix s ∷ ts) = if allowed g s then Some (Joined (Other s), ts) else None
link_at g (InWord ∷ ts) = Some (Within, ts)
link_at g (Question ∷ ts) = Some (Chosen, ts)
link_at g _ = None

-- ---- lists

abbrev pub more_by : Reader → Bool → (List Token → ReadMany) → List Token → Option (List Token) → ReadMany
more_by expr g go ts None = Ok (NoTree, ts)
more_by expr g go ts (Some us) = expr g Whole us >>= λ x. go x.1 >>= λ y. Ok (Then x.0 y.0, y.1)

-- the expressions after one, by at most w commas
abbrev pub more_at : Reader → Bool → ℕ → List Token → ReadMany
more_at expr g zero ts = Ok (NoTree, ts)
more_at expr g (suc w) ts = more_by expr g (more_at expr g w) ts (comma_at ts)

abbrev pub list_at : Reader → Bool → List Token → ReadMany
list_at expr g ts = expr g Whole ts >>= λ x. more_at expr g (length x.1) x.1 >>= λ y. Ok (Then x.0 y.0, y.1)

-- arguments and the parenthesis that closes them
abbrev pub arguments_at : Reader → List Token → ReadMany
arguments_at expr (Close ∷ ts) = Ok (NoTree, ts)
arguments_at expr ts = list_at expr true ts >>= λ x. close_at x.1 >>= λ us. Ok (x.0, us)

-- ---- operands

abbrev pub indexed_by : Reader → List ℕ → List Token → Option (List Token) → Read
indexed_by expr n ts None = Ok (Var n, ts)
indexed_by expr n ts (Some us) = list_at expr true us >>= λ x. bracket_at x.1 >>= λ vs. Ok (Index n x.0, vs)

abbrev pub call_by : Reader → List ℕ → Option (List Token) → Read
call_by expr f None = Err Syntax
call_by expr f (Some us) = arguments_at expr us >>= λ x. Ok (Call f x.0, x.1)

abbrev pub bare : Builtin → List Token → Read
bare LengthOf ts = Ok (Length, ts)
bare _ ts = Err Syntax

abbrev pub suited : Builtin → Trees × List Token → Read
suited f x = if suits f x.0 then Ok (Apply f x.0, x.1) else Err Syntax

abbrev pub applied_by : Reader → Builtin → List Token → Option (List Token) → Read
applied_by expr f ts None = bare f ts
applied_by expr f ts (Some us) = arguments_at expr us >>= suited f

abbrev pub paren_by : Reader → Tree → List Token → Option (List Token) → Read
paren_by expr t ts None = close_at ts >>= λ us. Ok (Group t, us)
paren_by expr t ts (Some us) = list_at expr true us >>= λ x. close_at x.1 >>= λ vs. in_at vs >>= λ ws. name_at ws >>= λ n. Ok (HasList t x.0 n.0, n.1)

abbrev pub getting : Option Tree → Option Tree → Tree
getting None None = Get
getting (Some v) None = GetInto v
getting None (Some s) = GetFrom s
getting (Some v) (Some s) = GetIntoFrom v s

abbrev pub from_by : Reader → Bool → Option Tree → List Token → Option (List Token) → Read
from_by expr g v ts None = Ok (getting v None, ts)
from_by expr g v ts (Some us) = expr g Plain us >>= λ x. Ok (getting v (Some x.0), x.1)

abbrev pub into_by : Reader → Bool → List Token → Bool → Read
into_by expr g ts true = expr g LValue ts >>= λ x. from_by expr g (Some x.0) x.1 (less_at x.1)
into_by expr g ts false = from_by expr g None ts (less_at ts)

abbrev pub getline_at : Reader → Bool → List Token → Read
getline_at expr g ts = into_by expr g ts (is_start (class_at ts))

-- below a sign
abbrev pub under : Mode → Mode
under InField = InField
under _ = Factor

abbrev pub first_at : Reader → Bool → Mode → List Token → Read
first_at expr g m (Lit c ∷ ts) = Ok (Leaf c, ts)
first_at expr g m (Name n ∷ ts) = indexed_by expr n ts (index_at ts)
first_at expr g m (FuncName f ∷ ts) = call_by expr f (open_at ts)
first_at expr g m (Word f ∷ ts) = applied_by expr f ts (open_at ts)
first_at expr g m (GetlineWord ∷ ts) = getline_at expr g ts
first_at expr g m (Dollar ∷ ts) = expr g InField ts >>= λ x. Ok (Field x.0, x.1)
first_at expr g m (Open ∷ ts) = expr true Whole ts >>= λ x. paren_by expr x.0 x.1 (comma_at x.1)
first_at expr g m (SignMark s ∷ ts) = expr g (under m) ts >>= λ x. Ok (Unary (Signed s) x.0, x.1)
first_at expr g m (NotMark ∷ ts) = expr g (under m) ts >>= λ x. Ok (Unary Not x.0, x.1)
first_at expr g m (StepMark s ∷ ts) = expr g LValue ts >>= λ x. Ok (Pre s x.0, x.1)
first_at expr g m _ = Err Syntax

-- a step behind an LValue
abbrev pub posted_by : Bool → Tree → List Token → Option (Step × List Token) → Tree × List Token
posted_by true t ts (Some s) = (Post s.0 t, s.1)
posted_by _ t ts _ = (t, ts)

abbrev pub posted : Mode → Tree × List Token → Tree × List Token
posted m x = posted_by (normal m && fits LValue x.0) x.0 x.1 (step_at x.1)

-- ---- operators

-- a tree of more than this depth is refused
abbrev pub checked : ℕ → (Tree → List Token → Read) → Tree × List Token → Read
checked limit go x = if nat_lt limit (depth x.0) then Err TooDeep else go x.0 x.1

-- what is right of an operator
abbrev pub after : Reader → Bool → Tree → Link → List Token → Read
after expr g t (Joined op) ts = expr g (op_right op) ts >>= λ x. Ok (Bin op t x.0, x.1)
after expr g t Within ts = name_at ts >>= λ n. Ok (Has t n.0, n.1)
after expr g t Chosen ts = expr g Whole ts >>= λ x. colon_at x.1 >>= λ us. expr g Whole us >>= λ y. Ok (Cond t x.0 y.0, y.1)

-- whether an operator does not take the tree as its left side, at this level
abbrev pub stops : ℕ → Tree → List Token → Link → Bool
stops l t ts o = nat_lt (link_level o) l || (nat_lt (edge t) (link_left o) || takes true t (class_at ts))

abbrev pub goes_on : Reader → Bool → ℕ → ℕ → Tree → List Token → (Tree → List Token → Read) → Option (Link × List Token) → Read
goes_on expr g limit l t ts go None = Ok (t, ts)
goes_on expr g limit l t ts go (Some o) = if stops l t ts o.0 then Ok (t, ts) else (after expr g t o.0 o.1 >>= checked limit go)

-- goes on behind a tree by at most w operators
abbrev pub climb : Reader → Bool → ℕ → ℕ → ℕ → Tree → List Token → Read
climb expr g limit zero l t ts = Ok (t, ts)
climb expr g limit (suc w) l t ts = goes_on expr g limit l t ts (climb expr g limit w l) (link_at g ts)

abbrev pub fitting : Mode → Tree × List Token → Read
fitting m x = if fits m x.0 then Ok x else Err Syntax

unfoldable pub expr_at : ℕ → Bool → Mode → List Token → Read
expr_at zero g m ts = Err TooDeep
expr_at (suc d) g m ts = first_at (expr_at d) g m ts >>= λ x. fitting m (posted m x)
    >>= checked (suc d) (λ t us. climb (expr_at d) g (suc d) (length us) (floor m) t us)
