-- Expressions: their tokens, and which are well formed. The productions of awk_tree say the same.
use Rattle.std.specs.Prelude.{◌≡◌, ℕ, ◌+◌, ◌≤◌, min, Bool, true, false, ◌||◌, ◌&&◌, nat_le, List, [], ◌∷◌, ◌++◌}
use Rattle.awk_grammar.specs.Token.{Less, Greater, Symbol, Assign, Or, And, Match, Compare, Mul, Pow, Token, Lit, Name, FuncName, Word, GetlineWord, InWord, Dollar, Open, Close, OpenBracket, CloseBracket, Comma, Question, Colon, SignMark, NotMark, StepMark, Infix}
use Rattle.awk_tokens.specs.declared.reserved_words.Builtin.{Builtin}
use Rattle.awk_tokens.specs.declared.reserved_words.Builtin.TheVariants.{Length as LengthOf, Substr, Index as IndexOf, Split, Sub, Gsub, Match as MatchOf, Sprintf, ToLower, ToUpper, Int as IntOf, Close as CloseOf, Fflush as FflushOf}
use Rattle.awk_grammar.specs.Trees.{Op, Join, Add, Other, Tree, Trees, Leaf, Length, Var, Index, Field, Group, Call, Apply, Unary, Pre, Post, Bin, Has, HasList, Cond, Get, GetInto, GetFrom, GetIntoFrom, NoTree, Then, prefix_token, count}

abbrev pub op_tokens : Op → List Token
op_tokens Join = []
op_tokens (Add s) = SignMark s ∷ []
op_tokens (Other s) = Infix s ∷ []

abbrev mutual
  pub print : Tree → List Token
  print (Leaf c) = Lit c ∷ []
  print Length = Word LengthOf ∷ []
  print (Var n) = Name n ∷ []
  print (Index n ts) = Name n ∷ (OpenBracket ∷ (print_list ts ++ (CloseBracket ∷ [])))
  print (Field t) = Dollar ∷ print t
  print (Group t) = Open ∷ (print t ++ (Close ∷ []))
  print (Call f ts) = FuncName f ∷ (Open ∷ (print_list ts ++ (Close ∷ [])))
  print (Apply f ts) = Word f ∷ (Open ∷ (print_list ts ++ (Close ∷ [])))
  print (Unary p t) = prefix_token p ∷ print t
  print (Pre s t) = StepMark s ∷ print t
  print (Post s t) = print t ++ (StepMark s ∷ [])
  print (Bin op a b) = print a ++ (op_tokens op ++ print b)
  print (Has a n) = print a ++ (InWord ∷ (Name n ∷ []))
  print (HasList t ts n) = Open ∷ (print t ++ (Comma ∷ (print_list ts ++ (Close ∷ (InWord ∷ (Name n ∷ []))))))
  print (Cond a b c) = print a ++ (Question ∷ (print b ++ (Colon ∷ print c)))
  print Get = GetlineWord ∷ []
  print (GetInto v) = GetlineWord ∷ print v
  print (GetFrom s) = GetlineWord ∷ (Infix (Compare Less) ∷ print s)
  print (GetIntoFrom v s) = GetlineWord ∷ (print v ++ (Infix (Compare Less) ∷ print s))

  pub print_list : Trees → List Token
  print_list NoTree = []
  print_list (Then t ts) = print t ++ print_more ts

  pub print_more : Trees → List Token
  print_more NoTree = []
  print_more (Then t ts) = Comma ∷ (print t ++ print_more ts)

-- ---- levels

abbrev pub symbol_level : Symbol → ℕ
symbol_level (Assign a) = 3
symbol_level Or = 1
symbol_level And = 2
symbol_level (Match m) = 4
symbol_level (Compare c) = 5
symbol_level (Mul p) = 8
symbol_level Pow = 10

-- how tightly an operator binds
abbrev pub op_level : Op → ℕ
op_level Join = 6
op_level (Add s) = 7
op_level (Other s) = symbol_level s

-- the least level of the tree at its left
abbrev pub symbol_left : Symbol → ℕ
symbol_left (Assign a) = 13
symbol_left Or = 1
symbol_left And = 2
symbol_left (Match m) = 5
symbol_left (Compare c) = 6
symbol_left (Mul p) = 8
symbol_left Pow = 11

abbrev pub op_left : Op → ℕ
op_left Join = 6
op_left (Add s) = 7
op_left (Other s) = symbol_left s

-- what an expression must be where it stands: floors are least levels
pub data Mode : Type 0 where
  Whole : Mode
  AfterOr : Mode
  AfterAnd : Mode
  AfterMatch : Mode
  AfterCompare : Mode
  AfterJoin : Mode
  AfterAdd : Mode
  Factor : Mode
  Plain : Mode
  LValue : Mode
  InField : Mode

abbrev pub floor : Mode → ℕ
floor Whole = 0
floor AfterOr = 2
floor AfterAnd = 3
floor AfterMatch = 5
floor AfterCompare = 6
floor AfterJoin = 7
floor AfterAdd = 8
floor Factor = 9
floor Plain = 12
floor LValue = 13
floor InField = 12

-- whether operators, signs, steps and getline may stand there
abbrev pub normal : Mode → Bool
normal Plain = false
normal LValue = false
normal InField = false
normal m = true

abbrev pub symbol_right : Symbol → Mode
symbol_right (Assign a) = Whole
symbol_right Or = AfterOr
symbol_right And = AfterAnd
symbol_right (Match m) = AfterMatch
symbol_right (Compare c) = AfterCompare
symbol_right (Mul p) = Factor
symbol_right Pow = Factor

abbrev pub op_right : Op → Mode
op_right Join = AfterJoin
op_right (Add s) = AfterAdd
op_right (Other s) = symbol_right s

abbrev pub level : Tree → ℕ
level (Leaf c) = 12
level Length = 12
level (Var n) = 13
level (Index n ts) = 13
level (Field t) = 13
level (Group t) = 12
level (Call f ts) = 12
level (Apply f ts) = 12
level (Unary p t) = 9
level (Pre s t) = 11
level (Post s t) = 11
level (Bin op a b) = op_level op
level (Has a n) = 3
level (HasList t ts n) = 3
level (Cond a b c) = 0
level Get = 11
level (GetInto v) = 11
level (GetFrom s) = 11
level (GetIntoFrom v s) = 11

-- what may stand directly after a dollar sign
abbrev pub is_field : Tree → Bool
is_field (Unary p t) = is_field t
is_field (Pre s t) = true
is_field t = nat_le 12 (level t)

abbrev pub fits : Mode → Tree → Bool
fits InField t = is_field t
fits m t = nat_le (floor m) (level t)

-- the level of a tree as the left side of an operator: the least at its right edge, 0 where an assignment or a choice ends it
abbrev pub symbol_edge : Symbol → ℕ
symbol_edge (Assign a) = 0
symbol_edge s = symbol_level s

abbrev pub op_edge : Op → ℕ
op_edge Join = 6
op_edge (Add s) = 7
op_edge (Other s) = symbol_edge s

abbrev pub edge : Tree → ℕ
edge (Unary p t) = min 9 (edge t)
edge (Bin op a b) = min (op_edge op) (edge b)
edge t = level t

-- ---- what the end of a tree would take

-- the tokens that some tree's end takes
pub data Class : Type 0 where
  Opens : Class
  OpensIndex : Class
  StartsLValue : Class
  IsLess : Class
  Steps : Class
  Free : Class

abbrev pub class_of : Token → Class
class_of Open = Opens
class_of OpenBracket = OpensIndex
class_of (Name n) = StartsLValue
class_of Dollar = StartsLValue
class_of (Infix (Compare Less)) = IsLess
class_of (StepMark s) = Steps
class_of t = Free

abbrev pub class_at : List Token → Class
class_at [] = Free
class_at (t ∷ ts) = class_of t

abbrev pub is_opens : Class → Bool
is_opens Opens = true
is_opens _ = false

abbrev pub is_index : Class → Bool
is_index OpensIndex = true
is_index _ = false

abbrev pub is_start : Class → Bool
is_start StartsLValue = true
is_start _ = false

abbrev pub is_less : Class → Bool
is_less IsLess = true
is_less _ = false

abbrev pub is_steps : Class → Bool
is_steps Steps = true
is_steps _ = false

-- whether the end of a tree takes a token of this class; n: a step after an LValue is taken
abbrev pub takes : Bool → Tree → Class → Bool
takes n (Leaf x) c = false
takes n Length c = is_opens c
takes n (Var x) c = is_index c || (is_steps c && n)
takes n (Index x ts) c = is_steps c && n
takes n (Field t) c = takes false t c || (is_steps c && n)
takes n (Group t) c = false
takes n (Call f ts) c = false
takes n (Apply f ts) c = false
takes n (Unary p t) c = takes n t c
takes n (Pre s t) c = takes n t c
takes n (Post s t) c = false
takes n (Bin op a b) c = takes n b c
takes n (Has a x) c = false
takes n (HasList t ts x) c = false
takes n (Cond a b d) c = takes n d c
takes n Get c = is_start c || is_less c
takes n (GetInto v) c = takes n v c || is_less c
takes n (GetFrom s) c = takes n s c
takes n (GetIntoFrom v s) c = takes n s c

-- ---- well formed

-- what may stand at the right of a juxtaposition
abbrev pub StartsOperand : List Token → Type 0
StartsOperand (Lit c ∷ ts) = Unit {0}
StartsOperand (Name n ∷ ts) = Unit {0}
StartsOperand (FuncName n ∷ ts) = Unit {0}
StartsOperand (Word f ∷ ts) = Unit {0}
StartsOperand (GetlineWord ∷ ts) = Unit {0}
StartsOperand (Dollar ∷ ts) = Unit {0}
StartsOperand (Open ∷ ts) = Unit {0}
StartsOperand (NotMark ∷ ts) = Unit {0}
StartsOperand (StepMark s ∷ ts) = Unit {0}
StartsOperand _ = ⊥

abbrev pub MayJoin : Op → List Token → Type 0
MayJoin Join ts = StartsOperand ts
MayJoin _ ts = Unit {0}

-- whether a `>` comparison, if it is one, may stand here
abbrev pub allowed : Bool → Symbol → Bool
allowed g (Compare Greater) = g
allowed g _ = true

abbrev pub op_allowed : Bool → Op → Bool
op_allowed g (Other s) = allowed g s
op_allowed g _ = true

abbrev pub is_var : Tree → Bool
is_var (Var n) = true
is_var _ = false

abbrev pub within : ℕ → ℕ → Trees → Bool
within least most ts = nat_le least (count ts) && nat_le (count ts) most

abbrev pub second_is_var : Trees → Bool
second_is_var (Then a (Then b ts)) = is_var b
second_is_var _ = false

abbrev pub third_is_lvalue : Trees → Bool
third_is_lvalue (Then a (Then b (Then c ts))) = nat_le 13 (level c)
third_is_lvalue _ = true

-- whether a function of this name takes these arguments
abbrev pub suits : Builtin → Trees → Bool
suits LengthOf ts = within 0 1 ts
suits Substr ts = within 2 3 ts
suits IndexOf ts = within 2 2 ts
suits MatchOf ts = within 2 2 ts
suits Split ts = within 2 3 ts && second_is_var ts
suits Sub ts = within 2 3 ts && third_is_lvalue ts
suits Gsub ts = within 2 3 ts && third_is_lvalue ts
suits Sprintf ts = nat_le 1 (count ts)
suits ToLower ts = within 1 1 ts
suits ToUpper ts = within 1 1 ts
suits IntOf ts = within 1 1 ts
suits CloseOf ts = within 1 1 ts
suits FflushOf ts = within 0 1 ts

abbrev pub IsSome : Trees → Type 0
IsSome NoTree = ⊥
IsSome (Then t ts) = Unit {0}

-- g: a `>` comparison may stand outside parentheses and brackets
abbrev mutual
  pub IsWellFormed : Bool → Tree → Type 0
  IsWellFormed g (Leaf c) = Unit {0}
  IsWellFormed g Length = Unit {0}
  IsWellFormed g (Var n) = Unit {0}
  IsWellFormed g (Index n ts) = AreWellFormed true ts × IsSome ts
  IsWellFormed g (Field t) = IsWellFormed g t × (fits InField t ≡ true)
  IsWellFormed g (Group t) = IsWellFormed true t
  IsWellFormed g (Call f ts) = AreWellFormed true ts
  IsWellFormed g (Apply f ts) = AreWellFormed true ts × (suits f ts ≡ true)
  IsWellFormed g (Unary p t) = IsWellFormed g t × (fits Factor t ≡ true)
  IsWellFormed g (Pre s t) = IsWellFormed g t × (fits LValue t ≡ true)
  IsWellFormed g (Post s t) = IsWellFormed g t × (fits LValue t ≡ true)
  IsWellFormed g (Bin op a b) = IsWellFormed g a × IsWellFormed g b × (op_left op ≤ edge a) × (fits (op_right op) b ≡ true) × MayJoin op (print b)
      × (takes true a (class_at (op_tokens op ++ print b)) ≡ false) × (op_allowed g op ≡ true)
  IsWellFormed g (Has a n) = IsWellFormed g a × (3 ≤ edge a)
  IsWellFormed g (HasList t ts n) = IsWellFormed true t × AreWellFormed true ts × IsSome ts
  IsWellFormed g (Cond a b c) = IsWellFormed g a × IsWellFormed g b × IsWellFormed g c × (1 ≤ edge a)
  IsWellFormed g Get = Unit {0}
  IsWellFormed g (GetInto v) = IsWellFormed g v × (fits LValue v ≡ true)
  IsWellFormed g (GetFrom s) = IsWellFormed g s × (fits Plain s ≡ true)
  IsWellFormed g (GetIntoFrom v s) = IsWellFormed g v × (fits LValue v ≡ true) × IsWellFormed g s × (fits Plain s ≡ true)

  pub AreWellFormed : Bool → Trees → Type 0
  AreWellFormed g NoTree = Unit {0}
  AreWellFormed g (Then t ts) = IsWellFormed g t × AreWellFormed g ts
