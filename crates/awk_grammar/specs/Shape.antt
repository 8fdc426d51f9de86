-- The conditions of the grammar as tests.
use Rattle.std.specs.Prelude.{Bool, true, false, not}
use Rattle.awk_grammar.specs.Token.{Prefix, Not, Signed, Less as LessMark, Symbol, Compare}
use Rattle.awk_grammar.specs.Tree.{Class, Opens, OpensIndex, StartsLValue, IsLess, Steps, Free}
use Rattle.awk_grammar.specs.Trees.{Op, Join, Add, Other as Infixed, Tree, Leaf, Length, Var, Index, Field, Group, Call, Apply, Unary, Pre, Post, Bin, Has, HasList, Cond, Get, GetInto, GetFrom, GetIntoFrom}
use Rattle.awk_grammar.specs.declared.shape.Next.{Next}
use Rattle.awk_grammar.specs.declared.shape.Next.TheVariants.{Paren, Bracket, LValue, Less, Step, Sign, Other}

abbrev pub view_next : Next → Class
view_next Paren = Opens
view_next Bracket = OpensIndex
view_next LValue = StartsLValue
view_next Less = IsLess
view_next Step = Steps
view_next Sign = Free
view_next Other = Free

abbrev pub prefix_head : Prefix → Next
prefix_head Not = Other
prefix_head (Signed s) = Sign

-- what the first token of an expression is to the end of one before it
abbrev pub head_of : Tree → Next
head_of (Leaf c) = Other
head_of Length = Other
head_of (Var n) = LValue
head_of (Index n ts) = LValue
head_of (Field t) = LValue
head_of (Group t) = Paren
head_of (Call f ts) = Other
head_of (Apply f ts) = Other
head_of (Unary p t) = prefix_head p
head_of (Pre s t) = Step
head_of (Post s t) = head_of t
head_of (Bin op a b) = head_of a
head_of (Has a n) = head_of a
head_of (HasList t ts n) = Paren
head_of (Cond a b c) = head_of a
head_of Get = Other
head_of (GetInto v) = Other
head_of (GetFrom s) = Other
head_of (GetIntoFrom v s) = Other

abbrev pub symbol_next : Symbol → Next
symbol_next (Compare LessMark) = Less
symbol_next _ = Other

-- what stands behind the left operand, where the right one begins so
abbrev pub behind : Op → Next → Next
behind Join h = h
behind (Add s) h = Sign
behind (Infixed s) h = symbol_next s

abbrev pub is_sign : Next → Bool
is_sign Sign = true
is_sign _ = false

abbrev pub may_join : Op → Next → Bool
may_join Join h = not (is_sign h)
may_join _ h = true
