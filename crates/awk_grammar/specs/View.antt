-- The plain tree that a tree of the code stands for.
use Rattle.std.specs.Prelude.{List, [], ◌∷◌}
use Rattle.awk_grammar.specs.Token.{Plus, Minus, Prefix, Not, Signed, Step, Increment, Decrement, Less, LessEqual, Equal, NotEqual, Greater, GreaterEqual, Matches, Differs, Times, Over, Modulo, Assigning, Set, SetSum, SetProduct, SetPower, Assign, Or, And, Match, Compare, Mul, Pow, Number, Quoted, Ere}
use Rattle.awk_grammar.specs.Trees.{Op, Join, Add, Other, Tree, Leaf, Length, Var, Index, Field, Group, Call, Apply, Unary, Pre, Post, Bin, Has, HasList, Cond, Get, GetInto, GetFrom, GetIntoFrom, Trees, NoTree, Then}
use Rattle.awk_grammar.specs.declared.tree.StepOp.{StepOp}
use Rattle.awk_grammar.specs.declared.tree.StepOp.TheVariants.{Increment as Increment', Decrement as Decrement'}
use Rattle.awk_grammar.specs.declared.tree.UnaryOp.{UnaryOp}
use Rattle.awk_grammar.specs.declared.tree.UnaryOp.TheVariants.{Not as NotOp, Plus as PlusOp, Minus as MinusOp}
use Rattle.awk_grammar.specs.declared.tree.BinaryOp.{BinaryOp}
use Rattle.awk_grammar.specs.declared.tree.BinaryOp.TheVariants.{Or as OrOp, And as AndOp, Match as MatchOp, NoMatch as NoMatchOp, Less as LessOp, LessEqual as LessEqualOp, Equal as EqualOp, NotEqual as NotEqualOp, Greater as GreaterOp, GreaterEqual as GreaterEqualOp, Concat as ConcatOp, Add as AddOp, Subtract as SubtractOp, Multiply as MultiplyOp, Divide as DivideOp, Modulo as ModuloOp, Power as PowerOp}
use Rattle.awk_grammar.specs.declared.tree.AssignOp.{AssignOp}
use Rattle.awk_grammar.specs.declared.tree.AssignOp.TheVariants.{Set as SetTo, Add as AddTo, Subtract as SubtractTo, Multiply as MultiplyTo, Divide as DivideTo, Modulo as ModuloTo, Power as PowerTo}
use Rattle.awk_grammar.specs.declared.tree.Expr.{Expr, Row_of-Expr, end_of-Expr, more_of-Expr}
use Rattle.awk_grammar.specs.declared.tree.Expr.TheVariants.{Number as NumberExpr, Str as StrExpr, Ere as EreExpr, Length as LengthExpr, Var as VarExpr, Element', Field', Group', Call', Apply', Unary', PreStep', PostStep', Binary', Assign', In', InList', Conditional', Getline as GetlineExpr, GetlineInto', GetlineFrom', GetlineIntoFrom'}

abbrev pub view_step : StepOp → Step
view_step Increment' = Increment
view_step Decrement' = Decrement

abbrev pub view_unary : UnaryOp → Prefix
view_unary NotOp = Not
view_unary PlusOp = Signed Plus
view_unary MinusOp = Signed Minus

abbrev pub view_binary : BinaryOp → Op
view_binary OrOp = Other Or
view_binary AndOp = Other And
view_binary MatchOp = Other (Match Matches)
view_binary NoMatchOp = Other (Match Differs)
view_binary LessOp = Other (Compare Less)
view_binary LessEqualOp = Other (Compare LessEqual)
view_binary EqualOp = Other (Compare Equal)
view_binary NotEqualOp = Other (Compare NotEqual)
view_binary GreaterOp = Other (Compare Greater)
view_binary GreaterEqualOp = Other (Compare GreaterEqual)
view_binary ConcatOp = Join
view_binary AddOp = Add Plus
view_binary SubtractOp = Add Minus
view_binary MultiplyOp = Other (Mul Times)
view_binary DivideOp = Other (Mul Over)
view_binary ModuloOp = Other (Mul Modulo)
view_binary PowerOp = Other Pow

abbrev pub view_assign : AssignOp → Assigning
view_assign SetTo = Set
view_assign AddTo = SetSum Plus
view_assign SubtractTo = SetSum Minus
view_assign MultiplyTo = SetProduct Times
view_assign DivideTo = SetProduct Over
view_assign ModuloTo = SetProduct Modulo
view_assign PowerTo = SetPower

abbrev mutual
  pub view : Expr → Tree
  view (NumberExpr text) = Leaf (Number text.items)
  view (StrExpr text) = Leaf (Quoted text.items)
  view (EreExpr text) = Leaf (Ere text.items)
  view LengthExpr = Length
  view (VarExpr name) = Var name.items
  view (Element' name shape all) = Index name.items (view_row all)
  view (Field' p e) = Field (view e)
  view (Group' p e) = Group (view e)
  view (Call' name shape all) = Call name.items (view_row all)
  view (Apply' f shape all) = Apply f (view_row all)
  view (Unary' op p e) = Unary (view_unary op) (view e)
  view (PreStep' op p e) = Pre (view_step op) (view e)
  view (PostStep' op p e) = Post (view_step op) (view e)
  view (Binary' op p a q b) = Bin (view_binary op) (view a) (view b)
  view (Assign' op p a q b) = Bin (Other (Assign (view_assign op))) (view a) (view b)
  view (In' p e name) = Has (view e) name.items
  view (InList' p e shape all name) = HasList (view e) (view_row all) name.items
  view (Conditional' p a q b r c) = Cond (view a) (view b) (view c)
  view GetlineExpr = Get
  view (GetlineInto' p v) = GetInto (view v)
  view (GetlineFrom' p s) = GetFrom (view s)
  view (GetlineIntoFrom' p v q s) = GetIntoFrom (view v) (view s)

  pub view_row : {m : _} → Row_of-Expr m → Trees
  view_row end_of-Expr = NoTree
  view_row (more_of-Expr e rest) = Then (view e) (view_row rest)

abbrev pub views : List Expr → Trees
views [] = NoTree
views (e ∷ es) = Then (view e) (views es)
