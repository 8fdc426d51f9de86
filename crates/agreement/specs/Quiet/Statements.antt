-- Statements `name = Expr` of scripts, where Expr has only number constants, names, groups, `+`, `-` and `*`, and the code that they have.
use Rattle.std.specs.Prelude.{◌≡◌, ℕ, false, List}
use Rattle.awk_grammar.specs.Trees as stmt
use Rattle.awk_grammar.specs.Token.{Assign, Mul, Number as Numeral, Set as Put, Sign, Signed, Times}
use Rattle.awk_grammar.specs.Trees.{Add, Bin, Group, Leaf, Other, Tree, Unary, Var}
use Rattle.folding.specs.Folding.{reduced, same}
use Rattle.mid_program.specs.Mid.{Code, Do, Eval, Global, Kind, Parameter, Set, Slot, Step}
use Rattle.sem_scripts.specs.Names.{Reserved, Scope, Variable, variable_of}
use Rattle.sem_scripts.specs.Names as names
use Rattle.mid_program.specs.Translation.{plain_step}
use Rattle.mid_program.specs.Rewriting.{step_in}
use Rattle.value_kinds.specs.Applied.{slot_in}
use Rattle.agreement.specs.Quiet.Sums.{IsSum}

-- a name that is so with these lanes; a special variable is not
abbrev pub IsSo : (Slot → Type 0) → (globals parameters : List Kind) → Variable → Type 0
IsSo Is gs ps (names.Global i) = Is (slot_in gs ps (Global false i))
IsSo Is gs ps (names.Parameter i) = Is (slot_in gs ps (Parameter false i))
IsSo Is gs ps (Reserved s) = ⊥

pub data IsNumeric (Is : Variable → Type 0) (scope : Scope) : Tree → Type 0 where
  constant : (text : List ℕ) → IsNumeric Is scope (Leaf (Numeral text))
  name : (x : List ℕ) → Is (variable_of scope x) → IsNumeric Is scope (Var x)
  group : (t : Tree) → IsNumeric Is scope t → IsNumeric Is scope (Group t)
  signed : (s : Sign) (t : Tree) → IsNumeric Is scope t → IsNumeric Is scope (Unary (Signed s) t)
  added : (s : Sign) (a b : Tree) → IsNumeric Is scope a → IsNumeric Is scope b → IsNumeric Is scope (Bin (Add s) a b)
  multiplied : (a b : Tree) → IsNumeric Is scope a → IsNumeric Is scope b → IsNumeric Is scope (Bin (Other (Mul Times)) a b)

-- the code of `x = t`, once constants are computed and names have these lanes
abbrev pub assignment : (texts : List (List ℕ)) → Scope → (globals parameters : List Kind) → List ℕ → Tree → Step
assignment texts scope gs ps x t = step_in (slot_in gs ps) Do (step_in same reduced (plain_step texts scope (stmt.Eval (Bin (Other (Assign Put)) (Var x) t))))

-- it is an assignment of a sum
pub record IsSumStep (Is : Slot → Type 0) (s : Step) : Type 0 where
  pub target : Slot
  pub expression : Code
  pub same : s ≡ Eval (Set target expression)
  pub target_is : Is target
  pub sum : IsSum Is expression
