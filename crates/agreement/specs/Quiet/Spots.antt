-- Statements `name = Expr` of a script on numbers alone, by where they stand in the script.
use Rattle.std.specs.Prelude.{◌≡◌, ℕ, List, [], ◌∷◌}
use Rattle.awk_grammar.specs.Trees as stmt
use Rattle.awk_grammar.specs.Trees.{And, Stmt, Stmts, Bin, Other, Tree, Var}
use Rattle.awk_grammar.specs.Token.{Assign, Set as Put}
use Rattle.wasm_model.specs.Machines.{Conf}
use Rattle.host_step.specs.HostState.{HostState}
use Rattle.mid_program.specs.Mid.{Kind, parameters_at}
use Rattle.mid_program.specs.MidMeaning.{routine_at}
use Rattle.sem_scripts.specs.Names.{Resolved, Variable, variable_of}
use Rattle.agreement.specs.Places.NoLeaks.{AtStatement}
use Rattle.agreement.specs.Quiet.Laned.{IsLaned}
use Rattle.agreement.specs.Quiet.Statements.{IsNumeric, IsSo}
use Rattle.agreement.specs.Spots.Places.{final_program, lanes_of, scope_at}
use Rattle.agreement.specs.Spots.Probed.{module_place}
use Rattle.agreement.specs.Spots.Spots.{Before, Frame, Home, Of, OfFunction, Whole}

-- the lanes of the parameters of a function; an action has none
abbrev pub lanes_at : Resolved → Home → List Kind
lanes_at script (OfFunction f) = parameters_at (lanes_of script).parameters f
lanes_at script home = []

-- the kinds of the parameters in the code
abbrev pub kinds_at : Resolved → Home → List Kind
kinds_at script (OfFunction f) = (routine_at (final_program script).routines f).parameters
kinds_at script home = []

-- a name of a number at this place: it is unboxed, a global takes no copies and is none of those to which the command line has assigned, and nothing lends
-- at the place of a parameter
abbrev pub IsNumberName : (script : Resolved) → Home → (Assigned : ℕ → Type 0) → Variable → Type 0
IsNumberName script home Assigned = IsSo (IsLaned (final_program script) (kinds_at script home) Assigned) (lanes_of script).globals (lanes_at script home)

-- the statement `x = t`

abbrev pub set : List ℕ → Tree → stmt.Plain
set x t = stmt.Eval (Bin (Other (Assign Put)) (Var x) t)

abbrev pub assigns : List ℕ → Tree → Stmt
assigns x t = stmt.Simple (set x t)

-- WHERE A STATEMENT `x = t` OF A SCRIPT BEGINS, after which another one comes in its list: the code at work is that of its place, in a call of its
-- function. In t there are number constants, names, groups, signs, `+`, `-` and `*` alone, and x and the names of t are names of numbers.
pub record AtAssignment (script : Resolved) (c : Conf) (s : HostState) (here : AtStatement (final_program script) c s) (Assigned : ℕ → Type 0) : Type 0 where
  pub home : Home
  pub around : List Frame
  pub target : List ℕ
  pub expression : Tree
  pub next : Stmt
  pub further : Stmts
  pub at_work : c.frame.code ≡ module_place script home (Of (assigns target expression) Whole (Before (And next further) ∷ around))
  pub own : here.at.function.kinds ≡ kinds_at script home
  pub target_is : IsNumberName script home Assigned (variable_of (scope_at script home) target)
  pub numeric : IsNumeric (IsNumberName script home Assigned) (scope_at script home) expression

-- where the next statement of the list begins, in the same call, within the same labels
pub record AtFollowing (script : Resolved) (home : Home) (around : List Frame) (next : Stmt) (further : Stmts) (c there : Conf) : Type 0 where
  pub at_work : there.frame.code ≡ module_place script home (Of next Whole (Before further ∷ around))
  pub operands : there.frame.values ≡ []
  pub labels : there.frame.labels ≡ c.frame.labels
  pub callers : there.callers ≡ c.callers
