-- Statements `name = Expr` on names that are unboxed in the function at work: what they are, with no word of the machine.
use Rattle.std.specs.Prelude.{◌≡◌, ℕ, true, false, List, [], None, length}
use Rattle.wasm_types.specs.Syntax.{Instructions}
use Rattle.wasm_model.specs.Machines.{Conf}
use Rattle.host_step.specs.HostState.{HostState}
use Rattle.awk_grammar.specs.Trees.{Tree}
use Rattle.mid_program.specs.Mid.{Code, Eval, Global, Kind, Parameter, Program, Set, Slot, Step, Steps, Then, Unboxed}
use Rattle.sem_scripts.specs.Names.{Scope, variable_of}
use Rattle.mid_program.specs.Sorted.{has_kind, is_mixed, kinds_of, lender_at, mixed_of}
use Rattle.lower_model.specs.Places.{Bases}
use Rattle.agreement.specs.Places.NoLeaks.{AtStatement}
use Rattle.agreement.specs.Quiet.Statements.{IsNumeric, IsSo, assignment}
use Rattle.agreement.specs.Quiet.Sums.{IsSum, code_in}

-- unboxed; a global takes no copies, and is none of those to which the command line has assigned; nothing lends at the place of a parameter
abbrev pub IsLaned : Program → List Kind → (Assigned : ℕ → Type 0) → Slot → Type 0
IsLaned p kinds Assigned (Global true i) = (has_kind (kinds_of p.globals) i Unboxed ≡ true) × (is_mixed (mixed_of p.globals) i ≡ false) × (Assigned i → ⊥)
IsLaned p kinds Assigned (Parameter true i) = (has_kind kinds i Unboxed ≡ true) × (lender_at p.lenders i ≡ None)
IsLaned p kinds Assigned (Global false i) = ⊥
IsLaned p kinds Assigned (Parameter false i) = ⊥

-- where such a statement begins, after which another one comes in its block
pub record AtLaned (p : Program) (c : Conf) (s : HostState) (here : AtStatement p c s) (Assigned : ℕ → Type 0) : Type 0 where
  pub bases : Bases
  pub parameters : bases.parameters ≡ length here.at.function.kinds
  pub target : Slot
  pub expression : Code
  pub next : Step
  pub further : Steps
  pub iterators : ℕ
  pub out : ℕ
  pub breaking : ℕ
  pub continuing : ℕ
  pub after : Instructions
  pub code : c.frame.code ≡ code_in p bases (Then (Eval (Set target expression)) (Then next further)) iterators out breaking continuing after
  pub target_is : IsLaned p here.at.function.kinds Assigned target
  pub sum : IsSum (IsLaned p here.at.function.kinds Assigned) expression

-- the next statement, in the same call of the function, within the same labels
pub record IsNext (p : Program) (c : Conf) (b : Bases) (ss : Steps) (u d bk ct : ℕ) (k : Instructions) (there : Conf) : Type 0 where
  pub code : there.frame.code ≡ code_in p b ss u d bk ct k
  pub operands : there.frame.values ≡ []
  pub labels : there.frame.labels ≡ c.frame.labels
  pub callers : there.callers ≡ c.callers

-- WHERE A STATEMENT `x = t` OF A SCRIPT BEGINS, after which another one comes in its block. In t there are number constants, names, groups, signs,
-- `+`, `-` and `*` alone; x and each name of t is unboxed and takes no copies, the command line has assigned to none of them, and nothing lends at the
-- place of a parameter among them.
pub record AtNumeric (p : Program) (c : Conf) (s : HostState) (here : AtStatement p c s) (Assigned : ℕ → Type 0) : Type 0 where
  pub bases : Bases
  pub parameters : bases.parameters ≡ length here.at.function.kinds
  pub texts : List (List ℕ)
  pub scope : Scope
  pub globals_lanes : List Kind
  pub parameters_lanes : List Kind
  pub target : List ℕ
  pub expression : Tree
  pub next : Step
  pub further : Steps
  pub iterators : ℕ
  pub out : ℕ
  pub breaking : ℕ
  pub continuing : ℕ
  pub after : Instructions
  pub code : c.frame.code ≡ code_in p bases (Then (assignment texts scope globals_lanes parameters_lanes target expression)
      (Then next further)) iterators out breaking continuing after
  pub target_is : IsSo (IsLaned p here.at.function.kinds Assigned) globals_lanes parameters_lanes (variable_of scope target)
  pub numeric : IsNumeric (IsSo (IsLaned p here.at.function.kinds Assigned) globals_lanes parameters_lanes) scope expression
