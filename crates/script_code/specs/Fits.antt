-- Scripts whose names, calls, trees and jumps are as they should be: each name is what it is used as. The code of such a script is well sorted.
use Rattle.std.specs.Prelude.{ℕ, zero, suc, Bool, true, false, not, ◌&&◌, ◌||◌, IsTrue, is_some, List, [], ◌∷◌, ◌++◌, map, Option, Some, None}
use Rattle.std.specs.List.{list_all}
use Rattle.awk_grammar.specs.Stmt.{AreStmts}
use Rattle.awk_grammar.specs.Trees.{Break, Continue, Return, Stmt, Block, If, IfElse, While, Do, For, ForIn, Jumping, Leave, Stmts, NoStmt, And, Pattern, Item, Begin, End, Always, When, Lone, Function as FunctionItem, Nothing}
use Rattle.awk_grammar.specs.Item.{IsPattern}
use Rattle.awk_grammar.specs.Marks.{Array, Scalar, Mark, Defined, Parameter as ParameterMark, Used, Called, Computed, Given, stmts_marks, pattern_marks}
use Rattle.sem_scripts.specs.Names.{Name, Function, Resolved, Scope, Variable, Global, Parameter, Reserved, function_in, function_at, function_number, variable_of, kind_at, is_array}
use Rattle.mid_program.specs.Sorted.{all_differ}

-- Names.

-- the name at a place is there, and a scalar's
abbrev pub scalar_at : List Name → ℕ → Bool
scalar_at [] i = false
scalar_at (n ∷ ns) zero = not n.is_array
scalar_at (n ∷ ns) (suc i) = scalar_at ns i

module _ (scope : Scope) where
  abbrev pub is_scalar_variable : Variable → Bool
  is_scalar_variable (Global i) = scalar_at scope.script.globals i
  is_scalar_variable (Parameter i) = scalar_at scope.parameters i
  is_scalar_variable (Reserved special) = true

  -- whether a name is a scalar's
  abbrev pub is_scalar : List ℕ → Bool
  is_scalar x = is_scalar_variable (variable_of scope x)

  -- For an array an array is given. For a scalar any name is: an array may be given for a parameter of which no use is made.
  abbrev pub is_passed : (array : Bool) → List ℕ → Bool
  is_passed array x = is_array scope x || (not array && is_scalar x)

module _ (script : Resolved) where
  abbrev pub is_function : List ℕ → Bool
  is_function f = is_some (function_in script.functions f)

  abbrev pub parameters_named : List ℕ → List Name
  parameters_named f = (function_at script.functions (function_number script f)).parameters

  -- whether a function takes an array there
  abbrev pub takes_array : List ℕ → ℕ → Bool
  takes_array f i = kind_at (parameters_named f) i

  -- the parameters in a place: in a function, or in none
  abbrev pub parameters_in : Option (List ℕ) → List Name
  parameters_in None = []
  parameters_in (Some f) = parameters_named f

  abbrev pub scope_at : Option (List ℕ) → Scope
  scope_at place = record { script = script; parameters = parameters_in place }

  -- what a script says of a name is so
  abbrev pub is_met : Mark → Bool
  is_met (Defined f) = true
  is_met (ParameterMark f x) = true
  is_met (Used Array place x) = is_array (scope_at place) x
  is_met (Used Scalar place x) = is_scalar (scope_at place) x
  is_met (Called f n) = is_function f
  is_met (Computed f i) = not (takes_array f i)
  is_met (Given f i place x) = is_passed (scope_at place) (takes_array f i) x

  abbrev pub AreMet : List Mark → Type 0
  AreMet ms = IsTrue (list_all is_met ms)

-- Jumps: `break` and `continue` stand in a loop, `return` in a function.
abbrev mutual
  pub is_placed : (returning looping : Bool) → Stmt → Bool
  is_placed r l (Block ss) = are_placed r l ss
  is_placed r l (If c s) = is_placed r l s
  is_placed r l (IfElse c s t) = is_placed r l s && is_placed r l t
  is_placed r l (While c s) = is_placed r true s
  is_placed r l (Do s c) = is_placed r true s
  is_placed r l (For i c p s) = is_placed r true s
  is_placed r l (ForIn k a s) = is_placed r true s
  is_placed r l (Jumping Break) = l
  is_placed r l (Jumping Continue) = l
  is_placed r l (Leave Return t) = r
  is_placed r l _ = true

  pub are_placed : (returning looping : Bool) → Stmts → Bool
  are_placed r l NoStmt = true
  are_placed r l (And s ss) = is_placed r l s && are_placed r l ss

-- Scripts.

module _ (script : Resolved) where
  -- statements of a function with this name, or of none
  pub record StmtsFit (place : Option (List ℕ)) (ss : Stmts) : Type 0 where
    pub formed : AreStmts ss
    pub placed : IsTrue (are_placed (is_some place) false ss)
    pub met : AreMet script (stmts_marks place ss)

  pub record PatternFits (p : Pattern) : Type 0 where
    pub formed : IsPattern p
    pub met : AreMet script (pattern_marks None p)

  -- functions are dealt with by themselves
  abbrev pub ItemFits : Item → Type 0
  ItemFits (FunctionItem f xs ss) = Unit {0}
  ItemFits (Begin ss) = StmtsFit None ss
  ItemFits (End ss) = StmtsFit None ss
  ItemFits (Always ss) = StmtsFit None ss
  ItemFits (When p ss) = PatternFits p × StmtsFit None ss
  ItemFits (Lone p) = PatternFits p
  ItemFits Nothing = Unit {0}

  abbrev pub ItemsFit : List Item → Type 0
  ItemsFit [] = Unit {0}
  ItemsFit (i ∷ is) = ItemFits i × ItemsFit is

  abbrev pub FunctionsFit : List Function → Type 0
  FunctionsFit [] = Unit {0}
  FunctionsFit (f ∷ fs) = StmtsFit (Some f.name) f.body × FunctionsFit fs

abbrev pub function_names : List Function → List (List ℕ)
function_names fs = map (λ (f : Function). f.name) fs

-- of the script itself, and of its functions
abbrev pub all_names : Resolved → List (List ℕ)
all_names script = map (λ (n : Name). n.name) script.globals ++ function_names script.functions

pub record Fits (script : Resolved) : Type 0 where
  pub named_apart : IsTrue (all_differ (all_names script))
  pub items : ItemsFit script script.items
  pub functions : FunctionsFit script script.functions
