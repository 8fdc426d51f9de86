-- Whether mid code names ARGV.
use Rattle.std.specs.Prelude.{zero, suc, Bool, true, false, ◌||◌, List, [], ◌∷◌}
use Rattle.sem_scripts.specs.Names.{ArrayName, Numbered, Given}
use Rattle.mid_program.specs.Mid.{Code, Do, Over, Compare, Call, Ask, AskLine, FileLine, Replace, Number, Text, Unset, Get, Set, Array, IsOpen, Choose, Seq, Let, Bound, Codes, End, At, Fixed, Fresh, Step, Eval, Block, If, Loop, Each, Break, Continue, Next, Exit, ExitWith, Return, Mark, Steps, NoStep, Then, Routine, Program}

-- ARGV is array 0
abbrev pub is_argv : ArrayName → Bool
is_argv (Numbered zero) = true
is_argv (Numbered (suc i)) = false
is_argv (Given i) = false

abbrev mutual
  pub names_argv : Code → Bool
  names_argv (Do o es) = any_argv es
  names_argv (Over l es) = any_argv es
  names_argv (Compare c a b) = names_argv a || names_argv b
  names_argv (Call f es) = any_argv es
  names_argv Ask = false
  names_argv (AskLine s) = names_argv s
  names_argv (FileLine e s) = names_argv e || names_argv s
  names_argv (Replace all es s) = any_argv es || names_argv s
  names_argv (Number z) = false
  names_argv (Text i) = false
  names_argv Unset = false
  names_argv (Get x) = false
  names_argv (Set x e) = names_argv e
  names_argv (Array a) = is_argv a
  names_argv (IsOpen i) = false
  names_argv (Choose s c a b) = names_argv c || (names_argv a || names_argv b)
  names_argv (Seq a b) = names_argv a || names_argv b
  names_argv (Let a b) = names_argv a || names_argv b
  names_argv (Bound m i) = false

  pub any_argv : Codes → Bool
  any_argv End = false
  any_argv (At e es) = names_argv e || any_argv es
  any_argv (Fixed n es) = any_argv es
  any_argv (Fresh es) = any_argv es

abbrev mutual
  pub step_names : Step → Bool
  step_names (Eval e) = names_argv e
  step_names (Block ss) = steps_name ss
  step_names (If e a b) = names_argv e || (step_names a || step_names b)
  step_names (Loop first e a b) = names_argv e || (step_names a || step_names b)
  step_names (Each a e s) = is_argv a || (names_argv e || step_names s)
  step_names Break = false
  step_names Continue = false
  step_names Next = false
  step_names Exit = false
  step_names (ExitWith e) = names_argv e
  step_names (Return e) = names_argv e
  step_names (Mark i b) = false

  pub steps_name : Steps → Bool
  steps_name NoStep = false
  steps_name (Then s ss) = step_names s || steps_name ss

abbrev pub routines_name : List Routine → Bool
routines_name [] = false
routines_name (r ∷ rs) = steps_name r.body || routines_name rs

-- in a function or in `main`
abbrev pub program_names : Program → Bool
program_names p = routines_name p.routines || (steps_name p.begin || (steps_name p.items || steps_name p.end))
