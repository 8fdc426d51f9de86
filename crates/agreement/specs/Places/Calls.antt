-- The calls of functions in mid code: of each the function's number, and what the call is given.
use Rattle.std.specs.Prelude.{ℕ, suc, ◌≡◌, ◌⊎◌, List, [], ◌∷◌, ◌++◌}
use Rattle.std.specs.List.{Contains}
use Rattle.mid_program.specs.Mid.{Kind, ArrayKind, Code, Do, Over, Compare, Call, AskLine, FileLine, Replace, Set, Choose, Seq, Let, Codes, End, At, Fixed, Fresh, Step, Eval, Block, If, Loop, Each, ExitWith, Return, Steps, NoStep, Then, Program, Routine}
use Rattle.lower_model.specs.Functions.{main_callee, routine_callee}
use Rattle.lower_model.specs.Machine.{Callee}

abbrev mutual
  pub code_calls : Code → List (ℕ × Codes)
  code_calls (Do o es) = codes_calls es
  code_calls (Over l es) = codes_calls es
  code_calls (Compare c a b) = code_calls a ++ code_calls b
  code_calls (Call f es) = (f, es) ∷ codes_calls es
  code_calls (AskLine s) = code_calls s
  code_calls (FileLine e s) = code_calls e ++ code_calls s
  code_calls (Replace every es s) = codes_calls es ++ code_calls s
  code_calls (Set x e) = code_calls e
  code_calls (Choose s c a b) = code_calls c ++ (code_calls a ++ code_calls b)
  code_calls (Seq a b) = code_calls a ++ code_calls b
  code_calls (Let a b) = code_calls a ++ code_calls b
  code_calls e = []

  pub codes_calls : Codes → List (ℕ × Codes)
  codes_calls End = []
  codes_calls (At e es) = code_calls e ++ codes_calls es
  codes_calls (Fixed n es) = codes_calls es
  codes_calls (Fresh es) = codes_calls es

abbrev mutual
  pub step_calls : Step → List (ℕ × Codes)
  step_calls (Eval e) = code_calls e
  step_calls (Block ss) = steps_calls ss
  step_calls (If e a b) = code_calls e ++ (step_calls a ++ step_calls b)
  step_calls (Loop first e a b) = code_calls e ++ (step_calls a ++ step_calls b)
  step_calls (Each a e s) = code_calls e ++ step_calls s
  step_calls (ExitWith e) = code_calls e
  step_calls (Return e) = code_calls e
  step_calls s = []

  pub steps_calls : Steps → List (ℕ × Codes)
  steps_calls NoStep = []
  steps_calls (Then s ss) = step_calls s ++ steps_calls ss

-- those in what stands in no function
abbrev pub main_calls : Program → List (ℕ × Codes)
main_calls p = steps_calls p.begin ++ (steps_calls p.items ++ steps_calls p.end)

-- the script's function, or `main`, whose code this is, has such a call
abbrev pub HasCall : Program → Callee → (called : ℕ) → (given : Codes) → Type 0
HasCall p f called given =
    ((r : Routine) × Contains p.routines r × (f ≡ routine_callee p r) × Contains (steps_calls r.body) (called, given))
    ⊎ ((f ≡ main_callee p) × Contains (main_calls p) (called, given))

-- for how many of a function's array parameters a call has no argument
abbrev pub missing_arrays : (parameters : List Kind) → (given : Codes) → ℕ
missing_arrays (ArrayKind ∷ ks) (Fresh es) = suc (missing_arrays ks es)
missing_arrays (k ∷ ks) (At e es) = missing_arrays ks es
missing_arrays ks es = 0
