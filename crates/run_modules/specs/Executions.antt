-- How often a script executes its statements, and how that shows in what is counted of a run of its module.
use Rattle.std.specs.Prelude.{◌≡◌, ◌≤◌, ◌+◌, ℕ, Bool, cond, List, [], ◌∷◌, length}
use Rattle.world_core.specs.WorldState.{Action}
use Rattle.wasm_types.specs.Syntax.{FuncForm, Instructions, ModuleForm, Plain, Then}
use Rattle.wasm_types.specs.declared.instr.Simple.TheVariants.{Nop}
use Rattle.wasm_model.specs.Frames.{settled_code}
use Rattle.wasm_model.specs.Machines.{Conf, ProgramForm}
use Rattle.wasm_model.specs.declared.ends.MachineEnd.{MachineEnd}
use Rattle.wasm_model.specs.declared.ends.MachineEnd.TheVariants.{Exhausted, OutOfSteps, Returned}
use Rattle.host_values.specs.Forms.{HostForm}
use Rattle.sem_scripts.specs.MoreTurns.{Grows, output_of}
use Rattle.sem_scripts.specs.Names.{Resolved}
use Rattle.sem_scripts.specs.ScriptRun.{Setting, resolved_run}
use Rattle.agreement.specs.Modules.Over.{IsOver}
use Rattle.agreement.specs.Passed.Passed.{Probe}
use Rattle.agreement.specs.Places.Statements.{starts_in}
use Rattle.agreement.specs.Spots.Probed.{probed_script}
use Rattle.run_modules.specs.Counted.{Stepped}
use Rattle.script_places.specs.Passes.{Moment, nops_in, passes}

-- Statements are chosen by their code in the module, with what comes after it in its block. So statements with the same code are chosen together.
abbrev pub Choice : Type 0
Choice = Instructions → Bool

-- one action more is put out where a chosen statement, or a chosen part of one, is begun
abbrev pub marking : Action → Choice → Probe
marking mark chosen code = cond (chosen code) (mark ∷ []) []

-- HOW OFTEN A SCRIPT EXECUTES what is chosen in a run that is over: with one action more at each execution, whichever it is, so many more are put out.
pub record Executes (script : Resolved) (setting : Setting) (chosen : Choice) (times : ℕ) : Type 0 where
  pub turns : ℕ
  pub over : IsOver (resolved_run script setting turns)
  pub marked : (mark : Action) → (more : ℕ) × IsOver (probed_script script (marking mark chosen) setting more)
      × (length (output_of (probed_script script (marking mark chosen) setting more)) ≡ length (output_of (resolved_run script setting turns)) + times)

-- By the time that it has put out so much, it has executed what is chosen at least so often.
pub record HasExecuted (script : Resolved) (setting : Setting) (chosen : Choice) (output : List Action) (times : ℕ) : Type 0 where
  pub turns : ℕ
  pub puts : Grows output (output_of (resolved_run script setting turns))
  pub marked : (mark : Action) → (more : ℕ) × (length output + times ≤ length (output_of (probed_script script (marking mark chosen) setting more)))

-- The same of a run, step by step.

-- the code that comes next begins something that is chosen
abbrev pub begun_at : Choice → Instructions → ℕ
begun_at chosen (Then (Plain Nop) code) = cond (chosen (Then (Plain Nop) code)) 1 0
begun_at chosen _ = 0

-- before how many steps it did. Constants take no step, so what comes next is what is after them.
abbrev pub times_begun : (tells : Type 0) (m : ProgramForm) (c : Conf) (h : HostForm) → Choice → (moments : List Moment) (e : MachineEnd) (c' : Conf) (h' : HostForm)
    → Stepped tells m c h moments e c' h' → ℕ
times_begun tells m c h chosen [] e c' h' run = 0
times_begun tells m c h chosen (x ∷ xs) e c' h' run =
    times_begun tells m c h chosen xs OutOfSteps run.0 run.1 run.2 + begun_at chosen (settled_code run.0.frame.code)

-- the run came to an end of its own; a script never traps
abbrev pub ComesToEnd : MachineEnd → Type 0
ComesToEnd (Returned n) = Unit {0}
ComesToEnd Exhausted = Unit {0}
ComesToEnd _ = ⊥

-- The same of what was counted: how often those places of a function were passed, from one on, whose code is chosen; and those of all functions from one on.

abbrev pub passed_from : Choice → List (List ℕ) → List Moment → (function place : ℕ) → List Instructions → ℕ
passed_from chosen nops moments f k [] = 0
passed_from chosen nops moments f k (code ∷ codes) = cond (chosen code) (passes nops moments f k) 0 + passed_from chosen nops moments f (k + 1) codes

abbrev pub passed_in : Choice → List (List ℕ) → List Moment → (function : ℕ) → List FuncForm → ℕ
passed_in chosen nops moments f [] = 0
passed_in chosen nops moments f (func ∷ funcs) = passed_from chosen nops moments f 0 (starts_in func.body) + passed_in chosen nops moments (f + 1) funcs

-- HOW OFTEN THE PLACES WERE PASSED that are chosen
abbrev pub times_passed : Choice → ModuleForm → List Moment → ℕ
times_passed chosen whole moments = passed_in chosen (nops_in whole) moments 0 whole.funcs
