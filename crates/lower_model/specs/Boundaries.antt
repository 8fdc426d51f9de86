-- The places of statements: each step of a function has the `nop` that begins its code, and these differ. A place is the number of its `nop` among
-- those of the function's code.
use Rattle.std.specs.Prelude.{ℕ, suc, ◌+◌, true, false, if◌then◌else◌}
use Rattle.wasm_types.specs.Syntax.{Instruction, Plain, BrTable, Block, Loop, If, Instructions, Done, Then}
use Rattle.wasm_types.specs.declared.instr.Simple.{Simple}
use Rattle.wasm_types.specs.declared.instr.Simple.TheVariants.{Nop}
use Rattle.mid_program.specs.Mid.{Step, Eval, Block as Body, If as Either, Loop as Rounds, Each, Break, Continue, Next, Exit, ExitWith, Return, Mark, Steps, NoStep, Then as AndThen}
use Rattle.lower_model.specs.Quick.{is_nothing}

-- how many places a step takes: its own, those of the steps in it, and that of the test of a loop whose first round goes without it. A third part in
-- which there is nothing has no code.
abbrev mutual
  pub step_places : Step → ℕ
  step_places (Eval code) = 1
  step_places (Body steps) = suc (steps_places steps)
  step_places (Either test so otherwise) = suc (step_places so + step_places otherwise)
  step_places (Rounds true test body last) = suc (step_places body + (if is_nothing last then 0 else step_places last))
  step_places (Rounds false test body last) = suc (suc (step_places body + step_places last))
  step_places (Each array store body) = suc (step_places body)
  step_places Break = 1
  step_places Continue = 1
  step_places Next = 1
  step_places Exit = 1
  step_places (ExitWith code) = 1
  step_places (Return code) = 1
  step_places (Mark item opens) = 1

  pub steps_places : Steps → ℕ
  steps_places NoStep = 0
  steps_places (AndThen step steps) = step_places step + steps_places steps

abbrev pub is_nop : Simple → ℕ
is_nop Nop = 1
is_nop simple = 0

-- the `nop`s of code
abbrev mutual
  pub nops_in : Instructions → ℕ
  nops_in Done = 0
  nops_in (Then instruction after) = nops_of instruction + nops_in after

  pub nops_of : Instruction → ℕ
  nops_of (Plain simple) = is_nop simple
  nops_of (BrTable targets other) = 0
  nops_of (Block result inside) = nops_in inside
  nops_of (Loop result inside) = nops_in inside
  nops_of (If result so otherwise) = nops_in so + nops_in otherwise
