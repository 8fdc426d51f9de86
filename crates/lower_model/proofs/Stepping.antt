-- All steps do what they mean, if expressions do.
use Rattle.std.specs.Prelude.{ℕ, true, false, List}
use Rattle.mid_program.specs.Mid.{Kind, Program, Code, Step, Eval, Block, If, Loop, Each, Break, Continue, Next, Exit, ExitWith, Return, Mark, Steps, NoStep, Then}
use Rattle.lower_model.specs.Machine.{Frame}
use Rattle.lower_model.specs.Places.{Bases}
use Rattle.lower_model.proofs.Observer.{Observer}
use Rattle.lower_model.proofs.Simulation.{ExprOk}
use Rattle.lower_model.proofs.StatementForms.{StepOk, StepsOk}
use Rattle.lower_model.proofs.QuickSteps.{eval_step}
use Rattle.lower_model.proofs.Sequences.{block_step, no_steps, then_steps}
use Rattle.lower_model.proofs.QuickIfs.{if_step}
use Rattle.lower_model.proofs.Loops.{loop_first, loop_last}
use Rattle.lower_model.proofs.Keys.{each_step}
use Rattle.lower_model.proofs.Jumps.{break_step, continue_step, next_step, exit_step, exit_with_step, return_step, mark_step}

module _ (p : Program) (deepest : Observer) (ks : List Kind) (F : List Frame) (b : Bases) (M n : ℕ) (exprs : (e : Code) → ExprOk p deepest ks F b M n e) where
  mutual
    pub step_ok : (s : Step) → StepOk p deepest ks F b M n s
    step_ok (Eval e) = eval_step p deepest ks F b M n exprs e
    step_ok (Block ss) = block_step p deepest ks F b M n ss (steps_ok ss)
    step_ok (If e x y) = if_step p deepest ks F b M n e x y (exprs e) (step_ok x) (step_ok y)
    step_ok (Loop true e x y) = loop_first p deepest ks F b M n e x y (exprs e) (step_ok x) (step_ok y)
    step_ok (Loop false e x y) = loop_last p deepest ks F b M n e x y (exprs e) (step_ok x) (step_ok y)
    step_ok (Each a e s) = each_step p deepest ks F b M n a e s (exprs e) (step_ok s)
    step_ok Break = break_step p deepest ks F b M n
    step_ok Continue = continue_step p deepest ks F b M n
    step_ok Next = next_step p deepest ks F b M n
    step_ok Exit = exit_step p deepest ks F b M n
    step_ok (ExitWith e) = exit_with_step p deepest ks F b M n e (exprs e)
    step_ok (Return e) = return_step p deepest ks F b M n exprs e
    step_ok (Mark i c) = mark_step p deepest ks F b M n i c

    pub steps_ok : (ss : Steps) → StepsOk p deepest ks F b M n ss
    steps_ok NoStep = no_steps p deepest ks F b M n
    steps_ok (Then s ss) = then_steps p deepest ks F b M n s ss (step_ok s) (steps_ok ss)
