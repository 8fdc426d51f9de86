-- What a call of a function takes whose parameter and answer are numbers.
use Rattle.std.specs.Prelude.{◌≡◌, ℕ, ◌+◌, true, false, [], ◌∷◌, codes, Some, pos, refl}
use Rattle.std.specs.Fmt.{digits}
use Rattle.awk_values.specs.declared.comparison.CompareOp.TheVariants.{Less}
use Rattle.world_core.specs.WorldState.{Standard, puts}
use Rattle.sem_primitives.specs.declared.constants.Destination.TheVariants as to
use Rattle.sem_primitives.specs.declared.sorts.Sort.TheVariants.{Value}
use Rattle.sem_primitives.specs.declared.table.Listed.TheVariants.{Print}
use Rattle.sem_scripts.specs.ScriptRun.{Ended}
use Rattle.mid_program.specs.declared.mid.Arithmetic.{Arithmetic}
use Rattle.mid_program.specs.declared.mid.Arithmetic.TheVariants.{Minus, Plus}
use Rattle.mid_program.specs.declared.mid.Operation.TheVariants.{Inline}
use Rattle.mid_program.specs.Mid.{Unboxed, Parameter, Code, Do, Over, Compare, Call, Choose, Number, Get, End, At, Eval, Return, NoStep, Then, Program}
use Rattle.mid_program.specs.Sorted.{sorted, all_sorted, step_sorted, steps_sorted, is_sorted}
use Rattle.lower_model.specs.Emission.{emitted, all_emitted}
use Rattle.lower_model.specs.Statements.{step_emitted, steps_emitted}
use Rattle.lower_model.specs.Runs.{value_run}
use Rattle.test_parts.specs.CountExamples.{imports_of, plain_setting, steps_of}

abbrev two : Arithmetic → Code → Code → Code
two o a b = Do (Inline o) (At a (At b End))

abbrev argument : Code
argument = Get (Parameter true 0)

abbrev fib : Code → Code
fib e = Call 0 (At e End)

-- function fib(n) { return n < 2 ? n : fib(n - 1) + fib(n - 2) } BEGIN { print fib(k) }
abbrev calling : ℕ → Program
calling k = record {
  texts = [];
  lenders = [];
  globals = [];
  routines = (record {
    name = codes "fib";
    parameters = Unboxed ∷ [];
    body = Then (Return (Choose Value (Compare Less argument (Number (pos 2))) argument
        (two Plus (fib (two Minus argument (Number (pos 1)))) (fib (two Minus argument (Number (pos 2))))))) NoStep;
  }) ∷ [];
  ranges = 1;
  begin = Then (Eval (Over (Print to.Standard) (At (fib (Number (pos k))) End))) NoStep;
  reads = false;
  items = NoStep;
  end = NoStep;
}

pub called_to_six : is_sorted (calling 6) ≡ true × value_run (calling 6) plain_setting 4000 ≡ Some (Ended 0 (puts Standard (codes "8\n")))
unfolding sorted all_sorted step_sorted steps_sorted emitted all_emitted step_emitted steps_emitted digits
called_to_six = (refl, refl)

-- fib(4) makes 9 calls and fib(3) 5: 43 steps a call, and no import
pub calling_rounds : (steps_of (calling 4) ≡ steps_of (calling 3) + 172) × (imports_of (calling 4) ≡ imports_of (calling 3))
unfolding emitted all_emitted step_emitted steps_emitted digits
calling_rounds = (refl, refl)
