-- Sizes of modules whose BEGIN is one statement so many times.
use Rattle.std.specs.Prelude.{◌≡◌, ℕ, ◌-◌, Bool, true, false, [], ◌∷◌, codes, pos, refl}
use Rattle.sem_primitives.specs.declared.constants.Destination.TheVariants.{Standard}
use Rattle.sem_primitives.specs.declared.table.Listed.TheVariants.{Print}
use Rattle.mid_program.specs.declared.mid.Arithmetic.TheVariants.{Plus}
use Rattle.mid_program.specs.declared.mid.Operation.TheVariants.{Inline}
use Rattle.mid_program.specs.Mid.{Kind, Boxed, Unboxed, Global, Do, Over, Number, Get, Set, End, At, Step, Eval, NoStep, Program}
use Rattle.lower_model.specs.Emission.{emitted, all_emitted}
use Rattle.lower_model.specs.Statements.{step_emitted, steps_emitted}
use Rattle.lower_model.specs.Modules.{module_of}
use Rattle.test_parts.specs.Sizes.{module_size, times}

abbrev repeated : Kind → ℕ → Step → Program
repeated kind n s = record {
  texts = [];
  lenders = [];
  globals = (record { name = codes "x"; kind = kind; mixed = false })
      ∷ [];
  routines = [];
  ranges = 1;
  begin = times n s;
  reads = false;
  items = NoStep;
  end = NoStep;
}

abbrev size_of : Kind → ℕ → Step → ℕ
size_of kind n s = module_size (module_of (repeated kind n s))

-- x = x + 1, print x
abbrev counts : Bool → Step
counts u = Eval (Set (Global u 0) (Do (Inline Plus) (At (Get (Global u 0)) (At (Number (pos 1)) End))))

abbrev prints : Step
prints = Eval (Over (Print Standard) (At (Get (Global false 0)) End))

-- 86 bytes for each
pub boxed_counts : size_of Boxed 20 (counts false) - size_of Boxed 10 (counts false) ≡ 860
unfolding emitted all_emitted step_emitted steps_emitted
boxed_counts = refl

-- 175 bytes for each: the code of all cases, and the quick way beside it
pub unboxed_counts : size_of Unboxed 20 (counts true) - size_of Unboxed 10 (counts true) ≡ 1750
unfolding emitted all_emitted step_emitted steps_emitted
unboxed_counts = refl

-- 28 bytes for each
pub boxed_prints : size_of Boxed 20 prints - size_of Boxed 10 prints ≡ 280
unfolding emitted all_emitted step_emitted steps_emitted
boxed_prints = refl

pub no_statement : size_of Boxed 0 prints ≡ 219
unfolding emitted all_emitted step_emitted steps_emitted
no_statement = refl
