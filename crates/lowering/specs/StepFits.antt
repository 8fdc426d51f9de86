-- Which statements can be emitted: no place and no label is past its field.
use Rattle.std.specs.Prelude.{ℕ, zero, suc, ◌≤◌, Bool, true, false, not, is_some, Option, Some, None}
use Rattle.sem_primitives.specs.declared.sorts.Sort.TheVariants as sort
use Rattle.mid_program.specs.Mid.{Parameter, Code, Get, Choose, Step, Eval, Block, If, Loop, Each, Break, Continue, Next, Exit, ExitWith, Return, Mark, Steps, NoStep, Then, Program}
use Rattle.mid_program.specs.Sorted.{lender_at}
use Rattle.lower_pieces.specs.Bounds.{most_places, most_labels}
use Rattle.lower_model.specs.Emission.{Layout}
use Rattle.lower_model.specs.Quick.{pair_in, step_jumps}
use Rattle.lower_modules.specs.Labels.{more_if}
use Rattle.lower_expressions.specs.Fits.{ArrayFits, Fits}

-- the labels of a loop are there
abbrev pub LoopFits : ℕ → Type 0
LoopFits exit = suc (suc (suc exit)) ≤ most_labels

-- code that may stand one label deeper, beside a quick way
abbrev pub TestFits : Layout → Code → (exit : ℕ) → Type 0
TestFits layout test exit = Fits layout test zero zero exit × Fits layout test zero zero (suc exit)

-- the test of a choice, in an `if` or in two blocks
abbrev pub ChoiceFits : Layout → Code → (exit : ℕ) → Type 0
ChoiceFits layout test exit = (suc (suc (suc exit)) ≤ most_labels) × (Fits layout test zero zero exit × TestFits layout test (suc (suc exit)))

-- what is chosen for `return`: one way in a block with its test, and the other way after that; or both in an `if`
abbrev pub ReturnFits : Layout → Code → (exit : ℕ) → Type 0
ReturnFits layout (Choose sort.Value test so otherwise) exit =
    (suc (suc exit) ≤ most_labels) × ((Fits layout test zero zero exit × TestFits layout test (suc exit))
    × (ReturnFits layout so (suc exit) × ReturnFits layout otherwise (more_if (not (is_some (pair_in test))) exit)))
ReturnFits layout code exit = (exit ≤ most_labels) × Fits layout code zero zero exit

-- the test and both ways of such a choice
abbrev pub choice_in : Code → Option (Code × Code × Code)
choice_in (Choose sort.Value test so otherwise) = Some (test, so, otherwise)
choice_in code = None

-- the place of an unboxed parameter, whose number is the answer's word where no global lends its value
abbrev pub unless_lent : (lender : Option ℕ) → ℕ → Option ℕ
unless_lent None place = Some place
unless_lent (Some name) place = None

abbrev pub parameter_in : Layout → Code → Option ℕ
parameter_in layout (Get (Parameter true place)) = unless_lent (lender_at layout.lenders place) place
parameter_in layout code = None

-- whether the body of a loop stands in a block of its own: where a test comes first, only one that `break` or `continue` leaves
abbrev pub has_block : (first : Bool) → Step → Bool
has_block true body = step_jumps body
has_block false body = true

-- with so many iterators in use and so many labels around
abbrev mutual
  pub StepFits : Layout → Step → (iterators exit : ℕ) → Type 0
  StepFits layout (Eval code) iterators exit = (suc (suc (suc (suc exit))) ≤ most_labels) × Fits layout code zero zero exit
  StepFits layout (Block steps) iterators exit = StepsFit layout steps iterators exit
  StepFits layout (If test so otherwise) iterators exit =
      ChoiceFits layout test exit
      × (StepFits layout so iterators (suc (more_if (is_some (pair_in test)) exit)) × StepFits layout otherwise iterators (suc exit))
  StepFits layout (Loop first test body last) iterators exit =
      LoopFits exit × (TestFits layout test (suc (suc exit))
      × (StepFits layout body iterators (suc (suc (more_if (has_block first body) exit))) × StepFits layout last iterators (suc (suc exit))))
  StepFits layout (Each array store body) iterators exit =
      LoopFits exit × ((suc iterators ≤ most_places)
      × (ArrayFits array × (Fits layout store 1 zero (suc (suc exit)) × StepFits layout body (suc iterators) (suc (suc (suc exit))))))
  StepFits layout Break iterators exit = Unit {0}
  StepFits layout Continue iterators exit = Unit {0}
  StepFits layout Next iterators exit = Unit {0}
  StepFits layout Exit iterators exit = Unit {0}
  StepFits layout (ExitWith code) iterators exit = (exit ≤ most_labels) × Fits layout code zero zero exit
  StepFits layout (Return code) iterators exit = ReturnFits layout code exit
  StepFits layout (Mark item opens) iterators exit = item ≤ most_places

  pub StepsFit : Layout → Steps → (iterators exit : ℕ) → Type 0
  StepsFit layout NoStep iterators exit = Unit {0}
  StepsFit layout (Then step steps) iterators exit = StepFits layout step iterators exit × StepsFit layout steps iterators exit

-- the three parts of `main`
abbrev pub PartsFit : Layout → Program → Type 0
PartsFit layout program = StepsFit layout program.begin zero zero × (StepsFit layout program.items zero zero × StepsFit layout program.end zero zero)
