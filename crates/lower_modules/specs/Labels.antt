-- How many labels more than around its beginning stand around a part of emitted code, from which the function may be left.
use Rattle.std.specs.Prelude.{ℕ, suc, max, Bool, true, false, is_some}
use Rattle.sem_primitives.specs.declared.sorts.Sort.TheVariants as sort
use Rattle.mid_program.specs.Mid.{Code, Do, Over, Compare, Call, Ask, AskLine, FileLine, Replace, Number, Text, Unset, Get, Set, Array, IsOpen, Choose, Seq, Let, Bound, Codes, End, At, Fixed, Fresh, Step, Eval, Block, If, Loop, Each, Break, Continue, Next, Exit, ExitWith, Return, Mark, Steps, NoStep, Then}
use Rattle.lower_model.specs.Quick.{addition_in, pair_in, step_jumps, sum_in}

-- one more where this is so
abbrev pub more_if : Bool → ℕ → ℕ
more_if true count = suc count
more_if false count = count

-- one at least where this is so
abbrev pub one_if : Bool → ℕ → ℕ
one_if true count = max 1 count
one_if false count = count

-- what is stored of a read, what is chosen, and the code of all cases beside a sum's quick way are done within an `if`
abbrev mutual
  pub labels_in : Code → ℕ
  labels_in (Do operation operands) = more_if (is_some (addition_in operation operands)) (labels_among operands)
  labels_in (Over what operands) = labels_among operands
  labels_in (Compare op left right) = max (labels_in left) (labels_in right)
  labels_in (Call function operands) = labels_among operands
  labels_in Ask = 0
  labels_in (AskLine store) = suc (labels_in store)
  labels_in (FileLine file store) = max (labels_in file) (suc (labels_in store))
  labels_in (Replace all operands store) = max (labels_among operands) (suc (labels_in store))
  labels_in (Number number) = 0
  labels_in (Text text) = 0
  labels_in Unset = 0
  labels_in (Get slot) = 0
  labels_in (Set slot value) = labels_in value
  labels_in (Array array) = 0
  labels_in (IsOpen item) = 0
  labels_in (Choose wanted test so otherwise) = max (labels_in test) (suc (max (labels_in so) (labels_in otherwise)))
  labels_in (Seq first second) = max (labels_in first) (labels_in second)
  labels_in (Let value rest) = max (labels_in value) (labels_in rest)
  labels_in (Bound moves place) = 0

  pub labels_among : Codes → ℕ
  labels_among End = 0
  labels_among (At code operands) = max (labels_in code) (labels_among operands)
  labels_among (Fixed number operands) = labels_among operands
  labels_among (Fresh operands) = labels_among operands

-- Where a choice's test has a quick way, what is done where it holds stands in two blocks, and the test with it; what is done elsewhere in the outer
-- one. Else the two ways are those of an `if`.
abbrev pub choice_labels : (quick : Bool) → (test whole other : ℕ) → ℕ
choice_labels true test whole other = max (suc (suc (suc test))) (suc (max (suc whole) other))
choice_labels false test whole other = max test (suc (max whole other))

-- What is chosen for `return` is returned where it is chosen: in a block with its test, or after that, where the test has a quick way, else in an `if`.
abbrev pub chosen_labels : (quick : Bool) → (test whole other : ℕ) → ℕ
chosen_labels true test whole other = max (suc (suc test)) (max (suc whole) other)
chosen_labels false test whole other = max test (suc (max whole other))

abbrev pub return_labels : Code → ℕ
return_labels (Choose sort.Value test so otherwise) =
    chosen_labels (is_some (pair_in test)) (labels_in test) (return_labels so) (return_labels otherwise)
return_labels code = labels_in code

-- a loop is a `block` with a `loop` in it
abbrev pub loop_labels : (test body last : ℕ) → ℕ
loop_labels test body last = max (suc (suc test)) (max (suc (suc body)) (suc (suc last)))

-- Where a test has a quick way, the code of all cases stands in an `if` beside it. So does that of a sum which goes to a name, and it has no other label.
-- A loop's body is a `block`; where a test comes first, only one that `break` or `continue` leaves is.
abbrev mutual
  pub step_labels : Step → ℕ
  step_labels (Eval code) = one_if (is_some (sum_in code)) (labels_in code)
  step_labels (Block steps) = steps_labels steps
  step_labels (If test so otherwise) = choice_labels (is_some (pair_in test)) (labels_in test) (step_labels so) (step_labels otherwise)
  step_labels (Loop true test body last) =
      loop_labels (more_if (is_some (pair_in test)) (labels_in test)) (more_if (step_jumps body) (step_labels body)) (step_labels last)
  step_labels (Loop false test body last) = loop_labels (labels_in test) (suc (step_labels body)) (step_labels last)
  step_labels (Each array store body) = max (suc (suc (labels_in store))) (suc (suc (suc (step_labels body))))
  step_labels Break = 0
  step_labels Continue = 0
  step_labels Next = 0
  step_labels Exit = 0
  step_labels (ExitWith code) = labels_in code
  step_labels (Return code) = return_labels code
  step_labels (Mark item opens) = 0

  pub steps_labels : Steps → ℕ
  steps_labels NoStep = 0
  steps_labels (Then step steps) = max (step_labels step) (steps_labels steps)
