-- Worked rows.
use Rattle.std.specs.Prelude.{◌≡◌, Bool, true, false, refl, pos, length}
use Rattle.awk_values.specs.declared.comparison.CompareOp.TheVariants.{Less}
use Rattle.sem_primitives.specs.declared.sorts.Sort.TheVariants.{Number as NumberSort, Value}
use Rattle.mid_program.specs.declared.mid.Arithmetic.{Arithmetic}
use Rattle.mid_program.specs.declared.mid.Arithmetic.TheVariants.{Minus, Plus, Times}
use Rattle.mid_program.specs.declared.mid.Operation.TheVariants.{Inline}
use Rattle.mid_program.specs.Mid.{Code, Do, Compare, Get, Global, Set, At, End, Number, Choose, Step, Eval, If, Loop, Block, Break, Return, NoStep, Then}
use Rattle.lower_model.specs.Places.{local_types, room}
use Rattle.lower_modules.specs.Counted.{counted}
use Rattle.lower_modules.specs.Labels.{labels_in, step_labels, steps_labels}

-- the largest number of 32 bits stays
counted_stays : counted 4294967296 ≡ 4294967295
counted_stays = refl

counted_small : counted 7 ≡ 7
counted_small = refl

-- `1 ? 2 : 3`: one `if`
one_choice : labels_in (Choose NumberSort (Number (pos 1)) (Number (pos 2)) (Number (pos 3))) ≡ 1
one_choice = refl

-- a loop's body has three labels around it, and a statement after the loop none of them
body_of_loop : steps_labels (Then (Loop true (Number (pos 1)) (If (Number (pos 1)) Break Break) (Eval (Number (pos 1)))) (Then Break NoStep)) ≡ 4
body_of_loop = refl

-- `n = n + 1` and `n < 3`, where n is unboxed or boxed
abbrev with_one : Arithmetic → Bool → Code
with_one op u = Do (Inline op) (At (Get (Global u 0)) (At (Number (pos 1)) End))

abbrev one_more : Bool → Step
one_more u = Eval (Set (Global u 0) (with_one Plus u))

abbrev below_three : Bool → Code
below_three u = Compare Less (Get (Global u 0)) (Number (pos 3))

-- wherever they stand, a sum and a difference have a quick way where n is unboxed, and the code of all cases in an `if` beside it;
-- the operands of a product are evaluated outside its blocks
sum_anywhere : labels_in (with_one Plus true) ≡ 1 × labels_in (with_one Minus true) ≡ 1 × labels_in (with_one Plus false) ≡ 0 × labels_in (with_one Times true) ≡ 0
sum_anywhere = (refl, refl, refl, refl)

-- a product is kept in a third temporary
product_kept : room (with_one Plus true) ≡ 2 × room (with_one Times true) ≡ 3
product_kept = (refl, refl)

-- as a statement the sum has a quick way where n is unboxed, and the code of all cases beside it one label more
sum_beside : step_labels (one_more true) ≡ 1 × step_labels (one_more false) ≡ 0
sum_beside = (refl, refl)

-- in a loop that nothing leaves the sum stands in `block`, `loop` and the `if` beside its quick way
counting_loop : step_labels (Loop true (below_three true) (one_more true) (Block NoStep)) ≡ 3
    × step_labels (Loop true (below_three false) (one_more false) (Block NoStep)) ≡ 2
counting_loop = (refl, refl)

-- what a comparison of sources chooses stands in two blocks
quick_choice : step_labels (If (below_three true) (one_more true) (Block NoStep)) ≡ 3 × step_labels (If (below_three false) (one_more false) (Block NoStep)) ≡ 1
quick_choice = (refl, refl)

-- `return n < 3 ? n : n - 1`: the test stands in a block with what it chooses, and in an `if` there; the difference stands after that block
quick_return : step_labels (Return (Choose Value (below_three true) (Get (Global true 0)) (with_one Minus true))) ≡ 2
    × step_labels (Return (Choose Value (below_three false) (Get (Global false 0)) (with_one Minus false))) ≡ 1
quick_return = (refl, refl)

-- `answer`, two locals for each temporary, an iterator and an array
locals_counted : length (local_types (record { parameters = 5; temporaries = 2; iterators = 1; arrays = 1 })) ≡ 7
locals_counted = refl
