-- Arrays and their keys, computed.
use Rattle.std.specs.Prelude.{◌≡◌, [], ◌∷◌, codes, true, false, Some, None, Ok, pos, refl}
use Rattle.std.specs.Fmt.{digits}
use Rattle.awk_values.specs.declared.value.Value.TheVariants as value
use Rattle.sem_primitives.specs.SharedState.{Shared}
use Rattle.sem_primitives.specs.Jobs.{JobForm}
use Rattle.sem_primitives.specs.ClosedJobs.{shared_at_start}
use Rattle.sem_primitives.specs.ArrayMeaning.{array, keys, element}
use Rattle.sem_primitives.specs.ExampleStates.{nothing, empty, at_start, after_call, answered}
use Rattle.sem_primitives.specs.declared.table.Primitive.TheVariants.{NewArray, Elem, SetElem, Has, Delete, Join, Iter, IterNext, Clear}

-- ARGV is array 0, ENVIRON array 1
pub third_array : answered NewArray tt at_start ≡ 2
third_array = refl

abbrev pub made : Shared
made = after_call NewArray tt at_start

pub read_makes : answered Elem (2, (value.Text (codes "k"), tt)) made ≡ value.Uninit
read_makes = refl

pub made_by_reading : answered Has (2, (value.Text (codes "k"), tt)) (after_call Elem (2, (value.Text (codes "k"), tt)) made) ≡ true
made_by_reading = refl

pub not_made_by_asking : answered Has (2, (value.Text (codes "k"), tt)) (after_call Has (2, (value.Text (codes "k"), tt)) made) ≡ false
not_made_by_asking = refl

-- the key of a number is its text
pub number_as_key : answered Elem (2, (value.Text (codes "7"), tt)) (after_call SetElem (2, (value.Num (pos 7), (value.Text (codes "x"), tt))) made)
    ≡ value.Text (codes "x")
unfolding digits
number_as_key = refl

pub no_value_as_key : answered Has (2, (value.Text [], tt)) (after_call SetElem (2, (value.Uninit, (value.Uninit, tt))) made) ≡ true
no_value_as_key = refl

pub joined_keys : answered Join (value.Text (codes "a"), (value.Num (pos 1), tt)) at_start ≡ Ok (value.Text (97 ∷ 28 ∷ 49 ∷ []))
unfolding digits
joined_keys = refl

-- a["x"]; a["y"]; a["z"]; delete a["x"]; a["x"] = 1: a key that was deleted and put again goes last
abbrev pub three : Shared
three = after_call Elem (2, (value.Text (codes "z"), tt))
    (after_call Elem (2, (value.Text (codes "y"), tt)) (after_call Elem (2, (value.Text (codes "x"), tt)) made))

abbrev pub again : Shared
again = after_call SetElem (2, (value.Text (codes "x"), (value.Num (pos 1), tt))) (after_call Delete (2, (value.Text (codes "x"), tt)) three)

abbrev pub begun : Shared
begun = after_call Iter (2, tt) again

pub first_iterator : answered Iter (2, tt) again ≡ 0
first_iterator = refl

pub first_key : answered IterNext (0, tt) begun ≡ Some (value.Text (codes "y"))
first_key = refl

-- and one that is deleted meanwhile is still visited
abbrev pub deleted : Shared
deleted = after_call Delete (2, (value.Text (codes "x"), tt)) (after_call IterNext (0, tt) begun)

pub second_key : answered IterNext (0, tt) deleted ≡ Some (value.Text (codes "z"))
second_key = refl

pub third_key : answered IterNext (0, tt) (after_call IterNext (0, tt) deleted) ≡ Some (value.Text (codes "x"))
third_key = refl

pub no_further_key : answered IterNext (0, tt) (after_call IterNext (0, tt) (after_call IterNext (0, tt) deleted)) ≡ None
no_further_key = refl

pub deleted_key : answered Has (2, (value.Text (codes "x"), tt)) deleted ≡ false
deleted_key = refl

-- nothing is left of an array that is emptied, but the keys that were to be visited still are, and it takes elements again
abbrev pub cleared : Shared
cleared = after_call Clear (2, tt) (after_call IterNext (0, tt) begun)

pub none_left : array 2 cleared.inner ≡ []
none_left = refl

pub others_left : array 0 cleared.inner ≡ array 0 begun.inner
others_left = refl

pub walk_goes_on : answered IterNext (0, tt) cleared ≡ Some (value.Text (codes "z"))
walk_goes_on = refl

pub last_key : answered IterNext (0, tt) (after_call IterNext (0, tt) cleared) ≡ Some (value.Text (codes "x"))
last_key = refl

pub refilled : keys (array 2 (after_call SetElem (2, (value.Text (codes "z"), (value.Uninit, tt))) cleared).inner) ≡ codes "z" ∷ []
refilled = refl

pub same_number : answered NewArray tt cleared ≡ 3
same_number = refl

-- a key keeps its place when its value changes
pub place_kept : keys (array 2 (after_call SetElem (2, (value.Text (codes "y"), (value.Uninit, tt))) three).inner) ≡ codes "x" ∷ codes "y" ∷ codes "z" ∷ []
place_kept = refl

-- Before a script runs.

abbrev pub with_environment : JobForm
with_environment = record {
  operands = codes "p" ∷ codes "7" ∷ [];
  assigns = [];
  environment = (codes "A", codes "1") ∷ ((codes "B", codes "2") ∷ ((codes "A", codes "3") ∷ []));
}

pub name_of_awk : element (codes "0") (array 0 (shared_at_start with_environment nothing empty).inner) ≡ Some (value.StrNum (codes "awk"))
unfolding digits
name_of_awk = refl

pub second_operand : element (codes "2") (array 0 (shared_at_start with_environment nothing empty).inner) ≡ Some (value.StrNum (codes "7"))
unfolding digits
second_operand = refl

pub no_third_operand : element (codes "3") (array 0 (shared_at_start with_environment nothing empty).inner) ≡ None
unfolding digits
no_third_operand = refl

-- a later pair replaces an earlier one of its name
pub environment : array 1 (shared_at_start with_environment nothing empty).inner
    ≡ (codes "A", value.StrNum (codes "3")) ∷ ((codes "B", value.StrNum (codes "2")) ∷ [])
environment = refl
