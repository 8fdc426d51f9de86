-- Which statements put texts behind a name's own.
use Rattle.std.specs.Prelude.{◌≡◌, refl, true, false, Some, None, pos}
use Rattle.sem_primitives.specs.declared.table.Primitive.TheVariants as row
use Rattle.sem_primitives.specs.declared.sorts.Sort.TheVariants as sort
use Rattle.mid_program.specs.declared.mid.Operation.TheVariants.{Host}
use Rattle.mid_program.specs.Mid.{Slot, Global, Parameter, Code, Do, Call, Ask, Replace, Number, Text, Get, Set, Array, Choose, Bound, End, At}
use Rattle.sem_scripts.specs.Names.{Numbered}
use Rattle.lower_model.specs.Appends.{append_in}

-- `s`, and the text of a and b
abbrev s : Slot
s = Global false 3

abbrev joined : Code → Code → Code
joined a b = Do (Host row.Concat) (At a (At b End))

-- `s = s "x"`
pub one_text : append_in (Set s (joined (Get s) (Text 0))) ≡ Some (record { target = 3; chain = joined (Get s) (Text 0) })
one_text = refl

-- `s = s a[i] (i ? ";" : "")`
pub two_texts : append_in (Set s (joined (joined (Get s) (Do (Host row.Elem) (At (Array (Numbered 2)) (At (Get (Global true 1)) End)))) (Choose sort.Value (Get (Global true 1)) (Text 0) (Text 1))))
    ≡ Some (record { target = 3; chain = joined (joined (Get s) (Do (Host row.Elem) (At (Array (Numbered 2)) (At (Get (Global true 1)) End)))) (Choose sort.Value (Get (Global true 1)) (Text 0) (Text 1)) })
two_texts = refl

-- `s = s s`: the text behind it is the name's too
pub doubled : append_in (Set s (joined (Get s) (Get s))) ≡ None
doubled = refl

-- `s = "x" s`
pub in_front : append_in (Set s (joined (Text 0) (Get s))) ≡ None
in_front = refl

-- `s = s f(1)`: the function may read and write s
pub with_call : append_in (Set s (joined (Get s) (Call 0 (At (Number (pos 1)) End)))) ≡ None
with_call = refl

-- `s = s (getline)`: the command line may assign to s
pub with_input : append_in (Set s (joined (Get s) Ask)) ≡ None
with_input = refl

-- `s = s (t = "x")`
pub with_assignment : append_in (Set s (joined (Get s) (Set (Global false 4) (Text 0)))) ≡ None
with_assignment = refl

-- `s = t "x"`, `s = s`, and a parameter
pub of_another : append_in (Set s (joined (Get (Global false 4)) (Text 0))) ≡ None
of_another = refl

pub itself : append_in (Set s (Get s)) ≡ None
itself = refl

pub of_a_parameter : append_in (Set (Parameter false 3) (joined (Get (Parameter false 3)) (Text 0))) ≡ None
of_a_parameter = refl

-- `s = s a[s]`, `s = s sub("x", "y", t)`, and an unboxed name
pub inside : append_in (Set s (joined (Get s) (Do (Host row.Elem) (At (Array (Numbered 2)) (At (Get s) End))))) ≡ None
inside = refl

pub with_substitution : append_in (Set s (joined (Get s) (Replace false (At (Text 0) (At (Text 1) (At (Get (Global false 4)) End))) (Set (Global false 4) (Bound true 0))))) ≡ None
with_substitution = refl

pub of_a_number : append_in (Set (Global true 3) (joined (Get (Global true 3)) (Text 0))) ≡ None
of_a_number = refl
