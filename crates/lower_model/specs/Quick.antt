-- Quick ways of statements, and of sums in expressions. The number of an unboxed name, or of an unboxed parameter, stands in one word, and the two words that
-- are no number's lie far from all numbers: so one comparison without sign says that a name has a number, and that it is between two bounds. Where it is, a
-- step on numbers is a few instructions; elsewhere, the code of all cases.
use Rattle.std.specs.Prelude.{ℕ, zero, suc, ◌/◌, ◌^◌, Bool, true, false, ◌&&◌, ◌||◌, nat_eq, nat_le, if◌then◌else◌, List, [], ◌∷◌, Option, Some, None, ℤ, pos, ◌+ℤ◌, unsigned_abs}
use Rattle.awk_text.specs.Number.{largest}
use Rattle.std.specs.Int.{w64, cast_unsigned}
use Rattle.awk_values.specs.Operators.{is_zero}
use Rattle.awk_values.specs.declared.comparison.CompareOp.{CompareOp}
use Rattle.awk_values.specs.declared.comparison.CompareOp.TheVariants as compare
use Rattle.sem_primitives.specs.ConstantNumbers.{special_number}
use Rattle.sem_primitives.specs.declared.constants.Special.TheVariants.{Nf}
use Rattle.sem_primitives.specs.declared.table.Primitive.TheVariants as row
use Rattle.wasm_types.specs.Syntax.{Instructions}
use Rattle.wasm_types.specs.declared.types.ValType.TheVariants.{I64}
use Rattle.wasm_types.specs.declared.instr.Simple.{Simple}
use Rattle.wasm_types.specs.declared.instr.Simple.TheVariants.{I32Const, I64Const, Binary, Compare as Comparing}
use Rattle.wasm_types.specs.declared.instr.IBinOp.{IBinOp}
use Rattle.wasm_types.specs.declared.instr.IBinOp.TheVariants.{Add, Sub, Mul, Or}
use Rattle.wasm_types.specs.declared.instr.IRelOp.TheVariants.{GtU}
use Rattle.mid_program.specs.declared.mid.Arithmetic.{Arithmetic}
use Rattle.mid_program.specs.declared.mid.Arithmetic.TheVariants as inline
use Rattle.mid_program.specs.declared.mid.Operation.{Operation}
use Rattle.mid_program.specs.declared.mid.Operation.TheVariants.{Host, Inline, AsNumber}
use Rattle.mid_program.specs.Mid.{Slot, Global, Parameter, Code, Do, Compare, Number, Get, Set, Array, Seq, Let, Bound, Codes, End, At, Fixed, Step, Eval, Block, If, Loop, Each, Break, Continue, Next, Exit, ExitWith, Return, Mark, Steps, NoStep, Then}
use Rattle.sem_scripts.specs.Names.{ArrayName}
use Rattle.lower_model.specs.Small.{emit}

-- What has its number in one word: an unboxed name, or an unboxed parameter.
pub data Holder : Type 0 where
  OfName : ℕ → Holder
  OfParameter : ℕ → Holder

-- Numbers of a holder: those that are from 0 to a width once this is added to them.
pub record Within : Type 0 where
  pub name : Holder
  pub shift : ℤ
  pub width : ℕ

-- 1 where the word that is read is none of them
abbrev pub unsure : Simple → ℤ → ℕ → Instructions → Instructions
unsure get shift width after =
    emit get (emit (I64Const (cast_unsigned w64 shift)) (emit (Binary I64 Add) (emit (I64Const width) (emit (Comparing I64 GtU) after))))

abbrev pub holder_of : Slot → Option Holder
holder_of (Global true name) = Some (OfName name)
holder_of (Parameter true place) = Some (OfParameter place)
holder_of slot = None

-- what code reads
abbrev pub name_in : Code → Option Holder
name_in (Get slot) = holder_of slot
name_in code = None

abbrev pub constant_in : Code → Option ℤ
constant_in (Number number) = Some number
constant_in code = None

-- Tests: where a name is compared with a constant, the numbers of which the comparison is true.

-- so many numbers from -2^53 on
abbrev pub first_ones : Holder → ℕ → Option Within
first_ones name zero = None
first_ones name (suc count) = Some (record { name = name; shift = pos largest; width = count })

abbrev pub compared_within : CompareOp → Holder → ℤ → Option Within
compared_within compare.Less name number = first_ones name (unsigned_abs (number +ℤ pos largest))
compared_within compare.LessOrEqual name number = first_ones name (suc (unsigned_abs (number +ℤ pos largest)))
compared_within op name number = None

abbrev pub both_within : CompareOp → Option Holder → Option ℤ → Option Within
both_within op (Some name) (Some number) = compared_within op name number
both_within op name number = None

abbrev pub test_within : Code → Option Within
test_within (Compare op left right) = both_within op (name_in left) (constant_in right)
test_within code = None

-- What is read without a handle: a holder, or a constant.
pub data Source : Type 0 where
  Held : Holder → Source
  Constant : ℤ → Source

abbrev pub held : Option Holder → Option Source
held (Some holder) = Some (Held holder)
held None = None

abbrev pub source_in : Code → Option Source
source_in (Get slot) = held (holder_of slot)
source_in (Number number) = Some (Constant number)
source_in code = None

-- holders, each once
abbrev pub same_holder : Holder → Holder → Bool
same_holder (OfName name) (OfName other) = nat_eq name other
same_holder (OfParameter place) (OfParameter other) = nat_eq place other
same_holder holder other = false

abbrev pub is_among : Holder → List Holder → Bool
is_among name [] = false
is_among name (first ∷ rest) = same_holder name first || is_among name rest

abbrev pub and_name : Holder → List Holder → List Holder
and_name name names = if is_among name names then names else name ∷ names

abbrev pub and_source : Source → List Holder → List Holder
and_source (Held name) names = and_name name names
and_source (Constant number) names = names

-- Whether one of several names is not within the bounds: their words, each with the shift, are joined, and what is joined is no less than each.

abbrev pub shifted : Simple → ℤ → Instructions → Instructions
shifted get shift after = emit get (emit (I64Const (cast_unsigned w64 shift)) (emit (Binary I64 Add) after))

abbrev pub joined : (Holder → Simple) → List Holder → ℤ → Instructions → Instructions
joined read [] shift after = after
joined read (name ∷ names) shift after = shifted (read name) shift (emit (Binary I64 Or) (joined read names shift after))

abbrev pub all_unsure : (Holder → Simple) → List Holder → ℤ → ℕ → Instructions → Instructions
all_unsure read [] shift width after = emit (I32Const 0) after
all_unsure read (name ∷ names) shift width after = shifted (read name) shift (joined read names shift (emit (I64Const width) (emit (Comparing I64 GtU) after)))

-- Sums and differences of sources that go to a name. Sources of at most 2^52 have a sum in range.
pub record Sum : Type 0 where
  pub target : Holder
  pub op : Arithmetic
  pub left : Source
  pub right : Source

abbrev pub sum_names : Sum → List Holder
sum_names sum = and_name sum.target (and_source sum.left (and_source sum.right []))

abbrev pub is_near : Source → Bool
is_near (Held name) = true
is_near (Constant number) = nat_le (unsigned_abs number) (2 ^ 52)

abbrev pub is_sum : Arithmetic → Bool
is_sum inline.Plus = true
is_sum inline.Minus = true
is_sum op = false

abbrev pub sum_op : Arithmetic → IBinOp
sum_op inline.Minus = Sub
sum_op op = Add

abbrev pub sum_of : Holder → Arithmetic → Option Source → Option Source → Option Sum
sum_of target op (Some left) (Some right) =
    if is_sum op && (is_near left && is_near right) then Some (record { target = target; op = op; left = left; right = right }) else None
sum_of target op left right = None

-- `n = a + e`
abbrev pub two_sum : Holder → Arithmetic → Codes → Option Sum
two_sum target op (At left (At right End)) = sum_of target op (source_in left) (source_in right)
two_sum target op operands = None

abbrev pub set_sum : Holder → Code → Option Sum
set_sum target (Do (Inline operator) operands) = two_sum target operator operands
set_sum target code = None

-- `n += e`, where what is added is kept first
abbrev pub kept_sum : Holder → Arithmetic → Code → Codes → Option Sum
kept_sum target op value (At before (At (Bound true zero) End)) = sum_of target op (source_in before) (source_in value)
kept_sum target op value operands = None

abbrev pub update_sum : Holder → Code → Code → Option Sum
update_sum target value (Do (Inline operator) operands) = kept_sum target operator value operands
update_sum target value code = None

-- `n++`: the number before is kept, then the one after
abbrev pub old_source : Code → Option Source
old_source (Do AsNumber (At value End)) = source_in value
old_source code = None

abbrev pub stored_name : Code → Option Holder
stored_name (Seq (Set slot (Bound true zero)) (Bound true (suc zero))) = holder_of slot
stored_name code = None

abbrev pub new_sum : Option Source → Option Holder → Code → Option Sum
new_sum source (Some target) (Do (Inline operator) (At (Bound false zero) (At (Number number) End))) = sum_of target operator source (Some (Constant number))
new_sum source target code = None

abbrev pub step_sum : Code → Code → Code → Option Sum
step_sum old new last = new_sum (old_source old) (stored_name last) new

abbrev pub set_after : Option Holder → Code → Code → Option Sum
set_after (Some target) value code = update_sum target value code
set_after None value code = None

abbrev pub let_sum : Code → Code → Option Sum
let_sum value (Set slot code) = set_after (holder_of slot) value code
let_sum value (Let new last) = step_sum value new last
let_sum value code = None

abbrev pub set_alone : Option Holder → Code → Option Sum
set_alone (Some target) code = set_sum target code
set_alone None code = None

abbrev pub sum_in : Code → Option Sum
sum_in (Set slot code) = set_alone (holder_of slot) code
sum_in (Let value rest) = let_sum value rest
sum_in code = None

-- Sums and differences of sources, wherever they stand: their number goes to a temporary.
pub record Addition : Type 0 where
  pub op : Arithmetic
  pub left : Source
  pub right : Source

abbrev pub addition_names : Addition → List Holder
addition_names addition = and_source addition.left (and_source addition.right [])

abbrev pub addition_of : Arithmetic → Option Source → Option Source → Option Addition
addition_of op (Some left) (Some right) = if is_sum op && (is_near left && is_near right) then Some (record { op = op; left = left; right = right }) else None
addition_of op left right = None

abbrev pub two_added : Arithmetic → Codes → Option Addition
two_added op (At left (At right End)) = addition_of op (source_in left) (source_in right)
two_added op operands = None

abbrev pub addition_in : Operation → Codes → Option Addition
addition_in (Inline operator) operands = two_added operator operands
addition_in operation operands = None

-- `n += e` and `n -= e`, where `e` is no source: what is added is evaluated first.
pub record Update : Type 0 where
  pub target : Holder
  pub op : Arithmetic
  pub name : Holder
  pub added : Code

abbrev pub update_of : Holder → Arithmetic → Option Holder → Code → Option Update
update_of target op (Some name) added = if is_sum op then Some (record { target = target; op = op; name = name; added = added }) else None
update_of target op None added = None

abbrev pub kept_update : Holder → Arithmetic → Code → Codes → Option Update
kept_update target op added (At before (At (Bound true zero) End)) = update_of target op (name_in before) added
kept_update target op added operands = None

abbrev pub set_update : Holder → Code → Code → Option Update
set_update target added (Do (Inline operator) operands) = kept_update target operator added operands
set_update target added code = None

abbrev pub update_after : Option Holder → Code → Code → Option Update
update_after (Some target) added value = set_update target added value
update_after None added value = None

abbrev pub let_update : Code → Code → Option Update
let_update added (Set slot value) = update_after (holder_of slot) added value
let_update added code = None

abbrev pub update_in : Code → Option Update
update_in (Let added rest) = let_update added rest
update_in code = None

-- Counters in arrays, `a[k]++`, `a[k] += e` and their like: the key is kept, what is added is evaluated after it, and an element takes the sum of its
-- number and that. Nobody asks for an answer.
pub record Tally : Type 0 where
  pub read : ArrayName
  pub written : ArrayName
  pub key : Code
  pub op : Arithmetic
  pub added : Code

abbrev pub is_bound : (moves : Bool) → ℕ → Code → Bool
is_bound true others (Bound true place) = nat_eq place others
is_bound false others (Bound false place) = nat_eq place others
is_bound moves others code = false

abbrev pub array_here : Code → Option ArrayName
array_here (Array array) = Some array
array_here code = None

abbrev pub array_where : Bool → Option ArrayName → Option ArrayName
array_where so array = if so then array else None

-- `a[k]`, where so many others were kept after the key
abbrev pub element_at : ℕ → Codes → Option ArrayName
element_at others (At array (At key End)) = array_where (is_bound false others key) (array_here array)
element_at others operands = None

abbrev pub element_read : ℕ → Code → Option ArrayName
element_read others (Do (Host row.Elem) operands) = element_at others operands
element_read others code = None

abbrev pub number_at : Codes → Option ArrayName
number_at (At code End) = element_read zero code
number_at operands = None

-- its number, where the key was kept last
abbrev pub number_read : Code → Option ArrayName
number_read (Do AsNumber operands) = number_at operands
number_read code = None

-- `a[k] = v`, where the value was kept last, and so many others after the key
abbrev pub taker_at : (moves : Bool) → ℕ → Codes → Option ArrayName
taker_at moves others (At array (At key (At value End))) = array_where (is_bound true others key && is_bound moves zero value) (array_here array)
taker_at moves others operands = None

abbrev pub element_set : (moves : Bool) → ℕ → Code → Option ArrayName
element_set moves others (Do (Host row.SetElem) operands) = taker_at moves others operands
element_set moves others code = None

-- the same, and the answer is what was kept with `last` others after it
abbrev pub element_last : (moves : Bool) → (others last : ℕ) → Code → Option ArrayName
element_last moves others last (Seq store answer) = array_where (is_bound true last answer) (element_set moves others store)
element_last moves others last answer = None

abbrev pub tally_of : Arithmetic → Code → Code → Option ArrayName → Option ArrayName → Option Tally
tally_of op key added (Some read) (Some written) =
    if is_sum op then Some (record { read = read; written = written; key = key; op = op; added = added }) else None
tally_of op key added read written = None

-- an operator with two operands, where something was kept after the key: `a[k] += e`, what is added, or `a[k]++`, the number before
abbrev pub tally_by : Arithmetic → (key kept left right store : Code) → Option Tally
tally_by op key kept left (Bound true zero) store = tally_of op key kept (element_read 1 left) (element_last false 2 zero store)
tally_by op key kept left (Number right) store =
    tally_of op key (Number right) (array_where (is_bound false zero left) (number_read kept)) (element_last true 2 1 store)
tally_by op key kept left right store = None

abbrev pub tally_two : Arithmetic → (key kept : Code) → Codes → Code → Option Tally
tally_two op key kept (At left (At right End)) store = tally_by op key kept left right store
tally_two op key kept operands store = None

abbrev pub tally_sum : (key kept value store : Code) → Option Tally
tally_sum key kept (Do (Inline operator) operands) store = tally_two operator key kept operands store
tally_sum key kept value store = None

-- `++a[k]`
abbrev pub tally_first : Arithmetic → (key left right store : Code) → Option Tally
tally_first op key left (Number right) store = tally_of op key (Number right) (element_read zero left) (element_last false 1 zero store)
tally_first op key left right store = None

abbrev pub first_two : Arithmetic → Code → Codes → Code → Option Tally
first_two op key (At left (At right End)) store = tally_first op key left right store
first_two op key operands store = None

abbrev pub first_sum : (key value store : Code) → Option Tally
first_sum key (Do (Inline operator) operands) store = first_two operator key operands store
first_sum key value store = None

abbrev pub tally_after : (key kept store : Code) → Option Tally
tally_after key kept (Let value store) = tally_sum key kept value store
tally_after key kept store = first_sum key kept store

abbrev pub tally_kept : (key rest : Code) → Option Tally
tally_kept key (Let kept rest) = tally_after key kept rest
tally_kept key rest = None

abbrev pub tally_in : Code → Option Tally
tally_in (Let key rest) = tally_kept key rest
tally_in code = None

-- Remainders that go to a name: of a name by a constant, or of its product with a constant, `x = y % m` and `x = y * c % m`. Neither constant is 0.

-- a name, and what it is multiplied by, if it is
pub record Multiple : Type 0 where
  pub name : Holder
  pub factor : Option ℤ

pub record Remainder : Type 0 where
  pub target : Holder
  pub multiple : Multiple
  pub divisor : ℤ

abbrev pub factor_in : Code → Option ℤ
factor_in (Number number) = if is_zero number then None else Some number
factor_in code = None

abbrev pub product_of : Option Holder → Option ℤ → Option Multiple
product_of (Some name) (Some factor) = Some (record { name = name; factor = Some factor })
product_of name factor = None

abbrev pub two_product : Arithmetic → Codes → Option Multiple
two_product inline.Times (At left (At right End)) = product_of (name_in left) (factor_in right)
two_product op operands = None

abbrev pub multiple_of : Option Holder → Option Multiple
multiple_of (Some name) = Some (record { name = name; factor = None })
multiple_of None = None

abbrev pub multiple_in : Code → Option Multiple
multiple_in (Get slot) = multiple_of (holder_of slot)
multiple_in (Do (Inline operator) operands) = two_product operator operands
multiple_in code = None

abbrev pub remainder_of : Holder → Option Multiple → Option ℤ → Option Remainder
remainder_of target (Some multiple) (Some divisor) = Some (record { target = target; multiple = multiple; divisor = divisor })
remainder_of target multiple divisor = None

abbrev pub two_remainder : Holder → Arithmetic → Codes → Option Remainder
two_remainder target inline.Modulo (At left (At right End)) = remainder_of target (multiple_in left) (factor_in right)
two_remainder target op operands = None

abbrev pub set_remainder : Holder → Code → Option Remainder
set_remainder target (Do (Inline operator) operands) = two_remainder target operator operands
set_remainder target code = None

abbrev pub remainder_alone : Option Holder → Code → Option Remainder
remainder_alone (Some target) value = set_remainder target value
remainder_alone None value = None

abbrev pub remainder_in : Code → Option Remainder
remainder_in (Set slot value) = remainder_alone (holder_of slot) value
remainder_in code = None

abbrev pub remainder_names : Remainder → List Holder
remainder_names remainder = and_name remainder.target (remainder.multiple.name ∷ [])

-- a number of at most so much has a product in range
abbrev pub most_multiplied : Option ℤ → ℕ
most_multiplied None = largest
most_multiplied (Some factor) = largest / unsigned_abs factor

-- the number on the stack is multiplied
abbrev pub multiplied : Option ℤ → Instructions → Instructions
multiplied None after = after
multiplied (Some factor) after = emit (I64Const (cast_unsigned w64 factor)) (emit (Binary I64 Mul) after)

-- Comparisons of sources: where all names are in range the module compares.
pub record Pair : Type 0 where
  pub op : CompareOp
  pub left : Source
  pub right : Source

abbrev pub pair_names : Pair → List Holder
pair_names pair = and_source pair.left (and_source pair.right [])

abbrev pub pair_of : CompareOp → Option Source → Option Source → Option Pair
pair_of op (Some left) (Some right) = Some (record { op = op; left = left; right = right })
pair_of op left right = None

abbrev pub pair_in : Code → Option Pair
pair_in (Compare op left right) = pair_of op (source_in left) (source_in right)
pair_in code = None

abbrev pub contrary : CompareOp → CompareOp
contrary compare.Less = compare.GreaterOrEqual
contrary compare.LessOrEqual = compare.Greater
contrary compare.Equal = compare.NotEqual
contrary compare.NotEqual = compare.Equal
contrary compare.Greater = compare.LessOrEqual
contrary compare.GreaterOrEqual = compare.Less

-- Comparisons of a name with how many fields there are, which is always a number: no fault comes of them.
pub record Counted : Type 0 where
  pub op : CompareOp
  pub name : Holder

abbrev pub is_count : Codes → Bool
is_count (Fixed number End) = nat_eq number (special_number Nf)
is_count operands = false

abbrev pub field_count : Code → Bool
field_count (Do (Host row.GetSpecial) operands) = is_count operands
field_count code = false

abbrev pub counted_of : CompareOp → Option Holder → Bool → Option Counted
counted_of op (Some name) true = Some (record { op = op; name = name })
counted_of op name so = None

abbrev pub counted_in : Code → Option Counted
counted_in (Compare op left right) = counted_of op (name_in left) (field_count right)
counted_in code = None

-- Whether a step's code leaves it by `break` or `continue` of the loop around it.
abbrev mutual
  pub step_jumps : Step → Bool
  step_jumps (Block steps) = steps_jump steps
  step_jumps (If test so otherwise) = step_jumps so || step_jumps otherwise
  step_jumps Break = true
  step_jumps Continue = true
  step_jumps (Eval code) = false
  step_jumps (Loop first test body last) = false
  step_jumps (Each array store body) = false
  step_jumps Next = false
  step_jumps Exit = false
  step_jumps (ExitWith code) = false
  step_jumps (Return code) = false
  step_jumps (Mark item opens) = false

  pub steps_jump : Steps → Bool
  steps_jump NoStep = false
  steps_jump (Then step steps) = step_jumps step || steps_jump steps

-- nothing stands between a body and the next test
abbrev pub is_nothing : Step → Bool
is_nothing (Block NoStep) = true
is_nothing step = false
