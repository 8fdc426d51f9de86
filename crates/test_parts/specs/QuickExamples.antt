-- Which statements and tests have a quick way, and between which bounds.
use Rattle.std.specs.Prelude.{◌≡◌, ℕ, ◌+◌, ◌-◌, ◌^◌, Bool, true, false, [], ◌∷◌, Some, None, pos, negsuc, refl}
use Rattle.awk_values.specs.declared.comparison.CompareOp.TheVariants.{Equal, Less, LessOrEqual}
use Rattle.sem_primitives.specs.declared.table.Primitive.TheVariants.{Elem, Field, GetSpecial, SetElem}
use Rattle.mid_program.specs.declared.mid.Arithmetic.{Arithmetic}
use Rattle.mid_program.specs.declared.mid.Arithmetic.TheVariants.{Minus, Modulo, Over, Plus, Times}
use Rattle.mid_program.specs.declared.mid.Operation.TheVariants.{AsNumber, Host, Inline}
use Rattle.mid_program.specs.Mid.{Array, At, Block, Bound, Break, Code, Compare, Continue, Do, Each, End, Eval, Fixed, Get, Global, If, Let, Loop, NoStep, Number, Parameter, Seq, Set, Step, Then}
use Rattle.sem_scripts.specs.Names.{Numbered}
use Rattle.lower_model.specs.Quick.{Constant, Held, OfName, OfParameter, addition_in, addition_names, counted_in, is_nothing, most_multiplied, pair_in, remainder_in, remainder_names, step_jumps, sum_in, sum_names, tally_in, test_within, update_in}

-- unboxed names and parameters
abbrev name : ℕ → Code
name i = Get (Global true i)

abbrev parameter : ℕ → Code
parameter i = Get (Parameter true i)

abbrev joined : Arithmetic → Code → Code → Code
joined o a b = Do (Inline o) (At a (At b End))

abbrev assigned : ℕ → Code → Code
assigned i e = Set (Global true i) e

-- `n += e`, `n++` and `n--`
abbrev updated : ℕ → Arithmetic → Code → Code
updated i o e = Let e (assigned i (joined o (name i) (Bound true 0)))

abbrev stepped : ℕ → Arithmetic → Code
stepped i o = Let (Do AsNumber (At (name i) End)) (Let (joined o (Bound false 0) (Number (pos 1))) (Seq (assigned i (Bound true 0)) (Bound true 1)))

pub sums : (sum_in (assigned 7 (joined Plus (name 7) (Number (pos 1)))) ≡ Some (record { target = OfName 7; op = Plus; left = Held (OfName 7); right = Constant (pos 1) }))
    × ((sum_in (assigned 7 (joined Minus (name 5) (name 6))) ≡ Some (record { target = OfName 7; op = Minus; left = Held (OfName 5); right = Held (OfName 6) }))
    × ((sum_in (updated 7 Plus (name 5)) ≡ Some (record { target = OfName 7; op = Plus; left = Held (OfName 7); right = Held (OfName 5) }))
    × (sum_in (stepped 7 Minus) ≡ Some (record { target = OfName 7; op = Minus; left = Held (OfName 7); right = Constant (pos 1) }))
    × (sum_in (Set (Parameter true 0) (joined Plus (parameter 0) (name 7))) ≡ Some (record { target = OfParameter 0; op = Plus; left = Held (OfParameter 0); right = Held (OfName 7) }))))
sums = (refl, (refl, (refl, refl, refl)))

-- a product, a boxed name, a boxed parameter, a constant past 2^52, a sum of a sum
pub no_sums : (sum_in (assigned 7 (joined Times (name 7) (Number (pos 2)))) ≡ None)
    × ((sum_in (Set (Global false 7) (joined Plus (name 7) (Number (pos 1)))) ≡ None)
    × ((sum_in (Set (Parameter false 0) (joined Plus (name 7) (Number (pos 1)))) ≡ None)
    × ((sum_in (assigned 7 (joined Plus (name 7) (Number (pos (2 ^ 52 + 1))))) ≡ None)
    × (sum_in (assigned 7 (joined Plus (joined Plus (name 5) (name 6)) (Number (pos 1)))) ≡ None))))
no_sums = (refl, (refl, (refl, (refl, refl))))

-- `n - 1` and `n + m` as parts of expressions, and which names are asked, each once
pub additions : (addition_in (Inline Minus) (At (parameter 0) (At (Number (pos 1)) End)) ≡ Some (record { op = Minus; left = Held (OfParameter 0); right = Constant (pos 1) }))
    × ((addition_in (Inline Plus) (At (name 5) (At (parameter 5) End)) ≡ Some (record { op = Plus; left = Held (OfName 5); right = Held (OfParameter 5) }))
    × ((addition_names (record { op = Plus; left = Held (OfName 5); right = Held (OfParameter 5) }) ≡ OfName 5 ∷ (OfParameter 5 ∷ []))
    × (addition_names (record { op = Plus; left = Held (OfName 5); right = Held (OfName 5) }) ≡ OfName 5 ∷ [])))
additions = (refl, (refl, (refl, refl)))

-- a product, a boxed parameter, a constant past 2^52, a sum of a sum, what is asked of the host
pub no_additions : (addition_in (Inline Times) (At (parameter 0) (At (Number (pos 2)) End)) ≡ None)
    × ((addition_in (Inline Plus) (At (Get (Parameter false 0)) (At (Number (pos 1)) End)) ≡ None)
    × ((addition_in (Inline Minus) (At (parameter 0) (At (Number (negsuc (2 ^ 52))) End)) ≡ None)
    × ((addition_in (Inline Plus) (At (joined Plus (name 5) (name 6)) (At (Number (pos 1)) End)) ≡ None)
    × (addition_in (Host Field) (At (name 5) End) ≡ None))))
no_additions = (refl, (refl, (refl, (refl, refl))))

-- what is added is no source, and is evaluated first; a product has no such way
pub updates : (update_in (updated 7 Minus (Get (Global false 5))) ≡ Some (record { target = OfName 7; op = Minus; name = OfName 7; added = Get (Global false 5) }))
    × ((update_in (updated 7 Times (Get (Global false 5))) ≡ None)
    × (update_in (assigned 7 (joined Plus (name 7) (Get (Global false 5)))) ≡ None))
updates = (refl, (refl, refl))

-- `a[$1]++`, `a[$1] += e` and `++a[$1]`, for the array 2 and `$1`

abbrev first_field : Code
first_field = Do (Host Field) (At (Number (pos 1)) End)

abbrev element : ℕ → Code
element i = Do (Host Elem) (At (Array (Numbered 2)) (At (Bound false i) End))

abbrev set_element : Bool → ℕ → Code
set_element m i = Do (Host SetElem) (At (Array (Numbered 2)) (At (Bound true i) (At (Bound m 0) End)))

abbrev stepped_after : Arithmetic → Code
stepped_after o = Let first_field (Let (Do AsNumber (At (element 0) End))
    (Let (joined o (Bound false 0) (Number (pos 1))) (Seq (set_element true 2) (Bound true 1))))

abbrev added_to : Arithmetic → Code → Code
added_to o e = Let first_field (Let e (Let (joined o (element 1) (Bound true 0)) (Seq (set_element false 2) (Bound true 0))))

abbrev stepped_before : Arithmetic → Code
stepped_before o = Let first_field (Let (joined o (element 0) (Number (pos 1))) (Seq (set_element false 1) (Bound true 0)))

pub counters : (tally_in (stepped_after Minus)
    ≡ Some (record { read = Numbered 2; written = Numbered 2; key = first_field; op = Minus; added = Number (pos 1) }))
    × ((tally_in (added_to Plus first_field) ≡ Some (record { read = Numbered 2; written = Numbered 2; key = first_field; op = Plus; added = first_field }))
    × (tally_in (stepped_before Plus) ≡ Some (record { read = Numbered 2; written = Numbered 2; key = first_field; op = Plus; added = Number (pos 1) })))
counters = (refl, (refl, refl))

-- a product, a sum that is not stored, the element of what was kept before the key
pub no_counters : (tally_in (added_to Times first_field) ≡ None)
    × ((tally_in (Let first_field (Let first_field (joined Plus (element 1) (Bound true 0)))) ≡ None)
    × (tally_in (Let first_field (Let first_field (Let (joined Plus (element 2) (Bound true 0)) (Seq (set_element false 2) (Bound true 0))))) ≡ None))
no_counters = (refl, (refl, refl))

-- `x = x % 7`, `x = y * 3 % 7`, and constants less than 0
pub remainders : (remainder_in (assigned 7 (joined Modulo (name 7) (Number (pos 7))))
    ≡ Some (record { target = OfName 7; multiple = record { name = OfName 7; factor = None }; divisor = pos 7 }))
    × ((remainder_in (assigned 7 (joined Modulo (joined Times (name 5) (Number (pos 3))) (Number (pos 7))))
    ≡ Some (record { target = OfName 7; multiple = record { name = OfName 5; factor = Some (pos 3) }; divisor = pos 7 }))
    × (remainder_in (assigned 7 (joined Modulo (joined Times (name 7) (Number (negsuc 2))) (Number (negsuc 6))))
    ≡ Some (record { target = OfName 7; multiple = record { name = OfName 7; factor = Some (negsuc 2) }; divisor = negsuc 6 }))
    × (remainder_in (Set (Parameter true 0) (joined Modulo (parameter 1) (Number (pos 7))))
    ≡ Some (record { target = OfParameter 0; multiple = record { name = OfParameter 1; factor = None }; divisor = pos 7 })))
remainders = (refl, (refl, refl, refl))

-- 0 as a factor or a divisor, a quotient, a product alone, a boxed name, and a boxed parameter
pub no_remainders : (remainder_in (assigned 7 (joined Modulo (joined Times (name 7) (Number (pos 0))) (Number (pos 7)))) ≡ None)
    × ((remainder_in (assigned 7 (joined Modulo (name 7) (Number (pos 0)))) ≡ None)
    × ((remainder_in (assigned 7 (joined Over (name 7) (Number (pos 7)))) ≡ None)
    × ((remainder_in (assigned 7 (joined Times (name 7) (Number (pos 3)))) ≡ None)
    × ((remainder_in (assigned 7 (joined Modulo (Get (Global false 5)) (Number (pos 7)))) ≡ None)
    × (remainder_in (Set (Parameter false 0) (joined Modulo (name 7) (Number (pos 7)))) ≡ None)))))
no_remainders = (refl, (refl, (refl, (refl, (refl, refl)))))

-- so far a product with 3 is in range, and with the greatest constant; the target is asked too, and each name once
pub multiplied_most : (most_multiplied (Some (pos 3)) ≡ 3002399751580330)
    × ((most_multiplied (Some (negsuc (2 ^ 53 - 1))) ≡ 1) × (most_multiplied None ≡ 2 ^ 53))
multiplied_most = (refl, (refl, refl))

pub remainder_asks : (remainder_names (record { target = OfName 7; multiple = record { name = OfName 7; factor = None }; divisor = pos 7 }) ≡ OfName 7 ∷ [])
    × (remainder_names (record { target = OfName 7; multiple = record { name = OfName 5; factor = Some (pos 3) }; divisor = pos 7 }) ≡ OfName 7 ∷ (OfName 5 ∷ []))
remainder_asks = (refl, refl)

-- NF has the number 5
pub counts : (counted_in (Compare LessOrEqual (name 7) (Do (Host GetSpecial) (Fixed 5 End))) ≡ Some (record { op = LessOrEqual; name = OfName 7 }))
    × ((counted_in (Compare LessOrEqual (name 7) (Do (Host GetSpecial) (Fixed 6 End))) ≡ None)
    × (counted_in (Compare LessOrEqual (Get (Global false 7)) (Do (Host GetSpecial) (Fixed 5 End))) ≡ None))
counts = (refl, (refl, refl))

-- the target is asked too, and each name once; a parameter is no name of the same number
pub asked_once : (sum_names (record { target = OfName 7; op = Plus; left = Held (OfName 7); right = Held (OfName 7) }) ≡ OfName 7 ∷ [])
    × ((sum_names (record { target = OfName 7; op = Plus; left = Held (OfName 5); right = Constant (pos 1) }) ≡ OfName 7 ∷ (OfName 5 ∷ []))
    × (sum_names (record { target = OfName 7; op = Plus; left = Held (OfParameter 7); right = Held (OfParameter 7) }) ≡ OfName 7 ∷ (OfParameter 7 ∷ [])))
asked_once = (refl, (refl, refl))

-- `n < 5` is sure from -2^53 to 4, `n <= 5` to 5; none is below -2^53; of other comparisons the bounds are not told
pub within_bounds : (test_within (Compare Less (name 7) (Number (pos 5))) ≡ Some (record { name = OfName 7; shift = pos (2 ^ 53); width = 2 ^ 53 + 4 }))
    × ((test_within (Compare LessOrEqual (name 7) (Number (pos 5))) ≡ Some (record { name = OfName 7; shift = pos (2 ^ 53); width = 2 ^ 53 + 5 }))
    × ((test_within (Compare Less (name 7) (Number (negsuc (2 ^ 53 - 1)))) ≡ None)
    × (test_within (Compare Equal (name 7) (Number (pos 5))) ≡ None)))
within_bounds = (refl, (refl, (refl, refl)))

pub pairs : (pair_in (Compare Equal (name 7) (Number (pos 5))) ≡ Some (record { op = Equal; left = Held (OfName 7); right = Constant (pos 5) }))
    × ((pair_in (Compare Less (name 5) (parameter 7)) ≡ Some (record { op = Less; left = Held (OfName 5); right = Held (OfParameter 7) }))
    × (pair_in (Compare Less (Get (Global false 5)) (name 7)) ≡ None))
pairs = (refl, (refl, refl))

-- `break` and `continue` of an inner loop leave that loop alone
abbrev inner : Step → Step
inner s = Loop true (name 7) s (Block NoStep)

pub jumps : (step_jumps (If (name 7) (Block NoStep) (Block (Then Continue NoStep))) ≡ true)
    × ((step_jumps (Block (Then (Eval (name 7)) (Then Break NoStep))) ≡ true)
    × ((step_jumps (inner Continue) ≡ false)
    × (step_jumps (Each (Numbered 0) (name 7) Break) ≡ false)))
jumps = (refl, (refl, (refl, refl)))

pub nothing_between : (is_nothing (Block NoStep) ≡ true) × (is_nothing (Block (Then (Block NoStep) NoStep)) ≡ false)
nothing_between = (refl, refl)
