-- Counters in arrays: which code they are, what is known of well-sorted ones, and what they mean once the key and what is added are there.
use Rattle.std.proofs.Common.{◌≡◌, ℕ, zero, suc, ◌+◌, ◌≤◌, Bool, true, false, List, [], ◌∷◌, Option, Some, None, Result, Ok, Err, ℤ, refl, sym, ap, ap₂, ◌∙◌, subst, arith, if◌then◌else◌}
use Rattle.std.specs.Prelude.{◌&&◌}
use Rattle.std.proofs.lemmas.Bool.{and_parts, eqb-true}
use Rattle.awk_values.specs.declared.fault.Fault.{Fault}
use Rattle.awk_values.specs.declared.value.Value.{Value}
use Rattle.awk_values.specs.declared.value.Value.TheVariants as value
use Rattle.sem_primitives.specs.Numbers.{Number as AnyNumber, number_of, outcome_of}
use Rattle.sem_primitives.specs.ValueMeaning.{number_of_row}
use Rattle.sem_primitives.specs.declared.sorts.Answer.TheVariants as answer
use Rattle.sem_primitives.specs.declared.sorts.Sort.TheVariants as sort
use Rattle.sem_primitives.specs.declared.table.Primitive.TheVariants as row
use Rattle.mid_program.specs.declared.mid.Arithmetic.{Arithmetic}
use Rattle.mid_program.specs.declared.mid.Operation.TheVariants.{Host, Inline, AsNumber}
use Rattle.mid_program.specs.Mid.{Kind, Program, Form, PrimitiveAnswer, NumberOrText, Code, Do, Number, Array, Seq, Let, Bound, Codes, End, At, Eval, form_of, arguments}
use Rattle.mid_program.specs.MidMeaning.{Holds, boxed, converted, or_zero, evaluated, all_evaluated, stepped, then_row, arithmetic_of}
use Rattle.sem_scripts.specs.Names.{ArrayName, Numbered, Given}
use Rattle.sem_scripts.specs.ScriptState.{State, Outcome, Gives, Stops, Execution, give, go_on, settled, call}
use Rattle.mid_program.specs.Sorted.{Held as Standing, There, Moved, Misused, Context, context_of, sorted, all_sorted, held_after, is_well_used, used, is_kept, keeps_well, fit_row, is_bound as is_kept_bound, is_array_place, fits as fits_sort}
use Rattle.sem_scripts.specs.Statements.{Flow, Normal}
use Rattle.lower_model.specs.Machine.{Frame}
use Rattle.lower_model.specs.Places.{Bases, room, arrays_in}
use Rattle.lower_model.specs.Quick.{Tally, is_sum, is_bound, array_here, array_where, element_at, element_read, number_read, element_set, element_last, tally_of, tally_by, tally_sum, tally_first, first_sum, tally_after, tally_kept, tally_in}
use Rattle.lower_model.proofs.Observer.{Observer}
use Rattle.lower_model.proofs.QuickNames.{some_is}
use Rattle.lower_model.proofs.Relation.{array_at}
use Rattle.lower_model.proofs.Simulation.{work_of, meant}
use Rattle.lower_model.proofs.StatementForms.{plain_meant}

-- the element of a key that was kept with i others after it
abbrev pub element_code : ArrayName → ℕ → Code
element_code a i = Do (Host row.Elem) (At (Array a) (At (Bound false i) End))

-- it takes what was kept last
abbrev pub set_code : ArrayName → (moves : Bool) → ℕ → Code
set_code a m i = Do (Host row.SetElem) (At (Array a) (At (Bound true i) (At (Bound m zero) End)))

-- `a[k] += e`, `a[k]++` and `++a[k]`
pub data Shape : Type 0 where
  Updating : Shape
  Following : Shape
  Leading : Shape

-- what comes after the key
abbrev pub body_code : Shape → (a w : ArrayName) → Arithmetic → Code → Code
body_code Updating a w o e = Let e (Let (Do (Inline o) (At (element_code a 1) (At (Bound true zero) End))) (Seq (set_code w false 2) (Bound true zero)))
body_code Following a w o e = Let (Do AsNumber (At (element_code a zero) End)) (Let (Do (Inline o) (At (Bound false zero) (At e End))) (Seq (set_code w true 2) (Bound true 1)))
body_code Leading a w o e = Let (Do (Inline o) (At (element_code a zero) (At e End))) (Seq (set_code w false 1) (Bound true zero))

abbrev pub tally_code : Shape → Tally → Code
tally_code s q = Let q.key (body_code s q.read q.written q.op q.added)

-- what is added is a constant where it is not kept
abbrev pub IsAdded : Shape → Code → Type 0
IsAdded Updating e = Unit {0}
IsAdded Following e = (z : ℤ) × (e ≡ Number z)
IsAdded Leading e = (z : ℤ) × (e ≡ Number z)

pub record TallyIs (e : Code) (q : Tally) : Type 0 where
  pub shape : Shape
  pub code : e ≡ tally_code shape q
  pub added : IsAdded shape q.added
  pub sum : is_sum q.op ≡ true

-- Parts of it.

pub bound_is : (m : Bool) (i : ℕ) (e : Code) → is_bound m i e ≡ true → e ≡ Bound m i
bound_is true i (Bound true j) h = ap (Bound true) (eqb-true j i h)
bound_is false i (Bound false j) h = ap (Bound false) (eqb-true j i h)
bound_is m i e h = cc

array_is : (x : Code) (a : ArrayName) → array_here x ≡ Some a → x ≡ Array a
array_is (Array c) a h = ap Array (some_is c a h)
array_is x a h = cc

where_is : (t : Bool) (o : Option ArrayName) (a : ArrayName) → array_where t o ≡ Some a → (t ≡ true) × (o ≡ Some a)
where_is true o a h = (refl, h)
where_is false o a h = cc

at_is : (i : ℕ) (es : Codes) (a : ArrayName) → element_at i es ≡ Some a → Do (Host row.Elem) es ≡ element_code a i
at_is i (At x (At k End)) a h =
    let w = where_is (is_bound false i k) (array_here x) a h in
    ap₂ (λ y z. Do (Host row.Elem) (At y (At z End))) (array_is x a w.1) (bound_is false i k w.0)
at_is i es a h = cc

element_is : (i : ℕ) (y : Code) (a : ArrayName) → element_read i y ≡ Some a → y ≡ element_code a i
element_is i (Do (Host row.Elem) es) a h = at_is i es a h
element_is i y a h = cc

number_is : (x : Code) (a : ArrayName) → number_read x ≡ Some a → x ≡ Do AsNumber (At (element_code a zero) End)
number_is (Do AsNumber (At y End)) a h = ap (λ z. Do AsNumber (At z End)) (element_is zero y a h)
number_is x a h = cc

set_is : (m : Bool) (i : ℕ) (s : Code) (a : ArrayName) → element_set m i s ≡ Some a → s ≡ set_code a m i
set_is m i (Do (Host row.SetElem) (At x (At k (At v End)))) a h =
    let w = where_is (is_bound true i k && is_bound m zero v) (array_here x) a h in
    let g = and_parts (is_bound true i k) (is_bound m zero v) w.0 in
    ap₂ (λ y z. Do (Host row.SetElem) (At y z)) (array_is x a w.1) (ap₂ (λ y z. At y (At z End)) (bound_is true i k g.0) (bound_is m zero v g.1))
set_is m i s a h = cc

last_is : (m : Bool) (i j : ℕ) (c : Code) (a : ArrayName) → element_last m i j c ≡ Some a → c ≡ Seq (set_code a m i) (Bound true j)
last_is m i j (Seq s e) a h = let w = where_is (is_bound true j e) (element_set m i s) a h in ap₂ (λ y z. Seq y z) (set_is m i s a w.1) (bound_is true j e w.0)
last_is m i j c a h = cc

record Found (o : Arithmetic) (k e : Code) (r w : Option ArrayName) (q : Tally) : Type 0 where
  read : r ≡ Some q.read
  written : w ≡ Some q.written
  key : k ≡ q.key
  op : o ≡ q.op
  added : e ≡ q.added
  sum : is_sum q.op ≡ true

of_is : (o : Arithmetic) (k e : Code) (r w : Option ArrayName) (q : Tally) → tally_of o k e r w ≡ Some q → Found o k e r w q
of_is o k e (Some a) (Some s) q h = by (is_sum o) refl h
  where
    by : (t : Bool) → is_sum o ≡ t → (if t then Some (record { read = a; written = s; key = k; op = o; added = e }) else None) ≡ Some q → Found o k e (Some a) (Some s) q
    by true e1 e2 =
        let z = some_is (record { read = a; written = s; key = k; op = o; added = e }) q e2 in
        record { read = ap (λ (y : Tally). Some y.read) z; written = ap (λ (y : Tally). Some y.written) z; key = ap (λ (y : Tally). y.key) z; op = ap (λ (y : Tally). y.op) z; added = ap (λ (y : Tally). y.added) z; sum = ap (λ (y : Tally). is_sum y.op) (sym z) ∙ e1 }
    by false e1 e2 = cc
of_is o k e r w q h = cc

by_is : (o : Arithmetic) (k x y z c : Code) (q : Tally) → tally_by o k x y z c ≡ Some q → TallyIs (Let k (Let x (Let (Do (Inline o) (At y (At z End))) c))) q
by_is o k x y (Bound true zero) c q h =
    let f = of_is o k x (element_read 1 y) (element_last false 2 zero c) q h in
    let e1 = element_is 1 y q.read f.read in
    let e2 = last_is false 2 zero c q.written f.written in
    record { shape = Updating; code = λ j. Let (f.key j) (Let (f.added j) (Let (Do (Inline (f.op j)) (At (e1 j) (At (Bound true zero) End))) (e2 j))); added = tt; sum = f.sum }
by_is o k x y (Number z) c q h =
    let f = of_is o k (Number z) (array_where (is_bound false zero y) (number_read x)) (element_last true 2 1 c) q h in
    let w = where_is (is_bound false zero y) (number_read x) q.read f.read in
    let e1 = number_is x q.read w.1 in
    let e2 = bound_is false zero y w.0 in
    let e3 = last_is true 2 1 c q.written f.written in
    record { shape = Following; code = λ j. Let (f.key j) (Let (e1 j) (Let (Do (Inline (f.op j)) (At (e2 j) (At (f.added j) End))) (e3 j))); added = (z, sym f.added); sum = f.sum }
by_is o k x y z c q h = cc

first_is : (o : Arithmetic) (k y z c : Code) (q : Tally) → tally_first o k y z c ≡ Some q → TallyIs (Let k (Let (Do (Inline o) (At y (At z End))) c)) q
first_is o k y (Number z) c q h =
    let f = of_is o k (Number z) (element_read zero y) (element_last false 1 zero c) q h in
    let e1 = element_is zero y q.read f.read in
    let e2 = last_is false 1 zero c q.written f.written in
    record { shape = Leading; code = λ j. Let (f.key j) (Let (Do (Inline (f.op j)) (At (e1 j) (At (f.added j) End))) (e2 j)); added = (z, sym f.added); sum = f.sum }
first_is o k y z c q h = cc

sum_is : (k x e c : Code) (q : Tally) → tally_sum k x e c ≡ Some q → TallyIs (Let k (Let x (Let e c))) q
sum_is k x (Do (Inline o) (At y (At z End))) c q h = by_is o k x y z c q h
sum_is k x e c q h = cc

first_sum_is : (k e c : Code) (q : Tally) → first_sum k e c ≡ Some q → TallyIs (Let k (Let e c)) q
first_sum_is k (Do (Inline o) (At y (At z End))) c q h = first_is o k y z c q h
first_sum_is k e c q h = cc

after_is : (k x c : Code) (q : Tally) → tally_after k x c ≡ Some q → TallyIs (Let k (Let x c)) q
after_is k x (Let e c) q h = sum_is k x e c q h
after_is k x c q h = first_sum_is k x c q h

kept_is : (k c : Code) (q : Tally) → tally_kept k c ≡ Some q → TallyIs (Let k c) q
kept_is k (Let x c) q h = after_is k x c q h
kept_is k c q h = cc

pub tally_is : (e : Code) (q : Tally) → tally_in e ≡ Some q → TallyIs e q
tally_is (Let k c) q h = kept_is k c q h
tally_is e q h = cc

-- Places and work are enough for the key, and for what is added.

pub record TallyRoom (e : Code) (q : Tally) : Type 0 where
  pub key : room q.key ≤ room e
  pub added : suc (room q.added) ≤ room e
  pub three : 3 ≤ room e
  pub key_arrays : arrays_in q.key ≤ arrays_in e
  pub added_arrays : arrays_in q.added ≤ arrays_in e
  pub work : work_of q.key + work_of q.added ≤ work_of e

pub tally_room : (s : Shape) (q : Tally) → TallyRoom (tally_code s q) q
tally_room Updating q = record { key = omega arith; added = omega arith; three = omega arith; key_arrays = omega arith; added_arrays = omega arith; work = omega arith }
tally_room Following q = record { key = omega arith; added = omega arith; three = omega arith; key_arrays = omega arith; added_arrays = omega arith; work = omega arith }
tally_room Leading q = record { key = omega arith; added = omega arith; three = omega arith; key_arrays = omega arith; added_arrays = omega arith; work = omega arith }

-- What is kept is a value, or what one is made of, and a number, or what one is made of.

pub kept_value : (g : Form) → is_kept g ≡ true → fits_sort g sort.Value ≡ true
kept_value (PrimitiveAnswer (answer.Of sort.Value)) e = refl
kept_value (PrimitiveAnswer (answer.Of sort.Number)) e = refl
kept_value (PrimitiveAnswer answer.Truth) e = refl
kept_value NumberOrText e = refl
kept_value g e = cc

kept_number : (g : Form) → is_kept g ≡ true → fits_sort g sort.Number ≡ true
kept_number (PrimitiveAnswer (answer.Of sort.Value)) e = refl
kept_number (PrimitiveAnswer (answer.Of sort.Number)) e = refl
kept_number (PrimitiveAnswer answer.Truth) e = refl
kept_number NumberOrText e = refl
kept_number g e = cc

-- what is used twice, and well, was there
still_there : (m : Standing) → is_well_used (used true (used false m)) ≡ true → m ≡ There
still_there There e = refl
still_there Moved e = cc
still_there Misused e = cc

module _ (p : Program) (ks : List Kind) where
  abbrev ctx : Context
  ctx = context_of p ks

  pub record TallyParts (a w : ArrayName) (k e : Code) : Type 0 where
    pub kept : is_kept (form_of [] k) ≡ true
    pub key : sorted ctx [] k ≡ true
    pub added : sorted ctx (form_of [] k ∷ []) e ≡ true
    pub numeric : fits_sort (form_of (form_of [] k ∷ []) e) sort.Number ≡ true
    pub still : held_after zero e There ≡ There
    pub reads : is_array_place ctx a ≡ true
    pub writes : is_array_place ctx w ≡ true

  update_sorted : (a w : ArrayName) (o : Arithmetic) (k e : Code) → sorted ctx [] (Let k (body_code Updating a w o e)) ≡ true → TallyParts a w k e
  unfolding sorted all_sorted
  update_sorted a w o k e so =
      let g = form_of [] k in
      let f = form_of (g ∷ []) e in
      let fs = f ∷ (g ∷ []) in
      let sum = At (element_code a 1) (At (Bound true zero) End) in
      let gs = form_of fs (Do (Inline o) sum) ∷ fs in
      let s1 = and_parts _ _ so in
      let s2 = and_parts _ _ s1.1 in
      let s3 = and_parts _ _ s2.1 in
      let t1 = and_parts _ _ s3.1 in
      let t2 = and_parts (keeps_well (Let (Do (Inline o) sum) (Seq (set_code w false 2) (Bound true zero)))) _ t1.1 in
      let t3 = and_parts _ _ t2.1 in
      let v = and_parts _ _ t3.1 in
      let r1 = and_parts (fit_row fs (arguments (Inline o)) sum) _ v.0 in
      let r2 = and_parts _ (is_kept_bound fs zero && true) r1.1 in
      let r3 = and_parts (fit_row fs (arguments (Host row.Elem)) (At (Array a) (At (Bound false 1) End))) _ r2.0 in
      let w1 = and_parts _ (is_kept_bound gs zero) v.1 in
      let w2 = and_parts (fit_row gs (arguments (Host row.SetElem)) (At (Array w) (At (Bound true 2) (At (Bound false zero) End)))) _ w1.0 in
      record { kept = s1.0; key = s3.0; added = t3.0; numeric = kept_number f t1.0; still = still_there (held_after zero e There) s2.0; reads = (and_parts _ (is_kept_bound fs 1 && true) r3.1).0; writes = (and_parts _ (is_kept_bound gs 2 && (is_kept_bound gs zero && true)) w2.1).0 }

  follow_sorted : (a w : ArrayName) (o : Arithmetic) (k : Code) (z : ℤ) → sorted ctx [] (Let k (body_code Following a w o (Number z))) ≡ true → TallyParts a w k (Number z)
  unfolding sorted all_sorted
  follow_sorted a w o k z so =
      let s1 = and_parts _ _ so in
      let s3 = and_parts _ _ s1.1 in
      let t = and_parts _ _ s3.1 in
      let r2 = and_parts _ _ t.0 in
      let r3 = and_parts _ _ r2.0 in
      let v = and_parts _ _ t.1 in
      let w1 = and_parts _ _ v.1 in
      let w2 = and_parts _ _ w1.0 in
      record { kept = s1.0; key = s3.0; added = (and_parts _ _ v.0).0; numeric = refl; still = refl; reads = (and_parts _ _ r3.1).0; writes = (and_parts _ _ w2.1).0 }

  lead_sorted : (a w : ArrayName) (o : Arithmetic) (k : Code) (z : ℤ) → sorted ctx [] (Let k (body_code Leading a w o (Number z))) ≡ true → TallyParts a w k (Number z)
  unfolding sorted all_sorted
  lead_sorted a w o k z so =
      let s1 = and_parts _ _ so in
      let s3 = and_parts _ _ s1.1 in
      let v = and_parts _ _ s3.1 in
      let r2 = and_parts _ _ v.0 in
      let r3 = and_parts _ _ r2.0 in
      let w1 = and_parts _ _ v.1 in
      let w2 = and_parts _ _ w1.0 in
      record { kept = s1.0; key = s3.0; added = (and_parts _ _ r2.1).0; numeric = refl; still = refl; reads = (and_parts _ _ r3.1).0; writes = (and_parts _ _ w2.1).0 }

  pub tally_sorted : (s : Shape) (q : Tally) → IsAdded s q.added → sorted ctx [] (tally_code s q) ≡ true → TallyParts q.read q.written q.key q.added
  tally_sorted Updating q i so = update_sorted q.read q.written q.op q.key q.added so
  tally_sorted Following q i so = subst (λ e. sorted ctx [] (Let q.key (body_code Following q.read q.written q.op e)) ≡ true → TallyParts q.read q.written q.key e) (sym i.1) (follow_sorted q.read q.written q.op q.key i.0) so
  tally_sorted Leading q i so = subst (λ e. sorted ctx [] (Let q.key (body_code Leading q.read q.written q.op e)) ≡ true → TallyParts q.read q.written q.key e) (sym i.1) (lead_sorted q.read q.written q.op q.key i.0) so

-- What becomes of the key's value and of what is added.

-- the element takes the sum
abbrev pub given_to : ArrayName → Value → AnyNumber → State → Outcome (Unit {0})
given_to w v s τ = call row.SetElem (array_at w τ, (v, (value.Num s.number, tt))) τ

-- its number is asked first, and then that of what is added
abbrev pub numbers_summed : (w : ArrayName) → Arithmetic → Value → Result AnyNumber Fault → Result AnyNumber Fault → State → Outcome (Unit {0})
numbers_summed w o v r1 r2 τ = go_on (settled r1 τ) (λ x τ1. go_on (settled r2 τ1) (λ y τ2. go_on (settled (outcome_of (arithmetic_of o x.number y.number)) τ2) (λ s. given_to w v s)))

abbrev pub tally_meant : (a w : ArrayName) → Arithmetic → Value → Result AnyNumber Fault → State → Outcome (Unit {0})
tally_meant a w o v r τ = go_on (call row.Elem (array_at a τ, (v, tt)) τ) (λ x τ1. numbers_summed w o v (number_of_row x) r τ1)

abbrev over : {A : Type 0} → Outcome A → Outcome Flow
over m = go_on m (λ x. give Normal)

over_on : {A B C : Type 0} → (m : Outcome A) (f : A → Execution B) (g : A → Execution C) → ((a : A) (τ : State) → over (f a τ) ≡ over (g a τ)) → over (go_on m f) ≡ over (go_on m g)
over_on (Gives a τ) f g h = h a τ
over_on (Stops why τ) f g h = refl

abbrev Two : Type 0
Two = AnyNumber × (AnyNumber × Unit {0})

abbrev answered_after : {A : Type 0} → ArrayName → Value → AnyNumber → A → State → Outcome A
answered_after w v s a τ = go_on (given_to w v s τ) (λ x. give a)

-- the row of two operands
abbrev row_summed : (w : ArrayName) → Arithmetic → Value → Result AnyNumber Fault → Result AnyNumber Fault → State → Outcome AnyNumber
row_summed w o v r1 r2 τ =
    go_on (go_on {A = Two} {B = AnyNumber} (settled (then_row {A = AnyNumber} {B = Two} r1 (λ x. then_row {A = AnyNumber × Unit {0}} {B = Two} (then_row {A = AnyNumber} {B = AnyNumber × Unit {0}} r2 (λ z. Ok (z, tt))) (λ zs. Ok (x, zs)))) τ)
    (λ given. settled (outcome_of (arithmetic_of o given.0.number given.1.0.number)))) (λ s. answered_after w v s s)

-- the number before is the answer
abbrev old_summed : (w : ArrayName) → Arithmetic → Value → AnyNumber → Result AnyNumber Fault → State → Outcome AnyNumber
old_summed w o v y r τ =
    go_on (go_on {A = AnyNumber × Unit {0}} {B = AnyNumber} (settled (then_row {A = AnyNumber} {B = AnyNumber × Unit {0}} r (λ x. Ok (x, tt))) τ) (λ given. give given.0))
    (λ x τ1. go_on (settled (outcome_of (arithmetic_of o x.number y.number)) τ1) (λ s. answered_after w v s x))

row_is : (w : ArrayName) (o : Arithmetic) (v : Value) (r1 r2 : Result AnyNumber Fault) (τ : State) → over (row_summed w o v r1 r2 τ) ≡ over (numbers_summed w o v r1 r2 τ)
row_is w o v (Ok x) (Ok y) τ = by (outcome_of (arithmetic_of o x.number y.number))
  where
    by : (r : Result AnyNumber Fault) → over (go_on (settled r τ) (λ s. answered_after w v s s)) ≡ over (go_on (settled r τ) (λ s. given_to w v s))
    by (Ok s) = refl
    by (Err f) = refl
row_is w o v (Ok x) (Err f) τ = refl
row_is w o v (Err f) r2 τ = refl

old_is : (w : ArrayName) (o : Arithmetic) (v : Value) (y : AnyNumber) (r : Result AnyNumber Fault) (τ : State) → over (old_summed w o v y r τ) ≡ over (numbers_summed w o v r (Ok y) τ)
old_is w o v y (Ok x) τ = by (outcome_of (arithmetic_of o x.number y.number))
  where
    by : (r : Result AnyNumber Fault) → over (go_on (settled r τ) (λ s. answered_after w v s x)) ≡ over (go_on (settled r τ) (λ s. given_to w v s))
    by (Ok s) = refl
    by (Err f) = refl
old_is w o v y (Err f) τ = refl

module _ (p : Program) (deepest : Observer) (ks : List Kind) (F : List Frame) (b : Bases) (M n : ℕ) where
  module _ (o : Arithmetic) (g : Form) (x : Holds g) where
    update_row : (a w : ArrayName) (f : Form) (y : Holds f) (τ : State) →
        over (meant p deepest ks F b M n (f ∷ (g ∷ [])) (y, (x, tt)) (Let (Do (Inline o) (At (element_code a 1) (At (Bound true zero) End))) (Seq (set_code w false 2) (Bound true zero))) τ)
        ≡ over (go_on (call row.Elem (array_at a τ, (boxed g x, tt)) τ) (λ z τ1. row_summed w o (boxed g x) (number_of_row z) (converted f sort.Number y) τ1))
    unfolding evaluated all_evaluated
    update_row (Numbered i) (Numbered j) f y τ = refl
    update_row (Numbered i) (Given j) f y τ = refl
    update_row (Given i) (Numbered j) f y τ = refl
    update_row (Given i) (Given j) f y τ = refl

    lead_row : (a w : ArrayName) (z : ℤ) (τ : State) →
        over (meant p deepest ks F b M n (g ∷ []) (x, tt) (body_code Leading a w o (Number z)) τ)
        ≡ over (go_on (call row.Elem (array_at a τ, (boxed g x, tt)) τ) (λ y τ1. row_summed w o (boxed g x) (number_of_row y) (Ok (or_zero (number_of z))) τ1))
    unfolding evaluated all_evaluated
    lead_row (Numbered i) (Numbered j) z τ = refl
    lead_row (Numbered i) (Given j) z τ = refl
    lead_row (Given i) (Numbered j) z τ = refl
    lead_row (Given i) (Given j) z τ = refl

    follow_row : (a w : ArrayName) (z : ℤ) (τ : State) →
        over (meant p deepest ks F b M n (g ∷ []) (x, tt) (body_code Following a w o (Number z)) τ)
        ≡ over (go_on (call row.Elem (array_at a τ, (boxed g x, tt)) τ) (λ y τ1. old_summed w o (boxed g x) (or_zero (number_of z)) (number_of_row y) τ1))
    unfolding evaluated all_evaluated
    follow_row (Numbered i) (Numbered j) z τ = refl
    follow_row (Numbered i) (Given j) z τ = refl
    follow_row (Given i) (Numbered j) z τ = refl
    follow_row (Given i) (Given j) z τ = refl

    -- once the key is there
    abbrev pub body_meant : (a w : ArrayName) → Code → State → Outcome (Unit {0})
    body_meant a w e τ = go_on (meant p deepest ks F b M n (g ∷ []) (x, tt) e τ) (λ y τ1. tally_meant a w o (boxed g x) (converted (form_of (g ∷ []) e) sort.Number y) τ1)

    elements : {A : Type 0} → (a w : ArrayName) (r : Result AnyNumber Fault) (f : Value → Execution A) (τ : State) → ((z : Value) (τ1 : State) → over (f z τ1) ≡ over (numbers_summed w o (boxed g x) (number_of_row z) r τ1)) →
        over (go_on (call row.Elem (array_at a τ, (boxed g x, tt)) τ) f) ≡ over (tally_meant a w o (boxed g x) r τ)
    elements a w r f τ h = over_on (call row.Elem (array_at a τ, (boxed g x, tt)) τ) f (λ z τ1. numbers_summed w o (boxed g x) (number_of_row z) r τ1) h

    constant_means : (s : Shape) (a w : ArrayName) (z : ℤ) (τ : State) → over (tally_meant a w o (boxed g x) (Ok (or_zero (number_of z))) τ) ≡ over (body_meant a w (Number z) τ)
    unfolding evaluated all_evaluated
    constant_means s a w z τ = refl

    body_means : (s : Shape) (a w : ArrayName) (e : Code) → IsAdded s e → (τ : State) → over (meant p deepest ks F b M n (g ∷ []) (x, tt) (body_code s a w o e) τ) ≡ over (body_meant a w e τ)
    unfolding evaluated all_evaluated
    body_means Updating a w e i τ =
        over_on (meant p deepest ks F b M n (g ∷ []) (x, tt) e τ) _ (λ y τ1. tally_meant a w o (boxed g x) (converted (form_of (g ∷ []) e) sort.Number y) τ1)
        (λ y τ1. update_row a w (form_of (g ∷ []) e) y τ1
        ∙ elements a w (converted (form_of (g ∷ []) e) sort.Number y) (λ z τ2. row_summed w o (boxed g x) (number_of_row z) (converted (form_of (g ∷ []) e) sort.Number y) τ2) τ1 (λ z τ2. row_is w o (boxed g x) (number_of_row z) (converted (form_of (g ∷ []) e) sort.Number y) τ2))
    body_means Following a w e i τ =
        subst (λ c. over (meant p deepest ks F b M n (g ∷ []) (x, tt) (body_code Following a w o c) τ) ≡ over (body_meant a w c τ)) (sym i.1)
        (follow_row a w i.0 τ
        ∙ (elements a w (Ok (or_zero (number_of i.0))) (λ y τ1. old_summed w o (boxed g x) (or_zero (number_of i.0)) (number_of_row y) τ1) τ (λ z τ1. old_is w o (boxed g x) (or_zero (number_of i.0)) (number_of_row z) τ1)
        ∙ constant_means Following a w i.0 τ))
    body_means Leading a w e i τ =
        subst (λ c. over (meant p deepest ks F b M n (g ∷ []) (x, tt) (body_code Leading a w o c) τ) ≡ over (body_meant a w c τ)) (sym i.1)
        (lead_row a w i.0 τ
        ∙ (elements a w (Ok (or_zero (number_of i.0))) (λ y τ1. row_summed w o (boxed g x) (number_of_row y) (Ok (or_zero (number_of i.0))) τ1) τ (λ z τ1. row_is w o (boxed g x) (number_of_row z) (Ok (or_zero (number_of i.0))) τ1)
        ∙ constant_means Leading a w i.0 τ))

  pub tally_means : (s : Shape) (q : Tally) → IsAdded s q.added → (σ : State) →
      plain_meant p deepest ks F b M n (Eval (tally_code s q)) σ ≡ over (go_on (meant p deepest ks F b M n [] tt q.key σ) (λ x τ. body_meant q.op (form_of [] q.key) x q.read q.written q.added τ))
  unfolding stepped evaluated all_evaluated
  tally_means s q i σ =
      over_on (meant p deepest ks F b M n [] tt q.key σ) _ (λ x τ. body_meant q.op (form_of [] q.key) x q.read q.written q.added τ) (λ x τ. body_means q.op (form_of [] q.key) x s q.read q.written q.added i τ)
