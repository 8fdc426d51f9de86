-- Well-sorted mid code whose function has few locals has small constants.
use Rattle.std.proofs.Common.{◌≡◌, ◌≤◌, ◌<◌, ◌^◌, ℕ, zero, suc, Bool, true, false, not, List, [], ◌∷◌, length, Option, None, Some, refl, arith}
use Rattle.std.specs.Prelude.{◌&&◌, is_some, nat_lt, slice_get, unsigned_abs}
use Rattle.std.proofs.lemmas.Bool.{and_parts, leb-true}
use Rattle.std.proofs.lemmas.Option.{slice_get_within}
use Rattle.sem_primitives.specs.Constants.{comparisons, destinations, fault_at, faults, flags, kinds, specials}
use Rattle.sem_primitives.specs.Table.{arguments_of}
use Rattle.sem_primitives.specs.declared.sorts.Argument.{Argument}
use Rattle.sem_primitives.specs.declared.sorts.Argument.TheVariants as argument
use Rattle.sem_primitives.specs.declared.sorts.Constant.{Constant}
use Rattle.sem_primitives.specs.declared.sorts.Constant.TheVariants as constant
use Rattle.sem_primitives.specs.declared.sorts.Sort.TheVariants as sort
use Rattle.sem_primitives.specs.declared.table.Primitive.{Primitive}
use Rattle.sem_primitives.specs.declared.table.Primitive.TheVariants as row
use Rattle.mid_program.specs.declared.mid.Operation.{Operation}
use Rattle.mid_program.specs.declared.mid.Operation.TheVariants.{Host, Inline, AsNumber, FieldNumber}
use Rattle.mid_program.specs.MidMeaning.{three_values}
use Rattle.mid_program.specs.Mid.{Kind, Boxed, Unboxed, ArrayKind, Code, Do, Over, Compare, Call, Ask, AskLine, FileLine, Replace, Number, Text, Unset, Get, Set, Array, IsOpen, Choose, Seq, Let, Bound, Codes, End, At, Fixed, Fresh, Step, Eval, Block, If, Loop, Each, Break, Continue, Next, Exit, ExitWith, Return, Mark, Steps, NoStep, Then, Form, a_value, arguments, form_of, parameters_at, source_of}
use Rattle.mid_program.specs.Sorted.{Context, all_sorted, all_values, are_enough, are_missing, count_of, fit_call, fit_row, fits, has_lender, is_array_place, is_chosen, is_constant, is_done_here, is_dropped, is_given, is_kept, is_slot, is_tested, keeps_well, lender_at, sorted, step_sorted, steps_sorted, stores_well, takes, test_sorted}
use Rattle.lower_model.specs.Places.{room, rooms, step_room, steps_room}
use Rattle.agreement.proofs.SizesLemmas.Small.{AllSmall, Small, SmallStep, SmallSteps}

-- ---- rows

-- no row of an operation has a count, which any number is
abbrev counts_nothing : List Argument → Bool
counts_nothing [] = true
counts_nothing (argument.Constant constant.Count ∷ rest) = false
counts_nothing (a ∷ rest) = counts_nothing rest

primitive_counts : (p : Primitive) → counts_nothing (arguments_of p) ≡ true
primitive_counts row.Num = refl
primitive_counts row.Lit = refl
primitive_counts row.Uninit = refl
primitive_counts row.Dup = refl
primitive_counts row.ToNum = refl
primitive_counts row.IntOf = refl
primitive_counts row.Truth = refl
primitive_counts row.Compare = refl
primitive_counts row.Concat = refl
primitive_counts row.Pow = refl
primitive_counts row.Fail = refl
primitive_counts row.GetSpecial = refl
primitive_counts row.SetSpecial = refl
primitive_counts row.Field = refl
primitive_counts row.SetField = refl
primitive_counts row.NewArray = refl
primitive_counts row.Elem = refl
primitive_counts row.SetElem = refl
primitive_counts row.Has = refl
primitive_counts row.Delete = refl
primitive_counts row.Join = refl
primitive_counts row.Iter = refl
primitive_counts row.IterNext = refl
primitive_counts row.Length = refl
primitive_counts row.Matches = refl
primitive_counts row.Match = refl
primitive_counts row.Sub = refl
primitive_counts row.SubResult = refl
primitive_counts row.Split = refl
primitive_counts row.Substr = refl
primitive_counts row.SubstrFrom = refl
primitive_counts row.Index = refl
primitive_counts row.Lower = refl
primitive_counts row.Upper = refl
primitive_counts row.NextMain = refl
primitive_counts row.Getline = refl
primitive_counts row.GetlineVar = refl
primitive_counts row.GetlineFile = refl
primitive_counts row.GetlineVarFile = refl
primitive_counts row.Line = refl
primitive_counts row.Declare = refl
primitive_counts row.StartAssign = refl
primitive_counts row.PendingName = refl
primitive_counts row.PendingValue = refl
primitive_counts row.BeginEnd = refl
primitive_counts row.Close = refl
primitive_counts row.NextFile = refl
primitive_counts row.Clear = refl
primitive_counts row.Flush = refl

operation_counts : (o : Operation) → counts_nothing (arguments o) ≡ true
operation_counts (Host p) = primitive_counts p
operation_counts (Inline a) = refl
operation_counts AsNumber = refl
operation_counts FieldNumber = refl

listed : {A : Type 0} (xs : List A) (n : ℕ) → is_some (slice_get xs n) ≡ true → length xs ≤ 100 → n < 2 ^ 32
listed xs n h few = by (slice_get xs n) refl h
  where
    by : (o : _) → slice_get xs n ≡ o → is_some o ≡ true → n < 2 ^ 32
    by (Some x) e k = let l = slice_get_within xs n x e in omega (arith, l, few)
    by None e k = absurd cc

faulty : (n : ℕ) → is_some (fault_at n) ≡ true → n < 2 ^ 32
faulty zero h = absurd cc
faulty (suc n) h = by (slice_get faults n) refl h
  where
    by : (o : _) → slice_get faults n ≡ o → is_some o ≡ true → suc n < 2 ^ 32
    by (Some x) e k = let l = slice_get_within faults n x e in omega (arith, l)
    by None e k = absurd cc

constant_small : (c : Constant) (rest : List Argument) (n : ℕ) → is_constant c n ≡ true → counts_nothing (argument.Constant c ∷ rest) ≡ true → n < 2 ^ 32
constant_small constant.Comparison rest n h k = listed comparisons n h (omega arith)
constant_small constant.Special rest n h k = listed specials n h (omega arith)
constant_small constant.Flag rest n h k = listed flags n h (omega arith)
constant_small constant.Fault rest n h k = faulty n h
constant_small constant.Destination rest n h k = listed destinations n h (omega arith)
constant_small constant.NameKind rest n h k = listed kinds n h (omega arith)
constant_small constant.Count rest n h k = absurd cc

counts_on : (a : Argument) (rest : List Argument) → counts_nothing (a ∷ rest) ≡ true → counts_nothing rest ≡ true
counts_on (argument.Of s) rest h = h
counts_on (argument.Constant constant.Comparison) rest h = h
counts_on (argument.Constant constant.Special) rest h = h
counts_on (argument.Constant constant.Flag) rest h = h
counts_on (argument.Constant constant.Fault) rest h = h
counts_on (argument.Constant constant.Destination) rest h = h
counts_on (argument.Constant constant.NameKind) rest h = h
counts_on (argument.Constant constant.Count) rest h = absurd cc
counts_on argument.Place rest h = h

-- the constants among operands
abbrev FixedSmall : Codes → Type 0
FixedSmall End = Unit {0}
FixedSmall (At e es) = FixedSmall es
FixedSmall (Fixed n es) = (n < 2 ^ 32) × FixedSmall es
FixedSmall (Fresh es) = FixedSmall es

row_fixed : (fs : List Form) (given : List Argument) (es : Codes) → fit_row fs given es ≡ true → counts_nothing given ≡ true → FixedSmall es
row_fixed fs [] End h k = tt
row_fixed fs [] (At e es) h k = absurd cc
row_fixed fs [] (Fixed n es) h k = absurd cc
row_fixed fs [] (Fresh es) h k = absurd cc
row_fixed fs (argument.Of s ∷ rest) End h k = absurd cc
row_fixed fs (argument.Of s ∷ rest) (At e es) h k = row_fixed fs rest es (and_parts (fits (form_of fs e) s) (fit_row fs rest es) h).1 k
row_fixed fs (argument.Of s ∷ rest) (Fixed n es) h k = absurd cc
row_fixed fs (argument.Of s ∷ rest) (Fresh es) h k = absurd cc
row_fixed fs (argument.Constant c ∷ rest) End h k = absurd cc
row_fixed fs (argument.Constant c ∷ rest) (At e es) h k = absurd cc
row_fixed fs (argument.Constant c ∷ rest) (Fixed n es) h k =
    let both = and_parts (is_constant c n) (fit_row fs rest es) h in
    (constant_small c rest n both.0 k, row_fixed fs rest es both.1 (counts_on (argument.Constant c) rest k))
row_fixed fs (argument.Constant c ∷ rest) (Fresh es) h k = absurd cc
row_fixed fs (argument.Place ∷ rest) es h k = absurd cc

values_fixed : (fs : List Form) (es : Codes) → all_values fs es ≡ true → FixedSmall es
values_fixed fs End h = tt
values_fixed fs (At e es) h = values_fixed fs es (and_parts (fits (form_of fs e) sort.Value) (all_values fs es) h).1
values_fixed fs (Fixed n es) h = absurd cc
values_fixed fs (Fresh es) h = absurd cc

call_fixed : (lender : ℕ → Option ℕ) (fs : List Form) (ks : List Kind) (es : Codes) → fit_call lender fs ks es ≡ true → FixedSmall es
call_fixed lender fs [] End h = tt
call_fixed lender fs [] (At e es) h = absurd cc
call_fixed lender fs [] (Fixed n es) h = absurd cc
call_fixed lender fs [] (Fresh es) h = absurd cc
call_fixed lender fs (k ∷ ks) (At e es) h =
    let next : ℕ → Option ℕ = λ i. lender (suc i) in
    call_fixed next fs ks es (and_parts (is_given (lender zero) (source_of e) (form_of fs e) k) (fit_call next fs ks es) h).1
call_fixed lender fs (ArrayKind ∷ ks) (Fresh es) h = call_fixed (λ i. lender (suc i)) fs ks es h
call_fixed lender fs (Boxed ∷ ks) (Fresh es) h = absurd cc
call_fixed lender fs (Unboxed ∷ ks) (Fresh es) h = absurd cc
call_fixed lender fs (Boxed ∷ ks) (Fixed n es) h = absurd cc
call_fixed lender fs (Unboxed ∷ ks) (Fixed n es) h = absurd cc
call_fixed lender fs (ArrayKind ∷ ks) (Fixed n es) h = absurd cc
call_fixed lender fs (Boxed ∷ ks) End h = absurd cc
call_fixed lender fs (Unboxed ∷ ks) End h = absurd cc
call_fixed lender fs (ArrayKind ∷ ks) End h = absurd cc

-- ---- room

operands_room : (o : Operation) (es : Codes) → rooms es ≤ room (Do o es)
operands_room (Inline a) es = omega arith
operands_room o es = omega arith

count_room : (es : Codes) → count_of es ≤ rooms es
count_room End = omega arith
count_room (At e es) = let h = count_room es in omega (arith, h)
count_room (Fixed n es) = count_room es
count_room (Fresh es) = count_room es

-- ---- code

module _ (c : Context) where
  mutual
    unfolding sorted all_sorted

    code_small : (fs : List Form) (e : Code) → sorted c fs e ≡ true → room e ≤ 50000 → Small e
    code_small fs (Do o es) s h =
        let s1 = and_parts (is_done_here o) (fit_row fs (arguments o) es && all_sorted c fs es) s in
        let s2 = and_parts (fit_row fs (arguments o) es) (all_sorted c fs es) s1.1 in
        let r = operands_room o es in
        codes_small fs es s2.1 (row_fixed fs (arguments o) es s2.0 (operation_counts o)) (omega (arith, r, h))
    code_small fs (Over l es) s h =
        let s1 = and_parts (are_enough l es) (all_values fs es && all_sorted c fs es) s in
        let s2 = and_parts (all_values fs es) (all_sorted c fs es) s1.1 in
        let r = count_room es in
        (omega (arith, r, h), codes_small fs es s2.1 (values_fixed fs es s2.0) (omega (arith, h)))
    code_small fs (Compare op a b) s h =
        let s1 = and_parts (fits (form_of fs a) sort.Value) (fits (form_of fs b) sort.Value && (sorted c fs a && sorted c fs b)) s in
        let s2 = and_parts (fits (form_of fs b) sort.Value) (sorted c fs a && sorted c fs b) s1.1 in
        let s3 = and_parts (sorted c fs a) (sorted c fs b) s2.1 in
        (code_small fs a s3.0 (omega (arith, h)), code_small fs b s3.1 (omega (arith, h)))
    code_small fs (Call f es) s h =
        let lender = lender_at c.lenders in
        let s1 = and_parts (nat_lt f (length c.calls)) (fit_call lender fs (parameters_at c.calls f) es && all_sorted c fs es) s in
        let s2 = and_parts (fit_call lender fs (parameters_at c.calls f) es) (all_sorted c fs es) s1.1 in
        codes_small fs es s2.1 (call_fixed lender fs (parameters_at c.calls f) es s2.0) (omega (arith, h))
    code_small fs Ask s h = tt
    code_small fs (AskLine e) s h =
        let s1 = and_parts (not (has_lender c.lenders)) (stores_well fs e && sorted c (a_value ∷ fs) e) s in
        code_small (a_value ∷ fs) e (and_parts (stores_well fs e) (sorted c (a_value ∷ fs) e) s1.1).1 (omega (arith, h))
    code_small fs (FileLine f e) s h =
        let s1 = and_parts (fits (form_of fs f) sort.Value) (sorted c fs f && (stores_well fs e && sorted c (a_value ∷ fs) e)) s in
        let s2 = and_parts (sorted c fs f) (stores_well fs e && sorted c (a_value ∷ fs) e) s1.1 in
        let s3 = and_parts (stores_well fs e) (sorted c (a_value ∷ fs) e) s2.1 in
        (code_small fs f s2.0 (omega (arith, h)), code_small (a_value ∷ fs) e s3.1 (omega (arith, h)))
    code_small fs (Replace all es e) s h =
        let s1 = and_parts (fit_row fs three_values es) (all_sorted c fs es && (stores_well fs e && sorted c (a_value ∷ fs) e)) s in
        let s2 = and_parts (all_sorted c fs es) (stores_well fs e && sorted c (a_value ∷ fs) e) s1.1 in
        let s3 = and_parts (stores_well fs e) (sorted c (a_value ∷ fs) e) s2.1 in
        (codes_small fs es s2.0 (row_fixed fs three_values es s1.0 refl) (omega (arith, h)), code_small (a_value ∷ fs) e s3.1 (omega (arith, h)))
    code_small fs (Number z) s h = leb-true (unsigned_abs z) (2 ^ 53) s
    code_small fs (Text i) s h = tt
    code_small fs Unset s h = tt
    code_small fs (Get x) s h = tt
    code_small fs (Set x e) s h =
        let s1 = and_parts (is_slot c x) (takes c x (source_of e) (form_of fs e) && sorted c fs e) s in
        code_small fs e (and_parts (takes c x (source_of e) (form_of fs e)) (sorted c fs e) s1.1).1 h
    code_small fs (Array a) s h = tt
    code_small fs (IsOpen i) s h = tt
    code_small fs (Choose q e a b) s h =
        let s1 = and_parts (is_chosen q)
        (is_tested (form_of fs e) && (fits (form_of fs a) q && (fits (form_of fs b) q && (sorted c fs e && (sorted c fs a && sorted c fs b))))) s in
        let s2 = and_parts (is_tested (form_of fs e))
        (fits (form_of fs a) q && (fits (form_of fs b) q && (sorted c fs e && (sorted c fs a && sorted c fs b)))) s1.1 in
        let s3 = and_parts (fits (form_of fs a) q) (fits (form_of fs b) q && (sorted c fs e && (sorted c fs a && sorted c fs b))) s2.1 in
        let s4 = and_parts (fits (form_of fs b) q) (sorted c fs e && (sorted c fs a && sorted c fs b)) s3.1 in
        let s5 = and_parts (sorted c fs e) (sorted c fs a && sorted c fs b) s4.1 in
        let s6 = and_parts (sorted c fs a) (sorted c fs b) s5.1 in
        (code_small fs e s5.0 (omega (arith, h)), (code_small fs a s6.0 (omega (arith, h)), code_small fs b s6.1 (omega (arith, h))))
    code_small fs (Seq a b) s h =
        let s1 = and_parts (is_dropped (form_of fs a)) (sorted c fs a && sorted c fs b) s in
        let s2 = and_parts (sorted c fs a) (sorted c fs b) s1.1 in
        (code_small fs a s2.0 (omega (arith, h)), code_small fs b s2.1 (omega (arith, h)))
    code_small fs (Let a b) s h =
        let s1 = and_parts (is_kept (form_of fs a)) (keeps_well b && (sorted c fs a && sorted c (form_of fs a ∷ fs) b)) s in
        let s2 = and_parts (keeps_well b) (sorted c fs a && sorted c (form_of fs a ∷ fs) b) s1.1 in
        let s3 = and_parts (sorted c fs a) (sorted c (form_of fs a ∷ fs) b) s2.1 in
        (code_small fs a s3.0 (omega (arith, h)), code_small (form_of fs a ∷ fs) b s3.1 (omega (arith, h)))
    code_small fs (Bound m i) s h = tt

    codes_small : (fs : List Form) (es : Codes) → all_sorted c fs es ≡ true → FixedSmall es → rooms es ≤ 50000 → AllSmall es
    codes_small fs End s f h = tt
    codes_small fs (At e es) s f h =
        let s1 = and_parts (sorted c fs e) (all_sorted c fs es) s in
        (code_small fs e s1.0 (omega (arith, h)), codes_small fs es s1.1 f (omega (arith, h)))
    codes_small fs (Fixed n es) s f h = (f.0, codes_small fs es s f.1 h)
    codes_small fs (Fresh es) s f h = codes_small fs es (and_parts (are_missing es) (all_sorted c fs es) s).1 f h

  tested_small : (e : Code) → test_sorted c e ≡ true → room e ≤ 50000 → Small e
  tested_small e s h = code_small [] e (and_parts (is_tested (form_of [] e)) (sorted c [] e) s).1 h

  mutual
    unfolding step_sorted steps_sorted

    step_small : (r l : Bool) (s : Step) → step_sorted c r l s ≡ true → step_room s ≤ 50000 → SmallStep s
    step_small r l (Eval e) s h = code_small [] e (and_parts (is_dropped (form_of [] e)) (sorted c [] e) s).1 h
    step_small r l (Block ss) s h = steps_small r l ss s h
    step_small r l (If e a b) s h =
        let s1 = and_parts (test_sorted c e) (step_sorted c r l a && step_sorted c r l b) s in
        let s2 = and_parts (step_sorted c r l a) (step_sorted c r l b) s1.1 in
        (tested_small e s1.0 (omega (arith, h)), (step_small r l a s2.0 (omega (arith, h)), step_small r l b s2.1 (omega (arith, h))))
    step_small r l (Loop first e a b) s h =
        let s1 = and_parts (test_sorted c e) (step_sorted c r true a && step_sorted c r false b) s in
        let s2 = and_parts (step_sorted c r true a) (step_sorted c r false b) s1.1 in
        (tested_small e s1.0 (omega (arith, h)), (step_small r true a s2.0 (omega (arith, h)), step_small r false b s2.1 (omega (arith, h))))
    step_small r l (Each a e t) s h =
        let s1 = and_parts (is_array_place c a) (stores_well [] e && (sorted c (a_value ∷ []) e && step_sorted c r true t)) s in
        let s2 = and_parts (stores_well [] e) (sorted c (a_value ∷ []) e && step_sorted c r true t) s1.1 in
        let s3 = and_parts (sorted c (a_value ∷ []) e) (step_sorted c r true t) s2.1 in
        (code_small (a_value ∷ []) e s3.0 (omega (arith, h)), step_small r true t s3.1 (omega (arith, h)))
    step_small r l Break s h = tt
    step_small r l Continue s h = tt
    step_small r l Next s h = tt
    step_small r l Exit s h = tt
    step_small r l (ExitWith e) s h = code_small [] e (and_parts (fits (form_of [] e) sort.Number) (sorted c [] e) s).1 h
    step_small r l (Return e) s h =
        let s1 = and_parts r (fits (form_of [] e) sort.Value && sorted c [] e) s in
        code_small [] e (and_parts (fits (form_of [] e) sort.Value) (sorted c [] e) s1.1).1 h
    step_small r l (Mark i b) s h = tt

    -- STEPS that are well sorted, with few temporaries
    pub steps_small : (r l : Bool) (ss : Steps) → steps_sorted c r l ss ≡ true → steps_room ss ≤ 50000 → SmallSteps ss
    steps_small r l NoStep s h = tt
    steps_small r l (Then t ss) s h =
        let s1 = and_parts (step_sorted c r l t) (steps_sorted c r l ss) s in
        (step_small r l t s1.0 (omega (arith, h)), steps_small r l ss s1.1 (omega (arith, h)))
