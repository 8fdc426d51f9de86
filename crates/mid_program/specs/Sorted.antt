-- Which mid code is well sorted. Lowering speaks of such code alone; the meaning is total.
use Rattle.std.specs.Prelude.{ℕ, zero, suc, ◌^◌, T, Bool, true, false, not, ◌&&◌, ◌||◌, nat_eq, nat_le, nat_lt, if◌then◌else◌, List, [], ◌∷◌, ◌++◌, length, map, Option, Some, None, is_some, unsigned_abs}
use Rattle.awk_text.specs.Number.{largest}
use Rattle.sem_primitives.specs.Constants.{constant_at}
use Rattle.sem_primitives.specs.declared.sorts.Sort.{Sort}
use Rattle.sem_primitives.specs.declared.sorts.Sort.TheVariants as sort
use Rattle.sem_primitives.specs.declared.sorts.Constant.{Constant}
use Rattle.sem_primitives.specs.declared.sorts.Argument.{Argument}
use Rattle.sem_primitives.specs.declared.sorts.Argument.TheVariants as argument
use Rattle.sem_primitives.specs.declared.sorts.Answer.TheVariants as answer
use Rattle.sem_primitives.specs.InTurn.{values_wanted}
use Rattle.sem_primitives.specs.declared.table.Listed.{Listed}
use Rattle.sem_primitives.specs.declared.table.Primitive.{Primitive}
use Rattle.sem_primitives.specs.declared.table.Primitive.TheVariants.{IntOf, Concat, Pow, GetSpecial, SetSpecial, Field, SetField, Elem, SetElem, Has, Delete, Join, Length, Matches, Match, Split, Substr, SubstrFrom, Index, Lower, Upper, GetlineFile, Close, NextFile, Clear, Flush}
use Rattle.mid_program.specs.declared.mid.Operation.{Operation}
use Rattle.mid_program.specs.declared.mid.Operation.TheVariants.{Host}
use Rattle.sem_scripts.specs.Names.{ArrayName, Numbered, Given, same_name}
use Rattle.mid_program.specs.Mid.{Kind, Boxed, Unboxed, ArrayKind, Slot, Global, Parameter, Code, Do, Over, Compare, Call, Ask, AskLine, FileLine, Replace, Number, Text, Unset, Get, Set, Array, IsOpen, Choose, Seq, Let, Bound, Codes, End, At, Fixed, Fresh, Step, Eval, Block, If, Loop, Each, Break, Continue, Next, Exit, ExitWith, Return, Mark, Steps, NoStep, Then, Declared, Routine, Program, Form, PrimitiveAnswer, NumberOrText, OptionalNumber, a_value, form_of, source_of, arguments, parameters_at}

-- The primitives that are operations. The others stand behind codes of their own (`Ask`, `AskLine`, `FileLine`, `Replace`, `Compare`, `Text`,
-- `Unset`, `Each`, `Fresh`), behind conversions, or in the run of every script: so each read is followed by its line, and each array and iterator is
-- made where a call or a loop ends it.
abbrev pub is_operation : Primitive → Bool
is_operation IntOf = true
is_operation Concat = true
is_operation Pow = true
is_operation GetSpecial = true
is_operation SetSpecial = true
is_operation Field = true
is_operation SetField = true
is_operation Elem = true
is_operation SetElem = true
is_operation Has = true
is_operation Delete = true
is_operation Join = true
is_operation Length = true
is_operation Matches = true
is_operation Match = true
is_operation Split = true
is_operation Substr = true
is_operation SubstrFrom = true
is_operation Index = true
is_operation Lower = true
is_operation Upper = true
is_operation GetlineFile = true
is_operation Close = true
is_operation NextFile = true
is_operation Clear = true
is_operation Flush = true
is_operation p = false

abbrev pub is_done_here : Operation → Bool
is_done_here (Host p) = is_operation p
is_done_here o = true

-- What fits: a value, or what one is made of; a number, or what one is made of; an array.
abbrev pub fits : Form → Sort → Bool
fits (PrimitiveAnswer (answer.Of sort.Value)) sort.Value = true
fits (PrimitiveAnswer (answer.Of sort.Number)) sort.Value = true
fits (PrimitiveAnswer answer.Truth) sort.Value = true
fits NumberOrText sort.Value = true
fits OptionalNumber sort.Value = true
fits (PrimitiveAnswer (answer.Of sort.Value)) sort.Number = true
fits (PrimitiveAnswer (answer.Of sort.Number)) sort.Number = true
fits (PrimitiveAnswer answer.Truth) sort.Number = true
fits (PrimitiveAnswer answer.Input) sort.Number = true
fits (PrimitiveAnswer answer.Stream) sort.Number = true
fits NumberOrText sort.Number = true
fits (PrimitiveAnswer (answer.Of sort.Array)) sort.Array = true
fits _ _ = false

abbrev pub is_number : Form → Bool
is_number (PrimitiveAnswer (answer.Of sort.Number)) = true
is_number (PrimitiveAnswer answer.Truth) = true
is_number _ = false

-- whether its truth can be asked
abbrev pub is_tested : Form → Bool
is_tested (PrimitiveAnswer (answer.Of sort.Value)) = true
is_tested (PrimitiveAnswer (answer.Of sort.Number)) = true
is_tested (PrimitiveAnswer answer.Truth) = true
is_tested NumberOrText = true
is_tested _ = false

-- what is chosen between
abbrev pub is_chosen : Sort → Bool
is_chosen sort.Value = true
is_chosen sort.Number = true
is_chosen s = false

-- what is kept is a value, a number or a truth
abbrev pub is_kept : Form → Bool
is_kept f = is_tested f

-- what may be dropped: arrays and iterators are none of it
abbrev pub is_dropped : Form → Bool
is_dropped (PrimitiveAnswer (answer.Of sort.Array)) = false
is_dropped (PrimitiveAnswer (answer.Of sort.Iterator)) = false
is_dropped _ = true

-- What code may name.
pub record Context : Type 0 where
  pub texts : ℕ
  pub globals : List Kind
  -- of each global whether values that may be texts are copied to it
  pub mixed : List Bool
  pub arrays : ℕ
  pub ranges : ℕ
  pub calls : List (List Kind)
  pub parameters : List Kind
  -- by the places of parameters, what lends its value there
  pub lenders : List (Option ℕ)

abbrev pub same_kind : Kind → Kind → Bool
same_kind Boxed Boxed = true
same_kind Unboxed Unboxed = true
same_kind ArrayKind ArrayKind = true
same_kind _ _ = false

abbrev pub has_kind : List Kind → ℕ → Kind → Bool
has_kind [] i k = false
has_kind (j ∷ ks) zero k = same_kind j k
has_kind (j ∷ ks) (suc i) k = has_kind ks i k

abbrev pub scalar_kind : Bool → Kind
scalar_kind true = Unboxed
scalar_kind false = Boxed

-- what lends at a place, if anything does
abbrev pub lender_at : List (Option ℕ) → ℕ → Option ℕ
lender_at [] i = None
lender_at (o ∷ os) zero = o
lender_at (o ∷ os) (suc i) = lender_at os i

abbrev pub is_lender : ℕ → Option ℕ → Bool
is_lender g None = false
is_lender g (Some i) = nat_eq g i

-- whether a global lends its value at some place
abbrev pub lends : List (Option ℕ) → ℕ → Bool
lends [] g = false
lends (o ∷ os) g = is_lender g o || lends os g

-- whether any does
abbrev pub has_lender : List (Option ℕ) → Bool
has_lender [] = false
has_lender (o ∷ os) = is_some o || has_lender os

abbrev pub is_slot : Context → Slot → Bool
is_slot c (Global u i) = has_kind c.globals i (scalar_kind u)
is_slot c (Parameter u i) = has_kind c.parameters i (scalar_kind u)

abbrev pub is_mixed : List Bool → ℕ → Bool
is_mixed [] i = false
is_mixed (m ∷ ms) zero = m
is_mixed (m ∷ ms) (suc i) = is_mixed ms i

-- a copy of an unboxed name
abbrev pub is_bare : Option Slot → Bool
is_bare None = false
is_bare (Some (Global u i)) = u
is_bare (Some (Parameter u i)) = u

-- Into an unboxed name numbers alone are stored, and copies of others where it takes them: no conversion faults there. Nothing is stored into a global
-- that lends, nor into an unboxed parameter at a place where one lends.
abbrev pub takes : Context → Slot → Option Slot → Form → Bool
takes c (Global true i) o f = not (lends c.lenders i) && (is_number f || (is_mixed c.mixed i && is_bare o))
takes c (Global false i) o f = fits f sort.Value
takes c (Parameter true i) o f = not (is_some (lender_at c.lenders i)) && is_number f
takes c (Parameter false i) o f = fits f sort.Value

abbrev pub is_array_place : Context → ArrayName → Bool
is_array_place c (Numbered i) = nat_lt i c.arrays
is_array_place c (Given i) = has_kind c.parameters i ArrayKind

abbrev pub is_constant : Constant → ℕ → Bool
is_constant c n = is_some (constant_at c n)

abbrev pub fit_row : List Form → List Argument → Codes → Bool
fit_row fs [] End = true
fit_row fs (argument.Of s ∷ rest) (At e es) = fits (form_of fs e) s && fit_row fs rest es
fit_row fs (argument.Constant c ∷ rest) (Fixed n es) = is_constant c n && fit_row fs rest es
fit_row fs _ _ = false

abbrev pub all_values : List Form → Codes → Bool
all_values fs End = true
all_values fs (At e es) = fits (form_of fs e) sort.Value && all_values fs es
all_values fs (Fixed n es) = false
all_values fs (Fresh es) = false

abbrev pub count_of : Codes → ℕ
count_of End = 0
count_of (At e es) = suc (count_of es)
count_of (Fixed n es) = count_of es
count_of (Fresh es) = count_of es

-- as many values as the host wants
abbrev pub are_enough : Listed → Codes → Bool
are_enough l es = nat_le (values_wanted l) (count_of es)

-- a copy of the global that lends
abbrev pub is_copy_of : ℕ → Option Slot → Bool
is_copy_of g None = false
is_copy_of g (Some (Global u i)) = u && nat_eq g i
is_copy_of g (Some (Parameter u i)) = false

-- for an unboxed parameter: a number or nothing, or, where a global lends its value, a number or a copy of that
abbrev pub is_lent : Option ℕ → Option Slot → Form → Bool
is_lent None o OptionalNumber = true
is_lent None o f = is_number f
is_lent (Some g) o f = is_number f || is_copy_of g o

-- an argument for a parameter, by what lends at its place and of what it is a copy
abbrev pub is_given : Option ℕ → Option Slot → Form → Kind → Bool
is_given l o f Boxed = fits f sort.Value
is_given l o f Unboxed = is_lent l o f
is_given l o f ArrayKind = fits f sort.Array

abbrev pub fit_call : (lender : ℕ → Option ℕ) → List Form → List Kind → Codes → Bool
fit_call lender fs [] End = true
fit_call lender fs (k ∷ ks) (At e es) = is_given (lender zero) (source_of e) (form_of fs e) k && fit_call (λ i. lender (suc i)) fs ks es
fit_call lender fs (ArrayKind ∷ ks) (Fresh es) = fit_call (λ i. lender (suc i)) fs ks es
fit_call lender fs _ _ = false

-- What becomes of something that is kept, from left to right: it is there, it was moved (on some way), or it was used after it was moved.

pub data Held : Type 0 where
  There : Held
  Moved : Held
  Misused : Held

abbrev pub used : Bool → Held → Held
used true There = Moved
used false There = There
used m Moved = Misused
used m Misused = Misused

-- on one of two ways
abbrev pub either_way : Held → Held → Held
either_way There There = There
either_way Misused b = Misused
either_way a Misused = Misused
either_way a b = Moved

abbrev pub same_number : ℕ → ℕ → Bool
same_number zero zero = true
same_number (suc i) (suc j) = same_number i j
same_number _ _ = false

abbrev mutual
  pub held_after : ℕ → Code → Held → Held
  held_after i (Do o es) h = held_after_all i es h
  held_after i (Over l es) h = held_after_all i es h
  held_after i (Compare c a b) h = held_after i b (held_after i a h)
  held_after i (Call f es) h = held_after_all i es h
  held_after i Ask h = h
  held_after i (AskLine s) h = either_way h (held_after (suc i) s h)
  held_after i (FileLine e s) h = let g = held_after i e h in either_way g (held_after (suc i) s g)
  held_after i (Replace all es s) h = let g = held_after_all i es h in either_way g (held_after (suc i) s g)
  held_after i (Number z) h = h
  held_after i (Text t) h = h
  held_after i Unset h = h
  held_after i (Get x) h = h
  held_after i (Set x e) h = held_after i e h
  held_after i (Array a) h = h
  held_after i (IsOpen r) h = h
  held_after i (Choose s c a b) h = let g = held_after i c h in either_way (held_after i a g) (held_after i b g)
  held_after i (Seq a b) h = held_after i b (held_after i a h)
  held_after i (Let a b) h = held_after (suc i) b (held_after i a h)
  held_after i (Bound m j) h = if same_number i j then used m h else h

  pub held_after_all : ℕ → Codes → Held → Held
  held_after_all i End h = h
  held_after_all i (At e es) h = held_after_all i es (held_after i e h)
  held_after_all i (Fixed n es) h = held_after_all i es h
  held_after_all i (Fresh es) h = held_after_all i es h

abbrev pub is_well_used : Held → Bool
is_well_used There = true
is_well_used Moved = true
is_well_used Misused = false

abbrev pub keeps_well : Code → Bool
keeps_well e = is_well_used (held_after zero e There)

-- code that stores a value, which is kept
abbrev pub stores_well : List Form → Code → Bool
stores_well fs s = keeps_well s && is_dropped (form_of (a_value ∷ fs) s)

abbrev pub is_bound : List Form → ℕ → Bool
is_bound fs i = nat_lt i (length fs)

-- what stands for arguments that are missing: it calls nothing
abbrev pub are_missing : Codes → Bool
are_missing End = true
are_missing (At Unset es) = are_missing es
are_missing (At e es) = false
are_missing (Fixed n es) = false
are_missing (Fresh es) = are_missing es

-- Once an array is made for a call, nothing else is called before that call. Where globals lend, code does not read the main input, since the command line
-- may assign to them there.
module _ (c : Context) where
  unfoldable mutual
    pub sorted : List Form → Code → Bool
    sorted fs (Do o es) = is_done_here o && (fit_row fs (arguments o) es && all_sorted fs es)
    sorted fs (Over l es) = are_enough l es && (all_values fs es && all_sorted fs es)
    sorted fs (Compare op a b) = fits (form_of fs a) sort.Value && (fits (form_of fs b) sort.Value && (sorted fs a && sorted fs b))
    sorted fs (Call f es) = nat_lt f (length c.calls) && (fit_call (lender_at c.lenders) fs (parameters_at c.calls f) es && all_sorted fs es)
    sorted fs Ask = not (has_lender c.lenders)
    sorted fs (AskLine s) = not (has_lender c.lenders) && (stores_well fs s && sorted (a_value ∷ fs) s)
    sorted fs (FileLine e s) = fits (form_of fs e) sort.Value && (sorted fs e && (stores_well fs s && sorted (a_value ∷ fs) s))
    sorted fs (Replace all es s) = fit_row fs (argument.Of sort.Value ∷ argument.Of sort.Value ∷ argument.Of sort.Value ∷ []) es
        && (all_sorted fs es && (stores_well fs s && sorted (a_value ∷ fs) s))
    sorted fs (Number z) = nat_le (unsigned_abs z) largest
    sorted fs (Text i) = nat_lt i c.texts
    sorted fs Unset = true
    sorted fs (Get x) = is_slot c x
    sorted fs (Set x e) = is_slot c x && (takes c x (source_of e) (form_of fs e) && sorted fs e)
    sorted fs (Array a) = is_array_place c a
    sorted fs (IsOpen i) = nat_lt i c.ranges
    sorted fs (Choose s e a b) = is_chosen s && (is_tested (form_of fs e)
        && (fits (form_of fs a) s && (fits (form_of fs b) s && (sorted fs e && (sorted fs a && sorted fs b)))))
    sorted fs (Seq a b) = is_dropped (form_of fs a) && (sorted fs a && sorted fs b)
    sorted fs (Let a b) = is_kept (form_of fs a) && (keeps_well b && (sorted fs a && sorted (form_of fs a ∷ fs) b))
    sorted fs (Bound m i) = is_bound fs i

    pub all_sorted : List Form → Codes → Bool
    all_sorted fs End = true
    all_sorted fs (At e es) = sorted fs e && all_sorted fs es
    all_sorted fs (Fixed n es) = all_sorted fs es
    all_sorted fs (Fresh es) = are_missing es && all_sorted fs es

  abbrev pub test_sorted : Code → Bool
  test_sorted e = is_tested (form_of [] e) && sorted [] e

  -- returning: the step stands in a function; looping: in a loop
  unfoldable mutual
    pub step_sorted : (returning looping : Bool) → Step → Bool
    step_sorted r l (Eval e) = is_dropped (form_of [] e) && sorted [] e
    step_sorted r l (Block ss) = steps_sorted r l ss
    step_sorted r l (If e a b) = test_sorted e && (step_sorted r l a && step_sorted r l b)
    step_sorted r l (Loop first e a b) = test_sorted e && (step_sorted r true a && step_sorted r false b)
    step_sorted r l (Each a e s) = is_array_place c a && (stores_well [] e && (sorted (a_value ∷ []) e && step_sorted r true s))
    step_sorted r l Break = l
    step_sorted r l Continue = l
    step_sorted r l Next = true
    step_sorted r l Exit = true
    step_sorted r l (ExitWith e) = fits (form_of [] e) sort.Number && sorted [] e
    step_sorted r l (Return e) = r && (fits (form_of [] e) sort.Value && sorted [] e)
    step_sorted r l (Mark i b) = nat_lt i c.ranges

    pub steps_sorted : (returning looping : Bool) → Steps → Bool
    steps_sorted r l NoStep = true
    steps_sorted r l (Then s ss) = step_sorted r l s && steps_sorted r l ss

-- Programs.

abbrev pub calls_of : Program → List (List Kind)
calls_of p = map (λ (r : Routine). r.parameters) p.routines

abbrev pub kinds_of : List Declared → List Kind
kinds_of ds = map (λ (d : Declared). d.kind) ds

abbrev pub mixed_of : List Declared → List Bool
mixed_of ds = map (λ (d : Declared). d.mixed) ds

abbrev pub is_many : Kind → Bool
is_many ArrayKind = true
is_many k = false

abbrev pub arrays_among : List Declared → ℕ
arrays_among [] = 0
arrays_among (d ∷ ds) = if is_many d.kind then suc (arrays_among ds) else arrays_among ds

-- ARGV and ENVIRON stand before the script's own arrays
abbrev pub context_of : Program → List Kind → Context
context_of p parameters = record {
  texts = length p.texts;
  globals = kinds_of p.globals;
  mixed = mixed_of p.globals;
  arrays = suc
      (suc (arrays_among p.globals));
  ranges = p.ranges;
  calls = calls_of p;
  parameters = parameters;
  lenders = p.lenders;
}

abbrev pub routines_sorted : Program → List Routine → Bool
routines_sorted p [] = true
routines_sorted p (r ∷ rs) = steps_sorted (context_of p r.parameters) true false r.body && routines_sorted p rs

-- what is announced, each once
abbrev pub announced_names : Program → List (List ℕ)
announced_names p = map (λ (d : Declared). d.name) p.globals ++ map (λ (r : Routine). r.name) p.routines

abbrev pub is_named : List (List ℕ) → List ℕ → Bool
is_named [] x = false
is_named (n ∷ ns) x = same_name n x || is_named ns x

abbrev pub all_differ : List (List ℕ) → Bool
all_differ [] = true
all_differ (n ∷ ns) = not (is_named ns n) && all_differ ns

abbrev pub parts_sorted : Program → Context → Bool
parts_sorted p c = steps_sorted c false false p.begin && (steps_sorted c false false p.items && steps_sorted c false false p.end)

-- what lends is unboxed
abbrev pub are_lenders : List Kind → List (Option ℕ) → Bool
are_lenders ks [] = true
are_lenders ks (None ∷ os) = are_lenders ks os
are_lenders ks (Some g ∷ os) = has_kind ks g Unboxed && are_lenders ks os

abbrev pub is_sorted : Program → Bool
is_sorted p = all_differ (announced_names p)
    && (are_lenders (kinds_of p.globals) p.lenders && (routines_sorted p p.routines && parts_sorted p (context_of p [])))

abbrev pub IsSorted : Program → Type 0
IsSorted p = T (is_sorted p)
