-- A loop with a test does not begin as one over keys does: the code of no expression does.
use Rattle.std.proofs.Common.{◌≡◌, ℕ, zero, suc, Bool, true, false, List, [], ◌∷◌, Option, Some, None, ℤ, pos, ◌^◌, refl}
use Rattle.std.specs.Prelude.{if◌then◌else◌, ◌||◌}
use Rattle.awk_values.specs.declared.comparison.CompareOp.{CompareOp}
use Rattle.sem_primitives.specs.Table.{arguments_of}
use Rattle.sem_primitives.specs.declared.sorts.Argument.{Argument}
use Rattle.sem_primitives.specs.declared.sorts.Argument.TheVariants as argument
use Rattle.sem_primitives.specs.declared.sorts.Answer.TheVariants as answer
use Rattle.sem_primitives.specs.declared.sorts.Sort.{Sort}
use Rattle.sem_primitives.specs.declared.sorts.Sort.TheVariants as sort
use Rattle.sem_primitives.specs.declared.table.Listed.{Listed}
use Rattle.sem_primitives.specs.declared.table.Listed.TheVariants as listed
use Rattle.wasm_types.specs.Syntax.{Instructions, Plain, Done, Then}
use Rattle.wasm_types.specs.declared.instr.Simple.TheVariants.{LocalGet, LocalTee}
use Rattle.mid_program.specs.declared.mid.Arithmetic.{Arithmetic}
use Rattle.mid_program.specs.declared.mid.Arithmetic.TheVariants as inline
use Rattle.mid_program.specs.declared.mid.Operation.{Operation}
use Rattle.mid_program.specs.declared.mid.Operation.TheVariants.{Host, Inline, AsNumber, FieldNumber}
use Rattle.mid_program.specs.Mid.{Kind, Boxed, Unboxed, ArrayKind, Slot, Global, Parameter, Code, Do, Over, Compare, Call, Ask, AskLine, FileLine, Replace, Number, Text, Unset, Get, Set, Array, IsOpen, Choose, Seq, Let, Bound, Codes, End, At, Fixed, Fresh, Form, PrimitiveAnswer, NumberOrText, OptionalNumber, form_of, form_at, arguments, parameters_at}
use Rattle.mid_program.specs.MidMeaning.{three_values}
use Rattle.sem_scripts.specs.Names.{ArrayName, Numbered, Given}
use Rattle.mid_program.specs.Sorted.{count_of, lender_at}
use Rattle.lower_model.specs.Arithmetic.{calculated, compared, values_compared, numbers_compared, bare_compared, texts_beside, zeroed_if, is_value, may_be_text}
use Rattle.lower_model.specs.Emission.{Layout, name_read, added_or, emitted, all_emitted, all_converted, all_pushed, array_pushed, performed, all_boxed, all_appended, listed_asked, all_given, all_given_pushed, slot_read, slot_set, field_in, field_or, Immediate, immediate_in, immediate_or, left_over, sequence_closed, keeping_closed, bound_read, tested, lent, parameter_read}
use Rattle.lower_model.specs.Machine.{is_walk}
use Rattle.lower_model.specs.Places.{Bases, number_local}
use Rattle.lower_model.specs.Quick.{Holder, OfName, OfParameter, Addition, addition_names, addition_in, all_unsure}
use Rattle.lower_model.specs.Small.{emit, converted, to_value, to_number, truth, unused, released, moved_from, bound_from, copied_from}

abbrev begins_tee : Instructions → Bool
begins_tee (Then (Plain (LocalTee x)) k) = true
begins_tee _ = false

-- code that does not begin as a loop over keys does, also not after one instruction
abbrev Stern : Instructions → Type 0
Stern k = (is_walk (Some k) ≡ false) × (begins_tee k ≡ false)

gets : (x : ℕ) (k : Instructions) → begins_tee k ≡ false → Stern (emit (LocalGet x) k)
gets x Done e = (refl, refl)
gets x (Then (Plain (LocalTee y)) k) e = cc
gets x (Then (Plain i) k) e = (refl, refl)
gets x (Then i k) e = (refl, refl)

either_stern : (t : Bool) (A B : Instructions) → Stern A → Stern B → Stern (if t then A else B)
either_stern true A B h g = h
either_stern false A B h g = g

-- Conversions.

value_stern : (b : Bases) (f : Form) (t : ℕ) (k : Instructions) → Stern k → Stern (to_value b f t k)
value_stern b (PrimitiveAnswer (answer.Of sort.Value)) t k h = h
value_stern b f t k h = (refl, refl)

number_stern : (b : Bases) (f : Form) (t d : ℕ) (k : Instructions) → Stern k → Stern (to_number b f t d k)
number_stern b (PrimitiveAnswer (answer.Of sort.Value)) t d k h = (refl, refl)
number_stern b (PrimitiveAnswer answer.Input) t d k h = (refl, refl)
number_stern b (PrimitiveAnswer answer.Stream) t d k h = (refl, refl)
number_stern b NumberOrText t d k h = (refl, refl)
number_stern b OptionalNumber t d k h = (refl, refl)
number_stern b f t d k h = h

converted_stern : (b : Bases) (f : Form) (s : Sort) (t d : ℕ) (k : Instructions) → Stern k → Stern (converted b f s t d k)
converted_stern b f sort.Value t d k h = value_stern b f t k h
converted_stern b f sort.Number t d k h = number_stern b f t d k h
converted_stern b f sort.Array t d k h = h
converted_stern b f sort.Iterator t d k h = h

truth_stern : (b : Bases) (f : Form) (t : ℕ) (k : Instructions) → Stern (truth b f t k)
truth_stern b (PrimitiveAnswer (answer.Of sort.Value)) t k = (refl, refl)
truth_stern b NumberOrText t k = (refl, refl)
truth_stern b f t k = (refl, refl)

unused_stern : (b : Bases) (f : Form) (t : ℕ) (k : Instructions) → Stern k → Stern (unused b f t k)
unused_stern b (PrimitiveAnswer (answer.Of sort.Value)) t k h = (refl, refl)
unused_stern b NumberOrText t k h = (refl, refl)
unused_stern b f t k h = h

released_stern : (b : Bases) (f : Form) (t : ℕ) (k : Instructions) → Stern k → Stern (released b f t k)
released_stern b (PrimitiveAnswer (answer.Of sort.Value)) t k h = (refl, refl)
released_stern b NumberOrText t k h = (refl, refl)
released_stern b f t k h = h

moved_stern : (b : Bases) (f : Form) (s t : ℕ) (k : Instructions) → Stern (moved_from b f s t k)
moved_stern b (PrimitiveAnswer (answer.Of sort.Value)) s t k = (refl, refl)
moved_stern b f s t k = (refl, refl)

copied_stern : (b : Bases) (f : Form) (s t : ℕ) (k : Instructions) → Stern (copied_from b f s t k)
copied_stern b (PrimitiveAnswer (answer.Of sort.Value)) s t k = (refl, refl)
copied_stern b f s t k = (refl, refl)

bound_stern : (b : Bases) (m : Bool) (f : Form) (s t : ℕ) (k : Instructions) → Stern (bound_from b m f s t k)
bound_stern b true f s t k = moved_stern b f s t k
bound_stern b false f s t k = copied_stern b f s t k

-- Arithmetic and comparison.

calculated_stern : (b : Bases) (a : Arithmetic) (t d : ℕ) (k : Instructions) → Stern (calculated b a t d k)
calculated_stern b inline.Plus t d k = (refl, refl)
calculated_stern b a t d k = (refl, refl)

zeroed_stern : (b : Bases) (f : Form) (t : ℕ) (k : Instructions) → Stern k → Stern (zeroed_if b f t k)
zeroed_stern b NumberOrText t k h = (refl, refl)
zeroed_stern b OptionalNumber t k h = (refl, refl)
zeroed_stern b f t k h = h

beside_stern : (b : Bases) (f g : Form) (t : ℕ) (k : Instructions) → Stern (texts_beside b f g t k)
beside_stern b NumberOrText NumberOrText t k = (refl, refl)
beside_stern b f g t k = (refl, refl)

numbers_stern : (b : Bases) (c : CompareOp) (f g : Form) (t : ℕ) (k : Instructions) → Stern (numbers_compared b c f g t k)
numbers_stern b c f g t k = zeroed_stern b f t _ (zeroed_stern b g (suc t) _ (refl, refl))

compared_stern : (b : Bases) (c : CompareOp) (f g : Form) (t d : ℕ) (k : Instructions) → Stern (compared b c f g t d k)
compared_stern b c f g t d k =
    either_stern (is_value f || is_value g) (values_compared b c f g t d k) (bare_compared b c f g t d k)
    (value_stern b f t _ (value_stern b g (suc t) _ (refl, refl)))
    (either_stern (may_be_text f || may_be_text g) _ (numbers_compared b c f g t k) (beside_stern b f g t _) (numbers_stern b c f g t k))

-- whether an array is made
abbrev makes : Codes → Bool
makes End = false
makes (At e es) = makes es
makes (Fixed m es) = makes es
makes (Fresh es) = true

module _ (y : Layout) where
  array_stern : (a : ArrayName) (k : Instructions) → Stern k → Stern (array_pushed y a k)
  array_stern (Numbered zero) k h = (refl, refl)
  array_stern (Numbered (suc zero)) k h = (refl, refl)
  array_stern (Numbered (suc (suc i))) k h = (refl, refl)
  array_stern (Given i) k h = gets i k h.1

  pushed_stern : (wanted : List Argument) (es : Codes) (t : ℕ) (k : Instructions) → Stern k → Stern (all_pushed y wanted es t k)
  pushed_stern (argument.Of sort.Value ∷ rest) (At e es) t k h = (refl, refl)
  pushed_stern (argument.Of sort.Number ∷ rest) (At e es) t k h = gets (number_local y.bases t) _ (pushed_stern rest es (suc t) k h).1
  pushed_stern (argument.Of sort.Array ∷ rest) (At e es) t k h = array_stern _ _ (pushed_stern rest es (suc t) k h)
  pushed_stern (a ∷ rest) (At e es) t k h = pushed_stern rest es (suc t) k h
  pushed_stern (a ∷ rest) (Fixed m es) t k h = (refl, refl)
  pushed_stern wanted es t k h = h

  all_converted_stern : (fs : List Form) (wanted : List Argument) (es : Codes) (t d : ℕ) (k : Instructions) → Stern k → Stern (all_converted y fs wanted es t d k)
  all_converted_stern fs (argument.Of s ∷ rest) (At e es) t d k h = converted_stern y.bases (form_of fs e) s t d _ (all_converted_stern fs rest es (suc t) d k h)
  all_converted_stern fs (a ∷ rest) (Fixed m es) t d k h = all_converted_stern fs rest es t d k h
  all_converted_stern fs wanted es t d k h = h

  performed_stern : (o : Operation) (es : Codes) (t d : ℕ) (k : Instructions) → Stern k → Stern (performed y o es t d k)
  performed_stern (Host q) es t d k h = pushed_stern (arguments_of q) es t _ (refl, refl)
  performed_stern (Inline a) es t d k h = calculated_stern y.bases a t d k
  performed_stern AsNumber es t d k h = h
  performed_stern FieldNumber es t d k h = (refl, refl)

  boxed_stern : (fs : List Form) (es : Codes) (t : ℕ) (k : Instructions) → Stern k → Stern (all_boxed y fs es t k)
  boxed_stern fs (At e es) t k h = value_stern y.bases (form_of fs e) t _ (boxed_stern fs es (suc t) k h)
  boxed_stern fs es t k h = h

  appended_stern : (es : Codes) (t : ℕ) (k : Instructions) → Stern k → Stern (all_appended y es t k)
  appended_stern (At e es) t k h = (refl, refl)
  appended_stern es t k h = h

  listed_stern : (l : Listed) (count t d : ℕ) (k : Instructions) → Stern (listed_asked y l count t d k)
  listed_stern listed.Sprintf count t d k = (refl, refl)
  listed_stern (listed.Print to) count t d k = (refl, refl)
  listed_stern (listed.Printf to) count t d k = (refl, refl)

  lent_stern : (f : Form) (t : ℕ) (k : Instructions) → Stern k → Stern (lent y f t k)
  lent_stern (PrimitiveAnswer a) t k h = h
  lent_stern NumberOrText t k h = (refl, refl)
  lent_stern OptionalNumber t k h = h

  given_stern : (fs : List Form) (ks : List Kind) (es : Codes) (t : ℕ) (k : Instructions) → Stern k → Stern (all_given y fs ks es t k)
  given_stern fs (Boxed ∷ ks) (At e es) t k h = value_stern y.bases (form_of fs e) t _ (given_stern fs ks es (suc t) k h)
  given_stern fs (Unboxed ∷ ks) (At e es) t k h = lent_stern (form_of fs e) t (all_given y fs ks es (suc t) k) (given_stern fs ks es (suc t) k h)
  given_stern fs (ArrayKind ∷ ks) (At e es) t k h = given_stern fs ks es (suc t) k h
  given_stern fs (kind ∷ ks) (Fresh es) t k h = given_stern fs ks es t k h
  given_stern fs ks es t k h = h

  -- where no array is made, which begins in another way
  given_pushed_stern : (ks : List Kind) (es : Codes) (t w : ℕ) (k : Instructions) → makes es ≡ false → Stern k → Stern (all_given_pushed y ks es t w k)
  given_pushed_stern (Boxed ∷ ks) (At e es) t w k m h = (refl, refl)
  given_pushed_stern (Unboxed ∷ ks) (At e es) t w k m h = gets (number_local y.bases t) _ (given_pushed_stern ks es (suc t) w k m h).1
  given_pushed_stern (ArrayKind ∷ ks) (At e es) t w k m h = array_stern _ _ (given_pushed_stern ks es (suc t) w k m h)
  given_pushed_stern (kind ∷ ks) (Fresh es) t w k m h = cc
  given_pushed_stern ks es t w k m h = h

  read_stern : (x : Slot) (t : ℕ) (k : Instructions) → Stern (slot_read y x t k)
  read_stern (Global false i) t k = (refl, refl)
  read_stern (Global true i) t k = (refl, refl)
  read_stern (Parameter false i) t k = (refl, refl)
  read_stern (Parameter true i) t k = by (lender_at y.lenders i)
    where
      by : (o : Option ℕ) → Stern (parameter_read y o i t k)
      by None = (refl, refl)
      by (Some g) = (refl, refl)

  set_stern : (v : Bool) (x : Slot) (f : Form) (t : ℕ) (k : Instructions) → Stern (slot_set y v x f t k)
  set_stern v (Global false i) f t k = (refl, refl)
  set_stern v (Global true i) f t k = (refl, refl)
  set_stern v (Parameter false i) f t k = (refl, refl)
  set_stern v (Parameter true i) f t k = (refl, refl)

  left_stern : (e : Code) (f : Form) (t : ℕ) (k : Instructions) → Stern k → Stern (left_over y e f t k)
  left_stern (Set x e) f t k h = h
  left_stern (Seq e c) f t k h = h
  left_stern (Let e c) f t k h = h
  left_stern (Bound m i) f t k h = h
  left_stern e f t k h = unused_stern y.bases f t k h

  field_stern : (o : Option ℤ) (t : ℕ) (k other : Instructions) → Stern other → Stern (field_or y o t k other)
  field_stern (Some z) t k other h = (refl, refl)
  field_stern None t k other h = h

  unsure_stern : (is : List Holder) (q : ℤ) (n : ℕ) (k : Instructions) → Stern (all_unsure (name_read y) is q n k)
  unsure_stern [] q n k = (refl, refl)
  unsure_stern (OfName i ∷ is) q n k = (refl, refl)
  unsure_stern (OfParameter i ∷ is) q n k = (refl, refl)

  added_stern : (o : Option Addition) (t : ℕ) (slow k other : Instructions) → Stern other → Stern (added_or y o t slow k other)
  added_stern (Some a) t slow k other h = unsure_stern (addition_names a) (pos (2 ^ 52)) (2 ^ 53) _
  added_stern None t slow k other h = h

  immediate_stern : (c : CompareOp) (f : Form) (o : Option Immediate) (t d : ℕ) (k other : Instructions) → Stern other → Stern (immediate_or y c f o t d k other)
  immediate_stern c f (Some i) t d k other h = value_stern y.bases f t _ (refl, refl)
  immediate_stern c f None t d k other h = h

  sequence_stern : (v : Bool) (e : Code) (f : Form) (t : ℕ) (k : Instructions) → Stern k → Stern (sequence_closed y v e f t k)
  sequence_stern true e f t k h = left_stern e f t k h
  sequence_stern false e f t k h = h

  keeping_stern : (v : Bool) (e : Code) (g f : Form) (t : ℕ) (k : Instructions) → Stern k → Stern (keeping_closed y v e g f t k)
  keeping_stern true e g f t k h = left_stern e f (suc t) _ (released_stern y.bases g t k h)
  keeping_stern false e g f t k h = released_stern y.bases g t _ (moved_stern y.bases f (suc t) t k)

  bound_read_stern : (v m : Bool) (f : Form) (s t : ℕ) (k : Instructions) → Stern k → Stern (bound_read y v m f s t k)
  bound_read_stern true m f s t k h = h
  bound_read_stern false m f s t k h = bound_stern y.bases m f s t k

  mutual
    unfolding emitted all_emitted

    code_stern : (v : Bool) (fs : List Form) (ts : List ℕ) (e : Code) (t w d : ℕ) (k : Instructions) → Stern k → Stern (emitted y v fs ts e t w d k)
    code_stern v fs ts (Do o es) t w d k h =
        field_stern (field_in o es) t k _ (added_stern (addition_in o es) t _ k _
        (codes_stern fs ts es t w d _ (λ m. all_converted_stern fs (arguments o) es t d _ (performed_stern o es t d k h))))
    code_stern v fs ts (Over l es) t w d k h = codes_stern fs ts es t w d _ (λ m. boxed_stern fs es t _ (appended_stern es t _ (listed_stern l (count_of es) t d k)))
    code_stern v fs ts (Compare c e f) t w d k h =
        let g = form_of fs e in
        code_stern false fs ts e t w d _ (immediate_stern c g (immediate_in (is_value g) f) t d k _ (code_stern false fs ts f (suc t) w d _ (compared_stern y.bases c g (form_of fs f) t d k)))
    code_stern v fs ts (Call f es) t w d k h =
        let ks = parameters_at y.calls f in
        codes_stern fs ts es t w d _ (λ m. given_stern fs ks es t _ (given_pushed_stern ks es t w _ m (refl, refl)))
    code_stern v fs ts Ask t w d k h = (refl, refl)
    code_stern v fs ts (AskLine s) t w d k h = (refl, refl)
    code_stern v fs ts (FileLine e s) t w d k h = code_stern false fs ts e t w d _ (value_stern y.bases (form_of fs e) t _ (refl, refl))
    code_stern v fs ts (Replace all es s) t w d k h = codes_stern fs ts es t w d _ (λ m. all_converted_stern fs three_values es t d _ (pushed_stern three_values es t _ (refl, refl)))
    code_stern v fs ts (Number z) t w d k h = (refl, refl)
    code_stern v fs ts (Text i) t w d k h = (refl, refl)
    code_stern v fs ts Unset t w d k h = (refl, refl)
    code_stern v fs ts (Get x) t w d k h = read_stern x t k
    code_stern v fs ts (Set x e) t w d k h = code_stern false fs ts e t w d _ (set_stern v x (form_of fs e) t k)
    code_stern v fs ts (Array a) t w d k h = h
    code_stern v fs ts (IsOpen i) t w d k h = (refl, refl)
    code_stern v fs ts (Choose s c e f) t w d k h = code_stern false fs ts c t w d _ (truth_stern y.bases (form_of fs c) t _)
    code_stern v fs ts (Seq e f) t w d k h = code_stern true fs ts e t w d _ (left_stern e (form_of fs e) t _ (code_stern v fs ts f t w d _ (sequence_stern v f (form_of fs f) t k h)))
    code_stern v fs ts (Let e f) t w d k h =
        let g = form_of fs e in
        code_stern false fs ts e t w d _ (code_stern v (g ∷ fs) (t ∷ ts) f (suc t) w d _ (keeping_stern v f g (form_of (g ∷ fs) f) t k h))
    code_stern v fs ts (Bound m i) t w d k h = bound_read_stern v m (form_at fs i) _ t k h

    -- an array that is made comes before all that is pushed
    codes_stern : (fs : List Form) (ts : List ℕ) (es : Codes) (t w d : ℕ) (k : Instructions) → (makes es ≡ false → Stern k) → Stern (all_emitted y fs ts es t w d k)
    codes_stern fs ts End t w d k h = h refl
    codes_stern fs ts (At e es) t w d k h = code_stern false fs ts e t w d _ (codes_stern fs ts es (suc t) w d k h)
    codes_stern fs ts (Fixed m es) t w d k h = codes_stern fs ts es t w d k h
    codes_stern fs ts (Fresh es) t w d k h = (refl, refl)

  -- a test's code
  pub test_walks : (e : Code) (d : ℕ) (k : Instructions) → is_walk (Some (tested y [] [] e zero zero d k)) ≡ false
  test_walks e d k = (code_stern false [] [] e zero zero d _ (truth_stern y.bases (form_of [] e) zero k)).0
