-- The constants of emitted code have their widths, if those of what comes after it have.
use Rattle.std.proofs.Common.{◌≡◌, ◌≤◌, ◌<◌, ◌+◌, ◌^◌, ℕ, zero, suc, Bool, true, false, ◌||◌, List, [], ◌∷◌, length, Option, Some, None, refl, arith}
use Rattle.std.specs.Int.{w64, cast_unsigned}
use Rattle.std.specs.Prelude.{if◌then◌else◌, get_or, ℤ, unsigned_abs}
use Rattle.awk_values.specs.declared.comparison.CompareOp.{CompareOp}
use Rattle.awk_values.specs.declared.comparison.CompareOp.TheVariants as op
use Rattle.sem_primitives.specs.ConstantNumbers.{comparison_number, destination_number, flag_number}
use Rattle.sem_primitives.specs.Table.{arguments_of, answer_of, can_fault}
use Rattle.sem_primitives.specs.declared.constants.Destination.{Destination}
use Rattle.sem_primitives.specs.declared.constants.Destination.TheVariants.{Standard, Emptied, Appended}
use Rattle.sem_primitives.specs.declared.sorts.Answer.{Answer}
use Rattle.sem_primitives.specs.declared.sorts.Answer.TheVariants as answer
use Rattle.sem_primitives.specs.declared.sorts.Argument.{Argument}
use Rattle.sem_primitives.specs.declared.sorts.Argument.TheVariants as argument
use Rattle.sem_primitives.specs.declared.sorts.Sort.{Sort}
use Rattle.sem_primitives.specs.declared.sorts.Sort.TheVariants as sort
use Rattle.sem_primitives.specs.declared.table.Listed.{Listed}
use Rattle.sem_primitives.specs.declared.table.Listed.TheVariants as listed
use Rattle.sem_primitives.specs.declared.table.Primitive.{Primitive}
use Rattle.sem_primitives.specs.declared.table.Primitive.TheVariants as row
use Rattle.wasm_types.specs.Syntax.{Instructions}
use Rattle.wasm_types.specs.declared.instr.Simple.{Simple}
use Rattle.wasm_types.specs.declared.instr.Simple.TheVariants.{I32Const, I64Const}
use Rattle.mid_program.specs.declared.mid.Arithmetic.{Arithmetic}
use Rattle.mid_program.specs.declared.mid.Arithmetic.TheVariants as inline
use Rattle.mid_program.specs.declared.mid.Operation.{Operation}
use Rattle.mid_program.specs.declared.mid.Operation.TheVariants.{Host, Inline, AsNumber, FieldNumber}
use Rattle.mid_program.specs.MidMeaning.{three_values}
use Rattle.sem_scripts.specs.Names.{ArrayName, Numbered, Given}
use Rattle.mid_program.specs.Mid.{Kind, Boxed, Unboxed, ArrayKind, Slot, Global, Parameter, Code, Do, Over, Compare, Call, Ask, AskLine, FileLine, Replace, Number, Text, Unset, Get, Set, Array, IsOpen, Choose, Seq, Let, Bound, Codes, End, At, Fixed, Fresh, Form, PrimitiveAnswer, NumberOrText, OptionalNumber, a_value, form_of, form_at, arguments, parameters_at}
use Rattle.mid_program.specs.Sorted.{count_of, lender_at}
use Rattle.sem_scripts.specs.Steps.{is_field_number}
use Rattle.lower_model.specs.Quick.{addition_in}
use Rattle.lower_model.specs.Arithmetic.{calculated, compared, field_checked, is_value, may_be_text, numbers_compared, texts_beside, values_compared, zeroed_if}
use Rattle.lower_model.specs.Emission.{Layout, Immediate, FieldOf, TextOf, NumberOf, field_at, immediate_field, immediate_in, immediate_or, immediate_pushed, all_appended, all_boxed, all_converted, all_emitted, all_freed, all_given, all_given_pushed, all_pushed, array_meant, array_pushed, asked, assigned, assigned_by_number, bound_read, constant_field, dropped, emitted, field_in, field_or, handle_stored, keeping_closed, left_over, lent, listed_asked, one_field, one_given, one_pushed, parameter_read, pending_assigned, performed, sequence_closed, slot_read, slot_set, tested, text_kept, text_let_go, text_pushed, value_stored, values_counted}
use Rattle.lower_model.specs.Places.{Bases, made_in, memory_of, place_of}
use Rattle.lower_model.specs.Small.{answer_kept, boxed_perhaps, bound_from, code_number, converted, kept, kept_code, kept_done, kept_number, kept_value, moved_from, released, to_number, to_value, truth, unused}
use Rattle.agreement.proofs.SizesLemmas.Fits.{Fits, choice, fits_simple, in_loop, long_fits, none, place_within, plain, text_within, word_fits}
use Rattle.agreement.proofs.SizesLemmas.Sources.{number_small, addition_small, added_or_fits}
use Rattle.agreement.proofs.SizesLemmas.Small.{AllSmall, Small}

-- ---- constants

pub comparison_fits : (c : CompareOp) → fits_simple (I32Const (comparison_number c)) ≡ true
comparison_fits op.Less = refl
comparison_fits op.LessOrEqual = refl
comparison_fits op.Equal = refl
comparison_fits op.NotEqual = refl
comparison_fits op.Greater = refl
comparison_fits op.GreaterOrEqual = refl

pub flag_fits : (z : Bool) → fits_simple (I32Const (flag_number z)) ≡ true
flag_fits true = refl
flag_fits false = refl

destination_fits : (to : Destination) → fits_simple (I32Const (destination_number to)) ≡ true
destination_fits Standard = refl
destination_fits Emptied = refl
destination_fits Appended = refl

counted_few : (to : Destination) (count : ℕ) → values_counted to count ≤ count
counted_few Standard count = omega arith
counted_few Emptied count = omega arith
counted_few Appended count = omega arith

-- a field whose number is a constant

abbrev pub FieldSmall : Option ℤ → Type 0
FieldSmall None = Unit {0}
FieldSmall (Some z) = unsigned_abs z ≤ 2 ^ 53

constant_small : (e : Code) → Small e → FieldSmall (constant_field e)
constant_small (Number z) s = by (is_field_number z)
  where
    by : (q : Bool) → FieldSmall (if q then Some z else None)
    by true = s
    by false = tt
constant_small e s = tt

one_small : (es : Codes) → AllSmall es → FieldSmall (one_field es)
one_small (At e End) s = constant_small e s.0
one_small es s = tt

field_small : (o : Operation) (es : Codes) → AllSmall es → FieldSmall (field_in o es)
field_small (Host row.Field) es s = one_small es s
field_small o es s = tt

pub field_at_small : (e : Code) → Small e → FieldSmall (field_at e)
field_at_small (Do o es) s = field_small o es s
field_at_small e s = tt

-- an immediate operand

abbrev ImmediateSmall : Option Immediate → Type 0
ImmediateSmall None = Unit {0}
ImmediateSmall (Some (FieldOf z)) = unsigned_abs z ≤ 2 ^ 53
ImmediateSmall (Some (TextOf i)) = Unit {0}
ImmediateSmall (Some (NumberOf z)) = unsigned_abs z ≤ 2 ^ 53

as_immediate_small : (o : Option ℤ) → FieldSmall o → ImmediateSmall (immediate_field o)
as_immediate_small (Some z) s = s
as_immediate_small None s = tt

immediate_small : (v : Bool) (e : Code) → Small e → ImmediateSmall (immediate_in v e)
immediate_small v (Do o es) s = as_immediate_small (field_in o es) (field_small o es s)
immediate_small v (Text i) s = tt
immediate_small true (Number z) s = s
immediate_small v e s = tt

-- ---- small pieces

pub whichever : {a c : Instructions} (z : Bool) → Fits a → Fits c → Fits (if z then a else c)
whichever true a c = a
whichever false a c = c

module _ (b : Bases) {k : Instructions} where
  pub kept_code_fits : (f : Bool) (t d : ℕ) → Fits k → Fits (kept_code b f t d k)
  kept_code_fits true t d r = record { has = r.has }
  kept_code_fits false t d r = record { has = r.has }

  kept_value_fits : (f : Bool) (t d : ℕ) → Fits k → Fits (kept_value b f t d k)
  kept_value_fits true t d r = record { has = r.has }
  kept_value_fits false t d r = record { has = r.has }

  pub answer_kept_fits : (t d : ℕ) → Fits k → Fits (answer_kept b t d k)
  answer_kept_fits t d r = record { has = r.has }

  pub kept_number_fits : (f : Bool) (t d : ℕ) → Fits k → Fits (kept_number b f t d k)
  kept_number_fits true t d r = record { has = r.has }
  kept_number_fits false t d r = record { has = r.has }

  kept_done_fits : (f : Bool) (d : ℕ) → Fits k → Fits (kept_done b f d k)
  kept_done_fits true d r = record { has = r.has }
  kept_done_fits false d r = record { has = r.has }

  pub kept_fits : (f : Bool) (a : Answer) (t d : ℕ) → Fits k → Fits (kept b f a t d k)
  kept_fits f (answer.Of sort.Value) t d r = kept_value_fits f t d r
  kept_fits f (answer.Of sort.Number) t d r = kept_number_fits f t d r
  kept_fits f answer.Truth t d r = kept_code_fits f t d r
  kept_fits f answer.Input t d r = kept_code_fits f t d r
  kept_fits f answer.Assign t d r = kept_code_fits f t d r
  kept_fits f answer.Stream t d r = kept_code_fits f t d r
  kept_fits f answer.Done t d r = kept_done_fits f d r
  kept_fits f a t d r = r

  pub to_value_fits : (f : Form) (t : ℕ) → Fits k → Fits (to_value b f t k)
  to_value_fits (PrimitiveAnswer (answer.Of sort.Value)) t r = r
  to_value_fits f t r = record { has = r.has }

  code_number_fits : (t : ℕ) → Fits k → Fits (code_number b t k)
  code_number_fits t r = record { has = r.has }

  pub to_number_fits : (f : Form) (t d : ℕ) → Fits k → Fits (to_number b f t d k)
  to_number_fits (PrimitiveAnswer (answer.Of sort.Value)) t d r = record { has = r.has }
  to_number_fits f t d r = record { has = r.has }

  converted_fits : (f : Form) (s : Sort) (t d : ℕ) → Fits k → Fits (converted b f s t d k)
  converted_fits f sort.Value t d r = to_value_fits f t r
  converted_fits f sort.Number t d r = to_number_fits f t d r
  converted_fits f s t d r = r

  pub truth_fits : (f : Form) (t : ℕ) → Fits k → Fits (truth b f t k)
  truth_fits (PrimitiveAnswer (answer.Of sort.Value)) t r = record { has = r.has }
  truth_fits f t r = record { has = r.has }

  unused_fits : (f : Form) (t : ℕ) → Fits k → Fits (unused b f t k)
  unused_fits (PrimitiveAnswer (answer.Of sort.Value)) t r = record { has = r.has }
  unused_fits f t r = record { has = r.has }

  released_fits : (f : Form) (t : ℕ) → Fits k → Fits (released b f t k)
  released_fits (PrimitiveAnswer (answer.Of sort.Value)) t r = record { has = r.has }
  released_fits f t r = record { has = r.has }

  bound_fits : (z : Bool) (f : Form) (s t : ℕ) → Fits k → Fits (bound_from b z f s t k)
  bound_fits true (PrimitiveAnswer (answer.Of sort.Value)) s t r = record { has = r.has }
  bound_fits true f s t r = record { has = r.has }
  bound_fits false (PrimitiveAnswer (answer.Of sort.Value)) s t r = record { has = r.has }
  bound_fits false f s t r = record { has = r.has }

  moved_fits : (f : Form) (s t : ℕ) → Fits k → Fits (moved_from b f s t k)
  moved_fits f s t r = bound_fits true f s t r

  calculated_fits : (a : Arithmetic) (t d : ℕ) → Fits k → Fits (calculated b a t d k)
  calculated_fits inline.Plus t d r = record { has = r.has }
  calculated_fits a t d r = record { has = r.has }

  field_fits : (t d : ℕ) → Fits k → Fits (field_checked b t d k)
  field_fits t d r = record { has = r.has }

  zeroed_fits : (f : Form) (t : ℕ) → Fits k → Fits (zeroed_if b f t k)
  zeroed_fits NumberOrText t r = record { has = r.has }
  zeroed_fits f t r = record { has = r.has }

  beside_fits : (f g : Form) (t : ℕ) → Fits k → Fits (texts_beside b f g t k)
  beside_fits NumberOrText NumberOrText t r = record { has = r.has }
  beside_fits NumberOrText g t r = record { has = r.has }
  beside_fits f g t r = record { has = r.has }

module _ (b : Bases) {k : Instructions} where
  values_fits : (c : CompareOp) (f g : Form) (t d : ℕ) → Fits k → Fits (values_compared b c f g t d k)
  values_fits c f g t d r =
      to_value_fits b f t (to_value_fits b g (suc t)
      (plain (I32Const (comparison_number c)) (comparison_fits c) (plain _ refl (plain _ refl (plain _ refl (plain _ refl (plain _ refl (plain _ refl
      (plain _ refl (kept_code_fits b true t d r))))))))))

  numbers_fits : (c : CompareOp) (f g : Form) (t : ℕ) → Fits k → Fits (numbers_compared b c f g t k)
  numbers_fits c f g t r = zeroed_fits b f t (zeroed_fits b g (suc t) (record { has = r.has }))

module _ (b : Bases) {k : Instructions} where
  compared_fits : (c : CompareOp) (f g : Form) (t d : ℕ) → Fits k → Fits (compared b c f g t d k)
  compared_fits c f g t d r =
      whichever (is_value f || is_value g) (values_fits b c f g t d r)
      (whichever (may_be_text f || may_be_text g) (beside_fits b f g t (choice (values_fits b c f g t (suc d) none) (numbers_fits b c f g t none) r))
      (numbers_fits b c f g t r))

-- Names and operands.

module _ (y : Layout) (names : length y.names ≤ 2 ^ 24) (memory : length (memory_of y.texts) ≤ 2 ^ 24) where
  abbrev b : Bases
  b = y.bases

  module _ {k : Instructions} where
    pub array_fits : (a : ArrayName) → Fits k → Fits (array_pushed y a k)
    array_fits (Numbered zero) r = record { has = r.has }
    array_fits (Numbered (suc zero)) r = record { has = r.has }
    array_fits (Numbered (suc (suc i))) r = record { has = r.has }
    array_fits (Given i) r = record { has = r.has }

    parameter_fits : (o : Option ℕ) (i t : ℕ) → Fits k → Fits (parameter_read y o i t k)
    parameter_fits None i t r = record { has = r.has }
    parameter_fits (Some g) i t r = record { has = r.has }

    read_fits : (x : Slot) (t : ℕ) → Fits k → Fits (slot_read y x t k)
    read_fits (Global false i) t r = record { has = r.has }
    read_fits (Global true i) t r = record { has = r.has }
    read_fits (Parameter false i) t r = record { has = r.has }
    read_fits (Parameter true i) t r = parameter_fits (lender_at y.lenders i) i t r

    pub text_fits_there : (i : ℕ) → Fits k → Fits (text_pushed y i k)
    text_fits_there i r =
        let p = place_within y.texts i in
        let l = text_within y.texts i in
        plain (I32Const (place_of y.texts i)) (word_fits (place_of y.texts i) (omega (arith, p, memory)))
        (plain (I32Const (length (get_or y.texts i []))) (word_fits (length (get_or y.texts i [])) (omega (arith, l, memory))) r)

    handle_fits : (o : Bool) (t : ℕ) (put : Simple) → fits_simple put ≡ true → Fits k → Fits (handle_stored y o t put k)
    handle_fits true t put e r = plain _ refl (plain _ refl (plain _ refl (plain put e r)))
    handle_fits false t put e r = plain _ refl (plain _ refl (plain _ refl (plain put e r)))

    perhaps_fits : (t : ℕ) (put : Simple) → fits_simple put ≡ true → Fits k → Fits (boxed_perhaps b t put k)
    perhaps_fits t put e r =
        plain _ refl (plain _ refl (plain _ refl (choice (plain _ refl (plain put e none)) (plain _ refl (plain _ refl (plain put e none))) r)))

  module _ {k : Instructions} where
    stored_fits : (o : Bool) (f : Form) (t : ℕ) (put : Simple) → fits_simple put ≡ true → Fits k → Fits (value_stored y o f t put k)
    stored_fits o (PrimitiveAnswer (answer.Of sort.Value)) t put e r = handle_fits o t put e r
    stored_fits o (PrimitiveAnswer (answer.Of sort.Number)) t put e r = plain _ refl (plain _ refl (plain put e r))
    stored_fits o (PrimitiveAnswer answer.Truth) t put e r = plain _ refl (plain _ refl (plain put e r))
    stored_fits o NumberOrText t put e r = plain _ refl (plain _ refl (plain _ refl (choice (handle_fits o t put e none) (perhaps_fits t put e none) r)))
    stored_fits o OptionalNumber t put e r = perhaps_fits t put e r
    stored_fits o f t put e r = plain _ refl (plain put e r)

  module _ {k : Instructions} where
    set_fits : (o : Bool) (x : Slot) (f : Form) (t : ℕ) → Fits k → Fits (slot_set y o x f t k)
    set_fits o (Global false i) f t r = plain _ refl (plain _ refl (stored_fits o f t _ refl r))
    set_fits o (Global true i) (PrimitiveAnswer a) t r = record { has = r.has }
    set_fits o (Global true i) NumberOrText t r =
        plain _ refl (plain _ refl (plain _ refl (choice (plain _ refl (plain _ refl (plain _ refl (plain _ refl none)))) none
        (plain _ refl (plain _ refl (plain _ refl (choice (handle_fits o t _ refl none) none (plain _ refl (plain _ refl r)))))))))
    set_fits o (Global true i) OptionalNumber t r = record { has = r.has }
    set_fits o (Parameter false i) f t r = plain _ refl (plain _ refl (stored_fits o f t _ refl r))
    set_fits o (Parameter true i) f t r = record { has = r.has }

    assigned_fits : (kind : Kind) (i t : ℕ) → Fits k → Fits (assigned y kind i t k)
    assigned_fits Boxed i t r = record { has = r.has }
    assigned_fits Unboxed i t r = record { has = r.has }
    assigned_fits ArrayKind i t r = r

  by_number_fits : {k : Instructions} (ks : List Kind) (i t : ℕ) → i + length ks ≤ 2 ^ 24 → Fits k → Fits (assigned_by_number y ks i t k)
  by_number_fits [] i t few r = r
  by_number_fits (ArrayKind ∷ ks) i t few r = by_number_fits ks (suc i) t (omega (arith, few)) r
  by_number_fits (Boxed ∷ ks) i t few r =
      plain _ refl (plain (I64Const i) (long_fits i (omega (arith, few))) (plain _ refl
      (choice (assigned_fits Boxed i t none) none (by_number_fits ks (suc i) t (omega (arith, few)) r))))
  by_number_fits (Unboxed ∷ ks) i t few r =
      plain _ refl (plain (I64Const i) (long_fits i (omega (arith, few))) (plain _ refl
      (choice (assigned_fits Unboxed i t none) none (by_number_fits ks (suc i) t (omega (arith, few)) r))))

  module _ {k : Instructions} where
    pub pending_fits : (t : ℕ) → Fits k → Fits (pending_assigned y t k)
    pending_fits t r =
        plain _ refl (plain _ refl (plain _ refl (plain _ refl (plain _ refl (by_number_fits y.names zero t (omega (arith, names)) r)))))

  module _ {k : Instructions} where
    pub asked_fits : (p : Primitive) (t d : ℕ) → Fits k → Fits (asked y p t d k)
    asked_fits p t d r =
        in_loop (plain _ refl (kept_code_fits b true t (suc d) (plain _ refl (plain _ refl (plain _ refl
        (choice (pending_fits t (plain _ refl none)) none none)))))) r

  pub converts_fits : {k : Instructions} (fs : List Form) (given : List Argument) (es : Codes) (t d : ℕ) → Fits k → Fits (all_converted y fs given es t d k)
  converts_fits fs (argument.Of s ∷ rest) (At e es) t d r = converted_fits b (form_of fs e) s t d (converts_fits fs rest es (suc t) d r)
  converts_fits fs (a ∷ rest) (Fixed n es) t d r = converts_fits fs rest es t d r
  converts_fits fs given es t d r = r

  module _ {k : Instructions} where
    push_fits : (a : Argument) (e : Code) (t : ℕ) → Fits k → Fits (one_pushed y a e t k)
    push_fits (argument.Of sort.Value) e t r = record { has = r.has }
    push_fits (argument.Of sort.Number) e t r = record { has = r.has }
    push_fits (argument.Of sort.Array) e t r = array_fits (array_meant e) r
    push_fits a e t r = r

  pub pushes_fits : {k : Instructions} (given : List Argument) (es : Codes) (t : ℕ) → AllSmall es → Fits k → Fits (all_pushed y given es t k)
  pushes_fits (a ∷ rest) (At e es) t s r = push_fits a e t (pushes_fits rest es (suc t) s.1 r)
  pushes_fits (a ∷ rest) (Fixed n es) t s r = plain (I32Const n) (word_fits n s.0) (pushes_fits rest es t s.1 r)
  pushes_fits given es t s r = r

  module _ {k : Instructions} where
    performed_fits : (o : Operation) (es : Codes) (t d : ℕ) → AllSmall es → Fits k → Fits (performed y o es t d k)
    performed_fits (Host p) es t d s r = pushes_fits (arguments_of p) es t s (plain _ refl (kept_fits b (can_fault p) (answer_of p) t d r))
    performed_fits (Inline a) es t d s r = calculated_fits b a t d r
    performed_fits AsNumber es t d s r = r
    performed_fits FieldNumber es t d s r = field_fits b t d r

  boxes_fits : {k : Instructions} (fs : List Form) (es : Codes) (t : ℕ) → Fits k → Fits (all_boxed y fs es t k)
  boxes_fits fs (At e es) t r = to_value_fits b (form_of fs e) t (boxes_fits fs es (suc t) r)
  boxes_fits fs es t r = r

  appends_fits : {k : Instructions} (es : Codes) (t : ℕ) → Fits k → Fits (all_appended y es t k)
  appends_fits (At e es) t r = plain _ refl (plain _ refl (plain _ refl (plain _ refl (appends_fits es (suc t) r))))
  appends_fits es t r = r

  module _ {k : Instructions} where
    listed_fits : (l : Listed) (count t d : ℕ) → count < 2 ^ 32 → Fits k → Fits (listed_asked y l count t d k)
    listed_fits listed.Sprintf c t d few r = plain (I32Const c) (word_fits c few) (plain _ refl (kept_fits b true (answer.Of sort.Value) t d r))
    listed_fits (listed.Print to) c t d few r =
        let l = counted_few to c in
        plain (I32Const (values_counted to c)) (word_fits (values_counted to c) (omega (arith, l, few)))
        (plain (I32Const (destination_number to)) (destination_fits to) (plain _ refl (kept_fits b true answer.Done t d r)))
    listed_fits (listed.Printf to) c t d few r =
        let l = counted_few to c in
        plain (I32Const (values_counted to c)) (word_fits (values_counted to c) (omega (arith, l, few)))
        (plain (I32Const (destination_number to)) (destination_fits to) (plain _ refl (kept_fits b true answer.Done t d r)))

  module _ {k : Instructions} where
    lent_fits : (f : Form) (t : ℕ) → Fits k → Fits (lent y f t k)
    lent_fits NumberOrText t r = record { has = r.has }
    lent_fits f t r = r

  given_fits : {k : Instructions} (fs : List Form) (ks : List Kind) (es : Codes) (t : ℕ) → Fits k → Fits (all_given y fs ks es t k)
  given_fits fs (Boxed ∷ ks) (At e es) t r = to_value_fits b (form_of fs e) t (given_fits fs ks es (suc t) r)
  given_fits fs (Unboxed ∷ ks) (At e es) t r = lent_fits (form_of fs e) t (given_fits fs ks es (suc t) r)
  given_fits fs (kind ∷ ks) (At e es) t r = given_fits fs ks es (suc t) r
  given_fits fs (kind ∷ ks) (Fresh es) t r = given_fits fs ks es t r
  given_fits fs ks es t r = r

  module _ {k : Instructions} where
    one_fits : (kind : Kind) (e : Code) (t : ℕ) → Fits k → Fits (one_given y kind e t k)
    one_fits Boxed e t r = record { has = r.has }
    one_fits Unboxed e t r = record { has = r.has }
    one_fits ArrayKind e t r = array_fits (array_meant e) r

  given_pushed_fits : {k : Instructions} (ks : List Kind) (es : Codes) (t w : ℕ) → Fits k → Fits (all_given_pushed y ks es t w k)
  given_pushed_fits (kind ∷ ks) (At e es) t w r = one_fits kind e t (given_pushed_fits ks es (suc t) w r)
  given_pushed_fits (kind ∷ ks) (Fresh es) t w r = plain _ refl (plain _ refl (given_pushed_fits ks es t (suc w) r))
  given_pushed_fits ks es t w r = r

  freed_fits : {k : Instructions} (w n : ℕ) → Fits k → Fits (all_freed y w n k)
  freed_fits w zero r = r
  freed_fits w (suc n) r = plain _ refl (plain _ refl (plain _ refl (plain _ refl (freed_fits w n r))))

  module _ {k : Instructions} where
    pub left_fits : (e : Code) (f : Form) (t : ℕ) → Fits k → Fits (left_over y e f t k)
    left_fits (Set x e) f t r = r
    left_fits (Seq e c) f t r = r
    left_fits (Let e c) f t r = r
    left_fits (Bound m i) f t r = r
    left_fits e f t r = unused_fits b f t r

    read_or_fits : {other : Instructions} (o : Option ℤ) (t : ℕ) → FieldSmall o → Fits k → Fits other → Fits (field_or y o t k other)
    read_or_fits (Some z) t s r q = plain (I64Const (cast_unsigned w64 z)) (long_fits (cast_unsigned w64 z) (number_small z s)) (plain _ refl (plain _ refl r))
    read_or_fits None t s r q = q

    pushed_value_fits : (i : Immediate) → ImmediateSmall (Some i) → Fits k → Fits (immediate_pushed y i k)
    pushed_value_fits (FieldOf z) s r = plain (I64Const (cast_unsigned w64 z)) (long_fits (cast_unsigned w64 z) (number_small z s)) (plain _ refl r)
    pushed_value_fits (TextOf i) s r = text_fits_there i (plain _ refl r)
    pushed_value_fits (NumberOf z) s r = plain (I64Const (cast_unsigned w64 z)) (long_fits (cast_unsigned w64 z) (number_small z s)) (plain _ refl r)

    bound_read_fits : (v m : Bool) (f : Form) (s t : ℕ) → Fits k → Fits (bound_read y v m f s t k)
    bound_read_fits true m f s t r = r
    bound_read_fits false m f s t r = bound_fits b m f s t r

  module _ {k : Instructions} where
    immediate_fits : {other : Instructions} (c : CompareOp) (f : Form) (o : Option Immediate) (t d : ℕ) → ImmediateSmall o → Fits k → Fits other → Fits (immediate_or y c f o t d k other)
    immediate_fits c f (Some i) t d s r q =
        to_value_fits b f t (plain (I32Const (comparison_number c)) (comparison_fits c) (plain _ refl (plain _ refl (plain _ refl
        (pushed_value_fits i s (plain _ refl (kept_code_fits b true t d r)))))))
    immediate_fits c f None t d s r q = q

    sequence_fits : (v : Bool) (e : Code) (f : Form) (t : ℕ) → Fits k → Fits (sequence_closed y v e f t k)
    sequence_fits true e f t r = left_fits e f t r
    sequence_fits false e f t r = r

    keeping_fits : (v : Bool) (e : Code) (g f : Form) (t : ℕ) → Fits k → Fits (keeping_closed y v e g f t k)
    keeping_fits true e g f t r = left_fits e f (suc t) (released_fits b g t r)
    keeping_fits false e g f t r = released_fits b g t (moved_fits b f (suc t) t r)

  module _ {k : Instructions} where
    text_fits : (fs : List Form) (s : Code) (t : ℕ) → Fits k → Fits (text_let_go y fs s t k)
    text_fits fs s t r = left_fits s (form_of (a_value ∷ fs) s) (suc (suc t)) (record { has = r.has })

  line_fits : {k : Instructions} (p : Primitive) (t : ℕ) → Fits k → Fits (text_kept y p t k)
  line_fits p t r = plain _ refl (plain _ refl r)

  -- Code.

  mutual
    unfolding emitted all_emitted

    pub emitted_fits : {k : Instructions} (v : Bool) (fs : List Form) (ts : List ℕ) (e : Code) (t w d : ℕ) → Small e → Fits k →
        Fits (emitted y v fs ts e t w d k)
    emitted_fits v fs ts (Do o es) t w d s r =
        read_or_fits (field_in o es) t (field_small o es s) r (added_or_fits y (addition_in o es) t (addition_small o es s)
        (emits_fits fs ts es t w (suc d) s (converts_fits fs (arguments o) es t (suc d) (performed_fits o es t (suc d) s none))) r
        (emits_fits fs ts es t w d s (converts_fits fs (arguments o) es t d (performed_fits o es t d s r))))
    emitted_fits v fs ts (Over l es) t w d s r = emits_fits fs ts es t w d s.1 (boxes_fits fs es t (appends_fits es t (listed_fits l (count_of es) t d s.0 r)))
    emitted_fits v fs ts (Compare c e f) t w d s r =
        emitted_fits false fs ts e t w d s.0 (immediate_fits c (form_of fs e) (immediate_in (is_value (form_of fs e)) f) t d (immediate_small (is_value (form_of fs e)) f s.1) r
        (emitted_fits false fs ts f (suc t) w d s.1 (compared_fits b c (form_of fs e) (form_of fs f) t d r)))
    emitted_fits v fs ts (Call f es) t w d s r =
        emits_fits fs ts es t w d s (given_fits fs (parameters_at y.calls f) es t (given_pushed_fits (parameters_at y.calls f) es t w
        (plain _ refl (answer_kept_fits b t d (freed_fits w (made_in es) r)))))
    emitted_fits v fs ts Ask t w d s r = asked_fits row.Getline t d (code_number_fits b t r)
    emitted_fits v fs ts (AskLine e) t w d s r =
        asked_fits row.GetlineVar t d (plain _ refl (plain _ refl (plain _ refl (choice (line_fits row.Line t
        (emitted_fits true (a_value ∷ fs) (suc t ∷ ts) e (suc (suc t)) w (suc d) s (text_fits fs e t none))) none (code_number_fits b t r)))))
    emitted_fits v fs ts (FileLine f e) t w d s r =
        emitted_fits false fs ts f t w d s.0 (to_value_fits b (form_of fs f) t (plain _ refl (plain _ refl (plain _ refl (plain _ refl
        (kept_code_fits b true t d (plain _ refl (plain _ refl (plain _ refl (choice (line_fits row.Line t
        (emitted_fits true (a_value ∷ fs) (suc t ∷ ts) e (suc (suc t)) w (suc d) s.1 (text_fits fs e t none))) none (code_number_fits b t r)))))))))))
    emitted_fits v fs ts (Replace all es e) t w d s r =
        emits_fits fs ts es t w d s.0 (converts_fits fs three_values es t d (pushes_fits three_values es t s.0
        (plain (I32Const (flag_number all)) (flag_fits all) (plain _ refl (kept_fits b true (answer.Of sort.Number) t d
        (plain _ refl (plain _ refl (choice none (line_fits row.SubResult t
        (emitted_fits true (a_value ∷ fs) (suc t ∷ ts) e (suc (suc t)) w (suc d) s.1 (text_fits fs e t none))) r))))))))
    emitted_fits v fs ts (Number z) t w d s r =
        plain (I64Const (cast_unsigned w64 z)) (long_fits (cast_unsigned w64 z) (number_small z s)) (plain _ refl r)
    emitted_fits v fs ts (Text i) t w d s r = text_fits_there i (plain _ refl (plain _ refl r))
    emitted_fits v fs ts Unset t w d s r = record { has = r.has }
    emitted_fits v fs ts (Get x) t w d s r = read_fits x t r
    emitted_fits v fs ts (Set x e) t w d s r = emitted_fits false fs ts e t w d s (set_fits v x (form_of fs e) t r)
    emitted_fits v fs ts (Array a) t w d s r = r
    emitted_fits v fs ts (IsOpen i) t w d s r = record { has = r.has }
    emitted_fits v fs ts (Choose q c e f) t w d s r =
        emitted_fits false fs ts c t w d s.0 (truth_fits b (form_of fs c) t (choice
        (emitted_fits false fs ts e t w (suc d) s.1.0 (converted_fits b (form_of fs e) q t (suc d) none))
        (emitted_fits false fs ts f t w (suc d) s.1.1 (converted_fits b (form_of fs f) q t (suc d) none)) r))
    emitted_fits v fs ts (Seq e f) t w d s r =
        emitted_fits true fs ts e t w d s.0 (left_fits e (form_of fs e) t (emitted_fits v fs ts f t w d s.1 (sequence_fits v f (form_of fs f) t r)))
    emitted_fits v fs ts (Let e f) t w d s r =
        emitted_fits false fs ts e t w d s.0 (emitted_fits v (form_of fs e ∷ fs) (t ∷ ts) f (suc t) w d s.1
        (keeping_fits v f (form_of fs e) (form_of (form_of fs e ∷ fs) f) t r))
    emitted_fits v fs ts (Bound z i) t w d s r = bound_read_fits v z (form_at fs i) (get_or ts i zero) t r

    pub emits_fits : {k : Instructions} (fs : List Form) (ts : List ℕ) (es : Codes) (t w d : ℕ) → AllSmall es → Fits k → Fits (all_emitted y fs ts es t w d k)
    emits_fits fs ts End t w d s r = r
    emits_fits fs ts (At e es) t w d s r = emitted_fits false fs ts e t w d s.0 (emits_fits fs ts es (suc t) w d s.1 r)
    emits_fits fs ts (Fixed n es) t w d s r = emits_fits fs ts es t w d s.1 r
    emits_fits fs ts (Fresh es) t w d s r = plain _ refl (plain _ refl (emits_fits fs ts es t (suc w) d s r))

  module _ {k : Instructions} where
    pub dropped_fits : (fs : List Form) (ts : List ℕ) (e : Code) (t w d : ℕ) → Small e → Fits k → Fits (dropped y fs ts e t w d k)
    dropped_fits fs ts e t w d s r = emitted_fits true fs ts e t w d s (left_fits e (form_of fs e) t r)

    pub tested_fits : (fs : List Form) (ts : List ℕ) (e : Code) (t w d : ℕ) → Small e → Fits k → Fits (tested y fs ts e t w d k)
    tested_fits fs ts e t w d s r = emitted_fits false fs ts e t w d s (truth_fits b (form_of fs e) t r)
