-- The code of mid code that does not name ARGV gives its number to no row that changes arrays.
use Rattle.std.proofs.Common.{◌≡◌, ℕ, zero, suc, ◌-◌, ◌≤◌, Bool, true, false, not, ◌&&◌, ◌||◌, cond, nat_eq, nat_le, nat_lt, List, [], ◌∷◌, length, drop, Option, Some, None, refl, sym, ap, ◌∙◌, subst, arith}
use Rattle.std.proofs.lemmas.Bool.{and_parts, le-leb, le-ltb, lt-ltb}
use Rattle.std.proofs.lemmas.Option.{slice_get_within}
use Rattle.std.specs.Prelude.{if◌then◌else◌, get_or, is_some, ℤ}
use Rattle.awk_values.specs.declared.comparison.CompareOp.{CompareOp}
use Rattle.sem_primitives.specs.Table.{answer_of, arguments_of, can_fault, listed_answer}
use Rattle.sem_primitives.specs.declared.sorts.Answer.{Answer}
use Rattle.sem_primitives.specs.declared.sorts.Answer.TheVariants as answer
use Rattle.sem_primitives.specs.declared.sorts.Argument.{Argument}
use Rattle.sem_primitives.specs.declared.sorts.Argument.TheVariants as argument
use Rattle.sem_primitives.specs.declared.sorts.Sort.{Sort}
use Rattle.sem_primitives.specs.declared.sorts.Sort.TheVariants as sort
use Rattle.sem_primitives.specs.declared.table.Listed.{Listed}
use Rattle.sem_primitives.specs.declared.table.Listed.TheVariants as listed
use Rattle.sem_primitives.specs.declared.table.Primitive.{Primitive}
use Rattle.sem_primitives.specs.declared.table.Primitive.TheVariants as row
use Rattle.wasm_types.specs.Syntax.{Instructions, Done}
use Rattle.wasm_types.specs.declared.instr.Simple.{Simple}
use Rattle.wasm_types.specs.declared.instr.Simple.TheVariants.{Br, Call as CallOf, Compare as Comparing, GlobalSet, I64Const, LocalSet}
use Rattle.wasm_types.specs.declared.instr.IRelOp.TheVariants.{GtU}
use Rattle.wasm_types.specs.declared.types.ValType.TheVariants as ty
use Rattle.mid_program.specs.declared.mid.Arithmetic.{Arithmetic}
use Rattle.mid_program.specs.declared.mid.Arithmetic.TheVariants as inline
use Rattle.mid_program.specs.declared.mid.Operation.{Operation}
use Rattle.mid_program.specs.declared.mid.Operation.TheVariants.{Host, Inline, AsNumber, FieldNumber}
use Rattle.mid_program.specs.MidMeaning.{three_values}
use Rattle.sem_scripts.specs.Names.{ArrayName, Numbered, Given}
use Rattle.mid_program.specs.Mid.{Kind, Boxed, Unboxed, ArrayKind, Slot, Global, Parameter, Code, Do, Over, Compare, Call, Ask, AskLine, FileLine, Replace, Number, Text, Unset, Get, Set, Array, IsOpen, Choose, Seq, Let, Bound, Codes, End, At, Fixed, Fresh, Form, PrimitiveAnswer, NumberOrText, OptionalNumber, a_value, arguments, form_at, form_of, parameters_at, source_of}
use Rattle.mid_program.specs.Sorted.{Context, all_sorted, all_values, are_enough, are_missing, count_of, fit_call, fit_row, fits, has_lender, is_chosen, is_constant, is_done_here, is_dropped, is_given, is_kept, is_number, is_operation, is_slot, is_tested, keeps_well, lender_at, lends, sorted, stores_well, takes, is_bare, is_mixed}
use Rattle.lower_model.specs.Arithmetic.{calculated, compared, field_checked, is_value, may_be_text, numbers_compared, texts_beside, values_compared, zeroed_if}
use Rattle.lower_model.specs.Emission.{Layout, Immediate, FieldOf, TextOf, NumberOf, name_read, source_pushed, added, added_or, immediate_in, immediate_or, all_appended, all_boxed, all_converted, all_emitted, all_freed, all_given, all_given_pushed, all_pushed, array_meant, array_pushed, asked as asked_until, assigned, assigned_by_number, bound_read, dropped, emitted, field_in, field_or, function_number, handle_stored, keeping_closed, left_over, lent, listed_asked, parameter_read, pending_assigned, performed, sequence_closed, slot_read, slot_set, text_stored, tested, text_dropped, text_let_go, unboxed_read, value_stored}
use Rattle.host_imports.specs.Imports.{import_answer, import_at, import_count, imports}
use Rattle.host_imports.specs.Names.{import_number}
use Rattle.lower_model.specs.Machine.{width}
use Rattle.lower_model.specs.Places.{Bases, array_name, handle_global, made_in, number_global, text_global}
use Rattle.lower_model.specs.Quick.{Holder, OfName, OfParameter, Source, Held, Constant, joined, all_unsure, Addition, addition_names, addition_in}
use Rattle.lower_model.specs.Small.{answer_kept, ask, ask_row, bound_from, boxed_perhaps, code_number, converted, emit, emit_if, kept, kept_code, kept_done, kept_number, kept_value, moved_from, released, to_number, to_value, truth, unused}
use Rattle.host_imports.specs.declared.import.Import.{Import}
use Rattle.host_imports.specs.declared.import.Import.TheVariants.{OfPrimitive}
use Rattle.lower_model.proofs.Calls.{import_found}
use Rattle.agreement.specs.Words.Naming.{any_argv, is_argv, names_argv}
use Rattle.agreement.proofs.WordsLemmas.Tags.{Spares, Tags, all_other, answered, asked, asks_well, entered, enters_well, first_of, is_name, popped, spares, third_of_four}

import_low : (i : Import) → nat_lt (import_number i) import_count ≡ true
import_low i = lt-ltb (import_number i) import_count (slice_get_within imports (import_number i) i (import_found i))

pub or_none : (a b : Bool) → (a || b) ≡ false → (a ≡ false) × (b ≡ false)
or_none true b e = cc
or_none false b e = (refl, e)

-- The array that code stands for is not ARGV, where the code does not name it.

no_array_row : (p : Primitive) → is_operation p ≡ true → fits (PrimitiveAnswer (answer_of p)) sort.Array ≡ false
no_array_row row.NewArray e = cc
no_array_row _ e = refl

value_no_array : (f : Form) → fits f sort.Value ≡ true → fits f sort.Array ≡ false
value_no_array (PrimitiveAnswer (answer.Of sort.Array)) e = cc
value_no_array (PrimitiveAnswer (answer.Of sort.Value)) e = refl
value_no_array (PrimitiveAnswer (answer.Of sort.Number)) e = refl
value_no_array (PrimitiveAnswer (answer.Of sort.Iterator)) e = refl
value_no_array (PrimitiveAnswer answer.Nothing) e = refl
value_no_array (PrimitiveAnswer answer.Truth) e = refl
value_no_array (PrimitiveAnswer answer.Done) e = refl
value_no_array (PrimitiveAnswer answer.Input) e = refl
value_no_array (PrimitiveAnswer answer.Assign) e = refl
value_no_array (PrimitiveAnswer answer.Stream) e = refl
value_no_array (PrimitiveAnswer answer.ValueOrEnd) e = refl
value_no_array (PrimitiveAnswer answer.Name) e = refl
value_no_array NumberOrText e = refl
value_no_array OptionalNumber e = refl

number_no_array : (f : Form) → is_number f ≡ true → fits f sort.Array ≡ false
number_no_array (PrimitiveAnswer (answer.Of sort.Number)) e = refl
number_no_array (PrimitiveAnswer answer.Truth) e = refl
number_no_array f e = cc

pub tested_no_array : (f : Form) → is_tested f ≡ true → fits f sort.Array ≡ false
tested_no_array (PrimitiveAnswer (answer.Of sort.Value)) e = refl
tested_no_array (PrimitiveAnswer (answer.Of sort.Number)) e = refl
tested_no_array (PrimitiveAnswer answer.Truth) e = refl
tested_no_array NumberOrText e = refl
tested_no_array f e = cc

copy_no_array : (fs : List Form) (e : Code) (m : Bool) → (is_number (form_of fs e) || (m && is_bare (source_of e))) ≡ true → fits (form_of fs e) sort.Array ≡ false
copy_no_array fs (Get (Global true i)) m h = refl
copy_no_array fs (Get (Global false i)) m h = refl
copy_no_array fs (Get (Parameter true i)) m h = refl
copy_no_array fs (Get (Parameter false i)) m h = refl
copy_no_array fs e m h = number_no_array (form_of fs e) (or_false (is_number (form_of fs e)) m h)
  where
    or_false : (a m : Bool) → (a || (m && false)) ≡ true → a ≡ true
    or_false true m h = refl
    or_false false true h = h
    or_false false false h = h

taken_no_array : (c : Context) (fs : List Form) (x : Slot) (e : Code) → takes c x (source_of e) (form_of fs e) ≡ true → fits (form_of fs e) sort.Array ≡ false
taken_no_array c fs (Global true i) e h =
    copy_no_array fs e (is_mixed c.mixed i) (and_parts (not (lends c.lenders i)) (is_number (form_of fs e) || (is_mixed c.mixed i && is_bare (source_of e))) h).1
taken_no_array c fs (Global false i) e h = value_no_array (form_of fs e) h
taken_no_array c fs (Parameter true i) e h =
    number_no_array (form_of fs e) (and_parts (not (is_some (lender_at c.lenders i))) (is_number (form_of fs e)) h).1
taken_no_array c fs (Parameter false i) e h = value_no_array (form_of fs e) h

-- what is kept is no array
abbrev pub NoArrays : List Form → Type 0
NoArrays fs = (i : ℕ) → fits (form_at fs i) sort.Array ≡ false

pub none_kept : NoArrays []
none_kept i = refl

pub one_kept : (f : Form) (fs : List Form) → fits f sort.Array ≡ false → NoArrays fs → NoArrays (f ∷ fs)
one_kept f fs e n zero = e
one_kept f fs e n (suc i) = n i

apart : {A : Type 0} (b : Bool) → b ≡ false → b ≡ true → A
apart true e q = cc
apart false e q = cc

module _ (c : Context) where
  -- the answer's form is no array's
  other_form : (fs : List Form) (e : Code) → fits (form_of fs e) sort.Array ≡ false → fits (form_of fs e) sort.Array ≡ true → is_argv (array_meant e) ≡ false
  other_form fs e n q = apart (fits (form_of fs e) sort.Array) n q

  listed_no_array : (l : Listed) → fits (PrimitiveAnswer (listed_answer l)) sort.Array ≡ false
  listed_no_array listed.Sprintf = refl
  listed_no_array (listed.Print to) = refl
  listed_no_array (listed.Printf to) = refl

  done_no_array : (o : Operation) → is_done_here o ≡ true → (es : Codes) (fs : List Form) → fits (form_of fs (Do o es)) sort.Array ≡ false
  done_no_array (Host p) e es fs = no_array_row p e
  done_no_array (Inline a) e es fs = refl
  done_no_array AsNumber e es fs = refl
  done_no_array FieldNumber e es fs = refl

  slot_no_array : (x : Slot) (fs : List Form) → fits (form_of fs (Get x)) sort.Array ≡ false
  slot_no_array (Global true i) fs = refl
  slot_no_array (Global false i) fs = refl
  slot_no_array (Parameter true i) fs = refl
  slot_no_array (Parameter false i) fs = refl

  chosen_no_array : (s : Sort) → is_chosen s ≡ true → fits (PrimitiveAnswer (answer.Of s)) sort.Array ≡ false
  chosen_no_array sort.Value e = refl
  chosen_no_array sort.Number e = refl
  chosen_no_array sort.Array e = cc
  chosen_no_array sort.Iterator e = cc

  pub meant_other : (fs : List Form) (e : Code) → NoArrays fs → sorted c fs e ≡ true → names_argv e ≡ false → fits (form_of fs e) sort.Array ≡ true → is_argv (array_meant e) ≡ false
  unfolding sorted all_sorted
  meant_other fs (Array a) k s n q = n
  meant_other fs (Seq a e) k s n q =
      let x = sorted c fs a in
      let y = sorted c fs e in
      meant_other fs e k (and_parts x y (and_parts (is_dropped (form_of fs a)) (x && y) s).1).1 (or_none (names_argv a) (names_argv e) n).1 q
  meant_other fs (Let a e) k s n q =
      let x = sorted c fs a in
      let y = sorted c (form_of fs a ∷ fs) e in
      let s1 = and_parts (is_kept (form_of fs a)) (keeps_well e && (x && y)) s in
      meant_other (form_of fs a ∷ fs) e (one_kept (form_of fs a) fs (tested_no_array (form_of fs a) s1.0) k) (and_parts x y (and_parts (keeps_well e) (x && y) s1.1).1).1 (or_none (names_argv a) (names_argv e) n).1 q
  meant_other fs (Do o es) k s n q = other_form fs (Do o es) (done_no_array o (and_parts (is_done_here o) (fit_row fs (arguments o) es && all_sorted c fs es) s).0 es fs) q
  meant_other fs (Over l es) k s n q = other_form fs (Over l es) (listed_no_array l) q
  meant_other fs (Compare o a b) k s n q = other_form fs (Compare o a b) refl q
  meant_other fs (Call f es) k s n q = other_form fs (Call f es) refl q
  meant_other fs Ask k s n q = other_form fs Ask refl q
  meant_other fs (AskLine e) k s n q = other_form fs (AskLine e) refl q
  meant_other fs (FileLine f e) k s n q = other_form fs (FileLine f e) refl q
  meant_other fs (Replace all es e) k s n q = other_form fs (Replace all es e) refl q
  meant_other fs (Number z) k s n q = other_form fs (Number z) refl q
  meant_other fs (Text i) k s n q = other_form fs (Text i) refl q
  meant_other fs Unset k s n q = other_form fs Unset refl q
  meant_other fs (Get x) k s n q = other_form fs (Get x) (slot_no_array x fs) q
  meant_other fs (Set x e) k s n q =
      other_form fs (Set x e) (taken_no_array c fs x e (and_parts (takes c x (source_of e) (form_of fs e)) (sorted c fs e) (and_parts (is_slot c x) (takes c x (source_of e) (form_of fs e) && sorted c fs e) s).1).0) q
  meant_other fs (IsOpen i) k s n q = other_form fs (IsOpen i) refl q
  meant_other fs (Choose o a e f) k s n q = other_form fs (Choose o a e f) (chosen_no_array o (and_parts (is_chosen o) _ s).0) q
  meant_other fs (Bound m i) k s n q = other_form fs (Bound m i) (k i) q

-- CODE, before code that may follow whatever lies on the stack.

module _ (tells : Bool) (y : Layout) (sizes : ℕ → Option ℕ) where
  abbrev b : Bases
  b = y.bases

  abbrev before : ℕ
  before = suc (suc (suc y.ranges))

  abbrev pub S : Bool → Instructions → Tags → Type 0
  S e k A = Spares tells before sizes e k A

  pub record Always (e : Bool) (k : Instructions) : Type 0 where
    pub so : (A : Tags) → S e k A

  pub none : Always false Done
  none = record { so = λ A. tt }

  behind : (x : ℕ) → before ≤ x → is_name before x ≡ true
  behind x l = by (nat_eq x text_global)
    where
      by : (z : Bool) → z || nat_le before x ≡ true
      by true = refl
      by false = le-leb before x l

  pub named : (i : ℕ) → is_name before (handle_global y.ranges i) ≡ true
  named i = behind (handle_global y.ranges i) (omega arith)

  pub numbered : (i : ℕ) → is_name before (number_global y.ranges i) ≡ true
  numbered i = behind (number_global y.ranges i) (omega arith)

  asks : (e : Bool) (k : Instructions) (A : Tags) (i : Import) → spares tells i A ≡ true → S e k (answered (import_answer i) (drop (width i) A)) → S e (ask i k) A
  asks e k A i w r = (
    ap (λ t. cond t (asks_well tells (import_at n) A) (enters_well (sizes (n - import_count)) A)) (import_low i) ∙ (ap (λ o. asks_well tells o A) (import_found i) ∙ w),
    subst (S e k) (sym (ap (λ t. cond t (asked (import_at n) A) (entered (sizes (n - import_count)) A)) (import_low i) ∙ ap (λ o. asked o A) (import_found i))) r,
  )
    where
      n : ℕ
      n = import_number i

  pub array_spares : (e : Bool) (k : Instructions) (A : Tags) (a : ArrayName) → is_argv a ≡ false → S e k (true ∷ A) → S e (array_pushed y a k) A
  array_spares e k A (Numbered zero) n r = cc
  array_spares e k A (Numbered (suc zero)) n r = r
  array_spares e k A (Numbered (suc (suc i))) n r = (true, (λ q. named (array_name y.names i)), r)
  array_spares e k A (Given i) n r = r

  whichever : (e : Bool) (a c : Instructions) (A : Tags) (z : Bool) → S e a A → S e c A → S e (if z then a else c) A
  whichever e a c A true r q = r
  whichever e a c A false r q = q

  module _ {e : Bool} {k : Instructions} (r : Always e k) where
    -- Answers.

    pub kept_code_spares : (f : Bool) (t d : ℕ) (a : Bool) (A : Tags) → S e (kept_code b f t d k) (a ∷ A)
    kept_code_spares true t d a A = r.so A
    kept_code_spares false t d a A = r.so A

    pub kept_value_spares : (f : Bool) (t d : ℕ) (A : Tags) → S e (kept_value b f t d k) (true ∷ A)
    kept_value_spares true t d A = r.so A
    kept_value_spares false t d A = r.so A

    pub answer_kept_spares : (t d : ℕ) (A : Tags) → S e (answer_kept b t d k) (true ∷ A)
    answer_kept_spares t d A = (((true, (λ q. refl), tt), (tt, tt)), (tt, r.so []))

    pub kept_number_spares : (f : Bool) (t d : ℕ) (A : Tags) → S e (kept_number b f t d k) (true ∷ A)
    kept_number_spares true t d A = r.so A
    kept_number_spares false t d A = r.so A

    kept_done_spares : (f : Bool) (d : ℕ) (a : Bool) (A : Tags) → S e (kept_done b f d k) (a ∷ A)
    kept_done_spares true d a A = r.so A
    kept_done_spares false d a A = r.so A

    kept_spares : (f : Bool) (a : Answer) (t d : ℕ) (A : Tags) → S e (kept b f a t d k) (answered a A)
    kept_spares f (answer.Of sort.Value) t d A = kept_value_spares f t d A
    kept_spares f (answer.Of sort.Number) t d A = kept_number_spares f t d A
    kept_spares f (answer.Of sort.Array) t d A = r.so (true ∷ A)
    kept_spares f (answer.Of sort.Iterator) t d A = r.so (true ∷ A)
    kept_spares f answer.Truth t d A = kept_code_spares f t d false A
    kept_spares f answer.Input t d A = kept_code_spares f t d false A
    kept_spares f answer.Assign t d A = kept_code_spares f t d false A
    kept_spares f answer.Stream t d A = kept_code_spares f t d false A
    kept_spares f answer.Done t d A = kept_done_spares f d false A
    kept_spares f answer.Nothing t d A = r.so A
    kept_spares f answer.ValueOrEnd t d A = r.so (true ∷ A)
    kept_spares f answer.Name t d A = r.so (false ∷ A)

    -- Conversions.

    perhaps_spares : (t : ℕ) (put : Simple) → S false (emit put Done) (true ∷ []) → Always e (boxed_perhaps b t put k)
    perhaps_spares t put p = record { so = λ A. ((refl, p), ((refl, p), r.so [])) }

    pub to_value_spares : (f : Form) (t : ℕ) → Always e (to_value b f t k)
    to_value_spares (PrimitiveAnswer (answer.Of sort.Value)) t = r
    to_value_spares (PrimitiveAnswer (answer.Of sort.Number)) t = record { so = λ A. (refl, r.so A) }
    to_value_spares (PrimitiveAnswer answer.Truth) t = record { so = λ A. (refl, r.so A) }
    to_value_spares NumberOrText t = record { so = λ A. (((refl, tt), (tt, tt)), ((refl, tt), r.so [])) }
    to_value_spares OptionalNumber t = record { so = λ A. ((refl, tt), ((refl, tt), r.so [])) }
    to_value_spares f t = record { so = λ A. (refl, r.so A) }

    code_number_spares : (t : ℕ) → Always e (code_number b t k)
    code_number_spares t = record { so = λ A. r.so A }

    pub to_number_spares : (f : Form) (t d : ℕ) → Always e (to_number b f t d k)
    to_number_spares (PrimitiveAnswer (answer.Of sort.Value)) t d = record { so = λ A. (refl, r.so A) }
    to_number_spares (PrimitiveAnswer answer.Input) t d = code_number_spares t
    to_number_spares (PrimitiveAnswer answer.Stream) t d = code_number_spares t
    to_number_spares NumberOrText t d = record { so = λ A. (((refl, tt), (tt, tt)), (tt, r.so [])) }
    to_number_spares OptionalNumber t d = record { so = λ A. (tt, (tt, r.so [])) }
    to_number_spares f t d = r

    converted_spares : (f : Form) (s : Sort) (t d : ℕ) → Always e (converted b f s t d k)
    converted_spares f sort.Value t d = to_value_spares f t
    converted_spares f sort.Number t d = to_number_spares f t d
    converted_spares f s t d = r

    truth_spares : (f : Form) (t : ℕ) → Always e (truth b f t k)
    truth_spares (PrimitiveAnswer (answer.Of sort.Value)) t = record { so = λ A. (refl, r.so (false ∷ A)) }
    truth_spares NumberOrText t = record { so = λ A. ((refl, tt), ((tt, (tt, tt)), r.so (false ∷ []))) }
    truth_spares OptionalNumber t = record { so = λ A. (tt, (tt, r.so (false ∷ []))) }
    truth_spares f t = record { so = λ A. r.so (false ∷ A) }

    unused_spares : (f : Form) (t : ℕ) → Always e (unused b f t k)
    unused_spares (PrimitiveAnswer (answer.Of sort.Value)) t = record { so = λ A. (refl, r.so A) }
    unused_spares NumberOrText t = record { so = λ A. ((refl, tt), (tt, r.so [])) }
    unused_spares f t = r

    released_spares : (f : Form) (t : ℕ) → Always e (released b f t k)
    released_spares (PrimitiveAnswer (answer.Of sort.Value)) t = record { so = λ A. ((refl, tt), (tt, r.so [])) }
    released_spares NumberOrText t = record { so = λ A. ((refl, tt), (tt, r.so [])) }
    released_spares f t = r

    bound_spares : (z : Bool) (f : Form) (s t : ℕ) → Always e (bound_from b z f s t k)
    bound_spares true (PrimitiveAnswer (answer.Of sort.Value)) s t = record { so = λ A. r.so A }
    bound_spares true f s t = record { so = λ A. r.so A }
    bound_spares false (PrimitiveAnswer (answer.Of sort.Value)) s t = record { so = λ A. (refl, r.so A) }
    bound_spares false NumberOrText s t = record { so = λ A. ((refl, tt), (tt, r.so [])) }
    bound_spares false f s t = record { so = λ A. r.so A }

    moved_spares : (f : Form) (s t : ℕ) → Always e (moved_from b f s t k)
    moved_spares f s t = bound_spares true f s t

    -- Arithmetic.

    calculated_spares : (a : Arithmetic) (t d : ℕ) → Always e (calculated b a t d k)
    calculated_spares inline.Over t d = record { so = λ A. ((refl, tt), (tt, ((refl, tt), (tt, r.so [])))) }
    calculated_spares inline.Times t d = record { so = λ A. ((tt, ((refl, tt), (tt, tt))), r.so []) }
    calculated_spares a t d = record { so = λ A. ((refl, tt), (tt, r.so [])) }

    field_spares : (t d : ℕ) → Always e (field_checked b t d k)
    field_spares t d = record { so = λ A. ((refl, tt), (tt, r.so [])) }

    zeroed_spares : (f : Form) (t : ℕ) → Always e (zeroed_if b f t k)
    zeroed_spares NumberOrText t = record { so = λ A. (tt, (tt, r.so [])) }
    zeroed_spares OptionalNumber t = record { so = λ A. (tt, (tt, r.so [])) }
    zeroed_spares f t = r

    beside_spares : (f g : Form) (t : ℕ) → Always e (texts_beside b f g t k)
    beside_spares NumberOrText NumberOrText t = record { so = λ A. r.so (false ∷ A) }
    beside_spares NumberOrText g t = record { so = λ A. r.so (false ∷ A) }
    beside_spares f g t = record { so = λ A. r.so (false ∷ A) }

  module _ {e : Bool} {k : Instructions} (r : Always e k) where
    values_spares : (c : CompareOp) (f g : Form) (t d : ℕ) → Always e (values_compared b c f g t d k)
    values_spares c f g t d = to_value_spares (to_value_spares (record { so = λ A. (refl, r.so A) }) g (suc t)) f t

    numbers_spares : (c : CompareOp) (f g : Form) (t : ℕ) → Always e (numbers_compared b c f g t k)
    numbers_spares c f g t = zeroed_spares (zeroed_spares (record { so = λ A. r.so A }) g (suc t)) f t

  module _ {e : Bool} {k : Instructions} (r : Always e k) where
    compared_spares : (c : CompareOp) (f g : Form) (t d : ℕ) → Always e (compared b c f g t d k)
    compared_spares c f g t d = record {
      so = λ A.
          whichever _ _ _ _ (is_value f || is_value g) ((values_spares r c f g t d).so A)
          (whichever _ _ _ _ (may_be_text f || may_be_text g) ((beside_spares two f g t).so A) ((numbers_spares r c f g t).so A));
    }
      where
        two : Always e (emit_if (values_compared b c f g t (suc d) Done) (numbers_compared b c f g t Done) k)
        two = record { so = λ B. ((values_spares none c f g t (suc d)).so [], ((numbers_spares none c f g t).so [], r.so [])) }

    -- Names.

    unboxed_spares : (i t : ℕ) → Always e (unboxed_read y i t k)
    unboxed_spares i t = record { so = λ A. (true, (λ q. numbered i), ((true, (λ q. named i), (refl, (refl, tt))), (tt, r.so []))) }

    handle_spares : (o : Bool) (t : ℕ) (put : Simple) (A : Tags) → S e (emit put k) (true ∷ A) → S e (handle_stored y o t put k) A
    handle_spares true t put A p = p
    handle_spares false t put A p = (refl, p)

    pub dropped_text : (i : ℕ) → Always e (text_dropped y i k)
    dropped_text i = record { so = λ A. (true, (λ q. numbered i), ((true, (λ q. named i), (refl, (refl, tt))), (tt, r.so []))) }

  module _ {e : Bool} {k : Instructions} (r : Always e k) where
    parameter_spares : (o : Option ℕ) (i t : ℕ) → Always e (parameter_read y o i t k)
    parameter_spares None i t = record { so = λ A. r.so A }
    parameter_spares (Some g) i t = record { so = λ A. ((unboxed_spares none g t).so [], (tt, r.so [])) }

    read_spares : (x : Slot) (t : ℕ) → Always e (slot_read y x t k)
    read_spares (Global false i) t = record { so = λ A. (true, (λ q. named i), (refl, (refl, r.so A))) }
    read_spares (Global true i) t = unboxed_spares r i t
    read_spares (Parameter false i) t = record { so = λ A. (refl, r.so A) }
    read_spares (Parameter true i) t = parameter_spares (lender_at y.lenders i) i t

  module _ {e : Bool} {k : Instructions} (r : Always e k) where
    stored_spares : (o : Bool) (f : Form) (t : ℕ) (put : Simple) → ((A : Tags) → S e (emit put k) (true ∷ A)) → S false (emit put Done) (true ∷ []) → Always e (value_stored y o f t put k)
    stored_spares o (PrimitiveAnswer (answer.Of sort.Value)) t put p p0 = record { so = λ A. handle_spares r o t put A (p A) }
    stored_spares o (PrimitiveAnswer (answer.Of sort.Number)) t put p p0 = record { so = λ A. (refl, p A) }
    stored_spares o (PrimitiveAnswer answer.Truth) t put p p0 = record { so = λ A. (refl, p A) }
    stored_spares o NumberOrText t put p p0 = record { so = λ A. (handle_spares none o t put [] p0, ((perhaps_spares none t put p0).so [], r.so [])) }
    stored_spares o OptionalNumber t put p p0 = perhaps_spares r t put p0
    stored_spares o f t put p p0 = record { so = λ A. (refl, p A) }

  module _ {e : Bool} {k : Instructions} (r : Always e k) where
    stored_text : (o : Bool) (i : ℕ) (f : Form) (t : ℕ) → Always e (text_stored y o i f t k)
    stored_text o i (PrimitiveAnswer a) t = r
    stored_text o i NumberOrText t = record { so = λ A. (handle_spares none o t (GlobalSet (handle_global y.ranges i)) [] (refl, tt), (tt, r.so [])) }
    stored_text o i OptionalNumber t = r

  module _ {e : Bool} {k : Instructions} (r : Always e k) where
    set_spares : (o : Bool) (x : Slot) (f : Form) (t : ℕ) → Always e (slot_set y o x f t k)
    set_spares o (Global false i) f t = record { so = λ A. (true, (λ q. named i), (refl, (stored_spares r o f t (GlobalSet (handle_global y.ranges i)) (λ B. (refl, r.so B)) (refl, tt)).so A)) }
    set_spares o (Global true i) f t = dropped_text (stored_text (record { so = λ A. (refl, r.so A) }) o i f t) i
    set_spares o (Parameter false i) f t = record { so = λ A. (refl, (stored_spares r o f t (LocalSet i) (λ B. r.so B) tt).so A) }
    set_spares o (Parameter true i) f t = record { so = λ A. r.so A }

    assigned_spares : (kind : Kind) (i t : ℕ) → Always e (assigned y kind i t k)
    assigned_spares Boxed i t = record { so = λ A. (true, (λ q. named i), (refl, (refl, r.so A))) }
    assigned_spares Unboxed i t = dropped_text (record { so = λ A. (refl, (refl, r.so A)) }) i
    assigned_spares ArrayKind i t = r

  by_number_spares : {e : Bool} {k : Instructions} → Always e k → (ks : List Kind) (i t : ℕ) → Always e (assigned_by_number y ks i t k)
  by_number_spares r [] i t = r
  by_number_spares r (ArrayKind ∷ ks) i t = by_number_spares r ks (suc i) t
  by_number_spares r (Boxed ∷ ks) i t = record { so = λ A. ((assigned_spares none Boxed i t).so [], (tt, (by_number_spares r ks (suc i) t).so [])) }
  by_number_spares r (Unboxed ∷ ks) i t = record { so = λ A. ((assigned_spares none Unboxed i t).so [], (tt, (by_number_spares r ks (suc i) t).so [])) }

  module _ {e : Bool} {k : Instructions} (r : Always e k) where
    pub pending_spares : (t : ℕ) → Always e (pending_assigned y t k)
    pending_spares t = record { so = λ A. (refl, (refl, (by_number_spares r y.names zero t).so A)) }

  pub again_spares : Always false (emit (Br 1) Done)
  again_spares = record { so = λ A. tt }

  module _ {e : Bool} {k : Instructions} (r : Always e k) where
    -- the three rows that are asked until no assignment is pending

    main_asked : (t d : ℕ) → Always e (asked_until y row.Getline t d k)
    main_asked t d = record { so = λ A. ((refl, ((pending_spares again_spares t).so [], (tt, tt))), r.so []) }

    line_asked : (t d : ℕ) → Always e (asked_until y row.GetlineVar t d k)
    line_asked t d = record { so = λ A. ((refl, ((pending_spares again_spares t).so [], (tt, tt))), r.so []) }

    pub start_asked : (t d : ℕ) → Always e (asked_until y row.StartAssign t d k)
    start_asked t d = record { so = λ A. ((refl, ((pending_spares again_spares t).so [], (tt, tt))), r.so []) }

  converts_spares : {e : Bool} {k : Instructions} → Always e k → (fs : List Form) (given : List Argument) (es : Codes) (t d : ℕ) → Always e (all_converted y fs given es t d k)
  converts_spares r fs (argument.Of s ∷ rest) (At e es) t d = converted_spares (converts_spares r fs rest es (suc t) d) (form_of fs e) s t d
  converts_spares r fs (a ∷ rest) (Fixed n es) t d = converts_spares r fs rest es t d
  converts_spares r fs given es t d = r

  -- what operands push
  abbrev pushed : Argument → Tags → Tags
  pushed (argument.Of sort.Value) A = true ∷ A
  pushed (argument.Of sort.Number) A = true ∷ A
  pushed (argument.Of sort.Array) A = true ∷ A
  pushed a A = A

  abbrev all_tags : List Argument → Codes → Tags → Tags
  all_tags (a ∷ rest) (At e es) A = all_tags rest es (pushed a A)
  all_tags (a ∷ rest) (Fixed m es) A = all_tags rest es (not (nat_eq m 0) ∷ A)
  all_tags given es A = A

  -- ARGV is none of them
  abbrev OperandsOther : Codes → List Argument → Type 0
  OperandsOther (At e es) (argument.Of sort.Array ∷ rest) = (is_argv (array_meant e) ≡ false) × OperandsOther es rest
  OperandsOther (At e es) (a ∷ rest) = OperandsOther es rest
  OperandsOther (Fixed m es) (a ∷ rest) = OperandsOther es rest
  OperandsOther es given = Unit {0}

  pushes_spares : (e : Bool) (k : Instructions) (given : List Argument) (es : Codes) (t : ℕ) (A : Tags) → OperandsOther es given → S e k (all_tags given es A) → S e (all_pushed y given es t k) A
  pushes_spares l k [] End t A o r = r
  pushes_spares l k [] (At e es) t A o r = r
  pushes_spares l k [] (Fixed m es) t A o r = r
  pushes_spares l k [] (Fresh es) t A o r = r
  pushes_spares l k (a ∷ rest) End t A o r = r
  pushes_spares l k (a ∷ rest) (Fresh es) t A o r = r
  pushes_spares l k (a ∷ rest) (Fixed m es) t A o r = pushes_spares l k rest es t (not (nat_eq m 0) ∷ A) o r
  pushes_spares l k (argument.Of sort.Value ∷ rest) (At e es) t A o r = pushes_spares l k rest es (suc t) (true ∷ A) o r
  pushes_spares l k (argument.Of sort.Number ∷ rest) (At e es) t A o r = pushes_spares l k rest es (suc t) (true ∷ A) o r
  pushes_spares l k (argument.Of sort.Array ∷ rest) (At e es) t A o r = array_spares _ _ _ (array_meant e) o.0 (pushes_spares l k rest es (suc t) (true ∷ A) o.1 r)
  pushes_spares l k (argument.Of sort.Iterator ∷ rest) (At e es) t A o r = pushes_spares l k rest es (suc t) A o r
  pushes_spares l k (argument.Constant c ∷ rest) (At e es) t A o r = pushes_spares l k rest es (suc t) A o r
  pushes_spares l k (argument.Place ∷ rest) (At e es) t A o r = pushes_spares l k rest es (suc t) A o r

  -- what operands that fit push
  abbrev Like : List Argument → Tags → Tags → Type 0
  Like [] A B = B ≡ A
  Like (argument.Of s ∷ rest) A B = Like rest (pushed (argument.Of s) A) B
  Like (argument.Constant k ∷ rest) A B = (t : Bool) × Like rest (t ∷ A) B
  Like (argument.Place ∷ rest) A B = ⊥

  like : (fs : List Form) (given : List Argument) (es : Codes) (A : Tags) → fit_row fs given es ≡ true → Like given A (all_tags given es A)
  like fs [] End A f = refl
  like fs (argument.Of s ∷ rest) (At e es) A f = like fs rest es (pushed (argument.Of s) A) (and_parts (fits (form_of fs e) s) (fit_row fs rest es) f).1
  like fs (argument.Constant k ∷ rest) (Fixed m es) A f = (not (nat_eq m 0), like fs rest es (not (nat_eq m 0) ∷ A) (and_parts (is_constant k m) (fit_row fs rest es) f).1)
  like fs given es A f = cc

  -- a row that changes an array has it in its place
  array_placed : (p : Primitive) (fs : List Form) (es : Codes) (A : Tags) → is_operation p ≡ true → fit_row fs (arguments_of p) es ≡ true → spares tells (OfPrimitive p) (all_tags (arguments_of p) es A) ≡ true
  array_placed row.Elem fs es A w f = ap (λ T. first_of (popped T)) (like fs (arguments_of row.Elem) es A f)
  array_placed row.SetElem fs es A w f = ap (λ T. first_of (popped (popped T))) (like fs (arguments_of row.SetElem) es A f)
  array_placed row.Delete fs es A w f = ap (λ T. first_of (popped T)) (like fs (arguments_of row.Delete) es A f)
  array_placed row.Clear fs es A w f = ap first_of (like fs (arguments_of row.Clear) es A f)
  array_placed row.Split fs es A w f = let h = like fs (arguments_of row.Split) es A f in ap third_of_four h.1
  array_placed row.Declare fs es A w f = cc
  array_placed _ fs es A w f = refl

  operands_other : (c : Context) (fs : List Form) (given : List Argument) (es : Codes) → NoArrays fs → fit_row fs given es ≡ true → all_sorted c fs es ≡ true → any_argv es ≡ false → OperandsOther es given
  unfolding sorted all_sorted
  operands_other c fs [] End n f s q = tt
  operands_other c fs (argument.Of sort.Array ∷ rest) (At e es) n f s q =
      let g = and_parts (fits (form_of fs e) sort.Array) (fit_row fs rest es) f in
      let t = and_parts (sorted c fs e) (all_sorted c fs es) s in
      let o = or_none (names_argv e) (any_argv es) q in
      (meant_other c fs e n t.0 o.0 g.0, operands_other c fs rest es n g.1 t.1 o.1)
  operands_other c fs (argument.Of sort.Value ∷ rest) (At e es) n f s q =
      operands_other c fs rest es n (and_parts (fits (form_of fs e) sort.Value) (fit_row fs rest es) f).1 (and_parts (sorted c fs e) (all_sorted c fs es) s).1 (or_none (names_argv e) (any_argv es) q).1
  operands_other c fs (argument.Of sort.Number ∷ rest) (At e es) n f s q =
      operands_other c fs rest es n (and_parts (fits (form_of fs e) sort.Number) (fit_row fs rest es) f).1 (and_parts (sorted c fs e) (all_sorted c fs es) s).1 (or_none (names_argv e) (any_argv es) q).1
  operands_other c fs (argument.Of sort.Iterator ∷ rest) (At e es) n f s q =
      operands_other c fs rest es n (and_parts (fits (form_of fs e) sort.Iterator) (fit_row fs rest es) f).1 (and_parts (sorted c fs e) (all_sorted c fs es) s).1 (or_none (names_argv e) (any_argv es) q).1
  operands_other c fs (argument.Constant k ∷ rest) (Fixed m es) n f s q = operands_other c fs rest es n (and_parts (is_constant k m) (fit_row fs rest es) f).1 s q
  operands_other c fs given es n f s q = cc

  module _ {e : Bool} {k : Instructions} (r : Always e k) where
    performed_spares : (c : Context) (o : Operation) (fs : List Form) (es : Codes) (t d : ℕ) → NoArrays fs → is_done_here o ≡ true → fit_row fs (arguments o) es ≡ true → all_sorted c fs es ≡ true → any_argv es ≡ false → Always e (performed y o es t d k)
    performed_spares c (Host p) fs es t d n w f s q = record {
      so = λ A.
          pushes_spares e (ask_row p (kept b (can_fault p) (answer_of p) t d k)) (arguments_of p) es t A (operands_other c fs (arguments_of p) es n f s q)
          (asks e (kept b (can_fault p) (answer_of p) t d k) (all_tags (arguments_of p) es A) (OfPrimitive p) (array_placed p fs es A w f) (kept_spares r (can_fault p) (answer_of p) t d (drop (width (OfPrimitive p)) (all_tags (arguments_of p) es A))));
    }
    performed_spares c (Inline a) fs es t d n w f s q = calculated_spares r a t d
    performed_spares c AsNumber fs es t d n w f s q = r
    performed_spares c FieldNumber fs es t d n w f s q = field_spares r t d

  boxes_spares : {e : Bool} {k : Instructions} → Always e k → (fs : List Form) (es : Codes) (t : ℕ) → Always e (all_boxed y fs es t k)
  boxes_spares r fs (At e es) t = to_value_spares (boxes_spares r fs es (suc t)) (form_of fs e) t
  boxes_spares r fs es t = r

  appends_spares : {e : Bool} {k : Instructions} → Always e k → (es : Codes) (t : ℕ) → Always e (all_appended y es t k)
  appends_spares r (At e es) t = record { so = λ A. (refl, (appends_spares r es (suc t)).so A) }
  appends_spares r es t = r

  module _ {e : Bool} {k : Instructions} (r : Always e k) where
    listed_spares : (x : Listed) (count t d : ℕ) → Always e (listed_asked y x count t d k)
    listed_spares listed.Sprintf c t d = record { so = λ A. (refl, r.so A) }
    listed_spares (listed.Print to) c t d = record { so = λ A. (refl, r.so A) }
    listed_spares (listed.Printf to) c t d = record { so = λ A. (refl, r.so A) }

  module _ {e : Bool} {k : Instructions} (r : Always e k) where
    lent_spares : (f : Form) (t : ℕ) → Always e (lent y f t k)
    lent_spares NumberOrText t = record { so = λ A. ((refl, tt), (tt, r.so [])) }
    lent_spares f t = r

  given_spares : {e : Bool} {k : Instructions} → Always e k → (fs : List Form) (ks : List Kind) (es : Codes) (t : ℕ) → Always e (all_given y fs ks es t k)
  given_spares r fs (Boxed ∷ ks) (At e es) t = to_value_spares (given_spares r fs ks es (suc t)) (form_of fs e) t
  given_spares r fs (Unboxed ∷ ks) (At e es) t = lent_spares (given_spares r fs ks es (suc t)) (form_of fs e) t
  given_spares r fs (ArrayKind ∷ ks) (At e es) t = given_spares r fs ks es (suc t)
  given_spares r fs (kind ∷ ks) (Fresh es) t = given_spares r fs ks es t
  given_spares r fs ks es t = r

  -- what a function is given

  abbrev so_many : ℕ → Tags → Tags
  so_many zero A = A
  so_many (suc n) A = so_many n (true ∷ A)

  so_many_on : (n : ℕ) (A : Tags) → so_many n (true ∷ A) ≡ true ∷ so_many n A
  so_many_on zero A = refl
  so_many_on (suc n) A = so_many_on n (true ∷ A)

  all_so : (n : ℕ) (A : Tags) → all_other n (so_many n A) ≡ true
  all_so zero A = refl
  all_so (suc n) A = ap (all_other (suc n)) (so_many_on n A) ∙ all_so n A

  given_pushed : (e : Bool) (k : Instructions) (c : Context) (lender : ℕ → Option ℕ) (fs : List Form) (ks : List Kind) (es : Codes) (t w : ℕ) (A : Tags) → NoArrays fs → fit_call lender fs ks es ≡ true → all_sorted c fs es ≡ true → any_argv es ≡ false →
      S e k (so_many (length ks) A) → S e (all_given_pushed y ks es t w k) A
  unfolding sorted all_sorted
  given_pushed l k c lender fs [] End t w A n f s q r = r
  given_pushed l k c lender fs (Boxed ∷ ks) (At e es) t w A n f s q r =
      let next : ℕ → Option ℕ = λ i. lender (suc i) in
      let g = and_parts (is_given (lender zero) (source_of e) (form_of fs e) Boxed) (fit_call next fs ks es) f in
      given_pushed l k c next fs ks es (suc t) w (true ∷ A) n g.1 (and_parts (sorted c fs e) (all_sorted c fs es) s).1 (or_none (names_argv e) (any_argv es) q).1 r
  given_pushed l k c lender fs (Unboxed ∷ ks) (At e es) t w A n f s q r =
      let next : ℕ → Option ℕ = λ i. lender (suc i) in
      let g = and_parts (is_given (lender zero) (source_of e) (form_of fs e) Unboxed) (fit_call next fs ks es) f in
      given_pushed l k c next fs ks es (suc t) w (true ∷ A) n g.1 (and_parts (sorted c fs e) (all_sorted c fs es) s).1 (or_none (names_argv e) (any_argv es) q).1 r
  given_pushed l k c lender fs (ArrayKind ∷ ks) (At e es) t w A n f s q r =
      let next : ℕ → Option ℕ = λ i. lender (suc i) in
      let g = and_parts (is_given (lender zero) (source_of e) (form_of fs e) ArrayKind) (fit_call next fs ks es) f in
      let x = and_parts (sorted c fs e) (all_sorted c fs es) s in
      let o = or_none (names_argv e) (any_argv es) q in
      array_spares _ _ _ (array_meant e) (meant_other c fs e n x.0 o.0 g.0) (given_pushed l k c next fs ks es (suc t) w (true ∷ A) n g.1 x.1 o.1 r)
  given_pushed l k c lender fs (ArrayKind ∷ ks) (Fresh es) t w A n f s q r =
      given_pushed l k c (λ i. lender (suc i)) fs ks es t (suc w) (true ∷ A) n f (and_parts (are_missing es) (all_sorted c fs es) s).1 q r
  given_pushed l k c lender fs ks es t w A n f s q r = cc

  freed_spares : {e : Bool} {k : Instructions} → Always e k → (w n : ℕ) → Always e (all_freed y w n k)
  freed_spares r w zero = r
  freed_spares r w (suc n) = record { so = λ A. (refl, (freed_spares r w n).so A) }

  module _ {e : Bool} {k : Instructions} (r : Always e k) where
    left_spares : (c : Code) (f : Form) (t : ℕ) → Always e (left_over y c f t k)
    left_spares (Set x e) f t = r
    left_spares (Seq e c) f t = r
    left_spares (Let e c) f t = r
    left_spares (Bound i e) f t = r
    left_spares e f t = unused_spares r f t

    field_spares_or : {other : Instructions} (o : Option ℤ) (t : ℕ) → Always e other → Always e (field_or y o t k other)
    field_spares_or (Some z) t q = record { so = λ A. (refl, r.so A) }
    field_spares_or None t q = q

    immediate_spares_or : {other : Instructions} (c : CompareOp) (f : Form) (o : Option Immediate) (t d : ℕ) → Always e other → Always e (immediate_or y c f o t d k other)
    immediate_spares_or c f (Some (FieldOf z)) t d q = to_value_spares (record { so = λ A. (refl, (refl, r.so A)) }) f t
    immediate_spares_or c f (Some (TextOf i)) t d q = to_value_spares (record { so = λ A. (refl, (refl, r.so A)) }) f t
    immediate_spares_or c f (Some (NumberOf z)) t d q = to_value_spares (record { so = λ A. (refl, (refl, r.so A)) }) f t
    immediate_spares_or c f None t d q = q

    bound_read_spares : (v z : Bool) (f : Form) (s t : ℕ) → Always e (bound_read y v z f s t k)
    bound_read_spares true z f s t = r
    bound_read_spares false z f s t = bound_spares r z f s t

  module _ {e : Bool} {k : Instructions} (r : Always e k) where
    sequence_spares : (v : Bool) (c : Code) (f : Form) (t : ℕ) → Always e (sequence_closed y v c f t k)
    sequence_spares true c f t = left_spares r c f t
    sequence_spares false c f t = r

    keeping_spares : (v : Bool) (c : Code) (g f : Form) (t : ℕ) → Always e (keeping_closed y v c g f t k)
    keeping_spares true c g f t = left_spares (released_spares r g t) c f (suc t)
    keeping_spares false c g f t = released_spares (moved_spares r f (suc t) t) g t

    text_spares : (fs : List Form) (s : Code) (t : ℕ) → Always e (text_let_go y fs s t k)
    text_spares fs s t = left_spares (record { so = λ A. ((refl, tt), (tt, r.so [])) }) s (form_of (a_value ∷ fs) s) (suc (suc t))

  -- a function is called
  function_spares : (e : Bool) (k : Instructions) (f : ℕ) (ks : List Kind) (A : Tags) → sizes f ≡ Some (length ks) → ((B : Tags) → S e k (true ∷ B)) → S e (emit (CallOf (function_number f)) k) (so_many (length ks) A)
  function_spares e k f ks A n r = (
    ap (λ t. cond t (asks_well tells (import_at (function_number f)) B) (enters_well (sizes (function_number f - import_count)) B)) high ∙ (ap (λ o. enters_well o B) size ∙ all_so (length ks) A),
    subst (S e k) (sym (ap (λ t. cond t (asked (import_at (function_number f)) B) (entered (sizes (function_number f - import_count)) B)) high ∙ ap (λ o. entered o B) size)) (r (drop (length ks) B)),
  )
    where
      B : Tags
      B = so_many (length ks) A

      high : nat_lt (function_number f) import_count ≡ false
      high = le-ltb (function_number f) import_count (omega arith)

      size : sizes (function_number f - import_count) ≡ Some (length ks)
      size = let q : function_number f - import_count ≡ f = omega arith in ap sizes q ∙ n

  -- What is read without a handle, and sums of such.

  -- a holder's number is read
  pub holder_spares : (h : Holder) (e : Bool) (k : Instructions) (A : Tags) → S e k (true ∷ A) → S e (emit (name_read y h) k) A
  holder_spares (OfName i) e k A r = (true, (λ q. numbered i), r)
  holder_spares (OfParameter i) e k A r = r

  joined_spares : {e : Bool} {k : Instructions} → Always e k → (is : List Holder) (q : ℤ) (A : Tags) → S e (joined (name_read y) is q k) (true ∷ A)
  joined_spares r [] q A = r.so (true ∷ A)
  joined_spares r (i ∷ is) q A = holder_spares i _ _ (true ∷ A) (joined_spares r is q A)

  module _ {e : Bool} {k : Instructions} (r : Always e k) where
    pub all_spares : (is : List Holder) (q : ℤ) (w : ℕ) → Always e (all_unsure (name_read y) is q w k)
    all_spares [] q w = record { so = λ A. r.so (false ∷ A) }
    all_spares (i ∷ is) q w = record { so = λ A. holder_spares i _ _ A (joined_spares compared is q A) }
      where
        compared : Always e (emit (I64Const w) (emit (Comparing ty.I64 GtU) k))
        compared = record { so = λ A. r.so (false ∷ popped A) }

  pub source_spares : (e : Bool) (k : Instructions) (x : Source) (A : Tags) → S e k (true ∷ A) → S e (source_pushed y x k) A
  source_spares e k (Held i) A r = holder_spares i e k A r
  source_spares e k (Constant z) A r = r

  added_spares_or : {e : Bool} {anyway k other : Instructions} → Always e k → (o : Option Addition) (t : ℕ) → Always false anyway → Always e other → Always e (added_or y o t anyway k other)
  added_spares_or {e = e} {anyway = anyway} {k = k} r (Some x) t a q = all_spares both (addition_names x) _ _
    where
      both : Always e (emit_if anyway (added y x t Done) k)
      both = record { so = λ A. (a.so [], (source_spares _ _ x.left [] (source_spares _ _ x.right (true ∷ []) tt), r.so [])) }
  added_spares_or r None t a q = q

  module _ (c : Context) (sized : (f : ℕ) → nat_lt f (length c.calls) ≡ true → sizes f ≡ Some (length (parameters_at y.calls f))) (same : c.calls ≡ y.calls) where
    mutual
      unfolding emitted all_emitted sorted all_sorted

      pub emitted_spares : {l : Bool} {k : Instructions} → Always l k → (v : Bool) (fs : List Form) (ts : List ℕ) (e : Code) (t w d : ℕ) → NoArrays fs → sorted c fs e ≡ true → names_argv e ≡ false → Always l (emitted y v fs ts e t w d k)
      emitted_spares r v fs ts (Do o es) t w d n s q =
          let s1 = and_parts (is_done_here o) (fit_row fs (arguments o) es && all_sorted c fs es) s in
          let s2 = and_parts (fit_row fs (arguments o) es) (all_sorted c fs es) s1.1 in
          field_spares_or r (field_in o es) t (added_spares_or r (addition_in o es) t
          (emits_spares (converts_spares (performed_spares none c o fs es t (suc d) n s1.0 s2.0 s2.1 q) fs (arguments o) es t (suc d)) fs ts es t w (suc d) n s2.1 q)
          (emits_spares (converts_spares (performed_spares r c o fs es t d n s1.0 s2.0 s2.1 q) fs (arguments o) es t d) fs ts es t w d n s2.1 q))
      emitted_spares r v fs ts (Over x es) t w d n s q =
          let s2 = and_parts (all_values fs es) (all_sorted c fs es) (and_parts (are_enough x es) (all_values fs es && all_sorted c fs es) s).1 in
          emits_spares (boxes_spares (appends_spares (listed_spares r x (count_of es) t d) es t) fs es t) fs ts es t w d n s2.1 q
      emitted_spares r v fs ts (Compare o e f) t w d n s q =
          let a = sorted c fs e in
          let z = sorted c fs f in
          let s2 = and_parts a z (and_parts (fits (form_of fs f) sort.Value) (a && z) (and_parts (fits (form_of fs e) sort.Value) (fits (form_of fs f) sort.Value && (a && z)) s).1).1 in
          let p = or_none (names_argv e) (names_argv f) q in
          emitted_spares (immediate_spares_or r o (form_of fs e) (immediate_in (is_value (form_of fs e)) f) t d
          (emitted_spares (compared_spares r o (form_of fs e) (form_of fs f) t d) false fs ts f (suc t) w d n s2.1 p.1)) false fs ts e t w d n s2.0 p.0
      emitted_spares {l = l} {k = k} r v fs ts (Call f es) t w d n s q =
          let lender = lender_at c.lenders in
          let js = parameters_at c.calls f in
          let s1 = and_parts (nat_lt f (length c.calls)) (fit_call lender fs js es && all_sorted c fs es) s in
          let s2 = and_parts (fit_call lender fs js es) (all_sorted c fs es) s1.1 in
          let ks = parameters_at y.calls f in
          let fit = subst (λ z. fit_call lender fs (parameters_at z f) es ≡ true) same s2.0 in
          emits_spares (given_spares (record { so = λ A. given_pushed _ _ c lender fs ks es t w A n fit s2.1 q (function_spares l (answer_kept b t d (all_freed y w (made_in es) k)) f ks A (sized f s1.0) (λ B. answer_kept_spares (freed_spares r w (made_in es)) t d B)) }) fs ks es t) fs ts es t w d n s2.1 q
      emitted_spares r v fs ts Ask t w d n s q = main_asked (code_number_spares r t) t d
      emitted_spares r v fs ts (AskLine e) t w d n s q =
          let s0 = and_parts (not (has_lender c.lenders)) (stores_well fs e && sorted c (a_value ∷ fs) e) s in
          let s1 = and_parts (stores_well fs e) (sorted c (a_value ∷ fs) e) s0.1 in
          line_asked (record { so = λ A. ((refl, (emitted_spares (text_spares none fs e t) true (a_value ∷ fs) (suc t ∷ ts) e (suc (suc t)) w (suc d) (one_kept a_value fs refl n) s1.1 q).so []), (tt, (code_number_spares r t).so [])) }) t d
      emitted_spares r v fs ts (FileLine f e) t w d n s q =
          let a = sorted c fs f in
          let z = sorted c (a_value ∷ fs) e in
          let s1 = and_parts a (stores_well fs e && z) (and_parts (fits (form_of fs f) sort.Value) (a && (stores_well fs e && z)) s).1 in
          let s2 = and_parts (stores_well fs e) z s1.1 in
          let p = or_none (names_argv f) (names_argv e) q in
          emitted_spares (to_value_spares (record { so = λ A. (refl, ((refl, (emitted_spares (text_spares none fs e t) true (a_value ∷ fs) (suc t ∷ ts) e (suc (suc t)) w (suc d) (one_kept a_value fs refl n) s2.1 p.1).so []), (tt, (code_number_spares r t).so []))) }) (form_of fs f) t) false fs ts f t w d n s1.0 p.0
      emitted_spares r v fs ts (Replace all es e) t w d n s q =
          let a = all_sorted c fs es in
          let z = sorted c (a_value ∷ fs) e in
          let s1 = and_parts (fit_row fs three_values es) (a && (stores_well fs e && z)) s in
          let s2 = and_parts a (stores_well fs e && z) s1.1 in
          let s3 = and_parts (stores_well fs e) z s2.1 in
          let p = or_none (any_argv es) (names_argv e) q in
          emits_spares (converts_spares (record {
            so = λ A. pushes_spares _ _ three_values es t A (operands_other c fs three_values es n s1.0 s2.0 p.0)
                (refl, (tt, ((refl, (emitted_spares (text_spares none fs e t) true (a_value ∷ fs) (suc t ∷ ts) e (suc (suc t)) w (suc d) (one_kept a_value fs refl n) s3.1 p.1).so []), r.so [])));
          }) fs three_values es t d) fs ts es t w d n s2.0 p.0
      emitted_spares r v fs ts (Number z) t w d n s q = record { so = λ A. r.so A }
      emitted_spares r v fs ts (Text i) t w d n s q = record { so = λ A. (refl, r.so A) }
      emitted_spares r v fs ts Unset t w d n s q = record { so = λ A. r.so A }
      emitted_spares r v fs ts (Get x) t w d n s q = read_spares r x t
      emitted_spares r v fs ts (Set x e) t w d n s q =
          emitted_spares (set_spares r v x (form_of fs e) t) false fs ts e t w d n (and_parts (takes c x (source_of e) (form_of fs e)) (sorted c fs e) (and_parts (is_slot c x) (takes c x (source_of e) (form_of fs e) && sorted c fs e) s).1).1 q
      emitted_spares r v fs ts (Array a) t w d n s q = r
      emitted_spares r v fs ts (IsOpen i) t w d n s q = record { so = λ A. (false, (λ z. cc), r.so A) }
      emitted_spares r v fs ts (Choose o a e f) t w d n s q =
          let x = sorted c fs a in
          let g = sorted c fs e in
          let z = sorted c fs f in
          let s1 = and_parts (is_tested (form_of fs a)) (fits (form_of fs e) o && (fits (form_of fs f) o && (x && (g && z)))) (and_parts (is_chosen o) (is_tested (form_of fs a) && (fits (form_of fs e) o && (fits (form_of fs f) o && (x && (g && z))))) s).1 in
          let s3 = and_parts x (g && z) (and_parts (fits (form_of fs f) o) (x && (g && z)) (and_parts (fits (form_of fs e) o) (fits (form_of fs f) o && (x && (g && z))) s1.1).1).1 in
          let s4 = and_parts g z s3.1 in
          let p = or_none (names_argv a) (names_argv e || names_argv f) q in
          let p1 = or_none (names_argv e) (names_argv f) p.1 in
          emitted_spares (truth_spares (record {
            so = λ A. (
              (emitted_spares (converted_spares none (form_of fs e) o t (suc d)) false fs ts e t w (suc d) n s4.0 p1.0).so [],
              (
                (emitted_spares (converted_spares none (form_of fs f) o t (suc d)) false fs ts f t w (suc d) n s4.1 p1.1).so [],
                r.so [],
              ),
            );
          }) (form_of fs a) t) false fs ts a t w d n s3.0 p.0
      emitted_spares r v fs ts (Seq e f) t w d n s q =
          let a = sorted c fs e in
          let z = sorted c fs f in
          let s1 = and_parts a z (and_parts (is_dropped (form_of fs e)) (a && z) s).1 in
          let p = or_none (names_argv e) (names_argv f) q in
          emitted_spares (left_spares (emitted_spares (sequence_spares r v f (form_of fs f) t) v fs ts f t w d n s1.1 p.1) e (form_of fs e) t) true fs ts e t w d n s1.0 p.0
      emitted_spares r v fs ts (Let e f) t w d n s q =
          let o = form_of fs e in
          let a = sorted c fs e in
          let z = sorted c (o ∷ fs) f in
          let s0 = and_parts (is_kept o) (keeps_well f && (a && z)) s in
          let s1 = and_parts a z (and_parts (keeps_well f) (a && z) s0.1).1 in
          let p = or_none (names_argv e) (names_argv f) q in
          emitted_spares (emitted_spares (keeping_spares r v f o (form_of (o ∷ fs) f) t) v (o ∷ fs) (t ∷ ts) f (suc t) w d (one_kept o fs (tested_no_array o s0.0) n) s1.1 p.1) false fs ts e t w d n s1.0 p.0
      emitted_spares r v fs ts (Bound z i) t w d n s q = bound_read_spares r v z (form_at fs i) (get_or ts i zero) t

      emits_spares : {l : Bool} {k : Instructions} → Always l k → (fs : List Form) (ts : List ℕ) (es : Codes) (t w d : ℕ) → NoArrays fs → all_sorted c fs es ≡ true → any_argv es ≡ false → Always l (all_emitted y fs ts es t w d k)
      emits_spares r fs ts End t w d n s q = r
      emits_spares r fs ts (At e es) t w d n s q =
          let s1 = and_parts (sorted c fs e) (all_sorted c fs es) s in
          let p = or_none (names_argv e) (any_argv es) q in
          emitted_spares (emits_spares r fs ts es (suc t) w d n s1.1 p.1) false fs ts e t w d n s1.0 p.0
      emits_spares r fs ts (Fixed m es) t w d n s q = emits_spares r fs ts es t w d n s q
      emits_spares r fs ts (Fresh es) t w d n s q = record { so = λ A. (refl, (emits_spares r fs ts es t (suc w) d n (and_parts (are_missing es) (all_sorted c fs es) s).1 q).so A) }

    pub dropped_spares : {l : Bool} {k : Instructions} → Always l k → (fs : List Form) (ts : List ℕ) (e : Code) (t w d : ℕ) → NoArrays fs → sorted c fs e ≡ true → names_argv e ≡ false → Always l (dropped y fs ts e t w d k)
    dropped_spares r fs ts e t w d n s q = emitted_spares (left_spares r e (form_of fs e) t) true fs ts e t w d n s q

    pub tested_spares : {l : Bool} {k : Instructions} → Always l k → (fs : List Form) (ts : List ℕ) (e : Code) (t w d : ℕ) → NoArrays fs → sorted c fs e ≡ true → names_argv e ≡ false → Always l (tested y fs ts e t w d k)
    tested_spares r fs ts e t w d n s q = emitted_spares (truth_spares r (form_of fs e) t) false fs ts e t w d n s q
