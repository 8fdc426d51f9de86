-- The code of expressions has no places: no `nop` stands in it. And where its calls of functions stand: with how many operands before them, and how many arrays
-- are freed after them.
use Rattle.std.proofs.Common.{◌≡◌, ℕ, zero, suc, ◌≤◌, Bool, true, false, not, ◌&&◌, ◌||◌, cond, nat_eq, nat_lt, List, [], ◌∷◌, ◌++◌, slice_get, refl, ap, ap₂, sym, ◌∙◌, subst, arith}
use Rattle.std.proofs.lemmas.Bool.{and_from, and_parts, eqb-true, le-ltb, lt-ltb, ne_eqb, not-true}
use Rattle.std.proofs.lemmas.Option.{slice_get_within}
use Rattle.std.specs.Prelude.{if◌then◌else◌, get_or, Option, Some, None, ℤ}
use Rattle.awk_values.specs.declared.comparison.CompareOp.{CompareOp}
use Rattle.sem_primitives.specs.Table.{arguments_of, answer_of, can_fault}
use Rattle.sem_primitives.specs.declared.sorts.Answer.{Answer}
use Rattle.sem_primitives.specs.declared.sorts.Answer.TheVariants as answer
use Rattle.sem_primitives.specs.declared.sorts.Argument.{Argument}
use Rattle.sem_primitives.specs.declared.sorts.Argument.TheVariants as argument
use Rattle.sem_primitives.specs.declared.sorts.Sort.{Sort}
use Rattle.sem_primitives.specs.declared.sorts.Sort.TheVariants as sort
use Rattle.sem_primitives.specs.declared.table.Listed.{Listed}
use Rattle.sem_primitives.specs.declared.table.Listed.TheVariants as listed
use Rattle.sem_primitives.specs.declared.table.Primitive.{Primitive}
use Rattle.sem_primitives.specs.declared.table.Primitive.TheVariants as row
use Rattle.wasm_types.specs.Syntax.{Plain, Instructions, Done, Then}
use Rattle.wasm_types.specs.declared.instr.Simple.{Simple}
use Rattle.wasm_types.specs.declared.instr.Simple.TheVariants.{Br, Call as CallOf, I32Const, LocalGet, LocalSet, Nop}
use Rattle.mid_program.specs.declared.mid.Arithmetic.{Arithmetic}
use Rattle.mid_program.specs.declared.mid.Arithmetic.TheVariants as inline
use Rattle.mid_program.specs.declared.mid.Operation.{Operation}
use Rattle.mid_program.specs.declared.mid.Operation.TheVariants.{Host, Inline, AsNumber, FieldNumber}
use Rattle.mid_program.specs.MidMeaning.{three_values}
use Rattle.sem_scripts.specs.Names.{ArrayName, Numbered, Given}
use Rattle.mid_program.specs.Mid.{Kind, Boxed, Unboxed, ArrayKind, Slot, Global, Parameter, Code, Do, Over, Compare, Call, Ask, AskLine, FileLine, Replace, Number, Text, Unset, Get, Set, Array, IsOpen, Choose, Seq, Let, Bound, Codes, End, At, Fixed, Fresh, Form, PrimitiveAnswer, NumberOrText, OptionalNumber, a_value, form_of, form_at, arguments, parameters_at}
use Rattle.mid_program.specs.Sorted.{count_of, lender_at}
use Rattle.lower_model.specs.Arithmetic.{calculated, compared, field_checked, is_value, may_be_text, numbers_compared, texts_beside, values_compared, zeroed_if}
use Rattle.lower_model.specs.Boundaries.{is_nop}
use Rattle.lower_model.specs.Emission.{Layout, Immediate, FieldOf, TextOf, NumberOf, name_read, source_pushed, added_or, immediate_in, immediate_or, immediate_pushed, all_appended, all_boxed, all_converted, all_emitted, all_freed, all_given, all_given_pushed, all_pushed, array_meant, array_pushed, asked, assigned, assigned_by_number, bound_read, dropped, emitted, field_in, field_or, function_number, handle_stored, keeping_closed, left_over, lent, listed_asked, one_given, one_pushed, parameter_read, pending_assigned, performed, sequence_closed, slot_read, slot_set, tested, text_kept, text_let_go, value_stored}
use Rattle.host_imports.specs.Imports.{import_count, imports}
use Rattle.host_imports.specs.Names.{import_number}
use Rattle.lower_model.specs.Machine.{answers_to, arrays_freed, freed_next}
use Rattle.lower_model.specs.Places.{Bases, made_in, handle_local, number_local}
use Rattle.lower_model.specs.Quick.{Holder, OfName, OfParameter, Source, Held, Constant, joined, all_unsure, Addition, addition_names, addition_in}
use Rattle.lower_model.specs.Small.{answer_kept, ask_row, bound_from, boxed_perhaps, code_number, converted, emit, emit_if, kept, kept_code, kept_done, kept_number, kept_value, moved_from, number_is, released, to_number, to_value, truth, unused, when}
use Rattle.lower_model.specs.Statements.{again}
use Rattle.host_imports.specs.declared.import.Import.TheVariants.{FreeArray, OfPrimitive}
use Rattle.lower_model.proofs.Calls.{import_found}
use Rattle.agreement.specs.Places.Statements.{starts_in}
use Rattle.agreement.proofs.PlacesLemmas.Pending.{AllMeet, Limit, Meets, calls_fit, simple_fits}

abbrev free : ℕ
free = import_number FreeArray

-- how many arrays are freed before the next call of a function, those inside blocks aside
abbrev frees_with : Simple → ℕ → ℕ
frees_with (CallOf n) m = cond (nat_lt n import_count) (cond (nat_eq n free) (suc m) m) 0
frees_with i m = m

abbrev pub frees_in : Instructions → ℕ
frees_in Done = 0
frees_in (Then (Plain i) k) = frees_with i (frees_in k)
frees_in (Then i k) = frees_in k

none_freed : (n : ℕ) → 0 ≤ n
none_freed n = omega arith

abbrev Fewer : (x y n : ℕ) → Type 0
Fewer x y n = cond (nat_eq n free) (suc x) 0 ≤ cond (nat_lt n import_count) (cond (nat_eq n free) (suc y) y) 0

freed_first : (n x y : ℕ) → x ≤ y → Fewer x y n
freed_first n x y h = by (nat_eq n free) refl
  where
    by : (b : Bool) → nat_eq n free ≡ b → Fewer x y n
    by true e = let le : suc x ≤ suc y = omega (arith, h) in subst (Fewer x y) (sym (eqb-true n free e)) le
    by false e = subst (λ (b : Bool). cond b (suc x) 0 ≤ cond (nat_lt n import_count) (cond (nat_eq n free) (suc y) y) 0) (sym e) (none_freed _)

-- those that are freed at once are among them
freed_few : (k : Instructions) → arrays_freed k ≤ frees_in k
freed_few (Then (Plain (LocalGet x)) (Then (Plain (I32Const w)) (Then (Plain (LocalSet y)) (Then (Plain (CallOf n)) k)))) = freed_first n (arrays_freed k) (frees_in k) (freed_few k)
freed_few k = none_freed _

-- What is told of code: its places, whether each call of a function in it is one that it may have, where that is asked, and that it frees no arrays but those
-- of its calls.
pub record Nops (l : Limit) (k : Instructions) (m : List Instructions) : Type 0 where
  pub are : starts_in k ≡ m
  pub calls : l.asked ≡ true → calls_fit l k ≡ true
  pub frees : frees_in k ≡ 0

pub none : {l : Limit} → Nops l Done []
none = record { are = refl; calls = λ z. refl; frees = refl }

-- an instruction that is no place, calls no function and frees no array
abbrev pub is_plain : Simple → Bool
is_plain Nop = false
is_plain (CallOf n) = nat_lt n import_count && not (nat_eq n free)
is_plain i = true

low_call : (n : ℕ) → is_plain (CallOf n) ≡ true → (nat_lt n import_count ≡ true) × (nat_eq n free ≡ false)
low_call n e = let w = and_parts (nat_lt n import_count) (not (nat_eq n free)) e in (w.0, not-true (nat_eq n free) w.1)

is_no_place : (i : Simple) → is_plain i ≡ true → is_nop i ≡ 0
is_no_place Nop e = cc
is_no_place i e = refl

no_call : (l : Limit) (i : Simple) (k : Instructions) → is_plain i ≡ true → simple_fits l i k ≡ true
no_call l (CallOf n) k e = ap (λ b. cond b true (l.allowed n (answers_to k) (freed_next k))) (low_call n e).0
no_call l i k e = refl

passes : (i : Simple) (k : Instructions) → is_plain i ≡ true → starts_in (emit i k) ≡ starts_in k
passes i k e = ap (λ n. cond (nat_eq n 0) [] (emit i k ∷ []) ++ starts_in k) (is_no_place i e)

frees_on : (i : Simple) (m : ℕ) → is_plain i ≡ true → frees_with i m ≡ m
frees_on (CallOf n) m e = let w = low_call n e in ap₂ (λ a b. cond {A = ℕ} a (cond {A = ℕ} b (suc m) m) 0) w.0 w.1
frees_on i m e = refl

pub plain : {l : Limit} {k : Instructions} {m : List Instructions} (i : Simple) → is_plain i ≡ true → Nops l k m → Nops l (emit i k) m
plain {l = l} {k = k} i e r = record {
  are = passes i k e ∙ r.are;
  calls = λ z. and_from (simple_fits l i k) (calls_fit l k) (no_call l i k e) (r.calls z);
  frees = frees_on i (frees_in k) e ∙ r.frees;
}

-- imports come before functions, and a primitive frees no array
primitive_low : (p : Primitive) → is_plain (CallOf (import_number (OfPrimitive p))) ≡ true
primitive_low p =
    let i = OfPrimitive p in
    let found = import_found i in
    let other : import_number i ≡ free → ⊥ = λ q. (let e : Some i ≡ Some FreeArray = sym found ∙ (ap (λ n. slice_get imports n) q ∙ import_found FreeArray) in cc) in
    and_from (nat_lt (import_number i) import_count) (not (nat_eq (import_number i) free))
    (lt-ltb (import_number i) import_count (slice_get_within imports (import_number i) i found)) (ap not (ne_eqb (import_number i) free other))

pub choice : {l : Limit} {a c k : Instructions} {m : List Instructions} → Nops l a [] → Nops l c [] → Nops l k m → Nops l (emit_if a c k) m
choice {l = l} {a = a} {c = c} {k = k} a0 c0 r = record {
  are = ap₂ (λ x y. (x ++ y) ++ starts_in k) a0.are c0.are ∙ r.are;
  calls = λ z. and_from (calls_fit l a && calls_fit l c) (calls_fit l k) (and_from (calls_fit l a) (calls_fit l c) (a0.calls z) (c0.calls z)) (r.calls z);
  frees = r.frees;
}

pub rounds : {l : Limit} {a k : Instructions} {p m : List Instructions} → Nops l a p → Nops l k m → Nops l (again a k) (p ++ m)
rounds {l = l} {a = a} {k = k} a0 r = record {
  are = ap₂ (λ x y. x ++ y) a0.are r.are;
  calls = λ z. and_from (calls_fit l a) (calls_fit l k) (a0.calls z) (r.calls z);
  frees = r.frees;
}

pub whichever : {l : Limit} {a c : Instructions} {m : List Instructions} (z : Bool) → Nops l a m → Nops l c m → Nops l (if z then a else c) m
whichever true a c = a
whichever false a c = c

module _ {l : Limit} (b : Bases) {k : Instructions} {m : List Instructions} where
  pub kept_code_nops : (f : Bool) (t d : ℕ) → Nops l k m → Nops l (kept_code b f t d k) m
  kept_code_nops true t d r = record { are = r.are; calls = r.calls; frees = r.frees }
  kept_code_nops false t d r = record { are = r.are; calls = r.calls; frees = r.frees }

  kept_value_nops : (f : Bool) (t d : ℕ) → Nops l k m → Nops l (kept_value b f t d k) m
  kept_value_nops true t d r = record { are = r.are; calls = r.calls; frees = r.frees }
  kept_value_nops false t d r = record { are = r.are; calls = r.calls; frees = r.frees }

  pub kept_number_nops : (f : Bool) (t d : ℕ) → Nops l k m → Nops l (kept_number b f t d k) m
  kept_number_nops true t d r = record { are = r.are; calls = r.calls; frees = r.frees }
  kept_number_nops false t d r = record { are = r.are; calls = r.calls; frees = r.frees }

  kept_done_nops : (f : Bool) (d : ℕ) → Nops l k m → Nops l (kept_done b f d k) m
  kept_done_nops true d r = record { are = r.are; calls = r.calls; frees = r.frees }
  kept_done_nops false d r = record { are = r.are; calls = r.calls; frees = r.frees }

  kept_nops : (f : Bool) (a : Answer) (t d : ℕ) → Nops l k m → Nops l (kept b f a t d k) m
  kept_nops f (answer.Of sort.Value) t d r = kept_value_nops f t d r
  kept_nops f (answer.Of sort.Number) t d r = kept_number_nops f t d r
  kept_nops f answer.Truth t d r = kept_code_nops f t d r
  kept_nops f answer.Input t d r = kept_code_nops f t d r
  kept_nops f answer.Assign t d r = kept_code_nops f t d r
  kept_nops f answer.Stream t d r = kept_code_nops f t d r
  kept_nops f answer.Done t d r = kept_done_nops f d r
  kept_nops f a t d r = r

  pub to_value_nops : (f : Form) (t : ℕ) → Nops l k m → Nops l (to_value b f t k) m
  to_value_nops (PrimitiveAnswer (answer.Of sort.Value)) t r = r
  to_value_nops f t r = record { are = r.are; calls = r.calls; frees = r.frees }

  code_number_nops : (t : ℕ) → Nops l k m → Nops l (code_number b t k) m
  code_number_nops t r = record { are = r.are; calls = r.calls; frees = r.frees }

  pub to_number_nops : (f : Form) (t d : ℕ) → Nops l k m → Nops l (to_number b f t d k) m
  to_number_nops (PrimitiveAnswer (answer.Of sort.Value)) t d r = record { are = r.are; calls = r.calls; frees = r.frees }
  to_number_nops f t d r = record { are = r.are; calls = r.calls; frees = r.frees }

  converted_nops : (f : Form) (s : Sort) (t d : ℕ) → Nops l k m → Nops l (converted b f s t d k) m
  converted_nops f sort.Value t d r = to_value_nops f t r
  converted_nops f sort.Number t d r = to_number_nops f t d r
  converted_nops f s t d r = r

  truth_nops : (f : Form) (t : ℕ) → Nops l k m → Nops l (truth b f t k) m
  truth_nops (PrimitiveAnswer (answer.Of sort.Value)) t r = record { are = r.are; calls = r.calls; frees = r.frees }
  truth_nops f t r = record { are = r.are; calls = r.calls; frees = r.frees }

  unused_nops : (f : Form) (t : ℕ) → Nops l k m → Nops l (unused b f t k) m
  unused_nops (PrimitiveAnswer (answer.Of sort.Value)) t r = record { are = r.are; calls = r.calls; frees = r.frees }
  unused_nops f t r = record { are = r.are; calls = r.calls; frees = r.frees }

  released_nops : (f : Form) (t : ℕ) → Nops l k m → Nops l (released b f t k) m
  released_nops (PrimitiveAnswer (answer.Of sort.Value)) t r = record { are = r.are; calls = r.calls; frees = r.frees }
  released_nops f t r = record { are = r.are; calls = r.calls; frees = r.frees }

  bound_nops : (z : Bool) (f : Form) (s t : ℕ) → Nops l k m → Nops l (bound_from b z f s t k) m
  bound_nops true (PrimitiveAnswer (answer.Of sort.Value)) s t r = record { are = r.are; calls = r.calls; frees = r.frees }
  bound_nops true f s t r = record { are = r.are; calls = r.calls; frees = r.frees }
  bound_nops false (PrimitiveAnswer (answer.Of sort.Value)) s t r = record { are = r.are; calls = r.calls; frees = r.frees }
  bound_nops false f s t r = record { are = r.are; calls = r.calls; frees = r.frees }

  moved_nops : (f : Form) (s t : ℕ) → Nops l k m → Nops l (moved_from b f s t k) m
  moved_nops f s t r = bound_nops true f s t r

  calculated_nops : (a : Arithmetic) (t d : ℕ) → Nops l k m → Nops l (calculated b a t d k) m
  calculated_nops inline.Plus t d r = record { are = r.are; calls = r.calls; frees = r.frees }
  calculated_nops a t d r = record { are = r.are; calls = r.calls; frees = r.frees }

  field_nops : (t d : ℕ) → Nops l k m → Nops l (field_checked b t d k) m
  field_nops t d r = record { are = r.are; calls = r.calls; frees = r.frees }

  zeroed_nops : (f : Form) (t : ℕ) → Nops l k m → Nops l (zeroed_if b f t k) m
  zeroed_nops NumberOrText t r = record { are = r.are; calls = r.calls; frees = r.frees }
  zeroed_nops f t r = record { are = r.are; calls = r.calls; frees = r.frees }

  beside_nops : (f g : Form) (t : ℕ) → Nops l k m → Nops l (texts_beside b f g t k) m
  beside_nops NumberOrText NumberOrText t r = record { are = r.are; calls = r.calls; frees = r.frees }
  beside_nops NumberOrText g t r = record { are = r.are; calls = r.calls; frees = r.frees }
  beside_nops f g t r = record { are = r.are; calls = r.calls; frees = r.frees }

module _ {l : Limit} (b : Bases) {k : Instructions} {m : List Instructions} where
  values_nops : (c : CompareOp) (f g : Form) (t d : ℕ) → Nops l k m → Nops l (values_compared b c f g t d k) m
  values_nops c f g t d r = to_value_nops b f t (to_value_nops b g (suc t) (record { are = r.are; calls = r.calls; frees = r.frees }))

  numbers_nops : (c : CompareOp) (f g : Form) (t : ℕ) → Nops l k m → Nops l (numbers_compared b c f g t k) m
  numbers_nops c f g t r = zeroed_nops b f t (zeroed_nops b g (suc t) (record { are = r.are; calls = r.calls; frees = r.frees }))

module _ {l : Limit} (b : Bases) {k : Instructions} {m : List Instructions} where
  compared_nops : (c : CompareOp) (f g : Form) (t d : ℕ) → Nops l k m → Nops l (compared b c f g t d k) m
  compared_nops c f g t d r =
      whichever (is_value f || is_value g) (values_nops b c f g t d r)
      (whichever (may_be_text f || may_be_text g) (beside_nops b f g t (choice (values_nops b c f g t (suc d) none) (numbers_nops b c f g t none) r)) (numbers_nops b c f g t r))

-- Names and operands.

module _ (y : Layout) (l : Limit) (G : (t f : ℕ) → Codes → Type 0)
    (enough : (t f : ℕ) (es : Codes) → G t f es → l.allowed (function_number f) (handle_local y.bases t) (made_in es) ≡ true) where
  abbrev b : Bases
  b = y.bases

  module _ {k : Instructions} {m : List Instructions} where
    pub array_nops : (a : ArrayName) → Nops l k m → Nops l (array_pushed y a k) m
    array_nops (Numbered zero) r = record { are = r.are; calls = r.calls; frees = r.frees }
    array_nops (Numbered (suc zero)) r = record { are = r.are; calls = r.calls; frees = r.frees }
    array_nops (Numbered (suc (suc i))) r = record { are = r.are; calls = r.calls; frees = r.frees }
    array_nops (Given i) r = record { are = r.are; calls = r.calls; frees = r.frees }

    parameter_nops : (o : Option ℕ) (i t : ℕ) → Nops l k m → Nops l (parameter_read y o i t k) m
    parameter_nops None i t r = record { are = r.are; calls = r.calls; frees = r.frees }
    parameter_nops (Some g) i t r = record { are = r.are; calls = r.calls; frees = r.frees }

    read_nops : (x : Slot) (t : ℕ) → Nops l k m → Nops l (slot_read y x t k) m
    read_nops (Global false i) t r = record { are = r.are; calls = r.calls; frees = r.frees }
    read_nops (Global true i) t r = record { are = r.are; calls = r.calls; frees = r.frees }
    read_nops (Parameter false i) t r = record { are = r.are; calls = r.calls; frees = r.frees }
    read_nops (Parameter true i) t r = parameter_nops (lender_at y.lenders i) i t r

    handle_nops : (o : Bool) (t : ℕ) (put : Simple) → is_plain put ≡ true → Nops l k m → Nops l (handle_stored y o t put k) m
    handle_nops true t put e r = let x = plain put e r in record { are = x.are; calls = x.calls; frees = x.frees }
    handle_nops false t put e r = let x = plain put e r in record { are = x.are; calls = x.calls; frees = x.frees }

  module _ {k : Instructions} {m : List Instructions} where
    perhaps_nops : (t : ℕ) (put : Simple) → is_plain put ≡ true → Nops l k m → Nops l (boxed_perhaps b t put k) m
    perhaps_nops t put e r = plain _ refl (plain _ refl (plain _ refl (choice (plain _ refl (plain put e none)) (plain _ refl (plain _ refl (plain put e none))) r)))

  module _ {k : Instructions} {m : List Instructions} where
    stored_nops : (o : Bool) (f : Form) (t : ℕ) (put : Simple) → is_plain put ≡ true → Nops l k m → Nops l (value_stored y o f t put k) m
    stored_nops o (PrimitiveAnswer (answer.Of sort.Value)) t put e r = handle_nops o t put e r
    stored_nops o NumberOrText t put e r = plain _ refl (plain _ refl (plain _ refl (choice (handle_nops o t put e none) (perhaps_nops t put e none) r)))
    stored_nops o OptionalNumber t put e r = perhaps_nops t put e r
    stored_nops o f t put e r = let x = plain put e r in record { are = x.are; calls = x.calls; frees = x.frees }

  module _ {k : Instructions} {m : List Instructions} where
    set_nops : (o : Bool) (x : Slot) (f : Form) (t : ℕ) → Nops l k m → Nops l (slot_set y o x f t k) m
    set_nops o (Global false i) f t r = plain _ refl (plain _ refl (stored_nops o f t _ refl r))
    set_nops o (Global true i) (PrimitiveAnswer a) t r = record { are = r.are; calls = r.calls; frees = r.frees }
    set_nops o (Global true i) NumberOrText t r =
        plain _ refl (plain _ refl (plain _ refl (choice (plain _ refl (plain _ refl (plain _ refl (plain _ refl none)))) none
        (plain _ refl (plain _ refl (plain _ refl (choice (handle_nops o t _ refl none) none (plain _ refl (plain _ refl r)))))))))
    set_nops o (Global true i) OptionalNumber t r = record { are = r.are; calls = r.calls; frees = r.frees }
    set_nops o (Parameter false i) f t r = plain _ refl (plain _ refl (stored_nops o f t _ refl r))
    set_nops o (Parameter true i) f t r = record { are = r.are; calls = r.calls; frees = r.frees }

    assigned_nops : (kind : Kind) (i t : ℕ) → Nops l k m → Nops l (assigned y kind i t k) m
    assigned_nops Boxed i t r = record { are = r.are; calls = r.calls; frees = r.frees }
    assigned_nops Unboxed i t r = record { are = r.are; calls = r.calls; frees = r.frees }
    assigned_nops ArrayKind i t r = r

  by_number_nops : {k : Instructions} {m : List Instructions} (ks : List Kind) (i t : ℕ) → Nops l k m → Nops l (assigned_by_number y ks i t k) m
  by_number_nops [] i t r = r
  by_number_nops (ArrayKind ∷ ks) i t r = by_number_nops ks (suc i) t r
  by_number_nops (Boxed ∷ ks) i t r = plain _ refl (plain _ refl (plain _ refl (choice (assigned_nops Boxed i t none) none (by_number_nops ks (suc i) t r))))
  by_number_nops (Unboxed ∷ ks) i t r = plain _ refl (plain _ refl (plain _ refl (choice (assigned_nops Unboxed i t none) none (by_number_nops ks (suc i) t r))))

  module _ {k : Instructions} {m : List Instructions} where
    pub pending_nops : (t : ℕ) → Nops l k m → Nops l (pending_assigned y t k) m
    pending_nops t r = plain _ refl (plain _ refl (plain _ refl (plain _ refl (plain _ refl (by_number_nops y.names zero t r)))))

  module _ {k : Instructions} {m : List Instructions} where
    pub asked_nops : (p : Primitive) (t d : ℕ) → Nops l k m → Nops l (asked y p t d k) m
    asked_nops p t d r = rounds asking r
      where
        asking : Nops l (ask_row p (kept_code b true t (suc d) (number_is (number_local b t) 2 (when (pending_assigned y t (emit (Br 1) Done)) Done)))) []
        asking = plain _ (primitive_low p) (kept_code_nops b true t (suc d) (plain _ refl (plain _ refl (plain _ refl (choice (pending_nops t (plain (Br 1) refl none)) none none)))))

  converts_nops : {k : Instructions} {m : List Instructions} (fs : List Form) (given : List Argument) (es : Codes) (t d : ℕ) → Nops l k m → Nops l (all_converted y fs given es t d k) m
  converts_nops fs (argument.Of s ∷ rest) (At e es) t d r = converted_nops b (form_of fs e) s t d (converts_nops fs rest es (suc t) d r)
  converts_nops fs (a ∷ rest) (Fixed n es) t d r = converts_nops fs rest es t d r
  converts_nops fs given es t d r = r

  module _ {k : Instructions} {m : List Instructions} where
    push_nops : (a : Argument) (e : Code) (t : ℕ) → Nops l k m → Nops l (one_pushed y a e t k) m
    push_nops (argument.Of sort.Value) e t r = record { are = r.are; calls = r.calls; frees = r.frees }
    push_nops (argument.Of sort.Number) e t r = record { are = r.are; calls = r.calls; frees = r.frees }
    push_nops (argument.Of sort.Array) e t r = array_nops (array_meant e) r
    push_nops a e t r = r

  pushes_nops : {k : Instructions} {m : List Instructions} (given : List Argument) (es : Codes) (t : ℕ) → Nops l k m → Nops l (all_pushed y given es t k) m
  pushes_nops (a ∷ rest) (At e es) t r = push_nops a e t (pushes_nops rest es (suc t) r)
  pushes_nops (a ∷ rest) (Fixed n es) t r = plain _ refl (pushes_nops rest es t r)
  pushes_nops given es t r = r

  module _ {k : Instructions} {m : List Instructions} where
    performed_nops : (o : Operation) (es : Codes) (t d : ℕ) → Nops l k m → Nops l (performed y o es t d k) m
    performed_nops (Host p) es t d r = pushes_nops (arguments_of p) es t (plain _ (primitive_low p) (kept_nops b (can_fault p) (answer_of p) t d r))
    performed_nops (Inline a) es t d r = calculated_nops b a t d r
    performed_nops AsNumber es t d r = r
    performed_nops FieldNumber es t d r = field_nops b t d r

  boxes_nops : {k : Instructions} {m : List Instructions} (fs : List Form) (es : Codes) (t : ℕ) → Nops l k m → Nops l (all_boxed y fs es t k) m
  boxes_nops fs (At e es) t r = to_value_nops b (form_of fs e) t (boxes_nops fs es (suc t) r)
  boxes_nops fs es t r = r

  appends_nops : {k : Instructions} {m : List Instructions} (es : Codes) (t : ℕ) → Nops l k m → Nops l (all_appended y es t k) m
  appends_nops (At e es) t r = plain _ refl (plain _ refl (plain _ refl (plain _ refl (appends_nops es (suc t) r))))
  appends_nops es t r = r

  module _ {k : Instructions} {m : List Instructions} where
    listed_nops : (x : Listed) (count t d : ℕ) → Nops l k m → Nops l (listed_asked y x count t d k) m
    listed_nops listed.Sprintf c t d r = record { are = r.are; calls = r.calls; frees = r.frees }
    listed_nops (listed.Print to) c t d r = record { are = r.are; calls = r.calls; frees = r.frees }
    listed_nops (listed.Printf to) c t d r = record { are = r.are; calls = r.calls; frees = r.frees }

  module _ {k : Instructions} {m : List Instructions} where
    lent_nops : (f : Form) (t : ℕ) → Nops l k m → Nops l (lent y f t k) m
    lent_nops NumberOrText t r = record { are = r.are; calls = r.calls; frees = r.frees }
    lent_nops f t r = r

  given_nops : {k : Instructions} {m : List Instructions} (fs : List Form) (ks : List Kind) (es : Codes) (t : ℕ) → Nops l k m → Nops l (all_given y fs ks es t k) m
  given_nops fs (Boxed ∷ ks) (At e es) t r = to_value_nops b (form_of fs e) t (given_nops fs ks es (suc t) r)
  given_nops fs (Unboxed ∷ ks) (At e es) t r = lent_nops (form_of fs e) t (given_nops fs ks es (suc t) r)
  given_nops fs (kind ∷ ks) (At e es) t r = given_nops fs ks es (suc t) r
  given_nops fs (kind ∷ ks) (Fresh es) t r = given_nops fs ks es t r
  given_nops fs ks es t r = r

  module _ {k : Instructions} {m : List Instructions} where
    one_nops : (kind : Kind) (e : Code) (t : ℕ) → Nops l k m → Nops l (one_given y kind e t k) m
    one_nops Boxed e t r = record { are = r.are; calls = r.calls; frees = r.frees }
    one_nops Unboxed e t r = record { are = r.are; calls = r.calls; frees = r.frees }
    one_nops ArrayKind e t r = array_nops (array_meant e) r

  given_pushed_nops : {k : Instructions} {m : List Instructions} (ks : List Kind) (es : Codes) (t w : ℕ) → Nops l k m → Nops l (all_given_pushed y ks es t w k) m
  given_pushed_nops (kind ∷ ks) (At e es) t w r = one_nops kind e t (given_pushed_nops ks es (suc t) w r)
  given_pushed_nops (kind ∷ ks) (Fresh es) t w r = plain _ refl (plain _ refl (given_pushed_nops ks es t (suc w) r))
  given_pushed_nops ks es t w r = r

  module _ {k : Instructions} {m : List Instructions} where
    left_nops : (e : Code) (f : Form) (t : ℕ) → Nops l k m → Nops l (left_over y e f t k) m
    left_nops (Set x e) f t r = r
    left_nops (Seq e c) f t r = r
    left_nops (Let e c) f t r = r
    left_nops (Bound i e) f t r = r
    left_nops e f t r = unused_nops b f t r

    field_or_nops : {other : Instructions} (o : Option ℤ) (t : ℕ) → Nops l k m → Nops l other m → Nops l (field_or y o t k other) m
    field_or_nops (Some z) t r q = record { are = r.are; calls = r.calls; frees = r.frees }
    field_or_nops None t r q = q

    pushed_value_nops : (i : Immediate) → Nops l k m → Nops l (immediate_pushed y i k) m
    pushed_value_nops (FieldOf z) r = record { are = r.are; calls = r.calls; frees = r.frees }
    pushed_value_nops (TextOf i) r = record { are = r.are; calls = r.calls; frees = r.frees }
    pushed_value_nops (NumberOf z) r = record { are = r.are; calls = r.calls; frees = r.frees }

    bound_read_nops : (v z : Bool) (f : Form) (s t : ℕ) → Nops l k m → Nops l (bound_read y v z f s t k) m
    bound_read_nops true z f s t r = r
    bound_read_nops false z f s t r = bound_nops b z f s t r

  module _ {k : Instructions} {m : List Instructions} where
    immediate_nops : {other : Instructions} (c : CompareOp) (f : Form) (o : Option Immediate) (t d : ℕ) → Nops l k m → Nops l other m → Nops l (immediate_or y c f o t d k other) m
    immediate_nops c f (Some i) t d r q = to_value_nops b f t (plain _ refl (plain _ refl (plain _ refl (plain _ refl (pushed_value_nops i (record { are = r.are; calls = r.calls; frees = r.frees }))))))
    immediate_nops c f None t d r q = q

    sequence_nops : (v : Bool) (e : Code) (f : Form) (t : ℕ) → Nops l k m → Nops l (sequence_closed y v e f t k) m
    sequence_nops true e f t r = left_nops e f t r
    sequence_nops false e f t r = r

    keeping_nops : (v : Bool) (e : Code) (g f : Form) (t : ℕ) → Nops l k m → Nops l (keeping_closed y v e g f t k) m
    keeping_nops true e g f t r = left_nops e f (suc t) (released_nops b g t r)
    keeping_nops false e g f t r = released_nops b g t (moved_nops b f (suc t) t r)

  module _ {k : Instructions} {m : List Instructions} where
    text_nops : (fs : List Form) (s : Code) (t : ℕ) → Nops l k m → Nops l (text_let_go y fs s t k) m
    text_nops fs s t r = left_nops s (form_of (a_value ∷ fs) s) (suc (suc t)) (record { are = r.are; calls = r.calls; frees = r.frees })

  line_nops : {k : Instructions} (p : Primitive) (t : ℕ) → Nops l k [] → Nops l (text_kept y p t k) []
  line_nops p t r = plain _ (primitive_low p) (plain _ refl r)

  -- the arrays of a call are freed

  freed_starts : (w n : ℕ) (k : Instructions) → starts_in (all_freed y w n k) ≡ starts_in k
  freed_starts w zero k = refl
  freed_starts w (suc n) k = freed_starts w n k

  freed_calls : (w n : ℕ) (k : Instructions) → calls_fit l (all_freed y w n k) ≡ calls_fit l k
  freed_calls w zero k = refl
  freed_calls w (suc n) k = freed_calls w n k

  freed_are : (w n : ℕ) (k : Instructions) → frees_in k ≡ 0 → arrays_freed (all_freed y w n k) ≡ n
  freed_are w zero k e = let le = freed_few k in omega (arith, le, e)
  freed_are w (suc n) k e = ap suc (freed_are w n k e)

  -- a function is called, and its value goes to a temporary; the call is one that the code may have
  function_nops : {k : Instructions} {m : List Instructions} (f : ℕ) (es : Codes) (t w d : ℕ) → (l.asked ≡ true → G t f es) → Nops l k m
      → Nops l (emit (CallOf (function_number f)) (answer_kept b t d (all_freed y w (made_in es) k))) m
  function_nops {k = k} f es t w d lo r =
      let call = CallOf (function_number f) in
      let after = all_freed y w (made_in es) k in
      let high = le-ltb (function_number f) import_count (omega arith) in
      record {
        are = freed_starts w (made_in es) k ∙ r.are;
        calls = λ z. and_from (simple_fits l call (answer_kept b t d after)) (calls_fit l after)
            (ap (λ c. cond c true (l.allowed (function_number f) (handle_local b t) (arrays_freed after))) high
            ∙ (ap (λ c. l.allowed (function_number f) (handle_local b t) c) (freed_are w (made_in es) k r.frees) ∙ enough t f es (lo z)))
            (freed_calls w (made_in es) k ∙ r.calls z);
        frees = ap (λ c. cond {A = ℕ} c (cond {A = ℕ} (nat_eq (function_number f) free) (suc (frees_in after)) (frees_in after)) 0) high;
      }

  -- What is read without a handle, and sums of such.

  -- a holder's number is read
  pub holder_nops : {k : Instructions} {m : List Instructions} (h : Holder) → Nops l k m → Nops l (emit (name_read y h) k) m
  holder_nops (OfName i) r = plain _ refl r
  holder_nops (OfParameter i) r = plain _ refl r

  joined_nops : {k : Instructions} {m : List Instructions} (is : List Holder) (q : ℤ) → Nops l k m → Nops l (joined (name_read y) is q k) m
  joined_nops [] q r = r
  joined_nops (i ∷ is) q r = holder_nops i (plain _ refl (plain _ refl (plain _ refl (joined_nops is q r))))

  pub all_nops : {k : Instructions} {m : List Instructions} (is : List Holder) (q : ℤ) (w : ℕ) → Nops l k m → Nops l (all_unsure (name_read y) is q w k) m
  all_nops [] q w r = plain _ refl r
  all_nops (i ∷ is) q w r = holder_nops i (plain _ refl (plain _ refl (joined_nops is q (plain _ refl (plain _ refl r)))))

  pub source_nops : {k : Instructions} {m : List Instructions} (x : Source) → Nops l k m → Nops l (source_pushed y x k) m
  source_nops (Held i) r = holder_nops i r
  source_nops (Constant z) r = plain _ refl r

  added_or_nops : {anyway k other : Instructions} {m : List Instructions} (o : Option Addition) (t : ℕ) → Nops l anyway [] → Nops l k m → Nops l other m → Nops l (added_or y o t anyway k other) m
  added_or_nops (Some q) t a r x = all_nops (addition_names q) _ _ (choice a (source_nops q.left (source_nops q.right (plain _ refl (plain _ refl none)))) r)
  added_or_nops None t a r x = x

  -- Code.

  mutual
    unfolding emitted all_emitted

    pub emitted_nops : {k : Instructions} {m : List Instructions} (v : Bool) (fs : List Form) (ts : List ℕ) (e : Code) (t w d : ℕ) → (l.asked ≡ true → Meets G t e) → Nops l k m → Nops l (emitted y v fs ts e t w d k) m
    emitted_nops v fs ts (Do o es) t w d lo r =
        field_or_nops (field_in o es) t r (added_or_nops (addition_in o es) t
        (emits_nops fs ts es t w (suc d) lo (converts_nops fs (arguments o) es t (suc d) (performed_nops o es t (suc d) none))) r
        (emits_nops fs ts es t w d lo (converts_nops fs (arguments o) es t d (performed_nops o es t d r))))
    emitted_nops v fs ts (Over x es) t w d lo r = emits_nops fs ts es t w d lo (boxes_nops fs es t (appends_nops es t (listed_nops x (count_of es) t d r)))
    emitted_nops v fs ts (Compare c e f) t w d lo r =
        emitted_nops false fs ts e t w d (λ z. (lo z).0) (immediate_nops c (form_of fs e) (immediate_in (is_value (form_of fs e)) f) t d r
        (emitted_nops false fs ts f (suc t) w d (λ z. (lo z).1) (compared_nops b c (form_of fs e) (form_of fs f) t d r)))
    emitted_nops v fs ts (Call f es) t w d lo r =
        emits_nops fs ts es t w d (λ z. (lo z).1) (given_nops fs (parameters_at y.calls f) es t (given_pushed_nops (parameters_at y.calls f) es t w
        (function_nops f es t w d (λ z. (lo z).0) r)))
    emitted_nops v fs ts Ask t w d lo r = asked_nops row.Getline t d (code_number_nops b t r)
    emitted_nops v fs ts (AskLine s) t w d lo r =
        asked_nops row.GetlineVar t d (plain _ refl (plain _ refl (plain _ refl
        (choice (line_nops row.Line t (emitted_nops true (a_value ∷ fs) (suc t ∷ ts) s (suc (suc t)) w (suc d) lo (text_nops fs s t none))) none (code_number_nops b t r)))))
    emitted_nops v fs ts (FileLine e s) t w d lo r =
        emitted_nops false fs ts e t w d (λ z. (lo z).0) (to_value_nops b (form_of fs e) t (plain _ refl (plain _ refl (plain _ refl (plain _ refl (kept_code_nops b true t d (plain _ refl (plain _ refl (plain _ refl
        (choice (line_nops row.Line t (emitted_nops true (a_value ∷ fs) (suc t ∷ ts) s (suc (suc t)) w (suc d) (λ z. (lo z).1) (text_nops fs s t none))) none (code_number_nops b t r)))))))))))
    emitted_nops v fs ts (Replace all es s) t w d lo r =
        emits_nops fs ts es t w d (λ z. (lo z).0) (converts_nops fs three_values es t d (pushes_nops three_values es t
        (plain _ refl (plain _ refl (kept_nops b true (answer.Of sort.Number) t d (plain _ refl (plain _ refl
        (choice none (line_nops row.SubResult t (emitted_nops true (a_value ∷ fs) (suc t ∷ ts) s (suc (suc t)) w (suc d) (λ z. (lo z).1) (text_nops fs s t none))) r))))))))
    emitted_nops v fs ts (Number z) t w d lo r = record { are = r.are; calls = r.calls; frees = r.frees }
    emitted_nops v fs ts (Text i) t w d lo r = record { are = r.are; calls = r.calls; frees = r.frees }
    emitted_nops v fs ts Unset t w d lo r = record { are = r.are; calls = r.calls; frees = r.frees }
    emitted_nops v fs ts (Get x) t w d lo r = read_nops x t r
    emitted_nops v fs ts (Set x e) t w d lo r = emitted_nops false fs ts e t w d lo (set_nops v x (form_of fs e) t r)
    emitted_nops v fs ts (Array a) t w d lo r = r
    emitted_nops v fs ts (IsOpen i) t w d lo r = record { are = r.are; calls = r.calls; frees = r.frees }
    emitted_nops v fs ts (Choose s c e f) t w d lo r =
        emitted_nops false fs ts c t w d (λ z. (lo z).0) (truth_nops b (form_of fs c) t (choice
        (emitted_nops false fs ts e t w (suc d) (λ z. (lo z).1.0) (converted_nops b (form_of fs e) s t (suc d) none))
        (emitted_nops false fs ts f t w (suc d) (λ z. (lo z).1.1) (converted_nops b (form_of fs f) s t (suc d) none)) r))
    emitted_nops v fs ts (Seq e f) t w d lo r = emitted_nops true fs ts e t w d (λ z. (lo z).0) (left_nops e (form_of fs e) t (emitted_nops v fs ts f t w d (λ z. (lo z).1) (sequence_nops v f (form_of fs f) t r)))
    emitted_nops v fs ts (Let e f) t w d lo r =
        emitted_nops false fs ts e t w d (λ z. (lo z).0) (emitted_nops v (form_of fs e ∷ fs) (t ∷ ts) f (suc t) w d (λ z. (lo z).1)
        (keeping_nops v f (form_of fs e) (form_of (form_of fs e ∷ fs) f) t r))
    emitted_nops v fs ts (Bound z i) t w d lo r = bound_read_nops v z (form_at fs i) (get_or ts i zero) t r

    emits_nops : {k : Instructions} {m : List Instructions} (fs : List Form) (ts : List ℕ) (es : Codes) (t w d : ℕ) → (l.asked ≡ true → AllMeet G t es) → Nops l k m → Nops l (all_emitted y fs ts es t w d k) m
    emits_nops fs ts End t w d lo r = r
    emits_nops fs ts (At e es) t w d lo r = emitted_nops false fs ts e t w d (λ z. (lo z).0) (emits_nops fs ts es (suc t) w d (λ z. (lo z).1) r)
    emits_nops fs ts (Fixed n es) t w d lo r = emits_nops fs ts es t w d lo r
    emits_nops fs ts (Fresh es) t w d lo r = plain _ refl (plain _ refl (emits_nops fs ts es t (suc w) d lo r))

  module _ {k : Instructions} {m : List Instructions} where
    pub dropped_nops : (fs : List Form) (ts : List ℕ) (e : Code) (t w d : ℕ) → (l.asked ≡ true → Meets G t e) → Nops l k m → Nops l (dropped y fs ts e t w d k) m
    dropped_nops fs ts e t w d lo r = emitted_nops true fs ts e t w d lo (left_nops e (form_of fs e) t r)

    pub tested_nops : (fs : List Form) (ts : List ℕ) (e : Code) (t w d : ℕ) → (l.asked ≡ true → Meets G t e) → Nops l k m → Nops l (tested y fs ts e t w d k) m
    tested_nops fs ts e t w d lo r = emitted_nops false fs ts e t w d lo (truth_nops b (form_of fs e) t r)
