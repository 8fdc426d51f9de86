-- Code is nested as deep as what comes after it.
use Rattle.std.proofs.Common.{◌≤◌, ℕ, zero, suc, Bool, true, false, ◌||◌, List, [], ◌∷◌, arith}
use Rattle.std.specs.Prelude.{if◌then◌else◌, get_or, Option, Some, None, ℤ}
use Rattle.awk_values.specs.declared.comparison.CompareOp.{CompareOp}
use Rattle.sem_primitives.specs.Table.{arguments_of, answer_of, can_fault}
use Rattle.sem_primitives.specs.declared.sorts.Answer.{Answer}
use Rattle.sem_primitives.specs.declared.sorts.Answer.TheVariants as answer
use Rattle.sem_primitives.specs.declared.sorts.Argument.{Argument}
use Rattle.sem_primitives.specs.declared.sorts.Argument.TheVariants as argument
use Rattle.sem_primitives.specs.declared.sorts.Sort.{Sort}
use Rattle.sem_primitives.specs.declared.sorts.Sort.TheVariants as sort
use Rattle.sem_primitives.specs.declared.table.Listed.{Listed}
use Rattle.sem_primitives.specs.declared.table.Listed.TheVariants as listed
use Rattle.sem_primitives.specs.declared.table.Primitive.{Primitive}
use Rattle.sem_primitives.specs.declared.table.Primitive.TheVariants as row
use Rattle.wasm_types.specs.Syntax.{Instructions, Done}
use Rattle.wasm_types.specs.declared.instr.Simple.{Simple}
use Rattle.wasm_types.specs.declared.instr.Simple.TheVariants.{Br}
use Rattle.mid_program.specs.declared.mid.Arithmetic.{Arithmetic}
use Rattle.mid_program.specs.declared.mid.Arithmetic.TheVariants as inline
use Rattle.mid_program.specs.declared.mid.Operation.{Operation}
use Rattle.mid_program.specs.declared.mid.Operation.TheVariants.{Host, Inline, AsNumber, FieldNumber}
use Rattle.mid_program.specs.MidMeaning.{three_values}
use Rattle.sem_scripts.specs.Names.{ArrayName, Numbered, Given}
use Rattle.mid_program.specs.Mid.{Kind, Boxed, Unboxed, ArrayKind, Slot, Global, Parameter, Code, Do, Over, Compare, Call, Ask, AskLine, FileLine, Replace, Number, Text, Unset, Get, Set, Array, IsOpen, Choose, Seq, Let, Bound, Codes, End, At, Fixed, Fresh, Form, PrimitiveAnswer, NumberOrText, a_value, form_of, form_at, arguments, parameters_at}
use Rattle.mid_program.specs.Sorted.{count_of, lender_at}
use Rattle.lower_model.specs.Arithmetic.{calculated, compared, field_checked, is_value, may_be_text, numbers_compared, texts_beside, values_compared, zeroed_if}
use Rattle.wasm_types.specs.Instructions.{depths}
use Rattle.lower_model.specs.Emission.{Layout, Immediate, FieldOf, TextOf, NumberOf, immediate_in, immediate_or, immediate_pushed, added_or, all_appended, all_boxed, all_converted, all_emitted, all_freed, all_given, all_given_pushed, all_pushed, array_meant, array_pushed, asked, assigned, assigned_by_number, dropped, emitted, bound_read, field_in, field_or, handle_stored, keeping_closed, left_over, lent, listed_asked, name_read, one_given, one_pushed, parameter_read, pending_assigned, performed, sequence_closed, slot_read, slot_set, tested, text_kept, text_let_go, text_stored, value_stored}
use Rattle.lower_model.specs.Places.{Bases, made_in}
use Rattle.lower_model.specs.Quick.{Addition, Holder, addition_in, addition_names, all_unsure, joined}
use Rattle.lower_model.specs.Small.{answer_kept, bound_from, code_number, converted, emit, emit_if, kept, kept_code, kept_done, kept_number, kept_value, moved_from, released, to_number, to_value, truth, unused}

-- blocks are so deep at least
pub record Deep (k : Instructions) (m : ℕ) : Type 0 where
  pub count : m ≤ depths k

pub none : Deep Done 0
none = record { count = omega arith }

pub past : {k : Instructions} {m : ℕ} (i : Simple) → Deep k m → Deep (emit i k) m
past i r = record { count = let h = r.count in omega (arith, h) }

pub choice : {a c k : Instructions} {m : ℕ} → Deep a 0 → Deep c 0 → Deep k m → Deep (emit_if a c k) m
choice a c r = record { count = let x = a.count in let y = c.count in let h = r.count in omega (arith, x, y, h) }

whichever : {a c : Instructions} {m : ℕ} (z : Bool) → Deep a m → Deep c m → Deep (if z then a else c) m
whichever true a c = a
whichever false a c = c

module _ (b : Bases) {k : Instructions} {m : ℕ} where
  pub kept_code_deep : (f : Bool) (t d : ℕ) → Deep k m → Deep (kept_code b f t d k) m
  kept_code_deep true t d r = record { count = let h = r.count in omega (arith, h) }
  kept_code_deep false t d r = record { count = let h = r.count in omega (arith, h) }

  kept_value_deep : (f : Bool) (t d : ℕ) → Deep k m → Deep (kept_value b f t d k) m
  kept_value_deep true t d r = record { count = let h = r.count in omega (arith, h) }
  kept_value_deep false t d r = record { count = let h = r.count in omega (arith, h) }

  answer_kept_deep : (t d : ℕ) → Deep k m → Deep (answer_kept b t d k) m
  answer_kept_deep t d r = record { count = let h = r.count in omega (arith, h) }

  pub kept_number_deep : (f : Bool) (t d : ℕ) → Deep k m → Deep (kept_number b f t d k) m
  kept_number_deep true t d r = record { count = let h = r.count in omega (arith, h) }
  kept_number_deep false t d r = record { count = let h = r.count in omega (arith, h) }

  kept_done_deep : (f : Bool) (d : ℕ) → Deep k m → Deep (kept_done b f d k) m
  kept_done_deep true d r = record { count = let h = r.count in omega (arith, h) }
  kept_done_deep false d r = record { count = let h = r.count in omega (arith, h) }

  pub kept_deep : (f : Bool) (a : Answer) (t d : ℕ) → Deep k m → Deep (kept b f a t d k) m
  kept_deep f (answer.Of sort.Value) t d r = kept_value_deep f t d r
  kept_deep f (answer.Of sort.Number) t d r = kept_number_deep f t d r
  kept_deep f answer.Truth t d r = kept_code_deep f t d r
  kept_deep f answer.Input t d r = kept_code_deep f t d r
  kept_deep f answer.Assign t d r = kept_code_deep f t d r
  kept_deep f answer.Stream t d r = kept_code_deep f t d r
  kept_deep f answer.Done t d r = kept_done_deep f d r
  kept_deep f a t d r = r

  pub to_value_deep : (f : Form) (t : ℕ) → Deep k m → Deep (to_value b f t k) m
  to_value_deep (PrimitiveAnswer (answer.Of sort.Value)) t r = r
  to_value_deep f t r = record { count = let h = r.count in omega (arith, h) }

  code_number_deep : (t : ℕ) → Deep k m → Deep (code_number b t k) m
  code_number_deep t r = record { count = let h = r.count in omega (arith, h) }

  pub to_number_deep : (f : Form) (t d : ℕ) → Deep k m → Deep (to_number b f t d k) m
  to_number_deep (PrimitiveAnswer (answer.Of sort.Value)) t d r = record { count = let h = r.count in omega (arith, h) }
  to_number_deep f t d r = record { count = let h = r.count in omega (arith, h) }

  converted_deep : (f : Form) (s : Sort) (t d : ℕ) → Deep k m → Deep (converted b f s t d k) m
  converted_deep f sort.Value t d r = to_value_deep f t r
  converted_deep f sort.Number t d r = to_number_deep f t d r
  converted_deep f s t d r = r

  pub truth_deep : (f : Form) (t : ℕ) → Deep k m → Deep (truth b f t k) m
  truth_deep (PrimitiveAnswer (answer.Of sort.Value)) t r = record { count = let h = r.count in omega (arith, h) }
  truth_deep f t r = record { count = let h = r.count in omega (arith, h) }

  unused_deep : (f : Form) (t : ℕ) → Deep k m → Deep (unused b f t k) m
  unused_deep (PrimitiveAnswer (answer.Of sort.Value)) t r = record { count = let h = r.count in omega (arith, h) }
  unused_deep f t r = record { count = let h = r.count in omega (arith, h) }

  released_deep : (f : Form) (t : ℕ) → Deep k m → Deep (released b f t k) m
  released_deep (PrimitiveAnswer (answer.Of sort.Value)) t r = record { count = let h = r.count in omega (arith, h) }
  released_deep f t r = record { count = let h = r.count in omega (arith, h) }

  bound_deep : (z : Bool) (f : Form) (s t : ℕ) → Deep k m → Deep (bound_from b z f s t k) m
  bound_deep true (PrimitiveAnswer (answer.Of sort.Value)) s t r = record { count = let h = r.count in omega (arith, h) }
  bound_deep true f s t r = record { count = let h = r.count in omega (arith, h) }
  bound_deep false (PrimitiveAnswer (answer.Of sort.Value)) s t r = record { count = let h = r.count in omega (arith, h) }
  bound_deep false f s t r = record { count = let h = r.count in omega (arith, h) }

  moved_deep : (f : Form) (s t : ℕ) → Deep k m → Deep (moved_from b f s t k) m
  moved_deep f s t r = bound_deep true f s t r

  calculated_deep : (a : Arithmetic) (t d : ℕ) → Deep k m → Deep (calculated b a t d k) m
  calculated_deep inline.Plus t d r = record { count = let h = r.count in omega (arith, h) }
  calculated_deep a t d r = record { count = let h = r.count in omega (arith, h) }

  field_deep : (t d : ℕ) → Deep k m → Deep (field_checked b t d k) m
  field_deep t d r = record { count = let h = r.count in omega (arith, h) }

  zeroed_deep : (f : Form) (t : ℕ) → Deep k m → Deep (zeroed_if b f t k) m
  zeroed_deep NumberOrText t r = record { count = let h = r.count in omega (arith, h) }
  zeroed_deep f t r = record { count = let h = r.count in omega (arith, h) }

  beside_deep : (f g : Form) (t : ℕ) → Deep k m → Deep (texts_beside b f g t k) m
  beside_deep NumberOrText NumberOrText t r = record { count = let h = r.count in omega (arith, h) }
  beside_deep NumberOrText g t r = record { count = let h = r.count in omega (arith, h) }
  beside_deep f g t r = record { count = let h = r.count in omega (arith, h) }

module _ (b : Bases) {k : Instructions} {m : ℕ} where
  values_deep : (c : CompareOp) (f g : Form) (t d : ℕ) → Deep k m → Deep (values_compared b c f g t d k) m
  values_deep c f g t d r = to_value_deep b f t (to_value_deep b g (suc t) (record { count = let h = r.count in omega (arith, h) }))

  numbers_deep : (c : CompareOp) (f g : Form) (t : ℕ) → Deep k m → Deep (numbers_compared b c f g t k) m
  numbers_deep c f g t r = zeroed_deep b f t (zeroed_deep b g (suc t) (record { count = let h = r.count in omega (arith, h) }))

module _ (b : Bases) {k : Instructions} {m : ℕ} where
  compared_deep : (c : CompareOp) (f g : Form) (t d : ℕ) → Deep k m → Deep (compared b c f g t d k) m
  compared_deep c f g t d r =
      whichever (is_value f || is_value g) (values_deep b c f g t d r)
      (whichever (may_be_text f || may_be_text g) (beside_deep b f g t (choice (values_deep b c f g t (suc d) none) (numbers_deep b c f g t none) r)) (numbers_deep b c f g t r))

-- Names and operands.

module _ (y : Layout) where
  abbrev b : Bases
  b = y.bases

  module _ {k : Instructions} {m : ℕ} where
    pub array_deep : (a : ArrayName) → Deep k m → Deep (array_pushed y a k) m
    array_deep (Numbered zero) r = record { count = let h = r.count in omega (arith, h) }
    array_deep (Numbered (suc zero)) r = record { count = let h = r.count in omega (arith, h) }
    array_deep (Numbered (suc (suc i))) r = record { count = let h = r.count in omega (arith, h) }
    array_deep (Given i) r = record { count = let h = r.count in omega (arith, h) }

    parameter_deep : (lender : Option ℕ) (i t : ℕ) → Deep k m → Deep (parameter_read y lender i t k) m
    parameter_deep None i t r = record { count = let h = r.count in omega (arith, h) }
    parameter_deep (Some name) i t r = record { count = let h = r.count in omega (arith, h) }

    read_deep : (x : Slot) (t : ℕ) → Deep k m → Deep (slot_read y x t k) m
    read_deep (Global false i) t r = record { count = let h = r.count in omega (arith, h) }
    read_deep (Global true i) t r = record { count = let h = r.count in omega (arith, h) }
    read_deep (Parameter false i) t r = record { count = let h = r.count in omega (arith, h) }
    read_deep (Parameter true i) t r = parameter_deep (lender_at y.lenders i) i t r

    handle_deep : (o : Bool) (t : ℕ) (put : Simple) → Deep k m → Deep (handle_stored y o t put k) m
    handle_deep true t put r = record { count = let h = r.count in omega (arith, h) }
    handle_deep false t put r = record { count = let h = r.count in omega (arith, h) }

  module _ {k : Instructions} {m : ℕ} where
    stored_deep : (o : Bool) (f : Form) (t : ℕ) (put : Simple) → Deep k m → Deep (value_stored y o f t put k) m
    stored_deep o (PrimitiveAnswer (answer.Of sort.Value)) t put r = handle_deep o t put r
    stored_deep o NumberOrText t put r = record { count = let x = (handle_deep {k = Done} o t put none).count in let h = r.count in omega (arith, x, h) }
    stored_deep o f t put r = record { count = let h = r.count in omega (arith, h) }

  module _ {k : Instructions} {m : ℕ} where
    beside_name_deep : (o : Bool) (i : ℕ) (f : Form) (t : ℕ) → Deep k m → Deep (text_stored y o i f t k) m
    beside_name_deep o i NumberOrText t r = past _ (past _ (past _ (choice (handle_deep o t _ none) none r)))
    beside_name_deep o i f t r = r

  module _ {k : Instructions} {m : ℕ} where
    set_deep : (o : Bool) (x : Slot) (f : Form) (t : ℕ) → Deep k m → Deep (slot_set y o x f t k) m
    set_deep o (Global false i) f t r = past _ (past _ (stored_deep o f t _ r))
    set_deep o (Global true i) f t r =
        past _ (past _ (past _ (choice (past _ (past _ (past _ (past _ none)))) none (beside_name_deep o i f t (past _ (past _ r))))))
    set_deep o (Parameter false i) f t r = past _ (past _ (stored_deep o f t _ r))
    set_deep o (Parameter true i) f t r = record { count = let h = r.count in omega (arith, h) }

    assigned_deep : (kind : Kind) (i t : ℕ) → Deep k m → Deep (assigned y kind i t k) m
    assigned_deep Boxed i t r = record { count = let h = r.count in omega (arith, h) }
    assigned_deep Unboxed i t r = record { count = let h = r.count in omega (arith, h) }
    assigned_deep ArrayKind i t r = r

  by_number_deep : {k : Instructions} {m : ℕ} (ks : List Kind) (i t : ℕ) → Deep k m → Deep (assigned_by_number y ks i t k) m
  by_number_deep [] i t r = r
  by_number_deep (ArrayKind ∷ ks) i t r = by_number_deep ks (suc i) t r
  by_number_deep (Boxed ∷ ks) i t r = past _ (past _ (past _ (choice (assigned_deep Boxed i t none) none (by_number_deep ks (suc i) t r))))
  by_number_deep (Unboxed ∷ ks) i t r = past _ (past _ (past _ (choice (assigned_deep Unboxed i t none) none (by_number_deep ks (suc i) t r))))

  module _ {k : Instructions} {m : ℕ} where
    pub pending_deep : (t : ℕ) → Deep k m → Deep (pending_assigned y t k) m
    pending_deep t r = past _ (past _ (past _ (past _ (past _ (by_number_deep y.names zero t r)))))

  module _ {k : Instructions} {m : ℕ} where
    pub asked_deep : (p : Primitive) (t d : ℕ) → Deep k m → Deep (asked y p t d k) m
    asked_deep p t d r = record { count = let x = (pending_deep {k = emit (Br 1) Done} t (past (Br 1) none)).count in let h = r.count in omega (arith, x, h) }

  pub converts_deep : {k : Instructions} {m : ℕ} (fs : List Form) (given : List Argument) (es : Codes) (t d : ℕ) → Deep k m → Deep (all_converted y fs given es t d k) m
  converts_deep fs (argument.Of s ∷ rest) (At e es) t d r = converted_deep b (form_of fs e) s t d (converts_deep fs rest es (suc t) d r)
  converts_deep fs (a ∷ rest) (Fixed n es) t d r = converts_deep fs rest es t d r
  converts_deep fs given es t d r = r

  module _ {k : Instructions} {m : ℕ} where
    push_deep : (a : Argument) (e : Code) (t : ℕ) → Deep k m → Deep (one_pushed y a e t k) m
    push_deep (argument.Of sort.Value) e t r = record { count = let h = r.count in omega (arith, h) }
    push_deep (argument.Of sort.Number) e t r = record { count = let h = r.count in omega (arith, h) }
    push_deep (argument.Of sort.Array) e t r = array_deep (array_meant e) r
    push_deep a e t r = r

  pub pushes_deep : {k : Instructions} {m : ℕ} (given : List Argument) (es : Codes) (t : ℕ) → Deep k m → Deep (all_pushed y given es t k) m
  pushes_deep (a ∷ rest) (At e es) t r = push_deep a e t (pushes_deep rest es (suc t) r)
  pushes_deep (a ∷ rest) (Fixed n es) t r = past _ (pushes_deep rest es t r)
  pushes_deep given es t r = r

  module _ {k : Instructions} {m : ℕ} where
    performed_deep : (o : Operation) (es : Codes) (t d : ℕ) → Deep k m → Deep (performed y o es t d k) m
    performed_deep (Host p) es t d r = pushes_deep (arguments_of p) es t (past _ (kept_deep b (can_fault p) (answer_of p) t d r))
    performed_deep (Inline a) es t d r = calculated_deep b a t d r
    performed_deep AsNumber es t d r = r
    performed_deep FieldNumber es t d r = field_deep b t d r

  boxes_deep : {k : Instructions} {m : ℕ} (fs : List Form) (es : Codes) (t : ℕ) → Deep k m → Deep (all_boxed y fs es t k) m
  boxes_deep fs (At e es) t r = to_value_deep b (form_of fs e) t (boxes_deep fs es (suc t) r)
  boxes_deep fs es t r = r

  appends_deep : {k : Instructions} {m : ℕ} (es : Codes) (t : ℕ) → Deep k m → Deep (all_appended y es t k) m
  appends_deep (At e es) t r = past _ (past _ (past _ (past _ (appends_deep es (suc t) r))))
  appends_deep es t r = r

  module _ {k : Instructions} {m : ℕ} where
    listed_deep : (l : Listed) (count t d : ℕ) → Deep k m → Deep (listed_asked y l count t d k) m
    listed_deep listed.Sprintf c t d r = record { count = let h = r.count in omega (arith, h) }
    listed_deep (listed.Print to) c t d r = record { count = let h = r.count in omega (arith, h) }
    listed_deep (listed.Printf to) c t d r = record { count = let h = r.count in omega (arith, h) }

  lent_deep : {k : Instructions} {m : ℕ} (f : Form) (t : ℕ) → Deep k m → Deep (lent y f t k) m
  lent_deep NumberOrText t r = record { count = let h = r.count in omega (arith, h) }
  lent_deep f t r = r

  given_deep : {k : Instructions} {m : ℕ} (fs : List Form) (ks : List Kind) (es : Codes) (t : ℕ) → Deep k m → Deep (all_given y fs ks es t k) m
  given_deep fs (Boxed ∷ ks) (At e es) t r = to_value_deep b (form_of fs e) t (given_deep fs ks es (suc t) r)
  given_deep fs (Unboxed ∷ ks) (At e es) t r = lent_deep (form_of fs e) t (given_deep fs ks es (suc t) r)
  given_deep fs (kind ∷ ks) (At e es) t r = given_deep fs ks es (suc t) r
  given_deep fs (kind ∷ ks) (Fresh es) t r = given_deep fs ks es t r
  given_deep fs ks es t r = r

  module _ {k : Instructions} {m : ℕ} where
    one_deep : (kind : Kind) (e : Code) (t : ℕ) → Deep k m → Deep (one_given y kind e t k) m
    one_deep Boxed e t r = record { count = let h = r.count in omega (arith, h) }
    one_deep Unboxed e t r = record { count = let h = r.count in omega (arith, h) }
    one_deep ArrayKind e t r = array_deep (array_meant e) r

  given_pushed_deep : {k : Instructions} {m : ℕ} (ks : List Kind) (es : Codes) (t w : ℕ) → Deep k m → Deep (all_given_pushed y ks es t w k) m
  given_pushed_deep (kind ∷ ks) (At e es) t w r = one_deep kind e t (given_pushed_deep ks es (suc t) w r)
  given_pushed_deep (kind ∷ ks) (Fresh es) t w r = past _ (past _ (given_pushed_deep ks es t (suc w) r))
  given_pushed_deep ks es t w r = r

  freed_deep : {k : Instructions} {m : ℕ} (w n : ℕ) → Deep k m → Deep (all_freed y w n k) m
  freed_deep w zero r = r
  freed_deep w (suc n) r = past _ (past _ (past _ (past _ (freed_deep w n r))))

  joined_deep : {k : Instructions} {m : ℕ} (is : List Holder) (q : ℤ) → Deep k m → Deep (joined (name_read y) is q k) m
  joined_deep [] q r = r
  joined_deep (i ∷ is) q r = past _ (past _ (past _ (past _ (joined_deep is q r))))

  pub all_deep : {k : Instructions} {m : ℕ} (is : List Holder) (q : ℤ) (w : ℕ) → Deep k m → Deep (all_unsure (name_read y) is q w k) m
  all_deep [] q w r = past _ r
  all_deep (i ∷ is) q w r = past _ (past _ (past _ (joined_deep is q (past _ (past _ r)))))

  module _ {k : Instructions} {m : ℕ} where
    pub left_deep : (e : Code) (f : Form) (t : ℕ) → Deep k m → Deep (left_over y e f t k) m
    left_deep (Set x e) f t r = r
    left_deep (Seq e c) f t r = r
    left_deep (Let e c) f t r = r
    left_deep (Bound i e) f t r = r
    left_deep e f t r = unused_deep b f t r

    field_or_deep : {other : Instructions} (o : Option ℤ) (t : ℕ) → Deep k m → Deep other m → Deep (field_or y o t k other) m
    field_or_deep (Some z) t r q = record { count = let h = r.count in omega (arith, h) }
    field_or_deep None t r q = q

    added_or_deep : {other : Instructions} (o : Option Addition) (t : ℕ) (anyway : Instructions) → Deep k m → Deep other m → Deep (added_or y o t anyway k other) m
    added_or_deep (Some q) t anyway r z = all_deep (addition_names q) _ _ (record { count = let h = r.count in omega (arith, h) })
    added_or_deep None t anyway r z = z

    pushed_value_deep : (i : Immediate) → Deep k m → Deep (immediate_pushed y i k) m
    pushed_value_deep (FieldOf z) r = record { count = let h = r.count in omega (arith, h) }
    pushed_value_deep (TextOf i) r = record { count = let h = r.count in omega (arith, h) }
    pushed_value_deep (NumberOf z) r = record { count = let h = r.count in omega (arith, h) }

    bound_read_deep : (v z : Bool) (f : Form) (s t : ℕ) → Deep k m → Deep (bound_read y v z f s t k) m
    bound_read_deep true z f s t r = r
    bound_read_deep false z f s t r = bound_deep b z f s t r

  module _ {k : Instructions} {m : ℕ} where
    pub immediate_deep : {other : Instructions} (c : CompareOp) (f : Form) (o : Option Immediate) (t d : ℕ) → Deep k m → Deep other m → Deep (immediate_or y c f o t d k other) m
    immediate_deep c f (Some i) t d r q = to_value_deep b f t (past _ (past _ (past _ (past _ (pushed_value_deep i (record { count = let h = r.count in omega (arith, h) }))))))
    immediate_deep c f None t d r q = q

    sequence_deep : (v : Bool) (e : Code) (f : Form) (t : ℕ) → Deep k m → Deep (sequence_closed y v e f t k) m
    sequence_deep true e f t r = left_deep e f t r
    sequence_deep false e f t r = r

    keeping_deep : (v : Bool) (e : Code) (g f : Form) (t : ℕ) → Deep k m → Deep (keeping_closed y v e g f t k) m
    keeping_deep true e g f t r = left_deep e f (suc t) (released_deep b g t r)
    keeping_deep false e g f t r = released_deep b g t (moved_deep b f (suc t) t r)

  module _ {k : Instructions} {m : ℕ} where
    text_deep : (fs : List Form) (s : Code) (t : ℕ) → Deep k m → Deep (text_let_go y fs s t k) m
    text_deep fs s t r = left_deep s (form_of (a_value ∷ fs) s) (suc (suc t)) (record { count = let h = r.count in omega (arith, h) })

  line_deep : {k : Instructions} (p : Primitive) (t : ℕ) → Deep k 0 → Deep (text_kept y p t k) 0
  line_deep p t r = past _ (past _ r)

  -- Code.

  mutual
    unfolding emitted all_emitted

    pub emitted_deep : {k : Instructions} {m : ℕ} (v : Bool) (fs : List Form) (ts : List ℕ) (e : Code) (t w d : ℕ) → Deep k m → Deep (emitted y v fs ts e t w d k) m
    emitted_deep v fs ts (Do o es) t w d r = field_or_deep (field_in o es) t r (added_or_deep (addition_in o es) t _ r (emits_deep fs ts es t w d (converts_deep fs (arguments o) es t d (performed_deep o es t d r))))
    emitted_deep v fs ts (Over l es) t w d r = emits_deep fs ts es t w d (boxes_deep fs es t (appends_deep es t (listed_deep l (count_of es) t d r)))
    emitted_deep v fs ts (Compare c e f) t w d r =
        emitted_deep false fs ts e t w d (immediate_deep c (form_of fs e) (immediate_in (is_value (form_of fs e)) f) t d r
        (emitted_deep false fs ts f (suc t) w d (compared_deep b c (form_of fs e) (form_of fs f) t d r)))
    emitted_deep v fs ts (Call f es) t w d r =
        emits_deep fs ts es t w d (given_deep fs (parameters_at y.calls f) es t (given_pushed_deep (parameters_at y.calls f) es t w
        (past _ (answer_kept_deep b t d (freed_deep w (made_in es) r)))))
    emitted_deep v fs ts Ask t w d r = asked_deep row.Getline t d (code_number_deep b t r)
    emitted_deep v fs ts (AskLine s) t w d r =
        asked_deep row.GetlineVar t d (past _ (past _ (past _ (choice (line_deep row.Line t (emitted_deep true (a_value ∷ fs) (suc t ∷ ts) s (suc (suc t)) w (suc d) (text_deep fs s t none))) none (code_number_deep b t r)))))
    emitted_deep v fs ts (FileLine e s) t w d r =
        emitted_deep false fs ts e t w d (to_value_deep b (form_of fs e) t (past _ (past _ (past _ (past _ (kept_code_deep b true t d
        (past _ (past _ (past _ (choice (line_deep row.Line t (emitted_deep true (a_value ∷ fs) (suc t ∷ ts) s (suc (suc t)) w (suc d) (text_deep fs s t none))) none (code_number_deep b t r)))))))))))
    emitted_deep v fs ts (Replace all es s) t w d r =
        emits_deep fs ts es t w d (converts_deep fs three_values es t d (pushes_deep three_values es t
        (past _ (past _ (kept_deep b true (answer.Of sort.Number) t d (past _ (past _ (choice none (line_deep row.SubResult t (emitted_deep true (a_value ∷ fs) (suc t ∷ ts) s (suc (suc t)) w (suc d) (text_deep fs s t none))) r))))))))
    emitted_deep v fs ts (Number z) t w d r = record { count = let h = r.count in omega (arith, h) }
    emitted_deep v fs ts (Text i) t w d r = record { count = let h = r.count in omega (arith, h) }
    emitted_deep v fs ts Unset t w d r = record { count = let h = r.count in omega (arith, h) }
    emitted_deep v fs ts (Get x) t w d r = read_deep x t r
    emitted_deep v fs ts (Set x e) t w d r = emitted_deep false fs ts e t w d (set_deep v x (form_of fs e) t r)
    emitted_deep v fs ts (Array a) t w d r = r
    emitted_deep v fs ts (IsOpen i) t w d r = record { count = let h = r.count in omega (arith, h) }
    emitted_deep v fs ts (Choose s c e f) t w d r =
        emitted_deep false fs ts c t w d (truth_deep b (form_of fs c) t (choice
        (emitted_deep false fs ts e t w (suc d) (converted_deep b (form_of fs e) s t (suc d) none))
        (emitted_deep false fs ts f t w (suc d) (converted_deep b (form_of fs f) s t (suc d) none)) r))
    emitted_deep v fs ts (Seq e f) t w d r = emitted_deep true fs ts e t w d (left_deep e (form_of fs e) t (emitted_deep v fs ts f t w d (sequence_deep v f (form_of fs f) t r)))
    emitted_deep v fs ts (Let e f) t w d r =
        emitted_deep false fs ts e t w d (emitted_deep v (form_of fs e ∷ fs) (t ∷ ts) f (suc t) w d (keeping_deep v f (form_of fs e) (form_of (form_of fs e ∷ fs) f) t r))
    emitted_deep v fs ts (Bound z i) t w d r = bound_read_deep v z (form_at fs i) (get_or ts i zero) t r

    pub emits_deep : {k : Instructions} {m : ℕ} (fs : List Form) (ts : List ℕ) (es : Codes) (t w d : ℕ) → Deep k m → Deep (all_emitted y fs ts es t w d k) m
    emits_deep fs ts End t w d r = r
    emits_deep fs ts (At e es) t w d r = emitted_deep false fs ts e t w d (emits_deep fs ts es (suc t) w d r)
    emits_deep fs ts (Fixed n es) t w d r = emits_deep fs ts es t w d r
    emits_deep fs ts (Fresh es) t w d r = past _ (past _ (emits_deep fs ts es t (suc w) d r))

  module _ {k : Instructions} {m : ℕ} where
    pub dropped_deep : (fs : List Form) (ts : List ℕ) (e : Code) (t w d : ℕ) → Deep k m → Deep (dropped y fs ts e t w d k) m
    dropped_deep fs ts e t w d r = emitted_deep true fs ts e t w d (left_deep e (form_of fs e) t r)

    pub tested_deep : (fs : List Form) (ts : List ℕ) (e : Code) (t w d : ℕ) → Deep k m → Deep (tested y fs ts e t w d k) m
    tested_deep fs ts e t w d r = emitted_deep false fs ts e t w d (truth_deep b (form_of fs e) t r)
