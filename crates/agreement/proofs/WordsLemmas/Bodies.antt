-- So the functions of a program that does not name ARGV.
use Rattle.std.proofs.Common.{◌≡◌, ℕ, zero, suc, ◌+◌, ◌<◌, Bool, true, false, not, ◌&&◌, ◌||◌, nat_eq, nat_le, nat_lt, List, [], ◌∷◌, ◌++◌, length, Option, Some, None, refl, sym, subst, arith}
use Rattle.std.proofs.lemmas.Bool.{and_parts, eq-eqb, lt-leb, ltb-true, ne_eqb}
use Rattle.std.specs.Prelude.{if◌then◌else◌, is_some, ℤ}
use Rattle.sem_primitives.specs.ConstantNumbers.{flag_number}
use Rattle.sem_primitives.specs.declared.sorts.Answer.TheVariants as answer
use Rattle.sem_primitives.specs.declared.sorts.Sort.TheVariants as sort
use Rattle.sem_primitives.specs.declared.table.Primitive.TheVariants as row
use Rattle.wasm_types.specs.Syntax.{Instructions, Done}
use Rattle.wasm_types.specs.declared.instr.IBinOp.{IBinOp}
use Rattle.wasm_types.specs.declared.instr.CvtOp.TheVariants.{I32WrapI64}
use Rattle.wasm_types.specs.declared.instr.IRelOp.TheVariants.{Ne}
use Rattle.wasm_types.specs.declared.instr.ITestOp.TheVariants.{Eqz}
use Rattle.wasm_types.specs.declared.instr.Simple.TheVariants.{Br, BrIf, Compare, Convert, GlobalGet, GlobalSet, I32Const, LocalGet, LocalSet, Nop, Test}
use Rattle.wasm_types.specs.declared.types.ValType.TheVariants as ty
use Rattle.sem_scripts.specs.Names.{ArrayName}
use Rattle.mid_program.specs.Mid.{Kind, Boxed, Unboxed, ArrayKind, Parameter, Slot, Code, Get, Choose, Let, Form, PrimitiveAnswer, NumberOrText, OptionalNumber, Step, Eval, Block as Steps_, If as Either, Loop, Each, Break, Continue, Next, Exit, ExitWith, Return, Mark, Steps, NoStep, Then as AndThen, Program, a_value, form_of, parameters_at}
use Rattle.mid_program.specs.Sorted.{Context, all_sorted, calls_of, context_of, fits, is_array_place, is_dropped, is_kept, is_tested, keeps_well, lender_at, sorted, step_sorted, steps_sorted, stores_well, test_sorted}
use Rattle.lower_model.specs.Appends.{Append, append_in}
use Rattle.lower_model.specs.Cells.{cell_at}
use Rattle.lower_model.specs.Emission.{Layout, asked, dropped, field_at, tested}
use Rattle.lower_model.specs.Machine.{zeros}
use Rattle.wasm_types.specs.declared.types.ValType.{ValType}
use Rattle.lower_model.specs.Places.{Bases, answer_local, array_local, handle_global, handle_local, handle_types, iterator_local, local_types, number_global, number_local, status_global, temporary_types, text_global, way_global}
use Rattle.lower_model.specs.Quick.{Within, test_within, Source, Holder, OfName, OfParameter, Held, Constant, Sum, sum_names, sum_op, sum_in, Update, update_in, Tally, tally_in, Remainder, remainder_in, remainder_names, multiplied, Counted, counted_in, Pair, pair_names, pair_in, step_jumps, is_nothing}
use Rattle.lower_model.specs.Small.{ask_row, emit, emit_if, kept_value, moved_out}
use Rattle.lower_model.specs.Statements.{again, answer_given, parameter_returned, returned, routine_ended, left_by, pair_left, summed, way_exit, way_next, global_found, numbered_or, parameter_found, name_numbered, source_numbered, source_taken, sum_kept, sum_taken, summed_anyway, field_numbered, both_asked, element_numbered, element_given, text_appended, chain_appended, appended_dropped, remainder_taken, remainder_dropped, barely_dropped, plainly_dropped, quickly_dropped, left_unless_counted, left_unless_pair, left_unless, all_emptied, arrays_emptied, arrays_swept, block, first_part, goes_on, has_functions, iterator_left, iterators_emptied, iterators_swept, key_stored, last_part, left_swept, main_body, names_declared, names_made, parameters_dropped, part_done, record_done, records_read, routine_body, routines_declared, step_emitted, steps_emitted, swept, temporaries_emptied, temporaries_swept, name_put}
use Rattle.lower_model.proofs.Chains.{IsChain, one_text, more_texts, append_is, chain_sorted, last_appended, last_sorted}
use Rattle.lower_model.proofs.Tallies.{Shape, Updating, Following, Leading, tally_code, tally_is, tally_sorted}
use Rattle.lower_model.proofs.Updating.{added_code, added_is}
use Rattle.agreement.specs.Words.Naming.{is_argv, names_argv, step_names, steps_name}
use Rattle.agreement.proofs.WordsLemmas.Emitting.{Always, S, holder_spares, all_spares, source_spares, tested_no_array, array_spares, dropped_spares, dropped_text, emitted_spares, named, none, none_kept, numbered, one_kept, or_none, pending_spares, start_asked, tested_spares, to_number_spares, to_value_spares}
use Rattle.agreement.proofs.WordsLemmas.Tags.{Tags, is_name, is_other, is_set, popped}

-- what is kept first is sorted
let_sorted : (c : Context) (a e : Code) → sorted c [] (Let a e) ≡ true → sorted c [] a ≡ true
unfolding sorted all_sorted
let_sorted c a e s =
    let x = sorted c [] a in
    let z = sorted c (form_of [] a ∷ []) e in
    (and_parts x z (and_parts (keeps_well e) (x && z) (and_parts (is_kept (form_of [] a)) (keeps_well e && (x && z)) s).1).1).0

-- a counter's key, what is added, and its arrays are not ARGV
tally_names : (i : Shape) (q : Tally) → names_argv (tally_code i q) ≡ false → (names_argv q.key ≡ false) × (names_argv q.added ≡ false) × (is_argv q.read ≡ false) × (is_argv q.written ≡ false)
tally_names Updating q h =
    let a = or_none _ _ h in
    let b = or_none _ _ a.1 in
    let d = or_none _ _ b.1 in
    (a.0, b.0, (or_none _ _ (or_none _ _ d.0).0).0, (or_none _ _ (or_none _ _ d.1).0).0)
tally_names Following q h =
    let a = or_none _ _ h in
    let b = or_none _ _ a.1 in
    let d = or_none _ _ b.1 in
    (a.0, (or_none _ _ d.0).0, (or_none _ _ (or_none _ _ b.0).0).0, (or_none _ _ (or_none _ _ d.1).0).0)
tally_names Leading q h =
    let a = or_none _ _ h in
    let b = or_none _ _ a.1 in
    let d = or_none _ _ b.0 in
    (a.0, (or_none _ _ d.1).0, (or_none _ _ d.0).0, (or_none _ _ (or_none _ _ b.1).0).0)

either_so : (a n : Bool) → n ≡ false → (a || not n) ≡ true
either_so true n e = refl
either_so false true e = cc
either_so false false e = refl

module _ (tells : Bool) (y : Layout) (sizes : ℕ → Option ℕ) (whole : Program) (own : List Kind) (sized : (f : ℕ) → nat_lt f (length (calls_of whole)) ≡ true → sizes f ≡ Some (length (parameters_at y.calls f))) (same : calls_of whole ≡ y.calls) (ranged : whole.ranges ≡ y.ranges) where
  abbrev c : Context
  c = context_of whole own

  abbrev b : Bases
  b = y.bases

  abbrev So : Bool → Instructions → Type 0
  So e k = Always tells y sizes e k

  abbrev At : Bool → Instructions → Tags → Type 0
  At e k A = S tells y sizes e k A

  done : So false Done
  done = none tells y sizes

  -- a jump: what comes after it is not reached from there
  jumps : {d : ℕ} → So false (emit (Br d) Done)
  jumps = record { so = λ A. tt }

  leaves_if : {d : ℕ} → So false (emit (BrIf d) Done)
  leaves_if = record { so = λ A. tt }

  -- a global that is no name's
  low : (x : ℕ) → x < suc (suc (suc y.ranges)) → nat_eq x text_global ≡ false → is_name (suc (suc (suc y.ranges))) x ≡ false
  low x l n = subst (λ (z : Bool). z || nat_le (suc (suc (suc y.ranges))) x ≡ false) (sym n) (lt-leb (suc (suc (suc y.ranges))) x l)

  module _ {e : Bool} {k : Instructions} (r : So e k) where
    -- the truth on the stack leaves where it is false
    out_if : (out : ℕ) → So e (emit (Test ty.I32 Eqz) (emit (BrIf out) k))
    out_if out = record { so = λ A. r.so (popped A) }

    key_spares : (u : ℕ) (s : Code) (d : ℕ) → sorted c (a_value ∷ []) s ≡ true → names_argv s ≡ false → So e (key_stored y u s d k)
    key_spares u s d o q = record { so = λ A. (refl, (dropped_spares tells y sizes c sized same (record { so = λ B. ((refl, tt), (tt, r.so [])) }) (a_value ∷ []) (zero ∷ []) s 1 zero d (one_kept a_value [] refl none_kept) o q).so A) }

    iterator_spares : (u : ℕ) → So e (iterator_left y u k)
    iterator_spares u = record { so = λ A. (refl, r.so A) }

  -- Quick ways.

  -- a holder's number is written
  put_spares : (h : Holder) (e : Bool) (k : Instructions) (A : Tags) → At e k A → At e (emit (name_put y h) k) (true ∷ A)
  put_spares (OfName i) e k A r = (refl, r)
  put_spares (OfParameter i) e k A r = r

  module _ {e : Bool} {k : Instructions} (r : So e k) where
    -- a global's number
    global_spares : (i t d : ℕ) → So e (numbered_or y (GlobalGet (number_global y.ranges i)) (global_found y i t d Done) t k)
    global_spares i t d = record { so = λ A. (true, (λ q. numbered tells y sizes i), (((true, (λ q. named tells y sizes i), (refl, (refl, (refl, tt)))), (tt, tt)), (tt, r.so []))) }

    found_spares : (o : Option ℕ) (t d : ℕ) → So e (parameter_found y o t d k)
    found_spares None t d = record { so = λ A. r.so A }
    found_spares (Some g) t d = global_spares g t (suc d)

  module _ {e : Bool} {k : Instructions} (r : So e k) where
    name_spares : (i : Holder) (t d : ℕ) → So e (name_numbered y i t d k)
    name_spares (OfName i) t d = global_spares r i t d
    name_spares (OfParameter i) t d = record { so = λ A. ((found_spares done (lender_at y.lenders i) t d).so [], (tt, r.so [])) }

    numbered_spares : (x : Source) (t d : ℕ) → So e (source_numbered y x t d k)
    numbered_spares (Held i) t d = name_spares i t d
    numbered_spares (Constant z) t d = r

    taken_spares : (x : Source) (t : ℕ) → So e (source_taken y x t k)
    taken_spares (Held i) t = record { so = λ A. r.so (true ∷ A) }
    taken_spares (Constant z) t = record { so = λ A. r.so (true ∷ A) }

    kept_spares : (op : IBinOp) (t d : ℕ) → So e (sum_kept y op t d k)
    kept_spares op t d = record { so = λ A. ((refl, tt), (tt, r.so [])) }

    -- counters in arrays
    element_spares : (a : ArrayName) (d : ℕ) → is_argv a ≡ false → So e (element_numbered y a d k)
    element_spares a d n = record { so = λ A. array_spares tells y sizes _ _ _ a n (refl, (refl, (refl, r.so A))) }

    given_spares : (a : ArrayName) → is_argv a ≡ false → So e (element_given y a k)
    given_spares a n = record { so = λ A. array_spares tells y sizes _ _ _ a n (refl, (refl, r.so A)) }

  module _ {e : Bool} {k : Instructions} (r : So e k) where
    sum_spares : (op : IBinOp) (i : Holder) (t d : ℕ) → So e (sum_taken y op i t d k)
    sum_spares op (OfName i) t d = kept_spares (dropped_text tells y sizes stored i) op t d
      where
        stored : So e (emit (LocalGet (number_local b t)) (emit (GlobalSet (number_global y.ranges i)) k))
        stored = record { so = λ A. (refl, r.so A) }
    sum_spares op (OfParameter i) t d = kept_spares stored op t d
      where
        stored : So e (emit (LocalGet (number_local b t)) (emit (LocalSet i) k))
        stored = record { so = λ A. r.so A }

  -- a remainder of the number on the stack goes to a name
  multiplied_spares : (e : Bool) (k : Instructions) (f : Option ℤ) (A : Tags) → At e k (true ∷ A) → At e (multiplied f k) (true ∷ A)
  multiplied_spares e k None A r = r
  multiplied_spares e k (Some z) A r = r

  module _ {e : Bool} {k : Instructions} (r : So e k) where
    anyway_spares : (x : Sum) (d : ℕ) → So e (summed_anyway y x d k)
    anyway_spares x d = numbered_spares (numbered_spares (taken_spares (taken_spares (sum_spares r (sum_op x.op) x.target zero d) x.right 1) x.left zero) x.right 1 d) x.left zero d

    -- texts behind a name's own
    text_spares : (i : ℕ) (s : Code) (d : ℕ) → sorted c [] s ≡ true → names_argv s ≡ false → So e (text_appended y i s d k)
    text_spares i s d o q =
        emitted_spares tells y sizes c sized same (to_value_spares tells y sizes joined (form_of [] s) zero) false [] [] s zero zero d none_kept o q
      where
        joined : So e (emit (GlobalGet (handle_global y.ranges i)) (moved_out (handle_local b zero) (ask_row row.Concat (kept_value b true zero d
            (moved_out (handle_local b zero) (emit (GlobalSet (handle_global y.ranges i)) k))))))
        joined = record { so = λ A. (true, (λ q. named tells y sizes i), (refl, (refl, r.so A))) }

  module _ {e : Bool} where
    chain_spares : {x : Slot} {s : Code} {k : Instructions} (r : So e k) (i d : ℕ) → IsChain x s → sorted c [] s ≡ true → names_argv s ≡ false →
        So e (chain_appended y i s d k)
    chain_spares r i d (one_text z a n m) o q =
        text_spares r i a d (last_sorted c (Get z) a o).1 (or_none (names_argv a) false q).0
    chain_spares {k = k} r i d (more_texts p a n m) o q =
        let t = last_sorted c p a o in
        let u = or_none (names_argv p) (names_argv a || false) q in
        subst (So e) (sym (last_appended y i a d k n)) (chain_spares {k = text_appended y i a d k} (text_spares r i a d t.1 (or_none (names_argv a) false u.1).0) i d n t.0 u.0)

    appended_spares : {k : Instructions} (r : So e k) (o : Option Append) (s : Code) (d : ℕ) → append_in s ≡ o → sorted c [] s ≡ true →
        names_argv s ≡ false → So e (appended_dropped y o s d k)
    appended_spares r None s d h o q = dropped_spares tells y sizes c sized same r [] [] s zero zero d none_kept o q
    appended_spares r (Some x) s d h o q =
        let t = append_is s x h in
        chain_spares r x.target d t.chain (chain_sorted c x.target x.chain (subst (λ z. sorted c [] z ≡ true) t.code o)).1
        (subst (λ z. names_argv z ≡ false) t.code q)

  module _ {e : Bool} {k : Instructions} (r : So e k) where
    remainder_spares : (o : Option Remainder) (s : Code) (d : ℕ) → sorted c [] s ≡ true → names_argv s ≡ false → So e (remainder_dropped y o s d k)
    remainder_spares None s d o q = appended_spares r (append_in s) s d refl o q
    remainder_spares (Some x) s d o q = all_spares tells y sizes both (remainder_names x) _ _
      where
        slow : So false (dropped y [] [] s zero zero (suc d) Done)
        slow = dropped_spares tells y sizes c sized same done [] [] s zero zero (suc d) none_kept o q

        both : So e (emit_if (dropped y [] [] s zero zero (suc d) Done) (remainder_taken y x Done) k)
        both = record { so = λ A. (slow.so [], (holder_spares tells y sizes x.multiple.name _ _ [] (multiplied_spares _ _ x.multiple.factor _ (put_spares x.target _ _ [] tt)), r.so [])) }

    barely_spares : (o : Option Tally) (s : Code) (d : ℕ) → tally_in s ≡ o → sorted c [] s ≡ true → names_argv s ≡ false → So e (barely_dropped y o s d k)
    barely_spares None s d h o q = remainder_spares (remainder_in s) s d o q
    barely_spares (Some x) s d h o q =
        let i = tally_is s x h in
        let t = tally_sorted whole own i.shape x i.added (subst (λ z. sorted c [] z ≡ true) i.code o) in
        let n = tally_names i.shape x (subst (λ z. names_argv z ≡ false) i.code q) in
        let f = form_of [] x.key in
        emitted_spares tells y sizes c sized same
        (emitted_spares tells y sizes c sized same (to_value_spares tells y sizes (element_spares (to_number_spares tells y sizes (summed x n.3) (form_of (f ∷ []) x.added) 1 d) x.read d n.2) f zero)
        false (f ∷ []) (zero ∷ []) x.added 1 zero d (one_kept f [] (tested_no_array f t.kept) none_kept) t.added n.1)
        false [] [] x.key zero zero d none_kept t.key n.0
      where
        summed : (x : Tally) → is_argv x.written ≡ false → So e (emit (LocalGet (number_local b 2)) (emit (LocalGet (number_local b 1)) (sum_kept y (sum_op x.op) 2 d (element_given y x.written k))))
        summed x n = record { so = λ A. (kept_spares (given_spares r x.written n) (sum_op x.op) 2 d).so (true ∷ (true ∷ A)) }

    plainly_spares : (o : Option Update) (s : Code) (d : ℕ) → update_in s ≡ o → sorted c [] s ≡ true → names_argv s ≡ false → So e (plainly_dropped y o s d k)
    plainly_spares None s d h o q = barely_spares (tally_in s) s d refl o q
    plainly_spares (Some x) s d h o q =
        let e1 : s ≡ added_code x = (added_is s x h).0 in
        let a1 = let_sorted c x.added _ (subst (λ z. sorted c [] z ≡ true) e1 o) in
        let a2 = (or_none (names_argv x.added) false (subst (λ z. names_argv z ≡ false) e1 q)).0 in
        by a1 a2 (field_at x.added)
      where
        taken : So e (sum_taken y (sum_op x.op) x.target zero d k)
        taken = sum_spares r (sum_op x.op) x.target zero d

        added : So e (emit (LocalGet (number_local b 1)) (emit (LocalGet (number_local b zero)) (sum_taken y (sum_op x.op) x.target zero d k)))
        added = record { so = λ A. taken.so (true ∷ (true ∷ A)) }

        field : (z : ℤ) → So e (emit (LocalGet (number_local b zero)) (field_numbered y z (sum_taken y (sum_op x.op) x.target zero d k)))
        field z = record { so = λ A. (refl, (refl, taken.so (true ∷ (true ∷ A)))) }

        by : sorted c [] x.added ≡ true → names_argv x.added ≡ false → (o : Option ℤ) → So e (both_asked y o x d (sum_taken y (sum_op x.op) x.target zero d k))
        by a1 a2 (Some z) = name_spares (field z) x.name zero d
        by a1 a2 None = emitted_spares tells y sizes c sized same (name_spares (to_number_spares tells y sizes added (form_of [] x.added) zero d) x.name 1 d) false [] [] x.added zero zero d none_kept a1 a2

  module _ {e : Bool} {k : Instructions} (r : So e k) where
    quick_spares : (o : Option Sum) (s : Code) (d : ℕ) → sorted c [] s ≡ true → names_argv s ≡ false → So e (quickly_dropped y o s d k)
    quick_spares None s d o q = plainly_spares r (update_in s) s d refl o q
    quick_spares (Some x) s d o q = all_spares tells y sizes both (sum_names x) _ _
      where
        both : So e (emit_if (summed_anyway y x (suc d) Done) (summed y x Done) k)
        both = record { so = λ A. ((anyway_spares done x (suc d)).so [], (source_spares tells y sizes _ _ x.left [] (source_spares tells y sizes _ _ x.right (true ∷ []) (put_spares x.target _ _ [] tt)), r.so [])) }

    -- where it is not so this code goes on
    tested_out : (s : Code) (d out : ℕ) → sorted c [] s ≡ true → names_argv s ≡ false → So false (tested y [] [] s zero zero (suc d) (emit (Test ty.I32 Eqz) (emit (BrIf (suc out)) Done)))
    tested_out s d out o q = tested_spares tells y sizes c sized same (out_if done (suc out)) [] [] s zero zero (suc d) none_kept o q

    counted_spares : (o : Option Counted) (s : Code) (d out : ℕ) → sorted c [] s ≡ true → names_argv s ≡ false → So e (left_unless_counted y o s d out k)
    counted_spares None s d out o q = tested_spares tells y sizes c sized same (out_if r out) [] [] s zero zero d none_kept o q
    counted_spares (Some x) s d out o q = record { so = λ A. holder_spares tells y sizes x.name _ _ A ((tested_out s d out o q).so [], (holder_spares tells y sizes x.name _ _ [] (refl, (refl, tt)), r.so [])) }

    pair_spares : (o : Option Pair) (s : Code) (d out : ℕ) → sorted c [] s ≡ true → names_argv s ≡ false → So e (left_unless_pair y o s d out k)
    pair_spares None s d out o q = counted_spares (counted_in s) s d out o q
    pair_spares (Some x) s d out o q = all_spares tells y sizes both (pair_names x) _ _
      where
        both : So e (emit_if (tested y [] [] s zero zero (suc d) (emit (Test ty.I32 Eqz) (emit (BrIf (suc out)) Done))) (pair_left y x (suc out) Done) k)
        both = record { so = λ A. ((tested_out s d out o q).so [], (source_spares tells y sizes _ _ x.left [] (source_spares tells y sizes _ _ x.right (true ∷ []) tt), r.so [])) }

    left_spares : (o : Option Within) (s : Code) (d out : ℕ) → sorted c [] s ≡ true → names_argv s ≡ false → So e (left_unless y o s d out k)
    left_spares None s d out o q = pair_spares (pair_in s) s d out o q
    left_spares (Some x) s d out o q = record { so = λ A. holder_spares tells y sizes x.name _ _ A ((tested_out s d out o q).so [], (tt, r.so [])) }

  chosen_code : {e : Bool} {a d : Instructions} (z : Bool) → So e a → So e d → So e (if z then a else d)
  chosen_code true p q = p
  chosen_code false p q = q

  block_spares : {e : Bool} {a k : Instructions} → So false a → So e k → So e (block a k)
  block_spares p r = record { so = λ A. (p.so [], r.so []) }

  rounds_spare : {e : Bool} {a k : Instructions} → So false a → So e k → So e (again a k)
  rounds_spare p r = record { so = λ A. (p.so [], r.so []) }

  either_spares : {e : Bool} {a d k : Instructions} → So false a → So false d → So e k → So e (emit_if a d k)
  either_spares p q r = record { so = λ A. (p.so [], (q.so [], r.so [])) }

  begun : {e : Bool} {k : Instructions} → So e k → So e (emit Nop k)
  begun r = record { so = λ A. r.so A }

  left_on : {e : Bool} {k : Instructions} {d : ℕ} → So e (emit (Br d) k)
  left_on = record { so = λ A. tt }

  -- `return`

  answer_spares : {e : Bool} (k : Instructions) (f : Form) (d : ℕ) → So e (answer_given y f d k)
  answer_spares k (PrimitiveAnswer (answer.Of sort.Value)) d = record { so = λ A. (refl, tt) }
  answer_spares k (PrimitiveAnswer (answer.Of sort.Number)) d = record { so = λ A. tt }
  answer_spares k (PrimitiveAnswer answer.Truth) d = record { so = λ A. tt }
  answer_spares k NumberOrText d = record { so = λ A. ((refl, tt), (tt, tt)) }
  answer_spares k OptionalNumber d = record { so = λ A. tt }
  answer_spares k f d = record { so = λ A. tt }

  parameter_spares : {e : Bool} (k : Instructions) (o : Option ℕ) (i d : ℕ) → sorted c [] (Get (Parameter true i)) ≡ true → So e (parameter_returned y o i d k)
  parameter_spares k None i d s = record { so = λ A. tt }
  parameter_spares k (Some g) i d s =
      emitted_spares tells y sizes c sized same (answer_spares k NumberOrText d) false [] [] (Get (Parameter true i)) zero zero d none_kept s refl

  returned_spares : {e : Bool} {k : Instructions} → So e k → (x : Code) (d : ℕ) → sorted c [] x ≡ true → names_argv x ≡ false → So e (returned y x d k)
  unfolding sorted
  returned_spares r (Choose sort.Value a z w) d s q =
      let x = sorted c [] a in
      let g = sorted c [] z in
      let h = sorted c [] w in
      let s1 = and_parts (is_tested (form_of [] a)) (fits (form_of [] z) sort.Value && (fits (form_of [] w) sort.Value && (x && (g && h)))) s in
      let s3 = and_parts x (g && h) (and_parts (fits (form_of [] w) sort.Value) (x && (g && h)) (and_parts (fits (form_of [] z) sort.Value) (fits (form_of [] w) sort.Value && (x && (g && h))) s1.1).1).1 in
      let s4 = and_parts g h s3.1 in
      let p = or_none (names_argv a) (names_argv z || names_argv w) q in
      let p1 = or_none (names_argv z) (names_argv w) p.1 in
      chosen_code (is_some (pair_in a))
      (block_spares (pair_spares (returned_spares done z (suc d) s4.0 p1.0) (pair_in a) a (suc d) zero s3.0 p.0) (returned_spares r w d s4.1 p1.1))
      (tested_spares tells y sizes c sized same (either_spares (returned_spares done z (suc d) s4.0 p1.0) (returned_spares done w (suc d) s4.1 p1.1) r) [] [] a zero zero d none_kept s3.0 p.0)
  returned_spares {k = k} r (Get (Parameter true i)) d s q = parameter_spares k (lender_at y.lenders i) i d s
  returned_spares {k = k} r x d s q = emitted_spares tells y sizes c sized same (answer_spares k (form_of [] x) d) false [] [] x zero zero d none_kept s q

  -- Steps.

  mutual
    unfolding step_emitted steps_emitted step_sorted steps_sorted

    pub step_spares : {e : Bool} {k : Instructions} → So e k → (s : Step) (u d bk ct : ℕ) (g l : Bool) → step_sorted c g l s ≡ true → step_names s ≡ false → So e (step_emitted y s u d bk ct k)
    step_spares r (Eval x) u d bk ct g l o q = begun (quick_spares r (sum_in x) x d (and_parts (is_dropped (form_of [] x)) (sorted c [] x) o).1 q)
    step_spares r (Steps_ ss) u d bk ct g l o q = begun (steps_spares r ss u d bk ct g l o q)
    step_spares r (Either x a z) u d bk ct g l o q =
        let o1 = and_parts (test_sorted c x) (step_sorted c g l a && step_sorted c g l z) o in
        let o2 = and_parts (step_sorted c g l a) (step_sorted c g l z) o1.1 in
        let t = (and_parts (is_tested (form_of [] x)) (sorted c [] x) o1.0).1 in
        let p = or_none (names_argv x) (step_names a || step_names z) q in
        let p1 = or_none (step_names a) (step_names z) p.1 in
        let last = step_spares done z u (suc d) (suc bk) (suc ct) g l o2.1 p1.1 in
        begun (chosen_code (is_some (pair_in x))
        (block_spares (block_spares (pair_spares (step_spares jumps a u (suc (suc d)) (suc (suc bk)) (suc (suc ct)) g l o2.0 p1.0) (pair_in x) x (suc (suc d)) zero t p.0) last) r)
        (tested_spares tells y sizes c sized same (either_spares (step_spares done a u (suc d) (suc bk) (suc ct) g l o2.0 p1.0) last r) [] [] x zero zero d none_kept t p.0))
    step_spares r (Loop true x a z) u d bk ct g l o q =
        let o1 = and_parts (test_sorted c x) (step_sorted c g true a && step_sorted c g false z) o in
        let o2 = and_parts (step_sorted c g true a) (step_sorted c g false z) o1.1 in
        let t = (and_parts (is_tested (form_of [] x)) (sorted c [] x) o1.0).1 in
        let p = or_none (names_argv x) (step_names a || step_names z) q in
        let p1 = or_none (step_names a) (step_names z) p.1 in
        let rest = chosen_code (is_nothing z) jumps (step_spares jumps z u (suc (suc d)) 1 zero g false o2.1 p1.1) in
        begun (block_spares (rounds_spare (left_spares (chosen_code (step_jumps a) (block_spares (step_spares done a u (suc (suc (suc d))) 2 zero g true o2.0 p1.0) rest)
        (step_spares rest a u (suc (suc d)) 1 zero g true o2.0 p1.0)) (test_within x) x (suc (suc d)) 1 t p.0) done) r)
    step_spares r (Loop false x a z) u d bk ct g l o q =
        let o1 = and_parts (test_sorted c x) (step_sorted c g true a && step_sorted c g false z) o in
        let o2 = and_parts (step_sorted c g true a) (step_sorted c g false z) o1.1 in
        let t = (and_parts (is_tested (form_of [] x)) (sorted c [] x) o1.0).1 in
        let p = or_none (names_argv x) (step_names a || step_names z) q in
        let p1 = or_none (step_names a) (step_names z) p.1 in
        begun (block_spares (rounds_spare (block_spares (step_spares done a u (suc (suc (suc d))) 2 zero g true o2.0 p1.0)
        (step_spares (begun (tested_spares tells y sizes c sized same leaves_if [] [] x zero zero (suc (suc d)) none_kept t p.0)) z u (suc (suc d)) 1 zero g false o2.1 p1.1)) done) r)
    step_spares r (Each a x s) u d bk ct g l o q =
        let o1 = and_parts (is_array_place c a) (stores_well [] x && (sorted c (a_value ∷ []) x && step_sorted c g true s)) o in
        let o2 = and_parts (sorted c (a_value ∷ []) x) (step_sorted c g true s) (and_parts (stores_well [] x) (sorted c (a_value ∷ []) x && step_sorted c g true s) o1.1).1 in
        let p = or_none (is_argv a) (names_argv x || step_names s) q in
        let p1 = or_none (names_argv x) (step_names s) p.1 in
        let inner = rounds_spare (key_spares (block_spares (step_spares done s (suc u) (suc (suc (suc d))) 2 zero g true o2.1 p1.1) jumps) u x (suc (suc d)) o2.0 p1.0) done in
        record { so = λ A. array_spares tells y sizes _ _ _ a p.0 (refl, (inner.so [], (iterator_spares r u).so [])) }
    step_spares r Break u d bk ct g l o q = begun left_on
    step_spares r Continue u d bk ct g l o q = begun left_on
    step_spares r Next u d bk ct g l o q = record { so = λ A. (refl, tt) }
    step_spares r Exit u d bk ct g l o q = record { so = λ A. (refl, tt) }
    step_spares {e = e} {k = k} r (ExitWith x) u d bk ct g l o q =
        begun (emitted_spares tells y sizes c sized same (to_number_spares tells y sizes status (form_of [] x) zero d) false [] [] x zero zero d none_kept (and_parts (fits (form_of [] x) sort.Number) (sorted c [] x) o).1 q)
      where
        status : So e (emit (LocalGet (number_local b zero)) (emit (GlobalSet status_global) (left_by way_exit d k)))
        status = record { so = λ A. (refl, (refl, tt)) }
    step_spares r (Return x) u d bk ct g l o q =
        begun (returned_spares r x d (and_parts (fits (form_of [] x) sort.Value) (sorted c [] x) (and_parts g (fits (form_of [] x) sort.Value && sorted c [] x) o).1).1 q)
    step_spares r (Mark i z) u d bk ct g l o q = record {
      so = λ A. (either_so (not (nat_eq (flag_number z) 0)) (is_name (suc (suc (suc y.ranges))) (suc (suc (suc i)))) (low (suc (suc (suc i))) (let h = ltb-true i c.ranges o in omega (arith, h, ranged)) (ne_eqb (suc (suc (suc i))) text_global (λ m. absurd (omega (arith, m))))), r.so A);
    }

    pub steps_spares : {e : Bool} {k : Instructions} → So e k → (ss : Steps) (u d bk ct : ℕ) (g l : Bool) → steps_sorted c g l ss ≡ true → steps_name ss ≡ false → So e (steps_emitted y ss u d bk ct k)
    steps_spares r NoStep u d bk ct g l o q = r
    steps_spares r (AndThen s ss) u d bk ct g l o q =
        let o1 = and_parts (step_sorted c g l s) (steps_sorted c g l ss) o in
        let p = or_none (step_names s) (steps_name ss) q in
        step_spares (steps_spares r ss u d bk ct g l o1.1 p.1) s u d bk ct g l o1.0 p.0

  -- Functions.

  temporaries_spare : {e : Bool} {k : Instructions} → So e k → (t n : ℕ) → So e (temporaries_emptied y t n k)
  temporaries_spare r t zero = r
  temporaries_spare r t (suc n) = record { so = λ A. (temporaries_spare r (suc t) n).so A }

  iterators_spare : {e : Bool} {k : Instructions} → So e k → (t n : ℕ) → So e (iterators_emptied y t n k)
  iterators_spare r t zero = r
  iterators_spare r t (suc n) = record { so = λ A. (iterators_spare r (suc t) n).so A }

  arrays_spare : {e : Bool} {k : Instructions} → So e k → (t n : ℕ) → So e (arrays_emptied y t n k)
  arrays_spare r t zero = r
  arrays_spare r t (suc n) = record { so = λ A. (arrays_spare r (suc t) n).so A }

  emptied_spares : {e : Bool} {k : Instructions} → So e k → So e (all_emptied y k)
  emptied_spares r = record { so = λ A. (temporaries_spare (iterators_spare (arrays_spare r zero b.arrays) zero b.iterators) zero b.temporaries).so A }

  temporaries_let_go : {e : Bool} {k : Instructions} → So e k → (t n : ℕ) → So e (temporaries_swept y t n k)
  temporaries_let_go r t zero = r
  temporaries_let_go r t (suc n) = record { so = λ A. ((refl, tt), (tt, (temporaries_let_go r (suc t) n).so [])) }

  iterators_let_go : {e : Bool} {k : Instructions} → So e k → (t n : ℕ) → So e (iterators_swept y t n k)
  iterators_let_go r t zero = r
  iterators_let_go r t (suc n) = record { so = λ A. ((refl, tt), (tt, (iterators_let_go r (suc t) n).so [])) }

  arrays_let_go : {e : Bool} {k : Instructions} → So e k → (t n : ℕ) → So e (arrays_swept y t n k)
  arrays_let_go r t zero = r
  arrays_let_go r t (suc n) = record { so = λ A. ((refl, tt), (tt, (arrays_let_go r (suc t) n).so [])) }

  swept_spares : {e : Bool} {k : Instructions} → So e k → So e (swept y k)
  swept_spares r = temporaries_let_go (iterators_let_go (arrays_let_go r zero b.arrays) zero b.iterators) zero b.temporaries

  left_swept_spares : {e : Bool} {k : Instructions} → So e k → (calls : Bool) → So e (left_swept y calls k)
  left_swept_spares r true = swept_spares r
  left_swept_spares r false = iterators_let_go r zero b.iterators

  parameters_spare : {e : Bool} {k : Instructions} → So e k → (x : ℕ) (ks : List Kind) → So e (parameters_dropped y x ks k)
  parameters_spare r x [] = r
  parameters_spare r x (Boxed ∷ ks) = record { so = λ A. (refl, (parameters_spare r (suc x) ks).so A) }
  parameters_spare r x (Unboxed ∷ ks) = parameters_spare r (suc x) ks
  parameters_spare r x (ArrayKind ∷ ks) = parameters_spare r (suc x) ks

  pub routine_spares : (ks : List Kind) (body : Steps) → steps_sorted c true false body ≡ true → steps_name body ≡ false → So true (routine_body y ks body)
  routine_spares ks body o q =
      emptied_spares (block_spares (block_spares (steps_spares ended body zero zero zero zero true false o q) (temporaries_let_go (arrays_let_go done zero b.arrays) zero b.temporaries))
      (iterators_let_go (parameters_spare answer zero ks) zero b.iterators))
    where
      ended : So false (routine_ended y)
      ended = record { so = λ A. tt }

      answer : So true (emit (LocalGet (answer_local b)) Done)
      answer = record { so = λ A. refl }

  -- `main`.

  -- only this code announces names
  declared_spares : {e : Bool} {k : Instructions} → tells ≡ true → So e k → (i : ℕ) (ks : List Kind) → So e (names_declared y i ks k)
  declared_spares t r i [] = r
  declared_spares t r i (kind ∷ ks) = record { so = λ A. (t, (declared_spares t r (suc i) ks).so A) }

  routines_spare : {e : Bool} {k : Instructions} → tells ≡ true → So e k → (i n : ℕ) → So e (routines_declared y i n k)
  routines_spare t r i zero = r
  routines_spare t r i (suc n) = record { so = λ A. (t, (routines_spare t r (suc i) n).so A) }

  made_spares : {e : Bool} {k : Instructions} → So e k → (i : ℕ) (ks : List Kind) → So e (names_made y i ks k)
  made_spares r i [] = r
  made_spares r i (Boxed ∷ ks) = record { so = λ A. (refl, (refl, (made_spares r (suc i) ks).so A)) }
  made_spares r i (Unboxed ∷ ks) = made_spares r (suc i) ks
  made_spares r i (ArrayKind ∷ ks) = record { so = λ A. (refl, (refl, (made_spares r (suc i) ks).so A)) }

  module _ {e : Bool} {k : Instructions} (r : So e k) where
    goes_spares : So e (goes_on y k)
    goes_spares = record { so = λ A. (either_so false (is_name (suc (suc (suc y.ranges))) zero) (low zero (omega arith) refl), (left_swept_spares r (has_functions y.calls)).so A) }

  module _ {e : Bool} {k : Instructions} (r : So e k) where
    record_spares : (items : Steps) (d : ℕ) → steps_sorted c false false items ≡ true → steps_name items ≡ false → So e (record_done y items d k)
    record_spares items d o q = block_spares (block_spares (steps_spares jumps items zero zero zero zero false false o q) left) r
      where
        left : So false (emit (GlobalGet way_global) (emit (I32Const way_next) (emit (Compare ty.I32 Ne) (emit (BrIf (suc d)) (goes_on y Done)))))
        left = record { so = λ A. (false, (λ z. cc), (goes_spares done).so A) }

    part_spares : {a : Instructions} (d : ℕ) → So false a → So e (part_done y a d k)
    part_spares d p = record { so = λ A. ((p.so [], (false, (λ z. cc), (false, (λ z. cc), ((refl, tt), (tt, (goes_spares done).so []))))), r.so []) }

  module _ {e : Bool} {k : Instructions} (r : So e k) where
    records_spares : (items : Steps) (d : ℕ) → steps_sorted c false false items ≡ true → steps_name items ≡ false → So e (records_read y items d k)
    records_spares items d o q =
        record { so = λ A. ((refl, ((record_spares (jumps {d = 1}) items (suc (suc d)) o q).so [], (tt, ((pending_spares tells y sizes (jumps {d = 1}) zero).so [], (tt, tt))))), r.so []) }

  -- what comes after the names, and the exit
  abbrev pub script_code : Program → Instructions
  script_code p = asked y row.StartAssign zero zero (part_done y (first_part y p) zero (ask_row row.BeginEnd (part_done y (last_part y p) zero Done)))

  pub script_spares : (p : Program) → steps_sorted c false false p.begin ≡ true → steps_sorted c false false p.items ≡ true → steps_sorted c false false p.end ≡ true → steps_name p.begin ≡ false → steps_name p.items ≡ false → steps_name p.end ≡ false → So false (script_code p)
  script_spares p o1 o2 o3 q1 q2 q3 = start_asked tells y sizes (part_spares ends zero (steps_spares (by p.reads) p.begin zero zero zero zero false false o1 q1)) zero zero
    where
      by : (z : Bool) → So false (if z then records_read y p.items zero (emit (Br 1) Done) else emit (Br 1) Done)
      by true = records_spares jumps p.items zero o2 q2
      by false = jumps

      ends : So false (ask_row row.BeginEnd (part_done y (last_part y p) zero Done))
      ends = record { so = λ A. (refl, (part_spares done zero (steps_spares jumps p.end zero zero zero zero false false o3 q3)).so A) }

  pub exit_spares : So false (swept y (emit (GlobalGet status_global) (emit (Convert I32WrapI64) Done)))
  exit_spares = swept_spares (record { so = λ A. (false, (λ z. cc), tt) })

  pub main_spares : (p : Program) → tells ≡ true → So false (script_code p) → So false (main_body y p)
  main_spares p t r = emptied_spares (block_spares (record { so = λ A. (refl, told.so A) }) exit_spares)
    where
      told : So false (names_declared y (length p.texts) y.names (routines_declared y (length p.texts + length p.globals) (length p.routines) (names_made y zero y.names (script_code p))))
      told = declared_spares t (routines_spare t (made_spares r zero y.names) (length p.texts + length p.globals) (length p.routines)) (length p.texts) y.names

  -- At its beginning a function sets each local that could have ARGV's number.

  -- one of two is not false
  never : {A : Type 0} (n t : Bool) → n ≡ true → (n || t) ≡ false → A
  never true t h e = cc
  never false t h e = cc

  temporaries_set : (n t : ℕ) (more : List ValType) (k : Instructions) (x pos : ℕ) → pos ≡ suc b.parameters + (t + t) + x → is_set (temporaries_emptied y t n k) pos ≡ false →
      ((z : ℕ) → x ≡ (n + n) + z → is_set k pos ≡ false → is_other (cell_at (zeros more) z) ≡ true) → is_other (cell_at (zeros (temporary_types n ++ more)) x) ≡ true
  temporaries_set zero t more k x pos q e f = f x (omega arith) e
  temporaries_set (suc n) t more k zero pos q e f = never (nat_eq pos (handle_local b t)) (is_set (temporaries_emptied y (suc t) n k) pos) (eq-eqb pos (handle_local b t) (omega (arith, q))) e
  temporaries_set (suc n) t more k (suc zero) pos q e f = refl
  temporaries_set (suc n) t more k (suc (suc x)) pos q e f =
      temporaries_set n (suc t) more k x pos (omega (arith, q)) (or_none (nat_eq pos (handle_local b t)) (is_set (temporaries_emptied y (suc t) n k) pos) e).1 (λ z h i. f z (omega (arith, h)) i)

  iterators_set : (n u : ℕ) (more : List ValType) (k : Instructions) (x pos : ℕ) → pos ≡ iterator_local b u + x → is_set (iterators_emptied y u n k) pos ≡ false →
      ((z : ℕ) → x ≡ n + z → is_set k pos ≡ false → is_other (cell_at (zeros more) z) ≡ true) → is_other (cell_at (zeros (handle_types n ++ more)) x) ≡ true
  iterators_set zero u more k x pos q e f = f x (omega arith) e
  iterators_set (suc n) u more k zero pos q e f = never (nat_eq pos (iterator_local b u)) (is_set (iterators_emptied y (suc u) n k) pos) (eq-eqb pos (iterator_local b u) (omega (arith, q))) e
  iterators_set (suc n) u more k (suc x) pos q e f =
      iterators_set n (suc u) more k x pos (omega (arith, q)) (or_none (nat_eq pos (iterator_local b u)) (is_set (iterators_emptied y (suc u) n k) pos) e).1 (λ z h i. f z (omega (arith, h)) i)

  arrays_set : (n w : ℕ) (k : Instructions) (x pos : ℕ) → pos ≡ array_local b w + x → is_set (arrays_emptied y w n k) pos ≡ false → is_other (cell_at (zeros (handle_types n)) x) ≡ true
  arrays_set zero w k x pos q e = refl
  arrays_set (suc n) w k zero pos q e = never (nat_eq pos (array_local b w)) (is_set (arrays_emptied y (suc w) n k) pos) (eq-eqb pos (array_local b w) (omega (arith, q))) e
  arrays_set (suc n) w k (suc x) pos q e = arrays_set n (suc w) k x pos (omega (arith, q)) (or_none (nat_eq pos (array_local b w)) (is_set (arrays_emptied y (suc w) n k) pos) e).1

  pub locals_set : (k : Instructions) (x : ℕ) → is_set (all_emptied y k) (b.parameters + x) ≡ false → is_other (cell_at (zeros (local_types b)) x) ≡ true
  locals_set k zero e = refl
  locals_set k (suc x) e =
      temporaries_set b.temporaries zero (handle_types b.iterators ++ handle_types b.arrays) _ x (b.parameters + suc x) (omega arith) (or_none (nat_eq (b.parameters + suc x) (answer_local b)) _ e).1
      (λ z h i. iterators_set b.iterators zero (handle_types b.arrays) _ z (b.parameters + suc x) (omega (arith, h)) i
      (λ v g j. arrays_set b.arrays zero k v (b.parameters + suc x) (omega (arith, h, g)) j))
