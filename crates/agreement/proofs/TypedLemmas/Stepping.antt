-- The code of steps is typed: between two steps nothing is on the stack, and each way out is a label that wants nothing.
use Rattle.std.proofs.Common.{◌≡◌, ℕ, zero, suc, ◌+◌, ◌<◌, ◌≤◌, ◌^◌, Bool, true, false, List, [], ◌∷◌, length, Some, None, Option, ℤ, pos, refl, sym, ap₂, subst, arith, if◌then◌else◌}
use Rattle.std.specs.Prelude.{◌&&◌, is_some}
use Rattle.std.proofs.lemmas.Bool.{and_parts, ltb-true}
use Rattle.awk_values.specs.declared.fault.Fault.TheVariants.{Range}
use Rattle.sem_primitives.specs.declared.sorts.Answer.TheVariants as answer
use Rattle.sem_primitives.specs.declared.sorts.Sort.TheVariants as sort
use Rattle.sem_primitives.specs.declared.table.Primitive.TheVariants as row
use Rattle.wasm_types.specs.Syntax.{Instructions, Done}
use Rattle.wasm_types.specs.Typing.{Context, CodeOk, done}
use Rattle.wasm_types.specs.declared.types.ValType.{ValType}
use Rattle.wasm_types.specs.declared.types.ValType.TheVariants.{I32, I64}
use Rattle.wasm_types.specs.declared.instr.IBinOp.{IBinOp}
use Rattle.wasm_types.specs.declared.instr.Simple.TheVariants.{GlobalGet}
use Rattle.mid_program.specs.Mid.{Kind, Boxed, Unboxed, Program, Slot, Code, Get, Parameter, Step, Eval, Block, If, Loop, Each, Break, Continue, Next, Exit as ExitStep, ExitWith, Return, Mark, Steps, NoStep, Then, Choose, Form, PrimitiveAnswer, NumberOrText, OptionalNumber, a_value, form_of}
use Rattle.sem_scripts.specs.Names.{ArrayName}
use Rattle.mid_program.specs.Sorted.{context_of, kinds_of, is_array_place, fits, is_tested, is_dropped, lender_at, stores_well, sorted, test_sorted, step_sorted, steps_sorted}
use Rattle.lower_model.specs.Appends.{Append, append_in}
use Rattle.lower_model.specs.Emission.{dropped, field_at, tested}
use Rattle.lower_model.specs.Functions.{layout_of}
use Rattle.lower_model.specs.Places.{Bases, number_global, room, arrays_in, step_room, steps_room, step_arrays, steps_arrays, step_iterators, steps_iterators}
use Rattle.lower_model.specs.Quick.{Within, test_within, Holder, OfName, OfParameter, Source, Held, Constant, Sum, sum_names, sum_op, sum_in, Update, update_in, Tally, tally_in, Remainder, remainder_in, remainder_names, most_multiplied, multiplied, Counted, counted_in, Pair, pair_names, pair_in, step_jumps, is_nothing}
use Rattle.lower_model.specs.Small.{emit}
use Rattle.lower_model.proofs.Chains.{IsChain, one_text, more_texts, append_is, chain_sorted, last_appended, last_sorted}
use Rattle.lower_model.proofs.QuickParts.{HolderFits, takes_fits}
use Rattle.lower_model.proofs.Remainders.{remainder_is, remainder_sorted, remainder_unboxed}
use Rattle.lower_model.proofs.QuickSteps.{near_source, test_is, sum_is, sum_unboxed, pair_is, pair_unboxed, counted_is}
use Rattle.lower_model.proofs.Summing.{IsSource}
use Rattle.lower_model.proofs.Tallies.{Shape, tally_code, IsAdded, tally_is, tally_room, tally_sorted}
use Rattle.lower_model.proofs.Updating.{UpdateParts, added_code, added_is, added_sorted}
use Rattle.lower_model.specs.Statements.{holder_cleared, name_put, global_found, numbered_or, parameter_found, name_numbered, source_numbered, source_taken, sum_kept, sum_taken, summed_anyway, both_asked, updated, element_numbered, element_given, tallied, text_appended, chain_appended, appended_dropped, remainder_taken, remainder_dropped, barely_dropped, plainly_dropped, quickly_dropped, left_unless_counted, left_unless_pair, left_unless, left_by, key_stored, iterator_left, step_emitted, steps_emitted, answer_given, parameter_returned, returned}
use Rattle.host_imports.specs.declared.import.Import.TheVariants.{OfPrimitive, Drop, IterFree}
use Rattle.agreement.proofs.TypedLemmas.Singles.{Stack, Labels, Exit, inner, nearest, reads_global, writes_global, nothing, called, get, put, tee, read, write, word, long, binary, compare, test, discard, leave, leave_if, blocked, looped, branched}
use Rattle.agreement.proofs.TypedLemmas.Standing.{Stands, kind_below}
use Rattle.agreement.proofs.TypedLemmas.Pieces.{moved_out_ok, emptied_ok, copied_ok, let_go_ok, fail_if_ok, number_is_ok, kept_value_ok, kept_number_ok, number_of_value_ok, to_value_ok, to_number_ok, truth_ok}
use Rattle.agreement.proofs.TypedLemmas.Slots.{array_pushed_ok, text_dropped_ok}
use Rattle.agreement.proofs.TypedLemmas.Operands.{room_there}
use Rattle.agreement.proofs.TypedLemmas.Sources.{unwatched, holder_read, source_ok, all_unsure_ok}
use Rattle.agreement.proofs.TypedLemmas.Emitting.{AreBelow, one_more_below, none_below, left_over_ok, code_ok}

-- where code of a function leaves it: where it is left, and one label further out where it returns, if it may
pub record Ways (o : Bool) (L : Labels) (d : ℕ) : Type 0 where
  pub left : Exit L d
  pub returned : o ≡ true → Exit L (suc d)

deeper : {o : Bool} {L : Labels} {d : ℕ} {r : Option ValType} → Ways o L d → Ways o (r ∷ L) (suc d)
deeper w = record { left = inner w.left; returned = λ e. inner (w.returned e) }

module _ {p : Program} {ks : List Kind} {b : Bases} {C : Context} (at : Stands p ks b C) where
  module _ {L : Labels} {k : Instructions} {rs : Stack} where
    pub dropped_ok : {ps : Stack} (fs : List Form) (ts : List ℕ) (e : Code) (t w d : ℕ) → AreBelow ts b.temporaries →
        sorted (context_of p ks) fs e ≡ true →
        t + room e ≤ b.temporaries → w + arrays_in e ≤ b.arrays → Exit L d → CodeOk C L k ps rs →
        CodeOk C L (dropped (layout_of p b) fs ts e t w d k) ps rs
    dropped_ok fs ts e t w d q s h g x r =
        let he = room_there e in
        code_ok at true fs ts e t w d q s h g x (left_over_ok at e (form_of fs e) (omega (arith, h, he)) r)

    tested_ok : {ps : Stack} {d : ℕ} (e : Code) → test_sorted (context_of p ks) e ≡ true → room e ≤ b.temporaries → arrays_in e ≤ b.arrays →
        Exit L d → CodeOk C L k (I32 ∷ ps) rs →
        CodeOk C L (tested (layout_of p b) [] [] e zero zero d k) ps rs
    tested_ok {d = d} e s h g x r =
        let he = room_there e in
        let lt : 0 < b.temporaries = omega (arith, h, he) in
        code_ok at false [] [] e 0 0 d (none_below b.temporaries lt) (and_parts (is_tested (form_of [] e)) (sorted (context_of p ks) [] e) s).1
        (omega (arith, h)) (omega (arith, g)) x
        (truth_ok at (form_of [] e) lt r)

    -- a holder's number is written
    holder_put : {ps : Stack} (h : Holder) → HolderFits p unwatched ks [] b 0 0 h → CodeOk C L k ps rs → CodeOk C L (emit (name_put (layout_of p b) h) k) (I64 ∷ ps) rs
    holder_put (OfName i) hf r = write (at.name_number i (kind_below (kinds_of p.globals) i Unboxed hf)) r
    holder_put (OfParameter i) hf r = put (at.parameter i Unboxed hf) r

    holder_cleared_ok : (h : Holder) → HolderFits p unwatched ks [] b 0 0 h → CodeOk C L k [] rs → CodeOk C L (holder_cleared (layout_of p b) h k) [] rs
    holder_cleared_ok (OfName i) hf r = text_dropped_ok at (kind_below (kinds_of p.globals) i Unboxed hf) r
    holder_cleared_ok (OfParameter i) hf r = r

    left_by_ok : {d : ℕ} (n : ℕ) → Exit L d → CodeOk C L k [] rs → CodeOk C L (left_by n d k) [] rs
    left_by_ok n x r = word (write at.way (leave x r))

    iterator_left_ok : (u : ℕ) → 0 < b.temporaries → u < b.iterators → CodeOk C L k [] rs → CodeOk C L (iterator_left (layout_of p b) u k) [] rs
    iterator_left_ok u lt lu r = emptied_ok at (at.handle 0 lt) (moved_out_ok at (at.iterator u lu) (called [] (at.imported IterFree) r))

  -- sums in all cases
  module _ {L : Labels} {k : Instructions} {ps rs : Stack} where
    global_numbered_ok : {t d : ℕ} (i : ℕ) → i < length (kinds_of p.globals) → t < b.temporaries → Exit L d → CodeOk C L k ps rs →
        CodeOk C L (numbered_or (layout_of p b) (GlobalGet (number_global p.ranges i)) (global_found (layout_of p b) i t d Done) t k) ps rs
    global_numbered_ok {t = t} i li lt x r =
        let g = at.name_handle i li in
        read (at.name_number i li) (tee (at.number t lt) (long (compare (branched
        (number_is_ok at (at.number t lt) (branched
        (copied_ok at (reads_global g) (writes_global g) (at.handle t lt) (number_of_value_ok at lt (inner (inner x)) done))
        (long (put (at.number t lt) done)) done)) done r))))

    parameter_found_ok : {t d : ℕ} (o : Option ℕ) (i : ℕ) → lender_at p.lenders i ≡ o → t < b.temporaries → Exit L (suc d) → CodeOk C L k ps rs →
        CodeOk C L (parameter_found (layout_of p b) o t d k) ps rs
    parameter_found_ok {t = t} None i e lt x r = long (put (at.number t lt) r)
    parameter_found_ok (Some g) i e lt x r = global_numbered_ok g (at.lender i g e) lt x r

  module _ {L : Labels} {k : Instructions} {rs : Stack} where
    name_numbered_ok : {ps : Stack} {t d : ℕ} (h : Holder) → HolderFits p unwatched ks [] b 0 0 h → t < b.temporaries → Exit L d → CodeOk C L k ps rs → CodeOk C L (name_numbered (layout_of p b) h t d k) ps rs
    name_numbered_ok (OfName i) hf lt x r = global_numbered_ok i (kind_below (kinds_of p.globals) i Unboxed hf) lt x r
    name_numbered_ok {t = t} (OfParameter i) hf lt x r =
        get (at.parameter i Unboxed hf) (tee (at.number t lt) (long (compare (branched
        (parameter_found_ok (lender_at p.lenders i) i refl lt (inner x) done) done r))))

    source_numbered_ok : {ps : Stack} {t d : ℕ} (q : Source) → IsSource p unwatched ks [] b 0 0 q → t < b.temporaries → Exit L d → CodeOk C L k ps rs → CodeOk C L (source_numbered (layout_of p b) q t d k) ps rs
    source_numbered_ok {t = t} (Held i) h lt x r = name_numbered_ok {t = t} i h lt x r
    source_numbered_ok (Constant z) h lt x r = r

    source_taken_ok : {ps : Stack} (q : Source) (t : ℕ) → t < b.temporaries → CodeOk C L k (I64 ∷ ps) rs → CodeOk C L (source_taken (layout_of p b) q t k) ps rs
    source_taken_ok (Held i) t lt r = get (at.number t lt) r
    source_taken_ok (Constant z) t lt r = long r

    sum_kept_ok : {t d : ℕ} (op : IBinOp) → t < b.temporaries → Exit L d → CodeOk C L k [] rs → CodeOk C L (sum_kept (layout_of p b) op t d k) (I64 ∷ (I64 ∷ [])) rs
    sum_kept_ok {t = t} op lt x r = binary (tee (at.number t lt) (long (binary (long (compare (fail_if_ok at Range x r))))))

  module _ {L : Labels} {k : Instructions} {rs : Stack} where
    sum_taken_ok : {t d : ℕ} (op : IBinOp) (h : Holder) → HolderFits p unwatched ks [] b 0 0 h → t < b.temporaries → Exit L d → CodeOk C L k [] rs → CodeOk C L (sum_taken (layout_of p b) op h t d k) (I64 ∷ (I64 ∷ [])) rs
    sum_taken_ok {t = t} op h hf lt x r = sum_kept_ok {t = t} op lt x (holder_cleared_ok h hf (get (at.number t lt) (holder_put h hf r)))

  module _ {L : Labels} {k : Instructions} {rs : Stack} where
    anyway_ok : {d : ℕ} (s : Sum) → IsSource p unwatched ks [] b 0 0 s.left → IsSource p unwatched ks [] b 0 0 s.right → HolderFits p unwatched ks [] b 0 0 s.target → 1 < b.temporaries → Exit L d →
        CodeOk C L k [] rs → CodeOk C L (summed_anyway (layout_of p b) s d k) [] rs
    anyway_ok s hl hr li lt x r =
        source_numbered_ok s.left hl (omega (arith, lt)) x (source_numbered_ok s.right hr lt x
        (source_taken_ok s.left 0 (omega (arith, lt)) (source_taken_ok s.right 1 lt (sum_taken_ok {t = 0} (sum_op s.op) s.target li (omega (arith, lt)) x r))))

    updated_ok : {d : ℕ} (q : Update) → sorted (context_of p ks) [] (added_code q) ≡ true → room (added_code q) ≤ b.temporaries →
        arrays_in (added_code q) ≤ b.arrays → Exit L d → CodeOk C L k [] rs → CodeOk C L (updated (layout_of p b) q d k) [] rs
    updated_ok {d = d} q s h g x r = by (field_at q.added)
      where
        there : 1 < b.temporaries
        there = let he = room_there q.added in omega (arith, h, he)

        first : 0 < b.temporaries
        first = let two = there in omega (arith, two)

        parts : UpdateParts p unwatched ks [] b 0 0 q
        parts = added_sorted p unwatched ks [] b 0 0 q s

        taken : CodeOk C L (sum_taken (layout_of p b) (sum_op q.op) q.target 0 d k) (I64 ∷ (I64 ∷ [])) rs
        taken = sum_taken_ok {t = 0} (sum_op q.op) q.target (takes_fits p unwatched ks [] b 0 0 q.target parts.kind) first x r

        by : (o : Option ℤ) → CodeOk C L (both_asked (layout_of p b) o q d (sum_taken (layout_of p b) (sum_op q.op) q.target 0 d k)) [] rs
        by (Some z) =
            name_numbered_ok {t = 0} q.name parts.name first x (get (at.number 0 first)
            (long (called (I64 ∷ []) (at.imported (OfPrimitive row.Field)) (called (I64 ∷ []) (at.imported (OfPrimitive row.ToNum)) taken))))
        by None =
            code_ok at false [] [] q.added 0 0 d (none_below b.temporaries first) parts.added (omega (arith, h)) (omega (arith, g)) x
            (name_numbered_ok {t = 1} q.name parts.name there x
            (to_number_ok at (form_of [] q.added) first x (get (at.number 1 there) (get (at.number 0 first) taken))))

  -- counters in arrays
  module _ {L : Labels} {k : Instructions} {rs : Stack} where
    element_numbered_ok : {d : ℕ} (a : ArrayName) → is_array_place (context_of p ks) a ≡ true → 2 < b.temporaries → Exit L d → CodeOk C L k [] rs → CodeOk C L (element_numbered (layout_of p b) a d k) [] rs
    element_numbered_ok a h lt x r =
        let lh : 0 < b.temporaries = omega (arith, lt) in
        array_pushed_ok at a h (get (at.handle 0 lh) (tee (at.handle 0 lh) (called (I32 ∷ []) (at.imported (OfPrimitive row.Dup)) (called [] (at.imported (OfPrimitive row.Elem)) (called [] (at.imported (OfPrimitive row.ToNum)) (kept_number_ok at true lt x r))))))

    element_given_ok : (a : ArrayName) → is_array_place (context_of p ks) a ≡ true → 2 < b.temporaries → CodeOk C L k [] rs → CodeOk C L (element_given (layout_of p b) a k) [] rs
    element_given_ok a h lt r =
        let lh : 0 < b.temporaries = omega (arith, lt) in
        array_pushed_ok at a h (moved_out_ok at (at.handle 0 lh) (get (at.number 2 lt) (called (I32 ∷ (I32 ∷ [])) (at.imported (OfPrimitive row.Num)) (called [] (at.imported (OfPrimitive row.SetElem)) (discard r)))))

  module _ {L : Labels} {k : Instructions} {rs : Stack} where
    tallied_ok : {d : ℕ} (q : Tally) (i : Shape) → IsAdded i q.added → sorted (context_of p ks) [] (tally_code i q) ≡ true → room (tally_code i q) ≤ b.temporaries → arrays_in (tally_code i q) ≤ b.arrays → Exit L d →
        CodeOk C L k [] rs → CodeOk C L (tallied (layout_of p b) q d k) [] rs
    tallied_ok {d = d} q i added s h g x r =
        let t = tally_sorted p ks i q added s in
        let m = tally_room i q in
        let f = form_of [] q.key in
        let lt : 2 < b.temporaries = omega (arith, h, m.three) in
        let l1 : 1 < b.temporaries = omega (arith, lt) in
        let l0 : 0 < b.temporaries = omega (arith, lt) in
        code_ok at false [] [] q.key 0 0 d (none_below b.temporaries l0) t.key (omega (arith, h, m.key)) (omega (arith, g, m.key_arrays)) x
        (code_ok at false (f ∷ []) (0 ∷ []) q.added 1 0 d (one_more_below 0 b.temporaries [] l0 (none_below b.temporaries l0)) t.added (omega (arith, h, m.added)) (omega (arith, g, m.added_arrays)) x
        (to_value_ok at f l0 (element_numbered_ok q.read t.reads lt x (to_number_ok at (form_of (f ∷ []) q.added) l1 x (get (at.number 2 lt) (get (at.number 1 l1)
        (sum_kept_ok {t = 2} (sum_op q.op) lt x (element_given_ok q.written t.writes lt r))))))))

  -- remainders
  module _ {L : Labels} {rs : Stack} where
    multiplied_ok : {k : Instructions} {ps : Stack} (f : Option ℤ) → CodeOk C L k (I64 ∷ ps) rs → CodeOk C L (multiplied f k) (I64 ∷ ps) rs
    multiplied_ok None r = r
    multiplied_ok (Some c) r = long (binary r)

    remainder_taken_ok : {k : Instructions} (q : Remainder) → HolderFits p unwatched ks [] b 0 0 q.multiple.name → HolderFits p unwatched ks [] b 0 0 q.target → CodeOk C L k [] rs → CodeOk C L (remainder_taken (layout_of p b) q k) [] rs
    remainder_taken_ok q hn ht r = holder_read at q.multiple.name hn (multiplied_ok q.multiple.factor (long (binary (holder_put q.target ht r))))

  -- texts behind a name's own
  module _ {L : Labels} {rs : Stack} where
    text_appended_ok : {k : Instructions} {i d : ℕ} (e : Code) → i < length (kinds_of p.globals) → sorted (context_of p ks) [] e ≡ true → room e ≤ b.temporaries →
        arrays_in e ≤ b.arrays → Exit L d → CodeOk C L k [] rs → CodeOk C L (text_appended (layout_of p b) i e d k) [] rs
    text_appended_ok {i = i} {d = d} e li s h g x r =
        let he = room_there e in
        let lt : 0 < b.temporaries = omega (arith, h, he) in
        code_ok at false [] [] e 0 0 d (none_below b.temporaries lt) s (omega (arith, h)) (omega (arith, g)) x
        (to_value_ok at (form_of [] e) lt (read (at.name_handle i li) (moved_out_ok at (at.handle 0 lt) (called [] (at.imported (OfPrimitive row.Concat))
        (kept_value_ok at true lt x (moved_out_ok at (at.handle 0 lt) (write (at.name_handle i li) r)))))))

    chain_appended_ok : {y : Slot} {i d : ℕ} {e : Code} {k : Instructions} → IsChain y e → i < length (kinds_of p.globals) → sorted (context_of p ks) [] e ≡ true →
        room e ≤ b.temporaries → arrays_in e ≤ b.arrays → Exit L d → CodeOk C L k [] rs → CodeOk C L (chain_appended (layout_of p b) i e d k) [] rs
    chain_appended_ok (one_text z a n q) li s h g x r =
        text_appended_ok a li (last_sorted (context_of p ks) (Get z) a s).1 (omega (arith, h)) (omega (arith, g)) x r
    chain_appended_ok {i = i} {d = d} {k = k} (more_texts c a n q) li s h g x r =
        let t = last_sorted (context_of p ks) c a s in
        subst (λ (j : Instructions). CodeOk C L j [] rs) (sym (last_appended (layout_of p b) i a d k n))
        (chain_appended_ok {k = text_appended (layout_of p b) i a d k} n li t.0 (omega (arith, h)) (omega (arith, g)) x
        (text_appended_ok a li t.1 (omega (arith, h)) (omega (arith, g)) x r))

    appended_dropped_ok : {k : Instructions} (o : Option Append) (e : Code) (d : ℕ) → append_in e ≡ o → sorted (context_of p ks) [] e ≡ true → room e ≤ b.temporaries →
        arrays_in e ≤ b.arrays → Exit L d → CodeOk C L k [] rs → CodeOk C L (appended_dropped (layout_of p b) o e d k) [] rs
    appended_dropped_ok None e d eq s h g x r =
        let he = room_there e in
        dropped_ok [] [] e 0 0 d (none_below b.temporaries (omega (arith, h, he))) s (omega (arith, h)) (omega (arith, g)) x r
    appended_dropped_ok (Some q) e d eq s h g x r =
        let t = append_is e q eq in
        let u = chain_sorted (context_of p ks) q.target q.chain (subst (λ (c : Code). sorted (context_of p ks) [] c ≡ true) t.code s) in
        chain_appended_ok t.chain (kind_below (kinds_of p.globals) q.target Boxed u.0) u.1
        (subst (λ (c : Code). room c ≤ b.temporaries) t.code h) (subst (λ (c : Code). arrays_in c ≤ b.arrays) t.code g) x r

  module _ {L : Labels} {k : Instructions} {rs : Stack} where
    remainder_dropped_ok : (o : Option Remainder) (e : Code) (d : ℕ) → remainder_in e ≡ o → sorted (context_of p ks) [] e ≡ true → room e ≤ b.temporaries → arrays_in e ≤ b.arrays → Exit L d →
        CodeOk C L k [] rs → CodeOk C L (remainder_dropped (layout_of p b) o e d k) [] rs
    remainder_dropped_ok None e d eq s h g x r = appended_dropped_ok (append_in e) e d refl s h g x r
    remainder_dropped_ok (Some q) e d eq s h g x r =
        let he = room_there e in
        let t = remainder_sorted p unwatched ks [] b 0 0 q (subst (λ (c : Code). sorted (context_of p ks) [] c ≡ true) (remainder_is e q eq).code s) in
        all_unsure_ok at (remainder_names q) (pos (most_multiplied q.multiple.factor)) (most_multiplied q.multiple.factor + most_multiplied q.multiple.factor) (remainder_unboxed p unwatched ks [] b 0 0 q t)
        (branched (dropped_ok [] [] e 0 0 (suc d) (none_below b.temporaries (omega (arith, h, he))) s (omega (arith, h)) (omega (arith, g)) (inner x) done)
        (remainder_taken_ok q t.name (takes_fits p unwatched ks [] b 0 0 q.target t.target) done) r)

  module _ {L : Labels} {k : Instructions} {rs : Stack} where
    barely_dropped_ok : (o : Option Tally) (e : Code) (d : ℕ) → tally_in e ≡ o → sorted (context_of p ks) [] e ≡ true → room e ≤ b.temporaries → arrays_in e ≤ b.arrays → Exit L d →
        CodeOk C L k [] rs → CodeOk C L (barely_dropped (layout_of p b) o e d k) [] rs
    barely_dropped_ok None e d eq s h g x r = remainder_dropped_ok (remainder_in e) e d refl s h g x r
    barely_dropped_ok (Some q) e d eq s h g x r =
        let t = tally_is e q eq in
        subst (λ (c : Code). sorted (context_of p ks) [] c ≡ true → room c ≤ b.temporaries → arrays_in c ≤ b.arrays → CodeOk C L (tallied (layout_of p b) q d k) [] rs) (sym t.code)
        (λ s1 h1 g1. tallied_ok q t.shape t.added s1 h1 g1 x r) s h g

  module _ {L : Labels} {k : Instructions} {rs : Stack} where
    plainly_dropped_ok : (o : Option Update) (e : Code) (d : ℕ) → update_in e ≡ o → sorted (context_of p ks) [] e ≡ true → room e ≤ b.temporaries → arrays_in e ≤ b.arrays → Exit L d →
        CodeOk C L k [] rs → CodeOk C L (plainly_dropped (layout_of p b) o e d k) [] rs
    plainly_dropped_ok None e d eq s h g x r = barely_dropped_ok (tally_in e) e d refl s h g x r
    plainly_dropped_ok (Some q) e d eq s h g x r =
        subst (λ (c : Code). sorted (context_of p ks) [] c ≡ true → room c ≤ b.temporaries → arrays_in c ≤ b.arrays → CodeOk C L (updated (layout_of p b) q d k) [] rs) (sym (added_is e q eq).0)
        (λ s1 h1 g1. updated_ok q s1 h1 g1 x r) s h g

    quickly_dropped_ok : (o : Option Sum) (e : Code) (d : ℕ) → sum_in e ≡ o → sorted (context_of p ks) [] e ≡ true → room e ≤ b.temporaries → arrays_in e ≤ b.arrays → Exit L d →
        CodeOk C L k [] rs → CodeOk C L (quickly_dropped (layout_of p b) o e d k) [] rs
    quickly_dropped_ok None e d eq s h g x r = plainly_dropped_ok (update_in e) e d refl s h g x r
    quickly_dropped_ok (Some a) e d eq s h g x r =
        let t = sum_is p unwatched ks [] b 0 0 e a eq s in
        let few = t.room in
        let kind = takes_fits p unwatched ks [] b 0 0 a.target t.kind in
        all_unsure_ok at (sum_names a) (pos (2 ^ 52)) (2 ^ 53) (sum_unboxed p unwatched ks [] b 0 0 e a t)
        (branched (anyway_ok a (near_source p unwatched ks [] b 0 0 a.left t.left) (near_source p unwatched ks [] b 0 0 a.right t.right) kind (omega (arith, h, few)) (inner x) done)
        (source_ok at (2 ^ 52) a.left t.left (source_ok at (2 ^ 52) a.right t.right (binary (holder_put a.target kind done)))) r)

    left_unless_counted_ok : (o : Option Counted) (e : Code) (d out : ℕ) → counted_in e ≡ o → test_sorted (context_of p ks) e ≡ true → room e ≤ b.temporaries → arrays_in e ≤ b.arrays → Exit L d → Exit L out →
        CodeOk C L k [] rs → CodeOk C L (left_unless_counted (layout_of p b) o e d out k) [] rs
    left_unless_counted_ok None e d out eq s h g x z r = tested_ok e s h g x (test (leave_if z r))
    left_unless_counted_ok (Some q) e d out eq s h g x z r =
        let hf = (counted_is p unwatched ks [] b 0 0 e q eq (and_parts (is_tested (form_of [] e)) (sorted (context_of p ks) [] e) s).1).kind in
        holder_read at q.name hf (long (compare (branched (tested_ok e s h g (inner x) (test (leave_if (inner z) done)))
        (holder_read at q.name hf (word (called (I64 ∷ []) (at.imported (OfPrimitive row.GetSpecial)) (called (I64 ∷ []) (at.imported (OfPrimitive row.ToNum)) (compare (leave_if (inner z) done)))))) r)))

    left_unless_pair_ok : (o : Option Pair) (e : Code) (d out : ℕ) → pair_in e ≡ o → test_sorted (context_of p ks) e ≡ true → room e ≤ b.temporaries → arrays_in e ≤ b.arrays → Exit L d → Exit L out →
        CodeOk C L k [] rs → CodeOk C L (left_unless_pair (layout_of p b) o e d out k) [] rs
    left_unless_pair_ok None e d out eq s h g x z r = left_unless_counted_ok (counted_in e) e d out refl s h g x z r
    left_unless_pair_ok (Some q) e d out eq s h g x z r =
        let t = pair_is p unwatched ks [] b 0 0 e q eq (and_parts (is_tested (form_of [] e)) (sorted (context_of p ks) [] e) s).1 in
        all_unsure_ok at (pair_names q) (pos (2 ^ 53)) (2 ^ 54) (pair_unboxed p unwatched ks [] b 0 0 e q t)
        (branched (tested_ok e s h g (inner x) (test (leave_if (inner z) done)))
        (source_ok at (2 ^ 53) q.left t.left (source_ok at (2 ^ 53) q.right t.right (compare (leave_if (inner z) done)))) r)

    left_unless_ok : (o : Option Within) (e : Code) (d out : ℕ) → test_within e ≡ o → test_sorted (context_of p ks) e ≡ true → room e ≤ b.temporaries → arrays_in e ≤ b.arrays → Exit L d → Exit L out →
        CodeOk C L k [] rs → CodeOk C L (left_unless (layout_of p b) o e d out k) [] rs
    left_unless_ok None e d out eq s h g x z r = left_unless_pair_ok (pair_in e) e d out refl s h g x z r
    left_unless_ok (Some q) e d out eq s h g x z r =
        let hf = (test_is p unwatched ks [] b 0 0 e q eq (and_parts (is_tested (form_of [] e)) (sorted (context_of p ks) [] e) s).1).kind in
        holder_read at q.name hf (long (binary (long (compare (branched (tested_ok e s h g (inner x) (test (leave_if (inner z) done))) done r)))))

  -- one of two codes
  chosen_ok : {L : Labels} {rs : Stack} (j : Bool) (A B : Instructions) → CodeOk C L A [] rs → CodeOk C L B [] rs → CodeOk C L (if j then A else B) [] rs
  chosen_ok true A B r q = r
  chosen_ok false A B r q = q

  module _ {L : Labels} {k : Instructions} {rs : Stack} where
    key_stored_ok : (u : ℕ) (e : Code) (d : ℕ) → u < b.iterators → sorted (context_of p ks) (a_value ∷ []) e ≡ true → suc (room e) ≤ b.temporaries →
        arrays_in e ≤ b.arrays → Exit L 1 → Exit L d →
        CodeOk C L k [] rs → CodeOk C L (key_stored (layout_of p b) u e d k) [] rs
    key_stored_ok u e d lu s h g z x r =
        let lt : 0 < b.temporaries = omega (arith, h) in
        get (at.iterator u lu) (tee (at.iterator u lu) (called [] (at.imported (OfPrimitive row.IterNext))
        (tee (at.handle 0 lt) (word (compare (leave_if z
        (dropped_ok (a_value ∷ []) (0 ∷ []) e 1 0 d (one_more_below 0 b.temporaries [] lt (none_below b.temporaries lt)) s (omega (arith, h))
        (omega (arith, g)) x
        (let_go_ok at Drop (at.imported Drop) (at.handle 0 lt) r))))))))

  -- `return`

  module _ {L : Labels} {k : Instructions} {rs : Stack} where
    answer_given_ok : {d : ℕ} (f : Form) → 0 < b.temporaries → Exit L (suc d) → CodeOk C L k [] rs → CodeOk C L (answer_given (layout_of p b) f d k) [] rs
    answer_given_ok (PrimitiveAnswer (answer.Of sort.Value)) lt y r = moved_out_ok at (at.handle 0 lt) (write at.text (long (put at.answer (leave y r))))
    answer_given_ok (PrimitiveAnswer (answer.Of sort.Number)) lt y r = get (at.number 0 lt) (put at.answer (leave y r))
    answer_given_ok (PrimitiveAnswer answer.Truth) lt y r = get (at.number 0 lt) (put at.answer (leave y r))
    answer_given_ok NumberOrText lt y r =
        number_is_ok at (at.number 0 lt) (branched (moved_out_ok at (at.handle 0 lt) (write at.text done)) done
        (get (at.number 0 lt) (put at.answer (leave y r))))
    answer_given_ok OptionalNumber lt y r = get (at.number 0 lt) (put at.answer (leave y r))
    answer_given_ok f lt y r = long (put at.answer (leave y r))

  parameter_returned_ok : {L : Labels} {k : Instructions} {rs : Stack} (o : Option ℕ) (i d : ℕ) → sorted (context_of p ks) [] (Get (Parameter true i)) ≡ true →
      0 < b.temporaries → Exit L d → Exit L (suc d) → CodeOk C L k [] rs → CodeOk C L (parameter_returned (layout_of p b) o i d k) [] rs
  unfolding sorted
  parameter_returned_ok None i d s lt x y r = get (at.parameter i Unboxed s) (put at.answer (leave y r))
  parameter_returned_ok (Some g) i d s lt x y r =
      code_ok at false [] [] (Get (Parameter true i)) 0 0 d (none_below b.temporaries lt) s lt (omega arith) x (answer_given_ok NumberOrText lt y r)

  returned_ok : {L : Labels} {k : Instructions} {rs : Stack} (e : Code) (d : ℕ) → fits (form_of [] e) sort.Value ≡ true → sorted (context_of p ks) [] e ≡ true → room e ≤ b.temporaries → arrays_in e ≤ b.arrays →
      Exit L d → Exit L (suc d) → CodeOk C L k [] rs → CodeOk C L (returned (layout_of p b) e d k) [] rs
  unfolding sorted
  returned_ok (Choose sort.Value e a c) d f s h g x y r =
      let ctx = context_of p ks in
      let s1 = and_parts (is_tested (form_of [] e)) (fits (form_of [] a) sort.Value && (fits (form_of [] c) sort.Value && (sorted ctx [] e && (sorted ctx [] a && sorted ctx [] c)))) s in
      let s2 = and_parts (fits (form_of [] a) sort.Value) (fits (form_of [] c) sort.Value && (sorted ctx [] e && (sorted ctx [] a && sorted ctx [] c))) s1.1 in
      let s3 = and_parts (fits (form_of [] c) sort.Value) (sorted ctx [] e && (sorted ctx [] a && sorted ctx [] c)) s2.1 in
      let s4 = and_parts (sorted ctx [] e) (sorted ctx [] a && sorted ctx [] c) s3.1 in
      let s5 = and_parts (sorted ctx [] a) (sorted ctx [] c) s4.1 in
      let t = ap₂ (λ t q. t && q) s1.0 s4.0 in
      let so = returned_ok a (suc d) s2.0 s5.0 (omega (arith, h)) (omega (arith, g)) (inner x) (inner y) done in
      chosen_ok (is_some (pair_in e)) _ _
      (blocked (left_unless_pair_ok (pair_in e) e (suc d) 0 refl t (omega (arith, h)) (omega (arith, g)) (inner x) nearest so)
      (returned_ok c d s3.0 s5.1 (omega (arith, h)) (omega (arith, g)) x y r))
      (tested_ok e t (omega (arith, h)) (omega (arith, g)) x (branched so
      (returned_ok c (suc d) s3.0 s5.1 (omega (arith, h)) (omega (arith, g)) (inner x) (inner y) done)
      r))
  returned_ok (Get (Parameter true i)) d f s h g x y r = parameter_returned_ok (lender_at p.lenders i) i d s h x y r
  returned_ok e d f s h g x y r =
      let he = room_there e in
      let lt : 0 < b.temporaries = omega (arith, h, he) in
      code_ok at false [] [] e 0 0 d (none_below b.temporaries lt) s (omega (arith, h)) (omega (arith, g)) x (answer_given_ok (form_of [] e) lt y r)

  mutual
    unfolding step_emitted steps_emitted step_sorted steps_sorted

    step_ok : {L : Labels} {k : Instructions} {rs : Stack} (o l : Bool) (s : Step) (u d bk ct : ℕ) → step_sorted (context_of p ks) o l s ≡ true →
        step_room s ≤ b.temporaries → u + step_iterators s ≤ b.iterators → step_arrays s ≤ b.arrays → Ways o L d → Exit L bk → Exit L ct →
        CodeOk C L k [] rs →
        CodeOk C L (step_emitted (layout_of p b) s u d bk ct k) [] rs
    step_ok o l (Eval e) u d bk ct s h i g x y z r =
        nothing (quickly_dropped_ok (sum_in e) e d refl (and_parts (is_dropped (form_of [] e)) (sorted (context_of p ks) [] e) s).1 h g x.left r)
    step_ok o l (Block ss) u d bk ct s h i g x y z r = nothing (steps_ok o l ss u d bk ct s h i g x y z r)
    step_ok o l (If e a c) u d bk ct s h i g x y z r =
        let sa = step_sorted (context_of p ks) o l a in
        let sc = step_sorted (context_of p ks) o l c in
        let s1 = and_parts (test_sorted (context_of p ks) e) (sa && sc) s in
        let s2 = and_parts sa sc s1.1 in
        nothing (chosen_ok (is_some (pair_in e)) _ _
        (blocked (blocked
        (left_unless_pair_ok (pair_in e) e (suc (suc d)) 0 refl s1.0 (omega (arith, h)) (omega (arith, g)) (inner (inner x.left)) nearest
        (step_ok o l a u (suc (suc d)) (suc (suc bk)) (suc (suc ct)) s2.0 (omega (arith, h)) (omega (arith, i)) (omega (arith, g)) (deeper (deeper x)) (inner (inner y)) (inner (inner z)) (leave (inner nearest) done)))
        (step_ok o l c u (suc d) (suc bk) (suc ct) s2.1 (omega (arith, h)) (omega (arith, i)) (omega (arith, g)) (deeper x) (inner y) (inner z) done)) r)
        (tested_ok e s1.0 (omega (arith, h)) (omega (arith, g)) x.left (branched
        (step_ok o l a u (suc d) (suc bk) (suc ct) s2.0 (omega (arith, h)) (omega (arith, i)) (omega (arith, g)) (deeper x) (inner y) (inner z) done)
        (step_ok o l c u (suc d) (suc bk) (suc ct) s2.1 (omega (arith, h)) (omega (arith, i)) (omega (arith, g)) (deeper x) (inner y) (inner z) done)
        r)))
    step_ok o l (Loop true e a c) u d bk ct s h i g x y z r =
        let sa = step_sorted (context_of p ks) o true a in
        let sc = step_sorted (context_of p ks) o false c in
        let s1 = and_parts (test_sorted (context_of p ks) e) (sa && sc) s in
        let s2 = and_parts sa sc s1.1 in
        let rest = chosen_ok (is_nothing c) _ _ (leave nearest done)
        (step_ok o false c u (suc (suc d)) 1 0 s2.1 (omega (arith, h)) (omega (arith, i)) (omega (arith, g)) (deeper (deeper x)) (inner nearest) nearest (leave nearest done)) in
        nothing (blocked (looped
        (left_unless_ok (test_within e) e (suc (suc d)) 1 refl s1.0 (omega (arith, h)) (omega (arith, g)) (inner (inner x.left)) (inner nearest)
        (chosen_ok (step_jumps a) _ _
        (blocked
        (step_ok o true a u (suc (suc (suc d))) 2 0 s2.0 (omega (arith, h)) (omega (arith, i)) (omega (arith, g)) (deeper (deeper (deeper x))) (inner (inner nearest)) nearest done) rest)
        (step_ok o true a u (suc (suc d)) 1 0 s2.0 (omega (arith, h)) (omega (arith, i)) (omega (arith, g)) (deeper (deeper x)) (inner nearest) nearest rest)))
        done) r)
    step_ok o l (Loop false e a c) u d bk ct s h i g x y z r =
        let sa = step_sorted (context_of p ks) o true a in
        let sc = step_sorted (context_of p ks) o false c in
        let s1 = and_parts (test_sorted (context_of p ks) e) (sa && sc) s in
        let s2 = and_parts sa sc s1.1 in
        nothing (blocked (looped (blocked
        (step_ok o true a u (suc (suc (suc d))) 2 0 s2.0 (omega (arith, h)) (omega (arith, i)) (omega (arith, g)) (deeper (deeper (deeper x)))
        (inner (inner nearest)) nearest done)
        (step_ok o false c u (suc (suc d)) 1 0 s2.1 (omega (arith, h)) (omega (arith, i)) (omega (arith, g)) (deeper (deeper x)) (inner nearest) nearest
        (nothing (tested_ok e s1.0 (omega (arith, h)) (omega (arith, g)) (inner (inner x.left)) (leave_if nearest done)))))
        done) r)
    step_ok o l (Each a e c) u d bk ct s h i g x y z r =
        let sc = step_sorted (context_of p ks) o true c in
        let se = sorted (context_of p ks) (a_value ∷ []) e in
        let s1 = and_parts (is_array_place (context_of p ks) a) (stores_well [] e && (se && sc)) s in
        let s2 = and_parts se sc (and_parts (stores_well [] e) (se && sc) s1.1).1 in
        nothing (array_pushed_ok at a s1.0 (called [] (at.imported (OfPrimitive row.Iter)) (put (at.iterator u (omega (arith, i)))
        (blocked (looped
        (key_stored_ok u e (suc (suc d)) (omega (arith, i)) s2.0 (omega (arith, h)) (omega (arith, g)) (inner nearest) (inner (inner x.left)) (blocked
        (step_ok o true c (suc u) (suc (suc (suc d))) 2 0 s2.1 (omega (arith, h)) (omega (arith, i)) (omega (arith, g)) (deeper (deeper (deeper x)))
        (inner (inner nearest)) nearest done)
        (leave nearest done)))
        done)
        (iterator_left_ok u (omega (arith, h)) (omega (arith, i)) r)))))
    step_ok o l Break u d bk ct s h i g x y z r = nothing (leave y r)
    step_ok o l Continue u d bk ct s h i g x y z r = nothing (leave z r)
    step_ok o l Next u d bk ct s h i g x y z r = nothing (left_by_ok _ x.left r)
    step_ok o l ExitStep u d bk ct s h i g x y z r = nothing (left_by_ok _ x.left r)
    step_ok o l (ExitWith e) u d bk ct s h i g x y z r =
        let he = room_there e in
        let lt : 0 < b.temporaries = omega (arith, h, he) in
        nothing (code_ok at false [] [] e 0 0 d (none_below b.temporaries lt)
        (and_parts (fits (form_of [] e) sort.Number) (sorted (context_of p ks) [] e) s).1 (omega (arith, h)) (omega (arith, g)) x.left
        (to_number_ok at (form_of [] e) lt x.left (get (at.number 0 lt) (write at.status (left_by_ok _ x.left r)))))
    step_ok o l (Return e) u d bk ct s h i g x y z r =
        let s1 = and_parts o (fits (form_of [] e) sort.Value && sorted (context_of p ks) [] e) s in
        let s2 = and_parts (fits (form_of [] e) sort.Value) (sorted (context_of p ks) [] e) s1.1 in
        nothing (returned_ok e d s2.0 s2.1 h g x.left (x.returned s1.0) r)
    step_ok o l (Mark j c) u d bk ct s h i g x y z r = nothing (word (write (at.range j (ltb-true j p.ranges s)) r))

    pub steps_ok : {L : Labels} {k : Instructions} {rs : Stack} (o l : Bool) (ss : Steps) (u d bk ct : ℕ) →
        steps_sorted (context_of p ks) o l ss ≡ true →
        steps_room ss ≤ b.temporaries → u + steps_iterators ss ≤ b.iterators → steps_arrays ss ≤ b.arrays → Ways o L d → Exit L bk → Exit L ct →
        CodeOk C L k [] rs →
        CodeOk C L (steps_emitted (layout_of p b) ss u d bk ct k) [] rs
    steps_ok o l NoStep u d bk ct s h i g x y z r = r
    steps_ok o l (Then c ss) u d bk ct s h i g x y z r =
        let s1 = and_parts (step_sorted (context_of p ks) o l c) (steps_sorted (context_of p ks) o l ss) s in
        step_ok o l c u d bk ct s1.0 (omega (arith, h)) (omega (arith, i)) (omega (arith, g)) x y z
        (steps_ok o l ss u d bk ct s1.1 (omega (arith, h)) (omega (arith, i)) (omega (arith, g)) x y z r)
