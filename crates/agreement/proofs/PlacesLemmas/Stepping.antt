-- Where the places of functions are: one for each step, and one for the test of a `do` loop.
use Rattle.std.proofs.Common.{◌≡◌, ℕ, zero, suc, ◌+◌, ◌≤◌, Bool, true, false, ◌&&◌, nat_le, List, [], ◌∷◌, ◌++◌, length, refl, sym, ap, ap₂, ◌∙◌, subst, arith}
use Rattle.std.proofs.lemmas.Bool.{and_parts, le-leb}
use Rattle.std.proofs.lemmas.List.{append_assoc, append-nil, length-append}
use Rattle.std.specs.Prelude.{if◌then◌else◌, Option, Some, None, is_some, ℤ}
use Rattle.sem_primitives.specs.declared.sorts.Answer.TheVariants as answer
use Rattle.sem_primitives.specs.declared.sorts.Sort.TheVariants as sort
use Rattle.sem_primitives.specs.declared.table.Primitive.TheVariants as row
use Rattle.wasm_types.specs.Syntax.{Instruction, Plain, BrTable, Block, Loop as Again, If, Instructions, Done, Then}
use Rattle.wasm_types.specs.declared.instr.IBinOp.{IBinOp}
use Rattle.wasm_types.specs.declared.instr.Simple.{Simple}
use Rattle.wasm_types.specs.declared.instr.Simple.TheVariants.{Br, BrIf, Nop}
use Rattle.mid_program.specs.Mid.{Kind, Boxed, Unboxed, ArrayKind, Parameter, Slot, Code, Do, Over, Compare, Number, Text, Array, IsOpen, Seq, Codes, End, At, Fixed, Fresh, Get, Step, Eval, Block as Steps_, If as Either, Loop, Each, Break, Continue, Next, Exit, ExitWith, Return, Mark, Steps, NoStep, Then as AndThen, Program, Routine, Choose, Form, PrimitiveAnswer, NumberOrText, OptionalNumber, a_value, form_of}
use Rattle.mid_program.specs.Sorted.{lender_at}
use Rattle.sem_scripts.specs.Names.{ArrayName}
use Rattle.lower_model.specs.Appends.{Append, append_in, are_still, is_still}
use Rattle.lower_model.specs.Boundaries.{is_nop, nops_in, nops_of, step_places, steps_places}
use Rattle.lower_model.specs.Emission.{Layout, field_at, function_number, tested}
use Rattle.lower_model.specs.Functions.{layout_of, main_bases, main_callee, routine_bases, routine_callee}
use Rattle.lower_model.specs.Noted.{routine_rest}
use Rattle.lower_model.specs.Places.{Bases, handle_local, made_in}
use Rattle.lower_model.specs.Quick.{Within, test_within, Source, Holder, OfName, OfParameter, Held, Constant, Sum, sum_names, sum_op, sum_in, Update, update_in, Tally, tally_in, Remainder, remainder_in, remainder_names, multiplied, Counted, counted_in, Pair, pair_names, pair_in, step_jumps, is_nothing}
use Rattle.lower_model.specs.Small.{emit, emit_if}
use Rattle.lower_model.specs.Statements.{parameter_found, name_numbered, source_numbered, source_taken, sum_kept, sum_taken, summed_anyway, both_asked, element_numbered, element_given, text_appended, chain_appended, appended_dropped, remainder_taken, remainder_dropped, barely_dropped, plainly_dropped, quickly_dropped, left_unless_counted, left_unless_pair, left_unless, all_emptied, arrays_emptied, arrays_swept, before_parts, block, first_part, goes_on, has_functions, iterator_left, iterators_emptied, iterators_swept, key_stored, left_by, left_swept, main_body, names_declared, names_made, parameters_dropped, part_done, record_done, records_read, routine_body, routines_declared, started, step_emitted, steps_emitted, swept, temporaries_emptied, temporaries_swept, answer_given, parameter_returned, returned, name_put, counted_left}
use Rattle.lower_model.proofs.Chains.{IsChain, one_text, more_texts, append_is, last_appended}
use Rattle.lower_model.proofs.Tallies.{Shape, Updating, Following, Leading, tally_code, IsAdded, tally_is}
use Rattle.lower_model.proofs.Updating.{added_is}
use Rattle.agreement.specs.Places.Statements.{main_places, main_starts, routine_starts, starts_in, starts_of, step_starts, steps_starts}
use Rattle.agreement.proofs.PlacesLemmas.Nops.{Nops, holder_nops, all_nops, source_nops, array_nops, asked_nops, choice, dropped_nops, emitted_nops, kept_code_nops, kept_number_nops, none, pending_nops, plain, rounds, tested_nops, to_number_nops, to_value_nops, whichever}
use Rattle.agreement.proofs.PlacesLemmas.Pending.{AllMeet, Limit, Meets, PartsFew, PartsMeet, StepMeets, StepsFew, StepsMeet, UpTo, calls_fit, last_local, limit_of}

begun : {l : Limit} {k : Instructions} {m : List Instructions} → Nops l k m → Nops l (emit Nop k) (emit Nop k ∷ m)
begun {k = k} r = record { are = ap (λ x. emit Nop k ∷ x) r.are; calls = r.calls; frees = r.frees }

within : {l : Limit} {a k : Instructions} {p m : List Instructions} → Nops l a p → Nops l k m → Nops l (block a k) (p ++ m)
within a r = let x = rounds a r in record { are = x.are; calls = x.calls; frees = x.frees }

branches : {l : Limit} {a c k : Instructions} {p q m : List Instructions} → Nops l a p → Nops l c q → Nops l k m → Nops l (emit_if a c k) ((p ++ q) ++ m)
branches a c r = let x = rounds (rounds a c) r in record { are = ap₂ (λ x y. x ++ y) (ap₂ (λ x y. x ++ y) a.are c.are) r.are; calls = x.calls; frees = x.frees }

as_listed : {l : Limit} {k : Instructions} {m j : List Instructions} → Nops l k m → m ≡ j → Nops l k j
as_listed r e = record { are = r.are ∙ e; calls = r.calls; frees = r.frees }

-- nothing comes after
alone : {l : Limit} {k : Instructions} {m : List Instructions} → Nops l k (m ++ []) → Nops l k m
alone {m = m} r = as_listed r (append-nil m)

-- one of two codes, with the places of the one that it is
chosen : {l : Limit} (j : Bool) (p q m : List Instructions) {a c : Instructions} → Nops l a (p ++ m) → Nops l c (q ++ m) → Nops l (if j then a else c) ((if j then p else q) ++ m)
chosen true p q m r s = r
chosen false p q m r s = s

chosen_before : {l : Limit} (j : Bool) (p q n m : List Instructions) {a c : Instructions} → Nops l a ((p ++ n) ++ m) → Nops l c ((q ++ n) ++ m) → Nops l (if j then a else c) (((if j then p else q) ++ n) ++ m)
chosen_before true p q n m r s = r
chosen_before false p q n m r s = s

none_or : {l : Limit} (j : Bool) {a c : Instructions} {q : List Instructions} → Nops l a [] → Nops l c q → Nops l (if j then a else c) (if j then [] else q)
none_or true r q = r
none_or false r q = q

-- what is so of each call in the whole is so of each in what is added
added_few : (G : (t f : ℕ) → Codes → Type 0) (e : Code) (q : Update) → update_in e ≡ Some q → Meets G zero e → Meets G zero q.added
added_few G e q h lo = (subst (Meets G zero) (added_is e q h).0 lo).0

-- and in a counter's key, and what is added after it
tally_few : (G : (t f : ℕ) → Codes → Type 0) (i : Shape) (q : Tally) → IsAdded i q.added → Meets G zero (tally_code i q) → Meets G zero q.key × Meets G 1 q.added
tally_few G Updating q a lo = (lo.0, lo.1.0)
tally_few G Following q a lo = (lo.0, subst (Meets G 1) (sym a.1) tt)
tally_few G Leading q a lo = (lo.0, subst (Meets G 1) (sym a.1) tt)

counter_few : (G : (t f : ℕ) → Codes → Type 0) (e : Code) (q : Tally) → tally_in e ≡ Some q → Meets G zero e → Meets G zero q.key × Meets G 1 q.added
counter_few G e q h lo = let t = tally_is e q h in tally_few G t.shape q t.added (subst (Meets G zero) t.code lo)

-- there is no call in what is put behind a name's text
mutual
  still_few : (G : (t f : ℕ) → Codes → Type 0) (x : Slot) (e : Code) (t : ℕ) → is_still x e ≡ true → Meets G t e
  still_few G x (Do o es) t h = all_few G x es t h
  still_few G x (Over o es) t h = all_few G x es t h
  still_few G x (Compare c a b) t h = let s = and_parts (is_still x a) (is_still x b) h in (still_few G x a t s.0, still_few G x b (suc t) s.1)
  still_few G x (Number z) t h = tt
  still_few G x (Text i) t h = tt
  still_few G x (Get z) t h = tt
  still_few G x (Array a) t h = tt
  still_few G x (IsOpen i) t h = tt
  still_few G x (Choose s c a b) t h =
      let u = and_parts (is_still x c) (is_still x a && is_still x b) h in
      let v = and_parts (is_still x a) (is_still x b) u.1 in
      (still_few G x c t u.0, (still_few G x a t v.0, still_few G x b t v.1))
  still_few G x (Seq a b) t h = let s = and_parts (is_still x a) (is_still x b) h in (still_few G x a t s.0, still_few G x b t s.1)
  still_few G x e t h = cc

  all_few : (G : (t f : ℕ) → Codes → Type 0) (x : Slot) (es : Codes) (t : ℕ) → are_still x es ≡ true → AllMeet G t es
  all_few G x End t h = tt
  all_few G x (At e es) t h = let s = and_parts (is_still x e) (are_still x es) h in (still_few G x e t s.0, all_few G x es (suc t) s.1)
  all_few G x (Fixed n es) t h = all_few G x es t h
  all_few G x (Fresh es) t h = cc

module _ (y : Layout) (l : Limit) (G : (t f : ℕ) → Codes → Type 0)
    (enough : (t f : ℕ) (es : Codes) → G t f es → l.allowed (function_number f) (handle_local y.bases t) (made_in es) ≡ true) where
  abbrev b : Bases
  b = y.bases

  module _ {k : Instructions} {m : List Instructions} where
    key_nops : (u : ℕ) (e : Code) (d : ℕ) → (l.asked ≡ true → Meets G 1 e) → Nops l k m → Nops l (key_stored y u e d k) m
    key_nops u e d lo r =
        plain _ refl (plain _ refl (plain _ refl (plain _ refl (plain _ refl (plain _ refl (plain _ refl
        (dropped_nops y l G enough (a_value ∷ []) (zero ∷ []) e 1 zero d lo (record { are = r.are; calls = r.calls; frees = r.frees }))))))))

    iterator_nops : (u : ℕ) → Nops l k m → Nops l (iterator_left y u k) m
    iterator_nops u r = record { are = r.are; calls = r.calls; frees = r.frees }

    left_by_nops : (way d : ℕ) → Nops l k m → Nops l (left_by way d k) m
    left_by_nops way d r = record { are = r.are; calls = r.calls; frees = r.frees }

  -- Quick ways.

  -- a holder's number is written
  put_nops : {k : Instructions} {m : List Instructions} (h : Holder) → Nops l k m → Nops l (emit (name_put y h) k) m
  put_nops (OfName i) r = plain _ refl r
  put_nops (OfParameter i) r = plain _ refl r

  -- sums in all cases

  found_nops : {k : Instructions} {m : List Instructions} (o : Option ℕ) (t d : ℕ) → Nops l k m → Nops l (parameter_found y o t d k) m
  found_nops None t d r = record { are = r.are; calls = r.calls; frees = r.frees }
  found_nops (Some g) t d r = record { are = r.are; calls = r.calls; frees = r.frees }

  name_nops : {k : Instructions} {m : List Instructions} (i : Holder) (t d : ℕ) → Nops l k m → Nops l (name_numbered y i t d k) m
  name_nops (OfName i) t d r = record { are = r.are; calls = r.calls; frees = r.frees }
  name_nops (OfParameter i) t d r = plain _ refl (plain _ refl (plain _ refl (plain _ refl (choice (found_nops (lender_at y.lenders i) t d none) none r))))

  numbered_nops : {k : Instructions} {m : List Instructions} (x : Source) (t d : ℕ) → Nops l k m → Nops l (source_numbered y x t d k) m
  numbered_nops (Held i) t d r = name_nops i t d r
  numbered_nops (Constant z) t d r = r

  taken_nops : {k : Instructions} {m : List Instructions} (x : Source) (t : ℕ) → Nops l k m → Nops l (source_taken y x t k) m
  taken_nops (Held i) t r = plain _ refl r
  taken_nops (Constant z) t r = plain _ refl r

  sum_nops : {k : Instructions} {m : List Instructions} (op : IBinOp) (i : Holder) (t d : ℕ) → Nops l k m → Nops l (sum_taken y op i t d k) m
  sum_nops op (OfName i) t d r = record { are = r.are; calls = r.calls; frees = r.frees }
  sum_nops op (OfParameter i) t d r = record { are = r.are; calls = r.calls; frees = r.frees }

  anyway_nops : {k : Instructions} {m : List Instructions} (x : Sum) (d : ℕ) → Nops l k m → Nops l (summed_anyway y x d k) m
  anyway_nops x d r = numbered_nops x.left zero d (numbered_nops x.right 1 d (taken_nops x.left zero (taken_nops x.right 1 (sum_nops (sum_op x.op) x.target zero d r))))

  -- counters in arrays

  kept_nops : {k : Instructions} {m : List Instructions} (op : IBinOp) (t d : ℕ) → Nops l k m → Nops l (sum_kept y op t d k) m
  kept_nops op t d r = record { are = r.are; calls = r.calls; frees = r.frees }

  element_nops : {k : Instructions} {m : List Instructions} (a : ArrayName) (d : ℕ) → Nops l k m → Nops l (element_numbered y a d k) m
  element_nops a d r = array_nops y l G enough a (record { are = r.are; calls = r.calls; frees = r.frees })

  given_nops : {k : Instructions} {m : List Instructions} (a : ArrayName) → Nops l k m → Nops l (element_given y a k) m
  given_nops a r = array_nops y l G enough a (record { are = r.are; calls = r.calls; frees = r.frees })

  -- remainders

  multiplied_nops : {k : Instructions} {m : List Instructions} (f : Option ℤ) → Nops l k m → Nops l (multiplied f k) m
  multiplied_nops None r = r
  multiplied_nops (Some c) r = plain _ refl (plain _ refl r)

  taken_remainder_nops : {k : Instructions} {m : List Instructions} (q : Remainder) → Nops l k m → Nops l (remainder_taken y q k) m
  taken_remainder_nops q r = holder_nops y l G enough q.multiple.name (multiplied_nops q.multiple.factor (plain _ refl (plain _ refl (put_nops q.target r))))

  -- texts behind a name's own

  text_nops : {k : Instructions} {m : List Instructions} (x : Slot) (i : ℕ) (e : Code) (d : ℕ) → is_still x e ≡ true → Nops l k m →
      Nops l (text_appended y i e d k) m
  text_nops x i e d h r =
      emitted_nops y l G enough false [] [] e zero zero d (λ z. still_few G x e zero h)
      (to_value_nops b (form_of [] e) zero (record { are = r.are; calls = r.calls; frees = r.frees }))

  chain_nops : {m : List Instructions} {x : Slot} {e : Code} {k : Instructions} (i d : ℕ) → IsChain x e → Nops l k m → Nops l (chain_appended y i e d k) m
  chain_nops {x = x} i d (one_text z a n h) r = text_nops x i a d h r
  chain_nops {m = m} {x = x} {k = k} i d (more_texts c a n h) r =
      subst (λ (j : Instructions). Nops l j m) (sym (last_appended y i a d k n)) (chain_nops {k = text_appended y i a d k} i d n (text_nops x i a d h r))

  appended_nops : {k : Instructions} {m : List Instructions} (o : Option Append) (e : Code) (d : ℕ) → append_in e ≡ o →
      (l.asked ≡ true → Meets G zero e) → Nops l k m → Nops l (appended_dropped y o e d k) m
  appended_nops None e d h lo r = dropped_nops y l G enough [] [] e zero zero d lo r
  appended_nops (Some q) e d h lo r = chain_nops q.target d (append_is e q h).chain r

  remainder_nops : {k : Instructions} {m : List Instructions} (o : Option Remainder) (e : Code) (d : ℕ) → (l.asked ≡ true → Meets G zero e) → Nops l k m → Nops l (remainder_dropped y o e d k) m
  remainder_nops None e d lo r = appended_nops (append_in e) e d refl lo r
  remainder_nops (Some q) e d lo r = all_nops y l G enough (remainder_names q) _ _ (choice (dropped_nops y l G enough [] [] e zero zero (suc d) lo none) (taken_remainder_nops q none) r)

  module _ {k : Instructions} {m : List Instructions} where
    barely_nops : (o : Option Tally) (e : Code) (d : ℕ) → tally_in e ≡ o → (l.asked ≡ true → Meets G zero e) → Nops l k m → Nops l (barely_dropped y o e d k) m
    barely_nops None e d h lo r = remainder_nops (remainder_in e) e d lo r
    barely_nops (Some q) e d h lo r =
        let f = form_of [] q.key in
        emitted_nops y l G enough false [] [] q.key zero zero d (λ z. (counter_few G e q h (lo z)).0)
        (emitted_nops y l G enough false (f ∷ []) (zero ∷ []) q.added 1 zero d (λ z. (counter_few G e q h (lo z)).1)
        (to_value_nops b f zero (element_nops q.read d (to_number_nops b (form_of (f ∷ []) q.added) 1 d (plain _ refl (plain _ refl (kept_nops (sum_op q.op) 2 d (given_nops q.written r))))))))

  module _ {k : Instructions} {m : List Instructions} where
    plainly_nops : (o : Option Update) (e : Code) (d : ℕ) → update_in e ≡ o → (l.asked ≡ true → Meets G zero e) → Nops l k m → Nops l (plainly_dropped y o e d k) m
    plainly_nops None e d h lo r = barely_nops (tally_in e) e d refl lo r
    plainly_nops (Some q) e d h lo r = by (field_at q.added)
      where
        by : (o : Option ℤ) → Nops l (both_asked y o q d (sum_taken y (sum_op q.op) q.target zero d k)) m
        by (Some z) = name_nops q.name zero d (plain _ refl (plain _ refl (plain _ refl (plain _ refl (sum_nops (sum_op q.op) q.target zero d r)))))
        by None =
            emitted_nops y l G enough false [] [] q.added zero zero d (λ z. added_few G e q h (lo z))
            (name_nops q.name 1 d (to_number_nops b (form_of [] q.added) zero d (plain _ refl (plain _ refl (sum_nops (sum_op q.op) q.target zero d r)))))

    quick_nops : (o : Option Sum) (e : Code) (d : ℕ) → (l.asked ≡ true → Meets G zero e) → Nops l k m → Nops l (quickly_dropped y o e d k) m
    quick_nops None e d lo r = plainly_nops (update_in e) e d refl lo r
    quick_nops (Some x) e d lo r =
        all_nops y l G enough (sum_names x) _ _ (choice (anyway_nops x (suc d) none) (source_nops y l G enough x.left (source_nops y l G enough x.right (plain _ refl (put_nops x.target none)))) r)

    counted_nops : (o : Option Counted) (e : Code) (d out : ℕ) → (l.asked ≡ true → Meets G zero e) → Nops l k m → Nops l (left_unless_counted y o e d out k) m
    counted_nops None e d out lo r = tested_nops y l G enough [] [] e zero zero d lo (plain _ refl (plain _ refl r))
    counted_nops (Some q) e d out lo r =
        holder_nops y l G enough q.name (plain _ refl (plain _ refl (choice (tested_nops y l G enough [] [] e zero zero (suc d) lo (plain _ refl (plain _ refl none))) (by q.name) r)))
      where
        by : (h : Holder) → Nops l (counted_left y (record { op = q.op; name = h }) (suc out) Done) []
        by (OfName i) = record { are = refl; calls = λ z. refl; frees = refl }
        by (OfParameter i) = record { are = refl; calls = λ z. refl; frees = refl }

    pair_nops : (o : Option Pair) (e : Code) (d out : ℕ) → (l.asked ≡ true → Meets G zero e) → Nops l k m → Nops l (left_unless_pair y o e d out k) m
    pair_nops None e d out lo r = counted_nops (counted_in e) e d out lo r
    pair_nops (Some q) e d out lo r =
        all_nops y l G enough (pair_names q) _ _ (choice (tested_nops y l G enough [] [] e zero zero (suc d) lo (plain _ refl (plain _ refl none))) (source_nops y l G enough q.left (source_nops y l G enough q.right (plain _ refl (plain _ refl none)))) r)

    left_nops : (o : Option Within) (e : Code) (d out : ℕ) → (l.asked ≡ true → Meets G zero e) → Nops l k m → Nops l (left_unless y o e d out k) m
    left_nops None e d out lo r = pair_nops (pair_in e) e d out lo r
    left_nops (Some q) e d out lo r = holder_nops y l G enough q.name (plain _ refl (plain _ refl (plain _ refl (plain _ refl (choice (tested_nops y l G enough [] [] e zero zero (suc d) lo (plain _ refl (plain _ refl none))) none r)))))

  -- `return`

  answer_nops : {k : Instructions} {m : List Instructions} (f : Form) (d : ℕ) → Nops l k m → Nops l (answer_given y f d k) m
  answer_nops (PrimitiveAnswer (answer.Of sort.Value)) d r = record { are = r.are; calls = r.calls; frees = r.frees }
  answer_nops (PrimitiveAnswer (answer.Of sort.Number)) d r = record { are = r.are; calls = r.calls; frees = r.frees }
  answer_nops (PrimitiveAnswer answer.Truth) d r = record { are = r.are; calls = r.calls; frees = r.frees }
  answer_nops NumberOrText d r = record { are = r.are; calls = r.calls; frees = r.frees }
  answer_nops OptionalNumber d r = record { are = r.are; calls = r.calls; frees = r.frees }
  answer_nops f d r = record { are = r.are; calls = r.calls; frees = r.frees }

  parameter_nops : {k : Instructions} {m : List Instructions} (o : Option ℕ) (i d : ℕ) → Nops l k m → Nops l (parameter_returned y o i d k) m
  parameter_nops None i d r = plain _ refl (plain _ refl (plain _ refl r))
  parameter_nops (Some g) i d r = emitted_nops y l G enough false [] [] (Get (Parameter true i)) zero zero d (λ z. tt) (answer_nops NumberOrText d r)

  returned_nops : {k : Instructions} {m : List Instructions} (e : Code) (d : ℕ) → (l.asked ≡ true → Meets G zero e) → Nops l k m → Nops l (returned y e d k) m
  returned_nops (Choose sort.Value e a c) d lo r =
      whichever (is_some (pair_in e))
      (within (pair_nops (pair_in e) e (suc d) zero (λ z. (lo z).0) (returned_nops a (suc d) (λ z. (lo z).1.0) none)) (returned_nops c d (λ z. (lo z).1.1) r))
      (tested_nops y l G enough [] [] e zero zero d (λ z. (lo z).0) (choice (returned_nops a (suc d) (λ z. (lo z).1.0) none) (returned_nops c (suc d) (λ z. (lo z).1.1) none) r))
  returned_nops (Get (Parameter true i)) d lo r = parameter_nops (lender_at y.lenders i) i d r
  returned_nops e d lo r = emitted_nops y l G enough false [] [] e zero zero d lo (answer_nops (form_of [] e) d r)

  mutual
    unfolding step_emitted steps_emitted

    step_nops : {k : Instructions} {m : List Instructions} (s : Step) (u d bk ct : ℕ) → (l.asked ≡ true → StepMeets G s) → Nops l k m → Nops l (step_emitted y s u d bk ct k) (step_starts y s u d bk ct k ++ m)
    step_nops (Eval e) u d bk ct lo r = begun (quick_nops (sum_in e) e d lo r)
    step_nops (Steps_ ss) u d bk ct lo r = begun (steps_nops ss u d bk ct lo r)
    step_nops (Either e a c) u d bk ct lo r =
        let last = alone (step_nops c u (suc d) (suc bk) (suc ct) (λ z. (lo z).1.1) none) in
        begun (chosen_before (is_some (pair_in e)) _ _ _ _
        (within (within (pair_nops (pair_in e) e (suc (suc d)) zero (λ z. (lo z).0)
        (alone (step_nops a u (suc (suc d)) (suc (suc bk)) (suc (suc ct)) (λ z. (lo z).1.0) (plain (Br 1) refl none)))) last) r)
        (tested_nops y l G enough [] [] e zero zero d (λ z. (lo z).0) (branches (alone (step_nops a u (suc d) (suc bk) (suc ct) (λ z. (lo z).1.0) none)) last r)))
    step_nops (Loop true e a c) u d bk ct lo r =
        let rest = none_or (is_nothing c) (plain (Br zero) refl none) (alone (step_nops c u (suc (suc d)) 1 zero (λ z. (lo z).1.1) (plain (Br zero) refl none))) in
        begun (within (alone (rounds (left_nops (test_within e) e (suc (suc d)) 1 (λ z. (lo z).0)
        (chosen (step_jumps a) _ _ _ (within (alone (step_nops a u (suc (suc (suc d))) 2 zero (λ z. (lo z).1.0) none)) rest) (step_nops a u (suc (suc d)) 1 zero (λ z. (lo z).1.0) rest))) none)) r)
    step_nops (Loop false e a c) u d bk ct lo r =
        begun (within (alone (rounds (within (alone (step_nops a u (suc (suc (suc d))) 2 zero (λ z. (lo z).1.0) none))
        (step_nops c u (suc (suc d)) 1 zero (λ z. (lo z).1.1) (begun (tested_nops y l G enough [] [] e zero zero (suc (suc d)) (λ z. (lo z).0) (plain _ refl none))))) none)) r)
    step_nops (Each a e s) u d bk ct lo r =
        begun (array_nops y l G enough a (plain _ refl (plain _ refl (within (alone (rounds (key_nops u e (suc (suc d)) (λ z. (lo z).0)
        (alone (within (alone (step_nops s (suc u) (suc (suc (suc d))) 2 zero (λ z. (lo z).1) none)) (plain _ refl none)))) none)) (iterator_nops u r)))))
    step_nops Break u d bk ct lo r = begun (plain _ refl r)
    step_nops Continue u d bk ct lo r = begun (plain _ refl r)
    step_nops Next u d bk ct lo r = begun (left_by_nops _ d r)
    step_nops Exit u d bk ct lo r = begun (left_by_nops _ d r)
    step_nops (ExitWith e) u d bk ct lo r =
        begun (emitted_nops y l G enough false [] [] e zero zero d lo (to_number_nops b (form_of [] e) zero d (plain _ refl (plain _ refl (left_by_nops _ d r)))))
    step_nops (Return e) u d bk ct lo r =
        begun (returned_nops e d lo r)
    step_nops (Mark i c) u d bk ct lo r = begun (plain _ refl (plain _ refl r))

    pub steps_nops : {k : Instructions} {m : List Instructions} (ss : Steps) (u d bk ct : ℕ) → (l.asked ≡ true → StepsMeet G ss) → Nops l k m → Nops l (steps_emitted y ss u d bk ct k) (steps_starts y ss u d bk ct k ++ m)
    steps_nops NoStep u d bk ct lo r = r
    steps_nops {k = k} {m = m} (AndThen s ss) u d bk ct lo r =
        as_listed (step_nops s u d bk ct (λ z. (lo z).0) (steps_nops ss u d bk ct (λ z. (lo z).1) r)) (sym (append_assoc (step_starts y s u d bk ct (steps_emitted y ss u d bk ct k)) (steps_starts y ss u d bk ct k) m))

  -- Functions.

  temporaries_nops : {k : Instructions} {m : List Instructions} (t n : ℕ) → Nops l k m → Nops l (temporaries_emptied y t n k) m
  temporaries_nops t zero r = r
  temporaries_nops t (suc n) r = plain _ refl (plain _ refl (temporaries_nops (suc t) n r))

  iterators_nops : {k : Instructions} {m : List Instructions} (t n : ℕ) → Nops l k m → Nops l (iterators_emptied y t n k) m
  iterators_nops t zero r = r
  iterators_nops t (suc n) r = plain _ refl (plain _ refl (iterators_nops (suc t) n r))

  arrays_nops : {k : Instructions} {m : List Instructions} (t n : ℕ) → Nops l k m → Nops l (arrays_emptied y t n k) m
  arrays_nops t zero r = r
  arrays_nops t (suc n) r = plain _ refl (plain _ refl (arrays_nops (suc t) n r))

  emptied_nops : {k : Instructions} {m : List Instructions} → Nops l k m → Nops l (all_emptied y k) m
  emptied_nops r = plain _ refl (plain _ refl (temporaries_nops zero b.temporaries (iterators_nops zero b.iterators (arrays_nops zero b.arrays r))))

  temporaries_let_go : {k : Instructions} {m : List Instructions} (t n : ℕ) → Nops l k m → Nops l (temporaries_swept y t n k) m
  temporaries_let_go t zero r = r
  temporaries_let_go t (suc n) r = let x = temporaries_let_go (suc t) n r in record { are = x.are; calls = x.calls; frees = x.frees }

  iterators_let_go : {k : Instructions} {m : List Instructions} (t n : ℕ) → Nops l k m → Nops l (iterators_swept y t n k) m
  iterators_let_go t zero r = r
  iterators_let_go t (suc n) r = let x = iterators_let_go (suc t) n r in record { are = x.are; calls = x.calls; frees = x.frees }

  arrays_let_go : {k : Instructions} {m : List Instructions} (t n : ℕ) → Nops l k m → Nops l (arrays_swept y t n k) m
  arrays_let_go t zero r = r
  arrays_let_go t (suc n) r = let x = arrays_let_go (suc t) n r in record { are = x.are; calls = x.calls; frees = x.frees }

  swept_nops : {k : Instructions} {m : List Instructions} → Nops l k m → Nops l (swept y k) m
  swept_nops r = temporaries_let_go zero b.temporaries (iterators_let_go zero b.iterators (arrays_let_go zero b.arrays r))

  left_swept_nops : {k : Instructions} {m : List Instructions} (calls : Bool) → Nops l k m → Nops l (left_swept y calls k) m
  left_swept_nops true r = swept_nops r
  left_swept_nops false r = iterators_let_go zero b.iterators r

  parameters_nops : {k : Instructions} {m : List Instructions} (x : ℕ) (ks : List Kind) → Nops l k m → Nops l (parameters_dropped y x ks k) m
  parameters_nops x [] r = r
  parameters_nops x (Boxed ∷ ks) r = plain _ refl (plain _ refl (parameters_nops (suc x) ks r))
  parameters_nops x (Unboxed ∷ ks) r = parameters_nops (suc x) ks r
  parameters_nops x (ArrayKind ∷ ks) r = parameters_nops (suc x) ks r

  pub routine_nops : (ks : List Kind) (body : Steps) → (l.asked ≡ true → StepsMeet G body) → Nops l (routine_body y ks body) (steps_starts y body zero zero zero zero (routine_rest b))
  routine_nops ks body lo =
      emptied_nops (alone (within (alone (within (alone (steps_nops body zero zero zero zero lo (plain _ refl (plain _ refl (plain _ refl none))))) (temporaries_let_go zero b.temporaries (arrays_let_go zero b.arrays none))))
      (iterators_let_go zero b.iterators (parameters_nops zero ks (plain _ refl none)))))

  -- `main`.

  declared_nops : {k : Instructions} {m : List Instructions} (i : ℕ) (ks : List Kind) → Nops l k m → Nops l (names_declared y i ks k) m
  declared_nops i [] r = r
  declared_nops i (kind ∷ ks) r = plain _ refl (plain _ refl (plain _ refl (plain _ refl (declared_nops (suc i) ks r))))

  routines_nops : {k : Instructions} {m : List Instructions} (i n : ℕ) → Nops l k m → Nops l (routines_declared y i n k) m
  routines_nops i zero r = r
  routines_nops i (suc n) r = plain _ refl (plain _ refl (plain _ refl (plain _ refl (routines_nops (suc i) n r))))

  made_nops : {k : Instructions} {m : List Instructions} (i : ℕ) (ks : List Kind) → Nops l k m → Nops l (names_made y i ks k) m
  made_nops i [] r = r
  made_nops i (Boxed ∷ ks) r = plain _ refl (plain _ refl (made_nops (suc i) ks r))
  made_nops i (Unboxed ∷ ks) r = made_nops (suc i) ks r
  made_nops i (ArrayKind ∷ ks) r = plain _ refl (plain _ refl (made_nops (suc i) ks r))

  module _ {k : Instructions} {m : List Instructions} where
    started_nops : Nops l k m → Nops l (started y k) m
    started_nops r = plain _ refl (plain _ refl (plain _ refl (kept_number_nops b true zero zero r)))

    goes_nops : Nops l k m → Nops l (goes_on y k) m
    goes_nops r = plain _ refl (plain _ refl (left_swept_nops (has_functions y.calls) r))

  module _ {k : Instructions} {m : List Instructions} where
    record_nops : (items : Steps) (d : ℕ) → (l.asked ≡ true → StepsMeet G items) → Nops l k m → Nops l (record_done y items d k) (steps_starts y items zero zero zero zero (emit (Br 1) Done) ++ m)
    record_nops items d lo r =
        within (alone (within (alone (steps_nops items zero zero zero zero lo (plain _ refl none))) (plain _ refl (plain _ refl (plain _ refl (plain _ refl (goes_nops none))))))) r

    part_nops : {a : Instructions} {q : List Instructions} (d : ℕ) → Nops l a q → Nops l k m → Nops l (part_done y a d k) (q ++ m)
    part_nops d a r =
        within (alone (within a (plain _ refl (plain _ refl (plain _ refl (plain _ refl (plain _ refl (plain _ refl
        (choice (plain _ refl (plain _ refl (plain _ refl none))) none (goes_nops none)))))))))) r

  module _ {k : Instructions} {m : List Instructions} where
    records_nops : (items : Steps) (d : ℕ) → (l.asked ≡ true → StepsMeet G items) → Nops l k m → Nops l (records_read y items d k) (steps_starts y items zero zero zero zero (emit (Br 1) Done) ++ m)
    records_nops items d lo r =
        rounds (plain _ refl (kept_code_nops b true zero (suc d) (plain _ refl (plain _ refl (plain _ refl
        (alone (alone (branches (alone (record_nops items (suc (suc d)) lo (plain _ refl none))) none (plain _ refl (plain _ refl (plain _ refl
        (choice (pending_nops y l G enough zero (plain _ refl none)) none none)))))))))))) r

    before_nops : (p : Program) → Nops l k m → Nops l (before_parts y p k) m
    before_nops p r =
        started_nops (declared_nops (length p.texts) y.names (routines_nops (length p.texts + length p.globals) (length p.routines)
        (made_nops zero y.names (asked_nops y l G enough row.StartAssign zero zero r))))

  abbrev out : Instructions
  out = emit (Br 1) Done

  first_nops : (p : Program) → (l.asked ≡ true → PartsMeet G p) →
      Nops l (first_part y p) (steps_starts y p.begin zero zero zero zero (if p.reads then records_read y p.items zero out else out) ++ (if p.reads then steps_starts y p.items zero zero zero zero out else []))
  first_nops p lo = steps_nops p.begin zero zero zero zero (λ z. (lo z).0) (by p.reads)
    where
      by : (z : Bool) → Nops l (if z then records_read y p.items zero out else out) (if z then steps_starts y p.items zero zero zero zero out else [])
      by true = alone (records_nops p.items zero (λ z. (lo z).1.0) (plain _ refl none))
      by false = plain _ refl none

  pub main_nops : (p : Program) → (l.asked ≡ true → PartsMeet G p) → Nops l (main_body y p)
      ((steps_starts y p.begin zero zero zero zero (if p.reads then records_read y p.items zero out else out) ++ (if p.reads then steps_starts y p.items zero zero zero zero out else [])) ++ steps_starts y p.end zero zero zero zero out)
  main_nops p lo =
      emptied_nops (alone (within (before_nops p (part_nops zero (first_nops p lo) (plain _ refl (alone (part_nops zero (alone (steps_nops p.end zero zero zero zero (λ z. (lo z).1.1) (plain _ refl none))) none)))))
      (swept_nops (plain _ refl (plain _ refl none)))))

-- EACH STEP has its place

abbrev unasked : Limit
unasked = record { asked = false; allowed = λ n a z. true }

abbrev Any : (t f : ℕ) → Codes → Type 0
Any t f es = Unit {0}

pub routine_has_starts : (p : Program) (r : Routine) → starts_in (routine_callee p r).body ≡ routine_starts p r
routine_has_starts p r = (routine_nops (layout_of p (routine_bases r)) unasked Any (λ t f es h. refl) r.parameters r.body (λ z. cc)).are

pub main_has_starts : (p : Program) → starts_in (main_callee p).body ≡ main_starts p
main_has_starts p = (main_nops (layout_of p (main_bases p)) unasked Any (λ t f es h. refl) p (λ z. cc)).are

-- THE OPERANDS under each call of a function are few in its code, where they are few in its steps

near : (b : Bases) (most t : ℕ) → t ≤ most → nat_le (handle_local b t) (last_local b.parameters most) ≡ true
near b most t h = le-leb (handle_local b t) (last_local b.parameters most) (omega (arith, h))

pub routine_few : (p : Program) (r : Routine) (most : ℕ) → StepsFew most r.body → calls_fit (limit_of (routine_callee p r) most) (routine_callee p r).body ≡ true
routine_few p r most h =
    let b = routine_bases r in
    (routine_nops (layout_of p b) (limit_of (routine_callee p r) most) (UpTo most) (λ t f es le. near b most t le) r.parameters r.body (λ z. h)).calls refl

pub main_few : (p : Program) (most : ℕ) → PartsFew most p → calls_fit (limit_of (main_callee p) most) (main_callee p).body ≡ true
main_few p most h =
    let b = main_bases p in
    (main_nops (layout_of p b) (limit_of (main_callee p) most) (UpTo most) (λ t f es le. near b most t le) p (λ z. h)).calls refl

-- How many there are.

mutual
  nops_counted : (k : Instructions) → length (starts_in k) ≡ nops_in k
  nops_counted Done = refl
  nops_counted (Then i k) = let x = length-append (starts_of i k) (starts_in k) in let a = nop_counted i k in let r = nops_counted k in omega (arith, x, a, r)

  nop_counted : (i : Instruction) (k : Instructions) → length (starts_of i k) ≡ nops_of i
  nop_counted (Plain p) k = by p
    where
      by : (p : Simple) → length (starts_of (Plain p) k) ≡ is_nop p
      by Nop = refl
      by p = refl
  nop_counted (BrTable ds d) k = refl
  nop_counted (Block r a) k = nops_counted a
  nop_counted (Again r a) k = nops_counted a
  nop_counted (If r a c) k = let x = length-append (starts_in a) (starts_in c) in let l = nops_counted a in let m = nops_counted c in omega (arith, x, l, m)

-- of two lists of one length either has it
one_counted : (j : Bool) (p q : List Instructions) {n : ℕ} → length p ≡ n → length q ≡ n → length (if j then p else q) ≡ n
one_counted true p q e f = e
one_counted false p q e f = f

none_counted : (j : Bool) (q : List Instructions) {n : ℕ} → length q ≡ n → length (if j then [] else q) ≡ (if j then 0 else n)
none_counted true q e = refl
none_counted false q e = e

both_counted : (p q : List Instructions) {m n : ℕ} → length p ≡ m → length q ≡ n → length (p ++ q) ≡ m + n
both_counted p q e f = length-append p q ∙ ap₂ (λ x y. x + y) e f

module _ (y : Layout) where
  mutual
    step_counted : (s : Step) (u d bk ct : ℕ) (k : Instructions) → length (step_starts y s u d bk ct k) ≡ step_places s
    step_counted (Steps_ ss) u d bk ct k = let r = steps_counted ss u d bk ct k in omega (arith, r)
    step_counted (Either e a c) u d bk ct k =
        ap suc (both_counted _ _
        (one_counted (is_some (pair_in e)) _ _ (step_counted a u (suc (suc d)) (suc (suc bk)) (suc (suc ct)) (emit (Br 1) Done)) (step_counted a u (suc d) (suc bk) (suc ct) Done))
        (step_counted c u (suc d) (suc bk) (suc ct) Done))
    step_counted (Loop true e a c) u d bk ct k =
        let after = emit (Br zero) Done in
        let rest = if is_nothing c then after else step_emitted y c u (suc (suc d)) 1 zero after in
        ap suc (both_counted _ _
        (one_counted (step_jumps a) _ _ (step_counted a u (suc (suc (suc d))) 2 zero Done) (step_counted a u (suc (suc d)) 1 zero rest))
        (none_counted (is_nothing c) _ (step_counted c u (suc (suc d)) 1 zero after)))
    step_counted (Loop false e a c) u d bk ct k =
        let test = emit Nop (tested y [] [] e zero zero (suc (suc d)) (emit (BrIf zero) Done)) in
        let x = length-append (step_starts y a u (suc (suc (suc d))) 2 zero Done) (step_starts y c u (suc (suc d)) 1 zero test ++ (test ∷ [])) in
        let z = length-append (step_starts y c u (suc (suc d)) 1 zero test) (test ∷ []) in
        let l = step_counted a u (suc (suc (suc d))) 2 zero Done in
        let m = step_counted c u (suc (suc d)) 1 zero test in
        omega (arith, x, z, l, m)
    step_counted (Each a e s) u d bk ct k = let r = step_counted s (suc u) (suc (suc (suc d))) 2 zero Done in omega (arith, r)
    step_counted (Eval e) u d bk ct k = refl
    step_counted Break u d bk ct k = refl
    step_counted Continue u d bk ct k = refl
    step_counted Next u d bk ct k = refl
    step_counted Exit u d bk ct k = refl
    step_counted (ExitWith e) u d bk ct k = refl
    step_counted (Return e) u d bk ct k = refl
    step_counted (Mark i c) u d bk ct k = refl

    steps_counted : (ss : Steps) (u d bk ct : ℕ) (k : Instructions) → length (steps_starts y ss u d bk ct k) ≡ steps_places ss
    steps_counted NoStep u d bk ct k = refl
    steps_counted (AndThen s ss) u d bk ct k =
        let rest = steps_emitted y ss u d bk ct k in
        let x = length-append (step_starts y s u d bk ct rest) (steps_starts y ss u d bk ct k) in
        let l = step_counted s u d bk ct rest in
        let m = steps_counted ss u d bk ct k in
        omega (arith, x, l, m)

pub routine_places : (p : Program) (r : Routine) → nops_in (routine_callee p r).body ≡ steps_places r.body
routine_places p r =
    sym (nops_counted (routine_callee p r).body) ∙ (ap (λ (xs : List Instructions). length xs) (routine_has_starts p r)
    ∙ steps_counted (layout_of p (routine_bases r)) r.body zero zero zero zero (routine_rest (routine_bases r)))

pub main_has_places : (p : Program) → nops_in (main_callee p).body ≡ main_places p
main_has_places p =
    sym (nops_counted (main_callee p).body) ∙ (ap (λ (xs : List Instructions). length xs) (main_has_starts p) ∙ by p.reads)
  where
    y : Layout
    y = layout_of p (main_bases p)

    after : Instructions
    after = emit (Br 1) Done

    by : (z : Bool) → length ((steps_starts y p.begin zero zero zero zero (if p.reads then records_read y p.items zero after else after) ++ (if z then steps_starts y p.items zero zero zero zero after else [])) ++ steps_starts y p.end zero zero zero zero after)
        ≡ (steps_places p.begin + (if z then steps_places p.items else 0)) + steps_places p.end
    by z =
        let first = steps_starts y p.begin zero zero zero zero (if p.reads then records_read y p.items zero after else after) in
        let last = steps_starts y p.end zero zero zero zero after in
        let middle = if z then steps_starts y p.items zero zero zero zero after else [] in
        let a = length-append (first ++ middle) last in
        let c = length-append first middle in
        let l = steps_counted y p.begin zero zero zero zero (if p.reads then records_read y p.items zero after else after) in
        let m = of z in
        let r = steps_counted y p.end zero zero zero zero after in
        omega (arith, a, c, l, m, r)
      where
        of : (z : Bool) → length (if z then steps_starts y p.items zero zero zero zero after else []) ≡ (if z then steps_places p.items else 0)
        of true = steps_counted y p.items zero zero zero zero after
        of false = refl
