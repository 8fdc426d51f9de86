-- Code is nested as deep as its labels are counted.
use Rattle.std.proofs.Common.{◌≡◌, ◌≤◌, ◌+◌, ℕ, zero, suc, Bool, true, false, List, [], ◌∷◌, length, max, refl, sym, ap, ◌∙◌, subst, arith}
use Rattle.std.specs.Prelude.{if◌then◌else◌, Option, Some, None, is_some, ℤ}
use Rattle.awk_values.specs.declared.comparison.CompareOp.{CompareOp}
use Rattle.sem_primitives.specs.declared.sorts.Answer.TheVariants as answer
use Rattle.sem_primitives.specs.declared.sorts.Sort.TheVariants as sort
use Rattle.sem_primitives.specs.declared.table.Primitive.{Primitive}
use Rattle.sem_primitives.specs.declared.table.Primitive.TheVariants as row
use Rattle.wasm_types.specs.Instructions.{depths}
use Rattle.wasm_types.specs.Syntax.{Instructions, Done}
use Rattle.wasm_types.specs.declared.instr.IBinOp.{IBinOp}
use Rattle.wasm_types.specs.declared.instr.Simple.TheVariants.{Br, Call as CallOf, GlobalGet, GlobalSet}
use Rattle.host_imports.specs.Names.{import_number}
use Rattle.host_imports.specs.declared.import.Import.TheVariants.{OfPrimitive}
use Rattle.mid_program.specs.MidMeaning.{three_values}
use Rattle.mid_program.specs.Mid.{Kind, Boxed, Unboxed, ArrayKind, Slot, Parameter, Code, Do, Over, Compare, Call, Ask, AskLine, FileLine, Replace, Number, Text, Unset, Get, Set, Array, IsOpen, Choose, Seq, Let, Bound, Codes, End, At, Fixed, Fresh, Step, Eval, Block as Steps_, If as Either, Loop, Each, Break, Continue, Next, Exit, ExitWith, Return, Mark, Steps, NoStep, Then as AndThen, Program, Routine, Form, PrimitiveAnswer, NumberOrText, OptionalNumber, a_value, form_of}
use Rattle.mid_program.specs.Sorted.{lender_at}
use Rattle.mid_program.specs.declared.mid.Operation.{Operation}
use Rattle.mid_program.specs.declared.mid.Arithmetic.{Arithmetic}
use Rattle.mid_program.specs.declared.mid.Operation.TheVariants.{Host, Inline, AsNumber}
use Rattle.sem_scripts.specs.Names.{ArrayName}
use Rattle.lower_model.specs.Appends.{Append, append_in}
use Rattle.lower_model.specs.Arithmetic.{is_value}
use Rattle.lower_model.specs.Emission.{Layout, Immediate, added_or, all_emitted, constant_field, emitted, field_at, field_in, immediate_field, immediate_in, immediate_or, field_or, one_field, text_kept}
use Rattle.lower_model.specs.Functions.{layout_of, main_bases, main_callee, routine_bases, routine_callee}
use Rattle.lower_model.specs.Places.{Bases, handle_global, handle_local}
use Rattle.lower_model.specs.Quick.{Addition, Within, addition_in, addition_names, addition_of, test_within, Holder, OfName, OfParameter, holder_of, set_after, set_alone, Source, source_in, Sum, sum_names, sum_op, sum_in, sum_of, two_sum, set_sum, kept_sum, update_sum, old_source, stored_name, new_sum, let_sum, Update, update_in, Tally, tally_in, Remainder, remainder_in, remainder_names, Counted, counted_in, Pair, pair_names, pair_in, step_jumps, is_nothing}
use Rattle.lower_model.specs.Small.{ask_row, emit, emit_if, kept_value, moved_out, to_value}
use Rattle.lower_model.specs.Statements.{answer_given, parameter_returned, returned, holder_cleared, name_numbered, sum_kept, sum_taken, both_asked, element_numbered, element_given, text_appended, chain_appended, appended_dropped, remainder_dropped, barely_dropped, plainly_dropped, quickly_dropped, left_unless_counted, left_unless_pair, left_unless, again, all_emptied, arrays_emptied, before_parts, block, iterator_left, iterators_emptied, key_stored, left_by, names_declared, names_made, part_done, record_done, records_read, routines_declared, step_emitted, steps_emitted, temporaries_emptied}
use Rattle.lower_model.proofs.Chains.{IsChain, one_text, more_texts, append_is, last_appended}
use Rattle.lower_model.proofs.State.{holder_slot}
use Rattle.lower_model.proofs.Tallies.{Shape, Updating, Following, Leading, tally_code, tally_is}
use Rattle.lower_model.proofs.Updating.{added_code, added_is}
use Rattle.lower_modules.specs.Labels.{choice_labels, chosen_labels, return_labels, labels_among, labels_in, more_if, one_if, step_labels, steps_labels}
use Rattle.lower_modules.proofs.Depths.{Deep, all_deep, array_deep, asked_deep, converts_deep, dropped_deep, emitted_deep, emits_deep, kept_code_deep, kept_deep, kept_number_deep, left_deep, past, pushes_deep, tested_deep, to_number_deep, to_value_deep, truth_deep}

any : {k : Instructions} → Deep k 0
any = record { count = omega arith }

both : {k : Instructions} {m n : ℕ} → Deep k m → Deep k n → Deep k (max m n)
both a b = record { count = let x = a.count in let y = b.count in omega (arith, x, y) }

at_least : {k : Instructions} {m n : ℕ} → Deep k m → n ≤ m → Deep k n
at_least r e = record { count = let h = r.count in omega (arith, h, e) }

inside_either : {a c k : Instructions} {m n : ℕ} → Deep a m → Deep c n → Deep (emit_if a c k) (suc (max m n))
inside_either a c = record { count = let x = a.count in let y = c.count in omega (arith, x, y) }

behind_either : {a c k : Instructions} {m : ℕ} → Deep k m → Deep (emit_if a c k) m
behind_either r = record { count = let h = r.count in omega (arith, h) }

inside_block : {a k : Instructions} {m : ℕ} → Deep a m → Deep (block a k) (suc m)
inside_block r = record { count = let h = r.count in omega (arith, h) }

behind_block : {a k : Instructions} {m : ℕ} → Deep k m → Deep (block a k) m
behind_block r = record { count = let h = r.count in omega (arith, h) }

inside_loop : {a k : Instructions} {m : ℕ} → Deep a m → Deep (block (again a Done) k) (suc (suc m))
inside_loop r = record { count = let h = r.count in omega (arith, h) }

inside_again : {a k : Instructions} {m : ℕ} → Deep a m → Deep (again a k) m
inside_again r = record { count = let h = r.count in omega (arith, h) }

one_of : (j : Bool) {a c : Instructions} {m : ℕ} → Deep a m → Deep c m → Deep (if j then a else c) m
one_of true r q = r
one_of false r q = q

more_most : (j : Bool) (n : ℕ) → more_if j n ≤ suc n
more_most true n = omega arith
more_most false n = omega arith

-- a field whose number is a constant has no label

constant_labels : (e : Code) (z : ℤ) → constant_field e ≡ Some z → labels_in e ≡ 0
constant_labels (Number x) z e = refl
constant_labels _ z e = cc

one_labels : (es : Codes) (z : ℤ) → one_field es ≡ Some z → labels_among es ≡ 0
one_labels (At e End) z h = let n = constant_labels e z h in omega (arith, n)
one_labels _ z h = cc

host_labels : (p : Primitive) (es : Codes) (z : ℤ) → field_in (Host p) es ≡ Some z → labels_in (Do (Host p) es) ≡ 0
host_labels row.Field es z h = one_labels es z h
host_labels _ es z h = cc

field_labels : (o : Operation) (es : Codes) (z : ℤ) → field_in o es ≡ Some z → labels_in (Do o es) ≡ 0
field_labels (Host p) es z h = host_labels p es z h
field_labels _ es z h = cc

-- nor has an immediate operand

as_immediate_labels : (o : Operation) (es : Codes) (i : Immediate) (q : Option ℤ) → field_in o es ≡ q → immediate_field q ≡ Some i → labels_in (Do o es) ≡ 0
as_immediate_labels o es i (Some z) e h = field_labels o es z e
as_immediate_labels o es i None e h = cc

immediate_labels : (v : Bool) (e : Code) (i : Immediate) → immediate_in v e ≡ Some i → labels_in e ≡ 0
immediate_labels v (Do o es) i h = as_immediate_labels o es i (field_in o es) refl h
immediate_labels v (Text j) i h = refl
immediate_labels true (Number z) i h = refl
immediate_labels v _ i h = cc

field_at_labels : (e : Code) (z : ℤ) → field_at e ≡ Some z → labels_in e ≡ 0
field_at_labels (Do o es) z h = field_labels o es z h
field_at_labels _ z h = cc

-- a sum of sources that goes to a name has one at most

source_labels : (e : Code) (s : Source) → source_in e ≡ Some s → labels_in e ≡ 0
source_labels (Get x) s h = refl
source_labels (Number z) s h = refl
source_labels e s h = cc

maybe_labels : (e : Code) (o : Option Source) → source_in e ≡ o → is_some o ≡ true → labels_in e ≡ 0
maybe_labels e (Some s) h t = source_labels e s h
maybe_labels e None h t = cc

both_labels : (i : Holder) (o : Arithmetic) (a e : Code) (s : Sum) → sum_of i o (source_in a) (source_in e) ≡ Some s → (labels_in a ≡ 0) × (labels_in e ≡ 0)
both_labels i o a e s h = by (source_in a) refl (source_in e) refl h
  where
    by : (x : Option Source) → source_in a ≡ x → (z : Option Source) → source_in e ≡ z → sum_of i o x z ≡ Some s → (labels_in a ≡ 0) × (labels_in e ≡ 0)
    by (Some x) h1 (Some z) h2 q = (source_labels a x h1, source_labels e z h2)
    by (Some x) h1 None h2 q = cc
    by None h1 z h2 q = cc

two_labels : (i : Holder) (o : Arithmetic) (es : Codes) (s : Sum) → two_sum i o es ≡ Some s → labels_among es ≡ 0
two_labels i o (At a (At e End)) s h = let n = both_labels i o a e s h in let x = n.0 in let z = n.1 in omega (arith, x, z)
two_labels i o es s h = cc

set_labels : (i : Holder) (e : Code) (s : Sum) → set_sum i e ≡ Some s → labels_in e ≤ 1
set_labels i (Do (Inline o) es) s h = let n = two_labels i o es s h in let m = more_most (is_some (addition_in (Inline o) es)) (labels_among es) in omega (arith, n, m)
set_labels i e s h = cc

kept_labels : (i : Holder) (o : Arithmetic) (a : Code) (es : Codes) (s : Sum) → kept_sum i o a es ≡ Some s → (labels_in a ≡ 0) × (labels_among es ≡ 0)
kept_labels i o a (At x (At (Bound true zero) End)) s h = let n = both_labels i o x a s h in let u = n.0 in let v = n.1 in (v, omega (arith, u))
kept_labels i o a es s h = cc

update_labels : (i : Holder) (a e : Code) (s : Sum) → update_sum i a e ≡ Some s → max (labels_in a) (labels_in e) ≤ 1
update_labels i a (Do (Inline o) es) s h =
    let n = kept_labels i o a es s h in
    let u = n.0 in
    let v = n.1 in
    let m = more_most (is_some (addition_in (Inline o) es)) (labels_among es) in
    omega (arith, u, v, m)
update_labels i a e s h = cc

new_labels : (a : Option Source) (i : Option Holder) (x : Code) (s : Sum) → new_sum a i x ≡ Some s → (is_some a ≡ true) × (is_some i ≡ true) × (labels_in x ≡ 0)
new_labels (Some a) (Some i) (Do (Inline o) (At (Bound false zero) (At (Number z) End))) s h = (refl, refl, refl)
new_labels None (Some i) (Do (Inline o) (At (Bound false zero) (At (Number z) End))) s h = cc
new_labels a i x s h = cc

old_labels : (a : Code) → is_some (old_source a) ≡ true → labels_in a ≡ 0
old_labels (Do AsNumber (At a End)) h = let n = maybe_labels a (source_in a) refl h in omega (arith, n)
old_labels a h = cc

stored_labels : (c : Code) → is_some (stored_name c) ≡ true → labels_in c ≡ 0
stored_labels (Seq (Set x (Bound true zero)) (Bound true (suc zero))) h = refl
stored_labels c h = cc

let_labels : (a e : Code) (s : Sum) → let_sum a e ≡ Some s → max (labels_in a) (labels_in e) ≤ 1
let_labels a (Set x e) s h = by (holder_of x) h
  where
    by : (o : Option Holder) → set_after o a e ≡ Some s → max (labels_in a) (labels_in e) ≤ 1
    by (Some i) q = update_labels i a e s q
    by None q = cc
let_labels a (Let x z) s h =
    let n = new_labels (old_source a) (stored_name z) x s h in
    let u = old_labels a n.0 in
    let v = stored_labels z n.1 in
    let w = n.2 in
    omega (arith, u, v, w)
let_labels a e s h = cc

sum_labels : (e : Code) (s : Sum) → sum_in e ≡ Some s → labels_in e ≤ 1
sum_labels (Set x e) s h = by (holder_of x) h
  where
    by : (o : Option Holder) → set_alone o e ≡ Some s → labels_in e ≤ 1
    by (Some i) q = set_labels i e s q
    by None q = cc
sum_labels (Let a e) s h = let_labels a e s h
sum_labels e s h = cc

-- what takes something that was kept is no sum of sources, so an update has the labels of what is added

no_addition : (o : Arithmetic) (s : Option Source) → is_some (addition_of o s None) ≡ false
no_addition o (Some s) = refl
no_addition o None = refl

added_labels : (q : Update) → labels_in (added_code q) ≡ labels_in q.added
added_labels q =
    let n = ap (λ (z : Bool). more_if z 0) (no_addition q.op (source_in (Get (holder_slot q.name)))) in
    omega (arith, n)

-- a counter has those of its key, and of what is added
tally_labels : (i : Shape) (q : Tally) → labels_in (tally_code i q) ≤ max (labels_in q.key) (labels_in q.added)
tally_labels Updating q = omega arith
tally_labels Following q = omega arith
tally_labels Leading q = omega arith

module _ (y : Layout) where
  abbrev b : Bases
  b = y.bases

  field_labelled : {other : Instructions} (o : Operation) (es : Codes) (t : ℕ) (k : Instructions) → Deep other (labels_in (Do o es)) → Deep (field_or y (field_in o es) t k other) (labels_in (Do o es))
  field_labelled {other = other} o es t k r = by (field_in o es) refl
    where
      by : (x : Option ℤ) → field_in o es ≡ x → Deep (field_or y x t k other) (labels_in (Do o es))
      by (Some z) e = at_least any (let n = field_labels o es z e in omega (arith, n))
      by None e = r

  -- the code of all cases stands in an `if`
  added_labelled : {anyway other : Instructions} {m : ℕ} (o : Option Addition) (t : ℕ) (k : Instructions) → Deep anyway m → Deep other m → Deep (added_or y o t anyway k other) (more_if (is_some o) m)
  added_labelled (Some q) t k r z = all_deep y (addition_names q) _ _ (at_least (inside_either r any) (omega arith))
  added_labelled None t k r z = z

  immediate_labelled : {other : Instructions} (c : CompareOp) (g : Form) (v : Bool) (f : Code) (t d : ℕ) (k : Instructions) → Deep other (labels_in f) → Deep (immediate_or y c g (immediate_in v f) t d k other) (labels_in f)
  immediate_labelled {other = other} c g v f t d k r = by (immediate_in v f) refl
    where
      by : (o : Option Immediate) → immediate_in v f ≡ o → Deep (immediate_or y c g o t d k other) (labels_in f)
      by (Some i) e = at_least any (let n = immediate_labels v f i e in omega (arith, n))
      by None e = r

  line_kept : {k : Instructions} {m : ℕ} (p : Primitive) (t : ℕ) → Deep k m → Deep (text_kept y p t k) m
  line_kept p t r = past _ (past _ r)

  -- Expressions.

  mutual
    unfolding emitted all_emitted

    pub labelled : (k : Instructions) (v : Bool) (fs : List Form) (ts : List ℕ) (e : Code) (t w d : ℕ) → Deep (emitted y v fs ts e t w d k) (labels_in e)
    labelled k v fs ts (Do o es) t w d = field_labelled o es t k (added_labelled (addition_in o es) t k (all_labelled _ fs ts es t w (suc d)) (all_labelled _ fs ts es t w d))
    labelled k v fs ts (Over l es) t w d = all_labelled _ fs ts es t w d
    labelled k v fs ts (Compare c e f) t w d =
        both (labelled _ false fs ts e t w d) (emitted_deep y false fs ts e t w d
        (immediate_labelled c (form_of fs e) (is_value (form_of fs e)) f t d k (labelled _ false fs ts f (suc t) w d)))
    labelled k v fs ts (Call f es) t w d = all_labelled _ fs ts es t w d
    labelled k v fs ts Ask t w d = any
    labelled k v fs ts (AskLine s) t w d =
        asked_deep y row.GetlineVar t d (past _ (past _ (past _ (at_least (inside_either (line_kept row.Line t (labelled _ true (a_value ∷ fs) (suc t ∷ ts) s (suc (suc t)) w (suc d))) any) (omega arith)))))
    labelled k v fs ts (FileLine e s) t w d =
        both (labelled _ false fs ts e t w d)
        (emitted_deep y false fs ts e t w d (to_value_deep b (form_of fs e) t (past _ (past _ (past _ (past _ (kept_code_deep b true t d
        (past _ (past _ (past _ (at_least (inside_either (line_kept row.Line t (labelled _ true (a_value ∷ fs) (suc t ∷ ts) s (suc (suc t)) w (suc d))) any) (omega arith))))))))))))
    labelled k v fs ts (Replace all es s) t w d =
        both (all_labelled _ fs ts es t w d)
        (emits_deep y fs ts es t w d (converts_deep y fs three_values es t d (pushes_deep y three_values es t
        (past _ (past _ (kept_deep b true (answer.Of sort.Number) t d (past _ (past _ (at_least (inside_either any (line_kept row.SubResult t (labelled _ true (a_value ∷ fs) (suc t ∷ ts) s (suc (suc t)) w (suc d)))) (omega arith))))))))))
    labelled k v fs ts (Number z) t w d = any
    labelled k v fs ts (Text i) t w d = any
    labelled k v fs ts Unset t w d = any
    labelled k v fs ts (Get x) t w d = any
    labelled k v fs ts (Set x e) t w d = labelled _ false fs ts e t w d
    labelled k v fs ts (Array a) t w d = any
    labelled k v fs ts (IsOpen i) t w d = any
    labelled k v fs ts (Choose s c e f) t w d =
        both (labelled _ false fs ts c t w d)
        (emitted_deep y false fs ts c t w d (truth_deep b (form_of fs c) t (inside_either (labelled _ false fs ts e t w (suc d)) (labelled _ false fs ts f t w (suc d)))))
    labelled k v fs ts (Seq e f) t w d = both (labelled _ true fs ts e t w d) (emitted_deep y true fs ts e t w d (left_deep y e (form_of fs e) t (labelled _ v fs ts f t w d)))
    labelled k v fs ts (Let e f) t w d = both (labelled _ false fs ts e t w d) (emitted_deep y false fs ts e t w d (labelled _ v (form_of fs e ∷ fs) (t ∷ ts) f (suc t) w d))
    labelled k v fs ts (Bound z i) t w d = any

    all_labelled : (k : Instructions) (fs : List Form) (ts : List ℕ) (es : Codes) (t w d : ℕ) → Deep (all_emitted y fs ts es t w d k) (labels_among es)
    all_labelled k fs ts End t w d = any
    all_labelled k fs ts (At e es) t w d = both (labelled _ false fs ts e t w d) (emitted_deep y false fs ts e t w d (all_labelled _ fs ts es (suc t) w d))
    all_labelled k fs ts (Fixed n es) t w d = all_labelled _ fs ts es t w d
    all_labelled k fs ts (Fresh es) t w d = past _ (past _ (all_labelled _ fs ts es t (suc w) d))

  -- Steps.

  module _ {k : Instructions} {m : ℕ} where
    key_deep : (u : ℕ) (e : Code) (d : ℕ) → Deep k m → Deep (key_stored y u e d k) m
    key_deep u e d r =
        past _ (past _ (past _ (past _ (past _ (past _ (past _
        (dropped_deep y (a_value ∷ []) (zero ∷ []) e 1 zero d (record { count = let h = r.count in omega (arith, h) }))))))))

    iterator_deep : (u : ℕ) → Deep k m → Deep (iterator_left y u k) m
    iterator_deep u r = record { count = let h = r.count in omega (arith, h) }

    left_by_deep : (way d : ℕ) → Deep k m → Deep (left_by way d k) m
    left_by_deep way d r = record { count = let h = r.count in omega (arith, h) }

  -- Quick ways.

  name_deep : {k : Instructions} {m : ℕ} (i : Holder) (t d : ℕ) → Deep k m → Deep (name_numbered y i t d k) m
  name_deep i t d r = past _ (past _ (past _ (past _ (behind_either r))))

  cleared_deep : {k : Instructions} {m : ℕ} (i : Holder) → Deep k m → Deep (holder_cleared y i k) m
  cleared_deep (OfName i) r = past _ (past _ (past _ (behind_either r)))
  cleared_deep (OfParameter i) r = r

  taking_deep : {k : Instructions} {m : ℕ} (op : IBinOp) (i : Holder) (t d : ℕ) → Deep k m → Deep (sum_taken y op i t d k) m
  taking_deep op i t d r = past _ (past _ (past _ (past _ (past _ (past _ (behind_either (cleared_deep i (past _ (past _ r)))))))))

  kept_sum_deep : {k : Instructions} {m : ℕ} (op : IBinOp) (t d : ℕ) → Deep k m → Deep (sum_kept y op t d k) m
  kept_sum_deep op t d r = past _ (past _ (past _ (past _ (past _ (past _ (behind_either r))))))

  element_deep : {k : Instructions} {m : ℕ} (a : ArrayName) (d : ℕ) → Deep k m → Deep (element_numbered y a d k) m
  element_deep a d r = array_deep y a (past _ (past _ (past _ (past _ (past _ (kept_number_deep b true 2 d r))))))

  given_deep : {k : Instructions} {m : ℕ} (a : ArrayName) → Deep k m → Deep (element_given y a k) m
  given_deep a r = array_deep y a (past _ (past _ (past _ (past _ (past _ (past _ (past _ r)))))))

  joined_deep : {k : Instructions} {m : ℕ} (i : ℕ) (f : Form) (d : ℕ) → Deep k m → Deep (to_value b f zero (emit (GlobalGet (handle_global y.ranges i)) (moved_out (handle_local b zero) (ask_row row.Concat (kept_value b true zero d
      (moved_out (handle_local b zero) (emit (GlobalSet (handle_global y.ranges i)) k))))))) m
  joined_deep i f d r = to_value_deep b f zero (record { count = let h = r.count in omega (arith, h) })

  text_deep : {k : Instructions} {m : ℕ} (i : ℕ) (e : Code) (d : ℕ) → Deep k m → Deep (text_appended y i e d k) m
  text_deep i e d r = emitted_deep y false [] [] e zero zero d (joined_deep i (form_of [] e) d r)

  chain_deep : {m : ℕ} {x : Slot} {e : Code} {k : Instructions} (i d : ℕ) → IsChain x e → Deep k m → Deep (chain_appended y i e d k) m
  chain_deep i d (one_text z a n s) r = text_deep i a d r
  chain_deep {m = m} {k = k} i d (more_texts c a q s) r =
      subst (λ (j : Instructions). Deep j m) (sym (last_appended y i a d k q)) (chain_deep {k = text_appended y i a d k} i d q (text_deep i a d r))

  appended_deep : {k : Instructions} {m : ℕ} (o : Option Append) (e : Code) (d : ℕ) → append_in e ≡ o → Deep k m → Deep (appended_dropped y o e d k) m
  appended_deep None e d h r = dropped_deep y [] [] e zero zero d r
  appended_deep (Some q) e d h r = chain_deep q.target d (append_is e q h).chain r

  remainder_deep : {k : Instructions} {m : ℕ} (o : Option Remainder) (e : Code) (d : ℕ) → Deep k m → Deep (remainder_dropped y o e d k) m
  remainder_deep None e d r = appended_deep (append_in e) e d refl r
  remainder_deep (Some q) e d r = all_deep y (remainder_names q) _ _ (behind_either r)

  module _ {k : Instructions} {m : ℕ} where
    barely_deep : (o : Option Tally) (e : Code) (d : ℕ) → Deep k m → Deep (barely_dropped y o e d k) m
    barely_deep None e d r = remainder_deep (remainder_in e) e d r
    barely_deep (Some q) e d r =
        let f = form_of [] q.key in
        emitted_deep y false [] [] q.key zero zero d (emitted_deep y false (f ∷ []) (zero ∷ []) q.added 1 zero d
        (to_value_deep b f zero (element_deep q.read d (to_number_deep b (form_of (f ∷ []) q.added) 1 d (past _ (past _ (kept_sum_deep (sum_op q.op) 2 d (given_deep q.written r))))))))

  module _ {k : Instructions} {m : ℕ} where
    plainly_deep : (o : Option Update) (e : Code) (d : ℕ) → Deep k m → Deep (plainly_dropped y o e d k) m
    plainly_deep None e d r = barely_deep (tally_in e) e d r
    plainly_deep (Some q) e d r = by (field_at q.added)
      where
        by : (o : Option ℤ) → Deep (both_asked y o q d (sum_taken y (sum_op q.op) q.target zero d k)) m
        by (Some z) = name_deep q.name zero d (past _ (past _ (past _ (past _ (taking_deep (sum_op q.op) q.target zero d r)))))
        by None = emitted_deep y false [] [] q.added zero zero d (name_deep q.name 1 d (to_number_deep b (form_of [] q.added) zero d (past _ (past _ (taking_deep (sum_op q.op) q.target zero d r)))))

    counted_deep : (o : Option Counted) (e : Code) (d out : ℕ) → Deep k m → Deep (left_unless_counted y o e d out k) m
    counted_deep None e d out r = tested_deep y [] [] e zero zero d (past _ (past _ r))
    counted_deep (Some q) e d out r = past _ (past _ (past _ (behind_either r)))

  module _ {k : Instructions} {m : ℕ} where
    quick_deep : (o : Option Sum) (e : Code) (d : ℕ) → Deep k m → Deep (quickly_dropped y o e d k) m
    quick_deep None e d r = plainly_deep (update_in e) e d r
    quick_deep (Some x) e d r = all_deep y (sum_names x) _ _ (behind_either r)

    pair_deep : (o : Option Pair) (e : Code) (d out : ℕ) → Deep k m → Deep (left_unless_pair y o e d out k) m
    pair_deep None e d out r = counted_deep (counted_in e) e d out r
    pair_deep (Some q) e d out r = all_deep y (pair_names q) _ _ (behind_either r)

    unless_deep : (o : Option Within) (e : Code) (d out : ℕ) → Deep k m → Deep (left_unless y o e d out k) m
    unless_deep None e d out r = pair_deep (pair_in e) e d out r
    unless_deep (Some q) e d out r = past _ (past _ (past _ (past _ (past _ (behind_either r)))))

  -- a chain has the labels of its texts

  text_labelled : (k : Instructions) (i : ℕ) (e : Code) (d : ℕ) → Deep (text_appended y i e d k) (labels_in e)
  text_labelled k i e d = labelled _ false [] [] e zero zero d

  chain_labelled : {x : Slot} {e : Code} (i d : ℕ) → IsChain x e → (k : Instructions) → Deep (chain_appended y i e d k) (labels_in e)
  chain_labelled i d (one_text z a n s) k = at_least (text_labelled k i a d) (omega arith)
  chain_labelled i d (more_texts c a q s) k =
      subst (λ (j : Instructions). Deep j (labels_in (Do (Host row.Concat) (At c (At a End))))) (sym (last_appended y i a d k q))
      (at_least (both (chain_labelled i d q (text_appended y i a d k)) (chain_deep {k = text_appended y i a d k} i d q (text_labelled k i a d))) (omega arith))

  appended_labelled : (k : Instructions) (o : Option Append) (e : Code) (d : ℕ) → append_in e ≡ o → Deep (appended_dropped y o e d k) (labels_in e)
  appended_labelled k None e d h = labelled _ true [] [] e zero zero d
  appended_labelled k (Some q) e d h =
      let t = append_is e q h in
      at_least (chain_labelled q.target d t.chain k) (let n = ap labels_in t.code in omega (arith, n))

  remainder_labelled : (k : Instructions) (o : Option Remainder) (e : Code) (d : ℕ) → Deep (remainder_dropped y o e d k) (labels_in e)
  remainder_labelled k None e d = appended_labelled k (append_in e) e d refl
  remainder_labelled k (Some q) e d = all_deep y (remainder_names q) _ _ (at_least (inside_either (labelled _ true [] [] e zero zero (suc d)) any) (omega arith))

  barely_labelled : (k : Instructions) (o : Option Tally) (e : Code) (d : ℕ) → tally_in e ≡ o → Deep (barely_dropped y o e d k) (labels_in e)
  barely_labelled k None e d h = remainder_labelled k (remainder_in e) e d
  barely_labelled k (Some q) e d h =
      let t = tally_is e q h in
      at_least (both (labelled _ false [] [] q.key zero zero d) (emitted_deep y false [] [] q.key zero zero d (labelled _ false (form_of [] q.key ∷ []) (zero ∷ []) q.added 1 zero d)))
      (let n = ap labels_in t.code in let s = tally_labels t.shape q in omega (arith, n, s))

  plainly_labelled : (k : Instructions) (o : Option Update) (e : Code) (d : ℕ) → update_in e ≡ o → Deep (plainly_dropped y o e d k) (labels_in e)
  plainly_labelled k None e d h = barely_labelled k (tally_in e) e d refl
  plainly_labelled k (Some q) e d h = by (field_at q.added) refl
    where
      same : labels_in e ≡ labels_in q.added
      same = ap labels_in (added_is e q h).0 ∙ added_labels q

      by : (o : Option ℤ) → field_at q.added ≡ o → Deep (both_asked y o q d (sum_taken y (sum_op q.op) q.target zero d k)) (labels_in e)
      by (Some z) f = at_least any (let n = same in let m = field_at_labels q.added z f in omega (arith, n, m))
      by None f = at_least (labelled _ false [] [] q.added zero zero d) (let n = same in omega (arith, n))

  quick_labelled : (k : Instructions) (o : Option Sum) (e : Code) (d : ℕ) → sum_in e ≡ o → Deep (quickly_dropped y o e d k) (one_if (is_some o) (labels_in e))
  quick_labelled k None e d h = plainly_labelled k (update_in e) e d refl
  quick_labelled k (Some x) e d h = all_deep y (sum_names x) _ _ (at_least (inside_either any any) (let n = sum_labels e x h in omega (arith, n)))

  counted_labelled : (k : Instructions) (o : Option Counted) (e : Code) (d out : ℕ) → Deep (left_unless_counted y o e d out k) (labels_in e)
  counted_labelled k None e d out = labelled _ false [] [] e zero zero d
  counted_labelled k (Some q) e d out = past _ (past _ (past _ (at_least (inside_either (labelled _ false [] [] e zero zero (suc d)) any) (omega arith))))

  pair_labelled : (k : Instructions) (o : Option Pair) (e : Code) (d out : ℕ) → Deep (left_unless_pair y o e d out k) (more_if (is_some o) (labels_in e))
  pair_labelled k None e d out = counted_labelled k (counted_in e) e d out
  pair_labelled k (Some q) e d out = all_deep y (pair_names q) _ _ (at_least (inside_either (labelled _ false [] [] e zero zero (suc d)) any) (omega arith))

  unless_labelled : (k : Instructions) (o : Option Within) (e : Code) (d out : ℕ) → Deep (left_unless y o e d out k) (more_if (is_some (pair_in e)) (labels_in e))
  unless_labelled k None e d out = pair_labelled k (pair_in e) e d out
  unless_labelled k (Some q) e d out =
      let l = more_most (is_some (pair_in e)) (labels_in e) in
      past _ (past _ (past _ (past _ (past _ (at_least (inside_either (labelled _ false [] [] e zero zero (suc d)) any) (omega (arith, l)))))))

  -- a choice, whose ways are so deep
  choice_labelled : (k : Instructions) {A B plain : Instructions} {a c : ℕ} (o : Option Pair) (e : Code) (d : ℕ) → Deep A a → Deep B c → Deep plain (choice_labels false (labels_in e) a c) →
      Deep (if is_some o then block (block (left_unless_pair y o e d zero A) B) k else plain) (choice_labels (is_some o) (labels_in e) a c)
  choice_labelled k None e d r q z = z
  choice_labelled k {A = A} (Some p) e d r q z =
      at_least (inside_block (both (inside_block (both (pair_labelled A (Some p) e d zero) (pair_deep (Some p) e d zero r))) (behind_block q))) (omega arith)

  nothing_labelled : (c : Step) → is_nothing c ≡ true → step_labels c ≤ 0
  nothing_labelled (Steps_ NoStep) e = omega arith
  nothing_labelled c e = cc

  rest_labelled : (j : Bool) (c : Step) (a : Instructions) {k : Instructions} → is_nothing c ≡ j → Deep k (step_labels c) → Deep (if j then a else k) (step_labels c)
  rest_labelled true c a e r = at_least any (nothing_labelled c e)
  rest_labelled false c a e r = r

  body_labelled : (j : Bool) {a inner rest : Instructions} {m n : ℕ} → Deep inner m → Deep a (max m n) → Deep rest n → Deep (if j then block inner rest else a) (max (more_if j m) n)
  body_labelled true r q z = both (inside_block r) (behind_block z)
  body_labelled false r q z = q

  answer_deep : {k : Instructions} {m : ℕ} (f : Form) (d : ℕ) → Deep k m → Deep (answer_given y f d k) m
  answer_deep (PrimitiveAnswer (answer.Of sort.Value)) d r = record { count = let h = r.count in omega (arith, h) }
  answer_deep (PrimitiveAnswer (answer.Of sort.Number)) d r = record { count = let h = r.count in omega (arith, h) }
  answer_deep (PrimitiveAnswer answer.Truth) d r = record { count = let h = r.count in omega (arith, h) }
  answer_deep NumberOrText d r = record { count = let h = r.count in omega (arith, h) }
  answer_deep OptionalNumber d r = record { count = let h = r.count in omega (arith, h) }
  answer_deep f d r = record { count = let h = r.count in omega (arith, h) }

  parameter_deep : {k : Instructions} {m : ℕ} (lender : Option ℕ) (i d : ℕ) → Deep k m → Deep (parameter_returned y lender i d k) m
  parameter_deep None i d r = past _ (past _ (past _ r))
  parameter_deep (Some name) i d r = emitted_deep y false [] [] (Get (Parameter true i)) zero zero d (answer_deep NumberOrText d r)

  returned_deep : {k : Instructions} {m : ℕ} (e : Code) (d : ℕ) → Deep k m → Deep (returned y e d k) m
  returned_deep (Choose sort.Value e a c) d r = one_of (is_some (pair_in e)) (behind_block (returned_deep c d r)) (tested_deep y [] [] e zero zero d (behind_either r))
  returned_deep (Get (Parameter true i)) d r = parameter_deep (lender_at y.lenders i) i d r
  returned_deep e d r = emitted_deep y false [] [] e zero zero d (answer_deep (form_of [] e) d r)

  -- what is chosen for `return`, whose ways are so deep
  chosen_labelled : {A B plain : Instructions} {a c : ℕ} (o : Option Pair) (e : Code) (d : ℕ) → Deep A a → Deep B c → Deep plain (chosen_labels false (labels_in e) a c) →
      Deep (if is_some o then block (left_unless_pair y o e d zero A) B else plain) (chosen_labels (is_some o) (labels_in e) a c)
  chosen_labelled None e d r q z = z
  chosen_labelled {A = A} (Some p) e d r q z = at_least (both (inside_block (both (pair_labelled A (Some p) e d zero) (pair_deep (Some p) e d zero r))) (behind_block q)) (omega arith)

  returned_labelled : (k : Instructions) (e : Code) (d : ℕ) → Deep (returned y e d k) (return_labels e)
  returned_labelled k (Choose sort.Value e a c) d =
      chosen_labelled (pair_in e) e (suc d) (returned_labelled Done a (suc d)) (returned_labelled k c d)
      (both (labelled _ false [] [] e zero zero d) (tested_deep y [] [] e zero zero d (inside_either (returned_labelled Done a (suc d)) (returned_labelled Done c (suc d)))))
  returned_labelled k (Get (Parameter true i)) d = any
  returned_labelled k e d = labelled _ false [] [] e zero zero d

  mutual
    unfolding step_emitted steps_emitted

    step_deep : {k : Instructions} {m : ℕ} (s : Step) (u d bk ct : ℕ) → Deep k m → Deep (step_emitted y s u d bk ct k) m
    step_deep (Eval e) u d bk ct r = past _ (quick_deep (sum_in e) e d r)
    step_deep (Steps_ ss) u d bk ct r = past _ (steps_deep ss u d bk ct r)
    step_deep (Either e a c) u d bk ct r = past _ (one_of (is_some (pair_in e)) (behind_block r) (tested_deep y [] [] e zero zero d (behind_either r)))
    step_deep (Loop true e a c) u d bk ct r = past _ (behind_block r)
    step_deep (Loop false e a c) u d bk ct r = past _ (behind_block r)
    step_deep (Each a e s) u d bk ct r = past _ (array_deep y a (past _ (past _ (behind_block (iterator_deep u r)))))
    step_deep Break u d bk ct r = past _ (past _ r)
    step_deep Continue u d bk ct r = past _ (past _ r)
    step_deep Next u d bk ct r = past _ (left_by_deep _ d r)
    step_deep Exit u d bk ct r = past _ (left_by_deep _ d r)
    step_deep (ExitWith e) u d bk ct r = past _ (emitted_deep y false [] [] e zero zero d (to_number_deep b (form_of [] e) zero d (past _ (past _ (left_by_deep _ d r)))))
    step_deep (Return e) u d bk ct r = past _ (returned_deep e d r)
    step_deep (Mark i c) u d bk ct r = past _ (past _ (past _ r))

    steps_deep : {k : Instructions} {m : ℕ} (ss : Steps) (u d bk ct : ℕ) → Deep k m → Deep (steps_emitted y ss u d bk ct k) m
    steps_deep NoStep u d bk ct r = r
    steps_deep (AndThen s ss) u d bk ct r = step_deep s u d bk ct (steps_deep ss u d bk ct r)

  mutual
    unfolding step_emitted steps_emitted

    step_labelled : (k : Instructions) (s : Step) (u d bk ct : ℕ) → Deep (step_emitted y s u d bk ct k) (step_labels s)
    step_labelled k (Eval e) u d bk ct = past _ (quick_labelled k (sum_in e) e d refl)
    step_labelled k (Steps_ ss) u d bk ct = past _ (steps_labelled _ ss u d bk ct)
    step_labelled k (Either e a c) u d bk ct =
        past _ (choice_labelled k (pair_in e) e (suc (suc d)) (step_labelled _ a u (suc (suc d)) (suc (suc bk)) (suc (suc ct))) (step_labelled _ c u (suc d) (suc bk) (suc ct))
        (both (labelled _ false [] [] e zero zero d) (tested_deep y [] [] e zero zero d (inside_either (step_labelled _ a u (suc d) (suc bk) (suc ct)) (step_labelled _ c u (suc d) (suc bk) (suc ct))))))
    step_labelled k (Loop true e a c) u d bk ct =
        let rest = rest_labelled (is_nothing c) c (emit (Br zero) Done) refl (step_labelled (emit (Br zero) Done) c u (suc (suc d)) 1 zero) in
        past _ (at_least (inside_loop (both (unless_labelled _ (test_within e) e (suc (suc d)) 1) (unless_deep (test_within e) e (suc (suc d)) 1
        (body_labelled (step_jumps a) (step_labelled Done a u (suc (suc (suc d))) 2 zero) (both (step_labelled _ a u (suc (suc d)) 1 zero) (step_deep a u (suc (suc d)) 1 zero rest)) rest)))) (omega arith))
    step_labelled k (Loop false e a c) u d bk ct =
        past _ (at_least (inside_loop (both (inside_block (step_labelled _ a u (suc (suc (suc d))) 2 zero))
        (behind_block (both (step_labelled _ c u (suc (suc d)) 1 zero) (step_deep c u (suc (suc d)) 1 zero (past _ (labelled _ false [] [] e zero zero (suc (suc d))))))))) (omega arith))
    step_labelled k (Each a e s) u d bk ct =
        past _ (array_deep y a (past _ (past _ (at_least (inside_loop (both
        (past _ (past _ (past _ (past _ (past _ (past _ (past _ (labelled _ true (a_value ∷ []) (zero ∷ []) e 1 zero (suc (suc d))))))))))
        (key_deep u e (suc (suc d)) (inside_block (step_labelled _ s (suc u) (suc (suc (suc d))) 2 zero))))) (omega arith)))))
    step_labelled k Break u d bk ct = any
    step_labelled k Continue u d bk ct = any
    step_labelled k Next u d bk ct = any
    step_labelled k Exit u d bk ct = any
    step_labelled k (ExitWith e) u d bk ct = past _ (labelled _ false [] [] e zero zero d)
    step_labelled k (Return e) u d bk ct = past _ (returned_labelled k e d)
    step_labelled k (Mark i c) u d bk ct = any

    pub steps_labelled : (k : Instructions) (ss : Steps) (u d bk ct : ℕ) → Deep (steps_emitted y ss u d bk ct k) (steps_labels ss)
    steps_labelled k NoStep u d bk ct = any
    steps_labelled k (AndThen s ss) u d bk ct = both (step_labelled _ s u d bk ct) (step_deep s u d bk ct (steps_labelled _ ss u d bk ct))

  -- Functions.

  temporaries_deep : {k : Instructions} {m : ℕ} (t n : ℕ) → Deep k m → Deep (temporaries_emptied y t n k) m
  temporaries_deep t zero r = r
  temporaries_deep t (suc n) r = past _ (past _ (temporaries_deep (suc t) n r))

  iterators_deep : {k : Instructions} {m : ℕ} (t n : ℕ) → Deep k m → Deep (iterators_emptied y t n k) m
  iterators_deep t zero r = r
  iterators_deep t (suc n) r = past _ (past _ (iterators_deep (suc t) n r))

  arrays_deep : {k : Instructions} {m : ℕ} (t n : ℕ) → Deep k m → Deep (arrays_emptied y t n k) m
  arrays_deep t zero r = r
  arrays_deep t (suc n) r = past _ (past _ (arrays_deep (suc t) n r))

  emptied_deep : {k : Instructions} {m : ℕ} → Deep k m → Deep (all_emptied y k) m
  emptied_deep r = past _ (past _ (temporaries_deep zero b.temporaries (iterators_deep zero b.iterators (arrays_deep zero b.arrays r))))

-- A FUNCTION is nested as deep as its labels
pub routine_labelled : (p : Program) (r : Routine) → steps_labels r.body ≤ depths (routine_callee p r).body
routine_labelled p r =
    let y = layout_of p (routine_bases r) in
    (at_least (emptied_deep y (inside_block (inside_block (steps_labelled y _ r.body zero zero zero zero)))) (omega arith)).count

-- `main`.

module _ (y : Layout) where
  declared_deep : {k : Instructions} {m : ℕ} (i : ℕ) (ks : List Kind) → Deep k m → Deep (names_declared y i ks k) m
  declared_deep i [] r = r
  declared_deep i (kind ∷ ks) r = past _ (past _ (past _ (past _ (declared_deep (suc i) ks r))))

  routines_deep : {k : Instructions} {m : ℕ} (i n : ℕ) → Deep k m → Deep (routines_declared y i n k) m
  routines_deep i zero r = r
  routines_deep i (suc n) r = past _ (past _ (past _ (past _ (routines_deep (suc i) n r))))

  made_deep : {k : Instructions} {m : ℕ} (i : ℕ) (ks : List Kind) → Deep k m → Deep (names_made y i ks k) m
  made_deep i [] r = r
  made_deep i (Boxed ∷ ks) r = past _ (past _ (made_deep (suc i) ks r))
  made_deep i (Unboxed ∷ ks) r = made_deep (suc i) ks r
  made_deep i (ArrayKind ∷ ks) r = past _ (past _ (made_deep (suc i) ks r))

  before_deep : {k : Instructions} {m : ℕ} (p : Program) → Deep k m → Deep (before_parts y p k) m
  before_deep p r =
      past _ (past _ (past _ (kept_number_deep y.bases true zero zero (declared_deep (length p.texts) y.names (routines_deep (length p.texts + length p.globals) (length p.routines)
      (made_deep zero y.names (asked_deep y row.StartAssign zero zero r)))))))

  inside_part : {a k : Instructions} {m : ℕ} (d : ℕ) → Deep a m → Deep (part_done y a d k) m
  inside_part d r = at_least (inside_block (inside_block r)) (omega arith)

  behind_part : {a k : Instructions} {m : ℕ} (d : ℕ) → Deep k m → Deep (part_done y a d k) m
  behind_part d r = behind_block r

  records_labelled : (k : Instructions) (items : Steps) (d : ℕ) → Deep (records_read y items d k) (steps_labels items)
  records_labelled k items d =
      let done : Deep (record_done y items (suc (suc d)) (emit (Br 1) Done)) (steps_labels items) = at_least (inside_block (inside_block (steps_labelled y _ items zero zero zero zero))) (omega arith) in
      inside_again (past (CallOf (import_number (OfPrimitive row.NextMain))) (kept_code_deep y.bases true zero (suc d) (past _ (past _ (past _
      (at_least {m = suc (max (steps_labels items) 0)} (inside_either {m = steps_labels items} {n = 0} done any) (omega arith)))))))

  items_labelled_in : (items : Steps) (z : Bool) → z ≡ true → Deep (if z then records_read y items zero (emit (Br 1) Done) else emit (Br 1) Done) (steps_labels items)
  items_labelled_in items true e = records_labelled (emit (Br 1) Done) items zero
  items_labelled_in items false e = cc

-- BEGIN, END, and the items where records are read
pub begin_labelled : (p : Program) → steps_labels p.begin ≤ depths (main_callee p).body
begin_labelled p =
    let y = layout_of p (main_bases p) in
    (emptied_deep y (at_least (inside_block (before_deep y p (inside_part y zero (steps_labelled y _ p.begin zero zero zero zero)))) (omega arith))).count

pub end_labelled : (p : Program) → steps_labels p.end ≤ depths (main_callee p).body
end_labelled p =
    let y = layout_of p (main_bases p) in
    (emptied_deep y (at_least (inside_block (before_deep y p (behind_part y zero (past _ (inside_part y zero (steps_labelled y _ p.end zero zero zero zero)))))) (omega arith))).count

pub items_labelled : (p : Program) → p.reads ≡ true → steps_labels p.items ≤ depths (main_callee p).body
items_labelled p e =
    let y = layout_of p (main_bases p) in
    (emptied_deep y (at_least (inside_block (before_deep y p (inside_part y zero (steps_deep y p.begin zero zero zero zero (items_labelled_in y p.items p.reads e))))) (omega arith))).count
