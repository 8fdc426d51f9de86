-- Small pieces of code: handles and answers, conversions, arithmetic and comparison.
use Rattle.std.proofs.Common.{◌≡◌, ℕ, suc, ◌+◌, ◌<◌, ◌≤◌, Bool, true, false, List, [], ◌∷◌, ◌++◌, Some, arith}
use Rattle.std.specs.Prelude.{slice_get, ◌||◌, if◌then◌else◌}
use Rattle.awk_values.specs.declared.fault.Fault.{Fault}
use Rattle.awk_values.specs.declared.fault.Fault.TheVariants.{Range, DivisionByZero, Inexact, FieldNumber}
use Rattle.awk_values.specs.declared.comparison.CompareOp.{CompareOp}
use Rattle.sem_primitives.specs.declared.sorts.Sort.{Sort}
use Rattle.sem_primitives.specs.declared.sorts.Sort.TheVariants as sort
use Rattle.sem_primitives.specs.declared.sorts.Answer.{Answer}
use Rattle.sem_primitives.specs.declared.sorts.Answer.TheVariants as answer
use Rattle.sem_primitives.specs.declared.table.Primitive.TheVariants as row
use Rattle.wasm_types.specs.Syntax.{Instructions}
use Rattle.wasm_types.specs.Typing.{one, Context, CodeOk, done}
use Rattle.wasm_types.specs.declared.types.ValType.TheVariants.{I32, I64}
use Rattle.wasm_types.specs.declared.instr.IBinOp.{IBinOp}
use Rattle.wasm_types.specs.declared.instr.CvtOp.TheVariants.{I64ExtendI32S}
use Rattle.wasm_types.specs.declared.instr.Simple.{Simple}
use Rattle.mid_program.specs.declared.mid.Arithmetic.{Arithmetic}
use Rattle.mid_program.specs.declared.mid.Arithmetic.TheVariants as inline
use Rattle.mid_program.specs.Mid.{Kind, Program, Form, PrimitiveAnswer, NumberOrText, OptionalNumber}
use Rattle.lower_model.specs.Arithmetic.{out_of_range, ranged, factors_differ, any_product, far_off, times, unless_zero, divided, unless_broken, is_value, may_be_text, calculated, field_checked, values_compared, zeroed_if, numbers_compared, texts_beside, bare_compared, compared}
use Rattle.host_imports.specs.Imports.{import_type, result_of}
use Rattle.host_imports.specs.Names.{import_number}
use Rattle.lower_model.specs.Places.{Bases, number_local, calculated_room}
use Rattle.lower_model.specs.Small.{moved_out, moved, emptied, let_go, copied, copied_if_any, fail_if, number_is, kept_code, kept_value, kept_number, kept_done, text_taken, answer_kept, kept, boxed_number, boxed_perhaps, to_value, zeroed, code_number, number_of_value, to_number, converted, not_zero, truth, unused, released, number_copied, moved_from, copied_from, bound_from}
use Rattle.host_imports.specs.declared.import.Import.{Import}
use Rattle.host_imports.specs.declared.import.Import.TheVariants.{OfPrimitive, Drop}
use Rattle.lower_model.proofs.Answers.{IsPlain}
use Rattle.lower_model.proofs.Simulation.{operator_room}
use Rattle.agreement.proofs.TypedLemmas.Singles.{Stack, Labels, Exit, Reads, Writes, reads_local, writes_local, called, gives, takes, get, put, tee, read, word, long, test, compare, binary, convert, discard, inner, nearest, leave, leave_if, blocked, branched}
use Rattle.agreement.proofs.TypedLemmas.Standing.{Stands}

-- an import that lets a handle go
abbrev LetsGo : Context → Import → Type 0
LetsGo C i = C.callee (import_number i) ≡ Some (import_type Drop)

module _ {p : Program} {ks : List Kind} {b : Bases} {C : Context} (at : Stands p ks b C) where
  module _ {L : Labels} {k : Instructions} {rs : Stack} where
    -- Handles and faults.

    module _ {ps : Stack} where
      pub moved_out_ok : {x : ℕ} → slice_get C.locals x ≡ Some I32 → CodeOk C L k (I32 ∷ ps) rs → CodeOk C L (moved_out x k) ps rs
      moved_out_ok e r = get e (word (put e r))

      moved_ok : {x y : ℕ} → slice_get C.locals x ≡ Some I32 → slice_get C.locals y ≡ Some I32 → CodeOk C L k ps rs →
          CodeOk C L (moved x y k) ps rs
      moved_ok e f r = get e (word (put e (put f r)))

      pub emptied_ok : {x : ℕ} → slice_get C.locals x ≡ Some I32 → CodeOk C L k ps rs → CodeOk C L (emptied x k) ps rs
      emptied_ok e r = word (put e r)

      pub let_go_ok : {x : ℕ} → (i : Import) → LetsGo C i → slice_get C.locals x ≡ Some I32 → CodeOk C L k ps rs → CodeOk C L (let_go i x k) ps rs
      let_go_ok i c e r = get e (tee e (word (compare (branched (get e (word (put e (called [] c done)))) done r))))

      pub copied_ok : {get_it set_it : Simple} {y : ℕ} → Reads C get_it I32 → Writes C set_it I32 → slice_get C.locals y ≡ Some I32 →
          CodeOk C L k ps rs →
          CodeOk C L (copied get_it set_it y k) ps rs
      copied_ok g s e r = gives g (tee e (called ps (at.imported (OfPrimitive row.Dup)) (takes s r)))

      pub fail_if_ok : {d : ℕ} → (f : Fault) → Exit L d → CodeOk C L k ps rs → CodeOk C L (fail_if f d k) (I32 ∷ ps) rs
      fail_if_ok f e r = branched (word (called [] (at.imported (OfPrimitive row.Fail)) (leave (inner e) done))) done r

      pub number_is_ok : {x m : ℕ} → slice_get C.locals x ≡ Some I64 → CodeOk C L k (I32 ∷ ps) rs → CodeOk C L (number_is x m k) ps rs
      number_is_ok e r = get e (long (compare r))

      pub kept_code_ok : (f : Bool) {t d : ℕ} → t < b.temporaries → Exit L d → CodeOk C L k ps rs → CodeOk C L (kept_code b f t d k) (I32 ∷ ps) rs
      kept_code_ok true {t = t} lt e r = convert (tee (at.number t lt) (long (compare (leave_if e r))))
      kept_code_ok false {t = t} lt e r = convert (put (at.number t lt) r)

      pub kept_value_ok : (f : Bool) {t d : ℕ} → t < b.temporaries → Exit L d → CodeOk C L k ps rs → CodeOk C L (kept_value b f t d k) (I32 ∷ ps) rs
      kept_value_ok true {t = t} lt e r = tee (at.handle t lt) (word (compare (leave_if e r)))
      kept_value_ok false {t = t} lt e r = put (at.handle t lt) r

      pub kept_number_ok : (f : Bool) {t d : ℕ} → t < b.temporaries → Exit L d → CodeOk C L k ps rs → CodeOk C L (kept_number b f t d k) (I64 ∷ ps) rs
      kept_number_ok true {t = t} lt e r = tee (at.number t lt) (long (compare (leave_if e r)))
      kept_number_ok false {t = t} lt e r = put (at.number t lt) r

      pub kept_done_ok : (f : Bool) {d : ℕ} → Exit L d → CodeOk C L k ps rs → CodeOk C L (kept_done b f d k) (I32 ∷ ps) rs
      kept_done_ok true e r = word (compare (leave_if e r))
      kept_done_ok false e r = discard r

    -- The answer of a function.

    text_taken_ok : {t : ℕ} → t < b.temporaries → CodeOk C L k [] rs → CodeOk C L (text_taken b t k) [] rs
    text_taken_ok {t = t} lt r = read at.text (put (at.handle t lt) r)

    -- an answer that is kept
    pub kept_ok : (f : Bool) (a : Answer) {t d : ℕ} (ps : Stack) → IsPlain a → t < b.temporaries → Exit L d → CodeOk C L k ps rs →
        CodeOk C L (kept b f a t d k) (one (result_of a) ++ ps) rs
    kept_ok f (answer.Of sort.Value) ps i lt e r = kept_value_ok f lt e r
    kept_ok f (answer.Of sort.Number) ps i lt e r = kept_number_ok f lt e r
    kept_ok f answer.Truth ps i lt e r = kept_code_ok f lt e r
    kept_ok f answer.Input ps i lt e r = kept_code_ok f lt e r
    kept_ok f answer.Stream ps i lt e r = kept_code_ok f lt e r
    kept_ok f answer.Done ps i lt e r = kept_done_ok f e r
    kept_ok f a ps i lt e r = absurd i

  module _ {L : Labels} {k : Instructions} {ps rs : Stack} where
    pub answer_kept_ok : {t d : ℕ} → t < b.temporaries → Exit L d → CodeOk C L k ps rs → CodeOk C L (answer_kept b t d k) (I64 ∷ ps) rs
    answer_kept_ok {t = t} lt e r =
        tee (at.number t lt) (long (compare (branched
        (number_is_ok (at.number t lt) (branched (text_taken_ok lt done) (number_is_ok (at.number t lt) (leave_if (inner (inner e)) done)) done)) done r)))

  module _ {L : Labels} {k : Instructions} {ps rs : Stack} where
    pub copied_if_any_ok : {get_it set_it : Simple} {y : ℕ} → Reads C get_it I32 → Writes C set_it I32 → slice_get C.locals y ≡ Some I32 →
        CodeOk C L k ps rs →
        CodeOk C L (copied_if_any get_it set_it y k) ps rs
    copied_if_any_ok g s e r = gives g (tee e (word (compare (branched (copied_ok (reads_local e) s e done) done r))))

    -- Conversions.

    pub boxed_number_ok : {t : ℕ} → t < b.temporaries → CodeOk C L k (I32 ∷ ps) rs → CodeOk C L (boxed_number b t k) ps rs
    boxed_number_ok {t = t} lt r = get (at.number t lt) (called ps (at.imported (OfPrimitive row.Num)) r)

  module _ {L : Labels} {k : Instructions} {ps rs : Stack} where
    pub boxed_perhaps_ok : {t : ℕ} {set_it : Simple} → t < b.temporaries → Writes C set_it I32 → CodeOk C L k ps rs →
        CodeOk C L (boxed_perhaps b t set_it k) ps rs
    boxed_perhaps_ok {t = t} lt s r =
        number_is_ok (at.number t lt) (branched (called [] (at.imported (OfPrimitive row.Uninit)) (takes s done)) (boxed_number_ok lt (takes s done)) r)

    zeroed_ok : {t : ℕ} → t < b.temporaries → CodeOk C L k ps rs → CodeOk C L (zeroed b t k) ps rs
    zeroed_ok {t = t} lt r = number_is_ok (at.number t lt) (branched (long (put (at.number t lt) done)) done r)

    pub code_number_ok : {t : ℕ} → t < b.temporaries → CodeOk C L k ps rs → CodeOk C L (code_number b t k) ps rs
    code_number_ok {t = t} lt r =
        number_is_ok (at.number t lt)
        (number_is_ok (at.number t lt) (binary (convert {op = I64ExtendI32S} (put (at.number t lt) r))))

    pub number_of_value_ok : {t d : ℕ} → t < b.temporaries → Exit L d → CodeOk C L k ps rs → CodeOk C L (number_of_value b t d k) ps rs
    number_of_value_ok {t = t} lt e r = moved_out_ok (at.handle t lt) (called ps (at.imported (OfPrimitive row.ToNum)) (kept_number_ok true lt e r))

  module _ {L : Labels} {k : Instructions} {ps rs : Stack} where
    pub to_value_ok : (f : Form) {t : ℕ} → t < b.temporaries → CodeOk C L k ps rs → CodeOk C L (to_value b f t k) ps rs
    to_value_ok (PrimitiveAnswer (answer.Of sort.Value)) lt r = r
    to_value_ok (PrimitiveAnswer (answer.Of sort.Number)) {t = t} lt r = boxed_number_ok lt (put (at.handle t lt) r)
    to_value_ok (PrimitiveAnswer answer.Truth) {t = t} lt r = boxed_number_ok lt (put (at.handle t lt) r)
    to_value_ok NumberOrText {t = t} lt r =
        get (at.number t lt) (long (compare (branched
        (number_is_ok (at.number t lt) (branched (called [] (at.imported (OfPrimitive row.Uninit)) (put (at.handle t lt) done)) done done))
        (boxed_number_ok lt (put (at.handle t lt) done))
        r)))
    to_value_ok OptionalNumber {t = t} lt r = boxed_perhaps_ok lt (writes_local (at.handle t lt)) r
    to_value_ok f {t = t} lt r = called ps (at.imported (OfPrimitive row.Uninit)) (put (at.handle t lt) r)

    pub to_number_ok : (f : Form) {t d : ℕ} → t < b.temporaries → Exit L d → CodeOk C L k ps rs → CodeOk C L (to_number b f t d k) ps rs
    to_number_ok (PrimitiveAnswer (answer.Of sort.Value)) lt e r = number_of_value_ok lt e r
    to_number_ok (PrimitiveAnswer answer.Input) lt e r = code_number_ok lt r
    to_number_ok (PrimitiveAnswer answer.Stream) lt e r = code_number_ok lt r
    to_number_ok NumberOrText {t = t} lt e r =
        get (at.number t lt) (long (compare (branched
        (number_is_ok (at.number t lt) (branched (number_of_value_ok lt (inner (inner e)) done) (long (put (at.number t lt) done)) done)) done r)))
    to_number_ok OptionalNumber lt e r = zeroed_ok lt r
    to_number_ok f lt e r = r

    not_zero_ok : {t : ℕ} → t < b.temporaries → CodeOk C L k (I32 ∷ ps) rs → CodeOk C L (not_zero b t k) ps rs
    not_zero_ok {t = t} lt r = get (at.number t lt) (test (test r))

  module _ {L : Labels} {k : Instructions} {ps rs : Stack} where
    pub converted_ok : (f : Form) (s : Sort) {t d : ℕ} → t < b.temporaries → Exit L d → CodeOk C L k ps rs → CodeOk C L (converted b f s t d k) ps rs
    converted_ok f sort.Value lt e r = to_value_ok f lt r
    converted_ok f sort.Number lt e r = to_number_ok f lt e r
    converted_ok f s lt e r = r

    pub truth_ok : (f : Form) {t : ℕ} → t < b.temporaries → CodeOk C L k (I32 ∷ ps) rs → CodeOk C L (truth b f t k) ps rs
    truth_ok (PrimitiveAnswer (answer.Of sort.Value)) {t = t} lt r = moved_out_ok (at.handle t lt) (called ps (at.imported (OfPrimitive row.Truth)) r)
    truth_ok NumberOrText {t = t} lt r =
        number_is_ok (at.number t lt) (branched
        (moved_out_ok (at.handle t lt) (called [] (at.imported (OfPrimitive row.Truth)) (convert (put (at.number t lt) done))))
        (zeroed_ok lt done)
        (not_zero_ok lt r))
    truth_ok OptionalNumber lt r = zeroed_ok lt (not_zero_ok lt r)
    truth_ok f lt r = not_zero_ok lt r

    -- What is in a temporary is dropped, moved or copied.

    pub unused_ok : (f : Form) {t : ℕ} → t < b.temporaries → CodeOk C L k ps rs → CodeOk C L (unused b f t k) ps rs
    unused_ok (PrimitiveAnswer (answer.Of sort.Value)) {t = t} lt r = moved_out_ok (at.handle t lt) (called ps (at.imported Drop) r)
    unused_ok NumberOrText {t = t} lt r = let_go_ok Drop (at.imported Drop) (at.handle t lt) r
    unused_ok f lt r = r

    pub released_ok : (f : Form) {t : ℕ} → t < b.temporaries → CodeOk C L k ps rs → CodeOk C L (released b f t k) ps rs
    released_ok (PrimitiveAnswer (answer.Of sort.Value)) {t = t} lt r = let_go_ok Drop (at.imported Drop) (at.handle t lt) r
    released_ok NumberOrText {t = t} lt r = let_go_ok Drop (at.imported Drop) (at.handle t lt) r
    released_ok f lt r = r

    number_copied_ok : {s t : ℕ} → s < b.temporaries → t < b.temporaries → CodeOk C L k ps rs → CodeOk C L (number_copied b s t k) ps rs
    number_copied_ok {s = s} {t = t} ls lt r = get (at.number s ls) (put (at.number t lt) r)

  module _ {L : Labels} {k : Instructions} {ps rs : Stack} where
    pub moved_from_ok : (f : Form) {s t : ℕ} → s < b.temporaries → t < b.temporaries → CodeOk C L k ps rs → CodeOk C L (moved_from b f s t k) ps rs
    moved_from_ok (PrimitiveAnswer (answer.Of sort.Value)) {s = s} {t = t} ls lt r = moved_ok (at.handle s ls) (at.handle t lt) r
    moved_from_ok NumberOrText {s = s} {t = t} ls lt r = number_copied_ok ls lt (moved_ok (at.handle s ls) (at.handle t lt) r)
    moved_from_ok f ls lt r = number_copied_ok ls lt r

    copied_from_ok : (f : Form) {s t : ℕ} → s < b.temporaries → t < b.temporaries → CodeOk C L k ps rs → CodeOk C L (copied_from b f s t k) ps rs
    copied_from_ok (PrimitiveAnswer (answer.Of sort.Value)) {s = s} {t = t} ls lt r =
        copied_ok (reads_local (at.handle s ls)) (writes_local (at.handle s ls)) (at.handle t lt) r
    copied_from_ok NumberOrText {s = s} {t = t} ls lt r =
        number_copied_ok ls lt (copied_if_any_ok (reads_local (at.handle s ls)) (writes_local (at.handle s ls)) (at.handle t lt) r)
    copied_from_ok f ls lt r = number_copied_ok ls lt r

  module _ {L : Labels} {k : Instructions} {ps rs : Stack} where
    pub bound_from_ok : (m : Bool) (f : Form) {s t : ℕ} → s < b.temporaries → t < b.temporaries → CodeOk C L k ps rs →
        CodeOk C L (bound_from b m f s t k) ps rs
    bound_from_ok true f ls lt r = moved_from_ok f ls lt r
    bound_from_ok false f ls lt r = copied_from_ok f ls lt r

  -- Arithmetic and comparison.

  module _ {L : Labels} {u v : Instructions} {ps rs : Stack} where
    pub one_of : (c : Bool) → CodeOk C L u ps rs → CodeOk C L v ps rs → CodeOk C L (if c then u else v) ps rs
    one_of true u v = u
    one_of false u v = v

  module _ {L : Labels} {k : Instructions} {ps rs : Stack} where
    out_of_range_ok : {x : ℕ} → slice_get C.locals x ≡ Some I64 → CodeOk C L k (I32 ∷ ps) rs → CodeOk C L (out_of_range x k) ps rs
    out_of_range_ok e r = get e (long (binary (long (compare r))))

    far_off_ok : {x : ℕ} → slice_get C.locals x ≡ Some I64 → CodeOk C L k (I32 ∷ ps) rs → CodeOk C L (far_off x k) ps rs
    far_off_ok e r = get e (long (binary (long (compare r))))

    factors_differ_ok : {q x y : ℕ} → slice_get C.locals q ≡ Some I64 → slice_get C.locals x ≡ Some I64 → slice_get C.locals y ≡ Some I64 →
        CodeOk C L k (I32 ∷ ps) rs →
        CodeOk C L (factors_differ q x y k) ps rs
    factors_differ_ok g e f r = get g (get e (get e (test (convert (binary (binary (get f (compare (get e (long (compare (binary r))))))))))))

  module _ {L : Labels} {k : Instructions} {ps rs : Stack} {d : ℕ} (e : Exit L d) where
    ranged_ok : {x y : ℕ} {op : IBinOp} → slice_get C.locals x ≡ Some I64 → slice_get C.locals y ≡ Some I64 → CodeOk C L k ps rs →
        CodeOk C L (ranged op x y d k) ps rs
    ranged_ok ex ey r = get ex (get ey (binary (put ex (out_of_range_ok ex (fail_if_ok Range e r)))))

    any_product_ok : {x y q : ℕ} → slice_get C.locals x ≡ Some I64 → slice_get C.locals y ≡ Some I64 → slice_get C.locals q ≡ Some I64 →
        CodeOk C L k ps rs → CodeOk C L (any_product x y q d k) ps rs
    any_product_ok ex ey eq r =
        get ex (get ey (binary (put eq (factors_differ_ok eq ex ey (out_of_range_ok eq (binary (fail_if_ok Range e (get eq (put ex r)))))))))

    unless_zero_ok : {y : ℕ} → slice_get C.locals y ≡ Some I64 → CodeOk C L k ps rs → CodeOk C L (unless_zero y d k) ps rs
    unless_zero_ok ey r = get ey (test (fail_if_ok DivisionByZero e r))

    unless_broken_ok : {x y : ℕ} → slice_get C.locals x ≡ Some I64 → slice_get C.locals y ≡ Some I64 → CodeOk C L k ps rs →
        CodeOk C L (unless_broken x y d k) ps rs
    unless_broken_ok ex ey r = get ex (get ey (binary (long (compare (fail_if_ok Inexact e r)))))

    pub field_checked_ok : {t : ℕ} → t < b.temporaries → CodeOk C L k ps rs → CodeOk C L (field_checked b t d k) ps rs
    field_checked_ok {t = t} lt r = get (at.number t lt) (long (compare (fail_if_ok FieldNumber e r)))

  module _ {L : Labels} {k : Instructions} {ps rs : Stack} {d : ℕ} (e : Exit L d) where
    times_ok : {x y q : ℕ} → slice_get C.locals x ≡ Some I64 → slice_get C.locals y ≡ Some I64 → slice_get C.locals q ≡ Some I64 →
        CodeOk C L k ps rs → CodeOk C L (times x y q d k) ps rs
    times_ok ex ey eq r =
        blocked
        (blocked (far_off_ok ex (leave_if nearest (far_off_ok ey (leave_if nearest (get ex (get ey (binary (put ex (leave (inner nearest) done)))))))))
        (any_product_ok (inner e) ex ey eq done))
        r

  module _ {L : Labels} {k : Instructions} {ps rs : Stack} where
    divided_ok : {x y : ℕ} {op : IBinOp} → slice_get C.locals x ≡ Some I64 → slice_get C.locals y ≡ Some I64 → CodeOk C L k ps rs →
        CodeOk C L (divided op x y k) ps rs
    divided_ok ex ey r = get ex (get ey (binary (put ex r)))

  module _ {L : Labels} {k : Instructions} {ps rs : Stack} {d : ℕ} (e : Exit L d) where
    pub calculated_ok : (a : Arithmetic) (t : ℕ) → t + calculated_room a ≤ b.temporaries → CodeOk C L k ps rs → CodeOk C L (calculated b a t d k) ps rs
    calculated_ok a t h r = by a h
      where
        two : suc t < b.temporaries
        two = let q = operator_room a in omega (arith, h, q)

        left : slice_get C.locals (number_local b t) ≡ Some I64
        left = let q = two in at.number t (omega (arith, q))

        right : slice_get C.locals (number_local b (suc t)) ≡ Some I64
        right = at.number (suc t) two

        by : (a : Arithmetic) → t + calculated_room a ≤ b.temporaries → CodeOk C L (calculated b a t d k) ps rs
        by inline.Plus g = ranged_ok e left right r
        by inline.Minus g = ranged_ok e left right r
        by inline.Times g = times_ok e left right (at.number (suc (suc t)) (omega (arith, g))) r
        by inline.Over g = unless_zero_ok e right (unless_broken_ok e left right (divided_ok left right r))
        by inline.Modulo g = unless_zero_ok e right (divided_ok left right r)
        by inline.Truncated g = unless_zero_ok e right (divided_ok left right r)

  module _ {L : Labels} {k : Instructions} {ps rs : Stack} {d : ℕ} (e : Exit L d) where
    values_compared_ok : (c : CompareOp) (f g : Form) {t : ℕ} → suc t < b.temporaries → CodeOk C L k ps rs →
        CodeOk C L (values_compared b c f g t d k) ps rs
    values_compared_ok c f g {t = t} lt r =
        let le : t < b.temporaries = omega (arith, lt) in
        to_value_ok f le (to_value_ok g lt
        (word (moved_out_ok (at.handle t le) (moved_out_ok (at.handle (suc t) lt)
        (called ps (at.imported (OfPrimitive row.Compare)) (kept_code_ok true le e r))))))

  module _ {L : Labels} {k : Instructions} {ps rs : Stack} where
    zeroed_if_ok : (f : Form) {t : ℕ} → t < b.temporaries → CodeOk C L k ps rs → CodeOk C L (zeroed_if b f t k) ps rs
    zeroed_if_ok NumberOrText lt r = zeroed_ok lt r
    zeroed_if_ok OptionalNumber lt r = zeroed_ok lt r
    zeroed_if_ok f lt r = r

    texts_beside_ok : (f g : Form) {t : ℕ} → suc t < b.temporaries → CodeOk C L k (I32 ∷ ps) rs → CodeOk C L (texts_beside b f g t k) ps rs
    texts_beside_ok NumberOrText NumberOrText {t = t} lt r = number_is_ok (at.number t (omega (arith, lt))) (number_is_ok (at.number (suc t) lt) (binary r))
    texts_beside_ok NumberOrText g {t = t} lt r = number_is_ok (at.number t (omega (arith, lt))) r
    texts_beside_ok f g {t = t} lt r = number_is_ok (at.number (suc t) lt) r

  module _ {L : Labels} {k : Instructions} {ps rs : Stack} where
    numbers_compared_ok : (c : CompareOp) (f g : Form) {t : ℕ} → suc t < b.temporaries → CodeOk C L k ps rs →
        CodeOk C L (numbers_compared b c f g t k) ps rs
    numbers_compared_ok c f g {t = t} lt r =
        let le : t < b.temporaries = omega (arith, lt) in
        zeroed_if_ok f le (zeroed_if_ok g lt (get (at.number t le) (get (at.number (suc t) lt) (compare (convert (put (at.number t le) r))))))

  module _ {L : Labels} {k : Instructions} {ps rs : Stack} {d : ℕ} (e : Exit L d) where
    bare_compared_ok : (c : CompareOp) (f g : Form) {t : ℕ} → suc t < b.temporaries → CodeOk C L k ps rs →
        CodeOk C L (bare_compared b c f g t d k) ps rs
    bare_compared_ok c f g lt r =
        one_of (may_be_text f || may_be_text g)
        (texts_beside_ok f g lt (branched (values_compared_ok (inner e) c f g lt done) (numbers_compared_ok c f g lt done) r))
        (numbers_compared_ok c f g lt r)

  module _ {L : Labels} {k : Instructions} {ps rs : Stack} {d : ℕ} (e : Exit L d) where
    pub compared_ok : (c : CompareOp) (f g : Form) {t : ℕ} → suc t < b.temporaries → CodeOk C L k ps rs → CodeOk C L (compared b c f g t d k) ps rs
    compared_ok c f g lt r = one_of (is_value f || is_value g) (values_compared_ok e c f g lt r) (bare_compared_ok e c f g lt r)
