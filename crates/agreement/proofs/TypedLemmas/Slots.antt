-- Names: arrays onto the stack, slots that are read and set, and assignments of the command line.
use Rattle.std.proofs.Common.{◌≡◌, ℕ, zero, suc, ◌+◌, ◌<◌, ◌≤◌, Bool, true, false, List, [], ◌∷◌, length, Option, Some, None, refl, arith}
use Rattle.std.specs.Prelude.{slice_get, nat_lt}
use Rattle.std.proofs.lemmas.Bool.{ltb-true}
use Rattle.sem_primitives.specs.declared.sorts.Sort.TheVariants as sort
use Rattle.sem_primitives.specs.declared.sorts.Answer.TheVariants as answer
use Rattle.sem_primitives.specs.declared.table.Primitive.{Primitive}
use Rattle.sem_primitives.specs.declared.table.Primitive.TheVariants as row
use Rattle.wasm_types.specs.Syntax.{Instructions}
use Rattle.wasm_types.specs.Typing.{Context, CodeOk, done}
use Rattle.wasm_types.specs.declared.types.ValType.TheVariants.{I32}
use Rattle.wasm_types.specs.declared.instr.Simple.{Simple}
use Rattle.mid_program.specs.Mid.{Kind, Boxed, Unboxed, ArrayKind, Slot, Global, Parameter, Program, Form, PrimitiveAnswer, NumberOrText, OptionalNumber}
use Rattle.sem_scripts.specs.Names.{ArrayName, Numbered, Given}
use Rattle.mid_program.specs.Sorted.{context_of, has_kind, is_array_place, is_slot, kinds_of, arrays_among, lender_at}
use Rattle.lower_model.specs.Emission.{array_pushed, unboxed_read, parameter_read, slot_read, handle_stored, value_stored, text_dropped, text_stored, slot_set, assigned, assigned_by_number, pending_assigned, asked}
use Rattle.lower_model.specs.Functions.{layout_of}
use Rattle.host_imports.specs.Names.{primitive_number}
use Rattle.lower_model.specs.Places.{Bases, handle_global, array_name}
use Rattle.host_imports.specs.declared.import.Import.TheVariants.{OfPrimitive, Drop}
use Rattle.lower_model.proofs.Arrays.{array_named}
use Rattle.agreement.proofs.TypedLemmas.Singles.{Stack, Labels, Exit, inner, nearest, variable, Writes, reads_local, writes_local, reads_global, writes_global, called, takes, get, put, tee, read, write, word, long, compare, convert, leave, looped, branched}
use Rattle.agreement.proofs.TypedLemmas.Standing.{Stands, kind_below}
use Rattle.agreement.proofs.TypedLemmas.Pieces.{moved_out_ok, copied_ok, number_is_ok, kept_code_ok, boxed_number_ok, boxed_perhaps_ok}

module _ {p : Program} {ks : List Kind} {b : Bases} {C : Context} (at : Stands p ks b C) where
  array_there : (i : ℕ) → nat_lt (suc (suc i)) (suc (suc (arrays_among p.globals))) ≡ true →
      slice_get C.globals (handle_global p.ranges (array_name (kinds_of p.globals) i)) ≡ Some (variable I32)
  array_there i h =
      let l = ltb-true (suc (suc i)) (suc (suc (arrays_among p.globals))) h in
      at.name_handle (array_name (kinds_of p.globals) i) (array_named p.globals i (omega (arith, l))).there

  module _ {L : Labels} {k : Instructions} {ps rs : Stack} where
    pub array_pushed_ok : (a : ArrayName) → is_array_place (context_of p ks) a ≡ true → CodeOk C L k (I32 ∷ ps) rs →
        CodeOk C L (array_pushed (layout_of p b) a k) ps rs
    array_pushed_ok (Numbered zero) h r = word r
    array_pushed_ok (Numbered (suc zero)) h r = word r
    array_pushed_ok (Numbered (suc (suc i))) h r = read (array_there i h) r
    array_pushed_ok (Given i) h r = get (at.parameter i ArrayKind h) r

    unboxed_read_ok : (i : ℕ) {t : ℕ} → i < length (kinds_of p.globals) → t < b.temporaries → CodeOk C L k ps rs →
        CodeOk C L (unboxed_read (layout_of p b) i t k) ps rs
    unboxed_read_ok i {t = t} l lt r =
        let g = at.name_handle i l in
        read (at.name_number i l) (tee (at.number t lt) (long (compare (branched (copied_ok at (reads_global g) (writes_global g) (at.handle t lt) done) done r))))

  module _ {L : Labels} {k : Instructions} {ps rs : Stack} where
    -- what lends is read where a parameter has nothing
    parameter_read_ok : (o : Option ℕ) (i : ℕ) {t : ℕ} → lender_at p.lenders i ≡ o → has_kind ks i Unboxed ≡ true → t < b.temporaries → CodeOk C L k ps rs →
        CodeOk C L (parameter_read (layout_of p b) o i t k) ps rs
    parameter_read_ok None i {t = t} e h lt r = get (at.parameter i Unboxed h) (put (at.number t lt) r)
    parameter_read_ok (Some g) i {t = t} e h lt r =
        get (at.parameter i Unboxed h) (tee (at.number t lt) (long (compare (branched (unboxed_read_ok g (at.lender i g e) lt done) done r))))

    pub slot_read_ok : (x : Slot) {t : ℕ} → is_slot (context_of p ks) x ≡ true → t < b.temporaries → CodeOk C L k ps rs →
        CodeOk C L (slot_read (layout_of p b) x t k) ps rs
    slot_read_ok (Global false i) {t = t} h lt r =
        let g = at.name_handle i (kind_below (kinds_of p.globals) i Boxed h) in
        copied_ok at (reads_global g) (writes_global g) (at.handle t lt) r
    slot_read_ok (Global true i) h lt r = unboxed_read_ok i (kind_below (kinds_of p.globals) i Unboxed h) lt r
    slot_read_ok (Parameter false i) {t = t} h lt r =
        let g = at.parameter i Boxed h in
        copied_ok at (reads_local g) (writes_local g) (at.handle t lt) r
    slot_read_ok (Parameter true i) h lt r = parameter_read_ok (lender_at p.lenders i) i refl h lt r

    handle_stored_ok : (o : Bool) {t : ℕ} {set_it : Simple} → t < b.temporaries → Writes C set_it I32 → CodeOk C L k ps rs →
        CodeOk C L (handle_stored (layout_of p b) o t set_it k) ps rs
    handle_stored_ok true {t = t} lt s r = moved_out_ok at (at.handle t lt) (takes s r)
    handle_stored_ok false {t = t} lt s r = get (at.handle t lt) (tee (at.handle t lt) (called ps (at.imported (OfPrimitive row.Dup)) (takes s r)))

    pub text_dropped_ok : {i : ℕ} → i < length (kinds_of p.globals) → CodeOk C L k ps rs → CodeOk C L (text_dropped (layout_of p b) i k) ps rs
    text_dropped_ok {i = i} li r =
        read (at.name_number i li) (long (compare (branched (read (at.name_handle i li) (called [] (at.imported Drop) (word (write (at.name_handle i li) done)))) done r)))

  module _ {L : Labels} {k : Instructions} {ps rs : Stack} where
    value_stored_ok : (o : Bool) (f : Form) {t : ℕ} {set_it : Simple} → t < b.temporaries → Writes C set_it I32 → CodeOk C L k ps rs →
        CodeOk C L (value_stored (layout_of p b) o f t set_it k) ps rs
    value_stored_ok o (PrimitiveAnswer (answer.Of sort.Value)) lt s r = handle_stored_ok o lt s r
    value_stored_ok o (PrimitiveAnswer (answer.Of sort.Number)) lt s r = boxed_number_ok at lt (takes s r)
    value_stored_ok o (PrimitiveAnswer answer.Truth) lt s r = boxed_number_ok at lt (takes s r)
    value_stored_ok o NumberOrText {t = t} lt s r =
        number_is_ok at (at.number t lt)
        (branched (handle_stored_ok o lt s done) (boxed_perhaps_ok at lt s done) r)
    value_stored_ok o OptionalNumber lt s r = boxed_perhaps_ok at lt s r
    value_stored_ok o f lt s r = called ps (at.imported (OfPrimitive row.Uninit)) (takes s r)

  module _ {L : Labels} {k : Instructions} {ps rs : Stack} where
    text_stored_ok : (o : Bool) (f : Form) {t i : ℕ} → t < b.temporaries → i < length (kinds_of p.globals) → CodeOk C L k ps rs →
        CodeOk C L (text_stored (layout_of p b) o i f t k) ps rs
    text_stored_ok o (PrimitiveAnswer a) lt li r = r
    text_stored_ok o NumberOrText {t = t} {i = i} lt li r =
        number_is_ok at (at.number t lt) (branched (handle_stored_ok o lt (writes_global (at.name_handle i li)) done) done r)
    text_stored_ok o OptionalNumber lt li r = r

  module _ {L : Labels} {k : Instructions} {ps rs : Stack} where
    pub slot_set_ok : (o : Bool) (x : Slot) (f : Form) {t : ℕ} → is_slot (context_of p ks) x ≡ true → t < b.temporaries → CodeOk C L k ps rs →
        CodeOk C L (slot_set (layout_of p b) o x f t k) ps rs
    slot_set_ok o (Global false i) f h lt r =
        let g = at.name_handle i (kind_below (kinds_of p.globals) i Boxed h) in
        read g (called ps (at.imported Drop) (value_stored_ok o f lt (writes_global g) r))
    slot_set_ok o (Global true i) f {t = t} h lt r =
        let l = kind_below (kinds_of p.globals) i Unboxed h in
        text_dropped_ok l (text_stored_ok o f lt l (get (at.number t lt) (write (at.name_number i l) r)))
    slot_set_ok o (Parameter false i) f h lt r =
        let g = at.parameter i Boxed h in
        get g (called ps (at.imported Drop) (value_stored_ok o f lt (writes_local g) r))
    slot_set_ok o (Parameter true i) f {t = t} h lt r = get (at.number t lt) (put (at.parameter i Unboxed h) r)

    -- Assignments of the command line.

    assigned_ok : (kind : Kind) {i t : ℕ} → i < length (kinds_of p.globals) → suc t < b.temporaries → CodeOk C L k ps rs →
        CodeOk C L (assigned (layout_of p b) kind i t k) ps rs
    assigned_ok Boxed {i = i} {t = t} li lt r =
        let g = at.name_handle i li in
        read g (called ps (at.imported Drop) (moved_out_ok at (at.handle t (omega (arith, lt))) (write g r)))
    assigned_ok Unboxed {i = i} {t = t} li lt r =
        text_dropped_ok li (moved_out_ok at (at.handle t (omega (arith, lt))) (write (at.name_handle i li) (long (write (at.name_number i li) r))))
    assigned_ok ArrayKind li lt r = r

  module _ {L : Labels} {k : Instructions} {ps rs : Stack} where
    assigned_by_number_ok : (kinds : List Kind) (i : ℕ) {t : ℕ} → i + length kinds ≤ length (kinds_of p.globals) → suc t < b.temporaries →
        CodeOk C L k ps rs →
        CodeOk C L (assigned_by_number (layout_of p b) kinds i t k) ps rs
    assigned_by_number_ok [] i li lt r = r
    assigned_by_number_ok (ArrayKind ∷ kinds) i li lt r = assigned_by_number_ok kinds (suc i) (omega (arith, li)) lt r
    assigned_by_number_ok (kind ∷ kinds) i {t = t} li lt r =
        number_is_ok at (at.number t (omega (arith, lt)))
        (branched (assigned_ok kind {i = i} (omega (arith, li)) lt done) done (assigned_by_number_ok kinds (suc i) (omega (arith, li)) lt r))

  module _ {L : Labels} {k : Instructions} {ps rs : Stack} where
    pub pending_assigned_ok : {t : ℕ} → suc t < b.temporaries → CodeOk C L k ps rs → CodeOk C L (pending_assigned (layout_of p b) t k) ps rs
    pending_assigned_ok {t = t} lt r =
        called ps (at.imported (OfPrimitive row.PendingName)) (convert (put (at.number t (omega (arith, lt)))
        (called ps (at.imported (OfPrimitive row.PendingValue)) (put (at.handle t (omega (arith, lt)))
        (assigned_by_number_ok (kinds_of p.globals) 0 (omega arith) lt r)))))

  module _ {L : Labels} {k : Instructions} {ps rs : Stack} where
    -- an import without arguments is asked, which answers a code
    pub asked_ok : (q : Primitive) {t d : ℕ} → C.callee (primitive_number q) ≡ Some (record { params = []; result = Some I32 }) →
        suc t < b.temporaries → Exit L d → CodeOk C L k ps rs →
        CodeOk C L (asked (layout_of p b) q t d k) ps rs
    asked_ok q {t = t} c lt e r =
        let le : t < b.temporaries = omega (arith, lt) in
        looped
        (called [] c (kept_code_ok at true le (inner e)
        (number_is_ok at (at.number t le) (branched (pending_assigned_ok lt (leave (inner nearest) done)) done done))))
        r
