-- The code of mid code is typed before whatever follows it, on whatever stack.
use Rattle.std.proofs.Common.{◌≡◌, ℕ, zero, suc, ◌+◌, ◌<◌, ◌≤◌, Bool, true, false, not, List, [], ◌∷◌, length, Option, Some, None, ℤ, arith}
use Rattle.std.specs.Prelude.{◌&&◌, get_or, nat_lt}
use Rattle.std.proofs.lemmas.Bool.{and_parts, ltb-true}
use Rattle.awk_values.specs.declared.comparison.CompareOp.{CompareOp}
use Rattle.sem_primitives.specs.Table.{arguments_of, answer_of, can_fault}
use Rattle.sem_primitives.specs.declared.sorts.Sort.TheVariants as sort
use Rattle.sem_primitives.specs.declared.table.Primitive.TheVariants as row
use Rattle.wasm_types.specs.Syntax.{Instructions}
use Rattle.wasm_types.specs.declared.types.ValType.TheVariants.{I32}
use Rattle.wasm_types.specs.Typing.{Context, CodeOk, done}
use Rattle.mid_program.specs.declared.mid.Operation.{Operation}
use Rattle.mid_program.specs.declared.mid.Operation.TheVariants.{Host, Inline, AsNumber, FieldNumber}
use Rattle.mid_program.specs.MidMeaning.{three_values}
use Rattle.mid_program.specs.Mid.{Kind, Program, Code, Do, Over, Compare, Call, Ask, AskLine, FileLine, Replace, Number, Text, Unset, Get, Set, Array, IsOpen, Choose, Seq, Let, Bound, Codes, End, At, Fixed, Fresh, Form, a_value, form_of, form_at, arguments, parameters_at, source_of}
use Rattle.mid_program.specs.Sorted.{context_of, calls_of, fits, fit_row, fit_call, has_lender, lender_at, all_values, are_enough, count_of, is_slot, takes, is_chosen, is_tested, is_dropped, is_kept, is_done_here, keeps_well, stores_well, are_missing, sorted, all_sorted}
use Rattle.lower_model.specs.Arithmetic.{is_value}
use Rattle.lower_model.specs.Emission.{Immediate, FieldOf, TextOf, NumberOf, immediate_in, immediate_pushed, immediate_or, emitted, all_emitted, performed, field_in, field_or, left_over, sequence_closed, keeping_closed, bound_read, text_let_go}
use Rattle.lower_model.specs.Functions.{layout_of}
use Rattle.lower_model.specs.Places.{Bases, room, rooms, arrays_in, arrays_among, made_in}
use Rattle.host_imports.specs.declared.import.Import.TheVariants.{OfPrimitive, Drop}
use Rattle.lower_model.proofs.HostCalls.{operation_plain}
use Rattle.agreement.proofs.TypedLemmas.Singles.{Stack, Labels, Exit, inner, called, get, put, read, word, long, test, convert, branched}
use Rattle.agreement.proofs.TypedLemmas.Standing.{Stands}
use Rattle.agreement.proofs.TypedLemmas.Pieces.{moved_out_ok, let_go_ok, number_is_ok, kept_code_ok, answer_kept_ok, kept_number_ok, kept_ok, to_value_ok, code_number_ok, converted_ok, truth_ok, unused_ok, released_ok, moved_from_ok, bound_from_ok, calculated_ok, field_checked_ok, compared_ok}
use Rattle.agreement.proofs.TypedLemmas.Sources.{added_or_ok}
use Rattle.agreement.proofs.TypedLemmas.Slots.{slot_read_ok, slot_set_ok, asked_ok}
use Rattle.agreement.proofs.TypedLemmas.Operands.{room_there, made_among, all_converted_ok, all_pushed_ok, all_boxed_ok, all_appended_ok, listed_asked_ok, all_given_ok, all_given_pushed_ok, all_freed_ok}

-- the temporaries in which something is kept are there
abbrev pub AreBelow : List ℕ → ℕ → Type 0
AreBelow ts n = (i : ℕ) → get_or ts i zero < n

pub one_more_below : (t n : ℕ) (ts : List ℕ) → t < n → AreBelow ts n → AreBelow (t ∷ ts) n
one_more_below t n ts lt f zero = lt
one_more_below t n ts lt f (suc i) = f i

pub none_below : (n : ℕ) → 0 < n → AreBelow [] n
none_below n lt i = lt

operands_room : (o : Operation) (es : Codes) (t n : ℕ) → t + room (Do o es) ≤ n → t + rooms es ≤ n
operands_room (Inline a) es t n h = omega (arith, h)
operands_room o es t n h = omega (arith, h)

module _ {p : Program} {ks : List Kind} {b : Bases} {C : Context} (at : Stands p ks b C) where
  module _ {L : Labels} {k : Instructions} {ps rs : Stack} where
    performed_ok : {d : ℕ} (o : Operation) (fs : List Form) (es : Codes) (t : ℕ) → is_done_here o ≡ true → fit_row fs (arguments o) es ≡ true →
        all_sorted (context_of p ks) fs es ≡ true →
        t + room (Do o es) ≤ b.temporaries → Exit L d → CodeOk C L k ps rs → CodeOk C L (performed (layout_of p b) o es t d k) ps rs
    performed_ok (Host q) fs es t i f s h x r =
        all_pushed_ok at fs (arguments_of q) es t ps f s (operands_room (Host q) es t b.temporaries h)
        (called ps (at.imported (OfPrimitive q)) (kept_ok at (can_fault q) (answer_of q) ps (operation_plain q i) (omega (arith, h)) x r))
    performed_ok (Inline a) fs es t i f s h x r = calculated_ok at x a t (omega (arith, h)) r
    performed_ok AsNumber fs es t i f s h x r = r
    performed_ok FieldNumber fs es t i f s h x r = field_checked_ok at x (omega (arith, h)) r

    pub left_over_ok : (e : Code) (f : Form) {t : ℕ} → t < b.temporaries → CodeOk C L k ps rs → CodeOk C L (left_over (layout_of p b) e f t k) ps rs
    left_over_ok (Set x e) f lt r = r
    left_over_ok (Seq e c) f lt r = r
    left_over_ok (Let e c) f lt r = r
    left_over_ok (Bound m i) f lt r = r
    left_over_ok e f lt r = unused_ok at f lt r

    field_or_ok : {other : Instructions} {t : ℕ} (o : Option ℤ) → t < b.temporaries → CodeOk C L k ps rs → CodeOk C L other ps rs → CodeOk C L (field_or (layout_of p b) o t k other) ps rs
    field_or_ok {t = t} (Some z) lt r q = long (called ps (at.imported (OfPrimitive row.Field)) (put (at.handle t lt) r))
    field_or_ok None lt r q = q

    immediate_pushed_ok : (i : Immediate) → CodeOk C L k (I32 ∷ ps) rs → CodeOk C L (immediate_pushed (layout_of p b) i k) ps rs
    immediate_pushed_ok (FieldOf z) r = long (called ps (at.imported (OfPrimitive row.Field)) r)
    immediate_pushed_ok (TextOf i) r = word (word (called ps (at.imported (OfPrimitive row.Lit)) r))
    immediate_pushed_ok (NumberOf z) r = long (called ps (at.imported (OfPrimitive row.Num)) r)

    bound_read_ok : {s t : ℕ} (v m : Bool) (f : Form) → s < b.temporaries → t < b.temporaries → CodeOk C L k ps rs → CodeOk C L (bound_read (layout_of p b) v m f s t k) ps rs
    bound_read_ok true m f ls lt r = r
    bound_read_ok false m f ls lt r = bound_from_ok at m f ls lt r

  module _ {L : Labels} {k : Instructions} {ps rs : Stack} where
    immediate_or_ok : {other : Instructions} {d t : ℕ} (c : CompareOp) (f : Form) (o : Option Immediate) → t < b.temporaries → Exit L d → CodeOk C L k ps rs → CodeOk C L other ps rs →
        CodeOk C L (immediate_or (layout_of p b) c f o t d k other) ps rs
    immediate_or_ok {t = t} c f (Some i) lt x r q =
        to_value_ok at f lt (word (moved_out_ok at (at.handle t lt) (immediate_pushed_ok i (called ps (at.imported (OfPrimitive row.Compare)) (kept_code_ok at true lt x r)))))
    immediate_or_ok c f None lt x r q = q

    sequence_closed_ok : (v : Bool) (e : Code) (f : Form) {t : ℕ} → t < b.temporaries → CodeOk C L k ps rs → CodeOk C L (sequence_closed (layout_of p b) v e f t k) ps rs
    sequence_closed_ok true e f lt r = left_over_ok e f lt r
    sequence_closed_ok false e f lt r = r

    keeping_closed_ok : (v : Bool) (e : Code) (g f : Form) {t : ℕ} → suc t < b.temporaries → CodeOk C L k ps rs → CodeOk C L (keeping_closed (layout_of p b) v e g f t k) ps rs
    keeping_closed_ok true e g f lt r = left_over_ok e f lt (released_ok at g (omega (arith, lt)) r)
    keeping_closed_ok false e g f lt r = released_ok at g (omega (arith, lt)) (moved_from_ok at f lt (omega (arith, lt)) r)

  module _ {L : Labels} {k : Instructions} {ps rs : Stack} where
    text_let_go_ok : (fs : List Form) (s : Code) {t : ℕ} → suc (suc t) < b.temporaries → CodeOk C L k ps rs →
        CodeOk C L (text_let_go (layout_of p b) fs s t k) ps rs
    text_let_go_ok fs s {t = t} lt r =
        left_over_ok s (form_of (a_value ∷ fs) s) lt
        (let_go_ok at Drop (at.imported Drop) (at.handle (suc t) (omega (arith, lt))) r)

  mutual
    unfolding emitted all_emitted sorted all_sorted

    pub code_ok : {L : Labels} {k : Instructions} {ps rs : Stack} (v : Bool) (fs : List Form) (ts : List ℕ) (e : Code) (t w d : ℕ) →
        AreBelow ts b.temporaries →
        sorted (context_of p ks) fs e ≡ true → t + room e ≤ b.temporaries → w + arrays_in e ≤ b.arrays → Exit L d → CodeOk C L k ps rs →
        CodeOk C L (emitted (layout_of p b) v fs ts e t w d k) ps rs
    code_ok v fs ts (Do o es) t w d q s h g x r =
        let s1 = and_parts (is_done_here o) (fit_row fs (arguments o) es && all_sorted (context_of p ks) fs es) s in
        let s2 = and_parts (fit_row fs (arguments o) es) (all_sorted (context_of p ks) fs es) s1.1 in
        let hs = operands_room o es t b.temporaries h in
        let one = room_there (Do o es) in
        field_or_ok (field_in o es) (omega (arith, h, one)) r (added_or_ok at fs o es s (omega (arith, h, one))
        (codes_ok fs ts es t w (suc d) q s2.1 hs g (inner x) (all_converted_ok at fs (arguments o) es t hs (inner x) (performed_ok o fs es t s1.0 s2.0 s2.1 h (inner x) done))) r
        (codes_ok fs ts es t w d q s2.1 hs g x (all_converted_ok at fs (arguments o) es t hs x (performed_ok o fs es t s1.0 s2.0 s2.1 h x r))))
    code_ok v fs ts (Over l es) t w d q s h g x r =
        let s1 = and_parts (are_enough l es) (all_values fs es && all_sorted (context_of p ks) fs es) s in
        let s2 = and_parts (all_values fs es) (all_sorted (context_of p ks) fs es) s1.1 in
        let hs : t + rooms es ≤ b.temporaries = omega (arith, h) in
        codes_ok fs ts es t w d q s2.1 hs g x (all_boxed_ok at fs es t hs
        (all_appended_ok at es t hs (listed_asked_ok at l (count_of es) t (omega (arith, h)) x r)))
    code_ok v fs ts (Compare c e f) t w d q s h g x r =
        let a = sorted (context_of p ks) fs e in
        let z = sorted (context_of p ks) fs f in
        let s1 = and_parts (fits (form_of fs e) sort.Value) (fits (form_of fs f) sort.Value && (a && z)) s in
        let s2 = and_parts a z (and_parts (fits (form_of fs f) sort.Value) (a && z) s1.1).1 in
        let hf = room_there f in
        code_ok false fs ts e t w d q s2.0 (omega (arith, h)) (omega (arith, g)) x
        (immediate_or_ok c (form_of fs e) (immediate_in (is_value (form_of fs e)) f) (omega (arith, h, hf)) x r
        (code_ok false fs ts f (suc t) w d q s2.1 (omega (arith, h)) (omega (arith, g)) x
        (compared_ok at x c (form_of fs e) (form_of fs f) (omega (arith, h, hf)) r)))
    code_ok {ps = ps} v fs ts (Call f es) t w d q s h g x r =
        let js = parameters_at (calls_of p) f in
        let lender = lender_at p.lenders in
        let s1 = and_parts (nat_lt f (length (calls_of p))) (fit_call lender fs js es && all_sorted (context_of p ks) fs es) s in
        let s2 = and_parts (fit_call lender fs js es) (all_sorted (context_of p ks) fs es) s1.1 in
        let hs : t + rooms es ≤ b.temporaries = omega (arith, h) in
        let m = made_among es in
        let gs : w + made_in es ≤ b.arrays = omega (arith, g, m) in
        codes_ok fs ts es t w d q s2.1 hs g x
        (all_given_ok at fs js es t hs
        (all_given_pushed_ok at lender fs js es t w ps s2.0 s2.1 hs gs
        (called ps (at.routine f (ltb-true f (length (calls_of p)) s1.0))
        (answer_kept_ok at (omega (arith, h)) x (all_freed_ok at w (made_in es) gs r)))))
    code_ok v fs ts Ask t w d q s h g x r =
        asked_ok at row.Getline (at.imported (OfPrimitive row.Getline)) (omega (arith, h)) x
        (code_number_ok at (omega (arith, h)) r)
    code_ok v fs ts (AskLine e) t w d q s h g x r =
        let s0 = and_parts (not (has_lender p.lenders)) (stores_well fs e && sorted (context_of p ks) (a_value ∷ fs) e) s in
        let s1 = and_parts (stores_well fs e) (sorted (context_of p ks) (a_value ∷ fs) e) s0.1 in
        let he = room_there e in
        asked_ok at row.GetlineVar (at.imported (OfPrimitive row.GetlineVar)) (omega (arith, h)) x
        (number_is_ok at (at.number t (omega (arith, h))) (branched
        (called [] (at.imported (OfPrimitive row.Line)) (put (at.handle (suc t) (omega (arith, h)))
        (code_ok true (a_value ∷ fs) (suc t ∷ ts) e (suc (suc t)) w (suc d) (one_more_below (suc t) b.temporaries ts (omega (arith, h)) q) s1.1
        (omega (arith, h)) (omega (arith, g)) (inner x)
        (text_let_go_ok fs e (omega (arith, h, he)) done))))
        done (code_number_ok at (omega (arith, h)) r)))
    code_ok {ps = ps} v fs ts (FileLine f e) t w d q s h g x r =
        let a = sorted (context_of p ks) fs f in
        let z = sorted (context_of p ks) (a_value ∷ fs) e in
        let s1 = and_parts a (stores_well fs e && z) (and_parts (fits (form_of fs f) sort.Value) (a && (stores_well fs e && z)) s).1 in
        let s2 = and_parts (stores_well fs e) z s1.1 in
        let he = room_there e in
        code_ok false fs ts f t w d q s1.0 (omega (arith, h)) (omega (arith, g)) x
        (to_value_ok at (form_of fs f) (omega (arith, h)) (moved_out_ok at (at.handle t (omega (arith, h)))
        (called ps (at.imported (OfPrimitive row.GetlineVarFile)) (kept_code_ok at true (omega (arith, h)) x
        (number_is_ok at (at.number t (omega (arith, h))) (branched
        (called [] (at.imported (OfPrimitive row.Line)) (put (at.handle (suc t) (omega (arith, h)))
        (code_ok true (a_value ∷ fs) (suc t ∷ ts) e (suc (suc t)) w (suc d) (one_more_below (suc t) b.temporaries ts (omega (arith, h)) q) s2.1
        (omega (arith, h)) (omega (arith, g)) (inner x)
        (text_let_go_ok fs e (omega (arith, h, he)) done))))
        done (code_number_ok at (omega (arith, h)) r)))))))
    code_ok {ps = ps} v fs ts (Replace all es e) t w d q s h g x r =
        let a = all_sorted (context_of p ks) fs es in
        let z = sorted (context_of p ks) (a_value ∷ fs) e in
        let s1 = and_parts (fit_row fs three_values es) (a && (stores_well fs e && z)) s in
        let s2 = and_parts a (stores_well fs e && z) s1.1 in
        let s3 = and_parts (stores_well fs e) z s2.1 in
        let he = room_there e in
        let hs : t + rooms es ≤ b.temporaries = omega (arith, h) in
        codes_ok fs ts es t w d q s2.0 hs (omega (arith, g)) x
        (all_converted_ok at fs three_values es t hs x
        (all_pushed_ok at fs three_values es t ps s1.0 s2.0 hs
        (word (called ps (at.imported (OfPrimitive row.Sub)) (kept_number_ok at true (omega (arith, h)) x
        (get (at.number t (omega (arith, h))) (test (branched done
        (called [] (at.imported (OfPrimitive row.SubResult)) (put (at.handle (suc t) (omega (arith, h)))
        (code_ok true (a_value ∷ fs) (suc t ∷ ts) e (suc (suc t)) w (suc d) (one_more_below (suc t) b.temporaries ts (omega (arith, h)) q) s3.1
        (omega (arith, h)) (omega (arith, g)) (inner x)
        (text_let_go_ok fs e (omega (arith, h, he)) done))))
        r))))))))
    code_ok v fs ts (Number z) t w d q s h g x r = long (put (at.number t (omega (arith, h))) r)
    code_ok {ps = ps} v fs ts (Text i) t w d q s h g x r = word (word (called ps (at.imported (OfPrimitive row.Lit)) (put (at.handle t (omega (arith, h))) r)))
    code_ok v fs ts Unset t w d q s h g x r = long (put (at.number t (omega (arith, h))) r)
    code_ok v fs ts (Get z) t w d q s h g x r = slot_read_ok at z s (omega (arith, h)) r
    code_ok v fs ts (Set z e) t w d q s h g x r =
        let s1 = and_parts (is_slot (context_of p ks) z) (takes (context_of p ks) z (source_of e) (form_of fs e) && sorted (context_of p ks) fs e) s in
        let s2 = and_parts (takes (context_of p ks) z (source_of e) (form_of fs e)) (sorted (context_of p ks) fs e) s1.1 in
        let he = room_there e in
        code_ok false fs ts e t w d q s2.1 h g x (slot_set_ok at v z (form_of fs e) s1.0 (omega (arith, h, he)) r)
    code_ok v fs ts (Array a) t w d q s h g x r = r
    code_ok v fs ts (IsOpen i) t w d q s h g x r = read (at.range i (ltb-true i p.ranges s)) (convert (put (at.number t (omega (arith, h))) r))
    code_ok v fs ts (Choose o c e f) t w d q s h g x r =
        let a = sorted (context_of p ks) fs c in
        let y = sorted (context_of p ks) fs e in
        let z = sorted (context_of p ks) fs f in
        let s1 = and_parts (is_tested (form_of fs c)) (fits (form_of fs e) o && (fits (form_of fs f) o && (a && (y && z))))
        (and_parts (is_chosen o) (is_tested (form_of fs c) && (fits (form_of fs e) o && (fits (form_of fs f) o && (a && (y && z))))) s).1 in
        let s2 = and_parts (fits (form_of fs f) o) (a && (y && z))
        (and_parts (fits (form_of fs e) o) (fits (form_of fs f) o && (a && (y && z))) s1.1).1 in
        let s3 = and_parts a (y && z) s2.1 in
        let s4 = and_parts y z s3.1 in
        let hc = room_there c in
        code_ok false fs ts c t w d q s3.0 (omega (arith, h)) (omega (arith, g)) x
        (truth_ok at (form_of fs c) (omega (arith, h, hc)) (branched
        (code_ok false fs ts e t w (suc d) q s4.0 (omega (arith, h)) (omega (arith, g)) (inner x)
        (converted_ok at (form_of fs e) o (omega (arith, h, hc)) (inner x) done))
        (code_ok false fs ts f t w (suc d) q s4.1 (omega (arith, h)) (omega (arith, g)) (inner x)
        (converted_ok at (form_of fs f) o (omega (arith, h, hc)) (inner x) done))
        r))
    code_ok v fs ts (Seq e f) t w d q s h g x r =
        let a = sorted (context_of p ks) fs e in
        let z = sorted (context_of p ks) fs f in
        let s1 = and_parts a z (and_parts (is_dropped (form_of fs e)) (a && z) s).1 in
        let he = room_there e in
        code_ok true fs ts e t w d q s1.0 (omega (arith, h)) (omega (arith, g)) x
        (left_over_ok e (form_of fs e) (omega (arith, h, he))
        (code_ok v fs ts f t w d q s1.1 (omega (arith, h)) (omega (arith, g)) x (sequence_closed_ok v f (form_of fs f) (omega (arith, h, he)) r)))
    code_ok v fs ts (Let e f) t w d q s h g x r =
        let o = form_of fs e in
        let a = sorted (context_of p ks) fs e in
        let z = sorted (context_of p ks) (o ∷ fs) f in
        let s1 = and_parts a z (and_parts (keeps_well f) (a && z) (and_parts (is_kept o) (keeps_well f && (a && z)) s).1).1 in
        let he = room_there e in
        let hf = room_there f in
        code_ok false fs ts e t w d q s1.0 (omega (arith, h)) (omega (arith, g)) x
        (code_ok v (o ∷ fs) (t ∷ ts) f (suc t) w d (one_more_below t b.temporaries ts (omega (arith, h, he)) q) s1.1 (omega (arith, h))
        (omega (arith, g)) x
        (keeping_closed_ok v f o (form_of (o ∷ fs) f) (omega (arith, h, hf)) r))
    code_ok v fs ts (Bound m i) t w d q s h g x r = bound_read_ok v m (form_at fs i) (q i) (omega (arith, h)) r

    codes_ok : {L : Labels} {k : Instructions} {ps rs : Stack} (fs : List Form) (ts : List ℕ) (es : Codes) (t w d : ℕ) →
        AreBelow ts b.temporaries →
        all_sorted (context_of p ks) fs es ≡ true → t + rooms es ≤ b.temporaries → w + arrays_among es ≤ b.arrays → Exit L d → CodeOk C L k ps rs →
        CodeOk C L (all_emitted (layout_of p b) fs ts es t w d k) ps rs
    codes_ok fs ts End t w d q s h g x r = r
    codes_ok fs ts (At e es) t w d q s h g x r =
        let s1 = and_parts (sorted (context_of p ks) fs e) (all_sorted (context_of p ks) fs es) s in
        code_ok false fs ts e t w d q s1.0 (omega (arith, h)) (omega (arith, g)) x
        (codes_ok fs ts es (suc t) w d q s1.1 (omega (arith, h)) (omega (arith, g)) x r)
    codes_ok fs ts (Fixed m es) t w d q s h g x r = codes_ok fs ts es t w d q s h g x r
    codes_ok {ps = ps} fs ts (Fresh es) t w d q s h g x r =
        called ps (at.imported (OfPrimitive row.NewArray)) (put (at.array w (omega (arith, g))) (codes_ok fs ts es t (suc w) d q (and_parts (are_missing es) (all_sorted (context_of p ks) fs es) s).1 h (omega (arith, g)) x r))
