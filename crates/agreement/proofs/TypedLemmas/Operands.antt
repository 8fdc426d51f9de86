-- Operands: converted, and pushed for an import or a function.
use Rattle.std.proofs.Common.{◌≡◌, ℕ, zero, suc, ◌+◌, ◌<◌, ◌≤◌, true, List, [], ◌∷◌, ◌++◌, Option, ap, ◌∙◌, subst, arith, append_assoc}
use Rattle.std.specs.Prelude.{reverse, ◌&&◌, map}
use Rattle.std.proofs.lemmas.Bool.{and_parts, lt-ltb}
use Rattle.std.proofs.lemmas.List.{reverse-append}
use Rattle.sem_primitives.specs.declared.sorts.Sort.{Sort}
use Rattle.sem_primitives.specs.declared.sorts.Sort.TheVariants as sort
use Rattle.sem_primitives.specs.declared.sorts.Argument.{Argument}
use Rattle.sem_primitives.specs.declared.sorts.Argument.TheVariants as argument
use Rattle.sem_primitives.specs.declared.sorts.Answer.TheVariants as answer
use Rattle.sem_primitives.specs.declared.table.Listed.{Listed}
use Rattle.sem_primitives.specs.declared.table.Listed.TheVariants as listed
use Rattle.wasm_types.specs.Syntax.{Instructions}
use Rattle.wasm_types.specs.Typing.{Context, CodeOk, done}
use Rattle.wasm_types.specs.declared.types.ValType.TheVariants.{I32}
use Rattle.mid_program.specs.declared.mid.Operation.TheVariants.{Inline}
use Rattle.mid_program.specs.Mid.{Kind, Boxed, Unboxed, ArrayKind, Program, Code, Do, Over, Compare, Call, Ask, AskLine, FileLine, Replace, Number, Text, Unset, Get, Set, Array, IsOpen, Choose, Seq, Let, Bound, Codes, End, At, Fixed, Fresh, Form, PrimitiveAnswer, NumberOrText, form_of, source_of}
use Rattle.mid_program.specs.Sorted.{context_of, is_array_place, fits, fit_row, is_given, fit_call, is_constant, is_kept, keeps_well, are_missing, sorted, all_sorted, arrays_among as count_arrays}
use Rattle.lower_model.specs.Emission.{array_meant, all_converted, one_pushed, all_pushed, all_boxed, all_appended, listed_asked, lent, all_given, one_given, all_given_pushed, all_freed}
use Rattle.lower_model.specs.Functions.{layout_of}
use Rattle.host_imports.specs.Imports.{params_of, words_of}
use Rattle.lower_model.specs.Places.{Bases, room, rooms, kind_type, arrays_among, made_in}
use Rattle.host_imports.specs.declared.import.VariadicImport.TheVariants as listing
use Rattle.host_imports.specs.declared.import.Import.TheVariants.{Variadic as OverLast, Arg, Drop, FreeArray}
use Rattle.lower_model.proofs.Simulation.{operator_room}
use Rattle.agreement.proofs.TypedLemmas.Singles.{Stack, Labels, Exit, called, get, put, tee, long, word, branched}
use Rattle.agreement.proofs.TypedLemmas.Standing.{Stands}
use Rattle.agreement.proofs.TypedLemmas.Pieces.{moved_out_ok, number_is_ok, kept_value_ok, kept_done_ok, to_value_ok, converted_ok}
use Rattle.agreement.proofs.TypedLemmas.Slots.{array_pushed_ok}

-- all code needs a temporary
pub room_there : (e : Code) → 1 ≤ room e
room_there (Do (Inline a) es) = let h = operator_room a in omega (arith, h)
room_there (Do o es) = omega arith
room_there (Over l es) = omega arith
room_there (Compare c a b) = let h = room_there a in omega (arith, h)
room_there (Call f es) = omega arith
room_there Ask = omega arith
room_there (AskLine s) = omega arith
room_there (FileLine e s) = omega arith
room_there (Replace all es s) = omega arith
room_there (Number z) = omega arith
room_there (Text i) = omega arith
room_there Unset = omega arith
room_there (Get x) = omega arith
room_there (Set x e) = room_there e
room_there (Array a) = omega arith
room_there (IsOpen i) = omega arith
room_there (Choose s c a b) = let h = room_there c in omega (arith, h)
room_there (Seq a b) = let h = room_there a in omega (arith, h)
room_there (Let a b) = omega arith
room_there (Bound m i) = omega arith

first_room : (e : Code) (es : Codes) (t n : ℕ) → t + rooms (At e es) ≤ n → t < n
first_room e es t n h = let r = room_there e in omega (arith, r, h)

rest_room : (e : Code) (es : Codes) (t n : ℕ) → t + rooms (At e es) ≤ n → suc t + rooms es ≤ n
rest_room e es t n h = omega (arith, h)

-- what was pushed first lies lowest
pushed_on : (us ws ps : Stack) → reverse (us ++ ws) ++ ps ≡ reverse ws ++ (reverse us ++ ps)
pushed_on us ws ps = ap (λ r. r ++ ps) (reverse-append us ws) ∙ append_assoc (reverse ws) (reverse us) ps

no_iterator : (f : Form) → fits f sort.Iterator ≡ true → ⊥
no_iterator (PrimitiveAnswer (answer.Of sort.Value)) e = cc
no_iterator NumberOrText e = cc
no_iterator f e = cc

pub made_among : (es : Codes) → made_in es ≤ arrays_among es
made_among End = omega arith
made_among (At e es) = let h = made_among es in omega (arith, h)
made_among (Fixed m es) = made_among es
made_among (Fresh es) = let h = made_among es in omega (arith, h)

module _ (p : Program) (ks : List Kind) where
  -- an array that code stands for is there
  meant_ok : (fs : List Form) (e : Code) → sorted (context_of p ks) fs e ≡ true → is_array_place (context_of p ks) (array_meant e) ≡ true
  unfolding sorted all_sorted
  meant_ok fs (Array a) s = s
  meant_ok fs (Seq a e) s = meant_ok fs e (and_parts _ _ (and_parts _ _ s).1).1
  meant_ok fs (Let a e) s =
      let x = sorted (context_of p ks) fs a in
      let y = sorted (context_of p ks) (form_of fs a ∷ fs) e in
      meant_ok (form_of fs a ∷ fs) e (and_parts x y (and_parts (keeps_well e) (x && y)
      (and_parts (is_kept (form_of fs a)) (keeps_well e && (x && y)) s).1).1).1
  meant_ok fs e s = lt-ltb 0 (suc (suc (count_arrays p.globals))) (omega arith)

  one_sorted : (fs : List Form) (e : Code) (es : Codes) → all_sorted (context_of p ks) fs (At e es) ≡ true →
      (sorted (context_of p ks) fs e ≡ true) × (all_sorted (context_of p ks) fs es ≡ true)
  unfolding sorted all_sorted
  one_sorted fs e es s = and_parts (sorted (context_of p ks) fs e) (all_sorted (context_of p ks) fs es) s

  fixed_sorted : (fs : List Form) (m : ℕ) (es : Codes) → all_sorted (context_of p ks) fs (Fixed m es) ≡ true →
      all_sorted (context_of p ks) fs es ≡ true
  unfolding sorted all_sorted
  fixed_sorted fs m es s = s

  fresh_sorted : (fs : List Form) (es : Codes) → all_sorted (context_of p ks) fs (Fresh es) ≡ true → all_sorted (context_of p ks) fs es ≡ true
  unfolding sorted all_sorted
  fresh_sorted fs es s = (and_parts (are_missing es) (all_sorted (context_of p ks) fs es) s).1

module _ {p : Program} {ks : List Kind} {b : Bases} {C : Context} (at : Stands p ks b C) where
  module _ {L : Labels} {k : Instructions} {rs : Stack} where
    pub all_converted_ok : {d : ℕ} {ps : Stack} (fs : List Form) (wanted : List Argument) (es : Codes) (t : ℕ) → t + rooms es ≤ b.temporaries →
        Exit L d → CodeOk C L k ps rs →
        CodeOk C L (all_converted (layout_of p b) fs wanted es t d k) ps rs
    all_converted_ok fs (argument.Of s ∷ rest) (At e es) t h x r =
        converted_ok at (form_of fs e) s (first_room e es t b.temporaries h) x
        (all_converted_ok fs rest es (suc t) (rest_room e es t b.temporaries h) x r)
    all_converted_ok fs (a ∷ rest) (Fixed m es) t h x r = all_converted_ok fs rest es t h x r
    all_converted_ok fs wanted es t h x r = r

    one_pushed_ok : (s : Sort) (fs : List Form) (e : Code) (t : ℕ) (ps : Stack) → fits (form_of fs e) s ≡ true →
        sorted (context_of p ks) fs e ≡ true → t < b.temporaries →
        CodeOk C L k (reverse (words_of (argument.Of s)) ++ ps) rs → CodeOk C L (one_pushed (layout_of p b) (argument.Of s) e t k) ps rs
    one_pushed_ok sort.Value fs e t ps f s lt r = moved_out_ok at (at.handle t lt) r
    one_pushed_ok sort.Number fs e t ps f s lt r = get (at.number t lt) r
    one_pushed_ok sort.Array fs e t ps f s lt r = array_pushed_ok at (array_meant e) (meant_ok p ks fs e s) r
    one_pushed_ok sort.Iterator fs e t ps f s lt r = absurd (no_iterator (form_of fs e) f)

    one_given_ok : (kind : Kind) (fs : List Form) (e : Code) (t : ℕ) (ps : Stack) → sorted (context_of p ks) fs e ≡ true → t < b.temporaries →
        CodeOk C L k (kind_type kind ∷ ps) rs → CodeOk C L (one_given (layout_of p b) kind e t k) ps rs
    one_given_ok Boxed fs e t ps s lt r = moved_out_ok at (at.handle t lt) r
    one_given_ok Unboxed fs e t ps s lt r = get (at.number t lt) r
    one_given_ok ArrayKind fs e t ps s lt r = array_pushed_ok at (array_meant e) (meant_ok p ks fs e s) r

  module _ {L : Labels} {k : Instructions} {rs : Stack} where
    pub all_pushed_ok : (fs : List Form) (wanted : List Argument) (es : Codes) (t : ℕ) (ps : Stack) → fit_row fs wanted es ≡ true →
        all_sorted (context_of p ks) fs es ≡ true →
        t + rooms es ≤ b.temporaries → CodeOk C L k (reverse (params_of wanted) ++ ps) rs →
        CodeOk C L (all_pushed (layout_of p b) wanted es t k) ps rs
    all_pushed_ok fs [] End t ps f s h r = r
    all_pushed_ok fs (argument.Of a ∷ rest) (At e es) t ps f s h r =
        let g = and_parts (fits (form_of fs e) a) (fit_row fs rest es) f in
        let q = one_sorted p ks fs e es s in
        let us = words_of (argument.Of a) in
        one_pushed_ok a fs e t ps g.0 q.0 (first_room e es t b.temporaries h)
        (all_pushed_ok fs rest es (suc t) (reverse us ++ ps) g.1 q.1 (rest_room e es t b.temporaries h)
        (subst (λ l. CodeOk C L k l rs) (pushed_on us (params_of rest) ps) r))
    all_pushed_ok fs (argument.Constant c ∷ rest) (Fixed m es) t ps f s h r =
        let g = and_parts (is_constant c m) (fit_row fs rest es) f in
        word (all_pushed_ok fs rest es t (I32 ∷ ps) g.1 (fixed_sorted p ks fs m es s) h
        (subst (λ l. CodeOk C L k l rs) (pushed_on (I32 ∷ []) (params_of rest) ps) r))
    all_pushed_ok fs wanted es t ps f s h r = cc

    pub all_boxed_ok : {ps : Stack} (fs : List Form) (es : Codes) (t : ℕ) → t + rooms es ≤ b.temporaries → CodeOk C L k ps rs →
        CodeOk C L (all_boxed (layout_of p b) fs es t k) ps rs
    all_boxed_ok fs (At e es) t h r =
        to_value_ok at (form_of fs e) (first_room e es t b.temporaries h)
        (all_boxed_ok fs es (suc t) (rest_room e es t b.temporaries h) r)
    all_boxed_ok fs es t h r = r

    pub all_appended_ok : {ps : Stack} (es : Codes) (t : ℕ) → t + rooms es ≤ b.temporaries → CodeOk C L k ps rs →
        CodeOk C L (all_appended (layout_of p b) es t k) ps rs
    all_appended_ok {ps = ps} (At e es) t h r =
        moved_out_ok at (at.handle t (first_room e es t b.temporaries h))
        (called ps (at.imported Arg) (all_appended_ok es (suc t) (rest_room e es t b.temporaries h) r))
    all_appended_ok es t h r = r

    pub listed_asked_ok : {d : ℕ} {ps : Stack} (l : Listed) (count t : ℕ) → t < b.temporaries → Exit L d → CodeOk C L k ps rs →
        CodeOk C L (listed_asked (layout_of p b) l count t d k) ps rs
    listed_asked_ok {ps = ps} listed.Sprintf count t lt x r = word (called ps (at.imported (OverLast listing.Sprintf)) (kept_value_ok at true lt x r))
    listed_asked_ok {ps = ps} (listed.Print to) count t lt x r =
        word (word (called ps (at.imported (OverLast listing.Print)) (kept_done_ok at true x r)))
    listed_asked_ok {ps = ps} (listed.Printf to) count t lt x r =
        word (word (called ps (at.imported (OverLast listing.Printf)) (kept_done_ok at true x r)))

    -- What a call is given.

    lent_ok : {ps : Stack} (f : Form) {t : ℕ} → t < b.temporaries → CodeOk C L k ps rs → CodeOk C L (lent (layout_of p b) f t k) ps rs
    lent_ok NumberOrText {t = t} lt r =
        number_is_ok at (at.number t lt) (branched
        (moved_out_ok at (at.handle t lt) (called [] (at.imported Drop) (long (put (at.number t lt) done)))) done r)
    lent_ok f lt r = r

  module _ {L : Labels} {k : Instructions} {rs : Stack} where
    pub all_given_ok : {ps : Stack} (fs : List Form) (kinds : List Kind) (es : Codes) (t : ℕ) → t + rooms es ≤ b.temporaries → CodeOk C L k ps rs →
        CodeOk C L (all_given (layout_of p b) fs kinds es t k) ps rs
    all_given_ok fs (Boxed ∷ kinds) (At e es) t h r =
        to_value_ok at (form_of fs e) (first_room e es t b.temporaries h) (all_given_ok fs kinds es (suc t) (rest_room e es t b.temporaries h) r)
    all_given_ok fs (Unboxed ∷ kinds) (At e es) t h r =
        lent_ok (form_of fs e) (first_room e es t b.temporaries h) (all_given_ok fs kinds es (suc t) (rest_room e es t b.temporaries h) r)
    all_given_ok fs (kind ∷ kinds) (At e es) t h r = all_given_ok fs kinds es (suc t) (rest_room e es t b.temporaries h) r
    all_given_ok fs (kind ∷ kinds) (Fresh es) t h r = all_given_ok fs kinds es t h r
    all_given_ok fs kinds es t h r = r

    pub all_given_pushed_ok : (lender : ℕ → Option ℕ) (fs : List Form) (kinds : List Kind) (es : Codes) (t w : ℕ) (ps : Stack) →
        fit_call lender fs kinds es ≡ true → all_sorted (context_of p ks) fs es ≡ true →
        t + rooms es ≤ b.temporaries → w + made_in es ≤ b.arrays → CodeOk C L k (reverse (map kind_type kinds) ++ ps) rs →
        CodeOk C L (all_given_pushed (layout_of p b) kinds es t w k) ps rs
    all_given_pushed_ok lender fs [] End t w ps f s h g r = r
    all_given_pushed_ok lender fs (kind ∷ kinds) (At e es) t w ps f s h g r =
        let q = one_sorted p ks fs e es s in
        let next : ℕ → Option ℕ = λ i. lender (suc i) in
        one_given_ok kind fs e t ps q.0 (first_room e es t b.temporaries h)
        (all_given_pushed_ok next fs kinds es (suc t) w (kind_type kind ∷ ps)
        (and_parts (is_given (lender zero) (source_of e) (form_of fs e) kind) (fit_call next fs kinds es) f).1 q.1
        (rest_room e es t b.temporaries h) g
        (subst (λ l. CodeOk C L k l rs) (pushed_on (kind_type kind ∷ []) (map kind_type kinds) ps) r))
    all_given_pushed_ok lender fs (ArrayKind ∷ kinds) (Fresh es) t w ps f s h g r =
        let lt : w < b.arrays = omega (arith, g) in
        get (at.array w lt) (tee (at.array w lt)
        (all_given_pushed_ok (λ i. lender (suc i)) fs kinds es t (suc w) (I32 ∷ ps) f (fresh_sorted p ks fs es s) h (omega (arith, g))
        (subst (λ l. CodeOk C L k l rs) (pushed_on (I32 ∷ []) (map kind_type kinds) ps) r)))
    all_given_pushed_ok lender fs kinds es t w ps f s h g r = cc

    pub all_freed_ok : {ps : Stack} (w m : ℕ) → w + m ≤ b.arrays → CodeOk C L k ps rs → CodeOk C L (all_freed (layout_of p b) w m k) ps rs
    all_freed_ok w zero h r = r
    all_freed_ok {ps = ps} w (suc i) h r =
        moved_out_ok at (at.array (w + i) (omega (arith, h)))
        (called ps (at.imported FreeArray) (all_freed_ok w i (omega (arith, h)) r))
