-- The bodies of functions and of `main` are typed: what they hold is emptied first, and let go on each way out.
use Rattle.std.proofs.Common.{◌≡◌, ℕ, zero, suc, ◌+◌, ◌<◌, ◌≤◌, Bool, true, false, List, [], ◌∷◌, length, Some, None, refl, subst, arith}
use Rattle.std.specs.Prelude.{◌&&◌, slice_get}
use Rattle.std.proofs.lemmas.Bool.{and_parts}
use Rattle.sem_primitives.specs.declared.constants.NameKind.{NameKind}
use Rattle.sem_primitives.specs.declared.constants.NameKind.TheVariants.{ArrayOrFunction}
use Rattle.sem_primitives.specs.declared.table.Primitive.TheVariants as row
use Rattle.wasm_types.specs.Syntax.{Instructions}
use Rattle.wasm_types.specs.Typing.{Context, CodeOk, done}
use Rattle.wasm_types.specs.declared.types.ValType.TheVariants.{I32, I64}
use Rattle.mid_program.specs.Mid.{Kind, Boxed, Unboxed, ArrayKind, Program, Steps}
use Rattle.mid_program.specs.Sorted.{calls_of, context_of, kinds_of, has_kind, parts_sorted, steps_sorted}
use Rattle.lower_model.specs.Functions.{layout_of}
use Rattle.lower_model.specs.Places.{Bases, kind_type, steps_room, steps_iterators, steps_arrays}
use Rattle.lower_model.specs.Statements.{steps_emitted, temporaries_emptied, iterators_emptied, arrays_emptied, all_emptied, temporaries_swept, iterators_swept, arrays_swept, swept, left_swept, has_functions, parameters_dropped, routine_body, started, declared, declared_kind, names_declared, routines_declared, names_made, goes_on, record_done, records_read, part_done, before_parts, main_body}
use Rattle.host_imports.specs.declared.import.Import.TheVariants.{OfPrimitive, Drop, IterFree, FreeArray}
use Rattle.agreement.proofs.TypedLemmas.Singles.{Stack, Labels, Exit, inner, nearest, called, get, put, read, write, word, long, compare, test, convert, leave, leave_if, blocked, looped, branched}
use Rattle.agreement.proofs.TypedLemmas.Standing.{Stands}
use Rattle.agreement.proofs.TypedLemmas.Pieces.{one_of, emptied_ok, let_go_ok, number_is_ok, kept_code_ok, kept_number_ok}
use Rattle.agreement.proofs.TypedLemmas.Slots.{pending_assigned_ok, asked_ok}
use Rattle.agreement.proofs.TypedLemmas.Stepping.{steps_ok}

-- a function's locals are enough for steps
pub record Enough (ss : Steps) (b : Bases) : Type 0 where
  pub temporaries : steps_room ss ≤ b.temporaries
  pub iterators : steps_iterators ss ≤ b.iterators
  pub arrays : steps_arrays ss ≤ b.arrays

module _ {p : Program} {ks : List Kind} {b : Bases} {C : Context} (at : Stands p ks b C) where
  -- steps of a function or a part of `main`, whose exit is the nearest label
  part_ok : {L : Labels} {k : Instructions} {rs : Stack} (o : Bool) (ss : Steps) → steps_sorted (context_of p ks) o false ss ≡ true → Enough ss b → (o ≡ true → Exit (None ∷ L) 1) →
      CodeOk C (None ∷ L) k [] rs →
      CodeOk C (None ∷ L) (steps_emitted (layout_of p b) ss zero zero zero zero k) [] rs
  part_ok o ss s h x r = steps_ok at o false ss 0 0 0 0 s h.temporaries (let i = h.iterators in omega (arith, i)) h.arrays (record { left = nearest; returned = x }) nearest nearest r

  -- a part of `main` does not return
  main_part_ok : {L : Labels} {k : Instructions} {rs : Stack} (ss : Steps) → steps_sorted (context_of p ks) false false ss ≡ true → Enough ss b →
      CodeOk C (None ∷ L) k [] rs →
      CodeOk C (None ∷ L) (steps_emitted (layout_of p b) ss zero zero zero zero k) [] rs
  main_part_ok ss s h r = part_ok false ss s h (λ e. cc) r

  module _ {L : Labels} {k : Instructions} {rs : Stack} where
    temporaries_emptied_ok : (t m : ℕ) → t + m ≤ b.temporaries → CodeOk C L k [] rs → CodeOk C L (temporaries_emptied (layout_of p b) t m k) [] rs
    temporaries_emptied_ok t zero h r = r
    temporaries_emptied_ok t (suc m) h r = emptied_ok at (at.handle t (omega (arith, h))) (temporaries_emptied_ok (suc t) m (omega (arith, h)) r)

    iterators_emptied_ok : (u m : ℕ) → u + m ≤ b.iterators → CodeOk C L k [] rs → CodeOk C L (iterators_emptied (layout_of p b) u m k) [] rs
    iterators_emptied_ok u zero h r = r
    iterators_emptied_ok u (suc m) h r = emptied_ok at (at.iterator u (omega (arith, h))) (iterators_emptied_ok (suc u) m (omega (arith, h)) r)

    arrays_emptied_ok : (w m : ℕ) → w + m ≤ b.arrays → CodeOk C L k [] rs → CodeOk C L (arrays_emptied (layout_of p b) w m k) [] rs
    arrays_emptied_ok w zero h r = r
    arrays_emptied_ok w (suc m) h r = emptied_ok at (at.array w (omega (arith, h))) (arrays_emptied_ok (suc w) m (omega (arith, h)) r)

    temporaries_swept_ok : (t m : ℕ) → t + m ≤ b.temporaries → CodeOk C L k [] rs → CodeOk C L (temporaries_swept (layout_of p b) t m k) [] rs
    temporaries_swept_ok t zero h r = r
    temporaries_swept_ok t (suc m) h r =
        let_go_ok at Drop (at.imported Drop) (at.handle t (omega (arith, h)))
        (temporaries_swept_ok (suc t) m (omega (arith, h)) r)

    iterators_swept_ok : (u m : ℕ) → u + m ≤ b.iterators → CodeOk C L k [] rs → CodeOk C L (iterators_swept (layout_of p b) u m k) [] rs
    iterators_swept_ok u zero h r = r
    iterators_swept_ok u (suc m) h r =
        let_go_ok at IterFree (at.imported IterFree) (at.iterator u (omega (arith, h)))
        (iterators_swept_ok (suc u) m (omega (arith, h)) r)

    arrays_swept_ok : (w m : ℕ) → w + m ≤ b.arrays → CodeOk C L k [] rs → CodeOk C L (arrays_swept (layout_of p b) w m k) [] rs
    arrays_swept_ok w zero h r = r
    arrays_swept_ok w (suc m) h r =
        let_go_ok at FreeArray (at.imported FreeArray) (at.array w (omega (arith, h)))
        (arrays_swept_ok (suc w) m (omega (arith, h)) r)

    -- the parameters from the x-th on are of these kinds
    parameters_dropped_ok : (x : ℕ) (js : List Kind) →
        ((i y : ℕ) (kind : Kind) → x + i ≡ y → has_kind js i kind ≡ true → slice_get C.locals y ≡ Some (kind_type kind)) →
        CodeOk C L k [] rs → CodeOk C L (parameters_dropped (layout_of p b) x js k) [] rs
    parameters_dropped_ok x [] f r = r
    parameters_dropped_ok x (Boxed ∷ js) f r =
        get (f 0 x Boxed (omega arith) refl) (called [] (at.imported Drop)
        (parameters_dropped_ok (suc x) js (λ i y kind e. f (suc i) y kind (omega (arith, e))) r))
    parameters_dropped_ok x (Unboxed ∷ js) f r = parameters_dropped_ok (suc x) js (λ i y kind e. f (suc i) y kind (omega (arith, e))) r
    parameters_dropped_ok x (ArrayKind ∷ js) f r = parameters_dropped_ok (suc x) js (λ i y kind e. f (suc i) y kind (omega (arith, e))) r

  module _ {L : Labels} {k : Instructions} {rs : Stack} where
    all_emptied_ok : CodeOk C L k [] rs → CodeOk C L (all_emptied (layout_of p b) k) [] rs
    all_emptied_ok r =
        long (put at.answer (temporaries_emptied_ok 0 b.temporaries (omega arith)
        (iterators_emptied_ok 0 b.iterators (omega arith) (arrays_emptied_ok 0 b.arrays (omega arith) r))))

    swept_ok : CodeOk C L k [] rs → CodeOk C L (swept (layout_of p b) k) [] rs
    swept_ok r =
        temporaries_swept_ok 0 b.temporaries (omega arith)
        (iterators_swept_ok 0 b.iterators (omega arith) (arrays_swept_ok 0 b.arrays (omega arith) r))

    left_swept_ok : (calls : Bool) → CodeOk C L k [] rs → CodeOk C L (left_swept (layout_of p b) calls k) [] rs
    left_swept_ok true r = swept_ok r
    left_swept_ok false r = iterators_swept_ok 0 b.iterators (omega arith) r

  -- a function answers a number, or that a text waits
  pub routine_body_ok : (body : Steps) → steps_sorted (context_of p ks) true false body ≡ true → Enough body b →
      CodeOk C (Some I64 ∷ []) (routine_body (layout_of p b) ks body) [] (I64 ∷ [])
  routine_body_ok body s h =
      all_emptied_ok (blocked
      (blocked
      (part_ok true body s h (λ e. inner nearest) (long (put at.answer (leave (inner nearest) done))))
      (temporaries_swept_ok 0 b.temporaries (omega arith) (arrays_swept_ok 0 b.arrays (omega arith) done)))
      (iterators_swept_ok 0 b.iterators (omega arith) (parameters_dropped_ok 0 ks here (get at.answer done))))
    where
      here : (i y : ℕ) (kind : Kind) → 0 + i ≡ y → has_kind ks i kind ≡ true → slice_get C.locals y ≡ Some (kind_type kind)
      here i y kind e h = let e1 : i ≡ y = omega (arith, e) in subst (λ z. slice_get C.locals z ≡ Some (kind_type kind)) e1 (at.parameter i kind h)

  -- `main`, which has two temporaries at least.
  module _ (two : 1 < b.temporaries) where
    some : 0 < b.temporaries
    some = omega (arith, two)

    module _ {L : Labels} {k : Instructions} {rs : Stack} where
      started_ok : Exit L 0 → CodeOk C L k [] rs → CodeOk C L (started (layout_of p b) k) [] rs
      started_ok x r = long (long (called [] (at.imported (OfPrimitive row.Pow)) (kept_number_ok at true some x r)))

      declared_ok : (kind : NameKind) (i : ℕ) → CodeOk C L k [] rs → CodeOk C L (declared (layout_of p b) kind i k) [] rs
      declared_ok kind i r = word (word (word (called [] (at.imported (OfPrimitive row.Declare)) r)))

      goes_on_ok : CodeOk C L k [] rs → CodeOk C L (goes_on (layout_of p b) k) [] rs
      goes_on_ok r = word (write at.way (left_swept_ok (has_functions (calls_of p)) r))

    module _ {L : Labels} {k : Instructions} {rs : Stack} where
      names_declared_ok : (i : ℕ) (kinds : List Kind) → CodeOk C L k [] rs → CodeOk C L (names_declared (layout_of p b) i kinds k) [] rs
      names_declared_ok i [] r = r
      names_declared_ok i (kind ∷ kinds) r = declared_ok (declared_kind (layout_of p b) kind) i (names_declared_ok (suc i) kinds r)

      routines_declared_ok : (i m : ℕ) → CodeOk C L k [] rs → CodeOk C L (routines_declared (layout_of p b) i m k) [] rs
      routines_declared_ok i zero r = r
      routines_declared_ok i (suc m) r = declared_ok ArrayOrFunction i (routines_declared_ok (suc i) m r)

      names_made_ok : (i : ℕ) (kinds : List Kind) → i + length kinds ≤ length (kinds_of p.globals) → CodeOk C L k [] rs →
          CodeOk C L (names_made (layout_of p b) i kinds k) [] rs
      names_made_ok i [] h r = r
      names_made_ok i (Boxed ∷ kinds) h r =
          called [] (at.imported (OfPrimitive row.Uninit))
          (write (at.name_handle i (omega (arith, h))) (names_made_ok (suc i) kinds (omega (arith, h)) r))
      names_made_ok i (Unboxed ∷ kinds) h r = names_made_ok (suc i) kinds (omega (arith, h)) r
      names_made_ok i (ArrayKind ∷ kinds) h r =
          called [] (at.imported (OfPrimitive row.NewArray))
          (write (at.name_handle i (omega (arith, h))) (names_made_ok (suc i) kinds (omega (arith, h)) r))

    module _ {L : Labels} {k : Instructions} {rs : Stack} where
      record_done_ok : {d : ℕ} (items : Steps) → steps_sorted (context_of p ks) false false items ≡ true → Enough items b → Exit L d →
          CodeOk C L k [] rs → CodeOk C L (record_done (layout_of p b) items d k) [] rs
      record_done_ok items s h x r =
          blocked
          (blocked (main_part_ok items s h (leave (inner nearest) done))
          (read at.way (word (compare (leave_if (inner x) (goes_on_ok done))))))
          r

    module _ {L : Labels} {k : Instructions} {rs : Stack} where
      records_read_ok : {d : ℕ} (items : Steps) → steps_sorted (context_of p ks) false false items ≡ true → Enough items b → Exit L d →
          CodeOk C L k [] rs → CodeOk C L (records_read (layout_of p b) items d k) [] rs
      records_read_ok items s h x r =
          looped
          (called [] (at.imported (OfPrimitive row.NextMain)) (kept_code_ok at true some (inner x)
          (number_is_ok at (at.number 0 some) (branched
          (record_done_ok items s h (inner (inner x)) (leave (inner nearest) done)) done
          (number_is_ok at (at.number 0 some) (branched (pending_assigned_ok at two (leave (inner nearest) done)) done done))))))
          r

    module _ {L : Labels} {k : Instructions} {rs : Stack} where
      part_done_ok : {d : ℕ} {actions : Instructions} → CodeOk C (None ∷ (None ∷ L)) actions [] [] → Exit L d → CodeOk C L k [] rs →
          CodeOk C L (part_done (layout_of p b) actions d k) [] rs
      part_done_ok a x r =
          blocked
          (blocked a
          (read at.way (test (leave_if (inner x)
          (read at.way (word (compare (branched (word (called [] (at.imported (OfPrimitive row.Fail)) (leave (inner (inner x)) done))) done
          (goes_on_ok done)))))))))
          r

      before_parts_ok : Exit L 0 → CodeOk C L k [] rs → CodeOk C L (before_parts (layout_of p b) p k) [] rs
      before_parts_ok x r =
          started_ok x
          (names_declared_ok (length p.texts) (kinds_of p.globals)
          (routines_declared_ok (length p.texts + length p.globals) (length p.routines)
          (names_made_ok 0 (kinds_of p.globals) (omega arith) (asked_ok at row.StartAssign (at.imported (OfPrimitive row.StartAssign)) two x r))))

    pub main_body_ok : parts_sorted p (context_of p ks) ≡ true → Enough p.begin b → Enough p.items b → Enough p.end b →
        CodeOk C (Some I32 ∷ []) (main_body (layout_of p b) p) [] (I32 ∷ [])
    main_body_ok s h i e =
        all_emptied_ok (blocked
        (before_parts_ok nearest
        (part_done_ok (main_part_ok p.begin s1.0 h (one_of at p.reads (records_read_ok p.items s2.0 i nearest (leave (inner nearest) done))
        (leave (inner nearest) done))) nearest
        (called [] (at.imported (OfPrimitive row.BeginEnd)) (part_done_ok (main_part_ok p.end s2.1 e (leave (inner nearest) done)) nearest done))))
        (swept_ok (read at.status (convert done))))
      where
        first : Bool
        first = steps_sorted (context_of p ks) false false p.begin

        each : Bool
        each = steps_sorted (context_of p ks) false false p.items

        last : Bool
        last = steps_sorted (context_of p ks) false false p.end

        s1 : (first ≡ true) × (each && last ≡ true)
        s1 = and_parts first (each && last) s

        s2 : (each ≡ true) × (last ≡ true)
        s2 = and_parts each last s1.1
