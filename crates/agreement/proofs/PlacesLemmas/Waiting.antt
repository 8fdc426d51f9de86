-- What a caller that waits holds, and the loops over keys that are walked.
use Rattle.std.proofs.Common.{◌≡◌, ◌⊎◌, inl, inr, ℕ, zero, suc, ◌+◌, ◌-◌, ◌≤◌, Bool, true, false, not, ◌&&◌, ◌||◌, cond, nat_eq, nat_le, nat_lt, List, [], ◌∷◌, ◌++◌, length, map, get_or, slice_get, Option, Some, None, refl, sym, ap, ap₂, ◌∙◌, subst, arith}
use Rattle.std.proofs.lemmas.Bool.{and_parts, eq-eqb, eqb-true, leb-true, ltb-false, ltb-true, ne_eqb}
use Rattle.std.proofs.lemmas.List.{length-map}
use Rattle.std.proofs.lemmas.Option.{none-some, slice_get-get_or, slice_get_past}
use Rattle.sem_primitives.specs.declared.sorts.Sort.{Sort}
use Rattle.sem_primitives.specs.declared.sorts.Sort.TheVariants as sort
use Rattle.sem_primitives.specs.declared.table.Primitive.TheVariants as row
use Rattle.wasm_types.specs.Syntax.{BrTable, Block, Done, If, Instructions, Loop, Plain, Then}
use Rattle.wasm_types.specs.declared.instr.Simple.{Simple}
use Rattle.wasm_types.specs.declared.instr.Simple.TheVariants as simple
use Rattle.wasm_model.specs.Frames.{LabelForm}
use Rattle.wasm_model.specs.Machines.{CallerForm}
use Rattle.host_step.specs.HostState.{Names}
use Rattle.mid_program.specs.Mid.{Kind, Boxed, Unboxed, ArrayKind, Program}
use Rattle.mid_program.specs.Sorted.{IsSorted}
use Rattle.lower_model.specs.Cells.{Cell, Bits, Held, IteratorOf, OwnedArray, LentArray, Gone, arrays_owned, is_held, is_operand, is_owned, iterators_in, locals_wait, no_value, operands_wait}
use Rattle.lower_model.specs.Emission.{function_number}
use Rattle.lower_model.specs.Functions.{main_callee, routine_callee}
use Rattle.host_imports.specs.Imports.{import_count, imports}
use Rattle.host_imports.specs.Names.{import_number}
use Rattle.lower_model.specs.Machine.{Callee, Code, Frame, Label, answers_to, freed_next, is_walk, loops_walked}
use Rattle.lower_model.specs.Modules.{all_callees, called_imports, calls_in, imports_of, new_number, renumbered, renumbered_simple}
use Rattle.host_imports.specs.declared.import.Import.TheVariants.{Drop, OfPrimitive}
use Rattle.agreement.proofs.TypedLemmas.Chosen.{functions_behind}
use Rattle.agreement.specs.Refined.Refined.{AgainAs, FrameAs, FramesAs, LabelsAs}
use Rattle.agreement.proofs.RefinedLemmas.Links.{number_there, stays}
use Rattle.agreement.specs.Places.Alive.{count_waiting, values_waiting, walks_waiting}
use Rattle.agreement.specs.Places.NoLeaks.{CallerWaits, CallersWait, IsCalled, LocalsWait, NoValues, OperandsHold, boxed, count, is_keys, is_next, numbers_of, one, walks}
use Rattle.agreement.proofs.PlacesLemmas.Begun.{OfFunction}
use Rattle.agreement.proofs.PlacesLemmas.Counting.{held, held_in, held_waiting, local_iterators, owned_arrays}
use Rattle.std.specs.List.{Contains}
use Rattle.agreement.proofs.PlacesLemmas.Totals.{held_each}
use Rattle.agreement.proofs.PlacesLemmas.Fitting.{FrameFits, FramesFit}
use Rattle.agreement.proofs.PlacesLemmas.Given.{call_given}
use Rattle.agreement.proofs.PlacesLemmas.Missing.{call_missing}
use Rattle.agreement.proofs.PlacesLemmas.Working.{FramesWork, Waits}

-- Locals.

nothing : (c : Cell) → not (is_owned c) ≡ true → held_in c ≡ None
nothing (Bits w) e = refl
nothing (Held v) e = cc
nothing (IteratorOf t) e = cc
nothing (OwnedArray a) e = cc
nothing (LentArray a) e = refl
nothing Gone e = refl

value_held : (c : Cell) → is_held c ≡ true → held_in c ≡ Some sort.Value
value_held (Bits w) e = cc
value_held (Held v) e = refl
value_held (IteratorOf t) e = cc
value_held (OwnedArray a) e = cc
value_held (LentArray a) e = cc
value_held Gone e = cc

operand_held : (c : Cell) → is_operand c ≡ true → (held_in c ≡ None) ⊎ (held_in c ≡ Some sort.Value)
operand_held (Bits w) e = inl refl
operand_held (Held v) e = inr refl
operand_held (IteratorOf t) e = cc
operand_held (OwnedArray a) e = cc
operand_held (LentArray a) e = inl refl
operand_held Gone e = inl refl

no_values : (cs : List Cell) → no_value cs ≡ true → NoValues (held cs)
no_values [] e = tt
no_values (Bits w ∷ cs) e = (inl refl, no_values cs e)
no_values (Held v ∷ cs) e = cc
no_values (IteratorOf t ∷ cs) e = (inr (inl refl), no_values cs e)
no_values (OwnedArray a ∷ cs) e = (inr (inr refl), no_values cs e)
no_values (LentArray a ∷ cs) e = (inl refl, no_values cs e)
no_values (Gone ∷ cs) e = (inl refl, no_values cs e)

operands_hold : (m : ℕ) (cs : List Cell) → operands_wait m cs ≡ true → (t : ℕ) × (m ≡ t + t) × OperandsHold t (held cs)
operands_hold zero cs e = (zero, refl, no_values cs e)
operands_hold (suc zero) cs e = cc
operands_hold (suc (suc m)) [] e = cc
operands_hold (suc (suc m)) (h ∷ []) e = cc
operands_hold (suc (suc m)) (h ∷ (n ∷ cs)) e =
    let a = and_parts (is_operand h && not (is_owned n)) (operands_wait m cs) e in
    let o = and_parts (is_operand h) (not (is_owned n)) a.0 in
    let r = operands_hold m cs a.1 in
    let q = r.1 in
    (suc r.0, omega (arith, q), (operand_held h o.0, nothing n o.1, r.2))

locals_hold : (x : ℕ) (ks : List Kind) (cs : List Cell) → locals_wait x ks cs ≡ true → (t : ℕ) × (x ≡ suc (length ks) + (t + t)) × LocalsWait t ks (held cs)
locals_hold zero ks cs e = cc
locals_hold (suc x) [] [] e = cc
locals_hold (suc x) (k ∷ ks) [] e = cc
locals_hold (suc x) [] (a ∷ cs) e =
    let s = and_parts (not (is_owned a)) (operands_wait x cs) e in
    let r = operands_hold x cs s.1 in
    let q = r.1 in
    (r.0, omega (arith, q), (nothing a s.0, r.2))
locals_hold (suc x) (Boxed ∷ ks) (c ∷ cs) e = let s = and_parts (is_held c) (locals_wait x ks cs) e in let r = locals_hold x ks cs s.1 in let q = r.1 in (r.0, omega (arith, q), (value_held c s.0, r.2))
locals_hold (suc x) (Unboxed ∷ ks) (c ∷ cs) e = let s = and_parts (not (is_owned c)) (locals_wait x ks cs) e in let r = locals_hold x ks cs s.1 in let q = r.1 in (r.0, omega (arith, q), (nothing c s.0, r.2))
locals_hold (suc x) (ArrayKind ∷ ks) (c ∷ cs) e = let s = and_parts (not (is_owned c)) (locals_wait x ks cs) e in let r = locals_hold x ks cs s.1 in let q = r.1 in (r.0, omega (arith, q), (nothing c s.0, r.2))

-- Counts of values.

is_none : (o : Option Sort) → o ≡ None → one sort.Value o ≡ 0
is_none o e = ap (one sort.Value) e

is_one : (o : Option Sort) → one sort.Value o ≤ 1
is_one None = omega arith
is_one (Some sort.Value) = omega arith
is_one (Some sort.Number) = omega arith
is_one (Some sort.Array) = omega arith
is_one (Some sort.Iterator) = omega arith

none_there : (os : List (Option Sort)) → NoValues os → count sort.Value os ≡ 0
none_there [] h = refl
none_there (o ∷ os) h = let r = none_there os h.1 in let x = by h.0 in omega (arith, r, x)
  where
    by : (o ≡ None) ⊎ ((o ≡ Some sort.Iterator) ⊎ (o ≡ Some sort.Array)) → one sort.Value o ≡ 0
    by (inl e) = ap (one sort.Value) e
    by (inr (inl e)) = ap (one sort.Value) e
    by (inr (inr e)) = ap (one sort.Value) e

operands_few : (m : ℕ) (os : List (Option Sort)) → OperandsHold m os → count sort.Value os ≤ m
operands_few zero os h = let r = none_there os h in omega (arith, r)
operands_few (suc m) [] h = absurd h
operands_few (suc m) (a ∷ []) h = absurd h
operands_few (suc m) (a ∷ (n ∷ os)) h = let r = operands_few m os h.2 in let x = is_one a in let y = is_none n h.1 in omega (arith, r, x, y)

values_few : (m : ℕ) (ks : List Kind) (os : List (Option Sort)) → LocalsWait m ks os → count sort.Value os ≤ boxed ks + m
values_few m ks [] h = absurd h
values_few m [] (a ∷ os) h = let r = operands_few m os h.1 in let x = is_none a h.0 in omega (arith, r, x)
values_few m (Boxed ∷ ks) (o ∷ os) h = let r = values_few m ks os h.1 in let x = is_one o in omega (arith, r, x)
values_few m (Unboxed ∷ ks) (o ∷ os) h = let r = values_few m ks os h.1 in let x = is_none o h.0 in omega (arith, r, x)
values_few m (ArrayKind ∷ ks) (o ∷ os) h = let r = values_few m ks os h.1 in let x = is_none o h.0 in omega (arith, r, x)

-- Code.

simple_answers : (bs : List Bool) (i : Simple) (j k : Instructions) → answers_to (Then (Plain (renumbered_simple bs i)) j) ≡ answers_to (Then (Plain i) k)
simple_answers bs (simple.Call n) j k = refl
simple_answers bs (simple.LocalTee zero) j k = refl
simple_answers bs (simple.LocalTee (suc x)) j k = refl
simple_answers bs i j k = refl

pub answers_same : (bs : List Bool) (code : Instructions) → answers_to (renumbered bs code) ≡ answers_to code
answers_same bs Done = refl
answers_same bs (Then (Plain i) k) = simple_answers bs i (renumbered bs k) k
answers_same bs (Then (BrTable ns n) k) = refl
answers_same bs (Then (Block r a) k) = refl
answers_same bs (Then (Loop r a) k) = refl
answers_same bs (Then (If r a c) k) = refl

-- what is in a list stays where it is when more comes after it
still_there : {A : Type 0} (xs ys : List A) (n : ℕ) (x : A) → slice_get xs n ≡ Some x → slice_get (xs ++ ys) n ≡ Some x
still_there [] ys n x e = absurd (none-some x e)
still_there (y ∷ xs) ys zero x e = e
still_there (y ∷ xs) ys (suc n) x e = still_there xs ys n x e

module _ (p : Program) where
  abbrev bs : List Bool
  bs = called_imports p

  abbrev next : ℕ
  next = import_number (OfPrimitive row.IterNext)

  -- an import keeps its number in the table, and a function has none there
  next_same : (n : ℕ) → stays p n ≡ true → is_next (slice_get (numbers_of p) (new_number bs n)) ≡ nat_eq n next
  next_same n used = by (nat_lt n import_count) refl
    where
      by : (b : Bool) → nat_lt n import_count ≡ b → is_next (slice_get (numbers_of p) (new_number bs n)) ≡ nat_eq n next
      by true e = ap is_next (number_there p n (get_or imports n Drop) (slice_get-get_or imports n Drop (ltb-true n import_count e)) used)
      by false e =
          let le = ltb-false n import_count e in
          let k = n - import_count in
          let same : function_number k ≡ n = omega (arith, le) in
          let l = length-map (imports_of p) import_number in
          let m : new_number bs n ≡ length (imports_of p) + k = ap (new_number bs) (sym same) ∙ functions_behind p k in
          ap is_next (slice_get_past (numbers_of p) (new_number bs n) (omega (arith, m, l))) ∙ sym (ne_eqb n next (λ q. omega (arith, q, le)))

  abbrev Used : Instructions → Type 0
  Used k = (n : ℕ) → calls_in n k ≡ true → stays p n ≡ true

  third : (x y : ℕ) (k : Instructions) → Used k →
      is_keys (numbers_of p) (Some (Then (Plain (simple.LocalGet x)) (Then (Plain (simple.LocalTee y)) (renumbered bs k)))) ≡ is_walk (Some (Then (Plain (simple.LocalGet x)) (Then (Plain (simple.LocalTee y)) k)))
  third x y Done u = refl
  third x y (Then (Plain (simple.Call n)) k) u = next_same n (u n (ap (λ b. b || calls_in n k) (eq-eqb n n refl)))
  third x y (Then (Plain i) k) u = refl
  third x y (Then (BrTable ns n) k) u = refl
  third x y (Then (Block r a) k) u = refl
  third x y (Then (Loop r a) k) u = refl
  third x y (Then (If r a c) k) u = refl

  second : (x : ℕ) (k : Instructions) → Used k → is_keys (numbers_of p) (Some (Then (Plain (simple.LocalGet x)) (renumbered bs k))) ≡ is_walk (Some (Then (Plain (simple.LocalGet x)) k))
  second x Done u = refl
  second x (Then (Plain (simple.LocalTee y)) k) u = third x y k u
  second x (Then (Plain (simple.Call n)) k) u = refl
  second x (Then (Plain i) k) u = refl
  second x (Then (BrTable ns n) k) u = refl
  second x (Then (Block r a) k) u = refl
  second x (Then (Loop r a) k) u = refl
  second x (Then (If r a c) k) u = refl

  first : (k : Instructions) → Used k → is_keys (numbers_of p) (Some (renumbered bs k)) ≡ is_walk (Some k)
  first Done u = refl
  first (Then (Plain (simple.LocalGet x)) k) u = second x k u
  first (Then (Plain (simple.Call n)) k) u = refl
  first (Then (Plain i) k) u = refl
  first (Then (BrTable ns n) k) u = refl
  first (Then (Block r a) k) u = refl
  first (Then (Loop r a) k) u = refl
  first (Then (If r a c) k) u = refl

  again_same : (a b : Option Instructions) → AgainAs (stays p) bs a b → is_keys (numbers_of p) b ≡ is_walk a
  again_same None None h = refl
  again_same None (Some b) h = absurd h
  again_same (Some a) None h = absurd h
  again_same (Some a) (Some b) h = ap (λ k. is_keys (numbers_of p) (Some k)) h.same ∙ first a h.used_only

  -- THE LOOPS over keys that are walked are those of the machine over values
  pub walks_same : (made : ℕ) (N : Names) (K : List Label) (rs : List LabelForm) → LabelsAs (stays p) bs made N K rs → walks (numbers_of p) rs ≡ loops_walked K
  walks_same made N [] [] h = refl
  walks_same made N [] (r ∷ rs) h = absurd h
  walks_same made N (l ∷ K) [] h = absurd h
  walks_same made N (l ∷ K) (r ∷ rs) h = ap₂ (λ b m. cond {A = ℕ} b (suc m) m) (again_same l.again r.again h.0.again) (walks_same made N K rs h.1)

  -- Callers.

  module _ (well : IsSorted p) (u : Code) (callees : u.callees ≡ map (routine_callee p) p.routines) (instructions places globals : ℕ) (made : ℕ) (N : Names) where
    abbrev Fun : Callee → Type 0
    Fun = Contains (all_callees p)

    abbrev First : Callee → Type 0
    First g = g ≡ main_callee p

    caller_waits : (f : Frame) (r : CallerForm) → FrameAs (stays p) bs made N f r → FrameFits u instructions places globals (OfFunction p) f →
        Waits u Fun First f.kinds f.rest f.labels → CallerWaits p (held f.locals) r
    caller_waits f r a b y =
        let w = and_parts (locals_wait (answers_to f.rest) f.kinds f.locals) (nat_eq (iterators_in f.locals) (loops_walked f.labels) && nat_le (arrays_owned f.locals) (freed_next f.rest)) b.waits in
        let v = and_parts (nat_eq (iterators_in f.locals) (loops_walked f.labels)) (nat_le (arrays_owned f.locals) (freed_next f.rest)) w.1 in
        let h = locals_hold (answers_to f.rest) f.kinds f.locals w.0 in
        let within : count sort.Array (held f.locals) ≤ freed_next f.rest = (let e = owned_arrays f.locals in let le = leb-true (arrays_owned f.locals) (freed_next f.rest) v.1 in omega (arith, e, le)) in
        let call = call_given p y.function y.is y.called f.rest y.code in
        let missing = call_missing p well y.function y.called call.0 call.1 in
        record {
          function = y.function;
          is_function = y.is;
          called = y.called;
          place = f.rest;
          is_place = y.code;
          at_place = a.rest.same;
          operands = h.0;
          answer_to = ap answers_to a.rest.same ∙ (answers_same bs f.rest ∙ (h.1 ∙ ap (λ (ks : List Kind). suc (length ks) + (h.0 + h.0)) (sym y.kinds)));
          each = held_each made N f.locals r.frame.locals a.locals;
          locals_hold = subst (λ (ks : List Kind). LocalsWait h.0 ks (held f.locals)) (sym y.kinds) h.2;
          walked = local_iterators f.locals ∙ (eqb-true (iterators_in f.locals) (loops_walked f.labels) v.0 ∙ sym (walks_same made N f.labels r.frame.labels a.labels));
          given = call.0;
          is_call = call.1;
          fresh = (let same = call.2 in omega (arith, within, same, missing));
          freed = call.2 ∙ missing;
        }

    pub callers_wait : (g : Callee) (F : List Frame) (rs : List CallerForm) → FramesAs (stays p) bs made N F rs →
        FramesFit u instructions places globals (OfFunction p) F → FramesWork u Fun First g F → CallersWait p (held_waiting F) rs
    callers_wait g [] [] a b y = absurd a
    callers_wait g [] (r ∷ []) a b y = a
    callers_wait g [] (r ∷ (q ∷ rs)) a b y = absurd a
    callers_wait g (f ∷ F) [] a b y = absurd a
    callers_wait g (f ∷ F) (r ∷ rs) a b y = (caller_waits f r a.0 b.0 y.0, callers_wait y.0.function F rs a.1 b.1 y.2)

    -- EACH IS THE ONE THAT ITS CALLER CALLED
    pub each_called : (g : Callee) (F : List Frame) (rs : List CallerForm) (a : FramesAs (stays p) bs made N F rs)
        (b : FramesFit u instructions places globals (OfFunction p) F) (y : FramesWork u Fun First g F) → IsCalled p g (held_waiting F) rs (callers_wait g F rs a b y)
    unfolding callers_wait caller_waits
    each_called g [] [] a b y = absurd a
    each_called g [] (r ∷ []) a b y = y
    each_called g [] (r ∷ (q ∷ rs)) a b y = absurd a
    each_called g (f ∷ F) [] a b y = absurd a
    each_called g (f ∷ F) (r ∷ rs) a b y =
        let at = sym (ap (λ (fs : List Callee). slice_get fs y.0.called) callees) ∙ y.1 in
        (still_there (map (routine_callee p) p.routines) (main_callee p ∷ []) y.0.called g at, each_called y.0.function F rs a.1 b.1 y.2)

  pub values_counted : (rest : List (List (Option Sort))) (rs : List CallerForm) (h : CallersWait p rest rs) → count_waiting sort.Value rest ≤ values_waiting p rest rs h
  values_counted [] rs h = omega arith
  values_counted (os ∷ rest) [] h = absurd h
  values_counted (os ∷ rest) (r ∷ rs) h =
      let x = values_few h.0.operands h.0.function.kinds os h.0.locals_hold in
      let y = values_counted rest rs h.1 in
      omega (arith, x, y)

  pub iterators_counted : (rest : List (List (Option Sort))) (rs : List CallerForm) → CallersWait p rest rs → count_waiting sort.Iterator rest ≡ walks_waiting (numbers_of p) rs
  iterators_counted [] [] h = absurd h
  iterators_counted [] (r ∷ []) h = ap (λ (z : CallerForm). walks (numbers_of p) z.frame.labels + 0) (sym h)
  iterators_counted [] (r ∷ (q ∷ rs)) h = absurd h
  iterators_counted (os ∷ rest) [] h = absurd h
  iterators_counted (os ∷ rest) (r ∷ rs) h = ap₂ (λ x y. x + y) h.0.walked (iterators_counted rest rs h.1)
