-- An assignment of the command line that is pending: its name is one of the script's that is no array, and that name takes the value.
use Rattle.std.proofs.Common.{◌≡◌, ℕ, zero, suc, ◌+◌, ◌*◌, ◌<◌, ◌≤◌, Bool, true, false, List, [], ◌∷◌, length, Some, None, Option, refl, sym, ap, ◌∙◌, true≢false, arith}
use Rattle.std.specs.Prelude.{nat_eq, is_some, if◌then◌else◌}
use Rattle.std.proofs.lemmas.Bool.{ne_eqb, eq-eqb}
use Rattle.awk_values.specs.declared.value.Value.TheVariants.{StrNum}
use Rattle.sem_primitives.specs.Assignments.{declared}
use Rattle.sem_primitives.specs.InputMeaning.{name_of, value_of}
use Rattle.sem_primitives.specs.Texts.{same_text}
use Rattle.sem_primitives.specs.TextMeaning.{given}
use Rattle.sem_primitives.specs.declared.constants.NameKind.{NameKind}
use Rattle.sem_primitives.specs.declared.constants.NameKind.TheVariants.{Scalar, ArrayOrFunction}
use Rattle.sem_primitives.specs.declared.table.Primitive.TheVariants as row
use Rattle.wasm_types.specs.Syntax.{Instructions, Done as NoMore}
use Rattle.wasm_types.specs.declared.instr.CvtOp.TheVariants.{I64ExtendI32U}
use Rattle.wasm_types.specs.declared.instr.Simple.TheVariants.{LocalSet, GlobalSet, I64Const, Convert}
use Rattle.wasm_store.specs.Words.{flag}
use Rattle.wasm_store.specs.declared.word.Word.TheVariants.{I32, I64}
use Rattle.sem_scripts.specs.Meaning.{assign_pending}
use Rattle.mid_program.specs.Mid.{Kind, Boxed, Unboxed, ArrayKind, Program, Declared, Routine}
use Rattle.sem_scripts.specs.ScriptState.{State, Gives, go_on, change, call as does_row, with_global, global_value}
use Rattle.mid_program.specs.Sorted.{has_kind, same_kind, scalar_kind, kinds_of}
use Rattle.lower_model.specs.Cells.{Bits, Held, Gone, is_owned}
use Rattle.lower_model.specs.Emission.{assigned, assigned_by_number, pending_assigned}
use Rattle.lower_model.specs.Machine.{Label, Frame, at, label, number_pending}
use Rattle.lower_model.specs.Places.{Bases, handle_local, number_local}
use Rattle.lower_model.specs.Small.{emit, ask_row, when, text_beside, moved_out}
use Rattle.lower_model.specs.Small
use Rattle.lower_model.proofs.Observer.{Observer}
use Rattle.lower_model.proofs.Runs.{Goes, then_goes, goes_to, by_steps, stays}
use Rattle.lower_model.proofs.Regions.{upd_same, upd_other}
use Rattle.lower_model.proofs.Locals.{Locals, Hand, Number as NumberAt, with_at, laid}
use Rattle.lower_model.proofs.Globals.{Hand as NameHand, Number as NameNumber, global_of, with_global_at, has_global_with, placed_twice}
use Rattle.lower_model.proofs.Steps.{empty, set_ok, moved_out_ok}
use Rattle.lower_model.proofs.GlobalSteps.{storing, while_assigning, assigned_comes, global_moved, global_set_ok}
use Rattle.lower_model.proofs.Pieces.{chooses, closes, number_is_ok, drop_ok}
use Rattle.lower_model.proofs.State.{cells_of, host_of, arrays_before, name_hand, name_word}
use Rattle.lower_model.proofs.Relation.{kind_told, globals_told, routines_told}
use Rattle.lower_model.proofs.Answers.{machine, beside_state, row_asked, done_by}
use Rattle.lower_model.proofs.Conversions.{bare_is, same_state}
use Rattle.lower_model.proofs.InputLaws.{IsPending}
use Rattle.lower_model.proofs.SettingNames.{boxed_written, text_dropped_ok}
use Rattle.lower_model.proofs.Written.{global_written}
use Rattle.lower_model.proofs.Simulation.{layout}
use Rattle.lower_model.proofs.Reading.{kind_below, kind_found}

-- Names that are announced as scalars are globals that are no arrays.

pub record Told (ds : List Declared) (i m : ℕ) : Type 0 where
  pub place : ℕ
  pub it : m ≡ i + place
  pub unboxed : Bool
  pub has : has_kind (kinds_of ds) place (scalar_kind unboxed) ≡ true

abbrev number_told : Option (ℕ × NameKind) → ℕ
number_told (Some x) = x.0
number_told None = 0

abbrev told_as : ℕ → NameKind → Option (ℕ × NameKind)
told_as i k = Some (i, k)

abbrev is_scalar : NameKind → Bool
is_scalar Scalar = true
is_scalar ArrayOrFunction = false

abbrev scalar_told : Option (ℕ × NameKind) → Bool
scalar_told (Some x) = is_scalar x.1
scalar_told None = false

no_routine : (rs : List Routine) (i m : ℕ) (name : List ℕ) → declared i name (routines_told rs) ≡ told_as m Scalar → ⊥
no_routine [] i m name e = true≢false (sym (ap scalar_told e))
no_routine (r ∷ rs) i m name e = by (λ q. no_routine rs (i + 1) m name q) (same_text name r.name) e
  where
    by : (declared (i + 1) name (routines_told rs) ≡ told_as m Scalar → ⊥) → (t : Bool) → (if t then told_as i ArrayOrFunction else declared (i + 1) name (routines_told rs)) ≡ told_as m Scalar → ⊥
    by on true q = true≢false (sym (ap scalar_told q))
    by on false q = on q

first_told : (k : Kind) (ds : List Declared) (d : Declared) (i m : ℕ) → d.kind ≡ k → told_as i (kind_told k) ≡ told_as m Scalar → Told (d ∷ ds) i m
first_told Boxed ds d i m q e = record { place = 0; it = let z = ap number_told e in omega (arith, z); unboxed = false; has = ap (λ k. same_kind k Boxed) q }
first_told Unboxed ds d i m q e = record { place = 0; it = let z = ap number_told e in omega (arith, z); unboxed = true; has = ap (λ k. same_kind k Unboxed) q }
first_told ArrayKind ds d i m q e = absurd (true≢false (sym (ap scalar_told e)))

next_told : (ds : List Declared) (d : Declared) (i m : ℕ) → Told ds (i + 1) m → Told (d ∷ ds) i m
next_told ds d i m r = record { place = suc r.place; it = let z = r.it in omega (arith, z); unboxed = r.unboxed; has = r.has }

pub told_name : (ds : List Declared) (rs : List Routine) (i m : ℕ) (name : List ℕ) → declared i name (globals_told ds (routines_told rs)) ≡ told_as m Scalar → Told ds i m
told_name [] rs i m name e = absurd (no_routine rs i m name e)
told_name (d ∷ ds) rs i m name e = by (λ q. told_name ds rs (i + 1) m name q) (same_text name d.name) e
  where
    by : (declared (i + 1) name (globals_told ds (routines_told rs)) ≡ told_as m Scalar → Told ds (i + 1) m) → (t : Bool) → (if t then told_as i (kind_told d.kind) else declared (i + 1) name (globals_told ds (routines_told rs))) ≡ told_as m Scalar → Told (d ∷ ds) i m
    by on true q = first_told d.kind ds d i m refl q
    by on false q = next_told ds d i m (on q)

module _ (p : Program) (deepest : Observer) (ks : List Kind) (F : List Frame) (b : Bases) (M n : ℕ) where
  -- code comes to the code after it, where the assignment to this name is made
  pub record Makes (most : ℕ) (code k : Instructions) (K : List Label) (l : Locals) (name : Option ℕ) (σ : State) (l1 : Locals) (σ1 : State) : Type 0 where
    pub steps : ℕ
    pub few : steps ≤ most
    pub goes : Goes (machine p deepest ks F) steps (at ks [] K (laid b l) F code (while_assigning name (beside_state p deepest ks F σ))) (at ks [] K (laid b l1) F k (beside_state p deepest ks F σ1))

  -- a name takes a text
  one_assigned : (t1 : Bool) (i t : ℕ) (text : List ℕ) (k : Instructions) (K : List Label) (l : Locals) (σ : State) → has_kind (kinds_of p.globals) i (scalar_kind t1) ≡ true → length σ.globals ≡ length p.globals → suc t < b.temporaries → l.hand t ≡ Held (StrNum text) → l.hand (suc t) ≡ empty →
      Makes 12 (assigned (layout p deepest ks F b M n) (scalar_kind t1) i t k) k K l (Some i) σ (with_at l (Hand t) empty) (with_global i (StrNum text) σ)
  one_assigned false i t text k K l σ hk sz lt e e1 =
      let nn = length (kinds_of p.globals) in
      let li = kind_below (kinds_of p.globals) i Boxed hk in
      let kh = kind_found (kinds_of p.globals) i Boxed hk in
      let g = cells_of (kinds_of p.globals) 0 σ in
      let g1 = with_global_at p.ranges nn g (NameHand i) Gone in
      let old = global_value i σ in
      let v = StrNum text in
      record {
        steps = 5;
        few = omega arith;
        goes = then_goes (global_moved p.ranges nn g (NameHand i) (Held old) li (ap (λ z. name_hand z (suc (suc (arrays_before (kinds_of p.globals) i))) old) kh))
            (then_goes (drop_ok old [])
            (then_goes (moved_out_ok b l (Hand t) (Held v) (omega (arith, lt)) e)
            (goes_to (global_set_ok p.ranges nn g1 (NameHand i) (Held v) li (ap is_owned (has_global_with p.ranges nn g (NameHand i) Gone)) (assigned_comes p.ranges _ i _ (Held v)))
            (ap (λ m. at ks [] K (laid b (with_at l (Hand t) empty)) F k (storing m (host_of σ None))) (placed_twice p.ranges nn g (NameHand i) Gone (Held v) li ∙ boxed_written p deepest ks F b M n i v σ sz hk)))));
      }
  one_assigned true i t text k K l σ hk sz lt e e1 =
      let nn = length (kinds_of p.globals) in
      let li = kind_below (kinds_of p.globals) i Unboxed hk in
      let kh = kind_found (kinds_of p.globals) i Unboxed hk in
      let g = cells_of (kinds_of p.globals) 0 σ in
      let v = StrNum text in
      let g2 = with_global_at p.ranges nn g (NameHand i) (Held v) in
      let l1 = with_at l (Hand t) empty in
      let k3 = emit (I64Const text_beside) (emit (GlobalSet (global_of p.ranges nn (NameNumber i))) k) in
      let k2 = emit (GlobalSet (global_of p.ranges nn (NameHand i))) k3 in
      let s = text_dropped_ok p deepest ks F b M n (Some i) i (moved_out (handle_local b t) k2) K l σ hk (bare_is (global_value i σ)) in
      let q = s.few in
      record {
        steps = s.steps + 4;
        few = omega (arith, q);
        goes = then_goes s.goes
            (then_goes (moved_out_ok b l (Hand t) (Held v) (omega (arith, lt)) e)
            (then_goes (goes_to (global_set_ok p.ranges nn (with_global_at p.ranges nn g (NameHand i) empty) (NameHand i) (Held v) li (ap is_owned (has_global_with p.ranges nn g (NameHand i) empty)) (assigned_comes p.ranges _ i _ (Held v)))
            (ap (λ m. at ks [] K (laid b l1) F k3 (storing m (host_of σ None))) (placed_twice p.ranges nn g (NameHand i) empty (Held v) li)))
            (goes_to (global_set_ok p.ranges nn g2 (NameNumber i) (Bits (I64 text_beside)) li refl refl)
            (ap (λ m. at ks [] K (laid b l1) F k (storing m (host_of σ None)))
            (global_written p deepest ks F b M n i v σ (Held v) (Bits (I64 text_beside)) sz li
            (ap (λ z. name_hand z (suc (suc (arrays_before (kinds_of p.globals) i))) v) kh)
            (ap (λ z. Bits (I64 (name_word z v))) kh))))));
      }

  -- Names are tried one after the other.

  module _ (t m : ℕ) (K : List Label) (k : Instructions) (σ : State) (lt : suc t < b.temporaries) where
    not_this : (name : Option ℕ) (i : ℕ) (l : Locals) (block rest : Instructions) → l.number t ≡ Bits (I64 m) → nat_eq m i ≡ false →
        Goes (machine p deepest ks F) 4 (at ks [] K (laid b l) F (Small.number_is (number_local b t) i (when block rest)) (while_assigning name (beside_state p deepest ks F σ))) (at ks [] K (laid b l) F rest (while_assigning name (beside_state p deepest ks F σ)))
    not_this name i l block rest e ne =
        then_goes (goes_to (number_is_ok b l t m i (omega (arith, lt)) e) (ap (λ f. at ks (Bits (flag f) ∷ []) K (laid b l) F (when block rest) (while_assigning name (beside_state p deepest ks F σ))) ne))
        (then_goes (chooses block NoMore 0) closes)

    passed : (kinds : List Kind) (i : ℕ) (l : Locals) → m < i → l.number t ≡ Bits (I64 m) → Makes (4 * length kinds) (assigned_by_number (layout p deepest ks F b M n) kinds i t k) k K l None σ l σ
    passed [] i l le e = record { steps = 0; few = omega arith; goes = stays }
    passed (ArrayKind ∷ kinds) i l le e = let r = passed kinds (suc i) l (omega (arith, le)) e in let q = r.few in record { steps = r.steps; few = omega (arith, q); goes = r.goes }
    passed (Boxed ∷ kinds) i l le e = let r = passed kinds (suc i) l (omega (arith, le)) e in let q = r.few in record { steps = 4 + r.steps; few = omega (arith, q); goes = then_goes (not_this None i l _ _ e (ne_eqb m i (λ z. omega (arith, z, le)))) r.goes }
    passed (Unboxed ∷ kinds) i l le e = let r = passed kinds (suc i) l (omega (arith, le)) e in let q = r.few in record { steps = 4 + r.steps; few = omega (arith, q); goes = then_goes (not_this None i l _ _ e (ne_eqb m i (λ z. omega (arith, z, le)))) r.goes }

    -- the name that it is
    this_one : (t1 : Bool) (kinds : List Kind) (i : ℕ) (text : List ℕ) (l : Locals) → m ≡ i → has_kind (kinds_of p.globals) m (scalar_kind t1) ≡ true → length σ.globals ≡ length p.globals → l.number t ≡ Bits (I64 m) → l.hand t ≡ Held (StrNum text) → l.hand (suc t) ≡ empty → (rest : Instructions) →
        Makes 16 (Small.number_is (number_local b t) i (when (assigned (layout p deepest ks F b M n) (scalar_kind t1) i t NoMore) rest)) rest K l (Some m) σ (with_at l (Hand t) empty) (with_global m (StrNum text) σ)
    this_one t1 kinds i text l q hk sz e e1 e2 rest =
        let code = assigned (layout p deepest ks F b M n) (scalar_kind t1) i t NoMore in
        let a = one_assigned t1 i t text NoMore (label [] None rest ∷ K) l σ (ap (λ z. has_kind (kinds_of p.globals) z (scalar_kind t1)) (sym q) ∙ hk) sz lt e1 e2 in
        let fa = a.few in
        record {
          steps = 3 + (a.steps + 1);
          few = omega (arith, fa);
          goes = goes_to
              (then_goes (goes_to (then_goes (goes_to (number_is_ok b l t m i (omega (arith, lt)) e) (ap (λ f. at ks (Bits (flag f) ∷ []) K (laid b l) F (when code rest) (while_assigning (Some m) (beside_state p deepest ks F σ))) (eq-eqb m i q))) (chooses code NoMore 1))
              (ap (λ z. at ks [] (label [] None rest ∷ K) (laid b l) F code (while_assigning (Some z) (beside_state p deepest ks F σ))) q))
              (then_goes a.goes closes))
              (ap (λ z. at ks [] K (laid b (with_at l (Hand t) empty)) F rest (beside_state p deepest ks F (with_global z (StrNum text) σ))) (sym q));
        }

  assigned_there : (t1 : Bool) (kinds : List Kind) (i j t m : ℕ) (text : List ℕ) (K : List Label) (k : Instructions) (l : Locals) (σ : State) → suc t < b.temporaries → m ≡ i + j → has_kind kinds j (scalar_kind t1) ≡ true → has_kind (kinds_of p.globals) m (scalar_kind t1) ≡ true → length σ.globals ≡ length p.globals → l.number t ≡ Bits (I64 m) → l.hand t ≡ Held (StrNum text) → l.hand (suc t) ≡ empty →
      Makes (16 + 4 * length kinds) (assigned_by_number (layout p deepest ks F b M n) kinds i t k) k K l (Some m) σ (with_at l (Hand t) empty) (with_global m (StrNum text) σ)
  assigned_there t1 [] i j t m text K k l σ lt q h hk sz e e1 e2 = absurd (true≢false (sym h))
  assigned_there false (Boxed ∷ kinds) i zero t m text K k l σ lt q h hk sz e e1 e2 =
      let a = this_one t m K k σ lt false kinds i text l (omega (arith, q)) hk sz e e1 e2 (assigned_by_number (layout p deepest ks F b M n) kinds (suc i) t k) in
      let r = passed t m K k (with_global m (StrNum text) σ) lt kinds (suc i) (with_at l (Hand t) empty) (omega (arith, q)) e in
      let fa = a.few in
      let fr = r.few in
      record { steps = a.steps + r.steps; few = omega (arith, fa, fr); goes = then_goes a.goes r.goes }
  assigned_there true (Unboxed ∷ kinds) i zero t m text K k l σ lt q h hk sz e e1 e2 =
      let a = this_one t m K k σ lt true kinds i text l (omega (arith, q)) hk sz e e1 e2 (assigned_by_number (layout p deepest ks F b M n) kinds (suc i) t k) in
      let r = passed t m K k (with_global m (StrNum text) σ) lt kinds (suc i) (with_at l (Hand t) empty) (omega (arith, q)) e in
      let fa = a.few in
      let fr = r.few in
      record { steps = a.steps + r.steps; few = omega (arith, fa, fr); goes = then_goes a.goes r.goes }
  assigned_there true (Boxed ∷ kinds) i zero t m text K k l σ lt q h hk sz e e1 e2 = absurd (true≢false (sym h))
  assigned_there false (Unboxed ∷ kinds) i zero t m text K k l σ lt q h hk sz e e1 e2 = absurd (true≢false (sym h))
  assigned_there true (ArrayKind ∷ kinds) i zero t m text K k l σ lt q h hk sz e e1 e2 = absurd (true≢false (sym h))
  assigned_there false (ArrayKind ∷ kinds) i zero t m text K k l σ lt q h hk sz e e1 e2 = absurd (true≢false (sym h))
  assigned_there t1 (ArrayKind ∷ kinds) i (suc j) t m text K k l σ lt q h hk sz e e1 e2 =
      let r = assigned_there t1 kinds (suc i) j t m text K k l σ lt (omega (arith, q)) h hk sz e e1 e2 in
      let fr = r.few in
      record { steps = r.steps; few = omega (arith, fr); goes = r.goes }
  assigned_there t1 (Boxed ∷ kinds) i (suc j) t m text K k l σ lt q h hk sz e e1 e2 =
      let r = assigned_there t1 kinds (suc i) j t m text K k l σ lt (omega (arith, q)) h hk sz e e1 e2 in
      let fr = r.few in
      record { steps = 4 + r.steps; few = omega (arith, fr); goes = then_goes (not_this t m K k σ lt (Some m) i l _ _ e (ne_eqb m i (λ z. omega (arith, z, q)))) r.goes }
  assigned_there t1 (Unboxed ∷ kinds) i (suc j) t m text K k l σ lt q h hk sz e e1 e2 =
      let r = assigned_there t1 kinds (suc i) j t m text K k l σ lt (omega (arith, q)) h hk sz e e1 e2 in
      let fr = r.few in
      record { steps = 4 + r.steps; few = omega (arith, fr); goes = then_goes (not_this t m K k σ lt (Some m) i l _ _ e (ne_eqb m i (λ z. omega (arith, z, q)))) r.goes }

  -- The whole of it.

  -- the locals once it is made
  abbrev pub made_locals : (t m : ℕ) (text : List ℕ) → Locals → Locals
  made_locals t m text l = with_at (with_at (with_at l (NumberAt t) (Bits (I64 m))) (Hand t) (Held (StrNum text))) (Hand t) empty

  -- and the state
  abbrev pub made_state : (m : ℕ) (text : List ℕ) → State → State
  made_state m text σ = with_global m (StrNum text) (done_by p deepest ks F row.PendingValue tt σ)

  pub pending_meant : (σ : State) (i : IsPending σ.shared.inner) → assign_pending σ ≡ Gives tt (made_state i.number i.text σ)
  pending_meant σ i =
      ap (λ τ. go_on (does_row row.PendingValue tt τ) (λ v. change (with_global (name_of σ.shared.inner.pending) v))) (same_state σ (name_of σ.shared.inner.pending))
      ∙ ap (λ o. Gives tt (with_global (name_of o) (given (value_of o)) (done_by p deepest ks F row.PendingValue tt σ))) i.there

  pub pending_made : (t : ℕ) (K : List Label) (k : Instructions) (l : Locals) (σ : State) → (i : IsPending σ.shared.inner) → σ.shared.inner.names ≡ globals_told p.globals (routines_told p.routines) → length σ.globals ≡ length p.globals → suc t < b.temporaries → is_owned (l.number t) ≡ false → l.hand t ≡ empty → l.hand (suc t) ≡ empty →
      Makes (21 + 4 * length (kinds_of p.globals)) (pending_assigned (layout p deepest ks F b M n) t k) k K l None σ (made_locals t i.number i.text l) (made_state i.number i.text σ)
  pending_made t K k l σ i nm sz lt on e e1 =
      let mach = machine p deepest ks F in
      let m = i.number in
      let v = StrNum i.text in
      let tl = told_name p.globals p.routines 0 m i.name (ap (declared 0 i.name) (sym nm) ∙ i.told) in
      let there : is_some σ.shared.inner.pending ≡ true = ap is_some i.there in
      let l1 = with_at l (NumberAt t) (Bits (I64 m)) in
      let l2 = with_at l1 (Hand t) (Held v) in
      let k3 = assigned_by_number (layout p deepest ks F b M n) (kinds_of p.globals) 0 t k in
      let k2 = emit (LocalSet (handle_local b t)) k3 in
      let k1 = emit (Convert I64ExtendI32U) (emit (LocalSet (number_local b t)) (ask_row row.PendingValue k2)) in
      let τ = done_by p deepest ks F row.PendingValue tt σ in
      let z = tl.it in
      let pm : m ≡ tl.place = omega (arith, z) in
      let a = assigned_there tl.unboxed (kinds_of p.globals) 0 tl.place t m i.text K k l2 τ lt tl.it tl.has (ap (λ x. has_kind (kinds_of p.globals) x (scalar_kind tl.unboxed)) pm ∙ tl.has) sz (upd_same l.number t (Bits (I64 m))) (upd_same l1.hand t (Held v)) (upd_other l1.hand t (suc t) (Held v) (λ q. omega (arith, q)) ∙ e1) in
      let fa = a.few in
      record {
        steps = 5 + a.steps;
        few = omega (arith, fa);
        goes = then_goes
            (then_goes (goes_to (row_asked p deepest ks F row.PendingName tt [] [] None σ refl refl refl there)
            (ap (λ o. at ks (Bits (I32 (name_of o)) ∷ []) K (laid b l) F k1 (while_assigning (number_pending o) (beside_state p deepest ks F (done_by p deepest ks F row.PendingName tt σ)))) i.there
            ∙ ap (λ σ1. at ks (Bits (I32 m) ∷ []) K (laid b l) F k1 (while_assigning (Some m) (beside_state p deepest ks F σ1))) (same_state σ (name_of σ.shared.inner.pending))))
            (then_goes (by_steps 1 refl)
            (then_goes (set_ok b l (NumberAt t) (Bits (I64 m)) (omega (arith, lt)) on)
            (then_goes (goes_to (row_asked p deepest ks F row.PendingValue tt [] [] (Some m) σ refl refl refl there)
            (ap (λ o. at ks (Held (given (value_of o)) ∷ []) K (laid b l1) F k2 (while_assigning (Some m) (beside_state p deepest ks F τ))) i.there))
            (set_ok b l1 (Hand t) (Held v) (omega (arith, lt)) (ap is_owned e))))))
            a.goes;
      }
