-- Operations that give back their operand's number, or refuse it.
use Rattle.std.proofs.Common.{◌≡◌, ⊎_elim, ℕ, suc, ◌-◌, ◌^◌, ◌≤◌, Bool, true, false, List, [], ◌∷◌, Some, None, Result, Ok, Err, ℤ, pos, negsuc, w64, unsigned_abs, refl, sym, ap, ◌∙◌, subst, arith}
use Rattle.std.specs.Prelude.{nat_lt, not, if◌then◌else◌}
use Rattle.std.specs.Int.{cast_unsigned}
use Rattle.std.proofs.lemmas.Bool.{and_parts, lt-ltb, le-ltb, lt-leb, le-leb, ne_eqb, cases_lt}
use Rattle.awk_values.specs.Faults.{fault_number}
use Rattle.awk_values.specs.declared.fault.Fault.{Fault}
use Rattle.awk_values.specs.declared.fault.Fault.TheVariants.{FieldNumber as NoField}
use Rattle.sem_primitives.specs.Numbers.{Number, number_word}
use Rattle.sem_primitives.specs.Sorts.{Row}
use Rattle.sem_primitives.specs.declared.sorts.Argument.TheVariants as argument
use Rattle.sem_primitives.specs.declared.sorts.Answer.TheVariants as answer
use Rattle.sem_primitives.specs.declared.sorts.Constant.TheVariants as constant
use Rattle.sem_primitives.specs.declared.sorts.Sort.TheVariants as sort
use Rattle.sem_primitives.specs.declared.table.Primitive.TheVariants as row
use Rattle.sem_primitives.proofs.Words.{small, constant_again}
use Rattle.wasm_types.specs.Syntax.{Instructions, Done as NoMore}
use Rattle.wasm_types.specs.declared.instr.Simple.TheVariants.{I32Const, Br}
use Rattle.wasm_store.specs.declared.word.Word.TheVariants.{I32, I64}
use Rattle.wasm_store.specs.Words.{flag}
use Rattle.mid_program.specs.declared.mid.Operation.TheVariants.{AsNumber, FieldNumber}
use Rattle.mid_program.specs.Mid.{Kind, Program, PrimitiveAnswer, Do, Codes, End, At, Fixed, Fresh}
use Rattle.mid_program.specs.MidMeaning.{evaluated, all_evaluated}
use Rattle.sem_scripts.specs.Steps.{field_checked, is_field_number}
use Rattle.sem_scripts.specs.ScriptState.{State, Faulted, settled, give}
use Rattle.mid_program.specs.Sorted.{sorted, all_sorted, fit_row}
use Rattle.lower_model.specs.Arithmetic
use Rattle.lower_model.specs.Cells.{Cell, Bits}
use Rattle.lower_model.specs.Emission.{emitted, all_emitted}
use Rattle.lower_model.specs.ImportCalls.{with_some, and_rest, row_in}
use Rattle.lower_model.specs.Machine.{Conf, Label, Frame, at, br, label}
use Rattle.lower_model.specs.Places.{Bases}
use Rattle.lower_model.specs.Small.{emit, ask_row, fail_if}
use Rattle.lower_model.proofs.Observer.{Observer}
use Rattle.lower_model.proofs.Runs.{Goes, then_goes, goes_to, goes_from, by_steps, stays, there, faulted, first}
use Rattle.lower_model.proofs.Locals.{Locals, Number as NumberAt, laid}
use Rattle.lower_model.proofs.Steps.{get_copied}
use Rattle.lower_model.proofs.Relation.{HoldsAt, Fit, Away}
use Rattle.lower_model.proofs.Pieces.{chooses}
use Rattle.lower_model.proofs.Answers.{machine, beside_state, left_beside, row_called, away_plain, Reached}
use Rattle.lower_model.proofs.Conversions.{same_state}
use Rattle.lower_model.proofs.HostCalls.{row_then, extra_enough}
use Rattle.lower_model.proofs.Simulation.{work_of, past, context, Done, ExprOk, CodesOk, RowAt}

-- a field's number is one whose word is not above the greatest
pub field_word : (x : Number) → nat_lt (2 ^ 20) (number_word x) ≡ not (is_field_number x.number)
field_word x = by x.number (small x)
  where
    by : (z : ℤ) → unsigned_abs z ≤ 2 ^ 53 → nat_lt (2 ^ 20) (cast_unsigned w64 z) ≡ not (is_field_number z)
    by (pos k) e = ⊎_elim (λ l. lt-ltb (2 ^ 20) k l ∙ sym (ap not (lt-leb k (2 ^ 20) l))) (λ g. le-ltb (2 ^ 20) k g ∙ sym (ap not (le-leb k (2 ^ 20) g))) (cases_lt (2 ^ 20) k)
    by (negsuc k) e = lt-ltb (2 ^ 20) (2 ^ 64 - suc k) (omega (arith, e)) ∙ sym (ap not (ne_eqb (suc k) 0 (λ q. omega (arith, q))))

module _ (p : Program) (deepest : Observer) (ks : List Kind) (F : List Frame) (b : Bases) (M n : ℕ) where
  -- a fault is kept and the function is left
  pub fails_ok : {K : List Label} {L : List Cell} {k : Instructions} → (f : Fault) (d : ℕ) (σ : State) →
      Goes (machine p deepest ks F) 3 (at ks (Bits (flag true) ∷ []) K L F (fail_if f d k) (beside_state p deepest ks F σ)) (br d ks K L F (left_beside p deepest ks F (Faulted f) σ))
  fails_ok {K = K} {L = L} {k = k} f d σ =
      let mach = machine p deepest ks F in
      then_goes (chooses (emit (I32Const (fault_number f)) (ask_row row.Fail (emit (Br (suc d)) NoMore))) NoMore 1)
      (then_goes
      (goes_to
      (row_called p deepest ks F row.Fail (f, tt) (Bits (I32 (fault_number f)) ∷ []) [] σ refl refl refl (ap (λ o. with_some (and_rest o []) (λ x. with_some (row_in mach.memory [] x.1) (λ rest. Some (x.0, rest)))) (constant_again constant.Fault f)) refl)
      (ap (λ τ. at ks [] (label [] None k ∷ K) L F (emit (Br (suc d)) NoMore) (left_beside p deepest ks F (Faulted f) τ)) (same_state {A = Result (Unit {0}) Fault} σ (Err f))))
      (by_steps 1 refl))

  pub passes_ok : {K : List Label} {L : List Cell} {k : Instructions} → (f : Fault) (d : ℕ) (σ : State) →
      Goes (machine p deepest ks F) 2 (at ks (Bits (flag false) ∷ []) K L F (fail_if f d k) (beside_state p deepest ks F σ)) (at ks [] K L F k (beside_state p deepest ks F σ))
  passes_ok f d σ = by_steps 2 refl

  -- the only operand of a row of one number
  number_row : (es : Codes) (t : ℕ) (l : Locals) (σ : State) (r : Row (argument.Of sort.Number ∷ [])) → RowAt p deepest ks F b M n (argument.Of sort.Number ∷ []) es t l σ r → HoldsAt (PrimitiveAnswer (answer.Of sort.Number)) t l r.0 × (past t es ≡ suc t)
  number_row End t l σ r q = absurd q
  number_row (At e End) t l σ r q = (q.0, refl)
  number_row (At e (At c es)) t l σ r q = absurd q.2
  number_row (At e (Fixed m es)) t l σ r q = absurd q.2
  number_row (At e (Fresh es)) t l σ r q = absurd q.2
  number_row (Fixed m es) t l σ r q = absurd q
  number_row (Fresh es) t l σ r q = absurd q

  pub do_as_number : (es : Codes) → CodesOk p deepest ks F b M n es → ExprOk p deepest ks F b M n (Do AsNumber es)
  unfolding emitted all_emitted evaluated all_evaluated sorted all_sorted
  do_as_number es ok v fs env ts st t u w d k K l σ so us rm ar rd =
      let wanted = argument.Of sort.Number ∷ [] in
      let s2 = and_parts (fit_row fs wanted es) (all_sorted (context p deepest ks F b M n) fs es) so in
      let ee = extra_enough es in
      let P = Done p deepest ks F b M n v (Do AsNumber es) fs env ts st t u w k K l σ in
      row_then p deepest ks F b M n wanted es ok fs env ts st t u w d k K l σ 0 (work_of (Do AsNumber es)) P (λ r. give r.0)
      s2.0 s2.1 us (omega (arith, rm)) ar rd (omega (arith, ee))
      (λ r τ c le a.
      let q = number_row es t a.next τ r a.row in
      there (machine p deepest ks F) M 0 0 c c r.0 τ P (Away p deepest ks F b d K) stays (omega arith)
      (record { next = a.next; comes = a.comes; fit = subst (λ z. Fit p deepest ks F z u w a.next τ) q.1 a.fit; same = a.same; own = a.own; kept = a.kept; stands = q.0; meant = tt }))

  pub do_field_number : (es : Codes) → CodesOk p deepest ks F b M n es → ExprOk p deepest ks F b M n (Do FieldNumber es)
  unfolding emitted all_emitted evaluated all_evaluated sorted all_sorted
  do_field_number es ok v fs env ts st t u w d k K l σ so us rm ar rd =
      let wanted = argument.Of sort.Number ∷ [] in
      let s2 = and_parts (fit_row fs wanted es) (all_sorted (context p deepest ks F b M n) fs es) so in
      let ee = extra_enough es in
      let P = Done p deepest ks F b M n v (Do FieldNumber es) fs env ts st t u w k K l σ in
      let Q = Away p deepest ks F b d K in
      row_then p deepest ks F b M n wanted es ok fs env ts st t u w d (Arithmetic.field_checked b t d k) K l σ 5 (work_of (Do FieldNumber es)) P (λ r. settled (field_checked r.0))
      s2.0 s2.1 us (omega (arith, rm)) ar rd (omega (arith, ee))
      (λ r τ c le a.
      let q = number_row es t a.next τ r a.row in
      let f1 = subst (λ z. Fit p deepest ks F z u w a.next τ) q.1 a.fit in
      let x = r.0 in
      let go1 = goes_from a.comes (then_goes (get_copied b a.next (NumberAt t) (Bits (I64 (number_word x))) (omega (arith, rm)) q.0.1 refl) (goes_to (by_steps 1 refl) (ap (λ f. at ks (Bits (flag f) ∷ []) K (laid b a.next) F (fail_if NoField d k) (beside_state p deepest ks F τ)) (field_word x)))) in
      first (machine p deepest ks F) M 2 3 5 τ.turns c _ P Q _ go1 (omega arith)
      (checked x d k K a.next τ P (is_field_number x.number) (suc t) u w f1
      (record { next = a.next; comes = refl; fit = f1; same = a.same; own = a.own; kept = a.kept; stands = q.0; meant = tt })))
    where
      checked : (x : Number) (d : ℕ) (k : Instructions) (K : List Label) (l1 : Locals) (τ : State) (P : Number → State → Conf → Type 0) (y : Bool) (t u w : ℕ) → Fit p deepest ks F t u w l1 τ → P x τ (at ks [] K (laid b l1) F k (beside_state p deepest ks F τ)) →
          Reached p deepest ks F b M 3 τ.turns (at ks (Bits (flag (not y)) ∷ []) K (laid b l1) F (fail_if NoField d k) (beside_state p deepest ks F τ)) P (Away p deepest ks F b d K) (settled (if y then Ok x else Err NoField) τ)
      checked x d k K l1 τ P true t u w ft q = there (machine p deepest ks F) M 3 2 _ _ x τ P (Away p deepest ks F b d K) (passes_ok NoField d τ) (omega arith) q
      checked x d k K l1 τ P false t u w ft q = faulted (machine p deepest ks F) M 3 3 _ _ NoField τ P (Away p deepest ks F b d K) (fails_ok NoField d τ) (omega arith)
          (away_plain p deepest ks F b M t u w d K l1 τ NoField ft)
