-- A field whose number is a constant is read without a test: it is there, whatever the record.
use Rattle.std.proofs.Common.{◌≡◌, ℕ, suc, ◌^◌, Bool, true, false, if◌then◌else◌, List, [], ◌∷◌, w64, Option, Some, None, Result, Ok, Err, ℤ, pos, negsuc, refl, sym, ap, ◌∙◌, subst, arith, T, nat_le, true≢false}
use Rattle.std.specs.Int.{cast_unsigned}
use Rattle.std.proofs.lemmas.Bool.{leb-true, le-leb, ne_eqb}
use Rattle.awk_values.specs.declared.fault.Fault.{Fault}
use Rattle.awk_values.specs.declared.fault.Fault.TheVariants.{FieldNumber}
use Rattle.awk_values.specs.declared.value.Value.{Value}
use Rattle.sem_primitives.specs.FieldMeaning.{field_number, field_of}
use Rattle.sem_primitives.specs.Rows.{field_row}
use Rattle.sem_primitives.specs.Numbers.{Number as AnyNumber, number_of, number_word}
use Rattle.sem_primitives.specs.SharedState.{gives, shared_after, ◌>>=◌}
use Rattle.sem_primitives.specs.declared.sorts.Answer.TheVariants as answer
use Rattle.sem_primitives.specs.declared.sorts.Argument.TheVariants as argument
use Rattle.sem_primitives.specs.declared.sorts.Sort.TheVariants as sort
use Rattle.sem_primitives.specs.declared.table.Primitive.{Primitive}
use Rattle.sem_primitives.specs.declared.table.Primitive.TheVariants as row
use Rattle.sem_primitives.proofs.Words.{number_again, word_again}
use Rattle.wasm_types.specs.Syntax.{Instructions}
use Rattle.wasm_store.specs.declared.word.Word.TheVariants.{I64}
use Rattle.mid_program.specs.declared.mid.Operation.{Operation}
use Rattle.mid_program.specs.declared.mid.Operation.TheVariants.{Host}
use Rattle.mid_program.specs.Mid.{Kind, Program, Code, Do, Number, Codes, End, At}
use Rattle.mid_program.specs.MidMeaning.{evaluated, all_evaluated, or_zero}
use Rattle.sem_scripts.specs.ScriptState.{State, Outcome, Gives, call, settled}
use Rattle.mid_program.specs.Sorted.{sorted, all_sorted}
use Rattle.sem_scripts.specs.Steps.{is_field_number}
use Rattle.lower_model.specs.Cells.{Cell, Bits, Held, is_owned}
use Rattle.lower_model.specs.Emission.{emitted, all_emitted, all_converted, performed, field_in, field_at, one_field, constant_field, field_or}
use Rattle.lower_model.specs.ImportCalls.{with_some, and_rest, row_in}
use Rattle.lower_model.specs.Machine.{Label, Frame, at}
use Rattle.lower_model.specs.Places.{Bases, handle_local}
use Rattle.lower_model.specs.Small.{ask_row, emit as then_does}
use Rattle.wasm_types.specs.declared.instr.Simple.TheVariants.{LocalSet}
use Rattle.lower_model.proofs.Observer.{Observer}
use Rattle.lower_model.proofs.Runs.{Goes, goes_to, then_goes, there}
use Rattle.lower_model.proofs.Locals.{Hand, laid}
use Rattle.lower_model.proofs.Steps.{set_ok}
use Rattle.lower_model.proofs.Relation.{same_self, Away}
use Rattle.lower_model.proofs.Answers.{machine, beside_state, row_called, reply, after_reply, put_value, Reached}
use Rattle.lower_model.proofs.Conversions.{same_state}
use Rattle.lower_model.proofs.Simulation.{work_of, layout, Done, ExprOk, CodesOk}
use Rattle.lower_model.proofs.Expressions.{host_expr, put_done}

-- what is read so is a field whose number is a constant

constant_is : (e : Code) (z : ℤ) → constant_field e ≡ Some z → (e ≡ Number z) × (is_field_number z ≡ true)
constant_is (Number y) z e = by (is_field_number y) refl e
  where
    by : (t : Bool) → is_field_number y ≡ t → (if t then Some y else None) ≡ Some z → (Number y ≡ Number z) × (is_field_number z ≡ true)
    by true i q = let same : y ≡ z = cc in (ap Number same, subst (λ (x : ℤ). is_field_number x ≡ true) same i)
    by false i q = cc
constant_is _ z e = cc

one_is : (es : Codes) (z : ℤ) → one_field es ≡ Some z → (es ≡ At (Number z) End) × (is_field_number z ≡ true)
one_is (At c End) z e = let r = constant_is c z e in (ap (λ (x : Code). At x End) r.0, r.1)
one_is _ z e = cc

field_is : (q : Primitive) (es : Codes) (z : ℤ) → field_in (Host q) es ≡ Some z → (Do (Host q) es ≡ Do (Host row.Field) (At (Number z) End)) × (is_field_number z ≡ true)
field_is row.Field es z e = let r = one_is es z e in (ap (Do (Host row.Field)) r.0, r.1)
field_is _ es z e = cc

abbrev pub field_code : ℤ → Code
field_code z = Do (Host row.Field) (At (Number z) End)

pub operation_is : (o : Operation) (es : Codes) (z : ℤ) → field_in o es ≡ Some z → (Do o es ≡ field_code z) × (is_field_number z ≡ true)
operation_is (Host q) es z e = field_is q es z e
operation_is _ es z e = cc

pub field_at_is : (e : Code) (z : ℤ) → field_at e ≡ Some z → (e ≡ field_code z) × (is_field_number z ≡ true)
field_at_is (Do o es) z e = operation_is o es z e
field_at_is _ z e = cc

-- what a field with such a number is

field_there : (k : ℕ) (x : AnyNumber) (σ : State) → nat_le k (2 ^ 20) ≡ true → x.number ≡ pos k → field_row x σ.shared.inner ≡ Ok (field_of k σ.shared.inner)
field_there k x σ is e =
    let found : Result ℕ Fault → Result Value Fault = λ r. r >>= λ j. Ok (field_of j σ.shared.inner) in
    ap (λ (z : ℤ). found (field_number z)) e ∙ ap (λ (t : Bool). found (if t then Ok k else Err FieldNumber)) is

no_negative : (j : ℕ) → is_field_number (negsuc j) ≡ true → ⊥
no_negative j e = true≢false (sym e ∙ ne_eqb (suc j) 0 (λ q. omega (arith, q)))

module _ (p : Program) (deepest : Observer) (ks : List Kind) (F : List Frame) (b : Bases) (M n : ℕ) where
  -- such a field: what it means, and that its value comes onto the stack, whatever lies there
  pub record FieldThere (z : ℤ) (σ : State) : Type 0 where
    pub value : Value
    pub means : call row.Field (or_zero (number_of z), tt) σ ≡ Gives value σ
    pub pushes : (vs : List Cell) (K : List Label) (L : List Cell) (k : Instructions) → Goes (machine p deepest ks F) 1 (at ks (Bits (I64 (cast_unsigned w64 z)) ∷ vs) K L F (ask_row row.Field k) (beside_state p deepest ks F σ)) (at ks (Held value ∷ vs) K L F k (beside_state p deepest ks F σ))

  pub field_found : (z : ℤ) (σ : State) → is_field_number z ≡ true → FieldThere z σ
  field_found (negsuc j) σ is = absurd (no_negative j is)
  field_found (pos j) σ is =
      let mach = machine p deepest ks F in
      let few = leb-true j (2 ^ 20) is in
      let x0 : AnyNumber = record { number = pos j; in_range = subst T (sym (le-leb j (2 ^ 53) (omega (arith, few)))) tt } in
      let same : or_zero (number_of (pos j)) ≡ x0 = ap or_zero (number_again x0) in
      let a : Value = field_of j σ.shared.inner in
      let found : field_row x0 σ.shared.inner ≡ Ok a = field_there j x0 σ is refl in
      let after : Result Value Fault → State = λ r. record σ { shared = shared_after σ.shared (gives σ.shared r) } in
      record {
        value = a;
        means = ap (λ (x : AnyNumber). call row.Field (x, tt) σ) same
            ∙ ap (λ (r : Result Value Fault). settled r (after r)) found
            ∙ ap (Gives a) (same_state {A = Result Value Fault} σ (Ok a));
        pushes = λ vs K L k. goes_to
            (row_called p deepest ks F row.Field (x0, tt) (Bits (I64 (number_word x0)) ∷ []) vs σ refl refl refl
            (ap (λ o. with_some (and_rest o []) (λ i. with_some (row_in mach.memory [] i.1) (λ rest. Some (i.0, rest)))) (word_again x0)) refl)
            (ap (λ (r : Result Value Fault). at ks (reply (answer.Of sort.Value) r vs) K L F k (after_reply p deepest ks F r (after r))) found
            ∙ ap (λ τ. at ks (Held a ∷ vs) K L F k (beside_state p deepest ks F τ)) (same_state {A = Result Value Fault} σ (Ok a)));
      }

  literal_field : (z : ℤ) → is_field_number z ≡ true → ExprOk p deepest ks F b M n (field_code z)
  unfolding emitted all_emitted evaluated all_evaluated sorted all_sorted
  literal_field z is v fs env ts st t u w d k K l σ so us rm ar rd =
      let mach = machine p deepest ks F in
      let y = layout p deepest ks F b M n in
      let e = field_code z in
      let found = field_found z σ is in
      let P = Done p deepest ks F b M n v e fs env ts st t u w k K l σ in
      let Q = Away p deepest ks F b d K in
      let whole = λ (o : Option ℤ). field_or y o t k (all_emitted y fs ts (At (Number z) End) t w d (all_converted y fs (argument.Of sort.Number ∷ []) (At (Number z) End) t d (performed y (Host row.Field) (At (Number z) End) t d k))) in
      let R = λ (o : Option ℤ) (r : Outcome Value). Reached p deepest ks F b M (work_of e) σ.turns (at ks [] K (laid b l) F (whole o) (beside_state p deepest ks F σ)) P Q r in
      subst (λ (o : Option ℤ). R o (call row.Field (or_zero (number_of z), tt) σ)) (sym (ap (λ (c : Bool). if c then Some z else None) is))
      (subst (λ (r : Outcome Value). R (Some z) r) (sym found.means)
      (there mach M (work_of e) 2 _ _ found.value σ P Q
      (then_goes (found.pushes [] K (laid b l) (then_does (LocalSet (handle_local b t)) k))
      (set_ok b l (Hand t) (Held found.value) (omega (arith, rm)) (ap is_owned (rd.fit.free t (omega arith))))) (omega arith)
      (put_done p deepest ks F b M n e v fs env ts st t u w k K l l σ σ found.value _ rd.below (same_self ts t w l) (λ i q. refl) rd.kept refl tt (put_value p deepest ks F b M t u w k K l found.value σ rd.fit))))

  pub do_host : (q : Primitive) (es : Codes) → CodesOk p deepest ks F b M n es → ExprOk p deepest ks F b M n (Do (Host q) es)
  do_host q es ok = by (field_in (Host q) es) refl
    where
      by : (o : Option ℤ) → field_in (Host q) es ≡ o → ExprOk p deepest ks F b M n (Do (Host q) es)
      by None e = host_expr p deepest ks F b M n q es ok e
      by (Some z) e = let r = field_is q es z e in subst (ExprOk p deepest ks F b M n) (sym r.0) (literal_field z r.1)
