-- Comparisons with an operand that is immediate: what it gives comes onto the stack where it is asked for.
use Rattle.std.proofs.Common.{◌≡◌, inl, ℕ, suc, ◌<◌, Bool, true, false, List, [], ◌∷◌, Option, Some, None, Ok, refl, sym, ap, subst, arith, ℤ}
use Rattle.std.specs.Prelude.{◌&&◌, get_or}
use Rattle.std.proofs.lemmas.Bool.{and_parts}
use Rattle.awk_values.specs.Comparison.{comparison}
use Rattle.awk_values.specs.declared.comparison.CompareOp.{CompareOp}
use Rattle.awk_values.specs.declared.value.Value.{Value}
use Rattle.awk_values.specs.declared.value.Value.TheVariants as value
use Rattle.sem_primitives.specs.ConstantNumbers.{comparison_number}
use Rattle.sem_primitives.specs.Numbers.{number_of}
use Rattle.sem_primitives.specs.declared.sorts.Answer.TheVariants as answer
use Rattle.sem_primitives.specs.declared.sorts.Argument.TheVariants as argument
use Rattle.sem_primitives.specs.declared.sorts.Constant.TheVariants as constant
use Rattle.sem_primitives.specs.declared.sorts.Sort.TheVariants as sort
use Rattle.sem_primitives.specs.declared.table.Primitive.TheVariants as row
use Rattle.sem_primitives.proofs.Words.{constant_again}
use Rattle.sem_scripts.specs.ScriptState.{State, Gives, go_on, settled}
use Rattle.sem_scripts.specs.Steps.{is_field_number}
use Rattle.wasm_types.specs.Syntax.{Instructions}
use Rattle.wasm_types.specs.declared.instr.Simple.TheVariants.{I32Const}
use Rattle.wasm_store.specs.declared.word.Word.TheVariants.{I32, I64}
use Rattle.mid_program.specs.Mid.{Kind, Program, Form, PrimitiveAnswer, a_value, Code, Do, Compare, Number, Text, form_of}
use Rattle.mid_program.specs.MidMeaning.{Holds, Env, evaluated, all_evaluated, boxed, or_zero}
use Rattle.mid_program.specs.Sorted.{Held as Standing, sorted, all_sorted, held_after, fits}
use Rattle.lower_model.specs.Arithmetic.{is_value, compared}
use Rattle.lower_model.specs.Cells.{Cell, Bits, Held}
use Rattle.lower_model.specs.Emission.{Immediate, FieldOf, TextOf, NumberOf, immediate_field, immediate_in, immediate_pushed, immediately_compared, immediate_or, field_in, emitted, all_emitted}
use Rattle.lower_model.specs.ImportCalls.{with_some, and_rest, row_in}
use Rattle.lower_model.specs.Machine.{Label, Frame, at}
use Rattle.lower_model.specs.Places.{Bases, handle_local}
use Rattle.lower_model.specs.Small.{emit, ask_row, moved_out, kept_code}
use Rattle.lower_model.proofs.Observer.{Observer}
use Rattle.lower_model.proofs.Runs.{Goes, then_goes, goes_to, goes_from, same_goes, first, then_on, then_settled, weaker, weaker_settled}
use Rattle.lower_model.proofs.Regions.{upd_same}
use Rattle.lower_model.proofs.Locals.{Locals, Hand, with_at, laid}
use Rattle.lower_model.proofs.Steps.{empty, moved_out_ok}
use Rattle.lower_model.proofs.Relation.{HoldsAt, Kept, same_then, same_hand, Fit, fit_less, fit_hand, Away}
use Rattle.lower_model.proofs.Answers.{machine, beside_state, row_called, done_by, Put, kept_ok, Reached}
use Rattle.lower_model.proofs.Conversions.{same_state, after_same, ask_num}
use Rattle.lower_model.proofs.Converting.{Converted, converted_ok}
use Rattle.lower_model.proofs.Arguments.{under_same, under_keeps}
use Rattle.lower_model.proofs.Comparing.{put_from, CompareOk, compare_both}
use Rattle.lower_model.proofs.Expressions.{constant_word, put_done}
use Rattle.lower_model.proofs.Fields.{field_code, operation_is, field_found}
use Rattle.lower_model.proofs.QuickNames.{some_is}
use Rattle.lower_model.proofs.Simulation.{work_of, layout, context, meant, still_stands, WellUsed, Done, ExprOk}
use Rattle.lower_model.proofs.Texts.{text_found}

-- which code is meant

abbrev pub immediate_code : Immediate → Code
immediate_code (FieldOf z) = field_code z
immediate_code (TextOf i) = Text i
immediate_code (NumberOf z) = Number z

abbrev pub IsImmediate : Immediate → Type 0
IsImmediate (FieldOf z) = is_field_number z ≡ true
IsImmediate (TextOf i) = Unit {0}
IsImmediate (NumberOf z) = Unit {0}

abbrev Meant : Code → Immediate → Type 0
Meant e i = (e ≡ immediate_code i) × IsImmediate i

meant_itself : (x i : Immediate) → IsImmediate x → Some x ≡ Some i → Meant (immediate_code x) i
meant_itself x i h e = let q = some_is x i e in (ap immediate_code q, subst IsImmediate q h)

pub immediate_is : (v : Bool) (e : Code) (i : Immediate) → immediate_in v e ≡ Some i → Meant e i
immediate_is v (Do o es) i e = by (field_in o es) refl e
  where
    by : (q : Option ℤ) → field_in o es ≡ q → immediate_field q ≡ Some i → Meant (Do o es) i
    by (Some z) eq e1 = let r = operation_is o es z eq in subst (λ (c : Code). Meant c i) (sym r.0) (meant_itself (FieldOf z) i r.1 e1)
    by None eq e1 = cc
immediate_is v (Text j) i e = meant_itself (TextOf j) i tt e
immediate_is true (Number z) i e = meant_itself (NumberOf z) i tt e
immediate_is v _ i e = cc

module _ (p : Program) (deepest : Observer) (ks : List Kind) (F : List Frame) (b : Bases) (M n : ℕ) where
  -- such an operand gives its value, changes nothing, and uses nothing that is kept
  record Immediately (i : Immediate) (e : Code) (fs : List Form) (env : Env fs) (ts : List ℕ) : Type 0 where
    value : State → Holds (form_of fs e)
    means : (σ : State) → meant p deepest ks F b M n fs env e σ ≡ Gives (value σ) σ
    pushes : (σ : State) (vs : List Cell) (K : List Label) (L : List Cell) (k : Instructions) → Goes (machine p deepest ks F) 1 (at ks vs K L F (immediate_pushed (layout p deepest ks F b M n) i k) (beside_state p deepest ks F σ)) (at ks (Held (boxed (form_of fs e) (value σ)) ∷ vs) K L F k (beside_state p deepest ks F σ))
    kept : (st : ℕ → Standing) (l : Locals) → Kept fs ts st l env → Kept fs ts (λ j. held_after j e (st j)) l env
    used : (st : ℕ → Standing) → WellUsed p deepest ks F b M n fs (λ j. held_after j e (st j)) → WellUsed p deepest ks F b M n fs st

  immediate_there : (i : Immediate) (fs : List Form) (env : Env fs) (ts : List ℕ) → IsImmediate i → sorted (context p deepest ks F b M n) fs (immediate_code i) ≡ true → Immediately i (immediate_code i) fs env ts
  unfolding evaluated all_evaluated sorted all_sorted
  immediate_there (FieldOf z) fs env ts is so = record {
    value = λ σ. (field_found p deepest ks F b M n z σ is).value;
    means = λ σ. (field_found p deepest ks F b M n z σ is).means;
    pushes = λ σ. (field_found p deepest ks F b M n z σ is).pushes;
    kept = λ st l q. q;
    used = λ st q. q;
  }
  immediate_there (TextOf i) fs env ts is so = record {
    value = λ σ. value.Text (get_or p.texts i []);
    means = λ σ. refl;
    pushes = λ σ vs K L k. text_found p deepest ks F b M n i σ vs K L k so;
    kept = λ st l q. q;
    used = λ st q. q;
  }
  immediate_there (NumberOf z) fs env ts is so = record {
    value = λ σ. or_zero (number_of z);
    means = λ σ. refl;
    pushes = λ σ vs K L k. goes_from (ap (λ m. at ks (Bits (I64 m) ∷ vs) K L F (ask_row row.Num k) (beside_state p deepest ks F σ)) (sym (constant_word z so))) (ask_num p deepest ks F vs σ (or_zero (number_of z)));
    kept = λ st l q. q;
    used = λ st q. q;
  }

  -- the host compares what stands in a temporary with what comes onto the stack
  host_compares : (c : CompareOp) (f : Form) (x : Holds f) (i : Immediate) (a : Value) (t u w d : ℕ) (k : Instructions) (K : List Label) (l : Locals) (σ : State) → fits f sort.Value ≡ true → t < b.temporaries → Fit p deepest ks F (suc t) u w l σ → HoldsAt f t l x →
      ((vs : List Cell) (L : List Cell) (k1 : Instructions) → Goes (machine p deepest ks F) 1 (at ks vs K L F (immediate_pushed (layout p deepest ks F b M n) i k1) (beside_state p deepest ks F σ)) (at ks (Held a ∷ vs) K L F k1 (beside_state p deepest ks F σ))) →
      Reached p deepest ks F b M 25 σ.turns (at ks [] K (laid b l) F (immediately_compared (layout p deepest ks F b M n) c f i t d k) (beside_state p deepest ks F σ)) (Put p deepest ks F b t u w (PrimitiveAnswer answer.Truth) k K l) (Away p deepest ks F b d K) (settled (comparison (boxed f x) a c) σ)
  host_compares c f x i a t u w d k K l σ ef lt ft hx pushes =
      let mach = machine p deepest ks F in
      let y = layout p deepest ks F b M n in
      let P = Put p deepest ks F b t u w (PrimitiveAnswer answer.Truth) k K l in
      let Q = Away p deepest ks F b d K in
      let k4 = kept_code b true t d k in
      let k3 = ask_row row.Compare k4 in
      let k2 = emit (I32Const (comparison_number c)) (moved_out (handle_local b t) (immediate_pushed y i k3)) in
      then_settled mach M 16 9 25 _ σ (Converted p deepest ks F b M (suc t) u w t a_value k2 K l) P Q (Ok (boxed f x)) (λ v. settled (comparison v a c)) (omega arith)
      (converted_ok p deepest ks F b M f sort.Value x (suc t) u w t d k2 K l σ ef (omega arith) lt ft hx)
      (λ v c1 e1 a1.
      let l1 = with_at a1.next (Hand t) empty in
      let r = comparison v a c in
      let f1 = fit_hand p deepest ks F t (suc t) u w a1.next σ empty (inl refl) (omega arith) a1.fit in
      let f0 = fit_less p deepest ks F t u w l1 σ (upd_same a1.next.hand t empty) f1 in
      let words = Bits (I32 (comparison_number c)) ∷ (Held v ∷ (Held a ∷ [])) in
      first mach M 4 4 9 σ.turns c1 _ P Q _
      (goes_from a1.comes (then_goes (moved_out_ok b a1.next (Hand t) (Held v) lt a1.holds.0) (then_goes (pushes (Held v ∷ (Bits (I32 (comparison_number c)) ∷ [])) (laid b l1) k3)
      (goes_to (row_called p deepest ks F row.Compare (c, (v, (a, tt))) words [] σ refl refl refl
      (ap (λ o. with_some (and_rest o (Held v ∷ (Held a ∷ []))) (λ z. with_some (row_in mach.memory (argument.Of sort.Value ∷ argument.Of sort.Value ∷ []) z.1) (λ rest. Some (z.0, rest)))) (constant_again constant.Comparison c)) refl)
      (after_same p deepest ks F (laid b l1) K k4 r (done_by p deepest ks F row.Compare (c, (v, (a, tt))) σ) σ (same_state σ r) _))))) (omega arith)
      (weaker mach M 4 σ.turns _ (Put p deepest ks F b t u w (PrimitiveAnswer answer.Truth) k K l1) P Q Q (settled r σ)
      (λ z τ c2 q. put_from p deepest ks F b M n t u w (PrimitiveAnswer answer.Truth) k K l l1 z τ c2
      (same_then [] t t w w l a1.next l1 (omega arith) (omega arith) (under_same [] t w l a1.next (under_keeps t t l a1.next (omega arith) a1.keeps)) (same_hand [] t w t a1.next empty (omega arith))) q)
      (λ why τ c2 q. q)
      (kept_ok p deepest ks F b M true answer.Truth r t u w d k K l1 σ tt lt f0)))

  compare_immediate : (c : CompareOp) (a e : Code) (i : Immediate) → ExprOk p deepest ks F b M n a → ((fs : List Form) (env : Env fs) (ts : List ℕ) → sorted (context p deepest ks F b M n) fs e ≡ true → Immediately i e fs env ts) →
      CompareOk p deepest ks F b M n c a e (λ fs ts t w d k. immediately_compared (layout p deepest ks F b M n) c (form_of fs a) i t d k)
  unfolding evaluated all_evaluated sorted all_sorted
  compare_immediate c a e i oka there v fs env ts st t u w d k K l σ so us rm ar rd =
      let mach = machine p deepest ks F in
      let ctx = context p deepest ks F b M n in
      let f = form_of fs a in
      let g = form_of fs e in
      let Q = Away p deepest ks F b d K in
      let P = Done p deepest ks F b M n v (Compare c a e) fs env ts st t u w k K l σ in
      let s1 = and_parts (fits f sort.Value) (fits g sort.Value && (sorted ctx fs a && sorted ctx fs e)) so in
      let s2 = and_parts (fits g sort.Value) (sorted ctx fs a && sorted ctx fs e) s1.1 in
      let s3 = and_parts (sorted ctx fs a) (sorted ctx fs e) s2.1 in
      let it = there fs env ts s3.1 in
      let k1 = immediately_compared (layout p deepest ks F b M n) c f i t d k in
      then_on mach M (work_of a) 25 (work_of (Compare c a e)) σ.turns _ (Done p deepest ks F b M n false a fs env ts st t u w k1 K l σ) P Q (meant p deepest ks F b M n fs env a σ) _ (omega arith)
      (oka false fs env ts st t u w d k1 K l σ s3.0 (it.used (λ j. held_after j a (st j)) us) (omega (arith, rm)) (omega (arith, ar)) rd)
      (λ x τ c1 le h.
      let z = it.value τ in
      let r = comparison (boxed f x) (boxed g z) c in
      subst (λ o. Reached p deepest ks F b M 25 τ.turns c1 P Q (go_on o (λ y. settled (comparison (boxed f x) (boxed g y) c)))) (sym (it.means τ))
      (first mach M 0 25 25 τ.turns c1 _ P Q _ (same_goes h.comes) (omega arith)
      (weaker_settled mach M 25 _ τ (Put p deepest ks F b t u w (PrimitiveAnswer answer.Truth) k K h.next) P Q r
      (λ q c2 put. put_done p deepest ks F b M n (Compare c a e) v fs env ts st t u w k K l h.next σ τ q c2 rd.below h.same h.own (it.kept (λ j. held_after j a (st j)) h.next h.kept) refl tt put)
      (host_compares c f x i (boxed g z) t u w d k K h.next τ s1.0 (omega (arith, rm)) h.fit (still_stands a f t h.next x h.stands) (λ vs L k2. it.pushes τ vs K L k2)))))

  pub compare_expr : (c : CompareOp) (a e : Code) → ExprOk p deepest ks F b M n a → ExprOk p deepest ks F b M n e → ExprOk p deepest ks F b M n (Compare c a e)
  unfolding emitted all_emitted
  compare_expr c a e oka oke v fs env ts st t u w d k K l σ so us rm ar rd = by (immediate_in (is_value (form_of fs a)) e) refl
    where
      by : (o : Option Immediate) → immediate_in (is_value (form_of fs a)) e ≡ o →
          Reached p deepest ks F b M (work_of (Compare c a e)) σ.turns (at ks [] K (laid b l) F (emitted (layout p deepest ks F b M n) false fs ts a t w d (immediate_or (layout p deepest ks F b M n) c (form_of fs a) o t d k (emitted (layout p deepest ks F b M n) false fs ts e (suc t) w d (compared b c (form_of fs a) (form_of fs e) t d k)))) (beside_state p deepest ks F σ)) (Done p deepest ks F b M n v (Compare c a e) fs env ts st t u w k K l σ) (Away p deepest ks F b d K) (meant p deepest ks F b M n fs env (Compare c a e) σ)
      by None eq = compare_both p deepest ks F b M n c a e oka oke v fs env ts st t u w d k K l σ so us rm ar rd
      by (Some i) eq =
          let q = immediate_is (is_value (form_of fs a)) e i eq in
          compare_immediate c a e i oka (λ fs1 env1 ts1. subst (λ (z : Code). sorted (context p deepest ks F b M n) fs1 z ≡ true → Immediately i z fs1 env1 ts1) (sym q.0) (immediate_there i fs1 env1 ts1 q.1)) v fs env ts st t u w d k K l σ so us rm ar rd
