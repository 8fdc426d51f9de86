-- Sums in all cases: the number of a name, the sum with its range tested, and the name that takes it.
use Rattle.std.proofs.Common.{◌≡◌, ◌≢◌, inr, ℕ, zero, suc, ◌+◌, ◌^◌, ◌<◌, ◌≤◌, Bool, true, false, nat_le, List, [], ◌∷◌, length, None, Some, Ok, Result, ℤ, ◌+ℤ◌, neg_ℤ, unsigned_abs, w64, refl, sym, ap, ◌∙◌, subst, arith, Option, inl}
use Rattle.std.specs.Prelude.{FitsSigned}
use Rattle.awk_values.specs.Operators.{checked}
use Rattle.awk_values.specs.declared.fault.Fault.{Fault}
use Rattle.awk_values.specs.declared.fault.Fault.TheVariants.{Range}
use Rattle.awk_values.specs.declared.value.Value.{Value}
use Rattle.awk_values.specs.declared.value.Value.TheVariants as value
use Rattle.sem_primitives.specs.Numbers.{Number as AnyNumber, number_of, number_word, outcome_of}
use Rattle.sem_primitives.specs.ValueMeaning.{number_of_row}
use Rattle.sem_primitives.proofs.Words.{small, fits}
use Rattle.wasm_types.specs.Syntax.{Instructions, Done as NoMore}
use Rattle.wasm_types.specs.declared.types.ValType.TheVariants as ty
use Rattle.wasm_types.specs.declared.instr.IBinOp.{IBinOp}
use Rattle.wasm_types.specs.declared.instr.IBinOp.TheVariants.{Add}
use Rattle.wasm_types.specs.declared.instr.IRelOp.TheVariants.{LeS, GtU}
use Rattle.wasm_types.specs.declared.instr.Simple.TheVariants.{LocalGet, LocalSet, LocalTee, I64Const, Binary, Compare}
use Rattle.wasm_store.specs.Integers.{binary_at, compare_at}
use Rattle.wasm_store.specs.Words.{flag, given_by}
use Rattle.wasm_store.specs.declared.word.Word.TheVariants.{I64}
use Rattle.mid_program.specs.declared.mid.Arithmetic.{Arithmetic}
use Rattle.mid_program.specs.declared.mid.Arithmetic.TheVariants as inline
use Rattle.mid_program.specs.Mid.{Kind, Unboxed, Program, a_number}
use Rattle.mid_program.specs.MidMeaning.{or_zero, arithmetic_of, store_slot}
use Rattle.sem_scripts.specs.ScriptState.{State, Outcome, Gives, local_value, ◌>>◌, give, go_on, settled, global_value}
use Rattle.mid_program.specs.Sorted.{has_kind, kinds_of, lender_at}
use Rattle.sem_scripts.specs.Steps.{zero_number}
use Rattle.lower_model.specs.Cells.{Cell, Bits, Held, is_owned}
use Rattle.lower_model.specs.Machine.{Conf, Label, Frame, Store, at, label, with_operands, push_result}
use Rattle.lower_model.specs.Places.{Bases, number_local}
use Rattle.lower_model.specs.Quick.{Holder, OfName, OfParameter, Source, Held as Standing, Constant, Sum, is_sum, sum_op}
use Rattle.lower_model.specs.Small.{emit, fail_if, when, emit_if, number_is, least, text_beside}
use Rattle.lower_model.specs.Statements.{holder_cleared, name_put, number_there, name_numbered, source_numbered, source_taken, sum_kept, sum_taken, summed_anyway, numbered_or, parameter_found}
use Rattle.lower_model.proofs.Observer.{Observer}
use Rattle.lower_model.proofs.Runs.{Goes, then_goes, goes_to, goes_from, same_goes, by_steps, stays, there, first, weaker, then_settled, within}
use Rattle.lower_model.proofs.Regions.{upd_same}
use Rattle.lower_model.proofs.Locals.{Locals, Param, Hand, Number as NumberAt, with_at, laid}
use Rattle.lower_model.proofs.Globals.{Hand as NameHand, Number as NameNumber}
use Rattle.lower_model.proofs.GlobalSteps.{global_copied}
use Rattle.lower_model.proofs.Steps.{empty, get_copied, set_ok, tee_ok}
use Rattle.lower_model.proofs.State.{bare, holder_slot, holder_value, stored_in, cells_of, kind_here, arrays_before, name_hand, name_word, BareOf, IsBeside, IsNone, IsNumber, BareParameter, beside}
use Rattle.lower_model.proofs.Relation.{Fit, fit_less, fit_more, fit_hand, fit_number, same_number, Away}
use Rattle.lower_model.proofs.Pieces.{chooses, closes, number_is_ok}
use Rattle.lower_model.proofs.Answers.{machine, beside_state, Put, Reached}
use Rattle.lower_model.proofs.Conversions.{bare_is}
use Rattle.lower_model.proofs.Converting.{Keeps, keeps_self, keeps_then, keeps_hand, keeps_number, Converted, conv_number, conv_closes, value_numbered, blocked, none_number, own_number, word_numbered}
use Rattle.lower_model.proofs.Copies.{copied_global}
use Rattle.lower_model.proofs.Inlining.{tested, sum_fits, difference_fits}
use Rattle.lower_model.proofs.Products.{word, is_out, out_word, sum_word, difference_word}
use Rattle.lower_model.proofs.QuickNames.{num_of, nought_number}
use Rattle.lower_model.proofs.QuickParts.{HolderFits, taken, stored_turns, HolderTakes}
use Rattle.lower_model.proofs.Reading.{kind_below, kind_found}
use Rattle.lower_model.proofs.SettingNames.{bare_global_set}
use Rattle.lower_model.proofs.Written.{fit_global}
use Rattle.lower_model.proofs.Simulation.{layout}
use Rattle.mid_program.proofs.Lenders.{lender_unboxed}

module _ (p : Program) (deepest : Observer) (ks : List Kind) (F : List Frame) (b : Bases) (M n : ℕ) where
  abbrev kinds : List Kind
  kinds = kinds_of p.globals

  -- what was converted stands beside what was there before
  conv_after : (q u w t : ℕ) (k : Instructions) (K : List Label) (l l1 : Locals) (x : AnyNumber) (σ : State) (c : Conf) → Keeps t l l1 → Converted p deepest ks F b M q u w t a_number k K l1 x σ c → Converted p deepest ks F b M q u w t a_number k K l x σ c
  conv_after q u w t k K l l1 x σ c kp a = record { next = a.next; comes = a.comes; fit = a.fit; keeps = keeps_then t l l1 a.next kp a.keeps; holds = a.holds }

  -- a name's number comes into a temporary
  numbered_by : (i q u w t d : ℕ) (k : Instructions) (K : List Label) (l : Locals) (σ : State) → has_kind kinds i Unboxed ≡ true → t < q → t < b.temporaries → Fit p deepest ks F q u w l σ → l.hand t ≡ empty → BareOf (global_value i σ) →
      Reached p deepest ks F b M 22 σ.turns (at ks [] K (laid b l) F (name_numbered (layout p deepest ks F b M n) (OfName i) t d k) (beside_state p deepest ks F σ)) (Converted p deepest ks F b M q u w t a_number k K l) (Away p deepest ks F b d K) (settled (number_of_row (global_value i σ)) σ)
  numbered_by i q u w t d k K l σ hk lq lt ft he z =
      let li = kind_below kinds i Unboxed hk in
      let kh = kind_found kinds i Unboxed hk in
      let g = cells_of kinds 0 σ in
      let v = global_value i σ in
      let S = beside_state p deepest ks F σ in
      let P = Converted p deepest ks F b M q u w t a_number k K l in
      let Q = Away p deepest ks F b d K in
      let c = Bits (I64 (bare v)) in
      let l1 = with_at l (NumberAt t) c in
      let f1 = fit_number p deepest ks F t q u w l σ c refl ft in
      let e1 = upd_same l.number t c in
      let there_code = number_there (layout p deepest ks F b M n) i t (suc (suc d)) NoMore in
      let zero_put = emit (I64Const 0) (emit (LocalSet (number_local b t)) NoMore) in
      let made = number_is (number_local b t) text_beside (emit_if there_code zero_put NoMore) in
      let K1 = label [] None k ∷ K in
      let K2 = label [] None NoMore ∷ K1 in
      let start : Goes (machine p deepest ks F) 3 (at ks [] K (laid b l) F (name_numbered (layout p deepest ks F b M n) (OfName i) t d k) S) (at ks (Bits (flag (compare_at w64 LeS (bare v) text_beside)) ∷ []) K (laid b l1) F (when made k) S) =
      then_goes (global_copied p.ranges (length kinds) g (NameNumber i) c li (ap (λ y. Bits (I64 (name_word y v))) kh) refl) (then_goes (tee_ok b l (NumberAt t) c lt (ft.numbers t)) (by_steps 1 refl)) in
      let shown : (f : Bool) → compare_at w64 LeS (bare v) text_beside ≡ f → Goes (machine p deepest ks F) 3 (at ks [] K (laid b l) F (name_numbered (layout p deepest ks F b M n) (OfName i) t d k) S) (at ks (Bits (flag f) ∷ []) K (laid b l1) F (when made k) S) =
      λ f e. goes_to start (ap (λ y. at ks (Bits (flag y) ∷ []) K (laid b l1) F (when made k) S) e) in
      elim z [
        | IsNumber m e eb eh ↦
            subst (λ r. Reached p deepest ks F b M 22 σ.turns (at ks [] K (laid b l) F (name_numbered (layout p deepest ks F b M n) (OfName i) t d k) S) P Q (settled r σ)) (sym (own_number p deepest ks F b M v m e))
            (there (machine p deepest ks F) M 22 5 _ _ m σ P Q
            (then_goes (shown false (ap (λ y. compare_at w64 LeS y text_beside) eb ∙ word_numbered p deepest ks F b M m)) (then_goes (chooses made NoMore 0) closes)) (omega arith)
            (record { next = l1; comes = refl; fit = f1; keeps = keeps_number t l c; holds = (he, e1 ∙ ap (λ y. Bits (I64 y)) eb) }))
        | IsNone e eb eh ↦
            subst (λ r. Reached p deepest ks F b M 22 σ.turns (at ks [] K (laid b l) F (name_numbered (layout p deepest ks F b M n) (OfName i) t d k) S) P Q (settled r σ)) (sym (none_number p deepest ks F b M v e))
            (there (machine p deepest ks F) M 22 10 _ _ zero_number σ P Q
            (then_goes (shown true (ap (λ y. compare_at w64 LeS y text_beside) eb)) (then_goes (chooses made NoMore 1)
            (then_goes (number_is_ok b l1 t least text_beside lt (e1 ∙ ap (λ y. Bits (I64 y)) eb)) (then_goes (chooses there_code zero_put 0)
            (then_goes (set_ok b l1 (NumberAt t) (Bits (I64 0)) lt (ap is_owned e1)) (then_goes closes closes)))))) (omega arith)
            (conv_after q u w t k K l l1 zero_number σ _ (keeps_number t l c) (conv_number p deepest ks F b M q u w t k K l1 zero_number σ f1 he)))
        | IsBeside eb eh ↦
            let l2 = with_at l1 (Hand t) (Held v) in
            let f2 = fit_hand p deepest ks F t q u w l1 σ (Held v) (inr (v, refl)) lq f1 in
            let hand : name_hand (kind_here kinds i) (suc (suc (arrays_before kinds i))) v ≡ Held v = ap (λ y. name_hand y (suc (suc (arrays_before kinds i))) v) kh ∙ eh in
            first (machine p deepest ks F) M 11 8 22 σ.turns _ _ P Q (settled (number_of_row v) σ)
            (then_goes (shown true (ap (λ y. compare_at w64 LeS y text_beside) eb)) (then_goes (chooses made NoMore 1)
            (then_goes (number_is_ok b l1 t text_beside text_beside lt (e1 ∙ ap (λ y. Bits (I64 y)) eb)) (then_goes (chooses there_code zero_put 1)
            (copied_global p deepest ks F b l1 (NameHand i) t v σ li lt hand (ap is_owned he)))))) (omega arith)
            (weaker (machine p deepest ks F) M 8 σ.turns _ (Converted p deepest ks F b M q u w t a_number k K l2) P Q Q (settled (number_of_row v) σ)
            (λ m τ c1 a. conv_after q u w t k K l l2 m τ c1 (keeps_then t l l1 l2 (keeps_number t l c) (keeps_hand t l1 (Held v))) a) (λ why τ c1 y. y)
            (blocked p deepest ks F b M 7 σ.turns d k K _ (Converted p deepest ks F b M q u w t a_number NoMore K1 l2) (Converted p deepest ks F b M q u w t a_number k K l2) (settled (number_of_row v) σ)
            (λ m τ c1 a. conv_closes p deepest ks F b M q u w t a_number k K l2 m τ c1 a)
            (blocked p deepest ks F b M 6 σ.turns (suc d) NoMore K1 _ (Converted p deepest ks F b M q u w t a_number NoMore K2 l2) (Converted p deepest ks F b M q u w t a_number NoMore K1 l2) (settled (number_of_row v) σ)
            (λ m τ c1 a. conv_closes p deepest ks F b M q u w t a_number NoMore K1 l2 m τ c1 a)
            (value_numbered p deepest ks F b M q u w t (suc (suc d)) NoMore K2 l2 v σ lq lt f2 (upd_same l1.hand t (Held v))))))
      ]

  -- a parameter's number, or that of what lends at its place; it is 0 where there is none yet
  module _ (i q u w t d : ℕ) (k : Instructions) (K : List Label) (l : Locals) (σ : State) (li : i < b.parameters) (lq : t < q) (lt : t < b.temporaries) (ft : Fit p deepest ks F q u w l σ) (he : l.hand t ≡ empty) where
    abbrev S : Store
    S = beside_state p deepest ks F σ

    abbrev found : Option ℕ → Instructions
    found o = parameter_found (layout p deepest ks F b M n) o t d NoMore

    abbrev numbered_as : Option ℕ → Instructions
    numbered_as o = numbered_or (layout p deepest ks F b M n) (LocalGet i) (found o) t k

    abbrev ParameterNumbered : Option ℕ → Value → Type 0
    ParameterNumbered o v =
        Reached p deepest ks F b M 27 σ.turns (at ks [] K (laid b l) F (numbered_as o) S) (Converted p deepest ks F b M q u w t a_number k K l) (Away p deepest ks F b d K) (settled (number_of_row v) σ)

    -- whether its word is a number is seen first
    seen : (o : Option ℕ) (m : ℕ) (f : Bool) → l.param i ≡ Bits (I64 m) → compare_at w64 LeS m text_beside ≡ f →
        Goes (machine p deepest ks F) 3 (at ks [] K (laid b l) F (numbered_as o) S) (at ks (Bits (flag f) ∷ []) K (laid b (with_at l (NumberAt t) (Bits (I64 m)))) F (when (found o) k) S)
    seen o m f e c = goes_to
        (then_goes (get_copied b l (Param i) (Bits (I64 m)) li e refl) (then_goes (tee_ok b l (NumberAt t) (Bits (I64 m)) lt (ft.numbers t)) (by_steps 1 refl)))
        (ap (λ y. at ks (Bits (flag y) ∷ []) K (laid b (with_at l (NumberAt t) (Bits (I64 m)))) F (when (found o) k) S) c)

    -- it is
    its_number : (o : Option ℕ) (v : Value) (m : ℕ) (x : AnyNumber) → l.param i ≡ Bits (I64 m) → v ≡ value.Num x.number → m ≡ number_word x → ParameterNumbered o v
    its_number o v m x e ev em =
        let c = Bits (I64 m) in
        let l1 = with_at l (NumberAt t) c in
        subst (λ r. Reached p deepest ks F b M 27 σ.turns (at ks [] K (laid b l) F (numbered_as o) S) (Converted p deepest ks F b M q u w t a_number k K l) (Away p deepest ks F b d K) (settled r σ)) (sym (own_number p deepest ks F b M v x ev))
        (there (machine p deepest ks F) M 27 5 _ _ x σ (Converted p deepest ks F b M q u w t a_number k K l) (Away p deepest ks F b d K)
        (then_goes (seen o m false e (ap (λ y. compare_at w64 LeS y text_beside) em ∙ word_numbered p deepest ks F b M x)) (then_goes (chooses (found o) NoMore 0) closes)) (omega arith)
        (record { next = l1; comes = refl; fit = fit_number p deepest ks F t q u w l σ c refl ft; keeps = keeps_number t l c; holds = (he, upd_same l.number t c ∙ ap (λ y. Bits (I64 y)) em) }))

    -- nothing yet
    none_yet : (v : Value) (m : ℕ) → l.param i ≡ Bits (I64 m) → v ≡ value.Uninit → m ≡ least → ParameterNumbered None v
    none_yet v m e ev em =
        let c = Bits (I64 m) in
        let l1 = with_at l (NumberAt t) c in
        let f1 = fit_number p deepest ks F t q u w l σ c refl ft in
        subst (λ r. Reached p deepest ks F b M 27 σ.turns (at ks [] K (laid b l) F (numbered_as None) S) (Converted p deepest ks F b M q u w t a_number k K l) (Away p deepest ks F b d K) (settled r σ)) (sym (none_number p deepest ks F b M v ev))
        (there (machine p deepest ks F) M 27 6 _ _ zero_number σ (Converted p deepest ks F b M q u w t a_number k K l) (Away p deepest ks F b d K)
        (then_goes (seen None m true e (ap (λ y. compare_at w64 LeS y text_beside) em)) (then_goes (chooses (found None) NoMore 1)
        (then_goes (set_ok b l1 (NumberAt t) (Bits (I64 0)) lt (ap is_owned (upd_same l.number t c))) closes))) (omega arith)
        (conv_after q u w t k K l l1 zero_number σ _ (keeps_number t l c) (conv_number p deepest ks F b M q u w t k K l1 zero_number σ f1 he)))

    -- nothing, in place of what a global has
    lent_number : (g : ℕ) (v : Value) (m : ℕ) → l.param i ≡ Bits (I64 m) → has_kind kinds g Unboxed ≡ true → v ≡ global_value g σ → m ≡ least → ParameterNumbered (Some g) v
    lent_number g v m e hk ev em =
        let c = Bits (I64 m) in
        let l1 = with_at l (NumberAt t) c in
        let f1 = fit_number p deepest ks F t q u w l σ c refl ft in
        let P = Converted p deepest ks F b M q u w t a_number k K l in
        let Q = Away p deepest ks F b d K in
        let K1 = label [] None k ∷ K in
        subst (λ r. Reached p deepest ks F b M 27 σ.turns (at ks [] K (laid b l) F (numbered_as (Some g)) S) P Q (settled (number_of_row r) σ)) (sym ev)
        (first (machine p deepest ks F) M 4 23 27 σ.turns _ _ P Q (settled (number_of_row (global_value g σ)) σ)
        (then_goes (seen (Some g) m true e (ap (λ y. compare_at w64 LeS y text_beside) em)) (chooses (found (Some g)) NoMore 1)) (omega arith)
        (weaker (machine p deepest ks F) M 23 σ.turns _ (Converted p deepest ks F b M q u w t a_number k K l1) P Q Q (settled (number_of_row (global_value g σ)) σ)
        (λ x τ c1 a. conv_after q u w t k K l l1 x τ c1 (keeps_number t l c) a) (λ why τ c1 y. y)
        (blocked p deepest ks F b M 22 σ.turns d k K _ (Converted p deepest ks F b M q u w t a_number NoMore K1 l1) (Converted p deepest ks F b M q u w t a_number k K l1) (settled (number_of_row (global_value g σ)) σ)
        (λ x τ c1 a. conv_closes p deepest ks F b M q u w t a_number k K l1 x τ c1 a)
        (numbered_by g q u w t (suc d) NoMore K1 l1 σ hk lq lt f1 he (bare_is (global_value g σ))))))

    parameter_numbered : (o : Option ℕ) (v : Value) → ((g : ℕ) → o ≡ Some g → has_kind kinds g Unboxed ≡ true) → BareParameter o σ.globals v (l.param i) → ParameterNumbered o v
    parameter_numbered None v un own = elim (bare_is v) [
      | IsNumber x ev eb eh ↦ its_number None v own.0 x own.1 ev (own.2.0 ∙ eb)
      | IsNone ev eb eh ↦ none_yet v own.0 own.1 ev (own.2.0 ∙ eb)
      | IsBeside eb eh ↦ absurd (held_not_empty v (sym eh ∙ own.2.1))
    ]
      where
        held_not_empty : (v : Value) → Held v ≡ empty → ⊥
        held_not_empty v e = cc
    parameter_numbered (Some g) v un own = elim own.2 [
      | inl y ↦ its_number (Some g) v own.0 y.0 own.1 y.1 y.2
      | inr y ↦ lent_number g v own.0 own.1 (un g refl) y.1 y.0
    ]

  pub name_numbered_ok : (h : Holder) (q u w t d : ℕ) (k : Instructions) (K : List Label) (l : Locals) (σ : State) → HolderFits p deepest ks F b M n h → length ks ≡ b.parameters → t < q → t < b.temporaries → Fit p deepest ks F q u w l σ → l.hand t ≡ empty →
      Reached p deepest ks F b M 27 σ.turns (at ks [] K (laid b l) F (name_numbered (layout p deepest ks F b M n) h t d k) (beside_state p deepest ks F σ)) (Converted p deepest ks F b M q u w t a_number k K l) (Away p deepest ks F b d K) (settled (number_of_row (holder_value h σ)) σ)
  name_numbered_ok (OfName i) q u w t d k K l σ hk pk lq lt ft he =
      within (machine p deepest ks F) M 22 27 σ.turns _ (Converted p deepest ks F b M q u w t a_number k K l) (Away p deepest ks F b d K) (settled (number_of_row (global_value i σ)) σ) (omega arith)
      (numbered_by i q u w t d k K l σ hk lq lt ft he (bare_is (global_value i σ)))
  name_numbered_ok (OfParameter i) q u w t d k K l σ hk pk lq lt ft he =
      let li = kind_below ks i Unboxed hk in
      parameter_numbered i q u w t d k K l σ (omega (arith, li, pk)) lq lt ft he (lender_at p.lenders i) (local_value i σ) (λ g e. lender_unboxed kinds p.lenders i g ft.sound.lend e) (ft.params i Unboxed hk)

  -- What a sum is made of, in temporaries or on the stack.

  abbrev pub IsSource : Source → Type 0
  IsSource (Standing h) = HolderFits p deepest ks F b M n h
  IsSource (Constant z) = nat_le (unsigned_abs z) (2 ^ 53) ≡ true

  abbrev pub StandsNear : Source → ℕ → Locals → AnyNumber → Type 0
  StandsNear (Standing i) t l m = l.number t ≡ Bits (I64 (number_word m))
  StandsNear (Constant z) t l m = word z ≡ number_word m

  pub record Numbered (s : Source) (q u w t : ℕ) (k : Instructions) (K : List Label) (l : Locals) (m : AnyNumber) (σ : State) (c : Conf) : Type 0 where
    pub next : Locals
    pub comes : c ≡ at ks [] K (laid b next) F k (beside_state p deepest ks F σ)
    pub fit : Fit p deepest ks F q u w next σ
    pub keeps : Keeps t l next
    pub hand : next.hand t ≡ empty
    pub near : StandsNear s t next m

  pub source_numbered_ok : (s : Source) (q u w t d : ℕ) (k : Instructions) (K : List Label) (l : Locals) (σ : State) → IsSource s → length ks ≡ b.parameters → t < q → t < b.temporaries → Fit p deepest ks F q u w l σ → l.hand t ≡ empty →
      Reached p deepest ks F b M 27 σ.turns (at ks [] K (laid b l) F (source_numbered (layout p deepest ks F b M n) s t d k) (beside_state p deepest ks F σ)) (Numbered s q u w t k K l) (Away p deepest ks F b d K) (settled (num_of s σ) σ)
  source_numbered_ok (Standing i) q u w t d k K l σ hs pk lq lt ft he =
      weaker (machine p deepest ks F) M 27 σ.turns _ (Converted p deepest ks F b M q u w t a_number k K l) (Numbered (Standing i) q u w t k K l) (Away p deepest ks F b d K) (Away p deepest ks F b d K) (settled (number_of_row (holder_value i σ)) σ)
      (λ m τ c a. record { next = a.next; comes = a.comes; fit = a.fit; keeps = a.keeps; hand = a.holds.0; near = a.holds.1 }) (λ why τ c y. y)
      (name_numbered_ok i q u w t d k K l σ hs pk lq lt ft he)
  source_numbered_ok (Constant z) q u w t d k K l σ hs pk lq lt ft he =
      there (machine p deepest ks F) M 27 0 _ _ (or_zero (number_of z)) σ (Numbered (Constant z) q u w t k K l) (Away p deepest ks F b d K) stays (omega arith)
      (record { next = l; comes = refl; fit = ft; keeps = keeps_self t l; hand = he; near = ap word (sym (nought_number z hs)) })

  abbrev pub taken_steps : Source → ℕ
  taken_steps (Standing i) = 1
  taken_steps (Constant z) = 0

  pub taken_few : (s : Source) → taken_steps s ≤ 1
  taken_few (Standing i) = omega arith
  taken_few (Constant z) = omega arith

  pub source_taken_ok : (vs : List Cell) (K : List Label) (k : Instructions) (G : Store) (s : Source) (t : ℕ) (l : Locals) (m : AnyNumber) → t < b.temporaries → StandsNear s t l m →
      Goes (machine p deepest ks F) (taken_steps s) (at ks vs K (laid b l) F (source_taken (layout p deepest ks F b M n) s t k) G) (at ks (Bits (I64 (number_word m)) ∷ vs) K (laid b l) F k G)
  source_taken_ok vs K k G (Standing i) t l m lt e = get_copied b l (NumberAt t) (Bits (I64 (number_word m))) lt e refl
  source_taken_ok vs K k G (Constant z) t l m lt e = same_goes (ap (λ y. at ks (Bits (I64 y) ∷ vs) K (laid b l) F k G) e)

  pub near_still : (s : Source) (t u : ℕ) (l l1 : Locals) (m : AnyNumber) → t ≢ u → Keeps u l l1 → StandsNear s t l m → StandsNear s t l1 m
  near_still (Standing i) t u l l1 m ne kp e = kp.numbers t ne ∙ e
  near_still (Constant z) t u l l1 m ne kp e = e

  -- the name has taken the sum
  abbrev pub sum_given : Holder → State → Result AnyNumber Fault → Outcome AnyNumber
  sum_given i σ r = go_on (settled r σ) (λ y. store_slot (holder_slot i) (value.Num y.number) >> give y)

  pub record Summed (u : ℕ) (k : Instructions) (K : List Label) (l : Locals) (σ : State) (c : Conf) : Type 0 where
    pub next : Locals
    pub comes : c ≡ at ks [] K (laid b next) F k (beside_state p deepest ks F σ)
    pub fit : Fit p deepest ks F 0 u 0 next σ
    pub iterators : (y : ℕ) → next.iterator y ≡ l.iterator y

  -- the sum of two numbers on the stack goes to a temporary, and is tested
  pub sum_kept_ok : (op : IBinOp) (x y : AnyNumber) (z : ℤ) (t u d : ℕ) (k : Instructions) (K : List Label) (l : Locals) (σ : State) → FitsSigned w64 z → binary_at w64 op (number_word x) (number_word y) ≡ Ok (word z) → t < b.temporaries → Fit p deepest ks F (suc t) u 0 l σ → l.hand t ≡ empty →
      Reached p deepest ks F b M 8 σ.turns (at ks (Bits (I64 (number_word y)) ∷ (Bits (I64 (number_word x)) ∷ [])) K (laid b l) F (sum_kept (layout p deepest ks F b M n) op t d k) (beside_state p deepest ks F σ)) (Put p deepest ks F b t u 0 a_number k K l) (Away p deepest ks F b d K) (settled (outcome_of (checked z)) σ)
  sum_kept_ok op x y z t u d k K l σ fz e lt ft he =
      let S = beside_state p deepest ks F σ in
      let c = Bits (I64 (word z)) in
      let l1 = with_at l (NumberAt t) c in
      let f1 = fit_number p deepest ks F t (suc t) u 0 l σ c refl ft in
      first (machine p deepest ks F) M 4 4 8 σ.turns _ _ (Put p deepest ks F b t u 0 a_number k K l) (Away p deepest ks F b d K) (settled (outcome_of (checked z)) σ)
      (then_goes (by_steps 1 (ap (λ o. with_operands (push_result [] (Some (given_by I64 o))) ks K (laid b l) F (emit (LocalTee (number_local b t)) (emit (I64Const (2 ^ 53)) (emit (Binary ty.I64 Add) (emit (I64Const (2 ^ 54)) (emit (Compare ty.I64 GtU) (fail_if Range d k)))))) S) e))
      (then_goes (tee_ok b l (NumberAt t) c lt (ft.numbers t)) (by_steps 2 refl))) (omega arith)
      (tested p deepest ks F b M n z (is_out (word z)) t u 0 d (suc t) 0 k k K l l1 l1 σ (out_word z fz) f1 (omega arith) stays f1 (same_number [] t 0 t l c (omega arith)) he (λ q. upd_same l.number t c))

  -- a number in the first temporary goes to a holder
  record Put_in (h : Holder) (m : AnyNumber) (u : ℕ) (k : Instructions) (K : List Label) (l : Locals) (σ : State) : Type 0 where
    next : Locals
    steps : ℕ
    few : steps ≤ 16
    goes : Goes (machine p deepest ks F) steps (at ks [] K (laid b l) F (holder_cleared (layout p deepest ks F b M n) h (emit (LocalGet (number_local b 0)) (emit (name_put (layout p deepest ks F b M n) h) k))) (beside_state p deepest ks F σ)) (at ks [] K (laid b next) F k (beside_state p deepest ks F (stored_in (holder_slot h) (value.Num m.number) σ)))
    fit : Fit p deepest ks F 0 u 0 next (stored_in (holder_slot h) (value.Num m.number) σ)
    iterators : (y : ℕ) → next.iterator y ≡ l.iterator y

  -- nothing stands beside a parameter at whose place nothing lends
  unlent_none : (v : Value) (gs : List Value) (c : Cell) (o : Option ℕ) → o ≡ None → BareParameter o gs v c → beside v ≡ empty
  unlent_none v gs c None e q = q.2.1
  unlent_none v gs c (Some g) e q = cc

  put_in : (h : Holder) (m : AnyNumber) (u : ℕ) (k : Instructions) (K : List Label) (l : Locals) (σ : State) → HolderTakes p deepest ks F b M n h → length ks ≡ b.parameters → 0 < b.temporaries → Fit p deepest ks F 0 u 0 l σ → l.hand 0 ≡ empty → l.number 0 ≡ Bits (I64 (number_word m)) → Put_in h m u k K l σ
  put_in (OfName i) m u k K l σ hk pk lt ft he hn =
      let g = bare_global_set p deepest ks F b M n true a_number i 0 l m σ K k refl lt he hn ft.sound.names hk.0 in
      record { next = l; steps = g.steps; few = (let q = g.few in omega (arith, q)); goes = g.goes; fit = fit_global p deepest ks F b M n i (value.Num m.number) 0 u 0 l σ hk.1 ft; iterators = λ y. refl }
  put_in (OfParameter i) m u k K l σ hk pk lt ft he hn =
      let t = taken p deepest ks F b M n (OfParameter i) m u K k l σ hk pk ft (unlent_none _ σ.globals (l.param i) (lender_at p.lenders i) hk.1 (ft.params i Unboxed hk.0)) in
      record { next = t.next; steps = 2; few = omega arith; goes = then_goes (get_copied b l (NumberAt 0) (Bits (I64 (number_word m))) lt hn refl) t.goes; fit = t.fit; iterators = t.iterators }

  stored_gives : (h : Holder) (m : AnyNumber) (σ : State) → Gives m (stored_in (holder_slot h) (value.Num m.number) σ) ≡ (store_slot (holder_slot h) (value.Num m.number) >> give m) σ
  stored_gives (OfName i) m σ = refl
  stored_gives (OfParameter i) m σ = refl

  -- a holder takes it
  pub sum_taken_ok : (op : IBinOp) (h : Holder) (x y : AnyNumber) (z : ℤ) (u d : ℕ) (k : Instructions) (K : List Label) (l : Locals) (σ : State) → HolderTakes p deepest ks F b M n h → length ks ≡ b.parameters → FitsSigned w64 z → binary_at w64 op (number_word x) (number_word y) ≡ Ok (word z) →
      0 < b.temporaries → Fit p deepest ks F 1 u 0 l σ → l.hand 0 ≡ empty →
      Reached p deepest ks F b M 30 σ.turns (at ks (Bits (I64 (number_word y)) ∷ (Bits (I64 (number_word x)) ∷ [])) K (laid b l) F (sum_taken (layout p deepest ks F b M n) op h zero d k) (beside_state p deepest ks F σ)) (λ a. Summed u k K l) (Away p deepest ks F b d K) (sum_given h σ (outcome_of (checked z)))
  sum_taken_ok op h x y z u d k K l σ hk pk fz e lt ft he =
      let mach = machine p deepest ks F in
      let k1 = holder_cleared (layout p deepest ks F b M n) h (emit (LocalGet (number_local b 0)) (emit (name_put (layout p deepest ks F b M n) h) k)) in
      let Q = Away p deepest ks F b d K in
      let P1 : AnyNumber → State → Conf → Type 0 = λ a. Summed u k K l in
      then_settled mach M 8 16 30 _ σ (Put p deepest ks F b 0 u 0 a_number k1 K l) P1 Q (outcome_of (checked z)) (λ m. store_slot (holder_slot h) (value.Num m.number) >> give m) (omega arith)
      (sum_kept_ok op x y z 0 u d k1 K l σ fz e lt ft he)
      (λ m c1 em a.
      let f0 = fit_less p deepest ks F 0 u 0 a.next σ a.holds.0 a.fit in
      let g = put_in h m u k K a.next σ hk pk lt f0 a.holds.0 a.holds.1 in
      subst (λ o. Reached p deepest ks F b M 16 σ.turns c1 P1 Q o) (stored_gives h m σ)
      (subst (λ q. Reached p deepest ks F b M 16 q c1 P1 Q (Gives m (stored_in (holder_slot h) (value.Num m.number) σ))) (stored_turns p deepest ks F b M n h m σ)
      (there mach M 16 g.steps c1 _ m (stored_in (holder_slot h) (value.Num m.number) σ) P1 Q (goes_from a.comes g.goes) g.few
      (record { next = g.next; comes = refl; fit = g.fit; iterators = λ y. g.iterators y ∙ a.same.iterators y }))))

  -- Both are there as numbers, and the sum goes to a name.

  pub record AnySum (o : Arithmetic) (x y : AnyNumber) : Type 0 where
    pub sum : ℤ
    pub few : FitsSigned w64 sum
    pub words : binary_at w64 (sum_op o) (number_word x) (number_word y) ≡ Ok (word sum)
    pub means : arithmetic_of o x.number y.number ≡ checked sum

  pub any_sum : (o : Arithmetic) (x y : AnyNumber) → is_sum o ≡ true → AnySum o x y
  any_sum inline.Plus x y e =
      let q = sum_fits p deepest ks F b M n x y in
      record { sum = x.number +ℤ y.number; few = q; words = ap Ok (sum_word x.number y.number (fits x.number (small x)) (fits y.number (small y)) q); means = refl }
  any_sum inline.Minus x y e =
      let q = difference_fits p deepest ks F b M n x y in
      record { sum = x.number +ℤ neg_ℤ y.number; few = q; words = ap Ok (difference_word x.number y.number (fits x.number (small x)) (fits y.number (small y)) q); means = refl }
  any_sum o x y e = cc

  -- one after the other
  abbrev pub summed_in_turn : Holder → Arithmetic → Result AnyNumber Fault → Result AnyNumber Fault → State → Outcome AnyNumber
  summed_in_turn i o r1 r2 σ = go_on (settled r1 σ) (λ x τ. go_on (settled r2 τ) (λ y τ1. sum_given i τ1 (outcome_of (arithmetic_of o x.number y.number))))

  pub added_ok : (o : Arithmetic) (i : Holder) (x y : AnyNumber) (u d : ℕ) (k : Instructions) (K : List Label) (l : Locals) (σ : State) → is_sum o ≡ true → HolderTakes p deepest ks F b M n i → length ks ≡ b.parameters → 0 < b.temporaries → Fit p deepest ks F 1 u 0 l σ → l.hand 0 ≡ empty →
      Reached p deepest ks F b M 30 σ.turns (at ks (Bits (I64 (number_word y)) ∷ (Bits (I64 (number_word x)) ∷ [])) K (laid b l) F (sum_taken (layout p deepest ks F b M n) (sum_op o) i zero d k) (beside_state p deepest ks F σ)) (λ a. Summed u k K l) (Away p deepest ks F b d K) (sum_given i σ (outcome_of (arithmetic_of o x.number y.number)))
  added_ok o i x y u d k K l σ so hk pk lt ft he =
      let s = any_sum o x y so in
      subst (λ r. Reached p deepest ks F b M 30 σ.turns (at ks (Bits (I64 (number_word y)) ∷ (Bits (I64 (number_word x)) ∷ [])) K (laid b l) F (sum_taken (layout p deepest ks F b M n) (sum_op o) i zero d k) (beside_state p deepest ks F σ)) (λ a. Summed u k K l) (Away p deepest ks F b d K) (sum_given i σ (outcome_of r))) (sym s.means)
      (sum_taken_ok (sum_op o) i x y s.sum u d k K l σ hk pk s.few s.words lt ft he)

  pub summed_since : (u : ℕ) (k : Instructions) (K : List Label) (l l1 : Locals) (σ : State) (c : Conf) → ((y : ℕ) → l1.iterator y ≡ l.iterator y) → Summed u k K l1 σ c → Summed u k K l σ c
  summed_since u k K l l1 σ c same a = record { next = a.next; comes = a.comes; fit = a.fit; iterators = λ y. a.iterators y ∙ same y }

  -- a sum of sources
  pub anyway_ok : (s : Sum) (u d : ℕ) (k : Instructions) (K : List Label) (l : Locals) (σ : State) → is_sum s.op ≡ true → HolderTakes p deepest ks F b M n s.target → length ks ≡ b.parameters → IsSource s.left → IsSource s.right → 1 < b.temporaries → Fit p deepest ks F 0 u 0 l σ →
      Reached p deepest ks F b M 88 σ.turns (at ks [] K (laid b l) F (summed_anyway (layout p deepest ks F b M n) s d k) (beside_state p deepest ks F σ)) (λ a. Summed u k K l) (Away p deepest ks F b d K) (summed_in_turn s.target s.op (num_of s.left σ) (num_of s.right σ) σ)
  anyway_ok s u d k K l σ so hk pk hl hr lt ft =
      let mach = machine p deepest ks F in
      let y = layout p deepest ks F b M n in
      let Q = Away p deepest ks F b d K in
      let P : AnyNumber → State → Conf → Type 0 = λ a. Summed u k K l in
      let k3 = sum_taken y (sum_op s.op) s.target zero d k in
      let k2 = source_taken y s.left zero (source_taken y s.right 1 k3) in
      let k1 = source_numbered y s.right 1 d k2 in
      let f2 = fit_more p deepest ks F 1 u 0 l σ (fit_more p deepest ks F 0 u 0 l σ ft) in
      then_settled mach M 27 61 88 _ σ (Numbered s.left 2 u 0 0 k1 K l) P Q (num_of s.left σ) (λ m τ. go_on (settled (num_of s.right σ) τ) (λ z τ1. sum_given s.target τ1 (outcome_of (arithmetic_of s.op m.number z.number)))) (omega arith)
      (source_numbered_ok s.left 2 u 0 0 d k1 K l σ hl pk (omega arith) (omega (arith, lt)) f2 (ft.free 0 (omega arith)))
      (λ m c1 e1 a1.
      first mach M 0 61 61 σ.turns c1 _ P Q _ (same_goes a1.comes) (omega arith)
      (then_settled mach M 27 34 61 _ σ (Numbered s.right 2 u 0 1 k2 K a1.next) P Q (num_of s.right σ) (λ z τ1. sum_given s.target τ1 (outcome_of (arithmetic_of s.op m.number z.number))) (omega arith)
      (source_numbered_ok s.right 2 u 0 1 d k2 K a1.next σ hr pk (omega arith) (omega (arith, lt)) a1.fit (a1.keeps.hands 1 (λ q. omega (arith, q)) ∙ ft.free 1 (omega arith)))
      (λ z c2 e2 a2.
      let t1 = taken_few s.left in
      let t2 = taken_few s.right in
      let l2 = a2.next in
      weaker mach M 34 σ.turns c2 (λ a. Summed u k K l2) P Q Q (sum_given s.target σ (outcome_of (arithmetic_of s.op m.number z.number))) (λ w τ c q. summed_since u k K l l2 τ c (λ v. a2.keeps.iterators v ∙ a1.keeps.iterators v) q) (λ why τ c q. q)
      (first mach M (taken_steps s.left + taken_steps s.right) 30 34 σ.turns c2 _ (λ a. Summed u k K l2) Q (sum_given s.target σ (outcome_of (arithmetic_of s.op m.number z.number)))
      (goes_from a2.comes (then_goes (source_taken_ok _ _ _ _ s.left 0 l2 m (omega (arith, lt)) (near_still s.left 0 1 a1.next l2 m (λ q. omega (arith, q)) a2.keeps a1.near)) (source_taken_ok _ _ _ _ s.right 1 l2 z lt a2.near))) (omega (arith, t1, t2))
      (added_ok s.op s.target m z u d k K l2 σ so hk pk (omega (arith, lt)) (fit_less p deepest ks F 1 u 0 l2 σ a2.hand a2.fit) (a2.keeps.hands 0 (λ q. omega (arith, q)) ∙ a1.hand))))))
