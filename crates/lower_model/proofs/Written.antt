-- The store once a global name has another value.
use Rattle.std.proofs.Common.{◌≡◌, ◌≢◌, inl, inr, ℕ, suc, ◌<◌, true, false, List, [], ◌∷◌, ◌++◌, length, Some, refl, sym, ap, ◌∙◌, arith}
use Rattle.std.specs.Prelude.{get_or}
use Rattle.std.proofs.lemmas.Bool.{cases_eq}
use Rattle.std.proofs.lemmas.List.{get_or-set_same, get_or-set_other, length-set, length-map}
use Rattle.awk_values.specs.declared.value.Value.{Value}
use Rattle.awk_values.specs.declared.value.Value.TheVariants.{Uninit}
use Rattle.wasm_store.specs.declared.word.Word.TheVariants.{I64}
use Rattle.mid_program.specs.Mid.{Kind, Program, Declared}
use Rattle.sem_scripts.specs.ScriptState.{State, Scalar, with_global, global_value}
use Rattle.mid_program.specs.Sorted.{has_kind, kinds_of, lender_at, lends}
use Rattle.lower_model.specs.Cells.{Cell, Bits}
use Rattle.lower_model.specs.Machine.{Frame}
use Rattle.lower_model.specs.Places.{Bases}
use Rattle.lower_model.proofs.Observer.{Observer}
use Rattle.lower_model.proofs.Regions.{upd, upd_same, upd_other, cells, pairs_same}
use Rattle.lower_model.proofs.Globals.{placed}
use Rattle.lower_model.proofs.Locals.{Locals}
use Rattle.lower_model.proofs.State.{LentStays, kind_here, arrays_before, name_hand, name_word, cells_of}
use Rattle.lower_model.proofs.Relation.{Fit, SameLent, param_stays}
use Rattle.mid_program.proofs.Lenders.{not_lender}

module _ (p : Program) (deepest : Observer) (ks : List Kind) (F : List Frame) (b : Bases) (M n : ℕ) where
  -- a global that lends nothing has another value
  pub others_lend : (i : ℕ) (v : Value) (σ : State) → lends p.lenders i ≡ false → SameLent p deepest ks F σ (with_global i v σ)
  others_lend i v σ e j g h = get_or-set_other σ.globals i g v Uninit (λ q. not_lender p.lenders j i e (h ∙ ap Some q))

  pub fit_global_by : (i : ℕ) (v : Value) (t u w : ℕ) (l : Locals) (σ : State) → ((j : ℕ) (k : Kind) → has_kind ks j k ≡ true → LentStays (lender_at p.lenders j) σ (with_global i v σ)) → Fit p deepest ks F t u w l σ →
      Fit p deepest ks F t u w l (with_global i v σ)
  fit_global_by i v t u w l σ same f = record {
    params = λ j k h. param_stays p deepest ks F (lender_at p.lenders j) σ (with_global i v σ) k (get_or σ.own.locals j (Scalar Uninit)) (l.param j) (same j k h) (f.params j k h);
    size = f.size;
    answer = f.answer;
    hands = f.hands;
    numbers = f.numbers;
    free = f.free;
    walks = f.walks;
    still = f.still;
    yards = f.yards;
    spare = f.spare;
    sound = record { room = f.sound.room; names = length-set σ.globals i v ∙ f.sound.names; calm = f.sound.calm; lend = f.sound.lend };
  }

  pub fit_global : (i : ℕ) (v : Value) (t u w : ℕ) (l : Locals) (σ : State) → lends p.lenders i ≡ false → Fit p deepest ks F t u w l σ → Fit p deepest ks F t u w l (with_global i v σ)
  fit_global i v t u w l σ e f = fit_global_by i v t u w l σ (λ j k h. others_lend i v σ e j) f

  -- its two cells were written, and the others are as they were
  pub global_written : (i : ℕ) (v : Value) (σ : State) (c m : Cell) → length σ.globals ≡ length p.globals → i < length (kinds_of p.globals) →
      name_hand (kind_here (kinds_of p.globals) i) (suc (suc (arrays_before (kinds_of p.globals) i))) v ≡ c → Bits (I64 (name_word (kind_here (kinds_of p.globals) i) v)) ≡ m →
      placed p.ranges (length (kinds_of p.globals)) (record (cells_of (kinds_of p.globals) 0 σ) { hand = upd (cells_of (kinds_of p.globals) 0 σ).hand i c; number = upd (cells_of (kinds_of p.globals) 0 σ).number i m }) ≡ placed p.ranges (length (kinds_of p.globals)) (cells_of (kinds_of p.globals) 0 (with_global i v σ))
  global_written i v σ c m sz lt ec em =
      let kinds = kinds_of p.globals in
      let g = cells_of kinds 0 σ in
      let g1 = cells_of kinds 0 (with_global i v σ) in
      let ln = length-map p.globals (λ (d : Declared). d.kind) in
      let same : global_value i (with_global i v σ) ≡ v = get_or-set_same σ.globals i v Uninit (omega (arith, sz, lt, ln)) in
      let other : (j : ℕ) → j ≢ i → global_value j (with_global i v σ) ≡ global_value j σ = λ j ne. get_or-set_other σ.globals i j v Uninit ne in
      ap (λ r. g.way ∷ (g.status ∷ (g.text ∷ (cells g.range p.ranges ++ (r ++ [])))))
      (pairs_same (upd g.hand i c) (upd g.number i m) g1.hand g1.number (length kinds)
      (λ j lj. elim (cases_eq j i) [
        | inl e ↦ ap (upd g.hand i c) e ∙ (upd_same g.hand i c ∙ (sym ec ∙ (ap (name_hand (kind_here kinds i) (suc (suc (arrays_before kinds i)))) (sym same) ∙ ap g1.hand (sym e))))
        | inr ne ↦ upd_other g.hand i j c ne ∙ ap (name_hand (kind_here kinds j) (suc (suc (arrays_before kinds j)))) (sym (other j ne))
      ])
      (λ j lj. elim (cases_eq j i) [
        | inl e ↦ ap (upd g.number i m) e ∙ (upd_same g.number i m ∙ (sym em ∙ (ap (λ z. Bits (I64 (name_word (kind_here kinds i) z))) (sym same) ∙ ap g1.number (sym e))))
        | inr ne ↦ upd_other g.number i j m ne ∙ ap (λ z. Bits (I64 (name_word (kind_here kinds j) z))) (sym (other j ne))
      ]))
