-- Once a fault is kept, a store does not tell what a boxed name has: it is beside the script's state, whatever this name has there, and also where its text was
-- moved away.
use Rattle.std.proofs.Common.{◌≡◌, ◌≢◌, inl, inr, ℕ, suc, true, List, length, Some, refl, sym, ap, ◌∙◌, subst}
use Rattle.std.proofs.lemmas.Bool.{cases_eq}
use Rattle.std.proofs.lemmas.List.{get_or-set_other}
use Rattle.awk_values.specs.declared.fault.Fault.{Fault}
use Rattle.awk_values.specs.declared.value.Value.{Value}
use Rattle.awk_values.specs.declared.value.Value.TheVariants.{Uninit}
use Rattle.wasm_store.specs.declared.word.Word.TheVariants.{I64}
use Rattle.mid_program.specs.Mid.{Kind, Boxed, Unboxed, ArrayKind, Program}
use Rattle.sem_scripts.specs.ScriptState.{State, Faulted, global_value, with_global}
use Rattle.mid_program.specs.Sorted.{has_kind, kinds_of}
use Rattle.lower_model.specs.Cells.{Cell, Bits, Gone}
use Rattle.lower_model.specs.Machine.{Conf, Label, Frame, Store, br}
use Rattle.lower_model.specs.Places.{Bases}
use Rattle.lower_model.proofs.Observer.{Observer}
use Rattle.lower_model.proofs.Regions.{upd, upd_same, upd_other}
use Rattle.lower_model.proofs.Globals.{Globals, Hand, placed, with_global_at}
use Rattle.lower_model.proofs.GlobalSteps.{storing}
use Rattle.lower_model.proofs.Locals.{Locals, laid}
use Rattle.lower_model.proofs.State.{kind_here, arrays_before, name_hand, name_word, cells_of, host_of, HandWorn, Worn, worn_self, StoreLeft}
use Rattle.lower_model.proofs.Relation.{Fit, fit_loose, Away}
use Rattle.lower_model.proofs.Reading.{kind_found}

boxed_worn : (k : Kind) (was other now : Cell) → k ≡ Boxed → HandWorn k was now → HandWorn k other now
boxed_worn Boxed was other now e h = h
boxed_worn Unboxed was other now e h = absurd cc
boxed_worn ArrayKind was other now e h = absurd cc

boxed_gone : (k : Kind) (was now : Cell) → k ≡ Boxed → now ≡ Gone → HandWorn k was now
boxed_gone Boxed was now e h = inl h
boxed_gone Unboxed was now e h = absurd cc
boxed_gone ArrayKind was now e h = absurd cc

boxed_word : (k : Kind) (v w : Value) → k ≡ Boxed → name_word k v ≡ name_word k w
boxed_word Boxed v w e = refl
boxed_word Unboxed v w e = absurd cc
boxed_word ArrayKind v w e = absurd cc

module _ (kinds : List Kind) (way i : ℕ) (boxed : kind_here kinds i ≡ Boxed) where
  -- a boxed name that has something else in the script's state
  pub worn_less : (v : Value) (σ : State) (g : Globals) → Worn kinds (cells_of kinds way (with_global i v σ)) g → Worn kinds (cells_of kinds way σ) g
  worn_less v σ g w = record {
    way = w.way;
    status = w.status;
    text = w.text;
    range = w.range;
    hand = λ j. elim (cases_eq j i) [
      | inl e ↦ boxed_worn (kind_here kinds j) (more.hand j) ((cells_of kinds way σ).hand j) (g.hand j) (boxed_at j e) (w.hand j)
      | inr ne ↦ subst (λ (x : Value). HandWorn (kind_here kinds j) (hand_at j x) (g.hand j)) (other j ne) (w.hand j)
    ];
    number = λ j. w.number j ∙ elim (cases_eq j i) [
      | inl e ↦ ap (λ m. Bits (I64 m)) (boxed_word (kind_here kinds j) (global_value j (with_global i v σ)) (global_value j σ) (boxed_at j e))
      | inr ne ↦ ap (λ x. Bits (I64 (name_word (kind_here kinds j) x))) (other j ne)
    ];
  }
    where
      more : Globals
      more = cells_of kinds way (with_global i v σ)

      boxed_at : (j : ℕ) → j ≡ i → kind_here kinds j ≡ Boxed
      boxed_at j e = ap (kind_here kinds) e ∙ boxed

      hand_at : ℕ → Value → Cell
      hand_at j x = name_hand (kind_here kinds j) (suc (suc (arrays_before kinds j))) x

      other : (j : ℕ) → j ≢ i → global_value j (with_global i v σ) ≡ global_value j σ
      other j ne = get_or-set_other σ.globals i j v Uninit ne

  -- a boxed name whose text was moved away
  pub worn_gone : (ranges : ℕ) (σ : State) →
      Worn kinds (cells_of kinds way σ) (with_global_at ranges (length kinds) (cells_of kinds way σ) (Hand i) Gone)
  worn_gone ranges σ =
      let g = cells_of kinds way σ in
      let self = worn_self kinds way σ in
      record {
        way = refl;
        status = refl;
        text = refl;
        range = λ j. refl;
        hand = λ j. elim (cases_eq j i) [
          | inl e ↦
              boxed_gone (kind_here kinds j) (g.hand j) (upd g.hand i Gone j) (ap (kind_here kinds) e ∙ boxed)
              (ap (upd g.hand i Gone) e ∙ upd_same g.hand i Gone)
          | inr ne ↦ subst (HandWorn (kind_here kinds j) (g.hand j)) (sym (upd_other g.hand i j Gone ne)) (self.hand j)
        ];
        number = λ j. refl;
      }

-- the globals while a boxed name has given its text away
abbrev pub text_given : Program → ℕ → State → Globals
text_given p i σ = with_global_at p.ranges (length (kinds_of p.globals)) (cells_of (kinds_of p.globals) 0 σ) (Hand i) Gone

module _ (p : Program) (i : ℕ) (v : Value) (x : Fault) (boxed : has_kind (kinds_of p.globals) i Boxed ≡ true) where
  pub left_less : (σ : State) (s : Store) → StoreLeft p.ranges (kinds_of p.globals) (Faulted x) (with_global i v σ) s →
      StoreLeft p.ranges (kinds_of p.globals) (Faulted x) σ s
  left_less σ s q =
      let kinds = kinds_of p.globals in
      record { globals = q.globals; worn = worn_less kinds 0 i (kind_found kinds i Boxed boxed) v σ q.globals q.worn; is = q.is }

module _ (p : Program) (deepest : Observer) (ks : List Kind) (F : List Frame) (b : Bases) where
  pub away_less : (i : ℕ) (v : Value) (x : Fault) (d : ℕ) (K : List Label) (σ : State) (c : Conf) → has_kind (kinds_of p.globals) i Boxed ≡ true →
      Away p deepest ks F b d K (Faulted x) (with_global i v σ) c → Away p deepest ks F b d K (Faulted x) σ c
  away_less i v x d K σ c h a = record {
    next = a.next;
    store = a.store;
    left = left_less p i v x h σ a.store a.left;
    comes = a.comes;
    loose = a.loose;
    answer = a.answer;
    after = tt;
  }

  -- a call fails to which a name gave its text
  pub away_lost : (i : ℕ) (v : Value) (x : Fault) (u d : ℕ) (K : List Label) (l : Locals) (σ : State) → has_kind (kinds_of p.globals) i Boxed ≡ true →
      Fit p deepest ks F 0 u 0 l (with_global i v σ) →
      Away p deepest ks F b d K (Faulted x) σ
      (br d ks K (laid b l) F (storing (placed p.ranges (length (kinds_of p.globals)) (text_given p i (with_global i v σ))) (host_of σ (Some x))))
  away_lost i v x u d K l σ h ft =
      let kinds = kinds_of p.globals in
      let τ = with_global i v σ in
      let boxed = kind_found kinds i Boxed h in
      record {
        next = l;
        store = storing (placed p.ranges (length kinds) (text_given p i τ)) (host_of σ (Some x));
        left = record { globals = text_given p i τ; worn = worn_less kinds 0 i boxed v σ (text_given p i τ) (worn_gone kinds 0 i boxed p.ranges τ); is = refl };
        comes = refl;
        loose = fit_loose p deepest ks F 0 u 0 l τ ft;
        answer = ft.answer;
        after = tt;
      }
