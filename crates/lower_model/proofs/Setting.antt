-- Names take a value: parameters.
use Rattle.std.proofs.Common.{◌≡◌, ◌≢◌, inl, inr, ℕ, Bool, true, false, List, refl, sym, ap, ◌∙◌, subst, arith}
use Rattle.std.specs.Prelude.{get_or, set}
use Rattle.std.proofs.lemmas.Bool.{cases_eq}
use Rattle.std.proofs.lemmas.List.{get_or-set_same, get_or-set_other, length-set}
use Rattle.awk_values.specs.declared.value.Value.{Value}
use Rattle.awk_values.specs.declared.value.Value.TheVariants.{Uninit, Num}
use Rattle.sem_primitives.specs.Numbers.{Number, number_word}
use Rattle.sem_primitives.specs.declared.sorts.Answer.TheVariants as answer
use Rattle.sem_primitives.specs.declared.sorts.Sort.TheVariants as sort
use Rattle.wasm_store.specs.declared.word.Word.TheVariants.{I64}
use Rattle.mid_program.specs.Mid.{Kind, ArrayKind, Program, Form, PrimitiveAnswer}
use Rattle.mid_program.specs.MidMeaning.{Holds, boxed}
use Rattle.sem_scripts.specs.Steps.{truth_number}
use Rattle.sem_scripts.specs.ScriptState.{State, Scalar, with_local}
use Rattle.mid_program.specs.Sorted.{has_kind, lender_at, is_number}
use Rattle.lower_model.specs.Cells.{Cell, Bits}
use Rattle.lower_model.specs.Machine.{Frame}
use Rattle.lower_model.specs.Places.{Bases}
use Rattle.lower_model.proofs.Observer.{Observer}
use Rattle.lower_model.proofs.Regions.{upd_same, upd_other}
use Rattle.lower_model.proofs.Locals.{Locals, Param, with_at}
use Rattle.lower_model.proofs.Steps.{empty}
use Rattle.lower_model.proofs.Relation.{HoldsAt, ParamIs, Fit}
use Rattle.lower_model.proofs.Converting.{flag_word}
use Rattle.lower_model.proofs.Simulation.{StandsAt, NoArray}
use Rattle.lower_model.proofs.Reading.{kind_below, kind_found}

-- a number's word, by its form
abbrev pub number_of_form : (f : Form) (x : Holds f) → is_number f ≡ true → Number
number_of_form (PrimitiveAnswer (answer.Of sort.Number)) x e = x
number_of_form (PrimitiveAnswer answer.Truth) x e = truth_number x
number_of_form f x e = absurd cc

pub number_boxed : (f : Form) (x : Holds f) (e : is_number f ≡ true) → boxed f x ≡ Num (number_of_form f x e).number
number_boxed (PrimitiveAnswer (answer.Of sort.Number)) x e = refl
number_boxed (PrimitiveAnswer answer.Truth) x e = refl
number_boxed f x e = cc

pub number_held : (f : Form) (x : Holds f) (e : is_number f ≡ true) (t : ℕ) (l : Locals) → HoldsAt f t l x → (l.hand t ≡ empty) × (l.number t ≡ Bits (I64 (number_word (number_of_form f x e))))
number_held (PrimitiveAnswer (answer.Of sort.Number)) x e t l q = (q.0, q.1)
number_held (PrimitiveAnswer answer.Truth) x e t l q = (q.0, q.1 ∙ ap (λ m. Bits (I64 m)) (flag_word x))
number_held f x e t l q = absurd cc

pub number_plain : (f : Form) → is_number f ≡ true → NoArray f
number_plain (PrimitiveAnswer (answer.Of sort.Array)) e = absurd cc
number_plain f e = tt

module _ (p : Program) (deepest : Observer) (ks : List Kind) (F : List Frame) (b : Bases) (M n : ℕ) where
  -- a parameter has another value
  pub fit_param : (i : ℕ) (k : Kind) (v : Value) (c : Cell) (t u w : ℕ) (l : Locals) (σ : State) → has_kind ks i k ≡ true → ParamIs p deepest ks F (lender_at p.lenders i) σ.globals k (Scalar v) c → Fit p deepest ks F t u w l σ → Fit p deepest ks F t u w (with_at l (Param i) c) (with_local i v σ)
  fit_param i k v c t u w l σ hk h f = record {
    params = λ j k1 h1. elim (cases_eq j i) [
      | inl e ↦ here j k1 e h1
      | inr ne ↦ subst (λ o. ParamIs p deepest ks F (lender_at p.lenders j) σ.globals k1 o (upd_cell j)) (sym (get_or-set_other σ.own.locals i j (Scalar v) (Scalar Uninit) ne)) (subst (λ d. ParamIs p deepest ks F (lender_at p.lenders j) σ.globals k1 (get_or σ.own.locals j (Scalar Uninit)) d) (sym (upd_other l.param i j c ne)) (f.params j k1 h1))
    ];
    size = length-set σ.own.locals i (Scalar v) ∙ f.size;
    answer = f.answer;
    hands = f.hands;
    numbers = f.numbers;
    free = f.free;
    walks = f.walks;
    still = f.still;
    yards = f.yards;
    spare = f.spare;
    sound = record { room = f.sound.room; names = f.sound.names; calm = f.sound.calm; lend = f.sound.lend };
  }
    where
      upd_cell : ℕ → Cell
      upd_cell j = (with_at l (Param i) c).param j

      here : (j : ℕ) (k1 : Kind) → j ≡ i → has_kind ks j k1 ≡ true → ParamIs p deepest ks F (lender_at p.lenders j) σ.globals k1 (get_or (set σ.own.locals i (Scalar v)) j (Scalar Uninit)) ((with_at l (Param i) c).param j)
      here j k1 e h1 =
          let sz = f.size in
          let lt = kind_below ks i k hk in
          let h2 : has_kind ks i k1 ≡ true = ap (λ z. has_kind ks z k1) (sym e) ∙ h1 in
          let kk : k ≡ k1 = sym (kind_found ks i k hk) ∙ kind_found ks i k1 h2 in
          subst (λ z. ParamIs p deepest ks F (lender_at p.lenders z) σ.globals k1 (get_or (set σ.own.locals i (Scalar v)) z (Scalar Uninit)) ((with_at l (Param i) c).param z)) (sym e)
          (subst (λ o. ParamIs p deepest ks F (lender_at p.lenders i) σ.globals k1 o ((with_at l (Param i) c).param i)) (sym (get_or-set_same σ.own.locals i (Scalar v) (Scalar Uninit) (omega (arith, sz, lt))))
          (subst (λ d. ParamIs p deepest ks F (lender_at p.lenders i) σ.globals k1 (Scalar v) d) (sym (upd_same l.param i c)) (subst (λ z. ParamIs p deepest ks F (lender_at p.lenders i) σ.globals z (Scalar v) c) kk h)))

  pub kinds_apart : (i j : ℕ) (k : Kind) → has_kind ks i k ≡ true → has_kind ks j ArrayKind ≡ true → (k ≡ ArrayKind → ⊥) → j ≢ i
  kinds_apart i j k h h1 ne e = ne (sym (kind_found ks i k h) ∙ kind_found ks i ArrayKind (ap (λ z. has_kind ks z ArrayKind) (sym e) ∙ h1))

  pub stands_number : (v : Bool) (f : Form) (t : ℕ) (l : Locals) (x : Holds f) → l.hand t ≡ empty → HoldsAt f t l x → StandsAt v f t l x
  stands_number true f t l x e q = e
  stands_number false f t l x e q = q
