-- A temporary is converted in place, or the function is left; and the truth of a temporary.
use Rattle.std.proofs.Common.{◌≡◌, ◌≢◌, inl, inr, ℕ, suc, ◌+◌, ◌<◌, ◌≤◌, Bool, true, false, List, [], ◌∷◌, Some, None, Option, Result, Ok, Err, ℤ, pos, negsuc, unsigned_abs, w64, refl, sym, ap, ◌∙◌, subst, arith, true≢false}
use Rattle.std.specs.Prelude.{◌^◌, ◌-◌, int_le}
use Rattle.std.specs.Int.{cast_signed}
use Rattle.std.proofs.lemmas.Bool.{lt-leb}
use Rattle.std.proofs.lemmas.Int.{to_z-of_z}
use Rattle.awk_values.specs.declared.fault.Fault.{Fault}
use Rattle.awk_values.specs.declared.value.Value.{Value}
use Rattle.awk_values.specs.declared.value.Value.TheVariants as value
use Rattle.sem_primitives.specs.ConstantNumbers.{flag_number}
use Rattle.sem_primitives.specs.Numbers.{Number, number_word, or_range}
use Rattle.sem_primitives.specs.ValueMeaning.{number_of_row}
use Rattle.sem_primitives.specs.declared.sorts.Sort.{Sort}
use Rattle.sem_primitives.specs.declared.sorts.Sort.TheVariants as sort
use Rattle.sem_primitives.specs.declared.sorts.Answer.TheVariants as answer
use Rattle.sem_primitives.specs.declared.answers.InputAnswer.TheVariants as input
use Rattle.sem_primitives.specs.declared.answers.StreamAnswer.TheVariants as stream
use Rattle.sem_primitives.specs.declared.table.Primitive.TheVariants as row
use Rattle.sem_primitives.proofs.Words.{fits as word_fits, number_again, small}
use Rattle.wasm_types.specs.Syntax.{Instructions, Done}
use Rattle.wasm_types.specs.declared.instr.Simple.TheVariants.{I64Const, LocalSet}
use Rattle.wasm_types.specs.declared.instr.IRelOp.TheVariants.{LeS}
use Rattle.wasm_store.specs.Integers.{compare_at}
use Rattle.wasm_store.specs.declared.word.Word.TheVariants.{I64}
use Rattle.wasm_store.specs.Words.{flag}
use Rattle.mid_program.specs.Mid.{Kind, Program, Form, PrimitiveAnswer, NumberOrText, OptionalNumber}
use Rattle.mid_program.specs.MidMeaning.{Holds, converted, boxed}
use Rattle.mid_program.specs.Sorted.{fits, kinds_of}
use Rattle.sem_scripts.specs.Steps.{zero_number, one_number, minus_one, numeric, truth_number}
use Rattle.sem_scripts.specs.ScriptState.{State, Faulted, Outcome, Gives, settled}
use Rattle.lower_model.specs.Cells.{Cell, Bits, Held, is_owned}
use Rattle.lower_model.specs.Machine.{Code, Conf, Label, Frame, Store, at, br, label}
use Rattle.lower_model.specs.Places.{Bases, handle_local, number_local}
use Rattle.lower_model.specs.Small.{emit, ask_row, least, text_beside, boxed_number, nothing_boxed, number_of_value, number_made, unnumbered, kept_number}
use Rattle.lower_model.specs.Small
use Rattle.lower_model.proofs.Observer.{Observer}
use Rattle.lower_model.proofs.Runs.{Goes, by_steps, then_goes, goes_to, goes_from, stays, there, faulted, first, within, weaker, then_step, Onward}
use Rattle.lower_model.proofs.Regions.{upd_same, upd_other}
use Rattle.lower_model.proofs.Locals.{Locals, Hand, Number as NumberAt, with_at, laid}
use Rattle.lower_model.proofs.Steps.{empty, get_copied, set_ok, moved_out_ok}
use Rattle.lower_model.proofs.State.{perhaps, word_not_least, BareIs, IsBeside, IsNone, IsNumber, faulted_left}
use Rattle.lower_model.proofs.Relation.{HoldsAt, Fit, fit_loose, fit_hand, fit_number, Away, away_out}
use Rattle.lower_model.proofs.Pieces.{chooses, closes, number_is_ok, number_kept, number_failed}
use Rattle.lower_model.proofs.Answers.{machine, beside_state, left_beside, reply, after_reply, Reached}
use Rattle.lower_model.proofs.Conversions.{ask_to_num, ask_uninit, PerhapsIs, NoNumber, There, boxed_number_ok, boxed_perhaps_ok, code_number_ok}

-- the same but for one temporary
pub record Keeps (t : ℕ) (l l1 : Locals) : Type 0 where
  pub hands : (x : ℕ) → x ≢ t → l1.hand x ≡ l.hand x
  pub numbers : (x : ℕ) → x ≢ t → l1.number x ≡ l.number x
  pub iterators : (x : ℕ) → l1.iterator x ≡ l.iterator x
  pub arrays : (x : ℕ) → l1.array x ≡ l.array x

pub keeps_self : (t : ℕ) (l : Locals) → Keeps t l l
keeps_self t l = record { hands = λ x e. refl; numbers = λ x e. refl; iterators = λ x. refl; arrays = λ x. refl }

pub keeps_then : (t : ℕ) (l l1 l2 : Locals) → Keeps t l l1 → Keeps t l1 l2 → Keeps t l l2
keeps_then t l l1 l2 a c = record { hands = λ x e. c.hands x e ∙ a.hands x e; numbers = λ x e. c.numbers x e ∙ a.numbers x e; iterators = λ x. c.iterators x ∙ a.iterators x; arrays = λ x. c.arrays x ∙ a.arrays x }

pub keeps_hand : (t : ℕ) (l : Locals) (c : Cell) → Keeps t l (with_at l (Hand t) c)
keeps_hand t l c = record { hands = λ x e. upd_other l.hand t x c e; numbers = λ x e. refl; iterators = λ x. refl; arrays = λ x. refl }

pub keeps_number : (t : ℕ) (l : Locals) (c : Cell) → Keeps t l (with_at l (NumberAt t) c)
keeps_number t l c = record { hands = λ x e. refl; numbers = λ x e. upd_other l.number t x c e; iterators = λ x. refl; arrays = λ x. refl }

pub flag_word : (x : Bool) → flag_number x ≡ number_word (truth_number x)
flag_word true = refl
flag_word false = refl

module _ (p : Program) (deepest : Observer) (ks : List Kind) (F : List Frame) (b : Bases) (M : ℕ) where
  abbrev u : Code
  u = machine p deepest ks F

  -- temporary t is converted, where those below q are in use
  pub record Converted (q i w t : ℕ) (f : Form) (k : Instructions) (K : List Label) (l : Locals) (x : Holds f) (σ : State) (c : Conf) : Type 0 where
    pub next : Locals
    pub comes : c ≡ at ks [] K (laid b next) F k (beside_state p deepest ks F σ)
    pub fit : Fit p deepest ks F q i w next σ
    pub keeps : Keeps t l next
    pub holds : HoldsAt f t next x

  conv_self : (q i w t : ℕ) (f : Form) (k : Instructions) (K : List Label) (l : Locals) (x : Holds f) (σ : State) → Fit p deepest ks F q i w l σ → HoldsAt f t l x → Converted q i w t f k K l x σ (at ks [] K (laid b l) F k (beside_state p deepest ks F σ))
  conv_self q i w t f k K l x σ ft hd = record { next = l; comes = refl; fit = ft; keeps = keeps_self t l; holds = hd }

  conv_hand : (q i w t : ℕ) (k : Instructions) (K : List Label) (l : Locals) (v : Value) (σ : State) → t < q → Fit p deepest ks F q i w l σ → Converted q i w t (PrimitiveAnswer (answer.Of sort.Value)) k K l v σ (at ks [] K (laid b (with_at l (Hand t) (Held v))) F k (beside_state p deepest ks F σ))
  conv_hand q i w t k K l v σ lt ft = record {
    next = with_at l (Hand t) (Held v);
    comes = refl;
    fit = fit_hand p deepest ks F t q i w l σ (Held v) (inr (v, refl)) lt ft;
    keeps = keeps_hand t l (Held v);
    holds = (upd_same l.hand t (Held v), tt);
  }

  pub conv_number : (q i w t : ℕ) (k : Instructions) (K : List Label) (l : Locals) (x : Number) (σ : State) → Fit p deepest ks F q i w l σ → l.hand t ≡ empty → Converted q i w t (PrimitiveAnswer (answer.Of sort.Number)) k K l x σ (at ks [] K (laid b (with_at l (NumberAt t) (Bits (I64 (number_word x))))) F k (beside_state p deepest ks F σ))
  conv_number q i w t k K l x σ ft e = record {
    next = with_at l (NumberAt t) (Bits (I64 (number_word x)));
    comes = refl;
    fit = fit_number p deepest ks F t q i w l σ (Bits (I64 (number_word x))) refl ft;
    keeps = keeps_number t l (Bits (I64 (number_word x)));
    holds = (e, upd_same l.number t (Bits (I64 (number_word x))));
  }

  conv_comes : (q i w t : ℕ) (f : Form) (k : Instructions) (K : List Label) (l : Locals) (x y : Holds f) (σ : State) (c : Conf) → x ≡ y → Converted q i w t f k K l x σ c → Converted q i w t f k K l y σ c
  conv_comes q i w t f k K l x y σ c e a = subst (λ z. Converted q i w t f k K l z σ c) e a

  pub perhaps_is : (o : Option Number) → PerhapsIs p deepest ks F b (perhaps o) (boxed OptionalNumber o)
  perhaps_is None = NoNumber refl refl
  perhaps_is (Some x) = There x refl refl

  -- a value as a number
  pub value_numbered : (q i w t d : ℕ) (k : Instructions) (K : List Label) (l : Locals) (v : Value) (σ : State) → t < q → t < b.temporaries → Fit p deepest ks F q i w l σ → l.hand t ≡ Held v →
      Reached p deepest ks F b M 6 σ.turns (at ks [] K (laid b l) F (number_of_value b t d k) (beside_state p deepest ks F σ)) (Converted q i w t (PrimitiveAnswer (answer.Of sort.Number)) k K l) (Away p deepest ks F b d K) (settled (number_of_row v) σ)
  value_numbered q i w t d k K l v σ lq lt ft e =
      let l1 = with_at l (Hand t) empty in
      let f1 = fit_hand p deepest ks F t q i w l σ empty (inl refl) lq ft in
      first u M 3 3 6 σ.turns _ _ (Converted q i w t (PrimitiveAnswer (answer.Of sort.Number)) k K l) (Away p deepest ks F b d K) (settled (number_of_row v) σ)
      (then_goes (moved_out_ok b l (Hand t) (Held v) lt e) (ask_to_num p deepest ks F [] σ v)) (omega arith)
      (by (number_of_row v) l1 f1)
    where
      by : (r : Result Number Fault) (l1 : Locals) → Fit p deepest ks F q i w (with_at l (Hand t) empty) σ →
          Reached p deepest ks F b M 3 σ.turns (at ks (reply (answer.Of sort.Number) r []) K (laid b (with_at l (Hand t) empty)) F (kept_number b true t d k) (after_reply p deepest ks F r σ)) (Converted q i w t (PrimitiveAnswer (answer.Of sort.Number)) k K l) (Away p deepest ks F b d K) (settled r σ)
      by (Ok x) l1 f1 =
          let l2 = with_at l (Hand t) empty in
          let c = conv_number q i w t k K l2 x σ f1 (upd_same l.hand t empty) in
          there u M 3 3 _ _ x σ (Converted q i w t (PrimitiveAnswer (answer.Of sort.Number)) k K l) (Away p deepest ks F b d K) (number_kept b l2 t d (number_word x) lt (f1.numbers t) (word_not_least x)) (omega arith)
          (record { next = c.next; comes = c.comes; fit = c.fit; keeps = keeps_then t l l2 c.next (keeps_hand t l empty) c.keeps; holds = c.holds })
      by (Err g) l1 f1 = faulted u M 3 3 _ _ g σ (Converted q i w t (PrimitiveAnswer (answer.Of sort.Number)) k K l) (Away p deepest ks F b d K) (number_failed b (with_at l (Hand t) empty) t d lt (f1.numbers t)) (omega arith) (leaves f1)
        where
          leaves : Fit p deepest ks F q i w (with_at l (Hand t) empty) σ → Away p deepest ks F b d K (Faulted g) σ (br d ks K (laid b (with_at (with_at l (Hand t) empty) (NumberAt t) (Bits (I64 least)))) F (left_beside p deepest ks F (Faulted g) σ))
          leaves f1 = record {
            next = with_at (with_at l (Hand t) empty) (NumberAt t) (Bits (I64 least));
            store = left_beside p deepest ks F (Faulted g) σ;
            left = faulted_left p.ranges (kinds_of p.globals) 0 g σ;
            comes = refl;
            loose = fit_loose p deepest ks F q i w (with_at (with_at l (Hand t) empty) (NumberAt t) (Bits (I64 least))) σ (fit_number p deepest ks F t q i w (with_at l (Hand t) empty) σ (Bits (I64 least)) refl f1);
            answer = f1.answer;
            after = tt;
          }

  -- what a block's code does, and the end of the block
  pub blocked : {A : Type 0} → (j l0 d : ℕ) (k : Instructions) (K : List Label) (c : Conf) (P P1 : A → State → Conf → Type 0) (r : Outcome A) → ((a : A) (σ : State) (c1 : Conf) → P a σ c1 → Onward u M 1 (P1 a σ) c1) →
      Reached p deepest ks F b M j l0 c P (Away p deepest ks F b (suc d) (label [] None k ∷ K)) r → Reached p deepest ks F b M (j + 1) l0 c P1 (Away p deepest ks F b d K) r
  blocked j l0 d k K c P P1 r f a =
      then_step u M 1 j (j + 1) l0 c P P1 (Away p deepest ks F b d K) r (omega arith) f
      (weaker u M j l0 c P P (Away p deepest ks F b (suc d) (label [] None k ∷ K)) (Away p deepest ks F b d K) r (λ a σ c1 q. q) (λ why σ c1 q. away_out p deepest ks F b d (label [] None k) K why σ c1 q) a)

  -- at the end of a block what was converted is there still
  pub conv_closes : (q i w t : ℕ) (f : Form) (k : Instructions) (K : List Label) (l : Locals) (x : Holds f) (σ : State) (c : Conf) → Converted q i w t f Done (label [] None k ∷ K) l x σ c → Onward u M 1 (Converted q i w t f k K l x σ) c
  conv_closes q i w t f k K l x σ c a = record {
    conf = at ks [] K (laid b a.next) F k (beside_state p deepest ks F σ);
    steps = 1;
    few = omega arith;
    goes = goes_from a.comes closes;
    holds = record { next = a.next; comes = refl; fit = a.fit; keeps = a.keeps; holds = a.holds };
  }

  pub none_number : (v : Value) → v ≡ value.Uninit → number_of_row v ≡ Ok zero_number
  none_number v e = ap number_of_row e ∙ ap or_range (number_again zero_number)

  pub own_number : (v : Value) (m : Number) → v ≡ value.Num m.number → number_of_row v ≡ Ok m
  own_number v m e = ap number_of_row e ∙ ap or_range (number_again m)

  -- the words of numbers are above the two that are none
  pub word_numbered : (x : Number) → compare_at w64 LeS (number_word x) text_beside ≡ false
  word_numbered x = ap (λ z. int_le z (cast_signed w64 text_beside)) (to_z-of_z w64 x.number (word_fits x.number (small x))) ∙ by x.number (small x)
    where
      by : (z : ℤ) → unsigned_abs z ≤ 2 ^ 53 → int_le z (cast_signed w64 text_beside) ≡ false
      by (pos k) e = refl
      by (negsuc k) e = lt-leb (2 ^ 63 - 2) k (omega (arith, e))

  unnumbered_ok : {K : List Label} {c : Instructions} {G : Store} → (l : Locals) (t m : ℕ) (f : Bool) → t < b.temporaries → l.number t ≡ Bits (I64 m) → compare_at w64 LeS m text_beside ≡ f →
      Goes u 2 (at ks [] K (laid b l) F (unnumbered b t c) G) (at ks (Bits (flag f) ∷ []) K (laid b l) F c G)
  unnumbered_ok {K = K} {c = c} {G = G} l t m f h e q =
      then_goes (get_copied b l (NumberAt t) (Bits (I64 m)) h e refl) (goes_to (by_steps 1 refl) (ap (λ (o : Bool). at ks (Bits (flag o) ∷ []) K (laid b l) F c G) q))

  -- what an unboxed name has, as a value
  bare_boxed : (q i w t d : ℕ) (k : Instructions) (K : List Label) (l : Locals) (v : Value) (σ : State) → t < q → t < b.temporaries → Fit p deepest ks F q i w l σ → (n0 : ℕ) → l.number t ≡ Bits (I64 n0) → BareIs v n0 (l.hand t) →
      Reached p deepest ks F b M 16 σ.turns (at ks [] K (laid b l) F (Small.to_value b NumberOrText t k) (beside_state p deepest ks F σ)) (Converted q i w t (PrimitiveAnswer (answer.Of sort.Value)) k K l) (Away p deepest ks F b d K) (settled (Ok v) σ)
  bare_boxed q i w t d k K l v σ lq lt ft n0 en (IsBeside e e1) =
      let put = emit (LocalSet (handle_local b t)) Done in
      let he = en ∙ ap (λ m. Bits (I64 m)) e in
      there u M 16 8 _ _ v σ (Converted q i w t (PrimitiveAnswer (answer.Of sort.Value)) k K l) (Away p deepest ks F b d K)
      (then_goes (then_goes (unnumbered_ok l t text_beside true lt he refl) (chooses (nothing_boxed b t Done) (boxed_number b t put) 1))
      (then_goes (then_goes (number_is_ok b l t text_beside least lt he) (chooses (ask_row row.Uninit put) Done 0)) (then_goes closes closes))) (omega arith)
      (conv_self q i w t (PrimitiveAnswer (answer.Of sort.Value)) k K l v σ ft (e1, tt))
  bare_boxed q i w t d k K l v σ lq lt ft n0 en (IsNone e e1 e2) =
      let put = emit (LocalSet (handle_local b t)) Done in
      let he = en ∙ ap (λ m. Bits (I64 m)) e1 in
      there u M 16 10 _ _ v σ (Converted q i w t (PrimitiveAnswer (answer.Of sort.Value)) k K l) (Away p deepest ks F b d K)
      (goes_to
      (then_goes (then_goes (unnumbered_ok l t least true lt he refl) (chooses (nothing_boxed b t Done) (boxed_number b t put) 1))
      (then_goes (then_goes (number_is_ok b l t least least lt he) (chooses (ask_row row.Uninit put) Done 1))
      (then_goes (ask_uninit p deepest ks F [] σ) (then_goes (set_ok b l (Hand t) (Held value.Uninit) lt (ap is_owned e2)) (then_goes closes closes)))))
      (ap (λ x. at ks [] K (laid b (with_at l (Hand t) (Held x))) F k (beside_state p deepest ks F σ)) (sym e))) (omega arith)
      (conv_hand q i w t k K l v σ lq ft)
  bare_boxed q i w t d k K l v σ lq lt ft n0 en (IsNumber m e e1 e2) =
      let put = emit (LocalSet (handle_local b t)) Done in
      let he = en ∙ ap (λ z. Bits (I64 z)) e1 in
      there u M 16 7 _ _ v σ (Converted q i w t (PrimitiveAnswer (answer.Of sort.Value)) k K l) (Away p deepest ks F b d K)
      (goes_to
      (then_goes (then_goes (unnumbered_ok l t (number_word m) false lt he (word_numbered m)) (chooses (nothing_boxed b t Done) (boxed_number b t put) 0))
      (then_goes (boxed_number_ok p deepest ks F b l t σ m lt he (ap is_owned e2)) closes))
      (ap (λ x. at ks [] K (laid b (with_at l (Hand t) (Held x))) F k (beside_state p deepest ks F σ)) (sym e))) (omega arith)
      (conv_hand q i w t k K l v σ lq ft)

  -- what an unboxed name has, as a number
  bare_numbered : (q i w t d : ℕ) (k : Instructions) (K : List Label) (l : Locals) (v : Value) (σ : State) → t < q → t < b.temporaries → Fit p deepest ks F q i w l σ → (n0 : ℕ) → l.number t ≡ Bits (I64 n0) → BareIs v n0 (l.hand t) →
      Reached p deepest ks F b M 14 σ.turns (at ks [] K (laid b l) F (Small.to_number b NumberOrText t d k) (beside_state p deepest ks F σ)) (Converted q i w t (PrimitiveAnswer (answer.Of sort.Number)) k K l) (Away p deepest ks F b d K) (settled (number_of_row v) σ)
  bare_numbered q i w t d k K l v σ lq lt ft n0 en (IsBeside e e1) =
      let K1 = label [] None k ∷ K in
      let K2 = label [] None Done ∷ K1 in
      let zero_put = emit (I64Const 0) (emit (LocalSet (number_local b t)) Done) in
      let N = PrimitiveAnswer (answer.Of sort.Number) in
      let he = en ∙ ap (λ m. Bits (I64 m)) e in
      first u M 6 8 14 σ.turns _ _ (Converted q i w t N k K l) (Away p deepest ks F b d K) (settled (number_of_row v) σ)
      (then_goes (then_goes (unnumbered_ok l t text_beside true lt he refl) (chooses (number_made b t d Done) Done 1))
      (then_goes (number_is_ok b l t text_beside text_beside lt he) (chooses (number_of_value b t (suc (suc d)) Done) zero_put 1))) (omega arith)
      (blocked 7 σ.turns d k K _ (Converted q i w t N Done K1 l) (Converted q i w t N k K l) (settled (number_of_row v) σ)
      (λ x τ c1 a. conv_closes q i w t N k K l x τ c1 a)
      (blocked 6 σ.turns (suc d) Done K1 _ (Converted q i w t N Done K2 l) (Converted q i w t N Done K1 l) (settled (number_of_row v) σ)
      (λ x τ c1 a. conv_closes q i w t N Done K1 l x τ c1 a)
      (value_numbered q i w t (suc (suc d)) Done K2 l v σ lq lt ft e1)))
  bare_numbered q i w t d k K l v σ lq lt ft n0 en (IsNone e e1 e2) =
      let zero_put = emit (I64Const 0) (emit (LocalSet (number_local b t)) Done) in
      let he = en ∙ ap (λ m. Bits (I64 m)) e1 in
      subst (λ r. Reached p deepest ks F b M 14 σ.turns (at ks [] K (laid b l) F (Small.to_number b NumberOrText t d k) (beside_state p deepest ks F σ)) (Converted q i w t (PrimitiveAnswer (answer.Of sort.Number)) k K l) (Away p deepest ks F b d K) (settled r σ)) (sym (none_number v e))
      (there u M 14 9 _ _ zero_number σ (Converted q i w t (PrimitiveAnswer (answer.Of sort.Number)) k K l) (Away p deepest ks F b d K)
      (then_goes (then_goes (unnumbered_ok l t least true lt he refl) (chooses (number_made b t d Done) Done 1))
      (then_goes (then_goes (number_is_ok b l t least text_beside lt he) (chooses (number_of_value b t (suc (suc d)) Done) zero_put 0))
      (then_goes (set_ok b l (NumberAt t) (Bits (I64 0)) lt (ft.numbers t)) (then_goes closes closes)))) (omega arith)
      (conv_number q i w t k K l zero_number σ ft e2))
  bare_numbered q i w t d k K l v σ lq lt ft n0 en (IsNumber m e e1 e2) =
      let he = en ∙ ap (λ z. Bits (I64 z)) e1 in
      subst (λ r. Reached p deepest ks F b M 14 σ.turns (at ks [] K (laid b l) F (Small.to_number b NumberOrText t d k) (beside_state p deepest ks F σ)) (Converted q i w t (PrimitiveAnswer (answer.Of sort.Number)) k K l) (Away p deepest ks F b d K) (settled r σ)) (sym (own_number v m e))
      (there u M 14 4 _ _ m σ (Converted q i w t (PrimitiveAnswer (answer.Of sort.Number)) k K l) (Away p deepest ks F b d K)
      (then_goes (unnumbered_ok l t (number_word m) false lt he (word_numbered m)) (then_goes (chooses (number_made b t d Done) Done 0) closes)) (omega arith)
      (conv_self q i w t (PrimitiveAnswer (answer.Of sort.Number)) k K l m σ ft (e2, he)))

  coded : (q i w t d : ℕ) (k : Instructions) (K : List Label) (l : Locals) (x : Number) (σ : State) → Fit p deepest ks F q i w l σ → l.hand t ≡ empty →
      {c : Conf} → Goes u 7 c (at ks [] K (laid b (with_at l (NumberAt t) (Bits (I64 (number_word x))))) F k (beside_state p deepest ks F σ)) →
      Reached p deepest ks F b M 16 σ.turns c (Converted q i w t (PrimitiveAnswer (answer.Of sort.Number)) k K l) (Away p deepest ks F b d K) (Gives x σ)
  coded q i w t d k K l x σ ft e g = there u M 16 7 _ _ x σ (Converted q i w t (PrimitiveAnswer (answer.Of sort.Number)) k K l) (Away p deepest ks F b d K) g (omega arith) (conv_number q i w t k K l x σ ft e)

  -- A temporary is converted to what is wanted, or the function is left.
  pub converted_ok : (f : Form) (s : Sort) (x : Holds f) (q i w t d : ℕ) (k : Instructions) (K : List Label) (l : Locals) (σ : State) → fits f s ≡ true → t < q → t < b.temporaries → Fit p deepest ks F q i w l σ → HoldsAt f t l x →
      Reached p deepest ks F b M 16 σ.turns (at ks [] K (laid b l) F (Small.converted b f s t d k) (beside_state p deepest ks F σ)) (Converted q i w t (PrimitiveAnswer (answer.Of s)) k K l) (Away p deepest ks F b d K) (settled (converted f s x) σ)
  converted_ok (PrimitiveAnswer (answer.Of sort.Value)) sort.Value x q i w t d k K l σ e lq lt ft hd = there u M 16 0 _ _ x σ (Converted q i w t (PrimitiveAnswer (answer.Of sort.Value)) k K l) (Away p deepest ks F b d K) stays (omega arith) (conv_self q i w t (PrimitiveAnswer (answer.Of sort.Value)) k K l x σ ft hd)
  converted_ok (PrimitiveAnswer (answer.Of sort.Number)) sort.Value x q i w t d k K l σ e lq lt ft hd =
      there u M 16 3 _ _ (numeric x) σ (Converted q i w t (PrimitiveAnswer (answer.Of sort.Value)) k K l) (Away p deepest ks F b d K) (boxed_number_ok p deepest ks F b l t σ x lt hd.1 (ap is_owned hd.0)) (omega arith) (conv_hand q i w t k K l (numeric x) σ lq ft)
  converted_ok (PrimitiveAnswer answer.Truth) sort.Value x q i w t d k K l σ e lq lt ft hd =
      there u M 16 3 _ _ (numeric (truth_number x)) σ (Converted q i w t (PrimitiveAnswer (answer.Of sort.Value)) k K l) (Away p deepest ks F b d K) (boxed_number_ok p deepest ks F b l t σ (truth_number x) lt (hd.1 ∙ ap (λ m. Bits (I64 m)) (flag_word x)) (ap is_owned hd.0)) (omega arith)
      (conv_hand q i w t k K l (numeric (truth_number x)) σ lq ft)
  converted_ok NumberOrText sort.Value x q i w t d k K l σ e lq lt ft hd = bare_boxed q i w t d k K l x σ lq lt ft hd.0 hd.1 hd.2
  converted_ok OptionalNumber sort.Value x q i w t d k K l σ e lq lt ft hd =
      let y = boxed_perhaps_ok p deepest ks F b k K l t (perhaps x) σ (boxed OptionalNumber x) lt hd.1 (ap is_owned hd.0) (perhaps_is x) in
      there u M 16 y.steps _ _ (boxed OptionalNumber x) σ (Converted q i w t (PrimitiveAnswer (answer.Of sort.Value)) k K l) (Away p deepest ks F b d K) y.goes (omega (arith, y.few)) (conv_hand q i w t k K l (boxed OptionalNumber x) σ lq ft)
  converted_ok (PrimitiveAnswer (answer.Of sort.Value)) sort.Number x q i w t d k K l σ e lq lt ft hd = within u M 6 16 σ.turns _ (Converted q i w t (PrimitiveAnswer (answer.Of sort.Number)) k K l) (Away p deepest ks F b d K) (settled (number_of_row x) σ) (omega arith) (value_numbered q i w t d k K l x σ lq lt ft hd.0)
  converted_ok (PrimitiveAnswer (answer.Of sort.Number)) sort.Number x q i w t d k K l σ e lq lt ft hd = there u M 16 0 _ _ x σ (Converted q i w t (PrimitiveAnswer (answer.Of sort.Number)) k K l) (Away p deepest ks F b d K) stays (omega arith) (conv_self q i w t (PrimitiveAnswer (answer.Of sort.Number)) k K l x σ ft hd)
  converted_ok (PrimitiveAnswer answer.Truth) sort.Number x q i w t d k K l σ e lq lt ft hd =
      there u M 16 0 _ _ (truth_number x) σ (Converted q i w t (PrimitiveAnswer (answer.Of sort.Number)) k K l) (Away p deepest ks F b d K) stays (omega arith)
      (conv_self q i w t (PrimitiveAnswer (answer.Of sort.Number)) k K l (truth_number x) σ ft (hd.0, hd.1 ∙ ap (λ m. Bits (I64 m)) (flag_word x)))
  converted_ok (PrimitiveAnswer answer.Input) sort.Number input.End q i w t d k K l σ e lq lt ft hd = coded q i w t d k K l zero_number σ ft hd.0 (code_number_ok p deepest ks F b k K l t 0 0 σ lt hd.1 (λ vs. refl))
  converted_ok (PrimitiveAnswer answer.Input) sort.Number input.Read q i w t d k K l σ e lq lt ft hd = coded q i w t d k K l one_number σ ft hd.0 (code_number_ok p deepest ks F b k K l t 1 1 σ lt hd.1 (λ vs. refl))
  converted_ok (PrimitiveAnswer answer.Input) sort.Number input.Pending q i w t d k K l σ e lq lt ft hd = coded q i w t d k K l zero_number σ ft hd.0 (code_number_ok p deepest ks F b k K l t 2 0 σ lt hd.1 (λ vs. refl))
  converted_ok (PrimitiveAnswer answer.Input) sort.Number input.Failed q i w t d k K l σ e lq lt ft hd = coded q i w t d k K l minus_one σ ft hd.0 (code_number_ok p deepest ks F b k K l t 3 (2 ^ 64 - 1) σ lt hd.1 (λ vs. refl))
  converted_ok (PrimitiveAnswer answer.Stream) sort.Number stream.Done q i w t d k K l σ e lq lt ft hd = coded q i w t d k K l zero_number σ ft hd.0 (code_number_ok p deepest ks F b k K l t 0 0 σ lt hd.1 (λ vs. refl))
  converted_ok (PrimitiveAnswer answer.Stream) sort.Number stream.NotOpen q i w t d k K l σ e lq lt ft hd = coded q i w t d k K l minus_one σ ft hd.0 (code_number_ok p deepest ks F b k K l t 3 (2 ^ 64 - 1) σ lt hd.1 (λ vs. refl))
  converted_ok NumberOrText sort.Number x q i w t d k K l σ e lq lt ft hd = within u M 14 16 σ.turns _ (Converted q i w t (PrimitiveAnswer (answer.Of sort.Number)) k K l) (Away p deepest ks F b d K) (settled (number_of_row x) σ) (omega arith) (bare_numbered q i w t d k K l x σ lq lt ft hd.0 hd.1 hd.2)
  converted_ok (PrimitiveAnswer (answer.Of sort.Array)) sort.Array x q i w t d k K l σ e lq lt ft hd = there u M 16 0 _ _ x σ (Converted q i w t (PrimitiveAnswer (answer.Of sort.Array)) k K l) (Away p deepest ks F b d K) stays (omega arith) (conv_self q i w t (PrimitiveAnswer (answer.Of sort.Array)) k K l x σ ft hd)
  converted_ok f s x q i w t d k K l σ e lq lt ft hd = absurd (true≢false (sym e))
