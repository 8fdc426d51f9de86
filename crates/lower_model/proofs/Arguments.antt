-- Operands as the row of a call: they are converted from left to right, and then pushed.
use Rattle.std.proofs.Common.{◌≡◌, inl, ℕ, suc, ◌+◌, ◌<◌, ◌≤◌, true, List, [], ◌∷◌, ◌++◌, length, Some, None, Option, Result, Ok, Err, refl, sym, ap, ap₂, ◌∙◌, arith, append_assoc}
use Rattle.std.specs.Prelude.{reverse, ◌&&◌, is_some}
use Rattle.std.proofs.lemmas.Bool.{and_parts}
use Rattle.std.proofs.lemmas.List.{reverse-append}
use Rattle.awk_values.specs.declared.fault.Fault.{Fault}
use Rattle.sem_primitives.specs.Constants.{InConstant, constant_at}
use Rattle.sem_primitives.specs.Numbers.{number_word}
use Rattle.sem_primitives.specs.Sorts.{In, Row}
use Rattle.sem_primitives.specs.declared.sorts.Argument.{Argument}
use Rattle.sem_primitives.specs.declared.sorts.Argument.TheVariants as argument
use Rattle.sem_primitives.specs.declared.sorts.Constant.{Constant}
use Rattle.sem_primitives.specs.declared.sorts.Answer.TheVariants as answer
use Rattle.sem_primitives.specs.declared.sorts.Sort.{Sort}
use Rattle.sem_primitives.specs.declared.sorts.Sort.TheVariants as sort
use Rattle.sem_primitives.proofs.Words.{word_again}
use Rattle.wasm_types.specs.Syntax.{Instructions}
use Rattle.wasm_store.specs.declared.word.Word.TheVariants.{I32, I64}
use Rattle.mid_program.specs.Mid.{Kind, Program, Form, PrimitiveAnswer, NumberOrText, Code, Codes, End, At, Fixed, Fresh, form_of}
use Rattle.mid_program.specs.MidMeaning.{Holds, Values, converted, then_row, or_constant, row_of}
use Rattle.sem_scripts.specs.Names.{ArrayName}
use Rattle.sem_scripts.specs.ScriptState.{State, settled}
use Rattle.mid_program.specs.Sorted.{fits, fit_row, is_constant}
use Rattle.lower_model.specs.Cells.{Cell, Bits, Held}
use Rattle.lower_model.specs.Emission.{array_meant, all_converted, all_pushed, one_pushed}
use Rattle.lower_model.specs.ImportCalls.{with_some, and_rest, in_sort, row_in}
use Rattle.host_imports.specs.Imports.{params_of}
use Rattle.lower_model.specs.Machine.{Conf, Label, Frame, at, all_live, live_if_lent}
use Rattle.lower_model.specs.Places.{Bases}
use Rattle.lower_model.proofs.Observer.{Observer}
use Rattle.lower_model.proofs.Runs.{Goes, then_goes, stays, goes_to, there, first, then_both}
use Rattle.lower_model.proofs.Regions.{upd_same}
use Rattle.lower_model.proofs.Locals.{Locals, Hand, Number as NumberAt, with_at, laid}
use Rattle.lower_model.proofs.Steps.{empty, moved_out_ok, get_copied}
use Rattle.lower_model.proofs.Relation.{HoldsAt, Meant, array_at, Same, Fit, Away, fit_hand, fit_less, holds_same}
use Rattle.lower_model.proofs.Answers.{machine, beside_state, Reached}
use Rattle.lower_model.proofs.Arrays.{array_pushed_ok, array_live, array_in_sort}
use Rattle.lower_model.proofs.Converting.{Keeps, Converted, converted_ok, keeps_hand, keeps_self}
use Rattle.lower_model.proofs.Simulation.{past, past_from, layout, AllHeld, RowAt}
use Rattle.lower_model.proofs.Operands.{all_held_same}

-- what lies below t, and all but temporaries, is as it was
pub record Under (t : ℕ) (l l1 : Locals) : Type 0 where
  pub hands : (x : ℕ) → x < t → l1.hand x ≡ l.hand x
  pub numbers : (x : ℕ) → x < t → l1.number x ≡ l.number x
  pub iterators : (x : ℕ) → l1.iterator x ≡ l.iterator x
  pub arrays : (x : ℕ) → l1.array x ≡ l.array x

pub under_self : (t : ℕ) (l : Locals) → Under t l l
under_self t l = record { hands = λ x h. refl; numbers = λ x h. refl; iterators = λ x. refl; arrays = λ x. refl }

pub under_then : (t t1 : ℕ) (l l1 l2 : Locals) → t ≤ t1 → Under t l l1 → Under t1 l1 l2 → Under t l l2
under_then t t1 l l1 l2 le a c = record { hands = λ x h. c.hands x (omega (arith, h, le)) ∙ a.hands x h; numbers = λ x h. c.numbers x (omega (arith, h, le)) ∙ a.numbers x h; iterators = λ x. c.iterators x ∙ a.iterators x; arrays = λ x. c.arrays x ∙ a.arrays x }

pub under_keeps : (t x : ℕ) (l l1 : Locals) → t ≤ x → Keeps x l l1 → Under t l l1
under_keeps t x l l1 le k = record { hands = λ y h. k.hands y (λ e. omega (arith, e, h, le)); numbers = λ y h. k.numbers y (λ e. omega (arith, e, h, le)); iterators = k.iterators; arrays = k.arrays }

pub under_same : (ts : List ℕ) (t w : ℕ) (l l1 : Locals) → Under t l l1 → Same ts t w l l1
under_same ts t w l l1 a = record { hands = λ x h o. a.hands x h; numbers = a.numbers; iterators = a.iterators; arrays = λ x h. a.arrays x }

abbrev pub conv_work : Codes → ℕ
conv_work End = 0
conv_work (At e es) = 16 + conv_work es
conv_work (Fixed m es) = conv_work es
conv_work (Fresh es) = conv_work es

abbrev pub push_work : Codes → ℕ
push_work End = 0
push_work (At e es) = 2 + push_work es
push_work (Fixed m es) = push_work es
push_work (Fresh es) = push_work es

pub onto_reverse : (c : Cell) (ws vs : List Cell) → reverse ws ++ (c ∷ vs) ≡ reverse (c ∷ ws) ++ vs
onto_reverse c ws vs = sym (append_assoc (reverse ws) (c ∷ []) vs) ∙ ap (λ r. r ++ vs) (sym (reverse-append (c ∷ []) ws))

no_iterator : (f : Form) → fits f sort.Iterator ≡ true → ⊥
no_iterator (PrimitiveAnswer (answer.Of sort.Value)) e = cc
no_iterator NumberOrText e = cc
no_iterator f e = cc

module _ (p : Program) (deepest : Observer) (ks : List Kind) (F : List Frame) (b : Bases) (M n : ℕ) where
  pub record RowDone (wanted : List Argument) (es : Codes) (t q i w : ℕ) (k : Instructions) (K : List Label) (l : Locals) (r : Row wanted) (σ : State) (c : Conf) : Type 0 where
    pub next : Locals
    pub comes : c ≡ at ks [] K (laid b next) F k (beside_state p deepest ks F σ)
    pub fit : Fit p deepest ks F q i w next σ
    pub under : Under t l next
    pub row : RowAt p deepest ks F b M n wanted es t next σ r

  constant_found : (c : Constant) (m : ℕ) → is_constant c m ≡ true → constant_at c m ≡ Some (or_constant c (constant_at c m))
  constant_found c m e = by (constant_at c m) e
    where
      by : (o : Option (InConstant c)) → is_some o ≡ true → o ≡ Some (or_constant c o)
      by (Some x) h = refl
      by None h = cc

  abbrev ok_value : {A : Type 0} → A → Result A Fault → A
  ok_value d (Ok z) = z
  ok_value d (Err f) = d

  row_meant : (s : Sort) (g : Form) (y : Holds g) (x : In s) (a : ArrayName) (σ : State) → fits g s ≡ true → converted g s y ≡ Ok x → Meant p deepest ks F g y a σ → Meant p deepest ks F (PrimitiveAnswer (answer.Of s)) x a σ
  row_meant sort.Array (PrimitiveAnswer (answer.Of sort.Array)) y x a σ f e m = (m.0 ∙ ap (ok_value y) e, m.1)
  row_meant sort.Array g y x a σ f e m = cc
  row_meant sort.Value g y x a σ f e m = tt
  row_meant sort.Number g y x a σ f e m = tt
  row_meant sort.Iterator g y x a σ f e m = tt

  pub row_ok : (wanted : List Argument) (es : Codes) (fs : List Form) (vs : Values fs es) (t q i w d : ℕ) (k : Instructions) (K : List Label) (l : Locals) (σ : State) → fit_row fs wanted es ≡ true → past t es ≤ q → past t es ≤ b.temporaries → Fit p deepest ks F q i w l σ → AllHeld p deepest ks F b M n fs es t w l σ vs →
      Reached p deepest ks F b M (conv_work es) σ.turns (at ks [] K (laid b l) F (all_converted (layout p deepest ks F b M n) fs wanted es t d k) (beside_state p deepest ks F σ)) (RowDone wanted es t q i w k K l) (Away p deepest ks F b d K) (settled (row_of fs wanted es vs) σ)
  row_ok [] End fs vs t q i w d k K l σ f lq lt ft hd = there (machine p deepest ks F) M 0 0 _ _ tt σ (RowDone [] End t q i w k K l) (Away p deepest ks F b d K) stays (omega arith) (record { next = l; comes = refl; fit = ft; under = under_self t l; row = tt })
  row_ok (argument.Of s ∷ rest) (At e es) fs vs t q i w d k K l σ f lq lt ft hd =
      let mach = machine p deepest ks F in
      let ff = and_parts (fits (form_of fs e) s) (fit_row fs rest es) f in
      let pf = past_from (suc t) es in
      let k1 = all_converted (layout p deepest ks F b M n) fs rest es (suc t) d k in
      let Q = Away p deepest ks F b d K in
      let P = RowDone (argument.Of s ∷ rest) (At e es) t q i w k K l in
      then_both mach M 16 (conv_work es) (conv_work (At e es)) _ σ (Converted p deepest ks F b M q i w t (PrimitiveAnswer (answer.Of s)) k1 K l) P Q (converted (form_of fs e) s vs.0) (λ x. then_row (row_of fs rest es vs.1) (λ xs. Ok (x, xs))) (omega arith)
      (converted_ok p deepest ks F b M (form_of fs e) s vs.0 q i w t d k1 K l σ ff.0 (omega (arith, pf, lq)) (omega (arith, pf, lt)) ft hd.0)
      (λ x c1 er a.
      let hd1 = all_held_same p deepest ks F b M n fs es (suc t) w l a.next σ σ vs.1 (λ j h. refl) (λ y le ly. a.keeps.hands y (λ z. omega (arith, z, le))) (λ y le ly. a.keeps.numbers y (λ z. omega (arith, z, le))) (λ y le ly. a.keeps.arrays y) hd.2 in
      first mach M 0 (conv_work es) (conv_work es) σ.turns c1 _ P Q _ (record { it = a.comes }) (omega arith)
      (then_both mach M (conv_work es) 0 (conv_work es) _ σ (RowDone rest es (suc t) q i w k K a.next) P Q (row_of fs rest es vs.1) (λ xs. Ok (x, xs)) (omega arith)
      (row_ok rest es fs vs.1 (suc t) q i w d k K a.next σ ff.1 lq lt a.fit hd1)
      (λ xs c2 er2 a2. there mach M 0 0 _ _ (x, xs) σ P Q stays (omega arith)
      (record {
        next = a2.next;
        comes = a2.comes;
        fit = a2.fit;
        under = under_then t (suc t) l a.next a2.next (omega arith) (under_keeps t t l a.next (omega arith) a.keeps) a2.under;
        row = (holds_same (PrimitiveAnswer (answer.Of s)) t a.next a2.next x (a2.under.hands t (omega arith)) (a2.under.numbers t (omega arith)) a.holds, row_meant s (form_of fs e) vs.0 x (array_meant e) σ ff.0 er hd.1, a2.row);
      }))))
  row_ok (argument.Constant c ∷ rest) (Fixed m es) fs vs t q i w d k K l σ f lq lt ft hd =
      let mach = machine p deepest ks F in
      let ff = and_parts (is_constant c m) (fit_row fs rest es) f in
      let Q = Away p deepest ks F b d K in
      let P = RowDone (argument.Constant c ∷ rest) (Fixed m es) t q i w k K l in
      then_both mach M (conv_work es) 0 (conv_work es) _ σ (RowDone rest es t q i w k K l) P Q (row_of fs rest es vs) (λ xs. Ok (or_constant c (constant_at c m), xs)) (omega arith)
      (row_ok rest es fs vs t q i w d k K l σ ff.1 lq lt ft hd)
      (λ xs c2 er2 a2. there mach M 0 0 _ _ (or_constant c (constant_at c m), xs) σ P Q stays (omega arith)
      (record { next = a2.next; comes = a2.comes; fit = a2.fit; under = a2.under; row = (constant_found c m ff.0, a2.row) }))
  row_ok wanted es fs vs t q i w d k K l σ f lq lt ft hd = cc

  -- the words of a row, the last one on top
  pub record Pushed (wanted : List Argument) (es : Codes) (t i w : ℕ) (vs : List Cell) (k : Instructions) (K : List Label) (l : Locals) (σ : State) (r : Row wanted) : Type 0 where
    pub words : List Cell
    pub next : Locals
    pub steps : ℕ
    pub few : steps ≤ push_work es
    pub goes : Goes (machine p deepest ks F) steps (at ks vs K (laid b l) F (all_pushed (layout p deepest ks F b M n) wanted es t k) (beside_state p deepest ks F σ)) (at ks (reverse words ++ vs) K (laid b next) F k (beside_state p deepest ks F σ))
    pub decoded : row_in (machine p deepest ks F).memory wanted words ≡ Some r
    pub live : (L : List Cell) → all_live L F (beside_state p deepest ks F σ).globals words ≡ true
    pub wide : length words ≡ length (params_of wanted)
    pub fit : Fit p deepest ks F t i w next σ
    pub under : Under t l next

  -- one operand, which is no constant
  record PushedOne (s : Sort) (e : Code) (t q i w : ℕ) (vs : List Cell) (k : Instructions) (K : List Label) (l : Locals) (σ : State) (x : In s) : Type 0 where
    word : Cell
    next : Locals
    steps : ℕ
    few : steps ≤ 2
    goes : Goes (machine p deepest ks F) steps (at ks vs K (laid b l) F (one_pushed (layout p deepest ks F b M n) (argument.Of s) e t k) (beside_state p deepest ks F σ)) (at ks (word ∷ vs) K (laid b next) F k (beside_state p deepest ks F σ))
    decoded : in_sort s word ≡ Some x
    live : (L : List Cell) → live_if_lent L F (beside_state p deepest ks F σ).globals word ≡ true
    fit : Fit p deepest ks F q i w next σ
    hand : next.hand t ≡ empty
    keeps : Keeps t l next

  one_ok : (s : Sort) (e : Code) (g : Form) (t q i w : ℕ) (vs : List Cell) (k : Instructions) (K : List Label) (l : Locals) (σ : State) (x : In s) → fits g s ≡ true → length ks ≡ b.parameters → t < q → t < b.temporaries → Fit p deepest ks F q i w l σ → HoldsAt (PrimitiveAnswer (answer.Of s)) t l x → Meant p deepest ks F (PrimitiveAnswer (answer.Of s)) x (array_meant e) σ → PushedOne s e t q i w vs k K l σ x
  one_ok sort.Value e g t q i w vs k K l σ x f pk lq lt ft hd m = record {
    word = Held x;
    next = with_at l (Hand t) empty;
    steps = 2;
    few = omega arith;
    goes = moved_out_ok b l (Hand t) (Held x) lt hd.0;
    decoded = refl;
    live = λ L. refl;
    fit = fit_hand p deepest ks F t q i w l σ empty (inl refl) lq ft;
    hand = upd_same l.hand t empty;
    keeps = keeps_hand t l empty;
  }
  one_ok sort.Number e g t q i w vs k K l σ x f pk lq lt ft hd m = record {
    word = Bits (I64 (number_word x));
    next = l;
    steps = 1;
    few = omega arith;
    goes = get_copied b l (NumberAt t) (Bits (I64 (number_word x))) lt hd.1 refl;
    decoded = word_again x;
    live = λ L. refl;
    fit = ft;
    hand = hd.0;
    keeps = keeps_self t l;
  }
  one_ok sort.Array e g t q i w vs k K l σ x f pk lq lt ft hd m =
      let y = array_pushed_ok p deepest ks F b (array_meant e) q i w vs k K l σ m.1 pk ft in
      record {
        word = y.cell;
        next = l;
        steps = y.steps;
        few = omega (arith, y.few);
        goes = y.goes;
        decoded = array_in_sort p deepest ks F (array_at (array_meant e) σ) y.cell y.array ∙ ap Some m.0;
        live = λ L. array_live p deepest ks F (array_at (array_meant e) σ) y.cell L σ y.array;
        fit = ft;
        hand = hd.0;
        keeps = keeps_self t l;
      }
  one_ok sort.Iterator e g t q i w vs k K l σ x f pk lq lt ft hd m = absurd (no_iterator g f)

  width_of : (s : Sort) (rest : List Argument) → length (params_of (argument.Of s ∷ rest)) ≡ suc (length (params_of rest))
  width_of sort.Value rest = refl
  width_of sort.Number rest = refl
  width_of sort.Array rest = refl
  width_of sort.Iterator rest = refl

  row_same : (wanted : List Argument) (es : Codes) (t : ℕ) (l l1 : Locals) (σ : State) (r : Row wanted) → ((x : ℕ) → t ≤ x → l1.hand x ≡ l.hand x) → ((x : ℕ) → t ≤ x → l1.number x ≡ l.number x) → RowAt p deepest ks F b M n wanted es t l σ r → RowAt p deepest ks F b M n wanted es t l1 σ r
  row_same [] End t l l1 σ r h m q = tt
  row_same (argument.Of s ∷ rest) (At e es) t l l1 σ r h m q = (holds_same (PrimitiveAnswer (answer.Of s)) t l l1 r.0 (h t (omega arith)) (m t (omega arith)) q.0, q.1, row_same rest es (suc t) l l1 σ r.1 (λ x le. h x (omega (arith, le))) (λ x le. m x (omega (arith, le))) q.2)
  row_same (argument.Constant c ∷ rest) (Fixed j es) t l l1 σ r h m q = (q.0, row_same rest es t l l1 σ r.1 h m q.1)
  row_same wanted es t l l1 σ r h m q = absurd q

  one_more : (s : Sort) (rest : List Argument) (e : Code) (es : Codes) (t i w : ℕ) (vs : List Cell) (k : Instructions) (K : List Label) (l : Locals) (σ : State) (r : Row (argument.Of s ∷ rest)) →
      (x : PushedOne s e t (past (suc t) es) i w vs (all_pushed (layout p deepest ks F b M n) rest es (suc t) k) K l σ r.0) → Pushed rest es (suc t) i w (x.word ∷ vs) k K x.next σ r.1 → Pushed (argument.Of s ∷ rest) (At e es) t i w vs k K l σ r
  one_more s rest e es t i w vs k K l σ r x y =
      let mem = (machine p deepest ks F).memory in
      record {
        words = x.word ∷ y.words;
        next = y.next;
        steps = x.steps + y.steps;
        few = omega (arith, x.few, y.few);
        goes = goes_to (then_goes x.goes y.goes) (ap (λ ws. at ks ws K (laid b y.next) F k (beside_state p deepest ks F σ)) (onto_reverse x.word y.words vs));
        decoded = ap (λ o. with_some (and_rest o y.words) (λ z. with_some (row_in mem rest z.1) (λ v. Some (z.0, v)))) x.decoded ∙ ap (λ o. with_some o (λ v. Some (r.0, v))) y.decoded;
        live = λ L. ap₂ (λ c d. c && d) (x.live L) (y.live L);
        wide = ap suc y.wide ∙ sym (width_of s rest);
        fit = fit_less p deepest ks F t i w y.next σ (y.under.hands t (omega arith) ∙ x.hand) y.fit;
        under = under_then t (suc t) l x.next y.next (omega arith) (under_keeps t t l x.next (omega arith) x.keeps) y.under;
      }

  pub push_ok : (wanted : List Argument) (es : Codes) (fs : List Form) (t i w : ℕ) (vs : List Cell) (k : Instructions) (K : List Label) (l : Locals) (σ : State) (r : Row wanted) → fit_row fs wanted es ≡ true → length ks ≡ b.parameters → past t es ≤ b.temporaries → Fit p deepest ks F (past t es) i w l σ → RowAt p deepest ks F b M n wanted es t l σ r → Pushed wanted es t i w vs k K l σ r
  push_ok [] End fs t i w vs k K l σ r f pk lt ft q = record { words = []; next = l; steps = 0; few = omega arith; goes = stays; decoded = refl; live = λ L. refl; wide = refl; fit = ft; under = under_self t l }
  push_ok (argument.Of s ∷ rest) (At e es) fs t i w vs k K l σ r f pk lt ft q =
      let ff = and_parts (fits (form_of fs e) s) (fit_row fs rest es) f in
      let pf = past_from (suc t) es in
      let x = one_ok s e (form_of fs e) t (past (suc t) es) i w vs (all_pushed (layout p deepest ks F b M n) rest es (suc t) k) K l σ r.0 ff.0 pk (omega (arith, pf)) (omega (arith, pf, lt)) ft q.0 q.1 in
      one_more s rest e es t i w vs k K l σ r x
      (push_ok rest es fs (suc t) i w (x.word ∷ vs) k K x.next σ r.1 ff.1 pk lt x.fit (row_same rest es (suc t) l x.next σ r.1 (λ z le. x.keeps.hands z (λ c. omega (arith, c, le))) (λ z le. x.keeps.numbers z (λ c. omega (arith, c, le))) q.2))
  push_ok (argument.Constant c ∷ rest) (Fixed m es) fs t i w vs k K l σ r f pk lt ft q =
      let ff = and_parts (is_constant c m) (fit_row fs rest es) f in
      let mem = (machine p deepest ks F).memory in
      let y = push_ok rest es fs t i w (Bits (I32 m) ∷ vs) k K l σ r.1 ff.1 pk lt ft q.1 in
      record {
        words = Bits (I32 m) ∷ y.words;
        next = y.next;
        steps = y.steps;
        few = y.few;
        goes = goes_to y.goes (ap (λ ws. at ks ws K (laid b y.next) F k (beside_state p deepest ks F σ)) (onto_reverse (Bits (I32 m)) y.words vs));
        decoded = ap (λ o. with_some (and_rest o y.words) (λ z. with_some (row_in mem rest z.1) (λ v. Some (z.0, v)))) q.0 ∙ ap (λ o. with_some o (λ v. Some (r.0, v))) y.decoded;
        live = y.live;
        wide = ap suc y.wide;
        fit = y.fit;
        under = y.under;
      }
  push_ok wanted es fs t i w vs k K l σ r f pk lt ft q = absurd q
