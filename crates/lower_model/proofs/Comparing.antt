-- Comparisons: by the host where one side is a value, or a text stands beside one; else of numbers, in the module.
use Rattle.std.proofs.Common.{◌≡◌, inl, ℕ, suc, ◌+◌, ◌<◌, ◌≤◌, Bool, true, false, List, [], ◌∷◌, Some, None, Result, Ok, refl, sym, ap, ap₂, ◌∙◌, subst, true≢false, arith}
use Rattle.std.specs.Prelude.{nat_eq, cond, ◌&&◌, ◌||◌, if◌then◌else◌, bit_or}
use Rattle.std.specs.Ordering.{int_cmp}
use Rattle.std.proofs.lemmas.Bool.{and_parts}
use Rattle.awk_values.specs.Comparison.{comparison, numeric_side, order_by, held, holds}
use Rattle.awk_values.specs.declared.comparison.CompareOp.{CompareOp}
use Rattle.awk_values.specs.declared.fault.Fault.{Fault}
use Rattle.sem_primitives.specs.ConstantNumbers.{comparison_number, flag_number}
use Rattle.sem_primitives.specs.Numbers.{Number, number_word}
use Rattle.sem_primitives.specs.declared.sorts.Answer.TheVariants as answer
use Rattle.sem_primitives.specs.declared.sorts.Argument.TheVariants as argument
use Rattle.sem_primitives.specs.declared.sorts.Constant.TheVariants as constant
use Rattle.sem_primitives.specs.declared.sorts.Sort.TheVariants as sort
use Rattle.sem_primitives.specs.declared.table.Primitive.TheVariants as row
use Rattle.sem_primitives.proofs.Words.{constant_again}
use Rattle.wasm_types.specs.Syntax.{Instructions, Done as NoMore}
use Rattle.wasm_types.specs.declared.types.ValType.TheVariants as ty
use Rattle.wasm_types.specs.declared.instr.CvtOp.TheVariants.{I64ExtendI32U}
use Rattle.wasm_types.specs.declared.instr.Simple.TheVariants.{LocalGet, LocalSet, I32Const, Convert, Compare as Comparing}
use Rattle.wasm_store.specs.Words.{flag}
use Rattle.wasm_store.specs.declared.word.Word.TheVariants.{I32, I64}
use Rattle.mid_program.specs.Mid.{Kind, Program, Form, PrimitiveAnswer, NumberOrText, OptionalNumber, a_value, Code, Compare, Codes, At, End, form_of}
use Rattle.mid_program.specs.MidMeaning.{Holds, Env, evaluated, all_evaluated, boxed}
use Rattle.sem_scripts.specs.Steps.{zero_number, truth_number}
use Rattle.sem_scripts.specs.ScriptState.{State, Outcome, Gives, Stops, Execution, go_on, give, settled}
use Rattle.mid_program.specs.Sorted.{Held as Standing, sorted, all_sorted, held_after, fits}
use Rattle.lower_model.specs.Arithmetic.{relation, is_value, may_be_text, values_compared, numbers_compared, texts_beside, zeroed_if, bare_compared, compared}
use Rattle.lower_model.specs.Cells.{Cell, Bits, Held, is_marked}
use Rattle.lower_model.specs.Emission.{emitted, all_emitted}
use Rattle.lower_model.specs.ImportCalls.{with_some, and_rest, row_in}
use Rattle.lower_model.specs.Machine
use Rattle.lower_model.specs.Machine.{Conf, Label, Frame, at, label, loops_walked}
use Rattle.lower_model.specs.Places.{Bases, room, arrays_in, handle_local, number_local}
use Rattle.lower_model.specs.Small.{emit, ask_row, text_beside, moved_out, kept_code, to_value}
use Rattle.lower_model.specs.Small
use Rattle.lower_model.proofs.Observer.{Observer}
use Rattle.lower_model.proofs.Runs.{Goes, then_goes, goes_to, goes_from, by_steps, stays, there, first, then_on, within, weaker, weaker_settled, Onward}
use Rattle.lower_model.proofs.Regions.{upd_same, upd_other}
use Rattle.lower_model.proofs.Locals.{Locals, Hand, Number as NumberAt, with_at, laid, laid_again}
use Rattle.lower_model.proofs.Steps.{empty, get_copied, set_ok, moved_out_ok}
use Rattle.lower_model.proofs.State.{perhaps, BareIs, IsBeside, IsNone, IsNumber}
use Rattle.lower_model.proofs.Relation.{HoldsAt, Same, same_then, same_hand, same_number, Fit, fit_less, fit_hand, fit_number, Away, holds_same}
use Rattle.lower_model.proofs.Pieces.{chooses, closes, number_is_ok}
use Rattle.lower_model.proofs.Answers.{machine, beside_state, row_called, done_by, Put, kept_ok, Reached}
use Rattle.lower_model.proofs.Conversions.{same_state, after_same, Nought, Itself, zeroed_ok}
use Rattle.lower_model.proofs.Converting.{flag_word, Converted, converted_ok, blocked}
use Rattle.lower_model.proofs.Operands.{codes_at, codes_end}
use Rattle.lower_model.proofs.Arguments.{under_same, under_keeps}
use Rattle.lower_model.proofs.Orders.{words_compared}
use Rattle.lower_model.proofs.Expressions.{put_done}
use Rattle.lower_model.proofs.Simulation.{work_of, works_of, layout, context, meant, all_meant, room_one, Ready, WellUsed, Done, ExprOk, AllDone}

flag_numbered : (t : Bool) → (if t then 1 else 0) ≡ flag_number t
flag_numbered true = refl
flag_numbered false = refl

pub flags_or : (s t : Bool) → bit_or (if s then 1 else 0) (if t then 1 else 0) ≡ (if s || t then 1 else 0)
flags_or true true = refl
flags_or true false = refl
flags_or false true = refl
flags_or false false = refl

or_false : (s : Bool) → s || false ≡ s
or_false true = refl
or_false false = refl

or_parts : (s t : Bool) → s || t ≡ false → (s ≡ false) × (t ≡ false)
or_parts true t e = absurd (true≢false e)
or_parts false t e = (refl, e)

-- whether a text stands beside a number
abbrev text_flag : Form → (number : Cell) → Bool
text_flag NumberOrText d = is_marked d
text_flag f d = false

no_text_there : (f : Form) (d : Cell) → may_be_text f ≡ false → text_flag f d ≡ false
no_text_there NumberOrText d e = cc
no_text_there f d e = refl

module _ (p : Program) (deepest : Observer) (ks : List Kind) (F : List Frame) (b : Bases) (M n : ℕ) where
  -- at the end of a block what was put is there still
  pub put_closes : (t u w : ℕ) (f : Form) (k : Instructions) (K : List Label) (l : Locals) (x : Holds f) (σ : State) (c : Conf) → Put p deepest ks F b t u w f NoMore (label [] None k ∷ K) l x σ c → Onward (machine p deepest ks F) M 1 (Put p deepest ks F b t u w f k K l x σ) c
  put_closes t u w f k K l x σ c a = record {
    conf = at ks [] K (laid b a.next) F k (beside_state p deepest ks F σ);
    steps = 1;
    few = omega arith;
    goes = goes_from a.comes closes;
    holds = record { next = a.next; comes = refl; fit = a.fit; same = a.same; holds = a.holds };
  }

  -- put from other locals
  pub put_from : (t u w : ℕ) (f : Form) (k : Instructions) (K : List Label) (l l1 : Locals) (x : Holds f) (σ : State) (c : Conf) → Same [] t w l l1 → Put p deepest ks F b t u w f k K l1 x σ c → Put p deepest ks F b t u w f k K l x σ c
  put_from t u w f k K l l1 x σ c s a = record { next = a.next; comes = a.comes; fit = a.fit; same = same_then [] t t w w l l1 a.next (omega arith) (omega arith) s a.same; holds = a.holds }

  -- By the host.

  values_ok : (c : CompareOp) (f g : Form) (x : Holds f) (y : Holds g) (t u w d : ℕ) (k : Instructions) (K : List Label) (l : Locals) (σ : State) → fits f sort.Value ≡ true → fits g sort.Value ≡ true → suc t < b.temporaries → Fit p deepest ks F (suc (suc t)) u w l σ → HoldsAt f t l x → HoldsAt g (suc t) l y →
      Reached p deepest ks F b M 41 σ.turns (at ks [] K (laid b l) F (values_compared b c f g t d k) (beside_state p deepest ks F σ)) (Put p deepest ks F b t u w (PrimitiveAnswer answer.Truth) k K l) (Away p deepest ks F b d K) (settled (comparison (boxed f x) (boxed g y) c) σ)
  values_ok c f g x y t u w d k K l σ ef eg lt ft hx hy =
      let mach = machine p deepest ks F in
      let P = Put p deepest ks F b t u w (PrimitiveAnswer answer.Truth) k K l in
      let Q = Away p deepest ks F b d K in
      let k3 = kept_code b true t d k in
      let k2 = emit (I32Const (comparison_number c)) (moved_out (handle_local b t) (moved_out (handle_local b (suc t)) (ask_row row.Compare k3))) in
      let k1 = to_value b g (suc t) k2 in
      then_on mach M 16 25 41 σ.turns _ (Converted p deepest ks F b M (suc (suc t)) u w t a_value k1 K l) P Q (settled (Ok (boxed f x)) σ) (λ v. settled (comparison v (boxed g y) c)) (omega arith)
      (converted_ok p deepest ks F b M f sort.Value x (suc (suc t)) u w t d k1 K l σ ef (omega arith) (omega (arith, lt)) ft hx)
      (λ v τ c1 le a.
      let hy1 = holds_same g (suc t) l a.next y (a.keeps.hands (suc t) (λ e. omega (arith, e))) (a.keeps.numbers (suc t) (λ e. omega (arith, e))) hy in
      first mach M 0 25 25 τ.turns c1 _ P Q _ (record { it = a.comes }) (omega arith)
      (then_on mach M 16 9 25 τ.turns _ (Converted p deepest ks F b M (suc (suc t)) u w (suc t) a_value k2 K a.next) P Q (settled (Ok (boxed g y)) τ) (λ v2. settled (comparison v v2 c)) (omega arith)
      (converted_ok p deepest ks F b M g sort.Value y (suc (suc t)) u w (suc t) d k2 K a.next τ eg (omega arith) lt a.fit hy1)
      (λ v2 τ2 c2 le2 a2.
      let l3 = with_at a2.next (Hand t) empty in
      let l4 = with_at l3 (Hand (suc t)) empty in
      let r = comparison v v2 c in
      let f3 = fit_hand p deepest ks F t (suc (suc t)) u w a2.next τ2 empty (inl refl) (omega arith) a2.fit in
      let f4 = fit_hand p deepest ks F (suc t) (suc (suc t)) u w l3 τ2 empty (inl refl) (omega arith) f3 in
      let f5 = fit_less p deepest ks F (suc t) u w l4 τ2 (upd_same l3.hand (suc t) empty) f4 in
      let f6 = fit_less p deepest ks F t u w l4 τ2 (upd_other l3.hand (suc t) t empty (λ e. omega (arith, e)) ∙ upd_same a2.next.hand t empty) f5 in
      let e1 = a2.keeps.hands t (λ e. omega (arith, e)) ∙ a.holds.0 in
      let e2 = upd_other a2.next.hand t (suc t) empty (λ e. omega (arith, e)) ∙ a2.holds.0 in
      let words = Bits (I32 (comparison_number c)) ∷ (Held v ∷ (Held v2 ∷ [])) in
      first mach M 5 4 9 τ2.turns c2 _ P Q _
      (goes_from a2.comes (then_goes (moved_out_ok b a2.next (Hand t) (Held v) (omega (arith, lt)) e1) (then_goes (moved_out_ok b l3 (Hand (suc t)) (Held v2) lt e2)
      (goes_to (row_called p deepest ks F row.Compare (c, (v, (v2, tt))) words [] τ2 refl refl refl
      (ap (λ o. with_some (and_rest o (Held v ∷ (Held v2 ∷ []))) (λ z. with_some (row_in mach.memory (argument.Of sort.Value ∷ argument.Of sort.Value ∷ []) z.1) (λ rest. Some (z.0, rest)))) (constant_again constant.Comparison c)) refl)
      (after_same p deepest ks F (laid b l4) K k3 r (done_by p deepest ks F row.Compare (c, (v, (v2, tt))) τ2) τ2 (same_state τ2 r) _))))) (omega arith)
      (weaker mach M 4 τ2.turns _ (Put p deepest ks F b t u w (PrimitiveAnswer answer.Truth) k K l4) P Q Q (settled r τ2)
      (λ z τ3 c3 q. put_from t u w (PrimitiveAnswer answer.Truth) k K l l4 z τ3 c3
      (same_then [] t t w w l a.next l4 (omega arith) (omega arith) (under_same [] t w l a.next (under_keeps t t l a.next (omega arith) a.keeps))
      (same_then [] t t w w a.next a2.next l4 (omega arith) (omega arith) (under_same [] t w a.next a2.next (under_keeps t (suc t) a.next a2.next (omega arith) a2.keeps))
      (same_then [] t t w w a2.next l3 l4 (omega arith) (omega arith) (same_hand [] t w t a2.next empty (omega arith)) (same_hand [] t w (suc t) l3 empty (omega arith))))) q)
      (λ why τ3 c3 q. q)
      (kept_ok p deepest ks F b M true answer.Truth r t u w d k K l4 τ2 tt (omega (arith, lt)) f6)))))

  -- Of numbers: one side's number, which comes into its temporary.

  record Side (f : Form) (x : Holds f) (t : ℕ) (k : Instructions) (K : List Label) (l : Locals) (σ : State) : Type 0 where
    number : Number
    side : numeric_side (boxed f x) ≡ Some (Ok number.number)
    hand : l.hand t ≡ empty
    steps : ℕ
    few : steps ≤ 5
    goes : Goes (machine p deepest ks F) steps (at ks [] K (laid b l) F (zeroed_if b f t k) (beside_state p deepest ks F σ)) (at ks [] K (laid b (with_at l (NumberAt t) (Bits (I64 (number_word number))))) F k (beside_state p deepest ks F σ))

  itself : (x : Number) (t : ℕ) (k : Instructions) (K : List Label) (l : Locals) (σ : State) → t < b.temporaries → l.number t ≡ Bits (I64 (number_word x)) → Goes (machine p deepest ks F) 0 (at ks [] K (laid b l) F k (beside_state p deepest ks F σ)) (at ks [] K (laid b (with_at l (NumberAt t) (Bits (I64 (number_word x))))) F k (beside_state p deepest ks F σ))
  itself x t k K l σ lt e = goes_to stays (ap (λ L. at ks [] K L F k (beside_state p deepest ks F σ)) (sym (laid_again b l (NumberAt t) (Bits (I64 (number_word x))) lt e)))

  bare_side : (x : Holds NumberOrText) (t : ℕ) (k : Instructions) (K : List Label) (l : Locals) (σ : State) → is_marked (l.number t) ≡ false → t < b.temporaries → (n0 : ℕ) → l.number t ≡ Bits (I64 n0) → BareIs x n0 (l.hand t) → Side NumberOrText x t k K l σ
  bare_side x t k K l σ nt lt n0 en (IsBeside e e1) = absurd (true≢false (sym (ap is_marked (en ∙ ap (λ m. Bits (I64 m)) e)) ∙ nt))
  bare_side x t k K l σ nt lt n0 en (IsNone e e1 e2) =
      let z = zeroed_ok p deepest ks F b k K l t n0 σ zero_number lt en (Nought e1 refl) in
      record { number = zero_number; side = ap numeric_side e; hand = e2; steps = z.steps; few = z.few; goes = z.goes }
  bare_side x t k K l σ nt lt n0 en (IsNumber m e e1 e2) =
      let z = zeroed_ok p deepest ks F b k K l t n0 σ m lt en (Itself e1) in
      record { number = m; side = ap numeric_side e; hand = e2; steps = z.steps; few = z.few; goes = z.goes }

  perhaps_side : (x : Holds OptionalNumber) (t : ℕ) (k : Instructions) (K : List Label) (l : Locals) (σ : State) → t < b.temporaries → HoldsAt OptionalNumber t l x → Side OptionalNumber x t k K l σ
  perhaps_side None t k K l σ lt hd =
      let z = zeroed_ok p deepest ks F b k K l t (perhaps None) σ zero_number lt hd.1 (Nought refl refl) in
      record { number = zero_number; side = refl; hand = hd.0; steps = z.steps; few = z.few; goes = z.goes }
  perhaps_side (Some m) t k K l σ lt hd =
      let z = zeroed_ok p deepest ks F b k K l t (perhaps (Some m)) σ m lt hd.1 (Itself refl) in
      record { number = m; side = refl; hand = hd.0; steps = z.steps; few = z.few; goes = z.goes }

  side_ok : (f : Form) (x : Holds f) (t : ℕ) (k : Instructions) (K : List Label) (l : Locals) (σ : State) → is_value f ≡ false → text_flag f (l.number t) ≡ false → t < b.temporaries → HoldsAt f t l x → Side f x t k K l σ
  side_ok (PrimitiveAnswer (answer.Of sort.Number)) x t k K l σ iv nt lt hd = record { number = x; side = refl; hand = hd.0; steps = 0; few = omega arith; goes = itself x t k K l σ lt hd.1 }
  side_ok (PrimitiveAnswer answer.Truth) x t k K l σ iv nt lt hd = record { number = truth_number x; side = refl; hand = hd.0; steps = 0; few = omega arith; goes = itself (truth_number x) t k K l σ lt (hd.1 ∙ ap (λ m. Bits (I64 m)) (flag_word x)) }
  side_ok NumberOrText x t k K l σ iv nt lt hd = bare_side x t k K l σ nt lt hd.0 hd.1 hd.2
  side_ok OptionalNumber x t k K l σ iv nt lt hd = perhaps_side x t k K l σ lt hd
  side_ok f x t k K l σ iv nt lt hd = cc

  numbers_ok : (c : CompareOp) (f g : Form) (x : Holds f) (y : Holds g) (t u w d : ℕ) (k : Instructions) (K : List Label) (l : Locals) (σ : State) → is_value f ≡ false → is_value g ≡ false → text_flag f (l.number t) ≡ false → text_flag g (l.number (suc t)) ≡ false → suc t < b.temporaries → Fit p deepest ks F (suc (suc t)) u w l σ → HoldsAt f t l x → HoldsAt g (suc t) l y →
      Reached p deepest ks F b M 15 σ.turns (at ks [] K (laid b l) F (numbers_compared b c f g t k) (beside_state p deepest ks F σ)) (Put p deepest ks F b t u w (PrimitiveAnswer answer.Truth) k K l) (Away p deepest ks F b d K) (settled (comparison (boxed f x) (boxed g y) c) σ)
  numbers_ok c f g x y t u w d k K l σ ivf ivg nf ng lt ft hx hy =
      let mach = machine p deepest ks F in
      let P = Put p deepest ks F b t u w (PrimitiveAnswer answer.Truth) k K l in
      let Q = Away p deepest ks F b d K in
      let S = beside_state p deepest ks F σ in
      let k4 = emit (Convert I64ExtendI32U) (emit (LocalSet (number_local b t)) k) in
      let k3 = emit (Comparing ty.I64 (relation c)) k4 in
      let k2 = emit (LocalGet (number_local b t)) (emit (LocalGet (number_local b (suc t))) k3) in
      let s1 = side_ok f x t (zeroed_if b g (suc t) k2) K l σ ivf nf (omega (arith, lt)) hx in
      let m1 = s1.number in
      let l1 = with_at l (NumberAt t) (Bits (I64 (number_word m1))) in
      let other = upd_other l.number t (suc t) (Bits (I64 (number_word m1))) (λ e. omega (arith, e)) in
      let hy1 = holds_same g (suc t) l l1 y refl other hy in
      let s2 = side_ok g y (suc t) k2 K l1 σ ivg (ap (text_flag g) other ∙ ng) lt hy1 in
      let m2 = s2.number in
      let l2 = with_at l1 (NumberAt (suc t)) (Bits (I64 (number_word m2))) in
      let e1 = upd_other l1.number (suc t) t (Bits (I64 (number_word m2))) (λ e. omega (arith, e)) ∙ upd_same l.number t (Bits (I64 (number_word m1))) in
      let e2 = upd_same l1.number (suc t) (Bits (I64 (number_word m2))) in
      let z = holds c (int_cmp m1.number m2.number) in
      let l3 = with_at l2 (NumberAt t) (Bits (I64 (flag_number z))) in
      let f1 = fit_number p deepest ks F t (suc (suc t)) u w l σ (Bits (I64 (number_word m1))) refl ft in
      let f2 = fit_number p deepest ks F (suc t) (suc (suc t)) u w l1 σ (Bits (I64 (number_word m2))) refl f1 in
      let f3 = fit_number p deepest ks F t (suc (suc t)) u w l2 σ (Bits (I64 (flag_number z))) refl f2 in
      let q1 = s1.few in
      let q2 = s2.few in
      let r : comparison (boxed f x) (boxed g y) c ≡ Ok z = ap₂ (λ o o1. held c (order_by (boxed f x) (boxed g y) o o1)) s1.side s2.side in
      subst (λ o. Reached p deepest ks F b M 15 σ.turns (at ks [] K (laid b l) F (numbers_compared b c f g t k) S) P Q (settled o σ)) (sym r)
      (there mach M 15 (s1.steps + (s2.steps + 5)) _ _ z σ P Q
      (then_goes s1.goes (then_goes s2.goes
      (then_goes (get_copied b l2 (NumberAt t) (Bits (I64 (number_word m1))) (omega (arith, lt)) e1 refl)
      (then_goes (get_copied b l2 (NumberAt (suc t)) (Bits (I64 (number_word m2))) lt e2 refl)
      (then_goes (goes_to (by_steps 2 refl) (ap (λ q. at ks (Bits (I64 q) ∷ []) K (laid b l2) F (emit (LocalSet (number_local b t)) k) S) (ap (λ q. if q then 1 else 0) (words_compared m1 m2 c) ∙ flag_numbered z)))
      (set_ok b l2 (NumberAt t) (Bits (I64 (flag_number z))) (omega (arith, lt)) (f2.numbers t))))))) (omega (arith, q1, q2))
      (record {
        next = l3;
        comes = refl;
        fit = fit_less p deepest ks F (suc t) u w l3 σ s2.hand f3;
        same = same_then [] t t w w l l1 l3 (omega arith) (omega arith) (same_number [] t w t l (Bits (I64 (number_word m1))) (omega arith))
            (same_then [] t t w w l1 l2 l3 (omega arith) (omega arith) (same_number [] t w (suc t) l1 (Bits (I64 (number_word m2))) (omega arith)) (same_number [] t w t l2 (Bits (I64 (flag_number z))) (omega arith)));
        holds = (s1.hand, upd_same l2.number t (Bits (I64 (flag_number z))));
      }))

  -- Whether a text stands beside one of the two.

  record Tells (f g : Form) (t : ℕ) (k : Instructions) (K : List Label) (l : Locals) (σ : State) : Type 0 where
    steps : ℕ
    few : steps ≤ 5
    goes : Goes (machine p deepest ks F) steps (at ks [] K (laid b l) F (texts_beside b f g t k) (beside_state p deepest ks F σ)) (at ks (Bits (flag (text_flag f (l.number t) || text_flag g (l.number (suc t)))) ∷ []) K (laid b l) F k (beside_state p deepest ks F σ))

  -- whether one stands beside a number
  marked_ok : {vs : List Cell} {k : Instructions} {K : List Label} {G : Machine.Store} → (l : Locals) (t m : ℕ) → t < b.temporaries → l.number t ≡ Bits (I64 m) →
      Goes (machine p deepest ks F) 2 (at ks vs K (laid b l) F (Small.number_is (number_local b t) text_beside k) G) (at ks (Bits (flag (is_marked (l.number t))) ∷ vs) K (laid b l) F k G)
  marked_ok {vs = vs} {k = k} {K = K} {G = G} l t m lt e = goes_to (number_is_ok b l t m text_beside lt e) (ap (λ c. at ks (Bits (flag (is_marked c)) ∷ vs) K (laid b l) F k G) (sym e))

  texts_ok : (f g : Form) (x : Holds f) (y : Holds g) (t : ℕ) (k : Instructions) (K : List Label) (l : Locals) (σ : State) → may_be_text f || may_be_text g ≡ true → suc t < b.temporaries → HoldsAt f t l x → HoldsAt g (suc t) l y → Tells f g t k K l σ
  texts_ok NumberOrText NumberOrText x y t k K l σ e lt hx hy = record {
    steps = 5;
    few = omega arith;
    goes = then_goes (marked_ok l t hx.0 (omega (arith, lt)) hx.1) (then_goes (marked_ok l (suc t) hy.0 lt hy.1)
        (goes_to (by_steps 1 refl) (ap (λ q. at ks (Bits (I32 q) ∷ []) K (laid b l) F k (beside_state p deepest ks F σ)) (flags_or (is_marked (l.number t)) (is_marked (l.number (suc t)))))));
  }
  texts_ok NumberOrText g x y t k K l σ e lt hx hy = record {
    steps = 2;
    few = omega arith;
    goes = goes_to (marked_ok l t hx.0 (omega (arith, lt)) hx.1) (ap (λ q. at ks (Bits (flag q) ∷ []) K (laid b l) F k (beside_state p deepest ks F σ)) (sym (or_false (is_marked (l.number t)))));
  }
  texts_ok f NumberOrText x y t k K l σ e lt hx hy = record { steps = 2; few = omega arith; goes = marked_ok l (suc t) hy.0 lt hy.1 }
  texts_ok f g x y t k K l σ e lt hx hy = cc

  bare_ok : (c : CompareOp) (f g : Form) (x : Holds f) (y : Holds g) (t u w d : ℕ) (k : Instructions) (K : List Label) (l : Locals) (σ : State) → fits f sort.Value ≡ true → fits g sort.Value ≡ true → is_value f ≡ false → is_value g ≡ false → suc t < b.temporaries → Fit p deepest ks F (suc (suc t)) u w l σ → HoldsAt f t l x → HoldsAt g (suc t) l y →
      Reached p deepest ks F b M 48 σ.turns (at ks [] K (laid b l) F (bare_compared b c f g t d k) (beside_state p deepest ks F σ)) (Put p deepest ks F b t u w (PrimitiveAnswer answer.Truth) k K l) (Away p deepest ks F b d K) (settled (comparison (boxed f x) (boxed g y) c) σ)
  bare_ok c f g x y t u w d k K l σ ef eg ivf ivg lt ft hx hy = by (may_be_text f || may_be_text g) refl
    where
      mach : Machine.Code
      mach = machine p deepest ks F

      P : List Label → Instructions → Bool → State → Conf → Type 0
      P = λ K1 k1. Put p deepest ks F b t u w (PrimitiveAnswer answer.Truth) k1 K1 l

      r : Result Bool Fault
      r = comparison (boxed f x) (boxed g y) c

      inner : Instructions
      inner = values_compared b c f g t (suc d) NoMore

      xd : Cell
      xd = l.number t

      yd : Cell
      yd = l.number (suc t)

      other : Instructions
      other = numbers_compared b c f g t NoMore

      branch : (s : Bool) → text_flag f xd || text_flag g yd ≡ s → Reached p deepest ks F b M 42 σ.turns (at ks [] (label [] None k ∷ K) (laid b l) F (cond (nat_eq (if s then 1 else 0) 0) other inner) (beside_state p deepest ks F σ)) (P K k) (Away p deepest ks F b d K) (settled r σ)
      branch true e = blocked p deepest ks F b M 41 σ.turns d k K _ (P (label [] None k ∷ K) NoMore) (P K k) (settled r σ) (λ z τ c1 a. put_closes t u w (PrimitiveAnswer answer.Truth) k K l z τ c1 a)
          (values_ok c f g x y t u w (suc d) NoMore (label [] None k ∷ K) l σ ef eg lt ft hx hy)
      branch false e =
          let q = or_parts (text_flag f xd) (text_flag g yd) e in
          within mach M 16 42 σ.turns _ (P K k) (Away p deepest ks F b d K) (settled r σ) (omega arith)
          (blocked p deepest ks F b M 15 σ.turns d k K _ (P (label [] None k ∷ K) NoMore) (P K k) (settled r σ) (λ z τ c1 a. put_closes t u w (PrimitiveAnswer answer.Truth) k K l z τ c1 a)
          (numbers_ok c f g x y t u w (suc d) NoMore (label [] None k ∷ K) l σ ivf ivg q.0 q.1 lt ft hx hy))

      by : (s : Bool) → may_be_text f || may_be_text g ≡ s → Reached p deepest ks F b M 48 σ.turns (at ks [] K (laid b l) F (if s then texts_beside b f g t (Small.emit_if inner other k) else numbers_compared b c f g t k) (beside_state p deepest ks F σ)) (P K k) (Away p deepest ks F b d K) (settled r σ)
      by true e =
          let a = texts_ok f g x y t (Small.emit_if inner other k) K l σ e lt hx hy in
          let q = a.few in
          first mach M (a.steps + 1) 42 48 σ.turns _ _ (P K k) (Away p deepest ks F b d K) (settled r σ) (then_goes a.goes (chooses inner other (if text_flag f xd || text_flag g yd then 1 else 0))) (omega (arith, q)) (branch (text_flag f xd || text_flag g yd) refl)
      by false e =
          let q = or_parts (may_be_text f) (may_be_text g) e in
          within mach M 15 48 σ.turns _ (P K k) (Away p deepest ks F b d K) (settled r σ) (omega arith)
          (numbers_ok c f g x y t u w d k K l σ ivf ivg (no_text_there f xd q.0) (no_text_there g yd q.1) lt ft hx hy)

  compared_ok : (c : CompareOp) (f g : Form) (x : Holds f) (y : Holds g) (t u w d : ℕ) (k : Instructions) (K : List Label) (l : Locals) (σ : State) → fits f sort.Value ≡ true → fits g sort.Value ≡ true → suc t < b.temporaries → Fit p deepest ks F (suc (suc t)) u w l σ → HoldsAt f t l x → HoldsAt g (suc t) l y →
      Reached p deepest ks F b M 48 σ.turns (at ks [] K (laid b l) F (compared b c f g t d k) (beside_state p deepest ks F σ)) (Put p deepest ks F b t u w (PrimitiveAnswer answer.Truth) k K l) (Away p deepest ks F b d K) (settled (comparison (boxed f x) (boxed g y) c) σ)
  compared_ok c f g x y t u w d k K l σ ef eg lt ft hx hy = by (is_value f || is_value g) refl
    where
      by : (s : Bool) → is_value f || is_value g ≡ s → Reached p deepest ks F b M 48 σ.turns (at ks [] K (laid b l) F (if s then values_compared b c f g t d k else bare_compared b c f g t d k) (beside_state p deepest ks F σ)) (Put p deepest ks F b t u w (PrimitiveAnswer answer.Truth) k K l) (Away p deepest ks F b d K) (settled (comparison (boxed f x) (boxed g y) c) σ)
      by true e = within (machine p deepest ks F) M 41 48 σ.turns _ (Put p deepest ks F b t u w (PrimitiveAnswer answer.Truth) k K l) (Away p deepest ks F b d K) (settled (comparison (boxed f x) (boxed g y) c) σ) (omega arith) (values_ok c f g x y t u w d k K l σ ef eg lt ft hx hy)
      by false e = let q = or_parts (is_value f) (is_value g) e in bare_ok c f g x y t u w d k K l σ ef eg q.0 q.1 lt ft hx hy

  -- two operands, one after the other, as a row
  abbrev row_of_two : {A B : Type 0} → Outcome A → Execution B → Outcome (A × (B × Unit {0}))
  row_of_two {A} {B} r m = go_on {A = A} {B = A × (B × Unit {0})} r (λ v τ. go_on {A = B × Unit {0}} {B = A × (B × Unit {0})} (go_on {A = B} {B = B × Unit {0}} (m τ) (λ w τ1. go_on {A = Unit {0}} {B = B × Unit {0}} (Gives tt τ1) (λ e. give (w, e)))) (λ vs. give (v, vs)))

  two_meant : {A B C : Type 0} → (r : Outcome A) (m : Execution B) (g : A → B → Execution C) → go_on {A = A × (B × Unit {0})} {B = C} (row_of_two r m) (λ vs. g vs.0 vs.1.0) ≡ go_on r (λ v τ. go_on (m τ) (λ w. g v w))
  two_meant (Stops why σ) m g = refl
  two_meant {A} {B} {C} (Gives v σ) m g = by (m σ)
    where
      by : (q : Outcome B) → go_on {A = A × (B × Unit {0})} {B = C} (go_on {A = B × Unit {0}} {B = A × (B × Unit {0})} (go_on {A = B} {B = B × Unit {0}} q (λ w τ1. go_on {A = Unit {0}} {B = B × Unit {0}} (Gives tt τ1) (λ e. give (w, e)))) (λ vs. give (v, vs))) (λ vs. g vs.0 vs.1.0) ≡ go_on q (λ w. g v w)
      by (Gives w τ) = refl
      by (Stops why τ) = refl

  -- a comparison does what it means, where this is the code after that of the first operand
  abbrev pub CompareOk : CompareOp → (a e : Code) → (List Form → List ℕ → (t w d : ℕ) → Instructions → Instructions) → Type 0
  CompareOk c a e rest = (v : Bool) (fs : List Form) (env : Env fs) (ts : List ℕ) (st : ℕ → Standing) (t u w d : ℕ) (k : Instructions) (K : List Label) (l : Locals) (σ : State) →
      sorted (context p deepest ks F b M n) fs (Compare c a e) ≡ true → WellUsed p deepest ks F b M n fs (λ i. held_after i (Compare c a e) (st i)) → t + room (Compare c a e) ≤ b.temporaries → w + arrays_in (Compare c a e) ≤ b.arrays → Ready p deepest ks F b M n fs env ts st t u w (loops_walked K) l σ →
      Reached p deepest ks F b M (work_of (Compare c a e)) σ.turns (at ks [] K (laid b l) F (emitted (layout p deepest ks F b M n) false fs ts a t w d (rest fs ts t w d k)) (beside_state p deepest ks F σ)) (Done p deepest ks F b M n v (Compare c a e) fs env ts st t u w k K l σ) (Away p deepest ks F b d K) (meant p deepest ks F b M n fs env (Compare c a e) σ)

  -- both operands are evaluated into temporaries
  pub compare_both : (c : CompareOp) (a e : Code) → ExprOk p deepest ks F b M n a → ExprOk p deepest ks F b M n e → CompareOk c a e (λ fs ts t w d k. emitted (layout p deepest ks F b M n) false fs ts e (suc t) w d (compared b c (form_of fs a) (form_of fs e) t d k))
  unfolding emitted all_emitted evaluated all_evaluated sorted all_sorted
  compare_both c a e oka oke v fs env ts st t u w d k K l σ so us rm ar rd =
      let mach = machine p deepest ks F in
      let ctx = context p deepest ks F b M n in
      let Q = Away p deepest ks F b d K in
      let f = form_of fs a in
      let g = form_of fs e in
      let P = Done p deepest ks F b M n v (Compare c a e) fs env ts st t u w k K l σ in
      let es : Codes = At a (At e End) in
      let s1 = and_parts (fits f sort.Value) (fits g sort.Value && (sorted ctx fs a && sorted ctx fs e)) so in
      let s2 = and_parts (fits g sort.Value) (sorted ctx fs a && sorted ctx fs e) s1.1 in
      let s3 = and_parts (sorted ctx fs a) (sorted ctx fs e) s2.1 in
      let k1 = compared b c f g t d k in
      let r1 = room_one e in
      let oks = codes_at p deepest ks F b M n a (At e End) oka (codes_at p deepest ks F b M n e End oke (codes_end p deepest ks F b M n)) in
      subst (λ r. Reached p deepest ks F b M (work_of (Compare c a e)) σ.turns (at ks [] K (laid b l) F (all_emitted (layout p deepest ks F b M n) fs ts es t w d k1) (beside_state p deepest ks F σ)) P Q r) (two_meant (meant p deepest ks F b M n fs env a σ) (meant p deepest ks F b M n fs env e) (λ x y. settled (comparison (boxed f x) (boxed g y) c)))
      (then_on mach M (works_of es) 48 (work_of (Compare c a e)) σ.turns _ (AllDone p deepest ks F b M n es fs env ts st t u w k1 K l σ) P Q (all_meant p deepest ks F b M n fs env es σ) (λ vs. settled (comparison (boxed f vs.0) (boxed g vs.1.0) c)) (omega arith)
      (oks fs env ts st t u w d k1 K l σ (ap₂ (λ y z. y && (z && true)) s3.0 s3.1) us (omega (arith, rm, r1)) (omega (arith, ar)) rd)
      (λ vs τ c1 le h.
      first mach M 0 48 48 τ.turns c1 _ P Q _ (record { it = h.comes }) (omega arith)
      (weaker_settled mach M 48 _ τ (Put p deepest ks F b t u w (PrimitiveAnswer answer.Truth) k K h.next) P Q (comparison (boxed f vs.0) (boxed g vs.1.0) c)
      (λ z c2 q. put_done p deepest ks F b M n (Compare c a e) v fs env ts st t u w k K l h.next σ τ z c2 rd.below h.same h.own h.kept refl tt q)
      (compared_ok c f g vs.0 vs.1.0 t u w d k K h.next τ s1.0 s2.0 (omega (arith, rm, r1)) h.fit h.held.0 h.held.2.0))))
