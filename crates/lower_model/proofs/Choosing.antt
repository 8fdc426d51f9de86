-- The truth of what was evaluated, and one of two.
use Rattle.std.proofs.Common.{◌≡◌, inl, ℕ, zero, suc, ◌+◌, ◌-◌, ◌^◌, ◌<◌, ◌≤◌, Bool, true, false, List, [], ◌∷◌, length, None, ℤ, pos, negsuc, w64, unsigned_abs, refl, sym, ap, ◌∙◌, arith}
use Rattle.std.specs.Prelude.{nat_eq, cond, not, ◌&&◌, if◌then◌else◌}
use Rattle.std.specs.Int.{cast_unsigned}
use Rattle.std.proofs.lemmas.Bool.{and_parts, ne_eqb}
use Rattle.awk_values.specs.declared.value.Value.{Value}
use Rattle.awk_values.specs.Operators.{is_zero}
use Rattle.awk_values.specs.Values.{truth_of_value}
use Rattle.sem_primitives.specs.ConstantNumbers.{flag_number}
use Rattle.sem_primitives.specs.Numbers.{Number, number_word}
use Rattle.sem_primitives.specs.Sorts.{In}
use Rattle.sem_primitives.specs.declared.sorts.Answer.TheVariants as answer
use Rattle.sem_primitives.specs.declared.sorts.Sort.{Sort}
use Rattle.sem_primitives.specs.declared.sorts.Sort.TheVariants as sort
use Rattle.sem_primitives.specs.declared.table.Primitive.TheVariants as row
use Rattle.sem_primitives.proofs.Words.{small}
use Rattle.wasm_types.specs.Syntax.{Instructions, Done as NoMore}
use Rattle.wasm_types.specs.declared.instr.Simple.TheVariants.{LocalSet, Convert}
use Rattle.wasm_types.specs.declared.instr.CvtOp.TheVariants.{I64ExtendI32U}
use Rattle.wasm_store.specs.declared.word.Word.TheVariants.{I32, I64}
use Rattle.wasm_store.specs.Words.{flag}
use Rattle.mid_program.specs.Mid.{Kind, Program, Form, PrimitiveAnswer, NumberOrText, Code, Choose, form_of}
use Rattle.mid_program.specs.MidMeaning.{Holds, Env, evaluated, all_evaluated, truth_in, converted}
use Rattle.sem_scripts.specs.Steps.{zero_number}
use Rattle.sem_scripts.specs.ScriptState.{State, Stop, Execution, go_on, settled}
use Rattle.mid_program.specs.Sorted.{Held as Standing, There, Moved, Misused, either_way, sorted, all_sorted, held_after, is_well_used, is_tested, is_chosen, fits}
use Rattle.lower_model.specs.Cells.{Cell, Bits, Held}
use Rattle.lower_model.specs.Emission.{emitted, all_emitted}
use Rattle.lower_model.specs.Machine.{Conf, Label, Frame, at, label, loops_walked}
use Rattle.lower_model.specs.Places.{Bases, room, arrays_in, handle_local, number_local}
use Rattle.lower_model.specs.Small.{emit, ask_row, emit_if, moved_out, not_zero, zeroed, truth, text_beside}
use Rattle.lower_model.specs.Small
use Rattle.lower_model.proofs.Observer.{Observer}
use Rattle.lower_model.proofs.Runs.{Goes, then_goes, goes_to, goes_from, by_steps, first, then_on, step_settled, within, weaker}
use Rattle.lower_model.proofs.Regions.{upd_same}
use Rattle.lower_model.proofs.Locals.{Locals, Hand, Number as NumberAt, with_at, laid}
use Rattle.lower_model.proofs.Steps.{empty, get_copied, set_ok, moved_out_ok}
use Rattle.lower_model.proofs.State.{word_not_beside, BareIs, IsBeside, IsNone, IsNumber}
use Rattle.lower_model.proofs.Relation.{HoldsAt, KeptAs, Kept, kept_same, Same, same_then, Fit, fit_hand, fit_number, fit_less, SameOwn, Away, away_out}
use Rattle.lower_model.proofs.Pieces.{chooses, closes, number_is_ok}
use Rattle.lower_model.proofs.Answers.{machine, beside_state, Reached}
use Rattle.lower_model.proofs.Conversions.{ask_truth, zeroed_ok, ZeroedIs, Nought, Itself}
use Rattle.lower_model.proofs.Converting.{Keeps, keeps_self, keeps_then, keeps_hand, keeps_number, Converted, converted_ok, conv_closes}
use Rattle.lower_model.proofs.Simulation.{work_of, still_stands, NoArray, plain_stands, layout, context, meant, Ready, walking_same, WellUsed, Done, ExprOk, room_one}
use Rattle.lower_model.proofs.Operands.{well_before}
use Rattle.lower_model.proofs.Arguments.{under_keeps, under_same}
use Rattle.lower_model.proofs.Keeping.{kept_left}

-- a number is 0 where its word is
pub zero_word : (x : Number) → nat_eq (number_word x) 0 ≡ is_zero x.number
zero_word x = by x.number (small x)
  where
    by : (z : ℤ) → unsigned_abs z ≤ 2 ^ 53 → nat_eq (cast_unsigned w64 z) 0 ≡ is_zero z
    by (pos k) e = refl
    by (negsuc k) e = ne_eqb (2 ^ 64 - suc k) 0 (λ q. omega (arith, q, e)) ∙ sym (ne_eqb (suc k) 0 (λ q. omega (arith, q)))

flag_twice : (t : Bool) → nat_eq (if t then 1 else 0) 0 ≡ not t
flag_twice true = refl
flag_twice false = refl

flag_is : (t : Bool) → flag t ≡ I32 (flag_number t)
flag_is true = refl
flag_is false = refl

-- after one of two ways

pub well_left : (g m : Standing) → is_well_used (either_way g m) ≡ true → is_well_used g ≡ true
well_left There m e = refl
well_left Moved m e = refl
well_left Misused m e = e

pub well_right : (g m : Standing) → is_well_used (either_way g m) ≡ true → is_well_used m ≡ true
well_right g There e = refl
well_right g Moved e = refl
well_right There Misused e = e
well_right Moved Misused e = e
well_right Misused Misused e = e

left_way : (g m : Standing) (f : Form) (s : ℕ) (l : Locals) (x : Holds f) → KeptAs g f s l x → KeptAs (either_way g m) f s l x
left_way There There f s l x q = q
left_way There Moved f s l x q = kept_left There f s l x q
left_way There Misused f s l x q = kept_left There f s l x q
left_way Moved There f s l x q = q
left_way Moved Moved f s l x q = q
left_way Moved Misused f s l x q = q
left_way Misused m f s l x q = q

right_way : (g m : Standing) (f : Form) (s : ℕ) (l : Locals) (x : Holds f) → KeptAs m f s l x → KeptAs (either_way g m) f s l x
right_way There There f s l x q = q
right_way There Moved f s l x q = q
right_way There Misused f s l x q = q
right_way Moved There f s l x q = kept_left There f s l x q
right_way Moved Moved f s l x q = q
right_way Moved Misused f s l x q = q
right_way Misused There f s l x q = kept_left There f s l x q
right_way Misused Moved f s l x q = q
right_way Misused Misused f s l x q = q

pub kept_left_way : (fs : List Form) (ts : List ℕ) (st st1 : ℕ → Standing) (l : Locals) (env : Env fs) → Kept fs ts st l env → Kept fs ts (λ i. either_way (st i) (st1 i)) l env
kept_left_way [] [] st st1 l env k = tt
kept_left_way [] (s ∷ ts) st st1 l env k = k
kept_left_way (f ∷ fs) [] st st1 l env k = k
kept_left_way (f ∷ fs) (s ∷ ts) st st1 l env k = (left_way (st zero) (st1 zero) f s l env.0 k.0, kept_left_way fs ts (λ i. st (suc i)) (λ i. st1 (suc i)) l env.1 k.1)

pub kept_right_way : (fs : List Form) (ts : List ℕ) (st st1 : ℕ → Standing) (l : Locals) (env : Env fs) → Kept fs ts st1 l env → Kept fs ts (λ i. either_way (st i) (st1 i)) l env
kept_right_way [] [] st st1 l env k = tt
kept_right_way [] (s ∷ ts) st st1 l env k = k
kept_right_way (f ∷ fs) [] st st1 l env k = k
kept_right_way (f ∷ fs) (s ∷ ts) st st1 l env k = (right_way (st zero) (st1 zero) f s l env.0 k.0, kept_right_way fs ts (λ i. st (suc i)) (λ i. st1 (suc i)) l env.1 k.1)

chosen_plain : (s : Sort) → is_chosen s ≡ true → NoArray (PrimitiveAnswer (answer.Of s))
chosen_plain sort.Value e = tt
chosen_plain sort.Number e = tt
chosen_plain sort.Array e = absurd cc
chosen_plain sort.Iterator e = tt

module _ (p : Program) (deepest : Observer) (ks : List Kind) (F : List Frame) (b : Bases) (M n : ℕ) where
  -- a truth is on the stack, and the temporary is free
  pub record Tested (t u w : ℕ) (k : Instructions) (K : List Label) (l : Locals) (σ : State) (x : Bool) (c : Conf) : Type 0 where
    pub next : Locals
    pub steps : ℕ
    pub few : steps ≤ 14
    pub goes : Goes (machine p deepest ks F) steps c (at ks (Bits (I32 (flag_number x)) ∷ []) K (laid b next) F k (beside_state p deepest ks F σ))
    pub fit : Fit p deepest ks F t u w next σ
    pub keeps : Keeps t l next

  -- the number of a temporary, tested
  not_zero_ok : {vs : List Cell} {K : List Label} {k : Instructions} → (l : Locals) (t m : ℕ) (σ : State) → t < b.temporaries → l.number t ≡ Bits (I64 m) →
      Goes (machine p deepest ks F) 3 (at ks vs K (laid b l) F (not_zero b t k) (beside_state p deepest ks F σ)) (at ks (Bits (I32 (flag_number (not (nat_eq m 0)))) ∷ vs) K (laid b l) F k (beside_state p deepest ks F σ))
  not_zero_ok {vs = vs} {K = K} {k = k} l t m σ lt e =
      goes_to (then_goes (get_copied b l (NumberAt t) (Bits (I64 m)) lt e refl) (by_steps 2 refl))
      (ap (λ w. at ks (Bits w ∷ vs) K (laid b l) F k (beside_state p deepest ks F σ)) (ap flag (flag_twice (nat_eq m 0)) ∙ flag_is (not (nat_eq m 0))))

  truth_comes : (k : Instructions) (K : List Label) (L : List Cell) (x y : Bool) (σ : State) → x ≡ y → at ks (Bits (I32 (flag_number x)) ∷ []) K L F k (beside_state p deepest ks F σ) ≡ at ks (Bits (I32 (flag_number y)) ∷ []) K L F k (beside_state p deepest ks F σ)
  truth_comes k K L x y σ e = ap (λ z. at ks (Bits (I32 (flag_number z)) ∷ []) K L F k (beside_state p deepest ks F σ)) e

  flag_nought : (x : Bool) → not (nat_eq (flag_number x) 0) ≡ x
  flag_nought true = refl
  flag_nought false = refl

  plain_tested : (t u w m : ℕ) (k : Instructions) (K : List Label) (l : Locals) (σ : State) (x : Bool) → t < b.temporaries → Fit p deepest ks F (suc t) u w l σ → l.hand t ≡ empty → l.number t ≡ Bits (I64 m) → not (nat_eq m 0) ≡ x → Tested t u w k K l σ x (at ks [] K (laid b l) F (not_zero b t k) (beside_state p deepest ks F σ))
  plain_tested t u w m k K l σ x lt ft e e1 q = record { next = l; steps = 3; few = omega arith; goes = goes_to (not_zero_ok l t m σ lt e1) (truth_comes k K (laid b l) (not (nat_eq m 0)) x σ q); fit = fit_less p deepest ks F t u w l σ e ft; keeps = keeps_self t l }

  emptied_fit : (t u w : ℕ) (l : Locals) (σ : State) → Fit p deepest ks F (suc t) u w l σ → Fit p deepest ks F t u w (with_at l (Hand t) empty) σ
  emptied_fit t u w l σ ft = fit_less p deepest ks F t u w (with_at l (Hand t) empty) σ (upd_same l.hand t empty) (fit_hand p deepest ks F t (suc t) u w l σ empty (inl refl) (omega arith) ft)

  zeroed_tested : (t u w : ℕ) (k : Instructions) (K : List Label) (l : Locals) (σ : State) (v : Value) (x : Number) → t < b.temporaries → Fit p deepest ks F (suc t) u w l σ → (n0 : ℕ) → l.number t ≡ Bits (I64 n0) → l.hand t ≡ empty → nat_eq n0 text_beside ≡ false → ZeroedIs p deepest ks F b n0 x → truth_of_value v ≡ not (is_zero x.number) →
      Tested t u w k K l σ (truth_of_value v) (at ks [] K (laid b l) F (truth b NumberOrText t k) (beside_state p deepest ks F σ))
  zeroed_tested t u w k K l σ v x lt ft n0 en eh nb zi tv =
      let a1 = moved_out (handle_local b t) (ask_row row.Truth (emit (Convert I64ExtendI32U) (emit (LocalSet (number_local b t)) NoMore))) in
      let z = zeroed_ok p deepest ks F b NoMore (label [] None (not_zero b t k) ∷ K) l t n0 σ x lt en zi in
      let l1 = with_at l (NumberAt t) (Bits (I64 (number_word x))) in
      record {
        next = l1;
        steps = 3 + (z.steps + 4);
        few = omega (arith, z.few);
        goes = then_goes
            (then_goes (goes_to (number_is_ok b l t n0 text_beside lt en) (ap (λ f. at ks (Bits (flag f) ∷ []) K (laid b l) F (emit_if a1 (zeroed b t NoMore) (not_zero b t k)) (beside_state p deepest ks F σ)) nb)) (chooses a1 (zeroed b t NoMore) 0))
            (then_goes z.goes
            (then_goes closes (goes_to (not_zero_ok l1 t (number_word x) σ lt (upd_same l.number t (Bits (I64 (number_word x))))) (truth_comes k K (laid b l1) (not (nat_eq (number_word x) 0)) (truth_of_value v) σ (ap not (zero_word x) ∙ sym tv)))));
        fit = fit_less p deepest ks F t u w l1 σ eh (fit_number p deepest ks F t (suc t) u w l σ (Bits (I64 (number_word x))) refl ft);
        keeps = keeps_number t l (Bits (I64 (number_word x)));
      }

  bare_tested : (t u w : ℕ) (k : Instructions) (K : List Label) (l : Locals) (σ : State) (v : Value) → t < b.temporaries → Fit p deepest ks F (suc t) u w l σ → (n0 : ℕ) → l.number t ≡ Bits (I64 n0) → BareIs v n0 (l.hand t) → Tested t u w k K l σ (truth_of_value v) (at ks [] K (laid b l) F (truth b NumberOrText t k) (beside_state p deepest ks F σ))
  bare_tested t u w k K l σ v lt ft n0 en (IsBeside e e1) =
      let x = truth_of_value v in
      let a1 = moved_out (handle_local b t) (ask_row row.Truth (emit (Convert I64ExtendI32U) (emit (LocalSet (number_local b t)) NoMore))) in
      let l1 = with_at l (Hand t) empty in
      let l2 = with_at l1 (NumberAt t) (Bits (I64 (flag_number x))) in
      record {
        next = l2;
        steps = 12;
        few = omega arith;
        goes = then_goes (then_goes (number_is_ok b l t text_beside text_beside lt (en ∙ ap (λ m. Bits (I64 m)) e)) (chooses a1 (zeroed b t NoMore) 1))
            (then_goes (then_goes (moved_out_ok b l (Hand t) (Held v) lt e1) (ask_truth p deepest ks F [] σ v))
            (then_goes (then_goes (by_steps 1 refl) (set_ok b l1 (NumberAt t) (Bits (I64 (flag_number x))) lt (ft.numbers t)))
            (then_goes closes (goes_to (not_zero_ok l2 t (flag_number x) σ lt (upd_same l.number t (Bits (I64 (flag_number x))))) (truth_comes k K (laid b l2) (not (nat_eq (flag_number x) 0)) x σ (flag_nought x))))));
        fit = fit_number p deepest ks F t t u w l1 σ (Bits (I64 (flag_number x))) refl (emptied_fit t u w l σ ft);
        keeps = keeps_then t l l1 l2 (keeps_hand t l empty) (keeps_number t l1 (Bits (I64 (flag_number x))));
      }
  bare_tested t u w k K l σ v lt ft n0 en (IsNone e e1 e2) = zeroed_tested t u w k K l σ v zero_number lt ft n0 en e2 (ap (λ m. nat_eq m text_beside) e1) (Nought e1 refl) (ap truth_of_value e)
  bare_tested t u w k K l σ v lt ft n0 en (IsNumber m e e1 e2) = zeroed_tested t u w k K l σ v m lt ft n0 en e2 (ap (λ z. nat_eq z text_beside) e1 ∙ word_not_beside m) (Itself e1) (ap truth_of_value e)

  pub truth_ok : (f : Form) (x : Holds f) (t u w : ℕ) (k : Instructions) (K : List Label) (l : Locals) (σ : State) → is_tested f ≡ true → t < b.temporaries → Fit p deepest ks F (suc t) u w l σ → HoldsAt f t l x → Tested t u w k K l σ (truth_in f x) (at ks [] K (laid b l) F (truth b f t k) (beside_state p deepest ks F σ))
  truth_ok (PrimitiveAnswer (answer.Of sort.Value)) x t u w k K l σ e lt ft hd = record {
    next = with_at l (Hand t) empty;
    steps = 3;
    few = omega arith;
    goes = then_goes (moved_out_ok b l (Hand t) (Held x) lt hd.0) (ask_truth p deepest ks F [] σ x);
    fit = emptied_fit t u w l σ ft;
    keeps = keeps_hand t l empty;
  }
  truth_ok (PrimitiveAnswer (answer.Of sort.Number)) x t u w k K l σ e lt ft hd = plain_tested t u w (number_word x) k K l σ (not (is_zero x.number)) lt ft hd.0 hd.1 (ap not (zero_word x))
  truth_ok (PrimitiveAnswer answer.Truth) x t u w k K l σ e lt ft hd = plain_tested t u w (flag_number x) k K l σ x lt ft hd.0 hd.1 (flag_nought x)
  truth_ok NumberOrText x t u w k K l σ e lt ft hd = bare_tested t u w k K l σ x lt ft hd.0 hd.1 hd.2
  truth_ok f x t u w k K l σ e lt ft hd = cc

  -- one of two, in a block
  chosen_ok : (s : Sort) (c a1 a2 a : Code) (fs : List Form) (env : Env fs) (ts : List ℕ) (v : Bool) (st st1 : ℕ → Standing) (t u w d : ℕ) (k : Instructions) (K : List Label) (l0 l : Locals) (σ0 σ : State) → ExprOk p deepest ks F b M n a → is_chosen s ≡ true → fits (form_of fs a) s ≡ true → sorted (context p deepest ks F b M n) fs a ≡ true →
      WellUsed p deepest ks F b M n fs (λ i. held_after i a (st i)) → t + room a ≤ b.temporaries → w + arrays_in a ≤ b.arrays → Ready p deepest ks F b M n fs env ts st t u w (loops_walked K) l σ → Same ts t w l0 l → SameOwn p deepest ks F σ0 σ →
      ((l1 : Locals) → Kept fs ts (λ i. held_after i a (st i)) l1 env → Kept fs ts (λ i. held_after i (Choose s c a1 a2) (st1 i)) l1 env) →
      Reached p deepest ks F b M (work_of a + 17) σ.turns (at ks [] (label [] None k ∷ K) (laid b l) F (emitted (layout p deepest ks F b M n) false fs ts a t w (suc d) (Small.converted b (form_of fs a) s t (suc d) NoMore)) (beside_state p deepest ks F σ))
      (Done p deepest ks F b M n v (Choose s c a1 a2) fs env ts st1 t u w k K l0 σ0) (Away p deepest ks F b d K) (go_on (meant p deepest ks F b M n fs env a σ) (λ x. settled (converted (form_of fs a) s x)))
  chosen_ok s c a1 a2 a fs env ts v st st1 t u w d k K l0 l σ0 σ ok ch fit so us rm ar rd same own keep =
      let mach = machine p deepest ks F in
      let Q1 = Away p deepest ks F b (suc d) (label [] None k ∷ K) in
      let Q = Away p deepest ks F b d K in
      let g = form_of fs a in
      let k1 = Small.converted b g s t (suc d) NoMore in
      let P = Done p deepest ks F b M n v (Choose s c a1 a2) fs env ts st1 t u w k K l0 σ0 in
      let r1 = room_one a in
      let out : (why : Stop) (τ : State) (c1 : Conf) → Q1 why τ c1 → Q why τ c1 = away_out p deepest ks F b d (label [] None k) K in
      then_on mach M (work_of a) 17 (work_of a + 17) σ.turns _ (Done p deepest ks F b M n false a fs env ts st t u w k1 (label [] None k ∷ K) l σ) P Q (meant p deepest ks F b M n fs env a σ) _ (omega arith)
      (weaker mach M (work_of a) σ.turns _ (Done p deepest ks F b M n false a fs env ts st t u w k1 (label [] None k ∷ K) l σ) (Done p deepest ks F b M n false a fs env ts st t u w k1 (label [] None k ∷ K) l σ) Q1 Q (meant p deepest ks F b M n fs env a σ) (λ x τ c1 q. q) out
      (ok false fs env ts st t u w (suc d) k1 (label [] None k ∷ K) l σ so us rm ar rd))
      (λ x τ c1 le h1.
      let C = Converted p deepest ks F b M (suc t) u w t (PrimitiveAnswer (answer.Of s)) NoMore (label [] None k ∷ K) h1.next in
      first mach M 0 17 17 τ.turns c1 _ P Q _ (record { it = h1.comes }) (omega arith)
      (step_settled mach M 1 16 17 _ τ C P Q (converted g s x) (omega arith)
      (λ y c2 z.
      let o = conv_closes p deepest ks F b M (suc t) u w t (PrimitiveAnswer (answer.Of s)) k K h1.next y τ c2 z in
      record {
        conf = o.conf;
        steps = o.steps;
        few = o.few;
        goes = o.goes;
        holds = record {
          next = o.holds.next;
          comes = o.holds.comes;
          fit = o.holds.fit;
          same = same_then ts t t w w l0 l o.holds.next (omega arith) (omega arith) same (same_then ts t t w w l h1.next o.holds.next (omega arith) (omega arith) h1.same (under_same ts t w h1.next o.holds.next (under_keeps t t h1.next o.holds.next (omega arith) o.holds.keeps)));
          own = λ i q. h1.own i q ∙ own i q;
          kept = keep o.holds.next (kept_same fs ts (λ i. held_after i a (st i)) h1.next o.holds.next env t rd.below (λ z1 lz. o.holds.keeps.hands z1 (λ e. omega (arith, e, lz))) (λ z1 lz. o.holds.keeps.numbers z1 (λ e. omega (arith, e, lz))) h1.kept);
          stands = o.holds.holds;
          meant = plain_stands p deepest ks F b M n (PrimitiveAnswer (answer.Of s)) y _ τ (chosen_plain s ch);
        };
      })
      (weaker mach M 16 τ.turns _ C C Q1 Q (settled (converted g s x) τ) (λ y τ1 c2 q. q) out
      (converted_ok p deepest ks F b M g s x (suc t) u w t (suc d) NoMore (label [] None k ∷ K) h1.next τ fit (omega arith) (omega (arith, rm, r1)) h1.fit (still_stands a g t h1.next x h1.stands)))))

  two_ways : {X : Type 0} (y : Bool) (w l : ℕ) (K : List Label) (L : List Cell) (A B : Instructions) (σ : State) (P : X → State → Conf → Type 0) (Q : Stop → State → Conf → Type 0) (m1 m2 : Execution X) →
      Reached p deepest ks F b M w l (at ks [] K L F A (beside_state p deepest ks F σ)) P Q (m1 σ) → Reached p deepest ks F b M w l (at ks [] K L F B (beside_state p deepest ks F σ)) P Q (m2 σ) →
      Reached p deepest ks F b M w l (at ks [] K L F (cond (nat_eq (flag_number y) 0) B A) (beside_state p deepest ks F σ)) P Q ((if y then m1 else m2) σ)
  two_ways true w l K L A B σ P Q m1 m2 r1 r2 = r1
  two_ways false w l K L A B σ P Q m1 m2 r1 r2 = r2

  pub choose_expr : (s : Sort) (c a1 a2 : Code) → ExprOk p deepest ks F b M n c → ExprOk p deepest ks F b M n a1 → ExprOk p deepest ks F b M n a2 → ExprOk p deepest ks F b M n (Choose s c a1 a2)
  unfolding emitted all_emitted evaluated all_evaluated sorted all_sorted
  choose_expr s c a1 a2 okc ok1 ok2 v fs env ts st t u w d k K l σ so us rm ar rd =
      let mach = machine p deepest ks F in
      let ctx = context p deepest ks F b M n in
      let lay = layout p deepest ks F b M n in
      let Q = Away p deepest ks F b d K in
      let P = Done p deepest ks F b M n v (Choose s c a1 a2) fs env ts st t u w k K l σ in
      let g = form_of fs c in
      let st1 : ℕ → Standing = λ i. held_after i c (st i) in
      let s1 = and_parts (is_chosen s) (is_tested g && (fits (form_of fs a1) s && (fits (form_of fs a2) s && (sorted ctx fs c && (sorted ctx fs a1 && sorted ctx fs a2))))) so in
      let s2 = and_parts (is_tested g) (fits (form_of fs a1) s && (fits (form_of fs a2) s && (sorted ctx fs c && (sorted ctx fs a1 && sorted ctx fs a2)))) s1.1 in
      let s3 = and_parts (fits (form_of fs a1) s) (fits (form_of fs a2) s && (sorted ctx fs c && (sorted ctx fs a1 && sorted ctx fs a2))) s2.1 in
      let s4 = and_parts (fits (form_of fs a2) s) (sorted ctx fs c && (sorted ctx fs a1 && sorted ctx fs a2)) s3.1 in
      let s5 = and_parts (sorted ctx fs c) (sorted ctx fs a1 && sorted ctx fs a2) s4.1 in
      let s6 = and_parts (sorted ctx fs a1) (sorted ctx fs a2) s5.1 in
      let A = emitted lay false fs ts a1 t w (suc d) (Small.converted b (form_of fs a1) s t (suc d) NoMore) in
      let B = emitted lay false fs ts a2 t w (suc d) (Small.converted b (form_of fs a2) s t (suc d) NoMore) in
      let k1 = truth b g t (emit_if A B k) in
      let r1 = room_one c in
      let us1 : (i : ℕ) → i < length fs → is_well_used (held_after i a1 (st1 i)) ≡ true = λ i lt. well_left (held_after i a1 (st1 i)) (held_after i a2 (st1 i)) (us i lt) in
      let us2 : (i : ℕ) → i < length fs → is_well_used (held_after i a2 (st1 i)) ≡ true = λ i lt. well_right (held_after i a1 (st1 i)) (held_after i a2 (st1 i)) (us i lt) in
      then_on mach M (work_of c) (40 + (work_of a1 + work_of a2)) (work_of (Choose s c a1 a2)) σ.turns _ (Done p deepest ks F b M n false c fs env ts st t u w k1 K l σ) P Q (meant p deepest ks F b M n fs env c σ) _ (omega arith)
      (okc false fs env ts st t u w d k1 K l σ s5.0 (λ i lt. well_before i a1 (st1 i) (us1 i lt)) (omega (arith, rm)) (omega (arith, ar)) rd)
      (λ x τ c1 le h1.
      let z = truth_ok g x t u w (emit_if A B k) K h1.next τ s2.0 (omega (arith, rm, r1)) h1.fit (still_stands c g t h1.next x h1.stands) in
      let same : Same ts t w l z.next = same_then ts t t w w l h1.next z.next (omega arith) (omega arith) h1.same (under_same ts t w h1.next z.next (under_keeps t t h1.next z.next (omega arith) z.keeps)) in
      let rd1 : Ready p deepest ks F b M n fs env ts st1 t u w (loops_walked K) z.next τ = record {
        below = rd.below;
        kept = kept_same fs ts st1 h1.next z.next env t rd.below (λ y ly. z.keeps.hands y (λ e. omega (arith, e, ly))) (λ y ly. z.keeps.numbers y (λ e. omega (arith, e, ly))) h1.kept;
        fit = z.fit;
        turns = omega (arith, le, rd.turns);
        parameters = rd.parameters;
        plain = rd.plain;
        walking = walking_same p deepest ks F b M n (loops_walked K) u l z.next (λ x. same.iterators x) rd.walking;
        none = rd.none;
      } in
      let m1 : Execution (In s) = λ τ1. go_on (meant p deepest ks F b M n fs env a1 τ1) (λ x1. settled (converted (form_of fs a1) s x1)) in
      let m2 : Execution (In s) = λ τ1. go_on (meant p deepest ks F b M n fs env a2 τ1) (λ x1. settled (converted (form_of fs a2) s x1)) in
      let w2 = work_of a1 + work_of a2 + 17 in
      first mach M (z.steps + 1) (work_of a1 + work_of a2 + 17) (40 + (work_of a1 + work_of a2)) τ.turns c1 _ P Q _ (goes_from h1.comes (then_goes z.goes (chooses A B (flag_number (truth_in g x))))) (omega (arith, z.few))
      (two_ways (truth_in g x) w2 τ.turns (label [] None k ∷ K) (laid b z.next) A B τ P Q m1 m2
      (within mach M (work_of a1 + 17) w2 τ.turns _ P Q (m1 τ) (omega arith)
      (chosen_ok s c a1 a2 a1 fs env ts v st1 st t u w d k K l z.next σ τ ok1 s1.0 s3.0 s6.0 us1 (omega (arith, rm)) (omega (arith, ar)) rd1 same h1.own (λ l1 q. kept_left_way fs ts (λ i. held_after i a1 (st1 i)) (λ i. held_after i a2 (st1 i)) l1 env q)))
      (within mach M (work_of a2 + 17) w2 τ.turns _ P Q (m2 τ) (omega arith)
      (chosen_ok s c a1 a2 a2 fs env ts v st1 st t u w d k K l z.next σ τ ok2 s1.0 s4.0 s6.1 us2 (omega (arith, rm)) (omega (arith, ar)) rd1 same h1.own (λ l1 q. kept_right_way fs ts (λ i. held_after i a1 (st1 i)) (λ i. held_after i a2 (st1 i)) l1 env q)))))
