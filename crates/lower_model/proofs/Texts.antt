-- Texts of the script, where they lie in memory; and names that are unboxed.
use Rattle.std.proofs.Common.{◌≡◌, inl, inr, ℕ, zero, suc, ◌+◌, ◌<◌, ◌≤◌, true, false, List, [], ◌∷◌, ◌++◌, length, Option, Some, None, Bool, ℤ, refl, sym, ap, ◌∙◌, arith, subst}
use Rattle.std.specs.Prelude.{get_or, take, drop, nat_eq, nat_lt, if◌then◌else◌}
use Rattle.std.proofs.lemmas.Bool.{ltb-true, le-leb}
use Rattle.std.proofs.lemmas.List.{take_at, drop_at, drop-drop, length-append, get_or_append_left}
use Rattle.awk_values.specs.declared.value.Value.{Value}
use Rattle.awk_values.specs.declared.value.Value.TheVariants as value
use Rattle.sem_primitives.specs.declared.table.Primitive.TheVariants as row
use Rattle.wasm_types.specs.Syntax.{Instructions, Done as NoMore}
use Rattle.wasm_types.specs.declared.instr.Simple.TheVariants.{LocalSet, GlobalGet, GlobalSet}
use Rattle.wasm_store.specs.Words.{flag}
use Rattle.wasm_store.specs.declared.word.Word.TheVariants.{I32, I64}
use Rattle.mid_program.specs.Mid.{Kind, Unboxed, Program, Slot, Global, Parameter, NumberOrText, Text, Get}
use Rattle.mid_program.specs.MidMeaning.{evaluated, all_evaluated}
use Rattle.sem_scripts.specs.ScriptState.{State, global_value, local_value}
use Rattle.mid_program.specs.Sorted.{sorted, has_kind, lender_at, all_sorted, kinds_of, announced_names}
use Rattle.mid_program.proofs.Lenders.{lender_unboxed}
use Rattle.lower_model.specs.Cells.{Cell, Bits, Held, is_owned}
use Rattle.lower_model.specs.Emission.{emitted, all_emitted, parameter_read, slot_read, unboxed_read, text_pushed}
use Rattle.lower_model.specs.Functions.{texts_of}
use Rattle.lower_model.specs.ImportCalls.{with_some, and_rest, row_in, text_at}
use Rattle.lower_model.specs.Machine.{Conf, Label, Frame, at, label}
use Rattle.lower_model.specs.Places.{Bases, place_of, memory_of, handle_local}
use Rattle.lower_model.specs.Small.{emit, ask_row, when, copied, least, text_beside}
use Rattle.lower_model.proofs.Observer.{Observer}
use Rattle.lower_model.proofs.Runs.{Goes, then_goes, goes_to, by_steps, there}
use Rattle.lower_model.proofs.Regions.{upd_same}
use Rattle.lower_model.proofs.Locals.{Locals, Param, Hand, Number as NumberAt, with_at, laid}
use Rattle.lower_model.proofs.Globals.{Hand as NameHand, Number as NameNumber, global_of}
use Rattle.lower_model.proofs.Steps.{empty, get_copied, set_ok, tee_ok}
use Rattle.lower_model.proofs.GlobalSteps.{global_copied}
use Rattle.lower_model.proofs.State.{bare, beside, bare_number, beside_number, BareParameter, word_not_least, BareIs, kind_here, name_hand, name_word, cells_of, arrays_before, word_not_beside, IsBeside, IsNone, IsNumber}
use Rattle.lower_model.proofs.Relation.{Same, same_self, same_then, same_hand, same_number, Fit, fit_hand, fit_number, fit_more, Away}
use Rattle.lower_model.proofs.Answers.{machine, beside_state, row_called, Put, put_value}
use Rattle.lower_model.proofs.Conversions.{bare_is, same_state}
use Rattle.lower_model.proofs.Copies.{copied_global}
use Rattle.lower_model.proofs.Pieces.{chooses, closes}
use Rattle.lower_model.proofs.Simulation.{Done, ExprOk, layout}
use Rattle.lower_model.proofs.Expressions.{put_done}
use Rattle.lower_model.proofs.Reading.{kind_below, kind_found}

-- The texts lie in memory one after the other.

text_within : (ts : List (List ℕ)) (i : ℕ) → place_of ts i + length (get_or ts i []) ≤ length (memory_of ts)
text_within [] i = omega arith
text_within (s ∷ ts) zero = let a = length-append s (memory_of ts) in omega (arith, a)
text_within (s ∷ ts) (suc i) = let r = text_within ts i in let a = length-append s (memory_of ts) in omega (arith, r, a)

text_read : (ts : List (List ℕ)) (i : ℕ) → take (length (get_or ts i [])) (drop (place_of ts i) (memory_of ts)) ≡ get_or ts i []
text_read [] i = refl
text_read (s ∷ ts) zero = take_at s (memory_of ts) (length s) refl
text_read (s ∷ ts) (suc i) =
    ap (λ m. take (length (get_or ts i [])) m) (sym (drop-drop (place_of ts i) (length s) (s ++ memory_of ts)) ∙ ap (drop (place_of ts i)) (drop_at s (memory_of ts) (length s) refl))
    ∙ text_read ts i

pub text_placed : (ts : List (List ℕ)) (i : ℕ) → text_at (memory_of ts) (place_of ts i) (length (get_or ts i [])) ≡ Some (get_or ts i [])
text_placed ts i =
    ap (λ t. if t then Some (take (length (get_or ts i [])) (drop (place_of ts i) (memory_of ts))) else None) (le-leb (place_of ts i + length (get_or ts i [])) (length (memory_of ts)) (text_within ts i))
    ∙ ap Some (text_read ts i)

module _ (p : Program) (deepest : Observer) (ks : List Kind) (F : List Frame) (b : Bases) (M n : ℕ) where
  -- a text comes onto the stack, whatever lies there
  pub text_found : (i : ℕ) (σ : State) (vs : List Cell) (K : List Label) (L : List Cell) (k : Instructions) → nat_lt i (length p.texts) ≡ true →
      Goes (machine p deepest ks F) 1 (at ks vs K L F (text_pushed (layout p deepest ks F b M n) i (ask_row row.Lit k)) (beside_state p deepest ks F σ)) (at ks (Held (value.Text (get_or p.texts i [])) ∷ vs) K L F k (beside_state p deepest ks F σ))
  text_found i σ vs K L k so =
      let mach = machine p deepest ks F in
      let all = texts_of p in
      let s = get_or all i [] in
      let e : s ≡ get_or p.texts i [] = get_or_append_left p.texts (announced_names p) [] i (ltb-true i (length p.texts) so) in
      goes_to
      (row_called p deepest ks F row.Lit (s, tt) (Bits (I32 (place_of all i)) ∷ (Bits (I32 (length s)) ∷ [])) vs σ refl refl refl (ap (λ o. with_some (and_rest o []) (λ z. with_some (row_in mach.memory [] z.1) (λ rest. Some (z.0, rest)))) (text_placed all i)) refl)
      (ap (λ τ. at ks (Held (value.Text s) ∷ vs) K L F k (beside_state p deepest ks F τ)) (same_state σ (value.Text s))
      ∙ ap (λ z. at ks (Held (value.Text z) ∷ vs) K L F k (beside_state p deepest ks F σ)) e)

  pub text_expr : (i : ℕ) → ExprOk p deepest ks F b M n (Text i)
  unfolding emitted all_emitted evaluated all_evaluated sorted all_sorted
  text_expr i v fs env ts st t u w d k K l σ so us rm ar rd =
      let x : Value = value.Text (get_or p.texts i []) in
      there (machine p deepest ks F) M 2 2 _ _ x σ (Done p deepest ks F b M n v (Text i) fs env ts st t u w k K l σ) (Away p deepest ks F b d K)
      (then_goes (text_found i σ [] K (laid b l) (emit (LocalSet (handle_local b t)) k) so)
      (set_ok b l (Hand t) (Held x) (omega (arith, rm)) (ap is_owned (rd.fit.free t (omega arith))))) (omega arith)
      (put_done p deepest ks F b M n (Text i) v fs env ts st t u w k K l l σ σ x _ rd.below (same_self ts t w l) (λ j q. refl) rd.kept refl tt (put_value p deepest ks F b M t u w k K l x σ rd.fit))

  -- Unboxed names.

  -- what an unboxed name has comes to a temporary, as it is there: its number, and the text beside it, if there is one
  pub record NameRead (most : ℕ) (code : Instructions) (x : Value) (t u w : ℕ) (k : Instructions) (K : List Label) (l : Locals) (σ : State) : Type 0 where
    pub next : Locals
    pub steps : ℕ
    pub few : steps ≤ most
    pub goes : Goes (machine p deepest ks F) steps (at ks [] K (laid b l) F code (beside_state p deepest ks F σ)) (at ks [] K (laid b next) F k (beside_state p deepest ks F σ))
    pub fit : Fit p deepest ks F (suc t) u w next σ
    pub same : Same [] t w l next
    pub word : next.number t ≡ Bits (I64 (bare x))
    pub hand : next.hand t ≡ beside x

  put_read : (most : ℕ) (code : Instructions) (x : Value) (t u w : ℕ) (k : Instructions) (K : List Label) (l : Locals) (σ : State) → (r : NameRead most code x t u w k K l σ) → Put p deepest ks F b t u w NumberOrText k K l x σ (at ks [] K (laid b r.next) F k (beside_state p deepest ks F σ))
  put_read most code x t u w k K l σ r = record { next = r.next; comes = refl; fit = r.fit; same = r.same; holds = (bare x, r.word, subst (λ d. BareIs x (bare x) d) (sym r.hand) (bare_is x)) }

  pub global_read : (i t u w : ℕ) (k : Instructions) (K : List Label) (l : Locals) (σ : State) → has_kind (kinds_of p.globals) i Unboxed ≡ true → t < b.temporaries → Fit p deepest ks F t u w l σ → NameRead 9 (unboxed_read (layout p deepest ks F b M n) i t k) (global_value i σ) t u w k K l σ
  global_read i t u w k K l σ hk lt ft =
      let kinds = kinds_of p.globals in
      let li = kind_below kinds i Unboxed hk in
      let kh = kind_found kinds i Unboxed hk in
      let g = cells_of kinds 0 σ in
      let x = global_value i σ in
      let e0 = ft.free t (omega arith) in
      let l1 = with_at l (NumberAt t) (Bits (I64 (bare x))) in
      let copy = copied (GlobalGet (global_of p.ranges (length kinds) (NameHand i))) (GlobalSet (global_of p.ranges (length kinds) (NameHand i))) (handle_local b t) NoMore in
      let start = then_goes (global_copied p.ranges (length kinds) g (NameNumber i) (Bits (I64 (bare x))) li (ap (λ c. Bits (I64 (name_word c x))) kh) refl) (then_goes (tee_ok b l (NumberAt t) (Bits (I64 (bare x))) lt (ft.numbers t)) (by_steps 1 refl)) in
      let f1 = fit_number p deepest ks F t (suc t) u w l σ (Bits (I64 (bare x))) refl (fit_more p deepest ks F t u w l σ ft) in
      let hand : name_hand (kind_here kinds i) (suc (suc (arrays_before kinds i))) x ≡ beside x = ap (λ c. name_hand c (suc (suc (arrays_before kinds i))) x) kh in
      let none : nat_eq (bare x) text_beside ≡ false → beside x ≡ empty → NameRead 9 (unboxed_read (layout p deepest ks F b M n) i t k) x t u w k K l σ = λ ne eh. record {
        next = l1;
        steps = 5;
        few = omega arith;
        goes = then_goes (goes_to start (ap (λ q. at ks (Bits (flag q) ∷ []) K (laid b l1) F (when copy k) (beside_state p deepest ks F σ)) ne)) (then_goes (chooses copy NoMore 0) closes);
        fit = f1;
        same = same_number [] t w t l (Bits (I64 (bare x))) (omega arith);
        word = upd_same l.number t (Bits (I64 (bare x)));
        hand = e0 ∙ sym eh;
      } in
      elim (bare_is x) [
        | IsBeside eb eh ↦ record {
          next = with_at l1 (Hand t) (Held x);
          steps = 9;
          few = omega arith;
          goes = then_goes (goes_to start (ap (λ m. at ks (Bits (flag (nat_eq m text_beside)) ∷ []) K (laid b l1) F (when copy k) (beside_state p deepest ks F σ)) eb)) (then_goes (chooses copy NoMore 1) (then_goes (copied_global p deepest ks F b l1 (NameHand i) t x σ li lt (hand ∙ eh) (ap is_owned e0)) closes));
          fit = fit_hand p deepest ks F t (suc t) u w l1 σ (Held x) (inr (x, refl)) (omega arith) f1;
          same = same_then [] t t w w l l1 (with_at l1 (Hand t) (Held x)) (omega arith) (omega arith) (same_number [] t w t l (Bits (I64 (bare x))) (omega arith)) (same_hand [] t w t l1 (Held x) (omega arith));
          word = upd_same l.number t (Bits (I64 (bare x)));
          hand = upd_same l.hand t (Held x) ∙ sym eh;
        }
        | IsNone q eb eh ↦ none (ap (λ m. nat_eq m text_beside) eb) eh
        | IsNumber m q eb eh ↦ none (ap (λ z. nat_eq z text_beside) eb ∙ word_not_beside m) eh
      ]

  -- an unboxed parameter, by what lends at its place; the number, or what the global has
  module _ (i t u w : ℕ) (k : Instructions) (K : List Label) (l : Locals) (σ : State) (li : i < b.parameters) (lt : t < b.temporaries) (ft : Fit p deepest ks F t u w l σ) where
    read_by : (o : Option ℕ) (x : Value) → ((g : ℕ) → o ≡ Some g → has_kind (kinds_of p.globals) g Unboxed ≡ true) → BareParameter o σ.globals x (l.param i) →
        NameRead 18 (parameter_read (layout p deepest ks F b M n) o i t k) x t u w k K l σ
    read_by None x un q =
        let c = Bits (I64 q.0) in
        record {
          next = with_at l (NumberAt t) c;
          steps = 2;
          few = omega arith;
          goes = then_goes (get_copied b l (Param i) c li q.1 refl) (set_ok b l (NumberAt t) c lt (ft.numbers t));
          fit = fit_number p deepest ks F t (suc t) u w l σ c refl (fit_more p deepest ks F t u w l σ ft);
          same = same_number [] t w t l c (omega arith);
          word = upd_same l.number t c ∙ ap (λ m. Bits (I64 m)) q.2.0;
          hand = ft.free t (omega arith) ∙ sym q.2.1;
        }
    read_by (Some g) x un q =
        let lay = layout p deepest ks F b M n in
        let m = q.0 in
        let c = Bits (I64 m) in
        let l1 = with_at l (NumberAt t) c in
        let block = unboxed_read lay g t NoMore in
        let S = beside_state p deepest ks F σ in
        let f0 = fit_number p deepest ks F t t u w l σ c refl ft in
        let start = then_goes (get_copied b l (Param i) c li q.1 refl) (then_goes (tee_ok b l (NumberAt t) c lt (ft.numbers t)) (by_steps 1 refl)) in
        let shown : (f : Bool) → nat_eq m least ≡ f → Goes (machine p deepest ks F) 3 (at ks [] K (laid b l) F (parameter_read lay (Some g) i t k) S) (at ks (Bits (flag f) ∷ []) K (laid b l1) F (when block k) S) =
        λ f e. goes_to start (ap (λ z. at ks (Bits (flag z) ∷ []) K (laid b l1) F (when block k) S) e) in
        elim q.2 [
          | inl y ↦ record {
            next = l1;
            steps = 3 + (1 + 1);
            few = omega arith;
            goes = then_goes (shown false (ap (λ z. nat_eq z least) y.2 ∙ word_not_least y.0)) (then_goes (chooses block NoMore 0) closes);
            fit = fit_more p deepest ks F t u w l1 σ f0;
            same = same_number [] t w t l c (omega arith);
            word = upd_same l.number t c ∙ ap (λ z. Bits (I64 z)) (y.2 ∙ sym (ap bare y.1 ∙ bare_number y.0));
            hand = ft.free t (omega arith) ∙ sym (ap beside y.1 ∙ beside_number y.0);
          }
          | inr y ↦
              let r = global_read g t u w NoMore (label [] None k ∷ K) l1 σ (un g refl) lt f0 in
              let few = r.few in
              record {
                next = r.next;
                steps = 3 + (1 + (r.steps + 1));
                few = omega (arith, few);
                goes = then_goes (shown true (ap (λ z. nat_eq z least) y.0)) (then_goes (chooses block NoMore 1) (then_goes r.goes closes));
                fit = r.fit;
                same = same_then [] t t w w l l1 r.next (omega arith) (omega arith) (same_number [] t w t l c (omega arith)) r.same;
                word = r.word ∙ ap (λ z. Bits (I64 (bare z))) (sym y.1);
                hand = r.hand ∙ ap beside (sym y.1);
              }
        ]

  pub bare_read : (i t u w : ℕ) (k : Instructions) (K : List Label) (l : Locals) (σ : State) → has_kind ks i Unboxed ≡ true → length ks ≡ b.parameters → t < b.temporaries → Fit p deepest ks F t u w l σ →
      NameRead 18 (slot_read (layout p deepest ks F b M n) (Parameter true i) t k) (local_value i σ) t u w k K l σ
  bare_read i t u w k K l σ hk pk lt ft =
      let li = kind_below ks i Unboxed hk in
      read_by i t u w k K l σ (omega (arith, li, pk)) lt ft (lender_at p.lenders i) (local_value i σ) (λ g e. lender_unboxed (kinds_of p.globals) p.lenders i g ft.sound.lend e) (ft.params i Unboxed hk)

  pub get_bare_parameter : (i : ℕ) → ExprOk p deepest ks F b M n (Get (Parameter true i))
  unfolding emitted all_emitted evaluated all_evaluated sorted all_sorted
  get_bare_parameter i v fs env ts st t u w d k K l σ so us rm ar rd =
      let x = local_value i σ in
      let r = bare_read i t u w k K l σ so rd.parameters (omega (arith, rm)) rd.fit in
      there (machine p deepest ks F) M 18 r.steps _ _ x σ (Done p deepest ks F b M n v (Get (Parameter true i)) fs env ts st t u w k K l σ) (Away p deepest ks F b d K) r.goes (let q = r.few in omega (arith, q))
      (put_done p deepest ks F b M n (Get (Parameter true i)) v fs env ts st t u w k K l l σ σ x _ rd.below (same_self ts t w l) (λ j z. refl) rd.kept refl tt (put_read _ _ x t u w k K l σ r))

  pub get_bare_global : (i : ℕ) → ExprOk p deepest ks F b M n (Get (Global true i))
  unfolding emitted all_emitted evaluated all_evaluated sorted all_sorted
  get_bare_global i v fs env ts st t u w d k K l σ so us rm ar rd =
      let x = global_value i σ in
      let r = global_read i t u w k K l σ so (omega (arith, rm)) rd.fit in
      there (machine p deepest ks F) M 18 r.steps _ _ x σ (Done p deepest ks F b M n v (Get (Global true i)) fs env ts st t u w k K l σ) (Away p deepest ks F b d K) r.goes (let q = r.few in omega (arith, q))
      (put_done p deepest ks F b M n (Get (Global true i)) v fs env ts st t u w k K l l σ σ x _ rd.below (same_self ts t w l) (λ j q. refl) rd.kept refl tt (put_read _ _ x t u w k K l σ r))
