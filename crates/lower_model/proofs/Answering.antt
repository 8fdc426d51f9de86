-- The answer of a function, in the temporary that is to have it: a number is one already, and a text that waits is moved there.
use Rattle.std.proofs.Common.{◌≡◌, inr, ℕ, suc, ◌<◌, ◌≤◌, false, List, [], ◌∷◌, ℤ, pos, negsuc, unsigned_abs, w64, length, refl, ap, ap₂, ◌∙◌, arith}
use Rattle.std.specs.Prelude.{◌^◌, ◌-◌, int_le}
use Rattle.std.specs.Int.{cast_signed}
use Rattle.std.proofs.lemmas.Bool.{lt-leb}
use Rattle.std.proofs.lemmas.Int.{to_z-of_z}
use Rattle.awk_values.specs.declared.value.Value.{Value}
use Rattle.sem_primitives.specs.Numbers.{Number, number_word}
use Rattle.sem_primitives.proofs.Words.{fits as word_fits, small}
use Rattle.wasm_types.specs.Syntax.{Instructions, Done}
use Rattle.wasm_types.specs.declared.instr.IRelOp.TheVariants.{LeS}
use Rattle.wasm_types.specs.declared.instr.Simple.TheVariants.{BrIf}
use Rattle.wasm_store.specs.Integers.{compare_at}
use Rattle.wasm_store.specs.declared.word.Word.TheVariants.{I64}
use Rattle.wasm_store.specs.Words.{flag}
use Rattle.mid_program.specs.Mid.{Kind, Program, NumberOrText}
use Rattle.mid_program.specs.Sorted.{kinds_of}
use Rattle.sem_scripts.specs.ScriptState.{State}
use Rattle.lower_model.specs.Cells.{Cell, Bits, Held, is_owned}
use Rattle.lower_model.specs.Machine.{Conf, Code, Label, Frame, at}
use Rattle.lower_model.specs.Places.{Bases, number_local}
use Rattle.lower_model.specs.Small.{emit, when, least, text_beside, was_left, number_is, answer_kept, text_or_left, text_taken}
use Rattle.lower_model.proofs.Observer.{Observer}
use Rattle.lower_model.proofs.Runs.{Goes, goes_to, goes_from, then_goes, by_steps}
use Rattle.lower_model.proofs.Regions.{upd_same}
use Rattle.lower_model.proofs.Globals.{Text, with_global_at}
use Rattle.lower_model.proofs.GlobalSteps.{global_moved}
use Rattle.lower_model.proofs.Locals.{Locals, Hand, Number as NumberAt, with_at, laid}
use Rattle.lower_model.proofs.Steps.{set_ok, tee_ok}
use Rattle.lower_model.proofs.State.{AnswerIs, TextWaits, Nothing, ANumber, IsBeside, IsNone, IsNumber, cells_of, answering}
use Rattle.lower_model.proofs.Relation.{HoldsAt, Fit, fit_hand, fit_number, fit_more}
use Rattle.lower_model.proofs.Pieces.{chooses, closes, number_is_ok}
use Rattle.lower_model.proofs.Answers.{machine, beside_state}
use Rattle.lower_model.proofs.Converting.{Keeps, keeps_then, keeps_hand, keeps_number}

-- the words of numbers are above those that are none
pub word_answered : (x : Number) → compare_at w64 LeS (number_word x) was_left ≡ false
word_answered x = ap (λ z. int_le z (cast_signed w64 was_left)) (to_z-of_z w64 x.number (word_fits x.number (small x))) ∙ by x.number (small x)
  where
    by : (z : ℤ) → unsigned_abs z ≤ 2 ^ 53 → int_le z (cast_signed w64 was_left) ≡ false
    by (pos k) e = refl
    by (negsuc k) e = lt-leb (2 ^ 63 - 3) k (omega (arith, e))

module _ (p : Program) (deepest : Observer) (ks : List Kind) (F : List Frame) (b : Bases) where
  abbrev u : Code
  u = machine p deepest ks F

  -- the answer is in temporary t
  pub record Taken (t i w : ℕ) (k : Instructions) (K : List Label) (l : Locals) (σ : State) (v : Value) (c : Conf) : Type 0 where
    pub next : Locals
    pub steps : ℕ
    pub few : steps ≤ 12
    pub goes : Goes u steps c (at ks [] K (laid b next) F k (beside_state p deepest ks F σ))
    pub fit : Fit p deepest ks F (suc t) i w next σ
    pub holds : HoldsAt NumberOrText t next v
    pub keeps : Keeps t l next

  pub taken_ok : (t i w d m : ℕ) (text : Cell) (k : Instructions) (K : List Label) (l : Locals) (σ : State) (v : Value) → t < b.temporaries → Fit p deepest ks F t i w l σ → AnswerIs v m text →
      Taken t i w k K l σ v (at ks (Bits (I64 m) ∷ []) K (laid b l) F (answer_kept b t d k) (answering p.ranges (kinds_of p.globals) text σ))
  taken_ok t i w d m text k K l σ v lt ft (ANumber x ev em ew) =
      let c = Bits (I64 (number_word x)) in
      let l1 = with_at l (NumberAt t) c in
      let slow = text_or_left b t d Done in
      record {
        next = l1;
        steps = 4;
        few = omega arith;
        goes = goes_from (ap₂ (λ z y. at ks (Bits (I64 z) ∷ []) K (laid b l) F (answer_kept b t d k) (answering p.ranges (kinds_of p.globals) y σ)) em ew)
            (then_goes (tee_ok b l (NumberAt t) c lt (ft.numbers t))
            (then_goes (goes_to (by_steps 1 refl) (ap (λ f. at ks (Bits (flag f) ∷ []) K (laid b l1) F (when slow k) (beside_state p deepest ks F σ)) (word_answered x)))
            (then_goes (chooses slow Done 0) closes)));
        fit = fit_number p deepest ks F t (suc t) i w l σ c refl (fit_more p deepest ks F t i w l σ ft);
        holds = (number_word x, upd_same l.number t c, IsNumber x ev refl (ft.free t (omega arith)));
        keeps = keeps_number t l c;
      }
  taken_ok t i w d m text k K l σ v lt ft (Nothing ev em ew) =
      let c = Bits (I64 least) in
      let l1 = with_at l (NumberAt t) c in
      let e = upd_same l.number t c in
      let left = number_is (number_local b t) was_left (emit (BrIf (suc (suc d))) Done) in
      record {
        next = l1;
        steps = 11;
        few = omega arith;
        goes = goes_from (ap₂ (λ z y. at ks (Bits (I64 z) ∷ []) K (laid b l) F (answer_kept b t d k) (answering p.ranges (kinds_of p.globals) y σ)) em ew)
            (then_goes (then_goes (tee_ok b l (NumberAt t) c lt (ft.numbers t)) (then_goes (by_steps 1 refl) (chooses (text_or_left b t d Done) Done 1)))
            (then_goes (then_goes (number_is_ok b l1 t least text_beside lt e) (chooses (text_taken b t Done) left 0))
            (then_goes (then_goes (number_is_ok b l1 t least was_left lt e) (by_steps 1 refl)) (then_goes closes closes))));
        fit = fit_number p deepest ks F t (suc t) i w l σ c refl (fit_more p deepest ks F t i w l σ ft);
        holds = (least, e, IsNone ev refl (ft.free t (omega arith)));
        keeps = keeps_number t l c;
      }
  taken_ok t i w d m text k K l σ v lt ft (TextWaits em ew) =
      let c = Bits (I64 text_beside) in
      let l1 = with_at l (NumberAt t) c in
      let e = upd_same l.number t c in
      let nn = length (kinds_of p.globals) in
      let g = with_global_at p.ranges nn (cells_of (kinds_of p.globals) 0 σ) Text (Held v) in
      let left = number_is (number_local b t) was_left (emit (BrIf (suc (suc d))) Done) in
      let f1 = fit_number p deepest ks F t (suc t) i w l σ c refl (fit_more p deepest ks F t i w l σ ft) in
      record {
        next = with_at l1 (Hand t) (Held v);
        steps = 10;
        few = omega arith;
        goes = goes_from (ap₂ (λ z y. at ks (Bits (I64 z) ∷ []) K (laid b l) F (answer_kept b t d k) (answering p.ranges (kinds_of p.globals) y σ)) em ew)
            (then_goes (then_goes (tee_ok b l (NumberAt t) c lt (ft.numbers t)) (then_goes (by_steps 1 refl) (chooses (text_or_left b t d Done) Done 1)))
            (then_goes (then_goes (number_is_ok b l1 t text_beside text_beside lt e) (chooses (text_taken b t Done) left 1))
            (then_goes (global_moved p.ranges nn g Text (Held v) tt refl)
            (then_goes (set_ok b l1 (Hand t) (Held v) lt (ap is_owned (ft.free t (omega arith)))) (then_goes closes closes)))));
        fit = fit_hand p deepest ks F t (suc t) i w l1 σ (Held v) (inr (v, refl)) (omega arith) f1;
        holds = (text_beside, e, IsBeside refl (upd_same l.hand t (Held v)));
        keeps = keeps_then t l l1 (with_at l1 (Hand t) (Held v)) (keeps_number t l c) (keeps_hand t l1 (Held v));
      }
