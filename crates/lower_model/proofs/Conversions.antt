-- Conversions: a temporary gets what an operation wants, from what it has.
use Rattle.std.proofs.Common.{◌≡◌, ℕ, ◌<◌, ◌≤◌, Bool, true, false, List, [], ◌∷◌, Some, None, Option, Result, Ok, Err, refl, sym, ap, ◌∙◌, arith, append-nil}
use Rattle.std.specs.Prelude.{nat_eq, ℤ}
use Rattle.awk_values.specs.declared.fault.Fault.{Fault}
use Rattle.awk_values.specs.declared.value.Value.{Value}
use Rattle.awk_values.specs.declared.value.Value.TheVariants as value
use Rattle.awk_values.specs.Values.{truth_of_value}
use Rattle.sem_primitives.specs.ConstantNumbers.{flag_number}
use Rattle.sem_primitives.specs.Numbers.{Number, number_of, number_by, number_word}
use Rattle.sem_primitives.specs.SharedState.{shared_after, gives}
use Rattle.sem_primitives.specs.ValueMeaning.{number_of_row}
use Rattle.sem_primitives.specs.declared.sorts.Sort.TheVariants as sort
use Rattle.sem_primitives.specs.declared.sorts.Answer.TheVariants as answer
use Rattle.sem_primitives.specs.declared.table.Primitive.TheVariants as row
use Rattle.sem_primitives.proofs.Words.{word_again}
use Rattle.wasm_types.specs.Syntax.{Instructions, Done}
use Rattle.wasm_types.specs.declared.instr.Simple.TheVariants.{LocalSet, I64Const, Binary, Convert}
use Rattle.wasm_types.specs.declared.instr.IBinOp.TheVariants.{Sub}
use Rattle.wasm_types.specs.declared.instr.CvtOp.TheVariants.{I64ExtendI32S}
use Rattle.wasm_types.specs.declared.types.ValType.TheVariants as ty
use Rattle.wasm_store.specs.declared.word.Word.TheVariants.{I32, I64}
use Rattle.wasm_store.specs.Words.{flag}
use Rattle.mid_program.specs.Mid.{Kind, Program}
use Rattle.sem_scripts.specs.Steps.{zero_number}
use Rattle.sem_scripts.specs.ScriptState.{State, Faulted}
use Rattle.lower_model.specs.Cells.{Cell, Bits, Held, is_owned}
use Rattle.lower_model.specs.ImportCalls.{with_some, and_rest, row_in}
use Rattle.lower_model.specs.Machine.{Label, Frame, at, go}
use Rattle.lower_model.specs.Places.{Bases, handle_local, number_local}
use Rattle.lower_model.specs.Small.{emit, ask_row, emit_if, when, least, boxed_number, boxed_perhaps, zeroed, code_number}
use Rattle.lower_model.proofs.Observer.{Observer}
use Rattle.lower_model.proofs.Runs.{Goes, then_goes, goes_to, by_steps}
use Rattle.lower_model.proofs.Locals.{Locals, Hand, Number as NumberAt, with_at, laid, laid_again}
use Rattle.lower_model.proofs.Steps.{set_ok, get_copied}
use Rattle.lower_model.proofs.State.{BareOf, IsBeside, IsNone, IsNumber, word_or_beside, unless_number, word_not_least}
use Rattle.lower_model.proofs.Pieces.{chooses, closes, number_is_ok}
use Rattle.lower_model.proofs.Answers.{machine, beside_state, left_beside, reply, after_reply, row_called, done_by}

-- What a word of an unboxed name may be: of a text beside it, of nothing yet, or of a number.

number_of_by : (z : ℤ) (t : Bool) (e : _ ≡ t) (m : Number) → number_by z t e ≡ Some m → m.number ≡ z
number_of_by z true e m q = ap (λ o. elim o [ Some x ↦ x.number | None ↦ z ]) (sym q)
number_of_by z false e m q = cc

pub bare_is : (v : Value) → BareOf v
bare_is value.Uninit = IsNone refl refl refl
bare_is (value.Text s) = IsBeside refl refl
bare_is (value.StrNum s) = IsBeside refl refl
bare_is (value.Num z) = by (number_of z) refl
  where
    by : (o : Option Number) → number_of z ≡ o → BareOf (value.Num z)
    by (Some m) e = IsNumber m (ap value.Num (sym (number_of_by z _ _ m e))) (ap word_or_beside e) (ap (unless_number (value.Num z)) e)
    by None e = IsBeside (ap word_or_beside e) (ap (unless_number (value.Num z)) e)

-- rows that only answer
pub same_state : {A : Type 0} (σ : State) (a : A) → record σ { shared = shared_after σ.shared (gives σ.shared a) } ≡ σ
same_state σ a = ap (λ o. record σ { shared = record { inner = σ.shared.inner; outside = σ.shared.outside; output = o } }) (append-nil σ.shared.output)

module _ (p : Program) (deepest : Observer) (ks : List Kind) (F : List Frame) where
  pub after_same : {A : Type 0} (L : List Cell) (K : List Label) (c : Instructions) (r : Result A Fault) (τ σ : State) → τ ≡ σ → (cs : List Cell) → at ks cs K L F c (after_reply p deepest ks F r τ) ≡ at ks cs K L F c (after_reply p deepest ks F r σ)
  after_same L K c (Ok x) τ σ e cs = ap (λ s. at ks cs K L F c (beside_state p deepest ks F s)) e
  after_same L K c (Err f) τ σ e cs = ap (λ s. at ks cs K L F c (left_beside p deepest ks F (Faulted f) s)) e

  module _ {L : List Cell} {K : List Label} {c : Instructions} (vs : List Cell) (σ : State) where
    pub ask_num : (m : Number) → Goes (machine p deepest ks F) 1 (at ks (Bits (I64 (number_word m)) ∷ vs) K L F (ask_row row.Num c) (beside_state p deepest ks F σ)) (at ks (Held (value.Num m.number) ∷ vs) K L F c (beside_state p deepest ks F σ))
    ask_num m =
        goes_to (row_called p deepest ks F row.Num (m, tt) (Bits (I64 (number_word m)) ∷ []) vs σ refl refl refl (ap (λ o. with_some (and_rest o []) (λ x. with_some (row_in (machine p deepest ks F).memory [] x.1) (λ rest. Some (x.0, rest)))) (word_again m)) refl)
        (ap (λ τ. at ks (Held (value.Num m.number) ∷ vs) K L F c (beside_state p deepest ks F τ)) (same_state σ (value.Num m.number)))

    pub ask_uninit : Goes (machine p deepest ks F) 1 (at ks vs K L F (ask_row row.Uninit c) (beside_state p deepest ks F σ)) (at ks (Held value.Uninit ∷ vs) K L F c (beside_state p deepest ks F σ))
    ask_uninit =
        goes_to (row_called p deepest ks F row.Uninit tt [] vs σ refl refl refl refl refl)
        (ap (λ τ. at ks (Held value.Uninit ∷ vs) K L F c (beside_state p deepest ks F τ)) (same_state σ value.Uninit))

    pub ask_truth : (v : Value) → Goes (machine p deepest ks F) 1 (at ks (Held v ∷ vs) K L F (ask_row row.Truth c) (beside_state p deepest ks F σ)) (at ks (Bits (I32 (flag_number (truth_of_value v))) ∷ vs) K L F c (beside_state p deepest ks F σ))
    ask_truth v =
        goes_to (row_called p deepest ks F row.Truth (v, tt) (Held v ∷ []) vs σ refl refl refl refl refl)
        (ap (λ τ. at ks (Bits (I32 (flag_number (truth_of_value v))) ∷ vs) K L F c (beside_state p deepest ks F τ)) (same_state σ (truth_of_value v)))

    pub ask_to_num : (v : Value) → Goes (machine p deepest ks F) 1 (at ks (Held v ∷ vs) K L F (ask_row row.ToNum c) (beside_state p deepest ks F σ)) (at ks (reply (answer.Of sort.Number) (number_of_row v) vs) K L F c (after_reply p deepest ks F (number_of_row v) σ))
    ask_to_num v =
        goes_to (row_called p deepest ks F row.ToNum (v, tt) (Held v ∷ []) vs σ refl refl refl refl refl)
        (after_same L K c (number_of_row v) (done_by p deepest ks F row.ToNum (v, tt) σ) σ (same_state σ (number_of_row v)) (reply (answer.Of sort.Number) (number_of_row v) vs))

  module _ (b : Bases) where
    -- a number's value, or the uninitialised one where there is no number yet
    pub data PerhapsIs (m : ℕ) (v : Value) : Type 0 where
      NoNumber : m ≡ least → v ≡ value.Uninit → PerhapsIs m v
      There : (x : Number) → m ≡ number_word x → v ≡ value.Num x.number → PerhapsIs m v

    -- the number of a temporary comes as a value into its local
    pub boxed_number_ok : {K : List Label} {k : Instructions} → (l : Locals) (t : ℕ) (σ : State) (x : Number) → t < b.temporaries → l.number t ≡ Bits (I64 (number_word x)) → is_owned (l.hand t) ≡ false →
        Goes (machine p deepest ks F) 3 (at ks [] K (laid b l) F (boxed_number b t (emit (LocalSet (handle_local b t)) k)) (beside_state p deepest ks F σ)) (at ks [] K (laid b (with_at l (Hand t) (Held (value.Num x.number)))) F k (beside_state p deepest ks F σ))
    boxed_number_ok l t σ x lt e o = then_goes (get_copied b l (NumberAt t) (Bits (I64 (number_word x))) lt e refl) (then_goes (ask_num [] σ x) (set_ok b l (Hand t) (Held (value.Num x.number)) lt o))

    pub record Boxed (t : ℕ) (code : Instructions) (k : Instructions) (K : List Label) (l : Locals) (σ : State) (v : Value) : Type 0 where
      pub steps : ℕ
      pub few : steps ≤ 12
      pub goes : Goes (machine p deepest ks F) steps (at ks [] K (laid b l) F code (beside_state p deepest ks F σ)) (at ks [] K (laid b (with_at l (Hand t) (Held v))) F k (beside_state p deepest ks F σ))

    pub boxed_perhaps_ok : (k : Instructions) (K : List Label) (l : Locals) (t m : ℕ) (σ : State) (v : Value) → t < b.temporaries → l.number t ≡ Bits (I64 m) → is_owned (l.hand t) ≡ false → PerhapsIs m v →
        Boxed t (boxed_perhaps b t (LocalSet (handle_local b t)) k) k K l σ v
    boxed_perhaps_ok k K l t m σ v lt e o (NoNumber q q1) = record {
      steps = 6;
      few = omega arith;
      goes = goes_to
          (then_goes (number_is_ok b l t least least lt (e ∙ ap (λ x. Bits (I64 x)) q))
          (then_goes (chooses (ask_row row.Uninit (emit (LocalSet (handle_local b t)) Done)) (boxed_number b t (emit (LocalSet (handle_local b t)) Done)) 1)
          (then_goes (ask_uninit [] σ) (then_goes (set_ok b l (Hand t) (Held value.Uninit) lt o) closes))))
          (ap (λ w. at ks [] K (laid b (with_at l (Hand t) (Held w))) F k (beside_state p deepest ks F σ)) (sym q1));
    }
    boxed_perhaps_ok k K l t m σ v lt e o (There x q q1) = record {
      steps = 7;
      few = omega arith;
      goes = goes_to
          (then_goes (goes_to (number_is_ok b l t (number_word x) least lt (e ∙ ap (λ x. Bits (I64 x)) q)) (ap (λ f. at ks (Bits (flag f) ∷ []) K (laid b l) F (emit_if (ask_row row.Uninit (emit (LocalSet (handle_local b t)) Done)) (boxed_number b t (emit (LocalSet (handle_local b t)) Done)) k) (beside_state p deepest ks F σ)) (word_not_least x)))
          (then_goes (chooses (ask_row row.Uninit (emit (LocalSet (handle_local b t)) Done)) (boxed_number b t (emit (LocalSet (handle_local b t)) Done)) 0)
          (then_goes (boxed_number_ok l t σ x lt (e ∙ ap (λ x. Bits (I64 x)) q) o) closes)))
          (ap (λ w. at ks [] K (laid b (with_at l (Hand t) (Held w))) F k (beside_state p deepest ks F σ)) (sym q1));
    }

    -- 0 where there is no number yet
    pub data ZeroedIs (m : ℕ) (x : Number) : Type 0 where
      Nought : m ≡ least → x ≡ zero_number → ZeroedIs m x
      Itself : m ≡ number_word x → ZeroedIs m x

    pub record Zeroed (t : ℕ) (k : Instructions) (K : List Label) (l : Locals) (σ : State) (x : Number) : Type 0 where
      pub steps : ℕ
      pub few : steps ≤ 5
      pub goes : Goes (machine p deepest ks F) steps (at ks [] K (laid b l) F (zeroed b t k) (beside_state p deepest ks F σ)) (at ks [] K (laid b (with_at l (NumberAt t) (Bits (I64 (number_word x))))) F k (beside_state p deepest ks F σ))

    pub zeroed_ok : (k : Instructions) (K : List Label) (l : Locals) (t m : ℕ) (σ : State) (x : Number) → t < b.temporaries → l.number t ≡ Bits (I64 m) → ZeroedIs m x → Zeroed t k K l σ x
    zeroed_ok k K l t m σ x lt e (Nought q q1) = record {
      steps = 5;
      few = omega arith;
      goes = goes_to
          (then_goes (number_is_ok b l t least least lt (e ∙ ap (λ y. Bits (I64 y)) q))
          (then_goes (chooses (emit (I64Const 0) (emit (LocalSet (number_local b t)) Done)) Done 1)
          (then_goes (set_ok b l (NumberAt t) (Bits (I64 0)) lt (ap is_owned e)) closes)))
          (ap (λ y. at ks [] K (laid b (with_at l (NumberAt t) (Bits (I64 (number_word y))))) F k (beside_state p deepest ks F σ)) (sym q1));
    }
    zeroed_ok k K l t m σ x lt e (Itself q) =
        let e1 = e ∙ ap (λ y. Bits (I64 y)) q in
        record {
          steps = 4;
          few = omega arith;
          goes = goes_to
              (then_goes (goes_to (number_is_ok b l t (number_word x) least lt e1) (ap (λ f. at ks (Bits (flag f) ∷ []) K (laid b l) F (when (emit (I64Const 0) (emit (LocalSet (number_local b t)) Done)) k) (beside_state p deepest ks F σ)) (word_not_least x)))
              (then_goes (chooses (emit (I64Const 0) (emit (LocalSet (number_local b t)) Done)) Done 0) closes))
              (ap (λ M. at ks [] K M F k (beside_state p deepest ks F σ)) (sym (laid_again b l (NumberAt t) (Bits (I64 (number_word x))) lt e1)));
        }

    -- a code of the input or of `close` as a number
    pub code_number_ok : (k : Instructions) (K : List Label) (l : Locals) (t m r : ℕ) (σ : State) → t < b.temporaries → l.number t ≡ Bits (I64 m) →
        ((vs : List Cell) → go (machine p deepest ks F) 2 (at ks (Bits (flag (nat_eq m 3)) ∷ (Bits (flag (nat_eq m 1)) ∷ [])) K (laid b l) F (emit (Binary ty.I32 Sub) (emit (Convert I64ExtendI32S) (emit (LocalSet (number_local b t)) k))) (beside_state p deepest ks F σ)) ≡ at ks (Bits (I64 r) ∷ []) K (laid b l) F (emit (LocalSet (number_local b t)) k) (beside_state p deepest ks F σ)) →
        Goes (machine p deepest ks F) 7 (at ks [] K (laid b l) F (code_number b t k) (beside_state p deepest ks F σ)) (at ks [] K (laid b (with_at l (NumberAt t) (Bits (I64 r)))) F k (beside_state p deepest ks F σ))
    code_number_ok k K l t m r σ lt e q =
        then_goes (number_is_ok b l t m 1 lt e) (then_goes (number_is_ok b l t m 3 lt e) (then_goes (by_steps 2 (q [])) (set_ok b l (NumberAt t) (Bits (I64 r)) lt (ap is_owned e))))
