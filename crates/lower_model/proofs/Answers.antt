-- Calls of rows of the table from code, and what becomes of their answers: they come into a temporary, or the function is left.
use Rattle.std.proofs.Common.{◌≡◌, inl, inr, ℕ, suc, ◌-◌, ◌^◌, ◌<◌, Bool, true, false, List, [], ◌∷◌, ◌++◌, length, Option, Some, None, Result, Ok, Err, refl, sym, ap, ap₂, ◌∙◌, subst, arith}
use Rattle.std.specs.Prelude.{reverse}
use Rattle.awk_values.specs.declared.fault.Fault.{Fault}
use Rattle.awk_values.specs.declared.value.Value.{Value}
use Rattle.sem_primitives.specs.ConstantNumbers.{flag_number}
use Rattle.sem_primitives.specs.InTurn.{in_turn}
use Rattle.sem_primitives.specs.Numbers.{number_word}
use Rattle.sem_primitives.specs.SharedState.{shared_after}
use Rattle.sem_primitives.specs.Sorts.{Row, InAnswer, OrFault}
use Rattle.sem_primitives.specs.Table.{arguments_of, answer_of, can_fault, meaning}
use Rattle.sem_primitives.specs.declared.sorts.Answer.{Answer}
use Rattle.sem_primitives.specs.declared.sorts.Answer.TheVariants as answer
use Rattle.sem_primitives.specs.declared.sorts.Sort.TheVariants as sort
use Rattle.sem_primitives.specs.declared.answers.InputAnswer.{InputAnswer}
use Rattle.sem_primitives.specs.declared.answers.InputAnswer.TheVariants as input
use Rattle.sem_primitives.specs.declared.answers.StreamAnswer.{StreamAnswer}
use Rattle.sem_primitives.specs.declared.answers.StreamAnswer.TheVariants as stream
use Rattle.sem_primitives.specs.declared.table.Primitive.{Primitive}
use Rattle.sem_primitives.specs.declared.table.Primitive.TheVariants as row
use Rattle.wasm_types.specs.Syntax.{Instructions}
use Rattle.wasm_store.specs.declared.word.Word.TheVariants.{I32, I64}
use Rattle.mid_program.specs.Mid.{Kind, Program, Form, PrimitiveAnswer}
use Rattle.mid_program.specs.MidMeaning.{Holds}
use Rattle.sem_scripts.specs.ScriptState.{State, Stop, Faulted, Outcome, settled, or_fault}
use Rattle.mid_program.specs.Sorted.{kinds_of}
use Rattle.lower_model.specs.Cells.{Cell, Bits, Held, is_owned}
use Rattle.host_imports.specs.Codes.{input_code, stream_code}
use Rattle.lower_model.specs.ImportCalls.{Acts, with_some, where_so, row_in, taken, acted, replied, primitive_acts, cell_of, fault_cell}
use Rattle.lower_model.specs.ImportCalls
use Rattle.lower_model.specs.Machine.{Code, Conf, Label, Frame, Store, at, br, all_live, assigning_after, onto, width}
use Rattle.lower_model.specs.Places.{Bases}
use Rattle.lower_model.specs.Runs.{noting_code}
use Rattle.lower_model.specs.Small.{ask_row, kept, least}
use Rattle.host_imports.specs.declared.import.Import.TheVariants.{OfPrimitive}
use Rattle.lower_model.proofs.Observer.{Observer}
use Rattle.lower_model.proofs.Runs.{Goes, goes_to, Arrives, there, faulted}
use Rattle.lower_model.proofs.Locals.{Locals, Hand, Number as NumberAt, with_at, laid}
use Rattle.lower_model.proofs.Regions.{upd_same}
use Rattle.lower_model.proofs.Steps.{empty, set_ok}
use Rattle.lower_model.proofs.Calls.{called}
use Rattle.lower_model.proofs.GlobalSteps.{while_assigning}
use Rattle.lower_model.proofs.State.{store, gone, word_not_least, faulted_left}
use Rattle.lower_model.proofs.Relation.{HoldsBy, HoldsAt, Same, same_hand, same_number, same_self, Fit, fit_loose, fit_hand, fit_number, fit_more, Away}
use Rattle.lower_model.proofs.Pieces.{code_kept, code_failed, code_stored, value_kept, value_failed, number_kept, number_failed, done_kept, done_failed, done_dropped}

-- rows that take their arguments, where the others only look at them; and by which no assignment begins
abbrev pub takes_row : Primitive → Bool
takes_row row.Dup = false
takes_row row.IterNext = false
takes_row row.PendingName = false
takes_row _ = true

row_taken : (q : Primitive) (memory : List ℕ) (words : List Cell) → takes_row q ≡ true → taken memory (OfPrimitive q) words ≡ row_in memory (arguments_of q) words
row_taken row.Dup memory words e = cc
row_taken row.IterNext memory words e = cc
row_taken _ memory words e = refl

begins_none : (q : Primitive) (G : Store) → takes_row q ≡ true → assigning_after (OfPrimitive q) G ≡ G.assigning
begins_none row.PendingName G e = cc
begins_none _ G e = refl

-- answers that code keeps
abbrev pub IsPlain : Answer → Type 0
IsPlain (answer.Of sort.Value) = Unit {0}
IsPlain (answer.Of sort.Number) = Unit {0}
IsPlain answer.Truth = Unit {0}
IsPlain answer.Input = Unit {0}
IsPlain answer.Stream = Unit {0}
IsPlain answer.Done = Unit {0}
IsPlain _ = ⊥

abbrev pub reply : (a : Answer) → Result (InAnswer a) Fault → List Cell → List Cell
reply a (Ok x) vs = onto (cell_of a x) vs
reply a (Err f) vs = onto (fault_cell a) vs

module _ (p : Program) (deepest : Observer) (ks : List Kind) (F : List Frame) where
  abbrev pub machine : Code
  machine = noting_code deepest.notes p deepest.callers

  abbrev pub beside_state : State → Store
  beside_state σ = store p.ranges (kinds_of p.globals) σ

  abbrev pub left_beside : Stop → State → Store
  left_beside why σ = gone p.ranges (kinds_of p.globals) why σ

  abbrev pub after_reply : {A : Type 0} → Result A Fault → State → Store
  after_reply (Ok x) σ = beside_state σ
  after_reply (Err f) σ = left_beside (Faulted f) σ

  -- what a row does to a state
  abbrev pub done_by : (q : Primitive) → Row (arguments_of q) → State → State
  done_by q r σ = record σ { shared = shared_after σ.shared (meaning q r σ.shared) }

  abbrev pub answered_by : (q : Primitive) → Row (arguments_of q) → State → Result (InAnswer (answer_of q)) Fault
  answered_by q r σ = or_fault (can_fault q) (meaning q r σ.shared).answer

  same_fault : {A : Type 0} (f : Bool) (x : OrFault f A) → ImportCalls.or_fault f x ≡ or_fault f x
  same_fault true x = refl
  same_fault false x = refl

  reply_is : (L : List Cell) (K : List Label) (c : Instructions) (a : Answer) (r : Result (InAnswer a) Fault) (vs : List Cell) (name : Option ℕ) (σ σ1 : State) (d : Acts (InAnswer a)) → d.arguments ≡ [] → shared_after σ.shared d.does ≡ σ1.shared → σ1 ≡ record σ { shared = σ1.shared } →
      at ks (onto (replied a (beside_state σ).host d r).0 vs) K L F c (record (beside_state σ) { host = (replied a (beside_state σ).host d r).1; assigning = name }) ≡ at ks (reply a r vs) K L F c (while_assigning name (after_reply r σ1))
  reply_is L K c a (Ok x) vs name σ σ1 d e1 e2 e3 =
      ap₂ (λ s m. at ks (onto (cell_of a x) vs) K L F c (record (beside_state σ) { host = record { shared = s; arguments = m; fault = None }; assigning = name })) e2 e1 ∙ ap (λ τ. at ks (onto (cell_of a x) vs) K L F c (while_assigning name (beside_state τ))) (sym e3)
  reply_is L K c a (Err f) vs name σ σ1 d e1 e2 e3 =
      ap₂ (λ s m. at ks (onto (fault_cell a) vs) K L F c (record (beside_state σ) { host = record { shared = s; arguments = m; fault = Some f }; assigning = name })) e2 e1 ∙ ap (λ τ. at ks (onto (fault_cell a) vs) K L F c (while_assigning name (left_beside (Faulted f) τ))) (sym e3)

  -- a row that is asked with its arguments on the stack, while code makes an assignment too
  pub row_asked : {L : List Cell} {K : List Label} {c : Instructions} → (q : Primitive) (r : Row (arguments_of q)) (words vs : List Cell) (name : Option ℕ) (σ : State) →
      taken machine.memory (OfPrimitive q) words ≡ Some r → length words ≡ width (OfPrimitive q) → all_live L F (beside_state σ).globals words ≡ true → in_turn q r σ.shared ≡ true →
      Goes machine 1 (at ks (reverse words ++ vs) K L F (ask_row q c) (while_assigning name (beside_state σ)))
      (at ks (reply (answer_of q) (answered_by q r σ) vs) K L F c (while_assigning (assigning_after (OfPrimitive q) (while_assigning name (beside_state σ))) (after_reply (answered_by q r σ) (done_by q r σ))))
  row_asked {L = L} {K = K} {c = c} q r words vs name σ tk wd live turn =
      let G = while_assigning name (beside_state σ) in
      let o = (beside_state σ).host in
      let d = primitive_acts {A = InAnswer (answer_of q)} [] (can_fault q) (meaning q r σ.shared) in
      let x = replied (answer_of q) o d d.does.answer in
      goes_to
      (called (OfPrimitive q) words vs G x.0 x.1 wd live
      (ap (acted (OfPrimitive q) o) tk
      ∙ ap (λ t. with_some (where_so t (Some d)) (λ a. Some (replied (answer_of q) o a a.does.answer))) turn))
      (ap (λ z. at ks (onto (replied (answer_of q) o d z).0 vs) K L F c (record (beside_state σ) { host = (replied (answer_of q) o d z).1; assigning = assigning_after (OfPrimitive q) G })) (same_fault (can_fault q) (meaning q r σ.shared).answer)
      ∙ reply_is L K c (answer_of q) (answered_by q r σ) vs (assigning_after (OfPrimitive q) G) σ (done_by q r σ) d refl refl refl)

  reply_plain : {A : Type 0} → (r : Result A Fault) (σ : State) → while_assigning None (after_reply r σ) ≡ after_reply r σ
  reply_plain (Ok x) σ = refl
  reply_plain (Err f) σ = refl

  -- the same between two parts of code
  pub row_called : {L : List Cell} {K : List Label} {c : Instructions} → (q : Primitive) (r : Row (arguments_of q)) (words vs : List Cell) (σ : State) →
      takes_row q ≡ true → length words ≡ width (OfPrimitive q) → all_live L F (beside_state σ).globals words ≡ true → row_in machine.memory (arguments_of q) words ≡ Some r → in_turn q r σ.shared ≡ true →
      Goes machine 1 (at ks (reverse words ++ vs) K L F (ask_row q c) (beside_state σ)) (at ks (reply (answer_of q) (answered_by q r σ) vs) K L F c (after_reply (answered_by q r σ) (done_by q r σ)))
  row_called {L = L} {K = K} {c = c} q r words vs σ tk wd live e turn =
      let z = after_reply (answered_by q r σ) (done_by q r σ) in
      goes_to (row_asked q r words vs None σ (row_taken q machine.memory words tk ∙ e) wd live turn)
      (ap (λ m. at ks (reply (answer_of q) (answered_by q r σ) vs) K L F c (while_assigning m z)) (begins_none q (beside_state σ) tk)
      ∙ ap (λ G. at ks (reply (answer_of q) (answered_by q r σ) vs) K L F c G) (reply_plain (answered_by q r σ) (done_by q r σ)))

  -- what stands in temporary t, with all below it as it was
  pub record Put (b : Bases) (t u w : ℕ) (f : Form) (k : Instructions) (K : List Label) (l : Locals) (x : Holds f) (σ : State) (c : Conf) : Type 0 where
    pub next : Locals
    pub comes : c ≡ at ks [] K (laid b next) F k (beside_state σ)
    pub fit : Fit p deepest ks F (suc t) u w next σ
    pub same : Same [] t w l next
    pub holds : HoldsAt f t next x

  module _ (b : Bases) (M : ℕ) where
    abbrev pub Reached : {A : Type 0} → ℕ → ℕ → Conf → (A → State → Conf → Type 0) → (Stop → State → Conf → Type 0) → Outcome A → Type 0
    Reached w l c P Q r = Arrives machine M w l c P Q r

    pub put_value : (t u w : ℕ) (k : Instructions) (K : List Label) (l : Locals) (v : Value) (σ : State) → Fit p deepest ks F t u w l σ →
        Put b t u w (PrimitiveAnswer (answer.Of sort.Value)) k K l v σ (at ks [] K (laid b (with_at l (Hand t) (Held v))) F k (beside_state σ))
    put_value t u w k K l v σ f = record {
      next = with_at l (Hand t) (Held v);
      comes = refl;
      fit = fit_hand p deepest ks F t (suc t) u w l σ (Held v) (inr (v, refl)) (omega arith) (fit_more p deepest ks F t u w l σ f);
      same = same_hand [] t w t l (Held v) (omega arith);
      holds = (upd_same l.hand t (Held v), tt);
    }

    pub put_word : (t u w m : ℕ) (f : Form) (k : Instructions) (K : List Label) (l : Locals) (x : Holds f) (σ : State) → HoldsBy f x empty (Bits (I64 m)) → Fit p deepest ks F t u w l σ →
        Put b t u w f k K l x σ (at ks [] K (laid b (with_at l (NumberAt t) (Bits (I64 m)))) F k (beside_state σ))
    put_word t u w m f k K l x σ g ft = record {
      next = with_at l (NumberAt t) (Bits (I64 m));
      comes = refl;
      fit = fit_number p deepest ks F t (suc t) u w l σ (Bits (I64 m)) refl (fit_more p deepest ks F t u w l σ ft);
      same = same_number [] t w t l (Bits (I64 m)) (omega arith);
      holds = subst (λ (h : Cell). HoldsBy f x h ((with_at l (NumberAt t) (Bits (I64 m))).number t)) (sym (ft.free t (omega arith))) (subst (λ (d : Cell). HoldsBy f x empty d) (sym (upd_same l.number t (Bits (I64 m)))) g);
    }

    -- a function is left with what it holds
    pub away_with : (t u w d m : ℕ) (K : List Label) (l : Locals) (σ : State) (f : Fault) → Fit p deepest ks F t u w l σ →
        Away p deepest ks F b d K (Faulted f) σ (br d ks K (laid b (with_at l (NumberAt t) (Bits (I64 m)))) F (left_beside (Faulted f) σ))
    away_with t u w d m K l σ f ft = record {
      next = with_at l (NumberAt t) (Bits (I64 m));
      store = left_beside (Faulted f) σ;
      left = faulted_left p.ranges (kinds_of p.globals) 0 f σ;
      comes = refl;
      loose = fit_loose p deepest ks F t u w (with_at l (NumberAt t) (Bits (I64 m))) σ (fit_number p deepest ks F t t u w l σ (Bits (I64 m)) refl ft);
      answer = ft.answer;
      after = tt;
    }

    pub away_plain : (t u w d : ℕ) (K : List Label) (l : Locals) (σ : State) (f : Fault) → Fit p deepest ks F t u w l σ →
        Away p deepest ks F b d K (Faulted f) σ (br d ks K (laid b l) F (left_beside (Faulted f) σ))
    away_plain t u w d K l σ f ft = record {
      next = l;
      store = left_beside (Faulted f) σ;
      left = faulted_left p.ranges (kinds_of p.globals) 0 f σ;
      comes = refl;
      loose = fit_loose p deepest ks F t u w l σ ft;
      answer = ft.answer;
      after = tt;
    }

    pub hand_free : (t u w : ℕ) (l : Locals) (σ : State) → Fit p deepest ks F t u w l σ → is_owned (l.hand t) ≡ false
    hand_free t u w l σ f = ap is_owned (f.free t (omega arith))

    -- an answer comes into a temporary, or is a fault's
    pub kept_ok : (f : Bool) (a : Answer) (r : OrFault f (InAnswer a)) (t u w d : ℕ) (k : Instructions) (K : List Label) (l : Locals) (σ : State) → IsPlain a → t < b.temporaries → Fit p deepest ks F t u w l σ →
        Reached 4 σ.turns (at ks (reply a (or_fault f r) []) K (laid b l) F (kept b f a t d k) (after_reply (or_fault f r) σ)) (Put b t u w (PrimitiveAnswer a) k K l) (Away p deepest ks F b d K) (settled (or_fault f r) σ)
    kept_ok true (answer.Of sort.Value) (Ok v) t u w d k K l σ pl lt ft =
        there machine M 4 3 _ _ v σ (Put b t u w (PrimitiveAnswer (answer.Of sort.Value)) k K l) (Away p deepest ks F b d K) (value_kept b l t d v lt (hand_free t u w l σ ft)) (omega arith) (put_value t u w k K l v σ ft)
    kept_ok true (answer.Of sort.Value) (Err f) t u w d k K l σ pl lt ft =
        faulted machine M 4 3 _ _ f σ (Put b t u w (PrimitiveAnswer (answer.Of sort.Value)) k K l) (Away p deepest ks F b d K) (value_failed b l t d lt (hand_free t u w l σ ft)) (omega arith)
        (record {
          next = with_at l (Hand t) empty;
          store = left_beside (Faulted f) σ;
          left = faulted_left p.ranges (kinds_of p.globals) 0 f σ;
          comes = refl;
          loose = fit_loose p deepest ks F (suc t) u w (with_at l (Hand t) empty) σ (fit_hand p deepest ks F t (suc t) u w l σ empty (inl refl) (omega arith) (fit_more p deepest ks F t u w l σ ft));
          answer = ft.answer;
          after = tt;
        })
    kept_ok true (answer.Of sort.Number) (Ok v) t u w d k K l σ pl lt ft =
        there machine M 4 3 _ _ v σ (Put b t u w (PrimitiveAnswer (answer.Of sort.Number)) k K l) (Away p deepest ks F b d K) (number_kept b l t d (number_word v) lt (ft.numbers t) (word_not_least v)) (omega arith)
        (put_word t u w (number_word v) (PrimitiveAnswer (answer.Of sort.Number)) k K l v σ (refl, refl) ft)
    kept_ok true (answer.Of sort.Number) (Err f) t u w d k K l σ pl lt ft =
        faulted machine M 4 3 _ _ f σ (Put b t u w (PrimitiveAnswer (answer.Of sort.Number)) k K l) (Away p deepest ks F b d K) (number_failed b l t d lt (ft.numbers t)) (omega arith) (away_with t u w d least K l σ f ft)
    kept_ok true answer.Truth (Ok v) t u w d k K l σ pl lt ft =
        there machine M 4 4 _ _ v σ (Put b t u w (PrimitiveAnswer answer.Truth) k K l) (Away p deepest ks F b d K) (truth_kept v) (omega arith) (put_word t u w (flag_number v) (PrimitiveAnswer answer.Truth) k K l v σ (refl, refl) ft)
      where
        truth_kept : (v : Bool) → Goes machine 4 (at ks (Bits (I32 (flag_number v)) ∷ []) K (laid b l) F (kept b true answer.Truth t d k) (beside_state σ)) (at ks [] K (laid b (with_at l (NumberAt t) (Bits (I64 (flag_number v))))) F k (beside_state σ))
        truth_kept true = code_kept b l t d 1 lt (ft.numbers t) refl refl
        truth_kept false = code_kept b l t d 0 lt (ft.numbers t) refl refl
    kept_ok true answer.Truth (Err f) t u w d k K l σ pl lt ft =
        faulted machine M 4 4 _ _ f σ (Put b t u w (PrimitiveAnswer answer.Truth) k K l) (Away p deepest ks F b d K) (code_failed b l t d lt (ft.numbers t)) (omega arith) (away_with t u w d (2 ^ 64 - 1) K l σ f ft)
    kept_ok true answer.Input (Ok v) t u w d k K l σ pl lt ft =
        there machine M 4 4 _ _ v σ (Put b t u w (PrimitiveAnswer answer.Input) k K l) (Away p deepest ks F b d K) (input_kept v) (omega arith) (put_word t u w (input_code v) (PrimitiveAnswer answer.Input) k K l v σ (refl, refl) ft)
      where
        input_kept : (v : InputAnswer) → Goes machine 4 (at ks (Bits (I32 (input_code v)) ∷ []) K (laid b l) F (kept b true answer.Input t d k) (beside_state σ)) (at ks [] K (laid b (with_at l (NumberAt t) (Bits (I64 (input_code v))))) F k (beside_state σ))
        input_kept input.End = code_kept b l t d 0 lt (ft.numbers t) refl refl
        input_kept input.Read = code_kept b l t d 1 lt (ft.numbers t) refl refl
        input_kept input.Pending = code_kept b l t d 2 lt (ft.numbers t) refl refl
        input_kept input.Failed = code_kept b l t d 3 lt (ft.numbers t) refl refl
    kept_ok true answer.Input (Err f) t u w d k K l σ pl lt ft =
        faulted machine M 4 4 _ _ f σ (Put b t u w (PrimitiveAnswer answer.Input) k K l) (Away p deepest ks F b d K) (code_failed b l t d lt (ft.numbers t)) (omega arith) (away_with t u w d (2 ^ 64 - 1) K l σ f ft)
    kept_ok true answer.Stream (Ok v) t u w d k K l σ pl lt ft =
        there machine M 4 4 _ _ v σ (Put b t u w (PrimitiveAnswer answer.Stream) k K l) (Away p deepest ks F b d K) (stream_kept v) (omega arith) (put_word t u w (stream_code v) (PrimitiveAnswer answer.Stream) k K l v σ (refl, refl) ft)
      where
        stream_kept : (v : StreamAnswer) → Goes machine 4 (at ks (Bits (I32 (stream_code v)) ∷ []) K (laid b l) F (kept b true answer.Stream t d k) (beside_state σ)) (at ks [] K (laid b (with_at l (NumberAt t) (Bits (I64 (stream_code v))))) F k (beside_state σ))
        stream_kept stream.Done = code_kept b l t d 0 lt (ft.numbers t) refl refl
        stream_kept stream.NotOpen = code_kept b l t d 3 lt (ft.numbers t) refl refl
    kept_ok true answer.Stream (Err f) t u w d k K l σ pl lt ft =
        faulted machine M 4 4 _ _ f σ (Put b t u w (PrimitiveAnswer answer.Stream) k K l) (Away p deepest ks F b d K) (code_failed b l t d lt (ft.numbers t)) (omega arith) (away_with t u w d (2 ^ 64 - 1) K l σ f ft)
    kept_ok true answer.Done (Ok v) t u w d k K l σ pl lt ft =
        there machine M 4 2 _ _ v σ (Put b t u w (PrimitiveAnswer answer.Done) k K l) (Away p deepest ks F b d K) (done_kept b d) (omega arith)
        (record { next = l; comes = refl; fit = fit_more p deepest ks F t u w l σ ft; same = same_self [] t w l; holds = (ft.free t (omega arith), tt) })
    kept_ok true answer.Done (Err f) t u w d k K l σ pl lt ft =
        faulted machine M 4 2 _ _ f σ (Put b t u w (PrimitiveAnswer answer.Done) k K l) (Away p deepest ks F b d K) (done_failed b d) (omega arith) (away_plain t u w d K l σ f ft)
    kept_ok false (answer.Of sort.Value) v t u w d k K l σ pl lt ft =
        there machine M 4 1 _ _ v σ (Put b t u w (PrimitiveAnswer (answer.Of sort.Value)) k K l) (Away p deepest ks F b d K) (set_ok b l (Hand t) (Held v) lt (hand_free t u w l σ ft)) (omega arith) (put_value t u w k K l v σ ft)
    kept_ok false (answer.Of sort.Number) v t u w d k K l σ pl lt ft =
        there machine M 4 1 _ _ v σ (Put b t u w (PrimitiveAnswer (answer.Of sort.Number)) k K l) (Away p deepest ks F b d K) (set_ok b l (NumberAt t) (Bits (I64 (number_word v))) lt (ft.numbers t)) (omega arith)
        (put_word t u w (number_word v) (PrimitiveAnswer (answer.Of sort.Number)) k K l v σ (refl, refl) ft)
    kept_ok false answer.Truth v t u w d k K l σ pl lt ft =
        there machine M 4 2 _ _ v σ (Put b t u w (PrimitiveAnswer answer.Truth) k K l) (Away p deepest ks F b d K) (code_stored b l t d (flag_number v) lt (ft.numbers t)) (omega arith) (put_word t u w (flag_number v) (PrimitiveAnswer answer.Truth) k K l v σ (refl, refl) ft)
    kept_ok false answer.Input v t u w d k K l σ pl lt ft =
        there machine M 4 2 _ _ v σ (Put b t u w (PrimitiveAnswer answer.Input) k K l) (Away p deepest ks F b d K) (code_stored b l t d (input_code v) lt (ft.numbers t)) (omega arith) (put_word t u w (input_code v) (PrimitiveAnswer answer.Input) k K l v σ (refl, refl) ft)
    kept_ok false answer.Stream v t u w d k K l σ pl lt ft =
        there machine M 4 2 _ _ v σ (Put b t u w (PrimitiveAnswer answer.Stream) k K l) (Away p deepest ks F b d K) (code_stored b l t d (stream_code v) lt (ft.numbers t)) (omega arith) (put_word t u w (stream_code v) (PrimitiveAnswer answer.Stream) k K l v σ (refl, refl) ft)
    kept_ok false answer.Done v t u w d k K l σ pl lt ft =
        there machine M 4 1 _ _ v σ (Put b t u w (PrimitiveAnswer answer.Done) k K l) (Away p deepest ks F b d K) (done_dropped b d) (omega arith)
        (record { next = l; comes = refl; fit = fit_more p deepest ks F t u w l σ ft; same = same_self [] t w l; holds = (ft.free t (omega arith), tt) })
    kept_ok f _ r t u w d k K l σ pl lt ft = absurd pl
