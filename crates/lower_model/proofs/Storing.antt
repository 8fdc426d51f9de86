-- What stands in a temporary is put into a place as a value, whatever its form: it is given away, or a second handle stays behind.
use Rattle.std.proofs.Common.{◌≡◌, inl, ℕ, ◌+◌, ◌<◌, ◌≤◌, Bool, true, false, List, [], ◌∷◌, Some, None, refl, sym, ap, ◌∙◌, arith}
use Rattle.awk_values.specs.declared.value.Value.{Value}
use Rattle.awk_values.specs.declared.value.Value.TheVariants as value
use Rattle.sem_primitives.specs.Numbers.{Number, number_word}
use Rattle.sem_primitives.specs.declared.sorts.Answer.TheVariants as answer
use Rattle.sem_primitives.specs.declared.sorts.Sort.TheVariants as sort
use Rattle.sem_primitives.specs.declared.table.Primitive.TheVariants as row
use Rattle.sem_primitives.proofs.Words.{word_again}
use Rattle.wasm_types.specs.Syntax.{Instructions, Done}
use Rattle.wasm_types.specs.declared.instr.Simple.{Simple}
use Rattle.wasm_store.specs.declared.word.Word.TheVariants.{I64}
use Rattle.wasm_store.specs.Words.{flag}
use Rattle.mid_program.specs.Mid.{Kind, Program, Form, PrimitiveAnswer, NumberOrText, OptionalNumber}
use Rattle.mid_program.specs.MidMeaning.{Holds, boxed}
use Rattle.sem_scripts.specs.Steps.{truth_number}
use Rattle.sem_scripts.specs.ScriptState.{State}
use Rattle.mid_program.specs.Sorted.{fits}
use Rattle.lower_model.specs.Cells.{Cell, Bits, Held, Gone, is_owned}
use Rattle.lower_model.specs.Emission.{handle_stored, value_stored}
use Rattle.lower_model.specs.ImportCalls.{with_some, and_rest, row_in, acted}
use Rattle.lower_model.specs.Machine.{Look, Label, Frame, Store, at, label}
use Rattle.lower_model.specs.Places.{Bases, handle_local}
use Rattle.lower_model.specs.Small.{emit, ask_row, emit_if, least, text_beside, boxed_number, boxed_perhaps}
use Rattle.host_imports.specs.declared.import.Import.TheVariants.{OfPrimitive}
use Rattle.lower_model.proofs.Observer.{Observer}
use Rattle.lower_model.proofs.Runs.{Goes, then_goes, goes_to}
use Rattle.lower_model.proofs.Regions.{upd_same}
use Rattle.lower_model.proofs.Locals.{Locals, Hand, Number as NumberAt, with_at, has_with, laid, laid_at, laid_twice, laid_again}
use Rattle.lower_model.proofs.Steps.{empty, get_moved, get_copied, tee_ok, moved_out_ok}
use Rattle.lower_model.proofs.GlobalSteps.{storing}
use Rattle.lower_model.proofs.Pieces.{chooses, closes, number_is_ok}
use Rattle.lower_model.proofs.Calls.{called}
use Rattle.lower_model.proofs.State.{host_of, word_not_least, word_not_beside, perhaps, BareIs, IsBeside, IsNone, IsNumber}
use Rattle.lower_model.proofs.Relation.{HoldsAt, Fit, fit_hand}
use Rattle.lower_model.proofs.Answers.{machine}
use Rattle.lower_model.proofs.Conversions.{same_state, PerhapsIs, NoNumber, There}
use Rattle.lower_model.proofs.Converting.{flag_word, perhaps_is}
use Rattle.lower_model.proofs.Copies.{dup_ok}
use Rattle.lower_model.proofs.Simulation.{StandsAt, layout}

-- what is given away leaves nothing behind
abbrev pub handed : Bool → ℕ → Locals → Locals
handed true t l = with_at l (Hand t) empty
handed false t l = l

pub handed_same : (b : Bases) (o : Bool) (t : ℕ) (l : Locals) → t < b.temporaries → l.hand t ≡ empty → laid b l ≡ laid b (handed o t l)
handed_same b true t l lt e = sym (laid_again b l (Hand t) empty lt e)
handed_same b false t l lt e = refl

pub handed_stands : (o : Bool) (f : Form) (t : ℕ) (l : Locals) (x : Holds f) → HoldsAt f t l x → StandsAt o f t (handed o t l) x
handed_stands true f t l x q = upd_same l.hand t empty
handed_stands false f t l x q = q

module _ (p : Program) (deepest : Observer) (ks : List Kind) (F : List Frame) (b : Bases) (M n : ℕ) where
  pub handed_fit : (o : Bool) (t q u w : ℕ) (l : Locals) (σ : State) → t < q → Fit p deepest ks F q u w l σ → Fit p deepest ks F q u w (handed o t l) σ
  handed_fit true t q u w l σ lt f = fit_hand p deepest ks F t q u w l σ empty (inl refl) lt f
  handed_fit false t q u w l σ lt f = f

  -- Rows that make a value, whatever the globals hold.

  module _ {L : List Cell} {K : List Label} {c : Instructions} (vs gs : List Cell) (σ : State) where
    pub num_ok : (m : Number) → Goes (machine p deepest ks F) 1 (at ks (Bits (I64 (number_word m)) ∷ vs) K L F (ask_row row.Num c) (storing gs (host_of σ None))) (at ks (Held (value.Num m.number) ∷ vs) K L F c (storing gs (host_of σ None)))
    num_ok m = called (OfPrimitive row.Num) (Bits (I64 (number_word m)) ∷ []) vs (storing gs (host_of σ None)) (Some (Held (value.Num m.number))) (host_of σ None) refl refl
        (ap (λ o. acted (OfPrimitive row.Num) (host_of σ None) (with_some (and_rest o []) (λ x. with_some (row_in (machine p deepest ks F).memory [] x.1) (λ rest. Some (x.0, rest))))) (word_again m)
        ∙ ap (λ τ. Some (Some (Held (value.Num m.number)), host_of τ None)) (same_state σ (value.Num m.number)))

    pub uninit_ok : Goes (machine p deepest ks F) 1 (at ks vs K L F (ask_row row.Uninit c) (storing gs (host_of σ None))) (at ks (Held value.Uninit ∷ vs) K L F c (storing gs (host_of σ None)))
    uninit_ok = called (OfPrimitive row.Uninit) [] vs (storing gs (host_of σ None)) (Some (Held value.Uninit)) (host_of σ None) refl refl
        (ap (λ τ. Some (Some (Held value.Uninit), host_of τ None)) (same_state σ value.Uninit))

  -- some code comes to the code after it
  pub record Comes (code k : Instructions) (K : List Label) (L : List Cell) (G : Store) (L1 : List Cell) (G1 : Store) : Type 0 where
    pub steps : ℕ
    pub few : steps ≤ 12
    pub goes : Goes (machine p deepest ks F) steps (at ks [] K L F code G) (at ks [] K L1 F k G1)

  -- how a value comes from the stack into a place
  abbrev pub Puts : (o : Bool) (t : ℕ) (l : Locals) (put : Simple) (gs : List Cell) (σ : State) (L1 : Value → List Cell) (G1 : Value → Store) → Type 0
  Puts o t l put gs σ L1 G1 = (v : Value) (K : List Label) (k : Instructions) → Goes (machine p deepest ks F) 1 (at ks (Held v ∷ []) K (laid b (handed o t l)) F (emit put k) (storing gs (host_of σ None))) (at ks [] K (L1 v) F k (G1 v))

  abbrev pub hand_work : Bool → ℕ
  hand_work true = 3
  hand_work false = 4

  pub hand_stored : (o : Bool) (t : ℕ) (l : Locals) (put : Simple) (gs : List Cell) (σ : State) (L1 : Value → List Cell) (G1 : Value → Store) → t < b.temporaries → Puts o t l put gs σ L1 G1 → (v : Value) (K : List Label) (k : Instructions) → l.hand t ≡ Held v →
      Goes (machine p deepest ks F) (hand_work o) (at ks [] K (laid b l) F (handle_stored (layout p deepest ks F b M n) o t put k) (storing gs (host_of σ None))) (at ks [] K (L1 v) F k (G1 v))
  hand_stored true t l put gs σ L1 G1 lt puts v K k e = then_goes (moved_out_ok b l (Hand t) (Held v) lt e) (puts v K k)
  hand_stored false t l put gs σ L1 G1 lt puts v K k e =
      let l1 = with_at l (Hand t) Gone in
      then_goes (get_moved b l (Hand t) (Held v) lt e)
      (then_goes (goes_to (tee_ok b l1 (Hand t) (Held v) lt (ap is_owned (has_with l (Hand t) Gone)))
      (ap (λ L. Look (handle_local b t) ks [] K L F (ask_row row.Dup (emit put k)) (storing gs (host_of σ None))) (laid_twice b l (Hand t) Gone (Held v) lt ∙ laid_again b l (Hand t) (Held v) lt e)))
      (then_goes (dup_ok p deepest ks F b (handle_local b t) (laid b l) gs v σ (laid_at b l (Hand t) lt ∙ e)) (puts v K k)))

  number_stored : (o : Bool) (t : ℕ) (l : Locals) (put : Simple) (gs : List Cell) (σ : State) (L1 : Value → List Cell) (G1 : Value → Store) → t < b.temporaries → Puts o t l put gs σ L1 G1 → (x : Number) (K : List Label) (k : Instructions) → l.hand t ≡ empty → l.number t ≡ Bits (I64 (number_word x)) →
      Goes (machine p deepest ks F) 3 (at ks [] K (laid b l) F (boxed_number b t (emit put k)) (storing gs (host_of σ None))) (at ks [] K (L1 (value.Num x.number)) F k (G1 (value.Num x.number)))
  number_stored o t l put gs σ L1 G1 lt puts x K k e e1 =
      then_goes (get_copied b l (NumberAt t) (Bits (I64 (number_word x))) lt e1 refl)
      (then_goes (goes_to (num_ok [] gs σ x) (ap (λ L. at ks (Held (value.Num x.number) ∷ []) K L F (emit put k) (storing gs (host_of σ None))) (handed_same b o t l lt e)))
      (puts (value.Num x.number) K k))

  -- a number, or none yet
  record PerhapsStored (o : Bool) (t : ℕ) (l : Locals) (put : Simple) (gs : List Cell) (σ : State) (L1 : Value → List Cell) (G1 : Value → Store) (v : Value) (K : List Label) (k : Instructions) : Type 0 where
    steps : ℕ
    few : steps ≤ 7
    goes : Goes (machine p deepest ks F) steps (at ks [] K (laid b l) F (boxed_perhaps b t put k) (storing gs (host_of σ None))) (at ks [] K (L1 v) F k (G1 v))

  perhaps_stored : (o : Bool) (t : ℕ) (l : Locals) (put : Simple) (gs : List Cell) (σ : State) (L1 : Value → List Cell) (G1 : Value → Store) → t < b.temporaries → Puts o t l put gs σ L1 G1 → (m : ℕ) (v : Value) (K : List Label) (k : Instructions) → l.hand t ≡ empty → l.number t ≡ Bits (I64 m) → PerhapsIs p deepest ks F b m v →
      PerhapsStored o t l put gs σ L1 G1 v K k
  perhaps_stored o t l put gs σ L1 G1 lt puts m v K k e e1 (NoNumber q q1) = record {
    steps = 6;
    few = omega arith;
    goes = goes_to
        (then_goes (number_is_ok b l t least least lt (e1 ∙ ap (λ z. Bits (I64 z)) q))
        (then_goes (chooses (ask_row row.Uninit (emit put Done)) (boxed_number b t (emit put Done)) 1)
        (then_goes (goes_to (uninit_ok [] gs σ) (ap (λ L. at ks (Held value.Uninit ∷ []) (label [] None k ∷ K) L F (emit put Done) (storing gs (host_of σ None))) (handed_same b o t l lt e)))
        (then_goes (puts value.Uninit (label [] None k ∷ K) Done) closes))))
        (ap (λ w. at ks [] K (L1 w) F k (G1 w)) (sym q1));
  }
  perhaps_stored o t l put gs σ L1 G1 lt puts m v K k e e1 (There x q q1) =
      let e2 = e1 ∙ ap (λ z. Bits (I64 z)) q in
      record {
        steps = 7;
        few = omega arith;
        goes = goes_to
            (then_goes (goes_to (number_is_ok b l t (number_word x) least lt e2) (ap (λ f. at ks (Bits (flag f) ∷ []) K (laid b l) F (emit_if (ask_row row.Uninit (emit put Done)) (boxed_number b t (emit put Done)) k) (storing gs (host_of σ None))) (word_not_least x)))
            (then_goes (chooses (ask_row row.Uninit (emit put Done)) (boxed_number b t (emit put Done)) 0) (then_goes (number_stored o t l put gs σ L1 G1 lt puts x (label [] None k ∷ K) Done e e2) closes)))
            (ap (λ w. at ks [] K (L1 w) F k (G1 w)) (sym q1));
      }

  pub hand_few : (o : Bool) → hand_work o ≤ 4
  hand_few true = omega arith
  hand_few false = omega arith

  -- what an unboxed name has
  bare_stored : (o : Bool) (t : ℕ) (l : Locals) (put : Simple) (gs : List Cell) (σ : State) (L1 : Value → List Cell) (G1 : Value → Store) → t < b.temporaries → Puts o t l put gs σ L1 G1 → (v : Value) (K : List Label) (k : Instructions) → (n0 : ℕ) → l.number t ≡ Bits (I64 n0) → BareIs v n0 (l.hand t) →
      Comes (value_stored (layout p deepest ks F b M n) o NumberOrText t put k) k K (laid b l) (storing gs (host_of σ None)) (L1 v) (G1 v)
  bare_stored o t l put gs σ L1 G1 lt puts v K k n0 en (IsBeside e e1) =
      let a = handle_stored (layout p deepest ks F b M n) o t put Done in
      let hf = hand_few o in
      record {
        steps = 3 + (hand_work o + 1);
        few = omega (arith, hf);
        goes = then_goes (then_goes (number_is_ok b l t text_beside text_beside lt (en ∙ ap (λ m. Bits (I64 m)) e)) (chooses a (boxed_perhaps b t put Done) 1))
            (then_goes (hand_stored o t l put gs σ L1 G1 lt puts v (label [] None k ∷ K) Done e1) closes);
      }
  bare_stored o t l put gs σ L1 G1 lt puts v K k n0 en (IsNone e e1 e2) =
      let a = handle_stored (layout p deepest ks F b M n) o t put Done in
      let s = perhaps_stored o t l put gs σ L1 G1 lt puts n0 v (label [] None k ∷ K) Done e2 en (NoNumber e1 e) in
      record {
        steps = 3 + (s.steps + 1);
        few = let q = s.few in omega (arith, q);
        goes = then_goes (then_goes (number_is_ok b l t least text_beside lt (en ∙ ap (λ m. Bits (I64 m)) e1)) (chooses a (boxed_perhaps b t put Done) 0)) (then_goes s.goes closes);
      }
  bare_stored o t l put gs σ L1 G1 lt puts v K k n0 en (IsNumber m e e1 e2) =
      let a = handle_stored (layout p deepest ks F b M n) o t put Done in
      let s = perhaps_stored o t l put gs σ L1 G1 lt puts n0 v (label [] None k ∷ K) Done e2 en (There m e1 e) in
      record {
        steps = 3 + (s.steps + 1);
        few = let q = s.few in omega (arith, q);
        goes = then_goes
            (then_goes (goes_to (number_is_ok b l t (number_word m) text_beside lt (en ∙ ap (λ z. Bits (I64 z)) e1)) (ap (λ f. at ks (Bits (flag f) ∷ []) K (laid b l) F (emit_if a (boxed_perhaps b t put Done) k) (storing gs (host_of σ None))) (word_not_beside m)))
            (chooses a (boxed_perhaps b t put Done) 0))
            (then_goes s.goes closes);
      }

  pub stored_ok : (o : Bool) (f : Form) (x : Holds f) (t : ℕ) (l : Locals) (put : Simple) (gs : List Cell) (σ : State) (L1 : Value → List Cell) (G1 : Value → Store) (K : List Label) (k : Instructions) → t < b.temporaries → fits f sort.Value ≡ true → HoldsAt f t l x → Puts o t l put gs σ L1 G1 →
      Comes (value_stored (layout p deepest ks F b M n) o f t put k) k K (laid b l) (storing gs (host_of σ None)) (L1 (boxed f x)) (G1 (boxed f x))
  stored_ok o (PrimitiveAnswer (answer.Of sort.Value)) x t l put gs σ L1 G1 K k lt e hd puts = let hf = hand_few o in record { steps = hand_work o; few = omega (arith, hf); goes = hand_stored o t l put gs σ L1 G1 lt puts x K k hd.0 }
  stored_ok o (PrimitiveAnswer (answer.Of sort.Number)) x t l put gs σ L1 G1 K k lt e hd puts = record { steps = 3; few = omega arith; goes = number_stored o t l put gs σ L1 G1 lt puts x K k hd.0 hd.1 }
  stored_ok o (PrimitiveAnswer answer.Truth) x t l put gs σ L1 G1 K k lt e hd puts = record { steps = 3; few = omega arith; goes = number_stored o t l put gs σ L1 G1 lt puts (truth_number x) K k hd.0 (hd.1 ∙ ap (λ m. Bits (I64 m)) (flag_word x)) }
  stored_ok o NumberOrText x t l put gs σ L1 G1 K k lt e hd puts = bare_stored o t l put gs σ L1 G1 lt puts x K k hd.0 hd.1 hd.2
  stored_ok o OptionalNumber x t l put gs σ L1 G1 K k lt e hd puts =
      let s = perhaps_stored o t l put gs σ L1 G1 lt puts (perhaps x) (boxed OptionalNumber x) K k hd.0 hd.1 (perhaps_is p deepest ks F b M x) in
      let q = s.few in
      record { steps = s.steps; few = omega (arith, q); goes = s.goes }
  stored_ok o f x t l put gs σ L1 G1 K k lt e hd puts = cc
