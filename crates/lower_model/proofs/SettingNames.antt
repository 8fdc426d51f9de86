-- Names take a value: globals, and boxed parameters.
use Rattle.std.proofs.Common.{◌≡◌, ℕ, suc, ◌+◌, ◌<◌, ◌≤◌, Bool, true, false, List, [], ◌∷◌, length, Option, None, refl, sym, ap, ◌∙◌, subst, arith, Some}
use Rattle.std.specs.Prelude.{◌&&◌, nat_eq, not, is_some}
use Rattle.wasm_store.specs.Words.{flag}
use Rattle.std.proofs.lemmas.Bool.{and_parts, not-true}
use Rattle.std.proofs.lemmas.List.{get_or-set_other}
use Rattle.awk_values.specs.declared.value.Value.{Value}
use Rattle.awk_values.specs.declared.value.Value.TheVariants.{Uninit, Num}
use Rattle.sem_primitives.specs.Numbers.{Number, number_word}
use Rattle.sem_primitives.specs.declared.sorts.Answer.TheVariants as answer
use Rattle.sem_primitives.specs.declared.sorts.Sort.TheVariants as sort
use Rattle.wasm_types.specs.Syntax.{Instructions, Done as NoMore}
use Rattle.wasm_types.specs.declared.types.ValType.TheVariants as ty
use Rattle.wasm_types.specs.declared.instr.IRelOp.TheVariants.{Eq}
use Rattle.wasm_types.specs.declared.instr.Simple.TheVariants.{LocalGet, LocalSet, GlobalGet, GlobalSet, I32Const, I64Const, Compare}
use Rattle.wasm_store.specs.declared.word.Word.TheVariants.{I64}
use Rattle.mid_program.specs.Mid.{Kind, Boxed, Unboxed, ArrayKind, Program, Slot, Global, Parameter, Form, PrimitiveAnswer, NumberOrText, OptionalNumber, Code, Set, form_of, source_of}
use Rattle.mid_program.specs.MidMeaning.{Holds, Env, evaluated, all_evaluated, boxed, store_slot}
use Rattle.sem_scripts.specs.ScriptState.{State, Gives, ◌>>◌, give, Scalar, with_local, with_global, global_value, local_value, array_in_local}
use Rattle.mid_program.specs.Sorted.{Held as Standing, sorted, all_sorted, held_after, has_kind, kinds_of, mixed_of, is_mixed, is_number, is_slot, takes, fits, lends, lender_at}
use Rattle.lower_model.specs.Cells.{Cell, Bits, Held, Gone, is_owned}
use Rattle.lower_model.specs.Emission.{emitted, all_emitted, handle_stored, slot_set, text_dropped, text_stored}
use Rattle.lower_model.specs.Machine.{Conf, Label, Frame, Store, at, label}
use Rattle.lower_model.specs.Places.{Bases, number_local}
use Rattle.lower_model.specs.Small.{emit, ask, when, minus_one, least, text_beside, number_is}
use Rattle.host_imports.specs.declared.import.Import.TheVariants.{Drop}
use Rattle.lower_model.proofs.Observer.{Observer}
use Rattle.lower_model.proofs.Runs.{Goes, then_goes, goes_to, goes_from, by_steps, there, then_on}
use Rattle.lower_model.proofs.Locals.{Locals, Param, Hand, Number as NumberAt, local_of, with_at, has_with, laid, laid_twice}
use Rattle.lower_model.proofs.Globals.{Globals, Hand as NameHand, Number as NameNumber, global_of, with_global_at, has_global_with, placed, placed_twice, placed_again}
use Rattle.lower_model.proofs.Steps.{empty, get_moved, get_copied, set_ok}
use Rattle.lower_model.proofs.GlobalSteps.{storing, while_assigning, comes_back, mixed_comes, global_moved, global_copied, global_set_ok}
use Rattle.lower_model.proofs.Pieces.{chooses, closes, drop_ok, number_is_ok}
use Rattle.lower_model.proofs.State.{bare, beside, bare_number, beside_number, cells_of, host_of, kind_here, arrays_before, name_hand, name_word, word_not_beside, BareOf, IsBeside, IsNone, IsNumber, stored_in, BareParameter, number_taken}
use Rattle.lower_model.proofs.Relation.{HoldsAt, Below, kept_same, Same, same_self, same_hand, same_then, Fit, SameOwn, Away}
use Rattle.lower_model.proofs.Answers.{machine, beside_state, Reached}
use Rattle.lower_model.proofs.Conversions.{bare_is}
use Rattle.lower_model.proofs.Storing.{handed, handed_same, handed_stands, handed_fit, hand_work, hand_few, hand_stored, stored_ok}
use Rattle.lower_model.proofs.Written.{fit_global, global_written}
use Rattle.lower_model.proofs.Setting.{number_of_form, number_boxed, number_held, number_plain, fit_param, kinds_apart, stands_number}
use Rattle.lower_model.proofs.Simulation.{work_of, StandsAt, still_stands, NoArray, plain_stands, layout, context, meant, Done, ExprOk, room_one}
use Rattle.lower_model.proofs.Reading.{kind_below, kind_found}
use Rattle.mid_program.proofs.Lenders.{boxed_lends}

value_plain : (f : Form) → fits f sort.Value ≡ true → NoArray f
value_plain (PrimitiveAnswer (answer.Of sort.Array)) e = absurd cc
value_plain f e = tt

pub handed_under : (o : Bool) (t w : ℕ) (l : Locals) → Same [] t w l (handed o t l)
handed_under true t w l = same_hand [] t w t l empty (omega arith)
handed_under false t w l = same_self [] t w l

module _ (p : Program) (deepest : Observer) (ks : List Kind) (F : List Frame) (b : Bases) (M n : ℕ) where
  -- a name took the value, and all else is as it was
  set_done : (x : Slot) (e : Code) (v : Bool) (fs : List Form) (env : Env fs) (ts : List ℕ) (st : ℕ → Standing) (t u w : ℕ) (k k1 : Instructions) (K : List Label) (l l1 : Locals) (σ τ τ1 : State) (y : Holds (form_of fs e)) (c1 c : Conf) →
      Below t ts → (a : Done p deepest ks F b M n false e fs env ts st t u w k1 K l σ y τ c1) → c ≡ at ks [] K (laid b l1) F k (beside_state p deepest ks F τ1) →
      Fit p deepest ks F (suc t) u w l1 τ1 → Same [] t w a.next l1 → SameOwn p deepest ks F τ τ1 → StandsAt v (form_of fs e) t l1 y → NoArray (form_of fs e) →
      Done p deepest ks F b M n v (Set x e) fs env ts st t u w k K l σ y τ1 c
  set_done x e v fs env ts st t u w k k1 K l l1 σ τ τ1 y c1 c bl a q ft sm own sd na = record {
    next = l1;
    comes = q;
    fit = ft;
    same = same_then ts t t w w l a.next l1 (omega arith) (omega arith) a.same (record { hands = λ z h o. sm.hands z h tt; numbers = sm.numbers; iterators = sm.iterators; arrays = sm.arrays });
    own = λ j g. own j g ∙ a.own j g;
    kept = kept_same fs ts (λ j. held_after j e (st j)) a.next l1 env t bl (λ z h. sm.hands z h tt) sm.numbers a.kept;
    stands = sd;
    meant = plain_stands p deepest ks F b M n (form_of fs e) y _ τ1 na;
  }

  -- code puts a value into a name, and comes to the code after it
  pub record TakesValue (most : ℕ) (code k : Instructions) (K : List Label) (l : Locals) (σ : State) (l1 : Locals) (σ1 : State) : Type 0 where
    pub steps : ℕ
    pub few : steps ≤ most
    pub goes : Goes (machine p deepest ks F) steps (at ks [] K (laid b l) F code (beside_state p deepest ks F σ)) (at ks [] K (laid b l1) F k (beside_state p deepest ks F σ1))

  -- Boxed names.

  abbrev pub kinds : List Kind
  kinds = kinds_of p.globals

  abbrev globals_at : State → Globals
  globals_at σ = cells_of kinds 0 σ

  pub boxed_written : (i : ℕ) (y : Value) (σ : State) → length σ.globals ≡ length p.globals → has_kind kinds i Boxed ≡ true →
      placed p.ranges (length kinds) (with_global_at p.ranges (length kinds) (globals_at σ) (NameHand i) (Held y)) ≡ placed p.ranges (length kinds) (globals_at (with_global i y σ))
  boxed_written i y σ sz hk =
      let nn = length kinds in
      let li = kind_below kinds i Boxed hk in
      let kh = kind_found kinds i Boxed hk in
      let g1 = with_global_at p.ranges nn (globals_at σ) (NameHand i) (Held y) in
      sym (placed_again p.ranges nn g1 (NameNumber i) (Bits (I64 least)) li (ap (λ z. Bits (I64 (name_word z (global_value i σ)))) kh))
      ∙ global_written p deepest ks F b M n i y σ (Held y) (Bits (I64 least)) sz li (ap (λ z. name_hand z (suc (suc (arrays_before kinds i))) y) kh) (ap (λ z. Bits (I64 (name_word z y))) kh)

  boxed_global_set : (o : Bool) (f : Form) (x : Holds f) (i t : ℕ) (l : Locals) (σ : State) (K : List Label) (k : Instructions) → t < b.temporaries → fits f sort.Value ≡ true → HoldsAt f t l x → length σ.globals ≡ length p.globals → has_kind kinds i Boxed ≡ true →
      TakesValue 14 (slot_set (layout p deepest ks F b M n) o (Global false i) f t k) k K l σ (handed o t l) (with_global i (boxed f x) σ)
  boxed_global_set o f x i t l σ K k lt e hd sz hk =
      let nn = length kinds in
      let li = kind_below kinds i Boxed hk in
      let kh = kind_found kinds i Boxed hk in
      let g = globals_at σ in
      let g1 = with_global_at p.ranges nn g (NameHand i) Gone in
      let put = GlobalSet (global_of p.ranges nn (NameHand i)) in
      let old = global_value i σ in
      let s = stored_ok p deepest ks F b M n o f x t l put (placed p.ranges nn g1) σ (λ v. laid b (handed o t l)) (λ v. storing (placed p.ranges nn (with_global_at p.ranges nn g1 (NameHand i) (Held v))) (host_of σ None)) K k lt e hd
      (λ v K k. global_set_ok p.ranges nn g1 (NameHand i) (Held v) li (ap is_owned (has_global_with p.ranges nn g (NameHand i) Gone)) (comes_back p.ranges nn _ None g (NameHand i) (Held v))) in
      let q = s.few in
      record {
        steps = 2 + s.steps;
        few = omega (arith, q);
        goes = then_goes (then_goes (global_moved p.ranges nn g (NameHand i) (Held old) li (ap (λ z. name_hand z (suc (suc (arrays_before kinds i))) old) kh)) (drop_ok old []))
            (goes_to s.goes (ap (λ m. at ks [] K (laid b (handed o t l)) F k (storing m (host_of σ None))) (placed_twice p.ranges nn g (NameHand i) Gone (Held (boxed f x)) li ∙ boxed_written i (boxed f x) σ sz hk)));
      }

  handed_param : (o : Bool) (t i : ℕ) (l : Locals) → (handed o t l).param i ≡ l.param i
  handed_param true t i l = refl
  handed_param false t i l = refl

  param_again : (o : Bool) (t i : ℕ) (v : Value) (l : Locals) → i < b.parameters → laid b (with_at (handed o t (with_at l (Param i) Gone)) (Param i) (Held v)) ≡ laid b (with_at (handed o t l) (Param i) (Held v))
  param_again true t i v l lt = laid_twice b (with_at l (Hand t) empty) (Param i) Gone (Held v) lt
  param_again false t i v l lt = laid_twice b l (Param i) Gone (Held v) lt

  boxed_parameter_set : (o : Bool) (f : Form) (x : Holds f) (i t : ℕ) (l : Locals) (old : Value) (σ : State) (K : List Label) (k : Instructions) → t < b.temporaries → fits f sort.Value ≡ true → HoldsAt f t l x → i < b.parameters → l.param i ≡ Held old →
      TakesValue 14 (slot_set (layout p deepest ks F b M n) o (Parameter false i) f t k) k K l σ (with_at (handed o t l) (Param i) (Held (boxed f x))) (with_local i (boxed f x) σ)
  boxed_parameter_set o f x i t l old σ K k lt e hd li eo =
      let l0 = with_at l (Param i) Gone in
      let G = beside_state p deepest ks F σ in
      let s = stored_ok p deepest ks F b M n o f x t l0 (LocalSet i) G.globals σ (λ v. laid b (with_at (handed o t l0) (Param i) (Held v))) (λ v. G) K k lt e hd
      (λ v K k. set_ok b (handed o t l0) (Param i) (Held v) li (ap is_owned (handed_param o t i l0 ∙ has_with l (Param i) Gone))) in
      let q = s.few in
      record {
        steps = 2 + s.steps;
        few = omega (arith, q);
        goes = then_goes (then_goes (get_moved b l (Param i) (Held old) li eo) (drop_ok old []))
            (goes_to s.goes (ap (λ L. at ks [] K L F k G) (param_again o t i (boxed f x) l li)));
      }

  -- An unboxed global: the text beside it is dropped, while code makes an assignment too.

  pub record TextGone (name : Option ℕ) (i : ℕ) (k : Instructions) (K : List Label) (l : Locals) (σ : State) : Type 0 where
    pub steps : ℕ
    pub few : steps ≤ 8
    pub goes : Goes (machine p deepest ks F) steps (at ks [] K (laid b l) F (text_dropped (layout p deepest ks F b M n) i k) (while_assigning name (beside_state p deepest ks F σ))) (at ks [] K (laid b l) F k (while_assigning name (storing (placed p.ranges (length kinds) (with_global_at p.ranges (length kinds) (globals_at σ) (NameHand i) empty)) (host_of σ None))))

  -- whether there is one
  text_told : (name : Option ℕ) (i : ℕ) (k : Instructions) (K : List Label) (l : Locals) (σ : State) → has_kind kinds i Unboxed ≡ true →
      Goes (machine p deepest ks F) 2 (at ks [] K (laid b l) F (emit (GlobalGet (global_of p.ranges (length kinds) (NameNumber i))) (emit (I64Const text_beside) (emit (Compare ty.I64 Eq) k))) (while_assigning name (beside_state p deepest ks F σ)))
      (at ks (Bits (flag (nat_eq (bare (global_value i σ)) text_beside)) ∷ []) K (laid b l) F k (while_assigning name (beside_state p deepest ks F σ)))
  text_told name i k K l σ hk =
      let x = global_value i σ in
      then_goes (global_copied p.ranges (length kinds) (globals_at σ) (NameNumber i) (Bits (I64 (bare x))) (kind_below kinds i Unboxed hk) (ap (λ c. Bits (I64 (name_word c x))) (kind_found kinds i Unboxed hk)) refl) (by_steps 1 refl)

  abbrev dropping : ℕ → Instructions
  dropping i = emit (GlobalGet (global_of p.ranges (length kinds) (NameHand i))) (ask Drop (emit (I32Const minus_one) (emit (GlobalSet (global_of p.ranges (length kinds) (NameHand i))) NoMore)))

  no_text : (name : Option ℕ) (i : ℕ) (k : Instructions) (K : List Label) (l : Locals) (σ : State) → has_kind kinds i Unboxed ≡ true → nat_eq (bare (global_value i σ)) text_beside ≡ false → beside (global_value i σ) ≡ empty → TextGone name i k K l σ
  no_text name i k K l σ hk ne eh =
      let nn = length kinds in
      let li = kind_below kinds i Unboxed hk in
      let kh = kind_found kinds i Unboxed hk in
      let old = global_value i σ in
      let hand : name_hand (kind_here kinds i) (suc (suc (arrays_before kinds i))) old ≡ empty = ap (λ z. name_hand z (suc (suc (arrays_before kinds i))) old) kh ∙ eh in
      record {
        steps = 4;
        few = omega arith;
        goes = then_goes (goes_to (text_told name i (when (dropping i) k) K l σ hk) (ap (λ f. at ks (Bits (flag f) ∷ []) K (laid b l) F (when (dropping i) k) (while_assigning name (beside_state p deepest ks F σ))) ne))
            (then_goes (chooses (dropping i) NoMore 0) (goes_to closes (ap (λ m. at ks [] K (laid b l) F k (while_assigning name (storing m (host_of σ None)))) (sym (placed_again p.ranges nn (globals_at σ) (NameHand i) empty li hand)))));
      }

  pub text_dropped_ok : (name : Option ℕ) (i : ℕ) (k : Instructions) (K : List Label) (l : Locals) (σ : State) → has_kind kinds i Unboxed ≡ true → BareOf (global_value i σ) → TextGone name i k K l σ
  text_dropped_ok name i k K l σ hk (IsBeside eb eh) =
      let nn = length kinds in
      let li = kind_below kinds i Unboxed hk in
      let kh = kind_found kinds i Unboxed hk in
      let g = globals_at σ in
      let g1 = with_global_at p.ranges nn g (NameHand i) Gone in
      let old = global_value i σ in
      let hand : name_hand (kind_here kinds i) (suc (suc (arrays_before kinds i))) old ≡ Held old = ap (λ z. name_hand z (suc (suc (arrays_before kinds i))) old) kh ∙ eh in
      record {
        steps = 7;
        few = omega arith;
        goes = then_goes (goes_to (text_told name i (when (dropping i) k) K l σ hk) (ap (λ m. at ks (Bits (flag (nat_eq m text_beside)) ∷ []) K (laid b l) F (when (dropping i) k) (while_assigning name (beside_state p deepest ks F σ))) eb))
            (then_goes (chooses (dropping i) NoMore 1)
            (then_goes (global_moved p.ranges nn g (NameHand i) (Held old) li hand)
            (then_goes (drop_ok old [])
            (then_goes (global_set_ok p.ranges nn g1 (NameHand i) empty li (ap is_owned (has_global_with p.ranges nn g (NameHand i) Gone)) refl)
            (goes_to closes (ap (λ m. at ks [] K (laid b l) F k (while_assigning name (storing m (host_of σ None)))) (placed_twice p.ranges nn g (NameHand i) Gone empty li)))))));
      }
  text_dropped_ok name i k K l σ hk (IsNone q eb eh) = no_text name i k K l σ hk (ap (λ m. nat_eq m text_beside) eb) eh
  text_dropped_ok name i k K l σ hk (IsNumber m q eb eh) = no_text name i k K l σ hk (ap (λ z. nat_eq z text_beside) eb ∙ word_not_beside m) eh

  -- What an unboxed name has comes from a temporary: a text, if there is one, once none is beside the name; then the number.

  abbrev hand_written : ℕ → State → Cell → Store
  hand_written i σ hand = storing (placed p.ranges (length kinds) (with_global_at p.ranges (length kinds) (globals_at σ) (NameHand i) hand)) (host_of σ None)

  word_written : (i t : ℕ) (v : Value) (hand : Cell) (word : ℕ) (k : Instructions) (K : List Label) (l : Locals) (σ : State) → t < b.temporaries → l.number t ≡ Bits (I64 word) → length σ.globals ≡ length p.globals → has_kind kinds i Unboxed ≡ true →
      beside v ≡ hand → bare v ≡ word →
      Goes (machine p deepest ks F) 2 (at ks [] K (laid b l) F (emit (LocalGet (local_of b (NumberAt t))) (emit (GlobalSet (global_of p.ranges (length kinds) (NameNumber i))) k)) (hand_written i σ hand))
      (at ks [] K (laid b l) F k (beside_state p deepest ks F (with_global i v σ)))
  word_written i t v hand word k K l σ lt e sz hk eh ew =
      let nn = length kinds in
      let li = kind_below kinds i Unboxed hk in
      let kh = kind_found kinds i Unboxed hk in
      let c = Bits (I64 word) in
      then_goes (get_copied b l (NumberAt t) c lt e refl)
      (goes_to (global_set_ok p.ranges nn (with_global_at p.ranges nn (globals_at σ) (NameHand i) hand) (NameNumber i) c li refl refl)
      (ap (λ m. at ks [] K (laid b l) F k (storing m (host_of σ None)))
      (global_written p deepest ks F b M n i v σ hand c sz li
      (ap (λ z. name_hand z (suc (suc (arrays_before kinds i))) v) kh ∙ eh)
      (ap (λ z. Bits (I64 (name_word z v))) kh ∙ ap (λ z. Bits (I64 z)) ew))))

  abbrev word_put : (i t : ℕ) → Instructions → Instructions
  word_put i t k = emit (LocalGet (local_of b (NumberAt t))) (emit (GlobalSet (global_of p.ranges (length kinds) (NameNumber i))) k)

  no_text_stored : (o : Bool) (i : ℕ) (f : Form) (t : ℕ) (k : Instructions) → is_number f ≡ true → text_stored (layout p deepest ks F b M n) o i f t k ≡ k
  no_text_stored o i (PrimitiveAnswer a) t k e = refl
  no_text_stored o i NumberOrText t k e = cc
  no_text_stored o i OptionalNumber t k e = refl

  pub bare_global_set : (o : Bool) (f : Form) (i t : ℕ) (l : Locals) (y : Number) (σ : State) (K : List Label) (k : Instructions) → is_number f ≡ true → t < b.temporaries → l.hand t ≡ empty → l.number t ≡ Bits (I64 (number_word y)) → length σ.globals ≡ length p.globals → has_kind kinds i Unboxed ≡ true →
      TakesValue 14 (slot_set (layout p deepest ks F b M n) o (Global true i) f t k) k K l σ l (with_global i (Num y.number) σ)
  bare_global_set o f i t l y σ K k nf lt e e1 sz hk =
      let s = text_dropped_ok None i (word_put i t k) K l σ hk (bare_is (global_value i σ)) in
      let q = s.few in
      record {
        steps = s.steps + 2;
        few = omega (arith, q);
        goes = goes_from (ap (λ z. at ks [] K (laid b l) F (text_dropped (layout p deepest ks F b M n) i z) (beside_state p deepest ks F σ)) (no_text_stored o i f t (word_put i t k) nf))
            (then_goes s.goes (word_written i t (Num y.number) empty (number_word y) k K l σ lt e1 sz hk (beside_number y) (bare_number y)));
      }

  handed_word : (o : Bool) (t : ℕ) (l : Locals) → (handed o t l).number t ≡ l.number t
  handed_word true t l = refl
  handed_word false t l = refl

  -- a copy of what an unboxed name has
  pub copied_global_set : (o : Bool) (y : Value) (i t : ℕ) (l : Locals) (σ : State) (K : List Label) (k : Instructions) → t < b.temporaries → l.number t ≡ Bits (I64 (bare y)) → l.hand t ≡ beside y → is_mixed (mixed_of p.globals) i ≡ true → length σ.globals ≡ length p.globals → has_kind kinds i Unboxed ≡ true →
      TakesValue 20 (slot_set (layout p deepest ks F b M n) o (Global true i) NumberOrText t k) k K l σ (handed o t l) (with_global i y σ)
  copied_global_set o y i t l σ K k lt en eh mx sz hk = by (bare_is y)
    where
      nn : ℕ
      nn = length kinds

      text : Instructions
      text = handle_stored (layout p deepest ks F b M n) o t (GlobalSet (global_of p.ranges nn (NameHand i))) NoMore

      emptied : TextGone None i (number_is (number_local b t) text_beside (when text (word_put i t k))) K l σ
      emptied = text_dropped_ok None i (number_is (number_local b t) text_beside (when text (word_put i t k))) K l σ hk (bare_is (global_value i σ))

      tested : Goes (machine p deepest ks F) 2 (at ks [] K (laid b l) F (number_is (number_local b t) text_beside (when text (word_put i t k))) (hand_written i σ empty))
          (at ks (Bits (flag (nat_eq (bare y) text_beside)) ∷ []) K (laid b l) F (when text (word_put i t k)) (hand_written i σ empty))
      tested = number_is_ok b l t (bare y) text_beside lt en

      bare_set : nat_eq (bare y) text_beside ≡ false → beside y ≡ empty → TakesValue 20 (slot_set (layout p deepest ks F b M n) o (Global true i) NumberOrText t k) k K l σ (handed o t l) (with_global i y σ)
      bare_set ne e =
          let s = emptied in
          let q = s.few in
          record {
            steps = s.steps + (4 + 2);
            few = omega (arith, q);
            goes = then_goes s.goes
                (then_goes (then_goes (goes_to tested (ap (λ f. at ks (Bits (flag f) ∷ []) K (laid b l) F (when text (word_put i t k)) (hand_written i σ empty)) ne))
                (then_goes (chooses text NoMore 0) closes))
                (goes_to (word_written i t y empty (bare y) k K l σ lt en sz hk e refl)
                (ap (λ L. at ks [] K L F k (beside_state p deepest ks F (with_global i y σ))) (handed_same b o t l lt (eh ∙ e)))));
          }

      by : BareOf y → TakesValue 20 (slot_set (layout p deepest ks F b M n) o (Global true i) NumberOrText t k) k K l σ (handed o t l) (with_global i y σ)
      by (IsBeside eb e) =
          let g = globals_at σ in
          let g2 = with_global_at p.ranges nn g (NameHand i) empty in
          let li = kind_below kinds i Unboxed hk in
          let s = emptied in
          let h = hand_stored p deepest ks F b M n o t l (GlobalSet (global_of p.ranges nn (NameHand i))) (placed p.ranges nn g2) σ (λ v. laid b (handed o t l))
          (λ v. storing (placed p.ranges nn (with_global_at p.ranges nn g2 (NameHand i) (Held v))) (host_of σ None)) lt
          (λ v K k. global_set_ok p.ranges nn g2 (NameHand i) (Held v) li (ap is_owned (has_global_with p.ranges nn g (NameHand i) empty)) (mixed_comes p.ranges p.globals None i _ (Held v) mx)) y (label [] None (word_put i t k) ∷ K) NoMore (eh ∙ e) in
          let q = s.few in
          let hf = hand_few p deepest ks F b M n o in
          record {
            steps = s.steps + ((3 + (hand_work p deepest ks F b M n o + 1)) + 2);
            few = omega (arith, q, hf);
            goes = then_goes s.goes
                (then_goes (then_goes (then_goes (goes_to tested (ap (λ m. at ks (Bits (flag (nat_eq m text_beside)) ∷ []) K (laid b l) F (when text (word_put i t k)) (hand_written i σ empty)) eb)) (chooses text NoMore 1))
                (then_goes h (goes_to closes (ap (λ m. at ks [] K (laid b (handed o t l)) F (word_put i t k) (storing m (host_of σ None))) (placed_twice p.ranges nn g (NameHand i) empty (Held y) li)))))
                (word_written i t y (Held y) (bare y) k K (handed o t l) σ lt (handed_word o t l ∙ en) sz hk e refl));
          }
      by (IsNone q eb e) = bare_set (ap (λ z. nat_eq z text_beside) eb) e
      by (IsNumber m q eb e) = bare_set (ap (λ z. nat_eq z text_beside) eb ∙ word_not_beside m) e

  -- Any name.

  stored_gives : {A : Type 0} → (x : Slot) (v : Value) (a : A) (σ : State) → Gives a (stored_in x v σ) ≡ (store_slot x v >> give a) σ
  stored_gives (Global g i) v a σ = refl
  stored_gives (Parameter g i) v a σ = refl

  stored_turns : (x : Slot) (v : Value) (σ : State) → (stored_in x v σ).turns ≡ σ.turns
  stored_turns (Global g i) v σ = refl
  stored_turns (Parameter g i) v σ = refl

  -- what any name takes: a number where it is unboxed, a value where it is not
  abbrev pub takes_plain : Slot → Form → Bool
  takes_plain (Global true i) f = is_number f
  takes_plain (Global false i) f = fits f sort.Value
  takes_plain (Parameter true i) f = is_number f
  takes_plain (Parameter false i) f = fits f sort.Value

  taken_plain : (x : Slot) (f : Form) → takes_plain x f ≡ true → NoArray f
  taken_plain (Global true i) f e = number_plain f e
  taken_plain (Global false i) f e = value_plain f e
  taken_plain (Parameter true i) f e = number_plain f e
  taken_plain (Parameter false i) f e = value_plain f e

  stands_param : (o : Bool) (f : Form) (t i : ℕ) (l : Locals) (c : Cell) (x : Holds f) → StandsAt o f t l x → StandsAt o f t (with_at l (Param i) c) x
  stands_param true f t i l c x q = q
  stands_param false f t i l c x q = q

  -- nothing lends there
  abbrev Open : Slot → Type 0
  Open (Global true i) = lends p.lenders i ≡ false
  Open (Global false i) = Unit {0}
  Open (Parameter true i) = lender_at p.lenders i ≡ None
  Open (Parameter false i) = Unit {0}

  none_there : (o : Option ℕ) → is_some o ≡ false → o ≡ None
  none_there None h = refl
  none_there (Some g) h = cc

  open_taken : (x : Slot) (o : Option Slot) (f : Form) → takes (context p deepest ks F b M n) x o f ≡ true → Open x
  open_taken (Global true i) o f h = not-true (lends p.lenders i) (and_parts (not (lends p.lenders i)) _ h).0
  open_taken (Global false i) o f h = tt
  open_taken (Parameter true i) o f h = none_there (lender_at p.lenders i) (not-true (is_some (lender_at p.lenders i)) (and_parts (not (is_some (lender_at p.lenders i))) _ h).0)
  open_taken (Parameter false i) o f h = tt

  record Took (x : Slot) (o : Bool) (f : Form) (y : Holds f) (t u w : ℕ) (k : Instructions) (K : List Label) (l : Locals) (σ : State) : Type 0 where
    next : Locals
    takes_it : TakesValue 14 (slot_set (layout p deepest ks F b M n) o x f t k) k K l σ next (stored_in x (boxed f y) σ)
    fit : Fit p deepest ks F (suc t) u w next (stored_in x (boxed f y) σ)
    same : Same [] t w l next
    own : SameOwn p deepest ks F σ (stored_in x (boxed f y) σ)
    stands : StandsAt o f t next y

  param_apart : (i : ℕ) (k : Kind) (v : Value) (σ : State) → has_kind ks i k ≡ true → (k ≡ ArrayKind → ⊥) → SameOwn p deepest ks F σ (with_local i v σ)
  param_apart i k v σ h ne j q = ap array_in_local (get_or-set_other σ.own.locals i j (Scalar v) (Scalar Uninit) (kinds_apart p deepest ks F b M n i j k h q ne))

  took : (x : Slot) (o : Bool) (f : Form) (y : Holds f) (t u w : ℕ) (k : Instructions) (K : List Label) (l : Locals) (σ : State) → is_slot (context p deepest ks F b M n) x ≡ true → takes_plain x f ≡ true → Open x → length ks ≡ b.parameters → t < b.temporaries → Fit p deepest ks F (suc t) u w l σ → HoldsAt f t l y → Took x o f y t u w k K l σ
  took (Global false i) o f y t u w k K l σ hk tk op pk lt ft hd = record {
    next = handed o t l;
    takes_it = boxed_global_set o f y i t l σ K k lt tk hd ft.sound.names hk;
    fit = fit_global p deepest ks F b M n i (boxed f y) (suc t) u w (handed o t l) σ (boxed_lends (kinds_of p.globals) p.lenders i ft.sound.lend hk) (handed_fit p deepest ks F b M n o t (suc t) u w l σ (omega arith) ft);
    same = handed_under o t w l;
    own = λ j q. refl;
    stands = handed_stands o f t l y hd;
  }
  took (Global true i) o f y t u w k K l σ hk tk op pk lt ft hd =
      let nh = number_held f y tk t l hd in
      let s = bare_global_set o f i t l (number_of_form f y tk) σ K k tk lt nh.0 nh.1 ft.sound.names hk in
      record {
        next = l;
        takes_it = record { steps = s.steps; few = s.few; goes = goes_to s.goes (ap (λ v. at ks [] K (laid b l) F k (beside_state p deepest ks F (with_global i v σ))) (sym (number_boxed f y tk))) };
        fit = fit_global p deepest ks F b M n i (boxed f y) (suc t) u w l σ op ft;
        same = same_self [] t w l;
        own = λ j q. refl;
        stands = stands_number p deepest ks F b M n o f t l y nh.0 hd;
      }
  took (Parameter false i) o f y t u w k K l σ hk tk op pk lt ft hd =
      let v = boxed f y in
      let li = kind_below ks i Boxed hk in
      let sm = handed_under o t w l in
      record {
        next = with_at (handed o t l) (Param i) (Held v);
        takes_it = boxed_parameter_set o f y i t l (local_value i σ) σ K k lt tk hd (omega (arith, li, pk)) (ft.params i Boxed hk);
        fit = fit_param p deepest ks F b M n i Boxed v (Held v) (suc t) u w (handed o t l) σ hk refl (handed_fit p deepest ks F b M n o t (suc t) u w l σ (omega arith) ft);
        same = record { hands = sm.hands; numbers = sm.numbers; iterators = sm.iterators; arrays = sm.arrays };
        own = param_apart i Boxed v σ hk (λ z. cc);
        stands = stands_param o f t i (handed o t l) (Held v) y (handed_stands o f t l y hd);
      }
  took (Parameter true i) o f y t u w k K l σ hk tk op pk lt ft hd =
      let nh = number_held f y tk t l hd in
      let m = number_of_form f y tk in
      let nb = number_boxed f y tk in
      let li = kind_below ks i Unboxed hk in
      let c = Bits (I64 (number_word m)) in
      record {
        next = with_at l (Param i) c;
        takes_it = record {
          steps = 2;
          few = omega arith;
          goes = then_goes (get_copied b l (NumberAt t) c lt nh.1 refl) (set_ok b l (Param i) c (omega (arith, li, pk)) (ap is_owned (ft.params i Unboxed hk).1));
        };
        fit = fit_param p deepest ks F b M n i Unboxed (boxed f y) c (suc t) u w l σ hk (subst (λ z. BareParameter (lender_at p.lenders i) σ.globals z c) (sym nb) (number_taken (lender_at p.lenders i) σ.globals m)) ft;
        same = record { hands = λ z h q. refl; numbers = λ z h. refl; iterators = λ z. refl; arrays = λ z h. refl };
        own = param_apart i Unboxed (boxed f y) σ hk (λ z. cc);
        stands = stands_param o f t i l c y (stands_number p deepest ks F b M n o f t l y nh.0 hd);
      }

  -- where no copy of an unboxed name is stored
  pub set_plain : (x : Slot) (e : Code) → ((f : Form) → takes (context p deepest ks F b M n) x (source_of e) f ≡ true → takes_plain x f ≡ true) → ExprOk p deepest ks F b M n e → ExprOk p deepest ks F b M n (Set x e)
  unfolding emitted all_emitted evaluated all_evaluated sorted all_sorted
  set_plain x e plain ok v fs env ts st t u w d k K l σ so us rm ar rd =
      let mach = machine p deepest ks F in
      let ctx = context p deepest ks F b M n in
      let Q = Away p deepest ks F b d K in
      let f = form_of fs e in
      let P = Done p deepest ks F b M n v (Set x e) fs env ts st t u w k K l σ in
      let s1 = and_parts (is_slot ctx x) (takes ctx x (source_of e) f && sorted ctx fs e) so in
      let s2 = and_parts (takes ctx x (source_of e) f) (sorted ctx fs e) s1.1 in
      let tk = plain f s2.0 in
      let k1 = slot_set (layout p deepest ks F b M n) v x f t k in
      let r1 = room_one e in
      then_on mach M (work_of e) 14 (work_of (Set x e)) σ.turns _ (Done p deepest ks F b M n false e fs env ts st t u w k1 K l σ) P Q (meant p deepest ks F b M n fs env e σ) _ (omega arith)
      (ok false fs env ts st t u w d k1 K l σ s2.1 us rm ar rd)
      (λ y τ c1 le a.
      let g = took x v f y t u w k K a.next τ s1.0 tk (open_taken x (source_of e) f s2.0) rd.parameters (omega (arith, rm, r1)) a.fit (still_stands e f t a.next y a.stands) in
      let z = boxed f y in
      subst (λ r. Reached p deepest ks F b M 14 τ.turns c1 P Q r) (stored_gives x z y τ)
      (subst (λ m. Reached p deepest ks F b M 14 m c1 P Q (Gives y (stored_in x z τ))) (stored_turns x z τ)
      (there mach M 14 g.takes_it.steps c1 _ y (stored_in x z τ) P Q (goes_from a.comes g.takes_it.goes) g.takes_it.few
      (set_done x e v fs env ts st t u w k k1 K l g.next σ τ (stored_in x z τ) y c1 _ rd.below a refl g.fit g.same g.own g.stands (taken_plain x f tk)))))
