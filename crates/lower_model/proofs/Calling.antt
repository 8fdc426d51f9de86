-- Calls of functions: what is given stands in temporaries, is pushed, and the call does what it means; then the arrays that were made for it are freed.
-- That each call does what it means is a premise here (`CallsDo`).
use Rattle.std.proofs.Common.{◌≡◌, ◌⊎◌, inl, inr, ℕ, zero, suc, ◌+◌, ◌*◌, ◌<◌, ◌≤◌, true, List, [], ◌∷◌, ◌++◌, length, Option, Some, None, refl, sym, ap, ◌∙◌, subst, true≢false, arith}
use Rattle.std.specs.Prelude.{reverse, ◌&&◌, nat_lt, get_or}
use Rattle.std.proofs.lemmas.Bool.{and_parts, cases_eq, ltb-true, or_left, or_right}
use Rattle.std.proofs.lemmas.List.{length-map}
use Rattle.awk_values.specs.declared.value.Value.{Value}
use Rattle.awk_values.specs.declared.value.Value.TheVariants.{Uninit}
use Rattle.sem_primitives.specs.declared.sorts.Answer.TheVariants as answer
use Rattle.sem_primitives.specs.declared.sorts.Sort.TheVariants as sort
use Rattle.wasm_types.specs.Syntax.{Instructions}
use Rattle.wasm_types.specs.declared.instr.Simple.TheVariants.{Call as CallOf}
use Rattle.wasm_store.specs.declared.word.Word.TheVariants.{I64}
use Rattle.mid_program.specs.Mid.{Kind, Boxed, Unboxed, ArrayKind, Program, Routine, Form, PrimitiveAnswer, NumberOrText, OptionalNumber, a_value, Code, Call, Codes, End, At, Fixed, Fresh, form_of, source_of, parameters_at}
use Rattle.mid_program.specs.MidMeaning.{Holds, Values, evaluated, all_evaluated, boxed, array_in, locals_of}
use Rattle.sem_scripts.specs.Names.{ArrayName}
use Rattle.sem_scripts.specs.ScriptState.{State, Stop, Faulted, OutOfTurns, TooDeep, Nexted, Exited, Returned, Outcome, Gives, Stops, CallFrame, Local, Scalar, value_in_local, array_in_local, go_on, spent}
use Rattle.mid_program.specs.Sorted.{sorted, all_sorted, held_after_all, lender_at, fits, is_given, fit_call, is_array_place, context_of, calls_of, kinds_of}
use Rattle.lower_model.specs.Cells.{Cell, Bits, Held, OwnedArray, LentArray, Gone, is_owned, has_owner}
use Rattle.lower_model.specs.Emission.{array_meant, emitted, all_emitted, all_given, all_given_pushed, all_freed, function_number}
use Rattle.lower_model.specs.Machine.{Conf, Deep, Label, Frame, Store, array_kinds, at, br, owner_waits, loops_walked, makes_few, waits}
use Rattle.lower_model.specs.Noted.{noted_called}
use Rattle.lower_model.specs.Places.{Bases, made_in, arrays_among as arrays_in_codes}
use Rattle.lower_model.specs.Small.{emit, answer_kept}
use Rattle.lower_model.proofs.Observer.{Observer}
use Rattle.lower_model.proofs.Runs.{Goes, then_goes, goes_to, goes_from, stays, Arrives, knowing, Onward, reaches_on, first, then_on, then_step, within}
use Rattle.lower_model.proofs.Regions.{upd_same, upd_other}
use Rattle.lower_model.proofs.Locals.{Locals, Hand, Number as NumberAt, Array as Yard, local_of, with_at, has_with, laid, laid_at, laid_twice, laid_again}
use Rattle.lower_model.proofs.Steps.{empty, unanswered, get_moved, get_copied, tee_ok, moved_out_ok}
use Rattle.lower_model.proofs.State.{BareParameter, AnswerIs, answering, StoreLeft}
use Rattle.lower_model.proofs.Relation.{HoldsAt, Meant, IsArray, ParamIs, array_at, kept_same, same_then, Sound, SameLent, StopSound, StopLeaves, left_to, Fit, fit_state, fit_loose, fit_hand, fit_number, fit_array, fit_less, WasLeft, Away, holds_same}
use Rattle.lower_model.proofs.Pieces.{free_array_ok, answer_failed}
use Rattle.lower_model.proofs.Answers.{machine, beside_state}
use Rattle.lower_model.proofs.Answering.{taken_ok}
use Rattle.lower_model.proofs.Arrays.{owner_at, array_pushed_ok}
use Rattle.lower_model.proofs.Converting.{Converted, converted_ok}
use Rattle.lower_model.proofs.Lending.{Lends}
use Rattle.lower_model.proofs.Lent.{LentAt, IsLender, CopiesStand, lent_ok, all_stand}
use Rattle.lower_model.proofs.Arguments.{Under, under_self, under_then, under_keeps, onto_reverse}
use Rattle.lower_model.proofs.Operands.{all_held_same}
use Rattle.lower_model.proofs.Simulation.{work_of, works_of, extra_of, past, made_past, past_from, made_from, past_room, layout, context, all_meant, Done, ExprOk, AllHeld, AllDone, CodesOk, walking_same}
use Rattle.lower_model.proofs.Waiting.{freed_after, makes_few_there, waits_there}

-- an array is made for nothing but an array that the function is given
made_given : (lender : ℕ → Option ℕ) (fs : List Form) (pks : List Kind) (es : Codes) → fit_call lender fs pks es ≡ true → made_in es ≤ array_kinds pks
made_given lender fs [] End e = omega arith
made_given lender fs (Boxed ∷ pks) (At c es) e =
    let r = made_given (λ j. lender (suc j)) fs pks es (and_parts (is_given (lender zero) (source_of c) (form_of fs c) Boxed) (fit_call (λ j. lender (suc j)) fs pks es) e).1 in
    omega (arith, r)
made_given lender fs (Unboxed ∷ pks) (At c es) e =
    let r = made_given (λ j. lender (suc j)) fs pks es (and_parts (is_given (lender zero) (source_of c) (form_of fs c) Unboxed) (fit_call (λ j. lender (suc j)) fs pks es) e).1 in
    omega (arith, r)
made_given lender fs (ArrayKind ∷ pks) (At c es) e =
    let r = made_given (λ j. lender (suc j)) fs pks es (and_parts (is_given (lender zero) (source_of c) (form_of fs c) ArrayKind) (fit_call (λ j. lender (suc j)) fs pks es) e).1 in
    omega (arith, r)
made_given lender fs (ArrayKind ∷ pks) (Fresh es) e = let r = made_given (λ j. lender (suc j)) fs pks es e in omega (arith, r)
made_given lender fs pks es e = absurd (true≢false (sym e))

abbrev give_work : Codes → ℕ
give_work End = 0
give_work (At e es) = 16 + give_work es
give_work (Fixed m es) = give_work es
give_work (Fresh es) = give_work es

abbrev push_all_work : Codes → ℕ
push_all_work End = 0
push_all_work (At e es) = 2 + push_all_work es
push_all_work (Fixed m es) = push_all_work es
push_all_work (Fresh es) = 2 + push_all_work es

extra_for_call : (es : Codes) → give_work es + push_all_work es + 3 * made_in es ≤ extra_of es
extra_for_call End = omega arith
extra_for_call (At e es) = let r = extra_for_call es in omega (arith, r)
extra_for_call (Fixed m es) = extra_for_call es
extra_for_call (Fresh es) = let r = extra_for_call es in omega (arith, r)

made_enough : (es : Codes) → made_in es ≤ arrays_in_codes es
made_enough End = omega arith
made_enough (At e es) = let r = made_enough es in omega (arith, r)
made_enough (Fixed m es) = made_enough es
made_enough (Fresh es) = let r = made_enough es in omega (arith, r)

made_is : (w : ℕ) (es : Codes) → made_past w es ≡ w + made_in es
made_is w End = omega arith
made_is w (At e es) = made_is w es
made_is w (Fixed m es) = made_is w es
made_is w (Fresh es) = let r = made_is (suc w) es in omega (arith, r)

module _ (p : Program) (deepest : Observer) (ks : List Kind) (F : List Frame) (b : Bases) (M n : ℕ) where
  array_there : (f : Form) (x : Holds f) (a : ArrayName) (t : ℕ) (l : Locals) (σ : State) → fits f sort.Array ≡ true → HoldsAt f t l x → Meant p deepest ks F f x a σ → (l.hand t ≡ empty) × (array_at a σ ≡ array_in f x) × (is_array_place (context_of p ks) a ≡ true)
  array_there (PrimitiveAnswer (answer.Of sort.Array)) x a t l σ e hd m = (hd.0, m.0, m.1)
  array_there f x a t l σ e hd m = absurd (true≢false (sym e))

  -- what is given for parameters of these kinds, as it stands in temporaries
  abbrev GivenAt : (lender : ℕ → Option ℕ) (fs : List Form) (pks : List Kind) (es : Codes) (t w : ℕ) → Locals → State → Values fs es → Type 0
  GivenAt lender fs [] End t w l σ vs = Unit {0}
  GivenAt lender fs (Boxed ∷ pks) (At e es) t w l σ vs = (l.hand t ≡ Held (boxed (form_of fs e) vs.0)) × GivenAt (λ i. lender (suc i)) fs pks es (suc t) w l σ vs.1
  GivenAt lender fs (Unboxed ∷ pks) (At e es) t w l σ vs = LentAt (form_of fs e) (lender zero) σ.globals vs.0 t l × GivenAt (λ i. lender (suc i)) fs pks es (suc t) w l σ vs.1
  GivenAt lender fs (ArrayKind ∷ pks) (At e es) t w l σ vs = ((l.hand t ≡ empty) × (array_at (array_meant e) σ ≡ array_in (form_of fs e) vs.0) × (is_array_place (context_of p ks) (array_meant e) ≡ true)) × GivenAt (λ i. lender (suc i)) fs pks es (suc t) w l σ vs.1
  GivenAt lender fs (ArrayKind ∷ pks) (Fresh es) t w l σ vs = (l.array w ≡ OwnedArray vs.0) × GivenAt (λ i. lender (suc i)) fs pks es t (suc w) l σ vs.1
  GivenAt lender fs pks es t w l σ vs = ⊥

  record AllGiven (lender : ℕ → Option ℕ) (fs : List Form) (pks : List Kind) (es : Codes) (t q u y w : ℕ) (k : Instructions) (K : List Label) (l : Locals) (σ : State) (vs : Values fs es) : Type 0 where
    next : Locals
    steps : ℕ
    few : steps ≤ give_work es
    goes : Goes (machine p deepest ks F) steps (at ks [] K (laid b l) F (all_given (layout p deepest ks F b M n) fs pks es t k) (beside_state p deepest ks F σ)) (at ks [] K (laid b next) F k (beside_state p deepest ks F σ))
    fit : Fit p deepest ks F q u y next σ
    under : Under t l next
    given : GivenAt lender fs pks es t w next σ vs

  under_less : (t : ℕ) (l l1 : Locals) → Under (suc t) l l1 → Under t l l1
  under_less t l l1 a = record { hands = λ x h. a.hands x (omega (arith, h)); numbers = λ x h. a.numbers x (omega (arith, h)); iterators = a.iterators; arrays = a.arrays }

  all_given_ok : (lender : ℕ → Option ℕ) (from : (j g : ℕ) → lender j ≡ Some g → IsLender p g) (fs : List Form) (pks : List Kind) (es : Codes) (t q u y w : ℕ) (k : Instructions) (K : List Label) (l : Locals) (σ : State) (vs : Values fs es) → fit_call lender fs pks es ≡ true → CopiesStand p fs es vs σ → past t es ≤ q → past t es ≤ b.temporaries → Fit p deepest ks F q u y l σ → AllHeld p deepest ks F b M n fs es t w l σ vs → AllGiven lender fs pks es t q u y w k K l σ vs
  all_given_ok lender from fs [] End t q u y w k K l σ vs e cs lq lt ft hd = record { next = l; steps = 0; few = omega arith; goes = stays; fit = ft; under = under_self t l; given = tt }
  all_given_ok lender from fs (Boxed ∷ pks) (At c es) t q u y w k K l σ vs e cs lq lt ft hd =
      let ee = and_parts (fits (form_of fs c) sort.Value) (fit_call (λ j. lender (suc j)) fs pks es) e in
      let pf = past_from (suc t) es in
      let k1 = all_given (layout p deepest ks F b M n) fs pks es (suc t) k in
      let r = converted_ok p deepest ks F b M (form_of fs c) sort.Value vs.0 q u y t zero k1 K l σ ee.0 (omega (arith, pf, lq)) (omega (arith, pf, lt)) ft hd.0 in
      let x = r.holds in
      let few = r.cost.few in
      let z = all_given_ok (λ j. lender (suc j)) (λ j. from (suc j)) fs pks es (suc t) q u y w k K x.next σ vs.1 ee.1 cs.1 lq lt x.fit
      (all_held_same p deepest ks F b M n fs es (suc t) w l x.next σ σ vs.1 (λ j g. refl) (λ i le ly. x.keeps.hands i (λ g. omega (arith, g, le))) (λ i le ly. x.keeps.numbers i (λ g. omega (arith, g, le))) (λ i le ly. x.keeps.arrays i) hd.2) in
      let zf = z.few in
      record {
        next = z.next;
        steps = r.steps + z.steps;
        few = omega (arith, few, zf);
        goes = then_goes (goes_to (record { it = r.goes }) x.comes) z.goes;
        fit = z.fit;
        under = under_then t (suc t) l x.next z.next (omega arith) (under_keeps t t l x.next (omega arith) x.keeps) z.under;
        given = (z.under.hands t (omega arith) ∙ converted_hand c fs vs.0 q u y t k1 K l σ r.conf x, z.given);
      }
    where
      converted_hand : (c : Code) (fs : List Form) (v : Holds (form_of fs c)) (q u y t : ℕ) (k1 : Instructions) (K : List Label) (l : Locals) (σ : State) (cf : Conf) → (x : Converted p deepest ks F b M q u y t a_value k1 K l (boxed (form_of fs c) v) σ cf) → x.next.hand t ≡ Held (boxed (form_of fs c) v)
      converted_hand c fs v q u y t k1 K l σ cf x = x.holds.0
  all_given_ok lender from fs (Unboxed ∷ pks) (At c es) t q u y w k K l σ vs e cs lq lt ft hd =
      let ee = and_parts (is_given (lender zero) (source_of c) (form_of fs c) Unboxed) (fit_call (λ j. lender (suc j)) fs pks es) e in
      let pf = past_from (suc t) es in
      let k1 = all_given (layout p deepest ks F b M n) fs pks es (suc t) k in
      let r = lent_ok p deepest ks F b M n fs c vs.0 (lender zero) t q u y k1 K l σ ee.0 (λ g o. cs.0 g (from zero g o)) (omega (arith, pf, lq)) (omega (arith, pf, lt)) ft hd.0 in
      let few = r.few in
      let z = all_given_ok (λ j. lender (suc j)) (λ j. from (suc j)) fs pks es (suc t) q u y w k K r.next σ vs.1 ee.1 cs.1 lq lt r.fit
      (all_held_same p deepest ks F b M n fs es (suc t) w l r.next σ σ vs.1 (λ j g. refl) (λ i le ly. r.keeps.hands i (λ g. omega (arith, g, le))) (λ i le ly. r.keeps.numbers i (λ g. omega (arith, g, le))) (λ i le ly. r.keeps.arrays i) hd.2) in
      let zf = z.few in
      record {
        next = z.next;
        steps = r.steps + z.steps;
        few = omega (arith, few, zf);
        goes = then_goes r.goes z.goes;
        fit = z.fit;
        under = under_then t (suc t) l r.next z.next (omega arith) (under_keeps t t l r.next (omega arith) r.keeps) z.under;
        given = ((z.under.hands t (omega arith) ∙ r.given.0, subst (BareParameter (lender zero) σ.globals (boxed (form_of fs c) vs.0)) (sym (z.under.numbers t (omega arith))) r.given.1), z.given);
      }
  all_given_ok lender from fs (ArrayKind ∷ pks) (At c es) t q u y w k K l σ vs e cs lq lt ft hd =
      let ee = and_parts (fits (form_of fs c) sort.Array) (fit_call (λ j. lender (suc j)) fs pks es) e in
      let g = array_there (form_of fs c) vs.0 (array_meant c) t l σ ee.0 hd.0 hd.1 in
      let z = all_given_ok (λ j. lender (suc j)) (λ j. from (suc j)) fs pks es (suc t) q u y w k K l σ vs.1 ee.1 cs.1 lq lt ft hd.2 in
      let zf = z.few in
      record { next = z.next; steps = z.steps; few = omega (arith, zf); goes = z.goes; fit = z.fit; under = under_less t l z.next z.under; given = ((z.under.hands t (omega arith) ∙ g.0, g.1, g.2), z.given) }
  all_given_ok lender from fs (ArrayKind ∷ pks) (Fresh es) t q u y w k K l σ vs e cs lq lt ft hd =
      let z = all_given_ok (λ j. lender (suc j)) (λ j. from (suc j)) fs pks es t q u y (suc w) k K l σ vs.1 e cs lq lt ft hd.1 in
      record { next = z.next; steps = z.steps; few = z.few; goes = z.goes; fit = z.fit; under = z.under; given = (z.under.arrays w ∙ hd.0, z.given) }
  all_given_ok lender from fs pks es t q u y w k K l σ vs e cs lq lt ft hd = absurd (true≢false (sym e))

  -- The words of a call.

  -- an array that is lent: it is the program's, a caller's that waits, or one that was made for this call
  abbrev pub LentFor : (ℕ → Cell) → ℕ → Cell → Type 0
  LentFor owned a c = IsArray p deepest ks F a c ⊎ ((c ≡ LentArray a) × ((x : ℕ) × (x < b.arrays) × (owned x ≡ OwnedArray a)))

  abbrev WordFor : Option ℕ → List Value → (ℕ → Cell) → Kind → Local → Cell → Type 0
  WordFor lender gs owned Boxed o c = c ≡ Held (value_in_local o)
  WordFor lender gs owned Unboxed o c = BareParameter lender gs (value_in_local o) c
  WordFor lender gs owned ArrayKind o c = LentFor owned (array_in_local o) c

  abbrev WordsAt : (ℕ → Option ℕ) → List Value → (ℕ → Cell) → List Kind → List Local → List Cell → Type 0
  WordsAt lender gs owned [] [] [] = Unit {0}
  WordsAt lender gs owned (k ∷ pks) (o ∷ os) (c ∷ cs) = WordFor (lender zero) gs owned k o c × WordsAt (λ i. lender (suc i)) gs owned pks os cs
  WordsAt lender gs owned pks os cs = ⊥

  record AllPushed (lender : ℕ → Option ℕ) (fs : List Form) (pks : List Kind) (es : Codes) (t u y w : ℕ) (st : List Cell) (k : Instructions) (K : List Label) (l : Locals) (σ : State) (vs : Values fs es) : Type 0 where
    words : List Cell
    next : Locals
    steps : ℕ
    few : steps ≤ push_all_work es
    goes : Goes (machine p deepest ks F) steps (at ks st K (laid b l) F (all_given_pushed (layout p deepest ks F b M n) pks es t w k) (beside_state p deepest ks F σ)) (at ks (reverse words ++ st) K (laid b next) F k (beside_state p deepest ks F σ))
    fit : Fit p deepest ks F t u y next σ
    under : Under t l next
    given : WordsAt lender σ.globals l.array pks (locals_of fs pks es vs) words

  given_same : (lender : ℕ → Option ℕ) (fs : List Form) (pks : List Kind) (es : Codes) (t w : ℕ) (l l1 : Locals) (σ : State) (vs : Values fs es) → ((x : ℕ) → t ≤ x → l1.hand x ≡ l.hand x) → ((x : ℕ) → t ≤ x → l1.number x ≡ l.number x) → ((x : ℕ) → l1.array x ≡ l.array x) → GivenAt lender fs pks es t w l σ vs → GivenAt lender fs pks es t w l1 σ vs
  given_same lender fs [] End t w l l1 σ vs h m a g = tt
  given_same lender fs (Boxed ∷ pks) (At e es) t w l l1 σ vs h m a g = (h t (omega arith) ∙ g.0, given_same (λ i. lender (suc i)) fs pks es (suc t) w l l1 σ vs.1 (λ x le. h x (omega (arith, le))) (λ x le. m x (omega (arith, le))) a g.1)
  given_same lender fs (Unboxed ∷ pks) (At e es) t w l l1 σ vs h m a g = ((h t (omega arith) ∙ g.0.0, subst (BareParameter (lender zero) σ.globals (boxed (form_of fs e) vs.0)) (sym (m t (omega arith))) g.0.1), given_same (λ i. lender (suc i)) fs pks es (suc t) w l l1 σ vs.1 (λ x le. h x (omega (arith, le))) (λ x le. m x (omega (arith, le))) a g.1)
  given_same lender fs (ArrayKind ∷ pks) (At e es) t w l l1 σ vs h m a g = ((h t (omega arith) ∙ g.0.0, g.0.1, g.0.2), given_same (λ i. lender (suc i)) fs pks es (suc t) w l l1 σ vs.1 (λ x le. h x (omega (arith, le))) (λ x le. m x (omega (arith, le))) a g.1)
  given_same lender fs (ArrayKind ∷ pks) (Fresh es) t w l l1 σ vs h m a g = (a w ∙ g.0, given_same (λ i. lender (suc i)) fs pks es t (suc w) l l1 σ vs.1 h m a g.1)
  given_same lender fs pks es t w l l1 σ vs h m a g = absurd g

  all_given_pushed_ok : (lender : ℕ → Option ℕ) (fs : List Form) (pks : List Kind) (es : Codes) (t u y w : ℕ) (st : List Cell) (k : Instructions) (K : List Label) (l : Locals) (σ : State) (vs : Values fs es) → length ks ≡ b.parameters → past t es ≤ b.temporaries → made_past w es ≤ b.arrays → Fit p deepest ks F (past t es) u y l σ → GivenAt lender fs pks es t w l σ vs → AllPushed lender fs pks es t u y w st k K l σ vs
  all_given_pushed_ok lender fs [] End t u y w st k K l σ vs pk lt lw ft g = record { words = []; next = l; steps = 0; few = omega arith; goes = stays; fit = ft; under = under_self t l; given = tt }
  all_given_pushed_ok lender fs (Boxed ∷ pks) (At e es) t u y w st k K l σ vs pk lt lw ft g =
      let pf = past_from (suc t) es in
      let v = boxed (form_of fs e) vs.0 in
      let l1 = with_at l (Hand t) empty in
      let f1 = fit_hand p deepest ks F t (past (suc t) es) u y l σ empty (inl refl) (omega (arith, pf)) ft in
      let z = all_given_pushed_ok (λ i. lender (suc i)) fs pks es (suc t) u y w (Held v ∷ st) k K l1 σ vs.1 pk lt lw f1 (given_same (λ i. lender (suc i)) fs pks es (suc t) w l l1 σ vs.1 (λ x le. upd_other l.hand t x empty (λ q. omega (arith, q, le))) (λ x le. refl) (λ x. refl) g.1) in
      let zf = z.few in
      record {
        words = Held v ∷ z.words;
        next = z.next;
        steps = 2 + z.steps;
        few = omega (arith, zf);
        goes = goes_to (then_goes (moved_out_ok b l (Hand t) (Held v) (omega (arith, pf, lt)) g.0) z.goes) (ap (λ ws. at ks ws K (laid b z.next) F k (beside_state p deepest ks F σ)) (onto_reverse (Held v) z.words st));
        fit = fit_less p deepest ks F t u y z.next σ (z.under.hands t (omega arith) ∙ upd_same l.hand t empty) z.fit;
        under = record { hands = λ x h. z.under.hands x (omega (arith, h)) ∙ upd_other l.hand t x empty (λ q. omega (arith, q, h)); numbers = λ x h. z.under.numbers x (omega (arith, h)); iterators = z.under.iterators; arrays = z.under.arrays };
        given = (refl, z.given);
      }
  all_given_pushed_ok lender fs (Unboxed ∷ pks) (At e es) t u y w st k K l σ vs pk lt lw ft g =
      let pf = past_from (suc t) es in
      let m = g.0.1.0 in
      let c = Bits (I64 m) in
      let z = all_given_pushed_ok (λ i. lender (suc i)) fs pks es (suc t) u y w (c ∷ st) k K l σ vs.1 pk lt lw ft g.1 in
      let zf = z.few in
      record {
        words = c ∷ z.words;
        next = z.next;
        steps = 1 + z.steps;
        few = omega (arith, zf);
        goes = goes_to (then_goes (get_copied b l (NumberAt t) c (omega (arith, pf, lt)) g.0.1.1 refl) z.goes) (ap (λ ws. at ks ws K (laid b z.next) F k (beside_state p deepest ks F σ)) (onto_reverse c z.words st));
        fit = fit_less p deepest ks F t u y z.next σ (z.under.hands t (omega arith) ∙ g.0.0) z.fit;
        under = under_less t l z.next z.under;
        given = ((m, refl, g.0.1.2), z.given);
      }
  all_given_pushed_ok lender fs (ArrayKind ∷ pks) (At e es) t u y w st k K l σ vs pk lt lw ft g =
      let pf = past_from (suc t) es in
      let r = array_pushed_ok p deepest ks F b (array_meant e) (past (suc t) es) u y st (all_given_pushed (layout p deepest ks F b M n) pks es (suc t) w k) K l σ g.0.2 pk ft in
      let z = all_given_pushed_ok (λ i. lender (suc i)) fs pks es (suc t) u y w (r.cell ∷ st) k K l σ vs.1 pk lt lw ft g.1 in
      let rf = r.few in
      let zf = z.few in
      record {
        words = r.cell ∷ z.words;
        next = z.next;
        steps = r.steps + z.steps;
        few = omega (arith, rf, zf);
        goes = goes_to (then_goes r.goes z.goes) (ap (λ ws. at ks ws K (laid b z.next) F k (beside_state p deepest ks F σ)) (onto_reverse r.cell z.words st));
        fit = fit_less p deepest ks F t u y z.next σ (z.under.hands t (omega arith) ∙ g.0.0) z.fit;
        under = under_less t l z.next z.under;
        given = (inl (subst (λ a. IsArray p deepest ks F a r.cell) g.0.1 r.array), z.given);
      }
  all_given_pushed_ok lender fs (ArrayKind ∷ pks) (Fresh es) t u y w st k K l σ vs pk lt lw ft g =
      let mf = made_from (suc w) es in
      let a = vs.0 in
      let l1 = with_at l (Yard w) Gone in
      let k1 = all_given_pushed (layout p deepest ks F b M n) pks es t (suc w) k in
      let z = all_given_pushed_ok (λ i. lender (suc i)) fs pks es t u y (suc w) (LentArray a ∷ st) k K l σ vs.1 pk lt lw ft g.1 in
      let zf = z.few in
      record {
        words = LentArray a ∷ z.words;
        next = z.next;
        steps = 2 + z.steps;
        few = omega (arith, zf);
        goes = goes_to
            (then_goes (then_goes (get_moved b l (Yard w) (OwnedArray a) (omega (arith, mf, lw)) g.0)
            (goes_to (tee_ok b l1 (Yard w) (OwnedArray a) (omega (arith, mf, lw)) (ap is_owned (has_with l (Yard w) Gone)))
            (ap (λ L. at ks (LentArray a ∷ st) K L F k1 (beside_state p deepest ks F σ)) (laid_twice b l (Yard w) Gone (OwnedArray a) (omega (arith, mf, lw)) ∙ laid_again b l (Yard w) (OwnedArray a) (omega (arith, mf, lw)) g.0)))) z.goes)
            (ap (λ ws. at ks ws K (laid b z.next) F k (beside_state p deepest ks F σ)) (onto_reverse (LentArray a) z.words st));
        fit = z.fit;
        under = z.under;
        given = (inr (refl, (w, omega (arith, mf, lw), g.0)), z.given);
      }
  all_given_pushed_ok lender fs pks es t u y w st k K l σ vs pk lt lw ft g = absurd g

  -- Arrays that were made for a call are freed, the last one first.

  fit_yard_less : (t u y z : ℕ) (l : Locals) (σ : State) → z ≡ suc y → l.array y ≡ empty → Fit p deepest ks F t u z l σ → Fit p deepest ks F t u y l σ
  fit_yard_less t u y z l σ e q f = record {
    params = f.params;
    size = f.size;
    answer = f.answer;
    hands = f.hands;
    numbers = f.numbers;
    free = f.free;
    walks = f.walks;
    still = f.still;
    yards = f.yards;
    spare = λ x h. elim (cases_eq x y) [ inl r ↦ ap l.array r ∙ q | inr ne ↦ f.spare x (omega (arith, e, h, ne)) ];
    sound = f.sound;
  }

  record Freed (i w q u : ℕ) (k : Instructions) (K : List Label) (l : Locals) (σ : State) : Type 0 where
    next : Locals
    goes : Goes (machine p deepest ks F) (3 * i) (at ks [] K (laid b l) F (all_freed (layout p deepest ks F b M n) w i k) (beside_state p deepest ks F σ)) (at ks [] K (laid b next) F k (beside_state p deepest ks F σ))
    fit : Fit p deepest ks F q u w next σ
    hands : (x : ℕ) → next.hand x ≡ l.hand x
    numbers : (x : ℕ) → next.number x ≡ l.number x
    iterators : (x : ℕ) → next.iterator x ≡ l.iterator x
    arrays : (x : ℕ) → x < w → next.array x ≡ l.array x

  abbrev OwnedFrom : (w i : ℕ) → Locals → Type 0
  OwnedFrom w i l = (x : ℕ) → x < i → (a : ℕ) × (l.array (w + x) ≡ OwnedArray a)

  all_freed_ok : (i w q u z : ℕ) (k : Instructions) (K : List Label) (l : Locals) (σ : State) → z ≡ w + i → z ≤ b.arrays → Fit p deepest ks F q u z l σ → OwnedFrom w i l → Freed i w q u k K l σ
  all_freed_ok zero w q u z k K l σ e le ft ow =
      let y : z ≡ w = omega (arith, e) in
      record { next = l; goes = stays; fit = subst (λ x. Fit p deepest ks F q u x l σ) y ft; hands = λ x. refl; numbers = λ x. refl; iterators = λ x. refl; arrays = λ x h. refl }
  all_freed_ok (suc i) w q u z k K l σ e le ft ow =
      let o = ow i (omega arith) in
      let a = o.0 in
      let l1 = with_at l (Yard (w + i)) empty in
      let f1 = fit_yard_less q u (w + i) z l1 σ (omega (arith, e)) (upd_same l.array (w + i) empty) (fit_array p deepest ks F (w + i) q u z l σ empty (inl refl) (omega (arith, e)) ft) in
      let r = all_freed_ok i w q u (w + i) k K l1 σ refl (omega (arith, e, le)) f1 (λ x h. let y = ow x (omega (arith, h)) in (y.0, upd_other l.array (w + i) (w + x) empty (λ g. omega (arith, g, h)) ∙ y.1)) in
      let m : 2 + (1 + 3 * i) ≡ 3 * suc i = omega arith in
      record {
        next = r.next;
        goes = subst (λ s. Goes (machine p deepest ks F) s (at ks [] K (laid b l) F (all_freed (layout p deepest ks F b M n) w (suc i) k) (beside_state p deepest ks F σ)) (at ks [] K (laid b r.next) F k (beside_state p deepest ks F σ))) m
            (then_goes (moved_out_ok b l (Yard (w + i)) (OwnedArray a) (omega (arith, e, le)) o.1) (then_goes (free_array_ok a []) r.goes));
        fit = r.fit;
        hands = r.hands;
        numbers = r.numbers;
        iterators = r.iterators;
        arrays = λ x h. r.arrays x h ∙ upd_other l.array (w + i) x empty (λ g. omega (arith, g, h));
      }

  made_owned : (fs : List Form) (es : Codes) (t w : ℕ) (l : Locals) (σ : State) (vs : Values fs es) → AllHeld p deepest ks F b M n fs es t w l σ vs → OwnedFrom w (made_in es) l
  made_owned fs End t w l σ vs hd x h = absurd (omega (arith, h))
  made_owned fs (At e es) t w l σ vs hd x h = made_owned fs es (suc t) w l σ vs.1 hd.2 x h
  made_owned fs (Fixed m es) t w l σ vs hd x h = made_owned fs es t w l σ vs hd x h
  made_owned fs (Fresh es) t w l σ vs hd zero h = let e : w + 0 ≡ w = omega arith in (vs.0, ap l.array e ∙ hd.0)
  made_owned fs (Fresh es) t w l σ vs hd (suc x) h =
      let r = made_owned fs es t (suc w) l σ vs.1 hd.1 x (omega (arith, h)) in
      let e : w + suc x ≡ suc w + x = omega arith in
      (r.0, ap l.array e ∙ r.1)

  -- A call: the caller waits.

  abbrev pub waiting : List Label → List Cell → Instructions → Frame
  waiting K L rest = record { kinds = ks; under = []; labels = K; locals = L; rest = rest }

  -- what the parameters of a function have at its beginning, where Fs wait
  abbrev pub GivenTo : (lender : ℕ → Option ℕ) (globals : List Value) (kinds : List Kind) (Fs : List Frame) → List Kind → List Local → List Cell → Type 0
  GivenTo lender gs kinds Fs [] [] [] = Unit {0}
  GivenTo lender gs kinds Fs (k ∷ pks) (o ∷ os) (c ∷ cs) = ParamIs p deepest kinds Fs (lender zero) gs k o c × GivenTo (λ i. lender (suc i)) gs kinds Fs pks os cs
  GivenTo lender gs kinds Fs pks os cs = ⊥

  -- it came back with an answer
  pub record CameBack (K : List Label) (L : List Cell) (rest : Instructions) (σ : State) (v : Value) (σ1 : State) (c : Conf) : Type 0 where
    pub word : ℕ
    pub text : Cell
    pub is : AnswerIs v word text
    pub comes : c ≡ at ks (Bits (I64 word) ∷ []) K L F rest (answering p.ranges (kinds_of p.globals) text σ1)
    pub sound : Sound p deepest ks F σ1
    pub own : σ1.own ≡ σ.own
    pub lent : SameLent p deepest ks F σ σ1

  abbrev pub NoReturn : Stop → Type 0
  NoReturn (Returned v) = ⊥
  NoReturn why = Unit {0}

  -- it was left, or was too deep
  pub record LeftCall (K : List Label) (L : List Cell) (rest : Instructions) (why : Stop) (σ1 : State) (c : Conf) : Type 0 where
    pub store : Store
    pub left : StoreLeft p.ranges (kinds_of p.globals) why σ1 store
    pub comes : c ≡ left_to why (at ks (unanswered ∷ []) K L F rest store) (Deep store)
    pub none : NoReturn why
    pub after : StopSound p deepest ks F why σ1

  -- each call of a function does what it means
  abbrev pub CallsDo : Type 0
  CallsDo = (f : ℕ) (own : List Local) (words : List Cell) (K : List Label) (L : List Cell) (rest : Instructions) (σ : State) → f < length p.routines → waits ks K L rest ≡ true → makes_few (parameters_at (calls_of p) f) L ≡ true →
      GivenTo (lender_at p.lenders) σ.globals (parameters_at (calls_of p) f) (waiting K L rest ∷ F) (parameters_at (calls_of p) f) own words → Sound p deepest ks F σ → σ.turns ≤ n →
      Arrives (machine p deepest ks F) M 20 σ.turns (at ks (reverse words ++ []) K L F (emit (CallOf (function_number f)) rest) (beside_state p deepest ks F σ)) (CameBack K L rest σ) (LeftCall K L rest) (go_on (spent σ.turns σ) (λ x. noted_called deepest.notes p n f own))

  lent_live : (kinds : List Kind) (K : List Label) (rest : Instructions) (l l1 : Locals) (a : ℕ) (c : Cell) → ((x : ℕ) → l1.array x ≡ l.array x) → LentFor l.array a c → IsArray p deepest kinds (waiting K (laid b l1) rest ∷ F) a c
  lent_live kinds K rest l l1 a c same (inl (inl q)) = inl q
  lent_live kinds K rest l l1 a c same (inl (inr (e, inl lt))) = inr (e, inl lt)
  lent_live kinds K rest l l1 a c same (inl (inr (e, inr w))) = inr (e, inr (or_right (has_owner a (laid b l1)) (owner_waits a F) w))
  lent_live kinds K rest l l1 a c same (inr (e, q)) = inr (e, inr (or_left (has_owner a (laid b l1)) (owner_waits a F) (owner_at (laid b l1) (local_of b (Yard q.0)) a (laid_at b l1 (Yard q.0) q.1 ∙ (same q.0 ∙ q.2)))))

  to_given : (lender : ℕ → Option ℕ) (gs : List Value) (kinds : List Kind) (K : List Label) (rest : Instructions) (l l1 : Locals) (pks : List Kind) (os : List Local) (cs : List Cell) → ((x : ℕ) → l1.array x ≡ l.array x) → WordsAt lender gs l.array pks os cs → GivenTo lender gs kinds (waiting K (laid b l1) rest ∷ F) pks os cs
  to_given lender gs kinds K rest l l1 [] [] [] same q = tt
  to_given lender gs kinds K rest l l1 (Boxed ∷ pks) (o ∷ os) (c ∷ cs) same q = (q.0, to_given (λ i. lender (suc i)) gs kinds K rest l l1 pks os cs same q.1)
  to_given lender gs kinds K rest l l1 (Unboxed ∷ pks) (o ∷ os) (c ∷ cs) same q = (q.0, to_given (λ i. lender (suc i)) gs kinds K rest l l1 pks os cs same q.1)
  to_given lender gs kinds K rest l l1 (ArrayKind ∷ pks) (o ∷ os) (c ∷ cs) same q = (lent_live kinds K rest l l1 (array_in_local o) c same q.0, to_given (λ i. lender (suc i)) gs kinds K rest l l1 pks os cs same q.1)
  to_given lender gs kinds K rest l l1 pks os cs same q = absurd q

  -- The caller goes on.

  left_onward : {A : Type 0} → (j w w' l : ℕ) (c : Conf) (P : A → State → Conf → Type 0) (Q1 Q : Stop → State → Conf → Type 0) (r : Outcome A) → w + j ≤ w' → ((why : Stop) (σ : State) (c1 : Conf) → Q1 why σ c1 → Onward (machine p deepest ks F) M j (Q why σ) c1) →
      Arrives (machine p deepest ks F) M w l c P Q1 r → Arrives (machine p deepest ks F) M w' l c P Q r
  left_onward j w w' l c P Q1 Q (Gives a σ) h f r = within (machine p deepest ks F) M w w' l c P Q (Gives a σ) (omega (arith, h)) r
  left_onward j w w' l c P Q1 Q (Stops OutOfTurns σ) h f r = within (machine p deepest ks F) M w w' l c P Q (Stops OutOfTurns σ) (omega (arith, h)) r
  left_onward j w w' l c P Q1 Q (Stops (Faulted g) σ) h f r = reaches_on (machine p deepest ks F) M j w w' l σ.turns c (Q1 (Faulted g) σ) (Q (Faulted g) σ) h (f (Faulted g) σ) r
  left_onward j w w' l c P Q1 Q (Stops TooDeep σ) h f r = reaches_on (machine p deepest ks F) M j w w' l σ.turns c (Q1 TooDeep σ) (Q TooDeep σ) h (f TooDeep σ) r
  left_onward j w w' l c P Q1 Q (Stops Nexted σ) h f r = reaches_on (machine p deepest ks F) M j w w' l σ.turns c (Q1 Nexted σ) (Q Nexted σ) h (f Nexted σ) r
  left_onward j w w' l c P Q1 Q (Stops Exited σ) h f r = reaches_on (machine p deepest ks F) M j w w' l σ.turns c (Q1 Exited σ) (Q Exited σ) h (f Exited σ) r
  left_onward j w w' l c P Q1 Q (Stops (Returned v) σ) h f r = reaches_on (machine p deepest ks F) M j w w' l σ.turns c (Q1 (Returned v) σ) (Q (Returned v) σ) h (f (Returned v) σ) r

  -- what was not a value leaves the caller too
  -- a script in which something is called has functions
  stop_leaves : (why : Stop) (l : Locals) (σ : State) → (calls_of p ≡ [] → ⊥) → StopSound p deepest ks F why σ → StopLeaves p deepest ks F why l σ
  stop_leaves Nexted l σ some h = (h, λ e. absurd (some e))
  stop_leaves Exited l σ some h = (h, λ e. absurd (some e))
  stop_leaves (Faulted f) l σ some h = h
  stop_leaves (Returned v) l σ some h = h
  stop_leaves OutOfTurns l σ some h = h
  stop_leaves TooDeep l σ some h = h

  leaves_too : (t u y d : ℕ) (k : Instructions) (K : List Label) (l : Locals) (σ : State) (why : Stop) (σ1 : State) (c : Conf) → (calls_of p ≡ [] → ⊥) → t < b.temporaries → Fit p deepest ks F t u y l σ → LeftCall K (laid b l) (answer_kept b t d k) why σ1 c → Onward (machine p deepest ks F) M 9 (Away p deepest ks F b d K why σ1) c
  leaves_too t u y d k K l σ why σ1 c some lt ft a = by why a
    where
      l1 : Locals
      l1 = with_at l (NumberAt t) unanswered

      failed : (why : Stop) → ((x y : Conf) → left_to why x y ≡ x) → LeftCall K (laid b l) (answer_kept b t d k) why σ1 c → Onward (machine p deepest ks F) M 9 (WasLeft p deepest ks F b d K why σ1) c
      failed why g a = record {
        conf = br d ks K (laid b l1) F a.store;
        steps = 9;
        few = omega arith;
        goes = goes_from (a.comes ∙ g _ _) (answer_failed b l t d lt (ft.numbers t));
        holds = record {
          next = l1;
          store = a.store;
          left = a.left;
          comes = sym (g _ _);
          loose = fit_loose p deepest ks F t u y l1 σ (fit_number p deepest ks F t t u y l σ unanswered refl ft);
          answer = ft.answer;
          after = stop_leaves why l1 σ1 some a.after;
        };
      }

      by : (why : Stop) → LeftCall K (laid b l) (answer_kept b t d k) why σ1 c → Onward (machine p deepest ks F) M 9 (Away p deepest ks F b d K why σ1) c
      by TooDeep a = record { conf = c; steps = 0; few = omega arith; goes = stays; holds = record { next = l; store = a.store; left = a.left; comes = a.comes; loose = fit_loose p deepest ks F t u y l σ ft; answer = ft.answer; after = tt } }
      by (Faulted f) a = failed (Faulted f) (λ x z. refl) a
      by OutOfTurns a = failed OutOfTurns (λ x z. refl) a
      by Nexted a = failed Nexted (λ x z. refl) a
      by Exited a = failed Exited (λ x z. refl) a
      by (Returned v) a = absurd a.none

  pub call_expr : CallsDo → ((f : ℕ) (os : List Local) → Lends p (noted_called deepest.notes p n f os)) → (f : ℕ) (es : Codes) → CodesOk p deepest ks F b M n es → ExprOk p deepest ks F b M n (Call f es)
  unfolding emitted all_emitted evaluated all_evaluated sorted all_sorted
  call_expr calls lends f es oks v fs env ts st t u w d k K l σ so us rm ar rd =
      let mach = machine p deepest ks F in
      let lay = layout p deepest ks F b M n in
      let Q = Away p deepest ks F b d K in
      let P = Done p deepest ks F b M n v (Call f es) fs env ts st t u w k K l σ in
      let pks = parameters_at (calls_of p) f in
      let s1 = and_parts (nat_lt f (length (calls_of p))) (fit_call (lender_at p.lenders) fs pks es && all_sorted (context p deepest ks F b M n) fs es) so in
      let s2 = and_parts (fit_call (lender_at p.lenders) fs pks es) (all_sorted (context p deepest ks F b M n) fs es) s1.1 in
      let fl : f < length (calls_of p) = ltb-true f (length (calls_of p)) s1.0 in
      let ln = length-map p.routines (λ (r : Routine). r.parameters) in
      let k5 = all_freed lay w (made_in es) k in
      let k4 = answer_kept b t d k5 in
      let k3 = emit (CallOf (function_number f)) k4 in
      let k2 = all_given_pushed lay pks es t w k3 in
      let k1 = all_given lay fs pks es t k2 in
      let pr = past_room t es in
      let mw = made_is w es in
      let mm = made_enough es in
      let ex = extra_for_call es in
      let none = rd.none in
      let fb = freed_after lay w (made_in es) k in
      let mg = made_given (lender_at p.lenders) fs pks es s2.0 in
      let D = AllDone p deepest ks F b M n es fs env ts st t u w k1 K l σ in
      let X : Values fs es → State → Conf → Type 0 = λ vs τ c. D vs τ c × CopiesStand p fs es vs τ in
      then_on mach M (works_of es) (41 + extra_of es) (work_of (Call f es)) σ.turns _ X P Q (all_meant p deepest ks F b M n fs env es σ) _ (omega arith)
      (knowing mach M (works_of es) σ.turns _ D X Q (CopiesStand p fs es) (all_meant p deepest ks F b M n fs env es σ)
      (all_stand p rd.fit.sound.lend ks n (noted_called deepest.notes p n) lends fs env es σ s2.1) (λ vs τ c h q. (h, q))
      (oks fs env ts st t u w d k1 K l σ s2.1 us (omega (arith, rm)) ar rd))
      (λ vs τ c1 le ac.
      let a = ac.0 in
      let g = all_given_ok (lender_at p.lenders) (λ j g e. (j, e)) fs pks es t (past t es) u (made_past w es) w k2 K a.next τ vs s2.0 ac.1 (omega arith) (omega (arith, pr, rm)) a.fit a.held in
      let z = all_given_pushed_ok (lender_at p.lenders) fs pks es t u (made_past w es) w [] k3 K g.next τ vs rd.parameters (omega (arith, pr, rm)) (omega (arith, mw, mm, ar)) g.fit g.given in
      let gf = g.few in
      let zf = z.few in
      let own = locals_of fs pks es vs in
      first mach M (g.steps + z.steps) (41 + 3 * made_in es) (41 + extra_of es) τ.turns c1 _ P Q _ (goes_from a.comes (then_goes g.goes z.goes)) (omega (arith, gf, zf, ex))
      (then_step mach M (12 + 3 * made_in es) 29 (41 + 3 * made_in es) τ.turns _ (CameBack K (laid b z.next) k4 τ) P Q (go_on (spent τ.turns τ) (λ x. noted_called deepest.notes p n f own)) (omega arith)
      (λ x τ1 c2 cb.
      let f1 = fit_state p deepest ks F t u (made_past w es) z.next τ τ1 cb.own cb.lent cb.sound z.fit in
      let tk = taken_ok p deepest ks F b t u (made_past w es) d cb.word cb.text k5 K z.next τ1 x (omega (arith, rm)) f1 cb.is in
      let q = tk.few in
      let owned : OwnedFrom w (made_in es) tk.next = λ i lt. (let o = made_owned fs es t w a.next τ vs a.held i lt in (o.0, tk.keeps.arrays (w + i) ∙ (z.under.arrays (w + i) ∙ (g.under.arrays (w + i) ∙ o.1)))) in
      let r = all_freed_ok (made_in es) w (suc t) u (made_past w es) k K tk.next τ1 mw (omega (arith, mw, mm, ar)) tk.fit owned in
      let hands : (y : ℕ) → y < t → r.next.hand y ≡ a.next.hand y = λ y lt. r.hands y ∙ (tk.keeps.hands y (λ e. omega (arith, e, lt)) ∙ (z.under.hands y lt ∙ g.under.hands y lt)) in
      let numbers : (y : ℕ) → y < t → r.next.number y ≡ a.next.number y = λ y lt. r.numbers y ∙ (tk.keeps.numbers y (λ e. omega (arith, e, lt)) ∙ (z.under.numbers y lt ∙ g.under.numbers y lt)) in
      record {
        conf = at ks [] K (laid b r.next) F k (beside_state p deepest ks F τ1);
        steps = tk.steps + 3 * made_in es;
        few = omega (arith, q);
        goes = goes_from cb.comes (then_goes tk.goes r.goes);
        holds = record {
          next = r.next;
          comes = refl;
          fit = r.fit;
          same = same_then ts t t w w l a.next r.next (omega arith) (omega arith) a.same (record {
            hands = λ y lt o. hands y lt;
            numbers = numbers;
            iterators = λ y. r.iterators y ∙ (tk.keeps.iterators y ∙ (z.under.iterators y ∙ g.under.iterators y));
            arrays = λ y lt. r.arrays y lt ∙ (tk.keeps.arrays y ∙ (z.under.arrays y ∙ g.under.arrays y));
          });
          own = λ i q. ap (λ (o : CallFrame). array_in_local (get_or o.locals i (Scalar Uninit))) cb.own ∙ a.own i q;
          kept = kept_same fs ts (λ i. held_after_all i es (st i)) a.next r.next env t rd.below hands numbers a.kept;
          stands = holds_same NumberOrText t tk.next r.next x (r.hands t) (r.numbers t) tk.holds;
          meant = tt;
        };
      })
      (left_onward 9 20 29 τ.turns _ (CameBack K (laid b z.next) k4 τ) (LeftCall K (laid b z.next) k4) Q (go_on (spent τ.turns τ) (λ x. noted_called deepest.notes p n f own)) (omega arith)
      (λ why τ1 c2 q. leaves_too t u (made_past w es) d k5 K z.next τ why τ1 c2 (λ e. let none = ap length e in omega (arith, none, fl)) (omega (arith, rm)) z.fit q)
      (calls f own z.words K (laid b z.next) k4 τ (omega (arith, fl, ln)) (waits_there p deepest ks F b M n t u (made_past w es) d k5 K z.next τ z.fit (walking_same p deepest ks F b M n (loops_walked K) u l z.next (λ x. z.under.iterators x ∙ (g.under.iterators x ∙ a.same.iterators x)) rd.walking) rd.parameters (omega (arith, rm)) (omega (arith, mw, none, fb))) (makes_few_there p deepest ks F b M n t u (made_past w es) z.next τ z.fit rd.parameters pks (omega (arith, mw, none, mg))) (to_given (lender_at p.lenders) τ.globals pks K k4 g.next z.next pks own z.words z.under.arrays z.given) z.fit.sound (omega (arith, le, rd.turns))))))
