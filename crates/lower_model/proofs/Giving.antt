-- `return`: what a function's answer is, in all forms; what is chosen is returned where it is chosen.
use Rattle.std.proofs.Common.{◌≡◌, inl, ℕ, suc, ◌+◌, ◌<◌, ◌≤◌, Bool, true, false, List, [], ◌∷◌, Some, None, length, refl, sym, ap, ap₂, ◌∙◌, subst, arith, Option}
use Rattle.std.specs.Prelude.{◌&&◌, is_some, nat_eq, if◌then◌else◌}
use Rattle.std.proofs.lemmas.Bool.{and_parts}
use Rattle.awk_values.specs.declared.value.Value.{Value}
use Rattle.sem_primitives.specs.ConstantNumbers.{flag_number}
use Rattle.sem_primitives.specs.Numbers.{number_word}
use Rattle.sem_primitives.specs.declared.sorts.Answer.TheVariants as answer
use Rattle.sem_primitives.specs.declared.sorts.Sort.TheVariants as sort
use Rattle.wasm_types.specs.Syntax.{Instructions, Done as NoMore}
use Rattle.wasm_store.specs.declared.word.Word.TheVariants.{I64}
use Rattle.wasm_store.specs.Words.{flag}
use Rattle.mid_program.specs.Mid.{Kind, Unboxed, Program, Form, PrimitiveAnswer, NumberOrText, OptionalNumber, Code, Get, Parameter, Choose, form_of}
use Rattle.mid_program.specs.MidMeaning.{Holds, evaluated, all_evaluated, boxed, converted, truth_in}
use Rattle.sem_scripts.specs.ScriptState.{State, Returned, Outcome, Gives, Stops, Execution, give, go_on, local_value, settled, stop}
use Rattle.sem_scripts.specs.Statements.{Flow}
use Rattle.sem_scripts.specs.Steps.{truth_number}
use Rattle.mid_program.specs.Sorted.{There, fits, is_tested, kinds_of, sorted, all_sorted, test_sorted, lender_at}
use Rattle.lower_model.specs.Cells.{Cell, Bits, Held, Gone, is_owned}
use Rattle.lower_model.specs.Emission.{emitted, tested}
use Rattle.lower_model.specs.Machine.{Conf, Label, Frame, at, br, label}
use Rattle.lower_model.specs.Places.{Bases, room, arrays_in}
use Rattle.lower_model.specs.Quick.{pair_in}
use Rattle.lower_model.specs.Small.{emit_if, when, text_beside}
use Rattle.lower_model.specs.Statements.{answer_given, block, left_unless_pair, returned, text_given, word_given, parameter_returned}
use Rattle.lower_model.proofs.Observer.{Observer}
use Rattle.lower_model.proofs.Runs.{Goes, goes_to, goes_from, then_goes, by_steps, first, then_on, weaker, within, Reaches}
use Rattle.lower_model.proofs.Regions.{upd_same}
use Rattle.lower_model.proofs.Globals.{Text}
use Rattle.lower_model.proofs.GlobalSteps.{global_set_ok}
use Rattle.lower_model.proofs.Locals.{Locals, Param, Hand, Number as NumberAt, Answer, with_at, laid}
use Rattle.lower_model.proofs.Steps.{empty, get_copied, set_ok, moved_out_ok}
use Rattle.lower_model.proofs.State.{AnswerIs, TextWaits, Nothing, ANumber, bare, beside, BareOf, BareIs, IsBeside, IsNone, IsNumber, cells_of, perhaps, answering, word_not_beside, BareParameter}
use Rattle.lower_model.proofs.Relation.{HoldsAt, Fit, fit_hand, fit_less, fit_loose, Returns, Away, away_out}
use Rattle.lower_model.proofs.Reading.{kind_below}
use Rattle.lower_model.proofs.Conversions.{bare_is}
use Rattle.lower_model.proofs.Pieces.{chooses, closes, number_is_ok}
use Rattle.lower_model.proofs.Answers.{machine, beside_state, Reached}
use Rattle.lower_model.proofs.Converting.{flag_word}
use Rattle.lower_model.proofs.Simulation.{work_of, layout, context, meant, room_one, Done, ExprOk, still_stands}
use Rattle.lower_model.proofs.StatementForms.{Starts, ready, starts_among}
use Rattle.lower_model.proofs.Branches.{TestDone, test_meant, test_ok, one_way}
use Rattle.lower_model.proofs.QuickSteps.{Left, left_unless_pair_ok}

no_handle : (v : Value) → empty ≡ Held v → ⊥
no_handle v e = cc

-- one thing after another, and then a third
onward_twice : {A B C : Type 0} → (r : Outcome A) (f : A → Execution B) (g : B → Execution C) → go_on (go_on r f) g ≡ go_on r (λ a σ. go_on (f a σ) g)
onward_twice (Gives a σ) f g = refl
onward_twice (Stops why σ) f g = refl

onward_same : {A B : Type 0} → (r : Outcome A) (f g : A → Execution B) → ((a : A) (σ : State) → f a σ ≡ g a σ) → go_on r f ≡ go_on r g
onward_same (Gives a σ) f g h = h a σ
onward_same (Stops why σ) f g h = refl

module _ (p : Program) (deepest : Observer) (ks : List Kind) (F : List Frame) (b : Bases) (M n : ℕ) where
  abbrev names : ℕ
  names = length (kinds_of p.globals)

  -- some steps, and the function is left
  pub left_in : (w j m : ℕ) (c c1 : Conf) (P : Conf → Type 0) → Goes (machine p deepest ks F) j c c1 → j ≤ w → P c1 → Reaches (machine p deepest ks F) M w m c m P
  left_in w j m c c1 P g le q = record { conf = c1; steps = j; goes = g.it; cost = record { down = omega arith; paid = omega arith; few = omega (arith, le) }; holds = q }

  record Given (d : ℕ) (K : List Label) (v : Value) (σ : State) (c : Conf) : Type 0 where
    conf : Conf
    steps : ℕ
    few : steps ≤ 10
    goes : Goes (machine p deepest ks F) steps c conf
    holds : Returns p deepest ks F b d K v σ conf

  given_from : (j d : ℕ) (K : List Label) (v : Value) (σ : State) (c c1 : Conf) → Goes (machine p deepest ks F) j c c1 → (r : Given d K v σ c1) → j + r.steps ≤ 10 → Given d K v σ c
  given_from j d K v σ c c1 g r le = record { conf = r.conf; steps = j + r.steps; few = le; goes = then_goes g r.goes; holds = r.holds }

  -- a word is the answer, where nothing but iterators is held
  returns_word : (v : Value) (m : ℕ) (text : Cell) (u d : ℕ) (K : List Label) (l : Locals) (σ : State) → Fit p deepest ks F 0 u 0 l σ → AnswerIs v m text →
      Returns p deepest ks F b d K v σ (br (suc d) ks K (laid b (with_at l Answer (Bits (I64 m)))) F (answering p.ranges (kinds_of p.globals) text σ))
  returns_word v m text u d K l σ ft is =
      let lo = fit_loose p deepest ks F 0 u 0 l σ ft in
      record {
        next = with_at l Answer (Bits (I64 m));
        word = m;
        text = text;
        is = is;
        comes = refl;
        loose = record { params = lo.params; hands = lo.hands; numbers = lo.numbers; walks = lo.walks; yards = lo.yards };
        hands = λ x. ft.free x (omega arith);
        arrays = λ x. ft.spare x (omega arith);
        answer = refl;
        after = ft.sound;
      }

  -- the number of temporary 0
  word_given_ok : (v : Value) (m : ℕ) (text : Cell) (u d : ℕ) (k : Instructions) (K : List Label) (l : Locals) (σ : State) → 0 < b.temporaries → Fit p deepest ks F 0 u 0 l σ → l.number 0 ≡ Bits (I64 m) → AnswerIs v m text →
      (r : Given d K v σ (at ks [] K (laid b l) F (word_given (layout p deepest ks F b M n) d k) (answering p.ranges (kinds_of p.globals) text σ))) × (r.steps ≡ 3)
  word_given_ok v m text u d k K l σ lt ft e is = (
    record {
      conf = br (suc d) ks K (laid b (with_at l Answer (Bits (I64 m)))) F (answering p.ranges (kinds_of p.globals) text σ);
      steps = 3;
      few = omega arith;
      goes = then_goes (get_copied b l (NumberAt 0) (Bits (I64 m)) lt e refl) (then_goes (set_ok b l Answer (Bits (I64 m)) tt (ap is_owned ft.answer)) (by_steps 1 refl));
      holds = returns_word v m text u d K l σ ft is;
    },
    refl,
  )

  -- the handle of temporary 0 waits
  text_given_ok : {k : Instructions} (K : List Label) (l : Locals) (σ : State) (v : Value) → 0 < b.temporaries → l.hand 0 ≡ Held v →
      Goes (machine p deepest ks F) 3 (at ks [] K (laid b l) F (text_given (layout p deepest ks F b M n) k) (beside_state p deepest ks F σ)) (at ks [] K (laid b (with_at l (Hand 0) empty)) F k (answering p.ranges (kinds_of p.globals) (Held v) σ))
  text_given_ok K l σ v lt e =
      then_goes (moved_out_ok b l (Hand 0) (Held v) lt e)
      (global_set_ok p.ranges names (cells_of (kinds_of p.globals) 0 σ) Text (Held v) tt refl refl)

  emptied_fit : (u : ℕ) (l : Locals) (σ : State) → Fit p deepest ks F 1 u 0 l σ → Fit p deepest ks F 0 u 0 (with_at l (Hand 0) empty) σ
  emptied_fit u l σ ft = fit_less p deepest ks F 0 u 0 (with_at l (Hand 0) empty) σ (upd_same l.hand 0 empty) (fit_hand p deepest ks F 0 1 u 0 l σ empty (inl refl) (omega arith) ft)

  -- a number, or nothing yet
  plainly_given : (v : Value) (m : ℕ) (u d : ℕ) (k : Instructions) (K : List Label) (l : Locals) (σ : State) → 0 < b.temporaries → Fit p deepest ks F 1 u 0 l σ → l.hand 0 ≡ empty → l.number 0 ≡ Bits (I64 m) → AnswerIs v m Gone →
      Given d K v σ (at ks [] K (laid b l) F (word_given (layout p deepest ks F b M n) d k) (beside_state p deepest ks F σ))
  plainly_given v m u d k K l σ lt ft e en is = (word_given_ok v m Gone u d k K l σ lt (fit_less p deepest ks F 0 u 0 l σ e ft) en is).0

  perhaps_given : (x : Holds OptionalNumber) → AnswerIs (boxed OptionalNumber x) (perhaps x) Gone
  perhaps_given None = Nothing refl refl refl
  perhaps_given (Some m) = ANumber m refl refl refl

  bare_given : (v : Value) (m : ℕ) (u d : ℕ) (k : Instructions) (K : List Label) (l : Locals) (σ : State) → 0 < b.temporaries → Fit p deepest ks F 1 u 0 l σ → l.number 0 ≡ Bits (I64 m) → BareIs v m (l.hand 0) →
      Given d K v σ (at ks [] K (laid b l) F (answer_given (layout p deepest ks F b M n) NumberOrText d k) (beside_state p deepest ks F σ))
  bare_given v m u d k K l σ lt ft en (IsBeside e e1) =
      let y = layout p deepest ks F b M n in
      let l1 = with_at l (Hand 0) empty in
      let rest = word_given y d k in
      let w = word_given_ok v m (Held v) u d k K l1 σ lt (emptied_fit u l σ ft) en (TextWaits e refl) in
      given_from 7 d K v σ _ _
      (then_goes (then_goes (number_is_ok b l 0 text_beside text_beside lt (en ∙ ap (λ z. Bits (I64 z)) e)) (chooses (text_given y NoMore) NoMore 1)) (then_goes (text_given_ok (label [] None rest ∷ K) l σ v lt e1) closes)) w.0
      (let q = w.1 in omega (arith, q))
  bare_given v m u d k K l σ lt ft en (IsNone ev e e1) =
      let y = layout p deepest ks F b M n in
      let w = word_given_ok v m Gone u d k K l σ lt (fit_less p deepest ks F 0 u 0 l σ e1 ft) en (Nothing ev e refl) in
      given_from 4 d K v σ _ _ (then_goes (then_goes (goes_to (number_is_ok b l 0 m text_beside lt en) (ap (λ z. at ks (Bits (flag (nat_eq z text_beside)) ∷ []) K (laid b l) F (when (text_given y NoMore) (word_given y d k)) (beside_state p deepest ks F σ)) e)) (chooses (text_given y NoMore) NoMore 0)) closes) w.0
      (let q = w.1 in omega (arith, q))
  bare_given v m u d k K l σ lt ft en (IsNumber x ev e e1) =
      let y = layout p deepest ks F b M n in
      let w = word_given_ok v m Gone u d k K l σ lt (fit_less p deepest ks F 0 u 0 l σ e1 ft) en (ANumber x ev e refl) in
      given_from 4 d K v σ _ _
      (then_goes (then_goes (goes_to (number_is_ok b l 0 m text_beside lt en) (ap (λ f. at ks (Bits (flag f) ∷ []) K (laid b l) F (when (text_given y NoMore) (word_given y d k)) (beside_state p deepest ks F σ)) (ap (λ z. nat_eq z text_beside) e ∙ word_not_beside x))) (chooses (text_given y NoMore) NoMore 0)) closes) w.0
      (let q = w.1 in omega (arith, q))

  -- what temporary 0 has is the answer
  given_ok : (f : Form) (x : Holds f) (u d : ℕ) (k : Instructions) (K : List Label) (l : Locals) (σ : State) → fits f sort.Value ≡ true → 0 < b.temporaries → Fit p deepest ks F 1 u 0 l σ → HoldsAt f 0 l x →
      Given d K (boxed f x) σ (at ks [] K (laid b l) F (answer_given (layout p deepest ks F b M n) f d k) (beside_state p deepest ks F σ))
  given_ok (PrimitiveAnswer (answer.Of sort.Value)) x u d k K l σ e lt ft hd =
      let l1 = with_at l (Hand 0) empty in
      let f0 = emptied_fit u l σ ft in
      record {
        conf = br (suc d) ks K (laid b (with_at l1 Answer (Bits (I64 text_beside)))) F (answering p.ranges (kinds_of p.globals) (Held x) σ);
        steps = 5;
        few = omega arith;
        goes = then_goes (text_given_ok K l σ x lt hd.0) (then_goes (set_ok b l1 Answer (Bits (I64 text_beside)) tt (ap is_owned ft.answer)) (by_steps 1 refl));
        holds = returns_word x text_beside (Held x) u d K l1 σ f0 (TextWaits refl refl);
      }
  given_ok (PrimitiveAnswer (answer.Of sort.Number)) x u d k K l σ e lt ft hd = plainly_given (boxed (PrimitiveAnswer (answer.Of sort.Number)) x) (number_word x) u d k K l σ lt ft hd.0 hd.1 (ANumber x refl refl refl)
  given_ok (PrimitiveAnswer answer.Truth) x u d k K l σ e lt ft hd = plainly_given (boxed (PrimitiveAnswer answer.Truth) x) (flag_number x) u d k K l σ lt ft hd.0 hd.1 (ANumber (truth_number x) refl (flag_word x) refl)
  given_ok NumberOrText x u d k K l σ e lt ft hd = bare_given x hd.0 u d k K l σ lt ft hd.1 hd.2
  given_ok OptionalNumber x u d k K l σ e lt ft hd = plainly_given (boxed OptionalNumber x) (perhaps x) u d k K l σ lt ft hd.0 hd.1 (perhaps_given x)
  given_ok f x u d k K l σ e lt ft hd = cc

  -- what returning code means
  abbrev returning : Code → Execution Flow
  returning e σ = go_on (meant p deepest ks F b M n [] tt e σ) (λ x. stop {A = Flow} (Returned (boxed (form_of [] e) x)))

  -- `return` of code, from where a statement begins
  abbrev ReturnsBy : Code → ((d : ℕ) → Instructions → Instructions) → Type 1
  ReturnsBy e code = (u d : ℕ) (k : Instructions) (K : List Label) (l : Locals) (σ : State) (P : Flow → State → Conf → Type 0) → fits (form_of [] e) sort.Value ≡ true → sorted (context p deepest ks F b M n) [] e ≡ true → room e ≤ b.temporaries → arrays_in e ≤ b.arrays →
      Starts p deepest ks F b M n u K l σ →
      Reached p deepest ks F b M (work_of e + 20) σ.turns (at ks [] K (laid b l) F (code d k) (beside_state p deepest ks F σ)) P (Away p deepest ks F b d K) (returning e σ)

  alone_ok : (e : Code) → ExprOk p deepest ks F b M n e → ReturnsBy e (λ d k. emitted (layout p deepest ks F b M n) false [] [] e 0 0 d (answer_given (layout p deepest ks F b M n) (form_of [] e) d k))
  alone_ok e ok u d k K l σ P fit so rm ar s =
      let mach = machine p deepest ks F in
      let f = form_of [] e in
      let Q = Away p deepest ks F b d K in
      let k1 = answer_given (layout p deepest ks F b M n) f d k in
      let r1 = room_one e in
      then_on mach M (work_of e) 20 (work_of e + 20) σ.turns _ (Done p deepest ks F b M n false e [] tt [] (λ i. There) 0 u 0 k1 K l σ) P Q (meant p deepest ks F b M n [] tt e σ) _ (omega arith)
      (ok false [] tt [] (λ i. There) 0 u 0 d k1 K l σ so (λ i lt. absurd (omega (arith, lt))) (omega (arith, rm)) (omega (arith, ar)) (ready p deepest ks F b M n u K l σ s))
      (λ x τ c1 le h.
      let g = given_ok f x u d k K h.next τ fit (omega (arith, rm, r1)) h.fit (still_stands e f 0 h.next x h.stands) in
      let q = g.few in
      left_in 20 g.steps τ.turns c1 g.conf (Returns p deepest ks F b d K (boxed f x) τ) (goes_from h.comes g.goes) (omega (arith, q)) g.holds)

  abbrev pub ReturnOk : Code → Type 1
  ReturnOk e = ReturnsBy e (returned (layout p deepest ks F b M n) e)

  -- the word of an unboxed parameter is the answer's: no text stands beside it

  parameter_given : (v : Value) → beside v ≡ empty → BareOf v → AnswerIs v (bare v) Gone
  parameter_given v none (IsBeside e e1) = absurd (no_handle v (sym none ∙ e1))
  parameter_given v none (IsNone ev e e1) = Nothing ev e refl
  parameter_given v none (IsNumber x ev e e1) = ANumber x ev e refl

  -- where a global lends, the answer may be what that has
  parameter_by : (i : ℕ) → ExprOk p deepest ks F b M n (Get (Parameter true i)) → (o : Option ℕ) → lender_at p.lenders i ≡ o → ReturnsBy (Get (Parameter true i)) (parameter_returned (layout p deepest ks F b M n) o i)
  unfolding evaluated all_evaluated sorted all_sorted
  parameter_by i ok None e u d k K l σ P fit so rm ar s =
      let v = local_value i σ in
      let q = subst (λ o. BareParameter o σ.globals v (l.param i)) e (s.fit.params i Unboxed so) in
      let c = Bits (I64 (bare v)) in
      let lt = kind_below ks i Unboxed so in
      let pk = s.parameters in
      left_in (work_of (Get (Parameter true i)) + 20) 3 σ.turns _ (br (suc d) ks K (laid b (with_at l Answer c)) F (answering p.ranges (kinds_of p.globals) Gone σ)) (Returns p deepest ks F b d K v σ)
      (then_goes (get_copied b l (Param i) c (omega (arith, lt, pk)) (q.1 ∙ ap (λ m. Bits (I64 m)) q.2.0) refl) (then_goes (set_ok b l Answer c tt (ap is_owned s.fit.answer)) (by_steps 1 refl))) (omega arith)
      (returns_word v (bare v) Gone u d K l σ s.fit (parameter_given v q.2.1 (bare_is v)))
  parameter_by i ok (Some g) e u d k K l σ P fit so rm ar s = alone_ok (Get (Parameter true i)) ok u d k K l σ P fit so rm ar s

  parameter_ok : (i : ℕ) → ExprOk p deepest ks F b M n (Get (Parameter true i)) → ReturnOk (Get (Parameter true i))
  parameter_ok i ok = parameter_by i ok (lender_at p.lenders i) refl

  -- what is chosen is returned where it is chosen

  abbrev either_returning : Code → Code → Bool → Execution Flow
  either_returning a1 a2 t = if t then returning a1 else returning a2

  give_value : Value → Execution Flow
  give_value v = stop (Returned v)

  chosen_means : (c a1 a2 : Code) (σ : State) → go_on (test_meant p deepest ks F b M n c σ) (either_returning a1 a2) ≡ returning (Choose sort.Value c a1 a2) σ
  unfolding evaluated all_evaluated give_value
  chosen_means c a1 a2 σ =
      let g = form_of [] c in
      let way : Code → Execution Value = λ a τ. go_on (meant p deepest ks F b M n [] tt a τ) (λ x. settled (converted (form_of [] a) sort.Value x)) in
      let each : (t : Bool) (τ : State) → either_returning a1 a2 t τ ≡ go_on ((if t then way a1 else way a2) τ) give_value = λ t τ. elim t as (λ t1. either_returning a1 a2 t1 τ ≡ go_on ((if t1 then way a1 else way a2) τ) give_value) [
        | true ↦ sym (onward_twice (meant p deepest ks F b M n [] tt a1 τ) (λ x. settled (converted (form_of [] a1) sort.Value x)) give_value)
        | false ↦ sym (onward_twice (meant p deepest ks F b M n [] tt a2 τ) (λ x. settled (converted (form_of [] a2) sort.Value x)) give_value)
      ] in
      onward_twice (meant p deepest ks F b M n [] tt c σ) (λ x. give (truth_in g x)) (either_returning a1 a2)
      ∙ onward_same (meant p deepest ks F b M n [] tt c σ) (λ x τ. either_returning a1 a2 (truth_in g x) τ) (λ x τ. go_on ((if truth_in g x then way a1 else way a2) τ) give_value) (λ x τ. each (truth_in g x) τ)
      ∙ sym (onward_twice (meant p deepest ks F b M n [] tt c σ) (λ x. if truth_in g x then way a1 else way a2) give_value)

  -- one way, in a block or an `if`
  within_label : (a : Code) → ReturnOk a → (u d : ℕ) (k : Instructions) (K : List Label) (l : Locals) (σ : State) (P : Flow → State → Conf → Type 0) → fits (form_of [] a) sort.Value ≡ true → sorted (context p deepest ks F b M n) [] a ≡ true → room a ≤ b.temporaries → arrays_in a ≤ b.arrays →
      Starts p deepest ks F b M n u (label [] None k ∷ K) l σ →
      Reached p deepest ks F b M (work_of a + 20) σ.turns (at ks [] (label [] None k ∷ K) (laid b l) F (returned (layout p deepest ks F b M n) a (suc d) NoMore) (beside_state p deepest ks F σ)) P (Away p deepest ks F b d K) (returning a σ)
  within_label a ok u d k K l σ P fit so rm ar s =
      let K1 = label [] None k ∷ K in
      weaker (machine p deepest ks F) M (work_of a + 20) σ.turns _ P P (Away p deepest ks F b (suc d) K1) (Away p deepest ks F b d K) (returning a σ) (λ x τ c q. q) (λ why τ c q. away_out p deepest ks F b d (label [] None k) K why τ c q)
      (ok u (suc d) NoMore K1 l σ P fit so rm ar s)

  chosen_ok : (c a1 a2 : Code) → ExprOk p deepest ks F b M n c → ReturnOk a1 → ReturnOk a2 → ReturnOk (Choose sort.Value c a1 a2)
  unfolding sorted all_sorted
  chosen_ok c a1 a2 okc ok1 ok2 u d k K l σ P fit so rm ar s =
      subst (λ o. Reached p deepest ks F b M (work_of (Choose sort.Value c a1 a2) + 20) σ.turns (at ks [] K (laid b l) F (returned (layout p deepest ks F b M n) (Choose sort.Value c a1 a2) d k) (beside_state p deepest ks F σ)) P (Away p deepest ks F b d K) o) (chosen_means c a1 a2 σ) (by (is_some (pair_in c)))
    where
      A : Instructions
      A = returned (layout p deepest ks F b M n) a1 (suc d) NoMore

      B : Instructions
      B = returned (layout p deepest ks F b M n) a2 (suc d) NoMore

      after : Instructions
      after = returned (layout p deepest ks F b M n) a2 d k

      K1 : List Label
      K1 = label [] None k ∷ K

      K2 : List Label
      K2 = label [] None after ∷ K

      w : ℕ
      w = (work_of a1 + work_of a2) + 20

      W : ℕ
      W = work_of (Choose sort.Value c a1 a2) + 20

      parts : (test_sorted (context p deepest ks F b M n) c ≡ true) × (fits (form_of [] a1) sort.Value ≡ true) × (fits (form_of [] a2) sort.Value ≡ true) × (sorted (context p deepest ks F b M n) [] a1 ≡ true) × (sorted (context p deepest ks F b M n) [] a2 ≡ true)
      parts =
          let ctx = context p deepest ks F b M n in
          let s2 = and_parts (is_tested (form_of [] c)) (fits (form_of [] a1) sort.Value && (fits (form_of [] a2) sort.Value && (sorted ctx [] c && (sorted ctx [] a1 && sorted ctx [] a2)))) so in
          let s3 = and_parts (fits (form_of [] a1) sort.Value) (fits (form_of [] a2) sort.Value && (sorted ctx [] c && (sorted ctx [] a1 && sorted ctx [] a2))) s2.1 in
          let s4 = and_parts (fits (form_of [] a2) sort.Value) (sorted ctx [] c && (sorted ctx [] a1 && sorted ctx [] a2)) s3.1 in
          let s5 = and_parts (sorted ctx [] c) (sorted ctx [] a1 && sorted ctx [] a2) s4.1 in
          let s6 = and_parts (sorted ctx [] a1) (sorted ctx [] a2) s5.1 in
          (ap₂ (λ t q. t && q) s2.0 s5.0, s3.0, s4.0, s6.0, s6.1)

      plain : Reached p deepest ks F b M W σ.turns (at ks [] K (laid b l) F (tested (layout p deepest ks F b M n) [] [] c 0 0 d (emit_if A B k)) (beside_state p deepest ks F σ)) P (Away p deepest ks F b d K) (go_on (test_meant p deepest ks F b M n c σ) (either_returning a1 a2))
      plain =
          then_on (machine p deepest ks F) M (work_of c + 14) (1 + w) W σ.turns _ (TestDone p deepest ks F b M n (emit_if A B k) K u l) P (Away p deepest ks F b d K) (test_meant p deepest ks F b M n c σ) _ (omega arith)
          (test_ok p deepest ks F b M n c okc u d (emit_if A B k) K l σ parts.0 (omega (arith, rm)) (omega (arith, ar)) s)
          (λ t τ c1 le h.
          let h1 = starts_among p deepest ks F b M n u K K1 h.next τ refl h.starts in
          first (machine p deepest ks F) M 1 w (1 + w) τ.turns c1 _ P (Away p deepest ks F b d K) _ (goes_from h.comes (chooses A B (flag_number t))) (omega arith)
          (one_way p deepest ks F b M n t w τ.turns K1 (laid b h.next) A B τ P (Away p deepest ks F b d K) (returning a1) (returning a2)
          (within (machine p deepest ks F) M (work_of a1 + 20) w τ.turns _ P (Away p deepest ks F b d K) (returning a1 τ) (omega arith) (within_label a1 ok1 u d k K h.next τ P parts.1 parts.3 (omega (arith, rm)) (omega (arith, ar)) h1))
          (within (machine p deepest ks F) M (work_of a2 + 20) w τ.turns _ P (Away p deepest ks F b d K) (returning a2 τ) (omega arith) (within_label a2 ok2 u d k K h.next τ P parts.2 parts.4 (omega (arith, rm)) (omega (arith, ar)) h1))))

      way : (t : Bool) (τ : State) (c1 : Conf) → Left p deepest ks F b M n 0 A K2 u l t τ c1 → Reached p deepest ks F b M w τ.turns c1 P (Away p deepest ks F b d K) (either_returning a1 a2 t τ)
      way true τ c1 h =
          first (machine p deepest ks F) M 0 (work_of a1 + 20) w τ.turns c1 _ P (Away p deepest ks F b d K) (returning a1 τ) (record { it = h.comes }) (omega arith)
          (within_label a1 ok1 u d after K h.next τ P parts.1 parts.3 (omega (arith, rm)) (omega (arith, ar)) h.starts)
      way false τ c1 h =
          first (machine p deepest ks F) M 0 (work_of a2 + 20) w τ.turns c1 _ P (Away p deepest ks F b d K) (returning a2 τ) (record { it = h.comes }) (omega arith)
          (ok2 u d k K h.next τ P parts.2 parts.4 (omega (arith, rm)) (omega (arith, ar)) (starts_among p deepest ks F b M n u K2 K h.next τ refl h.starts))

      quick : Reached p deepest ks F b M W σ.turns (at ks [] K (laid b l) F (block (left_unless_pair (layout p deepest ks F b M n) (pair_in c) c (suc d) 0 A) after) (beside_state p deepest ks F σ)) P (Away p deepest ks F b d K) (go_on (test_meant p deepest ks F b M n c σ) (either_returning a1 a2))
      quick =
          first (machine p deepest ks F) M 1 ((work_of c + 24) + w) W σ.turns _ (at ks [] K2 (laid b l) F (left_unless_pair (layout p deepest ks F b M n) (pair_in c) c (suc d) 0 A) (beside_state p deepest ks F σ)) P (Away p deepest ks F b d K) _ (by_steps 1 refl) (omega arith)
          (then_on (machine p deepest ks F) M (work_of c + 24) w ((work_of c + 24) + w) σ.turns _ (Left p deepest ks F b M n 0 A K2 u l) P (Away p deepest ks F b d K) (test_meant p deepest ks F b M n c σ) _ (omega arith)
          (weaker (machine p deepest ks F) M (work_of c + 24) σ.turns _ (Left p deepest ks F b M n 0 A K2 u l) (Left p deepest ks F b M n 0 A K2 u l) (Away p deepest ks F b (suc d) K2) (Away p deepest ks F b d K) (test_meant p deepest ks F b M n c σ) (λ t τ c1 q. q) (λ why τ c1 q. away_out p deepest ks F b d (label [] None after) K why τ c1 q)
          (left_unless_pair_ok p deepest ks F b M n c okc u (suc d) 0 A K2 l σ parts.0 (omega (arith, rm)) (omega (arith, ar)) (starts_among p deepest ks F b M n u K K2 l σ refl s)))
          (λ t τ c1 le h. way t τ c1 h))

      by : (j : Bool) → Reached p deepest ks F b M W σ.turns (at ks [] K (laid b l) F (if j then block (left_unless_pair (layout p deepest ks F b M n) (pair_in c) c (suc d) 0 A) after else tested (layout p deepest ks F b M n) [] [] c 0 0 d (emit_if A B k)) (beside_state p deepest ks F σ)) P (Away p deepest ks F b d K) (go_on (test_meant p deepest ks F b M n c σ) (either_returning a1 a2))
      by true = quick
      by false = plain

  -- `return` of any code
  pub returned_ok : ((e : Code) → ExprOk p deepest ks F b M n e) → (e : Code) → ReturnOk e
  returned_ok oks (Choose sort.Value c a1 a2) = chosen_ok c a1 a2 (oks c) (returned_ok oks a1) (returned_ok oks a2)
  returned_ok oks (Get (Parameter true i)) = parameter_ok i (oks (Get (Parameter true i)))
  returned_ok oks e = alone_ok e (oks e)
