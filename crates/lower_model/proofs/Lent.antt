-- What an unboxed parameter is given: a number, nothing, or a copy of what lends at its place, of which the word alone is given.
use Rattle.std.proofs.Common.{◌≡◌, ◌⊎◌, inl, inr, ℕ, suc, ◌+◌, ◌<◌, ◌≤◌, Bool, true, false, ◌||◌, List, [], ◌∷◌, Option, Some, None, refl, sym, ap, ◌∙◌, true≢false, arith}
use Rattle.std.specs.Prelude.{get_or, nat_eq}
use Rattle.std.proofs.lemmas.Bool.{and_parts, eqb-true}
use Rattle.awk_values.specs.declared.value.Value.{Value}
use Rattle.awk_values.specs.declared.value.Value.TheVariants.{Uninit}
use Rattle.wasm_types.specs.Syntax.{Instructions, Done}
use Rattle.wasm_store.specs.Words.{flag}
use Rattle.wasm_store.specs.declared.word.Word.TheVariants.{I64}
use Rattle.mid_program.specs.Mid.{Kind, Slot, Global, Parameter, Program, Form, PrimitiveAnswer, NumberOrText, OptionalNumber, Code, Get, Codes, End, At, Fixed, Fresh, form_of, source_of}
use Rattle.mid_program.specs.MidMeaning.{Holds, Env, Values, boxed, evaluated, all_evaluated}
use Rattle.mid_program.specs.Sorted.{Context, context_of, kinds_of, calls_of, lender_at, are_lenders, is_number, is_copy_of, is_lent, are_missing, sorted, all_sorted}
use Rattle.sem_primitives.specs.declared.table.Primitive.TheVariants as row
use Rattle.sem_scripts.specs.ScriptState.{State, Local, Outcome, Gives, Stops, Execution, go_on, call, global_value}
use Rattle.sem_scripts.specs.Meaning.{Calls}
use Rattle.lower_model.specs.Cells.{Cell, Bits, Held}
use Rattle.lower_model.specs.Emission.{lent}
use Rattle.lower_model.specs.Machine.{Label, Frame, at}
use Rattle.lower_model.specs.Places.{Bases, handle_local, number_local}
use Rattle.lower_model.specs.Small.{ask, emit, when, moved_out, least, text_beside}
use Rattle.lower_model.proofs.Observer.{Observer}
use Rattle.lower_model.proofs.Runs.{Known, Goes, then_goes, goes_to, stays, by_steps}
use Rattle.lower_model.proofs.Regions.{upd_same}
use Rattle.lower_model.proofs.Locals.{Locals, Hand, Number as NumberAt, with_at, laid}
use Rattle.lower_model.proofs.Steps.{empty, set_ok, moved_out_ok}
use Rattle.lower_model.proofs.State.{bare, beside, bare_number, beside_number, word_not_beside, BareIs, IsBeside, IsNone, IsNumber, BareParameter, LentStays}
use Rattle.lower_model.proofs.Relation.{HoldsAt, Fit, fit_hand, fit_number}
use Rattle.lower_model.proofs.Pieces.{chooses, closes, number_is_ok, drop_ok}
use Rattle.lower_model.proofs.Answers.{machine, beside_state}
use Rattle.lower_model.proofs.Converting.{Keeps, keeps_self, keeps_then, keeps_hand, keeps_number}
use Rattle.lower_model.proofs.Setting.{number_of_form, number_boxed, number_held}
use Rattle.lower_model.proofs.Simulation.{layout}
use Rattle.lower_model.proofs.Lending.{Lends, Stays, state_at, code_lends, codes_lends}
use Rattle.host_imports.specs.declared.import.Import.TheVariants.{Drop}
use Rattle.wasm_types.specs.declared.instr.Simple.TheVariants.{LocalSet, I64Const}

-- what stands in a temporary, of this form, is what an unboxed parameter has
abbrev pub LentAt : (f : Form) → Option ℕ → (globals : List Value) → Holds f → ℕ → Locals → Type 0
LentAt f o globals x t l = (l.hand t ≡ empty) × BareParameter o globals (boxed f x) (l.number t)

number_given : (f : Form) (x : Holds f) (o : Option ℕ) (globals : List Value) (t : ℕ) (l : Locals) → is_number f ≡ true → HoldsAt f t l x → LentAt f o globals x t l
number_given f x None globals t l e q =
    let nh = number_held f x e t l q in
    let nb = number_boxed f x e in
    let y = number_of_form f x e in
    (nh.0, (_, nh.1, (sym (ap bare nb ∙ bare_number y), ap beside nb ∙ beside_number y)))
number_given f x (Some g) globals t l e q = let nh = number_held f x e t l q in (nh.0, (_, nh.1, inl (number_of_form f x e, number_boxed f x e, refl)))

-- a number or nothing, where nothing lends
unlent_given : (f : Form) (x : Holds f) (r : Option Slot) (globals : List Value) (t : ℕ) (l : Locals) → is_lent None r f ≡ true → HoldsAt f t l x → LentAt f None globals x t l
unlent_given OptionalNumber None r globals t l e q = (q.0, (_, q.1, (refl, refl)))
unlent_given OptionalNumber (Some m) r globals t l e q = (q.0, (_, q.1, (sym (bare_number m), beside_number m)))
unlent_given (PrimitiveAnswer a) x r globals t l e q = number_given (PrimitiveAnswer a) x None globals t l e q
unlent_given NumberOrText x r globals t l e q = absurd (true≢false (sym e))

one_of : (a b : Bool) → (a || b) ≡ true → (a ≡ true) ⊎ (b ≡ true)
one_of true b e = inl refl
one_of false b e = inr e

-- a copy of what lends is read from it, and is perhaps a text
pub copied_lender : (g : ℕ) (c : Code) → is_copy_of g (source_of c) ≡ true → c ≡ Get (Global true g)
copied_lender g (Get (Global true i)) e = ap (λ j. Get (Global true j)) (sym (eqb-true g i e))
copied_lender g (Get (Global false i)) e = cc
copied_lender g (Get (Parameter u i)) e = cc
copied_lender g c e = cc

plain_no_copy : (fs : List Form) (g : ℕ) (c : Code) (f : Form) → form_of fs c ≡ f → is_copy_of g (source_of c) ≡ true → f ≡ NumberOrText
plain_no_copy fs g c f e h = sym e ∙ ap (form_of fs) (copied_lender g c h)

module _ (p : Program) (deepest : Observer) (ks : List Kind) (F : List Frame) (b : Bases) (M n : ℕ) where
  pub record LentDone (f : Form) (x : Holds f) (o : Option ℕ) (t q u y : ℕ) (k : Instructions) (K : List Label) (l : Locals) (σ : State) : Type 0 where
    pub next : Locals
    pub steps : ℕ
    pub few : steps ≤ 12
    pub goes : Goes (machine p deepest ks F) steps (at ks [] K (laid b l) F (lent (layout p deepest ks F b M n) f t k) (beside_state p deepest ks F σ)) (at ks [] K (laid b next) F k (beside_state p deepest ks F σ))
    pub fit : Fit p deepest ks F q u y next σ
    pub keeps : Keeps t l next
    pub given : LentAt f o σ.globals x t next

  -- a copy of what lends
  lent_copy : (x : Value) (g t q u y : ℕ) (k : Instructions) (K : List Label) (l : Locals) (σ : State) → x ≡ global_value g σ → t < q → t < b.temporaries → Fit p deepest ks F q u y l σ → HoldsAt NumberOrText t l x →
      LentDone NumberOrText x (Some g) t q u y k K l σ
  lent_copy x g t q u y k K l σ e lq lt ft hd =
      let lay = layout p deepest ks F b M n in
      let S = beside_state p deepest ks F σ in
      let m = hd.0 in
      let dropping = moved_out (handle_local b t) (ask Drop (emit (I64Const least) (emit (LocalSet (number_local b t)) Done))) in
      let shown : (f : Bool) → nat_eq m text_beside ≡ f → Goes (machine p deepest ks F) 2 (at ks [] K (laid b l) F (lent lay NumberOrText t k) S) (at ks (Bits (flag f) ∷ []) K (laid b l) F (when dropping k) S) =
      λ f h. goes_to (number_is_ok b l t m text_beside lt hd.1) (ap (λ z. at ks (Bits (flag z) ∷ []) K (laid b l) F (when dropping k) S) h) in
      let none : nat_eq m text_beside ≡ false → l.hand t ≡ empty → BareParameter (Some g) σ.globals x (l.number t) → LentDone NumberOrText x (Some g) t q u y k K l σ = λ h he given. record {
        next = l;
        steps = 2 + (1 + 1);
        few = omega arith;
        goes = then_goes (shown false h) (then_goes (chooses dropping Done 0) closes);
        fit = ft;
        keeps = keeps_self t l;
        given = (he, given);
      } in
      elim hd.2 [
        | IsBeside em eh ↦
            let l1 = with_at l (Hand t) empty in
            let l2 = with_at l1 (NumberAt t) (Bits (I64 least)) in
            record {
              next = l2;
              steps = 2 + (1 + (2 + (1 + (1 + 1))));
              few = omega arith;
              goes = then_goes (shown true (ap (λ z. nat_eq z text_beside) em)) (then_goes (chooses dropping Done 1) (then_goes (moved_out_ok b l (Hand t) (Held x) lt eh) (then_goes (drop_ok x [])
                  (then_goes (set_ok b l1 (NumberAt t) (Bits (I64 least)) lt (ft.numbers t)) closes))));
              fit = fit_number p deepest ks F t q u y l1 σ (Bits (I64 least)) refl (fit_hand p deepest ks F t q u y l σ empty (inl refl) lq ft);
              keeps = keeps_then t l l1 l2 (keeps_hand t l empty) (keeps_number t l1 (Bits (I64 least)));
              given = (upd_same l.hand t empty, (least, upd_same l.number t (Bits (I64 least)), inr (refl, e)));
            }
        | IsNone ev em eh ↦ none (ap (λ z. nat_eq z text_beside) em) eh (m, hd.1, inr (em, e))
        | IsNumber z ev em eh ↦ none (ap (λ i. nat_eq i text_beside) em ∙ word_not_beside z) eh (m, hd.1, inl (z, ev, em))
      ]

  unlent : (f : Form) (x : Holds f) (o : Option ℕ) (t q u y : ℕ) (k : Instructions) (K : List Label) (l : Locals) (σ : State) → lent (layout p deepest ks F b M n) f t k ≡ k → Fit p deepest ks F q u y l σ → LentAt f o σ.globals x t l →
      LentDone f x o t q u y k K l σ
  unlent f x o t q u y k K l σ e ft given = record {
    next = l;
    steps = 0;
    few = omega arith;
    goes = record { it = ap (λ z. at ks [] K (laid b l) F z (beside_state p deepest ks F σ)) e };
    fit = ft;
    keeps = keeps_self t l;
    given = given;
  }

  lent_as : (fs : List Form) (c : Code) (f : Form) (x : Holds f) (o : Option ℕ) (t q u y : ℕ) (k : Instructions) (K : List Label) (l : Locals) (σ : State) → form_of fs c ≡ f → is_lent o (source_of c) f ≡ true →
      ((g : ℕ) → o ≡ Some g → is_copy_of g (source_of c) ≡ true → boxed f x ≡ global_value g σ) → t < q → t < b.temporaries → Fit p deepest ks F q u y l σ → HoldsAt f t l x → LentDone f x o t q u y k K l σ
  lent_as fs c (PrimitiveAnswer a) x None t q u y k K l σ ef e h lq lt ft hd = unlent (PrimitiveAnswer a) x None t q u y k K l σ refl ft (unlent_given (PrimitiveAnswer a) x (source_of c) σ.globals t l e hd)
  lent_as fs c (PrimitiveAnswer a) x (Some g) t q u y k K l σ ef e h lq lt ft hd = elim (one_of (is_number (PrimitiveAnswer a)) (is_copy_of g (source_of c)) e) [
    | inl z ↦ unlent (PrimitiveAnswer a) x (Some g) t q u y k K l σ refl ft (number_given (PrimitiveAnswer a) x (Some g) σ.globals t l z hd)
    | inr z ↦ absurd (no_plain (plain_no_copy fs g c (PrimitiveAnswer a) ef z))
  ]
    where
      no_plain : PrimitiveAnswer a ≡ NumberOrText → ⊥
      no_plain z = cc
  lent_as fs c OptionalNumber x None t q u y k K l σ ef e h lq lt ft hd = unlent OptionalNumber x None t q u y k K l σ refl ft (unlent_given OptionalNumber x (source_of c) σ.globals t l e hd)
  lent_as fs c OptionalNumber x (Some g) t q u y k K l σ ef e h lq lt ft hd = absurd (no_plain (plain_no_copy fs g c OptionalNumber ef e))
    where
      no_plain : OptionalNumber ≡ NumberOrText → ⊥
      no_plain z = cc
  lent_as fs c NumberOrText x None t q u y k K l σ ef e h lq lt ft hd = absurd (true≢false (sym e))
  lent_as fs c NumberOrText x (Some g) t q u y k K l σ ef e h lq lt ft hd = lent_copy x g t q u y k K l σ (h g refl e) lq lt ft hd

  pub lent_ok : (fs : List Form) (c : Code) (x : Holds (form_of fs c)) (o : Option ℕ) (t q u y : ℕ) (k : Instructions) (K : List Label) (l : Locals) (σ : State) → is_lent o (source_of c) (form_of fs c) ≡ true →
      ((g : ℕ) → o ≡ Some g → is_copy_of g (source_of c) ≡ true → boxed (form_of fs c) x ≡ global_value g σ) → t < q → t < b.temporaries → Fit p deepest ks F q u y l σ → HoldsAt (form_of fs c) t l x → LentDone (form_of fs c) x o t q u y k K l σ
  lent_ok fs c x o t q u y k K l σ e h lq lt ft hd = lent_as fs c (form_of fs c) x o t q u y k K l σ refl e h lq lt ft hd

-- Copies of what lends are what it has once all operands are evaluated.

module _ (p : Program) where
  -- it lends at some place
  abbrev pub IsLender : ℕ → Type 0
  IsLender g = (i : ℕ) × (lender_at p.lenders i ≡ Some g)

  abbrev pub CopiesStand : (fs : List Form) (es : Codes) → Values fs es → State → Type 0
  CopiesStand fs End vs σ = Unit {0}
  CopiesStand fs (At e es) vs σ = ((g : ℕ) → IsLender g → is_copy_of g (source_of e) ≡ true → boxed (form_of fs e) vs.0 ≡ global_value g σ) × CopiesStand fs es vs.1 σ
  CopiesStand fs (Fixed m es) vs σ = CopiesStand fs es vs σ
  CopiesStand fs (Fresh es) vs σ = CopiesStand fs es vs.1 σ

  module _ (lend : are_lenders (kinds_of p.globals) p.lenders ≡ true) (ks : List Kind) (n : ℕ) (calls : Calls) (called : (f : ℕ) (os : List Local) → Lends p (calls f os)) where
    -- what the first operand gave is still there after the others
    abbrev FirstStands : (fs : List Form) (e : Code) → Holds (form_of fs e) → State → Type 0
    FirstStands fs e v σ = (g : ℕ) → IsLender g → is_copy_of g (source_of e) ≡ true → boxed (form_of fs e) v ≡ global_value g σ

    stands_on : (fs : List Form) (e : Code) (v : Holds (form_of fs e)) (σ τ : State) → Stays p σ τ → FirstStands fs e v σ → FirstStands fs e v τ
    stands_on fs e v σ τ s h = λ g i c. h g i c ∙ sym (s i.0 g i.1)

    with_first : (fs : List Form) (e : Code) (es : Codes) (v : Holds (form_of fs e)) (σ : State) (r : Outcome (Values fs es)) → FirstStands fs e v σ → Stays p σ (state_at r) → Known (CopiesStand fs es) r →
        Known (CopiesStand fs (At e es)) (go_on r (λ vs τ. Gives (v, vs) τ))
    with_first fs e es v σ (Gives vs τ) h s k = (stands_on fs e v σ τ s h, k)
    with_first fs e es v σ (Stops why τ) h s k = tt

    with_array : (fs : List Form) (es : Codes) (i : ℕ) (r : Outcome (Values fs es)) → Known (CopiesStand fs es) r → Known (CopiesStand fs (Fresh es)) (go_on r (λ vs τ. Gives (i, vs) τ))
    with_array fs es i (Gives vs τ) k = k
    with_array fs es i (Stops why τ) k = tt

    no_copy : (fs : List Form) (e : Code) → ((g : ℕ) → is_copy_of g (source_of e) ≡ true → ⊥) → (r : Outcome (Holds (form_of fs e))) → Known (FirstStands fs e) r
    no_copy fs e h (Gives v σ) = λ g i c. absurd (h g c)
    no_copy fs e h (Stops why σ) = tt

    one_stands : (fs : List Form) (env : Env fs) (e : Code) (σ : State) → Known (FirstStands fs e) (evaluated p.texts (calls_of p) n calls fs env e σ)
    unfolding evaluated
    one_stands fs env (Get (Global true i)) σ = λ g l c. ap (λ j. global_value j σ) (sym (eqb-true g i c))
    one_stands fs env (Get (Global false i)) σ = no_copy fs (Get (Global false i)) (λ g c. cc) (evaluated p.texts (calls_of p) n calls fs env (Get (Global false i)) σ)
    one_stands fs env (Get (Parameter u i)) σ = no_copy fs (Get (Parameter u i)) (λ g c. cc) (evaluated p.texts (calls_of p) n calls fs env (Get (Parameter u i)) σ)
    one_stands fs env e σ = no_copy fs e (λ g c. cc) (evaluated p.texts (calls_of p) n calls fs env e σ)

    pub all_stand : (fs : List Form) (env : Env fs) (es : Codes) (σ : State) → all_sorted (context_of p ks) fs es ≡ true → Known (CopiesStand fs es) (all_evaluated p.texts (calls_of p) n calls fs env es σ)
    unfolding all_evaluated all_sorted
    all_stand fs env End σ h = tt
    all_stand fs env (At e es) σ h = step (λ τ. all_stand fs env es τ rest) (evaluated p.texts (calls_of p) n calls fs env e σ) (one_stands fs env e σ)
      where
        rest : all_sorted (context_of p ks) fs es ≡ true
        rest = (and_parts (sorted (context_of p ks) fs e) (all_sorted (context_of p ks) fs es) h).1

        step : ((τ : State) → Known (CopiesStand fs es) (all_evaluated p.texts (calls_of p) n calls fs env es τ)) → (r : Outcome (Holds (form_of fs e))) → Known (FirstStands fs e) r → Known (CopiesStand fs (At e es)) (go_on r (λ v τ. go_on (all_evaluated p.texts (calls_of p) n calls fs env es τ) (λ vs υ. Gives (v, vs) υ)))
        step on (Gives v τ) k = with_first fs e es v τ (all_evaluated p.texts (calls_of p) n calls fs env es τ) k ((codes_lends p lend ks n calls called fs env es rest).at τ) (on τ)
        step on (Stops why τ) k = tt
    all_stand fs env (Fixed m es) σ h = all_stand fs env es σ h
    all_stand fs env (Fresh es) σ h = step (λ τ. all_stand fs env es τ rest) (call row.NewArray tt σ)
      where
        rest : all_sorted (context_of p ks) fs es ≡ true
        rest = (and_parts (are_missing es) (all_sorted (context_of p ks) fs es) h).1

        step : ((τ : State) → Known (CopiesStand fs es) (all_evaluated p.texts (calls_of p) n calls fs env es τ)) → (r : Outcome ℕ) → Known (CopiesStand fs (Fresh es)) (go_on r (λ i τ. go_on (all_evaluated p.texts (calls_of p) n calls fs env es τ) (λ vs υ. Gives (i, vs) υ)))
        step on (Gives i τ) = with_array fs es i (all_evaluated p.texts (calls_of p) n calls fs env es τ) (on τ)
        step on (Stops why τ) = tt
