-- Quick ways of statements: how names are read and written, several within the same bounds, and what `n = a + e` means.
use Rattle.std.proofs.Common.{◌≡◌, ℕ, suc, Bool, true, false, List, [], ◌∷◌, length, None, Ok, Result, ℤ, refl, sym, ap, ap₂, ◌∙◌, if◌then◌else◌, arith, inl, inr, Option, Some}
use Rattle.std.specs.Prelude.{◌&&◌, bit_or, not, is_some}
use Rattle.std.proofs.lemmas.Bool.{and_parts, not-true}
use Rattle.awk_values.specs.declared.fault.Fault.{Fault}
use Rattle.awk_values.specs.declared.value.Value.TheVariants as value
use Rattle.sem_primitives.specs.declared.sorts.Sort.TheVariants as sort
use Rattle.lower_model.proofs.Observer.{Observer}
use Rattle.sem_primitives.specs.Numbers.{Number as AnyNumber, number_word, outcome_of}
use Rattle.wasm_types.specs.Syntax.{Instructions}
use Rattle.wasm_types.specs.declared.instr.Simple.{Simple}
use Rattle.wasm_types.specs.declared.instr.Simple.TheVariants.{GlobalGet, GlobalSet, LocalGet, LocalSet}
use Rattle.wasm_store.specs.declared.word.Word.TheVariants.{I64}
use Rattle.wasm_store.specs.Words.{flag}
use Rattle.mid_program.specs.declared.mid.Arithmetic.{Arithmetic}
use Rattle.mid_program.specs.declared.mid.Operation.TheVariants.{Inline}
use Rattle.mid_program.specs.Mid.{Kind, Unboxed, Program, Code, Do, Set, End, At, Eval, Form, form_of, Slot}
use Rattle.mid_program.specs.MidMeaning.{Env, evaluated, all_evaluated, stepped, then_row, store_slot, arithmetic_of}
use Rattle.sem_scripts.specs.ScriptState.{State, Gives, Outcome, go_on, settled, give, ◌>>◌, global_value, local_value, with_global}
use Rattle.mid_program.specs.Sorted.{is_slot, takes, sorted, all_sorted, has_kind, kinds_of, fits as fits_sort, lender_at, lends}
use Rattle.sem_scripts.specs.Statements.{Flow, Normal}
use Rattle.lower_model.specs.Cells.{Cell, Bits, is_owned}
use Rattle.lower_model.specs.Machine.{Label, Frame, at}
use Rattle.lower_model.specs.Places.{Bases, number_global}
use Rattle.lower_model.specs.Quick.{Holder, OfName, OfParameter, Source, Held, Constant, is_among, and_name, shifted, joined, all_unsure}
use Rattle.lower_model.specs.Small.{emit, least}
use Rattle.lower_model.proofs.Runs.{Goes, goes_to, then_goes, by_steps, stays}
use Rattle.lower_model.proofs.Locals.{Locals, Param, with_at, laid}
use Rattle.lower_model.proofs.Globals.{Hand as NameHand, Number as NameNumber, with_global_at, placed_again}
use Rattle.lower_model.proofs.GlobalSteps.{storing, global_copied, global_set_ok}
use Rattle.lower_model.proofs.Steps.{empty, get_copied, set_ok}
use Rattle.lower_model.proofs.Relation.{Fit}
use Rattle.lower_model.proofs.State.{bare, holder_slot, holder_value, stored_in, beside, bare_number, beside_number, cells_of, host_of, kind_here, arrays_before, name_hand, name_word, parameter_word, number_taken}
use Rattle.lower_model.proofs.Answers.{machine, beside_state}
use Rattle.lower_model.proofs.Setting.{fit_param}
use Rattle.lower_model.proofs.Written.{fit_global, global_written}
use Rattle.lower_model.proofs.Reading.{kind_below, kind_found}
use Rattle.lower_model.proofs.Simulation.{context, meant}
use Rattle.lower_model.proofs.StatementForms.{plain_meant}
use Rattle.lower_model.proofs.QuickNames.{num_of, shift_word, joined_word, all_flag, joined_steps, all_steps, source_code, Words, WordFits, AllWords}

-- Two operands.

abbrev pub Two : Type 0
Two = AnyNumber × (AnyNumber × Unit {0})

-- what becomes of two operands that are evaluated, and of their sum
abbrev pub sum_stored : Holder → State → Result AnyNumber Fault → Outcome Flow
sum_stored i σ r = go_on (go_on (settled r σ) (λ y. store_slot (holder_slot i) (value.Num y.number) >> give y)) (λ y. give Normal)

abbrev pub two_calculated : Arithmetic → State → Result AnyNumber Fault → Result AnyNumber Fault → Outcome AnyNumber
two_calculated o σ r1 r2 =
    go_on {A = Two} {B = AnyNumber} (settled (then_row {A = AnyNumber} {B = Two} r1 (λ x. then_row {A = AnyNumber × Unit {0}} {B = Two} (then_row {A = AnyNumber} {B = AnyNumber × Unit {0}} r2 (λ z. Ok (z, tt))) (λ zs. Ok (x, zs)))) σ)
    (λ given. settled (outcome_of (arithmetic_of o given.0.number given.1.0.number)))

abbrev pub two_summed : Holder → Arithmetic → State → Result AnyNumber Fault → Result AnyNumber Fault → Outcome Flow
two_summed i o σ r1 r2 = go_on (go_on (two_calculated o σ r1 r2) (λ y. store_slot (holder_slot i) (value.Num y.number) >> give y)) (λ y. give Normal)

-- `n = a + e`
abbrev pub set_code : Holder → Arithmetic → Code → Code → Code
set_code i o x y = Set (holder_slot i) (Do (Inline o) (At x (At y End)))

-- the words of holders: those of names as they are beside the state, those of parameters as they stand

abbrev pub word_in : Cell → ℕ
word_in (Bits (I64 m)) = m
word_in c = least

abbrev pub words : Locals → State → Words
words l σ (OfName i) = bare (global_value i σ)
words l σ (OfParameter i) = word_in (l.param i)

module _ (p : Program) (deepest : Observer) (ks : List Kind) (F : List Frame) (b : Bases) (M n : ℕ) where
  abbrev kinds : List Kind
  kinds = kinds_of p.globals

  abbrev pub all_read : Holder → Simple
  all_read (OfName i) = GlobalGet (number_global p.ranges i)
  all_read (OfParameter i) = LocalGet i

  abbrev pub HolderFits : Holder → Type 0
  HolderFits (OfName i) = has_kind kinds i Unboxed ≡ true
  HolderFits (OfParameter i) = has_kind ks i Unboxed ≡ true

  -- one that takes numbers lends nothing, nor does anything lend at its place
  abbrev pub HolderTakes : Holder → Type 0
  HolderTakes (OfName i) = (has_kind kinds i Unboxed ≡ true) × (lends p.lenders i ≡ false)
  HolderTakes (OfParameter i) = (has_kind ks i Unboxed ≡ true) × (lender_at p.lenders i ≡ None)

  pub takes_fits : (x : Holder) → HolderTakes x → HolderFits x
  takes_fits (OfName i) h = h.0
  takes_fits (OfParameter i) h = h.0

  abbrev pub all_put : Holder → Simple
  all_put (OfName i) = GlobalSet (number_global p.ranges i)
  all_put (OfParameter i) = LocalSet i

  -- holders, each of its kind

  abbrev pub AllUnboxed : List Holder → Type 0
  AllUnboxed [] = Unit {0}
  AllUnboxed (x ∷ xs) = HolderFits x × AllUnboxed xs

  pub name_got : (vs : List Cell) (K : List Label) (k : Instructions) (x : Holder) (t u w : ℕ) (l : Locals) (σ : State) → HolderFits x → length ks ≡ b.parameters → Fit p deepest ks F t u w l σ →
      Goes (machine p deepest ks F) 1 (at ks vs K (laid b l) F (emit (all_read x) k) (beside_state p deepest ks F σ)) (at ks (Bits (I64 (words l σ x)) ∷ vs) K (laid b l) F k (beside_state p deepest ks F σ))
  name_got vs K k (OfName i) t u w l σ hk pk ft =
      let x = global_value i σ in
      global_copied p.ranges (length kinds) (cells_of kinds 0 σ) (NameNumber i) (Bits (I64 (bare x))) (kind_below kinds i Unboxed hk) (ap (λ c. Bits (I64 (name_word c x))) (kind_found kinds i Unboxed hk)) refl
  name_got vs K k (OfParameter i) t u w l σ hk pk ft =
      let lt = kind_below ks i Unboxed hk in
      let q = ft.params i Unboxed hk in
      get_copied b l (Param i) (Bits (I64 (words l σ (OfParameter i)))) (omega (arith, lt, pk)) (q.1 ∙ ap (λ c. Bits (I64 (word_in c))) (sym q.1)) refl

  -- a word is what the value tells, or nothing
  pub words_fit : (x : Holder) (t u w : ℕ) (l : Locals) (σ : State) → HolderFits x → Fit p deepest ks F t u w l σ → WordFits (words l σ x) (holder_value x σ)
  words_fit (OfName i) t u w l σ hk ft = inl refl
  words_fit (OfParameter i) t u w l σ hk ft =
      let q = ft.params i Unboxed hk in
      let e : words l σ (OfParameter i) ≡ q.0 = ap word_in q.1 in
      elim (parameter_word (lender_at p.lenders i) σ.globals (local_value i σ) q.0 q.2) [ inl z ↦ inl (e ∙ z) | inr z ↦ inr (e ∙ z) ]

  pub all_words : (is : List Holder) (t u w : ℕ) (l : Locals) (σ : State) → AllUnboxed is → Fit p deepest ks F t u w l σ → AllWords (words l σ) σ is
  all_words [] t u w l σ h ft = tt
  all_words (x ∷ xs) t u w l σ h ft = (words_fit x t u w l σ h.0 ft, all_words xs t u w l σ h.1 ft)

  -- a name takes a number, where no text stands beside it
  name_taken : (i : ℕ) (y : AnyNumber) (K : List Label) (k : Instructions) (l : Locals) (σ : State) → has_kind kinds i Unboxed ≡ true → length σ.globals ≡ length p.globals → beside (global_value i σ) ≡ empty →
      Goes (machine p deepest ks F) 1 (at ks (Bits (I64 (number_word y)) ∷ []) K (laid b l) F (emit (GlobalSet (number_global p.ranges i)) k) (beside_state p deepest ks F σ)) (at ks [] K (laid b l) F k (beside_state p deepest ks F (with_global i (value.Num y.number) σ)))
  name_taken i y K k l σ hk sz none =
      let nn = length kinds in
      let li = kind_below kinds i Unboxed hk in
      let kh = kind_found kinds i Unboxed hk in
      let g = cells_of kinds 0 σ in
      let old = global_value i σ in
      let c = Bits (I64 (number_word y)) in
      let g1 = with_global_at p.ranges nn g (NameNumber i) c in
      let hand : name_hand (kind_here kinds i) (suc (suc (arrays_before kinds i))) old ≡ empty = ap (λ z. name_hand z (suc (suc (arrays_before kinds i))) old) kh ∙ none in
      goes_to (global_set_ok p.ranges nn g (NameNumber i) c li refl refl)
      (ap (λ x. at ks [] K (laid b l) F k (storing x (host_of σ None)))
      (sym (placed_again p.ranges nn g1 (NameHand i) empty li hand)
      ∙ global_written p deepest ks F b M n i (value.Num y.number) σ empty c sz li
      (ap (λ z. name_hand z (suc (suc (arrays_before kinds i))) (value.Num y.number)) kh ∙ beside_number y)
      (ap (λ z. Bits (I64 (name_word z (value.Num y.number)))) kh ∙ ap (λ z. Bits (I64 z)) (bare_number y))))

  -- the same of a holder
  pub record Taken (h : Holder) (y : AnyNumber) (u : ℕ) (K : List Label) (k : Instructions) (l : Locals) (σ : State) : Type 0 where
    pub next : Locals
    pub goes : Goes (machine p deepest ks F) 1 (at ks (Bits (I64 (number_word y)) ∷ []) K (laid b l) F (emit (all_put h) k) (beside_state p deepest ks F σ)) (at ks [] K (laid b next) F k (beside_state p deepest ks F (stored_in (holder_slot h) (value.Num y.number) σ)))
    pub fit : Fit p deepest ks F 0 u 0 next (stored_in (holder_slot h) (value.Num y.number) σ)
    pub iterators : (z : ℕ) → next.iterator z ≡ l.iterator z

  pub taken : (h : Holder) (y : AnyNumber) (u : ℕ) (K : List Label) (k : Instructions) (l : Locals) (σ : State) → HolderTakes h → length ks ≡ b.parameters → Fit p deepest ks F 0 u 0 l σ → beside (holder_value h σ) ≡ empty → Taken h y u K k l σ
  taken (OfName i) y u K k l σ hk pk ft none = record {
    next = l;
    goes = name_taken i y K k l σ hk.0 ft.sound.names none;
    fit = fit_global p deepest ks F b M n i (value.Num y.number) 0 u 0 l σ hk.1 ft;
    iterators = λ z. refl;
  }
  taken (OfParameter i) y u K k l σ hk pk ft none =
      let c = Bits (I64 (number_word y)) in
      let lt = kind_below ks i Unboxed hk.0 in
      record {
        next = with_at l (Param i) c;
        goes = set_ok b l (Param i) c (omega (arith, lt, pk)) (ap is_owned (ft.params i Unboxed hk.0).1);
        fit = fit_param p deepest ks F b M n i Unboxed (value.Num y.number) c 0 u 0 l σ hk.0 (number_taken (lender_at p.lenders i) σ.globals y) ft;
        iterators = λ z. refl;
      }

  -- Several names within the same bounds.

  shifted_ok : (vs : List Cell) (K : List Label) (k : Instructions) (i : Holder) (q : ℤ) (t u w : ℕ) (l : Locals) (σ : State) → HolderFits i → length ks ≡ b.parameters → Fit p deepest ks F t u w l σ →
      Goes (machine p deepest ks F) 2 (at ks vs K (laid b l) F (shifted (all_read i) q k) (beside_state p deepest ks F σ)) (at ks (Bits (I64 (shift_word (words l σ) q i)) ∷ vs) K (laid b l) F k (beside_state p deepest ks F σ))
  shifted_ok vs K k i q t u w l σ hk pk ft = then_goes (name_got _ _ _ i t u w l σ hk pk ft) (by_steps 1 refl)

  joined_ok : (K : List Label) (k : Instructions) → (is : List Holder) (v : ℕ) (q : ℤ) (t u w : ℕ) (l : Locals) (σ : State) → AllUnboxed is → length ks ≡ b.parameters → Fit p deepest ks F t u w l σ →
      Goes (machine p deepest ks F) (joined_steps is) (at ks (Bits (I64 v) ∷ []) K (laid b l) F (joined all_read is q k) (beside_state p deepest ks F σ)) (at ks (Bits (I64 (joined_word (words l σ) q v is)) ∷ []) K (laid b l) F k (beside_state p deepest ks F σ))
  joined_ok K k [] v q t u w l σ h pk ft = stays
  joined_ok K k (i ∷ is) v q t u w l σ h pk ft = then_goes (shifted_ok _ _ _ i q t u w l σ h.0 pk ft) (then_goes (by_steps 1 refl) (joined_ok K k is (bit_or v (shift_word (words l σ) q i)) q t u w l σ h.1 pk ft))

  pub all_unsure_ok : (K : List Label) (k : Instructions) → (is : List Holder) (q : ℤ) (most t u w : ℕ) (l : Locals) (σ : State) → AllUnboxed is → length ks ≡ b.parameters → Fit p deepest ks F t u w l σ →
      Goes (machine p deepest ks F) (all_steps is) (at ks [] K (laid b l) F (all_unsure all_read is q most k) (beside_state p deepest ks F σ)) (at ks (Bits (flag (all_flag (words l σ) q most is)) ∷ []) K (laid b l) F k (beside_state p deepest ks F σ))
  all_unsure_ok K k [] q most t u w l σ h pk ft = stays
  all_unsure_ok K k (i ∷ is) q most t u w l σ h pk ft = then_goes (shifted_ok _ _ _ i q t u w l σ h.0 pk ft) (then_goes (joined_ok K _ is (shift_word (words l σ) q i) q t u w l σ h.1 pk ft) (by_steps 1 refl))

  pub name_unboxed : (i : Holder) (is : List Holder) → HolderFits i → AllUnboxed is → AllUnboxed (and_name i is)
  name_unboxed i is hk h = by (is_among i is)
    where
      by : (t : Bool) → AllUnboxed (if t then is else i ∷ is)
      by true = h
      by false = (hk, h)

  pub stored_normal : (i : Holder) (y : AnyNumber) (σ : State) → sum_stored i σ (Ok y) ≡ Gives Normal (stored_in (holder_slot i) (value.Num y.number) σ)
  stored_normal (OfName i) y σ = refl
  stored_normal (OfParameter i) y σ = refl

  pub stored_turns : (i : Holder) (y : AnyNumber) (σ : State) → (stored_in (holder_slot i) (value.Num y.number) σ).turns ≡ σ.turns
  stored_turns (OfName i) y σ = refl
  stored_turns (OfParameter i) y σ = refl

  pub summed_means : (i : Holder) (o : Arithmetic) (σ : State) (r1 r2 : Result AnyNumber Fault) (m1 m2 y : AnyNumber) → r1 ≡ Ok m1 → r2 ≡ Ok m2 → outcome_of (arithmetic_of o m1.number m2.number) ≡ Ok y → two_summed i o σ r1 r2 ≡ Gives Normal (stored_in (holder_slot i) (value.Num y.number) σ)
  summed_means i o σ r1 r2 m1 m2 y e1 e2 e = ap₂ (two_summed i o σ) e1 e2 ∙ (ap (sum_stored i σ) e ∙ stored_normal i y σ)

  -- Two operands.

  pub calculated_means : (fs : List Form) (env : Env fs) (o : Arithmetic) (a e : Source) (σ : State) → meant p deepest ks F b M n fs env (Do (Inline o) (At (source_code a) (At (source_code e) End))) σ ≡ two_calculated o σ (num_of a σ) (num_of e σ)
  unfolding evaluated all_evaluated
  calculated_means fs env o (Held (OfName j)) (Held (OfName k)) σ = refl
  calculated_means fs env o (Held (OfName j)) (Held (OfParameter k)) σ = refl
  calculated_means fs env o (Held (OfName j)) (Constant z) σ = refl
  calculated_means fs env o (Held (OfParameter j)) (Held (OfName k)) σ = refl
  calculated_means fs env o (Held (OfParameter j)) (Held (OfParameter k)) σ = refl
  calculated_means fs env o (Held (OfParameter j)) (Constant z) σ = refl
  calculated_means fs env o (Constant y) (Held (OfName k)) σ = refl
  calculated_means fs env o (Constant y) (Held (OfParameter k)) σ = refl
  calculated_means fs env o (Constant y) (Constant z) σ = refl

  pub set_means : (i : Holder) (o : Arithmetic) (a e : Source) (σ : State) → plain_meant p deepest ks F b M n (Eval (set_code i o (source_code a) (source_code e))) σ ≡ two_summed i o σ (num_of a σ) (num_of e σ)
  unfolding evaluated all_evaluated stepped
  set_means i o a e σ = ap (λ (r : Outcome AnyNumber). go_on (go_on r (λ y. store_slot (holder_slot i) (value.Num y.number) >> give y)) (λ y. give Normal)) (calculated_means [] tt o a e σ)

  pub record Parts (i : Holder) (fs : List Form) (x : Code) (gs : List Form) (y : Code) : Type 0 where
    pub kind : HolderTakes i
    pub first_one : sorted (context p deepest ks F b M n) fs x ≡ true
    pub second : sorted (context p deepest ks F b M n) gs y ≡ true
    pub fits_second : fits_sort (form_of gs y) sort.Number ≡ true

  -- an unboxed slot that is one
  pub slot_fits : (i : Holder) → is_slot (context p deepest ks F b M n) (holder_slot i) ≡ true → HolderFits i
  slot_fits (OfName i) e = e
  slot_fits (OfParameter i) e = e

  none_there : (o : Option ℕ) → is_some o ≡ false → o ≡ None
  none_there None h = refl
  none_there (Some g) h = cc

  -- one that takes something
  pub slot_takes : (i : Holder) (o : Option Slot) (f : Form) → is_slot (context p deepest ks F b M n) (holder_slot i) ≡ true → takes (context p deepest ks F b M n) (holder_slot i) o f ≡ true → HolderTakes i
  slot_takes (OfName i) o f e h = (e, not-true (lends p.lenders i) (and_parts (not (lends p.lenders i)) _ h).0)
  slot_takes (OfParameter i) o f e h = (e, none_there (lender_at p.lenders i) (not-true (is_some (lender_at p.lenders i)) (and_parts (not (is_some (lender_at p.lenders i))) _ h).0))

  pub set_sorted : (fs : List Form) (i : Holder) (o : Arithmetic) (x y : Code) → sorted (context p deepest ks F b M n) fs (set_code i o x y) ≡ true → Parts i fs x fs y
  unfolding sorted all_sorted
  set_sorted fs i o x y so =
      let ctx = context p deepest ks F b M n in
      let fx = fits_sort (form_of fs x) sort.Number in
      let fy = fits_sort (form_of fs y) sort.Number in
      let body = (fx && (fy && true)) && (sorted ctx fs x && (sorted ctx fs y && true)) in
      let tk = takes ctx (holder_slot i) None (form_of fs (Do (Inline o) (At x (At y End)))) in
      let s = and_parts (is_slot ctx (holder_slot i)) (tk && body) so in
      let s0 = and_parts tk body s.1 in
      let s1 = and_parts (fx && (fy && true)) (sorted ctx fs x && (sorted ctx fs y && true)) s0.1 in
      let s2 = and_parts (sorted ctx fs x) (sorted ctx fs y && true) s1.1 in
      record { kind = slot_takes i None (form_of fs (Do (Inline o) (At x (At y End)))) s.0 s0.0; first_one = s2.0; second = (and_parts (sorted ctx fs y) true s2.1).0; fits_second = (and_parts fy true (and_parts fx (fy && true) s1.0).1).0 }
