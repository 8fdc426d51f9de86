-- A text that was read, or made by a substitution, is kept in a temporary while code stores it.
use Rattle.std.proofs.Common.{◌≡◌, inl, inr, ℕ, zero, suc, ◌+◌, ◌<◌, ◌≤◌, Bool, true, false, List, [], ◌∷◌, length, None, Ok, refl, ap, ◌∙◌, arith}
use Rattle.std.specs.Prelude.{nat_eq, is_some, if◌then◌else◌}
use Rattle.awk_values.specs.Operators.{is_zero}
use Rattle.awk_values.specs.declared.value.Value.{Value}
use Rattle.sem_primitives.specs.Numbers.{Number, number_word}
use Rattle.sem_primitives.specs.SharedState.{Shared}
use Rattle.sem_primitives.specs.TextMeaning.{given}
use Rattle.sem_primitives.specs.declared.answers.InputAnswer.{InputAnswer}
use Rattle.sem_primitives.specs.declared.answers.InputAnswer.TheVariants as input
use Rattle.sem_primitives.specs.declared.sorts.Answer.TheVariants as answer
use Rattle.sem_primitives.specs.declared.sorts.Sort.TheVariants as sort
use Rattle.sem_primitives.specs.declared.table.Primitive.TheVariants as row
use Rattle.wasm_types.specs.Syntax.{Instructions, Done as NoMore}
use Rattle.wasm_types.specs.declared.types.ValType.TheVariants as ty
use Rattle.wasm_types.specs.declared.instr.ITestOp.TheVariants.{Eqz}
use Rattle.wasm_types.specs.declared.instr.Simple.TheVariants.{LocalGet, Test}
use Rattle.wasm_store.specs.Words.{flag}
use Rattle.wasm_store.specs.declared.word.Word.TheVariants.{I64}
use Rattle.mid_program.specs.Mid.{Kind, Program, Form, PrimitiveAnswer, a_value, a_number, Code, form_of, form_at}
use Rattle.mid_program.specs.MidMeaning.{Env, when_read, when_replaced}
use Rattle.sem_scripts.specs.ScriptState.{State, Stop, Execution, go_on, nothing, give, call as does_row}
use Rattle.mid_program.specs.Sorted.{Held as Standing, There, either_way, sorted, held_after, is_well_used, keeps_well}
use Rattle.sem_scripts.specs.Steps.{input_number}
use Rattle.lower_model.specs.Cells.{Bits, Held, is_owned}
use Rattle.lower_model.specs.Emission.{emitted, text_kept, text_let_go}
use Rattle.host_imports.specs.Codes.{input_code}
use Rattle.lower_model.specs.Machine
use Rattle.lower_model.specs.Machine.{Conf, Label, Frame, at, label, loops_walked}
use Rattle.lower_model.specs.Places.{Bases, room, arrays_in, handle_local, number_local}
use Rattle.lower_model.specs.Small.{emit, number_is, when, emit_if, code_number, let_go}
use Rattle.host_imports.specs.declared.import.Import.TheVariants.{Drop}
use Rattle.lower_model.proofs.Observer.{Observer}
use Rattle.lower_model.proofs.Runs.{Goes, then_goes, goes_to, goes_from, by_steps, stays, there, first, then_on, weaker_settled, within, Onward}
use Rattle.lower_model.proofs.Regions.{upd_same, upd_other}
use Rattle.lower_model.proofs.Locals.{Locals, Hand, Number as NumberAt, with_at, laid}
use Rattle.lower_model.proofs.Steps.{empty, get_copied, set_ok}
use Rattle.lower_model.proofs.Relation.{HoldsAt, Kept, kept_same, Below, below_more, outside_below, Same, same_self, same_then, Calm, Fit, fit_shared, fit_less, fit_hand, fit_more, SameOwn, Away, holds_same}
use Rattle.lower_model.proofs.Pieces.{chooses, closes, number_is_ok, let_go_hand}
use Rattle.lower_model.proofs.Answers.{machine, beside_state, row_called, done_by, Reached}
use Rattle.lower_model.proofs.Converting.{Converted, converted_ok, blocked}
use Rattle.lower_model.proofs.HostCalls.{calm_after}
use Rattle.lower_model.proofs.InputLaws.{LineAt}
use Rattle.lower_model.proofs.Arguments.{under_same, under_keeps}
use Rattle.lower_model.proofs.Choosing.{zero_word, kept_left_way, kept_right_way}
use Rattle.lower_model.proofs.Keeping.{consed, left_ok}
use Rattle.lower_model.proofs.Simulation.{work_of, layout, context, meant, NoArray, WellUsed, Done, ExprOk, room_one, walking_same, Walking}

-- one more is kept, which is no array
plain_more : (f : Form) (fs : List Form) → NoArray f → ((i : ℕ) → NoArray (form_at fs i)) → (i : ℕ) → NoArray (form_at (f ∷ fs) i)
plain_more f fs e q zero = e
plain_more f fs e q (suc i) = q i

pub same_any : (ts : List ℕ) (t w : ℕ) (l l1 : Locals) → Same [] t w l l1 → Same ts t w l l1
same_any ts t w l l1 a = record { hands = λ x h o. a.hands x h tt; numbers = a.numbers; iterators = a.iterators; arrays = a.arrays }

module _ (p : Program) (deepest : Observer) (ks : List Kind) (F : List Frame) (b : Bases) (M n : ℕ) where
  -- what a text is kept for: what is kept beside it, and the code that stores it
  pub record Stores (s : Code) (fs : List Form) (env : Env fs) (ts : List ℕ) (st : ℕ → Standing) (t u w m : ℕ) (l : Locals) (σ : State) : Type 0 where
    pub ok : ExprOk p deepest ks F b M n s
    pub well : sorted (context p deepest ks F b M n) (a_value ∷ fs) s ≡ true
    pub keeps : keeps_well s ≡ true
    pub used : WellUsed p deepest ks F b M n fs (λ i. held_after (suc i) s (st i))
    pub room_enough : suc (suc t) + room s ≤ b.temporaries
    pub arrays_enough : w + arrays_in s ≤ b.arrays
    pub below : Below t ts
    pub kept : Kept fs ts st l env
    pub fit : Fit p deepest ks F (suc t) u w l σ
    pub turns : σ.turns ≤ n
    pub parameters : length ks ≡ b.parameters
    pub plain : (i : ℕ) → NoArray (form_at fs i)
    pub walking : Walking p deepest ks F b M n m u l
    pub none : w ≡ 0

  -- once it is stored
  pub record TextDone (s : Code) (fs : List Form) (env : Env fs) (ts : List ℕ) (st : ℕ → Standing) (t u w : ℕ) (k : Instructions) (K : List Label) (l : Locals) (σ : State) (x : Unit {0}) (σ1 : State) (c : Conf) : Type 0 where
    pub next : Locals
    pub comes : c ≡ at ks [] K (laid b next) F k (beside_state p deepest ks F σ1)
    pub fit : Fit p deepest ks F (suc t) u w next σ1
    pub same : Same ts (suc t) w l next
    pub own : SameOwn p deepest ks F σ σ1
    pub kept : Kept fs ts (λ i. held_after (suc i) s (st i)) next env

  -- what storing means
  abbrev pub storing_meant : (s : Code) (fs : List Form) → Env fs → Value → Execution (Unit {0})
  storing_meant s fs env text = λ σ. go_on (meant p deepest ks F b M n (a_value ∷ fs) (text, env) s σ) (λ v. nothing)

  stored_text : (s : Code) (fs : List Form) (env : Env fs) (ts : List ℕ) (st : ℕ → Standing) (t u w d : ℕ) (k : Instructions) (K : List Label) (l : Locals) (σ : State) (text : Value) → Stores s fs env ts st t u w (loops_walked K) l σ →
      Reached p deepest ks F b M (work_of s + 16) σ.turns (at ks [] K (laid b (with_at l (Hand (suc t)) (Held text))) F (emitted (layout p deepest ks F b M n) true (a_value ∷ fs) (suc t ∷ ts) s (suc (suc t)) w d (text_let_go (layout p deepest ks F b M n) fs s t k)) (beside_state p deepest ks F σ)) (TextDone s fs env ts st t u w k K l σ) (Away p deepest ks F b d K) (storing_meant s fs env text σ)
  stored_text s fs env ts st t u w d k K l σ text g =
      let mach = machine p deepest ks F in
      let Q = Away p deepest ks F b d K in
      let gs : List Form = a_value ∷ fs in
      let env2 : Env gs = (text, env) in
      let st2 : ℕ → Standing = consed There st in
      let l1 = with_at l (Hand (suc t)) (Held text) in
      let k2 = text_let_go (layout p deepest ks F b M n) fs s t k in
      let f1 = fit_hand p deepest ks F (suc t) (suc (suc t)) u w l σ (Held text) (inr (text, refl)) (omega arith) (fit_more p deepest ks F (suc t) u w l σ g.fit) in
      let q = g.room_enough in
      then_on mach M (work_of s) 16 (work_of s + 16) σ.turns _ (Done p deepest ks F b M n true s gs env2 (suc t ∷ ts) st2 (suc (suc t)) u w k2 K l1 σ) (TextDone s fs env ts st t u w k K l σ) Q (meant p deepest ks F b M n gs env2 s σ) (λ v. nothing) (omega arith)
      (g.ok true gs env2 (suc t ∷ ts) st2 (suc (suc t)) u w d k2 K l1 σ g.well (all_used g.keeps g.used) g.room_enough g.arrays_enough
      (record {
        below = (omega arith, below_more t (suc t) ts (omega arith) g.below);
        kept = ((upd_same l.hand (suc t) (Held text), tt), kept_same fs ts st l l1 env t g.below (λ x lt. upd_other l.hand (suc t) x (Held text) (λ e. omega (arith, e, lt))) (λ x lt. refl) g.kept);
        fit = f1;
        turns = g.turns;
        parameters = g.parameters;
        plain = plain_more a_value fs tt g.plain;
        walking = walking_same p deepest ks F b M n (loops_walked K) u l l1 (λ x. refl) g.walking;
        none = g.none;
      }))
      (λ x τ c1 le a.
      let z = left_ok p deepest ks F b M n s (form_of gs s) x (suc (suc t)) u w (let_go Drop (handle_local b (suc t)) k) K a.next τ (room_there s q) a.fit a.stands in
      let y = let_go_hand {u = mach} {ks = ks} {F = F} b (Hand (suc t)) K z.next k (beside_state p deepest ks F τ) (omega (arith, q)) (z.fit.hands (suc t)) in
      let l2 = with_at z.next (Hand (suc t)) empty in
      let fz = z.few in
      let fy = y.few in
      there mach M 16 (z.steps + y.steps) c1 _ tt τ (TextDone s fs env ts st t u w k K l σ) Q (goes_from a.comes (then_goes z.goes y.goes)) (omega (arith, fz, fy))
      (record {
        next = l2;
        comes = refl;
        fit = fit_less p deepest ks F (suc t) u w l2 τ (upd_same z.next.hand (suc t) empty) (fit_hand p deepest ks F (suc t) (suc (suc t)) u w z.next τ empty (inl refl) (omega arith) z.fit);
        same = record {
          hands = λ v lt o. upd_other z.next.hand (suc t) v empty (λ e. omega (arith, e, lt)) ∙ (z.keeps.hands v (λ e. omega (arith, e, lt)) ∙ (a.same.hands v (omega (arith, lt)) ((λ e. omega (arith, e, lt)), o) ∙ upd_other l.hand (suc t) v (Held text) (λ e. omega (arith, e, lt))));
          numbers = λ v lt. z.keeps.numbers v (λ e. omega (arith, e, lt)) ∙ a.same.numbers v (omega (arith, lt));
          iterators = λ v. z.keeps.iterators v ∙ a.same.iterators v;
          arrays = λ v lt. z.keeps.arrays v ∙ a.same.arrays v lt;
        };
        own = a.own;
        kept = kept_same fs ts (λ i. held_after (suc i) s (st i)) a.next l2 env t g.below (λ v lt. upd_other z.next.hand (suc t) v empty (λ e. omega (arith, e, lt)) ∙ z.keeps.hands v (λ e. omega (arith, e, lt))) (λ v lt. z.keeps.numbers v (λ e. omega (arith, e, lt))) a.kept.1;
      }))
    where
      all_used : keeps_well s ≡ true → ((i : ℕ) → i < length fs → is_well_used (held_after (suc i) s (st i)) ≡ true) → (i : ℕ) → i < suc (length fs) → is_well_used (held_after i s (consed There st i)) ≡ true
      all_used e us zero lt = e
      all_used e us (suc i) lt = us i (omega (arith, lt))

      room_there : (s : Code) → suc (suc t) + room s ≤ b.temporaries → suc (suc t) < b.temporaries
      room_there s le = let r = room_one s in omega (arith, le, r)

  text_closes : (s : Code) (fs : List Form) (env : Env fs) (ts : List ℕ) (st : ℕ → Standing) (t u w : ℕ) (k : Instructions) (K : List Label) (l : Locals) (σ : State) (x : Unit {0}) (σ1 : State) (c : Conf) → TextDone s fs env ts st t u w NoMore (label [] None k ∷ K) l σ x σ1 c → Onward (machine p deepest ks F) M 1 (TextDone s fs env ts st t u w k K l σ x σ1) c
  text_closes s fs env ts st t u w k K l σ x σ1 c a = record {
    conf = at ks [] K (laid b a.next) F k (beside_state p deepest ks F σ1);
    steps = 1;
    few = omega arith;
    goes = goes_from a.comes closes;
    holds = record { next = a.next; comes = refl; fit = a.fit; same = a.same; own = a.own; kept = a.kept };
  }

  -- the same in a block, which ends
  stored_in_block : (s : Code) (fs : List Form) (env : Env fs) (ts : List ℕ) (st : ℕ → Standing) (t u w d : ℕ) (k : Instructions) (K : List Label) (l : Locals) (σ : State) (text : Value) → Stores s fs env ts st t u w (loops_walked K) l σ →
      Reached p deepest ks F b M (work_of s + 17) σ.turns (at ks [] (label [] None k ∷ K) (laid b (with_at l (Hand (suc t)) (Held text))) F (emitted (layout p deepest ks F b M n) true (a_value ∷ fs) (suc t ∷ ts) s (suc (suc t)) w (suc d) (text_let_go (layout p deepest ks F b M n) fs s t NoMore)) (beside_state p deepest ks F σ)) (TextDone s fs env ts st t u w k K l σ) (Away p deepest ks F b d K) (storing_meant s fs env text σ)
  stored_in_block s fs env ts st t u w d k K l σ text g =
      within (machine p deepest ks F) M (work_of s + 16 + 1) (work_of s + 17) σ.turns _ (TextDone s fs env ts st t u w k K l σ) (Away p deepest ks F b d K) (storing_meant s fs env text σ) (omega arith)
      (blocked p deepest ks F b M (work_of s + 16) σ.turns d k K _ (TextDone s fs env ts st t u w NoMore (label [] None k ∷ K) l σ) (TextDone s fs env ts st t u w k K l σ) (storing_meant s fs env text σ)
      (λ x τ c a. text_closes s fs env ts st t u w k K l σ x τ c a)
      (stored_text s fs env ts st t u w (suc d) NoMore (label [] None k ∷ K) l σ text g))

  -- A line that was read goes into a variable, where one was.

  pub record Received (s : Code) (fs : List Form) (env : Env fs) (ts : List ℕ) (st : ℕ → Standing) (t u w : ℕ) (k : Instructions) (K : List Label) (l : Locals) (σ : State) (x : Number) (σ1 : State) (c : Conf) : Type 0 where
    pub next : Locals
    pub comes : c ≡ at ks [] K (laid b next) F k (beside_state p deepest ks F σ1)
    pub fit : Fit p deepest ks F (suc t) u w next σ1
    pub same : Same ts t w l next
    pub own : SameOwn p deepest ks F σ σ1
    pub kept : Kept fs ts (λ i. either_way (st i) (held_after (suc i) s (st i))) next env
    pub holds : HoldsAt a_number t next x

  same_less : (ts : List ℕ) (t w : ℕ) (l l1 : Locals) → Same ts (suc t) w l l1 → Same ts t w l l1
  same_less ts t w l l1 a = record { hands = λ x lt o. a.hands x (omega (arith, lt)) o; numbers = λ x lt. a.numbers x (omega (arith, lt)); iterators = a.iterators; arrays = a.arrays }

  hand_free : (q t u w : ℕ) (l : Locals) (σ : State) → q ≤ t → Fit p deepest ks F q u w l σ → is_owned (l.hand t) ≡ false
  hand_free q t u w l σ le f = ap is_owned (f.free t le)

  -- an answer of the input as a number
  numbered_in : (s : Code) (fs : List Form) (env : Env fs) (ts : List ℕ) (st : ℕ → Standing) (t u w d : ℕ) (k : Instructions) (K : List Label) (l l1 : Locals) (σ τ : State) (x : InputAnswer) → t < b.temporaries → Below t ts → Same ts t w l l1 → SameOwn p deepest ks F σ τ → Kept fs ts (λ i. either_way (st i) (held_after (suc i) s (st i))) l1 env → Fit p deepest ks F (suc t) u w l1 τ → HoldsAt (PrimitiveAnswer answer.Input) t l1 x →
      Reached p deepest ks F b M 16 τ.turns (at ks [] K (laid b l1) F (code_number b t k) (beside_state p deepest ks F τ)) (Received s fs env ts st t u w k K l σ) (Away p deepest ks F b d K) (give (input_number x) τ)
  numbered_in s fs env ts st t u w d k K l l1 σ τ x lt bl sm own kp ft hd =
      weaker_settled (machine p deepest ks F) M 16 _ τ (Converted p deepest ks F b M (suc t) u w t a_number k K l1) (Received s fs env ts st t u w k K l σ) (Away p deepest ks F b d K) (Ok (input_number x))
      (λ v c a. record {
        next = a.next;
        comes = a.comes;
        fit = a.fit;
        same = same_then ts t t w w l l1 a.next (omega arith) (omega arith) sm (under_same ts t w l1 a.next (under_keeps t t l1 a.next (omega arith) a.keeps));
        own = own;
        kept = kept_same fs ts (λ i. either_way (st i) (held_after (suc i) s (st i))) l1 a.next env t bl (λ y h. a.keeps.hands y (λ e. omega (arith, e, h))) (λ y h. a.keeps.numbers y (λ e. omega (arith, e, h))) kp;
        holds = a.holds;
      })
      (converted_ok p deepest ks F b M (PrimitiveAnswer answer.Input) sort.Number x (suc t) u w t d k K l1 τ refl (omega arith) lt ft hd)

  line_fetched : {K : List Label} {store : Instructions} → (t : ℕ) (l : Locals) (σ : State) → suc t < b.temporaries → is_owned (l.hand (suc t)) ≡ false → is_some σ.shared.inner.line ≡ true →
      Goes (machine p deepest ks F) 2 (at ks [] K (laid b l) F (text_kept (layout p deepest ks F b M n) row.Line t store) (beside_state p deepest ks F σ)) (at ks [] K (laid b (with_at l (Hand (suc t)) (Held (given σ.shared.inner.line)))) F store (beside_state p deepest ks F (done_by p deepest ks F row.Line tt σ)))
  line_fetched t l σ lt o e = then_goes (row_called p deepest ks F row.Line tt [] [] σ refl refl refl refl e) (set_ok b l (Hand (suc t)) (Held (given σ.shared.inner.line)) lt o)

  text_fetched : {K : List Label} {store : Instructions} → (t : ℕ) (l : Locals) (σ : State) → suc t < b.temporaries → is_owned (l.hand (suc t)) ≡ false → is_some σ.shared.inner.substituted ≡ true →
      Goes (machine p deepest ks F) 2 (at ks [] K (laid b l) F (text_kept (layout p deepest ks F b M n) row.SubResult t store) (beside_state p deepest ks F σ)) (at ks [] K (laid b (with_at l (Hand (suc t)) (Held (given σ.shared.inner.substituted)))) F store (beside_state p deepest ks F (done_by p deepest ks F row.SubResult tt σ)))
  text_fetched t l σ lt o e = then_goes (row_called p deepest ks F row.SubResult tt [] [] σ refl refl refl refl e) (set_ok b l (Hand (suc t)) (Held (given σ.shared.inner.substituted)) lt o)

  -- after a row that leaves names and assignments alone
  stores_after : (s : Code) (fs : List Form) (env : Env fs) (ts : List ℕ) (st : ℕ → Standing) (t u w m : ℕ) (l : Locals) (σ : State) (sh : Shared) → Calm p sh → Stores s fs env ts st t u w m l σ → Stores s fs env ts st t u w m l (record σ { shared = sh })
  stores_after s fs env ts st t u w m l σ sh c g = record {
    ok = g.ok;
    well = g.well;
    keeps = g.keeps;
    used = g.used;
    room_enough = g.room_enough;
    arrays_enough = g.arrays_enough;
    below = g.below;
    kept = g.kept;
    fit = fit_shared p deepest ks F (suc t) u w l σ sh c g.fit;
    turns = g.turns;
    parameters = g.parameters;
    plain = g.plain;
    walking = g.walking;
    none = g.none;
  }

  -- nothing was read
  passed : (s : Code) (fs : List Form) (env : Env fs) (ts : List ℕ) (st : ℕ → Standing) (t u w d : ℕ) (k : Instructions) (K : List Label) (l : Locals) (σ : State) (x : InputAnswer) → Stores s fs env ts st t u w (loops_walked K) l σ → HoldsAt (PrimitiveAnswer answer.Input) t l x → nat_eq (input_code x) 1 ≡ false → (block : Instructions) →
      Reached p deepest ks F b M (work_of s + 40) σ.turns (at ks [] K (laid b l) F (number_is (number_local b t) 1 (when block (code_number b t k))) (beside_state p deepest ks F σ)) (Received s fs env ts st t u w k K l σ) (Away p deepest ks F b d K) (give (input_number x) σ)
  passed s fs env ts st t u w d k K l σ x g hd e block =
      let q = g.room_enough in
      first (machine p deepest ks F) M 4 16 (work_of s + 40) σ.turns _ _ (Received s fs env ts st t u w k K l σ) (Away p deepest ks F b d K) (give (input_number x) σ)
      (then_goes (goes_to (number_is_ok b l t (input_code x) 1 (omega (arith, q)) hd.1) (ap (λ f. at ks (Bits (flag f) ∷ []) K (laid b l) F (when block (code_number b t k)) (beside_state p deepest ks F σ)) e))
      (then_goes (chooses block NoMore 0) closes)) (omega arith)
      (numbered_in s fs env ts st t u w d k K l l σ σ x (omega (arith, q)) g.below (same_self ts t w l) (λ j h. refl) (kept_left_way fs ts st (λ i. held_after (suc i) s (st i)) l env g.kept) g.fit hd)

  pub received_ok : (s : Code) (fs : List Form) (env : Env fs) (ts : List ℕ) (st : ℕ → Standing) (t u w d : ℕ) (k : Instructions) (K : List Label) (l : Locals) (σ : State) (x : InputAnswer) → Stores s fs env ts st t u w (loops_walked K) l σ → HoldsAt (PrimitiveAnswer answer.Input) t l x → LineAt σ.shared.inner x →
      Reached p deepest ks F b M (work_of s + 40) σ.turns
      (at ks [] K (laid b l) F (number_is (number_local b t) 1 (when (text_kept (layout p deepest ks F b M n) row.Line t (emitted (layout p deepest ks F b M n) true (a_value ∷ fs) (suc t ∷ ts) s (suc (suc t)) w (suc d) (text_let_go (layout p deepest ks F b M n) fs s t NoMore))) (code_number b t k))) (beside_state p deepest ks F σ))
      (Received s fs env ts st t u w k K l σ) (Away p deepest ks F b d K) (when_read (storing_meant s fs env) x σ)
  received_ok s fs env ts st t u w d k K l σ input.Read g hd la =
      let mach = machine p deepest ks F in
      let q = g.room_enough in
      let τ = done_by p deepest ks F row.Line tt σ in
      let text = given σ.shared.inner.line in
      let k1 = code_number b t k in
      let block = text_kept (layout p deepest ks F b M n) row.Line t (emitted (layout p deepest ks F b M n) true (a_value ∷ fs) (suc t ∷ ts) s (suc (suc t)) w (suc d) (text_let_go (layout p deepest ks F b M n) fs s t NoMore)) in
      let P = Received s fs env ts st t u w k K l σ in
      let Q = Away p deepest ks F b d K in
      let c = calm_after p row.Line tt σ.shared refl g.fit.sound.calm in
      first mach M 5 (work_of s + 33) (work_of s + 40) σ.turns _ _ P Q _
      (then_goes (number_is_ok b l t 1 1 (omega (arith, q)) hd.1)
      (then_goes (chooses block NoMore 1) (line_fetched t l σ (omega (arith, q)) (hand_free (suc t) (suc t) u w l σ (omega arith) g.fit) la))) (omega arith)
      (then_on mach M (work_of s + 17) 16 (work_of s + 33) τ.turns _ (TextDone s fs env ts st t u w k1 K l τ) P Q (storing_meant s fs env text τ) (λ y. give (input_number input.Read)) (omega arith)
      (stored_in_block s fs env ts st t u w d k1 K l τ text (stores_after s fs env ts st t u w (loops_walked K) l σ τ.shared c g))
      (λ y τ1 c1 le a.
      first mach M 0 16 16 τ1.turns c1 _ P Q (give (input_number input.Read) τ1) (record { it = a.comes }) (omega arith)
      (numbered_in s fs env ts st t u w d k K l a.next σ τ1 input.Read (omega (arith, q)) g.below (same_less ts t w l a.next a.same) a.own
      (kept_right_way fs ts st (λ i. held_after (suc i) s (st i)) a.next env a.kept) a.fit
      (holds_same (PrimitiveAnswer answer.Input) t l a.next input.Read (a.same.hands t (omega arith) (outside_below t t ts g.below (omega arith))) (a.same.numbers t (omega arith)) hd))))
  received_ok s fs env ts st t u w d k K l σ input.End g hd la = passed s fs env ts st t u w d k K l σ input.End g hd refl _
  received_ok s fs env ts st t u w d k K l σ input.Pending g hd la = passed s fs env ts st t u w d k K l σ input.Pending g hd refl _
  received_ok s fs env ts st t u w d k K l σ input.Failed g hd la = passed s fs env ts st t u w d k K l σ input.Failed g hd refl _

  -- The text of a substitution, where anything was replaced.

  pub replaced_ok : (s : Code) (fs : List Form) (env : Env fs) (ts : List ℕ) (st : ℕ → Standing) (t u w d : ℕ) (k : Instructions) (K : List Label) (l : Locals) (σ : State) (x : Number) → Stores s fs env ts st t u w (loops_walked K) l σ → HoldsAt a_number t l x → is_some σ.shared.inner.substituted ≡ true →
      Reached p deepest ks F b M (work_of s + 30) σ.turns
      (at ks [] K (laid b l) F (emit (LocalGet (number_local b t)) (emit (Test ty.I64 Eqz) (emit_if NoMore (text_kept (layout p deepest ks F b M n) row.SubResult t (emitted (layout p deepest ks F b M n) true (a_value ∷ fs) (suc t ∷ ts) s (suc (suc t)) w (suc d) (text_let_go (layout p deepest ks F b M n) fs s t NoMore))) k))) (beside_state p deepest ks F σ))
      (Received s fs env ts st t u w k K l σ) (Away p deepest ks F b d K) (when_replaced (storing_meant s fs env) x σ)
  replaced_ok s fs env ts st t u w d k K l σ x g hd la =
      first mach M 2 (work_of s + 28) (work_of s + 30) σ.turns _ _ P Q _
      (then_goes (get_copied b l (NumberAt t) (Bits (I64 (number_word x))) lt hd.1 refl) (goes_to (by_steps 1 refl) (ap (λ f. at ks (Bits (flag f) ∷ []) K (laid b l) F (emit_if NoMore block k) (beside_state p deepest ks F σ)) (zero_word x)))) (omega arith)
      (by (is_zero x.number))
    where
      mach : Machine.Code
      mach = machine p deepest ks F

      P : Number → State → Conf → Type 0
      P = Received s fs env ts st t u w k K l σ

      Q : Stop → State → Conf → Type 0
      Q = Away p deepest ks F b d K

      lt : t < b.temporaries
      lt = let q = g.room_enough in omega (arith, q)

      lt1 : suc t < b.temporaries
      lt1 = let q = g.room_enough in omega (arith, q)

      block : Instructions
      block = text_kept (layout p deepest ks F b M n) row.SubResult t (emitted (layout p deepest ks F b M n) true (a_value ∷ fs) (suc t ∷ ts) s (suc (suc t)) w (suc d) (text_let_go (layout p deepest ks F b M n) fs s t NoMore))

      τ : State
      τ = done_by p deepest ks F row.SubResult tt σ

      text : Value
      text = given σ.shared.inner.substituted

      by : (z : Bool) → Reached p deepest ks F b M (work_of s + 28) σ.turns (at ks (Bits (flag z) ∷ []) K (laid b l) F (emit_if NoMore block k) (beside_state p deepest ks F σ)) P Q (go_on ((if z then nothing else (λ σ1. go_on (does_row row.SubResult tt σ1) (storing_meant s fs env))) σ) (λ y. give x))
      by true = there mach M (work_of s + 28) 2 _ _ x σ P Q (then_goes (chooses NoMore block 1) closes) (omega arith)
          (record { next = l; comes = refl; fit = g.fit; same = same_self ts t w l; own = λ j h. refl; kept = kept_left_way fs ts st (λ i. held_after (suc i) s (st i)) l env g.kept; holds = hd })
      by false =
          first mach M 3 (work_of s + 17) (work_of s + 28) σ.turns _ _ P Q _ (then_goes (chooses NoMore block 0) (text_fetched t l σ lt1 (hand_free (suc t) (suc t) u w l σ (omega arith) g.fit) la)) (omega arith)
          (then_on mach M (work_of s + 17) 0 (work_of s + 17) τ.turns _ (TextDone s fs env ts st t u w k K l τ) P Q (storing_meant s fs env text τ) (λ y. give x) (omega arith)
          (stored_in_block s fs env ts st t u w d k K l τ text (stores_after s fs env ts st t u w (loops_walked K) l σ τ.shared (calm_after p row.SubResult tt σ.shared refl g.fit.sound.calm) g))
          (λ y τ1 c1 le a. there mach M 0 0 c1 _ x τ1 P Q stays (omega arith)
          (record {
            next = a.next;
            comes = a.comes;
            fit = a.fit;
            same = same_less ts t w l a.next a.same;
            own = a.own;
            kept = kept_right_way fs ts st (λ i. held_after (suc i) s (st i)) a.next env a.kept;
            holds = holds_same a_number t l a.next x (a.same.hands t (omega arith) (outside_below t t ts g.below (omega arith))) (a.same.numbers t (omega arith)) hd;
          })))
