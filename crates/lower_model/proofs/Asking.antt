-- Records of the main input are asked for: assignments of the command line come first, each for a turn, in a loop.
use Rattle.std.proofs.Common.{◌≡◌, inl, inr, ℕ, zero, suc, ◌+◌, ◌*◌, ◌-◌, ◌^◌, ◌<◌, ◌≤◌, Bool, true, false, List, [], ◌∷◌, length, Some, None, Result, Ok, Err, refl, sym, ap, ◌∙◌, subst, true≢false, arith, Option}
use Rattle.std.specs.Prelude.{nat_eq, not, is_some}
use Rattle.std.specs.Int.{w32, w64, cast_signed, cast_unsigned}
use Rattle.awk_values.specs.declared.fault.Fault.{Fault}
use Rattle.awk_values.specs.declared.value.Value.TheVariants.{StrNum}
use Rattle.sem_primitives.specs.Carried.{carried_out}
use Rattle.sem_primitives.specs.Rows.{getline_row, getline_line_row}
use Rattle.sem_primitives.specs.SharedState.{Inner, Shared, settles, shared_after}
use Rattle.sem_primitives.specs.declared.answers.InputAnswer.{InputAnswer}
use Rattle.sem_primitives.specs.declared.answers.InputAnswer.TheVariants as input
use Rattle.sem_primitives.specs.Sorts.{InAnswer}
use Rattle.sem_primitives.specs.declared.sorts.Answer.{Answer}
use Rattle.sem_primitives.specs.declared.sorts.Answer.TheVariants as answer
use Rattle.sem_primitives.specs.declared.table.Primitive.TheVariants as row
use Rattle.wasm_types.specs.Syntax.{Instructions, Done as NoMore}
use Rattle.wasm_types.specs.declared.instr.Simple.TheVariants.{Br}
use Rattle.wasm_store.specs.Words.{flag}
use Rattle.wasm_store.specs.declared.word.Word.TheVariants.{I32, I64}
use Rattle.sem_scripts.specs.Meaning.{asked, unless_pending, assign_pending}
use Rattle.mid_program.specs.Mid.{Kind, Program, PrimitiveAnswer}
use Rattle.sem_scripts.specs.ScriptState.{State, Stop, OutOfTurns, Gives, Execution, ◌>>◌, go_on, give, stop, spend, settled, with_global}
use Rattle.mid_program.specs.Sorted.{kinds_of, has_kind, lender_at}
use Rattle.lower_model.specs.Cells.{Bits, Held, is_owned}
use Rattle.lower_model.specs.Emission.{pending_assigned}
use Rattle.host_imports.specs.Codes.{input_code}
use Rattle.lower_model.specs.Machine.{Conf, Label, Frame, at, label, carried_if}
use Rattle.lower_model.specs.Machine
use Rattle.lower_model.specs.Places.{Bases, number_local}
use Rattle.lower_model.specs.Small.{emit, ask_row, when, number_is, kept_code}
use Rattle.host_imports.specs.declared.import.Import.TheVariants.{OfPrimitive}
use Rattle.lower_model.proofs.Observer.{Observer}
use Rattle.lower_model.proofs.Runs.{Goes, then_goes, goes_to, by_steps, there, faulted, turned, weaker}
use Rattle.lower_model.proofs.Regions.{upd_same}
use Rattle.lower_model.proofs.Locals.{Locals, Hand, Number as NumberAt, with_at, laid}
use Rattle.lower_model.proofs.Steps.{empty}
use Rattle.lower_model.proofs.Calls.{import_found}
use Rattle.lower_model.proofs.Relation.{HoldsAt, Same, same_then, same_hand, same_number, Calm, Fit, fit_shared, fit_turns, fit_more, fit_less, fit_hand, fit_number, SameOwn, Away}
use Rattle.lower_model.proofs.Pieces.{chooses, closes, number_is_ok, code_kept, code_failed}
use Rattle.lower_model.proofs.Answers.{machine, beside_state, row_called, away_with, Reached}
use Rattle.lower_model.proofs.HostLaws.{Few, Keeps}
use Rattle.lower_model.proofs.InputLaws.{IsPending, GoodInput, LineAt, LineThere, getline_row_good, getline_line_row_good, line_there}
use Rattle.lower_model.proofs.Spending.{Asks, state_after, conf_after, asking, spends_ok}
use Rattle.lower_model.proofs.Pending.{made_locals, made_state, pending_meant, pending_made}
use Rattle.lower_model.proofs.Written.{fit_global_by}
use Rattle.lower_model.proofs.Simulation.{layout}
use Rattle.lower_model.proofs.State.{LentStays}

-- a code of the input fits 64 bits, and is none of a fault
pub codes_fit : (x : InputAnswer) → (cast_unsigned w64 (cast_signed w32 (input_code x)) ≡ input_code x) × (nat_eq (input_code x) (2 ^ 64 - 1) ≡ false)
codes_fit input.End = (refl, refl)
codes_fit input.Read = (refl, refl)
codes_fit input.Pending = (refl, refl)
codes_fit input.Failed = (refl, refl)

abbrev pub LineIf : Bool → Result (Inner × InputAnswer) Fault → Type 0
LineIf true r = LineThere r
LineIf false r = Unit {0}

abbrev pub LineAtIf : Bool → Inner → InputAnswer → Type 0
LineAtIf true j x = LineAt j x
LineAtIf false j x = Unit {0}

line_if : (t : Bool) (j : Inner) (x : InputAnswer) → LineIf t (Ok (j, x)) → LineAtIf t j x
line_if true j x h = h
line_if false j x h = h

module _ (p : Program) (deepest : Observer) (ks : List Kind) (F : List Frame) (b : Bases) (M n : ℕ) where
  -- The loop: a call is made until no assignment is pending.

  abbrev pub behind_call : (t d : ℕ) → Instructions
  behind_call t d = kept_code b true t (suc d) (number_is (number_local b t) 2 (when (pending_assigned (layout p deepest ks F b M n) t (emit (Br 1) NoMore)) NoMore))

  abbrev pub loop_at : (code : Instructions → Instructions) → (t d : ℕ) → Instructions → Label
  loop_at code t d k = label [] (Some (code (behind_call t d))) k

  -- out of the loop
  pub came_out : (code : Instructions → Instructions) (m t d : ℕ) (k : Instructions) (K : List Label) (l : Locals) (σ : State) → cast_unsigned w64 (cast_signed w32 m) ≡ m → nat_eq m (2 ^ 64 - 1) ≡ false → nat_eq m 2 ≡ false → t < b.temporaries → is_owned (l.number t) ≡ false →
      Goes (machine p deepest ks F) 9 (at ks (Bits (I32 m) ∷ []) (loop_at code t d k ∷ K) (laid b l) F (behind_call t d) (beside_state p deepest ks F σ)) (at ks [] K (laid b (with_at l (NumberAt t) (Bits (I64 m)))) F k (beside_state p deepest ks F σ))
  came_out code m t d k K l σ e1 e2 e lt o =
      let l1 = with_at l (NumberAt t) (Bits (I64 m)) in
      let block = pending_assigned (layout p deepest ks F b M n) t (emit (Br 1) NoMore) in
      then_goes (code_kept b l t (suc d) m lt o e1 e2)
      (then_goes (goes_to (number_is_ok b l1 t m 2 lt (upd_same l.number t (Bits (I64 m)))) (ap (λ f. at ks (Bits (flag f) ∷ []) (loop_at code t d k ∷ K) (laid b l1) F (when block NoMore) (beside_state p deepest ks F σ)) e))
      (then_goes (chooses block NoMore 0) (then_goes closes (by_steps 1 refl))))

  calm_kept : (i j : Inner) (s : Shared) → s.inner ≡ j → j.pending ≡ i.pending → j.names ≡ i.names → (Few i → Few j) → (s0 : Shared) → s0.inner ≡ i → Calm p s0 → Calm p s
  calm_kept i j s e hp hn hf s0 e0 c = record { pending = ap (λ z. z.pending) e ∙ (hp ∙ (ap (λ z. z.pending) (sym e0) ∙ c.pending)); names = ap (λ z. z.names) e ∙ (hn ∙ (ap (λ z. z.names) (sym e0) ∙ c.names)); few = subst Few (sym e) (hf (subst Few e0 c.few)) }

  -- with turns spent, and the host's part changed
  fit_after : (t u w : ℕ) (l : Locals) (σ : State) (m : ℕ) (sh : Shared) → Calm p sh → Fit p deepest ks F t u w l σ → Fit p deepest ks F t u w l (record σ { turns = m; shared = sh })
  fit_after t u w l σ m sh c ft = fit_shared p deepest ks F t u w l (record σ { turns = m }) sh c (fit_turns p deepest ks F t u w l σ m ft)

  pub fit_answered : (a : Answer) (t u w : ℕ) (l : Locals) (σ : State) (m : ℕ) (j : Inner) (x : InAnswer a) → j.pending ≡ σ.shared.inner.pending → j.names ≡ σ.shared.inner.names → (Few σ.shared.inner → Few j) → Fit p deepest ks F t u w l σ → Fit p deepest ks F t u w l (state_after p deepest ks F M a σ m (Ok (j, x)))
  fit_answered a t u w l σ m j x hp hn hf ft = fit_after t u w l σ m (shared_after σ.shared (settles {A = InAnswer a} σ.shared (Ok (j, x)))) (calm_kept σ.shared.inner j (shared_after σ.shared (settles {A = InAnswer a} σ.shared (Ok (j, x)))) refl hp hn hf σ.shared refl ft.sound.calm) ft

  pub fit_faulted : (a : Answer) (t u w : ℕ) (l : Locals) (σ : State) (m : ℕ) (g : Fault) → Fit p deepest ks F t u w l σ → Fit p deepest ks F t u w l (state_after p deepest ks F M a σ m (Err g))
  fit_faulted a t u w l σ m g ft = fit_after t u w l σ m (shared_after σ.shared (settles {A = InAnswer a} σ.shared (Err g))) (record { pending = ft.sound.calm.pending; names = ft.sound.calm.names; few = ft.sound.calm.few }) ft

  -- an assignment is made, for a turn, and the call is made again
  abbrev pub assign_work : ℕ
  assign_work = 40 + 4 * length (kinds_of p.globals)

  same_steps : {i j : ℕ} {c c1 : Conf} → i ≡ j → Goes (machine p deepest ks F) i c c1 → Goes (machine p deepest ks F) j c c1
  same_steps {c = c} {c1 = c1} q g = subst (λ z. Goes (machine p deepest ks F) z c c1) q g

  -- no parameter is at a place where something lends
  abbrev pub NoneLent : Type 0
  NoneLent = (i : ℕ) (k : Kind) → has_kind ks i k ≡ true → lender_at p.lenders i ≡ None

  none_changed : NoneLent → (σ σ1 : State) (i : ℕ) (k : Kind) → has_kind ks i k ≡ true → LentStays (lender_at p.lenders i) σ σ1
  none_changed none σ σ1 i k h g e = absurd (apart (sym (none i k h) ∙ e))
    where
      apart : {j : ℕ} → ◌≡◌ {A = Option ℕ} None (Some j) → ⊥
      apart q = cc

  pub pends_ok : {B : Type 0} → (code : Instructions → Instructions) (rest : Execution B) (m : ℕ) → assign_work ≤ M → NoneLent → (t u w d : ℕ) (k : Instructions) (K : List Label) (l : Locals) (σ : State) (P : B → State → Conf → Type 0) (Q : Stop → State → Conf → Type 0) → suc t < b.temporaries → Fit p deepest ks F t u w l σ → (τ : State) → IsPending τ.shared.inner → τ.shared.inner.names ≡ σ.shared.inner.names → (Few σ.shared.inner → Few τ.shared.inner) → τ ≡ record σ { turns = τ.turns; shared = τ.shared } → τ.turns ≤ suc m →
      ((l2 : Locals) (σ2 : State) → Fit p deepest ks F t u w l2 σ2 → σ2.turns ≤ m → Same [] t w l l2 → SameOwn p deepest ks F σ σ2 → Reached p deepest ks F b M 10 σ2.turns (at ks [] (loop_at code t d k ∷ K) (laid b l2) F (code (behind_call t d)) (beside_state p deepest ks F σ2)) P Q (rest σ2)) →
      Reached p deepest ks F b M 9 τ.turns (at ks (Bits (I32 2) ∷ []) (loop_at code t d k ∷ K) (laid b l) F (behind_call t d) (beside_state p deepest ks F (record σ { turns = τ.turns; shared = τ.shared }))) P Q ((spend >> (assign_pending >> rest)) (record σ { turns = τ.turns; shared = τ.shared }))
  pends_ok code rest m enough none t u w d k K l σ P Q lt ft τ1 ip nm fw eτ tm next =
      let mach = machine p deepest ks F in
      let τ = record σ { turns = τ1.turns; shared = τ1.shared } in
      let c2 = Bits (I64 2) in
      let l1 = with_at l (NumberAt t) c2 in
      let lp = loop_at code t d k in
      let block = pending_assigned (layout p deepest ks F b M n) t (emit (Br 1) NoMore) in
      let e0 = ft.free t (omega arith) in
      let e1 = ft.free (suc t) (omega arith) in
      let pm = pending_made p deepest ks F b M n t (label [] None NoMore ∷ (lp ∷ K)) (emit (Br 1) NoMore) l1 τ ip (nm ∙ ft.sound.calm.names) ft.sound.names lt (ap is_owned (upd_same l.number t c2)) e0 e1 in
      let q = pm.few in
      let l2 = made_locals p deepest ks F b M n t ip.number ip.text l1 in
      let number = Bits (I64 ip.number) in
      let value = Held (StrNum ip.text) in
      let l3 = with_at l1 (NumberAt t) number in
      let l4 = with_at l3 (Hand t) value in
      turned mach M τ1.turns (7 + pm.steps) 10 9 τ _ (at ks [] (lp ∷ K) (laid b l2) F (code (behind_call t d)) (beside_state p deepest ks F (made_state p deepest ks F b M n ip.number ip.text τ))) P Q (assign_pending >> rest) refl
      (same_steps (omega arith)
      (then_goes (code_kept b l t (suc d) 2 (omega (arith, lt)) (ft.numbers t) refl refl)
      (then_goes (number_is_ok b l1 t 2 2 (omega (arith, lt)) (upd_same l.number t c2))
      (then_goes (chooses block NoMore 1) (then_goes pm.goes (by_steps 1 refl)))))) refl (omega (arith, enough, q))
      (λ mm e.
      let τm = record τ { turns = mm } in
      let σ2 = made_state p deepest ks F b M n ip.number ip.text τm in
      let sh2 = σ2.shared in
      let σ1 = record σ { turns = mm; shared = sh2 } in
      let f2 = fit_after t u w l σ mm sh2 (record { pending = refl; names = nm ∙ ft.sound.calm.names; few = fw ft.sound.calm.few }) ft in
      let f3 = fit_number p deepest ks F t t u w l σ1 c2 refl f2 in
      let f4 = fit_more p deepest ks F t u w l3 σ1 (fit_number p deepest ks F t t u w l1 σ1 number refl f3) in
      let f5 = fit_hand p deepest ks F t (suc t) u w l3 σ1 value (inr (StrNum ip.text, refl)) (omega arith) f4 in
      let f6 = fit_hand p deepest ks F t (suc t) u w l4 σ1 empty (inl refl) (omega arith) f5 in
      let f7 = fit_less p deepest ks F t u w l2 σ1 (upd_same l4.hand t empty) f6 in
      let f8 = fit_global_by p deepest ks F b M n ip.number (StrNum ip.text) t u w l2 σ1 (none_changed none σ1 (with_global ip.number (StrNum ip.text) σ1)) f7 in
      let same = same_then [] t t w w l l1 l2 (omega arith) (omega arith) (same_number [] t w t l c2 (omega arith))
      (same_then [] t t w w l1 l3 l2 (omega arith) (omega arith) (same_number [] t w t l1 number (omega arith))
      (same_then [] t t w w l3 l4 l2 (omega arith) (omega arith) (same_hand [] t w t l3 value (omega arith)) (same_hand [] t w t l4 empty (omega arith)))) in
      subst (λ o. Reached p deepest ks F b M 10 mm (at ks [] (lp ∷ K) (laid b l2) F (code (behind_call t d)) (beside_state p deepest ks F σ2)) P Q (go_on o (λ x. rest))) (sym (pending_meant p deepest ks F b M n τm ip))
      (next l2 σ2 f8 (omega (arith, e, tm)) same (λ i g. refl)))

  -- Records, and lines, of the main input.

  -- a call of the two, and what it leaves
  pub record Inputs : Type 0 where
    pub asks : Asks p deepest ks F M answer.Input
    pub reads : Bool
    pub good : (s : Shared) → GoodInput s.inner (asks.result s)
    pub line : (s : Shared) → LineIf reads (asks.result s)

  -- an answer came, and no assignment is pending
  pub record Asked (reads : Bool) (t u w : ℕ) (k : Instructions) (K : List Label) (l : Locals) (σ : State) (x : InputAnswer) (τ : State) (c : Conf) : Type 0 where
    pub next : Locals
    pub comes : c ≡ at ks [] K (laid b next) F k (beside_state p deepest ks F τ)
    pub fit : Fit p deepest ks F (suc t) u w next τ
    pub same : Same [] t w l next
    pub own : SameOwn p deepest ks F σ τ
    pub holds : HoldsAt (PrimitiveAnswer answer.Input) t next x
    pub line : LineAtIf reads τ.shared.inner x

  module _ (a : Inputs) (t u w d : ℕ) (k : Instructions) (K : List Label) (l : Locals) (σ : State) (lt : t < b.temporaries) (ft : Fit p deepest ks F t u w l σ) where
    abbrev mach : Machine.Code
    mach = machine p deepest ks F

    abbrev P : InputAnswer → State → Conf → Type 0
    P = Asked a.reads t u w k K l σ

    abbrev Q : Stop → State → Conf → Type 0
    Q = Away p deepest ks F b d K

    abbrev Result_of : Type 0
    Result_of = Result (Inner × InputAnswer) Fault

    abbrev after_call : (m : ℕ) → Result_of → State
    after_call m r = state_after p deepest ks F M answer.Input σ m r

    abbrev after_reply_of : Result_of → Conf
    after_reply_of r = conf_after p deepest ks F M answer.Input (loop_at a.asks.code t d k ∷ K) (laid b l) (behind_call t d) σ r

    -- an answer that is no assignment
    gave : (m : ℕ) (j : Inner) (x : InputAnswer) → nat_eq (input_code x) 2 ≡ false → Keeps σ.shared.inner j → LineIf a.reads (Ok (j, x)) → Reached p deepest ks F b M 9 m (after_reply_of (Ok (j, x))) P Q (Gives x (after_call m (Ok (j, x))))
    gave m j x e h li =
        let τ = after_call m (Ok (j, x)) in
        let c = Bits (I64 (input_code x)) in
        let l1 = with_at l (NumberAt t) c in
        let f0 = fit_answered answer.Input t u w l σ m j x h.pending h.names h.few ft in
        there mach M 9 9 _ _ x τ P Q (came_out a.asks.code (input_code x) t d k K l τ (codes_fit x).0 (codes_fit x).1 e lt (ft.numbers t)) (omega arith)
        (record {
          next = l1;
          comes = refl;
          fit = fit_number p deepest ks F t (suc t) u w l τ c refl (fit_more p deepest ks F t u w l τ f0);
          same = same_number [] t w t l c (omega arith);
          own = λ i q. refl;
          holds = (ft.free t (omega arith), upd_same l.number t c);
          line = line_if a.reads j x li;
        })

    -- what is done with an assignment that is pending
    abbrev Pends : (InputAnswer → Execution InputAnswer) → Type 0
    Pends f = (m : ℕ) (j : Inner) → m ≤ σ.turns → j.names ≡ σ.shared.inner.names → (Few σ.shared.inner → Few j) → IsPending j → Reached p deepest ks F b M 9 m (after_reply_of (Ok (j, input.Pending))) P Q (f input.Pending (after_call m (Ok (j, input.Pending))))

    abbrev Passes : (InputAnswer → Execution InputAnswer) → Type 0
    Passes f = (x : InputAnswer) → nat_eq (input_code x) 2 ≡ false → f x ≡ give x

    passed_on : (m : ℕ) (j : Inner) (x : InputAnswer) (f : InputAnswer → Execution InputAnswer) → f x ≡ give x → nat_eq (input_code x) 2 ≡ false → Keeps σ.shared.inner j → LineIf a.reads (Ok (j, x)) → Reached p deepest ks F b M 9 m (after_reply_of (Ok (j, x))) P Q (f x (after_call m (Ok (j, x))))
    passed_on m j x f q e h li = subst (λ g. Reached p deepest ks F b M 9 m (after_reply_of (Ok (j, x))) P Q (g (after_call m (Ok (j, x))))) (sym q) (gave m j x e h li)

    answered : (m : ℕ) (r : Result_of) (f : InputAnswer → Execution InputAnswer) → m ≤ σ.turns → GoodInput σ.shared.inner r → LineIf a.reads r → Passes f → Pends f → Reached p deepest ks F b M 9 m (after_reply_of r) P Q (go_on (settled (settles σ.shared r).answer (after_call m r)) f)
    answered m (Err g) f le h li pa pe =
        let τ = after_call m (Err g) in
        faulted mach M 9 4 _ _ g τ P Q (code_failed b l t (suc d) lt (ft.numbers t)) (omega arith) (away_with p deepest ks F b M t u w d (2 ^ 64 - 1) K l τ g (fit_faulted answer.Input t u w l σ m g ft))
    answered m (Ok (j, input.Pending)) f le h li pa pe = pe m j le h.0 h.4 h.1
    answered m (Ok (j, input.End)) f le h li pa pe = passed_on m j input.End f (pa input.End refl) refl h li
    answered m (Ok (j, input.Read)) f le h li pa pe = passed_on m j input.Read f (pa input.Read refl) refl h li
    answered m (Ok (j, input.Failed)) f le h li pa pe = passed_on m j input.Failed f (pa input.Failed refl) refl h li

    once_ok : (f : InputAnswer → Execution InputAnswer) → Passes f → Pends f → Reached p deepest ks F b M 10 σ.turns (at ks [] (loop_at a.asks.code t d k ∷ K) (laid b l) F (a.asks.code (behind_call t d)) (beside_state p deepest ks F σ)) P Q (go_on (asking p deepest ks F M answer.Input a.asks σ) f)
    once_ok f pa pe = spends_ok p deepest ks F M answer.Input a.asks 9 (loop_at a.asks.code t d k ∷ K) (laid b l) (behind_call t d) σ P Q f ft.sound.calm.pending (λ vs G. refl) (λ m le. answered m (a.asks.result σ.shared) f le (a.good σ.shared) (a.line σ.shared) pa pe)

  abbrev AskedFrom : (a : Inputs) (m : ℕ) → Type 0
  AskedFrom a m = (t u w d : ℕ) (k : Instructions) (K : List Label) (l : Locals) (σ : State) → suc t < b.temporaries → Fit p deepest ks F t u w l σ → σ.turns ≤ m →
      Reached p deepest ks F b M 10 σ.turns (at ks [] (loop_at a.asks.code t d k ∷ K) (laid b l) F (a.asks.code (behind_call t d)) (beside_state p deepest ks F σ)) (Asked a.reads t u w k K l σ) (Away p deepest ks F b d K) (asked m (asking p deepest ks F M answer.Input a.asks) σ)

  passes : (A : Execution InputAnswer) (x : InputAnswer) → nat_eq (input_code x) 2 ≡ false → unless_pending A give x ≡ give x
  passes A input.End e = refl
  passes A input.Read e = refl
  passes A input.Failed e = refl
  passes A input.Pending e = absurd (true≢false e)

  pub asked_ok : (a : Inputs) → assign_work ≤ M → NoneLent → (m : ℕ) → AskedFrom a m
  unfolding asked
  asked_ok a enough none zero t u w d k K l σ lt ft tm =
      once_ok a t u w d k K l σ (omega (arith, lt)) ft (unless_pending (stop OutOfTurns) give) (passes (stop OutOfTurns))
      (λ m j le nm fw ip. record { steps = 0; few = omega arith; enough = omega (arith, le, tm); shows = refl })
  asked_ok a enough none (suc m) t u w d k K l σ lt ft tm =
      let again = asked m (asking p deepest ks F M answer.Input a.asks) in
      once_ok a t u w d k K l σ (omega (arith, lt)) ft (unless_pending (spend >> (assign_pending >> again)) give) (passes (spend >> (assign_pending >> again)))
      (λ m1 j le nm fw ip.
      pends_ok a.asks.code again m enough none t u w d k K l σ (Asked a.reads t u w k K l σ) (Away p deepest ks F b d K) lt ft (state_after p deepest ks F M answer.Input σ m1 (Ok (j, input.Pending))) ip nm fw refl (omega (arith, le, tm))
      (λ l2 σ2 f2 t2 same own.
      weaker (machine p deepest ks F) M 10 σ2.turns _ (Asked a.reads t u w k K l2 σ2) (Asked a.reads t u w k K l σ) (Away p deepest ks F b d K) (Away p deepest ks F b d K) (again σ2)
      (λ x τ2 c4 g. record { next = g.next; comes = g.comes; fit = g.fit; same = same_then [] t t w w l l2 g.next (omega arith) (omega arith) same g.same; own = λ i q. g.own i q ∙ own i q; holds = g.holds; line = g.line })
      (λ why τ2 c4 g. g)
      (asked_ok a enough none m t u w d k K l2 σ2 lt f2 t2)))

  -- The two that ask.

  abbrev pub asks_record : Inputs
  asks_record = record {
    asks = record {
      code = ask_row row.Getline;
      carried = carried_out row.Getline;
      result = λ s. getline_row s.outside s.inner;
      calls = λ K L c σ e. row_called p deepest ks F row.Getline tt [] [] σ refl refl refl refl (ap (λ z. not (is_some z)) e);
      counts = λ K L c σ. ap (λ o. carried_if o (beside_state p deepest ks F σ)) (import_found (OfPrimitive row.Getline));
    };
    reads = false;
    good = λ s. getline_row_good s.outside s.inner;
    line = λ s. tt;
  }

  abbrev pub asks_line : Inputs
  asks_line = record {
    asks = record {
      code = ask_row row.GetlineVar;
      carried = carried_out row.GetlineVar;
      result = λ s. getline_line_row s.outside s.inner;
      calls = λ K L c σ e. row_called p deepest ks F row.GetlineVar tt [] [] σ refl refl refl refl (ap (λ z. not (is_some z)) e);
      counts = λ K L c σ. ap (λ o. carried_if o (beside_state p deepest ks F σ)) (import_found (OfPrimitive row.GetlineVar));
    };
    reads = true;
    good = λ s. getline_line_row_good s.outside s.inner;
    line = λ s. line_there s.outside s.inner;
  }
