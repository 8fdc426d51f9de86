-- What `main` is given: the assignments before BEGIN, and the records of the main input with the assignments between them, do what they mean.
use Rattle.std.proofs.Common.{◌≡◌, inl, inr, ℕ, zero, suc, ◌+◌, ◌*◌, ◌-◌, ◌^◌, ◌<◌, ◌≤◌, true, List, [], length, Result, Ok, Err, refl, sym, ap, ◌∙◌, arith, subst}
use Rattle.std.specs.Prelude.{not, is_some}
use Rattle.awk_values.specs.declared.fault.Fault.{Fault}
use Rattle.awk_values.specs.declared.value.Value.TheVariants.{StrNum}
use Rattle.sem_primitives.specs.Carried.{carried_out}
use Rattle.sem_primitives.specs.Rows.{next_main_row}
use Rattle.sem_primitives.specs.SharedState.{Inner, Shared, settles}
use Rattle.sem_primitives.specs.declared.answers.InputAnswer.{InputAnswer}
use Rattle.sem_primitives.specs.declared.answers.InputAnswer.TheVariants as input
use Rattle.sem_primitives.specs.declared.answers.AssignAnswer.{AssignAnswer}
use Rattle.sem_primitives.specs.declared.answers.AssignAnswer.TheVariants as assign
use Rattle.sem_primitives.specs.declared.sorts.Answer.TheVariants as answer
use Rattle.sem_primitives.specs.declared.table.Primitive.TheVariants as row
use Rattle.wasm_types.specs.Syntax.{Instructions}
use Rattle.wasm_store.specs.declared.word.Word.TheVariants.{I64}
use Rattle.sem_scripts.specs.Meaning.{assign_pending}
use Rattle.mid_program.specs.Mid.{Program}
use Rattle.sem_scripts.specs.ScriptRun.{first_assigned, on_assignment}
use Rattle.sem_scripts.specs.ScriptState.{State, Faulted, OutOfTurns, TooDeep, Nexted, Exited, Returned, Outcome, Gives, Stops, Execution, ◌>>◌, go_on, give, stop, spend_all, spent, settled, asks, call}
use Rattle.mid_program.specs.Sorted.{kinds_of}
use Rattle.lower_model.specs.Cells.{Bits, Held}
use Rattle.lower_model.specs.Emission.{asked, pending_assigned}
use Rattle.lower_model.specs.Functions.{layout_of}
use Rattle.host_imports.specs.Codes.{input_code}
use Rattle.lower_model.specs.Machine.{Conf, Label, at, carried_if, loops_walked}
use Rattle.lower_model.specs.Machine
use Rattle.lower_model.specs.Places.{Bases}
use Rattle.lower_model.specs.Small.{ask_row, kept_code}
use Rattle.host_imports.specs.declared.import.Import.TheVariants.{OfPrimitive}
use Rattle.lower_model.proofs.Observer.{Observer}
use Rattle.lower_model.proofs.Runs.{Arrives, stays, there, faulted, then_on}
use Rattle.lower_model.proofs.Regions.{upd_same}
use Rattle.lower_model.proofs.Locals.{Locals, Hand, Number as NumberAt, with_at, laid}
use Rattle.lower_model.proofs.Steps.{empty}
use Rattle.lower_model.proofs.Calls.{import_found}
use Rattle.lower_model.proofs.Relation.{Fit, fit_shared, fit_turns, fit_more, fit_less, fit_hand, fit_number, Away}
use Rattle.lower_model.proofs.Pieces.{code_kept, code_failed}
use Rattle.lower_model.proofs.Answers.{machine, beside_state, row_called, away_with}
use Rattle.lower_model.proofs.HostLaws.{Few, Keeps}
use Rattle.lower_model.proofs.InputLaws.{IsPending, GoodInput, next_main_row_good}
use Rattle.lower_model.proofs.Spending.{Asks, state_after, conf_after, spends_ok}
use Rattle.lower_model.proofs.Asking.{codes_fit, fit_answered, fit_faulted}
use Rattle.lower_model.proofs.Pending.{made_locals, made_state, pending_meant, pending_made}
use Rattle.lower_model.proofs.Written.{fit_global_by}
use Rattle.lower_model.proofs.StatementForms.{Starts}
use Rattle.lower_model.proofs.Parts.{On, Left}
use Rattle.lower_model.proofs.Records.{After, Answered, Reading}
use Rattle.lower_model.proofs.Mains.{Starting as StartingAt}
use Rattle.lower_model.proofs.Starting.{Started, first_assigned_ok}

-- ---- no `next`, `exit` or `return` comes of an assignment

abbrev OnlyFaults : {A : Type 0} → Outcome A → Type 0
OnlyFaults (Gives a σ) = Unit {0}
OnlyFaults (Stops (Faulted f) σ) = Unit {0}
OnlyFaults (Stops OutOfTurns σ) = Unit {0}
OnlyFaults (Stops TooDeep σ) = Unit {0}
OnlyFaults (Stops why σ) = ⊥

then_only : {A B : Type 0} → (r : Outcome A) (f : A → Execution B) → OnlyFaults r → ((a : A) (σ : State) → OnlyFaults (f a σ)) → OnlyFaults (go_on r f)
then_only (Gives a σ) f h k = k a σ
then_only (Stops (Faulted x) σ) f h k = tt
then_only (Stops OutOfTurns σ) f h k = tt
then_only (Stops TooDeep σ) f h k = tt
then_only (Stops Nexted σ) f h k = h
then_only (Stops Exited σ) f h k = h
then_only (Stops (Returned v) σ) f h k = h

settled_only : {A : Type 0} → (r : Result A Fault) (σ : State) → OnlyFaults (settled r σ)
settled_only (Ok x) σ = tt
settled_only (Err f) σ = tt

spent_only : (m : ℕ) (σ : State) → OnlyFaults (spent m σ)
spent_only zero σ = tt
spent_only (suc m) σ = tt

all_spent_only : (k : ℕ) (σ : State) → OnlyFaults (spend_all k σ)
unfolding spend_all
all_spent_only zero σ = tt
all_spent_only (suc k) σ = then_only (spent σ.turns σ) (λ x. spend_all k) (spent_only σ.turns σ) (λ x τ. all_spent_only k τ)

onward : {A : Type 0} → (r : Outcome A) → go_on r give ≡ r
onward (Gives a σ) = refl
onward (Stops why σ) = refl

module _ (p : Program) (deepest : Observer) (b : Bases) (M n : ℕ) (none : zero ≡ b.parameters) (two : suc zero < b.temporaries) where
  abbrev mach : Machine.Code
  mach = machine p deepest [] []

  -- ---- an assignment that is pending

  -- what a read of the main input left: the locals fit the state before it, and an assignment is pending
  record Pending (l : Locals) (σ : State) : Type 0 where
    before : State
    fit : Fit p deepest [] [] 0 0 0 l before
    same : σ ≡ record before { turns = σ.turns; shared = σ.shared }
    pending : IsPending σ.shared.inner
    names : σ.shared.inner.names ≡ before.shared.inner.names
    few : Few before.shared.inner → Few σ.shared.inner

  starts_of : (K : List Label) (l : Locals) (σ : State) → loops_walked K ≡ 0 → σ.turns ≤ n → Fit p deepest [] [] 0 0 0 l σ → Starts p deepest [] [] b M n 0 K l σ
  starts_of K l σ walks le fit = record { fit = fit; walked = λ x lt. absurd (omega (arith, lt)); walks = omega arith; loops = walks; turns = le; parameters = none }

  assigned_at : (before : State) (m : ℕ) (sh : Shared) (d : ℕ) (k : Instructions) (K : List Label) (l : Locals) → loops_walked K ≡ 0 → m ≤ n → Fit p deepest [] [] 0 0 0 l before → IsPending sh.inner → sh.inner.names ≡ before.shared.inner.names → (Few before.shared.inner → Few sh.inner) →
      Arrives mach M (21 + 4 * length (kinds_of p.globals)) m (at [] [] K (laid b l) [] (pending_assigned (layout_of p b) zero k) (beside_state p deepest [] [] (record before { turns = m; shared = sh })))
      (λ u. On p deepest b M n k K) (Away p deepest [] [] b d K) (assign_pending (record before { turns = m; shared = sh }))
  assigned_at before m sh d k K l walks le ft ip nm fw =
      let σ = record before { turns = m; shared = sh } in
      let e0 = ft.free 0 (omega arith) in
      let e1 = ft.free 1 (omega arith) in
      let pm = pending_made p deepest [] [] b M n 0 K k l σ ip (nm ∙ ft.sound.calm.names) ft.sound.names two (ft.numbers 0) e0 e1 in
      let q = pm.few in
      let l2 = made_locals p deepest [] [] b M n 0 ip.number ip.text l in
      let number = Bits (I64 ip.number) in
      let value = Held (StrNum ip.text) in
      let l3 = with_at l (NumberAt 0) number in
      let l4 = with_at l3 (Hand 0) value in
      let σ2 = made_state p deepest [] [] b M n ip.number ip.text σ in
      let σ1 = record before { turns = m; shared = σ2.shared } in
      let f2 = fit_shared p deepest [] [] 0 0 0 l (record before { turns = m }) σ2.shared (record { pending = refl; names = nm ∙ ft.sound.calm.names; few = fw ft.sound.calm.few }) (fit_turns p deepest [] [] 0 0 0 l before m ft) in
      let f4 = fit_more p deepest [] [] 0 0 0 l3 σ1 (fit_number p deepest [] [] 0 0 0 0 l σ1 number refl f2) in
      let f5 = fit_hand p deepest [] [] 0 1 0 0 l3 σ1 value (inr (StrNum ip.text, refl)) (omega arith) f4 in
      let f6 = fit_hand p deepest [] [] 0 1 0 0 l4 σ1 empty (inl refl) (omega arith) f5 in
      let f7 = fit_less p deepest [] [] 0 0 0 l2 σ1 (upd_same l4.hand 0 empty) f6 in
      let f8 = fit_global_by p deepest [] [] b M n ip.number (StrNum ip.text) 0 0 0 l2 σ1 (λ j k h. cc) f7 in
      subst (λ o. Arrives mach M (21 + 4 * length (kinds_of p.globals)) m (at [] [] K (laid b l) [] (pending_assigned (layout_of p b) zero k) (beside_state p deepest [] [] σ)) (λ u. On p deepest b M n k K) (Away p deepest [] [] b d K) o) (sym (pending_meant p deepest [] [] b M n σ ip))
      (there mach M (21 + 4 * length (kinds_of p.globals)) pm.steps _ _ (tt {0}) σ2 (λ u. On p deepest b M n k K) (Away p deepest [] [] b d K) pm.goes q (record { next = l2; comes = refl; starts = starts_of K l2 σ2 walks le f8 }))

  assigned : (d : ℕ) (k : Instructions) (K : List Label) (l : Locals) (σ : State) → loops_walked K ≡ 0 → σ.turns ≤ n → Pending l σ →
      Arrives mach M (21 + 4 * length (kinds_of p.globals)) σ.turns (at [] [] K (laid b l) [] (pending_assigned (layout_of p b) zero k) (beside_state p deepest [] [] σ)) (λ u. On p deepest b M n k K) (Away p deepest [] [] b d K) (assign_pending σ)
  assigned d k K l σ walks le h =
      subst (λ (τ : State). Arrives mach M (21 + 4 * length (kinds_of p.globals)) τ.turns (at [] [] K (laid b l) [] (pending_assigned (layout_of p b) zero k) (beside_state p deepest [] [] τ)) (λ u. On p deepest b M n k K) (Away p deepest [] [] b d K) (assign_pending τ)) (sym h.same)
      (assigned_at h.before σ.turns σ.shared d k K l walks le h.fit h.pending h.names h.few)

  -- ---- the next record

  abbrev asks_next : Asks p deepest [] [] M answer.Input
  asks_next = record {
    code = ask_row row.NextMain;
    carried = carried_out row.NextMain;
    result = λ s. next_main_row s.outside s.inner;
    calls = λ K L c σ e. row_called p deepest [] [] row.NextMain tt [] [] σ refl refl refl refl (ap (λ z. not (is_some z)) e);
    counts = λ K L c σ. ap (λ o. carried_if o (beside_state p deepest [] [] σ)) (import_found (OfPrimitive row.NextMain));
  }

  module _ (d : ℕ) (k : Instructions) (K : List Label) (l : Locals) (σ : State) (st : Starts p deepest [] [] b M n 0 K l σ) where
    abbrev after_call : ℕ → Result (Inner × InputAnswer) Fault → State
    after_call m r = state_after p deepest [] [] M answer.Input σ m r

    abbrev after_reply_of : Result (Inner × InputAnswer) Fault → Conf
    after_reply_of r = conf_after p deepest [] [] M answer.Input K (laid b l) (kept_code b true zero d k) σ r

    gave : (m : ℕ) (j : Inner) (x : InputAnswer) → ((l1 : Locals) → l1 ≡ with_at l (NumberAt 0) (Bits (I64 (input_code x))) → After p deepest b M n Pending x K l1 (after_call m (Ok (j, x)))) →
        Arrives mach M 5 m (after_reply_of (Ok (j, x))) (Answered p deepest b M n Pending k K) (Away p deepest [] [] b d K) (Gives x (after_call m (Ok (j, x))))
    gave m j x h =
        there mach M 5 4 _ _ x (after_call m (Ok (j, x))) (Answered p deepest b M n Pending k K) (Away p deepest [] [] b d K)
        (code_kept b l 0 d (input_code x) (omega (arith, two)) (let f = st.fit in f.numbers 0) (codes_fit x).0 (codes_fit x).1) (omega arith)
        (record { next = with_at l (NumberAt 0) (Bits (I64 (input_code x))); comes = refl; number = upd_same l.number 0 (Bits (I64 (input_code x))); after = h _ refl })

    calm_answer : (m : ℕ) (j : Inner) (x : InputAnswer) → m ≤ σ.turns → Keeps σ.shared.inner j → (l1 : Locals) → l1 ≡ with_at l (NumberAt 0) (Bits (I64 (input_code x))) → Starts p deepest [] [] b M n 0 K l1 (after_call m (Ok (j, x)))
    calm_answer m j x le h l1 e =
        let c = Bits (I64 (input_code x)) in
        let τ = after_call m (Ok (j, x)) in
        let most = st.turns in
        subst (λ (l2 : Locals). Starts p deepest [] [] b M n 0 K l2 τ) (sym e)
        (starts_of K (with_at l (NumberAt 0) c) τ st.loops (omega (arith, le, most)) (fit_number p deepest [] [] 0 0 0 0 l τ c refl (fit_answered p deepest [] [] b M n answer.Input 0 0 0 l σ m j x h.pending h.names h.few st.fit)))

    answered : (m : ℕ) (r : Result (Inner × InputAnswer) Fault) → m ≤ σ.turns → GoodInput σ.shared.inner r →
        Arrives mach M 5 m (after_reply_of r) (Answered p deepest b M n Pending k K) (Away p deepest [] [] b d K) (go_on (settled (settles σ.shared r).answer (after_call m r)) give)
    answered m (Err g) le h =
        faulted mach M 5 4 _ _ g (after_call m (Err g)) (Answered p deepest b M n Pending k K) (Away p deepest [] [] b d K) (code_failed b l 0 d (omega (arith, two)) (let f = st.fit in f.numbers 0)) (omega arith)
        (away_with p deepest [] [] b M 0 0 0 d (2 ^ 64 - 1) K l (after_call m (Err g)) g (fit_faulted p deepest [] [] b M n answer.Input 0 0 0 l σ m g st.fit))
    answered m (Ok (j, input.Pending)) le h =
        gave m j input.Pending (λ l1 e. record {
          before = σ;
          fit = subst (λ (l2 : Locals). Fit p deepest [] [] 0 0 0 l2 σ) (sym e) (fit_number p deepest [] [] 0 0 0 0 l σ (Bits (I64 (input_code input.Pending))) refl st.fit);
          same = refl;
          pending = h.1;
          names = h.0;
          few = h.4;
        })
    answered m (Ok (j, input.End)) le h = gave m j input.End (λ l1 e. calm_answer m j input.End le h l1 e)
    answered m (Ok (j, input.Read)) le h = gave m j input.Read (λ l1 e. calm_answer m j input.Read le h l1 e)
    answered m (Ok (j, input.Failed)) le h = gave m j input.Failed (λ l1 e. calm_answer m j input.Failed le h l1 e)

    next_asked : Arrives mach M 6 σ.turns (at [] [] K (laid b l) [] (ask_row row.NextMain (kept_code b true zero d k)) (beside_state p deepest [] [] σ)) (Answered p deepest b M n Pending k K) (Away p deepest [] [] b d K) (asks row.NextMain tt σ)
    next_asked =
        subst (λ o. Arrives mach M 6 σ.turns (at [] [] K (laid b l) [] (ask_row row.NextMain (kept_code b true zero d k)) (beside_state p deepest [] [] σ)) (Answered p deepest b M n Pending k K) (Away p deepest [] [] b d K) o) (onward (asks row.NextMain tt σ))
        (spends_ok p deepest [] [] M answer.Input asks_next 5 K (laid b l) (kept_code b true zero d k) σ (Answered p deepest b M n Pending k K) (Away p deepest [] [] b d K) give (let f = st.fit in f.sound.calm.pending) (λ vs G. refl)
        (λ m le. answered m (next_main_row σ.shared.outside σ.shared.inner) le (next_main_row_good σ.shared.outside σ.shared.inner)))

  pub reading : Reading p deepest b M n (21 + 4 * length (kinds_of p.globals))
  reading = record {
    Pends = Pending;
    spent = λ l σ m h. record { before = h.before; fit = h.fit; same = ap (λ (τ : State). record τ { turns = m }) h.same; pending = h.pending; names = h.names; few = h.few };
    asked = λ d k K l σ st. next_asked d k K l σ st;
    assigned = assigned;
  }

  -- ---- the assignments before BEGIN

  start_only : (σ : State) → OnlyFaults (asks row.StartAssign tt σ)
  start_only σ = then_only (spend_all (carried_out row.StartAssign σ.shared) σ) (λ x. call row.StartAssign tt) (all_spent_only (carried_out row.StartAssign σ.shared) σ) (λ x τ. settled_only _ _)

  on_only : (go : Execution (Unit {0})) → ((σ : State) → OnlyFaults (go σ)) → (x : AssignAnswer) (σ : State) → OnlyFaults (on_assignment go x σ)
  on_only go h assign.Pending σ = then_only (spent σ.turns σ) (λ x. go) (spent_only σ.turns σ) (λ x τ. h τ)
  on_only go h assign.NoneLeft σ = tt

  first_only : (m : ℕ) (σ : State) → OnlyFaults (first_assigned m σ)
  unfolding first_assigned
  first_only zero σ = then_only (asks row.StartAssign tt σ) (on_assignment (stop OutOfTurns)) (start_only σ) (on_only (stop OutOfTurns) (λ τ. tt))
  first_only (suc m) σ =
      then_only (asks row.StartAssign tt σ) (on_assignment (assign_pending >> first_assigned m)) (start_only σ)
      (on_only (assign_pending >> first_assigned m) (λ τ. then_only (assign_pending τ) (λ x. first_assigned m) tt (λ x υ. first_only m υ)))

  left_for_good : {A : Type 0} → (w m : ℕ) (c : Conf) (K : List Label) (P : A → State → Conf → Type 0) (r : Outcome A) → OnlyFaults r → Arrives mach M w m c P (Away p deepest [] [] b zero K) r → Arrives mach M w m c P (Left p deepest b M n zero K) r
  left_for_good w m c K P (Gives a σ) h q = q
  left_for_good w m c K P (Stops OutOfTurns σ) h q = q
  left_for_good w m c K P (Stops (Faulted f) σ) h q = record { conf = q.conf; steps = q.steps; goes = q.goes; cost = q.cost; holds = let z = q.holds in record { next = z.next; way = 0; store = z.store; left = z.left; comes = z.comes; loose = z.loose; answer = z.answer; good = tt } }
  left_for_good w m c K P (Stops TooDeep σ) h q = record { conf = q.conf; steps = q.steps; goes = q.goes; cost = q.cost; holds = let z = q.holds in record { next = z.next; way = 0; store = z.store; left = z.left; comes = z.comes; loose = z.loose; answer = z.answer; good = tt } }
  left_for_good w m c K P (Stops Nexted σ) h q = absurd h
  left_for_good w m c K P (Stops Exited σ) h q = absurd h
  left_for_good w m c K P (Stops (Returned v) σ) h q = absurd h

  pub starting : 40 + 4 * length (kinds_of p.globals) ≤ M → StartingAt p deepest b M n 11
  starting paid = record {
    made = λ k K l σ st.
        let c = at [] [] K (laid b l) [] (asked (layout_of p b) row.StartAssign zero zero k) (beside_state p deepest [] [] σ) in
        left_for_good 11 σ.turns c K (λ u. On p deepest b M n k K) (first_assigned n σ) (first_only n σ)
        (subst (λ o. Arrives mach M 11 σ.turns c (λ u. On p deepest b M n k K) (Away p deepest [] [] b zero K) o) (onward (first_assigned n σ))
        (then_on mach M 11 0 11 σ.turns c (Started p deepest [] [] b M n 0 0 0 k K l σ) (λ u. On p deepest b M n k K) (Away p deepest [] [] b zero K) (first_assigned n σ) give (omega arith)
        (first_assigned_ok p deepest [] [] b M n paid (λ i k h. cc) n 0 0 0 0 k K l σ two st.fit st.turns)
        (λ u τ c1 le h. there mach M 0 0 c1 c1 u τ (λ v. On p deepest b M n k K) (Away p deepest [] [] b zero K) stays (omega arith)
        (record { next = h.next; comes = h.comes; starts = starts_of K h.next τ st.loops (let most = st.turns in omega (arith, le, most)) h.fit }))));
  }
