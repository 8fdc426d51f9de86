-- The assignments of the command line that are made before BEGIN, each for a turn.
use Rattle.std.proofs.Common.{◌≡◌, ℕ, zero, suc, ◌^◌, ◌-◌, ◌<◌, ◌≤◌, List, [], ◌∷◌, Result, Ok, Err, refl, ap, ◌∙◌, arith}
use Rattle.std.specs.Prelude.{not, is_some}
use Rattle.awk_values.specs.declared.fault.Fault.{Fault}
use Rattle.sem_primitives.specs.Carried.{carried_out}
use Rattle.sem_primitives.specs.MainInput.{start_assign_row}
use Rattle.sem_primitives.specs.SharedState.{Inner, settles}
use Rattle.sem_primitives.specs.declared.answers.AssignAnswer.{AssignAnswer}
use Rattle.sem_primitives.specs.declared.answers.AssignAnswer.TheVariants as assign
use Rattle.sem_primitives.specs.declared.sorts.Answer.TheVariants as answer
use Rattle.sem_primitives.specs.declared.table.Primitive.TheVariants as row
use Rattle.wasm_types.specs.Syntax.{Instructions}
use Rattle.wasm_store.specs.declared.word.Word.TheVariants.{I64}
use Rattle.sem_scripts.specs.Meaning.{assign_pending}
use Rattle.mid_program.specs.Mid.{Kind, Program}
use Rattle.sem_scripts.specs.ScriptRun.{first_assigned, on_assignment}
use Rattle.sem_scripts.specs.ScriptState.{State, Stop, OutOfTurns, Execution, ◌>>◌, go_on, stop, spent, spend, settled}
use Rattle.lower_model.specs.Cells.{Bits}
use Rattle.lower_model.specs.Emission.{asked}
use Rattle.lower_model.specs.Machine.{Conf, Label, Frame, at, carried_if}
use Rattle.lower_model.specs.Places.{Bases}
use Rattle.lower_model.specs.Small.{ask_row}
use Rattle.host_imports.specs.declared.import.Import.TheVariants.{OfPrimitive}
use Rattle.lower_model.proofs.Observer.{Observer}
use Rattle.lower_model.proofs.Runs.{by_steps, there, faulted, first, weaker}
use Rattle.lower_model.proofs.Locals.{Locals, Number as NumberAt, with_at, laid}
use Rattle.lower_model.proofs.Calls.{import_found}
use Rattle.lower_model.proofs.Relation.{Same, same_then, same_number, Fit, fit_number, SameOwn, Away}
use Rattle.lower_model.proofs.Pieces.{code_failed}
use Rattle.lower_model.proofs.Answers.{machine, beside_state, row_called, away_with, Reached}
use Rattle.lower_model.proofs.HostLaws.{Few}
use Rattle.lower_model.proofs.InputLaws.{IsPending, GoodStart, start_good}
use Rattle.lower_model.proofs.Spending.{Asks, state_after, conf_after, asking, spends_ok}
use Rattle.lower_model.proofs.Asking.{behind_call, loop_at, came_out, fit_answered, fit_faulted, assign_work, pends_ok, NoneLent}
use Rattle.lower_model.proofs.Simulation.{layout}

module _ (p : Program) (deepest : Observer) (ks : List Kind) (F : List Frame) (b : Bases) (M n : ℕ) where
  abbrev asks_start : Asks p deepest ks F M answer.Assign
  asks_start = record {
    code = ask_row row.StartAssign;
    carried = carried_out row.StartAssign;
    result = λ s. start_assign_row s.inner;
    calls = λ K L c σ e. row_called p deepest ks F row.StartAssign tt [] [] σ refl refl refl refl (ap (λ z. not (is_some z)) e);
    counts = λ K L c σ. ap (λ o. carried_if o (beside_state p deepest ks F σ)) (import_found (OfPrimitive row.StartAssign));
  }

  -- all of them are made
  pub record Started (t u w : ℕ) (k : Instructions) (K : List Label) (l : Locals) (σ : State) (x : Unit {0}) (τ : State) (c : Conf) : Type 0 where
    pub next : Locals
    pub comes : c ≡ at ks [] K (laid b next) F k (beside_state p deepest ks F τ)
    pub fit : Fit p deepest ks F t u w next τ
    pub same : Same [] t w l next
    pub own : SameOwn p deepest ks F σ τ

  module _ (t u w d : ℕ) (k : Instructions) (K : List Label) (l : Locals) (σ : State) (lt : t < b.temporaries) (ft : Fit p deepest ks F t u w l σ) where
    abbrev P : Unit {0} → State → Conf → Type 0
    P = Started t u w k K l σ

    abbrev Q : Stop → State → Conf → Type 0
    Q = Away p deepest ks F b d K

    abbrev after_call : (m : ℕ) → Result (Inner × AssignAnswer) Fault → State
    after_call m r = state_after p deepest ks F M answer.Assign σ m r

    abbrev after_reply_of : Result (Inner × AssignAnswer) Fault → Conf
    after_reply_of r = conf_after p deepest ks F M answer.Assign (loop_at p deepest ks F b M n (ask_row row.StartAssign) t d k ∷ K) (laid b l) (behind_call p deepest ks F b M n t d) σ r

    abbrev Pends : Execution (Unit {0}) → Type 0
    Pends go = (m : ℕ) (j : Inner) → m ≤ σ.turns → j.names ≡ σ.shared.inner.names → (Few σ.shared.inner → Few j) → IsPending j → Reached p deepest ks F b M 9 m (after_reply_of (Ok (j, assign.Pending))) P Q ((spend >> go) (after_call m (Ok (j, assign.Pending))))

    answered : (m : ℕ) (r : Result (Inner × AssignAnswer) Fault) (go : Execution (Unit {0})) → m ≤ σ.turns → GoodStart σ.shared.inner.assigns σ.shared.inner r → Pends go → Reached p deepest ks F b M 9 m (after_reply_of r) P Q (go_on (settled (settles σ.shared r).answer (after_call m r)) (on_assignment go))
    answered m (Err g) go le h pe =
        faulted (machine p deepest ks F) M 9 4 _ _ g (after_call m (Err g)) P Q (code_failed b l t (suc d) lt (ft.numbers t)) (omega arith) (away_with p deepest ks F b M t u w d (2 ^ 64 - 1) K l (after_call m (Err g)) g (fit_faulted p deepest ks F b M n answer.Assign t u w l σ m g ft))
    answered m (Ok (j, assign.Pending)) go le h pe = pe m j le h.0 h.4 h.1
    answered m (Ok (j, assign.NoneLeft)) go le h pe =
        let τ = after_call m (Ok (j, assign.NoneLeft)) in
        let f0 = fit_answered p deepest ks F b M n answer.Assign t u w l σ m j assign.NoneLeft h.0 h.1 h.3 ft in
        there (machine p deepest ks F) M 9 9 _ _ tt τ P Q (came_out p deepest ks F b M n (ask_row row.StartAssign) 0 t d k K l τ refl refl refl lt (ft.numbers t)) (omega arith)
        (record { next = with_at l (NumberAt t) (Bits (I64 0)); comes = refl; fit = fit_number p deepest ks F t t u w l τ (Bits (I64 0)) refl f0; same = same_number [] t w t l (Bits (I64 0)) (omega arith); own = λ i q. refl })

    once_ok : (go : Execution (Unit {0})) → Pends go → Reached p deepest ks F b M 10 σ.turns (at ks [] (loop_at p deepest ks F b M n (ask_row row.StartAssign) t d k ∷ K) (laid b l) F (ask_row row.StartAssign (behind_call p deepest ks F b M n t d)) (beside_state p deepest ks F σ)) P Q (go_on (asking p deepest ks F M answer.Assign asks_start σ) (on_assignment go))
    once_ok go pe = spends_ok p deepest ks F M answer.Assign asks_start 9 (loop_at p deepest ks F b M n (ask_row row.StartAssign) t d k ∷ K) (laid b l) (behind_call p deepest ks F b M n t d) σ P Q (on_assignment go) ft.sound.calm.pending (λ vs G. refl)
        (λ m le. answered m (start_assign_row σ.shared.inner) go le (start_good σ.shared.inner.assigns σ.shared.inner) pe)

    -- no turn is left for one more
    none_more : (m : ℕ) (r : Result (Inner × AssignAnswer) Fault) (j : Inner) → m ≤ 0 → Reached p deepest ks F b M 9 m (after_reply_of (Ok (j, assign.Pending))) P Q (go_on (spent m (after_call m (Ok (j, assign.Pending)))) (λ x. stop OutOfTurns))
    none_more zero r j le = record { steps = 0; few = omega arith; enough = omega arith; shows = refl }
    none_more (suc m) r j le = absurd (omega (arith, le))

  abbrev LoopFrom : ℕ → Type 0
  LoopFrom m = (t u w d : ℕ) (k : Instructions) (K : List Label) (l : Locals) (σ : State) → suc t < b.temporaries → Fit p deepest ks F t u w l σ → σ.turns ≤ m →
      Reached p deepest ks F b M 10 σ.turns (at ks [] (loop_at p deepest ks F b M n (ask_row row.StartAssign) t d k ∷ K) (laid b l) F (ask_row row.StartAssign (behind_call p deepest ks F b M n t d)) (beside_state p deepest ks F σ)) (Started t u w k K l σ) (Away p deepest ks F b d K) (first_assigned m σ)

  loop_ok : assign_work p deepest ks F b M n ≤ M → NoneLent p deepest ks F b M n → (m : ℕ) → LoopFrom m
  unfolding first_assigned
  loop_ok enough none zero t u w d k K l σ lt ft tm =
      once_ok t u w d k K l σ (omega (arith, lt)) ft (stop OutOfTurns)
      (λ m j le nm fw ip. none_more t u w d k K l σ (omega (arith, lt)) ft m (Ok (j, assign.Pending)) j (omega (arith, le, tm)))
  loop_ok enough none (suc m) t u w d k K l σ lt ft tm =
      once_ok t u w d k K l σ (omega (arith, lt)) ft (assign_pending >> first_assigned m)
      (λ m1 j le nm fw ip.
      pends_ok p deepest ks F b M n (ask_row row.StartAssign) (first_assigned m) m enough none t u w d k K l σ (Started t u w k K l σ) (Away p deepest ks F b d K) lt ft (state_after p deepest ks F M answer.Assign σ m1 (Ok (j, assign.Pending))) ip nm fw refl (omega (arith, le, tm))
      (λ l2 σ2 f2 t2 same own.
      weaker (machine p deepest ks F) M 10 σ2.turns _ (Started t u w k K l2 σ2) (Started t u w k K l σ) (Away p deepest ks F b d K) (Away p deepest ks F b d K) (first_assigned m σ2)
      (λ x τ2 c4 g. record { next = g.next; comes = g.comes; fit = g.fit; same = same_then [] t t w w l l2 g.next (omega arith) (omega arith) same g.same; own = λ i q. g.own i q ∙ own i q })
      (λ why τ2 c4 g. g)
      (loop_ok enough none m t u w d k K l2 σ2 lt f2 t2)))

  -- the code before BEGIN makes them
  pub first_assigned_ok : assign_work p deepest ks F b M n ≤ M → NoneLent p deepest ks F b M n → (m t u w d : ℕ) (k : Instructions) (K : List Label) (l : Locals) (σ : State) → suc t < b.temporaries → Fit p deepest ks F t u w l σ → σ.turns ≤ m →
      Reached p deepest ks F b M 11 σ.turns (at ks [] K (laid b l) F (asked (layout p deepest ks F b M n) row.StartAssign t d k) (beside_state p deepest ks F σ)) (Started t u w k K l σ) (Away p deepest ks F b d K) (first_assigned m σ)
  first_assigned_ok enough none m t u w d k K l σ lt ft tm =
      first (machine p deepest ks F) M 1 10 11 σ.turns _ _ (Started t u w k K l σ) (Away p deepest ks F b d K) (first_assigned m σ) (by_steps 1 refl) (omega arith) (loop_ok enough none m t u w d k K l σ lt ft tm)
