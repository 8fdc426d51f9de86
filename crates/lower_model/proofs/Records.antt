-- The records of the main input: each costs a turn, as does each assignment between them. What is assumed of reading and of assignments is said by `Reading`.
use Rattle.std.proofs.Common.{◌≡◌, ℕ, zero, suc, ◌+◌, ◌≤◌, true, false, List, [], ◌∷◌, Some, None, refl, ap, arith}
use Rattle.std.specs.Prelude.{nat_eq}
use Rattle.wasm_store.specs.Words.{flag}
use Rattle.sem_primitives.specs.declared.answers.InputAnswer.{InputAnswer}
use Rattle.sem_primitives.specs.declared.answers.InputAnswer.TheVariants as input
use Rattle.sem_primitives.specs.declared.table.Primitive.TheVariants as row
use Rattle.wasm_types.specs.Syntax.{Instructions, Done}
use Rattle.wasm_types.specs.declared.instr.Simple.TheVariants.{Br}
use Rattle.wasm_store.specs.declared.word.Word.TheVariants.{I64}
use Rattle.mid_program.specs.Mid.{Program, Steps}
use Rattle.sem_scripts.specs.Meaning.{assign_pending}
use Rattle.sem_scripts.specs.ScriptRun.{for_record, on_input, records_done}
use Rattle.sem_scripts.specs.ScriptState.{State, OutOfTurns, Outcome, Execution, ◌>>◌, asks, nothing, stop}
use Rattle.mid_program.specs.Sorted.{context_of, steps_sorted}
use Rattle.lower_model.specs.Cells.{Bits}
use Rattle.lower_model.specs.Emission.{pending_assigned}
use Rattle.lower_model.specs.Functions.{layout_of}
use Rattle.host_imports.specs.Codes.{input_code}
use Rattle.lower_model.specs.Machine.{Conf, Label, at, label, ending_at, loops_walked}
use Rattle.lower_model.specs.Noted.{noted_done, out_of_part}
use Rattle.lower_model.specs.Places.{Bases, steps_room, steps_iterators, steps_arrays, number_local}
use Rattle.lower_model.specs.Small.{emit, ask_row, when, number_is, kept_code}
use Rattle.lower_model.specs.Statements.{record_done, records_read}
use Rattle.lower_model.proofs.Observer.{Observer}
use Rattle.lower_model.proofs.Runs.{Goes, goes_from, goes_to, then_goes, by_steps, first, then_on, then_step, there, turned, weaker, Arrives}
use Rattle.lower_model.proofs.Locals.{Locals, laid}
use Rattle.lower_model.proofs.Relation.{Away, away_out, fit_turns}
use Rattle.lower_model.proofs.Pieces.{number_is_ok}
use Rattle.lower_model.proofs.Answers.{machine, beside_state}
use Rattle.lower_model.proofs.StatementForms.{steps_work, Starts, StepsOk}
use Rattle.lower_model.proofs.Returning.{Plainly}
use Rattle.lower_model.proofs.Parts.{On, record_work, record_ok}

module _ (p : Program) (deepest : Observer) (b : Bases) (M n : ℕ) where
  -- what is there after the main input was asked: where an assignment is pending, as `Pends` says
  abbrev pub After : (Locals → State → Type 0) → InputAnswer → List Label → Locals → State → Type 0
  After Pends input.Pending K l σ = Pends l σ
  After Pends input.End K l σ = Starts p deepest [] [] b M n 0 K l σ
  After Pends input.Read K l σ = Starts p deepest [] [] b M n 0 K l σ
  After Pends input.Failed K l σ = Starts p deepest [] [] b M n 0 K l σ

  -- the answer is in the first temporary, as a code
  pub record Answered (Pends : Locals → State → Type 0) (k : Instructions) (K : List Label) (a : InputAnswer) (σ : State) (c : Conf) : Type 0 where
    pub next : Locals
    pub comes : c ≡ at [] [] K (laid b next) [] k (beside_state p deepest [] [] σ)
    pub number : next.number zero ≡ Bits (I64 (input_code a))
    pub after : After Pends a K next σ

  -- what is assumed: the main input is asked in at most 6 steps, beside the turns of assignments that the host carries out; and what is pending is assigned
  pub record Reading (work : ℕ) : Type 1 where
    pub Pends : Locals → State → Type 0
    pub spent : (l : Locals) (σ : State) (m : ℕ) → Pends l σ → Pends l (record σ { turns = m })
    pub asked : (d : ℕ) (k : Instructions) (K : List Label) (l : Locals) (σ : State) → Starts p deepest [] [] b M n 0 K l σ →
        Arrives (machine p deepest [] []) M 6 σ.turns (at [] [] K (laid b l) [] (ask_row row.NextMain (kept_code b true zero d k)) (beside_state p deepest [] [] σ)) (Answered Pends k K) (Away p deepest [] [] b d K) (asks row.NextMain tt σ)
    pub assigned : (d : ℕ) (k : Instructions) (K : List Label) (l : Locals) (σ : State) → loops_walked K ≡ 0 → σ.turns ≤ n → Pends l σ →
        Arrives (machine p deepest [] []) M work σ.turns (at [] [] K (laid b l) [] (pending_assigned (layout_of p b) zero k) (beside_state p deepest [] [] σ)) (λ u. On p deepest b M n k K) (Away p deepest [] [] b d K) (assign_pending σ)

  module _ (work : ℕ) (r : Reading work) (items : Steps) (ok : StepsOk p deepest [] [] b M n items) (plain : Plainly (noted_done deepest.notes p b n items out_of_part)) (so : steps_sorted (context_of p []) false false items ≡ true) (room : steps_room items ≤ b.temporaries) (iterators : steps_iterators items ≤ b.iterators)
      (arrays : steps_arrays items ≤ b.arrays) (one : suc zero ≤ b.temporaries) (few : (steps_work items + (record_work p deepest b M n + 3)) + (work + 30) ≤ M) (d : ℕ) (k : Instructions) (K : List Label) where
    abbrev pending_code : Instructions
    pending_code = pending_assigned (layout_of p b) zero (emit (Br 1) Done)

    abbrev else_code : Instructions
    else_code = number_is (number_local b zero) 2 (when pending_code Done)

    abbrev record_code : Instructions
    record_code = record_done (layout_of p b) items (suc (suc d)) (emit (Br 1) Done)

    abbrev answer_code : Instructions
    answer_code = number_is (number_local b zero) 1 (when record_code else_code)

    abbrev read_code : Instructions
    read_code = ask_row row.NextMain (kept_code b true zero (suc d) answer_code)

    abbrev inside : List Label
    inside = label [] (Some read_code) k ∷ K

    abbrev rounds : ℕ → Execution (Unit {0})
    rounds m = records_done m (noted_done deepest.notes p b n items out_of_part)

    -- a round begins
    abbrev Round : State → Conf → Type 0
    Round = On p deepest b M n read_code inside

    again_from : (x : Label) (m w : ℕ) (σ : State) (c : Conf) (l0 : ℕ) (rr : Outcome (Unit {0})) → Arrives (machine p deepest [] []) M w l0 c (λ u. On p deepest b M n (emit (Br 1) Done) (x ∷ inside)) (Away p deepest [] [] b (suc (suc d)) (x ∷ inside)) rr → loops_walked inside ≡ 0 →
        Arrives (machine p deepest [] []) M (w + 1) l0 c (λ u. Round) (Away p deepest [] [] b d K) rr
    again_from x m w σ c l0 rr a e =
        then_step (machine p deepest [] []) M 1 w (w + 1) l0 c (λ u. On p deepest b M n (emit (Br 1) Done) (x ∷ inside)) (λ u. Round) (Away p deepest [] [] b d K) rr (omega arith)
        (λ u τ c1 h. record {
          conf = at [] [] inside (laid b h.next) [] read_code (beside_state p deepest [] [] τ);
          steps = 1;
          few = omega arith;
          goes = goes_from h.comes (by_steps 1 refl);
          holds = record { next = h.next; comes = refl; starts = record { fit = h.starts.fit; walked = h.starts.walked; walks = h.starts.walks; loops = e; turns = h.starts.turns; parameters = h.starts.parameters } };
        })
        (weaker (machine p deepest [] []) M w l0 c (λ u. On p deepest b M n (emit (Br 1) Done) (x ∷ inside)) (λ u. On p deepest b M n (emit (Br 1) Done) (x ∷ inside)) (Away p deepest [] [] b (suc (suc d)) (x ∷ inside)) (Away p deepest [] [] b d K) rr (λ u τ c1 q. q)
        (λ why τ c1 q. away_out p deepest [] [] b d (label [] (Some read_code) k) K why τ c1 (away_out p deepest [] [] b (suc d) x inside why τ c1 q)) a)

    -- out of the loop
    ends : (a : InputAnswer) (x : ℕ) (σ : State) (l : Locals) (c : Conf) → c ≡ at [] [] inside (laid b l) [] answer_code (beside_state p deepest [] [] σ) → l.number zero ≡ Bits (I64 x) → Goes (machine p deepest [] []) 9 (at [] [] inside (laid b l) [] answer_code (beside_state p deepest [] [] σ)) (at [] [] K (laid b l) [] k (beside_state p deepest [] [] σ)) →
        Starts p deepest [] [] b M n 0 inside l σ → loops_walked K ≡ 0 → Arrives (machine p deepest [] []) M 10 σ.turns c (λ u. On p deepest b M n k K) (Away p deepest [] [] b d K) (nothing σ)
    ends a x σ l c e en g s walks =
        there (machine p deepest [] []) M 10 9 c _ (tt {0}) σ (λ u. On p deepest b M n k K) (Away p deepest [] [] b d K) (goes_from e g) (omega arith)
        (record { next = l; comes = refl; starts = record { fit = s.fit; walked = s.walked; walks = s.walks; loops = walks; turns = s.turns; parameters = s.parameters } })

    -- what is not a record is looked at once more
    passed : (x : ℕ) (l : Locals) (σ : State) → l.number zero ≡ Bits (I64 x) → nat_eq x 1 ≡ false →
        Goes (machine p deepest [] []) 4 (at [] [] inside (laid b l) [] answer_code (beside_state p deepest [] [] σ)) (at [] [] inside (laid b l) [] else_code (beside_state p deepest [] [] σ))
    passed x l σ e ne =
        then_goes (goes_to (number_is_ok b l zero x 1 one e) (ap (λ t. at [] (Bits (flag t) ∷ []) inside (laid b l) [] (when record_code else_code) (beside_state p deepest [] [] σ)) ne)) (by_steps 2 refl)

    over_at : (x : ℕ) (l : Locals) (σ : State) → l.number zero ≡ Bits (I64 x) → nat_eq x 1 ≡ false → nat_eq x 2 ≡ false →
        Goes (machine p deepest [] []) 9 (at [] [] inside (laid b l) [] answer_code (beside_state p deepest [] [] σ)) (at [] [] K (laid b l) [] k (beside_state p deepest [] [] σ))
    over_at x l σ e n1 n2 =
        then_goes (passed x l σ e n1)
        (then_goes (goes_to (number_is_ok b l zero x 2 one e) (ap (λ t. at [] (Bits (flag t) ∷ []) inside (laid b l) [] (when pending_code Done) (beside_state p deepest [] [] σ)) n2)) (by_steps 3 refl))

    -- what is done by the answer, where a turn more is spent on all that goes on
    answered : (a : InputAnswer) (w : ℕ) (read pending : Execution (Unit {0})) (σ : State) (c : Conf) → 7 + w ≤ M → loops_walked K ≡ 0 → Answered r.Pends answer_code inside a σ c → σ.turns ≤ n →
        ((l : Locals) (m : ℕ) → σ.turns ≡ suc m → Starts p deepest [] [] b M n 0 inside l (record σ { turns = m }) → Arrives (machine p deepest [] []) M w m (at [] [] (label [] None else_code ∷ inside) (laid b l) [] record_code (beside_state p deepest [] [] σ)) (λ u. On p deepest b M n k K) (Away p deepest [] [] b d K) (read (record σ { turns = m }))) →
        ((l : Locals) (m : ℕ) → σ.turns ≡ suc m → r.Pends l (record σ { turns = m }) → Arrives (machine p deepest [] []) M w m (at [] [] (label [] None Done ∷ inside) (laid b l) [] pending_code (beside_state p deepest [] [] σ)) (λ u. On p deepest b M n k K) (Away p deepest [] [] b d K) (pending (record σ { turns = m }))) →
        Arrives (machine p deepest [] []) M 10 σ.turns c (λ u. On p deepest b M n k K) (Away p deepest [] [] b d K) (on_input read pending a σ)
    answered input.End w read pending σ c small walks h le reads pends = ends input.End 0 σ h.next c h.comes h.number (over_at 0 h.next σ h.number refl refl) h.after walks
    answered input.Failed w read pending σ c small walks h le reads pends = ends input.Failed 3 σ h.next c h.comes h.number (over_at 3 h.next σ h.number refl refl) h.after walks
    answered input.Read w read pending σ c small walks h le reads pends =
        let s = h.after in
        turned (machine p deepest [] []) M σ.turns 2 w 10 σ c _ (λ u. On p deepest b M n k K) (Away p deepest [] [] b d K) read refl
        (goes_from h.comes (then_goes (number_is_ok b h.next zero 1 1 one h.number) (by_steps 1 refl))) (ap ending_at h.comes) (omega (arith, small))
        (λ m e. reads h.next m e (record { fit = fit_turns p deepest [] [] 0 0 0 h.next σ m s.fit; walked = s.walked; walks = s.walks; loops = s.loops; turns = omega (arith, le, e); parameters = s.parameters }))
    answered input.Pending w read pending σ c small walks h le reads pends =
        turned (machine p deepest [] []) M σ.turns 6 w 10 σ c _ (λ u. On p deepest b M n k K) (Away p deepest [] [] b d K) pending refl
        (goes_from h.comes (then_goes (passed 2 h.next σ h.number refl) (then_goes (number_is_ok b h.next zero 2 2 one h.number) (by_steps 1 refl)))) (ap ending_at h.comes) (omega (arith, small))
        (λ m e. pends h.next m e (r.spent h.next σ m h.after))

    abbrev round_work : ℕ
    round_work = (steps_work items + (record_work p deepest b M n + 3)) + (work + 17)

    -- at most m rounds
    records_ok : loops_walked K ≡ 0 → (m : ℕ) (σ : State) (c : Conf) → σ.turns ≤ m → σ.turns ≤ n → Round σ c → Arrives (machine p deepest [] []) M 16 σ.turns c (λ u. On p deepest b M n k K) (Away p deepest [] [] b d K) (rounds m σ)
    unfolding records_done
    records_ok walks zero σ c le len h =
        first (machine p deepest [] []) M 0 16 16 σ.turns c _ (λ u. On p deepest b M n k K) (Away p deepest [] [] b d K) _ (record { it = h.comes }) (omega arith)
        (then_on (machine p deepest [] []) M 6 10 16 σ.turns _ (Answered r.Pends answer_code inside) (λ u. On p deepest b M n k K) (Away p deepest [] [] b d K) (asks row.NextMain tt σ) (on_input (stop OutOfTurns) (stop OutOfTurns)) (omega arith)
        (weaker (machine p deepest [] []) M 6 σ.turns _ (Answered r.Pends answer_code inside) (Answered r.Pends answer_code inside) (Away p deepest [] [] b (suc d) inside) (Away p deepest [] [] b d K) (asks row.NextMain tt σ) (λ a τ c1 q. q)
        (λ why τ c1 q. away_out p deepest [] [] b d (label [] (Some read_code) k) K why τ c1 q) (r.asked (suc d) answer_code inside h.next σ h.starts))
        (λ a τ c1 le1 q. answered a 0 (stop OutOfTurns) (stop OutOfTurns) τ c1 (omega (arith, few)) walks q (omega (arith, le1, len)) (λ l j e s. absurd (omega (arith, e, le, le1))) (λ l j e s. absurd (omega (arith, e, le, le1)))))
    records_ok walks (suc m) σ c le len h =
        first (machine p deepest [] []) M 0 16 16 σ.turns c _ (λ u. On p deepest b M n k K) (Away p deepest [] [] b d K) _ (record { it = h.comes }) (omega arith)
        (then_on (machine p deepest [] []) M 6 10 16 σ.turns _ (Answered r.Pends answer_code inside) (λ u. On p deepest b M n k K) (Away p deepest [] [] b d K) (asks row.NextMain tt σ) (on_input (for_record (noted_done deepest.notes p b n items out_of_part) >> rounds m) (assign_pending >> rounds m)) (omega arith)
        (weaker (machine p deepest [] []) M 6 σ.turns _ (Answered r.Pends answer_code inside) (Answered r.Pends answer_code inside) (Away p deepest [] [] b (suc d) inside) (Away p deepest [] [] b d K) (asks row.NextMain tt σ) (λ a τ c1 q. q)
        (λ why τ c1 q. away_out p deepest [] [] b d (label [] (Some read_code) k) K why τ c1 q) (r.asked (suc d) answer_code inside h.next σ h.starts))
        (λ a τ c1 le1 q. answered a round_work (for_record (noted_done deepest.notes p b n items out_of_part) >> rounds m) (assign_pending >> rounds m) τ c1 (omega (arith, few)) walks q (omega (arith, le1, len))
        (λ l j e s.
        then_on (machine p deepest [] []) M ((steps_work items + (record_work p deepest b M n + 3)) + 1) 16 round_work j _ (λ u. Round) (λ u. On p deepest b M n k K) (Away p deepest [] [] b d K) (for_record (noted_done deepest.notes p b n items out_of_part) (record τ { turns = j })) (λ u. rounds m) (omega arith)
        (again_from (label [] None else_code) m (steps_work items + (record_work p deepest b M n + 3)) (record τ { turns = j }) _ j _
        (record_ok p deepest b M n items ok (suc (suc d)) (emit (Br 1) Done) (label [] None else_code ∷ inside) l (record τ { turns = j }) plain so room iterators arrays (omega (arith, few)) (record { fit = s.fit; walked = s.walked; walks = s.walks; loops = s.loops; turns = s.turns; parameters = s.parameters })) walks)
        (λ u τ1 c2 le2 h2. records_ok walks m τ1 c2 (omega (arith, le, le1, e, le2)) (omega (arith, len, le1, e, le2)) h2))
        (λ l j e s.
        then_on (machine p deepest [] []) M (work + 1) 16 round_work j _ (λ u. Round) (λ u. On p deepest b M n k K) (Away p deepest [] [] b d K) (assign_pending (record τ { turns = j })) (λ u. rounds m) (omega arith)
        (again_from (label [] None Done) m work (record τ { turns = j }) (at [] [] (label [] None Done ∷ inside) (laid b l) [] pending_code (beside_state p deepest [] [] τ)) j (assign_pending (record τ { turns = j })) (r.assigned (suc (suc d)) (emit (Br 1) Done) (label [] None Done ∷ inside) l (record τ { turns = j }) walks (omega (arith, len, le1, e)) s) walks)
        (λ u τ1 c2 le2 h2. records_ok walks m τ1 c2 (omega (arith, le, le1, e, le2)) (omega (arith, len, le1, e, le2)) h2))))

    -- the records of the main input
    pub reading_ok : (l : Locals) (σ : State) → Starts p deepest [] [] b M n 0 K l σ →
        Arrives (machine p deepest [] []) M 17 σ.turns (at [] [] K (laid b l) [] (records_read (layout_of p b) items d k) (beside_state p deepest [] [] σ)) (λ u. On p deepest b M n k K) (Away p deepest [] [] b d K) (records_done n (noted_done deepest.notes p b n items out_of_part) σ)
    reading_ok l σ s =
        first (machine p deepest [] []) M 1 16 17 σ.turns _ (at [] [] inside (laid b l) [] read_code (beside_state p deepest [] [] σ)) (λ u. On p deepest b M n k K) (Away p deepest [] [] b d K) _ (by_steps 1 refl) (omega arith)
        (records_ok s.loops n σ _ s.turns s.turns (record { next = l; comes = refl; starts = record { fit = s.fit; walked = s.walked; walks = s.walks; loops = s.loops; turns = s.turns; parameters = s.parameters } }))
