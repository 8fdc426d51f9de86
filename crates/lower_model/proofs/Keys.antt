-- Loops over the keys of an array: an iterator is made, each key costs a turn, is kept while the code stores it, and is dropped before the body; at the end the iterator is let go.
use Rattle.std.proofs.Common.{◌≡◌, inl, inr, ℕ, zero, suc, ◌+◌, ◌<◌, ◌≤◌, Bool, true, false, List, [], ◌∷◌, Some, None, Option, refl, sym, ap, ◌∙◌, subst, arith}
use Rattle.std.specs.Prelude.{◌&&◌}
use Rattle.std.proofs.lemmas.Bool.{and_parts, cases_eq}
use Rattle.awk_values.specs.declared.value.Value.{Value}
use Rattle.sem_primitives.specs.Table.{meaning, arguments_of}
use Rattle.sem_primitives.specs.declared.table.Primitive.TheVariants as row
use Rattle.wasm_types.specs.Syntax.{Instructions, Done as NoMore}
use Rattle.wasm_types.specs.declared.types.ValType.TheVariants.{I32}
use Rattle.wasm_types.specs.declared.instr.Simple.TheVariants.{Br, BrIf, LocalGet, LocalSet, LocalTee, I32Const, Compare}
use Rattle.wasm_types.specs.declared.instr.IRelOp.TheVariants.{Eq}
use Rattle.mid_program.specs.Mid.{Kind, Program, Code, Step, Each, a_value, form_of, form_at}
use Rattle.mid_program.specs.MidMeaning.{keyed}
use Rattle.sem_scripts.specs.Names.{ArrayName, Numbered, Given}
use Rattle.sem_scripts.specs.ScriptState.{State, Stop, Gives, Execution, ◌>>=◌, call, go_on}
use Rattle.mid_program.specs.Sorted.{There, calls_of, sorted, stores_well, keeps_well, is_dropped, is_well_used, held_after, is_array_place, step_sorted, steps_sorted}
use Rattle.sem_scripts.specs.Statements.{Flow, Normal, Broke, Continued, at_key, after_round, over_keys}
use Rattle.sem_scripts.specs.Steps.{array_number}
use Rattle.lower_model.specs.Cells.{Cell, Bits, Held, IteratorOf, Gone, is_owned}
use Rattle.lower_model.specs.Emission.{array_pushed, dropped, left_over}
use Rattle.host_imports.specs.Codes.{end_word}
use Rattle.lower_model.specs.ImportCalls.{key_or_end, with_some, and_rest, row_in}
use Rattle.lower_model.specs.Machine.{Conf, Look, Label, Frame, at, label, ask_looking, with_operands, push_word, looked_compared, go}
use Rattle.lower_model.specs.Noted.{noted_called, step_noted, steps_noted}
use Rattle.lower_model.specs.Places.{Bases, room, arrays_in, iterator_local, step_room, step_iterators, step_arrays, handle_local}
use Rattle.lower_model.specs.Small.{emit as instruction, ask_row, ask, let_go, moved_out, end_code}
use Rattle.lower_model.specs.Statements.{block, again, key_stored, iterator_left, step_emitted, steps_emitted}
use Rattle.host_imports.specs.declared.import.Import.TheVariants.{OfPrimitive, Drop, IterFree}
use Rattle.lower_model.proofs.Observer.{Observer}
use Rattle.lower_model.proofs.Runs.{Goes, goes_to, goes_from, then_goes, by_steps, stays, first, then_on, then_step, there, turned, weaker, Onward}
use Rattle.lower_model.proofs.Regions.{upd_same, upd_other, upd_all}
use Rattle.lower_model.proofs.Locals.{Locals, Hand, Iterator, with_at, has_with, laid, laid_at, laid_twice, laid_again}
use Rattle.lower_model.proofs.Steps.{empty, get_moved, set_ok, tee_ok, emptied_ok, moved_out_ok}
use Rattle.lower_model.proofs.Relation.{IsWalk, Fit, fit_hand, fit_less, fit_more, fit_shared, fit_turns, Away, away_out, array_at}
use Rattle.lower_model.proofs.Pieces.{let_go_hand, free_iterator_ok}
use Rattle.lower_model.proofs.Answers.{machine, beside_state, done_by, row_called, Reached}
use Rattle.lower_model.proofs.Arrays.{array_pushed_ok, array_live, array_in_sort}
use Rattle.lower_model.proofs.HostCalls.{calm_after}
use Rattle.lower_model.proofs.Simulation.{work_of, context, layout, meant, Done, ExprOk, NoArray, room_one}
use Rattle.lower_model.proofs.Keeping.{left_ok}
use Rattle.lower_model.proofs.StatementForms.{step_work, flows_on, step_meant, Starts, starts_after, starts_among, Here, StepDone, StepOk}
use Rattle.lower_model.proofs.Tidy.{begun_step}
use Rattle.lower_model.proofs.Loops.{after_body, after_loop}

plain_key : (i : ℕ) → NoArray (form_at (a_value ∷ []) i)
plain_key zero = tt
plain_key (suc i) = tt

used_key : (e : Code) → keeps_well e ≡ true → (i : ℕ) → i < 1 → is_well_used (held_after i e There) ≡ true
used_key e h zero lt = h
used_key e h (suc i) lt = absurd (omega (arith, lt))

array_told : (a : ArrayName) (σ : State) → array_number a σ ≡ Gives (array_at a σ) σ
array_told (Numbered i) σ = refl
array_told (Given i) σ = refl

module _ (p : Program) (deepest : Observer) (ks : List Kind) (F : List Frame) (b : Bases) (M n : ℕ) where
  -- one iterator more is in use, or one less
  fit_walked : (i t u w : ℕ) (l : Locals) (σ : State) → Fit p deepest ks F t u w l σ → Fit p deepest ks F t (suc u) w (with_at l (Iterator u) (IteratorOf i)) σ
  fit_walked i t u w l σ f = record {
    params = f.params;
    size = f.size;
    answer = f.answer;
    hands = f.hands;
    numbers = f.numbers;
    free = f.free;
    walks = upd_all (λ y. IsWalk) l.iterator u (IteratorOf i) (inr (i, refl)) (λ y ne. f.walks y);
    still = λ y le. upd_other l.iterator u y (IteratorOf i) (λ e. omega (arith, e, le)) ∙ f.still y (omega (arith, le));
    yards = f.yards;
    spare = f.spare;
    sound = f.sound;
  }

  fit_left : (t u w : ℕ) (l : Locals) (σ : State) → Fit p deepest ks F t (suc u) w l σ → Fit p deepest ks F t u w (with_at l (Iterator u) empty) σ
  fit_left t u w l σ f = record {
    params = f.params;
    size = f.size;
    answer = f.answer;
    hands = f.hands;
    numbers = f.numbers;
    free = f.free;
    walks = upd_all (λ y. IsWalk) l.iterator u empty (inl refl) (λ y ne. f.walks y);
    still = λ y le. elim (cases_eq y u) [
      | inl e ↦ ap (with_at l (Iterator u) empty).iterator e ∙ upd_same l.iterator u empty
      | inr ne ↦ upd_other l.iterator u y empty ne ∙ f.still y (omega (arith, le, ne))
    ];
    yards = f.yards;
    spare = f.spare;
    sound = f.sound;
  }

  -- the next key, by a look at the iterator
  next_goes : {K : List Label} {c : Instructions} → (u t : ℕ) (l : Locals) (σ : State) → u < b.iterators → l.iterator u ≡ IteratorOf t →
      Goes (machine p deepest ks F) 3 (at ks [] K (laid b l) F (instruction (LocalGet (iterator_local b u)) (instruction (LocalTee (iterator_local b u)) (ask_row row.IterNext c))) (beside_state p deepest ks F σ))
      (at ks (key_or_end (meaning row.IterNext (t, tt) σ.shared).answer ∷ []) K (laid b l) F c (beside_state p deepest ks F (done_by p deepest ks F row.IterNext (t, tt) σ)))
  next_goes {K = K} {c = c} u t l σ lt e =
      let l1 = with_at l (Iterator u) Gone in
      then_goes (get_moved b l (Iterator u) (IteratorOf t) lt e)
      (then_goes (goes_to (tee_ok b l1 (Iterator u) (IteratorOf t) lt (ap is_owned (has_with l (Iterator u) Gone)))
      (ap (λ L. Look (iterator_local b u) ks [] K L F (ask_row row.IterNext c) (beside_state p deepest ks F σ)) (laid_twice b l (Iterator u) Gone (IteratorOf t) lt ∙ laid_again b l (Iterator u) (IteratorOf t) lt e)))
      (by_steps 1 (ap (λ w. ask_looking (Some (OfPrimitive row.IterNext)) w ks [] K (laid b l) F c (beside_state p deepest ks F σ)) (laid_at b l (Iterator u) lt ∙ e))))

  -- a loop over keys: its key's code, its body, the loops around it, and what there was before
  module _ (e : Code) (s : Step) (u d : ℕ) (k : Instructions) (K : List Label) (l : Locals) (t : ℕ) (roomy : zero < b.temporaries) (there_is : u < b.iterators) where
    abbrev body_code : Instructions
    body_code = block (step_emitted (layout p deepest ks F b M n) s (suc u) (suc (suc (suc d))) 2 zero NoMore) (instruction (Br zero) NoMore)

    abbrev key_code : Instructions
    key_code = key_stored (layout p deepest ks F b M n) u e (suc (suc d)) body_code

    abbrev out_code : Instructions
    out_code = iterator_left (layout p deepest ks F b M n) u k

    abbrev key_labels : List Label
    key_labels = label [] (Some key_code) NoMore ∷ (label [] None out_code ∷ K)

    -- with the iterator
    abbrev walking : Locals
    walking = with_at l (Iterator u) (IteratorOf t)

    abbrev At : Instructions → State → Conf → Type 0
    At cs = Here p deepest ks F b M n cs key_labels (suc u) walking

    -- behind the loop, where the last key's temporary may have the end's word
    record Passed (σ : State) (c : Conf) : Type 0 where
      next : Locals
      filler : Cell
      comes : c ≡ at ks [] K (laid b (with_at next (Hand zero) filler)) F out_code (beside_state p deepest ks F σ)
      unowned : is_owned filler ≡ false
      starts : Starts p deepest ks F b M n (suc u) key_labels next σ
      iterators : (x : ℕ) → next.iterator x ≡ walking.iterator x

    away_keys : (why : Stop) (σ : State) (c : Conf) → Away p deepest ks F b (suc (suc d)) key_labels why σ c → Away p deepest ks F b d K why σ c
    away_keys why σ c a = away_out p deepest ks F b d (label [] None out_code) K why σ c (away_out p deepest ks F b (suc d) (label [] (Some key_code) NoMore) (label [] None out_code ∷ K) why σ c a)

    -- once the key stands in the first temporary, it is stored and dropped
    abbrev drop_code : Instructions
    drop_code = let_go Drop (handle_local b zero) body_code

    abbrev left_code : Instructions
    left_code = left_over (layout p deepest ks F b M n) e (form_of (a_value ∷ []) e) 1 drop_code

    stored : ExprOk p deepest ks F b M n e → (key : Value) (σ : State) (l1 : Locals) → keeps_well e ≡ true → sorted (context p deepest ks F b M n) (a_value ∷ []) e ≡ true → suc (room e) ≤ b.temporaries → arrays_in e ≤ b.arrays → Starts p deepest ks F b M n (suc u) key_labels l1 σ →
        ((x : ℕ) → l1.iterator x ≡ walking.iterator x) →
        Reached p deepest ks F b M (work_of e + 16) σ.turns (at ks [] key_labels (laid b (with_at l1 (Hand zero) (Held key))) F (dropped (layout p deepest ks F b M n) (a_value ∷ []) (zero ∷ []) e 1 zero (suc (suc d)) drop_code) (beside_state p deepest ks F σ))
        (λ x. At body_code) (Away p deepest ks F b d K) (keyed p.texts (calls_of p) n (noted_called deepest.notes p n) e key σ)
    stored ok key σ l1 kw so rm ar st same =
        let mach = machine p deepest ks F in
        let l2 = with_at l1 (Hand zero) (Held key) in
        let Q = Away p deepest ks F b d K in
        let one = room_one e in
        let D = Done p deepest ks F b M n true e (a_value ∷ []) (key, tt) (zero ∷ []) (λ i. There) 1 (suc u) zero left_code key_labels l2 σ in
        then_on mach M (work_of e) 16 (work_of e + 16) σ.turns _ D (λ x. At body_code) Q (meant p deepest ks F b M n (a_value ∷ []) (key, tt) e σ) _ (omega arith)
        (weaker mach M (work_of e) σ.turns _ D D (Away p deepest ks F b (suc (suc d)) key_labels) Q (meant p deepest ks F b M n (a_value ∷ []) (key, tt) e σ) (λ x τ c1 q. q) (λ why τ c1 q. away_keys why τ c1 q)
        (ok true (a_value ∷ []) (key, tt) (zero ∷ []) (λ i. There) 1 (suc u) zero (suc (suc d)) left_code key_labels l2 σ so (used_key e kw) (omega (arith, rm)) (omega (arith, ar))
        (record {
          below = (omega arith, tt);
          kept = ((upd_same l1.hand zero (Held key), tt), tt);
          fit = fit_hand p deepest ks F zero 1 (suc u) zero l1 σ (Held key) (inr (key, refl)) (omega arith) (fit_more p deepest ks F zero (suc u) zero l1 σ st.fit);
          turns = st.turns;
          parameters = st.parameters;
          plain = plain_key;
          walking = record { loops = st.loops; few = st.walks; each = st.walked };
          none = refl;
        })))
        (λ x τ c1 le a.
        let g = left_ok p deepest ks F b M n e (form_of (a_value ∷ []) e) x 1 (suc u) zero drop_code key_labels a.next τ (omega (arith, rm, one)) a.fit a.stands in
        let y = let_go_hand {u = mach} {ks = ks} {F = F} b (Hand zero) key_labels g.next body_code (beside_state p deepest ks F τ) roomy (g.fit.hands zero) in
        let l3 = with_at g.next (Hand zero) empty in
        let f3 = fit_less p deepest ks F zero (suc u) zero l3 τ (upd_same g.next.hand zero empty) (fit_hand p deepest ks F zero 1 (suc u) zero g.next τ empty (inl refl) (omega arith) g.fit) in
        let same1 : (z : ℕ) → l3.iterator z ≡ l1.iterator z = λ z. g.keeps.iterators z ∙ a.same.iterators z in
        there mach M 16 (g.steps + y.steps) c1 _ (tt {0}) τ (λ x. At body_code) Q (goes_from a.comes (then_goes g.goes y.goes)) (omega (arith, g.few, y.few))
        (record { next = l3; comes = refl; starts = starts_after p deepest ks F b M n (suc u) key_labels key_labels l1 l3 σ τ st refl le same1 f3; iterators = λ z. same1 z ∙ same z }))

    -- the body
    body_ends : (l1 : Locals) (f : Flow) (σ : State) (c : Conf) → ((x : ℕ) → l1.iterator x ≡ walking.iterator x) → StepDone p deepest ks F b M n true (suc u) 2 zero NoMore (label [] None (instruction (Br zero) NoMore) ∷ key_labels) l1 f σ c →
        Onward (machine p deepest ks F) M 2 (after_body (At key_code) Passed f σ) c
    body_ends l1 Normal σ c same a = record {
      conf = at ks [] key_labels (laid b a.next) F key_code (beside_state p deepest ks F σ);
      steps = 2;
      few = omega arith;
      goes = goes_from a.comes (by_steps 2 refl);
      holds = record { next = a.next; comes = refl; starts = starts_among p deepest ks F b M n (suc u) (label [] None (instruction (Br zero) NoMore) ∷ key_labels) key_labels a.next σ refl a.starts; iterators = λ x. a.iterators x ∙ same x };
    }
    body_ends l1 Broke σ c same a = record {
      conf = c;
      steps = 0;
      few = omega arith;
      goes = stays;
      holds = passed (starts_among p deepest ks F b M n (suc u) (label [] None (instruction (Br zero) NoMore) ∷ key_labels) key_labels a.next σ refl a.starts);
    }
      where
        passed : Starts p deepest ks F b M n (suc u) key_labels a.next σ → Passed σ c
        passed st = record {
          next = a.next;
          filler = empty;
          comes = a.comes ∙ ap (λ L. at ks [] K L F out_code (beside_state p deepest ks F σ)) (sym (laid_again b a.next (Hand zero) empty roomy (st.fit.free zero (omega arith))));
          unowned = refl;
          starts = st;
          iterators = λ x. a.iterators x ∙ same x;
        }
    body_ends l1 Continued σ c same a = record {
      conf = at ks [] key_labels (laid b a.next) F key_code (beside_state p deepest ks F σ);
      steps = 1;
      few = omega arith;
      goes = goes_from a.comes (by_steps 1 refl);
      holds = record { next = a.next; comes = refl; starts = starts_among p deepest ks F b M n (suc u) (label [] None (instruction (Br zero) NoMore) ∷ key_labels) key_labels a.next σ refl a.starts; iterators = λ x. a.iterators x ∙ same x };
    }

    abbrev key_work : ℕ
    key_work = (work_of e + 16) + ((step_work s + 3) + 6)

    body_ok : StepOk p deepest ks F b M n s → (r : Bool) (σ : State) (c : Conf) → step_sorted (context p deepest ks F b M n) r true s ≡ true → step_room s ≤ b.temporaries → suc u + step_iterators s ≤ b.iterators → step_arrays s ≤ b.arrays → step_work s ≤ M → At body_code σ c →
        Reached p deepest ks F b M (step_work s + 3) σ.turns c (after_body (At key_code) Passed) (Away p deepest ks F b d K) (step_meant p deepest ks F b M n s (suc u) (suc (suc (suc d))) 2 zero NoMore σ)
    body_ok ok r σ c so rm it ar wk a =
        let mach = machine p deepest ks F in
        let inner = label [] None (instruction (Br zero) NoMore) in
        let K1 = inner ∷ key_labels in
        let D = StepDone p deepest ks F b M n true (suc u) 2 zero NoMore K1 a.next in
        let Q = Away p deepest ks F b d K in
        first mach M 1 (step_work s + 2) (step_work s + 3) σ.turns c _ (after_body (At key_code) Passed) Q (step_meant p deepest ks F b M n s (suc u) (suc (suc (suc d))) 2 zero NoMore σ) (goes_from a.comes (by_steps 1 refl)) (omega arith)
        (then_step mach M 2 (step_work s) (step_work s + 2) σ.turns _ D (after_body (At key_code) Passed) Q (step_meant p deepest ks F b M n s (suc u) (suc (suc (suc d))) 2 zero NoMore σ) (omega arith) (λ f τ c1 q. body_ends a.next f τ c1 a.iterators q)
        (weaker mach M (step_work s) σ.turns _ D D (Away p deepest ks F b (suc (suc (suc d))) K1) Q (step_meant p deepest ks F b M n s (suc u) (suc (suc (suc d))) 2 zero NoMore σ) (λ f τ c1 q. q)
        (λ why τ c1 q. away_keys why τ c1 (away_out p deepest ks F b (suc (suc d)) inner key_labels why τ c1 q))
        (ok r true (suc u) (suc (suc (suc d))) 2 zero NoMore K1 a.next σ so rm it ar wk (starts_among p deepest ks F b M n (suc u) key_labels K1 a.next σ refl a.starts))))

    -- what comes after the body
    flowed : (f : Flow) (σ : State) (c : Conf) (X : Execution Flow) → after_body (At key_code) Passed f σ c → (At key_code σ c → Reached p deepest ks F b M 6 σ.turns c (after_loop Passed) (Away p deepest ks F b d K) (X σ)) →
        Reached p deepest ks F b M 6 σ.turns c (after_loop Passed) (Away p deepest ks F b d K) (after_round f X σ)
    flowed Normal σ c X h next = next h
    flowed Broke σ c X h next = there (machine p deepest ks F) M 6 0 c c Normal σ (after_loop Passed) (Away p deepest ks F b d K) stays (omega arith) h
    flowed Continued σ c X h next = next h

    -- the next key is asked for; where there is one a turn is spent on it
    keys_next : (w : ℕ) (σ : State) (c : Conf) (G : Value → Execution Flow) → 3 + w ≤ M → At key_code σ c →
        ((key : Value) (τ : State) (l1 : Locals) (j : ℕ) → σ.turns ≡ suc j → τ.turns ≡ j → Starts p deepest ks F b M n (suc u) key_labels l1 τ → ((x : ℕ) → l1.iterator x ≡ walking.iterator x) →
        Reached p deepest ks F b M w τ.turns (at ks [] key_labels (laid b (with_at l1 (Hand zero) (Held key))) F (dropped (layout p deepest ks F b M n) (a_value ∷ []) (zero ∷ []) e 1 zero (suc (suc d)) drop_code) (beside_state p deepest ks F τ)) (after_loop Passed) (Away p deepest ks F b d K) (G key τ)) →
        Reached p deepest ks F b M 6 σ.turns c (after_loop Passed) (Away p deepest ks F b d K) ((call row.IterNext (t, tt) >>= at_key G) σ)
    keys_next w σ c G few a next =
        let τ = done_by p deepest ks F row.IterNext (t, tt) σ in
        let st = starts_after p deepest ks F b M n (suc u) key_labels key_labels a.next a.next σ τ a.starts refl (omega arith) (λ x. refl) (fit_shared p deepest ks F zero (suc u) zero a.next σ τ.shared (calm_after p row.IterNext (t, tt) σ.shared refl a.starts.fit.sound.calm) a.starts.fit) in
        first (machine p deepest ks F) M 3 3 6 σ.turns c _ (after_loop Passed) (Away p deepest ks F b d K) _ (goes_from a.comes (next_goes u t a.next σ there_is (a.iterators u ∙ upd_same l.iterator u (IteratorOf t)))) (omega arith)
        (by (meaning row.IterNext (t, tt) σ.shared).answer τ a.next refl st a.iterators)
      where
        by : (o : Option Value) (τ : State) (l1 : Locals) → τ.turns ≡ σ.turns → Starts p deepest ks F b M n (suc u) key_labels l1 τ → ((x : ℕ) → l1.iterator x ≡ walking.iterator x) →
            Reached p deepest ks F b M 3 τ.turns (at ks (key_or_end o ∷ []) key_labels (laid b l1) F (instruction (LocalTee (handle_local b zero)) (instruction (I32Const end_code) (instruction (Compare I32 Eq) (instruction (BrIf 1) (dropped (layout p deepest ks F b M n) (a_value ∷ []) (zero ∷ []) e 1 zero (suc (suc d)) drop_code))))) (beside_state p deepest ks F τ)) (after_loop Passed) (Away p deepest ks F b d K) (at_key G o τ)
        by None τ l1 et st same =
            there (machine p deepest ks F) M 3 3 _ _ Normal τ (after_loop Passed) (Away p deepest ks F b d K)
            (then_goes (tee_ok b l1 (Hand zero) (Bits end_word) roomy (ap is_owned (st.fit.free zero (omega arith)))) (by_steps 2 refl)) (omega arith)
            (record { next = l1; filler = Bits end_word; comes = refl; unowned = refl; starts = st; iterators = same })
        by (Some key) τ l1 et st same =
            let l2 = with_at l1 (Hand zero) (Held key) in
            turned (machine p deepest ks F) M τ.turns 2 w 3 τ _ _ (after_loop Passed) (Away p deepest ks F b d K) (G key) refl
            (then_goes (tee_ok b l1 (Hand zero) (Held key) roomy (ap is_owned (st.fit.free zero (omega arith))))
            (by_steps 2 (ap (λ v. go (machine p deepest ks F) 1 (with_operands (push_word [] (looked_compared Eq v end_code)) ks key_labels (laid b l2) F (instruction (BrIf 1) (dropped (layout p deepest ks F b M n) (a_value ∷ []) (zero ∷ []) e 1 zero (suc (suc d)) drop_code)) (beside_state p deepest ks F τ)))
            (laid_at b l2 (Hand zero) roomy ∙ has_with l1 (Hand zero) (Held key)))))
            refl (omega (arith, few))
            (λ j q. next key (record τ { turns = j }) l1 j (sym et ∙ q) refl
            (starts_after p deepest ks F b M n (suc u) key_labels key_labels l1 l1 τ (record τ { turns = j }) st refl (omega (arith, q)) (λ x. refl) (fit_turns p deepest ks F zero (suc u) zero l1 τ j st.fit)) same)

    keys_ok : ExprOk p deepest ks F b M n e → StepOk p deepest ks F b M n s → (r : Bool) → keeps_well e ≡ true → sorted (context p deepest ks F b M n) (a_value ∷ []) e ≡ true → suc (room e) ≤ b.temporaries → arrays_in e ≤ b.arrays →
        step_sorted (context p deepest ks F b M n) r true s ≡ true → step_room s ≤ b.temporaries → suc u + step_iterators s ≤ b.iterators → step_arrays s ≤ b.arrays → 3 + key_work ≤ M →
        (m : ℕ) (σ : State) (c : Conf) → σ.turns ≤ m → At key_code σ c → Reached p deepest ks F b M 6 σ.turns c (after_loop Passed) (Away p deepest ks F b d K) (over_keys m t (keyed p.texts (calls_of p) n (noted_called deepest.notes p n) e) (step_meant p deepest ks F b M n s (suc u) (suc (suc (suc d))) 2 zero NoMore) σ)
    unfolding over_keys
    keys_ok oke oks r kw so rm ar so1 rm1 it1 ar1 wk zero σ c le a = keys_next 0 σ c _ (omega (arith, wk)) a (λ key τ l1 j q q1 st same. absurd (omega (arith, q, le)))
    keys_ok oke oks r kw so rm ar so1 rm1 it1 ar1 wk (suc m) σ c le a =
        let mach = machine p deepest ks F in
        let Q = Away p deepest ks F b d K in
        keys_next key_work σ c _ wk a (λ key τ l1 j q q1 st same.
        then_on mach M (work_of e + 16) ((step_work s + 3) + 6) key_work τ.turns _ (λ x. At body_code) (after_loop Passed) Q (keyed p.texts (calls_of p) n (noted_called deepest.notes p n) e key τ) _ (omega arith) (stored oke key τ l1 kw so rm ar st same)
        (λ x τ1 c1 le1 a1.
        then_on mach M (step_work s + 3) 6 ((step_work s + 3) + 6) τ1.turns c1 (after_body (At key_code) Passed) (after_loop Passed) Q (step_meant p deepest ks F b M n s (suc u) (suc (suc (suc d))) 2 zero NoMore τ1) _ (omega arith) (body_ok oks r τ1 c1 so1 rm1 it1 ar1 (omega (arith, wk)) a1)
        (λ f τ2 c2 le2 a2. flowed f τ2 c2 (over_keys m t (keyed p.texts (calls_of p) n (noted_called deepest.notes p n) e) (step_meant p deepest ks F b M n s (suc u) (suc (suc (suc d))) 2 zero NoMore)) a2
        (λ a3. keys_ok oke oks r kw so rm ar so1 rm1 it1 ar1 wk m τ2 c2 (omega (arith, le, q, q1, le1, le2)) a3))))

    -- the iterator is let go
    passed_ends : (lo : Bool) (bk ct : ℕ) (σ0 : State) (f : Flow) (σ : State) (c : Conf) → Starts p deepest ks F b M n u K l σ0 → after_loop Passed f σ c → Onward (machine p deepest ks F) M 4 (StepDone p deepest ks F b M n lo u bk ct k K l f σ) c
    passed_ends lo bk ct σ0 Broke σ c st a = absurd a
    passed_ends lo bk ct σ0 Continued σ c st a = absurd a
    passed_ends lo bk ct σ0 Normal σ c st a =
        let l1 = with_at a.next (Hand zero) a.filler in
        let l2 = with_at a.next (Iterator u) empty in
        let same : (x : ℕ) → l2.iterator x ≡ l.iterator x = λ x. back a.next a.iterators x in
        record {
          conf = at ks [] K (laid b l2) F k (beside_state p deepest ks F σ);
          steps = 4;
          few = omega arith;
          goes =
              goes_from a.comes
              (then_goes (goes_to (emptied_ok b l1 (Hand zero) roomy (ap is_owned (has_with a.next (Hand zero) a.filler) ∙ a.unowned))
              (ap (λ L. at ks [] K L F (moved_out (iterator_local b u) (ask IterFree k)) (beside_state p deepest ks F σ)) (laid_twice b a.next (Hand zero) a.filler empty roomy ∙ laid_again b a.next (Hand zero) empty roomy (a.starts.fit.free zero (omega arith)))))
              (then_goes (moved_out_ok b a.next (Iterator u) (IteratorOf t) there_is (a.iterators u ∙ upd_same l.iterator u (IteratorOf t))) (free_iterator_ok t [])));
          holds = record {
            next = l2;
            comes = refl;
            starts = record {
              fit = fit_left zero u zero a.next σ a.starts.fit;
              walked = λ x lt. let q = st.walked x lt in (q.0, same x ∙ q.1);
              walks = st.walks;
              loops = st.loops;
              turns = a.starts.turns;
              parameters = st.parameters;
            };
            iterators = same;
            flows = flows_on lo;
          };
        }
      where
        back : (l1 : Locals) → ((x : ℕ) → l1.iterator x ≡ walking.iterator x) → (x : ℕ) → (with_at l1 (Iterator u) empty).iterator x ≡ l.iterator x
        back l1 same x = elim (cases_eq x u) [
          | inl e ↦ ap (with_at l1 (Iterator u) empty).iterator e ∙ (upd_same l1.iterator u empty ∙ (sym (st.fit.still u (omega arith)) ∙ ap l.iterator (sym e)))
          | inr ne ↦ upd_other l1.iterator u x empty ne ∙ (same x ∙ upd_other l.iterator u x (IteratorOf t) ne)
        ]

  abbrev walk_code : ArrayName → Code → Step → (u d : ℕ) → Instructions → Instructions
  walk_code a e s u d k =
      array_pushed (layout p deepest ks F b M n) a (ask_row row.Iter (instruction (LocalSet (iterator_local b u)) (block (again (key_stored (layout p deepest ks F b M n) u e (suc (suc d))
      (block (step_emitted (layout p deepest ks F b M n) s (suc u) (suc (suc (suc d))) 2 zero NoMore) (instruction (Br zero) NoMore))) NoMore) (iterator_left (layout p deepest ks F b M n) u k))))

  -- what a loop over keys means once its place is noted
  abbrev walk_meant : ArrayName → Code → Step → (u d : ℕ) → Execution Flow
  walk_meant a e s u d = array_number a >>= λ m. call row.Iter (m, tt) >>= λ keys. over_keys n keys (keyed p.texts (calls_of p) n (noted_called deepest.notes p n) e) (step_meant p deepest ks F b M n s (suc u) (suc (suc (suc d))) 2 zero NoMore)

  each_done : (a : ArrayName) (e : Code) (s : Step) → ExprOk p deepest ks F b M n e → StepOk p deepest ks F b M n s → (r lo : Bool) (u d bk ct : ℕ) (k : Instructions) (K : List Label) (l : Locals) (σ : State) →
      step_sorted (context p deepest ks F b M n) r lo (Each a e s) ≡ true → step_room (Each a e s) ≤ b.temporaries → u + step_iterators (Each a e s) ≤ b.iterators → step_arrays (Each a e s) ≤ b.arrays → step_work (Each a e s) ≤ M → Starts p deepest ks F b M n u K l σ →
      Reached p deepest ks F b M (59 + (work_of e + step_work s)) σ.turns (at ks [] K (laid b l) F (walk_code a e s u d k) (beside_state p deepest ks F σ)) (StepDone p deepest ks F b M n lo u bk ct k K l) (Away p deepest ks F b d K) (walk_meant a e s u d σ)
  unfolding step_sorted steps_sorted
  each_done a e s oke oks r lo u d bk ct k K l σ so rm it ar wk st =
      let mach = machine p deepest ks F in
      let ctx = context p deepest ks F b M n in
      let Q = Away p deepest ks F b d K in
      let P = StepDone p deepest ks F b M n lo u bk ct k K l in
      let one = room_one e in
      let lu : u < b.iterators = omega (arith, it) in
      let lt : zero < b.temporaries = omega (arith, rm) in
      let s1 = and_parts (is_array_place ctx a) (stores_well [] e && (sorted ctx (a_value ∷ []) e && step_sorted ctx r true s)) so in
      let s2 = and_parts (stores_well [] e) (sorted ctx (a_value ∷ []) e && step_sorted ctx r true s) s1.1 in
      let s3 = and_parts (keeps_well e) (is_dropped (form_of (a_value ∷ []) e)) s2.0 in
      let s4 = and_parts (sorted ctx (a_value ∷ []) e) (step_sorted ctx r true s) s2.1 in
      let x = array_at a σ in
      let i = (meaning row.Iter (x, tt) σ.shared).answer in
      let τ = done_by p deepest ks F row.Iter (x, tt) σ in
      let l1 = with_at l (Iterator u) (IteratorOf i) in
      let kb = body_code e s u d k K l i lt lu in
      let kc = key_code e s u d k K l i lt lu in
      let ko = out_code e s u d k K l i lt lu in
      let Kl = key_labels e s u d k K l i lt lu in
      let k1 = instruction (LocalSet (iterator_local b u)) (block (again kc NoMore) ko) in
      let y = array_pushed_ok p deepest ks F b a 0 u 0 [] (ask_row row.Iter k1) K l σ s1.0 st.parameters st.fit in
      let f0 = fit_shared p deepest ks F 0 u 0 l σ τ.shared (calm_after p row.Iter (x, tt) σ.shared refl st.fit.sound.calm) st.fit in
      let f1 = fit_walked i 0 u 0 l τ f0 in
      let decoded : row_in mach.memory (arguments_of row.Iter) (y.cell ∷ []) ≡ Some (x, tt) = ap (λ o. with_some (and_rest o []) (λ z. with_some (row_in mach.memory [] z.1) (λ rest. Some (z.0, rest)))) (array_in_sort p deepest ks F x y.cell y.array) in
      first mach M (y.steps + 4) 10 (59 + (work_of e + step_work s)) σ.turns _ (at ks [] Kl (laid b l1) F kc (beside_state p deepest ks F τ)) P Q _
      (then_goes y.goes
      (then_goes (row_called p deepest ks F row.Iter (x, tt) (y.cell ∷ []) [] σ refl refl (ap (λ q. q && true) (array_live p deepest ks F x y.cell (laid b l) σ y.array)) decoded refl)
      (then_goes (set_ok b l (Iterator u) (IteratorOf i) lu (ap is_owned (st.fit.still u (omega arith)))) (by_steps 2 refl)))) (omega (arith, y.few))
      (subst (λ o. Reached p deepest ks F b M 10 σ.turns (at ks [] Kl (laid b l1) F kc (beside_state p deepest ks F τ)) P Q (go_on o (λ m. call row.Iter (m, tt) >>= λ keys. over_keys n keys (keyed p.texts (calls_of p) n (noted_called deepest.notes p n) e) (step_meant p deepest ks F b M n s (suc u) (suc (suc (suc d))) 2 zero NoMore)))) (sym (array_told a σ))
      (then_step mach M 4 6 10 σ.turns _ (after_loop (Passed e s u d k K l i lt lu)) P Q _ (omega arith)
      (λ f τ1 c1 q. passed_ends e s u d k K l i lt lu lo bk ct σ f τ1 c1 st q)
      (keys_ok e s u d k K l i lt lu oke oks r s3.0 s4.0 (omega (arith, rm)) (omega (arith, ar)) s4.1 (omega (arith, rm)) (omega (arith, it)) (omega (arith, ar)) (omega (arith, wk)) n τ _ st.turns
      (record {
        next = l1;
        comes = refl;
        starts = record {
          fit = f1;
          walked = λ z lz. elim (cases_eq z u) [
            | inl q ↦ (i, ap l1.iterator q ∙ upd_same l.iterator u (IteratorOf i))
            | inr ne ↦ let w = st.walked z (omega (arith, lz, ne)) in (w.0, upd_other l.iterator u z (IteratorOf i) ne ∙ w.1)
          ];
          walks = lu;
          loops = ap suc st.loops;
          turns = st.turns;
          parameters = st.parameters;
        };
        iterators = λ z. refl;
      }))))

  pub each_step : (a : ArrayName) (e : Code) (s : Step) → ExprOk p deepest ks F b M n e → StepOk p deepest ks F b M n s → StepOk p deepest ks F b M n (Each a e s)
  unfolding step_emitted steps_emitted step_noted steps_noted
  each_step a e s oke oks r lo u d bk ct k K l σ so rm it ar wk st =
      begun_step p deepest ks F b M n _ (59 + (work_of e + step_work s)) (60 + (work_of e + step_work s)) u K l σ (StepDone p deepest ks F b M n lo u bk ct k K l) (Away p deepest ks F b d K) (walk_meant a e s u d) (omega arith) st
      (λ τ st1. each_done a e s oke oks r lo u d bk ct k K l τ so rm it ar wk st1)
