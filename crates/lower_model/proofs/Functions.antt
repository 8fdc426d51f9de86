-- Functions: a body's code from the function's beginning to its exit, and a call as its frame is pushed and popped.
use Rattle.std.proofs.Common.{◌≡◌, inl, ℕ, zero, suc, ◌+◌, ◌-◌, ◌*◌, ◌<◌, ◌≤◌, true, false, List, [], ◌∷◌, ◌++◌, length, Some, None, refl, sym, ap, ap₂, ◌∙◌, arith, le-leb}
use Rattle.std.specs.Prelude.{get_or, reverse, take, drop, cond, nat_lt, nat_le, slice_get, map, ◌&&◌, option_map}
use Rattle.std.proofs.lemmas.Bool.{and_parts, lt-ltb, le-ltb}
use Rattle.std.proofs.lemmas.List.{take_at, drop_at, length-append, length-reverse, reverse-reverse}
use Rattle.std.proofs.lemmas.Option.{slice_get-map, slice_get-get_or}
use Rattle.awk_values.specs.declared.value.Value.{Value}
use Rattle.awk_values.specs.declared.value.Value.TheVariants.{Uninit}
use Rattle.wasm_types.specs.Syntax.{Instructions, Done}
use Rattle.wasm_types.specs.declared.types.ValType.{ValType}
use Rattle.wasm_types.specs.declared.instr.Simple.TheVariants.{Call}
use Rattle.wasm_store.specs.declared.word.Word.TheVariants.{I32, I64}
use Rattle.mid_program.specs.Mid.{Kind, Program, Routine, Code, Steps}
use Rattle.mid_program.specs.MidMeaning.{no_routine, routine_at}
use Rattle.sem_scripts.specs.ScriptState.{State, CallFrame, Local, Scalar, Stop, Faulted, OutOfTurns, TooDeep, Nexted, Exited, Returned, Outcome, Gives, Stops, Execution, ◌>>◌, spend}
use Rattle.mid_program.specs.Sorted.{lender_at, has_kind, kinds_of, calls_of, routines_sorted, steps_sorted, context_of}
use Rattle.sem_scripts.specs.Statements.{Flow, Normal, Broke, Continued, returned, entered_with}
use Rattle.lower_model.specs.Cells.{Cell, Bits, Gone, is_owned, none_owned}
use Rattle.lower_model.specs.Emission.{function_number}
use Rattle.lower_model.specs.Functions.{layout_of, routine_bases, routine_callee}
use Rattle.lower_model.specs.Machine.{Conf, Deep, Label, Frame, Store, at, label, zeros, guarded, enter, makes_few, waits, ask as asked}
use Rattle.host_imports.specs.Imports.{import_at, import_count}
use Rattle.lower_model.specs.Noted.{noted_called, steps_noted, routine_rest}
use Rattle.lower_model.specs.Places.{Bases, local_types, temporary_types, handle_types, steps_room, steps_iterators, steps_arrays}
use Rattle.lower_model.specs.Small.{emit, least}
use Rattle.lower_model.specs.Statements.{routine_body, routine_ended, routine_exit, operands_swept, steps_emitted, block}
use Rattle.lower_model.proofs.Observer.{Observer}
use Rattle.lower_model.proofs.Runs.{Goes, goes_to, goes_from, then_goes, by_steps, stays, first, within, turned, Arrives, reaches_on, Onward}
use Rattle.lower_model.proofs.Regions.{cells, pairs, cells_same, pairs_same}
use Rattle.lower_model.proofs.Locals.{Locals, Answer, with_at, laid}
use Rattle.lower_model.proofs.Steps.{empty, unanswered, set_ok}
use Rattle.lower_model.proofs.State.{AnswerIs, Nothing, answering, StoreLeft}
use Rattle.lower_model.proofs.Relation.{ParamIs, Loose, Sound, StopSound, Away, fit_loose, left_to}
use Rattle.lower_model.proofs.Pieces.{closes}
use Rattle.lower_model.proofs.Answers.{machine, beside_state}
use Rattle.lower_model.proofs.StatementForms.{steps_work, steps_meant, StepsOk, StepDone}
use Rattle.lower_model.proofs.Stepping.{steps_ok}
use Rattle.lower_model.proofs.Simulation.{ExprOk}
use Rattle.lower_model.proofs.Exits.{exit_work, begin_work, begin_ok, operands_sweep_ok, exit_ok}

-- how many steps of the machine a function takes at most, beside those that turns pay
abbrev pub routine_work : Routine → ℕ
routine_work r = begin_work (routine_bases r) + (2 + (steps_work r.body + (exit_work (routine_bases r) + 3)))

abbrev pub routines_work : List Routine → ℕ
routines_work [] = 0
routines_work (r ∷ rs) = suc (routine_work r) + routines_work rs

pub routine_within : (rs : List Routine) (f : ℕ) → f < length rs → suc (routine_work (routine_at rs f)) ≤ routines_work rs
routine_within [] f lt = absurd (omega (arith, lt))
routine_within (r ∷ rs) zero lt = omega arith
routine_within (r ∷ rs) (suc f) lt = let q = routine_within rs f (omega (arith, lt)) in omega (arith, q)

-- Locals as a function is entered: what it is given, and zeros.

abbrev pub entry : List Cell → Locals
entry words = record { param = λ i. get_or words i Gone; answer = Bits (I64 0); hand = λ x. Bits (I32 0); number = λ x. Bits (I64 0); iterator = λ x. Bits (I32 0); array = λ x. Bits (I32 0) }

cells_listed : (ws : List Cell) → cells (λ i. get_or ws i Gone) (length ws) ≡ ws
cells_listed [] = refl
cells_listed (w ∷ ws) = ap (λ r. w ∷ r) (cells_listed ws)

zeros_of_temporaries : (m : ℕ) (ts : List ValType) → zeros (temporary_types m ++ ts) ≡ pairs (λ x. Bits (I32 0)) (λ x. Bits (I64 0)) m ++ zeros ts
zeros_of_temporaries zero ts = refl
zeros_of_temporaries (suc m) ts = ap (λ r. Bits (I32 0) ∷ (Bits (I64 0) ∷ r)) (zeros_of_temporaries m ts)

zeros_of_handles : (m : ℕ) (ts : List ValType) → zeros (handle_types m ++ ts) ≡ cells (λ x. Bits (I32 0)) m ++ zeros ts
zeros_of_handles zero ts = refl
zeros_of_handles (suc m) ts = ap (λ r. Bits (I32 0) ∷ r) (zeros_of_handles m ts)

zeros_last : (m : ℕ) → zeros (handle_types m) ≡ cells (λ x. Bits (I32 0)) m ++ []
zeros_last zero = refl
zeros_last (suc m) = ap (λ r. Bits (I32 0) ∷ r) (zeros_last m)

pub laid_entry : (b : Bases) (words : List Cell) → length words ≡ b.parameters → words ++ zeros (local_types b) ≡ laid b (entry words)
laid_entry b words e =
    ap₂ (λ a r. a ++ r) (sym (ap (cells (λ i. get_or words i Gone)) (sym e) ∙ cells_listed words))
    (ap (λ r. Bits (I64 0) ∷ r)
    (zeros_of_temporaries b.temporaries (handle_types b.iterators ++ handle_types b.arrays)
    ∙ ap (λ r. pairs (λ x. Bits (I32 0)) (λ x. Bits (I64 0)) b.temporaries ++ r)
    (zeros_of_handles b.iterators (handle_types b.arrays) ∙ ap (λ r. cells (λ x. Bits (I32 0)) b.iterators ++ r) (zeros_last b.arrays))))

-- Locals where the body begins.
abbrev pub begun : List Cell → Locals
begun words = record { param = λ i. get_or words i Gone; answer = unanswered; hand = λ x. empty; number = λ x. Bits (I64 0); iterator = λ x. empty; array = λ x. empty }

pub laid_begun : (b : Bases) (words : List Cell) (l : Locals) → ((i : ℕ) → l.param i ≡ get_or words i Gone) → l.answer ≡ unanswered → ((x : ℕ) → x < b.temporaries → l.hand x ≡ empty) → ((x : ℕ) → l.number x ≡ Bits (I64 0)) →
    ((x : ℕ) → x < b.iterators → l.iterator x ≡ empty) → ((x : ℕ) → x < b.arrays → l.array x ≡ empty) → laid b l ≡ laid b (begun words)
laid_begun b words l ep ea eh en ei ey =
    ap₂ (λ a r. a ++ r) (cells_same l.param (begun words).param b.parameters (λ i lt. ep i))
    (ap₂ (λ c r. c ∷ r) ea
    (ap₂ (λ a r. a ++ r) (pairs_same l.hand l.number (begun words).hand (begun words).number b.temporaries eh (λ x lt. en x))
    (ap₂ (λ a r. a ++ r) (cells_same l.iterator (begun words).iterator b.iterators ei) (ap (λ a. a ++ []) (cells_same l.array (begun words).array b.arrays ey)))))

-- the caller's frame, as it waits
abbrev pub waiting : List Kind → List Label → List Cell → Instructions → Frame
waiting ks K L k = record { kinds = ks; under = []; labels = K; locals = L; rest = k }

module _ (p : Program) (deepest : Observer) where
  -- the words that a call pushes stand for what the function is given
  pub record GivenTo (js : List Kind) (F : List Frame) (words : List Cell) (os : List Local) (σ : State) : Type 0 where
    pub wide : length words ≡ length js
    pub many : length os ≡ length js
    pub each : (i : ℕ) (k : Kind) → has_kind js i k ≡ true → ParamIs p deepest js F (lender_at p.lenders i) σ.globals k (get_or os i (Scalar Uninit)) (get_or words i Gone)

  -- after a call: the answer is on the stack, and the caller's own is as it was
  pub record Back (f : Frame) (F : List Frame) (o : CallFrame) (v : Value) (σ : State) (c : Conf) : Type 0 where
    pub word : ℕ
    pub text : Cell
    pub is : AnswerIs v word text
    pub comes : c ≡ at f.kinds (Bits (I64 word) ∷ f.under) f.labels f.locals F f.rest (answering p.ranges (kinds_of p.globals) text σ)
    pub sound : Sound p deepest f.kinds F σ
    pub own : σ.own ≡ o

  -- a call that stops the script answers that, and the caller is to leave too
  pub record Lost (f : Frame) (F : List Frame) (why : Stop) (σ : State) (c : Conf) : Type 0 where
    pub store : Store
    pub left : StoreLeft p.ranges (kinds_of p.globals) why σ store
    pub comes : c ≡ left_to why (at f.kinds (unanswered ∷ f.under) f.labels f.locals F f.rest store) (Deep store)
    pub after : StopSound p deepest f.kinds F why σ

  module _ (M n : ℕ) (js : List Kind) (f : Frame) (F : List Frame) (b : Bases) (size : length js ≡ b.parameters) (own : CallFrame) (room : length F + own.calls_left ≡ deepest.callers) where
    abbrev exit_code : Instructions
    exit_code = routine_exit (layout_of p b) js

    abbrev end_code : Instructions
    end_code = routine_ended (layout_of p b)

    abbrev left_code : Instructions
    left_code = operands_swept (layout_of p b) Done

    abbrev body_labels : List Label
    body_labels = label [] None left_code ∷ (label [] None exit_code ∷ [])

    sound_back : (σ : State) → Sound p deepest js (f ∷ F) σ → Sound p deepest f.kinds F (record σ { own = own })
    sound_back σ s = record { room = room; names = s.names; calm = s.calm; lend = s.lend }

    -- the answer is the caller's, where nothing is held but iterators
    exits : (G : Store) (l : Locals) (v : Cell) (c : Conf) (P : Conf → Type 0) → Loose p deepest js (f ∷ F) l → ((x : ℕ) → x < b.temporaries → l.hand x ≡ empty) → ((x : ℕ) → x < b.arrays → l.array x ≡ empty) → l.answer ≡ v →
        c ≡ at js [] [] (laid b l) (f ∷ F) exit_code G → P (at f.kinds (v ∷ f.under) f.labels f.locals F f.rest G) →
        Onward (machine p deepest js (f ∷ F)) M (8 * b.iterators + (2 * b.parameters + 2)) P c
    exits G l v c P lo hands arrays e q h =
        let x = exit_ok p deepest js f F b G l size lo hands arrays in
        record {
          conf = at f.kinds (v ∷ f.under) f.labels f.locals F f.rest G;
          steps = x.steps;
          few = x.few;
          goes = goes_from q (goes_to x.goes (ap (λ w. at f.kinds (w ∷ f.under) f.labels f.locals F f.rest G) e));
          holds = h;
        }

    -- the same of a function that was left
    left_exits : (G : Store) (l : Locals) (c : Conf) (P : Conf → Type 0) → Loose p deepest js (f ∷ F) l → l.answer ≡ unanswered →
        c ≡ at js [] (label [] None exit_code ∷ []) (laid b l) (f ∷ F) left_code G → P (at f.kinds (unanswered ∷ f.under) f.labels f.locals F f.rest G) →
        Onward (machine p deepest js (f ∷ F)) M (exit_work b) P c
    left_exits G l c P lo e q h =
        let s = operands_sweep_ok p deepest js (f ∷ F) b (label [] None exit_code ∷ []) G l Done lo in
        let x = exits G s.next unanswered _ P s.loose s.hands s.arrays (s.answer ∙ e) refl h in
        record {
          conf = x.conf;
          steps = s.steps + (1 + x.steps);
          few = let r = s.few in let z = x.few in omega (arith, r, z);
          goes = goes_from q (then_goes s.goes (then_goes closes x.goes));
          holds = x.holds;
        }

    -- a body that ends without `return`
    ends : (l0 : Locals) (σ : State) (c : Conf) → StepDone p deepest js (f ∷ F) b M n false zero zero zero end_code body_labels l0 Normal σ c →
        Onward (machine p deepest js (f ∷ F)) M (exit_work b + 3) (Back f F own Uninit (record σ { own = own })) c
    ends l0 σ c h =
        let v = Bits (I64 least) in
        let l1 = with_at h.next Answer v in
        let fit = h.starts.fit in
        let lo = fit_loose p deepest js (f ∷ F) zero zero zero h.next σ fit in
        let x = exits (beside_state p deepest js (f ∷ F) σ) l1 v _ (Back f F own Uninit (record σ { own = own })) (record { params = lo.params; hands = lo.hands; numbers = lo.numbers; walks = lo.walks; yards = lo.yards })
        (λ y lt. fit.free y (omega arith)) (λ y lt. fit.spare y (omega arith)) refl refl
        (record { word = least; text = Gone; is = Nothing refl refl refl; comes = refl; sound = sound_back σ fit.sound; own = refl }) in
        record {
          conf = x.conf;
          steps = 2 + x.steps;
          few = let q = x.few in omega (arith, q);
          goes = goes_from h.comes (then_goes (then_goes (set_ok b h.next Answer v tt (ap is_owned fit.answer)) (by_steps 1 refl)) x.goes);
          holds = x.holds;
        }

    -- a function's exit: what its body came to is what the call comes to
    came : (w m : ℕ) (c : Conf) (l0 : Locals) (r : Outcome Flow) → Arrives (machine p deepest js (f ∷ F)) M w m c (StepDone p deepest js (f ∷ F) b M n false zero zero zero end_code body_labels l0) (Away p deepest js (f ∷ F) b zero body_labels) r →
        Arrives (machine p deepest js (f ∷ F)) M (w + (exit_work b + 3)) m c (Back f F own) (Lost f F) (returned own r)
    came w m c l0 (Gives Normal σ) h = reaches_on (machine p deepest js (f ∷ F)) M (exit_work b + 3) w (w + (exit_work b + 3)) m σ.turns c _ (Back f F own Uninit (record σ { own = own })) (omega arith) (λ c1 q. ends l0 σ c1 q) h
    came w m c l0 (Gives Broke σ) h = absurd h.holds.flows
    came w m c l0 (Gives Continued σ) h = absurd h.holds.flows
    came w m c l0 (Stops (Returned v) σ) h =
        reaches_on (machine p deepest js (f ∷ F)) M (8 * b.iterators + (2 * b.parameters + 2)) w (w + (exit_work b + 3)) m σ.turns c _ (Back f F own v (record σ { own = own })) (omega arith)
        (λ c1 q. exits (answering p.ranges (kinds_of p.globals) q.text σ) q.next (Bits (I64 q.word)) c1 (Back f F own v (record σ { own = own })) q.loose (λ x lt. q.hands x) (λ x lt. q.arrays x) q.answer q.comes
        (record { word = q.word; text = q.text; is = q.is; comes = refl; sound = sound_back σ q.after; own = refl })) h
    came w m c l0 (Stops (Faulted x) σ) h =
        reaches_on (machine p deepest js (f ∷ F)) M (exit_work b) w (w + (exit_work b + 3)) m σ.turns c _ (Lost f F (Faulted x) (record σ { own = own })) (omega arith)
        (λ c1 q. left_exits q.store q.next c1 (Lost f F (Faulted x) (record σ { own = own })) q.loose q.answer q.comes (record { store = q.store; left = q.left; comes = refl; after = tt })) h
    came w m c l0 (Stops Nexted σ) h =
        reaches_on (machine p deepest js (f ∷ F)) M (exit_work b) w (w + (exit_work b + 3)) m σ.turns c _ (Lost f F Nexted (record σ { own = own })) (omega arith)
        (λ c1 q. left_exits q.store q.next c1 (Lost f F Nexted (record σ { own = own })) q.loose q.answer q.comes (record { store = q.store; left = q.left; comes = refl; after = sound_back σ q.after.0 })) h
    came w m c l0 (Stops Exited σ) h =
        reaches_on (machine p deepest js (f ∷ F)) M (exit_work b) w (w + (exit_work b + 3)) m σ.turns c _ (Lost f F Exited (record σ { own = own })) (omega arith)
        (λ c1 q. left_exits q.store q.next c1 (Lost f F Exited (record σ { own = own })) q.loose q.answer q.comes (record { store = q.store; left = q.left; comes = refl; after = sound_back σ q.after.0 })) h
    came w m c l0 (Stops TooDeep σ) h =
        reaches_on (machine p deepest js (f ∷ F)) M 0 w (w + (exit_work b + 3)) m σ.turns c _ (Lost f F TooDeep (record σ { own = own })) (omega arith)
        (λ c1 q. record { conf = c1; steps = 0; few = omega arith; goes = stays; holds = record { store = q.store; left = q.left; comes = q.comes; after = tt } }) h
    came w m c l0 (Stops OutOfTurns σ) h = within (machine p deepest js (f ∷ F)) M w (w + (exit_work b + 3)) m c (Back f F own) (Lost f F) (Stops OutOfTurns (record σ { own = own })) (omega arith) h

    -- a function runs, from its beginning to its exit
    run_ok : (body : Steps) → StepsOk p deepest js (f ∷ F) b M n body → steps_sorted (context_of p js) true false body ≡ true → steps_room body ≤ b.temporaries → steps_iterators body ≤ b.iterators → steps_arrays body ≤ b.arrays → steps_work body ≤ M →
        (words : List Cell) (os : List Local) (σ : State) (m : ℕ) → GivenTo js (f ∷ F) words os σ → length (f ∷ F) + m ≡ deepest.callers → Sound p deepest f.kinds F σ → σ.turns ≤ n →
        Arrives (machine p deepest js (f ∷ F)) M (begin_work b + (2 + (steps_work body + (exit_work b + 3)))) σ.turns (at js [] [] (words ++ zeros (local_types b)) (f ∷ F) (routine_body (layout_of p b) js body) (beside_state p deepest js (f ∷ F) σ)) (Back f F own) (Lost f F)
        (returned own (steps_meant p deepest js (f ∷ F) b M n body zero zero zero zero end_code (record σ { own = record { locals = os; calls_left = m } })))
    run_ok body oks so rm it ar wk words os σ m given deep s le =
        let mach = machine p deepest js (f ∷ F) in
        let G = beside_state p deepest js (f ∷ F) σ in
        let σ1 : State = record σ { own = record { locals = os; calls_left = m } } in
        let code = steps_emitted (layout_of p b) body zero zero zero zero end_code in
        let a = begin_ok p deepest js (f ∷ F) b [] G (entry words) (block (block code left_code) exit_code) refl (λ x. refl) (λ x. refl) (λ x. refl) in
        let e = laid_begun b words a.next a.params a.answer a.hands a.numbers a.iterators a.arrays in
        first mach M (1 + (a.steps + 2)) (steps_work body + (exit_work b + 3)) (begin_work b + (2 + (steps_work body + (exit_work b + 3)))) σ.turns _ (at js [] body_labels (laid b (begun words)) (f ∷ F) code G) (Back f F own) (Lost f F) _
        (goes_from (ap (λ L. at js [] [] L (f ∷ F) (routine_body (layout_of p b) js body) G) (laid_entry b words (given.wide ∙ size)))
        (then_goes (set_ok b (entry words) Answer unanswered tt refl)
        (then_goes a.goes (goes_to (by_steps 2 refl) (ap (λ L. at js [] body_labels L (f ∷ F) code G) e))))) (let q = a.few in omega (arith, q))
        (came (steps_work body) σ.turns _ (begun words) (steps_meant p deepest js (f ∷ F) b M n body zero zero zero zero end_code σ1)
        (oks true false zero zero zero zero end_code body_labels (begun words) σ1 so rm (omega (arith, it)) ar wk
        (record {
          fit = record {
            params = given.each;
            size = given.many;
            answer = refl;
            hands = λ x. inl refl;
            numbers = λ x. refl;
            free = λ x lx. refl;
            walks = λ x. inl refl;
            still = λ x lx. refl;
            yards = λ x. inl refl;
            spare = λ x lx. refl;
            sound = record { room = deep; names = s.names; calm = s.calm; lend = s.lend };
          };
          walked = λ x lt. absurd (omega (arith, lt));
          walks = omega arith;
          loops = refl;
          turns = le;
          parameters = size;
        })))

  -- Calls.

  -- A call of a function, with n more inside one another. It costs a turn, which pays for all of it.
  abbrev pub CallOk : (M n f : ℕ) → Type 0
  CallOk M n f = (ks : List Kind) (F : List Frame) (K : List Label) (L : List Cell) (k : Instructions) (words : List Cell) (os : List Local) (σ : State) → waits ks K L k ≡ true → makes_few (routine_at p.routines f).parameters L ≡ true →
      GivenTo (routine_at p.routines f).parameters (waiting ks K L k ∷ F) words os σ → Sound p deepest ks F σ → σ.turns ≤ n →
      Arrives (machine p deepest ks F) M 0 σ.turns (at ks (reverse words ++ []) K L F (emit (Call (function_number f)) k) (beside_state p deepest ks F σ)) (Back (waiting ks K L k) F σ.own) (Lost (waiting ks K L k) F) ((spend >> noted_called deepest.notes p n f os) σ)

  abbrev pub CallsOk : (M n : ℕ) → Type 0
  CallsOk M n = (f : ℕ) → f < length p.routines → CallOk M n f

  routine_listed : (rs : List Routine) (f : ℕ) → routine_at rs f ≡ get_or rs f no_routine
  routine_listed [] f = refl
  routine_listed (r ∷ rs) zero = refl
  routine_listed (r ∷ rs) (suc f) = routine_listed rs f

  callee_found : (f : ℕ) → f < length p.routines → slice_get (map (routine_callee p) p.routines) f ≡ Some (routine_callee p (routine_at p.routines f))
  callee_found f lt =
      slice_get-map (routine_callee p) p.routines f
      ∙ (ap (option_map (routine_callee p)) (slice_get-get_or p.routines f no_routine lt)
      ∙ ap (λ r. Some (routine_callee p r)) (sym (routine_listed p.routines f)))

  routine_sorted : (rs : List Routine) (f : ℕ) → routines_sorted p rs ≡ true → f < length rs → steps_sorted (context_of p (routine_at rs f).parameters) true false (routine_at rs f).body ≡ true
  routine_sorted [] f e lt = absurd (omega (arith, lt))
  routine_sorted (r ∷ rs) zero e lt = (and_parts (steps_sorted (context_of p r.parameters) true false r.body) (routines_sorted p rs) e).0
  routine_sorted (r ∷ rs) (suc f) e lt = routine_sorted rs f (and_parts (steps_sorted (context_of p r.parameters) true false r.body) (routines_sorted p rs) e).1 (omega (arith, lt))

  -- where a function begins, as its caller waits
  abbrev begins : (f : ℕ) (ks : List Kind) (F : List Frame) (K : List Label) (L : List Cell) (k : Instructions) (words : List Cell) (G : Store) → Conf
  begins f ks F K L k words G = at (routine_at p.routines f).parameters [] [] (words ++ zeros (local_types (routine_bases (routine_at p.routines f)))) (waiting ks K L k ∷ F) (routine_callee p (routine_at p.routines f)).body G

  -- the frame is pushed, unless too many wait
  entered : (f : ℕ) (ks : List Kind) (F : List Frame) (K : List Label) (L : List Cell) (k : Instructions) (words : List Cell) (G : Store) → f < length p.routines → length words ≡ length (routine_at p.routines f).parameters → waits ks K L k ≡ true → makes_few (routine_at p.routines f).parameters L ≡ true →
      Goes (machine p deepest ks F) 1 (at ks (reverse words ++ []) K L F (emit (Call (function_number f)) k) G)
      (cond (nat_lt (length F) deepest.callers) (begins f ks F K L k words G) (Deep G))
  entered f ks F K L k words G lt wide wt mf =
      let r = routine_at p.routines f in
      let vs = reverse words ++ [] in
      let m = length r.parameters in
      let size : length (reverse words) ≡ m = length-reverse words ∙ wide in
      let front : reverse (take m vs) ≡ words = ap reverse (take_at (reverse words) [] m size) ∙ reverse-reverse words in
      let under : drop m vs ≡ [] = drop_at (reverse words) [] m size in
      let whole = length-append (reverse words) [] in
      let index : function_number f - import_count ≡ f = omega arith in
      let high : nat_lt (function_number f) import_count ≡ false = le-ltb (function_number f) import_count (omega arith) in
      let enough : nat_le m (length vs) ≡ true = le-leb m (length vs) (omega (arith, whole, size)) in
      record {
        it =
            ap (λ t. cond t (asked (machine p deepest ks F).memory (import_at (function_number f)) ks vs K L F k G) (enter deepest.callers (slice_get (machine p deepest ks F).callees (function_number f - import_count)) ks vs K L F k G)) high
            ∙ (ap (λ i. enter deepest.callers (slice_get (machine p deepest ks F).callees i) ks vs K L F k G) index
            ∙ (ap (λ o. enter deepest.callers o ks vs K L F k G) (callee_found f lt)
            ∙ (ap₂ (λ t z. guarded (((t && none_owned (drop m vs)) && z) && makes_few r.parameters L) (cond (nat_lt (length F) deepest.callers) (at r.parameters [] [] (reverse (take m vs) ++ zeros (routine_callee p r).locals) (record { kinds = ks; under = drop m vs; labels = K; locals = L; rest = k } ∷ F) (routine_callee p r).body G) (Deep G))) enough wt
            ∙ (ap (λ y. guarded (((true && none_owned (drop m vs)) && true) && y) (cond (nat_lt (length F) deepest.callers) (at r.parameters [] [] (reverse (take m vs) ++ zeros (routine_callee p r).locals) (record { kinds = ks; under = drop m vs; labels = K; locals = L; rest = k } ∷ F) (routine_callee p r).body G) (Deep G))) mf
            ∙ ap₂ (λ ws us. guarded (((true && none_owned us) && true) && true) (cond (nat_lt (length F) deepest.callers) (at r.parameters [] [] (ws ++ zeros (routine_callee p r).locals) (record { kinds = ks; under = us; labels = K; locals = L; rest = k } ∷ F) (routine_callee p r).body G) (Deep G))) front under))));
      }

  -- Every call does what it means, if expressions do where calls inside them do.
  module _ (M : ℕ) (sorted : routines_sorted p p.routines ≡ true) (few : (f : ℕ) → f < length p.routines → suc (routine_work (routine_at p.routines f)) ≤ M)
      (exprs : (n : ℕ) → CallsOk M n → (ks : List Kind) (F : List Frame) (b : Bases) (e : Code) → ExprOk p deepest ks F b M n e) where
    -- what a function's body means
    abbrev body_meant : (n f : ℕ) → Execution Flow
    body_meant n f =
        let r = routine_at p.routines f in
        steps_noted deepest.notes (layout_of p (routine_bases r)) p.texts (calls_of p) n (noted_called deepest.notes p n) r.body zero zero zero zero (routine_rest (routine_bases r))

    -- the frame is pushed where one more call may be nested
    pushed : (n f : ℕ) (room : ℕ) → CallsOk M n → f < length p.routines → (ks : List Kind) (F : List Frame) (K : List Label) (L : List Cell) (k : Instructions) (words : List Cell) (os : List Local) (σ : State) →
        GivenTo (routine_at p.routines f).parameters (waiting ks K L k ∷ F) words os σ → Sound p deepest ks F σ → σ.turns ≤ n → σ.own.calls_left ≡ room →
        Arrives (machine p deepest ks F) M (routine_work (routine_at p.routines f)) σ.turns
        (cond (nat_lt (length F) deepest.callers) (begins f ks F K L k words (beside_state p deepest ks F σ)) (Deep (beside_state p deepest ks F σ)))
        (Back (waiting ks K L k) F σ.own) (Lost (waiting ks K L k) F)
        (entered_with room os (body_meant n f) σ)
    pushed n f zero calls lt ks F K L k words os σ given s le e =
        let full = s.room in
        let deep : nat_lt (length F) deepest.callers ≡ false = le-ltb (length F) deepest.callers (omega (arith, full, e)) in
        record {
          conf = Deep (beside_state p deepest ks F σ);
          steps = 0;
          goes = ap (λ t. cond t (begins f ks F K L k words (beside_state p deepest ks F σ)) (Deep (beside_state p deepest ks F σ))) deep;
          cost = record { down = omega arith; paid = omega arith; few = omega arith };
          holds = record { store = beside_state p deepest ks F σ; left = refl; comes = refl; after = tt };
        }
    pushed n f (suc room) calls lt ks F K L k words os σ given s le e =
        let r = routine_at p.routines f in
        let b = routine_bases r in
        let fr = waiting ks K L k in
        let full = s.room in
        let fw = few f lt in
        let low : nat_lt (length F) deepest.callers ≡ true = lt-ltb (length F) deepest.callers (omega (arith, full, e)) in
        first (machine p deepest ks F) M 0 (routine_work r) (routine_work r) σ.turns _ (begins f ks F K L k words (beside_state p deepest ks F σ)) (Back fr F σ.own) (Lost fr F) _
        (record { it = ap (λ t. cond t (begins f ks F K L k words (beside_state p deepest ks F σ)) (Deep (beside_state p deepest ks F σ))) low }) (omega arith)
        (run_ok M n r.parameters fr F b refl σ.own s.room r.body (steps_ok p deepest r.parameters (fr ∷ F) b M n (λ x. exprs n calls r.parameters (fr ∷ F) b x) r.body) (routine_sorted p.routines f sorted lt) (omega arith) (omega arith) (omega arith) (omega (arith, fw)) words os σ room given (omega (arith, full, e)) s le)

    pub calls_ok : (n : ℕ) → CallsOk M n
    unfolding noted_called
    calls_ok zero f lt ks F K L k words os σ wt mf given s le =
        turned (machine p deepest ks F) M σ.turns 0 0 0 σ _ _ (Back (waiting ks K L k) F σ.own) (Lost (waiting ks K L k) F) (noted_called deepest.notes p zero f os) refl (entered f ks F K L k words (beside_state p deepest ks F σ) lt given.wide wt mf) refl (let q = few f lt in omega (arith, q))
        (λ m e. absurd (omega (arith, e, le)))
    calls_ok (suc n) f lt ks F K L k words os σ wt mf given s le =
        turned (machine p deepest ks F) M σ.turns 0 (routine_work (routine_at p.routines f)) 0 σ _ _ (Back (waiting ks K L k) F σ.own) (Lost (waiting ks K L k) F) (noted_called deepest.notes p (suc n) f os) refl (entered f ks F K L k words (beside_state p deepest ks F σ) lt given.wide wt mf) refl (let q = few f lt in omega (arith, q))
        (λ m e. pushed n f σ.own.calls_left (calls_ok n) lt ks F K L k words os (record σ { turns = m }) (record { wide = given.wide; many = given.many; each = given.each }) (record { room = s.room; names = s.names; calm = s.calm; lend = s.lend }) (omega (arith, e, le)) refl)
