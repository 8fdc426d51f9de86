-- The parts of `main`: its steps, what is done for a record, which `next` ends, and a part, which `exit` ends. `main` has no parameters, and nobody waits for it.
use Rattle.std.proofs.Common.{◌≡◌, inl, ℕ, zero, suc, ◌+◌, ◌*◌, ◌<◌, ◌≤◌, true, false, List, [], ◌∷◌, ◌++◌, length, Some, None, Option, Result, Err, refl, sym, ap, ap₂, ◌∙◌, arith}
use Rattle.awk_values.specs.declared.fault.Fault.{Fault}
use Rattle.awk_values.specs.declared.fault.Fault.TheVariants.{NextOutside}
use Rattle.awk_values.specs.Faults.{fault_number}
use Rattle.sem_primitives.specs.declared.table.Primitive.TheVariants as row
use Rattle.wasm_types.specs.Syntax.{Instructions, Done}
use Rattle.wasm_types.specs.declared.types.ValType.TheVariants.{I32}
use Rattle.wasm_types.specs.declared.instr.Simple.TheVariants.{Br, BrIf, GlobalGet, I32Const, Compare, Test}
use Rattle.wasm_types.specs.declared.instr.IRelOp.TheVariants.{Eq, Ne}
use Rattle.wasm_types.specs.declared.instr.ITestOp.TheVariants.{Eqz}
use Rattle.wasm_store.specs.declared.word.Word.TheVariants as word
use Rattle.mid_program.specs.Mid.{Program, Steps}
use Rattle.sem_scripts.specs.ScriptRun.{next_over, for_record, part_over, part}
use Rattle.sem_scripts.specs.ScriptState.{State, Stop, Faulted, OutOfTurns, TooDeep, Nexted, Exited, Returned, Outcome, Gives, Stops, Execution, ◌>>◌, nothing}
use Rattle.mid_program.specs.Sorted.{calls_of, context_of, kinds_of, steps_sorted}
use Rattle.sem_scripts.specs.Statements.{Flow, Normal, Broke, Continued}
use Rattle.lower_model.specs.Cells.{Cell, Bits, is_owned}
use Rattle.lower_model.specs.Functions.{layout_of}
use Rattle.lower_model.specs.ImportCalls.{Host}
use Rattle.lower_model.specs.Machine.{Conf, Deep, Label, Store, at, br, label, loops_walked}
use Rattle.lower_model.specs.Noted.{noted_done, out_of_part}
use Rattle.lower_model.specs.Places.{Bases, way_global, steps_room, steps_iterators, steps_arrays}
use Rattle.lower_model.specs.Small.{emit, ask_row, when}
use Rattle.lower_model.specs.Statements.{way_next, goes_on, record_done, part_done, steps_emitted}
use Rattle.host_imports.specs.declared.import.Import.TheVariants.{OfPrimitive}
use Rattle.lower_model.proofs.Observer.{Observer}
use Rattle.lower_model.proofs.Runs.{Goes, goes_to, goes_from, then_goes, by_steps, stays, first, then_on, then_step, there, within, Arrives, reaches_on}
use Rattle.lower_model.proofs.Regions.{cells, cells_same, pairs_same}
use Rattle.lower_model.proofs.Globals.{Globals, Way, placed}
use Rattle.lower_model.proofs.GlobalSteps.{storing, global_copied, global_set_ok}
use Rattle.lower_model.proofs.Locals.{Locals, laid}
use Rattle.lower_model.proofs.Steps.{empty, unanswered}
use Rattle.lower_model.proofs.Calls.{called}
use Rattle.lower_model.proofs.State.{cells_of, host_of, store_with, KeptBeside, faulted_left}
use Rattle.lower_model.proofs.Relation.{Loose, Sound, HoldsNone, Away, left_to}
use Rattle.lower_model.proofs.Pieces.{closes}
use Rattle.lower_model.proofs.Conversions.{same_state}
use Rattle.lower_model.proofs.Answers.{machine, beside_state, left_beside}
use Rattle.lower_model.proofs.StatementForms.{steps_work, Starts, StepDone, StepsOk, steps_meant}
use Rattle.lower_model.proofs.Exits.{left_sweep_ok}
use Rattle.lower_model.proofs.Returning.{NoReturn, Plainly, own_at}

-- locals once what they held is let go
abbrev cleaned : Locals → Locals
cleaned l = record { param = l.param; answer = l.answer; hand = λ x. empty; number = l.number; iterator = λ x. empty; array = λ x. empty }

laid_cleaned : (b : Bases) (l : Locals) → ((x : ℕ) → x < b.temporaries → l.hand x ≡ empty) → ((x : ℕ) → x < b.iterators → l.iterator x ≡ empty) → ((x : ℕ) → x < b.arrays → l.array x ≡ empty) → laid b l ≡ laid b (cleaned l)
laid_cleaned b l eh ei ey =
    ap (λ r. cells l.param b.parameters ++ (l.answer ∷ r))
    (ap₂ (λ a r. a ++ r) (pairs_same l.hand l.number (cleaned l).hand l.number b.temporaries eh (λ x lt. refl))
    (ap₂ (λ a r. a ++ r) (cells_same l.iterator (cleaned l).iterator b.iterators ei) (ap (λ a. a ++ []) (cells_same l.array (cleaned l).array b.arrays ey))))

-- a part is left for good by a fault, or a call that is too deep
abbrev pub ForGood : Stop → Type 0
ForGood (Faulted f) = Unit {0}
ForGood TooDeep = Unit {0}
ForGood why = ⊥

-- how many steps it takes at most to go on after `next` or `exit`
abbrev pub going_work : Bases → ℕ
going_work b = 1 + 8 * (b.temporaries + (b.iterators + b.arrays))

module _ (p : Program) (deepest : Observer) (b : Bases) (M n : ℕ) where
  -- after the items for a record, where they were left
  abbrev next_code : ℕ → Instructions
  next_code d = emit (GlobalGet way_global) (emit (I32Const way_next) (emit (Compare I32 Ne) (emit (BrIf (suc d)) (goes_on (layout_of p b) Done))))

  -- `main` is at code k among labels K, where a step may begin
  pub record On (k : Instructions) (K : List Label) (σ : State) (c : Conf) : Type 0 where
    pub next : Locals
    pub comes : c ≡ at [] [] K (laid b next) [] k (beside_state p deepest [] [] σ)
    pub starts : Starts p deepest [] [] b M n 0 K next σ

  abbrev pub LeftAt : (way : ℕ) → Stop → State → Store → Type 0
  LeftAt way (Faulted f) σ s = KeptBeside p.ranges (kinds_of p.globals) (cells_of (kinds_of p.globals) way σ) (host_of σ (Some f)) s
  LeftAt way why σ s = s ≡ beside_state p deepest [] [] σ

  -- `main` is left, whatever the way was
  pub record Left (d : ℕ) (K : List Label) (why : Stop) (σ : State) (c : Conf) : Type 0 where
    pub next : Locals
    pub way : ℕ
    pub store : Store
    pub left : LeftAt way why σ store
    pub comes : c ≡ left_to why (br d [] K (laid b next) [] store) (Deep store)
    pub loose : Loose p deepest [] [] next
    pub answer : next.answer ≡ unanswered
    pub good : ForGood why

  -- what was left by `next` or by `exit` goes on once what it held is let go
  pub record Going (way : ℕ) (K : List Label) (k : Instructions) (l : Locals) (σ : State) : Type 0 where
    pub next : Locals
    pub steps : ℕ
    pub few : steps ≤ going_work b
    pub goes : Goes (machine p deepest [] []) steps (at [] [] K (laid b l) [] (goes_on (layout_of p b) k) (store_with p.ranges (kinds_of p.globals) way None σ)) (at [] [] K (laid b next) [] k (beside_state p deepest [] [] σ))
    pub starts : Starts p deepest [] [] b M n 0 K next σ

  -- the store that is left, where `main` goes on
  beside_left : {s G : Store} → (k : Instructions) (K : List Label) (l : Locals) → s ≡ G → at [] [] K (laid b l) [] k s ≡ at [] [] K (laid b l) [] k G
  beside_left k K l e = ap (at [] [] K (laid b l) [] k) e

  going : (way : ℕ) (K : List Label) (k : Instructions) (l : Locals) (σ : State) → zero ≡ b.parameters → loops_walked K ≡ 0 → Loose p deepest [] [] l → l.answer ≡ unanswered → Sound p deepest [] [] σ × HoldsNone p deepest [] [] l → length σ.own.locals ≡ 0 → σ.turns ≤ n → Going way K k l σ
  going way K k l σ none walks lo an left size le =
      let G = beside_state p deepest [] [] σ in
      let a = left_sweep_ok p deepest [] [] b (calls_of p) K G l k lo left.1 in
      record {
        next = cleaned a.next;
        steps = 1 + a.steps;
        few = let q = a.few in omega (arith, q);
        goes = then_goes (global_set_ok p.ranges (length (kinds_of p.globals)) (cells_of (kinds_of p.globals) way σ) Way (Bits (word.I32 0)) tt refl refl)
            (goes_to a.goes (ap (λ L. at [] [] K L [] k G) (laid_cleaned b a.next a.hands a.iterators a.arrays)));
        starts = record {
          fit = record {
            params = λ i j e. cc;
            size = size;
            answer = a.answer ∙ an;
            hands = λ x. inl refl;
            numbers = λ x. ap is_owned (a.numbers x) ∙ lo.numbers x;
            free = λ x lx. refl;
            walks = λ x. inl refl;
            still = λ x lx. refl;
            yards = λ x. inl refl;
            spare = λ x lx. refl;
            sound = left.0;
          };
          walked = λ x lt. absurd (omega (arith, lt));
          walks = omega arith;
          loops = walks;
          turns = le;
          parameters = none;
        };
      }

  -- a store in which a fault is kept
  abbrev store_of : {was : Globals} {o : Host} {s : Store} → KeptBeside p.ranges (kinds_of p.globals) was o s → Store
  store_of {o = o} q = storing (placed p.ranges (length (kinds_of p.globals)) q.globals) o

  -- the way is looked at there
  kept_told : {was : Globals} {o : Host} {s : Store} {w : ℕ} {K : List Label} {L : List Cell} {k : Instructions} →
      (q : KeptBeside p.ranges (kinds_of p.globals) was o s) → q.globals.way ≡ Bits (word.I32 w) →
      Goes (machine p deepest [] []) 1 (at [] [] K L [] (emit (GlobalGet way_global) k) (store_of q)) (at [] (Bits (word.I32 w) ∷ []) K L [] k (store_of q))
  kept_told {w = w} q e = global_copied p.ranges (length (kinds_of p.globals)) q.globals Way (Bits (word.I32 w)) tt e refl

  -- steps of `main`
  abbrev pub steps_only : Steps → (d : ℕ) → Instructions → Execution (Unit {0})
  steps_only ss d k = steps_meant p deepest [] [] b M n ss zero d zero zero k >> nothing

  pub steps_done : (ss : Steps) → StepsOk p deepest [] [] b M n ss → (d : ℕ) (k : Instructions) (K : List Label) (l : Locals) (σ : State) → steps_sorted (context_of p []) false false ss ≡ true → steps_room ss ≤ b.temporaries → steps_iterators ss ≤ b.iterators → steps_arrays ss ≤ b.arrays → steps_work ss ≤ M → Starts p deepest [] [] b M n 0 K l σ →
      Arrives (machine p deepest [] []) M (steps_work ss) σ.turns (at [] [] K (laid b l) [] (steps_emitted (layout_of p b) ss zero d zero zero k) (beside_state p deepest [] [] σ)) (λ u. On k K) (Away p deepest [] [] b d K) (steps_only ss d k σ)
  steps_done ss ok d k K l σ so rm it ar wk s =
      then_on (machine p deepest [] []) M (steps_work ss) 0 (steps_work ss) σ.turns _ (StepDone p deepest [] [] b M n false 0 zero zero k K l) (λ u. On k K) (Away p deepest [] [] b d K) (steps_meant p deepest [] [] b M n ss zero d zero zero k σ) _ (omega arith)
      (ok false false 0 d zero zero k K l σ so rm (omega (arith, it)) ar wk s)
      (λ f τ c le h. by f τ c h)
    where
      by : (f : Flow) (τ : State) (c : Conf) → StepDone p deepest [] [] b M n false 0 zero zero k K l f τ c → Arrives (machine p deepest [] []) M 0 τ.turns c (λ u. On k K) (Away p deepest [] [] b d K) (Gives (tt {0}) τ)
      by Normal τ c h = there (machine p deepest [] []) M 0 0 c c (tt {0}) τ (λ u. On k K) (Away p deepest [] [] b d K) stays (omega arith) (record { next = h.next; comes = h.comes; starts = h.starts })
      by Broke τ c h = absurd h.flows
      by Continued τ c h = absurd h.flows

  -- out of two blocks, at the end of what is in them
  pub out_of_two : (w m : ℕ) (c : Conf) (x : Label) (k : Instructions) (K : List Label) (Q : Stop → State → Conf → Type 0) (r : Outcome (Unit {0})) →
      Arrives (machine p deepest [] []) M w m c (λ u. On (emit (Br 1) Done) (x ∷ (label [] None k ∷ K))) Q r → loops_walked K ≡ 0 → Arrives (machine p deepest [] []) M (w + 1) m c (λ u. On k K) Q r
  out_of_two w m c x k K Q r a e =
      then_step (machine p deepest [] []) M 1 w (w + 1) m c (λ u. On (emit (Br 1) Done) (x ∷ (label [] None k ∷ K))) (λ u. On k K) Q r (omega arith)
      (λ u σ c1 h. record {
        conf = at [] [] K (laid b h.next) [] k (beside_state p deepest [] [] σ);
        steps = 1;
        few = omega arith;
        goes = goes_from h.comes (by_steps 1 refl);
        holds = record { next = h.next; comes = refl; starts = record { fit = h.starts.fit; walked = h.starts.walked; walks = h.starts.walks; loops = e; turns = h.starts.turns; parameters = h.starts.parameters } };
      }) a

  -- `next` ends what is done for a record, and no more

  abbrev pub record_work : ℕ
  record_work = going_work b + 8

  nexted : (w m d : ℕ) (c : Conf) (k : Instructions) (K : List Label) (r : Outcome (Unit {0})) → zero ≡ b.parameters → loops_walked K ≡ 0 → m ≤ n → NoReturn r → length (own_at r).locals ≡ 0 →
      Arrives (machine p deepest [] []) M w m c (λ u. On k K) (Away p deepest [] [] b zero (label [] None (next_code d) ∷ (label [] None k ∷ K))) r → Arrives (machine p deepest [] []) M (w + record_work) m c (λ u. On k K) (Away p deepest [] [] b d K) (next_over r)
  nexted w m d c k K (Gives u τ) none walks le nr size h = reaches_on (machine p deepest [] []) M 0 w (w + record_work) m τ.turns c (On k K τ) (On k K τ) (omega arith) (λ c1 q. record { conf = c1; steps = 0; few = omega arith; goes = stays; holds = q }) h
  nexted w m d c k K (Stops (Returned v) τ) none walks le nr size h = absurd nr
  nexted w m d c k K (Stops OutOfTurns τ) none walks le nr size h = within (machine p deepest [] []) M {A = Unit {0}} w (w + record_work) m c (λ u. On k K) (Away p deepest [] [] b d K) (Stops OutOfTurns τ) (omega arith) h
  nexted w m d c k K (Stops TooDeep τ) none walks le nr size h =
      reaches_on (machine p deepest [] []) M 0 w (w + record_work) m τ.turns c _ (Away p deepest [] [] b d K TooDeep τ) (omega arith)
      (λ c1 q. record { conf = c1; steps = 0; few = omega arith; goes = stays; holds = record { next = q.next; store = q.store; left = q.left; comes = q.comes; loose = q.loose; answer = q.answer; after = tt } }) h
  nexted w m d c k K (Stops (Faulted f) τ) none walks le nr size h =
      reaches_on (machine p deepest [] []) M 3 w (w + record_work) m τ.turns c _ (Away p deepest [] [] b d K (Faulted f) τ) (omega arith)
      (λ c1 q. record {
        conf = br d [] K (laid b q.next) [] (store_of q.left);
        steps = 3;
        few = omega arith;
        goes = goes_from (q.comes ∙ beside_left (next_code d) (label [] None k ∷ K) q.next q.left.is) (then_goes (kept_told q.left q.left.worn.way) (by_steps 2 refl));
        holds = record {
          next = q.next;
          store = q.store;
          left = q.left;
          comes = ap (br d [] K (laid b q.next) []) (sym q.left.is);
          loose = q.loose;
          answer = q.answer;
          after = tt;
        };
      }) h
  nexted w m d c k K (Stops Exited τ) none walks le nr size h =
      reaches_on (machine p deepest [] []) M 3 w (w + record_work) m τ.turns c _ (Away p deepest [] [] b d K Exited τ) (omega arith)
      (λ c1 q. record {
        conf = br d [] K (laid b q.next) [] (left_beside p deepest [] [] Exited τ);
        steps = 3;
        few = omega arith;
        goes = goes_from (q.comes ∙ beside_left (next_code d) (label [] None k ∷ K) q.next q.left) (then_goes (global_copied p.ranges (length (kinds_of p.globals)) (cells_of (kinds_of p.globals) 2 τ) Way (Bits (word.I32 2)) tt refl refl) (by_steps 2 refl));
        holds = record {
          next = q.next;
          store = left_beside p deepest [] [] Exited τ;
          left = refl;
          comes = refl;
          loose = q.loose;
          answer = q.answer;
          after = q.after;
        };
      }) h
  nexted w m d c k K (Stops Nexted τ) none walks le nr size h =
      let down = h.cost.down in
      reaches_on (machine p deepest [] []) M (going_work b + 4) w (w + record_work) m τ.turns c _ (On k K τ) (omega arith)
      (λ c1 q.
      let g = going 1 (label [] None k ∷ K) Done q.next τ none walks q.loose q.answer q.after size (omega (arith, le, down)) in
      record {
        conf = at [] [] K (laid b g.next) [] k (beside_state p deepest [] [] τ);
        steps = 3 + (g.steps + 1);
        few = let x = g.few in omega (arith, x);
        goes = goes_from (q.comes ∙ beside_left (next_code d) (label [] None k ∷ K) q.next q.left) (then_goes (then_goes (global_copied p.ranges (length (kinds_of p.globals)) (cells_of (kinds_of p.globals) 1 τ) Way (Bits (word.I32 1)) tt refl refl) (by_steps 2 refl)) (then_goes g.goes closes));
        holds = record { next = g.next; comes = refl; starts = record { fit = g.starts.fit; walked = g.starts.walked; walks = g.starts.walks; loops = walks; turns = g.starts.turns; parameters = g.starts.parameters } };
      }) h

  -- the items for a record
  pub record_ok : (ss : Steps) → StepsOk p deepest [] [] b M n ss → (d : ℕ) (k : Instructions) (K : List Label) (l : Locals) (σ : State) → Plainly (noted_done deepest.notes p b n ss out_of_part) → steps_sorted (context_of p []) false false ss ≡ true → steps_room ss ≤ b.temporaries → steps_iterators ss ≤ b.iterators → steps_arrays ss ≤ b.arrays → steps_work ss ≤ M → Starts p deepest [] [] b M n 0 K l σ →
      Arrives (machine p deepest [] []) M (steps_work ss + (record_work + 3)) σ.turns (at [] [] K (laid b l) [] (record_done (layout_of p b) ss d k) (beside_state p deepest [] [] σ)) (λ u. On k K) (Away p deepest [] [] b d K) (for_record (noted_done deepest.notes p b n ss out_of_part) σ)
  record_ok ss ok d k K l σ plain so rm it ar wk s =
      let x = label [] None (next_code d) in
      let K2 = x ∷ (label [] None k ∷ K) in
      let body = steps_emitted (layout_of p b) ss zero zero zero zero (emit (Br 1) Done) in
      first (machine p deepest [] []) M 2 (steps_work ss + 1 + record_work) (steps_work ss + (record_work + 3)) σ.turns _ (at [] [] K2 (laid b l) [] body (beside_state p deepest [] [] σ)) (λ u. On k K) (Away p deepest [] [] b d K) _ (by_steps 2 refl) (omega arith)
      (nexted (steps_work ss + 1) σ.turns d _ k K (noted_done deepest.notes p b n ss out_of_part σ) s.parameters s.loops s.turns (plain.at σ) (plain.sized σ ∙ s.fit.size)
      (out_of_two (steps_work ss) σ.turns _ x k K (Away p deepest [] [] b zero K2) (noted_done deepest.notes p b n ss out_of_part σ)
      (steps_done ss ok zero (emit (Br 1) Done) K2 l σ so rm it ar wk (record { fit = s.fit; walked = s.walked; walks = s.walks; loops = s.loops; turns = s.turns; parameters = s.parameters })) s.loops))

  -- `exit` ends a part, and no more; what `next` would leave is not there

  abbrev outside_code : ℕ → Instructions
  outside_code d = emit (I32Const (fault_number NextOutside)) (ask_row row.Fail (emit (Br (suc (suc d))) Done))

  -- after the actions of a part, where they were left
  abbrev part_code : ℕ → Instructions
  part_code d =
      emit (GlobalGet way_global) (emit (Test I32 Eqz) (emit (BrIf (suc d))
      (emit (GlobalGet way_global) (emit (I32Const way_next) (emit (Compare I32 Eq) (when (outside_code d) (goes_on (layout_of p b) Done)))))))

  abbrev pub part_work : ℕ
  part_work = going_work b + 12

  -- the way is looked at
  way_told : {K : List Label} {L : List Cell} {k : Instructions} → (way : ℕ) (fault : Option Fault) (σ : State) →
      Goes (machine p deepest [] []) 1 (at [] [] K L [] (emit (GlobalGet way_global) k) (store_with p.ranges (kinds_of p.globals) way fault σ)) (at [] (Bits (word.I32 way) ∷ []) K L [] k (store_with p.ranges (kinds_of p.globals) way fault σ))
  way_told way fault σ = global_copied p.ranges (length (kinds_of p.globals)) (cells_of (kinds_of p.globals) way σ) Way (Bits (word.I32 way)) tt refl refl

  -- a fault is kept by the host
  outside_kept : {K : List Label} {L : List Cell} {k : Instructions} → (σ : State) →
      Goes (machine p deepest [] []) 1 (at [] [] K L [] (emit (I32Const (fault_number NextOutside)) (ask_row row.Fail k)) (store_with p.ranges (kinds_of p.globals) 1 None σ)) (at [] [] K L [] k (store_with p.ranges (kinds_of p.globals) 1 (Some NextOutside) σ))
  outside_kept {K = K} {L = L} {k = k} σ =
      goes_to (called (OfPrimitive row.Fail) (Bits (word.I32 (fault_number NextOutside)) ∷ []) [] (store_with p.ranges (kinds_of p.globals) 1 None σ) None _ refl refl refl)
      (ap (λ τ. at [] [] K L [] k (store_with p.ranges (kinds_of p.globals) 1 (Some NextOutside) τ)) (same_state {A = Result (Unit {0}) Fault} σ (Err NextOutside)))

  parted : (w m d : ℕ) (c : Conf) (k : Instructions) (K : List Label) (r : Outcome (Unit {0})) → zero ≡ b.parameters → loops_walked K ≡ 0 → m ≤ n → NoReturn r → length (own_at r).locals ≡ 0 →
      Arrives (machine p deepest [] []) M w m c (λ u. On k K) (Away p deepest [] [] b zero (label [] None (part_code d) ∷ (label [] None k ∷ K))) r → Arrives (machine p deepest [] []) M (w + part_work) m c (λ u. On k K) (Left d K) (part_over r)
  parted w m d c k K (Gives u τ) none walks le nr size h = reaches_on (machine p deepest [] []) M 0 w (w + part_work) m τ.turns c (On k K τ) (On k K τ) (omega arith) (λ c1 q. record { conf = c1; steps = 0; few = omega arith; goes = stays; holds = q }) h
  parted w m d c k K (Stops (Returned v) τ) none walks le nr size h = absurd nr
  parted w m d c k K (Stops OutOfTurns τ) none walks le nr size h = within (machine p deepest [] []) M {A = Unit {0}} w (w + part_work) m c (λ u. On k K) (Left d K) (Stops OutOfTurns τ) (omega arith) h
  parted w m d c k K (Stops TooDeep τ) none walks le nr size h =
      reaches_on (machine p deepest [] []) M 0 w (w + part_work) m τ.turns c _ (Left d K TooDeep τ) (omega arith)
      (λ c1 q. record { conf = c1; steps = 0; few = omega arith; goes = stays; holds = record { next = q.next; way = 0; store = q.store; left = q.left; comes = q.comes; loose = q.loose; answer = q.answer; good = tt } }) h
  parted w m d c k K (Stops (Faulted f) τ) none walks le nr size h =
      reaches_on (machine p deepest [] []) M 3 w (w + part_work) m τ.turns c _ (Left d K (Faulted f) τ) (omega arith)
      (λ c1 q. record {
        conf = br d [] K (laid b q.next) [] (store_of q.left);
        steps = 3;
        few = omega arith;
        goes = goes_from (q.comes ∙ beside_left (part_code d) (label [] None k ∷ K) q.next q.left.is) (then_goes (kept_told q.left q.left.worn.way) (by_steps 2 refl));
        holds = record {
          next = q.next;
          way = 0;
          store = q.store;
          left = q.left;
          comes = ap (br d [] K (laid b q.next) []) (sym q.left.is);
          loose = q.loose;
          answer = q.answer;
          good = tt;
        };
      }) h
  parted w m d c k K (Stops Nexted τ) none walks le nr size h =
      reaches_on (machine p deepest [] []) M 9 w (w + part_work) m τ.turns c _ (Left d K (Faulted NextOutside) τ) (omega arith)
      (λ c1 q. record {
        conf = br d [] K (laid b q.next) [] (store_with p.ranges (kinds_of p.globals) 1 (Some NextOutside) τ);
        steps = 8;
        few = omega arith;
        goes = goes_from (q.comes ∙ beside_left (part_code d) (label [] None k ∷ K) q.next q.left) (then_goes (way_told 1 None τ) (then_goes (by_steps 2 refl) (then_goes (way_told 1 None τ) (then_goes (by_steps 2 refl) (then_goes (outside_kept τ) (by_steps 1 refl))))));
        holds = record {
          next = q.next;
          way = 1;
          store = store_with p.ranges (kinds_of p.globals) 1 (Some NextOutside) τ;
          left = faulted_left p.ranges (kinds_of p.globals) 1 NextOutside τ;
          comes = refl;
          loose = q.loose;
          answer = q.answer;
          good = tt;
        };
      }) h
  parted w m d c k K (Stops Exited τ) none walks le nr size h =
      let down = h.cost.down in
      reaches_on (machine p deepest [] []) M (going_work b + 9) w (w + part_work) m τ.turns c _ (On k K τ) (omega arith)
      (λ c1 q.
      let g = going 2 (label [] None k ∷ K) Done q.next τ none walks q.loose q.answer q.after size (omega (arith, le, down)) in
      record {
        conf = at [] [] K (laid b g.next) [] k (beside_state p deepest [] [] τ);
        steps = 7 + (g.steps + 1);
        few = let x = g.few in omega (arith, x);
        goes = goes_from (q.comes ∙ beside_left (part_code d) (label [] None k ∷ K) q.next q.left) (then_goes (then_goes (way_told 2 None τ) (then_goes (by_steps 2 refl) (then_goes (way_told 2 None τ) (by_steps 3 refl)))) (then_goes g.goes closes));
        holds = record { next = g.next; comes = refl; starts = record { fit = g.starts.fit; walked = g.starts.walked; walks = g.starts.walks; loops = walks; turns = g.starts.turns; parameters = g.starts.parameters } };
      }) h

  -- a part, if its actions come to its end
  pub part_ok : (w d : ℕ) (actions k : Instructions) (K : List Label) (l : Locals) (σ : State) (doing : Execution (Unit {0})) → Plainly doing → Starts p deepest [] [] b M n 0 K l σ →
      ((K2 : List Label) → loops_walked K2 ≡ 0 → Starts p deepest [] [] b M n 0 K2 l σ → Arrives (machine p deepest [] []) M w σ.turns (at [] [] K2 (laid b l) [] actions (beside_state p deepest [] [] σ)) (λ u. On (emit (Br 1) Done) K2) (Away p deepest [] [] b zero K2) (doing σ)) →
      Arrives (machine p deepest [] []) M (w + (part_work + 3)) σ.turns (at [] [] K (laid b l) [] (part_done (layout_of p b) actions d k) (beside_state p deepest [] [] σ)) (λ u. On k K) (Left d K) (part doing σ)
  part_ok w d actions k K l σ doing plain s acts =
      let x = label [] None (part_code d) in
      let K2 = x ∷ (label [] None k ∷ K) in
      first (machine p deepest [] []) M 2 (w + 1 + part_work) (w + (part_work + 3)) σ.turns _ (at [] [] K2 (laid b l) [] actions (beside_state p deepest [] [] σ)) (λ u. On k K) (Left d K) _ (by_steps 2 refl) (omega arith)
      (parted (w + 1) σ.turns d _ k K (doing σ) s.parameters s.loops s.turns (plain.at σ) (plain.sized σ ∙ s.fit.size)
      (out_of_two w σ.turns _ x k K (Away p deepest [] [] b zero K2) (doing σ)
      (acts K2 s.loops (record { fit = s.fit; walked = s.walked; walks = s.walks; loops = s.loops; turns = s.turns; parameters = s.parameters })) s.loops))
