-- `main` from where its names are made to its end, if reading and assignments do what they mean.
use Rattle.std.proofs.Common.{◌≡◌, ℕ, zero, suc, ◌+◌, ◌≤◌, Bool, true, false, List, [], ◌∷◌, None, refl, ap, ◌∙◌, arith}
use Rattle.std.specs.Prelude.{if◌then◌else◌}
use Rattle.sem_primitives.specs.declared.table.Primitive.TheVariants as row
use Rattle.wasm_types.specs.Syntax.{Instructions, Done}
use Rattle.wasm_types.specs.declared.instr.Simple.TheVariants.{Br}
use Rattle.mid_program.specs.Mid.{Program, Code, Steps}
use Rattle.sem_scripts.specs.ScriptRun.{first_assigned, records_done, part}
use Rattle.sem_scripts.specs.ScriptState.{State, Stop, Faulted, OutOfTurns, TooDeep, Nexted, Exited, Returned, Outcome, Gives, Stops, Execution, ◌>>=◌, ◌>>◌, call, nothing}
use Rattle.mid_program.specs.Sorted.{calls_of, context_of, steps_sorted}
use Rattle.lower_model.specs.Emission.{asked}
use Rattle.lower_model.specs.Functions.{layout_of}
use Rattle.lower_model.specs.Machine.{Conf, Deep, Label, at, br, label, ending_at}
use Rattle.lower_model.specs.Noted.{noted_called, noted_done, begin_rest, out_of_part}
use Rattle.lower_model.specs.Places.{Bases, steps_room, steps_iterators, steps_arrays}
use Rattle.lower_model.specs.Small.{emit as instruction, ask_row}
use Rattle.lower_model.specs.Statements.{part_done, first_part, last_part, records_read}
use Rattle.lower_model.proofs.Observer.{Observer}
use Rattle.lower_model.proofs.Runs.{goes_from, then_goes, stays, first, then_on, there, within, Arrives, reaches_on, Onward}
use Rattle.lower_model.proofs.Locals.{Locals, laid}
use Rattle.lower_model.proofs.Relation.{Away, fit_loose, fit_shared}
use Rattle.lower_model.proofs.Pieces.{closes}
use Rattle.lower_model.proofs.Answers.{machine, beside_state, done_by, row_called}
use Rattle.lower_model.proofs.HostCalls.{calm_after}
use Rattle.lower_model.proofs.Simulation.{ExprOk}
use Rattle.lower_model.proofs.StatementForms.{steps_work, Starts, StepsOk}
use Rattle.lower_model.proofs.Stepping.{steps_ok}
use Rattle.lower_model.proofs.Returning.{Plainly, then_plainly, nothing_plainly, noted_plainly, records_plainly, called_plainly}
use Rattle.lower_model.proofs.Parts.{On, Left, part_work, part_ok, steps_done, record_work}
use Rattle.lower_model.proofs.Endings.{main_exit, main_exit_work, main_ends, kept_ends, shows_ended, EndsWell}
use Rattle.lower_model.proofs.Records.{Reading, reading_ok}

module _ (p : Program) (deepest : Observer) (b : Bases) (M n : ℕ) where
  abbrev pub exit_labels : List Label
  exit_labels = label [] None (main_exit p deepest b) ∷ []

  -- `main` is left for good
  left_ends : (why : Stop) (σ : State) (c : Conf) → zero ≡ b.parameters → Left p deepest b M n zero exit_labels why σ c → Onward (machine p deepest [] []) M (main_exit_work b) (EndsWell (Stops why σ)) c
  left_ends (Faulted f) σ c none h =
      let e = kept_ends p deepest b h.way f h.next σ h.left.globals none h.loose h.answer h.left.worn in
      record { conf = _; steps = e.steps; few = e.few; goes = goes_from (h.comes ∙ ap (br zero [] exit_labels (laid b h.next) []) h.left.is) e.goes; holds = refl }
  left_ends TooDeep σ c none h = record { conf = c; steps = 0; few = omega arith; goes = stays; holds = ap ending_at (h.comes ∙ ap Deep h.left) }
  left_ends OutOfTurns σ c none h = absurd h.good
  left_ends Nexted σ c none h = absurd h.good
  left_ends Exited σ c none h = absurd h.good
  left_ends (Returned v) σ c none h = absurd h.good

  -- what `main` comes to at its end shows as the script's run does
  pub ends_well : (w m : ℕ) (c : Conf) (r : Outcome (Unit {0})) → zero ≡ b.parameters → Arrives (machine p deepest [] []) M w m c (λ u. On p deepest b M n Done exit_labels) (Left p deepest b M n zero exit_labels) r →
      Arrives (machine p deepest [] []) M (w + (main_exit_work b + 1)) m c (λ u σ. EndsWell (Gives u σ)) (λ why σ. EndsWell (Stops why σ)) r
  ends_well w m c (Gives u σ) none h =
      reaches_on (machine p deepest [] []) M (main_exit_work b + 1) w (w + (main_exit_work b + 1)) m σ.turns c _ (EndsWell (Gives u σ)) (omega arith)
      (λ c1 q.
      let e = main_ends p deepest b 0 q.next σ none (fit_loose p deepest [] [] 0 0 0 q.next σ q.starts.fit) q.starts.fit.answer in
      record { conf = _; steps = 1 + e.steps; few = (let x = e.few in omega (arith, x)); goes = goes_from q.comes (then_goes closes e.goes); holds = shows_ended p deepest b 0 σ }) h
  ends_well w m c (Stops (Faulted f) σ) none h = reaches_on (machine p deepest [] []) M (main_exit_work b) w (w + (main_exit_work b + 1)) m σ.turns c _ (EndsWell (Stops (Faulted f) σ)) (omega arith) (λ c1 q. left_ends (Faulted f) σ c1 none q) h
  ends_well w m c (Stops TooDeep σ) none h = reaches_on (machine p deepest [] []) M (main_exit_work b) w (w + (main_exit_work b + 1)) m σ.turns c _ (EndsWell (Stops TooDeep σ)) (omega arith) (λ c1 q. left_ends TooDeep σ c1 none q) h
  ends_well w m c (Stops OutOfTurns σ) none h =
      within (machine p deepest [] []) M {A = Unit {0}} w (w + (main_exit_work b + 1)) m c (λ u τ. EndsWell (Gives u τ)) (λ why τ. EndsWell (Stops why τ)) (Stops OutOfTurns σ) (omega arith) h
  ends_well w m c (Stops Nexted σ) none h = absurd h.holds.good
  ends_well w m c (Stops Exited σ) none h = absurd h.holds.good
  ends_well w m c (Stops (Returned v) σ) none h = absurd h.holds.good

  -- what is assumed beside `Reading`: the assignments before BEGIN are made
  pub record Starting (work : ℕ) : Type 0 where
    pub made : (k : Instructions) (K : List Label) (l : Locals) (σ : State) → Starts p deepest [] [] b M n 0 K l σ →
        Arrives (machine p deepest [] []) M work σ.turns (at [] [] K (laid b l) [] (asked (layout_of p b) row.StartAssign zero zero k) (beside_state p deepest [] [] σ)) (λ u. On p deepest b M n k K) (Left p deepest b M n zero K) (first_assigned n σ)

  module _ (exprs : (e : Code) → ExprOk p deepest [] [] b M n e) (begin_sorted : steps_sorted (context_of p []) false false p.begin ≡ true) (items_sorted : steps_sorted (context_of p []) false false p.items ≡ true) (end_sorted : steps_sorted (context_of p []) false false p.end ≡ true)
      (begin_room : steps_room p.begin ≤ b.temporaries) (begin_iterators : steps_iterators p.begin ≤ b.iterators) (begin_arrays : steps_arrays p.begin ≤ b.arrays)
      (items_room : steps_room p.items ≤ b.temporaries) (items_iterators : steps_iterators p.items ≤ b.iterators) (items_arrays : steps_arrays p.items ≤ b.arrays)
      (end_room : steps_room p.end ≤ b.temporaries) (end_iterators : steps_iterators p.end ≤ b.iterators) (end_arrays : steps_arrays p.end ≤ b.arrays) (one : suc zero ≤ b.temporaries)
      (begin_few : steps_work p.begin ≤ M) (end_few : steps_work p.end ≤ M) (first_work read_work : ℕ) (start : Starting first_work) (r : Reading p deepest b M n read_work) (items_few : (steps_work p.items + (record_work p deepest b M n + 3)) + (read_work + 30) ≤ M) where
    done_plainly : (ss : Steps) → steps_sorted (context_of p []) false false ss ≡ true → (k : Instructions) → Plainly (noted_done deepest.notes p b n ss k)
    done_plainly ss so k =
        then_plainly (noted_plainly p.texts (calls_of p) n (noted_called deepest.notes p n) (called_plainly deepest.notes p n) deepest.notes (layout_of p b) (context_of p []) false ss zero zero zero zero k so) (λ f. nothing_plainly)

    done_ok : (ss : Steps) → StepsOk p deepest [] [] b M n ss
    done_ok ss = steps_ok p deepest [] [] b M n exprs ss

    abbrev records_meant : Execution (Unit {0})
    records_meant = if p.reads then records_done n (noted_done deepest.notes p b n p.items out_of_part) else nothing

    -- records, if there are any to be read
    read_plainly : (t : Bool) → Plainly (if t then records_done n (noted_done deepest.notes p b n p.items out_of_part) else nothing)
    read_plainly true = records_plainly n (noted_done deepest.notes p b n p.items out_of_part) (done_plainly p.items items_sorted out_of_part)
    read_plainly false = nothing_plainly

    records_or_not : (t : Bool) (K : List Label) (l : Locals) (σ : State) → Starts p deepest [] [] b M n 0 K l σ →
        Arrives (machine p deepest [] []) M 17 σ.turns (at [] [] K (laid b l) [] (if t then records_read (layout_of p b) p.items zero (instruction (Br 1) Done) else instruction (Br 1) Done) (beside_state p deepest [] [] σ)) (λ u. On p deepest b M n (instruction (Br 1) Done) K) (Away p deepest [] [] b zero K)
        ((if t then records_done n (noted_done deepest.notes p b n p.items out_of_part) else nothing) σ)
    records_or_not true K l σ s = reading_ok p deepest b M n read_work r p.items (done_ok p.items) (done_plainly p.items items_sorted out_of_part) items_sorted items_room items_iterators items_arrays one items_few zero (instruction (Br 1) Done) K l σ s
    records_or_not false K l σ s = there (machine p deepest [] []) M 17 0 _ _ (tt {0}) σ (λ u. On p deepest b M n (instruction (Br 1) Done) K) (Away p deepest [] [] b zero K) stays (omega arith) (record { next = l; comes = refl; starts = s })

    -- BEGIN, and the records
    first_ok : (k : Instructions) (K : List Label) (l : Locals) (σ : State) → Starts p deepest [] [] b M n 0 K l σ →
        Arrives (machine p deepest [] []) M ((steps_work p.begin + 17) + (part_work p deepest b M n + 3)) σ.turns (at [] [] K (laid b l) [] (part_done (layout_of p b) (first_part (layout_of p b) p) zero k) (beside_state p deepest [] [] σ)) (λ u. On p deepest b M n k K) (Left p deepest b M n zero K)
        (part (noted_done deepest.notes p b n p.begin (begin_rest p b) >> records_meant) σ)
    first_ok k K l σ s =
        part_ok p deepest b M n (steps_work p.begin + 17) zero (first_part (layout_of p b) p) k K l σ (noted_done deepest.notes p b n p.begin (begin_rest p b) >> records_meant) (then_plainly (done_plainly p.begin begin_sorted (begin_rest p b)) (λ u. read_plainly p.reads)) s
        (λ K2 e s2.
        then_on (machine p deepest [] []) M (steps_work p.begin) 17 (steps_work p.begin + 17) σ.turns _ (λ u. On p deepest b M n (if p.reads then records_read (layout_of p b) p.items zero (instruction (Br 1) Done) else instruction (Br 1) Done) K2) (λ u. On p deepest b M n (instruction (Br 1) Done) K2) (Away p deepest [] [] b zero K2) (noted_done deepest.notes p b n p.begin (begin_rest p b) σ) (λ u. records_meant) (omega arith)
        (steps_done p deepest b M n p.begin (done_ok p.begin) zero (if p.reads then records_read (layout_of p b) p.items zero (instruction (Br 1) Done) else instruction (Br 1) Done) K2 l σ begin_sorted begin_room begin_iterators begin_arrays begin_few s2)
        (λ u τ c le h.
        first (machine p deepest [] []) M 0 17 17 τ.turns c _ (λ u. On p deepest b M n (instruction (Br 1) Done) K2) (Away p deepest [] [] b zero K2) _ (record { it = h.comes }) (omega arith) (records_or_not p.reads K2 h.next τ h.starts)))

    -- END
    last_ok : (k : Instructions) (K : List Label) (l : Locals) (σ : State) → Starts p deepest [] [] b M n 0 K l σ →
        Arrives (machine p deepest [] []) M (steps_work p.end + (part_work p deepest b M n + 3)) σ.turns (at [] [] K (laid b l) [] (part_done (layout_of p b) (last_part (layout_of p b) p) zero k) (beside_state p deepest [] [] σ)) (λ u. On p deepest b M n k K) (Left p deepest b M n zero K) (part (noted_done deepest.notes p b n p.end out_of_part) σ)
    last_ok k K l σ s =
        part_ok p deepest b M n (steps_work p.end) zero (last_part (layout_of p b) p) k K l σ (noted_done deepest.notes p b n p.end out_of_part) (done_plainly p.end end_sorted out_of_part) s
        (λ K2 e s2. steps_done p deepest b M n p.end (done_ok p.end) zero (instruction (Br 1) Done) K2 l σ end_sorted end_room end_iterators end_arrays end_few s2)

    -- what a script does once its names are there
    abbrev pub main_meant : Execution (Unit {0})
    main_meant = first_assigned n >>= λ d. part (noted_done deepest.notes p b n p.begin (begin_rest p b) >> records_meant) >>= λ e. call row.BeginEnd tt >>= λ f. part (noted_done deepest.notes p b n p.end out_of_part)

    abbrev pub main_work : ℕ
    main_work = first_work + (((steps_work p.begin + 17) + (part_work p deepest b M n + 3)) + (1 + (steps_work p.end + (part_work p deepest b M n + 3))))

    abbrev pub main_code : Instructions
    main_code = asked (layout_of p b) row.StartAssign zero zero (part_done (layout_of p b) (first_part (layout_of p b) p) zero (ask_row row.BeginEnd (part_done (layout_of p b) (last_part (layout_of p b) p) zero Done)))

    pub main_ok : (K : List Label) (l : Locals) (σ : State) → Starts p deepest [] [] b M n 0 K l σ →
        Arrives (machine p deepest [] []) M main_work σ.turns (at [] [] K (laid b l) [] main_code (beside_state p deepest [] [] σ)) (λ u. On p deepest b M n Done K) (Left p deepest b M n zero K) (main_meant σ)
    main_ok K l σ s =
        let mach = machine p deepest [] [] in
        let w2 = steps_work p.end + (part_work p deepest b M n + 3) in
        let w1 = (steps_work p.begin + 17) + (part_work p deepest b M n + 3) in
        let Q = Left p deepest b M n zero K in
        let last = part_done (layout_of p b) (last_part (layout_of p b) p) zero Done in
        let k1 = part_done (layout_of p b) (first_part (layout_of p b) p) zero (ask_row row.BeginEnd last) in
        then_on mach M first_work (w1 + (1 + w2)) main_work σ.turns _ (λ u. On p deepest b M n k1 K) (λ u. On p deepest b M n Done K) Q (first_assigned n σ) _ (omega arith) (start.made k1 K l σ s)
        (λ u τ c le h.
        then_on mach M w1 (1 + w2) (w1 + (1 + w2)) τ.turns c (λ u. On p deepest b M n (ask_row row.BeginEnd last) K) (λ u. On p deepest b M n Done K) Q (part (noted_done deepest.notes p b n p.begin (begin_rest p b) >> records_meant) τ) _ (omega arith)
        (first mach M 0 w1 w1 τ.turns c _ (λ u. On p deepest b M n (ask_row row.BeginEnd last) K) Q (part (noted_done deepest.notes p b n p.begin (begin_rest p b) >> records_meant) τ) (record { it = h.comes }) (omega arith) (first_ok (ask_row row.BeginEnd last) K h.next τ h.starts))
        (λ u τ1 c1 le1 h1.
        let s1 = h1.starts in
        let τ2 = done_by p deepest [] [] row.BeginEnd tt τ1 in
        first mach M 1 w2 (1 + w2) τ1.turns c1 (at [] [] K (laid b h1.next) [] last (beside_state p deepest [] [] τ2)) (λ u. On p deepest b M n Done K) Q _ (goes_from h1.comes (row_called p deepest [] [] row.BeginEnd tt [] [] τ1 refl refl refl refl refl)) (omega arith)
        (last_ok Done K h1.next τ2
        (record { fit = fit_shared p deepest [] [] 0 0 0 h1.next τ1 τ2.shared (calm_after p row.BeginEnd tt τ1.shared refl s1.fit.sound.calm) s1.fit; walked = s1.walked; walks = s1.walks; loops = s1.loops; turns = s1.turns; parameters = s1.parameters }))))
