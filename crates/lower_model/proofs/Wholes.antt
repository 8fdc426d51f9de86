-- Whole runs, from where the machine begins: the beginning of `main`, a job's fault, the names, and all that comes after them.
use Rattle.std.proofs.Common.{◌≡◌, inl, ℕ, zero, suc, ◌+◌, ◌≤◌, true, false, List, [], ◌∷◌, length, Some, None, Option, pos, refl, sym, ap, ◌∙◌, subst, arith}
use Rattle.awk_values.specs.declared.fault.Fault.{Fault}
use Rattle.sem_primitives.specs.Jobs.{fault_of_job}
use Rattle.sem_primitives.specs.Numbers.{Number}
use Rattle.sem_primitives.specs.declared.table.Primitive.TheVariants as row
use Rattle.wasm_types.specs.Syntax.{Instructions, Done}
use Rattle.wasm_store.specs.declared.word.Word.TheVariants.{I64}
use Rattle.mid_program.specs.Mid.{Kind, Boxed, Unboxed, ArrayKind, Program}
use Rattle.sem_scripts.specs.ScriptRun.{Setting, unless}
use Rattle.sem_scripts.specs.ScriptState.{State, Faulted, Execution, Stops, Gives}
use Rattle.mid_program.specs.Sorted.{are_lenders, kinds_of, all_differ, announced_names}
use Rattle.lower_model.specs.Cells.{Cell, Bits, is_owned, ended_name}
use Rattle.lower_model.specs.Functions.{layout_of, main_bases, main_callee}
use Rattle.lower_model.specs.Machine.{Notes, Label, at, label}
use Rattle.lower_model.specs.Places.{Bases}
use Rattle.lower_model.specs.Runs.{begun, first_globals, host_at_start}
use Rattle.lower_model.specs.Small.{ask_row, kept_number, least}
use Rattle.lower_model.specs.Statements.{block, started, part_done, first_part, last_part}
use Rattle.lower_model.specs.Emission.{asked}
use Rattle.host_imports.specs.declared.import.Import.TheVariants.{OfPrimitive}
use Rattle.lower_model.proofs.Observer.{watched}
use Rattle.lower_model.proofs.Runs.{Goes, goes_to, goes_from, then_goes, by_steps, first, within, faulted, Arrives}
use Rattle.lower_model.proofs.Regions.{upd_all}
use Rattle.lower_model.proofs.Globals.{placed}
use Rattle.lower_model.proofs.GlobalSteps.{storing}
use Rattle.lower_model.proofs.Locals.{Locals, Answer, Number as NumberAt, with_at, laid}
use Rattle.lower_model.proofs.Steps.{empty, set_ok, unanswered}
use Rattle.lower_model.proofs.State.{host_of}
use Rattle.lower_model.proofs.Relation.{Loose}
use Rattle.lower_model.proofs.Pieces.{number_kept, number_failed}
use Rattle.lower_model.proofs.Calls.{called}
use Rattle.lower_model.proofs.Conversions.{same_state}
use Rattle.lower_model.proofs.Answers.{machine, beside_state}
use Rattle.lower_model.proofs.StatementForms.{Starts}
use Rattle.lower_model.proofs.Announcing.{tell_work, make_work}
use Rattle.lower_model.proofs.Tidy.{placed_fine}
use Rattle.lower_model.proofs.Exits.{begin_work, begin_ok}
use Rattle.lower_model.proofs.Functions.{entry, laid_entry, laid_begun}
use Rattle.lower_model.proofs.Functions
use Rattle.lower_model.proofs.Beginnings.{first_cells, first_placed, begins, globals_then, naming, named_meant, named_ok, values_many}
use Rattle.lower_model.proofs.Endings.{main_exit, main_exit_work, main_ends_by, EndsWell}

ended_empty : (k : Kind) → ended_name k empty ≡ true
ended_empty Boxed = refl
ended_empty Unboxed = refl
ended_empty ArrayKind = refl

module _ (p : Program) (notes : Notes) (s : Setting) (M turns : ℕ) (differ : all_differ (announced_names p) ≡ true) (lend : are_lenders (kinds_of p.globals) p.lenders ≡ true) (one : suc zero ≤ (main_bases p).temporaries) where
  abbrev bases : Bases
  bases = main_bases p

  abbrev exit : List Label
  exit = label [] None (main_exit p (watched notes s) (main_bases p)) ∷ []

  abbrev globals_first : List Cell
  globals_first = placed p.ranges (length (kinds_of p.globals)) first_cells

  abbrev state_first : State
  state_first = begins p notes s (main_bases p) turns differ

  -- `main` begins, and is at a piece of code within its exit's block
  main_begins : (k : Instructions) → Goes (machine p (watched notes s) [] []) 1 (at [] [] [] (laid (main_bases p) (Functions.begun [])) [] (block k (main_exit p (watched notes s) (main_bases p))) (storing globals_first (host_at_start s))) (at [] [] exit (laid (main_bases p) (Functions.begun [])) [] k (storing globals_first (host_at_start s)))
  main_begins k = by_steps 1 refl

  -- locals once a number was kept
  abbrev numbered : ℕ → Locals
  numbered m = with_at (Functions.begun []) (NumberAt zero) (Bits (I64 m))

  numbered_loose : (m : ℕ) → Loose p (watched notes s) [] [] (numbered m)
  numbered_loose m = record { params = λ i k e. cc; hands = λ x. inl refl; numbers = upd_all (λ y d. is_owned d ≡ false) (Functions.begun []).number zero (Bits (I64 m)) refl (λ y ne. refl); walks = λ x. inl refl; yards = λ x. inl refl }

  -- a job with a fault ends at once
  job_faulted : (f : Fault) (k : Instructions) → Arrives (machine p (watched notes s) [] []) M (main_exit_work (main_bases p) + 4) turns
      (at [] [] exit (laid (main_bases p) (Functions.begun [])) [] (started (layout_of p (main_bases p)) k) (storing globals_first (host_of state_first (Some f)))) (λ u σ. EndsWell (Gives u σ)) (λ why σ. EndsWell (Stops why σ)) (Stops (Faulted f) state_first)
  job_faulted f k =
      let mach = machine p (watched notes s) [] [] in
      let b = main_bases p in
      let G = storing globals_first (host_of state_first (Some f)) in
      let e = main_ends_by p (watched notes s) b first_cells (host_of state_first (Some f)) 0 (numbered least) refl (numbered_loose least) refl refl (placed_fine p ended_name first_cells refl refl refl (λ i. refl) (λ i. ended_empty _) (λ i. refl)) in
      faulted mach M {A = Unit {0}} (main_exit_work b + 4) (1 + (3 + e.steps)) _ _ f state_first (λ u σ. EndsWell (Gives u σ)) (λ why σ. EndsWell (Stops why σ))
      (then_goes (called (OfPrimitive row.Pow) (Bits (I64 1) ∷ (Bits (I64 1) ∷ [])) [] G (Some (Bits (I64 least))) (host_of state_first (Some f)) refl refl refl)
      (then_goes (number_failed b (Functions.begun []) zero zero one refl) e.goes)) (let q = e.few in omega (arith, q)) refl

  -- else the first call answers 1
  job_fine : (k : Instructions) → Goes (machine p (watched notes s) [] []) 4 (at [] [] exit (laid (main_bases p) (Functions.begun [])) [] (started (layout_of p (main_bases p)) k) (storing globals_first (host_of state_first None)))
      (at [] [] exit (laid (main_bases p) (numbered 1)) [] k (storing globals_first (host_of state_first None)))
  job_fine k =
      let b = main_bases p in
      let one_number : Number = record { number = pos 1; in_range = tt } in
      let same = ap (λ (τ : State). host_of τ None) (same_state {A = Number} state_first one_number) in
      then_goes (goes_to (called (OfPrimitive row.Pow) (Bits (I64 1) ∷ (Bits (I64 1) ∷ [])) [] (storing globals_first (host_of state_first None)) (Some (Bits (I64 1))) _ refl refl refl)
      (ap (λ o. at [] (Bits (I64 1) ∷ []) exit (laid b (Functions.begun [])) [] (kept_number b true zero zero k) (storing globals_first o)) same))
      (number_kept b (Functions.begun []) zero zero 1 one refl refl)

  -- the code of a script, once its names are there
  abbrev pub script_code : Instructions
  script_code =
      let y = layout_of p (main_bases p) in
      asked y row.StartAssign zero zero (part_done y (first_part y p) zero (ask_row row.BeginEnd (part_done y (last_part y p) zero Done)))

  abbrev named_code : Instructions
  named_code = started (layout_of p (main_bases p)) (naming p notes s (main_bases p) turns differ script_code)

  pub record Begun : Type 0 where
    pub steps : ℕ
    pub few : steps ≤ begin_work (main_bases p) + 1
    pub goes : Goes (machine p (watched notes s) [] []) steps (begun p s) (at [] [] exit (laid (main_bases p) (Functions.begun [])) [] named_code (storing globals_first (host_at_start s)))

  begun_ok : Begun
  begun_ok =
      let b = main_bases p in
      let G = storing globals_first (host_at_start s) in
      let code = block named_code (main_exit p (watched notes s) b) in
      let body = (main_callee p).body in
      let a = begin_ok p (watched notes s) [] [] b [] G (entry []) code refl (λ x. refl) (λ x. refl) (λ x. refl) in
      let e = laid_begun b [] a.next a.params a.answer a.hands a.numbers a.iterators a.arrays in
      record {
        steps = 1 + (a.steps + 1);
        few = let q = a.few in omega (arith, q);
        goes = goes_from (ap (λ L. at [] [] [] L [] body (storing (first_globals p) (host_at_start s))) (laid_entry b [] refl) ∙ ap (λ g. at [] [] [] (laid b (entry [])) [] body (storing g (host_at_start s))) (first_placed p))
            (then_goes (set_ok b (entry []) Answer unanswered tt refl) (then_goes (goes_to a.goes (ap (λ L. at [] [] [] L [] code G) e)) (main_begins named_code)));
      }

  -- a run shows as the script's does, if what comes after the names does
  module _ (w : ℕ) (meant : Execution (Unit {0}))
      (rest : (l : Locals) (σ : State) → Starts p (watched notes s) [] [] (main_bases p) M turns 0 exit l σ → Arrives (machine p (watched notes s) [] []) M w σ.turns (at [] [] exit (laid (main_bases p) l) [] script_code (beside_state p (watched notes s) [] [] σ)) (λ u τ. EndsWell (Gives u τ)) (λ why τ. EndsWell (Stops why τ)) (meant σ)) where
    abbrev named_work : ℕ
    named_work = tell_work (globals_then p notes s (main_bases p) turns differ) + make_work (kinds_of p.globals)

    abbrev pub whole_work : ℕ
    whole_work = (begin_work (main_bases p) + 1) + ((main_exit_work (main_bases p) + 4) + (4 + (named_work + w)))

    by_job : (fault : Option Fault) → Arrives (machine p (watched notes s) [] []) M ((main_exit_work (main_bases p) + 4) + (4 + (named_work + w))) turns
        (at [] [] exit (laid (main_bases p) (Functions.begun [])) [] named_code (storing globals_first (host_of state_first fault))) (λ u τ. EndsWell (Gives u τ)) (λ why τ. EndsWell (Stops why τ)) (unless fault (named_meant p notes s (main_bases p) turns differ meant) state_first)
    by_job (Some f) = within (machine p (watched notes s) [] []) M {A = Unit {0}} (main_exit_work (main_bases p) + 4) _ turns _ (λ u τ. EndsWell (Gives u τ)) (λ why τ. EndsWell (Stops why τ)) (Stops (Faulted f) state_first) (omega arith) (job_faulted f (naming p notes s (main_bases p) turns differ script_code))
    by_job None =
        let b = main_bases p in
        let mach = machine p (watched notes s) [] [] in
        let h = named_ok p notes s b turns differ exit (laid b (numbered 1)) script_code in
        let σ1 : State = record state_first { shared = h.last } in
        let many = values_many p notes s b turns differ in
        subst (λ o. Arrives mach M ((main_exit_work b + 4) + (4 + (named_work + w))) turns (at [] [] exit (laid b (Functions.begun [])) [] named_code (storing globals_first (host_of state_first None))) (λ u τ. EndsWell (Gives u τ)) (λ why τ. EndsWell (Stops why τ)) o) (sym (h.means meant))
        (first mach M (4 + h.steps) w ((main_exit_work b + 4) + (4 + (named_work + w))) turns _ (at [] [] exit (laid b (numbered 1)) [] script_code (beside_state p (watched notes s) [] [] σ1)) (λ u τ. EndsWell (Gives u τ)) (λ why τ. EndsWell (Stops why τ)) (meant σ1)
        (then_goes (job_fine (naming p notes s b turns differ script_code)) h.goes) (let q = h.few in omega (arith, q))
        (rest (numbered 1) σ1 (record {
          fit = record {
            params = λ i k e. cc;
            size = refl;
            answer = refl;
            hands = λ x. inl refl;
            numbers = (numbered_loose 1).numbers;
            free = λ x le. refl;
            walks = λ x. inl refl;
            still = λ x le. refl;
            yards = λ x. inl refl;
            spare = λ x le. refl;
            sound = record { room = omega arith; names = many; calm = h.calm; lend = lend };
          };
          walked = λ x lt. absurd (omega (arith, lt));
          walks = omega arith;
          loops = refl;
          turns = omega arith;
          parameters = refl;
        })))

    pub whole_ok : Arrives (machine p (watched notes s) [] []) M whole_work turns (begun p s) (λ u τ. EndsWell (Gives u τ)) (λ why τ. EndsWell (Stops why τ)) (unless (fault_of_job s.job) (named_meant p notes s (main_bases p) turns differ meant) state_first)
    whole_ok =
        let g = begun_ok in
        first (machine p (watched notes s) [] []) M g.steps ((main_exit_work (main_bases p) + 4) + (4 + (named_work + w))) whole_work turns _ _ (λ u τ. EndsWell (Gives u τ)) (λ why τ. EndsWell (Stops why τ)) _ g.goes (let q = g.few in omega (arith, q)) (by_job (fault_of_job s.job))
